-- How many rows of a table contain a sample, by the parts of the table and by single rows, and which row does.
use Prim.Native.Nat.{ℕ, zero, suc, ◌+◌, ◌-◌, ◌^◌, ◌≤◌, ◌<◌}
use mathlib.Core.Path.{◌≡◌, refl, sym, ap, ◌∙◌}
use mathlib.Core.List.{List, [], ◌∷◌, ◌++◌}
use mathlib.Core.Option.{some}
use lib.ListN.{length, get_elem?, take, drop, take-append-drop}
use lib.Pow.{pow_pos}
use native.Mathlib.Nat.{zero-add}
use native.Mathlib.Omega.{arith}
use native.Mathlib.Decide.{dec_lt}
use Rattle.tree.specs.Rows.{Row}
use Rattle.laws.specs.Geometry.{in_row, copies}
use Rattle.laws.specs.CellOrder.{RowAt}
use Rattle.laws.proofs.Tests.{never}
use Rattle.laws.proofs.Cover.{span_in_lem}

-- ---- one row

pub own_corner : (r : Row) → in_row r r.x r.y ≡ 1
own_corner r =
    let w = pow_pos r.ew in
    let h = pow_pos r.eh in
    rw (span_in_lem r.x (2 ^ r.ew) r.x (omega arith) (omega arith), span_in_lem r.y (2 ^ r.eh) r.y (omega arith) (omega arith))

module _ (px py : ℕ) where
  -- ---- two tables, one after the other

  pub copies_append : (first rest : List Row) → copies px py (first ++ rest) ≡ copies px py first + copies px py rest
  unfolding copies
  copies_append [] rest = omega arith
  copies_append (r ∷ first) rest = let e = copies_append first rest in omega arith

  pub copies-take : (n : ℕ) (first rest : List Row)
      → copies px py (take n (first ++ rest)) ≡ copies px py (take n first) + copies px py (take (n - length first) rest)
  unfolding copies
  copies-take zero first rest = let e : 0 - length first ≡ 0 = omega arith in rw e
  copies-take (suc n) [] rest = let e : suc n - 0 ≡ suc n = omega arith in rw e (sym (zero-add (copies px py (take (suc n) rest))))
  copies-take (suc n) (r ∷ first) rest =
      let e : suc n - suc (length first) ≡ n - length first = omega arith in
      rw (e, copies-take n first rest) (omega arith)

  -- ---- the rows before a number, and those from it on

  pub copies_zero : (rows : List Row) → copies px py (take 0 rows) ≡ 0
  unfolding copies
  copies_zero rows = refl

  pub copies_none : (n : ℕ) → copies px py (take n []) ≡ 0
  unfolding copies
  copies_none zero = refl
  copies_none (suc n) = refl

  pub copies_parts : (n : ℕ) (rows : List Row) → copies px py (take n rows) + copies px py (drop n rows) ≡ copies px py rows
  copies_parts n rows = sym (copies_append (take n rows) (drop n rows)) ∙ ap (copies px py) (take-append-drop n rows)

  pub row_taken : {r : Row} (rows : List Row) (i n : ℕ) → get_elem? rows i ≡ some r → i < n → in_row r px py ≤ copies px py (take n rows)
  unfolding copies
  row_taken [] i n e h = never (cc)
  row_taken (s ∷ rows) i zero e h = absurd (omega arith)
  row_taken {r} (s ∷ rows) zero (suc n) e h = let same : s ≡ r = cc in rw same (omega arith)
  row_taken (s ∷ rows) (suc i) (suc n) e h = let k = row_taken rows i n e (omega arith) in omega arith

  pub row_dropped : {r : Row} (rows : List Row) (i n : ℕ) → get_elem? rows i ≡ some r → n ≤ i → in_row r px py ≤ copies px py (drop n rows)
  unfolding copies
  row_dropped [] i n e h = never (cc)
  row_dropped {r} (s ∷ rows) zero zero e h = let same : s ≡ r = cc in rw same (omega arith)
  row_dropped (s ∷ rows) (suc i) zero e h = let k = row_dropped rows i 0 e (omega arith) in omega arith
  row_dropped (s ∷ rows) zero (suc n) e h = absurd (omega arith)
  row_dropped (s ∷ rows) (suc i) (suc n) e h = row_dropped rows i n e (omega arith)

  -- ---- the row that has the sample

  pub some_row_lem : (rows : List Row) → 0 < copies px py rows → (i : ℕ) × RowAt (λ r. 0 < in_row r px py) rows i
  unfolding copies
  some_row_lem [] h = absurd (omega arith)
  some_row_lem (r ∷ rows) h = go (dec_lt 0 (in_row r px py)) (λ none. some_row_lem rows (omega arith))
    where
      go : Dec (0 < in_row r px py) → (¬ (0 < in_row r px py) → (i : ℕ) × RowAt (λ r. 0 < in_row r px py) rows i) → (i : ℕ) × RowAt (λ r. 0 < in_row r px py) (r ∷ rows) i
      go (yes here) rest = (0, record { row = r; is = refl; has = here })
      go (no none) rest = let f = rest none in (suc f.0, record { row = f.1.row; is = f.1.is; has = f.1.has })

  -- in a table that has it once, there is one such row
  module _ {r s : Row} (rows : List Row) (once : copies px py rows ≤ 1) (here : 0 < in_row r px py) (there : 0 < in_row s px py) where
    not_before : (i j : ℕ) → get_elem? rows i ≡ some r → get_elem? rows j ≡ some s → ¬ (i < j) × ¬ (j < i)
    not_before i j e f = (
      λ h. let a = row_taken rows i j e h in let b = row_dropped rows j j f (omega arith) in let c = copies_parts j rows in omega arith,
      λ h. let a = row_taken rows j i f h in let b = row_dropped rows i i e (omega arith) in let c = copies_parts i rows in omega arith,
    )

    pub one_row : (i j : ℕ) → get_elem? rows i ≡ some r → get_elem? rows j ≡ some s → r ≡ s
    one_row i j e f =
        let n = not_before i j e f in
        let same : i ≡ j = go (dec_lt i j) (dec_lt j i) n.0 n.1 in
        let g = rw same at e in
        cc
      where
        go : Dec (i < j) → Dec (j < i) → ¬ (i < j) → ¬ (j < i) → i ≡ j
        go (yes h) _ a b = absurd (a h)
        go (no h) (yes k) a b = absurd (b k)
        go (no h) (no k) a b = omega arith

-- ---- tables that have each sample of a picture once at most, and no other

pub record Once (width height : ℕ) (rows : List Row) : Type 0 where
  pub most : (px py : ℕ) → copies px py rows ≤ 1
  pub inside : (px py : ℕ) → 0 < copies px py rows → (px < width) × (py < height)

module _ {width height : ℕ} {rows part : List Row} (less : (px py : ℕ) → copies px py part ≤ copies px py rows) where
  once_part : Once width height rows → Once width height part
  once_part o = record {
    most = λ px py. let l = less px py in let m = o.most px py in omega arith;
    inside = λ px py h. let l = less px py in o.inside px py (omega arith);
  }

module _ {width height : ℕ} (first rest : List Row) where
  pub once_first : Once width height (first ++ rest) → Once width height first
  once_first = once_part (λ px py. let e = copies_append px py first rest in omega arith)

  pub once_rest : Once width height (first ++ rest) → Once width height rest
  once_rest = once_part (λ px py. let e = copies_append px py first rest in omega arith)
