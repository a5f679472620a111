-- Tables that have cells one after the other: a table whose parts are such is, where it has no sample twice; and the rows of a cell are then consecutive.
use Prim.Native.Nat.{ℕ, ◌+◌, ◌-◌, ◌≤◌, ◌<◌}
use mathlib.Core.Path.{◌≡◌, subst}
use mathlib.Core.List.{List, [], ◌++◌}
use lib.ListN.{length, take, drop}
use native.Mathlib.Omega.{arith}
use native.Mathlib.Decide.{dec_lt, ℕ_discrete}
use Rattle.tree.specs.Rows.{Row}
use Rattle.laws.specs.Geometry.{in_row, copies}
use Rattle.laws.specs.CellOrder.{RowIn, Begun, Full, RowAt, CellByCell}
use Rattle.laws.proofs.Joins.{Joins}
use Rattle.laws.proofs.Numbered.{at_front, at_past, at_known}
use Rattle.laws.proofs.Copies.{own_corner, copies_append, copies-take, copies_zero, copies_none, copies_parts, row_taken, row_dropped, Once, once_first, once_rest}

-- what is two things is known where both are
both_known : {A B R : Type 0} → (A → B → R) → (R → A) → (R → B) → Dec A → Dec B → Dec R
both_known both first second (yes a) (yes b) = yes (both a b)
both_known both first second (no a) b = no (λ r. a (first r))
both_known both first second (yes a) (no b) = no (λ r. b (second r))

module _ (width height side : ℕ) where
  -- ---- `complete` of `CellByCell`, as far as the rows before a number go

  pub record Filled (rows : List Row) : Type 0 where
    pub all : (across down next : ℕ) → ¬ RowAt (RowIn side across down) rows next → Begun side across down (take next rows)
        → Full side width height across down (take next rows)

  filled_none : Filled []
  filled_none = record { all = λ across down next out b. let e = copies_none b.px b.py next in let s = b.there in absurd (omega arith) }

  -- of two tables, one after the other: the sample is in the first one, which then has the whole cell, or in the other
  module _ (first rest : List Row) (o : Once width height (first ++ rest)) (f : Filled first) (g : Filled rest) where
    module _ (across down next : ℕ) (out : ¬ RowAt (RowIn side across down) (first ++ rest) next) where
      abbrev after : ℕ
      after = next - length first

      in_first : Begun side across down (take next first) → Full side width height across down (take next first)
      in_first b = f.all across down next (λ r. out (at_front first rest next r)) b

      in_rest : Begun side across down (take after rest) → Full side width height across down (take after rest)
      in_rest b = go (dec_lt (length first) next)
        where
          go : Dec (length first < next) → Full side width height across down (take after rest)
          go (yes h) =
              let e : length first + after ≡ next = omega arith in
              g.all across down after (λ r. out (subst (λ i. RowAt (RowIn side across down) (first ++ rest) i) e (at_past first rest after r))) b
          go (no h) =
              let e : after ≡ 0 = omega arith in
              let z : copies b.px b.py (take after rest) ≡ 0 = rw e (copies_zero b.px b.py rest) in
              let s = b.there in
              absurd (omega arith)

      at_most : (qx qy : ℕ) → copies qx qy (take next first) + copies qx qy (take after rest) ≤ 1
      at_most qx qy =
          let a = copies_append qx qy first rest in
          let b = copies_parts qx qy next first in
          let c = copies_parts qx qy after rest in
          let m = o.most qx qy in
          omega arith

      in_either : Begun side across down (take next (first ++ rest)) → Full side width height across down (take next (first ++ rest))
      in_either b qx qy q wide high = go (dec_lt 0 (copies b.px b.py (take next first)))
        where
          go : Dec (0 < copies b.px b.py (take next first)) → copies qx qy (take next (first ++ rest)) ≡ 1
          go (yes h) =
              let x = in_first (record { px = b.px; py = b.py; sample = b.sample; there = h }) qx qy q wide high in
              let e = copies-take qx qy next first rest in
              let m = at_most qx qy in
              omega arith
          go (no h) =
              let a = copies-take b.px b.py next first rest in
              let s = b.there in
              let x = in_rest (record { px = b.px; py = b.py; sample = b.sample; there = omega arith }) qx qy q wide high in
              let e = copies-take qx qy next first rest in
              let m = at_most qx qy in
              omega arith

    filled_join : Filled (first ++ rest)
    filled_join = record { all = in_either }

  -- so joined tables are such where their parts are, in this form: with the premise that no sample is there twice
  pub record FilledIfOnce (rows : List Row) : Type 0 where
    pub where_once : Once width height rows → Filled rows

  pub filled_joins : Joins FilledIfOnce
  filled_joins = record {
    empty = record { where_once = λ o. filled_none };
    join = λ {first} {rest} f g. record {
      where_once = λ o. filled_join first rest o (f.where_once (once_first first rest o)) (g.where_once (once_rest first rest o));
    };
  }

  -- ---- `consecutive`: a row of the cell after a row that is not of it would have a sample of the cell again

  row_in : (across down : ℕ) (r : Row) → Dec (RowIn side across down r)
  row_in across down r =
      both_known (λ one corner. record { one = one; corner = corner }) (λ i. i.one) (λ i. i.corner)
      (both_known (λ a b. record { across = a; down = b }) (λ i. i.across) (λ i. i.down) (ℕ_discrete _ _) (ℕ_discrete _ _))
      (both_known (λ a b. (a, b)) (λ i. i.0) (λ i. i.1) (ℕ_discrete _ _) (ℕ_discrete _ _))

  module _ (rows : List Row) (o : Once width height rows) (f : Filled rows) where
    none_later : (across down next : ℕ) → Full side width height across down (take next rows) → ¬ Begun side across down (drop next rows)
    none_later across down next full b =
        let s = b.there in
        let e = copies_parts b.px b.py next rows in
        let i = o.inside b.px b.py (omega arith) in
        let a = full b.px b.py b.sample (omega arith) (omega arith) in
        let m = o.most b.px b.py in
        omega arith

    -- a row of the cell that is one of some rows: they have its corner
    begun_by : {across down i : ℕ} (x : RowAt (RowIn side across down) rows i) (some : List Row)
        → in_row x.row x.row.x x.row.y ≤ copies x.row.x x.row.y some → Begun side across down some
    begun_by x some h = let e = own_corner x.row in record { px = x.row.x; py = x.row.y; sample = x.has.corner; there = omega arith }

    between : (across down i j k : ℕ) → i < j → j < k → RowAt (RowIn side across down) rows i
        → RowAt (RowIn side across down) rows k → RowAt (RowIn side across down) rows j
    between across down i j k h l x y = go (at_known (row_in across down) rows j)
      where
        go : Dec (RowAt (RowIn side across down) rows j) → RowAt (RowIn side across down) rows j
        go (yes r) = r
        go (no out) =
            let a = begun_by x (take j rows) (row_taken _ _ rows i j x.is h) in
            let b = begun_by y (drop j rows) (row_dropped _ _ rows k j y.is (omega arith)) in
            absurd (none_later across down j (f.all across down j out a) b)

  pub cell_by_cell : {rows : List Row} → Once width height rows → FilledIfOnce rows → CellByCell side width height rows
  cell_by_cell {rows} o f =
      let g = f.where_once o in
      record {
        consecutive = between rows o g;
        complete = λ across down next out b. let full = g.all across down next out b in (full, none_later rows o g across down next full);
      }
