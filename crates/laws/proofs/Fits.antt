-- What the result of a search means, over any things that have tables; and the results of one search after the other,
-- and of one beside the other.
use Prim.Native.Nat.{ℕ, suc, ◌+◌, ◌-◌, ◌≤◌, ◌<◌, min}
use mathlib.Core.Path.{◌≡◌, refl, sym, ap, subst, ◌∙◌}
use mathlib.Core.Bool.{Bool, true, false, cond}
use mathlib.Core.List.{List, [], ◌∷◌, ◌++◌, append_assoc, append_cancel_left}
use mathlib.Core.Logic.{◌⊎◌, inl, inr}
use lib.ListN.{length, length-append}
use native.Mathlib.Omega.{arith}
use native.Mathlib.Decide.{dec_lt}
use Rattle.sides.proofs.Bools.{clash}
use Rattle.tree.specs.Rows.{Row}
use Rattle.tree.specs.Back.{is_same_row}
use Rattle.tree.specs.Search.{Fit, whole, stuck, fit_then, better, fit_rows}
use Rattle.laws.proofs.Tests.{never}
use Rattle.laws.proofs.SameRow.{same_self, same_row}
use Rattle.laws.proofs.Agrees.{Agree, start, more, agree_short, agree_one, agree_longer, agree_after, Past, agree_past, agree_front}

-- ---- the meaning

module _ {X : Type 0} (table : X → List Row) (rows : List Row) where
  -- No table begins the rows. One agrees with them until so many are left, if any agrees at all, and none goes farther.
  pub record Stuck (left : ℕ) : Type 0 where
    pub within : left ≤ length rows
    pub far : left < length rows → (x : X) × Agree (length rows - left) rows (table x)
    pub most : (x : X) {p : ℕ} → Agree p rows (table x) → p + left ≤ length rows
    pub none : (x : X) (rest : List Row) → ¬ (rows ≡ table x ++ rest)

  abbrev pub Means : Fit → Type 0
  Means (whole rest) = (x : X) × (rows ≡ table x ++ rest)
  Means (stuck left) = Stuck left

  -- where no table begins with the next row, nothing is taken
  pub none_starts : ((x : X) → (r : Row) × (more : List Row) × (table x ≡ r ∷ more)) → ((x : X) → ¬ (Agree 1 rows (table x))) → (f : Fit) → Means f → f ≡ stuck (length rows)
  none_starts first other (whole rest) m =
      let t = first m.0 in
      absurd (other m.0 (rw (m.1, t.2) (more refl start)))
  none_starts first other (stuck left) m = go (dec_lt left (length rows))
    where
      go : Dec (left < length rows) → stuck left ≡ stuck (length rows)
      go (yes l) =
          let h = m.far l in
          let e : length rows - left ≡ suc (length rows - left - 1) = omega arith in
          absurd (other h.0 (agree_one (rw e at h.1)))
      go (no l) = let h = m.within in ap stuck (omega arith)

-- ---- the same tables of other things

pub means_along : {X Z : Type 0} (table : X → List Row) (other : Z → List Row) (to : Z → X) → ((z : Z) → table (to z) ≡ other z) → (from : X → Z) → ((x : X) → other (from x) ≡ table x)
    → (rows : List Row) (f : Fit) → Means other rows f → Means table rows f
means_along table other to e from i rows (whole rest) m = (to m.0, m.1 ∙ ap (λ t. t ++ rest) (sym (e m.0)))
means_along table other to e from i rows (stuck left) m = record {
  within = m.within;
  far = λ l. let h = m.far l in (to h.0, rw (e h.0) h.1);
  most = λ x a. m.most (from x) (rw (i x) a);
  none = λ x rest b. m.none (from x) rest (rw (i x) b);
}

-- ---- one after the other

module _ {X Y : Type 0} (f : X → List Row) (g : Y → List Row) (apart : (x u : X) (a b : List Row) → f x ++ a ≡ f u ++ b → a ≡ b) (some : Y) where
  abbrev pub in_turn : X × Y → List Row
  in_turn z = f z.0 ++ g z.1

  after_whole : (rows rest : List Row) (x : X) → rows ≡ f x ++ rest → (next : Fit) → Means g rest next → Means in_turn rows next
  after_whole rows rest x e (whole left) m = ((x, m.0), e ∙ rw m.1 (sym (append_assoc (f x) (g m.0) left)))
  after_whole rows rest x e (stuck left) m =
      let n : length rows ≡ length (f x) + length rest = ap length e ∙ length-append (f x) rest in
      let w = m.within in
      record {
        within = omega arith;
        far = λ l. go n (dec_lt left (length rest));
        most = λ z a. past n z (agree_past (f x) (rw e at a));
        none = λ z more b. m.none z.1 more (apart x z.0 rest (g z.1 ++ more) (sym e ∙ b ∙ append_assoc (f z.0) (g z.1) more));
      }
    where
      go : length rows ≡ length (f x) + length rest → Dec (left < length rest) → (z : X × Y) × Agree (length rows - left) rows (in_turn z)
      go n (yes l) =
          let h = m.far l in
          let q : length rows - left ≡ length (f x) + (length rest - left) = omega arith in
          ((x, h.0), rw (q, e) (agree_after (f x) h.1))
      go n (no l) =
          let w = m.within in
          let q : length rows - left ≡ length (f x) + 0 = omega arith in
          ((x, some), rw (q, e) (agree_after (f x) start))

      past : length rows ≡ length (f x) + length rest → (z : X × Y) {p : ℕ} → (p ≤ length (f x)) ⊎ Past p (f x) rest (in_turn z) → p + left ≤ length rows
      past n z (inl h) = let w = m.within in omega arith
      past n z (inr h) =
          let b = apart z.0 x (g z.1) h.rest h.is in
          let c = m.most z.1 {p = h.beyond} (rw b h.agree) in
          let s = h.sum in
          omega arith

  pub then_means : (rows : List Row) (first : Fit) → Means f rows first → (next : List Row → Fit) → ((rest : List Row) → Means g rest (next rest)) → Means in_turn rows (fit_then first next)
  unfolding fit_then
  then_means rows (whole rest) m next ms = after_whole rows rest m.0 m.1 (next rest) (ms rest)
  then_means rows (stuck left) m next ms = record {
    within = m.within;
    far = λ l. let h = m.far l in ((h.0, some), agree_longer h.1 (g some));
    most = λ z a. go z (agree_front (f z.0) (g z.1) a);
    none = λ z rest e. m.none z.0 (g z.1 ++ rest) (e ∙ append_assoc (f z.0) (g z.1) rest);
  }
    where
      go : (z : X × Y) {p : ℕ} → Agree p rows (f z.0) ⊎ ((rest : List Row) × (rows ≡ f z.0 ++ rest)) → p + left ≤ length rows
      go z (inl a) = m.most z.0 a
      go z (inr h) = absurd (m.none z.0 h.0 h.1)

-- ---- one beside the other

module _ {X Y : Type 0} (f : X → List Row) (g : Y → List Row) where
  abbrev pub either : X ⊎ Y → List Row
  either (inl x) = f x
  either (inr y) = g y

  pub better_means : (rows : List Row) (a b : Fit) → Means f rows a → Means g rows b → Means either rows (better a b)
  unfolding better
  better_means rows (whole rest) b m i = (inl m.0, m.1)
  better_means rows (stuck left) (whole rest) m i = (inr i.0, i.1)
  better_means rows (stuck left) (stuck less) m i = record {
    within = let h = m.within in omega arith;
    far = λ l. far (dec_lt left less) l;
    most = most;
    none = none;
  }
    where
      far : Dec (left < less) → min left less < length rows → (z : X ⊎ Y) × Agree (length rows - min left less) rows (either z)
      far (yes s) l = let e : min left less ≡ left = omega arith in rw e (let h = m.far (omega arith) in (inl h.0, h.1))
      far (no s) l = let e : min left less ≡ less = omega arith in rw e (let h = i.far (omega arith) in (inr h.0, h.1))

      most : (z : X ⊎ Y) {p : ℕ} → Agree p rows (either z) → p + min left less ≤ length rows
      most (inl x) a = let h = m.most x a in omega arith
      most (inr y) a = let h = i.most y a in omega arith

      none : (z : X ⊎ Y) (rest : List Row) → ¬ (rows ≡ either z ++ rest)
      none (inl x) = m.none x
      none (inr y) = i.none y

-- ---- nothing, and given rows

pub nothing_means : {X : Type 0} (table : X → List Row) → ¬ X → (rows : List Row) → Means table rows (stuck (length rows))
nothing_means table empty rows = record { within = omega arith; far = λ l. absurd (omega arith); most = λ x. absurd (empty x); none = λ x. absurd (empty x) }

module _ {X : Type 0} (x : X) where
  other_row : (o r : Row) (own rows : List Row) → ¬ (r ≡ o) → Stuck (λ (y : X). o ∷ own) (r ∷ rows) (suc (length rows))
  other_row o r own rows other = record { within = omega arith; far = λ l. absurd (omega arith); most = λ y a. go a; none = λ y rest e. other (cc) }
    where
      go : {p : ℕ} → Agree p (r ∷ rows) (o ∷ own) → p + suc (length rows) ≤ suc (length rows)
      go start = omega arith
      go (more e a) = absurd (other e)

  same_first : (o r : Row) (own rows : List Row) → r ≡ o → (f : Fit) → Means (λ (y : X). own) rows f → Means (λ (y : X). o ∷ own) (r ∷ rows) f
  same_first o r own rows e f m =
      means_along (λ (y : X). o ∷ own) (λ (z : X × X). o ∷ own) (λ z. z.0) (λ z. refl) (λ y. (y, y)) (λ y. refl) (r ∷ rows) f
      (after_whole (λ (y : X). o ∷ []) (λ (y : X). own) (λ y u a b. append_cancel_left (o ∷ []) a b) x (r ∷ rows) rows x (rw e) f m)

  pub rows_means : (own rows : List Row) → Means (λ (y : X). own) rows (fit_rows own rows)
  unfolding fit_rows
  rows_means [] rows = (x, refl)
  rows_means (o ∷ own) [] = record { within = omega arith; far = λ l. absurd (omega arith); most = λ y a. let h = agree_short a in omega arith; none = λ y rest e. never (cc) }
  rows_means (o ∷ own) (r ∷ rows) = go (is_same_row r o) refl (rows_means own rows)
    where
      go : (b : Bool) → is_same_row r o ≡ b → Means (λ (y : X). own) rows (fit_rows own rows) → Means (λ (y : X). o ∷ own) (r ∷ rows) (cond b (fit_rows own rows) (stuck (suc (length rows))))
      go true e m = same_first o r own rows (same_row r o e) (fit_rows own rows) m
      go false e m = other_row o r own rows (λ i. clash (subst (λ s. is_same_row r s ≡ true) i (same_self r)) e)
