-- Rows of a table by their numbers.
use Prim.Native.Nat.{ℕ, zero, suc, ◌+◌, ◌<◌}
use mathlib.Core.Path.{◌≡◌, refl, subst}
use mathlib.Core.List.{List, [], ◌∷◌, ◌++◌}
use mathlib.Core.Option.{some}
use lib.ListN.{length, get_elem?}
use native.Mathlib.Nat.{zero-add, suc-add}
use native.Mathlib.Omega.{arith}
use Rattle.tree.specs.Rows.{Row}
use Rattle.laws.specs.Every.{Every, every_none, every_more}
use Rattle.laws.specs.CellOrder.{RowAt}
use Rattle.laws.proofs.Tests.{never}

module _ {P : Row → Type 0} where
  -- with one row more in front, each has the next number
  later : (r : Row) {rows : List Row} {i : ℕ} → RowAt P rows i → RowAt P (r ∷ rows) (suc i)
  later r f = record { row = f.row; is = f.is; has = f.has }

  pub every_at : {rows : List Row} → Every P rows → (i : ℕ) → i < length rows → RowAt P rows i
  every_at every_none i h = absurd (omega arith)
  every_at (every_more {a = r} p ps) zero h = record { row = r; is = refl; has = p }
  every_at (every_more {a = r} p ps) (suc i) h = later r (every_at ps i (omega arith))

  pub every_of : {rows : List Row} → Every P rows → {r : Row} (i : ℕ) → get_elem? rows i ≡ some r → P r
  every_of every_none i e = never (cc)
  every_of (every_more {a = s} p ps) {r} zero e = let same : s ≡ r = cc in subst P same p
  every_of (every_more p ps) (suc i) e = every_of ps i e

  -- in two tables, one after the other
  pub at_front : (first rest : List Row) (i : ℕ) → RowAt P first i → RowAt P (first ++ rest) i
  at_front [] rest i f = let e = f.is in never (cc)
  at_front (r ∷ first) rest zero f = record { row = f.row; is = f.is; has = f.has }
  at_front (r ∷ first) rest (suc i) f = later r (at_front first rest i (record { row = f.row; is = f.is; has = f.has }))

  pub at_past : (first rest : List Row) (i : ℕ) → RowAt P rest i → RowAt P (first ++ rest) (length first + i)
  at_past [] rest i f = rw (zero-add i) f
  at_past (r ∷ first) rest i f = rw (suc-add (length first) i) (later r (at_past first rest i f))

  -- whether a row has a property that can be decided
  pub at_known : ((r : Row) → Dec (P r)) → (rows : List Row) (i : ℕ) → Dec (RowAt P rows i)
  at_known known [] i = no (λ f. let e = f.is in never (cc))
  at_known known (r ∷ rows) zero = go (known r)
    where
      go : Dec (P r) → Dec (RowAt P (r ∷ rows) 0)
      go (yes p) = yes (record { row = r; is = refl; has = p })
      go (no out) = no (λ f. let e = f.is in let same : f.row ≡ r = cc in out (subst P same f.has))
  at_known known (r ∷ rows) (suc i) = go (at_known known rows i)
    where
      go : Dec (RowAt P rows i) → Dec (RowAt P (r ∷ rows) (suc i))
      go (yes f) = yes (later r f)
      go (no out) = no (λ f. out (record { row = f.row; is = f.is; has = f.has }))
