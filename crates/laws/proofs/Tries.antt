-- Decisions that are tried at a node, one after the other: the best of them, one alone, and a leaf.
use Prim.Native.Nat.{suc, ◌≤◌}
use mathlib.Core.Path.{◌≡◌, refl, ap, ◌∙◌}
use mathlib.Core.Bool.{Bool, true, false, cond, ◌&&◌}
use mathlib.Core.List.{List, [], ◌∷◌}
use lib.ListN.{length}
use native.Mathlib.Omega.{arith}
use Rattle.tree.specs.declared.Node.{Node}
use Rattle.tree.specs.declared.Decision.{Decision}
use Rattle.tree.specs.declared.Decision.TheVariants.{Leaf}
use Rattle.tree.specs.Kind.{Kind}
use Rattle.tree.specs.Splits.{rights_of, allows}
use Rattle.tree.specs.Children.{shares, children_from, children}
use Rattle.tree.specs.Rows.{Row, row_of, own_rows}
use Rattle.tree.specs.Back.{is_same_row}
use Rattle.tree.specs.Search.{Fit, whole, stuck, fit_then, better, fit_rows, fit_all, fit_by, fit_any}
use Rattle.laws.proofs.Search.{fit_open, fit_closed}

-- no more rows are left than there were
abbrev pub Some : List Row → Fit → Type 0
Some rows (whole rest) = Unit {0}
Some rows (stuck left) = left ≤ length rows

module _ (k : Kind) (n : Node) (go : Node → List Row → Fit) (rows : List Row) where
  some_any : (ds : List Decision) → Some rows (fit_any k n go rows ds)
  unfolding fit_any better
  some_any [] = omega arith
  some_any (d ∷ ds) = both (fit_by k n go rows d) (fit_any k n go rows ds) (some_any ds)
    where
      both : (f g : Fit) → Some rows g → Some rows (better f g)
      both (whole rest) g s = tt
      both (stuck left) (whole rest) s = tt
      both (stuck left) (stuck less) s = omega arith

  -- one that takes nothing may be left out
  pub without : (d : Decision) (ds : List Decision) → fit_by k n go rows d ≡ stuck (length rows) → fit_any k n go rows (d ∷ ds) ≡ fit_any k n go rows ds
  unfolding fit_any better
  without d ds e = rw e (none (fit_any k n go rows ds) (some_any ds))
    where
      none : (f : Fit) → Some rows f → better (stuck (length rows)) f ≡ f
      none (whole rest) s = refl
      none (stuck left) s = ap stuck (omega arith)

  -- one decision, and then the others
  pub any_join : (d : Decision) (ds : List Decision) → fit_any k n go rows (d ∷ ds) ≡ better (fit_any k n go rows (d ∷ [])) (fit_any k n go rows ds)
  unfolding fit_any better
  any_join d ds = join (fit_by k n go rows d) (fit_any k n go rows ds) (some_any ds)
    where
      join : (f g : Fit) → Some rows g → better f g ≡ better (better f (stuck (length rows))) g
      join (whole rest) g s = refl
      join (stuck left) (whole rest) s = refl
      join (stuck left) (stuck less) s = ap stuck (omega arith)

  pub any_alone : (d : Decision) → Some rows (fit_by k n go rows d) → fit_any k n go rows (d ∷ []) ≡ fit_by k n go rows d
  unfolding fit_any better
  any_alone d s = alone (fit_by k n go rows d) s
    where
      alone : (f : Fit) → Some rows f → better f (stuck (length rows)) ≡ f
      alone (whole rest) s = refl
      alone (stuck left) s = ap stuck (omega arith)

-- a leaf takes its own row
pub any_leaf : (k : Kind) (n : Node) (go : Node → List Row → Fit) (r : Row) (rows : List Row)
    → fit_any k n go (r ∷ rows) (Leaf ∷ []) ≡ cond (allows (rights_of k n) Leaf && is_same_row r (row_of n)) (whole rows) (stuck (suc (length rows)))
unfolding own_rows children children_from shares fit_then fit_rows fit_all
any_leaf k n go r rows = any_alone k n go (r ∷ rows) Leaf (taken (allows (rights_of k n) Leaf) refl).1 ∙ (taken (allows (rights_of k n) Leaf) refl).0
  where
    own : (s : Bool) → fit_then (cond s (whole rows) (stuck (suc (length rows)))) (λ rest. whole rest) ≡ cond s (whole rows) (stuck (suc (length rows)))
    own true = refl
    own false = refl

    some : (s : Bool) → Some (r ∷ rows) (cond s (whole rows) (stuck (suc (length rows))))
    some true = tt
    some false = omega arith

    taken : (b : Bool) → allows (rights_of k n) Leaf ≡ b
        → (fit_by k n go (r ∷ rows) Leaf ≡ cond (b && is_same_row r (row_of n)) (whole rows) (stuck (suc (length rows)))) × Some (r ∷ rows) (fit_by k n go (r ∷ rows) Leaf)
    taken true ok = let e = fit_open k go n (r ∷ rows) Leaf ok ∙ own (is_same_row r (row_of n)) in (e, rw e (some (is_same_row r (row_of n))))
    taken false shut = let e = fit_closed k go n (r ∷ rows) Leaf shut in (e, rw e (omega arith))
