-- A reading refuses with 11 or 12 only: the levels of a walk are never used up, whatever the flags.
use Prim.Native.Nat.{ℕ, zero, suc, ◌+◌, ◌≤◌, ◌<◌}
use mathlib.Core.Path.{◌≡◌, refl}
use mathlib.Core.Bool.{Bool, true, ◌||◌}
use mathlib.Core.List.{List}
use lib.Dec.{eqb}
use borrow.Author.Tests.{eq-eqb}
use native.Mathlib.Omega.{arith}
use native.Mathlib.Decide.{dec_lt}
use Rattle.sides.proofs.Bools.{or_right}
use Rattle.tree.specs.declared.Node.{Node}
use Rattle.tree.specs.declared.Direction.TheVariants.{Vertical}
use Rattle.tree.specs.declared.Decision.{Decision}
use Rattle.tree.specs.Flags.{Choice}
use Rattle.tree.specs.Flags.{Chosen, Refused}
use Rattle.tree.specs.Kind.{Kind}
use Rattle.tree.specs.Splits.{rights_of}
use Rattle.tree.specs.Flags.{decide}
use Rattle.tree.specs.Children.{children, corner_inside}
use Rattle.tree.specs.Rows.{Row}
use Rattle.tree.specs.Run.{End, goes, stops, Run, before, over_all}
use Rattle.tree.specs.Reading.{enter, walk}
use Rattle.laws.specs.Every.{Every}
use Rattle.laws.specs.Proper.{Proper}
use Rattle.laws.specs.Good.{Good}
use Rattle.laws.proofs.Every.{every_map, every_both}
use Rattle.laws.proofs.Flags.{decide_sound}
use Rattle.laws.proofs.Near.{refused_near}
use Rattle.laws.proofs.Multiples.{fold_least}
use Rattle.laws.proofs.Parts.{every_child}
use Rattle.laws.proofs.Runs.{over_end}
use Rattle.laws.proofs.Levels.{child_shorter}
use Rattle.laws.proofs.Edge.{good_kids, no_dead_end}

-- "A present flag lies past the end", "A byte above 1 where a present flag is read"
abbrev pub flag_refusal : ℕ → Bool
flag_refusal a = eqb a 11 || eqb a 12

flag_number : (a : ℕ) → (11 ≤ a) × (a ≤ 12) → flag_refusal a ≡ true
flag_number a h = go (dec_lt a 12)
  where
    go : Dec (a < 12) → flag_refusal a ≡ true
    go (yes k) = rw (eq-eqb a 11 (omega arith))
    go (no k) = or_right (eqb a 11) _ (eq-eqb a 12 (omega arith))

-- ---- a walk

-- a run that goes on, or stops with such a number
abbrev pub Fine : End ℕ → Type 0
Fine (goes s) = Unit {0}
Fine (stops a b) = flag_refusal a ≡ true

module _ {k : Kind} (v : Proper k) (flags : List ℕ) where
  choice_fine : (n : Node) → Good k.limits n → corner_inside k.limits n ≡ true → (step : Node → ℕ → Run Row ℕ)
      → ((d : Decision) → Every (Good k.limits) (children k.limits n d) → (at : ℕ) → Fine (over_all k.limits step (children k.limits n d) at).end)
      → (at : ℕ) (c : Choice) → decide (rights_of k n) flags at ≡ c → Fine (enter k n step c).end
  unfolding enter before
  choice_fine n g here step below at (Refused a p) i = flag_number a (let r = refused_near flags (rights_of k n) at i in omega arith)
  choice_fine n g here step below at (Chosen d m) i = below d (good_kids v g d (decide_sound flags (rights_of k n) (no_dead_end v g here) i).ok) m

  -- with as many levels as both sides are long together
  pub walk_fine : (deep : ℕ) (n : Node) → Good k.limits n → n.w + n.h ≤ deep → corner_inside k.limits n ≡ true → (at : ℕ) → Fine (walk deep k flags n at).end
  unfolding walk
  walk_fine zero n g h here at = let a = fold_least (g.shape.side Vertical).fold in absurd (omega arith)
  walk_fine (suc deep) n g h here at =
      choice_fine n g here (walk deep k flags)
      (λ d gs. over_end k (walk deep k flags) Fine (λ s. tt)
      (every_map (λ c p. walk_fine deep c p.0 p.1)
      (every_both gs (every_child k n d (λ p piece. let s = child_shorter k.limits n g.shape piece in omega arith)))))
      at (decide (rights_of k n) flags at) refl
