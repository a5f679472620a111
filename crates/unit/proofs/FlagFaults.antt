-- Flags have one fault at most, and none where they are those of a tree. In any kind.
use Prim.Native.Nat.{ℕ, ◌≤◌}
use mathlib.Core.Path.{◌≡◌, refl, sym, ◌∙◌}
use mathlib.Core.List.{List, [], ◌∷◌, append-nil}
use lib.ListN.{length}
use native.Mathlib.Omega.{arith}
use Rattle.tree.specs.declared.Node.{Node}
use Rattle.tree.specs.Kind.{Kind}
use Rattle.tree.specs.Tree.{Tree, flags_of}
use Rattle.laws.proofs.Meetings.{Meeting, meets, meets_once}
use Rattle.unit.specs.Faults.{FlagFault, end_early, no_flag, run_over}

-- how flags meet a tree, as a number and a place
module _ (k : Kind) (n : Node) (flags : List ℕ) where
  record Met (number place : ℕ) : Type 0 where
    rest : List ℕ
    others : List ℕ
    meeting : Meeting k (n ∷ []) flags rest others
    number_is : meets rest others ≡ number
    place_is : length meeting.front ≡ place

module _ {k : Kind} {n : Node} {flags : List ℕ} where
  met : {number place : ℕ} → FlagFault k n flags number place → Met k n flags number place
  met (end_early t flag more e) = record {
    rest = [];
    others = flag ∷ more;
    meeting = record { trees = t; front = flags; bytes_are = sym (append-nil flags); flags_are = e; parted = tt };
    number_is = refl;
    place_is = refl;
  }
  met (no_flag t front byte after flag more e l f) = record {
    rest = byte ∷ after;
    others = flag ∷ more;
    meeting = record { trees = t; front = front; bytes_are = e; flags_are = f; parted = l };
    number_is = refl;
    place_is = refl;
  }
  met (run_over t byte after e) = record {
    rest = byte ∷ after;
    others = [];
    meeting = record { trees = t; front = flags_of t; bytes_are = e; flags_are = sym (append-nil (flags_of t)); parted = tt };
    number_is = refl;
    place_is = refl;
  }

  met_tree : (t : Tree k n) → flags_of t ≡ flags → Met k n flags 0 (length flags)
  met_tree t e = record {
    rest = [];
    others = [];
    meeting = record { trees = t; front = flags; bytes_are = sym (append-nil flags); flags_are = e ∙ sym (append-nil flags); parted = tt };
    number_is = refl;
    place_is = refl;
  }

  met_once : {a p b q : ℕ} → Met k n flags a p → Met k n flags b q → (a ≡ b) × (p ≡ q)
  met_once x y = let h = meets_once x.meeting y.meeting in (sym x.number_is ∙ h.0 ∙ y.number_is, sym x.place_is ∙ h.1 ∙ y.place_is)

  pub fault_once : {a p b q : ℕ} → FlagFault k n flags a p → FlagFault k n flags b q → (a ≡ b) × (p ≡ q)
  fault_once x y = met_once (met x) (met y)

  pub fault_range : {a p : ℕ} → FlagFault k n flags a p → (11 ≤ a) × (a ≤ 13)
  fault_range (end_early t flag more e) = omega arith
  fault_range (no_flag t front byte after flag more e l f) = omega arith
  fault_range (run_over t byte after e) = omega arith

  pub no_fault : (t : Tree k n) → flags_of t ≡ flags → {a p : ℕ} → FlagFault k n flags a p → ⊥
  no_fault t e x = let h = (met_once (met_tree t e) (met x)).0 in let r = fault_range x in omega arith
