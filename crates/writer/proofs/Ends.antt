-- The ends of a way back, over plain values: each way in which the code answers is what the delivery says.
use Prim.Native.Nat.{ℕ, ◌≤◌, ◌<◌}
use mathlib.Core.Path.{◌≡◌, refl, ◌∙◌}
use mathlib.Core.Bool.{Bool, true, false, not}
use mathlib.Core.List.{List, [], ◌∷◌}
use native.Mathlib.Omega.{arith}
use lib.ListN.{length, set}
use lib.Seq.{sets-eq}
use mir.Val.{bool_byte}
use borrow.Author.Tests.{lt-ltb, le-ltb, not-true, not-false}
use Rattle.tree.specs.Splits.{rights_in}
use Rattle.tree.specs.Flags.{some_open, flags_for}
use Rattle.blocks.specs.Copies.{copied}
use Rattle.blocks.proofs.Pastes.{copied_all}
use Rattle.refusals.specs.Said.{Accepted, Refused}
use Rattle.unit.specs.Answers.{Meets, deliver}
use Rattle.writer.specs.Delivery.{leaf_flags, deliver_leaf, deliver_flags}

-- ---- a root that is a leaf

-- the number of its flags
pub leaf_long : (splits : ℕ) (some : Bool) → some ≡ some_open (rights_in false splits) → bool_byte some ≡ length (leaf_flags splits)
unfolding flags_for
leaf_long splits true e = rw (← e)
leaf_long splits false e = rw (← e)

module _ (splits : ℕ) {some : Bool} (e : some ≡ some_open (rights_in false splits)) (b : List ℕ) where
  pub leaf_none : not some ≡ true → Meets (deliver_leaf splits b) (Accepted 0) b
  unfolding flags_for deliver
  leaf_none n = rw (← e, not-true some n, le-ltb (length b) 0 (omega arith)) (record { answers = refl; leaves = refl })

  module _ (y : not some ≡ false) where
    pub leaf_short : length b ≡ 0 → Meets (deliver_leaf splits b) (Refused 17 1) b
    unfolding flags_for deliver
    leaf_short h = rw (← e, not-false some y, h) (record { answers = refl; leaves = refl })

    pub leaf_done : (length b ≡ 0 → ⊥) → Meets (deliver_leaf splits b) (Accepted 1) (set b 0 0)
    unfolding flags_for deliver
    leaf_done h = rw (← e, not-false some y, le-ltb (length b) 1 (omega arith)) (record { answers = refl; leaves = sets-eq (0 ∷ []) b 0 (omega arith) })

-- ---- the flags of a scratch table

module _ (n : ℕ) (scratch b : List ℕ) where
  pub all_short : length b < n → Meets (deliver_flags n scratch b) (Refused 17 n) b
  unfolding deliver_flags
  all_short h = rw (lt-ltb _ _ h) (record { answers = refl; leaves = refl })

  pub all_done : n ≤ 2048 → length scratch ≡ 2048 → n ≤ length b → {z : List ℕ} → z ≡ copied n scratch b → Meets (deliver_flags n scratch b) (Accepted n) z
  unfolding deliver_flags
  all_done few len h e = rw (le-ltb _ _ h) (record { answers = refl; leaves = e ∙ copied_all n scratch b h (omega arith) })
