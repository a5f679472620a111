-- General laws of Boolean tests that `sides` does not have.
use Prim.Native.Nat.{ℕ, ◌≤◌}
use mathlib.Core.Path.{◌≡◌, refl}
use mathlib.Core.Bool.{Bool, true, false, not, ◌&&◌, ◌||◌}
use native.Mathlib.Omega.{arith}
use Rattle.sides.proofs.Bools.{clash, same}
use Rattle.tree.specs.Splits.{bit}

-- from equations in scope that clash, `cc` proves this one
pub never : {A : Type 0} → ◌≡◌ {A = Bool} true false → A
never e = clash refl e

pub same_self : (a : Bool) → same a a ≡ true
same_self true = refl
same_self false = refl

-- ---- several tests in a row

pub and_four : (a b c d : Bool) → (a && b && c && d) ≡ true → (a ≡ true) × (b ≡ true) × (c ≡ true) × (d ≡ true)
and_four true true true d h = (refl, refl, refl, h)
and_four true true false d h = never (cc)
and_four true false c d h = never (cc)
and_four false b c d h = never (cc)

pub none_five : (a b c d e : Bool) → (a || b || c || d || e) ≡ false → (a ≡ false) × (b ≡ false) × (c ≡ false) × (d ≡ false) × (e ≡ false)
none_five false false false false e h = (refl, refl, refl, refl, h)
none_five false false false true e h = never (cc)
none_five false false true d e h = never (cc)
none_five false true c d e h = never (cc)
none_five true b c d e h = never (cc)

-- what would make a false test hold fails
pub fails : (a b : Bool) → (a ≡ true → b ≡ true) → b ≡ false → a ≡ false
fails true b h e = clash (h refl) e
fails false b h e = refl

-- ---- one test implies another

abbrev pub implies : Bool → Bool → Bool
implies a b = not a || b

pub implies_intro : (a b : Bool) → (a ≡ true → b ≡ true) → implies a b ≡ true
implies_intro true b h = h refl
implies_intro false b h = refl

pub implies_use : (a b : Bool) → implies a b ≡ true → a ≡ true → b ≡ true
implies_use true b h e = h
implies_use false b h e = clash e refl

-- ---- a test as a number

pub bit_most : (a : Bool) (k : ℕ) → bit a k ≤ k
bit_most true k = omega arith
bit_most false k = omega arith
