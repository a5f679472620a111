-- The rules of H.265's settings: what each test tells, and what settings that pass give.
use Prim.Native.Nat.{ℕ, ◌%◌, ◌^◌, ◌<◌}
use mathlib.Core.Path.{◌≡◌, refl}
use mathlib.Core.Bool.{Bool, true, false, cond, ◌||◌}
use mathlib.Core.Logic.{inl, inr}
use native.Mathlib.Omega.{arith}
use lib.Dec.{ltb, eqb}
use lib.Count.{count_trailing_zeros}
use borrow.Author.Tests.{eqb-true, eqb-false, eq-eqb, ne_eqb, le-ltb, ltb-false, not-true, not-false}
use Rattle.sides.specs.Side.{exponent, side_from}
use Rattle.sides.proofs.Bools.{clash, or_none_left, or_none_right}
use Rattle.sides.specs.Side.{Side}
use Rattle.sides.proofs.Powers.{side}
use Rattle.settings.specs.Faults.{PowerFrom}
use Rattle.settings.proofs.Faults.{power_side, side_power}
use Rattle.h265settings.specs.declared.Settings.{Settings}
use Rattle.h265settings.specs.Checks.{bad_ctu, bad_smallest, bad_length, settings_refusal}
use Rattle.h265settings.specs.Faults.{CtuSide, PictureSide}

-- a test is true exactly where what it asks for is not the case
pub record Rule (bad : Bool) (Good : Type 0) : Type 0 where
  pub broken : bad ≡ true → ¬ Good
  pub kept : bad ≡ false → Good

module _ {bad : Bool} {Good : Type 0} (r : Rule bad Good) where
  pub is_broken : ¬ Good → bad ≡ true
  is_broken g = go bad refl
    where
      go : (b : Bool) → bad ≡ b → bad ≡ true
      go true e = e
      go false e = absurd (g (r.kept e))

  pub is_kept : Good → bad ≡ false
  is_kept g = go bad refl
    where
      go : (b : Bool) → bad ≡ b → bad ≡ false
      go true e = absurd (r.broken e g)
      go false e = e

-- ---- the four rules

one_of : (n : ℕ) (a b : Bool) → eqb n 16 ≡ a → eqb n 32 ≡ b → (a || b || eqb n 64) ≡ true → CtuSide n
one_of n true b p q h = inl (eqb-true n 16 p)
one_of n false true p q h = inr (inl (eqb-true n 32 q))
one_of n false false p q h = inr (inr (eqb-true n 64 h))

-- the CTU side is a power of two, 16 to 64
pub ctu_side : {n : ℕ} → CtuSide n → Side 16 64 n
unfolding count_trailing_zeros
ctu_side (inl e) = record { is = rw e; least = omega arith; most = omega arith }
ctu_side (inr (inl e)) = record { is = rw e; least = omega arith; most = omega arith }
ctu_side (inr (inr e)) = record { is = rw e; least = omega arith; most = omega arith }

module _ (s : Settings) where
  pub ctu_rule : Rule (bad_ctu s) (CtuSide s.ctu)
  ctu_rule = record { broken = λ e g. bad e g; kept = λ e. one_of s.ctu _ _ refl refl (not-false _ e) }
    where
      bad : bad_ctu s ≡ true → ¬ CtuSide s.ctu
      bad e (inl z) = clash e (rw z)
      bad e (inr (inl z)) = clash e (rw z)
      bad e (inr (inr z)) = clash e (rw z)

  pub smallest_rule : CtuSide s.ctu → Rule (bad_smallest s) (PowerFrom 8 s.ctu s.smallest)
  smallest_rule c = let u = ctu_side c in record {
    broken = λ e p. clash (power_side p) (not-true _ e);
    kept = λ e. side_power (side 8 s.ctu s.smallest (omega arith) (not-false _ e));
  }

-- the smallest side is a power of two, 8 to 64
pub smallest_side : {ctu n : ℕ} → CtuSide ctu → PowerFrom 8 ctu n → Side 8 64 n
smallest_side {ctu} {n} c p =
    let u = ctu_side c in
    let b = side 8 ctu n (omega arith) (power_side p) in
    record { is = b.is; least = b.least; most = omega arith }

pub power_of_side : (ctu n : ℕ) → ctu < 4294967296 → side_from 8 ctu n ≡ true → n ≡ 2 ^ exponent n
power_of_side ctu n l h = (side 8 ctu n l h).is

pub length_rule : (smallest n : ℕ) → Rule (bad_length smallest n) (PictureSide smallest n)
length_rule smallest n = record { broken = λ e p. bad e p; kept = good }
  where
    bad : bad_length smallest n ≡ true → ¬ PictureSide smallest n
    bad e p =
        let z = p.0 in
        let m = p.1 in
        clash e (rw (ne_eqb n 0 (λ q. omega arith), le-ltb 16384 n m, eq-eqb (n % smallest) 0 p.2))

    good : bad_length smallest n ≡ false → PictureSide smallest n
    good h =
        let a = or_none_left (eqb n 0 || ltb 16384 n) _ h in
        let z = eqb-false n 0 (or_none_left (eqb n 0) _ a) in
        (omega arith, ltb-false 16384 n (or_none_right (eqb n 0) _ a), eqb-true _ 0 (not-false _ (or_none_right (eqb n 0 || ltb 16384 n) _ h)))

-- ---- settings that pass

pub record Passed (s : Settings) : Type 0 where
  pub ctu : CtuSide s.ctu
  pub smallest : PowerFrom 8 s.ctu s.smallest
  pub width : PictureSide s.smallest s.width
  pub height : PictureSide s.smallest s.height

-- none of four tests is met
none_met : (a b c d : Bool) → ◌≡◌ {A = ℕ} (cond a 34 (cond b 35 (cond c 7 (cond d 8 0)))) 0 → (a ≡ false) × (b ≡ false) × (c ≡ false) × (d ≡ false)
none_met true b c d e = absurd (omega arith)
none_met false true c d e = absurd (omega arith)
none_met false false true d e = absurd (omega arith)
none_met false false false true e = absurd (omega arith)
none_met false false false false e = (refl, refl, refl, refl)

pub passed : (s : Settings) → settings_refusal s ≡ 0 → Passed s
unfolding settings_refusal
passed s e =
    let k = none_met (bad_ctu s) (bad_smallest s) (bad_length s.smallest s.width) (bad_length s.smallest s.height) e in
    let c = (ctu_rule s).kept k.0 in
    record {
      ctu = c;
      smallest = (smallest_rule s c).kept k.1;
      width = (length_rule s.smallest s.width).kept k.2;
      height = (length_rule s.smallest s.height).kept k.3;
    }
