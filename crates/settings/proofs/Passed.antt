-- What the checks tell of settings that pass them.
use Prim.Native.Nat.{ℕ, ◌-◌, ◌*◌, ◌%◌, ◌≤◌, ◌<◌, min, max}
use mathlib.Core.Path.{◌≡◌, refl}
use mathlib.Core.Bool.{Bool, true, false, ◌||◌}
use mathlib.Core.Logic.{◌⊎◌, inl, inr}
use mathlib.Core.List.{◌++◌}
use native.Mathlib.Omega.{arith}
use lib.Dec.{ltb, eqb}
use lib.Count.{count_trailing_zeros}
use borrow.Author.Tests.{ltb-false, eqb-true, eqb-false, eq-eqb, not-false}
use Rattle.sides.specs.Side.{exponent}
use Rattle.sides.proofs.Bools.{and_left, and_right, or_none_left, or_none_right}
use Rattle.sides.specs.Side.{Side}
use Rattle.sides.proofs.Powers.{side}
use Rattle.settings.specs.declared.Settings.{Settings}
use Rattle.settings.specs.Checks.{settings_refusal, side_rules, limit_rules, picture_rules, first_hit, bad_ctu, bad_cb, bad_qt, bad_length, bad_edge}
use Rattle.settings.proofs.First.{kept}

-- ---- refusals 1 to 3

pub record Sides (s : Settings) : Type 0 where
  pub ctu : (s.ctu ≡ 32) ⊎ ((s.ctu ≡ 64) ⊎ (s.ctu ≡ 128))
  pub cb : Side 4 (min 64 s.ctu) s.mincb
  pub qt : Side s.mincb (min 64 s.ctu) s.minqt

pub one_of : (n : ℕ) (a b : Bool) → eqb n 32 ≡ a → eqb n 64 ≡ b → (a || b || eqb n 128) ≡ true → (n ≡ 32) ⊎ ((n ≡ 64) ⊎ (n ≡ 128))
one_of n true b p q h = inl (eqb-true n 32 p)
one_of n false true p q h = inr (inl (eqb-true n 64 q))
one_of n false false p q h = inr (inr (eqb-true n 128 h))

-- the CTU side is a power of two, 32 to 128
pub unit_side : {n : ℕ} → (n ≡ 32) ⊎ ((n ≡ 64) ⊎ (n ≡ 128)) → Side 32 128 n
unfolding count_trailing_zeros
unit_side (inl e) = record { is = rw e; least = omega arith; most = omega arith }
unit_side (inr (inl e)) = record { is = rw e; least = omega arith; most = omega arith }
unit_side (inr (inr e)) = record { is = rw e; least = omega arith; most = omega arith }

sides_kept : (s : Settings) → bad_ctu s ≡ false → bad_cb s ≡ false → bad_qt s ≡ false → Sides s
sides_kept s a b c = record {
  ctu = one_of s.ctu _ _ refl refl (not-false _ a);
  cb = side 4 (min 64 s.ctu) s.mincb (omega arith) (not-false _ b);
  qt = side s.mincb (min 64 s.ctu) s.minqt (omega arith) (not-false _ c);
}

pub sides : (s : Settings) → first_hit 1 (side_rules s) ≡ 0 → Sides s
sides s h = let k = kept 1 (side_rules s) (omega arith) h in sides_kept s k.0 k.1.0 k.1.1.0

-- ---- all nine

pub record Length (mincb n : ℕ) : Type 0 where
  pub positive : 0 < n
  pub most : n ≤ 16384
  pub multiple : n % max 8 mincb ≡ 0

pub length_kept : (mincb n : ℕ) → bad_length mincb n ≡ false → Length mincb n
length_kept mincb n h =
    let a = or_none_left (eqb n 0 || ltb 16384 n) _ h in
    let z = eqb-false n 0 (or_none_left (eqb n 0) _ a) in
    record {
      positive = omega arith;
      most = ltb-false 16384 n (or_none_right (eqb n 0) _ a);
      multiple = eqb-true _ 0 (not-false _ (or_none_right (eqb n 0 || ltb 16384 n) _ h));
    }

pub edge_kept : (s : Settings) → bad_edge s ≡ false → s.maxmtt ≡ 0 → (s.width % s.minqt ≡ 0) × (s.height % s.minqt ≡ 0)
edge_kept s h d =
    let e = not-false _ (rw (eq-eqb s.maxmtt 0 d) at h) in
    let w = eqb (s.width % s.minqt) 0 in
    (eqb-true _ 0 (and_left w _ e), eqb-true _ 0 (and_right w _ e))

pub record Passed (s : Settings) : Type 0 where
  pub ctu : (s.ctu ≡ 32) ⊎ ((s.ctu ≡ 64) ⊎ (s.ctu ≡ 128))
  pub cb : Side 4 (min 64 s.ctu) s.mincb
  pub qt : Side s.mincb (min 64 s.ctu) s.minqt
  pub depth : s.maxmtt ≤ 2 * (exponent s.ctu - exponent s.mincb)
  pub bt : Side s.minqt s.ctu s.maxbt
  pub tt : Side s.minqt (min 64 s.ctu) s.maxtt
  pub width : Length s.mincb s.width
  pub height : Length s.mincb s.height
  pub edge : s.maxmtt ≡ 0 → (s.width % s.minqt ≡ 0) × (s.height % s.minqt ≡ 0)

pub passed : (s : Settings) → settings_refusal s ≡ 0 → Passed s
unfolding settings_refusal
passed s h =
    let k = kept 1 (side_rules s ++ (limit_rules s ++ picture_rules s)) (omega arith) h in
    let a = sides_kept s k.0 k.1.0 k.1.1.0 in
    let l = k.1.1.1 in
    let p = l.1.1.1 in
    let u = unit_side a.ctu in
    record {
      ctu = a.ctu;
      cb = a.cb;
      qt = a.qt;
      depth = ltb-false _ _ l.0;
      bt = side s.minqt s.ctu s.maxbt (omega arith) (not-false _ l.1.0);
      tt = side s.minqt (min 64 s.ctu) s.maxtt (omega arith) (not-false _ l.1.1.0);
      width = length_kept s.mincb s.width p.0;
      height = length_kept s.mincb s.height p.1.0;
      edge = edge_kept s p.1.1.0;
    }
