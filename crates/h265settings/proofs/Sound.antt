-- H.265's settings that pass give units as the laws ask, and their faults are exactly their refusals.
use Prim.Native.Nat.{ℕ, ◌%◌, ◌<◌, max}
use mathlib.Core.Path.{◌≡◌, refl, subst}
use mathlib.Core.Bool.{Bool, true, false, cond}
use mathlib.Core.Logic.{inl, inr}
use native.Mathlib.Omega.{arith}
use Rattle.settings.specs.Units.{Gridded}
use Rattle.unit.specs.Luma.{limits_of, LumaUnits}
use Rattle.unit.specs.Exactly.{OneOf}
use Rattle.unit.specs.Usable.{Usable}
use Rattle.unit.proofs.Roots.{usable_root}
use Rattle.unit.proofs.Sound.{Sound}
use Rattle.h265settings.specs.declared.Settings.{Settings}
use Rattle.h265settings.specs.Checks.{bad_ctu, bad_smallest, bad_length, settings_refusal}
use Rattle.h265settings.specs.Faults.{SettingsFault, bad_ctu_side, bad_smallest_side, bad_width, bad_height, settings_numbers}
use Rattle.h265settings.specs.Units.{as_luma, units_of}
use Rattle.h265settings.proofs.Passed.{is_broken, is_kept, ctu_side, smallest_side, ctu_rule, smallest_rule, length_rule, Passed, passed}

-- ---- settings that pass

module _ {s : Settings} (p : Passed s) where
  pub gridded : Gridded s.ctu s.width s.height
  gridded =
      let u = ctu_side p.ctu in
      record { power = u.is; least = u.least; most = omega arith; wide = (p.width.0, p.width.1); high = (p.height.0, p.height.1) }

  -- 8 plays no part beside the smallest side
  whole : (n : ℕ) → n % s.smallest ≡ 0 → n % max 8 s.smallest ≡ 0
  whole n h = let b = smallest_side p.ctu p.smallest in let m : max 8 s.smallest ≡ s.smallest = omega arith in rw m h

  pub usable : Usable s.ctu (limits_of (as_luma s))
  usable =
      let u = ctu_side p.ctu in
      let b = smallest_side p.ctu p.smallest in
      record {
        grid = gridded;
        cb = record { is = b.is; least = omega arith; most = omega arith };
        qt = record { is = b.is; least = omega arith; most = let l = p.smallest.most in omega arith };
        bt = omega arith;
        width = whole s.width p.width.2;
        height = whole s.height p.height.2;
        edge = λ flat. (p.width.2, p.height.2);
      }

-- their units are those of the settings of H.266 that have the same trees
pub quad_settings : (s : Settings) → LumaUnits (units_of s) (as_luma s)
quad_settings s = record { kind = refl; count = refl; square = λ a. refl; usable = λ e. usable (passed s e) }

-- ---- the faults

module _ (s : Settings) where
  abbrev wide : Bool
  wide = bad_length s.smallest s.width

  abbrev high : Bool
  high = bad_length s.smallest s.height

  -- the first of four tests that is met
  fault : {number : ℕ} → settings_refusal s ≡ number → 0 < number → SettingsFault s number
  unfolding settings_refusal
  fault {number} e l = go (bad_ctu s) (bad_smallest s) wide high refl refl refl refl e
    where
      go : (a b c d : Bool) → bad_ctu s ≡ a → bad_smallest s ≡ b → wide ≡ c → high ≡ d
          → cond a 34 (cond b 35 (cond c 7 (cond d 8 0))) ≡ number → SettingsFault s number
      go true b c d i j k m e = subst (SettingsFault s) e (bad_ctu_side ((ctu_rule s).broken i))
      go false true c d i j k m e =
          let u = (ctu_rule s).kept i in subst (SettingsFault s) e (bad_smallest_side u ((smallest_rule s u).broken j))
      go false false true d i j k m e =
          let u = (ctu_rule s).kept i in
          subst (SettingsFault s) e (bad_width u ((smallest_rule s u).kept j) ((length_rule s.smallest s.width).broken k))
      go false false false true i j k m e =
          let u = (ctu_rule s).kept i in
          subst (SettingsFault s) e
          (bad_height u ((smallest_rule s u).kept j) ((length_rule s.smallest s.width).kept k) ((length_rule s.smallest s.height).broken m))
      go false false false false i j k m e = absurd (omega arith)

  refused : {number : ℕ} → SettingsFault s number → (settings_refusal s ≡ number) × (0 < number)
  unfolding settings_refusal
  refused (bad_ctu_side f) = (rw (is_broken (ctu_rule s) f), omega arith)
  refused (bad_smallest_side u f) = (rw (is_kept (ctu_rule s) u, is_broken (smallest_rule s u) f), omega arith)
  refused (bad_width u b f) =
      (rw (is_kept (ctu_rule s) u, is_kept (smallest_rule s u) b, is_broken (length_rule s.smallest s.width) f), omega arith)
  refused (bad_height u b w f) = (
    rw (is_kept (ctu_rule s) u, is_kept (smallest_rule s u) b, is_kept (length_rule s.smallest s.width) w, is_broken (length_rule s.smallest s.height) f),
    omega arith,
  )

  listed : {number : ℕ} → SettingsFault s number → OneOf number settings_numbers
  listed (bad_ctu_side f) = inl refl
  listed (bad_smallest_side u f) = inr (inl refl)
  listed (bad_width u b f) = inr (inr (inl refl))
  listed (bad_height u b w f) = inr (inr (inr (inl refl)))

  pub h265_sound : Sound (units_of s)
  h265_sound = record {
    root = λ a e h. usable_root (usable (passed s e)) a h;
    fault = fault;
    refused = refused;
    listed = listed;
    others = refl;
  }
