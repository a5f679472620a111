-- H.266's settings that pass give units as the laws ask.
use Prim.Native.Nat.{ℕ, ◌+◌, ◌≤◌}
use mathlib.Core.Path.{◌≡◌, refl}
use mathlib.Core.Bool.{Bool, true, false}
use mathlib.Core.List.{List, [], ◌∷◌, ◌++◌}
use mathlib.Core.Logic.{◌⊎◌, inl, inr}
use native.Mathlib.Omega.{arith}
use Rattle.settings.specs.declared.Settings.{Settings}
use Rattle.settings.specs.Checks.{side_rules, limit_rules, picture_rules, first_hit, settings_refusal}
use Rattle.settings.specs.Faults.{settings_numbers, SettingsFault}
use Rattle.settings.proofs.Faults.{settings_fault, settings_refused, fault_range}
use Rattle.settings.proofs.Grid.{gridded, count_most}
use Rattle.settings.proofs.Passed.{Passed, passed}
use Rattle.unit.specs.Luma.{limits_of, units_of, LumaUnits}
use Rattle.unit.specs.Usable.{Usable}
use Rattle.unit.specs.Units.{Units}
use Rattle.unit.specs.Exactly.{OneOf}
use Rattle.unit.proofs.Roots.{usable_root}
use Rattle.unit.proofs.Sound.{Sound}

pub usable : {s : Settings} → Passed s → Usable s.ctu (limits_of s)
usable p =
    let c = p.cb in
    let m = c.most in
    record {
      grid = gridded p;
      cb = record { is = c.is; least = c.least; most = omega arith };
      qt = p.qt;
      bt = p.bt.least;
      width = p.width.multiple;
      height = p.height.multiple;
      edge = p.edge;
    }

-- ---- the numbers of a list of rules

abbrev numbers_from : ℕ → List Bool → List ℕ
numbers_from k [] = []
numbers_from k (rule ∷ rules) = k ∷ numbers_from (k + 1) rules

hit_number : (k : ℕ) (rules : List Bool) → (first_hit k rules ≡ 0) ⊎ OneOf (first_hit k rules) (numbers_from k rules)
hit_number k [] = inl refl
hit_number k (true ∷ rules) = inr (inl refl)
hit_number k (false ∷ rules) = go (hit_number (k + 1) rules)
  where
    go : (first_hit (k + 1) rules ≡ 0) ⊎ OneOf (first_hit (k + 1) rules) (numbers_from (k + 1) rules)
        → (first_hit (k + 1) rules ≡ 0) ⊎ OneOf (first_hit (k + 1) rules) (k ∷ numbers_from (k + 1) rules)
    go (inl e) = inl e
    go (inr o) = inr (inr o)

module _ (s : Settings) where
  -- the number of a fault is one of the list
  settings_number : {number : ℕ} → SettingsFault s number → OneOf number settings_numbers
  unfolding settings_refusal
  settings_number {number} f = go (hit_number 1 (side_rules s ++ (limit_rules s ++ picture_rules s)))
    where
      go : (settings_refusal s ≡ 0) ⊎ OneOf (settings_refusal s) settings_numbers → OneOf number settings_numbers
      go (inl z) = let e = settings_refused s f in let r = fault_range s f in absurd (omega arith)
      go (inr o) = rw (settings_refused s f) at o

  pub luma_sound : Sound (units_of s)
  luma_sound = record {
    root = λ a e h. usable_root (usable (passed s e)) a h;
    fault = λ e l. settings_fault s _ e l;
    refused = λ f. (settings_refused s f, (fault_range s f).0);
    listed = settings_number;
    others = refl;
  }

-- they are the units of their own eight numbers
pub luma_settings : (s : Settings) → LumaUnits (units_of s) s
luma_settings s = record { kind = refl; count = refl; square = λ a. refl; usable = λ e. usable (passed s e) }

-- settings that pass have so many units at most
pub few_units : {us : Units} {s : Settings} → LumaUnits us s → us.refusal ≡ 0 → us.count ≤ 1048576
few_units l e = rw l.count (count_most (l.usable e).grid)
