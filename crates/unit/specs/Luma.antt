-- The units of a picture with luma trees, and those of an H.266 picture.
use Rattle.std.specs.Prelude.{ℕ, ◌≡◌, List}
use Rattle.settings.specs.declared.Settings.{Settings}
use Rattle.settings.specs.Checks.{settings_refusal}
use Rattle.settings.specs.Faults.{settings_numbers, SettingsFault}
use Rattle.settings.specs.Units.{count_in, square_in, unit_count, square_at}
use Rattle.tree.specs.declared.Limits.{Limits}
use Rattle.tree.specs.declared.Node.{Node}
use Rattle.tree.specs.Kind.{Kind, luma}
use Rattle.unit.specs.Units.{Units, root_of}
use Rattle.unit.specs.Usable.{Usable}

-- by the settings' refusal, its numbers and faults, the side of the units, and the limits of their trees
abbrev pub luma_units : (refusal : ℕ) → List ℕ → (ℕ → Type 0) → (side : ℕ) → Limits → Units
luma_units refusal numbers Fault side l = record {
  refusal = refusal;
  numbers = numbers;
  Fault = Fault;
  kind = luma l;
  count = count_in side l.width l.height;
  square = λ address. square_in side l.width address;
}

-- ---- H.266's

abbrev pub limits_of : Settings → Limits
limits_of s = record {
  mincb = s.mincb;
  minqt = s.minqt;
  maxmtt = s.maxmtt;
  maxbt = s.maxbt;
  maxtt = s.maxtt;
  width = s.width;
  height = s.height;
}

abbrev pub kind_of : Settings → Kind
kind_of s = luma (limits_of s)

abbrev pub root_at : Settings → ℕ → Node
root_at s address = root_of (square_at s address)

abbrev pub units_of : Settings → Units
units_of s = luma_units (settings_refusal s) settings_numbers (SettingsFault s) s.ctu (limits_of s)

-- ---- any settings with such trees

-- Units are those that H.266's eight numbers say, but for the check: these went through their own, and where they passed it, the numbers are such that trees are walked.
pub record LumaUnits (us : Units) (s : Settings) : Type 0 where
  pub kind : us.kind ≡ kind_of s
  pub count : us.count ≡ unit_count s
  pub square : (address : ℕ) → us.square address ≡ square_at s address
  pub usable : us.refusal ≡ 0 → Usable s.ctu (limits_of s)
