-- What the header and docs/REFUSALS.md promise of every unit of H.266: at most 1,024 rows and at most `most_flags` flags, and buffers
-- for so many are never too short. The unit call on the due unit is this reading (`Demand1.due_unit`, picture/specs/Demand1.antt).
use Rattle.std.specs.Prelude.{ℕ, ◌*◌, ◌≤◌, ◌≡◌, cond, List, length, eqb}
use Rattle.settings.specs.declared.Settings.{Settings}
use Rattle.refusals.specs.Said.{Accepted, Refused}
use Rattle.unit.specs.Units.{Units}
use Rattle.unit.specs.Luma.{units_of}
use Rattle.unit.specs.Reader.{read_in}
use Rattle.unit.specs.Writer.{write_in}
use Rattle.unit.specs.Exactly.{Bytes}

-- the greatest number of flags of a unit with the CTU side 32, 64 or 128; `Largest` (largest/specs/Largest.antt) has units
-- with so many
abbrev pub most_flags : (ctu : ℕ) → ℕ
most_flags ctu = cond (eqb ctu 32) 110 (cond (eqb ctu 64) 446 1786)

-- at most R rows and F flags
pub record Bounded (R F : ℕ) (us : Units) (a : ℕ) : Type 0 where
  -- an accepted reading
  pub rows : (flags buffer : List ℕ) (count : ℕ) → (read_in us a flags buffer).answer ≡ Accepted count
      → (count ≤ R) × (length flags ≤ F)
  -- a row buffer of 8 × R bytes is never too short
  pub row_room : (flags buffer : List ℕ) → 8 * R ≤ length buffer → (place : ℕ)
      → ¬ ((read_in us a flags buffer).answer ≡ Refused 14 place)
  -- an accepted way back
  pub flags : (bytes : List ℕ) → Bytes bytes → (buffer : List ℕ) (count : ℕ)
      → (write_in us a bytes buffer).answer ≡ Accepted count → (count ≤ F) × (length bytes ≤ 8 * R)
  -- a flag buffer of F bytes is never too short
  pub room_of_flags : (bytes : List ℕ) → Bytes bytes → (buffer : List ℕ) → F ≤ length buffer
      → (place : ℕ) → ¬ ((write_in us a bytes buffer).answer ≡ Refused 17 place)

abbrev pub Bounds : Type 0
Bounds = (s : Settings) (a : ℕ) → Bounded 1024 (most_flags s.ctu) (units_of s) a
