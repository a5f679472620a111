-- What is wrong with an opening and with a unit call on a session, whatever its settings: numbers and places, each beside the fault that it names.
use Rattle.std.specs.Prelude.{ℕ, ◌*◌, ◌<◌, ◌≡◌, List, [], ◌∷◌, ◌↔◌, length}
use Rattle.tree.specs.Tree.{flags_of, rows_of}
use Rattle.unit.specs.Units.{Units, root_in}
use Rattle.unit.specs.Exactly.{UnitTree, OneOf}
use Rattle.unit.specs.Faults.{FlagFault}
use Rattle.picture.specs.State.{Call}

-- an opening, a fresh session or a refusal: refused with a number exactly where this is the fault of the settings, and else fresh
pub record Opens {Opened : Type 0} (us : Units) (opened fresh : Opened) (refused : ℕ → Opened) : Type 0 where
  -- it uses the numbers of the settings
  pub uses : (number : ℕ) → opened ≡ refused number → OneOf number us.numbers
  pub refuses : (number : ℕ) → (opened ≡ refused number) ↔ us.Fault number
  pub accepts : (opened ≡ fresh) ↔ ((number : ℕ) → ¬ us.Fault number)

-- the settings of a session pass, and a unit is due
pub record UnitDue (us : Units) (due : ℕ) : Type 0 where
  pub passed : us.refusal ≡ 0
  pub below : due < us.count

-- What is wrong with a unit call: 22, 20, 21 in this order, then 11 to 14 as in reading the due unit.
pub data CallFault (us : Units) (due : ℕ) (c : Call) : ℕ → ℕ → Type 0 where
  -- "the session's settings fail" their checks, "or its due address exceeds the unit count"
  call_settings : ¬ (us.refusal ≡ 0) → CallFault us due c 22 0
  call_past : us.refusal ≡ 0 → us.count < due → CallFault us due c 22 0
  -- "the picture is complete"
  call_complete : us.refusal ≡ 0 → due ≡ us.count → CallFault us due c 20 0
  -- "the address isn't the due one; place: the due one"
  call_address : UnitDue us due → ¬ (c.address ≡ due) → CallFault us due c 21 due
  call_flags : {number place : ℕ} → UnitDue us due → c.address ≡ due
      → FlagFault us.kind (root_in us due) c.flags number place
      → CallFault us due c number place
  call_room : UnitDue us due → c.address ≡ due → (tree : UnitTree us due) → flags_of tree ≡ c.flags
      → length c.buffer < 8 * length (rows_of tree) → CallFault us due c 14 (length (rows_of tree))

-- document 01: "A unit call on it uses these, in this order, then 11 to 14"
abbrev pub call_numbers : List ℕ
call_numbers = 22 ∷ 20 ∷ 21 ∷ 11 ∷ 12 ∷ 13 ∷ 14 ∷ []
