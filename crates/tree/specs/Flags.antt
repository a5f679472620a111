-- The flags of a node: which are present, what an absent one is, the decision that they give, and the flags that say a decision.
-- H.266 clause 7.3.11.4: split_cu_flag, split_qt_flag, mtt_split_cu_vertical_flag and mtt_split_cu_binary_flag, here split, quad, vertical, binary.
use Rattle.std.specs.Prelude.{ℕ, ◌+◌, Bool, true, false, not, ◌&&◌, ◌||◌, cond, List, [], ◌∷◌, ◌++◌, length, get_or, leb, ltb, eqb, Result, Ok, Err}
use Rattle.tree.specs.declared.Direction.{Direction}
use Rattle.tree.specs.declared.Direction.TheVariants.{Horizontal, Vertical}
use Rattle.tree.specs.declared.Decision.{Decision}
use Rattle.tree.specs.declared.Decision.TheVariants.{Leaf, Quad, Binary, Ternary}
use Rattle.refusals.specs.declared.Refusal.{Refusal}
use Rattle.refusals.specs.Numbers.{number}
use Rattle.tree.specs.Splits.{pick, bit, Rights}

-- ---- presence

-- a cut of direction d is open; some cut is; some split is
abbrev pub cut_open : Rights → Direction → Bool
cut_open r d = r.binary d || r.ternary d

abbrev pub some_cut : Rights → Bool
some_cut r = cut_open r Horizontal || cut_open r Vertical

abbrev pub some_open : Rights → Bool
some_open r = r.quad || some_cut r

-- split: present when the node is inside the picture and some split is open; absent: 1 if out, else 0
abbrev pub split_there : Rights → Bool
split_there r = r.within && some_open r

abbrev pub split_absent : Rights → Bool
split_absent r = not r.within

-- quad: present when QT is open and another split is; absent: 1 if QT is open, else 0
abbrev pub quad_there : Rights → Bool
quad_there r = r.quad && some_cut r

abbrev pub quad_absent : Rights → Bool
quad_absent r = r.quad

-- vertical: present when splits of both directions are open; absent: 0 if a horizontal one is open, else 1
abbrev pub vertical_there : Rights → Bool
vertical_there r = cut_open r Horizontal && cut_open r Vertical

abbrev pub vertical_absent : Rights → Bool
vertical_absent r = not (cut_open r Horizontal)

-- binary: present when both splits of the direction are open; absent: 1 if the binary one is open, else 0
abbrev pub binary_there : Rights → Direction → Bool
binary_there r d = r.binary d && r.ternary d

abbrev pub binary_absent : Rights → Direction → Bool
binary_absent r d = r.binary d

-- ---- reading: the decision at a place of the flags, and the next place; or refusal 11 or 12, whichever comes first

-- What reading one flag finds: its value and the next place, or a refusal's number and place; what a node's flags decide and the next place, or these.
pub data Flag : Type 0 where
  Value : Bool → ℕ → Flag
  Bad : ℕ → ℕ → Flag

pub data Choice : Type 0 where
  Chosen : Decision → ℕ → Choice
  Refused : ℕ → ℕ → Choice

-- those that results of the code say
abbrev pub flag_said : Result (Bool × ℕ) Refusal → Flag
flag_said (Ok (v, at)) = Value v at
flag_said (Err refusal) = Bad (number refusal.reason) refusal.place

abbrev pub choice_said : Result (Decision × ℕ) Refusal → Choice
choice_said (Ok (d, at)) = Chosen d at
choice_said (Err refusal) = Refused (number refusal.reason) refusal.place

-- A present flag is the byte at the place: 11 past the end (its place the number of bytes), 12 where the byte is above 1 (its place the byte's).
-- An absent flag has its inferred value.
unfoldable pub flag_at : Bool → Bool → List ℕ → ℕ → Flag
flag_at there absent flags at =
    cond there
    (cond (ltb at (length flags))
    (cond (leb (get_or flags at 0) 1) (Value (eqb (get_or flags at 0) 1) (at + 1)) (Bad 12 at))
    (Bad 11 (length flags)))
    (Value absent at)

abbrev pub split_flag : Rights → List ℕ → ℕ → Flag
split_flag r flags at = flag_at (split_there r) (split_absent r) flags at

abbrev pub quad_flag : Rights → List ℕ → ℕ → Flag
quad_flag r flags at = flag_at (quad_there r) (quad_absent r) flags at

abbrev pub vertical_flag : Rights → List ℕ → ℕ → Flag
vertical_flag r flags at = flag_at (vertical_there r) (vertical_absent r) flags at

abbrev pub binary_flag : Rights → List ℕ → Direction → ℕ → Flag
binary_flag r flags d at = flag_at (binary_there r d) (binary_absent r d) flags at

-- after the binary flag, the vertical one, the quad one, the split one
unfoldable pub after_binary : Direction → Flag → Choice
after_binary d (Bad k p) = Refused k p
after_binary d (Value true at) = Chosen (Binary d) at
after_binary d (Value false at) = Chosen (Ternary d) at

abbrev pub cut_at : Rights → List ℕ → Direction → ℕ → Choice
cut_at r flags d at = after_binary d (binary_flag r flags d at)

unfoldable pub after_vertical : Rights → List ℕ → Flag → Choice
after_vertical r flags (Bad k p) = Refused k p
after_vertical r flags (Value true at) = cut_at r flags Vertical at
after_vertical r flags (Value false at) = cut_at r flags Horizontal at

unfoldable pub after_quad : Rights → List ℕ → Flag → Choice
after_quad r flags (Bad k p) = Refused k p
after_quad r flags (Value true at) = Chosen Quad at
after_quad r flags (Value false at) = after_vertical r flags (vertical_flag r flags at)

unfoldable pub after_split : Rights → List ℕ → Flag → Choice
after_split r flags (Bad k p) = Refused k p
after_split r flags (Value true at) = after_quad r flags (quad_flag r flags at)
after_split r flags (Value false at) = Chosen Leaf at

unfoldable pub decide : Rights → List ℕ → ℕ → Choice
decide r flags at = after_split r flags (split_flag r flags at)

-- document 01's number of what `decide` gives, that of a refusal or 0, and its value, the refusal's place or the next place of the flags
abbrev pub choice_number : Choice → ℕ
choice_number (Chosen d at) = 0
choice_number (Refused number place) = number

abbrev pub choice_value : Choice → ℕ
choice_value (Chosen d at) = at
choice_value (Refused number place) = place

-- ---- writing: the flags that say a decision

-- a flag's byte, where the flag is present
abbrev pub flag_byte : Bool → Bool → List ℕ
flag_byte there v = cond there (bit v 1 ∷ []) []

-- the flags that say a cut of direction d, binary or ternary
abbrev pub cut_flags : Rights → Direction → Bool → List ℕ
cut_flags r d binary =
    flag_byte (split_there r) true
    ++ (flag_byte (quad_there r) false ++ (flag_byte (vertical_there r) (pick d false true) ++ flag_byte (binary_there r d) binary))

unfoldable pub flags_for : Rights → Decision → List ℕ
flags_for r Leaf = flag_byte (split_there r) false
flags_for r Quad = flag_byte (split_there r) true ++ flag_byte (quad_there r) true
flags_for r (Binary d) = cut_flags r d true
flags_for r (Ternary d) = cut_flags r d false
