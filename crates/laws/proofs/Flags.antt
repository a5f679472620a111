-- The decision that flags give: `decide` reads the flags of an allowed decision as that decision, and gives only allowed decisions.
use Prim.Native.Nat.{ℕ, ◌+◌, ◌≤◌}
use mathlib.Core.Path.{◌≡◌, refl, sym, ap, ◌∙◌}
use mathlib.Core.Bool.{Bool, true, false, cond, ◌&&◌, ◌||◌}
use mathlib.Core.List.{List, [], ◌∷◌}
use lib.ListN.{length, get_or}
use lib.Dec.{leb, ltb, eqb}
use borrow.Author.Tests.{lt-ltb, ltb-true, leb-true, eqb-true, eqb-false}
use native.Mathlib.Omega.{arith}
use Rattle.sides.proofs.Bools.{and_left, and_right, and_intro, same, same_eq}
use Rattle.tree.specs.declared.Direction.{Direction}
use Rattle.tree.specs.declared.Direction.TheVariants.{Horizontal, Vertical}
use Rattle.tree.specs.declared.Decision.{Decision}
use Rattle.tree.specs.declared.Decision.TheVariants.{Leaf, Quad, Binary, Ternary}
use Rattle.tree.specs.Flags.{Flag}
use Rattle.tree.specs.Flags.{Value, Bad}
use Rattle.tree.specs.Flags.{Chosen}
use Rattle.tree.specs.Splits.{pick, bit, Rights, allows}
use Rattle.tree.specs.Flags.{some_open, split_there, split_absent, quad_there, quad_absent, vertical_there, vertical_absent, binary_there, binary_absent, flag_at, after_binary, cut_at, after_vertical, after_quad, after_split, decide, flag_byte, cut_flags, flags_for}
use Rattle.laws.proofs.Tests.{never, same_self}
use Rattle.laws.proofs.Rights.{for_rights, at_rights}
use Rattle.laws.proofs.Bytes.{Reads, nothing, byte, reads_join, reads_part}

-- ---- one flag

-- a flag can have a value: it is present, or the value is the inferred one
abbrev pub can_be : Bool → Bool → Bool → Bool
can_be there absent v = there || same absent v

-- a byte of at most 1 is the value that it is read as
byte_value : (x : ℕ) (v : Bool) → leb x 1 ≡ true → eqb x 1 ≡ v → x ≡ bit v 1
byte_value x true l e = eqb-true x 1 e
byte_value x false l e = below (leb-true x 1 l) (eqb-false x 1 e)
  where
    below : x ≤ 1 → ¬ (x ≡ 1) → x ≡ 0
    below p q = omega arith

module _ (flags : List ℕ) where
  -- a flag is read with a value that it can have
  pub record Step (there absent v : Bool) (at to : ℕ) : Type 0 where
    pub value : can_be there absent v ≡ true
    pub reads : Reads flags at (flag_byte there v) to

  step_complete : (there absent v : Bool) {at to : ℕ} → can_be there absent v ≡ true → Reads flags at (flag_byte there v) to → flag_at there absent flags at ≡ Value v to
  unfolding flag_at
  step_complete true absent true o (byte {at = at} l e nothing) = simp (lt-ltb at (length flags) l, e)
  step_complete true absent false o (byte {at = at} l e nothing) = simp (lt-ltb at (length flags) l, e)
  step_complete false absent v o nothing = rw (same_eq absent v o)

  step_there : (v : Bool) (at to : ℕ) (b c : Bool) → ltb at (length flags) ≡ b → leb (get_or flags at 0) 1 ≡ c
      → cond b (cond c (Value (eqb (get_or flags at 0) 1) (at + 1)) (Bad 12 at)) (Bad 11 (length flags)) ≡ Value v to → Reads flags at (bit v 1 ∷ []) to
  step_there v at to true true l c e =
      let w : eqb (get_or flags at 0) 1 ≡ v = cc in
      let n : at + 1 ≡ to = cc in
      rw (← n) (byte (ltb-true at (length flags) l) (byte_value (get_or flags at 0) v c w) nothing)
  step_there v at to true false l c e = never (cc)
  step_there v at to false c l d e = never (cc)

  pub step_sound : (there absent : Bool) {v : Bool} {at to : ℕ} → flag_at there absent flags at ≡ Value v to → Step there absent v at to
  unfolding flag_at
  step_sound true absent {v} {at} {to} e = record { value = refl; reads = step_there v at to (ltb at (length flags)) (leb (get_or flags at 0) 1) refl refl e }
  step_sound false absent {v} {at} {to} e =
      let n : at ≡ to = cc in
      let i : absent ≡ v = cc in
      record { value = rw i (same_self v); reads = rw (← n) nothing }

-- ---- the decisions that flags can say

-- every flag that says the decision can have its value
abbrev can_cut : Rights → Direction → Bool → Bool
can_cut r d binary =
    can_be (split_there r) (split_absent r) true
    && (can_be (quad_there r) (quad_absent r) false
    && (can_be (vertical_there r) (vertical_absent r) (pick d false true) && can_be (binary_there r d) (binary_absent r d) binary))

abbrev can_say : Rights → Decision → Bool
can_say r Leaf = can_be (split_there r) (split_absent r) false
can_say r Quad = can_be (split_there r) (split_absent r) true && can_be (quad_there r) (quad_absent r) true
can_say r (Binary d) = can_cut r d true
can_say r (Ternary d) = can_cut r d false

-- At a node that is inside the picture or has an open split these are the allowed decisions: a test of all rights.
abbrev agree : Decision → Rights → Bool
agree d r = same (allows r d) ((r.within || some_open r) && can_say r d)

agree_test : (d : Decision) → for_rights (agree d) ≡ true
agree_test Leaf = refl
agree_test Quad = refl
agree_test (Binary Horizontal) = refl
agree_test (Binary Vertical) = refl
agree_test (Ternary Horizontal) = refl
agree_test (Ternary Vertical) = refl

may_say : (r : Rights) (d : Decision) → allows r d ≡ ((r.within || some_open r) && can_say r d)
may_say r d = same_eq (allows r d) ((r.within || some_open r) && can_say r d) (at_rights (agree d) (agree_test d) r)

-- ---- from a decision's flags to the decision

-- the cut that a binary flag names
abbrev cut_by : Direction → Bool → Decision
cut_by d true = Binary d
cut_by d false = Ternary d

module _ (flags : List ℕ) (r : Rights) where
  after_vertical_lem : (d : Direction) (at : ℕ) → after_vertical r flags (Value (pick d false true) at) ≡ cut_at r flags d at
  unfolding after_vertical
  after_vertical_lem Horizontal at = refl
  after_vertical_lem Vertical at = refl

  after_binary_lem : (d : Direction) (v : Bool) (to : ℕ) → after_binary d (Value v to) ≡ Chosen (cut_by d v) to
  unfolding after_binary
  after_binary_lem d true to = refl
  after_binary_lem d false to = refl

  cut_complete : (d : Direction) (v : Bool) {at to : ℕ} → can_cut r d v ≡ true → Reads flags at (cut_flags r d v) to → decide r flags at ≡ Chosen (cut_by d v) to
  unfolding decide after_split after_quad
  cut_complete d v {at} {to} o p =
      let a = reads_part (flag_byte (split_there r) true) p in
      let b = reads_part (flag_byte (quad_there r) false) a.2 in
      let c = reads_part (flag_byte (vertical_there r) (pick d false true)) b.2 in
      let o₂ = and_right (can_be (split_there r) (split_absent r) true) _ o in
      let o₃ = and_right (can_be (quad_there r) (quad_absent r) false) _ o₂ in
      let o₄ = and_right (can_be (vertical_there r) (vertical_absent r) (pick d false true)) _ o₃ in
      rw (step_complete flags (split_there r) (split_absent r) true (and_left _ _ o) a.1)
      (rw (step_complete flags (quad_there r) (quad_absent r) false (and_left _ _ o₂) b.1)
      (rw (step_complete flags (vertical_there r) (vertical_absent r) (pick d false true) (and_left _ _ o₃) c.1)
      (after_vertical_lem d c.0 ∙ ap (after_binary d) (step_complete flags (binary_there r d) (binary_absent r d) v o₄ c.2) ∙ after_binary_lem d v to)))

  say_complete : (d : Decision) {at to : ℕ} → can_say r d ≡ true → Reads flags at (flags_for r d) to → decide r flags at ≡ Chosen d to
  unfolding decide after_split after_quad flags_for
  say_complete Leaf o p = rw (step_complete flags (split_there r) (split_absent r) false o p)
  say_complete Quad o p =
      let a = reads_part (flag_byte (split_there r) true) p in
      rw (step_complete flags (split_there r) (split_absent r) true (and_left _ _ o) a.1)
      (rw (step_complete flags (quad_there r) (quad_absent r) true (and_right (can_be (split_there r) (split_absent r) true) _ o) a.2))
  say_complete (Binary d) o p = cut_complete d true o p
  say_complete (Ternary d) o p = cut_complete d false o p

  -- the flags of an allowed decision are read as that decision
  pub decide_complete : (d : Decision) → allows r d ≡ true → {at to : ℕ} → Reads flags at (flags_for r d) to → decide r flags at ≡ Chosen d to
  decide_complete d ok p = say_complete d (and_right (r.within || some_open r) (can_say r d) (sym (may_say r d) ∙ ok)) p

  -- ---- the converse

  -- the bytes read are a decision's flags, each with a value that it can have
  record Said (d : Decision) (at to : ℕ) : Type 0 where
    values : can_say r d ≡ true
    reads : Reads flags at (flags_for r d) to

  said_same : {d e : Decision} {at to end : ℕ} → Said d at to → Chosen d to ≡ Chosen e end → Said e at end
  said_same {d} {e} {at} {to} {end} h p =
      let a : d ≡ e = cc in
      let b : to ≡ end = cc in
      rw (← a, ← b) h

  abbrev SplitIs : Bool → ℕ → ℕ → Type 0
  SplitIs v at to = Step flags (split_there r) (split_absent r) v at to

  abbrev QuadIs : Bool → ℕ → ℕ → Type 0
  QuadIs v at to = Step flags (quad_there r) (quad_absent r) v at to

  abbrev VerticalIs : Bool → ℕ → ℕ → Type 0
  VerticalIs v at to = Step flags (vertical_there r) (vertical_absent r) v at to

  abbrev BinaryIs : Direction → Bool → ℕ → ℕ → Type 0
  BinaryIs d v at to = Step flags (binary_there r d) (binary_absent r d) v at to

  cut_said : (e : Direction) (v : Bool) {at a b c to : ℕ} → SplitIs true at a → QuadIs false a b → VerticalIs (pick e false true) b c → BinaryIs e v c to → Said (cut_by e v) at to
  unfolding flags_for
  cut_said e v s q t h =
      go v (and_intro _ _ s.value (and_intro _ _ q.value (and_intro _ _ t.value h.value)))
      (reads_join s.reads (reads_join q.reads (reads_join t.reads h.reads)))
    where
      go : (v : Bool) {at to : ℕ} → can_cut r e v ≡ true → Reads flags at (cut_flags r e v) to → Said (cut_by e v) at to
      go true o p = record { values = o; reads = p }
      go false o p = record { values = o; reads = p }

  -- by what each flag in turn is read as
  sound_binary : (e : Direction) (f : Flag) {d : Decision} {at a b c to : ℕ} → SplitIs true at a → QuadIs false a b → VerticalIs (pick e false true) b c
      → flag_at (binary_there r e) (binary_absent r e) flags c ≡ f → after_binary e f ≡ Chosen d to → Said d at to
  unfolding after_binary
  sound_binary e (Bad k p) s q t i h = never (cc)
  sound_binary e (Value v m) s q t i h = said_same (cut_said e v s q t (step_sound flags (binary_there r e) (binary_absent r e) i)) (sym (after_binary_lem e v m) ∙ h)

  sound_vertical : (f : Flag) {d : Decision} {at a b to : ℕ} → SplitIs true at a → QuadIs false a b
      → flag_at (vertical_there r) (vertical_absent r) flags b ≡ f → after_vertical r flags f ≡ Chosen d to → Said d at to
  unfolding after_vertical
  sound_vertical (Bad k p) s q i h = never (cc)
  sound_vertical (Value true m) s q i h = sound_binary Vertical _ s q (step_sound flags (vertical_there r) (vertical_absent r) i) refl h
  sound_vertical (Value false m) s q i h = sound_binary Horizontal _ s q (step_sound flags (vertical_there r) (vertical_absent r) i) refl h

  sound_quad : (f : Flag) {d : Decision} {at a to : ℕ} → SplitIs true at a → flag_at (quad_there r) (quad_absent r) flags a ≡ f → after_quad r flags f ≡ Chosen d to → Said d at to
  unfolding after_quad flags_for
  sound_quad (Bad k p) s i h = never (cc)
  sound_quad (Value true m) s i h =
      let q = step_sound flags (quad_there r) (quad_absent r) i in
      said_same {d = Quad} (record { values = and_intro _ _ s.value q.value; reads = reads_join s.reads q.reads }) h
  sound_quad (Value false m) s i h = sound_vertical _ s (step_sound flags (quad_there r) (quad_absent r) i) refl h

  sound_split : (f : Flag) {d : Decision} {at to : ℕ} → flag_at (split_there r) (split_absent r) flags at ≡ f → after_split r flags f ≡ Chosen d to → Said d at to
  unfolding after_split flags_for
  sound_split (Bad k p) i h = never (cc)
  sound_split (Value true m) i h = sound_quad _ (step_sound flags (split_there r) (split_absent r) i) refl h
  sound_split (Value false m) i h = let s = step_sound flags (split_there r) (split_absent r) i in said_same {d = Leaf} (record { values = s.value; reads = s.reads }) h

  -- a decision is allowed, and its flags are the bytes read
  pub record Decided (d : Decision) (at to : ℕ) : Type 0 where
    pub ok : allows r d ≡ true
    pub reads : Reads flags at (flags_for r d) to

  -- what is decided at a node that is inside the picture or has an open split
  pub decide_sound : {d : Decision} {at to : ℕ} → (r.within || some_open r) ≡ true → decide r flags at ≡ Chosen d to → Decided d at to
  unfolding decide
  decide_sound {d} o h =
      let s = sound_split _ refl h in
      record { ok = may_say r d ∙ and_intro (r.within || some_open r) (can_say r d) o s.values; reads = s.reads }
