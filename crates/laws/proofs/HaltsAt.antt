-- Where the flags of a decision stop: at their end, 11, or at a byte above 1, 12; and what was read up to there begins
-- the flags of an allowed decision.
use Prim.Native.Nat.{ℕ, ◌+◌, ◌≤◌, ◌<◌}
use mathlib.Core.Path.{◌≡◌, refl, ◌∙◌}
use mathlib.Core.Bool.{Bool, true, false, cond, ◌||◌}
use mathlib.Core.List.{List, [], ◌∷◌, ◌++◌, append_assoc}
use lib.ListN.{length, get_or}
use lib.Dec.{leb, ltb, eqb}
use borrow.Author.Tests.{ltb-true, ltb-false, leb-false}
use native.Mathlib.Omega.{arith}
use Rattle.sides.proofs.Bools.{and_left}
use Rattle.tree.specs.declared.Direction.{Direction}
use Rattle.tree.specs.declared.Direction.TheVariants.{Horizontal, Vertical}
use Rattle.tree.specs.declared.Decision.{Decision}
use Rattle.tree.specs.declared.Decision.TheVariants.{Leaf, Quad, Binary, Ternary}
use Rattle.tree.specs.Flags.{Flag}
use Rattle.tree.specs.Flags.{Value, Bad}
use Rattle.tree.specs.Flags.{Refused}
use Rattle.tree.specs.Splits.{pick, Rights, allows}
use Rattle.tree.specs.Flags.{cut_open, split_there, split_absent, quad_there, quad_absent, vertical_there, vertical_absent, binary_there, binary_absent, flag_at, after_binary, after_vertical, after_quad, after_split, decide, flag_byte, cut_flags, flags_for}
use Rattle.laws.proofs.Tests.{never}
use Rattle.laws.proofs.Bytes.{Reads, nothing, reads_join, reads_within}
use Rattle.laws.proofs.Flags.{Step, step_sound}

module _ (flags : List ℕ) where
  -- no flag stands at a place: the flags end there, or the byte is above 1
  pub data NoFlag : ℕ → ℕ → Type 0 where
    at_end : NoFlag 11 (length flags)
    above_1 : {at : ℕ} → at < length flags → 1 < get_or flags at 0 → NoFlag 12 at

  -- from a place on, the bytes begin a list of flags, and where the next flag is to stand there is none
  pub record Begins (whole : List ℕ) (at number place : ℕ) : Type 0 where
    pub front : List ℕ
    pub flag : ℕ
    pub more : List ℕ
    pub is : whole ≡ front ++ (flag ∷ more)
    pub reads : Reads flags at front place
    pub fault : NoFlag number place

  pub begins_longer : {whole : List ℕ} {at a p : ℕ} (rest : List ℕ) → Begins whole at a p
      → Begins (whole ++ rest) at a p
  begins_longer rest b = record { front = b.front; flag = b.flag; more = b.more ++ rest; is = rw b.is (append_assoc b.front (b.flag ∷ b.more) rest); reads = b.reads; fault = b.fault }

  pub begins_later : {first whole : List ℕ} {at mid a p : ℕ} → Reads flags at first mid → Begins whole mid a p
      → Begins (first ++ whole) at a p
  begins_later {first} r b = record { front = first ++ b.front; flag = b.flag; more = b.more; is = rw (b.is, append_assoc); reads = reads_join r b.reads; fault = b.fault }

  begins_now : {flag at a p : ℕ} {more : List ℕ} → at ≡ p → NoFlag a p → Begins (flag ∷ more) at a p
  begins_now {flag} {at} {a} {p} {more} e n = record { front = []; flag = flag; more = more; is = refl; reads = rw (← e) nothing; fault = n }

  -- ---- one flag

  there_bad : (at : ℕ) (b c v : Bool) {a p : ℕ} → ltb at (length flags) ≡ b → leb (get_or flags at 0) 1 ≡ c
      → at ≤ length flags
      → cond b (cond c (Value v (at + 1)) (Bad 12 at)) (Bad 11 (length flags)) ≡ Bad a p → (at ≡ p) × NoFlag a p
  there_bad at true true v i j l h = never (cc)
  there_bad at true false v {a} {p} i j l h =
      let e : 12 ≡ a = cc in
      let f : at ≡ p = cc in
      (f, rw (← e, ← f) (above_1 (ltb-true at (length flags) i) (leb-false (get_or flags at 0) 1 j)))
  there_bad at false c v {a} {p} i j l h =
      let e : 11 ≡ a = cc in
      let f : length flags ≡ p = cc in
      let g = ltb-false at (length flags) i in
      (omega arith, rw (← e, ← f) at_end)

  flag_bad : (there absent : Bool) {at a p : ℕ} → at ≤ length flags → flag_at there absent flags at ≡ Bad a p
      → (there ≡ true) × (at ≡ p) × NoFlag a p
  unfolding flag_at
  flag_bad true absent {at} l h =
      let b = there_bad at (ltb at (length flags)) (leb (get_or flags at 0) 1) (eqb (get_or flags at 0) 1) refl refl l h in
      (refl, b.0, b.1)
  flag_bad false absent l h = never (cc)

  -- a flag that is present, of either value
  flag_now : (there v : Bool) {at a p : ℕ} → (there ≡ true) × (at ≡ p) × NoFlag a p → Begins (flag_byte there v) at a p
  flag_now there v b = rw b.0 (begins_now b.1 b.2)

  -- ---- a decision, flag by flag

  module _ (r : Rights) where
    -- an allowed decision, whose flags the bytes begin
    pub record Halts (at a p : ℕ) : Type 0 where
      pub d : Decision
      pub ok : allows r d ≡ true
      pub begins : Begins (flags_for r d) at a p

    same_bad : {a p : ℕ} {k q at : ℕ} {there : Bool} → (there ≡ true) × (at ≡ q) × NoFlag k q
        → Refused k q ≡ Refused a p → (there ≡ true) × (at ≡ p) × NoFlag a p
    same_bad {a} {p} {k} {q} b h =
        let e : k ≡ a = cc in
        let f : q ≡ p = cc in
        (b.0, b.1 ∙ f, rw (e, f) at b.2)

    -- the cut of a direction of which one is open
    some_cut_lem : (e : Direction) {at a p : ℕ} → cut_open r e ≡ true
        → ((binary : Bool) → Begins (cut_flags r e binary) at a p) → Halts at a p
    unfolding flags_for
    some_cut_lem e {at} {a} {p} o begins = go (r.binary e) (r.ternary e) refl refl o
      where
        go : (b t : Bool) → r.binary e ≡ b → r.ternary e ≡ t → (b || t) ≡ true → Halts at a p
        go true t i j h = record { d = Binary e; ok = i; begins = begins true }
        go false true i j h = record { d = Ternary e; ok = j; begins = begins false }
        go false false i j h = never (cc)

    halt_binary : (e : Direction) (f : Flag) {at x y z a p : ℕ} → z ≤ length flags
        → Step flags (split_there r) (split_absent r) true at x → Step flags (quad_there r) (quad_absent r) false x y
        → Step flags (vertical_there r) (vertical_absent r) (pick e false true) y z
        → flag_at (binary_there r e) (binary_absent r e) flags z ≡ f → after_binary e f ≡ Refused a p → Halts at a p
    unfolding after_binary flags_for
    halt_binary e (Bad k q) l s t v i h =
        let b = same_bad (flag_bad (binary_there r e) (binary_absent r e) l i) h in
        record {
          d = Binary e;
          ok = and_left (r.binary e) (r.ternary e) b.0;
          begins = begins_later s.reads (begins_later t.reads (begins_later v.reads (flag_now (binary_there r e) true b)));
        }
    halt_binary e (Value true m) l s t v i h = never (cc)
    halt_binary e (Value false m) l s t v i h = never (cc)

    halt_vertical : (f : Flag) {at x y a p : ℕ} → y ≤ length flags
        → Step flags (split_there r) (split_absent r) true at x → Step flags (quad_there r) (quad_absent r) false x y
        → flag_at (vertical_there r) (vertical_absent r) flags y ≡ f → after_vertical r flags f ≡ Refused a p → Halts at a p
    unfolding after_vertical
    halt_vertical (Bad k q) l s t i h =
        let b = same_bad (flag_bad (vertical_there r) (vertical_absent r) l i) h in
        some_cut_lem Horizontal (and_left (cut_open r Horizontal) (cut_open r Vertical) b.0)
        (λ binary. begins_later s.reads (begins_later t.reads (begins_longer (flag_byte (binary_there r Horizontal) binary) (flag_now (vertical_there r) false b))))
    halt_vertical (Value true m) l s t i h =
        let v = step_sound flags (vertical_there r) (vertical_absent r) i in
        halt_binary Vertical _ (reads_within v.reads l) s t v refl h
    halt_vertical (Value false m) l s t i h =
        let v = step_sound flags (vertical_there r) (vertical_absent r) i in
        halt_binary Horizontal _ (reads_within v.reads l) s t v refl h

    halt_quad : (f : Flag) {at x a p : ℕ} → x ≤ length flags → Step flags (split_there r) (split_absent r) true at x
        → flag_at (quad_there r) (quad_absent r) flags x ≡ f → after_quad r flags f ≡ Refused a p → Halts at a p
    unfolding after_quad flags_for
    halt_quad (Bad k q) l s i h =
        let b = same_bad (flag_bad (quad_there r) (quad_absent r) l i) h in
        record { d = Quad; ok = and_left r.quad _ b.0; begins = begins_later s.reads (flag_now (quad_there r) true b) }
    halt_quad (Value true m) l s i h = never (cc)
    halt_quad (Value false m) l s i h =
        let t = step_sound flags (quad_there r) (quad_absent r) i in
        halt_vertical _ (reads_within t.reads l) s t refl h

    halt_split : (f : Flag) {at a p : ℕ} → at ≤ length flags → flag_at (split_there r) (split_absent r) flags at ≡ f
        → after_split r flags f ≡ Refused a p → Halts at a p
    unfolding after_split flags_for
    halt_split (Bad k q) l i h =
        let b = same_bad (flag_bad (split_there r) (split_absent r) l i) h in
        record { d = Leaf; ok = and_left r.within _ b.0; begins = flag_now (split_there r) false b }
    halt_split (Value true m) l i h =
        let s = step_sound flags (split_there r) (split_absent r) i in
        halt_quad _ (reads_within s.reads l) s refl h
    halt_split (Value false m) l i h = never (cc)

    pub decide_halts : {at a p : ℕ} → at ≤ length flags → decide r flags at ≡ Refused a p → Halts at a p
    unfolding decide
    decide_halts l h = halt_split _ l refl h
