-- What it means that bytes are read from one place to another.
use Prim.Native.Nat.{ℕ, suc, ◌+◌, ◌≤◌, ◌<◌}
use mathlib.Core.Path.{◌≡◌, refl, sym, ap, ap₂, ◌∙◌}
use mathlib.Core.List.{List, [], ◌∷◌, ◌++◌, append-nil}
use lib.ListN.{length, get_or, drop, drop_of_length-le, length-append}
use lib.Seq.{drop-cons, get_or-append_seam, append_snoc}
use native.Mathlib.Omega.{arith}
use native.Mathlib.Numerals.{add-one}

-- these are the bytes from one place up to another
pub data Reads (flags : List ℕ) : ℕ → List ℕ → ℕ → Type 0 where
  nothing : {at : ℕ} → Reads flags at [] at
  byte : {at to b : ℕ} {bs : List ℕ} → at < length flags → get_or flags at 0 ≡ b → Reads flags (at + 1) bs to → Reads flags at (b ∷ bs) to

module _ {flags : List ℕ} where
  pub reads_join : {a b : List ℕ} {from mid to : ℕ} → Reads flags from a mid → Reads flags mid b to → Reads flags from (a ++ b) to
  reads_join nothing r = r
  reads_join (byte l e p) r = byte l e (reads_join p r)

  pub reads_part : (a : List ℕ) {b : List ℕ} {from to : ℕ} → Reads flags from (a ++ b) to → (mid : ℕ) × Reads flags from a mid × Reads flags mid b to
  reads_part [] {b} {from} r = (from, nothing, r)
  reads_part (x ∷ a) (byte l e r) = let t = reads_part a r in (t.0, byte l e t.1, t.2)

  -- no byte is read past the end
  pub reads_within : {at to : ℕ} {bs : List ℕ} → Reads flags at bs to → at ≤ length flags → to ≤ length flags
  reads_within nothing h = h
  reads_within (byte l e r) h = reads_within r (omega arith)

  pub reads_drop : {at to : ℕ} {bs : List ℕ} → Reads flags at bs to → drop at flags ≡ bs ++ drop to flags
  reads_drop nothing = refl
  reads_drop (byte {at = at} l e r) = drop-cons flags at 0 l ∙ ap₂ (λ x y. x ∷ y) e (rw add-one at (reads_drop r))

  pub reads_length : {at to : ℕ} {bs : List ℕ} → Reads flags at bs to → at + length bs ≡ to
  reads_length nothing = omega arith
  reads_length (byte l e r) = let h = reads_length r in omega arith

  -- bytes read from the first place on, and the byte after them
  pub reads_seam : {to : ℕ} {bs : List ℕ} → Reads flags 0 bs to → to < length flags → flags ≡ bs ++ (get_or flags to 0 ∷ drop (suc to) flags)
  reads_seam {to} {bs} r l = reads_drop r ∙ ap (λ rest. bs ++ rest) (drop-cons flags to 0 l)

  -- the bytes read from the first place to the end are all bytes
  pub reads_end : {to : ℕ} {bs : List ℕ} → Reads flags 0 bs to → length flags ≤ to → bs ≡ flags
  reads_end {to} {bs} r h = sym (reads_drop r ∙ rw (drop_of_length-le flags h) (append-nil bs))

-- bytes between others are read there; all bytes are read from the first place to the end
pub reads_from : (pre bs rest : List ℕ) (at : ℕ) → length pre ≡ at → Reads (pre ++ (bs ++ rest)) at bs (at + length bs)
reads_from pre [] rest at e = let z : at + 0 ≡ at = omega arith in rw z nothing
reads_from pre (b ∷ bs) rest at e =
    let r = reads_from (pre ++ (b ∷ [])) bs rest (at + 1) (rw length-append (omega arith)) in
    let s : at + 1 + length bs ≡ at + suc (length bs) = omega arith in
    byte {at = at} {b = b} (rw length-append (omega arith)) (rw (← e) (get_or-append_seam pre b (bs ++ rest) 0)) (rw (s, append_snoc pre b (bs ++ rest)) at r)

pub reads_all : (bs : List ℕ) → Reads bs 0 bs (length bs)
reads_all bs = let z : 0 + length bs ≡ length bs = omega arith in rw (z, append-nil bs) at (reads_from [] bs [] 0 refl)
