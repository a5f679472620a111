-- What a call answers: laws of the delivery into a buffer, and of a run's answer.
use Prim.Native.Nat.{ℕ, ◌≤◌, ◌<◌}
use mathlib.Core.Path.{◌≡◌, refl, ◌∙◌}
use mathlib.Core.Bool.{Bool, true, false, cond}
use mathlib.Core.List.{List}
use lib.ListN.{length}
use lib.Dec.{ltb}
use borrow.Author.Tests.{lt-ltb, le-ltb, ltb-true}
use Rattle.tree.specs.Run.{Run, End, goes, stops}
use Rattle.laws.proofs.Tests.{never}
use Rattle.refusals.specs.Said.{Accepted, Refused}
use Rattle.unit.specs.Answers.{refused, accepted, deliver, answer_of}
use Rattle.unit.specs.Exactly.{OneOf, AcceptedOr}

module _ (number count : ℕ) (bytes buffer : List ℕ) where
  -- into a buffer that is long enough
  pub deliver_all_lem : length bytes ≤ length buffer → deliver number count bytes buffer ≡ accepted count bytes buffer
  unfolding deliver
  deliver_all_lem h = rw (le-ltb (length buffer) (length bytes) h)

  -- into one that is too short
  pub deliver_short : length buffer < length bytes → deliver number count bytes buffer ≡ refused number count buffer
  unfolding deliver
  deliver_short h = rw (lt-ltb (length buffer) (length bytes) h)

  -- a refused delivery was into one
  pub undelivered : {a p : ℕ} → (deliver number count bytes buffer).answer ≡ Refused a p → (number ≡ a) × (count ≡ p) × (length buffer < length bytes)
  unfolding deliver
  undelivered {a} {p} e = go (ltb (length buffer) (length bytes)) refl e
    where
      go : (b : Bool) → ltb (length buffer) (length bytes) ≡ b → (cond b (refused number count buffer) (accepted count bytes buffer)).answer ≡ Refused a p
          → (number ≡ a) × (count ≡ p) × (length buffer < length bytes)
      go true l e = (cc, cc, ltb-true (length buffer) (length bytes) l)
      go false l e = never (cc)

  -- an accepted delivery has its count, and is whole
  pub delivered : {m : ℕ} → (deliver number count bytes buffer).answer ≡ Accepted m → (count ≡ m) × (deliver number count bytes buffer ≡ accepted count bytes buffer)
  unfolding deliver
  delivered {m} e = go (ltb (length buffer) (length bytes)) e
    where
      go : (b : Bool) → (cond b (refused number count buffer) (accepted count bytes buffer)).answer ≡ Accepted m
          → (count ≡ m) × (cond b (refused number count buffer) (accepted count bytes buffer) ≡ accepted count bytes buffer)
      go true e = never (cc)
      go false e = (cc, refl)

  -- it is accepted, or has the number given
  pub deliver_or : (numbers : List ℕ) → OneOf number numbers → AcceptedOr numbers (deliver number count bytes buffer).answer
  unfolding deliver
  deliver_or numbers o = go (ltb (length buffer) (length bytes))
    where
      go : (b : Bool) → AcceptedOr numbers (cond b (refused number count buffer) (accepted count bytes buffer)).answer
      go true = o
      go false = tt

-- ---- what the answer of a run says of its end

module _ {A S : Type 0} (run : Run A S) where
  pub answer_stops : {k p : ℕ} → answer_of run ≡ Refused k p → run.end ≡ stops k p
  answer_stops {k} {p} e = go run.end refl e
    where
      go : (end : End S) → run.end ≡ end → answer_of run ≡ Refused k p → run.end ≡ stops k p
      go (goes s) f g = let h = rw f at g in never (cc)
      go (stops a b) f g = let h = rw f at g in let x : a ≡ k = cc in let y : b ≡ p = cc in f ∙ rw (x, y)

  pub answer_goes : {n : ℕ} → answer_of run ≡ Accepted n → (length run.given ≡ n) × (s : S) × (run.end ≡ goes s)
  answer_goes {n} e = go run.end refl e
    where
      go : (end : End S) → run.end ≡ end → answer_of run ≡ Accepted n → (length run.given ≡ n) × (s : S) × (run.end ≡ goes s)
      go (goes s) f g = let h = rw f at g in let c : length run.given ≡ n = cc in (c, s, f)
      go (stops a b) f g = let h = rw f at g in never (cc)
