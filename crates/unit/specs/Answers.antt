-- Answers: document 01's numbers and values, and what a call leaves in the buffer that it was lent.
use Rattle.std.specs.Prelude.{ℕ, ◌≡◌, cond, List, ◌++◌, ◌↔◌, length, drop, ltb}
use Rattle.tree.specs.Run.{Run, End, goes, stops}
use Rattle.refusals.specs.Said.{Said, Accepted, Refused}

-- an answer: what an accepted call gives, as a number, or a refusal's number and place
abbrev pub Answer : Type 0
Answer = Said ℕ

-- document 01's number of an answer: that of a refusal, or 0 where the call is accepted
abbrev pub number_of : Answer → ℕ
number_of (Accepted count) = 0
number_of (Refused number place) = number

-- an answer has the number 0 exactly where it accepts
abbrev pub ZeroIsAccepted : Answer → Type 0
ZeroIsAccepted answer = (number_of answer ≡ 0) ↔ ((count : ℕ) × (answer ≡ Accepted count))

-- its value: the place of a refusal, or what an accepted call answers: the count of rows, flags or bytes of a page, or the number of a comparison
abbrev pub value_of : Answer → ℕ
value_of (Accepted count) = count
value_of (Refused number place) = place

-- a call's answer, and what the buffer that it was lent holds afterwards
pub record Outcome : Type 0 where
  pub answer : Answer
  pub buffer : List ℕ

-- a function's answer and the buffer that it leaves are those of an outcome
pub record Meets (o : Outcome) (said : Answer) (left : List ℕ) : Type 0 where
  pub answers : said ≡ o.answer
  pub leaves : left ≡ o.buffer

-- "Buffers and session stay untouched"
abbrev pub refused : ℕ → ℕ → List ℕ → Outcome
refused number place buffer = record { answer = Refused number place; buffer = buffer }

-- "Bytes of a lent buffer past the answer stay untouched"
abbrev pub accepted : ℕ → List ℕ → List ℕ → Outcome
accepted count bytes buffer = record { answer = Accepted count; buffer = bytes ++ drop (length bytes) buffer }

-- So much, as bytes, into a buffer: refused with a number where it is too short for them, the place the count that is needed.
unfoldable pub deliver : ℕ → ℕ → List ℕ → List ℕ → Outcome
deliver number count bytes buffer = cond (ltb (length buffer) (length bytes)) (refused number count buffer) (accepted count bytes buffer)

-- a run's own refusal, or what it gave, as bytes, into a buffer
unfoldable pub finish_end : {S : Type 0} → ℕ → ℕ → List ℕ → End S → List ℕ → Outcome
finish_end number count bytes (stops k p) buffer = refused k p buffer
finish_end number count bytes (goes s) buffer = deliver number count bytes buffer

abbrev pub finish : {A S : Type 0} → (List A → List ℕ) → ℕ → Run A S → List ℕ → Outcome
finish bytes number r buffer = finish_end number (length r.given) (bytes r.given) r.end buffer

-- the answer of a run whose outcome is not delivered: its own refusal, or how much it gave
abbrev pub end_answer : {S : Type 0} → ℕ → End S → Answer
end_answer count (stops k p) = Refused k p
end_answer count (goes s) = Accepted count

abbrev pub answer_of : {A S : Type 0} → Run A S → Answer
answer_of r = end_answer (length r.given) r.end
