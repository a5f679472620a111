-- The unit call of a function, by the state that it found.
use Prim.Native.Nat.{ℕ}
use mathlib.Core.Path.{◌≡◌, sym, ap, subst, ◌∙◌}
use mathlib.Core.List.{List}
use Rattle.settings.specs.Units.{Count}
use Rattle.settings.specs.Units.{counted_by}
use Rattle.unit.specs.Answers.{Answer}
use Rattle.refusals.specs.Said.{Accepted, Refused}
use Rattle.unit.specs.Answers.{Outcome, Meets}
use Rattle.unit.specs.Units.{Units}
use Rattle.unit.specs.Reader.{read_in}
use Rattle.picture.specs.State.{State, Call, state_of, call_in, Returns}
use Rattle.picture.specs.CallFaults.{UnitDue}
use Rattle.picture.proofs.StateCalls.{on_refused, on_due, due_here}

module _ (us : Units) (due : ℕ) (c : Call) {count : Count} (e : count ≡ counted_by us.refusal us.count) {found : State} (f : found ≡ state_of count due c.address) where
  state_is : {st : State} → found ≡ st → state_of (counted_by us.refusal us.count) due c.address ≡ st
  state_is {st} g = subst (λ x. state_of x due c.address ≡ st) e (sym f ∙ g)

  -- the unit that was found due
  pub found_due : found ≡ Accepted tt → UnitDue us due
  found_due g = (due_here us due c (state_is g)).0

  module _ {Called : Type 0} (returned : Answer → Called) {r : Called} {left : List ℕ} where
    by : {o : Outcome} → call_in us due c ≡ o → r ≡ returned o.answer → left ≡ o.buffer → Returns returned (call_in us due c) r left
    by u a b = record { returns = a ∙ ap (λ o. returned o.answer) (sym u); leaves = b ∙ ap (λ o. o.buffer) (sym u) }

    pub state_refused : {number place : ℕ} → found ≡ Refused number place → r ≡ returned (Refused number place) → left ≡ c.buffer
        → Returns returned (call_in us due c) r left
    state_refused g = by (on_refused us due c (state_is g))

    pub unit_read : found ≡ Accepted tt → {answer : Answer} → Meets (read_in us c.address c.flags c.buffer) answer left → r ≡ returned answer
        → Returns returned (call_in us due c) r left
    unit_read g m a = by (on_due us due c (state_is g)) (a ∙ ap returned m.answers) m.leaves
