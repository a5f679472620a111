-- The unit call by the state of its session, whatever the settings.
use Prim.Native.Nat.{ℕ, ◌+◌, ◌<◌}
use mathlib.Core.Path.{◌≡◌, sym, ap, ◌∙◌}
use native.Mathlib.Omega.{arith}
use native.Mathlib.Decide.{ℕ_discrete, dec_lt}
use borrow.Author.Tests.{eq-eqb, ne_eqb, lt-ltb, le-ltb}
use Rattle.settings.specs.Units.{Count}
use Rattle.settings.specs.Units.{counted_by}
use Rattle.laws.proofs.Tests.{never}
use Rattle.unit.specs.Answers.{Answer}
use Rattle.refusals.specs.Said.{Accepted, Refused}
use Rattle.unit.specs.Answers.{Outcome, refused}
use Rattle.unit.specs.Units.{Units}
use Rattle.unit.specs.Reader.{read_in}
use Rattle.picture.specs.State.{State, Call, state_of, call_in, next_due}
use Rattle.picture.specs.CallFaults.{UnitDue}
use Rattle.picture.specs.OneTree.{tree_units}
use Rattle.picture.proofs.OneTree.{SessionLaws}

-- ---- the state that a call finds

module _ (us : Units) (due : ℕ) (c : Call) where
  abbrev counted : Count
  counted = counted_by us.refusal us.count

  abbrev found : State
  found = state_of counted due c.address

  pub on_refused : {number place : ℕ} → found ≡ Refused number place → call_in us due c ≡ refused number place c.buffer
  unfolding call_in
  on_refused e = rw e

  pub on_due : found ≡ Accepted tt → call_in us due c ≡ read_in us c.address c.flags c.buffer
  unfolding call_in
  on_due e = rw e

  -- ---- by its tests

  meets_settings : ¬ (us.refusal ≡ 0) → found ≡ Refused 22 0
  unfolding state_of counted_by
  meets_settings e = rw (ne_eqb us.refusal 0 e)

  meets_past : us.refusal ≡ 0 → us.count < due → found ≡ Refused 22 0
  unfolding state_of counted_by
  meets_past e l = rw (eq-eqb us.refusal 0 e, lt-ltb us.count due l)

  meets_complete : us.refusal ≡ 0 → due ≡ us.count → found ≡ Refused 20 0
  unfolding state_of counted_by
  meets_complete e d = rw (eq-eqb us.refusal 0 e, le-ltb us.count due (omega arith), eq-eqb due us.count d)

  meets_address : UnitDue us due → ¬ (c.address ≡ due) → found ≡ Refused 21 due
  unfolding state_of counted_by
  meets_address u a =
      let l = u.below in
      rw (eq-eqb us.refusal 0 u.passed, le-ltb us.count due (omega arith), ne_eqb due us.count (λ e. omega arith), ne_eqb c.address due a)

  meets_none : UnitDue us due → c.address ≡ due → found ≡ Accepted tt
  unfolding state_of counted_by
  meets_none u a =
      let l = u.below in
      rw (eq-eqb us.refusal 0 u.passed, le-ltb us.count due (omega arith), ne_eqb due us.count (λ e. omega arith), eq-eqb c.address due a)

  -- ---- the calls that these make

  pub call_without_settings : ¬ (us.refusal ≡ 0) → call_in us due c ≡ refused 22 0 c.buffer
  call_without_settings e = on_refused (meets_settings e)

  pub call_past_the_end : us.refusal ≡ 0 → us.count < due → call_in us due c ≡ refused 22 0 c.buffer
  call_past_the_end e l = on_refused (meets_past e l)

  pub call_when_complete : us.refusal ≡ 0 → due ≡ us.count → call_in us due c ≡ refused 20 0 c.buffer
  call_when_complete e d = on_refused (meets_complete e d)

  pub call_out_of_order : UnitDue us due → ¬ (c.address ≡ due) → call_in us due c ≡ refused 21 due c.buffer
  call_out_of_order u a = on_refused (meets_address u a)

  pub call_on_the_due : UnitDue us due → c.address ≡ due → call_in us due c ≡ read_in us due c.flags c.buffer
  call_on_the_due u a = on_due (meets_none u a) ∙ ap (λ x. read_in us x c.flags c.buffer) a

-- ---- which one it is

pub data StateCase (us : Units) (due : ℕ) (c : Call) : Type 0 where
  no_settings : ¬ (us.refusal ≡ 0) → StateCase us due c
  past_end : us.refusal ≡ 0 → us.count < due → StateCase us due c
  complete : us.refusal ≡ 0 → due ≡ us.count → StateCase us due c
  elsewhere : UnitDue us due → ¬ (c.address ≡ due) → StateCase us due c
  here : UnitDue us due → c.address ≡ due → StateCase us due c

module _ (us : Units) (due : ℕ) (c : Call) where
  pub state_case : StateCase us due c
  state_case = go (ℕ_discrete us.refusal 0) (dec_lt us.count due) (ℕ_discrete due us.count) (ℕ_discrete c.address due)
    where
      go : Dec (us.refusal ≡ 0) → Dec (us.count < due) → Dec (due ≡ us.count) → Dec (c.address ≡ due) → StateCase us due c
      go (no o) p d a = no_settings o
      go (yes o) (yes l) d a = past_end o l
      go (yes o) (no l) (yes d) a = complete o d
      go (yes o) (no l) (no d) (yes a) = here (record { passed = o; below = omega arith }) a
      go (yes o) (no l) (no d) (no a) = elsewhere (record { passed = o; below = omega arith }) a

  -- a state without a refusal, and a call that is accepted, find the due unit
  pub due_here : state_of (counted_by us.refusal us.count) due c.address ≡ Accepted tt → UnitDue us due × (c.address ≡ due)
  due_here e = go state_case
    where
      go : StateCase us due c → UnitDue us due × (c.address ≡ due)
      go (no_settings o) = let f = meets_settings us due c o in never (cc)
      go (past_end o l) = let f = meets_past us due c o l in never (cc)
      go (complete o d) = let f = meets_complete us due c o d in never (cc)
      go (elsewhere u a) = let f = meets_address us due c u a in never (cc)
      go (here u a) = (u, a)

  pub accepted_here : {m : ℕ} → (call_in us due c).answer ≡ Accepted m → UnitDue us due × (c.address ≡ due)
  accepted_here {m} e = go state_case
    where
      none : {number place : ℕ} → call_in us due c ≡ refused number place c.buffer → UnitDue us due × (c.address ≡ due)
      none f = never (cc)

      go : StateCase us due c → UnitDue us due × (c.address ≡ due)
      go (no_settings o) = none (call_without_settings us due c o)
      go (past_end o l) = none (call_past_the_end us due c o l)
      go (complete o d) = none (call_when_complete us due c o d)
      go (elsewhere u a) = none (call_out_of_order us due c u a)
      go (here u a) = (u, a)

-- ---- a session whose calls are these, by the address due

module _ (us : Units) (side : ℕ) {Session : Type 0} {call : Session → Call → Outcome} {follow : Session → Answer → Session} where
  pub state_laws : (at_due : ℕ → Session) → ((a : ℕ) (c : Call) → call (at_due a) c ≡ call_in us a c)
      → ((a : ℕ) (answer : Answer) → follow (at_due a) answer ≡ at_due (next_due a answer))
      → SessionLaws (tree_units us side) call follow (λ a. a + 1) (λ a t. t ≡ at_due a)
  state_laws at_due calls follows = record {
    stays = λ {a} d number place. ap (λ t. follow t (Refused number place)) d ∙ follows a (Refused number place);
    moves = λ {a} d m. ap (λ t. follow t (Accepted m)) d ∙ follows a (Accepted m);
    reads = λ {a} d c e.
        let f = ap (λ t. call t c) d ∙ calls a c in
        let h = accepted_here us a c (ap (λ w. w.answer) (sym f) ∙ e) in
        (h.1, f ∙ call_on_the_due us a c h.0 h.1);
  }
