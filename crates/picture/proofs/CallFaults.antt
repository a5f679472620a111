-- Opening and the unit call are decided by their faults, whatever the settings.
use Prim.Native.Nat.{ℕ}
use mathlib.Core.Path.{◌≡◌, refl, sym, ap, subst, ◌∙◌}
use mathlib.Core.List.{List}
use mathlib.Core.Logic.{inl, inr}
use lib.ListN.{length}
use borrow.Author.Tests.{eq-eqb, ne_eqb, lt-leb}
use native.Mathlib.Omega.{arith}
use native.Mathlib.Decide.{ℕ_discrete}
use Rattle.settings.specs.Units.{refusal_at}
use Rattle.refusals.specs.Said as answer
use Rattle.unit.specs.Answers.{refused}
use Rattle.unit.specs.Units.{Units, refusal_in}
use Rattle.unit.specs.Exactly.{OneOf}
use Rattle.unit.specs.Faults.{ReadFault, read_unit_fault, read_flags, read_room, Decides}
use Rattle.unit.proofs.Decided.{decides, answer_fault, reading_decides, read_refused}
use Rattle.unit.proofs.ReadsExactly.{fault_number}
use Rattle.unit.proofs.Sound.{Sound, unit_none}
use Rattle.picture.specs.State.{opened_by, Call, call_in, next_due}
use Rattle.picture.specs.CallFaults.{Opens, UnitDue, CallFault, call_settings, call_past, call_complete, call_address, call_flags, call_room, call_numbers}
use Rattle.picture.proofs.StateCalls.{StateCase, no_settings, past_end, complete, elsewhere, here, state_case, call_without_settings, call_past_the_end, call_when_complete, call_out_of_order, call_on_the_due}

-- ---- an opening

module _ (us : Units) {Opened : Type 0} (fresh : Opened) (refusal : ℕ → Opened) where
  pub opens_with : us.refusal ≡ 0 → opened_by us fresh refusal ≡ fresh
  unfolding opened_by
  opens_with e = rw (eq-eqb us.refusal 0 e)

  pub refused_with : ¬ (us.refusal ≡ 0) → opened_by us fresh refusal ≡ refusal us.refusal
  unfolding opened_by
  refused_with e = rw (ne_eqb us.refusal 0 e)

  -- a fresh session is no refusal, and a refusal has one number
  module _ (apart : (number : ℕ) → ¬ (fresh ≡ refusal number)) (one : (m n : ℕ) → refusal m ≡ refusal n → m ≡ n) (law : Sound us) where
    faulty : {number : ℕ} → us.Fault number → ¬ (us.refusal ≡ 0)
    faulty f z = let r = law.refused f in let e = r.0 in let l = r.1 in omega arith

    pub opens : Opens us (opened_by us fresh refusal) fresh refusal
    opens = go (ℕ_discrete us.refusal 0)
      where
        go : Dec (us.refusal ≡ 0) → Opens us (opened_by us fresh refusal) fresh refusal
        go (yes e) = let o = opens_with e in record {
          uses = λ number g. absurd (apart number (sym o ∙ g));
          refuses = λ number. (λ g. absurd (apart number (sym o ∙ g)), λ f. absurd (faulty f e));
          accepts = (λ g number f. faulty f e, λ none. o);
        }
        go (no e) = let o = refused_with e in let f = law.fault refl (omega arith) in record {
          uses = λ number g. law.listed (subst us.Fault (one us.refusal number (sym o ∙ g)) f);
          refuses = λ number. (λ g. subst us.Fault (one us.refusal number (sym o ∙ g)) f, λ h. o ∙ ap refusal (law.refused h).0);
          accepts = (λ g number h. absurd (apart us.refusal (sym g ∙ o)), λ none. absurd (none us.refusal f));
        }

-- an opening that yields something but a refusal yields the fresh session, and the settings pass
pub fresh_passed : (us : Units) {Opened : Type 0} {yielded : Opened} (fresh : Opened) (refusal : ℕ → Opened) → ((number : ℕ) → ¬ (refusal number ≡ yielded))
    → opened_by us fresh refusal ≡ yielded → (us.refusal ≡ 0) × (fresh ≡ yielded)
fresh_passed us {yielded = yielded} fresh refusal apart e = go (ℕ_discrete us.refusal 0)
  where
    go : Dec (us.refusal ≡ 0) → (us.refusal ≡ 0) × (fresh ≡ yielded)
    go (yes o) = (o, sym (opens_with us fresh refusal o) ∙ e)
    go (no o) = absurd (apart us.refusal (sym (refused_with us fresh refusal o) ∙ e))

-- ---- a unit call

module _ {us : Units} (law : Sound us) (due : ℕ) (c : Call) where
  -- the due unit is there
  there : UnitDue us due → refusal_in us due ≡ 0
  unfolding refusal_at
  there u = rw (eq-eqb us.refusal 0 u.passed, lt-leb us.count due u.below)

  -- ---- a refusal has its fault

  call_fault : (number place : ℕ) → (call_in us due c).answer ≡ answer.Refused number place → CallFault us due c number place
  call_fault number place e = go (state_case us due c)
    where
      from : {k p : ℕ} → CallFault us due c k p → call_in us due c ≡ refused k p c.buffer → CallFault us due c number place
      from f w = answer_fault (CallFault us due c) f w e

      read : UnitDue us due → c.address ≡ due → {k p : ℕ} → ReadFault us due c.flags (length c.buffer) k p → CallFault us due c k p
      read u a (read_unit_fault f) = absurd (unit_none law due (there u) f)
      read u a (read_flags h f) = call_flags u a f
      read u a (read_room h tree f l) = call_room u a tree f l

      go : StateCase us due c → CallFault us due c number place
      go (no_settings o) = from (call_settings o) (call_without_settings us due c o)
      go (past_end o l) = from (call_past o l) (call_past_the_end us due c o l)
      go (complete o d) = from (call_complete o d) (call_when_complete us due c o d)
      go (elsewhere u a) = from (call_address u a) (call_out_of_order us due c u a)
      go (here u a) = read u a (((reading_decides law due c.flags c.buffer).refuses number place).0 (ap (λ o. o.answer) (sym (call_on_the_due us due c u a)) ∙ e))

  -- ---- a fault is refused

  call_refused : (number place : ℕ) → CallFault us due c number place → call_in us due c ≡ refused number place c.buffer
  call_refused number place (call_settings o) = call_without_settings us due c o
  call_refused number place (call_past o l) = call_past_the_end us due c o l
  call_refused number place (call_complete o d) = call_when_complete us due c o d
  call_refused number place (call_address u a) = call_out_of_order us due c u a
  call_refused number place (call_flags u a f) = call_on_the_due us due c u a ∙ read_refused law due c.flags c.buffer number place (read_flags (there u) f)
  call_refused number place (call_room u a tree f l) = call_on_the_due us due c u a ∙ read_refused law due c.flags c.buffer number place (read_room (there u) tree f l)

  call_number : (number place : ℕ) → CallFault us due c number place → OneOf number call_numbers
  call_number number place (call_settings o) = inl refl
  call_number number place (call_past o l) = inl refl
  call_number number place (call_complete o d) = inr (inl refl)
  call_number number place (call_address u a) = inr (inr (inl refl))
  call_number number place (call_flags u a f) = inr (inr (inr (fault_number f)))
  call_number number place (call_room u a tree f l) = inr (inr (inr (inr (inr (inr (inl refl))))))

  -- a session, by the address due, and the buffer stay as they were
  pub call_decides_lem : {Session : Type 0} (at_due : ℕ → Session)
      → Decides {Lent = Session × List ℕ} (CallFault us due c) call_numbers (call_in us due c).answer (at_due due, c.buffer) (at_due (next_due due (call_in us due c).answer), (call_in us due c).buffer)
  call_decides_lem at_due =
      decides (CallFault us due c) call_numbers call_fault
      (λ number place f.
      let e = call_refused number place f in
      (ap (λ o. o.answer) e, ap (λ o. (at_due (next_due due o.answer), o.buffer)) e))
      call_number
