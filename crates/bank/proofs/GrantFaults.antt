-- A grant is decided by its faults.
use Prim.Native.Nat.{ℕ, ◌≤◌, ◌<◌}
use mathlib.Core.Path.{◌≡◌, refl, sym, ap, subst, ◌∙◌}
use mathlib.Core.Bool.{true}
use mathlib.Core.List.{List, [], ◌∷◌, ◌++◌}
use mathlib.Core.Logic.{inl, inr}
use native.Mathlib.Omega.{arith}
use native.Mathlib.Decide.{dec_lt}
use lib.ListN.{length}
use lib.Seq.{set-get_or}
use borrow.Author.Tests.{lt-ltb, le-ltb}
use Rattle.laws.proofs.Tests.{never}
use Rattle.unit.specs.Answers.{Answer}
use Rattle.refusals.specs.Said.{Accepted, Refused}
use Rattle.unit.specs.Answers.{Outcome, refused}
use Rattle.unit.specs.Units.{Units}
use Rattle.unit.specs.Exactly.{OneOf, AcceptedOr}
use Rattle.unit.specs.Faults.{Decides}
use Rattle.unit.proofs.Decided.{decides, answer_fault}
use Rattle.unit.proofs.Numbers.{not_listed}
use Rattle.unit.proofs.Sound.{Sound}
use Rattle.picture.specs.State.{Call, call_in, next_due}
use Rattle.picture.specs.CallFaults.{CallFault, call_numbers}
use Rattle.picture.proofs.CallFaults.{call_decides_lem}
use Rattle.bank.specs.declared.accounts.Account.{Account}
use Rattle.bank.specs.Accounts.{none, shares, drawn, common_part, exceeded, left_of}
use Rattle.bank.specs.Granting.{within}
use Rattle.bank.specs.Bank.{account_of, grant_in, accounts_after}
use Rattle.bank.specs.GrantFaults.{Passes, could_have, GrantFault, no_account, shares_exceed, part_overdrawn, unit_fault, too_many, grant_numbers}
use Rattle.bank.proofs.OnAccount.{on_exceeded, on_passed}
use Rattle.bank.proofs.Grants.{grant_absent, grant_there}

-- ---- a unit call within so many rows

module _ (could : ℕ) (b : List ℕ) (o : Outcome) where
  pub within_refused : {number place : ℕ} → o.answer ≡ Refused number place → within could b o ≡ o
  unfolding within
  within_refused e = rw e

  pub within_fits : {n : ℕ} → o.answer ≡ Accepted n → n ≤ could → within could b o ≡ o
  unfolding within
  within_fits {n} e l = rw (e, le-ltb could n l)

  pub within_more : {n : ℕ} → o.answer ≡ Accepted n → could < n → within could b o ≡ refused 36 could b
  unfolding within
  within_more {n} e l = rw (e, lt-ltb could n l)

-- ---- the tests of the accounts, one after the other

module _ (us : Units) (due limit : ℕ) (accounts : List Account) (camera : ℕ) (c : Call) where
  pub data BankCase : Type 0 where
    absent : length accounts ≤ camera → BankCase
    exceeding : camera < length accounts → limit < shares accounts → BankCase
    overdrawing : camera < length accounts → shares accounts ≤ limit → common_part limit accounts < drawn accounts → BankCase
    passing : Passes limit accounts camera → BankCase

  pub bank_case : BankCase
  bank_case = go (dec_lt camera (length accounts)) (dec_lt limit (shares accounts)) (dec_lt (common_part limit accounts) (drawn accounts))
    where
      go : Dec (camera < length accounts) → Dec (limit < shares accounts) → Dec (common_part limit accounts < drawn accounts) → BankCase
      go (no h) s d = absent (omega arith)
      go (yes h) (yes s) d = exceeding h s
      go (yes h) (no s) (yes d) = overdrawing h (omega arith) d
      go (yes h) (no s) (no d) = passing (record { there = h; shares_fit = omega arith; drawn_fit = omega arith })

  -- 38
  refused_38 : camera < length accounts → exceeded limit accounts ≡ true → grant_in us due limit accounts camera c ≡ refused 38 0 c.buffer
  refused_38 h e = grant_there us due limit accounts camera c h ∙ on_exceeded (left_of limit accounts) (account_of accounts camera) e c.buffer (call_in us due c)

  pub grant_exceeding : camera < length accounts → limit < shares accounts → grant_in us due limit accounts camera c ≡ refused 38 0 c.buffer
  grant_exceeding h s = refused_38 h (rw (lt-ltb limit (shares accounts) s))

  pub grant_overdrawing : camera < length accounts → shares accounts ≤ limit → common_part limit accounts < drawn accounts → grant_in us due limit accounts camera c ≡ refused 38 0 c.buffer
  grant_overdrawing h s d = refused_38 h (rw (le-ltb limit (shares accounts) s, lt-ltb (common_part limit accounts) (drawn accounts) d))

  -- the unit call
  pub grant_passing : Passes limit accounts camera → grant_in us due limit accounts camera c ≡ within (could_have limit accounts camera) c.buffer (call_in us due c)
  grant_passing p =
      grant_there us due limit accounts camera c p.there
      ∙ on_passed (left_of limit accounts) (account_of accounts camera) (rw (le-ltb limit (shares accounts) p.shares_fit, le-ltb (common_part limit accounts) (drawn accounts) p.drawn_fit)) refl c.buffer (call_in us due c)

  module _ (law : Sound us) where
    -- ---- the unit call's own

    decided : Decides {Lent = ℕ × List ℕ} (CallFault us due c) call_numbers (call_in us due c).answer (due, c.buffer) (next_due due (call_in us due c).answer, (call_in us due c).buffer)
    decided = call_decides_lem law due c (λ d. d)

    call_refused : {number place : ℕ} → CallFault us due c number place → call_in us due c ≡ refused number place c.buffer
    call_refused {number} {place} f =
        let e = (decided.refuses number place).1 f in
        let l = ap (λ (x : ℕ × List ℕ). x.1) (decided.leaves number place e) in
        λ i. record { answer = e i; buffer = l i }

    call_number : {number place : ℕ} → CallFault us due c number place → OneOf number call_numbers
    call_number {number} {place} f = subst (AcceptedOr call_numbers) ((decided.refuses number place).1 f) decided.uses

    -- ---- a refusal has its fault

    grant_fault : (number place : ℕ) → (grant_in us due limit accounts camera c).answer ≡ Refused number place → GrantFault us due limit accounts camera c number place
    grant_fault number place e = go bank_case
      where
        from : {k p : ℕ} → GrantFault us due limit accounts camera c k p → grant_in us due limit accounts camera c ≡ refused k p c.buffer → GrantFault us due limit accounts camera c number place
        from f w = answer_fault (GrantFault us due limit accounts camera c) f w e

        call : Passes limit accounts camera → (answer : Answer) → (call_in us due c).answer ≡ answer → GrantFault us due limit accounts camera c number place
        call p (Refused k q) i =
            let w = grant_passing p ∙ within_refused (could_have limit accounts camera) c.buffer (call_in us due c) i in
            unit_fault p ((decided.refuses number place).0 (ap (λ (o : Outcome). o.answer) (sym w) ∙ e))
        call p (Accepted n) i = by (dec_lt (could_have limit accounts camera) n)
          where
            by : Dec (could_have limit accounts camera < n) → GrantFault us due limit accounts camera c number place
            by (yes l) = from (too_many p i l) (grant_passing p ∙ within_more (could_have limit accounts camera) c.buffer (call_in us due c) i l)
            by (no l) =
                let w = grant_passing p ∙ within_fits (could_have limit accounts camera) c.buffer (call_in us due c) i (omega arith) in
                let f = sym i ∙ ap (λ (o : Outcome). o.answer) (sym w) ∙ e in
                never (cc)

        go : BankCase → GrantFault us due limit accounts camera c number place
        go (absent h) = from (no_account h) (grant_absent us due limit accounts camera c h)
        go (exceeding h s) = from (shares_exceed h s) (grant_exceeding h s)
        go (overdrawing h s d) = from (part_overdrawn h s d) (grant_overdrawing h s d)
        go (passing p) = call p (call_in us due c).answer refl

    -- ---- a fault is refused

    grant_refused : (number place : ℕ) → GrantFault us due limit accounts camera c number place → grant_in us due limit accounts camera c ≡ refused number place c.buffer
    grant_refused number place (no_account h) = grant_absent us due limit accounts camera c h
    grant_refused number place (shares_exceed h s) = grant_exceeding h s
    grant_refused number place (part_overdrawn h s d) = grant_overdrawing h s d
    grant_refused number place (unit_fault p f) =
        let w = call_refused f in
        grant_passing p ∙ within_refused (could_have limit accounts camera) c.buffer (call_in us due c) (ap (λ (o : Outcome). o.answer) w) ∙ w
    grant_refused number place (too_many p i l) = grant_passing p ∙ within_more (could_have limit accounts camera) c.buffer (call_in us due c) i l

    -- the unit call's numbers stand before 36
    sooner : (number : ℕ) (ns : List ℕ) → OneOf number ns → OneOf number (ns ++ (36 ∷ []))
    sooner number [] o = elim o [ ]
    sooner number (n ∷ ns) (inl e) = inl e
    sooner number (n ∷ ns) (inr o) = inr (sooner number ns o)

    grant_number : (number place : ℕ) → GrantFault us due limit accounts camera c number place → OneOf number grant_numbers
    grant_number number place (no_account h) = inl refl
    grant_number number place (shares_exceed h s) = inr (inl refl)
    grant_number number place (part_overdrawn h s d) = inr (inl refl)
    grant_number number place (unit_fault p f) = inr (inr (sooner number call_numbers (call_number f)))
    grant_number number place (too_many p i l) = inr (inr (inr (inr (inr (inr (inr (inr (inr (inl refl)))))))))

    -- 38 is only of the accounts
    pub none_38 : {number place : ℕ} → Passes limit accounts camera → GrantFault us due limit accounts camera c number place → ¬ (number ≡ 38)
    none_38 p (no_account h) e = omega arith
    none_38 p (shares_exceed h s) e = let r = p.shares_fit in omega arith
    none_38 p (part_overdrawn h s d) e = let r = p.drawn_fit in omega arith
    none_38 p (unit_fault q f) e = not_listed 38 call_numbers refl (subst (λ (n : ℕ). OneOf n call_numbers) e (call_number f))
    none_38 p (too_many q i l) e = omega arith

    -- a session, by the address due, the accounts and the buffer stay as they were
    pub grant_decides_lem : {Session : Type 0} (at_due : ℕ → Session)
        → Decides {Lent = Session × List Account × List ℕ} (GrantFault us due limit accounts camera c) grant_numbers (grant_in us due limit accounts camera c).answer (at_due due, accounts, c.buffer)
        (at_due (next_due due (grant_in us due limit accounts camera c).answer), accounts_after accounts camera (grant_in us due limit accounts camera c).answer, (grant_in us due limit accounts camera c).buffer)
    grant_decides_lem at_due =
        decides (GrantFault us due limit accounts camera c) grant_numbers grant_fault
        (λ number place f.
        let e = grant_refused number place f in (
          ap (λ (o : Outcome). o.answer) e,
          ap (λ (o : Outcome). (at_due (next_due due o.answer), accounts_after accounts camera o.answer, o.buffer)) e ∙ ap (λ (l : List Account). (at_due due, l, c.buffer)) (set-get_or accounts camera none),
        ))
        grant_number
