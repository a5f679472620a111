-- The grant on a camera's account, as a function returns it.
use Prim.Native.Nat.{ℕ, ◌*◌, ◌/◌, ◌≤◌, ◌<◌, min}
use mathlib.Core.Path.{◌≡◌, refl, sym, ap, subst, ◌∙◌}
use mathlib.Core.Bool.{Bool, true, false, cond, ◌&&◌}
use mathlib.Core.List.{List, ◌++◌}
use native.Mathlib.Omega.{arith}
use native.Mathlib.Decide.{dec_lt}
use lib.Dec.{leb, eqb}
use lib.ListN.{length, take, drop}
use borrow.Author.Tests.{lt-ltb, le-ltb}
use Rattle.settings.specs.declared.Settings.{Settings}
use Rattle.laws.proofs.Tests.{never}
use Rattle.settings.proofs.Passed.{passed}
use Rattle.settings.proofs.Grid.{gridded, count_most}
use Rattle.unit.specs.Answers.{Answer}
use Rattle.std.proofs.Common.{Err}
use Rattle.refusals.specs.declared.Reason.TheVariants as reason
use Rattle.refusals.specs.Numbers.{refusal}
use Rattle.refusals.specs.Said.{Accepted, Refused, said}
use Rattle.unit.specs.Answers.{Outcome, Meets, refused}
use Rattle.unit.specs.Luma.{units_of}
use Rattle.unit.proofs.Luma.{luma_sound}
use Rattle.picture.specs.declared.Session.{Session}
use Rattle.picture.specs.declared.Called.{Called}
use Rattle.picture.specs.State.{Call, call, next_due, Returns}
use Rattle.picture.specs.Session.{unit_call, returned, replied}
use Rattle.picture.proofs.StateCalls.{accepted_here}
use Rattle.bank.specs.declared.accounts.Account.{Account}
use Rattle.bank.specs.Accounts.{Left, could, charged}
use Rattle.bank.specs.Granting.{allowed, within, on_account}
use Rattle.bank.specs.Steps.{judged, Grants}
use Rattle.bank.proofs.Parts.{part_call}

-- ---- the unit call within so many rows

-- an answer that is returned alone
pub answered : {o : Outcome} {r : Answer} {left : List ℕ} → Returns (λ x. x) o r left → Meets o r left
answered y = record { answers = y.returns; leaves = y.leaves }

-- the address due is small where a call is accepted
pub judged_small : (t : Session Settings) (c : Call) {said : Answer} {left : List ℕ} → Meets (unit_call units_of t c) said left → (room could : ℕ) {answer : Answer} → answer ≡ judged said room could
    → (count : ℕ) → answer ≡ Accepted count → t.due < 1048576
unfolding judged
judged_small t c {said} m room could e count i = go said m.answers (sym e ∙ i)
  where
    small : {n : ℕ} → (unit_call units_of t c).answer ≡ Accepted n → t.due < 1048576
    small f =
        let u = (accepted_here (units_of t.settings) t.due c f).0 in
        let w = count_most (gridded (passed t.settings u.passed)) in
        let l = u.below in
        omega arith

    by : (test : Bool) (number place : ℕ) → cond test (Refused 36 could) (Refused number place) ≡ Accepted count → t.due < 1048576
    by true number place f = never (cc)
    by false number place f = never (cc)

    go : (x : Answer) → x ≡ (unit_call units_of t c).answer → judged x room could ≡ Accepted count → t.due < 1048576
    go (Accepted n) f g = small (sym f)
    go (Refused number place) f g = by (eqb number 14 && leb place (room / 8)) number place g

pub within_returns : (t : Session Settings) (could address : ℕ) (flags b : List ℕ) {m : ℕ} → m ≡ min (length b) (8 * could) → {said : Answer} {left : List ℕ}
    → Meets (unit_call units_of t (call address flags (take m b))) said left → {answer : Answer} → answer ≡ judged said (length b) could → {due : ℕ} → due ≡ next_due t.due answer
    → Returns (returned t) (within could b (unit_call units_of t (call address flags b))) (record { settings = t.settings; due = due }, answer) (left ++ drop m b)
within_returns t could address flags b {m} is {said} {left} y {answer} e {due} d =
    let part = unit_call units_of t (call address flags (take m b)) in
    let w : within could b (unit_call units_of t (call address flags b)) ≡ record { answer = judged part.answer (length b) could; buffer = part.buffer ++ drop m b }
    = subst (λ n. let p = unit_call units_of t (call address flags (take n b)) in within could b (unit_call units_of t (call address flags b)) ≡ record { answer = judged p.answer (length b) could; buffer = p.buffer ++ drop n b }) (sym is)
    (part_call (luma_sound t.settings) t.due address flags b could) in
    let a : answer ≡ (within could b (unit_call units_of t (call address flags b))).answer = e ∙ ap (λ (x : Answer). judged x (length b) could) y.answers ∙ ap (λ (o : Outcome). o.answer) (sym w) in
    record {
      returns = ap {B = Session Settings × Answer} (λ n. (record { settings = t.settings; due = n }, answer)) d ∙ ap (returned t) a;
      leaves = ap (λ (l : List ℕ). l ++ drop m b) y.leaves ∙ ap (λ (o : Outcome). o.buffer) (sym w);
    }

-- ---- the account

-- no more rows are granted than could be had
pub within_most : (could : ℕ) (b : List ℕ) (o : Outcome) {count : ℕ} → (within could b o).answer ≡ Accepted count → count ≤ could
unfolding within
within_most could b o {count} e = go o.answer refl e
  where
    one : {n : ℕ} → Accepted n ≡ Accepted count → n ≡ count
    one h = cc

    go : (answer : Answer) → o.answer ≡ answer → (allowed could b o answer).answer ≡ Accepted count → count ≤ could
    go (Accepted n) i h = by (dec_lt could n) h
      where
        by : Dec (could < n) → (allowed could b o (Accepted n)).answer ≡ Accepted count → count ≤ could
        by (yes l) g = let k = rw (lt-ltb could n l) at g in never (cc)
        by (no l) g = let k = one (sym i ∙ rw (le-ltb could n (omega arith)) at g) in omega arith
    go (Refused number place) i h = never (cc)

-- ---- what is returned

module _ (left : Left) (own : Account) where
  pub on_exceeded : left.exceeded ≡ true → (b : List ℕ) (o : Outcome) → on_account left own b o ≡ refused 38 0 b
  unfolding on_account
  on_exceeded e b o = rw e

  pub on_passed : left.exceeded ≡ false → {n : ℕ} → n ≡ could left.rows own → (b : List ℕ) (o : Outcome) → on_account left own b o ≡ within n b o
  unfolding on_account
  on_passed e i b o = rw (e, i)

  module _ (t : Session Settings) (c : Call) where
    returned_by : {w : Outcome} → on_account left own c.buffer (unit_call units_of t c) ≡ w → {called : Called Settings} {rows : List ℕ} → Returns (returned t) w (replied called) rows → {account : Account}
        → account ≡ charged own w.answer → Grants left own t c (record { account = account; called = called }) rows
    returned_by e r a = record {
      called = record { returns = r.returns ∙ ap (λ (o : Outcome). returned t o.answer) (sym e); leaves = r.leaves ∙ ap (λ (o : Outcome). o.buffer) (sym e) };
      account = a ∙ ap (λ (o : Outcome). charged own o.answer) (sym e);
    }

    -- 38
    pub grants_none : left.exceeded ≡ true → Grants left own t c (record { account = own; called = record { session = t; answer = Err (refusal reason.Overdrawn 0) } }) c.buffer
    grants_none e = returned_by (on_exceeded e c.buffer (unit_call units_of t c)) (record { returns = refl; leaves = refl }) refl

    -- the unit call
    pub grants_within : left.exceeded ≡ false → {n : ℕ} → n ≡ could left.rows own → {called : Called Settings} {rows : List ℕ}
        → Returns (returned t) (within n c.buffer (unit_call units_of t c)) (replied called) rows → {account : Account} → account ≡ charged own (said called.answer)
        → Grants left own t c (record { account = account; called = called }) rows
    grants_within e i r a = returned_by (on_passed e i c.buffer (unit_call units_of t c)) r (a ∙ ap (λ (x : Session Settings × Answer). charged own x.1) r.returns)
