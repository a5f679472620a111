-- R-12: one row allowance for a bank of cameras.
use Prim.Native.Nat.{ℕ, ◌+◌, ◌-◌, ◌≤◌, ◌<◌, min}
use mathlib.Core.Path.{◌≡◌, refl, sym, ap, ◌∙◌}
use mathlib.Core.List.{List, [], ◌∷◌}
use mathlib.Core.Logic.{◌↔◌}
use native.Mathlib.Omega.{arith}
use native.Mathlib.Decide.{dec_lt}
use lib.ListN.{length}
use Rattle.settings.specs.declared.Settings.{Settings}
use Rattle.laws.proofs.Tests.{never}
use Rattle.unit.specs.Answers.{Answer}
use Rattle.refusals.specs.Said.{Accepted, Refused}
use Rattle.unit.specs.Answers.{Outcome, number_of, refused}
use Rattle.unit.specs.Luma.{units_of}
use Rattle.unit.proofs.Luma.{luma_sound}
use Rattle.picture.specs.declared.Session.{Session}
use Rattle.picture.specs.State.{Call}
use Rattle.sessions.specs.Lists as lists
use Rattle.picture.specs.Session.{unit_call, following}
use Rattle.picture.specs.Lists.{accepted_in, taken}
use Rattle.bank.specs.declared.accounts.Account.{Account}
use Rattle.bank.specs.Accounts.{unused, shares, drawn, common_part, left_of, held}
use Rattle.bank.specs.Bank.{account_of}
use Rattle.bank.specs.GrantFaults.{Passes, could_have}
use Rattle.bank.specs.BankCalls.{grant, BankCall, accounts_in, granted_since, after_calls, granted_in}
use Rattle.bank.specs.SessionGrants.{Asked, grant_of, granted_on}
use Rattle.bank.specs.RowAllowance.{AfterCalls, RowAllowance}
use Rattle.bank.proofs.Sums.{one_most, held_is}
use Rattle.bank.proofs.Grants.{grant_absent}
use Rattle.bank.proofs.GrantFaults.{within_refused, within_fits, within_more, grant_passing, none_38, grant_decides_lem}
use Rattle.bank.proofs.BankCalls.{grant_granted, Kept, kept_period, kept_calls}

-- ---- one grant

-- what is left of a share could be had
share_could : (share used left n : ℕ) → n ≤ share - used → n ≤ (share - used) + min left (4294967295 - (share + (used - share)))
share_could share used left n h = omega arith

-- the use can count what is left
counts : (held left : ℕ) → held + left ≤ 4294967295 → min left (4294967295 - held) ≡ left
counts held left h = omega arith

-- the use, of 32 bits, can count what the share and the limit allow
whole : (limit : ℕ) (accounts : List Account) (camera : ℕ) → Passes limit accounts camera → limit < 4294967296
    → could_have limit accounts camera ≡ unused (account_of accounts camera) + (left_of limit accounts).rows
whole limit accounts camera p l =
    let own = account_of accounts camera in
    let r = p.shares_fit in
    let u = p.drawn_fit in
    let o = one_most held accounts camera p.there in
    let s = held_is accounts in
    ap (λ (m : ℕ). unused own + m) (counts (held own) (common_part limit accounts - drawn accounts) (omega arith))

-- and no more than its bits, whatever the limit
counted : (share used left : ℕ) → share < 4294967296 → (share - used) + min left (4294967295 - (share + (used - share))) ≡ min ((share - used) + left) (4294967295 - used)
counted share used left h = omega arith

module _ (limit : ℕ) (accounts : List Account) (t : Session Settings) (camera : ℕ) (c : Call) {n : ℕ} (e : (unit_call units_of t c).answer ≡ Accepted n) (p : Passes limit accounts camera) where
  -- a table is granted where so many rows could be had, and else refused with 36
  pub grant_fits : n ≤ could_have limit accounts camera → grant limit accounts t camera c ≡ unit_call units_of t c
  grant_fits l = grant_passing (units_of t.settings) t.due limit accounts camera c p ∙ within_fits (could_have limit accounts camera) c.buffer (unit_call units_of t c) e l

  pub grant_more : could_have limit accounts camera < n → grant limit accounts t camera c ≡ refused 36 (could_have limit accounts camera) c.buffer
  grant_more l = grant_passing (units_of t.settings) t.due limit accounts camera c p ∙ within_more (could_have limit accounts camera) c.buffer (unit_call units_of t c) e l

  exactly : limit < 4294967296 → (grant limit accounts t camera c ≡ unit_call units_of t c) ↔ (n ≤ unused (account_of accounts camera) + (left_of limit accounts).rows)
  exactly l =
      let w = whole limit accounts camera p l in
      (λ g. go g (dec_lt (could_have limit accounts camera) n), λ h. grant_fits (omega arith))
    where
      go : grant limit accounts t camera c ≡ unit_call units_of t c → Dec (could_have limit accounts camera < n) → n ≤ unused (account_of accounts camera) + (left_of limit accounts).rows
      go g (yes h) = let f : Refused 36 (could_have limit accounts camera) ≡ Accepted n = ap (λ (o : Outcome). o.answer) (sym (grant_more h) ∙ g) ∙ e in never (cc)
      go g (no h) = let w = whole limit accounts camera p l in omega arith

-- ---- the grant is the unit call

module _ (limit : ℕ) (accounts : List Account) (t : Session Settings) (camera : ℕ) (c : Call) where
  as_unit_call : (n : ℕ) → (grant limit accounts t camera c).answer ≡ Accepted n → grant limit accounts t camera c ≡ unit_call units_of t c
  as_unit_call n e = go (unit_call units_of t c).answer refl
    where
      p : Passes limit accounts camera
      p = (grant_granted (units_of t.settings) t.due limit accounts camera c e).0

      go : (answer : Answer) → (unit_call units_of t c).answer ≡ answer → grant limit accounts t camera c ≡ unit_call units_of t c
      go (Refused number place) i = grant_passing (units_of t.settings) t.due limit accounts camera c p ∙ within_refused (could_have limit accounts camera) c.buffer (unit_call units_of t c) i
      go (Accepted m) i = by (dec_lt (could_have limit accounts camera) m)
        where
          by : Dec (could_have limit accounts camera < m) → grant limit accounts t camera c ≡ unit_call units_of t c
          by (yes l) =
              let f : Refused 36 (could_have limit accounts camera) ≡ Accepted n = ap (λ (o : Outcome). o.answer) (sym (grant_more limit accounts t camera c i p l)) ∙ e in
              never (cc)
          by (no l) = grant_fits limit accounts t camera c i p (omega arith)

-- those that were granted, as unit calls
session : (t : Session Settings) (asked : List Asked) → (calls : List Call) × (accepted_in t calls ≡ granted_on t asked)
unfolding lists.accepted_in
session t [] = ([], refl)
session t (a ∷ asked) = go (λ u. session u asked)
  where
    go : ((u : Session Settings) → (calls : List Call) × (accepted_in u calls ≡ granted_on u asked)) → (calls : List Call) × (accepted_in t calls ≡ granted_on t (a ∷ asked))
    go more = by (grant_of t a).answer refl
      where
        by : (answer : Answer) → (grant_of t a).answer ≡ answer → (calls : List Call) × (accepted_in t calls ≡ granted_on t (a ∷ asked))
        by (Refused number place) e = rw e (more t)
        by (Accepted n) e =
            let rest = more (following t (grant_of t a).answer) in
            let same = as_unit_call a.limit a.accounts t a.camera a.call n e in (
              a.call ∷ rest.0,
              ap (λ (o : Outcome). lists.prepend (taken a.call o.answer o.buffer) (accepted_in (following t o.answer) rest.0)) (sym same)
                  ∙ ap (lists.prepend (taken a.call (grant_of t a).answer (grant_of t a).buffer)) rest.1,
            )

-- ---- the next grant after a list of calls

module _ (limit : ℕ) (accounts : List Account) (calls : List BankCall) where
  abbrev present : List Account
  present = accounts_in limit accounts calls

  kept : Kept limit (shares accounts) (length accounts) present (granted_since limit accounts calls)
  unfolding after_calls granted_in
  kept = kept_calls (kept_period limit accounts) calls

  -- it passes 38
  passes : shares accounts ≤ limit → (camera : ℕ) → camera < length accounts → Passes limit present camera
  passes s camera h =
      let e = kept.shared in
      let l = kept.lasting in
      let u = kept.fits (omega arith) in
      record { there = omega arith; shares_fit = omega arith; drawn_fit = omega arith }

  absent_37 : (t : Session Settings) (camera : ℕ) (c : Call) → length accounts ≤ camera → number_of (grant limit present t camera c).answer ≡ 37
  absent_37 t camera c h =
      let g = kept.lasting in
      ap (λ (o : Outcome). number_of o.answer) (grant_absent (units_of t.settings) t.due limit present camera c (omega arith))

  never_38 : shares accounts ≤ limit → (t : Session Settings) (camera : ℕ) (c : Call) → ¬ (number_of (grant limit present t camera c).answer ≡ 38)
  never_38 s t camera c x = go (dec_lt camera (length accounts)) (grant limit present t camera c).answer refl
    where
      go : Dec (camera < length accounts) → (answer : Answer) → (grant limit present t camera c).answer ≡ answer → ⊥
      go (no h) answer i = let z = absent_37 t camera c (omega arith) in omega arith
      go (yes h) (Accepted n) i = let z = ap number_of i in omega arith
      go (yes h) (Refused number place) i =
          let z = ap number_of i in
          let d = grant_decides_lem (units_of t.settings) t.due limit present camera c (luma_sound t.settings) (λ due. due) in
          none_38 (units_of t.settings) t.due limit present camera c (luma_sound t.settings) (passes s camera h) ((d.refuses number place).0 i) (omega arith)

  module _ (s : shares accounts ≤ limit) (t : Session Settings) (camera : ℕ) (c : Call) (n : ℕ) (e : (unit_call units_of t c).answer ≡ Accepted n) (l : n ≤ unused (account_of present camera)) where
    granted : camera < length accounts → grant limit present t camera c ≡ unit_call units_of t c
    granted h = grant_fits limit present t camera c e (passes s camera h) (share_could (account_of present camera).share (account_of present camera).used (left_of limit present).rows n l)

    reserved : ¬ (number_of (grant limit present t camera c).answer ≡ 36)
    reserved x = go (dec_lt camera (length accounts))
      where
        go : Dec (camera < length accounts) → ⊥
        go (yes h) = let z = ap (λ (o : Outcome). number_of o.answer) (granted h) ∙ ap number_of e in omega arith
        go (no h) = let z = absent_37 t camera c (omega arith) in omega arith

  after_calls_lem : AfterCalls limit accounts calls
  after_calls_lem = record { total = kept.used; enough = let m = kept.most in omega arith; never_38 = never_38; reserved = reserved; granted = λ s t camera c n e h l. granted s t camera c n e l h }

pub row_allowance : RowAllowance
row_allowance = record {
  decided = λ limit accounts t camera c. grant_decides_lem (units_of t.settings) t.due limit accounts camera c (luma_sound t.settings) (λ due. record { settings = t.settings; due = due });
  exactly = λ limit accounts t camera c n p l e. let x = exactly limit accounts t camera c e p l in (λ g. let y = x.0 g in omega arith, λ h. x.1 (omega arith));
  place = whole;
  counted = λ limit accounts camera h. counted (account_of accounts camera).share (account_of accounts camera).used (left_of limit accounts).rows h;
  as_unit_call = as_unit_call;
  session = session;
  calls = after_calls_lem;
}
