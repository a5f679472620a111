-- What each call on the accounts keeps: the shares, the rows granted since the last new period, and the limit.
use Prim.Native.Nat.{ℕ, ◌+◌, ◌-◌, ◌≤◌, ◌<◌, min}
use mathlib.Core.Path.{◌≡◌, refl, sym, ap, subst, ◌∙◌}
use mathlib.Core.List.{List, [], ◌∷◌, ◌++◌, append-nil}
use native.Mathlib.Omega.{arith}
use lib.ListN.{length, length-set, length-map, length-append}
use lib.Seq.{set-get_or}
use Rattle.tree.specs.Rows.{Row}
use Rattle.laws.proofs.Tables.{rows_long}
use Rattle.laws.proofs.Tests.{never}
use Rattle.unit.specs.Answers.{Answer}
use Rattle.refusals.specs.Said.{Accepted, Refused}
use Rattle.unit.specs.Answers.{Outcome}
use Rattle.unit.specs.Units.{Units}
use Rattle.unit.specs.Luma.{units_of}
use Rattle.sessions.specs.Lists as lists
use Rattle.picture.specs.State.{Call, call_in}
use Rattle.picture.specs.Lists.{Taken, taken, joined, rows_of_unit}
use Rattle.bank.specs.declared.accounts.Account.{Account}
use Rattle.bank.specs.Accounts.{none, cleared, charged, unused, beyond, shares, total_use, drawn, common_part}
use Rattle.bank.specs.Bank.{account_of, grant_in, accounts_after, new_period}
use Rattle.bank.specs.GrantFaults.{Passes, could_have}
use Rattle.bank.specs.BankCalls.{grant, BankCall, a_new_period, a_grant, after_call, granted_by, after_calls, granted_in}
use Rattle.bank.proofs.OnAccount.{within_most}
use Rattle.bank.proofs.Sums.{sum_set, shares_cleared, use_cleared, drawn_cleared, use_most}
use Rattle.bank.proofs.Grants.{grant_absent}
use Rattle.bank.proofs.GrantFaults.{BankCase, absent, exceeding, overdrawing, passing, bank_case, grant_exceeding, grant_overdrawing, grant_passing}

-- ---- a table that was granted

module _ (us : Units) (due limit : ℕ) (accounts : List Account) (camera : ℕ) (c : Call) where
  -- 37 and 38 were passed, and so many rows could be had
  pub grant_granted : {n : ℕ} → (grant_in us due limit accounts camera c).answer ≡ Accepted n → Passes limit accounts camera × (n ≤ could_have limit accounts camera)
  grant_granted {n} e = go (bank_case us due limit accounts camera c)
    where
      none_is : {number place : ℕ} {b : List ℕ} → grant_in us due limit accounts camera c ≡ record { answer = Refused number place; buffer = b } → Passes limit accounts camera × (n ≤ could_have limit accounts camera)
      none_is w = let f = ap (λ (o : Outcome). o.answer) (sym w) ∙ e in never (cc)

      go : BankCase us due limit accounts camera c → Passes limit accounts camera × (n ≤ could_have limit accounts camera)
      go (absent h) = none_is (grant_absent us due limit accounts camera c h)
      go (exceeding h s) = none_is (grant_exceeding us due limit accounts camera c h s)
      go (overdrawing h s d) = none_is (grant_overdrawing us due limit accounts camera c h s d)
      go (passing p) = (p, within_most (could_have limit accounts camera) c.buffer (call_in us due c) (ap (λ (o : Outcome). o.answer) (sym (grant_passing us due limit accounts camera c p)) ∙ e))

-- ---- the sums after a grant

least_left : (a b m n : ℕ) → n ≤ a + min b m → n ≤ a + b
least_left a b m n h = omega arith

within_part : (drawn later part share used n : ℕ) → drawn ≤ part → n ≤ (share - used) + (part - drawn) → later + (used - share) ≡ drawn + ((used + n) - share) → later ≤ part
within_part drawn later part share used n h l e = omega arith

module _ (accounts : List Account) (camera n : ℕ) (there : camera < length accounts) where
  abbrev later : List Account
  later = accounts_after accounts camera (Accepted n)

  pub use_granted : total_use later ≡ total_use accounts + n
  use_granted = let e = sum_set (λ a. a.used) accounts camera (charged (account_of accounts camera) (Accepted n)) there in omega arith

  pub shares_granted : shares later ≡ shares accounts
  shares_granted = let e = sum_set (λ a. a.share) accounts camera (charged (account_of accounts camera) (Accepted n)) there in omega arith

  pub drawn_granted : drawn later + beyond (account_of accounts camera) ≡ drawn accounts + beyond (charged (account_of accounts camera) (Accepted n))
  drawn_granted = sum_set beyond accounts camera (charged (account_of accounts camera) (Accepted n)) there

  -- where 38 is passed and so many could be had, no more is drawn than the common part has
  pub fits_granted : (limit : ℕ) → Passes limit accounts camera → n ≤ could_have limit accounts camera → shares later + drawn later ≤ limit
  fits_granted limit p l =
      let own = account_of accounts camera in
      let s = shares_granted in
      let r = p.shares_fit in
      let u = p.drawn_fit in
      let m : n ≤ unused own + (common_part limit accounts - drawn accounts) = least_left _ _ _ n l in
      let w = within_part (drawn accounts) (drawn later) (common_part limit accounts) own.share own.used n u m drawn_granted in
      omega arith

-- ---- the rows of units

rows_joined : (us vs : List Taken) → length (joined (us ++ vs)) ≡ length (joined us) + length (joined vs)
unfolding lists.joined
rows_joined [] vs = omega arith
rows_joined (u ∷ us) vs =
    let e = rows_joined us vs in
    let f = length-append (rows_of_unit u) (joined (us ++ vs)) in
    let g = length-append (rows_of_unit u) (joined us) in
    omega arith

rows_one : (u : Taken) → length (joined (u ∷ [])) ≡ u.count
unfolding lists.joined
rows_one u = let nil : List Row = [] in let e = length-append (rows_of_unit u) nil in let f = rows_long u.count u.buffer 0 in omega arith

-- ---- what holds of the accounts, with these units granted since the last new period; the shares and the length of the list stay

pub record Kept (limit reserved long : ℕ) (accounts : List Account) (units : List Taken) : Type 0 where
  pub used : total_use accounts ≡ length (joined units)
  pub most : total_use accounts ≤ limit
  pub shared : shares accounts ≡ reserved
  pub lasting : length accounts ≡ long
  pub fits : shares accounts ≤ limit → shares accounts + drawn accounts ≤ limit

pub kept_period : (limit : ℕ) (accounts : List Account) → Kept limit (shares accounts) (length accounts) (new_period accounts) []
unfolding lists.joined
kept_period limit accounts =
    let u = use_cleared accounts in
    let s = shares_cleared accounts in
    let d = drawn_cleared accounts in
    record { used = u; most = omega arith; shared = s; lasting = length-map accounts cleared; fits = λ l. omega arith }

module _ {limit reserved long : ℕ} {accounts : List Account} {units : List Taken} (kept : Kept limit reserved long accounts units) where
  kept_granted : (us : Units) (due camera : ℕ) (c : Call) (left : List ℕ) {n : ℕ} → (grant_in us due limit accounts camera c).answer ≡ Accepted n
      → Kept limit reserved long (accounts_after accounts camera (Accepted n)) (units ++ lists.prepend (taken c (Accepted n) left) [])
  kept_granted us due camera c left {n} e =
      let g = grant_granted us due limit accounts camera c e in
      let there = g.0.there in
      let u = use_granted accounts camera n there in
      let s = shares_granted accounts camera n there in
      let w = fits_granted accounts camera n there limit g.0 g.1 in
      let m = use_most (accounts_after accounts camera (Accepted n)) in
      let unit : Taken = record { address = c.address; flags = c.flags; count = n; buffer = left } in
      let j = rows_joined units (unit ∷ []) in
      let o = rows_one unit in
      let k = kept.used in
      let sh = kept.shared in
      record { used = omega arith; most = omega arith; shared = omega arith; lasting = length-set accounts camera (charged (account_of accounts camera) (Accepted n)) ∙ kept.lasting; fits = λ l. w }

  kept_refused : (camera : ℕ) (c : Call) (left : List ℕ) (number place : ℕ)
      → Kept limit reserved long (accounts_after accounts camera (Refused number place)) (units ++ lists.prepend (taken c (Refused number place) left) [])
  kept_refused camera c left number place =
      subst (λ (l : List Account). Kept limit reserved long l (units ++ [])) (sym (set-get_or accounts camera none))
      (subst (λ (l : List Taken). Kept limit reserved long accounts l) (sym (append-nil units)) kept)

  kept_call : (k : BankCall) → Kept limit reserved long (after_call limit accounts k) (granted_by limit accounts units k)
  kept_call a_new_period =
      let p = kept_period limit accounts in
      record { used = p.used; most = p.most; shared = p.shared ∙ kept.shared; lasting = p.lasting ∙ kept.lasting; fits = p.fits }
  kept_call (a_grant t camera c) = go (grant limit accounts t camera c).answer refl
    where
      go : (answer : Answer) → (grant limit accounts t camera c).answer ≡ answer
          → Kept limit reserved long (accounts_after accounts camera (grant limit accounts t camera c).answer) (units ++ lists.prepend (taken c (grant limit accounts t camera c).answer (grant limit accounts t camera c).buffer) [])
      go (Accepted n) e = rw e (kept_granted (units_of t.settings) t.due camera c (grant limit accounts t camera c).buffer e)
      go (Refused number place) e = rw e (kept_refused camera c (grant limit accounts t camera c).buffer number place)

-- after any list of calls
pub kept_calls : {limit reserved long : ℕ} {accounts : List Account} {units : List Taken} → Kept limit reserved long accounts units → (calls : List BankCall)
    → Kept limit reserved long (after_calls limit accounts calls) (granted_in limit accounts units calls)
unfolding after_calls granted_in
kept_calls kept [] = kept
kept_calls {limit = limit} {accounts = accounts} kept (k ∷ calls) = kept_calls {accounts = after_call limit accounts k} (kept_call kept k) calls
