-- The reason of a number, and what follows.
use Rattle.std.proofs.Common.{ℕ, ◌≡◌, refl, sym, ap, ◌∙◌, Bool, cond, eqb, Result, Ok, Err, Option, Some, None}
use Rattle.refusals.specs.declared.Reason.{Reason}
use Rattle.refusals.specs.declared.Reason.TheVariants as reason
use Rattle.refusals.specs.declared.Refusal.{Refusal}
use Rattle.refusals.specs.Numbers.{number, refusal}
use Rattle.refusals.specs.Said.{Said, Accepted, Refused, said, numbered, number_or_0}
use Rattle.refusals.proofs.Numbers.{not_0}
use Rattle.tree.specs.declared.Decision.{Decision}
use Rattle.tree.specs.Flags.{Flag, Value, Bad, Choice, flag_said, choice_said}
use Rattle.tree.specs.Flags as flags
use Rattle.unit.specs.Answers.{Answer}
use Rattle.picture.specs.declared.Session.{Session}
use Rattle.picture.specs.declared.Called.{Called}
use Rattle.picture.specs.Session.{replied}
use Rattle.bank.specs.Accounts.{Left, left_in}
use Rattle.determined.specs.Determined.{Determined}

-- the reason with a number; the last one for a number that has none
abbrev named : ℕ → Reason
named n =
    cond (eqb n 1) reason.CtuSide (
    cond (eqb n 2) reason.SmallestBlock (
    cond (eqb n 3) reason.SmallestQuad (
    cond (eqb n 4) reason.MttDepth (
    cond (eqb n 5) reason.GreatestBinary (
    cond (eqb n 6) reason.GreatestTernary (
    cond (eqb n 7) reason.Width (
    cond (eqb n 8) reason.Height (
    cond (eqb n 9) reason.EdgeMultiple (
    cond (eqb n 10) reason.Address (
    cond (eqb n 11) reason.FlagMissing (
    cond (eqb n 12) reason.FlagValue (
    cond (eqb n 13) reason.FlagsLeft (
    cond (eqb n 14) reason.RowRoom (
    cond (eqb n 15) reason.RowBytes (
    cond (eqb n 16) reason.NoTree (
    cond (eqb n 17) reason.FlagRoom (
    cond (eqb n 20) reason.Complete (
    cond (eqb n 21) reason.NotDue (
    cond (eqb n 22) reason.NoSession (
    cond (eqb n 23) reason.PageRoom (
    cond (eqb n 27) reason.RowsMissing (
    cond (eqb n 28) reason.RowsLeft (
    cond (eqb n 34) reason.QuadCtuSide (
    cond (eqb n 35) reason.QuadSmallestBlock (
    cond (eqb n 36) reason.Allowance (
    cond (eqb n 37) reason.NoAccount (
    reason.Overdrawn)))))))))))))))))))))))))))

named_number : (r : Reason) → named (number r) ≡ r
named_number reason.CtuSide = refl
named_number reason.SmallestBlock = refl
named_number reason.SmallestQuad = refl
named_number reason.MttDepth = refl
named_number reason.GreatestBinary = refl
named_number reason.GreatestTernary = refl
named_number reason.Width = refl
named_number reason.Height = refl
named_number reason.EdgeMultiple = refl
named_number reason.Address = refl
named_number reason.FlagMissing = refl
named_number reason.FlagValue = refl
named_number reason.FlagsLeft = refl
named_number reason.RowRoom = refl
named_number reason.RowBytes = refl
named_number reason.NoTree = refl
named_number reason.FlagRoom = refl
named_number reason.Complete = refl
named_number reason.NotDue = refl
named_number reason.NoSession = refl
named_number reason.PageRoom = refl
named_number reason.RowsMissing = refl
named_number reason.RowsLeft = refl
named_number reason.QuadCtuSide = refl
named_number reason.QuadSmallestBlock = refl
named_number reason.Allowance = refl
named_number reason.NoAccount = refl
named_number reason.Overdrawn = refl

differ : (a b : Reason) → number a ≡ number b → a ≡ b
differ a b e = sym (named_number a) ∙ (ap named e ∙ named_number b)

module _ {A : Type 0} where
  -- the result that says so much
  abbrev result_of : Said A → Result A Refusal
  result_of (Accepted given) = Ok given
  result_of (Refused n place) = Err (refusal (named n) place)

  same_result : (a : Result A Refusal) → result_of (said a) ≡ a
  same_result (Ok given) = refl
  same_result (Err r) = ap (λ (x : Reason). Err (refusal x r.place)) (named_number r.reason)

  abbrev reason_of : Result A ℕ → Result A Reason
  reason_of (Ok given) = Ok given
  reason_of (Err n) = Err (named n)

  same_reason : (a : Result A Reason) → reason_of (numbered a) ≡ a
  same_reason (Ok given) = refl
  same_reason (Err r) = ap (λ (x : Reason). Err x) (named_number r)

checked : (a b : Result Unit Reason) → number_or_0 a ≡ number_or_0 b → a ≡ b
checked (Ok u) (Ok v) e = refl
checked (Ok u) (Err r) e = absurd (not_0 r (sym e))
checked (Err r) (Ok v) e = absurd (not_0 r e)
checked (Err r) (Err q) e = ap (λ (x : Reason). Err x) (differ r q e)

-- ---- words of single crates

abbrev flag_of : Flag → Result (Bool × ℕ) Refusal
flag_of (Value v at) = Ok (v, at)
flag_of (Bad n place) = Err (refusal (named n) place)

same_flag : (a : Result (Bool × ℕ) Refusal) → flag_of (flag_said a) ≡ a
same_flag (Ok (v, at)) = refl
same_flag (Err r) = ap (λ (x : Reason). Err (refusal x r.place)) (named_number r.reason)

abbrev choice_of : Choice → Result (Decision × ℕ) Refusal
choice_of (flags.Chosen d at) = Ok (d, at)
choice_of (flags.Refused n place) = Err (refusal (named n) place)

same_choice : (a : Result (Decision × ℕ) Refusal) → choice_of (choice_said a) ≡ a
same_choice (Ok (d, at)) = refl
same_choice (Err r) = ap (λ (x : Reason). Err (refusal x r.place)) (named_number r.reason)

module _ {S : Type 0} where
  abbrev call_of : Session S × Answer → Called S
  call_of p = record { session = p.0; answer = result_of p.1 }

  same_call : (a : Called S) → call_of (replied a) ≡ a
  same_call a = ap (λ (x : Result ℕ Refusal). record { session = a.session; answer = x }) (same_result a.answer)

abbrev left_of : Left → Option ℕ
left_of l = cond l.exceeded None (Some l.rows)

same_left : (a : Option ℕ) → left_of (left_in a) ≡ a
same_left (Some n) = refl
same_left None = refl

pub determined : Determined
determined = record {
  reasons = differ;
  results = λ A a b e. sym (same_result a) ∙ (ap result_of e ∙ same_result b);
  placeless = λ A a b e. sym (same_reason a) ∙ (ap reason_of e ∙ same_reason b);
  none_is_0 = not_0;
  checks = checked;
  flags = λ a b e. sym (same_flag a) ∙ (ap flag_of e ∙ same_flag b);
  choices = λ a b e. sym (same_choice a) ∙ (ap choice_of e ∙ same_choice b);
  calls = λ S a b e. sym (same_call a) ∙ (ap call_of e ∙ same_call b);
  lefts = λ a b e. sym (same_left a) ∙ (ap left_of e ∙ same_left b);
}
