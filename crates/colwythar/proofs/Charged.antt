-- What a grant leaves, by whether the camera has an account.
use Prim.Native.Nat.{ℕ, ◌≤◌, ◌<◌}
use mathlib.Core.Path.{◌≡◌, sym, ap, subst, ◌∙◌}
use mathlib.Core.List.{List}
use lib.ListN.{length, set}
use lib.Seq.{set-get_or}
use Rattle.refusals.specs.Said.{Refused}
use Rattle.unit.specs.Answers.{Outcome}
use Rattle.unit.specs.Units.{Units}
use Rattle.picture.specs.State.{Call, next_due}
use Rattle.bank.specs.declared.accounts.Account.{Account}
use Rattle.bank.specs.Accounts.{Left, none, left_of}
use Rattle.bank.specs.Bank.{account_of, accounts_after}
use Rattle.bank.proofs.Grants.{grant_absent, grant_there}
use Rattle.colwythar.specs.Words.{answer_words, Follows}
use Rattle.colwythar.specs.BankWords.{ChargesOne, Charges}

module _ (us : Units) (due limit : ℕ) (accounts : List Account) (camera : ℕ) (c : Call) where
  pub charges_none : length accounts ≤ camera → {answer : List ℕ} → answer ≡ answer_words (Refused 37 0)
      → Charges us due limit accounts camera c due answer c.buffer accounts
  charges_none h e =
      let g = sym (grant_absent us due limit accounts camera c h) in
      record {
        follows = record {
          next = ap (λ (o : Outcome). next_due due o.answer) g;
          outcome = record { answers = e ∙ ap (λ (o : Outcome). answer_words o.answer) g; leaves = ap (λ (o : Outcome). o.buffer) g };
        };
        charges = sym (set-get_or accounts camera none) ∙ ap (λ (o : Outcome). accounts_after accounts camera o.answer) g;
      }

  pub charges_there : camera < length accounts → {left : Left} → left ≡ left_of limit accounts → {r : Account} {after : ℕ} {answer rows : List ℕ}
      → ChargesOne left (account_of accounts camera) us due c r after answer rows
      → Charges us due limit accounts camera c after answer rows (set accounts camera r)
  charges_there h e {r} {after} {answer} {rows} m =
      let g = sym (grant_there us due limit accounts camera c h) in
      let n = subst (λ (l : Left). ChargesOne l (account_of accounts camera) us due c r after answer rows) e m in
      record {
        follows = subst (λ (o : Outcome). Follows o due after answer rows) g n.follows;
        charges = ap (set accounts camera) n.account ∙ ap (λ (o : Outcome). accounts_after accounts camera o.answer) g;
      }
