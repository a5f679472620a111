-- Contracts say of a result what it says in the papers' numbers. Nothing is lost by that.
use Rattle.std.specs.Prelude.{ℕ, ◌≡◌, Bool, Result, Option}
use Rattle.refusals.specs.declared.Reason.{Reason}
use Rattle.refusals.specs.declared.Refusal.{Refusal}
use Rattle.refusals.specs.Numbers.{number}
use Rattle.refusals.specs.Said.{said, numbered, number_or_0}
use Rattle.tree.specs.declared.Decision.{Decision}
use Rattle.tree.specs.Flags.{flag_said, choice_said}
use Rattle.picture.specs.declared.Called.{Called}
use Rattle.picture.specs.Session.{replied}
use Rattle.bank.specs.Accounts.{left_in}

pub record Determined : Type 1 where
  -- reasons differ in their numbers
  pub reasons : (a b : Reason) → number a ≡ number b → a ≡ b
  -- so results differ in what they say, with a place and without one
  pub results : (A : Type 0) (a b : Result A Refusal) → said a ≡ said b → a ≡ b
  pub placeless : (A : Type 0) (a b : Result A Reason) → numbered a ≡ numbered b → a ≡ b
  -- no reason has the number 0, so a check's number tells its result, too
  pub none_is_0 : (a : Reason) → ¬ (number a ≡ 0)
  pub checks : (a b : Result Unit Reason) → number_or_0 a ≡ number_or_0 b → a ≡ b
  -- the words of single crates tell the result as well: a flag and what a node's flags decide (tree), what a unit call returns (picture), what is left of the rows (bank)
  pub flags : (a b : Result (Bool × ℕ) Refusal) → flag_said a ≡ flag_said b → a ≡ b
  pub choices : (a b : Result (Decision × ℕ) Refusal) → choice_said a ≡ choice_said b → a ≡ b
  pub calls : (S : Type 0) (a b : Called S) → replied a ≡ replied b → a ≡ b
  pub lefts : (a b : Option ℕ) → left_in a ≡ left_in b → a ≡ b
