-- What a function answers, in the papers' numbers: the code has a reason, the definitions have its number.
use Rattle.std.specs.Prelude.{ℕ, Result, Ok, Err}
use Rattle.refusals.specs.declared.Reason.{Reason}
use Rattle.refusals.specs.declared.Refusal.{Refusal}
use Rattle.refusals.specs.Numbers.{number}

-- what is given, or a refusal's number and place
pub data Said (A : Type 0) : Type 0 where
  Accepted : A → Said A
  Refused : ℕ → ℕ → Said A

-- that which a result says; it differs where results differ, since reasons differ in their numbers
abbrev pub said : {A : Type 0} → Result A Refusal → Said A
said (Ok given) = Accepted given
said (Err refusal) = Refused (number refusal.reason) refusal.place

-- where no reason has a place: what is given, or a refusal's number
abbrev pub numbered : {A : Type 0} → Result A Reason → Result A ℕ
numbered (Ok given) = Ok given
numbered (Err reason) = Err (number reason)

-- the number alone; 0 where nothing is refused
abbrev pub number_or_0 : {A : Type 0} → Result A Reason → ℕ
number_or_0 (Ok given) = 0
number_or_0 (Err reason) = number reason
