-- Lists of numbers of refusals.
use Prim.Native.Nat.{ℕ}
use mathlib.Core.Path.{◌≡◌, sym, ap, subst}
use mathlib.Core.Bool.{Bool, true, false, not, ◌&&◌}
use mathlib.Core.List.{List, [], ◌∷◌, ◌++◌}
use mathlib.Core.Logic.{inl, inr}
use borrow.Author.Tests.{eq-eqb}
use lib.Dec.{eqb}
use Rattle.sides.proofs.Bools.{clash, and_left, and_right}
use Rattle.unit.specs.Answers.{Answer}
use Rattle.refusals.specs.Said.{Accepted, Refused}
use Rattle.unit.specs.Answers.{number_of}
use Rattle.unit.specs.Exactly.{OneOf, AcceptedOr}

pub one_of_more : (n : ℕ) (first rest : List ℕ) → OneOf n first → OneOf n (first ++ rest)
one_of_more n [] rest o = elim o [ ]
one_of_more n (m ∷ first) rest (inl e) = inl e
one_of_more n (m ∷ first) rest (inr o) = inr (one_of_more n first rest o)

pub one_of_later : (n : ℕ) (first rest : List ℕ) → OneOf n rest → OneOf n (first ++ rest)
one_of_later n [] rest o = o
one_of_later n (m ∷ first) rest o = inr (one_of_later n first rest o)

-- a number that is none of a list, by a test of all
abbrev pub lacks : ℕ → List ℕ → Bool
lacks m [] = true
lacks m (n ∷ ns) = not (eqb n m) && lacks m ns

pub not_listed : (m : ℕ) (numbers : List ℕ) → lacks m numbers ≡ true → ¬ OneOf m numbers
not_listed m [] p o = elim o [ ]
not_listed m (n ∷ ns) p (inl e) = let f : not (eqb n m) ≡ false = ap not (eq-eqb n m (sym e)) in clash (and_left (not (eqb n m)) _ p) f
not_listed m (n ∷ ns) p (inr o) = not_listed m ns (and_right (not (eqb n m)) _ p) o

-- two lists without a common number
abbrev pub apart : List ℕ → List ℕ → Bool
apart [] others = true
apart (n ∷ ns) others = lacks n others && apart ns others

pub not_both : (n : ℕ) (numbers others : List ℕ) → apart numbers others ≡ true → OneOf n numbers → ¬ OneOf n others
not_both n [] others p i o = elim i [ ]
not_both n (m ∷ ms) others p (inl e) o = not_listed m others (and_left (lacks m others) _ p) (subst (λ n. OneOf n others) e o)
not_both n (m ∷ ms) others p (inr i) o = not_both n ms others (and_right (lacks m others) _ p) i o

-- an answer with numbers of a list, in a longer one
pub answered_later : (first numbers : List ℕ) (answer : Answer) → AcceptedOr numbers answer → AcceptedOr (first ++ numbers) answer
answered_later first numbers (Accepted count) a = tt
answered_later first numbers (Refused number place) a = one_of_later number first numbers a

-- an answer with numbers of one list has none of the other, in which is no 0
pub not_answered : (numbers others : List ℕ) → apart (0 ∷ numbers) others ≡ true → (answer : Answer) → AcceptedOr numbers answer → ¬ OneOf (number_of answer) others
not_answered numbers others p (Accepted count) a o = not_listed 0 others (and_left (lacks 0 others) _ p) o
not_answered numbers others p (Refused number place) a o = not_both number numbers others (and_right (lacks 0 others) _ p) a o
