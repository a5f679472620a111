-- Laws of `Every`.
use mathlib.Core.List.{List, ◌∷◌, ◌++◌}
use Rattle.laws.specs.Every.{Every, every_none, every_more}

module _ {A : Type 0} {P : A → Type 0} where
  pub every_head : {a : A} {rest : List A} → Every P (a ∷ rest) → P a
  every_head (every_more p ps) = p

  pub every_tail : {a : A} {rest : List A} → Every P (a ∷ rest) → Every P rest
  every_tail (every_more p ps) = ps

  pub every_join : {first rest : List A} → Every P first → Every P rest → Every P (first ++ rest)
  every_join every_none r = r
  every_join (every_more p ps) r = every_more p (every_join ps r)

  pub every_map : {Q : A → Type 0} {all : List A} → ((a : A) → P a → Q a) → Every P all → Every Q all
  every_map f every_none = every_none
  every_map f (every_more {a = a} p ps) = every_more (f a p) (every_map f ps)

  pub every_both : {Q : A → Type 0} {all : List A} → Every P all → Every Q all → Every (λ a. P a × Q a) all
  every_both every_none every_none = every_none
  every_both (every_more p ps) (every_more q qs) = every_more (p, q) (every_both ps qs)
