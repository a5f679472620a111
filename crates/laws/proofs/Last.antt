-- The last element of a list has a property.
use mathlib.Core.List.{List, [], ◌∷◌, ◌++◌}
use Rattle.laws.specs.Every.{Every, every_none, every_more}

pub data Last {A : Type 0} (P : A → Type 0) : List A → Type 0 where
  last : {a : A} → P a → Last P (a ∷ [])
  later : {a : A} {rest : List A} → Last P rest → Last P (a ∷ rest)

module _ {A : Type 0} {P : A → Type 0} where
  pub last_after : (first : List A) {rest : List A} → Last P rest → Last P (first ++ rest)
  last_after [] l = l
  last_after (a ∷ first) l = later (last_after first l)

  pub last_map : {Q : A → Type 0} {all : List A} → ((a : A) → P a → Q a) → Last P all → Last Q all
  last_map f (last {a = a} p) = last (f a p)
  last_map f (later l) = later (last_map f l)

  -- what every element has, the last one has
  pub last_both : {Q : A → Type 0} {all : List A} → Every P all → Last Q all → Last (λ a. P a × Q a) all
  last_both {Q = Q} every_none l = elim l [ ]
  last_both (every_more p ps) (last q) = last (p, q)
  last_both (every_more p ps) (later l) = later (last_both ps l)
