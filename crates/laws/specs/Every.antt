-- Every element of a list has a property.
use Rattle.std.specs.Prelude.{List, [], ◌∷◌}

pub data Every {A : Type 0} (P : A → Type 0) : List A → Type 0 where
  every_none : Every P []
  every_more : {a : A} {rest : List A} → P a → Every P rest → Every P (a ∷ rest)
