-- The units of a picture as the calls on them take them, whatever settings say them: H.266's (Luma.antt) or others.
use Rattle.std.specs.Prelude.{ℕ, List}
use Rattle.settings.specs.declared.Square.{Square}
use Rattle.settings.specs.Units.{Located}
use Rattle.settings.specs.Units.{refusal_at, located_by}
use Rattle.tree.specs.declared.Node.{Node}
use Rattle.tree.specs.declared.Decision.TheVariants.{Leaf}
use Rattle.tree.specs.Kind.{Kind}

pub record Units : Type 1 where
  -- the refusal of the settings, 0 where they pass; the numbers that it may have; and what is wrong with the settings, by the number
  pub refusal : ℕ
  pub numbers : List ℕ
  pub Fault : ℕ → Type 0
  -- the kind of the trees, how many units there are, and the square of each
  pub kind : Kind
  pub count : ℕ
  pub square : ℕ → Square

-- the refusal of the settings, then 10 where there is no such unit; 0 where there is one
abbrev pub refusal_in : Units → ℕ → ℕ
refusal_in us address = refusal_at us.refusal us.count address

-- the unit's square, or this refusal
abbrev pub located_in : Units → ℕ → Located
located_in us address = located_by (refusal_in us address) (us.square address)

-- "The root is the whole unit with all depths, offset and part 0"; nothing was split above it
abbrev pub root_of : Square → Node
root_of q = record { x = q.x; y = q.y; w = q.side; h = q.side; qt = 0; mtt = 0; offset = 0; part = 0; parent = Leaf }

abbrev pub root_in : Units → ℕ → Node
root_in us address = root_of (us.square address)
