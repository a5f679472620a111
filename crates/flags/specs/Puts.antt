-- Flags after flags in a buffer.
use Rattle.std.specs.Prelude.{ℕ, ◌+◌, ◌≡◌, Bool, true, false, List, ◌++◌, length, take}
use Rattle.tree.specs.declared.Decision.{Decision}
use Rattle.tree.specs.declared.Decision.TheVariants.{Leaf, Quad, Binary, Ternary}

-- flags follow the first n of a buffer, and there are m then; what the buffer has after these is not said
pub record Follows (before : List ℕ) (n : ℕ) (flags after : List ℕ) (m : ℕ) : Type 0 where
  pub long : length after ≡ length before
  pub count : m ≡ n + length flags
  pub given : take m after ≡ take n before ++ flags

abbrev pub is_quad : Decision → Bool
is_quad Leaf = false
is_quad Quad = true
is_quad (Binary d) = false
is_quad (Ternary d) = false
