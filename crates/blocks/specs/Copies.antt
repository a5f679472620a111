-- A copy from the front of one list of bytes over the front of another.
use Rattle.std.specs.Prelude.{ℕ, min, List, ◌++◌, length, take, drop}

-- as many of the first n bytes as both have, and after them what was there
unfoldable pub copied : ℕ → List ℕ → List ℕ → List ℕ
copied n from to = take (min n (min (length to) (length from))) from ++ drop (min n (min (length to) (length from))) to
