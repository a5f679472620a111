-- The order in which a session goes through the units of a picture.
use Prim.Native.Nat.{ℕ, ◌+◌, ◌<◌}
use mathlib.Core.Path.{◌≡◌, refl}

-- From the address that is due first, and the one that follows each: every address below the count is visited once. The
-- place of an address says when.
pub record Order (count first : ℕ) (next : ℕ → ℕ) : Type 0 where
  pub place : ℕ → ℕ
  pub starts : place first ≡ 0
  pub goes : (a : ℕ) → a < count → place (next a) ≡ place a + 1
  pub below : (a : ℕ) → a < count → place a < count
  pub once : (a b : ℕ) → a < count → b < count → place a ≡ place b → a ≡ b

-- the addresses one after the other
pub raster : (count : ℕ) → Order count 0 (λ a. a + 1)
raster count = record { place = λ a. a; starts = refl; goes = λ a h. refl; below = λ a h. h; once = λ a b h k e. e }
