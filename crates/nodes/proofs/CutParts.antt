-- The parts of a cut: their rows with the direction as data are those of the children.
use Rattle.std.proofs.Common.{◌≡◌, ℕ, ◌+◌, ◌*◌, ◌/◌, ◌%◌, ◌^◌, ◌≤◌, get_or, mul-le-mul_left, arith}
use Rattle.tree.specs.declared.Direction.{Direction}
use Rattle.tree.specs.declared.Direction.TheVariants.{Horizontal, Vertical}
use Rattle.tree.specs.declared.Decision.TheVariants.{Binary, Ternary}
use Rattle.tree.specs.Splits.{pick, along}
use Rattle.tree.specs.Children.{shares}
use Rattle.blocks.specs.Table.{share_table, share_at}
use Rattle.blocks.proofs.Shares.{either_way}
use Rattle.nodes.specs.RowNodes.{node_in, child_row, step_along, cut_part}
use Rattle.nodes.proofs.Bounds.{side_small}

-- ---- the direction as data: shifts by the places that it names

side_at : (e : ℕ) → 1 * 2 ^ (e % 8) % 18446744073709551616 ≡ 2 ^ (e % 8)
side_at e = omega (arith, side_small {e = e % 8} (omega arith))

pub side_shift : (row : ℕ) (v : Direction) → 1 * 2 ^ (row / 2 ^ pick v 40 32 % 8) % 18446744073709551616 ≡ along v (node_in row)
unfolding node_in
side_shift row Horizontal = side_at (row / 1099511627776)
side_shift row Vertical = side_at (row / 4294967296)

pub side_most : (row : ℕ) (v : Direction) → along v (node_in row) ≤ 128
unfolding node_in
side_most row Horizontal = side_small {e = row / 1099511627776 % 8} (omega arith)
side_most row Vertical = side_small {e = row / 4294967296 % 8} (omega arith)

pub step_most : {side start : ℕ} → side ≤ 128 → start ≤ 4 → side / 4 * start ≤ 128
step_most {side} h k = omega (arith, mul-le-mul_left (side / 4) k)

pub corner_shift : (v : Direction) {step : ℕ} → step ≤ 128 → step * 2 ^ pick v 16 0 % 18446744073709551616 ≡ step * pick v 65536 1
corner_shift Horizontal h = omega arith
corner_shift Vertical h = omega arith

pub fall_shift : (v : Direction) {fall : ℕ} → fall ≤ 2 → fall * 2 ^ pick v 40 32 % 18446744073709551616 ≡ fall * pick v 1099511627776 4294967296
fall_shift Horizontal h = omega arith
fall_shift Vertical h = omega arith

pub fall_most : (v : Direction) {fall : ℕ} → fall ≤ 2 → fall * pick v 1099511627776 4294967296 ≤ 72057594037927936
fall_most Horizontal h = omega arith
fall_most Vertical h = omega arith

-- ---- the shares of the table: of a half, of the first or the last third, of the middle one

pub half_share : (v : Direction) → pick v (get_or share_table 3 0) (get_or share_table 6 0) ≡ 2
unfolding share_table
half_share v = either_way v 2

pub outer_share : (v : Direction) → pick v (get_or share_table 9 0) (get_or share_table 12 0) ≡ 1
unfolding share_table
outer_share v = either_way v 1

pub middle_share : (v : Direction) → pick v (get_or share_table 10 0) (get_or share_table 13 0) ≡ 2
unfolding share_table
middle_share v = either_way v 2

-- ---- the rows

pub first_half_is : (row : ℕ) (v : Direction) → cut_part row v 2 ≡ child_row row (Binary v) 0
unfolding child_row share_at shares
first_half_is row Horizontal = omega arith
first_half_is row Vertical = omega arith

pub second_half_is : (row : ℕ) (v : Direction) → (child_row row (Binary v) 0 + step_along row v 2) % 2 ^ 64 ≡ child_row row (Binary v) 1
unfolding child_row share_at shares
second_half_is row Horizontal = omega arith
second_half_is row Vertical = omega arith

pub first_third_is : (row : ℕ) (v : Direction) → cut_part row v 1 ≡ child_row row (Ternary v) 0
unfolding child_row share_at shares
first_third_is row Horizontal = omega arith
first_third_is row Vertical = omega arith

pub middle_third_is : (row : ℕ) (v : Direction) → (cut_part row v 2 + step_along row v 1) % 2 ^ 64 ≡ child_row row (Ternary v) 1
unfolding child_row share_at shares
middle_third_is row Horizontal = omega arith
middle_third_is row Vertical = omega arith

pub last_third_is : (row : ℕ) (v : Direction) → (child_row row (Ternary v) 0 + step_along row v 3) % 2 ^ 64 ≡ child_row row (Ternary v) 2
unfolding child_row share_at shares
last_third_is row Horizontal = omega arith
last_third_is row Vertical = omega arith
