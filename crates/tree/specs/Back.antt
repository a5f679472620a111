-- The way back of a node: the flags that give rows. This is an algorithm, without search: at each node the decision
-- follows from the rows ahead. What it means is `Demand2` (unit/specs/Demand2.antt): rows become the flags of the coding
-- tree that has them.
use Rattle.std.specs.Prelude.{ℕ, zero, suc, ◌+◌, ◌-◌, ◌*◌, ◌/◌, ◌%◌, ◌^◌, Bool, true, false, cond, ◌&&◌, List, [], ◌∷◌, leb, ltb, eqb}
use Rattle.tree.specs.declared.Limits.{Limits}
use Rattle.tree.specs.declared.Node.{Node}
use Rattle.tree.specs.declared.Direction.TheVariants.{Horizontal, Vertical}
use Rattle.tree.specs.declared.Decision.{Decision}
use Rattle.tree.specs.declared.Decision.TheVariants.{Leaf, Quad, Binary, Ternary}
use Rattle.tree.specs.Kind.{Kind}
use Rattle.tree.specs.Splits.{right_out, bottom_out, inside, rights_of, allows}
use Rattle.tree.specs.Flags.{flags_for}
use Rattle.tree.specs.Children.{children}
use Rattle.tree.specs.Rows.{Row, row_of}
use Rattle.tree.specs.Run.{Run, goes, refuse, before, over_all}
use Rattle.tree.specs.Reading.{levels_left}

-- ---- the decision at a node, from the rows ahead

-- how many cells of 16 samples a row has, where its exponents are 2 to 7, as those of a tree's rows are; for others some number from 1 to 32,768
abbrev pub cells_of : Row → ℕ
cells_of r = 2 ^ ((r.ew + r.eh + 12) % 16)

-- the row before which exactly so many cells go by passes a test; false where no row starts there
unfoldable pub starts_after : ℕ → (Row → Bool) → List Row → Bool
starts_after count test [] = false
starts_after count test (r ∷ rs) = cond (leb (cells_of r) count) (starts_after (count - cells_of r) test rs) (eqb count 0 && test r)

-- a row starts at the left edge of a node; at its top edge
abbrev pub at_left : Node → Row → Bool
at_left n r = eqb r.x n.x

abbrev pub at_top : Node → Row → Bool
at_top n r = eqb r.y n.y

-- The cut of a node inside the picture. The second part of a horizontal cut starts at the left edge, that of a vertical one at the top edge: after half
-- of the samples where the cut is binary, after a quarter where it is ternary. After half of a ternary cut no row starts at either edge, since the
-- middle part is not cut in two the same way. A node of 16 samples asks after 0 cells for its half, one of 32 for its quarter: such cuts are closed, so
-- that decides nothing.
unfoldable pub cut_from : Node → List Row → Decision
cut_from n rows =
    cond (starts_after (n.w * n.h / 32) (at_left n) rows) (Binary Horizontal)
    (cond (starts_after (n.w * n.h / 32) (at_top n) rows) (Binary Vertical)
    (cond (starts_after (n.w * n.h / 64) (at_left n) rows) (Ternary Horizontal) (Ternary Vertical)))

-- two rows are the same
unfoldable pub is_same_row : Row → Row → Bool
is_same_row a b =
    eqb a.x b.x && eqb a.y b.y && eqb a.ew b.ew && eqb a.eh b.eh && eqb a.qt b.qt && eqb a.mtt b.mtt

-- The decision at a node, from the row that is next and the rows after it. A node whose own row is next is a leaf; the rows below a split are deeper
-- than its node, so none of them is the node's own.
unfoldable pub decision_from : Limits → Node → Row → List Row → Decision
decision_from l n r rows =
    cond (inside l n && is_same_row r (row_of n)) Leaf
    (cond (ltb n.qt r.qt) Quad
    (cond (bottom_out l n) (Binary Horizontal)
    (cond (right_out l n) (Binary Vertical)
    (cut_from n (r ∷ rows)))))

-- ---- the way back

-- no flags give these rows; where a table stops being a tree, and with which number, is found by a search (Search.antt)
abbrev pub no_flags : Run ℕ (List Row)
no_flags = refuse 16 0

-- a split that the node allows: its flags, then those of its children
abbrev pub back_split : Kind → Node → (Node → List Row → Run ℕ (List Row)) → List Row → Decision → Run ℕ (List Row)
back_split k n go rows d = before (flags_for (rights_of k n) d) (over_all k.limits go (children k.limits n d) rows)

-- a decision that the node allows; a leaf takes the next row, which is its own where it is decided
unfoldable pub back_into : Kind → Node → (Node → List Row → Run ℕ (List Row)) → Row → List Row → Decision → Run ℕ (List Row)
back_into k n go r rows Leaf = record { given = flags_for (rights_of k n) Leaf; end = goes rows }
back_into k n go r rows Quad = back_split k n go (r ∷ rows) Quad
back_into k n go r rows (Binary d) = back_split k n go (r ∷ rows) (Binary d)
back_into k n go r rows (Ternary d) = back_split k n go (r ∷ rows) (Ternary d)

unfoldable pub back_with : Kind → Node → (Node → List Row → Run ℕ (List Row)) → Row → List Row → Decision → Run ℕ (List Row)
back_with k n go r rows d = elim (allows (rights_of k n) d) [ true ↦ back_into k n go r rows d | false ↦ no_flags ]

-- the flags of a node, and the rows that are left; the first argument as in `walk`
unfoldable pub back : ℕ → Kind → Node → List Row → Run ℕ (List Row)
back zero k n rows = no_flags
back (suc levels) k n [] = no_flags
back (suc levels) k n (r ∷ rows) = back_with k n (λ c left. back levels k c left) r rows (decision_from k.limits n r rows)

abbrev pub back_node : Kind → Node → List Row → Run ℕ (List Row)
back_node k n rows = back (levels_left n) k n rows
