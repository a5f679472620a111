-- A root that is a leaf: its table is its own row alone, and its flags are those of a leaf.
use Prim.Native.Nat.{ℕ, ◌<◌}
use mathlib.Core.Path.{◌≡◌, sym, ap, ◌∙◌}
use mathlib.Core.Bool.{Bool, true, false, not}
use mathlib.Core.List.{List, [], ◌∷◌, append-nil}
use native.Mathlib.Omega.{arith}
use lib.Dec.{eqb}
use lib.ListN.{length}
use borrow.Author.Tests.{lt-ltb, eqb-true}
use Rattle.sides.proofs.Bools.{and_left, and_right}
use Rattle.tree.specs.declared.Limits.{Limits}
use Rattle.tree.specs.declared.Node.{Node}
use Rattle.tree.specs.declared.Decision.TheVariants.{Leaf}
use Rattle.tree.specs.Kind.{luma}
use Rattle.tree.specs.Splits.{inside, Rights, rights_of, rights_in, has, open_splits}
use Rattle.tree.specs.Flags.{flags_for}
use Rattle.tree.specs.Children.{shares, children_from, children}
use Rattle.tree.specs.Rows.{row_of, own_rows, row_at, rows_at}
use Rattle.tree.specs.Back.{is_same_row}
use Rattle.tree.specs.Tree.{none, node, flags_of, rows_of}
use Rattle.tree.proofs.Masks.{rights_back}
use Rattle.blocks.specs.RowNumbers.{row_word}
use Rattle.laws.proofs.Runs.{gives}
use Rattle.laws.proofs.SameRow.{same_row}
use Rattle.laws.proofs.Searching.{search_is_tree}
use Rattle.laws.proofs.Turning.{turning_is_tree}
use Rattle.unit.specs.Answers.{Answer}
use Rattle.refusals.specs.Said.{Accepted}
use Rattle.unit.specs.Answers.{Meets, finish_end, answer_of}
use Rattle.unit.specs.Writer.{flags_from, test_rows, write_rows}
use Rattle.unit.proofs.TreeTurning.{tree_turned}
use Rattle.walks.specs.Rooted.{Rooted, UnitRoot}
use Rattle.walks.proofs.UnitRoots.{rooted}
use Rattle.walks.proofs.RowFields.{fits}
use Rattle.marks.specs.Table.{Same}
use Rattle.writer.specs.Delivery.{leaf_alone, leaf_flags, deliver_leaf}
use Rattle.marks.proofs.RowWords.{word_tests}

module _ {l : Limits} {root : Node} (u : UnitRoot l root) where
  r : Rooted (luma l) root
  r = rooted u

  -- the test of the code, by the root's number
  pub own_row : {bytes : List ℕ} → length bytes ≡ 8 → {row : ℕ} {same : Bool} → Same bytes 0 row same → row ≡ row_word (row_of root) → same ≡ is_same_row (row_at bytes 0) (row_of root)
  own_row {bytes} len s e =
      let some : 0 < length bytes = omega arith in
      s.tests ∙ rw (lt-ltb _ _ some, e) (word_tests (s.eight some) (fits r.placed))

  module _ (within : inside l root ≡ true) where
    -- the test of the tree that is a leaf
    leaf_tested : flags_from (luma l) root (row_of root ∷ []) ≡ gives (flags_for (rights_of (luma l) root) Leaf) []
    unfolding rights_of children children_from shares own_rows rows_of flags_of
    leaf_tested =
        tree_turned (turning_is_tree r.proper r.placed.good r.here r.placed.sum) (search_is_tree r.proper r.placed.good r.here r.placed.sum) (node Leaf r.here within none none)
        ∙ ap (λ flags. gives flags []) (append-nil (flags_for (rights_of (luma l) root) Leaf))

    -- its flags by the number of its open splits
    leaf_rights : rights_in false (open_splits (rights_of (luma l) root)) ≡ rights_of (luma l) root
    unfolding rights_of
    leaf_rights = ap (λ out. rights_in out (open_splits (rights_of (luma l) root))) (ap not (sym within)) ∙ rights_back (rights_of (luma l) root)

  module _ (bytes : List ℕ) (h : leaf_alone l root bytes ≡ true) (splits : ℕ) (e : leaf_flags splits ≡ leaf_flags (open_splits (rights_of (luma l) root))) where
    alone_is : test_rows (luma l) root bytes ≡ gives (leaf_flags splits) []
    unfolding test_rows rows_at
    alone_is =
        let len = eqb-true (length bytes) 8 (and_left (eqb (length bytes) 8) _ h) in
        let rest = and_right (eqb (length bytes) 8) _ h in
        let own = same_row (row_at bytes 0) (row_of root) (and_left (is_same_row (row_at bytes 0) (row_of root)) _ rest) in
        let within = and_right (is_same_row (row_at bytes 0) (row_of root)) _ rest in
        rw (e, len, own, leaf_rights within) (leaf_tested within)

    -- the test of a leaf's row answers the number of its flags
    pub leaf_counted : {n : ℕ} → n ≡ length (leaf_flags splits) → Accepted n ≡ answer_of (test_rows (luma l) root bytes)
    leaf_counted c = rw (c, alone_is)

    -- the delivery of a leaf's flags is the way back of its row
    pub leaf_delivered : (buffer : List ℕ) {said : Answer} {left : List ℕ}
        → Meets (deliver_leaf splits buffer) said left → Meets (write_rows (luma l) root bytes buffer) said left
    unfolding write_rows finish_end
    leaf_delivered buffer m = rw alone_is m

-- above MinQt the flags of a leaf are those of a root with QT alone
pub quad_leaf : {l : Limits} {root : Node} → UnitRoot l root → l.minqt < root.w → leaf_flags 1 ≡ leaf_flags (open_splits (rights_of (luma l) root))
unfolding flags_for rights_of
quad_leaf {l} {root} u h =
    let q : has (open_splits (rights_of (luma l) root)) 1 ≡ true = ap (λ (x : Rights). x.quad) (rights_back (rights_of (luma l) root)) ∙ rw (u.square.uncut, lt-ltb _ _ h) in
    rw q
