-- The laws of coding trees, for the trees of a root.
use Prim.Native.Nat.{ℕ, ◌%◌}
use mathlib.Core.Path.{◌≡◌}
use mathlib.Core.List.{List, []}
use native.Mathlib.Omega.{arith}
use borrow.Author.Tests.{eq-eqb}
use lib.ListN.{length}
use Rattle.tree.specs.declared.Node.{Node}
use Rattle.tree.specs.Kind.{Kind}
use Rattle.tree.specs.Rows.{table_bytes, rows_in}
use Rattle.tree.specs.Tree.{Tree, flags_of, rows_of}
use Rattle.laws.specs.Every.{Every}
use Rattle.laws.specs.Geometry.{SmallRow}
use Rattle.laws.proofs.Depths.{rows_small}
use Rattle.laws.proofs.Runs.{gives}
use Rattle.laws.proofs.Reading.{ReadingIsTree, reading_is_tree}
use Rattle.laws.proofs.Turning.{TurningIsTree, turning_is_tree}
use Rattle.laws.proofs.Searching.{SearchIsTree, search_is_tree}
use Rattle.unit.specs.Answers.{deliver, finish_end}
use Rattle.unit.specs.Writer.{test_rows, write_rows}
use Rattle.unit.proofs.Roots.{Root, picture_most}
use Rattle.unit.proofs.Parsed.{table_length, small_back}
use Rattle.unit.proofs.TreeTurning.{tree_turned}

module _ {k : Kind} {root : Node} (r : Root k root) where
  pub root_reading : ReadingIsTree k root
  root_reading = reading_is_tree r.valid r.good r.here r.fits

  pub root_turning : TurningIsTree k root
  root_turning = turning_is_tree r.valid r.good r.here r.fits

  pub root_search : SearchIsTree k root
  root_search = search_is_tree r.valid r.good r.here r.fits

  module _ (t : Tree k root) where
    -- the bytes of a tree's rows lose nothing, so they say these rows
    pub root_small : Every SmallRow (rows_of t)
    root_small = rows_small r.valid (picture_most r) r.good.shape r.fits t

    pub root_said : rows_in (table_bytes (rows_of t)) ≡ rows_of t
    root_said = small_back root_small

    -- they pass the test, with the tree's flags
    pub root_tested : test_rows k root (table_bytes (rows_of t)) ≡ gives (flags_of t) []
    unfolding test_rows
    root_tested =
        let e = table_length (rows_of t) in
        rw (eq-eqb (length (table_bytes (rows_of t)) % 8) 0 (omega arith)) (rw root_said (tree_turned root_turning root_search t))

    -- and are turned back into these
    pub root_turns : (buffer : List ℕ) → write_rows k root (table_bytes (rows_of t)) buffer
        ≡ deliver 17 (length (flags_of t)) (flags_of t) buffer
    unfolding write_rows finish_end
    root_turns buffer = rw root_tested
