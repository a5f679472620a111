-- A root that is a leaf, with QT open: its flag is delivered without a walk.
use Prim.Native.Nat.{ℕ}
use mathlib.Core.Path.{◌≡◌}
use mathlib.Core.Bool.{true}
use mathlib.Core.List.{List}
use lib.Dec.{ltb}
use borrow.Author.Tests.{ltb-true}
use Rattle.sides.proofs.Bools.{and_left, and_right}
use Rattle.tree.specs.declared.Limits.{Limits}
use Rattle.tree.specs.declared.Node.{Node}
use Rattle.tree.specs.Kind.{luma}
use Rattle.unit.specs.Answers.{Answer}
use Rattle.unit.specs.Answers.{Meets}
use Rattle.unit.specs.Writer.{write_rows}
use Rattle.walks.specs.Rooted.{UnitRoot}
use Rattle.writer.specs.Delivery.{quad_alone, deliver_leaf}
use Rattle.writer.proofs.Alone.{leaf_delivered, quad_leaf}

pub quad_delivered : {l : Limits} {root : Node} → UnitRoot l root → (bytes : List ℕ) → quad_alone l root bytes ≡ true
    → (b : List ℕ) {said : Answer} {left : List ℕ} → Meets (deliver_leaf 1 b) said left → Meets (write_rows (luma l) root bytes b) said left
quad_delivered {l} {root} u bytes h b m =
    let large = ltb-true l.minqt root.w (and_left (ltb l.minqt root.w) _ h) in
    leaf_delivered u bytes (and_right (ltb l.minqt root.w) _ h) 1 (quad_leaf u large) b m
