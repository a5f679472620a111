use Prim.Native.Nat.{ℕ, ◌≤◌}
use mathlib.Core.Path.{◌≡◌}
use native.Mathlib.Omega.{arith}
use Rattle.tree.specs.declared.Share.{Share}
use Rattle.tree.specs.declared.Decision.{Decision}
use Rattle.blocks.specs.Table.{share_at}
use Rattle.blocks.proofs.Shares.{Within, share_within}
use Rattle.blocks.proofs.parts.part_at.Goals as goal

-- each number of a share is at most the four quarters of the parent
in_four : (d : Decision) (i : ℕ) {s : Share} → s ≡ share_at d i → (s.left ≤ 4) × (s.top ≤ 4) × (s.wide ≤ 4) × (s.high ≤ 4)
in_four d i {s} e = let w : Within s = rw e (share_within d i) in (omega arith, omega arith, omega arith, omega arith)

pub quarters-requires : goal.quarters-requires
quarters-requires c = (in_four c.args.d c.args.i c.share_at-s.ensures).0

pub quarters-requires-2 : goal.quarters-requires-2
quarters-requires-2 c = (in_four c.args.d c.args.i c.share_at-s.ensures).1

pub quarters-requires-3 : goal.quarters-requires-3
quarters-requires-3 c = (in_four c.args.d c.args.i c.share_at-s.ensures).2

pub quarters-requires-4 : goal.quarters-requires-4
quarters-requires-4 c = (in_four c.args.d c.args.i c.share_at-s.ensures).3
