use Rattle.std.proofs.Common.{refl}
use Rattle.walks.proofs.Roots.{root_begins, root_out, out_asked, out_done, in_asked, in_done}
use Rattle.parser.specs.Walking.{read_way}
use Rattle.parser.proofs.Decided.{no_leaf}
use Rattle.parser.proofs.root_walk.Goals as goal

pub node_at_edge-requires : goal.node_at_edge-requires
node_at_edge-requires c =
    let some = c.requires.0 in
    (out_asked (read_way c.args.flags.now) _ c.args.c refl c.requires.1 c.if-out.true c.depth_above.ensures some, root_begins some.given, root_out some.given c.if-out.true)

pub returns-then-out : goal.returns-then-out
returns-then-out c = out_done (read_way c.args.flags.now) _ c.args.c refl c.requires.1 c.if-out.true c.depth_above.ensures c.node_at_edge.ensures

pub node_walk-requires : goal.node_walk-requires
node_walk-requires c =
    let flags = c.args.flags.now in
    let no = no_leaf flags c.args.c c.if-out.false c.requires.2 in
    (in_asked (read_way flags) _ c.args.c refl c.requires.1 c.if-out.false c.bound.ensures c.requires.0, no.0, no.1)

pub returns : goal.returns
returns c = in_done (read_way c.args.flags.now) _ c.args.c refl c.requires.1 c.if-out.false c.bound.ensures c.node_walk.ensures
