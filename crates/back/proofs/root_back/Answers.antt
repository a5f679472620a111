use Rattle.std.proofs.Common.{ℕ, Bool, false, List, [], ◌∷◌, ◌≡◌}
use Rattle.walks.specs.Rooted.{SomeRoot}
use Rattle.walks.specs.Stands.{word, Inside}
use Rattle.walks.specs.Walks.{Asked}
use Rattle.walks.proofs.Roots.{root_begins, root_out, out_asked, out_done, in_asked, in_done}
use Rattle.nodes.specs.RowNodes.{bound_in}
use Rattle.back.specs.Walking.{Starts, back_way}
use Rattle.back.proofs.Steps.{at_row, leaf_room, walked_own, not_own}
use Rattle.back.proofs.Whole.{starts_left}
use Rattle.back.proofs.root_back.Goals as goal

-- a root inside the picture
asked_in : {rows u : List ℕ} {c row : ℕ} {out : Bool} {splits bound : ℕ} → Starts rows c row → SomeRoot u row out splits → out ≡ false → bound ≡ bound_in u 0 → Asked (back_way rows) (Inside bound) u c (word row splits ∷ [])
asked_in {rows} {c = c} s some within is = in_asked (back_way rows) _ c (starts_left s) s.room within is some

pub node_back-requires : goal.node_back-requires
node_back-requires c =
    let some = c.requires.0 in
    let s = c.requires.1 in
    (out_asked (back_way c.args.rows.now) _ c.args.c (starts_left s) s.room c.if-out.true c.depth_above.ensures some, c.requires.2, root_begins some.given, root_out some.given c.if-out.true)

pub returns-then-out : goal.returns-then-out
returns-then-out c =
    let s = c.requires.1 in
    out_done (back_way c.args.rows.now) _ c.args.c (starts_left s) s.room c.if-out.true c.depth_above.ensures c.node_back.ensures

pub same_row-requires : goal.same_row-requires
same_row-requires c = at_row (asked_in c.requires.1 c.requires.0 c.if-out.false c.bound-bound.ensures) c.requires.2 c.place.ensures.0

pub leaf-requires : goal.leaf-requires
leaf-requires c = leaf_room (asked_in c.requires.1 c.requires.0 c.if-out.false c.bound-bound.ensures) c.requires.2 c.place.ensures.0

pub returns-then-same_row : goal.returns-then-same_row
returns-then-same_row c =
    let s = c.requires.1 in
    let own = walked_own (asked_in s c.requires.0 c.if-out.false c.bound-bound.ensures) c.requires.2 c.place.ensures.0 c.same_row.ensures c.if-same_row.true c.leaf.ensures in
    in_done (back_way c.args.rows.now) _ c.args.c (starts_left s) s.room c.if-out.false c.bound-bound.ensures own

pub node_back-requires-2 : goal.node_back-requires-2
node_back-requires-2 c =
    let asked = asked_in c.requires.1 c.requires.0 c.if-out.false c.bound-bound.ensures in
    (asked, c.requires.2, not_own asked c.requires.2 c.place.ensures.0 c.same_row.ensures c.if-same_row.false)

pub returns : goal.returns
returns c =
    let s = c.requires.1 in
    in_done (back_way c.args.rows.now) _ c.args.c (starts_left s) s.room c.if-out.false c.bound-bound.ensures c.node_back-2.ensures
