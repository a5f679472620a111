use Rattle.std.proofs.Common.{◌≡◌, ℕ, ◌≤◌, ◌/◌, ◌%◌, refl, sym, ap, ◌∙◌, arith}
use Rattle.walks.specs.Stands.{area_in}
use Rattle.walks.proofs.Apart.{tested_or, was_walked, was_refused}
use Rattle.walks.proofs.AtEdge.{out_splits_is, edge_gone}
use Rattle.search.specs.Walking.{search_way}
use Rattle.search.proofs.Nodes.{known_asked, known_walked, out_known, in_known, tried_first, tried_second, tried_farther}
use Rattle.search.proofs.PartWords.{four_parts}
use Rattle.search.proofs.Steps.{Ahead, row_ahead, child_ended, child_elsewhere, Level, node_quad, node_cut, node_leaf, node_other}
use Rattle.search.proofs.Splits.{split_shut, parts_asked, split_tried, parts_ended, Part, part_asked, part_refused, rest_asked, rest_walked}
use Rattle.search.proofs.node.Search.+search.Goals as goal
use Rattle.search.proofs.node.Search.+search.Goals.{node_search-After-word_at-next, parts_search-After-left_to-left}

-- ---- a child

pub child_search-returns-then-not-begins_inside : goal.child_search-returns-then-not-begins_inside
child_search-returns-then-not-begins_inside t c = edge_gone (search_way c.args.self.now.rows.now) refl (sym c.begins_inside.ensures ∙ c.if-not-begins_inside.true)

pub child_search-returns-then-self-at : goal.child_search-returns-then-self-at
child_search-returns-then-self-at t c = child_ended (sym c.begins_inside.ensures ∙ c.if-not-begins_inside.false) c.place-at.ensures.0 c.refusal.ensures c.if-self-at.true

pub child_search-returns-then-word_at-row : goal.child_search-returns-then-word_at-row
child_search-returns-then-word_at-row t c =
    child_elsewhere (sym c.begins_inside.ensures ∙ c.if-not-begins_inside.false) c.place-at.ensures.0 c.refusal-then-word_at-row.ensures
    (row_ahead c.requires c.args.self.now.whole c.place-at.ensures.0 c.if-self-at.false c.word_at.ensures) c.if-word_at-row.true

pub child_search-node_search-requires : goal.child_search-node_search-requires
child_search-node_search-requires t c =
    let m = c.decreases in
    let e = c.place-at.ensures.0 in
    let h = c.if-self-at.false in (
      omega arith,
      (
        known_asked (out_known (sym c.begins_inside.ensures ∙ c.if-not-begins_inside.false) (tested_or c.right_out_at-right.ensures c.bottom_out_at-bottom.ensures c.if-right-bottom.true)
            (out_splits_is c.args.self.now.u.now c.args.row c.args.depths c.right_out_at-right.ensures c.bottom_out_at-bottom.ensures c.out_splits-splits.ensures)) c.requires,
        omega arith,
      ),
    )

pub child_search-returns-then-right-bottom : goal.child_search-returns-then-right-bottom
child_search-returns-then-right-bottom t c =
    known_walked (out_known (sym c.begins_inside.ensures ∙ c.if-not-begins_inside.false) (tested_or c.right_out_at-right.ensures c.bottom_out_at-bottom.ensures c.if-right-bottom.true)
    (out_splits_is c.args.self.now.u.now c.args.row c.args.depths c.right_out_at-right.ensures c.bottom_out_at-bottom.ensures c.out_splits-splits.ensures)) c.node_search.ensures

pub child_search-node_search-requires-2 : goal.child_search-node_search-requires-2
child_search-node_search-requires-2 t c =
    let m = c.decreases in
    let e = c.place-at.ensures.0 in
    let h = c.if-self-at.false in (
      omega arith,
      (
        known_asked (in_known (sym c.begins_inside.ensures ∙ c.if-not-begins_inside.false) (tested_or c.right_out_at-right.ensures c.bottom_out_at-bottom.ensures c.if-right-bottom.false) c.inner_splits-splits.ensures) c.requires,
        omega arith,
      ),
    )

pub child_search-returns : goal.child_search-returns
child_search-returns t c =
    known_walked (in_known (sym c.begins_inside.ensures ∙ c.if-not-begins_inside.false) (tested_or c.right_out_at-right.ensures c.bottom_out_at-bottom.ensures c.if-right-bottom.false) c.inner_splits-splits.ensures) c.node_search-2.ensures

-- ---- a node

-- the next row
node_ahead : (t : ℕ) (w : node_search-After-word_at-next t) → Ahead w.args.self.now.rows.now w.args.c w.word_at-next.result
node_ahead t w =
    let e = w.place-at.ensures.0 in
    let h = w.requires.1 in
    row_ahead w.requires.0 w.args.self.now.whole e (omega arith) w.word_at-next.ensures

-- its depths, and the node's
node_level : {row next a b x y : ℕ} → a ≡ row / 281474976710656 % 256 → b ≡ next / 281474976710656 % 256 → b ≤ a → x ≡ next / 72057594037927936 % 256 → y ≡ row / 72057594037927936 % 256 → Level row next x y
node_level e f h x y = record { flat = omega arith; x_is = x; y_is = y }

pub node_search-returns-then-qt_depth : goal.node_search-returns-then-qt_depth
node_search-returns-then-qt_depth t c =
    node_quad (node_ahead t (goal.at.node_search-returns-then-qt_depth t c).After-word_at-next) c.qt_depth.ensures.0 c.qt_depth-2.ensures.0 c.if-qt_depth.true c.split_search.ensures

pub node_search-returns-then-mtt_depth : goal.node_search-returns-then-mtt_depth
node_search-returns-then-mtt_depth t c =
    node_cut (node_ahead t (goal.at.node_search-returns-then-mtt_depth t c).After-word_at-next)
    (node_level c.qt_depth.ensures.0 c.qt_depth-2.ensures.0 c.if-qt_depth.false c.mtt_depth.ensures.0 c.mtt_depth-2.ensures.0) c.if-mtt_depth.true c.cut_search.ensures

pub node_search-returns-then-next-row : goal.node_search-returns-then-next-row
node_search-returns-then-next-row t c =
    node_leaf (node_ahead t (goal.at.node_search-returns-then-next-row t c).After-word_at-next)
    (node_level c.qt_depth.ensures.0 c.qt_depth-2.ensures.0 c.if-qt_depth.false c.mtt_depth.ensures.0 c.mtt_depth-2.ensures.0) c.if-mtt_depth.false c.if-next-row.true c.further.ensures

pub node_search-returns-else-next-row : goal.node_search-returns-else-next-row
node_search-returns-else-next-row t c =
    node_other (node_ahead t (goal.at.node_search-returns-else-next-row t c).After-word_at-next)
    (node_level c.qt_depth.ensures.0 c.qt_depth-2.ensures.0 c.if-qt_depth.false c.mtt_depth.ensures.0 c.mtt_depth-2.ensures.0) c.if-mtt_depth.false c.if-next-row.false c.place-at.ensures.0 c.refusal.ensures

-- ---- the cuts of a node, one after the other

-- the first was refused, and so on
pub cut_search-returns-in_default : goal.cut_search-returns-in_default
cut_search-returns-in_default t c = tried_first c.split_search-first.ensures (was_walked _ c.child_answer.ensures c.in_default.is).1

pub cut_search-returns-in_default-child_answer : goal.cut_search-returns-in_default-child_answer
cut_search-returns-in_default-child_answer t c =
    let on = (was_walked _ c.child_answer-2.ensures c.in_default-child_answer.is).1 in
    tried_second c.split_search-first.ensures (was_refused _ c.child_answer.ensures c.in-Err.is) (tried_first c.split_search-second.ensures on) on

pub cut_search-returns-in_default-child_answer-2 : goal.cut_search-returns-in_default-child_answer-2
cut_search-returns-in_default-child_answer-2 t c =
    let on = (was_walked _ c.child_answer-3.ensures c.in_default-child_answer-2.is).1 in
    tried_second c.split_search-first.ensures (was_refused _ c.child_answer.ensures c.in-Err.is)
    (tried_second c.split_search-second.ensures (was_refused _ c.child_answer-2.ensures c.in-Err-child_answer.is) (tried_first c.split_search-third.ensures on) on) on

pub cut_search-returns-in_default-child_answer-3 : goal.cut_search-returns-in_default-child_answer-3
cut_search-returns-in_default-child_answer-3 t c =
    let on = (was_walked _ c.child_answer-4.ensures c.in_default-child_answer-3.is).1 in
    tried_second c.split_search-first.ensures (was_refused _ c.child_answer.ensures c.in-Err.is)
    (tried_second c.split_search-second.ensures (was_refused _ c.child_answer-2.ensures c.in-Err-child_answer.is)
    (tried_second c.split_search-third.ensures (was_refused _ c.child_answer-3.ensures c.in-Err-child_answer-2.is) c.split_search-fourth.ensures on) on) on

pub cut_search-returns : goal.cut_search-returns
cut_search-returns t c =
    let last = tried_farther c.split_search-third.ensures (was_refused _ c.child_answer-3.ensures c.in-Err-child_answer-2.is)
    c.split_search-fourth.ensures (was_refused _ c.child_answer-4.ensures c.in-Err-child_answer-3.is) c.max.ensures in
    let later = tried_farther c.split_search-second.ensures (was_refused _ c.child_answer-2.ensures c.in-Err-child_answer.is) last.0 last.1 c.max-2.ensures in
    (tried_farther c.split_search-first.ensures (was_refused _ c.child_answer.ensures c.in-Err.is) later.0 later.1 c.max-3.ensures).0

-- ---- a split

pub split_search-returns-then-not-allowed : goal.split_search-returns-then-not-allowed
split_search-returns-then-not-allowed t c = split_shut c.args.d c.requires.1 (sym c.allowed.ensures ∙ c.if-not-allowed.true) c.place.ensures.0 c.refusal.ensures

pub split_search-parts_search-requires : goal.split_search-parts_search-requires
split_search-parts_search-requires t c =
    let m = c.decreases in
    let f = four_parts c.args.d in
    let a = parts_asked c.args.d c.requires.1 (sym c.allowed.ensures ∙ c.if-not-allowed.false) c.requires.0 in
    (omega arith, a)

pub split_search-returns : goal.split_search-returns
split_search-returns t c = split_tried c.args.d c.requires.1 (sym c.allowed.ensures ∙ c.if-not-allowed.false) c.parts_search.ensures

-- ---- its parts

pub parts_search-returns-then-parts-i : goal.parts_search-returns-then-parts-i
parts_search-returns-then-parts-i t c =
    let a = c.args in
    let e = c.parts.ensures.0 in
    let h = c.if-parts-i.true in
    parts_ended a.self.now.u.now a.row a.depths a.out a.d a.i (omega arith)

-- the numbers of the next part
parts_part : (t : ℕ) (l : parts_search-After-left_to-left t) → let a = l.args in Part a.self.now.u.now a.row a.depths a.out a.d a.i l.child_row-part.result l.left_to-left.result
parts_part t l =
    let e = l.parts.ensures.0 in
    let h = l.if-parts-i.false in
    record { more = omega arith; part_is = l.child_row-part.ensures; left_is = l.left_to-left.ensures }

pub parts_search-child_search-first-requires : goal.parts_search-child_search-first-requires
parts_search-child_search-first-requires t c =
    let p = parts_part t c in
    let m = c.decreases in
    let less = c.requires.1.each c.args.i p.more in
    let same = ap (λ (x : ℕ). area_in x) p.part_is in
    (omega arith, part_asked p c.requires.0)

pub parts_search-returns-in_default : goal.parts_search-returns-in_default
parts_search-returns-in_default t c =
    part_refused (parts_part t (goal.at.parts_search-returns-in_default t c).After-left_to-left) c.requires.0 c.child_search-first.ensures (was_refused _ c.child_answer.ensures c.in_default.is)

pub parts_search-parts_search-requires : goal.parts_search-parts_search-requires
parts_search-parts_search-requires t c =
    let p = parts_part t (goal.at.parts_search-parts_search-requires t c).After-left_to-left in
    let m = c.decreases in
    let h = p.more in
    (omega arith, (rest_asked p c.requires.0 c.child_search-first.ensures (was_walked _ c.child_answer.ensures c.in-Ok.is), c.requires.1))

pub parts_search-returns : goal.parts_search-returns
parts_search-returns t c =
    rest_walked (parts_part t (goal.at.parts_search-returns t c).After-left_to-left) c.requires.0 c.child_search-first.ensures (was_walked _ c.child_answer.ensures c.in-Ok.is) c.parts_search.ensures
