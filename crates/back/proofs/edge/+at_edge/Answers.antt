use Prim.Native.Nat.{ℕ}
use mathlib.Core.Path.{◌≡◌, refl, sym, ap, ◌∙◌}
use mathlib.Core.Bool.{not}
use mathlib.Core.List.{List, [], ◌∷◌}
use native.Mathlib.Omega.{arith}
use Rattle.tree.specs.declared.Decision.TheVariants.{Quad}
use Rattle.tree.specs.Splits.{right_out, bottom_out}
use Rattle.nodes.specs.Tables.{limits_in}
use Rattle.nodes.specs.RowNodes.{node_in, child_row, out_in}
use Rattle.walks.specs.Stands.{Word, word, Outer}
use Rattle.walks.specs.Kids.{four_words, outer_kids}
use Rattle.walks.specs.Walks.{Asked}
use Rattle.walks.proofs.Apart.{tested_or, was_walked, was_refused}
use Rattle.walks.proofs.AtEdge.{out_splits_is, edge_gone, handed_asked, handed_walked}
use Rattle.walks.proofs.Children.{outer_placed}
use Rattle.walks.proofs.KidWords.{out_none, out_four, out_two, out_three}
use Rattle.walks.proofs.Lists.{none_walked}
use Rattle.walks.proofs.Progress.{with_read, same_word, same_asked, same_walked, Progress, begun, last, ended, next_child, refused, walked}
use Rattle.walks.proofs.Split.{Split, kids_asked, walked_kids}
use Rattle.back.specs.Walking.{back_way}
use Rattle.back.proofs.Way.{back_lawful}
use Rattle.back.proofs.Steps.{in_room, out_nothing, one_cut, edge_shut, splits_out}
use Rattle.back.proofs.edge.+at_edge.Goals as goal
use Rattle.back.proofs.edge.+at_edge.Goals.{node_back-After-allowed, node_back-After-position, four_back-In-Ok, four_back-In-Ok-child_answer, four_back-In-Ok-child_answer-2, pair_back-In-Ok}

pub child_back-returns-then-not-begins_inside : goal.child_back-returns-then-not-begins_inside
child_back-returns-then-not-begins_inside t c = edge_gone (back_way c.args.rows.now) refl (sym c.begins_inside.ensures ∙ c.if-not-begins_inside.true)

pub child_back-child_back-requires : goal.child_back-child_back-requires
child_back-child_back-requires t c =
    let here = sym c.begins_inside.ensures ∙ c.if-not-begins_inside.false in
    let out = tested_or c.right_out_at.ensures c.bottom_out_at.ensures c.if-right_out_at-bottom_out_at.false in
    (handed_asked (back_way c.args.rows.now) here out c.bound.ensures c.inner_splits-splits.ensures c.requires.0, c.requires.1)

pub child_back-returns : goal.child_back-returns
child_back-returns t c =
    let here = sym c.begins_inside.ensures ∙ c.if-not-begins_inside.false in
    let out = tested_or c.right_out_at.ensures c.bottom_out_at.ensures c.if-right_out_at-bottom_out_at.false in
    handed_walked (back_way c.args.rows.now) here out c.bound.ensures c.inner_splits-splits.ensures c.child_back.ensures

pub children_back-four_back-requires : goal.children_back-four_back-requires
children_back-four_back-requires t c =
    let a = c.args in
    with_read c.requires.1 (same_asked _ _ (out_four a.u.now a.row a.depths c.in-Quad.is c.depth_above-k.ensures) c.decreases c.requires.0)

pub children_back-pair_back-requires : goal.children_back-pair_back-requires
children_back-pair_back-requires t c =
    let a = c.args in
    with_read c.requires.1 (same_asked _ _ (out_two a.u.now a.row a.depths c.in-Binary.is c.depth_below-k.ensures c.first_half-row0.ensures c.second_half-row1.ensures) c.decreases c.requires.0)

pub children_back-returns-in-Leaf : goal.children_back-returns-in-Leaf
children_back-returns-in-Leaf t c =
    let a = c.args in
    same_walked _ _ (out_none a.u.now a.row a.depths c.in-Leaf.is) (none_walked _ _ a.u.now a.c a.flags.now refl)

pub children_back-returns-in-Quad : goal.children_back-returns-in-Quad
children_back-returns-in-Quad t c =
    let a = c.args in
    same_walked _ _ (out_four a.u.now a.row a.depths c.in-Quad.is c.depth_above-k.ensures) c.four_back.ensures

pub children_back-returns-in-Binary : goal.children_back-returns-in-Binary
children_back-returns-in-Binary t c =
    let a = c.args in
    same_walked _ _ (out_two a.u.now a.row a.depths c.in-Binary.is c.depth_below-k.ensures c.first_half-row0.ensures c.second_half-row1.ensures) c.pair_back.ensures

pub children_back-returns-in-Ternary : goal.children_back-returns-in-Ternary
children_back-returns-in-Ternary t c =
    let a = c.args in
    same_walked _ _ (out_three a.u.now a.row a.depths c.in-Ternary.is) (none_walked _ _ a.u.now a.c a.flags.now refl)

-- ---- four_back: its children, one after the other

-- so many are walked
abbrev FourSoFar : (rows u b : List ℕ) (c : ℕ) (row depths : ℕ) → ℕ → ℕ → List Word → List ℕ → Type 0
FourSoFar rows u b c row depths gone at left so_far = Progress (back_way rows) Outer u c (four_words row depths) b gone at left so_far

four_0 : {rows u b : List ℕ} {c : ℕ} (row depths : ℕ) → Asked (back_way rows) Outer u c (four_words row depths) → FourSoFar rows u b c row depths 0 c (word (child_row row Quad 0) depths ∷ word (child_row row Quad 1) depths ∷ word (child_row row Quad 2) depths ∷ word (child_row row Quad 3) depths ∷ []) b
four_0 row depths a = begun _ _ a

four_1 : (t : ℕ) (c : four_back-In-Ok t) → let a = c.args in FourSoFar a.rows.now a.u.now a.flags.now a.c a.row a.depths 1 c.in-Ok.c1 (word (child_row a.row Quad 1) a.depths ∷ word (child_row a.row Quad 2) a.depths ∷ word (child_row a.row Quad 3) a.depths ∷ []) c.child_back-first.new.flags
four_1 t c =
    let a = c.args in
    walked _ _ (back_lawful a.rows.now) outer_placed (four_0 a.row a.depths c.requires.0) (same_word c.child_row-row0.ensures refl) c.child_back-first.ensures (was_walked _ c.child_answer.ensures c.in-Ok.is)

four_2 : (t : ℕ) (c : four_back-In-Ok-child_answer t) → let a = c.args in FourSoFar a.rows.now a.u.now a.flags.now a.c a.row a.depths 2 c.in-Ok-child_answer.c2 (word (child_row a.row Quad 2) a.depths ∷ word (child_row a.row Quad 3) a.depths ∷ []) c.child_back-second.new.flags
four_2 t c =
    let a = c.args in
    let p1 = walked _ _ (back_lawful a.rows.now) outer_placed (four_0 a.row a.depths c.requires.0) (same_word c.child_row-row0.ensures refl) c.child_back-first.ensures (was_walked _ c.child_answer.ensures c.in-Ok.is) in
    walked _ _ (back_lawful a.rows.now) outer_placed p1 (same_word c.child_row-row1.ensures refl) c.child_back-second.ensures (was_walked _ c.child_answer-2.ensures c.in-Ok-child_answer.is)

four_3 : (t : ℕ) (c : four_back-In-Ok-child_answer-2 t) → let a = c.args in FourSoFar a.rows.now a.u.now a.flags.now a.c a.row a.depths 3 c.in-Ok-child_answer-2.c3 (word (child_row a.row Quad 3) a.depths ∷ []) c.child_back-third.new.flags
four_3 t c =
    let a = c.args in
    let p1 = walked _ _ (back_lawful a.rows.now) outer_placed (four_0 a.row a.depths c.requires.0) (same_word c.child_row-row0.ensures refl) c.child_back-first.ensures (was_walked _ c.child_answer.ensures c.in-Ok.is) in
    let p2 = walked _ _ (back_lawful a.rows.now) outer_placed p1 (same_word c.child_row-row1.ensures refl) c.child_back-second.ensures (was_walked _ c.child_answer-2.ensures c.in-Ok-child_answer.is) in
    walked _ _ (back_lawful a.rows.now) outer_placed p2 (same_word c.child_row-row2.ensures refl) c.child_back-third.ensures (was_walked _ c.child_answer-3.ensures c.in-Ok-child_answer-2.is)

pub four_back-child_back-first-requires : goal.four_back-child_back-first-requires
four_back-child_back-first-requires t c =
    let a = c.args in
    with_read c.requires.1 (next_child _ _ {b = a.flags.now} (back_lawful a.rows.now) outer_placed (four_0 a.row a.depths c.requires.0) (same_word c.child_row-row0.ensures refl) (omega arith) c.decreases)

pub four_back-returns-in_default : goal.four_back-returns-in_default
four_back-returns-in_default t c =
    let a = c.args in
    refused _ _ (back_lawful a.rows.now) outer_placed (four_0 a.row a.depths c.requires.0) (same_word c.child_row-row0.ensures refl) c.child_back-first.ensures (was_refused _ c.child_answer.ensures c.in_default.is)

pub four_back-child_back-second-requires : goal.four_back-child_back-second-requires
four_back-child_back-second-requires t c =
    let a = c.args in
    with_read c.requires.1 (next_child _ _ (back_lawful a.rows.now) outer_placed (four_1 t (goal.at.four_back-child_back-second-requires t c).In-Ok) (same_word c.child_row-row1.ensures refl) (omega arith) c.decreases)

pub four_back-returns-in_default-child_answer : goal.four_back-returns-in_default-child_answer
four_back-returns-in_default-child_answer t c =
    let a = c.args in
    refused _ _ (back_lawful a.rows.now) outer_placed (four_1 t (goal.at.four_back-returns-in_default-child_answer t c).In-Ok) (same_word c.child_row-row1.ensures refl) c.child_back-second.ensures (was_refused _ c.child_answer-2.ensures c.in_default-child_answer.is)

pub four_back-child_back-third-requires : goal.four_back-child_back-third-requires
four_back-child_back-third-requires t c =
    let a = c.args in
    with_read c.requires.1 (next_child _ _ (back_lawful a.rows.now) outer_placed (four_2 t (goal.at.four_back-child_back-third-requires t c).In-Ok-child_answer) (same_word c.child_row-row2.ensures refl) (omega arith) c.decreases)

pub four_back-returns-in_default-child_answer-2 : goal.four_back-returns-in_default-child_answer-2
four_back-returns-in_default-child_answer-2 t c =
    let a = c.args in
    refused _ _ (back_lawful a.rows.now) outer_placed (four_2 t (goal.at.four_back-returns-in_default-child_answer-2 t c).In-Ok-child_answer) (same_word c.child_row-row2.ensures refl) c.child_back-third.ensures (was_refused _ c.child_answer-3.ensures c.in_default-child_answer-2.is)

pub four_back-child_back-fourth-requires : goal.four_back-child_back-fourth-requires
four_back-child_back-fourth-requires t c =
    let a = c.args in
    with_read c.requires.1 (next_child _ _ (back_lawful a.rows.now) outer_placed (four_3 t (goal.at.four_back-child_back-fourth-requires t c).In-Ok-child_answer-2) (same_word c.child_row-row3.ensures refl) (omega arith) c.decreases)

pub four_back-returns-in_default-child_answer-3 : goal.four_back-returns-in_default-child_answer-3
four_back-returns-in_default-child_answer-3 t c =
    let a = c.args in
    last _ _ (four_3 t (goal.at.four_back-returns-in_default-child_answer-3 t c).In-Ok-child_answer-2) (same_word c.child_row-row3.ensures refl) c.child_back-fourth.ensures

pub four_back-returns : goal.four_back-returns
four_back-returns t c =
    let a = c.args in
    ended _ _ (four_3 t (goal.at.four_back-returns t c).In-Ok-child_answer-2) (same_word c.child_row-row3.ensures refl) c.child_back-fourth.ensures (was_walked _ c.child_answer-4.ensures c.in-Ok-child_answer-3.is)

-- ---- node_back

pub node_back-returns-then-rows-at : goal.node_back-returns-then-rows-at
node_back-returns-then-rows-at t c = rw c.refusal.ensures (out_nothing c.requires.0 c.requires.1 c.place-at.ensures.0 c.requires.2 c.requires.3 c.if-rows-at.true)

-- its open splits, once its decision is tested
node_splits : (t : ℕ) (c : node_back-After-allowed t) → let a = c.args in
    c.out_splits-splits.result ≡ out_in a.u.now a.row a.depths (right_out (limits_in a.u.now) (node_in a.row)) (bottom_out (limits_in a.u.now) (node_in a.row))
node_splits t c = out_splits_is c.args.u.now c.args.row c.args.depths c.right_out_at.ensures c.bottom_out_at-bottom.ensures c.out_splits-splits.ensures

pub node_back-returns-then-not-allowed : goal.node_back-returns-then-not-allowed
node_back-returns-then-not-allowed t c =
    rw c.refusal-then-not-allowed.ensures
    (edge_shut c.requires.0 c.requires.1 c.place-at.ensures.0 c.requires.2 c.requires.3 (node_splits t (goal.at.node_back-returns-then-not-allowed t c).After-allowed) c.if-rows-at.false c.word_at.ensures c.bottom_out_at-bottom.ensures c.decision_out-d.ensures c.allowed.ensures (ap not c.if-not-allowed.true))

pub node_back-put_out-n-requires : goal.node_back-put_out-n-requires
node_back-put_out-n-requires t c =
    let one = one_cut c.requires.0 c.requires.1 c.place-at.ensures.0 c.requires.2 c.requires.3 (node_splits t (goal.at.node_back-put_out-n-requires t c).After-allowed) in
    (let r = (in_room outer_placed c.requires.0).2 in let e = c.count.ensures.0 in omega arith, sym c.allowed.ensures ∙ c.if-not-allowed.false, one.0, one.1, one.2)

-- it is split
node_split : (t : ℕ) (c : node_back-After-position t) → let a = c.args in let d = c.decision_out-d.result in
    c.out_splits-splits.result ≡ out_in a.u.now a.row a.depths (right_out (limits_in a.u.now) (node_in a.row)) (bottom_out (limits_in a.u.now) (node_in a.row))
    → Split (back_way a.rows.now) a.c d a.flags.now c.position.result c.put_out-n.new.flags Outer a.u.now (word a.row a.depths) (outer_kids a.u.now a.row a.depths d)
node_split t c are =
    splits_out c.requires.0 c.requires.1 c.place-at.ensures.0 c.requires.2 c.requires.3 are c.if-rows-at.false c.word_at.ensures c.bottom_out_at-bottom.ensures c.decision_out-d.ensures (sym c.allowed.ensures ∙ c.if-not-allowed.false) c.count.ensures.0 c.put_out-n.ensures c.position.ensures

pub node_back-children_back-requires : goal.node_back-children_back-requires
node_back-children_back-requires t c =
    let here = goal.at.node_back-children_back-requires t c in
    with_read c.requires.1 (kids_asked (node_split t here.After-position (node_splits t here.After-allowed)) c.requires.0 c.decreases)

pub node_back-returns : goal.node_back-returns
node_back-returns t c =
    let here = goal.at.node_back-returns t c in
    walked_kids (node_split t here.After-position (node_splits t here.After-allowed)) refl (back_lawful _) c.children_back.ensures

-- ---- pair_back: its children, one after the other

-- so many are walked
abbrev PairSoFar : (rows u b : List ℕ) (c : ℕ) (row0 row1 depths : ℕ) → ℕ → ℕ → List Word → List ℕ → Type 0
PairSoFar rows u b c row0 row1 depths gone at left so_far = Progress (back_way rows) Outer u c (word row0 depths ∷ word row1 depths ∷ []) b gone at left so_far

pair_0 : {rows u b : List ℕ} {c : ℕ} (row0 row1 depths : ℕ) → Asked (back_way rows) Outer u c (word row0 depths ∷ word row1 depths ∷ []) → PairSoFar rows u b c row0 row1 depths 0 c (word row0 depths ∷ word row1 depths ∷ []) b
pair_0 row0 row1 depths a = begun _ _ a

pair_1 : (t : ℕ) (c : pair_back-In-Ok t) → let a = c.args in PairSoFar a.rows.now a.u.now a.flags.now a.c a.row0 a.row1 a.depths 1 c.in-Ok.c1 (word a.row1 a.depths ∷ []) c.child_back-first.new.flags
pair_1 t c =
    let a = c.args in
    walked _ _ (back_lawful a.rows.now) outer_placed (pair_0 a.row0 a.row1 a.depths c.requires.0) (same_word refl refl) c.child_back-first.ensures (was_walked _ c.child_answer.ensures c.in-Ok.is)

pub pair_back-child_back-first-requires : goal.pair_back-child_back-first-requires
pair_back-child_back-first-requires t c =
    let a = c.args in
    with_read c.requires.1 (next_child _ _ {b = a.flags.now} (back_lawful a.rows.now) outer_placed (pair_0 a.row0 a.row1 a.depths c.requires.0) (same_word refl refl) (omega arith) c.decreases)

pub pair_back-returns-in_default : goal.pair_back-returns-in_default
pair_back-returns-in_default t c =
    let a = c.args in
    refused _ _ (back_lawful a.rows.now) outer_placed (pair_0 a.row0 a.row1 a.depths c.requires.0) (same_word refl refl) c.child_back-first.ensures (was_refused _ c.child_answer.ensures c.in_default.is)

pub pair_back-child_back-second-requires : goal.pair_back-child_back-second-requires
pair_back-child_back-second-requires t c =
    let a = c.args in
    with_read c.requires.1 (next_child _ _ (back_lawful a.rows.now) outer_placed (pair_1 t (goal.at.pair_back-child_back-second-requires t c).In-Ok) (same_word refl refl) (omega arith) c.decreases)

pub pair_back-returns-in_default-child_answer : goal.pair_back-returns-in_default-child_answer
pair_back-returns-in_default-child_answer t c =
    let a = c.args in
    last _ _ (pair_1 t (goal.at.pair_back-returns-in_default-child_answer t c).In-Ok) (same_word refl refl) c.child_back-second.ensures

pub pair_back-returns : goal.pair_back-returns
pair_back-returns t c =
    let a = c.args in
    ended _ _ (pair_1 t (goal.at.pair_back-returns t c).In-Ok) (same_word refl refl) c.child_back-second.ensures (was_walked _ c.child_answer-2.ensures c.in-Ok-child_answer.is)
