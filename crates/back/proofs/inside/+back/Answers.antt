use Prim.Native.Nat.{ℕ}
use mathlib.Core.Path.{refl, sym, ap, ◌∙◌}
use mathlib.Core.Bool.{not}
use mathlib.Core.List.{List, [], ◌∷◌}
use native.Mathlib.Omega.{arith}
use Rattle.tree.specs.declared.Direction.{Direction}
use Rattle.tree.specs.declared.Decision.TheVariants.{Quad, Binary, Ternary}
use Rattle.nodes.specs.RowNodes.{child_row, cuts_of, open_below}
use Rattle.walks.specs.Stands.{Word, word, Inside}
use Rattle.walks.specs.Kids.{inner_kids}
use Rattle.walks.specs.Walks.{Asked}
use Rattle.walks.proofs.Apart.{was_walked, was_refused}
use Rattle.walks.proofs.Children.{inside_placed}
use Rattle.walks.proofs.Lists.{none_walked}
use Rattle.walks.proofs.Progress.{with_read, same_open, same_word, same_kid, same_walked, Progress, begun, last, ended, next_child, refused, walked}
use Rattle.walks.proofs.Split.{Split, kids_asked, walked_kids}
use Rattle.back.specs.Walking.{back_way}
use Rattle.back.proofs.Way.{back_lawful}
use Rattle.back.proofs.Steps.{leaf_room, walked_own, walked_nothing, walked_shut, splits_inside}
use Rattle.back.proofs.inside.+back.Goals as goal
use Rattle.back.proofs.inside.+back.Goals.{node_back-After-position, four_back-In-Ok, four_back-In-Ok-child_answer, four_back-In-Ok-child_answer-2, two_back-In-Ok, three_back-In-Ok, three_back-In-Ok-child_answer}

pub child_back-leaf-requires : goal.child_back-leaf-requires
child_back-leaf-requires t c = leaf_room c.requires.0 c.requires.1 c.place-at.ensures.0

pub child_back-returns-then-same_row : goal.child_back-returns-then-same_row
child_back-returns-then-same_row t c = walked_own c.requires.0 c.requires.1 c.place-at.ensures.0 c.same_row.ensures c.if-same_row.true c.leaf.ensures

pub children_back-returns-in-Leaf : goal.children_back-returns-in-Leaf
unfolding inner_kids
children_back-returns-in-Leaf t c =
    let a = c.args in
    same_walked _ _ (ap (inner_kids a.u.now a.row a.bound) (sym c.in-Leaf.is)) (none_walked _ _ a.u.now a.c a.flags.now refl)

-- ---- four_back: its children, one after the other

abbrev four_open : List ℕ → ℕ → ℕ → ℕ
four_open u row bound = open_below u (child_row row Quad 0) bound 30 1

-- so many are walked
abbrev FourSoFar : (rows u b : List ℕ) (c : ℕ) (row bound : ℕ) → ℕ → ℕ → List Word → List ℕ → Type 0
FourSoFar rows u b c row bound gone at left so_far = Progress (back_way rows) (Inside bound) u c (inner_kids u row bound Quad) b gone at left so_far

four_0 : {rows u b : List ℕ} {c : ℕ} (row bound : ℕ) → Asked (back_way rows) (Inside bound) u c (inner_kids u row bound Quad) → FourSoFar rows u b c row bound 0 c (word (child_row row Quad 0) (four_open u row bound) ∷ word (child_row row Quad 1) (four_open u row bound) ∷ word (child_row row Quad 2) (four_open u row bound) ∷ word (child_row row Quad 3) (four_open u row bound) ∷ []) b
unfolding inner_kids
four_0 row bound a = begun _ _ a

four_1 : (t : ℕ) (c : four_back-In-Ok t) → let a = c.args in FourSoFar a.rows.now a.u.now a.flags.now a.c a.row a.bound 1 c.in-Ok.c1 (word (child_row a.row Quad 1) (four_open a.u.now a.row a.bound) ∷ word (child_row a.row Quad 2) (four_open a.u.now a.row a.bound) ∷ word (child_row a.row Quad 3) (four_open a.u.now a.row a.bound) ∷ []) c.child_back-first.new.flags
four_1 t c =
    let a = c.args in
    walked _ _ (back_lawful a.rows.now) (inside_placed _) (four_0 a.row a.bound c.requires.0) (same_kid a.u.now a.bound 30 1 c.child_row-row0.ensures c.open_below-m.ensures c.child_row-row0.ensures) c.child_back-first.ensures (was_walked _ c.child_answer.ensures c.in-Ok.is)

four_2 : (t : ℕ) (c : four_back-In-Ok-child_answer t) → let a = c.args in FourSoFar a.rows.now a.u.now a.flags.now a.c a.row a.bound 2 c.in-Ok-child_answer.c2 (word (child_row a.row Quad 2) (four_open a.u.now a.row a.bound) ∷ word (child_row a.row Quad 3) (four_open a.u.now a.row a.bound) ∷ []) c.child_back-second.new.flags
four_2 t c =
    let a = c.args in
    let p1 = walked _ _ (back_lawful a.rows.now) (inside_placed _) (four_0 a.row a.bound c.requires.0) (same_kid a.u.now a.bound 30 1 c.child_row-row0.ensures c.open_below-m.ensures c.child_row-row0.ensures) c.child_back-first.ensures (was_walked _ c.child_answer.ensures c.in-Ok.is) in
    walked _ _ (back_lawful a.rows.now) (inside_placed _) p1 (same_kid a.u.now a.bound 30 1 c.child_row-row0.ensures c.open_below-m.ensures c.child_row-row1.ensures) c.child_back-second.ensures (was_walked _ c.child_answer-2.ensures c.in-Ok-child_answer.is)

four_3 : (t : ℕ) (c : four_back-In-Ok-child_answer-2 t) → let a = c.args in FourSoFar a.rows.now a.u.now a.flags.now a.c a.row a.bound 3 c.in-Ok-child_answer-2.c3 (word (child_row a.row Quad 3) (four_open a.u.now a.row a.bound) ∷ []) c.child_back-third.new.flags
four_3 t c =
    let a = c.args in
    let p1 = walked _ _ (back_lawful a.rows.now) (inside_placed _) (four_0 a.row a.bound c.requires.0) (same_kid a.u.now a.bound 30 1 c.child_row-row0.ensures c.open_below-m.ensures c.child_row-row0.ensures) c.child_back-first.ensures (was_walked _ c.child_answer.ensures c.in-Ok.is) in
    let p2 = walked _ _ (back_lawful a.rows.now) (inside_placed _) p1 (same_kid a.u.now a.bound 30 1 c.child_row-row0.ensures c.open_below-m.ensures c.child_row-row1.ensures) c.child_back-second.ensures (was_walked _ c.child_answer-2.ensures c.in-Ok-child_answer.is) in
    walked _ _ (back_lawful a.rows.now) (inside_placed _) p2 (same_kid a.u.now a.bound 30 1 c.child_row-row0.ensures c.open_below-m.ensures c.child_row-row2.ensures) c.child_back-third.ensures (was_walked _ c.child_answer-3.ensures c.in-Ok-child_answer-2.is)

pub four_back-child_back-first-requires : goal.four_back-child_back-first-requires
four_back-child_back-first-requires t c =
    let a = c.args in
    with_read c.requires.1 (next_child _ _ {b = a.flags.now} (back_lawful a.rows.now) (inside_placed _) (four_0 a.row a.bound c.requires.0) (same_kid a.u.now a.bound 30 1 c.child_row-row0.ensures c.open_below-m.ensures c.child_row-row0.ensures) (omega arith) c.decreases)

pub four_back-returns-in_default : goal.four_back-returns-in_default
four_back-returns-in_default t c =
    let a = c.args in
    refused _ _ (back_lawful a.rows.now) (inside_placed _) (four_0 a.row a.bound c.requires.0) (same_kid a.u.now a.bound 30 1 c.child_row-row0.ensures c.open_below-m.ensures c.child_row-row0.ensures) c.child_back-first.ensures (was_refused _ c.child_answer.ensures c.in_default.is)

pub four_back-child_back-second-requires : goal.four_back-child_back-second-requires
four_back-child_back-second-requires t c =
    let a = c.args in
    with_read c.requires.1 (next_child _ _ (back_lawful a.rows.now) (inside_placed _) (four_1 t (goal.at.four_back-child_back-second-requires t c).In-Ok) (same_kid a.u.now a.bound 30 1 c.child_row-row0.ensures c.open_below-m.ensures c.child_row-row1.ensures) (omega arith) c.decreases)

pub four_back-returns-in_default-child_answer : goal.four_back-returns-in_default-child_answer
four_back-returns-in_default-child_answer t c =
    let a = c.args in
    refused _ _ (back_lawful a.rows.now) (inside_placed _) (four_1 t (goal.at.four_back-returns-in_default-child_answer t c).In-Ok) (same_kid a.u.now a.bound 30 1 c.child_row-row0.ensures c.open_below-m.ensures c.child_row-row1.ensures) c.child_back-second.ensures (was_refused _ c.child_answer-2.ensures c.in_default-child_answer.is)

pub four_back-child_back-third-requires : goal.four_back-child_back-third-requires
four_back-child_back-third-requires t c =
    let a = c.args in
    with_read c.requires.1 (next_child _ _ (back_lawful a.rows.now) (inside_placed _) (four_2 t (goal.at.four_back-child_back-third-requires t c).In-Ok-child_answer) (same_kid a.u.now a.bound 30 1 c.child_row-row0.ensures c.open_below-m.ensures c.child_row-row2.ensures) (omega arith) c.decreases)

pub four_back-returns-in_default-child_answer-2 : goal.four_back-returns-in_default-child_answer-2
four_back-returns-in_default-child_answer-2 t c =
    let a = c.args in
    refused _ _ (back_lawful a.rows.now) (inside_placed _) (four_2 t (goal.at.four_back-returns-in_default-child_answer-2 t c).In-Ok-child_answer) (same_kid a.u.now a.bound 30 1 c.child_row-row0.ensures c.open_below-m.ensures c.child_row-row2.ensures) c.child_back-third.ensures (was_refused _ c.child_answer-3.ensures c.in_default-child_answer-2.is)

pub four_back-child_back-fourth-requires : goal.four_back-child_back-fourth-requires
four_back-child_back-fourth-requires t c =
    let a = c.args in
    with_read c.requires.1 (next_child _ _ (back_lawful a.rows.now) (inside_placed _) (four_3 t (goal.at.four_back-child_back-fourth-requires t c).In-Ok-child_answer-2) (same_kid a.u.now a.bound 30 1 c.child_row-row0.ensures c.open_below-m.ensures c.child_row-row3.ensures) (omega arith) c.decreases)

pub four_back-returns-in_default-child_answer-3 : goal.four_back-returns-in_default-child_answer-3
four_back-returns-in_default-child_answer-3 t c =
    let a = c.args in
    last _ _ (four_3 t (goal.at.four_back-returns-in_default-child_answer-3 t c).In-Ok-child_answer-2) (same_kid a.u.now a.bound 30 1 c.child_row-row0.ensures c.open_below-m.ensures c.child_row-row3.ensures) c.child_back-fourth.ensures

pub four_back-returns : goal.four_back-returns
four_back-returns t c =
    let a = c.args in
    ended _ _ (four_3 t (goal.at.four_back-returns t c).In-Ok-child_answer-2) (same_kid a.u.now a.bound 30 1 c.child_row-row0.ensures c.open_below-m.ensures c.child_row-row3.ensures) c.child_back-fourth.ensures (was_walked _ c.child_answer-4.ensures c.in-Ok-child_answer-3.is)

-- ---- node_back

pub node_back-returns-then-rows-at : goal.node_back-returns-then-rows-at
node_back-returns-then-rows-at t c = rw c.refusal.ensures (walked_nothing c.requires.0 c.requires.1 c.place-at.ensures.0 c.if-rows-at.true)

pub node_back-returns-then-not-allowed : goal.node_back-returns-then-not-allowed
node_back-returns-then-not-allowed t c =
    rw c.refusal-then-not-allowed.ensures
    (walked_shut c.requires.0 c.requires.1 c.place-at.ensures.0 c.requires.2 c.if-rows-at.false c.word_at.ensures c.decision_inside-d.ensures c.allowed.ensures (ap not c.if-not-allowed.true))

-- it is split
node_split : (t : ℕ) (c : node_back-After-position t) → let a = c.args in let d = c.decision_inside-d.result in
    Split (back_way a.rows.now) a.c d a.flags.now c.position.result c.put_split-n.new.flags (Inside a.bound) a.u.now (word a.row a.splits) (inner_kids a.u.now a.row a.bound d)
node_split t c =
    splits_inside c.requires.0 c.requires.1 c.place-at.ensures.0 c.requires.2 c.if-rows-at.false c.word_at.ensures c.decision_inside-d.ensures (sym c.allowed.ensures ∙ c.if-not-allowed.false) c.count.ensures.0 c.put_split-n.ensures c.position.ensures

pub node_back-children_back-requires : goal.node_back-children_back-requires
node_back-children_back-requires t c =
    with_read c.requires.1 (kids_asked (node_split t (goal.at.node_back-children_back-requires t c).After-position) c.requires.0 c.decreases)

pub node_back-returns : goal.node_back-returns
node_back-returns t c = walked_kids (node_split t (goal.at.node_back-returns t c).After-position) refl (back_lawful _) c.children_back.ensures

-- ---- three_back: its children, one after the other

abbrev three_open : List ℕ → ℕ → Direction → ℕ → ℕ
three_open u row v bound = open_below u (child_row row (Ternary v) 0) bound 30 0

abbrev three_middle : List ℕ → ℕ → Direction → ℕ → ℕ
three_middle u row v bound = open_below u (child_row row (Ternary v) 1) bound (cuts_of v 1) 0

-- so many are walked
abbrev ThreeSoFar : (rows u b : List ℕ) (c : ℕ) (row : ℕ) (v : Direction) (bound : ℕ) → ℕ → ℕ → List Word → List ℕ → Type 0
ThreeSoFar rows u b c row v bound gone at left so_far = Progress (back_way rows) (Inside bound) u c (inner_kids u row bound (Ternary v)) b gone at left so_far

three_0 : {rows u b : List ℕ} {c : ℕ} (row : ℕ) (v : Direction) (bound : ℕ) → Asked (back_way rows) (Inside bound) u c (inner_kids u row bound (Ternary v)) → ThreeSoFar rows u b c row v bound 0 c (word (child_row row (Ternary v) 0) (three_open u row v bound) ∷ word (child_row row (Ternary v) 1) (three_middle u row v bound) ∷ word (child_row row (Ternary v) 2) (three_open u row v bound) ∷ []) b
unfolding inner_kids
three_0 row v bound a = begun _ _ a

three_1 : (t : ℕ) (c : three_back-In-Ok t) → let a = c.args in ThreeSoFar a.rows.now a.u.now a.flags.now a.c a.row a.v a.bound 1 c.in-Ok.c1 (word (child_row a.row (Ternary a.v) 1) (three_middle a.u.now a.row a.v a.bound) ∷ word (child_row a.row (Ternary a.v) 2) (three_open a.u.now a.row a.v a.bound) ∷ []) c.child_back-first.new.flags
three_1 t c =
    let a = c.args in
    walked _ _ (back_lawful a.rows.now) (inside_placed _) (three_0 a.row a.v a.bound c.requires.0) (same_kid a.u.now a.bound 30 0 c.first_third-row0.ensures c.open_below-m.ensures c.first_third-row0.ensures) c.child_back-first.ensures (was_walked _ c.child_answer.ensures c.in-Ok.is)

three_2 : (t : ℕ) (c : three_back-In-Ok-child_answer t) → let a = c.args in ThreeSoFar a.rows.now a.u.now a.flags.now a.c a.row a.v a.bound 2 c.in-Ok-child_answer.c2 (word (child_row a.row (Ternary a.v) 2) (three_open a.u.now a.row a.v a.bound) ∷ []) c.child_back-second.new.flags
three_2 t c =
    let a = c.args in
    let p1 = walked _ _ (back_lawful a.rows.now) (inside_placed _) (three_0 a.row a.v a.bound c.requires.0) (same_kid a.u.now a.bound 30 0 c.first_third-row0.ensures c.open_below-m.ensures c.first_third-row0.ensures) c.child_back-first.ensures (was_walked _ c.child_answer.ensures c.in-Ok.is) in
    walked _ _ (back_lawful a.rows.now) (inside_placed _) p1 (same_word c.middle_third-row1.ensures (same_open a.u.now a.bound 0 c.middle_third-row1.ensures c.middle_cuts.ensures.0 c.open_below-middle.ensures)) c.child_back-second.ensures (was_walked _ c.child_answer-2.ensures c.in-Ok-child_answer.is)

pub three_back-child_back-first-requires : goal.three_back-child_back-first-requires
three_back-child_back-first-requires t c =
    let a = c.args in
    with_read c.requires.1 (next_child _ _ {b = a.flags.now} (back_lawful a.rows.now) (inside_placed _) (three_0 a.row a.v a.bound c.requires.0) (same_kid a.u.now a.bound 30 0 c.first_third-row0.ensures c.open_below-m.ensures c.first_third-row0.ensures) (omega arith) c.decreases)

pub three_back-returns-in_default : goal.three_back-returns-in_default
three_back-returns-in_default t c =
    let a = c.args in
    refused _ _ (back_lawful a.rows.now) (inside_placed _) (three_0 a.row a.v a.bound c.requires.0) (same_kid a.u.now a.bound 30 0 c.first_third-row0.ensures c.open_below-m.ensures c.first_third-row0.ensures) c.child_back-first.ensures (was_refused _ c.child_answer.ensures c.in_default.is)

pub three_back-child_back-second-requires : goal.three_back-child_back-second-requires
three_back-child_back-second-requires t c =
    let a = c.args in
    with_read c.requires.1 (next_child _ _ (back_lawful a.rows.now) (inside_placed _) (three_1 t (goal.at.three_back-child_back-second-requires t c).In-Ok) (same_word c.middle_third-row1.ensures (same_open a.u.now a.bound 0 c.middle_third-row1.ensures c.middle_cuts.ensures.0 c.open_below-middle.ensures)) (omega arith) c.decreases)

pub three_back-returns-in_default-child_answer : goal.three_back-returns-in_default-child_answer
three_back-returns-in_default-child_answer t c =
    let a = c.args in
    refused _ _ (back_lawful a.rows.now) (inside_placed _) (three_1 t (goal.at.three_back-returns-in_default-child_answer t c).In-Ok) (same_word c.middle_third-row1.ensures (same_open a.u.now a.bound 0 c.middle_third-row1.ensures c.middle_cuts.ensures.0 c.open_below-middle.ensures)) c.child_back-second.ensures (was_refused _ c.child_answer-2.ensures c.in_default-child_answer.is)

pub three_back-child_back-third-requires : goal.three_back-child_back-third-requires
three_back-child_back-third-requires t c =
    let a = c.args in
    with_read c.requires.1 (next_child _ _ (back_lawful a.rows.now) (inside_placed _) (three_2 t (goal.at.three_back-child_back-third-requires t c).In-Ok-child_answer) (same_kid a.u.now a.bound 30 0 c.first_third-row0.ensures c.open_below-m.ensures c.last_third-row2.ensures) (omega arith) c.decreases)

pub three_back-returns-in_default-child_answer-2 : goal.three_back-returns-in_default-child_answer-2
three_back-returns-in_default-child_answer-2 t c =
    let a = c.args in
    last _ _ (three_2 t (goal.at.three_back-returns-in_default-child_answer-2 t c).In-Ok-child_answer) (same_kid a.u.now a.bound 30 0 c.first_third-row0.ensures c.open_below-m.ensures c.last_third-row2.ensures) c.child_back-third.ensures

pub three_back-returns : goal.three_back-returns
three_back-returns t c =
    let a = c.args in
    ended _ _ (three_2 t (goal.at.three_back-returns t c).In-Ok-child_answer) (same_kid a.u.now a.bound 30 0 c.first_third-row0.ensures c.open_below-m.ensures c.last_third-row2.ensures) c.child_back-third.ensures (was_walked _ c.child_answer-3.ensures c.in-Ok-child_answer-2.is)

-- ---- two_back: its children, one after the other

abbrev two_open : List ℕ → ℕ → Direction → ℕ → ℕ
two_open u row v bound = open_below u (child_row row (Binary v) 0) bound 30 0

-- so many are walked
abbrev TwoSoFar : (rows u b : List ℕ) (c : ℕ) (row : ℕ) (v : Direction) (bound : ℕ) → ℕ → ℕ → List Word → List ℕ → Type 0
TwoSoFar rows u b c row v bound gone at left so_far = Progress (back_way rows) (Inside bound) u c (inner_kids u row bound (Binary v)) b gone at left so_far

two_0 : {rows u b : List ℕ} {c : ℕ} (row : ℕ) (v : Direction) (bound : ℕ) → Asked (back_way rows) (Inside bound) u c (inner_kids u row bound (Binary v)) → TwoSoFar rows u b c row v bound 0 c (word (child_row row (Binary v) 0) (two_open u row v bound) ∷ word (child_row row (Binary v) 1) (two_open u row v bound) ∷ []) b
unfolding inner_kids
two_0 row v bound a = begun _ _ a

two_1 : (t : ℕ) (c : two_back-In-Ok t) → let a = c.args in TwoSoFar a.rows.now a.u.now a.flags.now a.c a.row a.v a.bound 1 c.in-Ok.c1 (word (child_row a.row (Binary a.v) 1) (two_open a.u.now a.row a.v a.bound) ∷ []) c.child_back-first.new.flags
two_1 t c =
    let a = c.args in
    walked _ _ (back_lawful a.rows.now) (inside_placed _) (two_0 a.row a.v a.bound c.requires.0) (same_kid a.u.now a.bound 30 0 c.first_half-row0.ensures c.open_below-m.ensures c.first_half-row0.ensures) c.child_back-first.ensures (was_walked _ c.child_answer.ensures c.in-Ok.is)

pub two_back-child_back-first-requires : goal.two_back-child_back-first-requires
two_back-child_back-first-requires t c =
    let a = c.args in
    with_read c.requires.1 (next_child _ _ {b = a.flags.now} (back_lawful a.rows.now) (inside_placed _) (two_0 a.row a.v a.bound c.requires.0) (same_kid a.u.now a.bound 30 0 c.first_half-row0.ensures c.open_below-m.ensures c.first_half-row0.ensures) (omega arith) c.decreases)

pub two_back-returns-in_default : goal.two_back-returns-in_default
two_back-returns-in_default t c =
    let a = c.args in
    refused _ _ (back_lawful a.rows.now) (inside_placed _) (two_0 a.row a.v a.bound c.requires.0) (same_kid a.u.now a.bound 30 0 c.first_half-row0.ensures c.open_below-m.ensures c.first_half-row0.ensures) c.child_back-first.ensures (was_refused _ c.child_answer.ensures c.in_default.is)

pub two_back-child_back-second-requires : goal.two_back-child_back-second-requires
two_back-child_back-second-requires t c =
    let a = c.args in
    with_read c.requires.1 (next_child _ _ (back_lawful a.rows.now) (inside_placed _) (two_1 t (goal.at.two_back-child_back-second-requires t c).In-Ok) (same_kid a.u.now a.bound 30 0 c.first_half-row0.ensures c.open_below-m.ensures c.second_half-row1.ensures) (omega arith) c.decreases)

pub two_back-returns-in_default-child_answer : goal.two_back-returns-in_default-child_answer
two_back-returns-in_default-child_answer t c =
    let a = c.args in
    last _ _ (two_1 t (goal.at.two_back-returns-in_default-child_answer t c).In-Ok) (same_kid a.u.now a.bound 30 0 c.first_half-row0.ensures c.open_below-m.ensures c.second_half-row1.ensures) c.child_back-second.ensures

pub two_back-returns : goal.two_back-returns
two_back-returns t c =
    let a = c.args in
    ended _ _ (two_1 t (goal.at.two_back-returns t c).In-Ok) (same_kid a.u.now a.bound 30 0 c.first_half-row0.ensures c.open_below-m.ensures c.second_half-row1.ensures) c.child_back-second.ensures (was_walked _ c.child_answer-2.ensures c.in-Ok-child_answer.is)
