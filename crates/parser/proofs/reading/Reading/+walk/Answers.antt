use Rattle.std.proofs.Common.{ap}
use Rattle.tree.specs.Flags.{choice_said}
use Rattle.std.proofs.Common.{ℕ, List, ◌≡◌, ◌≤◌, ◌∙◌, refl, sym, ap, subst, true, false, [], ◌∷◌, length, arith}
use Rattle.tree.specs.declared.Decision.{Decision}
use Rattle.tree.specs.declared.Decision.TheVariants.{Quad, Binary, Ternary}
use Rattle.tree.specs.declared.Direction.{Direction}
use Rattle.tree.specs.Flags.{Choice}
use Rattle.tree.specs.Splits.{rights_in}
use Rattle.tree.specs.Flags.{flag_at, after_split}
use Rattle.nodes.specs.State.{place_of}
use Rattle.nodes.specs.RowNodes.{child_row, cuts_of, open_below}
use Rattle.walks.specs.Stands.{Word, word, Inside}
use Rattle.walks.specs.Kids.{inner_kids}
use Rattle.walks.specs.Walks.{Asked}
use Rattle.walks.proofs.Apart.{was_walked, was_refused}
use Rattle.walks.proofs.Children.{inside_placed}
use Rattle.walks.proofs.Lists.{none_walked}
use Rattle.walks.proofs.Progress.{same_open, same_word, same_kid, same_walked, Progress, begun, last, ended, next_child, refused, walked}
use Rattle.walks.proofs.Split.{Split, inner_split, kids_asked, walked_kids}
use Rattle.parser.specs.Walking.{read_way}
use Rattle.parser.proofs.Way.{read_lawful, none_stored}
use Rattle.parser.proofs.Seen.{row_fits, moves, moves_one, walked_refused, walked_leaf, turned}
use Rattle.parser.proofs.Decided.{shut_sees, open_sees, zero_sees, end_sees, first_splits}
use Rattle.parser.proofs.reading.Reading.+walk.Goals as goal
use Rattle.parser.proofs.reading.Reading.+walk.Goals.{four_walk-In-Ok, four_walk-In-Ok-child_answer, four_walk-In-Ok-child_answer-2, node_walk-After-moved_to-c1, three_walk-In-Ok, three_walk-In-Ok-child_answer, two_walk-In-Ok}

pub child_walk-leaf-requires : goal.child_walk-leaf-requires
child_walk-leaf-requires t c = row_fits c.args.self.now.flags.now (shut_sees c.if-splits-eq0.true) c.requires

pub child_walk-returns-then-splits-eq0 : goal.child_walk-returns-then-splits-eq0
child_walk-returns-then-splits-eq0 t c = walked_leaf c.args.self.now.flags.now (shut_sees c.if-splits-eq0.true) (omega arith) c.args.c (refl, refl) c.leaf.ensures

pub child_walk-leaf-requires-then-zero_next : goal.child_walk-leaf-requires-then-zero_next
child_walk-leaf-requires-then-zero_next t c =
    let sees = zero_sees c.if-splits-eq0.false (sym c.zero_next.ensures ∙ c.if-zero_next.true) in
    rw (moves_one c.args.self.now.flags.now sees c.requires c.further.ensures).1 (row_fits c.args.self.now.flags.now sees c.requires)

pub child_walk-returns-then-zero_next : goal.child_walk-returns-then-zero_next
child_walk-returns-then-zero_next t c =
    let sees = zero_sees c.if-splits-eq0.false (sym c.zero_next.ensures ∙ c.if-zero_next.true) in
    walked_leaf c.args.self.now.flags.now sees (omega arith) _ (moves_one c.args.self.now.flags.now sees c.requires c.further.ensures) c.leaf-then-zero_next.ensures

pub children_walk-returns-in-Leaf : goal.children_walk-returns-in-Leaf
unfolding inner_kids
children_walk-returns-in-Leaf t c =
    let a = c.args in
    same_walked _ _ (ap (inner_kids a.self.now.u.now a.row a.bound) (sym c.in-Leaf.is)) (none_walked _ _ a.self.now.u.now a.c a.rows.now none_stored)

-- ---- the children of a split, one after the other: so many are walked
abbrev so_far : (flags u rows : List ℕ) (c row bound : ℕ) (d : Decision) → ℕ → ℕ → List Word → List ℕ → Type 0
so_far flags u rows c row bound d gone at left now = Progress (read_way flags) (Inside bound) u c (inner_kids u row bound d) rows gone at left now

-- ---- four_walk

abbrev four_open : (u : List ℕ) (row : ℕ) (bound : ℕ) → ℕ
four_open u row bound = open_below u (child_row row Quad 0) bound 30 1

four_0 : (flags u rows : List ℕ) (c row : ℕ) (bound : ℕ) → Asked (read_way flags) (Inside bound) u c (inner_kids u row bound Quad)
    → so_far flags u rows c row bound Quad 0 c (word (child_row row Quad 0) (four_open u row bound) ∷ word (child_row row Quad 1) (four_open u row bound) ∷ word (child_row row Quad 2) (four_open u row bound) ∷ word (child_row row Quad 3) (four_open u row bound) ∷ []) rows
unfolding inner_kids
four_0 flags u rows c row bound a = begun _ _ a

four_1 : (t : ℕ) (c : four_walk-In-Ok t) → let a = c.args in
    so_far a.self.now.flags.now a.self.now.u.now a.rows.now a.c a.row a.bound Quad 1 c.in-Ok.c1 (word (child_row a.row Quad 1) (four_open a.self.now.u.now a.row a.bound) ∷ word (child_row a.row Quad 2) (four_open a.self.now.u.now a.row a.bound) ∷ word (child_row a.row Quad 3) (four_open a.self.now.u.now a.row a.bound) ∷ []) c.child_walk-first.new.rows
four_1 t c =
    walked _ _ (read_lawful c.args.self.now.flags.now) (inside_placed _) (four_0 c.args.self.now.flags.now c.args.self.now.u.now c.args.rows.now c.args.c c.args.row c.args.bound c.requires) (same_kid c.args.self.now.u.now c.args.bound 30 1 c.child_row-row0.ensures c.open_below-m.ensures c.child_row-row0.ensures) c.child_walk-first.ensures
    (was_walked _ c.child_answer.ensures c.in-Ok.is)

four_2 : (t : ℕ) (c : four_walk-In-Ok-child_answer t) → let a = c.args in
    so_far a.self.now.flags.now a.self.now.u.now a.rows.now a.c a.row a.bound Quad 1 c.in-Ok.c1 (word (child_row a.row Quad 1) (four_open a.self.now.u.now a.row a.bound) ∷ word (child_row a.row Quad 2) (four_open a.self.now.u.now a.row a.bound) ∷ word (child_row a.row Quad 3) (four_open a.self.now.u.now a.row a.bound) ∷ []) c.child_walk-first.new.rows
    → so_far a.self.now.flags.now a.self.now.u.now a.rows.now a.c a.row a.bound Quad 2 c.in-Ok-child_answer.c2 (word (child_row a.row Quad 2) (four_open a.self.now.u.now a.row a.bound) ∷ word (child_row a.row Quad 3) (four_open a.self.now.u.now a.row a.bound) ∷ []) c.child_walk-second.new.rows
four_2 t c p =
    walked _ _ (read_lawful c.args.self.now.flags.now) (inside_placed _) p (same_kid c.args.self.now.u.now c.args.bound 30 1 c.child_row-row0.ensures c.open_below-m.ensures c.child_row-row1.ensures) c.child_walk-second.ensures
    (was_walked _ c.child_answer-2.ensures c.in-Ok-child_answer.is)

four_3 : (t : ℕ) (c : four_walk-In-Ok-child_answer-2 t) → let a = c.args in
    so_far a.self.now.flags.now a.self.now.u.now a.rows.now a.c a.row a.bound Quad 2 c.in-Ok-child_answer.c2 (word (child_row a.row Quad 2) (four_open a.self.now.u.now a.row a.bound) ∷ word (child_row a.row Quad 3) (four_open a.self.now.u.now a.row a.bound) ∷ []) c.child_walk-second.new.rows
    → so_far a.self.now.flags.now a.self.now.u.now a.rows.now a.c a.row a.bound Quad 3 c.in-Ok-child_answer-2.c3 (word (child_row a.row Quad 3) (four_open a.self.now.u.now a.row a.bound) ∷ []) c.child_walk-third.new.rows
four_3 t c p =
    walked _ _ (read_lawful c.args.self.now.flags.now) (inside_placed _) p (same_kid c.args.self.now.u.now c.args.bound 30 1 c.child_row-row0.ensures c.open_below-m.ensures c.child_row-row2.ensures) c.child_walk-third.ensures
    (was_walked _ c.child_answer-3.ensures c.in-Ok-child_answer-2.is)

pub four_walk-child_walk-first-requires : goal.four_walk-child_walk-first-requires
four_walk-child_walk-first-requires t c =
    next_child _ _ (read_lawful c.args.self.now.flags.now) (inside_placed _) (four_0 c.args.self.now.flags.now c.args.self.now.u.now c.args.rows.now c.args.c c.args.row c.args.bound c.requires) (same_kid c.args.self.now.u.now c.args.bound 30 1 c.child_row-row0.ensures c.open_below-m.ensures c.child_row-row0.ensures) (omega arith) c.decreases

pub four_walk-returns-in_default : goal.four_walk-returns-in_default
four_walk-returns-in_default t c =
    refused _ _ (read_lawful c.args.self.now.flags.now) (inside_placed _) (four_0 c.args.self.now.flags.now c.args.self.now.u.now c.args.rows.now c.args.c c.args.row c.args.bound c.requires) (same_kid c.args.self.now.u.now c.args.bound 30 1 c.child_row-row0.ensures c.open_below-m.ensures c.child_row-row0.ensures) c.child_walk-first.ensures
    (was_refused _ c.child_answer.ensures c.in_default.is)

pub four_walk-child_walk-second-requires : goal.four_walk-child_walk-second-requires
four_walk-child_walk-second-requires t c =
    next_child _ _ (read_lawful c.args.self.now.flags.now) (inside_placed _) (four_1 t (goal.at.four_walk-child_walk-second-requires t c).In-Ok) (same_kid c.args.self.now.u.now c.args.bound 30 1 c.child_row-row0.ensures c.open_below-m.ensures c.child_row-row1.ensures) (omega arith) c.decreases

pub four_walk-returns-in_default-child_answer : goal.four_walk-returns-in_default-child_answer
four_walk-returns-in_default-child_answer t c =
    refused _ _ (read_lawful c.args.self.now.flags.now) (inside_placed _) (four_1 t (goal.at.four_walk-returns-in_default-child_answer t c).In-Ok) (same_kid c.args.self.now.u.now c.args.bound 30 1 c.child_row-row0.ensures c.open_below-m.ensures c.child_row-row1.ensures) c.child_walk-second.ensures
    (was_refused _ c.child_answer-2.ensures c.in_default-child_answer.is)

pub four_walk-child_walk-third-requires : goal.four_walk-child_walk-third-requires
four_walk-child_walk-third-requires t c =
    next_child _ _ (read_lawful c.args.self.now.flags.now) (inside_placed _) (four_2 t (goal.at.four_walk-child_walk-third-requires t c).In-Ok-child_answer (four_1 t (goal.at.four_walk-child_walk-third-requires t c).In-Ok)) (same_kid c.args.self.now.u.now c.args.bound 30 1 c.child_row-row0.ensures c.open_below-m.ensures c.child_row-row2.ensures) (omega arith) c.decreases

pub four_walk-returns-in_default-child_answer-2 : goal.four_walk-returns-in_default-child_answer-2
four_walk-returns-in_default-child_answer-2 t c =
    refused _ _ (read_lawful c.args.self.now.flags.now) (inside_placed _) (four_2 t (goal.at.four_walk-returns-in_default-child_answer-2 t c).In-Ok-child_answer (four_1 t (goal.at.four_walk-returns-in_default-child_answer-2 t c).In-Ok)) (same_kid c.args.self.now.u.now c.args.bound 30 1 c.child_row-row0.ensures c.open_below-m.ensures c.child_row-row2.ensures) c.child_walk-third.ensures
    (was_refused _ c.child_answer-3.ensures c.in_default-child_answer-2.is)

pub four_walk-child_walk-fourth-requires : goal.four_walk-child_walk-fourth-requires
four_walk-child_walk-fourth-requires t c =
    next_child _ _ (read_lawful c.args.self.now.flags.now) (inside_placed _) (four_3 t (goal.at.four_walk-child_walk-fourth-requires t c).In-Ok-child_answer-2 (four_2 t (goal.at.four_walk-child_walk-fourth-requires t c).In-Ok-child_answer (four_1 t (goal.at.four_walk-child_walk-fourth-requires t c).In-Ok))) (same_kid c.args.self.now.u.now c.args.bound 30 1 c.child_row-row0.ensures c.open_below-m.ensures c.child_row-row3.ensures) (omega arith) c.decreases

pub four_walk-returns-in_default-child_answer-3 : goal.four_walk-returns-in_default-child_answer-3
four_walk-returns-in_default-child_answer-3 t c = last _ _ (four_3 t (goal.at.four_walk-returns-in_default-child_answer-3 t c).In-Ok-child_answer-2 (four_2 t (goal.at.four_walk-returns-in_default-child_answer-3 t c).In-Ok-child_answer (four_1 t (goal.at.four_walk-returns-in_default-child_answer-3 t c).In-Ok))) (same_kid c.args.self.now.u.now c.args.bound 30 1 c.child_row-row0.ensures c.open_below-m.ensures c.child_row-row3.ensures) c.child_walk-fourth.ensures

pub four_walk-returns : goal.four_walk-returns
four_walk-returns t c =
    ended _ _ (four_3 t (goal.at.four_walk-returns t c).In-Ok-child_answer-2 (four_2 t (goal.at.four_walk-returns t c).In-Ok-child_answer (four_1 t (goal.at.four_walk-returns t c).In-Ok))) (same_kid c.args.self.now.u.now c.args.bound 30 1 c.child_row-row0.ensures c.open_below-m.ensures c.child_row-row3.ensures) c.child_walk-fourth.ensures (was_walked _ c.child_answer-4.ensures c.in-Ok-child_answer-3.is)

-- ---- three_walk

abbrev three_open : (u : List ℕ) (row : ℕ) (v : Direction) (bound : ℕ) → ℕ
three_open u row v bound = open_below u (child_row row (Ternary v) 0) bound 30 0

abbrev three_middle : (u : List ℕ) (row : ℕ) (v : Direction) (bound : ℕ) → ℕ
three_middle u row v bound = open_below u (child_row row (Ternary v) 1) bound (cuts_of v 1) 0

three_0 : (flags u rows : List ℕ) (c row : ℕ) (v : Direction) (bound : ℕ) → Asked (read_way flags) (Inside bound) u c (inner_kids u row bound (Ternary v))
    → so_far flags u rows c row bound (Ternary v) 0 c (word (child_row row (Ternary v) 0) (three_open u row v bound) ∷ word (child_row row (Ternary v) 1) (three_middle u row v bound) ∷ word (child_row row (Ternary v) 2) (three_open u row v bound) ∷ []) rows
unfolding inner_kids
three_0 flags u rows c row v bound a = begun _ _ a

three_1 : (t : ℕ) (c : three_walk-In-Ok t) → let a = c.args in
    so_far a.self.now.flags.now a.self.now.u.now a.rows.now a.c a.row a.bound (Ternary a.v) 1 c.in-Ok.c1 (word (child_row a.row (Ternary a.v) 1) (three_middle a.self.now.u.now a.row a.v a.bound) ∷ word (child_row a.row (Ternary a.v) 2) (three_open a.self.now.u.now a.row a.v a.bound) ∷ []) c.child_walk-first.new.rows
three_1 t c =
    walked _ _ (read_lawful c.args.self.now.flags.now) (inside_placed _) (three_0 c.args.self.now.flags.now c.args.self.now.u.now c.args.rows.now c.args.c c.args.row c.args.v c.args.bound c.requires) (same_kid c.args.self.now.u.now c.args.bound 30 0 c.first_third-row0.ensures c.open_below-m.ensures c.first_third-row0.ensures) c.child_walk-first.ensures
    (was_walked _ c.child_answer.ensures c.in-Ok.is)

three_2 : (t : ℕ) (c : three_walk-In-Ok-child_answer t) → let a = c.args in
    so_far a.self.now.flags.now a.self.now.u.now a.rows.now a.c a.row a.bound (Ternary a.v) 1 c.in-Ok.c1 (word (child_row a.row (Ternary a.v) 1) (three_middle a.self.now.u.now a.row a.v a.bound) ∷ word (child_row a.row (Ternary a.v) 2) (three_open a.self.now.u.now a.row a.v a.bound) ∷ []) c.child_walk-first.new.rows
    → so_far a.self.now.flags.now a.self.now.u.now a.rows.now a.c a.row a.bound (Ternary a.v) 2 c.in-Ok-child_answer.c2 (word (child_row a.row (Ternary a.v) 2) (three_open a.self.now.u.now a.row a.v a.bound) ∷ []) c.child_walk-second.new.rows
three_2 t c p =
    walked _ _ (read_lawful c.args.self.now.flags.now) (inside_placed _) p (same_word c.middle_third-row1.ensures (same_open c.args.self.now.u.now c.args.bound 0 c.middle_third-row1.ensures c.middle_cuts.ensures.0 c.open_below-middle.ensures)) c.child_walk-second.ensures
    (was_walked _ c.child_answer-2.ensures c.in-Ok-child_answer.is)

pub three_walk-child_walk-first-requires : goal.three_walk-child_walk-first-requires
three_walk-child_walk-first-requires t c =
    next_child _ _ (read_lawful c.args.self.now.flags.now) (inside_placed _) (three_0 c.args.self.now.flags.now c.args.self.now.u.now c.args.rows.now c.args.c c.args.row c.args.v c.args.bound c.requires) (same_kid c.args.self.now.u.now c.args.bound 30 0 c.first_third-row0.ensures c.open_below-m.ensures c.first_third-row0.ensures) (omega arith) c.decreases

pub three_walk-returns-in_default : goal.three_walk-returns-in_default
three_walk-returns-in_default t c =
    refused _ _ (read_lawful c.args.self.now.flags.now) (inside_placed _) (three_0 c.args.self.now.flags.now c.args.self.now.u.now c.args.rows.now c.args.c c.args.row c.args.v c.args.bound c.requires) (same_kid c.args.self.now.u.now c.args.bound 30 0 c.first_third-row0.ensures c.open_below-m.ensures c.first_third-row0.ensures) c.child_walk-first.ensures
    (was_refused _ c.child_answer.ensures c.in_default.is)

pub three_walk-child_walk-second-requires : goal.three_walk-child_walk-second-requires
three_walk-child_walk-second-requires t c =
    next_child _ _ (read_lawful c.args.self.now.flags.now) (inside_placed _) (three_1 t (goal.at.three_walk-child_walk-second-requires t c).In-Ok) (same_word c.middle_third-row1.ensures (same_open c.args.self.now.u.now c.args.bound 0 c.middle_third-row1.ensures c.middle_cuts.ensures.0 c.open_below-middle.ensures)) (omega arith) c.decreases

pub three_walk-returns-in_default-child_answer : goal.three_walk-returns-in_default-child_answer
three_walk-returns-in_default-child_answer t c =
    refused _ _ (read_lawful c.args.self.now.flags.now) (inside_placed _) (three_1 t (goal.at.three_walk-returns-in_default-child_answer t c).In-Ok) (same_word c.middle_third-row1.ensures (same_open c.args.self.now.u.now c.args.bound 0 c.middle_third-row1.ensures c.middle_cuts.ensures.0 c.open_below-middle.ensures)) c.child_walk-second.ensures
    (was_refused _ c.child_answer-2.ensures c.in_default-child_answer.is)

pub three_walk-child_walk-third-requires : goal.three_walk-child_walk-third-requires
three_walk-child_walk-third-requires t c =
    next_child _ _ (read_lawful c.args.self.now.flags.now) (inside_placed _) (three_2 t (goal.at.three_walk-child_walk-third-requires t c).In-Ok-child_answer (three_1 t (goal.at.three_walk-child_walk-third-requires t c).In-Ok)) (same_kid c.args.self.now.u.now c.args.bound 30 0 c.first_third-row0.ensures c.open_below-m.ensures c.last_third-row2.ensures) (omega arith) c.decreases

pub three_walk-returns-in_default-child_answer-2 : goal.three_walk-returns-in_default-child_answer-2
three_walk-returns-in_default-child_answer-2 t c = last _ _ (three_2 t (goal.at.three_walk-returns-in_default-child_answer-2 t c).In-Ok-child_answer (three_1 t (goal.at.three_walk-returns-in_default-child_answer-2 t c).In-Ok)) (same_kid c.args.self.now.u.now c.args.bound 30 0 c.first_third-row0.ensures c.open_below-m.ensures c.last_third-row2.ensures) c.child_walk-third.ensures

pub three_walk-returns : goal.three_walk-returns
three_walk-returns t c =
    ended _ _ (three_2 t (goal.at.three_walk-returns t c).In-Ok-child_answer (three_1 t (goal.at.three_walk-returns t c).In-Ok)) (same_kid c.args.self.now.u.now c.args.bound 30 0 c.first_third-row0.ensures c.open_below-m.ensures c.last_third-row2.ensures) c.child_walk-third.ensures (was_walked _ c.child_answer-3.ensures c.in-Ok-child_answer-2.is)

-- ---- two_walk

abbrev two_open : (u : List ℕ) (row : ℕ) (v : Direction) (bound : ℕ) → ℕ
two_open u row v bound = open_below u (child_row row (Binary v) 0) bound 30 0

two_0 : (flags u rows : List ℕ) (c row : ℕ) (v : Direction) (bound : ℕ) → Asked (read_way flags) (Inside bound) u c (inner_kids u row bound (Binary v))
    → so_far flags u rows c row bound (Binary v) 0 c (word (child_row row (Binary v) 0) (two_open u row v bound) ∷ word (child_row row (Binary v) 1) (two_open u row v bound) ∷ []) rows
unfolding inner_kids
two_0 flags u rows c row v bound a = begun _ _ a

two_1 : (t : ℕ) (c : two_walk-In-Ok t) → let a = c.args in
    so_far a.self.now.flags.now a.self.now.u.now a.rows.now a.c a.row a.bound (Binary a.v) 1 c.in-Ok.c1 (word (child_row a.row (Binary a.v) 1) (two_open a.self.now.u.now a.row a.v a.bound) ∷ []) c.child_walk-first.new.rows
two_1 t c =
    walked _ _ (read_lawful c.args.self.now.flags.now) (inside_placed _) (two_0 c.args.self.now.flags.now c.args.self.now.u.now c.args.rows.now c.args.c c.args.row c.args.v c.args.bound c.requires) (same_kid c.args.self.now.u.now c.args.bound 30 0 c.first_half-row0.ensures c.open_below-m.ensures c.first_half-row0.ensures) c.child_walk-first.ensures
    (was_walked _ c.child_answer.ensures c.in-Ok.is)

pub two_walk-child_walk-first-requires : goal.two_walk-child_walk-first-requires
two_walk-child_walk-first-requires t c =
    next_child _ _ (read_lawful c.args.self.now.flags.now) (inside_placed _) (two_0 c.args.self.now.flags.now c.args.self.now.u.now c.args.rows.now c.args.c c.args.row c.args.v c.args.bound c.requires) (same_kid c.args.self.now.u.now c.args.bound 30 0 c.first_half-row0.ensures c.open_below-m.ensures c.first_half-row0.ensures) (omega arith) c.decreases

pub two_walk-returns-in_default : goal.two_walk-returns-in_default
two_walk-returns-in_default t c =
    refused _ _ (read_lawful c.args.self.now.flags.now) (inside_placed _) (two_0 c.args.self.now.flags.now c.args.self.now.u.now c.args.rows.now c.args.c c.args.row c.args.v c.args.bound c.requires) (same_kid c.args.self.now.u.now c.args.bound 30 0 c.first_half-row0.ensures c.open_below-m.ensures c.first_half-row0.ensures) c.child_walk-first.ensures
    (was_refused _ c.child_answer.ensures c.in_default.is)

pub two_walk-child_walk-second-requires : goal.two_walk-child_walk-second-requires
two_walk-child_walk-second-requires t c =
    next_child _ _ (read_lawful c.args.self.now.flags.now) (inside_placed _) (two_1 t (goal.at.two_walk-child_walk-second-requires t c).In-Ok) (same_kid c.args.self.now.u.now c.args.bound 30 0 c.first_half-row0.ensures c.open_below-m.ensures c.second_half-row1.ensures) (omega arith) c.decreases

pub two_walk-returns-in_default-child_answer : goal.two_walk-returns-in_default-child_answer
two_walk-returns-in_default-child_answer t c = last _ _ (two_1 t (goal.at.two_walk-returns-in_default-child_answer t c).In-Ok) (same_kid c.args.self.now.u.now c.args.bound 30 0 c.first_half-row0.ensures c.open_below-m.ensures c.second_half-row1.ensures) c.child_walk-second.ensures

pub two_walk-returns : goal.two_walk-returns
two_walk-returns t c =
    ended _ _ (two_1 t (goal.at.two_walk-returns t c).In-Ok) (same_kid c.args.self.now.u.now c.args.bound 30 0 c.first_half-row0.ensures c.open_below-m.ensures c.second_half-row1.ensures) c.child_walk-second.ensures (was_walked _ c.child_answer-2.ensures c.in-Ok-child_answer.is)

-- ---- node_walk

pub node_walk-returns-then-self-at : goal.node_walk-returns-then-self-at
node_walk-returns-then-self-at t c = walked_refused c.args.self.now.flags.now (end_sees c.requires.1 (subst (λ (i : ℕ). length c.args.self.now.flags.now ≤ i) c.place-at.ensures.0 c.if-self-at.true)) c.refusal.ensures

-- what is decided at its flags
found_at : (flags : List ℕ) (splits c : ℕ) {at : ℕ} {said choice : Choice} → at ≡ place_of c → said ≡ after_split (rights_in false splits) flags (flag_at true false flags at) → said ≡ choice
    → after_split (rights_in false splits) flags (flag_at true false flags (place_of c)) ≡ choice
found_at flags splits c is said e = ap (λ (i : ℕ). after_split (rights_in false splits) flags (flag_at true false flags i)) (sym is) ∙ sym said ∙ e

-- it is split
node_split : (t : ℕ) (c : node_walk-After-moved_to-c1 t) → let a = c.args in let d = c.in-Ok.decision in
    Split (read_way a.self.now.flags.now) a.c d a.rows.now c.moved_to-c1.result a.rows.now (Inside a.bound) a.self.now.u.now (word a.row a.splits) (inner_kids a.self.now.u.now a.row a.bound d)
node_split t c =
    let flags = c.args.self.now.flags.now in
    let found = found_at flags c.args.splits c.args.c c.place-at.ensures.0 c.decide_inside.ensures (ap choice_said c.in-Ok.is) in
    let sees = open_sees c.requires.1 found in
    let split = first_splits (rights_in false c.args.splits) flags (place_of c.args.c) c.requires.2 found in
    inner_split split (turned flags sees split (moves flags sees c.requires.0 c.moved_to-c1.ensures (omega arith)))

pub node_walk-children_walk-requires : goal.node_walk-children_walk-requires
node_walk-children_walk-requires t c =
    kids_asked (node_split t (goal.at.node_walk-children_walk-requires t c).After-moved_to-c1) c.requires.0 c.decreases

pub node_walk-returns-in-Err : goal.node_walk-returns-in-Err
node_walk-returns-in-Err t c =
    walked_refused c.args.self.now.flags.now (open_sees c.requires.1 (found_at c.args.self.now.flags.now c.args.splits c.args.c c.place-at.ensures.0 c.decide_inside.ensures (ap choice_said c.in-Err.is))) c.refusal-in-Err.ensures

pub node_walk-returns-in-Ok : goal.node_walk-returns-in-Ok
node_walk-returns-in-Ok t c = walked_kids (node_split t (goal.at.node_walk-returns-in-Ok t c).After-moved_to-c1) none_stored (read_lawful _) c.children_walk.ensures
