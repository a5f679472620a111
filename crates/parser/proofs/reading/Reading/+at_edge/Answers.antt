use Rattle.std.proofs.Common.{ap}
use Rattle.tree.specs.Flags.{choice_said}
use Rattle.std.proofs.Common.{ℕ, List, ◌≡◌, ◌∙◌, refl, sym, ap₂, [], ◌∷◌, arith}
use Rattle.tree.specs.declared.Decision.TheVariants.{Quad}
use Rattle.tree.specs.Flags.{Choice}
use Rattle.tree.specs.Splits.{right_out, bottom_out}
use Rattle.flags.specs.Out.{decide_out}
use Rattle.nodes.specs.State.{place_of}
use Rattle.nodes.specs.Tables.{limits_in}
use Rattle.nodes.specs.RowNodes.{node_in, child_row, out_in}
use Rattle.walks.specs.Stands.{Word, word, Outer}
use Rattle.walks.specs.Kids.{four_words, outer_kids}
use Rattle.walks.proofs.Apart.{tested_not, tested_or, was_walked, was_refused}
use Rattle.walks.proofs.AtEdge.{out_splits_is, edge_gone, handed_asked, handed_walked}
use Rattle.walks.proofs.Children.{outer_placed}
use Rattle.walks.proofs.KidWords.{out_none, out_four, out_two, out_three}
use Rattle.walks.proofs.Lists.{none_walked}
use Rattle.walks.proofs.Progress.{same_word, same_asked, same_walked, Progress, begun, last, ended, next_child, refused, walked}
use Rattle.walks.proofs.Split.{Split, outer_split, kids_asked, walked_kids}
use Rattle.parser.specs.Walking.{read_way}
use Rattle.parser.proofs.Way.{read_lawful, none_stored}
use Rattle.parser.proofs.Seen.{moves, walked_refused, turned}
use Rattle.parser.proofs.Decided.{out_splits_lem, out_sees}
use Rattle.parser.proofs.reading.Reading.+at_edge.Goals as goal
use Rattle.parser.proofs.reading.Reading.+at_edge.Goals.{four_at_edge-In-Ok, four_at_edge-In-Ok-child_answer, four_at_edge-In-Ok-child_answer-2, node_at_edge-After-moved_to-c1, pair_at_edge-In-Ok}

-- ---- child_at_edge

pub child_at_edge-returns-then-not-begins_inside : goal.child_at_edge-returns-then-not-begins_inside
child_at_edge-returns-then-not-begins_inside t c = edge_gone (read_way c.args.self.now.flags.now) none_stored (tested_not c.begins_inside.ensures c.if-not-begins_inside.true-raw)

pub child_at_edge-child_walk-requires : goal.child_at_edge-child_walk-requires
child_at_edge-child_walk-requires t c =
    let here = tested_not c.begins_inside.ensures c.if-not-begins_inside.false-raw in
    let out = tested_or c.right_out_at.ensures c.bottom_out_at.ensures c.if-right_out_at-bottom_out_at.false in
    handed_asked (read_way c.args.self.now.flags.now) here out c.bound.ensures c.inner_splits-splits.ensures c.requires

pub child_at_edge-returns : goal.child_at_edge-returns
child_at_edge-returns t c =
    let here = tested_not c.begins_inside.ensures c.if-not-begins_inside.false-raw in
    let out = tested_or c.right_out_at.ensures c.bottom_out_at.ensures c.if-right_out_at-bottom_out_at.false in
    handed_walked (read_way c.args.self.now.flags.now) here out c.bound.ensures c.inner_splits-splits.ensures c.child_walk.ensures

-- ---- children_at_edge

pub children_at_edge-four_at_edge-requires : goal.children_at_edge-four_at_edge-requires
children_at_edge-four_at_edge-requires t c =
    let a = c.args in
    same_asked _ _ (out_four a.self.now.u.now a.row a.depths c.in-Quad.is c.depth_above-k.ensures) c.decreases c.requires

pub children_at_edge-pair_at_edge-requires : goal.children_at_edge-pair_at_edge-requires
children_at_edge-pair_at_edge-requires t c =
    let a = c.args in
    same_asked _ _ (out_two a.self.now.u.now a.row a.depths c.in-Binary.is c.depth_below-k.ensures c.first_half-row0.ensures c.second_half-row1.ensures) c.decreases c.requires

pub children_at_edge-returns-in-Leaf : goal.children_at_edge-returns-in-Leaf
children_at_edge-returns-in-Leaf t c =
    let a = c.args in
    same_walked _ _ (out_none a.self.now.u.now a.row a.depths c.in-Leaf.is) (none_walked _ _ a.self.now.u.now a.c a.rows.now none_stored)

pub children_at_edge-returns-in-Quad : goal.children_at_edge-returns-in-Quad
children_at_edge-returns-in-Quad t c =
    let a = c.args in
    same_walked _ _ (out_four a.self.now.u.now a.row a.depths c.in-Quad.is c.depth_above-k.ensures) c.four_at_edge.ensures

pub children_at_edge-returns-in-Binary : goal.children_at_edge-returns-in-Binary
children_at_edge-returns-in-Binary t c =
    let a = c.args in
    same_walked _ _ (out_two a.self.now.u.now a.row a.depths c.in-Binary.is c.depth_below-k.ensures c.first_half-row0.ensures c.second_half-row1.ensures) c.pair_at_edge.ensures

pub children_at_edge-returns-in-Ternary : goal.children_at_edge-returns-in-Ternary
children_at_edge-returns-in-Ternary t c =
    let a = c.args in
    same_walked _ _ (out_three a.self.now.u.now a.row a.depths c.in-Ternary.is) (none_walked _ _ a.self.now.u.now a.c a.rows.now none_stored)

-- ---- the children of a split, one after the other: so many are walked
abbrev so_far : (flags u rows : List ℕ) (c : ℕ) (all : List Word) → ℕ → ℕ → List Word → List ℕ → Type 0
so_far flags u rows c all gone at left now = Progress (read_way flags) Outer u c all rows gone at left now

-- ---- four_at_edge

four_1 : (t : ℕ) (c : four_at_edge-In-Ok t) → let a = c.args in
    so_far a.self.now.flags.now a.self.now.u.now a.rows.now a.c (four_words a.row a.depths) 1 c.in-Ok.c1 (word (child_row a.row Quad 1) a.depths ∷ word (child_row a.row Quad 2) a.depths ∷ word (child_row a.row Quad 3) a.depths ∷ []) c.child_at_edge-first.new.rows
four_1 t c =
    walked _ _ (read_lawful c.args.self.now.flags.now) outer_placed (begun _ _ c.requires) (same_word c.child_row-row0.ensures refl) c.child_at_edge-first.ensures (was_walked _ c.child_answer.ensures c.in-Ok.is)

four_2 : (t : ℕ) (c : four_at_edge-In-Ok-child_answer t) → let a = c.args in
    so_far a.self.now.flags.now a.self.now.u.now a.rows.now a.c (four_words a.row a.depths) 1 c.in-Ok.c1 (word (child_row a.row Quad 1) a.depths ∷ word (child_row a.row Quad 2) a.depths ∷ word (child_row a.row Quad 3) a.depths ∷ []) c.child_at_edge-first.new.rows
    → so_far a.self.now.flags.now a.self.now.u.now a.rows.now a.c (four_words a.row a.depths) 2 c.in-Ok-child_answer.c2 (word (child_row a.row Quad 2) a.depths ∷ word (child_row a.row Quad 3) a.depths ∷ []) c.child_at_edge-second.new.rows
four_2 t c p =
    walked _ _ (read_lawful c.args.self.now.flags.now) outer_placed p (same_word c.child_row-row1.ensures refl) c.child_at_edge-second.ensures (was_walked _ c.child_answer-2.ensures c.in-Ok-child_answer.is)

four_3 : (t : ℕ) (c : four_at_edge-In-Ok-child_answer-2 t) → let a = c.args in
    so_far a.self.now.flags.now a.self.now.u.now a.rows.now a.c (four_words a.row a.depths) 2 c.in-Ok-child_answer.c2 (word (child_row a.row Quad 2) a.depths ∷ word (child_row a.row Quad 3) a.depths ∷ []) c.child_at_edge-second.new.rows
    → so_far a.self.now.flags.now a.self.now.u.now a.rows.now a.c (four_words a.row a.depths) 3 c.in-Ok-child_answer-2.c3 (word (child_row a.row Quad 3) a.depths ∷ []) c.child_at_edge-third.new.rows
four_3 t c p =
    walked _ _ (read_lawful c.args.self.now.flags.now) outer_placed p (same_word c.child_row-row2.ensures refl) c.child_at_edge-third.ensures (was_walked _ c.child_answer-3.ensures c.in-Ok-child_answer-2.is)

pub four_at_edge-child_at_edge-first-requires : goal.four_at_edge-child_at_edge-first-requires
four_at_edge-child_at_edge-first-requires t c = next_child _ _ (read_lawful c.args.self.now.flags.now) outer_placed (begun _ _ {b = c.args.rows.now} c.requires) (same_word c.child_row-row0.ensures refl) (omega arith) c.decreases

pub four_at_edge-returns-in_default : goal.four_at_edge-returns-in_default
four_at_edge-returns-in_default t c =
    refused _ _ (read_lawful c.args.self.now.flags.now) outer_placed (begun _ _ c.requires) (same_word c.child_row-row0.ensures refl) c.child_at_edge-first.ensures (was_refused _ c.child_answer.ensures c.in_default.is)

pub four_at_edge-child_at_edge-second-requires : goal.four_at_edge-child_at_edge-second-requires
four_at_edge-child_at_edge-second-requires t c = next_child _ _ (read_lawful c.args.self.now.flags.now) outer_placed (four_1 t (goal.at.four_at_edge-child_at_edge-second-requires t c).In-Ok) (same_word c.child_row-row1.ensures refl) (omega arith) c.decreases

pub four_at_edge-returns-in_default-child_answer : goal.four_at_edge-returns-in_default-child_answer
four_at_edge-returns-in_default-child_answer t c =
    refused _ _ (read_lawful c.args.self.now.flags.now) outer_placed (four_1 t (goal.at.four_at_edge-returns-in_default-child_answer t c).In-Ok) (same_word c.child_row-row1.ensures refl) c.child_at_edge-second.ensures (was_refused _ c.child_answer-2.ensures c.in_default-child_answer.is)

pub four_at_edge-child_at_edge-third-requires : goal.four_at_edge-child_at_edge-third-requires
four_at_edge-child_at_edge-third-requires t c = next_child _ _ (read_lawful c.args.self.now.flags.now) outer_placed (four_2 t (goal.at.four_at_edge-child_at_edge-third-requires t c).In-Ok-child_answer (four_1 t (goal.at.four_at_edge-child_at_edge-third-requires t c).In-Ok)) (same_word c.child_row-row2.ensures refl) (omega arith) c.decreases

pub four_at_edge-returns-in_default-child_answer-2 : goal.four_at_edge-returns-in_default-child_answer-2
four_at_edge-returns-in_default-child_answer-2 t c =
    refused _ _ (read_lawful c.args.self.now.flags.now) outer_placed (four_2 t (goal.at.four_at_edge-returns-in_default-child_answer-2 t c).In-Ok-child_answer (four_1 t (goal.at.four_at_edge-returns-in_default-child_answer-2 t c).In-Ok)) (same_word c.child_row-row2.ensures refl) c.child_at_edge-third.ensures (was_refused _ c.child_answer-3.ensures c.in_default-child_answer-2.is)

pub four_at_edge-child_at_edge-fourth-requires : goal.four_at_edge-child_at_edge-fourth-requires
four_at_edge-child_at_edge-fourth-requires t c = next_child _ _ (read_lawful c.args.self.now.flags.now) outer_placed (four_3 t (goal.at.four_at_edge-child_at_edge-fourth-requires t c).In-Ok-child_answer-2 (four_2 t (goal.at.four_at_edge-child_at_edge-fourth-requires t c).In-Ok-child_answer (four_1 t (goal.at.four_at_edge-child_at_edge-fourth-requires t c).In-Ok))) (same_word c.child_row-row3.ensures refl) (omega arith) c.decreases

pub four_at_edge-returns-in_default-child_answer-3 : goal.four_at_edge-returns-in_default-child_answer-3
four_at_edge-returns-in_default-child_answer-3 t c = last _ _ (four_3 t (goal.at.four_at_edge-returns-in_default-child_answer-3 t c).In-Ok-child_answer-2 (four_2 t (goal.at.four_at_edge-returns-in_default-child_answer-3 t c).In-Ok-child_answer (four_1 t (goal.at.four_at_edge-returns-in_default-child_answer-3 t c).In-Ok))) (same_word c.child_row-row3.ensures refl) c.child_at_edge-fourth.ensures

pub four_at_edge-returns : goal.four_at_edge-returns
four_at_edge-returns t c = ended _ _ (four_3 t (goal.at.four_at_edge-returns t c).In-Ok-child_answer-2 (four_2 t (goal.at.four_at_edge-returns t c).In-Ok-child_answer (four_1 t (goal.at.four_at_edge-returns t c).In-Ok))) (same_word c.child_row-row3.ensures refl) c.child_at_edge-fourth.ensures (was_walked _ c.child_answer-4.ensures c.in-Ok-child_answer-3.is)

-- ---- pair_at_edge

pair_1 : (t : ℕ) (c : pair_at_edge-In-Ok t) → let a = c.args in
    so_far a.self.now.flags.now a.self.now.u.now a.rows.now a.c (word a.row0 a.depths ∷ word a.row1 a.depths ∷ []) 1 c.in-Ok.c1 (word a.row1 a.depths ∷ []) c.child_at_edge-first.new.rows
pair_1 t c =
    walked _ _ (read_lawful c.args.self.now.flags.now) outer_placed (begun _ _ c.requires) refl c.child_at_edge-first.ensures (was_walked _ c.child_answer.ensures c.in-Ok.is)

pub pair_at_edge-child_at_edge-first-requires : goal.pair_at_edge-child_at_edge-first-requires
pair_at_edge-child_at_edge-first-requires t c = next_child _ _ (read_lawful c.args.self.now.flags.now) outer_placed (begun _ _ {b = c.args.rows.now} c.requires) refl (omega arith) c.decreases

pub pair_at_edge-returns-in_default : goal.pair_at_edge-returns-in_default
pair_at_edge-returns-in_default t c =
    refused _ _ (read_lawful c.args.self.now.flags.now) outer_placed (begun _ _ c.requires) refl c.child_at_edge-first.ensures (was_refused _ c.child_answer.ensures c.in_default.is)

pub pair_at_edge-child_at_edge-second-requires : goal.pair_at_edge-child_at_edge-second-requires
pair_at_edge-child_at_edge-second-requires t c = next_child _ _ (read_lawful c.args.self.now.flags.now) outer_placed (pair_1 t (goal.at.pair_at_edge-child_at_edge-second-requires t c).In-Ok) refl (omega arith) c.decreases

pub pair_at_edge-returns-in_default-child_answer : goal.pair_at_edge-returns-in_default-child_answer
pair_at_edge-returns-in_default-child_answer t c = last _ _ (pair_1 t (goal.at.pair_at_edge-returns-in_default-child_answer t c).In-Ok) refl c.child_at_edge-second.ensures

pub pair_at_edge-returns : goal.pair_at_edge-returns
pair_at_edge-returns t c = ended _ _ (pair_1 t (goal.at.pair_at_edge-returns t c).In-Ok) refl c.child_at_edge-second.ensures (was_walked _ c.child_answer-2.ensures c.in-Ok-child_answer.is)

-- ---- node_at_edge

-- what is decided at its flags
found_at : (u flags : List ℕ) (row depths c : ℕ) {splits at : ℕ} {said choice : Choice}
    → splits ≡ out_in u row depths (right_out (limits_in u) (node_in row)) (bottom_out (limits_in u) (node_in row)) → at ≡ place_of c → said ≡ decide_out splits flags at → said ≡ choice
    → decide_out (out_in u row depths (right_out (limits_in u) (node_in row)) (bottom_out (limits_in u) (node_in row))) flags (place_of c) ≡ choice
found_at u flags row depths c splits is said e = sym (ap₂ (λ m i. decide_out m flags i) splits is) ∙ sym said ∙ e

-- it is split
node_split : (t : ℕ) (c : node_at_edge-After-moved_to-c1 t) → let a = c.args in let d = c.in-Ok.decision in
    Split (read_way a.self.now.flags.now) a.c d a.rows.now c.moved_to-c1.result a.rows.now Outer a.self.now.u.now (word a.row a.depths) (outer_kids a.self.now.u.now a.row a.depths d)
node_split t c =
    let flags = c.args.self.now.flags.now in
    let splits = out_splits_is c.args.self.now.u.now c.args.row c.args.depths c.right_out_at-right.ensures c.bottom_out_at-bottom.ensures c.out_splits-splits.ensures in
    let found = found_at c.args.self.now.u.now flags c.args.row c.args.depths c.args.c splits c.place.ensures.0 c.decide_out.ensures (ap choice_said c.in-Ok.is) in
    let sees = out_sees c.requires.1 c.requires.2 found in
    let split = out_splits_lem _ _ found in
    outer_split split c.requires.2 (turned flags sees split (moves flags sees c.requires.0 c.moved_to-c1.ensures (omega arith)))

pub node_at_edge-children_at_edge-requires : goal.node_at_edge-children_at_edge-requires
node_at_edge-children_at_edge-requires t c =
    kids_asked (node_split t (goal.at.node_at_edge-children_at_edge-requires t c).After-moved_to-c1) c.requires.0 c.decreases

pub node_at_edge-returns-in-Err : goal.node_at_edge-returns-in-Err
node_at_edge-returns-in-Err t c =
    let splits = out_splits_is c.args.self.now.u.now c.args.row c.args.depths c.right_out_at-right.ensures c.bottom_out_at-bottom.ensures c.out_splits-splits.ensures in
    let found = found_at c.args.self.now.u.now c.args.self.now.flags.now c.args.row c.args.depths c.args.c splits c.place.ensures.0 c.decide_out.ensures (ap choice_said c.in-Err.is) in
    walked_refused c.args.self.now.flags.now (out_sees c.requires.1 c.requires.2 found) c.refusal.ensures

pub node_at_edge-returns-in-Ok : goal.node_at_edge-returns-in-Ok
node_at_edge-returns-in-Ok t c = walked_kids (node_split t (goal.at.node_at_edge-returns-in-Ok t c).After-moved_to-c1) none_stored (read_lawful _) c.children_at_edge.ensures
