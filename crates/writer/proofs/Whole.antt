-- The test and the way back of a whole table, from its root.
use Prim.Native.Nat.{ℕ, ◌+◌, ◌-◌, ◌/◌, ◌%◌, ◌≤◌, ◌<◌}
use mathlib.Core.Path.{◌≡◌, refl, sym, ap, subst, ◌∙◌}
use mathlib.Core.List.{List}
use native.Mathlib.Nat.{mul-le-mul}
use native.Mathlib.Omega.{arith}
use lib.ListN.{length, take}
use borrow.Author.Tests.{eq-eqb, ne_eqb}
use Rattle.tree.specs.declared.Limits.{Limits}
use Rattle.tree.specs.declared.Node.{Node}
use Rattle.tree.specs.declared.Direction.TheVariants.{Horizontal, Vertical}
use Rattle.tree.specs.Kind.{luma}
use Rattle.tree.specs.Rows.{Row, rows_in}
use Rattle.tree.specs.Run.{Run, End, goes, stops, refuse}
use Rattle.tree.specs.Back.{back_node}
use Rattle.tree.specs.Search.{Fit, whole, stuck, fit_node}
use Rattle.laws.specs.Areas.{room_of}
use Rattle.laws.proofs.BackBounds.{back_bound}
use Rattle.laws.proofs.Searching.{SearchIsTree, search_is_tree}
use Rattle.laws.proofs.Tables.{rows_long}
use Rattle.laws.proofs.Turning.{TurningIsTree, turning_is_tree}
use Rattle.unit.specs.Answers.{Answer}
use Rattle.refusals.specs.Said.{Accepted, Refused}
use Rattle.unit.specs.Answers.{Meets, deliver, finish_end, end_answer, answer_of}
use Rattle.unit.specs.Writer.{fit_end, flags_from, test_rows, write_rows}
use Rattle.unit.proofs.Accepts.{answer_stops, answer_goes}
use Rattle.unit.proofs.TreeTurning.{back_end, end_by_back, stops_stuck}
use Rattle.nodes.specs.State.{given_of}
use Rattle.walks.specs.Rooted.{Rooted, UnitRoot}
use Rattle.walks.proofs.UnitRoots.{rooted}
use Rattle.walks.specs.Walks.{Says, Done}
use Rattle.back.specs.Walking.{back_way}
use Rattle.writer.specs.Delivery.{walk_end, StuckEnd, deliver_flags, InScratch}
use Rattle.writer.proofs.Delivery.{walk_goes, walk_stops, all_lead, some_lead}

module _ (l : Limits) (root : Node) (bytes : List ℕ) where
  -- 15
  module _ (h : length bytes % 8 ≡ 0 → ⊥) where
    cut_test : test_rows (luma l) root bytes ≡ refuse 15 (length bytes / 8)
    unfolding test_rows
    cut_test = rw (ne_eqb _ _ h)

    pub rows_cut : Refused 15 (length bytes / 8) ≡ answer_of (test_rows (luma l) root bytes)
    rows_cut = rw cut_test

    pub rows_refused : (buffer : List ℕ) → Meets (write_rows (luma l) root bytes buffer) (Refused 15 (length bytes / 8)) buffer
    unfolding write_rows finish_end
    rows_refused buffer = rw cut_test (record { answers = refl; leaves = refl })

  -- the delivery of a test's flags
  module _ {said : Answer} {scratch : List ℕ} (kept : InScratch (test_rows (luma l) root bytes) said scratch) (buffer : List ℕ) where
    abbrev tested : Run ℕ (List Row)
    tested = test_rows (luma l) root bytes

    pub kept_refused : {k p : ℕ} → said ≡ Refused k p → Meets (write_rows (luma l) root bytes buffer) (Refused k p) buffer
    unfolding write_rows finish_end
    kept_refused e = rw (answer_stops tested (sym kept.answers ∙ e)) (record { answers = refl; leaves = refl })

    kept_count : {n : ℕ} → said ≡ Accepted n → (length tested.given ≡ n) × (rows : List Row) × (tested.end ≡ goes rows)
    kept_count e = answer_goes tested (sym kept.answers ∙ e)

    pub kept_few : {n : ℕ} → said ≡ Accepted n → n ≤ 2048
    kept_few e = rw (kept_count e).0 at kept.few

    pub kept_written : {n : ℕ} → said ≡ Accepted n → {r : Answer} {left : List ℕ}
        → Meets (deliver_flags n scratch buffer) r left → Meets (write_rows (luma l) root bytes buffer) r left
    unfolding write_rows finish_end deliver deliver_flags
    kept_written {n} e {r} {left} m =
        let c = kept_count e in
        let f : take n scratch ≡ tested.given = rw c.0 at kept.flags in
        rw (c.2, c.0) (rw f at m)

-- ---- the end of rows that no walk takes, by how many of them lead

module _ {l : Limits} {root : Node} (r : Rooted (luma l) root) (bytes : List ℕ) {leading : ℕ} (leads : (left : ℕ) → fit_node (luma l) root (rows_in bytes) ≡ stuck left → leading ≡ length bytes / 8 - left) where
  pub leads_all : leading ≡ length bytes / 8 → StuckEnd (luma l) root bytes 27 leading
  leads_all h = record {
    ends = λ left is.
        let w = (search_is_tree r.proper r.placed.good r.here r.placed.sum).within (rows_in bytes) left is in
        let n = rows_long (length bytes / 8) bytes 0 in
        all_lead (length bytes / 8) leading left (leads left is) h (omega arith);
  }

  pub leads_some : ¬ (leading ≡ length bytes / 8) → StuckEnd (luma l) root bytes 16 leading
  leads_some h = record { ends = λ left is. some_lead (length bytes / 8) leading left (leads left is) h }

-- ---- what the walk of the root answers, and what the search finds, are the test's end, and the scratch table has its flags

module _ {l : Limits} {root : Node} (stands : Rooted (luma l) root) (bytes : List ℕ) (whole_rows : length bytes % 8 ≡ 0) {b z : List ℕ} {answer : ℕ} (done : Done (back_way bytes) (back_node (luma l) root (rows_in bytes)) 0 b answer z) where
  abbrev run : Run ℕ (List Row)
  run = back_node (luma l) root (rows_in bytes)

  abbrev found : Fit
  found = fit_node (luma l) root (rows_in bytes)

  turning : TurningIsTree (luma l) root
  turning = turning_is_tree stands.proper stands.placed.good stands.here stands.placed.sum

  searching : SearchIsTree (luma l) root
  searching = search_is_tree stands.proper stands.placed.good stands.here stands.placed.sum

  few_flags : length run.given ≤ 2048
  unfolding room_of
  few_flags =
      let a = mul-le-mul (stands.placed.good.shape.side Vertical).most (stands.placed.good.shape.side Horizontal).most in
      let q = (back_bound stands.proper stands.placed.good stands.placed.sum (rows_in bytes)).flags in
      omega arith

  all_rows : length (rows_in bytes) ≡ length bytes / 8
  all_rows = rows_long (length bytes / 8) bytes 0

  says : Says (back_way bytes) answer (length run.given) run.end
  says = subst (λ (i : ℕ). Says (back_way bytes) answer i run.end) (omega arith) done.said

  kept : {said : Answer} → said ≡ end_answer (length run.given) (back_end (length bytes / 8) found run.end) → InScratch (test_rows (luma l) root bytes) said z
  unfolding test_rows flags_from
  kept e =
      let i : length run.given ≡ given_of 0 + length run.given = omega arith in
      rw (eq-eqb _ _ whole_rows)
      (record {
        answers = e ∙ ap (end_answer (length run.given)) (ap (λ (n : ℕ). back_end n found run.end) (sym all_rows) ∙ sym (end_by_back turning searching (rows_in bytes)));
        flags = ap (λ (n : ℕ). take n z) i ∙ done.given;
        few = few_flags;
      })

  -- the walk goes through
  pub root_walked : answer < 9223372036854775808 → {said : Answer} → said ≡ walk_end answer bytes → InScratch (test_rows (luma l) root bytes) said z
  root_walked h e = kept (e ∙ walk_goes bytes answer (length run.given) found whole_rows h run.end says)

  -- it is refused, and the search finds the end
  pub root_refused : 9223372036854775808 ≤ answer → {number place : ℕ} → StuckEnd (luma l) root bytes number place → InScratch (test_rows (luma l) root bytes) (Refused number place) z
  root_refused h {number} {place} end =
      let s = walk_stops bytes answer (length run.given) found few_flags h run.end says in
      kept (sym (ap (λ (e : End (List Row)). end_answer (length run.given) (back_end (length bytes / 8) found e)) s.2 ∙ ap (end_answer (length run.given)) (go s.2 found refl)))
    where
      go : {n p : ℕ} → run.end ≡ stops n p → (f : Fit) → found ≡ f → fit_end (length bytes / 8) found ≡ stops number place
      go stopped (whole rest) is = absurd (stops_stuck turning searching (rows_in bytes) stopped rest is)
      go stopped (stuck left) is = ap (fit_end (length bytes / 8)) is ∙ end.ends left is
