-- What a walk of a whole tree answers, and the place that is found where it is refused, are the end of the test.
use Prim.Native.Nat.{ℕ, zero, suc, ◌-◌, ◌*◌, ◌/◌, ◌%◌, ◌≤◌, ◌<◌}
use mathlib.Core.Path.{◌≡◌, refl, sym, ap, ◌∙◌}
use mathlib.Core.List.{List, [], ◌∷◌}
use native.Mathlib.Omega.{arith}
use lib.ListN.{length}
use borrow.Author.Tests.{lt-ltb, le-ltb}
use Rattle.tree.specs.Rows.{Row}
use Rattle.tree.specs.Run.{End, goes, stops}
use Rattle.tree.specs.Search.{Fit, stuck}
use Rattle.laws.proofs.Tables.{rows_long}
use Rattle.unit.specs.Answers.{end_answer}
use Rattle.unit.specs.Writer.{fit_end}
use Rattle.unit.proofs.TreeTurning.{back_end}
use Rattle.nodes.specs.State.{place_of, given_of}
use Rattle.walks.specs.Walks.{Says}
use Rattle.marks.specs.Table.{Left}
use Rattle.back.specs.Walking.{back_way}
use Rattle.writer.specs.Delivery.{walk_end}

module _ (bytes : List ℕ) (answer count : ℕ) (f : Fit) where
  -- a walk that takes the rows of a tree: rows are left where its place is before the end
  left_is : length bytes % 8 ≡ 0 → given_of answer ≡ count → (left : List Row) → Left bytes (place_of answer) left → walk_end answer bytes ≡ end_answer count (back_end (length bytes / 8) f (goes left))
  unfolding walk_end
  left_is whole_rows e [] l =
      let n = ap length l.from ∙ rows_long (length bytes / 8 - place_of answer / 8) bytes (place_of answer / 8 * 8) in
      rw (le-ltb (place_of answer) (length bytes) (omega arith), e)
  left_is whole_rows e (r ∷ rows) l =
      let n = ap length l.from ∙ rows_long (length bytes / 8 - place_of answer / 8) bytes (place_of answer / 8 * 8) in
      let p : place_of answer / 8 ≡ length bytes / 8 - suc (length rows) = omega arith in
      rw (lt-ltb (place_of answer) (length bytes) (omega arith), p)

  -- by how the walk ends
  pub walk_goes : length bytes % 8 ≡ 0 → answer < 9223372036854775808 → (end : End (List Row)) → Says (back_way bytes) answer count end → walk_end answer bytes ≡ end_answer count (back_end (length bytes / 8) f end)
  unfolding Says
  walk_goes whole_rows h (goes left) s = left_is whole_rows s.0 left s.1
  walk_goes whole_rows h (stops k p) s = absurd (omega arith)

  -- a walk that stops: its end is the search's
  pub walk_stops : count ≤ 2048 → 9223372036854775808 ≤ answer → (end : End (List Row)) → Says (back_way bytes) answer count end → (number place : ℕ) × (end ≡ stops number place)
  unfolding Says
  walk_stops few h (goes left) s = let g = s.0 in absurd (omega arith)
  walk_stops few h (stops k p) s = (k, p, refl)

-- the refusal of rows that are stuck, of which so many lead
module _ (count leading left : ℕ) (e : leading ≡ count - left) where
  pub all_lead : leading ≡ count → left ≤ count → fit_end count (stuck left) ≡ stops 27 leading
  unfolding fit_end
  all_lead h w = go left (omega arith)
    where
      go : (left : ℕ) → left ≡ 0 → fit_end count (stuck left) ≡ stops 27 leading
      go zero z = ap (stops 27) (sym h)
      go (suc left) z = absurd (omega arith)

  pub some_lead : ¬ (leading ≡ count) → fit_end count (stuck left) ≡ stops 16 leading
  unfolding fit_end
  some_lead h = go left e
    where
      go : (left : ℕ) → leading ≡ count - left → fit_end count (stuck left) ≡ stops 16 leading
      go zero z = absurd (h (omega arith))
      go (suc left) z = ap (stops 16) (sym z)
