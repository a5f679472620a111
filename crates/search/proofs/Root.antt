-- The search from a root, over all rows of a table.
use Prim.Native.Nat.{ℕ, ◌-◌, ◌/◌, ◌%◌, ◌<◌}
use mathlib.Core.Path.{◌≡◌, refl, sym, ap, ◌∙◌}
use mathlib.Core.Bool.{Bool, not}
use mathlib.Core.List.{List, [], ◌∷◌}
use native.Mathlib.Omega.{arith}
use lib.ListN.{length}
use Rattle.sides.proofs.Bools.{not-not}
use Rattle.tree.specs.declared.Node.{Node}
use Rattle.tree.specs.Kind.{Kind}
use Rattle.tree.specs.Splits.{rights_of, rights_in, open_splits}
use Rattle.tree.specs.Rows.{rows_at, rows_in}
use Rattle.tree.specs.Search.{stuck, fit_node}
use Rattle.laws.specs.FitRun.{fit_run}
use Rattle.laws.proofs.Runs.{over_one}
use Rattle.nodes.specs.State.{refusal}
use Rattle.nodes.specs.RowNodes.{depth_above}
use Rattle.walks.specs.Rooted.{Given, SomeRoot}
use Rattle.walks.specs.Stands.{word, no_more, one_more}
use Rattle.walks.specs.Walks.{Says, Done, Ready, Asked, Walked}
use Rattle.walks.proofs.Below.{above_depths}
use Rattle.walks.proofs.Open.{rights_of_lem}
use Rattle.walks.proofs.Roots.{root_unlifted, root_room, room_here}
use Rattle.marks.specs.Table.{Left}
use Rattle.search.specs.Walking.{search_way, Known}

module _ {k : Kind} {root : Node} {u : List ℕ} {row : ℕ} {out : Bool} {splits : ℕ} (g : Given k root u row out splits) where
  root_known : Known out splits k root (word row (depth_above u))
  root_known = record {
    placed = g.rooted.placed;
    here = g.rooted.here;
    row = g.row_is;
    depths = ap depth_above g.table ∙ above_depths k root g.rooted.uncut (root_unlifted g.rooted);
    edge = sym g.out_is;
    rights =
        rights_of_lem k root (not out) (ap not (sym g.out_is))
        ∙ ap (λ b. rights_in b (open_splits (rights_of k root))) (not-not out) ∙ ap (rights_in out) (sym g.splits_are);
  }

  module _ (bytes : List ℕ) where
    all_left : Left bytes 0 (rows_in bytes)
    all_left = let e : length bytes / 8 ≡ length bytes / 8 - 0 = omega arith in record { from = ap (λ (i : ℕ). rows_at i bytes 0) e; first = refl; within = omega arith }

    root_ready : Ready (search_way bytes) (Known out splits) k (root ∷ []) (rows_in bytes) u 0 (word row (depth_above u) ∷ [])
    root_ready = record {
      proper = g.rooted.proper;
      table = g.table;
      stand = one_more root_known no_more;
      placed = all_left;
      room = room_here g (search_way bytes) (rows_in bytes) 0 all_left (root_room g 130816 (omega arith));
    }

    -- a number below 2 ^ 64 that answers for a root's search: its place, where it is stuck
    pub root_stuck : {answer : ℕ} → answer < 18446744073709551616 → Walked (search_way bytes) (Known out splits) u 0 (word row (depth_above u) ∷ []) [] answer []
        → (left : ℕ) → fit_node k root (rows_in bytes) ≡ stuck left → answer % 9223372036854775808 / 32 ≡ length bytes / 8 - left
    unfolding Says
    root_stuck {answer} small w left e =
        let d = w.done k (root ∷ []) (rows_in bytes) root_ready in
        let f : Done (search_way bytes) (fit_run (length bytes / 8) (fit_node k root (rows_in bytes))) 0 [] answer [] =
        rw (over_one k (λ n t. (search_way bytes).go k n t) root (rows_in bytes) g.rooted.here) at d in
        let h : answer ≡ refusal 16 (length bytes / 8 - left) = (rw e at f).said in
        omega arith

pub root_asked : (bytes : List ℕ) {u : List ℕ} {row : ℕ} {out : Bool} {splits : ℕ} → SomeRoot u row out splits → Asked (search_way bytes) (Known out splits) u 0 (word row (depth_above u) ∷ [])
root_asked bytes r = record { kind = r.kind; nodes = r.root ∷ []; state = rows_in bytes; ready = root_ready r.given bytes }
