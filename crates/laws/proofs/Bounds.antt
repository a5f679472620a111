-- What the reading of a node gives is bounded by the node's area, also where the reading is refused.
use Prim.Native.Nat.{ℕ, zero, suc, ◌+◌, ◌*◌, ◌≤◌}
use mathlib.Core.Path.{◌≡◌, refl}
use mathlib.Core.Bool.{Bool, true, false}
use mathlib.Core.List.{List, ◌∷◌}
use lib.ListN.{length, length-append}
use native.Mathlib.Omega.{arith}
use Rattle.tree.specs.declared.Node.{Node}
use Rattle.tree.specs.declared.Direction.TheVariants.{Vertical}
use Rattle.tree.specs.declared.Decision.{Decision}
use Rattle.tree.specs.declared.Decision.TheVariants.{Leaf, Quad, Binary, Ternary}
use Rattle.tree.specs.Flags.{Choice}
use Rattle.tree.specs.Flags.{Chosen, Refused}
use Rattle.tree.specs.Kind.{Kind}
use Rattle.tree.specs.Splits.{rights_of, allows}
use Rattle.tree.specs.Flags.{decide, flags_for}
use Rattle.tree.specs.Children.{shares, children_from, children, corner_inside}
use Rattle.tree.specs.Rows.{Row, own_rows}
use Rattle.tree.specs.Run.{End, goes, stops, Run, before, go_on, over_all}
use Rattle.tree.specs.Reading.{levels_left, enter, walk, read_node}
use Rattle.laws.specs.Every.{Every, every_none, every_more}
use Rattle.laws.specs.Proper.{Proper}
use Rattle.laws.specs.Areas.{areas_of, room_of, flag_room}
use Rattle.laws.specs.Good.{Good}
use Rattle.laws.proofs.Tests.{never}
use Rattle.laws.proofs.Every.{every_map, every_both}
use Rattle.laws.proofs.Multiples.{fold_least}
use Rattle.laws.proofs.Parts.{every_child}
use Rattle.laws.proofs.Runs.{over_here, over_gone}
use Rattle.laws.proofs.Levels.{child_shorter}
use Rattle.laws.proofs.Edge.{good_kids, no_dead_end}
use Rattle.laws.proofs.Bytes.{reads_length}
use Rattle.laws.proofs.Flags.{decide_sound}
use Rattle.tree.specs.Splits.{is_split}
use Rattle.laws.proofs.Areas.{least_area, kids_areas}
use Rattle.laws.proofs.FlagAreas.{decision_room}

-- of a node: at most a row for every 16 samples, and as many flags as it has room for
pub record Bound (n : Node) (at : ℕ) (r : Run Row ℕ) : Type 0 where
  pub rows : 16 * length r.given ≤ n.w * n.h
  pub place : (next : ℕ) → r.end ≡ goes next → 64 * next ≤ 64 * at + room_of n

-- of nodes, one after the other
pub record Bounds (ns : List Node) (at : ℕ) (r : Run Row ℕ) : Type 0 where
  pub rows : 16 * length r.given ≤ areas_of ns
  pub place : (next : ℕ) → r.end ≡ goes next → 64 * next ≤ 64 * at + flag_room ns

module _ (k : Kind) (go : Node → ℕ → Run Row ℕ) where
  join_bounds : (n : Node) (ns : List Node) (at : ℕ) (given : List Row) (end : End ℕ) → Bound n at (record { given = given; end = end })
      → ((mid : ℕ) → Bounds ns mid (over_all k.limits go ns mid)) → Bounds (n ∷ ns) at (go_on given end (λ t. over_all k.limits go ns t))
  unfolding go_on before areas_of flag_room
  join_bounds n ns at given (goes mid) b rest =
      let c = b.rows in
      let p = b.place mid refl in
      let d = (rest mid).rows in
      record {
        rows = rw (length-append given (over_all k.limits go ns mid).given) (omega arith);
        place = λ next e. let q = (rest mid).place next e in omega arith;
      }
  join_bounds n ns at given (stops a p) b rest = let c = b.rows in record { rows = omega arith; place = λ next e. never (cc) }

  -- nodes that are skipped cost nothing
  pub over_bounds : {ns : List Node} → Every (λ n. corner_inside k.limits n ≡ true → (at : ℕ) → Bound n at (go n at)) ns → (at : ℕ) → Bounds ns at (over_all k.limits go ns at)
  unfolding over_all areas_of flag_room
  over_bounds every_none at = record { rows = omega arith; place = λ next e. let q : at ≡ next = cc in omega arith }
  over_bounds (every_more {a = n} {rest = ns} h hs) at = begin (corner_inside k.limits n) refl (over_bounds hs)
    where
      begin : (b : Bool) → corner_inside k.limits n ≡ b → ((mid : ℕ) → Bounds ns mid (over_all k.limits go ns mid)) → Bounds (n ∷ ns) at (over_all k.limits go (n ∷ ns) at)
      begin true here rest = rw (over_here k go n ns at here) (join_bounds n ns at (go n at).given (go n at).end (h here at) rest)
      begin false out rest =
          let c = (rest at).rows in
          rw (over_gone k go n ns at out) (record { rows = omega arith; place = λ next e. let q = (rest at).place next e in omega arith })

-- ---- one node

module _ {k : Kind} (v : Proper k) (flags : List ℕ) where
  module _ {n : Node} (g : Good k.limits n) (here : corner_inside k.limits n ≡ true) (step : Node → ℕ → Run Row ℕ) (at : ℕ) where
    leaf_bound : {m : ℕ} → at + length (flags_for (rights_of k n) Leaf) ≡ m → allows (rights_of k n) Leaf ≡ true → Bound n at (enter k n step (Chosen Leaf m))
    unfolding enter before own_rows children children_from shares over_all
    leaf_bound {m} near ok =
        let a = least_area g.shape in
        let f = decision_room v g.shape Leaf ok in
        record { rows = omega arith; place = λ next e. let q : m ≡ next = cc in omega arith }

    split_bound : (d : Decision) {m : ℕ} → at + length (flags_for (rights_of k n) d) ≡ m → is_split d ≡ true → allows (rights_of k n) d ≡ true → (r : Run Row ℕ) → Bounds (children k.limits n d) m r → Bound n at r
    split_bound d near s ok r b =
        let a = kids_areas k.limits g.shape d s in
        let c = decision_room v g.shape d ok in
        let e = b.rows in
        record { rows = omega arith; place = λ next e. let q = b.place next e in omega arith }

    made_bound : (d : Decision) {m : ℕ} → at + length (flags_for (rights_of k n) d) ≡ m → allows (rights_of k n) d ≡ true → Bounds (children k.limits n d) m (over_all k.limits step (children k.limits n d) m) → Bound n at (enter k n step (Chosen d m))
    unfolding enter before own_rows
    made_bound Leaf near ok b = leaf_bound near ok
    made_bound Quad near ok b = split_bound Quad near refl ok _ b
    made_bound (Binary d) near ok b = split_bound (Binary d) near refl ok _ b
    made_bound (Ternary d) near ok b = split_bound (Ternary d) near refl ok _ b

    choice_bound : ((d : Decision) → allows (rights_of k n) d ≡ true → (m : ℕ) → Bounds (children k.limits n d) m (over_all k.limits step (children k.limits n d) m))
        → (c : Choice) → decide (rights_of k n) flags at ≡ c → Bound n at (enter k n step c)
    unfolding enter
    choice_bound kids (Refused a p) i = record { rows = omega arith; place = λ next e. never (cc) }
    choice_bound kids (Chosen d m) i = let s = decide_sound flags (rights_of k n) (no_dead_end v g here) i in made_bound d (reads_length s.reads) s.ok (kids d s.ok m)

  -- with as many levels as both sides are long together
  pub walk_bound : (deep : ℕ) (n : Node) → Good k.limits n → n.w + n.h ≤ deep → corner_inside k.limits n ≡ true → (at : ℕ) → Bound n at (walk deep k flags n at)
  unfolding walk
  walk_bound zero n g h here at = let a = fold_least (g.shape.side Vertical).fold in absurd (omega arith)
  walk_bound (suc deep) n g h here at =
      choice_bound g here (walk deep k flags) at
      (λ d ok. over_bounds k (walk deep k flags)
      (every_map (λ c p. walk_bound deep c p.0 p.1)
      (every_both (good_kids v g d ok) (every_child k n d (λ p piece. let s = child_shorter k.limits n g.shape piece in omega arith)))))
      (decide (rights_of k n) flags at) refl

pub reading_bound : {k : Kind} → Proper k → {n : Node} → Good k.limits n → n.w + n.h + n.qt + n.mtt ≤ 256 → corner_inside k.limits n ≡ true → (flags : List ℕ) (at : ℕ) → Bound n at (read_node k flags n at)
reading_bound v {n} g sum here flags at = walk_bound v flags (levels_left n) n g (omega arith) here at
