-- What the way back of a node gives, and the rows that it takes, are bounded by the node's area, also where it is refused.
use Prim.Native.Nat.{ℕ, zero, suc, ◌+◌, ◌-◌, ◌*◌, ◌≤◌}
use mathlib.Core.Path.{◌≡◌, refl, sym, ap, ◌∙◌}
use mathlib.Core.Bool.{Bool, true, false}
use mathlib.Core.List.{List, [], ◌∷◌}
use lib.ListN.{length, take, drop, length-append, length-drop}
use lib.Seq.{length-take-le, drop-drop, take-add}
use native.Mathlib.Omega.{arith}
use Rattle.tree.specs.declared.Node.{Node}
use Rattle.tree.specs.declared.Decision.{Decision}
use Rattle.tree.specs.declared.Decision.TheVariants.{Leaf, Quad, Binary, Ternary}
use Rattle.tree.specs.Kind.{Kind}
use Rattle.tree.specs.Splits.{rights_of, allows}
use Rattle.tree.specs.Flags.{flags_for}
use Rattle.tree.specs.Children.{children, corner_inside}
use Rattle.tree.specs.Rows.{Row, row_of}
use Rattle.tree.specs.Run.{End, goes, stops, Run, before, go_on, over_all}
use Rattle.tree.specs.Reading.{levels_left}
use Rattle.tree.specs.Back.{decision_from, no_flags, back_split, back_into, back_with, back, back_node}
use Rattle.laws.specs.Every.{Every, every_none, every_more}
use Rattle.laws.specs.Proper.{Proper}
use Rattle.laws.specs.Areas.{areas_of, room_of, flag_room, cells_of_all}
use Rattle.laws.specs.Good.{Good}
use Rattle.laws.proofs.Tests.{never}
use Rattle.laws.proofs.Every.{every_map}
use Rattle.laws.proofs.Runs.{gives, over_here, over_gone}
use Rattle.laws.proofs.Edge.{good_kids}
use Rattle.tree.specs.Splits.{is_split}
use Rattle.laws.proofs.Areas.{kids_areas}
use Rattle.laws.proofs.FlagAreas.{decision_room}
use Rattle.laws.proofs.Starts.{cells_append, cells_least, leaf_area_lem}
use Rattle.laws.proofs.Decisions.{leaf_own}
use Rattle.laws.proofs.Backs.{with_open, with_closed}

-- ---- bounds

-- so many rows were taken, with at most a cell for every 16 samples, and these are left
abbrev pub Taken : ℕ → List Row → List Row → Type 0
Taken area rows left = (k : ℕ) × (left ≡ drop k rows) × (k ≤ length rows) × (16 * cells_of_all (take k rows) ≤ area)

-- of a node: as many flags as it has room for
pub record BackBound (n : Node) (rows : List Row) (run : Run ℕ (List Row)) : Type 0 where
  pub flags : 64 * length run.given ≤ room_of n
  pub rest : (left : List Row) → run.end ≡ goes left → Taken (n.w * n.h) rows left

-- of nodes, one after the other
pub record BackBounds (ns : List Node) (rows : List Row) (run : Run ℕ (List Row)) : Type 0 where
  pub flags : 64 * length run.given ≤ flag_room ns
  pub rest : (left : List Row) → run.end ≡ goes left → Taken (areas_of ns) rows left

-- rows that are taken after others
taken_after : {a b : ℕ} {rows mid left : List Row} → Taken a rows mid → Taken b mid left → Taken (a + b) rows left
taken_after {a} {b} {rows} {mid} {left} s t =
    let e : left ≡ drop t.0 (drop s.0 rows) = t.1 ∙ ap (drop t.0) s.1 in
    let h : length mid ≡ length rows - s.0 = ap length s.1 ∙ length-drop s.0 rows in
    let c : cells_of_all (take (s.0 + t.0) rows) ≡ cells_of_all (take s.0 rows) + cells_of_all (take t.0 mid) =
    ap cells_of_all (take-add s.0 t.0 rows) ∙ cells_append (take s.0 rows) (take t.0 (drop s.0 rows)) ∙ ap (λ m. cells_of_all (take s.0 rows) + cells_of_all (take t.0 m)) (sym s.1) in
    (s.0 + t.0, e ∙ drop-drop t.0 s.0 rows, omega arith, omega arith)

-- more samples
taken_within : {a b : ℕ} {rows left : List Row} → a ≤ b → Taken a rows left → Taken b rows left
taken_within h t = (t.0, t.1, t.2, omega arith)

taken_none : (area : ℕ) {rows left : List Row} → goes rows ≡ goes left → Taken area rows left
taken_none area e = (0, cc, omega arith, omega arith)

-- each row has a cell at least, so no more rows than cells
pub taken_rows : {a : ℕ} {rows left : List Row} (t : Taken a rows left) → 16 * t.0 ≤ a
taken_rows {rows = rows} t = let c = cells_least (take t.0 rows) in let e = length-take-le t.0 rows t.2 in omega arith

module _ (k : Kind) (go : Node → List Row → Run ℕ (List Row)) where
  join_bounds : (n : Node) (ns : List Node) (rows : List Row) (given : List ℕ) (end : End (List Row)) → BackBound n rows (record { given = given; end = end })
      → ((mid : List Row) → BackBounds ns mid (over_all k.limits go ns mid)) → BackBounds (n ∷ ns) rows (go_on given end (λ t. over_all k.limits go ns t))
  unfolding go_on before areas_of flag_room
  join_bounds n ns rows given (goes mid) b more =
      let c = b.flags in
      let d = (more mid).flags in
      record {
        flags = rw (length-append given (over_all k.limits go ns mid).given) (omega arith);
        rest = λ left e. taken_after (b.rest mid refl) ((more mid).rest left e);
      }
  join_bounds n ns rows given (stops a p) b more = let c = b.flags in record { flags = omega arith; rest = λ left e. never (cc) }

  -- nodes that are skipped cost nothing
  pub over_back_bounds : {ns : List Node} → Every (λ n. (rows : List Row) → BackBound n rows (go n rows)) ns → (rows : List Row) → BackBounds ns rows (over_all k.limits go ns rows)
  unfolding over_all areas_of flag_room
  over_back_bounds every_none rows = record { flags = omega arith; rest = λ left e. taken_none 0 e }
  over_back_bounds (every_more {a = n} {rest = ns} h hs) rows = begin (corner_inside k.limits n) refl (over_back_bounds hs)
    where
      begin : (b : Bool) → corner_inside k.limits n ≡ b → ((mid : List Row) → BackBounds ns mid (over_all k.limits go ns mid)) → BackBounds (n ∷ ns) rows (over_all k.limits go (n ∷ ns) rows)
      begin true here more = rw (over_here k go n ns rows here) (join_bounds n ns rows (go n rows).given (go n rows).end (h rows) more)
      begin false out more =
          let c = (more rows).flags in
          rw (over_gone k go n ns rows out) (record { flags = omega arith; rest = λ left e. taken_within (omega arith) ((more rows).rest left e) })

-- ---- one node

module _ {k : Kind} (v : Proper k) where
  module _ {n : Node} (g : Good k.limits n) (step : Node → List Row → Run ℕ (List Row)) where
    refused_bound : (rows : List Row) → BackBound n rows no_flags
    refused_bound rows = record { flags = omega arith; rest = λ left e. never (cc) }

    module _ (r : Row) (rows : List Row) where
      leaf_bound : r ≡ row_of n → allows (rights_of k n) Leaf ≡ true → BackBound n (r ∷ rows) (gives (flags_for (rights_of k n) Leaf) rows)
      leaf_bound own ok = record {
        flags = let f = decision_room v g.shape Leaf ok in omega arith;
        rest = λ left e. (1, cc, omega arith, rw own (let a = leaf_area_lem g.shape in omega arith));
      }

      split_bound : (d : Decision) → is_split d ≡ true → allows (rights_of k n) d ≡ true → BackBounds (children k.limits n d) (r ∷ rows) (over_all k.limits step (children k.limits n d) (r ∷ rows))
          → BackBound n (r ∷ rows) (back_split k n step (r ∷ rows) d)
      unfolding before
      split_bound d s ok b =
          let a = kids_areas k.limits g.shape d s in
          let c = decision_room v g.shape d ok in
          let e = b.flags in
          record {
            flags = rw (length-append (flags_for (rights_of k n) d) (over_all k.limits step (children k.limits n d) (r ∷ rows)).given) (omega arith);
            rest = λ left e. taken_within (omega arith) (b.rest left e);
          }

      into_bound : (d : Decision) → decision_from k.limits n r rows ≡ d → allows (rights_of k n) d ≡ true
          → BackBounds (children k.limits n d) (r ∷ rows) (over_all k.limits step (children k.limits n d) (r ∷ rows)) → BackBound n (r ∷ rows) (back_into k n step r rows d)
      unfolding back_into
      into_bound Leaf i ok b = leaf_bound (leaf_own k.limits n r rows i) ok
      into_bound Quad i ok b = split_bound Quad refl ok b
      into_bound (Binary d) i ok b = split_bound (Binary d) refl ok b
      into_bound (Ternary d) i ok b = split_bound (Ternary d) refl ok b

      with_bound : ((d : Decision) → allows (rights_of k n) d ≡ true → BackBounds (children k.limits n d) (r ∷ rows) (over_all k.limits step (children k.limits n d) (r ∷ rows)))
          → (d : Decision) → decision_from k.limits n r rows ≡ d → (b : Bool) → allows (rights_of k n) d ≡ b → BackBound n (r ∷ rows) (back_with k n step r rows d)
      with_bound kids d i true ok = rw (with_open k n step r rows d ok) (into_bound d i ok (kids d ok))
      with_bound kids d i false no-right = rw (with_closed k n step r rows d no-right) (refused_bound (r ∷ rows))

  -- however many levels are left
  pub deep_back_bound : (deep : ℕ) (n : Node) → Good k.limits n → (rows : List Row) → BackBound n rows (back deep k n rows)
  unfolding back
  deep_back_bound zero n g rows = refused_bound g (back 0 k) rows
  deep_back_bound (suc deep) n g [] = refused_bound g (back deep k) []
  deep_back_bound (suc deep) n g (r ∷ rows) =
      with_bound g (back deep k) r rows
      (λ d ok. over_back_bounds k (back deep k) (every_map (deep_back_bound deep) (good_kids v g d ok)) (r ∷ rows))
      (decision_from k.limits n r rows) refl _ refl

pub back_bound : {k : Kind} → Proper k → {n : Node} → Good k.limits n → n.w + n.h + n.qt + n.mtt ≤ 256 → (rows : List Row) → BackBound n rows (back_node k n rows)
back_bound v {n} g sum rows = deep_back_bound v (levels_left n) n g rows
