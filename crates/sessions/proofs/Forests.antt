-- The laws of coding trees, for the trees of all parts of a unit.
use Prim.Native.Nat.{ℕ, ◌+◌, ◌*◌}
use mathlib.Core.Path.{◌≡◌, refl, sym, ap₂, subst, ◌∙◌}
use mathlib.Core.Bool.{Bool, true, false, cond}
use mathlib.Core.List.{List, [], ◌++◌, append_assoc}
use native.Mathlib.Nat.{add-mul}
use native.Mathlib.Omega.{arith}
use lib.ListN.{length}
use Rattle.sides.proofs.Bools.{clash}
use Rattle.tree.specs.Rows.{Row}
use Rattle.tree.specs.Tree.{Tree, flags_of, rows_of}
use Rattle.laws.specs.Every.{Every, every_none, every_more}
use Rattle.laws.specs.Geometry.{rectangle, copies}
use Rattle.laws.proofs.Bytes.{Reads, nothing, reads_part, reads_all}
use Rattle.laws.proofs.Copies.{copies_append}
use Rattle.laws.proofs.Joins.{Joins}
use Rattle.laws.proofs.Unique.{alone}
use Rattle.sessions.specs.Forest.{UnitPart, Forest, no_tree, a_tree, forest_flags, forest_rows, root_copies}
use Rattle.sessions.proofs.Parts.{GoodRoot, part_covered, part_legible}

module _ {Table : Type 0} where
  -- flags say one forest at most
  module _ (flags : List ℕ) where
    forest_alone : {ps : List (UnitPart Table)} (t u : Forest ps) (at to end : ℕ)
        → Reads flags at (forest_flags t) to → Reads flags at (forest_flags u) end → (t ≡ u) × (to ≡ end)
    unfolding forest_flags
    forest_alone no_tree no_tree at to end nothing nothing = (refl, refl)
    forest_alone (a_tree t ts) (a_tree u us) at to end r s =
        let a = reads_part (flags_of t) r in
        let b = reads_part (flags_of u) s in
        let x = alone flags t u at a.0 b.0 a.1 b.1 in
        let y = forest_alone ts us a.0 to end a.2 (rw (← x.1) at b.2) in
        (ap₂ (λ i j. a_tree i j) x.0 y.0, y.1)

  pub forest_unique : {ps : List (UnitPart Table)} (t u : Forest ps) → forest_flags t ≡ forest_flags u → t ≡ u
  forest_unique t u e =
      let r = reads_all (forest_flags t) in
      let s = subst (λ b. Reads (forest_flags t) 0 b (length (forest_flags t))) e r in
      (forest_alone (forest_flags t) t u 0 _ _ r s).0

  module _ (width height cell : ℕ) where
    abbrev pub GoodPart : UnitPart Table → Type 0
    GoodPart p = GoodRoot width height cell p.kind p.root

    module _ (same : Table → Table → Bool) where
      module _ (i : Table) where
        pub forest_covered : {ps : List (UnitPart Table)} → Every GoodPart ps → (t : Forest ps) (px py : ℕ)
            → copies px py (forest_rows same i t) ≡ root_copies same i ps px py * rectangle 0 0 width height px py
        unfolding forest_rows root_copies copies
        forest_covered every_none no_tree px py = omega arith
        forest_covered (every_more {a = p} {rest = ps} s ss) (a_tree t ts) px py =
            copies_append px py (cond (same i p.table) (rows_of t) []) (forest_rows same i ts)
            ∙ ap₂ (λ a b. a + b) (one (same i p.table)) (forest_covered ss ts px py)
            ∙ sym (add-mul _ _ (rectangle 0 0 width height px py))
          where
            one : (b : Bool) → copies px py (cond b (rows_of t) [])
                ≡ cond b (rectangle p.root.x p.root.y p.root.w p.root.h px py) 0
                * rectangle 0 0 width height px py
            one true = part_covered s t px py
            one false = omega arith

        -- A property that joined tables have where their parts have it: where the rows of each good part's tree have it,
        -- so do those of the forest.
        pub forest_joined : {F : List Row → Type 0} → Joins F
            → ((p : UnitPart Table) → GoodPart p → (t : Tree p.kind p.root) → F (rows_of t))
            → {ps : List (UnitPart Table)} → Every GoodPart ps → (t : Forest ps) → F (forest_rows same i t)
        unfolding forest_rows
        forest_joined joins of_part every_none no_tree = joins.empty
        forest_joined {F} joins of_part (every_more {a = p} s ss) (a_tree t ts) =
            joins.join (one (same i p.table)) (forest_joined joins of_part ss ts)
          where
            one : (b : Bool) → F (cond b (rows_of t) [])
            one true = of_part p s t
            one false = joins.empty

      -- the rows of all tables, whatever rows follow in each, say the flags and the rows that follow
      module _ (itself : (i : Table) → same i i ≡ true) where
        pub forest_legible : {ps : List (UnitPart Table)} → Every GoodPart ps → (t u : Forest ps)
            (more others : Table → List Row)
            → ((i : Table) → forest_rows same i t ++ more i ≡ forest_rows same i u ++ others i)
            → (forest_flags t ≡ forest_flags u) × ((i : Table) → more i ≡ others i)
        unfolding forest_rows forest_flags
        forest_legible every_none no_tree no_tree more others e = (refl, e)
        forest_legible (every_more {a = p} s ss) (a_tree t ts) (a_tree u us) more others e =
            let x = first p.table (same p.table p.table) refl (e p.table) in
            let y = forest_legible ss ts us more others (λ i. (first i (same i p.table) refl (e i)).1) in
            (ap₂ (λ a b. a ++ b) (x.0 (itself p.table)) y.0, y.1)
          where
            -- the first part: in its own table the flags and what follows, in the others what follows
            first : (i : Table) (b : Bool) → same i p.table ≡ b
                → (cond (same i p.table) (rows_of t) [] ++ forest_rows same i ts) ++ more i
                ≡ (cond (same i p.table) (rows_of u) [] ++ forest_rows same i us) ++ others i
                → (same i p.table ≡ true → flags_of t ≡ flags_of u)
                × (forest_rows same i ts ++ more i ≡ forest_rows same i us ++ others i)
            first i true h f =
                let rest = forest_rows same i ts ++ more i in
                let x = part_legible s rest (forest_rows same i us ++ others i) t u (simp (h, append_assoc) at f) in
                (λ _. x.0, x.1)
            first i false h f = (λ k. clash k h, simp h at f)
