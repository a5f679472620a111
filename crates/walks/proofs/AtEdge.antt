-- A node that may be out of the picture: where it lies, as its numbers say it, and its walk where it is skipped, or lies inside the picture and is walked as such.
use Prim.Native.Nat.{ℕ}
use mathlib.Core.Path.{◌≡◌, sym, ap, ap₂, ◌∙◌}
use mathlib.Core.Bool.{Bool, true, false, not, ◌||◌}
use mathlib.Core.List.{List, [], ◌∷◌}
use Rattle.tree.specs.declared.Node.{Node}
use Rattle.tree.specs.Kind.{Kind}
use Rattle.tree.specs.Splits.{right_out, bottom_out, is_out}
use Rattle.tree.specs.Children.{corner_inside}
use Rattle.nodes.specs.Tables.{table_of, limits_in}
use Rattle.nodes.specs.RowNodes.{node_in, bound_in, inner_in, out_in}
use Rattle.walks.specs.Stands.{word, Inside, Outer, no_more, one_more}
use Rattle.walks.specs.Walks.{Way, Ready, Asked, Walked}
use Rattle.walks.proofs.One.{Case, some_case, each_case, one_gone}
use Rattle.walks.proofs.Open.{handed_over}
use Rattle.walks.proofs.RowFields.{corner_says, right_says, bottom_says}

module _ {u : List ℕ} {k : Kind} (t : u ≡ table_of k) {n : Node} {row depths : ℕ} (s : Outer k n (word row depths)) where
  pub corner_is : corner_inside (limits_in u) (node_in row) ≡ corner_inside k.limits n
  unfolding table_of
  corner_is = rw t (corner_says s.placed s.row k.limits)

  pub right_is : right_out (limits_in u) (node_in row) ≡ right_out k.limits n
  unfolding table_of
  right_is = rw t (right_says s.placed s.row k.limits)

  pub bottom_is : bottom_out (limits_in u) (node_in row) ≡ bottom_out k.limits n
  unfolding table_of
  bottom_is = rw t (bottom_says s.placed s.row k.limits)

  pub out_is : is_out (limits_in u) (node_in row) ≡ is_out k.limits n
  out_is = ap₂ (λ a b. a || b) right_is bottom_is

-- its open splits, as the code finds them
pub out_splits_is : (u : List ℕ) (row depths : ℕ) {splits : ℕ} {right bottom : Bool} → right ≡ right_out (limits_in u) (node_in row) → bottom ≡ bottom_out (limits_in u) (node_in row) → splits ≡ out_in u row depths right bottom
    → splits ≡ out_in u row depths (right_out (limits_in u) (node_in row)) (bottom_out (limits_in u) (node_in row))
out_splits_is u row depths r b e = e ∙ ap₂ (λ x y. out_in u row depths x y) r b

module _ {A S : Type 0} (way : Way A S) {u : List ℕ} {c row depths : ℕ} where
  -- it is skipped
  pub edge_gone : way.stored [] ≡ [] → corner_inside (limits_in u) (node_in row) ≡ false → {b : List ℕ} → Walked way Outer u c (word row depths ∷ []) b c b
  edge_gone none e = each_case way Outer u c (word row depths) (λ k n s at. one_gone way none k n s c _ (sym (corner_is at.table at.stands_for) ∙ e) at.placed)

  -- it lies inside the picture
  module _ (here : corner_inside (limits_in u) (node_in row) ≡ true) (within : is_out (limits_in u) (node_in row) ≡ false) {bound splits : ℕ} (b-is : bound ≡ bound_in u depths) (s-is : splits ≡ inner_in u row depths) where
    handed_ready : {k : Kind} {n : Node} {s : S} → Case way Outer u c (word row depths) k n s → Ready way (Inside bound) k (n ∷ []) s u c (word row splits ∷ [])
    handed_ready {k} {n} at = record { proper = at.proper; table = at.table; stand = one_more stands no_more; placed = at.placed; room = at.room }
      where
        stands : Inside bound k n (word row splits)
        stands =
            let o = at.stands_for in
            rw (b-is, s-is, at.table) (handed_over at.proper o (sym (corner_is at.table o) ∙ here) (ap not (sym (out_is at.table o) ∙ within)))

    pub handed_asked : Asked way Outer u c (word row depths ∷ []) → Asked way (Inside bound) u c (word row splits ∷ [])
    handed_asked a = some_case way Outer u c (word row depths) a (λ k n s at. record { kind = k; nodes = n ∷ []; state = s; ready = handed_ready at })

    pub handed_walked : {b z : List ℕ} {r : ℕ} → Walked way (Inside bound) u c (word row splits ∷ []) b r z → Walked way Outer u c (word row depths ∷ []) b r z
    handed_walked w = each_case way Outer u c (word row depths) (λ k n s at. w.done k (n ∷ []) s (handed_ready at))
