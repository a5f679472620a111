-- A node of the search, by what is known of it: from a child to a node whose open splits are known, and from the decisions that are tried to the node.
use Prim.Native.Nat.{ℕ, ◌≤◌, ◌<◌, max}
use mathlib.Core.Path.{◌≡◌, sym, ap, subst, ◌∙◌}
use mathlib.Core.Bool.{Bool, true, false, not}
use mathlib.Core.List.{List, [], ◌∷◌}
use native.Mathlib.Omega.{arith}
use Rattle.tree.specs.declared.Node.{Node}
use Rattle.tree.specs.declared.Decision.{Decision}
use Rattle.tree.specs.Kind.{Kind}
use Rattle.tree.specs.Splits.{is_out, right_out, bottom_out, rights_of, rights_in}
use Rattle.tree.specs.Children.{corner_inside}
use Rattle.tree.specs.Rows.{Row}
use Rattle.tree.specs.Search.{fit_any, fit_node}
use Rattle.laws.proofs.Tries.{any_join}
use Rattle.nodes.specs.State.{given_of}
use Rattle.nodes.specs.Tables.{limits_in}
use Rattle.nodes.specs.RowNodes.{node_in, inner_in, out_in}
use Rattle.walks.specs.Stands.{Word, word, Outer, no_more, one_more}
use Rattle.walks.specs.Walks.{Ready, Asked, Walked}
use Rattle.walks.proofs.AtEdge.{corner_is, right_is, bottom_is, out_is}
use Rattle.walks.proofs.Open.{handed_over, inside_rights, out_rights}
use Rattle.walks.proofs.One.{Case, some_case, each_case}
use Rattle.search.specs.Walking.{search_way, Known, Tried}
use Rattle.search.proofs.Answers.{first_on, second_on, farther_on}

-- ---- from a child to a node whose open splits are known

module _ (bytes u : List ℕ) (c row depths : ℕ) where
  abbrev Child : Kind → Node → List Row → Type 0
  Child k n rows = Case (search_way bytes) Outer u c (word row depths) k n rows

module _ {bytes u : List ℕ} {c row depths : ℕ} where
  module _ {out : Bool} {splits : ℕ} (known : (k : Kind) (n : Node) (rows : List Row) → Child bytes u c row depths k n rows → Known out splits k n (word row depths)) where
    known_ready : {k : Kind} {n : Node} {rows : List Row} → Child bytes u c row depths k n rows → Ready (search_way bytes) (Known out splits) k (n ∷ []) rows u c (word row depths ∷ [])
    known_ready {k} {n} {rows} at = record { proper = at.proper; table = at.table; stand = one_more (known k n rows at) no_more; placed = at.placed; room = at.room }

    pub known_asked : Asked (search_way bytes) Outer u c (word row depths ∷ []) → Asked (search_way bytes) (Known out splits) u c (word row depths ∷ [])
    known_asked a = some_case (search_way bytes) Outer u c (word row depths) a (λ k n rows at. record { kind = k; nodes = n ∷ []; state = rows; ready = known_ready at })

    pub known_walked : {r : ℕ} → Walked (search_way bytes) (Known out splits) u c (word row depths ∷ []) [] r [] → Walked (search_way bytes) Outer u c (word row depths ∷ []) [] r []
    known_walked w = each_case (search_way bytes) Outer u c (word row depths) (λ k n rows at. w.done k (n ∷ []) rows (known_ready at))

  module _ (begins : corner_inside (limits_in u) (node_in row) ≡ true) where
    module _ {out : Bool} (edge : is_out (limits_in u) (node_in row) ≡ out) {k : Kind} {n : Node} {rows : List Row} (at : Child bytes u c row depths k n rows) where
      begins_here : corner_inside k.limits n ≡ true
      begins_here = sym (corner_is at.table at.stands_for) ∙ begins

      edge_here : is_out k.limits n ≡ out
      edge_here = sym (out_is at.table at.stands_for) ∙ edge

      is_known : {splits : ℕ} → rights_of k n ≡ rights_in out splits → Known out splits k n (word row depths)
      is_known rights =
          let o = at.stands_for in
          record { placed = o.placed; here = begins_here; row = o.row; depths = o.depths; edge = edge_here; rights = rights }

    pub out_known : {splits : ℕ} → is_out (limits_in u) (node_in row) ≡ true → splits ≡ out_in u row depths (right_out (limits_in u) (node_in row)) (bottom_out (limits_in u) (node_in row))
        → (k : Kind) (n : Node) (rows : List Row) → Child bytes u c row depths k n rows → Known true splits k n (word row depths)
    out_known out e k n rows at =
        let o = at.stands_for in
        is_known out at (rw (e, right_is at.table o, bottom_is at.table o, at.table) (out_rights at.proper o (begins_here out at) (ap not (edge_here out at))))

    pub in_known : {splits : ℕ} → is_out (limits_in u) (node_in row) ≡ false → splits ≡ inner_in u row depths
        → (k : Kind) (n : Node) (rows : List Row) → Child bytes u c row depths k n rows → Known false splits k n (word row depths)
    in_known within e k n rows at =
        is_known within at (rw (e, at.table) (inside_rights (handed_over at.proper at.stands_for (begins_here within at) (ap not (edge_here within at)))))

-- ---- the decisions that are tried

module _ (bytes : List ℕ) (out : Bool) (splits : ℕ) (u : List ℕ) (c : ℕ) (w : Word) where
  abbrev Here : Kind → Node → List Row → Type 0
  Here k n rows = Ready (search_way bytes) (Known out splits) k (n ∷ []) rows u c (w ∷ [])

module _ {bytes : List ℕ} {out : Bool} {splits : ℕ} {u : List ℕ} {c : ℕ} {w : Word} where
  few : {k : Kind} {n : Node} {rows : List Row} → Here bytes out splits u c w k n rows → given_of c < 2147483648
  few at = let f = at.room.for_flags in omega arith

  module _ {d : Decision} {ds : List Decision} {a : ℕ} (one : Tried bytes out splits u c w (d ∷ []) a) where
    pub tried_first : a < 9223372036854775808 → Tried bytes out splits u c w (d ∷ ds) a
    tried_first h = record { each = λ k n rows at. rw (any_join k n (fit_node k) rows d ds) (first_on bytes c (fit_any k n (fit_node k) rows (d ∷ [])) (fit_any k n (fit_node k) rows ds) (one.each k n rows at) h) }

    module _ (h : 9223372036854775808 ≤ a) {b : ℕ} (others : Tried bytes out splits u c w ds b) where
      pub tried_second : b < 9223372036854775808 → Tried bytes out splits u c w (d ∷ ds) b
      tried_second i = record {
        each = λ k n rows at.
            rw (any_join k n (fit_node k) rows d ds)
            (second_on bytes c (few at) (fit_any k n (fit_node k) rows (d ∷ [])) (fit_any k n (fit_node k) rows ds) (one.each k n rows at) h (others.each k n rows at) i);
      }

      tried_both : 9223372036854775808 ≤ b → Tried bytes out splits u c w (d ∷ ds) (max a b)
      tried_both i = record {
        each = λ k n rows at.
            rw (any_join k n (fit_node k) rows d ds)
            (farther_on bytes c (few at) (fit_any k n (fit_node k) rows (d ∷ [])) (fit_any k n (fit_node k) rows ds) (one.each k n rows at) h (others.each k n rows at) i);
      }

      -- by the greater of both, as the code has found it
      pub tried_farther : 9223372036854775808 ≤ b → {r : ℕ} → r ≡ max a b → Tried bytes out splits u c w (d ∷ ds) r × (9223372036854775808 ≤ r)
      tried_farther i {r} e = (subst (Tried bytes out splits u c w (d ∷ ds)) (sym e) (tried_both i), omega arith)
