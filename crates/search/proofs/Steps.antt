-- What a child and a node of the search answer, by the next row.
use Prim.Native.Nat.{ℕ, suc, ◌+◌, ◌/◌, ◌%◌, ◌^◌, ◌≤◌, ◌<◌}
use mathlib.Core.Path.{◌≡◌, refl, sym, ap, ap₂, subst, ◌∙◌}
use mathlib.Core.Bool.{Bool, true, false, not, cond, ◌&&◌}
use mathlib.Core.List.{List, [], ◌∷◌}
use native.Mathlib.Omega.{arith}
use borrow.Author.Tests.{lt-ltb, le-ltb, eq-eqb, ne_eqb}
use lib.Dec.{ltb, eqb}
use lib.ListN.{length}
use Rattle.tree.specs.declared.Node.{Node}
use Rattle.tree.specs.declared.Direction.TheVariants.{Horizontal, Vertical}
use Rattle.tree.specs.declared.Decision.{Decision}
use Rattle.tree.specs.declared.Decision.TheVariants.{Leaf, Quad}
use Rattle.tree.specs.Kind.{Kind}
use Rattle.tree.specs.Splits.{allows}
use Rattle.tree.specs.Children.{corner_inside}
use Rattle.tree.specs.Rows.{Row, row_of, row_at}
use Rattle.tree.specs.Back.{is_same_row}
use Rattle.tree.specs.Search.{whole, stuck, fit_any, cuts, fit_node}
use Rattle.laws.proofs.Runs.{over_one}
use Rattle.laws.proofs.Shown.{Starts, shown, node_none, node_pruned, fit_shown}
use Rattle.laws.proofs.Tries.{any_leaf}
use Rattle.nodes.specs.State.{refusal, place_of}
use Rattle.nodes.specs.Tables.{limits_in}
use Rattle.nodes.specs.RowNodes.{node_in}
use Rattle.walks.specs.Stands.{Word, word, Outer, no_more, one_more}
use Rattle.walks.specs.Walks.{Asked, Walked}
use Rattle.walks.proofs.AtEdge.{corner_is}
use Rattle.walks.proofs.One.{Case, some_case, each_case}
use Rattle.walks.proofs.RowFields.{fits, row_says}
use Rattle.marks.specs.Table.{rows_left, word_at, Eight, Left}
use Rattle.marks.proofs.NextRows.{no_row, next_row, after_row}
use Rattle.marks.proofs.RowWords.{word_corner, word_qt, word_mtt, word_tests}
use Rattle.search.specs.Walking.{search_way, Known, Tried}
use Rattle.search.proofs.Answers.{Answers, stuck_here, goes_here}

-- the decisions that a row shows, by the tests of the code
shown_by : (n : Node) (r : Row) {deeper level : Bool} → ltb n.qt r.qt ≡ deeper → eqb r.mtt n.mtt ≡ level → shown n r ≡ cond deeper (Quad ∷ []) (cond level (Leaf ∷ []) cuts)
unfolding shown
shown_by n r e f = rw (e, f)

and_swap : (a b : Bool) → (a && b) ≡ (b && a)
and_swap true true = refl
and_swap true false = refl
and_swap false true = refl
and_swap false false = refl

-- ---- the next row

-- what the search at every node that the numbers may stand for answers, its walk answers
walked_as : {bytes : List ℕ} {stands : Kind → Node → Word → Type 0} {u : List ℕ} {c : ℕ} {w : Word} {r : ℕ}
    → ((k : Kind) (n : Node) (rows : List Row) → Case (search_way bytes) stands u c w k n rows → (corner_inside k.limits n ≡ true) × Answers bytes c r (fit_node k n rows))
    → Walked (search_way bytes) stands u c (w ∷ []) [] r []
walked_as {bytes} {stands} {u} {c} {w} f = each_case (search_way bytes) stands u c w (λ k n rows x.
    let h = f k n rows x in
    rw (over_one k (λ n t. (search_way bytes).go k n t) n rows h.0) h.1)

-- a row is next at a state, with this number
pub record Ahead (bytes : List ℕ) (c next : ℕ) : Type 0 where
  pub more : place_of c + 8 ≤ length bytes
  pub next_is : next ≡ word_at bytes (place_of c)
  pub eight : Eight bytes (place_of c)

module _ {bytes : List ℕ} {stands : Kind → Node → Word → Type 0} {u : List ℕ} {c : ℕ} {w : Word} (asked : Asked (search_way bytes) stands u c (w ∷ [])) (whole_rows : length bytes % 8 ≡ 0) {at : ℕ} (place : at ≡ place_of c) (there : at < length bytes) where
  pub row_there : at + 8 ≤ length bytes
  row_there = some_case (search_way bytes) stands u c w asked (λ k n rows x. let f = x.placed.first in omega arith)

  pub row_ahead : {next : ℕ} → (next ≡ word_at bytes at) × Eight bytes at → Ahead bytes c next
  row_ahead is = record {
    more = subst (λ (i : ℕ). i + 8 ≤ length bytes) place row_there;
    next_is = is.0 ∙ ap (word_at bytes) place;
    eight = subst (λ (i : ℕ). Eight bytes i) place is.1;
  }

-- the row itself, and the rows after it
abbrev ahead : List ℕ → ℕ → Row
ahead bytes c = row_at bytes (place_of c)

abbrev after : List ℕ → ℕ → List Row
after bytes c = rows_left bytes (place_of c / 8 + 1)

-- ---- a child

module _ {bytes u : List ℕ} {c row depths : ℕ} (begins : corner_inside (limits_in u) (node_in row) ≡ true) {at : ℕ} (place : at ≡ place_of c) {r : ℕ} (e : r ≡ refusal (16 % 32) (at / 8 % 288230376151711744)) where
  -- no row is left
  pub child_ended : length bytes ≤ at → Walked (search_way bytes) Outer u c (word row depths ∷ []) [] r []
  child_ended h = walked_as (λ k n rows x.
      let o = x.stands_for in
      let here = sym (corner_is x.table o) ∙ begins in
      let none = no_row x.placed (omega arith) in
      (here, stuck_here bytes c x.placed place e (ap (fit_node k n) none ∙ node_none x.proper o.placed.good here o.placed.sum ∙ ap (λ rs. stuck (length rs)) (sym none))))

  -- the next row starts elsewhere
  pub child_elsewhere : {next : ℕ} → Ahead bytes c next → ¬ (next % 4294967296 ≡ row % 4294967296) → Walked (search_way bytes) Outer u c (word row depths ∷ []) [] r []
  child_elsewhere {next} p other = walked_as (λ k n rows x.
      let o = x.stands_for in
      let here = sym (corner_is x.table o) ∙ begins in
      let are = next_row x.placed p.more in
      let none = node_pruned x.proper o.placed.good here o.placed.sum (ahead bytes c) (after bytes c) (λ st. other (same_corner o st)) in
      (here, stuck_here bytes c x.placed place e (ap (fit_node k n) are ∙ none ∙ ap (λ rs. stuck (length rs)) (sym are))))
    where
      same_corner : {k : Kind} {n : Node} → Outer k n (word row depths) → Starts n n.qt n.mtt (ahead bytes c) → next % 4294967296 ≡ row % 4294967296
      same_corner o st =
          let a = row_says o.placed o.row in
          let ax = a.at_x in
          let ay = a.at_y in
          let w = word_corner p.eight in
          let v = st.at Vertical in
          let h = st.at Horizontal in
          ap (λ (i : ℕ). i % 4294967296) p.next_is ∙ omega arith

-- ---- a node whose open splits are known

-- the QT depth of the next row is not above the node's; its MTT depth, and the node's
pub record Level (row next x y : ℕ) : Type 0 where
  pub flat : next / 281474976710656 % 256 ≤ row / 281474976710656 % 256
  pub x_is : x ≡ next / 72057594037927936 % 256
  pub y_is : y ≡ row / 72057594037927936 % 256

abbrev Named : List ℕ → List ℕ → ℕ → ℕ → ℕ → Bool → ℕ → Kind → Node → List Row → Type 0
Named bytes u c row depths out splits k n rows = Case (search_way bytes) (Known out splits) u c (word row depths) k n rows

module _ {bytes u : List ℕ} {c row depths : ℕ} {out : Bool} {splits next : ℕ} (p : Ahead bytes c next) where
  module _ {k : Kind} {n : Node} {rows : List Row} (x : Named bytes u c row depths out splits k n rows) where
    s : Known out splits k n (word row depths)
    s = x.stands_for

    rows_are : rows ≡ ahead bytes c ∷ after bytes c
    rows_are = next_row x.placed p.more

    -- the search, by what the next row shows
    by_shown : (ds : List Decision) → shown n (ahead bytes c) ≡ ds → fit_node k n rows ≡ fit_any k n (fit_node k) rows ds
    by_shown ds e =
        ap (fit_node k n) rows_are ∙ fit_shown x.proper s.placed.good s.here s.placed.sum (ahead bytes c) (after bytes c)
        ∙ ap₂ (λ rs es. fit_any k n (fit_node k) rs es) (sym rows_are) e

    -- the depths as numbers
    qt_own : row / 281474976710656 % 256 ≡ n.qt
    qt_own = (row_says s.placed s.row).at_qt

    qt_next : next / 281474976710656 % 256 ≡ (ahead bytes c).qt
    qt_next = ap (λ (i : ℕ). i / 281474976710656 % 256) p.next_is ∙ word_qt p.eight

    mtt_own : row / 72057594037927936 % 256 ≡ n.mtt
    mtt_own = (row_says s.placed s.row).at_mtt

    mtt_next : next / 72057594037927936 % 256 ≡ (ahead bytes c).mtt
    mtt_next = ap (λ (i : ℕ). i / 72057594037927936 % 256) p.next_is ∙ word_mtt p.eight

  -- from the decisions that it shows
  tried_node : (ds : List Decision) → ((k : Kind) (n : Node) (rows : List Row) → Named bytes u c row depths out splits k n rows → shown n (ahead bytes c) ≡ ds)
      → {r : ℕ} → Tried bytes out splits u c (word row depths) ds r → Walked (search_way bytes) (Known out splits) u c (word row depths ∷ []) [] r []
  tried_node ds shows tried = walked_as (λ k n rows x. (
    x.stands_for.here,
    rw (by_shown x ds (shows k n rows x))
        (tried.each k n rows (record { proper = x.proper; table = x.table; stand = one_more x.stands_for no_more; placed = x.placed; room = x.room })),
  ))

  -- a quad split
  pub node_quad : {a b : ℕ} → a ≡ row / 281474976710656 % 256 → b ≡ next / 281474976710656 % 256 → a < b
      → {r : ℕ} → Tried bytes out splits u c (word row depths) (Quad ∷ []) r → Walked (search_way bytes) (Known out splits) u c (word row depths ∷ []) [] r []
  node_quad a-is b-is h = tried_node (Quad ∷ []) (λ k n rows x.
      let o = qt_own x in
      let t = qt_next x in
      shown_by n (ahead bytes c) (lt-ltb n.qt (ahead bytes c).qt (omega arith)) refl)

  module _ {x y : ℕ} (l : Level row next x y) where
    shows_flat : {k : Kind} {n : Node} {rows : List Row} → Named bytes u c row depths out splits k n rows → (t : Bool) → eqb x y ≡ t → shown n (ahead bytes c) ≡ cond t (Leaf ∷ []) cuts
    shows_flat {n = n} z t e =
        let o = qt_own z in
        let q = qt_next z in
        let f = l.flat in
        shown_by n (ahead bytes c) (le-ltb n.qt (ahead bytes c).qt (omega arith)) (sym (ap₂ eqb (l.x_is ∙ mtt_next z) (l.y_is ∙ mtt_own z)) ∙ e)

    -- a cut
    pub node_cut : ¬ (x ≡ y) → {r : ℕ} → Tried bytes out splits u c (word row depths) cuts r → Walked (search_way bytes) (Known out splits) u c (word row depths ∷ []) [] r []
    node_cut differ = tried_node cuts (λ k n rows z. shows_flat z false (ne_eqb x y differ))

    -- a leaf
    module _ (same : x ≡ y) where
      leaf_fit : {k : Kind} {n : Node} {rows : List Row} → Named bytes u c row depths out splits k n rows → (t : Bool) → (eqb next row && not out) ≡ t
          → fit_node k n rows ≡ cond t (whole (after bytes c)) (stuck (length rows))
      leaf_fit {k} {n} {rows} z t e =
          by_shown z (Leaf ∷ []) (shows_flat z true (eq-eqb x y same)) ∙ ap (λ rs. fit_any k n (fit_node k) rs (Leaf ∷ [])) (rows_are z)
          ∙ any_leaf k n (fit_node k) (ahead bytes c) (after bytes c)
          ∙ ap₂ (λ a b. cond (a && b) (whole (after bytes c)) (stuck (suc (length (after bytes c))))) (ap (λ r. allows r Leaf) (s z).rights) own
          ∙ ap₂ (λ b l. cond b (whole (after bytes c)) (stuck l)) (and_swap (not out) (eqb next row) ∙ e) (sym (ap length (rows_are z)))
        where
          own : is_same_row (ahead bytes c) (row_of n) ≡ eqb next row
          own = sym (word_tests p.eight (fits (s z).placed)) ∙ sym (ap₂ eqb p.next_is (s z).row)

      pub node_leaf : (eqb next row && not out) ≡ true → {r : ℕ} → r ≡ (c + 8) % 2 ^ 64 → Walked (search_way bytes) (Known out splits) u c (word row depths ∷ []) [] r []
      node_leaf own {r} e = walked_as (λ k n rows z.
          let f = z.room.for_flags in
          let b = z.room.for_rows in
          let first = z.placed.first in
          (z.stands_for.here, goes_here bytes c (omega arith) (subst (λ (q : ℕ). Left bytes q (after bytes c)) (let q : place_of c + 8 ≡ place_of r = omega arith in q) (after_row z.placed p.more)) (leaf_fit z true own)))

      pub node_other : (eqb next row && not out) ≡ false → {at : ℕ} → at ≡ place_of c → {r : ℕ} → r ≡ refusal (16 % 32) (at / 8 % 288230376151711744)
          → Walked (search_way bytes) (Known out splits) u c (word row depths ∷ []) [] r []
      node_other differ place e = walked_as (λ k n rows z. (z.stands_for.here, stuck_here bytes c z.placed place e (leaf_fit z false differ)))
