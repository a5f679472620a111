-- What the rows decide at a node, from what the code of a walk has found: inside the picture by the marks, out of it by where the node is out.
use Prim.Native.Nat.{ℕ, ◌+◌, ◌*◌, ◌/◌, ◌<◌, ◌≤◌}
use mathlib.Core.Path.{◌≡◌, refl, sym, ap, ap₂, subst, ◌∙◌}
use mathlib.Core.Bool.{Bool, true, false, not, cond}
use mathlib.Core.List.{List}
use native.Mathlib.Decide.{dec_lt}
use native.Mathlib.Nat.{mul-le-mul}
use native.Mathlib.Omega.{arith}
use lib.Dec.{ltb}
use lib.ListN.{length}
use Rattle.sides.proofs.Bools.{clash}
use Rattle.tree.specs.declared.Limits.{Limits}
use Rattle.tree.specs.declared.Node.{Node}
use Rattle.tree.specs.declared.Direction.TheVariants.{Horizontal, Vertical}
use Rattle.tree.specs.declared.Decision.{Decision}
use Rattle.tree.specs.declared.Decision.TheVariants.{Leaf, Quad, Binary, Ternary}
use Rattle.tree.specs.Kind.{Kind}
use Rattle.tree.specs.Splits.{right_out, bottom_out, inside, is_out, rights_of, rights_in, allows}
use Rattle.tree.specs.Children.{corner_inside}
use Rattle.tree.specs.Rows.{Row, row_of, row_at}
use Rattle.tree.specs.Back.{starts_after, at_left, at_top, cut_from, decision_from}
use Rattle.blocks.specs.RowNumbers.{row_word}
use Rattle.laws.specs.Areas.{areas_of}
use Rattle.laws.proofs.Multiples.{fold_least}
use Rattle.laws.proofs.Opens.{binary_open_lem, ternary_open_lem}
use Rattle.nodes.specs.State.{place_of}
use Rattle.nodes.specs.Tables.{table_of, limits_in}
use Rattle.nodes.specs.RowNodes.{node_in, out_in}
use Rattle.walks.specs.Stands.{word, Placed, Inside, Outer}
use Rattle.walks.proofs.AtEdge.{corner_is, right_is, bottom_is, out_is}
use Rattle.walks.proofs.Open.{inside_rights, out_rights}
use Rattle.walks.proofs.RowFields.{fits, row_says, width_says, height_says, area_says}
use Rattle.marks.specs.Table.{rows_left, word_at, Eight}
use Rattle.marks.specs.Marks.{Begins, is_cut, Divided, Read}
use Rattle.back.proofs.Decisions.{own_next_lem, inside_next, out_next}
use Rattle.marks.proofs.NextRows.{next_row}
use Rattle.marks.proofs.RowWords.{same_word, other_word, word_qt}
use Rattle.back.proofs.Turned.{Seen, At, Sees}

-- ---- cuts where M is 0

some_cut_lem : (n : Node) (rows : List Row) → is_cut (cut_from n rows) ≡ true
unfolding cut_from
some_cut_lem n rows = go (starts_after (n.w * n.h / 32) (at_left n) rows) (starts_after (n.w * n.h / 32) (at_top n) rows) (starts_after (n.w * n.h / 64) (at_left n) rows)
  where
    go : (a b c : Bool) → is_cut (cond a (Binary Horizontal) (cond b (Binary Vertical) (cond c (Ternary Horizontal) (Ternary Vertical)))) ≡ true
    go true b c = refl
    go false true c = refl
    go false false true = refl
    go false false false = refl

module _ (k : Kind) {n : Node} (p : Placed k.limits n) (flat : k.limits.maxmtt ≡ 0) where
  -- no depth is below the offset
  shallow : n.mtt < k.limits.maxmtt + n.offset → ⊥
  shallow h = let l = p.lifted in omega arith

  shut : (d : Decision) → is_cut d ≡ true → (b : Bool) → allows (rights_of k n) d ≡ b → b ≡ false
  shut Leaf cut b e = clash cut refl
  shut Quad cut b e = clash cut refl
  shut (Binary d) cut true e = absurd (shallow (binary_open_lem k n d e).deep)
  shut (Binary d) cut false e = refl
  shut (Ternary d) cut true e = absurd (shallow (ternary_open_lem k n d e).deep)
  shut (Ternary d) cut false e = refl

-- ---- what the code has found, and what the definition says

-- they agree, or are both closed
data Agree (k : Kind) (n : Node) (said found : Decision) : Type 0 where
  alike : said ≡ found → Agree k n said found
  closed : allows (rights_of k n) said ≡ false → allows (rights_of k n) found ≡ false → Agree k n said found

-- the cut depends on where the node lies, which its row says
cut_says : {l : Limits} {n : Node} {row : ℕ} → Placed l n → row ≡ row_word (row_of n) → (rows : List Row) → cut_from (node_in row) rows ≡ cut_from n rows
unfolding cut_from node_in
cut_says p is rows = rw ((row_says p is).at_x, (row_says p is).at_y, width_says p is, height_says p is)

qt_says : {l : Limits} {n : Node} {row : ℕ} → Placed l n → row ≡ row_word (row_of n) → (node_in row).qt ≡ n.qt
unfolding node_in
qt_says p is = (row_says p is).at_qt

next_qt : {bytes : List ℕ} {i : ℕ} → Eight bytes i → (node_in (word_at bytes i)).qt ≡ (row_at bytes i).qt
unfolding node_in
next_qt eight = word_qt eight

module _ {bytes : List ℕ} {u : List ℕ} {c row : ℕ} (more : place_of c + 8 ≤ length bytes) (eight : Eight bytes (place_of c)) where
  -- ---- inside the picture

  module _ {bound splits : ℕ} where
    -- its own row is next: a leaf
    pub own_sees : word_at bytes (place_of c) ≡ row → Sees bytes (Inside bound) u c (word row splits) (rights_in false splits) Leaf
    own_sees own = record {
      seen = λ at.
          let s = at.stands_for in
          record { placed = s.placed; here = s.here; decides = own_next_lem _ _ _ _ s.within (same_word eight (fits s.placed) (own ∙ s.row)) };
      rights_of_lem = λ at. inside_rights at.stands_for;
    }

    module _ {marks : List ℕ} (read : Read u bytes marks) (other : ¬ (word_at bytes (place_of c) ≡ row)) {d : Decision} (divides : Divided marks row (word_at bytes (place_of c)) (place_of c) d) where
      module _ {k : Kind} {n : Node} {rows : List Row} (at : At bytes (Inside bound) u c (word row splits) k n rows) where
        s : Inside bound k n (word row splits)
        s = at.stands_for

        abbrev deeper : Bool
        deeper = ltb n.qt (row_at bytes (place_of c)).qt

        says_deeper : ltb (node_in row).qt (node_in (word_at bytes (place_of c))).qt ≡ deeper
        says_deeper = ap₂ ltb (qt_says s.placed s.row) (next_qt eight)

        abbrev said : Decision
        said = decision_from k.limits n (row_at bytes (place_of c)) (rows_left bytes (place_of c / 8 + 1))

        said_is : said ≡ cond deeper Quad (cut_from n rows)
        said_is =
            inside_next k.limits n _ _ s.within (other_word eight (fits s.placed) (λ e. other (e ∙ sym s.row)))
            ∙ ap (λ rs. cond deeper Quad (cut_from n rs)) (sym (next_row at.placed more))

        begins : Begins bytes row (place_of c)
        unfolding areas_of node_in
        begins =
            let r = row_says s.placed s.row in
            let w = fold_least (s.placed.good.shape.side Vertical).fold in
            let h = fold_least (s.placed.good.shape.side Horizontal).fold in
            let x = s.placed.right in
            let y = s.placed.bottom in
            let a = at.room.for_rows in
            let z = area_says s.placed s.row in
            let i = r.at_x in
            let j = r.at_y in
            let least = mul-le-mul w h in
            record { there = more; within = omega arith; left = omega arith; top = omega arith }

        -- by the marks
        marked_same : ¬ (k.limits.maxmtt ≡ 0) → said ≡ d
        unfolding table_of
        marked_same cuts =
            let f = divides.found bytes (read.marked (λ z. cuts (subst (λ t. (limits_in t).maxmtt ≡ 0) at.table z))) begins in
            said_is ∙ ap₂ (λ b e. cond b Quad e) (sym says_deeper) (sym (cut_says s.placed s.row rows) ∙ ap (cut_from (node_in row)) at.placed.from) ∙ sym f

        -- without marks, where every cut is closed
        flat_agree : k.limits.maxmtt ≡ 0 → (b : Bool) → deeper ≡ b → Agree k n said d
        flat_agree flat true e = alike (said_is ∙ ap (λ b. cond b Quad (cut_from n rows)) e ∙ sym (divides.deeper (says_deeper ∙ e)))
        flat_agree flat false e =
            let cut : said ≡ cut_from n rows = said_is ∙ ap (λ b. cond b Quad (cut_from n rows)) e in
            closed (shut k s.placed flat said (ap (λ x. is_cut x) cut ∙ some_cut_lem n rows) _ refl) (shut k s.placed flat d (divides.flat (says_deeper ∙ e)) _ refl)

        agree : Agree k n said d
        agree = go (dec_lt 0 k.limits.maxmtt)
          where
            go : Dec (0 < k.limits.maxmtt) → Agree k n said d
            go (yes h) = alike (marked_same (λ z. omega arith))
            go (no h) = flat_agree (omega arith) deeper refl

        seen_as : (e : Decision) → said ≡ e → Seen k n bytes (place_of c) e
        seen_as e is = record { placed = s.placed; here = s.here; decides = is }

      -- what is allowed is what the rows decide
      pub split_sees : allows (rights_in false splits) d ≡ true → Sees bytes (Inside bound) u c (word row splits) (rights_in false splits) d
      split_sees ok = record {
        seen = λ {k} {n} at. open_seen at (agree at) (ap (λ r. allows r d) (inside_rights at.stands_for) ∙ ok);
        rights_of_lem = λ at. inside_rights at.stands_for;
      }
        where
          open_seen : {k : Kind} {n : Node} {rows : List Row} (at : At bytes (Inside bound) u c (word row splits) k n rows) → Agree k n (said at) d → allows (rights_of k n) d ≡ true → Seen k n bytes (place_of c) d
          open_seen at (alike e) ok = seen_as at d e
          open_seen at (closed e f) ok = clash ok f

      -- and where it is not allowed, what they decide is not
      pub split_shut : allows (rights_in false splits) d ≡ false → (k : Kind) (n : Node) (rows : List Row) → At bytes (Inside bound) u c (word row splits) k n rows
          → (e : Decision) × Seen k n bytes (place_of c) e × (allows (rights_of k n) e ≡ false)
      split_shut not-ok k n rows at = (said at, seen_as at (said at) refl, go (agree at))
        where
          go : Agree k n (said at) d → allows (rights_of k n) (said at) ≡ false
          go (alike e) = ap (allows (rights_of k n)) e ∙ ap (λ r. allows r d) (inside_rights at.stands_for) ∙ not-ok
          go (closed e f) = e

  -- ---- out of the picture

  module _ {depths : ℕ} (begins : corner_inside (limits_in u) (node_in row) ≡ true) (out : is_out (limits_in u) (node_in row) ≡ true) where
    pub out_sees : {d : Decision} → d ≡ cond (ltb (node_in row).qt (node_in (word_at bytes (place_of c))).qt) Quad (cond (bottom_out (limits_in u) (node_in row)) (Binary Horizontal) (Binary Vertical))
        → Sees bytes Outer u c (word row depths) (rights_in true (out_in u row depths (right_out (limits_in u) (node_in row)) (bottom_out (limits_in u) (node_in row)))) d
    out_sees {d} e = record { seen = λ at. seen_out at; rights_of_lem = λ at. rights_out at }
      where
        is_out_lem : {k : Kind} {n : Node} {rows : List Row} → At bytes Outer u c (word row depths) k n rows → inside k.limits n ≡ false
        is_out_lem at = ap not (sym (out_is at.table at.stands_for) ∙ out)

        seen_out : {k : Kind} {n : Node} {rows : List Row} → At bytes Outer u c (word row depths) k n rows → Seen k n bytes (place_of c) d
        seen_out {k} {n} at =
            let o = at.stands_for in
            record {
              placed = o.placed;
              here = sym (corner_is at.table o) ∙ begins;
              decides =
                  out_next k.limits n _ _ (is_out_lem at)
                  ∙ ap₂ (λ deeper bottom. cond deeper Quad (cond bottom (Binary Horizontal) (Binary Vertical))) (sym (ap₂ ltb (qt_says o.placed o.row) (next_qt eight))) (sym (bottom_is at.table o))
                  ∙ sym e;
            }

        rights_out : {k : Kind} {n : Node} {rows : List Row} → At bytes Outer u c (word row depths) k n rows
            → rights_of k n ≡ rights_in true (out_in u row depths (right_out (limits_in u) (node_in row)) (bottom_out (limits_in u) (node_in row)))
        rights_out at =
            let o = at.stands_for in
            rw (right_is at.table o, bottom_is at.table o, at.table) (out_rights at.proper o (sym (corner_is at.table o) ∙ begins) (is_out_lem at))
