-- Every node of a coding tree has the samples along its top and its left side in rows coded before, as far as they lie in the root and in the picture.
use Prim.Native.Nat.{ℕ, ◌+◌, ◌-◌, ◌*◌, ◌≤◌, ◌<◌}
use mathlib.Core.Path.{◌≡◌, sym, ap, ◌∙◌}
use mathlib.Core.Logic.{◌⊎◌, inl, inr}
use mathlib.Core.Bool.{true, false}
use mathlib.Core.List.{List, [], ◌∷◌, ◌++◌, append-nil}
use borrow.Author.Tests.{lt-ltb}
use native.Mathlib.Omega.{arith}
use native.Mathlib.Decide.{dec_lt}
use Rattle.sides.proofs.Bools.{clash, and_intro}
use Rattle.tree.specs.declared.Limits.{Limits}
use Rattle.tree.specs.declared.Node.{Node}
use Rattle.tree.specs.declared.Direction.TheVariants.{Horizontal, Vertical}
use Rattle.tree.specs.declared.Decision.{Decision}
use Rattle.tree.specs.declared.Decision.TheVariants.{Leaf, Quad, Binary, Ternary}
use Rattle.tree.specs.Kind.{Kind}
use Rattle.tree.specs.Splits.{rights_of, allows}
use Rattle.tree.specs.Children.{share, shares, child, children_from, children, corner_inside}
use Rattle.tree.specs.Rows.{Row, own_rows}
use Rattle.tree.specs.Tree.{Trees, Tree, none, skip, node, rows_of}
use Rattle.laws.specs.Every.{Every, every_none, every_more}
use Rattle.laws.specs.Geometry.{rectangle, copies}
use Rattle.laws.specs.Proper.{Proper}
use Rattle.laws.specs.Shape.{Shape}
use Rattle.laws.proofs.Cover.{span_before, covered}
use Rattle.laws.proofs.Multiples.{fold_least}
use Rattle.laws.proofs.Picture.{starts_in}
use Rattle.laws.proofs.Rectangles.{rectangle_in}
use Rattle.laws.proofs.Shape.{side_four, shape_kids}
use Rattle.numbers.specs.Walk.{put_all}
use Rattle.numbers.specs.Standard.{standard}
use Rattle.numbers.specs.Order.{AtNodes, Behind}
use Rattle.numbers.proofs.Counts.{copies_put}

-- how often a sample is covered, and with a node's rectangle besides
abbrev Cover : Type 0
Cover = ℕ → ℕ → ℕ

abbrev grown : Cover → Node → Cover
grown K n px py = K px py + rectangle n.x n.y n.w n.h px py

module _ (x0 y0 : ℕ) (l : Limits) where
  -- the samples along the top and the left side of a node that lie past the origin and in the picture are covered
  pub record Ready (K : Cover) (n : Node) : Type 0 where
    pub top : (px : ℕ) → n.x ≤ px → px < n.x + n.w → px < l.width → y0 < n.y → n.y - 1 < l.height → 0 < K px (n.y - 1)
    pub left : (py : ℕ) → n.y ≤ py → py < n.y + n.h → py < l.height → x0 < n.x → n.x - 1 < l.width → 0 < K (n.x - 1) py

  -- of nodes one after the other, where each covers its rectangle
  unfoldable pub ReadyAll : Cover → List Node → Type 0
  ReadyAll K [] = Unit {0}
  ReadyAll K (n ∷ ns) = Ready K n × ReadyAll (grown K n) ns

  -- ---- more samples covered

  -- in the picture
  abbrev More : Cover → Cover → Type 0
  More K M = (px py : ℕ) → px < l.width → py < l.height → K px py ≤ M px py

  ready_more : (K M : Cover) → More K M → (n : Node) → Ready K n → Ready M n
  ready_more K M h n r = record {
    top = λ px a b c d e. let i = r.top px a b c d e in let j = h px (n.y - 1) c e in omega arith;
    left = λ py a b c d e. let i = r.left py a b c d e in let j = h (n.x - 1) py e c in omega arith;
  }

  all_more : (K M : Cover) → More K M → (ns : List Node) → ReadyAll K ns → ReadyAll M ns
  unfolding ReadyAll
  all_more K M h [] r = tt
  all_more K M h (n ∷ ns) r =
      (ready_more K M h n r.0, all_more (grown K n) (grown M n) (λ px py a b. let i = h px py a b in omega arith) ns r.1)

  -- ---- the children

  module _ (n : Node) (a b : ℕ) (wide : n.w ≡ 4 * a) (high : n.h ≡ 4 * b) (someA : 0 < a) (someB : 0 < b) (K : Cover) (r : Ready K n) where
    -- a part lies in the node
    abbrev Lies : Node → Type 0
    Lies c = (n.x ≤ c.x) × (n.y ≤ c.y) × (c.x + c.w ≤ n.x + n.w) × (c.y + c.h ≤ n.y + n.h)

    -- its top side lies on the node's, or in a part p that is covered; so does its left side
    abbrev Top : Cover → Node → Type 0
    Top M c =
        (c.y ≡ n.y)
        ⊎ ((p : Node) × ((p.x ≤ c.x) × (c.x + c.w ≤ p.x + p.w) × (p.y < c.y) × (c.y ≤ p.y + p.h)) × ((px py : ℕ) → rectangle p.x p.y p.w p.h px py ≤ M px py))

    abbrev Left : Cover → Node → Type 0
    Left M c =
        (c.x ≡ n.x)
        ⊎ ((p : Node) × ((p.y ≤ c.y) × (c.y + c.h ≤ p.y + p.h) × (p.x < c.x) × (c.x ≤ p.x + p.w)) × ((px py : ℕ) → rectangle p.x p.y p.w p.h px py ≤ M px py))

    part_ready : (M : Cover) → ((px py : ℕ) → K px py ≤ M px py) → (c : Node) → Lies c → Top M c → Left M c → Ready M c
    part_ready M more c lies up side = record { top = from_top up; left = from_left side }
      where
        from_top : Top M c → (px : ℕ) → c.x ≤ px → px < c.x + c.w → px < l.width → y0 < c.y → c.y - 1 < l.height → 0 < M px (c.y - 1)
        from_top (inl e) px d f g o h = rw e (let i = r.top px (omega arith) (omega arith) g (omega arith) (omega arith) in let j = more px (n.y - 1) in omega arith)
        from_top (inr (p, q, m)) px d f g o h =
            let e = rectangle_in p.x p.y p.w p.h px (c.y - 1) (record { low = omega arith; high = omega arith }) (record { low = omega arith; high = omega arith }) in
            let j = m px (c.y - 1) in
            omega arith

        from_left : Left M c → (py : ℕ) → c.y ≤ py → py < c.y + c.h → py < l.height → x0 < c.x → c.x - 1 < l.width → 0 < M (c.x - 1) py
        from_left (inl e) py d f g o h = rw e (let i = r.left py (omega arith) (omega arith) g (omega arith) (omega arith) in let j = more (n.x - 1) py in omega arith)
        from_left (inr (p, q, m)) py d f g o h =
            let e = rectangle_in p.x p.y p.w p.h (c.x - 1) py (record { low = omega arith; high = omega arith }) (record { low = omega arith; high = omega arith }) in
            let j = m (c.x - 1) py in
            omega arith

    -- a part by its share
    abbrev piece : Decision → ℕ → ℕ → ℕ → ℕ → ℕ → Node
    piece d x y w h part = child l n d (share x y w h part)

    ready_kids : (d : Decision) → ReadyAll K (children l n d)
    unfolding ReadyAll children children_from shares child
    ready_kids Leaf = tt
    ready_kids Quad =
        let c0 = piece Quad 0 0 2 2 0 in
        let c1 = piece Quad 2 0 2 2 1 in
        let c2 = piece Quad 0 2 2 2 2 in
        let c3 = piece Quad 2 2 2 2 3 in
        let r0 = part_ready K (λ px py. omega arith) c0 (omega arith) (inl (omega arith)) (inl (omega arith)) in
        let r1 = part_ready (grown K c0) (λ px py. omega arith) c1 (omega arith) (inl (omega arith)) (inr (c0, omega arith, λ px py. omega arith)) in
        let r2 = part_ready (grown (grown K c0) c1) (λ px py. omega arith) c2 (omega arith) (inr (c0, omega arith, λ px py. omega arith)) (inl (omega arith)) in
        let r3 = part_ready (grown (grown (grown K c0) c1) c2) (λ px py. omega arith) c3 (omega arith) (inr (c1, omega arith, λ px py. omega arith)) (inr (c2, omega arith, λ px py. omega arith)) in
        (r0, (r1, (r2, (r3, tt))))
    ready_kids (Binary Horizontal) =
        let c0 = piece (Binary Horizontal) 0 0 4 2 0 in
        let c1 = piece (Binary Horizontal) 0 2 4 2 1 in
        let r0 = part_ready K (λ px py. omega arith) c0 (omega arith) (inl (omega arith)) (inl (omega arith)) in
        let r1 = part_ready (grown K c0) (λ px py. omega arith) c1 (omega arith) (inr (c0, omega arith, λ px py. omega arith)) (inl (omega arith)) in
        (r0, (r1, tt))
    ready_kids (Binary Vertical) =
        let c0 = piece (Binary Vertical) 0 0 2 4 0 in
        let c1 = piece (Binary Vertical) 2 0 2 4 1 in
        let r0 = part_ready K (λ px py. omega arith) c0 (omega arith) (inl (omega arith)) (inl (omega arith)) in
        let r1 = part_ready (grown K c0) (λ px py. omega arith) c1 (omega arith) (inl (omega arith)) (inr (c0, omega arith, λ px py. omega arith)) in
        (r0, (r1, tt))
    ready_kids (Ternary Horizontal) =
        let c0 = piece (Ternary Horizontal) 0 0 4 1 0 in
        let c1 = piece (Ternary Horizontal) 0 1 4 2 1 in
        let c2 = piece (Ternary Horizontal) 0 3 4 1 2 in
        let r0 = part_ready K (λ px py. omega arith) c0 (omega arith) (inl (omega arith)) (inl (omega arith)) in
        let r1 = part_ready (grown K c0) (λ px py. omega arith) c1 (omega arith) (inr (c0, omega arith, λ px py. omega arith)) (inl (omega arith)) in
        let r2 = part_ready (grown (grown K c0) c1) (λ px py. omega arith) c2 (omega arith) (inr (c1, omega arith, λ px py. omega arith)) (inl (omega arith)) in
        (r0, (r1, (r2, tt)))
    ready_kids (Ternary Vertical) =
        let c0 = piece (Ternary Vertical) 0 0 1 4 0 in
        let c1 = piece (Ternary Vertical) 1 0 2 4 1 in
        let c2 = piece (Ternary Vertical) 3 0 1 4 2 in
        let r0 = part_ready K (λ px py. omega arith) c0 (omega arith) (inl (omega arith)) (inl (omega arith)) in
        let r1 = part_ready (grown K c0) (λ px py. omega arith) c1 (omega arith) (inl (omega arith)) (inr (c0, omega arith, λ px py. omega arith)) in
        let r2 = part_ready (grown (grown K c0) c1) (λ px py. omega arith) c2 (omega arith) (inl (omega arith)) (inr (c1, omega arith, λ px py. omega arith)) in
        (r0, (r1, (r2, tt)))

-- ---- coding trees

-- a node whose corner is outside the picture has no sample in it
out_empty : (l : Limits) (n : Node) → corner_inside l n ≡ false → (px py : ℕ) → px < l.width → py < l.height → rectangle n.x n.y n.w n.h px py ≡ 0
unfolding corner_inside
out_empty l n out px py x y = go (dec_lt px n.x) (dec_lt py n.y)
  where
    go : Dec (px < n.x) → Dec (py < n.y) → rectangle n.x n.y n.w n.h px py ≡ 0
    go (yes a) _ = rw (span_before n.x n.w px a) (omega arith)
    go (no a) (yes b) = rw (span_before n.y n.h py b) (omega arith)
    go (no a) (no b) = clash (and_intro _ _ (lt-ltb n.x l.width (omega arith)) (lt-ltb n.y l.height (omega arith))) out

-- how often rows contain a sample
abbrev pub count_of : List Row → Cover
count_of rows px py = copies px py rows

module _ {k : Kind} (v : Proper k) where
  -- the rows of a node cover its samples in the picture
  node_covers : {n : Node} → Shape n → (d : Decision) (here : corner_inside k.limits n ≡ true) (ok : allows (rights_of k n) d ≡ true) (kids : Trees k (children k.limits n d)) (px py : ℕ)
      → px < k.limits.width → py < k.limits.height → copies px py (own_rows n d ++ rows_of kids) ≡ rectangle n.x n.y n.w n.h px py
  unfolding rows_of
  node_covers {n} sh d here ok kids px py x y =
      let e = covered v sh (node {ns = []} d here ok kids none) px py in
      let i = rectangle_in 0 0 k.limits.width k.limits.height px py (record { low = omega arith; high = omega arith }) (record { low = omega arith; high = omega arith }) in
      ap (copies px py) (sym (append-nil (own_rows n d ++ rows_of kids))) ∙ e ∙ rw i (omega arith)

  module _ (x0 y0 : ℕ) where
    ready_behind : {n : Node} → Shape n → corner_inside k.limits n ≡ true → (done : List Row) → Ready x0 y0 k.limits (count_of done) n → Behind x0 y0 n done
    ready_behind {n} sh here done r =
        let x = starts_in k n here Vertical in
        let y = starts_in k n here Horizontal in
        let w = fold_least (sh.side Vertical).fold in
        let h = fold_least (sh.side Horizontal).fold in
        record {
          above = λ o. r.top n.x (omega arith) (omega arith) x o (omega arith);
          left = λ o. r.left n.y (omega arith) (omega arith) y o (omega arith);
        }

    -- the children follow each other so that each finds its top and left side covered
    kids_ready : {n : Node} → Shape n → (done : List Row) → Ready x0 y0 k.limits (count_of done) n → (d : Decision) → ReadyAll x0 y0 k.limits (count_of done) (children k.limits n d)
    kids_ready {n} sh done r d =
        let w = side_four (sh.side Vertical) in
        let h = side_four (sh.side Horizontal) in
        let x = fold_least (sh.side Vertical).fold in
        let y = fold_least (sh.side Horizontal).fold in
        let e = w.is in
        let f = h.is in
        ready_kids x0 y0 k.limits n w.times h.times e f (omega arith) (omega arith) (count_of done) r d

    pub all_behind : {ns : List Node} (t : Trees k ns) → Every Shape ns → (done : List Row) → ReadyAll x0 y0 k.limits (count_of done) ns → AtNodes standard (Behind x0 y0) t done
    unfolding AtNodes ReadyAll
    all_behind none shs done r = tt
    all_behind (skip {n = n} {ns = ns} out rest) (every_more sh shs) done r =
        all_behind rest shs done
        (all_more x0 y0 k.limits (grown (count_of done) n) (count_of done) (λ px py x y. let e = out_empty k.limits n out px py x y in omega arith) ns r.1)
    all_behind (node {n = n} {ns = ns} d here ok kids rest) (every_more sh shs) done r = (
      ready_behind sh here done r.0,
      all_behind kids (shape_kids v sh d ok) done
          (kids_ready sh done r.0 d),
      all_behind rest shs (put_all standard (own_rows n d ++ rows_of kids) done)
          (all_more x0 y0 k.limits (grown (count_of done) n) (count_of (put_all standard (own_rows n d ++ rows_of kids) done)) (λ px py x y.
          let e = node_covers sh d here ok kids px py x y in
          let f = copies_put px py (own_rows n d ++ rows_of kids) done in
          omega arith) ns r.1),
    )

  -- in one tree: what lies in the root
  pub tree_behind : {n : Node} → Shape n → (t : Tree k n) → AtNodes standard (Behind n.x n.y) t []
  unfolding ReadyAll
  tree_behind {n} sh t = all_behind n.x n.y t (every_more sh every_none) [] (
    record {
      top = λ px a b c d e. absurd (omega arith);
      left = λ py a b c d e. absurd (omega arith);
    },
    tt,
  )
