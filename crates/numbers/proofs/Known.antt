-- What the line store holds before each unit, and the contexts of one unit with it.
use Prim.Native.Nat.{ℕ, ◌+◌, ◌-◌, ◌*◌, ◌/◌, ◌%◌, ◌≤◌, ◌<◌, min}
use mathlib.Core.Path.{◌≡◌, sym, ap, ap₂, ◌∙◌}
use mathlib.Core.List.{List, []}
use lib.ListN.{length}
use native.Mathlib.Omega.{arith}
use native.Mathlib.Decide.{ℕ_discrete}
use native.Mathlib.Nat.{div-add-mod', mod-lt, mul-le-mul_right, zero-mod}
use Rattle.settings.specs.declared.Settings.{Settings}
use Rattle.settings.specs.declared.Square.{Square}
use Rattle.settings.specs.Units.{square_in, unit_refusal}
use Rattle.tree.specs.declared.Direction.{Direction}
use Rattle.tree.specs.declared.Direction.TheVariants.{Horizontal, Vertical}
use Rattle.tree.specs.Rows.{Row}
use Rattle.tree.specs.Tree.{rows_of}
use Rattle.laws.specs.Every.{every_none, every_more}
use Rattle.laws.specs.Multiples.{Multiple}
use Rattle.laws.proofs.Picture.{starts_in}
use Rattle.unit.specs.Luma.{kind_of, root_at, units_of}
use Rattle.unit.specs.Exactly.{UnitTree}
use Rattle.numbers.specs.Numbers.{unavailable}
use Rattle.numbers.specs.Walk.{Finder, put_all, contexts_of}
use Rattle.numbers.specs.Standard.{seen_at, standard}
use Rattle.numbers.specs.Map.{Cell, empty_map, cell_at}
use Rattle.numbers.specs.Store.{cell_told, column_told, line_told, stored}
use Rattle.numbers.specs.StoreAfter.{lines_in, store_after, Edges}
use Rattle.numbers.proofs.Digits.{one_length, one_place, next_row, next_place, same_row, some_of, last_cell}
use Rattle.numbers.proofs.Places.{OnCells, In, Spot, spot_corner, spot_kids, spot_leaf, Stone}
use Rattle.numbers.proofs.Counts.{seen_none}
use Rattle.numbers.proofs.Maps.{Agree, agree_first, agree_next, same_above, same_left}
use Rattle.numbers.proofs.Same.{keep_tree, same_contexts}
use Rattle.numbers.proofs.Lines.{after_long, own_column, other_column, own_line}
use Rattle.numbers.proofs.Units.{across, square_of, root, some_across, four, least, on_cells, root_spot, picture_fours, Counted}

-- ---- what the store holds before the unit at an address

-- Of the next units across the picture, one in each column of units, the columns hold what stands above them; and the lines hold
-- what stands to the left of the next one.
pub record Known (s : Settings) (a : ℕ) (store : List ℕ) (done : List Row) : Type 0 where
  pub long : length store ≡ s.width / 2 + 64
  pub columns : (i j : ℕ) → i < across s → a ≤ j * across s + i → j * across s + i < a + across s → 0 < j * s.ctu → j * s.ctu < s.height
      → (px : ℕ) → i * s.ctu ≤ px → px < i * s.ctu + s.ctu → px < s.width → column_told store (px / 4) ≡ seen_at Vertical px (j * s.ctu - 1) done
  pub lines : 0 < a % across s * s.ctu → a % across s * s.ctu < s.width
      → (py : ℕ) → a / across s * s.ctu ≤ py → py < a / across s * s.ctu + s.ctu → py < s.height
      → line_told s.width store ((py - a / across s * s.ctu) / 4) ≡ seen_at Horizontal (a % across s * s.ctu - 1) py done

-- whatever a store holds, it is right before the first unit
pub known_first : (s : Settings) (store : List ℕ) → length store ≡ s.width / 2 + 64 → Known s 0 store []
known_first s store h = record {
  long = h;
  columns = λ i j k l m n o px a b c. absurd (first i j m n);
  lines = λ n m py a b c. absurd (let z = zero-mod (across s) in let e : 0 % across s * s.ctu ≡ 0 = rw z (omega arith) in omega arith);
}
  where
    first : (i j : ℕ) → j * across s + i < 0 + across s → 0 < j * s.ctu → ⊥
    first i j m n = go (ℕ_discrete j 0)
      where
        go : Dec (j ≡ 0) → ⊥
        go (yes z) = let e : j * s.ctu ≡ 0 = rw z (omega arith) in omega arith
        go (no z) = let l : 1 ≤ j = omega arith in let u = mul-le-mul_right (across s) l in omega arith

-- ---- one unit

module _ (s : Settings) (a : ℕ) (there : unit_refusal s a ≡ 0) (t : UnitTree (units_of s) a) where
  abbrev q : Square
  q = square_of s (a % across s) (a / across s)

  abbrev cells : OnCells q
  cells = on_cells s a there

  module _ (store : List ℕ) (done : List Row) (known : Known s a store done) (c : Counted s a done) where
    abbrev way : Finder (List Cell)
    way = stored s.width q store

    unit_fresh : (d : Direction) (px py : ℕ) → In q px py → seen_at d px py done ≡ unavailable
    unit_fresh d px py i =
        let e = div-add-mod' a (across s) in
        seen_none px py d done (c.ahead (a % across s) (a / across s) (mod-lt a (some_across s a there)) (omega arith) px py i)

    begins : Agree q cells done done empty_map
    begins = agree_first q cells done unit_fresh

    abbrev done_after : List Row
    done_after = put_all standard (rows_of t) done

    abbrev map_after : List Cell
    map_after = put_all way (rows_of t) empty_map

    -- ---- its contexts

    -- the store's columns at the unit's top row
    top_told : (px : ℕ) → q.x ≤ px → px < q.x + q.side → px < s.width → 0 < q.y → column_told store (px / 4) ≡ seen_at Vertical px (q.y - 1) done
    unfolding square_in
    top_told px low high inside pos =
        let e = div-add-mod' a (across s) in
        let u = (some_across s a there) in
        known.columns (a % across s) (a / across s) (mod-lt a (some_across s a there)) (omega arith) (omega arith) pos (starts_in (kind_of s) (root_at s a) (root s a there).here Horizontal) px low high inside

    -- its lines at the left column
    side_told : (py : ℕ) → q.y ≤ py → py < q.y + q.side → py < s.height → 0 < q.x → line_told s.width store ((py - q.y) / 4) ≡ seen_at Horizontal (q.x - 1) py done
    unfolding square_in
    side_told py low high inside pos = known.lines pos (starts_in (kind_of s) (root_at s a) (root s a there).here Vertical) py low high inside

    pub unit_contexts : contexts_of standard t done ≡ contexts_of way t empty_map
    unit_contexts =
        same_contexts standard way (Agree q cells done) (kind_of s) {P = Spot q} {Q = Stone q} (spot_kids (root s a there).valid q) (spot_leaf (root s a there).valid q)
        (λ r stone rows map g. agree_next q cells done r stone rows map g)
        (λ n spot here rows map g.
        let i = (spot_corner spot).across in
        same_above q cells done s.width store n spot rows map g (top_told n.x i.low i.high (starts_in (kind_of s) n here Vertical)))
        (λ n spot here rows map g.
        let i = (spot_corner spot).down in
        same_left q cells done s.width store n spot rows map g (side_told n.y i.low i.high (starts_in (kind_of s) n here Horizontal)))
        t (every_more (root_spot s a there) every_none) done empty_map begins

    -- ---- the store after it

    ends : Agree q cells done done_after map_after
    ends =
        keep_tree standard way (Agree q cells done) (kind_of s) {P = Spot q} {Q = Stone q} (spot_kids (root s a there).valid q) (spot_leaf (root s a there).valid q)
        (λ r stone rows map g. agree_next q cells done r stone rows map g) t (every_more (root_spot s a there) every_none) done empty_map begins

    abbrev store_next : List ℕ
    store_next = store_after s.width s.height q map_after store

    wide : Multiple 4 s.width
    wide = picture_fours s a there Vertical

    tall : Multiple 4 s.height
    tall = picture_fours s a there Horizontal

    pub unit_edges : Edges s.width s.height q store_next done_after
    unfolding square_in
    unit_edges = record {
      columns = λ px low high inside.
          let p = cells.x.is in
          let y = starts_in (kind_of s) (root_at s a) (root s a there).here Horizontal in
          let l = least s a there in
          let at : In q px (min (q.y + q.side) s.height - 1) = record { across = record { low = low; high = high }; down = record { low = omega arith; high = omega arith } } in
          let right : px / 4 - q.x / 4 ≡ (px - q.x) / 4 = omega arith in
          let down = last_cell s.ctu q.y s.height (four s a there) cells.y tall y in
          own_column s.width s.height wide q cells map_after store known.long px inside low high
          ∙ ap₂ (λ x y. cell_told Vertical (cell_at map_after x y)) right down ∙ ends.inner Vertical px (min (q.y + q.side) s.height - 1) at;
      lines = λ py low high inside.
          let p = cells.y.is in
          let c = (four s a there).is in
          let t = tall.is in
          let x = starts_in (kind_of s) (root_at s a) (root s a there).here Vertical in
          let l = least s a there in
          let at : In q (min (q.x + q.side) s.width - 1) py = record { across = record { low = omega arith; high = omega arith }; down = record { low = low; high = high } } in
          let few : (py - q.y) / 4 < lines_in s.height q = omega arith in
          let column = last_cell s.ctu q.x s.width (four s a there) cells.x wide x in
          own_line s.width s.height wide q cells map_after store known.long ((py - q.y) / 4) few
          ∙ ap (λ x. cell_told Horizontal (cell_at map_after x ((py - q.y) / 4))) column ∙ ends.inner Horizontal (min (q.x + q.side) s.width - 1) py at;
    }

    columns_next : (i j : ℕ) → i < across s → a + 1 ≤ j * across s + i → j * across s + i < a + 1 + across s → 0 < j * s.ctu → j * s.ctu < s.height
        → (px : ℕ) → i * s.ctu ≤ px → px < i * s.ctu + s.ctu → px < s.width → column_told store_next (px / 4) ≡ seen_at Vertical px (j * s.ctu - 1) done_after
    columns_next i j h l m pos below px low high inside = go (ℕ_discrete i (a % across s))
      where
        go : Dec (i ≡ a % across s) → column_told store_next (px / 4) ≡ seen_at Vertical px (j * s.ctu - 1) done_after
        go (yes same) =
            let e = div-add-mod' a (across s) in
            let next = next_row (across s) (a % across s) j (a / across s) (omega arith) (omega arith) in
            let x : i * s.ctu ≡ q.x = rw same in
            let y : j * s.ctu ≡ q.y + q.side = rw next (omega arith) in
            let bottom : min (q.y + q.side) s.height ≡ j * s.ctu = omega arith in
            rw bottom at (unit_edges.columns px (omega arith) (omega arith) inside)
        go (no differ) =
            let e = div-add-mod' a (across s) in
            let o : q.x ≤ px → px < q.x + q.side → ⊥ = λ a b. differ (one_length s.ctu i _ px low high a b) in
            let last = ℕ_discrete (j * across s + i) (a + across s) in
            other_column s.width s.height wide q cells map_after store known.long px inside o
            ∙ known.columns i j h (omega arith) (short last) pos below px low high inside ∙ sym (ends.outer Vertical px (j * s.ctu - 1) (λ w. o w.across.low w.across.high))
          where
            short : Dec (j * across s + i ≡ a + across s) → j * across s + i < a + across s
            short (yes is) =
                let e = div-add-mod' a (across s) in
                let f : j * across s + i ≡ (a / across s + 1) * across s + a % across s = omega arith in
                absurd (differ (one_place (across s) i j (a % across s) (a / across s + 1) h (mod-lt a (some_across s a there)) f))
            short (no is) = omega arith

    lines_next : 0 < (a + 1) % across s * s.ctu → (a + 1) % across s * s.ctu < s.width
        → (py : ℕ) → (a + 1) / across s * s.ctu ≤ py → py < (a + 1) / across s * s.ctu + s.ctu → py < s.height
        → line_told s.width store_next ((py - (a + 1) / across s * s.ctu) / 4) ≡ seen_at Horizontal ((a + 1) % across s * s.ctu - 1) py done_after
    lines_next pos right py low high inside =
        let p = some_of s.ctu ((a + 1) % across s) pos in
        let x : (a + 1) % across s * s.ctu ≡ q.x + q.side = rw (next_place (across s) (some_across s a there) a p) (omega arith) in
        let y : (a + 1) / across s * s.ctu ≡ q.y = rw (same_row (across s) (some_across s a there) a p) in
        let end : min (q.x + q.side) s.width ≡ (a + 1) % across s * s.ctu = omega arith in
        rw y (rw end at (unit_edges.lines py (omega arith) (omega arith) inside))

    pub known_next : Known s (a + 1) store_next done_after
    known_next = record {
      long = after_long s.width s.height wide q cells map_after store known.long;
      columns = columns_next;
      lines = lines_next;
    }
