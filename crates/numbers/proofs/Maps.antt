-- The map of a unit and the rows coded so far agree on every sample of the unit, and on the others the unit's rows say nothing.
use Prim.Native.Nat.{ℕ, ◌+◌, ◌-◌, ◌*◌, ◌/◌, ◌%◌, ◌<◌}
use mathlib.Core.Path.{◌≡◌, refl, sym, ap, ◌∙◌}
use mathlib.Core.Bool.{Bool, true, false, cond}
use mathlib.Core.List.{List, ◌∷◌}
use lib.ListN.{length, get_or, length-replicate, get_or-replicate}
use borrow.Author.Tests.{ne_eqb, eq-eqb}
use native.Mathlib.Omega.{arith}
use native.Mathlib.Decide.{ℕ_discrete}
use Rattle.settings.specs.declared.Square.{Square}
use Rattle.tree.specs.declared.Node.{Node}
use Rattle.tree.specs.declared.Direction.{Direction}
use Rattle.tree.specs.declared.Direction.TheVariants.{Horizontal, Vertical}
use Rattle.tree.specs.Rows.{Row}
use Rattle.numbers.specs.Numbers.{unavailable}
use Rattle.numbers.specs.Standard.{holds, seen, seen_at, standard}
use Rattle.numbers.specs.Map.{changed, Cell, no_cell, cell_of, empty_map, cell_at, filled}
use Rattle.numbers.specs.Store.{cell_told, column_told, line_told, stored}
use Rattle.numbers.proofs.Changed.{changed_length, changed_at}
use Rattle.numbers.proofs.Places.{OnCells, In, Spot, spot_corner, Stone, holds_cell, holds_in}

-- ---- one row more

seen_hit : (d : Direction) (px py : ℕ) (r : Row) (rows : List Row) → holds r px py ≡ true → seen_at d px py (r ∷ rows) ≡ seen d r
unfolding seen_at
seen_hit d px py r rows h = rw h

seen_miss : (d : Direction) (px py : ℕ) (r : Row) (rows : List Row) → holds r px py ≡ false → seen_at d px py (r ∷ rows) ≡ seen_at d px py rows
unfolding seen_at
seen_miss d px py r rows h = rw h

-- a row's cell tells what is seen of the row
cell_told_lem : {q : Square} {r : Row} → Stone q r → (d : Direction) → cell_told d (cell_of r) ≡ seen d r
cell_told_lem {r = r} s Horizontal = let h = s.some Horizontal in rw (ne_eqb r.eh 0 (λ e. omega arith))
cell_told_lem {r = r} s Vertical = let h = s.some Vertical in rw (ne_eqb r.ew 0 (λ e. omega arith))

-- a cell's number has its place
cell_place : (right down : ℕ) → right < 32 → ((0 + (32 * down + right)) % 32 ≡ right) × ((0 + (32 * down + right)) / 32 ≡ down)
cell_place right down h = (omega arith, omega arith)

-- ---- the map and the rows

module _ (q : Square) (o : OnCells q) (earlier : List Row) where
  -- rows so far, the unit's and those before it, and the unit's map
  pub record Agree (done : List Row) (map : List Cell) : Type 0 where
    pub long : length map ≡ 1024
    pub inner : (d : Direction) (px py : ℕ) → In q px py → cell_told d (cell_at map ((px - q.x) / 4) ((py - q.y) / 4)) ≡ seen_at d px py done
    pub outer : (d : Direction) (px py : ℕ) → ¬ (In q px py) → seen_at d px py done ≡ seen_at d px py earlier

  pub agree_first : ((d : Direction) (px py : ℕ) → In q px py → seen_at d px py earlier ≡ unavailable) → Agree earlier empty_map
  unfolding empty_map
  agree_first fresh = record {
    long = length-replicate 1024 no_cell;
    inner = λ d px py i.
        let m = o.most in
        let e = get_or-replicate 1024 (32 * ((py - q.y) / 4) + (px - q.x) / 4) no_cell no_cell (omega arith) in
        rw e (nothing d ∙ sym (fresh d px py i));
    outer = λ d px py i. refl;
  }
    where
      nothing : (d : Direction) → cell_told d no_cell ≡ unavailable
      nothing Horizontal = refl
      nothing Vertical = refl

  module _ (r : Row) (s : Stone q r) (done : List Row) (map : List Cell) (g : Agree done map) where
    -- the cell of a sample after one row more
    cell_after : (px py : ℕ) → In q px py
        → cell_at (changed (filled q r) 0 map) ((px - q.x) / 4) ((py - q.y) / 4) ≡ cond (holds r px py) (cell_of r) (cell_at map ((px - q.x) / 4) ((py - q.y) / 4))
    cell_after px py i =
        let m = o.most in
        let l = g.long in
        let a = o.x.is in
        let b = o.y.is in
        let c = 32 * ((py - q.y) / 4) + (px - q.x) / 4 in
        let e = cell_place ((px - q.x) / 4) ((py - q.y) / 4) (omega arith) in
        let right : px / 4 ≡ (q.x + 4 * ((0 + c) % 32)) / 4 = rw e.0 (omega arith) in
        let down : py / 4 ≡ (q.y + 4 * ((0 + c) / 32)) / 4 = rw e.1 (omega arith) in
        changed_at (filled q r) 0 map c no_cell (omega arith)
        ∙ ap (λ t. cond t (cell_of r) (get_or map c no_cell)) (sym (holds_cell s px py (q.x + 4 * ((0 + c) % 32)) (q.y + 4 * ((0 + c) / 32)) right down))

    pub agree_next : Agree (r ∷ done) (changed (filled q r) 0 map)
    agree_next = record {
      long = changed_length (filled q r) 0 map ∙ g.long;
      inner = λ d px py i. ap (cell_told d) (cell_after px py i) ∙ either d px py i (holds r px py) refl;
      outer = λ d px py i. seen_miss d px py r done (misses px py i (holds r px py) refl) ∙ g.outer d px py i;
    }
      where
        either : (d : Direction) (px py : ℕ) → In q px py → (b : Bool) → holds r px py ≡ b
            → cell_told d (cond b (cell_of r) (cell_at map ((px - q.x) / 4) ((py - q.y) / 4))) ≡ seen_at d px py (r ∷ done)
        either d px py i true h = cell_told_lem s d ∙ sym (seen_hit d px py r done h)
        either d px py i false h = g.inner d px py i ∙ sym (seen_miss d px py r done h)

        misses : (px py : ℕ) → ¬ (In q px py) → (b : Bool) → holds r px py ≡ b → b ≡ false
        misses px py i true h = absurd (i (holds_in s px py h))
        misses px py i false h = refl

  -- ---- the neighbours of a node

  module _ (width : ℕ) (store : List ℕ) (n : Node) (s : Spot q n) (done : List Row) (map : List Cell) (g : Agree done map) where
    -- above: in the store's columns what the rows before the unit show
    pub same_above : (0 < q.y → column_told store (n.x / 4) ≡ seen_at Vertical n.x (q.y - 1) earlier)
        → standard.above done n.x n.y ≡ (stored width q store).above map n.x n.y
    same_above top = go (ℕ_discrete n.y 0) (ℕ_discrete n.y q.y)
      where
        go : Dec (n.y ≡ 0) → Dec (n.y ≡ q.y) → standard.above done n.x n.y ≡ (stored width q store).above map n.x n.y
        go (yes z) _ = rw (eq-eqb n.y 0 z)
        go (no z) (yes e) =
            rw (ne_eqb n.y 0 z, eq-eqb n.y q.y e)
            (ap (λ y. seen_at Vertical n.x (y - 1) done) e ∙ g.outer Vertical n.x (q.y - 1) (λ i. omega arith) ∙ sym (top (omega arith)))
        go (no z) (no e) =
            let i = spot_corner s in
            let y = i.down in
            let b = (s.grid.at Horizontal).is in
            let c = o.y.is in
            let j : (n.y - 1 - q.y) / 4 ≡ (n.y - q.y) / 4 - 1 = omega arith in
            rw (ne_eqb n.y 0 z, ne_eqb n.y q.y e, ← j)
            (sym (g.inner Vertical n.x (n.y - 1) (record { across = i.across; down = record { low = omega arith; high = omega arith } })))

    -- to the left: in the store's last 64 bytes
    pub same_left : (0 < q.x → line_told width store ((n.y - q.y) / 4) ≡ seen_at Horizontal (q.x - 1) n.y earlier)
        → standard.left done n.x n.y ≡ (stored width q store).left map n.x n.y
    same_left side = go (ℕ_discrete n.x 0) (ℕ_discrete n.x q.x)
      where
        go : Dec (n.x ≡ 0) → Dec (n.x ≡ q.x) → standard.left done n.x n.y ≡ (stored width q store).left map n.x n.y
        go (yes z) _ = rw (eq-eqb n.x 0 z)
        go (no z) (yes e) =
            rw (ne_eqb n.x 0 z, eq-eqb n.x q.x e)
            (ap (λ x. seen_at Horizontal (x - 1) n.y done) e ∙ g.outer Horizontal (q.x - 1) n.y (λ i. omega arith) ∙ sym (side (omega arith)))
        go (no z) (no e) =
            let i = spot_corner s in
            let x = i.across in
            let a = (s.grid.at Vertical).is in
            let c = o.x.is in
            let j : (n.x - 1 - q.x) / 4 ≡ (n.x - q.x) / 4 - 1 = omega arith in
            rw (ne_eqb n.x 0 z, ne_eqb n.x q.x e, ← j)
            (sym (g.inner Horizontal (n.x - 1) n.y (record { across = record { low = omega arith; high = omega arith }; down = i.down })))
