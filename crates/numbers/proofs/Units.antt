-- The units of a picture, one after the other: no sample is coded twice, and what lies above and to the left of a unit's nodes is coded before them.
use Prim.Native.Nat.{ℕ, ◌+◌, ◌-◌, ◌*◌, ◌/◌, ◌%◌, ◌≤◌, ◌<◌}
use mathlib.Core.Path.{◌≡◌, refl, sym, ap, ◌∙◌}
use mathlib.Core.List.{List, []}
use native.Mathlib.Omega.{arith}
use native.Mathlib.Decide.{ℕ_discrete, dec_lt}
use native.Mathlib.Nat.{div-add-mod', mod-lt}
use Rattle.settings.specs.declared.Settings.{Settings}
use Rattle.settings.specs.declared.Square.{Square}
use Rattle.settings.specs.Checks.{settings_refusal}
use Rattle.settings.specs.Units.{units_over, square_in, unit_count, unit_refusal}
use Rattle.settings.proofs.Grid.{units_some, gridded, unit_taken}
use Rattle.settings.proofs.Passed.{passed}
use Rattle.tree.specs.declared.Direction.{Direction}
use Rattle.tree.specs.declared.Direction.TheVariants.{Horizontal, Vertical}
use Rattle.tree.specs.Rows.{Row}
use Rattle.tree.specs.Tree.{rows_of}
use Rattle.laws.specs.Directions.{extent}
use Rattle.laws.specs.Every.{every_none, every_more}
use Rattle.laws.specs.Geometry.{rectangle, copies}
use Rattle.laws.specs.Multiples.{Multiple}
use Rattle.laws.proofs.Cover.{covered}
use Rattle.laws.proofs.Grids.{four_grain, picture, root_at_lem, root_grid}
use Rattle.laws.proofs.Multiples.{fold_least, trans_multiple}
use Rattle.laws.proofs.Rectangles.{rectangle_in, in_rectangle, rectangle_most}
use Rattle.laws.proofs.Shape.{side_four}
use Rattle.unit.specs.Luma.{limits_of, kind_of, root_at, units_of}
use Rattle.unit.specs.Exactly.{UnitTree}
use Rattle.unit.proofs.Luma.{luma_sound}
use Rattle.unit.proofs.Roots.{Root}
use Rattle.unit.proofs.Sound.{root_of_lem}
use Rattle.numbers.specs.Walk.{put_all}
use Rattle.numbers.specs.Standard.{standard}
use Rattle.numbers.specs.Order.{AtNodes, Behind}
use Rattle.numbers.proofs.Digits.{one_length, some_of, length_before, one_row, one_place}
use Rattle.numbers.proofs.Places.{OnCells, In, Spot}
use Rattle.numbers.proofs.Counts.{copies_put}
use Rattle.numbers.proofs.Borders.{Ready, ReadyAll, count_of, all_behind}

-- ---- the squares of the units

-- the units across, and the square of the unit i to the right and j down
abbrev pub across : Settings → ℕ
across s = units_over s.ctu s.width

abbrev pub square_of : Settings → ℕ → ℕ → Square
square_of s i j = record { x = i * s.ctu; y = j * s.ctu; side = s.ctu }

-- the square of a later unit
pub other_square : (s : Settings) (a i j : ℕ) → a + 1 ≤ j * across s + i → (px py : ℕ) → In (square_of s i j) px py → ¬ (In (square_of s (a % across s) (a / across s)) px py)
other_square s a i j h px py at o =
    let x = one_length s.ctu i (a % across s) px at.across.low at.across.high o.across.low o.across.high in
    let y = one_length s.ctu j (a / across s) py at.down.low at.down.high o.down.low o.down.high in
    let e = div-add-mod' a (across s) in
    let f : j * across s + i ≡ a / across s * across s + a % across s = rw (x, y) in
    omega arith

-- ---- the root of a unit

module _ (s : Settings) (a : ℕ) (there : unit_refusal s a ≡ 0) where
  abbrev pub q : Square
  q = square_of s (a % across s) (a / across s)

  pub root : Root (kind_of s) (root_at s a)
  root = root_of_lem (luma_sound s) a there

  pub some_across : 0 < across s
  some_across = let g = gridded (passed s (unit_taken (settings_refusal s) (unit_count s) a there).0) in units_some g g.wide.0

  pub four : Multiple 4 s.ctu
  unfolding square_in
  four = side_four (root.good.shape.side Vertical)

  pub least : 4 ≤ s.ctu
  unfolding square_in
  least = fold_least (root.good.shape.side Vertical).fold

  pub on_cells : OnCells q
  unfolding square_in
  on_cells = record {
    x = trans_multiple four (root_at_lem root.square Vertical);
    y = trans_multiple four (root_at_lem root.square Horizontal);
    side = four;
    most = root.square.most;
  }

  pub root_spot : Spot q (root_at s a)
  unfolding square_in
  root_spot = record {
    shape = root.good.shape;
    grid = root_grid root.square 2 refl least;
    inner = record { starts = λ e. omega arith; ends = λ e. omega arith };
  }

  -- the picture's sides are multiples of 4
  pub picture_fours : (e : Direction) → Multiple 4 (extent e (limits_of s))
  picture_fours e = trans_multiple (four_grain root.valid) (picture root.valid e)

-- ---- how often the samples are covered before the unit at an address

pub record Counted (s : Settings) (a : ℕ) (done : List Row) : Type 0 where
  pub once : (px py : ℕ) → copies px py done ≤ 1
  pub past : (i j : ℕ) → i < across s → j * across s + i < a → (px py : ℕ) → In (square_of s i j) px py → px < s.width → py < s.height → 0 < copies px py done
  pub ahead : (i j : ℕ) → i < across s → a ≤ j * across s + i → (px py : ℕ) → In (square_of s i j) px py → copies px py done ≡ 0

pub counted_first : (s : Settings) → Counted s 0 []
unfolding copies
counted_first s = record {
  once = λ px py. omega arith;
  past = λ i j k h px py at w v. absurd (omega arith);
  ahead = λ i j k h px py at. refl;
}

-- ---- one unit

module _ (s : Settings) (a : ℕ) (there : unit_refusal s a ≡ 0) (t : UnitTree (units_of s) a) (done : List Row) (c : Counted s a done) where
  abbrev here : Square
  here = q s a there

  abbrev after : List Row
  after = put_all standard (rows_of t) done

  -- 1 for a sample of the unit's square
  abbrev in_unit : ℕ → ℕ → ℕ
  in_unit px py = rectangle here.x here.y here.side here.side px py

  count : (px py : ℕ) → copies px py after ≡ in_unit px py * rectangle 0 0 s.width s.height px py + copies px py done
  unfolding square_in
  count px py = copies_put px py (rows_of t) done ∙ ap (λ m. m + copies px py done) (covered (root s a there).valid (root s a there).good.shape t px py)

  -- a sample of the unit, and any other
  unit_in : (px py : ℕ) → In here px py → in_unit px py ≡ 1
  unit_in px py i = rectangle_in here.x here.y here.side here.side px py i.across i.down

  in_unit_lem : (px py : ℕ) → 0 < in_unit px py → In here px py
  in_unit_lem px py some = let b = in_rectangle here.x here.y here.side here.side px py some in record { across = b.0; down = b.1 }

  count_in_lem : (px py : ℕ) → In here px py → px < s.width → py < s.height → copies px py after ≡ 1 + copies px py done
  count_in_lem px py i w h =
      let e = rectangle_in 0 0 s.width s.height px py (record { low = omega arith; high = omega arith }) (record { low = omega arith; high = omega arith }) in
      count px py ∙ rw (unit_in px py i, e) (omega arith)

  count_none : (px py : ℕ) → ¬ (0 < in_unit px py) → copies px py after ≡ copies px py done
  count_none px py none = let z : in_unit px py ≡ 0 = omega arith in count px py ∙ rw z (omega arith)

  count_out : (px py : ℕ) → ¬ (In here px py) → copies px py after ≡ copies px py done
  count_out px py out = count_none px py (λ some. out (in_unit_lem px py some))

  once_next : (px py : ℕ) → copies px py after ≤ 1
  once_next px py = go (dec_lt 0 (in_unit px py))
    where
      go : Dec (0 < in_unit px py) → copies px py after ≤ 1
      go (yes some) =
          let i = in_unit_lem px py some in
          let m = rectangle_most 0 0 s.width s.height px py in
          let d = div-add-mod' a (across s) in
          let z = c.ahead (a % across s) (a / across s) (mod-lt a (some_across s a there)) (omega arith) px py i in
          rw (count px py, unit_in px py i, z) (omega arith)
      go (no none) = let e = count_none px py none in let h = c.once px py in omega arith

  past_next : (i j : ℕ) → i < across s → j * across s + i < a + 1 → (px py : ℕ) → In (square_of s i j) px py → px < s.width → py < s.height → 0 < copies px py after
  past_next i j h l px py at w v = go (ℕ_discrete (j * across s + i) a)
    where
      go : Dec (j * across s + i ≡ a) → 0 < copies px py after
      go (yes e) =
          let f = e ∙ sym (div-add-mod' a (across s)) in
          let k = mod-lt a (some_across s a there) in
          let x = one_place (across s) i j (a % across s) (a / across s) h k f in
          let y = one_row (across s) i j (a % across s) (a / across s) h k f in
          let n = count_in_lem px py (rw (x, y) at at) w v in
          omega arith
      go (no e) = let n = c.past i j h (omega arith) px py at w v in let m = count px py in omega arith

  pub counted_next : Counted s (a + 1) after
  counted_next = record {
    once = once_next;
    past = past_next;
    ahead = λ i j h l px py at. count_out px py (other_square s a i j l px py at) ∙ c.ahead i j h (omega arith) px py at;
  }

  -- ---- what lies before it

  root_ready : Ready 0 0 (kind_of s).limits (count_of done) (root_at s a)
  unfolding square_in
  root_ready = record {
    top = λ px low high w o v.
        let b = length_before s.ctu (a / across s) (some_of s.ctu (a / across s) o) in
        let m = length_before (across s) (a / across s) (some_of s.ctu (a / across s) o) in
        let d = div-add-mod' a (across s) in
        let k = mod-lt a (some_across s a there) in
        let e = least s a there in
        c.past (a % across s) (a / across s - 1) k (omega arith) px (here.y - 1)
        (record { across = record { low = low; high = high }; down = record { low = omega arith; high = omega arith } }) w v;
    left = λ py low high v o w.
        let p = some_of s.ctu (a % across s) o in
        let b = length_before s.ctu (a % across s) p in
        let d = div-add-mod' a (across s) in
        let k = mod-lt a (some_across s a there) in
        let e = least s a there in
        c.past (a % across s - 1) (a / across s) (omega arith) (omega arith) (here.x - 1) py
        (record { across = record { low = omega arith; high = omega arith }; down = record { low = low; high = high } }) w v;
  }

  pub unit_behind : AtNodes standard (Behind 0 0) t done
  unfolding ReadyAll
  unit_behind = all_behind (root s a there).valid 0 0 t (every_more (root s a there).good.shape every_none) done (root_ready, tt)
