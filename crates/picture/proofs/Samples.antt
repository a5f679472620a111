-- The units tile the picture: each of its samples lies in the square of one unit.
use Prim.Native.Nat.{ℕ, ◌+◌, ◌*◌, ◌/◌, ◌%◌, ◌<◌, ◌≤◌}
use mathlib.Core.Path.{◌≡◌, refl, sym, ap, ap₂, ◌∙◌}
use mathlib.Core.Bool.{true, ◌&&◌}
use native.Mathlib.Omega.{arith}
use native.Mathlib.Decide.{dec_lt, ℕ_discrete}
use native.Mathlib.Nat.{div-add-mod', mul-le-mul_right, le-div_iff_mul-le, lt-div-mul-add, div-mul-le_self, mul-add-mod_self_right, mod-eq_of_lt, mul-add-div_right, div-eq_of_lt}
use lib.Dec.{leb, ltb, eqb}
use borrow.Author.Tests.{eq-eqb, ne_eqb, lt-ltb, le-ltb, ltb-true, le-leb, lt-leb}
use Rattle.sides.proofs.Bools.{and_left, and_right, and_intro}
use Rattle.settings.specs.Units.{units_over, count_in, square_in, Gridded}
use Rattle.settings.specs.declared.Square.{Square}
use Rattle.settings.proofs.Grid.{corner_x, corner_y}
use Rattle.sessions.specs.Samples.{in_square, is_sample}
use Rattle.sessions.proofs.Tiling.{Tiling}

-- the units side by side, c samples wide: the one that holds p
in_side : (c j p : ℕ) → 0 < c → (leb (j * c) p && ltb p (j * c + c)) ≡ eqb j (p / c)
in_side c j p h = go (dec_lt j (p / c)) (dec_lt (p / c) j)
  where
    low : p / c * c ≤ p
    low = div-mul-le_self p c

    up : p < p / c * c + c
    up = lt-div-mul-add h

    go : Dec (j < p / c) → Dec (p / c < j) → (leb (j * c) p && ltb p (j * c + c)) ≡ eqb j (p / c)
    go (yes a) d =
        let u = mul-le-mul_right c a in
        let l = low in
        rw (le-leb (j * c) p (omega arith), le-ltb p (j * c + c) (omega arith), ne_eqb j (p / c) (λ e. omega arith))
    go (no a) (yes b) =
        let u = mul-le-mul_right c b in
        let l = up in
        rw (lt-leb (j * c) p (omega arith), ne_eqb j (p / c) (λ e. omega arith))
    go (no a) (no b) =
        let e : j ≡ p / c = omega arith in
        rw (e, eq-eqb (p / c) (p / c) refl, le-leb (p / c * c) p low, lt-ltb p (p / c * c + c) up)

-- two digits are those of the number that they make
digits : (m k x y : ℕ) → 0 < m → x < m → (eqb (k % m) x && eqb (k / m) y) ≡ eqb k (y * m + x)
digits m k x y h l = go (ℕ_discrete (k % m) x) (ℕ_discrete (k / m) y)
  where
    rem : k ≡ y * m + x → k % m ≡ x
    rem q = ap (λ i. i % m) q ∙ mul-add-mod_self_right y m x ∙ mod-eq_of_lt l

    quo : k ≡ y * m + x → k / m ≡ y
    quo q = ap (λ i. i / m) q ∙ mul-add-div_right h y x ∙ (let z = div-eq_of_lt l in omega arith)

    go : Dec (k % m ≡ x) → Dec (k / m ≡ y) → (eqb (k % m) x && eqb (k / m) y) ≡ eqb k (y * m + x)
    go (yes a) (yes b) =
        let f : k ≡ y * m + x = sym (div-add-mod' k m) ∙ ap₂ (λ i j. i * m + j) b a in
        rw (eq-eqb (k % m) x a, eq-eqb (k / m) y b, eq-eqb k (y * m + x) f)
    go (no a) d = rw (ne_eqb (k % m) x a, ne_eqb k (y * m + x) (λ q. a (rem q)))
    go (yes a) (no b) = rw (eq-eqb (k % m) x a, ne_eqb (k / m) y b, ne_eqb k (y * m + x) (λ q. b (quo q)))

-- a sample before the end is in one of the units over it
one_of_them : (c n p : ℕ) → 0 < c → p < n → p / c < units_over c n
unfolding units_over
one_of_them c n p h l = let a = div-mul-le_self p c in (le-div_iff_mul-le h).1 (omega arith)

-- the address of the unit that holds a sample
unfoldable unit_of : (side width px py : ℕ) → ℕ
unit_of side width px py = py / side * units_over side width + px / side

module _ (side width height : ℕ) (some : 0 < side) (px py : ℕ) (inX : px < width) where
  -- a unit's square holds the sample exactly where the unit has this address
  in_square_lem : (a : ℕ) → in_square (square_in side width a) px py ≡ eqb a (unit_of side width px py)
  unfolding square_in unit_of
  in_square_lem a =
      let across = units_over side width in
      let c = one_of_them side width px some inX in
      rw (in_side side (a % across) px some, in_side side (a / across) py some) (digits across a (px / side) (py / side) (omega arith) c)

  -- which is one of the picture's
  unit_there : py < height → unit_of side width px py < count_in side width height
  unfolding unit_of count_in
  unit_there inY =
      let c = one_of_them side width px some inX in
      let r = one_of_them side height py some inY in
      let u = mul-le-mul_right (units_over side width) r in
      omega arith

-- ---- so the squares tile the picture

module _ {side width height : ℕ} (g : Gridded side width height) where
  some : 0 < side
  some = let l = g.least in omega arith

  in_width : (px py : ℕ) → is_sample width height px py ≡ true → px < width
  in_width px py h = ltb-true px width (and_left (ltb px width) _ h)

  in_height : (px py : ℕ) → is_sample width height px py ≡ true → py < height
  in_height px py h = ltb-true py height (and_right (ltb px width) _ h)

  own_corner : (q : Square) → 0 < q.side → in_square q q.x q.y ≡ true
  own_corner q h =
      let own : (n : ℕ) → (leb n n && ltb n (n + q.side)) ≡ true =
      λ n. and_intro _ _ (le-leb n n (omega arith)) (lt-ltb n (n + q.side) (omega arith)) in
      and_intro _ _ (own q.x) (own q.y)

  square_side : (a : ℕ) → (square_in side width a).side ≡ side
  unfolding square_in
  square_side a = refl

  pub unit_tiling : Tiling width height (count_in side width height) (λ a. square_in side width a)
  unit_tiling = record {
    holder = λ px py. unit_of side width px py;
    there = λ px py h. unit_there side width height some px py (in_width px py h) (in_height px py h);
    holds = λ px py h. in_square_lem side width height some px py (in_width px py h);
    corner = λ a h. (
      own_corner (square_in side width a) (rw (square_side a) some),
      and_intro _ _ (lt-ltb _ _ (corner_x g a h)) (lt-ltb _ _ (corner_y g a h)),
    );
  }
