-- The settings' refusal is the number of the first rule, of document 01's, that they break.
use Prim.Native.Nat.{ℕ, zero, suc, ◌+◌, ◌-◌, ◌*◌, ◌/◌, ◌%◌, ◌^◌, ◌≤◌, ◌<◌, min, max}
use mathlib.Core.Path.{◌≡◌, refl, subst, ◌∙◌}
use mathlib.Core.Bool.{Bool, true, false, not, ◌||◌}
use mathlib.Core.List.{List, [], ◌∷◌, ◌++◌}
use mathlib.Core.Logic.{◌⊎◌, inl, inr}
use native.Mathlib.Omega.{arith}
use native.Mathlib.Nat.{pow-suc}
use native.Mathlib.Decide.{dec_lt}
use lib.ListN.{length}
use lib.Dec.{ltb, eqb}
use lib.Count.{ones, ones_step}
use borrow.Author.Tests.{eq-eqb, eqb-true, ltb-true, ltb-false, le-leb, not-false}
use Rattle.sides.specs.Side.{exponent, side_from}
use Rattle.sides.proofs.Bools.{clash, and_left, and_right}
use Rattle.sides.specs.Side.{Side}
use Rattle.sides.proofs.Powers.{side}
use Rattle.settings.specs.declared.Settings.{Settings}
use Rattle.settings.specs.Checks.{bad_ctu, bad_cb, bad_qt, bad_depth, bad_bt, bad_tt, bad_length, bad_edge, side_rules, limit_rules, picture_rules, first_hit, settings_refusal}
use Rattle.settings.specs.Faults.{PowerFrom, BadLength, Breaks, bad_ctu_side, bad_mincb, bad_minqt, bad_greatest_depth, bad_maxbt, bad_maxtt, bad_width, bad_height, bad_edge_multiple, SettingsFault}
use Rattle.settings.proofs.Exponents.{below}
use Rattle.settings.proofs.Passed.{unit_side, one_of, Length, length_kept, edge_kept}

-- ---- the first of a list of rules, by tests that tell whether each is broken

-- a test tells whether something holds
abbrev Tells : Bool → Type 0 → Type 0
Tells true P = P
Tells false P = ¬ P

tells : {P : Type 0} (b : Bool) → (b ≡ true → P) → (b ≡ false → ¬ P) → Tells b P
tells true f g = f refl
tells false f g = g refl

module _ (P : ℕ → Type 0) where
  -- tests of the rules from a number on; a test is asked only where those before it fail
  abbrev Tested : ℕ → List Bool → Type 0
  Tested k [] = Unit {0}
  Tested k (b ∷ rules) = Tells b (P k) × (b ≡ false → Tested (k + 1) rules)

  -- the first rule that is broken, or none
  abbrev First : ℕ → ℕ → Type 0
  First end hit = ((hit ≡ 0) × ((m : ℕ) → m < end → ¬ P m)) ⊎ ((0 < hit) × P hit × ((m : ℕ) → m < hit → ¬ P m))

  first_hit_lem : (k : ℕ) (rules : List Bool) → 0 < k → Tested k rules → ((m : ℕ) → m < k → ¬ P m)
      → First (k + length rules) (first_hit k rules)
  first_hit_lem k [] l t none = inl (refl, λ m h. none m (omega arith))
  first_hit_lem k (true ∷ rules) l t none = inr (l, t.0, none)
  first_hit_lem k (false ∷ rules) l t none =
      let e : k + 1 + length rules ≡ k + suc (length rules) = omega arith in
      subst (λ end. First end (first_hit (k + 1) rules)) e (first_hit_lem (k + 1) rules (omega arith) (t.1 refl) (λ m h. go m (dec_lt m k) h))
    where
      go : (m : ℕ) → Dec (m < k) → m < k + 1 → ¬ P m
      go m (yes h) l p = none m h p
      go m (no h) l p = let e : m ≡ k = omega arith in t.0 (subst P e p)

-- ---- powers of two

ones_power : (e : ℕ) → ones (2 ^ e) ≡ 1
unfolding ones
ones_power zero = refl
ones_power (suc e) =
    let p = pow-suc 2 e in
    let h : 2 ^ suc e / 2 ≡ 2 ^ e = omega arith in
    let r : 2 ^ suc e % 2 ≡ 0 = omega arith in
    ones_step (2 ^ suc e) ∙ rw (r, h, ones_power e)

pub power_side : {low high n : ℕ} → PowerFrom low high n → side_from low high n ≡ true
power_side {low} {high} {n} p =
    rw (p.is, ones_power p.exponent) (rw (← p.is, le-leb low n p.least, le-leb n high p.most))

pub side_power : {low high n : ℕ} → Side low high n → PowerFrom low high n
side_power {n = n} x = record { exponent = exponent n; is = x.is; least = x.least; most = x.most }

-- the test for a side tells that it is no power of two in the range
side_tells : (low high n : ℕ) → high < 2 ^ 32 → Tells (not (side_from low high n)) (¬ PowerFrom low high n)
side_tells low high n l = go (side_from low high n) refl
  where
    go : (b : Bool) → side_from low high n ≡ b → Tells (not b) (¬ PowerFrom low high n)
    go true e = λ f. f (side_power (side low high n l e))
    go false e = λ p. clash (power_side p) e

-- ---- the nine rules

-- a fault that a test tells, as the rule that it breaks
as_rule : {F P : Type 0} (b : Bool) → Tells b F → (F → P) → (P → F) → Tells b P
as_rule true t to from = to t
as_rule false t to from = λ p. t (from p)

length_tells : (mincb n : ℕ) → Tells (bad_length mincb n) (BadLength mincb n)
length_tells mincb n = tells (bad_length mincb n) (λ e. bad (eqb n 0) (ltb 16384 n) refl refl e) (λ e. good (length_kept mincb n e))
  where
    bad : (a b : Bool) → eqb n 0 ≡ a → ltb 16384 n ≡ b → (a || b || not (eqb (n % max 8 mincb) 0)) ≡ true
        → BadLength mincb n
    bad true b i j e = inl (eqb-true n 0 i)
    bad false true i j e = inr (inl (ltb-true 16384 n j))
    bad false false i j e = inr (inr (λ z. clash e (rw (eq-eqb (n % max 8 mincb) 0 z))))

    good : Length mincb n → ¬ BadLength mincb n
    good l (inl e) = let p = l.positive in omega arith
    good l (inr (inl e)) = let m = l.most in omega arith
    good l (inr (inr e)) = e l.multiple

module _ (s : Settings) where
  ctu_tells : Tells (bad_ctu s) (Breaks s 1)
  ctu_tells = tells (bad_ctu s) (λ e. bad_ctu_side (λ z. clash e (rw z)) (λ z. clash e (rw z)) (λ z. clash e (rw z))) (λ e. λ x. good (one_of s.ctu _ _ refl refl (not-false _ e)) x)
    where
      good : (s.ctu ≡ 32) ⊎ ((s.ctu ≡ 64) ⊎ (s.ctu ≡ 128)) → ¬ Breaks s 1
      good (inl z) (bad_ctu_side f g h) = f z
      good (inr (inl z)) (bad_ctu_side f g h) = g z
      good (inr (inr z)) (bad_ctu_side f g h) = h z

  mincb_tells : Tells (bad_cb s) (Breaks s 2)
  mincb_tells = as_rule (bad_cb s) (side_tells 4 (min 64 s.ctu) s.mincb (omega arith)) bad_mincb from
    where
      from : Breaks s 2 → ¬ PowerFrom 4 (min 64 s.ctu) s.mincb
      from (bad_mincb f) = f

  minqt_tells : Tells (bad_qt s) (Breaks s 3)
  minqt_tells = as_rule (bad_qt s) (side_tells s.mincb (min 64 s.ctu) s.minqt (omega arith)) bad_minqt from
    where
      from : Breaks s 3 → ¬ PowerFrom s.mincb (min 64 s.ctu) s.minqt
      from (bad_minqt f) = f

  maxtt_tells : Tells (bad_tt s) (Breaks s 6)
  maxtt_tells = as_rule (bad_tt s) (side_tells s.minqt (min 64 s.ctu) s.maxtt (omega arith)) bad_maxtt from
    where
      from : Breaks s 6 → ¬ PowerFrom s.minqt (min 64 s.ctu) s.maxtt
      from (bad_maxtt f) = f

  width_tells : Tells (bad_length s.mincb s.width) (Breaks s 7)
  width_tells = as_rule (bad_length s.mincb s.width) (length_tells s.mincb s.width) bad_width from
    where
      from : Breaks s 7 → BadLength s.mincb s.width
      from (bad_width f) = f

  height_tells : Tells (bad_length s.mincb s.height) (Breaks s 8)
  height_tells = as_rule (bad_length s.mincb s.height) (length_tells s.mincb s.height) bad_height from
    where
      from : Breaks s 8 → BadLength s.mincb s.height
      from (bad_height f) = f

  edge_tells : Tells (bad_edge s) (Breaks s 9)
  edge_tells = tells (bad_edge s) (λ e. bad e) (λ e. good e)
    where
      bad : bad_edge s ≡ true → Breaks s 9
      bad e =
          let m = eqb s.maxmtt 0 in
          bad_edge_multiple (eqb-true s.maxmtt 0 (and_left m _ e))
          (λ z. clash (and_right m _ e) (rw (eq-eqb (s.width % s.minqt) 0 z.0, eq-eqb (s.height % s.minqt) 0 z.1)))

      good : bad_edge s ≡ false → ¬ Breaks s 9
      good e (bad_edge_multiple z f) = f (edge_kept s e z)

  -- 4 and 5 look at the exponent of the CTU side, which has passed by then
  module _ (c : bad_ctu s ≡ false) where
    unit : Side 32 128 s.ctu
    unit = unit_side (one_of s.ctu _ _ refl refl (not-false _ c))

    maxbt_tells : Tells (bad_bt s) (Breaks s 5)
    maxbt_tells = let u = unit.most in as_rule (bad_bt s) (side_tells s.minqt s.ctu s.maxbt (omega arith)) bad_maxbt from
      where
        from : Breaks s 5 → ¬ PowerFrom s.minqt s.ctu s.maxbt
        from (bad_maxbt f) = f

    depth_tells : bad_cb s ≡ false → Tells (bad_depth s) (Breaks s 4)
    depth_tells b = tells (bad_depth s) bad good
      where
        cb : Side 4 (min 64 s.ctu) s.mincb
        cb = side 4 (min 64 s.ctu) s.mincb (omega arith) (not-false _ b)

        bad : bad_depth s ≡ true → Breaks s 4
        bad e = bad_greatest_depth (exponent s.ctu) (exponent s.mincb) unit.is cb.is (ltb-true _ _ e)

        same : (i n : ℕ) → n ≡ 2 ^ i → n ≡ 2 ^ exponent n → i ≡ exponent n
        same i n p q = let a = below i (exponent n) (omega arith) in let z = below (exponent n) i (omega arith) in omega arith

        good : bad_depth s ≡ false → ¬ Breaks s 4
        good e (bad_greatest_depth i j p q l) =
            let x = same i s.ctu p unit.is in
            let y = same j s.mincb q cb.is in
            let m = ltb-false (2 * (exponent s.ctu - exponent s.mincb)) s.maxmtt e in
            omega arith

  rules_tested : Tested (Breaks s) 1 (side_rules s ++ (limit_rules s ++ picture_rules s))
  rules_tested =
      (ctu_tells, λ c. (mincb_tells, λ b. (minqt_tells, λ q. (depth_tells c b, λ d. (maxbt_tells c, λ m. (maxtt_tells, λ t. (width_tells, λ w. (height_tells, λ h. (edge_tells, λ e. tt)))))))))

  breaks_range : {m : ℕ} → Breaks s m → (0 < m) × (m < 10)
  breaks_range (bad_ctu_side f g h) = omega arith
  breaks_range (bad_mincb f) = omega arith
  breaks_range (bad_minqt f) = omega arith
  breaks_range (bad_greatest_depth c b p q l) = omega arith
  breaks_range (bad_maxbt f) = omega arith
  breaks_range (bad_maxtt f) = omega arith
  breaks_range (bad_width f) = omega arith
  breaks_range (bad_height f) = omega arith
  breaks_range (bad_edge_multiple z f) = omega arith

  first_broken : First (Breaks s) 10 (settings_refusal s)
  unfolding settings_refusal
  first_broken =
      first_hit_lem (Breaks s) 1 (side_rules s ++ (limit_rules s ++ picture_rules s)) (omega arith) rules_tested
      (λ m l x. let r = breaks_range x in omega arith)

  -- ---- a refusal and its fault

  pub settings_fault : (number : ℕ) → settings_refusal s ≡ number → 0 < number → SettingsFault s number
  settings_fault number e l = go first_broken
    where
      go : First (Breaks s) 10 (settings_refusal s) → SettingsFault s number
      go (inl x) = let z = x.0 in absurd (omega arith)
      go (inr x) = subst (SettingsFault s) e (record { broken = x.1; first = x.2 })

  pub settings_refused : {number : ℕ} → SettingsFault s number → settings_refusal s ≡ number
  settings_refused {number} f = go first_broken
    where
      same : (r : ℕ) → Breaks s r → ((m : ℕ) → m < r → ¬ Breaks s m) → Dec (r < number) → Dec (number < r) → r ≡ number
      same r b none (yes l) d = absurd (f.first r l b)
      same r b none (no l) (yes h) = absurd (none number h f.broken)
      same r b none (no l) (no h) = omega arith

      go : First (Breaks s) 10 (settings_refusal s) → settings_refusal s ≡ number
      go (inl x) = let r = breaks_range f.broken in absurd (x.1 number r.1 f.broken)
      go (inr x) = same (settings_refusal s) x.1 x.2 (dec_lt (settings_refusal s) number) (dec_lt number (settings_refusal s))

  pub fault_range : {number : ℕ} → SettingsFault s number → (0 < number) × (number ≤ 9)
  fault_range f = let r = breaks_range f.broken in omega arith
