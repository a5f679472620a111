-- The flags of a coding tree by its rows: at most 4 for each row, less 2.
use Prim.Native.Nat.{ℕ, ◌+◌, ◌*◌, ◌/◌, ◌≤◌, ◌<◌}
use mathlib.Core.Path.{◌≡◌, refl, ap}
use mathlib.Core.Bool.{Bool, true, false, cond, not, ◌&&◌, ◌||◌}
use mathlib.Core.List.{List, [], ◌∷◌, ◌++◌}
use lib.ListN.{length, length-append}
use lib.Dec.{leb, ltb}
use borrow.Author.Tests.{ltb-true, leb-true, lt-ltb, le-ltb}
use native.Mathlib.Omega.{arith}
use native.Mathlib.Nat.{mul-le-mul_left}
use Rattle.sides.proofs.Bools.{and_left, and_right, and_intro, and_late, same, for_bool, at_bool}
use Rattle.tree.specs.declared.Limits.{Limits}
use Rattle.tree.specs.declared.Node.{Node}
use Rattle.tree.specs.declared.Share.{Share}
use Rattle.tree.specs.declared.Direction.{Direction}
use Rattle.tree.specs.declared.Direction.TheVariants.{Horizontal, Vertical}
use Rattle.tree.specs.declared.Decision.{Decision}
use Rattle.tree.specs.declared.Decision.TheVariants.{Leaf, Quad, Binary, Ternary}
use Rattle.tree.specs.Kind.{Kind}
use Rattle.tree.specs.Splits.{pick, along, right_out, bottom_out, inside, out_along, Rights, rights_of, allows, bit}
use Rattle.tree.specs.Children.{shares, child, child_mtt, children_from, children, corner_inside}
use Rattle.tree.specs.Rows.{own_rows}
use Rattle.tree.specs.Tree.{Trees, Tree, none, skip, node, flags_of, rows_of}
use Rattle.laws.proofs.Tests.{same_self, implies, implies_intro, implies_use}
use Rattle.laws.specs.Counts.{flags_at, flag_count}
use Rattle.laws.specs.Every.{Every, every_none, every_more}
use Rattle.laws.specs.Proper.{Proper}
use Rattle.laws.specs.Directions.{corner, extent}
use Rattle.laws.specs.Shape.{Shape}
use Rattle.laws.proofs.Counts.{flag_count_lem}
use Rattle.laws.proofs.Picture.{starts_in, not_out}
use Rattle.laws.proofs.Multiples.{fold_least, four_quarters}
use Rattle.laws.proofs.Opens.{quad_open_lem, binary_open_lem, ternary_open_lem}
use Rattle.laws.proofs.Parts.{from, child_corner}
use Rattle.laws.proofs.Shape.{side_four, shape_kids}
use Rattle.laws.proofs.Rights.{for_rights, at_rights}

-- The flags of a node's tree and a spare number more are at most 4 for each row. The spare is 2, and 3 below a cut, where no quad flag comes any more.
abbrev spare : Bool → ℕ
spare cut = 2 + bit cut 1

-- of a node: nothing where its corner is outside the picture
abbrev spare_of : Limits → Node → ℕ
spare_of l n = bit (corner_inside l n) (spare (ltb 0 n.mtt))

abbrev spares_of : Limits → List Node → ℕ
spares_of l [] = 0
spares_of l (n ∷ ns) = spare_of l n + spares_of l ns

-- of the parts of a node that is out right or bottom: those that start where it does stay in the picture, and where it is not out all do
abbrev stays : Bool → Bool → Share → Bool
stays right bottom p = ltb p.left (cond right 1 4) && ltb p.top (cond bottom 1 4)

abbrev part_spares : ℕ → Bool → Bool → List Share → ℕ
part_spares s right bottom [] = 0
part_spares s right bottom (p ∷ ps) = bit (stays right bottom p) s + part_spares s right bottom ps

-- a decision's parts are below a cut; four times its own rows
abbrev pub cuts : Decision → Bool
cuts Leaf = false
cuts Quad = false
cuts (Binary d) = true
cuts (Ternary d) = true

abbrev four_rows : Decision → ℕ
four_rows Leaf = 4
four_rows Quad = 0
four_rows (Binary d) = 0
four_rows (Ternary d) = 0

-- ---- one node: a test of all rights

-- what the rules say of the rights of a node that is out right or bottom, and below a cut
abbrev lawful_cut : Bool → Bool → Rights → Direction → Bool
lawful_cut right bottom r d =
    implies (r.binary d) (not (pick d right bottom && pick d (not bottom) true))
    && (implies (r.quad && r.binary d) (not (right && bottom)) && implies (r.ternary d) (not (right || bottom)))

abbrev lawful : Bool → Bool → Bool → Rights → Bool
lawful right bottom cut r =
    same r.within (not (right || bottom))
    && (implies r.quad (not cut) && (lawful_cut right bottom r Horizontal && lawful_cut right bottom r Vertical))

-- then the flags of an allowed decision and the node's spare are at most the spares of its parts and 4 for a row of its own
abbrev pays : Decision → Bool → Bool → Bool → Rights → Bool
pays d right bottom cut r =
    implies (lawful right bottom cut r && allows r d)
    (leb (flags_at r d + spare cut) (part_spares (spare (cuts d)) right bottom (shares d) + four_rows d))

pay_test : (d : Decision) → for_bool (λ right. for_bool (λ bottom. for_bool (λ cut. for_rights (pays d right bottom cut)))) ≡ true
unfolding shares
pay_test Leaf = refl
pay_test Quad = refl
pay_test (Binary Horizontal) = refl
pay_test (Binary Vertical) = refl
pay_test (Ternary Horizontal) = refl
pay_test (Ternary Vertical) = refl

module _ (k : Kind) (n : Node) where
  abbrev right : Bool
  right = right_out k.limits n

  abbrev bottom : Bool
  bottom = bottom_out k.limits n

  abbrev cut : Bool
  cut = ltb 0 n.mtt

  cut_lawful : (d : Direction) → lawful_cut right bottom (rights_of k n) d ≡ true
  unfolding rights_of
  cut_lawful d =
      and_intro _ _ (implies_intro ((rights_of k n).binary d) _ (λ h. ap not (binary_open_lem k n d h).across))
      (and_intro _ _ (implies_intro ((rights_of k n).quad && (rights_of k n).binary d) _ both)
      (implies_intro ((rights_of k n).ternary d) _ (λ h. (ternary_open_lem k n d h).within)))
    where
      both : ((rights_of k n).quad && (rights_of k n).binary d) ≡ true → not (right && bottom) ≡ true
      both h =
          let q = quad_open_lem k n (and_left _ _ h) in
          let o = binary_open_lem k n d (and_right (rights_of k n).quad _ h) in
          ap not (and_late (right && bottom) (ltb k.limits.minqt n.w) o.corner (lt-ltb _ _ q.large))

  node_lawful : lawful right bottom cut (rights_of k n) ≡ true
  unfolding rights_of
  node_lawful =
      and_intro _ _ (same_self (inside k.limits n))
      (and_intro _ _ (implies_intro (rights_of k n).quad _ (λ h. let z = (quad_open_lem k n h).top in ap not (le-ltb 0 n.mtt (omega arith))))
      (and_intro _ _ (cut_lawful Horizontal) (cut_lawful Vertical)))

  node_pays : (d : Decision) → allows (rights_of k n) d ≡ true
      → flags_at (rights_of k n) d + spare cut ≤ part_spares (spare (cuts d)) right bottom (shares d) + four_rows d
  node_pays d ok =
      let a = at_bool (λ right. for_bool (λ bottom. for_bool (λ cut. for_rights (pays d right bottom cut)))) (pay_test d) right in
      let b = at_bool (λ bottom. for_bool (λ cut. for_rights (pays d right bottom cut))) a bottom in
      let c = at_bool (λ cut. for_rights (pays d right bottom cut)) b cut in
      leb-true _ _ (implies_use _ _ (at_rights (pays d right bottom cut) c (rights_of k n)) (and_intro _ _ node_lawful ok))

  own_rows_lem : (d : Decision) → four_rows d ≡ 4 * length (own_rows n d)
  unfolding own_rows
  own_rows_lem Leaf = refl
  own_rows_lem Quad = refl
  own_rows_lem (Binary d) = refl
  own_rows_lem (Ternary d) = refl

  -- ---- its children in the picture

  child_spare : (d : Decision) (p : Share) → spare (cuts d) ≤ spare (ltb 0 (child k.limits n d p).mtt)
  unfolding child child_mtt
  child_spare Leaf p = omega arith
  child_spare Quad p = omega arith
  child_spare (Binary d) p = rw (lt-ltb 0 (n.mtt + 1) (omega arith)) (omega arith)
  child_spare (Ternary d) p = rw (lt-ltb 0 (n.mtt + 1) (omega arith)) (omega arith)

  module _ (sh : Shape n) (here : corner_inside k.limits n ≡ true) (d : Decision) where
    starts : (p : Share) (e : Direction) → ltb (from e p) (cond (out_along e k.limits n) 1 4) ≡ true → corner e (child k.limits n d p) < extent e k.limits
    starts p e h = rw (child_corner k.limits n d p e) (go (out_along e k.limits n) refl (ltb-true _ _ h))
      where
        go : (b : Bool) → out_along e k.limits n ≡ b → from e p < cond b 1 4 → corner e n + along e n / 4 * from e p < extent e k.limits
        go true o l = let z : from e p ≡ 0 = omega arith in let a = starts_in k n here e in rw z (omega arith)
        go false o l =
            let a = not_out k.limits n e o in
            let q = four_quarters (side_four (sh.side e)) in
            let f = fold_least (sh.side e).fold in
            let u = mul-le-mul_left (along e n / 4) l in
            omega arith

    stays_here : (p : Share) → stays right bottom p ≡ true → corner_inside k.limits (child k.limits n d p) ≡ true
    unfolding corner_inside
    stays_here p h = and_intro _ _ (lt-ltb _ _ (starts p Vertical (and_left _ _ h))) (lt-ltb _ _ (starts p Horizontal (and_right (ltb p.left (cond right 1 4)) _ h)))

    part_spare : (p : Share) (b : Bool) → stays right bottom p ≡ b → bit b (spare (cuts d)) ≤ spare_of k.limits (child k.limits n d p)
    part_spare p true e = rw (stays_here p e) (child_spare d p)
    part_spare p false e = omega arith

    kids_spare : (ps : List Share) → part_spares (spare (cuts d)) right bottom ps ≤ spares_of k.limits (children_from k.limits n d ps)
    unfolding children_from
    kids_spare [] = omega arith
    kids_spare (p ∷ ps) = let a = kids_spare ps in let b = part_spare p (stays right bottom p) refl in omega arith

-- ---- all nodes

module _ {k : Kind} (v : Proper k) where
  flags_spare : {ns : List Node} (t : Trees k ns) → Every Shape ns → flag_count t + spares_of k.limits ns ≤ 4 * length (rows_of t)
  unfolding flag_count rows_of children
  flags_spare none shs = omega arith
  flags_spare (skip out rest) (every_more sh shs) = let a = flags_spare rest shs in rw out (omega arith)
  flags_spare (node {n = n} d here ok kids rest) (every_more sh shs) =
      let a = flags_spare kids (shape_kids v sh d ok) in
      let b = flags_spare rest shs in
      let c = node_pays k n d ok in
      let e = kids_spare k n sh here d (shares d) in
      let f = own_rows_lem k n d in
      rw (here, length-append (own_rows n d ++ rows_of kids) (rows_of rest), length-append (own_rows n d) (rows_of kids)) (omega arith)

  module _ {n : Node} (sh : Shape n) (here : corner_inside k.limits n ≡ true) (t : Tree k n) where
    pub flags_four_rows : length (flags_of t) + 2 ≤ 4 * length (rows_of t)
    flags_four_rows =
        let h = flags_spare t (every_more sh every_none) in
        let s = rw here at h in
        let c = flag_count_lem t in
        omega arith
