-- The nodes of an H.265 unit: no cut is ever open, and the quad split is above the smallest side.
use Prim.Native.Nat.{ℕ, ◌+◌, ◌<◌}
use mathlib.Core.Path.{◌≡◌, refl, ap, fun_ext, ◌∙◌}
use mathlib.Core.Bool.{Bool, true, false, ◌&&◌}
use mathlib.Core.List.{List}
use mathlib.Core.Logic.{◌⊎◌, inl, inr}
use native.Mathlib.Omega.{arith}
use lib.Dec.{ltb, eqb}
use borrow.Author.Tests.{lt-ltb, le-ltb}
use Rattle.sides.proofs.Bools.{clash}
use Rattle.tree.specs.declared.Limits.{Limits}
use Rattle.tree.specs.declared.Node.{Node}
use Rattle.tree.specs.declared.Direction.{Direction}
use Rattle.tree.specs.declared.Decision.{Decision}
use Rattle.tree.specs.declared.Decision.TheVariants.{Leaf, Quad, Binary, Ternary}
use Rattle.tree.specs.Kind.{Kind, luma}
use Rattle.tree.specs.Splits.{inside, Rights, rights_of, binary_open, ternary_open, allows}
use Rattle.tree.specs.Flags.{flags_for}
use Rattle.tree.specs.Children.{child_mtt, child_offset, child, children_from, children, shares}
use Rattle.laws.specs.Every.{Every, every_none, every_more}
use Rattle.laws.specs.Reached.{Reached, begins, goes_on}
use Rattle.laws.proofs.ReachedNodes.{every_in, reached_opens}
use Rattle.unit.specs.Luma.{limits_of}
use Rattle.unit.proofs.Sound.{root_of_lem}
use Rattle.h265settings.specs.Units.{as_luma, units_of}
use Rattle.h265settings.proofs.Sound.{h265_sound}
use Rattle.h265.specs.QuadNodes.{Said, QuadNodes}

-- the rights of a node without cuts
abbrev pub quad_rights : Bool → Bool → Rights
quad_rights within quad = record { within = within; quad = quad; binary = λ d. false; ternary = λ d. false }

-- a test before one that fails
false_last : (a b c : Bool) → (a && b && c && false) ≡ false
false_last true true true = refl
false_last true true false = refl
false_last true false c = refl
false_last false b c = refl

module _ (l : Limits) (flat : l.maxmtt ≡ 0) (n : Node) (m : n.mtt ≡ 0) (o : n.offset ≡ 0) where
  no_depth : ltb n.mtt (l.maxmtt + n.offset) ≡ false
  no_depth = le-ltb n.mtt (l.maxmtt + n.offset) (omega arith)

  no_binary : (d : Direction) → binary_open l n d ≡ false
  unfolding binary_open
  no_binary d = rw (no_depth, false_last _ _ _)

  no_ternary : (d : Direction) → ternary_open l n d ≡ false
  unfolding ternary_open
  no_ternary d = rw (no_depth, false_last _ _ _)

  pub quad_rights_lem : rights_of (luma l) n ≡ quad_rights (inside l n) (ltb l.minqt n.w)
  unfolding rights_of
  quad_rights_lem = same (ap (λ x. eqb x 0 && ltb l.minqt n.w) m) (fun_ext no_binary) (fun_ext no_ternary)
    where
      same : {q r : Bool} {b c t u : Direction → Bool} → q ≡ r → b ≡ c → t ≡ u
          → ◌≡◌ {A = Rights} (record { within = inside l n; quad = q; binary = b; ternary = t }) (record { within = inside l n; quad = r; binary = c; ternary = u })
      same e f g = rw (e, f, g)

-- ---- above all cuts, everywhere

-- above all cuts, and not lifted
abbrev pub Flat : Node → Type 0
Flat n = (n.mtt ≡ 0) × (n.offset ≡ 0)

quad_kids : (l : Limits) (n : Node) → Every Flat (children l n Quad)
unfolding children children_from shares child child_mtt child_offset
quad_kids l n = every_more (refl, refl) (every_more (refl, refl) (every_more (refl, refl) (every_more (refl, refl) every_none)))

leaf_kids : (l : Limits) (n : Node) → Every Flat (children l n Leaf)
unfolding children children_from shares
leaf_kids l n = every_none

module _ (l : Limits) (flat : l.maxmtt ≡ 0) where
  pub flat_kids : (n : Node) → Flat n → (d : Decision) → allows (rights_of (luma l) n) d ≡ true → Every Flat (children l n d)
  flat_kids n f Leaf ok = leaf_kids l n
  flat_kids n f Quad ok = quad_kids l n
  flat_kids n f (Binary d) ok = clash ok (ap (λ (r : Rights). r.binary d) (quad_rights_lem l flat n f.0 f.1))
  flat_kids n f (Ternary d) ok = clash ok (ap (λ (r : Rights). r.ternary d) (quad_rights_lem l flat n f.0 f.1))

  reached_flat : {root n : Node} → Flat root → Reached (luma l) root n → Flat n
  reached_flat r (begins here) = r
  reached_flat r (goes_on {n = n} d from ok m here) = every_in (flat_kids n (reached_flat r from) d ok) m

-- ---- the decisions and their flags

module _ (k : Kind) (n : Node) {within quad : Bool} (e : rights_of k n ≡ quad_rights within quad) where
  said : (d : Decision) {flags : List ℕ} → allows (quad_rights within quad) d ≡ true → flags_for (quad_rights within quad) d ≡ flags → Said k n d flags
  said d a f = record { allowed = rw e a; flags_are = rw e f }

  only : (d : Decision) → allows (rights_of k n) d ≡ true → ((d ≡ Leaf) × (within ≡ true)) ⊎ ((d ≡ Quad) × (quad ≡ true))
  only Leaf a = inl (refl, rw e at a)
  only Quad a = inr (refl, rw e at a)
  only (Binary d) a = clash (rw e at a) refl
  only (Ternary d) a = clash (rw e at a) refl

pub quad_nodes : QuadNodes
unfolding flags_for
quad_nodes s a h n from = record {
  uncut = f.0;
  out = λ o l. let e = rights o (lt-ltb _ _ l) in (said k n e Quad refl refl, λ d x. quad_only (only k n e d x));
  larger = λ i l. let e = rights i (lt-ltb _ _ l) in (said k n e Leaf refl refl, said k n e Quad refl refl, λ d x. either (only k n e d x));
  leaf = λ l. let e = rights (within l) (le-ltb s.smallest n.w (omega arith)) in (said k n e Leaf refl refl, λ d x. leaf_only (only k n e d x));
}
  where
    k : Kind
    k = (units_of s).kind

    f : Flat n
    f = reached_flat (limits_of (as_luma s)) refl (refl, refl) from

    rights : {w q : Bool} → inside (limits_of (as_luma s)) n ≡ w → ltb s.smallest n.w ≡ q → rights_of (luma (limits_of (as_luma s))) n ≡ quad_rights w q
    rights i j = quad_rights_lem (limits_of (as_luma s)) refl n f.0 f.1 ∙ rw (i, j)

    within : ¬ (s.smallest < n.w) → inside (limits_of (as_luma s)) n ≡ true
    within l = go (inside (limits_of (as_luma s)) n) refl
      where
        go : (b : Bool) → inside (limits_of (as_luma s)) n ≡ b → inside (limits_of (as_luma s)) n ≡ true
        go true e = e
        go false e =
            let r = root_of_lem (h265_sound s) a h in
            let o = reached_opens r.valid r.square from e in
            clash (rw (rights e (le-ltb s.smallest n.w (omega arith))) at o) refl

    quad_only : {d : Decision} → ((d ≡ Leaf) × (false ≡ true)) ⊎ ((d ≡ Quad) × (true ≡ true)) → d ≡ Quad
    quad_only (inl x) = clash x.1 refl
    quad_only (inr x) = x.0

    either : {d : Decision} {w q : Bool} → ((d ≡ Leaf) × (w ≡ true)) ⊎ ((d ≡ Quad) × (q ≡ true)) → (d ≡ Leaf) ⊎ (d ≡ Quad)
    either (inl x) = inl x.0
    either (inr x) = inr x.0

    leaf_only : {d : Decision} → ((d ≡ Leaf) × (true ≡ true)) ⊎ ((d ≡ Quad) × (false ≡ true)) → d ≡ Leaf
    leaf_only (inl x) = x.0
    leaf_only (inr x) = clash x.1 refl
