-- The open splits as one number say the rights that they were made of: one test over all 32 sets of open splits.
use Prim.Native.Nat.{ℕ, ◌+◌}
use mathlib.Core.Path.{◌≡◌, refl, fun_ext}
use mathlib.Core.Bool.{Bool, true, not, ◌&&◌}
use Rattle.sides.proofs.Bools.{and_left, and_right, not-not, same, same_eq, for_five, at_five}
use Rattle.tree.specs.declared.Direction.{Direction}
use Rattle.tree.specs.declared.Direction.TheVariants.{Horizontal, Vertical}
use Rattle.tree.specs.Splits.{Rights, bit, has, binary_mask, ternary_mask, open_splits, rights_in}

abbrev sum : Bool → Bool → Bool → Bool → Bool → ℕ
sum q bh bv th tv = bit q 1 + bit bh 2 + bit bv 4 + bit th 8 + bit tv 16

-- each mask finds its own split
abbrev finds : Bool → Bool → Bool → Bool → Bool → Bool
finds q bh bv th tv =
    same (has (sum q bh bv th tv) 1) q
    && (same (has (sum q bh bv th tv) 2) bh && (same (has (sum q bh bv th tv) 4) bv && (same (has (sum q bh bv th tv) 8) th && same (has (sum q bh bv th tv) 16) tv)))

all_found : for_five finds ≡ true
all_found = refl

record Found (q bh bv th tv : Bool) : Type 0 where
  at_1 : has (sum q bh bv th tv) 1 ≡ q
  at_2 : has (sum q bh bv th tv) 2 ≡ bh
  at_4 : has (sum q bh bv th tv) 4 ≡ bv
  at_8 : has (sum q bh bv th tv) 8 ≡ th
  at_16 : has (sum q bh bv th tv) 16 ≡ tv

found : (q bh bv th tv : Bool) → Found q bh bv th tv
found q bh bv th tv =
    let n = sum q bh bv th tv in
    let t₀ = at_five finds all_found q bh bv th tv in
    let t₁ = and_right (same (has n 1) q) _ t₀ in
    let t₂ = and_right (same (has n 2) bh) _ t₁ in
    let t₃ = and_right (same (has n 4) bv) _ t₂ in
    record {
      at_1 = same_eq (has n 1) q (and_left (same (has n 1) q) _ t₀);
      at_2 = same_eq (has n 2) bh (and_left (same (has n 2) bh) _ t₁);
      at_4 = same_eq (has n 4) bv (and_left (same (has n 4) bv) _ t₂);
      at_8 = same_eq (has n 8) th (and_left (same (has n 8) th) _ t₃);
      at_16 = same_eq (has n 16) tv (and_right (same (has n 8) th) _ t₃);
    }

same_rights : {w w' q q' : Bool} {b b' t t' : Direction → Bool} → w ≡ w' → q ≡ q' → b ≡ b' → t ≡ t'
    → ◌≡◌ {A = Rights} (record { within = w; quad = q; binary = b; ternary = t }) (record { within = w'; quad = q'; binary = b'; ternary = t' })
same_rights e f g h = rw (e, f, g, h)

module _ (r : Rights) where
  all : Found r.quad (r.binary Horizontal) (r.binary Vertical) (r.ternary Horizontal) (r.ternary Vertical)
  all = found r.quad (r.binary Horizontal) (r.binary Vertical) (r.ternary Horizontal) (r.ternary Vertical)

  binary_found : (d : Direction) → has (open_splits r) (binary_mask d) ≡ r.binary d
  unfolding open_splits
  binary_found Horizontal = all.at_2
  binary_found Vertical = all.at_4

  ternary_found : (d : Direction) → has (open_splits r) (ternary_mask d) ≡ r.ternary d
  unfolding open_splits
  ternary_found Horizontal = all.at_8
  ternary_found Vertical = all.at_16

  -- reading the number back gives the rights
  pub rights_back : rights_in (not r.within) (open_splits r) ≡ r
  unfolding open_splits
  rights_back = same_rights (not-not r.within) all.at_1 (fun_ext binary_found) (fun_ext ternary_found)
