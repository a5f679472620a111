-- The decision of a node of which it is known whether it lies inside the picture: fewer flags are looked at, and it is the same.
use Prim.Native.Nat.{ℕ}
use mathlib.Core.Path.{◌≡◌, refl, sym, ap, ◌∙◌}
use mathlib.Core.Bool.{Bool, true, false, ◌&&◌, cond}
use mathlib.Core.List.{List}
use Rattle.sides.proofs.Bools.{clash}
use Rattle.tree.specs.declared.Direction.TheVariants.{Horizontal, Vertical}
use Rattle.tree.specs.Flags.{Flag}
use Rattle.tree.specs.Flags.{Value, Bad}
use Rattle.tree.specs.Splits.{Rights, has, rights_in}
use Rattle.tree.specs.Flags.{some_open, flag_at, quad_flag, cut_at, after_binary, after_vertical, after_quad, after_split, decide}
use Rattle.flags.specs.Out.{after_quad_out, decide_out}

-- after the vertical flag comes the cut of its direction
pub vertical_cut : (r : Rights) (flags : List ℕ) (upright : Bool) (at : ℕ) → cut_at r flags (cond upright Vertical Horizontal) at ≡ after_vertical r flags (Value upright at)
unfolding after_vertical
vertical_cut r flags true at = refl
vertical_cut r flags false at = refl

-- inside the picture, where a split is open, the split flag is present
pub inside_decides : (splits : ℕ) (flags : List ℕ) (at : ℕ) → some_open (rights_in false splits) ≡ true
    → after_split (rights_in false splits) flags (flag_at true false flags at) ≡ decide (rights_in false splits) flags at
unfolding decide
inside_decides splits flags at h = ap (λ there. after_split (rights_in false splits) flags (flag_at there false flags at)) (sym h)

-- out of the picture, where no ternary cut and one binary cut at most is open, the quad flag alone may be present
module _ (splits : ℕ) (flags : List ℕ) (th : has splits 8 ≡ false) (tv : has splits 16 ≡ false) where
  -- a cut is open: the flags after the quad one are absent
  cut_out : (bh bv : Bool) → has splits 2 ≡ bh → has splits 4 ≡ bv → (bh && bv) ≡ false → cond bh true bv ≡ true → (f : Flag) → after_quad_out splits f ≡ after_quad (rights_in true splits) flags f
  unfolding after_quad_out after_quad after_vertical after_binary flag_at
  cut_out bh bv eh ev h some (Bad k p) = refl
  cut_out bh bv eh ev h some (Value true at) = refl
  cut_out true true eh ev h some (Value false at) = clash refl h
  cut_out true false eh ev h some (Value false at) = simp (eh, ev, th, tv)
  cut_out false true eh ev h some (Value false at) = simp (eh, ev, th, tv)
  cut_out false false eh ev h some (Value false at) = clash some refl

  -- no cut is open: the quad flag is absent, and is 1
  no_cut_out : (at : ℕ) → has splits 1 ≡ true → has splits 2 ≡ false → has splits 4 ≡ false
      → after_quad_out splits (quad_flag (rights_in true splits) flags at) ≡ after_quad (rights_in true splits) flags (quad_flag (rights_in true splits) flags at)
  unfolding after_quad_out after_quad flag_at
  no_cut_out at q eh ev = rw (q, eh, ev, th, tv)

  -- the node is split
  quad_next : (at : ℕ) → after_quad (rights_in true splits) flags (quad_flag (rights_in true splits) flags at) ≡ decide (rights_in true splits) flags at
  unfolding decide after_split flag_at
  quad_next at = refl

  pub out_decides : (at : ℕ) → (has splits 2 && has splits 4) ≡ false → some_open (rights_in true splits) ≡ true → decide_out splits flags at ≡ decide (rights_in true splits) flags at
  out_decides at one some = go (has splits 1) (has splits 2) (has splits 4) refl refl refl ∙ quad_next at
    where
      go : (q bh bv : Bool) → has splits 1 ≡ q → has splits 2 ≡ bh → has splits 4 ≡ bv
          → decide_out splits flags at ≡ after_quad (rights_in true splits) flags (quad_flag (rights_in true splits) flags at)
      go q true bv eq eh ev = cut_out true bv eh ev (rw (eh, ev) at one) refl (quad_flag (rights_in true splits) flags at)
      go q false true eq eh ev = cut_out false true eh ev refl refl (quad_flag (rights_in true splits) flags at)
      go true false false eq eh ev = no_cut_out at eq eh ev
      go false false false eq eh ev = clash some (rw (eq, eh, ev, th, tv))
