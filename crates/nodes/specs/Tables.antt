-- What the walks of one tree are given: the limits of its kind, and the splits that each side, and the area, let open.
use Rattle.std.specs.Prelude.{ℕ, ◌*◌, ◌/◌, min, Bool, true, cond, not, ◌&&◌, List, [], ◌∷◌, nat_le, nat_lt, slice_index}
use Rattle.tree.specs.declared.Limits.{Limits}
use Rattle.tree.specs.declared.Direction.{Direction}
use Rattle.tree.specs.declared.Direction.TheVariants.{Horizontal, Vertical}
use Rattle.tree.specs.declared.Decision.{Decision}
use Rattle.tree.specs.declared.Decision.TheVariants.{Quad, Binary, Ternary}
use Rattle.tree.specs.Kind.{Kind}
use Rattle.tree.specs.Splits.{pick, same_direction, Rights, open_splits}

-- What a side alone lets open at a node inside the picture: `Horizontal` asks of the height, which horizontal cuts divide, `Vertical` of the width.
-- A cut divides a side above its least one; across the cut a binary one leaves sides up to 64 whole, and a ternary one all.
abbrev pub side_rights : Direction → Limits → ℕ → Rights
side_rights e l s = record {
  within = true;
  quad = pick e true (nat_lt l.minqt s);
  binary = λ d. nat_le s l.maxbt && cond (same_direction d e) (nat_lt l.mincb s) (nat_le s 64);
  ternary = λ d. nat_le s (min 64 l.maxtt) && cond (same_direction d e) (nat_lt (2 * l.mincb) s) true;
}

-- what is left open by closing some splits
abbrev pub leaving : (Decision → Bool) → Rights
leaving closed = record { within = true; quad = not (closed Quad); binary = λ d. not (closed (Binary d)); ternary = λ d. not (closed (Ternary d)) }

-- what two rights both leave open
abbrev pub both : Rights → Rights → Rights
both a b = record {
  within = a.within && b.within;
  quad = a.quad && b.quad;
  binary = λ d. a.binary d && b.binary d;
  ternary = λ d. a.ternary d && b.ternary d;
}

-- the masks of a width, with what the kind closes by it; of a height; and of an area in chroma samples
abbrev pub width_rights : Kind → ℕ → Rights
width_rights k w = both (leaving (k.by_width (w / 2))) (side_rights Vertical k.limits w)

abbrev pub height_rights : Kind → ℕ → Rights
height_rights k h = side_rights Horizontal k.limits h

abbrev pub width_mask : Kind → ℕ → ℕ
width_mask k w = open_splits (width_rights k w)

abbrev pub height_mask : Kind → ℕ → ℕ
height_mask k h = open_splits (height_rights k h)

abbrev pub area_mask : Kind → ℕ → ℕ
area_mask k a = open_splits (leaving (k.by_area a))

-- The limits, a zero, and the masks of the widths and of the heights 4 to 128, and of the areas from 16 to 16,384 samples: a width's mask stands at 6 and its
-- exponent, a height's at 12 and its own, an area's at 16 and both.
unfoldable pub table_of : Kind → List ℕ
table_of k =
    k.limits.mincb ∷ k.limits.minqt ∷ k.limits.maxmtt ∷ k.limits.maxbt ∷ k.limits.maxtt ∷ k.limits.width ∷ k.limits.height ∷ 0
    ∷ width_mask k 4 ∷ width_mask k 8 ∷ width_mask k 16 ∷ width_mask k 32 ∷ width_mask k 64 ∷ width_mask k 128
    ∷ height_mask k 4 ∷ height_mask k 8 ∷ height_mask k 16 ∷ height_mask k 32 ∷ height_mask k 64 ∷ height_mask k 128
    ∷ area_mask k 4 ∷ area_mask k 8 ∷ area_mask k 16 ∷ area_mask k 32 ∷ area_mask k 64 ∷ area_mask k 128
    ∷ area_mask k 256 ∷ area_mask k 512 ∷ area_mask k 1024 ∷ area_mask k 2048 ∷ area_mask k 4096 ∷ []

-- the limits that a table begins with
abbrev pub limits_in : List ℕ → Limits
limits_in u = record {
  mincb = slice_index u 0;
  minqt = slice_index u 1;
  maxmtt = slice_index u 2;
  maxbt = slice_index u 3;
  maxtt = slice_index u 4;
  width = slice_index u 5;
  height = slice_index u 6;
}
