-- Tree kinds: one set of rules serves them all. The luma tree of H.266 is one kind; a chroma tree closes some splits besides, and H.265's tree has
-- M = 0 and MinQt = its smallest side.
use Rattle.std.specs.Prelude.{ℕ, ◌*◌, ◌/◌, Bool, false, ◌||◌}
use Rattle.tree.specs.declared.Limits.{Limits}
use Rattle.tree.specs.declared.Node.{Node}
use Rattle.tree.specs.declared.Decision.{Decision}

-- the limits of the trees of a kind, and the splits that it closes besides those that the rules of `Splits` close (never asked of a leaf): by the
-- width of a node and by its area, both in chroma samples, each of which is 2 by 2 luma samples
pub record Kind : Type 0 where
  pub limits : Limits
  pub by_width : ℕ → Decision → Bool
  pub by_area : ℕ → Decision → Bool

abbrev pub closes : Kind → Node → Decision → Bool
closes k n d = k.by_width (n.w / 2) d || k.by_area (n.w / 2 * (n.h / 2)) d

-- the luma tree closes nothing
abbrev pub luma : Limits → Kind
luma l = record { limits = l; by_width = λ w d. false; by_area = λ a d. false }
