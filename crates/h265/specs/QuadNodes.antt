-- R-10's tree, in document 02's words: what is decided at the nodes of an H.265 unit, and by which flags.
use Rattle.std.specs.Prelude.{ℕ, ◌<◌, ◌≡◌, true, false, List, [], ◌∷◌, ◌⊎◌}
use Rattle.tree.specs.declared.Node.{Node}
use Rattle.tree.specs.declared.Decision.{Decision}
use Rattle.tree.specs.declared.Decision.TheVariants.{Leaf, Quad}
use Rattle.tree.specs.Kind.{Kind}
use Rattle.tree.specs.Splits.{inside, rights_of, allows}
use Rattle.tree.specs.Flags.{flags_for}
use Rattle.laws.specs.Reached.{Reached}
use Rattle.unit.specs.Units.{refusal_in, root_in}
use Rattle.h265settings.specs.declared.Settings.{Settings}
use Rattle.h265settings.specs.Units.{units_of}

-- a decision may be taken at a node, and is said by these flags
pub record Said (k : Kind) (n : Node) (d : Decision) (flags : List ℕ) : Type 0 where
  pub allowed : allows (rights_of k n) d ≡ true
  pub flags_are : flags_for (rights_of k n) d ≡ flags

pub record QuadNode (smallest : ℕ) (k : Kind) (n : Node) : Type 0 where
  -- "MTT depth is 0"
  pub uncut : n.mtt ≡ 0
  -- "A node is split without a flag when it is out of the picture and larger than the smallest side": into four, and nothing else may be done
  pub out : inside k.limits n ≡ false → smallest < n.w
      → Said k n Quad [] × ((d : Decision) → allows (rights_of k n) d ≡ true → d ≡ Quad)
  -- "and has a flag when inside and larger": 0 for a leaf, 1 for a split into four
  pub larger : inside k.limits n ≡ true → smallest < n.w
      → Said k n Leaf (0 ∷ []) × Said k n Quad (1 ∷ []) × ((d : Decision) → allows (rights_of k n) d ≡ true → (d ≡ Leaf) ⊎ (d ≡ Quad))
  -- "Otherwise it is a leaf": without a flag, and inside the picture
  pub leaf : ¬ (smallest < n.w) → Said k n Leaf [] × ((d : Decision) → allows (rights_of k n) d ≡ true → d ≡ Leaf)

-- every node that a walk can reach in a unit that is there
abbrev pub QuadNodes : Type 0
QuadNodes = (s : Settings) (a : ℕ) → refusal_in (units_of s) a ≡ 0 → (n : Node) → Reached (units_of s).kind (root_in (units_of s) a) n
    → QuadNode s.smallest (units_of s).kind n
