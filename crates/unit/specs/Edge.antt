-- The second half of document 01's remark at 9: an edge node "would have no open split; in all other settings it has one".
use Rattle.std.specs.Prelude.{ℕ, ◌≡◌, true, false}
use Rattle.settings.specs.declared.Settings.{Settings}
use Rattle.settings.specs.Units.{unit_refusal}
use Rattle.tree.specs.declared.Node.{Node}
use Rattle.tree.specs.Splits.{inside, rights_of}
use Rattle.tree.specs.Flags.{some_open}
use Rattle.laws.specs.Reached.{Reached}
use Rattle.unit.specs.Luma.{limits_of, kind_of, root_at}

-- in settings that pass, of every unit, every node that a walk can reach and that is out of the picture has an open split
abbrev pub EdgeOpen : Type 0
EdgeOpen =
    (s : Settings) (a : ℕ) → unit_refusal s a ≡ 0 → (n : Node) → Reached (kind_of s) (root_at s a) n
    → inside (limits_of s) n ≡ false → some_open (rights_of (kind_of s) n) ≡ true
