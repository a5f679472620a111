-- Units with luma trees are as `OneTree` asks, for all limits that the laws can use.
use Prim.Native.Nat.{ℕ}
use mathlib.Core.Path.{◌≡◌, refl}
use mathlib.Core.List.{List}
use Rattle.settings.specs.Units.{square_in}
use Rattle.settings.proofs.Grid.{unit_taken}
use Rattle.tree.specs.declared.Limits.{Limits}
use Rattle.tree.specs.Kind.{luma}
use Rattle.laws.specs.Geometry.{pipeline_side}
use Rattle.refusals.specs.Said.{Accepted}
use Rattle.unit.specs.Units.{Units, root_of}
use Rattle.unit.specs.Luma.{luma_units}
use Rattle.unit.specs.Reader.{read_in}
use Rattle.unit.specs.Usable.{Usable}
use Rattle.unit.proofs.Roots.{Root, usable_root}
use Rattle.unit.proofs.RoundTrips.{read_there, unit_accepted, flags_back}
use Rattle.unit.proofs.Sound.{Sound}
use Rattle.sessions.proofs.Parts.{GoodRoot}
use Rattle.picture.specs.OneTree.{tree_units}
use Rattle.picture.proofs.Samples.{unit_tiling}
use Rattle.picture.proofs.OneTree.{UnitAccepted, UnitLaws}

good_root : (side a : ℕ) {l : Limits} → Root (luma l) (root_of (square_in side l.width a))
    → GoodRoot l.width l.height (pipeline_side side) (luma l) (root_of (square_in side l.width a))
unfolding square_in
good_root side a r = record { proper = r.valid; wide = refl; high = refl; root = r.square; fits = r.fits; pipeline = refl }

-- what is accepted, in all units
accepts : {us : Units} → Sound us → (side a : ℕ) (flags buffer : List ℕ) {m : ℕ} → (read_in us a flags buffer).answer ≡ Accepted m
    → UnitAccepted (tree_units us side) a flags m (read_in us a flags buffer).buffer
accepts {us} law side a flags buffer {m} e =
    let h = read_there law a flags buffer m e in
    let x = unit_accepted law a h flags buffer m e in
    record {
      there = (unit_taken us.refusal us.count a h).1;
      tree = x.tree;
      said = x.said;
      rows = x.rows;
      back = λ lent room. flags_back law a flags buffer m e lent room;
    }

module _ {refusal : ℕ} {numbers : List ℕ} {Fault : ℕ → Type 0} {side : ℕ} {l : Limits} (law : Sound (luma_units refusal numbers Fault side l)) where
  pub luma_laws : Usable side l → UnitLaws (tree_units (luma_units refusal numbers Fault side l) side)
  luma_laws p = record {
    tiling = unit_tiling p.grid;
    good = λ a h. good_root side a (usable_root p a h);
    accepts = accepts law side;
  }
