-- H.265's sessions have the laws of sessions over units with one coding tree.
use Prim.Native.Nat.{◌+◌}
use mathlib.Core.Path.{◌≡◌}
use Rattle.sessions.proofs.Order.{raster}
use Rattle.sessions.proofs.Laws.{Laws}
use Rattle.sessions.proofs.Demand as sessions
use Rattle.picture.specs.OneTree.{tree_units}
use Rattle.picture.proofs.OneTree.{UnitLaws, one_tree_lem}
use Rattle.picture.proofs.LumaUnits.{luma_laws}
use Rattle.picture.proofs.Sessions.{at_due, fresh, session_laws}
use Rattle.h265settings.specs.declared.Settings.{Settings}
use Rattle.h265settings.specs.Checks.{settings_refusal}
use Rattle.h265settings.specs.Units.{units_of}
use Rattle.h265settings.proofs.Passed.{passed}
use Rattle.h265settings.proofs.Sound.{usable, h265_sound}
use Rattle.h265.specs.Demand3.{coding, Demand3}

module _ (s : Settings) where
  pub h265_units : settings_refusal s ≡ 0 → UnitLaws (tree_units (units_of s) s.ctu)
  h265_units ok = luma_laws (h265_sound s) (usable (passed s ok))

  pub h265_laws : settings_refusal s ≡ 0 → Laws (coding s) 0 (λ a. a + 1) (λ a t. t ≡ at_due s a)
  h265_laws ok = one_tree_lem (tree_units (units_of s) s.ctu) (h265_units ok) (raster (units_of s).count) (session_laws units_of s s.ctu)

pub demand3 : Demand3
demand3 s t e calls = let f = fresh units_of s t e in sessions.after (h265_laws s f.0) f.1 calls
