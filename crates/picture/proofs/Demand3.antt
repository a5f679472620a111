-- Demand 3, proved: it is that of `sessions`, for the greyscale session, whose addresses follow each other.
use Prim.Native.Nat.{◌+◌}
use mathlib.Core.Path.{◌≡◌, refl, sym, subst}
use mathlib.Core.List.{List}
use Rattle.settings.specs.declared.Settings.{Settings}
use Rattle.settings.specs.Checks.{settings_refusal}
use Rattle.settings.specs.Units.{unit_count}
use Rattle.settings.proofs.Passed.{passed}
use Rattle.unit.specs.Luma.{units_of}
use Rattle.unit.proofs.Luma.{usable, luma_sound}
use Rattle.sessions.proofs.Order.{raster}
use Rattle.sessions.proofs.Laws.{Laws}
use Rattle.sessions.proofs.Demand as sessions
use Rattle.picture.specs.declared.Session.{Session}
use Rattle.picture.specs.State.{Call}
use Rattle.picture.specs.Session.{unit_call, following}
use Rattle.picture.specs.OneTree.{greyscale, one_tree}
use Rattle.picture.specs.Demand3.{After, Demand3}
use Rattle.picture.proofs.OneTree.{UnitLaws, one_tree_lem}
use Rattle.picture.proofs.LumaUnits.{luma_laws}
use Rattle.picture.proofs.Sessions.{at_due, fresh, session_laws}

module _ (s : Settings) where
  pub greyscale_units : settings_refusal s ≡ 0 → UnitLaws (greyscale s)
  greyscale_units ok = luma_laws (luma_sound s) (usable (passed s ok))

  pub greyscale_laws : settings_refusal s ≡ 0
      → Laws (one_tree (greyscale s) (Session Settings) (unit_call units_of) following) 0 (λ a. a + 1) (λ a t. t ≡ at_due s a)
  greyscale_laws ok = one_tree_lem (greyscale s) (greyscale_units ok) (raster (unit_count s)) (session_laws units_of s s.ctu)

  after : settings_refusal s ≡ 0 → (calls : List Call) → After s (at_due s 0) calls
  after ok calls =
      let a = sessions.after (greyscale_laws ok) refl calls in
      record {
        covered = a.covered tt;
        complete = a.complete;
        pipeline = a.pipeline tt;
        back = a.back;
        legible = λ others. let l = a.legible others in (λ e. l.0 (λ i. e), λ e. l.1 e tt);
      }

pub demand3 : Demand3
demand3 s t e calls = let f = fresh units_of s t e in subst (λ x. After s x calls) (sym f.1) (after s f.0 calls)
