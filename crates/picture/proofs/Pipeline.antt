-- R-4, proved: from demand 3, and for CTU side 32 from a unit's root, which is a pipeline unit.
use mathlib.Core.Path.{◌≡◌, ap}
use native.Mathlib.Omega.{arith}
use Rattle.laws.specs.Geometry.{pipeline_side}
use Rattle.laws.proofs.Pipeline.{side_from_64}
use Rattle.unit.specs.Luma.{units_of}
use Rattle.sessions.proofs.Demand as sessions
use Rattle.picture.specs.Pipeline.{PipelineUnits}
use Rattle.picture.proofs.Demand3.{greyscale_laws, demand3}
use Rattle.picture.proofs.Sessions.{fresh}

pub pipeline_units : PipelineUnits
pipeline_units s t e calls =
    let f = fresh units_of s t e in
    record {
      of_32 = λ small.
          let side : pipeline_side s.ctu ≡ 32 = ap pipeline_side small in
          rw side at (sessions.after_inside (greyscale_laws s f.0) f.1 (omega arith) calls tt);
      of_64 = λ large. rw (side_from_64 s.ctu large) at (demand3 s t e calls).pipeline;
    }
