-- R-10, proved: each claim is the law of all units, or of all sessions, at the units of H.265.
use native.Mathlib.Omega.{arith}
use Rattle.settings.proofs.Grid.{unit_taken}
use Rattle.unit.proofs.Decided.{reading_decides, turning_decides}
use Rattle.unit.proofs.FlagBuffer.{planned}
use Rattle.unit.proofs.RoundTrips.{read_there, exact}
use Rattle.unit.proofs.TableStops.{stops_by_trees}
use Rattle.sessions.proofs.Demand as sessions
use Rattle.sessions.proofs.CellOrder.{each_cells, joined_cells}
use Rattle.picture.proofs.CallFaults.{call_decides_lem}
use Rattle.picture.proofs.PipelineOrder.{unit_order}
use Rattle.picture.proofs.Sessions.{at_due, moves, session_opens, fresh}
use Rattle.picture.proofs.StateCalls.{call_on_the_due}
use Rattle.h265settings.specs.Units.{units_of}
use Rattle.h265settings.proofs.Sound.{h265_sound}
use Rattle.h265.specs.H265.{Refuses, H265}
use Rattle.h265.proofs.QuadNodes.{quad_nodes}
use Rattle.h265.proofs.Bounds.{bounds}
use Rattle.h265.proofs.Sessions.{h265_units, h265_laws, demand3}

refuses : Refuses
refuses = record {
  opens = λ s. session_opens units_of s (h265_sound s);
  calls = λ t c. call_decides_lem (h265_sound t.settings) t.due c (at_due t.settings);
  due_unit = λ t c. call_on_the_due (units_of t.settings) t.due c;
  moves = moves units_of;
  reads = λ s. reading_decides (h265_sound s);
  turns = λ s. turning_decides (h265_sound s);
}

pub h265 : H265
h265 = record {
  nodes = quad_nodes;
  refuses = refuses;
  units = λ s a h. record { exact = exact (h265_sound s) a h; stops = stops_by_trees (h265_sound s) a h; planned = planned (h265_sound s) a h };
  bounds = bounds;
  order = λ s a flags buffer count e.
      let t = unit_taken (units_of s).refusal (units_of s).count a (read_there (h265_sound s) a flags buffer count e) in
      unit_order _ (h265_units s t.0) (omega arith) a flags buffer e;
  demand3 = demand3;
  pipeline = λ s t e calls.
      let f = fresh units_of s t e in
      let l = h265_laws s f.0 in
      record {
        own = λ small. sessions.after_inside l f.1 (omega arith) calls tt;
        each = each_cells l tt f.1 calls;
        all = joined_cells l tt f.1 calls;
      };
}
