-- Demand 1: the opening and the unit call are decided by their faults, as the two calls on a single unit are.
use Rattle.unit.specs.Luma.{units_of}
use Rattle.unit.proofs.Decided.{reading_decides, turning_decides}
use Rattle.unit.proofs.Luma.{luma_sound}
use Rattle.picture.specs.Demand1.{Demand1}
use Rattle.picture.proofs.CallFaults.{call_decides_lem}
use Rattle.picture.proofs.Sessions.{at_due, moves, session_opens}
use Rattle.picture.proofs.StateCalls.{call_on_the_due}

pub demand1 : Demand1
demand1 = record {
  opens = λ s. session_opens units_of s (luma_sound s);
  calls = λ t c. call_decides_lem (luma_sound t.settings) t.due c (at_due t.settings);
  due_unit = λ t c. call_on_the_due (units_of t.settings) t.due c;
  moves = moves units_of;
  reads = λ s. reading_decides (luma_sound s);
  turns = λ s. turning_decides (luma_sound s);
}
