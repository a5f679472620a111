-- The test and the way back of a unit that was looked for.
use Rattle.std.proofs.Common.{Ok, Err}
use Prim.Native.Nat.{ℕ}
use mathlib.Core.Path.{◌≡◌, refl}
use mathlib.Core.List.{List}
use borrow.Author.Tests.{ne_eqb}
use Rattle.refusals.specs.declared.Reason.{Reason}
use Rattle.refusals.specs.Numbers.{number}
use Rattle.refusals.proofs.Numbers.{not_0}
use Rattle.settings.specs.declared.Settings.{Settings}
use Rattle.settings.specs.declared.Square.{Square}
use Rattle.settings.specs.Units.{Located, located_by, refusal_at, unit_count, square_at}
use Rattle.tree.specs.declared.Limits.{Limits}
use Rattle.tree.specs.declared.Node.{Node}
use Rattle.tree.specs.Kind.{luma}
use Rattle.unit.specs.Answers.{Answer}
use Rattle.refusals.specs.Said as answer
use Rattle.unit.specs.Answers.{Meets, finish_end, answer_of}
use Rattle.unit.specs.Units.{Units, root_of}
use Rattle.unit.specs.Luma.{LumaUnits, kind_of}
use Rattle.unit.specs.Writer.{test_rows, test_located, write_rows, write_located, write_in}

module _ (m : Limits) {at found : Located} (e : at ≡ found) (bytes : List ℕ) where
  -- a unit that is not there
  module _ {number : ℕ} (h : at ≡ Err number) where
    pub none_tested : answer.Refused number 0 ≡ answer_of (test_located (luma m) found bytes)
    unfolding test_located
    none_tested = rw (← e, h)

    pub none_written : (b : List ℕ) → Meets (write_located (luma m) found bytes b) (answer.Refused number 0) b
    unfolding write_located test_located finish_end
    none_written b = rw (← e, h) (record { answers = refl; leaves = refl })

  -- a unit that is there
  module _ {q : Square} (h : at ≡ Ok q) {l : Limits} {root : Node} (i : l ≡ m) (j : root ≡ root_of q) where
    pub there_tested : {said : Answer} → said ≡ answer_of (test_rows (luma l) root bytes) → said ≡ answer_of (test_located (luma m) found bytes)
    unfolding test_located
    there_tested t = rw (← e, h) (rw (i, j) at t)

    pub there_written : (b : List ℕ) {said : Answer} {left : List ℕ}
        → Meets (write_rows (luma l) root bytes b) said left → Meets (write_located (luma m) found bytes b) said left
    unfolding write_located write_rows test_located
    there_written b t = rw (← e, h) (rw (i, j) at t)

-- the settings are refused
pub refused_written : (us : Units) (r : Reason) → number r ≡ us.refusal → (a : ℕ) (bytes b : List ℕ) → Meets (write_in us a bytes b) (answer.Refused (number r) 0) b
unfolding write_located test_located finish_end located_by refusal_at
refused_written us r e a bytes b = let n = ne_eqb _ 0 (not_0 r) in rw (← e, n, n) (record { answers = refl; leaves = refl })

-- they are taken: the units are those of H.266's numbers
pub luma_written : {us : Units} {s : Settings} → LumaUnits us s → 0 ≡ us.refusal → (a : ℕ) (bytes b : List ℕ) {said : Answer} {left : List ℕ}
    → Meets (write_located (kind_of s) (located_by (refusal_at 0 (unit_count s) a) (square_at s a)) bytes b) said left → Meets (write_in us a bytes b) said left
luma_written l e a bytes b m = rw (← e, l.kind, l.count, l.square a) m
