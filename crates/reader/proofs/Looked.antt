-- The reading of a unit that was looked for.
use Rattle.std.proofs.Common.{Ok, Err}
use Prim.Native.Nat.{ℕ}
use mathlib.Core.Path.{◌≡◌, refl}
use mathlib.Core.List.{List}
use borrow.Author.Tests.{ne_eqb}
use Rattle.refusals.specs.declared.Reason.{Reason}
use Rattle.refusals.specs.Numbers.{number}
use Rattle.refusals.proofs.Numbers.{not_0}
use Rattle.settings.specs.declared.Settings.{Settings}
use Rattle.settings.specs.declared.Square.{Square}
use Rattle.settings.specs.Units.{Located, located_by, refusal_at, unit_count, square_at}
use Rattle.tree.specs.declared.Limits.{Limits}
use Rattle.tree.specs.declared.Node.{Node}
use Rattle.tree.specs.Kind.{luma}
use Rattle.unit.specs.Answers.{Answer}
use Rattle.refusals.specs.Said as answer
use Rattle.unit.specs.Answers.{Meets}
use Rattle.unit.specs.Units.{Units, root_of}
use Rattle.unit.specs.Luma.{LumaUnits, kind_of}
use Rattle.unit.specs.Reader.{read_tree, read_located, read_in}

module _ (m : Limits) {at found : Located} (e : at ≡ found) (flags b : List ℕ) where
  pub none_read : {number : ℕ} → at ≡ Err number → Meets (read_located (luma m) found flags b) (answer.Refused number 0) b
  unfolding read_located
  none_read h = rw (← e, h) (record { answers = refl; leaves = refl })

  pub there_read : {q : Square} → at ≡ Ok q → {l : Limits} {root : Node} → l ≡ m → root ≡ root_of q → {said : Answer} {left : List ℕ}
      → Meets (read_tree (luma l) root flags b) said left → Meets (read_located (luma m) found flags b) said left
  unfolding read_located
  there_read h i j t = rw (← e, h) (rw (i, j) at t)

-- the settings are refused
pub refused_read : (us : Units) (r : Reason) → number r ≡ us.refusal → (a : ℕ) (flags b : List ℕ) → Meets (read_in us a flags b) (answer.Refused (number r) 0) b
unfolding read_located located_by refusal_at
refused_read us r e a flags b = let n = ne_eqb _ 0 (not_0 r) in rw (← e, n, n) (record { answers = refl; leaves = refl })

-- they are taken: the units are those of H.266's numbers
pub luma_read : {us : Units} {s : Settings} → LumaUnits us s → 0 ≡ us.refusal → (a : ℕ) (flags b : List ℕ) {said : Answer} {left : List ℕ}
    → Meets (read_located (kind_of s) (located_by (refusal_at 0 (unit_count s) a) (square_at s a)) flags b) said left → Meets (read_in us a flags b) said left
luma_read l e a flags b m = rw (← e, l.kind, l.count, l.square a) m
