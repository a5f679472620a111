-- How many rows contain a sample, and what is seen there.
use Prim.Native.Nat.{ℕ, ◌+◌, ◌*◌, ◌^◌, ◌≤◌}
use mathlib.Core.Path.{◌≡◌, refl, ap, ◌∙◌}
use mathlib.Core.Bool.{Bool, true, false, ◌&&◌, cond}
use mathlib.Core.List.{List, [], ◌∷◌, ◌++◌, append-nil}
use native.Mathlib.Omega.{arith}
use Rattle.tree.specs.declared.Direction.{Direction}
use Rattle.tree.specs.Splits.{bit}
use Rattle.tree.specs.Rows.{Row}
use Rattle.laws.specs.Geometry.{span, in_row, copies}
use Rattle.laws.proofs.Rectangles.{Between, in_rectangle}
use Rattle.numbers.specs.Numbers.{unavailable}
use Rattle.numbers.specs.Walk.{put_all}
use Rattle.numbers.specs.Standard.{among, holds, seen, seen_at, standard}

bit_and_lem : (a b : Bool) → bit a 1 * bit b 1 ≡ bit (a && b) 1
bit_and_lem true b = omega arith
bit_and_lem false b = omega arith

-- a row counts where it holds the sample
holds_count : (r : Row) (px py : ℕ) → in_row r px py ≡ bit (holds r px py) 1
unfolding span
holds_count r px py = bit_and_lem (among r.x (2 ^ r.ew) px) (among r.y (2 ^ r.eh) py)

pub holds_between : (r : Row) (px py : ℕ) → holds r px py ≡ true → Between r.x (2 ^ r.ew) px × Between r.y (2 ^ r.eh) py
holds_between r px py h =
    let c = holds_count r px py in
    let e : bit (holds r px py) 1 ≡ 1 = rw h in
    in_rectangle r.x r.y (2 ^ r.ew) (2 ^ r.eh) px py (omega arith)

module _ (px py : ℕ) where
  pub copies_put : (rows done : List Row) → copies px py (put_all standard rows done) ≡ copies px py rows + copies px py done
  unfolding copies put_all
  copies_put [] done = omega arith
  copies_put (r ∷ rows) done = let e = copies_put rows (r ∷ done) in omega arith

  -- what no row holds is not seen, and rows after it change nothing
  pub seen_past : (d : Direction) (later done : List Row) → copies px py later ≡ 0 → seen_at d px py (later ++ done) ≡ seen_at d px py done
  unfolding copies seen_at
  seen_past d [] done e = refl
  seen_past d (r ∷ later) done e = go (holds r px py) (holds_count r px py) (λ z. seen_past d later done z)
    where
      go : (b : Bool) → in_row r px py ≡ bit b 1 → (copies px py later ≡ 0 → seen_at d px py (later ++ done) ≡ seen_at d px py done)
          → cond b (seen d r) (seen_at d px py (later ++ done)) ≡ seen_at d px py done
      go true h rest = absurd (omega arith)
      go false h rest = rest (omega arith)

  pub seen_none : (d : Direction) (rows : List Row) → copies px py rows ≡ 0 → seen_at d px py rows ≡ unavailable
  unfolding seen_at
  seen_none d rows e = rw append-nil at (seen_past d rows [] e)

  -- ---- the order of rows is of no account where none of them holds a sample twice

  seen_skip : (d : Direction) (r : Row) → holds r px py ≡ false → (rows done : List Row) → seen_at d px py (rows ++ (r ∷ done)) ≡ seen_at d px py (rows ++ done)
  unfolding seen_at
  seen_skip d r h [] done = rw h
  seen_skip d r h (a ∷ rows) done = ap (cond (holds a px py) (seen d a)) (seen_skip d r h rows done)

  seen_move : (d : Direction) (r : Row) (rows done : List Row) → copies px py (r ∷ rows) ≤ 1 → seen_at d px py (rows ++ (r ∷ done)) ≡ seen_at d px py (r ∷ (rows ++ done))
  unfolding copies seen_at
  seen_move d r rows done once = go (holds r px py) refl (holds_count r px py)
    where
      go : (b : Bool) → holds r px py ≡ b → in_row r px py ≡ bit (holds r px py) 1
          → seen_at d px py (rows ++ (r ∷ done)) ≡ cond (holds r px py) (seen d r) (seen_at d px py (rows ++ done))
      go true h c = let n : bit (holds r px py) 1 ≡ 1 = rw h in seen_past d rows (r ∷ done) (omega arith) ∙ rw h
      go false h c = rw h (seen_skip d r h rows done)

  pub seen_order : (d : Direction) (rows done : List Row) → copies px py rows ≤ 1 → seen_at d px py (put_all standard rows done) ≡ seen_at d px py (rows ++ done)
  unfolding copies put_all
  seen_order d [] done once = refl
  seen_order d (r ∷ rows) done once = seen_order d rows (r ∷ done) (omega arith) ∙ seen_move d r rows done once
