-- A part of a list, written over.
use mathlib.Core.Path.{◌≡◌, sym}
use mathlib.Core.List.{List, ◌++◌, append_assoc}
use Prim.Native.Nat.{ℕ, ◌+◌, ◌-◌, ◌≤◌, min}
use native.Mathlib.Omega.{arith}
use borrow.Rule.Slice.PartMut.{put_mid}
use lib.ListN.{length, take, drop}
use lib.Seq.{sets, sets-eq, drop-drop}
use Rattle.blocks.specs.Copies.{copied}

-- a copy from the front, where both have n bytes
pub copied_all : (n : ℕ) (s d : List ℕ) → n ≤ length d → n ≤ length s → copied n s d ≡ take n s ++ drop n d
unfolding copied
copied_all n s d hd hs = let e : min n (min (length d) (length s)) ≡ n = omega arith in rw e

-- n numbers from a place on, written as a slice
pub part_stored : (b vs : List ℕ) (at n : ℕ) → n ≡ length vs → at + n ≤ length b → {ys : List ℕ} → ys ≡ vs → put_mid at (at + n - at) b ys ≡ sets b at vs
part_stored b vs at n long room e =
    let k : at + n - at ≡ n = omega arith in
    rw (e, k, drop-drop n at b, long, ← append_assoc) (sym (sets-eq vs b at (rw (← long) room)))
