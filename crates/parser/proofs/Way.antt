-- The reading is a lawful walk: its rows and its places stay within the area of its nodes.
use Prim.Native.Nat.{ℕ}
use mathlib.Core.Path.{◌≡◌, refl, ap}
use mathlib.Core.List.{List, [], ◌∷◌, ◌++◌}
use native.Mathlib.Omega.{arith}
use Rattle.tree.specs.declared.Node.{Node}
use Rattle.tree.specs.Kind.{Kind}
use Rattle.tree.specs.Rows.{Row}
use Rattle.tree.specs.Run.{over_all}
use Rattle.blocks.specs.RowNumbers.{row_word}
use Rattle.laws.specs.Areas.{areas_of, flag_room}
use Rattle.laws.specs.Proper.{Proper}
use Rattle.laws.proofs.Bounds.{Bound, reading_bound}
use Rattle.walks.specs.Stands.{Placed}
use Rattle.walks.specs.Walks.{walk_over}
use Rattle.walks.proofs.Lawful.{Lawful}
use Rattle.walks.proofs.One.{here_or_gone}
use Rattle.parser.specs.Walking.{row_words, read_way}

words_append : (first rest : List Row) → row_words (first ++ rest) ≡ row_words first ++ row_words rest
unfolding row_words
words_append [] rest = refl
words_append (r ∷ first) rest = ap (λ (w : List ℕ). row_word r ∷ w) (words_append first rest)

-- the reading of one node is bounded by its area, also where it is skipped
one_bound : {k : Kind} → Proper k → {n : Node} → Placed k.limits n → (flags : List ℕ) (at : ℕ) → Bound n at (walk_over (read_way flags) k (n ∷ []) at)
unfolding over_all
one_bound {k} v {n} s flags at =
    here_or_gone (read_way flags) k n at (λ r. Bound n at r) (λ here. reading_bound v s.good s.sum here flags at)
    (record { rows = omega arith; place = λ next h. let f : at ≡ next = cc in omega arith })

pub read_lawful : (flags : List ℕ) → Lawful (read_way flags)
unfolding areas_of flag_room
read_lawful flags = record {
  join = words_append;
  step = λ k n v s ns p count at is room.
      let b = one_bound v s flags at in
      let q = b.rows in
      let e = room.for_rows in
      let f = room.for_flags in
      record {
        small = omega arith;
        room = λ next t h i. let w = b.place t h in record { for_rows = omega arith; for_flags = omega arith };
      };
}

-- nothing is stored of no rows
pub none_stored : row_words [] ≡ []
unfolding row_words
none_stored = refl
