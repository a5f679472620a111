-- What a split asks for the search of its parts, and answers by it; and its parts, one after the other.
use Prim.Native.Nat.{ℕ, ◌+◌, ◌-◌, ◌/◌, ◌%◌, ◌≤◌, ◌<◌}
use mathlib.Core.Path.{◌≡◌, refl, sym, ap, ap₂, ◌∙◌}
use mathlib.Core.Bool.{Bool, true, false}
use mathlib.Core.List.{List, [], ◌∷◌}
use native.Mathlib.Omega.{arith}
use lib.ListN.{length}
use Rattle.tree.specs.declared.Node.{Node}
use Rattle.tree.specs.declared.Decision.{Decision}
use Rattle.tree.specs.Kind.{Kind}
use Rattle.tree.specs.Splits.{is_split, rights_of, rights_in, allows}
use Rattle.tree.specs.Children.{shares, children}
use Rattle.tree.specs.Rows.{Row}
use Rattle.tree.specs.Search.{fit_node}
use Rattle.laws.specs.Areas.{areas_of, flag_room}
use Rattle.laws.proofs.Areas.{kids_areas}
use Rattle.laws.proofs.FitRuns.{over_fit}
use Rattle.laws.proofs.FlagAreas.{decision_room}
use Rattle.laws.proofs.Shown.{any_split, any_shut}
use Rattle.nodes.specs.State.{refusal, place_of}
use Rattle.nodes.specs.RowNodes.{child_row}
use Rattle.walks.specs.Stands.{Word, word, Outer, AllStand, no_more, one_more}
use Rattle.walks.specs.Walks.{Ready, Asked, Walked}
use Rattle.walks.proofs.Children.{outer_placed}
use Rattle.walks.proofs.Lists.{none_walked, asked_first, walked_stop, asked_rest, walked_rest}
use Rattle.walks.proofs.One.{some_case}
use Rattle.search.specs.Walking.{search_way, Known, left_to, words_from, Falls, Tried}
use Rattle.search.proofs.Answers.{stuck_here}
use Rattle.search.proofs.PartWords.{words_next, words_end, known_kids, known_falls}
use Rattle.search.proofs.Way.{search_lawful}

-- ---- a split

only : {stands : Node → Word → Type 0} {n : Node} {w : Word} → AllStand stands (n ∷ []) (w ∷ []) → stands n w
only (one_more s no_more) = s

opens : (d : Decision) {out : Bool} {splits : ℕ} {k : Kind} {n : Node} {w : Word} → allows (rights_in out splits) d ≡ true → Known out splits k n w → allows (rights_of k n) d ≡ true
opens d e s = ap (λ r. allows r d) s.rights ∙ e

module _ {bytes u : List ℕ} {c row depths : ℕ} {out : Bool} {splits : ℕ} (d : Decision) (split : is_split d ≡ true) where
  -- it is closed
  pub split_shut : allows (rights_in out splits) d ≡ false → {at r : ℕ} → at ≡ place_of c → r ≡ refusal (16 % 32) (at / 8 % 288230376151711744) → Tried bytes out splits u c (word row depths) (d ∷ []) r
  split_shut shut place e = record {
    each = λ k n rows x.
        let s = only x.stand in
        stuck_here bytes c x.placed place e (any_shut x.proper s.placed.good s.here s.placed.sum rows d (ap (λ r. allows r d) s.rights ∙ shut));
  }

  module _ (open-here : allows (rights_in out splits) d ≡ true) where
    parts_ready : {k : Kind} {n : Node} {rows : List Row} → Ready (search_way bytes) (Known out splits) k (n ∷ []) rows u c (word row depths ∷ [])
        → Ready (search_way bytes) Outer k (children k.limits n d) rows u c (words_from u row depths out d 0 (length (shares d) - 0))
    unfolding areas_of flag_room
    parts_ready {k} {n} x =
        let s = only x.stand in
        let a = kids_areas k.limits s.placed.good.shape d split in
        let f = decision_room x.proper s.placed.good.shape d (opens d open-here s) in
        let q = x.room.for_rows in
        let g = x.room.for_flags in
        record {
          proper = x.proper;
          table = x.table;
          stand = rw x.table (known_kids x.proper s d (opens d open-here s));
          placed = x.placed;
          room = record { for_rows = omega arith; for_flags = omega arith };
        }

    -- its parts are asked
    pub parts_asked : Asked (search_way bytes) (Known out splits) u c (word row depths ∷ [])
        → Asked (search_way bytes) Outer u c (words_from u row depths out d 0 (length (shares d) - 0)) × Falls row d
    parts_asked a = some_case (search_way bytes) (Known out splits) u c (word row depths) a (λ k n rows x. (
      record {
        kind = k;
        nodes = children k.limits n d;
        state = rows;
        ready = parts_ready (record { proper = x.proper; table = x.table; stand = one_more x.stands_for no_more; placed = x.placed; room = x.room });
      },
      known_falls x.proper x.stands_for d split (opens d open-here x.stands_for),
    ))

    -- what they answer, it answers
    pub split_tried : {r : ℕ} → Walked (search_way bytes) Outer u c (words_from u row depths out d 0 (length (shares d) - 0)) [] r [] → Tried bytes out splits u c (word row depths) (d ∷ []) r
    split_tried w = record {
      each = λ k n rows x.
          let s = only x.stand in
          rw (any_split x.proper s.placed.good s.here s.placed.sum rows d split (opens d open-here s), ← (over_fit k (fit_node k) (length bytes / 8) (children k.limits n d) rows))
          (w.done k (children k.limits n d) rows (parts_ready x));
    }

-- ---- its parts, one after the other

-- none is left
pub parts_ended : (u : List ℕ) (row depths : ℕ) (out : Bool) (d : Decision) (i : ℕ) {bytes : List ℕ} {c : ℕ} → length (shares d) ≤ i
    → Walked (search_way bytes) Outer u c (words_from u row depths out d i (length (shares d) - i)) [] c []
parts_ended u row depths out d i {bytes} {c} h = rw (words_end u row depths out d i h) (none_walked (search_way bytes) Outer u c [] refl)

-- one is, with its numbers
pub record Part (u : List ℕ) (row depths : ℕ) (out : Bool) (d : Decision) (i part left : ℕ) : Type 0 where
  pub more : i < length (shares d)
  pub part_is : part ≡ child_row row d i
  pub left_is : left ≡ left_to u row depths out d i

module _ {u : List ℕ} {row depths : ℕ} {out : Bool} {d : Decision} {i part left : ℕ} (p : Part u row depths out d i part left) where
  words_are : words_from u row depths out d i (length (shares d) - i) ≡ word part left ∷ words_from u row depths out d (i + 1) (length (shares d) - (i + 1))
  words_are = words_next u row depths out d i p.more ∙ ap₂ (λ a b. word a b ∷ words_from u row depths out d (i + 1) (length (shares d) - (i + 1))) (sym p.part_is) (sym p.left_is)

  module _ {bytes : List ℕ} {c : ℕ} (asked : Asked (search_way bytes) Outer u c (words_from u row depths out d i (length (shares d) - i))) where
    asked_parts : Asked (search_way bytes) Outer u c (word part left ∷ words_from u row depths out d (i + 1) (length (shares d) - (i + 1)))
    asked_parts = rw words_are at asked

    pub part_asked : Asked (search_way bytes) Outer u c (word part left ∷ [])
    part_asked = asked_first (search_way bytes) Outer (search_lawful bytes) outer_placed asked_parts

    module _ {r : ℕ} (first : Walked (search_way bytes) Outer u c (word part left ∷ []) [] r []) where
      pub part_refused : 9223372036854775808 ≤ r → Walked (search_way bytes) Outer u c (words_from u row depths out d i (length (shares d) - i)) [] r []
      part_refused h = rw words_are (walked_stop (search_way bytes) Outer (search_lawful bytes) outer_placed first h)

      module _ {x : ℕ} (on : (x ≡ r) × (r < 9223372036854775808)) where
        pub rest_asked : Asked (search_way bytes) Outer u x (words_from u row depths out d (i + 1) (length (shares d) - (i + 1)))
        rest_asked = asked_rest (search_way bytes) Outer (search_lawful bytes) outer_placed first on asked_parts

        pub rest_walked : {q : ℕ} → Walked (search_way bytes) Outer u x (words_from u row depths out d (i + 1) (length (shares d) - (i + 1))) [] q []
            → Walked (search_way bytes) Outer u c (words_from u row depths out d i (length (shares d) - i)) [] q []
        rest_walked w = rw words_are (walked_rest (search_way bytes) Outer (search_lawful bytes) outer_placed first on w)
