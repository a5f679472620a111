-- The ends of a reading, over plain values: each way in which the code answers is what the delivery says.
use Prim.Native.Nat.{ℕ, ◌*◌, ◌≤◌, ◌<◌}
use mathlib.Core.Path.{◌≡◌, refl, sym, ap, ◌∙◌, subst}
use mathlib.Core.Bool.{Bool, true, false, cond}
use mathlib.Core.List.{List, ◌++◌}
use lib.Dec.{ltb}
use lib.ListN.{length, take, drop}
use lib.Seq.{sets, sets-eq}
use borrow.Author.Tests.{lt-ltb, le-ltb, ltb-true, leb-true, leb-false}
use Rattle.std.specs.Prelude.{Result, Ok, Err}
use Rattle.tree.specs.declared.Node.{Node}
use Rattle.tree.specs.Rows.{row_of, row_bytes, table_bytes}
use Rattle.blocks.specs.RowNumbers.{row_word, word_bytes, words_bytes, put_word, Put}
use Rattle.blocks.proofs.RowNumbers.{word_bytes_lem}
use Rattle.refusals.specs.Said.{Accepted, Refused}
use Rattle.unit.specs.Answers.{Meets, deliver, finish_end}
use Rattle.unit.specs.Reader.{none_after}
use Rattle.nodes.specs.State.{place_of, given_of, refusal_number, refusal_place}
use Rattle.walks.proofs.Apart.{was_walked, was_refused}
use Rattle.reader.specs.Delivery.{deliver_one, deliver_all}

-- ---- a root that is a leaf

module _ (root : Node) (next : ℕ) (flags b : List ℕ) where
  pub one_more : next < length flags → Meets (deliver_one root next flags b) (Refused 13 next) b
  unfolding finish_end none_after
  one_more h = rw (lt-ltb _ _ h) (record { answers = refl; leaves = refl })

  -- the row is stored, or the buffer has no room for it
  module _ (all : length flags ≤ next) (word : ℕ) (is : word ≡ row_word (row_of root)) (fits : Bool) (z : List ℕ) (put : Put b 0 word fits z) where
    pub one_short : fits ≡ false → Meets (deliver_one root next flags b) (Refused 14 1) z
    unfolding finish_end none_after deliver table_bytes row_bytes put_word
    one_short n =
        let e = sym put.room ∙ n in
        rw (le-ltb _ _ all, lt-ltb (length b) 8 (leb-false 8 (length b) e)) (record { answers = refl; leaves = put.bytes ∙ rw e })

    pub one_done : fits ≡ true → Meets (deliver_one root next flags b) (Accepted 1) z
    unfolding finish_end none_after deliver table_bytes row_bytes put_word
    one_done y =
        let e = sym put.room ∙ y in
        let h = leb-true 8 (length b) e in
        let row : sets b 0 (word_bytes word) ≡ sets b 0 (row_bytes (row_of root)) = ap (λ w. sets b 0 (word_bytes w)) is ∙ ap (sets b 0) (word_bytes_lem (row_of root)) in
        rw (le-ltb _ _ all, le-ltb (length b) 8 h)
        (record { answers = refl; leaves = put.bytes ∙ rw e (row ∙ sets-eq (row_bytes (row_of root)) b 0 h) })

-- ---- the number that a walk answers

module _ (answer : ℕ) (w : Result ℕ ℕ) (apart : w ≡ cond (ltb answer 9223372036854775808) (Ok answer) (Err answer)) (scratch flags b : List ℕ) where
  pub all_stop : (place : ℕ) → w ≡ Err place → (number place : ℕ) → number ≡ refusal_number answer → place ≡ refusal_place answer
      → Meets (deliver_all answer scratch flags b) (Refused number place) b
  unfolding deliver_all
  all_stop _ is number place e f = rw (le-ltb _ _ (was_refused answer apart is), e, f) (record { answers = refl; leaves = refl })

  module _ (end : ℕ) (read : w ≡ Ok end) where
    read_is : (ltb answer 9223372036854775808 ≡ true) × (end ≡ answer)
    read_is = let on = was_walked answer apart read in (lt-ltb _ _ on.1, on.0)

    module _ (at : ℕ) (at-is : at ≡ place_of end) where
      at_place : place_of answer ≡ at
      at_place = sym (at-is ∙ ap (λ c. place_of c) read_is.1)

      pub all_more : at < length flags → Meets (deliver_all answer scratch flags b) (Refused 13 at) b
      unfolding deliver_all
      all_more h = rw (read_is.0, at_place, lt-ltb _ _ h) (record { answers = refl; leaves = refl })

      module _ (all : length flags ≤ at) (n : ℕ) (n-is : n ≡ given_of end) where
        n_count : given_of answer ≡ n
        n_count = sym (n-is ∙ ap (λ c. given_of c) read_is.1)

        pub all_few : (answer < 9223372036854775808 → given_of answer ≤ 1024) → n ≤ 1024
        all_few few = subst (λ (i : ℕ). i ≤ 1024) n_count (few (ltb-true _ _ read_is.0))

        pub all_short : length b < n * 8 → Meets (deliver_all answer scratch flags b) (Refused 14 n) b
        unfolding deliver_all
        all_short h = rw (read_is.0, at_place, n_count, le-ltb _ _ all, lt-ltb _ _ h) (record { answers = refl; leaves = refl })

        pub all_done : n * 8 ≤ length b → (z : List ℕ) → z ≡ words_bytes (take n scratch) ++ drop (n * 8) b → Meets (deliver_all answer scratch flags b) (Accepted n) z
        unfolding deliver_all
        all_done h z e = rw (read_is.0, at_place, n_count, le-ltb _ _ all, le-ltb _ _ h) (record { answers = refl; leaves = e })
