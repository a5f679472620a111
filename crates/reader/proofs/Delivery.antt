-- What a walk of a whole tree answers, delivered, is the reading's end; and when the first flag makes a root a leaf.
use Prim.Native.Nat.{ℕ, ◌+◌, ◌*◌, ◌≤◌, ◌<◌}
use mathlib.Core.Path.{◌≡◌, refl, ap, ap₂, subst, ◌∙◌}
use mathlib.Core.Bool.{Bool, true, false, not, ◌&&◌, ◌||◌, cond}
use mathlib.Core.List.{List, [], ◌∷◌, ◌++◌}
use native.Mathlib.Omega.{arith}
use lib.Dec.{ltb, eqb}
use lib.ListN.{length, get_or, take, drop}
use borrow.Author.Tests.{lt-ltb, le-ltb, eqb-true}
use Rattle.sides.proofs.Bools.{clash, and_left, and_right}
use Rattle.tree.specs.declared.Decision.TheVariants.{Leaf}
use Rattle.tree.specs.Flags.{Value}
use Rattle.tree.specs.Flags.{Chosen}
use Rattle.tree.specs.Rows.{Row, table_bytes}
use Rattle.tree.specs.Run.{Run, End, goes, stops}
use Rattle.tree.specs.Splits.{Rights, bit, open_splits}
use Rattle.tree.specs.Flags.{some_open, flag_at, after_split, decide}
use Rattle.blocks.specs.RowNumbers.{words_bytes}
use Rattle.blocks.proofs.RowNumbers.{word_bytes_lem}
use Rattle.refusals.specs.Said.{Accepted}
use Rattle.unit.specs.Answers.{refused, deliver, finish_end, finish}
use Rattle.unit.specs.Reader.{none_after}
use Rattle.unit.proofs.Parsed.{table_length}
use Rattle.nodes.specs.State.{place_of, given_of, refusal, refusal_number, refusal_place}
use Rattle.walks.specs.Walks.{Says, Done}
use Rattle.parser.specs.Walking.{row_words, read_way, leaf_next}
use Rattle.reader.specs.Delivery.{deliver_all}
use Rattle.parser.proofs.Decided.{none_open}

-- ---- rows as they are stored

rows_bytes : (rows : List Row) → words_bytes (row_words rows) ≡ table_bytes rows
unfolding words_bytes row_words table_bytes
rows_bytes [] = refl
rows_bytes (r ∷ rows) = ap₂ (λ (a b : List ℕ). a ++ b) (word_bytes_lem r) (rows_bytes rows)

-- ---- the number of an end, from the first row on

module _ (flags : List ℕ) (run : Run Row ℕ) {b z : List ℕ} {answer : ℕ} (done : Done (read_way flags) run 0 b answer z) (few : 16 * length run.given ≤ 16384) where
  pub said_from : (end : End ℕ) → run.end ≡ end → Says (read_way flags) answer (length run.given) end
  said_from end e = subst (λ x. Says (read_way flags) answer (length run.given) x) e (subst (λ (i : ℕ). Says (read_way flags) answer i run.end) (omega arith) done.said)

  -- the rows so far, where the walk was not refused
  pub count_small : answer < 9223372036854775808 → given_of answer ≤ 1024
  unfolding Says
  count_small h = go run.end refl
    where
      go : (end : End ℕ) → run.end ≡ end → given_of answer ≤ 1024
      go (goes at) e = let s = (said_from (goes at) e).0 in omega arith
      go (stops k p) e = let s = said_from (stops k p) e in absurd (omega arith)

  -- the rows are the front of the scratch table
  front : words_bytes (take (length run.given) z) ≡ table_bytes run.given
  front =
      let i : length run.given ≡ given_of 0 + length run.given = omega arith in
      ap (λ (n : ℕ). words_bytes (take n z)) i ∙ ap words_bytes done.given ∙ rows_bytes run.given

-- ---- delivery, over plain values

module _ (flags b : List ℕ) (answer : ℕ) (z : List ℕ) where
  -- a walk that goes on from a place after so many rows
  went : (at count : ℕ) → (given_of answer ≡ count) × (place_of answer ≡ at) → count ≤ 1024 → (bytes : List ℕ) → length bytes ≡ count * 8 → words_bytes (take count z) ≡ bytes
      → deliver_all answer z flags b ≡ finish_end 14 count bytes (none_after flags (goes at)) b
  unfolding deliver_all finish_end none_after deliver
  went at count is few bytes l e = rw (lt-ltb answer 9223372036854775808 (let c = is.0 in omega arith), is.0, is.1) (go (ltb at (length flags)) refl)
    where
      go : (t : Bool) → ltb at (length flags) ≡ t
          → cond (ltb at (length flags)) (refused 13 at b) (cond (ltb (length b) (count * 8)) (refused 14 count b) (record { answer = Accepted count; buffer = words_bytes (take count z) ++ drop (count * 8) b }))
          ≡ finish_end 14 count bytes (cond (ltb at (length flags)) (stops 13 at) (goes at)) b
      go true h = rw h
      go false h = rw (h, l, e)

  -- a walk that stops
  stopped : (number place : ℕ) → answer ≡ refusal number place → number < 32 → place < 288230376151711744 → deliver_all answer z flags b ≡ refused number place b
  unfolding deliver_all
  stopped number place e h q =
      let n : refusal_number answer ≡ number = omega arith in
      let p : refusal_place answer ≡ place = omega arith in
      rw (le-ltb answer 9223372036854775808 (omega arith), n, p)

-- the number that a walk of a whole tree answers, delivered, is the reading's end
pub all_is : (flags : List ℕ) (run : Run Row ℕ) {b z : List ℕ} {answer : ℕ} → Done (read_way flags) run 0 b answer z → 16 * length run.given ≤ 16384
    → ((number place : ℕ) → run.end ≡ stops number place → (number < 32) × (place < 288230376151711744))
    → (buffer : List ℕ)
    → deliver_all answer z flags buffer ≡ finish table_bytes 14 (record { given = run.given; end = none_after flags run.end }) buffer
unfolding Says none_after finish_end
all_is flags run {b} {z} {answer} done few small buffer = go run.end refl
  where
    go : (end : End ℕ) → run.end ≡ end → deliver_all answer z flags buffer ≡ finish table_bytes 14 (record { given = run.given; end = none_after flags run.end }) buffer
    go (goes at) e =
        let l : length (table_bytes run.given) ≡ length run.given * 8 = let c = table_length run.given in omega arith in
        rw e (went flags buffer answer z at (length run.given) (said_from flags run done few (goes at) e) (omega arith) (table_bytes run.given) l (front flags run done few))
    go (stops k p) e = let s = small k p e in rw e (stopped flags buffer answer z k p (said_from flags run done few (stops k p) e) s.0 s.1)

-- ---- a root that is a leaf by its first flag

-- the split flag, where some split is open or none is
zero_flag : (within some : Bool) (flags : List ℕ) → (not (not within) && (not some || (ltb 0 (length flags) && eqb (get_or flags 0 0) 0))) ≡ true
    → flag_at (within && some) (not within) flags 0 ≡ Value false (bit (not (not some)) 1)
unfolding flag_at
zero_flag true true flags h =
    let t = and_left (ltb 0 (length flags)) _ h in
    let z = eqb-true (get_or flags 0 0) 0 (and_right (ltb 0 (length flags)) _ h) in
    rw (t, z)
zero_flag true false flags h = refl
zero_flag false some flags h = clash h refl

-- the number may be any that is 0 where that of the open splits is
pub leaf_is : (r : Rights) (flags : List ℕ) (splits : ℕ) → eqb splits 0 ≡ eqb (open_splits r) 0 → leaf_next (not r.within) splits flags 0 ≡ true → decide r flags 0 ≡ Chosen Leaf (bit (not (eqb splits 0)) 1)
unfolding decide after_split
leaf_is r flags splits is h =
    let e = is ∙ none_open r in
    rw (zero_flag r.within (some_open r) flags (rw e at h), e)
