-- The end of a reading as the code takes it: from a root that is a leaf, and from the number that a walk answers.
use Rattle.std.specs.Prelude.{ℕ, ◌*◌, not, cond, List, [], ◌∷◌, ◌++◌, length, take, drop, ltb, eqb}
use Rattle.tree.specs.declared.Node.{Node}
use Rattle.tree.specs.Splits.{bit}
use Rattle.tree.specs.Rows.{row_of, table_bytes}
use Rattle.tree.specs.Run.{goes}
use Rattle.blocks.specs.RowNumbers.{words_bytes}
use Rattle.refusals.specs.Said.{Accepted}
use Rattle.unit.specs.Answers.{Outcome, refused, finish}
use Rattle.unit.specs.Reader.{none_after}
use Rattle.nodes.specs.State.{place_of, given_of, refusal_number, refusal_place}

-- the flags that a leaf has: its split flag, where some split is open
abbrev pub leaf_count : ℕ → ℕ
leaf_count splits = bit (not (eqb splits 0)) 1

-- the row of a root that is a leaf
abbrev pub deliver_one : Node → ℕ → List ℕ → List ℕ → Outcome
deliver_one root next flags buffer = finish table_bytes 14 (record { given = row_of root ∷ []; end = none_after flags (goes next) }) buffer

-- the rows in a scratch table, by the number that a walk answers
unfoldable pub deliver_all : ℕ → List ℕ → List ℕ → List ℕ → Outcome
deliver_all answer scratch flags buffer =
    cond (ltb answer 9223372036854775808)
    (cond (ltb (place_of answer) (length flags)) (refused 13 (place_of answer) buffer)
    (cond (ltb (length buffer) (given_of answer * 8)) (refused 14 (given_of answer) buffer)
    (record { answer = Accepted (given_of answer); buffer = words_bytes (take (given_of answer) scratch) ++ drop (given_of answer * 8) buffer })))
    (refused (refusal_number answer) (refusal_place answer) buffer)
