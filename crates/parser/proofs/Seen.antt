-- The walk of one node, by what its flags decide: what the code of a walk asks of its callees, and what it gives, for nodes inside the picture and for nodes
-- that are out.
use Prim.Native.Nat.{ℕ, suc, ◌+◌, ◌*◌, ◌%◌, ◌^◌, ◌<◌, ◌≤◌}
use mathlib.Core.Path.{◌≡◌, ap, subst, ◌∙◌}
use mathlib.Core.Bool.{true}
use mathlib.Core.List.{List, [], ◌∷◌}
use native.Mathlib.Omega.{arith}
use lib.ListN.{length, set, length-set}
use lib.Seq.{take-suc-set}
use Rattle.tree.specs.declared.Node.{Node}
use Rattle.tree.specs.declared.Decision.{Decision}
use Rattle.tree.specs.declared.Decision.TheVariants.{Leaf}
use Rattle.tree.specs.Flags.{Choice}
use Rattle.tree.specs.Flags.{Chosen, Refused}
use Rattle.tree.specs.Kind.{Kind}
use Rattle.tree.specs.Splits.{rights_of}
use Rattle.tree.specs.Flags.{decide}
use Rattle.tree.specs.Children.{corner_inside}
use Rattle.tree.specs.Rows.{row_of}
use Rattle.tree.specs.Run.{before}
use Rattle.blocks.specs.RowNumbers.{row_word}
use Rattle.laws.specs.Areas.{areas_of}
use Rattle.laws.proofs.Areas.{least_area}
use Rattle.laws.proofs.Near.{decide_near, refused_near}
use Rattle.laws.proofs.Steps.{is_split, split_allowed, split_reads, reading_refused, reading_leaf, reading_split}
use Rattle.nodes.specs.State.{refusal, place_of, given_of}
use Rattle.walks.specs.Stands.{Word, Placed}
use Rattle.walks.specs.Walks.{walk_over, Done, Asked, Walked}
use Rattle.walks.proofs.One.{Case, some_case, each_case, nothing_stored, one_refused, one_done}
use Rattle.walks.proofs.RowFields.{shallow}
use Rattle.walks.proofs.Split.{Turn}
use Rattle.parser.specs.Walking.{row_words, read_way}
use Rattle.parser.proofs.Way.{none_stored}

-- a node that begins inside the picture, its row, and what the flags from a place on decide
pub record Seen (k : Kind) (n : Node) (row : ℕ) (flags : List ℕ) (at : ℕ) (choice : Choice) : Type 0 where
  pub placed : Placed k.limits n
  pub here : corner_inside k.limits n ≡ true
  pub says : row ≡ row_word (row_of n)
  pub decides : decide (rights_of k n) flags at ≡ choice

-- all that the numbers stand for decide so
pub record Sees (stands : Kind → Node → Word → Type 0) (u flags : List ℕ) (c : ℕ) (w : Word) (choice : Choice) : Type 0 where
  pub seen : {k : Kind} {n : Node} {s : ℕ} → Case (read_way flags) stands u c w k n s → Seen k n w.row flags (place_of c) choice

-- ---- a state at another place, which is small

moved_is : (p q m next : ℕ) → p < 4294967296 → q < 1024 → next ≤ 2147483652 → m < 2 ^ 64 → (m + p) % 2 ^ 64 ≡ (q * 4294967296 + p + next) % 2 ^ 64 → m ≡ q * 4294967296 + next
moved_is p q m next a b c d e = omega arith

moved_place : (q next m : ℕ) → next ≤ 2147483652 → m ≡ q * 4294967296 + next → (place_of m ≡ next) × (given_of m ≡ q)
moved_place q next m a e = (omega arith, omega arith)

-- ---- what the code knows

module _ (flags : List ℕ) {stands : Kind → Node → Word → Type 0} {u : List ℕ} {c : ℕ} {w : Word} where
  module _ {choice : Choice} (sees : Sees stands u flags c w choice) {k : Kind} {n : Node} {s : ℕ} (x : Case (read_way flags) stands u c w k n s) where
    at_case : Seen k n w.row flags s choice
    at_case = subst (λ (at : ℕ). Seen k n w.row flags at choice) x.placed (sees.seen x)

  pub walked_refused : {a p : ℕ} → Sees stands u flags c w (Refused a p) → {r : ℕ} → r ≡ refusal (a % 32) (p % 288230376151711744) → {b : List ℕ} → Walked (read_way flags) stands u c (w ∷ []) b r b
  walked_refused {a} {p} sees {r} e {b} = each_case (read_way flags) stands u c w (λ k n s x.
      let y = at_case sees x in
      let q = refused_near flags (rights_of k n) s y.decides in
      let i = x.placed in
      let f : refusal a p ≡ r = omega arith in
      subst (λ (r : ℕ). Done (read_way flags) (walk_over (read_way flags) k (n ∷ []) s) c b r b) f
      (one_refused (read_way flags) none_stored k n s c b y.here (reading_refused k flags n (shallow y.placed) s y.decides)))

  module _ {d : Decision} {next : ℕ} (sees : Sees stands u flags c w (Chosen d next)) where
    few : (k : Kind) (n : Node) (s : ℕ) → Case (read_way flags) stands u c w k n s → (given_of c < 1024) × (place_of c ≤ next) × (next ≤ place_of c + 4) × (place_of c ≤ 2147483648)
    unfolding areas_of
    few k n s x =
        let y = at_case sees x in
        let a = least_area y.placed.good.shape in
        let q = x.room.for_rows in
        let f = x.room.for_flags in
        let p = decide_near flags (rights_of k n) y.decides in
        let i = x.placed in
        omega arith

    -- there is room for its row
    pub row_fits : Asked (read_way flags) stands u c (w ∷ []) → given_of c < 1024
    row_fits a = (some_case (read_way flags) stands u c w a few).0

    -- the state after its flags
    pub moves : Asked (read_way flags) stands u c (w ∷ []) → {m : ℕ} → (m + place_of c) % 2 ^ 64 ≡ (c + next) % 2 ^ 64 → m < 2 ^ 64 → (place_of m ≡ next) × (given_of m ≡ given_of c)
    moves a {m} e h =
        let f = some_case (read_way flags) stands u c w a few in
        let i : c + next ≡ given_of c * 4294967296 + place_of c + next = omega arith in
        moved_place (given_of c) next m (omega arith) (moved_is (place_of c) (given_of c) m next (omega arith) (omega arith) (omega arith) h (e ∙ ap (λ (i : ℕ). i % 2 ^ 64) i))

  -- the state after one flag
  pub moves_one : {d : Decision} → Sees stands u flags c w (Chosen d (place_of c + 1)) → Asked (read_way flags) stands u c (w ∷ []) → {m : ℕ} → m ≡ (c + 1) % 2 ^ 64 → (place_of m ≡ place_of c + 1) × (given_of m ≡ given_of c)
  moves_one sees a e = let f = some_case (read_way flags) stands u c w a (few sees) in (omega arith, omega arith)

  -- a leaf: the state after its flags is m
  pub walked_leaf : {next : ℕ} → Sees stands u flags c w (Chosen Leaf next) → {b : List ℕ} → length b ≡ 1024 → (m : ℕ) {r : ℕ} {z : List ℕ} → (place_of m ≡ next) × (given_of m ≡ given_of c)
      → (r ≡ (m + 4294967296) % 2 ^ 64) × (z ≡ set b (given_of m) w.row) → Walked (read_way flags) stands u c (w ∷ []) b r z
  unfolding row_words
  walked_leaf sees {b} len m {r} {z} on stores = each_case (read_way flags) stands u c w (λ k n s x.
      let y = at_case sees x in
      let f = few sees k n s x in
      let at = on.0 in
      let count = on.1 in
      let e = stores.0 in
      let one : given_of c + 1 ≡ suc (given_of c) = omega arith in
      let g : z ≡ set b (given_of c) (row_word (row_of n)) = stores.1 ∙ rw (count, y.says) in
      one_done (read_way flags) none_stored k n s c b y.here (reading_leaf k flags n (shallow y.placed) s y.decides) (omega arith) (omega arith)
      (record { long = rw g (length-set b (given_of c) _); first = rw (g, one) (take-suc-set b (given_of c) _ (omega arith)) }))

  -- a split: the state after its flags is m
  pub turned : {d : Decision} {next : ℕ} → Sees stands u flags c w (Chosen d next) → is_split d ≡ true → {m : ℕ} → (place_of m ≡ next) × (given_of m ≡ given_of c)
      → {b : List ℕ} (k : Kind) (n : Node) (s : ℕ) → Case (read_way flags) stands u c w k n s → Turn (read_way flags) c d b m b k n s
  unfolding before
  turned {d} {next} sees split {m} on {b} k n s x =
      let y = at_case sees x in
      let ok = split_allowed x.proper y.placed.good y.here flags s y.decides in
      let f = few sees k n s x in
      let place = on.0 in
      let count = on.1 in
      record {
        here = y.here;
        ok = ok;
        own = [];
        state = next;
        goes_on = reading_split k flags n (shallow y.placed) s y.decides ok split;
        at = place;
        count = omega arith;
        put = nothing_stored (read_way flags) none_stored c b;
        rows = count;
        flags = let r = split_reads x.proper y.placed.good y.here flags s y.decides in let i = x.placed in omega arith;
      }
