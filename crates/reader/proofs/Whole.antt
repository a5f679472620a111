-- The reading of a whole tree, from its root.
use Prim.Native.Nat.{ℕ, ◌+◌, ◌*◌, ◌≤◌, ◌<◌}
use mathlib.Core.Path.{◌≡◌, refl, sym, subst, ◌∙◌}
use mathlib.Core.Bool.{Bool, true, false, not, ◌||◌}
use mathlib.Core.List.{List}
use mathlib.Core.Logic.{◌⊎◌, inl, inr}
use native.Mathlib.Omega.{arith}
use native.Mathlib.Nat.{mul-le-mul}
use lib.ListN.{length}
use lib.Dec.{eqb}
use borrow.Author.Tests.{eqb-true, lt-ltb}
use Rattle.sides.proofs.Bools.{not-not}
use Rattle.tree.specs.declared.Limits.{Limits}
use Rattle.tree.specs.declared.Node.{Node}
use Rattle.tree.specs.declared.Direction.TheVariants.{Horizontal, Vertical}
use Rattle.tree.specs.Kind.{Kind, luma}
use Rattle.tree.specs.Splits.{is_out, rights_of, open_splits}
use Rattle.tree.specs.Rows.{table_bytes}
use Rattle.tree.specs.Run.{End, goes, stops}
use Rattle.tree.specs.Reading.{levels_left, read_node}
use Rattle.laws.proofs.Bounds.{reading_bound}
use Rattle.laws.proofs.Multiples.{fold_least}
use Rattle.laws.proofs.Refusals.{flag_refusal, Fine, walk_fine}
use Rattle.laws.proofs.Steps.{reading_leaf}
use Rattle.unit.specs.Answers.{Answer}
use Rattle.unit.specs.Answers.{Meets, finish}
use Rattle.unit.specs.Reader.{none_after, rows_from, read_tree}
use Rattle.nodes.specs.State.{given_of, refusal, refusal_number}
use Rattle.walks.specs.Rooted.{Rooted}
use Rattle.walks.specs.Walks.{Says, Done}
use Rattle.parser.specs.Walking.{read_way, leaf_next}
use Rattle.reader.specs.Delivery.{leaf_count, deliver_one, deliver_all}
use Rattle.parser.proofs.Decided.{none_open}
use Rattle.reader.proofs.Delivery.{said_from, count_small, all_is, leaf_is}

-- it is 11 or 12
flag_number : (a : ℕ) → flag_refusal a ≡ true → (a ≡ 11) ⊎ (a ≡ 12)
flag_number a h = go (eqb a 11) refl h
  where
    go : (b : Bool) → eqb a 11 ≡ b → (b || eqb a 12) ≡ true → (a ≡ 11) ⊎ (a ≡ 12)
    go true e h = inl (eqb-true a 11 e)
    go false e h = inr (eqb-true a 12 h)

small_refusal : {a : ℕ} → (a ≡ 11) ⊎ (a ≡ 12) → a < 32
small_refusal (inl e) = omega arith
small_refusal (inr e) = omega arith

-- ---- the delivery of a walk

module _ {k : Kind} {root : Node} (r : Rooted k root) (flags : List ℕ) {b z : List ℕ} {answer : ℕ} (done : Done (read_way flags) (read_node k flags root 0) 0 b answer z) where
  few : 16 * length (read_node k flags root 0).given ≤ 16384
  few =
      let a = mul-le-mul (r.placed.good.shape.side Vertical).most (r.placed.good.shape.side Horizontal).most in
      let q = (reading_bound r.proper r.placed.good r.placed.sum r.here flags 0).rows in
      omega arith

  pub root_count : answer < 9223372036854775808 → given_of answer ≤ 1024
  root_count = count_small flags (read_node k flags root 0) done few

  -- where it stops, a flag is missing or none
  stopped_so : {number place : ℕ} → (read_node k flags root 0).end ≡ stops number place → (number ≡ 11) ⊎ (number ≡ 12)
  stopped_so {number} h =
      let s = r.placed.sum in
      flag_number number (subst Fine h (walk_fine r.proper flags (levels_left root) root r.placed.good (omega arith) r.here 0))

  pub root_reason : 9223372036854775808 ≤ answer → (refusal_number answer ≡ 11) ⊎ (refusal_number answer ≡ 12)
  unfolding Says
  root_reason h = go (read_node k flags root 0).end refl
    where
      go : (end : End ℕ) → (read_node k flags root 0).end ≡ end → (refusal_number answer ≡ 11) ⊎ (refusal_number answer ≡ 12)
      go (goes at) e = let s = (said_from flags (read_node k flags root 0) done few (goes at) e).0 in let f = few in absurd (omega arith)
      go (stops number place) e =
          let n = stopped_so e in
          let l = small_refusal n in
          let s = said_from flags (read_node k flags root 0) done few (stops number place) e in
          let i : number ≡ refusal_number answer = omega arith in
          subst (λ (i : ℕ). (i ≡ 11) ⊎ (i ≡ 12)) i n

  -- it is the reading of the tree
  pub root_delivered : answer < 18446744073709551616 → (buffer : List ℕ) {said : Answer} {left : List ℕ}
      → Meets (deliver_all answer z flags buffer) said left → Meets (read_tree k root flags buffer) said left
  unfolding read_tree rows_from Says
  root_delivered fits buffer {said} {left} m =
      subst (λ o. Meets o said left)
      (all_is flags (read_node k flags root 0) done few
      (λ number place h.
      let e : answer ≡ refusal number place = subst (λ x. Says (read_way flags) answer (given_of 0 + length (read_node k flags root 0).given) x) h done.said in
      (small_refusal (stopped_so h), omega arith))
      buffer) m

-- ---- a root that is a leaf

module _ {k : Kind} {root : Node} (r : Rooted k root) (flags : List ℕ) {out : Bool} (o : out ≡ is_out k.limits root) (splits : ℕ) where
  pub leaf_delivered : eqb splits 0 ≡ eqb (open_splits (rights_of k root)) 0 → leaf_next out splits flags 0 ≡ true → {next : ℕ} → next ≡ leaf_count splits → (buffer : List ℕ) {said : Answer} {left : List ℕ}
      → Meets (deliver_one root next flags buffer) said left → Meets (read_tree k root flags buffer) said left
  unfolding read_tree rows_from rights_of
  leaf_delivered is h i buffer {said} {left} m =
      let s = r.placed.sum in
      let w = fold_least (r.placed.good.shape.side Vertical).fold in
      let within : not (rights_of k root).within ≡ is_out k.limits root = not-not (is_out k.limits root) in
      let first = subst (λ x. leaf_next x splits flags 0 ≡ true) (o ∙ sym within) h in
      let run = reading_leaf k flags root (omega arith) 0 (leaf_is (rights_of k root) flags splits is first) in
      subst (λ x. Meets (finish table_bytes 14 (record { given = x.given; end = none_after flags x.end }) buffer) said left) (sym run)
      (subst (λ x. Meets (deliver_one root x flags buffer) said left) i m)

-- QT is open at a root above MinQt
pub quad_leaf : {l : Limits} {root : Node} → Rooted (luma l) root → l.minqt < root.w → eqb 1 0 ≡ eqb (open_splits (rights_of (luma l) root)) 0
unfolding rights_of
quad_leaf {l} {root} r h = sym (none_open (rights_of (luma l) root) ∙ rw (r.uncut, lt-ltb _ _ h))
