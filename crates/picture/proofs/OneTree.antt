-- Sessions over units with one coding tree and one table have the laws of `sessions`.
use Prim.Native.Nat.{ℕ, ◌*◌, ◌≤◌, ◌<◌}
use mathlib.Core.Path.{◌≡◌, refl, sym, ap, subst, ◌∙◌}
use mathlib.Core.Bool.{true}
use mathlib.Core.List.{List, [], ◌∷◌, append-nil}
use mathlib.Core.Option.{none, some}
use native.Mathlib.Omega.{arith}
use lib.ListN.{length, take}
use Rattle.tree.specs.declared.Node.{Node}
use Rattle.tree.specs.Splits.{bit}
use Rattle.tree.specs.Rows.{rows_at}
use Rattle.tree.specs.Tree.{Tree, flags_of, rows_of}
use Rattle.laws.specs.Every.{every_none, every_more}
use Rattle.laws.proofs.Tests.{never}
use Rattle.unit.specs.Answers.{Answer}
use Rattle.refusals.specs.Said.{Accepted, Refused}
use Rattle.unit.specs.Answers.{Outcome, accepted}
use Rattle.unit.specs.Units.{root_of}
use Rattle.sessions.specs.Samples.{in_square}
use Rattle.sessions.specs.Coding.{Coding}
use Rattle.sessions.specs.Forest.{UnitPart, no_tree, a_tree, forest_flags, forest_rows, root_copies}
use Rattle.sessions.proofs.Order.{Order}
use Rattle.sessions.proofs.Tiling.{Tiling}
use Rattle.sessions.proofs.Counts.{square_bit}
use Rattle.sessions.proofs.Parts.{GoodRoot}
use Rattle.sessions.proofs.Laws.{UnitTrees, UnitRead, Laws}
use Rattle.picture.specs.State.{Call}
use Rattle.picture.specs.Lists.{Taken, taken}
use Rattle.picture.specs.OneTree.{OneTree, one_tree}

module _ (o : OneTree) where
  abbrev root_in : ℕ → Node
  root_in a = root_of (o.square a)

  -- flags that were accepted for a unit with so many rows, and what the buffer holds then
  pub record UnitAccepted (a : ℕ) (flags : List ℕ) (m : ℕ) (left : List ℕ) : Type 0 where
    pub there : a < o.count
    pub tree : Tree o.kind (root_in a)
    pub said : flags_of tree ≡ flags
    pub rows : rows_at m left 0 ≡ rows_of tree
    pub back : (buffer : List ℕ) → length flags ≤ length buffer
        → o.turn a (take (8 * m) left) buffer ≡ accepted (length flags) flags buffer

  -- what is to be shown of the units
  pub record UnitLaws : Type 0 where
    pub tiling : Tiling o.kind.limits.width o.kind.limits.height o.count o.square
    pub good : (a : ℕ) → a < o.count
        → GoodRoot o.kind.limits.width o.kind.limits.height o.cell o.kind (root_in a)
    pub accepts : (a : ℕ) (flags buffer : List ℕ) {m : ℕ} → (o.read a flags buffer).answer ≡ Accepted m
        → UnitAccepted a flags m (o.read a flags buffer).buffer

  module _ {Session : Type 0} (call : Session → Call → Outcome) (follow : Session → Answer → Session) where
    -- and of the session: a refusal leaves the address due, after an accepted unit the next one is due, and what a call
    -- accepted is the reading of the due unit
    pub record SessionLaws (next : ℕ → ℕ) (Due : ℕ → Session → Type 0) : Type 0 where
      pub stays : {a : ℕ} {t : Session} → Due a t → (number place : ℕ) → Due a (follow t (Refused number place))
      pub moves : {a : ℕ} {t : Session} → Due a t → (m : ℕ) → Due (next a) (follow t (Accepted m))
      pub reads : {a : ℕ} {t : Session} → Due a t → (c : Call) {m : ℕ} → (call t c).answer ≡ Accepted m
          → (c.address ≡ a) × (call t c ≡ o.read a c.flags c.buffer)

  -- a unit's only part is its root
  abbrev parts : ℕ → List (UnitPart (Unit {0}))
  parts a = record { table = tt; kind = o.kind; root = root_in a } ∷ []

  one_root : (a px py : ℕ) → root_copies (λ i j. true) tt (parts a) px py ≡ bit (in_square (o.square a) px py) 1
  unfolding root_copies
  one_root a px py = let e = square_bit px py (o.square a) in omega arith

  module _ (units : UnitLaws) {Session : Type 0} {call : Session → Call → Outcome} {follow : Session → Answer → Session}
      {first : ℕ} {next : ℕ → ℕ} {Due : ℕ → Session → Type 0} (order : Order o.count first next)
      (session : SessionLaws call follow next Due) where
    abbrev coding : Coding
    coding = one_tree o Session call follow

    trees : UnitTrees coding
    trees = record {
      same = λ i j. true;
      itself = λ i. refl;
      some_table = tt;
      parts = parts;
      good = λ a h. every_more (units.good a h) every_none;
      fill = λ i a px py. one_root a px py;
    }

    unit_read : (u : Taken) {a : ℕ} → u.address ≡ a → UnitAccepted a u.flags u.count u.buffer
        → UnitRead coding trees a u
    unfolding forest_flags forest_rows trees
    unit_read u at x = record {
      there = x.there;
      at = at;
      forest = a_tree x.tree no_tree;
      said = append-nil (flags_of x.tree) ∙ x.said;
      rows = λ i. x.rows ∙ sym (append-nil (rows_of x.tree));
      back = λ buffer room. rw at (x.back buffer room);
    }

    -- a call, by its answer
    module _ {a : ℕ} {t : Session} (d : Due a t) (c : Call) where
      stay : (x : Answer) → taken c x (call t c).buffer ≡ none → Due a (follow t x)
      stay (Refused number place) e = session.stays d number place
      stay (Accepted m) e = never (cc)

      move : {u : Taken} (x : Answer) → taken c x (call t c).buffer ≡ some u → Due (next a) (follow t x)
      move (Refused number place) e = never (cc)
      move (Accepted m) e = session.moves d m

      read : {u : Taken} (x : Answer) → (call t c).answer ≡ x → taken c x (call t c).buffer ≡ some u
          → UnitRead coding trees a u
      read (Refused number place) e f = never (cc)
      read {u} (Accepted m) e f =
          let r = session.reads d c e in
          let v : Taken = record { address = c.address; flags = c.flags; count = m; buffer = (call t c).buffer } in
          let x = units.accepts a c.flags c.buffer (ap (λ w. w.answer) (sym r.1) ∙ e) in
          subst (λ w. UnitRead coding trees a w) (let same : v ≡ u = cc in same)
          (unit_read v r.0 (subst (λ w. UnitAccepted a c.flags m w.buffer) (sym r.1) x))

    pub one_tree_lem : Laws (one_tree o Session call follow) first next Due
    one_tree_lem = record {
      order = order;
      tiling = units.tiling;
      trees = trees;
      calls = record {
        stays = λ d c e. stay d c _ e;
        reads = λ d c e. read d c _ refl e;
        moves = λ d c e. move d c _ e;
      };
    }
