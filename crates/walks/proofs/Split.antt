-- The walk of a node that is split: what is asked for the walk of its children, and that their walk ends its own.
use Prim.Native.Nat.{ℕ, ◌+◌, ◌*◌, ◌<◌, ◌≤◌}
use mathlib.Core.Path.{◌≡◌, sym, ap, ◌∙◌}
use mathlib.Core.Bool.{true, not}
use mathlib.Core.List.{List, [], ◌∷◌}
use native.Mathlib.Omega.{arith}
use lib.ListN.{length}
use Rattle.tree.specs.declared.Node.{Node}
use Rattle.tree.specs.declared.Decision.{Decision}
use Rattle.tree.specs.Kind.{Kind}
use Rattle.tree.specs.Splits.{is_split, is_out, rights_of, allows}
use Rattle.tree.specs.Flags.{flags_for}
use Rattle.tree.specs.Children.{children, corner_inside}
use Rattle.tree.specs.Rows.{row_of}
use Rattle.tree.specs.Run.{before}
use Rattle.blocks.specs.RowNumbers.{row_word}
use Rattle.laws.specs.Areas.{areas_of, flag_room}
use Rattle.laws.proofs.Areas.{kids_areas}
use Rattle.laws.proofs.FlagAreas.{decision_room}
use Rattle.nodes.specs.State.{place_of, given_of}
use Rattle.nodes.specs.Tables.{limits_in}
use Rattle.nodes.specs.RowNodes.{node_in}
use Rattle.walks.specs.Stands.{Word, word, area_in, Placed, Inside, Outer, AllStand}
use Rattle.walks.specs.Kids.{inner_kids, outer_kids}
use Rattle.walks.specs.Walks.{Way, walk_over, Ready, Asked, Walked}
use Rattle.walks.proofs.AtEdge.{out_is}
use Rattle.walks.proofs.Children.{inner_kids_lem, outer_kids_lem}
use Rattle.walks.proofs.Lawful.{Lawful}
use Rattle.walks.proofs.Measure.{areas_in, same_areas}
use Rattle.walks.proofs.One.{Stored, Case, some_case, each_case, one_split}
use Rattle.walks.proofs.RowFields.{area_says}

module _ {A S : Type 0} (way : Way A S) (c : ℕ) (d : Decision) (b : List ℕ) (m : ℕ) (mid : List ℕ) where
  -- what its walk gives first, and the state from which its children are walked
  pub record Turn (k : Kind) (n : Node) (s : S) : Type 0 where
    pub here : corner_inside k.limits n ≡ true
    pub ok : allows (rights_of k n) d ≡ true
    pub own : List A
    pub state : S
    pub goes_on : way.go k n s ≡ before own (walk_over way k (children k.limits n d) state)
    pub at : way.at (place_of m) state
    pub count : given_of m ≡ given_of c + length own
    pub put : Stored way c b own mid
    pub rows : way.rows (place_of m) (given_of m) ≡ way.rows (place_of c) (given_of c)
    pub flags : way.flags (place_of m) (given_of m) ≤ way.flags (place_of c) (given_of c) + length (flags_for (rights_of k n) d)

  -- a split of all nodes that numbers may stand for, and the numbers of the children
  pub record Split (stands : Kind → Node → Word → Type 0) (u : List ℕ) (w : Word) (ws : List Word) : Type 0 where
    pub split : is_split d ≡ true
    pub says : (k : Kind) (n : Node) (v : Word) → stands k n v → Placed k.limits n × (v.row ≡ row_word (row_of n))
    pub turn : (k : Kind) (n : Node) (s : S) → Case way stands u c w k n s → Turn k n s
    pub stand : (k : Kind) (n : Node) (s : S) → Case way stands u c w k n s → allows (rights_of k n) d ≡ true → AllStand (stands k) (children k.limits n d) ws

module _ {A S : Type 0} {way : Way A S} {c : ℕ} {d : Decision} {b : List ℕ} {m : ℕ} {mid : List ℕ} where
  module _ {u : List ℕ} {row left : ℕ} (split : is_split d ≡ true) where
    pub inner_split : {bound : ℕ} → ((k : Kind) (n : Node) (s : S) → Case way (Inside bound) u c (word row left) k n s → Turn way c d b m mid k n s)
        → Split way c d b m mid (Inside bound) u (word row left) (inner_kids u row bound d)
    inner_split turn = record { split = split; says = λ k n v s. (s.placed, s.row); turn = turn; stand = λ k n s x ok. rw x.table (inner_kids_lem x.proper x.stands_for d ok) }

    pub outer_split : is_out (limits_in u) (node_in row) ≡ true → ((k : Kind) (n : Node) (s : S) → Case way Outer u c (word row left) k n s → Turn way c d b m mid k n s)
        → Split way c d b m mid Outer u (word row left) (outer_kids u row left d)
    outer_split out turn = record {
      split = split;
      says = λ k n v s. (s.placed, s.row);
      turn = turn;
      stand = λ k n s x ok.
          let is = ap not (sym (out_is x.table x.stands_for) ∙ out) in
          rw x.table (outer_kids_lem x.proper x.stands_for is d ok);
    }

  module _ {stands : Kind → Node → Word → Type 0} {u : List ℕ} {w : Word} {ws : List Word} (x : Split way c d b m mid stands u w ws) where
    area : (k : Kind) (n : Node) (v : Word) → stands k n v → area_in v.row ≡ n.w * n.h
    area k n v s = area_says (x.says k n v s).0 (x.says k n v s).1

    kids_ready : {k : Kind} {n : Node} {s : S} (at : Case way stands u c w k n s) → Ready way stands k (children k.limits n d) (x.turn k n s at).state u m ws
    unfolding areas_of flag_room
    kids_ready {k} {n} {s} at =
        let y = x.turn k n s at in
        let shape = (x.says k n w at.stands_for).0.good.shape in
        let a = kids_areas k.limits shape d x.split in
        let f = decision_room at.proper shape d y.ok in
        let q = at.room.for_rows in
        let g = at.room.for_flags in
        let i = y.rows in
        let j = y.flags in
        record { proper = at.proper; table = at.table; stand = x.stand k n s at y.ok; placed = y.at; room = record { for_rows = omega arith; for_flags = omega arith } }

    -- the walk of the children is asked, with its measure
    pub kids_asked : Asked way stands u c (w ∷ []) → {t : ℕ} → area_in w.row * 4 + 2 ≡ t → (areas_in ws * 4 + 1 < t) × Asked way stands u m ws
    kids_asked a h = some_case way stands u c w a (λ k n s at.
        let y = x.turn k n s at in
        let e : areas_in ws ≡ area_in w.row = same_areas (area k) (x.stand k n s at y.ok) ∙ kids_areas k.limits (x.says k n w at.stands_for).0.good.shape d x.split ∙ sym (area k n w at.stands_for) in
        (omega arith, record { kind = k; nodes = children k.limits n d; state = y.state; ready = kids_ready at }))

    pub walked_kids : way.stored [] ≡ [] → Lawful way → {r : ℕ} {z : List ℕ} → Walked way stands u m ws mid r z → Walked way stands u c (w ∷ []) b r z
    walked_kids none lawful done = each_case way stands u c w (λ k n s at.
        let y = x.turn k n s at in
        one_split way none k n s c b y.here lawful (children k.limits n d) y.state y.goes_on y.count y.put (done.done k (children k.limits n d) y.state (kids_ready at)))
