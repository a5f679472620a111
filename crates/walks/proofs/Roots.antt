-- The root of a tree: its numbers stand for it, there is room for all that its walk gives, and its walk is that of the tree.
use Prim.Native.Nat.{ℕ, ◌+◌, ◌*◌, ◌≤◌}
use mathlib.Core.Path.{◌≡◌, refl, sym, ap, subst, ◌∙◌}
use mathlib.Core.Bool.{Bool, true, false, not}
use mathlib.Core.List.{List, [], ◌∷◌}
use native.Mathlib.Omega.{arith}
use native.Mathlib.Nat.{mul-le-mul}
use Rattle.sides.proofs.Bools.{clash}
use Rattle.tree.specs.declared.Node.{Node}
use Rattle.tree.specs.declared.Direction.TheVariants.{Horizontal, Vertical}
use Rattle.tree.specs.Kind.{Kind}
use Rattle.tree.specs.Splits.{is_out, inside, rights_of, open_splits}
use Rattle.tree.specs.Children.{corner_inside}
use Rattle.tree.specs.Rows.{row_of}
use Rattle.blocks.specs.RowNumbers.{row_word}
use Rattle.laws.specs.Areas.{areas_of, room_of, flag_room}
use Rattle.laws.specs.Proper.{Proper, RootSquare}
use Rattle.laws.proofs.Edge.{good_root}
use Rattle.laws.proofs.Picture.{starts_in}
use Rattle.laws.proofs.Runs.{over_one}
use Rattle.nodes.specs.State.{place_of, given_of}
use Rattle.nodes.specs.Tables.{table_of, limits_in}
use Rattle.nodes.specs.RowNodes.{node_in, bound_in, depth_above}
use Rattle.walks.specs.Rooted.{Rooted, Given, SomeRoot, RootRoom, RoomFor}
use Rattle.walks.specs.Stands.{word, area_in, Outer, Inside, no_more, one_more}
use Rattle.walks.specs.Walks.{Way, RoomAt, walk_over, Ready, Done, Asked, Walked}
use Rattle.walks.proofs.RowFields.{area_says, right_says, bottom_says, corner_says}
use Rattle.walks.proofs.Below.{above_depths}

-- a square root in a picture of at most 16,384 by 16,384, of which the depth fits
pub square_rooted : {k : Kind} → Proper k → {n : Node} → RootSquare k.limits n → corner_inside k.limits n ≡ true → k.limits.width ≤ 16384 → k.limits.height ≤ 16384
    → n.w + n.h + n.qt ≤ 256 → Rooted k n
square_rooted {k} v {n} r here wide high deep =
    let g = good_root v r in
    let x = starts_in k n here Vertical in
    let y = starts_in k n here Horizontal in
    let w = (g.shape.side Vertical).most in
    let h = (g.shape.side Horizontal).most in
    let m = r.uncut in
    let o = r.unlifted in
    record {
      proper = v;
      placed = record { good = g; right = omega arith; bottom = omega arith; sum = omega arith; lifted = omega arith };
      here = here;
      uncut = m;
    }

module _ {k : Kind} {n : Node} (r : Rooted k n) where
  pub root_unlifted : n.offset ≡ 0
  root_unlifted = let u = r.uncut in let l = r.placed.lifted in omega arith

  -- one that is out of the picture, and one inside
  pub out_root : inside k.limits n ≡ false → Outer k n (word (row_word (row_of n)) (depth_above (table_of k)))
  out_root out = record {
    placed = r.placed;
    row = refl;
    depths = above_depths k n r.uncut root_unlifted;
    small = λ within. clash within out;
  }

  pub in_root : inside k.limits n ≡ true → Inside (bound_in (table_of k) 0) k n (word (row_word (row_of n)) (open_splits (rights_of k n)))
  unfolding table_of
  in_root within = record {
    placed = r.placed;
    here = r.here;
    within = within;
    row = refl;
    splits = refl;
    bounded = rw root_unlifted;
  }

-- ---- its walk, from the numbers that the code has

module _ {k : Kind} {root : Node} {u : List ℕ} {row : ℕ} {out : Bool} {splits : ℕ} (g : Given k root u row out splits) where
  -- where it lies, as its numbers say it
  pub root_begins : corner_inside (limits_in u) (node_in row) ≡ true
  unfolding table_of
  root_begins = rw g.table (corner_says g.rooted.placed g.row_is k.limits ∙ g.rooted.here)

  pub root_out : out ≡ true → is_out (limits_in u) (node_in row) ≡ true
  unfolding table_of
  root_out h = rw (g.table, right_says g.rooted.placed g.row_is k.limits, bottom_says g.rooted.placed g.row_is k.limits) (sym g.out_is ∙ h)

  stands_out : out ≡ true → Outer k root (word row (depth_above u))
  stands_out h = rw (g.table, g.row_is) (out_root g.rooted (ap not (sym g.out_is ∙ h)))

  stands_in : out ≡ false → Inside (bound_in u 0) k root (word row splits)
  stands_in h = rw (g.table, g.row_is, g.splits_are) (in_root g.rooted (ap not (sym g.out_is ∙ h)))

  says_area : area_in row ≡ root.w * root.h
  says_area = area_says g.rooted.placed g.row_is

  -- where nothing is read and nothing is given yet, there is room for its tree
  pub root_room : (most : ℕ) → 114688 ≤ most → RootRoom 0 0 most row
  root_room most h =
      let e = says_area in
      let s = g.rooted.placed.good.shape in
      let a = mul-le-mul (s.side Vertical).most (s.side Horizontal).most in
      record { for_rows = omega arith; for_flags = omega arith }

  module _ {A S : Type 0} (way : Way A S) (s : S) (c : ℕ) (at : way.at (place_of c) s) (room : RoomFor way c row) where
    pub room_here : RoomAt way (place_of c) (given_of c) (root ∷ [])
    unfolding areas_of room_of flag_room
    room_here =
        let e = says_area in
        let q = room.for_rows in
        let f = room.for_flags in
        record { for_rows = omega arith; for_flags = omega arith }

    pub ready_out : out ≡ true → Ready way Outer k (root ∷ []) s u c (word row (depth_above u) ∷ [])
    ready_out h = record {
      proper = g.rooted.proper;
      table = g.table;
      stand = one_more (stands_out h) no_more;
      placed = at;
      room = room_here;
    }

    pub ready_in : out ≡ false → Ready way (Inside (bound_in u 0)) k (root ∷ []) s u c (word row splits ∷ [])
    ready_in h = record {
      proper = g.rooted.proper;
      table = g.table;
      stand = one_more (stands_in h) no_more;
      placed = at;
      room = room_here;
    }

    -- it is the walk of the node itself
    pub root_done : {b z : List ℕ} {r : ℕ} → Done way (walk_over way k (root ∷ []) s) c b r z → Done way (way.go k root s) c b r z
    root_done d = rw (over_one k (λ n t. way.go k n t) root s g.rooted.here) at d

-- ---- the same of some root, and of every root that the numbers may be given for

module _ {A S : Type 0} (way : Way A S) (s : S) (c : ℕ) (at : way.at (place_of c) s) {u : List ℕ} {row : ℕ} (room : RoomFor way c row) {out : Bool} {splits : ℕ} where
  module _ (o : out ≡ true) {depths : ℕ} (is : depths ≡ depth_above u) where
    pub out_asked : SomeRoot u row out splits → Asked way Outer u c (word row depths ∷ [])
    out_asked r = rw is (record { kind = r.kind; nodes = r.root ∷ []; state = s; ready = ready_out r.given way s c at room o })

    pub out_done : {b z : List ℕ} {r : ℕ} → Walked way Outer u c (word row depths ∷ []) b r z → (k : Kind) (root : Node) → Given k root u row out splits → Done way (way.go k root s) c b r z
    out_done {b} {z} {r} w k root g =
        root_done g way s c at room ((subst (λ (d : ℕ). Walked way Outer u c (word row d ∷ []) b r z) is w).done k (root ∷ []) s (ready_out g way s c at room o))

  module _ (o : out ≡ false) {bound : ℕ} (is : bound ≡ bound_in u 0) where
    pub in_asked : SomeRoot u row out splits → Asked way (Inside bound) u c (word row splits ∷ [])
    in_asked r = rw is (record { kind = r.kind; nodes = r.root ∷ []; state = s; ready = ready_in r.given way s c at room o })

    pub in_done : {b z : List ℕ} {r : ℕ} → Walked way (Inside bound) u c (word row splits ∷ []) b r z → (k : Kind) (root : Node) → Given k root u row out splits → Done way (way.go k root s) c b r z
    in_done {b} {z} {r} w k root g =
        root_done g way s c at room ((subst (λ (d : ℕ). Walked way (Inside d) u c (word row splits ∷ []) b r z) is w).done k (root ∷ []) s (ready_in g way s c at room o))
