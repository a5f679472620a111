-- Where the walk with numbers goes on, there is one number more for each flag that it has read, 8 at most, and its rows are known.
use Prim.Native.Nat.{ℕ, zero, suc, ◌+◌, ◌≤◌}
use mathlib.Core.Path.{◌≡◌, refl, sym, ◌∙◌}
use mathlib.Core.Bool.{Bool, true, false, ◌||◌}
use mathlib.Core.List.{List, [], ◌∷◌, ◌++◌, append_assoc, append-nil}
use lib.ListN.{length, length-append}
use native.Mathlib.Omega.{arith}
use Rattle.sides.proofs.Bools.{or_none_left, or_none_right}
use Rattle.tree.specs.declared.Node.{Node}
use Rattle.tree.specs.declared.Direction.TheVariants.{Horizontal, Vertical}
use Rattle.tree.specs.declared.Decision.{Decision}
use Rattle.tree.specs.declared.Decision.TheVariants.{Ternary}
use Rattle.tree.specs.Flags.{Choice}
use Rattle.tree.specs.Flags.{Chosen, Refused}
use Rattle.tree.specs.Kind.{Kind}
use Rattle.tree.specs.Splits.{Rights, rights_of}
use Rattle.tree.specs.Flags.{cut_open, some_cut, some_open, flag_at, after_binary, after_vertical, after_quad, after_split, decide, flags_for}
use Rattle.tree.specs.Children.{children, corner_inside}
use Rattle.tree.specs.Rows.{Row}
use Rattle.tree.specs.Run.{goes, Run, before, over_all}
use Rattle.tree.specs.Reading.{levels_left}
use Rattle.laws.specs.Every.{Every, every_none}
use Rattle.laws.proofs.Every.{every_join}
use Rattle.laws.proofs.Bytes.{reads_length}
use Rattle.laws.proofs.Flags.{decide_sound}
use Rattle.laws.proofs.Runs.{joined, over_here, over_gone}
use Rattle.laws.proofs.Tests.{never}
use Rattle.numbers.specs.Walk.{Finder, put_all}
use Rattle.numbers.specs.ByFlags.{Stand, enter_numbers, walk_numbers, read_numbers}
use Rattle.numbers.proofs.Same.{put_append}
use Rattle.numbers.proofs.Beside.{beside_node, beside_length, beside_small}

-- ---- a decision reads as many bytes as flags say it

module _ (flags : List ℕ) (r : Rights) where
  -- nothing is read out of the picture where no split is open
  none_read : (at : ℕ) → (r.within || some_open r) ≡ false → (decide r flags at ≡ Chosen (Ternary Vertical) at) × (length (flags_for r (Ternary Vertical)) ≡ 0)
  unfolding decide after_split after_quad after_vertical after_binary flag_at flags_for
  none_read at o =
      let s = or_none_right r.within (some_open r) o in
      let c = or_none_right r.quad (some_cut r) s in
      let h = or_none_left (cut_open r Horizontal) (cut_open r Vertical) c in
      let v = or_none_right (cut_open r Horizontal) (cut_open r Vertical) c in
      let within = or_none_left r.within (some_open r) o in
      let quad = or_none_left r.quad (some_cut r) s in
      let bh = or_none_left (r.binary Horizontal) (r.ternary Horizontal) h in
      let th = or_none_right (r.binary Horizontal) (r.ternary Horizontal) h in
      let bv = or_none_left (r.binary Vertical) (r.ternary Vertical) v in
      (rw (within, quad, bh, th, bv) refl, rw (within, quad, bh, th, bv) refl)

  decide-length : (at : ℕ) {d : Decision} {to : ℕ} → decide r flags at ≡ Chosen d to → at + length (flags_for r d) ≡ to
  decide-length at {d} {to} e = go (r.within || some_open r) refl
    where
      go : (b : Bool) → (r.within || some_open r) ≡ b → at + length (flags_for r d) ≡ to
      go true o = reads_length (decide_sound flags r o e).reads
      go false o =
          let n = none_read at o in
          let c = n.0 in
          let z = n.1 in
          let same : d ≡ Ternary Vertical = cc in
          let i : to ≡ at = cc in
          rw same (omega arith)

-- ---- what one run adds

module _ {S : Type 0} (f : Finder S) where
  -- from one state of the walk to another, with rows on the way
  pub record Further (from : Stand S) (rows : List Row) (to : Stand S) : Type 0 where
    pub new : List ℕ
    pub numbers : to.numbers ≡ from.numbers ++ new
    pub places : from.at + length new ≡ to.at
    pub small : Every (λ number. number ≤ 8) new
    pub known : to.known ≡ put_all f rows from.known

  -- the numbers grow as the place does
  pub grows_alike : {from to : Stand S} {rows : List Row} → Further from rows to → length to.numbers + from.at ≡ length from.numbers + to.at
  grows_alike g = let p = g.places in rw (g.numbers, length-append) (omega arith)

  further_none : (s : Stand S) → Further s [] s
  unfolding put_all
  further_none s = record { new = []; numbers = sym (append-nil _); places = omega arith; small = every_none; known = refl }

  further_join : {from mid to : Stand S} {rows more : List Row} → Further from rows mid → Further mid more to → Further from (rows ++ more) to
  further_join {from = from} {rows = rows} {more = more} a b = record {
    new = a.new ++ b.new;
    numbers = b.numbers ∙ rw a.numbers (append_assoc from.numbers a.new b.new);
    places = let p = a.places in let q = b.places in rw length-append (omega arith);
    small = every_join a.small b.small;
    known = b.known ∙ rw a.known (sym (put_append f rows more from.known));
  }

  module _ (k : Kind) where
    -- a run of each node, and a run over nodes
    abbrev Adds : (Node → Stand S → Run Row (Stand S)) → Node → Type 0
    Adds go n = (s to : Stand S) → (go n s).end ≡ goes to → Further s (go n s).given to

    abbrev AddsOver : (Node → Stand S → Run Row (Stand S)) → List Node → Type 0
    AddsOver go ns = (s to : Stand S) → (over_all k.limits go ns s).end ≡ goes to → Further s (over_all k.limits go ns s).given to

    pub adds_over : (go : Node → Stand S → Run Row (Stand S)) → ((n : Node) → Adds go n) → (ns : List Node) → AddsOver go ns
    unfolding over_all
    adds_over go adds [] s to e = let i : s ≡ to = cc in rw (← i) (further_none s)
    adds_over go adds (n ∷ ns) s to e = begin (corner_inside k.limits n) refl (adds_over go adds ns) e
      where
        begin : (b : Bool) → corner_inside k.limits n ≡ b → AddsOver go ns → (over_all k.limits go (n ∷ ns) s).end ≡ goes to → Further s (over_all k.limits go (n ∷ ns) s).given to
        begin true here rest e =
            let j = joined (go n s) (λ t. over_all k.limits go ns t) (rw (over_here k go n ns s here) at e) in
            rw (over_here k go n ns s here, j.given) (further_join (adds n s j.mid j.first) (rest j.mid to j.second))
        begin false out rest e = rw (over_gone k go n ns s out) (rest s to (rw (over_gone k go n ns s out) at e))

    module _ (flags : List ℕ) where
      adds_enter : (n : Node) (go : Node → Stand S → Run Row (Stand S)) → ((c : Node) → Adds go c) → (s to : Stand S) (c : Choice) → decide (rights_of k n) flags s.at ≡ c
          → (enter_numbers f k n s go c).end ≡ goes to → Further s (enter_numbers f k n s go c).given to
      unfolding enter_numbers before
      adds_enter n go adds s to (Refused a b) i e = never (cc)
      adds_enter n go adds s to (Chosen d at) i e =
          let b = beside_node (rights_of k n) n (f.above s.known n.x n.y) (f.left s.known n.x n.y) d in
          further_join
          (record {
            new = _;
            numbers = refl;
            places = let l = beside_length b in let m = decide-length flags (rights_of k n) s.at i in omega arith;
            small = beside_small b;
            known = refl;
          })
          (adds_over go adds (children k.limits n d) _ to e)

      pub adds_walk : (deep : ℕ) (n : Node) → Adds (walk_numbers f k deep flags) n
      unfolding walk_numbers
      adds_walk zero n s to e = never (cc)
      adds_walk (suc deep) n s to e = adds_enter n (walk_numbers f k deep flags) (adds_walk deep) s to (decide (rights_of k n) flags s.at) refl e

      -- of a node, and over a list of nodes
      pub further : (n : Node) (s to : Stand S) → (read_numbers f k flags n s).end ≡ goes to → Further s (read_numbers f k flags n s).given to
      further n s to e = adds_walk (levels_left n) n s to e

      pub further_over : (ns : List Node) (s to : Stand S) → (over_all k.limits (read_numbers f k flags) ns s).end ≡ goes to
          → Further s (over_all k.limits (read_numbers f k flags) ns s).given to
      further_over ns s to e = adds_over (read_numbers f k flags) further ns s to e
