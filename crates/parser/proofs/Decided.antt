-- What the flags decide at a node, from what the code of a walk has found: inside the picture by its open splits, out of it by the cut that the edge leaves.
use Prim.Native.Nat.{ℕ, ◌+◌, ◌≤◌}
use mathlib.Core.Path.{◌≡◌, refl, sym, ap, subst, ◌∙◌}
use mathlib.Core.Bool.{Bool, true, false, not, ◌&&◌, ◌||◌, cond}
use mathlib.Core.List.{List}
use native.Mathlib.Omega.{arith}
use lib.ListN.{length, get_or}
use lib.Dec.{leb, ltb, eqb}
use borrow.Author.Tests.{eqb-true, eqb-false, leb-true, le-ltb}
use Rattle.sides.proofs.Bools.{and_left, and_right, or_none_left, or_none_right, same, same_eq, for_five, at_five}
use Rattle.tree.specs.declared.Direction.{Direction}
use Rattle.tree.specs.declared.Direction.TheVariants.{Horizontal, Vertical}
use Rattle.tree.specs.declared.Node.{Node}
use Rattle.tree.specs.declared.Decision.{Decision}
use Rattle.tree.specs.declared.Decision.TheVariants.{Leaf}
use Rattle.tree.specs.Flags.{Flag}
use Rattle.tree.specs.Flags.{Value, Bad}
use Rattle.tree.specs.Flags.{Choice}
use Rattle.tree.specs.Flags.{Chosen, Refused}
use Rattle.tree.specs.Kind.{Kind}
use Rattle.tree.specs.Splits.{Rights, bit, is_out, right_out, bottom_out, rights_of, rights_in, open_splits}
use Rattle.tree.specs.Flags.{some_open, flag_at, after_binary, after_vertical, after_quad, after_split, decide}
use Rattle.tree.specs.Children.{corner_inside}
use Rattle.flags.specs.Out.{after_quad_out, decide_out}
use Rattle.flags.proofs.Decided.{inside_decides, out_decides}
use Rattle.laws.proofs.Edge.{no_dead_end}
use Rattle.laws.proofs.Steps.{is_split}
use Rattle.laws.proofs.Tests.{never}
use Rattle.nodes.specs.State.{place_of}
use Rattle.nodes.specs.Tables.{limits_in}
use Rattle.nodes.specs.RowNodes.{node_in, out_in}
use Rattle.walks.specs.Stands.{word, Inside, Outer}
use Rattle.walks.proofs.Open.{inside_rights, out_rights, out_one_cut}
use Rattle.walks.proofs.AtEdge.{corner_is, right_is, bottom_is, out_is}
use Rattle.walks.proofs.One.{Case}
use Rattle.parser.specs.Walking.{read_way, zero_next, leaf_next}
use Rattle.parser.proofs.Seen.{Seen, Sees}

-- ---- open splits as a number

-- no split is open where their number is 0: one test over all 32 sets of open splits
abbrev none : Bool → Bool → Bool → Bool → Bool → Bool
none q bh bv th tv = same (eqb (bit q 1 + bit bh 2 + bit bv 4 + bit th 8 + bit tv 16) 0) (not (q || ((bh || th) || (bv || tv))))

all_none : for_five none ≡ true
all_none = refl

pub none_open : (r : Rights) → eqb (open_splits r) 0 ≡ not (some_open r)
unfolding open_splits
none_open r =
    same_eq _ (not (some_open r))
    (at_five none all_none r.quad (r.binary Horizontal) (r.binary Vertical) (r.ternary Horizontal) (r.ternary Vertical))

some_open_lem : (r : Rights) → ¬ (open_splits r ≡ 0) → some_open r ≡ true
some_open_lem r h = go (some_open r) refl
  where
    go : (b : Bool) → some_open r ≡ b → b ≡ true
    go true e = refl
    go false e = absurd (h (eqb-true (open_splits r) 0 (none_open r ∙ ap not e)))

-- ---- one flag, and what is decided after it

module _ (flags : List ℕ) (at : ℕ) where
  flag_zero : (ltb at (length flags) && eqb (get_or flags at 0) 0) ≡ true → flag_at true false flags at ≡ Value false (at + 1)
  unfolding flag_at
  flag_zero h =
      let t = and_left (ltb at (length flags)) _ h in
      let z = eqb-true (get_or flags at 0) 0 (and_right (ltb at (length flags)) _ h) in
      rw (t, z)

  flag_missing : length flags ≤ at → flag_at true false flags at ≡ Bad 11 (length flags)
  unfolding flag_at
  flag_missing h = rw (le-ltb _ _ h)

-- a decision after the split flag is a split
chosen_is : {d e : Decision} {next m : ℕ} → is_split e ≡ true → Chosen e m ≡ Chosen d next → is_split d ≡ true
chosen_is {d} {e} s h = let f : e ≡ d = cc in subst (λ x. is_split x ≡ true) f s

module _ (r : Rights) (flags : List ℕ) {d : Decision} {next : ℕ} where
  cut_splits : (e : Direction) (f : Flag) → after_binary e f ≡ Chosen d next → is_split d ≡ true
  unfolding after_binary
  cut_splits e (Bad k p) h = never (cc)
  cut_splits e (Value true m) h = chosen_is refl h
  cut_splits e (Value false m) h = chosen_is refl h

  vertical_splits : (f : Flag) → after_vertical r flags f ≡ Chosen d next → is_split d ≡ true
  unfolding after_vertical
  vertical_splits (Bad k p) h = never (cc)
  vertical_splits (Value true m) h = cut_splits Vertical _ h
  vertical_splits (Value false m) h = cut_splits Horizontal _ h

  quad_splits : (f : Flag) → after_quad r flags f ≡ Chosen d next → is_split d ≡ true
  unfolding after_quad
  quad_splits (Bad k p) h = never (cc)
  quad_splits (Value true m) h = chosen_is refl h
  quad_splits (Value false m) h = vertical_splits _ h

  -- so is one after a split flag that is not 0
  pub first_splits : (at : ℕ) → (ltb at (length flags) && eqb (get_or flags at 0) 0) ≡ false → after_split r flags (flag_at true false flags at) ≡ Chosen d next → is_split d ≡ true
  unfolding flag_at after_split
  first_splits at z h = go (ltb at (length flags)) (leb (get_or flags at 0) 1) (eqb (get_or flags at 0) 1) refl refl z h
    where
      go : (a b v : Bool) → leb (get_or flags at 0) 1 ≡ b → eqb (get_or flags at 0) 1 ≡ v → (a && eqb (get_or flags at 0) 0) ≡ false
          → after_split r flags (cond a (cond b (Value v (at + 1)) (Bad 12 at)) (Bad 11 (length flags))) ≡ Chosen d next → is_split d ≡ true
      go true true true i j z h = quad_splits _ h
      go true true false i j z h =
          let x = leb-true (get_or flags at 0) 1 i in
          let y = eqb-false (get_or flags at 0) 1 j in
          let w = eqb-false (get_or flags at 0) 0 z in
          absurd (omega arith)
      go true false v i j z h = never (cc)
      go false b v i j z h = never (cc)

pub out_splits_lem : {d : Decision} {next : ℕ} (splits : ℕ) (f : Flag) → after_quad_out splits f ≡ Chosen d next → is_split d ≡ true
unfolding after_quad_out
out_splits_lem splits (Bad k p) h = never (cc)
out_splits_lem splits (Value true m) h = chosen_is refl h
out_splits_lem splits (Value false m) h = chosen_is refl h

-- ---- a node inside the picture

module _ {bound : ℕ} {k : Kind} {n : Node} {row splits : ℕ} (s : Inside bound k n (word row splits)) (flags : List ℕ) (at : ℕ) where
  shut_seen : splits ≡ 0 → Seen k n row flags at (Chosen Leaf at)
  unfolding decide after_split flag_at
  shut_seen e = record { placed = s.placed; here = s.here; says = s.row; decides = rw (inside_rights s, e) }

  open_seen : ¬ (splits ≡ 0) → {choice : Choice} → after_split (rights_in false splits) flags (flag_at true false flags at) ≡ choice → Seen k n row flags at choice
  open_seen some {choice} e = record {
    placed = s.placed;
    here = s.here;
    says = s.row;
    decides =
        let rights = inside_rights s in
        let still = subst (λ r. some_open r ≡ true) rights (some_open_lem (rights_of k n) (λ h. some (s.splits ∙ h))) in
        rw rights (sym (inside_decides splits flags at still) ∙ e);
  }

module _ {bound : ℕ} {u flags : List ℕ} {c row splits : ℕ} where
  -- no split is open
  pub shut_sees : splits ≡ 0 → Sees (Inside bound) u flags c (word row splits) (Chosen Leaf (place_of c))
  shut_sees e = record { seen = λ x. shut_seen x.stands_for flags (place_of c) e }

  module _ (some : ¬ (splits ≡ 0)) where
    pub open_sees : {choice : Choice} → after_split (rights_in false splits) flags (flag_at true false flags (place_of c)) ≡ choice → Sees (Inside bound) u flags c (word row splits) choice
    open_sees e = record { seen = λ x. open_seen x.stands_for flags (place_of c) some e }

    -- the next flag is 0, and there is none
    pub zero_sees : zero_next flags c ≡ true → Sees (Inside bound) u flags c (word row splits) (Chosen Leaf (place_of c + 1))
    unfolding after_split
    zero_sees h = open_sees (ap (after_split (rights_in false splits) flags) (flag_zero flags (place_of c) h))

    pub end_sees : length flags ≤ place_of c → Sees (Inside bound) u flags c (word row splits) (Refused 11 (length flags))
    unfolding after_split
    end_sees h = open_sees (ap (after_split (rights_in false splits) flags) (flag_missing flags (place_of c) h))

-- ---- a node that is out

module _ {u flags : List ℕ} {c row depths : ℕ} (begins : corner_inside (limits_in u) (node_in row) ≡ true) (out : is_out (limits_in u) (node_in row) ≡ true) where
  pub out_sees : {choice : Choice} → decide_out (out_in u row depths (right_out (limits_in u) (node_in row)) (bottom_out (limits_in u) (node_in row))) flags (place_of c) ≡ choice
      → Sees Outer u flags c (word row depths) choice
  out_sees {choice} e = record { seen = λ x. out_seen x }
    where
      out_seen : {k : Kind} {n : Node} {s : ℕ} → Case (read_way flags) Outer u c (word row depths) k n s → Seen k n row flags (place_of c) choice
      out_seen {k} {n} x =
          let o = x.stands_for in
          let here = sym (corner_is x.table o) ∙ begins in
          let past = ap not (sym (out_is x.table o) ∙ out) in
          let rights = out_rights x.proper o here past in
          let one = out_one_cut x.proper o here past in
          let still = subst (λ r. (r.within || some_open r) ≡ true) rights (no_dead_end x.proper o.placed.good here) in
          record {
            placed = o.placed;
            here = here;
            says = o.row;
            decides = rw rights (sym (out_decides _ flags one.0 one.1 (place_of c) one.2 still) ∙ rw (right_is x.table o, bottom_is x.table o, x.table) at e);
          }

-- ---- a root inside the picture that is no leaf by its next flag

pub no_leaf : (flags : List ℕ) (c : ℕ) {out : Bool} {splits : ℕ} → out ≡ false → leaf_next out splits flags c ≡ false → (¬ (splits ≡ 0)) × (zero_next flags c ≡ false)
no_leaf flags c {out} {splits} o h =
    let g = subst (λ x. leaf_next x splits flags c ≡ false) o h in
    (eqb-false splits 0 (or_none_left (eqb splits 0) _ g), or_none_right (eqb splits 0) _ g)
