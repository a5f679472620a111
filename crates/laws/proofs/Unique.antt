-- Flags say one coding tree at most.
use Prim.Native.Nat.{ℕ}
use mathlib.Core.Path.{◌≡◌, refl, subst, path_j}
use mathlib.Core.Bool.{true, Bool-set}
use mathlib.Core.List.{List, ◌++◌}
use lib.ListN.{length}
use Rattle.sides.proofs.Bools.{clash}
use Rattle.tree.specs.declared.Node.{Node}
use Rattle.tree.specs.declared.Decision.{Decision}
use Rattle.tree.specs.Kind.{Kind}
use Rattle.tree.specs.Splits.{rights_of, allows}
use Rattle.tree.specs.Flags.{flags_for}
use Rattle.tree.specs.Children.{children, corner_inside}
use Rattle.tree.specs.Tree.{Trees, none, skip, node, flags_of}
use Rattle.laws.proofs.Bytes.{Reads, nothing, reads_part, reads_all}
use Rattle.laws.proofs.Flags.{decide_complete}

module _ {k : Kind} (flags : List ℕ) where
  -- trees are the only ones that the flags say from a place on
  abbrev pub Alone : {ns : List Node} → Trees k ns → Type 0
  Alone {ns} t = (u : Trees k ns) (at to end : ℕ) → Reads flags at (flags_of t) to → Reads flags at (flags_of u) end → (t ≡ u) × (to ≡ end)

  grow_alone : {n : Node} {ns : List Node} {d f : Decision} → d ≡ f → (here here' : corner_inside k.limits n ≡ true) (ok : allows (rights_of k n) d ≡ true)
      {kids : Trees k (children k.limits n d)} {rest rest' : Trees k ns} {at to end : ℕ} → Alone kids → Alone rest → Reads flags at (flags_of kids ++ flags_of rest) to
      → (ok' : allows (rights_of k n) f ≡ true) (kids' : Trees k (children k.limits n f)) → Reads flags at (flags_of kids' ++ flags_of rest') end
      → (node {n = n} d here ok kids rest ≡ node f here' ok' kids' rest') × (to ≡ end)
  grow_alone {n} {d = d} p here here' ok {kids} {rest} {rest'} {at} {to} {end} a b r =
      path_j (λ f q. (ok' : allows (rights_of k n) f ≡ true) (kids' : Trees k (children k.limits n f)) → Reads flags at (flags_of kids' ++ flags_of rest') end
      → (node {n = n} d here ok kids rest ≡ node f here' ok' kids' rest') × (to ≡ end))
      (λ ok' kids' s.
      let u = reads_part (flags_of kids) r in
      let v = reads_part (flags_of kids') s in
      let x = a kids' at u.0 v.0 u.1 v.1 in
      let y = b rest' u.0 to end u.2 (rw (← x.1) at v.2) in
      (λ i. node d (Bool-set _ _ here here' i) (Bool-set _ _ ok ok' i) (x.0 i) (y.0 i), y.1)) p

  pub alone : {ns : List Node} (t : Trees k ns) → Alone t
  unfolding flags_of
  alone none none at to end nothing nothing = (refl, refl)
  alone (skip out rest) (skip out' rest') at to end r s = let h = alone rest rest' at to end r s in (λ i. skip (Bool-set _ _ out out' i) (h.0 i), h.1)
  alone (skip out rest) (node d here ok kids rest') at to end r s = clash here out
  alone (node d here ok kids rest) (skip out rest') at to end r s = clash here out
  alone (node {n = n} d here ok kids rest) (node f here' ok' kids' rest') at to end r s =
      let a = reads_part (flags_for (rights_of k n) d) r in
      let b = reads_part (flags_for (rights_of k n) f) s in
      let x = decide_complete flags (rights_of k n) d ok a.1 in
      let y = decide_complete flags (rights_of k n) f ok' b.1 in
      let same : d ≡ f = cc in
      let mid : a.0 ≡ b.0 = cc in
      grow_alone same here here' ok (alone kids) (alone rest) a.2 ok' kids' (rw (← mid) at b.2)

-- trees of the same flags are the same
pub tree_unique : {k : Kind} {ns : List Node} (t u : Trees k ns) → flags_of t ≡ flags_of u → t ≡ u
tree_unique t u e = let r = reads_all (flags_of t) in (alone (flags_of t) t u 0 _ _ r (subst (λ b. Reads (flags_of t) 0 b (length (flags_of t))) e r)).0
