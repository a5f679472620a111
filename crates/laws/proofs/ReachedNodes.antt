-- Every node that a walk can reach from a root is good, and its corner lies in the picture; so it has an open split where
-- it is out. In every proper kind.
use mathlib.Core.Path.{◌≡◌, subst, sym}
use mathlib.Core.Bool.{true, false}
use mathlib.Core.List.Memᴰ
use mathlib.Core.List.{List, Memᴰ}
use mathlib.Core.Logic.{◌⊎◌, inl, inr}
use Rattle.tree.specs.declared.Node.{Node}
use Rattle.tree.specs.Kind.{Kind}
use Rattle.tree.specs.Splits.{inside, rights_of}
use Rattle.tree.specs.Flags.{some_open}
use Rattle.tree.specs.Children.{corner_inside}
use Rattle.laws.specs.Every.{Every, every_none, every_more}
use Rattle.laws.specs.Proper.{Proper, RootSquare}
use Rattle.laws.specs.Reached.{Reached, begins, goes_on}
use Rattle.laws.specs.Good.{Good}
use Rattle.laws.proofs.Edge.{good_root, good_kids, edge_has_open_split}

pub every_in : {A : Type 0} {P : A → Type 0} {a : A} {all : List A} → Every P all → Memᴰ a all → P a
every_in {A = A} {P = P} {a = a} every_none m = elim m [ ]
every_in {A} {P} {a} (every_more {a = b} {rest = rest} p ps) m = go (every_in ps) (Memᴰ.cases_cons m)
  where
    go : (Memᴰ a rest → P a) → (a ≡ b) ⊎ Memᴰ a rest → P a
    go later (inl e) = subst P (sym e) p
    go later (inr n) = later n

module _ {k : Kind} (v : Proper k) {root : Node} (r : RootSquare k.limits root) where
  reached_good : {n : Node} → Reached k root n → Good k.limits n × (corner_inside k.limits n ≡ true)
  reached_good (begins here) = (good_root v r, here)
  reached_good (goes_on d from ok m here) = (every_in (good_kids v (reached_good from).0 d ok) m, here)

  pub reached_opens : {n : Node} → Reached k root n → inside k.limits n ≡ false → some_open (rights_of k n) ≡ true
  reached_opens from out = let g = reached_good from in edge_has_open_split v g.0 g.1 out
