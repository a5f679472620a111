-- Two ways to find neighbours that agree at every node give the same context numbers.
use mathlib.Core.Path.{◌≡◌, refl}
use mathlib.Core.Bool.{true}
use mathlib.Core.List.{List, [], ◌∷◌, ◌++◌, append-nil}
use Rattle.tree.specs.declared.Node.{Node}
use Rattle.tree.specs.declared.Decision.{Decision}
use Rattle.tree.specs.Kind.{Kind}
use Rattle.tree.specs.Splits.{inside, rights_of, allows}
use Rattle.tree.specs.Children.{children, corner_inside}
use Rattle.tree.specs.Rows.{Row, row_of}
use Rattle.tree.specs.Tree.{Trees, none, skip, node, rows_of}
use Rattle.laws.specs.Every.{Every, every_none, every_more}
use Rattle.laws.proofs.EveryRow.{every_row_lem}
use Rattle.numbers.specs.Walk.{Finder, put_all, contexts_of}

pub put_append : {S : Type 0} (f : Finder S) (a b : List Row) (s : S) → put_all f (a ++ b) s ≡ put_all f b (put_all f a s)
unfolding put_all
put_append f [] b s = refl
put_append f (r ∷ a) b s = put_append f a b (f.put r s)

-- From a property of nodes that is handed down to the children, what it says of the rows, and a relation between what the two know.
module _ {S T : Type 0} (f : Finder S) (g : Finder T) (R : S → T → Type 0) (k : Kind) {P : Node → Type 0} {Q : Row → Type 0}
    (kids : (n : Node) → P n → (d : Decision) → allows (rights_of k n) d ≡ true → Every P (children k.limits n d))
    (leaf : (n : Node) → P n → inside k.limits n ≡ true → Q (row_of n))
    (keep : (r : Row) → Q r → (s : S) (u : T) → R s u → R (f.put r s) (g.put r u)) where
  keep_all : {rows : List Row} → Every Q rows → (s : S) (u : T) → R s u → R (put_all f rows s) (put_all g rows u)
  unfolding put_all
  keep_all every_none s u r = r
  keep_all (every_more {a = a} q qs) s u r = keep_all qs (f.put a s) (g.put a u) (keep a q s u r)

  pub keep_tree : {ns : List Node} (t : Trees k ns) → Every P ns → (s : S) (u : T) → R s u → R (put_all f (rows_of t) s) (put_all g (rows_of t) u)
  keep_tree t ps s u r = keep_all (every_row_lem k kids leaf t ps) s u r

  module _ (above : (n : Node) → P n → corner_inside k.limits n ≡ true → (s : S) (u : T) → R s u → f.above s n.x n.y ≡ g.above u n.x n.y)
      (left : (n : Node) → P n → corner_inside k.limits n ≡ true → (s : S) (u : T) → R s u → f.left s n.x n.y ≡ g.left u n.x n.y) where
    pub same_contexts : {ns : List Node} (t : Trees k ns) → Every P ns → (s : S) (u : T) → R s u → contexts_of f t s ≡ contexts_of g t u
    unfolding contexts_of rows_of
    same_contexts none ps s u r = refl
    same_contexts (skip out rest) (every_more p ps) s u r = same_contexts rest ps s u r
    same_contexts (node {n = n} d here ok below rest) (every_more p ps) s u r =
        let rows = rw append-nil at (every_row_lem k {Q = Q} kids leaf (node {ns = []} d here ok below none) (every_more p every_none)) in
        let a = above n p here s u r in
        let b = left n p here s u r in
        let c = same_contexts below (kids n p d ok) s u r in
        let e = same_contexts rest ps _ _ (keep_all rows s u r) in
        rw (a, b, c, e)
