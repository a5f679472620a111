-- The rows of a coding tree cover each sample of its node in the picture once, and no other sample.
use Prim.Native.Nat.{ℕ, ◌+◌, ◌*◌, ◌≤◌, ◌<◌}
use mathlib.Core.Path.{◌≡◌, refl, ◌∙◌}
use mathlib.Core.List.{List, [], ◌∷◌}
use borrow.Author.Tests.{lt-ltb, le-ltb, le-leb, lt-leb}
use native.Mathlib.Omega.{arith}
use native.Mathlib.Decide.{dec_lt}
use Rattle.tree.specs.declared.Node.{Node}
use Rattle.tree.specs.declared.Direction.{Direction}
use Rattle.tree.specs.Kind.{Kind}
use Rattle.tree.specs.Splits.{pick}
use Rattle.tree.specs.Rows.{Row}
use Rattle.tree.specs.Tree.{Tree, rows_of}
use Rattle.laws.specs.Geometry.{span, rectangle, copies}
use Rattle.laws.specs.Every.{every_none, every_more}
use Rattle.laws.specs.Proper.{Proper}
use Rattle.laws.specs.Directions.{extent}
use Rattle.laws.specs.Shape.{Shape}
use Rattle.laws.proofs.Measure.{UpTo, of_rows, measured}

-- ---- spans

module _ (a l p : ℕ) where
  pub span_in_lem : a ≤ p → p < a + l → span a l p ≡ 1
  unfolding span
  span_in_lem h k = rw (le-leb a p h, lt-ltb p (a + l) k)

  pub span_before : p < a → span a l p ≡ 0
  unfolding span
  span_before h = rw (lt-leb a p h)

  pub span_after : a + l ≤ p → span a l p ≡ 0
  unfolding span
  span_after h = rw (le-leb a p (omega arith), le-ltb p (a + l) h)

span_empty : (a p : ℕ) → span a 0 p ≡ 0
span_empty a p = go (dec_lt p a)
  where
    go : Dec (p < a) → span a 0 p ≡ 0
    go (yes i) = span_before a 0 p i
    go (no i) = span_after a 0 p (omega arith)

pub span_join : (a k l p : ℕ) → span a (k + l) p ≡ span a k p + span (a + k) l p
span_join a k l p = go (dec_lt p a) (dec_lt p (a + k)) (dec_lt p (a + (k + l)))
  where
    go : Dec (p < a) → Dec (p < a + k) → Dec (p < a + (k + l)) → span a (k + l) p ≡ span a k p + span (a + k) l p
    go (yes h) _ _ = rw (span_before a (k + l) p h, span_before a k p h, span_before (a + k) l p (omega arith))
    go (no h) (yes i) _ = rw (span_in_lem a (k + l) p (omega arith) (omega arith), span_in_lem a k p (omega arith) i, span_before (a + k) l p i)
    go (no h) (no i) (yes j) = rw (span_in_lem a (k + l) p (omega arith) j, span_after a k p (omega arith), span_in_lem (a + k) l p (omega arith) (omega arith))
    go (no h) (no i) (no j) = rw (span_after a (k + l) p (omega arith), span_after a k p (omega arith), span_after (a + k) l p (omega arith))

-- a span that ends in the picture, or starts past its end
module _ (end p : ℕ) where
  span_whole : (a l : ℕ) → a + l ≤ end → span a l p ≡ span a l p * span 0 end p
  span_whole a l h = go (dec_lt p end)
    where
      go : Dec (p < end) → span a l p ≡ span a l p * span 0 end p
      go (yes i) = rw (span_in_lem 0 end p (omega arith) (omega arith)) (omega arith)
      go (no i) = rw (span_after a l p (omega arith)) (omega arith)

  span_past : (a l : ℕ) → end ≤ a → span a l p * span 0 end p ≡ 0
  span_past a l h = go (dec_lt p a)
    where
      go : Dec (p < a) → span a l p * span 0 end p ≡ 0
      go (yes i) = rw (span_before a l p i) (omega arith)
      go (no i) = rw (span_after 0 end p (omega arith)) (omega arith)

  -- so a span in the picture is a measure
  span_measure : UpTo end (λ a l. span a l p) (λ a l. span a l p * span 0 end p)
  span_measure = record {
    same = span_whole;
    past = span_past;
    empty = λ a. rw (span_empty a p) (omega arith);
    join = λ a k l. rw (span_join a k l p) (omega arith);
  }

-- ---- samples

module _ (px py : ℕ) where
  -- the sample, in the dimension that a cut of direction e divides
  abbrev point : Direction → ℕ
  point e = pick e py px

  copies_rows : (rows : List Row) → copies px py rows ≡ of_rows (λ e a l. span a l (point e)) rows
  unfolding copies
  copies_rows [] = refl
  copies_rows (r ∷ rows) = rw (copies_rows rows)

-- 1 for the samples of the node's rectangle that lie in the picture, 0 for all others
pub covered : {k : Kind} → Proper k → {n : Node} → Shape n → (t : Tree k n) (px py : ℕ)
    → copies px py (rows_of t) ≡ rectangle n.x n.y n.w n.h px py * rectangle 0 0 k.limits.width k.limits.height px py
covered {k} v sh t px py =
    copies_rows px py (rows_of t)
    ∙ measured v (λ e. span_measure (extent e k.limits) (point px py e)) t (every_more sh every_none)
    ∙ omega arith
