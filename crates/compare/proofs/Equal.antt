-- Tables with equal blocks: each is finer than the other or equal, and they are compared alike with others.
use Prim.Native.Nat.{ℕ, ◌^◌, ◌<◌}
use mathlib.Core.Path.{◌≡◌, refl, sym, ap₂, subst, ◌∙◌}
use mathlib.Core.Bool.{Bool, true, false}
use mathlib.Core.List.{List}
use native.Mathlib.Omega.{arith}
use Rattle.sides.proofs.Bools.{and_left, and_right}
use Rattle.settings.proofs.Exponents.{below}
use Rattle.tree.specs.Rows.{Row}
use Rattle.laws.specs.Geometry.{in_row}
use Rattle.laws.proofs.Copies.{own_corner}
use Rattle.laws.proofs.Tests.{never}
use Rattle.compare.specs.declared.finer.Finer.TheVariants.{Equal}
use Rattle.compare.specs.Finer.{span_in, lies_in, is_union, finer_or_equal, finer_by, comparison}
use Rattle.compare.specs.Blocks.{SameBlock, BlocksOf, EqualBlocks}
use Rattle.compare.specs.Tests.{Comparable}
use Rattle.compare.proofs.Several.{same_tests, each_of, each_from}
use Rattle.compare.proofs.Unions.{span_ends, union_of, union_from, lies_self, finer_of, finer_from, corner_block}

-- ---- one block

other_way : {r s : Row} → SameBlock r s → SameBlock s r
other_way e = record { left = sym e.left; top = sym e.top; wide = sym e.wide; high = sym e.high }

same_exponent : (a b : ℕ) → 2 ^ a ≡ 2 ^ b → a ≡ b
same_exponent a b e = let l = below a b (omega arith) in let m = below b a (omega arith) in omega arith

-- lengths of which each lies in the other
same_span : (a l b m : ℕ) → span_in a l b m ≡ true → span_in b m a l ≡ true → (a ≡ b) × (l ≡ m)
same_span a l b m h k =
    let e = span_ends a l b m h in
    let f = span_ends b m a l k in
    let u = e.0 in
    let v = e.1 in
    let x = f.0 in
    let y = f.1 in
    (omega arith, omega arith)

both_lie : (r b : Row) → lies_in r b ≡ true → lies_in b r ≡ true → SameBlock r b
unfolding lies_in
both_lie r b h k =
    let x = same_span r.x (2 ^ r.ew) b.x (2 ^ b.ew) (and_left _ _ h) (and_left _ _ k) in
    let y = same_span r.y (2 ^ r.eh) b.y (2 ^ b.eh) (and_right (span_in r.x (2 ^ r.ew) b.x (2 ^ b.ew)) _ h) (and_right (span_in b.x (2 ^ b.ew) r.x (2 ^ r.ew)) _ k) in
    record { left = x.0; top = y.0; wide = same_exponent r.ew b.ew x.1; high = same_exponent r.eh b.eh y.1 }

same_lies : {r s : Row} → SameBlock r s → (b : Row) → lies_in r b ≡ lies_in s b
unfolding lies_in
same_lies e b = rw (e.left, e.top, e.wide, e.high)

same_around : {b c : Row} → SameBlock b c → (r : Row) → lies_in r b ≡ lies_in r c
unfolding lies_in
same_around e r = rw (e.left, e.top, e.wide, e.high)

same_samples : {r s : Row} → SameBlock r s → (px py : ℕ) → in_row r px py ≡ in_row s px py
same_samples e px py = rw (e.left, e.top, e.wide, e.high)

-- ---- equal blocks, of tables with the same samples, each once

pub turned : {rows others : List Row} → Comparable rows others → Comparable others rows
turned c = record { one = c.other; other = c.one; same = λ px py. sym (c.same px py) }

module _ {rows others : List Row} (c : Comparable rows others) where
  blocks_of : finer_or_equal rows others ≡ true → finer_or_equal others rows ≡ true → BlocksOf rows others
  blocks_of f g i r e =
      let own = own_corner r in
      let found = corner_block rows others c.one.once c.same f i r e in
      let b = found.1.row in
      let k = finer_of others rows c.other.once g found.0 i found.1.is e r.x r.y found.1.has.0 (omega arith) in
      (found.0, record { row = b; is = found.1.is; has = both_lie r b found.1.has.1 k })

  pub finer_blocks : BlocksOf rows others → finer_or_equal rows others ≡ true
  finer_blocks f = finer_from rows others c.other.once c.same (λ i r e.
      let found = f i r e in
      let b = found.1.row in
      (found.0, record { row = b; is = found.1.is; has = same_lies found.1.has b ∙ lies_self b }))

pub equal_blocks : {rows others : List Row} → Comparable rows others → finer_or_equal rows others ≡ true → finer_or_equal others rows ≡ true → EqualBlocks rows others
equal_blocks c f g = record { there = blocks_of c f g; back = blocks_of (turned c) g f }

pub is_equal : (a b : Bool) → finer_by a b ≡ Equal → (a ≡ true) × (b ≡ true)
is_equal true true e = (refl, refl)
is_equal true false e = never (cc)
is_equal false true e = never (cc)
is_equal false false e = never (cc)

-- ---- depths and row order play no part

module _ (rows rows' : List Row) (f : BlocksOf rows rows') where
  union_same : {b c : Row} → SameBlock b c → is_union rows b ≡ true → is_union rows' c ≡ true
  union_same {b} {c} e u = union_from rows' c (λ px py here.
      let part = union_of rows b u px py (subst (λ n. 0 < n) (sym (same_samples e px py)) here) in
      let r = part.1.row in
      let found = f part.0 r part.1.is in
      let s = found.1.row in (
        found.0,
        record {
          row = s;
          is = found.1.is;
          has = (subst (λ n. 0 < n) (same_samples found.1.has px py) part.1.has.0, sym (same_lies found.1.has c) ∙ sym (same_around e r) ∙ part.1.has.1);
        },
      ))

  finer_same : (others others' : List Row) → BlocksOf others' others → finer_or_equal rows others ≡ true → finer_or_equal rows' others' ≡ true
  unfolding finer_or_equal
  finer_same others others' g h = each_from (is_union rows') others' (λ j b e.
      let found = g j b e in
      union_same (other_way found.1.has) (each_of (is_union rows) others h found.0 found.1.is))

module _ {first first' second second' : List Row} (e : EqualBlocks first first') (f : EqualBlocks second second') where
  same_finer : finer_or_equal first second ≡ finer_or_equal first' second'
  same_finer = same_tests (finer_or_equal first second) (finer_or_equal first' second') (finer_same first first' e.there second second' f.back) (finer_same first' first e.back second' second f.there)

  same_coarser : finer_or_equal second first ≡ finer_or_equal second' first'
  same_coarser = same_tests (finer_or_equal second first) (finer_or_equal second' first') (finer_same second second' f.there first first' e.back) (finer_same second' second f.back first' first e.there)

  pub same_comparison : comparison first second ≡ comparison first' second'
  same_comparison = ap₂ finer_by same_finer same_coarser
