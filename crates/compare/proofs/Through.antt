-- Finer or equal is transitive, for tables with the same samples, each once: a row lies inside a block that lies inside a block.
use Prim.Native.Nat.{ℕ, ◌^◌}
use mathlib.Core.Path.{◌≡◌, ◌∙◌}
use mathlib.Core.Bool.{true}
use mathlib.Core.List.{List}
use native.Mathlib.Omega.{arith}
use Rattle.sides.proofs.Bools.{and_left, and_right, and_intro}
use Rattle.tree.specs.Rows.{Row}
use Rattle.compare.specs.Finer.{span_in, lies_in, finer_or_equal}
use Rattle.compare.specs.Tests.{Comparable}
use Rattle.compare.proofs.Unions.{span_ends, span_from, finer_from, corner_block}

-- ---- one block

span_through : (a l b m c n : ℕ) → span_in a l b m ≡ true → span_in b m c n ≡ true → span_in a l c n ≡ true
span_through a l b m c n h k =
    let e = span_ends a l b m h in
    let f = span_ends b m c n k in
    let u = e.0 in
    let v = e.1 in
    let x = f.0 in
    let y = f.1 in
    span_from a l c n (omega arith) (omega arith)

lies_through : (r b c : Row) → lies_in r b ≡ true → lies_in b c ≡ true → lies_in r c ≡ true
unfolding lies_in
lies_through r b c h k =
    let wide = span_in r.x (2 ^ r.ew) b.x (2 ^ b.ew) in
    let wide₁ = span_in b.x (2 ^ b.ew) c.x (2 ^ c.ew) in
    let x = span_through r.x (2 ^ r.ew) b.x (2 ^ b.ew) c.x (2 ^ c.ew) (and_left wide _ h) (and_left wide₁ _ k) in
    let y = span_through r.y (2 ^ r.eh) b.y (2 ^ b.eh) c.y (2 ^ c.eh) (and_right wide _ h) (and_right wide₁ _ k) in
    and_intro _ _ x y

-- ---- tables

pub finer_through : {rows others third : List Row} → Comparable rows others → Comparable others third
    → finer_or_equal rows others ≡ true → finer_or_equal others third ≡ true → finer_or_equal rows third ≡ true
finer_through {rows} {others} {third} c d f g = finer_from rows third d.other.once (λ px py. c.same px py ∙ d.same px py) (λ i r e.
    let there = corner_block rows others c.one.once c.same f i r e in
    let b = there.1.row in
    let around = corner_block others third d.one.once d.same g there.0 b there.1.is in
    (around.0, record { row = around.1.row; is = around.1.is; has = lies_through r b around.1.row there.1.has.1 around.1.has.1 }))
