-- The cut that the marks of a table show is the one that its rows show.
use Rattle.std.proofs.Common.{◌≡◌, ℕ, ◌+◌, ◌*◌, ◌/◌, ◌%◌, ◌^◌, ◌<◌, ◌≤◌, Bool, true, eqb, List, length, get_or, take, sym, refl, ap, ◌∙◌, subst, mul-le-mul_left, arith, le-ltb, lt-ltb, eq-eqb, ne_eqb}
use Rattle.sides.proofs.Bools.{clash}
use Rattle.tree.specs.declared.Direction.TheVariants.{Horizontal, Vertical}
use Rattle.tree.specs.declared.Decision.{Decision}
use Rattle.tree.specs.declared.Decision.TheVariants.{Leaf, Quad, Binary, Ternary}
use Rattle.tree.specs.Splits.{is_split}
use Rattle.tree.specs.Rows.{Row, rows_in}
use Rattle.tree.specs.Back.{starts_after, cut_from}
use Rattle.laws.proofs.Starts.{starts_past}
use Rattle.nodes.specs.RowNodes.{node_in}
use Rattle.marks.specs.Table.{rows_left, Eight}
use Rattle.marks.specs.Marks.{corner_after, cells_before, Marked, Begins, Shows, is_cut, Cut, Divided}
use Rattle.marks.proofs.Corners.{SmallTo, starts_left, starts_top}
use Rattle.marks.proofs.NextRows.{rows_apart, rows_cells}

-- ---- the row after so many cells from a row on

module _ {bytes marks : List ℕ} (m : Marked bytes marks) (i count : ℕ) (within : cells_before bytes i + count < 1024)
    {got : ℕ} (e : got ≡ get_or marks (1024 + (cells_before bytes i + count)) 0) where
  is_corner : got ≡ corner_after (cells_before bytes i + count) (rows_in bytes)
  is_corner = e ∙ m.starts (cells_before bytes i + count) within

  starts_on : (test : Row → Bool) → starts_after count test (rows_left bytes i) ≡ starts_after (cells_before bytes i + count) test (rows_in bytes)
  starts_on test =
      sym (ap (λ rows. starts_after (cells_before bytes i + count) test rows) (sym (rows_apart bytes i)) ∙ starts_past test (rows_left bytes i) (take i (rows_in bytes)) count)

  small_rows : SmallTo bytes (length bytes / 8) 0 (cells_before bytes i + count)
  small_rows j h l = subst (λ (x : ℕ). Eight bytes x) (let s : j * 8 ≡ 0 + j * 8 = omega arith in s) (m.small j h (omega arith))

  pub left_shown : (x : ℕ) → x < 65535 → starts_after count (λ r. eqb r.x x) (rows_left bytes i) ≡ eqb (got % 65536) x
  left_shown x h = starts_on (λ r. eqb r.x x) ∙ starts_left bytes x h (length bytes / 8) 0 (cells_before bytes i + count) small_rows ∙ ap (λ g. eqb (g % 65536) x) (sym is_corner)

  pub top_shown : (y : ℕ) → y < 65535 → starts_after count (λ r. eqb r.y y) (rows_left bytes i) ≡ eqb (got / 65536) y
  top_shown y h = starts_on (λ r. eqb r.y y) ∙ starts_top bytes y h (length bytes / 8) 0 (cells_before bytes i + count) small_rows ∙ ap (λ g. eqb (g / 65536) y) (sym is_corner)

-- ---- the cut, by what the code has looked up

module _ {marks : List ℕ} {row at base area : ℕ} (b : base ≡ get_or marks (at / 8 % 1024) 0) (a : area ≡ (node_in row).w * (node_in row).h) where
  module _ {bytes : List ℕ} (m : Marked bytes marks) (g : Begins bytes row at) where
    base_is : base ≡ cells_before bytes (at / 8)
    base_is =
        let t = g.there in
        let w = g.within in
        let r = rows_cells bytes (at / 8) (omega arith) in
        let e : at / 8 % 1024 ≡ at / 8 = omega arith in
        b ∙ ap (λ i. get_or marks i 0) e ∙ m.before (at / 8) (omega arith) (omega arith)

    looked : (count : ℕ) → count ≤ area / 32 → {sum got : ℕ} → sum ≡ (base + count) % 2 ^ 32 → got ≡ get_or marks (1024 + sum % 1024) 0
        → (cells_before bytes (at / 8) + count < 1024) × (got ≡ get_or marks (1024 + (cells_before bytes (at / 8) + count)) 0)
    looked count h {sum} s f =
        let w = g.within in
        let i = base_is in
        let less : cells_before bytes (at / 8) + count < 1024 = omega arith in
        let e : sum % 1024 ≡ cells_before bytes (at / 8) + count = omega arith in
        (less, f ∙ ap (λ c. get_or marks (1024 + c) 0) e)

  shows : {count : ℕ} → count ≤ area / 32 → {sum got : ℕ} → sum ≡ (base + count) % 2 ^ 32 → got ≡ get_or marks (1024 + sum % 1024) 0 → Shows marks row at count got
  shows {count} h s f = record {
    left = λ m g. let l = looked m g count h s f in left_shown m (at / 8) count l.0 l.1 (node_in row).x g.left;
    top = λ m g. let l = looked m g count h s f in top_shown m (at / 8) count l.0 l.1 (node_in row).y g.top;
  }

-- the row after a part of the node's cells
pub part_shown : {marks : List ℕ} {row at base area share : ℕ} → base ≡ get_or marks (at / 8 % 1024) 0 → area ≡ (node_in row).w * (node_in row).h → share ≤ 2
    → {sum got : ℕ} → sum ≡ (base + area * share / 64) % 2 ^ 32 → got ≡ get_or marks (1024 + sum % 1024) 0 → Shows marks row at ((node_in row).w * (node_in row).h * share / 64) got
part_shown {area} {share} b a s e f = let m = mul-le-mul_left area s in rw (← a) (shows b a (omega arith) e f)

module _ {marks : List ℕ} {row at half two : ℕ} (s : Shows marks row at ((node_in row).w * (node_in row).h * two / 64) half) (e : two ≡ 2) where
  of_half : Shows marks row at ((node_in row).w * (node_in row).h / 32) half
  of_half = let f : (node_in row).w * (node_in row).h / 32 ≡ (node_in row).w * (node_in row).h * two / 64 = rw e (omega arith) in rw f s

  pub cut_flat : half % 65536 ≡ (node_in row).x → Cut marks row at (Binary Horizontal)
  unfolding cut_from
  cut_flat h = record { cut = refl; found = λ bytes m g. rw (of_half.left m g, eq-eqb _ _ h) }

  module _ (no_left : ¬ (half % 65536 ≡ (node_in row).x)) where
    pub cut_steep : half / 65536 ≡ (node_in row).y → Cut marks row at (Binary Vertical)
    unfolding cut_from
    cut_steep h = record { cut = refl; found = λ bytes m g. rw (of_half.left m g, ne_eqb _ _ no_left, of_half.top m g, eq-eqb _ _ h) }

    module _ (no_top : ¬ (half / 65536 ≡ (node_in row).y)) {quarter one : ℕ} (q : Shows marks row at ((node_in row).w * (node_in row).h * one / 64) quarter) (f : one ≡ 1) where
      of_quarter : Shows marks row at ((node_in row).w * (node_in row).h / 64) quarter
      of_quarter = let g : (node_in row).w * (node_in row).h / 64 ≡ (node_in row).w * (node_in row).h * one / 64 = rw f (omega arith) in rw g q

      pub cut_across : quarter % 65536 ≡ (node_in row).x → Cut marks row at (Ternary Horizontal)
      unfolding cut_from
      cut_across h = record { cut = refl; found = λ bytes m g. rw (of_half.left m g, ne_eqb _ _ no_left, of_half.top m g, ne_eqb _ _ no_top, of_quarter.left m g, eq-eqb _ _ h) }

      pub cut_down : ¬ (quarter % 65536 ≡ (node_in row).x) → Cut marks row at (Ternary Vertical)
      unfolding cut_from
      cut_down h = record { cut = refl; found = λ bytes m g. rw (of_half.left m g, ne_eqb _ _ no_left, of_half.top m g, ne_eqb _ _ no_top, of_quarter.left m g, ne_eqb _ _ h) }

-- ---- the decision, by the QT depths

cut_splits : (d : Decision) → is_cut d ≡ true → is_split d ≡ true
cut_splits Leaf e = e
cut_splits Quad e = refl
cut_splits (Binary d) e = refl
cut_splits (Ternary d) e = refl

module _ {marks : List ℕ} {row next at : ℕ} where
  pub divided_quad : (node_in row).qt < (node_in next).qt → Divided marks row next at Quad
  divided_quad h = record { split = refl; deeper = λ e. refl; flat = λ e. clash (lt-ltb _ _ h) e; found = λ bytes m g. rw (lt-ltb _ _ h) }

  pub divided_cut : {d : Decision} → (node_in next).qt ≤ (node_in row).qt → Cut marks row at d → Divided marks row next at d
  divided_cut {d} h c = record { split = cut_splits d c.cut; deeper = λ e. clash e (le-ltb _ _ h); flat = λ e. c.cut; found = λ bytes m g. rw (le-ltb _ _ h) (c.found bytes m g) }
