-- The contexts of a picture's units with one line store are the standard's.
use Prim.Native.Nat.{ℕ, ◌+◌, ◌/◌, ◌≤◌}
use mathlib.Core.Path.{◌≡◌, refl, sym, ap₂, ◌∙◌}
use mathlib.Core.Bool.{true}
use mathlib.Core.List.{List, [], ◌∷◌, append-nil}
use lib.ListN.{length, length-replicate}
use native.Mathlib.Omega.{arith}
use Rattle.settings.specs.declared.Settings.{Settings}
use Rattle.settings.specs.Units.{square_in, square_at}
use Rattle.tree.specs.declared.Direction.{Direction}
use Rattle.tree.specs.declared.Direction.TheVariants.{Vertical}
use Rattle.tree.specs.Rows.{Row}
use Rattle.tree.specs.Tree.{rows_of}
use Rattle.laws.specs.Geometry.{copies}
use Rattle.numbers.specs.Walk.{put_all}
use Rattle.numbers.specs.Standard.{seen_at, standard}
use Rattle.numbers.specs.Store.{store_fits}
use Rattle.numbers.specs.Picture.{Coded, no_more, coded, standard_contexts, store_contexts, rows_given, whole_contexts, AllBehind, AllFit, zero_store, Contexts}
use Rattle.numbers.proofs.Counts.{copies_put, seen_order}
use Rattle.numbers.proofs.Same.{put_append}
use Rattle.numbers.proofs.Units.{root, picture_fours, Counted, counted_first, counted_next, unit_behind}
use Rattle.numbers.proofs.Known.{Known, known_first, unit_contexts, known_next}
use Rattle.numbers.proofs.Fits.{unit_fits, zeros_fit}
use Rattle.numbers.proofs.Whole.{Later, later_before, same_whole}

-- ---- all units

module _ {s : Settings} where
  pub all_contexts : {a : ℕ} (units : Coded s a) (store : List ℕ) (done : List Row) → Known s a store done → Counted s a done → store_contexts units store ≡ standard_contexts units done
  unfolding store_contexts standard_contexts square_in
  all_contexts no_more store done known c = refl
  all_contexts (coded {a = a} there t rest) store done known c =
      ap₂ (λ x xs. x ∷ xs) (sym (unit_contexts s a there t store done known c))
      (all_contexts rest _ _ (known_next s a there t store done known c) (counted_next s a there t done c))

  all_available : {a : ℕ} (units : Coded s a) (done : List Row) → Counted s a done → AllBehind units done
  unfolding AllBehind
  all_available no_more done c = tt
  all_available (coded {a = a} there t rest) done c = (unit_behind s a there t done c, all_available rest _ (counted_next s a there t done c))

  all_fit : {a : ℕ} (units : Coded s a) (store : List ℕ) → store_fits 0 store ≡ true → AllFit units store
  unfolding AllFit square_in
  all_fit no_more store h = h
  all_fit (coded {a = a} there t rest) store h =
      let r = root s a there in
      (h, all_fit rest _ (unit_fits r.valid r.good.shape refl t s.width s.height (picture_fours s a there Vertical) (square_at s a) store h))

  -- ---- the whole picture

  abbrev rows_after : {a : ℕ} → Coded s a → List Row → List Row
  rows_after units done = put_all standard (rows_given units) done

  all_once : {a : ℕ} (units : Coded s a) (done : List Row) → Counted s a done → (px py : ℕ) → copies px py (rows_after units done) ≤ 1
  unfolding rows_given put_all
  all_once no_more done c px py = c.once px py
  all_once (coded {a = a} there t rest) done c px py =
      rw (put_append standard (rows_of t) (rows_given rest) done) (all_once rest (put_all standard (rows_of t) done) (counted_next s a there t done c) px py)

  all_whole : (all table : List Row) → ((px py : ℕ) → copies px py all ≤ 1) → ((d : Direction) (px py : ℕ) → seen_at d px py all ≡ seen_at d px py table)
      → {a : ℕ} (units : Coded s a) (done : List Row) → Counted s a done → Later (rows_after units done) all → standard_contexts units done ≡ whole_contexts units table
  unfolding rows_given standard_contexts whole_contexts
  all_whole all table once view no_more done c l = refl
  all_whole all table once view (coded {a = a} there t rest) done c l =
      let m = rw (put_append standard (rows_of t) (rows_given rest) done) at l in
      ap₂ (λ x xs. x ∷ xs) (same_whole all table once view t done (later_before (rows_given rest) m) (unit_behind s a there t done c) tt)
      (all_whole all table once view rest (put_all standard (rows_of t) done) (counted_next s a there t done c) m)

  picture_whole : (units : Coded s 0) → standard_contexts units [] ≡ whole_contexts units (rows_given units)
  unfolding copies
  picture_whole units =
      let once = all_once units [] (counted_first s) in
      all_whole (rows_after units []) (rows_given units) once
      (λ d px py.
      let n = once px py in
      let m = copies_put px py (rows_given units) [] in
      rw append-nil at (seen_order px py d (rows_given units) [] (omega arith)))
      units [] (counted_first s) (record { rows = []; is = refl })

-- ---- a picture

-- whatever stands in the store: at the picture's edge it is not read
pub any_store : (s : Settings) (store : List ℕ) → length store ≡ s.width / 2 + 64 → (units : Coded s 0) → store_contexts units store ≡ standard_contexts units []
any_store s store h units = all_contexts units store [] (known_first s store h) (counted_first s)

pub contexts : (s : Settings) (units : Coded s 0) → Contexts s units
unfolding zero_store
contexts s units =
    let so_far = any_store s (zero_store s) (length-replicate (s.width / 2 + 64) 0) units in
    record {
      coded_so_far = so_far;
      in_picture = so_far ∙ picture_whole units;
      available = all_available units [] (counted_first s);
      fit = all_fit units (zero_store s) (zeros_fit (s.width / 2 + 64) 0);
    }
