-- The contexts of a picture's units, one after the other: by the standard, and with one line store.
use Rattle.std.specs.Prelude.{ℕ, ◌+◌, ◌/◌, ◌≡◌, true, List, [], ◌∷◌, ◌++◌, replicate}
use Rattle.settings.specs.declared.Settings.{Settings}
use Rattle.settings.specs.Units.{unit_refusal, square_at}
use Rattle.tree.specs.Rows.{Row}
use Rattle.tree.specs.Tree.{flags_of, rows_of}
use Rattle.unit.specs.Luma.{units_of}
use Rattle.unit.specs.Exactly.{UnitTree}
use Rattle.numbers.specs.Walk.{put_all, contexts_of}
use Rattle.numbers.specs.Standard.{standard, whole}
use Rattle.numbers.specs.Order.{AtNodes, Behind}
use Rattle.numbers.specs.Map.{empty_map}
use Rattle.numbers.specs.Store.{stored, store_fits}
use Rattle.numbers.specs.StoreAfter.{store_after}

-- coding trees of units that are there, at addresses that follow each other, from one on
pub data Coded (s : Settings) : ℕ → Type 0 where
  no_more : {a : ℕ} → Coded s a
  coded : {a : ℕ} → unit_refusal s a ≡ 0 → UnitTree (units_of s) a → Coded s (a + 1) → Coded s a

module _ {s : Settings} where
  -- their flags, unit for unit
  unfoldable pub flags_given : {a : ℕ} → Coded s a → List (List ℕ)
  flags_given no_more = []
  flags_given (coded there t rest) = flags_of t ∷ flags_given rest

  -- the standard's, from the rows coded before, the last one first
  unfoldable pub standard_contexts : {a : ℕ} → Coded s a → List Row → List (List ℕ)
  standard_contexts no_more done = []
  standard_contexts (coded there t rest) done = contexts_of standard t done ∷ standard_contexts rest (put_all standard (rows_of t) done)

  -- the store's, from the store as it is
  unfoldable pub store_contexts : {a : ℕ} → Coded s a → List ℕ → List (List ℕ)
  store_contexts no_more store = []
  store_contexts (coded {a = a} there t rest) store =
      let f = stored s.width (square_at s a) store in
      contexts_of f t empty_map ∷ store_contexts rest (store_after s.width s.height (square_at s a) (put_all f (rows_of t) empty_map) store)

  -- all rows of the units, in the order of coding
  unfoldable pub rows_given : {a : ℕ} → Coded s a → List Row
  rows_given no_more = []
  rows_given (coded there t rest) = rows_of t ++ rows_given rest

  -- the contexts by the blocks of the whole picture
  unfoldable pub whole_contexts : {a : ℕ} → Coded s a → List Row → List (List ℕ)
  whole_contexts no_more all = []
  whole_contexts (coded there t rest) all = contexts_of (whole all) t tt ∷ whole_contexts rest all

  -- at every node of the units, the samples above and to the left lie in rows coded before, or outside the picture
  unfoldable pub AllBehind : {a : ℕ} → Coded s a → List Row → Type 0
  AllBehind no_more done = Unit {0}
  AllBehind (coded there t rest) done = AtNodes standard (Behind 0 0) t done × AllBehind rest (put_all standard (rows_of t) done)

  -- every unit meets a store that 26 does not refuse
  unfoldable pub AllFit : {a : ℕ} → Coded s a → List ℕ → Type 0
  AllFit no_more store = store_fits 0 store ≡ true
  AllFit (coded {a = a} there t rest) store =
      (store_fits 0 store ≡ true)
      × AllFit rest (store_after s.width s.height (square_at s a) (put_all (stored s.width (square_at s a) store) (rows_of t) empty_map) store)

-- "one store, zeroed first", of width ÷ 2 + 64 bytes
unfoldable pub zero_store : Settings → List ℕ
zero_store s = replicate (s.width / 2 + 64) 0

-- "the contexts equal the standard's": by the rows coded so far, and by the blocks of the whole picture; "neighbours outside the picture are unavailable", and
-- those inside are available
pub record Contexts (s : Settings) (units : Coded s 0) : Type 0 where
  pub coded_so_far : store_contexts units (zero_store s) ≡ standard_contexts units []
  pub in_picture : store_contexts units (zero_store s) ≡ whole_contexts units (rows_given units)
  pub available : AllBehind units []
  pub fit : AllFit units (zero_store s)
