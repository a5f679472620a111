-- Numbers that answer for a search: that it is stuck where it is, that it goes on, and the better of two.
use Prim.Native.Nat.{ℕ, ◌/◌, ◌%◌, ◌≤◌, ◌<◌, max}
use mathlib.Core.Path.{◌≡◌, refl}
use mathlib.Core.List.{List, []}
use native.Mathlib.Omega.{arith}
use lib.ListN.{length}
use Rattle.tree.specs.Rows.{Row}
use Rattle.tree.specs.Search.{Fit, whole, stuck, better}
use Rattle.laws.specs.FitRun.{fit_run}
use Rattle.nodes.specs.State.{refusal, place_of, given_of}
use Rattle.walks.specs.Walks.{Says, Done}
use Rattle.walks.proofs.One.{nothing_stored}
use Rattle.marks.specs.Table.{Left}
use Rattle.search.specs.Walking.{search_way}
use Rattle.search.proofs.Way.{left_long}

module _ (bytes : List ℕ) (c : ℕ) where
  -- a number answers for what is found
  abbrev pub Answers : ℕ → Fit → Type 0
  Answers r f = Done (search_way bytes) (fit_run (length bytes / 8) f) c [] r []

  module _ {rows : List Row} (l : Left bytes (place_of c) rows) where
    -- it is stuck where it is
    pub stuck_here : {at r : ℕ} → at ≡ place_of c → r ≡ refusal (16 % 32) (at / 8 % 288230376151711744) → {f : Fit} → f ≡ stuck (length rows) → Answers r f
    unfolding Says
    stuck_here {at} {r} e i {f} is =
        let n = left_long l in
        let w = l.within in
        rw is (record { said = omega arith; long = refl; given = (nothing_stored (search_way bytes) refl c []).first })

  -- it goes on
  pub goes_here : {rest : List Row} {r : ℕ} → given_of r ≡ given_of c → Left bytes (place_of r) rest → {f : Fit} → f ≡ whole rest → Answers r f
  unfolding Says
  goes_here e l is = rw is (record { said = (omega arith, l); long = refl; given = (nothing_stored (search_way bytes) refl c []).first })

  -- ---- the better of two

  -- one that is below all refusals goes on, so nothing is better
  pub first_on : (f g : Fit) {a : ℕ} → Answers a f → a < 9223372036854775808 → Answers a (better f g)
  unfolding Says better
  first_on (whole rest) g d h = d
  first_on (stuck left) g d h = let e = d.said in absurd (omega arith)

  -- a refusal is not better than what goes on, and of two refusals the greater one is
  module _ (few : given_of c < 2147483648) where
    pub second_on : (f g : Fit) {a b : ℕ} → Answers a f → 9223372036854775808 ≤ a → Answers b g → b < 9223372036854775808 → Answers b (better f g)
    unfolding Says better
    second_on (whole other) g d h e i = let x = d.said.0 in absurd (omega arith)
    second_on (stuck left) (whole rest) d h e i = e
    second_on (stuck left) (stuck less) d h e i = let x = e.said in absurd (omega arith)

    pub farther_on : (f g : Fit) {a b : ℕ} → Answers a f → 9223372036854775808 ≤ a → Answers b g → 9223372036854775808 ≤ b → Answers (max a b) (better f g)
    unfolding Says better
    farther_on (whole other) g d h e i = let x = d.said.0 in absurd (omega arith)
    farther_on (stuck left) (whole rest) d h e i = let x = e.said.0 in absurd (omega arith)
    farther_on (stuck left) (stuck less) d h e i =
        let x = d.said in
        let y = e.said in
        record { said = omega arith; long = refl; given = d.given }
