-- What each cell of a map holds after lines of cells were filled.
use Prim.Native.Nat.{ℕ, zero, suc, ◌+◌, ◌-◌, ◌*◌, ◌/◌, ◌%◌, ◌≤◌, ◌<◌}
use mathlib.Core.Path.{◌≡◌, refl, ◌∙◌}
use mathlib.Core.List.{List}
use mathlib.Core.Logic.{◌⊎◌, inl, inr}
use native.Mathlib.Omega.{arith}
use native.Mathlib.Decide.{dec_lt, ℕ_discrete}
use lib.ListN.{length, get_or, set, replicate, length-set}
use lib.Seq.{sets, length-sets, get_or-set_same, get_or-set_other}
use Rattle.cells.specs.Map.{put_lines}

-- ---- one line

line_out : (n v at c : ℕ) (map : List ℕ) → (c < at) ⊎ (at + n ≤ c) → get_or (sets map at (replicate n v)) c 0 ≡ get_or map c 0
line_out zero v at c map h = refl
line_out (suc n) v at c map h = line_out n v (suc at) c (set map at v) (past h) ∙ get_or-set_other map at c v 0 (other h)
  where
    past : (c < at) ⊎ (at + suc n ≤ c) → (c < suc at) ⊎ (suc at + n ≤ c)
    past (inl l) = inl (omega arith)
    past (inr r) = inr (omega arith)

    other : (c < at) ⊎ (at + suc n ≤ c) → ¬ (c ≡ at)
    other (inl l) e = omega arith
    other (inr r) e = omega arith

line_in : (n v at c : ℕ) (map : List ℕ) → at + n ≤ length map → at ≤ c → c < at + n → get_or (sets map at (replicate n v)) c 0 ≡ v
line_in zero v at c map room low high = absurd (omega arith)
line_in (suc n) v at c map room low high = go (ℕ_discrete c at) (λ past. line_in n v (suc at) c (set map at v) (simp length-set (omega arith)) past (omega arith))
  where
    go : Dec (c ≡ at) → (at < c → get_or (sets map at (replicate (suc n) v)) c 0 ≡ v) → get_or (sets map at (replicate (suc n) v)) c 0 ≡ v
    go (yes e) later = line_out n v (suc at) c (set map at v) (inl (omega arith)) ∙ rw e (get_or-set_same map at v 0 (omega arith))
    go (no e) later = later (omega arith)

-- ---- several lines, each so many cells long

-- a cell is one of them
pub record Covers (high wide at c : ℕ) : Type 0 where
  pub from : at ≤ c
  pub line : (c - at) / 32 < high
  pub place : (c - at) % 32 < wide

module _ {wide : ℕ} (narrow : wide ≤ 32) (v : ℕ) where
  -- the lines below the first, and the first
  below : {high at c : ℕ} → Covers high wide (at + 32) c → Covers (suc high) wide at c
  below s = let f = s.from in let l = s.line in let p = s.place in record { from = omega arith; line = omega arith; place = omega arith }

  past_first : (high at c : ℕ) → ¬ Covers (suc high) wide at c → (c < at) ⊎ (at + wide ≤ c)
  past_first high at c none = go (dec_lt c at) (dec_lt c (at + wide))
    where
      go : Dec (c < at) → Dec (c < at + wide) → (c < at) ⊎ (at + wide ≤ c)
      go (yes l) _ = inl l
      go (no l) (yes r) = absurd (none (record { from = omega arith; line = omega arith; place = omega arith }))
      go (no l) (no r) = inr (omega arith)

  pub put_out : (high at c : ℕ) (map : List ℕ) → ¬ Covers high wide at c → get_or (put_lines high wide v at map) c 0 ≡ get_or map c 0
  unfolding put_lines
  put_out zero at c map none = refl
  put_out (suc high) at c map none =
      put_out high (at + 32) c (sets map at (replicate wide v)) (λ s. none (below s)) ∙ line_out wide v at c map (past_first high at c none)

  pub put_in : (high at c : ℕ) (map : List ℕ) → at + high * 32 + wide ≤ length map + 32 → Covers high wide at c → get_or (put_lines high wide v at map) c 0 ≡ v
  unfolding put_lines
  put_in zero at c map room s = absurd (let l = s.line in omega arith)
  put_in (suc high) at c map room s =
      let f = s.from in
      let l = s.line in
      let p = s.place in
      go (dec_lt c (at + 32)) (λ later. put_in high (at + 32) c (sets map at (replicate wide v)) (rw (length-sets map at (replicate wide v)) (omega arith)) (record {
        from = later;
        line = omega arith;
        place = omega arith;
      }))
    where
      go : Dec (c < at + 32) → (at + 32 ≤ c → get_or (put_lines (suc high) wide v at map) c 0 ≡ v) → get_or (put_lines (suc high) wide v at map) c 0 ≡ v
      go (yes h) later =
          let f = s.from in
          let p = s.place in
          put_out high (at + 32) c (sets map at (replicate wide v)) (λ t. let g = t.from in omega arith)
          ∙ line_in wide v at c map (omega arith) f (omega arith)
      go (no h) later = later (omega arith)
