-- A walk over several nodes, of which the first ones are walked: what is asked for the others, and that their walk ends the whole.
use Prim.Native.Nat.{ℕ, ◌+◌, ◌*◌, ◌≤◌, ◌<◌}
use mathlib.Core.Path.{◌≡◌, refl, sym, ap₂, subst, ◌∙◌}
use mathlib.Core.List.{List, [], ◌∷◌}
use lib.ListN.{length}
use native.Mathlib.Omega.{arith}
use Rattle.tree.specs.declared.Node.{Node}
use Rattle.tree.specs.Kind.{Kind}
use Rattle.nodes.specs.RowNodes.{open_below}
use Rattle.walks.specs.Stands.{Word, word, area_in, Placed}
use Rattle.walks.specs.Walks.{Way, Asked, Walked}
use Rattle.walks.proofs.Lawful.{Lawful}
use Rattle.walks.proofs.Lists.{asked_first, walked_long, walked_stop, asked_rest, walked_rest}
use Rattle.walks.proofs.Measure.{areas_in, some_area, each_area}

-- what is read, among what is asked of a walk
pub with_read : {F A R : Type 0} → R → F × A → F × (A × R)
with_read r p = (p.0, (p.1, r))

-- the open splits of a node, from the row that the code has found for it
pub same_open : (u : List ℕ) (bound q : ℕ) {r i j h m : ℕ} → i ≡ j → h ≡ m → r ≡ open_below u i bound h q → r ≡ open_below u j bound m q
same_open u bound q e f g = g ∙ ap₂ (λ (x y : ℕ). open_below u x bound y q) e f

-- the numbers that the code has found for a node
pub same_word : {r s k m : ℕ} → r ≡ s → k ≡ m → word r k ≡ word s m
same_word e f = rw (e, f)

-- the numbers of a part, of which the code has found the row, and the open splits by the row of a sibling
pub same_kid : (u : List ℕ) (bound h q : ℕ) {r i s j m : ℕ} → r ≡ i → m ≡ open_below u r bound h q → s ≡ j → word s m ≡ word j (open_below u i bound h q)
same_kid u bound h q e f g = same_word g (same_open u bound q e refl f)

module _ {A S : Type 0} (way : Way A S) (stands : Kind → Node → Word → Type 0) where
  -- the numbers that the code has found for several nodes, with the measure of their walk
  module _ {ws vs : List Word} (e : ws ≡ vs) where
    pub same_asked : {u : List ℕ} {c t : ℕ} → areas_in vs * 4 + 1 ≡ t → Asked way stands u c vs → (areas_in ws * 4 < t) × Asked way stands u c ws
    same_asked {u} {c} h a = (rw e (omega arith), subst (λ (x : List Word). Asked way stands u c x) (sym e) a)

    pub same_walked : {u : List ℕ} {c : ℕ} {b : List ℕ} {r : ℕ} {z : List ℕ} → Walked way stands u c ws b r z → Walked way stands u c vs b r z
    same_walked {u} {c} {b} {r} {z} w = subst (λ (x : List Word). Walked way stands u c x b r z) e w

  -- from the walk of nodes `all`, begun at c with the scratch table b, to the walk of those that are left when so many are gone by
  pub record Progress (u : List ℕ) (c : ℕ) (all : List Word) (b : List ℕ) (gone at : ℕ) (left : List Word) (so_far : List ℕ) : Type 0 where
    pub asked : Asked way stands u at left
    pub whole : {r : ℕ} {z : List ℕ} → Walked way stands u at left so_far r z → Walked way stands u c all b r z
    pub long : length so_far ≡ length b
    pub areas : areas_in left + gone ≤ areas_in all

  pub begun : {u : List ℕ} {c : ℕ} {all : List Word} {b : List ℕ} → Asked way stands u c all → Progress u c all b 0 c all b
  begun a = record { asked = a; whole = λ w. w; long = refl; areas = omega arith }

  module _ {u : List ℕ} {c : ℕ} {all : List Word} {b : List ℕ} where
    -- the last one is left, and its walk ends all
    pub last : {gone at : ℕ} {w : Word} {so_far : List ℕ} → Progress u c all b gone at (w ∷ []) so_far → {v : Word} → v ≡ w → {m : List ℕ} {r : ℕ} → Walked way stands u at (v ∷ []) so_far r m → Walked way stands u c all b r m
    last {at = at} {so_far = so_far} p e {m} {r} one = p.whole (subst (λ (x : Word). Walked way stands u at (x ∷ []) so_far r m) e one)

    -- the same, by the number that it answered where it was walked
    pub ended : {gone at : ℕ} {w : Word} {so_far : List ℕ} → Progress u c all b gone at (w ∷ []) so_far → {v : Word} → v ≡ w → {m : List ℕ} {r : ℕ} → Walked way stands u at (v ∷ []) so_far r m → {x : ℕ} → (x ≡ r) × (r < 9223372036854775808) → Walked way stands u c all b x m
    ended p e {m} one on = subst (λ (y : ℕ). Walked way stands u c all b y m) (sym on.0) (last p e one)

    module _ (lawful : Lawful way) (placed : (k : Kind) (n : Node) (w : Word) → stands k n w → Placed k.limits n) {gone at : ℕ} {w : Word} {left : List Word} {so_far : List ℕ} (p : Progress u c all b gone at (w ∷ left) so_far) {v : Word} (e : v ≡ w) where
      -- the next node is asked
      pub next_asked : Asked way stands u at (v ∷ [])
      next_asked = subst (λ (x : Word). Asked way stands u at (x ∷ [])) (sym e) (asked_first way stands lawful placed p.asked)

      -- it has less area than all together, where there are others
      pub next_falls : 1 ≤ gone + length left → {t : ℕ} → areas_in all * 4 ≡ t → area_in v.row * 4 + 3 < t
      unfolding areas_in
      next_falls some h = let q = p.areas in let a = each_area left in rw e (omega arith)

      -- what the code asks of its walk, with the measure of the walk of one node
      pub next_child : 1 ≤ gone + length left → {t : ℕ} → areas_in all * 4 ≡ t → (area_in v.row * 4 + 3 < t) × Asked way stands u at (v ∷ [])
      next_child some h = (next_falls some h, next_asked)

      module _ {m : List ℕ} {r : ℕ} (one : Walked way stands u at (v ∷ []) so_far r m) where
        as_found : Walked way stands u at (w ∷ []) so_far r m
        as_found = subst (λ (x : Word). Walked way stands u at (x ∷ []) so_far r m) e one

        -- it was refused
        pub refused : 9223372036854775808 ≤ r → Walked way stands u c all b r m
        refused h = p.whole (walked_stop way stands lawful placed as_found h)

        -- it was walked
        pub walked : {x : ℕ} → (x ≡ r) × (r < 9223372036854775808) → Progress u c all b (gone + 1) x left m
        unfolding areas_in
        walked on = let q = p.areas in let a = some_area w.row in record {
          asked = asked_rest way stands lawful placed as_found on p.asked;
          whole = λ rest. p.whole (walked_rest way stands lawful placed as_found on rest);
          long = walked_long way stands lawful placed as_found p.asked ∙ p.long;
          areas = omega arith;
        }
