-- One node after the other: a walk over several nodes is the walk of the first and, where it was not refused, one over the others from there.
use Prim.Native.Nat.{ℕ, ◌+◌, ◌≤◌, ◌<◌}
use mathlib.Core.Path.{◌≡◌, refl, sym, ap, subst, ◌∙◌}
use mathlib.Core.Bool.{Bool, true, false}
use mathlib.Core.List.{List, [], ◌∷◌, ◌++◌, append_assoc}
use native.Mathlib.Omega.{arith}
use lib.ListN.{length, take, length-append}
use Rattle.tree.specs.declared.Node.{Node}
use Rattle.tree.specs.Kind.{Kind}
use Rattle.tree.specs.Children.{corner_inside}
use Rattle.tree.specs.Run.{End, goes, stops, before, go_on, and_then, over_all}
use Rattle.laws.proofs.Runs.{over_here, over_gone, over_one}
use Rattle.nodes.specs.State.{place_of, given_of}
use Rattle.walks.specs.Walks.{Way, RoomAt, walk_over, Says, Done}
use Rattle.walks.proofs.Lawful.{Step, Lawful}

module _ {A S : Type 0} (way : Way A S) where
  -- a number below 2 ^ 63 says that the run goes on
  pub goes_on : (r count : ℕ) (e : End S) → Says way r count e → r < 9223372036854775808 → (s : S) × (e ≡ goes s) × (given_of r ≡ count) × way.at (place_of r) s
  unfolding Says
  goes_on r count (goes s) h lt = (s, refl, h.0, h.1)
  goes_on r count (stops k p) h lt = absurd (omega arith)

  -- ---- two walks, one after the other

  module _ (k : Kind) (n : Node) (ns : List Node) (s : S) where
    abbrev one : List A
    one = (walk_over way k (n ∷ []) s).given

    first_then : walk_over way k (n ∷ ns) s ≡ and_then (walk_over way k (n ∷ []) s) (λ t. walk_over way k ns t)
    unfolding over_all go_on before
    first_then = go (corner_inside k.limits n) refl
      where
        go : (b : Bool) → corner_inside k.limits n ≡ b → walk_over way k (n ∷ ns) s ≡ and_then (walk_over way k (n ∷ []) s) (λ t. walk_over way k ns t)
        go true e = rw (over_one k (λ n t. way.go k n t) n s e) (over_here k (λ n t. way.go k n t) n ns s e)
        go false e = rw (over_gone k (λ n t. way.go k n t) n [] s e) (over_gone k (λ n t. way.go k n t) n ns s e)

    module _ (lawful : Lawful way) (c : ℕ) (step : Step way ns (given_of c) (walk_over way k (n ∷ []) s)) (b m : List ℕ) (r : ℕ) (first : Done way (walk_over way k (n ∷ []) s) c b r m) where
      -- the first node was walked: where it ended
      module _ (t : S) (e : (walk_over way k (n ∷ []) s).end ≡ goes t) (count : given_of r ≡ given_of c + length one) (at : way.at (place_of r) t) where
        pub room_rest : RoomAt way (place_of r) (given_of r) ns
        room_rest = rw count (step.room (place_of r) t e at)

        both_run : walk_over way k (n ∷ ns) s ≡ before one (walk_over way k ns t)
        unfolding go_on
        both_run = first_then ∙ ap (λ end. go_on one end (λ t. walk_over way k ns t)) e

        longer : given_of r + length (walk_over way k ns t).given ≡ given_of c + length (one ++ (walk_over way k ns t).given)
        longer = let e = length-append one (walk_over way k ns t).given in omega arith

        pub done_rest : (z : List ℕ) (r' : ℕ) → Done way (walk_over way k ns t) r m r' z → Done way (walk_over way k (n ∷ ns) s) c b r' z
        unfolding before
        done_rest z r' rest =
            let more = (walk_over way k ns t).given in
            rw both_run (record {
              said = subst (λ (i : ℕ). Says way r' i (walk_over way k ns t).end) longer rest.said;
              long = rest.long ∙ first.long;
              given =
                  ap (λ (i : ℕ). take i z) (sym longer) ∙ rest.given
                  ∙ ap (λ (i : ℕ). take i m ++ way.stored more) count
                  ∙ ap (λ x. x ++ way.stored more) first.given
                  ∙ append_assoc (take (given_of c) b) (way.stored one) (way.stored more)
                  ∙ ap (λ x. take (given_of c) b ++ x) (sym (lawful.join one more));
            })

      -- the first node was refused: so are all
      pub done_stop : 9223372036854775808 ≤ r → Done way (walk_over way k (n ∷ ns) s) c b r m
      unfolding Says go_on
      done_stop h = go (walk_over way k (n ∷ []) s).end refl
        where
          go : (end : End S) → (walk_over way k (n ∷ []) s).end ≡ end → Done way (walk_over way k (n ∷ ns) s) c b r m
          go (goes t) e = let a = (subst (λ x. Says way r (given_of c + length one) x) e first.said).0 in let q = step.small in absurd (omega arith)
          go (stops j p) e =
              rw (first_then, e)
              (record { said = subst (λ x. Says way r (given_of c + length one) x) e first.said; long = first.long; given = first.given })
