-- What the walks over several nodes ask of the walk of one node, and what they give, in the numbers that the code has.
use Prim.Native.Nat.{ℕ, ◌+◌, ◌≤◌, ◌<◌}
use mathlib.Core.Path.{◌≡◌, refl, subst}
use mathlib.Core.List.{List, [], ◌∷◌, append-nil}
use native.Mathlib.Omega.{arith}
use lib.ListN.{length}
use Rattle.tree.specs.declared.Node.{Node}
use Rattle.tree.specs.Kind.{Kind}
use Rattle.tree.specs.Run.{goes, over_all}
use Rattle.laws.specs.Areas.{areas_of, flag_room}
use Rattle.nodes.specs.State.{place_of, given_of}
use Rattle.walks.specs.Stands.{Word, Placed, AllStand, no_more, one_more}
use Rattle.walks.specs.Walks.{Way, Room, walk_over, Says, Done, Ready, Asked, Walked}
use Rattle.walks.proofs.Lawful.{Step, Lawful}
use Rattle.walks.proofs.Chains.{goes_on, room_rest, done_rest, done_stop}

-- numbers of one node stand for one node
pub alone : {stands : Node → Word → Type 0} {w : Word} {ns : List Node} (P : List Node → Type 0) → AllStand stands ns (w ∷ []) → ((n : Node) → stands n w → P (n ∷ [])) → P ns
alone P (one_more {n = n} s no_more) f = f n s

-- room for several nodes is room for the first
first_room : (rows flags most : ℕ) (n : Node) (ns : List Node) → Room rows flags most (n ∷ ns) → Room rows flags most (n ∷ [])
unfolding areas_of flag_room
first_room rows flags most n ns room = let a = room.for_rows in let b = room.for_flags in record { for_rows = omega arith; for_flags = omega arith }

module _ {A S : Type 0} (way : Way A S) (stands : Kind → Node → Word → Type 0) where
  -- no nodes: the walk is where it was, and nothing is given
  pub none_walked : (u : List ℕ) (c : ℕ) (b : List ℕ) → way.stored [] ≡ [] → Walked way stands u c [] b c b
  unfolding over_all Says
  none_walked u c b f = record { done = λ k ns s ready. go k ns s ready.placed ready.stand }
    where
      go : (k : Kind) (ns : List Node) (s : S) → way.at (place_of c) s → AllStand (stands k) ns [] → Done way (walk_over way k ns s) c b c b
      go k (_ ∷ _) s e stand = elim stand [ ]
      go k [] s e no_more = record { said = (omega arith, e); long = refl; given = let i : given_of c + 0 ≡ given_of c = omega arith in rw (f, i, append-nil) }

  module _ (lawful : Lawful way) (placed : (k : Kind) (n : Node) (w : Word) → stands k n w → Placed k.limits n) where
    -- the first node's own part of what a walk over several starts from
    module _ {k : Kind} {n : Node} {ns : List Node} {s : S} {u : List ℕ} {c : ℕ} {w : Word} {ws : List Word} (ready : Ready way stands k (n ∷ ns) s u c (w ∷ ws)) (st : stands k n w) (ss : AllStand (stands k) ns ws) where
      one_ready : Ready way stands k (n ∷ []) s u c (w ∷ [])
      one_ready = record { proper = ready.proper; table = ready.table; stand = one_more st no_more; placed = ready.placed; room = first_room _ _ _ n ns ready.room }

      one_step : Step way ns (given_of c) (walk_over way k (n ∷ []) s)
      one_step = lawful.step k n ready.proper (placed k n w st) ns (place_of c) (given_of c) s ready.placed ready.room

      module _ (b : List ℕ) (r : ℕ) (m : List ℕ) (first : Walked way stands u c (w ∷ []) b r m) where
        one_done : Done way (walk_over way k (n ∷ []) s) c b r m
        one_done = first.done k (n ∷ []) s one_ready

        stopped_one : 9223372036854775808 ≤ r → Done way (walk_over way k (n ∷ ns) s) c b r m
        stopped_one h = done_stop way k n ns s lawful c one_step b m r one_done h

        module _ (h : r < 9223372036854775808) where
          end : (t : S) × ((walk_over way k (n ∷ []) s).end ≡ goes t) × (given_of r ≡ given_of c + length (walk_over way k (n ∷ []) s).given) × way.at (place_of r) t
          end = goes_on way r _ _ one_done.said h

          rest_ready : Ready way stands k ns end.0 u r ws
          rest_ready = record { proper = ready.proper; table = ready.table; stand = ss; placed = end.3; room = room_rest way k n ns s lawful c one_step b m r one_done end.0 end.1 end.2 end.3 }

          rest_one : (z : List ℕ) (r' : ℕ) → Walked way stands u r ws m r' z → Done way (walk_over way k (n ∷ ns) s) c b r' z
          rest_one z r' rest = done_rest way k n ns s lawful c one_step b m r one_done end.0 end.1 end.2 end.3 z r' (rest.done k ns end.0 rest_ready)

    module _ {u : List ℕ} {c : ℕ} {w : Word} {ws : List Word} where
      pub asked_first : Asked way stands u c (w ∷ ws) → Asked way stands u c (w ∷ [])
      asked_first a = go a.nodes a.ready a.ready.stand
        where
          go : (ns : List Node) → Ready way stands a.kind ns a.state u c (w ∷ ws) → AllStand (stands a.kind) ns (w ∷ ws) → Asked way stands u c (w ∷ [])
          go [] ready stand = elim stand [ ]
          go (n ∷ ns) ready (one_more s ss) = record { kind = a.kind; nodes = n ∷ []; state = a.state; ready = one_ready ready s ss }

      module _ {b : List ℕ} {r : ℕ} {m : List ℕ} (first : Walked way stands u c (w ∷ []) b r m) where
        -- the scratch table is as long as it was
        pub walked_long : Asked way stands u c (w ∷ ws) → length m ≡ length b
        walked_long a = go a.nodes a.ready a.ready.stand
          where
            go : (ns : List Node) → Ready way stands a.kind ns a.state u c (w ∷ ws) → AllStand (stands a.kind) ns (w ∷ ws) → length m ≡ length b
            go [] ready stand = elim stand [ ]
            go (n ∷ ns) ready (one_more s ss) = (one_done ready s ss b r m first).long

        pub walked_stop : 9223372036854775808 ≤ r → Walked way stands u c (w ∷ ws) b r m
        walked_stop h = record { done = λ k ns s ready. go k ns s ready ready.stand }
          where
            go : (k : Kind) (ns : List Node) (s : S) → Ready way stands k ns s u c (w ∷ ws) → AllStand (stands k) ns (w ∷ ws) → Done way (walk_over way k ns s) c b r m
            go k [] s ready stand = elim stand [ ]
            go k (n ∷ ns) s ready (one_more st ss) = stopped_one ready st ss b r m first h

        -- the walk goes on from the number that the code has taken out of the answer
        module _ {x : ℕ} (on : (x ≡ r) × (r < 9223372036854775808)) where
          pub asked_rest : Asked way stands u c (w ∷ ws) → Asked way stands u x ws
          asked_rest a = rw on.0 (go a.nodes a.ready a.ready.stand)
            where
              go : (ns : List Node) → Ready way stands a.kind ns a.state u c (w ∷ ws) → AllStand (stands a.kind) ns (w ∷ ws) → Asked way stands u r ws
              go [] ready stand = elim stand [ ]
              go (n ∷ ns) ready (one_more s ss) = record { kind = a.kind; nodes = ns; state = (end ready s ss b r m first on.1).0; ready = rest_ready ready s ss b r m first on.1 }

          pub walked_rest : {z : List ℕ} {r' : ℕ} → Walked way stands u x ws m r' z → Walked way stands u c (w ∷ ws) b r' z
          walked_rest {z} {r'} rest = record { done = λ k ns s ready. go k ns s ready ready.stand }
            where
              go : (k : Kind) (ns : List Node) (s : S) → Ready way stands k ns s u c (w ∷ ws) → AllStand (stands k) ns (w ∷ ws) → Done way (walk_over way k ns s) c b r' z
              go k [] s ready stand = elim stand [ ]
              go k (n ∷ ns) s ready (one_more st ss) = rest_one ready st ss b r m first on.1 z r' (subst (λ (y : ℕ). Walked way stands u y ws m r' z) on.0 rest)
