-- The walk of one node, by what it meets: the node is skipped, it is refused, it gives something and is done, or it gives something and its children are walked.
use Prim.Native.Nat.{ℕ, ◌+◌}
use mathlib.Core.Path.{◌≡◌, refl, sym, ap, subst, ◌∙◌}
use mathlib.Core.Bool.{Bool, true, false}
use mathlib.Core.List.{List, [], ◌∷◌, ◌++◌, append_assoc, append-nil}
use native.Mathlib.Omega.{arith}
use lib.ListN.{length, take, length-append}
use Rattle.tree.specs.declared.Node.{Node}
use Rattle.tree.specs.Kind.{Kind}
use Rattle.tree.specs.Children.{corner_inside}
use Rattle.tree.specs.Run.{Run, refuse, before, over_all}
use Rattle.laws.proofs.Runs.{gives, over_gone, over_one}
use Rattle.nodes.specs.State.{refusal, place_of, given_of}
use Rattle.laws.specs.Proper.{Proper}
use Rattle.nodes.specs.Tables.{table_of}
use Rattle.walks.specs.Stands.{Word}
use Rattle.walks.specs.Walks.{Way, RoomAt, walk_over, Says, Done, Asked, Walked}
use Rattle.walks.proofs.Lists.{alone}
use Rattle.walks.proofs.Lawful.{Lawful}

module _ {A S : Type 0} (way : Way A S) where
  -- what was given so far is in the scratch table, and this after it
  pub record Stored (c : ℕ) (b : List ℕ) (given : List A) (m : List ℕ) : Type 0 where
    pub long : length m ≡ length b
    pub first : take (given_of c + length given) m ≡ take (given_of c) b ++ way.stored given

  -- a law of its walk holds at a node in the picture, and where nothing is walked
  pub here_or_gone : (k : Kind) (n : Node) (s : S) (P : Run A S → Type 0) → (corner_inside k.limits n ≡ true → P (way.go k n s)) → P (walk_over way k [] s) → P (walk_over way k (n ∷ []) s)
  here_or_gone k n s P here gone = go (corner_inside k.limits n) refl
    where
      go : (b : Bool) → corner_inside k.limits n ≡ b → P (walk_over way k (n ∷ []) s)
      go true e = subst P (sym (over_one k (λ n t. way.go k n t) n s e)) (here e)
      go false e = subst P (sym (over_gone k (λ n t. way.go k n t) n [] s e)) gone

  pub nothing_stored : way.stored [] ≡ [] → (c : ℕ) (b : List ℕ) → Stored c b [] b
  nothing_stored none c b = let e : given_of c + 0 ≡ given_of c = omega arith in record { long = refl; first = rw (none, e, append-nil) }

  module _ (none : way.stored [] ≡ []) (k : Kind) (n : Node) (s : S) (c : ℕ) (b : List ℕ) where
    -- it is skipped
    pub one_gone : corner_inside k.limits n ≡ false → way.at (place_of c) s → Done way (walk_over way k (n ∷ []) s) c b c b
    unfolding over_all Says
    one_gone e at = rw (over_gone k (λ n t. way.go k n t) n [] s e) (record { said = (omega arith, at); long = refl; given = (nothing_stored none c b).first })

    module _ (here : corner_inside k.limits n ≡ true) where
      -- it is refused
      pub one_refused : {number place : ℕ} → way.go k n s ≡ refuse number place → Done way (walk_over way k (n ∷ []) s) c b (refusal number place) b
      unfolding Says
      one_refused e = rw (over_one k (λ n t. way.go k n t) n s here, e) (record { said = refl; long = refl; given = (nothing_stored none c b).first })

      -- it gives something, and is done
      pub one_done : {given : List A} {t : S} → way.go k n s ≡ gives given t → {r : ℕ} → given_of r ≡ given_of c + length given → way.at (place_of r) t → {z : List ℕ} → Stored c b given z
          → Done way (walk_over way k (n ∷ []) s) c b r z
      unfolding Says
      one_done e count at put = rw (over_one k (λ n t. way.go k n t) n s here, e) (record { said = (count, at); long = put.long; given = put.first })

      -- it gives something, and its children are walked from there
      module _ (lawful : Lawful way) {own : List A} (kids : List Node) (t : S) (e : way.go k n s ≡ before own (walk_over way k kids t)) {c' : ℕ} (count : given_of c' ≡ given_of c + length own) {m : List ℕ} (put : Stored c b own m) where
        pub one_split : {r : ℕ} {z : List ℕ} → Done way (walk_over way k kids t) c' m r z → Done way (walk_over way k (n ∷ []) s) c b r z
        unfolding before
        one_split {r} {z} done =
            let more = (walk_over way k kids t).given in
            let l : given_of c' + length more ≡ given_of c + length (own ++ more) = let f = length-append own more in omega arith in
            rw (over_one k (λ n t. way.go k n t) n s here, e)
            (record {
              said = subst (λ (i : ℕ). Says way r i (walk_over way k kids t).end) l done.said;
              long = done.long ∙ put.long;
              given =
                  ap (λ (i : ℕ). take i z) (sym l) ∙ done.given
                  ∙ ap (λ (i : ℕ). take i m ++ way.stored more) count
                  ∙ ap (λ x. x ++ way.stored more) put.first
                  ∙ append_assoc (take (given_of c) b) (way.stored own) (way.stored more)
                  ∙ ap (λ x. take (given_of c) b ++ x) (sym (lawful.join own more));
            })

-- ---- what the code knows: some node that its numbers stand for, and the same for all such nodes

module _ {A S : Type 0} (way : Way A S) (stands : Kind → Node → Word → Type 0) (u : List ℕ) (c : ℕ) (w : Word) where
  -- a node, a state and the room that the numbers may stand for
  pub record Case (k : Kind) (n : Node) (s : S) : Type 0 where
    pub proper : Proper k
    pub table : u ≡ table_of k
    pub stands_for : stands k n w
    pub placed : way.at (place_of c) s
    pub room : RoomAt way (place_of c) (given_of c) (n ∷ [])

  pub some_case : {P : Type 0} → Asked way stands u c (w ∷ []) → ((k : Kind) (n : Node) (s : S) → Case k n s → P) → P
  some_case {P} a f =
      alone (λ ns. RoomAt way (place_of c) (given_of c) ns → P) a.ready.stand
      (λ n st room. f a.kind n a.state (record { proper = a.ready.proper; table = a.ready.table; stands_for = st; placed = a.ready.placed; room = room })) a.ready.room

  pub each_case : {b z : List ℕ} {r : ℕ} → ((k : Kind) (n : Node) (s : S) → Case k n s → Done way (walk_over way k (n ∷ []) s) c b r z) → Walked way stands u c (w ∷ []) b r z
  each_case {b} {z} {r} f = record {
    done = λ k ns s ready.
        alone (λ ns. RoomAt way (place_of c) (given_of c) ns → Done way (walk_over way k ns s) c b r z) ready.stand
        (λ n st room. f k n s (record { proper = ready.proper; table = ready.table; stands_for = st; placed = ready.placed; room = room })) ready.room;
  }
