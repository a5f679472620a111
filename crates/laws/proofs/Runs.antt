-- Laws of runs over nodes, for the reading and the way back alike.
use mathlib.Core.Path.{◌≡◌, refl, ap, ◌∙◌}
use mathlib.Core.Bool.{Bool, true, false}
use mathlib.Core.List.{List, [], ◌∷◌, ◌++◌, append-nil}
use Rattle.tree.specs.declared.Node.{Node}
use Rattle.tree.specs.Kind.{Kind}
use Rattle.tree.specs.Children.{corner_inside}
use Rattle.tree.specs.Run.{End, goes, stops, Run, before, go_on, and_then, over_all}
use Rattle.laws.proofs.Tests.{never}
use Rattle.laws.specs.Every.{Every, every_none, every_more}

module _ {A S : Type 0} where
  -- an accepted run
  abbrev pub gives : List A → S → Run A S
  gives given s = record { given = given; end = goes s }

  -- two runs, one after the other, of which the second is accepted: what the first one ended with, and what both gave
  pub record Joined (r : Run A S) (next : S → Run A S) (to : S) : Type 0 where
    pub mid : S
    pub first : r.end ≡ goes mid
    pub second : (next mid).end ≡ goes to
    pub given : (and_then r next).given ≡ r.given ++ (next mid).given

  pub joined : (r : Run A S) (next : S → Run A S) {to : S} → (and_then r next).end ≡ goes to → Joined r next to
  unfolding go_on before
  joined r next {to} e = go r.end refl e
    where
      go : (end : End S) → r.end ≡ end → (go_on r.given end next).end ≡ goes to → Joined r next to
      go (goes mid) f e = record { mid = mid; first = f; second = e; given = rw f }
      go (stops k p) f e = never (cc)

  module _ (k : Kind) (go : Node → S → Run A S) where
    -- at a node that is there, at one that is skipped, and over one node alone
    pub over_here : (n : Node) (ns : List Node) (s : S) → corner_inside k.limits n ≡ true → over_all k.limits go (n ∷ ns) s ≡ and_then (go n s) (λ t. over_all k.limits go ns t)
    unfolding over_all
    over_here n ns s e = rw (e, over_all)

    pub over_gone : (n : Node) (ns : List Node) (s : S) → corner_inside k.limits n ≡ false → over_all k.limits go (n ∷ ns) s ≡ over_all k.limits go ns s
    unfolding over_all
    over_gone n ns s e = rw (e, over_all)

    pub over_one : (n : Node) (s : S) → corner_inside k.limits n ≡ true → over_all k.limits go (n ∷ []) s ≡ go n s
    unfolding over_all go_on before
    over_one n s e = over_here n [] s e ∙ alone (go n s).given (go n s).end
      where
        alone : (given : List A) (end : End S) → go_on given end (λ t. over_all k.limits go [] t) ≡ record { given = given; end = end }
        alone given (goes t) = ap (λ g. gives g t) (append-nil given)
        alone given (stops a b) = refl

    -- how the run ends: what holds of an accepted end, and of the end of each node's run
    pub over_end : (P : End S → Type 0) → ((s : S) → P (goes s)) → {ns : List Node} → Every (λ n. corner_inside k.limits n ≡ true → (s : S) → P (go n s).end) ns → (s : S) → P (over_all k.limits go ns s).end
    unfolding over_all go_on before
    over_end P done every_none s = done s
    over_end P done (every_more {a = n} {rest = ns} h hs) s = begin (corner_inside k.limits n) refl (over_end P done hs)
      where
        next : ((t : S) → P (over_all k.limits go ns t).end) → (given : List A) (end : End S) → P end → P (go_on given end (λ t. over_all k.limits go ns t)).end
        next rest given (goes t) p = rest t
        next rest given (stops a b) p = p

        begin : (b : Bool) → corner_inside k.limits n ≡ b → ((t : S) → P (over_all k.limits go ns t).end) → P (over_all k.limits go (n ∷ ns) s).end
        begin true here rest = rw (over_here n ns s here) (next rest (go n s).given (go n s).end (h here s))
        begin false out rest = rw (over_gone n ns s out) (rest s)
