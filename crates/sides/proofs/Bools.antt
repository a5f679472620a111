-- Laws of Boolean tests that every layer cites.
use mathlib.Core.Path.{◌≡◌, refl, sym, ◌∙◌}
use mathlib.Core.Bool.{Bool, true, false, not, ◌&&◌, ◌||◌, true≢false}

-- true is not false, so anything follows
pub clash : {A : Type 0} {a : Bool} → a ≡ true → a ≡ false → A
clash p q = absurd (true≢false (sym p ∙ q))

-- ---- both, either

pub and_left : (a b : Bool) → (a && b) ≡ true → a ≡ true
and_left true b h = refl
and_left false b h = h

pub and_right : (a b : Bool) → (a && b) ≡ true → b ≡ true
and_right true b h = h
and_right false b h = clash h refl

pub and_intro : (a b : Bool) → a ≡ true → b ≡ true → (a && b) ≡ true
and_intro true b p q = q
and_intro false b p q = p

-- a conjunction is false where its second half is
pub and_no : (a b : Bool) → b ≡ false → (a && b) ≡ false
and_no true b h = h
and_no false b h = refl

-- a conjunction that fails though its second half holds
pub and_late : (a b : Bool) → (a && b) ≡ false → b ≡ true → a ≡ false
and_late true b h k = clash k h
and_late false b h k = refl

pub or_left : (a b : Bool) → a ≡ true → (a || b) ≡ true
or_left true b h = refl
or_left false b h = clash h refl

pub or_right : (a b : Bool) → b ≡ true → (a || b) ≡ true
or_right true b h = refl
or_right false b h = h

pub or_none_left : (a b : Bool) → (a || b) ≡ false → a ≡ false
or_none_left true b h = h
or_none_left false b h = refl

pub or_none_right : (a b : Bool) → (a || b) ≡ false → b ≡ false
or_none_right true b h = clash refl h
or_none_right false b h = h

pub not-not : (a : Bool) → not (not a) ≡ a
not-not true = refl
not-not false = refl

-- ---- a law about Bools by one computed test over all of them

abbrev pub same : Bool → Bool → Bool
same true b = b
same false b = not b

pub same_eq : (a b : Bool) → same a b ≡ true → a ≡ b
same_eq true b h = sym h
same_eq false true h = h
same_eq false false h = refl

abbrev pub for_bool : (Bool → Bool) → Bool
for_bool f = f true && f false

pub at_bool : (f : Bool → Bool) → for_bool f ≡ true → (b : Bool) → f b ≡ true
at_bool f h true = and_left (f true) (f false) h
at_bool f h false = and_right (f true) (f false) h

abbrev pub for_five : (Bool → Bool → Bool → Bool → Bool → Bool) → Bool
for_five f = for_bool (λ a. for_bool (λ b. for_bool (λ c. for_bool (λ d. for_bool (λ e. f a b c d e)))))

pub at_five : (f : Bool → Bool → Bool → Bool → Bool → Bool) → for_five f ≡ true → (a b c d e : Bool) → f a b c d e ≡ true
at_five f t a b c d e =
    at_bool (λ e. f a b c d e)
    (at_bool (λ d. for_bool (λ e. f a b c d e))
    (at_bool (λ c. for_bool (λ d. for_bool (λ e. f a b c d e)))
    (at_bool (λ b. for_bool (λ c. for_bool (λ d. for_bool (λ e. f a b c d e))))
    (at_bool (λ a. for_bool (λ b. for_bool (λ c. for_bool (λ d. for_bool (λ e. f a b c d e))))) t a) b) c) d) e
