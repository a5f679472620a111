-- A test that computes to true over all rights holds of every rights.
use mathlib.Core.Path.{◌≡◌, sym, ap, ◌∙◌}
use mathlib.Core.Bool.{Bool, true}
use Rattle.sides.proofs.Bools.{for_bool, at_bool, for_five, at_five}
use Rattle.tree.specs.declared.Direction.TheVariants.{Horizontal, Vertical}
use Rattle.tree.specs.Splits.{pick, Rights}
use Rattle.laws.proofs.Directions.{two_ways}

abbrev rights : Bool → Bool → Bool → Bool → Bool → Bool → Rights
rights w q bh bv th tv = record { within = w; quad = q; binary = λ d. pick d bh bv; ternary = λ d. pick d th tv }

all_rights : (r : Rights) → rights r.within r.quad (r.binary Horizontal) (r.binary Vertical) (r.ternary Horizontal) (r.ternary Vertical) ≡ r
all_rights r = λ i. record { within = r.within; quad = r.quad; binary = λ d. two_ways r.binary d i; ternary = λ d. two_ways r.ternary d i }

abbrev pub for_rights : (Rights → Bool) → Bool
for_rights f = for_bool (λ w. for_five (λ q bh bv th tv. f (rights w q bh bv th tv)))

pub at_rights : (f : Rights → Bool) → for_rights f ≡ true → (r : Rights) → f r ≡ true
at_rights f h r =
    ap f (sym (all_rights r))
    ∙ at_five (λ q bh bv th tv. f (rights r.within q bh bv th tv)) (at_bool (λ w. for_five (λ q bh bv th tv. f (rights w q bh bv th tv))) h r.within)
    r.quad (r.binary Horizontal) (r.binary Vertical) (r.ternary Horizontal) (r.ternary Vertical)
