use Rattle.std.proofs.Common.{◌≡◌, refl, false, ap, sym, ◌∙◌}
use Rattle.tree.specs.declared.Decision.{Decision}
use Rattle.tree.specs.declared.Decision.TheVariants.{Leaf, Quad, Binary, Ternary}
use Rattle.flags.specs.Puts.{is_quad}
use Rattle.flags.proofs.Puts.{out_flags}
use Rattle.flags.proofs.put.put_out.Goals as goal
use Rattle.flags.proofs.put.put_out.Goals.{in-Quad, in_default}

no_quad : (d : Decision) → ¬ (d ≡ Quad) → is_quad d ≡ false
no_quad Leaf h = refl
no_quad Quad h = absurd (h refl)
no_quad (Binary v) h = refl
no_quad (Ternary v) h = refl

pub returns : goal.returns
returns c =
    let quad : is_quad c.args.d ≡ c.match-matches.matches = elim c.match-matches.branch [
      | in-Quad w ↦ ap is_quad w.in-Quad.is ∙ sym w.matches-is
      | in_default w ↦ no_quad c.args.d w.in_default.not-Quad ∙ sym w.matches-is
    ] in
    rw (out_flags c.args.splits c.args.d c.requires.1 c.requires.2 c.requires.3 c.requires.4, quad) c.put.ensures.0
