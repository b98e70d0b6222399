use Rattle.std.proofs.Common.{ℕ, Bool, ◌∙◌, List, Option, ap, set, length, length-set, Some, None, sym}
use Rattle.varisat_theory.specs.promises.Literals.{variable_of}
use Rattle.varisat_literals.specs.promises.Numbers.{polarity_of}
use Rattle.varisat_prop.specs.Parts.{Values, without_value}
use Rattle.varisat_solver.proofs.modes.Heeding.{given-back}
use Rattle.varisat_solver.proofs.phases.remember.Goals as goal

pub returns-then-lit_is_unk-clause-free : goal.returns-then-lit_is_unk-clause-free
returns-then-lit_is_unk-clause-free g c e =
    let x = c.args.assignment.now in
    let v = variable_of c.args.lit in
    let b = polarity_of c.args.lit in
    let given = c.assign_lit.ensures in (
      sym (ap (λ (y : Values). length y.last) given) ∙ c.release_lit.ensures.count ∙ ap (λ (y : Values). length y.current) given
          ∙ length-set x.current v (Some b),
      c.release_lit.ensures.released ∙ ap (λ (y : Values). without_value v b y) given
          ∙ ap (λ (cs : List (Option Bool)). record x { current = cs; last = set x.last v b }) (given-back x.current v (Some b) None e),
    )
