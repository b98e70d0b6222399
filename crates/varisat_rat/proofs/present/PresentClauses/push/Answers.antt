use Rattle.std.proofs.Common.{arith, List, [], ◌∷◌, ◌++◌, subst, sym, ap, ◌∙◌}
use Rattle.varisat_theory.specs.promises.Literals.{Clause}
use Rattle.varisat_present.specs.Places.{present}
use Rattle.varisat_rat.specs.inside.Asking.{Keeps}
use Rattle.varisat_present.proofs.PlacedClauses.{present_added}
use Rattle.varisat_rat.proofs.FirstPlaces.{first_pushed}
use Rattle.varisat_rat.proofs.KeptLiterals.{keeps_added}
use Rattle.varisat_present.proofs.QuietPairs.{literals_added}
use Rattle.varisat_rat.proofs.present.PresentClauses.push.Goals as goal

pub invariant_of-self-2 : goal.invariant_of-self-2
invariant_of-self-2 g c = (
  let e = ap present c.in_ok-push.ensures.items ∙ present_added c.self.inside.places.items c.in_ok-copy.copy c.args.clause.now c.in_ok-copy.ensures.items in
      subst (λ (P : List Clause). Keeps c.is_saturated_with-is_saturated.result P c.self.inside.known) (sym e)
      (keeps_added c.self.inside.is_saturated c.is_saturated_with-is_saturated.result
      (present c.self.inside.places.items) c.args.clause.now c.self.inside.known c.self.invariant.0 c.is_saturated_with-is_saturated.ensures),
  first_pushed c.self.inside.places.items c.push.new.self.items c.in_ok-copy.copy c.args.clause.now c.self.inside.firsts.items
      c.note_all.new.firsts.items c.len.result c.in_ok-push.ensures.items c.in_ok-copy.ensures.items
      (omega (arith, c.len.ensures)) c.self.invariant.1
      c.note_all.ensures.lowered c.in_ok-note_all.ensures.noted,
  literals_added c.self.inside.places.items c.push.new.self.items c.in_ok-copy.copy c.self.inside.ones.items c.in_ok-push.ensures.items c.self.invariant.2,
  literals_added c.self.inside.places.items c.push.new.self.items c.in_ok-copy.copy c.self.inside.others.items c.in_ok-push.ensures.items c.self.invariant.3,
)

pub returns-clause-ok : goal.returns-clause-ok
returns-clause-ok g c =
    ap present c.in_ok-push.ensures.items ∙ present_added c.self.inside.places.items c.in_ok-copy.copy c.args.clause.now c.in_ok-copy.ensures.items
    ∙ ap (λ (P : List Clause). P ++ c.args.clause.now ∷ []) c.self.view_is
