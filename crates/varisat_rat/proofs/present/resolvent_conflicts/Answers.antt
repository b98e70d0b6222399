use Rattle.std.proofs.Common.{◌++◌, ap, ◌∙◌}
use Rattle.varisat_theory.specs.promises.Literals.{opposites}
use Rattle.varisat_theory.specs.promises.Rat.{but_for}
use Rattle.varisat_plain.proofs.Scans.{refused, granted}
use Rattle.varisat_rat.proofs.RatPlaces.{no_clause, not_held, asked}
use Rattle.varisat_rat.proofs.present.resolvent_conflicts.Goals as goal

pub returns-in-None : goal.returns-in-None
returns-in-None g c = no_clause c.args.places.now c.args.place c.args.base.now c.args.literal c.args.known.now c.in-None.ensures

pub returns-then-not-holds : goal.returns-then-not-holds
returns-then-not-holds g c =
    not_held c.args.places.now c.args.place c.args.base.now c.args.literal c.args.known.now c.in-Some.clause.now c.in-Some.ensures
    (refused _ c.holds.result c.if-not-holds.true c.holds.ensures)

pub returns : goal.returns
returns g c =
    asked c.args.places.now c.args.place c.args.base.now c.args.literal c.args.known.now c.ask.new.known c.in-Some.clause.now c.deref.result.now
    c.in_ok-found.found c.in-Some.ensures (granted _ c.holds.result c.if-not-holds.false c.holds.ensures)
    (c.deref.ensures.value ∙ c.in_ok-add_others.ensures ∙ ap (λ x. x ++ opposites (but_for c.args.literal c.in-Some.clause.now)) c.in_ok-both.ensures.items)
    c.in_ok-found.ensures
