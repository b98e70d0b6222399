use Rattle.std.proofs.Common.{List, ◌∙◌, subst}
use Rattle.varisat_theory.specs.promises.Literals.{Clause}
use Rattle.varisat_theory.specs.promises.Membership.{◌∈◌, SameSet}
use Rattle.varisat_plain.specs.promises.Checking.{IsAbsent}
use Rattle.varisat_rat.proofs.RatPlaces.{taken_told}
use Rattle.varisat_rat.proofs.present.PresentClauses.take_out_spare.Goals as goal

pub returns-then-has-clause-told : goal.returns-then-has-clause-told
returns-then-has-clause-told g c = λ n. (
  subst (λ (P : List Clause). (d : Clause) × (d ∈ P) × SameSet d c.args.clause.now) c.is_forced.ensures.frame (c.has.ensures.yes c.if-has.true),
  c.in_ok-is_forced.ensures.yes c.if-is_forced.true,
  c.is_forced.ensures.frame,
)

pub returns-then-is_forced-clause-told : goal.returns-then-is_forced-clause-told
returns-then-is_forced-clause-told g c = λ n. (
  subst (λ (P : List Clause). IsAbsent P c.args.clause.now) c.is_forced.ensures.frame (c.has.ensures.no c.if-has.false),
  c.is_forced.ensures.frame,
)

pub returns-then-take_out-clause-told : goal.returns-then-take_out-clause-told
returns-then-take_out-clause-told g c = λ n.
    taken_told c.is_forced.new.self c.args.self.now c.take_out.new.self c.args.clause.now c.is_forced.ensures.frame
    (c.take_out.ensures.taken c.if-take_out.true) (c.in_ok-is_forced.ensures.no c.if-is_forced.false n)

pub returns-clause-told : goal.returns-clause-told
returns-clause-told g c = λ n. (
  subst (λ (P : List Clause). IsAbsent P c.args.clause.now) c.is_forced.ensures.frame (c.take_out.ensures.absent c.if-take_out.false),
  c.take_out.ensures.stays c.if-take_out.false ∙ c.is_forced.ensures.frame,
)
