use Rattle.std.proofs.Common.{◌≡◌, sym, ◌∙◌, subst, ⊎_elim}
use Rattle.varisat_theory.specs.promises.Membership.{◌∈◌}
use Rattle.varisat_theory.proofs.clauses.Places.{∈-take_more, ∈-take_all}
use Rattle.varisat_plain.proofs.Scans.{answers_true, answers_false}
use Rattle.std.proofs.lemmas.List.{get_or_read}
use Rattle.varisat_present.proofs.Elements.{element_in}
use Rattle.varisat_present.proofs.clause.holds.Goals as goal

pub returns-then-code : goal.returns-then-code
returns-then-code c =
    let e : c.l-item.result ≡ c.args.literal = sym c.code.ensures.code ∙ c.if-code.true ∙ c.code-in-loop-l.ensures.code in
    answers_true _ (subst (λ x. x ∈ c.args.literals.now) e (element_in c.args.literals.now c.loop-l.l-index c.l-item.result c.loop-l-test.true c.l-item.is))

pub loop-l-preserved : goal.loop-l-preserved
loop-l-preserved c =
    λ m. ⊎_elim c.loop-l.invariant
    (λ q. c.if-code.false (c.code.ensures.code ∙ get_or_read c.args.literals.now c.loop-l.l-index c.l-item.result c.loop-l-test.true c.l-item.is 0 ∙ sym q
    ∙ sym c.code-in-loop-l.ensures.code))
    (∈-take_more c.args.literal c.args.literals.now c.loop-l.l-index 0 m)

pub returns : goal.returns
returns c = answers_false _ (λ m. c.loop-l.invariant (∈-take_all c.args.literal c.args.literals.now c.loop-l.l-index c.loop-l-test.false m))
