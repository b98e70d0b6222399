use Rattle.std.proofs.Common.{◌≡◌, true, take_all, ⊎_elim, sym, ◌∙◌, subst}
use Rattle.varisat_theory.specs.promises.Membership.{◌∈◌}
use Rattle.varisat_theory.proofs.clauses.Places.{∈-take_more}
use Rattle.varisat_prop.specs.Simplified.{is_unassigned}
use Rattle.varisat_prop.proofs.views.ReadElements.{element, item-∈}
use Rattle.varisat_prop.proofs.pairs.SimplifiedPairs.{each-unassigned, one-assigned}
use Rattle.varisat_prop.proofs.short.have_no_value.Goals as goal

pub returns-then-not-has_no_value : goal.returns-then-not-has_no_value
returns-then-not-has_no_value c =
    sym (one-assigned c.args.values.now c.args.lits.now c.lit-item.result
    (item-∈ c.args.lits.now c.loop-lit.lit-index c.lit-item.result c.loop-lit-test.true c.lit-item.is)
    (sym c.has_no_value.ensures ∙ c.if-not-has_no_value.true))

pub loop-lit-preserved : goal.loop-lit-preserved
loop-lit-preserved c m i =
    ⊎_elim
    (λ j. c.loop-lit.invariant m j)
    (λ e. subst (λ x. is_unassigned c.args.values.now x ≡ true)
    (element c.args.lits.now c.loop-lit.lit-index c.lit-item.result c.loop-lit-test.true c.lit-item.is ∙ sym e)
    (sym c.has_no_value.ensures ∙ c.if-not-has_no_value.false))
    (∈-take_more m c.args.lits.now c.loop-lit.lit-index 0 i)

pub returns : goal.returns
returns c =
    sym (each-unassigned c.args.values.now c.args.lits.now
    (λ m i. c.loop-lit.invariant m (subst (λ xs. m ∈ xs) (sym (take_all c.loop-lit.lit-index c.args.lits.now c.loop-lit-test.false)) i)))
