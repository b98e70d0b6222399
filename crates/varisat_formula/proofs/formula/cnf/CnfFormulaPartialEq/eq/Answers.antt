use Rattle.std.proofs.Common.{ap, ◌∙◌, not, ◌==◌}
use Rattle.std.specs.Cmp.Lexicographic.{pointwise}
use Rattle.varisat_formula.proofs.FormulaBuffers.{lengths_differ, literals_compared}
use Rattle.varisat_formula.proofs.formula.cnf.CnfFormulaPartialEq.eq.Goals as goal

pub returns-then-ne : goal.returns-then-ne
returns-then-ne g c =
    rw (← c.self.view_is, ← c.other.view_is)
    (lengths_differ _ _ c.self.inside.lengths.items _ c.other.inside.lengths.items _ c.ne.result c.self.invariant.used c.other.invariant.used
    (c.ne.ensures ∙ ap (λ ns. not (pointwise ◌==◌ ns c.as_slice-2.result.now)) c.as_slice.ensures.value
    ∙ ap (λ ns. not (pointwise ◌==◌ c.self.inside.lengths.items ns)) c.as_slice-2.ensures.value) c.if-ne.true)

pub returns : goal.returns
returns g c =
    rw (← c.self.view_is, ← c.other.view_is)
    (literals_compared _ _ c.self.inside.lengths.items c.self.inside.literals.items c.other.inside.lengths.items c.other.inside.literals.items
    c.ne.result c.eq.result c.self.invariant.used c.other.invariant.used c.if-self-other.false
    (c.ne.ensures ∙ ap (λ ns. not (pointwise ◌==◌ ns c.as_slice-2.result.now)) c.as_slice.ensures.value
    ∙ ap (λ ns. not (pointwise ◌==◌ c.self.inside.lengths.items ns)) c.as_slice-2.ensures.value) c.if-ne.false
    (c.eq.ensures ∙ ap (λ ns. pointwise ◌==◌ ns c.as_slice-4.result.now) c.as_slice-3.ensures.value
    ∙ ap (λ ns. pointwise ◌==◌ c.self.inside.literals.items ns) c.as_slice-4.ensures.value))
