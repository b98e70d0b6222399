use Rattle.varisat_maxsat.specs.inside.Reductions.{ReducesTo, ReducesToBelow, HandsOn, IfSomeSolution}
use Rattle.varisat_maxsat.proofs.solving.improve.Given as goal

abbrev pub invariant-turns : goal.invariant-turns
invariant-turns g l = record {
  ready : ReducesTo l.problem l.fn.reduction → ReducesToBelow l.problem l.reduction;
  best : ReducesTo l.problem l.fn.reduction → IfSomeSolution l.problem l.fn.best →
      IfSomeSolution l.problem l.best;
  taken : ReducesTo l.problem l.fn.reduction →
      HandsOn g.S.SolutionSink.takes l.problem l.fn.sink l.fn.best l.sink l.best ⊥;
}
