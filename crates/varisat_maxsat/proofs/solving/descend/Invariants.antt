use Rattle.varisat_maxsat.specs.inside.Reductions.{ReducesTo, HandsOn, IfSomeSolution}
use Rattle.varisat_maxsat.proofs.solving.descend.Given as goal

abbrev pub invariant-turns : goal.invariant-turns
invariant-turns g l = record {
  ready : ReducesTo l.problem l.initial.reduction → ReducesTo l.problem l.reduction;
  best : ReducesTo l.problem l.initial.reduction → IfSomeSolution l.problem l.initial.best →
      IfSomeSolution l.problem l.best;
  taken : ReducesTo l.problem l.initial.reduction →
      HandsOn g.S.SolutionSink.takes l.problem l.initial.sink l.initial.best l.sink l.best ⊥;
}
