use Rattle.std.proofs.Common.{◌≡◌, take}
use Rattle.varisat_search.specs.Forgotten.{forgotten_activities}
use Rattle.varisat_search.proofs.forgetting.forget_activities.Given as goal

abbrev pub invariant-loop-index : goal.invariant-loop-index
invariant-loop-index g l = l.vsids ≡ forgotten_activities (take l.index l.gone) l.fn.vsids
