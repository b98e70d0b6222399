use Rattle.std.proofs.Common.{subst}
use Rattle.varisat_theory.specs.promises.Membership.{◌∈◌}
use Rattle.varisat_plain.proofs.Scans.{granted}
use Rattle.varisat_present.proofs.KnownGrowth.{complete_left, complete_open}
use Rattle.varisat_present.proofs.clause.is_quiet.Goals as goal

pub returns-in-Leaves : goal.returns-in-Leaves
returns-in-Leaves g c =
    λ e. complete_left c.args.known.now c.args.clause.now c.in-Leaves.code c.in-Leaves.ensures
    (subst (λ x. x ∈ c.args.known.now) c.from_code.ensures (granted _ c.holds.result e c.holds.ensures))

pub returns-in-Open : goal.returns-in-Open
returns-in-Open g c = λ e. complete_open c.args.known.now c.args.clause.now c.in-Open.ensures
