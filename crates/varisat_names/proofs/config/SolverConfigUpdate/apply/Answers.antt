use Rattle.std.proofs.Common.{refl}
use Rattle.varisat_names.proofs.config.SolverConfigUpdate.apply.Goals as goal

pub returns : goal.returns
returns c = (
  c.in_ok-check.ensures,
  rw (
    c.unwrap_or.ensures,
    c.unwrap_or-2.ensures,
    c.unwrap_or-3.ensures,
    c.unwrap_or-4.ensures,
    c.unwrap_or-5.ensures,
    c.unwrap_or-6.ensures,
    c.unwrap_or-7.ensures,
    ←
        c.config.view_is,
  ) refl,
)
