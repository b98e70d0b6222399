use Rattle.varisat_names.proofs.KeptCodes.{code-kept}
use Rattle.varisat_names.proofs.variables.data.code_of.Goals as goal

pub returns : goal.returns
returns c = code-kept c.mode_code.result c.unit_code.result c.args.kept c.mode_code.ensures.below c.unit_code.ensures.below c.mode_code.ensures.mode
    c.unit_code.ensures.unit
