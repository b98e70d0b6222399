use Rattle.std.proofs.Common.{ap}
use Rattle.varisat_names.proofs.KeptCodes.{kept-write}
use Rattle.varisat_names.proofs.variables.kept_list.KeptList.set.Goals as goal

pub returns : goal.returns
returns g c = kept-write c.self.inside.codes.items c.args.self.now.items c.args.global c.index.result c.code_of.result c.args.kept
    (ap (λ k. k.items) c.self.view_is) c.index.ensures.index c.code_of.ensures
