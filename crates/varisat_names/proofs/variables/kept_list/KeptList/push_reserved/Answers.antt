use Rattle.std.proofs.Common.{ap, ◌∙◌, map}
use Rattle.varisat_names.specs.inside.KeptCodes.{kept_as}
use Rattle.varisat_names.proofs.KeptCodes.{kept-push}
use Rattle.varisat_names.proofs.variables.kept_list.KeptList.push_reserved.Goals as goal

pub returns : goal.returns
returns g c =
    ap (map kept_as) c.push_reserved.ensures.items
    ∙ kept-push c.self.inside.codes.items c.args.self.now.items c.code_of.result c.args.kept (ap (λ k. k.items) c.self.view_is) c.code_of.ensures
