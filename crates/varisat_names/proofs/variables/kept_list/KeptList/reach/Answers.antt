use Rattle.std.proofs.Common.{◌+◌, ap, ◌∙◌, arith}
use Rattle.varisat_names.proofs.KeptCodes.{kept-reached}
use Rattle.varisat_names.proofs.variables.kept_list.KeptList.reach.Goals as goal

pub returns-in_ok-resize-clause-reached : goal.returns-in_ok-resize-clause-reached
returns-in_ok-resize-clause-reached g c =
    let less = c.if-len-count.true in
    let l = c.len.ensures in
    kept-reached c.self.inside.codes.items c.resize.new.self.items c.args.self.now.items c.args.global (c.index-count.result + 1)
    c.self.inside.codes.len c.code_of.result (ap (λ k. k.items) c.self.view_is) (ap (λ n. n + 1) c.index-count.ensures.index)
    c.self.inside.codes.ok.0 (omega (arith, less, l)) (c.code_of.ensures ∙ c.default.ensures) ((c.in_ok-resize.ensures {u = tt}).items)
