use Rattle.std.proofs.lemmas.Grind.{common_steps}
use Rattle.std.proofs.Common.{◌∙◌, ap, length, arith}
use Rattle.varisat_rules.specs.promises.Stacks.{extended}
use Rattle.varisat_solve.proofs.ExtendedModels.{length-all}
use Rattle.varisat_solve.proofs.models.extend_model.Goals as goal

pub literals_of-requires : goal.literals_of-requires
literals_of-requires g c =
    let size = length-all c.args.stack.now c.args.model.now c.args.count in
    let same = c.extend.ensures ∙ ap (extended c.args.stack.now) (c.deref_mut.ensures.value ∙ c.in_ok-values.ensures {u = tt}) in
    let long = ap length same ∙ size in
    let a = c.deref.ensures.len in
    let b = c.deref_mut.ensures.len in
    let h = c.requires in
    grind (common_steps, arith, size, same, long, a, b, h)
