use Rattle.std.proofs.lemmas.Grind.{common_steps}
use Rattle.std.proofs.Common.{length, subst, arith}
use Rattle.varisat_names.specs.promises.Variables.{IsGiven, AreNextGiven}
use Rattle.varisat_names.proofs.Tables.{one-more}
use Rattle.varisat_names.proofs.variables.linked.LinkedVariables.give_user_vars_up_to.Goals as goal

pub loop-index-preserved : goal.loop-index-preserved
loop-index-preserved g c =
    let first = c.user_watermark-index.ensures in
    let after = c.loop-index.auto.index in
    let before = c.loop-index-test.true in
    let last = c.index-index-end.ensures.index in
    let global = c.in_ok-give_user_var.field-0 in
    one-more (length c.args.self.now.users.forward) c.args.user c.args.self.now c.loop-index.self c.give_user_var.new.self c.loop-index.index global
    (omega (arith, first, after)) (omega (arith, before, last)) c.loop-index.invariant
    (subst (λ u. IsGiven c.loop-index.self c.give_user_var.new.self u global) c.from_index.ensures c.in_ok-give_user_var.ensures.given)

pub returns-clause-given : goal.returns-clause-given
returns-clause-given g c =
    let w = length c.args.self.now.users.forward in
    let ended = c.loop-index-test.false in
    let bounded = c.loop-index.invariant.bounded in
    subst (λ k. AreNextGiven k c.args.self.now c.loop-index.self) (omega (arith, ended, bounded, c.index-index-end.ensures.index)) c.loop-index.invariant.names

pub give_user_var-requires-clause-free : goal.give_user_var-requires-clause-free
give_user_var-requires-clause-free g c = grind (arith, common_steps)
