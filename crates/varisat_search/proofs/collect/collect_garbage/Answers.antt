use Rattle.std.proofs.Common.{ap, refl, arith}
use Rattle.varisat_search.specs.declared.context.Context.{Context}
use Rattle.varisat_search.specs.DueReductions.{CollectsIfDue, NoLines}
use Rattle.varisat_search.proofs.stepping.DueReductions.{collects-keep, inprocesses-silently, keeps-refl}
use Rattle.varisat_search.proofs.collect.collect_garbage.Goals as goal

pub returns-clause-inprocesses : goal.returns-clause-inprocesses
returns-clause-inprocesses g c =
    let x = c.args.ctx.now in
    let y = c.collect.new.ctx in
    let e = c.in_ok-collect.ensures in
    let due = c.is_collection_due.ensures.0 (let n = c.if-not-is_collection_due.false in cc) in
    let collects : CollectsIfDue x y = record { collected = λ h. e.collected; repacks = λ h. e.repacks; stays = λ h. absurd (omega (arith, h, due)) } in
    inprocesses-silently (λ lines u v. CollectsIfDue u v) NoLines x y collects refl
    (ap (λ (z : Context g.row.A.Denot). z.assignment.last) c.collect.ensures.frame)
    (collects-keep x y c.requires e.ready (ap (λ (z : Context g.row.A.Denot). z.vsids) c.collect.ensures.frame) collects)

pub returns-then-not-is_collection_due-clause-inprocesses : goal.returns-then-not-is_collection_due-clause-inprocesses
returns-then-not-is_collection_due-clause-inprocesses g c =
    let x = c.args.ctx.now in
    inprocesses-silently (λ lines u v. CollectsIfDue u v) NoLines x x (
    record {
      collected = λ h. absurd (let b = c.is_collection_due.ensures.1 h in let n = c.if-not-is_collection_due.true in cc);
      repacks = λ h. absurd (let b = c.is_collection_due.ensures.1 h in let n = c.if-not-is_collection_due.true in cc);
      stays = λ h. refl;
    }
    ) refl refl (keeps-refl x c.requires)
