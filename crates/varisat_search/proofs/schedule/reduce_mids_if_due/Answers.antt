use Rattle.std.proofs.Common.{ap, refl}
use Rattle.varisat_search.specs.declared.context.Context.{Context}
use Rattle.varisat_search.specs.DueReductions.{ReducesMidsIfDue, NoLines}
use Rattle.varisat_search.proofs.stepping.DueReductions.{headers-keep, inprocesses-silently, keeps-refl}
use Rattle.varisat_search.proofs.schedule.reduce_mids_if_due.Goals as goal

pub returns-in_ok-reduce_mids-clause-inprocesses : goal.returns-in_ok-reduce_mids-clause-inprocesses
returns-in_ok-reduce_mids-clause-inprocesses g c =
    let x = c.args.ctx.now in
    let y = c.reduce_mids.new.ctx in
    let reduces = c.in_ok-reduce_mids.ensures.reduces in
    inprocesses-silently (λ lines u v. ReducesMidsIfDue u v) NoLines x y
    (record { reduces = λ due. reduces; stays = λ other. absurd (other cc) }) refl
    (ap (λ (z : Context g.row.A.Denot). z.assignment.last) c.reduce_mids.ensures.frame)
    (headers-keep x y c.in_ok-reduce_mids.ensures.ready (ap (λ (z : Context g.row.A.Denot). z.vsids) c.reduce_mids.ensures.frame) c.requires
    reduces.headers)

pub returns-else-steps-reduce_mids_interval-eq0-clause-inprocesses : goal.returns-else-steps-reduce_mids_interval-eq0-clause-inprocesses
returns-else-steps-reduce_mids_interval-eq0-clause-inprocesses g c =
    let x = c.args.ctx.now in
    inprocesses-silently (λ lines u v. ReducesMidsIfDue u v) NoLines x x
    (record { reduces = λ due. absurd (c.if-steps-reduce_mids_interval-eq0.false cc); stays = λ other. refl }) refl refl (keeps-refl x c.requires)
