use Rattle.varisat_rules.proofs.FlowLemmas.{subsumed_becomes, strengthened_becomes}
use Rattle.varisat_rules.proofs.subsume.use_on.Goals as goal

pub returns-in_ok-remove-in-Subsumes : goal.returns-in_ok-remove-in-Subsumes
returns-in_ok-remove-in-Subsumes g c =
    let w = c.in-Subsumes.ensures {u = tt} in
    subsumed_becomes c.args.db.now c.remove.new.self c.args.place c.args.other (c.in_ok-remove-in-Subsumes.ensures {u = tt}) w.0 w.1 w.2

pub returns-in_ok-remove-in-Strengthens : goal.returns-in_ok-remove-in-Strengthens
returns-in_ok-remove-in-Strengthens g c =
    let w = c.in-Strengthens.ensures {u = tt} in
    strengthened_becomes c.args.db.now c.push.new.self c.remove-in-Strengthens.new.self c.args.place c.args.other c.in-Strengthens.lit c.not.result
    c.clause.result.now c.deref.result.now c.without.new.out.items c.clause.ensures c.not.ensures c.deref.ensures.value
    (c.in_ok-push-in-Strengthens.ensures {u = tt}).ok (c.in_ok-remove-in-Strengthens.ensures {u = tt}) w.0 w.1 w.2 w.3
    (c.in_ok-without-in-Strengthens.ensures {u = tt})
