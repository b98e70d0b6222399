use Rattle.std.proofs.Common.{◌∙◌, take, arith}
use Rattle.varisat_prop.proofs.trails.NextLiteral.{taken-inside, taken-next}
use Rattle.varisat_prop.proofs.prop.long.propagate_long.Goals as goal

pub visit_watches-requires-clause-next : goal.visit_watches-requires-clause-next
visit_watches-requires-clause-next g c =
    taken-next c.requires c.take.new.self (take c.in-Few.count c.in-Few.few) (c.in-Few.ensures.watches ∙ c.watched_by_mut.ensures.value)

pub watched_by_mut-requires-in-Few : goal.watched_by_mut-requires-in-Few
watched_by_mut-requires-in-Few g c =
    let h = taken-inside c.requires c.take.new.self in
    omega (arith, h, c.in_ok-visited-in-Few.ensures.lists)

pub visit_watches-requires-in-Many-clause-next : goal.visit_watches-requires-in-Many-clause-next
visit_watches-requires-in-Many-clause-next g c =
    taken-next c.requires c.take.new.self c.as_mut_slice-watches.result.now
    (c.as_mut_slice-watches.ensures.value ∙ c.in-Many.ensures.watches ∙ c.watched_by_mut.ensures.value)

pub watched_by_mut-requires-in-Many : goal.watched_by_mut-requires-in-Many
watched_by_mut-requires-in-Many g c =
    let h = taken-inside c.requires c.take.new.self in
    omega (arith, h, c.in_ok-visited-in-Many.ensures.lists)
