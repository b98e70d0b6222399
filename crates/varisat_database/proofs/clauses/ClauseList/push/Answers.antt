use Rattle.std.proofs.Common.{arith, ap, length}
use Rattle.std.proofs.lemmas.List.{length-append}
use Rattle.varisat_database.proofs.CutLemmas.{appended, pushed_ends, pushed_view}
use Rattle.varisat_database.proofs.clauses.ClauseList.push.Goals as goal

pub invariant_of-self-2 : goal.invariant_of-self-2
invariant_of-self-2 g c =
    let e = appended _ _ _ _ c.append.ensures c.reserve-2.ensures.items in
    let a = c.len-end.ensures in
    let b = ap length e in
    let d = length-append c.self.inside.literals.items c.args.clause.now in
    pushed_ends c.self.inside.ends.items c.push_reserved.new.self.items c.self.inside.literals.items c.append.new.literals.items
    c.args.clause.now c.len-end.result (appended _ _ _ _ c.push_reserved.ensures.items c.reserve.ensures.items)
    e (omega (arith, a, b, d)) c.self.invariant

pub returns-clause-ok : goal.returns-clause-ok
returns-clause-ok g c =
    let e = appended _ _ _ _ c.append.ensures c.reserve-2.ensures.items in
    let a = c.len-end.ensures in
    let b = ap length e in
    let d = length-append c.self.inside.literals.items c.args.clause.now in
    pushed_view c.self.inside.ends.items c.push_reserved.new.self.items c.self.inside.literals.items c.append.new.literals.items
    c.args.clause.now c.len-end.result c.args.self.now (appended _ _ _ _ c.push_reserved.ensures.items c.reserve.ensures.items)
    e (omega (arith, a, b, d)) c.self.invariant c.self.view_is
