use Rattle.varisat_incremental.proofs.FlagLemmas.{flagged-next, flagged-end}
use Rattle.varisat_incremental.proofs.flags.set_all_flags.Goals as goal

pub loop-clause-preserved : goal.loop-clause-preserved
loop-clause-preserved g c =
    let sets = c.in_ok-set_flags.ensures {u = tt} in
    record {
      keeps = λ v h. sets.keeps v (c.loop-clause.invariant.keeps v h);
      sets = flagged-next c.loop-clause.flags.items c.set_flags.new.flags.items c.loop-clause.clause-iterator c.next.new.self c.args.formula.now.clauses
          c.in-Some.clause.now (c.in-Some.ensures {u = tt}).steps sets.keeps sets.sets c.loop-clause.invariant.sets;
    }

pub returns-clause-sets : goal.returns-clause-sets
returns-clause-sets g c =
    flagged-end c.loop-clause.flags.items c.loop-clause.clause-iterator c.args.formula.now.clauses (c.in-None.ensures {u = tt}).steps.0 c.loop-clause.invariant.sets
