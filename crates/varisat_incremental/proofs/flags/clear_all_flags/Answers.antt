use Rattle.std.proofs.Common.{◌∙◌, sym, true, false, ◌≡◌}
use Rattle.varisat_incremental.proofs.FlagLemmas.{clear-next, clear-end}
use Rattle.varisat_incremental.proofs.flags.clear_all_flags.Goals as goal

pub loop-clause-preserved-then-is_any : goal.loop-clause-preserved-then-is_any
loop-clause-preserved-then-is_any g c =
    let one = c.clear_flags-is_one.ensures in
    record {
      fewer = λ v h. c.loop-clause.invariant.fewer v (one.fewer v h);
      clear = clear-next c.loop-clause.flags.items c.clear_flags-is_one.new.flags.items c.loop-clause.clause-iterator c.next.new.self c.args.formula.now.clauses
          c.in-Some.clause.now (c.in-Some.ensures {u = tt}).steps one.fewer one.clear c.loop-clause.invariant.clear;
      same = λ e. absurd (let z : true ≡ false = sym c.if-is_any.true ∙ e in cc);
    }

pub loop-clause-preserved : goal.loop-clause-preserved
loop-clause-preserved g c =
    let one = c.clear_flags-is_one.ensures in
    record {
      fewer = λ v h. c.loop-clause.invariant.fewer v (one.fewer v h);
      clear = clear-next c.loop-clause.flags.items c.clear_flags-is_one.new.flags.items c.loop-clause.clause-iterator c.next.new.self c.args.formula.now.clauses
          c.in-Some.clause.now (c.in-Some.ensures {u = tt}).steps one.fewer one.clear c.loop-clause.invariant.clear;
      same = λ e. one.same e ∙ c.loop-clause.invariant.same c.if-is_any.false;
    }

pub returns-clause-clear : goal.returns-clause-clear
returns-clause-clear g c =
    clear-end c.loop-clause.flags.items c.loop-clause.clause-iterator c.args.formula.now.clauses (c.in-None.ensures {u = tt}).steps.0 c.loop-clause.invariant.clear
