use Rattle.std.proofs.Common.{refl}
use Rattle.varisat_analysis.proofs.WellFormedViews.{inside}
use Rattle.varisat_analysis.proofs.AnalysisMarks.{can-still}
use Rattle.varisat_analysis.proofs.AnalysisResult.{learned-teaches, learned-met}
use Rattle.varisat_analysis.proofs.analyze_conflict.learn.Goals as goal

pub minimize-requires : goal.minimize-requires
minimize-requires g c κs within = (within, (can-still c.requires.1.can c.resolve.auto.var_flags, (c.in_ok-first.ensures {u = tt}).marks))

pub put_highest_first-level-requires : goal.put_highest_first-level-requires
put_highest_first-level-requires g c κs within =
    let a = c.in_ok-first.ensures {u = tt} in
    let b = (c.in_ok-minimize.ensures {u = tt}).minimized in
    (within, (c.requires.1.can.sees, ((λ m i. inside g.s c.requires.1.can.sees.well m (a.marks.lower m (b.part m i)).false_now), b.distinct a.marks.distinct)))

pub returns-clause-teaches : goal.returns-clause-teaches
returns-clause-teaches g c =
    learned-teaches c.requires.1.can.sees.well (c.in_ok-first.ensures {u = tt})
    (c.in_ok-minimize.ensures {u = tt}) c.put_highest_first-level.new.clause.items c.insert.new.self.items
    c.put_highest_first-level.ensures.same c.put_highest_first-level.ensures.distinct c.in_ok-insert.ensures.items
    c.put_highest_first-level.result c.minimize.new.scratch.involved.items c.put_highest_first-level.ensures.level refl

pub returns-clause-met : goal.returns-clause-met
returns-clause-met g c =
    learned-met c.requires.1.can.sees.well (c.in_ok-first.ensures {u = tt})
    (c.in_ok-minimize.ensures {u = tt}) c.put_highest_first-level.new.clause.items c.insert.new.self.items
    c.put_highest_first-level.ensures.same c.put_highest_first-level.ensures.distinct c.in_ok-insert.ensures.items
    c.minimize.new.scratch.involved.items c.minimize.new.scratch.met.items refl refl
