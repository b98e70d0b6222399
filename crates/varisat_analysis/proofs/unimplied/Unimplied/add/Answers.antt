use Rattle.varisat_analysis.proofs.CopiedLiterals.{flagged-longer}
use Rattle.varisat_analysis.proofs.unimplied.Unimplied.add.Goals as goal

pub invariant_of-self-2 : goal.invariant_of-self-2
invariant_of-self-2 g c =
    let old = c.self.inside in
    flagged-longer old.vars.items c.push.new.self.items old.flags.items c.reach.new.flags.items c.args.var c.index-index.result c.self.invariant
    c.in_ok-reach.ensures.same c.in_ok-reach.ensures.reached c.index-index.ensures.index c.in_ok-push.ensures.items
