use Rattle.std.proofs.Common.{refl}
use Rattle.varisat_search.proofs.stepping.PropagatedContext.{propagated-ready}
use Rattle.varisat_search.proofs.cdcl.propagate_counted.Goals as goal

pub returns-clause-ready : goal.returns-clause-ready
returns-clause-ready g c =
    let e = c.in_ok-propagated.ensures in
    propagated-ready c.args.ctx.now (record c.args.ctx.now {
      assignment = c.propagate.new.assignment;
      clause_alloc = c.propagate.new.alloc;
      counters = record c.args.ctx.now.counters { propagations = c.count.new.counter };
      impl_graph = c.propagate.new.graph;
      trail = c.propagate.new.trail;
      watchlists = c.propagate.new.watchlists;
    }) c.requires e.propagates e.propagated e.store refl
