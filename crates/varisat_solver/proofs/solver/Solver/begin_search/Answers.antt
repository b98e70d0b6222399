-- What is kept of a search does not speak of whether it was begun.
use Rattle.std.proofs.Common.{refl}
use Rattle.varisat_solver.proofs.leaving.DetachedValues.{kept-verdict}
use Rattle.varisat_solver.proofs.solver.Solver.begin_search.Goals as goal

pub invariant_of-self : goal.invariant_of-self
invariant_of-self g c v =
    let k = c.self.invariant v in
    record {
      kept = kept-verdict c.self.inside.tracer.tables c.self.inside.ctx _ refl k.kept;
      logs = k.logs;
      counts = record {
        low = k.counts.low;
        few = k.counts.few;
        come = λ u. let (d, begins, since) = k.counts.come u in (
          d,
          begins,
          record { units = since.units; come = since.come; scale = since.scale; variables = since.variables; room = since.room },
        );
      };
      represents = k.represents;
    }
