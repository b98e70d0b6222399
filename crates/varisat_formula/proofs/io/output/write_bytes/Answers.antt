use Rattle.std.proofs.Common.{arith}
use Rattle.varisat_formula.proofs.WriterBytes.{rest_bound, wrote_more, wrote_none}
use Rattle.varisat_formula.proofs.io.output.write_bytes.Goals as goal
use Rattle.varisat_formula.proofs.io.output.write_bytes.Goals.{in-Ok, in-Err+else-ne}

pub tries-preserved : goal.tries-preserved
tries-preserved g c = elim c.match-write.branch [
  | in-Ok w ↦ record {
    within = rest_bound c.tries.done w.in-Ok.count c.match-write.done c.args.bytes.now w.done-is c.tries.invariant.within
        w.in-Ok.ensures.bound;
    grows = wrote_more _ _ _ c.args.bytes.now c.tries.done _ c.match-write.done w.done-is c.tries.invariant.grows
        w.in-Ok.ensures.bytes;
  }
  | in-Err+else-ne w ↦ record {
    within = omega (arith, w.done-is, c.tries.invariant.within);
    grows =
        wrote_none _ _ _ c.args.bytes.now c.tries.done c.match-write.done w.done-is c.tries.invariant.grows w.in-Err.ensures.bytes;
  }
]
