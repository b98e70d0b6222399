use Rattle.std.proofs.lemmas.Grind.{common_steps}
use Rattle.std.proofs.Common.{refl, arith}
use Rattle.varisat_lines.proofs.LineBytes.{leb128_start}
use Rattle.varisat_lines.proofs.writer.push_number.Goals as goal

pub bytes-init : goal.bytes-init
bytes-init g c = record {
  few = omega arith;
  small = omega arith;
  bytes = leb128_start c.args.buffer.now.items c.args.buffer.now.items c.args.number refl;
}

pub bytes-preserved : goal.bytes-preserved
bytes-preserved g c = grind (arith, common_steps)
