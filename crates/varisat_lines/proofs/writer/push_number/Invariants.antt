use Rattle.std.proofs.Common.{◌≡◌, ◌++◌, ◌*◌, ◌<◌, ◌≤◌}
use Rattle.varisat_lines.specs.promises.Written.{leb128, leb128_by}
use Rattle.varisat_lines.specs.inside.Machine.{scale}
use Rattle.varisat_lines.proofs.writer.push_number.Given as goal

abbrev pub invariant-bytes : goal.invariant-bytes
invariant-bytes g l = record {
  few : l.left ≤ 4;
  small : l.rest < 128 * scale l.left;
  bytes : l.buffer.items ++ leb128_by l.left l.rest ≡ l.fn.buffer.items ++ leb128 l.fn.number;
}

abbrev pub decreases-bytes : goal.decreases-bytes
decreases-bytes g l = l.left
