use Rattle.std.proofs.Common.{◌≡◌, ◌+◌, ◌≤◌, length, Ok}
use Rattle.varisat_wcnf.specs.promises.Texts.{after_lines, wcnf}
use Rattle.varisat_wcnf.proofs.Reading.{lines_left, bytes_left}
use Rattle.varisat_wcnf.proofs.wcnf.parse.Given as goal

abbrev pub decreases-lines : goal.decreases-lines
decreases-lines g l = bytes_left l.rest

abbrev pub invariant-lines : goal.invariant-lines
invariant-lines g l = record {
  read : after_lines (Ok l.reader) (l.number + 1) (lines_left l.rest) ≡ wcnf l.text;
  count : l.number + bytes_left l.rest ≤ length l.text + 1;
}
