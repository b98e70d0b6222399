use Rattle.std.proofs.Common.{◌≡◌, ◌≤◌, ◌-◌, length, None, false}
use Rattle.varisat_formula.specs.promises.Rest.{Allows}
use Rattle.varisat_formula.proofs.TokenRuns.{ReadsBetween}
use Rattle.varisat_formula.proofs.dimacs.parser.DimacsParser.read_literals.Given as goal

abbrev pub invariant-literals : goal.invariant-literals
invariant-literals g l =
    let i = l.self-inside in
    record {
      within : l.count ≤ length l.bytes;
      so_far : ReadsBetween l.fn.self l.bytes l.count (record { line = i.line; place = i.place; over = i.over; reading = i.reader });
      open_still : i.over ≡ false;
      none : i.reader.fault ≡ None;
      allows : Allows i.reader l.allowed;
    }

abbrev pub decreases-literals : goal.decreases-literals
decreases-literals g l = length l.bytes - l.count
