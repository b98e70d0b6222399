use Rattle.std.proofs.Common.{◌+◌, sym, subst}
use Rattle.varisat_formula.specs.promises.Rest.{ReadsOn}
use Rattle.varisat_formula.proofs.TokenRuns.{reads_on}
use Rattle.varisat_formula.proofs.dimacs.parser.DimacsParser.read_lines.Goals as goal

pub returns-then-not-read_end : goal.returns-then-not-read_end
returns-then-not-read_end g c =
    subst (λ p. ReadsOn c.args.self.now c.args.bytes.now (c.lines.count + c.read_literals-count.result) p) (sym c.if-not-read_end.ensures)
    (reads_on _ c.lines.self c.read_literals-count.new.self c.args.bytes.now c.lines.count c.read_literals-count.result c.lines.invariant
    c.read_literals-count.ensures)

pub lines-preserved : goal.lines-preserved
lines-preserved g c =
    reads_on _ c.read_literals-count.new.self c.read_end.new.self c.args.bytes.now (c.lines.count + c.read_literals-count.result) 2
    (reads_on _ c.lines.self c.read_literals-count.new.self c.args.bytes.now c.lines.count c.read_literals-count.result c.lines.invariant
    c.read_literals-count.ensures) c.if-not-read_end.ensures
