use Rattle.std.proofs.Common.{◌+◌, length, ◌∙◌, sym, ap, inl, inr, arith}
use Rattle.varisat_formula.specs.promises.Dimacs.{failed}
use Rattle.varisat_formula.specs.declared.dimacs.error.DimacsErrorKind.TheVariants.{OutOfMemory}
use Rattle.varisat_formula.proofs.ParserMemory.{ran_out_in}
use Rattle.varisat_formula.proofs.ParserProgress.{stopped}
use Rattle.varisat_formula.proofs.TokenRuns.{reads_on, before_end, advances_one, advances_whole}
use Rattle.varisat_formula.proofs.dimacs.parser.DimacsParser.read_piece.Goals as goal

pub returns-then-at-piece-clause-reads : goal.returns-then-at-piece-clause-reads
returns-then-at-piece-clause-reads g c =
    let at = c.bytes.at + c.read_lines-at.result in
    let read = reads_on _ c.read_lines-at.new.self c.read_word-at.new.self c.args.piece.now at c.read_word-at.result
    (reads_on _ c.bytes.self c.read_lines-at.new.self c.args.piece.now c.bytes.at c.read_lines-at.result c.bytes.invariant c.read_lines-at.ensures)
    c.read_word-at.ensures in
    inl (advances_whole _ c.read_word-at.new.self c.args.piece.now (at + c.read_word-at.result) c.if-at-piece.true read.reads)

pub returns-in-Err-clause-reads : goal.returns-in-Err-clause-reads
returns-in-Err-clause-reads g c =
    let at = c.bytes.at + c.read_lines-at.result in
    let read = reads_on _ c.read_lines-at.new.self c.read_word-at.new.self c.args.piece.now at c.read_word-at.result
    (reads_on _ c.bytes.self c.read_lines-at.new.self c.args.piece.now c.bytes.at c.read_lines-at.result c.bytes.invariant c.read_lines-at.ensures)
    c.read_word-at.ensures in
    inr (ran_out_in _ c.read_word-at.new.self c.run_out.new.self c.args.piece.now (at + c.read_word-at.result) read.reads read.goes_on.not_over
    read.goes_on.no_fault c.in-Err.ensures.wants.0 c.in-Err.ensures.wants.1
    (ap (λ p. p.reading) c.run_out.ensures.reading ∙ ap (λ p. failed p.reading p.line OutOfMemory) c.in-Err.ensures.refused))

pub returns-in-Some-clause-reads : goal.returns-in-Some-clause-reads
returns-in-Some-clause-reads g c =
    let at = c.bytes.at + c.read_lines-at.result in
    let read = reads_on _ c.read_lines-at.new.self c.read_word-at.new.self c.args.piece.now at c.read_word-at.result
    (reads_on _ c.bytes.self c.read_lines-at.new.self c.args.piece.now c.bytes.at c.read_lines-at.result c.bytes.invariant c.read_lines-at.ensures)
    c.read_word-at.ensures in
    inl (stopped _ c.read_word-at.new.self _ c.args.piece.now (at + c.read_word-at.result) c.in-Some.fault
    (before_end (at + c.read_word-at.result) (length c.args.piece.now) read.within c.if-at-piece.false) read.reads c.in-Ok.ensures.ok (sym c.in-Some.ensures))

pub bytes-preserved : goal.bytes-preserved
bytes-preserved g c =
    let at = c.bytes.at + c.read_lines-at.result in
    let read = reads_on _ c.read_lines-at.new.self c.read_word-at.new.self c.args.piece.now at c.read_word-at.result
    (reads_on _ c.bytes.self c.read_lines-at.new.self c.args.piece.now c.bytes.at c.read_lines-at.result c.bytes.invariant c.read_lines-at.ensures)
    c.read_word-at.ensures in
    let before = before_end (at + c.read_word-at.result) (length c.args.piece.now) read.within c.if-at-piece.false in
    record {
      within = omega (arith, before);
      reads = advances_one _ c.read_word-at.new.self c.byte.new.self c.args.piece.now (at + c.read_word-at.result) before read.reads c.in-Ok.ensures.ok;
      goes_on = record { not_over = c.in-Ok.ensures.open; no_fault = sym c.reported.ensures ∙ c.in_default.is };
    }

pub returns-clause-reads : goal.returns-clause-reads
returns-clause-reads g c =
    let within = c.bytes.invariant.within in
    let past = c.bytes-test.false in
    inl (advances_whole _ c.bytes.self c.args.piece.now c.bytes.at (omega (arith, within, past)) c.bytes.invariant.reads)
