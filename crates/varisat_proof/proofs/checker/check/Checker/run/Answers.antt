use Rattle.std.proofs.lemmas.Result.{err_from_is_err_and}
use Rattle.std.proofs.Common.{refl, ap, subst, take, length, ◌<◌, rules, ◌∙◌}
use Rattle.varisat_proof.proofs.CheckedLines.{state_is}
use Rattle.varisat_proof.proofs.CheckedSources.{Gave, underway_start, underway_more, breaks_inside, source_fails, ends_check, no_memory, gave_nothing, ended_here}
use Rattle.varisat_proof.specs.promises.Marked.{state_of}
use Rattle.varisat_proof.proofs.checker.check.Checker.run.Goals as goal
use Rattle.varisat_proof.specs.promises.DratChecks.{rules_of}

pub pieces-init : goal.pieces-init
pieces-init g c = record {
  so = underway_start (rules_of c.args.rules) c.args.encoding (state_of c.args.self.now.clauses c.args.builder.now) _ (g.S.ByteSource.input c.args.source.now) _
      c.new_in-reader.result (state_is _ _ _ _ (ap (λ h. h.clauses) c.is_refuted.ensures.frame) refl) c.new_in-reader.ensures refl c.in-Ok.ensures.found;
  spent = ap (λ s. s.spent) c.is_refuted.ensures.frame;
}

pub pieces-preserved : goal.pieces-preserved
pieces-preserved g c = record {
  so = underway_more (rules_of c.args.rules) c.args.encoding (state_of c.args.self.now.clauses c.args.builder.now) (state_of c.pieces.self.clauses c.pieces.builder)
      (state_of c.read_piece.new.self.clauses c.read_piece.new.builder) (g.S.ByteSource.input c.args.source.now) (g.S.ByteSource.input c.pieces.source)
      (g.S.ByteSource.input c.fill.new.self) c.pieces.count c.read_piece.new.count c.pieces.reader c.read_piece.new.reader
      (take c.in-Ok-fill.size c.fill.new.buffer) c.pieces.invariant.so
      (record {
        reads = record { gave = c.in-Ok-fill.ensures.gives; consumed = c.in-Ok-fill.ensures.bytes.0; no_more = c.fill.ensures.no_more };
        quiet = c.in-Ok-fill.ensures.quiet;
      }) c.in_ok-read_piece.ensures.reads;
  spent = c.read_piece.ensures.spent ∙ c.pieces.invariant.spent;
}

pub returns-in-Err-clause-checks : goal.returns-in-Err-clause-checks
returns-in-Err-clause-checks g c = no_memory (rules_of c.args.rules) c.args.encoding (state_of c.args.self.now.clauses c.args.builder.now) _ (g.S.ByteSource.input c.args.source.now)

pub returns-in-Err-fill-clause-checks : goal.returns-in-Err-fill-clause-checks
returns-in-Err-fill-clause-checks g c =
    source_fails (rules_of c.args.rules) c.args.encoding (state_of c.args.self.now.clauses c.args.builder.now) (state_of c.pieces.self.clauses c.pieces.builder)
    (g.S.ByteSource.input c.args.source.now) (g.S.ByteSource.input c.pieces.source) (g.S.ByteSource.input c.fill.new.self) c.pieces.count
    c.pieces.reader _ c.pieces.invariant.so
    (gave_nothing _ _ c.in-Err-fill.ensures.gives c.in-Err-fill.ensures.bytes c.fill.ensures.no_more) c.in-Err-fill.ensures.fault refl

pub returns-in_err-read_piece-clause-checks : goal.returns-in_err-read_piece-clause-checks
returns-in_err-read_piece-clause-checks g c =
    let p = err_from_is_err_and c.from_residual.result c.from_residual.ensures.1 in rw (p.1, p.2)
    (breaks_inside (rules_of c.args.rules) c.args.encoding (state_of c.args.self.now.clauses c.args.builder.now) (state_of c.pieces.self.clauses c.pieces.builder)
    (state_of c.read_piece.new.self.clauses c.read_piece.new.builder) (g.S.ByteSource.input c.args.source.now) (g.S.ByteSource.input c.pieces.source)
    (g.S.ByteSource.input c.fill.new.self) c.pieces.count c.pieces.reader (take c.in-Ok-fill.size c.fill.new.buffer) c.in_err-read_piece.field-0.0
    c.pieces.invariant.so
    (record {
      reads = record { gave = c.in-Ok-fill.ensures.gives; consumed = c.in-Ok-fill.ensures.bytes.0; no_more = c.fill.ensures.no_more };
      quiet = c.in-Ok-fill.ensures.quiet;
    }) c.in_err-read_piece.ensures.reads)

pub returns-clause-checks : goal.returns-clause-checks
returns-clause-checks g c =
    let room : 0 < length c.fill.new.buffer = search rules in
    ends_check (rules_of c.args.rules) c.args.encoding (state_of c.args.self.now.clauses c.args.builder.now) (state_of c.pieces.self.clauses c.pieces.builder)
    (state_of c.end_proof.new.self.clauses c.end_proof.new.builder) (g.S.ByteSource.input c.args.source.now) (g.S.ByteSource.input c.pieces.source)
    (g.S.ByteSource.input c.fill.new.self) c.pieces.count c.pieces.reader c.end_proof.result c.pieces.invariant.so
    (subst (λ n. Gave (g.S.ByteSource.input c.pieces.source) (take n c.fill.new.buffer) (g.S.ByteSource.input c.fill.new.self)) c.if-size-eq0.true
    (record {
      reads = record { gave = c.in-Ok-fill.ensures.gives; consumed = c.in-Ok-fill.ensures.bytes.0; no_more = c.fill.ensures.no_more };
      quiet = c.in-Ok-fill.ensures.quiet;
    }))
    (record {
      reported = c.in-Ok-fill.ensures.ends ∙ ended_here _ c.in-Ok-fill.size c.fill.new.buffer c.if-size-eq0.true room;
      at_end = c.in-Ok-fill.ensures.bytes.1 c.if-size-eq0.true room;
    }) c.end_proof.ensures.ends
