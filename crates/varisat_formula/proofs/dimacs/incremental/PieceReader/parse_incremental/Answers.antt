-- Each piece is followed by a call, up to the end of the text or the first refusal.
use Rattle.std.proofs.lemmas.Result.{err_from_is_err_and}
use Rattle.std.proofs.Common.{◌∙◌, refl, Ok, Err}
use Rattle.varisat_formula.proofs.PieceReaders.{turns_none, turns_more, ends_text, finishes, has_fault, end_has_fault, is_refused, end_is_refused}
use Rattle.varisat_formula.proofs.dimacs.incremental.PieceReader.parse_incremental.Goals as goal

pub pieces-init : goal.pieces-init
pieces-init g c = record {
  turns = turns_none _ _ _ _ c.begin_in-parser.ensures;
  quiet = refl;
}

pub pieces-preserved : goal.pieces-preserved
pieces-preserved g c =
    let t = c.in_ok-take_piece in record {
      turns = turns_more _ _ _ _ _ c.pieces.parser c.take_piece.new.self _ c.pieces.f _ t.field-0 c.take_piece.result
          c.pieces.invariant.turns c.take_piece.ensures t.was c.if-branch.true
          (record { shown = _; shows = refl; left = _; leaves = refl; called = c.in_ok-f.ensures {u = tt} });
      quiet = (c.take_piece.ensures.good t.field-0 t.was).2 ∙ c.pieces.invariant.quiet;
    }

pub returns-in_err-f-clause-err : goal.returns-in_err-f-clause-err
returns-in_err-f-clause-err g c =
    let r = c.from_residual-in_err-f in
    let t = c.in_ok-take_piece in
    let p = err_from_is_err_and r.result r.ensures.1 in rw (p.1, p.2)
    (is_refused _ _ _ _ _ c.pieces.parser c.take_piece.new.self _ c.pieces.f _ t.field-0 c.take_piece.result _ c.pieces.invariant.turns
    c.take_piece.ensures t.was c.if-branch.true
    (record { shown = _; shows = refl; left = _; leaves = refl; called = c.in_err-f.ensures }))

pub returns-clause-ok : goal.returns-clause-ok
returns-clause-ok g c =
    let t = c.in_ok-take_piece in
    finishes _ _ _ _ _ c.pieces.parser c.end.new.self _ c.pieces.f _ c.pieces.invariant.turns
    (ends_text _ _ _ c.pieces.parser c.take_piece.new.self c.end.new.self c.pieces.f t.field-0 c.take_piece.result
    (Ok tt) c.take_piece.ensures t.was c.if-branch.false
    c.in_ok-end.ensures.reads c.in_ok-end.ensures.answer c.in_ok-end.ensures.over)
    (record { shown = _; shows = refl; left = _; leaves = refl; called = c.in_ok-f-2.ensures {u = tt} })

pub returns-in_err-f-2-clause-err : goal.returns-in_err-f-2-clause-err
returns-in_err-f-2-clause-err g c =
    let r = c.from_residual-in_err-f-2 in
    let t = c.in_ok-take_piece in
    let p = err_from_is_err_and r.result r.ensures.1 in rw (p.1, p.2)
    (end_is_refused _ _ _ _ _ c.pieces.parser c.end.new.self _ c.pieces.f _ _ c.pieces.invariant.turns
    (ends_text _ _ _ c.pieces.parser c.take_piece.new.self c.end.new.self c.pieces.f t.field-0 c.take_piece.result
    (Ok tt) c.take_piece.ensures t.was c.if-branch.false
    c.in_ok-end.ensures.reads c.in_ok-end.ensures.answer c.in_ok-end.ensures.over)
    (record { shown = _; shows = refl; left = _; leaves = refl; called = c.in_err-f-2.ensures }))

pub returns-in_err-take_piece-clause-err : goal.returns-in_err-take_piece-clause-err
returns-in_err-take_piece-clause-err g c =
    let r = c.from_residual in
    let p = err_from_is_err_and r.result r.ensures.1 in rw p.1
    (has_fault _ _ _ _ _ c.pieces.parser c.take_piece.new.self c.pieces.f _ c.take_piece.result _ c.pieces.invariant.turns
    c.take_piece.ensures c.in_err-take_piece.was p.2)

pub returns-in_err-end-clause-err : goal.returns-in_err-end-clause-err
returns-in_err-end-clause-err g c =
    let r = c.from_residual-in_err-end in
    let t = c.in_ok-take_piece in
    let p = err_from_is_err_and r.result r.ensures.1 in rw p.1
    (end_has_fault _ _ _ _ _ c.pieces.parser c.end.new.self c.pieces.f _ _ c.pieces.invariant.turns
    (ends_text _ _ _ c.pieces.parser c.take_piece.new.self c.end.new.self c.pieces.f t.field-0 c.take_piece.result
    (Err _) c.take_piece.ensures t.was c.if-branch.false
    c.in_err-end.ensures.reads c.in_err-end.ensures.answer c.in_err-end.ensures.over)
    p.2)
