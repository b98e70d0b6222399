-- A piece's clauses are taken, or one is refused; and at the end the last ones.
use Rattle.std.proofs.lemmas.Result.{err_from_is_err_and}
use Rattle.std.proofs.Common.{rules, [], ◌++◌, ◌≡◌, ◌⊎◌, inl, Ok, Err, false, inr, ap, ◌∙◌}
use Rattle.varisat_formula.specs.declared.dimacs.error.DimacsError.{DimacsError}
use Rattle.varisat_formula.proofs.ParsedSources.{read_nothing, read_more, read_taken, gives_first, text_over}
use Rattle.varisat_formula.specs.promises.TakenTexts.{InOne}
use Rattle.varisat_formula.proofs.TakenTexts.{err_told, takes_more, takes_text, refuses_last}
use Rattle.varisat_formula.proofs.dimacs.parse.read_clauses.Goals as goal
use Rattle.varisat_formula.proofs.dimacs.parse.read_clauses.Goals.{in_default, in_default-2}

pub pieces-init : goal.pieces-init
pieces-init g c = record {
  front = [];
  read = read_nothing _ _ c.new_in-parser.ensures.begins;
  takes = λ clauses r t w. w;
}

pub pieces-preserved : goal.pieces-preserved
pieces-preserved g c = record {
  front = c.pieces.invariant.front ++ c.take_formula.result.clauses;
  read = read_taken _ _ _ _ _ c.take_formula.result
      (read_more _ _ _ _ _ _ c.in-Ok-true.field-0 _ c.pieces.invariant.read c.next_piece.ensures.takes c.in-Ok-true.is)
      c.take_formula.ensures.frame c.take_formula.ensures.later;
  takes = takes_more _ _ _ _ _ _ c.pieces.invariant.takes c.in_ok-take_clauses.ensures;
}

pub returns-in_err-take_clauses-clause-refused : goal.returns-in_err-take_clauses-clause-refused
returns-in_err-take_clauses-clause-refused g c =
    let p = err_from_is_err_and c.from_residual.result c.from_residual.ensures.1 in rw (p.1, p.2)
    record {
      clauses = c.pieces.invariant.front ++ c.take_formula.result.clauses;
      given = inr (gives_first _ _ _ _ (read_taken _ _ _ _ _ c.take_formula.result
          (read_more _ _ _ _ _ _ c.in-Ok-true.field-0 _ c.pieces.invariant.read c.next_piece.ensures.takes c.in-Ok-true.is)
          c.take_formula.ensures.frame c.take_formula.ensures.later));
      takes_some = c.pieces.invariant.takes _ _ _ (InOne c.in_err-take_clauses.ensures);
    }

pub returns-clause-taken : goal.returns-clause-taken
returns-clause-taken g c =
    let last : (c.next_piece.result ≡ Ok false) ⊎ ((x : DimacsError) × (c.next_piece.result ≡ Err x)) =
    elim c.match-next_piece.branch [ in_default w ↦ inl (search rules) | in_default-2 w ↦ inr (_, w.in_default.is) ] in
    takes_text _ _ _ _ _ _ _ _ _ _ c.pieces.invariant.takes
    (text_over _ _ _ _ _ _ _ _ c.pieces.invariant.read c.next_piece.ensures.takes last c.finish-end.ensures.reads)
    (ap (λ f. f.clauses) c.take_formula-2.ensures.formula) (c.err.ensures.value ∙ err_told _ ∙ c.finish-end.ensures.answer) c.in_ok-take_clauses-2.ensures

pub returns-in_err-take_clauses-2-clause-refused : goal.returns-in_err-take_clauses-2-clause-refused
returns-in_err-take_clauses-2-clause-refused g c =
    let last : (c.next_piece.result ≡ Ok false) ⊎ ((x : DimacsError) × (c.next_piece.result ≡ Err x)) =
    elim c.match-next_piece.branch [ in_default w ↦ inl (search rules) | in_default-2 w ↦ inr (_, w.in_default.is) ] in
    let p = err_from_is_err_and c.from_residual-in_err-take_clauses-2.result c.from_residual-in_err-take_clauses-2.ensures.1 in rw (p.1, p.2)
    (refuses_last _ _ _ _ _ _ _ _ _ _ c.pieces.invariant.takes
    (text_over _ _ _ _ _ _ _ _ c.pieces.invariant.read c.next_piece.ensures.takes last c.finish-end.ensures.reads)
    (ap (λ f. f.clauses) c.take_formula-2.ensures.formula) c.in_err-take_clauses-2.ensures)
