use Rattle.std.proofs.Common.{rules, ap, Some, ◌∙◌, sym}
use Rattle.varisat_formula.proofs.PieceReaders.{finishes_read, refuses_read}
use Rattle.varisat_formula.proofs.dimacs.parser.DimacsParser.parse.Goals as goal

pub returns-in-Ok : goal.returns-in-Ok
returns-in-Ok g c =
    let (gives, fine) = finishes_read _ _ _ _ _ (λ f h p q r k. search (rules, k.shows, k.leaves, k.called)) c.in-Ok.ensures.ok in
    record { reading = c.in-Ok.parser.reading; gives = gives; tells = (c.take_formula.ensures.formula, fine) }

pub returns-in-Err : goal.returns-in-Err
returns-in-Err g c =
    let (d, made, reading, gives, reported) = refuses_read _ _ _ _ _ (λ f h p q r k. search (rules, k.shows, k.leaves, k.called)) c.in-Err.ensures.err in
    record { reading = reading; gives = gives; tells = reported ∙ ap Some (sym made) }
