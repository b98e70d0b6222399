use Rattle.std.proofs.Common.{sym}
use Rattle.varisat_formula.proofs.ParsedSources.{source_failed, piece_failed}
use Rattle.varisat_formula.proofs.dimacs.parser.DimacsParser.next_piece.Goals as goal

pub returns-in-Err-clause-takes : goal.returns-in-Err-clause-takes
returns-in-Err-clause-takes g c = source_failed _ _ c.args.self.now c.break_off.new.self c.break_off.result c.in-Err.ensures.gives
    c.in-Err.ensures.bytes c.fill.ensures.no_more c.in-Err.ensures.fault c.break_off.ensures.answer c.break_off.ensures.reading

pub returns-in-Err-feed-clause-takes : goal.returns-in-Err-feed-clause-takes
returns-in-Err-feed-clause-takes g c =
    piece_failed _ _ c.args.self.now c.feed.new.self _ c.in-Err-feed.fault
    (record { gave = c.in-Ok.ensures.gives; consumed = c.in-Ok.ensures.bytes.0; no_more = c.fill.ensures.no_more })
    c.in-Ok.ensures.quiet c.in-Err-feed.ensures.reads (sym c.in-Err-feed.ensures.answer)
