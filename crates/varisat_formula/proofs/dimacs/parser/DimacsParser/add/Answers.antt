use Rattle.std.proofs.Common.{[], ◌∙◌, sym, ap, refl}
use Rattle.varisat_formula.specs.declared.dimacs.parser.ParserState.{ParserState}
use Rattle.varisat_formula.specs.declared.dimacs.parser.ParserState.TheVariants.{Header, Plain}
use Rattle.varisat_formula.specs.promises.Rest.{Progress, word_items}
use Rattle.varisat_formula.specs.promises.Dimacs.{read}
use Rattle.varisat_formula.proofs.ParserProgress.{reads_byte, start_more, header_more, plain_blank, plain_more}
use Rattle.varisat_formula.proofs.dimacs.parser.DimacsParser.add.Goals as goal

pub returns-in-Start-clause-ok : goal.returns-in-Start-clause-ok
returns-in-Start-clause-ok g c =
    let i = c.self.inside in
    let at : ParserState → Progress = λ x. record { line = i.line; place = x; over = i.over; reading = i.reader } in
    reads_byte _ (at i.place) _ c.args.b [] _ _ c.self.view_is c.requires.reads_on.not_over c.in-Start.is (ap at c.start_place-self-inside.ensures)
    (start_more i.line c.args.b) c.requires.inside

pub returns-in-Header-clause-ok : goal.returns-in-Header-clause-ok
returns-in-Header-clause-ok g c =
    let i = c.self.inside in
    let at : ParserState → Progress = λ x. record { line = i.line; place = x; over = i.over; reading = i.reader } in
    reads_byte _ (at i.place) _ c.args.b [] _ _ c.self.view_is c.requires.reads_on.not_over c.in-Header.is (ap (λ h. at (Header h)) c.after.ensures)
    (header_more i.line c.in-Header.part c.args.b) c.requires.inside

pub returns-in_ok-end_token-in-Plain-clause-ok : goal.returns-in_ok-end_token-in-Plain-clause-ok
returns-in_ok-end_token-in-Plain-clause-ok g c =
    let s = c.args.self.now in
    let with_place : ParserState → Progress → Progress = λ x p. record p { place = x } in
    reads_byte s s _ c.args.b (word_items s.line c.in-Plain.word) (Plain c.in-Plain.word) _ refl c.requires.reads_on.not_over
    (ap (λ x. x.place) (sym c.self.view_is) ∙ c.in-Plain.is)
    (ap (with_place (Plain c.new.result)) (c.self-then-is_blank_byte.view_is ∙ c.in_ok-end_token-in-Plain.ensures.ok)
    ∙ ap (λ w. record s { place = Plain w; reading = read s.reading (word_items s.line c.in-Plain.word) }) c.new.ensures)
    (plain_blank s.line c.in-Plain.word c.args.b (sym c.is_blank_byte.ensures ∙ c.if-is_blank_byte.true)) c.requires.inside

pub returns-else-is_blank_byte-clause-ok : goal.returns-else-is_blank_byte-clause-ok
returns-else-is_blank_byte-clause-ok g c =
    let i = c.self.inside in
    let at : ParserState → Progress = λ x. record { line = i.line; place = x; over = i.over; reading = i.reader } in
    reads_byte _ (at i.place) _ c.args.b [] _ _ c.self.view_is c.requires.reads_on.not_over c.in-Plain.is (ap (λ w. at (Plain w)) c.after-else-is_blank_byte.ensures)
    (plain_more i.line c.in-Plain.word c.args.b (sym c.is_blank_byte.ensures ∙ c.if-is_blank_byte.false)) c.requires.inside
