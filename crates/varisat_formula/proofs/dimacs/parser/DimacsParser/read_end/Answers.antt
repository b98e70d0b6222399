use Rattle.std.proofs.Common.{refl, ap, ◌∙◌, ℕ}
use Rattle.varisat_formula.specs.declared.dimacs.parser.ParserState.TheVariants.{Start}
use Rattle.varisat_formula.specs.declared.dimacs.token.Meaning.TheVariants.{End}
use Rattle.varisat_formula.specs.promises.Dimacs.{Reading, after_token, next}
use Rattle.varisat_formula.specs.promises.Rest.{Progress}
use Rattle.varisat_formula.proofs.TokenRuns.{end_reads}
use Rattle.varisat_formula.proofs.dimacs.parser.DimacsParser.read_end.Goals as goal

pub returns : goal.returns
returns g c =
    let i = c.self.inside in
    let ended : Reading → ℕ → Progress = λ r n. record { line = n; place = Start; over = i.over; reading = r } in
    let behind : Progress → Progress = λ p. record p { line = next p.line; place = Start; reading = after_token p.reading p.line End } in
    record {
      within = c.if-bytes-lt2.false;
      reads = end_reads c.args.self.now _ c.args.bytes.now c.requires.not_over c.requires.no_fault (c.is_between.ensures c.if-not-is_between.false)
          c.if-bytes-lt2.false c.if-bytes-ne48.false c.if-bytes-ne10.false
          (ap (λ r. ended r c.saturating_add-self-inside.result) (c.if-not-end_with_room.ensures.ended refl i.line)
          ∙ ap (λ n. ended (after_token i.reader i.line End) n) c.saturating_add-self-inside.ensures
          ∙ ap behind c.self.view_is);
      goes_on = record {
        not_over = ap (λ p. p.over) c.self.view_is ∙ c.requires.not_over;
        no_fault = c.if-not-end_with_room.ensures.fine ∙ ap (λ p. p.reading.fault) c.self.view_is ∙ c.requires.no_fault;
      };
    }
