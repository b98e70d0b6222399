use Rattle.std.proofs.Common.{sym, ap, ◌∙◌, take}
use Rattle.varisat_formula.proofs.TokenRuns.{advances_word, in_token}
use Rattle.varisat_formula.proofs.dimacs.parser.DimacsParser.read_word.Goals as goal

pub returns : goal.returns
returns g c =
    let longer = c.with_bytes-count.result.0 in
    record {
      within = c.with_bytes-count.ensures.within;
      reads = advances_word c.args.self.now _ c.in-Plain.word longer (take c.with_bytes-count.result.1 c.args.bytes.now)
          c.with_bytes-count.ensures.word c.requires.not_over (ap (λ p. p.place) (sym c.self.view_is) ∙ c.in-Plain.is)
          (ap (λ p. in_token longer p) c.self.view_is);
      goes_on = record {
        not_over = ap (λ p. p.over) c.self.view_is ∙ c.requires.not_over;
        no_fault = ap (λ p. p.reading.fault) c.self.view_is ∙ c.requires.no_fault;
      };
    }
