use Rattle.std.proofs.Common.{ap}
use Rattle.varisat_formula.specs.promises.Dimacs.{Reading}
use Rattle.varisat_formula.specs.promises.Rest.{Progress}
use Rattle.varisat_formula.proofs.ParserTakes.{gives_taken}
use Rattle.varisat_formula.proofs.dimacs.parser.DimacsParser.take_formula.Goals as goal

pub returns-clause-later : goal.returns-clause-later
returns-clause-later g c =
    let i = c.self.inside in
    let with_reading : Reading → Progress = λ r. record { line = i.line; place = i.place; over = i.over; reading = r } in
    rw (← c.self.view_is) (λ ending text. gives_taken ending (with_reading i.reader) _ _ text (ap (λ f. f.clauses) c.take.ensures.taken)
    (ap with_reading c.take.ensures.frame))
