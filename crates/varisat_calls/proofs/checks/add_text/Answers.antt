use Rattle.std.proofs.Common.{◌∙◌, sym, ap}
use Rattle.varisat_formula.specs.promises.Streams.{cut_input}
use Rattle.varisat_calls.proofs.Checking.{unless-taken}
use Rattle.varisat_calls.proofs.checks.add_text.Goals as goal

pub returns-clause-fails : goal.returns-clause-fails
returns-clause-fails g c =
    let left = ap (λ s. (cut_input s).left) c.new-source.ensures in
    unless-taken c.args.text.now (cut_input c.new-source.result) (cut_input c.add_dimacs_cnf-added.new.source) c.args.checker.now
    c.add_dimacs_cnf-added.new.self c.add_dimacs_cnf-added.result left
    (λ front reads ended. c.known_bytes_are_read.ensures (cut_input c.new-source.result) (cut_input c.add_dimacs_cnf-added.new.source) front c.args.text.now
    left reads ended)
    (sym c.faults.ensures ∙ c.if-faults-ne0.false ∙ sym (ap (λ s. s.faults) c.new-source.ensures))
    (ap (λ x. x.spent) c.requires.new) c.add_dimacs_cnf-added.ensures
