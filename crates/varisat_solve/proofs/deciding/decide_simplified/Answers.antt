-- Each return, by what the calls before it ensure.
use Rattle.std.proofs.Common.{◌∙◌, ap}
use Rattle.varisat_steps.proofs.Broken.{passed-on}
use Rattle.varisat.specs.promises.Decided.{allowed_steps, concluded}
use Rattle.varisat_solve.specs.promises.Extending.{conclusion_of_all}
use Rattle.varisat_solve.specs.promises.Solving.{FailsSimplified, AsSimplified, AsLed, AsDecided}
use Rattle.varisat_solve.proofs.DecidedBehind.{made-low, concluded-made}
use Rattle.varisat_solve.proofs.SimplifiedTexts.{made-of, extended-fails}
use Rattle.varisat_solve.proofs.deciding.decide_simplified.Goals as goal

pub returns-in_err-made-clause-fails : goal.returns-in_err-made-clause-fails
returns-in_err-made-clause-fails g c =
    passed-on c.from_residual.result c.in_err-made.field-0.0 (λ e. FailsSimplified g.W.ProofTarget.taken (record c.args.options { max_steps = c.args.max_steps.now }) c.args.target.now c.args.formula e)
    c.from_residual.ensures (AsSimplified c.in_err-made.ensures.memory)

pub returns-in_err-write_lead-clause-fails : goal.returns-in_err-write_lead-clause-fails
returns-in_err-write_lead-clause-fails g c =
    let (fault, takes, is) = c.in_err-write_lead.ensures.fails in
    let m = made-of _ _ _ _ c.in_ok-made.ensures.made in
    passed-on c.from_residual-in_err-write_lead.result c.in_err-write_lead.field-0.0
    (λ e. FailsSimplified g.W.ProofTarget.taken (record c.args.options { max_steps = c.args.max_steps.now }) c.args.target.now c.args.formula e) c.from_residual-in_err-write_lead.ensures
    (AsLed m fault c.write_lead.new.target takes is)

pub decide_formula-requires-clause-low : goal.decide_formula-requires-clause-low
decide_formula-requires-clause-low g c = made-low _ _ _ _ c.in_ok-made.ensures.made c.requires.low

pub returns-in_err-report-clause-fails : goal.returns-in_err-report-clause-fails
returns-in_err-report-clause-fails g c =
    let m = made-of _ _ _ _ c.in_ok-made.ensures.made in
    passed-on c.from_residual-in_err-report.result c.in_err-report.field-0.0
    (λ e. FailsSimplified g.W.ProofTarget.taken (record c.args.options { max_steps = c.decide_formula.new.max_steps }) c.args.target.now c.args.formula e) c.from_residual-in_err-report.ensures
    (AsDecided m c.write_lead.new.target c.in_ok-write_lead.ensures.led c.in_err-report.ensures.fails)

pub returns-in_err-report-2-clause-fails : goal.returns-in_err-report-2-clause-fails
returns-in_err-report-2-clause-fails g c =
    let taken = g.W.ProofTarget.taken in
    let (memory, (model, is)) = c.in_err-report-2.ensures.memory in
    passed-on c.from_residual-in_err-report-2.result c.in_err-report-2.field-0.0
    (λ e. FailsSimplified taken (record c.args.options { max_steps = c.decide_formula.new.max_steps }) c.args.target.now c.args.formula e) c.from_residual-in_err-report-2.ensures
    (extended-fails taken (record c.args.options { max_steps = c.decide_formula.new.max_steps }) c.args.formula _ _ _ (concluded c.in_ok-report.report) model c.args.target.now c.write_lead.new.target
    c.in_err-report-2.field-0.0 c.in_ok-made.ensures.made c.in_ok-write_lead.ensures.led c.in_ok-report.ensures.searched is memory)

pub returns-clause-decided : goal.returns-clause-decided
returns-clause-decided g c =
    concluded-made g.W.ProofTarget.taken c.args.options.format (allowed_steps c.decide_formula.new.max_steps) c.args.formula _ _ _ c.named_count-count.result
    (concluded c.in_ok-report.report) (concluded c.in_ok-report-2.report) c.args.target.now c.write_lead.new.target c.decide_formula.new.target
    c.requires.plain c.requires.low c.in_ok-made.ensures.made c.named_count-count.ensures.count c.in_ok-report-2.ensures.extended
    c.in_ok-write_lead.ensures.led c.in_ok-report.ensures.decided

pub returns-clause-searched : goal.returns-clause-searched
returns-clause-searched g c =
    let m = made-of _ _ _ _ c.in_ok-made.ensures.made in
    record {
      made = m;
      led = c.write_lead.new.target;
      takes = c.in_ok-write_lead.ensures.led;
      inner = concluded c.in_ok-report.report;
      searches = c.in_ok-report.ensures.searched;
      extended = c.in_ok-report-2.ensures.extended
          ∙ ap (λ n. conclusion_of_all m.stack n (concluded c.in_ok-report.report)) c.named_count-count.ensures.count;
    }
