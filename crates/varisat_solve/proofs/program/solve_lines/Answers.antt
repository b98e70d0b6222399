-- The status is that of the outcome, or is that of a fault.
use Rattle.std.proofs.Common.{inl, inr, refl, ap, sym}
use Rattle.varisat_solve.specs.declared.options.ProgramOptions.{ProgramOptions}
use Rattle.varisat.specs.promises.Decided.{concluded, conclusion_status}
use Rattle.varisat_proof.proofs.PrintedTexts.{ends-printed}
use Rattle.varisat.proofs.ProgramDecides.{outcome-is-true}
use Rattle.varisat_solve.specs.promises.Solving.{shown_text}
use Rattle.varisat_solve.proofs.program.solve_lines.Goals as goal

pub returns-in-Ok-print_shown-clause-truth : goal.returns-in-Ok-print_shown-clause-truth
returns-in-Ok-print_shown-clause-truth g c = outcome-is-true _ _ _ _ _ c.in-Ok.ensures.decided.decides c.status_of.ensures

pub returns-in-Ok-print_shown-clause-outcome : goal.returns-in-Ok-print_shown-clause-outcome
returns-in-Ok-print_shown-clause-outcome g c =
    let found = concluded c.in-Ok.report in
    let kept = c.decide.new.options in
    let same = sym (ap (λ (o : ProgramOptions). shown_text o.model_lines found) c.in-Ok.ensures.kept.others) in (
      kept,
      c.in-Ok.ensures.kept,
      inr (
        found,
        c.in-Ok.ensures.decided,
        c.in-Ok.ensures.searched,
        ends-printed (conclusion_status found) (shown_text kept.model_lines found) (shown_text c.args.options.model_lines found) _ _ _ same
            c.status_of.ensures c.in-Ok-print_shown.ensures,
      ),
    )

pub returns-clause-outcome : goal.returns-clause-outcome
returns-clause-outcome g c =
    (c.decide.new.options, c.in-Err.ensures.kept, inl (c.in-Err.refusal, c.in-Err.ensures.fails, c.print_refusal.ensures, refl))
