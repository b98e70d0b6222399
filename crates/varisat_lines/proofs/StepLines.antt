-- The lines of a solver's steps, as entries and as lines of a proof.
use Rattle.std.proofs.Common.{◌≡◌, true, false, List, [], ◌∷◌, ◌++◌, refl, sym, ap, subst, Result}
use Rattle.varisat_theory.specs.promises.Literals.{Literal}
use Rattle.varisat_theory.specs.inside.StepLaws.{unit_lines}
use Rattle.varisat_theory.specs.promises.Derivations.{Add}
use Rattle.varisat_formula.specs.promises.Streams.{Taken}
use Rattle.varisat_theory.specs.promises.Journals.{written}
use Rattle.varisat_steps.specs.Traces.{entries_of}
use Rattle.varisat_steps.specs.declared.step.ProofStep.{ProofStep}
use Rattle.varisat_steps.specs.declared.step.ProofStep.TheVariants.{AtClause, UnitClauses, DeleteClause, DeleteVar, FailedAssumptions}
use Rattle.varisat_lines.specs.declared.format.Encoding.{Encoding}
use Rattle.varisat_lines.specs.declared.format.Encoding.TheVariants.{Text, Binary}
use Rattle.varisat_lines.specs.declared.format.LineKind.TheVariants as kinds
use Rattle.varisat_lines.specs.declared.writer.WriteError.{WriteError}
use Rattle.varisat_lines.specs.promises.Lines.{ProofLine, line_of_kind, has_kind, plain_line, plain_lines}
use Rattle.varisat_lines.specs.promises.Steps.{step_lines, PutsLines}
use Rattle.varisat_lines.specs.promises.Logging.{marked_line, logged_lines}

units-logged : (e : Encoding) (ls : List Literal) → plain_lines (unit_lines ls) ≡ logged_lines e (written (unit_lines ls))
units-logged e [] = refl
units-logged e (l ∷ ls) = ap (λ xs. plain_line (Add (l ∷ [])) ∷ xs) (units-logged e ls)

pub puts-units : (e : Encoding) (old new : Taken) (r : Result (Unit {0}) WriteError) (ls : List Literal) (step : ProofStep) →
    entries_of step ≡ written (unit_lines ls) → PutsLines e old r (plain_lines (unit_lines ls)) new →
    PutsLines e old r (logged_lines e (entries_of step)) new
puts-units e old new r ls step is h = subst (λ xs. PutsLines e old r (logged_lines e xs) new) (sym is)
    (subst (λ xs. PutsLines e old r xs new) (units-logged e ls) h)

-- Where there are no marked lines a step has just those of `step_lines`.
no_mark : (e : Encoding) → has_kind e kinds.Fails ≡ false → (line : ProofLine) → marked_line e line ++ [] ≡ []
no_mark (Text true) h line = absurd cc
no_mark (Text false) h line = refl
no_mark Binary h line = refl

step_told : (e : Encoding) → has_kind e kinds.Fails ≡ false → (step : ProofStep) → logged_lines e (entries_of step) ≡ plain_lines (step_lines step)
step_told e h (AtClause c) = refl
step_told e h (UnitClauses units) = sym (units-logged e units.now)
step_told e h (DeleteClause c) = refl
step_told e h (DeleteVar v) = refl
step_told e h (FailedAssumptions core) = no_mark e h (line_of_kind kinds.Fails core.now)

pub puts-step : (e : Encoding) → has_kind e kinds.Fails ≡ false → (old new : Taken) (r : Result (Unit {0}) WriteError) (step : ProofStep) →
    PutsLines e old r (logged_lines e (entries_of step)) new → PutsLines e old r (plain_lines (step_lines step)) new
puts-step e h old new r step w = subst (λ ls. PutsLines e old r ls new) (step_told e h step) w
