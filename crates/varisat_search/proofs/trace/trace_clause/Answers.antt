use Rattle.varisat_steps.proofs.Broken.{lines-broken, breaks-in, breaks-not}
use Rattle.varisat_steps.specs.declared.tracer.TraceError.TheVariants.{Memory}
use Rattle.std.proofs.Common.{◌≡◌, ◌<◌, false, List, [], ◌∷◌, length, refl, sym, ap, ◌∙◌, subst, arith}
use Rattle.varisat_theory.specs.promises.Literals.{Clause}
use Rattle.varisat_theory.specs.promises.Derivations.{Line, Add, Delete}
use Rattle.varisat_steps.specs.Traces.{TakesLines, CanTake}
use Rattle.varisat_search.specs.Simplifications.{has_true, lines_of_clause}
use Rattle.varisat_search.proofs.simplifying.FilteredUnits.{satisfied-read, unsatisfied-read}
use Rattle.varisat_search.proofs.simplifying.TracedClauses.{lines-satisfied, lines-shorter, lines-same}
use Rattle.varisat_search.proofs.trace.trace_clause.Given.{Over}
use Rattle.varisat_search.proofs.trace.trace_clause.Goals.{After-len}
use Rattle.varisat_search.proofs.trace.trace_clause.Goals as goal

abbrev lines : (g : Over) (c : After-len g) → List Line
lines g c = lines_of_clause c.args.assignment.now.current c.args.lits.now

none-true : (g : Over) (c : After-len g) → has_true c.args.assignment.now.current c.args.lits.now ≡ false
none-true g c = unsatisfied-read c.args.assignment.now.current c.args.lits.now c.args.lits.now refl (λ h. let b = c.if-is_satisfied.ensures.1 h in cc)

-- two lines, where literals go
two : (g : Over) (c : After-len g) → c.len.result < length c.args.lits.now → lines g c ≡ Add c.copy_unassigned.new.left.items ∷ Delete c.args.lits.now ∷ []
two g c h =
    let e = c.in_ok-copy_unassigned.ensures {u = tt} in
    let n = ap (λ (d : Clause). length d) e in
    lines-shorter c.args.assignment.now.current c.args.lits.now (none-true g c) (omega (arith, h, n, c.copy_unassigned.new.left.ok.0))
    ∙ ap (λ d. Add d ∷ Delete c.args.lits.now ∷ []) (sym e)

pub add_step-requires : goal.add_step-requires
add_step-requires g c =
    let e = lines-satisfied c.args.assignment.now.current c.args.lits.now
    (satisfied-read c.args.assignment.now.current c.args.lits.now c.args.lits.now refl (c.if-is_satisfied.ensures.0 refl)) in
    subst (λ (ls : List Line). CanTake (g.P.ProofTracer.holds c.args.proof.now) ls) e c.requires.able

pub returns-then-is_satisfied : goal.returns-then-is_satisfied
returns-then-is_satisfied g c =
    let e = lines-satisfied c.args.assignment.now.current c.args.lits.now
    (satisfied-read c.args.assignment.now.current c.args.lits.now c.args.lits.now refl (c.if-is_satisfied.ensures.0 refl)) in
    subst (λ (ls : List Line). TakesLines g.P.ProofTracer.takes c.args.proof.now ls c.add_step.new.self) (sym e) (c.in_ok-add_step.ensures {u = tt})

pub trace_replaced-requires : goal.trace_replaced-requires
trace_replaced-requires g c =
    let here = (goal.at.trace_replaced-requires g c).After-len in
    let whole : lines g here ≡ Add c.deref.result.now ∷ Delete c.args.lits.now ∷ [] = two g here c.if-len-lits.true
    ∙ ap (λ (d : Clause). Add d ∷ Delete c.args.lits.now ∷ []) (sym c.deref.ensures.value) in
    subst (λ (ls : List Line). CanTake (g.P.ProofTracer.holds c.args.proof.now) ls) whole c.requires.able

pub returns-in_ok-trace_replaced : goal.returns-in_ok-trace_replaced
returns-in_ok-trace_replaced g c =
    let here = (goal.at.returns-in_ok-trace_replaced g c).After-len in
    let whole : lines g here ≡ Add c.deref.result.now ∷ Delete c.args.lits.now ∷ [] = two g here c.if-len-lits.true
    ∙ ap (λ (d : Clause). Add d ∷ Delete c.args.lits.now ∷ []) (sym c.deref.ensures.value) in
    subst (λ (ls : List Line). TakesLines g.P.ProofTracer.takes c.args.proof.now ls c.trace_replaced.new.proof) (sym whole)
    (c.in_ok-trace_replaced.ensures {u = tt})

pub returns-else-len-lits : goal.returns-else-len-lits
returns-else-len-lits g c =
    let here = (goal.at.returns-else-len-lits g c).After-len in
    let n = ap (λ (d : Clause). length d) (c.in_ok-copy_unassigned.ensures {u = tt}) in
    let e = lines-same c.args.assignment.now.current c.args.lits.now (none-true g here)
    (omega (arith, n, c.if-len-lits.false, c.copy_unassigned.new.left.ok.0)) in
    subst (λ (ls : List Line). TakesLines g.P.ProofTracer.takes c.args.proof.now ls c.args.proof.now) (sym e) (g.met.P.ProofTracer.takes_none c.args.proof.now)

pub returns-in_err-add_step : goal.returns-in_err-add_step
returns-in_err-add_step g c =
    lines-broken g.P.ProofTracer.takes g.P.ProofTracer.breaks_off c.args.proof.now c.add_step.new.self
    (lines_of_clause c.args.assignment.now.current c.args.lits.now) c.from_residual.result c.in_err-add_step.field-0.0 c.from_residual.ensures
    (breaks-in g.P.ProofTracer.breaks_off (c.in_err-add_step.ensures {u = tt}))

pub returns-in_err-copy_unassigned : goal.returns-in_err-copy_unassigned
returns-in_err-copy_unassigned g c =
    lines-broken g.P.ProofTracer.takes g.P.ProofTracer.breaks_off c.args.proof.now c.args.proof.now
    (lines_of_clause c.args.assignment.now.current c.args.lits.now) c.from_residual-in_err-copy_unassigned.result Memory
    c.from_residual-in_err-copy_unassigned.ensures
    (breaks-not g.P.ProofTracer.breaks_off g.met.P.ProofTracer.breaks_none c.args.proof.now)

pub returns-in_err-trace_replaced : goal.returns-in_err-trace_replaced
returns-in_err-trace_replaced g c =
    lines-broken g.P.ProofTracer.takes g.P.ProofTracer.breaks_off c.args.proof.now c.trace_replaced.new.proof
    (lines_of_clause c.args.assignment.now.current c.args.lits.now) c.from_residual-in_err-trace_replaced.result c.in_err-trace_replaced.field-0.0
    c.from_residual-in_err-trace_replaced.ensures
    (c.in_err-trace_replaced.ensures {u = tt})
