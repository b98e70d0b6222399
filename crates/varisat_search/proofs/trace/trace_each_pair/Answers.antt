use Rattle.varisat_steps.proofs.Broken.{lines-broken, breaks-on}
use Rattle.std.proofs.Common.{◌≡◌, ◌<◌, ℕ, List, [], length, get_or, sym, ap, ◌∙◌, subst, arith}
use Rattle.varisat_theory.specs.promises.Literals.{Literal, opposite}
use Rattle.varisat_theory.specs.promises.Derivations.{Line}
use Rattle.varisat_prop.specs.View.{pairs_with, pairs_from}
use Rattle.varisat_steps.specs.Traces.{TakesLines, CanTake}
use Rattle.varisat_steps.proofs.TracedLists.{traces-none, traces-able, traces-next, traces-all}
use Rattle.varisat_search.specs.Simplifications.{lines_of_pairs}
use Rattle.varisat_search.proofs.simplifying.TracedClauses.{list_lines, numbered, numbered-at, numbered-count, each-list}
use Rattle.varisat_search.proofs.trace.trace_each_pair.Given.{Over}
use Rattle.varisat_search.proofs.trace.trace_each_pair.Goals.{After-implied}
use Rattle.varisat_search.proofs.trace.trace_each_pair.Goals as goal

-- the literal with what it implies
abbrev here : (g : Over) (c : After-implied g) → ℕ × List Literal
here g c = (c.lits.code, get_or c.args.binary_clauses.now c.lits.code [])

inside : (g : Over) (c : After-implied g) → c.lits.code < length (numbered c.args.values.now 0 c.args.binary_clauses.now)
inside g c = let n = numbered-count c.args.values.now 0 c.args.binary_clauses.now in omega (arith, n, c.lits-test.true, c.len-code-end.ensures)

is-here : (g : Over) (c : After-implied g) → here g c ≡ get_or (numbered c.args.values.now 0 c.args.binary_clauses.now) c.lits.code (here g c)
is-here g c = sym (numbered-at c.args.values.now c.args.binary_clauses.now c.lits.code (here g c) (omega (arith, c.lits-test.true, c.len-code-end.ensures)))

-- its lines
lines-are : (g : Over) (c : After-implied g) → list_lines c.args.values.now (here g c) ≡ lines_of_pairs c.args.values.now
    (pairs_with c.not.result c.implied.result.now)
lines-are g c =
    ap (λ x. lines_of_pairs c.args.values.now (pairs_with x (get_or c.args.binary_clauses.now c.lits.code [])))
    (ap opposite (sym c.from_code-lit.ensures) ∙ sym c.not.ensures)
    ∙ ap (λ (ms : List Literal). lines_of_pairs c.args.values.now (pairs_with c.not.result ms))
    (ap (λ (l : Literal). get_or c.args.binary_clauses.now l []) (sym c.from_code-lit.ensures) ∙ sym c.implied.ensures)

pub lits-init : goal.lits-init
lits-init g c =
    let m = g.met.P.ProofTracer in
    traces-none g.P.ProofTracer.holds g.P.ProofTracer.takes m.takes_none m.takes_more m.holds_after (list_lines c.args.values.now)
    (numbered c.args.values.now 0 c.args.binary_clauses.now) c.args.proof.now
    (subst (λ (ls : List Line). CanTake (g.P.ProofTracer.holds c.args.proof.now) ls) (each-list c.args.values.now 0 c.args.binary_clauses.now) c.requires.able)

pub trace_pairs_with-requires : goal.trace_pairs_with-requires
trace_pairs_with-requires g c =
    let m = g.met.P.ProofTracer in
    let h = (goal.at.trace_pairs_with-requires g c).After-implied in
    subst (λ (ls : List Line). CanTake (g.P.ProofTracer.holds c.lits.proof) ls) (lines-are g h)
    (traces-able g.P.ProofTracer.holds g.P.ProofTracer.takes m.takes_none m.takes_more m.holds_after (list_lines c.args.values.now)
    (numbered c.args.values.now 0 c.args.binary_clauses.now) c.lits.code c.args.proof.now c.lits.proof (here g h) (inside g h)
    (is-here g h) c.lits.invariant)

pub lits-preserved : goal.lits-preserved
lits-preserved g c =
    let m = g.met.P.ProofTracer in
    let h = (goal.at.lits-preserved g c).After-implied in
    traces-next g.P.ProofTracer.holds g.P.ProofTracer.takes m.takes_none m.takes_more m.holds_after (list_lines c.args.values.now)
    (numbered c.args.values.now 0 c.args.binary_clauses.now) c.lits.code c.args.proof.now c.lits.proof c.trace_pairs_with.new.proof (here g h)
    (inside g h) (is-here g h) c.lits.invariant
    (subst (λ (ls : List Line). TakesLines g.P.ProofTracer.takes c.lits.proof ls c.trace_pairs_with.new.proof) (sym (lines-are g h))
    (c.in_ok-trace_pairs_with.ensures {u = tt}))

pub returns : goal.returns
returns g c =
    let m = g.met.P.ProofTracer in
    let n = numbered-count c.args.values.now 0 c.args.binary_clauses.now in
    subst (λ (ls : List Line). TakesLines g.P.ProofTracer.takes c.args.proof.now ls c.lits.proof)
    (sym (each-list c.args.values.now 0 c.args.binary_clauses.now))
    (traces-all g.P.ProofTracer.holds g.P.ProofTracer.takes m.takes_none m.takes_more m.holds_after (list_lines c.args.values.now)
    (numbered c.args.values.now 0 c.args.binary_clauses.now) c.lits.code c.args.proof.now c.lits.proof
    (omega (arith, n, c.lits-test.false, c.len-code-end.ensures)) c.lits.invariant)

pub returns-in_err-trace_pairs_with : goal.returns-in_err-trace_pairs_with
returns-in_err-trace_pairs_with g c =
    lines-broken g.P.ProofTracer.takes g.P.ProofTracer.breaks_off c.args.proof.now c.trace_pairs_with.new.proof
    (lines_of_pairs c.args.values.now (pairs_from 0 c.args.binary_clauses.now)) c.from_residual.result c.in_err-trace_pairs_with.field-0.0
    c.from_residual.ensures
    (breaks-on g.P.ProofTracer.takes g.P.ProofTracer.breaks_off g.met.P.ProofTracer.breaks_behind c.lits.invariant.done
    (c.in_err-trace_pairs_with.ensures {u = tt}))
