use Rattle.varisat_clause.specs.Collected.{live_clauses}
use Rattle.varisat_steps.proofs.Broken.{lines-broken, breaks-on}
use Rattle.std.proofs.Common.{◌≡◌, ◌<◌, cond, List, [], length, get_or, sym, ap, ◌∙◌, subst, arith}
use Rattle.varisat_theory.specs.promises.Membership.{◌∈◌}
use Rattle.varisat_theory.specs.promises.Literals.{Clause}
use Rattle.varisat_theory.specs.promises.Derivations.{Line}
use Rattle.varisat_clause.specs.Headers.{Header}
use Rattle.varisat_clause.specs.Stored.{StoredClause, stored_at}
use Rattle.varisat_clause.specs.Stores.{stored_clauses}
use Rattle.varisat_clause.proofs.CollectedClauses.{length-places}
use Rattle.varisat_clause.proofs.StoredClauses.{stored-∈}
use Rattle.varisat_steps.specs.Traces.{TakesLines, CanTake}
use Rattle.varisat_steps.proofs.TracedLists.{traces-none, traces-able, traces-next, traces-over, traces-all}
use Rattle.varisat_search.specs.Simplifications.{lines_of_clause, lines_of_clauses}
use Rattle.varisat_search.proofs.simplifying.TracedClauses.{stored_lines, each-clause, place-read, live-literals-∈}
use Rattle.varisat_search.proofs.trace.trace_clauses.Given.{Over}
use Rattle.varisat_search.proofs.trace.trace_clauses.Goals.{After-deleted}
use Rattle.varisat_search.proofs.trace.trace_clauses.Goals as goal

-- the clause that the loop is at
abbrev at : (g : Over) (c : After-deleted g) → StoredClause
at g c = stored_at (stored_clauses c.args.clause_alloc.now) c.place-cref.result

read : (g : Over) (c : After-deleted g) → (c.clauses.index < length (stored_clauses c.args.clause_alloc.now))
    × (at g c ≡ get_or (stored_clauses c.args.clause_alloc.now) c.clauses.index (at g c))
read g c = place-read c.args.clause_alloc.now c.clauses.index c.place-cref.result
    (omega (arith, c.clauses-test.true, c.len-index-end.ensures.places)) c.place-cref.ensures.place

-- whether it is deleted
flag : (g : Over) (c : After-deleted g) → c.deleted.result ≡ (at g c).header.deleted
flag g c = c.deleted.ensures ∙ ap (λ (h : Header). h.deleted) c.header.ensures

pub clauses-init : goal.clauses-init
clauses-init g c =
    let m = g.met.P.ProofTracer in
    traces-none g.P.ProofTracer.holds g.P.ProofTracer.takes m.takes_none m.takes_more m.holds_after (stored_lines c.args.assignment.now.current)
    (stored_clauses c.args.clause_alloc.now) c.args.proof.now
    (subst (λ (ls : List Line). CanTake (g.P.ProofTracer.holds c.args.proof.now) ls)
    (each-clause c.args.assignment.now.current (stored_clauses c.args.clause_alloc.now)) c.requires.able)

pub clauses-preserved-then-deleted : goal.clauses-preserved-then-deleted
clauses-preserved-then-deleted g c =
    let m = g.met.P.ProofTracer in
    let h = (goal.at.clauses-preserved-then-deleted g c).After-deleted in
    let k = at g h in
    let none = ap (λ b. cond b [] (lines_of_clause c.args.assignment.now.current k.literals)) (sym (flag g h) ∙ c.if-deleted.true) in
    traces-over g.P.ProofTracer.holds g.P.ProofTracer.takes m.takes_none m.takes_more m.holds_after (stored_lines c.args.assignment.now.current)
    (stored_clauses c.args.clause_alloc.now) c.clauses.index c.args.proof.now c.clauses.proof k (read g h).0 (read g h).1 c.clauses.invariant none

pub trace_clause-requires-clause-in_range : goal.trace_clause-requires-clause-in_range
trace_clause-requires-clause-in_range g c l i =
    let h = (goal.at.trace_clause-requires-clause-in_range g c).After-deleted in
    let k = at g h in
    c.requires.in_range k.literals (live-literals-∈ (stored_clauses c.args.clause_alloc.now) k
    (stored-∈ (stored_clauses c.args.clause_alloc.now) c.place-cref.result c.place-cref.ensures.known) (sym (flag g h) ∙ c.if-deleted.false)) l
    (subst (λ (d : Clause). l ∈ d) c.lits.ensures i)

pub trace_clause-requires-clause-able : goal.trace_clause-requires-clause-able
trace_clause-requires-clause-able g c =
    let m = g.met.P.ProofTracer in
    let h = (goal.at.trace_clause-requires-clause-able g c).After-deleted in
    let k = at g h in
    let one : stored_lines c.args.assignment.now.current k ≡ lines_of_clause c.args.assignment.now.current c.lits.result.now =
    ap (λ b. cond b [] (lines_of_clause c.args.assignment.now.current k.literals)) (sym (flag g h) ∙ c.if-deleted.false)
    ∙ ap (lines_of_clause c.args.assignment.now.current) (sym c.lits.ensures) in
    subst (λ (ls : List Line). CanTake (g.P.ProofTracer.holds c.clauses.proof) ls) one
    (traces-able g.P.ProofTracer.holds g.P.ProofTracer.takes m.takes_none m.takes_more m.holds_after (stored_lines c.args.assignment.now.current)
    (stored_clauses c.args.clause_alloc.now) c.clauses.index c.args.proof.now c.clauses.proof k (read g h).0 (read g h).1 c.clauses.invariant)

pub clauses-preserved : goal.clauses-preserved
clauses-preserved g c =
    let m = g.met.P.ProofTracer in
    let h = (goal.at.clauses-preserved g c).After-deleted in
    let k = at g h in
    let one : stored_lines c.args.assignment.now.current k ≡ lines_of_clause c.args.assignment.now.current c.lits.result.now =
    ap (λ b. cond b [] (lines_of_clause c.args.assignment.now.current k.literals)) (sym (flag g h) ∙ c.if-deleted.false)
    ∙ ap (lines_of_clause c.args.assignment.now.current) (sym c.lits.ensures) in
    traces-next g.P.ProofTracer.holds g.P.ProofTracer.takes m.takes_none m.takes_more m.holds_after (stored_lines c.args.assignment.now.current)
    (stored_clauses c.args.clause_alloc.now) c.clauses.index c.args.proof.now c.clauses.proof c.trace_clause.new.proof k (read g h).0
    (read g h).1 c.clauses.invariant
    (subst (λ (ls : List Line). TakesLines g.P.ProofTracer.takes c.clauses.proof ls c.trace_clause.new.proof) (sym one) (c.in_ok-trace_clause.ensures {u = tt}))

pub returns : goal.returns
returns g c =
    let m = g.met.P.ProofTracer in
    let n = length-places c.args.clause_alloc.now.words c.args.clause_alloc.now.places in
    subst (λ (ls : List Line). TakesLines g.P.ProofTracer.takes c.args.proof.now ls c.clauses.proof)
    (sym (each-clause c.args.assignment.now.current (stored_clauses c.args.clause_alloc.now)))
    (traces-all g.P.ProofTracer.holds g.P.ProofTracer.takes m.takes_none m.takes_more m.holds_after (stored_lines c.args.assignment.now.current)
    (stored_clauses c.args.clause_alloc.now) c.clauses.index c.args.proof.now c.clauses.proof
    (omega (arith, n, c.clauses-test.false, c.len-index-end.ensures.places)) c.clauses.invariant)

pub returns-in_err-trace_clause : goal.returns-in_err-trace_clause
returns-in_err-trace_clause g c =
    lines-broken g.P.ProofTracer.takes g.P.ProofTracer.breaks_off c.args.proof.now c.trace_clause.new.proof
    (lines_of_clauses c.args.assignment.now.current (live_clauses c.args.clause_alloc.now)) c.from_residual.result
    c.in_err-trace_clause.field-0.0 c.from_residual.ensures
    (breaks-on g.P.ProofTracer.takes g.P.ProofTracer.breaks_off g.met.P.ProofTracer.breaks_behind c.clauses.invariant.done
    (c.in_err-trace_clause.ensures {u = tt}))
