use Rattle.std.proofs.Common.{◌≡◌, ◌≢◌, ℕ, zero, suc, ◌+◌, ◌-◌, ◌<◌, true, false, cond, List, [], ◌∷◌, drop, length, get_or, refl, sym, ap, ◌∙◌, arith, ◌++◌}
use Rattle.varisat_clause.specs.Stored.{StoredClause, header_at}
use Rattle.varisat_clause.specs.Reductions.{unmarked_places}
use Rattle.varisat_clause.proofs.LocalReduction.{drop-place, element, unmarked-none}
use Rattle.std.proofs.lemmas.Grind.{common_steps}
use Rattle.varisat_steps.proofs.Broken.{lines-broken, breaks-on, breaks-in}
use Rattle.varisat_theory.specs.promises.Literals.{Clause}
use Rattle.varisat_theory.specs.promises.Derivations.{Line, Delete}
use Rattle.varisat_clause.specs.Headers.{Header}
use Rattle.varisat_clause.specs.Stores.{stored_clauses}
use Rattle.varisat_prop.proofs.views.ReadElements.{item-∈}
use Rattle.varisat_steps.proofs.TracedParts.{TracesPart, part-same, part-able, part-next}
use Rattle.varisat_search.specs.Deletions.{deletion_lines, unmarked_deletions}
use Rattle.varisat_search.proofs.trace.trace_deletions.Given.{Over}
use Rattle.varisat_search.proofs.trace.trace_deletions.Goals.{After-lits}
use Rattle.varisat_search.proofs.trace.trace_deletions.Goals as goal

unmarked-zero : (ks : List StoredClause) (left : ℕ) (ps qs : List ℕ) → left ≡ 0 → unmarked_places ks left ps ≡ unmarked_places ks left qs
unmarked-zero ks zero ps qs e = unmarked-none ks ps ∙ sym (unmarked-none ks qs)
unmarked-zero ks (suc n) ps qs e = absurd (omega (arith, e))

passed : (ks : List StoredClause) (left p : ℕ) (ps : List ℕ) → (header_at ks p).mark ≡ true → unmarked_places ks left (p ∷ ps) ≡ unmarked_places ks left ps
passed ks zero p ps e = sym (unmarked-none ks ps)
passed ks (suc n) p ps e = ap (λ b. cond b (unmarked_places ks (suc n) ps) (p ∷ unmarked_places ks n ps)) e

one : (ks : List StoredClause) (left p : ℕ) (ps : List ℕ) → left ≢ 0 → (header_at ks p).mark ≡ false →
    unmarked_places ks left (p ∷ ps) ≡ p ∷ unmarked_places ks (left - 1) ps
one ks zero p ps n e = absurd (n refl)
one ks (suc m) p ps n e =
    let less : m ≡ suc m - 1 = omega arith in
    ap (λ b. cond b (unmarked_places ks (suc m) ps) (p ∷ unmarked_places ks m ps)) e ∙ ap (λ (k : ℕ). p ∷ unmarked_places ks k ps) less

module _ (ks : List StoredClause) (ps : List ℕ) (i p left : ℕ) (inside : i < length ps) (is : p ≡ get_or ps i p) where
  next : drop i ps ≡ p ∷ drop (i + 1) ps
  next = drop-place ps i p inside (element ps i p inside is)

  unmarked-passed : (header_at ks p).mark ≡ true → unmarked_places ks left (drop i ps) ≡ unmarked_places ks left (drop (i + 1) ps)
  unmarked-passed e = ap (unmarked_places ks left) next ∙ passed ks left p (drop (i + 1) ps) e

  unmarked-one : left ≢ 0 → (header_at ks p).mark ≡ false → unmarked_places ks left (drop i ps) ≡ p ∷ unmarked_places ks (left - 1) (drop (i + 1) ps)
  unmarked-one n e = ap (unmarked_places ks left) next ∙ one ks left p (drop (i + 1) ps) n e

pub clauses-preserved-then-left-eq0 : goal.clauses-preserved-then-left-eq0
clauses-preserved-then-left-eq0 g c =
    let m = g.met.P.ProofTracer in
    let ks = stored_clauses c.args.clause_alloc.now in
    let e = unmarked-zero ks c.clauses.left (drop c.clauses.cref-index c.args.list.now) (drop (c.clauses.cref-index + 1) c.args.list.now) c.if-left-eq0.true in
    part-same g.P.ProofTracer.holds g.P.ProofTracer.takes m.takes_none m.takes_more m.holds_after
    (deletion_lines ks (unmarked_places ks c.args.count c.args.list.now))
    (deletion_lines ks (unmarked_places ks c.clauses.left (drop c.clauses.cref-index c.args.list.now)))
    (deletion_lines ks (unmarked_places ks c.clauses.left (drop (c.clauses.cref-index + 1) c.args.list.now))) c.args.proof.now
    c.clauses.proof (ap (deletion_lines ks) e) c.clauses.invariant

pub header-requires-clause-place : goal.header-requires-clause-place
header-requires-clause-place g c = c.requires.listed c.cref-item.result
    (item-∈ c.args.list.now c.clauses.cref-index c.cref-item.result c.clauses-test.true c.cref-item.is)

pub lits-requires-clause-place : goal.lits-requires-clause-place
lits-requires-clause-place g c = c.requires.listed c.cref-item.result
    (item-∈ c.args.list.now c.clauses.cref-index c.cref-item.result c.clauses-test.true c.cref-item.is)

pub clauses-preserved-then-mark : goal.clauses-preserved-then-mark
clauses-preserved-then-mark g c =
    let m = g.met.P.ProofTracer in
    let ks = stored_clauses c.args.clause_alloc.now in
    let marked : (header_at ks c.cref-item.result).mark ≡ true = ap (λ (h : Header). h.mark) (sym c.header.ensures) ∙ sym c.mark.ensures ∙ c.if-mark.true in
    let e = unmarked-passed ks c.args.list.now c.clauses.cref-index c.cref-item.result c.clauses.left c.clauses-test.true c.cref-item.is marked in
    part-same g.P.ProofTracer.holds g.P.ProofTracer.takes m.takes_none m.takes_more m.holds_after
    (deletion_lines ks (unmarked_places ks c.args.count c.args.list.now))
    (deletion_lines ks (unmarked_places ks c.clauses.left (drop c.clauses.cref-index c.args.list.now)))
    (deletion_lines ks (unmarked_places ks c.clauses.left (drop (c.clauses.cref-index + 1) c.args.list.now))) c.args.proof.now
    c.clauses.proof (ap (deletion_lines ks) e) c.clauses.invariant

-- the next line, and those behind it
abbrev more : (g : Over) (c : After-lits g) → List Line
more g c = deletion_lines (stored_clauses c.args.clause_alloc.now)
    (unmarked_places (stored_clauses c.args.clause_alloc.now) (c.clauses.left - 1) (drop (c.clauses.cref-index + 1) c.args.list.now))

at-next : (g : Over) (c : After-lits g) → TracesPart g.P.ProofTracer.holds g.P.ProofTracer.takes
    (deletion_lines (stored_clauses c.args.clause_alloc.now)
    (unmarked_places (stored_clauses c.args.clause_alloc.now) c.args.count c.args.list.now))
    ((Delete c.lits.result.now ∷ []) ++ more g c) c.args.proof.now c.clauses.proof
at-next g c =
    let m = g.met.P.ProofTracer in
    let ks = stored_clauses c.args.clause_alloc.now in
    let free : (header_at ks c.cref-item.result).mark ≡ false = ap (λ (h : Header). h.mark) (sym c.header.ensures) ∙ sym c.mark.ensures ∙ c.if-mark.false in
    let e = unmarked-one ks c.args.list.now c.clauses.cref-index c.cref-item.result c.clauses.left c.clauses-test.true c.cref-item.is
    c.if-left-eq0.false free in
    part-same g.P.ProofTracer.holds g.P.ProofTracer.takes m.takes_none m.takes_more m.holds_after
    (deletion_lines ks (unmarked_places ks c.args.count c.args.list.now))
    (deletion_lines ks (unmarked_places ks c.clauses.left (drop c.clauses.cref-index c.args.list.now)))
    ((Delete c.lits.result.now ∷ []) ++ more g c) c.args.proof.now c.clauses.proof
    (ap (deletion_lines ks) e ∙ ap (λ (d : Clause). Delete d ∷ more g c) (sym c.lits.ensures)) c.clauses.invariant

pub add_step-requires : goal.add_step-requires
add_step-requires g c =
    let m = g.met.P.ProofTracer in
    let ks = stored_clauses c.args.clause_alloc.now in
    let h = (goal.at.add_step-requires g c).After-lits in
    part-able g.P.ProofTracer.holds g.P.ProofTracer.takes m.takes_none m.takes_more m.holds_after
    (deletion_lines ks (unmarked_places ks c.args.count c.args.list.now)) (Delete c.lits.result.now ∷ [])
    (more g h) c.args.proof.now c.clauses.proof (at-next g h)

pub clauses-preserved : goal.clauses-preserved
clauses-preserved g c =
    let m = g.met.P.ProofTracer in
    let ks = stored_clauses c.args.clause_alloc.now in
    let h = (goal.at.clauses-preserved g c).After-lits in
    part-next g.P.ProofTracer.holds g.P.ProofTracer.takes m.takes_none m.takes_more m.holds_after
    (deletion_lines ks (unmarked_places ks c.args.count c.args.list.now)) (Delete c.lits.result.now ∷ [])
    (more g h) c.args.proof.now c.clauses.proof c.add_step.new.self (at-next g h) (c.in_ok-add_step.ensures {u = tt})

pub returns-in_err-add_step : goal.returns-in_err-add_step
returns-in_err-add_step g c =
    lines-broken g.P.ProofTracer.takes g.P.ProofTracer.breaks_off c.args.proof.now c.add_step.new.self
    (unmarked_deletions (stored_clauses c.args.clause_alloc.now) c.args.count c.args.list.now) c.from_residual.result
    c.in_err-add_step.field-0.0 c.from_residual.ensures
    (breaks-on g.P.ProofTracer.takes g.P.ProofTracer.breaks_off g.met.P.ProofTracer.breaks_behind c.clauses.invariant.taken
    (breaks-in g.P.ProofTracer.breaks_off (c.in_err-add_step.ensures {u = tt})))

pub returns : goal.returns
returns g c = grind (arith, common_steps)
