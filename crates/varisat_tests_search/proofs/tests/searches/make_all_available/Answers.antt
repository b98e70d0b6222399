use Rattle.std.proofs.Common.{length, ⊎_elim, sym, ap, ◌∙◌, subst, arith}
use Rattle.varisat_theory.specs.promises.Literals.{variable_of}
use Rattle.varisat_theory.proofs.clauses.Places.{∈-take_more, ∈-take_all}
use Rattle.varisat_prop.proofs.views.ReadElements.{element}
use Rattle.varisat_search.specs.declared.context.Context.{Context}
use Rattle.varisat_search.specs.Contexts.{view}
use Rattle.varisat_search.specs.Decisions.{IsDecidable}
use Rattle.varisat_search.proofs.variables.DecidableVariables.{still-decidable}
use Rattle.varisat_tests_search.proofs.tests.searches.make_all_available.Goals as goal

pub loop-lit-init : goal.loop-lit-init
loop-lit-init g c = record { ready = c.requires; known = λ m i. absurd i; decidable = λ m i. absurd i }

pub returns-then-index-assignment : goal.returns-then-index-assignment
returns-then-index-assignment g c = record { ready = c.loop-lit.invariant.ready; known = λ e. absurd cc; decidable = λ e. absurd cc }

pub make_available-requires-clause-ready : goal.make_available-requires-clause-ready
make_available-requires-clause-ready g c = c.loop-lit.invariant.ready

pub make_available-requires-clause-known : goal.make_available-requires-clause-known
make_available-requires-clause-known g c =
    let a = ap (λ xs. length xs) c.assignment.ensures in
    omega (arith, c.var.ensures, c.index.ensures.index, a, c.if-index-assignment.false)

pub loop-lit-preserved : goal.loop-lit-preserved
loop-lit-preserved g c =
    let lits = c.args.lits.now in
    let k = c.loop-lit.lit-index in
    let old = c.loop-lit.ctx in
    let new = c.make_available.new.ctx in
    let e = element lits k c.lit-item.result c.loop-lit-test.true c.lit-item.is in
    let n = ap (λ (x : Context g.row.A.Denot). length x.assignment.current) c.make_available.ensures.available in
    let v = c.var.ensures in
    record {
      ready = c.make_available.ensures.ready;
      known = λ m i. ⊎_elim
          (λ j. let h = c.loop-lit.invariant.known m j in omega (arith, h, n))
          (λ f. let q = ap variable_of (f ∙ sym e) in let h = c.index.ensures.index in let a = ap (λ xs. length xs) c.assignment.ensures in
          omega (arith, q, h, n, a, c.if-index-assignment.false))
          (∈-take_more m lits k 0 i);
      decidable = λ m i. ⊎_elim
          (λ j. still-decidable c.var.result (view old) old.vsids (view new) new.vsids c.make_available.ensures.decidable
          c.make_available.ensures.others (variable_of m) (c.loop-lit.invariant.decidable m j))
          (λ f. subst (IsDecidable (view new) new.vsids) (v ∙ sym (ap variable_of (f ∙ sym e))) c.make_available.ensures.decidable)
          (∈-take_more m lits k 0 i);
    }

pub returns-clause-known : goal.returns-clause-known
returns-clause-known g c e l i = c.loop-lit.invariant.known l (∈-take_all l c.args.lits.now c.loop-lit.lit-index c.loop-lit-test.false i)

pub returns-clause-decidable : goal.returns-clause-decidable
returns-clause-decidable g c e l i = c.loop-lit.invariant.decidable l (∈-take_all l c.args.lits.now c.loop-lit.lit-index c.loop-lit-test.false i)

pub returns-clause-ready : goal.returns-clause-ready
returns-clause-ready g c = c.loop-lit.invariant.ready
