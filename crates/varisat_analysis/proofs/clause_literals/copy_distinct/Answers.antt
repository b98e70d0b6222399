use Rattle.std.proofs.Common.{◌≡◌, ℕ, ◌++◌, [], ◌∷◌, slice_index_or, set, true, false, IsTrue, ◌↔◌, length-set, take_all, sym, ap, ◌∙◌, subst, arith}
use Rattle.varisat_theory.specs.promises.Membership.{◌∈◌, SameSet}
use Rattle.varisat_theory.specs.promises.Literals.{opposite}
use Rattle.varisat_analysis.specs.Flags.{AreFlagged}
use Rattle.varisat_prop.proofs.views.ReadElements.{element, item-∈}
use Rattle.varisat_analysis.proofs.CopiedLiterals.{copied-more, copied-same, flagged-more, flagged-none, tautology-more}
use Rattle.varisat_analysis.proofs.clause_literals.copy_distinct.Goals as goal

pub bounds-flags-code : goal.bounds-flags-code
bounds-flags-code g c =
    let i = c.requires.known c.lit-item.result (item-∈ c.args.clause.now c.loop-lit.lit-index c.lit-item.result c.loop-lit-test.true c.lit-item.is) in
    let n = c.loop-lit.auto.flags in
    omega (arith, i.0, n, c.code.ensures.code)

pub bounds-flags-code-in-loop-lit : goal.bounds-flags-code-in-loop-lit
bounds-flags-code-in-loop-lit g c =
    let i = c.requires.known c.lit-item.result (item-∈ c.args.clause.now c.loop-lit.lit-index c.lit-item.result c.loop-lit-test.true c.lit-item.is) in
    let n = c.loop-lit.auto.flags in
    omega (arith, i.0, n, c.code-in-loop-lit.ensures.code)

pub bounds-flags-code-in-loop-lit-2 : goal.bounds-flags-code-in-loop-lit-2
bounds-flags-code-in-loop-lit-2 g c =
    let i = c.requires.known c.lit-item.result (item-∈ c.args.clause.now c.loop-lit.lit-index c.lit-item.result c.loop-lit-test.true c.lit-item.is) in
    let n = c.loop-lit.auto.flags in
    let k = length-set c.loop-lit.flags c.code-in-loop-lit.result true in
    omega (arith, i.1, n, k, c.code-in-loop-lit-2.ensures.code, c.not-opposite.ensures)

pub loop-lit-preserved-then-flags-code : goal.loop-lit-preserved-then-flags-code
loop-lit-preserved-then-flags-code g c =
    let xs = c.loop-lit.lits.items in
    let v = c.lit-item.result in
    let k = element c.args.clause.now c.loop-lit.lit-index v c.loop-lit-test.true c.lit-item.is in
    let n : v ∈ xs = (c.loop-lit.invariant.flagged v).0
    (ap (λ (i : ℕ). slice_index_or c.loop-lit.flags i false) (sym c.code.ensures.code) ∙ c.if-flags-code.true) in
    record {
      distinct = c.loop-lit.invariant.distinct;
      same = copied-same xs c.args.clause.now c.loop-lit.lit-index v c.loop-lit.invariant.same k n;
      tautology = c.loop-lit.invariant.tautology;
      flagged = c.loop-lit.invariant.flagged;
    }

pub loop-lit-preserved : goal.loop-lit-preserved
loop-lit-preserved g c =
    let xs = c.loop-lit.lits.items in
    let ys = c.push.new.self.items in
    let v = c.lit-item.result in
    let k = element c.args.clause.now c.loop-lit.lit-index v c.loop-lit-test.true c.lit-item.is in
    let i = c.requires.known v (item-∈ c.args.clause.now c.loop-lit.lit-index v c.loop-lit-test.true c.lit-item.is) in
    let n = c.loop-lit.auto.flags in
    let new : v ∈ xs → ⊥ = λ h. let e = (c.loop-lit.invariant.flagged v).1 h in
    let f = ap (λ (j : ℕ). slice_index_or c.loop-lit.flags j false) (sym c.code.ensures.code) ∙ c.if-flags-code.false in
    let z : true ≡ false = sym e ∙ f in cc in
    let p = copied-more xs c.args.clause.now c.loop-lit.lit-index v c.loop-lit.invariant.distinct c.loop-lit.invariant.same c.loop-lit-test.true k new in
    let f : AreFlagged (set c.loop-lit.flags c.code-in-loop-lit.result true) (xs ++ v ∷ []) =
    subst (λ u. AreFlagged (set c.loop-lit.flags u true) (xs ++ v ∷ [])) (sym c.code-in-loop-lit.ensures.code)
    (flagged-more c.loop-lit.flags xs v c.loop-lit.invariant.flagged (omega (arith, i, n))) in
    let e = c.code-in-loop-lit-2.ensures.code ∙ c.not-opposite.ensures in
    let there : IsTrue (slice_index_or (set c.loop-lit.flags c.code-in-loop-lit.result true) c.code-in-loop-lit-2.result false) ↔
    (opposite v ∈ (xs ++ v ∷ [])) =
    subst (λ (j : ℕ). IsTrue (slice_index_or (set c.loop-lit.flags c.code-in-loop-lit.result true) j false) ↔ (opposite v ∈ (xs ++ v ∷ []))) (sym e)
    (f (opposite v)) in
    rw c.in_ok-push.ensures.items (record {
      distinct = p.0;
      same = p.1;
      tautology = tautology-more xs v c.loop-lit.found _ c.loop-lit.invariant.tautology there;
      flagged = f;
    })

pub loop-lit-init : goal.loop-lit-init
loop-lit-init g c = rw c.clear.ensures.items
    (record {
      distinct = tt;
      same = ((λ x i. i), (λ x i. i));
      tautology = ((λ e. absurd cc), (λ (l, a, b). absurd a));
      flagged =
          flagged-none c.args.flags.now c.requires.clear;
    })

pub returns-clause-same : goal.returns-clause-same
returns-clause-same g c =
    subst (λ xs. SameSet c.loop-lit.lits.items xs) (take_all c.loop-lit.lit-index c.args.clause.now c.loop-lit-test.false) c.loop-lit.invariant.same
