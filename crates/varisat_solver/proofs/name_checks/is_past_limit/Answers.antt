use Rattle.std.proofs.Common.{◌∷◌, [], ◌<◌, ◌^◌, ap, subst, ⊎_elim, take, take_all, arith}
use Rattle.varisat_theory.specs.promises.Membership.{◌∈◌}
use Rattle.varisat_theory.specs.promises.Literals.{Literal, variable_of}
use Rattle.varisat_theory.proofs.clauses.Members.{∈-append_cases}
use Rattle.varisat_prop.proofs.views.ReadElements.{item-∈}
use Rattle.varisat_solver.proofs.calls.ReadPlaces.{take-item}
use Rattle.varisat_solver.proofs.name_checks.is_past_limit.Goals as goal

pub returns-then-index-max_count : goal.returns-then-index-max_count
returns-then-index-max_count c = (
  c.lit-item.result,
  item-∈ c.args.clause.now c.loop-lit.lit-index c.lit-item.result c.loop-lit-test.true c.lit-item.is,
  omega
      (arith, c.index.ensures.index, c.max_count.ensures, c.if-index-max_count.true),
)

pub loop-lit-preserved : goal.loop-lit-preserved
loop-lit-preserved c =
    let d = take c.loop-lit.lit-index c.args.clause.now in
    let t = take-item c.args.clause.now c.loop-lit.lit-index c.lit-item.result c.loop-lit-test.true c.lit-item.is in
    λ m h. ⊎_elim
    (c.loop-lit.invariant m)
    (λ a. ⊎_elim (λ q. let b = ap variable_of q in omega (arith, b, c.index.ensures.index, c.max_count.ensures, c.if-index-max_count.false)) (λ z. absurd z) a)
    (∈-append_cases m d (c.lit-item.result ∷ []) (subst (λ ls. m ∈ ls) t h))

pub returns : goal.returns
returns c (m, i, b) = let h = subst (λ d. (m : Literal) → m ∈ d → variable_of m < 2 ^ 28)
    (take_all c.loop-lit.lit-index c.args.clause.now c.loop-lit-test.false) c.loop-lit.invariant m i in omega (arith, h, b)
