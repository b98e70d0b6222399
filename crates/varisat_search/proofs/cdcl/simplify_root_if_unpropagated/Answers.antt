use Rattle.varisat_steps.proofs.Broken.{error-broken}
use Rattle.std.proofs.lemmas.Bool.{cases_lt}
use Rattle.std.proofs.Common.{◌≡◌, [], length, ⊎_elim, refl, arith}
use Rattle.varisat_search.specs.Contexts.{view}
use Rattle.varisat_steps.specs.Traces.{TakesLines}
use Rattle.varisat_search.specs.RootSimplified.{IsRootUnpropagated, SimplifiesRoot}
use Rattle.varisat_search.proofs.stepping.FixedLiterals.{ready-complete, none-conflicting}
use Rattle.varisat_search.proofs.simplifying.RootSimplified.{goes-refl, goes-are}
use Rattle.varisat_search.proofs.cdcl.simplify_root_if_unpropagated.Goals as goal

pub returns-then-not-is_root_unpropagated-clause-goes_on : goal.returns-then-not-is_root_unpropagated-clause-goes_on
returns-then-not-is_root_unpropagated-clause-goes_on g c =
    let settled : IsRootUnpropagated (view c.args.ctx.now) → ⊥ = λ u.
    let b = c.is_root_unpropagated.ensures.1 u in let n = c.if-not-is_root_unpropagated.true in absurd cc in
    goes-refl c.args.ctx.now _ c.requires.ready ((λ u. absurd (settled u)), (λ _. refl), g.met.P.ProofTracer.takes_none c.args.proof.now)

pub returns-clause-goes_on : goal.returns-clause-goes_on
returns-clause-goes_on g c =
    let x = c.args.ctx.now in
    let y = c.simplify_root.new.ctx in
    let end = c.in_ok-end.end in
    let takes = g.P.ProofTracer.takes in
    let undecided_before = c.is_root_unpropagated.ensures.0 c.if-not-is_root_unpropagated.false in
    goes-are x y (λ lines. SimplifiesRoot lines (view x) (view y) end × TakesLines takes c.args.proof.now lines c.simplify_root.new.proof)
    (λ lines. (IsRootUnpropagated (view x) → SimplifiesRoot lines (view x) (view y) end) × ((IsRootUnpropagated (view x) → ⊥) → lines ≡ [])
    × TakesLines takes c.args.proof.now lines c.simplify_root.new.proof)
    (λ lines (s, t). (λ u. s, λ calm. absurd (calm undecided_before), t)) c.in_ok-end.ensures.goes_on

pub returns-then-not-is_root_unpropagated-clause-finds : goal.returns-then-not-is_root_unpropagated-clause-finds
returns-then-not-is_root_unpropagated-clause-finds g c none f k e =
    let x = c.args.ctx.now in
    let head : x.trail.queue_head ≡ length x.trail.literals = ⊎_elim
    (λ low. let b = c.is_root_unpropagated.ensures.1 (none, low) in let n = c.if-not-is_root_unpropagated.true in absurd cc)
    (λ high. let h = c.requires.ready.well.head in omega (arith, high, h))
    (cases_lt x.trail.queue_head (length x.trail.literals)) in
    none-conflicting (view x) c.requires.ready.well (ready-complete c.requires.ready head) f k

pub returns-clause-finds : goal.returns-clause-finds
returns-clause-finds g c none f k = c.in_ok-end.ensures.finds f k

pub returns-in_err-end-clause-broken : goal.returns-in_err-end-clause-broken
returns-in_err-end-clause-broken g c =
    error-broken g.P.ProofTracer.breaks_off c.args.proof.now c.simplify_root.new.proof c.from_residual.result c.in_err-end.field-0.0 c.from_residual.ensures
    c.in_err-end.ensures.broken

pub simplify_root-requires-clause-undecided : goal.simplify_root-requires-clause-undecided
simplify_root-requires-clause-undecided g c = (c.is_root_unpropagated.ensures.0 c.if-not-is_root_unpropagated.false).0

pub returns-clause-stays : goal.returns-clause-stays
returns-clause-stays g c calm = absurd (calm (c.is_root_unpropagated.ensures.0 c.if-not-is_root_unpropagated.false))
