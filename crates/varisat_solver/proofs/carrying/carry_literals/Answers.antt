use Rattle.std.proofs.Common.{◌≡◌, ℕ, ◌++◌, ◌∷◌, [], List, Option, Some, sym, ap, ◌∙◌, map, take}
use Rattle.std.proofs.lemmas.List.{map-append}
use Rattle.varisat_theory.specs.promises.Membership.{◌∈◌}
use Rattle.varisat_theory.specs.promises.Literals.{Literal, variable_of}
use Rattle.varisat_names.specs.promises.Maps.{chain}
use Rattle.varisat_names.specs.promises.VarMap.{at}
use Rattle.varisat_names.proofs.Maps.{chain-some, chain-through}
use Rattle.varisat_prop.proofs.views.ReadElements.{item-∈}
use Rattle.varisat_tracer.specs.promises.Carried.{carry}
use Rattle.varisat_solver.proofs.calls.ReadPlaces.{take-item}
use Rattle.varisat_solver.proofs.calls.Carried.{carried-literal}
use Rattle.varisat_solver.proofs.carrying.carry_literals.Goals as goal
use Rattle.varisat_search.proofs.variables.SolverVariables.{some-is}

-- where both maps lead
led-through : (f h : ℕ → Option ℕ) (ls : List Literal) (l : Literal) → ((m : Literal) → m ∈ ls → (v : ℕ) × (chain f h (variable_of m) ≡ Some v)) →
    l ∈ ls → (x v : ℕ) × (f (variable_of l) ≡ Some x) × (h x ≡ Some v)
led-through f h ls l r i =
    let (v, e) = r l i in
    let (x, a, b) = chain-through f h (variable_of l) v e in
    (x, v, a, b)

pub unwrap-middle-requires : goal.unwrap-middle-requires
unwrap-middle-requires g c =
    let i = item-∈ c.args.lits.now c.loop-lit.lit-index c.lit-item.result c.loop-lit-test.true c.lit-item.is in
    let (x, v, a, b) = led-through (at c.args.first.now) (at c.args.second.now) c.args.lits.now c.lit-item.result c.requires i in
    some-is c.get.result x (c.get.ensures ∙ ap (at c.args.first.now) c.var.ensures ∙ a)

pub unwrap-var-requires : goal.unwrap-var-requires
unwrap-var-requires g c =
    let i = item-∈ c.args.lits.now c.loop-lit.lit-index c.lit-item.result c.loop-lit-test.true c.lit-item.is in
    let (x, v, a, b) = led-through (at c.args.first.now) (at c.args.second.now) c.args.lits.now c.lit-item.result c.requires i in
    let s : Some c.unwrap-middle.result ≡ Some x = sym c.unwrap-middle.ensures ∙ c.get.ensures ∙ ap (at c.args.first.now) c.var.ensures ∙ a in
    let z : c.unwrap-middle.result ≡ x = cc in
    some-is c.get-in-loop-lit.result v (c.get-in-loop-lit.ensures ∙ ap (at c.args.second.now) z ∙ b)

pub loop-lit-preserved : goal.loop-lit-preserved
loop-lit-preserved g c =
    let f = chain (at c.args.first.now) (at c.args.second.now) in
    let l = c.lit-item.result in
    let a = ap (at c.args.first.now) (sym c.var.ensures) ∙ sym c.get.ensures ∙ c.unwrap-middle.ensures in
    let e = chain-some (at c.args.first.now) (at c.args.second.now) (variable_of l) c.unwrap-middle.result a ∙ sym c.get-in-loop-lit.ensures
    ∙ c.unwrap-var.ensures in
    c.in_ok-push.ensures.items ∙ ap (λ xs. xs ++ c.lit.result ∷ []) c.loop-lit.invariant
    ∙ ap (λ x. map (carry f) (take c.loop-lit.lit-index c.args.lits.now) ++ x ∷ [])
    (c.lit.ensures ∙ carried-literal f l c.unwrap-var.result c.is_positive.result e c.is_positive.ensures)
    ∙ sym (ap (map (carry f)) (take-item c.args.lits.now c.loop-lit.lit-index l c.loop-lit-test.true c.lit-item.is)
    ∙ map-append (carry f) (take c.loop-lit.lit-index c.args.lits.now) (l ∷ []))
