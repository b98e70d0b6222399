use Rattle.std.proofs.Common.{◌≡◌, true, false, ◌++◌, ap, ◌∙◌}
use Rattle.std.proofs.lemmas.Bool.{not-true, not-false}
use Rattle.varisat_maxsat.proofs.Lightening.{goes-on, goes-to-model, goes-to-core, core-named, core-unnamed, begins, shares-more, found-lightly}
use Rattle.varisat_maxsat.proofs.feeding.search_lightly.Goals as goal

pub turns-init : goal.turns-init
turns-init g c =
    begins _ _ _ _ (c.in_ok-extend_from_slice.ensures.items ∙ ap (λ xs. xs ++ c.args.charges.now) c.new-left.ensures.items) c.new-given_up.ensures.items

pub turns-preserved-in_default : goal.turns-preserved-in_default
turns-preserved-in_default g c = λ p r.
    shares-more _ _ _ _ _ _ _ _ _
    (goes-on _ _ _ _ _ _ _ c.deref.ensures.value (c.turns.invariant p r).ready c.in_ok-found.ensures)
    c.in_ok-give_up_all.ensures (c.turns.invariant p r)

pub returns-then-found : goal.returns-then-found
returns-then-found g c = λ p r.
    found-lightly _ _ _ _ _ _ _ _ c.deref-then-found.ensures.value c.in_ok-extend_from_slice-2.ensures.items
    (goes-to-model _ c.in-Some.found _ _ _ _ _ c.in-Some.is c.if-found.true c.deref.ensures.value (c.turns.invariant p r).ready c.in_ok-found.ensures) (c.turns.invariant p r)

pub returns-then-not-named : goal.returns-then-not-named
returns-then-not-named g c = λ p r.
    let e : c.in_ok-named.named ≡ false = first_of (assumption c.if-not-named.true, search (not-true, c.if-not-named.true)) in
    core-unnamed _ _ _ _ _ p.clauses e (c.in_ok-named.ensures p.clauses
    (goes-to-core _ c.in-Some.found _ _ _ _ _ c.in-Some.is c.if-found.false c.deref.ensures.value (c.turns.invariant p r).ready c.in_ok-found.ensures))

pub turns-preserved : goal.turns-preserved
turns-preserved g c = λ p r.
    let e : c.in_ok-named.named ≡ true = first_of (assumption c.if-not-named.false, search (not-false, c.if-not-named.false)) in
    shares-more _ _ _ _ _ _ _ _ _
    (goes-on _ _ _ _ _ _ _ c.deref.ensures.value (c.turns.invariant p r).ready c.in_ok-found.ensures)
    (core-named _ _ _ _ _ p.clauses e (c.in_ok-named.ensures p.clauses
    (goes-to-core _ c.in-Some.found _ _ _ _ _ c.in-Some.is c.if-found.false c.deref.ensures.value (c.turns.invariant p r).ready c.in_ok-found.ensures)))
    (c.turns.invariant p r)
