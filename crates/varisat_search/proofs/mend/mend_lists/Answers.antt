use Rattle.std.proofs.Common.{◌≡◌, ◌-◌, ◌+◌, ◌<◌, ◌++◌, List, [], ◌∷◌, length, get_or, take, ⊎_elim, sym, ap, ◌∙◌, subst, arith, length-set}
use Rattle.std.proofs.lemmas.Bool.{eqb-true}
use Rattle.std.proofs.lemmas.List.{take_more, get_or-take, length-take}
use Rattle.varisat_theory.specs.promises.Membership.{◌∈◌}
use Rattle.varisat_theory.specs.promises.Literals.{Literal}
use Rattle.varisat_theory.proofs.clauses.Places.{∈-get_or, ∈-take_more}
use Rattle.varisat_clause.specs.Stored.{IsClauseRef}
use Rattle.varisat_clause.specs.Stores.{stored_clauses}
use Rattle.varisat_clause.specs.Collected.{live_clauses}
use Rattle.varisat_prop.specs.declared.prop.watch_list.Watch.{Watch}
use Rattle.varisat_prop.specs.Watches.{Watches, with_watches}
use Rattle.varisat_prop.proofs.views.ReadElements.{element, item-∈}
use Rattle.varisat_search.specs.MendedLists.{AreMended, MendsLists}
use Rattle.varisat_search.proofs.simplifying.MendedLists.{lists-again, lists-next}
use Rattle.varisat_search.proofs.mend.mend_lists.Goals as goal

pub literals-preserved-then-eq : goal.literals-preserved-then-eq
literals-preserved-then-eq g c =
    let lits = c.args.lits.now in
    let k = c.literals.place in
    let n = length-take k lits in
    let l = element lits k c.index-lits-place.result (omega (arith, c.literals-test.true)) c.index-lits-place.is in
    let m = element lits (k - 1) c.index-lits-place-then-place-gt0.result (omega (arith, c.literals-test.true)) c.index-lits-place-then-place-gt0.is in
    let same : get_or lits k 0 ≡ get_or lits (k - 1) 0 = sym l
    ∙ sym (eqb-true c.index-lits-place-then-place-gt0.result c.index-lits-place.result (sym c.if-eq.ensures)) ∙ m in
    let there : get_or lits (k - 1) 0 ∈ take k lits = subst (λ x. x ∈ take k lits)
    (get_or-take k lits (k - 1) 0 (omega (arith, c.if-place-gt0.true)))
    (∈-get_or (take k lits) (k - 1) 0 (omega (arith, n, c.if-place-gt0.true, c.literals-test.true))) in
    lists-again (live_clauses c.args.clause_alloc.now) (take k lits) (take (k + 1) lits) c.args.watchlists.now c.literals.watchlists
    (λ x h. ⊎_elim (λ i. i) (λ e. subst (λ y. y ∈ take k lits) (sym (e ∙ same)) there) (∈-take_more x lits k 0 h)) c.literals.invariant

pub take_list-list-requires : goal.take_list-list-requires
take_list-list-requires g c =
    let l = c.index-lits-place.result in
    let h = c.requires.listed l (item-∈ c.args.lits.now c.literals.place l (omega (arith, c.literals-test.true)) c.index-lits-place.is) in
    let n = c.literals.invariant.count in
    omega (arith, h, n)

pub mend_list-requires-clause-places : goal.mend_list-requires-clause-places
mend_list-requires-clause-places g c = λ w h.
    let l = c.index-lits-place.result in
    let i = subst (λ (ws : List Watch). w ∈ ws) c.take_list-list.ensures.list h in
    ⊎_elim
    (λ e. c.requires.places l w (subst (λ (ws : List Watch). w ∈ ws) e i))
    (λ m. let (y, j, f) = (m.each w i).2 in subst (IsClauseRef (stored_clauses c.args.clause_alloc.now)) f (c.requires.places l y j))
    (c.literals.invariant.each l)

pub put_list-requires : goal.put_list-requires
put_list-requires g c =
    let l = c.index-lits-place.result in
    let h = c.requires.listed l (item-∈ c.args.lits.now c.literals.place l (omega (arith, c.literals-test.true)) c.index-lits-place.is) in
    let n = c.literals.invariant.count in
    let m = ap (λ (X : Watches). length X.lists) c.take_list-list.ensures.taken in
    let o = length-set c.literals.watchlists.lists l [] in
    omega (arith, h, n, m, o)

pub literals-preserved : goal.literals-preserved
literals-preserved g c =
    let lits = c.args.lits.now in
    let k = c.literals.place in
    let l = c.index-lits-place.result in
    let ks = live_clauses c.args.clause_alloc.now in
    let us = c.mend_list.new.list in
    let inside : k < length lits = omega (arith, c.literals-test.true) in
    let h = c.requires.listed l (item-∈ lits k l inside c.index-lits-place.is) in
    let n = c.literals.invariant.count in
    let longer : take (k + 1) lits ≡ take k lits ++ l ∷ [] = take_more lits k 0 inside
    ∙ ap (λ (x : Literal). take k lits ++ x ∷ []) (sym (element lits k l inside c.index-lits-place.is)) in
    subst (λ ls. MendsLists ks ls c.args.watchlists.now c.put_list.new.self) (sym longer)
    (lists-next ks (take k lits) l c.args.watchlists.now c.literals.watchlists c.put_list.new.self us c.literals.invariant (omega (arith, h, n))
    (c.put_list.ensures ∙ ap (λ X. with_watches X l us) c.take_list-list.ensures.taken)
    (subst (λ ws. AreMended ks ws us) c.take_list-list.ensures.list c.mend_list.ensures))
