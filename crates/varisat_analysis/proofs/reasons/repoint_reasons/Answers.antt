use Rattle.std.proofs.lemmas.Grind.{common_steps}
use Rattle.std.proofs.Common.{◌≡◌, ◌<◌, ◌+◌, length, drop, get_or, sym, ap, ◌∙◌, subst, arith}
use Rattle.varisat_theory.specs.promises.Literals.{variable_of}
use Rattle.varisat_theory.proofs.clauses.Places.{∈-get_or}
use Rattle.varisat_clause.specs.Stored.{StoredClause, IsClauseRef, no_clause, stored_at}
use Rattle.varisat_clause.specs.Stores.{stored_clauses}
use Rattle.varisat_clause.specs.Collected.{live_clauses}
use Rattle.varisat_clause.proofs.StoredClauses.{stored-found}
use Rattle.varisat_clause.proofs.StoreSound.{place-of}
use Rattle.varisat_clause.proofs.CollectedClauses.{length-places}
use Rattle.varisat_clause.proofs.LiveStore.{are-live-rising, live-place, live-stored}
use Rattle.varisat_prop.specs.Watches.{literal_in}
use Rattle.varisat_analysis.specs.Collections.{repointed, repointed_each}
use Rattle.varisat_analysis.proofs.MovedReasons.{IsNextLeft, left-next, left-none, repoint-length, live-few}
use Rattle.varisat_analysis.proofs.reasons.repoint_reasons.Given.{Over}
use Rattle.varisat_analysis.proofs.reasons.repoint_reasons.Goals.{In-Some}
use Rattle.varisat_analysis.proofs.reasons.repoint_reasons.Goals as goal

next : (g : Over) (c : In-Some g) → IsNextLeft c.args.assignment.now.current (live_clauses c.args.clause_alloc.now)
    (stored_clauses c.args.new_alloc.now) c.loop-cref.index c.in-Some.cref c.next.new.self
next g c =
    left-next c.args.assignment.now.current (live_clauses c.args.clause_alloc.now)
    (stored_clauses c.args.new_alloc.now) c.loop-cref.index c.in-Some.cref c.next.new.self c.requires.count
    (sym c.in-Some.ensures.steps ∙ c.loop-cref.invariant.left)

-- the clause that the iterator gives
live-here : (g : Over) (c : In-Some g) → IsClauseRef (live_clauses c.args.clause_alloc.now) c.in-Some.cref
live-here g c =
    let n = next g c in (
      get_or (live_clauses c.args.clause_alloc.now) c.loop-cref.index no_clause,
      ∈-get_or
          (live_clauses c.args.clause_alloc.now) c.loop-cref.index no_clause n.inside,
      n.place,
    )

clause-is : (g : Over) (c : In-Some g) → stored_at (stored_clauses c.args.clause_alloc.now) c.in-Some.cref ≡ get_or
    (live_clauses c.args.clause_alloc.now) c.loop-cref.index no_clause
clause-is g c =
    let s = c.args.clause_alloc.now in
    let n = next g c in
    let k = get_or (live_clauses s) c.loop-cref.index no_clause in
    live-stored s c.in-Some.cref c.requires.sound (live-here g c) ∙ ap (stored_at (live_clauses s)) (sym n.place)
    ∙ stored-found (live_clauses s) (are-live-rising s c.requires.sound) k (∈-get_or (live_clauses s) c.loop-cref.index no_clause n.inside)

known : (g : Over) (c : In-Some g) →
    variable_of (literal_in (stored_at (stored_clauses c.args.clause_alloc.now) c.in-Some.cref).literals 0) < length c.args.assignment.now.current
known g c =
    let s = c.args.clause_alloc.now in
    subst (λ (k : StoredClause). variable_of (literal_in k.literals 0) < length c.args.assignment.now.current) (sym (clause-is g c))
    (c.requires.values (get_or (live_clauses s) c.loop-cref.index no_clause) (∈-get_or (live_clauses s) c.loop-cref.index no_clause (next g c).inside))

pub repoint_reason-requires-clause-place : goal.repoint_reason-requires-clause-place
repoint_reason-requires-clause-place g c = live-place (stored_clauses c.args.clause_alloc.now) c.in-Some.cref
    (live-here g (goal.at.repoint_reason-requires-clause-place g c).In-Some)

pub repoint_reason-requires-clause-value : goal.repoint_reason-requires-clause-value
repoint_reason-requires-clause-value g c = known g (goal.at.repoint_reason-requires-clause-value g c).In-Some

pub repoint_reason-requires-clause-node : goal.repoint_reason-requires-clause-node
repoint_reason-requires-clause-node g c =
    let a = known g (goal.at.repoint_reason-requires-clause-node g c).In-Some in
    let n = c.loop-cref.invariant.count in
    let m = c.requires.nodes in
    omega (arith, a, n, m)

pub overflow_add-index : goal.overflow_add-index
overflow_add-index g c =
    let a = (next g (goal.at.overflow_add-index g c).In-Some).inside in
    let b = live-few c.args.clause_alloc.now c.requires.sound in
    omega (arith, a, b)

pub loop-cref-preserved : goal.loop-cref-preserved
loop-cref-preserved g c =
    let here = (goal.at.loop-cref-preserved g c).In-Some in
    let n = next g here in
    let values = c.args.assignment.now.current in
    let ks = live_clauses c.args.clause_alloc.now in
    let js = stored_clauses c.args.new_alloc.now in
    let i = c.loop-cref.index in
    let q : c.place-new_cref.result ≡ (get_or js i no_clause).place = c.place-new_cref.ensures.place
    ∙ sym (ap (λ (k : StoredClause). k.place)
    (place-of c.args.new_alloc.now.words c.args.new_alloc.now.places i
    (let a = n.inside in let b = c.requires.count in let l = length-places c.args.new_alloc.now.words c.args.new_alloc.now.places in
    omega (arith, a, b, l)))) in
    let e : c.repoint_reason.new.impl_graph.nodes.items ≡ repointed values c.loop-cref.impl_graph.nodes.items (get_or ks i no_clause)
    (get_or js i no_clause).place = c.repoint_reason.ensures ∙ ap
    (λ k. repointed values c.loop-cref.impl_graph.nodes.items k c.place-new_cref.result) (clause-is g here)
    ∙ ap (λ x. repointed values c.loop-cref.impl_graph.nodes.items (get_or ks i no_clause) x) q in
    record {
      left = n.rest_is;
      nodes = ap (λ ns. repointed_each values (drop (i + 1) ks) (drop (i + 1) js) ns) e ∙ sym (n.each c.loop-cref.impl_graph.nodes.items)
          ∙ c.loop-cref.invariant.nodes;
      count = ap length e ∙ repoint-length values c.loop-cref.impl_graph.nodes.items (get_or ks i no_clause) (get_or js i no_clause).place
          ∙ c.loop-cref.invariant.count;
    }

pub returns : goal.returns
returns g c =
    left-none c.args.assignment.now.current (live_clauses c.args.clause_alloc.now)
    (stored_clauses c.args.new_alloc.now) c.loop-cref.index c.loop-cref.cref-iterator c.loop-cref.impl_graph.nodes.items
    (c.in-None.ensures {u = tt}).steps.0 c.loop-cref.invariant.left ∙ c.loop-cref.invariant.nodes

pub place-new_cref-requires : goal.place-new_cref-requires
place-new_cref-requires g c = grind (arith, common_steps)
