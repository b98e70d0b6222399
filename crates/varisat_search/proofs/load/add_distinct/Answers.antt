use Rattle.std.proofs.Common.{◌≡◌, Bool, ◌≢◌, ◌<◌, ◌≤◌, ◌++◌, [], ◌∷◌, length, inr, inl, refl, sym, ap, ◌∙◌, subst, arith}
use Rattle.varisat_clause.specs.Headers.{Header}
use Rattle.varisat_clause.proofs.LiveStore.{live-added}
use Rattle.varisat_clause.proofs.StoreSound.{sound-is}
use Rattle.varisat_clause.specs.Collected.{live_clauses}
use Rattle.varisat_theory.specs.promises.Membership.{◌∈◌, IsDistinct}
use Rattle.varisat_theory.specs.promises.Literals.{opposite}
use Rattle.varisat_prop.specs.declared.prop.graph.Reason.TheVariants as reason
use Rattle.varisat_prop.specs.Parts.{TrailParts}
use Rattle.varisat_clause.specs.Stored.{StoredClause}
use Rattle.varisat_prop.specs.Pairs.{with_pair}
use Rattle.varisat_prop.specs.View.{view_of}
use Rattle.varisat_prop.specs.Watches.{IsPropagated}
use Rattle.varisat_prop.specs.Visits.{WatchesClause}
use Rattle.varisat_prop.proofs.pairs.DistinctPlaces.{distinct-places}
use Rattle.varisat_prop.proofs.watching.LongVisited.{listed}
use Rattle.varisat_prop.proofs.trails.TrailValues.{fits-node}
use Rattle.varisat_prop.proofs.watching.WatchKept.{propagated-enqueued}
use Rattle.varisat_prop.proofs.trails.LiteralValues.{made-none}
use Rattle.varisat_search.specs.Contexts.{view}
use Rattle.varisat_search.specs.Loading.{IsHeadAfter, IsAdded}
use Rattle.varisat_analysis.proofs.CopiedLiterals.{only-one, only-two, more-than-two}
use Rattle.varisat_search.proofs.loading.LoadView.{added-pair, added-long}
use Rattle.varisat_search.proofs.loading.LoadedQueue.{propagated-kept, propagated-kept-pair}
use Rattle.varisat_search.proofs.load.add_distinct.Given.{Over}
use Rattle.varisat_search.proofs.load.add_distinct.Goals.{After-index-then-len-eq2, In_ok-add_binary_clause}
use Rattle.varisat_search.proofs.load.add_distinct.Goals as goal

pub enqueue_assignment-requires : goal.enqueue_assignment-requires
enqueue_assignment-requires g c =
    let x = c.args.ctx.now in
    let l = c.in-Some.first in
    let e = sym c.deref.ensures.value ∙ c.in-Some.ensures.1 in
    let i : l ∈ x.tmp_data.lits.items = subst (λ ls. l ∈ ls) (sym e) (inl refl) in
    let a = c.requires.in_range l i in
    let n = c.requires.well.nodes_are in
    let fits = fits-node (view x) c.requires.well in
    record {
      assignable = (a, omega (arith, a, n), made-none x.assignment.current l (c.requires.untrue l i) (λ t. let b = c.if-lit_is_false.ensures.1 t in cc));
      level = omega (arith, fits.0);
      depth = fits.1;
    }

pub returns-clause-added : goal.returns-clause-added
returns-clause-added g c =
    let x = c.args.ctx.now in
    let l = c.in-Some.first in
    let e = sym c.deref.ensures.value ∙ c.in-Some.ensures.1 in
    let i : l ∈ x.tmp_data.lits.items = subst (λ ls. l ∈ ls) (sym e) (inl refl) in
    let n = made-none x.assignment.current l (c.requires.untrue l i) (λ t. let b = c.if-lit_is_false.ensures.1 t in cc) in
    let one = only-one x.tmp_data.lits.items c.in-Some.ensures.0 l e (omega (arith, c.if-len-gt1.false, c.len.ensures, x.tmp_data.lits.ok.0)) in
    let z = view_of x.clause_alloc x.binary_clauses c.enqueue_assignment.new.assignment c.enqueue_assignment.new.trail c.enqueue_assignment.new.impl_graph in (
      subst (λ ls. IsAdded (view x) z ls x.solver_state.sat_state x.solver_state.sat_state) (sym one)
          (inr ((c.requires.in_range l i, n), c.in_ok-enqueue_assignment.ensures.view x.clause_alloc x.binary_clauses, refl)),
      c.in_ok-enqueue_assignment.ensures.last,
    )

pub watch_clause-requires-clause-listed : goal.watch_clause-requires-clause-listed
watch_clause-requires-clause-listed g c = λ l h.
    let x = c.args.ctx.now in
    let i = listed l (length x.assignment.current) (c.requires.in_range l (subst (λ ls. l ∈ ls) c.deref-then-len-gt1-3.ensures.value h)) in
    let n = c.requires.propagated.lists in
    omega (arith, i, n)

-- the clause has just these two literals
two : (g : Over) (c : After-index-then-len-eq2 g) → c.args.ctx.now.tmp_data.lits.items ≡ c.index.result.now ∷ c.index-then-len-eq2.result.now ∷ []
two g c =
    let xs = c.args.ctx.now.tmp_data.lits in
    let n = c.len-then-len-gt1.ensures in
    only-two xs.items c.index.result.now c.index-then-len-eq2.result.now
    (omega (arith, n, xs.ok.0, c.if-len-eq2.true)) c.index.ensures c.index-then-len-eq2.ensures

first-paired : (g : Over) (c : After-index-then-len-eq2 g) → opposite c.index.result.now < length c.args.ctx.now.binary_clauses
first-paired g c =
    let i = listed c.index.result.now (length c.args.ctx.now.assignment.current)
    (c.requires.in_range c.index.result.now (subst (λ xs. c.index.result.now ∈ xs) (sym (two g c)) (inl refl))) in
    let n = c.requires.propagated.binary in
    omega (arith, i, n)

second-paired : (g : Over) (c : After-index-then-len-eq2 g) → opposite c.index-then-len-eq2.result.now < length c.args.ctx.now.binary_clauses
second-paired g c =
    let i = listed c.index-then-len-eq2.result.now (length c.args.ctx.now.assignment.current)
    (c.requires.in_range c.index-then-len-eq2.result.now (subst (λ xs. c.index-then-len-eq2.result.now ∈ xs) (sym (two g c)) (inr (inl refl)))) in
    let n = c.requires.propagated.binary in
    omega (arith, i, n)

-- what is left once they are kept as a pair
with-two : (g : Over) (c : In_ok-add_binary_clause g) → view_of c.args.ctx.now.clause_alloc c.add_binary_clause.new.self c.args.ctx.now.assignment
    c.reset_queue_if_false.new.trail c.args.ctx.now.impl_graph ≡ record (view c.args.ctx.now) {
      binary = with_pair c.args.ctx.now.binary_clauses c.index.result.now c.index-then-len-eq2.result.now;
      queue_head =
          c.reset_queue_if_false.new.trail.queue_head;
    }
with-two g c =
    let x = c.args.ctx.now in
    ap (λ (u : TrailParts). view_of x.clause_alloc c.add_binary_clause.new.self x.assignment u x.impl_graph) c.reset_queue_if_false.ensures.frame
    ∙ ap (λ B. record (view x) { binary = B; queue_head = c.reset_queue_if_false.new.trail.queue_head }) c.in_ok-add_binary_clause.ensures

pub add_binary_clause-requires-clause-first : goal.add_binary_clause-requires-clause-first
add_binary_clause-requires-clause-first g c = first-paired g (goal.at.add_binary_clause-requires-clause-first g c).After-index-then-len-eq2

pub add_binary_clause-requires-clause-second : goal.add_binary_clause-requires-clause-second
add_binary_clause-requires-clause-second g c = second-paired g (goal.at.add_binary_clause-requires-clause-second g c).After-index-then-len-eq2

pub returns-then-len-eq2-clause-added : goal.returns-then-len-eq2-clause-added
returns-then-len-eq2-clause-added g c =
    let x = c.args.ctx.now in
    let here = goal.at.returns-then-len-eq2-clause-added g c in
    let z = view_of x.clause_alloc c.add_binary_clause.new.self x.assignment c.reset_queue_if_false.new.trail x.impl_graph in (
      added-pair (view x) z x.tmp_data.lits.items x.solver_state.sat_state x.solver_state.sat_state c.index.result.now c.index-then-len-eq2.result.now
          (two g here.After-index-then-len-eq2)
          (subst (λ ls. IsHeadAfter x.assignment.current ls x.trail.queue_head c.reset_queue_if_false.new.trail.queue_head)
          c.deref-then-len-gt1.ensures.value c.reset_queue_if_false.ensures.head) (with-two g here.In_ok-add_binary_clause) refl,
      refl,
    )

pub returns-then-len-eq2-clause-propagated : goal.returns-then-len-eq2-clause-propagated
returns-then-len-eq2-clause-propagated g c =
    let x = c.args.ctx.now in
    let at = goal.at.returns-then-len-eq2-clause-propagated g c in
    let here = at.After-index-then-len-eq2 in
    let a = c.index.result.now in
    let b = c.index-then-len-eq2.result.now in
    let other : a ≢ b = λ e. (subst IsDistinct (two g here) c.requires.distinct).0 (inl e) in
    subst (IsPropagated x.watchlists) (sym (with-two g at.In_ok-add_binary_clause))
    (propagated-kept-pair (view x) c.requires.well c.requires.undecided x.watchlists a b (first-paired g here)
    (second-paired g here) other c.requires.propagated c.reset_queue_if_false.new.trail.queue_head
    (subst (λ ls. IsHeadAfter x.assignment.current ls x.trail.queue_head c.reset_queue_if_false.new.trail.queue_head)
    (c.deref-then-len-gt1.ensures.value ∙ two g here) c.reset_queue_if_false.ensures.head))

pub returns-then-len-gt1-clause-added : goal.returns-then-len-gt1-clause-added
returns-then-len-gt1-clause-added g c =
    let x = c.args.ctx.now in
    let n = c.len-then-len-gt1.ensures in
    let m = c.len.ensures in
    let o = x.tmp_data.lits.ok.0 in
    let many : 3 ≤ length x.tmp_data.lits.items = more-than-two (length x.tmp_data.lits.items) (omega (arith, m, o, c.if-len-gt1.true))
    (λ e. c.if-len-eq2.false (omega (arith, n, o, e))) in
    let j : StoredClause = record {
      place = c.in_ok-cref.cref;
      header =
          record c.new.result { len = length c.deref-then-len-gt1-2.result.now };
      literals = c.deref-then-len-gt1-2.result.now;
    } in
    let k = live-added x.clause_alloc c.add_clause.new.alloc j c.in_ok-cref.ensures.added (ap (λ (h : Header). h.deleted) c.new.ensures) in
    let sound = sound-is c.add_clause.new.alloc c.in_ok-cref.ensures.added.sound ∙ sym c.requires.well.sound in
    let z = view_of c.add_clause.new.alloc x.binary_clauses x.assignment c.reset_queue_if_false.new.trail x.impl_graph in
    let whole : z ≡ record (view x) { clauses = live_clauses c.add_clause.new.alloc; queue_head = c.reset_queue_if_false.new.trail.queue_head } =
    ap (λ (u : TrailParts). view_of c.add_clause.new.alloc x.binary_clauses x.assignment u x.impl_graph) c.reset_queue_if_false.ensures.frame
    ∙ ap (λ (b : Bool). record (view x)
    { sound = b; clauses = live_clauses c.add_clause.new.alloc; queue_head = c.reset_queue_if_false.new.trail.queue_head }) sound in (
      added-long (view x) z x.tmp_data.lits.items x.solver_state.sat_state x.solver_state.sat_state j many c.deref-then-len-gt1-2.ensures.value
          (ap (λ (h : Header). record h { len = length c.deref-then-len-gt1-2.result.now }) c.new.ensures) k
          (subst (λ ls. IsHeadAfter x.assignment.current ls x.trail.queue_head c.reset_queue_if_false.new.trail.queue_head)
          c.deref-then-len-gt1.ensures.value c.reset_queue_if_false.ensures.head) whole refl,
      refl,
    )

pub returns-then-len-gt1-clause-propagated : goal.returns-then-len-gt1-clause-propagated
returns-then-len-gt1-clause-propagated g c =
    let x = c.args.ctx.now in
    let V = c.watch_clause.new.self in
    let z = view_of c.add_clause.new.alloc x.binary_clauses x.assignment c.reset_queue_if_false.new.trail x.impl_graph in
    let j : StoredClause = record {
      place = c.in_ok-cref.cref;
      header =
          record c.new.result { len = length c.deref-then-len-gt1-2.result.now };
      literals = c.deref-then-len-gt1-2.result.now;
    } in
    let k = live-added x.clause_alloc c.add_clause.new.alloc j c.in_ok-cref.ensures.added (ap (λ (h : Header). h.deleted) c.new.ensures) in
    let sound = sound-is c.add_clause.new.alloc c.in_ok-cref.ensures.added.sound ∙ sym c.requires.well.sound in
    let watched = subst (WatchesClause x.watchlists V c.in_ok-cref.cref)
    (c.deref-then-len-gt1-3.ensures.value ∙ sym c.deref-then-len-gt1-2.ensures.value) c.in_ok-watch_clause.ensures in
    let whole : z ≡ record (view x) { clauses = live_clauses x.clause_alloc ++ j ∷ []; queue_head = c.reset_queue_if_false.new.trail.queue_head } =
    ap (λ (t : TrailParts). view_of c.add_clause.new.alloc x.binary_clauses x.assignment t x.impl_graph) c.reset_queue_if_false.ensures.frame
    ∙ ap (λ (b : Bool). record (view x)
    { sound = b; clauses = live_clauses c.add_clause.new.alloc; queue_head = c.reset_queue_if_false.new.trail.queue_head }) sound
    ∙ ap (λ ks. record (view x) { clauses = ks; queue_head = c.reset_queue_if_false.new.trail.queue_head }) k.0 in
    let m = c.len.ensures in
    let o = x.tmp_data.lits.ok.0 in
    let same = ap length c.deref-then-len-gt1-2.ensures.value in
    let apart = distinct-places c.deref-then-len-gt1-2.result.now 0 (subst (λ ls. IsDistinct ls) (sym c.deref-then-len-gt1-2.ensures.value) c.requires.distinct)
    0 1 (omega arith) (omega (arith, m, o, same, c.if-len-gt1.true)) in
    let head = subst (λ ls. IsHeadAfter x.assignment.current ls x.trail.queue_head c.reset_queue_if_false.new.trail.queue_head)
    (c.deref-then-len-gt1.ensures.value ∙ sym c.deref-then-len-gt1-2.ensures.value) c.reset_queue_if_false.ensures.head in
    subst (IsPropagated V) (sym whole)
    (propagated-kept (view x) c.requires.well c.requires.undecided x.watchlists V j c.requires.propagated k.1 watched apart
    c.reset_queue_if_false.new.trail.queue_head (omega (arith, m, o, same, c.if-len-gt1.true)) head)

pub returns-clause-propagated : goal.returns-clause-propagated
returns-clause-propagated g c =
    let x = c.args.ctx.now in
    let l = c.in-Some.first in
    subst (IsPropagated x.watchlists) (sym (c.in_ok-enqueue_assignment.ensures.view x.clause_alloc x.binary_clauses))
    (propagated-enqueued x.watchlists (view x) l reason.Unit c.requires.well c.requires.propagated)

pub add_clause-requires-clause-long : goal.add_clause-requires-clause-long
add_clause-requires-clause-long g c =
    let x = c.args.ctx.now in
    let n = c.len-then-len-gt1.ensures in
    let m = c.len.ensures in
    let o = x.tmp_data.lits.ok.0 in
    let v = ap length c.deref-then-len-gt1-2.ensures.value in
    let many : 3 ≤ length x.tmp_data.lits.items = more-than-two (length x.tmp_data.lits.items) (omega (arith, m, o, c.if-len-gt1.true))
    (λ e. c.if-len-eq2.false (omega (arith, n, o, e))) in
    omega (arith, many, v)

pub reset_queue_if_false-requires : goal.reset_queue_if_false-requires
reset_queue_if_false-requires g c = λ l h. c.requires.in_range l (subst (λ ls. l ∈ ls) c.deref-then-len-gt1.ensures.value h)
