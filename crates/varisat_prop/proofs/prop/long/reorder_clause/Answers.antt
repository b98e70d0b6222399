use Rattle.std.proofs.Common.{◌+◌, ◌≤◌, ap, length, sym, ◌∙◌, subst}
use Rattle.varisat_clause.specs.Stored.{literals_at, with_literals}
use Rattle.varisat_clause.specs.Stores.{stored_clauses, put_words}
use Rattle.varisat_clause.specs.Collected.{live_clauses}
use Rattle.varisat_clause.proofs.KeptShapes.{shapes-changed}
use Rattle.varisat_clause.proofs.StoredClauses.{with-same}
use Rattle.varisat_clause.proofs.LiveStore.{live-place, live-literals, live-changed}
use Rattle.varisat_prop.specs.Looks.{IsInRange}
use Rattle.varisat_prop.specs.Watches.{IsWatchedBy}
use Rattle.varisat_prop.specs.Visits.{IsFound}
use Rattle.varisat_prop.proofs.prop.long.reorder_clause.Goals as goal

pub lits_mut-lits-requires-clause-place : goal.lits_mut-lits-requires-clause-place
lits_mut-lits-requires-clause-place g c = live-place (stored_clauses c.args.alloc.now) c.args.cref c.requires.place

pub reorder-requires-clause-long : goal.reorder-requires-clause-long
reorder-requires-clause-long g c = subst (λ x. 2 ≤ length x)
    (sym (c.lits_mut-lits.ensures.value ∙ live-literals c.args.alloc.now c.args.cref c.requires.sound c.requires.place)) c.requires.long

pub reorder-requires-clause-within : goal.reorder-requires-clause-within
reorder-requires-clause-within g c = subst (IsInRange c.args.assignment.now.current)
    (sym (c.lits_mut-lits.ensures.value ∙ live-literals c.args.alloc.now c.args.cref c.requires.sound c.requires.place)) c.requires.within

pub reorder-requires-clause-watched : goal.reorder-requires-clause-watched
reorder-requires-clause-watched g c = subst (λ x. IsWatchedBy x c.args.false_lit)
    (sym (c.lits_mut-lits.ensures.value ∙ live-literals c.args.alloc.now c.args.cref c.requires.sound c.requires.place)) c.requires.watched

pub returns : goal.returns
returns g c =
    let s = c.args.alloc.now in
    let p = c.args.cref in
    let d = c.reorder.new.lits in
    let n = put_words s (p + 3) d in
    let alone = c.lits_mut-lits.ensures.alone d c.reorder.ensures.count in
    let e = live-changed s p c.requires.sound c.requires.place n (length s.words) d alone in
    let now = ap (λ ks. literals_at ks p) e ∙ with-same (live_clauses s) p d c.requires.place in
    record {
      sound = alone.sound;
      changed = e ∙ ap (λ x. with_literals (live_clauses s) p x) (sym now);
      found = subst (λ x. IsFound c.args.assignment.now.current (literals_at (live_clauses s) p) x c.args.false_lit c.reorder.result) (sym now)
          (subst (λ x. IsFound c.args.assignment.now.current x d c.args.false_lit c.reorder.result)
          (c.lits_mut-lits.ensures.value ∙ live-literals s p c.requires.sound c.requires.place) c.reorder.ensures.found);
      store = shapes-changed s n (length s.words) p d (c.reorder.ensures.count ∙ ap length c.lits_mut-lits.ensures.value) alone;
    }
