use Rattle.std.proofs.Common.{◌≡◌, ◌+◌, ◌∷◌, length, drop, true, false, ap, sym, ◌∙◌, arith}
use Rattle.varisat_clause.specs.Headers.{Header}
use Rattle.varisat_clause.specs.Stores.{stored_clauses}
use Rattle.varisat_clause.specs.Stored.{header_at}
use Rattle.varisat_clause.specs.Filters.{live_places}
use Rattle.varisat_clause.proofs.LiveClauses.{live-skipped, live-taken, live-ended}
use Rattle.varisat_clause.proofs.iter.ClausesIterator.next.Goals as goal

pub returns-then-not-deleted-clause-steps : goal.returns-then-not-deleted-clause-steps
returns-then-not-deleted-clause-steps g c =
    let e : (header_at (stored_clauses c.places.self-inside.alloc.now) c.place-cref.result).deleted ≡ false =
    ap (λ (x : Header). x.deleted) (sym c.header.ensures) ∙ sym c.deleted.ensures ∙ c.if-not-deleted.true in
    sym c.places.invariant.left ∙ live-taken c.places.self-inside.alloc.now c.places.self-inside.index c.place-cref.result
    (omega arith) c.place-cref.ensures.place e

pub returns-then-not-deleted-clause-goes : goal.returns-then-not-deleted-clause-goes
returns-then-not-deleted-clause-goes g c =
    let e : (header_at (stored_clauses c.places.self-inside.alloc.now) c.place-cref.result).deleted ≡ false =
    ap (λ (x : Header). x.deleted) (sym c.header.ensures) ∙ sym c.deleted.ensures ∙ c.if-not-deleted.true in
    let f : c.args.self.now ≡ c.place-cref.result ∷ live_places
    (drop (c.places.self-inside.index + 1) (stored_clauses c.places.self-inside.alloc.now)) = sym c.places.invariant.left
    ∙ live-taken c.places.self-inside.alloc.now c.places.self-inside.index c.place-cref.result (omega arith) c.place-cref.ensures.place e in
    let l = ap length f in
    record { on = λ h. (tt, h, omega (arith, l)); keeps = tt; rests = λ h. tt }

pub places-preserved : goal.places-preserved
places-preserved g c =
    let e : (header_at (stored_clauses c.places.self-inside.alloc.now) c.place-cref.result).deleted ≡ true =
    ap (λ (x : Header). x.deleted) (sym c.header.ensures) ∙ sym c.deleted.ensures ∙ c.if-not-deleted.false in
    record {
      left = live-skipped c.places.self-inside.alloc.now c.places.self-inside.index c.place-cref.result (omega arith) c.place-cref.ensures.place e
          ∙ c.places.invariant.left;
      sound = c.places.invariant.sound;
    }

pub returns-clause-steps : goal.returns-clause-steps
returns-clause-steps g c =
    let e = live-ended c.places.self-inside.alloc.now c.places.self-inside.index (omega (arith, c.places-test.false)) in
    (sym c.places.invariant.left ∙ e, e)
