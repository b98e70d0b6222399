use Rattle.std.proofs.lemmas.Grind.{common_steps}
use Rattle.std.proofs.Common.{◌≡◌, ℕ, List, ◌+◌, drop, true, false, ap, sym, subst, inl, inr, ◌∙◌, arith}
use Rattle.varisat_clause.specs.Headers.{Header}
use Rattle.varisat_clause.specs.Stored.{header_at}
use Rattle.varisat_clause.specs.Stores.{stored_clauses}
use Rattle.varisat_clause.specs.Reductions.{unmarked_places, all_deleted}
use Rattle.varisat_clause.proofs.LocalReduction.{IsReducing, reducing-kept, reducing-deleted, drop-place, element}
use Rattle.varisat_clause.proofs.reduce.delete_unmarked.Goals as goal

pub clauses-preserved-then-left-eq0 : goal.clauses-preserved-then-left-eq0
clauses-preserved-then-left-eq0 g c =
    let e = drop-place c.args.list.now c.clauses.cref-index c.cref-item.result (omega arith)
    (element c.args.list.now c.clauses.cref-index c.cref-item.result (omega arith) c.cref-item.is) in
    record {
      state = reducing-kept _ c.args.alloc.now c.clauses.alloc c.clauses.left c.cref-item.result (drop (c.clauses.cref-index + 1) c.args.list.now)
          (subst (λ (xs : List ℕ). IsReducing
          (all_deleted (unmarked_places (stored_clauses c.args.alloc.now) c.args.count c.args.list.now) (stored_clauses c.args.alloc.now))
          c.args.alloc.now c.clauses.alloc c.clauses.left xs) e c.clauses.invariant.state) (inl c.if-left-eq0.true);
      tracks = c.clauses.invariant.tracks;
    }

pub clauses-preserved-then-mark : goal.clauses-preserved-then-mark
clauses-preserved-then-mark g c =
    let e = drop-place c.args.list.now c.clauses.cref-index c.cref-item.result (omega arith)
    (element c.args.list.now c.clauses.cref-index c.cref-item.result (omega arith) c.cref-item.is) in
    let m : (header_at (stored_clauses c.clauses.alloc) c.cref-item.result).mark ≡ true = ap (λ (h : Header). h.mark) (sym c.header.ensures)
    ∙ sym c.mark.ensures ∙ c.if-mark.true in
    record {
      state = reducing-kept _ c.args.alloc.now c.clauses.alloc c.clauses.left c.cref-item.result (drop (c.clauses.cref-index + 1) c.args.list.now)
          (subst (λ (xs : List ℕ). IsReducing
          (all_deleted (unmarked_places (stored_clauses c.args.alloc.now) c.args.count c.args.list.now) (stored_clauses c.args.alloc.now))
          c.args.alloc.now c.clauses.alloc c.clauses.left xs) e c.clauses.invariant.state) (inr m);
      tracks = c.clauses.invariant.tracks;
    }

pub clauses-preserved : goal.clauses-preserved
clauses-preserved g c =
    let e = drop-place c.args.list.now c.clauses.cref-index c.cref-item.result (omega arith)
    (element c.args.list.now c.clauses.cref-index c.cref-item.result (omega arith) c.cref-item.is) in
    let m : (header_at (stored_clauses c.clauses.alloc) c.cref-item.result).mark ≡ false = ap (λ (h : Header). h.mark) (sym c.header.ensures)
    ∙ sym c.mark.ensures ∙ c.if-mark.false in
    record {
      state = reducing-deleted _ c.args.alloc.now c.clauses.alloc c.delete_clause.new.alloc c.clauses.left c.cref-item.result
          (drop (c.clauses.cref-index + 1) c.args.list.now)
          (subst (λ (xs : List ℕ). IsReducing
          (all_deleted (unmarked_places (stored_clauses c.args.alloc.now) c.args.count c.args.list.now) (stored_clauses c.args.alloc.now))
          c.args.alloc.now c.clauses.alloc c.clauses.left xs) e c.clauses.invariant.state) (omega arith) m c.delete_clause.ensures.deleted;
      tracks = c.delete_clause.ensures.tracks;
    }

pub header-requires-clause-place : goal.header-requires-clause-place
header-requires-clause-place g c = grind (arith, common_steps)

pub delete_clause-requires-clause-place : goal.delete_clause-requires-clause-place
delete_clause-requires-clause-place g c = grind (arith, common_steps)

pub delete_clause-requires-clause-live : goal.delete_clause-requires-clause-live
delete_clause-requires-clause-live g c = grind (arith, common_steps)

pub returns-clause-deleted : goal.returns-clause-deleted
returns-clause-deleted g c = grind (arith, common_steps)
