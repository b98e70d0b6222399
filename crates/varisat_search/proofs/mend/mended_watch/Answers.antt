use Rattle.std.proofs.Common.{length, refl, sym, ap, ◌∙◌, subst, arith}
use Rattle.varisat_theory.specs.promises.Membership.{◌∈◌}
use Rattle.varisat_theory.specs.promises.Literals.{Clause}
use Rattle.varisat_clause.specs.Headers.{Header}
use Rattle.varisat_clause.proofs.DatabaseTracks.{long-at}
use Rattle.varisat_clause.proofs.LiveStore.{live-literals}
use Rattle.varisat_search.proofs.simplifying.MendedLists.{still-live, not-live}
use Rattle.varisat_search.proofs.mend.mended_watch.Goals as goal

pub returns-then-deleted : goal.returns-then-deleted
returns-then-deleted g c = not-live c.args.clause_alloc.now c.args.watch.cref c.requires.sound
    (sym (c.deleted.ensures ∙ ap (λ (h : Header). h.deleted) c.header.ensures) ∙ c.if-deleted.true)

pub other_watched-blocking-requires : goal.other_watched-blocking-requires
other_watched-blocking-requires g c =
    let n = ap (λ (d : Clause). length d) c.lits.ensures in
    let m = (long-at c.args.clause_alloc.now c.args.watch.cref c.requires.sound c.requires.place).0 in
    omega (arith, n, m)

pub returns : goal.returns
returns g c =
    let s = c.args.clause_alloc.now in
    let p = c.args.watch.cref in
    let live = still-live s p c.requires.place (sym (c.deleted.ensures ∙ ap (λ (h : Header). h.deleted) c.header.ensures) ∙ c.if-deleted.false) in (
      refl,
      live,
      subst (λ (d : Clause). c.other_watched-blocking.result ∈ d) (c.lits.ensures ∙ live-literals s p c.requires.sound live)
          c.other_watched-blocking.ensures,
    )
