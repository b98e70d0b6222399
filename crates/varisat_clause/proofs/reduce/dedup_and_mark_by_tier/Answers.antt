use Rattle.std.proofs.lemmas.Grind.{common_steps}
use Rattle.std.proofs.Common.{ap, sym, subst, take, ◌∙◌, arith}
use Rattle.std.proofs.lemmas.List.{with_items_is}
use Rattle.varisat_clause.specs.Reductions.{CanMarkTier, MarksTier}
use Rattle.varisat_clause.proofs.MarkedClauses.{can-mark, tracks-listed}
use Rattle.varisat_clause.proofs.reduce.dedup_and_mark_by_tier.Goals as goal

pub mark_listed-count-requires : goal.mark_listed-count-requires
mark_listed-count-requires g c =
    subst (CanMarkTier c.args.tier c.args.alloc.now) (sym (c.deref_mut.ensures.value ∙ c.exchange_list.ensures.before))
    (can-mark c.args.tier c.args.db.now c.args.alloc.now c.requires.tracks c.requires.unmarked)

pub returns-clause-tracks : goal.returns-clause-tracks
returns-clause-tracks g c =
    let items = c.truncate.ensures.items ∙ ap (take c.mark_listed-count.result)
    (with_items_is c.exchange_list.new.list c.mark_listed-count.new.list (omega (arith, c.mark_listed-count.auto.list, c.deref_mut.ensures.len))) in
    let marks = subst (MarksTier c.args.tier c.args.alloc.now c.mark_listed-count.new.alloc) (sym items) c.mark_listed-count.ensures.marks in
    tracks-listed c.args.tier c.args.db.now c.exchange_list.new.self c.exchange_list-2.new.self c.args.alloc.now c.mark_listed-count.new.alloc _ _
    c.requires.tracks marks c.exchange_list.ensures.now c.exchange_list-2.ensures.now

pub returns-clause-marks : goal.returns-clause-marks
returns-clause-marks g c = grind (arith, common_steps)
