use Rattle.std.proofs.lemmas.Grind.{common_steps}
use Rattle.std.proofs.Common.{◌≡◌, ◌*◌, false, length, drop, refl, sym, ap, ◌∙◌, arith}
use Rattle.std.proofs.lemmas.List.{length-replicate}
use Rattle.varisat_analysis.proofs.BumpedVariables.{clear-given-back}
use Rattle.varisat_prop.proofs.watching.LongVisited.{listed}
use Rattle.varisat_analysis.proofs.CopiedLiterals.{own-list}
use Rattle.varisat_search.proofs.load.collect_distinct.Goals as goal

pub collect_flagged-requires-clause-known : goal.collect_flagged-requires-clause-known
collect_flagged-requires-clause-known g c = λ l h.
    let x = c.args.ctx.now in
    let n = length x.assignment.current in
    let i = c.requires.in_range l h in
    let f : length x.tmp_flags.flags.items ≡ 2 * n = ap (λ xs. length xs) c.requires.flags ∙ length-replicate (2 * n) false in
    let v = ap (λ xs. length xs) c.deref_mut.ensures.value in
    let a = own-list l n i in
    let b = listed l n i in
    (omega (arith, a, f, v), omega (arith, b, f, v))

pub returns-clause-frame : goal.returns-clause-frame
returns-clause-frame g c =
    let x = c.args.ctx.now in
    let n = length x.assignment.current in
    let news = c.collect_flagged.new.flags in
    let long = c.collect_flagged.auto.flags in
    let value = ap (λ xs. length xs) c.deref_mut.ensures.value in
    let count = x.tmp_flags.flags.ok.0 in
    let f : length x.tmp_flags.flags.items ≡ 2 * n = ap (λ xs. length xs) c.requires.flags ∙ length-replicate (2 * n) false in (
      refl,
      clear-given-back news (drop (length news) x.tmp_flags.flags.items) x.tmp_flags.flags.len (2 * n) (omega (arith, long, value, count))
          (omega (arith, f, count)) c.collect_flagged.ensures.clear ∙ sym c.requires.flags,
    )

pub returns-in_err-found-clause-frame : goal.returns-in_err-found-clause-frame
returns-in_err-found-clause-frame g c =
    let x = c.args.ctx.now in
    let n = length x.assignment.current in
    let news = c.collect_flagged.new.flags in
    let long = c.collect_flagged.auto.flags in
    let value = ap (λ xs. length xs) c.deref_mut.ensures.value in
    let count = x.tmp_flags.flags.ok.0 in
    let f : length x.tmp_flags.flags.items ≡ 2 * n = ap (λ xs. length xs) c.requires.flags ∙ length-replicate (2 * n) false in (
      refl,
      clear-given-back news (drop (length news) x.tmp_flags.flags.items) x.tmp_flags.flags.len (2 * n) (omega (arith, long, value, count))
          (omega (arith, f, count)) c.collect_flagged.ensures.clear ∙ sym c.requires.flags,
    )

pub collect_flagged-requires-clause-clear : goal.collect_flagged-requires-clause-clear
collect_flagged-requires-clause-clear g c = grind (arith, common_steps)
