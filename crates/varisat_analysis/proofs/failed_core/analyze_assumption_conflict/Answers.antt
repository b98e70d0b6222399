use Rattle.std.proofs.Common.{◌≡◌, ◌*◌, false, length, drop, get_or, sym, ap, ◌∙◌, subst, arith}
use Rattle.std.proofs.lemmas.List.{length-replicate}
use Rattle.varisat_analysis.proofs.BumpedVariables.{false-all}
use Rattle.varisat_analysis.proofs.CoreWalk.{flags-back}
use Rattle.varisat_analysis.proofs.failed_core.analyze_assumption_conflict.Goals as goal

pub list_core-requires : goal.list_core-requires
list_core-requires g c κs within =
    let (_, (shows, (well, (false_now, flags)))) = c.requires in
    let n = length g.s.values in
    let value = c.deref_mut.ensures.value in (
      within,
      (
        record {
          well = well;
          sound = shows.sound;
          clauses_are = shows.clauses_are;
          nodes_are = shows.nodes_are;
          trail_is =
              shows.trail_is;
          decisions_are = shows.decisions_are;
        },
        (
          ap (λ xs. length xs) (value ∙ flags) ∙ length-replicate (2 * n) false,
          (false_now, λ l. subst (λ xs. get_or xs l false ≡ false) (sym (value ∙ flags)) (false-all (2 * n) l)),
        ),
      ),
    )

pub returns-clause-flags : goal.returns-clause-flags
returns-clause-flags g c =
    let (_, (_, (_, (_, flags)))) = c.requires in
    let x = c.args.flags.now.flags in
    let long = c.list_core.auto.flags in
    let value = ap (λ xs. length xs) c.deref_mut.ensures.value in
    let count = x.ok.0 in
    flags-back x.items c.list_core.new.flags (drop (length c.list_core.new.flags) x.items) x.len (2 * length g.s.values) (omega (arith, count))
    (omega (arith, long, value, count)) flags c.list_core.ensures.clear

pub returns-in_err-list_core-clause-flags : goal.returns-in_err-list_core-clause-flags
returns-in_err-list_core-clause-flags g c =
    let (_, (_, (_, (_, flags)))) = c.requires in
    let x = c.args.flags.now.flags in
    let long = c.list_core.auto.flags in
    let value = ap (λ xs. length xs) c.deref_mut.ensures.value in
    let count = x.ok.0 in
    flags-back x.items c.list_core.new.flags (drop (length c.list_core.new.flags) x.items) x.len (2 * length g.s.values) (omega (arith, count))
    (omega (arith, long, value, count)) flags c.list_core.ensures.clear
