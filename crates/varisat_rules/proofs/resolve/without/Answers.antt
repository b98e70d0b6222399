use Rattle.std.proofs.Common.{sym, ap, ◌∙◌}
use Rattle.varisat_database.proofs.ListLemmas.{item_at}
use Rattle.varisat_rules.proofs.ResolveLemmas.{leaves_kept, leaves_dropped, leaves_all}
use Rattle.varisat_rules.proofs.resolve.without.Goals as goal
use Rattle.varisat_rules.proofs.resolve.without.Goals.{then-code+in_ok-push, else-code}

pub loop-other-preserved : goal.loop-other-preserved
loop-other-preserved g c =
    let at = item_at c.args.clause.now c.loop-other.other-index c.other-item.result c.loop-other-test.true c.other-item.is in
    elim c.if-code.branch [
      | then-code+in_ok-push w ↦ leaves_kept c.args.clause.now c.args.lit c.loop-other.out.items c.if-code.out.items c.loop-other.other-index c.other-item.result
          c.loop-other-test.true at (λ q. w.if-code.true (c.code.ensures.code ∙ q ∙ sym c.code-in-loop-other.ensures.code))
          (ap (λ v. v.items) w.out-is ∙ w.in_ok-push.ensures.items) c.loop-other.invariant
      | else-code w ↦ leaves_dropped c.args.clause.now c.args.lit c.loop-other.out.items c.if-code.out.items c.loop-other.other-index c.other-item.result
          at (sym c.code.ensures.code ∙ w.if-code.false ∙ c.code-in-loop-other.ensures.code) (ap (λ v. v.items) w.out-is) c.loop-other.invariant
    ]

pub returns : goal.returns
returns g c = leaves_all c.args.clause.now c.args.lit c.loop-other.out.items c.loop-other.other-index c.loop-other-test.false c.loop-other.invariant
