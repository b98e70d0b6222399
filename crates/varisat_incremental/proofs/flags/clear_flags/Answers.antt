use Rattle.std.proofs.Common.{◌∙◌, sym, true, false, ◌≡◌}
use Rattle.varisat_database.proofs.ListLemmas.{item_at}
use Rattle.varisat_incremental.proofs.FlagLemmas.{next-clear}
use Rattle.varisat_incremental.proofs.flags.clear_flags.Goals as goal
use Rattle.varisat_incremental.proofs.flags.clear_flags.Goals.{then-is_any, else-is_any}

pub loop-lit-preserved : goal.loop-lit-preserved
loop-lit-preserved g c =
    let one = c.clear_flag-is_one.ensures in
    let at = item_at c.args.lits.now c.loop-lit.lit-index c.lit-item.result c.loop-lit-test.true c.lit-item.is in
    record {
      fewer = λ v h. c.loop-lit.invariant.fewer v (one.fewer v h);
      clear = next-clear c.loop-lit.flags.items c.clear_flag-is_one.new.flags.items c.args.lits.now c.loop-lit.lit-index c.lit-item.result at one.fewer one.clear
          c.loop-lit.invariant.clear;
      same = λ e. elim c.if-is_any.branch [
        | then-is_any w ↦ absurd (let z : true ≡ false = sym w.if-is_any.true ∙ sym w.is_any-is ∙ e in cc)
        | else-is_any w ↦ one.same (sym w.is_any-is ∙ e) ∙ c.loop-lit.invariant.same w.if-is_any.false
      ];
    }
