use Rattle.std.proofs.Common.{List, ◌<◌, ◌≤◌, refl, sym, ap, ◌∙◌, subst}
use Rattle.varisat_theory.specs.promises.Literals.{Clause}
use Rattle.varisat_incremental.specs.Reconstructions.{Reconstruction}
use Rattle.varisat_incremental.proofs.TakingLemmas.{saves-first, saves-next, saves-all}
use Rattle.varisat_incremental.proofs.reconstruction.Reconstruction.save.Goals as goal

pub loop-place-init : goal.loop-place-init
loop-place-init g c =
    saves-first c.args.saved.now c.args.self.now _
    (ap (λ (S : List Clause). record { stack = S; eliminated = c.self.inside.eliminated.items; frozen = c.self.inside.frozen.items }) c.reserve.ensures ∙ c.self.view_is)

pub loop-place-preserved : goal.loop-place-preserved
loop-place-preserved g c =
    let led = c.in_ok-flag_first.ensures {u = tt} in
    saves-next c.args.saved.now c.loop-place.place c.clause-clause.result.now c.args.self.now _ _
    (subst (λ n. c.loop-place.place < n) c.len-place-end.ensures c.loop-place-test.true) c.clause-clause.ensures (c.in_ok-push.ensures {u = tt}).ok refl
    led.keeps led.led c.loop-place.invariant

pub returns : goal.returns
returns g c =
    saves-all c.args.saved.now c.loop-place.place c.args.self.now _ (subst (λ n. n ≤ c.loop-place.place) c.len-place-end.ensures c.loop-place-test.false)
    c.loop-place.invariant
