use Rattle.std.proofs.Common.{get_or, refl, sym, ap, ◌∙◌, subst}
use Rattle.varisat_theory.specs.promises.Membership.{◌∈◌}
use Rattle.varisat_theory.specs.promises.Literals.{Clause, opposite}
use Rattle.varisat_rules.proofs.ResolveLemmas.{refused, granted}
use Rattle.varisat_rules.proofs.FlowLemmas.{collecting_first, collecting_pass, collecting_push, collecting_end}
use Rattle.varisat_rules.proofs.eliminate.collect.Goals as goal
use Rattle.varisat_rules.proofs.eliminate.collect.Goals.{then-is_live+then-holds+else-holds-2+in_ok-push, then-is_live+else-holds, else-is_live}

pub loop-place-init : goal.loop-place-init
loop-place-init g c = collecting_first c.args.db.now c.args.lit c.in-Some.places.now c.clear.new.self.items c.clear.ensures.items

pub loop-place-preserved : goal.loop-place-preserved
loop-place-preserved g c =
    let s = c.args.db.now in
    let items = c.in-Some.places.now in
    let i = c.loop-place.place-index in
    let x = get_or items i 0 in
    elim c.if-is_live.branch [
      | then-is_live+then-holds+else-holds-2+in_ok-push w ↦ collecting_push s c.args.lit items c.loop-place.out.items c.if-is_live.out.items i x refl
          (sym c.is_live.ensures ∙ w.if-is_live.true)
          (subst (λ (d : Clause). c.args.lit ∈ d) w.clause-clause.ensures (granted _ w.holds.result w.if-holds.true w.holds.ensures))
          (λ h. refused _ w.holds-then-holds.result w.if-holds-2.false w.holds-then-holds.ensures
          (subst (λ m. m ∈ w.clause-clause.result.now) (sym w.not.ensures) (subst (λ (d : Clause). opposite c.args.lit ∈ d) (sym w.clause-clause.ensures) h)))
          (ap (λ v. v.items) w.out-is ∙ w.in_ok-push.ensures.items) c.loop-place.invariant
      | then-is_live+else-holds w ↦ collecting_pass s c.args.lit items c.loop-place.out.items c.if-is_live.out.items i x refl
          (λ a b. refused _ w.holds.result w.if-holds.false w.holds.ensures (subst (λ (d : Clause). c.args.lit ∈ d) (sym w.clause-clause.ensures) b))
          (ap (λ v. v.items) w.out-is) c.loop-place.invariant
      | else-is_live w ↦ collecting_pass s c.args.lit items c.loop-place.out.items c.if-is_live.out.items i x refl
          (λ a b. let t = sym w.if-is_live.false ∙ c.is_live.ensures ∙ a in cc)
          (ap (λ v. v.items) w.out-is) c.loop-place.invariant
    ]

pub returns : goal.returns
returns g c = λ t. collecting_end c.args.db.now c.args.lit c.in-Some.places.now c.loop-place.out.items c.loop-place.place-index
    c.loop-place-test.false (c.in-Some.ensures {u = tt}).even (c.in-Some.ensures {u = tt}).all c.loop-place.invariant
