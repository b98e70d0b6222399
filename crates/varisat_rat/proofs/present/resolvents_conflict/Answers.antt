use Rattle.std.proofs.Common.{List, [], refl, sym, ◌∙◌, subst, arith}
use Rattle.varisat_theory.specs.promises.Literals.{Literal}
use Rattle.varisat_theory.specs.promises.Propagation.{HasClash}
use Rattle.varisat_present.specs.Places.{present}
use Rattle.varisat_present.specs.Knowing.{AreImplied}
use Rattle.varisat_rat.proofs.RatPlaces.{conflict_on, conflict_all, one_does_not, restored}
use Rattle.varisat_rat.proofs.present.resolvents_conflict.Goals as goal

pub loop-place-init : goal.loop-place-init
loop-place-init g c = record { same = refl; so_far = c.requires.none }

pub resolvent_conflicts-requires : goal.resolvent_conflicts-requires
resolvent_conflicts-requires g c = record {
  no_clash = subst (λ (x : List Literal). HasClash x → ⊥) (sym c.loop-place.invariant.same) c.requires.no_clash;
  implied = subst (λ (x : List Literal). AreImplied (present c.args.places.now) [] x) (sym c.loop-place.invariant.same) c.requires.implied;
}

pub returns-then-not-found-clause-found : goal.returns-then-not-found-clause-found
returns-then-not-found-clause-found g c =
    one_does_not c.args.places.now c.loop-place.place c.args.base.now c.loop-place.known c.args.literal c.in_ok-found.found
    c.resolvent_conflicts.new.known c.if-not-found.true c.in_ok-found.ensures

pub returns-then-not-found-clause-frame : goal.returns-then-not-found-clause-frame
returns-then-not-found-clause-frame g c =
    c.cut.ensures ∙ restored c.args.places.now c.loop-place.place c.args.base.now c.args.known.now c.loop-place.known c.args.literal c.in_ok-found.found
    c.resolvent_conflicts.new.known c.len-count.result c.len-count.ensures c.loop-place.invariant.same c.in_ok-found.ensures

pub loop-place-preserved : goal.loop-place-preserved
loop-place-preserved g c = record {
  same = c.cut.ensures ∙ restored c.args.places.now c.loop-place.place c.args.base.now c.args.known.now c.loop-place.known c.args.literal
      c.in_ok-found.found c.resolvent_conflicts.new.known c.len-count.result c.len-count.ensures c.loop-place.invariant.same c.in_ok-found.ensures;
  so_far = conflict_on c.args.places.now c.loop-place.place c.args.base.now c.args.literal (c.in_ok-found.ensures.yes c.if-not-found.false)
      c.loop-place.invariant.so_far;
}

pub returns-clause-found : goal.returns-clause-found
returns-clause-found g c =
    conflict_all c.args.places.now c.loop-place.place c.args.base.now c.args.literal (omega (arith, c.loop-place-test.false)) c.loop-place.invariant.so_far
