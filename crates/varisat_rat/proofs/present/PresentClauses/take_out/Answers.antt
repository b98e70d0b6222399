use Rattle.std.proofs.Common.{List, None, set, subst, sym, ap, ◌∙◌, refl, arith}
use Rattle.varisat_theory.specs.promises.Literals.{Clause}
use Rattle.varisat_theory.specs.promises.Membership.{◌∈◌}
use Rattle.varisat_theory.specs.promises.Derivations.{TakesOut}
use Rattle.varisat_present.specs.Places.{present}
use Rattle.varisat_rat.specs.inside.Asking.{IsSpare}
use Rattle.varisat_present.proofs.PlacedClauses.{at_in_slice, at_within, takes_out}
use Rattle.varisat_rat.proofs.FirstPlaces.{first_emptied}
use Rattle.varisat_present.proofs.QuietPairs.{literals_emptied}
use Rattle.varisat_rat.proofs.KeptLiterals.{keeps_without, keeps_none}
use Rattle.varisat_rat.proofs.present.PresentClauses.take_out.Goals as goal

pub returns-in-None-clause-absent : goal.returns-in-None-clause-absent
returns-in-None-clause-absent g c =
    λ e d m. c.in-None.ensures d (subst (λ (P : List Clause). d ∈ P) (sym (ap present c.deref.ensures.value ∙ c.self.view_is)) m)

pub index_mut-requires : goal.index_mut-requires
index_mut-requires g c =
    let h = at_within c.self.inside.places.items c.in-Some.place c.in-Some.ensures.0
    (at_in_slice c.deref.result.now c.self.inside.places.items c.in-Some.place c.in-Some.ensures.0 c.deref.ensures.value c.in-Some.ensures.1) in
    omega (arith, h)

pub invariant_of-self : goal.invariant_of-self
invariant_of-self g c = (
  let e = at_in_slice c.deref.result.now c.self.inside.places.items c.in-Some.place c.in-Some.ensures.0 c.deref.ensures.value c.in-Some.ensures.1 in
      let t = takes_out c.self.inside.places.items (set c.self.inside.places.items c.in-Some.place None) c.in-Some.place c.in-Some.ensures.0
      c.args.clause.now e c.in-Some.ensures.2 refl in
      let w = c.is_spare.ensures c.if-is_spare.true in
      keeps_without c.self.inside.is_saturated (present c.self.inside.places.items)
      (present (set c.self.inside.places.items c.in-Some.place None)) c.args.clause.now c.self.inside.known w.0 t
      (subst (λ (P : List Clause). IsSpare P c.self.inside.known c.args.clause.now) (ap present c.deref-2.ensures.value) w.1) c.self.invariant.0,
  first_emptied c.self.inside.places.items c.in-Some.place c.self.inside.firsts.items c.self.invariant.1,
  literals_emptied c.self.inside.places.items c.in-Some.place c.self.inside.ones.items c.self.invariant.2,
  literals_emptied c.self.inside.places.items c.in-Some.place c.self.inside.others.items c.self.invariant.3,
)

pub returns-then-is_spare-clause-taken : goal.returns-then-is_spare-clause-taken
returns-then-is_spare-clause-taken g c =
    λ q. let e = at_in_slice c.deref.result.now c.self.inside.places.items c.in-Some.place c.in-Some.ensures.0 c.deref.ensures.value c.in-Some.ensures.1 in
    let t = takes_out c.self.inside.places.items (set c.self.inside.places.items c.in-Some.place None) c.in-Some.place c.in-Some.ensures.0
    c.args.clause.now e c.in-Some.ensures.2 refl in
    subst (λ (P : List Clause). TakesOut P c.args.clause.now (present (set c.self.inside.places.items c.in-Some.place None))) c.self.view_is t

pub returns-clause-taken : goal.returns-clause-taken
returns-clause-taken g c =
    λ q. let e = at_in_slice c.deref.result.now c.self.inside.places.items c.in-Some.place c.in-Some.ensures.0 c.deref.ensures.value c.in-Some.ensures.1 in
    let t = takes_out c.self.inside.places.items (set c.self.inside.places.items c.in-Some.place None) c.in-Some.place c.in-Some.ensures.0
    c.args.clause.now e c.in-Some.ensures.2 refl in
    subst (λ (P : List Clause). TakesOut P c.args.clause.now (present (set c.self.inside.places.items c.in-Some.place None))) c.self.view_is t

pub invariant_of-self-2 : goal.invariant_of-self-2
invariant_of-self-2 g c = (
  keeps_none _ _ _ refl c.cut.ensures,
  first_emptied c.self.inside.places.items c.in-Some.place c.self.inside.firsts.items c.self.invariant.1,
  literals_emptied c.self.inside.places.items c.in-Some.place c.self.inside.ones.items c.self.invariant.2,
  literals_emptied c.self.inside.places.items c.in-Some.place c.self.inside.others.items c.self.invariant.3,
)
