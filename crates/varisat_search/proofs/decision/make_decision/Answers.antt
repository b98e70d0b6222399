use Rattle.std.proofs.Common.{◌≡◌, ◌<◌, Some, false, length, get_or, ⊎_elim, refl, sym, ap, ◌∙◌, subst, arith}
use Rattle.varisat_theory.specs.promises.Literals.{variable_of}
use Rattle.varisat_literals.specs.promises.Numbers.{polarity_of}
use Rattle.varisat_prop.proofs.trails.TrailValues.{fits-node}
use Rattle.varisat_vsids.specs.Activities.{Activities}
use Rattle.varisat_search.specs.declared.context.Context.{Context}
use Rattle.varisat_search.specs.Contexts.{view}
use Rattle.varisat_search.specs.Decisions.{TakesUnassigned, SameDecidable, CanDecide}
use Rattle.varisat_search.proofs.variables.DecidableVariables.{decided-same, none-same, decided-decidable, none-decidable}
use Rattle.varisat_theory.proofs.clauses.Values.{variable-literal}
use Rattle.varisat_prop.proofs.trails.LiteralValues.{polarity-literal}
use Rattle.varisat_search.proofs.decision.make_decision.Given.{Over}
use Rattle.varisat_search.proofs.decision.make_decision.Goals.{In_ok-decide_lit}
use Rattle.varisat_search.proofs.decision.make_decision.Goals as goal

variable-is : (g : Over) (c : In_ok-decide_lit g) → variable_of c.lit-lit.result ≡ c.in-Some.var
variable-is g c = ap variable_of c.lit-lit.ensures ∙ variable-literal c.in-Some.var c.last_var_value.result

taken : (g : Over) (c : In_ok-decide_lit g) → TakesUnassigned c.args.ctx.now.assignment.current c.args.ctx.now.vsids c.take_unassigned.new.vsids
    (Some (variable_of c.lit-lit.result))
taken g c = subst (λ v. TakesUnassigned c.args.ctx.now.assignment.current c.args.ctx.now.vsids c.take_unassigned.new.vsids (Some v))
    (sym (variable-is g c)) c.in-Some.ensures

inside : (g : Over) (c : In_ok-decide_lit g) → variable_of c.lit-lit.result < length c.args.ctx.now.assignment.current
inside g c = let k = (taken g c).found.known in let n = c.requires.decidable.entries.activity in omega (arith, k, n)

stays : (g : Over) (c : In_ok-decide_lit g) → c.decide_lit.new.ctx.vsids ≡ c.take_unassigned.new.vsids
stays g c = ap (λ (x : Context g.row.A.Denot). x.vsids) c.decide_lit.ensures.frame

pub decide_lit-requires-clause-level : goal.decide_lit-requires-clause-level
decide_lit-requires-clause-level g c = (fits-node (view c.args.ctx.now) c.requires.well).0

pub decide_lit-requires-clause-depth : goal.decide_lit-requires-clause-depth
decide_lit-requires-clause-depth g c = (fits-node (view c.args.ctx.now) c.requires.well).1

pub returns-clause-decided : goal.returns-clause-decided
returns-clause-decided g c =
    let x = c.args.ctx.now in
    let here = (goal.at.returns-clause-decided g c).In_ok-decide_lit in
    let k = taken g here in (
      c.lit-lit.result,
      (inside g here, k.found.unassigned),
      c.in_ok-decide_lit.ensures.decided.level,
      ap polarity_of c.lit-lit.ensures ∙ polarity-literal c.in-Some.var c.last_var_value.result ∙ c.last_var_value.ensures
          ∙ ap (λ v. get_or x.assignment.last v false) (sym (variable-is g here)),
      k.found,
    )

pub returns-clause-forward : goal.returns-clause-forward
returns-clause-forward g c =
    let x = c.args.ctx.now in
    let z = c.decide_lit.new.ctx in
    let here = (goal.at.returns-clause-forward g c).In_ok-decide_lit in
    record {
      decidable = subst (λ (y : Activities). SameDecidable (view x) x.vsids (view z) y) (sym (stays g here))
          (subst (λ u. SameDecidable (view x) x.vsids u c.take_unassigned.new.vsids) (sym c.in_ok-decide_lit.ensures.decided.level)
          (decided-same (view x) x.vsids c.take_unassigned.new.vsids c.requires.decidable c.lit-lit.result (inside g here) (taken g here)));
      activities = subst (λ (y : Activities). y ≡ record x.vsids { available = y.available }) (sym (stays g here)) (taken g here).rest;
      last = c.in_ok-decide_lit.ensures.decided.last;
      state = ap (λ (y : Context g.row.A.Denot). y.solver_state) c.decide_lit.ensures.frame;
    }

pub returns-clause-decidable : goal.returns-clause-decidable
returns-clause-decidable g c =
    let x = c.args.ctx.now in
    let z = c.decide_lit.new.ctx in
    let here = (goal.at.returns-clause-decidable g c).In_ok-decide_lit in
    subst (λ (y : Activities). CanDecide (view z) y) (sym (stays g here))
    (subst (λ u. CanDecide u c.take_unassigned.new.vsids) (sym c.in_ok-decide_lit.ensures.decided.level)
    (decided-decidable (view x) x.vsids c.take_unassigned.new.vsids c.requires.decidable c.lit-lit.result (inside g here) (taken g here)))

pub returns-in_default-clause-decided : goal.returns-in_default-clause-decided
returns-in_default-clause-decided g c =
    (refl, λ d i l j. ⊎_elim (λ n. n) (λ h. c.in_default.ensures.found (variable_of l) h) (c.requires.decidable.decidable d i l j))

pub returns-in_default-clause-forward : goal.returns-in_default-clause-forward
returns-in_default-clause-forward g c = record {
  decidable = none-same (view c.args.ctx.now) c.args.ctx.now.vsids c.take_unassigned.new.vsids c.requires.decidable c.in_default.ensures;
  activities = c.in_default.ensures.rest;
  last = refl;
  state = refl;
}

pub returns-in_default-clause-decidable : goal.returns-in_default-clause-decidable
returns-in_default-clause-decidable g c = none-decidable (view c.args.ctx.now) c.args.ctx.now.vsids c.take_unassigned.new.vsids c.requires.decidable
    c.in_default.ensures
