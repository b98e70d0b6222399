use Rattle.std.proofs.Common.{◌∙◌, not, refl, sym, ap, arith}
use Rattle.varisat_names.specs.promises.VarMap.{at}
use Rattle.varisat_names.proofs.VarMap.{at-inside}
use Rattle.varisat_solver.proofs.calls.FixedLiterals.{fixed-call}
use Rattle.varisat_solver.proofs.leaving.DetachedAlone.{sign-same}
use Rattle.varisat_solver.proofs.solver.Solver.is_fixed.Goals as goal

pub is_fixed_to-requires-clause-known : goal.is_fixed_to-requires-clause-known
is_fixed_to-requires-clause-known g c v e =
    let inside = at-inside c.self.inside.tracer.tables.solvers.backward v c.in-Some.global (c.prove_linked.ensures.solvers.there c.in-Some.global v e) in
    let count = (c.self.invariant c.if-self.false).kept.count in
    omega (arith, inside, count)

pub returns-in-Some-clause-call : goal.returns-in-Some-clause-call
returns-in-Some-clause-call g c s st =
    let q = rw (← c.self.view_is) at st in
    let path = c.get.ensures ∙ ap (λ m. at m c.var.result) c.global_from_user.ensures ∙ ap (at c.self.inside.tracer.tables.users.forward) c.var.ensures in (
      s,
      (
        λ e. fixed-call _ s (c.self.invariant c.if-self.false).kept.ready.well q (ap not c.if-self.false) c.args.lit c.in-Some.global
            c.is_positive.result (sym path ∙ c.in-Some.is) (sign-same c.args.lit c.is_positive.result c.is_positive.ensures) (c.is_fixed_to.ensures.0 e),
        refl,
      ),
      st,
    )
