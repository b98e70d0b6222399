-- A restart computes the next one, which is later.
use Rattle.std.proofs.Common.{◌≡◌, ◌+◌, ◌*◌, ◌<◌, suc, ap, ◌∙◌, sym, subst}
use Rattle.varisat_theory.specs.inside.Luby.{saturated}
use Rattle.varisat_schedule.specs.Plans.{Plan, IsPlan}
use Rattle.varisat_schedule.proofs.RestartPlans.{restart_behind, restarted-plan}
use Rattle.varisat_schedule.proofs.schedule.Schedule.begin_step.Goals as goal

abbrev before : goal.After-self-1 → Plan
before c = record { steps = c.self.inside.steps; next_restart = c.self.inside.next_restart; next_term = c.self.inside.luby }

next_is : (c : goal.After-self-1) → c.saturating_add-self-inside.result ≡ restart_behind c.args.scale (before c)
next_is c =
    c.saturating_add-self-inside.ensures ∙ ap (λ x. saturated (c.self.inside.next_restart + x))
    (c.saturating_mul-interval.ensures ∙ ap (λ x. saturated (c.args.scale * x)) c.advance.ensures.term)

restarted : (c : goal.After-self-1) →
    IsPlan (record (before c) { next_restart = restart_behind c.args.scale (before c); next_term = suc c.self.inside.luby })
    × (c.self.inside.steps < restart_behind c.args.scale (before c))
restarted c =
    restarted-plan c.args.scale (before c) c.self.invariant c.if-self.false
    (subst (λ (p : Plan). p.steps < 18446744073709551615) (sym c.self.view_is) c.requires.counted) c.requires.scaled

pub invariant_of-self : goal.invariant_of-self
invariant_of-self c =
    subst (λ x. IsPlan (record (before c) { next_restart = x; next_term = c.advance.new.self })) (sym (next_is c))
    (subst (λ x. IsPlan (record (before c) { next_restart = restart_behind c.args.scale (before c); next_term = x })) (sym c.advance.ensures.next)
    (restarted c).0)

pub returns-clause-later : goal.returns-clause-later
returns-clause-later c = subst (λ x. c.self.inside.steps < x) (sym (next_is c)) (restarted c).1
