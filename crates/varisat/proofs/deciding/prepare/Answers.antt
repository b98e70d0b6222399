-- A new solver refuses neither call.
use Rattle.std.proofs.Common.{sym, ap, ◌∙◌, subst}
use Rattle.varisat_solver.specs.promises.States.{State, new_state}
use Rattle.varisat_solver.specs.inside.Representations.{Represents}
use Rattle.varisat.specs.promises.Proven.{prepared}
use Rattle.varisat.proofs.ProgramDecides.{no-target, configures-new, opens-configured}
use Rattle.varisat.proofs.deciding.prepare.Goals as goal

pub returns-in-Some : goal.returns-in-Some
returns-in-Some g c =
    let limit = c.args.options.max_steps in
    let (s, a, x) = c.config.ensures (new_state c.args.options.check) c.requires.new in
    let same = configures-new c.args.options.check limit c.new-update.result c.config.result s c.new-update.ensures a in
    let (t, b, y) = c.write_proof.ensures s x in
    let opened = opens-configured g.W.ProofTarget.taken c.in-Some.target c.args.options.format c.args.options.check limit s t c.write_proof.result same b in
    subst (λ (o : State). Represents c.write_proof.new.self o)
    (opened ∙ ap (prepared g.W.ProofTarget.taken c.args.options.format c.args.options.check limit) (sym c.in-Some.is)) y

pub returns-in_default : goal.returns-in_default
returns-in_default g c =
    let limit = c.args.options.max_steps in
    let (s, a, x) = c.config.ensures (new_state c.args.options.check) c.requires.new in
    let same = configures-new c.args.options.check limit c.new-update.result c.config.result s c.new-update.ensures a in
    subst (λ (o : State). Represents c.config.new.self o)
    (same ∙ ap (prepared g.W.ProofTarget.taken c.args.options.format c.args.options.check limit) (sym (no-target c.args.target c.in_default.not-Some))) x
