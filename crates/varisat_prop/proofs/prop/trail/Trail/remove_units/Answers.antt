use Rattle.std.proofs.Common.{rules, ◌≡◌, length, not, arith}
use Rattle.std.proofs.lemmas.Fn.{filter_same}
use Rattle.varisat_theory.specs.promises.Literals.{variable_of}
use Rattle.varisat_prop.specs.Leaving.{leaves}
use Rattle.varisat_prop.proofs.views.Leaving.{trail-left}
use Rattle.varisat_prop.proofs.prop.trail.Trail.remove_units.Goals as goal

pub returns : goal.returns
returns g c =
    let gone = c.args.gone.now in
    let kept = filter_same _ (λ l. not (leaves gone (variable_of l))) _ (λ x b after called. search rules) _ _ c.retain.ensures.filtered in
    let q : c.len-self-inside.result ≡ length c.retain.new.self.items = omega (arith, c.len-self-inside.ensures) in
    rw (← c.self.view_is) (trail-left
    record { literals = c.self.inside.trail.items; queue_head = c.self.inside.queue_head_pos; decisions = c.self.inside.decisions.items }
    gone c.retain.new.self.items c.len-self-inside.result kept q)
