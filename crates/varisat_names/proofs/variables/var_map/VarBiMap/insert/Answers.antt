use Rattle.std.proofs.Common.{◌≡◌, ap, sym, ◌∙◌, subst, refl}
use Rattle.varisat_names.specs.promises.VarMap.{at}
use Rattle.varisat_names.specs.promises.Maps.{IsInverse}
use Rattle.varisat_names.specs.promises.VarBiMap.{BiMap}
use Rattle.varisat_names.proofs.VarMap.{as-before}
use Rattle.varisat_names.proofs.variables.var_map.VarBiMap.insert.Goals as goal

pub invariant_of-self-in-Err : goal.invariant_of-self-in-Err
invariant_of-self-in-Err g c =
    let free = ap (λ m. at m.forward c.args.from) c.self.view_is ∙ c.requires.from_is_free in
    let fwd = as-before c.self.inside.fwd c.insert.new.self c.remove.new.self c.cut.new.self c.args.from c.args.into c.watermark-watermark.result
    c.watermark-watermark.ensures free c.in_ok-insert.ensures.put c.remove.ensures.below c.cut.ensures in
    subst (λ f. IsInverse (at f) (at c.insert-2.new.self)) (sym fwd)
    (subst (λ b. IsInverse (at c.self.inside.fwd) (at b)) (sym c.in-Err.ensures.refused) c.self.invariant)

pub returns-in-Err-clause-refused : goal.returns-in-Err-clause-refused
returns-in-Err-clause-refused g c =
    let free = ap (λ m. at m.forward c.args.from) c.self.view_is ∙ c.requires.from_is_free in
    let fwd = as-before c.self.inside.fwd c.insert.new.self c.remove.new.self c.cut.new.self c.args.from c.args.into c.watermark-watermark.result
    c.watermark-watermark.ensures free c.in_ok-insert.ensures.put c.remove.ensures.below c.cut.ensures in
    let both : ◌≡◌ {A = BiMap} (record { forward = c.cut.new.self; backward = c.insert-2.new.self })
    (record { forward = c.self.inside.fwd; backward = c.self.inside.bwd }) =
    subst (λ f. ◌≡◌ {A = BiMap} (record { forward = f; backward = c.insert-2.new.self })
    (record { forward = c.self.inside.fwd; backward = c.self.inside.bwd })) (sym fwd)
    (subst (λ b. ◌≡◌ {A = BiMap} (record { forward = c.self.inside.fwd; backward = b })
    (record { forward = c.self.inside.fwd; backward = c.self.inside.bwd })) (sym c.in-Err.ensures.refused) refl) in
    both ∙ c.self.view_is
