use Rattle.std.proofs.Common.{◌≡◌, ◌+◌, ◌∷◌, [], max, MatchOption, sym, ap, ◌∙◌, subst, take, take_all, arith}
use Rattle.varisat_theory.specs.promises.Literals.{variable_of}
use Rattle.varisat_solver.specs.promises.Names.{Naming, name_all, NameNoWitness, IsFirstWitness, IsNextWitness}
use Rattle.varisat_solver.specs.inside.Accepting.{naming_of}
use Rattle.varisat_solver.proofs.accepting.NamesComing.{all-append, one-watermark, witness-more}
use Rattle.varisat_solver.proofs.calls.ReadPlaces.{take-item}
use Rattle.varisat_solver.proofs.name_checks.scan_names.Goals as goal

pub loop-lit-preserved : goal.loop-lit-preserved
loop-lit-preserved g c =
    let l = c.lit-item.result in
    let m = naming_of c.args.variables.now in
    let d = take c.loop-lit.lit-index c.args.clause.now in
    let after = c.next_witness-first.result in
    let t = take-item c.args.clause.now c.loop-lit.lit-index l c.loop-lit-test.true c.lit-item.is in
    let next : (name_all (take (c.loop-lit.lit-index + 1) c.args.clause.now) m).watermark ≡ max (name_all d m).watermark (variable_of l + 1) =
    ap (λ ls. (name_all ls m).watermark) t ∙ ap (λ (n : Naming). n.watermark) (all-append d (l ∷ []) m) ∙ one-watermark (variable_of l) (name_all d m) in
    record {
      watermark = omega (arith, next, c.index.ensures.index, c.loop-lit.invariant.watermark, c.max-watermark.ensures);
      witness = subst (λ ls. MatchOption after (NameNoWitness m ls) (IsFirstWitness m ls)) (sym t)
          (witness-more m d l c.loop-lit.first after c.loop-lit.invariant.witness
          (subst (λ u. IsNextWitness m c.loop-lit.first u after) c.var.ensures c.next_witness-first.ensures));
    }

pub returns-clause-witness : goal.returns-clause-witness
returns-clause-witness g c =
    let m = naming_of c.args.variables.now in
    subst (λ ls. MatchOption c.loop-lit.first (NameNoWitness m ls) (IsFirstWitness m ls))
    (take_all c.loop-lit.lit-index c.args.clause.now c.loop-lit-test.false) c.loop-lit.invariant.witness
