use Rattle.std.proofs.Common.{◌+◌, ◌∷◌, ◌++◌, [], ℕ, sym, subst, take}
use Rattle.varisat_theory.specs.promises.Literals.{variable_of}
use Rattle.varisat_solver.specs.promises.Names.{name_all, name_one}
use Rattle.varisat_solver.specs.inside.Accepting.{naming_of, ComesAlone}
use Rattle.varisat_solver.proofs.accepting.NamesComing.{AreCounted, all-append, counted-same, counted-more}
use Rattle.varisat_solver.proofs.calls.ReadPlaces.{take-item}
use Rattle.varisat_solver.proofs.name_checks.count_alone.Goals.{then-comes_alone, else-comes_alone}
use Rattle.varisat_solver.proofs.name_checks.count_alone.Goals as goal

pub loop-index-preserved : goal.loop-index-preserved
loop-index-preserved g c =
    let l = c.index-clause-index.result in
    let v = c.args.variables.now in
    let m = naming_of v in
    let d = take c.loop-index.index c.args.clause.now in
    let t = take-item c.args.clause.now c.loop-index.index l c.loop-index-test.true c.index-clause-index.is in
    let whole : (k : ℕ) → AreCounted m (d ++ l ∷ []) (name_one (variable_of l) (name_all d m)) k →
    AreCounted m (take (c.loop-index.index + 1) c.args.clause.now) (name_all (take (c.loop-index.index + 1) c.args.clause.now) m) k =
    λ k x. subst (λ ls. AreCounted m ls (name_all ls m) k) (sym t) (subst (λ n. AreCounted m (d ++ l ∷ []) n k) (sym (all-append d (l ∷ []) m)) x) in
    elim c.if-comes_alone.branch [
      | then-comes_alone w ↦
          let (a, b, e) = subst (ComesAlone v d) c.var.ensures w.if-comes_alone.ensures in
          whole c.if-comes_alone.count (subst (AreCounted m (d ++ l ∷ []) (name_one (variable_of l) (name_all d m))) (sym w.count-is)
          (counted-more m (name_all d m) d l c.loop-index.count c.loop-index.invariant a b e))
      | else-comes_alone w ↦
          whole c.if-comes_alone.count (subst (AreCounted m (d ++ l ∷ []) (name_one (variable_of l) (name_all d m))) (sym w.count-is)
          (counted-same m (name_all d m) d l c.loop-index.count c.loop-index.invariant
          (λ a b e. subst (λ u. ComesAlone v d u → ⊥) c.var.ensures w.if-comes_alone.ensures (a, b, e))))
    ]
