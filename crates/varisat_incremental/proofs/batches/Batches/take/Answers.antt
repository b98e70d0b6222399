use Rattle.std.proofs.Common.{rules, ◌≡◌, ◌++◌, [], refl, sym, ap, ◌∙◌, subst}
use Rattle.varisat_formula.specs.promises.Formulas.{Formula}
use Rattle.varisat_incremental.specs.Batches.{Batches, Closes}
use Rattle.varisat_incremental.proofs.BatchLemmas.{takes-closed, takes-ended}
use Rattle.varisat_incremental.proofs.batches.Batches.take.Goals as goal

pub returns-then-is_empty : goal.returns-then-is_empty
returns-then-is_empty g c =
    let mid : Batches = record { reconstruction = c.self.inside.reconstruction; open_batch = c.self.inside.open_batch; ended = c.self.inside.ended.clauses } in
    let after : Batches = record { reconstruction = c.take.new.self; open_batch = c.self.inside.open_batch; ended = c.self.inside.ended.clauses } in
    let none : c.self.inside.ended.clauses ≡ [] = search rules in
    takes-closed c.args.formula.clauses c.in_ok-given.given.clauses c.args.assumed.now c.args.self.now mid after
    (subst (λ (b : Batches). Closes c.args.self.now b) (sym c.self.view_is) (c.in_ok-close.ensures {u = tt})) (c.in_ok-given.ensures {u = tt}) refl refl none

pub returns : goal.returns
returns g c =
    let G = c.in_ok-given.given.clauses in
    let mid : Batches = record { reconstruction = c.self.inside.reconstruction; open_batch = c.self.inside.open_batch; ended = c.self.inside.ended.clauses } in
    let after : Batches = record { reconstruction = c.take.new.self; open_batch = c.self.inside.open_batch; ended = c.replace-all.new.dest.clauses } in
    takes-ended c.args.formula.clauses G c.append.new.formula.clauses c.args.assumed.now c.args.self.now mid after
    (subst (λ (b : Batches). Closes c.args.self.now b) (sym c.self.view_is) (c.in_ok-close.ensures {u = tt})) (c.in_ok-given.ensures {u = tt}) refl
    (c.in_ok-append.ensures {u = tt} ∙ ap (λ (f : Formula). f.clauses ++ G) c.replace-all.ensures.value)
    (ap (λ (f : Formula). f.clauses) (c.replace-all.ensures.after ∙ c.new_in.ensures))
