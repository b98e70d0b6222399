use Rattle.std.proofs.Common.{sym, ◌∙◌, subst}
use Rattle.varisat_incremental.specs.Reconstructions.{Reconstruction, BringsBack, Takes}
use Rattle.varisat_incremental.proofs.TakingLemmas.{takes}
use Rattle.varisat_incremental.proofs.reconstruction.Reconstruction.take.Goals as goal

pub returns : goal.returns
returns g c =
    let F = c.args.formula.clauses in
    let A = c.args.assumed.now in
    let X = c.append.new.formula.clauses in
    subst (λ (s : Reconstruction). Takes F A X c.args.self.now s) (sym c.count_given.ensures)
    (takes F c.in_ok-given.given.clauses c.in_ok-left.left.clauses X A c.args.self.now c.bring_back.new.self c.take_rest.new.self
    (subst (λ (r : Reconstruction). BringsBack F A c.in_ok-given.given.clauses r c.bring_back.new.self) (c.note_named.ensures ∙ c.keeps_stack-keeps.ensures) (c.in_ok-given.ensures {u = tt}))
    (c.in_ok-left.ensures {u = tt}) (c.in_ok-append.ensures {u = tt}))
