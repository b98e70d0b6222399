use Rattle.std.proofs.Common.{refl}
use Rattle.varisat_simplify.specs.inside.Parts.{Simplification}
use Rattle.varisat_simplify.proofs.PartLemmas.{goes_on}
use Rattle.varisat_simplify.proofs.simplify.Simplification.go_on.Goals as goal

pub returns : goal.returns
returns g c =
    let s : Simplification = record { database = c.self.inside.db; loaded = c.self.inside.count } in
    let t : Simplification = record { database = c.advance.new.db; loaded = c.self.inside.count } in
    rw (← c.self.view_is) (goes_on s t (c.in_ok-stage.ensures {u = tt}) refl)
