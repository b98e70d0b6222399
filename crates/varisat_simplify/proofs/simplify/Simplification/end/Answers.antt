use Rattle.std.proofs.Common.{ap, ◌∙◌, min}
use Rattle.varisat_simplify.specs.inside.Parts.{Simplification}
use Rattle.varisat_simplify.proofs.PartLemmas.{ends}
use Rattle.varisat_simplify.proofs.simplify.Simplification.end.Goals as goal

pub returns-clause-made : goal.returns-clause-made
returns-clause-made g c =
    let s : Simplification = record { database = c.self.inside.db; loaded = c.self.inside.count } in
    rw (← c.self.view_is) (ends s c.unlist.new.self c.min-loaded.result c.in_ok-made.made.formula c.in_ok-made.made.stack c.in_ok-made.made.history.lines
    c.unlist.ensures (c.min-loaded.ensures ∙ ap (λ n. min c.self.inside.count n) c.len.ensures.count) (c.in_ok-made.ensures {u = tt}).made)
