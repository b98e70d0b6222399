use Rattle.std.proofs.Common.{◌∙◌, sym, ap}
use Rattle.varisat_theory.specs.promises.Held.{mentions}
use Rattle.varisat_present.proofs.PlacedClauses.{same_clause}
use Rattle.varisat_present.proofs.places.mentions_at.Goals as goal

pub returns-in-Some-clause-yes : goal.returns-in-Some-clause-yes
returns-in-Some-clause-yes g c = λ e. (c.in-Some.clause.now, c.in-Some.ensures, sym c.mentions.ensures ∙ e)

pub returns-in-Some-clause-no : goal.returns-in-Some-clause-no
returns-in-Some-clause-no g c =
    λ e d q. ap (mentions c.args.var) (same_clause c.args.places.now c.args.place d c.in-Some.clause.now q c.in-Some.ensures) ∙ sym c.mentions.ensures ∙ e
