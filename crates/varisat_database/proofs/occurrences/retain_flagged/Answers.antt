use Rattle.std.proofs.Common.{rules}
use Rattle.std.proofs.lemmas.Fn.{filter_same}
use Rattle.varisat_database.specs.Flags.{is_flagged}
use Rattle.varisat_database.proofs.occurrences.retain_flagged.Goals as goal

pub returns : goal.returns
returns g c = filter_same _ (is_flagged c.args.flags.now) _ (λ x b after called. search rules) _ _ c.retain.ensures.filtered
