use Rattle.std.proofs.Common.{false, set, sym, ap, subst, refl, List}
use Rattle.varisat_theory.specs.promises.Literals.{Clause}
use Rattle.varisat_database.specs.Written.{WrittenClauses}
use Rattle.varisat_database.specs.Sound.{IsSoundDatabase}
use Rattle.varisat_database.proofs.ListLemmas.{sound_removed}
use Rattle.varisat_database.proofs.database.Database.remove.Goals as goal

pub invariant_of-self-2 : goal.invariant_of-self-2
invariant_of-self-2 g c =
    subst (λ (cs : List Clause). IsSoundDatabase c.self.inside.var_count cs (set c.self.inside.live.items c.args.place false) c.self.inside.is_listed c.self.inside.names c.self.inside.occurrences)
    (sym (ap (λ (w : WrittenClauses). w.clauses) (c.in_ok-delete.ensures {u = tt}).ok))
    (sound_removed c.self.inside.var_count c.self.inside.history.clauses c.self.inside.live.items (set c.self.inside.live.items c.args.place false)
    c.self.inside.is_listed c.self.inside.names c.self.inside.occurrences c.args.place refl c.self.invariant)
