use Rattle.std.proofs.Common.{List, Bool, true, [], ◌∷◌, ◌++◌, refl, ap, ◌∙◌}
use Rattle.varisat_database.specs.Written.{WrittenClauses}
use Rattle.varisat_database.proofs.WrittenLemmas.{clauses_joined}
use Rattle.varisat_database.proofs.ListLemmas.{sound_grown, sound_same, sound_pushed}
use Rattle.varisat_database.proofs.database.Database.join.Goals as goal

pub invariant_of-self : goal.invariant_of-self
invariant_of-self g c =
    sound_grown c.self.inside.var_count c.self.inside.history.clauses c.self.inside.live.items c.self.inside.is_listed c.self.inside.names c.self.inside.occurrences c.list_clause.new.occurrences
    c.list_clause.ensures.grows c.self.invariant

pub invariant_of-self-in_err-reserve : goal.invariant_of-self-in_err-reserve
invariant_of-self-in_err-reserve g c =
    sound_same c.self.inside.var_count c.self.inside.history.clauses c.self.inside.history.clauses c.self.inside.live.items c.reserve.new.self.items c.self.inside.is_listed
    c.self.inside.names c.self.inside.occurrences c.list_clause.new.occurrences refl c.reserve.ensures.items c.list_clause.ensures.grows c.self.invariant

pub invariant_of-self-in_err-reserve-2 : goal.invariant_of-self-in_err-reserve-2
invariant_of-self-in_err-reserve-2 g c =
    sound_same c.self.inside.var_count c.self.inside.history.clauses c.self.inside.history.clauses c.self.inside.live.items c.reserve.new.self.items c.self.inside.is_listed
    c.self.inside.names c.self.inside.occurrences c.list_clause.new.occurrences refl c.reserve.ensures.items c.list_clause.ensures.grows c.self.invariant

pub invariant_of-self-in_err-push : goal.invariant_of-self-in_err-push
invariant_of-self-in_err-push g c =
    sound_same c.self.inside.var_count c.self.inside.history.clauses c.push.new.self.clauses c.self.inside.live.items c.reserve.new.self.items c.self.inside.is_listed
    c.self.inside.names c.self.inside.occurrences c.list_clause.new.occurrences (ap (λ (w : WrittenClauses). w.clauses) (c.in_err-push.ensures {u = tt}).refused) c.reserve.ensures.items c.list_clause.ensures.grows c.self.invariant

pub invariant_of-self-2 : goal.invariant_of-self-2
invariant_of-self-2 g c =
    sound_pushed c.self.inside.var_count c.self.inside.history.clauses c.push.new.self.clauses c.self.inside.live.items c.push_reserved.new.self.items c.self.inside.is_listed
    c.self.inside.names c.self.inside.occurrences c.list_clause.new.occurrences c.args.clause.now c.len-place.result c.len-place.ensures.count
    (ap (λ (w : WrittenClauses). w.clauses) (c.in_ok-push.ensures {u = tt}).ok ∙ clauses_joined c.args.is_given c.self.inside.history c.args.clause.now)
    (c.push_reserved.ensures.items ∙ ap (λ (bs : List Bool). bs ++ true ∷ []) c.reserve.ensures.items) c.list_clause.ensures.grows
    (c.in_ok-list_clause.ensures {u = tt}).ok c.self.invariant
