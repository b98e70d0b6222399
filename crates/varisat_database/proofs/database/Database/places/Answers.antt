use Rattle.std.proofs.Common.{arith, sym, subst, length, ◌≤◌}
use Rattle.varisat_theory.specs.promises.Membership.{◌∈◌}
use Rattle.varisat_database.specs.Databases.{DatabaseState, clause_at, IsLive}
use Rattle.varisat_database.proofs.ListLemmas.{listed_beyond}
use Rattle.varisat_database.proofs.database.Database.places.Goals as goal

pub returns-then-code-len-clause-all : goal.returns-then-code-len-clause-all
returns-then-code-len-clause-all g c = λ k live h.
    let d = c.len.ensures in
    let e = c.if-code-len.true in
    let f = c.code.ensures.code in
    let n : length c.self.inside.occurrences ≤ c.of-short.result = omega (arith, d, e, f) in
    listed_beyond c.self.inside.names c.self.inside.history.clauses c.self.inside.live.items c.self.inside.occurrences k c.args.lit c.of-short.result c.of-short.ensures n
    (c.self.invariant.listed c.if-not-self.false) (subst (λ (s : DatabaseState). IsLive s k) (sym c.self.view_is) live)
    (subst (λ (s : DatabaseState). c.args.lit ∈ clause_at s k) (sym c.self.view_is) h)
