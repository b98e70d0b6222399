use Rattle.std.proofs.lemmas.Grind.{common_steps}
use Rattle.std.proofs.Common.{◌≡◌, ℕ, length, ap, sym, subst, arith}
use Rattle.varisat_theory.specs.promises.Membership.{◌∈◌}
use Rattle.varisat_theory.proofs.clauses.Places.{∈-get_or}
use Rattle.varisat_clause.specs.Stores.{Store}
use Rattle.varisat_clause.proofs.StoreWords.{to-place}
use Rattle.varisat_clause.proofs.alloc.ClauseAlloc.place.Goals as goal

pub returns-clause-known : goal.returns-clause-known
returns-clause-known g c =
    let s : Store = c.args.self.now in
    let v : c.self.inside.places.items ≡ s.places = ap (λ (x : Store). x.places) c.self.view_is in
    let i : c.index.result.now ∈ c.self.inside.places.items = subst (λ (x : ℕ). x ∈ c.self.inside.places.items) (sym c.index.ensures)
    (∈-get_or c.self.inside.places.items c.args.index c.index.result.now
    (let l = ap (λ (x : Store). length x.places) c.self.view_is in omega (arith, l, c.requires))) in
    to-place s.words s.places c.index.result.now (rw (← v) i)

pub returns-clause-place : goal.returns-clause-place
returns-clause-place g c = grind (arith, common_steps)
