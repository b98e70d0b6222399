-- Which clauses are reasons, and marks that say it.
use Rattle.std.proofs.Common.{◌≡◌, ℕ, Bool, true, false, ◌&&◌, ◌<◌, Option, None, List, [], ◌∷◌, length, get_or, cond, refl, sym, ap, ◌∙◌, subst, arith}
use Rattle.std.specs.Prelude.{is_some}
use Rattle.varisat_theory.specs.promises.Membership.{◌∈◌}
use Rattle.varisat_theory.specs.promises.Literals.{Clause, variable_of}
use Rattle.varisat_theory.proofs.clauses.Places.{∈-get_or}
use Rattle.varisat_clause.specs.Stored.{StoredClause, no_clause, stored_at}
use Rattle.varisat_clause.specs.Stores.{Store, stored_clauses, IsSound}
use Rattle.varisat_clause.proofs.StoredClauses.{stored-found}
use Rattle.varisat_clause.proofs.CollectedClauses.{length-places}
use Rattle.varisat_clause.proofs.LocalReduction.{element}
use Rattle.varisat_clause.proofs.MappedClauses.{IsMapped, mapped-stored}
use Rattle.varisat_prop.specs.declared.prop.graph.Reason.{Reason}
use Rattle.varisat_prop.specs.declared.prop.graph.Reason.TheVariants as reason
use Rattle.varisat_prop.specs.declared.prop.graph.ImplNode.{ImplNode}
use Rattle.varisat_prop.specs.View.{View, no_node, clause_at, literal_at, node_at, Implies, IsReason, WellFormed}
use Rattle.varisat_prop.specs.Watches.{literal_in}
use Rattle.varisat_analysis.specs.Reductions.{is_clause_at, is_reason, reason_marked}
use Rattle.varisat_analysis.proofs.SameButHeaders.{held_clause}

-- the variable of a clause's first literal, as it is read
pub first-read : (lits c : Clause) (l v : ℕ) → 0 < length lits → lits ≡ c → l ≡ get_or lits 0 l → v ≡ variable_of l → v ≡ variable_of (literal_in c 0)
first-read lits c l v n e f g = g ∙ ap variable_of (element lits 0 l n f ∙ ap (λ (xs : Clause). get_or xs 0 0) e)

module _ (values : List (Option Bool)) (nodes : List ImplNode) (k : StoredClause) (v : ℕ) (e : v ≡ variable_of (literal_in k.literals 0)) where
  valued : (b : Bool) → is_some (get_or values v None) ≡ b → is_some (get_or values (variable_of (literal_in k.literals 0)) None) ≡ b
  valued b f = ap (λ (x : ℕ). is_some (get_or values x None)) (sym e) ∙ f

  pub no-value : is_some (get_or values v None) ≡ false → false ≡ is_reason values nodes k
  no-value f = sym (ap (λ b. b && is_clause_at (get_or nodes (variable_of (literal_in k.literals 0)) no_node).reason k.place) (valued false f))

  pub by-reason : (o : Bool) (r : Reason) → is_some (get_or values v None) ≡ true → r ≡ (get_or nodes v no_node).reason →
      o ≡ is_clause_at r k.place → o ≡ is_reason values nodes k
  by-reason o r f g h =
      h
      ∙ ap (λ x. is_clause_at x k.place) (g ∙ ap (λ (x : ℕ). (get_or nodes x no_node).reason) e)
      ∙ sym (ap (λ b. b && is_clause_at (get_or nodes (variable_of (literal_in k.literals 0)) no_node).reason k.place) (valued true f))

module _ (values : List (Option Bool)) (nodes : List ImplNode) (k : StoredClause) where
  abbrev marked : StoredClause
  marked = record k { header = record k.header { mark = is_reason values nodes k } }

  pub mark-place : (reason_marked values nodes k).place ≡ k.place
  mark-place = go k.header.deleted
    where
      go : (b : Bool) → (cond b k marked).place ≡ k.place
      go true = refl
      go false = refl

  pub mark-held : held_clause (reason_marked values nodes k) ≡ held_clause k
  mark-held = go k.header.deleted
    where
      go : (b : Bool) → held_clause (cond b k marked) ≡ held_clause k
      go true = refl
      go false = refl

  pub mark-dead : k.header.deleted ≡ true → reason_marked values nodes k ≡ k
  mark-dead e = ap (λ b. cond b k marked) e

  pub mark-live : k.header.deleted ≡ false → reason_marked values nodes k ≡ marked
  mark-live e = ap (λ b. cond b k marked) e

-- the clause of an index that is not marked yet
pub unmarked-clause : (f : StoredClause → StoredClause) (s t : Store) (i p : ℕ) → ((k : StoredClause) → (f k).place ≡ k.place) → IsSound s →
    i < length s.places → IsMapped f s t i → p ≡ get_or t.places i 0 → (k : StoredClause) × (k ∈ stored_clauses s) × (stored_at (stored_clauses t) p ≡ k)
unmarked-clause f s t i p places ok h m e =
    let n = length-places s.words s.places in
    (get_or (stored_clauses s) i no_clause, ∈-get_or (stored_clauses s) i no_clause (omega (arith, h, n)), mapped-stored f s t i p places ok h m e)

-- a reason that is no clause of the store
pub not-long : (r : Reason) (p : ℕ) → ((q : ℕ) → r ≡ reason.Long q → ⊥) → false ≡ is_clause_at r p
not-long reason.Unit p n = refl
not-long (reason.Binary ms) p n = refl
not-long (reason.Long q) p n = absurd (n q refl)

-- a reason is that of its first literal
first-implied : (s : View) (c : Clause) (i : ℕ) → Implies s c i → literal_in c 0 ≡ literal_at s i
first-implied s [] i g = absurd g
first-implied s (l ∷ c) i g = g.0

pub reason-first : (s : View) → WellFormed s → (k : StoredClause) (i : ℕ) → k ∈ s.clauses → i < length s.trail →
    (node_at s i).reason ≡ reason.Long k.place → literal_in k.literals 0 ≡ literal_at s i
reason-first s w k i h l e =
    let g : IsReason s i (reason.Long k.place) = subst (IsReason s i) e (w.reason_is i l) in
    let c : clause_at s k.place ≡ k.literals = ap (λ (x : StoredClause). x.literals) (stored-found s.clauses w.places k h) in
    ap (λ x. literal_in x 0) (sym c) ∙ first-implied s (clause_at s k.place) i g.1
