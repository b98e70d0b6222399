-- Reasons that follow their clauses to a new store.
use Rattle.std.proofs.Common.{◌≡◌, ℕ, ◌+◌, ◌<◌, ◌≤◌, ◌^◌, Bool, true, false, Option, List, [], ◌∷◌, length, map, drop, get_or, set, cond, ⊎_elim, refl, sym, ap, ap₂, ◌∙◌, arith, add-one, length-set}
use Rattle.std.proofs.Math.Seq.{drop-cons}
use Rattle.std.proofs.Math.ListN.{drop_of_length-le}
use Rattle.std.proofs.lemmas.Bool.{cases_lt, cases_Bool}
use Rattle.varisat_theory.specs.promises.Literals.{variable_of}
use Rattle.varisat_clause.specs.Stored.{StoredClause, no_clause}
use Rattle.varisat_clause.specs.Stores.{Store, stored_clauses, IsSound}
use Rattle.varisat_clause.specs.Databases.{total, size_of}
use Rattle.varisat_clause.specs.Collected.{live_of, live_clauses}
use Rattle.varisat_analysis.proofs.DeletedPlaces.{same-head, same-tail}
use Rattle.varisat_clause.proofs.DatabaseTracks.{sizes-within}
use Rattle.varisat_clause.proofs.LiveClauses.{drop-next}
use Rattle.varisat_prop.specs.declared.prop.graph.Reason.TheVariants as reason
use Rattle.varisat_prop.specs.declared.prop.graph.ImplNode.{ImplNode}
use Rattle.varisat_prop.specs.View.{no_node}
use Rattle.varisat_prop.specs.Watches.{literal_in}
use Rattle.varisat_analysis.specs.Reductions.{is_reason}
use Rattle.varisat_analysis.specs.Collections.{repointed, repointed_each}

-- one reason is moved, or is not
module _ (values : List (Option Bool)) (ns : List ImplNode) (k : StoredClause) (q : ℕ) where
  abbrev v : ℕ
  v = variable_of (literal_in k.literals 0)

  abbrev moved : List ImplNode
  moved = set ns v (record (get_or ns v no_node) { reason = reason.Long q })

  pub repoint-is : is_reason values ns k ≡ true → repointed values ns k q ≡ moved
  repoint-is e = ap (λ b. cond b moved ns) e

  pub repoint-not : is_reason values ns k ≡ false → repointed values ns k q ≡ ns
  repoint-not e = ap (λ b. cond b moved ns) e

pub repoint-done : (values : List (Option Bool)) (ns ms : List ImplNode) (k : StoredClause) (v q : ℕ) → is_reason values ns k ≡ true →
    v ≡ variable_of (literal_in k.literals 0) → ms ≡ set ns v (record (get_or ns v no_node) { reason = reason.Long q }) → ms ≡ repointed values ns k q
repoint-done values ns ms k v q e f g = g ∙ ap (λ (x : ℕ). set ns x (record (get_or ns x no_node) { reason = reason.Long q })) f
    ∙ sym (repoint-is values ns k q e)

pub record IsNextLeft (values : List (Option Bool)) (ks js : List StoredClause) (i p : ℕ) (rest : List ℕ) : Type 0 where
  pub inside : i < length ks
  pub place : (get_or ks i no_clause).place ≡ p
  pub rest_is : rest ≡ map (λ k. k.place) (drop (i + 1) ks)
  pub each : (ns : List ImplNode) → repointed_each values (drop i ks) (drop i js) ns ≡ repointed_each values (drop (i + 1) ks) (drop (i + 1) js)
      (repointed values ns (get_or ks i no_clause) (get_or js i no_clause).place)

pub left-next : (values : List (Option Bool)) (ks js : List StoredClause) (i p : ℕ) (rest : List ℕ) → length js ≡ length ks →
    p ∷ rest ≡ map (λ k. k.place) (drop i ks) → IsNextLeft values ks js i p rest
left-next values ks js i p rest n e = ⊎_elim here (λ h. absurd (none (drop i ks) (drop_of_length-le ks {i = i} h) e)) (cases_lt i (length ks))
  where
    none : (xs : List StoredClause) → xs ≡ [] → p ∷ rest ≡ map (λ k. k.place) xs → ⊥
    none [] q f = let z : p ∷ rest ≡ [] = f in absurd cc
    none (x ∷ xs) q f = absurd cc

    here : i < length ks → IsNextLeft values ks js i p rest
    here h =
        let k = get_or ks i no_clause in
        let f : p ∷ rest ≡ k.place ∷ map (λ k. k.place) (drop (i + 1) ks) = e ∙ ap (map (λ (k : StoredClause). k.place)) (drop-next ks i h) in
        record {
          inside = h;
          place = sym (same-head p k.place rest (map (λ k. k.place) (drop (i + 1) ks)) f);
          rest_is = same-tail p k.place rest (map (λ k. k.place) (drop (i + 1) ks)) f;
          each = λ ns. ap₂ (λ xs ys. repointed_each values xs ys ns) (drop-next ks i h) (drop-next js i (omega (arith, h, n)));
        }

-- none is left
pub left-none : (values : List (Option Bool)) (ks js : List StoredClause) (i : ℕ) (ps : List ℕ) (ns : List ImplNode) → ps ≡ [] →
    ps ≡ map (λ k. k.place) (drop i ks) → ns ≡ repointed_each values (drop i ks) (drop i js) ns
left-none values ks js i ps ns e f = go (drop i ks) (sym f ∙ e)
  where
    go : (xs : List StoredClause) → map (λ k. k.place) xs ≡ [] → ns ≡ repointed_each values xs (drop i js) ns
    go [] q = refl
    go (x ∷ xs) q = absurd cc

pub repoint-length : (values : List (Option Bool)) (ns : List ImplNode) (k : StoredClause) (q : ℕ) → length (repointed values ns k q) ≡ length ns
repoint-length values ns k q =
    ⊎_elim
    (λ e. ap length (repoint-is values ns k q e) ∙ length-set ns (variable_of (literal_in k.literals 0))
    (record (get_or ns (variable_of (literal_in k.literals 0)) no_node) { reason = reason.Long q }))
    (λ e. ap length (repoint-not values ns k q e))
    (cases_Bool (is_reason values ns k))

-- a store has no more clauses than words
pub live-few : (s : Store) → IsSound s → length (live_clauses s) < 2 ^ 32
live-few s ok =
    let a = count (stored_clauses s) in
    let b = sizes-within s ok in
    let c = ok.small in
    omega (arith, a, b, c)
  where
    count : (ks : List StoredClause) → length (live_of ks) ≤ total size_of ks
    count [] = omega arith
    count (k ∷ ks) = go k.header.deleted (count ks)
      where
        go : (b : Bool) → length (live_of ks) ≤ total size_of ks → length (cond b (live_of ks) (k ∷ live_of ks)) ≤ size_of k + total size_of ks
        go true h = omega (arith, h)
        go false h = omega (arith, h)
