-- What a view keeps where `load_clause` or `learn_from_conflict` adds a clause.
use Rattle.std.proofs.Common.{◌≡◌, ◌≢◌, ℕ, ◌<◌, ◌≤◌, List, [], ◌∷◌, ◌++◌, length, ◌⊎◌, inl, inr, ⊎_elim, sym, ap, subst}
use Rattle.varisat_theory.specs.promises.Membership.{◌∈◌, SameSet, IsDistinct}
use Rattle.varisat_theory.specs.promises.Literals.{Literal, Clause, opposite, variable_of}
use Rattle.varisat_theory.proofs.clauses.Members.{∈-append_left, ∈-append_right, ∈-append_cases}
use Rattle.varisat_prop.specs.declared.prop.graph.Reason.{Reason}
use Rattle.varisat_prop.specs.declared.prop.graph.Reason.TheVariants as reason
use Rattle.varisat_clause.specs.Stored.{StoredClause, literals_of}
use Rattle.varisat_prop.specs.Pairs.{with_pair}
use Rattle.varisat_clause.proofs.StoredClauses.{place-more, rising-more, stored-more, stored-last, literals-more}
use Rattle.varisat_prop.proofs.pairs.PairAdded.{kept-inserted}
use Rattle.varisat_prop.proofs.views.WellFormedChanges.{MayBeKept, kept-may, stored-kept, well-changed}
use Rattle.varisat_prop.specs.View.{View, pairs_from, kept, clause_at, node_at, Implies, IsReason, WellFormed}

pub last-one : {X : Type 0} (xs : List X) (x y : X) → y ∈ (xs ++ x ∷ []) → (y ∈ xs) ⊎ (y ≡ x)
last-one xs x y h = ⊎_elim inl (λ k. ⊎_elim inr (λ z. absurd z) k) (∈-append_cases y xs (x ∷ []) h)

-- one more clause of three literals or more is kept
module _ (s : View) (j : StoredClause) (behind : (k : StoredClause) → k ∈ s.clauses → k.place < j.place) (w : WellFormed s) where
  abbrev c : Clause
  c = j.literals

  abbrev pub with_kept : View
  with_kept = record s { clauses = s.clauses ++ j ∷ [] }

  pub kept-last : clause_at with_kept j.place ≡ c
  kept-last = ap (λ k. k.literals) (stored-last s.clauses j behind)

  stored-cases : (d : Clause) → d ∈ literals_of with_kept.clauses → (d ∈ literals_of s.clauses) ⊎ (d ≡ c)
  stored-cases d h = last-one (literals_of s.clauses) c d (subst (λ P. d ∈ P) (literals-more s.clauses j) h)

  pub kept-cases : (d : Clause) → d ∈ kept with_kept → (d ∈ kept s) ⊎ (d ≡ c)
  kept-cases d h =
      ⊎_elim
      (λ i. ⊎_elim (λ o. inl (stored-kept s d o)) inr (stored-cases d i))
      (λ i. inl (∈-append_right d (literals_of s.clauses) (pairs_from 0 s.binary) i))
      (∈-append_cases d (literals_of with_kept.clauses) (pairs_from 0 s.binary) h)

  each : (Q : Clause → Type 0) → ((d : Clause) → d ∈ kept s → Q d) → Q c → (d : Clause) → d ∈ literals_of with_kept.clauses → Q d
  each Q old new d h = ⊎_elim (λ i. old d (stored-kept s d i)) (λ e. subst Q (sym e) new) (stored-cases d h)

  reason-kept : (k : ℕ) (q : Reason) → IsReason s k q → IsReason with_kept k q
  reason-kept k reason.Unit h = h
  reason-kept k (reason.Binary ms) h = h
  reason-kept k (reason.Long i) (h, g) = (
    place-more s.clauses j i h,
    subst (λ d. Implies with_kept d k) (sym (ap (λ x. x.literals) (stored-more s.clauses j i h)))
        (same-implies (clause_at s i) g),
  )
    where
      same-implies : (d : Clause) → Implies s d k → Implies with_kept d k
      same-implies [] g = g
      same-implies (x ∷ d) g = g

  pub kept-well : ((l : Literal) → l ∈ c → variable_of l < length s.values) → 2 ≤ length c → IsDistinct c → WellFormed with_kept
  kept-well r n d =
      well-changed s with_kept.clauses s.queue_head w (rising-more s.clauses j w.places behind)
      (each (MayBeKept s) (kept-may s w) (record { in_range = r; several = n; distinct = d }))
      (λ k h. reason-kept k (node_at s k).reason (w.reason_is k h))
      w.head

-- One more clause of two literals is kept, in one of the orders.
module _ (s : View) (a b : Literal) (first : opposite a < length s.binary) (second : opposite b < length s.binary) (other : a ≢ b) where
  pub pair-cases : (d : Clause) → d ∈ kept (record s { binary = with_pair s.binary a b }) → (d ∈ kept s) ⊎ SameSet d (a ∷ b ∷ [])
  pair-cases d h =
      let (p, i, same, _) = kept-inserted s a b first second other in
      let old : d ∈ (i.front ++ i.back) → d ∈ kept s = λ o. subst (λ cs. d ∈ cs) (sym i.old) o in
      ⊎_elim
      (λ k. inl (old (∈-append_left d i.front i.back k)))
      (λ k. ⊎_elim (λ e. inr (subst (λ x. SameSet x (a ∷ b ∷ [])) (sym e) same)) (λ o. inl (old (∈-append_right d i.front i.back o))) k)
      (∈-append_cases d i.front (p ∷ i.back) (subst (λ cs. d ∈ cs) i.new h))
