-- Loaded clauses that are deleted at once, and others. The view s is that before loading, t that once all decisions are undone.
use Rattle.std.proofs.Common.{◌≡◌, ◌<◌, ◌≤◌, List, [], ◌∷◌, ◌++◌, length, inl, inr, ⊎_elim, refl, sym, ◌∙◌, subst, arith}
use Rattle.std.specs.List.Sorted.{IsPermutation}
use Rattle.std.proofs.lemmas.List.{append-nil}
use Rattle.std.proofs.lemmas.List.Sorted.{IsPermutation-sym}
use Rattle.varisat_theory.specs.promises.Membership.{◌∈◌, SameSet, IsDistinct}
use Rattle.varisat_theory.specs.promises.Literals.{Literal, Clause, opposite, IsUnit}
use Rattle.varisat_theory.specs.promises.Derivations.{Line, Delete}
use Rattle.varisat_theory.specs.promises.Searches.{Search, IsTautology}
use Rattle.varisat_theory.proofs.clauses.Held.{same_set-back}
use Rattle.varisat_steps.specs.Traces.{CanTake, AdmitsWith}
use Rattle.varisat_theory.specs.inside.Outcomes.{SearchOutcome, Loads}
use Rattle.varisat_clause.proofs.TierPlaces.{distinct-permutation, ∈-permutation}
use Rattle.varisat_prop.specs.View.{View, IsTrueIn, WellFormed}
use Rattle.varisat_search.specs.Loading.{IsDeletedAtOnce, LoadsClause}
use Rattle.varisat_search.specs.Seen.{search_of}
use Rattle.varisat_search.proofs.loading.LoadView.{Restarted}
use Rattle.varisat_search.proofs.stepping.ViewSearch.{fixed_from, fixed_to}

-- the same literals in another order
pub permuted-set : (lits d c : Clause) → IsPermutation lits d → SameSet lits c → SameSet d c
permuted-set lits d c m same =
    ((λ x h. same.0 x (∈-permutation d lits x (IsPermutation-sym lits d m) h)), (λ x h. ∈-permutation lits d x m (same.1 x h)))

-- a clause that was accepted just before can be deleted
pub can-delete-loaded : (H : List Clause → Type 0) (s : Search) (c lits d : Clause) → d ≡ lits → SameSet lits c → AdmitsWith H s c → CanTake H (Delete d ∷ [])
can-delete-loaded H s c lits d e same (held, h, f) =
    (held ++ c ∷ [], held, h, (held, (held, c, [], refl, subst (SameSet c) (sym e) (same_set-back lits c same), sym (append-nil held)), refl))

pub permuted-delete : (H : List Clause → Type 0) (lits d : Clause) → IsPermutation lits d → CanTake H (Delete lits ∷ []) → CanTake H (Delete d ∷ [])
permuted-delete H lits d m (held, after, h, (R, (front, e, back, whole, same, left), last)) =
    (held, after, h, (R, (front, e, back, whole, same_set-back d e (permuted-set lits d e m (same_set-back e lits same)), left), last))

module _ (ordered : Clause → Type 0) (are : List Line → Type 0) (s t : View) (c lits : Clause) (w : WellFormed s) (r : Restarted s t)
    (d : IsDistinct lits) (same : SameSet lits c) where
  -- a clause without a line
  no-line : (z : View) (v : SearchOutcome) → (IsDeletedAtOnce (search_of s) c → ⊥) → Loads (search_of s) (search_of z) c v [] → are [] →
      LoadsClause ordered are (search_of s) (search_of z) c v
  no-line z v n p a = record { lines = []; due = inr (n, refl); loads = p; written = a }

  pub loads-tautology : (z : View) (v : SearchOutcome) → IsTautology lits → Loads (search_of s) (search_of z) c v [] → are [] →
      LoadsClause ordered are (search_of s) (search_of z) c v
  loads-tautology z v (x, i, j) p a = no-line z v (λ k. k.open_clause (x, same.0 x i, same.0 (opposite x) j)) p a

  -- one of fewer than two literals is a unit or empty
  short : (l : Literal) → l ∈ lits → length lits < 2 → (u : Literal) × IsUnit u c
  short l i n = go lits i n same
    where
      go : (ks : Clause) → l ∈ ks → length ks < 2 → SameSet ks c → (u : Literal) × IsUnit u c
      go [] i n e = absurd i
      go (k ∷ []) i n e = (k, (e.0 k (inl refl), λ m h. ⊎_elim (λ g. g) (λ g. absurd g) (e.1 m h)))
      go (k ∷ j ∷ ks) i n e = absurd (omega (arith, n))

  pub loads-unit : (z : View) (v : SearchOutcome) (l : Literal) → l ∈ lits → length lits < 2 → Loads (search_of s) (search_of z) c v [] → are [] →
      LoadsClause ordered are (search_of s) (search_of z) c v
  loads-unit z v l i n p a = no-line z v (λ k. let (u, h) = short l i n in k.several u h) p a

  pub loads-open : (z : View) (v : SearchOutcome) → ((l : Literal) → l ∈ lits → IsTrueIn t l → ⊥) → Loads (search_of s) (search_of z) c v [] → are [] →
      LoadsClause ordered are (search_of s) (search_of z) c v
  loads-open z v n p a = no-line z v (λ k. n k.literal (same.1 k.literal k.inside) (r.fixed_to k.literal (fixed_from s w k.literal k.fixed))) p a

  -- one of two literals or more is no unit
  not-unit : 2 ≤ length lits → (u : Literal) → IsUnit u c → ⊥
  not-unit n u h = go lits n d same
    where
      go : (ks : Clause) → 2 ≤ length ks → IsDistinct ks → SameSet ks c → ⊥
      go [] n d e = omega (arith, n)
      go (k ∷ []) n d e = omega (arith, n)
      go (k ∷ j ∷ ks) n d e = d.0 (inl (h.1 k (e.0 k (inl refl)) ∙ sym (h.1 j (e.0 j (inr (inl refl))))))

  pub loads-true : (z : View) (v : SearchOutcome) (l : Literal) → l ∈ lits → IsTrueIn t l → (IsTautology lits → ⊥) → 2 ≤ length lits → (e : Clause) →
      IsPermutation lits e → ordered e → Loads (search_of s) (search_of z) c v (Delete e ∷ []) → are (Delete e ∷ []) →
      LoadsClause ordered are (search_of s) (search_of z) c v
  loads-true z v l i h open_clause n e m o p a = record {
    lines = Delete e ∷ [];
    due = inl (
      record {
        several = not-unit n;
        open_clause = λ (x, j, k). open_clause (x, same.1 x j, same.1 (opposite x) k);
        literal = l;
        inside = same.0 l i;
        fixed = fixed_to s w l (r.fixed_from l h);
      },
      (e, refl, permuted-set lits e c m same, distinct-permutation lits e m d, o),
    );
    loads = p;
    written = a;
  }

-- a unit is loaded without a line
pub unit-loads : (ordered : Clause → Type 0) (are : List Line → Type 0) (s t : Search) (l : Literal) (v : SearchOutcome) →
    LoadsClause ordered are s t (l ∷ []) v → Loads s t (l ∷ []) v []
unit-loads ordered are s t l v p =
    ⊎_elim
    (λ (k, d). absurd (k.several l (inl refl, λ m h. ⊎_elim (λ f. f) (λ z. absurd z) h)))
    (λ (k, e). subst (λ (ls : List Line). Loads s t (l ∷ []) v ls) e p.loads)
    p.due
