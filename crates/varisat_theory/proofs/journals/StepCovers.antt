-- What stays covered under other names.
use Rattle.std.proofs.Common.{◌≡◌, ℕ, Bool, true, false, List, [], ◌∷◌, ◌++◌, ◌⊎◌, inl, inr, ⊎_elim, sym, subst, refl}
use Rattle.varisat_theory.specs.promises.Membership.{◌∈◌, ◌⊆◌}
use Rattle.varisat_theory.specs.promises.Literals.{Literal, Clause, opposite}
use Rattle.varisat_theory.specs.promises.Derivations.{Line}
use Rattle.varisat_theory.specs.promises.Renaming.{KeepsOpposites}
use Rattle.varisat_theory.proofs.clauses.Members.{∈-append_cases}
use Rattle.varisat_theory.specs.promises.Searches.{KeptClause, Search, IsDischarged, Covers, IsCoveredBySearch, Tautology, KnownTrue, FixedTrue, Kept, CoversBy}
use Rattle.varisat_theory.specs.inside.Outcomes.{Unknown, Proves, MakesSteps, Loads}

-- a clause is covered, by the search's own names
abbrev IsCoveredIn : Search → Clause → Type 0
IsCoveredIn s d = IsDischarged s d ⊎ ((k : KeptClause) × (k ∈ s.kept) × (k.learned ≡ false) × (k.clause ⊆ d))

module _ (t : Search) (to : Literal → Literal) (known : Literal → Bool) (keeps : KeepsOpposites to) where
  -- so is one in which its literals stand under other names
  pub covered_named : (c d : Clause) → ((l : Literal) → l ∈ d → to l ∈ c) → IsCoveredIn t d → IsCoveredBySearch to known t c
  covered_named c d w (inl (inl (l, i, j))) = Tautology (to l, w l i, subst (λ x. x ∈ c) (keeps l) (w (opposite l) j))
  covered_named c d w (inl (inr (l, i, j))) = FixedTrue l j (w l i)
  covered_named c d w (inr (k, i, e, x)) = Kept k i e (λ l j. w l (x l j))

  -- where the search goes on to cover what it covers, so it does under other names
  pub still_covered : (s : Search) → ((d : Clause) → IsCoveredIn s d → IsCoveredIn t d) → (c : Clause) → IsCoveredBySearch to known s c →
      IsCoveredBySearch to known t c
  still_covered s g c (Tautology a) = Tautology a
  still_covered s g c (KnownTrue l i e) = KnownTrue l i e
  still_covered s g c (FixedTrue l i j) =
      covered_named c (l ∷ []) (λ m. elim [ inl e ↦ subst (λ x. to x ∈ c) (sym e) j | inr z ↦ absurd z ]) (g (l ∷ []) (inl (inr (l, inl refl, i))))
  still_covered s g c (Kept k i e w) = covered_named c k.clause w (g k.clause (inr (k, i, e, λ x o. o)))

-- one clause alone
covers_one : (s : Search) (d : Clause) → IsCoveredIn s d → Covers (d ∷ []) s
covers_one s d h x (inl e) = subst (IsCoveredIn s) (sym e) h
covers_one s d h x (inr z) = absurd z

pub names_are_covered : (n : ℕ) (s t : Search) (lines : List Line) (to : Literal → Literal) (known : Literal → Bool) (P : List Clause) →
    KeepsOpposites to → Proves n s t lines → CoversBy to known P s → CoversBy to known P t
names_are_covered n s t lines to known P keeps p v c h = still_covered t to known keeps s (λ d g. p.covers (d ∷ []) (covers_one s d g) d (inl refl)) c (v c h)

pub names_stay_covered : (k : ℕ) (s t : Search) (lines : List Line) (to : Literal → Literal) (known : Literal → Bool) (P : List Clause) →
    KeepsOpposites to → MakesSteps k s t Unknown lines → CoversBy to known P s → CoversBy to known P t
names_stay_covered k s t lines to known P keeps p v c h = still_covered t to known keeps s (λ d g. p.answers (d ∷ []) (covers_one s d g) d (inl refl)) c (v c h)

pub names_are_loaded : (s t : Search) (c d : Clause) (lines : List Line) (to : Literal → Literal) (known : Literal → Bool) (P : List Clause) →
    KeepsOpposites to → Loads s t c Unknown lines → ((l : Literal) → l ∈ c → to l ∈ d) → CoversBy to known P s → CoversBy to known (P ++ d ∷ []) t
names_are_loaded s t c d lines to known P keeps p w v e h =
    ⊎_elim
    (λ i. still_covered t to known keeps s (λ x g. p.answers (x ∷ []) (covers_one s x g) x (inl refl)) e (v e i))
    (elim [
      | inl y ↦ subst (IsCoveredBySearch to known t) (sym y)
          (covered_named t to known keeps d c w (p.answers [] (λ x z. absurd z) c (inl refl)))
      | inr z ↦ absurd z
    ])
    (∈-append_cases e P (d ∷ []) h)

pub detached_are_covered : (s t : Search) (to : Literal → Literal) (known more : Literal → Bool) (P : List Clause) → t.kept ≡ s.kept →
    ((l : Literal) → l ∈ s.fixed → (l ∈ t.fixed) ⊎ (more (to l) ≡ true)) → ((l : Literal) → known l ≡ true → more l ≡ true) →
    CoversBy to known P s → CoversBy to more P t
detached_are_covered s t to known more P e x m v c h = go (v c h)
  where
    go : IsCoveredBySearch to known s c → IsCoveredBySearch to more t c
    go (Tautology a) = Tautology a
    go (KnownTrue l i j) = KnownTrue l i (m l j)
    go (FixedTrue l i j) = ⊎_elim (λ y. FixedTrue l y j) (λ y. KnownTrue (to l) j y) (x l i)
    go (Kept k i f w) = Kept k (subst (λ ks. k ∈ ks) (sym e) i) f w
