-- What is implied may be taken as known: the lemma that learning, minimization, failed cores and units stand on.
use Rattle.std.proofs.Common.{◌≡◌, ◌≢◌, ℕ, zero, suc, ◌<◌, List, [], ◌∷◌, ◌++◌, inl, inr, ⊎_elim, sym, ◌∙◌, subst, refl, length, get_or, arith}
use Rattle.varisat_theory.specs.promises.Membership.{◌∈◌, ◌⊆◌}
use Rattle.varisat_theory.specs.promises.Literals.{Literal, Clause, opposite, opposites, IsUnit}
use Rattle.varisat_theory.specs.promises.Propagation.{Conflicts, Clash, Propagate, LeavesOnly, IsFalse, Follows}
use Rattle.varisat_theory.specs.promises.Analysis.{Implied, Known, ByReason, IsTrail}
use Rattle.varisat_theory.proofs.clauses.Members.{⊆-cons, equal_or_not, ∈-append_cases}
use Rattle.varisat_theory.proofs.clauses.Values.{opposites-∈, opposite_twice}
use Rattle.varisat_theory.proofs.clauses.Places.{place_in, place_in_take}
use Rattle.varisat_theory.proofs.clauses.Growth.{conflicts_known, follows_member}

-- what lets a literal be taken as known
abbrev Discharges : List Clause → List Literal → Literal → Type 0
Discharges P base l = (known : List Literal) → base ⊆ known → Conflicts P (l ∷ known) → Conflicts P known

discharge_others : (P : List Clause) (base : List Literal) (l : Literal) (c : Clause) →
    ((m : Literal) → m ∈ c → m ≢ l → Discharges P base (opposite m)) → (known : List Literal) → base ⊆ known →
    ((more : List Literal) → known ⊆ more → LeavesOnly more c l → Conflicts P more) → Conflicts P known
discharge_others P base l [] f known s k = k known (λ x h. h) (λ m h. absurd h)
discharge_others P base l (m ∷ c) f known s k =
    ⊎_elim
    (λ e. discharge_others P base l c (λ x h. f x (inr h)) known s (λ more t u. k more t (leaves more e u)))
    (λ n. f m (inl refl) n known s (discharge_others P base l c (λ x h. f x (inr h)) (opposite m ∷ known) (λ x h. inr (s x h))
    (λ more t u. k more (λ x h. t x (inr h)) (leaves' more (t (opposite m) (inl refl)) u))))
    (equal_or_not m l)
  where
    leaves : (more : List Literal) → m ≡ l → LeavesOnly more c l → LeavesOnly more (m ∷ c) l
    leaves more e u x (inl i) = inl (i ∙ e)
    leaves more e u x (inr h) = u x h

    leaves' : (more : List Literal) → opposite m ∈ more → LeavesOnly more c l → LeavesOnly more (m ∷ c) l
    leaves' more o u x (inl i) = inr (subst (λ y. opposite y ∈ more) (sym i) o)
    leaves' more o u x (inr h) = u x h

implied_discharges : (P : List Clause) (base : List Literal) (l : Literal) → Implied P base l → Discharges P base l
implied_discharges P base l (Known h) known s k = conflicts_known P (l ∷ known) known
    (λ x. elim [ inl e ↦ subst (λ y. y ∈ known) (sym e) (s l h) | inr i ↦ i ]) k
implied_discharges P base l (ByReason c h i f) known s k =
    discharge_others P base l c (λ m j n. implied_discharges P base (opposite m) (f m j n)) known s
    (λ more t u. Propagate c l h i u (conflicts_known P (l ∷ known) (l ∷ more) (⊆-cons l known more t) k))

discharge_all : (P : List Clause) (base ls known : List Literal) → ((l : Literal) → l ∈ ls → Implied P base l) → base ⊆ known →
    ((more : List Literal) → known ⊆ more → ls ⊆ more → Conflicts P more) → Conflicts P known
discharge_all P base [] known f s k = k known (λ x i. i) (λ m i. absurd i)
discharge_all P base (l ∷ ls) known f s k =
    implied_discharges P base l (f l (inl refl)) known s
    (discharge_all P base ls (l ∷ known) (λ m i. f m (inr i)) (λ x i. inr (s x i))
    (λ more t u. k more (λ x i. t x (inr i)) (λ x. elim [ inl e ↦ subst (λ y. y ∈ more) (sym e) (t l (inl refl)) | inr i ↦ u x i ])))

-- The one lemma: where each of the literals is implied by the base, a conflict from them is one from the base.
pub implied_known : (P : List Clause) (base ls : List Literal) → ((l : Literal) → l ∈ ls → Implied P base l) → Conflicts P ls → Conflicts P base
implied_known P base ls f k = discharge_all P base ls base f (λ x i. i) (λ more s t. conflicts_known P ls more t k)

-- a clause of P that is false by implied literals
pub implied_false : (P : List Clause) (base : List Literal) (c : Clause) → c ∈ P → ((m : Literal) → m ∈ c → Implied P base (opposite m)) → Conflicts P base
implied_false P base c h f =
    implied_known P base (opposites c) (λ l i. subst (λ y. Implied P base y) (opposite_twice l) (f (opposite l) (opposites-∈ l c i))) (follows_member P c h)

-- two literals that are implied and opposite
pub implied_clash : (P : List Clause) (base : List Literal) (l : Literal) → Implied P base l → Implied P base (opposite l) → Conflicts P base
implied_clash P base l h k =
    implied_known P base (l ∷ opposite l ∷ [])
    (λ x. elim [
      | inl e ↦ subst (λ y. Implied P base y) (sym e) h
      | inr i ↦ ⊎_elim (λ e. subst (λ y. Implied P base y) (sym e) k)
          (λ z. absurd z) i
    ]) (Clash l (inl refl) (inr (inl refl)))

-- what is implied by implied literals is implied
pub implied_cut : (P : List Clause) (base known : List Literal) (l : Literal) → ((m : Literal) → m ∈ known → Implied P base m) → Implied P known l →
    Implied P base l
implied_cut P base known l g (Known h) = g l h
implied_cut P base known l g (ByReason c h i f) = ByReason c h i (λ m j n. implied_cut P base known (opposite m) g (f m j n))

-- more known, more clauses
pub implied_more : (P Q : List Clause) (base more : List Literal) (l : Literal) → P ⊆ Q → base ⊆ more → Implied P base l → Implied Q more l
implied_more P Q base more l t s (Known h) = Known (s l h)
implied_more P Q base more l t s (ByReason c h i f) = ByReason c (t c h) i (λ m j n. implied_more P Q base more (opposite m) t s (f m j n))

-- what P alone implies is implied by any base
pub implied_alone : (P : List Clause) (base : List Literal) (l : Literal) → Implied P [] l → Implied P base l
implied_alone P base l h = implied_more P P [] base l (λ c i. i) (λ x i. absurd i) h

-- a unit clause implies its literal
pub unit_implied : (P : List Clause) (base : List Literal) (l : Literal) (c : Clause) → c ∈ P → IsUnit l c → Implied P base l
unit_implied P base l c h u = ByReason c h u.0 (λ m i n. absurd (n (u.1 m i)))

-- literals with unit clauses leave the base
pub units_known : (P : List Clause) (units base : List Literal) → ((l : Literal) → l ∈ units → (c : Clause) × (c ∈ P) × IsUnit l c) →
    Conflicts P (units ++ base) → Conflicts P base
units_known P units base f k =
    implied_known P base (units ++ base)
    (λ l i. ⊎_elim (λ j. let c = f l j in unit_implied P base l c.0 c.1 c.2) (λ j. Known j) (∈-append_cases l units base i)) k

-- what P alone implies follows as a unit clause
pub implied_follows : (P : List Clause) (l : Literal) → Implied P [] l → Follows P (l ∷ [])
implied_follows P l h = implied_clash P (opposites (l ∷ [])) l (implied_alone P (opposites (l ∷ [])) l h) (Known (inl refl))

trail_below : (P : List Clause) (base trail : List Literal) → IsTrail P base trail → (n k : ℕ) → k < n → k < length trail → Implied P base (get_or trail k 0)
trail_below P base trail t zero k h l = absurd (omega arith)
trail_below P base trail t (suc n) k h l =
    ⊎_elim
    (λ b. Known b)
    (λ r. ByReason r.0 r.1 r.2 (λ m i d. ⊎_elim (λ e. absurd (d e))
    (λ o. let p = place_in_take (opposite m) trail k 0 o in subst (λ y. Implied P base y) p.3
    (trail_below P base trail t n p.0 (omega (arith, p.1)) p.2)) (r.3 m i)))
    (t k l)

-- each literal of a trail is implied by the base
pub trail_implied : (P : List Clause) (base trail : List Literal) → IsTrail P base trail → (l : Literal) → l ∈ trail → Implied P base l
trail_implied P base trail t l h =
    let p = place_in l trail 0 h in
    subst (λ y. Implied P base y) p.2 (trail_below P base trail t (suc p.0) p.0 (omega arith) p.1)

-- a clause that is false under a trail
pub trail_conflicts : (P : List Clause) (base trail : List Literal) (c : Clause) → IsTrail P base trail → c ∈ P → IsFalse trail c → Conflicts P base
trail_conflicts P base trail c t h f = implied_false P base c h (λ m i. trail_implied P base trail t (opposite m) (f m i))
