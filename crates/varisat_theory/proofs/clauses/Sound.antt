-- Propagation is sound.
use Rattle.std.proofs.Common.{◌≡◌, true, List, [], ◌∷◌, ◌++◌, ◌⊎◌, inl, inr, ⊎_elim, sym, subst, refl}
use Rattle.varisat_theory.specs.promises.Membership.{◌∈◌, ◌⊆◌}
use Rattle.varisat_theory.specs.promises.Literals.{Literal, Clause, Assignment, opposite, opposites, value, Satisfies, SatisfiesAll, MakesTrue, IsSatisfiableWith, Entails, IsFailedCore}
use Rattle.varisat_theory.specs.promises.Propagation.{Conflicts, Clash, FalseClause, Propagate, Follows}
use Rattle.varisat_theory.specs.promises.Derivations.{Line, Add, Delete, TakesOut, Derives}
use Rattle.varisat_theory.proofs.clauses.Members.{∈-append_cases, ∈-append_left, ∈-append_right}
use Rattle.varisat_theory.proofs.clauses.Values.{not_both, true_or_opposite, opposites-∈}
use Rattle.varisat_theory.proofs.clauses.Assigned.{left_true, false_unsatisfied, satisfies_more}

pub conflicts_sound : (P : List Clause) (known : List Literal) (a : Assignment) → SatisfiesAll a P → MakesTrue a known → Conflicts P known → ⊥
conflicts_sound P known a s t (Clash l h k) = not_both a l (t l h) (t (opposite l) k)
conflicts_sound P known a s t (FalseClause c h f) = false_unsatisfied a known c t f (s c h)
conflicts_sound P known a s t (Propagate c l h _ u k) =
    let now = left_true a known c l t u (s c h) in
    conflicts_sound P (l ∷ known) a s (λ x. elim [ inl e ↦ subst (λ y. value a y ≡ true) (sym e) now | inr m ↦ t x m ]) k

-- a clause that is not satisfied has only false literals
falsified : (a : Assignment) (c : Clause) → (Satisfies a c → ⊥) → MakesTrue a (opposites c)
falsified a c n x h =
    ⊎_elim (λ t. t) (λ t. absurd (n (opposite x, opposites-∈ x c h, t))) (true_or_opposite a x)

pub satisfied_or_not : (a : Assignment) (c : Clause) → Satisfies a c ⊎ (Satisfies a c → ⊥)
satisfied_or_not a [] = inr (λ s. s.1)
satisfied_or_not a (l ∷ c) =
    ⊎_elim
    (λ t. inl (l, inl refl, t))
    (λ f. ⊎_elim (λ s. inl (s.0, inr s.1, s.2))
    (λ n. inr (λ s. ⊎_elim (λ e. not_both a l (subst (λ y. value a y ≡ true) e s.2) f) (λ m. n (s.0, m, s.2)) s.1)) (satisfied_or_not a c))
    (true_or_opposite a l)

pub follows_entails : (P : List Clause) (c : Clause) → Follows P c → Entails P c
follows_entails P c f a s =
    ⊎_elim (λ h. h) (λ n. absurd (conflicts_sound P (opposites c) a s (falsified a c n) f)) (satisfied_or_not a c)

-- what is left was there
pub takes_less : (Q : List Clause) (c : Clause) (R : List Clause) → TakesOut Q c R → R ⊆ Q
takes_less Q c R (front, d, back, e, _, e') x m =
    subst (λ l. x ∈ l) (sym e) (⊎_elim (λ k. ∈-append_left x front (d ∷ back) k) (λ k. ∈-append_right x front (d ∷ back) (inr k))
    (∈-append_cases x front back (subst (λ l. x ∈ l) e' m)))

-- what satisfies the clauses at the start satisfies those at the end
pub derives_sound : (P : List Clause) (lines : List Line) (Q : List Clause) (a : Assignment) → Derives P lines Q → SatisfiesAll a P → SatisfiesAll a Q
derives_sound P [] Q a d s = subst (SatisfiesAll a) d s
derives_sound P (Add c ∷ lines) Q a d s = derives_sound (P ++ (c ∷ [])) lines Q a d.1 (satisfies_more a P c s (follows_entails P c d.0 a s))
derives_sound P (Delete c ∷ lines) Q a d s = derives_sound d.0 lines Q a d.2 (λ x m. s x (takes_less P c d.0 d.1 x m))

-- assumptions over which propagation conflicts are a failed core
pub core_fails : (P : List Clause) (assumptions core : List Literal) → core ⊆ assumptions → Conflicts P core → IsFailedCore P assumptions core
core_fails P assumptions core s k = (s, λ w. conflicts_sound P core w.0 w.1 w.2 k)

-- no failed core where the clauses and the assumptions are satisfied
pub not_both_answers : (P : List Clause) (assumptions core : List Literal) → IsSatisfiableWith P assumptions → IsFailedCore P assumptions core → ⊥
not_both_answers P assumptions core w f = f.1 (w.0, w.1, λ l h. w.2 l (f.0 l h))

-- more clauses keep a failed core
pub core_stays : (P Q : List Clause) (assumptions core : List Literal) → P ⊆ Q → IsFailedCore P assumptions core → IsFailedCore Q assumptions core
core_stays P Q assumptions core s f = (f.0, λ w. f.1 (w.0, (λ c h. w.1 c (s c h)), w.2))
