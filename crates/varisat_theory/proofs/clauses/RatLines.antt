-- Lines of DRAT keep clauses satisfiable.
use Rattle.std.proofs.Common.{◌≡◌, ℕ, ◌/◌, ◌%◌, true, nat_eq, if◌then◌else◌, List, [], ◌∷◌, ◌++◌, inl, inr, ⊎_elim, sym, ap, ◌∙◌, subst, refl, eq-eqb, ne_eqb}
use Rattle.varisat_theory.specs.promises.Membership.{◌∈◌}
use Rattle.varisat_theory.specs.promises.Literals.{Literal, Clause, Assignment, opposite, value, Satisfies, SatisfiesAll, IsSatisfiable}
use Rattle.varisat_theory.specs.promises.Propagation.{Conflicts, Follows}
use Rattle.varisat_theory.specs.promises.Derivations.{Line, Add, Delete}
use Rattle.varisat_theory.specs.promises.Rat.{put_unless, but_for, ResolventsFollow, IsRat, IsDratLine, DerivesByDrat}
use Rattle.varisat_theory.proofs.clauses.Members.{equal_or_not, ∈-or_not, ∈-append_cases}
use Rattle.varisat_theory.proofs.clauses.Values.{either_true, same_or_opposite, value_by}
use Rattle.varisat_theory.proofs.clauses.Assigned.{satisfies_more}
use Rattle.varisat_theory.proofs.clauses.Sound.{conflicts_sound, follows_entails, satisfied_or_not, takes_less}

-- 1. The assignment that makes l true and is else the same.
pub with_true : Assignment → Literal → Assignment
with_true a l v = if nat_eq v (l / 2) then nat_eq (l % 2) 0 else a v

at_variable : (a : Assignment) (l v : ℕ) → v ≡ l / 2 → with_true a l v ≡ nat_eq (l % 2) 0
unfolding with_true
at_variable a l v e = ap (λ b. if b then nat_eq (l % 2) 0 else a v) (eq-eqb v (l / 2) e)

elsewhere : (a : Assignment) (l v : ℕ) → (v ≡ l / 2 → ⊥) → with_true a l v ≡ a v
unfolding with_true
elsewhere a l v n = ap (λ b. if b then nat_eq (l % 2) 0 else a v) (ne_eqb v (l / 2) n)

pub now_true : (a : Assignment) (l : Literal) → value (with_true a l) l ≡ true
now_true a l = value_by (with_true a l) l (nat_eq (l % 2) 0) (at_variable a l (l / 2) refl) ∙ either_true (nat_eq (l % 2) 0)

same_elsewhere : (a : Assignment) (l m : Literal) → (m / 2 ≡ l / 2 → ⊥) → value (with_true a l) m ≡ value a m
same_elsewhere a l m n = value_by (with_true a l) m (a (m / 2)) (elsewhere a l (m / 2) n) ∙ sym (value_by a m (a (m / 2)) refl)

-- all true literals but the opposite of l stay true
still_true : (a : Assignment) (l m : Literal) → (m ≡ opposite l → ⊥) → value a m ≡ true → value (with_true a l) m ≡ true
still_true a l m n t =
    ⊎_elim
    (λ e. ⊎_elim (λ q. subst (λ x. value (with_true a l) x ≡ true) (sym q) (now_true a l)) (λ q. absurd (n q)) (same_or_opposite m l e))
    (λ d. same_elsewhere a l m d ∙ t)
    (equal_or_not (m / 2) (l / 2))

-- 2. A RAT clause.
pub but_for-∈ : (l : Literal) (d : Clause) (m : Literal) → m ∈ but_for l d → (m ∈ d) × (m ≡ l → ⊥)
but_for-∈ l [] m k = absurd k
but_for-∈ l (x ∷ d) m k =
    ⊎_elim
    (λ e. let h = but_for-∈ l d m (subst (λ b. m ∈ put_unless b x (but_for l d)) (eq-eqb x l e) k) in (inr h.0, h.1))
    (λ n. ⊎_elim (λ q. (inl q, λ e. n (sym q ∙ e))) (λ i. let h = but_for-∈ l d m i in (inr h.0, h.1))
    (subst (λ b. m ∈ put_unless b x (but_for l d)) (ne_eqb x l n) k))
    (equal_or_not x l)

still_satisfied : (a : Assignment) (l : Literal) (d : Clause) → (opposite l ∈ d → ⊥) → Satisfies a d → Satisfies (with_true a l) d
still_satisfied a l d o w = (w.0, w.1, still_true a l w.0 (λ e. o (subst (λ x. x ∈ d) e w.1)) w.2)

resolved : (a : Assignment) (l : Literal) (c d : Clause) → (Satisfies a c → ⊥) → Satisfies a (c ++ but_for (opposite l) d) → Satisfies (with_true a l) d
resolved a l c d n w =
    ⊎_elim
    (λ k. absurd (n (w.0, k, w.2)))
    (λ k. let h = but_for-∈ (opposite l) d w.0 k in (w.0, h.0, still_true a l w.0 h.1 w.2))
    (∈-append_cases w.0 c (but_for (opposite l) d) w.1)

-- where c is false, its literal l may become true
changed_satisfies : (P : List Clause) (c : Clause) (l : Literal) (a : Assignment) → ResolventsFollow P c l → SatisfiesAll a P →
    (Satisfies a c → ⊥) → SatisfiesAll (with_true a l) P
changed_satisfies P c l a r s n d m =
    ⊎_elim
    (λ o. resolved a l c d n (follows_entails P (c ++ but_for (opposite l) d) (r d m o) a s))
    (λ o. still_satisfied a l d o (s d m))
    (∈-or_not (opposite l) d)

pub rat_sound : (P : List Clause) (c : Clause) (l : Literal) → l ∈ c → ResolventsFollow P c l → IsSatisfiable P → IsSatisfiable (P ++ c ∷ [])
rat_sound P c l i r (a, s) =
    ⊎_elim
    (λ h. (a, satisfies_more a P c s h))
    (λ n. (with_true a l, satisfies_more (with_true a l) P c (changed_satisfies P c l a r s n) (l, i, now_true a l)))
    (satisfied_or_not a c)

-- 3. Lines.
first_sound : (P : List Clause) (c : Clause) → IsRat P c → IsSatisfiable P → IsSatisfiable (P ++ c ∷ [])
first_sound P [] r w = absurd r
first_sound P (l ∷ c) r w = rat_sound P (l ∷ c) l (inl refl) r w

follows_sound : (P : List Clause) (c : Clause) → Follows P c → IsSatisfiable P → IsSatisfiable (P ++ c ∷ [])
follows_sound P c f (a, s) = (a, satisfies_more a P c s (follows_entails P c f a s))

pub drat_line_sound : (P : List Clause) (line : Line) (Q : List Clause) → IsDratLine P line Q → IsSatisfiable P → IsSatisfiable Q
drat_line_sound P (Add c) Q h w = subst IsSatisfiable (sym h.1) (⊎_elim (λ f. follows_sound P c f w) (λ r. first_sound P c r w) h.0)
drat_line_sound P (Delete c) Q (inl t) (a, s) = (a, λ x m. s x (takes_less P c Q t x m))
drat_line_sound P (Delete c) Q (inr e) w = subst IsSatisfiable (sym e) w

pub drat_sound : (P : List Clause) (lines : List Line) (Q : List Clause) → DerivesByDrat P lines Q → IsSatisfiable P → IsSatisfiable Q
drat_sound P [] Q d w = subst IsSatisfiable d w
drat_sound P (line ∷ lines) Q (R, h, d) w = drat_sound R lines Q d (drat_line_sound P line R h w)

pub drat_join : (P : List Clause) (lines : List Line) (Q : List Clause) (more : List Line) (R : List Clause) → DerivesByDrat P lines Q →
    DerivesByDrat Q more R → DerivesByDrat P (lines ++ more) R
drat_join P [] Q more R d e = subst (λ (x : List Clause). DerivesByDrat x more R) (sym d) e
drat_join P (line ∷ lines) Q more R (S, h, d) e = (S, h, drat_join S lines Q more R d e)

-- where propagation conflicts behind lines of DRAT, the clauses are not satisfiable
pub drat_refutes : (P : List Clause) (lines : List Line) (Q : List Clause) → DerivesByDrat P lines Q → Conflicts Q [] → IsSatisfiable P → ⊥
drat_refutes P lines Q d k w = let (b, s) = drat_sound P lines Q d w in conflicts_sound Q [] b s (λ l h. absurd h) k
