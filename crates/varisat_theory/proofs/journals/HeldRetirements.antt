-- The clauses that mention a variable are dropped.
use Rattle.std.proofs.Common.{◌≡◌, ℕ, ◌/◌, Bool, true, false, ◌||◌, nat_eq, List, [], ◌∷◌, ◌++◌, inl, inr, ⊎_elim, sym, ap, ◌∙◌, subst, refl, eq-eqb, ne_eqb}
use Rattle.varisat_theory.specs.promises.Membership.{◌∈◌, ◌⊆◌, SameSet}
use Rattle.varisat_theory.specs.promises.Literals.{Literal, Clause}
use Rattle.varisat_theory.specs.promises.Derivations.{TakesOut}
use Rattle.varisat_theory.specs.promises.Held.{SameClauses, mentions, unless, without}
use Rattle.varisat_theory.proofs.clauses.Members.{equal_or_not}

pub mentioned_literal : (v : ℕ) (c : Clause) → mentions v c ≡ true → (l : Literal) × (l ∈ c) × (l / 2 ≡ v)
mentioned_literal v [] e = absurd (cc)
mentioned_literal v (l ∷ c) e =
    ⊎_elim
    (λ q. (l, inl refl, q))
    (λ n. let r = mentioned_literal v c (ap (λ b. b || mentions v c) (sym (ne_eqb (l / 2) v n)) ∙ e) in (r.0, inr r.1, r.2))
    (equal_or_not (l / 2) v)

or_true : (b : Bool) → (b || true) ≡ true
or_true true = refl
or_true false = refl

pub literal_mentioned : (v : ℕ) (c : Clause) (l : Literal) → l ∈ c → l / 2 ≡ v → mentions v c ≡ true
literal_mentioned v [] l h e = absurd h
literal_mentioned v (x ∷ c) l (inl q) e = ap (λ b. b || mentions v c) (eq-eqb (x / 2) v (ap (λ y. y / 2) (sym q) ∙ e))
literal_mentioned v (x ∷ c) l (inr h) e = ap (λ b. nat_eq (x / 2) v || b) (literal_mentioned v c l h e) ∙ or_true (nat_eq (x / 2) v)

-- clauses that are equal as sets name the same variables
mentions_part : (v : ℕ) (c d : Clause) → c ⊆ d → mentions v c ≡ true → mentions v d ≡ true
mentions_part v c d s e = let r = mentioned_literal v c e in literal_mentioned v d r.0 (s r.0 r.1) r.2

mentions_same : (v : ℕ) (c d : Clause) → SameSet c d → mentions v c ≡ mentions v d
mentions_same v c d s = go (mentions v c) (mentions v d) refl refl
  where
    go : (a b : Bool) → mentions v c ≡ a → mentions v d ≡ b → mentions v c ≡ mentions v d
    go true b e f = e ∙ sym (mentions_part v c d s.0 e)
    go false true e f = absurd (let g = mentions_part v d c s.1 f in cc)
    go false false e f = e ∙ sym f

pub without_append : (v : ℕ) (P Q : List Clause) → without v (P ++ Q) ≡ without v P ++ without v Q
without_append v [] Q = refl
without_append v (c ∷ P) Q = ap (unless (mentions v c) c) (without_append v P Q) ∙ joined (mentions v c)
  where
    joined : (b : Bool) → unless b c (without v P ++ without v Q) ≡ unless b c (without v P) ++ without v Q
    joined true = refl
    joined false = refl

pub without_less : (v : ℕ) (P : List Clause) → without v P ⊆ P
without_less v [] x h = h
without_less v (c ∷ P) x h = go (mentions v c) h (without_less v P x)
  where
    go : (b : Bool) → x ∈ unless b c (without v P) → (x ∈ without v P → x ∈ P) → x ∈ (c ∷ P)
    go true k f = inr (f k)
    go false (inl e) f = inl e
    go false (inr k) f = inr (f k)

-- where a clause is taken out that is dropped, the same clauses are left, and else it is taken out of what is left
module _ (v : ℕ) (front : List Clause) (d : Clause) (back : List Clause) where
  cut_dropped : mentions v d ≡ true → without v (front ++ (d ∷ back)) ≡ without v (front ++ back)
  cut_dropped e = without_append v front (d ∷ back) ∙ ap (λ b. without v front ++ unless b d (without v back)) e ∙ sym (without_append v front back)

  cut_kept : mentions v d ≡ false → without v (front ++ (d ∷ back)) ≡ without v front ++ (d ∷ without v back)
  cut_kept e = without_append v front (d ∷ back) ∙ ap (λ b. without v front ++ unless b d (without v back)) e

takes_dropped : (v : ℕ) (Q : List Clause) (c : Clause) (R : List Clause) → mentions v c ≡ true → TakesOut Q c R → without v Q ≡ without v R
takes_dropped v Q c R e (front, d, back, q, s, r) =
    ap (without v) q ∙ cut_dropped v front d back (mentions_same v d c s ∙ e) ∙ ap (without v) (sym r)

takes_kept : (v : ℕ) (Q : List Clause) (c : Clause) (R : List Clause) → mentions v c ≡ false → TakesOut Q c R → TakesOut (without v Q) c (without v R)
takes_kept v Q c R e (front, d, back, q, s, r) = (
  without v front,
  d,
  without v back,
  ap (without v) q ∙ cut_kept v front d back (mentions_same v d c s ∙ e),
  s,
  ap (without v) r
      ∙ without_append v front back,
)

pub same_without : (v : ℕ) (P Q : List Clause) → SameClauses P Q → SameClauses (without v P) (without v Q)
same_without v [] Q s = ap (without v) s
same_without v (c ∷ P) Q (R, t, s) = go (mentions v c) refl (same_without v P R s)
  where
    go : (b : Bool) → mentions v c ≡ b → SameClauses (without v P) (without v R) → SameClauses (unless (mentions v c) c (without v P)) (without v Q)
    go true e k = subst (λ x. SameClauses (unless x c (without v P)) (without v Q)) (sym e)
        (subst (SameClauses (without v P)) (sym (takes_dropped v Q c R e t)) k)
    go false e k = subst (λ x. SameClauses (unless x c (without v P)) (without v Q)) (sym e) (without v R, takes_kept v Q c R e t, k)
