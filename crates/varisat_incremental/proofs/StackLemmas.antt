-- What extensions of models change, and what they do not.
use Rattle.std.proofs.Common.{◌≡◌, ℕ, ◌/◌, ◌%◌, ◌<◌, Bool, true, false, nat_eq, List, [], ◌∷◌, ◌++◌, ◌⊎◌, inl, inr, ⊎_elim, sym, ap, ◌∙◌, refl, subst, length, get_or, get_or-set_other}
use Rattle.varisat_theory.specs.promises.Membership.{◌∈◌, ◌⊆◌}
use Rattle.varisat_theory.specs.promises.Literals.{Literal, Clause, Assignment, variable_of, value, Satisfies, SatisfiesAll}
use Rattle.varisat_theory.proofs.clauses.Members.{∈-append_left, ∈-append_right, ∈-append_cases}
use Rattle.varisat_theory.proofs.clauses.Values.{value_by}
use Rattle.varisat_formula.specs.promises.Values.{assignment_of}
use Rattle.varisat_rules.specs.promises.Stacks.{amended, extended}
use Rattle.varisat_rules.proofs.ExtendLemmas.{amended_cases}
use Rattle.varisat_incremental.specs.Reconstructions.{Drops}

pub extended-append : (S T : List Clause) (vs : List Bool) → extended (S ++ T) vs ≡ extended S (extended T vs)
extended-append [] T vs = refl
extended-append (c ∷ S) T vs = ap (amended c) (extended-append S T vs)

-- where the first literals are of other variables
pub unled-keeps : (S : List Clause) (vs : List Bool) (v : ℕ) → ((l : Literal) (c : Clause) → (l ∷ c) ∈ S → variable_of l ≡ v → ⊥) →
    get_or (extended S vs) v false ≡ get_or vs v false
unled-keeps [] vs v h = refl
unled-keeps ([] ∷ S) vs v h = unled-keeps S vs v (λ l c m. h l c (inr m))
unled-keeps ((l ∷ c) ∷ S) vs v h =
    ⊎_elim (λ e. ap (λ (x : List Bool). get_or x v false) e.1)
    (λ e. ap (λ (x : List Bool). get_or x v false) e.1
    ∙ get_or-set_other (extended S vs) (l / 2) v (nat_eq (l % 2) 0) false (λ e. h l c (inl refl) (sym e)))
    (amended_cases l c (extended S vs))
    ∙ unled-keeps S vs v (λ k d m. h k d (inr m))

value-same : (a b : Assignment) (l : Literal) → a (l / 2) ≡ b (l / 2) → value a l ≡ value b l
value-same a b l e = value_by a l (b (l / 2)) e ∙ sym (value_by b l (b (l / 2)) refl)

-- a literal stays true where its variable keeps its value
pub stays-true : (vs ws : List Bool) (l : Literal) → get_or ws (variable_of l) false ≡ get_or vs (variable_of l) false → value (assignment_of vs) l ≡ true →
    value (assignment_of ws) l ≡ true
stays-true vs ws l e t = value-same (assignment_of ws) (assignment_of vs) l e ∙ t

-- so a clause stays satisfied
pub stays-satisfied : (vs ws : List Bool) (c : Clause) → ((l : Literal) → l ∈ c → get_or ws (variable_of l) false ≡ get_or vs (variable_of l) false) →
    Satisfies (assignment_of vs) c → Satisfies (assignment_of ws) c
stays-satisfied vs ws c h (l, i, t) = (l, i, stays-true vs ws l (h l i) t)

amended-same : (c : Clause) (vs : List Bool) → Satisfies (assignment_of vs) c → amended c vs ≡ vs
amended-same [] vs s = refl
amended-same (l ∷ c) vs s = ⊎_elim (λ h. h.1) (λ h. absurd (h.0 s)) (amended_cases l c vs)

-- Clauses that were dropped.

pub drops-all : (R S : List Clause) → S ⊆ R → Drops R S []
drops-all R [] h = tt
drops-all R (c ∷ S) h = (h c (inl refl), drops-all R S (λ d i. h d (inr i)))

pub drops-kept : (R S K : List Clause) (c : Clause) → Drops R S K → Drops R (S ++ c ∷ []) (K ++ c ∷ [])
drops-kept R [] [] c d = inl (refl, tt)
drops-kept R [] (k ∷ K) c d = absurd d
drops-kept R (x ∷ S) [] c d = inr (d.0, drops-kept R S [] c d.1)
drops-kept R (x ∷ S) (k ∷ K) c (inl d) = inl (d.0, drops-kept R S K c d.1)
drops-kept R (x ∷ S) (k ∷ K) c (inr d) = inr (d.0, drops-kept R S (k ∷ K) c d.1)

pub drops-one : (R S K : List Clause) (c : Clause) → c ∈ R → Drops R S K → Drops R (S ++ c ∷ []) K
drops-one R [] [] c i d = (i, tt)
drops-one R [] (k ∷ K) c i d = absurd d
drops-one R (x ∷ S) [] c i d = (d.0, drops-one R S [] c i d.1)
drops-one R (x ∷ S) (k ∷ K) c i (inl d) = inl (d.0, drops-one R S K c i d.1)
drops-one R (x ∷ S) (k ∷ K) c i (inr d) = inr (d.0, drops-one R S (k ∷ K) c i d.1)

pub drops-more : (R T S K : List Clause) → R ⊆ T → Drops R S K → Drops T S K
drops-more R T [] [] h d = tt
drops-more R T [] (k ∷ K) h d = absurd d
drops-more R T (x ∷ S) [] h d = (h x d.0, drops-more R T S [] h d.1)
drops-more R T (x ∷ S) (k ∷ K) h (inl d) = inl (d.0, drops-more R T S K h d.1)
drops-more R T (x ∷ S) (k ∷ K) h (inr d) = inr (h x d.0, drops-more R T S (k ∷ K) h d.1)

pub drops-part : (R S K : List Clause) → Drops R S K → K ⊆ S
drops-part R [] [] d c i = i
drops-part R [] (k ∷ K) d c i = absurd d
drops-part R (x ∷ S) [] d c i = absurd i
drops-part R (x ∷ S) (k ∷ K) (inl d) c (inl e) = inl (e ∙ sym d.0)
drops-part R (x ∷ S) (k ∷ K) (inl d) c (inr i) = inr (drops-part R S K d.1 c i)
drops-part R (x ∷ S) (k ∷ K) (inr d) c i = inr (drops-part R S (k ∷ K) d.1 c i)

pub drops-then : (R S K L : List Clause) → Drops R S K → Drops R K L → Drops R S L
drops-then R [] [] L d e = e
drops-then R [] (k ∷ K) L d e = absurd d
drops-then R (x ∷ S) [] [] d e = (d.0, drops-then R S [] [] d.1 e)
drops-then R (x ∷ S) [] (l ∷ L) d e = absurd e
drops-then R (x ∷ S) (k ∷ K) [] (inl d) e = (subst (λ y. y ∈ R) (sym d.0) e.0, drops-then R S K [] d.1 e.1)
drops-then R (x ∷ S) (k ∷ K) [] (inr d) e = (d.0, drops-then R S (k ∷ K) [] d.1 e)
drops-then R (x ∷ S) (k ∷ K) (l ∷ L) (inl d) (inl e) = inl (d.0 ∙ e.0, drops-then R S K L d.1 e.1)
drops-then R (x ∷ S) (k ∷ K) (l ∷ L) (inl d) (inr e) = inr (subst (λ y. y ∈ R) (sym d.0) e.0, drops-then R S K (l ∷ L) d.1 e.1)
drops-then R (x ∷ S) (k ∷ K) (l ∷ L) (inr d) e = inr (d.0, drops-then R S (k ∷ K) (l ∷ L) d.1 e)

-- the first literals of K are of no variable of R
abbrev pub AreApart : List Clause → List Clause → Type 0
AreApart K R = (l : Literal) (c d : Clause) (m : Literal) → (l ∷ c) ∈ K → d ∈ R → m ∈ d → variable_of l ≡ variable_of m → ⊥

-- What is left extends values as all did, where they satisfy what was dropped.
pub dropped-same : (R S K : List Clause) (vs : List Bool) → SatisfiesAll (assignment_of vs) R → AreApart K R → Drops R S K → extended S vs ≡ extended K vs
dropped-same R [] [] vs s a d = refl
dropped-same R [] (k ∷ K) vs s a d = absurd d
dropped-same R (c ∷ S) [] vs s a d = ap (amended c) (dropped-same R S [] vs s a d.1) ∙ amended-same c vs (s c d.0)
dropped-same R (c ∷ S) (k ∷ K) vs s a (inl d) =
    ap (amended c) (dropped-same R S K vs s (λ l e f m i. a l e f m (inr i)) d.1) ∙ ap (λ (x : Clause). amended x (extended K vs)) d.0
dropped-same R (c ∷ S) (k ∷ K) vs s a (inr d) =
    ap (amended c) (dropped-same R S (k ∷ K) vs s a d.1)
    ∙ amended-same c (extended (k ∷ K) vs)
    (stays-satisfied vs (extended (k ∷ K) vs) c (λ m i. unled-keeps (k ∷ K) vs (variable_of m) (λ l e j q. a l e c m j d.0 i q)) (s c d.0))
