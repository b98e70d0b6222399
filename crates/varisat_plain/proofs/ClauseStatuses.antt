-- The steps of the loop that looks at a clause's literals.
use Rattle.std.proofs.Common.{◌≡◌, ℕ, ◌+◌, ◌<◌, ◌≤◌, List, take, length, get_or, MatchOption, Option, Some, None, ◌⊎◌, inl, inr, ⊎_elim, sym, ◌∙◌, subst}
use Rattle.varisat_theory.specs.promises.Membership.{◌∈◌}
use Rattle.varisat_theory.specs.promises.Literals.{Literal, Clause, opposite}
use Rattle.varisat_theory.specs.promises.Propagation.{IsFalse, LeavesOnly}
use Rattle.varisat_theory.proofs.clauses.Places.{∈-get_or, ∈-take_more, ∈-take_all}

-- of the first i literals all are false, or all but the one that is left
abbrev pub Seen : List Literal → Clause → ℕ → Option Literal → Type 0
Seen known clause i left =
    MatchOption left
    (IsFalse known (take i clause))
    (λ x. (x ∈ clause) × (opposite x ∈ known → ⊥) × LeavesOnly known (take i clause) x)

-- the first literal that is not false
pub seen_first : (known : List Literal) (clause : Clause) (i : ℕ) (old new : Option Literal) → old ≡ None → new ≡ Some (get_or clause i 0) →
    i < length clause → Seen known clause i old → (opposite (get_or clause i 0) ∈ known → ⊥) → Seen known clause (i + 1) new
seen_first known clause i old new e f l s n =
    let t : Seen known clause i None = subst (Seen known clause i) e s in
    subst (Seen known clause (i + 1)) (sym f) (∈-get_or clause i 0 l, n, λ m h. ⊎_elim (λ k. inr (t m k)) inl (∈-take_more m clause i 0 h))

-- the same one again
pub seen_again : (known : List Literal) (clause : Clause) (i m : ℕ) (old new : Option Literal) → old ≡ Some m → new ≡ Some m →
    Seen known clause i old → m ≡ get_or clause i 0 → Seen known clause (i + 1) new
seen_again known clause i m old new e f s g =
    let t : Seen known clause i (Some m) = subst (Seen known clause i) e s in
    subst (Seen known clause (i + 1)) (sym f) (t.0, t.1, λ x h. ⊎_elim (λ k. t.2 x k) (λ j. inl (j ∙ sym g)) (∈-take_more x clause i 0 h))

still_false : (known : List Literal) (clause : Clause) (i : ℕ) → opposite (get_or clause i 0) ∈ known → (m : Literal) → m ∈ take (i + 1) clause →
    (m ∈ take i clause) ⊎ (opposite m ∈ known)
still_false known clause i k m h = ⊎_elim inl (λ e. inr (subst (λ x. opposite x ∈ known) (sym e) k)) (∈-take_more m clause i 0 h)

seen_on : (known : List Literal) (clause : Clause) (i : ℕ) (left : Option Literal) → opposite (get_or clause i 0) ∈ known →
    Seen known clause i left → Seen known clause (i + 1) left
seen_on known clause i None k s = λ m h. ⊎_elim (λ j. s m j) (λ j. j) (still_false known clause i k m h)
seen_on known clause i (Some x) k s = (s.0, s.1, λ m h. ⊎_elim (λ j. s.2 m j) inr (still_false known clause i k m h))

-- a literal that is false
pub seen_false : (known : List Literal) (clause : Clause) (i : ℕ) (old new : Option Literal) → new ≡ old → Seen known clause i old →
    opposite (get_or clause i 0) ∈ known → Seen known clause (i + 1) new
seen_false known clause i old new e s k = subst (Seen known clause (i + 1)) (sym e) (seen_on known clause i old k s)

-- the end of the clause
pub seen_end_none : (known : List Literal) (clause : Clause) (i : ℕ) (left : Option Literal) → left ≡ None → length clause ≤ i →
    Seen known clause i left → IsFalse known clause
seen_end_none known clause i left e h s m k =
    let t : Seen known clause i None = subst (Seen known clause i) e s in
    t m (∈-take_all m clause i h k)

pub seen_end_some : (known : List Literal) (clause : Clause) (i : ℕ) (left : Option Literal) (l : Literal) → left ≡ Some l → length clause ≤ i →
    Seen known clause i left → (l ∈ clause) × (opposite l ∈ known → ⊥) × LeavesOnly known clause l
seen_end_some known clause i left l e h s =
    let t : Seen known clause i (Some l) = subst (Seen known clause i) e s in
    (t.0, t.1, λ m k. t.2 m (∈-take_all m clause i h k))
