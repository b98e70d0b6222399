-- Lists that are read an entry at a time.
use Rattle.std.proofs.Common.{◌≡◌, ◌<◌, ◌≤◌, ◌+◌, ℕ, zero, suc, List, [], ◌∷◌, ◌++◌, length, map, take, get_or, refl, sym, ap, subst, ◌∙◌, arith, inl, inr, ⊎_elim}
use Rattle.std.proofs.lemmas.List.{map-append, take_more}
use Rattle.varisat_theory.specs.promises.Membership.{◌∈◌}
use Rattle.varisat_theory.proofs.clauses.Members.{∈-append_cases}

-- one entry more of the list
take-entry : {A : Type 0} (xs : List A) (i : ℕ) (x : A) → i < length xs → x ≡ get_or xs i x →
    take (i + 1) xs ≡ take i xs ++ x ∷ []
take-entry xs i x h e = take_more xs i x h ∙ ap (λ y. take i xs ++ y ∷ []) (sym e)

-- one entry more is read, by what it is read as
pub read-more : {A B : Type 0} (f : A → B) (xs : List A) (i : ℕ) (x : A) (front new : List B) (y : B) → i < length xs →
    x ≡ get_or xs i x → front ≡ map f (take i xs) → new ≡ front ++ y ∷ [] → y ≡ f x → new ≡ map f (take (i + 1) xs)
read-more f xs i x front new y h e so_far put is =
    let more : map f (take (i + 1) xs) ≡ map f (take i xs) ++ f x ∷ [] =
    ap (λ ys. map f ys) (take-entry xs i x h e) ∙ map-append f (take i xs) (x ∷ []) in
    put ∙ (ap (λ z. front ++ z ∷ []) is ∙ (ap (λ zs. zs ++ f x ∷ []) so_far ∙ sym more))

-- what is none of the entries before, and not this one, is none of both
pub absent-more : {A : Type 0} (xs : List A) (i : ℕ) (x z : A) → i < length xs → x ≡ get_or xs i x → (z ∈ take i xs → ⊥) → (z ≡ x → ⊥) →
    z ∈ take (i + 1) xs → ⊥
absent-more xs i x z h e before other m =
    ⊎_elim (λ k. before k) (λ k. ⊎_elim (λ n. other n) (λ n. n) k)
    (∈-append_cases z (take i xs) (x ∷ []) (subst (λ ys. z ∈ ys) (take-entry xs i x h e) m))

-- an entry is one of the list
pub is-entry : {A : Type 0} (xs : List A) (i : ℕ) (x : A) → i < length xs → x ≡ get_or xs i x → x ∈ xs
is-entry [] i x h e = absurd (omega arith)
is-entry (y ∷ xs) zero x h e = inl e
is-entry (y ∷ xs) (suc i) x h e = inr (is-entry xs i x (omega arith) e)

-- all entries are read at the end
pub take-whole : {A : Type 0} (xs : List A) (i : ℕ) → length xs ≤ i → take i xs ≡ xs
take-whole [] zero h = refl
take-whole [] (suc i) h = refl
take-whole (x ∷ xs) zero h = absurd (omega arith)
take-whole (x ∷ xs) (suc i) h = ap (λ ys. x ∷ ys) (take-whole xs i (omega arith))
