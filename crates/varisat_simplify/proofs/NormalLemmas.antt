-- Each literal of a clause once.
use Rattle.std.proofs.Common.{◌≡◌, ℕ, Bool, true, add-one, ◌+◌, ◌<◌, ◌≤◌, List, [], ◌∷◌, ◌++◌, inl, inr, ⊎_elim, sym, ap, ◌∙◌, subst, refl, length, map, get_or, take, arith}
use Rattle.std.proofs.lemmas.List.{length-append, map-append}
use Rattle.std.proofs.Math.Seq.{take-suc}
use Rattle.varisat_theory.specs.promises.Membership.{◌∈◌, SameSet, IsDistinct}
use Rattle.varisat_theory.specs.promises.Literals.{Literal, Clause, opposite, variable_of}
use Rattle.varisat_theory.proofs.clauses.Members.{distinct_append, ∈-append_left, ∈-append_right, ∈-append_cases}
use Rattle.varisat_theory.proofs.clauses.Places.{∈-get_or, ∈-take_more, ∈-take_all}
use Rattle.varisat_theory.specs.promises.Searches.{IsTautology}
use Rattle.varisat_rules.specs.inside.Noting.{NotesPositions}
use Rattle.varisat_rules.specs.inside.Resolving.{IsOfOthers}
use Rattle.varisat_rules.proofs.NotingLemmas.{noted_none}
use Rattle.varisat_rules.proofs.ResolveLemmas.{none_taken, taken_in, taken_before, taken_last}

pub take_next : {X : Type 0} (xs : List X) (i : ℕ) (d : X) → i < length xs → take (i + 1) xs ≡ take i xs ++ get_or xs i d ∷ []
take_next xs i d h = rw add-one (take-suc xs i d h)

-- The list has the literals before the place, each variable of them once.
pub record TakesBefore (c : Clause) (i : ℕ) (e : Clause) : Type 0 where
  pub same : SameSet (take i c) e
  pub fewer : length e ≤ i
  pub once : IsDistinct (map variable_of e)

not_named : (e : Clause) (x : Literal) → IsOfOthers e x → variable_of x ∈ map variable_of e → ⊥
not_named [] x r h = h
not_named (m ∷ e) x r (inl q) = r m (inl refl) (sym q)
not_named (m ∷ e) x r (inr h) = not_named e x (λ k i. r k (inr i)) h

-- a literal of another variable
pub once_more : (e : Clause) (x : Literal) → IsOfOthers e x → IsDistinct (map variable_of e) → IsDistinct (map variable_of (e ++ x ∷ []))
once_more e x r d = subst (λ (vs : List ℕ). IsDistinct vs) (sym (map-append variable_of e (x ∷ [])))
    (distinct_append (map variable_of e) (variable_of x ∷ []) d ((λ z. z), tt)
    (λ v a b. ⊎_elim (λ q. not_named e x r (subst (λ y. y ∈ map variable_of e) q a)) (λ z. z) b))

pub once_before : (c : Clause) (i : ℕ) (x : Literal) → i < length c → x ≡ get_or c i 0 → IsOfOthers (take i c) x → IsDistinct (map variable_of (take i c)) →
    IsDistinct (map variable_of (take (i + 1) c))
once_before c i x h q r d = subst (λ e. IsDistinct (map variable_of e)) (ap (λ y. take i c ++ y ∷ []) q ∙ sym (take_next c i 0 h)) (once_more (take i c) x r d)

pub set_none : (c e : Clause) → e ≡ [] → TakesBefore c 0 e
set_none c e q = subst (λ d. TakesBefore c 0 d) (sym q) (record {
  same = ((λ m h. absurd (none_taken m c h)), λ m h. absurd h);
  fewer = omega arith;
  once = tt;
})

pub set_same : (c e f : Clause) (i x : ℕ) → x ≡ get_or c i 0 → x ∈ e → f ≡ e → TakesBefore c i e → TakesBefore c (i + 1) f
set_same c e f i x q p r s = subst (λ g. TakesBefore c (i + 1) g) (sym r) (record {
  same = (
    (λ m k. ⊎_elim (s.same.0 m) (λ w. subst (λ y. y ∈ e) (q ∙ sym w) p) (∈-take_more m c i 0 k)),
    (λ m k. taken_before m c i (s.same.1 m k)),
  );
  fewer = let n = s.fewer in omega (arith, n);
  once = s.once;
})

pub set_added : (c e f : Clause) (i x : ℕ) → i < length c → x ≡ get_or c i 0 → IsOfOthers e x → f ≡ e ++ x ∷ [] → TakesBefore c i e →
    TakesBefore c (i + 1) f
set_added c e f i x h q o r s = subst (λ g. TakesBefore c (i + 1) g) (sym r) (record {
  same = (
    (λ m k. ⊎_elim (λ a. ∈-append_left m e (x ∷ []) (s.same.0 m a)) (λ w. ∈-append_right m e (x ∷ []) (inl (w ∙ sym q))) (∈-take_more m c i 0 k)),
    (λ m k. ⊎_elim (λ a. taken_before m c i (s.same.1 m a)) (λ a. ⊎_elim (λ w. subst (λ y. y ∈ take (i + 1) c) (sym (w ∙ q)) (taken_last c i 0 h)) (λ z. absurd z) a)
        (∈-append_cases m e (x ∷ []) k)),
  );
  fewer = let n = s.fewer in let a = length-append e (x ∷ []) in omega (arith, a, n);
  once = once_more e x o s.once;
})

pub set_all : (c e : Clause) (i : ℕ) → length c ≤ i → SameSet (take i c) e → SameSet c e
set_all c e i h s = ((λ m k. s.0 m (∈-take_all m c i h k)), λ m k. taken_in m c i (s.1 m k))

pub tautology_at : (c e : Clause) (i x : ℕ) → i < length c → x ≡ get_or c i 0 → opposite x ∈ e → SameSet (take i c) e → IsTautology c
tautology_at c e i x h q o s = (x, subst (λ y. y ∈ c) (sym q) (∈-get_or c i 0 h), taken_in (opposite x) c i (s.1 (opposite x) o))

pub distinct_none : (c : Clause) → IsDistinct (map variable_of (take 0 c))
distinct_none [] = tt
distinct_none (x ∷ c) = tt

pub noted_before : (names ps : List ℕ) (c : Clause) (i x : ℕ) → i < length c → x ≡ get_or c i 0 → NotesPositions names ps (take i c ++ x ∷ []) →
    NotesPositions names ps (take (i + 1) c)
noted_before names ps c i x h q = subst (λ (e : Clause). NotesPositions names ps e) (ap (λ y. take i c ++ y ∷ []) q ∙ sym (take_next c i 0 h))

-- The same, and where the list's literals stand was noted if the flag says so.
pub record ReadsBefore (names : List ℕ) (t : Bool) (ps : List ℕ) (c : Clause) (i : ℕ) (e : Clause) : Type 0 where
  pub takes : TakesBefore c i e
  pub noted : t ≡ true → NotesPositions names ps e

pub reads_none : (names : List ℕ) (t : Bool) (ps : List ℕ) (c e : Clause) → e ≡ [] → ReadsBefore names t ps c 0 e
reads_none names t ps c e q = record {
  takes = set_none c e q;
  noted = λ u m i h. absurd (subst (λ (d : Clause). m ∈ d) q i);
}

pub reads_same : (names : List ℕ) (t : Bool) (ps qs : List ℕ) (c e f : Clause) (i x : ℕ) → x ≡ get_or c i 0 → x ∈ e → f ≡ e → qs ≡ ps →
    ReadsBefore names t ps c i e → ReadsBefore names t qs c (i + 1) f
reads_same names t ps qs c e f i x q p r z s = record {
  takes = set_same c e f i x q p r s.takes;
  noted = λ u. subst (λ (d : Clause). NotesPositions names qs d) (sym r) (subst (λ (ws : List ℕ). NotesPositions names ws e) (sym z) (s.noted u));
}

pub reads_added : (names : List ℕ) (t : Bool) (ps qs ws : List ℕ) (c e f g : Clause) (i x : ℕ) → i < length c → x ≡ get_or c i 0 → IsOfOthers e x →
    f ≡ g → qs ≡ ws → g ≡ e ++ x ∷ [] → (t ≡ true → NotesPositions names ws g) → ReadsBefore names t ps c i e → ReadsBefore names t qs c (i + 1) f
reads_added names t ps qs ws c e f g i x h q o r z a n s = record {
  takes = set_added c e f i x h q o (r ∙ a) s.takes;
  noted = λ u. subst (λ (d : Clause). NotesPositions names qs d) (sym r) (subst (λ (vs : List ℕ). NotesPositions names vs g) (sym z) (n u));
}
