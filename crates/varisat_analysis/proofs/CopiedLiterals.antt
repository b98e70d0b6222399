-- Copies of a clause's literals, each once, and their flags.
use Rattle.std.proofs.Common.{◌≡◌, ◌≢◌, ℕ, zero, suc, ◌+◌, ◌*◌, ◌<◌, ◌≤◌, Bool, true, false, ◌||◌, IsTrue, ◌↔◌, List, [], ◌∷◌, ◌++◌, inl, inr, ⊎_elim, length, get_or, set, take, take_all, refl, sym, ap, ap₂, ◌∙◌, subst, arith, get_or-set_same, get_or-set_other}
use Rattle.varisat_theory.specs.promises.Literals.{Literal, variable_of, opposite}
use Rattle.varisat_theory.proofs.clauses.Members.{equal_or_not}
use Rattle.varisat_analysis.specs.Flags.{AreFlagged}
use Rattle.varisat_theory.specs.promises.Membership.{◌∈◌, SameSet, IsDistinct}
use Rattle.varisat_theory.proofs.clauses.Members.{∈-append_left, ∈-append_right, ∈-append_cases}
use Rattle.varisat_theory.specs.promises.Searches.{IsTautology}
use Rattle.varisat_theory.proofs.clauses.Values.{opposite_twice}
use Rattle.varisat_theory.proofs.clauses.Places.{∈-take_more}

pub distinct-push : {X : Type 0} (xs : List X) (x : X) → IsDistinct xs → (x ∈ xs → ⊥) → IsDistinct (xs ++ x ∷ [])
distinct-push [] x d n = ((λ h. h), tt)
distinct-push (y ∷ xs) x d n =
    ((λ h. ⊎_elim d.0 (λ k. ⊎_elim (λ e. n (inl (sym e))) (λ z. z) k) (∈-append_cases y xs (x ∷ []) h)), distinct-push xs x d.1 (λ h. n (inr h)))

in-more : (xs : List ℕ) (i m : ℕ) → m ∈ take i xs → m ∈ take (i + 1) xs
in-more xs zero m h = absurd h
in-more [] (suc i) m h = absurd h
in-more (x ∷ xs) (suc i) m (inl e) = subst (λ k. m ∈ take k (x ∷ xs)) (more i) (inl e)
  where
    more : (i : ℕ) → suc (i + 1) ≡ suc i + 1
    more i = omega arith
in-more (x ∷ xs) (suc i) m (inr h) = subst (λ k. m ∈ take k (x ∷ xs)) (more i) (inr (in-more xs i m h))
  where
    more : (i : ℕ) → suc (i + 1) ≡ suc i + 1
    more i = omega arith

in-last : (xs : List ℕ) (i : ℕ) → i < length xs → get_or xs i 0 ∈ take (i + 1) xs
in-last [] i h = absurd (omega (arith, h))
in-last (x ∷ xs) zero h = inl refl
in-last (x ∷ xs) (suc i) h = subst (λ k. get_or xs i 0 ∈ take k (x ∷ xs)) (more i) (inr (in-last xs i (omega (arith, h))))
  where
    more : (i : ℕ) → suc (i + 1) ≡ suc i + 1
    more i = omega arith

pub copied-more : (xs c : List ℕ) (i v : ℕ) → IsDistinct xs → SameSet xs (take i c) → i < length c → v ≡ get_or c i 0 → (v ∈ xs → ⊥) →
    IsDistinct (xs ++ v ∷ []) × SameSet (xs ++ v ∷ []) (take (i + 1) c)
copied-more xs c i v d s h e n = (
  distinct-push xs v d n,
  (
    (λ m k. ⊎_elim (λ a. in-more c i m (s.0 m a))
        (λ a. ⊎_elim (λ f. subst (λ x. x ∈ take (i + 1) c) (sym (f ∙ e)) (in-last c i h)) (λ z. absurd z) a) (∈-append_cases m xs (v ∷ []) k)),
    (λ m k. ⊎_elim (λ a. ∈-append_left m xs (v ∷ []) (s.1 m a)) (λ f. ∈-append_right m xs (v ∷ []) (inl (f ∙ sym e))) (∈-take_more m c i 0 k)),
  ),
)

pub copied-same : (xs c : List ℕ) (i v : ℕ) → SameSet xs (take i c) → v ≡ get_or c i 0 → v ∈ xs → SameSet xs (take (i + 1) c)
copied-same xs c i v s e n =
    ((λ m k. in-more c i m (s.0 m k)), (λ m k. ⊎_elim (λ a. s.1 m a) (λ f. subst (λ x. x ∈ xs) (sym (f ∙ sym e)) n) (∈-take_more m c i 0 k)))

pub only-one : (xs others : List ℕ) (l : ℕ) → xs ≡ l ∷ others → length xs ≤ 1 → xs ≡ l ∷ []
only-one xs [] l e h = e
only-one xs (m ∷ others) l e h = let n = ap (λ (x : List ℕ). length x) e in absurd (omega (arith, n, h))

pub only-two : (xs : List ℕ) (l m : ℕ) → length xs ≡ 2 → l ≡ get_or xs 0 l → m ≡ get_or xs 1 m → xs ≡ l ∷ m ∷ []
only-two [] l m n e f = absurd (omega (arith, n))
only-two (x ∷ []) l m n e f = absurd (omega (arith, n))
only-two (x ∷ y ∷ []) l m n e f = ap₂ (λ a b. a ∷ b ∷ []) (sym e) (sym f)
only-two (x ∷ y ∷ z ∷ xs) l m n e f = absurd (omega (arith, n))

pub more-than-two : (n : ℕ) → 1 < n → n ≢ 2 → 3 ≤ n
more-than-two n h d = grind (arith, h, d)

-- one more literal is flagged
pub flagged-more : (flags : List Bool) (xs : List Literal) (v : Literal) → AreFlagged flags xs → v < length flags → AreFlagged (set flags v true) (xs ++ v ∷ [])
flagged-more flags xs v f h l =
    ⊎_elim
    (λ e. (
      (λ z. ∈-append_right l xs (v ∷ []) (inl e)),
      (λ i. ap (λ u. get_or (set flags v true) u false) e ∙ get_or-set_same flags v true false h),
    ))
    (λ n. let same = get_or-set_other flags v l true false n in (
      (λ z. ∈-append_left l xs (v ∷ []) ((f l).0 (sym same ∙ z))),
      (λ i. same ∙ (f l).1 (⊎_elim (λ o. o) (λ o. ⊎_elim (λ e. absurd (n e)) (λ q. absurd q) o) (∈-append_cases l xs (v ∷ []) i))),
    ))
    (equal_or_not l v)

-- one more is flagged, by flags that were made longer
pub flagged-longer : (xs ys : List Literal) (f g : List Bool) (v i : ℕ) → AreFlagged f xs → ((l : ℕ) → get_or g l false ≡ get_or f l false) →
    i < length g → i ≡ v → ys ≡ xs ++ v ∷ [] → AreFlagged (set g i true) ys
flagged-longer xs ys f g v i a s h e q =
    subst (λ j. AreFlagged (set g j true) ys) (sym e)
    (subst (AreFlagged (set g v true)) (sym q)
    (flagged-more g xs v (λ l. ((λ m. (a l).0 (sym (s l) ∙ m)), (λ m. s l ∙ (a l).1 m))) (omega (arith, h, e))))

pub flagged-none : (flags : List Bool) → ((l : Literal) → get_or flags l false ≡ false) → AreFlagged flags []
flagged-none flags c l = ((λ e. let z : true ≡ false = sym e ∙ c l in absurd cc), (λ i. absurd i))

-- The flags of the first i literals were taken away.
pub record Cleared (lits : List Literal) (i : ℕ) (flags : List Bool) : Type 0 where
  pub only : (l : Literal) → get_or flags l false ≡ true → l ∈ lits
  pub gone : (l : Literal) → l ∈ take i lits → get_or flags l false ≡ false

pub cleared-start : (lits : List Literal) (flags : List Bool) → AreFlagged flags lits → Cleared lits 0 flags
cleared-start lits flags f = record { only = λ l. (f l).0; gone = λ l h. absurd h }

pub cleared-next : (lits : List Literal) (i : ℕ) (flags : List Bool) (v : Literal) → v < length flags → v ≡ get_or lits i 0 → Cleared lits i flags →
    Cleared lits (i + 1) (set flags v false)
cleared-next lits i flags v h e c =
    let now : (l : Literal) → l ≡ v → get_or (set flags v false) l false ≡ false = λ l q. ap (λ u. get_or (set flags v false) u false) q
    ∙ get_or-set_same flags v false false h in
    let other : (l : Literal) → (l ≡ v → ⊥) → get_or (set flags v false) l false ≡ get_or flags l false = λ l n. get_or-set_other flags v l false false n in
    record {
      only = λ l z. ⊎_elim (λ q. let y : true ≡ false = sym z ∙ now l q in absurd cc) (λ n. c.only l (sym (other l n) ∙ z)) (equal_or_not l v);
      gone = λ l k. ⊎_elim
          (now l)
          (λ n. other l n ∙ ⊎_elim (c.gone l) (λ q. absurd (n (q ∙ sym e))) (∈-take_more l lits i 0 k))
          (equal_or_not l v);
    }

pub cleared-end : (lits : List Literal) (i : ℕ) (flags : List Bool) → length lits ≤ i → Cleared lits i flags → (l : Literal) → get_or flags l false ≡ false
cleared-end lits i flags h c l = go (get_or flags l false) refl
  where
    go : (b : Bool) → get_or flags l false ≡ b → b ≡ false
    go false e = refl
    go true e = sym e ∙ c.gone l (subst (λ xs. l ∈ xs) (sym (take_all i lits h)) (c.only l e))

-- a literal that is flagged has a flag
pub flag-inside : (flags : List Bool) (l : Literal) → get_or flags l false ≡ true → l < length flags
flag-inside [] l e = absurd cc
flag-inside (b ∷ flags) zero e = omega arith
flag-inside (b ∷ flags) (suc l) e = let i = flag-inside flags l e in omega (arith, i)

-- where a variable is known its literals have flags
pub own-list : (l n : ℕ) → variable_of l < n → l < 2 * n
own-list l n h = omega (arith, h)

-- a literal more, of which it is known whether its opposite is there
pub tautology-more : (xs : List ℕ) (v : ℕ) (found there : Bool) → IsTrue found ↔ IsTautology xs →
    IsTrue there ↔ (opposite v ∈ (xs ++ v ∷ [])) → IsTrue (found || there) ↔ IsTautology (xs ++ v ∷ [])
tautology-more xs v true there p q = (
  (λ e. let (l, a, b) = p.0 refl in (l, ∈-append_left l xs (v ∷ []) a, ∈-append_left (opposite l) xs (v ∷ []) b)),
  (λ t. refl),
)
tautology-more xs v false there p q = (
  (λ e. (v, ∈-append_right v xs (v ∷ []) (inl refl), q.0 e)),
  (λ (l, a, b). q.1 (⊎_elim
      (λ i. ⊎_elim (λ j. let z : false ≡ true = p.1 (l, i, j) in absurd cc)
      (λ j. ⊎_elim (λ e. subst (λ x. x ∈ (xs ++ v ∷ [])) (sym (opposite_twice l) ∙ ap opposite e) a) (λ z. absurd z) j)
      (∈-append_cases (opposite l) xs (v ∷ []) b))
      (λ i. ⊎_elim (λ e. subst (λ x. opposite x ∈ (xs ++ v ∷ [])) e b) (λ z. absurd z) i)
      (∈-append_cases l xs (v ∷ []) a))),
)
