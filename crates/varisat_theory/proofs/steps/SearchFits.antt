-- Lists that hold the same clauses, and what fits a search.
use Rattle.std.proofs.Common.{◌≡◌, ℕ, ◌≤◌, List, [], ◌∷◌, ◌++◌, length, inl, inr, sym, ap, ◌∙◌, subst, refl, append_assoc, arith, length-append}
use Rattle.std.proofs.lemmas.List.{append-nil}
use Rattle.varisat_theory.specs.promises.Membership.{◌∈◌, SameSet}
use Rattle.varisat_theory.specs.promises.Literals.{Literal, Clause}
use Rattle.varisat_theory.specs.promises.Derivations.{Line}
use Rattle.varisat_theory.specs.promises.Held.{SameClauses}
use Rattle.varisat_theory.specs.promises.Analysis.{Implied}
use Rattle.varisat_theory.proofs.clauses.Members.{∈-append_left, ∈-append_right}
use Rattle.varisat_theory.proofs.clauses.Held.{same_set-self, same_clauses-self, same_clauses-back, same_clauses-through, same_clauses_find, put_back}
use Rattle.varisat_theory.proofs.clauses.Implication.{unit_implied}
use Rattle.varisat_theory.specs.promises.Counted.{DerivesBy}
use Rattle.varisat_theory.specs.promises.Searches.{KeptClause, Search, clauses_of, Fits}
use Rattle.varisat_theory.proofs.journals.StepCounts.{by_same}

-- one clause more in both, anywhere
pub same_insert : (front back front' back' : List Clause) (d p : Clause) → SameSet d p → SameClauses (front ++ back) (front' ++ back') →
    SameClauses (front ++ (d ∷ back)) (front' ++ (p ∷ back'))
same_insert front back front' back' d p s h =
    same_clauses-through (front ++ (d ∷ back)) (p ∷ (front' ++ back')) (front' ++ (p ∷ back')) (put_back front back (front' ++ back') d p s h)
    (front' ++ back', (front', p, back', refl, same_set-self p, refl), same_clauses-self (front' ++ back'))

-- more clauses behind both
pub same_front : (K J O : List Clause) → SameClauses K J → SameClauses (K ++ O) (J ++ O)
same_front [] J O s = subst (λ X. SameClauses O (X ++ O)) (sym s) (same_clauses-self O)
same_front (p ∷ K) J O (R, (f, d, b, e, u, g), s) =
    (R ++ O, (f, d, b ++ O, ap (λ l. l ++ O) e ∙ append_assoc f (d ∷ b) O, u, ap (λ l. l ++ O) g ∙ append_assoc f b O), same_front K R O s)

pub same_equal : (P Q : List Clause) → P ≡ Q → SameClauses P Q
same_equal P Q e = subst (SameClauses P) e (same_clauses-self P)

-- the last clause goes between the two parts
pub same_between : (K O : List Clause) (c d : Clause) → SameSet c d → SameClauses ((K ++ O) ++ c ∷ []) ((K ++ d ∷ []) ++ O)
same_between K O c d s =
    subst (SameClauses ((K ++ O) ++ c ∷ [])) (sym (append_assoc K (d ∷ []) O))
    (same_insert (K ++ O) [] K O c d s (same_equal ((K ++ O) ++ []) (K ++ O) (append-nil (K ++ O))))

-- 2. The kept clauses at a place.

pub clauses_at : (front back : List KeptClause) (k : KeptClause) (O : List Clause) →
    clauses_of (front ++ (k ∷ back)) ++ O ≡ clauses_of front ++ (k.clause ∷ (clauses_of back ++ O))
clauses_at [] back k O = refl
clauses_at (j ∷ front) back k O = ap (λ l. j.clause ∷ l) (clauses_at front back k O)

pub clauses_join : (front back : List KeptClause) (O : List Clause) → clauses_of (front ++ back) ++ O ≡ clauses_of front ++ (clauses_of back ++ O)
clauses_join [] back O = refl
clauses_join (j ∷ front) back O = ap (λ l. j.clause ∷ l) (clauses_join front back O)

pub clauses_last : (ks : List KeptClause) (k : KeptClause) → clauses_of (ks ++ k ∷ []) ≡ clauses_of ks ++ k.clause ∷ []
clauses_last [] k = refl
clauses_last (j ∷ ks) k = ap (λ l. j.clause ∷ l) (clauses_last ks k)

pub clause_in : (ks : List KeptClause) (k : KeptClause) → k ∈ ks → k.clause ∈ clauses_of ks
clause_in [] k h = absurd h
clause_in (j ∷ ks) k (inl e) = inl (ap (λ x. x.clause) e)
clause_in (j ∷ ks) k (inr h) = inr (clause_in ks k h)

pub clause_from : (ks : List KeptClause) (c : Clause) → c ∈ clauses_of ks → (k : KeptClause) × (k ∈ ks) × (k.clause ≡ c)
clause_from [] c h = absurd h
clause_from (j ∷ ks) c (inl e) = (j, inl refl, sym e)
clause_from (j ∷ ks) c (inr h) = let (k, i, e) = clause_from ks c h in (k, inr i, e)

-- 3. What fits.

-- the same clauses in another order fit too
pub fits_same : (P Q : List Clause) (s : Search) → SameClauses P Q → Fits P s → Fits Q s
fits_same P Q s q f = record {
  others = f.others;
  same = same_clauses-through Q P (clauses_of s.kept ++ f.others) (same_clauses-back P Q q) f.same;
  settled = f.settled;
  units = f.units;
}

-- What is held in the plainest order: the kept clauses, and then the others.
abbrev pub plain : (held : List Clause) (s : Search) → Fits held s → List Clause
plain held s f = clauses_of s.kept ++ f.others

-- it is enough to follow the lines from there
pub carried : (n : ℕ) (P L : List Clause) (lines : List Line) (t : Search) → SameClauses P L →
    ((Q : List Clause) × DerivesBy n L lines Q × Fits Q t) → (Q : List Clause) × DerivesBy n P lines Q × Fits Q t
carried n P L lines t q (Q, d, f) =
    let (R, e, u) = by_same n L P lines Q (same_clauses-back P L q) d in
    (R, e, fits_same Q R t u f)

-- a kept clause is held
pub kept_held : (held : List Clause) (s : Search) (k : KeptClause) → Fits held s → k ∈ s.kept → (d : Clause) × (d ∈ held) × SameSet d k.clause
kept_held held s k f h =
    same_clauses_find (clauses_of s.kept ++ f.others) held (same_clauses-back held (clauses_of s.kept ++ f.others) f.same) k.clause
    (∈-append_left k.clause (clauses_of s.kept) f.others (clause_in s.kept k h))

-- a proved literal is implied
pub proved_implied : (held : List Clause) (s : Search) (l : Literal) (f : Fits held s) → l ∈ s.proved → Implied (clauses_of s.kept ++ f.others) [] l
proved_implied held s l f h =
    let (d, i, u) = f.units l h in
    unit_implied (clauses_of s.kept ++ f.others) [] l d (∈-append_right d (clauses_of s.kept) f.others i) u

-- 4. As many clauses.

same_count : (P Q : List Clause) → SameClauses P Q → length Q ≡ length P
same_count [] Q s = ap (λ (l : List Clause). length l) s
same_count (p ∷ P) Q (R, (front, d, back, e, u, g), s) =
    let a = ap (λ (l : List Clause). length l) e in
    let b = ap (λ (l : List Clause). length l) g in
    let c = length-append front (d ∷ back) in
    let f = length-append front back in
    let n = same_count P R s in
    omega (arith, a, b, c, f, n)

clauses_count : (ks : List KeptClause) → length (clauses_of ks) ≡ length ks
clauses_count [] = refl
clauses_count (k ∷ ks) = let e = clauses_count ks in omega (arith, e)

pub kept_are_held : (held : List Clause) (s : Search) → Fits held s → length s.kept ≤ length held
kept_are_held held s f =
    let a = same_count held (clauses_of s.kept ++ f.others) f.same in
    let b = length-append (clauses_of s.kept) f.others in
    let c = clauses_count s.kept in
    omega (arith, a, b, c)
