-- What k steps of a call give together.
use Rattle.std.proofs.Common.{◌≡◌, ℕ, zero, suc, ◌+◌, ◌<◌, Bool, true, false, List, [], ◌∷◌, ◌++◌, inl, inr, sym, ap, ◌∙◌, subst, refl, append_assoc, arith}
use Rattle.std.proofs.lemmas.List.{append-nil}
use Rattle.varisat_theory.specs.promises.Membership.{◌∈◌}
use Rattle.varisat_theory.specs.promises.Literals.{Literal, Clause, Assignment, value, Satisfies, SatisfiesAll}
use Rattle.varisat_theory.specs.promises.Derivations.{Line, Derives, Refutes}
use Rattle.varisat_theory.specs.promises.Counted.{DerivesBy, AddsNew, AddsManyNew, DeletesNone}
use Rattle.varisat_theory.specs.promises.Searches.{KeptClause, Search, Fits, Covers, IsCoveredBySearch, Tautology, KnownTrue, FixedTrue, Kept, CoversBy, IsLiteralOf}
use Rattle.varisat_theory.specs.inside.Outcomes.{SearchOutcome, Unknown, Sat, Unsat, UnsatUnder, Proves, Steps, MakesSteps, AccountsFor}
use Rattle.varisat_theory.specs.inside.StepLaws.{joined}
use Rattle.varisat_theory.proofs.clauses.Assigned.{tautology_satisfied}
use Rattle.varisat_theory.proofs.clauses.Lines.{refutes_from, derives_present}
use Rattle.varisat_theory.proofs.journals.StepCounts.{by_derives, by_append, new_before, present_append}
use Rattle.varisat_theory.proofs.steps.StepAccounts.{unknown_is_open, accounts_after}
use Rattle.varisat_theory.proofs.journals.Spoken.{spoken_after}

-- new clauses stay new where lines come behind them that delete nothing
many_before : (k : ℕ) (P : List Clause) (lines more : List Line) → DeletesNone more → AddsManyNew k P lines → AddsManyNew k P (lines ++ more)
many_before zero P lines more none n = tt
many_before (suc k) P lines more none (first, last, Q, e, present, m, n) =
    (first, last ++ more, Q, ap (λ l. l ++ more) e ∙ append_assoc first last more, present, m, new_before Q last more none n)

-- those of later lines are new behind the earlier lines
many_after : (k : ℕ) (P : List Clause) (lines : List Line) (Q : List Clause) (more : List Line) →
    Derives P lines Q →
    AddsManyNew k Q more →
    AddsManyNew k P (lines ++ more)
many_after zero P lines Q more d n = tt
many_after (suc k) P lines Q more d (first, last, R, e, present, m, n) = (
  lines ++ first,
  last,
  R,
  ap (λ l. lines ++ l) e ∙ sym (append_assoc lines first last),
  present_append P lines Q first R d present,
  many_after k P lines Q first d m,
  n,
)

-- one more behind them
many_and_one : (k : ℕ) (P : List Clause) (lines : List Line) (Q : List Clause) (more : List Line) →
    Derives P lines Q →
    AddsManyNew k P lines →
    AddsNew Q more →
    AddsManyNew (suc k) P (lines ++ more)
many_and_one k P lines Q more d m n = (lines, more, Q, refl, derives_present P lines Q d, m, n)

pub none_made : (s : Search) → MakesSteps 0 s s Unknown []
none_made s = record { holds = λ held f. (held, refl, f); answers = λ P c. c; adds = λ held f e. tt; speaks = tt; within = λ n l h. h }

-- a part of which nothing counts is no step
pub part_made : (s t : Search) (lines : List Line) → Proves 0 s t lines → MakesSteps 0 s t Unknown lines
part_made s t lines p = record { holds = p.holds; answers = p.covers; adds = λ held f e. tt; speaks = p.speaks; within = λ n. p.within }

pub one_more_made : (k : ℕ) (s t u : Search) (v : SearchOutcome) (first second : List Line) → MakesSteps k s t Unknown first → Steps t u v second →
    MakesSteps (suc k) s u v (first ++ second)
one_more_made k s t u v first second p q = record {
  holds = λ held f.
      let (mid, d, g) = p.holds held f in
      let (after, e, h, n) = q.holds mid g in
      let sum : k + 1 ≡ suc k = omega arith in
      (after, subst (λ m. DerivesBy m held (first ++ second) after) sum (by_append k 1 held first mid second after d e), h);
  answers = λ P c. q.answers P (p.answers P c);
  adds = λ held f y.
      let (mid, d, g) = p.holds held f in
      let (after, e, h, n) = q.holds mid g in
      many_and_one k held first mid second (by_derives k held first mid d) (p.adds held f refl) (n y);
  speaks = spoken_after (IsLiteralOf t) (IsLiteralOf s) first second (p.within unknown_is_open) p.speaks q.speaks;
  within = λ n l h. p.within unknown_is_open l (q.within n l h);
}

pub steps_of_call : (k : ℕ) (s : ℕ → Search) (lines : ℕ → List Line) → ((i : ℕ) → i < k → Steps (s i) (s (suc i)) Unknown (lines i)) →
    MakesSteps k (s 0) (s k) Unknown (joined k lines)
steps_of_call zero s lines g = none_made (s 0)
steps_of_call (suc k) s lines g =
    one_more_made k (s 0) (s k) (s (suc k)) Unknown (joined k lines) (lines k) (steps_of_call k s lines (λ i h. g i (omega (arith, h)))) (g k (omega arith))

pub part_before_made : (k : ℕ) (s t u : Search) (v : SearchOutcome) (first second : List Line) → Proves 0 s t first → MakesSteps k t u v second →
    MakesSteps k s u v (first ++ second)
part_before_made k s t u v first second p q = record {
  holds = λ held f.
      let (mid, d, g) = p.holds held f in
      let (after, e, h) = q.holds mid g in
      let sum : 0 + k ≡ k = omega arith in
      (after, subst (λ m. DerivesBy m held (first ++ second) after) sum (by_append 0 k held first mid second after d e), h);
  answers = λ P c. q.answers P (p.covers P c);
  adds = λ held f y.
      let (mid, d, g) = p.holds held f in
      many_after k held first mid second (by_derives 0 held first mid d) (q.adds mid g y);
  speaks = spoken_after (IsLiteralOf t) (IsLiteralOf s) first second p.within p.speaks q.speaks;
  within = λ n l h. p.within l (q.within n l h);
}

-- the lines of a part after lines that may leave a search behind
after_made : (k : ℕ) (held : List Clause) (t u : Search) (first second : List Line) →
    ((mid : List Clause) × DerivesBy k held first mid × Fits mid t) → Proves 0 t u second → (after : List Clause)
    × DerivesBy k held (first ++ second) after × Fits after u
after_made k held t u first second (mid, d, g) q =
    let (after, e, h) = q.holds mid g in
    let sum : k + 0 ≡ k = omega arith in
    (after, subst (λ m. DerivesBy m held (first ++ second) after) sum (by_append k 0 held first mid second after d e), h)

pub part_after_made : (k : ℕ) (s t u : Search) (first second : List Line) → MakesSteps k s t Unknown first → Proves 0 t u second →
    DeletesNone second → MakesSteps k s u Unknown (first ++ second)
part_after_made k s t u first second p q none = record {
  holds = λ held f. after_made k held t u first second (p.holds held f) q;
  answers = λ P c. q.covers P (p.answers P c);
  adds = λ held f y. many_before k held first second none (p.adds held f y);
  speaks = spoken_after (IsLiteralOf t) (IsLiteralOf s) first second (p.within unknown_is_open) p.speaks q.speaks;
  within = λ n l h. p.within unknown_is_open l (q.within l h);
}

abbrev IsFound : SearchOutcome → Type 0
IsFound Unknown = ⊥
IsFound (Sat a) = Unit {0}
IsFound Unsat = ⊥
IsFound (UnsatUnder core) = ⊥

not_unknown : (found : Assignment) → Sat found ≡ Unknown → ⊥
not_unknown found e = subst IsFound e tt

found_is_open : (found : Assignment) → Sat found ≡ Unsat → ⊥
found_is_open found e = absurd (let y : Sat found ≡ Unsat = e in cc)

pub part_after_found : (k : ℕ) (s t u : Search) (found : Assignment) (first second : List Line) → MakesSteps k s t (Sat found) first →
    Proves 0 t u second → MakesSteps k s u (Sat found) (first ++ second)
part_after_found k s t u found first second p q = record {
  holds = λ held f. after_made k held t u first second (p.holds held f) q;
  answers = λ P c. let (a, m) = p.answers P c in (q.covers P a, m);
  adds = λ held f y. absurd (not_unknown found y);
  speaks = spoken_after (IsLiteralOf t) (IsLiteralOf s) first second (p.within (found_is_open found)) p.speaks q.speaks;
  within = λ n l h. p.within (found_is_open found) l (q.within l h);
}

pub steps_account : (k : ℕ) (P held : List Clause) (s t : Search) (v : SearchOutcome) (lines : List Line) → AccountsFor P held s Unknown →
    MakesSteps k s t v lines → (after : List Clause) × DerivesBy k held lines after × AccountsFor P after t v × (v ≡ Unknown → AddsManyNew k held lines)
steps_account k P held s t v lines w p =
    let (after, d, h) = p.holds held w.holds in
    (after, d, accounts_after k P held after s t v lines w d h (p.answers P w.answers), p.adds held w.holds)

pub steps_refute : (k : ℕ) (held : List Clause) (s t : Search) (lines : List Line) → Fits held s → MakesSteps k s t Unsat lines → Refutes held lines
steps_refute k held s t lines f p =
    let (after, d, h) = p.holds held f in
    refutes_from held lines (lines, [], after, sym (append-nil lines), by_derives k held lines after d, h)

-- a clause that names one which the assignment satisfies is satisfied under the other names
module _ (s : Search) (found a : Assignment) (to : Literal → Literal) (satisfied : (P : List Clause) → Covers P s → SatisfiesAll found P)
    (agrees : (l : Literal) → IsLiteralOf s l → value a (to l) ≡ value found l) where
  fixed_named : (c : Clause) (l : Literal) → l ∈ s.fixed → to l ∈ c → Satisfies a c
  fixed_named c l i j =
      let (m, e, y) = satisfied ((l ∷ []) ∷ []) (λ d. elim [ inl e ↦ inl (inr (l, subst (λ x. l ∈ x) (sym e) (inl refl), i)) | inr z ↦ absurd z ])
      (l ∷ []) (inl refl) in
      (to l, j, agrees l (inl i) ∙ ap (value found) (only m e) ∙ y)
    where
      only : (m : Literal) → m ∈ (l ∷ []) → l ≡ m
      only m (inl e) = sym e
      only m (inr z) = absurd z

  kept_named : (c : Clause) (k : KeptClause) → k ∈ s.kept → k.learned ≡ false → ((l : Literal) → l ∈ k.clause → to l ∈ c) → Satisfies a c
  kept_named c k i n w =
      let (m, j, y) = satisfied (k.clause ∷ []) (λ d. elim [ inl e ↦ inr (k, i, n, λ x h. subst (λ y. x ∈ y) (sym e) h) | inr z ↦ absurd z ])
      k.clause (inl refl) in
      (to m, w m j, agrees m (inr (k, i, j)) ∙ y)

  named : (known : Literal → Bool) → ((l : Literal) → known l ≡ true → value a l ≡ true) → (c : Clause) → IsCoveredBySearch to known s c → Satisfies a c
  named known r c (Tautology (l, i, j)) = tautology_satisfied a c l i j
  named known r c (KnownTrue l i e) = (l, i, r l e)
  named known r c (FixedTrue l i j) = fixed_named c l i j
  named known r c (Kept k i n w) = kept_named c k i n w

pub names_satisfied : (k : ℕ) (s t : Search) (found a : Assignment) (lines : List Line) (to : Literal → Literal) (known : Literal → Bool)
    (P : List Clause) → MakesSteps k s t (Sat found) lines → CoversBy to known P s →
    ((l : Literal) → IsLiteralOf s l → value a (to l) ≡ value found l) → ((l : Literal) → known l ≡ true → value a l ≡ true) → SatisfiesAll a P
names_satisfied k s t found a lines to known P p v agrees r c h =
    named s found a to (λ Q w. (p.answers Q w).1) agrees known r c (v c h)
