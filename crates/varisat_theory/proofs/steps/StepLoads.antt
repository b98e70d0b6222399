-- What loading a clause does.
use Rattle.std.proofs.Common.{◌≡◌, false, List, [], ◌∷◌, ◌++◌, ◌⊎◌, inl, inr, ⊎_elim, sym, ap, subst, refl}
use Rattle.varisat_theory.specs.promises.Membership.{◌∈◌, ◌⊆◌, SameSet}
use Rattle.varisat_theory.specs.promises.Literals.{Literal, Clause, opposite, IsUnit}
use Rattle.varisat_theory.specs.promises.Derivations.{Line, Delete}
use Rattle.varisat_theory.specs.promises.Analysis.{Implied}
use Rattle.varisat_theory.proofs.clauses.Members.{∈-append_left, ∈-append_right, ∈-append_cases}
use Rattle.varisat_theory.proofs.clauses.Implication.{implied_false, implied_more}
use Rattle.varisat_theory.proofs.clauses.Held.{same_set-back}
use Rattle.varisat_theory.specs.promises.Searches.{KeptClause, Search, IsDischarged, Covers, IsLiteralOf}
use Rattle.varisat_theory.specs.promises.Counted.{DerivesBy}
use Rattle.varisat_theory.specs.inside.Outcomes.{SearchOutcome, Unknown, Unsat, Holds, Proves, Loads, IsContradicted, IsLiteralOfEither}
use Rattle.varisat_theory.proofs.journals.StepCounts.{by_append}
use Rattle.varisat_theory.specs.inside.StepLaws.{IsGrounded}
use Rattle.varisat_theory.proofs.journals.Spoken.{spoken_wider, spoken_after, kept_within, unit_within}
use Rattle.varisat_theory.proofs.steps.StepAccounts.{unknown_is_open}
use Rattle.varisat_theory.proofs.steps.StepEnds.{fits_kept, covers_kept, fits_discharged, with_unit, fits_unit, covers_unit}

-- one more clause is covered
one_more : (s : Search) (P : List Clause) (c : Clause) → Covers P s → IsDischarged s c
    ⊎ ((k : KeptClause) × (k ∈ s.kept) × (k.learned ≡ false) × (k.clause ⊆ c)) → Covers (P ++ c ∷ []) s
one_more s P c v w d h =
    ⊎_elim (v d) (λ i. ⊎_elim (λ e. subst (λ x. IsDischarged s x ⊎ ((k : KeptClause) × (k ∈ s.kept) × (k.learned ≡ false) × (k.clause ⊆ x))) (sym e) w)
    (λ z. absurd z) i) (∈-append_cases d P (c ∷ []) h)

pub loaded_is_kept : (s : Search) (c : Clause) (k : KeptClause) → SameSet k.clause c → k.learned ≡ false → (IsContradicted s c → ⊥) →
    Loads s (record s { kept = s.kept ++ k ∷ [] }) c Unknown []
loaded_is_kept s c k q e n = record {
  holds = λ held f. (held ++ c ∷ [], refl, fits_kept s held c k q f);
  answers = λ P v.
      let t = record s { kept = s.kept ++ k ∷ [] } in
      one_more t P c (covers_kept s k P v) (inr (k, ∈-append_right k s.kept (k ∷ []) (inl refl), e, q.0));
  verdict = inr (n, refl);
  speaks = tt;
  within = λ y. kept_within s (IsLiteralOfEither s c) k (λ l h. inl h) (λ l h. inr (q.0 l h));
}

pub loaded_is_unit : (s : Search) (c : Clause) (l : Literal) → IsUnit l c → (opposite l ∈ s.fixed → ⊥) →
    Loads s (record s { fixed = s.fixed ++ l ∷ []; proved = s.proved ++ l ∷ [] }) c Unknown []
loaded_is_unit s c l u n = record {
  holds = λ held f. (held ++ c ∷ [], refl, fits_unit s held c l u f);
  answers = λ P v. one_more (with_unit s l) P c (covers_unit s l P v) (inl (inr (l, u.0, ∈-append_right l s.fixed (l ∷ []) (inl refl))));
  verdict = inr (
    λ w. ⊎_elim (λ e. let z : l ∈ [] = subst (λ x. l ∈ x) e u.0 in absurd z)
        (λ (m, v, o). n (subst (λ x. opposite x ∈ s.fixed) (u.1 m v.0) o)) w,
    refl,
  );
  speaks = tt;
  within = λ y. unit_within s (IsLiteralOfEither s c) l (λ m h. inl h) (inr u.0);
}

pub loaded_is_discharged : (s : Search) (c : Clause) → IsDischarged s c → (IsContradicted s c → ⊥) → Loads s s c Unknown []
loaded_is_discharged s c a n = record {
  holds = λ held f. (held ++ c ∷ [], refl, fits_discharged s held c a f);
  answers = λ P v. one_more s P c v (inl a);
  verdict = inr (n, refl);
  speaks = tt;
  within = λ y l h. inl h;
}

pub loaded_is_deleted : (s : Search) (c d : Clause) → IsDischarged s c → (IsContradicted s c → ⊥) → SameSet d c → Loads s s c Unknown (Delete d ∷ [])
loaded_is_deleted s c d a n q = record {
  holds = λ held f. (held, (held, (held, c, [], refl, same_set-back d c q, sym (none held)), refl), f);
  answers = λ P v. one_more s P c v (inl a);
  verdict = inr (n, refl);
  speaks = (λ l h. inr (q.0 l h), tt);
  within = λ y l h. inl h;
}
  where
    none : (P : List Clause) → P ++ [] ≡ P
    none [] = refl
    none (x ∷ P) = ap (λ l. x ∷ l) (none P)

pub loaded_is_contradicted : (s t : Search) (c : Clause) → IsGrounded s → IsContradicted s c → Loads s t c Unsat []
loaded_is_contradicted s t c r w = record {
  holds = λ held f.
      let fixed : (l : Literal) → l ∈ s.fixed → Implied (held ++ c ∷ []) [] l =
      λ l h. implied_more held (held ++ c ∷ []) [] [] l (λ x i. ∈-append_left x held (c ∷ []) i) (λ x i. i) (r held f l h) in
      (held ++ c ∷ [], refl, implied_false (held ++ c ∷ []) [] c (∈-append_right c held (c ∷ []) (inl refl)) (λ m i. fixed (opposite m) (opposed m i w)));
  answers = λ P v. tt;
  verdict = inl (w, refl);
  speaks = tt;
  within = λ u. absurd (u refl);
}
  where
    opposed : (m : Literal) → m ∈ c → IsContradicted s c → opposite m ∈ s.fixed
    opposed m i (inl e) = absurd (let z : m ∈ [] = subst (λ x. m ∈ x) e i in z)
    opposed m i (inr (l, u, o)) = subst (λ x. opposite x ∈ s.fixed) (sym (u.1 m i)) o

-- what moves without a line may do so before and after
pub part_load : (s t u : Search) (c : Clause) (v : SearchOutcome) (lines : List Line) → Proves 0 s t [] → s.fixed ⊆ t.fixed → t.fixed ⊆ s.fixed →
    Loads t u c v lines → Loads s u c v lines
part_load s t u c v lines p x y q = record {
  holds = λ held f.
      let (mid, e, g) = p.holds held f in
      subst (λ h. (after : List Clause) × DerivesBy 0 (h ++ c ∷ []) lines after × Holds after u v) (sym e) (q.holds mid g);
  answers = λ P a. q.answers P (p.covers P a);
  verdict = ⊎_elim
      (λ (a, e). inl (other t s y a, e))
      (λ (n, e). inr (λ a. n (other s t x a), e))
      q.verdict;
  speaks = spoken_wider (IsLiteralOfEither t c) (IsLiteralOfEither s c) lines wider q.speaks;
  within = λ n l h. wider l (q.within n l h);
}
  where
    wider : (l : Literal) → IsLiteralOfEither t c l → IsLiteralOfEither s c l
    wider l (inl h) = inl (p.within l h)
    wider l (inr h) = inr h

    other : (a b : Search) → a.fixed ⊆ b.fixed → IsContradicted a c → IsContradicted b c
    other a b z (inl e) = inl e
    other a b z (inr (l, u', o)) = inr (l, u', z (opposite l) o)

pub load_part : (s t u : Search) (c : Clause) (lines more : List Line) → Loads s t c Unknown lines → Proves 0 t u more → Loads s u c Unknown (lines ++ more)
load_part s t u c lines more p q = record {
  holds = λ held f.
      let (mid, d, g) = p.holds held f in
      let (after, e, h) = q.holds mid g in
      (after, by_append 0 0 (held ++ c ∷ []) lines mid more after d e, h);
  answers = λ P a. q.covers (P ++ c ∷ []) (p.answers P a);
  verdict = p.verdict;
  speaks = spoken_after (IsLiteralOf t) (IsLiteralOfEither s c) lines more inside p.speaks q.speaks;
  within = λ n l h. inside l (q.within l h);
}
  where
    inside : (l : Literal) → IsLiteralOf t l → IsLiteralOfEither s c l
    inside = p.within unknown_is_open
