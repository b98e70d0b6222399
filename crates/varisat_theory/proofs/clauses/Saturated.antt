-- Where propagation has come to its end.
use Rattle.std.proofs.Common.{◌≡◌, ◌≢◌, List, [], ◌∷◌, ◌++◌, ◌⊎◌, inl, inr, ⊎_elim, sym, ◌∙◌, subst}
use Rattle.varisat_theory.specs.promises.Membership.{◌∈◌, ◌⊆◌}
use Rattle.varisat_theory.specs.promises.Literals.{Literal, Clause, opposite}
use Rattle.varisat_theory.specs.promises.Propagation.{Conflicts, Clash, FalseClause, Propagate, LeavesOnly, IsFalse, IsComplete, IsSaturated}
use Rattle.varisat_theory.proofs.clauses.Members.{∈-or_not, ∈-append_cases}

-- no conflict where propagation came to its end without one
pub saturated_no_conflict : (P : List Clause) (base known : List Literal) → IsSaturated P known → base ⊆ known → Conflicts P base → ⊥
saturated_no_conflict P base known w s (Clash l h k) = w.no_clash (l, s l h, s (opposite l) k)
saturated_no_conflict P base known w s (FalseClause c h f) = w.complete.no_false (c, h, λ m i. s (opposite m) (f m i))
saturated_no_conflict P base known w s (Propagate c l h i u k) =
    let new = w.complete.closed c l h i (λ m j. ⊎_elim inl (λ o. inr (s (opposite m) o)) (u m j)) in
    saturated_no_conflict P (l ∷ base) known w (λ x. elim [ inl e ↦ subst (λ y. y ∈ known) (sym e) new | inr j ↦ s x j ]) k

-- A clause that has one literal unassigned after complete propagation, with the others false, has no held clause as a part.
pub learned_is_new : (P : List Clause) (known : List Literal) (l : Literal) (rest : Clause) → IsComplete P known → (l ∈ known → ⊥) →
    IsFalse known rest → (c : Clause) → c ∈ P → c ⊆ (l ∷ rest) → ⊥
learned_is_new P known l rest w n f c h s =
    ⊎_elim
    (λ i. n (w.closed c l h i (λ m j. ⊎_elim inl (λ k. inr (f m k)) (s m j))))
    (λ i. w.no_false (c, h, λ m j. ⊎_elim (λ e. absurd (i (subst (λ x. x ∈ c) e j))) (λ k. f m k) (s m j)))
    (∈-or_not l c)

-- complete for fewer clauses
pub complete_fewer : (P Q : List Clause) (known : List Literal) → Q ⊆ P → IsComplete P known → IsComplete Q known
complete_fewer P Q known s w = record {
  no_false = λ f. w.no_false (f.0, s f.0 f.1, f.2);
  closed = λ c l h i u. w.closed c l (s c h) i u;
}

-- and for one more clause with two literals that are not false
pub complete_added : (P : List Clause) (known : List Literal) (c : Clause) (x y : Literal) → x ∈ c → y ∈ c → x ≢ y → (opposite x ∈ known → ⊥) →
    (opposite y ∈ known → ⊥) → IsComplete P known → IsComplete (P ++ (c ∷ [])) known
complete_added P known c x y i j d a b w = record {
  no_false = λ f. ⊎_elim (λ h. w.no_false (f.0, h, f.2)) (λ h. ⊎_elim (λ e. a (f.2 x (subst (λ z. x ∈ z) (sym e) i))) (λ z. absurd z) h)
      (∈-append_cases f.0 P (c ∷ []) f.1);
  closed = λ e l h k u. ⊎_elim (λ m. w.closed e l m k u) (λ m. ⊎_elim (λ q. absurd (two e l q u)) (λ z. absurd z) m) (∈-append_cases e P (c ∷ []) h);
}
  where
    two : (e : Clause) (l : Literal) → e ≡ c → LeavesOnly known e l → ⊥
    two e l q u =
        ⊎_elim (λ f. ⊎_elim (λ g. d (f ∙ sym g)) b (u y (subst (λ z. y ∈ z) (sym q) j))) a (u x (subst (λ z. x ∈ z) (sym q) i))

-- and where clauses lost literals that are false
pub complete_shorter : (P Q : List Clause) (known : List Literal) →
    ((d : Clause) → d ∈ Q → (c : Clause) × (c ∈ P) × (d ⊆ c) × ((m : Literal) → m ∈ c → (m ∈ d) ⊎ (opposite m ∈ known))) → IsComplete P known →
    IsComplete Q known
complete_shorter P Q known f w = record {
  no_false = λ z. let r = f z.0 z.1 in w.no_false (r.0, r.1, λ m i. ⊎_elim (λ j. z.2 m j) (λ o. o) (r.3 m i));
  closed = λ d l h i u. let r = f d h in w.closed r.0 l r.1 (r.2 l i) (λ m j. ⊎_elim (λ k. u m k) inr (r.3 m j));
}
