-- Clauses that lose literals whose opposites are fixed.
use Rattle.std.proofs.Common.{◌≡◌, ℕ, zero, suc, ◌+◌, ◌<◌, ◌≤◌, true, List, [], ◌∷◌, ◌++◌, ◌⊎◌, inl, inr, ⊎_elim, sym, ap, ◌∙◌, subst, refl, length, get_or, take, arith}
use Rattle.varisat_theory.specs.promises.Membership.{◌∈◌}
use Rattle.varisat_theory.specs.promises.Literals.{Literal, Clause, Assignment, opposite, opposites, value, Satisfies}
use Rattle.varisat_theory.specs.promises.Propagation.{Conflicts, Follows}
use Rattle.varisat_theory.specs.promises.Propagation.Conflicts.{FalseClause, Propagate}
use Rattle.varisat_theory.proofs.clauses.Members.{∈-append_left, ∈-append_right, ∈-append_cases}
use Rattle.varisat_theory.proofs.clauses.Places.{∈-take_more, ∈-take_all}
use Rattle.varisat_theory.proofs.clauses.Values.{∈-opposites, not_both}
use Rattle.varisat_database.specs.Databases.{DatabaseState, pushed, removed, clause_at, IsLive}
use Rattle.varisat_rules.specs.inside.States.{live_clauses, Models, IsLaterState}
use Rattle.varisat_rules.specs.inside.Resolving.{IsLiveUnit, LeavesOutFalse}
use Rattle.varisat_rules.proofs.LeadingLemmas.{named_at}
use Rattle.varisat_rules.proofs.ResolveLemmas.{none_taken, taken_before, taken_last}
use Rattle.varisat_rules.proofs.StateLemmas.{unsaved, gone_pushed, gone_removed, push_reduces, remove_reduces, pushed_new, pushed_keeps, live_below, clause_held}
use Rattle.varisat_rules.proofs.FlowLemmas.{becomes_next}

pub only_one : (c : Clause) (l : Literal) → length c ≡ 1 → l ∈ c → c ≡ l ∷ []
only_one [] l e h = absurd h
only_one (x ∷ []) l e (inl q) = ap (λ m. m ∷ []) (sym q)
only_one (x ∷ []) l e (inr h) = absurd h
only_one (x ∷ y ∷ c) l e h = absurd (omega (arith, e))

pub false_none : (s : DatabaseState) (c e : Clause) → e ≡ [] → LeavesOutFalse s (take 0 c) e
false_none s c e q = record {
  part = λ m h. absurd (subst (λ x. m ∈ x) q h);
  whole = λ m h. absurd (none_taken m c h);
}

pub false_kept : (s : DatabaseState) (c e f : Clause) (i x : ℕ) → i < length c → x ≡ get_or c i 0 → f ≡ e ++ x ∷ [] →
    LeavesOutFalse s (take i c) e → LeavesOutFalse s (take (i + 1) c) f
false_kept s c e f i x h q r w = record {
  part = λ m k. ⊎_elim
      (λ a. taken_before m c i (w.part m a))
      (λ a. ⊎_elim (λ p. subst (λ y. y ∈ take (i + 1) c) (sym (p ∙ q)) (taken_last c i 0 h)) (λ z. absurd z) a)
      (∈-append_cases m e (x ∷ []) (subst (λ y. m ∈ y) r k));
  whole = λ m k. ⊎_elim
      (λ a. ⊎_elim (λ b. inl (subst (λ y. m ∈ y) (sym r) (∈-append_left m e (x ∷ []) b))) inr (w.whole m a))
      (λ p. inl (subst (λ y. m ∈ y) (sym r) (∈-append_right m e (x ∷ []) (inl (p ∙ sym q)))))
      (∈-take_more m c i 0 k);
}

pub false_dropped : (s : DatabaseState) (c e f : Clause) (i x : ℕ) → x ≡ get_or c i 0 → IsLiveUnit s (opposite x) → f ≡ e →
    LeavesOutFalse s (take i c) e → LeavesOutFalse s (take (i + 1) c) f
false_dropped s c e f i x q d r w = subst (λ g. LeavesOutFalse s (take (i + 1) c) g) (sym r) (record {
  part = λ m k. taken_before m c i (w.part m k);
  whole = λ m k. ⊎_elim
      (w.whole m)
      (λ p. inr (subst (λ y. IsLiveUnit s (opposite y)) (q ∙ sym p) d))
      (∈-take_more m c i 0 k);
})

pub false_all : (s : DatabaseState) (c e : Clause) (i : ℕ) → length c ≤ i → LeavesOutFalse s (take i c) e → LeavesOutFalse s c e
false_all s c e i h w = record {
  part = λ m k. inside m c i (w.part m k);
  whole = λ m k. w.whole m (∈-take_all m c i h k);
}
  where
    inside : (m : ℕ) (c : List ℕ) (n : ℕ) → m ∈ take n c → m ∈ c
    inside m [] zero h = h
    inside m [] (suc n) h = h
    inside m (y ∷ c) zero h = absurd h
    inside m (y ∷ c) (suc n) (inl q) = inl q
    inside m (y ∷ c) (suc n) (inr h) = inr (inside m c n h)

-- What is left follows.
left_follows : (s : DatabaseState) (i : ℕ) (e : Clause) → length s.live ≡ length s.clauses → IsLive s i → LeavesOutFalse s (clause_at s i) e → Follows (live_clauses s) e
left_follows s i e even live w =
    go (clause_at s i) (opposites e) (λ m h. inr h) (λ m h. ⊎_elim (λ k. inl (∈-opposites m e k)) inr (w.whole m h))
  where
    go : (rest : Clause) (known : List Literal) → ((m : Literal) → m ∈ clause_at s i → (opposite m ∈ known) ⊎ (m ∈ rest)) →
        ((m : Literal) → m ∈ rest → (opposite m ∈ known) ⊎ IsLiveUnit s (opposite m)) → Conflicts (live_clauses s) known
    go [] known h f = FalseClause (clause_at s i) (clause_held s i even live) (λ m k. ⊎_elim (λ a. a) (λ z. absurd z) (h m k))
    go (x ∷ rest) known h f = ⊎_elim
        (λ k. go rest known
        (λ m p. ⊎_elim inl (λ q. ⊎_elim (λ r. inl (subst (λ y. opposite y ∈ known) (sym r) k)) inr q) (h m p))
        (λ m p. f m (inr p)))
        (λ d. Propagate (opposite x ∷ []) (opposite x) (subst (λ (c : Clause). c ∈ live_clauses s) d.2 (clause_held s d.0 even d.1)) (inl refl)
        (λ m p. ⊎_elim inl (λ z. absurd z) p)
        (go rest (opposite x ∷ known)
        (λ m p. ⊎_elim (λ a. inl (inr a)) (λ q. ⊎_elim (λ r. inl (inl (ap opposite r))) inr q) (h m p))
        (λ m p. ⊎_elim (λ a. inl (inr a)) inr (f m (inr p)))))
        (f x (inl refl))

-- What satisfies the live clauses satisfies it.
left_satisfied : (a : Assignment) (s : DatabaseState) (i : ℕ) (e : Clause) → IsLive s i → LeavesOutFalse s (clause_at s i) e → Models a s → Satisfies a e
left_satisfied a s i e live w m =
    let t = m i live in
    ⊎_elim
    (λ h. (t.0, h, t.2))
    (λ d. let u = subst (λ (c : Clause). Satisfies a c) d.2 (m d.0 d.1) in
    absurd (not_both a t.0 t.2 (⊎_elim (λ q. subst (λ y. value a y ≡ true) q u.2) (λ z. absurd z) u.1)))
    (w.whole t.0 t.1)

-- The clause at i gives way to what is left of it.
pub shortened : (s t u : DatabaseState) (i : ℕ) (c d e : Clause) → c ≡ clause_at s i → d ≡ e → t ≡ pushed s d → u ≡ removed t i → IsLive s i →
    LeavesOutFalse s c e → IsLaterState s u
shortened s t u i c d e ec ed et eu live out =
    becomes_next s (removed (pushed s e) i) u
    (unsaved s (removed (pushed s e) i) refl (record {
      more = (e ∷ [], refl);
      count = refl;
      frozen = refl;
      both = refl;
      reduces = λ P r.
          let new = pushed_new s e r.even in
          let old = pushed_keeps s e i r.even live in
          let below = live_below s i live in
          let even = r.even in
          remove_reduces P (pushed s e) i (length s.clauses) new.0 (λ q. omega (arith, below, even, q))
          (λ m h. subst (λ x. m ∈ x) (sym old.1) (w.part m (subst (λ x. m ∈ x) new.1 h)))
          (push_reduces P s e (λ a m. left_satisfied a s i e live w m) (left_follows s i e r.even live w)
          (λ m h. named_at P s.clauses i r.named m (w.part m h)) r);
      gone = λ v h. gone_removed (pushed s e) i v (gone_pushed s e v (λ m n. (i, live, w.part m n)) h);
    }))
    (eu ∙ ap (λ (x : DatabaseState). removed x i) (et ∙ ap (λ (x : Clause). pushed s x) ed))
  where
    w : LeavesOutFalse s (clause_at s i) e
    w = subst (λ (x : Clause). LeavesOutFalse s x e) ec out
