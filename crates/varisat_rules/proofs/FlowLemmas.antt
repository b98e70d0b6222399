-- What the steps of a simplification make of a state.
use Rattle.std.proofs.Common.{◌≡◌, ℕ, ◌+◌, ◌≤◌, List, [], ◌∷◌, ◌++◌, ◌⊎◌, inl, inr, ⊎_elim, sym, ap, ◌∙◌, subst, refl, length, get_or, take, append-nil}
use Rattle.varisat_theory.specs.promises.Membership.{◌∈◌, ◌⊆◌}
use Rattle.varisat_theory.specs.promises.Literals.{Literal, Clause, opposite}
use Rattle.varisat_theory.proofs.clauses.Members.{∈-append_left, ∈-append_right, ∈-append_cases}
use Rattle.varisat_theory.proofs.clauses.Places.{∈-take_more, ∈-take_all}
use Rattle.varisat_database.specs.Databases.{DatabaseState, pushed, removed, clause_at, IsLive}
use Rattle.varisat_rules.specs.inside.States.{IsLaterState, Collects}
use Rattle.varisat_rules.specs.inside.Resolving.{LeavesOut}
use Rattle.varisat_rules.proofs.StateLemmas.{becomes_self, unsaved, gone_removed, remove_reduces, strengthened}

pub becomes_same : (s t : DatabaseState) → t ≡ s → IsLaterState s t
becomes_same s t e = subst (λ (u : DatabaseState). IsLaterState s u) (sym e) (becomes_self s)

pub becomes_next : (s t u : DatabaseState) → IsLaterState s t → u ≡ t → IsLaterState s u
becomes_next s t u b e = subst (λ (v : DatabaseState). IsLaterState s v) (sym e) b

pub subsumed_becomes : (s t : DatabaseState) (j i : ℕ) → t ≡ removed s i → IsLive s j → (j ≡ i → ⊥) → clause_at s j ⊆ clause_at s i → IsLaterState s t
subsumed_becomes s t j i e live n part = becomes_next s (removed s i) t (unsaved s (removed s i) refl (record {
  more = ([], sym (append-nil s.clauses));
  count = refl;
  frozen = refl;
  both = refl;
  reduces = λ P r. remove_reduces P s i j live n part r;
  gone = λ v h. gone_removed s i v h;
})) e

pub strengthened_becomes : (s t u : DatabaseState) (j i : ℕ) (l n : Literal) (c d e : Clause) → c ≡ clause_at s i → n ≡ opposite l → d ≡ e → t ≡ pushed s d → u ≡ removed t i →
    IsLive s j → IsLive s i → l ∈ clause_at s j → ((m : Literal) → m ∈ clause_at s j → (m ≡ l) ⊎ ((m ∈ clause_at s i) × (m ≡ opposite l → ⊥))) →
    LeavesOut c n e → IsLaterState s u
strengthened_becomes s t u j i l n c d e ec en ed et eu lj li hl left out =
    let o : LeavesOut (clause_at s i) n e = subst (λ (x : Clause). LeavesOut x n e) ec out in
    let q : LeavesOut (clause_at s i) (opposite l) e = subst (λ x. LeavesOut (clause_at s i) x e) en o in
    becomes_next s (removed (pushed s e) i) u
    (strengthened s j i l e lj li hl
    (λ m h. ⊎_elim inl (λ a. ⊎_elim (λ p. absurd (a.1 p)) inr (q.whole m a.0)) (left m h))
    (λ m h. q.whole m h)
    q.part)
    (eu ∙ ap (λ (x : DatabaseState). removed x i) (et ∙ ap (λ (x : Clause). pushed s x) ed))

-- The live clauses with a literal, as far as a list of places was read.
pub record Collecting (s : DatabaseState) (l : Literal) (items : List ℕ) (i : ℕ) (out : List ℕ) : Type 0 where
  pub live : (k : ℕ) → k ∈ out → IsLive s k
  pub with : (k : ℕ) → k ∈ out → l ∈ clause_at s k
  pub without : (k : ℕ) → k ∈ out → opposite l ∈ clause_at s k → ⊥
  pub seen : (k : ℕ) → k ∈ take i items → IsLive s k → l ∈ clause_at s k → k ∈ out

pub collecting_first : (s : DatabaseState) (l : Literal) (items out : List ℕ) → out ≡ [] → Collecting s l items 0 out
collecting_first s l items out e = record {
  live = λ k h. absurd (subst (λ (x : List ℕ). k ∈ x) e h);
  with = λ k h. absurd (subst (λ (x : List ℕ). k ∈ x) e h);
  without = λ k h o. absurd (subst (λ (x : List ℕ). k ∈ x) e h);
  seen = λ k h. absurd (none k items h);
}
  where
    none : (k : ℕ) (xs : List ℕ) → k ∈ take 0 xs → ⊥
    none k [] h = h
    none k (x ∷ xs) h = h

pub collecting_pass : (s : DatabaseState) (l : Literal) (items out more : List ℕ) (i x : ℕ) → x ≡ get_or items i 0 → (IsLive s x → l ∈ clause_at s x → ⊥) → more ≡ out →
    Collecting s l items i out → Collecting s l items (i + 1) more
collecting_pass s l items out more i x q n e r = subst (λ (o : List ℕ). Collecting s l items (i + 1) o) (sym e) (record {
  live = r.live;
  with = r.with;
  without = r.without;
  seen = λ k h a b. ⊎_elim
      (λ p. r.seen k p a b)
      (λ p. absurd (n (subst (λ y. IsLive s y) (p ∙ sym q) a) (subst (λ y. l ∈ clause_at s y) (p ∙ sym q) b)))
      (∈-take_more k items i 0 h);
})

pub collecting_push : (s : DatabaseState) (l : Literal) (items out more : List ℕ) (i x : ℕ) → x ≡ get_or items i 0 → IsLive s x → l ∈ clause_at s x →
    (opposite l ∈ clause_at s x → ⊥) → more ≡ out ++ x ∷ [] → Collecting s l items i out → Collecting s l items (i + 1) more
collecting_push s l items out more i x q a b d e r = subst (λ (o : List ℕ). Collecting s l items (i + 1) o) (sym e) (record {
  live = λ k h. ⊎_elim (r.live k) (λ p. subst (λ y. IsLive s y) (sym (one k p)) a) (∈-append_cases k out (x ∷ []) h);
  with = λ k h. ⊎_elim (r.with k) (λ p. subst (λ y. l ∈ clause_at s y) (sym (one k p)) b) (∈-append_cases k out (x ∷ []) h);
  without = λ k h o. ⊎_elim (λ p. r.without k p o) (λ p. d (subst (λ y. opposite l ∈ clause_at s y) (one k p) o)) (∈-append_cases k out (x ∷ []) h);
  seen = λ k h f g. ⊎_elim
      (λ p. ∈-append_left k out (x ∷ []) (r.seen k p f g))
      (λ p. ∈-append_right k out (x ∷ []) (inl (p ∙ sym q)))
      (∈-take_more k items i 0 h);
})
  where
    one : (k : ℕ) → k ∈ (x ∷ []) → k ≡ x
    one k (inl p) = p
    one k (inr p) = absurd p

pub collecting_end : (s : DatabaseState) (l : Literal) (items out : List ℕ) (i : ℕ) → length items ≤ i → length s.live ≡ length s.clauses →
    ((k : ℕ) → IsLive s k → l ∈ clause_at s k → k ∈ items) → Collecting s l items i out → Collects s l out
collecting_end s l items out i h even all r = record {
  even = even;
  all = λ k a b. r.seen k (∈-take_all k items i h (all k a b)) a b;
  live = r.live;
  with = r.with;
  without = r.without;
}
