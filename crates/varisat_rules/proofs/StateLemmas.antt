-- What pushing and removing make of a state.
use Rattle.std.proofs.Common.{◌≡◌, ℕ, zero, suc, ◌+◌, ◌<◌, ◌≤◌, Bool, true, false, List, [], ◌∷◌, ◌++◌, ◌⊎◌, inl, inr, ⊎_elim, sym, ap, ◌∙◌, subst, refl, length, get_or, set, append-nil, arith}
use Rattle.std.proofs.lemmas.List.{get_or_append_left, length-append, append_assoc, length-set}
use Rattle.varisat_theory.specs.promises.Membership.{◌∈◌, ◌⊆◌}
use Rattle.varisat_theory.specs.promises.Literals.{Literal, Clause, Assignment, opposite, variable_of, value, Satisfies}
use Rattle.varisat_theory.specs.promises.Propagation.{FalseClause, Propagate, Follows}
use Rattle.varisat_theory.specs.promises.Derivations.{Add}
use Rattle.varisat_theory.proofs.clauses.Members.{equal_or_not, ∈-append_cases}
use Rattle.varisat_theory.proofs.clauses.Values.{∈-opposites, opposite_twice, not_both}
use Rattle.varisat_theory.proofs.clauses.Assigned.{same_set_satisfied}
use Rattle.varisat_formula.specs.promises.Values.{assignment_of}
use Rattle.varisat_database.specs.Databases.{DatabaseState, pushed, removed, clause_at, IsLive}
use Rattle.varisat_database.proofs.ListLemmas.{get_or-pushed}
use Rattle.varisat_rules.specs.inside.States.{live_clauses, Models, DerivesFrom, IsGone, LeadIsGone, IsSettled, Continues, IsLaterState}
use Rattle.varisat_rules.specs.promises.Leading.{LeadsTo, IsNamedBy}
use Rattle.varisat_rules.proofs.LeadingLemmas.{flagged_pushed, flagged_has, leads_add, leads_removed, told_add, told_removed, named_more, named_at}

pub continues_self : (s : DatabaseState) → Continues s s
continues_self s = record { more = ([], sym (append-nil s.clauses)); count = refl; frozen = refl; both = refl; reduces = λ P r. r; gone = λ v h. h }

pub continues_then : (s t u : DatabaseState) → Continues s t → Continues t u → Continues s u
continues_then s t u b d = record {
  more = (
    b.more.0 ++ d.more.0,
    d.more.1 ∙ ap (λ (x : List Clause). x ++ d.more.0) b.more.1 ∙ append_assoc s.clauses b.more.0 d.more.0,
  );
  count = d.count ∙ b.count;
  frozen = d.frozen ∙ b.frozen;
  both = d.both ∙ b.both;
  reduces = λ P r. d.reduces P (b.reduces P r);
  gone = λ v h. d.gone v (b.gone v h);
}

pub becomes_self : (s : DatabaseState) → IsLaterState s s
becomes_self s = record { continues = continues_self s; settles = λ h. h }

pub becomes_then : (s t u : DatabaseState) → IsLaterState s t → IsLaterState t u → IsLaterState s u
becomes_then s t u b d = record {
  continues = continues_then s t u b.continues d.continues;
  settles = λ h. d.settles (b.settles h);
}

-- what is gone stays so
pub lead_gone : (s t : DatabaseState) (c : Clause) → Continues s t → LeadIsGone s c → LeadIsGone t c
lead_gone s t [] b h = tt
lead_gone s t (l ∷ c) b h = b.gone (variable_of l) h

-- nothing is saved
pub unsaved : (s t : DatabaseState) → t.stack ≡ s.stack → Continues s t → IsLaterState s t
unsaved s t e b = record {
  continues = b;
  settles = λ h c m. lead_gone s t c b (h c (subst (λ (stack : List Clause). c ∈ stack) e m));
}

get_or-beyond : {X : Type 0} (xs : List X) (d : X) (k : ℕ) → length xs ≤ k → get_or xs k d ≡ d
get_or-beyond [] d k h = refl
get_or-beyond (x ∷ xs) d zero h = absurd (omega arith)
get_or-beyond (x ∷ xs) d (suc k) h = get_or-beyond xs d k (omega arith)

-- a live place is one of a clause
pub live_below : (s : DatabaseState) (k : ℕ) → IsLive s k → k < length s.live
live_below s k e = go s.live k e
  where
    go : (xs : List Bool) (k : ℕ) → get_or xs k false ≡ true → k < length xs
    go [] k e = absurd (cc)
    go (x ∷ xs) zero e = omega arith
    go (x ∷ xs) (suc k) e = let h = go xs k e in omega (arith, h)

-- the clause at a live place stays there
pub clause_stays : (s t : DatabaseState) (k : ℕ) → length s.live ≡ length s.clauses → IsLive s k → Continues s t → clause_at t k ≡ clause_at s k
clause_stays s t k even live b =
    let h = live_below s k live in
    ap (λ (cs : List Clause). get_or cs k []) b.more.1 ∙ get_or_append_left s.clauses b.more.0 [] k (omega (arith, h, even))

-- a live place after a push is an old one, with its clause, or the new one
pub pushed_live : (s : DatabaseState) (c : Clause) (k : ℕ) → length s.live ≡ length s.clauses → IsLive (pushed s c) k →
    (IsLive s k × (clause_at (pushed s c) k ≡ clause_at s k)) ⊎ ((k ≡ length s.clauses) × (clause_at (pushed s c) k ≡ c))
pushed_live s c k even e =
    ⊎_elim
    (λ h. inl (sym h.1 ∙ e, get_or_append_left s.clauses (c ∷ []) [] k (let p = h.0 in omega (arith, p, even))))
    (λ h. ⊎_elim (λ g. inr (g.0 ∙ even, new (g.0 ∙ even))) (λ g. absurd (let q = sym g.1 ∙ e in cc)) h)
    (get_or-pushed s.live true false k)
  where
    new : k ≡ length s.clauses → clause_at (pushed s c) k ≡ c
    new q = ⊎_elim
        (λ h. absurd (let p = h.0 in omega (arith, p, q)))
        (λ h. ⊎_elim (λ g. g.1) (λ g. absurd (let p = g.0 in omega (arith, p, q))) h)
        (get_or-pushed s.clauses c [] k)

-- an old live place stays live, with its clause
pub pushed_keeps : (s : DatabaseState) (c : Clause) (k : ℕ) → length s.live ≡ length s.clauses → IsLive s k →
    IsLive (pushed s c) k × (clause_at (pushed s c) k ≡ clause_at s k)
pushed_keeps s c k even e =
    let h = live_below s k e in
    (get_or_append_left s.live (true ∷ []) false k h ∙ e, get_or_append_left s.clauses (c ∷ []) [] k (omega (arith, h, even)))

-- the new place is live
pub pushed_new : (s : DatabaseState) (c : Clause) → length s.live ≡ length s.clauses →
    IsLive (pushed s c) (length s.clauses) × (clause_at (pushed s c) (length s.clauses) ≡ c)
pushed_new s c even = (
  ⊎_elim
      (λ h. absurd (let p = h.0 in omega (arith, p, even)))
      (λ h. ⊎_elim (λ g. g.1) (λ g. absurd (let p = g.0 in omega (arith, p, even))) h)
      (get_or-pushed s.live true false (length s.clauses)),
  ⊎_elim
      (λ h. absurd (let p = h.0 in omega (arith, p)))
      (λ h. ⊎_elim (λ g. g.1) (λ g. absurd (let p = g.0 in omega (arith, p))) h)
      (get_or-pushed s.clauses c [] (length s.clauses)),
)

-- a live place after a removal was live, and is another
pub removed_live : (s : DatabaseState) (i k : ℕ) → IsLive (removed s i) k → IsLive s k × (k ≡ i → ⊥)
removed_live s i k e = go s.live i k e
  where
    go : (xs : List Bool) (i k : ℕ) → get_or (set xs i false) k false ≡ true → (get_or xs k false ≡ true) × (k ≡ i → ⊥)
    go [] i k e = absurd (cc)
    go (x ∷ xs) zero zero e = absurd (cc)
    go (x ∷ xs) zero (suc k) e = (e, λ q. omega (arith, q))
    go (x ∷ xs) (suc i) zero e = (e, λ q. omega (arith, q))
    go (x ∷ xs) (suc i) (suc k) e = let r = go xs i k e in (r.0, λ q. r.1 (omega (arith, q)))

-- another live place stays live
pub removed_keeps : (s : DatabaseState) (i k : ℕ) → IsLive s k → (k ≡ i → ⊥) → IsLive (removed s i) k
removed_keeps s i k e n = go s.live i k e n
  where
    go : (xs : List Bool) (i k : ℕ) → get_or xs k false ≡ true → (k ≡ i → ⊥) → get_or (set xs i false) k false ≡ true
    go [] i k e n = absurd (cc)
    go (x ∷ xs) zero zero e n = absurd (n refl)
    go (x ∷ xs) zero (suc k) e n = e
    go (x ∷ xs) (suc i) zero e n = e
    go (x ∷ xs) (suc i) (suc k) e n = go xs i k e (λ q. n (ap suc q))

pub removed_even : (s : DatabaseState) (i : ℕ) → length s.live ≡ length s.clauses → length (removed s i).live ≡ length (removed s i).clauses
removed_even s i e = length-set s.live i false ∙ e

pub pushed_even : (s : DatabaseState) (c : Clause) → length s.live ≡ length s.clauses → length (pushed s c).live ≡ length (pushed s c).clauses
pushed_even s c e = length-append s.live (true ∷ []) ∙ ap (λ n. n + 1) e ∙ sym (length-append s.clauses (c ∷ []))

-- no new clause has a variable of no live clause
pub gone_pushed : (s : DatabaseState) (e : Clause) (v : ℕ) → ((m : Literal) → m ∈ e → (k : ℕ) × IsLive s k × (m ∈ clause_at s k)) → IsGone s v →
    IsGone (pushed s e) v
gone_pushed s e v from r = record {
  even = pushed_even s e r.even;
  none = λ k l live h q. ⊎_elim
      (λ g. r.none k l g.0 (subst (λ (c : Clause). l ∈ c) g.1 h) q)
      (λ g. let w = from l (subst (λ (c : Clause). l ∈ c) g.1 h) in r.none w.0 l w.1 w.2 q)
      (pushed_live s e k r.even live);
}

pub gone_removed : (s : DatabaseState) (i v : ℕ) → IsGone s v → IsGone (removed s i) v
gone_removed s i v r = record {
  even = removed_even s i r.even;
  none = λ k l live h q. r.none k l (removed_live s i k live).0 h q;
}

pub satisfies_same : (a : Assignment) (c d : Clause) → c ≡ d → Satisfies a d → Satisfies a c
satisfies_same a c d e s = subst (λ x. Satisfies a x) (sym e) s

-- one more live clause
pub live_pushed : (s : DatabaseState) (c : Clause) → length s.live ≡ length s.clauses → live_clauses (pushed s c) ≡ live_clauses s ++ c ∷ []
live_pushed s c e = flagged_pushed s.live s.clauses true c e

-- one more clause, which follows from what is live
pub push_reduces : (P : List Clause) (s : DatabaseState) (c : Clause) → ((a : Assignment) → Models a s → Satisfies a c) →
    Follows (live_clauses s) c → ((l : Literal) → l ∈ c → IsNamedBy P l) → DerivesFrom P s → DerivesFrom P (pushed s c)
push_reduces P s c entails f named r = record {
  even = pushed_even s c r.even;
  keeps = λ a h k e. ⊎_elim
      (λ g. satisfies_same a (clause_at (pushed s c) k) (clause_at s k) g.1 (r.keeps a h k g.0))
      (λ g. satisfies_same a (clause_at (pushed s c) k) c g.1 (entails a (r.keeps a h)))
      (pushed_live s c k r.even e);
  extends = λ vs n m. r.extends vs n (λ k e.
      let g = pushed_keeps s c k r.even e in
      satisfies_same (assignment_of vs) (clause_at s k) (clause_at (pushed s c) k) (sym g.1) (m k g.0));
  leads = subst (λ (Q : List Clause). LeadsTo P (s.lines ++ Add c ∷ []) Q) (sym (live_pushed s c r.even)) (leads_add P s.lines (live_clauses s) c f r.leads);
  named = named_more P s.clauses c named r.named;
  spoken = told_add P s.lines c named r.spoken;
  saved = r.saved;
  thawed = r.thawed;
  entailed = λ a h d m. ⊎_elim
      (r.entailed a h d)
      (λ k. ⊎_elim (λ q. satisfies_same a d c q (entails a (r.keeps a h))) (λ z. absurd z) k)
      (∈-append_cases d s.clauses (c ∷ []) m);
  implied = r.implied;
}

-- a live clause goes of which another live one is a part
pub remove_reduces : (P : List Clause) (s : DatabaseState) (i j : ℕ) → IsLive s j → (j ≡ i → ⊥) → clause_at s j ⊆ clause_at s i → DerivesFrom P s →
    DerivesFrom P (removed s i)
remove_reduces P s i j live n part r = record {
  even = removed_even s i r.even;
  keeps = λ a h k e. r.keeps a h k (removed_live s i k e).0;
  extends = λ vs b m. r.extends vs b (λ k e. ⊎_elim
      (λ q. same_set_satisfied (assignment_of vs) (clause_at s j) (clause_at s k) (λ l h. subst (λ x. l ∈ clause_at s x) (sym q) (part l h)) (m j (removed_keeps s i j live n)))
      (λ d. m k (removed_keeps s i k e d))
      (equal_or_not k i));
  leads = leads_removed P s.lines s.live s.clauses i r.even r.leads;
  named = r.named;
  spoken = told_removed P s.lines (get_or s.live i false) (clause_at s i) (named_at P s.clauses i r.named) r.spoken;
  saved = r.saved;
  thawed = r.thawed;
  entailed = r.entailed;
  implied = r.implied;
}

-- The resolvent of two clauses follows from them.
pub resolvent_follows : (Q : List Clause) (c d e : Clause) (l : Literal) → c ∈ Q → d ∈ Q → l ∈ c →
    ((m : Literal) → m ∈ c → (m ≡ l) ⊎ (m ∈ e)) → ((m : Literal) → m ∈ d → (m ≡ opposite l) ⊎ (m ∈ e)) → Follows Q e
resolvent_follows Q c d e l hc hd hl left right =
    Propagate c l hc hl (λ m h. ⊎_elim inl (λ k. inr (∈-opposites m e k)) (left m h))
    (FalseClause d hd (λ m h. ⊎_elim (λ q. inl (ap opposite q ∙ opposite_twice l)) (λ k. inr (∈-opposites m e k)) (right m h)))

-- What satisfies two clauses satisfies their resolvent.
pub resolvent_satisfied : (a : Assignment) (c d e : Clause) (l : Literal) → ((m : Literal) → m ∈ c → (m ≡ l) ⊎ (m ∈ e)) →
    ((m : Literal) → m ∈ d → (m ≡ opposite l) ⊎ (m ∈ e)) → Satisfies a c → Satisfies a d → Satisfies a e
resolvent_satisfied a c d e l left right sc sd =
    ⊎_elim
    (λ p. ⊎_elim
    (λ q. absurd (not_both a l (subst (λ m. value a m ≡ true) p sc.2) (subst (λ m. value a m ≡ true) q sd.2)))
    (λ k. (sd.0, k, sd.2))
    (right sd.0 sd.1))
    (λ k. (sc.0, k, sc.2))
    (left sc.0 sc.1)

-- the clause at a live place is one of those that are live
pub clause_held : (s : DatabaseState) (k : ℕ) → length s.live ≡ length s.clauses → IsLive s k → clause_at s k ∈ live_clauses s
clause_held s k even e = flagged_has s.live s.clauses k even e

-- The resolvent of two live clauses is added.
pub push_resolvent : (s : DatabaseState) (i j : ℕ) (l : Literal) (e : Clause) → IsLive s i → IsLive s j → l ∈ clause_at s i →
    ((m : Literal) → m ∈ clause_at s i → (m ≡ l) ⊎ (m ∈ e)) → ((m : Literal) → m ∈ clause_at s j → (m ≡ opposite l) ⊎ (m ∈ e)) →
    ((m : Literal) → m ∈ e → (m ∈ clause_at s i) ⊎ (m ∈ clause_at s j)) → Continues s (pushed s e)
push_resolvent s i j l e li lj hl left right from = record {
  more = (e ∷ [], refl);
  count = refl;
  frozen = refl;
  both = refl;
  reduces = λ P r. push_reduces P s e
      (λ a m. resolvent_satisfied a (clause_at s i) (clause_at s j) e l left right (m i li) (m j lj))
      (resolvent_follows (live_clauses s) (clause_at s i) (clause_at s j) e l (clause_held s i r.even li) (clause_held s j r.even lj) hl left right)
      (λ m h. ⊎_elim (named_at P s.clauses i r.named m) (named_at P s.clauses j r.named m) (from m h))
      r;
  gone = λ v h. gone_pushed s e v (λ m n. ⊎_elim (λ a. (i, li, a)) (λ a. (j, lj, a)) (from m n)) h;
}

-- The clause at j takes a literal from the one at i: the shorter one is added, and the other goes.
pub strengthened : (s : DatabaseState) (j i : ℕ) (l : Literal) (e : Clause) → IsLive s j → IsLive s i → l ∈ clause_at s j →
    ((m : Literal) → m ∈ clause_at s j → (m ≡ l) ⊎ (m ∈ e)) → ((m : Literal) → m ∈ clause_at s i → (m ≡ opposite l) ⊎ (m ∈ e)) → e ⊆ clause_at s i →
    IsLaterState s (removed (pushed s e) i)
strengthened s j i l e lj li hl left right part = unsaved s (removed (pushed s e) i) refl (record {
  more = (e ∷ [], refl);
  count = refl;
  frozen = refl;
  both = refl;
  reduces = λ P r.
      let new = pushed_new s e r.even in
      let old = pushed_keeps s e i r.even li in
      let below = live_below s i li in
      let even = r.even in
      remove_reduces P (pushed s e) i (length s.clauses) new.0 (λ q. omega (arith, below, even, q))
      (λ m h. subst (λ c. m ∈ c) (sym old.1) (part m (subst (λ c. m ∈ c) new.1 h)))
      (added.reduces P r);
  gone = λ v h. gone_removed (pushed s e) i v (added.gone v h);
})
  where
    added : Continues s (pushed s e)
    added = push_resolvent s j i l e lj li hl left right (λ m h. inr (part m h))
