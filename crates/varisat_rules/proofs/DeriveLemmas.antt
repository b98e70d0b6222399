-- Clauses that are read in turn, and what follows from them.
use Rattle.std.proofs.Common.{◌≡◌, ℕ, ◌+◌, ◌<◌, ◌≤◌, Bool, true, false, List, [], ◌∷◌, ◌++◌, ◌⊎◌, inl, inr, ⊎_elim, Option, Some, None, is_some, sym, ap, ◌∙◌, subst, refl, length, get_or, take, append-nil}
use Rattle.varisat_theory.specs.promises.Membership.{◌∈◌}
use Rattle.varisat_theory.specs.promises.Literals.{Literal, Clause, Assignment, opposite, opposites, value, Satisfies}
use Rattle.varisat_theory.specs.promises.Propagation.{Conflicts, Follows}
use Rattle.varisat_theory.specs.promises.Propagation.Conflicts.{FalseClause, Propagate}
use Rattle.varisat_theory.proofs.clauses.Members.{∈-append_cases, equal_or_not}
use Rattle.varisat_theory.proofs.clauses.Places.{∈-get_or, ∈-take_more, ∈-take_all}
use Rattle.varisat_theory.proofs.clauses.Values.{∈-opposites, opposite_twice, not_both}
use Rattle.varisat_formula.specs.promises.Values.{assignment_of}
use Rattle.varisat_database.specs.Databases.{DatabaseState, pushed, removed, clause_at, IsLive}
use Rattle.varisat_rules.specs.inside.States.{live_clauses, DerivesFrom, IsLaterState}
use Rattle.varisat_rules.specs.declared.derive.Reading.{Reading}
use Rattle.varisat_rules.specs.declared.derive.Reading.TheVariants.{Silent, Implies, Conflict}
use Rattle.varisat_rules.specs.inside.Deriving.{Reads, ReadsAt, ModelsBut, IsDerived, IsInLive}
use Rattle.varisat_rules.proofs.LeadingLemmas.{leads_removed, told_removed, named_at}
use Rattle.varisat_rules.proofs.ResolveLemmas.{none_taken}
use Rattle.varisat_rules.proofs.StateLemmas.{unsaved, gone_pushed, gone_removed, push_reduces, removed_even, removed_live, removed_keeps, clause_held}
use Rattle.varisat_rules.proofs.FlowLemmas.{becomes_next}

-- what is left of the literals that were read
abbrev pub IsRead : Clause → Clause → ℕ → Option ℕ → Type 0
IsRead c falses i None = (m : Literal) → m ∈ take i c → m ∈ falses
IsRead c falses i (Some l) = (l ∈ c) × ((m : Literal) → m ∈ take i c → (m ≡ l) ⊎ (m ∈ falses))

pub read_none : (c falses : Clause) → IsRead c falses 0 None
read_none c falses m h = absurd (none_taken m c h)

-- the next literal is false
pub read_more : (c falses : Clause) (i x : ℕ) (o p : Option ℕ) → p ≡ o → x ≡ get_or c i 0 → x ∈ falses → IsRead c falses i o → IsRead c falses (i + 1) p
read_more c falses i x o p e q h r = subst (λ (z : Option ℕ). IsRead c falses (i + 1) z) (sym e) (go o r)
  where
    go : (o : Option ℕ) → IsRead c falses i o → IsRead c falses (i + 1) o
    go None r = λ m k. ⊎_elim (r m) (λ w. subst (λ y. y ∈ falses) (q ∙ sym w) h) (∈-take_more m c i 0 k)
    go (Some l) r = (r.0, λ m k. ⊎_elim (r.1 m) (λ w. inr (subst (λ y. y ∈ falses) (q ∙ sym w) h)) (∈-take_more m c i 0 k))

-- the next literal is the first that is not
pub read_first : (c falses : Clause) (i x : ℕ) (o p : Option ℕ) → p ≡ Some x → is_some o ≡ false → i < length c → x ≡ get_or c i 0 → IsRead c falses i o →
    IsRead c falses (i + 1) p
read_first c falses i x o p e n h q r = subst (λ (z : Option ℕ). IsRead c falses (i + 1) z) (sym e) (go o n r)
  where
    go : (o : Option ℕ) → is_some o ≡ false → IsRead c falses i o → IsRead c falses (i + 1) (Some x)
    go None n r = (subst (λ y. y ∈ c) (sym q) (∈-get_or c i 0 h), λ m k. ⊎_elim (λ a. inr (r m a)) (λ w. inl (w ∙ sym q)) (∈-take_more m c i 0 k))
    go (Some l) n r = absurd (cc)

pub read_false : (c falses : Clause) (i : ℕ) (o : Option ℕ) → o ≡ None → length c ≤ i → IsRead c falses i o → (m : Literal) → m ∈ c → m ∈ falses
read_false c falses i o e h r m k = subst (λ (z : Option ℕ). IsRead c falses i z) e r m (∈-take_all m c i h k)

pub read_one : (c falses : Clause) (i l : ℕ) (o : Option ℕ) → o ≡ Some l → length c ≤ i → IsRead c falses i o →
    (l ∈ c) × ((m : Literal) → m ∈ c → (m ≡ l) ⊎ (m ∈ falses))
read_one c falses i l o e h r =
    let w = subst (λ (z : Option ℕ). IsRead c falses i z) e r in
    (w.0, λ m k. w.1 m (∈-take_all m c i h k))

-- what the clause says that is live at the place
pub reads_at : (s : DatabaseState) (k but : ℕ) (falses c : Clause) (r : Reading) → c ≡ clause_at s k → IsLive s k → (k ≡ but → ⊥) → Reads c falses r →
    ReadsAt s k but falses r
reads_at s k but falses c Silent e live other h = tt
reads_at s k but falses c (Implies l) e live other h = (
  live,
  other,
  subst (λ (d : Clause). l ∈ d) e h.0,
  λ m p. h.1 m (subst (λ (d : Clause). m ∈ d) (sym e) p),
)
reads_at s k but falses c Conflict e live other h = (live, other, λ m p. h m (subst (λ (d : Clause). m ∈ d) (sym e) p))

pub among_none : (s : DatabaseState) (c : Clause) (m : Literal) → m ∈ take 0 c → IsInLive s m
among_none s c m h = absurd (none_taken m c h)

pub among_more : (s : DatabaseState) (c : Clause) (i x : ℕ) → x ≡ get_or c i 0 → IsInLive s x → ((m : Literal) → m ∈ take i c → IsInLive s m) →
    (m : Literal) → m ∈ take (i + 1) c → IsInLive s m
among_more s c i x q h r m k = ⊎_elim (r m) (λ w. subst (λ y. IsInLive s y) (q ∙ sym w) h) (∈-take_more m c i 0 k)

pub among_all : (s : DatabaseState) (c : Clause) (i : ℕ) → length c ≤ i → ((m : Literal) → m ∈ take i c → IsInLive s m) →
    (m : Literal) → m ∈ c → IsInLive s m
among_all s c i h r m k = r m (∈-take_all m c i h k)

-- Where the literals of the clause are false those that are listed are, and a conflict with them is one.
pub record Leads (s : DatabaseState) (but : ℕ) (c falses : Clause) : Type 0 where
  pub known : List Literal
  pub knows : (m : Literal) → m ∈ falses → opposite m ∈ known
  pub comes : length s.live ≡ length s.clauses → Conflicts (live_clauses s) known → Follows (live_clauses s) c
  pub sound : (a : Assignment) → ModelsBut a s but → ((m : Literal) → m ∈ c → value a m ≡ true → ⊥) →
      (m : Literal) → m ∈ falses → value a m ≡ true → ⊥

pub leads_first : (s : DatabaseState) (but : ℕ) (c falses : Clause) → falses ≡ c → Leads s but c falses
leads_first s but c falses e = record {
  known = opposites c;
  knows = λ m h. ∈-opposites m c (subst (λ (x : Clause). m ∈ x) e h);
  comes = λ even h. h;
  sound = λ a w n m h. n m (subst (λ (x : Clause). m ∈ x) e h);
}

pub leads_same : (s : DatabaseState) (but : ℕ) (c f g : Clause) → g ≡ f → Leads s but c f → Leads s but c g
leads_same s but c f g e r = subst (λ (x : Clause). Leads s but c x) (sym e) r

-- a clause implies a literal, whose opposite is listed
pub leads_on : (s : DatabaseState) (but : ℕ) (c f g : Clause) (k l n : ℕ) → IsLive s k → (k ≡ but → ⊥) → l ∈ clause_at s k →
    ((m : Literal) → m ∈ clause_at s k → (m ≡ l) ⊎ (m ∈ f)) → n ≡ opposite l → g ≡ f ++ n ∷ [] → Leads s but c f → Leads s but c g
leads_on s but c f g k l n live other has left e q r = subst (λ (x : Clause). Leads s but c x) (sym q) (record {
  known = l ∷ r.known;
  knows = λ m h. ⊎_elim
      (λ a. inr (r.knows m a))
      (λ a. ⊎_elim (λ w. inl (ap opposite (w ∙ e) ∙ opposite_twice l)) (λ z. absurd z) a)
      (∈-append_cases m f (n ∷ []) h);
  comes = λ even h. r.comes even (Propagate (clause_at s k) l (clause_held s k even live) has (λ m p. ⊎_elim inl (λ a. inr (r.knows m a)) (left m p)) h);
  sound = λ a w no m h v. ⊎_elim
      (λ b. r.sound a w no m b v)
      (λ b. ⊎_elim
      (λ y. let t = w k live other in
      ⊎_elim
      (λ z. not_both a l (subst (λ x. value a x ≡ true) z t.2) (subst (λ x. value a x ≡ true) (y ∙ e) v))
      (λ z. r.sound a w no t.0 z t.2)
      (left t.0 t.1))
      (λ z. z)
      b)
      (∈-append_cases m f (n ∷ []) h);
})

satisfied_or_not : (a : Assignment) (c : Clause) → Satisfies a c ⊎ ((m : Literal) → m ∈ c → value a m ≡ true → ⊥)
satisfied_or_not a [] = inr (λ m h v. h)
satisfied_or_not a (l ∷ c) = by (value a l) refl (satisfied_or_not a c)
  where
    by : (b : Bool) → value a l ≡ b → Satisfies a c ⊎ ((m : Literal) → m ∈ c → value a m ≡ true → ⊥) →
        Satisfies a (l ∷ c) ⊎ ((m : Literal) → m ∈ (l ∷ c) → value a m ≡ true → ⊥)
    by true e r = inl (l, inl refl, e)
    by false e (inl t) = inl (t.0, inr t.1, t.2)
    by false e (inr n) = inr (λ m h v. ⊎_elim (λ q. let w = sym (subst (λ x. value a x ≡ true) q v) ∙ e in absurd (cc)) (λ k. n m k v) h)

-- a clause is false
pub leads_to : (s : DatabaseState) (but : ℕ) (c f : Clause) (k : ℕ) → IsLive s k → (k ≡ but → ⊥) → ((m : Literal) → m ∈ clause_at s k → m ∈ f) →
    Leads s but c f → IsDerived s but c
leads_to s but c f k live other all r = record {
  follows = λ even. r.comes even (FalseClause (clause_at s k) (clause_held s k even live) (λ m h. r.knows m (all m h)));
  implied = λ a w. ⊎_elim
      (λ t. t)
      (λ no. absurd (let t = w k live other in r.sound a w no t.0 (all t.0 t.1) t.2))
      (satisfied_or_not a c);
}

pub leads_conflict : (s : DatabaseState) (but : ℕ) (c f d : Clause) (k : ℕ) → d ≡ f → ReadsAt s k but d Conflict → Leads s but c f → IsDerived s but c
leads_conflict s but c f d k e h r = leads_to s but c f k h.0 h.1 (λ m p. subst (λ (x : Clause). m ∈ x) e (h.2 m p)) r

pub leads_implied : (s : DatabaseState) (but : ℕ) (c f g d : Clause) (k l n : ℕ) → d ≡ f → ReadsAt s k but d (Implies l) → n ≡ opposite l → g ≡ f ++ n ∷ [] →
    Leads s but c f → Leads s but c g
leads_implied s but c f g d k l n e h q p r =
    leads_on s but c f g k l n h.0 h.1 h.2 (λ m b. ⊎_elim inl (λ a. inr (subst (λ (x : Clause). m ∈ x) e a)) (h.3 m b)) q p r

-- The clause is added.
pub derived : (s t : DatabaseState) (but : ℕ) (c : Clause) → t ≡ pushed s c → IsDerived s but c → ((m : Literal) → m ∈ c → IsInLive s m) → IsLaterState s t
derived s t but c e d named = becomes_next s (pushed s c) t
    (unsaved s (pushed s c) refl (record {
      more = (c ∷ [], refl);
      count = refl;
      frozen = refl;
      both = refl;
      reduces = λ P r. push_reduces P s c (λ a m. d.implied a (λ k l n. m k l)) (d.follows r.even)
          (λ m h. let w = named m h in named_at P s.clauses w.0 r.named m w.2) r;
      gone = λ v h. gone_pushed s c v named h;
    }))
    e

-- A clause goes that is true where the other live ones are.
implied_reduces : (P : List Clause) (s : DatabaseState) (i : ℕ) → ((a : Assignment) → ModelsBut a s i → Satisfies a (clause_at s i)) → DerivesFrom P s →
    DerivesFrom P (removed s i)
implied_reduces P s i implied r = record {
  even = removed_even s i r.even;
  keeps = λ a h k e. r.keeps a h k (removed_live s i k e).0;
  extends = λ vs b m. r.extends vs b (λ k e. ⊎_elim
      (λ q. subst (λ x. Satisfies (assignment_of vs) (clause_at s x)) (sym q) (implied (assignment_of vs) (λ j l n. m j (removed_keeps s i j l n))))
      (λ d. m k (removed_keeps s i k e d))
      (equal_or_not k i));
  leads = leads_removed P s.lines s.live s.clauses i r.even r.leads;
  named = r.named;
  spoken = told_removed P s.lines (get_or s.live i false) (clause_at s i) (named_at P s.clauses i r.named) r.spoken;
  saved = r.saved;
  thawed = r.thawed;
  entailed = r.entailed;
  implied = r.implied;
}

-- The clause is removed.
pub retracted : (s t : DatabaseState) (i : ℕ) (c : Clause) → c ≡ clause_at s i → t ≡ removed s i → IsDerived s i c → IsLaterState s t
retracted s t i c q e d = becomes_next s (removed s i) t
    (unsaved s (removed s i) refl (record {
      more = ([], sym (append-nil s.clauses));
      count = refl;
      frozen = refl;
      both = refl;
      reduces = λ P r. implied_reduces P s i (λ a w. subst (λ (x : Clause). Satisfies a x) q (d.implied a w)) r;
      gone = λ v h. gone_removed s i v h;
    }))
    e
