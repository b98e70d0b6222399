-- The clauses of a formula are loaded.
use Rattle.std.proofs.Common.{◌≡◌, ℕ, ◌+◌, ◌≤◌, Bool, true, false, set, List, [], ◌∷◌, ◌++◌, inl, ⊎_elim, sym, ap, ◌∙◌, subst, refl, length, get_or, append_assoc, append-nil, arith}
use Rattle.varisat_theory.specs.promises.Held.{SameClauses}
use Rattle.varisat_theory.proofs.clauses.Held.{same_clauses_find, same_set-self, same_clauses-self, same_clauses-through}
use Rattle.varisat_theory.specs.promises.Derivations.{Delete, SpeakOf}
use Rattle.varisat_rules.specs.promises.Leading.{LeadsTo, IsNamedBy, AreNamedBy}
use Rattle.varisat_rules.proofs.LeadingLemmas.{leads_self, leads_delete, leads_as, told_removed, named_more}
use Rattle.varisat_theory.specs.promises.Membership.{◌∈◌, SameSet}
use Rattle.varisat_theory.specs.promises.Literals.{Literal, Clause, Assignment, opposite, Satisfies, SatisfiesAll}
use Rattle.varisat_theory.proofs.clauses.Members.{∈-append_right, ∈-append_cases}
use Rattle.varisat_theory.proofs.clauses.Values.{true_or_opposite}
use Rattle.varisat_formula.specs.promises.Values.{assignment_of}
use Rattle.varisat_rules.specs.promises.Stacks.{extended}
use Rattle.varisat_database.specs.Databases.{DatabaseState, no_clauses, given, removed, clause_at, IsLive, deletion}
use Rattle.varisat_rules.specs.inside.States.{live_clauses, flagged, Models}
use Rattle.varisat_simplify.specs.inside.Loading.{IsLoaded}
use Rattle.varisat_simplify.specs.promises.Simplified.{literal_count}
use Rattle.varisat_simplify.proofs.CountLemmas.{counted_more}
use Rattle.varisat_theory.specs.promises.Searches.{IsTautology}
use Rattle.varisat_theory.proofs.clauses.Assigned.{same_set_satisfied}
use Rattle.varisat_rules.proofs.StateLemmas.{live_below, live_pushed, pushed_keeps, pushed_live, pushed_even, pushed_new, removed_even, removed_keeps, removed_live, satisfies_same}

-- The clauses are loaded, but for the rest.
pub record Loads (P rest : List Clause) (n : ℕ) (frozen : List Bool) (both : Bool) (s : DatabaseState) : Type 0 where
  pub front : List Clause
  pub whole : front ++ rest ≡ P
  pub even : length s.live ≡ length s.clauses
  pub keeps : (a : Assignment) → SatisfiesAll a P → Models a s
  pub backs : (a : Assignment) → Models a s → SatisfiesAll a front
  pub leads : LeadsTo P s.lines (live_clauses s ++ rest)
  pub same : SameClauses (s.clauses ++ rest) P
  pub named : AreNamedBy P s.clauses
  pub spoken : SpeakOf (IsNamedBy P) s.lines
  pub empty : s.stack ≡ []
  pub fewer : literal_count s.clauses + literal_count rest ≤ literal_count P
  pub count : s.var_count ≡ n
  pub flags : s.frozen ≡ frozen
  pub saves : s.saves_both ≡ both

pub loads_first : (P rest : List Clause) (n : ℕ) (frozen : List Bool) (both : Bool) (s : DatabaseState) → s ≡ no_clauses n frozen both → rest ≡ P → Loads P rest n frozen both s
loads_first P rest n frozen both s e q = subst (λ (t : DatabaseState). Loads P rest n frozen both t) (sym e) (record {
  front = [];
  whole = q;
  even = refl;
  keeps = λ a h k live. absurd (let x = live in cc);
  backs = λ a m c h. absurd h;
  leads = subst (λ (l : List Clause). LeadsTo P [] l) (sym q) (leads_self P);
  same = subst (λ (l : List Clause). SameClauses l P) (sym q) (same_clauses-self P);
  named = λ c l h m. absurd h;
  spoken = tt;
  empty = refl;
  fewer = let e = ap literal_count q in omega (arith, e);
  count = refl;
  flags = refl;
  saves = refl;
})

-- one clause more, with no more literals than the next of the rest
fewer_next : (cs rest tail : List Clause) (c e : Clause) (n : ℕ) → rest ≡ c ∷ tail → length e ≤ length c → literal_count cs + literal_count rest ≤ n →
    literal_count (cs ++ e ∷ []) + literal_count tail ≤ n
fewer_next cs rest tail c e n q short h = let a = ap literal_count q in let b = counted_more cs e in omega (arith, a, b, short, h)

-- the rest begins with a clause
moved : (P front rest tail : List Clause) (c : Clause) → front ++ rest ≡ P → rest ≡ c ∷ tail → (front ++ c ∷ []) ++ tail ≡ P
moved P front rest tail c w e = append_assoc front (c ∷ []) tail ∙ ap (λ (x : List Clause). front ++ x) (sym e) ∙ w

in_whole : (P front rest tail : List Clause) (c : Clause) → front ++ rest ≡ P → rest ≡ c ∷ tail → c ∈ P
in_whole P front rest tail c w e =
    subst (λ (x : List Clause). c ∈ x) w (∈-append_right c front rest (subst (λ (x : List Clause). c ∈ x) (sym e) (inl refl)))

satisfied_tautology : (a : Assignment) (c : Clause) → IsTautology c → Satisfies a c
satisfied_tautology a c x = ⊎_elim (λ v. (x.0, x.1, v)) (λ v. (opposite x.0, x.2, v)) (true_or_opposite a x.0)

-- the clause behind the live ones is the next of the rest
same_moved : (L tail : List Clause) (c e : Clause) → SameSet c e → SameClauses ((L ++ e ∷ []) ++ tail) (L ++ c ∷ tail)
same_moved [] tail c e s = (tail, ([], c, tail, refl, s, refl), same_clauses-self tail)
same_moved (d ∷ L) tail c e s = (L ++ c ∷ tail, ([], d, L ++ c ∷ tail, refl, same_set-self d, refl), same_moved L tail c e s)

-- the next of the rest joins those that are there
same_next : (P L rest tail : List Clause) (c e : Clause) → rest ≡ c ∷ tail → SameSet c e → SameClauses (L ++ rest) P → SameClauses ((L ++ e ∷ []) ++ tail) P
same_next P L rest tail c e q s r = same_clauses-through ((L ++ e ∷ []) ++ tail) (L ++ c ∷ tail) P (same_moved L tail c e s)
    (subst (λ (l : List Clause). SameClauses (L ++ l) P) q r)

-- a tautology was loaded, and is gone
pub loads_skip : (P rest tail : List Clause) (n : ℕ) (frozen : List Bool) (both : Bool) (s t u : DatabaseState) (c d : Clause) (i : ℕ) → rest ≡ c ∷ tail → IsTautology c → d ≡ c →
    i ≡ length s.clauses → t ≡ given s d → u ≡ removed t i → Loads P rest n frozen both s → Loads P tail n frozen both u
loads_skip P rest tail n frozen both s t u c d i e x k q et eu r =
    let v : u ≡ removed (given s c) (length s.clauses) =
    eu ∙ ap (λ j. removed t j) q ∙ ap (λ (y : DatabaseState). removed y (length s.clauses)) (et ∙ ap (λ (y : Clause). given s y) k) in
    subst (λ (y : DatabaseState). Loads P tail n frozen both y) (sym v) (record {
      front = r.front ++ c ∷ [];
      whole = moved P r.front rest tail c r.whole e;
      even = removed_even (given s c) (length s.clauses) (pushed_even s c r.even);
      keeps = λ a h m live. ⊎_elim
          (λ g. satisfies_same a (clause_at (given s c) m) (clause_at s m) g.1 (r.keeps a h m g.0))
          (λ g. satisfies_same a (clause_at (given s c) m) c g.1 (satisfied_tautology a c x))
          (pushed_live s c m r.even (removed_live (given s c) (length s.clauses) m live).0);
      backs = λ a m f h. ⊎_elim
          (r.backs a (λ j live. before a m j live) f)
          (λ p. ⊎_elim (λ y. satisfies_same a f c y (satisfied_tautology a c x)) (λ z. absurd z) p)
          (∈-append_cases f r.front (c ∷ []) h);
      leads = gone;
      same = same_next P s.clauses rest tail c c e (same_set-self c) r.same;
      named = named_more P s.clauses c own r.named;
      spoken = told_removed P s.lines (get_or (given s c).live (length s.clauses) false) (clause_at (given s c) (length s.clauses))
          (λ l h. own l (subst (λ (y : Clause). l ∈ y) (pushed_new s c r.even).1 h)) r.spoken;
      empty = r.empty;
      fewer = fewer_next s.clauses rest tail c c (literal_count P) e (omega arith) r.fewer;
      count = r.count;
      flags = r.flags;
      saves = r.saves;
    })
  where
    own : (l : Literal) → l ∈ c → IsNamedBy P l
    own l h = (c, in_whole P r.front rest tail c r.whole e, h)

    before : (a : Assignment) → Models a (removed (given s c) (length s.clauses)) → (j : ℕ) → IsLive s j → Satisfies a (clause_at s j)
    before a m j live =
        let g = pushed_keeps s c j r.even live in
        let b = live_below s j live in
        let o = r.even in
        satisfies_same a (clause_at s j) (clause_at (given s c) j) (sym g.1)
        (m j (removed_keeps (given s c) (length s.clauses) j g.0 (λ p. omega (arith, b, o, p))))

    last : (bs : List Bool) (cs : List Clause) → length bs ≡ length cs → flagged (set (bs ++ true ∷ []) (length cs) false) (cs ++ c ∷ []) ≡ flagged bs cs
    last [] [] h = refl
    last [] (y ∷ cs) h = absurd (omega (arith, h))
    last (b ∷ bs) [] h = absurd (omega (arith, h))
    last (true ∷ bs) (y ∷ cs) h = ap (λ (l : List Clause). y ∷ l) (last bs cs (omega (arith, h)))
    last (false ∷ bs) (y ∷ cs) h = last bs cs (omega (arith, h))

    gone : LeadsTo P (removed (given s c) (length s.clauses)).lines (live_clauses (removed (given s c) (length s.clauses)) ++ tail)
    gone = subst (λ (b : Bool). LeadsTo P (s.lines ++ deletion b (clause_at (given s c) (length s.clauses))) (live_clauses (removed (given s c) (length s.clauses)) ++ tail))
        (sym (pushed_new s c r.even).0)
        (subst (λ (y : Clause). LeadsTo P (s.lines ++ Delete y ∷ []) (live_clauses (removed (given s c) (length s.clauses)) ++ tail)) (sym (pushed_new s c r.even).1)
        (subst (λ (l : List Clause). LeadsTo P (s.lines ++ Delete c ∷ []) (l ++ tail)) (sym (last s.live s.clauses r.even))
        (leads_delete P s.lines (live_clauses s ++ rest) c (live_clauses s ++ tail)
        (live_clauses s, c, tail, ap (λ (l : List Clause). live_clauses s ++ l) e, same_set-self c, refl) r.leads)))

pub loads_give : (P rest tail : List Clause) (n : ℕ) (frozen : List Bool) (both : Bool) (s t : DatabaseState) (c e d : Clause) → rest ≡ c ∷ tail → SameSet c e →
    length e ≤ length c → d ≡ e → t ≡ given s d → Loads P rest n frozen both s → Loads P tail n frozen both t
loads_give P rest tail n frozen both s t c e d q same short eq qt r = subst (λ (u : DatabaseState). Loads P tail n frozen both u) (sym (qt ∙ ap (λ (x : Clause). given s x) eq)) (record {
  front = r.front ++ c ∷ [];
  whole = moved P r.front rest tail c r.whole q;
  even = pushed_even s e r.even;
  keeps = λ a h k live. ⊎_elim
      (λ g. satisfies_same a (clause_at (given s e) k) (clause_at s k) g.1 (r.keeps a h k g.0))
      (λ g. satisfies_same a (clause_at (given s e) k) e g.1 (same_set_satisfied a c e same.0 (h c (in_whole P r.front rest tail c r.whole q))))
      (pushed_live s e k r.even live);
  backs = λ a m x h. ⊎_elim
      (r.backs a (λ j live. let g = pushed_keeps s e j r.even live in satisfies_same a (clause_at s j) (clause_at (given s e) j) (sym g.1) (m j g.0)) x)
      (λ p. ⊎_elim
      (λ y. satisfies_same a x c y (same_set_satisfied a e c same.1
      (let g = pushed_new s e r.even in satisfies_same a e (clause_at (given s e) (length s.clauses)) (sym g.1) (m (length s.clauses) g.0))))
      (λ z. absurd z) p)
      (∈-append_cases x r.front (c ∷ []) h);
  leads = leads_as P s.lines (live_clauses s ++ rest) (live_clauses (given s e) ++ tail)
      (subst (λ (l : List Clause). SameClauses (l ++ tail) (live_clauses s ++ rest)) (sym (live_pushed s e r.even))
      (subst (λ (l : List Clause). SameClauses ((live_clauses s ++ e ∷ []) ++ tail) (live_clauses s ++ l)) (sym q) (same_moved (live_clauses s) tail c e same))) r.leads;
  same = same_next P s.clauses rest tail c e q same r.same;
  named = named_more P s.clauses e (λ l h. (c, in_whole P r.front rest tail c r.whole q, same.1 l h)) r.named;
  spoken = r.spoken;
  empty = r.empty;
  fewer = fewer_next s.clauses rest tail c e (literal_count P) q short r.fewer;
  count = r.count;
  flags = r.flags;
  saves = r.saves;
})

-- nothing is left to load
pub loads_end : (P rest : List Clause) (n : ℕ) (frozen : List Bool) (both : Bool) (s : DatabaseState) → rest ≡ [] → Loads P rest n frozen both s → IsLoaded P n frozen both s
loads_end P rest n frozen both s e r = record {
  reduces = record {
    even = r.even;
    keeps = r.keeps;
    extends = λ vs h m. subst (λ (st : List Clause). SatisfiesAll (assignment_of (extended st vs)) P) (sym r.empty)
        (subst (λ (Q : List Clause). SatisfiesAll (assignment_of vs) Q) all (r.backs (assignment_of vs) m));
    leads = subst (λ (l : List Clause). LeadsTo P s.lines l) (ap (λ (l : List Clause). live_clauses s ++ l) e ∙ append-nil (live_clauses s)) r.leads;
    named = r.named;
    spoken = r.spoken;
    saved = λ c l m. absurd (subst (λ (st : List Clause). c ∈ st) r.empty m);
    thawed = λ c m. absurd (subst (λ (st : List Clause). c ∈ st) r.empty m);
    entailed = λ a h c m. let (d, i, k) = same_clauses_find s.clauses P same c m in same_set_satisfied a d c k.0 (h d i);
    implied = λ _ a h c m. absurd (subst (λ (st : List Clause). c ∈ st) r.empty m);
  };
  same = same;
  empty = r.empty;
  fewer = let a = r.fewer in omega (arith, a);
  count = r.count;
  flags = r.flags;
  saves = r.saves;
}
  where
    all : r.front ≡ P
    all = sym (append-nil r.front) ∙ ap (λ (x : List Clause). r.front ++ x) (sym e) ∙ r.whole

    same : SameClauses s.clauses P
    same = subst (λ (l : List Clause). SameClauses l P) (ap (λ (l : List Clause). s.clauses ++ l) e ∙ append-nil s.clauses) r.same
