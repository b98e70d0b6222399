-- How the known literals grow.
use Rattle.std.proofs.Common.{◌≡◌, ◌≢◌, ℕ, ◌+◌, ◌<◌, ◌≤◌, List, [], ◌∷◌, ◌++◌, ◌⊎◌, Bool, true, false, take, length, get_or, refl, sym, ap, ◌∙◌, subst, inl, inr, ⊎_elim, arith, length-append}
use Rattle.std.proofs.lemmas.List.{append-nil, append_assoc, take_at}
use Rattle.varisat_theory.specs.promises.Membership.{◌∈◌, ◌⊆◌}
use Rattle.varisat_theory.specs.promises.Literals.{Literal, Clause, opposite}
use Rattle.varisat_theory.specs.promises.Propagation.{Conflicts, FalseClause, IsFalse, LeavesOnly, HasClash, IsComplete, IsSaturated}
use Rattle.varisat_theory.specs.promises.Analysis.{Implied, ByReason}
use Rattle.varisat_theory.proofs.clauses.Members.{∈-append_cases, ∈-append_left, ∈-append_right}
use Rattle.varisat_theory.proofs.clauses.Values.{opposite_twice}
use Rattle.varisat_theory.proofs.clauses.ConflictForms.{never_its_own}
use Rattle.varisat_theory.proofs.clauses.Places.{∈-take_more, ∈-take_all}
use Rattle.varisat_plain.proofs.PropagationRounds.{IsQuiet, quiet_known, quiet_open, unknown, unknown_fewer, unknown_less}
use Rattle.varisat_present.specs.Knowing.{AreImplied, GrowsKnown, FindsConflict, Saturates, TakesBase, IsPassed, Joins, Passes}

-- 1. One literal.
no_clash_joined : (known : List Literal) (l : Literal) → (HasClash known → ⊥) → (opposite l ∈ known → ⊥) → HasClash (known ++ (l ∷ [])) → ⊥
no_clash_joined known l n o w =
    ⊎_elim
    (λ a. ⊎_elim (λ b. n (w.0, a, b)) (λ b. ⊎_elim (λ e. o (subst (λ y. y ∈ known) (sym (opposite_twice w.0) ∙ ap opposite e) a)) (λ z. z) b)
    (∈-append_cases (opposite w.0) known (l ∷ []) w.2))
    (λ a. ⊎_elim (λ e. ⊎_elim (λ b. o (subst (λ y. opposite y ∈ known) e b)) (λ b. ⊎_elim (λ f. never_its_own w.0 (f ∙ sym e)) (λ z. z) b)
    (∈-append_cases (opposite w.0) known (l ∷ []) w.2)) (λ z. z) a)
    (∈-append_cases w.0 known (l ∷ []) w.1)

implied_joined : (P : List Clause) (known : List Literal) (c : Clause) (l : Literal) → c ∈ P → l ∈ c → LeavesOnly known c l → (base : List Literal) →
    AreImplied P base known → AreImplied P base (known ++ (l ∷ []))
implied_joined P known c l i j u base h = λ x m.
    ⊎_elim (h x) (λ a. ⊎_elim (λ e. subst (Implied P base) (sym e) (ByReason c i j (λ y k d. ⊎_elim (λ q. absurd (d q)) (λ o. h (opposite y) o) (u y k))))
    (λ z. absurd z) a) (∈-append_cases x known (l ∷ []) m)

-- 2. Growth.
pub grows_none : (P : List Clause) (known : List Literal) → (HasClash known → ⊥) → GrowsKnown P known known
grows_none P known n = record { more = []; joined = sym (append-nil known); no_clash = n; implied = λ base h. h }

pub grows_by : (P : List Clause) (known new : List Literal) (c : Clause) (l : Literal) → (HasClash known → ⊥) → c ∈ P → l ∈ c → (opposite l ∈ known → ⊥) →
    LeavesOnly known c l → new ≡ known ++ (l ∷ []) → GrowsKnown P known new
grows_by P known new c l n i j o u e = record {
  more = l ∷ [];
  joined = e;
  no_clash = subst (λ (k : List Literal). HasClash k → ⊥) (sym e) (no_clash_joined known l n o);
  implied = λ base h. subst (λ (k : List Literal). AreImplied P base k) (sym e) (implied_joined P known c l i j u base h);
}

pub grows_on : (P : List Clause) (a b c : List Literal) → GrowsKnown P a b → GrowsKnown P b c → GrowsKnown P a c
grows_on P a b c g h = record {
  more = g.more ++ h.more;
  joined = h.joined ∙ ap (λ x. x ++ h.more) g.joined ∙ append_assoc a g.more h.more;
  no_clash = h.no_clash;
  implied = λ base i. h.implied base (g.implied base i);
}

pub grows_part : (P : List Clause) (a b : List Literal) → GrowsKnown P a b → a ⊆ b
grows_part P a b g = λ x m. subst (λ k. x ∈ k) (sym g.joined) (∈-append_left x a g.more m)

pub same_length : (P : List Clause) (a b : List Literal) → GrowsKnown P a b → length b ≡ length a → b ≡ a
same_length P a b g e = ends a g.more b g.joined e
  where
    none : (xs ys : List Literal) → length (xs ++ ys) ≡ length xs → ys ≡ []
    none xs [] h = refl
    none xs (y ∷ ys) h = let n = length-append xs (y ∷ ys) in absurd (omega (arith, n, h))

    ends : (a m b : List Literal) → b ≡ a ++ m → length b ≡ length a → b ≡ a
    ends a m b e h = e ∙ ap (λ x. a ++ x) (none a m (ap length (sym e) ∙ h)) ∙ append-nil a

pub cut_back : (a b more : List Literal) → b ≡ a ++ more → take (length a) b ≡ a
cut_back a b more e = ap (take (length a)) e ∙ take_at a more (length a) refl

-- 3. Findings.
pub finds_none : (P : List Clause) (old : List Literal) → (HasClash old → ⊥) → FindsConflict P old false old
finds_none P old n = record { grows = grows_none P old n; conflict = λ e. absurd cc }

pub finds_no_more : (P : List Clause) (old new : List Literal) → GrowsKnown P old new → FindsConflict P old false new
finds_no_more P old new g = record { grows = g; conflict = λ e. absurd cc }

pub finds_conflict : (P : List Clause) (old : List Literal) → (HasClash old → ⊥) → Conflicts P old → FindsConflict P old true old
finds_conflict P old n k = record { grows = grows_none P old n; conflict = λ e. k }

pub finds_found : (P : List Clause) (a b c : List Literal) → GrowsKnown P a b → GrowsKnown P b c → Conflicts P c → FindsConflict P a true c
finds_found P a b c g h k = record { grows = grows_on P a b c g h; conflict = λ e. k }

pub finds_on : (P : List Clause) (a b c : List Literal) (found : Bool) → GrowsKnown P a b → FindsConflict P b found c → FindsConflict P a found c
finds_on P a b c found g f = record { grows = grows_on P a b c g f.grows; conflict = f.conflict }

-- 4. One clause.
pub other_more : (known : List Literal) (c : Clause) (i l : ℕ) → LeavesOnly known (take i c) l → (get_or c i 0 ≡ l) ⊎ (opposite (get_or c i 0) ∈ known) →
    LeavesOnly known (take (i + 1) c) l
other_more known c i l u h = λ m j. ⊎_elim (u m) (λ e. ⊎_elim (λ a. inl (e ∙ a)) (λ a. inr (subst (λ x. opposite x ∈ known) (sym e) a)) h)
    (∈-take_more m c i 0 j)

pub other_all : (known : List Literal) (c : Clause) (i l : ℕ) → length c ≤ i → LeavesOnly known (take i c) l → LeavesOnly known c l
other_all known c i l h u = λ m j. u m (∈-take_all m c i h j)

quiet_complete : (known : List Literal) (c : Clause) → IsQuiet known c → IsComplete (c ∷ []) known
quiet_complete known c q = record {
  no_false = λ f. ⊎_elim (λ e. q.not_false (subst (IsFalse known) e f.2)) (λ z. absurd z) f.1;
  closed = λ d l h i u. ⊎_elim (λ e. q.closed l (subst (λ y. l ∈ y) e i) (subst (λ y. LeavesOnly known y l) e u)) (λ z. absurd z) h;
}

pub complete_left : (known : List Literal) (c : Clause) (l : Literal) → (l ∈ c) × (opposite l ∈ known → ⊥) × LeavesOnly known c l → l ∈ known →
    IsComplete (c ∷ []) known
complete_left known c l w k = quiet_complete known c (quiet_known known known c l refl k w)

pub complete_open : (known : List Literal) (c : Clause) → ((m n : Literal) × (m ∈ c) × (n ∈ c) × (m ≢ n) × (opposite m ∈ known → ⊥)
    × (opposite n ∈ known → ⊥)) → IsComplete (c ∷ []) known
complete_open known c w = quiet_complete known c (quiet_open known known c refl w)

-- 5. A pass over all clauses.
pub complete_both : (P : List Clause) (c : Clause) (known : List Literal) → IsComplete P known → IsComplete (c ∷ []) known → IsComplete (P ++ (c ∷ [])) known
complete_both P c known v w = record {
  no_false = λ f. ⊎_elim (λ h. v.no_false (f.0, h, f.2)) (λ h. w.no_false (f.0, h, f.2)) (∈-append_cases f.0 P (c ∷ []) f.1);
  closed = λ d l h i u. ⊎_elim (λ m. v.closed d l m i u) (λ m. w.closed d l m i u) (∈-append_cases d P (c ∷ []) h);
}

pub record Round (P : List Clause) (first known : List Literal) (passed : List Clause) : Type 0 where
  pub grows : GrowsKnown P first known
  pub rest : ((known ≡ first) × IsComplete passed known) ⊎ Joins P first known

pub round_start : (P : List Clause) (known : List Literal) → (HasClash known → ⊥) → Round P known known []
round_start P known n = record { grows = grows_none P known n; rest = inl (refl, record { no_false = λ f. absurd f.1; closed = λ c l h i u. absurd h }) }

pub round_same : (P : List Clause) (first known : List Literal) (passed passed' : List Clause) → passed' ≡ passed → Round P first known passed →
    Round P first known passed'
round_same P first known passed passed' e r = subst (λ (x : List Clause). Round P first known x) (sym e) r

pub round_on : (P : List Clause) (first known known' : List Literal) (passed passed' : List Clause) (c : Clause) → c ∈ P → passed' ≡ passed ++ (c ∷ []) →
    Round P first known passed → IsPassed c known false known' → Round P first known' passed'
round_on P first known known' passed passed' c i e r (inl w) =
    subst (λ (k : List Literal). Round P first k passed') (sym w.0) (subst (λ (x : List Clause). Round P first known x) (sym e) record {
      grows = r.grows;
      rest = ⊎_elim (λ a. inl (a.0, complete_both passed c known a.1 w.1)) inr r.rest;
    })
round_on P first known known' passed passed' c i e r (inr (l, j, u, o, n, f)) =
    let part = grows_part P first known r.grows in
    record {
      grows = grows_on P first known known' r.grows (grows_by P known known' c l r.grows.no_clash i j o u f);
      rest = inr (c, l, i, j, (λ m. n (part l m)), subst (λ k. l ∈ k) (sym f) (∈-append_right l known (l ∷ []) (inl refl)));
    }

pub round_false : (P : List Clause) (first known known' : List Literal) (passed : List Clause) (c : Clause) → c ∈ P → Round P first known passed →
    IsPassed c known true known' → Passes P first true known'
round_false P first known known' passed c i r w =
    subst (λ (k : List Literal). Passes P first true k) (sym w.0) record {
      finds = record { grows = r.grows; conflict = λ e. FalseClause c i w.1 };
      rest = λ e. absurd cc;
    }

-- one clause alone
pub passed_finds : (P : List Clause) (old new : List Literal) (c : Clause) (found : Bool) → (HasClash old → ⊥) → c ∈ P → IsPassed c old found new →
    FindsConflict P old found new
passed_finds P old new c true n i w = subst (λ (k : List Literal). FindsConflict P old true k) (sym w.0) (finds_conflict P old n (FalseClause c i w.1))
passed_finds P old new c false n i (inl w) = subst (λ (k : List Literal). FindsConflict P old false k) (sym w.0) (finds_none P old n)
passed_finds P old new c false n i (inr (l, j, u, o, m, f)) = finds_no_more P old new (grows_by P old new c l n i j o u f)

pub round_end : (P : List Clause) (first known : List Literal) (passed : List Clause) → passed ≡ P → Round P first known passed → Passes P first false known
round_end P first known passed e r = record {
  finds = finds_no_more P first known r.grows;
  rest = λ f. ⊎_elim (λ a. inl (a.0, record { no_clash = r.grows.no_clash; complete = subst (λ (x : List Clause). IsComplete x known) e a.1 })) inr r.rest;
}

-- 6. Passes, until one finds nothing.
pub saturates_found : (P : List Clause) (a b c : List Literal) → GrowsKnown P a b → GrowsKnown P b c → Conflicts P c → Saturates P a true c
saturates_found P a b c g h k = record { finds = finds_found P a b c g h k; saturated = λ e. absurd cc }

pub saturates_end : (P : List Clause) (a b c : List Literal) → GrowsKnown P a b → GrowsKnown P b c → ((c ≡ b) × IsSaturated P c) ⊎ Joins P b c →
    length c ≡ length b → Saturates P a false c
saturates_end P a b c g h r e = record {
  finds = finds_no_more P a c (grows_on P a b c g h);
  saturated = λ t. ⊎_elim (λ w. w.1) (λ w. absurd (w.4 (subst (λ k. w.1 ∈ k) (same_length P b c h e) w.5))) r;
}

pub less_left : (P : List Clause) (a b c : List Literal) → GrowsKnown P a b → ((b ≡ a) × IsSaturated P b) ⊎ Joins P a b → (length b ≡ length a → ⊥) →
    GrowsKnown P b c → unknown P c < unknown P a
less_left P a b c g r n h =
    ⊎_elim
    (λ w. absurd (n (ap length w.0)))
    (λ w.
    let s = unknown_fewer P a b w.0 w.1 (grows_part P a b g) w.2 w.3 w.4 w.5 in
    let t = unknown_less P b c (grows_part P b c h) in
    omega (arith, s, t))
    r

pub saturates_early : (P : List Clause) (a b : List Literal) (found : Bool) → found ≡ true → FindsConflict P a found b → Saturates P a true b
saturates_early P a b found e f = record { finds = subst (λ (x : Bool). FindsConflict P a x b) e f; saturated = λ t. absurd cc }

pub saturates_on : (P : List Clause) (a b c : List Literal) (found : Bool) → GrowsKnown P a b → Saturates P b found c → Saturates P a found c
saturates_on P a b c found g s = record { finds = finds_on P a b c found g s.finds; saturated = s.saturated }

-- 7. Literals that are assumed.
pub record Assumed (old base seen new : List Literal) : Type 0 where
  pub more : List Literal
  pub joined : new ≡ old ++ more
  pub no_clash : HasClash new → ⊥
  pub from : (l : Literal) → l ∈ new → (l ∈ old) ⊎ (l ∈ base)
  pub all : seen ⊆ new

pub assumed_start : (old base : List Literal) → (HasClash old → ⊥) → Assumed old base [] old
assumed_start old base n = record { more = []; joined = sym (append-nil old); no_clash = n; from = λ l m. inl m; all = λ l m. absurd m }

pub assumed_known : (old base new : List Literal) (i : ℕ) → get_or base i 0 ∈ new → Assumed old base (take i base) new →
    Assumed old base (take (i + 1) base) new
assumed_known old base new i h w = record {
  more = w.more;
  joined = w.joined;
  no_clash = w.no_clash;
  from = w.from;
  all = λ x m. ⊎_elim (w.all x) (λ e. subst (λ y. y ∈ new) (sym e) h) (∈-take_more x base i 0 m);
}

pub assumed_more : (old base mid new : List Literal) (i l : ℕ) → l ≡ get_or base i 0 → l ∈ base → (opposite l ∈ mid → ⊥) → new ≡ mid ++ (l ∷ []) →
    Assumed old base (take i base) mid → Assumed old base (take (i + 1) base) new
assumed_more old base mid new i l q h o e w = subst (λ (k : List Literal). Assumed old base (take (i + 1) base) k) (sym e) record {
  more = w.more ++ (l ∷ []);
  joined = ap (λ x. x ++ (l ∷ [])) w.joined ∙ append_assoc old w.more (l ∷ []);
  no_clash = no_clash_joined mid l w.no_clash o;
  from = λ x m. ⊎_elim (w.from x) (λ a. ⊎_elim (λ f. inr (subst (λ y. y ∈ base) (sym f) h)) (λ z. absurd z) a) (∈-append_cases x mid (l ∷ []) m);
  all = λ x m. ⊎_elim (λ a. ∈-append_left x mid (l ∷ []) (w.all x a)) (λ f. ∈-append_right x mid (l ∷ []) (inl (f ∙ sym q))) (∈-take_more x base i 0 m);
}

pub assumes_clash : (old base seen new : List Literal) (l : Literal) → l ∈ base → opposite l ∈ new → Assumed old base seen new → TakesBase old base true new
assumes_clash old base seen new l h o w = record {
  more = w.more;
  joined = w.joined;
  no_clash = w.no_clash;
  from = w.from;
  all = λ e. absurd cc;
  clash = λ e. (l, h, o);
}

pub assumes_all : (old base new : List Literal) (i : ℕ) → length base ≤ i → Assumed old base (take i base) new → TakesBase old base false new
assumes_all old base new i h w = record {
  more = w.more;
  joined = w.joined;
  no_clash = w.no_clash;
  from = w.from;
  all = λ e x m. w.all x (∈-take_all x base i h m);
  clash = λ e. absurd cc;
}
