-- Why a variable may be resolved away.
use Rattle.std.proofs.Common.{◌≡◌, ℕ, zero, suc, ◌+◌, ◌/◌, ◌<◌, ◌≤◌, ◌==◌, Bool, true, false, List, [], ◌∷◌, ◌++◌, ◌⊎◌, inl, inr, ⊎_elim, sym, ap, ◌∙◌, subst, refl, length, get_or, set, take, append-nil, arith}
use Rattle.varisat_theory.specs.promises.Membership.{◌∈◌}
use Rattle.varisat_theory.specs.promises.Literals.{Literal, Clause, Assignment, opposite, variable_of, value, Satisfies, SatisfiesAll}
use Rattle.varisat_theory.proofs.clauses.Members.{equal_or_not, ∈-or_not, ∈-append_cases}
use Rattle.varisat_theory.proofs.clauses.Places.{∈-get_or, ∈-take_more, ∈-take_all, place_in}
use Rattle.varisat_theory.proofs.clauses.Assigned.{same_set_satisfied}
use Rattle.varisat_theory.proofs.clauses.Values.{opposite_twice, variable-opposite, same_or_opposite, true_or_opposite}
use Rattle.varisat_formula.specs.promises.Values.{assignment_of, with_true}
use Rattle.varisat_rules.specs.promises.Stacks.{amended, extended, avoids}
use Rattle.varisat_rules.specs.promises.Leading.{AreNamedBy, HasVariable, HasVariablesOf}
use Rattle.varisat_rules.proofs.LeadingLemmas.{leads_removed, told_removed, named_at, has_more}
use Rattle.varisat_formula.proofs.ValueLemmas.{made-true, stays-true}
use Rattle.varisat_rules.proofs.ExtendLemmas.{thawed_more}
use Rattle.varisat_database.specs.Databases.{DatabaseState, pushed, removed, saved, clause_at, IsLive}
use Rattle.varisat_rules.specs.inside.States.{IsThawed, Occurs, Models, DerivesFrom, IsGone, LeadIsGone, Continues, IsLaterState, SavesLed, ModelsRest, SatisfiesBut, Collects, IsPairResolved, ResolvesPairs, SavesClauses, Drops}
use Rattle.varisat_rules.proofs.StateLemmas.{continues_self, continues_then, becomes_self, becomes_then, lead_gone, unsaved, gone_removed, clause_stays, pushed_live, pushed_keeps, pushed_new, removed_live, removed_keeps, removed_even, pushed_even, satisfies_same, push_resolvent}
use Rattle.varisat_rules.proofs.ExtendLemmas.{extended_more, amended_cases, amended_length}

-- what has a literal, in a clause that is equal
in_same : (l : Literal) (c d : Clause) → c ≡ d → l ∈ c → l ∈ d
in_same l c d e h = subst (λ x. l ∈ x) e h

-- A clause without the literal and its opposite is added.
collects_pushed : (s : DatabaseState) (e : Clause) (l : Literal) (w : List ℕ) → (l ∈ e → ⊥) → Collects s l w → Collects (pushed s e) l w
collects_pushed s e l w n c = record {
  even = pushed_even s e c.even;
  all = λ k live h. ⊎_elim
      (λ g. c.all k g.0 (in_same l (clause_at (pushed s e) k) (clause_at s k) g.1 h))
      (λ g. absurd (n (in_same l (clause_at (pushed s e) k) e g.1 h)))
      (pushed_live s e k c.even live);
  live = λ k h. (pushed_keeps s e k c.even (c.live k h)).0;
  with = λ k h. in_same l (clause_at s k) (clause_at (pushed s e) k) (sym (pushed_keeps s e k c.even (c.live k h)).1) (c.with k h);
  without = λ k h o. c.without k h (in_same (opposite l) (clause_at (pushed s e) k) (clause_at s k) (pushed_keeps s e k c.even (c.live k h)).1 o);
}

rest_pushed : (s : DatabaseState) (e : Clause) (l : Literal) (a : Assignment) → length s.live ≡ length s.clauses → ModelsRest l a (pushed s e) → ModelsRest l a s
rest_pushed s e l a even m k live n o =
    let g = pushed_keeps s e k even live in
    satisfies_same a (clause_at s k) (clause_at (pushed s e) k) (sym g.1)
    (m k g.0 (λ h. n (in_same l (clause_at (pushed s e) k) (clause_at s k) g.1 h)) (λ h. o (in_same (opposite l) (clause_at (pushed s e) k) (clause_at s k) g.1 h)))

but_same : (l : Literal) (a : Assignment) (c d : Clause) → c ≡ d → SatisfiesBut l a c → SatisfiesBut l a d
but_same l a c d e h = subst (λ x. SatisfiesBut l a x) e h

resolved_pushed : (s : DatabaseState) (e : Clause) (l : Literal) (i j : ℕ) → length s.live ≡ length s.clauses → IsLive s i → IsLive s j → IsPairResolved s l i j →
    IsPairResolved (pushed s e) l i j
resolved_pushed s e l i j even li lj r a m =
    ⊎_elim
    (λ h. inl (but_same l a (clause_at s i) (clause_at (pushed s e) i) (sym (pushed_keeps s e i even li).1) h))
    (λ h. inr (but_same (opposite l) a (clause_at s j) (clause_at (pushed s e) j) (sym (pushed_keeps s e j even lj).1) h))
    (r a (rest_pushed s e l a even m))

no_first : (i : ℕ) (xs : List ℕ) → i ∈ take 0 xs → ⊥
no_first i [] h = h
no_first i (x ∷ xs) h = h

pub adds_first : (s : DatabaseState) (l : Literal) (w g : List ℕ) → Collects s l w → Collects s (opposite l) g → ResolvesPairs s s l w g 0 0
adds_first s l w g c d = record {
  becomes = becomes_self s;
  ones = c;
  others = d;
  done = λ i j h k. absurd (no_first i w h);
  begun = λ j h. absurd (no_first j g h);
}

-- the next row begins
pub adds_row : (s t : DatabaseState) (l : Literal) (w g : List ℕ) (x y : ℕ) → length g ≤ y → ResolvesPairs s t l w g x y → ResolvesPairs s t l w g (x + 1) 0
adds_row s t l w g x y e r = record {
  becomes = r.becomes;
  ones = r.ones;
  others = r.others;
  done = λ i j h k. ⊎_elim
      (λ o. r.done i j o k)
      (λ q. subst (λ n. IsPairResolved t l n j) (sym q) (r.begun j (∈-take_all j g y e k)))
      (∈-take_more i w x 0 h);
  begun = λ j h. absurd (no_first j g h);
}

-- the two clauses clash in another literal, so their resolvent is a tautology
pub adds_skip : (s t : DatabaseState) (l : Literal) (w g : List ℕ) (x y : ℕ) (n : Literal) → n ∈ clause_at t (get_or w x 0) → (n ≡ l → ⊥) →
    opposite n ∈ clause_at t (get_or g y 0) → ResolvesPairs s t l w g x y → ResolvesPairs s t l w g x (y + 1)
adds_skip s t l w g x y n h d o r = record {
  becomes = r.becomes;
  ones = r.ones;
  others = r.others;
  done = r.done;
  begun = λ j k. ⊎_elim (r.begun j) (λ q. subst (λ i. IsPairResolved t l (get_or w x 0) i) (sym q) here) (∈-take_more j g y 0 k);
}
  where
    here : IsPairResolved t l (get_or w x 0) (get_or g y 0)
    here a m = ⊎_elim
        (λ v. inl (n, h, d, v))
        (λ v. inr (opposite n, o, (λ q. d (sym (opposite_twice n) ∙ ap opposite q ∙ opposite_twice l)), v))
        (true_or_opposite a n)

-- the resolvent is added
pub adds_push : (s t : DatabaseState) (l : Literal) (w g : List ℕ) (x y : ℕ) (e : Clause) → x < length w → y < length g →
    ((m : Literal) → m ∈ e → ((m ∈ clause_at t (get_or w x 0)) × (m ≡ l → ⊥)) ⊎ ((m ∈ clause_at t (get_or g y 0)) × (m ≡ opposite l → ⊥))) →
    ((m : Literal) → m ∈ clause_at t (get_or w x 0) → (m ≡ l) ⊎ (m ∈ e)) →
    ((m : Literal) → m ∈ clause_at t (get_or g y 0) → (m ≡ opposite l) ⊎ (m ∈ e)) →
    ResolvesPairs s t l w g x y → ResolvesPairs s (pushed t e) l w g x (y + 1)
adds_push s t l w g x y e hx hy from left right r = record {
  becomes = becomes_then s t (pushed t e) r.becomes
      (unsaved t (pushed t e) refl
      (push_resolvent t i j l e li lj (r.ones.with i iw) left right (λ m h. ⊎_elim (λ p. inl p.0) (λ p. inr p.0) (from m h))));
  ones = collects_pushed t e l w no_l r.ones;
  others = collects_pushed t e (opposite l) g no_o r.others;
  done = λ p q h k. resolved_pushed t e l p q even (r.ones.live p (taken p w x h)) (r.others.live q k) (r.done p q h k);
  begun = λ q h. ⊎_elim
      (λ o. resolved_pushed t e l i q even li (r.others.live q (taken q g y o)) (r.begun q o))
      (λ k. subst (λ n. IsPairResolved (pushed t e) l i n) (sym k) here)
      (∈-take_more q g y 0 h);
}
  where
    taken : (p : ℕ) (xs : List ℕ) (n : ℕ) → p ∈ take n xs → p ∈ xs
    taken p [] zero h = h
    taken p [] (suc n) h = h
    taken p (x ∷ xs) zero h = absurd h
    taken p (x ∷ xs) (suc n) (inl q) = inl q
    taken p (x ∷ xs) (suc n) (inr h) = inr (taken p xs n h)

    i : ℕ
    i = get_or w x 0

    j : ℕ
    j = get_or g y 0

    iw : i ∈ w
    iw = ∈-get_or w x 0 hx

    jg : j ∈ g
    jg = ∈-get_or g y 0 hy

    li : IsLive t i
    li = r.ones.live i iw

    lj : IsLive t j
    lj = r.others.live j jg

    even : length t.live ≡ length t.clauses
    even = r.ones.even

    no_l : l ∈ e → ⊥
    no_l h = ⊎_elim
        (λ p. p.1 refl)
        (λ p. r.others.without j jg (in_twice p.0))
        (from l h)
      where
        in_twice : l ∈ clause_at t j → opposite (opposite l) ∈ clause_at t j
        in_twice h = subst (λ m. m ∈ clause_at t j) (sym (opposite_twice l)) h

    no_o : opposite l ∈ e → ⊥
    no_o h = ⊎_elim (λ p. r.ones.without i iw p.0) (λ p. p.1 refl) (from (opposite l) h)

    here : IsPairResolved (pushed t e) l i j
    here a m =
        let new = pushed_new t e even in
        let sat = satisfies_same a e (clause_at (pushed t e) (length t.clauses)) (sym new.1)
        (m (length t.clauses) new.0
        (λ h. no_l (in_same l (clause_at (pushed t e) (length t.clauses)) e new.1 h))
        (λ h. no_o (in_same (opposite l) (clause_at (pushed t e) (length t.clauses)) e new.1 h))) in
        ⊎_elim
        (λ p. inl (but_same l a (clause_at t i) (clause_at (pushed t e) i) (sym (pushed_keeps t e i even li).1) (sat.0, p.0, p.1, sat.2)))
        (λ p. inr (but_same (opposite l) a (clause_at t j) (clause_at (pushed t e) j) (sym (pushed_keeps t e j even lj).1) (sat.0, p.0, p.1, sat.2)))
        (from sat.0 sat.1)

-- all pairs are done
pub saves_first : (s t : DatabaseState) (l : Literal) (w g : List ℕ) (x : ℕ) → length w ≤ x → ResolvesPairs s t l w g x 0 → SavesClauses t t l w g 0
saves_first s t l w g x h r = record {
  becomes = continues_self t;
  led = λ c m. inl m;
  others = r.others;
  ones = λ k live c. let p = place_in k w 0 (r.ones.all k live c) in (p.0, omega arith, p.1, p.2);
  each = r.ones.with;
  apart = r.ones.without;
  pairs = λ i j p q. r.done i j (∈-take_all i w x h p) q;
}

-- what has a literal at a place is one of the clauses
clause_in : (cs : List Clause) (i : ℕ) (l : Literal) → l ∈ get_or cs i [] → get_or cs i [] ∈ cs
clause_in [] i l h = absurd h
clause_in (c ∷ cs) zero l h = inl refl
clause_in (c ∷ cs) (suc i) l h = inr (clause_in cs i l h)

-- A clause with the literal is saved and removed.
pub save_reduces : (P : List Clause) (s : DatabaseState) (l : Literal) (e : Clause) (i : ℕ) (g : List ℕ) → l / 2 < s.var_count → l ∈ clause_at s i →
    ((m : Literal) → m ∈ e → m ∈ clause_at s i) → ((m : Literal) → m ∈ clause_at s i → (m ≡ l) ⊎ (m ∈ e)) → Collects s (opposite l) g →
    ((j : ℕ) → j ∈ g → IsPairResolved s l i j) → IsThawed s l → DerivesFrom P s → DerivesFrom P (removed (saved s (l ∷ e)) i)
save_reduces P s l e i g small hl part whole others pairs thaw r = record {
  even = removed_even s i r.even;
  keeps = λ a h k live. r.keeps a h k (removed_live s i k live).0;
  extends = λ vs n m. subst (λ (v : List Bool). SatisfiesAll (assignment_of v) P) (sym (extended_more s.stack (l ∷ e) vs))
      (r.extends (amended (l ∷ e) vs) (let q = amended_length (l ∷ e) vs in omega (arith, q, n)) (holds vs n m));
  leads = leads_removed P s.lines s.live s.clauses i r.even r.leads;
  named = r.named;
  spoken = told_removed P s.lines (get_or s.live i false) (clause_at s i) (named_at P s.clauses i r.named) r.spoken;
  saved = has_more P s.stack (l ∷ e) (λ m h.
      (m, named_at P s.clauses i r.named m (⊎_elim (λ q. subst (λ x. x ∈ clause_at s i) (sym q) hl) (part m) h), refl)) r.saved;
  thawed = thawed_more s.frozen s.stack l e thaw r.thawed;
  entailed = r.entailed;
  implied = λ both a h c m. ⊎_elim
      (r.implied both a h c)
      (λ k. ⊎_elim
      (λ q. satisfies_same a c (l ∷ e) q
      (same_set_satisfied a (clause_at s i) (l ∷ e) (λ x y. ⊎_elim inl inr (whole x y)) (r.entailed a h (clause_at s i) (clause_in s.clauses i l hl))))
      (λ z. absurd z) k)
      (∈-append_cases c s.stack ((l ∷ e) ∷ []) m);
}
  where
    holds : (vs : List Bool) → s.var_count ≤ length vs → Models (assignment_of vs) (removed (saved s (l ∷ e)) i) → Models (assignment_of (amended (l ∷ e) vs)) s
    holds vs n m k live = ⊎_elim
        (λ h. subst (λ (v : List Bool). Satisfies (assignment_of v) (clause_at s k)) (sym h.1) (before h.0))
        (λ h. subst (λ (v : List Bool). Satisfies (assignment_of v) (clause_at s k)) (sym h.1) (after h.0))
        (amended_cases l e vs)
      where
        room : l / 2 < length vs
        room = omega (arith, small, n)

        before : Satisfies (assignment_of vs) (l ∷ e) → Satisfies (assignment_of vs) (clause_at s k)
        before h = ⊎_elim
            (λ q. subst (λ x. Satisfies (assignment_of vs) (clause_at s x)) (sym q)
            (h.0, ⊎_elim (λ p. subst (λ x. x ∈ clause_at s i) (sym p) hl) (part h.0) h.1, h.2))
            (λ d. m k (removed_keeps s i k live d))
            (equal_or_not k i)

        after : (Satisfies (assignment_of vs) (l ∷ e) → ⊥) → Satisfies (assignment_of (with_true l vs)) (clause_at s k)
        after u = ⊎_elim
            (λ h. (l, h, made-true vs l room))
            (λ d. ⊎_elim
            (λ o. ⊎_elim
            (λ b. absurd (u (b.0, ⊎_elim (λ q. absurd (b.2 q)) inr (whole b.0 b.1), b.3)))
            (λ b. (b.0, b.1, stays-true vs l b.0 room b.2 b.3))
            (pairs k (others.all k live o) (assignment_of vs) rest))
            (λ o. let b = m k (removed_keeps s i k live (other d)) in
            (b.0, b.1, stays-true vs l b.0 room (λ q. o (subst (λ x. x ∈ clause_at s k) q b.1)) b.2))
            (∈-or_not (opposite l) (clause_at s k)))
            (∈-or_not l (clause_at s k))
          where
            other : {p : ℕ} → (l ∈ clause_at s p → ⊥) → p ≡ i → ⊥
            other {p} d q = d (subst (λ x. l ∈ clause_at s x) (sym q) hl)

            rest : ModelsRest l (assignment_of vs) s
            rest p alive a b = m p (removed_keeps s i p alive (other a))

collects_removed : (s : DatabaseState) (e : Clause) (l : Literal) (g : List ℕ) (i : ℕ) → (i ∈ g → ⊥) → Collects s l g → Collects (removed (saved s e) i) l g
collects_removed s e l g i n c = record {
  even = removed_even s i c.even;
  all = λ k live h. c.all k (removed_live s i k live).0 h;
  live = λ k h. removed_keeps s i k (c.live k h) (λ q. n (subst (λ x. x ∈ g) q h));
  with = c.with;
  without = c.without;
}

pub saves_next : (s t : DatabaseState) (l : Literal) (w g : List ℕ) (x : ℕ) (e : Clause) → x < length w → l / 2 < t.var_count → IsThawed t l →
    ((m : Literal) → m ∈ e → m ∈ clause_at t (get_or w x 0)) → ((m : Literal) → m ∈ clause_at t (get_or w x 0) → (m ≡ l) ⊎ (m ∈ e)) →
    SavesClauses s t l w g x → SavesClauses s (removed (saved t (l ∷ e)) (get_or w x 0)) l w g (x + 1)
saves_next s t l w g x e h small thaw part whole r = record {
  becomes = continues_then s t (removed (saved t (l ∷ e)) i) r.becomes (record {
    more = ([], sym (append-nil t.clauses));
    count = refl;
    frozen = refl;
    both = refl;
    reduces = λ P q. save_reduces P t l e i g small (r.each i iw) part whole r.others (λ j k. r.pairs i j iw k) thaw q;
    gone = λ v q. gone_removed (saved t (l ∷ e)) i v (record { even = q.even; none = q.none });
  });
  led = λ c m. ⊎_elim (r.led c) (λ k. ⊎_elim (λ q. inr (e, q)) (λ z. absurd z) k) (∈-append_cases c t.stack ((l ∷ e) ∷ []) m);
  others = collects_removed t (l ∷ e) (opposite l) g i (λ k. r.apart i iw (r.others.with i k)) r.others;
  ones = λ k live c.
      let old = removed_live t i k live in
      let p = r.ones k old.0 c in
      (p.0, after p.0 p.1 (λ q. old.1 (sym p.3 ∙ ap (λ n. get_or w n 0) q)), p.2, p.3);
  each = r.each;
  apart = r.apart;
  pairs = λ p q hp hq a m. r.pairs p q hp hq a (λ k live n o. m k (removed_keeps t i k live (λ d. n (subst (λ y. l ∈ clause_at t y) (sym d) (r.each i iw)))) n o);
}
  where
    i : ℕ
    i = get_or w x 0

    iw : i ∈ w
    iw = ∈-get_or w x 0 h

    after : (y : ℕ) → x ≤ y → (y ≡ x → ⊥) → x + 1 ≤ y
    after y a n = ⊎_elim (λ q. absurd (n q)) (λ d. omega (arith, a, d)) (equal_or_not y x)

pub saves_end : (s t : DatabaseState) (l : Literal) (w g : List ℕ) (x : ℕ) → length w ≤ x → SavesClauses s t l w g x → (k : ℕ) → IsLive t k → l ∈ clause_at t k → ⊥
saves_end s t l w g x h r k live c = let p = r.ones k live c in let a = p.1 in let b = p.2 in omega (arith, a, b, h)

-- the clauses with a literal whose opposite is in none are saved without others to be resolved with
pub saves_alone : (t : DatabaseState) (m : Literal) (g : List ℕ) → ((k : ℕ) → IsLive t k → opposite m ∈ clause_at t k → ⊥) → Collects t m g →
    SavesClauses t t m g [] 0
saves_alone t m g pure c = record {
  becomes = continues_self t;
  led = λ d h. inl h;
  others = record {
    even = c.even;
    all = λ k live h. absurd (pure k live h);
    live = λ k h. absurd h;
    with = λ k h. absurd h;
    without = λ k h. absurd h;
  };
  ones = λ k live h. let p = place_in k g 0 (c.all k live h) in (p.0, omega arith, p.1, p.2);
  each = c.with;
  apart = c.without;
  pairs = λ i j h k. absurd k;
}

-- once no live clause has the literal, nor its opposite, its variable is gone
pub saved_gone : (t : DatabaseState) (m : Literal) → ((k : ℕ) → IsLive t k → m ∈ clause_at t k → ⊥) → Collects t (opposite m) [] → IsGone t (variable_of m)
saved_gone t m pure c = record {
  even = c.even;
  none = λ k x live h q. ⊎_elim
      (λ s. pure k live (subst (λ y. y ∈ clause_at t k) s h))
      (λ s. c.all k live (subst (λ y. y ∈ clause_at t k) s h))
      (same_or_opposite x m q);
}

pub drops_first : (s : DatabaseState) (m : Literal) (g : List ℕ) → Drops s (saved s (m ∷ [])) m g 0
drops_first s m g = record {
  count = refl;
  frozen = refl;
  both = refl;
  same = refl;
  stack = refl;
  even = refl;
  fewer = λ k h. h;
  kept = λ k h n. h;
  dropped = λ k h. absurd (no_first k g h);
  tells = λ P q. (q.leads, q.spoken);
}

pub drops_next : (s t : DatabaseState) (m : Literal) (g : List ℕ) (x i : ℕ) → i ≡ get_or g x 0 → m ∈ clause_at s i → Drops s t m g x →
    Drops s (removed t i) m g (x + 1)
drops_next s t m g x i e h r = record {
  count = r.count;
  frozen = r.frozen;
  both = r.both;
  same = r.same;
  stack = r.stack;
  even = length-set t.live i false ∙ r.even;
  fewer = λ k live. r.fewer k (removed_live t i k live).0;
  kept = λ k live n. removed_keeps t i k (r.kept k live n) (λ q. n (subst (λ x. m ∈ clause_at s x) (sym q) h));
  dropped = λ k h live. let old = removed_live t i k live in ⊎_elim
      (λ p. r.dropped k p old.0)
      (λ q. old.1 (q ∙ sym e))
      (∈-take_more k g x 0 h);
  tells = λ P q. (
    leads_removed P t.lines t.live t.clauses i (r.even ∙ q.even ∙ ap length (sym r.same)) (r.tells P q).0,
    told_removed P t.lines (get_or t.live i false) (clause_at t i)
        (λ l a. named_at P s.clauses i q.named l (subst (λ (cs : List Clause). l ∈ get_or cs i []) r.same a)) (r.tells P q).1,
  );
}
  where
    length-set : {X : Type 0} (xs : List X) (i : ℕ) (x : X) → length (set xs i x) ≡ length xs
    length-set [] i x = refl
    length-set (y ∷ xs) zero x = refl
    length-set (y ∷ xs) (suc i) x = ap suc (length-set xs i x)

-- the variable of a literal that occurs is not new
occurs_named : (P : List Clause) (s : DatabaseState) (m : Literal) → Occurs s m → DerivesFrom P s → HasVariable P (variable_of m)
occurs_named P s m (k, inl h) q = (m, named_at P s.clauses k q.named m h, refl)
occurs_named P s m (k, inr h) q = (opposite m, named_at P s.clauses k q.named (opposite m) h, variable-opposite m)

-- a literal occurs whose variable was resolved away, with some clauses at these places
pub occurs_resolved : (s t : DatabaseState) (l m : Literal) (w g : List ℕ) → m ≡ opposite l → Collects s l w → Collects t (opposite l) g → Continues s t →
    (false ≡ (length w == 0)) ⊎ (false ≡ (length g == 0)) → Occurs t m
occurs_resolved s t l m w (y ∷ g) e c d b n = (y, inl (subst (λ x. x ∈ clause_at t y) (sym e) (d.with y (inl refl))))
occurs_resolved s t l m (x ∷ w) [] e c d b n = (
  x,
  inr (subst (λ y. y ∈ clause_at t x) (sym (ap opposite e ∙ opposite_twice l))
      (in_same l (clause_at s x) (clause_at t x) (sym (clause_stays s t x c.even (c.live x (inl refl)) b)) (c.with x (inl refl)))),
)
occurs_resolved s t l m [] [] e c d b (inl n) = absurd (cc)
occurs_resolved s t l m [] [] e c d b (inr n) = absurd (cc)

pub drops_end : (s t : DatabaseState) (m : Literal) (g : List ℕ) (x : ℕ) → m / 2 < s.var_count → IsThawed s m → s.saves_both ≡ false → Occurs s m → ((k : ℕ) → IsLive s k → opposite m ∈ clause_at s k → ⊥) →
    Drops s t m g x → Continues s t
drops_end s t m g x small thaw one occurs pure r = record {
  more = ([], r.same ∙ sym (append-nil s.clauses));
  count = r.count;
  frozen = r.frozen;
  both = r.both;
  reduces = λ P q. reduces P q;
  gone = λ v q. record {
    even = r.even ∙ q.even ∙ ap length (sym r.same);
    none = λ k l live h e. q.none k l (r.fewer k live) (in_same l (clause_at t k) (clause_at s k) (at k) h) e;
  };
}
  where
    at : (k : ℕ) → clause_at t k ≡ clause_at s k
    at k = ap (λ (cs : List Clause). get_or cs k []) r.same

    reduces : (P : List Clause) → DerivesFrom P s → DerivesFrom P t
    reduces P q = record {
      even = r.even ∙ q.even ∙ ap length (sym r.same);
      keeps = λ a h k live. satisfies_same a (clause_at t k) (clause_at s k) (at k) (q.keeps a h k (r.fewer k live));
      extends = λ vs n h. subst (λ (v : List Bool). SatisfiesAll (assignment_of v) P)
          (sym (ap (λ (st : List Clause). extended st vs) r.stack ∙ extended_more s.stack (m ∷ []) vs))
          (q.extends (amended (m ∷ []) vs) (let e = amended_length (m ∷ []) vs in let c = r.count in omega (arith, e, n, c)) (holds vs n h));
      leads = (r.tells P q).0;
      named = subst (λ (cs : List Clause). AreNamedBy P cs) (sym r.same) q.named;
      spoken = (r.tells P q).1;
      saved = subst (λ (st : List Clause). HasVariablesOf P st) (sym r.stack) (has_more P s.stack (m ∷ [])
          (λ l h. ⊎_elim (λ e. subst (λ x. HasVariable P (variable_of x)) (sym e) (occurs_named P s m occurs q)) (λ z. absurd z) h) q.saved);
      thawed = subst (λ (st : List Clause). (c : Clause) → c ∈ st → avoids t.frozen c ≡ true) (sym r.stack)
          (subst (λ (f : List Bool). (c : Clause) → c ∈ (s.stack ++ (m ∷ []) ∷ []) → avoids f c ≡ true) (sym r.frozen)
          (thawed_more s.frozen s.stack m [] thaw q.thawed));
      entailed = λ a h. subst (λ (cs : List Clause). SatisfiesAll a cs) (sym r.same) (q.entailed a h);
      implied = λ both. absurd (let e : true ≡ false = sym both ∙ r.both ∙ one in cc);
    }
      where
        holds : (vs : List Bool) → t.var_count ≤ length vs → Models (assignment_of vs) t → Models (assignment_of (amended (m ∷ []) vs)) s
        holds vs n h k live = ⊎_elim
            (λ c. subst (λ (v : List Bool). Satisfies (assignment_of v) (clause_at s k)) (sym c.1) (before c.0))
            (λ c. subst (λ (v : List Bool). Satisfies (assignment_of v) (clause_at s k)) (sym c.1) after)
            (amended_cases m [] vs)
          where
            room : m / 2 < length vs
            room = let c = r.count in omega (arith, small, n, c)

            old : (m ∈ clause_at s k → ⊥) → Satisfies (assignment_of vs) (clause_at s k)
            old d = satisfies_same (assignment_of vs) (clause_at s k) (clause_at t k) (sym (at k)) (h k (r.kept k live d))

            before : Satisfies (assignment_of vs) (m ∷ []) → Satisfies (assignment_of vs) (clause_at s k)
            before v = ⊎_elim
                (λ i. (m, i, subst (λ x. value (assignment_of vs) x ≡ true) (⊎_elim (λ p. p) (λ f. absurd f) v.1) v.2))
                old
                (∈-or_not m (clause_at s k))

            after : Satisfies (assignment_of (with_true m vs)) (clause_at s k)
            after = ⊎_elim
                (λ i. (m, i, made-true vs m room))
                (λ d. let v = old d in (v.0, v.1, stays-true vs m v.0 room (λ e. pure k live (subst (λ x. x ∈ clause_at s k) e v.1)) v.2))
                (∈-or_not m (clause_at s k))

-- the literal alone is saved
pub drops_led : (s t : DatabaseState) (m : Literal) (g : List ℕ) (x : ℕ) → Drops s t m g x → SavesLed s t m
drops_led s t m g x r c h =
    ⊎_elim inl (λ k. ⊎_elim (λ q. inr ([], q)) (λ z. absurd z) k)
    (∈-append_cases c s.stack ((m ∷ []) ∷ []) (subst (λ (st : List Clause). c ∈ st) r.stack h))

-- once all clauses with it are removed, its variable is gone
pub drops_gone : (s t : DatabaseState) (m : Literal) (g : List ℕ) (x : ℕ) → length g ≤ x → Collects s m g →
    ((k : ℕ) → IsLive s k → opposite m ∈ clause_at s k → ⊥) → Drops s t m g x → IsGone t (variable_of m)
drops_gone s t m g x room c pure r = record {
  even = r.even ∙ c.even ∙ ap length (sym r.same);
  none = λ k l live h e.
      let i : l ∈ clause_at s k = subst (λ (cs : List Clause). l ∈ get_or cs k []) r.same h in
      ⊎_elim
      (λ q. r.dropped k (∈-take_all k g x room (c.all k (r.fewer k live) (subst (λ y. y ∈ clause_at s k) q i))) live)
      (λ q. pure k (r.fewer k live) (subst (λ y. y ∈ clause_at s k) q i))
      (same_or_opposite l m e);
}

-- A variable was resolved away: its clauses of one sign were saved, and then its other literal.
pub resolved_away : (s t u w : DatabaseState) (l m : Literal) → m ≡ opposite l → IsLaterState s t → Continues t u → SavesLed t u l → Continues u w → SavesLed u w m →
    IsGone w (variable_of m) → IsLaterState s w
resolved_away s t u w l m e b d first f second gone = record {
  continues = continues_then s t w b.continues rest;
  settles = λ h c k. ⊎_elim
      (λ i. ⊎_elim (λ j. lead_gone t w c rest (b.settles h c j)) (λ p. led l p.0 c p.1 own) (first c i))
      (λ p. led m p.0 c p.1 gone)
      (second c k);
}
  where
    rest : Continues t w
    rest = continues_then t u w d f

    own : IsGone w (variable_of l)
    own = subst (λ v. IsGone w v) (ap variable_of e ∙ variable-opposite l) gone

    led : (x : Literal) (r c : Clause) → c ≡ x ∷ r → IsGone w (variable_of x) → LeadIsGone w c
    led x r c q g = subst (λ (y : Clause). LeadIsGone w y) (sym q) g
