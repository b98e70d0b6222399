-- Resolution, learning, minimization and failed cores, all by what is implied.
use Rattle.std.proofs.Common.{◌≡◌, ℕ, zero, suc, ◌+◌, ◌<◌, ◌≤◌, List, [], ◌∷◌, ◌⊎◌, inl, inr, ⊎_elim, sym, ap, ◌∙◌, subst, refl, arith, get_or}
use Rattle.std.proofs.lemmas.Bool.{cases_lt}
use Rattle.varisat_theory.specs.promises.Membership.{◌∈◌, ◌⊆◌}
use Rattle.varisat_theory.specs.promises.Literals.{Literal, Clause, opposite, opposites}
use Rattle.varisat_theory.specs.promises.Propagation.{Conflicts, Follows}
use Rattle.varisat_theory.specs.promises.Analysis.{Implied, Known, ByReason, Reached, AtStart, InReason, HasEarlierReasons, EndsIn, MarksAreReasoned}
use Rattle.varisat_theory.proofs.clauses.Values.{opposite_twice, ∈-opposites, opposites-∈}
use Rattle.varisat_theory.proofs.clauses.Growth.{follows_member}
use Rattle.varisat_theory.proofs.clauses.Implication.{implied_known, implied_false, implied_clash, implied_alone}

opposite_kept : (c : Clause) (l : Literal) → opposite l ∈ c → l ∈ opposites c
opposite_kept c l h = subst (λ y. y ∈ opposites c) (opposite_twice l) (∈-opposites (opposite l) c h)

-- a clause that follows loses the literals whose opposites are implied by those of the others
pub follows_shorter : (P : List Clause) (c d : Clause) → Follows P c → ((m : Literal) → m ∈ c → (m ∈ d) ⊎ Implied P (opposites d) (opposite m)) → Follows P d
follows_shorter P c d f g =
    implied_known P (opposites d) (opposites c)
    (λ l i. ⊎_elim (λ k. Known (opposite_kept d l k)) (λ k. subst (λ y. Implied P (opposites d) y) (opposite_twice l) k)
    (g (opposite l) (opposites-∈ l c i))) f

-- A step of conflict analysis: the resolvent of a clause that follows with a reason follows, without what P alone makes false.
resolved_at_zero : (P : List Clause) (c reason d : Clause) (l : Literal) → Follows P c → reason ∈ P → l ∈ reason →
    ((m : Literal) → m ∈ reason → (m ≡ l) ⊎ ((m ∈ d) ⊎ Implied P [] (opposite m))) → ((m : Literal) → m ∈ c → (m ≡ opposite l) ⊎ (m ∈ d)) → Follows P d
resolved_at_zero P c reason d l f h i r s =
    let now : Implied P (opposites d) l =
    ByReason reason h i (λ m j n. ⊎_elim (λ e. absurd (n e))
    (λ o. ⊎_elim (λ k. Known (∈-opposites m d k)) (λ k. implied_alone P (opposites d) (opposite m) k) o) (r m j)) in
    follows_shorter P c d f (λ m j. ⊎_elim (λ e. inr (subst (λ y. Implied P (opposites d) y) (sym (opposite_twice l) ∙ ap opposite (sym e)) now)) inl (s m j))

pub follows_resolved : (P : List Clause) (c reason d : Clause) (l : Literal) → Follows P c → reason ∈ P → l ∈ reason →
    ((m : Literal) → m ∈ reason → (m ≡ l) ⊎ (m ∈ d)) → ((m : Literal) → m ∈ c → (m ≡ opposite l) ⊎ (m ∈ d)) → Follows P d
follows_resolved P c reason d l f h i r s = resolved_at_zero P c reason d l f h i (λ m j. ⊎_elim inl (λ k. inr (inl k)) (r m j)) s

-- literals that P alone makes false are left out
pub follows_at_zero : (P : List Clause) (c d : Clause) → Follows P c → ((m : Literal) → m ∈ c → (m ∈ d) ⊎ Implied P [] (opposite m)) → Follows P d
follows_at_zero P c d f g =
    follows_shorter P c d f (λ m i. ⊎_elim inl (λ k. inr (implied_alone P (opposites d) (opposite m) k)) (g m i))

module _ (P : List Clause) (start : Clause) (reason : Literal → Clause) (Resolved : Literal → Type 0) (place : Literal → ℕ) (base : List Literal) where
  reached_below : HasEarlierReasons P reason Resolved place → EndsIn P start reason Resolved base → (n : ℕ) (l : Literal) → place l < n →
      Reached start reason Resolved l → Implied P base l
  reached_below h w zero l b r = absurd (omega arith)
  reached_below h w (suc n) l b r =
      ⊎_elim
      (λ i. Known i)
      (λ o. ⊎_elim (λ s. let e = h l s in ByReason (reason l) e.0 e.1
      (λ m i d. let lt = e.2 m i d in reached_below h w n (opposite m) (omega arith)
      (InReason l r s (subst (λ y. y ∈ reason l) (sym (opposite_twice m)) i) (λ e. d (sym (opposite_twice m) ∙ e))))) (λ k. implied_alone P base l k) o)
      (w l r)

  -- each literal that is reached is implied by the base
  pub reached_implied : HasEarlierReasons P reason Resolved place → EndsIn P start reason Resolved base → (l : Literal) →
      Reached start reason Resolved l → Implied P base l
  reached_implied h w l r = reached_below h w (suc (place l)) l (omega arith) r

  -- what analysis of a false clause reaches conflicts with P
  pub reached_conflicts : HasEarlierReasons P reason Resolved place → EndsIn P start reason Resolved base → start ∈ P → Conflicts P base
  reached_conflicts h w i =
      implied_false P base start i (λ m j. reached_implied h w (opposite m) (AtStart (subst (λ y. y ∈ start) (sym (opposite_twice m)) j)))

  -- and so does what the reasons of a false assumption's opposite lead back to, with the assumption
  pub core_conflicts : (l : Literal) → start ≡ l ∷ [] → l ∈ base → HasEarlierReasons P reason Resolved place → EndsIn P start reason Resolved base →
      Conflicts P base
  core_conflicts l e i h w =
      implied_clash P base l (Known i) (reached_implied h w (opposite l) (AtStart (subst (λ c. opposite (opposite l) ∈ c) (sym e) (inl (opposite_twice l)))))

-- the learned clause follows
pub learned_follows : (P : List Clause) (conflict : Clause) (reason : Literal → Clause) (Resolved : Literal → Type 0) (place : Literal → ℕ)
    (learned : Clause) → HasEarlierReasons P reason Resolved place → EndsIn P conflict reason Resolved (opposites learned) → conflict ∈ P → Follows P learned
learned_follows P conflict reason Resolved place learned h w i = reached_conflicts P conflict reason Resolved place (opposites learned) h w i

marked_implied : (P : List Clause) (kept : Clause) (Marked : Literal → Type 0) (reason : Literal → Clause) (place : Literal → ℕ) →
    MarksAreReasoned P kept Marked reason place → (n : ℕ) (x : Literal) → place x < n → Marked x → Implied P (opposites kept) x
marked_implied P kept Marked reason place h zero x l m = absurd (omega arith)
marked_implied P kept Marked reason place h (suc n) x l m =
    ⊎_elim
    (λ i. Known (opposite_kept kept x i))
    (λ o. ⊎_elim (λ k. implied_alone P (opposites kept) x k)
    (λ w. ByReason (reason x) w.0 w.1
    (λ y i d. let v = w.2 y i d in let a = v.0 in marked_implied P kept Marked reason place h n (opposite y) (omega arith) v.1)) o)
    (h x m)

-- the literals that minimization keeps follow, where the opposite of each one of the clause is marked
pub minimized_follows : (P : List Clause) (c kept : Clause) (Marked : Literal → Type 0) (reason : Literal → Clause) (place : Literal → ℕ) →
    MarksAreReasoned P kept Marked reason place → ((m : Literal) → m ∈ c → Marked (opposite m)) → Follows P c → Follows P kept
minimized_follows P c kept Marked reason place h f k =
    follows_shorter P c kept k (λ m i. inr (marked_implied P kept Marked reason place h (suc (place (opposite m))) (opposite m) (omega arith) (f m i)))

opposites_twice : (ls : List Literal) → opposites (opposites ls) ≡ ls
opposites_twice [] = refl
opposites_twice (l ∷ ls) = let e = opposite_twice l in let f = opposites_twice ls in cc

-- the clause of the opposites of a core's literals follows
pub core_follows : (P : List Clause) (core : List Literal) → Conflicts P core → Follows P (opposites core)
core_follows P core k = subst (λ b. Conflicts P b) (sym (opposites_twice core)) k

pub core_from_clause : (P : List Clause) (core : List Literal) → Follows P (opposites core) → Conflicts P core
core_from_clause P core k = subst (λ b. Conflicts P b) (opposites_twice core) k

-- Before the places below i of the trail are looked at: each clause that holds the learned literals and the opposites of what is seen below i follows.
pub record Pending (P : List Clause) (learned : Clause) (trail : List Literal) (Seen : Literal → Type 0) (i : ℕ) : Type 0 where
  pub follows : (d : Clause) → learned ⊆ d → ((j : ℕ) → j < i → Seen (get_or trail j 0) → opposite (get_or trail j 0) ∈ d) → Follows P d

-- the literal's opposite is seen before place i, or P alone implies it
abbrev pub IsPassed : List Clause → List Literal → (Literal → Type 0) → ℕ → Literal → Type 0
IsPassed P trail Seen i m = ((j : ℕ) × (j < i) × (get_or trail j 0 ≡ opposite m) × Seen (opposite m)) ⊎ Implied P [] (opposite m)

passed : (P : List Clause) (trail : List Literal) (Seen : Literal → Type 0) (i : ℕ) (d : Clause) (m : Literal) →
    ((j : ℕ) → j < i → Seen (get_or trail j 0) → opposite (get_or trail j 0) ∈ d) → IsPassed P trail Seen i m → (m ∈ d) ⊎ Implied P [] (opposite m)
passed P trail Seen i d m t (inl w) = inl (subst (λ y. y ∈ d) (ap opposite w.2 ∙ opposite_twice m) (t w.0 w.1 (subst Seen (sym w.2) w.3)))
passed P trail Seen i d m t (inr k) = inr k

-- at the start: of the conflict clause each literal is learned, or its opposite is seen or implied by P alone
pub pending_start : (P : List Clause) (learned : Clause) (trail : List Literal) (Seen : Literal → Type 0) (i : ℕ) (c : Clause) → c ∈ P →
    ((m : Literal) → m ∈ c → (m ∈ learned) ⊎ IsPassed P trail Seen i m) → Pending P learned trail Seen i
pending_start P learned trail Seen i c h f = record {
  follows = λ d s t. follows_at_zero P c d (follows_member P c h) (λ m k. ⊎_elim (λ o. inl (s m o)) (λ w. passed P trail Seen i d m t w) (f m k));
}

-- a place that is not seen
pub pending_skip : (P : List Clause) (learned : Clause) (trail : List Literal) (Seen : Literal → Type 0) (i : ℕ) →
    Pending P learned trail Seen (i + 1) → (Seen (get_or trail i 0) → ⊥) → Pending P learned trail Seen i
pending_skip P learned trail Seen i p n = record {
  follows = λ d s t. p.follows d s
      (λ j l k. ⊎_elim (λ (a : j < i). t j a k)
      (λ (a : i ≤ j). let e : j ≡ i = omega arith in absurd (n (subst (λ x. Seen (get_or trail x 0)) e k))) (cases_lt j i));
}

-- a place that is resolved with its reason
pub pending_resolve : (P : List Clause) (learned learned' : Clause) (trail : List Literal) (Seen Seen' : Literal → Type 0) (i : ℕ)
    (reason : Clause) → Pending P learned trail Seen (i + 1) → learned ⊆ learned' →
    ((j : ℕ) → j < i → Seen (get_or trail j 0) → Seen' (get_or trail j 0)) → reason ∈ P → get_or trail i 0 ∈ reason →
    ((m : Literal) → m ∈ reason → (m ≡ get_or trail i 0) ⊎ ((m ∈ learned') ⊎ IsPassed P trail Seen' i m)) → Pending P learned' trail Seen' i
pending_resolve P learned learned' trail Seen Seen' i reason p s g h k f = record {
  follows = λ d t u.
      let now = get_or trail i 0 in
      let before = p.follows (opposite now ∷ d) (λ x o. inr (t x (s x o)))
      (λ j l v. ⊎_elim (λ (a : j < i). inr (u j a (g j a v)))
      (λ (a : i ≤ j). let e : j ≡ i = omega arith in inl (ap (λ x. opposite (get_or trail x 0)) e)) (cases_lt j i)) in
      resolved_at_zero P (opposite now ∷ d) reason d now before h k
      (λ m o. ⊎_elim inl (λ q. inr (⊎_elim (λ z. inl (t m z)) (λ w. passed P trail Seen' i d m u w) q)) (f m o)) (λ m o. o);
}

-- a place that is kept as the last literal, where nothing below is seen
pub pending_end : (P : List Clause) (learned : Clause) (trail : List Literal) (Seen : Literal → Type 0) (i : ℕ) →
    Pending P learned trail Seen (i + 1) → ((j : ℕ) → j < i → Seen (get_or trail j 0) → ⊥) → Follows P (opposite (get_or trail i 0) ∷ learned)
pending_end P learned trail Seen i p n =
    p.follows (opposite (get_or trail i 0) ∷ learned) (λ x o. inr o)
    (λ j l k. ⊎_elim (λ (a : j < i). absurd (n j a k))
    (λ (a : i ≤ j). let e : j ≡ i = omega arith in inl (ap (λ x. opposite (get_or trail x 0)) e)) (cases_lt j i))
