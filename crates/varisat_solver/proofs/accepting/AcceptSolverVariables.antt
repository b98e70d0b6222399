-- Solver variables that are taken, and how many there are.
use Rattle.std.proofs.Common.{◌≡◌, ◌≢◌, ℕ, ◌<◌, ◌≤◌, Option, Some, None, false, List, ◌++◌, ◌⊎◌, inl, inr, ⊎_elim, length, sym, ap, ◌∙◌, subst, refl, arith}
use Rattle.varisat_theory.specs.promises.Membership.{◌∈◌}
use Rattle.varisat_theory.specs.promises.Literals.{Literal, Clause, variable_of}
use Rattle.varisat_theory.specs.promises.Held.{without}
use Rattle.varisat_theory.specs.promises.Renaming.{rename}
use Rattle.varisat_theory.specs.promises.Searches.{Search, Fits, IsLiteralOf, IsCoveredBySearch, Tautology, KnownTrue, FixedTrue, Kept}
use Rattle.varisat_theory.specs.inside.Outcomes.{SearchOutcome}
use Rattle.varisat_theory.specs.inside.Outcomes as outcome
use Rattle.varisat_theory.proofs.clauses.Members.{equal_or_not, ∈-append_left, ∈-append_cases}
use Rattle.varisat_theory.proofs.journals.HeldRetirements.{without_less}
use Rattle.varisat_literals.specs.promises.Numbers.{polarity_of}
use Rattle.varisat_prop.proofs.trails.LiteralValues.{same-literal}
use Rattle.varisat_prop.proofs.pairs.DistinctPlaces.{below, length-below, in-below}
use Rattle.varisat_names.specs.promises.Maps.{updated, onward, chain}
use Rattle.varisat_solver.specs.promises.States.{State}
use Rattle.varisat_tracer.specs.promises.Carried.{carry}
use Rattle.varisat_solver.specs.inside.Carried.{is_forced}
use Rattle.varisat_solver.specs.inside.Spaces.{Spaces, Carrying, Translation, translation, IsDischargedBy, SearchHolds, AssumptionsFit, without_core, Links}
use Rattle.varisat_solver.proofs.calls.SpacesAgree.{take_solver, carry-same, working-same, settled-through}
use Rattle.varisat_search.proofs.variables.TakenSolvers.{few}
use Rattle.varisat_names.proofs.Maps.{updated-at, updated-other, updated-all, joined, chain-some, chain-none, chain-through, is-some}
use Rattle.varisat_solver.proofs.leaving.DetachedSolvers.{settled-with}
use Rattle.varisat_solver.proofs.calls.Carried.{carry-at, carry-sign}
use Rattle.varisat_solver.proofs.entries.ReachedHeld.{IsInUse, only, unmentioned, fits-without, same-apart, inside-apart, live-apart, in-use-lives}
use Rattle.varisat_solver.proofs.steps.SearchLinks.{with-model, without-model, relinked}
use Rattle.varisat_solver.proofs.accepting.NewNames.{linked}

-- no two solver variables stand for one identity
pub one-solver : (w : Carrying) (p : Spaces) (s : State) (k : Links w p s) (v v' i : ℕ) → (translation w p s.logged).identity v ≡ Some i →
    (translation w p s.logged).identity v' ≡ Some i → v' ≡ v
one-solver w p s k v v' i a b =
    let (x, e, f) = chain-through p.global_from_solver w.identity v i a in
    let (y, g, h) = chain-through p.global_from_solver w.identity v' i b in
    let q : Some y ≡ Some x = sym (k.identities.one_to_one.there y i h) ∙ k.identities.one_to_one.there x i f in
    let r : Some v' ≡ Some v = sym (k.solvers.one_to_one.back y v' g) ∙ ap p.solver_from_global (let z : y ≡ x = cc in z) ∙ k.solvers.one_to_one.back x v e in
    cc

-- and no two of their literals for one literal
pub one-literal : (w : Carrying) (p : Spaces) (s : State) (k : Links w p s) (l m : Literal) → IsInUse (translation w p s.logged) l →
    IsInUse (translation w p s.logged) m → carry (translation w p s.logged).identity l ≡ carry (translation w p s.logged).identity m → l ≡ m
one-literal w p s k l m (i, a) (j, b) q =
    let to = (translation w p s.logged).identity in
    let z : j ≡ i = sym (carry-at to m j b) ∙ ap variable_of (sym q) ∙ carry-at to l i a in
    same-literal l m (sym (one-solver w p s k (variable_of l) (variable_of m) i a (b ∙ ap Some z))) (sym (carry-sign to l) ∙ ap polarity_of q ∙ carry-sign to m)

-- 1. A solver variable is taken.
module _ (w : Carrying) (p : Spaces) (s : State) (x i v : ℕ) (k : Links w p s) (is : w.identity x ≡ Some i) (spoken : i ∈ s.counted)
    (unsolved : p.solver_from_global x ≡ None) (free : p.global_from_solver v ≡ None) where
  to : ℕ → Option ℕ
  to = chain p.global_from_solver w.identity

  to' : ℕ → Option ℕ
  to' = chain (updated p.global_from_solver v (Some x)) w.identity

  r : Translation
  r = translation w p s.logged

  r' : Translation
  r' = translation w (take_solver x v p) s.logged

  pub to-new : chain (updated p.global_from_solver v (Some x)) w.identity v ≡ Some i
  to-new = chain-some (updated p.global_from_solver v (Some x)) w.identity v x (updated-at p.global_from_solver v (Some x)) ∙ is

  pub to-other : (u : ℕ) → (u ≡ v → ⊥) → chain (updated p.global_from_solver v (Some x)) w.identity u ≡ chain p.global_from_solver w.identity u
  to-other u n = ap (λ o. onward o w.identity) (updated-other p.global_from_solver v (Some x) u n)

  not-new : (u j : ℕ) → chain p.global_from_solver w.identity u ≡ Some j → u ≡ v → ⊥
  not-new u j e q = let z : None ≡ Some j = sym (chain-none p.global_from_solver w.identity v free)
      ∙ ap (chain p.global_from_solver w.identity) (sym q) ∙ e in cc

  pub stays : (u j : ℕ) → chain p.global_from_solver w.identity u ≡ Some j → chain (updated p.global_from_solver v (Some x)) w.identity u ≡ Some j
  stays u j e = to-other u (not-new u j e) ∙ e

  -- nothing of the search is over v
  other : (l : Literal) → IsLiteralOf p.search l → variable_of l ≡ v → ⊥
  other l a = let (j, e) = k.holds.within l a in not-new (variable_of l) j e

  -- so what is held fits without the clauses that mention v
  pub fits-apart : (held : List Clause) → Fits held p.search → Fits (without v held) p.search
  fits-apart held f =
      fits-without v held p.search other f

  same : (l : Literal) → IsLiteralOf p.search l → carry to l ≡ carry to' l
  unfolding to to'
  same l a = carry-same (chain p.global_from_solver w.identity) (chain (updated p.global_from_solver v (Some x)) w.identity) l
      (sym (to-other (variable_of l) (other l a)))

  -- what says nothing more says nothing more after that, and so does what is held and mentions v
  pub settled-on : (held : List Clause) → Fits held p.search → (F : List Clause) →
      ((c : Clause) → c ∈ F → IsDischargedBy (translation w p s.logged) p.search.fixed c) → (c : Clause) →
      c ∈ (F ++ rename (carry (chain p.global_from_solver w.identity)) (only v held)) →
      IsDischargedBy (translation w (take_solver x v p) s.logged) p.search.fixed c
  unfolding to to'
  settled-on held f F settled c h =
      settled-through (translation w p s.logged) (translation w (take_solver x v p) s.logged) p.search.fixed p.search.fixed
      (λ l k. ⊎_elim (λ e. inl e) (λ (m, a, e). inr (m, a, sym (same m (inl a)) ∙ e)) k)
      c
      (⊎_elim (settled c) (settled-with (translation w p s.logged) v held p.search f
      (λ d a. unmentioned v d.clause (λ l b. other l (inr (d, a, b)))) c)
      (∈-append_cases c F (rename (carry (chain p.global_from_solver w.identity)) (only v held)) h))

  pub in-both : (c : Clause) → IsCoveredBySearch (carry (chain p.global_from_solver w.identity)) (is_forced w.forced) p.search c →
      IsCoveredBySearch (carry (chain (updated p.global_from_solver v (Some x)) w.identity)) (is_forced w.forced) p.search c
  unfolding to to'
  in-both c (Tautology t) = Tautology t
  in-both c (KnownTrue l a e) = KnownTrue l a e
  in-both c (FixedTrue l a b) = FixedTrue l a (subst (λ y. y ∈ c) (same l (inl a)) b)
  in-both c (Kept d a e m) = Kept d a e (λ l b. subst (λ y. y ∈ c) (same l (inr (d, a, b))) (m l b))

  assumptions-on : AssumptionsFit p.global_from_user (updated p.solver_from_global x (Some v)) s.naming.names p.assumptions s.assumptions
  assumptions-on = record {
    agree = k.assumptions.agree;
    taken = λ l h.
        let (q, c) = k.assumptions.taken l h in
        let (y, f, g) = chain-through p.global_from_user p.solver_from_global (variable_of l) q c in (
          q,
          chain-some p.global_from_user (updated p.solver_from_global x (Some v)) (variable_of l) y f
              ∙ updated-other p.solver_from_global x (Some v) y (λ e. let z : None ≡ Some q = sym unsolved ∙ ap p.solver_from_global (sym e) ∙ g in cc) ∙ g,
        );
  }

  -- the links, once the search of the variables after is known
  pub taken-with : (t : Search) → SearchHolds s.clauses (translation w (take_solver x v p) s.logged) t (without_core p.outcome) →
      Links w (record (take_solver x v p) { search = t }) s
  taken-with t holds =
      relinked w p (record (take_solver x v p) { search = t }) s s k (record {
        solvers = record {
          one_to_one = joined p.solver_from_global p.global_from_solver x v k.solvers.one_to_one unsolved free;
          live = λ v' y. updated-all (λ v' o. o ≡ Some y → (j : ℕ) × (w.identity y ≡ Some j) × (j ∈ s.counted)) p.global_from_solver v (Some x)
              (λ e. (i, (let q : x ≡ y = cc in ap w.identity (sym q) ∙ is), spoken))
              v'
              (λ n e. k.solvers.live v' y e);
        };
        holds = holds;
        assumptions = assumptions-on;
        working = working-same s.clauses (chain p.global_from_solver w.identity)
            (chain (updated p.global_from_solver v (Some x)) w.identity) s.assumptions p.working
            (λ l h. let (j, e) = k.working.used l h in to-other (variable_of l) (not-new (variable_of l) j e)) k.working;
        verdict = k.verdict;
        core = k.core;
        right = k.right;
        few = k.few;
        logged = k.logged;
        checked = k.checked;
      })

  -- What is held and mentions v is forgotten.
  taken-open : SearchHolds s.clauses r p.search outcome.Unknown → w.forced i ≡ None → SearchHolds s.clauses r' p.search outcome.Unknown
  unfolding r r'
  taken-open h unforced = record {
    held = without v h.held;
    holds = fits-apart h.held h.holds;
    within = λ l a. let (j, e) = h.within l a in (j, stays (variable_of l) j e);
    implied = λ a b m g c e. h.implied a b m (λ u j q. g u j (stays u j q)) c (without_less v h.held c e);
    known = h.known;
    fixed = λ o l j a b. ⊎_elim
        (λ q. let y : Some j ≡ Some i = sym a ∙ ap (chain (updated p.global_from_solver v (Some x)) w.identity) q ∙ to-new in
        let z : None ≡ Some (polarity_of l) = sym unforced ∙ ap w.forced (let t : i ≡ j = cc in t) ∙ b in
        absurd cc)
        (λ n. h.fixed o l j (sym (to-other (variable_of l) n) ∙ a) b)
        (equal_or_not (variable_of l) v);
    covered = λ o c a. in-both c (h.covered o c a);
    logged =
        let q = h.logged in
        let old = rename (carry (chain p.global_from_solver w.identity)) (only v h.held) in
        record {
          held = q.held;
          led = q.led;
          forgotten = q.forgotten ++ old;
          same = same-apart (translation w p s.logged) (translation w (take_solver x v p) s.logged) v h.held to-other q;
          inside = inside-apart (translation w p s.logged) (translation w (take_solver x v p) s.logged) v h.held to-other q;
          units = λ j b y e g n. let (c, a, u) = q.units j b y e g (λ u z. n u (stays u j z)) in (c, ∈-append_left c q.forgotten old a, u);
          live = live-apart (translation w p s.logged) v h.held (in-use-lives w p s k) q;
          settled = settled-on h.held h.holds q.forgotten q.settled;
        };
  }

  -- Under Unsat it stays, as it is refuted whatever v stands for.
  taken-refuted : SearchHolds s.clauses r p.search outcome.Unsat → SearchHolds s.clauses r' p.search outcome.Unsat
  unfolding r r'
  taken-refuted h = record {
    held = h.held;
    holds = h.holds;
    within = λ l a. let (j, e) = h.within l a in (j, stays (variable_of l) j e);
    implied = λ a b m g. h.implied a b m (λ u j q. g u j (stays u j q));
    known = h.known;
    fixed = λ o. absurd (o refl);
    covered = λ o. absurd (o refl);
    logged = h.logged;
  }

  module _ (unfixed : ((p.kept x).unit ≡ None) ⊎ (p.outcome ≡ outcome.Unsat)) where
    unforced : (p.outcome ≡ outcome.Unsat → ⊥) → w.forced i ≡ None
    unforced n = k.units.unit x i is ∙ ⊎_elim (λ e. e) (λ q. absurd (n q)) unfixed

    taken-holds : (o : SearchOutcome) → p.outcome ≡ o → SearchHolds s.clauses r p.search (without_core o) → SearchHolds s.clauses r' p.search (without_core o)
    taken-holds outcome.Unknown e h = taken-open h (unforced (λ q. let z : outcome.Unknown ≡ outcome.Unsat = sym e ∙ q in cc))
    taken-holds (outcome.Sat found) e h = with-model s.clauses r' p.search found
        (taken-open (without-model s.clauses r p.search found h) (unforced (λ q. let z : outcome.Sat found ≡ outcome.Unsat = sym e ∙ q in cc)))
    taken-holds outcome.Unsat e h = taken-refuted h
    taken-holds (outcome.UnsatUnder core) e h = taken-open h (unforced (λ q. let z : outcome.UnsatUnder core ≡ outcome.Unsat = sym e ∙ q in cc))

    pub taken : Links w (take_solver x v p) s
    unfolding r r'
    taken = taken-with p.search (taken-holds p.outcome refl k.holds)

-- 2. How many there are.

-- where all solver variables below m are in use, m is at most the number of counted identities
pub solvers-few : (w : Carrying) (p : Spaces) (s : State) (m : ℕ) → Links w p s → ((v : ℕ) → v < m → p.global_from_solver v ≢ None) → m ≤ length s.counted
solvers-few w p s m k used =
    few (translation w p s.logged).identity s.counted (λ v u i. one-solver w p s k v u i) m (λ v b.
    ⊎_elim
    (λ e. absurd (used v b e))
    (λ (x, e). let r = k.solvers.live v x e in (r.0, chain-some p.global_from_solver w.identity v x e ∙ r.1, r.2))
    (is-some (p.global_from_solver v)))

-- where all global variables below n are live, n identities were made at least
pub globals-few : (w : Carrying) (p : Spaces) (s : State) (n : ℕ) → Links w p s → ((x : ℕ) → x < n → (p.kept x).deleted ≡ false) → n ≤ s.naming.made
globals-few w p s n k live =
    let d = few w.identity (below s.naming.made)
    (λ x y i a b. let q : Some y ≡ Some x = sym (k.identities.one_to_one.there y i b) ∙ k.identities.one_to_one.there x i a in cc) n
    (λ x b. let (i, e) = linked w p s x k (live x b) in (i, e, in-below s.naming.made i (k.identities.below x i e))) in
    let e = length-below s.naming.made in
    omega (arith, d, e)
