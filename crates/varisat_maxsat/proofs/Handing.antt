-- Solutions are handed on.
use Rattle.std.proofs.Common.{◌≡◌, ◌≢◌, ℕ, ◌<◌, ◌≤◌, Bool, true, false, List, [], ◌∷◌, refl, sym, ap, ◌∙◌, subst, arith}
use Rattle.std.specs.Prelude.{Option, Some, None, option_map, Result, Ok, Err, IfSome, IfErr, IsSomeAnd, IsErr, IsErrAnd, MatchResult, ◌↔◌}
use Rattle.varisat_theory.specs.promises.Literals.{IsSatisfiable}
use Rattle.varisat_formula.specs.promises.Values.{assignment_of}
use Rattle.varisat_maxsat.specs.promises.Problems.{Problem, cost, IsSolution, IsOptimum, Found, found_of, Improve, last_found, IsStopped}
use Rattle.varisat_maxsat.specs.declared.refusal.MaxSatError.{MaxSatError}
use Rattle.varisat_maxsat.specs.declared.refusal.MaxSatError.TheVariants.{Ended}
use Rattle.varisat_maxsat.specs.declared.solving.Solution.{Solution}
use Rattle.varisat_maxsat.specs.inside.Reductions.{Took, EndsBySink, IfSomeSolution, IfSomeOptimum}

improve-more : (p : Problem) (f : Found) (fs : List Found) → IfSome (last_found fs) (λ g. (f.cost < g.cost) × (g.goes_on ≡ true)) → IsSolution p f.cost f.values →
    Improve p fs → Improve p (f ∷ fs)
improve-more p f [] less s i = s
improve-more p f (g ∷ fs) (less, on) s i = (s, less, on, i)

less-mapped : {A : Type 0} (o : Option (Solution A)) (k : ℕ) (b : Bool) → b ≡ true → IfSome o (λ x. k < x.cost) →
    IfSome (option_map (found_of b) o) (λ g. (k < g.cost) × (g.goes_on ≡ true))
less-mapped None k b e h = h
less-mapped (Some x) k b e h = (h, e)

goes-on : (b : Bool) → (b ≡ false → ⊥) → b ≡ true
goes-on true f = refl
goes-on false f = absurd (f refl)

-- a better solution is handed on
pub took-better : {S A : Type 0} (takes : S → List Found → S → Type 0) (p : Problem) (o : Option (Solution A)) (k : ℕ)
    (given values : List Bool) (on : Bool) (ended : Type 0) (s t x : S) → given ≡ values → IfSome o (λ y. k < y.cost) →
    ((x : S) (found : List Found) → takes x found s → takes x (record { cost = k; values = given; goes_on = on } ∷ found) t) → IsSolution p k values →
    (on ≡ false → ended) → (ended → on ≡ false) → Took takes x p (λ b. option_map (found_of b) o) ⊥ s →
    Took takes x p (λ b. Some (record { cost = k; values = values; goes_on = b })) ended t
took-better takes p o k given values on ended s t x e less step sol stops ends b = record {
  found = record { cost = k; values = values; goes_on = on } ∷ b.found;
  taken = subst (λ vs. takes x (record { cost = k; values = vs; goes_on = on } ∷ b.found) t) e (step x b.found b.taken);
  improve = improve-more p (record { cost = k; values = values; goes_on = on }) b.found
      (subst (λ l. IfSome l (λ g. (k < g.cost) × (g.goes_on ≡ true))) (sym b.last)
      (less-mapped o k b.goes_on (goes-on b.goes_on b.stops) less)) sol b.improve;
  goes_on = on;
  last = refl;
  stops = stops;
  ends = ends;
}

-- what comes to the same end
pub took-ends : {S : Type 0} {takes : S → List Found → S → Type 0} {x : S} {p : Problem} {best : Bool → Option Found} {before : Type 0} (ended : Type 0) {s : S} →
    (before → ended) → (ended → before) → Took takes x p best before s → Took takes x p best ended s
took-ends ended f g b = record {
  found = b.found;
  taken = b.taken;
  improve = b.improve;
  goes_on = b.goes_on;
  last = b.last;
  stops = λ e. f (b.stops e);
  ends = λ e. b.ends (g e);
}

-- an error was handed back
pub passes-on : {X E : Type 0} (r : Result X E) (d : E) (P : E → Type 0) → IsErr r × IsErrAnd r (λ e. e ≡ d) → P d → IfErr r P
passes-on (Ok x) d P h q = tt
passes-on (Err y) d P (_, h) q = subst P (sym h) q

still-ends : {X : Type 0} (r : Result X MaxSatError) (d : MaxSatError) → IsErr r × IsErrAnd r (λ e. e ≡ d) → d ≡ Ended → EndsBySink r
still-ends (Ok x) d (_, h) e = absurd h
still-ends (Err y) d (_, h) e = h ∙ e

ended-still : {X : Type 0} (r : Result X MaxSatError) (d : MaxSatError) → IsErr r × IsErrAnd r (λ e. e ≡ d) → EndsBySink r → d ≡ Ended
ended-still (Ok x) d h e = absurd e
ended-still (Err y) d (_, h) e = sym h ∙ e

pub took-passed : {S X : Type 0} {takes : S → List Found → S → Type 0} {x : S} {p : Problem} {best : Bool → Option Found} {s : S} (r : Result X MaxSatError) (d : MaxSatError) →
    IsErr r × IsErrAnd r (λ e. e ≡ d) → Took takes x p best (d ≡ Ended) s → Took takes x p best (EndsBySink r) s
took-passed r d h b = took-ends (EndsBySink r) (still-ends r d h) (ended-still r d h) b

-- another error, so that nothing was handed on since
pub took-unended : {S X : Type 0} {takes : S → List Found → S → Type 0} {x : S} {p : Problem} {best : Bool → Option Found} {s : S} (r : Result X MaxSatError) (d : MaxSatError) →
    IsErr r × IsErrAnd r (λ e. e ≡ d) → (d ≡ Ended → ⊥) → Took takes x p best ⊥ s → Took takes x p best (EndsBySink r) s
took-unended r d h n b = took-ends (EndsBySink r) (λ e. absurd e) (λ e. n (ended-still r d h e)) b

-- nothing was handed on yet
pub took-nothing : {S : Type 0} (takes : S → List Found → S → Type 0) (p : Problem) (x : S) → takes x [] x → Took takes x p (λ b. None) ⊥ x
took-nothing takes p x h = record { found = []; taken = h; improve = tt; goes_on = true; last = refl; stops = λ e. absurd cc; ends = λ e. absurd e }

-- where nothing satisfies the hard clauses, nothing is handed on
pub none-found : (p : Problem) (fs : List Found) → (IsSatisfiable p.hard → ⊥) → Improve p fs → fs ≡ []
none-found p [] n i = refl
none-found p (f ∷ []) n i = absurd (n (assignment_of f.values, i.satisfied))
none-found p (f ∷ g ∷ fs) n i = absurd (n (assignment_of f.values, i.0.satisfied))

-- what costs no more than an optimum is one
pub also-optimal : {A : Type 0} (p : Problem) (k : ℕ) (values : List Bool) (o : Option (Solution A)) →
    IfSome o (λ s. s.cost ≤ k) → IsOptimum p k values → IfSomeSolution p o → IfSomeOptimum p o
also-optimal p k values None l m s = l
also-optimal p k values (Some x) l m s = record {
  solution = s;
  least = λ a h. let j = m.least a h in omega (arith, l, j);
}

-- the answer is the last one that was handed on
answer-last : {A : Type 0} (o : Option (Solution A)) (k : ℕ) (values : List Bool) (b : Bool) (fs : List Found) → b ≡ true →
    last_found fs ≡ option_map (found_of b) o → IsSomeAnd o (λ t. (t.cost ≡ k) × (t.values.items ≡ values)) →
    last_found fs ≡ Some (record { cost = k; values = values; goes_on = true })
answer-last None k values b fs on e h = absurd h
answer-last (Some x) k values b fs on e (c, v) =
    e ∙ ap (λ n. Some (record { cost = n; values = x.values.items; goes_on = b })) c ∙ ap (λ vs. Some (record { cost = k; values = vs; goes_on = b })) v
    ∙ ap (λ y. Some (record { cost = k; values = values; goes_on = y })) on

-- a solution with what it was found to cost
pub costs-so : (p : Problem) (k : ℕ) (given values : List Bool) → given ≡ values → cost (assignment_of given) p.soft ≡ k →
    IsSolution p (cost (assignment_of values) p.soft) values → IsSolution p k values
costs-so p k given values e c sol = subst (λ n. IsSolution p n values) (ap (λ vs. cost (assignment_of vs) p.soft) (sym e) ∙ c) sol

-- a sink and a best solution that were handed back
pub took-moves : {S A : Type 0} (takes : S → List Found → S → Type 0) (p : Problem) (o q : Option (Solution A)) (s t x : S) → q ≡ o → t ≡ s →
    Took takes x p (λ b. option_map (found_of b) o) ⊥ s → Took takes x p (λ b. option_map (found_of b) q) ⊥ t
took-moves takes p o q s t x e f b =
    subst (λ y. Took takes x p (λ b. option_map (found_of b) y) ⊥ t) (sym e) (subst (λ y. Took takes x p (λ b. option_map (found_of b) o) ⊥ y) (sym f) b)

-- what was handed on at the end
pub handed-none : {S : Type 0} (takes : S → List Found → S → Type 0) (p : Problem) (best : Bool → Option Found) (ended : Type 0) (x s : S) →
    (IsSatisfiable p.hard → ⊥) → Took takes x p best ended s → (found : List Found) × Improve p found × takes x found s × (found ≡ [])
handed-none takes p best ended x s n b = (b.found, b.improve, b.taken, none-found p b.found n b.improve)

pub handed-best : {S A : Type 0} (takes : S → List Found → S → Type 0) (p : Problem) (o : Option (Solution A)) (k : ℕ)
    (values : List Bool) (ended : Type 0) (x s : S) → IsSomeAnd o (λ t. (t.cost ≡ k) × (t.values.items ≡ values)) → (ended → ⊥) →
    Took takes x p (λ b. option_map (found_of b) o) ended s →
    (found : List Found) × Improve p found × takes x found s × (last_found found ≡ Some (record { cost = k; values = values; goes_on = true }))
handed-best takes p o k values ended x s h f b =
    (b.found, b.improve, b.taken, answer-last o k values b.goes_on b.found (goes-on b.goes_on (λ e. f (b.stops e))) b.last h)

last-stops : {A : Type 0} (o : Option (Solution A)) (fs : List Found) (b : Bool) (ended : Type 0) →
    last_found fs ≡ option_map (found_of b) o → (b ≡ false → ended) → IsStopped fs → ended
last-stops None fs b ended e h s = absurd (subst (λ l. IsSomeAnd l (λ f. f.goes_on ≡ false)) e s)
last-stops (Some x) fs b ended e h s = h (subst (λ l. IsSomeAnd l (λ f. f.goes_on ≡ false)) e s)

pub handed-so-far : {S A : Type 0} (takes : S → List Found → S → Type 0) (p : Problem) (o : Option (Solution A))
    (ended : Type 0) (x s : S) (P : List Found → Type 0) →
    ((found : List Found) → (ended ↔ IsStopped found) → P found) →
    Took takes x p (λ b. option_map (found_of b) o) ended s → (found : List Found) × Improve p found × takes x found s × P found
handed-so-far takes p o ended x s P f b =
    (b.found, b.improve, b.taken, f b.found (b.ends, last-stops o b.found b.goes_on ended b.last b.stops))

no-last : (fs : List Found) → last_found fs ≡ None → fs ≡ []
no-last [] e = refl
no-last (f ∷ fs) e = absurd cc

-- there is no solution
pub handed-nothing : {S A : Type 0} (takes : S → List Found → S → Type 0) (p : Problem) (o : Option (Solution A))
    (ended : Type 0) (x s : S) (P : List Found → Type 0) → o ≡ None → ((found : List Found) → found ≡ [] → P found) →
    Took takes x p (λ b. option_map (found_of b) o) ended s → (found : List Found) × Improve p found × takes x found s × P found
handed-nothing takes p o ended x s P e f b =
    (b.found, b.improve, b.taken, f b.found (no-last b.found (b.last ∙ ap (option_map (found_of b.goes_on)) e)))

-- an error where nothing was found
pub other-error : {X : Type 0} (r : Result X MaxSatError) (d : MaxSatError) (fs : List Found) (P : X → Type 0) → IsErr r × IsErrAnd r (λ e. e ≡ d) → (d ≡ Ended → ⊥) →
    fs ≡ [] → MatchResult r P (λ e. (e ≡ Ended ↔ IsStopped fs) × (e ≢ Ended → fs ≡ []))
other-error (Ok x) d fs P (_, h) l n = absurd h
other-error (Err e) d fs P (_, h) l n = ((λ i. absurd (l (sym h ∙ i)), λ s. absurd (subst IsStopped n s)), λ _. n)
