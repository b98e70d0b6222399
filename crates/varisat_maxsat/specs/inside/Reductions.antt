-- A client that holds a problem as it was brought down.
use Rattle.std.specs.Prelude.{◌≡◌, ◌≤◌, ℕ, ◌-◌, ◌^◌, Bool, true, false, Option, Some, None, option_map, IfSome, Result, MatchResult, List, []}
use Rattle.varisat_theory.specs.promises.Literals.{Literal, Clause, Assignment, SatisfiesAll, IsFailedCore, IsSatisfiable}
use Rattle.varisat_client.specs.promises.Pasts.{ClientPast, IsFoundModel, count}
use Rattle.varisat_client.specs.inside.Clients.{Client, RepresentsPast}
use Rattle.varisat_maxsat.specs.promises.Problems.{Problem, IsSolution, IsOptimum, CostsAtLeast, Found, found_of, Improve, last_found, IsStopped}
use Rattle.varisat_maxsat.specs.inside.Charges.{ClausesAreBelow, Exchanges, AreParted, Reduces, ReducesBelow, AreAssumed, IsPending}
use Rattle.varisat_maxsat.specs.inside.Errors.{IsLimit}
use Rattle.varisat_maxsat.specs.declared.charge.Charge.{Charge}
use Rattle.varisat_maxsat.specs.declared.refusal.MaxSatError.{MaxSatError}
use Rattle.varisat_maxsat.specs.declared.refusal.MaxSatError.TheVariants.{Ended}
use Rattle.varisat_maxsat.specs.declared.counter.Counter.{Counter}
use Rattle.varisat_maxsat.specs.declared.solving.Solution.{Solution}

-- No call was refused, and neither a clause nor an assumption is begun.
pub record IsReady (g : Client) (p : ClientPast) : Type 0 where
  pub stands : RepresentsPast g p
  pub refusal : p.refusal ≡ None
  pub clause : p.clause ≡ []
  pub assumptions : p.assumptions ≡ []

-- How many steps are left, once so many were made, of a limit for all searches together. Without one each may make all
-- that can be counted.
abbrev pub left_steps : Option ℕ → ℕ → ℕ
left_steps None made = 2 ^ 64 - 1
left_steps (Some limit) made = limit - made

-- the next search may make so many steps
abbrev pub with_limit : ℕ → ClientPast → ClientPast
with_limit steps p = record p { limit = steps; since = 0 }

-- A search was begun under the assumptions.
pub record HasBegun (threshold : ℕ) (charges : List Charge) (p : ClientPast) (h : Client) : Type 0 where
  pub assumed : List Literal
  pub from : AreAssumed threshold charges assumed
  pub ready : IsReady h (record (count assumed p) { assumed = assumed })

-- A search ended under the assumptions, with a model or with a core.
pub record FindsModel (threshold : ℕ) (charges : List Charge) (P : List Clause) (h : Client) : Type 0 where
  pub past : ClientPast
  pub ready : IsReady h past
  pub clauses : past.clauses ≡ P
  pub assumed : List Literal
  pub from : AreAssumed threshold charges assumed
  pub found : IsFoundModel P assumed past.counted past.model

pub record FindsCore (threshold : ℕ) (charges : List Charge) (P : List Clause) (h : Client) : Type 0 where
  pub past : ClientPast
  pub ready : IsReady h past
  pub clauses : past.clauses ≡ P
  pub assumed : List Literal
  pub from : AreAssumed threshold charges assumed
  pub failed : IsFailedCore P assumed past.core

abbrev pub Finds : Bool → ℕ → List Charge → List Clause → Client → Type 0
Finds true = FindsModel
Finds false = FindsCore

-- No call was refused, and these clauses were given.
pub record IsReadyWith (P : List Clause) (h : Client) : Type 0 where
  pub past : ClientPast
  pub ready : IsReady h past
  pub clauses : past.clauses ≡ P

abbrev pub FindsWithin : Option Bool → ℕ → List Charge → List Clause → Client → Type 0
FindsWithin None threshold charges P h = IsReadyWith P h
FindsWithin (Some found) threshold charges P h = Finds found threshold charges P h

-- A model was found in which none of the charges that are left is due, and the charges are ordered anew.
pub record FindsLightly (charges after : List Charge) (P : List Clause) (h : Client) : Type 0 where
  pub left : List Charge
  pub finds : FindsModel 0 left P h
  pub exchanges : Exchanges charges 0 after

-- more charges were given up
abbrev pub KeepsParted : List Charge → List Charge → List Charge → List Charge → Type 0
KeepsParted left given_up later more =
    (charges : List Charge) → AreParted charges left given_up → AreParted charges later more

-- The charges of a core were given up, or nothing satisfies the clauses.
abbrev pub GivesUp : Bool → List Charge → List Charge → List Charge → List Charge → List Clause → Type 0
GivesUp true left given_up later more P = KeepsParted left given_up later more
GivesUp false left given_up later more P = (a : Assignment) → SatisfiesAll a P → ⊥

-- A client, how many variables the problem has, how many have a name, the charges, and a bound that no cost is below;
-- counters of the charges, and a ceiling: once counting began, only what costs less is asked for.
pub record Reduction : Type 0 where
  pub client : Client
  pub variables : ℕ
  pub named : ℕ
  pub charges : List Charge
  pub bound : ℕ
  pub counters : List Counter
  pub ceiling : ℕ

-- one of these parts
abbrev pub reduction_of : Client → ℕ → ℕ → List Charge → ℕ → List Counter → ℕ → Reduction
reduction_of g v n cs k ks u =
    record { client = g; variables = v; named = n; charges = cs; bound = k; counters = ks; ceiling = u }

-- the problem was brought down so far
pub record ReducesTo (p : Problem) (r : Reduction) : Type 0 where
  pub past : ClientPast
  pub ready : IsReady r.client past
  pub variables : r.variables ≡ p.variables
  pub reduces : Reduces p.hard p.soft p.variables r.named past.clauses r.charges [] 0 r.bound

-- the same, with literals that are pending, of which one is true
pub record ReducesToWith (p : Problem) (pending : List Literal) (w : ℕ) (r : Reduction) : Type 0 where
  pub past : ClientPast
  pub ready : IsReady r.client past
  pub variables : r.variables ≡ p.variables
  pub reduces : Reduces p.hard p.soft p.variables r.named past.clauses r.charges pending w r.bound
  pub one_true : IsPending past.clauses pending

-- the same, after a search
pub record ReducesToAfter (found : Bool) (threshold : ℕ) (p : Problem) (r : Reduction) : Type 0 where
  pub clauses : List Clause
  pub finds : Finds found threshold r.charges clauses r.client
  pub variables : r.variables ≡ p.variables
  pub reduces : Reduces p.hard p.soft p.variables r.named clauses r.charges [] 0 r.bound

-- The problem was brought down to what is asked for below the ceiling.
pub record ReducesToBelow (p : Problem) (r : Reduction) : Type 0 where
  pub past : ClientPast
  pub ready : IsReady r.client past
  pub variables : r.variables ≡ p.variables
  pub reduces : ReducesBelow p.hard p.soft p.variables r.named past.clauses r.charges r.counters r.bound r.ceiling

-- each problem that was brought down so still is
abbrev pub KeepsReductions : Reduction → Reduction → Type 0
KeepsReductions r s = (p : Problem) → ReducesToBelow p r → ReducesToBelow p s

-- so it does, or a limit was met
abbrev pub KeepsOrMeetsLimit : Result (Unit {0}) MaxSatError → Reduction → Reduction → Type 0
KeepsOrMeetsLimit result r s = MatchResult result (λ _. KeepsReductions r s) IsLimit

-- A model was found of clauses to which the hard ones were brought down.
pub record FindsSolution (p : Problem) (r : Reduction) : Type 0 where
  pub past : ClientPast
  pub ready : IsReady r.client past
  pub assumed : List Literal
  pub found : IsFoundModel past.clauses assumed past.counted past.model
  pub variables : r.variables ≡ p.variables
  pub named : p.variables ≤ r.named
  pub hard_below : ClausesAreBelow p.variables p.hard
  pub clauses_below : ClausesAreBelow r.named past.clauses
  pub upper : (a : Assignment) → SatisfiesAll a past.clauses → SatisfiesAll a p.hard

-- The hard clauses are satisfied by a model that was found, or no assignment satisfies them.
abbrev pub DecidesHard : Bool → Problem → Reduction → Type 0
DecidesHard true p r = ReducesTo p r × FindsSolution p r
DecidesHard false p r = IsSatisfiable p.hard → ⊥

-- A model was found that may cost less, or none costs less than the ceiling.
abbrev pub IsImproved : Bool → Problem → Reduction → Type 0
IsImproved true p r = ReducesToBelow p r × FindsSolution p r
IsImproved false p r = CostsAtLeast r.ceiling p

-- The problem was brought further down, or no assignment satisfies its hard clauses.
abbrev pub IsRelaxed : Bool → Problem → Reduction → Type 0
IsRelaxed true p r = ReducesTo p r
IsRelaxed false p r = IsSatisfiable p.hard → ⊥

-- What holds of the best solution at the end, or no assignment satisfies the hard clauses.
abbrev pub IsEnded : Bool → Problem → Type 0 → Type 0
IsEnded true p holds = holds
IsEnded false p holds = IsSatisfiable p.hard → ⊥

-- the error is that the sink ended the search
abbrev pub EndsBySink : {X : Type 0} → Result X MaxSatError → Type 0
EndsBySink r = MatchResult r (λ _. ⊥) (λ e. e ≡ Ended)

-- What a sink took since x: solutions, of which the best one is the last. Where it did not let the search go on behind
-- that one, and only there, the search ended so.
pub record Took {S : Type 0} (takes : S → List Found → S → Type 0) (x : S) (p : Problem) (best : Bool → Option Found)
    (ended : Type 0) (s : S) : Type 0 where
  pub found : List Found
  pub taken : takes x found s
  pub improve : Improve p found
  pub goes_on : Bool
  pub last : last_found found ≡ best goes_on
  pub stops : goes_on ≡ false → ended
  pub ends : ended → IsStopped found

-- The best solution was handed on, each time that it changed.
abbrev pub HandsOn : {S A : Type 0} → (S → List Found → S → Type 0) → Problem → S → Option (Solution A) → S →
    Option (Solution A) → Type 0 → Type 0
HandsOn {S} takes p s o t u ended =
    (x : S) → Took takes x p (λ b. option_map (found_of b) o) ⊥ s →
    Took takes x p (λ b. option_map (found_of b) u) ended t

-- the best solution is one of the problem, if there is one
abbrev pub IfSomeSolution : {A : Type 0} → Problem → Option (Solution A) → Type 0
IfSomeSolution p best = IfSome best (λ s. IsSolution p s.cost s.values.items)

-- and it is an optimum
abbrev pub IfSomeOptimum : {A : Type 0} → Problem → Option (Solution A) → Type 0
IfSomeOptimum p best = IfSome best (λ s. IsOptimum p s.cost s.values.items)
