-- What the calls of a client and their answers say so far, and how a call moves it, without a state of the solver.
use Rattle.std.specs.Prelude.{◌≡◌, ◌≢◌, ◌⊎◌, ℕ, ◌+◌, ◌-◌, ◌^◌, ◌≤◌, ℤ, pos, negsuc, ◌-ℤ◌, Bool, true, false, Option, Some, None, List, [], ◌∷◌, ◌++◌, length, map}
use Rattle.varisat_theory.specs.promises.Membership.{◌∈◌, ◌⊆◌}
use Rattle.varisat_theory.specs.promises.Literals.{Literal, Clause, Assignment, variable_of, literal_of, opposite, SatisfiesAll, MakesTrue, IsSatisfiable, IsFailedCore}
use Rattle.varisat_theory.specs.promises.CallBounds.{AreFew}
use Rattle.varisat_literals.specs.promises.Numbers.{literal_numbered}
use Rattle.varisat_solver.specs.promises.Calls.{IsPastLimit}
use Rattle.varisat_solver.specs.promises.States.{join_counted}
use Rattle.varisat_client.specs.declared.client.SearchEnd.{SearchEnd}
use Rattle.varisat_client.specs.declared.client.SearchEnd.TheVariants as end
use Rattle.varisat_client.specs.declared.refusal.Refusal.{Refusal}
use Rattle.varisat_client.specs.declared.refusal.Refusal.TheVariants.{OutOfMemory, VariableLimit, ClauseStoreFull}

-- Literals are those of the numbers that the client gives: a number's variable is the same in all calls.
--
-- `refusal`: why a call was refused, if one was. `clauses`: those that were given to their end. `clause`: what was
-- given of the next one. `assumptions`: those for the next search. `assumed`: those of the search that was begun last.
-- `model`: the literals that are true in the model of the last search that was satisfiable. `core`: those of the core
-- of the last one that was unsatisfiable. `counted`: the variables of the clauses that were given to their end, and of
-- the assumptions under which a search was begun, each once. `steps`: how many steps all searches made that were not
-- refused. `since`: how many of them since the last change, which is the last clause that ended, search that began or
-- limit that was given. `limit`: how many one search may make.
pub record ClientPast : Type 0 where
  pub refusal : Option Refusal
  pub clauses : List Clause
  pub clause : List Literal
  pub assumptions : List Literal
  pub assumed : List Literal
  pub model : List Literal
  pub core : List Literal
  pub counted : List ℕ
  pub steps : ℕ
  pub since : ℕ
  pub limit : ℕ

-- before the first call
abbrev pub empty_client_past : ClientPast
empty_client_past =
    record {
      refusal = None;
      clauses = [];
      clause = [];
      assumptions = [];
      assumed = [];
      model = [];
      core = [];
      counted = [];
      steps = 0;
      since = 0;
      limit = 2 ^ 64 - 1;
    }

-- a call was refused, and each one is from then on
abbrev pub refuse : Refusal → ClientPast → ClientPast
refuse why p = record p { refusal = Some why }

-- Why a call may be refused that gives these literals to the solver: one was refused before, and then nothing changes;
-- a variable of the literals is past the limit; or none is, and memory ran out or, in a call that stores clauses, their
-- store is full.
pub data Refuses (given : List Literal) (stores : Bool) (p q : ClientPast) : Type 0 where
  Again : p.refusal ≢ None → q ≡ p → Refuses given stores p q
  Memory : p.refusal ≡ None → (IsPastLimit given → ⊥) → q ≡ refuse OutOfMemory p → Refuses given stores p q
  Limit : p.refusal ≡ None → IsPastLimit given → q ≡ refuse VariableLimit p → Refuses given stores p q
  Full : p.refusal ≡ None → (IsPastLimit given → ⊥) → stores ≡ true → q ≡ refuse ClauseStoreFull p →
      Refuses given stores p q

-- the variables of the literals are counted, too, and steps are counted anew
abbrev pub count : List Literal → ClientPast → ClientPast
count ls p = record p { counted = join_counted p.counted (map variable_of ls); since = 0 }

-- A number that is not 0 is put behind the clause, and 0 ends it, as which the clause is given to the solver. No
-- variable past the limit is taken, unless no assignment satisfies the clauses before it.
pub data AddsNumber (n : ℤ) (p q : ClientPast) : Type 0 where
  PutRefused : n ≢ pos 0 → Refuses [] false p q → AddsNumber n p q
  EndRefused : n ≡ pos 0 → Refuses p.clause true p q → AddsNumber n p q
  Ended : n ≡ pos 0 → p.refusal ≡ None → (IsPastLimit p.clause → IsSatisfiable p.clauses → ⊥) →
      q ≡ record (count p.clause p) { clauses = p.clauses ++ p.clause ∷ []; clause = [] } → AddsNumber n p q
  Put : n ≢ pos 0 → p.refusal ≡ None → q ≡ record p { clause = p.clause ++ literal_numbered n ∷ [] } → AddsNumber n p q

-- A number that is not 0 is put behind the assumptions for the next search, and 0 does nothing.
pub data AssumesNumber (n : ℤ) (p q : ClientPast) : Type 0 where
  Refused : n ≢ pos 0 → Refuses [] false p q → AssumesNumber n p q
  Nothing : n ≡ pos 0 → q ≡ p → AssumesNumber n p q
  Put : n ≢ pos 0 → p.refusal ≡ None → q ≡ record p { assumptions = p.assumptions ++ literal_numbered n ∷ [] } →
      AssumesNumber n p q

-- The assumptions that were given are those of the search that begins, and none is given for the next one yet. No
-- variable of them is past the limit.
pub data Begins (p q : ClientPast) : Type 0 where
  Refused : Refuses p.assumptions false p q → Begins p q
  Begun : p.refusal ≡ None → (IsPastLimit p.assumptions → ⊥) →
      q ≡ record (count p.assumptions p) { assumed = p.assumptions; assumptions = [] } → Begins p q

-- One call of a search may make so many steps from now on. This is refused only once another call was.
pub data LimitsSteps (steps : ℕ) (p q : ClientPast) : Type 0 where
  Refused : p.refusal ≢ None → q ≡ p → LimitsSteps steps p q
  Limited : p.refusal ≡ None → q ≡ record p { limit = steps; since = 0 } → LimitsSteps steps p q

-- A part of the clauses is simplified before they are searched, of which nothing is to be seen; or memory runs out.
pub data Prepares (p q : ClientPast) : Type 0 where
  Refused : Refuses [] false p q → Prepares p q
  Prepared : q ≡ p → Prepares p q

-- the variable is one of those up to the highest that is counted
abbrev pub IsUpToCounted : List ℕ → ℕ → Type 0
IsUpToCounted counted u = (v : ℕ) × (v ∈ counted) × (u ≤ v)

-- The literals that are true in a model: one of each clause and all assumptions are among them, of each literal of a
-- clause it or its opposite, and some assignment makes them true that satisfies the clauses. So none is among them
-- together with its opposite. Exactly the variables up to the highest that is counted have a literal among them, and
-- those that are not counted are false.
pub record IsFoundModel (clauses : List Clause) (assumed : List Literal) (counted : List ℕ) (model : List Literal) :
    Type 0 where
  pub satisfied : (a : Assignment) × MakesTrue a model × SatisfiesAll a clauses × MakesTrue a assumed
  pub each : (c : Clause) → c ∈ clauses → (l : Literal) × (l ∈ c) × (l ∈ model)
  pub whole : (c : Clause) (l : Literal) → c ∈ clauses → l ∈ c → (l ∈ model) ⊎ (opposite l ∈ model)
  pub assumed_too : assumed ⊆ model
  pub all_listed : (u : ℕ) → IsUpToCounted counted u → (l : Literal) × (l ∈ model) × (variable_of l ≡ u)
  pub up_to_counted : (l : Literal) → l ∈ model → IsUpToCounted counted (variable_of l)
  pub uncounted : (l : Literal) → l ∈ model → (variable_of l ∈ counted → ⊥) → l ≡ literal_of (variable_of l) false

-- A search makes no more steps than it may, and few for so many variables, over all searches since the last change.
pub record MakesFew (p q : ClientPast) : Type 0 where
  pub made : ℕ
  pub count : q.steps ≡ p.steps + made
  pub since : q.since ≡ p.since + made
  pub budget : made ≤ p.limit
  pub few : AreFew (length p.counted) q.since

-- How a search ends: Satisfiable with a model of the clauses that makes the assumptions true; Unsatisfiable where no
-- assignment satisfies the clauses and makes them true, with some of them for which it is so already; Interrupted where
-- it made all the steps that it may, or no more can be counted; or it is refused. It makes few steps.
pub data IsSearchEnd (r : SearchEnd) (p q : ClientPast) : Type 0 where
  Refused : r ≡ end.Refused → Refuses [] true p q → IsSearchEnd r p q
  Satisfiable : r ≡ end.Satisfiable → p.refusal ≡ None → IsFoundModel p.clauses p.assumed p.counted q.model →
      MakesFew p q → q ≡ record p { model = q.model; steps = q.steps; since = q.since } → IsSearchEnd r p q
  Unsatisfiable : r ≡ end.Unsatisfiable → p.refusal ≡ None → IsFailedCore p.clauses p.assumed q.core → MakesFew p q →
      q ≡ record p { core = q.core; steps = q.steps; since = q.since } → IsSearchEnd r p q
  Interrupted : r ≡ end.Interrupted → p.refusal ≡ None → (q.steps ≡ p.steps + p.limit) ⊎ (q.steps ≡ 2 ^ 64 - 1) →
      MakesFew p q →
      q ≡ record p { steps = q.steps; since = q.since } → IsSearchEnd r p q

-- A number is returned where its literal is true in the last model, the opposite number where that is, and else 0: so
-- it is for 0, for the number that has no opposite, and once a call was refused.
pub data ReturnsValue (n r : ℤ) (p : ClientPast) : Type 0 where
  True : r ≡ n → p.refusal ≡ None → literal_numbered n ∈ p.model → ReturnsValue n r p
  False : r ≡ pos 0 -ℤ n → p.refusal ≡ None → opposite (literal_numbered n) ∈ p.model → ReturnsValue n r p
  Unknown : r ≡ pos 0 → (literal_numbered n ∈ p.model → ⊥) → (opposite (literal_numbered n) ∈ p.model → ⊥) →
      ReturnsValue n r p
  Outside : r ≡ pos 0 → (n ≡ pos 0) ⊎ (n ≡ negsuc (2 ^ 31 - 1)) → ReturnsValue n r p
  Refused : r ≡ pos 0 → p.refusal ≢ None → ReturnsValue n r p

-- Whether the literal of the number is one of the last core: neither 0 is, nor any number once a call was refused.
pub data ReturnsFailed (n : ℤ) (r : Bool) (p : ClientPast) : Type 0 where
  Failed : r ≡ true → p.refusal ≡ None → n ≢ pos 0 → literal_numbered n ∈ p.core → ReturnsFailed n r p
  Unfailed : r ≡ false → (literal_numbered n ∈ p.core → ⊥) → ReturnsFailed n r p
  Outside : r ≡ false → (n ≡ pos 0) ⊎ (p.refusal ≢ None) → ReturnsFailed n r p
