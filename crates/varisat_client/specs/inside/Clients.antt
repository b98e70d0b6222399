-- What a client holds, and what of the calls and answers so far it stands for.
use Rattle.std.specs.Prelude.{◌≡◌, ◌⊎◌, ℕ, ◌<◌, ◌≤◌, Bool, true, false, Option, Some, None, List, [], ◌++◌, length, map}
use Rattle.varisat_theory.specs.promises.Membership.{◌∈◌, ◌⊆◌, IsDistinct}
use Rattle.varisat_theory.specs.promises.Literals.{Literal, Clause, variable_of, IsSatisfiable, IsFailedCore}
use Rattle.varisat_theory.specs.promises.CallBounds.{AreFew}
use Rattle.varisat_literals.specs.promises.Numbers.{variable_limit}
use Rattle.varisat_solver.specs.promises.States.{State, Unsat, new_state}
use Rattle.varisat_solver.specs.promises.Names.{through_names, AreInOrder}
use Rattle.varisat_solver.specs.promises.Models.{IsCompletable, AreNamesInUse}
use Rattle.varisat_solver.specs.promises.Summaries.{Summary, HasFullStore}
use Rattle.varisat_solver.specs.promises.Calls.{with_update}
use Rattle.varisat_names.specs.promises.Settings.{no_update}
use Rattle.varisat_names.specs.declared.config.SolverConfigUpdate.{SolverConfigUpdate}
use Rattle.varisat_solver.specs.inside.Representations.{Represents}
use Rattle.varisat_formula.specs.promises.Values.{literals_from, model_values}
use Rattle.varisat_rules.specs.promises.Stacks.{extended}
use Rattle.varisat_incremental.specs.Reconstructions.{KeepsValues}
use Rattle.varisat_incremental.specs.Batches.{Batches, IsClosed, HasBegun}
use Rattle.varisat_client.specs.inside.LiteralSets.{IsSetOf}
use Rattle.varisat_client.specs.promises.Pasts.{ClientPast, IsUpToCounted}
use Rattle.varisat_client.specs.declared.client.SearchEnd.{SearchEnd}
use Rattle.varisat_client.specs.declared.client.SearchEnd.TheVariants as end
use Rattle.varisat_client.specs.declared.refusal.Refusal.{Refusal}
use Rattle.varisat_client.specs.declared.refusal.Refusal.TheVariants.{OutOfMemory, ClauseStoreFull}

-- the settings of a client's solver, where they are others than those of a new one
abbrev pub client_update : SolverConfigUpdate
client_update = record no_update { reduce_locals_interval = Some 2000; luby_restart_interval_scale = Some 64 }

-- the state of a new solver with these
abbrev pub first_state : State
first_state = with_update client_update (new_state false)

-- What the solver holds; the clauses that it was not given yet; what was eliminated, and the batch that is being
-- simplified; whether a clause ended or a search was begun since the solver was given all; how many variables there are
-- up to the highest that is counted; the clause that is being given; the assumptions for the next search, and those of
-- the search that was begun last; the literals of the last model and of the last core, as sets; why a call was refused,
-- if one was.
pub record Client : Type 0 where
  pub solver : Summary
  pub pending : List Clause
  pub batches : Batches
  pub is_changed : Bool
  pub var_count : ℕ
  pub clause : List Literal
  pub assumptions : List Literal
  pub assumed : List Literal
  pub model : List Bool
  pub core : List Bool
  pub refusal : Option Refusal

-- exactly these literals are in the set that is held of the last model, or of the last core
abbrev pub IsSetOfModel : List Literal → Client → Type 0
IsSetOfModel ls g = IsSetOf ls g.model

abbrev pub IsSetOfCore : List Literal → Client → Type 0
IsSetOfCore ls g = IsSetOf ls g.core

-- The state of the solver has the clauses P that were given to their end, and the assumptions A; it made so many steps
-- in all, and may make `most` in one call. No proof is open. As no name is ever freed, names are in order, and each
-- literal stands for itself.
pub record WasGiven (s : State) (P : List Clause) (A : List Literal) (made most : ℕ) : Type 0 where
  pub valid : s.ledger.valid ≡ true
  pub proof : s.proof ≡ None
  pub count : ℕ
  pub order : AreInOrder count s.naming
  pub in_range : count ≤ variable_limit
  -- a clause is not accepted only once those before it have no model
  pub same : IsSatisfiable s.clauses → s.clauses ≡ P
  pub fewer : s.clauses ⊆ P
  pub refuted : s.verdict ≡ Unsat → IsSatisfiable s.clauses → ⊥
  pub assumed : s.assumptions ≡ A
  pub named : (c : Clause) (l : Literal) → c ∈ s.clauses → l ∈ c → variable_of l < count
  pub assumed_named : (l : Literal) → l ∈ s.assumptions → variable_of l < count
  pub steps : s.ledger.steps ≡ made
  pub limit : s.ledger.settings.max_steps ≡ most

-- The state counts these variables alone, or some of them, each once. No name is in use above the highest of them, and
-- names are in use up to it, unless a clause was not accepted.
pub record CountsAmong (s : State) (known : List ℕ) : Type 0 where
  pub within : s.counted ⊆ known
  pub once : IsDistinct s.counted
  pub up_to_counted : (u : ℕ) → u < s.naming.watermark → IsUpToCounted known u
  pub in_use : IsSatisfiable s.clauses → (u : ℕ) → u ∈ known → u < s.naming.watermark

-- So many steps were made since the last change, which are few for the variables that are counted.
pub record MadeFewSince (s : State) (since : ℕ) : Type 0 where
  pub same : s.ledger.since ≡ since
  pub few : AreFew (length s.counted) since

-- The variables of the clauses P and of the assumptions A are among those that are counted, and n variables reach up to
-- the highest of these.
pub record CountsUpTo (n : ℕ) (P : List Clause) (A : List Literal) (counted : List ℕ) : Type 0 where
  pub named : (c : Clause) (l : Literal) → c ∈ P → l ∈ c → variable_of l ∈ counted
  pub assumed : (l : Literal) → l ∈ A → variable_of l ∈ counted
  pub below : (u : ℕ) → u ∈ counted → u < n
  pub up_to : (u : ℕ) → u < n → IsUpToCounted counted u
  pub small : n ≤ variable_limit

-- Of the clauses P some are pending. The others were taken, and the solver was given some clauses for them.
pub record HasGiven (pending : List Clause) (b : Batches) (P : List Clause) (A : List Literal)
    (made most : ℕ) (counted : List ℕ) (s : State) : Type 0 where
  pub taken : List Clause
  pub given : List Clause
  pub known : List ℕ
  pub whole : P ≡ taken ++ pending
  pub reduced : HasBegun taken given b
  pub fits : WasGiven s given A made most
  pub among : CountsAmong s known
  pub within : known ⊆ counted

-- Where something changed since the last search no step was made since; else nothing is pending, the solver was given
-- what batches came to, and no extension changes the assumptions.
pub record IsSettled (is_changed : Bool) (pending : List Clause) (b : Batches) (A : List Literal) (since : ℕ)
    (s : State) : Type 0 where
  pub fresh : is_changed ≡ true → since ≡ 0
  pub made : is_changed ≡ false → MadeFewSince s since
  pub all : is_changed ≡ false → pending ≡ []
  pub closed : is_changed ≡ false → IsClosed b
  pub keeps : is_changed ≡ false → KeepsValues A b.reconstruction.stack

-- What is held stands for the past, where no call was refused.
pub record HoldsPast (g : Client) (p : ClientPast) : Type 0 where
  pub state : State
  pub stands : Represents g.solver state
  pub gave : HasGiven g.pending g.batches p.clauses p.assumed p.steps p.limit p.counted state
  pub settled : IsSettled g.is_changed g.pending g.batches p.assumed p.since state
  pub counts : CountsUpTo g.var_count p.clauses p.assumed p.counted
  pub clause : g.clause ≡ p.clause
  pub assumptions : g.assumptions ≡ p.assumptions
  pub assumed : g.assumed ≡ p.assumed
  pub model : IsSetOfModel p.model g
  pub core : IsSetOfCore p.core g

-- The client represents the past. Of one that refused a call only the reason is known, and where that is a full store
-- of clauses, that a clause of all variables of the search would bring it to 2^32 words or more.
pub record RepresentsPast (g : Client) (p : ClientPast) : Type 0 where
  pub refusal : g.refusal ≡ p.refusal
  pub full : p.refusal ≡ Some ClauseStoreFull → HasFullStore g.solver
  pub holds : p.refusal ≡ None → HoldsPast g p

-- What is said holds of any past that the client stands for.
abbrev pub IsTrueOfPast : (ClientPast → Type 0) → Client → Type 0
IsTrueOfPast P g = (p : ClientPast) → RepresentsPast g p → P p

-- The call moves any past that the client stands for so.
abbrev pub Moves : (ClientPast → ClientPast → Type 0) → Client → Client → Type 0
Moves R g h = (p : ClientPast) → RepresentsPast g p → (q : ClientPast) × R p q × RepresentsPast h q

-- The solver is given what it is to have for the next search, and the past is the same; or a call is refused.
pub data GivesPending (g h : Client) : Type 0 where
  Given : h.refusal ≡ None → h.is_changed ≡ false → ((p : ClientPast) → HoldsPast g p → HoldsPast h p) →
      GivesPending g h
  OutOfRoom : (why : Refusal) → h.refusal ≡ Some why →
      (why ≡ OutOfMemory) ⊎ ((why ≡ ClauseStoreFull) × HasFullStore h.solver) → GivesPending g h

-- the literals that are true in the extension of a model of the solver's clauses
abbrev pub model_of_all : Client → List Literal → List Literal
model_of_all g m = literals_from 0 (extended g.batches.reconstruction.stack (model_values g.var_count m))

-- memory ran out
pub record RunsOutOfMemory (r : SearchEnd) (h : Client) : Type 0 where
  pub answer : r ≡ end.Refused
  pub refusal : h.refusal ≡ Some OutOfMemory

-- The extension is kept of the model that the solver returns, or memory ran out.
pub data KeepsModel (r : SearchEnd) (g h : Client) : Type 0 where
  Refused : RunsOutOfMemory r h → KeepsModel r g h
  Kept : (m : List Literal) → r ≡ end.Satisfiable →
      ((s : State) → Represents g.solver s → IsCompletable s.naming s.clauses s.assumptions s.counted m) →
      IsSetOfModel (model_of_all g m) h → h ≡ record g { model = h.model } → KeepsModel r g h

-- The core is kept that the solver returns, or memory ran out.
pub data KeepsCore (r : SearchEnd) (g h : Client) : Type 0 where
  Refused : RunsOutOfMemory r h → KeepsCore r g h
  Kept : (core : List Literal) → r ≡ end.Unsatisfiable →
      ((s : State) → Represents g.solver s →
      AreNamesInUse s.naming core × IsFailedCore s.clauses s.assumptions (map (through_names s.naming) core)) →
      IsSetOfCore core h → h ≡ record g { core = h.core } → KeepsCore r g h
