-- What a conflict that is learned from does to activities, and where the learned clause is stored.
use Rattle.std.specs.Prelude.{◌≡◌, ℕ, zero, suc, ◌<◌, List, length}
use Rattle.varisat_theory.specs.promises.Derivations.{Line}
use Rattle.varisat_prop.specs.declared.prop.graph.Reason.{Reason}
use Rattle.varisat_prop.specs.declared.prop.graph.Conflict.{Conflict}
use Rattle.varisat_prop.specs.View.{View}
use Rattle.varisat_clause.specs.Stores.{Store}
use Rattle.varisat_analysis.specs.Learned.{Analysis, AreInvolved}
use Rattle.varisat_analysis.specs.Bumps.{literals_among, AreVariablesAbove, BumpsInvolved}
use Rattle.varisat_analysis.specs.Assessments.{glue_of, assessed, BumpsClauses}
use Rattle.varisat_vsids.specs.Activities.{Activities, decayed}
use Rattle.varisat_search.specs.declared.context.Context.{Context}
use Rattle.varisat_search.specs.Contexts.{view, IsNotUnsat}
use Rattle.varisat_search.specs.Conflicts.{IsStoredAsReason}
use Rattle.varisat_search.specs.Progress.{IsStepFurther}
use Rattle.varisat_search.specs.RootSimplified.{KeepsFixed}
use Rattle.varisat_search.specs.Steps.{SavesSome}

-- analysis met each variable above level 0 of the clauses that it went over, once
abbrev pub HasMet : View → Analysis → Type 0
HasMet s x = AreVariablesAbove s.nodes (literals_among s.clauses x.involved) x.met

-- activities after so many decays
abbrev pub decayed_further : ℕ → Activities → Activities
decayed_further zero a = a
decayed_further (suc k) a = decayed (decayed_further k a)

-- The variables of the named clauses are bumped, and activities decay: once where the setting is 0, and else once or more.
abbrev pub BumpsAndDecays : ℕ → View → List Conflict → Activities → Activities → Type 0
BumpsAndDecays glue s names a c =
    (b : Activities) × (k : ℕ) × (glue ≡ 0 → k ≡ 0) × (c ≡ decayed_further k b) × BumpsInvolved s names a b

-- These variables are bumped, and activities decay. Which variables are available is left open.
abbrev pub BumpsVariables : {A : Type 0} → Context A → Context A → Type 0
BumpsVariables x y =
    (b : Activities)
    × BumpsAndDecays x.solver_config.restart_glue (view x) y.analyze_conflict.involved x.vsids b
    × (y.vsids ≡ record b { available = y.vsids.available })

-- the named clauses of the store are bumped by the levels at the conflict, and activities decay
abbrev pub BumpsStored : {A : Type 0} → List Conflict → Context A → Context A → Type 0
BumpsStored names x y =
    BumpsClauses x.impl_graph.nodes.items names x.clause_alloc y.clause_alloc x.clause_activity y.clause_activity

-- The clauses that analysis went over are bumped in the store, and then the learned one has the glue of the conflict, and its tier.
abbrev pub BumpsAndStores : {A : Type 0} → Context A → Context A → Type 0
BumpsAndStores x y =
    (s : Store)
    × BumpsClauses x.impl_graph.nodes.items y.analyze_conflict.involved x.clause_alloc s x.clause_activity y.clause_activity
    × ((r : Reason) × IsStoredAsReason s y.clause_alloc
    (assessed (glue_of x.impl_graph.nodes.items y.analyze_conflict.clause)) y.analyze_conflict.clause r)

-- The search learned from the conflict, by lines for which `are` holds. Above level 0 the variables and the clauses that the learned
-- one came from are bumped, and it is stored.
pub record LearnsFrom {A : Type 0} (are : List Line → Type 0) (conflict : Conflict) (x y : Context A) : Type 0 where
  pub further : IsStepFurther are x y
  pub involved : AreInvolved (view x) conflict y.analyze_conflict.involved
  pub bumps : 0 < length x.trail.decisions → BumpsVariables x y
  pub stored : 0 < length x.trail.decisions → BumpsAndStores x y
  -- what is remembered fits where it backtracked to
  pub last : SavesSome (view x) x.assignment.last y.assignment.last
  -- at level 0 the clauses are refuted; else its literals stay, or one is new
  pub fixed : IsNotUnsat y → (0 < length x.trail.decisions) × KeepsFixed (view x) (view y)
