-- The plain view of a search: what its parts hold, as lists, and what is kept of it.
use Rattle.std.specs.Prelude.{◌≡◌, ◌≢◌, ℕ, suc, ◌<◌, ◌≤◌, Bool, true, false, ◌||◌, nat_eq, nat_lt, if◌then◌else◌, Option, List, [], ◌∷◌, ◌++◌, length, map, take, slice_index_or, ◌⊎◌}
use Rattle.varisat_theory.specs.promises.Membership.{◌∈◌, ◌⊆◌, SameSet, IsDistinct}
use Rattle.varisat_theory.specs.promises.Literals.{Literal, Clause, variable_of, opposite, IsUnit}
use Rattle.varisat_theory.specs.promises.Propagation.{IsComplete}
use Rattle.varisat_theory.specs.promises.Searches.{IsTautology}
use Rattle.varisat_clause.specs.Stored.{StoredClause, literals_of, literals_at, IsClauseRef, AreRising, AreReordered}
use Rattle.varisat_clause.specs.Stores.{Store, is_sound}
use Rattle.varisat_clause.specs.Collected.{live_clauses}
use Rattle.varisat_prop.specs.Parts.{Values, TrailParts, IsMadeTrue}
use Rattle.varisat_prop.specs.declared.prop.graph.Reason.{Reason}
use Rattle.varisat_prop.specs.declared.prop.graph.Reason.TheVariants as reason
use Rattle.varisat_prop.specs.declared.prop.graph.ImplNode.{ImplNode}
use Rattle.varisat_prop.specs.declared.prop.graph.ImplGraph.{ImplGraph}
use Rattle.varisat_literals.specs.promises.Numbers.{variable_limit}

-- What a search holds, without how it is found again.
pub record View : Type 0 where
  -- whether the store of clauses is sound
  pub sound : Bool
  -- the kept clauses of three literals or more, in the order of adding
  pub clauses : List StoredClause
  -- for each literal the ones that it implies by kept clauses of two literals
  pub binary : List (List Literal)
  -- for each variable its value, if it has one
  pub values : List (Option Bool)
  -- the true literals, oldest first
  pub trail : List Literal
  -- how many of them were propagated
  pub queue_head : ℕ
  -- for each decision, oldest first, its place on the trail
  pub decisions : List ℕ
  -- For each variable why, at which level and where it was assigned. It says nothing of variables without a value.
  pub nodes : List ImplNode

-- the view of these parts
abbrev pub view_of : {A : Type 0} → Store → List (List Literal) → Values → TrailParts → ImplGraph A → View
view_of store binary values trail graph =
    record {
      sound = is_sound store;
      clauses = live_clauses store;
      binary = binary;
      values = values.current;
      trail = trail.literals;
      queue_head = trail.queue_head;
      decisions = trail.decisions;
      nodes = graph.nodes.items;
    }

-- the literal is true
abbrev pub IsTrueIn : View → Literal → Type 0
IsTrueIn s l = IsMadeTrue s.values l

-- of the clauses that say that x is true or one of the list is, those in which x comes first
abbrev pub pairs_with : Literal → List Literal → List Clause
pairs_with x [] = []
pairs_with x (m ∷ ms) = if nat_lt x m then (x ∷ m ∷ []) ∷ pairs_with x ms else pairs_with x ms

-- the clauses of two literals, each once, by the literals from l on that imply others
abbrev pub pairs_from : Literal → List (List Literal) → List Clause
pairs_from l [] = []
pairs_from l (ms ∷ B) = pairs_with (opposite l) ms ++ pairs_from (suc l) B

-- what is kept: the literals of each clause
abbrev pub kept : View → List Clause
kept s = literals_of s.clauses ++ pairs_from 0 s.binary

-- what the literal implies by the kept clauses of two literals
abbrev pub implied_by : View → Literal → List Literal
implied_by s l = slice_index_or s.binary l []

-- the clause at the place, by which a reason or a conflict names it
abbrev pub clause_at : View → ℕ → Clause
clause_at s p = literals_at s.clauses p

-- the literal at the place of the trail
abbrev pub literal_at : View → ℕ → Literal
literal_at s k = slice_index_or s.trail k 0

-- the place of the decision that opens level j + 1
abbrev pub decision_at : View → ℕ → ℕ
decision_at s j = slice_index_or s.decisions j 0

-- the node of a variable that was never assigned
abbrev pub no_node : ImplNode
no_node = record { reason = reason.Unit; level = 0; depth = 0 }

-- the node of the literal's variable
abbrev pub node_of : View → Literal → ImplNode
node_of s l = slice_index_or s.nodes (variable_of l) no_node

-- the level of the literal's variable
abbrev pub level_of : View → Literal → ℕ
level_of s l = (node_of s l).level

-- the node of the literal at the place
abbrev pub node_at : View → ℕ → ImplNode
node_at s k = node_of s (literal_at s k)

-- the literal is on the trail before place k
abbrev pub IsOnTrailBefore : View → ℕ → Literal → Type 0
IsOnTrailBefore s k l = (j : ℕ) × (j < k) × (literal_at s j ≡ l)

-- The clause is a reason for the literal at place k: that is its first literal, and its others are false by literals before it.
abbrev pub Implies : View → Clause → ℕ → Type 0
Implies s [] k = ⊥
Implies s (l ∷ others) k = (l ≡ literal_at s k) × ((m : Literal) → m ∈ others → IsOnTrailBefore s k (opposite m))

-- Why the literal at place k may stand there. A reason Unit is a decision's, which is listed among the decisions, or that of a literal at level 0.
abbrev pub IsReason : View → ℕ → Reason → Type 0
IsReason s k reason.Unit = (k ∈ s.decisions) ⊎ ((node_at s k).level ≡ 0)
IsReason s k (reason.Binary ms) =
    (m : Literal) × (ms ≡ m ∷ []) × (literal_at s k ∈ implied_by s (opposite m)) × IsOnTrailBefore s k (opposite m)
IsReason s k (reason.Long p) = IsClauseRef s.clauses p × Implies s (clause_at s p) k

-- What keeps the code safe: the lists fit one another.
pub record WellFormed (s : View) : Type 0 where
  pub sound : s.sound ≡ true
  -- each variable has a node, and there are at most 2^28 variables
  pub nodes_are : length s.nodes ≡ length s.values
  pub small : length s.values ≤ variable_limit
  -- the places rise, so that each names its clause
  pub places : AreRising s.clauses
  -- a kept clause names known variables and has two literals or more, none of them twice
  pub in_range : (c : Clause) → c ∈ kept s → (l : Literal) → l ∈ c → variable_of l < length s.values
  pub several : (c : Clause) → c ∈ kept s → 2 ≤ length c
  pub distinct : (c : Clause) → c ∈ kept s → IsDistinct c
  -- a kept clause of two literals is one by each of them, and they are different
  pub binary_back : (l m : Literal) → m ∈ implied_by s l → opposite l ∈ implied_by s (opposite m)
  pub binary_other : (l m : Literal) → m ∈ implied_by s l → m ≢ opposite l
  -- exactly the literals of the trail are true
  pub is_true : (k : ℕ) → k < length s.trail → IsTrueIn s (literal_at s k)
  pub stands : (l : Literal) → IsTrueIn s l → IsOnTrailBefore s (length s.trail) l
  pub head : s.queue_head ≤ length s.trail
  -- a literal's depth gives its place, so that none stands twice
  pub depth_is : (k : ℕ) → k < length s.trail → (node_at s k).depth ≡ suc k
  -- the decisions stand on the trail, in rising order, each with reason Unit
  pub decided : (j : ℕ) → j < length s.decisions →
      (decision_at s j < length s.trail) × ((node_at s (decision_at s j)).reason ≡ reason.Unit)
  pub rising : (i j : ℕ) → i < j → j < length s.decisions → decision_at s i < decision_at s j
  -- the level of a place is the number of decisions up to it: it is at most j just before the decision that opens level j + 1
  pub levels_to : (k : ℕ) → k < length s.trail → (node_at s k).level ≤ length s.decisions
  pub levels_up : (k j : ℕ) → k < length s.trail → j < length s.decisions → (node_at s k).level ≤ j →
      k < decision_at s j
  pub levels_down : (k j : ℕ) → k < length s.trail → j < length s.decisions → k < decision_at s j →
      (node_at s k).level ≤ j
  -- each place has its reason
  pub reason_is : (k : ℕ) → k < length s.trail → IsReason s k (node_at s k).reason

-- As each level began, propagation had come to its end: no kept clause was false, and none had one literal left that wasn't true.
abbrev pub PropagatedBeforeDecisions : View → Type 0
PropagatedBeforeDecisions s = (j : ℕ) → j < length s.decisions → IsComplete (kept s) (take (decision_at s j) s.trail)

-- the literal is true at level 0
abbrev pub IsFixed : View → Literal → Type 0
IsFixed s l = IsTrueIn s l × (level_of s l ≡ 0)

-- What conflict analysis reads of the clauses that a proof holds, as sets.
pub record ViewFits (held : List Clause) (s : View) : Type 0 where
  -- each kept clause is held
  pub stored : (c : Clause) → c ∈ kept s → (d : Clause) × (d ∈ held) × SameSet d c
  -- a literal of level 0 without a clause as its reason is held as a unit clause
  pub units : (k : ℕ) → k < length s.trail → (node_at s k).level ≡ 0 → (node_at s k).reason ≡ reason.Unit →
      (d : Clause) × (d ∈ held)
      × IsUnit (literal_at s k) d
  -- a held clause that isn't kept, nor a part of it, says nothing more: it is a tautology, or a literal of it is true at level 0
  pub covered : (c : Clause) → c ∈ held →
      ((d : Clause) × (d ∈ kept s) × (d ⊆ c)) ⊎ (IsTautology c ⊎ ((l : Literal) × (l ∈ c) × IsFixed s l))

-- the reason is a clause
abbrev pub is_clause : Reason → Bool
is_clause reason.Unit = false
is_clause (reason.Binary ms) = true
is_clause (reason.Long i) = true

-- a literal is implied where a clause is its reason, or at level 0; else it was decided
abbrev pub is_implied : ImplNode → Bool
is_implied n = is_clause n.reason || nat_eq n.level 0

-- for each place of the trail whether its literal is implied, by which the trail's rank is counted
abbrev pub kinds : View → List Bool
kinds s = map (λ l. is_implied (node_of s l)) s.trail

-- The search went on without taking anything back, and added no clause.
pub record GrowsTrail (s t : View) : Type 0 where
  pub clauses : AreReordered s.clauses t.clauses
  pub binary : t.binary ≡ s.binary
  pub count : length t.values ≡ length s.values
  pub trail_more : (more : List Literal) × (t.trail ≡ s.trail ++ more)
  pub head : s.queue_head ≤ t.queue_head
  pub decisions_more : (more : List ℕ) × (t.decisions ≡ s.decisions ++ more)
  -- what was assigned keeps its reason, its level and its place
  pub nodes : (k : ℕ) → k < length s.trail → node_at t k ≡ node_at s k
  pub fits : (held : List Clause) → ViewFits held s → ViewFits held t
