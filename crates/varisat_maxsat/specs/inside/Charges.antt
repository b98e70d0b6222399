-- What literals cost, and how a problem is brought down to such costs.
use Rattle.std.specs.Prelude.{◌≡◌, ℕ, ◌+◌, ◌*◌, ◌<◌, ◌≤◌, ◌↔◌, Bool, true, if◌then◌else◌, List, [], ◌∷◌, take, length, slice_index_or}
use Rattle.varisat_theory.specs.promises.Membership.{◌∈◌}
use Rattle.varisat_theory.specs.promises.Literals.{Literal, Clause, Assignment, variable_of, opposite, value, Satisfies, SatisfiesAll}
use Rattle.varisat_formula.specs.promises.Values.{assignment_of}
use Rattle.varisat_maxsat.specs.promises.Problems.{Soft, cost}
use Rattle.varisat_maxsat.specs.declared.charge.Charge.{Charge}
use Rattle.varisat_maxsat.specs.declared.counter.Counter.{Counter}

-- the sum of the weights of the literals that are true
abbrev pub charged : Assignment → List Charge → ℕ
charged a [] = 0
charged a (c ∷ cs) = (if value a c.literal then c.weight else 0) + charged a cs

-- the weight where the literal is true
abbrev pub due : Assignment → Literal → ℕ → ℕ
due a l w = if value a l then w else 0

-- the weight once for each literal that is true
abbrev pub weighed : Assignment → ℕ → List Literal → ℕ
weighed a w [] = 0
weighed a w (l ∷ ls) = (if value a l then w else 0) + weighed a w ls

-- the assignments are the same below the count
abbrev pub AgreeBelow : ℕ → Assignment → Assignment → Type 0
AgreeBelow n a b = (v : ℕ) → v < n → b v ≡ a v

-- the literals' variables are below the count
abbrev pub LiteralsAreBelow : ℕ → List Literal → Type 0
LiteralsAreBelow n ls = (l : Literal) → l ∈ ls → variable_of l < n

abbrev pub ChargesAreBelow : ℕ → List Charge → Type 0
ChargesAreBelow n cs = (c : Charge) → c ∈ cs → variable_of c.literal < n

abbrev pub ClausesAreBelow : ℕ → List Clause → Type 0
ClausesAreBelow n P = (c : Clause) → c ∈ P → LiteralsAreBelow n c

abbrev pub SoftAreBelow : ℕ → List Soft → Type 0
SoftAreBelow n S = (s : Soft) → s ∈ S → LiteralsAreBelow n s.clause

-- The weight was taken from the charges. What is left of them stands behind those that are kept, and their literals are
-- pending.
pub record TakesWeight (w : ℕ) (charges kept after : List Charge) (pending : List Literal) : Type 0 where
  pub same : (a : Assignment) → charged a kept + charged a charges ≡ charged a after + weighed a w pending
  pub below : (n : ℕ) → ChargesAreBelow n charges → ChargesAreBelow n kept → ChargesAreBelow n after
  pub pending_below : (n : ℕ) → ChargesAreBelow n charges → LiteralsAreBelow n pending
  pub all : (c : Charge) → c ∈ charges → c.literal ∈ pending

-- A charge was put behind others, or its weight is 0.
pub record PutsCharge (l : Literal) (w : ℕ) (before after : List Charge) : Type 0 where
  pub same : (a : Assignment) → charged a after ≡ charged a before + due a l w
  pub below : (n : ℕ) → variable_of l < n → ChargesAreBelow n before → ChargesAreBelow n after

-- Charges were put behind others, and the rest is left: what is charged in all stays the same.
pub record Divides (charges kept after rest : List Charge) : Type 0 where
  pub same : (a : Assignment) → charged a kept + charged a charges ≡ charged a after + charged a rest
  pub below : (n : ℕ) → ChargesAreBelow n charges → ChargesAreBelow n kept → ChargesAreBelow n after
  pub rest_below : (n : ℕ) → ChargesAreBelow n charges → ChargesAreBelow n rest

-- Other charges, and an amount that is due in any case, are in place of charges.
pub record Exchanges (charges : List Charge) (amount : ℕ) (after : List Charge) : Type 0 where
  pub same : (a : Assignment) → charged a charges ≡ amount + charged a after
  pub below : (n : ℕ) → ChargesAreBelow n charges → ChargesAreBelow n after

-- Of the charges some are left, and the others were given up.
pub record AreParted (charges left given_up : List Charge) : Type 0 where
  pub same : (a : Assignment) → charged a charges ≡ charged a left + charged a given_up
  pub left_below : (n : ℕ) → ChargesAreBelow n charges → ChargesAreBelow n left
  pub given_up_below : (n : ℕ) → ChargesAreBelow n charges → ChargesAreBelow n given_up

-- The charges of a core, and the others.
pub record IsSplit (core : List Literal) (charges kept failed : List Charge) : Type 0 where
  pub same : (a : Assignment) → charged a charges ≡ charged a kept + charged a failed
  pub below : (n : ℕ) → ChargesAreBelow n charges → ChargesAreBelow n kept
  pub failed_below : (n : ℕ) → ChargesAreBelow n charges → ChargesAreBelow n failed
  pub all : (c : Charge) → c ∈ charges → opposite c.literal ∈ core → c ∈ failed

-- The problem was brought down to clauses, charges, and literals with a weight each. Its variables are those below n,
-- and new ones are those from there to m. What satisfies the hard clauses goes on to the new variables at no more than
-- its cost; and what satisfies the new clauses satisfies the hard ones, and costs no more than it is charged.
pub record Reduces (H : List Clause) (S : List Soft) (n m : ℕ) (P : List Clause) (charges : List Charge)
    (pending : List Literal) (w bound : ℕ) : Type 0 where
  pub named : n ≤ m
  pub hard_below : ClausesAreBelow n H
  pub soft_below : SoftAreBelow n S
  pub clauses_below : ClausesAreBelow m P
  pub charges_below : ChargesAreBelow m charges
  pub pending_below : LiteralsAreBelow m pending
  pub lower : (a : Assignment) → SatisfiesAll a H →
      (b : Assignment) × AgreeBelow n a b × SatisfiesAll b P
      × (bound + charged b charges + weighed b w pending ≤ cost a S)
  pub upper : (a : Assignment) → SatisfiesAll a P →
      SatisfiesAll a H × (cost a S ≤ bound + charged a charges + weighed a w pending)

-- The counter's literal is true where the charges from its first on, up to its end, cost at least so much, and only
-- there. What they cost is what those up to the end cost, less those before the first.
abbrev pub Counts : Assignment → List Charge → Counter → Type 0
Counts a cs k =
    (value a k.literal ≡ true) ↔ (k.at_least + charged a (take k.first cs) ≤ charged a (take k.end cs))

-- The counter counts one charge, by its own literal.
pub record CountsCharge (cs : List Charge) (k : Counter) : Type 0 where
  pub charge : Charge
  pub room : k.first < length cs
  pub is : charge ≡ slice_index_or cs k.first charge
  pub weight : 0 < charge.weight
  pub same : k
      ≡ record { literal = charge.literal; at_least = charge.weight; first = k.first; end = k.first + 1 }

abbrev pub CountersAreBelow : ℕ → List Counter → Type 0
CountersAreBelow n ks = (k : Counter) → k ∈ ks → variable_of k.literal < n

-- The problem was brought down to clauses and counters of charges. Its variables are those below n, and new ones are
-- those from there to m. What satisfies the hard clauses and costs less than the ceiling goes on to the new variables:
-- it satisfies the new clauses, costs no less than the bound and what it is charged, and each counter counts. And what
-- satisfies the new clauses satisfies the hard ones. What costs as much as the ceiling need not go on.
pub record ReducesBelow (H : List Clause) (S : List Soft) (n m : ℕ) (P : List Clause) (charges : List Charge)
    (counters : List Counter) (bound ceiling : ℕ) : Type 0 where
  pub named : n ≤ m
  pub hard_below : ClausesAreBelow n H
  pub clauses_below : ClausesAreBelow m P
  pub charges_below : ChargesAreBelow m charges
  pub counters_below : CountersAreBelow m counters
  pub lower : (a : Assignment) → SatisfiesAll a H → cost a S < ceiling →
      (b : Assignment) × AgreeBelow n a b × SatisfiesAll b P × (bound + charged b charges ≤ cost a S)
      × ((k : Counter) → k ∈ counters → Counts b charges k)
  pub upper : (a : Assignment) → SatisfiesAll a P → SatisfiesAll a H

-- The opposites of the charges' literals are assumed, at least of those whose weight is no less than the threshold.
pub record AreAssumed (threshold : ℕ) (charges : List Charge) (assumed : List Literal) : Type 0 where
  pub from : (l : Literal) → l ∈ assumed → (c : Charge) × (c ∈ charges) × (l ≡ opposite c.literal)
  pub all : (c : Charge) → c ∈ charges → threshold ≤ c.weight → opposite c.literal ∈ assumed

-- the values of the variables below the count in the model
pub record AreValues (count : ℕ) (model : List Literal) (values : List Bool) : Type 0 where
  pub each : length values ≡ count
  pub read : (v : ℕ) → v < count → (assignment_of values v ≡ true) ↔ (2 * v ∈ model)

-- a literal is true of the list that is pending
abbrev pub IsPending : List Clause → List Literal → Type 0
IsPending P pending = (a : Assignment) → SatisfiesAll a P → Satisfies a pending
