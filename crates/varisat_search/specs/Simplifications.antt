-- What becomes of the kept clauses once literals are true for good, and the lines that say so.
use Rattle.std.specs.Prelude.{◌≡◌, ◌≢◌, ℕ, ◌<◌, ◌≤◌, Bool, true, false, not, ◌&&◌, nat_le, nat_lt, if◌then◌else◌, Option, None, List, [], ◌∷◌, ◌++◌, length, map, slice_index_or, ◌⊎◌}
use Rattle.std.specs.List.{filter, list_any}
use Rattle.varisat_theory.specs.promises.Membership.{◌∈◌, ◌⊆◌}
use Rattle.varisat_theory.specs.promises.Literals.{Literal, Clause, variable_of, opposite}
use Rattle.varisat_theory.specs.promises.Derivations.{Line, Add, Delete}
use Rattle.varisat_clause.specs.Stored.{StoredClause, stored_at, with_stored}
use Rattle.varisat_clause.specs.Stores.{Store, stored_clauses, HoldsClauses}
use Rattle.varisat_clause.specs.Collected.{live_of}
use Rattle.varisat_prop.specs.Parts.{value_in, is_true_value}
use Rattle.varisat_prop.specs.Looks.{IsInRange}
use Rattle.varisat_prop.specs.Pairs.{with_pair}
use Rattle.varisat_prop.specs.View.{View, pairs_from, kept}
use Rattle.varisat_prop.specs.Watches.{literal_in}
use Rattle.varisat_prop.specs.Simplified.{is_unassigned, are_unassigned, without_assigned}

-- a literal of the clause is true
abbrev pub has_true : List (Option Bool) → Clause → Bool
has_true values c = list_any (λ l. is_true_value (value_in values l)) c

-- the clause without the literals that have a value
abbrev pub unassigned : List (Option Bool) → Clause → Clause
unassigned values c = filter (is_unassigned values) c

-- the stored clause with these literals
abbrev pub shortened_to : Clause → StoredClause → StoredClause
shortened_to c k = record { place = k.place; header = record k.header { len = length c }; literals = c }

-- the stored clauses, of which the one at the place has these literals
abbrev pub with_shortened : List StoredClause → ℕ → Clause → List StoredClause
with_shortened ks p c = with_stored ks p (shortened_to c (stored_at ks p))

-- no literal of the clause is true, and three or more have no value
abbrev pub stays_long : List (Option Bool) → Clause → Bool
stays_long values c = not (has_true values c) && nat_le 3 (length (unassigned values c))

-- no literal of the clause is true, and fewer have no value
abbrev pub becomes_pair : List (Option Bool) → Clause → Bool
becomes_pair values c = not (has_true values c) && not (nat_le 3 (length (unassigned values c)))

-- The clauses that stay in the store: each keeps its place and what is noted of it, and loses the literals that are
-- false.
abbrev pub left_long : List (Option Bool) → List StoredClause → List StoredClause
left_long values ks =
    map (λ k. shortened_to (unassigned values k.literals) k) (filter (λ k. stays_long values k.literals) ks)

-- the clauses of which two literals are left
abbrev pub left_pairs : List (Option Bool) → List StoredClause → List Clause
left_pairs values ks = map (λ k. unassigned values k.literals) (filter (λ k. becomes_pair values k.literals) ks)

-- the clauses of two literals are kept too
abbrev pub with_pairs : List (List Literal) → List Clause → List (List Literal)
with_pairs B [] = B
with_pairs B (c ∷ cs) = with_pairs (with_pair B (literal_in c 0) (literal_in c 1)) cs

-- Of the clauses of two literals those without assigned ones are kept. Of the others those without true literals are
-- kept, without the false ones; where two literals are left, as a clause of two literals.
pub record IsSimplified (s t : View) : Type 0 where
  pub clauses : t.clauses ≡ left_long s.values s.clauses
  pub binary : t.binary ≡ with_pairs (without_assigned s.values s.binary) (left_pairs s.values s.clauses)
  pub rest : t ≡ record s { clauses = t.clauses; binary = t.binary }
  pub unassigned : (c : Clause) → c ∈ kept t → (l : Literal) → l ∈ c →
      slice_index_or s.values (variable_of l) None ≡ None

-- the first literal comes before the other, and one of the two has a value
abbrev pub is_gone_pair : List (Option Bool) → Literal → Literal → Bool
is_gone_pair values l m = nat_lt l m && not (is_unassigned values l && is_unassigned values m)

-- each of the clauses that has a literal with a value is deleted
abbrev pub lines_of_pairs : List (Option Bool) → List Clause → List Line
lines_of_pairs values cs = map Delete (filter (λ c. not (are_unassigned values c)) cs)

-- each clause of two literals that has a literal with a value is deleted
abbrev pub pair_lines : View → List Line
pair_lines s = lines_of_pairs s.values (pairs_from 0 s.binary)

-- the first clause is replaced by the other one
abbrev pub lines_of_replaced : Clause → Clause → List Line
lines_of_replaced longer shorter = Add shorter ∷ Delete longer ∷ []

-- a clause with a true literal is deleted, and one with a false literal is replaced by what is left of it
abbrev pub lines_of_clause : List (Option Bool) → Clause → List Line
lines_of_clause values c =
    if has_true values c then Delete c ∷ []
    else (if are_unassigned values c then [] else lines_of_replaced c (unassigned values c))

-- what becomes of each of the clauses, in turn
abbrev pub lines_of_clauses : List (Option Bool) → List StoredClause → List Line
lines_of_clauses values [] = []
lines_of_clauses values (k ∷ ks) = lines_of_clause values k.literals ++ lines_of_clauses values ks

-- what becomes of each stored clause
abbrev pub clause_lines : View → List Line
clause_lines s = lines_of_clauses s.values s.clauses

-- The clause's literals are of known variables, and where none is true two or more have no value.
pub record IsLeftOpen (values : List (Option Bool)) (c : Clause) : Type 0 where
  pub in_range : IsInRange values c
  pub two : has_true values c ≡ false → 2 ≤ length (unassigned values c)

-- The clause at the place is replaced by c. Three literals or more stay there, and two join those that were gathered.
pub record ReplacesClause (c : Clause) (p : ℕ) (old new : Store) (before after : List Clause)
    (stays : Bool) : Type 0 where
  pub long : 3 ≤ length c → (stays ≡ true)
      × HoldsClauses new (length old.words) (with_shortened (stored_clauses old) p c) × (after ≡ before)
  pub pair : length c ≡ 2 → (stays ≡ false) × (new ≡ old) × (after ≡ before ++ c ∷ [])

-- What a filter leaves of the clause k, with j in its place, and of the pairs that it gathered.
pub record LeavesOpen (values : List (Option Bool)) (k j : StoredClause) (before after : List Clause) : Type 0 where
  pub long : live_of (j ∷ []) ≡ left_long values (k ∷ [])
  pub pairs : after ≡ before ++ left_pairs values (k ∷ [])

-- A filter notes, of a clause with a literal that has a value, the literals whose watch lists name it.
pub record NotesWatches (values : List (Option Bool)) (k : StoredClause) (before after : List Literal) : Type 0 where
  pub old : before ⊆ after
  pub noted : are_unassigned values k.literals ≡ false → (j : ℕ) → j < 2 → opposite (literal_in k.literals j) ∈ after
  pub only : (x : Literal) → x ∈ after → (x ∈ before) ⊎ ((l : Literal) × (l ∈ k.literals) × (x ≡ opposite l))

-- The clause has two different literals, for whose opposites there are lists.
pub record IsPairIn (B : List (List Literal)) (c : Clause) : Type 0 where
  pub is : c ≡ literal_in c 0 ∷ literal_in c 1 ∷ []
  pub first : opposite (literal_in c 0) < length B
  pub second : opposite (literal_in c 1) < length B
  pub other : literal_in c 0 ≢ literal_in c 1
