-- The lines of clauses that are simplified, one clause after another.
use Rattle.std.proofs.Common.{◌≡◌, ℕ, Bool, true, false, cond, List, [], ◌∷◌, ◌++◌, get_or, refl, sym, ap, ◌∙◌, zero, suc, ◌<◌, length, inl, inr, subst, arith, ◌+◌, ◌≤◌, not, ◌&&◌, nat_lt, Option, map, ⊎_elim}
use Rattle.std.specs.Prelude.{flat_map}
use Rattle.varisat_theory.specs.promises.Literals.{Literal, variable_of, Clause, opposite}
use Rattle.varisat_theory.specs.promises.Derivations.{Line, Add, Delete}
use Rattle.varisat_theory.specs.inside.StepLaws.{unit_lines}
use Rattle.varisat_prop.specs.declared.prop.graph.ImplNode.{ImplNode}
use Rattle.varisat_prop.specs.declared.prop.graph.Reason.{Reason}
use Rattle.varisat_prop.specs.View.{no_node, is_clause, pairs_with, pairs_from}
use Rattle.varisat_search.specs.ProvedUnits.{units_in}
use Rattle.varisat_theory.specs.promises.Membership.{◌∈◌}
use Rattle.varisat_clause.specs.Stored.{StoredClause, no_clause, stored_at, literals_of}
use Rattle.varisat_clause.specs.Stores.{Store, stored_clauses}
use Rattle.varisat_clause.specs.Collected.{live_of}
use Rattle.varisat_clause.proofs.CollectedClauses.{clause-of-index, length-places}
use Rattle.varisat_clause.proofs.StoredClauses.{literals-∈}
use Rattle.varisat_clause.proofs.LiveStore.{∈-live}
use Rattle.std.specs.List.{filter, list_all}
use Rattle.std.proofs.lemmas.Bool.{cases_Bool}
use Rattle.std.proofs.lemmas.List.{get_or_default}
use Rattle.varisat_prop.specs.Simplified.{is_unassigned, are_unassigned}
use Rattle.varisat_search.specs.Simplifications.{has_true, unassigned, is_gone_pair, lines_of_pairs, lines_of_clause, lines_of_clauses}
use Rattle.varisat_search.proofs.simplifying.FilteredUnits.{filter-short}
use Rattle.varisat_search.proofs.simplifying.UnassignedLiterals.{left-all}
use Rattle.varisat_prop.specs.declared.prop.graph.Reason.TheVariants as reason

-- The lines of units, one for each literal that a clause implied.

-- a line where a clause implied the literal
abbrev pub unit_line : List ImplNode → Literal → List Line
unit_line ns l = cond (is_clause (get_or ns (variable_of l) no_node).reason) (Add (l ∷ []) ∷ []) []

pub line-none : (ns : List ImplNode) (l : Literal) (v : ℕ) (r : Reason) → r ≡ (get_or ns v no_node).reason → v ≡ variable_of l → r ≡ reason.Unit →
    unit_line ns l ≡ []
line-none ns l v r e f u = ap (λ b. cond b (Add (l ∷ []) ∷ []) []) (ap (λ w. is_clause (get_or ns w no_node).reason) (sym f) ∙ ap is_clause (sym e ∙ u))

pub line-one : (ns : List ImplNode) (l : Literal) (v : ℕ) (r : Reason) → r ≡ (get_or ns v no_node).reason → v ≡ variable_of l →
    (r ≡ reason.Unit → ⊥) → unit_line ns l ≡ Add (l ∷ []) ∷ []
line-one ns l v r e f u = ap (λ b. cond b (Add (l ∷ []) ∷ []) []) (ap (λ w. is_clause (get_or ns w no_node).reason) (sym f) ∙ ap is_clause (sym e) ∙ is-one r u)
  where
    is-one : (r : Reason) → (r ≡ reason.Unit → ⊥) → is_clause r ≡ true
    is-one reason.Unit u = absurd (u refl)
    is-one (reason.Binary ms) u = refl
    is-one (reason.Long p) u = refl

pub each-unit : (ns : List ImplNode) (ls : List Literal) → unit_lines (units_in ns ls) ≡ flat_map (unit_line ns) ls
each-unit ns [] = refl
each-unit ns (l ∷ ls) = go (is_clause (get_or ns (variable_of l) no_node).reason) (each-unit ns ls)
  where
    go : (b : Bool) → unit_lines (units_in ns ls) ≡ flat_map (unit_line ns) ls →
        unit_lines (cond b (l ∷ units_in ns ls) (units_in ns ls)) ≡ cond b (Add (l ∷ []) ∷ []) [] ++ flat_map (unit_line ns) ls
    go true e = ap (λ xs. Add (l ∷ []) ∷ xs) e
    go false e = e

-- the clause at the place of an index is that of the index
pub place-read : (s : Store) (i p : ℕ) → i < length s.places → p ≡ get_or s.places i 0 → (i < length (stored_clauses s))
    × (stored_at (stored_clauses s) p ≡ get_or (stored_clauses s) i (stored_at (stored_clauses s) p))
place-read s i p h e =
    let n = length-places s.words s.places in
    let a : i < length (stored_clauses s) = omega (arith, n, h) in
    (a, sym (clause-of-index s i p h e) ∙ get_or_default (stored_clauses s) i no_clause (stored_at (stored_clauses s) p) a)

pub live-literals-∈ : (ks : List StoredClause) (k : StoredClause) → k ∈ ks → k.header.deleted ≡ false → k.literals ∈ literals_of (live_of ks)
live-literals-∈ ks k h e = literals-∈ (live_of ks) k (∈-live ks k h e)

-- 1. One clause.

-- a filter that leaves as many elements holds of all
filter-all-of : (p : ℕ → Bool) (xs : List ℕ) → length xs ≤ length (filter p xs) → list_all p xs ≡ true
filter-all-of p [] h = refl
filter-all-of p (x ∷ xs) h = go (p x) h (filter-all-of p xs) (filter-short p xs)
  where
    go : (b : Bool) → length (x ∷ xs) ≤ length (cond b (x ∷ filter p xs) (filter p xs)) →
        (length xs ≤ length (filter p xs) → list_all p xs ≡ true) → length (filter p xs) ≤ length xs → (b && list_all p xs) ≡ true
    go true h r s = r (omega (arith, h))
    go false h r s = absurd (omega (arith, h, s))

module _ (values : List (Option Bool)) (c : Clause) where
  pub lines-satisfied : has_true values c ≡ true → lines_of_clause values c ≡ Delete c ∷ []
  lines-satisfied e = ap (λ b. cond b (Delete c ∷ []) (cond (are_unassigned values c) [] (Add (unassigned values c) ∷ Delete c ∷ []))) e

  pub lines-shorter : has_true values c ≡ false → length (unassigned values c) < length c → lines_of_clause values c ≡ Add (unassigned values c) ∷ Delete c ∷ []
  lines-shorter e h =
      let all : are_unassigned values c ≡ false =
      ⊎_elim
      (λ t. let n = ap (λ (d : Clause). length d) (left-all values c t) in absurd (omega (arith, h, n)))
      (λ f. f)
      (cases_Bool (are_unassigned values c)) in
      ap (λ b. cond b (Delete c ∷ []) (cond (are_unassigned values c) [] (Add (unassigned values c) ∷ Delete c ∷ []))) e
      ∙ ap (λ b. cond b [] (Add (unassigned values c) ∷ Delete c ∷ [])) all

  pub lines-same : has_true values c ≡ false → length c ≤ length (unassigned values c) → lines_of_clause values c ≡ []
  lines-same e h =
      ap (λ b. cond b (Delete c ∷ []) (cond (are_unassigned values c) [] (Add (unassigned values c) ∷ Delete c ∷ []))) e
      ∙ ap (λ b. cond b [] (Add (unassigned values c) ∷ Delete c ∷ [])) (filter-all-of (is_unassigned values) c h)

-- 2. The stored clauses.

-- the lines of a clause that may be deleted
abbrev pub stored_lines : List (Option Bool) → StoredClause → List Line
stored_lines values k = cond k.header.deleted [] (lines_of_clause values k.literals)

pub each-clause : (values : List (Option Bool)) (ks : List StoredClause) → lines_of_clauses values (live_of ks) ≡ flat_map (stored_lines values) ks
each-clause values [] = refl
each-clause values (k ∷ ks) = go k.header.deleted (each-clause values ks)
  where
    go : (b : Bool) → lines_of_clauses values (live_of ks) ≡ flat_map (stored_lines values) ks →
        lines_of_clauses values (cond b (live_of ks) (k ∷ live_of ks)) ≡ cond b [] (lines_of_clause values k.literals) ++ flat_map (stored_lines values) ks
    go true e = e
    go false e = ap (λ ls. lines_of_clause values k.literals ++ ls) e

-- 3. The clauses of two literals.

module _ (values : List (Option Bool)) where
  -- the line of the clause that two literals make, where the first comes first
  abbrev pub pair_line : Literal → Literal → List Line
  pair_line x m = cond (is_gone_pair values x m) (Delete (x ∷ m ∷ []) ∷ []) []

  and-true : (a b : Bool) → (a && (b && true)) ≡ (a && b)
  and-true true true = refl
  and-true true false = refl
  and-true false b = refl

  pub each-pair : (x : Literal) (ms : List Literal) → lines_of_pairs values (pairs_with x ms) ≡ flat_map (pair_line x) ms
  each-pair x [] = refl
  each-pair x (m ∷ ms) = go (nat_lt x m) (each-pair x ms)
    where
      inner : (a : Bool) → (d : Bool) → a ≡ d → lines_of_pairs values (pairs_with x ms) ≡ flat_map (pair_line x) ms →
          map Delete (cond (not a) ((x ∷ m ∷ []) ∷ filter (λ c. not (are_unassigned values c)) (pairs_with x ms))
          (filter (λ c. not (are_unassigned values c)) (pairs_with x ms))) ≡ cond (not d) (Delete (x ∷ m ∷ []) ∷ []) [] ++ flat_map (pair_line x) ms
      inner true true f e = e
      inner false false f e = ap (λ ls. Delete (x ∷ m ∷ []) ∷ ls) e
      inner true false f e = absurd cc
      inner false true f e = absurd cc

      go : (b : Bool) → lines_of_pairs values (pairs_with x ms) ≡ flat_map (pair_line x) ms →
          lines_of_pairs values (cond b ((x ∷ m ∷ []) ∷ pairs_with x ms) (pairs_with x ms)) ≡ cond
          (b && not (is_unassigned values x && is_unassigned values m)) (Delete (x ∷ m ∷ []) ∷ []) [] ++ flat_map (pair_line x) ms
      go true e = inner (are_unassigned values (x ∷ m ∷ [])) (is_unassigned values x && is_unassigned values m)
          (and-true (is_unassigned values x) (is_unassigned values m)) e
      go false e = e

  -- the lines of those that a literal implies
  abbrev pub list_lines : ℕ × List Literal → List Line
  list_lines p = lines_of_pairs values (pairs_with (opposite p.0) p.1)

  -- the literals from l on with what they imply
  abbrev pub numbered : Literal → List (List Literal) → List (ℕ × List Literal)
  numbered l [] = []
  numbered l (ms ∷ B) = (l, ms) ∷ numbered (suc l) B

  pub lines-append : (cs ds : List Clause) → lines_of_pairs values (cs ++ ds) ≡ lines_of_pairs values cs ++ lines_of_pairs values ds
  lines-append [] ds = refl
  lines-append (c ∷ cs) ds = go (are_unassigned values c) (lines-append cs ds)
    where
      go : (a : Bool) → lines_of_pairs values (cs ++ ds) ≡ lines_of_pairs values cs ++ lines_of_pairs values ds →
          map Delete (cond (not a) (c ∷ filter (λ d. not (are_unassigned values d)) (cs ++ ds))
          (filter (λ d. not (are_unassigned values d)) (cs ++ ds))) ≡ map Delete
          (cond (not a) (c ∷ filter (λ d. not (are_unassigned values d)) cs)
          (filter (λ d. not (are_unassigned values d)) cs)) ++ lines_of_pairs values ds
      go true e = e
      go false e = ap (λ ls. Delete c ∷ ls) e

  pub each-list : (l : Literal) (B : List (List Literal)) → lines_of_pairs values (pairs_from l B) ≡ flat_map list_lines (numbered l B)
  each-list l [] = refl
  each-list l (ms ∷ B) = lines-append (pairs_with (opposite l) ms) (pairs_from (suc l) B)
      ∙ ap (λ ls. lines_of_pairs values (pairs_with (opposite l) ms) ++ ls) (each-list (suc l) B)

  pub numbered-count : (l : Literal) (B : List (List Literal)) → length (numbered l B) ≡ length B
  numbered-count l [] = refl
  numbered-count l (ms ∷ B) = ap suc (numbered-count (suc l) B)

  numbered-from : (l : Literal) (B : List (List Literal)) (k : ℕ) (p : ℕ × List Literal) → k < length B → get_or (numbered l B) k p ≡ (l + k, get_or B k [])
  numbered-from l [] k p h = absurd (omega (arith, h))
  numbered-from l (ms ∷ B) zero p h = ap (λ n. (n, ms)) (omega arith)
  numbered-from l (ms ∷ B) (suc k) p h = numbered-from (suc l) B k p (omega (arith, h)) ∙ ap (λ n. (n, get_or B k [])) (omega arith)

  pub numbered-at : (B : List (List Literal)) (k : ℕ) (p : ℕ × List Literal) → k < length B → get_or (numbered 0 B) k p ≡ (k, get_or B k [])
  numbered-at B k p h = numbered-from 0 B k p h ∙ ap (λ n. (n, get_or B k [])) (omega arith)
