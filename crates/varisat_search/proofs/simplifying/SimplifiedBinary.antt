-- The clauses of two literals are simplified, and then those of the store.
use Rattle.std.proofs.Common.{◌≡◌, ℕ, suc, Bool, true, false, not, Option, List, [], ◌∷◌, ◌++◌, map, cond, ⊎_elim, refl, sym, ap, ◌∙◌, subst, length}
use Rattle.std.specs.List.{filter}
use Rattle.varisat_theory.specs.promises.Membership.{◌∈◌}
use Rattle.varisat_theory.specs.promises.Literals.{Literal, Clause}
use Rattle.varisat_theory.specs.promises.Propagation.{IsComplete}
use Rattle.varisat_theory.specs.promises.Derivations.{Line, Delete}
use Rattle.varisat_theory.specs.inside.Outcomes.{Proves}
use Rattle.varisat_theory.proofs.clauses.Members.{∈-append_left, ∈-append_right, ∈-append_cases}
use Rattle.varisat_clause.specs.Stored.{literals_of}
use Rattle.varisat_clause.specs.Databases.{Tracks}
use Rattle.varisat_prop.specs.View.{View, pairs_from, kept, literal_at, IsReason, WellFormed, PropagatedBeforeDecisions}
use Rattle.varisat_prop.specs.Simplified.{is_unassigned, are_unassigned, unassigned_implied, unassigned_from, without_assigned}
use Rattle.varisat_prop.specs.Watches.{Watches, IsPropagated}
use Rattle.varisat_prop.proofs.views.WellFormedChanges.{kept-may, well-kept}
use Rattle.varisat_prop.proofs.pairs.SimplifiedPairs.{∈-filter, unassigned-length, implied-left, pairs-left, pairs-unassigned}
use Rattle.varisat_prop.proofs.views.SimplifiedView.{HasUnits, settled-undecided}
use Rattle.varisat_analysis.specs.HeaderChanges.{kept_clause}
use Rattle.varisat_search.specs.declared.context.Context.{Context}
use Rattle.varisat_search.specs.Contexts.{view, IsReady}
use Rattle.varisat_search.specs.Decisions.{CanDecide, SameDecidable}
use Rattle.varisat_search.specs.Seen.{kept_pair, search_of}
use Rattle.varisat_search.specs.RootSimplified.{CanSimplify}
use Rattle.varisat_search.specs.Simplifications.{IsSimplified, left_long, left_pairs, with_pairs, lines_of_pairs, pair_lines, clause_lines}
use Rattle.varisat_search.proofs.stepping.ReadyAfter.{KeepsValues, keeps-values, exchanged-ready}
use Rattle.varisat_search.proofs.simplifying.SimplifiedSearch.{IsAtUnits, pairs-prove, simplify-proves}

-- 1. What is left once, is left again.

filter-again : {X : Type 0} (p : X → Bool) (xs : List X) → filter p (filter p xs) ≡ filter p xs
filter-again p [] = refl
filter-again {X = X} p (x ∷ xs) = go (p x) refl (filter-again p xs)
  where
    go : (b : Bool) → p x ≡ b → filter p (filter p xs) ≡ filter p xs →
        filter p (cond b (x ∷ filter p xs) (filter p xs)) ≡ cond b (x ∷ filter p xs) (filter p xs)
    go true e r = ap (λ (c : Bool). cond c (x ∷ filter p (filter p xs)) (filter p (filter p xs))) e ∙ ap (λ (ys : List X). x ∷ ys) r
    go false e r = r

-- none is left of the others
filter-none : {X : Type 0} (p : X → Bool) (xs : List X) → filter (λ x. not (p x)) (filter p xs) ≡ []
filter-none p [] = refl
filter-none {X = X} p (x ∷ xs) = go (p x) refl (filter-none p xs)
  where
    go : (b : Bool) → p x ≡ b → filter (λ x. not (p x)) (filter p xs) ≡ [] → filter (λ x. not (p x)) (cond b (x ∷ filter p xs) (filter p xs)) ≡ []
    go true e r = ap (λ (c : Bool). cond (not c) (x ∷ filter (λ x. not (p x)) (filter p xs)) (filter (λ x. not (p x)) (filter p xs))) e ∙ r
    go false e r = r

implied-again : (values : List (Option Bool)) (l : Literal) (ms : List Literal) →
    unassigned_implied values l (unassigned_implied values l ms) ≡ unassigned_implied values l ms
implied-again values l ms = go (is_unassigned values l)
  where
    go : (b : Bool) → cond b (filter (is_unassigned values) (cond b (filter (is_unassigned values) ms) [])) [] ≡ cond b (filter (is_unassigned values) ms) []
    go true = filter-again (is_unassigned values) ms
    go false = refl

from-again : (values : List (Option Bool)) (k : ℕ) (B : List (List Literal)) →
    unassigned_from values k (unassigned_from values k B) ≡ unassigned_from values k B
from-again values k [] = refl
from-again values k (ms ∷ B) = let a = implied-again values k ms in let b = from-again values (suc k) B in cc

pub left-again : (values : List (Option Bool)) (B : List (List Literal)) → without_assigned values (without_assigned values B) ≡ without_assigned values B
left-again values B = from-again values 0 B

-- where nothing goes there is no line
pub no-pair-lines : (values : List (Option Bool)) (B : List (List Literal)) → without_assigned values B ≡ B → lines_of_pairs values (pairs_from 0 B) ≡ []
no-pair-lines values B e =
    ap (λ (cs : List Clause). map Delete (filter (λ c. not (are_unassigned values c)) cs))
    (ap (λ (D : List (List Literal)). pairs_from 0 D) (sym e) ∙ pairs-left values B)
    ∙ ap (λ (cs : List Clause). map Delete cs) (filter-none (are_unassigned values) (pairs_from 0 B))

module _ (s : View) (left_already : without_assigned s.values s.binary ≡ s.binary) where
  -- the clauses of the store alone
  pub stored-prove : (u : IsAtUnits s) → Proves 0 (search_of s)
      (record (search_of s) {
        kept = map kept_clause (left_long s.values s.clauses) ++ map kept_pair
            (pairs_from 0 (with_pairs (without_assigned s.values s.binary) (left_pairs s.values s.clauses)));
      }) (clause_lines s)
  stored-prove u = subst (λ (ls : List Line). Proves 0 (search_of s)
      (record (search_of s) {
        kept = map kept_clause (left_long s.values s.clauses) ++ map kept_pair
            (pairs_from 0 (with_pairs (without_assigned s.values s.binary) (left_pairs s.values s.clauses)));
      }) (ls ++ clause_lines s))
      (no-pair-lines s.values s.binary left_already) (simplify-proves s u)

  pub without-pair-lines : (t : View) → Proves 0 (search_of s) (search_of t) (pair_lines s ++ clause_lines s) →
      Proves 0 (search_of s) (search_of t) (clause_lines s)
  without-pair-lines t p = subst (λ (ls : List Line). Proves 0 (search_of s) (search_of t) (ls ++ clause_lines s))
      (no-pair-lines s.values s.binary left_already) p

-- 2. The view with the clauses of two literals that are left.
module _ (s : View) (w : WellFormed s) (none : s.decisions ≡ []) (units : HasUnits s) where
  abbrev B : List (List Literal)
  B = without_assigned s.values s.binary

  abbrev pub left : View
  left = record s { binary = B }

  pub left-fewer : (c : Clause) → c ∈ kept left → c ∈ kept s
  left-fewer c h =
      ⊎_elim
      (λ i. ∈-append_left c (literals_of s.clauses) (pairs_from 0 s.binary) i)
      (λ i. ∈-append_right c (literals_of s.clauses) (pairs_from 0 s.binary)
      (∈-filter (are_unassigned s.values) (pairs_from 0 s.binary) c (subst (λ x. c ∈ x) (pairs-left s.values s.binary) i)).0)
      (∈-append_cases c (literals_of s.clauses) (pairs_from 0 B) h)

  pub left-well : WellFormed left
  left-well =
      let p = pairs-unassigned s w in
      well-kept s s.clauses B s.queue_head w
      (record {
        places = w.places;
        each = λ c h. let k = kept-may s w c (left-fewer c h) in record { in_range = k.in_range; several = k.several; distinct = k.distinct };
        back = p.back;
        other = p.other;
        head = w.head;
        reasons = λ k h. subst (IsReason left k) (sym (units k h)) (subst (IsReason s k) (units k h) (w.reason_is k h));
      })

  pub left-propagated : (W : Watches) → IsPropagated W s → IsPropagated W left
  left-propagated W p = record {
    lists = p.lists;
    watching = p.watching;
    empty = p.empty;
    settled = p.settled;
    binary = unassigned-length s.values 0 s.binary ∙ p.binary;
    implied = λ m q h i. p.implied m q h (implied-left s.values s.binary (literal_at s q) m i).0;
    queue = p.queue;
  }

  pub left-complete : IsComplete (kept s) s.trail → IsComplete (kept left) s.trail
  left-complete d = record {
    no_false = λ (c, h, f). d.no_false (c, left-fewer c h, f);
    closed = λ c l h. d.closed c l (left-fewer c h);
  }

-- 3. The context with them.
pub record SimplifiesBinary {A : Type 0} (x z : Context A) : Type 0 where
  pub can : CanSimplify x
  pub binary : z.binary_clauses ≡ without_assigned x.assignment.current x.binary_clauses
  pub rest : z ≡ record x { binary_clauses = z.binary_clauses }

module _ {A : Type 0} {x z : Context A} (d : SimplifiesBinary x z) where
  abbrev s : View
  s = view x

  abbrev t : View
  t = left s d.can.ready.well d.can.undecided d.can.proved

  binary-view : view z ≡ t
  binary-view = ap (λ (y : Context A). view y) d.rest ∙ ap (λ (B : List (List Literal)). record s { binary = B }) d.binary

  can-decide : CanDecide t x.vsids
  can-decide = record {
    entries = record { activity = d.can.ready.decidable.entries.activity; available = d.can.ready.decidable.entries.available };
    decidable = λ c h. d.can.ready.decidable.decidable c (left-fewer s d.can.ready.well d.can.undecided d.can.proved c h);
  }

  pub binary-ready : IsReady z
  binary-ready =
      exchanged-ready x z d.can.ready (subst (KeepsValues x) (sym d.rest) (keeps-values x (record x { binary_clauses = z.binary_clauses }) refl))
      (subst WellFormed (sym binary-view) (left-well s d.can.ready.well d.can.undecided d.can.proved))
      (subst PropagatedBeforeDecisions (sym binary-view) (settled-undecided t d.can.undecided))
      (subst (λ (y : View). IsPropagated z.watchlists y) (sym binary-view)
      (subst (λ W. IsPropagated W t) (sym (ap (λ (y : Context A). y.watchlists) d.rest))
      (left-propagated s d.can.ready.well d.can.undecided d.can.proved x.watchlists d.can.ready.propagated)))
      (subst (λ (y : Context A). Tracks y.clause_db y.clause_alloc) (sym d.rest) d.can.ready.tracks)
      (subst (λ (y : View). CanDecide y x.vsids) (sym binary-view) can-decide)

  pub binary-proves : IsAtUnits s → Proves 0 (search_of (view x)) (search_of (view z)) (pair_lines (view x))
  binary-proves u = subst (λ (y : View). Proves 0 (search_of s) (search_of y) (pair_lines s)) (sym binary-view) (pairs-prove s u)

  pub binary-can : CanSimplify z
  binary-can = record {
    ready = binary-ready;
    undecided = ap (λ (y : Context A). y.trail.decisions) d.rest ∙ d.can.undecided;
    complete = subst (λ (y : View). IsComplete (kept y) y.trail) (sym binary-view)
        (left-complete s d.can.ready.well d.can.undecided d.can.proved d.can.complete);
    propagated = ap (λ (y : Context A). y.trail.queue_head) d.rest ∙ d.can.propagated ∙ sym (ap (λ (y : Context A). length y.trail.literals) d.rest);
    proved = subst HasUnits (sym binary-view) d.can.proved;
  }

  pub binary-left : without_assigned z.assignment.current z.binary_clauses ≡ z.binary_clauses
  binary-left =
      ap (λ (y : Context A). without_assigned y.assignment.current z.binary_clauses) d.rest
      ∙ ap (without_assigned x.assignment.current) d.binary
      ∙ left-again x.assignment.current x.binary_clauses
      ∙ sym d.binary

  pub binary-lines : clause_lines (view z) ≡ clause_lines (view x)
  binary-lines = ap clause_lines binary-view

  -- the store's clauses are simplified after that
  module _ (y : Context A) where
    pub all-simplified : IsSimplified (view z) (view y) → IsSimplified (view x) (view y)
    all-simplified i =
        let j = subst (λ (q : View). IsSimplified q (view y)) binary-view i in
        record {
          clauses = j.clauses;
          binary = j.binary ∙ ap (λ (D : List (List Literal)). with_pairs D (left_pairs s.values s.clauses)) (left-again s.values s.binary);
          rest = j.rest;
          unassigned = j.unassigned;
        }

    pub all-decidable : SameDecidable (view z) z.vsids (view y) y.vsids → SameDecidable (view x) x.vsids (view y) y.vsids
    all-decidable i =
        subst (λ a. SameDecidable s a (view y) y.vsids) (ap (λ (q : Context A). q.vsids) d.rest)
        (subst (λ (q : Context A). SameDecidable (view q) z.vsids (view y) y.vsids) d.rest i)
