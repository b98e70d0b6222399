-- The search after a simplification: it is well formed, and lines lead to it.
use Rattle.std.proofs.Common.{◌≡◌, ◌<◌, ◌≤◌, ◌*◌, Bool, true, false, not, ◌&&◌, Option, List, [], ◌∷◌, ◌++◌, length, map, inl, inr, ⊎_elim, refl, sym, ap, ◌∙◌, subst, arith}
use Rattle.std.specs.Prelude.{nat_le}
use Rattle.std.specs.List.{filter}
use Rattle.std.proofs.lemmas.List.{append-nil}
use Rattle.std.proofs.lemmas.Bool.{not-true, and_parts, leb-true}
use Rattle.varisat_theory.specs.promises.Membership.{◌∈◌, IsDistinct}
use Rattle.varisat_theory.specs.promises.Literals.{Literal, Clause, opposite, variable_of}
use Rattle.varisat_theory.specs.promises.Propagation.{IsComplete}
use Rattle.varisat_theory.specs.promises.Searches.{Search}
use Rattle.varisat_theory.specs.inside.Outcomes.{Proves}
use Rattle.varisat_theory.proofs.clauses.Members.{∈-append_right, ∈-append_cases}
use Rattle.varisat_theory.proofs.clauses.Held.{same_clauses_find, same_clauses-back}
use Rattle.varisat_theory.proofs.steps.StepParts.{parts_join}
use Rattle.varisat_clause.specs.Stored.{StoredClause, literals_of, AreRising}
use Rattle.varisat_clause.proofs.StoredClauses.{from-literals, literals-∈}
use Rattle.varisat_prop.specs.Pairs.{with_pair}
use Rattle.varisat_prop.specs.Simplified.{is_unassigned, are_unassigned, without_assigned}
use Rattle.varisat_prop.specs.View.{View, IsTrueIn, pairs_from, kept, node_of, WellFormed}
use Rattle.varisat_prop.specs.Watches.{literal_in}
use Rattle.varisat_prop.proofs.watching.LongVisited.{listed}
use Rattle.varisat_prop.proofs.pairs.SimplifiedPairs.{UnassignedPairs, ∈-filter, each-unassigned, unassigned-length, pairs-left, pairs-unassigned, pairs-joined}
use Rattle.varisat_prop.proofs.views.SimplifiedClauses.{leaves-two, pair-satisfied}
use Rattle.varisat_prop.proofs.views.SimplifiedView.{AreUnassigned, HasUnits, simplified, well-simplified, kept-unassigned}
use Rattle.varisat_prop.proofs.trails.TrailValues.{on-trail, trail-true}
use Rattle.varisat_prop.proofs.views.WellFormedChanges.{MayBeKept, stored-kept}
use Rattle.varisat_analysis.specs.HeaderChanges.{kept_clause}
use Rattle.varisat_search.specs.Seen.{kept_pair, search_of, IsProved}
use Rattle.varisat_search.specs.Simplifications.{has_true, unassigned, shortened_to, stays_long, becomes_pair, left_long, left_pairs, with_pairs, pair_lines, clause_lines, IsPairIn, IsLeftOpen}
use Rattle.varisat_analysis.proofs.DeletedPlaces.{filter-rising}
use Rattle.varisat_search.proofs.loading.LoadView.{no-decision}
use Rattle.varisat_search.proofs.stepping.ViewSearch.{fixed_to, proved_to}
use Rattle.varisat_search.proofs.simplifying.UnassignedLiterals.{none-true, left-part, left-unassigned, filter-distinct, below}
use Rattle.varisat_search.proofs.simplifying.FilteredUnits.{two-elements}
use Rattle.varisat_search.proofs.simplifying.SimplifiedLines.{HasProved, left_each, pairs-go, each-left}
use Rattle.varisat_search.proofs.simplifying.SimplifiedKept.{longer-pair, joined-count, pairs-same, mixed-prove}

pub from-map : {X : Type 0} (f : StoredClause → X) (ks : List StoredClause) (x : X) → x ∈ map f ks → (k : StoredClause) × (k ∈ ks) × (x ≡ f k)
from-map f [] x h = absurd h
from-map f (k ∷ ks) x (inl e) = (k, inl refl, e)
from-map f (k ∷ ks) x (inr h) = let (j, i, e) = from-map f ks x h in (j, inr i, e)

map-rising : (f : StoredClause → StoredClause) → ((k : StoredClause) → (f k).place ≡ k.place) → (ks : List StoredClause) → AreRising ks → AreRising (map f ks)
map-rising f same [] r = tt
map-rising f same (k ∷ ks) r = (
  (λ j h. let (x, i, e) = from-map f ks j h in let a = r.0 x i in let b = same k in let c = ap (λ (y : StoredClause). y.place) e ∙ same x in
      omega (arith, a, b, c)),
  map-rising f same ks r.1,
)

-- 1. The clauses that are left.
module _ (values : List (Option Bool)) (ks : List StoredClause) where
  long-origin : (c : Clause) → c ∈ literals_of (left_long values ks) → (k : StoredClause) × (k ∈ ks) × (c ≡ unassigned values k.literals)
      × (3 ≤ length (unassigned values k.literals))
  long-origin c h =
      let (j, i, e) = from-literals (left_long values ks) c h in
      let (k, o, q) = from-map (λ k. shortened_to (unassigned values k.literals) k) (filter (λ k. stays_long values k.literals) ks) j i in
      let (a, b) = ∈-filter (λ k. stays_long values k.literals) ks k o in
      let (x, y) = and_parts (not (has_true values k.literals)) (nat_le 3 (length (unassigned values k.literals))) b in
      (k, a, sym e ∙ ap (λ (z : StoredClause). z.literals) q, leb-true 3 (length (unassigned values k.literals)) y)

  pair-origin : (c : Clause) → c ∈ left_pairs values ks → (k : StoredClause) × (k ∈ ks) × (c ≡ unassigned values k.literals)
      × (has_true values k.literals ≡ false) × (length (unassigned values k.literals) < 3)
  pair-origin c h =
      let (k, o, q) = from-map (λ k. unassigned values k.literals) (filter (λ k. becomes_pair values k.literals) ks) c h in
      let (a, b) = ∈-filter (λ k. becomes_pair values k.literals) ks k o in
      let (x, y) = and_parts (not (has_true values k.literals)) (not (nat_le 3 (length (unassigned values k.literals)))) b in (
        k,
        a,
        q,
        not-true (has_true values k.literals) x,
        below 3 (length (unassigned values k.literals))
            (not-true (nat_le 3 (length (unassigned values k.literals))) y),
      )

-- pairs without a value join such
all-joined : (values : List (Option Bool)) (C : List (List Literal)) (cs : List Clause) → ((c : Clause) → c ∈ cs → IsPairIn C c) →
    ((c : Clause) → c ∈ cs → (l : Literal) → l ∈ c → (variable_of l < length values) × (is_unassigned values l ≡ true)) → UnassignedPairs values C →
    UnassignedPairs values (with_pairs C cs)
all-joined values C [] f g u = u
all-joined values C (c ∷ cs) f g u =
    let q = f c (inl refl) in
    let first : literal_in c 0 ∈ c = subst (λ d. literal_in c 0 ∈ d) (sym q.is) (inl refl) in
    let second : literal_in c 1 ∈ c = subst (λ d. literal_in c 1 ∈ d) (sym q.is) (inr (inl refl)) in
    let (i, e) = g c (inl refl) (literal_in c 0) first in
    let (j, d) = g c (inl refl) (literal_in c 1) second in
    all-joined values (with_pair C (literal_in c 0) (literal_in c 1)) cs
    (λ x h. longer-pair C (with_pair C (literal_in c 0) (literal_in c 1)) x (joined-count C c q) (f x (inr h)))
    (λ x h. g x (inr h))
    (pairs-joined values C (literal_in c 0) (literal_in c 1) q.first q.second q.other u i j e d)

-- 2. At level 0, after complete propagation, where each literal of the trail is a unit.
pub record IsAtUnits (s : View) : Type 0 where
  pub well : WellFormed s
  pub done : IsComplete (kept s) s.trail
  pub undecided : s.decisions ≡ []
  pub units : HasUnits s
  pub lists : length s.binary ≡ 2 * length s.values
  pub long : (k : StoredClause) → k ∈ s.clauses → 3 ≤ length k.literals

module _ (s : View) (u : IsAtUnits s) where
  abbrev values : List (Option Bool)
  values = s.values

  abbrev B : List (List Literal)
  B = without_assigned s.values s.binary

  abbrev P : List StoredClause
  P = left_long s.values s.clauses

  abbrev ps : List Clause
  ps = left_pairs s.values s.clauses

  abbrev C : List (List Literal)
  C = with_pairs B ps

  -- a clause is satisfied, or two literals of it have no value
  pub stored-open : (k : StoredClause) → k ∈ s.clauses → IsLeftOpen values k.literals
  stored-open k h =
      let c = stored-kept s k.literals (literals-∈ s.clauses k h) in
      record {
        in_range = u.well.in_range k.literals c;
        two = λ e. leaves-two s u.well u.done k.literals c (λ l i t. none-true values k.literals e l i (trail-true s u.well l t));
      }

  B-count : length B ≡ length s.binary
  B-count = unassigned-length values 0 s.binary

  pub pairs-in : (c : Clause) → c ∈ ps → IsPairIn B c
  pairs-in c h =
      let (k, i, e, n, m) = pair-origin values s.clauses c h in
      let o = (stored-open k i).two n in
      let two = two-elements (unassigned values k.literals) (omega (arith, o, m)) in
      let d = filter-distinct (is_unassigned values) k.literals (u.well.distinct k.literals (stored-kept s k.literals (literals-∈ s.clauses k i))) in
      subst (IsPairIn B) (sym e) (pair-of (unassigned values k.literals) two d
      (λ l j. u.well.in_range k.literals (stored-kept s k.literals (literals-∈ s.clauses k i)) l (left-part values k.literals l j)))
    where
      inside : (l : Literal) → variable_of l < length s.values → opposite l < length B
      inside l h = let i = listed l (length s.values) h in let a = B-count in let b = u.lists in omega (arith, i, a, b)

      pair-of : (c : Clause) → (literal_in c 0 ∷ literal_in c 1 ∷ []) ≡ c → IsDistinct c →
          ((l : Literal) → l ∈ c → variable_of l < length s.values) → IsPairIn B c
      pair-of c e d r = record {
        is = sym e;
        first = inside (literal_in c 0) (r (literal_in c 0) (subst (λ x. literal_in c 0 ∈ x) e (inl refl)));
        second = inside (literal_in c 1) (r (literal_in c 1) (subst (λ x. literal_in c 1 ∈ x) e (inr (inl refl))));
        other = λ f. (subst IsDistinct (sym e) d).0 (inl f);
      }

  pairs-open : (c : Clause) → c ∈ ps → (l : Literal) → l ∈ c → (variable_of l < length values) × (is_unassigned values l ≡ true)
  pairs-open c h l i =
      let (k, o, e, n, m) = pair-origin values s.clauses c h in
      let j = subst (λ x. l ∈ x) e i in (
        u.well.in_range k.literals (stored-kept s k.literals (literals-∈ s.clauses k o)) l
            (left-part values k.literals l j),
        left-unassigned values k.literals l j,
      )

  long-may : (c : Clause) → c ∈ literals_of P → MayBeKept s c
  long-may c h =
      let (k, i, e, n) = long-origin values s.clauses c h in
      let o = stored-kept s k.literals (literals-∈ s.clauses k i) in
      subst (MayBeKept s) (sym e) (record {
        in_range = λ l j. u.well.in_range k.literals o l (left-part values k.literals l j);
        several = omega (arith, n);
        distinct = filter-distinct (is_unassigned values) k.literals (u.well.distinct k.literals o);
      })

  pub are-unassigned : AreUnassigned s P C
  are-unassigned = record {
    places = map-rising (λ k. shortened_to (unassigned values k.literals) k) (λ k. refl) (filter (λ k. stays_long values k.literals) s.clauses)
        (filter-rising (λ k. stays_long values k.literals) s.clauses u.well.places);
    clauses = long-may;
    unassigned = λ c h. let (k, i, e, n) = long-origin values s.clauses c h in
        each-unassigned values c (λ l j. left-unassigned values k.literals l (subst (λ x. l ∈ x) e j));
    pairs = all-joined values B ps pairs-in pairs-open (pairs-unassigned s u.well);
  }

  pub still-well : WellFormed (simplified s P C are-unassigned)
  still-well = well-simplified s P C are-unassigned u.well u.units u.undecided

  -- no kept clause names a variable with a value
  pub still-free : (c : Clause) → c ∈ kept (simplified s P C are-unassigned) → (l : Literal) → l ∈ c → is_unassigned values l ≡ true
  still-free c h l i = kept-unassigned s P C are-unassigned c h l i

  pub C-count : length C ≡ length s.binary
  C-count = all-count B ps pairs-in ∙ B-count
    where
      all-count : (D : List (List Literal)) (cs : List Clause) → ((c : Clause) → c ∈ cs → IsPairIn D c) → length (with_pairs D cs) ≡ length D
      all-count D [] f = refl
      all-count D (c ∷ cs) f =
          let n = joined-count D c (f c (inl refl)) in
          all-count (with_pair D (literal_in c 0) (literal_in c 1)) cs
          (λ x h. longer-pair D (with_pair D (literal_in c 0) (literal_in c 1)) x n (f x (inr h))) ∙ n

  -- 3. The lines.
  true-proved : (l : Literal) → IsTrueIn s l → IsProved s l
  true-proved l h =
      let (k, a, e) = u.well.stands l h in
      (on-trail s u.well l h, no-decision s u.well u.undecided l h, ap (λ x. (node_of s x).reason) (sym e) ∙ u.units k a)

  abbrev S : Search
  S = search_of s

  has-proved : HasProved values S
  has-proved = record {
    fixed = λ l h. fixed_to s u.well l (h, no-decision s u.well u.undecided l h);
    proved = λ l h. proved_to s u.well l (true-proved l h);
  }

  abbrev Q : List Clause
  Q = filter (are_unassigned s.values) (pairs_from 0 s.binary)

  -- the satisfied clauses of two literals go
  pairs-first : Proves 0 S (record S { kept = map kept_clause s.clauses ++ map kept_pair Q }) (pair_lines s)
  pairs-first = pairs-go (are_unassigned s.values) S (map kept_clause s.clauses) (pairs_from 0 s.binary) refl (λ c i e.
      let (l, j, t) = pair-satisfied s u.well u.done c i e in
      (l, j, has-proved.fixed l (trail-true s u.well l t)))

  pub pairs-prove : Proves 0 (search_of s) (record (search_of s) { kept = map kept_clause s.clauses ++ map kept_pair (pairs_from 0 B) }) (pair_lines s)
  pairs-prove = subst (λ (cs : List Clause). Proves 0 S (record S { kept = map kept_clause s.clauses ++ map kept_pair cs }) (pair_lines s))
      (sym (pairs-left s.values s.binary)) pairs-first

  pub simplify-proves : Proves 0 (search_of s) (record (search_of s) { kept = map kept_clause P ++ map kept_pair (pairs_from 0 C) })
      (pair_lines s ++ clause_lines s)
  simplify-proves =
      let S1 = record S { kept = map kept_clause s.clauses ++ map kept_pair Q } in
      let S2 = record S { kept = left_each s.values s.clauses ++ map kept_pair Q } in
      let S3 = record S { kept = map kept_clause P ++ map kept_pair (pairs_from 0 C) } in
      let first : Proves 0 S S1 (pair_lines s) = pairs-first in
      let second : Proves 0 S1 S2 (clause_lines s) = each-left s.values S1 [] s.clauses (map kept_pair Q) refl
      (record { fixed = has-proved.fixed; proved = has-proved.proved }) u.long in
      let third : Proves 0 S2 S3 [] =
      subst (λ (cs : List Clause). Proves 0 (record S { kept = left_each s.values s.clauses ++ map kept_pair cs }) S3 [])
      (pairs-left s.values s.binary) (mixed-prove s.values s.clauses B pairs-in S) in
      let all : Proves 0 S S3 (pair_lines s ++ (clause_lines s ++ [])) =
      parts_join 0 0 S S1 S3 (pair_lines s) (clause_lines s ++ []) first (parts_join 0 0 S1 S2 S3 (clause_lines s) [] second third) in
      subst (λ ls. Proves 0 S S3 (pair_lines s ++ ls)) (append-nil (clause_lines s)) all

  -- each literal that is kept was kept before
  pub literal-kept : (c : Clause) → c ∈ kept (simplified s P C are-unassigned) → (l : Literal) → l ∈ c → (d : Clause) × (d ∈ kept s) × (l ∈ d)
  literal-kept c h l i =
      ⊎_elim
      (λ j.
      let (k, o, e, n) = long-origin values s.clauses c j in
      (k.literals, stored-kept s k.literals (literals-∈ s.clauses k o), left-part values k.literals l (subst (λ x. l ∈ x) e i)))
      (λ j.
      let (d, o, q) = same_clauses_find (pairs_from 0 C) (ps ++ pairs_from 0 B)
      (same_clauses-back (ps ++ pairs_from 0 B) (pairs_from 0 C) (pairs-same B ps pairs-in)) c j in
      ⊎_elim
      (λ a. let (k, b, e, n, m) = pair-origin values s.clauses d a in
      (k.literals, stored-kept s k.literals (literals-∈ s.clauses k b), left-part values k.literals l (subst (λ x. l ∈ x) e (q.1 l i))))
      (λ a. (
        d,
        ∈-append_right d (literals_of s.clauses) (pairs_from 0 s.binary)
            (∈-filter (are_unassigned s.values) (pairs_from 0 s.binary) d (subst (λ x. d ∈ x) (pairs-left s.values s.binary) a)).0,
        q.1 l i,
      ))
      (∈-append_cases d ps (pairs_from 0 B) o))
      (∈-append_cases c (literals_of P) (pairs_from 0 C) h)
