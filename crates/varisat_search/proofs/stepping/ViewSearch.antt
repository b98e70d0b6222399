-- What is fixed and what is proved in a view, as `search_of` lists it.
use Rattle.std.proofs.Common.{◌≡◌, ℕ, Bool, map, true, false, ◌&&◌, not, nat_eq, List, [], ◌∷◌, ◌++◌, inl, inr, ⊎_elim, sym, ap, ◌∙◌, subst, refl, arith}
use Rattle.std.proofs.lemmas.Bool.{and_parts}
use Rattle.varisat_clause.specs.declared.header.Tier.TheVariants as tier
use Rattle.varisat_clause.specs.Tiers.{is_tier}
use Rattle.varisat_clause.specs.Headers.{Header}
use Rattle.varisat_theory.specs.promises.Membership.{◌∈◌, ◌⊆◌, SameSet}
use Rattle.varisat_theory.specs.promises.Literals.{Literal, Clause, opposite, IsUnit}
use Rattle.varisat_theory.specs.promises.Held.{SameClauses}
use Rattle.varisat_theory.specs.promises.Analysis.{Implied}
use Rattle.varisat_theory.proofs.clauses.Members.{∈-append_left, ∈-append_right, ∈-append_cases}
use Rattle.varisat_theory.proofs.clauses.Held.{same_clauses_find, same_clauses-back}
use Rattle.varisat_theory.proofs.clauses.Places.{∈-get_or}
use Rattle.varisat_theory.proofs.clauses.Values.{opposite_twice}
use Rattle.varisat_prop.specs.declared.prop.graph.Reason.{Reason}
use Rattle.varisat_prop.specs.declared.prop.graph.Reason.TheVariants as reason
use Rattle.varisat_clause.specs.Stored.{StoredClause, literals_of, AreReordered}
use Rattle.varisat_prop.specs.View.{View, pairs_from, kept, literal_at, node_of, level_of, WellFormed, IsFixed, ViewFits, is_clause}
use Rattle.varisat_prop.proofs.pairs.SimplifiedPairs.{filter-∈, ∈-filter}
use Rattle.varisat_prop.proofs.trails.TrailValues.{on-trail, trail-true}
use Rattle.varisat_analysis.proofs.WellFormedViews.{fixed-implied, level-opposite}
use Rattle.varisat_theory.specs.promises.Searches.{KeptClause, clauses_of, Fits, IsLiteralOf}
use Rattle.varisat_theory.specs.inside.Outcomes.{Proves}
use Rattle.varisat_theory.specs.inside.StepLaws.{IsGrounded}
use Rattle.varisat_theory.proofs.steps.SearchFits.{same_front, clause_from}
use Rattle.varisat_theory.proofs.steps.StepChanges.{moves_prove}
use Rattle.varisat_analysis.specs.HeaderChanges.{kept_clause}
use Rattle.varisat_analysis.specs.Learned.{IsOfKept}
use Rattle.varisat_search.specs.Seen.{kept_pair, is_fixed, is_proved, search_of, IsProved}

is_zero : (n : ℕ) → nat_eq n 0 ≡ true → n ≡ 0
is_zero n e = grind arith

zero_is : (n : ℕ) → n ≡ 0 → nat_eq n 0 ≡ true
zero_is n e = grind arith

pub no_clause : (r : Reason) → not (is_clause r) ≡ true → r ≡ reason.Unit
no_clause reason.Unit e = refl
no_clause (reason.Binary ms) e = absurd (let z : false ≡ true = e in cc)
no_clause (reason.Long i) e = absurd (let z : false ≡ true = e in cc)

module _ (s : View) (w : WellFormed s) where
  pub fixed_from : (l : Literal) → l ∈ (search_of s).fixed → IsFixed s l
  fixed_from l h = let (i, e) = ∈-filter (is_fixed s) s.trail l h in (trail-true s w l i, is_zero (level_of s l) e)

  pub fixed_to : (l : Literal) → IsFixed s l → l ∈ (search_of s).fixed
  fixed_to l (t, z) = filter-∈ (is_fixed s) s.trail l (on-trail s w l t) (zero_is (level_of s l) z)

  pub proved_from : (l : Literal) → l ∈ (search_of s).proved → IsProved s l
  proved_from l h =
      let (i, e) = ∈-filter (is_proved s) s.trail l h in
      let (a, b) = and_parts (nat_eq (level_of s l) 0) (not (is_clause (node_of s l).reason)) e in
      (i, is_zero (level_of s l) a, no_clause (node_of s l).reason b)

  pub proved_to : (l : Literal) → IsProved s l → l ∈ (search_of s).proved
  proved_to l (i, z, r) =
      filter-∈ (is_proved s) s.trail l i (ap (λ b. b && not (is_clause (node_of s l).reason)) (zero_is (level_of s l) z) ∙ ap (λ x. not (is_clause x)) r)

-- the headers aside
pub seen_pairs : (ps : List Clause) → clauses_of (map kept_pair ps) ≡ ps
seen_pairs [] = refl
seen_pairs (p ∷ ps) = ap (λ l. p ∷ l) (seen_pairs ps)

seen_both : (ks : List StoredClause) (ps : List Clause) → clauses_of (map kept_clause ks ++ map kept_pair ps) ≡ literals_of ks ++ ps
seen_both [] ps = seen_pairs ps
seen_both (k ∷ ks) ps = ap (λ l. k.literals ∷ l) (seen_both ks ps)

pub seen_clauses : (s : View) → clauses_of (search_of s).kept ≡ kept s
seen_clauses s = seen_both s.clauses (pairs_from 0 s.binary)

-- a literal of a kept clause is one of the search
pub of_search : (s : View) (l : Literal) → IsOfKept s l → IsLiteralOf (search_of s) l
of_search s l (c, h, i) =
    let (k, j, e) = clause_from (search_of s).kept c (subst (λ P. c ∈ P) (sym (seen_clauses s)) h) in
    inr (k, j, subst (λ d. l ∈ d) (sym e) i)

unit_same : (l : Literal) (c d : Clause) → SameSet c d → IsUnit l c → IsUnit l d
unit_same l c d q u = (q.0 l u.0, λ m h. u.1 m (q.1 m h))

pub view_reads : (s : View) (held : List Clause) → WellFormed s → Fits held (search_of s) → ViewFits held s
view_reads s held w f =
    let same : SameClauses held (kept s ++ f.others) = subst (λ P. SameClauses held (P ++ f.others)) (seen_clauses s) f.same in
    let back = same_clauses-back held (kept s ++ f.others) same in
    record {
      stored = λ c h. same_clauses_find (kept s ++ f.others) held back c (∈-append_left c (kept s) f.others h);
      units = λ k h a b.
          let (d, i, u) = f.units (literal_at s k) (proved_to s w (literal_at s k) (∈-get_or s.trail k 0 h, a, b)) in
          let (e, j, q) = same_clauses_find (kept s ++ f.others) held back d (∈-append_right d (kept s) f.others i) in
          (e, j, unit_same (literal_at s k) d e (q.1, q.0) u);
      covered = λ c h.
          let (d, i, q) = same_clauses_find held (kept s ++ f.others) same c h in
          ⊎_elim
          (λ a. inl (d, a, q.0))
          (λ a. inr (⊎_elim
          (λ (l, x, y). inl (l, q.0 l x, q.0 (opposite l) y))
          (λ (l, x, y). inr (l, q.0 l x, fixed_from s w l y))
          (f.settled d a)))
          (∈-append_cases d (kept s) f.others i);
    }

pub view_is_grounded : (s : View) → WellFormed s → IsGrounded (search_of s)
view_is_grounded s w held f l h =
    let (t, z) = fixed_from s w l h in
    let e = opposite_twice l in
    let on : opposite (opposite l) ∈ s.trail = subst (λ x. x ∈ s.trail) (sym e) (on-trail s w l t) in
    subst (λ x. Implied held [] x) e (fixed-implied s w held (view_reads s held w f) (opposite l) on (level-opposite s l ∙ z))

reordered_same : (P Q : List StoredClause) → AreReordered P Q → SameClauses (literals_of P) (literals_of Q)
reordered_same [] [] a = refl
reordered_same [] (q ∷ Q) a = absurd a
reordered_same (p ∷ P) [] a = absurd a
reordered_same (p ∷ P) (q ∷ Q) a =
    (literals_of Q, ([], q.literals, literals_of Q, refl, a.2, refl), reordered_same P Q a.3)

reordered_seen : (P Q : List StoredClause) → AreReordered P Q → (k : KeptClause) → k ∈ map kept_clause P → k.learned ≡ false → (j : KeptClause)
    × (j ∈ map kept_clause Q) × (j.learned ≡ false) × (j.clause ⊆ k.clause)
reordered_seen [] Q a k h e = absurd h
reordered_seen (p ∷ P) [] a k h e = absurd a
reordered_seen (p ∷ P) (q ∷ Q) a k (inl g) e = (
  kept_clause q,
  inl refl,
  ap (λ (h : Header). not (is_tier h.tier tier.Irred)) a.1 ∙ sym (ap (λ z. z.learned) g)
      ∙ e,
  λ x i. subst (λ z. x ∈ z.clause) (sym g) (a.2.0 x i),
)
reordered_seen (p ∷ P) (q ∷ Q) a k (inr h) e =
    let (j, i, f, u) = reordered_seen P Q a.3 k h e in (j, inr i, f, u)

-- what is kept in another order
pub kept_same : (s t : View) → AreReordered s.clauses t.clauses → t.binary ≡ s.binary → SameClauses (kept s) (kept t)
kept_same s t a b =
    subst (λ B. SameClauses (kept s) (literals_of t.clauses ++ pairs_from 0 B)) (sym b)
    (same_front (literals_of s.clauses) (literals_of t.clauses) (pairs_from 0 s.binary) (reordered_same s.clauses t.clauses a))

pub kept_seen : (s t : View) → AreReordered s.clauses t.clauses → t.binary ≡ s.binary → (k : KeptClause) → k ∈ (search_of s).kept →
    k.learned ≡ false → (j : KeptClause) × (j ∈ (search_of t).kept) × (j.learned ≡ false) × (j.clause ⊆ k.clause)
kept_seen s t a b k h e =
    ⊎_elim
    (λ i. let (j, o, f, u) = reordered_seen s.clauses t.clauses a k i e in
    (j, ∈-append_left j (map kept_clause t.clauses) (map kept_pair (pairs_from 0 t.binary)) o, f, u))
    (λ i. (
      k,
      ∈-append_right k (map kept_clause t.clauses) (map kept_pair (pairs_from 0 t.binary))
          (subst (λ B. k ∈ map kept_pair (pairs_from 0 B)) (sym b) i),
      e,
      λ l o. o,
    ))
    (∈-append_cases k (map kept_clause s.clauses) (map kept_pair (pairs_from 0 s.binary)) h)

pub view_moves : (s t : View) → WellFormed s → WellFormed t → AreReordered s.clauses t.clauses → t.binary ≡ s.binary →
    ((l : Literal) → IsFixed s l → IsFixed t l) → ((l : Literal) → IsProved t l → IsProved s l) →
    ((l : Literal) → IsFixed t l → IsLiteralOf (search_of s) l) → Proves 0 (search_of s) (search_of t) []
view_moves s t w v a b x p y =
    moves_prove (search_of s) (search_of t)
    (subst (λ P. SameClauses P (clauses_of (search_of t).kept)) (sym (seen_clauses s))
    (subst (SameClauses (kept s)) (sym (seen_clauses t)) (kept_same s t a b)))
    (kept_seen s t a b)
    (λ l h. fixed_to t v l (x l (fixed_from s w l h)))
    (λ l h. proved_to s w l (p l (proved_from t v l h)))
    (λ l h. y l (fixed_from t v l h))
