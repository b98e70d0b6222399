-- One clause has its literals in another order.
use Rattle.std.proofs.Common.{◌≡◌, ℕ, ◌<◌, ◌≤◌, List, [], ◌∷◌, length, ◌⊎◌, inl, inr, ⊎_elim, sym, ap, ◌∙◌, subst, refl, arith}
use Rattle.varisat_theory.specs.promises.Membership.{◌∈◌, IsDistinct}
use Rattle.varisat_theory.specs.promises.Literals.{Literal, Clause, variable_of}
use Rattle.varisat_prop.specs.declared.prop.graph.Reason.TheVariants as reason
use Rattle.varisat_clause.specs.Stored.{StoredClause, literals_of, IsClauseRef, with_literals, AreReordered}
use Rattle.varisat_theory.proofs.clauses.Members.{∈-append_left, ∈-append_right, ∈-append_cases}
use Rattle.varisat_prop.specs.View.{View, pairs_from, kept, IsTrueIn, clause_at, node_at, Implies, IsReason, WellFormed, ViewFits, GrowsTrail}
use Rattle.varisat_prop.specs.Looks.{Propagates}
use Rattle.varisat_prop.specs.Watches.{literal_in, IsRearranged}
use Rattle.varisat_clause.proofs.StoredClauses.{same-trans, reordered-old, reordered-new, reordered-place, reordered-rising, with-reordered, with-other, with-cases, with-own}
use Rattle.varisat_prop.proofs.trails.PropagateSteps.{propagates-refl}
use Rattle.varisat_prop.proofs.views.ViewGrowth.{grows-reordered}
use Rattle.varisat_prop.proofs.views.WellFormedChanges.{well-with, stored-kept, kept-here}

pub fits-reordered : (s : View) (P : List StoredClause) (held : List Clause) → AreReordered s.clauses P → ViewFits held s →
    ViewFits held (record s { clauses = P })
fits-reordered s P held a f = record {
  stored = λ c i. ⊎_elim
      (λ o. let (d, j, e) = reordered-old s.clauses P a c o in let (h, k, g) = f.stored d (stored-kept s d j) in (h, k, same-trans h d c g (e.1, e.0)))
      (λ o. f.stored c (∈-append_right c (literals_of s.clauses) (pairs_from 0 s.binary) o))
      (∈-append_cases c (literals_of P) (pairs_from 0 s.binary) i);
  units = f.units;
  covered = λ c i. ⊎_elim (λ (d, j, k). ⊎_elim
      (λ o. let (e, l, g) = reordered-new s.clauses P a d o in inl (e, ∈-append_left e (literals_of P) (pairs_from 0 s.binary) l, λ m q. k m (g.0 m q)))
      (λ o. inl (d, ∈-append_right d (literals_of P) (pairs_from 0 s.binary) o, k))
      (∈-append_cases d (literals_of s.clauses) (pairs_from 0 s.binary) j)) inr (f.covered c i);
}

abbrev pub reordered : View → ℕ → Clause → View
reordered s i d = record s { clauses = with_literals s.clauses i d }

-- a clause whose first literal isn't true is no reason
pub unused : (s : View) (i : ℕ) → WellFormed s → (IsTrueIn s (literal_in (clause_at s i) 0) → ⊥) → (k : ℕ) → k < length s.trail →
    (node_at s k).reason ≡ reason.Long i → ⊥
unused s i w n k h e = let r : IsReason s k (reason.Long i) = subst (IsReason s k) e (w.reason_is k h) in n (first-true (clause_at s i) r.1)
  where
    first-true : (d : Clause) → Implies s d k → IsTrueIn s (literal_in d 0)
    first-true [] m = absurd m
    first-true (x ∷ d) (e, m) = subst (IsTrueIn s) (sym e) (w.is_true k h)

module _ (s : View) (i : ℕ) (d : Clause) (w : WellFormed s) (a : IsClauseRef s.clauses i) (r : IsRearranged (clause_at s i) d)
    (n : (k : ℕ) → k < length s.trail → (node_at s k).reason ≡ reason.Long i → ⊥) where
  abbrev u : View
  u = reordered s i d

  clause-in : clause_at s i ∈ kept s
  clause-in = kept-here s i a

  -- what holds of the old clauses and of the new one holds of all
  each : (Q : Clause → Type 0) → ((c : Clause) → c ∈ kept s → Q c) → Q d → (c : Clause) → c ∈ literals_of u.clauses → Q c
  each Q old new c h = ⊎_elim (λ e. subst Q (sym e) new) (λ o. old c (stored-kept s c o)) (with-cases s.clauses i d c h)

  are-reordered : AreReordered s.clauses u.clauses
  are-reordered = with-reordered s.clauses i d r.same

  changed-well : WellFormed u
  changed-well =
      well-with s u.clauses s.queue_head w (record {
        places = reordered-rising s.clauses u.clauses are-reordered w.places;
        in_range = each (λ c. (l : Literal) → l ∈ c → variable_of l < length s.values) w.in_range
            (λ l h. w.in_range (clause_at s i) clause-in l (r.same.0 l h));
        several = each (λ c. 2 ≤ length c) w.several (let m = r.long in let o = w.several (clause_at s i) clause-in in omega (arith, m, o));
        distinct = each IsDistinct w.distinct (r.distinct (w.distinct (clause_at s i) clause-in));
        reasons = λ k j h e m. (reordered-place s.clauses u.clauses j are-reordered m, with-other s.clauses i j d (λ q. n k h (e ∙ ap reason.Long q)));
      }) w.head

  changed-grows : GrowsTrail s u
  changed-grows = grows-reordered s u.clauses are-reordered (λ held f. fits-reordered s u.clauses held are-reordered f)

  pub changed-unused : Propagates s u
  changed-unused = record { well = changed-well; grows = changed-grows; decisions = refl }

-- a clause changes its order only where its first literal isn't true
pub changed : (s : View) (i : ℕ) (d : Clause) → WellFormed s → IsClauseRef s.clauses i → IsRearranged (clause_at s i) d → (d ≡ clause_at s i)
    ⊎ (IsTrueIn s (literal_in (clause_at s i) 0) → ⊥) → Propagates s (reordered s i d)
changed s i d w a r o =
    ⊎_elim
    (λ e. let f : with_literals s.clauses i d ≡ s.clauses = ap (λ x. with_literals s.clauses i x) e ∙ with-own s.clauses i in
    subst (λ x. Propagates s (record s { clauses = x })) (sym f) (propagates-refl s w))
    (λ n. changed-unused s i d w a r (unused s i w n))
    o
