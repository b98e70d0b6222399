-- What follows from the clauses that a proof holds once all decisions are taken as true.
use Rattle.std.proofs.Common.{◌≡◌, ℕ, zero, suc, ◌<◌, true, List, length, ⊎_elim, refl, sym, ap, ◌∙◌, subst, arith}
use Rattle.varisat_theory.specs.promises.Membership.{◌∈◌}
use Rattle.varisat_theory.specs.promises.Literals.{Literal, Clause, Assignment, value, SatisfiesAll, MakesTrue}
use Rattle.varisat_theory.proofs.clauses.Places.{∈-get_or, place_in}
use Rattle.varisat_theory.proofs.clauses.Values.{not_both}
use Rattle.varisat_prop.specs.declared.prop.graph.Reason.{Reason}
use Rattle.varisat_prop.specs.declared.prop.graph.Reason.TheVariants as reason
use Rattle.varisat_prop.specs.View.{View, literal_at, decision_at, node_at, is_clause, IsReason, WellFormed, ViewFits, GrowsTrail}
use Rattle.varisat_prop.proofs.trails.TrailValues.{on-trail}
use Rattle.varisat_search.specs.AssumptionParts.{AssumptionParts, HasAssumptions, TakesOutTrue, TakesOutImplied}
use Rattle.varisat_analysis.proofs.WellFormedViews.{reason-kept, reason-before}

module _ (s : View) (w : WellFormed s) (held : List Clause) (f : ViewFits held s) (a : Assignment) (sat : SatisfiesAll a held)
    (decided : (j : ℕ) → j < length s.decisions → value a (literal_at s (decision_at s j)) ≡ true) where
  -- a literal with a clause as its reason, where those before it are true
  by-clause : (k : ℕ) (r : Reason) → is_clause r ≡ true → IsReason s k r → ((o : ℕ) → o < k → value a (literal_at s o) ≡ true) → value a (literal_at s k) ≡ true
  by-clause k r c h before =
      let (x, y, z) = reason-kept s w k r c h in
      let (d, i, e) = f.stored x y in
      let (l, j, v) = sat d i in
      ⊎_elim
      (λ q. subst (λ m. value a m ≡ true) q v)
      (λ (o, p, q). absurd (not_both a l v (subst (λ m. value a m ≡ true) q (before o p))))
      (reason-before s w k r l h (z.0 l (e.0 l j)))

  -- any literal, where those before it are true
  by-reason : (k : ℕ) → k < length s.trail → ((o : ℕ) → o < k → value a (literal_at s o) ≡ true) → value a (literal_at s k) ≡ true
  by-reason k i before = by (node_at s k).reason refl (w.reason_is k i)
    where
      by : (r : Reason) → (node_at s k).reason ≡ r → IsReason s k r → value a (literal_at s k) ≡ true
      by reason.Unit e q =
          ⊎_elim
          (λ d. let (j, b, g) = place_in k s.decisions 0 d in subst (λ o. value a (literal_at s o) ≡ true) g (decided j b))
          (λ z. let (d, j, u) = f.units k i z e in let (l, m, v) = sat d j in subst (λ y. value a y ≡ true) (u.1 l m) v)
          q
      by (reason.Binary ms) e q = by-clause k (reason.Binary ms) refl q before
      by (reason.Long c) e q = by-clause k (reason.Long c) refl q before

  true-to : (n k : ℕ) → k < n → k < length s.trail → value a (literal_at s k) ≡ true
  true-to zero k h i = absurd (omega (arith, h))
  true-to (suc n) k h i = by-reason k i (λ o p. true-to n o (omega (arith, p, h)) (omega (arith, p, i)))

  -- each true literal is made true by an assignment that satisfies the clauses and makes all decisions true
  pub trail-is-true : (l : Literal) → l ∈ s.trail → value a l ≡ true
  trail-is-true l h =
      let (k, b, e) = place_in l s.trail 0 h in
      subst (λ y. value a y ≡ true) e (true-to (suc k) k (omega arith) b)

-- Where all decisions are assumptions, those that are true are implied by the others.
pub taken-implied : (s : View) (x y : AssumptionParts) → WellFormed s → HasAssumptions s x → x.levels ≡ length s.decisions →
    TakesOutTrue s.values (length s.decisions) x y → TakesOutImplied s x y
taken-implied s x y w h n t =
    let user = ap (λ (z : AssumptionParts). z.user) t.rest in
    let core = ap (λ (z : AssumptionParts). z.user_core) t.rest in
    record {
      user = user;
      user_core = core;
      part = t.part;
      implied = λ held f a sat made l i.
          ⊎_elim
          (λ o. made l o)
          (λ o. trail-is-true s w held f a sat (λ j b.
          let b' : j < x.levels = omega (arith, b, n) in
          let long = t.long (let m = h.listed in omega (arith, m, n)) in
          subst (λ m. value a m ≡ true) (t.before j b ∙ sym (h.decided j b')) (made _ (∈-get_or y.working j 0 (omega (arith, b, long)))))
          l (on-trail s w l o))
          (t.gone l i);
    }

pub takes-refl : (s : View) (x : AssumptionParts) → TakesOutImplied s x x
takes-refl s x = record { user = refl; user_core = refl; part = λ l i. i; implied = λ held f a sat made. made }

-- nothing of the list changed
pub takes-same : (s : View) (x y : AssumptionParts) → y.user ≡ x.user → y.user_core ≡ x.user_core → y.working ≡ x.working → TakesOutImplied s x y
takes-same s x y u c e = record { user = u; user_core = c; part = λ l i. subst (λ ws. l ∈ ws) e i; implied = λ held f a sat made. subst (MakesTrue a) e made }

-- what was taken out as the search went on
pub takes-trans : (s t : View) (x y z : AssumptionParts) → GrowsTrail s t → TakesOutImplied s x y → TakesOutImplied t y z → TakesOutImplied s x z
takes-trans s t x y z g p q = record {
  user = q.user ∙ p.user;
  user_core = q.user_core ∙ p.user_core;
  part = λ l i. p.part l (q.part l i);
  implied = λ held f a sat made. p.implied held f a sat (q.implied held (g.fits held f) a sat made);
}

-- and as it grew before any was taken out
pub takes-after : (s t : View) (x y : AssumptionParts) → GrowsTrail s t → TakesOutImplied t x y → TakesOutImplied s x y
takes-after s t x y g p = takes-trans s t x x y g (takes-refl s x) p
