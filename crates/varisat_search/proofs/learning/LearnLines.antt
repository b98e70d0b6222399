-- What `learn_from_conflict` leaves after a conflict above level 0, as a proof sees it.
use Rattle.std.proofs.Common.{◌≡◌, ℕ, suc, ◌<◌, true, None, List, [], ◌∷◌, ◌++◌, length, get_or, take, ◌⊎◌, inl, inr, ⊎_elim, sym, ap, ◌∙◌, subst, refl}
use Rattle.varisat_theory.specs.promises.Membership.{◌∈◌}
use Rattle.varisat_theory.specs.promises.Literals.{Literal, Clause, variable_of, IsUnit}
use Rattle.varisat_theory.specs.promises.Propagation.{Follows}
use Rattle.varisat_theory.specs.promises.Derivations.{Add}
use Rattle.varisat_theory.specs.promises.Held.{SameClauses}
use Rattle.varisat_theory.proofs.clauses.Members.{∈-append_left, ∈-append_right, ∈-append_cases}
use Rattle.varisat_theory.proofs.clauses.Held.{same_set-self}
use Rattle.varisat_theory.proofs.clauses.Places.{∈-get_or, place_in, place_in_take}
use Rattle.varisat_prop.specs.declared.prop.graph.Reason.{Reason}
use Rattle.varisat_prop.specs.declared.prop.graph.Reason.TheVariants as reason
use Rattle.varisat_prop.specs.declared.prop.graph.Conflict.{Conflict}
use Rattle.varisat_clause.specs.Stored.{AreReordered}
use Rattle.varisat_prop.specs.Watches.{Watches, IsPropagated}
use Rattle.varisat_prop.specs.View.{View, kept, is_clause, decision_at, node_of, level_of, WellFormed, PropagatedBeforeDecisions, IsFixed, ViewFits}
use Rattle.varisat_prop.specs.Changes.{enqueued}
use Rattle.varisat_clause.proofs.StoredClauses.{reordered-refl}
use Rattle.varisat_prop.proofs.trails.TrailExtend.{literal-new, node-new, node-other, fresh, true-old, true-new}
use Rattle.varisat_search.specs.Conflicts.{Keeping, keeping_of, IsKeptAsReason}
use Rattle.varisat_analysis.specs.Learned.{IsAsserting, IsLevelOf, IsOfKept}
use Rattle.varisat_search.specs.Steps.{IsCut}
use Rattle.varisat_search.proofs.stepping.Backtrack.{cut-well, fixed-cut}
use Rattle.varisat_search.proofs.learning.LearnClause.{keeping, learned, level-below, first-free, first-inside, no-clash, no-part, unit-result, joins, kept-result}
use Rattle.varisat_search.proofs.loading.PairSearch.{from-kept}
use Rattle.varisat_theory.specs.promises.Searches.{Search, clauses_of, IsLiteralOf}
use Rattle.varisat_theory.specs.inside.Outcomes.{Unknown, Proves, Steps}
use Rattle.varisat_theory.specs.inside.StepLaws.{FollowsFrom, IsNewTo}
use Rattle.varisat_theory.proofs.steps.SearchFits.{same_equal}
use Rattle.varisat_theory.proofs.steps.StepChanges.{moves_prove}
use Rattle.varisat_theory.proofs.steps.StepEnds.{learned_kept, learned_unit}
use Rattle.varisat_theory.proofs.steps.StepAccounts.{step_part}
use Rattle.varisat_search.specs.Seen.{search_of, IsProved}
use Rattle.varisat_search.proofs.stepping.ViewSearch.{fixed_from, fixed_to, proved_from, proved_to, of_search, view_reads, view_moves}
use Rattle.varisat_prop.proofs.trails.TrailValues.{on-trail, trail-true}

proved_cut : (s t : View) (level : ℕ) (x : Literal) → IsCut s t level → IsProved t x → IsProved s x
proved_cut s t level x c q =
    let (i, z, r) = subst (λ (y : View). IsProved y x) c.rest q in
    let (j, a, b, e) = place_in_take x s.trail (decision_at s level) 0 i in
    (subst (λ y. y ∈ s.trail) e (∈-get_or s.trail j 0 b), z, r)

fixed_after_cut : (s t : View) (level : ℕ) (x : Literal) → WellFormed s → level < length s.decisions → IsCut s t level → IsFixed s x → IsFixed t x
fixed_after_cut s t level x w h c f = subst (λ (y : View). IsFixed y x) (sym c.rest) (fixed-cut s t level w h c x f)

-- nothing else is fixed after that
fixed_before_cut : (s t : View) (level : ℕ) (x : Literal) → WellFormed s → level < length s.decisions → IsCut s t level → IsFixed t x → IsFixed s x
fixed_before_cut s t level x w h c (q, z) =
    let i = subst (λ (ls : List Literal). x ∈ ls) (ap (λ (y : View). y.trail) c.rest) (on-trail t (cut-well s t level w h c) x q) in
    let (j, a, b, e) = place_in_take x s.trail (decision_at s level) 0 i in
    (trail-true s w x (subst (λ y. y ∈ s.trail) e (∈-get_or s.trail j 0 b)), ap (λ (y : View). level_of y x) (sym c.rest) ∙ z)

same_clauses : (s t : View) (level : ℕ) → IsCut s t level → t.clauses ≡ s.clauses
same_clauses s t level c = ap (λ (x : View). x.clauses) c.rest

pub cut_moves : (s t : View) (level : ℕ) → WellFormed s → level < length s.decisions → IsCut s t level → Proves 0 (search_of s) (search_of t) []
cut_moves s t level w h c =
    view_moves s t w (cut-well s t level w h c) (subst (AreReordered s.clauses) (sym (same_clauses s t level c)) (reordered-refl s.clauses))
    (ap (λ (x : View). x.binary) c.rest)
    (λ l f. fixed_after_cut s t level l w h c f)
    (λ l q. proved_cut s t level l c q)
    (λ l f. inl (fixed_to s w l (fixed_before_cut s t level l w h c f)))

-- one more literal on the trail
module _ (u : View) (l : Literal) (r : Reason) (w : WellFormed u) (inside : variable_of l < length u.values)
    (free : get_or u.values (variable_of l) None ≡ None) where
  fixed_stays : (x : Literal) → IsFixed u x → IsFixed (enqueued u l r) x
  fixed_stays x (t, z) =
      let (k, h, p) = w.stands x t in (
        true-old u l r u.decisions w inside free x t,
        ap (λ n. n.level)
            (node-other u l r u.decisions w inside free x (λ q. fresh u l r u.decisions w inside free k h (ap variable_of p ∙ q))) ∙ z,
      )

  node_last : node_of (enqueued u l r) l ≡ record { reason = r; level = length u.decisions; depth = suc (length u.trail) }
  node_last = ap (node_of (enqueued u l r)) (sym (literal-new u l r u.decisions w inside free)) ∙ node-new u l r u.decisions w inside free

  proved_old : (x : Literal) → IsProved (enqueued u l r) x → IsProved u x ⊎ ((x ≡ l) × (r ≡ reason.Unit))
  proved_old x (i, z, q) =
      ⊎_elim
      (λ a.
      let (k, h, p) = place_in x u.trail 0 a in
      let n = node-other u l r u.decisions w inside free x (λ g. fresh u l r u.decisions w inside free k h (ap variable_of p ∙ g)) in
      inl (a, sym (ap (λ y. y.level) n) ∙ z, sym (ap (λ y. y.reason) n) ∙ q))
      (λ a. ⊎_elim (λ e. inr (e, sym (ap (λ y. y.reason) node_last) ∙ sym (ap (λ y. (node_of (enqueued u l r) y).reason) e) ∙ q)) (λ y. absurd y) a)
      (∈-append_cases x u.trail (l ∷ []) i)

  fixed_old : (x : Literal) → WellFormed (enqueued u l r) → IsFixed (enqueued u l r) x → IsFixed u x ⊎ (x ≡ l)
  fixed_old x v (q, z) =
      ⊎_elim
      (λ a.
      let (k, h, p) = place_in x u.trail 0 a in
      let n = node-other u l r u.decisions w inside free x (λ g. fresh u l r u.decisions w inside free k h (ap variable_of p ∙ g)) in
      inl (trail-true u w x a, sym (ap (λ y. y.level) n) ∙ z))
      (λ a. ⊎_elim inr (λ y. absurd y) a)
      (∈-append_cases x u.trail (l ∷ []) (on-trail (enqueued u l r) v x q))

-- a unit that is enqueued where there is no decision
pub unit_moves : (t : View) (l : Literal) (w : WellFormed t) (inside : variable_of l < length t.values)
    (free : get_or t.values (variable_of l) None ≡ None) → t.decisions ≡ [] → WellFormed (enqueued t l reason.Unit) →
    Proves 0 (record (search_of t) { fixed = (search_of t).fixed ++ l ∷ []; proved = (search_of t).proved ++ l ∷ [] })
    (search_of (enqueued t l reason.Unit)) []
unit_moves t l w inside free none wz =
    let z = enqueued t l reason.Unit in
    let fixed : IsFixed z l = (
      true-new t l reason.Unit t.decisions w inside free,
      ap (λ n. n.level) (node_last t l reason.Unit w inside free)
          ∙ ap (λ (x : List ℕ). length x) none,
    ) in
    let S1 : Search = record (search_of t) { fixed = (search_of t).fixed ++ l ∷ []; proved = (search_of t).proved ++ l ∷ [] } in
    moves_prove S1 (search_of z)
    (same_equal (clauses_of S1.kept) (clauses_of (search_of t).kept) refl)
    (λ j h n. (j, h, n, λ x o. o))
    (λ x h.
    ⊎_elim
    (λ q. fixed_to z wz x (fixed_stays t l reason.Unit w inside free x (fixed_from t w x q)))
    (λ q. ⊎_elim (λ g. fixed_to z wz x (subst (IsFixed z) (sym g) fixed)) (λ y. absurd y) q)
    (∈-append_cases x (search_of t).fixed (l ∷ []) h))
    (λ x h.
    ⊎_elim
    (λ q. ∈-append_left x (search_of t).proved (l ∷ []) (proved_to t w x q))
    (λ (q, n). ∈-append_right x (search_of t).proved (l ∷ []) (inl q))
    (proved_old t l reason.Unit w inside free x (proved_from z wz x h)))
    (λ x h.
    ⊎_elim
    (λ q. inl (∈-append_left x (search_of t).fixed (l ∷ []) (fixed_to t w x q)))
    (λ q. inl (∈-append_right x (search_of t).fixed (l ∷ []) (inl q)))
    (fixed_old t l reason.Unit w inside free x wz (fixed_from z wz x h)))

module _ (s t : View) (i : Conflict) (level : ℕ) (c : Clause) (w : WellFormed s) (v : PropagatedBeforeDecisions s) (a : IsAsserting s i c level)
    (deep : 0 < length s.decisions) (ct : IsCut s t level) (follows : (held : List Clause) → ViewFits held s → Follows held c)
    (of_kept : (m : Literal) → m ∈ c → IsOfKept s m) where
  S : Search
  S = search_of s

  below : level < length s.decisions
  below = level-below s t i level c w v a deep ct

  wt : WellFormed t
  wt = cut-well s t level w below ct

  inside : variable_of a.first < length t.values
  inside = first-inside s t i level c w v a deep ct

  free : get_or t.values (variable_of a.first) None ≡ None
  free = first-free s t i level c w v a deep ct

  follows_from : FollowsFrom (search_of s) c
  follows_from held f = follows held (view_reads s held w f)

  new_to : IsNewTo (search_of s) c
  new_to held f = (no-clash s t i level c w v a deep ct, no-part s t i level c w v a deep ct held (view_reads s held w f))

  literals_of_search : (m : Literal) → m ∈ c → IsLiteralOf (search_of s) m
  literals_of_search m h = of_search s m (of_kept m h)

  -- the clauses that are kept are those from before the levels are undone
  kept_still : (search_of t).kept ≡ (search_of s).kept
  kept_still = ap (λ (x : View). (search_of x).kept) ct.rest

  pub steps_kept : (W : Watches) → IsPropagated W s → (m : Literal) (ms : Clause) → a.others ≡ m ∷ ms → (K : Keeping) (r : Reason) →
      IsKeptAsReason (keeping_of t) K (a.first ∷ m ∷ ms) r → Steps (search_of s) (search_of (enqueued (keeping t K) a.first r)) Unknown (Add c ∷ [])
  steps_kept W p m ms e K r h =
      let z = enqueued (keeping t K) a.first r in
      let wz : WellFormed z = (kept-result s t i level c w v a deep ct m ms e W p K r h).well in
      let j = joins s t i level c w v a deep ct m ms e W p K r h in
      let k = learned c in
      let S1 : Search = record (search_of s) { kept = (search_of s).kept ++ k ∷ [] } in
      let whole : c ≡ a.first ∷ m ∷ ms = a.split ∙ ap (λ o. a.first ∷ o) e in
      let same : SameClauses (kept s ++ c ∷ []) (kept z) = subst (λ P. SameClauses (P ++ c ∷ []) (kept z)) (ap kept ct.rest)
      (subst (λ x. SameClauses (kept t ++ x ∷ []) (kept z)) (sym whole) j.same) in
      step_part (search_of s) S1 (search_of z) (Add c ∷ []) []
      (learned_kept (search_of s) c k (same_set-self c) follows_from new_to literals_of_search)
      (moves_prove S1 (search_of z)
      (from-kept s z k same)
      (λ x h n. j.seen x (subst (λ y. x ∈ ((search_of t).kept ++ learned y ∷ [])) whole (subst (λ ks. x ∈ (ks ++ k ∷ [])) (sym kept_still) h)) n)
      (λ x h. fixed_to z wz x (fixed_stays (keeping t K) a.first r j.well inside free x (fixed_after_cut s t level x w below ct (fixed_from s w x h))))
      (λ x h.
      ⊎_elim
      (λ q. proved_to s w x (proved_cut s t level x ct q))
      (λ (q, n). absurd (let y : is_clause reason.Unit ≡ true = ap is_clause (sym n) ∙ j.clause in cc))
      (proved_old (keeping t K) a.first r j.well inside free x (proved_from z wz x h)))
      (λ x h.
      ⊎_elim
      (λ q. inl (fixed_to s w x (fixed_before_cut s t level x w below ct q)))
      (λ q. inr (k, ∈-append_right k (search_of s).kept (k ∷ []) (inl refl), subst (λ y. y ∈ c) (sym q) (subst (λ d. a.first ∈ d) (sym a.split) (inl refl))))
      (fixed_old (keeping t K) a.first r j.well inside free x wz (fixed_from z wz x h))))
      tt

  pub steps_unit : a.others ≡ [] → Steps (search_of s) (search_of (enqueued t a.first reason.Unit)) Unknown (Add c ∷ [])
  steps_unit e =
      let l = a.first in
      let z = enqueued t l reason.Unit in
      let wz : WellFormed z = (unit-result s t i level c w v a deep ct e).well in
      let whole : c ≡ l ∷ [] = a.split ∙ ap (λ o. l ∷ o) e in
      let unit : IsUnit l c = subst (IsUnit l) (sym whole) (inl refl, λ m h. ⊎_elim (λ g. g) (λ g. absurd g) h) in
      let zero_level : level ≡ 0 = subst (λ o. IsLevelOf s o level) e a.second in
      let none : t.decisions ≡ [] = ap (λ (x : View). x.decisions) ct.rest ∙ ap (λ n. take n s.decisions) zero_level in
      let fixed : IsFixed z l = (
        true-new t l reason.Unit t.decisions wt inside free,
        ap (λ n. n.level) (node_last t l reason.Unit wt inside free)
            ∙ ap (λ (x : List ℕ). length x) none,
      ) in
      let S1 : Search = record (search_of s) { fixed = (search_of s).fixed ++ l ∷ []; proved = (search_of s).proved ++ l ∷ [] } in
      step_part (search_of s) S1 (search_of z) (Add c ∷ []) []
      (learned_unit (search_of s) c l unit follows_from new_to literals_of_search)
      (moves_prove S1 (search_of z)
      (same_equal (clauses_of S1.kept) (clauses_of (search_of t).kept) (ap clauses_of (sym kept_still)))
      (λ j h n. (j, subst (λ ks. j ∈ ks) (sym kept_still) h, n, λ x o. o))
      (λ x h.
      ⊎_elim
      (λ q. fixed_to z wz x (fixed_stays t l reason.Unit wt inside free x (fixed_after_cut s t level x w below ct (fixed_from s w x q))))
      (λ q. ⊎_elim (λ g. fixed_to z wz x (subst (IsFixed z) (sym g) fixed)) (λ y. absurd y) q)
      (∈-append_cases x (search_of s).fixed (l ∷ []) h))
      (λ x h.
      ⊎_elim
      (λ q. ∈-append_left x (search_of s).proved (l ∷ []) (proved_to s w x (proved_cut s t level x ct q)))
      (λ (q, n). ∈-append_right x (search_of s).proved (l ∷ []) (inl q))
      (proved_old t l reason.Unit wt inside free x (proved_from z wz x h)))
      (λ x h.
      ⊎_elim
      (λ q. inl (∈-append_left x (search_of s).fixed (l ∷ []) (fixed_to s w x (fixed_before_cut s t level x w below ct q))))
      (λ q. inl (∈-append_right x (search_of s).fixed (l ∷ []) (inl q)))
      (fixed_old t l reason.Unit wt inside free x wz (fixed_from z wz x h))))
      tt
