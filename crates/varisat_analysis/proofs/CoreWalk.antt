-- The walk of `list_core` back over the trail, from the opposite of a failed assumption to decisions.
use Rattle.std.proofs.Common.{◌≡◌, ◌≢◌, ℕ, zero, suc, ◌+◌, ◌-◌, ◌*◌, ◌<◌, ◌≤◌, Bool, true, false, List, [], ◌∷◌, ◌++◌, length, get_or, set, take, take_all, replicate, ◌⊎◌, inl, inr, ⊎_elim, refl, sym, ap, ◌∙◌, subst, arith, get_or-set_same, get_or-set_other}
use Rattle.std.proofs.lemmas.Bool.{cases_lt}
use Rattle.std.proofs.lemmas.List.{append-nil, length-replicate}
use Rattle.varisat_theory.specs.promises.Membership.{◌∈◌, IsDistinct}
use Rattle.varisat_theory.specs.promises.Literals.{Literal, Clause, variable_of, opposite}
use Rattle.varisat_theory.specs.promises.Propagation.{IsFalse, Conflicts}
use Rattle.varisat_theory.specs.promises.Analysis.{Implied, Known, AtStart, InReason}
use Rattle.varisat_theory.proofs.clauses.Implication.{implied_alone, implied_clash}
use Rattle.varisat_theory.proofs.clauses.Members.{equal_or_not, ∈-append_left, ∈-append_right, ∈-append_cases}
use Rattle.varisat_theory.proofs.clauses.Places.{∈-get_or, ∈-take_more, place_in}
use Rattle.varisat_theory.proofs.clauses.Values.{opposite_twice}
use Rattle.varisat_prop.specs.declared.prop.graph.Reason.{Reason}
use Rattle.varisat_prop.specs.declared.prop.graph.Reason.TheVariants as reason
use Rattle.varisat_prop.specs.declared.prop.graph.ImplNode.{ImplNode}
use Rattle.varisat_clause.specs.Stored.{StoredClause}
use Rattle.varisat_prop.specs.Changes.{others_of, causes_of}
use Rattle.varisat_prop.specs.View.{View, literal_at, decision_at, node_of, node_at, level_of, IsOnTrailBefore, IsReason, WellFormed, ViewFits, no_node}
use Rattle.varisat_prop.proofs.trails.LiteralValues.{made-inside}
use Rattle.varisat_prop.proofs.views.ReadElements.{element, item-∈}
use Rattle.varisat_prop.proofs.trails.TrailValues.{trail-true}
use Rattle.varisat_analysis.specs.Flags.{IsFlagged}
use Rattle.varisat_analysis.specs.Learned.{implying_clause, reason_clause}
use Rattle.varisat_analysis.specs.FailedCores.{IsDecided, IsReachedFrom, ListsFailedCore, FlagsCauses, decided_by}
use Rattle.varisat_analysis.proofs.AnalysisMarks.{take-grow, take-last, marked-old, marked-new}
use Rattle.varisat_analysis.proofs.BumpedVariables.{clear-given-back}
use Rattle.varisat_analysis.proofs.CopiedLiterals.{distinct-push, flag-inside, own-list}
use Rattle.varisat_analysis.proofs.WellFormedViews.{level-opposite, same-place, place-of, stands-∈, no-clash, causes-before, causes-false, reason-split, reason-read, zero-below, implied-by, fixed-at}

-- a literal is not flagged where its flag is false
not-flagged : (f : List Bool) (l : Literal) → get_or f l false ≡ false → IsFlagged f l → ⊥
not-flagged f l n h = let e = sym n ∙ h in absurd cc

-- Flags are set for the opposites of false literals, one after another.
pub flags-start : (s : View) (f : List Bool) → FlagsCauses s [] f f
flags-start s f = record { more = λ l h. h; all = λ m h. absurd h; only = λ l h. inl h }

module _ (s : View) (lits : List Literal) (k m : ℕ) (f g : List Bool) (h : k < length lits) (e : m ≡ get_or lits k m)
    (c : FlagsCauses s (take k lits) f g) where
  is-now : m ≡ get_or lits k 0
  is-now = element lits k m h e

  now-in : m ∈ take (k + 1) lits
  now-in = subst (λ x. x ∈ take (k + 1) lits) (sym is-now) (take-last k lits h)

  older : (l : Literal) → IsFlagged g l → IsFlagged f l ⊎ ((opposite l ∈ take (k + 1) lits) × (0 < level_of s l))
  older l z = ⊎_elim inl (λ (i, a). inr (take-grow k lits (opposite l) i, a)) (c.only l z)

  -- a literal of level 0
  pub flags-skip : (0 < level_of s m → ⊥) → FlagsCauses s (take (k + 1) lits) f g
  flags-skip n = record {
    more = c.more;
    all = λ x i a. ⊎_elim (λ j. c.all x j a) (λ q. absurd (n (subst (λ y. 0 < level_of s y) (q ∙ sym is-now) a))) (∈-take_more x lits k 0 i);
    only = older;
  }

  pub flags-set : (l : ℕ) → l ≡ opposite m → l < length g → 0 < level_of s m → FlagsCauses s (take (k + 1) lits) f (set g l true)
  flags-set l o b a = record {
    more = λ x z. marked-old g l x b (c.more x z);
    all = λ x i d. ⊎_elim
        (λ j. marked-old g l (opposite x) b (c.all x j d))
        (λ q. subst (IsFlagged (set g l true)) (o ∙ ap opposite (is-now ∙ sym q)) (get_or-set_same g l true false b))
        (∈-take_more x lits k 0 i);
    only = λ x z. ⊎_elim
        (older x)
        (λ q. inr (
          subst (λ y. y ∈ take (k + 1) lits) (sym (ap opposite (q ∙ o) ∙ opposite_twice m)) now-in,
          subst (λ y. 0 < level_of s y) (sym (q ∙ o)) (let p = level-opposite s m in omega (arith, p, a)),
        ))
        (marked-new g l x z);
  }

pub flags-end : (s : View) (lits : List Literal) (k : ℕ) (f g : List Bool) → length lits ≤ k → FlagsCauses s (take k lits) f g → FlagsCauses s lits f g
flags-end s lits k f g h c = subst (λ x. FlagsCauses s x f g) (take_all k lits h) c

-- a true literal, and the opposite of a false one, have a flag
pub true-flag : (s : View) → WellFormed s → (flags : List Bool) (l : Literal) → length flags ≡ 2 * length s.values → l ∈ s.trail → l < length flags
true-flag s w flags l n h =
    let a = own-list l (length s.values) (made-inside s.values l (trail-true s w l h)) in
    omega (arith, a, n)

-- the opposite of the false literal that was read
pub cause-flag : (s : View) → WellFormed s → (lits : List Literal) (k m : ℕ) (flags : List Bool) → IsFalse s.trail lits →
    length flags ≡ 2 * length s.values → k < length lits → m ≡ get_or lits k m → opposite m < length flags
cause-flag s w lits k m flags f n h e = true-flag s w flags (opposite m) n (f m (item-∈ lits k m h e))

-- the literal is a reached decision, and stands at place i or behind it
abbrev pub WasPassed : View → Literal → ℕ → Literal → Type 0
WasPassed s failed i l = (j : ℕ) × (i ≤ j) × (j < length s.trail) × (literal_at s j ≡ l) × IsDecided s l × IsReachedFrom s failed l

-- The places from i on were walked over.
pub record CoreWalk (s : View) (failed : Literal) (core : List Literal) (flags : List Bool) (i : ℕ) : Type 0 where
  pub within : i ≤ length s.trail
  -- what is flagged is reached
  pub flagged : (l : Literal) → IsFlagged flags l → IsOnTrailBefore s i l × (0 < level_of s l) × IsReachedFrom s failed l
  -- the failed literal's opposite is flagged, and what made a reached literal true that was passed
  pub start : IsOnTrailBefore s i (opposite failed) → 0 < level_of s (opposite failed) → IsFlagged flags (opposite failed)
  pub passed : (j : ℕ) (l : Literal) → i ≤ j → j < length s.trail → IsReachedFrom s failed (literal_at s j) → IsOnTrailBefore s i l →
      0 < level_of s l → opposite l ∈ reason_clause s (literal_at s j) → IsFlagged flags l
  -- the core has the failed literal and just the reached decisions that were passed
  pub failed_in : failed ∈ core
  pub known : (l : Literal) → l ∈ core → (l ≡ failed) ⊎ WasPassed s failed i l
  pub complete : (j : ℕ) → i ≤ j → j < length s.trail → IsDecided s (literal_at s j) → IsReachedFrom s failed (literal_at s j) → literal_at s j ∈ core
  pub distinct : IsDistinct core

-- what a reason makes false is in its clause
cause-in : (s : View) (l : Literal) (r : Reason) (m : Literal) → m ∈ causes_of s.clauses r → m ∈ implying_clause s l r
cause-in s l reason.Unit m h = absurd h
cause-in s l (reason.Binary ms) m h = inr h
cause-in s l (reason.Long p) m h = other-in (implying_clause s l (reason.Long p)) h
  where
    other-in : (c : Clause) → m ∈ others_of c → m ∈ c
    other-in [] i = absurd i
    other-in (x ∷ c) i = inr i

stands-more : (s : View) (i j : ℕ) (l : Literal) → i ≤ j → IsOnTrailBefore s i l → IsOnTrailBefore s j l
stands-more s i j l h (k, a, e) = (k, omega (arith, a, h), e)

module _ (s : View) (w : WellFormed s) (failed : Literal) (false_now : opposite failed ∈ s.trail) where
  -- a decision is not of level 0
  decided-above : (l : Literal) → IsDecided s l → 0 < level_of s l
  decided-above l (q, a, e) = ⊎_elim
      (λ h. h)
      (λ (h : level_of s l ≤ 0).
      let v : (node_at s (decision_at s q)).level ≡ level_of s l = ap (level_of s) e in
      let b = w.levels_up (decision_at s q) q (w.decided q a).0 a (omega (arith, h, v)) in
      absurd (omega (arith, b)))
      (cases_lt 0 (level_of s l))

  decided-unit : (l : Literal) → IsDecided s l → (node_of s l).reason ≡ reason.Unit
  decided-unit l (q, a, e) = subst (λ x. (node_of s x).reason ≡ reason.Unit) e (w.decided q a).1

  -- a literal above level 0 without a clause as its reason is a decision
  unit-decided : (j : ℕ) → j < length s.trail → 0 < (node_at s j).level → (node_at s j).reason ≡ reason.Unit → IsDecided s (literal_at s j)
  unit-decided j h a r = ⊎_elim
      (λ i. let (q, b, e) = place_in j s.decisions 0 i in (q, b, ap (literal_at s) e))
      (λ z. absurd (omega (arith, z, a)))
      (subst (IsReason s j) r (w.reason_is j h))

  -- the places of different literals
  earlier : (i : ℕ) (l : Literal) → IsOnTrailBefore s (suc i) l → l ≢ literal_at s i → IsOnTrailBefore s i l
  earlier i l (k, a, e) n = (k, below k i a (λ q. n (sym e ∙ ap (literal_at s) q)), e)
    where
      below : (k i : ℕ) → k < suc i → (k ≡ i → ⊥) → k < i
      below k i a n = grind arith

  other-literal : (i : ℕ) (l : Literal) → i < length s.trail → IsOnTrailBefore s i l → l ≢ literal_at s i
  other-literal i l h (k, a, e) q =
      let o = same-place s w k i (omega (arith, a, h)) h (ap variable_of (e ∙ q)) in
      omega (arith, o, a)

  module _ (core : List Literal) (flags : List Bool) (i : ℕ) (u : CoreWalk s failed core flags (suc i)) where
    at : i < length s.trail
    at = let b = u.within in omega (arith, b)

    at-true : literal_at s i ∈ s.trail
    at-true = ∈-get_or s.trail i 0 at

    stands-here : IsOnTrailBefore s (suc i) (literal_at s i)
    stands-here = (i, omega arith, refl)

    -- a reached literal above level 0 is flagged when the walk comes to it
    reached-flagged : (x : Literal) → literal_at s i ≡ x → 0 < level_of s x → IsReachedFrom s failed x → IsFlagged flags x
    reached-flagged x e a (AtStart h) =
        let o : x ≡ opposite failed = sym (opposite_twice x) ∙ ap opposite (⊎_elim (λ q. q) (λ z. absurd z) h) in
        subst (IsFlagged flags) (sym o) (u.start (subst (IsOnTrailBefore s (suc i)) (e ∙ o) stands-here) (subst (λ y. 0 < level_of s y) o a))
    reached-flagged x e a (InReason y r t o n) =
        let (j, b, g) = place_in y s.trail 0 t in
        let o' : opposite x ∈ reason_clause s (literal_at s j) = subst (λ z. opposite x ∈ reason_clause s z) (sym g) o in
        let (k, d, p) = causes-before s w j x b (subst (λ z. z ∈ s.trail) e at-true) o' in
        let q = same-place s w k i (omega (arith, d, b)) at (ap variable_of (p ∙ sym e)) in
        u.passed j x (omega (arith, d, q)) b (subst (IsReachedFrom s failed) (sym g) r) (subst (IsOnTrailBefore s (suc i)) e stands-here) a o'

    -- what the reason of a literal of level 0 makes true is of level 0
    cause-above : (l : Literal) → IsOnTrailBefore s i l → 0 < level_of s l → 0 < (node_at s i).level
    cause-above l (k, a, e) d = ⊎_elim
        (λ h. h)
        (λ (h : (node_at s i).level ≤ 0).
        let z = zero-below s w k i a at (omega (arith, h)) in
        let v : (node_at s k).level ≡ level_of s l = ap (level_of s) e in
        absurd (omega (arith, z, v, d)))
        (cases_lt 0 (node_at s i).level)

    -- what was passed stays so
    later : (l : Literal) → (l ≡ failed) ⊎ WasPassed s failed (suc i) l → (l ≡ failed) ⊎ WasPassed s failed i l
    later l (inl e) = inl e
    later l (inr (j, o, b, e, d, r)) = inr (j, omega (arith, o), b, e, d, r)

    -- a literal that is not flagged
    pub core-skip : get_or flags (literal_at s i) false ≡ false → CoreWalk s failed core flags i
    core-skip n = record {
      within = omega (arith, at);
      flagged = λ l h. let (b, a, r) = u.flagged l h in (earlier i l b (λ e. no (subst (IsFlagged flags) e h)), a, r);
      start = λ b. u.start (stands-more s i (suc i) (opposite failed) (omega arith) b);
      passed = λ j l o h r b a m. ⊎_elim
          (λ (z : i < j). u.passed j l (omega (arith, z)) h r (stands-more s i (suc i) l (omega arith) b) a m)
          (λ (z : j ≤ i). absurd (unreached j (omega (arith, o, z)) (cause-above l b a) r))
          (cases_lt i j);
      failed_in = u.failed_in;
      known = λ l h. later l (u.known l h);
      complete = λ j o h d r. ⊎_elim
          (λ (z : i < j). u.complete j (omega (arith, z)) h d r)
          (λ (z : j ≤ i). let e : j ≡ i = omega (arith, o, z) in
          absurd (unreached j e (subst (λ x. 0 < (node_at s x).level) e (decided-above (literal_at s j) d)) r))
          (cases_lt i j);
      distinct = u.distinct;
    }
      where
        no : IsFlagged flags (literal_at s i) → ⊥
        no = not-flagged flags (literal_at s i) n

        unreached : (j : ℕ) → j ≡ i → 0 < (node_at s i).level → IsReachedFrom s failed (literal_at s j) → ⊥
        unreached j e a r = no (reached-flagged (literal_at s i) refl a (subst (λ x. IsReachedFrom s failed (literal_at s x)) e r))

    module _ (m : IsFlagged flags (literal_at s i)) (next : List Literal) (g : List Bool) where
      -- a flagged literal, whose flag is taken away
      pub core-pass : next ≡ core ++ decided_by (literal_at s i) (node_at s i).reason →
          FlagsCauses s (causes_of s.clauses (node_at s i).reason) (set flags (literal_at s i) false) g → CoreWalk s failed next g i
      core-pass ne c = record {
        within = omega (arith, at);
        flagged = λ l h. ⊎_elim (still-flagged l) (λ (o, a). (cause-stands l o, a, cause-reached l o)) (c.only l h);
        start = λ b a. keeps (opposite failed) b (u.start (stands-more s i (suc i) (opposite failed) (omega arith) b) a);
        passed = λ j l o h r b a q. ⊎_elim
            (λ (z : i < j). keeps l b (u.passed j l (omega (arith, z)) h r (stands-more s i (suc i) l (omega arith) b) a q))
            (λ (z : j ≤ i). let e : j ≡ i = omega (arith, o, z) in new-flag l b a (subst (λ x. opposite l ∈ reason_clause s (literal_at s x)) e q))
            (cases_lt i j);
        failed_in = old-in failed u.failed_in;
        known = λ l h. ⊎_elim
            (λ k. later l (u.known l k))
            (λ k. inr (
              i,
              omega arith,
              at,
              sym (listed-is (node_at s i).reason refl l k).0,
              subst (IsDecided s)
                  (sym (listed-is (node_at s i).reason refl l k).0) (listed-is (node_at s i).reason refl l k).1,
              subst (IsReachedFrom s failed)
                  (sym (listed-is (node_at s i).reason refl l k).0) reached,
            ))
            (∈-append_cases l core (decided_by (literal_at s i) (node_at s i).reason) (subst (λ x. l ∈ x) ne h));
        complete = λ j o h d r. ⊎_elim
            (λ (z : i < j). old-in (literal_at s j) (u.complete j (omega (arith, z)) h d r))
            (λ (z : j ≤ i). let e : j ≡ i = omega (arith, o, z) in subst (λ x. literal_at s x ∈ next) (sym e)
            (new-in (subst (λ x. IsDecided s (literal_at s x)) e d)))
            (cases_lt i j);
        distinct = subst IsDistinct (sym ne) (distinct-now (node_at s i).reason);
      }
        where
          level : 0 < level_of s (literal_at s i)
          level = (u.flagged (literal_at s i) m).1

          reached : IsReachedFrom s failed (literal_at s i)
          reached = (u.flagged (literal_at s i) m).2

          still-flagged : (l : Literal) → IsFlagged (set flags (literal_at s i) false) l → IsOnTrailBefore s i l × (0 < level_of s l) × IsReachedFrom s failed l
          still-flagged l h = ⊎_elim
              (λ e. absurd (not-flagged (set flags (literal_at s i) false) l
              (subst (λ x. get_or (set flags (literal_at s i) false) x false ≡ false) (sym e)
              (get_or-set_same flags (literal_at s i) false false (flag-inside flags (literal_at s i) m))) h))
              (λ n. let (b, a, r) = u.flagged l (sym (get_or-set_other flags (literal_at s i) l false false n) ∙ h) in (earlier i l b n, a, r))
              (equal_or_not l (literal_at s i))

          keeps : (l : Literal) → IsOnTrailBefore s i l → IsFlagged flags l → IsFlagged g l
          keeps l b h = c.more l (get_or-set_other flags (literal_at s i) l false false (other-literal i l at b) ∙ h)

          cause-stands : (l : Literal) → opposite l ∈ causes_of s.clauses (node_at s i).reason → IsOnTrailBefore s i l
          cause-stands l o =
              causes-before s w i l at (subst (λ x. x ∈ s.trail) (opposite_twice l) (causes-false s w (literal_at s i) at-true (opposite l) o))
              (cause-in s (literal_at s i) (node_at s i).reason (opposite l) o)

          cause-reached : (l : Literal) → opposite l ∈ causes_of s.clauses (node_at s i).reason → IsReachedFrom s failed l
          cause-reached l o =
              InReason (literal_at s i) reached at-true (cause-in s (literal_at s i) (node_at s i).reason (opposite l) o)
              (λ e. no-clash s w l (stands-∈ s w i l (omega (arith, at)) (cause-stands l o)) (subst (λ x. x ∈ s.trail) (sym e) at-true))

          new-flag : (l : Literal) → IsOnTrailBefore s i l → 0 < level_of s l → opposite l ∈ reason_clause s (literal_at s i) → IsFlagged g l
          new-flag l b a q = ⊎_elim
              (λ e. absurd (no-clash s w l (stands-∈ s w i l (omega (arith, at)) b) (subst (λ x. x ∈ s.trail) (sym e) at-true)))
              (λ (o, z). subst (IsFlagged g) (opposite_twice l) (c.all (opposite l) o (let p = level-opposite s l in omega (arith, p, a))))
              (reason-split s w i (node_at s i).reason (opposite l) (w.reason_is i at) q)

          old-in : (l : Literal) → l ∈ core → l ∈ next
          old-in l h = subst (λ x. l ∈ x) (sym ne) (∈-append_left l core (decided_by (literal_at s i) (node_at s i).reason) h)

          new-in : IsDecided s (literal_at s i) → literal_at s i ∈ next
          new-in d =
              subst (λ x. literal_at s i ∈ x) (sym ne)
              (∈-append_right (literal_at s i) core (decided_by (literal_at s i) (node_at s i).reason)
              (subst (λ r. literal_at s i ∈ decided_by (literal_at s i) r) (sym (decided-unit (literal_at s i) d)) (inl refl)))

          listed-is : (r : Reason) → (node_at s i).reason ≡ r → (l : Literal) → l ∈ decided_by (literal_at s i) r → (l ≡ literal_at s i)
              × IsDecided s (literal_at s i)
          listed-is reason.Unit e l h = (⊎_elim (λ q. q) (λ z. absurd z) h, unit-decided i at level e)
          listed-is (reason.Binary ms) e l h = absurd h
          listed-is (reason.Long p) e l h = absurd h

          -- the literal was not passed before, and is not the failed one, which is false
          new-one : literal_at s i ∈ core → ⊥
          new-one h = ⊎_elim
              (λ e. no-clash s w failed (subst (λ x. x ∈ s.trail) e at-true) false_now)
              (λ (j, o, b, e, d, r). let q = same-place s w j i b at (ap variable_of e) in absurd (omega (arith, o, q)))
              (u.known (literal_at s i) h)

          distinct-now : (r : Reason) → IsDistinct (core ++ decided_by (literal_at s i) r)
          distinct-now reason.Unit = distinct-push core (literal_at s i) u.distinct new-one
          distinct-now (reason.Binary ms) = subst IsDistinct (sym (append-nil core)) u.distinct
          distinct-now (reason.Long p) = subst IsDistinct (sym (append-nil core)) u.distinct

  -- The walk begins with the failed literal alone.
  pub core-start : (cleared core lits : List Literal) (old flags : List Bool) (i : ℕ) → cleared ≡ [] → core ≡ cleared ++ failed ∷ [] →
      lits ≡ s.trail → i ≡ length lits → ((l : Literal) → get_or old l false ≡ false) → FlagsCauses s (failed ∷ []) old flags → CoreWalk s failed core flags i
  core-start cleared core lits old flags i ze ce le ie clear c = subst (CoreWalk s failed core flags) (sym (ie ∙ ap (λ (x : List ℕ). length x) le)) (record {
    within = omega arith;
    flagged = λ l h. ⊎_elim
        (λ z. absurd (not-flagged old l (clear l) z))
        (λ (o, a). (place-of s w l (subst (λ x. x ∈ s.trail) (sym (is-opposite l o)) false_now), a, AtStart o))
        (c.only l h);
    start = λ b a. c.all failed (inl refl) (let p = level-opposite s failed in omega (arith, p, a));
    passed = λ j l o h. absurd (omega (arith, o, h));
    failed_in = subst (λ x. failed ∈ x) (sym alone) (inl refl);
    known = λ l h. ⊎_elim inl (λ z. absurd z) (subst (λ x. l ∈ x) alone h);
    complete = λ j o h. absurd (omega (arith, o, h));
    distinct = subst IsDistinct (sym alone) ((λ h. h), tt);
  })
    where
      alone : core ≡ failed ∷ []
      alone = ce ∙ ap (λ (x : List ℕ). x ++ failed ∷ []) ze

      is-opposite : (l : Literal) → opposite l ∈ (failed ∷ []) → l ≡ opposite failed
      is-opposite l h = sym (opposite_twice l) ∙ ap opposite (⊎_elim (λ q. q) (λ z. absurd z) h)

  -- No literal is flagged once the trail was walked over.
  pub core-clear : (core : List Literal) (flags : List Bool) → CoreWalk s failed core flags 0 → (l : Literal) → get_or flags l false ≡ false
  core-clear core flags u l = by (get_or flags l false) refl
    where
      by : (b : Bool) → get_or flags l false ≡ b → b ≡ false
      by false e = refl
      by true e = let (k, a, q) = (u.flagged l e).0 in absurd (omega (arith, a))

  -- What is reached is implied by a list with all the decisions that are reached.
  reached-implied : (core : List Literal) → ((l : Literal) → IsDecided s l → IsReachedFrom s failed l → l ∈ core) → (held : List Clause) →
      ViewFits held s → (n k : ℕ) → k < n → k < length s.trail → IsReachedFrom s failed (literal_at s k) → Implied held core (literal_at s k)
  reached-implied core all held f zero k l h r = absurd (omega (arith, l))
  reached-implied core all held f (suc n) k l h r = ⊎_elim
      (λ (a : 0 < (node_at s k).level). by a (node_at s k).reason refl (λ o b d y. reached-implied core all held f n o b d y))
      (λ (a : (node_at s k).level ≤ 0). implied_alone held core (literal_at s k) (fixed-at s w held f (suc k) k (omega arith) h (omega (arith, a))))
      (cases_lt 0 (node_at s k).level)
    where
      others : (q : Reason) → (node_at s k).reason ≡ q →
          ((o : ℕ) → o < n → o < length s.trail → IsReachedFrom s failed (literal_at s o) → Implied held core (literal_at s o)) → (m : Literal) →
          m ∈ implying_clause s (literal_at s k) q → IsOnTrailBefore s k (opposite m) → Implied held core (opposite m)
      others q e rec m i (o, b, d) =
          let t : opposite m ∈ s.trail = subst (λ x. x ∈ s.trail) d (∈-get_or s.trail o 0 (omega (arith, b, h))) in
          let i' : opposite (opposite m) ∈ reason_clause s (literal_at s k) =
          subst (λ x. x ∈ reason_clause s (literal_at s k)) (sym (opposite_twice m)) (subst (λ x. m ∈ implying_clause s (literal_at s k) x) (sym e) i) in
          let y : IsReachedFrom s failed (opposite m) = InReason (literal_at s k) r (∈-get_or s.trail k 0 h) i'
          (λ z. no-clash s w (opposite m) t (subst (λ x. x ∈ s.trail) (sym z) (∈-get_or s.trail k 0 h))) in
          subst (λ x. Implied held core x) d (rec o (omega (arith, b, l)) (omega (arith, b, h)) (subst (IsReachedFrom s failed) (sym d) y))

      by : 0 < (node_at s k).level → (q : Reason) → (node_at s k).reason ≡ q →
          ((o : ℕ) → o < n → o < length s.trail → IsReachedFrom s failed (literal_at s o) → Implied held core (literal_at s o)) →
          Implied held core (literal_at s k)
      by a reason.Unit e rec = Known (all (literal_at s k) (unit-decided k h a e) r)
      by a (reason.Binary ms) e rec = implied-by s w held core f k (reason.Binary ms) refl (subst (IsReason s k) e (w.reason_is k h))
          (others (reason.Binary ms) e rec)
      by a (reason.Long p) e rec = implied-by s w held core f k (reason.Long p) refl (subst (IsReason s k) e (w.reason_is k h)) (others (reason.Long p) e rec)

  core-conflicts : (core : List Literal) → failed ∈ core → ((l : Literal) → IsDecided s l → IsReachedFrom s failed l → l ∈ core) →
      (held : List Clause) → ViewFits held s → Conflicts held core
  core-conflicts core i all held f =
      let (k, a, e) = place_in (opposite failed) s.trail 0 false_now in
      let r : IsReachedFrom s failed (opposite failed) = AtStart (inl (opposite_twice failed)) in
      implied_clash held core failed (Known i)
      (subst (λ x. Implied held core x) e (reached-implied core all held f (suc k) k (omega arith) a (subst (IsReachedFrom s failed) (sym e) r)))

  -- The core is found once the trail was walked over.
  pub core-end : (core : List Literal) (flags : List Bool) → CoreWalk s failed core flags 0 → ListsFailedCore s failed core
  core-end core flags u = record {
    failed_in = u.failed_in;
    decided = λ l h. ⊎_elim inl (λ (j, o, b, e, d, r). inr d) (u.known l h);
    reached = λ l h. ⊎_elim inl (λ (j, o, b, e, d, r). inr r) (u.known l h);
    complete = all;
    distinct = u.distinct;
    conflicts = λ held f. core-conflicts core u.failed_in all held f;
  }
    where
      all : (l : Literal) → IsDecided s l → IsReachedFrom s failed l → l ∈ core
      all l (q, a, e) r =
          subst (λ x. x ∈ core) e
          (u.complete (decision_at s q) (omega arith) (w.decided q a).0 (q, a, refl) (subst (IsReachedFrom s failed) (sym e) r))

-- A step of the walk, as it reads the literal before place i and its flag.
module _ {s : View} {failed : Literal} {core : List Literal} {flags : List Bool} {i : ℕ} {t : List ℕ} {x : ℕ} (w : WellFormed s)
    (false_now : opposite failed ∈ s.trail) (u : CoreWalk s failed core flags i) (p : 0 < i) (te : t ≡ s.trail) (is : x ≡ get_or t (i - 1) x) where
  before : CoreWalk s failed core flags (suc (i - 1))
  before = let q : i ≡ suc (i - 1) = omega (arith, p) in subst (λ k. CoreWalk s failed core flags k) q u

  literal-is : x ≡ literal_at s (i - 1)
  literal-is =
      let b = u.within in
      let n = ap (λ (y : List ℕ). length y) te in
      element t (i - 1) x (omega (arith, b, p, n)) is ∙ ap (λ (y : List ℕ). get_or y (i - 1) 0) te

  pub pass-true : x ∈ s.trail
  pass-true = let b = u.within in subst (λ y. y ∈ s.trail) (sym literal-is) (∈-get_or s.trail (i - 1) 0 (omega (arith, b, p)))

  pub pass-skip : (v : ℕ) → v ≡ x → get_or flags v false ≡ false → CoreWalk s failed core flags (i - 1)
  pass-skip v e n = core-skip s w failed false_now core flags (i - 1) before (subst (λ y. get_or flags y false ≡ false) (e ∙ literal-is) n)

  pub pass-next : (v : ℕ) → v ≡ x → get_or flags v false ≡ true → (next : List Literal) (g : List Bool) →
      next ≡ core ++ decided_by x (node_of s x).reason → FlagsCauses s (causes_of s.clauses (node_of s x).reason) (set flags x false) g →
      CoreWalk s failed next g (i - 1)
  pass-next v e m next g ne c =
      core-pass s w failed false_now core flags (i - 1) before (subst (λ y. get_or flags y false ≡ true) (e ∙ literal-is) m) next g
      (subst (λ y. next ≡ core ++ decided_by y (node_of s y).reason) literal-is ne)
      (subst (λ y. FlagsCauses s (causes_of s.clauses (node_of s y).reason) (set flags y false) g) literal-is c)

-- the walk came to its end
pub at-start : {s : View} {failed : Literal} {core : List Literal} {flags : List Bool} {i : ℕ} → i ≤ 0 → CoreWalk s failed core flags i →
    CoreWalk s failed core flags 0
at-start {s = s} {failed = failed} {core = core} {flags = flags} {i = i} h u = let e : i ≡ 0 = omega (arith, h) in
    subst (λ k. CoreWalk s failed core flags k) e u

-- flags that were lent are given back, none of them set
pub flags-back : (old news rest : List Bool) (len n : ℕ) → len ≡ length old → len ≡ length news → old ≡ replicate n false →
    ((l : ℕ) → get_or news l false ≡ false) → take len (news ++ rest) ≡ old
flags-back old news rest len n a b e h = clear-given-back news rest len n b (a ∙ ap (λ xs. length xs) e ∙ length-replicate n false) h ∙ sym e

-- the literals of a true literal's reason, as they are read
pub causes-read : (s : View) (ks : List StoredClause) (nodes : List ImplNode) (l v : ℕ) (r : Reason) (lits : List ℕ) → ks ≡ s.clauses →
    nodes ≡ s.nodes → v ≡ variable_of l → r ≡ (get_or nodes v no_node).reason → lits ≡ causes_of ks r → lits ≡ causes_of s.clauses (node_of s l).reason
causes-read s ks nodes l v r lits ke ne ve re le = le ∙ ap (λ x. causes_of x r) ke ∙ ap (λ x. causes_of s.clauses x) (reason-read s nodes l v r ne ve re)
