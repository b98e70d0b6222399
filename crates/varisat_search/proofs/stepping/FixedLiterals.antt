-- The literals of level 0 as a search propagates, decides, backtracks and learns.
use Rattle.std.proofs.Common.{◌≡◌, ℕ, zero, suc, ◌<◌, ◌≤◌, true, List, [], ◌∷◌, ◌++◌, ◌⊎◌, length, get_or, take, inl, inr, ⊎_elim, refl, sym, ap, ap₂, ◌∙◌, subst, arith, length-append}
use Rattle.std.proofs.lemmas.List.{take-append-le, take-take, length-take-le}
use Rattle.std.proofs.lemmas.Bool.{cases_lt}
use Rattle.varisat_theory.specs.promises.Membership.{◌∈◌}
use Rattle.varisat_theory.specs.promises.Literals.{Literal, Clause, variable_of, opposite}
use Rattle.varisat_theory.specs.promises.Propagation.{LeavesOnly, IsComplete}
use Rattle.varisat_theory.proofs.clauses.Held.{same_clauses_find}
use Rattle.varisat_theory.proofs.clauses.Members.{∈-append_left}
use Rattle.varisat_theory.proofs.clauses.Places.{∈-get_or, place_in}
use Rattle.varisat_clause.specs.Stored.{literals_of}
use Rattle.varisat_theory.specs.promises.Derivations.{Line}
use Rattle.varisat_prop.specs.declared.prop.graph.Reason.{Reason}
use Rattle.varisat_prop.specs.declared.prop.graph.Reason.TheVariants as reason
use Rattle.varisat_prop.specs.declared.prop.graph.Conflict.{Conflict}
use Rattle.varisat_prop.specs.View.{View, pairs_from, kept, clause_at, literal_at, decision_at, node_at, is_clause, IsOnTrailBefore, Implies, IsReason, WellFormed, GrowsTrail}
use Rattle.varisat_prop.specs.Changes.{IsConflicting, decided_on}
use Rattle.varisat_prop.specs.Looks.{Propagates}
use Rattle.varisat_prop.specs.Watches.{WatchesHoldTo, IsImpliedTo}
use Rattle.varisat_prop.proofs.views.ViewGrowth.{append-nil, literal-stays}
use Rattle.varisat_prop.proofs.watching.WatchesHold.{settled-complete, pairs-complete, complete-both}
use Rattle.varisat_analysis.specs.Learned.{implying_clause}
use Rattle.varisat_analysis.proofs.WellFormedViews.{named-kept, kept-reordered, reason-kept, reason-first, same-place}
use Rattle.varisat_search.specs.declared.context.Context.{Context}
use Rattle.varisat_search.specs.Contexts.{view, IsReady}
use Rattle.varisat_search.specs.DueReductions.{BeginsStep}
use Rattle.varisat_search.specs.RootSimplified.{IsRootUnpropagated, before_decisions, fixed_literals, FixesNone, KeepsFixed}
use Rattle.varisat_search.specs.Steps.{IsCut}
use Rattle.varisat_search.proofs.stepping.PropagatedBeforeDecisions.{take-whole}
use Rattle.varisat_search.proofs.stepping.RestartSteps.{restart-elim, restart-undecided}
use Rattle.varisat_search.proofs.stepping.StepWithoutLines.{proved_back, clause_or_none}
use Rattle.varisat_search.proofs.stepping.ViewSearch.{kept_same}

-- 1. The first decision stays where it is.
before-more : (ds more : List ℕ) (ls tail : List Literal) → 0 < length ds → get_or ds 0 0 ≤ length ls →
    before_decisions (ds ++ more) (ls ++ tail) ≡ before_decisions ds ls
before-more [] more ls tail h i = absurd (omega (arith, h))
before-more (p ∷ ds) more ls tail h i = take-append-le p ls tail i

-- a decision is made
before-decided : (ds : List ℕ) (ls : List Literal) (l : Literal) → (0 < length ds → get_or ds 0 0 ≤ length ls) →
    before_decisions (ds ++ length ls ∷ []) (ls ++ l ∷ []) ≡ before_decisions ds ls
before-decided [] ls l h = take-whole ls (l ∷ [])
before-decided (p ∷ ds) ls l h = take-append-le p ls (l ∷ []) (h (omega arith))

pub fixed-decided : (s : View) (l : Literal) → WellFormed s → FixesNone s (decided_on s l)
fixed-decided s l w = (
  before-decided s.decisions s.trail l (λ h. let d = (w.decided 0 h).0 in omega (arith, d)),
  λ u. let n = ap (λ (xs : List ℕ). length xs) u.0 in let m = length-append s.decisions (length s.trail ∷ []) in absurd (omega (arith, n, m)),
)

-- nothing happens where all is propagated
pub fixed-still : (s : View) → s.queue_head ≡ length s.trail → FixesNone s s
fixed-still s e = (refl, λ u. let h = u.1 in absurd (omega (arith, h, e)))

-- decisions above the level are undone, and a literal becomes true
before-cut : (ds : List ℕ) (ls : List Literal) (level : ℕ) (l : Literal) → level < length ds → get_or ds level 0 < length ls →
    (0 < level → get_or ds 0 0 < get_or ds level 0) →
    (before_decisions (take level ds) (take (get_or ds level 0) ls ++ l ∷ []) ≡ before_decisions ds ls)
    ⊎ ((take level ds ≡ []) × (get_or ds level 0 < length (take (get_or ds level 0) ls ++ l ∷ [])))
before-cut [] ls level l h i o = absurd (omega (arith, h))
before-cut (p ∷ ds) ls zero l h i o =
    let n = length-append (take p ls) (l ∷ []) in
    let m = length-take-le p ls (omega (arith, i)) in
    inr (refl, omega (arith, n, m))
before-cut (p ∷ ds) ls (suc j) l h i o =
    let q = get_or ds j 0 in
    let m = length-take-le q ls (omega (arith, i)) in
    let a = o (omega arith) in
    inl (take-append-le p (take q ls) (l ∷ []) (omega (arith, a, m)) ∙ take-take p q ls (omega (arith, a)))

pub fixed-learned : (s t z : View) (level : ℕ) (l : Literal) → WellFormed s → level < length s.decisions → IsCut s t level →
    z.trail ≡ t.trail ++ l ∷ [] → z.decisions ≡ t.decisions → z.queue_head ≡ t.queue_head → KeepsFixed s z
fixed-learned s t z level l w h c a b d =
    let trail : z.trail ≡ take (decision_at s level) s.trail ++ l ∷ [] = a ∙ ap (λ (x : View). x.trail ++ l ∷ []) c.rest in
    let decisions : z.decisions ≡ take level s.decisions = b ∙ ap (λ (x : View). x.decisions) c.rest in
    let head : z.queue_head ≡ decision_at s level = d ∙ ap (λ (x : View). x.queue_head) c.rest in
    ⊎_elim
    (λ e. inl (ap₂ before_decisions decisions trail ∙ e))
    (λ (e, i). inr (decisions ∙ e, let n = ap (λ (xs : List Literal). length xs) trail in omega (arith, n, i, head)))
    (before-cut s.decisions s.trail level l h (w.decided level h).0 (λ o. w.rising 0 level o h))

-- decisions above the level are undone
before-undone : (ds : List ℕ) (ls : List Literal) (level : ℕ) → level < length ds → (0 < level → get_or ds 0 0 < get_or ds level 0) →
    before_decisions (take level ds) (take (get_or ds level 0) ls) ≡ before_decisions ds ls
before-undone [] ls level h o = absurd (omega (arith, h))
before-undone (p ∷ ds) ls zero h o = refl
before-undone (p ∷ ds) ls (suc j) h o = let a = o (omega arith) in take-take p (get_or ds j 0) ls (omega (arith, a))

fixed-undone : (s t : View) (level : ℕ) → WellFormed s → level < length s.decisions → IsCut s t level → fixed_literals t ≡ fixed_literals s
fixed-undone s t level w h c = ap fixed_literals c.rest ∙ before-undone s.decisions s.trail level h (λ o. w.rising 0 level o h)

-- so a step begins, whose inprocessing may make more literals true
pub begun-fixed : {A : Type 0} {are : List Line → Type 0} (x z : Context A) → IsReady x → BeginsStep are x z →
    KeepsFixed (view x) (view z) × (IsRootUnpropagated (view x) → IsRootUnpropagated (view z))
begun-fixed x z r b =
    let s = view x in
    let t = view b.begun in
    let level = x.assumptions.levels in
    let restarted : fixed_literals t ≡ fixed_literals s =
    restart-elim x.schedule level s t (λ u. fixed_literals u ≡ fixed_literals s) b.restarts refl (fixed-undone s t level r.well) in (
      ⊎_elim (λ e. inl (e ∙ restarted)) inr b.inprocesses.fixes,
      λ u.
          let n = ap (λ (ds : List ℕ). length ds) u.0 in
          b.inprocesses.unpropagated (subst IsRootUnpropagated (sym (restart-undecided x.schedule level s t b.restarts (omega (arith, n)))) u),
    )

-- at level 0 all literals are of that level
pub fixed-undecided : (s : View) → s.decisions ≡ [] → fixed_literals s ≡ s.trail
fixed-undecided s e = ap (λ (ds : List ℕ). before_decisions ds s.trail) e

-- 2. Where propagation has come to its end.
pub ready-complete : {A : Type 0} {x : Context A} → IsReady x → x.trail.queue_head ≡ length x.trail.literals → IsComplete (kept (view x)) x.trail.literals
ready-complete {x = x} r e =
    let s = view x in
    complete-both (literals_of s.clauses) (pairs_from 0 s.binary) s.trail (settled-complete s r.well (subst (WatchesHoldTo s) e r.propagated.settled))
    (pairs-complete s r.well (subst (IsImpliedTo s) e r.propagated.implied))

-- no clause is false
pub none-conflicting : (s : View) → WellFormed s → IsComplete (kept s) s.trail → (f : Conflict) → IsConflicting s f → ⊥
none-conflicting s w q f (named, is_false) =
    let (d, h, same) = named-kept s w f named in
    q.no_false (d, h, λ m i. is_false m (same.0 m i))

-- also none that was false before
pub none-was-conflicting : (s t : View) → WellFormed s → GrowsTrail s t → IsComplete (kept t) t.trail → (f : Conflict) → IsConflicting s f → ⊥
none-was-conflicting s t w g q f (named, is_false) =
    let (d, h, same) = named-kept s w f named in
    let (e, i, more) = same_clauses_find (kept s) (kept t) (kept_same s t g.clauses g.binary) d h in
    let (tail, is) = g.trail_more in
    q.no_false (e, i, λ m j. subst (λ ls. opposite m ∈ ls) (sym is) (∈-append_left (opposite m) s.trail tail (is_false m (same.0 m (more.0 m j)))))

-- What is propagated at level 0 where nothing is left to be propagated: the trail gets no longer.
module _ (s t : View) (w : WellFormed s) (p : Propagates s t) (none : s.decisions ≡ []) (q : IsComplete (kept s) s.trail) where
  before : (x : Literal) → IsOnTrailBefore t (length s.trail) x → x ∈ s.trail
  before x (j, a, e) = subst (λ y. y ∈ s.trail) (sym (literal-stays s t p.grows j a) ∙ e) (∈-get_or s.trail j 0 a)

  -- the other literals of a reason are false before
  others : (r : Reason) → IsReason t (length s.trail) r → (m : Literal) → m ∈ implying_clause t (literal_at t (length s.trail)) r →
      (m ≡ literal_at t (length s.trail)) ⊎ (opposite m ∈ s.trail)
  others reason.Unit h m i = absurd i
  others (reason.Binary ms) (n, e, a, b) m (inl i) = inl i
  others (reason.Binary ms) (n, e, a, b) m (inr i) =
      inr (subst (λ ks. m ∈ ks → opposite m ∈ s.trail) (sym e)
      (λ j. ⊎_elim (λ o. before (opposite m) (subst (λ y. IsOnTrailBefore t (length s.trail) (opposite y)) (sym o) b)) (λ o. absurd o) j) i)
  others (reason.Long n) (place, implies) m i = by (clause_at t n) implies i
    where
      by : (c : Clause) → Implies t c (length s.trail) → m ∈ c → (m ≡ literal_at t (length s.trail)) ⊎ (opposite m ∈ s.trail)
      by [] h j = absurd h
      by (l ∷ c) (e, f) (inl j) = inl (j ∙ e)
      by (l ∷ c) (e, f) (inr j) = inr (before (opposite m) (f m j))

  module _ (longer : length s.trail < length t.trail) where
    abbrev x : Literal
    x = literal_at t (length s.trail)

    level-zero : (node_at t (length s.trail)).level ≡ 0
    level-zero =
        let a = p.well.levels_to (length s.trail) longer in
        let n = ap (λ (xs : List ℕ). length xs) (p.decisions ∙ none) in
        omega (arith, a, n)

    implied : is_clause (node_at t (length s.trail)).reason ≡ true → x ∈ s.trail
    implied c =
        let r = (node_at t (length s.trail)).reason in
        let is = p.well.reason_is (length s.trail) longer in
        let (d, i, same) = reason-kept t p.well (length s.trail) r c is in
        let (f, j, more) = kept-reordered s t p.grows.clauses p.grows.binary d i in
        let first = reason-first t p.well (length s.trail) r c is in
        let leaves : LeavesOnly s.trail f x = λ m h. others r is m (same.0 m (more.1 m h)) in
        q.closed f x j (more.0 x (same.1 x first)) leaves

    was-there : x ∈ s.trail
    was-there =
        ⊎_elim implied
        (λ e. (proved_back s t w p.well p.grows x (∈-get_or t.trail (length s.trail) 0 longer, level-zero, e)).0)
        (clause_or_none (node_at t (length s.trail)).reason)

    no-longer : ⊥
    no-longer =
        let (j, a, e) = place_in x s.trail 0 was-there in
        let same = literal-stays s t p.grows j a ∙ e in
        let b : j < length t.trail = omega (arith, a, longer) in
        let z = same-place t p.well j (length s.trail) b longer (ap (λ l. variable_of l) same) in
        omega (arith, z, a)

  pub still-propagated : t.trail ≡ s.trail
  still-propagated =
      let (more, e) = p.grows.trail_more in
      go more e
    where
      go : (more : List Literal) → t.trail ≡ s.trail ++ more → t.trail ≡ s.trail
      go [] e = e ∙ append-nil s.trail
      go (m ∷ ms) e =
          let n = ap (λ (xs : List Literal). length xs) e in
          let k = length-append s.trail (m ∷ ms) in
          absurd (no-longer (omega (arith, n, k)))

-- Propagation makes nothing true at level 0 that it had not made true before.
pub fixed-propagated : {A : Type 0} (x : Context A) (t : View) → IsReady x → Propagates (view x) t → (IsRootUnpropagated (view x) → ⊥) → FixesNone (view x) t
fixed-propagated x t r p calm = by x.trail.decisions refl
  where
    s : View
    s = view x

    by : (ds : List ℕ) → ds ≡ x.trail.decisions → FixesNone s t
    by [] e =
        let head : x.trail.queue_head ≡ length x.trail.literals = ⊎_elim (λ h. absurd (calm (sym e, h)))
        (λ h. let a = r.well.head in omega (arith, a, h)) (cases_lt x.trail.queue_head (length x.trail.literals)) in
        let trail = still-propagated s t r.well p (sym e) (ready-complete r head) in
        let n = ap (λ (xs : List Literal). length xs) trail in
        let up = p.grows.head in (
          ap₂ before_decisions p.decisions trail,
          λ u. let h = u.1 in absurd (omega (arith, h, n, up, head)),
        )
    by (d ∷ ds) e =
        let (more, is) = p.grows.trail_more in
        let n = ap (λ (xs : List ℕ). length xs) e in
        let first = (r.well.decided 0 (omega (arith, n))).0 in (
          ap₂ before_decisions (p.decisions ∙ sym (append-nil s.decisions)) is
              ∙ before-more s.decisions [] s.trail more (omega (arith, n)) (omega (arith, first)),
          λ u. let m = ap (λ (xs : List ℕ). length xs) (sym p.decisions ∙ u.0) in absurd (omega (arith, n, m)),
        )

pub fixes-through : (s t u : View) → FixesNone s t → FixesNone t u → FixesNone s u
fixes-through s t u (a, b) (c, d) = (c ∙ a, d)
