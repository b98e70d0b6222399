-- The walk of `resolve` back over the trail, down to the first unique implication point.
use Rattle.std.proofs.Common.{◌≡◌, ◌≢◌, ℕ, zero, suc, ◌+◌, ◌-◌, ◌^◌, ◌<◌, ◌≤◌, Bool, true, false, List, [], ◌∷◌, ◌++◌, length, get_or, set, ◌⊎◌, inl, inr, ⊎_elim, refl, sym, ap, ◌∙◌, subst, arith, add-one, get_or-set_same, get_or-set_other}
use Rattle.std.proofs.lemmas.Bool.{cases_lt}
use Rattle.varisat_theory.specs.promises.Membership.{◌∈◌, IsDistinct}
use Rattle.varisat_theory.specs.promises.Literals.{Literal, Clause, variable_of, opposite}
use Rattle.varisat_theory.specs.promises.Analysis.{AtStart, InReason}
use Rattle.varisat_theory.proofs.clauses.Members.{equal_or_not, ∈-append_left, ∈-append_right, ∈-append_cases, distinct_append}
use Rattle.varisat_theory.proofs.clauses.Places.{∈-get_or, place_in}
use Rattle.varisat_theory.proofs.clauses.Values.{opposite_twice, variable-opposite}
use Rattle.varisat_theory.proofs.clauses.Learning.{Pending, IsPassed, pending_start, pending_skip, pending_resolve, pending_end}
use Rattle.varisat_prop.specs.declared.prop.graph.Reason.{Reason}
use Rattle.varisat_prop.specs.declared.prop.graph.Reason.TheVariants as reason
use Rattle.varisat_prop.specs.declared.prop.graph.Conflict.{Conflict}
use Rattle.varisat_prop.specs.declared.prop.graph.Conflict.TheVariants as conflict
use Rattle.varisat_prop.specs.Changes.{others_of, causes_of, named_in, NamesKeptClause, IsConflicting}
use Rattle.varisat_prop.proofs.views.ReadElements.{element}
use Rattle.varisat_prop.specs.View.{View, clause_at, literal_at, decision_at, node_of, node_at, level_of, is_clause, IsOnTrailBefore, Implies, IsReason, WellFormed, ViewFits}
use Rattle.varisat_analysis.specs.Flags.{IsFlagged}
use Rattle.varisat_analysis.specs.Bumps.{literals_among, AreVariablesAbove}
use Rattle.varisat_analysis.proofs.BumpedVariables.{among-append}
use Rattle.varisat_analysis.specs.Learned.{current_level, IsOfCurrentLevel, implying_clause, names_of, reason_clause, IsReachedDownTo, IsImplicationPoint, IsFirstPoint, IsInvolved, IsOfConflict, IsReasonOf}
use Rattle.varisat_analysis.specs.Marks.{Marking, IsDeepConflict, IsClean, IsMarkOf, OfClause, OfCurrentLevel, Marks, is_open, open_below, one_if, AreFalseBefore, AreOfKept, AddsMarks, AddsReason, IsResolved}
use Rattle.varisat_analysis.proofs.CopiedLiterals.{distinct-push}
use Rattle.varisat_analysis.proofs.AnalysisMarks.{mark-of}
use Rattle.varisat_analysis.proofs.WellFormedViews.{named-kept, reason-kept, reason-first, reason-named, inside-at, level-opposite, level-same, same-place, place-of, stands-∈, no-clash, true-same, false-same, level-small, causes-before, has-late, fixed-implied, last-in}
use Rattle.varisat_prop.proofs.trails.TrailValues.{trail-short}
use Rattle.varisat_analysis.proofs.AnalysisOpen.{count-small, open-is, open-level, open-marked, closed-unmarked, open-same, count-same, count-none, count-some}

-- the literal is of the current level, and marked
abbrev pub Seen : View → List Bool → Literal → Type 0
Seen s f x = IsFlagged f (variable_of x) × (level_of s x ≡ current_level s)

-- The clause with the name was resolved on the way from the trail's end down to place i.
pub data WasResolved (s : View) (cf : Conflict) (i : ℕ) (p : Conflict) : Type 0 where
  AtConflict : p ≡ cf → WasResolved s cf i p
  AtPlace : (j : ℕ) → i ≤ j → IsOfCurrentLevel s j → IsReachedDownTo s cf j (literal_at s j) → p ∈ names_of (literal_at s j) (node_at s j).reason →
      WasResolved s cf i p

-- The names are those of the clauses that were resolved, each once.
pub record ListsResolved (s : View) (cf : Conflict) (i : ℕ) (involved : List Conflict) : Type 0 where
  pub only : (p : Conflict) → p ∈ involved → WasResolved s cf i p
  pub all : (p : Conflict) → WasResolved s cf i p → p ∈ involved
  pub distinct : IsDistinct involved

-- The variables that were met are those above level 0 of the clauses that were resolved, each once. Those that are marked are
-- among them, and each other one stands at a place from i on.
pub record HasMet (s : View) (mark : Marking) (i : ℕ) : Type 0 where
  pub above : AreVariablesAbove s.nodes (literals_among s.clauses mark.involved) mark.met
  pub marked : (v : ℕ) → IsFlagged mark.flags v → v ∈ mark.met
  pub behind : (v : ℕ) → v ∈ mark.met → IsFlagged mark.flags v ⊎ ((k : ℕ) × (i ≤ k) × (k < length s.trail) × (variable_of (literal_at s k) ≡ v))

-- The places from i on were walked over; `count` places before i are of the current level and marked.
pub record Walk (s : View) (cf : Conflict) (mark : Marking) (count i : ℕ) : Type 0 where
  pub within : i ≤ length s.trail
  pub marks : Marks s i mark
  pub count_is : count ≡ open_below s mark.flags i
  pub some : 0 < count
  pub conflict : IsConflicting s cf
  -- what is marked is reached, over whatever reasons stand behind i
  pub sound : (p k : ℕ) → p < i → k < i → IsOfCurrentLevel s k → IsFlagged mark.flags (variable_of (literal_at s k)) → IsReachedDownTo s cf p (literal_at s k)
  -- what the false clause or the reason of a reached literal behind i makes false is marked
  pub start : (k : ℕ) → k < i → IsOfCurrentLevel s k → opposite (literal_at s k) ∈ named_in s.clauses cf → IsFlagged mark.flags (variable_of (literal_at s k))
  pub passed : (j k : ℕ) → i ≤ j → IsOfCurrentLevel s j → IsReachedDownTo s cf j (literal_at s j) → k < i → IsOfCurrentLevel s k →
      opposite (literal_at s k) ∈ reason_clause s (literal_at s j) → IsFlagged mark.flags (variable_of (literal_at s k))
  pub none_later : (q : ℕ) → i ≤ q → IsImplicationPoint s cf q → ⊥
  pub pending : (held : List Clause) → ViewFits held s → Pending held mark.clause s.trail (Seen s mark.flags) i
  pub involved : ListsResolved s cf i mark.involved
  pub met : HasMet s mark i

-- what is reached from further down is reached from further up too
pub reached-down : (s : View) (cf : Conflict) (p q : ℕ) (x : Literal) → q ≤ p → IsReachedDownTo s cf p x → IsReachedDownTo s cf q x
reached-down s cf p q x l (AtStart h) = AtStart h
reached-down s cf p q x l (InReason y r (j, a, b, e) o n) = InReason y (reached-down s cf p q y l r) (j, omega (arith, a, l), b, e) o n

-- what was resolved is so further down
resolved-down : (s : View) (cf : Conflict) (j : ℕ) (p : Conflict) → WasResolved s cf (suc j) p → WasResolved s cf j p
resolved-down s cf j p (AtConflict e) = AtConflict e
resolved-down s cf j p (AtPlace k l o r e) = AtPlace k (omega (arith, l)) o r e

-- the marks say nothing of what was resolved
marks-with : (s : View) (i : ℕ) (mark : Marking) (involved : List Conflict) → Marks s i mark → Marks s i (record mark { involved = involved })
marks-with s i mark involved k = record {
  lower = k.lower;
  marked = k.marked;
  distinct = k.distinct;
  met = k.met;
  listed = k.listed;
  known = λ v m. mark-of s i mark (record mark { involved = involved }) v (λ y j. j) (λ j. j) (k.known v m);
}

-- the first literal of a clause, if it has one
abbrev first_of : Clause → List Literal
first_of [] = []
first_of (x ∷ c) = x ∷ []

-- a reason's clause has the literal first
first-is : (s : View) (j : ℕ) (r : Reason) → is_clause r ≡ true → IsReason s j r → first_of (implying_clause s (literal_at s j) r) ≡ literal_at s j ∷ []
first-is s j reason.Unit c h = absurd cc
first-is s j (reason.Binary ms) c h = refl
first-is s j (reason.Long p) c h = by (clause_at s p) h.1
  where
    by : (d : Clause) → Implies s d j → first_of d ≡ literal_at s j ∷ []
    by [] g = absurd g
    by (x ∷ d) g = ap (λ y. y ∷ []) g.0

one-same : (x y : Literal) → x ∷ [] ≡ y ∷ [] → x ≡ y
one-same x y e = cc

-- a reason that has a name is a clause
named-clause : (l : Literal) (r : Reason) (g : Conflict) → g ∈ names_of l r → is_clause r ≡ true
named-clause l reason.Unit g i = absurd i
named-clause l (reason.Binary ms) g i = refl
named-clause l (reason.Long p) g i = refl

-- a clause has one name
clause-named : (l : Literal) (r : Reason) → is_clause r ≡ true → (g : Conflict) × (names_of l r ≡ g ∷ [])
clause-named l reason.Unit c = absurd cc
clause-named l (reason.Binary ms) c = (conflict.Binary (l ∷ ms), refl)
clause-named l (reason.Long p) c = (conflict.Long p, refl)

-- the others of a reason's clause are its causes
causes-are : (s : View) (l : Literal) (r : Reason) → causes_of s.clauses r ≡ others_of (implying_clause s l r)
causes-are s l reason.Unit = refl
causes-are s l (reason.Binary ms) = refl
causes-are s l (reason.Long p) = refl

module _ (s : View) (w : WellFormed s) (cf : Conflict) where
  -- a literal is reached over reasons of later literals alone
  pub reached-sharp : (p k : ℕ) (x : Literal) → IsReachedDownTo s cf p x → k < length s.trail → literal_at s k ≡ x → p ≤ k → IsReachedDownTo s cf k x
  reached-sharp p k x (AtStart h) l e b = AtStart h
  reached-sharp p k x (InReason y r (j, a, pr, e') o n) l e b =
      let xt : x ∈ s.trail = subst (λ z. z ∈ s.trail) e (∈-get_or s.trail k 0 l) in
      let (k', d, e'') = causes-before s w j x pr.0 xt (subst (λ z. opposite x ∈ reason_clause s z) (sym e') o) in
      let jl = pr.0 in
      let q : k' ≡ k = same-place s w k' k (omega (arith, d, jl)) l (ap variable_of (e'' ∙ sym e)) in
      let kj : k < j = omega (arith, q, d) in
      InReason y (reached-down s cf j k y (omega (arith, kj)) (reached-sharp p j y r pr.0 e' (omega (arith, a)))) (j, kj, pr, e') o n

  pub reached-marked : (mark : Marking) (count i : ℕ) → Walk s cf mark count i → (p k : ℕ) (x : Literal) → i ≤ p + 1 → IsReachedDownTo s cf p x →
      literal_at s k ≡ x → k < i → IsOfCurrentLevel s k → IsFlagged mark.flags (variable_of (literal_at s k))
  reached-marked mark count i u p k x l (AtStart h) e a b = u.start k a b (subst (λ z. opposite z ∈ named_in s.clauses cf) (sym e) h)
  reached-marked mark count i u p k x l (InReason y r (j, d, pr, e') o n) e a b =
      let r' : IsReachedDownTo s cf j (literal_at s j) = subst (IsReachedDownTo s cf j) (sym e') (reached-sharp p j y r pr.0 e' (omega (arith, d))) in
      u.passed j k (omega (arith, l, d)) pr r' a b
      (subst (λ z. opposite (literal_at s k) ∈ reason_clause s z) (sym e') (subst (λ z. opposite z ∈ reason_clause s y) (sym e) o))

  -- the places behind one of the current level are of the current level
  pub current-above : (k j : ℕ) → 0 < current_level s → IsOfCurrentLevel s k → k ≤ j → j < length s.trail → IsOfCurrentLevel s j
  current-above k j d (l, e) a b =
      let n = last-in s w d in
      let m = w.levels_to j b in (
        b,
        ⊎_elim
            (λ (x : (node_at s j).level < current_level s).
            let y : j < decision_at s (length s.decisions - 1) = w.levels_up j (length s.decisions - 1) b n (omega (arith, x)) in
            let z = w.levels_down k (length s.decisions - 1) l n (omega (arith, y, a)) in
            absurd (omega (arith, z, e, d)))
            (λ (x : current_level s ≤ (node_at s j).level). omega (arith, x, m))
            (cases_lt (node_at s j).level (current_level s)),
      )

  -- a literal of the current level that is not its first has a clause as its reason
  pub not-unit : (k j : ℕ) → 0 < current_level s → IsOfCurrentLevel s k → k < j → IsOfCurrentLevel s j → (node_at s j).reason ≡ reason.Unit → ⊥
  not-unit k j d (l, e) a (b, g) r = ⊎_elim
      (λ i.
      let (q, x, y) = place_in j s.decisions 0 i in
      let n = last-in s w d in
      let down : decision_at s (length s.decisions - 1) ≤ k = ⊎_elim
      (λ (z : k < decision_at s (length s.decisions - 1)). let o = w.levels_down k (length s.decisions - 1) l n z in absurd (omega (arith, o, e, d)))
      (λ (z : decision_at s (length s.decisions - 1) ≤ k). z)
      (cases_lt k (decision_at s (length s.decisions - 1))) in
      ⊎_elim
      (λ (z : q < length s.decisions - 1). let o = w.rising q (length s.decisions - 1) z n in absurd (omega (arith, o, y, down, a)))
      (λ (z : length s.decisions - 1 ≤ q).
      let v : q ≡ length s.decisions - 1 = omega (arith, z, x) in
      let u : decision_at s q ≡ decision_at s (length s.decisions - 1) = ap (decision_at s) v in
      absurd (omega (arith, u, y, down, a)))
      (cases_lt q (length s.decisions - 1)))
      (λ z. absurd (omega (arith, z, g, d)))
      (subst (IsReason s j) r (w.reason_is j b))

  -- a false literal of a marked variable below the current level is in the clause
  pub marks-kept : (mark : Marking) (i : ℕ) (m : Literal) → Marks s i mark → opposite m ∈ s.trail → level_of s m < current_level s →
      IsFlagged mark.flags (variable_of m) → m ∈ mark.clause
  marks-kept mark i m k h l a = by (k.known (variable_of m) a)
    where
      by : IsMarkOf s i mark (variable_of m) → m ∈ mark.clause
      by (OfClause y j e z) = subst (λ q. q ∈ mark.clause) (false-same s w y m (k.lower y j).false_now h e) j
      by (OfCurrentLevel y j p e) = let g = level-same s (literal_at s y) m e in let o = p.1 in absurd (omega (arith, g, o, l))

  -- a literal that was added is in the clause, or seen, or false at level 0
  passed-literal : (mark : Marking) (i : ℕ) (m : Literal) (held : List Clause) → i ≤ length s.trail → Marks s i mark → ViewFits held s →
      (0 < level_of s m → IsFlagged mark.flags (variable_of m)) → IsOnTrailBefore s i (opposite m) → (m ∈ mark.clause)
      ⊎ IsPassed held s.trail (Seen s mark.flags) i m
  passed-literal mark i m held l k h a b =
      let ft = stands-∈ s w i (opposite m) l b in
      let g = level-opposite s m in
      let o = level-small s w m ft in
      ⊎_elim
      (λ (z : 0 < level_of s m). ⊎_elim
      (λ (y : level_of s m < current_level s). inl (marks-kept mark i m k ft y (a z)))
      (λ (y : current_level s ≤ level_of s m). let (j, p, q) = b in inr
      (inl (j, p, q, (subst (IsFlagged mark.flags) (sym (variable-opposite m)) (a z), omega (arith, y, o, g)))))
      (cases_lt (level_of s m) (current_level s)))
      (λ (z : level_of s m ≤ 0). inr (inr (fixed-implied s w held h m ft (omega (arith, z)))))
      (cases_lt 0 (level_of s m))

  pub walk-start : (n : ℕ) (mark begun next : Marking) → IsDeepConflict s cf → IsClean mark → begun ≡ record mark { involved = cf ∷ [] } →
      AddsMarks s (named_in s.clauses cf) n begun next → Walk s cf next n (length s.trail)
  walk-start n mark begun next dc clean eb ab = record {
    within = omega arith;
    marks = marks-now;
    count_is = count-now;
    some = some-now;
    conflict = h;
    sound = λ p k i j o r. AtStart (found k o r);
    start = λ k i o r. subst (IsFlagged next.flags) (variable-opposite (literal_at s k))
        (a.all (opposite (literal_at s k)) r (let g = level-opposite s (literal_at s k) in let z = o.1 in omega (arith, g, z, d)));
    passed = λ j k i o r. let z = o.0 in absurd (omega (arith, z, i));
    none_later = λ j i r. let z = r.current.0 in absurd (omega (arith, z, i));
    pending = λ held k.
        let (y, z, same) = named-kept s w cf h.0 in
        let (x, i, o) = k.stored y z in
        pending_start held next.clause s.trail (Seen s next.flags) (length s.trail) x i
        (λ m r. let q = same.0 m (o.0 m r) in passed-literal next (length s.trail) m held (omega arith) marks-now k (a.all m q) (before m q));
    involved = record {
      only = λ p i. ⊎_elim (λ e. AtConflict e) (λ z. absurd z) (subst (λ x. p ∈ x) a.involved i);
      all = λ p i. subst (λ x. p ∈ x) (sym a.involved) (inl (alone p i));
      distinct = subst IsDistinct (sym a.involved) ((λ i. i), tt);
    };
    met = record {
      above = record {
        distinct = subst IsDistinct (sym met-is) a.met.distinct;
        all = λ l i b. marked-met (variable_of l) (a.all l (of-one l i) b);
        only = λ v i. let (l, j, b, e) = a.met.only v (subst (λ x. v ∈ x) met-is i) in (l, to-one l j, b, e);
      };
      marked = marked-met;
      behind = λ v i. inl (let (l, j, b, e) = a.met.only v (subst (λ x. v ∈ x) met-is i) in subst (IsFlagged next.flags) e (a.all l j b));
    };
  }
    where
      d : 0 < current_level s
      d = dc.deep

      h : IsConflicting s cf
      h = dc.conflict

      a : AddsMarks s (named_in s.clauses cf) n (record mark { involved = cf ∷ [] }) next
      a = subst (λ x. AddsMarks s (named_in s.clauses cf) n x next) eb ab

      alone : (p : Conflict) → WasResolved s cf (length s.trail) p → p ≡ cf
      alone p (AtConflict e) = e
      alone p (AtPlace j l o r e) = let z = o.0 in absurd (omega (arith, z, l))

      before : AreFalseBefore s (length s.trail) (named_in s.clauses cf)
      before m i = place-of s w (opposite m) (h.1 m i)

      of-conflict : AreOfKept s (named_in s.clauses cf)
      of-conflict m i = let (x, y, same) = named-kept s w cf h.0 in (x, y, same.1 m i)

      none : (v : ℕ) → IsFlagged mark.flags v → ⊥
      none v i = let z = sym (clean.unmarked v) ∙ i in absurd cc

      met-is : next.met ≡ a.met.since
      met-is = a.met.longer ∙ ap (λ x. x ++ a.met.since) clean.met

      marked-met : (v : ℕ) → IsFlagged next.flags v → v ∈ next.met
      marked-met v i = subst (λ x. v ∈ x) (sym met-is) (⊎_elim (λ z. absurd (none v z)) (λ z. z) (a.met.listed v i))

      among-is : literals_among s.clauses next.involved ≡ named_in s.clauses cf ++ []
      among-is = ap (literals_among s.clauses) a.involved

      of-one : (l : Literal) → l ∈ literals_among s.clauses next.involved → l ∈ named_in s.clauses cf
      of-one l i = ⊎_elim (λ z. z) (λ z. absurd z) (∈-append_cases l (named_in s.clauses cf) [] (subst (λ x. l ∈ x) among-is i))

      to-one : (l : Literal) → l ∈ named_in s.clauses cf → l ∈ literals_among s.clauses next.involved
      to-one l i = subst (λ x. l ∈ x) (sym among-is) (∈-append_left l (named_in s.clauses cf) [] i)

      empty : (m : Literal) → m ∈ mark.clause → ⊥
      empty m i = subst (λ x. m ∈ x) clean.clause i

      marks-old : Marks s (length s.trail) (record mark { involved = cf ∷ [] })
      marks-old = record {
        lower = λ m i. absurd (empty m i);
        marked = λ m i. absurd (empty m i);
        distinct = subst (λ x. IsDistinct x) (sym clean.clause) tt;
        met = λ v i. absurd (subst (λ x. v ∈ x) clean.met i);
        listed = λ v i. absurd (subst (λ x. v ∈ x) clean.to_clean i);
        known = λ v i. absurd (none v i);
      }

      marks-now : Marks s (length s.trail) next
      marks-now = a.marks (length s.trail) before of-conflict (omega arith) marks-old

      zero-open : open_below s mark.flags (length s.trail) ≡ 0
      zero-open = ⊎_elim
          (λ (z : 0 < open_below s mark.flags (length s.trail)). let (k, i, o) = count-some s mark.flags (length s.trail) z in
          absurd (none (variable_of (literal_at s k)) (open-marked s mark.flags k o)))
          (λ (z : open_below s mark.flags (length s.trail) ≤ 0). omega (arith, z))
          (cases_lt 0 (open_below s mark.flags (length s.trail)))

      count-now : n ≡ open_below s next.flags (length s.trail)
      count-now = let x = a.counted (length s.trail) before (omega arith) in omega (arith, x, zero-open)

      some-now : 0 < n
      some-now =
          let (m, i, l) = has-late s w cf dc.settled d h in
          let (k, p, o) = before m i in
          let lv : (node_at s k).level ≡ current_level s = ap (level_of s) o ∙ level-opposite s m ∙ l in
          let mk : IsFlagged next.flags (variable_of (literal_at s k)) =
          subst (IsFlagged next.flags) (sym (ap variable_of o ∙ variable-opposite m)) (a.all m i (omega (arith, l, d))) in
          ⊎_elim
          (λ (z : 0 < n). z)
          (λ (z : n ≤ 0). absurd (count-none s next.flags (length s.trail) k (omega (arith, z, count-now)) p (open-is s next.flags k (p, lv) mk)))
          (cases_lt 0 n)

      found : (k : ℕ) → IsOfCurrentLevel s k → IsFlagged next.flags (variable_of (literal_at s k)) → opposite (literal_at s k) ∈ named_in s.clauses cf
      found k o r = ⊎_elim
          (λ z. absurd (none (variable_of (literal_at s k)) z))
          (λ (m, i, z).
          let x : opposite m ≡ literal_at s k = true-same s w (opposite m) (literal_at s k) (h.1 m i) (∈-get_or s.trail k 0 o.0) (variable-opposite m ∙ z) in
          subst (λ y. y ∈ named_in s.clauses cf) (sym (opposite_twice m) ∙ ap opposite x) i)
          (a.only (variable_of (literal_at s k)) r)

  pub walk-skip : (mark : Marking) (count j : ℕ) → get_or mark.flags (variable_of (literal_at s j)) false ≡ false → Walk s cf mark count (suc j) →
      Walk s cf mark count j
  walk-skip mark count j n u = record {
    within = let b = u.within in omega (arith, b);
    marks = record {
      lower = u.marks.lower;
      marked = u.marks.marked;
      distinct = u.marks.distinct;
      met = u.marks.met;
      listed = u.marks.listed;
      known = λ v i. below v i (u.marks.known v i);
    };
    count_is = let x = ap one_if (closed-unmarked s mark.flags j n) in let y = u.count_is in let z : one_if (is_open s mark.flags j) ≡ 0 = x in
        omega (arith, y, z);
    some = u.some;
    sound = λ p k a b. u.sound p k (omega (arith, a)) (omega (arith, b));
    start = λ k a. u.start k (omega (arith, a));
    passed = λ j' k a pr r b. ⊎_elim
        (λ (z : j < j'). u.passed j' k (omega (arith, z)) pr r (omega (arith, b)))
        (λ (z : j' ≤ j). absurd (unreached j' (omega (arith, a, z)) pr r))
        (cases_lt j j');
    none_later = λ q a r. ⊎_elim
        (λ (z : j < q). u.none_later q (omega (arith, z)) r)
        (λ (z : q ≤ j). absurd (unreached q (omega (arith, a, z)) r.current r.reached))
        (cases_lt j q);
    conflict = u.conflict;
    involved = record {
      only = λ p i. resolved-down s cf j p (u.involved.only p i);
      all = λ p i. u.involved.all p (later p i);
      distinct = u.involved.distinct;
    };
    met = record {
      above = u.met.above;
      marked = u.met.marked;
      behind = λ v i. ⊎_elim inl (λ (k, a, b, e). inr (k, omega (arith, a), b, e)) (u.met.behind v i);
    };
    pending = λ held h. pending_skip held mark.clause s.trail (Seen s mark.flags) j
        (subst (Pending held mark.clause s.trail (Seen s mark.flags)) (sym (add-one j)) (u.pending held h)) (λ z. not-marked z.0);
  }
    where
      not-marked : IsFlagged mark.flags (variable_of (literal_at s j)) → ⊥
      not-marked i = let z = sym n ∙ i in absurd cc

      lower : (k : ℕ) → k < suc j → (k ≡ j → ⊥) → k < j
      lower k a b = grind arith

      below : (v : ℕ) → IsFlagged mark.flags v → IsMarkOf s (suc j) mark v → IsMarkOf s j mark v
      below v i (OfClause m a b e) = OfClause m a b e
      below v i (OfCurrentLevel k a b e) =
          OfCurrentLevel k (lower k a (λ z. not-marked
          (subst (λ x. IsFlagged mark.flags (variable_of (literal_at s x))) z (subst (IsFlagged mark.flags) (sym e) i)))) b e

      unreached : (q : ℕ) → q ≡ j → IsOfCurrentLevel s q → IsReachedDownTo s cf q (literal_at s q) → ⊥
      unreached q e pr r = not-marked
          (reached-marked mark count (suc j) u j j (literal_at s j) (omega arith) (subst (λ x. IsReachedDownTo s cf x (literal_at s x)) e r) refl
          (omega arith) (subst (IsOfCurrentLevel s) e pr))

      later : (p : Conflict) → WasResolved s cf j p → WasResolved s cf (suc j) p
      later p (AtConflict e) = AtConflict e
      later p (AtPlace k a pr r e) = ⊎_elim (λ (z : j < k). AtPlace k (omega (arith, z)) pr r e)
          (λ (z : k ≤ j). absurd (unreached k (omega (arith, a, z)) pr r)) (cases_lt j k)

  -- the walk comes to a marked place
  module _ (mark : Marking) (count j : ℕ) (d : 0 < current_level s) (h : variable_of (literal_at s j) < length mark.flags)
      (n : get_or mark.flags (variable_of (literal_at s j)) false ≡ true) (u : Walk s cf mark count (suc j)) where
    abbrev g : List Bool
    g = set mark.flags (variable_of (literal_at s j)) false

    -- its flag is cleared
    abbrev cleared : Marking
    cleared = record mark { flags = g }

    at : j < length s.trail
    at = let b = u.within in omega (arith, b)

    pub current-here : IsOfCurrentLevel s j
    current-here =
        let e = u.count_is in let o = u.some in
        let (k, a, b) = count-some s mark.flags (suc j) (omega (arith, e, o)) in
        current-above k j d (omega (arith, a, at), open-level s mark.flags k b) (omega (arith, a)) at

    still : (v : ℕ) → (v ≡ variable_of (literal_at s j) → ⊥) → IsFlagged mark.flags v → IsFlagged g v
    still v a b = get_or-set_other mark.flags (variable_of (literal_at s j)) v false false a ∙ b

    was : (v : ℕ) → IsFlagged g v → IsFlagged mark.flags v × (v ≡ variable_of (literal_at s j) → ⊥)
    was v a =
        let o : v ≡ variable_of (literal_at s j) →
        ⊥ = λ e. (let x : get_or g (variable_of (literal_at s j)) false ≡ false =
        get_or-set_same mark.flags (variable_of (literal_at s j)) false false h in let y = subst (IsFlagged g) e a in let z = sym x ∙ y in absurd cc) in
        (sym (get_or-set_other mark.flags (variable_of (literal_at s j)) v false false o) ∙ a, o)

    other-place : (k : ℕ) → k < j → variable_of (literal_at s k) ≡ variable_of (literal_at s j) → ⊥
    other-place k a e = let z = same-place s w k j (omega (arith, a, at)) at e in omega (arith, z, a)

    count-below : open_below s g j ≡ open_below s mark.flags j
    count-below = count-same s g mark.flags j
        (λ k a. open-same s g mark.flags k
        (get_or-set_other mark.flags (variable_of (literal_at s j)) (variable_of (literal_at s k)) false false (other-place k a)))

    pub count-here : count ≡ open_below s mark.flags j + 1
    count-here = let x : one_if (is_open s mark.flags j) ≡ 1 = ap one_if (open-is s mark.flags j current-here n) in let y = u.count_is in omega (arith, x, y)

    marks-here : Marks s j cleared
    marks-here = record {
      lower = u.marks.lower;
      marked = λ m i. still (variable_of m)
          (λ e. let x = level-same s m (literal_at s j) e in let y = (u.marks.lower m i).below in let z = current-here.1 in omega (arith, x, y, z))
          (u.marks.marked m i);
      distinct = u.marks.distinct;
      met = u.marks.met;
      listed = u.marks.listed;
      known = λ v i. let (x, y) = was v i in below v y (u.marks.known v x);
    }
      where
        lower : (k : ℕ) → k < suc j → (k ≡ j → ⊥) → k < j
        lower k a b = grind arith

        below : (v : ℕ) → (v ≡ variable_of (literal_at s j) → ⊥) → IsMarkOf s (suc j) mark v → IsMarkOf s j cleared v
        below v y (OfClause m a b e) = OfClause m a b e
        below v y (OfCurrentLevel k a b e) = OfCurrentLevel k (lower k a (λ z. y (sym e ∙ ap (λ q. variable_of (literal_at s q)) z))) b e

    reached-here : (p : ℕ) → p ≤ j → IsReachedDownTo s cf p (literal_at s j)
    reached-here p a = u.sound p j (omega (arith, a)) (omega arith) current-here n

    -- it was the last one
    module _ (last : open_below s mark.flags j ≡ 0) where
      none-below : (k : ℕ) → k < j → IsOfCurrentLevel s k → IsFlagged mark.flags (variable_of (literal_at s k)) → ⊥
      none-below k a b m = count-none s mark.flags j k last a (open-is s mark.flags k b m)

      first-point : IsFirstPoint s cf j
      first-point = record {
        point = record {
          current = current-here;
          reached = reached-here j (omega arith);
          alone = λ k a b r. none-below k a b (reached-marked mark count (suc j) u j k (literal_at s k) (omega arith) r refl (omega (arith, a)) b);
        };
        latest = λ q a r. u.none_later q (omega (arith, a)) r;
      }

      pub walk-end : IsResolved s cf (opposite (literal_at s j)) cleared
      walk-end = record {
        place = j;
        point = first-point;
        opposite_is = refl;
        follows = λ held k. pending_end held mark.clause s.trail (Seen s mark.flags) j
            (subst (Pending held mark.clause s.trail (Seen s mark.flags)) (sym (add-one j)) (u.pending held k))
            (λ i a b. none-below i a (omega (arith, a, at), b.1) b.0);
        marks = record {
          lower = marks-here.lower;
          marked = marks-here.marked;
          distinct = marks-here.distinct;
          met = marks-here.met;
          listed = marks-here.listed;
          known = λ v i. of-clause v i (marks-here.known v i);
        };
        involved = record {
          place = j;
          point = first-point;
          only = λ p i. involved-is p (u.involved.only p i);
          all = λ p i. u.involved.all p (resolved-is p i);
          distinct = u.involved.distinct;
          named = λ p i. named-is p (u.involved.only p i);
        };
        met = u.met.above;
      }
        where
          of-clause : (v : ℕ) → IsFlagged g v → IsMarkOf s j cleared v → IsMarkOf s 0 cleared v
          of-clause v i (OfClause m a b e) = OfClause m a b e
          of-clause v i (OfCurrentLevel k a b e) = absurd (none-below k a b (subst (IsFlagged mark.flags) (sym e) (was v i).0))

          involved-is : (p : Conflict) → WasResolved s cf (suc j) p → IsInvolved s cf j p
          involved-is p (AtConflict e) = IsOfConflict e
          involved-is p (AtPlace k a pr r e) = IsReasonOf k (omega (arith, a)) pr (reached-down s cf k j (literal_at s k) (omega (arith, a)) r) e

          resolved-is : (p : Conflict) → IsInvolved s cf j p → WasResolved s cf (suc j) p
          resolved-is p (IsOfConflict e) = AtConflict e
          resolved-is p (IsReasonOf k a pr r e) = AtPlace k (omega (arith, a)) pr (reached-sharp j k (literal_at s k) r pr.0 refl (omega (arith, a))) e

          named-is : (p : Conflict) → WasResolved s cf (suc j) p → NamesKeptClause s p
          named-is p (AtConflict e) = subst (NamesKeptClause s) (sym e) u.conflict.0
          named-is p (AtPlace k a pr r e) = (reason-named s w k (node_at s k).reason p (w.reason_is k pr.0) e).0

    -- it was not the last one
    module _ (more : 0 < open_below s mark.flags j) where
      some-below : (k : ℕ) × (k < j) × IsOfCurrentLevel s k × IsFlagged mark.flags (variable_of (literal_at s k))
      some-below = let (k, a, b) = count-some s mark.flags j more in (k, a, (omega (arith, a, at), open-level s mark.flags k b), open-marked s mark.flags k b)

      pub not-decided : (node_at s j).reason ≡ reason.Unit → ⊥
      not-decided e = let (k, a, b, m) = some-below in not-unit k j d b a current-here e

      module _ (r : Reason) (is : (node_at s j).reason ≡ r) (c : is_clause r ≡ true) where
        abbrev clause : Clause
        clause = implying_clause s (literal_at s j) r

        abbrev lits : List Literal
        lits = causes_of s.clauses r

        abbrev names : List Conflict
        names = names_of (literal_at s j) r

        why : IsReason s j r
        why = subst (IsReason s j) is (w.reason_is j at)

        clause-is : reason_clause s (literal_at s j) ≡ clause
        clause-is = ap (implying_clause s (literal_at s j)) is

        first-in : literal_at s j ∈ clause
        first-in = reason-first s w j r c why

        split-others : (x : Clause) → first_of x ≡ literal_at s j ∷ [] → (m : Literal) → m ∈ x → (m ≡ literal_at s j) ⊎ (m ∈ others_of x)
        split-others [] q m i = absurd i
        split-others (y ∷ x) q m (inl e) = inl (e ∙ one-same y (literal_at s j) q)
        split-others (y ∷ x) q m (inr i) = inr i

        split : (m : Literal) → m ∈ clause → (m ≡ literal_at s j) ⊎ (m ∈ lits)
        split m i = subst (λ x. (m ≡ literal_at s j) ⊎ (m ∈ x)) (sym (causes-are s (literal_at s j) r)) (split-others clause (first-is s j r c why) m i)

        before-binary : (ms : List Literal) → IsReason s j (reason.Binary ms) → (m : Literal) → m ∈ ms → IsOnTrailBefore s j (opposite m)
        before-binary ms (n, e, a, b) m i = ⊎_elim (λ f. subst (λ x. IsOnTrailBefore s j (opposite x)) (sym f) b) (λ z. absurd z) (subst (λ x. m ∈ x) e i)

        before-others : (x : Clause) → Implies s x j → (m : Literal) → m ∈ others_of x → IsOnTrailBefore s j (opposite m)
        before-others [] q m i = absurd i
        before-others (y ∷ x) q m i = q.1 m i

        before-in : (q : Reason) → IsReason s j q → (m : Literal) → m ∈ causes_of s.clauses q → IsOnTrailBefore s j (opposite m)
        before-in reason.Unit h m i = absurd i
        before-in (reason.Binary ms) h m i = before-binary ms h m i
        before-in (reason.Long p) h m i = before-others (clause_at s p) h.1 m i

        lits-in : (q : Reason) (l m : Literal) → m ∈ causes_of s.clauses q → m ∈ implying_clause s l q
        lits-in reason.Unit l m i = absurd i
        lits-in (reason.Binary ms) l m i = inr i
        lits-in (reason.Long p) l m i = by (clause_at s p) i
          where
            by : (d : Clause) → m ∈ others_of d → m ∈ d
            by [] k = absurd k
            by (x ∷ d) k = inr k

        join : (m : Literal) → m ∈ lits → (m ∈ clause) × IsOnTrailBefore s j (opposite m)
        join m i = (lits-in r (literal_at s j) m i, before-in r why m i)

        pub false-before : AreFalseBefore s j lits
        false-before m i = (join m i).1

        pub walk-resolve : (e : ℕ) (next : Marking) → AddsReason s (literal_at s j) e cleared next → Walk s cf next (open_below s mark.flags j + e) j
        walk-resolve e next ar = record {
          within = omega (arith, at);
          marks = marks-now;
          count_is = let x = a.counted j false-before (omega (arith, at)) in let y = count-below in omega (arith, x, y);
          some = omega (arith, more);
          sound = λ p k i o b m. ⊎_elim
              (λ z. u.sound p k (omega (arith, i)) (omega (arith, o)) b (was (variable_of (literal_at s k)) z).0)
              (λ (x, y, z).
              let (q, v) = join x y in
              let l : opposite x ≡ literal_at s k = true-same s w (opposite x) (literal_at s k) (stands-∈ s w j (opposite x) (omega (arith, at)) v)
              (∈-get_or s.trail k 0 b.0) (variable-opposite x ∙ z) in
              InReason (literal_at s j) (reached-here p (omega (arith, i))) (j, i, current-here, refl)
              (subst (λ z. opposite (literal_at s k) ∈ z) (sym clause-is) (subst (λ z. z ∈ clause) (sym (opposite_twice x) ∙ ap opposite l) q))
              (not-opposite k b))
              (a.only (variable_of (literal_at s k)) m);
          start = λ k i b m. kept k i (u.start k (omega (arith, i)) b m);
          passed = λ j' k i pr re b o m. ⊎_elim
              (λ (z : j < j'). kept k b (u.passed j' k (omega (arith, z)) pr re (omega (arith, b)) o m))
              (λ (z : j' ≤ j).
              let q : j' ≡ j = omega (arith, i, z) in
              added k o (subst (λ x. opposite (literal_at s k) ∈ x) clause-is (subst (λ x. opposite (literal_at s k) ∈ reason_clause s (literal_at s x)) q m)))
              (cases_lt j j');
          none_later = λ q i p. ⊎_elim
              (λ (z : j < q). u.none_later q (omega (arith, z)) p)
              (λ (z : q ≤ j).
              let x : q ≡ j = omega (arith, i, z) in
              let (k, b, o, m) = some-below in
              (subst (IsImplicationPoint s cf) x p).alone k b o (u.sound j k (omega arith) (omega (arith, b)) o m))
              (cases_lt j q);
          conflict = u.conflict;
          involved = record {
            only = λ p i. ⊎_elim
                (λ z. resolved-down s cf j p (u.involved.only p z))
                (λ z. AtPlace j (omega arith) current-here (reached-here j (omega arith)) (subst (λ x. p ∈ names_of (literal_at s j) x) (sym is) z))
                (∈-append_cases p mark.involved names (subst (λ x. p ∈ x) listed-is i));
            all = λ p i. subst (λ x. p ∈ x) (sym listed-is) (listed-all p i);
            distinct = subst IsDistinct (sym (listed-is ∙ ap (λ x. mark.involved ++ x) name.1))
                (distinct-push mark.involved name.0 u.involved.distinct (λ i. new-reason (u.involved.only name.0 i)));
          };
          met = record {
            above = record {
              distinct = subst IsDistinct (sym a.met.longer)
                  (distinct_append mark.met a.met.since u.met.above.distinct a.met.distinct (λ v i o. not-again v i o));
              all = λ l i b. ⊎_elim
                  (λ o. old-met (variable_of l) (u.met.above.all l o b))
                  (λ o. ⊎_elim
                  (λ q. subst (λ x. variable_of x ∈ next.met) (sym q) (old-met (variable_of (literal_at s j)) (u.met.marked (variable_of (literal_at s j)) n)))
                  (λ q. marked-met (variable_of l) (a.all l q b))
                  (split l o))
                  (of-both l i);
              only = λ v i. ⊎_elim
                  (λ o. let (l, p, b, q) = u.met.above.only v o in (l, to-both l (inl p), b, q))
                  (λ o. let (l, p, b, q) = a.met.only v o in (l, to-both l (inr (join l p).0), b, q))
                  (∈-append_cases v mark.met a.met.since (subst (λ x. v ∈ x) a.met.longer i));
            };
            marked = marked-met;
            behind = λ v i. ⊎_elim
                (λ o. ⊎_elim
                (λ m. ⊎_elim
                (λ (q : v ≡ variable_of (literal_at s j)). inr (j, omega arith, at, sym q))
                (λ q. inl (a.more v (still v q m)))
                (equal_or_not v (variable_of (literal_at s j))))
                (λ (k, b, c, q). inr (k, omega (arith, b), c, q))
                (u.met.behind v o))
                (λ o. inl (let (l, p, b, q) = a.met.only v o in subst (IsFlagged next.flags) q (a.all l p b)))
                (∈-append_cases v mark.met a.met.since (subst (λ x. v ∈ x) a.met.longer i));
          };
          pending = λ held k.
              let (y, z, same) = reason-kept s w j r c why in
              let (x, i, o) = k.stored y z in
              pending_resolve held mark.clause next.clause s.trail (Seen s mark.flags) (Seen s next.flags) j x
              (subst (Pending held mark.clause s.trail (Seen s mark.flags)) (sym (add-one j)) (u.pending held k)) a.longer
              (λ q b v. (kept q b v.0, v.1))
              i (o.1 (literal_at s j) (same.1 (literal_at s j) first-in))
              (λ m q. ⊎_elim inl (λ v. inr (passed-literal next j m held (omega (arith, at)) marks-now k (a.all m v) (false-before m v)))
              (split m (same.0 m (o.0 m q))));
        }
          where
            a : AddsMarks s lits e (record cleared { involved = next.involved }) next
            a = subst (λ x. AddsMarks s (causes_of s.clauses x) e (record cleared { involved = next.involved }) next) is ar.adds

            old-met : (v : ℕ) → v ∈ mark.met → v ∈ next.met
            old-met v i = subst (λ x. v ∈ x) (sym a.met.longer) (∈-append_left v mark.met a.met.since i)

            marked-met : (v : ℕ) → IsFlagged next.flags v → v ∈ next.met
            marked-met v i = ⊎_elim
                (λ o. old-met v (u.met.marked v (was v o).0))
                (λ o. subst (λ x. v ∈ x) (sym a.met.longer) (∈-append_right v mark.met a.met.since o))
                (a.met.listed v i)

            -- a variable of the reason stands before the place, and so was not met before, unless it is marked
            not-again : (v : ℕ) → v ∈ mark.met → v ∈ a.met.since → ⊥
            not-again v i o =
                let (l, p, b, q) = a.met.only v o in
                let (k, c, e) = (join l p).1 in
                let same : variable_of (literal_at s k) ≡ v = ap variable_of e ∙ variable-opposite l ∙ q in
                ⊎_elim
                (λ m.
                let f = still v (λ z. other-place k c (same ∙ z)) m in
                let z = sym (a.met.fresh v o) ∙ f in
                absurd cc)
                (λ (k', c', t, e'). let z = same-place s w k k' (omega (arith, c, at)) t (same ∙ sym e') in omega (arith, z, c, c'))
                (u.met.behind v i)

            of-reason : AreOfKept s lits
            of-reason m i = let (x, y, same) = reason-kept s w j r c why in (x, y, same.1 m (join m i).0)

            marks-now : Marks s j next
            marks-now = a.marks j false-before of-reason (omega (arith, at)) (marks-with s j cleared next.involved marks-here)

            name : (g : Conflict) × (names ≡ g ∷ [])
            name = clause-named (literal_at s j) r c

            name-in : name.0 ∈ names
            name-in = subst (λ x. name.0 ∈ x) (sym name.1) (inl refl)

            listed-is : next.involved ≡ mark.involved ++ names
            listed-is = ar.listed ∙ ap (λ x. mark.involved ++ names_of (literal_at s j) x) is

            listed-all : (p : Conflict) → WasResolved s cf j p → p ∈ (mark.involved ++ names)
            listed-all p (AtConflict q) = ∈-append_left p mark.involved names (u.involved.all p (AtConflict q))
            listed-all p (AtPlace k l o y q) = ⊎_elim
                (λ (z : j < k). ∈-append_left p mark.involved names (u.involved.all p (AtPlace k (omega (arith, z)) o y q)))
                (λ (z : k ≤ j).
                let same : k ≡ j = omega (arith, l, z) in
                ∈-append_right p mark.involved names
                (subst (λ x. p ∈ names_of (literal_at s j) x) is (subst (λ x. p ∈ names_of (literal_at s x) (node_at s x).reason) same q)))
                (cases_lt j k)

            named : named_in s.clauses name.0 ≡ clause
            named = (reason-named s w j r name.0 why name-in).1

            among-is : literals_among s.clauses next.involved ≡ literals_among s.clauses mark.involved ++ (clause ++ [])
            among-is =
                ap (literals_among s.clauses) (listed-is ∙ ap (λ x. mark.involved ++ x) name.1) ∙ among-append s.clauses mark.involved (name.0 ∷ [])
                ∙ ap (λ x. literals_among s.clauses mark.involved ++ (x ++ [])) named

            of-both : (l : Literal) → l ∈ literals_among s.clauses next.involved → (l ∈ literals_among s.clauses mark.involved) ⊎ (l ∈ clause)
            of-both l i = ⊎_elim inl (λ z. inr (⊎_elim (λ t. t) (λ t. absurd t) (∈-append_cases l clause [] z)))
                (∈-append_cases l (literals_among s.clauses mark.involved) (clause ++ []) (subst (λ x. l ∈ x) among-is i))

            to-both : (l : Literal) → (l ∈ literals_among s.clauses mark.involved) ⊎ (l ∈ clause) → l ∈ literals_among s.clauses next.involved
            to-both l h = subst (λ x. l ∈ x) (sym among-is) (⊎_elim
                (λ z. ∈-append_left l (literals_among s.clauses mark.involved) (clause ++ []) z)
                (λ z. ∈-append_right l (literals_among s.clauses mark.involved) (clause ++ []) (∈-append_left l clause [] z))
                h)

            -- the reason of another place, and the conflict's clause, are other clauses
            new-reason : WasResolved s cf (suc j) name.0 → ⊥
            new-reason (AtConflict q) = no-clash s w (literal_at s j) (∈-get_or s.trail j 0 at)
                (u.conflict.1 (literal_at s j) (subst (λ x. literal_at s j ∈ named_in s.clauses x) q (subst (λ x. literal_at s j ∈ x) (sym named) first-in)))
            new-reason (AtPlace k l o y q) =
                let f = w.reason_is k o.0 in
                let v = first-is s k (node_at s k).reason (named-clause (literal_at s k) (node_at s k).reason name.0 q) f in
                let other = (reason-named s w k (node_at s k).reason name.0 f q).1 in
                let e : k ≡ j = same-place s w k j o.0 at
                (ap variable_of (one-same (literal_at s k) (literal_at s j) (sym v ∙ ap first_of (sym other ∙ named) ∙ first-is s j r c why))) in
                omega (arith, l, e)

            not-opposite : (k : ℕ) → IsOfCurrentLevel s k → opposite (literal_at s k) ≢ literal_at s j
            not-opposite k o e = no-clash s w (literal_at s k) (∈-get_or s.trail k 0 o.0) (subst (λ x. x ∈ s.trail) (sym e) (∈-get_or s.trail j 0 at))

            kept : (k : ℕ) → k < j → IsFlagged mark.flags (variable_of (literal_at s k)) → IsFlagged next.flags (variable_of (literal_at s k))
            kept k i m = a.more (variable_of (literal_at s k)) (still (variable_of (literal_at s k)) (other-place k i) m)

            added : (k : ℕ) → IsOfCurrentLevel s k → opposite (literal_at s k) ∈ clause → IsFlagged next.flags (variable_of (literal_at s k))
            added k o m = ⊎_elim
                (λ z. absurd (not-opposite k o z))
                (λ z. subst (IsFlagged next.flags) (variable-opposite (literal_at s k))
                (a.all (opposite (literal_at s k)) z (let x = level-opposite s (literal_at s k) in let y = o.1 in omega (arith, x, y, d))))
                (split (opposite (literal_at s k)) m)

-- the walk begins once the conflict's clause is listed and its literals were added
pub walk-begin : {s : View} {cf : Conflict} {n : ℕ} {mark next : Marking} → WellFormed s → IsDeepConflict s cf → IsClean mark →
    (false_ones : List Literal) (involved : List Conflict) (p : Conflict) (i : ℕ) → false_ones ≡ named_in s.clauses cf →
    involved ≡ mark.involved ++ p ∷ [] → p ≡ cf → i ≡ length s.trail → AddsMarks s false_ones n (record mark { involved = involved }) next →
    Walk s cf next n i
walk-begin {s = s} {cf = cf} {n = n} {mark = mark} {next = next} w dc clean false_ones involved p i le ie pe ne a =
    subst (λ k. Walk s cf next n k) (sym ne)
    (walk-start s w cf n mark (record mark { involved = involved }) next dc clean
    (ap (λ (k : List Conflict). record mark { involved = k }) (ie ∙ ap (λ (k : List Conflict). k ++ p ∷ []) clean.involved ∙ ap (λ (k : Conflict). k ∷ []) pe))
    (subst (λ k. AddsMarks s k n (record mark { involved = involved }) next) le a))

pub unit-left : (r : Reason) → (is_clause r ≡ true → ⊥) → r ≡ reason.Unit
unit-left reason.Unit n = refl
unit-left (reason.Binary ms) n = absurd (n refl)
unit-left (reason.Long a) n = absurd (n refl)

-- the reason is listed, and its other literals are added
pub adds-reason : {s : View} {lits : List Literal} {count : ℕ} {begun next : Marking} (l : Literal) (x : Marking) (r : Reason) →
    r ≡ (node_of s l).reason → lits ≡ causes_of s.clauses r → begun ≡ record x { involved = x.involved ++ names_of l r } →
    AddsMarks s lits count begun next → AddsReason s l count x next
adds-reason {s = s} {lits = lits} {count = count} {begun = begun} {next = next} l x r p q e a = record {
  listed = listed-is ∙ ap (λ k. x.involved ++ names_of l k) p;
  adds = subst (λ k. AddsMarks s k count (record x { involved = next.involved }) next) (q ∙ ap (λ k. causes_of s.clauses k) p)
      (subst (λ k. AddsMarks s lits count k next) (e ∙ ap (λ (k : List Conflict). record x { involved = k }) (sym listed-is)) a);
}
  where
    listed-is : next.involved ≡ x.involved ++ names_of l r
    listed-is = a.involved ∙ ap (λ (k : Marking). k.involved) e

-- the walk has not come to its end
pub walk-positive : {s : View} {cf : Conflict} {mark : Marking} {count i : ℕ} → Walk s cf mark count i → 0 < i
walk-positive {s = s} {mark = mark} {count = count} {i = i} u = go i u.count_is
  where
    go : (i : ℕ) → count ≡ open_below s mark.flags i → 0 < i
    go zero e = let b = u.some in absurd (omega (arith, e, b))
    go (suc i) e = omega arith

-- the count is no larger than the trail
pub walk-small : {s : View} {cf : Conflict} {mark : Marking} {count i : ℕ} → WellFormed s → Walk s cf mark count i → count ≤ 2 ^ 28
walk-small {s = s} {mark = mark} {i = i} w u =
    let a = u.count_is in
    let b = count-small s mark.flags i in
    let d = u.within in
    let e = trail-short s w in
    let g = w.small in
    omega (arith, a, b, d, e, g)

-- the literal before place i of the trail, and its variable, as they are read
pub record ReadsBefore (s : View) (i x v : ℕ) : Type 0 where
  pub literal : x ≡ literal_at s (i - 1)
  pub variable : v ≡ variable_of x

pub reads-before : {s : View} {cf : Conflict} {mark : Marking} {count i : ℕ} {t : List ℕ} {x v : ℕ} → Walk s cf mark count i → t ≡ s.trail →
    x ≡ get_or t (i - 1) x → v ≡ variable_of x → ReadsBefore s i x v
reads-before {s = s} {i = i} {t = t} {x = x} u e is o = record {
  literal = let a = u.within in let p = walk-positive u in let n = ap (λ (y : List ℕ). length y) e in
      element t (i - 1) x (omega (arith, a, p, n)) is ∙ ap (λ (y : List ℕ). get_or y (i - 1) 0) e;
  variable = o;
}

-- a step of the walk, as it reads that literal's flag
module _ {s : View} {cf : Conflict} {mark : Marking} {count i : ℕ} {x v : ℕ} (w : WellFormed s) (d : 0 < current_level s)
    (n : length mark.flags ≡ length s.nodes) (u : Walk s cf mark count i) (r : ReadsBefore s i x v) where
  before : Walk s cf mark count (suc (i - 1))
  before = let p = walk-positive u in let q : i ≡ suc (i - 1) = omega (arith, p) in subst (λ k. Walk s cf mark count k) q u

  variable-is : v ≡ variable_of (literal_at s (i - 1))
  variable-is = r.variable ∙ ap variable_of r.literal

  read-at : i - 1 < length s.trail
  read-at = let b = before.within in omega (arith, b)

  flag-inside : variable_of (literal_at s (i - 1)) < length mark.flags
  flag-inside = let a = inside-at s w (i - 1) read-at in omega (arith, a, n)

  pub read-inside-flags : v < length mark.flags
  read-inside-flags = let a = flag-inside in let b = variable-is in omega (arith, a, b)

  pub read-true : x ∈ s.trail
  read-true = subst (λ k. k ∈ s.trail) (sym r.literal) (∈-get_or s.trail (i - 1) 0 read-at)

  pub read-skip : get_or mark.flags v false ≡ false → Walk s cf mark count (i - 1)
  read-skip m = walk-skip s w cf mark count (i - 1) (subst (λ k. get_or mark.flags k false ≡ false) variable-is m) before

  module _ (m : get_or mark.flags v false ≡ true) (v' : ℕ) (is : v' ≡ variable_of x) where
    marked : get_or mark.flags (variable_of (literal_at s (i - 1))) false ≡ true
    marked = subst (λ k. get_or mark.flags k false ≡ true) variable-is m

    below : open_below s mark.flags (i - 1) ≡ count - 1
    below = let a = count-here s w cf mark count (i - 1) d flag-inside marked before in omega (arith, a)

    same-flag : variable_of (literal_at s (i - 1)) ≡ v'
    same-flag = sym (is ∙ ap variable_of r.literal)

    pub read-end : count - 1 ≡ 0 → (first : Literal) → first ≡ opposite x → IsResolved s cf first (record mark { flags = set mark.flags v' false })
    read-end z first p =
        subst (λ k. IsResolved s cf k (record mark { flags = set mark.flags v' false })) (sym (p ∙ ap opposite r.literal))
        (subst (λ k. IsResolved s cf (opposite (literal_at s (i - 1))) (record mark { flags = set mark.flags k false })) same-flag
        (walk-end s w cf mark count (i - 1) d flag-inside marked before (below ∙ z)))

    pub read-resolve : (count - 1 ≡ 0 → ⊥) → (added total : ℕ) (next : Marking) → total ≡ count - 1 + added →
        AddsReason s x added (record mark { flags = set mark.flags v' false }) next → Walk s cf next total (i - 1)
    read-resolve z added total next g h = subst (λ k. Walk s cf next k (i - 1)) (ap (λ k. k + added) below ∙ sym g) (by (node_at s (i - 1)).reason refl)
      where
        more : 0 < open_below s mark.flags (i - 1)
        more = let a = below in positive (count - 1) (open_below s mark.flags (i - 1)) z a
          where
            positive : (a b : ℕ) → (a ≡ 0 → ⊥) → b ≡ a → 0 < b
            positive a b h g = grind arith

        adds : AddsReason s (literal_at s (i - 1)) added (record mark { flags = set mark.flags (variable_of (literal_at s (i - 1))) false }) next
        adds = subst (λ k. AddsReason s (literal_at s (i - 1)) added (record mark { flags = set mark.flags k false }) next) (sym same-flag)
            (subst (λ k. AddsReason s k added (record mark { flags = set mark.flags v' false }) next) r.literal h)

        by : (q : Reason) → (node_at s (i - 1)).reason ≡ q → Walk s cf next (open_below s mark.flags (i - 1) + added) (i - 1)
        by reason.Unit e = absurd (not-decided s w cf mark count (i - 1) d flag-inside marked before more e)
        by (reason.Binary ms) e = walk-resolve s w cf mark count (i - 1) d flag-inside marked before more (reason.Binary ms) e refl added next adds
        by (reason.Long a) e = walk-resolve s w cf mark count (i - 1) d flag-inside marked before more (reason.Long a) e refl added next adds
