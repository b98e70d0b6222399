-- A search goes on over inprocessing.
use Rattle.std.proofs.Common.{◌≡◌, ◌≢◌, ◌*◌, ◌%◌, List, [], ◌∷◌, ◌++◌, length, inl, inr, ⊎_elim, refl, sym, ap, ◌∙◌, subst}
use Rattle.std.proofs.lemmas.Bool.{cases_lt}
use Rattle.varisat_theory.specs.promises.Membership.{◌∈◌}
use Rattle.varisat_theory.specs.promises.Literals.{Clause}
use Rattle.varisat_theory.specs.promises.Derivations.{Line, Add, Delete, IsPresentAfter}
use Rattle.varisat_theory.specs.promises.Journals.{Entry, Leads}
use Rattle.varisat_theory.specs.inside.Outcomes.{Proves}
use Rattle.varisat_theory.proofs.steps.StepParts.{no_part}
use Rattle.varisat_prop.specs.View.{View, kinds}
use Rattle.varisat_prop.proofs.views.ViewGrowth.{append-nil}
use Rattle.varisat_search.specs.declared.context.Context.{Context}
use Rattle.varisat_search.specs.Contexts.{view, IsReady}
use Rattle.varisat_search.specs.Seen.{search_of}
use Rattle.varisat_analysis.specs.HeaderChanges.{ChangesHeaders}
use Rattle.varisat_analysis.specs.Reductions.{Discards}
use Rattle.varisat_analysis.specs.Collections.{Repacks}
use Rattle.varisat_search.specs.Restarts.{KeepsAssignment}
use Rattle.varisat_search.specs.RootSimplified.{IsRootUnpropagated, fixed_literals, KeepsFixed}
use Rattle.varisat_search.specs.DueReductions.{CollectsIfDue, KeepsSearch, NoLines, KeepsPartsBy, Inprocesses, InTurn}
use Rattle.varisat_steps.specs.Traces.{TakesLines, AdmitsFor}
use Rattle.varisat_steps.proofs.Traced.{lines-more, holds_on}
use Rattle.varisat_search.proofs.variables.DecidableVariables.{same-refl, same-read}
use Rattle.varisat_search.proofs.stepping.StepRanks.{extends-same}
use Rattle.varisat_search.proofs.simplifying.RootSimplified.{goes-are, goes-trans}
use Rattle.varisat_search.proofs.simplifying.HeaderChanges.{header-seen}
use Rattle.varisat_search.proofs.simplifying.RepackedView.{repacks-seen, repacks-kinds}
use Rattle.varisat_vsids.specs.Activities.{Activities}

-- other clauses alone
clauses-only : (s t : View) → t ≡ record s { clauses = t.clauses } → KeepsAssignment s t
clauses-only s t e = record {
  rest = e ∙ ap (λ ns. record s { clauses = t.clauses; nodes = ns }) (sym (ap (λ (u : View). u.nodes) e));
  kinds_stay = ap kinds e;
}

none-proved : (s t : View) → search_of t ≡ search_of s → Proves 0 (search_of s) (search_of t) []
none-proved s t e = subst (λ x. Proves 0 (search_of s) x []) (sym e) (no_part (search_of s))

module _ {A : Type 0} (x y : Context A) (ready : IsReady y) (activities : y.vsids ≡ x.vsids) where
  with-assigned : (P : List Line → Type 0) → KeepsAssignment (view x) (view y) → (lines : List Line)
      × Proves 0 (search_of (view x)) (search_of (view y)) lines × P lines → KeepsSearch P x y
  with-assigned P a p = record {
    ready = ready;
    assigned = a;
    proves = p;
    decidable = same-read (view x) x.vsids (view y) y.vsids (ap (λ (s : View). s.values) a.rest) (ap (λ (b : Activities). b.available) activities);
  }

  pub discards-keep : (P : List Line → Type 0) → Discards (view x) (view y) → (lines : List Line)
      × Proves 0 (search_of (view x)) (search_of (view y)) lines × P lines → KeepsSearch P x y
  discards-keep P d p = with-assigned P (clauses-only (view x) (view y) d.rest) p

  pub headers-keep : IsReady x → ChangesHeaders (view x) (view y) → KeepsSearch (λ lines. lines ≡ []) x y
  headers-keep r d = with-assigned (λ lines. lines ≡ []) (clauses-only (view x) (view y) d.rest)
      ([], none-proved (view x) (view y) (header-seen (view x) (view y) r.well d), refl)

  repacks-keep : IsReady x → Repacks (view x) (view y) → KeepsSearch (λ lines. lines ≡ []) x y
  repacks-keep r d = with-assigned (λ lines. lines ≡ []) (record { rest = d.rest; kinds_stay = repacks-kinds (view x) (view y) r.well d })
      ([], none-proved (view x) (view y) (repacks-seen (view x) (view y) r.well d), refl)

-- more holds for its lines, of which it is known what they lead to
pub keeps-are : {A : Type 0} {x y : Context A} {P : List Line → Type 0} (Q : List Line → Type 0) →
    ((lines : List Line) → Proves 0 (search_of (view x)) (search_of (view y)) lines → P lines → Q lines) → KeepsSearch P x y → KeepsSearch Q x y
keeps-are Q are k = let (lines, p, i) = k.proves in
    record { ready = k.ready; assigned = k.assigned; proves = (lines, p, are lines p i); decidable = k.decidable }

pub keeps-refl : {A : Type 0} (x : Context A) → IsReady x → KeepsSearch (λ lines. lines ≡ []) x x
keeps-refl x r = record {
  ready = r;
  assigned = record { rest = refl; kinds_stay = refl };
  proves = ([], none-proved (view x) (view x) refl, refl);
  decidable = same-refl (view x) x.vsids;
}

pub keeps-same : {A : Type 0} (x y : Context A) → IsReady x → y ≡ x → KeepsSearch (λ lines. lines ≡ []) x y
keeps-same x y r e = subst (KeepsSearch (λ lines. lines ≡ []) x) (sym e) (keeps-refl x r)

-- so it is where garbage is collected or not
pub collects-keep : {A : Type 0} (x y : Context A) → IsReady x → IsReady y → y.vsids ≡ x.vsids → CollectsIfDue x y → KeepsSearch NoLines x y
collects-keep x y r s e c = ⊎_elim (λ h. repacks-keep x y s e r (c.repacks h)) (λ h. keeps-same x y r (c.stays h))
    (cases_lt (length x.clause_alloc.words) (2 * x.clause_db.garbage))

-- a search that is kept without lines is so with lines that may be none
pub keeps-none : {A : Type 0} (x y : Context A) (P : List Line → Type 0) → P [] → KeepsSearch (λ lines. lines ≡ []) x y → KeepsSearch P x y
keeps-none x y P none a = let (lines, p, e) = a.proves in
    record { ready = a.ready; assigned = a.assigned; proves = (lines, p, subst P (sym e) none); decidable = a.decidable }

-- 2. The contract of all inprocessing.

-- what it says of the lines
abbrev pub as-inprocessed : {A : Type 0} → (List Line → Context A → Context A → Type 0) → (List Line → Type 0) → Context A → Context A → List Line → Type 0
as-inprocessed does are x y lines = does lines x y
    × (x.schedule.steps % x.solver_config.reduce_locals_interval ≢ 0 → KeepsPartsBy lines) × are lines

parts-stay : KeepsPartsBy []
parts-stay held after e c h = (c, subst (λ cs. c ∈ cs) e h, λ l i. i)

-- what is present after the first lines and after the others
present-cut : (P : List Clause) (lines more : List Line) (R : List Clause) → IsPresentAfter P (lines ++ more) R → (Q : List Clause)
    × IsPresentAfter P lines Q × IsPresentAfter Q more R
present-cut P [] more R d = (P, refl, d)
present-cut P (Add c ∷ lines) more R d = present-cut (P ++ c ∷ []) lines more R d
present-cut P (Delete c ∷ lines) more R d =
    let (Q, e, f) = present-cut d.0 lines more R d.2 in
    (Q, (d.0, d.1, e), f)

parts-through : (first more : List Line) → KeepsPartsBy first → KeepsPartsBy more → KeepsPartsBy (first ++ more)
parts-through first more k l held after d c h =
    let (mid, e, f) = present-cut held first more after d in
    let (a, i, s) = k held mid e c h in
    let (b, j, t) = l mid after f a i in
    (b, j, λ m o. s m (t m o))

fixed-through : (s t u : View) → KeepsFixed s t → KeepsFixed t u → (IsRootUnpropagated t → IsRootUnpropagated u) → KeepsFixed s u
fixed-through s t u a b unpropagated = ⊎_elim (λ e. ⊎_elim (λ f. inl (f ∙ e)) inr b) (λ n. inr (unpropagated n)) a

-- the search can go on as it was
pub kept-inprocesses : {A : Type 0} (does : List Line → Context A → Context A → Type 0) (are : List Line → Type 0) (x y : Context A) →
    y.assignment.last ≡ x.assignment.last → KeepsSearch (as-inprocessed does are x y) x y → Inprocesses does are x y
kept-inprocesses does are x y last k =
    let rest = k.assigned.rest in
    record {
      goes_on = record {
        ready = k.ready;
        proves = k.proves;
        extends = extends-same (view x) (view y) k.ready.well (ap (λ (s : View). s.values) rest) (ap (λ (s : View). s.trail) rest)
            (ap (λ (s : View). s.decisions) rest);
        kinds_more = ([], k.assigned.kinds_stay ∙ sym (append-nil (kinds (view x))));
        decidable = k.decidable;
        last = last;
      };
      fixes = inl (ap fixed_literals rest);
      unpropagated = λ u. subst IsRootUnpropagated (sym rest) u;
    }

-- it wrote nothing
pub inprocesses-silently : {A : Type 0} (does : List Line → Context A → Context A → Type 0) (are : List Line → Type 0) (x y : Context A) → does [] x y →
    are [] → y.assignment.last ≡ x.assignment.last → KeepsSearch NoLines x y → Inprocesses does are x y
inprocesses-silently does are x y h i last k =
    kept-inprocesses does are x y last (keeps-none x y (as-inprocessed does are x y) (h, (λ due. parts-stay), i) k)

-- the lines are so in another way too
pub inprocesses-are : {A : Type 0} (R S : List Line → Context A → Context A → Type 0) (P Q : List Line → Type 0) (x y : Context A) →
    ((lines : List Line) → as-inprocessed R P x y lines → as-inprocessed S Q x y lines) → Inprocesses R P x y → Inprocesses S Q x y
inprocesses-are R S P Q x y are k = record {
  goes_on = goes-are x y (as-inprocessed R P x y) (as-inprocessed S Q x y) are k.goes_on;
  fixes = k.fixes;
  unpropagated = k.unpropagated;
}

-- Where a tracer has the laws of a trait.
module _ {Q : Type 0} (takes : Q → List Entry → Q → Type 0) where
  -- it took nothing of what wrote nothing
  pub silently : {A : Type 0} (takes_none : (p : Q) → takes p [] p) (p : Q) (does : Context A → Context A → Type 0) (x y : Context A) →
      Inprocesses (λ lines u v. does u v) NoLines x y → Inprocesses (λ lines u v. does u v × NoLines lines) (λ lines. TakesLines takes p lines p) x y
  silently takes_none p does x y k =
      inprocesses-are (λ lines u v. does u v) (λ lines u v. does u v × NoLines lines) NoLines (λ lines. TakesLines takes p lines p) x y
      (λ lines (d, parts, none). ((d, none), parts, subst (λ ls. TakesLines takes p ls p) (sym none) (takes_none p))) k

  -- the one and then the other, in one step of the schedule
  pub in-turn : {A : Type 0} (takes_more : (p q r : Q) (first second : List Entry) → takes p first q → takes q second r → takes p (first ++ second) r)
      (p q r : Q) (R S : List Line → Context A → Context A → Type 0) (x y z : Context A) →
      y.schedule.steps % y.solver_config.reduce_locals_interval ≡ x.schedule.steps % x.solver_config.reduce_locals_interval →
      Inprocesses R (λ lines. TakesLines takes p lines q) x y → Inprocesses S (λ lines. TakesLines takes q lines r) y z →
      Inprocesses (InTurn R S) (λ lines. TakesLines takes p lines r) x z
  in-turn takes_more p q r R S x y z same a b = record {
    goes_on =
        goes-trans x y z (as-inprocessed R (λ lines. TakesLines takes p lines q) x y) (as-inprocessed S (λ lines. TakesLines takes q lines r) y z)
        (as-inprocessed (InTurn R S) (λ lines. TakesLines takes p lines r) x z)
        (λ first more (i, k, t) (j, l, u). (
          record { between = y; front = first; back = more; parts = refl; begins = i; ends = j },
          (λ due. parts-through first more (k due) (l (λ e. due (sym same ∙ e)))),
          lines-more takes takes_more p q r first more t u,
        )) a.goes_on b.goes_on;
    fixes = fixed-through (view x) (view y) (view z) a.fixes b.fixes b.unpropagated;
    unpropagated = λ u. b.unpropagated (a.unpropagated u);
  }

  -- what the tracer may hold fits the search after it
  pub admits-after : {A : Type 0} (holds : Q → List Clause → Type 0)
      (holds_after : (p q : Q) (entries : List Entry) (held after : List Clause) → takes p entries q → holds p held → Leads held entries after → holds q after)
      (p q : Q) (does : List Line → Context A → Context A → Type 0) (x y : Context A) → AdmitsFor (holds p) (search_of (view x)) →
      Inprocesses does (λ lines. TakesLines takes p lines q) x y → AdmitsFor (holds q) (search_of (view y))
  admits-after holds holds_after p q does x y h k =
      let (lines, proves, (d, parts, t)) = k.goes_on.proves in
      holds_on holds takes holds_after p q 0 (search_of (view x)) (search_of (view y)) lines h proves t
