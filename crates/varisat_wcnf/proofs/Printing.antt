-- The digits of values in turn, and the lines of costs.
use Rattle.std.proofs.Common.{◌≡◌, ◌⊎◌, ℕ, zero, suc, ◌+◌, ◌-◌, ◌^◌, ◌<◌, Bool, true, false, if◌then◌else◌, List, [], ◌∷◌, ◌++◌, inl, inr, length, take, get_or, refl, sym, ap, ◌∙◌, subst, append_assoc, arith}
use Rattle.std.specs.Prelude.{Option, Some, None, Result, Ok, Err, IfOk, OnErr, MatchOption, MatchResult, is_some, codes}
use Rattle.std.proofs.Math.Seq.{take-append-add}
use Rattle.std.proofs.lemmas.List.{take_all}
use Rattle.varisat_theory.specs.promises.Literals.{IsSatisfiable}
use Rattle.varisat_formula.specs.promises.Streams.{Taken}
use Rattle.varisat_formula.proofs.TargetParts.{begin_part}
use Rattle.varisat_maxsat.specs.promises.Problems.{Problem, IsOptimumOrSolution, Found, Improve, last_found, IsStopped}
use Rattle.varisat_wcnf.specs.promises.Printed.{value_digits, solution_status, solution_text, cost_line, cost_lines, PrintsBeginning, PrintsText, PrintsAnswer, Solved, Unsatisfiable, Unknown, CostsAlone, BrokenOff}
use Rattle.varisat_wcnf.specs.inside.Costs.{PrintsCosts}

digits-more : (vs : List Bool) (i : ℕ) (d : Bool) → i < length vs →
    value_digits (take (suc i) vs) ≡ value_digits (take i vs) ++ (if get_or vs i d then 49 else 48) ∷ []
digits-more [] i d h = absurd (omega arith)
digits-more (v ∷ vs) zero d h = refl
digits-more (v ∷ vs) (suc i) d h = ap (λ ds. (if v then 49 else 48) ∷ ds) (digits-more vs i d (omega arith))

pub digits-put : (text before after : List ℕ) (vs : List Bool) (i b : ℕ) (d : Bool) → i < length vs → before ≡ text ++ value_digits (take i vs) →
    after ≡ before ++ b ∷ [] → b ≡ (if get_or vs i d then 49 else 48) → after ≡ text ++ value_digits (take (i + 1) vs)
digits-put text before after vs i b d h e p f =
    let up : suc i ≡ i + 1 = omega arith in
    p ∙ ap (λ xs. xs ++ b ∷ []) e ∙ append_assoc text (value_digits (take i vs)) (b ∷ [])
    ∙ ap (λ x. text ++ (value_digits (take i vs) ++ x ∷ [])) f
    ∙ ap (λ ds. text ++ ds) (sym (digits-more vs i d h)) ∙ ap (λ n. text ++ value_digits (take n vs)) up

-- a text in two parts: a beginning of the first one, or the first one and a beginning of the second one
pub begun-first : (first second : List ℕ) (old new : Taken) → PrintsBeginning first old new →
    PrintsBeginning (first ++ second) old new
begun-first first second old new (n, b) = let (m, e) = begin_part n first second in (m, b ∙ ap (λ x. old.bytes ++ x) e)

pub begun-second : (first second : List ℕ) (old mid new : Taken) → mid.bytes ≡ old.bytes ++ first → PrintsBeginning second mid new →
    PrintsBeginning (first ++ second) old new
begun-second first second old mid new e (n, b) = (
  length first + n,
  b ∙ ap (λ x. x ++ take n second) e ∙ append_assoc old.bytes first (take n second) ∙ ap (λ x. old.bytes ++ x) (sym (take-append-add first second n)),
)

pub begun-whole : (text : List ℕ) (old new : Taken) → new.bytes ≡ old.bytes ++ text → PrintsBeginning text old new
begun-whole text old new b = (length text, b ∙ ap (λ x. old.bytes ++ x) (sym (take_all (length text) text (omega arith))))

pub begun-so : (given text : List ℕ) (old new : Taken) → given ≡ text → PrintsBeginning given old new →
    PrintsBeginning text old new
begun-so given text old new e (n, b) = (n, b ∙ ap (λ x. old.bytes ++ take n x) e)

pub on-err : {X E : Type 0} (r : Result X E) (P : Type 0) → P → OnErr r P
on-err (Ok x) P h = tt
on-err (Err e) P h = h

pub joins : (first second : List ℕ) (old mid new : Taken) → mid.bytes ≡ old.bytes ++ first → new.bytes ≡ mid.bytes ++ second → new.bytes ≡ old.bytes ++ (first ++ second)
joins first second old mid new e b = b ∙ ap (λ x. x ++ second) e ∙ append_assoc old.bytes first second

-- a line more, where all was printed
pub prints-line : {E : Type 0} (fault : Option E) (k : ℕ) (f : Found) (fs : List Found) (old mid new : Taken) → is_some fault ≡ false → f.cost ≡ k → f.goes_on ≡ true →
    new.bytes ≡ mid.bytes ++ cost_line k → new.faults ≡ mid.faults → PrintsCosts fault fs old mid → PrintsCosts fault (f ∷ fs) old new
prints-line None k f fs old mid new none c on b q (before, quiet, _) = (
  b ∙ ap (λ n. mid.bytes ++ cost_line n) (sym c) ∙ ap (λ x. x ++ cost_line f.cost) before ∙ append_assoc old.bytes (cost_lines fs) (cost_line f.cost),
  q ∙ quiet,
  λ stopped. absurd (let e : true ≡ false = sym on ∙ stopped in cc),
)
prints-line (Some e) k f fs old mid new none c on b q h = absurd cc

pub prints-part : {E : Type 0} (fault : Option E) (e : E) (k : ℕ) (f : Found) (fs : List Found) (old mid new : Taken) → is_some fault ≡ false → f.cost ≡ k →
    PrintsBeginning (cost_line k) mid new → (mid.faults < 2 ^ 64 - 1 → new.faults ≡ mid.faults + 1) → old.faults < 2 ^ 64 - 1 →
    PrintsCosts fault fs old mid → PrintsCosts (Some e) (f ∷ fs) old new
prints-part None e k f fs old mid new none c (n, b) more h (before, quiet, _) = (
  (
    length (cost_lines fs) + n,
    b ∙ ap (λ m. mid.bytes ++ take n (cost_line m)) (sym c) ∙ ap (λ x. x ++ take n (cost_line f.cost)) before
        ∙ append_assoc old.bytes (cost_lines fs) (take n (cost_line f.cost)) ∙ ap (λ x. old.bytes ++ x) (sym (take-append-add (cost_lines fs) (cost_line f.cost) n)),
  ),
  more (subst (λ k. k < 2 ^ 64 - 1) (sym quiet) h) ∙ ap (λ k. k + 1) quiet,
)
prints-part (Some d) e k f fs old mid new none c h more l g = absurd cc

pub prints-no-more : {E : Type 0} (fault : Option E) (f : Found) (fs : List Found) (old new : Taken) → is_some fault ≡ true →
    PrintsCosts fault fs old new → PrintsCosts fault (f ∷ fs) old new
prints-no-more None f fs old new some h = absurd cc
prints-no-more (Some e) f fs old new some ((n, b), more) =
    let (m, l) = begin_part n (cost_lines fs) (cost_line f.cost) in ((m, b ∙ ap (λ x. old.bytes ++ x) l), more)

-- a text behind another one
pub prints-behind : (before text : List ℕ) (status : ℕ) (old mid new : Taken) (r : ℕ) → mid.bytes ≡ old.bytes ++ before → mid.faults ≡ old.faults →
    PrintsText text status mid new r → PrintsText (before ++ text) status old new r
prints-behind before text status old mid new r e f (inl (b, g, q)) = inl (b ∙ ap (λ x. x ++ text) e ∙ append_assoc old.bytes before text, g ∙ f, q)
prints-behind before text status old mid new r e f (inr (b, g, q)) = inr (
  begun-second before text old mid new e b,
  g ∙ ap (λ k. k + 1) f,
  q,
)

found-last : (fs : List Found) (f : Found) → last_found fs ≡ Some f → (gs : List Found) × (fs ≡ f ∷ gs)
found-last [] f e = absurd cc
found-last (g ∷ gs) f e = let h : g ≡ f = cc in (gs, ap (λ x. x ∷ gs) h)

pub solved : (p : Problem) (is_optimum : Bool) (k : ℕ) (values : List Bool) (found : List Found) (old mid new : Taken) (r : ℕ) → Improve p found →
    last_found found ≡ Some (record { cost = k; values = values; goes_on = true }) → IsOptimumOrSolution is_optimum p k values → mid.bytes ≡ old.bytes ++ cost_lines found →
    mid.faults ≡ old.faults → PrintsText (solution_text is_optimum values) (solution_status is_optimum) mid new r ⊎ ((new ≡ mid) × (r ≡ 2)) →
    PrintsAnswer p old new r
solved p is_optimum k values found old mid new r i l a e g (inl h) =
    let (gs, s) = found-last found (record { cost = k; values = values; goes_on = true }) l in
    Solved is_optimum (record { cost = k; values = values; goes_on = true }) gs (subst (Improve p) s i) a
    (prints-behind (cost_lines (record { cost = k; values = values; goes_on = true } ∷ gs)) (solution_text is_optimum values) (solution_status is_optimum) old mid new r
    (subst (λ fs. mid.bytes ≡ old.bytes ++ cost_lines fs) s e) g h)
solved p is_optimum k values found old mid new r i l a e g (inr (same, two)) =
    let (gs, s) = found-last found (record { cost = k; values = values; goes_on = true }) l in
    CostsAlone (record { cost = k; values = values; goes_on = true }) gs (subst (Improve p) s i)
    (ap (λ t. t.bytes) same ∙ subst (λ fs. mid.bytes ≡ old.bytes ++ cost_lines fs) s e) (ap (λ t. t.faults) same ∙ g) two

pub unsatisfied : (p : Problem) (found : List Found) (old mid new : Taken) (r : ℕ) → (IsSatisfiable p.hard → ⊥) → found ≡ [] →
    mid.bytes ≡ old.bytes ++ cost_lines found → mid.faults ≡ old.faults → PrintsText (codes "s UNSATISFIABLE\n") 20 mid new r → PrintsAnswer p old new r
unsatisfied p found old mid new r n s e g h =
    Unsatisfiable n (prints-behind [] (codes "s UNSATISFIABLE\n") 20 old mid new r (subst (λ fs. mid.bytes ≡ old.bytes ++ cost_lines fs) s e) g h)

pub unknown : (p : Problem) (found : List Found) (old mid new : Taken) (r : ℕ) → found ≡ [] → mid.bytes ≡ old.bytes ++ cost_lines found →
    mid.faults ≡ old.faults → PrintsText (codes "s UNKNOWN\n") 0 mid new r → PrintsAnswer p old new r
unknown p found old mid new r none e g h =
    Unknown (prints-behind [] (codes "s UNKNOWN\n") 0 old mid new r (subst (λ fs. mid.bytes ≡ old.bytes ++ cost_lines fs) none e) g h)

-- printing failed
pub broken-off : (p : Problem) (found : List Found) (old new : Taken) (r : ℕ) → Improve p found →
    PrintsBeginning (cost_lines found) old new × (new.faults ≡ old.faults + 1) → r ≡ 2 → PrintsAnswer p old new r
broken-off p found old new r i (b, more) q = BrokenOff found i b more q

-- two facts of an answer
pub both-said : {X E : Type 0} (r : Result (Option X) E) (A B : Type 0) (P Q : X → Type 0) (Z W : E → Type 0) → ((e : E) → Z e → W e) →
    IfOk r (λ o. MatchOption o A P) → MatchResult r (λ o. MatchOption o B Q) Z → MatchResult r (λ o. MatchOption o (A × B) (λ x. P x × Q x)) W
both-said (Ok (Some x)) A B P Q Z W f h k = (h, k)
both-said (Ok None) A B P Q Z W f h k = (h, k)
both-said (Err e) A B P Q Z W f h k = f e k

-- whether all was printed
pub all-printed : {E : Type 0} (fault : Option E) (found : List Found) (old new : Taken) → fault ≡ None → PrintsCosts fault found old new →
    (new.bytes ≡ old.bytes ++ cost_lines found) × (new.faults ≡ old.faults) × (IsStopped found → ⊥)
all-printed fault found old new e h = subst (λ f. PrintsCosts f found old new) e h

pub part-printed : {E : Type 0} (fault : Option E) (d : E) (found : List Found) (old new : Taken) → fault ≡ Some d → PrintsCosts fault found old new →
    PrintsBeginning (cost_lines found) old new × (new.faults ≡ old.faults + 1)
part-printed fault d found old new e h = subst (λ f. PrintsCosts f found old new) e h

-- what is known by what was returned
module _ {X E F : Type 0} (A B C U : Type 0) (P : X → Type 0) (V : E → Type 0) (Z : F → Type 0) where
  abbrev pub Said : Result (Result (Option X) E) F → Type 0
  Said r = MatchResult r (λ s. A × B × C × MatchResult s (λ t. MatchOption t U P) V) Z

  pub when-some : (r : Result (Result (Option X) E) F) (q : Result (Option X) E) (o : Option X) (x : X) → r ≡ Ok q → q ≡ Ok o → o ≡ Some x → Said r → A × B × P x
  when-some r q o x e f h m =
      let k = subst Said e m in (k.0, k.1, subst (λ y. MatchOption y U P) h (subst (λ y. MatchResult y (λ t. MatchOption t U P) V) f k.3))

  pub when-none : (r : Result (Result (Option X) E) F) (q : Result (Option X) E) (o : Option X) → r ≡ Ok q → q ≡ Ok o → o ≡ None → Said r → A × B × U
  when-none r q o e f h m =
      let k = subst Said e m in (k.0, k.1, subst (λ y. MatchOption y U P) h (subst (λ y. MatchResult y (λ t. MatchOption t U P) V) f k.3))

  pub when-failed : (r : Result (Result (Option X) E) F) (q : Result (Option X) E) (d : E) → r ≡ Ok q → q ≡ Err d → Said r → A × B × C × V d
  when-failed r q d e f m =
      let k = subst Said e m in (k.0, k.1, k.2, subst (λ y. MatchResult y (λ t. MatchOption t U P) V) f k.3)

  pub when-err : (r : Result (Result (Option X) E) F) (d : F) → r ≡ Err d → Said r → Z d
  when-err r d e m = subst Said e m
