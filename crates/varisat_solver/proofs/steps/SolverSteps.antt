-- What parts of a step and steps in turn come to, from the states that a solver represents.
use Rattle.std.proofs.Common.{◌≡◌, ◌≢◌, ℕ, zero, suc, ◌+◌, ◌-◌, ◌%◌, Bool, false, Option, Some, List, [], ◌++◌, Ok, Err, length, inl, inr, ⊎_elim, sym, ap, ap₂, ◌∙◌, subst, refl, arith, append_assoc}
use Rattle.varisat_theory.specs.promises.Literals.{variable_of, IsSatisfiableWith}
use Rattle.varisat_theory.specs.promises.Derivations.{Line}
use Rattle.varisat_theory.specs.inside.Outcomes.{Proves}
use Rattle.varisat_theory.specs.promises.Journals.{Entry, Retires, GoesOn}
use Rattle.varisat_theory.proofs.journals.Journals.{goes_on_further}
use Rattle.varisat_theory.proofs.clauses.Members.{∈-append_left}
use Rattle.std.proofs.lemmas.List.{append-nil}
use Rattle.varisat_theory.specs.promises.Membership.{◌∈◌}
use Rattle.varisat_theory.proofs.steps.StepsMade.{none_made, one_more_made, part_made}
use Rattle.varisat_theory.proofs.steps.StepParts.{parts_join}
use Rattle.varisat_steps.specs.Traces.{TakesLines}
use Rattle.varisat_steps.proofs.Traced.{step-lines}
use Rattle.varisat_proof.specs.promises.Calls.{CheckerState}
use Rattle.varisat_proof.specs.promises.Proving.{ProofParts}
use Rattle.varisat_tracer.specs.inside.Logged.{logged-none, logged-more}
use Rattle.varisat_tracer.specs.inside.Tracing.{TracerState, TakesGlobally, CanLog}
use Rattle.varisat_tracer.proofs.Logging.{logs-on}
use Rattle.varisat_names.specs.promises.Variables.{Tables}
use Rattle.varisat_names.specs.promises.Settings.{Settings}
use Rattle.varisat_search.specs.declared.context.Context.{Context}
use Rattle.varisat_search.specs.declared.state.SatState.TheVariants as verdict
use Rattle.varisat_search.specs.AssumptionParts.{AssumptionParts}
use Rattle.varisat_search.specs.Contexts.{view, IsReady}
use Rattle.varisat_search.specs.Decisions.{SameDecidable}
use Rattle.varisat_search.specs.DueReductions.{KeepsPartsBy, InprocessesIfDue, BeginsStep}
use Rattle.varisat_search.specs.Seen.{search_of, outcome_of}
use Rattle.varisat_search.specs.Steps.{assignment_of}
use Rattle.varisat_search.proofs.assuming.AssumptionSteps.{keeps-refl}
use Rattle.varisat_search.proofs.variables.DecidableVariables.{same-trans}
use Rattle.varisat_search.proofs.stepping.DueReductions.{inprocesses-are}
use Rattle.varisat_search.proofs.stepping.RestartSteps.{Begun, begun-view}
use Rattle.varisat_search.proofs.variables.SolverVariables.{in-use-all}
use Rattle.varisat_solver.specs.promises.Budgets.{CountsSteps}
use Rattle.varisat_solver.specs.promises.Calls.{by_state, IsValid, Searched, ReturnsVerdict, IsSpent, CountsCall, answer_of, with_verdict, with_steps}
use Rattle.varisat_solver.specs.declared.solver.SolverError.TheVariants.{Interrupted}
use Rattle.varisat_proof.specs.promises.Passing.{LogsConflict}
use Rattle.varisat_solver.specs.promises.Journals.{with_entries, LogsMore, LogsRetired, BeginsInSteps}
use Rattle.varisat_solver.specs.promises.OpenProofs.{OpenProof, GoesOnWriting}
use Rattle.varisat_solver.specs.inside.Searches.{answer_at, LogsSome, Turn, turn_of, ComesTo, ComesOn, MakesNamedStep}
use Rattle.varisat_solver.specs.inside.Detached.{IsCalm}
use Rattle.varisat_solver.specs.promises.StepEntries.{GoesOnInSteps, GoesOnKeeping, LogsInSteps, HasStayed, SpeakOfAdded}
use Rattle.varisat_solver.proofs.entries.StepEntries.{keeping-nothing, keeping-through, keeping-leaving, no-steps, one-more-step, added-append, added-wider, leaving-added, leaving-derived}
use Rattle.varisat_solver.proofs.steps.SolveVerdict.{LinesInSteps}
use Rattle.varisat_solver.specs.inside.Spaces.{Spaces, translation, VerdictFits, SpacesFit}
use Rattle.varisat_solver.specs.promises.States.{State, Verdict, Unknown, Unsat, HasRightVerdict, IsRight, FlagsFit}
use Rattle.varisat_solver.specs.inside.Representations.{IsValidSolver, spaces_of, spaces_with, undecided_spaces}
use Rattle.varisat_solver.proofs.calls.CallStates.{same-by, like-grown, like-still}
use Rattle.varisat_solver.proofs.accepting.AcceptClause.{ledger-free, proof-free, words-free}
use Rattle.varisat_solver.proofs.calls.ModelsFit.{is-sat, is-unknown}
use Rattle.varisat_solver.proofs.entries.OpenProofs.{barred-before}
use Rattle.varisat_solver.proofs.modes.TableMarks.{assumed-named}
use Rattle.varisat_solver.proofs.entries.LoggedProofs.{proof-quiet, proof-through}
use Rattle.varisat_solver.proofs.steps.SearchVerdicts.{kept-on, right-false}
use Rattle.varisat_solver.proofs.steps.BegunSteps.{begins-nothing, begins-one-more}
use Rattle.varisat_solver.proofs.calls.SolverCalls.{comes-made, answers-fit, unsat-logged, core-not-empty}
use Rattle.varisat_solver.proofs.entries.LoggedEntries.{stays-nothing, ends-through, ends-derived, derived-ends}
use Rattle.varisat_proof.specs.promises.Assumed.{lists_of}
use Rattle.varisat_solver.proofs.modes.VariableMoves.{same-in-use}

-- 1. In turn.

further-logged : (n m k : ℕ) (a b c : List Entry) → n + m ≡ k → LogsMore n a b → LogsMore m b c → LogsMore k a c
further-logged n m k a b c sum s t = record {
  entries = s.entries ++ t.entries;
  joined = t.joined ∙ ap (λ xs. xs ++ t.entries) s.joined ∙ append_assoc a s.entries t.entries;
  goes = subst (λ j. GoesOn j a (s.entries ++ t.entries)) sum
      (goes_on_further n m a s.entries t.entries s.goes (subst (λ xs. GoesOn m xs t.entries) s.joined t.goes));
}

added-through : (a b es fs : List Entry) → b ≡ a ++ es → SpeakOfAdded (HasStayed a) es → SpeakOfAdded (HasStayed b) fs → SpeakOfAdded (HasStayed a) (es ++ fs)
added-through a b es fs e s t =
    added-append (HasStayed a) es fs s
    (added-wider (HasStayed b) (HasStayed a) fs
    (λ l f i. f (subst (λ xs. Retires (variable_of l) ∈ xs) (sym e) (∈-append_left (Retires (variable_of l)) a es i))) t)

-- as long as no verdict is known the state has none
pub unknown-undecided : {A : Type 0} (m : Tables) (checker : Option CheckerState) (x : Context A) (t : State) →
    SpacesFit (undecided_spaces m checker x) t → t.verdict ≡ Unknown
unknown-undecided m checker x t (w, k) = is-unknown w.identity (undecided_spaces m checker x).model t.verdict k.verdict

-- n steps later
abbrev pub later : ℕ → Turn → Turn
later n at = record { interval = at.interval; number = at.number + n }

abbrev turn-at : ℕ → ℕ → Turn
turn-at interval number = record { interval = interval; number = number }

pub later-turn : {A : Type 0} (x y : Context A) (n : ℕ) → y.solver_config ≡ x.solver_config → y.schedule.steps ≡ x.schedule.steps + n →
    turn_of y ≡ later n (turn_of x)
later-turn x y n config steps = ap₂ turn-at (ap (λ (c : Settings). c.reduce_locals_interval) config) steps

-- nothing happened
pub comes-nowhere : (at : Turn) (n : ℕ) (s : State) (p : ProofParts) (after : Spaces) → n ≡ 0 → s.verdict ≡ Unknown → SpacesFit after s →
    ComesTo at n s p p after
comes-nowhere at n s p after e u f = record {
  verdict = s.verdict;
  logged = s.logged;
  more = record { entries = []; joined = sym (append-nil s.logged); goes = subst (λ j. GoesOn j s.logged []) (sym e) (λ held d. (held, refl)) };
  adds = λ _. subst (λ j. LogsInSteps at.interval at.number j s.logged []) (sym e) (λ due. keeping-nothing s.logged);
  stayed = λ _. tt;
  begins = begins-nothing at.interval at.number (n - 1) s.logged [] (omega (arith, e));
  ends = derived-ends [] s.verdict u tt;
  proof = proof-quiet s.variables s.logged p;
  fits = f;
}

-- More is logged, and then what comes of that: one part of a step after another.
pub comes-through : (at : Turn) (p q r : ProofParts) (before mid last : Spaces) → ((t : State) → SpacesFit mid t → t.verdict ≡ Unknown) →
    ComesOn at 0 before mid p q → ComesOn at 0 mid last q r → ComesOn at 0 before last p r
unfolding further-logged
comes-through at p q r before mid last unknown first second s fit =
    let a = first s fit in
    let t = with_entries a.logged (with_verdict a.verdict s) in
    let b = second t a.fits in
    let es = a.more.entries in
    let more = b.more.entries in
    let was = unknown t a.fits in
    record {
      verdict = b.verdict;
      logged = b.logged;
      more = further-logged 0 0 0 s.logged a.logged b.logged refl a.more b.more;
      adds = λ e due. keeping-through s.logged es more (a.adds was due) (subst (λ xs. GoesOnKeeping xs more) a.more.joined (b.adds e due));
      stayed = λ e. added-through s.logged a.logged es more a.more.joined (a.stayed was) (b.stayed e);
      begins = begins-nothing at.interval at.number (0 - 1) s.logged (es ++ more) (omega arith);
      ends = ends-through es more b.verdict (ends-derived es a.verdict was a.ends) b.ends;
      proof = proof-through s.variables s.logged a.logged b.logged p q r a.proof b.proof;
      fits = b.fits;
    }

-- Steps are made, or a part of one where none was made before, and then one more.
pub comes-one-more : (at : Turn) (n k : ℕ) (p q r : ProofParts) (before mid last : Spaces) → n + 1 ≡ k →
    ((t : State) → SpacesFit mid t → t.verdict ≡ Unknown) → ComesOn at n before mid p q → ComesOn (later n at) 1 mid last q r →
    ComesOn at k before last p r
unfolding further-logged
comes-one-more at n k p q r before mid last sum unknown first second s fit =
    let a = first s fit in
    let t = with_entries a.logged (with_verdict a.verdict s) in
    let b = second t a.fits in
    let es = a.more.entries in
    let more = b.more.entries in
    let was = unknown t a.fits in
    record {
      verdict = b.verdict;
      logged = b.logged;
      more = further-logged n 1 k s.logged a.logged b.logged sum a.more b.more;
      adds = λ e. one-more-step at.interval at.number n k s.logged es more sum a.more.goes (a.adds was)
          (subst (λ xs. SpeakOfAdded (HasStayed xs) more) a.more.joined (b.stayed e))
          (subst (λ xs. LogsInSteps at.interval (at.number + n) 1 xs more) a.more.joined (b.adds e));
      stayed = λ e. added-through s.logged a.logged es more a.more.joined (a.stayed was) (b.stayed e);
      begins = begins-one-more at.interval at.number n k s.logged es more sum (a.adds was);
      ends = ends-through es more b.verdict (ends-derived es a.verdict was a.ends) b.ends;
      proof = proof-through s.variables s.logged a.logged b.logged p q r a.proof b.proof;
      fits = b.fits;
    }

-- variables leave, and what is gone is logged
pub leaving-comes : (at : Turn) (p q : ProofParts) (before after : Spaces) → ((s : State) → SpacesFit before s → s.verdict ≡ Unknown) →
    ((s : State) → SpacesFit before s → (logged : List Entry) × LogsRetired s.variables s.logged logged p q × SpacesFit after (with_entries logged s)) →
    ComesOn at 0 before after p q
leaving-comes at p q before after unknown leave s fit =
    let (logged, t, f) = leave s fit in
    record {
      verdict = s.verdict;
      logged = logged;
      more = t.more;
      adds = λ e due. keeping-leaving s.logged t.more.entries t.leaving;
      stayed = λ e. leaving-added (HasStayed s.logged) t.more.entries t.leaving;
      begins = begins-nothing at.interval at.number (0 - 1) s.logged t.more.entries (omega arith);
      ends = derived-ends t.more.entries s.verdict (unknown s fit) (leaving-derived t.more.entries t.leaving);
      proof = t.proof;
      fits = f;
    }

-- the same of the proof alone
pub some-none : (p : ProofParts) → LogsSome p p
some-none p = ([], logged-none p)

pub some-through : (p q r : ProofParts) → LogsSome p q → LogsSome q r → LogsSome p r
some-through p q r (first, h) (second, k) = (first ++ second, logged-more p q r first second h k)

-- 2. Parts of a step.

-- a part of a step by lines
pub part-comes : {A : Type 0} (at : Turn) (p q : TracerState) (x y : Context A) (lines : List Line) → IsValidSolver p.tables x →
    LinesInSteps at.interval at.number 0 lines (search_of (view y)) → Proves 0 (search_of (view x)) (search_of (view y)) lines → TakesLines TakesGlobally p lines q → IsReady y →
    length y.assignment.current ≡ length x.assignment.current → SameDecidable (view x) x.vsids (view y) y.vsids →
    y.assumptions ≡ x.assumptions → ComesOn at 0 (undecided_spaces p.tables p.proof.checker x)
    (undecided_spaces q.tables q.proof.checker y) p.proof q.proof
part-comes at p q x y lines kept how proves takes ready count decidable same s fit =
    let used = in-use-all p.tables (view y) y.vsids (same-in-use p.tables (view x) x.vsids (view y) y.vsids kept.decidable decidable)
    ready.decidable ready.well in
    subst (λ (m : Tables). ComesTo at 0 s p.proof q.proof (undecided_spaces m q.proof.checker y)) (sym takes.tables)
    (subst (λ (a : AssumptionParts). ComesTo at 0 s p.proof q.proof (spaces_of p.tables q.proof.checker (view y) a verdict.Unknown)) (sym same)
    (comes-made at p q (view x) x.assumptions s (view y) x.assumptions x.assumptions verdict.Unknown 0 lines fit (omega arith)
    (record {
      unknown = refl;
      working = λ l h. assumed-named p.tables (variable_of l) (kept.working l h);
      same_count = count;
      well = ready.well;
      in_use = used;
      steps = part_made (search_of (view x)) (search_of (view y)) lines proves;
      assumes = keeps-refl (search_of (view x)) x.assumptions;
      rest = refl;
      named = λ e. absurd (let z : verdict.Unknown ≡ verdict.UnsatUnderAssumptions = e in cc);
    })
    (λ e. how)
    (step-lines TakesGlobally p q lines (outcome_of (view y) x.assumptions.failed_core verdict.Unknown) refl takes)))

-- A step begins.
module _ {A : Type 0} {are : List Line → Type 0} (x z : Context A) (b : BeginsStep are x z) where
  begin-same : z.assumptions ≡ x.assumptions
  begin-same = ap (λ (y : Context A). y.assumptions) b.rest ∙ ap (λ (y : Context A). y.assumptions) b.begins

  begin-decidable : SameDecidable (view x) x.vsids (view z) z.vsids
  begin-decidable = same-trans (view x) x.vsids (view b.begun) b.begun.vsids (view z) z.vsids b.decidable b.inprocesses.goes_on.decidable

  module _ (ready : IsReady x) where
    begin-view : Begun (view x) (view b.begun)
    begin-view = begun-view x.schedule x.assumptions.levels (view x) (view b.begun) ready.well ready.settled b.restarts

    pub begin-count : length z.assignment.current ≡ length x.assignment.current
    begin-count = b.inprocesses.goes_on.extends.count ∙ begin-view.count

    pub begin-kept : (t : Tables) → IsValidSolver t x → IsValidSolver t z
    begin-kept t k = kept-on t x z k b.inprocesses.goes_on.ready begin-count begin-decidable begin-same

    -- where no learned clause may be deleted a part of each clause stays
    begin-proves : z.schedule.steps ≡ x.schedule.steps → (lines : List Line) × Proves 0 (search_of (view x)) (search_of (view z)) lines
        × ((x.schedule.steps % x.solver_config.reduce_locals_interval ≢ 0 → KeepsPartsBy lines) × are lines)
    begin-proves same = let (lines, p, (d, parts, i)) = b.inprocesses.goes_on.proves in (
      lines,
      parts_join 0 0 (search_of (view x)) (search_of (view b.begun)) (search_of (view z)) [] lines begin-view.proves p,
      ((λ due. parts (λ e. due (sym turn ∙ e))), i),
    )
      where
        turn : b.begun.schedule.steps % b.begun.solver_config.reduce_locals_interval ≡ x.schedule.steps % x.solver_config.reduce_locals_interval
        turn = ap₂ (λ (m n : ℕ). m % n) (sym (ap (λ (y : Context A). y.schedule.steps) b.rest) ∙ same)
            (ap (λ (y : Context A). y.solver_config.reduce_locals_interval) b.begins)

-- whatever its lines are
pub begins-any : {A : Type 0} {are : List Line → Type 0} (x z : Context A) → BeginsStep are x z → BeginsStep (λ lines. Unit {0}) x z
begins-any {are = are} x z b = record {
  begun = b.begun;
  restarts = b.restarts;
  saves = b.saves;
  begins = b.begins;
  decidable = b.decidable;
  decay = b.decay;
  inprocesses = inprocesses-are InprocessesIfDue InprocessesIfDue are (λ lines. Unit {0}) b.begun z (λ lines (d, parts, i). (d, parts, tt)) b.inprocesses;
  rest = b.rest;
}

pub begin-logged : {A : Type 0} (p q : TracerState) (x z : Context A) → BeginsStep (λ lines. TakesLines TakesGlobally p lines q) x z → LogsSome p.proof q.proof
begin-logged p q x z b = let (lines, k, (d, parts, takes)) = b.inprocesses.goes_on.proves in (_, takes.logged)

pub begin-tables : {A : Type 0} (p q : TracerState) (x z : Context A) → BeginsStep (λ lines. TakesLines TakesGlobally p lines q) x z → q.tables ≡ p.tables
begin-tables p q x z b = let (lines, k, (d, parts, takes)) = b.inprocesses.goes_on.proves in takes.tables

pub begin-logs : {A : Type 0} (p q : TracerState) (x z : Context A) → BeginsStep (λ lines. TakesLines TakesGlobally p lines q) x z →
    CanLog p.proof → CanLog q.proof
begin-logs p q x z b t = let (lines, k, (d, parts, takes)) = b.inprocesses.goes_on.proves in logs-on p q _ takes t

pub begin-comes : {A : Type 0} (p q : TracerState) (x z : Context A) → IsValidSolver p.tables x → z.schedule.steps ≡ x.schedule.steps →
    BeginsStep (λ lines. TakesLines TakesGlobally p lines q) x z →
    ComesOn (turn_of x) 0 (undecided_spaces p.tables p.proof.checker x) (undecided_spaces q.tables q.proof.checker z) p.proof q.proof
begin-comes p q x z kept same b =
    let (lines, proves, (parts, takes)) = begin-proves x z b kept.ready same in
    part-comes (turn_of x) p q x z lines kept
    (λ due held after d f c h. inl (parts due held after d c h)) proves takes b.inprocesses.goes_on.ready (begin-count x z b kept.ready) (begin-decidable x z b) (begin-same x z b)

-- a conflict step, whose core is kept over names
pub named-comes : {A : Type 0} (p q : TracerState) (x y : Context A) → IsValidSolver p.tables x → MakesNamedStep p q x y →
    IsCalm (view x) → (at : Turn) →
    ComesOn at 1 (undecided_spaces p.tables p.proof.checker x) (spaces_with q.tables q.proof.checker y) p.proof q.proof
named-comes p q x y kept f calm at s fit =
    let (lines, steps, learns, takes) = f.steps in
    let v = outcome_of (view y) f.parts.failed_core y.solver_state.sat_state in
    subst (λ (m : Tables). ComesTo at 1 s p.proof q.proof (spaces_with m q.proof.checker y)) (sym f.tables)
    (comes-made at p q (view x) x.assumptions s (view y) f.parts y.assumptions y.solver_state.sat_state 1 lines fit (omega arith)
    (record {
      unknown = refl;
      working = λ l h. assumed-named p.tables (variable_of l) (kept.working l h);
      same_count = f.count;
      well = f.ready.well;
      in_use = in-use-all p.tables (view y) y.vsids (same-in-use p.tables (view x) x.vsids (view y) y.vsids kept.decidable f.decidable)
          f.ready.decidable f.ready.well;
      steps = one_more_made 0 (search_of (view x)) (search_of (view x)) (search_of (view y)) v [] lines (none_made (search_of (view x))) steps;
      assumes = f.assumes;
      rest = f.rest;
      named = f.core;
    })
    (λ u. (
      refl,
      ⊎_elim
          (λ c. learns c u)
          (λ (none, (conflict, c)). absurd (let z : verdict.Unknown ≡ verdict.Unsat = sym u ∙ f.fixes.refutes none conflict c in cc))
          calm,
    ))
    takes)

-- without a verdict it goes on from there
pub comes-undecided : {A : Type 0} (at : Turn) (n : ℕ) (before : Spaces) (m : Tables) (y : Context A) (p q : ProofParts) →
    y.solver_state.sat_state ≡ verdict.Unknown → ComesOn at n before (spaces_with m q.checker y) p q →
    ComesOn at n before (undecided_spaces m q.checker y) p q
comes-undecided at n before m y p q e on s fit = subst (λ b. ComesTo at n s p q (spaces_of m q.checker (view y) y.assumptions b)) e (on s fit)

pub comes-decided : {A : Type 0} (at : Turn) (n : ℕ) (before : Spaces) (m : Tables) (y : Context A) (p q : ProofParts) →
    y.solver_state.sat_state ≡ verdict.Unknown → ComesOn at n before (undecided_spaces m q.checker y) p q →
    ComesOn at n before (spaces_with m q.checker y) p q
comes-decided at n before m y p q e on s fit = subst (λ b. ComesTo at n s p q (spaces_of m q.checker (view y) y.assumptions b)) (sym e) (on s fit)

-- 3. What `solve` leads to.

module _ {A : Type 0} {at : Turn} {n : ℕ} {s : State} {p q : ProofParts} (m : Tables) (y : Context A) (c : ComesTo at n s p q (spaces_with m q.checker y)) where
  pub comes-answer : answer_of c.verdict ≡ answer_at y.solver_state.sat_state
  comes-answer = let (w, k) = c.fits in answers-fit w.identity (spaces_with m q.checker y).model
      (view y) y.assumptions.failed_core y.solver_state.sat_state c.verdict k.verdict

  comes-right : HasRightVerdict (with_verdict c.verdict s)
  comes-right = let (w, k) = c.fits in k.right

  comes-refuted : c.verdict ≡ Unsat → LogsConflict c.logged
  comes-refuted e = let (w, k) = c.fits in unsat-logged w.identity (spaces_with m q.checker y).model
      (translation w (spaces_with m q.checker y) c.logged) (spaces_with m q.checker y).search.fixed k.holds.held
      (spaces_with m q.checker y).outcome c.verdict e k.verdict k.holds.logged

  pub comes-satisfiable : y.solver_state.sat_state ≡ verdict.Sat → IsSatisfiableWith s.clauses s.assumptions
  comes-satisfiable e =
      let (w, k) = c.fits in
      let (a, v, f) = is-sat w.identity (spaces_with m q.checker y).model (assignment_of (view y)) c.verdict
      (subst (λ o. VerdictFits w.identity (spaces_with m q.checker y).model (outcome_of (view y) y.assumptions.failed_core o) c.verdict) e k.verdict) in
      let r = subst (IsRight s.clauses s.assumptions s.counted) v k.right in
      (a, r.0, r.1)

  pub comes-unsatisfiable : answer_at y.solver_state.sat_state ≡ Some false → IsSatisfiableWith s.clauses s.assumptions → ⊥
  comes-unsatisfiable e = right-false s.clauses s.assumptions s.counted c.verdict (comes-answer ∙ e) comes-right

-- where steps were made, what is logged is logged in steps
moved-steps : (interval number k : ℕ) (logged es : List Entry) → (k ≡ 0 → ⊥) → LogsInSteps interval number k logged es → GoesOnInSteps interval number k logged es
moved-steps interval number zero logged es n a = absurd (n refl)
moved-steps interval number (suc k) logged es n a = a

-- the state once a verdict was found or none, more was logged, an open proof has more bytes and the clause store another size
abbrev pub after-solve : List Entry → Verdict → ℕ → Option OpenProof → ℕ → State → State
after-solve logged v n proof words s = record s
    { verdict = v; ledger = record s.ledger { steps = n; since = s.ledger.since + (n - s.ledger.steps) }; logged = logged; proof = proof; words = words }

-- what two flags say of it
pub flags-after : (s : State) (logged : List Entry) (v : Verdict) (n : ℕ) (now : Option OpenProof) (words : ℕ) → FlagsFit s → lists_of logged ≡ lists_of s.logged →
    GoesOnWriting s.proof now → FlagsFit (after-solve logged v n now words s)
flags-after s logged v n now words f m g = record {
  clauses = f.clauses;
  assumptions = f.assumptions;
  counted = f.counted;
  unlisted = λ e. m ∙ f.unlisted e;
  unassumed = λ o. f.unassumed (barred-before s.proof now g o);
}

module _ {A : Type 0} {at : Turn} {k : ℕ} {s : State} {p q : ProofParts} (m : Tables) (y : Context A) (c : ComesTo at k s p q (spaces_with m q.checker y))
    (n : ℕ) (now : Option OpenProof) (words : ℕ) where
  pub comes-fits : SpacesFit (spaces_with m q.checker y) (after-solve c.logged c.verdict n now words s)
  comes-fits =
      let (w, l) = c.fits in
      let u = after-solve c.logged c.verdict n now words s in (
        w,
        ledger-free w (spaces_with m q.checker y) (record s { verdict = c.verdict; logged = c.logged; proof = now; words = words }) u.ledger
            (words-free w (spaces_with m q.checker y) (record s { verdict = c.verdict; logged = c.logged; proof = now }) words
            (proof-free w (spaces_with m q.checker y) (with_entries c.logged (with_verdict c.verdict s)) now l)),
      )

  -- the steps are numbered as the state counts them
  abbrev IsTurnOf : Type 0
  IsTurnOf = (at.interval ≡ s.ledger.settings.reduce_locals_interval) × (at.number ≡ s.ledger.steps)

  pub comes-verdict : (b : Bool) → IsValid s → s.verdict ≡ Unknown → IsTurnOf →
      CountsSteps (length s.counted) s.ledger.settings.max_steps s.ledger.since s.ledger.steps n (Ok b) →
      answer_at y.solver_state.sat_state ≡ Some b → k ≡ n - s.ledger.steps → GoesOnWriting s.proof now →
      ReturnsVerdict by_state s b (after-solve c.logged c.verdict n now words s)
  comes-verdict b valid was turn counts answer made grows = record {
    valid = valid;
    steps = Searched was counts;
    logged = record { entries = c.more.entries; joined = c.more.joined; goes = subst (λ j. GoesOn j s.logged c.more.entries) made c.more.goes };
    adds = subst (λ i. BeginsInSteps i s.ledger.steps (n - s.ledger.steps - 1) s.logged c.more.entries) turn.0
        (subst (λ j. BeginsInSteps at.interval j (n - s.ledger.steps - 1) s.logged c.more.entries) turn.1
        (subst (λ j. BeginsInSteps at.interval at.number (j - 1) s.logged c.more.entries) made c.begins));
    right = record {
      known = λ z. absurd (z was);
      answer = comes-answer m y c ∙ answer;
      right = comes-right m y c;
      ends = λ _. c.ends;
      refuted = comes-refuted m y c;
      core = λ list e. let (w, l) = c.fits in
          core-not-empty w.identity (spaces_with m q.checker y).model (spaces_with m q.checker y).outcome c.verdict list e l.verdict;
    };
    rest = like-grown (after-solve c.logged c.verdict n s.proof s.words s) now words grows;
  }

  pub comes-interrupted : IsValid s → s.verdict ≡ Unknown → IsTurnOf → CountsSteps
      (length s.counted) s.ledger.settings.max_steps s.ledger.since s.ledger.steps n (Err Interrupted) → c.verdict ≡ Unknown →
      k ≡ n - s.ledger.steps → (n ≡ s.ledger.steps → ⊥) → GoesOnWriting s.proof now → IsSpent by_state s (after-solve c.logged c.verdict n now words s)
  comes-interrupted valid was turn counts unknown made moved grows = record {
    valid = valid;
    unknown = was;
    steps = counts;
    rest = record {
      same = same-by (with_entries c.logged (with_verdict s.verdict (with_steps n s))) (after-solve c.logged c.verdict n now words s) refl refl refl refl refl
          (unknown ∙ sym was) refl;
      logged = (stays-nothing c.logged).0;
      derived = (stays-nothing c.logged).2;
      stays = λ _. (stays-nothing c.logged).1;
      alike = refl;
      proof = grows;
    };
    variables = refl;
    logged = record {
      entries = c.more.entries;
      joined = c.more.joined;
      goes = subst (λ j. GoesOn j s.logged c.more.entries) made c.more.goes;
    };
    adds = subst (λ i. GoesOnInSteps i s.ledger.steps (n - s.ledger.steps) s.logged c.more.entries) turn.0
        (subst (λ j. GoesOnInSteps at.interval j (n - s.ledger.steps) s.logged c.more.entries) turn.1
        (moved-steps at.interval at.number (n - s.ledger.steps) s.logged c.more.entries
        (λ z. absurd (moved (let low = counts.count in omega (arith, z, low))))
        (subst (λ j. LogsInSteps at.interval at.number j s.logged c.more.entries) made (c.adds unknown))));
    derived = ends-derived c.more.entries c.verdict unknown c.ends;
    still = λ e. absurd (moved e);
  }

-- no step could be made
pub interrupted-still : (s : State) → IsValid s → s.verdict ≡ Unknown → CountsCall s (Err Interrupted) s → IsSpent by_state s s
interrupted-still s valid was counts =
    let none : 0 ≡ s.ledger.steps - s.ledger.steps = omega arith in
    record {
      valid = valid;
      unknown = was;
      steps = counts;
      rest = like-still s;
      variables = refl;
      logged = record { entries = []; joined = sym (append-nil s.logged); goes = subst (λ j. GoesOn j s.logged []) none (λ held d. (held, refl)) };
      adds = subst (λ j. GoesOnInSteps s.ledger.settings.reduce_locals_interval s.ledger.steps j s.logged []) none
          (no-steps s.ledger.settings.reduce_locals_interval s.ledger.steps s.logged);
      derived = tt;
      still = λ e. refl;
    }
