-- What an answer of `solve` says of the state that a solver is in.
use Rattle.std.proofs.Common.{◌≡◌, ◌≢◌, ℕ, ◌+◌, ◌-◌, arith, Bool, true, false, not, List, [], ◌∷◌, ◌⊎◌, inl, inr, ⊎_elim, sym, ap, ◌∙◌, subst, refl, Some, None, Result, Ok}
use Rattle.std.proofs.lemmas.Bool.{not-true, false_from_ne_true}
use Rattle.varisat_theory.specs.promises.Membership.{◌⊆◌}
use Rattle.varisat_theory.specs.promises.Literals.{Literal, SatisfiesAll, MakesTrue, IsSatisfiable, IsSatisfiableWith}
use Rattle.varisat_proof.specs.promises.Passing.{LogsConflict}
use Rattle.varisat_proof.specs.promises.Assumed.{lists_of}
use Rattle.varisat_solver.specs.promises.States.{State, Ledger, Verdict, Unknown, Sat, Unsat, UnsatUnderAssumptions, IsRight}
use Rattle.varisat_solver.specs.promises.Journals.{with_entries, AreDerived, EndBy}
use Rattle.varisat_solver.specs.promises.Calls.{by_state, CountsIf, Decided, Searched, ReturnsVerdict, IsSpent, with_steps, with_verdict, once_searched, answer_of}
use Rattle.varisat.specs.promises.Pasts as past
use Rattle.varisat.specs.promises.Pasts.{Findings, IsAnswer, LogsFalse, by_answers}
use Rattle.varisat_solver.specs.declared.solver.SolverError.{SolverError}
use Rattle.varisat_solver.proofs.entries.StepEntries.{goes-adding}
use Rattle.varisat_solver.proofs.calls.CallStates.{same-assumptions, same-clauses, same-counted, same-ledger, same-naming, same-verdict}
use Rattle.varisat_solver.proofs.steps.SearchVerdicts.{is-unknown-or-not, answer-sat, right-false}
use Rattle.varisat.proofs.PastJournals.{logged-more, logged-interrupted, nothing-said}
use Rattle.varisat_solver.proofs.entries.LoggedEntries.{lists-derived, lists-ended, lists-on}
use Rattle.varisat.proofs.Pasts.{Knows, past_of, like-past, refuted, right-like}
use Rattle.varisat.proofs.CappedNames.{IsCapped}

-- the findings once the answer was returned
abbrev pub answered : Bool → Findings → Findings
answered b v = record v { has_model = b; has_core = not b }

-- nothing is logged where the verdict was known
same-logged : (s t : State) (b : Bool) → ReturnsVerdict by_state s b t → s.verdict ≢ Unknown → t.logged ≡ s.logged
same-logged s t b r n = go r.steps
  where
    go : CountsIf by_state s (Ok b) t → t.logged ≡ s.logged
    go (Searched u c) = absurd (n u)
    go (Decided k steps logged) = logged (ap (λ (l : Ledger). l.valid) (same-ledger r.rest) ∙ r.valid)

-- no list of assumptions is given by a call that solves
lists-solved : (s t : State) (b : Bool) → ReturnsVerdict by_state s b t → lists_of t.logged ≡ lists_of s.logged
lists-solved s t b r = ⊎_elim
    (λ u. lists-on s.logged t.logged r.logged (lists-ended t.verdict r.logged.entries (r.right.ends u)))
    (λ n. ap lists_of (same-logged s t b r n))
    (is-unknown-or-not s.verdict)

-- what is known behind an answer
pub solved : (v : Findings) (s t : State) (b : Bool) → Knows v s → ReturnsVerdict by_state (once_searched s) b t → Knows (answered b v) t
solved v s t b k r =
    let e = r.rest in
    record {
      capped = subst IsCapped (sym (same-naming e)) k.capped;
      lists = lists-solved (once_searched s) t b r ∙ k.lists;
      model = λ x. r.right.answer ∙ ap Some x;
      found = λ x. logged-true b (sym r.right.answer ∙ x);
      failed = λ x. r.right.answer ∙ ap Some (not-true b x);
      core = λ l h. logged-false b (sym r.right.answer ∙ ap answer_of h);
      some = r.right.core;
      logged = logged-more (t.ledger.steps - s.ledger.steps) s.logged t.logged v.interrupted_steps k.logged r.logged;
      right = r.right.right;
    }
  where
    logged-true : (b : Bool) → Some b ≡ Some true → b ≡ true
    logged-true b e = cc

    logged-false : (b : Bool) → Some b ≡ Some false → not b ≡ true
    logged-false b e = let z : b ≡ false = cc in ap not z

-- neither a model nor a core was found last where the verdict is unknown
pub undecided : (v : Findings) (s : State) → Knows v s → s.verdict ≡ Unknown → (v.has_model ≡ false) × (v.has_core ≡ false)
undecided v s k u = (
  false_from_ne_true v.has_model (λ e. let z : None ≡ Some true = ap answer_of (sym u) ∙ k.model e in cc),
  false_from_ne_true v.has_core (λ e. let z : None ≡ Some false = ap answer_of (sym u) ∙ k.failed e in cc),
)

-- and where it is known a model or a core was, or no assignment satisfies the clauses
pub known-by : (v : Findings) (s : State) → Knows v s → (s.verdict ≢ Unknown) ⊎ (s.verdict ≡ Unsat) →
    ((v.has_model ≡ false) × (v.has_core ≡ false) → ⊥) ⊎ (IsSatisfiable s.clauses → ⊥)
known-by v s k n = go s.verdict refl
  where
    go : (x : Verdict) → s.verdict ≡ x → ((v.has_model ≡ false) × (v.has_core ≡ false) → ⊥) ⊎ (IsSatisfiable s.clauses → ⊥)
    go Unknown e = absurd (⊎_elim (λ d. d e) (λ d. let z : Unknown ≡ Unsat = sym e ∙ d in cc) n)
    go (Sat a) e = inl (λ (m, c). let z : true ≡ false = sym (k.found (ap answer_of e)) ∙ m in cc)
    go Unsat e = inr (refuted v s k e)
    go (UnsatUnderAssumptions core) e = inl (λ (m, c). let z : true ≡ false = sym (k.core core e) ∙ c in cc)

-- how the steps are counted of a call that returns a verdict
counted : (v w : Findings) (s t : State) (r : Result Bool SolverError) → Knows v s → CountsIf by_state (once_searched s) r t →
    CountsIf by_answers (once_searched (past_of v s)) r (past_of w t)
counted v w s t r k (Searched u c) = Searched (undecided v s k u) c
counted v w s t r k (Decided n e logged) = Decided (known-by v s k n) e logged

-- some assignment satisfies the clauses and the assumptions where true is returned
pub some-with : (s t : State) → ReturnsVerdict by_state (once_searched s) true t → IsSatisfiableWith s.clauses s.assumptions
some-with s t r =
    let (a, e) = answer-sat t.verdict r.right.answer in
    let right = subst (IsRight t.clauses t.assumptions t.counted) e r.right.right in
    (a, subst (SatisfiesAll a) (same-clauses r.rest) right.0, subst (MakesTrue a) (same-assumptions r.rest) right.1)

-- what was logged refutes where false is returned and nothing assumed
conflict-logged : (s t : State) → ReturnsVerdict by_state (once_searched s) false t → s.assumptions ≡ [] → LogsConflict t.logged
conflict-logged s t r n = go t.verdict refl
  where
    none : (list : List Literal) → list ⊆ [] → list ≡ []
    none [] h = refl
    none (l ∷ list) h = absurd (h l (inl refl))

    go : (v : Verdict) → t.verdict ≡ v → LogsConflict t.logged
    go Unknown e = absurd (let z : None ≡ Some false = ap answer_of (sym e) ∙ r.right.answer in cc)
    go (Sat a) e = absurd (let z : Some true ≡ Some false = ap answer_of (sym e) ∙ r.right.answer in let y : true ≡ false = cc in cc)
    go Unsat e = r.right.refuted e
    go (UnsatUnderAssumptions list) e =
        let fails = subst (IsRight t.clauses t.assumptions t.counted) e r.right.right in
        absurd (r.right.core list e (none list (subst (λ A. list ⊆ A) ((same-assumptions r.rest) ∙ n) fails.0)))

-- and none does where false is
pub none-with : (s t : State) → ReturnsVerdict by_state (once_searched s) false t → IsSatisfiableWith s.clauses s.assumptions → ⊥
none-with s t r =
    subst (λ P. IsSatisfiableWith P s.assumptions → ⊥) (same-clauses r.rest)
    (subst (λ A. IsSatisfiableWith t.clauses A → ⊥) (same-assumptions r.rest)
    (right-false t.clauses t.assumptions t.counted t.verdict r.right.answer r.right.right))

-- nothing is logged where the verdict was known, so what is logged are lines and variables that leave
nothing-logged : (s t : State) (b : Bool) (r : ReturnsVerdict by_state (once_searched s) b t) → s.verdict ≢ Unknown → AreDerived r.logged.entries
nothing-logged s t b r n = nothing-said r.logged (same-logged (once_searched s) t b r n)

-- what is logged where true is returned
logs-true : (s t : State) (r : ReturnsVerdict by_state (once_searched s) true t) → AreDerived r.logged.entries
logs-true s t r = go t.verdict refl (is-unknown-or-not s.verdict)
  where
    go : (x : Verdict) → t.verdict ≡ x → (s.verdict ≡ Unknown) ⊎ (s.verdict ≢ Unknown) → AreDerived r.logged.entries
    go x e (inr n) = nothing-logged s t true r n
    go Unknown e (inl u) = absurd (let z : None ≡ Some true = ap answer_of (sym e) ∙ r.right.answer in cc)
    go (Sat a) e (inl u) = subst (λ v. EndBy v r.logged.entries) e (r.right.ends u)
    go Unsat e (inl u) = absurd (let z : Some false ≡ Some true = ap answer_of (sym e) ∙ r.right.answer in let y : false ≡ true = cc in cc)
    go (UnsatUnderAssumptions core) e (inl u) =
        absurd (let z : Some false ≡ Some true = ap answer_of (sym e) ∙ r.right.answer in let y : false ≡ true = cc in cc)

-- and where false is
logs-false : (v w : Findings) (s t : State) → Knows v s → (r : ReturnsVerdict by_state (once_searched s) false t) →
    LogsFalse (once_searched (past_of v s)) r.logged.entries (past_of w t)
logs-false v w s t k r = go t.verdict refl (is-unknown-or-not s.verdict)
  where
    go : (x : Verdict) → t.verdict ≡ x → (s.verdict ≡ Unknown) ⊎ (s.verdict ≢ Unknown) →
        LogsFalse (once_searched (past_of v s)) r.logged.entries (past_of w t)
    go Unknown e c = absurd (let z : None ≡ Some false = ap answer_of (sym e) ∙ r.right.answer in cc)
    go (Sat a) e c = absurd (let z : Some true ≡ Some false = ap answer_of (sym e) ∙ r.right.answer in let y : true ≡ false = cc in cc)
    go Unsat e (inl u) = past.Refuted (subst (λ v. EndBy v r.logged.entries) e (r.right.ends u)) (r.right.refuted e)
    go Unsat e (inr n) = past.Refuted (nothing-logged s t false r n) (r.right.refuted e)
    go (UnsatUnderAssumptions core) e (inl u) =
        let fails = subst (IsRight t.clauses t.assumptions t.counted) e r.right.right in
        past.Failed core (subst (λ A. core ⊆ A) (same-assumptions r.rest) fails.0) (subst (λ v. EndBy v r.logged.entries) e (r.right.ends u))
    go (UnsatUnderAssumptions core) e (inr n) = past.Again (k.core core (sym (r.right.known n) ∙ e)) (same-logged (once_searched s) t false r n)

-- what an answer says
answers : (v : Findings) (s t : State) (b : Bool) → Knows v s → (r : ReturnsVerdict by_state (once_searched s) b t) →
    IsAnswer (once_searched (past_of v s)) b r.logged.entries (past_of (answered b v) t)
answers v s t true k r = (refl, some-with s t r, logs-true s t r)
answers v s t false k r = (refl, none-with s t r, logs-false v (answered false v) s t k r, conflict-logged s t r)

-- a call is interrupted
pub interrupted : (v : Findings) (s t : State) → Knows v s → IsSpent by_state (once_searched s) t →
    Knows (by_answers.interrupted (t.ledger.steps - s.ledger.steps) v) t
interrupted v s t k r =
    let e = r.rest in
    record {
      capped = subst IsCapped (sym (same-naming e)) k.capped;
      lists = lists-on s.logged t.logged r.logged (lists-derived r.logged.entries r.derived) ∙ k.lists;
      model = λ x. ap answer_of (same-verdict e) ∙ k.model x;
      found = λ x. k.found (sym (ap answer_of (same-verdict e)) ∙ x);
      failed = λ x. ap answer_of (same-verdict e) ∙ k.failed x;
      core = λ l h. k.core l (sym (same-verdict e) ∙ h);
      some = λ l h. k.some l (sym (same-verdict e) ∙ h);
      logged = logged-interrupted (t.ledger.steps - s.ledger.steps) (t.ledger.steps - s.ledger.steps) s.logged t.logged v.interrupted_steps k.logged r.logged
          (goes-adding s.ledger.settings.reduce_locals_interval s.ledger.steps (t.ledger.steps - s.ledger.steps) s.logged r.logged.entries r.adds);
      right = right-like t s.clauses s.assumptions s.counted s.verdict (same-clauses e) (same-assumptions e) (same-counted e) (same-verdict e) k.right;
    }

-- and its steps are spent
pub spent : (v : Findings) (s t : State) → Knows v s → IsSpent by_state (once_searched s) t →
    IsSpent by_answers (once_searched (past_of v s)) (past_of (by_answers.interrupted (t.ledger.steps - s.ledger.steps) v) t)
spent v s t k r =
    let w : Findings = by_answers.interrupted (t.ledger.steps - s.ledger.steps) v in
    record {
      valid = r.valid;
      unknown = undecided v s k r.unknown;
      steps = r.steps;
      rest = like-past w (with_entries t.logged (with_steps t.ledger.steps (once_searched s))) t r.rest;
      variables = r.variables;
      logged = r.logged;
      adds = r.adds;
      derived = r.derived;
      still = λ e. ap (past_of w) (r.still e) ∙ ap (λ (n : ℕ). past_of (record v { interrupted_steps = n }) (once_searched s))
          (none (t.ledger.steps) (s.ledger.steps) v.interrupted_steps e);
    }
  where
    none : (after before steps : ℕ) → after ≡ before → steps + (after - before) ≡ steps
    none after before steps e = omega (arith, e)

-- an answer is returned
pub returned : (v : Findings) (s t : State) (b : Bool) → Knows v s → ReturnsVerdict by_state (once_searched s) b t →
    ReturnsVerdict by_answers (once_searched (past_of v s)) b (past_of (answered b v) t)
returned v s t b k r =
    let w = answered b v in
    record {
      valid = r.valid;
      steps = counted v w s t (Ok b) k r.steps;
      logged = r.logged;
      adds = r.adds;
      right = answers v s t b k r;
      rest = like-past w (with_entries t.logged (with_verdict t.verdict (with_steps t.ledger.steps (once_searched s)))) t r.rest;
    }
