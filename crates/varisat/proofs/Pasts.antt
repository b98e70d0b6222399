-- What the calls and answers so far say of the state that a solver is in.
use Rattle.std.proofs.Common.{◌≡◌, ◌≢◌, ℕ, Bool, true, false, List, [], ◌∷◌, ◌++◌, ◌⊎◌, inl, inr, ⊎_elim, sym, ap, ◌∙◌, subst, refl, Option, Some, None, map, arith}
use Rattle.std.proofs.lemmas.Bool.{false_from_ne_true}
use Rattle.std.proofs.lemmas.List.{append-nil}
use Rattle.varisat_theory.specs.promises.Membership.{◌⊆◌}
use Rattle.varisat_theory.specs.promises.Literals.{Literal, Clause, Assignment, IsSatisfiable}
use Rattle.varisat_theory.specs.promises.Journals.{Accepts, Assumes}
use Rattle.varisat_lines.specs.declared.format.ProofFormat.{ProofFormat}
use Rattle.varisat_proof.specs.promises.Assumed.{lists_of}
use Rattle.varisat_solver.specs.promises.OpenProofs.{OpenProof}
use Rattle.varisat_solver.specs.promises.States.{State, Ledger, Verdict, Unknown, Sat, Unsat, UnsatUnderAssumptions, new_state, IsRight, HasRightVerdict}
use Rattle.varisat_solver.specs.promises.Names.{Naming, name_all, through_names}
use Rattle.varisat_solver.specs.promises.Models.{list_names, model_of, IsCompletable}
use Rattle.varisat_solver.specs.promises.Calls as state
use Rattle.varisat_solver.specs.promises.Calls.{by_state, IsValid, IsLikeButLeft, IsRefuted, answer_of, reopened_verdict, assumed_verdict, VerdictAfter}
use Rattle.varisat.specs.promises.Pasts.{Findings, Past, MayReturnModel, MayReturnCore, by_answers, empty_past}
use Rattle.varisat_solver.proofs.calls.CallStates.{same-assumptions, same-clauses, same-counted, same-naming, same-verdict}
use Rattle.varisat_solver.proofs.entries.LoggedEntries.{logs-through, logs, accepts-goes, assumes-goes, lists-append, lists-derived, lists-on}
use Rattle.varisat.proofs.PastJournals.{KnowsLogged, logged-more}
use Rattle.varisat_solver.proofs.steps.SearchVerdicts.{logged-fails, core-answer, no-core, reopened-core, assumed-no-core, reopened-not-true, reopened-false, right-reopened, assumed-not-true, right-assumed}
use Rattle.varisat_solver.proofs.calls.ModelsFit.{completable}
use Rattle.varisat.proofs.CappedNames.{IsCapped, capped-all}
use Rattle.varisat.proofs.Effects.{recast}

-- 1. The state and the past.

-- the past of a state, where these are the findings
abbrev pub past_of : Findings → State → Past
past_of v s = recast v s

-- what the findings say of the state as long as it is valid
pub record Knows (v : Findings) (s : State) : Type 0 where
  pub capped : IsCapped s.naming
  pub lists : lists_of s.logged ≡ v.lists
  pub model : v.has_model ≡ true → answer_of s.verdict ≡ Some true
  pub found : answer_of s.verdict ≡ Some true → v.has_model ≡ true
  pub failed : v.has_core ≡ true → answer_of s.verdict ≡ Some false
  pub core : (l : List Literal) → s.verdict ≡ UnsatUnderAssumptions l → v.has_core ≡ true
  pub some : (l : List Literal) → s.verdict ≡ UnsatUnderAssumptions l → l ≢ []
  pub logged : KnowsLogged s.logged v.interrupted_steps
  pub right : HasRightVerdict s

-- they are those to which the calls lead
abbrev pub Agrees : Findings → State → Type 0
Agrees v s = IsValid s → Knows v s

-- It stays where only the ledger changes, the steps, the settings, and the open proof.
knows-still : (v : Findings) (s : State) (l : Ledger) (u : Option OpenProof) → Knows v s → Knows v (record s { ledger = l; proof = u })
knows-still v s l u k = record {
  capped = k.capped;
  lists = k.lists;
  model = k.model;
  found = k.found;
  failed = k.failed;
  core = k.core;
  some = k.some;
  logged = k.logged;
  right = k.right;
}

-- nothing changes
pub stays : (v : Findings) (s t : State) → t ≡ s → Agrees v s → Agrees v t
stays v s t e g = subst (Agrees v) (sym e) g

-- but for the ledger and the open proof, and the state is valid only where it was
pub stays-but : (v : Findings) (s t : State) (l : Ledger) (u : Option OpenProof) → t ≡ record s { ledger = l; proof = u } →
    (l.valid ≡ true → IsValid s) → Agrees v s → Agrees v t
stays-but v s t l u e was g = subst (Agrees v) (sym e) (λ c. knows-still v s l u (g (was c)))

-- what a user knows is alike
pub like-past : {may_leave : Bool} (v : Findings) (s t : State) → IsLikeButLeft may_leave s t → IsLikeButLeft may_leave (past_of v s) (past_of v t)
like-past v s t e = record {
  same = ap (past_of v) e.same;
  logged = e.logged;
  derived = e.derived;
  stays = e.stays;
  alike = e.alike;
  proof = e.proof;
}

pub right-like : (t : State) (P : List Clause) (A : List Literal) (C : List ℕ) (v : Verdict) → t.clauses ≡ P → t.assumptions ≡ A → t.counted ≡ C →
    t.verdict ≡ v → IsRight P A C v → HasRightVerdict t
right-like t P A C v c a n w r =
    subst (λ x. IsRight t.clauses t.assumptions t.counted x) (sym w)
    (subst (λ x. IsRight t.clauses t.assumptions x v) (sym n)
    (subst (λ x. IsRight t.clauses x C v) (sym a)
    (subst (λ x. IsRight x A C v) (sym c) r)))

-- 2. A clause.

after-cases : (P : List Clause) (c : Clause) (v w : Verdict) → VerdictAfter P c v w → ((w ≡ Unsat) × (IsSatisfiable (P ++ c ∷ []) → ⊥))
    ⊎ (w ≡ reopened_verdict v)
after-cases P c v w (state.Refuted e u) = inl (e, u)
after-cases P c v w (state.Reopened e u) = inr e

pub accepted : (v : Findings) (s t : State) (d : Clause) → s.verdict ≢ Unsat → state.Accepts by_state s d t → Knows v s →
    Knows (record v { has_model = false }) t
accepted v s t d n (w, after, e) k =
    let c = map (through_names (name_all d s.naming)) d in
    let cases = after-cases s.clauses c s.verdict w after in
    record {
      capped = subst IsCapped (sym (same-naming e)) (capped-all d s.naming k.capped);
      lists = lists-on (s.logged ++ Accepts c ∷ []) t.logged e.logged (lists-derived e.logged.entries e.derived) ∙ lists-append s.logged (Accepts c ∷ [])
          ∙ append-nil (lists_of s.logged) ∙ k.lists;
      model = λ h. absurd cc;
      found = λ h. absurd (⊎_elim
          (λ r. let z : Some false ≡ Some true = ap answer_of (sym ((same-verdict e) ∙ r.0)) ∙ h in let y : false ≡ true = cc in cc)
          (λ r. reopened-not-true s.verdict (ap answer_of (sym ((same-verdict e) ∙ r)) ∙ h)) cases);
      logged = logged-more 0 s.logged t.logged v.interrupted_steps k.logged
          (logs-through 0 0 s.logged (s.logged ++ Accepts c ∷ []) t.logged (logs 0 s.logged (Accepts c ∷ []) (accepts-goes s.logged c)) e.logged);
      failed = λ h. ⊎_elim
          (λ r. ap answer_of ((same-verdict e) ∙ r.0))
          (λ r. ap answer_of ((same-verdict e) ∙ r) ∙ reopened-false s.verdict (k.failed h))
          cases;
      core = λ l h. ⊎_elim
          (λ r. let z : Unsat ≡ UnsatUnderAssumptions l = sym ((same-verdict e) ∙ r.0) ∙ h in absurd cc)
          (λ r. k.core l (reopened-core s.verdict l (sym ((same-verdict e) ∙ r) ∙ h))) cases;
      some = λ l h. ⊎_elim
          (λ r. let z : Unsat ≡ UnsatUnderAssumptions l = sym ((same-verdict e) ∙ r.0) ∙ h in absurd cc)
          (λ r. k.some l (reopened-core s.verdict l (sym ((same-verdict e) ∙ r) ∙ h))) cases;
      right = ⊎_elim
          (λ r. right-like t (s.clauses ++ c ∷ []) s.assumptions t.counted Unsat (same-clauses e) (same-assumptions e) refl ((same-verdict e) ∙ r.0) r.1)
          (λ r. right-like t (s.clauses ++ c ∷ []) s.assumptions t.counted (reopened_verdict s.verdict) (same-clauses e) (same-assumptions e) refl
          ((same-verdict e) ∙ r) (right-reopened s.clauses c s.assumptions s.counted t.counted s.verdict n k.right))
          cases;
    }

-- under Unsat no assignment satisfies the clauses
pub refuted : (v : Findings) (s : State) → Knows v s → s.verdict ≡ Unsat → IsSatisfiable s.clauses → ⊥
refuted v s k u = subst (IsRight s.clauses s.assumptions s.counted) u k.right

-- 3. Names.

-- The state has the names m now. All else that is known stays.
pub knows-like : {may_leave : Bool} (v : Findings) (s t : State) (m : Naming) (b : Bool) (l : Ledger) →
    IsLikeButLeft may_leave (record s { naming = m; ever_hidden = b; ledger = l }) t → IsCapped m → Knows v s → Knows v t
knows-like v s t m b l e h k = record {
  capped = subst IsCapped (sym (same-naming e)) h;
  lists = lists-on s.logged t.logged e.logged (lists-derived e.logged.entries e.derived) ∙ k.lists;
  model = λ x. ap answer_of (same-verdict e) ∙ k.model x;
  found = λ x. k.found (sym (ap answer_of (same-verdict e)) ∙ x);
  failed = λ x. ap answer_of (same-verdict e) ∙ k.failed x;
  core = λ l h. k.core l (sym (same-verdict e) ∙ h);
  some = λ l h. k.some l (sym (same-verdict e) ∙ h);
  logged = logged-more 0 s.logged t.logged v.interrupted_steps k.logged e.logged;
  right = right-like t s.clauses s.assumptions s.counted s.verdict (same-clauses e) (same-assumptions e) (same-counted e) (same-verdict e) k.right;
}

-- 4. Assumptions.

-- the findings once the list, over identities, is assumed
abbrev pub listed : List Literal → Findings → Findings
listed list v = record v { has_model = false; has_core = false; lists = v.lists ++ list ∷ [] }

pub assumed-list : (v : Findings) (s t : State) (list : List Literal) → state.TakesAssumed by_state s list t → Knows v s →
    Knows (listed (map (through_names (name_all list s.naming)) list) v) t
assumed-list v s t list e k =
    let c = map (through_names (name_all list s.naming)) list in
    record {
      capped = subst IsCapped (sym (same-naming e)) (capped-all list s.naming k.capped);
      lists = lists-on (s.logged ++ Assumes c ∷ []) t.logged e.logged (lists-derived e.logged.entries e.derived) ∙ lists-append s.logged (Assumes c ∷ [])
          ∙ ap (λ x. x ++ c ∷ []) k.lists;
      model = λ x. absurd cc;
      found = λ x. absurd (assumed-not-true s.verdict (sym (ap answer_of (same-verdict e)) ∙ x));
      failed = λ x. absurd cc;
      core = λ l h. absurd (assumed-no-core s.verdict l (sym (same-verdict e) ∙ h));
      some = λ l h. absurd (assumed-no-core s.verdict l (sym (same-verdict e) ∙ h));
      logged = logged-more 0 s.logged t.logged v.interrupted_steps k.logged
          (logs-through 0 0 s.logged (s.logged ++ Assumes c ∷ []) t.logged (logs 0 s.logged (Assumes c ∷ []) (assumes-goes s.logged c)) e.logged);
      right = right-like t s.clauses t.assumptions t.counted (assumed_verdict s.verdict) (same-clauses e) refl refl (same-verdict e)
          (right-assumed s.clauses s.assumptions t.assumptions s.counted t.counted s.verdict k.right);
    }

-- 5. A refutation.

-- what the past claims of the clauses the state does
pub claimed : (v : Findings) (s : State) → Knows v s → (f : ProofFormat) → IsRefuted by_answers f (past_of v s) → IsRefuted by_state f s
claimed v s k f (c, alone) = (k.failed c, λ m. go (alone m) s.verdict refl)
  where
    nothing : (list : List Literal) → list ⊆ [] → list ≡ []
    nothing [] h = refl
    nothing (l ∷ list) h = absurd (h l (inl refl))

    go : s.assumptions ≡ [] → (x : Verdict) → s.verdict ≡ x → s.verdict ≡ Unsat
    go none Unknown e = let z : None ≡ Some false = ap answer_of (sym e) ∙ k.failed c in absurd cc
    go none (Sat a) e = let z : Some true ≡ Some false = ap answer_of (sym e) ∙ k.failed c in let y : true ≡ false = cc in absurd cc
    go none Unsat e = e
    go none (UnsatUnderAssumptions list) e =
        let fails = subst (IsRight s.clauses s.assumptions s.counted) e k.right in
        absurd (k.some list e (nothing list (subst (λ A. list ⊆ A) none fails.0)))

-- 6. A model.

pub model-sat : (m : Naming) (v : Verdict) (model : List Literal) → Some model ≡ model_of m v → (a : Assignment) × (v ≡ Sat a)
    × (model ≡ list_names m a 0 m.watermark)
model-sat m Unknown model e = absurd cc
model-sat m (Sat a) model e = (a, refl, cc)
model-sat m Unsat model e = absurd cc
model-sat m (UnsatUnderAssumptions core) model e = absurd cc

pub no-model : (m : Naming) (v : Verdict) → None ≡ model_of m v → answer_of v ≡ Some true → ⊥
no-model m Unknown e x = cc
no-model m (Sat a) e x = cc
no-model m Unsat e x = let z : false ≡ true = cc in cc
no-model m (UnsatUnderAssumptions core) e x = let z : false ≡ true = cc in cc

pub may-return-model : (v : Findings) (s : State) (m : Option (List Literal)) → Knows v s → by_state.model s m → MayReturnModel (past_of v s) m
may-return-model v s None k e = false_from_ne_true v.has_model (λ h. no-model s.naming s.verdict e (k.model h))
may-return-model v s (Some model) k e =
    let (a, x, l) = model-sat s.naming s.verdict model e in
    let whole = completable s a k.capped (subst (IsRight s.clauses s.assumptions s.counted) x k.right) in
    (k.found (ap answer_of x), subst (IsCompletable s.naming s.clauses s.assumptions s.counted) (sym l) whole)

-- 7. A core.

-- where the answer is false no model was found last
no-model-false : (v : Findings) (s : State) → Knows v s → answer_of s.verdict ≡ Some false → v.has_model ≡ false
no-model-false v s k a = false_from_ne_true v.has_model (λ h. let z : Some false ≡ Some true = sym a ∙ k.model h in let y : false ≡ true = cc in cc)

pub may-return-core : (v : Findings) (s : State) (core : Option (List Literal)) → Knows v s → by_state.core s core → MayReturnCore (past_of v s) core
may-return-core v s None k e = false_from_ne_true v.has_core (λ h. no-core s.verdict e (k.failed h))
may-return-core v s (Some core) k e =
    (no-model-false v s k (core-answer s.verdict (map (through_names s.naming) core) e.1), e.0, logged-fails s core k.right e)

-- 8. Before the first call.

pub new-agrees : (check : Bool) → Agrees empty_past.verdict (new_state check)
new-agrees check = λ _. record {
  capped = λ u h. refl;
  lists = refl;
  model = λ e. absurd cc;
  found = λ e. absurd cc;
  failed = λ e. absurd cc;
  core = λ l e. absurd cc;
  some = λ l e. absurd cc;
  logged = record { held = []; led = refl; enough = omega arith };
  right = tt;
}
