-- Rounds of a search, each by a call that flushes the proof: those whose steps were spent and the one after them come to what one search
-- comes to under the limits together.
use Rattle.std.proofs.Common.{◌≡◌, ◌≢◌, ◌∙◌, ℕ, Bool, true, false, inl, inr, ◌⊎◌, Option, Some, None, List, [], ◌++◌, Result, Ok, Err, refl, sym, ap, subst, ◌+◌, ◌^◌, ◌<◌, ◌≤◌, length, arith}
use Rattle.std.specs.Result.{IfOk}
use Rattle.varisat_theory.specs.promises.CallBounds.{AreFew}
use Rattle.varisat_solver.specs.promises.OpenProofs.{OpenProof, IsOpen, GoesOnWriting, GoesOnFailing, searched_under}
use Rattle.varisat_solver.specs.promises.States.{State, Unknown, Unsat}
use Rattle.varisat_solver.specs.promises.Names.{Naming}
use Rattle.varisat_solver.specs.promises.Budgets.{CountsSteps}
use Rattle.varisat_solver.specs.promises.Summaries.{Summary}
use Rattle.varisat_solver.specs.inside.Representations.{Represents}
use Rattle.varisat_solver.specs.promises.Calls.{IsValid, CountsCall, CountsIf, Decided, Searched, Solves, FailsStep, IsStoreFull, once_searched, with_steps, with_max_steps, by_state}
use Rattle.varisat_solver.specs.declared.solver.SolverError.{SolverError}
use Rattle.varisat_solver.specs.declared.solver.SolverError.TheVariants.{Interrupted, ProofIoError, OutOfMemory, Invalid, ClauseStoreFull, WitnessVar, VariableLimit, AssumedVar, ClauseAfterSolve, ProofOpen, ProofTooLate, ConfigOutOfRange, Dimacs}
use Rattle.varisat_solver.proofs.steps.SearchRounds.{WentOn, went-nowhere, goes-on, comes-to}
use Rattle.varisat.specs.declared.deciding.Report.{Report}
use Rattle.varisat.specs.declared.deciding.Report.TheVariants as report
use Rattle.varisat.specs.promises.Proven.{Reports}

-- 1. A proof under which `solve` was called.

searched-on : (p q : Option OpenProof) → GoesOnWriting (searched_under p) q → searched_under q ≡ q
searched-on None q e = ap searched_under e ∙ sym e
searched-on (Some p) q (more, e) = ap searched_under e ∙ sym e

once-same : (t : State) → searched_under t.proof ≡ t.proof → once_searched t ≡ t
once-same t e = ap (λ p. record t { proof = p }) e

open-back : (p q : Option OpenProof) → GoesOnWriting (searched_under p) (searched_under q) → IsOpen q → IsOpen p
open-back (Some p) q h o = (p, refl)
open-back None (Some q) h o = absurd cc
open-back None None h (q, e) = absurd cc

open-searched : (p : Option OpenProof) → IsOpen p → IsOpen (searched_under p)
open-searched (Some p) o = (record p { searched = true }, refl)
open-searched None (q, e) = absurd cc

-- 2. Rounds whose steps were spent.

-- They might make so many steps together, and led from s to m.
abbrev pub WereSpent : ℕ → State → State → Type 0
WereSpent n s m = WentOn n (once_searched s) (once_searched m)

pub none-spent : (s : State) → WereSpent 0 s s
none-spent s = went-nowhere (once_searched s)

pub one-spent : (k a : ℕ) (s m t : State) → WereSpent a s m → Solves by_state (with_max_steps k m) (Err Interrupted) t → t.ledger.steps < 2 ^ 64 →
    WereSpent (a + k) s t
one-spent k a s m t w e small =
    subst (λ x. WentOn (a + k) (once_searched s) x) (sym (once-same t (searched-on m.proof t.proof e.rest.proof)))
    (goes-on k a (once_searched s) (once_searched m) t w e small)

-- 3. The round after them comes to an answer, or its steps are spent too.

answers : (k n a : ℕ) (s m t : State) (b : Bool) → WereSpent a s m → Solves by_state (with_max_steps k m) (Ok b) t → a + k ≤ n →
    t.ledger.steps < 2 ^ 64 → Solves by_state (with_max_steps n s) (Ok b) (with_max_steps n t)
answers k n a s m t b w h least small =
    comes-to k n a (once_searched s) (once_searched m) t (Ok b) w h least (λ e. let z : Ok b ≡ Err Interrupted = e in absurd cc) small

interrupted : (k n a : ℕ) (s m t : State) → WereSpent a s m → Solves by_state (with_max_steps k m) (Err Interrupted) t → a + k ≡ n →
    t.ledger.steps < 2 ^ 64 → Solves by_state (with_max_steps n s) (Err Interrupted) (with_max_steps n t)
interrupted k n a s m t w h all small =
    comes-to k n a (once_searched s) (once_searched m) t (Err Interrupted) w h (omega (arith, all)) (λ e. all) small

-- 4. Or it fails.

-- the proof once its target failed so often
failed : ℕ → Option OpenProof → Option OpenProof
failed faults None = None
failed faults (Some p) = Some (record p { bytes = p.bytes ++ []; faults = p.faults + faults })

goes-failing : (faults : ℕ) (p : Option OpenProof) → (faults ≡ 0) ⊎ IsOpen p → GoesOnFailing faults p (failed faults p)
unfolding failed
goes-failing faults (Some p) h = ([], refl)
goes-failing faults None (inl e) = (refl, e)
goes-failing faults None (inr (q, e)) = absurd cc

-- the solver is invalid, and made so many steps in all
abbrev spoilt : ℕ → ℕ → ℕ → Option OpenProof → State → State
spoilt n steps words proof s =
    record s { words = words; proof = proof; ledger = record (with_steps steps (with_max_steps n s)).ledger { valid = false } }

counts : (k n a : ℕ) (s m t : State) (e : SolverError) → WereSpent a s m → CountsCall (with_max_steps k m) (Err e) t → e ≢ Interrupted → a + k ≤ n →
    CountsSteps (length s.counted) n s.ledger.since s.ledger.steps t.ledger.steps (Err e)
counts k n a s m t e w c other least =
    let count = w.count in
    let more = c.count in
    let budget = w.budget in
    let further = c.budget in
    let since = w.since in
    record {
      made = w.made + c.made;
      count = omega (arith, count, more);
      budget = omega (arith, budget, further, least);
      bounded =
          subst (λ (xs : List ℕ). AreFew (length xs) (s.ledger.since + (w.made + c.made))) w.counted
          (subst (AreFew (length m.counted)) (let z : m.ledger.since + c.made ≡ s.ledger.since + (w.made + c.made) = omega
          (arith, since, count) in z) c.bounded);
      found = λ b x. let z : Err e ≡ Ok b = x in absurd cc;
      spent = λ x. absurd (other (let same : e ≡ Interrupted = cc in same));
    }

step-fails : (faults k n a : ℕ) (s m t : State) (e : SolverError) → WereSpent a s m → m.verdict ≡ Unknown → CountsCall (with_max_steps k m) (Err e) t →
    IsValid m → e ≢ Interrupted → a + k ≤ n → (faults ≡ 0) ⊎ IsOpen s.proof →
    FailsStep by_state faults (with_max_steps n s) e (spoilt n t.ledger.steps t.words (failed faults s.proof) s)
step-fails faults k n a s m t e w unknown c valid other least was_open = (
  sym w.verdict ∙ unknown,
  counts k n a s m t e w c other least,
  record { valid = sym w.valid ∙ valid; ledger = refl; proof = goes-failing faults s.proof was_open },
)

flush-fails : (n a : ℕ) (s m : State) (e : SolverError) (words : ℕ) → WereSpent a s m → (m.verdict ≢ Unknown) ⊎ (m.verdict ≡ Unsat) → IsValid m →
    IsOpen s.proof → CountsIf by_state (with_max_steps n s) (Err e) (spoilt n s.ledger.steps words (failed 1 (searched_under s.proof)) s)
flush-fails n a s m e words w known valid was_open =
    Decided (was known) refl (λ v. let z : false ≡ true = v in absurd cc)
  where
    was : (m.verdict ≢ Unknown) ⊎ (m.verdict ≡ Unsat) → (s.verdict ≢ Unknown) ⊎ (s.verdict ≡ Unsat)
    was (inl d) = inl (λ u. d (w.verdict ∙ u))
    was (inr d) = inr (sym w.verdict ∙ d)

fails : (k n a : ℕ) (s m t : State) (e : SolverError) → WereSpent a s m → Solves by_state (with_max_steps k m) (Err e) t → e ≢ Interrupted → a + k ≤ n →
    (u : State) × Solves by_state (with_max_steps n s) (Err e) u
fails k n a s m t Interrupted w h other least = absurd (other refl)
fails k n a s m t Invalid w (v, e) other least = (with_max_steps n s, (sym w.valid ∙ v, refl))
fails k n a s m t OutOfMemory w (u, c, i) other least =
    (spoilt n t.ledger.steps t.words (failed 0 s.proof) s, step-fails 0 k n a s m t OutOfMemory w u c i.valid other least (inl refl))
fails k n a s m t ClauseStoreFull w ((u, c, i), full) other least =
    let x = step-fails 0 k n a s m t ClauseStoreFull w u c i.valid other least (inl refl) in
    (spoilt n t.ledger.steps t.words (failed 0 s.proof) s, (x, subst (λ (named : Naming). IsStoreFull named.made t) w.naming full))
fails k n a s m t (ProofIoError cause) w (o, inl (u, c, i)) other least =
    let was_open = open-back s.proof m.proof w.proof o in
    let x = step-fails 1 k n a s m t (ProofIoError cause) w u c i.valid other least (inr was_open) in
    (spoilt n t.ledger.steps t.words (failed 1 s.proof) s, (was_open, inl x))
fails k n a s m t (ProofIoError cause) w (o, inr (Searched u c, i)) other least =
    let was_open = open-back s.proof m.proof w.proof o in
    let x = step-fails 1 k n a s m t (ProofIoError cause) w u c i.valid other least (inr was_open) in
    (spoilt n t.ledger.steps t.words (failed 1 s.proof) s, (was_open, inl x))
fails k n a s m t (ProofIoError cause) w (o, inr (Decided d e logged, i)) other least =
    let was_open = open-back s.proof m.proof w.proof o in
    let x = flush-fails n a s m (ProofIoError cause) t.words w d i.valid was_open in (
      spoilt n s.ledger.steps t.words (failed 1 (searched_under s.proof)) s,
      (
        was_open,
        inr (
          x,
          record {
            valid = sym w.valid ∙ i.valid;
            ledger = refl;
            proof = goes-failing 1 (searched_under s.proof) (inr (open-searched s.proof was_open));
          },
        ),
      ),
    )
fails k n a s m t (WitnessVar u) w h other least = absurd h
fails k n a s m t VariableLimit w h other least = absurd h
fails k n a s m t (AssumedVar u) w h other least = absurd h
fails k n a s m t ClauseAfterSolve w h other least = absurd h
fails k n a s m t ProofOpen w h other least = absurd h
fails k n a s m t ProofTooLate w h other least = absurd h
fails k n a s m t (ConfigOutOfRange field) w h other least = absurd h
fails k n a s m t (Dimacs cause) w h other least = absurd h

-- 5. What is reported of all of them.

-- A report is that of one search, which leads to the same state but for the limit; an error is one of such a search.
abbrev pub ReportsAsOne : {A : Type 0} → ℕ → State → State → Result (Report A) SolverError → Type 0
ReportsAsOne {A = A} n s t r = (u : State) × Reports {A = A} (with_max_steps n s) r u × IfOk r (λ _. u ≡ with_max_steps n t)

module _ (A : Type 0) (k n a : ℕ) (s m t : State) (w : WereSpent a s m) (least : a + k ≤ n) (small : t.ledger.steps < 2 ^ 64) where
  memory-as-one : Reports {A = A} (with_max_steps k m) (Err OutOfMemory) t → ReportsAsOne {A = A} n s t (Err OutOfMemory)
  memory-as-one (inl h) = let (u, x) = fails k n a s m t OutOfMemory w h (λ e. absurd cc) least in (u, inl x, tt)
  memory-as-one (inr h) = (with_max_steps n t, inr (answers k n a s m t true w h least small), tt)

  pub as-one : a + k ≡ n → (r : Result (Report A) SolverError) → Reports {A = A} (with_max_steps k m) r t → ReportsAsOne {A = A} n s t r
  as-one all (Ok report.Unknown) h = (with_max_steps n t, interrupted k n a s m t w h all small, refl)
  as-one all (Ok (report.Decided None)) h = (with_max_steps n t, answers k n a s m t false w h least small, refl)
  as-one all (Ok (report.Decided (Some v))) (h, (l, e)) = (with_max_steps n t, (answers k n a s m t true w h least small, (l, refl)), refl)
  as-one all (Err OutOfMemory) h = memory-as-one h
  as-one all (Err Interrupted) h = absurd h
  as-one all (Err Invalid) h = let (u, x) = fails k n a s m t Invalid w h (λ e. absurd cc) least in (u, x, tt)
  as-one all (Err ClauseStoreFull) h = let (u, x) = fails k n a s m t ClauseStoreFull w h (λ e. absurd cc) least in (u, x, tt)
  as-one all (Err (ProofIoError cause)) h = let (u, x) = fails k n a s m t (ProofIoError cause) w h (λ e. absurd cc) least in (u, x, tt)
  as-one all (Err (WitnessVar u)) h = absurd h
  as-one all (Err VariableLimit) h = absurd h
  as-one all (Err (AssumedVar u)) h = absurd h
  as-one all (Err ClauseAfterSolve) h = absurd h
  as-one all (Err ProofOpen) h = absurd h
  as-one all (Err ProofTooLate) h = absurd h
  as-one all (Err (ConfigOutOfRange field)) h = absurd h
  as-one all (Err (Dimacs cause)) h = absurd h

-- what is represented, once the limit is that of all rounds
pub represents-one : {A : Type 0} (g : Summary) (n : ℕ) (t u : State) (r : Result (Report A) SolverError) → IfOk r (λ _. u ≡ with_max_steps n t) →
    Represents g (with_max_steps n t) → IfOk r (λ _. Represents g u)
represents-one g n t u (Ok x) e h = subst (Represents g) (sym e) h
represents-one g n t u (Err x) e h = tt
