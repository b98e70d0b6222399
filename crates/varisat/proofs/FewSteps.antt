-- At each moment of a run few steps were made since the last change.
use Rattle.std.proofs.Common.{◌≡◌, ℕ, zero, suc, ◌+◌, ◌-◌, Bool, true, false, List, [], ◌∷◌, length, Result, Ok, Err, sym, ap, ◌∙◌, subst, refl, arith}
use Rattle.varisat_theory.specs.promises.CallBounds.{AreFew}
use Rattle.varisat_theory.proofs.bounds.CallBounds.{few_none}
use Rattle.varisat_formula.specs.promises.Streams.{Input, Taken}
use Rattle.varisat_solver.specs.promises.States.{Known, State, Ledger}
use Rattle.varisat_solver.specs.promises.Budgets.{CountsSteps}
use Rattle.varisat_solver.specs.promises.Calls as state
use Rattle.varisat_solver.specs.promises.Calls.{by_state, Verdicts, Decided, Searched, IsSolved, CountsCall, CountsIf}
use Rattle.varisat.specs.promises.Pasts.{empty_past, by_answers}
use Rattle.varisat.specs.promises.Moments.{HasFewSteps, HasFewStepsAlong}
use Rattle.varisat.specs.declared.session.Call.{Call}
use Rattle.varisat.specs.declared.session.Answer.{Answer}
use Rattle.varisat_solver.specs.declared.solver.SolverError.{SolverError}
use Rattle.varisat_solver.specs.declared.solver.SolverError.TheVariants.{Interrupted}
use Rattle.varisat_solver.proofs.calls.CallStates.{same-counted, same-ledger}
use Rattle.varisat.proofs.Effects.{Effect, Unchanged, CountedAnew, Limited, Named, Joined, Listed, Answered, Spent, Broken, InTurn, effect-of}

none-is-few : (since n : ℕ) → since ≡ 0 → AreFew n since
none-is-few since n e = subst (AreFew n) (sym e) (few_none n)

-- the steps of a call join those before it
joined-are-few : (n max_steps before now start end : ℕ) (r : Result Bool SolverError) → now ≡ before + (end - start) →
    CountsSteps n max_steps before start end r → AreFew n now
joined-are-few n max_steps before now start end r e c = let k = c.count in let b = c.bounded in
    subst (AreFew n) (sym (e ∙ (let z : before + (end - start) ≡ before + c.made = omega (arith, k) in z))) b

-- 1. What each effect keeps, whatever is known of verdicts.

-- steps are counted anew
begun : {V : Type 0} (t : Known V) (l : Ledger) → t.ledger ≡ l → l.since ≡ 0 → HasFewSteps t
begun t l e z v = none-is-few t.ledger.since (length t.counted) (ap (λ (x : Ledger). x.since) e ∙ z)

-- the steps of a call are counted, by which variables are counted before and after it
joined : {V : Type 0} (x : V) (s t : Known V) (r : Result Bool SolverError) → IsSolved x s t → CountsCall s r t → HasFewSteps t
joined x s t r e c v = subst (λ (xs : List ℕ). AreFew (length xs) t.ledger.since) (sym (same-counted e))
    (joined-are-few (length s.counted) s.ledger.settings.max_steps s.ledger.since t.ledger.since s.ledger.steps t.ledger.steps r
    (ap (λ (x : Ledger). x.since) (same-ledger e)) c)

-- no step is made
unmoved : {V : Type 0} (x : V) (s t : Known V) → IsSolved x s t → t.ledger.steps ≡ s.ledger.steps → HasFewSteps s → HasFewSteps t
unmoved x s t e n h v =
    let k = ap (λ (x : Ledger). x.since) (same-ledger e) in
    let z : t.ledger.since ≡ s.ledger.since = omega (arith, k, n) in
    subst (λ (xs : List ℕ). AreFew (length xs) t.ledger.since) (sym (same-counted e))
    (subst (AreFew (length s.counted)) (sym z) (h (sym (ap (λ (x : Ledger). x.valid) (same-ledger e)) ∙ v)))

module _ {V : Type 0} (by : Verdicts V) where
  solved : (s t : Known V) (b : Bool) → IsSolved t.verdict s t → CountsIf by s (Ok b) t → HasFewSteps s → HasFewSteps t
  solved s t b e (Decided n same logged) h = unmoved t.verdict s t e same h
  solved s t b e (Searched u c) h = joined t.verdict s t (Ok b) e c

  stays-few : (s t : Known V) → Effect by s t → HasFewSteps s → HasFewSteps t
  stays-few s t (Unchanged e) h = subst HasFewSteps (sym e) h
  stays-few s t (CountedAnew l o e valid steps since) h = begun t l (ap (λ (x : Known V). x.ledger) e) since
  stays-few s t (Limited n e) h = subst HasFewSteps (sym e) h
  stays-few s t (Named m hidden started c keeps e) h = begun t _ (same-ledger e) refl
  stays-few s t (Joined d c n (w, after, e)) h = begun t _ (same-ledger e) refl
  stays-few s t (Listed list c e) h = begun t _ (same-ledger e) refl
  stays-few s t (Answered b r) h = solved (state.once_searched s) t b r.rest r.steps h
  stays-few s t (Spent r) h = joined _ (state.once_searched s) t (Err Interrupted) r.rest r.steps
  stays-few s t (Broken n) h = λ v. absurd (let z : false ≡ true = sym n ∙ v in cc)
  stays-few s t (InTurn mid e f) h = stays-few mid t f (stays-few s mid e h)

  along : {W S A : Type 0} (seen : S → Input) (taken : W → Taken) (calls : List (Call W S A)) (answers : List (Answer W S A)) (s : Known V) →
      HasFewSteps s → HasFewStepsAlong by seen taken s calls answers
  along seen taken calls answers s h zero t r = subst HasFewSteps (sym r) h
  along seen taken [] [] s h (suc k) t r = subst HasFewSteps (sym r) h
  along seen taken [] (a ∷ answers) s h (suc k) t r = absurd r
  along seen taken (c ∷ calls) [] s h (suc k) t r = absurd r
  along seen taken (c ∷ calls) (a ∷ answers) s h (suc k) t (mid, m, holds, r) =
      along seen taken calls answers mid (stays-few s mid (effect-of by by seen taken c a s mid m).0 h) k t r

-- 2. Runs.

-- from a state with few steps on they stay few
pub run-stays-few : {W S A : Type 0} (seen : S → Input) (taken : W → Taken) (calls : List (Call W S A)) (answers : List (Answer W S A))
    (s : State) → HasFewSteps s → HasFewStepsAlong by_state seen taken s calls answers
run-stays-few seen taken calls answers s h = along by_state seen taken calls answers s h

-- from the first call on they are few
pub answers-stay-few : {W S A : Type 0} (seen : S → Input) (taken : W → Taken) (calls : List (Call W S A)) (answers : List (Answer W S A)) →
    HasFewStepsAlong by_answers seen taken empty_past calls answers
answers-stay-few seen taken calls answers = along by_answers seen taken calls answers empty_past (λ v. none-is-few 0 0 refl)
