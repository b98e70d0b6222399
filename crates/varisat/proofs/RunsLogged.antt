-- What the calls of a run log together.
use Rattle.std.proofs.Common.{List, [], ◌∷◌, ◌++◌, refl, subst, ◌≡◌, ℕ, ◌+◌, ◌-◌, Bool, true, false, map, Result, Ok, sym, ap, ◌∙◌, arith}
use Rattle.varisat_formula.specs.promises.Streams.{Input, Taken}
use Rattle.varisat_solver.specs.promises.States.{State, Ledger, empty_state}
use Rattle.varisat_solver.specs.promises.Calls.{by_state, IsValid, CountsIf, Decided, Searched, once_searched}
use Rattle.varisat_solver.specs.promises.Journals.{IsJournal, IsLoggedWithin, LogsMore}
use Rattle.varisat.specs.promises.Runs.{MakesCall, Run, MayStillFail, AreReady}
use Rattle.varisat.specs.declared.session.Call.{Call}
use Rattle.varisat.specs.declared.session.Answer.{Answer}
use Rattle.varisat_theory.specs.promises.Literals.{Clause}
use Rattle.varisat_theory.specs.promises.Journals.{Accepts, Assumes, LeadsBy}
use Rattle.varisat_solver.specs.promises.Names.{name_all, through_names}
use Rattle.varisat_solver.specs.declared.solver.SolverError.{SolverError}
use Rattle.varisat_theory.proofs.journals.Journals.{by_leads, by_leads_append}
use Rattle.varisat_solver.proofs.calls.CallStates.{same-ledger}
use Rattle.varisat_solver.proofs.entries.LoggedEntries.{logs-nothing, logs-through, logs, accepts-goes, assumes-goes}
use Rattle.varisat.proofs.Effects.{Effect, Unchanged, CountedAnew, Limited, Named, Joined, Listed, Answered, Spent, Broken, InTurn, effect-of}

-- Runs that go on.

-- one more call
pub run-push : {W S A : Type 0} (seen : S → Input) (taken : W → Taken) (s t u : State) (calls : List (Call W S A)) (answers : List (Answer W S A))
    (c : Call W S A) (a : Answer W S A) → Run seen taken s calls answers t → MakesCall seen taken t c a u → (IsValid u → IsJournal u) →
    Run seen taken s (calls ++ c ∷ []) (answers ++ a ∷ []) u
run-push seen taken s t u [] [] c a r g j = (u, subst (λ x. MakesCall seen taken x c a u) r g, j, refl)
run-push seen taken s t u [] (b ∷ answers) c a r g j = absurd r
run-push seen taken s t u (d ∷ calls) [] c a r g j = absurd r
run-push seen taken s t u (d ∷ calls) (b ∷ answers) c a r g j = (r.0, r.1, r.2, run-push seen taken r.0 t u calls answers c a r.3 g j)

-- what calls that go on are given is ready
pub ready-next : {W S A : Type 0} (seen : S → Input) (taken : W → Taken) (before after : List (Call W S A)) (c : Call W S A) →
    AreReady seen taken (before ++ c ∷ after) → MayStillFail seen taken c
ready-next seen taken [] after c r = r.0
ready-next seen taken (b ∷ before) after c r = ready-next seen taken before after c r.1

-- From a valid state steps were made, and as many clauses that lines added count at most.
pub record LogsOn (s t : State) : Type 0 where
  pub valid : IsValid s
  pub made : ℕ
  pub count : t.ledger.steps ≡ s.ledger.steps + made
  pub logged : LogsMore made s.logged t.logged

logs-same : (s t : State) → t ≡ s → IsValid t → LogsOn s t
logs-same s t e v = record {
  valid = subst IsValid e v;
  made = 0;
  count = let z = ap (λ (x : State). x.ledger.steps) e in omega (arith, z);
  logged = subst (λ (x : State). LogsMore 0 s.logged x.logged) (sym e) (logs-nothing s.logged);
}

-- the count stays, and nothing that is logged counts
logs-plainly : (s t : State) → IsValid s → t.ledger.steps ≡ s.ledger.steps → LogsMore 0 s.logged t.logged → LogsOn s t
logs-plainly s t v e m = record { valid = v; made = 0; count = omega (arith, e); logged = m }

through : (s m t : State) → LogsOn s m → LogsOn m t → LogsOn s t
through s m t a b = record {
  valid = a.valid;
  made = a.made + b.made;
  count = let x = a.count in let y = b.count in omega (arith, x, y);
  logged = logs-through a.made b.made s.logged m.logged t.logged a.logged b.logged;
}

-- so in all as many count at most as steps were made
within-on : (s t : State) → LogsOn s t → IsLoggedWithin s.ledger.steps s.logged → IsLoggedWithin t.ledger.steps t.logged
within-on s t o (held, d) =
    let (after, e) = o.logged.goes held (by_leads s.ledger.steps [] s.logged held d) in
    let both = by_leads_append s.ledger.steps o.made [] s.logged held o.logged.entries after d e in
    (after, subst (λ n. LeadsBy n [] t.logged after) (sym o.count) (subst (λ es. LeadsBy (s.ledger.steps + o.made) [] es after) (sym o.logged.joined) both))

steps-made : (s t : State) (r : Result Bool SolverError) → CountsIf by_state s r t →
    t.ledger.steps ≡ s.ledger.steps + (t.ledger.steps - s.ledger.steps)
steps-made s t r (Searched u k) = let c = k.count in omega (arith, c)
steps-made s t r (Decided n e logged) = omega (arith, e)

-- what each effect logs
logs-on : (s t : State) → Effect by_state s t → IsValid t → LogsOn s t
logs-on s t (Unchanged e) w = logs-same s t e w
logs-on s t (CountedAnew l o e valid steps since) w = logs-plainly s t (sym valid ∙ ap (λ (x : State). x.ledger.valid) (sym e) ∙ w)
    (ap (λ (x : State). x.ledger.steps) e ∙ steps) (subst (λ (x : State). LogsMore 0 s.logged x.logged) (sym e) (logs-nothing s.logged))
logs-on s t (Limited n e) w = logs-plainly s t (ap (λ (x : State). x.ledger.valid) (sym e) ∙ w)
    (ap (λ (x : State). x.ledger.steps) e) (subst (λ (x : State). LogsMore 0 s.logged x.logged) (sym e) (logs-nothing s.logged))
logs-on s t (Named m hidden started v keeps e) w = logs-plainly s t v (ap (λ (x : Ledger). x.steps) (same-ledger e)) e.logged
logs-on s t (Joined d v n (x, after, e)) w =
    let c = map (through_names (name_all d s.naming)) d in
    logs-plainly s t v (ap (λ (x : Ledger). x.steps) (same-ledger e))
    (logs-through 0 0 s.logged (s.logged ++ Accepts c ∷ []) t.logged (logs 0 s.logged (Accepts c ∷ []) (accepts-goes s.logged c)) e.logged)
logs-on s t (Listed list v e) w =
    let l = map (through_names (name_all list s.naming)) list in
    logs-plainly s t v (ap (λ (x : Ledger). x.steps) (same-ledger e))
    (logs-through 0 0 s.logged (s.logged ++ Assumes l ∷ []) t.logged (logs 0 s.logged (Assumes l ∷ []) (assumes-goes s.logged l)) e.logged)
logs-on s t (Answered b r) w = record {
  valid = r.valid;
  made = t.ledger.steps - s.ledger.steps;
  count = steps-made (once_searched s) t (Ok b) r.steps;
  logged = r.logged;
}
logs-on s t (Spent r) w = record {
  valid = r.valid;
  made = t.ledger.steps - s.ledger.steps;
  count = let c = r.steps.count in omega (arith, c);
  logged = r.logged;
}
logs-on s t (Broken n) w = absurd (let z : false ≡ true = sym n ∙ w in cc)
logs-on s t (InTurn mid e f) w = let second = logs-on mid t f w in through s mid t (logs-on s mid e second.valid) second

call-logs : {W S A : Type 0} (seen : S → Input) (taken : W → Taken) (c : Call W S A) (a : Answer W S A) (s t : State) →
    MakesCall seen taken s c a t → IsValid t → LogsOn s t
call-logs seen taken c a s t m w = logs-on s t (effect-of by_state by_state seen taken c a s t m).0 w

-- what is logged in all, from call to call
pub call-within : {W S A : Type 0} (seen : S → Input) (taken : W → Taken) (c : Call W S A) (a : Answer W S A) (s t : State) →
    MakesCall seen taken s c a t → (IsValid s → IsLoggedWithin s.ledger.steps s.logged) → IsValid t → IsLoggedWithin t.ledger.steps t.logged
call-within seen taken c a s t m w v = let on = call-logs seen taken c a s t m v in within-on s t on (w on.valid)

pub run-logs : {W S A : Type 0} (seen : S → Input) (taken : W → Taken) (calls : List (Call W S A)) (answers : List (Answer W S A)) (s t : State) →
    Run seen taken s calls answers t → IsValid t → LogsOn s t
run-logs seen taken [] [] s t r w = logs-same s t r w
run-logs seen taken [] (a ∷ answers) s t r w = absurd r
run-logs seen taken (c ∷ calls) [] s t r w = absurd r
run-logs seen taken (c ∷ calls) (a ∷ answers) s t (mid, m, logged, r) w =
    let second = run-logs seen taken calls answers mid t r w in
    through s mid t (call-logs seen taken c a s mid m second.valid) second

-- from the beginning: as many count at most as steps were made in all
pub run-counts : {W S A : Type 0} (seen : S → Input) (taken : W → Taken) (calls : List (Call W S A)) (answers : List (Answer W S A)) (t : State) →
    Run seen taken empty_state calls answers t → IsValid t → (held : List Clause) × LeadsBy t.ledger.steps [] t.logged held
run-counts seen taken calls answers t r w =
    let all = run-logs seen taken calls answers empty_state t r w in
    let (held, led) = all.logged.goes [] refl in
    let c = all.count in
    let n : all.made ≡ t.ledger.steps = omega (arith, c) in
    (held, subst (λ k. LeadsBy k [] t.logged held) n (subst (λ es. LeadsBy all.made [] es held) (sym all.logged.joined) led))
