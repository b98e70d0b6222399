-- What a run says of the answers alone.
use Rattle.std.proofs.Common.{◌≡◌, ◌-◌, true, false, List, [], ◌∷◌, map, sym, ap, ◌∙◌, refl, Result, Ok, Err}
use Rattle.std.specs.Result.{IfOk}
use Rattle.varisat_formula.specs.promises.Streams.{Input, Taken}
use Rattle.varisat.specs.declared.session.Call.{Call}
use Rattle.varisat.specs.declared.session.Answer.{Answer}
use Rattle.varisat_solver.specs.promises.States.{State, empty_state}
use Rattle.varisat_solver.specs.promises.Journals.{IsJournal, IsLoggedWithin}
use Rattle.varisat_solver.specs.promises.Names.{name_all, through_names}
use Rattle.varisat_solver.specs.promises.Calls.{IsValid, by_state, accept, assume, assumed_verdict}
use Rattle.varisat.specs.promises.Turns.{Makes}
use Rattle.varisat.specs.promises.Runs.{MakesCall, Run}
use Rattle.varisat.specs.promises.Pasts.{Findings, Past, IsPastJournal, empty_past, by_answers}
use Rattle.varisat.specs.promises.Histories.{AreTrue}
use Rattle.varisat.proofs.Effects.{Effect, Unchanged, CountedAnew, Limited, Named, Joined, Listed, Answered, Spent, Broken, InTurn, Says, Follows, HasEffect, with_new_names, effect-of}
use Rattle.varisat.proofs.Pasts.{Knows, Agrees, past_of, stays, stays-but, like-past, knows-like, accepted, refuted, listed, assumed-list, claimed, may-return-model, may-return-core, new-agrees}
use Rattle.varisat.proofs.SolvedPasts.{answered, solved, undecided, known-by, interrupted, spent, returned}
use Rattle.varisat.proofs.RunsLogged.{call-within}

-- what holds of each value with P
pub of-ok : {X E : Type 0} (r : Result X E) (P Q : X → Type 0) → ((x : X) → P x → Q x) → IfOk r P → IfOk r Q
of-ok (Ok x) P Q f h = f x h
of-ok (Err e) P Q f h = tt

-- what the past says of verdicts, as the state does
says : (v : Findings) (s : State) → Knows v s → Says by_state by_answers s v
says v s k = record {
  refuted = refuted v s k;
  unrefuted = λ n. tt;
  undecided = undecided v s k;
  decided = known-by v s k;
  model = λ list. may-return-model v s list k;
  core = λ list. may-return-core v s list k;
  claims = claimed v s k;
}

-- each effect moves the past and the state alike
moves : (v : Findings) (s t : State) → Agrees v s → (e : Effect by_state s t) →
    (w : Findings) × Follows by_state by_answers e v w × Agrees w t
moves v s t g (Unchanged e) = (v, ap (past_of v) e, stays v s t e g)
moves v s t g (CountedAnew l o e valid steps since) = (v, ap (past_of v) e, stays-but v s t l o e (λ h. sym valid ∙ h) g)
moves v s t g (Limited n e) = (v, ap (past_of v) e, stays-but v s t _ s.proof e (λ h. h) g)
moves v s t g (Named m hidden started c keeps e) =
    (v, like-past v (with_new_names m hidden started s) t e, λ _. let k = g c in knows-like v s t m hidden _ e (keeps k.capped) k)
moves v s t g (Joined d c n a) =
    let w = record v { has_model = false } in
    (w, (w, refl, like-past w (accept d a.0 s) t a.2), λ _. accepted v s t d n.unrefuted a (g c))
moves v s t g (Listed list c a) =
    let w = listed (map (through_names (name_all list s.naming)) list) v in
    (w, like-past w (assume list (assumed_verdict s.verdict) s) t a, λ _. assumed-list v s t list a (g c))
moves v s t g (Answered b r) = let k = g r.valid in (answered b v, returned v s t b k r, λ _. solved v s t b k r)
moves v s t g (Spent r) =
    let k = g r.valid in
    (by_answers.interrupted (t.ledger.steps - s.ledger.steps) v, spent v s t k r, λ _. interrupted v s t k r)
moves v s t g (Broken n) = (v, tt, λ c. absurd (let z : false ≡ true = sym n ∙ c in cc))
moves v s t g (InTurn mid e f) =
    let (w, x, h) = moves v s mid g e in
    let (u, y, i) = moves w mid t h f in (u, (w, (λ c. says w mid (h c)), x, y), i)

-- so does what has an effect
pub is-true-too : (R : Past → Past → Type 0) (v : Findings) (s t : State) → Agrees v s → HasEffect by_state by_answers s t R →
    (w : Findings) × R (past_of v s) (past_of w t) × Agrees w t
is-true-too R v s t g (e, f) = let (w, x, h) = moves v s t g e in (w, f v w (λ k. says v s (g k)) x, h)

-- and each call
is-true : {W S A : Type 0} (seen : S → Input) (taken : W → Taken) (c : Call W S A) (a : Answer W S A) (v : Findings) (s t : State) → Agrees v s →
    MakesCall seen taken s c a t → (w : Findings) × Makes by_answers seen taken (past_of v s) c a (past_of w t) × Agrees w t
is-true seen taken c a v s t g m = is-true-too (λ p q. Makes by_answers seen taken p c a q) v s t g (effect-of by_state by_answers seen taken c a s t m)

-- what was logged is the past's journal, as it is the state's
past-journal : (v : Findings) (s : State) → Agrees v s → (IsValid s → IsJournal s) → (IsValid s → IsLoggedWithin s.ledger.steps s.logged) → IsValid s →
    IsPastJournal (past_of v s)
past-journal v s g logged within c =
    let k = g c in
    let j = logged c in
    record {
      within = within c;
      enough = k.logged.enough;
      accepted = j.accepted;
      lists = k.lists;
      assumed = j.assumed;
      cores = j.cores;
      stays = j.stays;
      in_range = j.in_range;
      readable = j.readable;
    }

are-true : {W S A : Type 0} (seen : S → Input) (taken : W → Taken) (calls : List (Call W S A)) (answers : List (Answer W S A)) (v : Findings)
    (s t : State) → Agrees v s → (IsValid s → IsLoggedWithin s.ledger.steps s.logged) → Run seen taken s calls answers t →
    AreTrue seen taken (past_of v s) calls answers
are-true seen taken [] [] v s t g w r = (past_of v s, refl)
are-true seen taken [] (a ∷ answers) v s t g w r = absurd r
are-true seen taken (c ∷ calls) [] v s t g w r = absurd r
are-true seen taken (c ∷ calls) (a ∷ answers) v s t g w (mid, m, logged, r) =
    let (x, y, h) = is-true seen taken c a v s mid g m in
    let within = call-within seen taken c a s mid m w in
    let (last, rest) = are-true seen taken calls answers x mid t h within r in
    (last, (past_of x mid, y, past-journal x mid h logged within, rest))

-- each run of a new solver gives answers that are true
pub run-is-true : {W S A : Type 0} (seen : S → Input) (taken : W → Taken) (calls : List (Call W S A)) (answers : List (Answer W S A)) (t : State) →
    Run seen taken empty_state calls answers t → AreTrue seen taken empty_past calls answers
run-is-true seen taken calls answers t r =
    are-true seen taken calls answers empty_past.verdict empty_state t (new-agrees false) (λ v. ([], refl)) r
