-- Searches in turn, each under a limit of its own: those that are interrupted and the one behind them come to what one search comes
-- to under the limits together.
use Rattle.std.proofs.Common.{◌≡◌, ◌∙◌, ℕ, Bool, inl, inr, true, false, Option, List, Result, Ok, Err, refl, sym, ap, subst, ◌≢◌, zero, suc, ◌+◌, ◌-◌, ◌^◌, ◌<◌, ◌≤◌, [], ◌++◌, ◌⊎◌, ⊎_elim, length, arith, append_assoc}
use Rattle.std.specs.declared.io.Error.{Error}
use Rattle.std.proofs.lemmas.List.{append-nil, append_cancel_left}
use Rattle.varisat_theory.specs.promises.Journals.{Entry, GoesOn}
use Rattle.varisat_proof.specs.promises.Proving.{marked_searched}
use Rattle.varisat_solver.specs.promises.OpenProofs.{OpenProof, opened_state, IsOpen, GoesOnWriting, GoesOnFailing, searched_under, lines_over}
use Rattle.varisat_solver.specs.promises.States.{State, Ledger, Unknown, Unsat}
use Rattle.varisat_solver.specs.promises.ProofCalls.{with_proof}
use Rattle.varisat_solver.specs.promises.Summaries.{Summary}
use Rattle.varisat_solver.specs.inside.Representations.{Represents, spaces}
use Rattle.varisat_solver.specs.inside.Changes.{EndsSearch}
use Rattle.varisat_solver.specs.promises.Calls.{IsLike, IsValid, is_valid, Invalidates, CountsCall, CountsIf, Decided, Searched, HasVerdict, Searches, Solves, with_steps, once_searched, by_state, ReturnsVerdict, IsSpent, FailsStep, IsStoreFull, with_max_steps, with_verdict}
use Rattle.varisat_solver.specs.declared.solver.SolverError.{SolverError}
use Rattle.varisat_solver.specs.declared.solver.SolverError.TheVariants.{Interrupted, ProofIoError, OutOfMemory, Invalid, ClauseStoreFull, WitnessVar, VariableLimit, AssumedVar, ClauseAfterSolve, ProofOpen, ProofTooLate, ConfigOutOfRange, Dimacs}
use Rattle.varisat_solver.proofs.calls.CallStates.{same-ledger, represents-valid, proof-fits, flags-alike, broken, same-assumptions, same-by, same-clauses, same-counted, same-hidden, same-naming, same-verdict, ledger-is}
use Rattle.varisat_solver.proofs.accepting.AcceptClause.{proof-free}
use Rattle.varisat_solver.proofs.entries.Targets.{flushed-open}
use Rattle.varisat_solver.proofs.entries.OpenProofs.{goes-on-searched, goes-on-failing, open-before, open-there, searched-state, searched-written, fitted-before, flushed-on, barred-marked, barred-fitted, goes-on-none, goes-on-through}
use Rattle.varisat_theory.specs.promises.CallBounds.{AreFew}
use Rattle.varisat_theory.proofs.journals.Journals.{goes_on_further}
use Rattle.varisat_solver.specs.promises.StepEntries.{GoesOnInSteps}
use Rattle.varisat_solver.proofs.entries.StepEntries.{no-steps, steps-further}
use Rattle.varisat_names.specs.promises.Settings.{Settings}
use Rattle.varisat_solver.specs.promises.Budgets.{CountsSteps}
use Rattle.varisat_solver.specs.promises.Journals.{with_entries, LogsMore, BeginsInSteps, AreDerived}
use Rattle.varisat_solver.proofs.steps.BegunSteps.{begins-further}
use Rattle.varisat_solver.specs.promises.Names.{Naming}
use Rattle.varisat_solver.proofs.entries.LoggedEntries.{logs-nothing, nothing-derived, stays-nothing, derived-through, ends-through}

-- How a call of `solve` ends, once its steps came to something: an open proof is marked and flushed.

-- 1. States.

invalid-valid : (n : ℕ) (s t : State) → Invalidates n s t → IsValid t → ⊥
invalid-valid n s t b v = let z : false ≡ true = sym (ap (λ (l : Ledger). l.valid) b.ledger) ∙ v in cc

like-searched : (s t : State) → IsLike s t → IsLike (once_searched s) (once_searched t)
like-searched s t k = record {
  same = ap once_searched k.same;
  logged = k.logged;
  derived = k.derived;
  stays = k.stays;
  alike = k.alike;
  proof = goes-on-searched s.proof t.proof k.proof;
}

-- the steps are counted alike once it is marked
counts-searched : (s t : State) (r : Result Bool SolverError) → CountsIf by_state s r t → CountsIf by_state (once_searched s) r (once_searched t)
counts-searched s t r (Searched u k) = Searched u k
counts-searched s t r (Decided n e logged) = Decided n e logged

right-searched : (s t : State) (b : Bool) (logged : List Entry) → HasVerdict s b logged t → HasVerdict (once_searched s) b logged (once_searched t)
right-searched s t b logged r = record { known = r.known; answer = r.answer; right = r.right; ends = r.ends; refuted = r.refuted; core = r.core }

-- an open proof was marked and flushed
pub ends-well : (s t : State) (r : Result Bool SolverError) → Searches s r t → IsValid t → Solves by_state s r (once_searched t)
ends-well s t (Ok b) h v = record {
  valid = h.valid;
  steps = counts-searched s t (Ok b) h.steps;
  logged = h.logged;
  adds = h.adds;
  right = right-searched s t b h.logged.entries h.right;
  rest = like-searched _ t h.rest;
}
ends-well s t (Err Interrupted) h v = record {
  valid = h.valid;
  unknown = h.unknown;
  steps = h.steps;
  rest = like-searched _ t h.rest;
  variables = h.variables;
  logged = h.logged;
  adds = h.adds;
  derived = h.derived;
  still = λ e. ap once_searched (h.still e);
}
ends-well s t (Err Invalid) h v = let z : false ≡ true = sym h.0 ∙ ap (λ (x : State). is_valid x) (sym h.1) ∙ v in absurd cc
ends-well s t (Err OutOfMemory) h v = absurd (invalid-valid _ _ t h.2 v)
ends-well s t (Err ClauseStoreFull) (h, full) v = absurd (invalid-valid _ _ t h.2 v)
ends-well s t (Err (ProofIoError cause)) (o, h) v = absurd (invalid-valid _ _ t h.2 v)
ends-well s t (Err e) h v = absurd h

-- no way led back from a step, or the solver was invalid
pub ends-early : (s t : State) (r : Result Bool SolverError) → Searches s r t → is_valid t ≡ false → Solves by_state s r t
ends-early s t (Ok b) h v = let z : true ≡ false = sym h.valid ∙ ap (λ (l : Ledger). l.valid) (sym (same-ledger h.rest)) ∙ v in absurd cc
ends-early s t (Err Interrupted) h v = let z : true ≡ false = sym h.valid ∙ ap (λ (l : Ledger). l.valid) (sym (same-ledger h.rest)) ∙ v in absurd cc
ends-early s t (Err Invalid) h v = h
ends-early s t (Err OutOfMemory) h v = h
ends-early s t (Err ClauseStoreFull) h v = h
ends-early s t (Err (ProofIoError cause)) (o, h) v = (o, inl h)
ends-early s t (Err e) h v = absurd h

-- the steps are counted alike, whatever the call returns then
counts-otherwise : (s t : State) (r : Result Bool SolverError) (cause : Error) → CountsCall s r t → CountsCall s (Err (ProofIoError cause)) t
counts-otherwise s t r cause k = record {
  made = k.made;
  count = k.count;
  budget = k.budget;
  bounded = k.bounded;
  found = λ b e. absurd cc;
  spent = λ e. absurd cc;
}

counts-broken : (s t : State) (r : Result Bool SolverError) (cause : Error) (now : Option OpenProof) → CountsIf by_state s r t →
    CountsIf by_state s (Err (ProofIoError cause)) (broken now t.words t)
counts-broken s t r cause now (Searched u k) = Searched u (counts-otherwise s t r cause k)
counts-broken s t r cause now (Decided n e logged) = Decided n e (λ v. absurd (let z : false ≡ true = v in cc))

broken-after : (s t : State) (now : Option OpenProof) → IsValid s → t.ledger ≡ (with_steps t.ledger.steps s).ledger →
    GoesOnWriting (searched_under s.proof) (searched_under t.proof) → GoesOnFailing 1 (searched_under t.proof) now →
    Invalidates 1 (with_steps t.ledger.steps (once_searched s)) (broken now t.words t)
broken-after s t now v e more f = record {
  valid = v;
  ledger = ap (λ (l : Ledger). record l { valid = false }) e;
  proof = goes-on-failing 1 (searched_under s.proof) (searched_under t.proof) now more f;
}

-- the open proof could not be flushed
pub ends-badly : (s t : State) (r : Result Bool SolverError) (cause : Error) (now : Option OpenProof) → Searches s r t → IsValid t → IsOpen t.proof →
    GoesOnFailing 1 (searched_under t.proof) now → Solves by_state s (Err (ProofIoError cause)) (broken now t.words t)
ends-badly s t (Ok b) cause now h v o f = (
  open-before s.proof t.proof h.rest.proof o,
  inr (
    counts-broken s t (Ok b) cause now h.steps,
    broken-after s t now h.valid (same-ledger h.rest) (goes-on-searched s.proof t.proof h.rest.proof) f,
  ),
)
ends-badly s t (Err Interrupted) cause now h v o f = (
  open-before s.proof t.proof h.rest.proof o,
  inr (
    Searched h.unknown (counts-otherwise s t (Err Interrupted) cause h.steps),
    broken-after s t now h.valid (same-ledger h.rest) (goes-on-searched s.proof t.proof h.rest.proof) f,
  ),
)
ends-badly s t (Err Invalid) cause now h v o f = let z : false ≡ true = sym h.0 ∙ ap (λ (x : State). is_valid x) (sym h.1) ∙ v in absurd cc
ends-badly s t (Err OutOfMemory) cause now h v o f = absurd (invalid-valid _ _ t h.2 v)
ends-badly s t (Err ClauseStoreFull) cause now (h, full) v o f = absurd (invalid-valid _ _ t h.2 v)
ends-badly s t (Err (ProofIoError first)) cause now (q, h) v o f = absurd (invalid-valid _ _ t h.2 v)
ends-badly s t (Err e) cause now h v o f = absurd h

-- 2. What represents them.

-- the same solver, where `solve` was called under an open proof
pub represents-searched : (g : Summary) (s : State) → Represents g s → Represents (record g { opened = marked_searched g.opened }) (once_searched s)
represents-searched g s st = record {
  ledger = st.ledger;
  words = st.words;
  bounded = st.bounded;
  same = ap marked_searched st.same ∙ searched-state s.proof;
  fits = λ v. let (w, k) = st.fits v in (w, proof-free w (spaces g) s (searched_under s.proof) k);
  written = λ v. searched-written s.variables s.logged s.proof (st.written v);
  flags = λ v. flags-alike s (once_searched s) (st.flags v) refl refl refl refl refl (barred-marked s.proof);
}

-- before that it represented such a state too
pub represents-before : (g : Summary) (s : State) → g.ledger.valid ≡ true → Represents (record g { opened = marked_searched g.opened }) s →
    (proof : Option OpenProof) × Represents g (with_proof proof s)
represents-before g s v st =
    let (before, f) = fitted-before g.opened s.variables s.logged s.proof (proof-fits st v) in (
      before,
      record {
        ledger = st.ledger;
        words = st.words;
        bounded = st.bounded;
        same = f.same;
        fits = λ v. let (w, k) = st.fits v in (w, proof-free w (spaces g) s before k);
        written = λ _. f.written;
        flags = λ v. flags-alike s (with_proof before s) (st.flags v) refl refl refl refl refl
            (λ o. barred-fitted g.opened s.variables s.logged before s.proof f (proof-fits st v) o);
      },
    )

-- the solver became invalid
represents-broken : (g h : Summary) (s : State) (now : Option OpenProof) → h ≡ record g { opened = h.opened; ledger = record g.ledger { valid = false } } →
    h.opened ≡ opened_state now → Represents g s → Represents h (broken now s.words s)
represents-broken g h s now e opened st =
    let same : h.ledger ≡ record g.ledger { valid = false } = ap (λ (x : Summary). x.ledger) e in
    let bad : h.ledger.valid ≡ false = ap (λ (l : Ledger). l.valid) same in
    record {
      ledger = ap (λ (l : Ledger). record l { valid = false }) st.ledger ∙ sym same;
      words = st.words ∙ sym (ap (λ (x : Summary). x.words) e);
      same = opened;
      fits = λ v. absurd (let z : false ≡ true = sym bad ∙ v in cc);
      written = λ v. absurd (let z : false ≡ true = sym bad ∙ v in cc);
      flags = λ v. absurd (let z : false ≡ true = sym bad ∙ v in cc);
      bounded = λ v. absurd (let z : false ≡ true = sym bad ∙ v in cc);
    }

pub solve-ends : (g h : Summary) (s t : State) (r : Result Bool SolverError) → Searches s r t → Represents g t → g.ledger.valid ≡ true →
    EndsSearch g (Ok tt) h → (u : State) × Solves by_state s r u × Represents h u
solve-ends g h s t r k st v e =
    (once_searched t, ends-well s t r k (represents-valid g t st v), subst (λ (x : Summary). Represents x (once_searched t)) (sym e) (represents-searched g t st))

pub solve-fails : (g h : Summary) (s t : State) (r : Result Bool SolverError) (e : SolverError) → Searches s r t → Represents g t →
    g.ledger.valid ≡ true → EndsSearch g (Err e) h → (u : State) × Solves by_state s (Err e) u × Represents h u
solve-fails g h s t r (ProofIoError cause) k st v (o, e) =
    let (now, f, same) = flushed-on g.opened h.opened cause t.proof st.same o in (
      broken now t.words t,
      ends-badly s t r cause now k (represents-valid g t st v)
          (open-there g.opened t.variables t.logged t.proof true (proof-fits st v) (sym (flushed-open g.opened h.opened cause o)) refl)
          f,
      represents-broken g h t now e same st,
    )
solve-fails g h s t r e k st v f = absurd f

-- 1. Searches that were interrupted.

-- The settings but for the limit of steps.
abbrev pub beside_limit : Settings → Settings
beside_limit c = record c { max_steps = 0 }

-- Searches under limits that come to `limit` together led from s to m, and each of them was interrupted; or there was none. The
-- settings may have another limit of steps in both.
pub record WentOn (limit : ℕ) (s m : State) : Type 0 where
  pub naming : m.naming ≡ s.naming
  pub ever_hidden : m.ever_hidden ≡ s.ever_hidden
  pub clauses : m.clauses ≡ s.clauses
  pub assumptions : m.assumptions ≡ s.assumptions
  pub counted : m.counted ≡ s.counted
  pub verdict : m.verdict ≡ s.verdict
  pub variables : m.variables ≡ s.variables
  pub valid : m.ledger.valid ≡ s.ledger.valid
  pub started : m.ledger.started ≡ s.ledger.started
  pub checking : m.ledger.checking ≡ s.ledger.checking
  pub since : m.ledger.since ≡ s.ledger.since + (m.ledger.steps - s.ledger.steps)
  pub settings : beside_limit m.ledger.settings ≡ beside_limit s.ledger.settings
  pub made : ℕ
  pub count : m.ledger.steps ≡ s.ledger.steps + made
  pub budget : made ≤ limit
  pub spent : (made ≡ limit) ⊎ (m.ledger.steps ≡ 2 ^ 64 - 1)
  pub logged : LogsMore made s.logged m.logged
  pub adds : GoesOnInSteps s.ledger.settings.reduce_locals_interval s.ledger.steps made s.logged logged.entries
  pub derived : AreDerived logged.entries
  pub proof : GoesOnWriting s.proof m.proof
  -- where no step was made nothing changed, and where the verdict was known or the solver invalid no search was interrupted
  pub still : made ≡ 0 → with_max_steps 0 m ≡ with_max_steps 0 s
  pub known : s.verdict ≢ Unknown → made ≡ 0
  pub refused : s.ledger.valid ≡ false → m ≡ s

-- there was none
pub went-nowhere : (s : State) → WentOn 0 s s
went-nowhere s =
    record {
      naming = refl;
      ever_hidden = refl;
      clauses = refl;
      assumptions = refl;
      counted = refl;
      verdict = refl;
      variables = refl;
      valid = refl;
      started = refl;
      checking = refl;
      since = omega arith;
      settings = refl;
      made = 0;
      count = omega arith;
      budget = omega arith;
      spent = inl refl;
      logged = record { entries = []; joined = sym (append-nil s.logged); goes = λ held d. (held, refl) };
      adds = no-steps s.ledger.settings.reduce_locals_interval s.ledger.steps s.logged;
      derived = tt;
      proof = goes-on-none s.proof;
      still = λ e. refl;
      known = λ n. refl;
      refused = λ e. refl;
    }

-- The steps of one search more.

more-since : (since mid_since before mid after made more : ℕ) → mid_since ≡ since + (mid - before) → mid ≡ before + made → after ≡ mid + more →
    mid_since + (after - mid) ≡ since + (after - before)
more-since since mid_since before mid after made more d e f = omega (arith, d, e, f)

-- how they are counted, together with those before
counts-on : (k a limit : ℕ) (s m : State) (after : ℕ) (r : Result Bool SolverError) → WentOn a s m →
    CountsSteps (length m.counted) k m.ledger.since m.ledger.steps after r → a + k ≤ limit → (r ≡ Err Interrupted → a + k ≡ limit) →
    after < 2 ^ 64 → CountsSteps (length s.counted) limit s.ledger.since s.ledger.steps after r
counts-on k a limit s m after r w c least all small =
    let count = w.count in
    let more = c.count in
    let budget = w.budget in
    let further = c.budget in
    let since = w.since in
    record {
      made = w.made + c.made;
      count = omega (arith, count, more);
      budget = omega (arith, budget, further, least);
      bounded =
          subst (λ (xs : List ℕ). AreFew (length xs) (s.ledger.since + (w.made + c.made))) w.counted
          (subst (AreFew (length m.counted)) (let z : m.ledger.since + c.made ≡ s.ledger.since + (w.made + c.made) = omega
          (arith, since, count) in z) c.bounded);
      found = λ b e. let one = c.found b e in omega (arith, one);
      spent = λ e. let sum = all e in
          ⊎_elim
          (λ (x : w.made ≡ a). ⊎_elim (λ (y : c.made ≡ k). inl (omega (arith, x, y, sum))) (λ (y : after ≡ 2 ^ 64 - 1). inr y) (c.spent e))
          (λ (x : m.ledger.steps ≡ 2 ^ 64 - 1). inr (omega (arith, x, more, small)))
          w.spent;
    }

-- The steps of a search are numbered on from those before it, and learned clauses may be deleted as often.
same-interval : (a : ℕ) (s m : State) → WentOn a s m → m.ledger.settings.reduce_locals_interval ≡ s.ledger.settings.reduce_locals_interval
same-interval a s m w = ap (λ (c : Settings). c.reduce_locals_interval) w.settings

adds-on : (a k : ℕ) (s m : State) (w : WentOn a s m) (es : List Entry) →
    GoesOnInSteps m.ledger.settings.reduce_locals_interval m.ledger.steps k m.logged es →
    GoesOnInSteps s.ledger.settings.reduce_locals_interval s.ledger.steps (w.made + k) s.logged (w.logged.entries ++ es)
adds-on a k s m w es h =
    let interval = s.ledger.settings.reduce_locals_interval in
    steps-further interval s.ledger.steps w.made k s.logged w.logged.entries es w.adds
    (subst (λ x. GoesOnInSteps interval (s.ledger.steps + w.made) k x es) w.logged.joined
    (subst (λ j. GoesOnInSteps interval j k m.logged es) w.count
    (subst (λ i. GoesOnInSteps i m.ledger.steps k m.logged es) (same-interval a s m w) h)))

-- One more was interrupted.
pub goes-on : (k a : ℕ) (s m t : State) → WentOn a s m → IsSpent by_state (with_max_steps k m) t → t.ledger.steps < 2 ^ 64 → WentOn (a + k) s t
unfolding counts-on
goes-on k a s m t w e small =
    let c = e.steps in
    let count = c.count in
    let first = w.count in
    let same : t.ledger.steps - m.ledger.steps ≡ c.made = omega (arith, count) in
    let all = counts-on k a (a + k) s m t.ledger.steps (Err Interrupted) w c (omega arith) (λ z. refl) small in
    record {
      naming = (same-naming e.rest) ∙ w.naming;
      ever_hidden = (same-hidden e.rest) ∙ w.ever_hidden;
      clauses = (same-clauses e.rest) ∙ w.clauses;
      assumptions = (same-assumptions e.rest) ∙ w.assumptions;
      counted = (same-counted e.rest) ∙ w.counted;
      verdict = (same-verdict e.rest) ∙ w.verdict;
      variables = e.variables ∙ w.variables;
      valid = ap (λ (l : Ledger). l.valid) (same-ledger e.rest) ∙ w.valid;
      started = ap (λ (l : Ledger). l.started) (same-ledger e.rest) ∙ w.started;
      checking = ap (λ (l : Ledger). l.checking) (same-ledger e.rest) ∙ w.checking;
      since = ap (λ (l : Ledger). l.since) (same-ledger e.rest)
          ∙ more-since s.ledger.since m.ledger.since s.ledger.steps m.ledger.steps t.ledger.steps w.made c.made w.since w.count c.count;
      settings = ap (λ (l : Ledger). beside_limit l.settings) (same-ledger e.rest) ∙ w.settings;
      made = w.made + c.made;
      count = omega (arith, count, first);
      budget = all.budget;
      spent = all.spent refl;
      logged = record {
        entries = w.logged.entries ++ e.logged.entries;
        joined = e.logged.joined ∙ ap (λ x. x ++ e.logged.entries) w.logged.joined ∙ append_assoc s.logged w.logged.entries e.logged.entries;
        goes = goes_on_further w.made c.made s.logged w.logged.entries e.logged.entries w.logged.goes
            (subst (λ x. GoesOn c.made x e.logged.entries) w.logged.joined (subst (λ j. GoesOn j m.logged e.logged.entries) same e.logged.goes));
      };
      adds = adds-on a c.made s m w e.logged.entries
          (subst (λ j. GoesOnInSteps m.ledger.settings.reduce_locals_interval m.ledger.steps j m.logged e.logged.entries) same e.adds);
      derived = derived-through w.logged.entries e.logged.entries w.derived e.derived;
      proof = goes-on-through s.proof m.proof t.proof w.proof e.rest.proof;
      still = λ z. ap (λ (x : State). with_max_steps 0 x) (e.still (omega (arith, count, z))) ∙ w.still (omega (arith, z));
      known = λ n. absurd (n (sym w.verdict ∙ e.unknown));
      refused = λ v. let z : false ≡ true = sym (w.valid ∙ v) ∙ e.valid in absurd cc;
    }

-- 2. What all of them come to.

-- the ledger, where it is valid or not
ledger-on : (k n a : ℕ) (s m t : State) (v : Bool) → WentOn a s m → m.ledger.steps ≤ t.ledger.steps →
    t.ledger ≡ record (with_steps t.ledger.steps (with_max_steps k m)).ledger { valid = v } →
    (with_max_steps n t).ledger ≡ record (with_steps t.ledger.steps (with_max_steps n s)).ledger { valid = v }
ledger-on k n a s m t v w low e =
    ledger-is (with_max_steps n t).ledger v s.ledger.started t.ledger.steps (s.ledger.since + (t.ledger.steps - s.ledger.steps))
    (record s.ledger.settings { max_steps = n }) s.ledger.checking (ap (λ (l : Ledger). l.valid) e) (ap (λ (l : Ledger). l.started) e ∙ w.started) refl
    (ap (λ (l : Ledger). l.since) e ∙ since)
    (ap (λ (l : Ledger). record l.settings { max_steps = n }) e ∙ ap (λ (c : Settings). record c { max_steps = n }) w.settings)
    (ap (λ (l : Ledger). l.checking) e ∙ w.checking)
  where
    since : m.ledger.since + (t.ledger.steps - m.ledger.steps) ≡ s.ledger.since + (t.ledger.steps - s.ledger.steps)
    since = let x = w.since in let y = w.count in omega (arith, x, y, low)

-- no way leads back
invalid-on : (faults k n a : ℕ) (s m t : State) → WentOn a s m → m.ledger.steps ≤ t.ledger.steps →
    Invalidates faults (with_steps t.ledger.steps (with_max_steps k m)) t →
    Invalidates faults (with_steps t.ledger.steps (with_max_steps n s)) (with_max_steps n t)
invalid-on faults k n a s m t w low i =
    record {
      valid = sym w.valid ∙ i.valid;
      ledger = ledger-on k n a s m t false w low i.ledger;
      proof = goes-on-failing faults s.proof m.proof t.proof w.proof i.proof;
    }

-- no step is taken back
counts-low : (n k since before after : ℕ) (r : Result Bool SolverError) → CountsSteps n k since before after r → before ≤ after
counts-low n k since before after r c = let x = c.count in omega (arith, x)

-- all of them were interrupted, and there was one
all-interrupted : (n : ℕ) (s t : State) → WentOn n s t → s.ledger.valid ≡ true → s.verdict ≡ Unknown →
    CountsSteps (length s.counted) n s.ledger.since s.ledger.steps t.ledger.steps (Err Interrupted) →
    IsSpent by_state (with_max_steps n s) (with_max_steps n t)
all-interrupted n s t w valid unknown counts =
    let count = w.count in
    let same : w.made ≡ t.ledger.steps - s.ledger.steps = omega (arith, count) in
    record {
      valid = valid;
      unknown = unknown;
      steps = counts;
      rest = record {
        same = same-by (with_entries t.logged (with_steps t.ledger.steps (with_max_steps n s))) (with_max_steps n t) w.naming w.ever_hidden w.clauses
            w.assumptions w.counted w.verdict
            (ledger-is (with_max_steps n t).ledger s.ledger.valid s.ledger.started t.ledger.steps
            (s.ledger.since + (t.ledger.steps - s.ledger.steps)) (record s.ledger.settings { max_steps = n }) s.ledger.checking w.valid w.started
            refl w.since (ap (λ (c : Settings). record c { max_steps = n }) w.settings) w.checking);
        logged = (stays-nothing t.logged).0;
        derived = (stays-nothing t.logged).2;
        stays = λ _. (stays-nothing t.logged).1;
        alike = ap (λ v. lines_over v t.logged) w.variables;
        proof = w.proof;
      };
      variables = w.variables;
      logged = record { entries = w.logged.entries; joined = w.logged.joined; goes = subst (λ j. GoesOn j s.logged w.logged.entries) same w.logged.goes };
      adds = subst (λ j. GoesOnInSteps s.ledger.settings.reduce_locals_interval s.ledger.steps j s.logged w.logged.entries) same w.adds;
      derived = w.derived;
      still = λ e. ap (λ (x : State). with_max_steps n x) (w.still (omega (arith, count, e)));
    }

-- the steps are counted alike
steps-on : (k n a : ℕ) (s m t : State) (r : Result Bool SolverError) → WentOn a s m → a + k ≤ n → (r ≡ Err Interrupted → a + k ≡ n) → t.ledger.steps < 2 ^ 64 →
    CountsIf by_state (with_max_steps k m) r t → CountsIf by_state (with_max_steps n s) r (with_max_steps n t)
steps-on k n a s m t r w least all small (Searched u c) =
    Searched (sym w.verdict ∙ u) (counts-on k a n s m t.ledger.steps r w c least all small)
steps-on k n a s m t r w least all small (Decided x e logged) =
    let none = w.known (was x) in
    let count = w.count in
    Decided (inl (was x)) (omega (arith, e, none, count)) (λ v. logged v ∙ ap (λ (y : State). y.logged) (w.still none))
  where
    was : (m.verdict ≢ Unknown) ⊎ (m.verdict ≡ Unsat) → s.verdict ≢ Unknown
    was (inl d) u = d (w.verdict ∙ u)
    was (inr d) u = let z : Unsat ≡ Unknown = sym d ∙ w.verdict ∙ u in cc

steps-low : (s t : State) (r : Result Bool SolverError) → CountsIf by_state s r t → s.ledger.steps ≤ t.ledger.steps
steps-low s t r (Searched u c) = counts-low _ _ _ _ _ r c
steps-low s t r (Decided n e logged) = omega (arith, e)

-- where the last search made no step, no search before it made one
made-before : (k a : ℕ) (s m t : State) (b : Bool) (w : WentOn a s m) → CountsIf by_state (with_max_steps k m) (Ok b) t →
    t.ledger.steps - m.ledger.steps ≡ 0 → w.made ≡ 0
made-before k a s m t b w (Searched u c) e = let one = c.found b refl in let sum = c.count in absurd (omega (arith, one, sum, e))
made-before k a s m t b w (Decided x same logged) e = w.known (was x)
  where
    was : (m.verdict ≢ Unknown) ⊎ (m.verdict ≡ Unsat) → s.verdict ≢ Unknown
    was (inl d) u = d (w.verdict ∙ u)
    was (inr d) u = let z : Unsat ≡ Unknown = sym d ∙ w.verdict ∙ u in cc

-- a verdict is returned
verdict-on : (k n a : ℕ) (s m t : State) (b : Bool) → WentOn a s m → a + k ≤ n → t.ledger.steps < 2 ^ 64 →
    ReturnsVerdict by_state (with_max_steps k m) b t → ReturnsVerdict by_state (with_max_steps n s) b (with_max_steps n t)
verdict-on k n a s m t b w least small v =
    let low = steps-low (with_max_steps k m) t (Ok b) v.steps in
    record {
      valid = sym w.valid ∙ v.valid;
      steps = steps-on k n a s m t (Ok b) w least (λ e. let z : Ok b ≡ Err Interrupted = e in absurd cc) small v.steps;
      right = record {
        known = λ z. v.right.known (λ u. z (sym w.verdict ∙ u)) ∙ w.verdict;
        answer = v.right.answer;
        right = v.right.right;
        ends = λ u. ends-through w.logged.entries v.logged.entries t.verdict w.derived (v.right.ends (w.verdict ∙ u));
        refuted = v.right.refuted;
        core = v.right.core;
      };
      rest = record {
        same = same-by (with_entries t.logged (with_verdict t.verdict (with_steps t.ledger.steps (with_max_steps n s)))) (with_max_steps n t)
            (same-naming v.rest ∙ w.naming) (same-hidden v.rest ∙ w.ever_hidden) (same-clauses v.rest ∙ w.clauses)
            (same-assumptions v.rest ∙ w.assumptions) (same-counted v.rest ∙ w.counted) (same-verdict v.rest)
            (ledger-on k n a s m t s.ledger.valid w low
            (same-ledger v.rest ∙ ap (λ x. record (with_steps t.ledger.steps (with_max_steps k m)).ledger { valid = x }) w.valid));
        logged = v.rest.logged;
        derived = v.rest.derived;
        stays = v.rest.stays;
        alike = v.rest.alike ∙ ap (λ f. lines_over f t.logged) w.variables;
        proof = goes-on-through s.proof m.proof t.proof w.proof v.rest.proof;
      };
      logged = record {
        entries = w.logged.entries ++ v.logged.entries;
        joined = v.logged.joined ∙ ap (λ x. x ++ v.logged.entries) w.logged.joined ∙ append_assoc s.logged w.logged.entries v.logged.entries;
        goes = subst (λ j. GoesOn j s.logged (w.logged.entries ++ v.logged.entries)) (let x = w.count in omega (arith, x, low))
            (goes_on_further w.made (t.ledger.steps - m.ledger.steps) s.logged w.logged.entries v.logged.entries w.logged.goes
            (subst (λ x. GoesOn (t.ledger.steps - m.ledger.steps) x v.logged.entries) w.logged.joined v.logged.goes));
      };
      adds =
          let interval = s.ledger.settings.reduce_locals_interval in
          let more = t.ledger.steps - m.ledger.steps in
          subst (λ j. BeginsInSteps interval s.ledger.steps (j - 1) s.logged (w.logged.entries ++ v.logged.entries)) (let x = w.count in omega (arith, x, low))
          (begins-further interval s.ledger.steps w.made more s.logged w.logged.entries v.logged.entries (made-before k a s m t b w v.steps) w.adds
          (subst (λ x. BeginsInSteps interval (s.ledger.steps + w.made) (more - 1) x v.logged.entries) w.logged.joined
          (subst (λ j. BeginsInSteps interval j (more - 1) m.logged v.logged.entries) w.count
          (subst (λ i. BeginsInSteps i m.ledger.steps (more - 1) m.logged v.logged.entries) (same-interval a s m w) v.adds))));
    }

-- a step fails
step-on : (faults k n a : ℕ) (s m t : State) (e : SolverError) → WentOn a s m → a + k ≤ n → (e ≡ Interrupted → a + k ≡ n) →
    t.ledger.steps < 2 ^ 64 → FailsStep by_state faults (with_max_steps k m) e t → FailsStep by_state faults (with_max_steps n s) e (with_max_steps n t)
step-on faults k n a s m t e w least all small (u, c, i) = (
  sym w.verdict ∙ u,
  counts-on k a n s m t.ledger.steps (Err e) w c least (λ z. let same : e ≡ Interrupted = cc in all same) small,
  invalid-on faults k n a s m t w (counts-low _ _ _ _ _ (Err e) c) i,
)

-- Searches that were interrupted and then one more come to what one search comes to.
pub comes-to : (k n a : ℕ) (s m t : State) (r : Result Bool SolverError) → WentOn a s m → Searches (with_max_steps k m) r t → a + k ≤ n →
    (r ≡ Err Interrupted → a + k ≡ n) → t.ledger.steps < 2 ^ 64 → Searches (with_max_steps n s) r (with_max_steps n t)
comes-to k n a s m t (Ok b) w h least all small = verdict-on k n a s m t b w least small h
comes-to k n a s m t (Err Interrupted) w h least all small =
    let e = all refl in
    all-interrupted n s t (subst (λ j. WentOn j s t) e (goes-on k a s m t w h small)) (sym w.valid ∙ h.valid) (sym w.verdict ∙ h.unknown)
    (counts-on k a n s m t.ledger.steps (Err Interrupted) w h.steps least all small)
comes-to k n a s m t (Err Invalid) w (v, e) least all small =
    (sym w.valid ∙ v, ap (λ (x : State). with_max_steps n x) (e ∙ ap (λ (x : State). with_max_steps k x) (w.refused (sym w.valid ∙ v))))
comes-to k n a s m t (Err OutOfMemory) w h least all small = step-on 0 k n a s m t OutOfMemory w least (λ e. absurd cc) small h
comes-to k n a s m t (Err ClauseStoreFull) w (h, full) least all small = (
  step-on 0 k n a s m t ClauseStoreFull w least (λ e. absurd cc) small h,
  subst (λ (named : Naming). IsStoreFull named.made (with_max_steps n t)) w.naming full,
)
comes-to k n a s m t (Err (ProofIoError cause)) w (o, h) least all small = (
  open-before s.proof m.proof w.proof o,
  step-on 1 k n a s m t (ProofIoError cause) w least (λ e. absurd cc) small h,
)
comes-to k n a s m t (Err (WitnessVar u)) w h least all small = absurd h
comes-to k n a s m t (Err VariableLimit) w h least all small = absurd h
comes-to k n a s m t (Err (AssumedVar u)) w h least all small = absurd h
comes-to k n a s m t (Err ClauseAfterSolve) w h least all small = absurd h
comes-to k n a s m t (Err ProofOpen) w h least all small = absurd h
comes-to k n a s m t (Err ProofTooLate) w h least all small = absurd h
comes-to k n a s m t (Err (ConfigOutOfRange field)) w h least all small = absurd h
comes-to k n a s m t (Err (Dimacs cause)) w h least all small = absurd h

-- the limit of steps is the one that the settings have
pub same-limit : (n : ℕ) (s : State) → s.ledger.settings.max_steps ≡ n → s ≡ with_max_steps n s
same-limit n s e = ap (λ k. with_max_steps k s) e
