-- Why calls of a client are refused.
use Rattle.std.proofs.Common.{◌≡◌, ◌≢◌, ◌⊎◌, inl, inr, ⊎_elim, ℕ, Bool, true, false, Option, Some, None, List, [], refl, ap, sym, ◌∙◌, subst, Err}
use Rattle.varisat_theory.specs.promises.Literals.{Literal, Clause}
use Rattle.varisat_names.specs.promises.Settings.{first_bad}
use Rattle.varisat_names.specs.declared.config.SolverConfigUpdate.{SolverConfigUpdate}
use Rattle.varisat_solver.specs.promises.States.{State}
use Rattle.varisat_solver.specs.promises.OpenProofs.{OpenProof, BarsClauses, BarsAssumptions}
use Rattle.varisat_solver.specs.promises.Calls.{IsPastLimit, RefusesNames, MayAccept, AddsClause, Assumes, Solves, Configures, by_state}
use Rattle.varisat_solver.specs.declared.solver.SolverError.{SolverError}
use Rattle.varisat_solver.specs.declared.solver.SolverError.TheVariants as error
use Rattle.varisat_client.specs.declared.refusal.Refusal.TheVariants.{OutOfMemory, VariableLimit, ClauseStoreFull}
use Rattle.varisat_client.specs.inside.Refusals.{refusal_for, store_refusal_for}
use Rattle.varisat_client.specs.promises.Pasts.{ClientPast, refuse, Refuses, Memory, Limit, Full}
use Rattle.varisat_client.specs.inside.Clients.{WasGiven}
use Rattle.varisat_client.proofs.Fitting.{past-limit}

-- of no literals none is past the limit
pub none-past-limit : IsPastLimit [] → ⊥
none-past-limit (l, i, past) = i

-- what errors are returned as
cases-refusal : (e : SolverError) → (e ≡ error.VariableLimit) ⊎ ((e ≡ error.ClauseStoreFull) ⊎ (refusal_for e ≡ OutOfMemory))
cases-refusal error.VariableLimit = inl refl
cases-refusal error.ClauseStoreFull = inr (inl refl)
cases-refusal error.Interrupted = inr (inr refl)
cases-refusal (error.ProofIoError cause) = inr (inr refl)
cases-refusal error.OutOfMemory = inr (inr refl)
cases-refusal error.Invalid = inr (inr refl)
cases-refusal (error.WitnessVar u) = inr (inr refl)
cases-refusal (error.AssumedVar u) = inr (inr refl)
cases-refusal error.ClauseAfterSolve = inr (inr refl)
cases-refusal error.ProofOpen = inr (inr refl)
cases-refusal error.ProofTooLate = inr (inr refl)
cases-refusal (error.ConfigOutOfRange field) = inr (inr refl)
cases-refusal (error.Dimacs cause) = inr (inr refl)

-- only one is returned as a full store
pub is-full : (e : SolverError) → refusal_for e ≡ ClauseStoreFull → e ≡ error.ClauseStoreFull
is-full e q =
    ⊎_elim
    (λ v. absurd (let z : VariableLimit ≡ ClauseStoreFull = sym (ap refusal_for v) ∙ q in cc))
    (λ w. ⊎_elim (λ f. f) (λ m. absurd (let z : OutOfMemory ≡ ClauseStoreFull = sym m ∙ q in cc)) w)
    (cases-refusal e)

-- the reason of an error is one for which the call may be refused
reason : (e : SolverError) (given : List Literal) (stores : Bool) (p : ClientPast) → p.refusal ≡ None → (e ≡ error.VariableLimit → IsPastLimit given) →
    (e ≢ error.VariableLimit → IsPastLimit given → ⊥) → (e ≡ error.ClauseStoreFull → stores ≡ true) → Refuses given stores p (refuse (refusal_for e) p)
reason e given stores p free limit within store =
    ⊎_elim
    (λ v. Limit free (limit v) (ap (λ x. refuse (refusal_for x) p) v))
    (λ w. ⊎_elim
    (λ f. Full free (within (λ v. let z : error.ClauseStoreFull ≡ error.VariableLimit = sym f ∙ v in cc)) (store f)
    (ap (λ x. refuse (refusal_for x) p) f))
    (λ m. Memory free (within (λ v. let z : OutOfMemory ≡ VariableLimit = sym m ∙ ap refusal_for v in cc)) (ap (λ why. refuse why p) m))
    w)
    (cases-refusal e)

-- a proof bars nothing where none is open
none-bars-clauses : (o : Option OpenProof) → o ≡ None → BarsClauses o → ⊥
none-bars-clauses o none (p, e, searched, marks) = let z : None ≡ Some p = sym none ∙ e in absurd cc

none-bars-assumptions : (o : Option OpenProof) → o ≡ None → BarsAssumptions o → ⊥
none-bars-assumptions o none (p, e, marks) = let z : None ≡ Some p = sym none ∙ e in absurd cc

-- a list is refused for another reason only where none of its names is past the limit
names-within : (e : SolverError) (unbarred : Type 0) (s t : State) (d : List Literal) → RefusesNames unbarred s d e t → s.ledger.valid ≡ true →
    e ≢ error.VariableLimit → IsPastLimit d → ⊥
names-within error.VariableLimit u s t d r v other = absurd (other refl)
names-within error.ClauseStoreFull u s t d r v other = absurd r
names-within error.Interrupted u s t d r v other = absurd r
names-within (error.ProofIoError cause) u s t d (o, free, may, gone) v other = may.in_range
names-within error.OutOfMemory u s t d (free, may, gone) v other = may.in_range
names-within error.Invalid u s t d (invalid, same) v other = let z : true ≡ false = sym v ∙ invalid in absurd cc
names-within (error.WitnessVar w) u s t d (valid, free, within, first, same) v other = within
names-within (error.AssumedVar w) u s t d r v other = absurd r
names-within error.ClauseAfterSolve u s t d r v other = absurd r
names-within error.ProofOpen u s t d r v other = absurd r
names-within error.ProofTooLate u s t d r v other = absurd r
names-within (error.ConfigOutOfRange field) u s t d r v other = absurd r
names-within (error.Dimacs cause) u s t d r v other = absurd r

-- so is a clause
clause-within : (e : SolverError) (s t : State) (d : Clause) → AddsClause s d (Err e) t → s.ledger.valid ≡ true → s.proof ≡ None →
    e ≢ error.VariableLimit → IsPastLimit d → ⊥
clause-within error.ClauseAfterSolve s t d (valid, unrefuted, bars, same) v o other = absurd (none-bars-clauses s.proof o bars)
clause-within error.ClauseStoreFull s t d (free, may, gone, full) v o other = may.in_range
clause-within error.VariableLimit s t d r v o other = absurd (other refl)
clause-within error.Interrupted s t d r v o other = names-within error.Interrupted (MayAccept by_state s) s t d r v other
clause-within (error.ProofIoError cause) s t d r v o other = names-within (error.ProofIoError cause) (MayAccept by_state s) s t d r v other
clause-within error.OutOfMemory s t d r v o other = names-within error.OutOfMemory (MayAccept by_state s) s t d r v other
clause-within error.Invalid s t d r v o other = names-within error.Invalid (MayAccept by_state s) s t d r v other
clause-within (error.WitnessVar u) s t d r v o other = names-within (error.WitnessVar u) (MayAccept by_state s) s t d r v other
clause-within (error.AssumedVar u) s t d r v o other = absurd r
clause-within error.ProofOpen s t d r v o other = absurd r
clause-within error.ProofTooLate s t d r v o other = absurd r
clause-within (error.ConfigOutOfRange field) s t d r v o other = absurd r
clause-within (error.Dimacs cause) s t d r v o other = absurd r

-- and a list of assumptions
list-within : (e : SolverError) (s t : State) (d : List Literal) → Assumes s d (Err e) t → s.ledger.valid ≡ true → s.proof ≡ None →
    e ≢ error.VariableLimit → IsPastLimit d → ⊥
list-within error.ProofOpen s t d (valid, bars, same) v o other = absurd (none-bars-assumptions s.proof o bars)
list-within error.VariableLimit s t d r v o other = absurd (other refl)
list-within error.Interrupted s t d r v o other = absurd r
list-within error.ClauseStoreFull s t d r v o other = absurd r
list-within (error.ProofIoError cause) s t d r v o other = names-within (error.ProofIoError cause) (BarsAssumptions s.proof → ⊥) s t d r v other
list-within error.OutOfMemory s t d r v o other = names-within error.OutOfMemory (BarsAssumptions s.proof → ⊥) s t d r v other
list-within error.Invalid s t d r v o other = names-within error.Invalid (BarsAssumptions s.proof → ⊥) s t d r v other
list-within (error.WitnessVar u) s t d r v o other = names-within (error.WitnessVar u) (BarsAssumptions s.proof → ⊥) s t d r v other
list-within (error.AssumedVar u) s t d r v o other = absurd r
list-within error.ClauseAfterSolve s t d r v o other = absurd r
list-within error.ProofTooLate s t d r v o other = absurd r
list-within (error.ConfigOutOfRange field) s t d r v o other = absurd r
list-within (error.Dimacs cause) s t d r v o other = absurd r

-- a clause that is not taken
pub clause-refused : (e : SolverError) (s t : State) (P : List Clause) (A : List Literal) (n most : ℕ) (d c : Clause) (p : ClientPast) →
    AddsClause s d (Err e) t → d ≡ c → WasGiven s P A n most → p.refusal ≡ None → Refuses c true p (refuse (refusal_for e) p)
clause-refused e s t P A n most d c p adds own f free =
    reason e c true p free
    (λ v. let (valid, may, past, same) = subst (λ x. AddsClause s d (Err x) t) v adds in
    subst IsPastLimit own (past-limit d f.count s.naming f.order f.in_range past))
    (λ other h. clause-within e s t d adds f.valid f.proof other (subst IsPastLimit (sym own) h))
    (λ _. refl)

-- a list that is not assumed
pub list-refused : (e : SolverError) (s t : State) (P : List Clause) (A : List Literal) (n most : ℕ) (d B : List Literal) (p : ClientPast) →
    Assumes s d (Err e) t → d ≡ B → WasGiven s P A n most → p.refusal ≡ None → Refuses B false p (refuse (refusal_for e) p)
list-refused e s t P A n most d B p assumes own f free =
    reason e B false p free
    (λ v. let (valid, none, past, same) = subst (λ x. Assumes s d (Err x) t) v assumes in
    subst IsPastLimit own (past-limit d f.count s.naming f.order f.in_range past))
    (λ other h. list-within e s t d assumes f.valid f.proof other (subst IsPastLimit (sym own) h))
    (λ k. absurd (subst (λ x. Assumes s d (Err x) t) k assumes))

-- which is never for a full store
pub list-stored : (e : SolverError) (s t : State) (d : List Literal) → Assumes s d (Err e) t → refusal_for e ≡ ClauseStoreFull → ⊥
list-stored e s t d assumes q = subst (λ x. Assumes s d (Err x) t) (is-full e q) assumes

-- a search that comes to no end
pub search-refused : (e : SolverError) (s t : State) (p : ClientPast) → Solves by_state s (Err e) t → p.refusal ≡ None → Refuses [] true p (refuse (refusal_for e) p)
search-refused e s t p solves free =
    reason e [] true p free (λ v. absurd (subst (λ x. Solves by_state s (Err x) t) v solves)) (λ _. none-past-limit) (λ _. refl)

-- a limit of steps is never refused
pub never-refused : (e : SolverError) (s t : State) (u : SolverConfigUpdate) → Configures s u (Err e) t → s.ledger.valid ≡ true → first_bad u ≡ None → ⊥
never-refused error.Invalid s t u c v b = let z : true ≡ false = sym v ∙ c.0 in cc
never-refused (error.ConfigOutOfRange field) s t u c v b = let z : None ≡ Some field = sym b ∙ c.1 in cc
never-refused error.VariableLimit s t u c v b = c
never-refused error.ClauseStoreFull s t u c v b = c
never-refused error.Interrupted s t u c v b = c
never-refused (error.ProofIoError cause) s t u c v b = c
never-refused error.OutOfMemory s t u c v b = c
never-refused (error.WitnessVar w) s t u c v b = c
never-refused (error.AssumedVar w) s t u c v b = c
never-refused error.ClauseAfterSolve s t u c v b = c
never-refused error.ProofOpen s t u c v b = c
never-refused error.ProofTooLate s t u c v b = c
never-refused (error.Dimacs cause) s t u c v b = c

-- clauses that are given are refused for memory or for a full store
pub store-room : (Z : Type 0) (e : SolverError) → (e ≡ error.ClauseStoreFull → Z) →
    (store_refusal_for e ≡ OutOfMemory) ⊎ ((store_refusal_for e ≡ ClauseStoreFull) × Z)
store-room Z error.ClauseStoreFull f = inr (refl, f refl)
store-room Z error.VariableLimit f = inl refl
store-room Z error.Interrupted f = inl refl
store-room Z (error.ProofIoError cause) f = inl refl
store-room Z error.OutOfMemory f = inl refl
store-room Z error.Invalid f = inl refl
store-room Z (error.WitnessVar u) f = inl refl
store-room Z (error.AssumedVar u) f = inl refl
store-room Z error.ClauseAfterSolve f = inl refl
store-room Z error.ProofOpen f = inl refl
store-room Z error.ProofTooLate f = inl refl
store-room Z (error.ConfigOutOfRange field) f = inl refl
store-room Z (error.Dimacs cause) f = inl refl
