-- What calls do to what is known: each has one of a few effects, and so has it where something else is known of verdicts.
use Rattle.std.proofs.Common.{◌≡◌, ℕ, Bool, true, false, List, [], ◌∷◌, ◌⊎◌, inl, inr, ap, refl, Option, Some, None, Result, Ok, Err}
use Rattle.std.specs.declared.alloc.AllocError.{AllocError}
use Rattle.varisat_theory.specs.promises.Literals.{Literal, Clause}
use Rattle.varisat_formula.specs.declared.dimacs.error.DimacsError.{DimacsError}
use Rattle.varisat_formula.specs.promises.Dimacs.{Reading}
use Rattle.varisat_formula.specs.promises.Streams.{Input, Taken}
use Rattle.varisat_lines.specs.declared.format.ProofFormat.{ProofFormat}
use Rattle.varisat_names.specs.declared.config.SolverConfigUpdate.{SolverConfigUpdate}
use Rattle.varisat_solver.specs.promises.OpenProofs.{OpenProof, BarsAssumptions}
use Rattle.varisat_solver.specs.promises.ProofCalls.{OpensProof, EnablesChecking, IsProofIfOpen, Closes}
use Rattle.varisat_solver.specs.promises.ReturnedLists.{returned_list, returned_variables}
use Rattle.varisat_solver.specs.promises.States.{Known, Ledger}
use Rattle.varisat_solver.specs.promises.Names.{Naming, Sample, Witness, name_one, set_mode, free_name}
use Rattle.varisat_solver.specs.promises.Additions.{AddsAll, AddsList, AddsReading, AddsText, ReturnsFault, AllAdded, OneRefused, RefusedAtOnce, NoFault, MemoryFault, Fault, ClauseRefused, ClausesAdded, RefusedEarly, Read, Unread}
use Rattle.varisat_solver.specs.promises.Usage.{ChangesVar, Observes}
use Rattle.varisat_solver.specs.promises.Calls as state
use Rattle.varisat_solver.specs.promises.Calls.{Verdicts, is_valid, IsValid, Invalidates, IsLikeButLeft, MayAccept, TakesOne, Ignored, Accepted, TakesAssumed, TakesList, MakesVar, RefusesNames, CountsIf, Decided, Searched, ReturnsVerdict, IsSpent, Solves, IsRefuted, ReturnsList, Configures, SetsPhase, with_max_steps, once_searched}
use Rattle.varisat.specs.promises.Turns.{Makes}
use Rattle.varisat.specs.declared.session.Call.{Call}
use Rattle.varisat.specs.declared.session.Answer.{Answer}
use Rattle.varisat.specs.declared.session.Call.TheVariants as call
use Rattle.varisat.specs.declared.session.Answer.TheVariants as answer
use Rattle.varisat_solver.specs.declared.solver.SolverError.{SolverError}
use Rattle.varisat_solver.specs.declared.solver.SolverError.TheVariants.{OutOfMemory, Invalid, ProofIoError, ClauseStoreFull, WitnessVar, AssumedVar, VariableLimit, ClauseAfterSolve, ProofOpen, ProofTooLate, Interrupted, ConfigOutOfRange}
use Rattle.varisat.proofs.CappedNames.{IsCapped, capped-one, capped-freed, capped-shown}

-- 1. Effects.

-- what is known, with this of the verdict
abbrev pub recast : {V W : Type 0} → W → Known V → Known W
recast v s = record {
  naming = s.naming;
  ever_hidden = s.ever_hidden;
  clauses = s.clauses;
  assumptions = s.assumptions;
  counted = s.counted;
  verdict = v;
  ledger = s.ledger;
  logged = s.logged;
  variables = s.variables;
  proof = s.proof;
  words = s.words;
}

-- names have changed, and steps are counted anew
abbrev pub with_new_names : {V : Type 0} → Naming → Bool → Bool → Known V → Known V
with_new_names m hidden started s = record s { naming = m; ever_hidden = hidden; ledger = record s.ledger { started = started; since = 0 } }

-- What a call does, or several in turn.
pub data Effect {V : Type 0} (by : Verdicts V) : Known V → Known V → Type 0 where
  -- nothing changes
  Unchanged : {s t : Known V} → t ≡ s → Effect by s t
  -- the ledger does, or the open proof, and steps are counted anew
  CountedAnew : {s t : Known V} (l : Ledger) (o : Option OpenProof) → t ≡ record s { ledger = l; proof = o } → l.valid ≡ is_valid s →
      l.steps ≡ s.ledger.steps → l.since ≡ 0 → Effect by s t
  -- only the limit of steps does, and they are counted on
  Limited : {s t : Known V} (n : ℕ) → t ≡ with_max_steps n s → Effect by s t
  -- names do
  Named : {s t : Known V} {may_leave : Bool} (m : Naming) (hidden started : Bool) → IsValid s → (IsCapped s.naming → IsCapped m) →
      IsLikeButLeft may_leave (with_new_names m hidden started s) t → Effect by s t
  -- a clause joins the others
  Joined : {s t : Known V} (d : Clause) → IsValid s → MayAccept by s → state.Accepts by s d t → Effect by s t
  -- a list is assumed
  Listed : {s t : Known V} (list : List Literal) → IsValid s → TakesAssumed by s list t → Effect by s t
  -- `solve` returns an answer, or its steps are spent
  Answered : {s t : Known V} (b : Bool) → ReturnsVerdict by (once_searched s) b t → Effect by s t
  Spent : {s t : Known V} → IsSpent by (once_searched s) t → Effect by s t
  -- no way leads back
  Broken : {s t : Known V} → is_valid t ≡ false → Effect by s t
  -- one comes after the other
  InTurn : {s t : Known V} (mid : Known V) → Effect by s mid → Effect by mid t → Effect by s t

not-valid : {V : Type 0} {faults : ℕ} {s t : Known V} → Invalidates faults s t → is_valid t ≡ false
not-valid b = ap (λ (l : Ledger). l.valid) b.ledger

-- so it is, whatever is known of the verdict
recast-invalid : {V W : Type 0} {faults : ℕ} {s t : Known V} (v w : W) → Invalidates faults s t → Invalidates faults (recast v s) (recast w t)
recast-invalid v w b = record { valid = b.valid; ledger = b.ledger; proof = b.proof }

-- 2. Two ways to speak of verdicts.

module _ {V W : Type 0} (by : Verdicts V) (to : Verdicts W) where
  -- What the one says of a valid state, the other says too, where v is known of the verdict.
  pub record Says (s : Known V) (v : W) : Type 0 where
    pub refuted : by.refuted s → to.refuted (recast v s)
    pub unrefuted : by.unrefuted s → to.unrefuted (recast v s)
    pub undecided : by.undecided s → to.undecided (recast v s)
    pub decided : (by.undecided s → ⊥) ⊎ by.refuted s → (to.undecided (recast v s) → ⊥) ⊎ to.refuted (recast v s)
    pub model : (list : Option (List Literal)) → by.model s list → to.model (recast v s) list
    pub core : (list : Option (List Literal)) → by.core s list → to.core (recast v s) list
    pub claims : (f : ProofFormat) → IsRefuted to f (recast v s) → IsRefuted by f s

  -- The other says that there is this effect, where v is known before and w after it.
  abbrev pub Follows : {s t : Known V} → Effect by s t → W → W → Type 0
  Follows (Unchanged {s} {t} e) v w = recast w t ≡ recast v s
  Follows (CountedAnew {s} {t} l o e valid steps since) v w = recast w t ≡ record (recast v s) { ledger = l; proof = o }
  Follows (Limited {s} {t} n e) v w = recast w t ≡ with_max_steps n (recast v s)
  Follows (Named {s} {t} {may_leave} m hidden started c keeps e) v w =
      IsLikeButLeft may_leave (with_new_names m hidden started (recast v s)) (recast w t)
  Follows (Joined {s} {t} d c n a) v w = state.Accepts to (recast v s) d (recast w t)
  Follows (Listed {s} {t} list c a) v w = TakesAssumed to (recast v s) list (recast w t)
  Follows (Answered {s} {t} b r) v w = ReturnsVerdict to (once_searched (recast v s)) b (recast w t)
  Follows (Spent {s} {t} r) v w = IsSpent to (once_searched (recast v s)) (recast w t)
  Follows (Broken {s} {t} n) v w = Unit {0}
  Follows (InTurn {s} {t} mid e f) v w = (x : W) × (IsValid mid → Says mid x) × Follows e v x × Follows f x w

  -- A relation of the one has an effect, and where the other says that this follows, the relation holds of what it knows. Below, `k` is
  -- what it says of s, and `x` that it follows.
  abbrev pub HasEffect : (s t : Known V) → (Known W → Known W → Type 0) → Type 0
  HasEffect s t R = (e : Effect by s t) × ((v w : W) → (IsValid s → Says s v) → Follows e v w → R (recast v s) (recast w t))

  -- 3. Clauses.

  may-accept : (s : Known V) (v : W) → Says s v → MayAccept by s → MayAccept to (recast v s)
  may-accept s v k n = record { unrefuted = k.unrefuted n.unrefuted; unbarred = n.unbarred }

  refuses-names : (A : Type 0) (B : Known W → Type 0) (s t : Known V) → ((v : W) → Says s v → A → B (recast v s)) → (d : List Literal)
      (e : SolverError) → RefusesNames A s d e t → HasEffect s t (λ p q. RefusesNames (B p) p d e q)
  refuses-names A B s t f d OutOfMemory (n, lim, b) = (Broken (not-valid b), λ v w k x. (f v (k b.valid) n, lim, recast-invalid v w b))
  refuses-names A B s t f d (ProofIoError cause) (o, n, lim, b) = (Broken (not-valid b), λ v w k x. (o, f v (k b.valid) n, lim, recast-invalid v w b))
  refuses-names A B s t f d Invalid (c, e) = (Unchanged e, λ v w k x. (c, x))
  refuses-names A B s t f d VariableLimit (c, n, over, e) = (Unchanged e, λ v w k x. (c, f v (k c) n, over, x))
  refuses-names A B s t f d (WitnessVar u) (c, n, within, is, e) = (Unchanged e, λ v w k x. (c, f v (k c) n, within, is, x))
  refuses-names A B s t f d e a = absurd a

  add-clause : (s t : Known V) (d : Clause) (r : Result (Unit {0}) SolverError) → TakesOne by s d r t → HasEffect s t (λ p q. TakesOne to p d r q)
  add-clause s t d (Ok u) (c, Ignored n e) = (CountedAnew _ s.proof e refl refl refl, λ v w k x. (c, Ignored ((k c).refuted n) x))
  add-clause s t d (Ok u) (c, Accepted n lim a) = (Joined d c n a, λ v w k x. (c, Accepted (may-accept s v (k c) n) lim x))
  add-clause s t d (Err ClauseStoreFull) (n, lim, b, full) =
      (Broken (not-valid b), λ v w k x. (may-accept s v (k b.valid) n, lim, recast-invalid v w b, full))
  add-clause s t d (Err ClauseAfterSolve) (c, n, is, e) = (Unchanged e, λ v w k x. (c, (k c).unrefuted n, is, x))
  add-clause s t d (Err e) a = refuses-names (MayAccept by s) (MayAccept to) s t (may-accept s) d e a

  add-all : (s t : Known V) (P : List Clause) (r : Result (Unit {0}) SolverError) → AddsAll by s P r t → HasEffect s t (λ p q. AddsAll to p P r q)
  add-all s t [] r (h, e) = (Unchanged e, λ v w k x. (h, x))
  add-all s t (c ∷ P) r (inl (mid, a, rest)) =
      let (e, f) = add-clause s mid c (Ok tt) a in
      let (g, h) = add-all mid t P r rest in
      (InTurn mid e g, λ v w k (u, l, x, y). inl (recast u mid, f v u k x, h u w l y))
  add-all s t (c ∷ P) r (inr (e, h, a)) = let (g, f) = add-clause s t c (Err e) a in (g, λ v w k x. inr (e, h, f v w k x))

  add-list : (s t : Known V) (P : List Clause) (r : Result (Unit {0}) SolverError) → AddsList by s P r t → HasEffect s t (λ p q. AddsList to p P r q)
  add-list s t P r (AllAdded c mid a h e) =
      let (g, f) = add-all s mid P (Ok tt) a in
      (InTurn mid g (CountedAnew _ mid.proof e refl refl refl), λ v w k (u, l, x, y). AllAdded c (recast u mid) (f v u k x) h y)
  add-list s t P r (OneRefused c e h a) = let (g, f) = add-all s t P (Err e) a in (g, λ v w k x. OneRefused c e h (f v w k x))
  add-list s t P r (RefusedAtOnce h (c, e)) = (Unchanged e, λ v w k x. RefusedAtOnce h (c, x))

  return-fault : (s t : Known V) (o : Option DimacsError) (r : Result (Unit {0}) SolverError) → ReturnsFault by o s r t →
      HasEffect s t (λ p q. ReturnsFault to o p r q)
  return-fault s t o r (NoFault n h e) = (CountedAnew _ s.proof e refl refl refl, λ v w k x. NoFault n h x)
  return-fault s t o r (MemoryFault d n m h b) = (Broken (not-valid b), λ v w k x. MemoryFault d n m h (recast-invalid v w b))
  return-fault s t o r (Fault d n m h e) = (Unchanged e, λ v w k x. Fault d n m h x)

  add-reading : (s t : Known V) (R : Reading) (r : Result (Unit {0}) SolverError) → AddsReading by s R r t → HasEffect s t (λ p q. AddsReading to p R r q)
  add-reading s t R r (ClauseRefused e h a) = let (g, f) = add-all s t R.clauses (Err e) a in (g, λ v w k x. ClauseRefused e h (f v w k x))
  add-reading s t R r (ClausesAdded mid a b) =
      let (g, f) = add-all s mid R.clauses (Ok tt) a in
      let (i, h) = return-fault mid t R.fault r b in
      (InTurn mid g i, λ v w k (u, l, x, y). ClausesAdded (recast u mid) (f v u k x) (h u w l y))

  pub add-text : (s t : Known V) (old new : Input) (r : Result (Unit {0}) SolverError) → AddsText by s old r new t →
      HasEffect s t (λ p q. AddsText to p old r new q)
  add-text s t old new r (Read c R i a) = let (g, f) = add-reading s t R r a in (g, λ v w k x. Read c R i (f v w k x))
  add-text s t old new r (RefusedEarly c ended i e h a) =
      let (g, f) = add-all s t ended (Err e) a in (g, λ v w k x. RefusedEarly c ended i e h (f v w k x))
  add-text s t old new r (Unread h (c, e) n) = (Unchanged e, λ v w k x. Unread h (c, x) n)

  -- 4. Names and assumptions.

  make-var : (s t : Known V) (r : Result ℕ SolverError) → MakesVar s r t → HasEffect s t (λ p q. MakesVar p r q)
  make-var s t (Ok u) (c, free, small, e) =
      (Named (name_one u s.naming) s.ever_hidden true c (capped-one u s.naming) e, λ v w k x. (c, free, small, x))
  make-var s t (Err OutOfMemory) (free, b) = (Broken (not-valid b), λ v w k x. (free, recast-invalid v w b))
  make-var s t (Err Invalid) (c, e) = (Unchanged e, λ v w k x. (c, x))
  make-var s t (Err VariableLimit) (c, full, e) = (Unchanged e, λ v w k x. (c, full, x))
  make-var s t (Err e) a = absurd a

  -- names change by f once the name is named
  abbrev changed : {X : Type 0} → (Naming → Naming) → (Bool → Bool) → Known X → Known X
  changed f hidden x = with_new_names (f x.naming) (hidden x.ever_hidden) x.ledger.started x

  change-var : (may_leave : Bool) (f : Naming → Naming) (hidden : Bool → Bool) → ((m : Naming) → IsCapped m → IsCapped (f m)) → (s t : Known V) (u : ℕ)
      (r : Result (Unit {0}) SolverError) → ChangesVar may_leave (changed f hidden) s u r t →
      HasEffect s t (λ p q. ChangesVar may_leave (changed f hidden) p u r q)
  change-var may_leave f hidden keeps s t u (Ok z) (c, small, free, e) = (
    Named (f (name_one u s.naming)) (hidden s.ever_hidden) s.ledger.started c (λ h. keeps (name_one u s.naming) (capped-one u s.naming h)) e,
    λ v w k x. (c, small, free, x),
  )
  change-var may_leave f hidden keeps s t u (Err Invalid) (c, e) = (Unchanged e, λ v w k x. (c, x))
  change-var may_leave f hidden keeps s t u (Err VariableLimit) (c, full, e) = (Unchanged e, λ v w k x. (c, full, x))
  change-var may_leave f hidden keeps s t u (Err (AssumedVar z)) (c, small, own, is, e) = (Unchanged e, λ v w k x. (c, small, own, is, x))
  change-var may_leave f hidden keeps s t u (Err OutOfMemory) (small, free, b) = (Broken (not-valid b), λ v w k x. (small, free, recast-invalid v w b))
  change-var may_leave f hidden keeps s t u (Err e) a = absurd a

  observe : (s t : Known V) (r : Result (List ℕ) SolverError) → Observes s r t → HasEffect s t (λ p q. Observes p r q)
  observe s t (Ok us) (c, (m, shown, e)) =
      (Named m s.ever_hidden s.ledger.started c (capped-shown us s.naming m shown.in_turn) e, λ v w k x. (c, (m, shown, x)))
  observe s t (Err Invalid) (c, e) = (Unchanged e, λ v w k x. (c, x))
  observe s t (Err OutOfMemory) b = (Broken (not-valid b), λ v w k x. recast-invalid v w b)
  observe s t (Err e) a = absurd a

  assume-list : (s t : Known V) (list : List Literal) (r : Result (Unit {0}) SolverError) → TakesList by s list r t →
      HasEffect s t (λ p q. TakesList to p list r q)
  assume-list s t list (Ok u) (c, n, lim, a) = (Listed list c a, λ v w k x. (c, n, lim, x))
  assume-list s t list (Err ProofOpen) (c, o, e) = (Unchanged e, λ v w k x. (c, o, x))
  assume-list s t list (Err e) a =
      refuses-names (BarsAssumptions s.proof → ⊥) (λ p. BarsAssumptions p.proof → ⊥) s t (λ v k n. n) list e a

  -- 5. Answers.

  counts-if : (s t : Known V) (v w : W) (r : Result Bool SolverError) → Says s v → CountsIf by s r t → CountsIf to (recast v s) r (recast w t)
  counts-if s t v w r k (Searched u c) = Searched (k.undecided u) c
  counts-if s t v w r k (Decided n e logged) = Decided (k.decided n) e logged

  pub solve : (s t : Known V) (r : Result Bool SolverError) → Solves by s r t → HasEffect s t (λ p q. Solves to p r q)
  solve s t (Ok b) r = (Answered b r, λ v w k x. x)
  solve s t (Err Interrupted) r = (Spent r, λ v w k x. x)
  solve s t (Err Invalid) (c, e) = (Unchanged e, λ v w k x. (c, x))
  solve s t (Err OutOfMemory) (u, n, b) = (Broken (not-valid b), λ v w k x. ((k b.valid).undecided u, n, recast-invalid v w b))
  solve s t (Err ClauseStoreFull) ((u, n, b), full) =
      (Broken (not-valid b), λ v w k x. (((k b.valid).undecided u, n, recast-invalid v w b), full))
  solve s t (Err (ProofIoError cause)) (o, inl (u, n, b)) =
      (Broken (not-valid b), λ v w k x. (o, inl ((k b.valid).undecided u, n, recast-invalid v w b)))
  solve s t (Err (ProofIoError cause)) (o, inr (n, b)) =
      (Broken (not-valid b), λ v w k x. (o, inr (counts-if s t v w (Err (ProofIoError cause)) (k b.valid) n, recast-invalid v w b)))
  solve s t (Err e) a = absurd a

  pub return-list : (A : Option (List Literal) → Type 0) (B : Known W → Option (List Literal) → Type 0) (s t : Known V)
      (r : Result (Option (List Literal)) AllocError) → ((v : W) → Says s v → (list : Option (List Literal)) → A list → B (recast v s) list) →
      ReturnsList A s r t → HasEffect s t (λ p q. ReturnsList (B p) p r q)
  return-list A B s t (Ok list) f (inl (c, h), e) = (Unchanged e, λ v w k x. (inl (c, f v (k c) list h), x))
  return-list A B s t (Ok list) f (inr n, e) = (Unchanged e, λ v w k x. (inr n, x))
  return-list A B s t (Err z) f (c, (list, h), e) = (Unchanged e, λ v w k x. (c, (list, f v (k c) (Some list) h), x))

  -- 6. Settings, proofs, and self checking.

  config : (s t : Known V) (u : SolverConfigUpdate) (r : Result (Unit {0}) SolverError) → Configures s u r t → HasEffect s t (λ p q. Configures p u r q)
  config s t u (Ok z) (c, n, e) = (CountedAnew _ s.proof e refl refl refl, λ v w k x. (c, n, x))
  config s t u (Err Invalid) (c, e) = (Unchanged e, λ v w k x. (c, x))
  config s t u (Err (ConfigOutOfRange field)) (c, n, e) = (Unchanged e, λ v w k x. (c, n, x))
  config s t u (Err e) a = absurd a

  set-phase : (s t : Known V) (l : Literal) (r : Result (Unit {0}) SolverError) → SetsPhase s l r t → HasEffect s t (λ p q. SetsPhase p l r q)
  set-phase s t l (Ok z) (c, small, e) = (Unchanged e, λ v w k x. (c, small, x))
  set-phase s t l (Err Invalid) (c, e) = (Unchanged e, λ v w k x. (c, x))
  set-phase s t l (Err VariableLimit) (c, past, e) = (Unchanged e, λ v w k x. (c, past, x))
  set-phase s t l (Err OutOfMemory) (small, b) = (Broken (not-valid b), λ v w k x. (small, recast-invalid v w b))
  set-phase s t l (Err e) a = absurd a

  open-proof : {T : Type 0} (taken : T → Taken) (target : T) (format : ProofFormat) (s t : Known V) (r : Result (Unit {0}) (SolverError × T)) →
      OpensProof taken target format s r t → HasEffect s t (λ p q. OpensProof taken target format p r q)
  open-proof taken target format s t (Ok z) (c, n, b, e) = (CountedAnew _ _ e refl refl refl, λ v w k x. (c, n, b, x))
  open-proof taken target format s t (Err (Invalid, back)) (h, (c, e)) = (Unchanged e, λ v w k x. (h, (c, x)))
  open-proof taken target format s t (Err (ProofOpen, back)) (h, c, o, e) = (Unchanged e, λ v w k x. (h, c, o, x))
  open-proof taken target format s t (Err (ProofTooLate, back)) (h, c, n, b, e) = (Unchanged e, λ v w k x. (h, c, n, b, x))
  open-proof taken target format s t (Err e) a = absurd a

  -- what is known of the bytes of an open proof
  is-proof : (s : Known V) (v : W) → Says s v → IsProofIfOpen by s → IsProofIfOpen to (recast v s)
  is-proof s v k has o e =
      let a = has o e in
      record {
        written = a.written;
        drat = a.drat;
        apart = a.apart;
        plain = a.plain;
        in_range = a.in_range;
        readable = a.readable;
        derives = a.derives;
        refutes = λ n c. a.refutes n (k.claims o.format c);
        marked = λ n. let m = a.marked n in
            record {
              after = m.after;
              takes = m.takes;
              inputs = m.inputs;
              assumed = m.assumed;
              cores = m.cores;
              refutes = λ c. m.refutes (k.claims o.format c);
            };
      }

  close : {T : Type 0} (taken : T → Taken) (s t : Known V) (r : Result (Option T) (SolverError × T)) → Closes by taken s r t →
      HasEffect s t (λ p q. Closes to taken p r q)
  close taken s t (Ok back) (closed, has, e) =
      (CountedAnew _ None e refl refl refl, λ v w k x. (closed, (λ c. is-proof s v (k c) (has c)), x))
  close taken s t (Err (ProofIoError cause, target)) (closed, has, b) =
      (Broken (not-valid b), λ v w k x. (closed, is-proof s v (k b.valid) has, recast-invalid v w b))
  close taken s t (Err e) a = absurd a

  enable-checking : (s t : Known V) (r : Result (Unit {0}) SolverError) → EnablesChecking s r t → HasEffect s t (λ p q. EnablesChecking p r q)
  enable-checking s t (Ok z) (c, b, e) = (CountedAnew _ s.proof e refl refl refl, λ v w k x. (c, b, x))
  enable-checking s t (Err Invalid) (c, e) = (Unchanged e, λ v w k x. (c, x))
  enable-checking s t (Err ProofTooLate) (c, b, e) = (Unchanged e, λ v w k x. (c, b, x))
  enable-checking s t (Err e) a = absurd a

  -- 7. All calls.

  pub effect-of : {T S A : Type 0} (seen : S → Input) (taken : T → Taken) (c : Call T S A) (a : Answer T S A) (s t : Known V) →
      Makes by seen taken s c a t → HasEffect s t (λ p q. Makes to seen taken p c a q)
  effect-of seen taken (call.AddClause d) (answer.AddClause r) s t m = add-clause s t d.items r m
  effect-of seen taken (call.AddFormula f) (answer.AddFormula r) s t m = add-list s t f.clauses r m
  effect-of seen taken (call.AddDimacsCnf source) (answer.AddDimacsCnf r back) s t m = add-text s t (seen source) (seen back) r m
  effect-of seen taken call.NewVar (answer.NewVar r) s t m = make-var s t r m
  effect-of seen taken (call.SampleVar u) (answer.SampleVar r) s t (m, fresh) =
      let (e, f) = change-var false (set_mode u Sample) (λ b. b) (λ n h. h) s t u r m in (e, λ v w k x. (f v w k x, fresh))
  effect-of seen taken (call.WitnessVar u) (answer.WitnessVar r) s t (m, fresh) =
      let (e, f) = change-var false (set_mode u Witness) (λ b. b) (λ n h. h) s t u r m in (e, λ v w k x. (f v w k x, fresh))
  effect-of seen taken (call.HideVar u) (answer.HideVar r) s t m = change-var true (free_name u) (λ b. true) (capped-freed u) s t u r m
  effect-of seen taken call.ObserveInternalVars (answer.ObserveInternalVars r) s t m = observe s t (returned_variables r) m
  effect-of seen taken (call.SetPhase l) (answer.SetPhase r) s t m = set-phase s t l r m
  effect-of seen taken (call.UnsetPhase u) answer.UnsetPhase s t e = (Unchanged e, λ v w k x. x)
  effect-of seen taken (call.Assume list) (answer.Assume r) s t m = assume-list s t list.items r m
  effect-of seen taken call.Solve (answer.Solve r) s t m = solve s t r m
  effect-of seen taken call.Model (answer.Model r) s t m = return-list (by.model s) to.model s t (returned_list r) (λ v k. k.model) m
  effect-of seen taken call.FailedCore (answer.FailedCore r) s t m = return-list (by.core s) to.core s t (returned_list r) (λ v k. k.core) m
  effect-of seen taken (call.Config u) (answer.Config r) s t m = config s t u r m
  effect-of seen taken (call.SetMaxSteps n) answer.SetMaxSteps s t m = (Limited n m, λ v w k x. x)
  effect-of seen taken call.Steps (answer.Steps n) s t (h, e) = (Unchanged e, λ v w k x. (h, x))
  effect-of seen taken call.StepsSinceChange (answer.StepsSinceChange n) s t (h, few, e) = (Unchanged e, λ v w k x. (h, few, x))
  effect-of seen taken call.IsValid (answer.IsValid b) s t (h, e) = (Unchanged e, λ v w k x. (h, x))
  effect-of seen taken (call.IsFixed l) (answer.IsFixed b) s t (h, e) = (Unchanged e, λ v w k x. (h, x))
  effect-of seen taken (call.WriteProof target format) (answer.WriteProof r) s t m = open-proof taken target format s t r m
  effect-of seen taken call.CloseProof (answer.CloseProof r) s t m = close taken s t r m
  effect-of seen taken call.EnableSelfChecking (answer.EnableSelfChecking r) s t m = enable-checking s t r m
  effect-of seen taken _ _ s t m = absurd m
