-- What deciding a text leaves in the target of a proof, and how it fails.
use Rattle.std.proofs.Common.{◌≡◌, ◌≢◌, ◌∙◌, ℕ, true, false, List, [], ◌∷◌, ◌++◌, Some, None, inl, inr, refl, sym, ap, subst, append-nil, append_assoc, Bool, Option, Ok, Err}
use Rattle.std.proofs.lemmas.List.{append_cancel_left}
use Rattle.varisat_theory.specs.promises.Literals.{Clause, Literal}
use Rattle.varisat_formula.specs.promises.Dimacs.{Reading, dimacs}
use Rattle.varisat_formula.specs.promises.Streams.{Input, Taken}
use Rattle.varisat_formula.proofs.ParsedSources.{gives_whole}
use Rattle.varisat_solver.specs.promises.States.{State, Unknown, Unsat, Ledger, Verdict, Sat, UnsatUnderAssumptions, IsRight}
use Rattle.varisat_solver.specs.promises.Names.{AreInOrder}
use Rattle.varisat.specs.inside.Counts.{count_with}
use Rattle.varisat_solver.specs.promises.ClauseCalls.{AddsDimacs}
use Rattle.varisat_solver.specs.promises.Calls.{by_state, IsValid, IsRefuted, ReturnsVerdict}
use Rattle.varisat_solver.specs.promises.Additions.{AddsAll, NoFault, MemoryFault, Fault, ClauseRefused, ClausesAdded, RefusedEarly, Read, Unread}
use Rattle.varisat.specs.promises.Decided.{Conclusion, allowed_steps}
use Rattle.varisat.specs.promises.Proven.{Concludes, prepared, Reports, IsProven, IsProvenIf, DecidesProven, Fails, AsSearched, AsListed}
use Rattle.varisat_solver.proofs.calls.CallStates.{same-clauses, same-naming, same-assumptions, same-hidden, same-ledger}
use Rattle.varisat.proofs.NameLaws.{stay-in-order, none-in-order}
use Rattle.varisat.proofs.ProgramDecides.{done, Carries, prepared-begun, unsearched, found}
use Rattle.varisat_theory.specs.promises.Membership.{◌⊆◌}
use Rattle.varisat_theory.specs.promises.Journals.{lines_of}
use Rattle.varisat_lines.specs.promises.Logging.{logged_bytes}
use Rattle.varisat_lines.specs.declared.format.ProofFormat.{ProofFormat}
use Rattle.varisat_proof.specs.promises.Proving.{OpenState, IsClosed}
use Rattle.varisat_solver.specs.promises.OpenProofs.{OpenProof, opened_state, GoesOnWriting, searched_under, first_proof}
use Rattle.varisat_solver.specs.promises.ProofCalls.{IsProofIfOpen}
use Rattle.varisat_solver.specs.declared.solver.SolverError.{SolverError}
use Rattle.varisat_solver.specs.declared.solver.SolverError.TheVariants.{Interrupted, ProofIoError, OutOfMemory, Invalid, ClauseStoreFull, WitnessVar, VariableLimit, AssumedVar, ClauseAfterSolve, ProofOpen, ProofTooLate, ConfigOutOfRange, Dimacs}
use Rattle.varisat_solver.proofs.entries.OpenProofs.{goes-on-none, goes-on-through, plain-bytes}
use Rattle.varisat_solver.specs.promises.Calls as state
use Rattle.varisat_solver.specs.promises.Additions as additions
use Rattle.varisat.specs.promises.Decided as conclusion

-- Which clauses of a text are accepted: the first ones, and all but where these are known to be unsatisfiable.

pub record AreFirst (P : List Clause) (s t : State) : Type 0 where
  pub given : List Clause
  pub rest : List Clause
  pub begins : P ≡ given ++ rest
  pub joined : t.clauses ≡ s.clauses ++ given
  pub refuted : rest ≢ [] → t.verdict ≡ Unsat

-- once they are known to be unsatisfiable no other joins
all-ignored : (s t : State) (P : List Clause) → s.verdict ≡ Unsat → AddsAll by_state s P done t → (t.clauses ≡ s.clauses) × (t.verdict ≡ Unsat)
all-ignored s t [] u (x, e) = (ap (λ (y : State). y.clauses) e, ap (λ (y : State). y.verdict) e ∙ u)
all-ignored s t (c ∷ P) u (inl (mid, (v, state.Ignored n e), more)) =
    let (same, known) = all-ignored mid t P (ap (λ (y : State). y.verdict) e ∙ u) more in
    (same ∙ ap (λ (y : State). y.clauses) e, known)
all-ignored s t (c ∷ P) u (inl (mid, (v, state.Accepted n lim a), more)) = absurd (n.unrefuted u)
all-ignored s t (c ∷ P) u (inr (e, k, a)) = absurd cc

first-clauses : (n : ℕ) (s t : State) (P : List Clause) → AreInOrder n s.naming → AddsAll by_state s P done t → AreFirst P s t
first-clauses n s t [] o (x, e) = record {
  given = [];
  rest = [];
  begins = refl;
  joined = ap (λ (y : State). y.clauses) e ∙ sym (append-nil s.clauses);
  refuted = λ some. absurd (some refl);
}
first-clauses n s t (c ∷ P) o (inl (mid, (v, state.Ignored u e), more)) =
    let (same, known) = all-ignored mid t P (ap (λ (y : State). y.verdict) e ∙ u) more in
    record {
      given = [];
      rest = c ∷ P;
      begins = refl;
      joined = same ∙ ap (λ (y : State). y.clauses) e ∙ sym (append-nil s.clauses);
      refuted = λ some. known;
    }
first-clauses n s t (c ∷ P) o (inl (mid, (v, state.Accepted x lim (w, after, e)), more)) =
    let (order, own) = stay-in-order n s.naming c o in
    let r = first-clauses (count_with n c) mid t P (subst (AreInOrder (count_with n c)) (sym (same-naming e)) order) more in
    record {
      given = c ∷ r.given;
      rest = r.rest;
      begins = ap (λ xs. c ∷ xs) r.begins;
      joined = r.joined ∙ ap (λ xs. xs ++ r.given) ((same-clauses e) ∙ ap (λ d. s.clauses ++ d ∷ []) own)
          ∙ append_assoc s.clauses (c ∷ []) r.given;
      refuted = r.refuted;
    }
first-clauses n s t (c ∷ P) o (inr (e, k, a)) = absurd cc

first-read : (n : ℕ) (s t : State) (R : Reading) → AreInOrder n s.naming → additions.AddsReading state.by_state s R done t →
    (R.fault ≡ None) × AreFirst R.clauses s t
first-read n s t R o (ClauseRefused e k a) = absurd cc
first-read n s t R o (ClausesAdded m a (NoFault none k e)) =
    let r = first-clauses n s m R.clauses o a in (
      none,
      record {
        given = r.given;
        rest = r.rest;
        begins = r.begins;
        joined = ap (λ (y : State). y.clauses) e ∙ r.joined;
        refuted = λ some. ap (λ (y : State). y.verdict) e ∙ r.refuted some;
      },
    )
first-read n s t R o (ClausesAdded m a (MemoryFault y f k e b)) = absurd cc
first-read n s t R o (ClausesAdded m a (Fault y f k e b)) = absurd cc

-- those of a text that was taken in whole
pub first-of-text : (n : ℕ) (s t : State) (old new : Input) → AreInOrder n s.naming → AddsDimacs s old done new t →
    (text : List ℕ) × (new.given ≡ old.given ++ text) × AreFirst (dimacs text).clauses s t
first-of-text n s t old new o (Read v R g a) =
    let (fine, first) = first-read n s t R o a in
    let w = gives_whole old new R g fine in
    (w.text, w.reads.gave, subst (λ (x : Reading). AreFirst x.clauses s t) w.is first)
first-of-text n s t old new o (RefusedEarly v ended g e k a) = absurd cc
first-of-text n s t old new o (Unread e k f) = absurd cc

-- Where they are known to be unsatisfiable no other conclusion is found.
pub finds-refuted : (t u : State) (c : Conclusion) → Concludes t c u → t.verdict ≡ Unsat → c ≡ conclusion.Decided None
finds-refuted t u (conclusion.Unknown conclusion.StepsSpent) r e = let z : Unsat ≡ Unknown = sym e ∙ r.unknown in absurd cc
finds-refuted t u (conclusion.Decided None) r e = refl
finds-refuted t u (conclusion.Decided (Some model)) (r, m) e =
    let same = r.right.known (λ k. let z : Unsat ≡ Unknown = sym e ∙ k in absurd cc) ∙ e in
    let z : Some false ≡ Some true = ap state.answer_of (sym same) ∙ r.right.answer in
    let y : false ≡ true = cc in absurd cc

-- 1. What adding a text keeps.

-- An open proof has more bytes, nothing is hidden, and nothing is assumed.
record Keeps (s t : State) : Type 0 where
  proof : GoesOnWriting s.proof t.proof
  assumptions : t.assumptions ≡ s.assumptions
  hidden : t.ever_hidden ≡ s.ever_hidden

keeps-all-of : (s : State) → Keeps s s
keeps-all-of s = record { proof = goes-on-none s.proof; assumptions = refl; hidden = refl }

keeps-anew : (s t : State) → t ≡ state.count_anew s → Keeps s t
keeps-anew s t e = subst (Keeps s) (sym e) (record { proof = goes-on-none s.proof; assumptions = refl; hidden = refl })

keeps-through : (s m t : State) → Keeps s m → Keeps m t → Keeps s t
keeps-through s m t a b = record {
  proof = goes-on-through s.proof m.proof t.proof a.proof b.proof;
  assumptions = b.assumptions ∙ a.assumptions;
  hidden = b.hidden ∙ a.hidden;
}

keeps-clause : (s t : State) (d : Clause) → state.AddsClause s d done t → Keeps s t
keeps-clause s t d (v, state.Ignored n e) = keeps-anew s t e
keeps-clause s t d (v, state.Accepted n lim (w, after, e)) = record { proof = e.proof; assumptions = same-assumptions e; hidden = (same-hidden e) }

keeps-clauses : (s t : State) (P : List Clause) → AddsAll by_state s P done t → Keeps s t
keeps-clauses s t [] (u, e) = subst (Keeps s) (sym e) (keeps-all-of s)
keeps-clauses s t (c ∷ P) (inl (mid, a, rest)) = keeps-through s mid t (keeps-clause s mid c a) (keeps-clauses mid t P rest)
keeps-clauses s t (c ∷ P) (inr (e, k, a)) = absurd cc

keeps-reading : (s t : State) (R : Reading) → additions.AddsReading by_state s R done t → Keeps s t
keeps-reading s t R (ClauseRefused e k a) = absurd cc
keeps-reading s t R (ClausesAdded m a (NoFault n k e)) = keeps-through s m t (keeps-clauses s m R.clauses a) (keeps-anew m t e)
keeps-reading s t R (ClausesAdded m a (MemoryFault y n k e b)) = absurd cc
keeps-reading s t R (ClausesAdded m a (Fault y n k e b)) = absurd cc

keeps-text : (s t : State) (old new : Input) → AddsDimacs s old done new t → Keeps s t
keeps-text s t old new (Read v R g a) = keeps-reading s t R a
keeps-text s t old new (RefusedEarly v ended g e k a) = absurd cc
keeps-text s t old new (Unread e k n) = absurd cc

-- 2. What asking keeps.

record Asks (t u : State) : Type 0 where
  valid : IsValid u
  proof : GoesOnWriting (searched_under t.proof) u.proof
  assumptions : u.assumptions ≡ t.assumptions
  hidden : u.ever_hidden ≡ t.ever_hidden
  clauses : u.clauses ≡ t.clauses

asks-logged : (t u : State) (b : Bool) → ReturnsVerdict by_state (state.once_searched t) b u → Asks t u
asks-logged t u b r = record {
  valid = ap (λ (l : Ledger). l.valid) (same-ledger r.rest) ∙ r.valid;
  proof = r.rest.proof;
  assumptions = same-assumptions r.rest;
  hidden = same-hidden r.rest;
  clauses = same-clauses r.rest;
}

asks : (t u : State) (c : Conclusion) → Concludes t c u → Asks t u
asks t u (conclusion.Unknown conclusion.StepsSpent) r = record {
  valid = ap (λ (l : Ledger). l.valid) (same-ledger r.rest) ∙ r.valid;
  proof = r.rest.proof;
  assumptions = same-assumptions r.rest;
  hidden = same-hidden r.rest;
  clauses = same-clauses r.rest;
}
asks t u (conclusion.Decided None) r = asks-logged t u false r
asks t u (conclusion.Decided (Some model)) (r, m) = asks-logged t u true r

pub finds-valid : (t u : State) (c : Conclusion) → Concludes t c u → IsValid u
finds-valid t u c f = (asks t u c f).valid

-- where none was found the answer was false, and as nothing was assumed it speaks of the clauses
finds-none : (t u : State) (c : Conclusion) (f : ProofFormat) → Concludes t c u → t.assumptions ≡ [] → c ≡ conclusion.Decided None → IsRefuted by_state f u
finds-none t u (conclusion.Unknown reason) f r n e = absurd cc
finds-none t u (conclusion.Decided (Some model)) f r n e = let z : Some model ≡ None = cc in absurd cc
finds-none t u (conclusion.Decided None) f r n e = (r.right.answer, λ _. go u.verdict refl)
  where
    nothing : (list : List Literal) → list ⊆ [] → list ≡ []
    nothing [] h = refl
    nothing (l ∷ list) h = absurd (h l (inl refl))

    go : (v : Verdict) → u.verdict ≡ v → u.verdict ≡ Unsat
    go Unknown e = let z : None ≡ Some false = ap state.answer_of (sym e) ∙ r.right.answer in absurd cc
    go (Sat a) e = let z : Some true ≡ Some false = ap state.answer_of (sym e) ∙ r.right.answer in let y : true ≡ false = cc in absurd cc
    go Unsat e = e
    go (UnsatUnderAssumptions list) e =
        let fails = subst (IsRight u.clauses u.assumptions u.counted) e r.right.right in
        absurd (r.right.core list e (nothing list (subst (λ A. list ⊆ A) ((same-assumptions r.rest) ∙ n) fails.0)))

-- 3. The target of the proof.

-- what a proof that was open from the beginning is at the end
open-at-end : (p : OpenProof) (first middle last : Option OpenProof) → first ≡ Some p → GoesOnWriting first middle →
    GoesOnWriting (searched_under middle) last → (bytes : List ℕ) × (last ≡ Some (record p { bytes = p.bytes ++ bytes; searched = true }))
open-at-end p first middle last b g h =
    let (more, e) = subst (λ (o : Option OpenProof). GoesOnWriting o middle) b g in
    let (further, f) = subst (λ (o : Option OpenProof). GoesOnWriting (searched_under o) last) e h in
    (more ++ further, f ∙ ap (λ (xs : List ℕ). let q : OpenProof = record p { bytes = xs; searched = true } in Some q) (append_assoc p.bytes more further))

none-at-end : (first middle last : Option OpenProof) → first ≡ None → GoesOnWriting first middle → GoesOnWriting (searched_under middle) last → last ≡ None
none-at-end first middle last b g h =
    let e = subst (λ (o : Option OpenProof). GoesOnWriting o middle) b g in
    subst (λ (o : Option OpenProof). GoesOnWriting (searched_under o) last) e h

closed-none : {W : Type 0} (taken : W → Taken) (back : Option W) → IsClosed {E = SolverError} taken None (Ok back) → back ≡ None
closed-none taken None h = refl
closed-none taken (Some w) h = absurd h

proven-bytes : {W : Type 0} (taken : W → Taken) (format : ProofFormat) (target back : W) (u : State) (bytes : List ℕ) (P : List Clause) (c : Conclusion) →
    u.proof ≡ Some (record (first_proof format (taken target)) { bytes = bytes; searched = true }) → u.ever_hidden ≡ false → IsProofIfOpen by_state u →
    u.assumptions ≡ [] → Carries u.clauses P → (given rest : List Clause) → P ≡ given ++ rest → u.clauses ≡ given →
    (rest ≢ [] → c ≡ conclusion.Decided None) → (c ≡ conclusion.Decided None → IsRefuted by_state format u) →
    taken back ≡ record { bytes = (taken target).bytes ++ bytes; faults = (taken target).faults } → IsProven format P c (taken target) (taken back)
proven-bytes taken format target back u bytes P c e h has unassumed carries given rest begins joined whole none same =
    let b = has (record (first_proof format (taken target)) { bytes = bytes; searched = true }) e in
    record {
      logged = u.logged;
      bytes = ap (λ (x : Taken). x.bytes) same ∙ ap (λ xs. (taken target).bytes ++ xs) (b.written ∙ ap (logged_bytes format) (b.plain h));
      faults = ap (λ (x : Taken). x.faults) same;
      in_range = b.in_range h;
      derives = carries.derives (lines_of u.logged) (b.derives h);
      refutes = λ n. carries.refutes (lines_of u.logged) (b.refutes h (none n));
      plain = λ n. plain-bytes format n u.logged;
      given = given;
      rest = rest;
      begins = begins;
      whole = whole;
      marked = let m = b.marked h in
          record {
            after = m.after;
            takes = m.takes;
            inputs = m.inputs ∙ joined;
            assumed = m.assumed ∙ unassumed;
            cores = m.cores;
            refutes = λ n. m.refutes (none n);
          };
    }

pub proven : {W : Type 0} (taken : W → Taken) (format : ProofFormat) (check : Bool) (limit : Option ℕ) (old new : Input) (target back : Option W) (t u : State)
    (c : Conclusion) (opened : Option OpenState) → AddsDimacs (prepared taken format check limit target) old done new t → Concludes t c u →
    IsProofIfOpen by_state u → opened ≡ opened_state u.proof → IsClosed {E = SolverError} taken opened (Ok back) →
    DecidesProven taken format (allowed_steps limit) old new target back c
proven {W = W} taken format check limit old new target back t u c opened adds finds has is closed =
    let s = prepared taken format check limit target in
    let (d, carries) = found check (unsearched taken format target) limit old new s t (prepared-begun taken format check limit target) adds c u finds in
    record {
      decides = d;
      proven = go target back adds (dimacs d.text).clauses carries (λ text same. ap (λ xs. (dimacs xs).clauses)
          (append_cancel_left old.given d.text text (sym d.reads.gave ∙ same)))
          (subst (λ o. IsClosed {E = SolverError} taken o (Ok back)) is closed);
    }
  where
    go : (target back : Option W) → AddsDimacs (prepared taken format check limit target) old done new t → (P : List Clause) → Carries t.clauses P →
        ((text : List ℕ) → new.given ≡ old.given ++ text → P ≡ (dimacs text).clauses) →
        IsClosed {E = SolverError} taken (opened_state u.proof) (Ok back) → IsProvenIf taken format P c target back
    go None back adds P carries same closed =
        let k = keeps-text (prepared taken format check limit None) t old new adds in
        let a = asks t u c finds in
        closed-none taken back (subst (λ o. IsClosed {E = SolverError} taken (opened_state o) (Ok back))
        (none-at-end None t.proof u.proof refl k.proof a.proof) closed)
    go (Some target) back adds P carries same closed =
        let k = keeps-text (prepared taken format check limit (Some target)) t old new adds in
        let a = asks t u c finds in
        let (bytes, e) = open-at-end (first_proof format (taken target)) (Some (first_proof format (taken target))) t.proof u.proof refl k.proof a.proof in
        let h = a.hidden ∙ k.hidden in
        let (text, gave, first) = first-of-text 0 (prepared taken format check limit (Some target)) t old new none-in-order adds in
        let f = subst (λ Q. AreFirst Q (prepared taken format check limit (Some target)) t) (sym (same text gave)) first in
        there target back bytes P e h (a.assumptions ∙ k.assumptions) k.assumptions (subst (λ Q. Carries Q P) (sym a.clauses) carries) f
        (subst (λ o. IsClosed {E = SolverError} taken (opened_state o) (Ok back)) e closed)
      where
        there : (target : W) (back : Option W) (bytes : List ℕ) (P : List Clause) →
            u.proof ≡ Some (record (first_proof format (taken target)) { bytes = bytes; searched = true }) → u.ever_hidden ≡ false → u.assumptions ≡ [] →
            t.assumptions ≡ [] → Carries u.clauses P → AreFirst P (prepared taken format check limit (Some target)) t →
            IsClosed {E = SolverError} taken (opened_state (Some (record (first_proof format (taken target)) { bytes = bytes; searched = true })))
            (Ok back) → IsProvenIf taken format P c (Some target) back
        there target None bytes P e h unassumed before carries f closed = absurd closed
        there target (Some back) bytes P e h unassumed before carries f closed =
            proven-bytes taken format target back u bytes P c e h has unassumed carries f.given f.rest f.begins
            ((asks t u c finds).clauses ∙ f.joined) (λ some. finds-refuted t u c finds (f.refuted some)) (finds-none t u c format finds before) closed

-- 4. Errors.

pub fails-reported : (A : Type 0) {W : Type 0} (taken : W → Taken) (s : State) (old new : Input) (t u : State) (e : SolverError) →
    AddsDimacs s old done new t → Reports {A = A} t (Err e) u → Fails taken s old new e
fails-reported A taken s old new t u OutOfMemory a (inl f) = AsSearched t u a f (λ e. cc)
fails-reported A taken s old new t u OutOfMemory a (inr f) = AsListed t u a f refl
fails-reported A taken s old new t u Interrupted a f = absurd f
fails-reported A taken s old new t u (ProofIoError cause) a f = AsSearched t u a f (λ e. cc)
fails-reported A taken s old new t u Invalid a f = AsSearched t u a f (λ e. cc)
fails-reported A taken s old new t u ClauseStoreFull a f = AsSearched t u a f (λ e. cc)
fails-reported A taken s old new t u (WitnessVar v) a f = AsSearched t u a f (λ e. cc)
fails-reported A taken s old new t u VariableLimit a f = AsSearched t u a f (λ e. cc)
fails-reported A taken s old new t u (AssumedVar v) a f = AsSearched t u a f (λ e. cc)
fails-reported A taken s old new t u ClauseAfterSolve a f = AsSearched t u a f (λ e. cc)
fails-reported A taken s old new t u ProofOpen a f = AsSearched t u a f (λ e. cc)
fails-reported A taken s old new t u ProofTooLate a f = AsSearched t u a f (λ e. cc)
fails-reported A taken s old new t u (ConfigOutOfRange field) a f = AsSearched t u a f (λ e. cc)
fails-reported A taken s old new t u (Dimacs cause) a f = AsSearched t u a f (λ e. cc)
