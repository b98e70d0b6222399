-- What an accepted clause, and an assumed list, does to what was logged and to an open proof.
use Rattle.std.proofs.Common.{◌≡◌, ℕ, true, Option, List, [], ◌∷◌, ◌++◌, refl, sym, ◌∙◌}
use Rattle.varisat_theory.specs.promises.Literals.{Clause, Literal}
use Rattle.varisat_theory.specs.promises.Journals.{Entry, Accepts, Assumes}
use Rattle.varisat_proof.specs.promises.Proving.{OpenState, ProofParts}
use Rattle.varisat_solver.specs.inside.Accepted.{identity_literals}
use Rattle.varisat_solver.specs.promises.Calls.{with_naming, start, VerdictAfter, append_clause, with_assumptions, TakesAssumed, by_state}
use Rattle.varisat_solver.specs.promises.Journals.{with_entries, LogsStaying, LogsToProof}
use Rattle.varisat_solver.specs.promises.Names.{name_all}
use Rattle.varisat_solver.specs.promises.OpenProofs.{ProofFits, BarsAssumptions}
use Rattle.varisat_solver.specs.inside.Spaces.{Spaces, KeepVariables, SpacesFit}
use Rattle.varisat_solver.specs.promises.States.{State, with_variables, Verdict, FlagsFit}
use Rattle.varisat_solver.proofs.accepting.AcceptClause.{ledger-free, proof-free, words-free}
use Rattle.varisat_solver.proofs.calls.CallStates.{flags-started, like-logged, flags-assumed}
use Rattle.varisat_solver.proofs.entries.OpenProofs.{proof-goes-on, lines-of-entries, lines-accepted, written-alike, barred-before, lines-assumed}
use Rattle.varisat_solver.proofs.entries.LoggedEntries.{stays-nothing}
use Rattle.varisat_solver.specs.promises.Calls as call

-- A clause was accepted: the state that the solver represents then.

-- The spaces stand for a state in which the clause is accepted, and the open proof fits it, and so do the words of the clause store.
pub record ClauseJoins (s : State) (d : Clause) (after : Spaces) (opened : Option OpenState) (words : ℕ) : Type 0 where
  pub state : State
  pub accepts : call.Accepts call.by_state s d state
  pub ledger : state.ledger ≡ record s.ledger { started = true; since = 0 }
  pub size : state.words ≡ words
  pub fits : SpacesFit after state
  pub proof : ProofFits opened state.variables state.logged state.proof
  pub flags : FlagsFit s → FlagsFit state

pub clause-joins : (s : State) (d : Clause) (before after : Spaces) (p q : ProofParts) (v : Verdict) (logged : List Entry) (variables : ℕ → Option ℕ)
    (words : ℕ) → SpacesFit before s → ProofFits p.opened s.variables s.logged s.proof → VerdictAfter s.clauses (identity_literals s d) s.verdict v →
    LogsStaying 0 (s.logged ++ Accepts (identity_literals s d) ∷ []) logged → KeepVariables s.naming.made s.variables variables →
    LogsToProof variables s.logged logged p q → SpacesFit after
    (with_variables variables (with_entries logged (append_clause (identity_literals s d) v (with_naming (name_all d s.naming) s)))) →
    ClauseJoins s d after q.opened words
clause-joins s d before after p q v logged variables words (w, k) fitted verdict more keep proof (x, l) =
    let c = identity_literals s d in
    let alike = written-alike w before s k variables keep in
    let u = append_clause c v (with_naming (name_all d s.naming) s) in
    let (now, grows, goes) = proof-goes-on p q s.variables variables s.logged logged s.proof fitted alike proof in
    let same = lines-accepted variables s.logged c ∙ lines-of-entries s.variables variables s.logged alike ∙ sym (lines-accepted s.variables s.logged c) in
    let t = record (with_entries logged u) { variables = variables; proof = now; words = words } in
    record {
      state = start t;
      accepts = (v, verdict, like-logged (start u) logged variables now words more same grows);
      ledger = refl;
      size = refl;
      fits = (
        x,
        ledger-free x after t (record t.ledger { started = true; since = 0 })
            (words-free x after (record (with_entries logged u) { variables = variables; proof = now }) words
            (proof-free x after (with_variables variables (with_entries logged u)) now l)),
      );
      proof = goes;
      flags = λ f. flags-started s (start t) f refl refl grows;
    }

-- A list of assumptions was accepted: the state that the solver represents then.

-- The spaces stand for a state in which the list is assumed, and the open proof fits it, and so do the words of the clause store.
pub record ListJoins (s : State) (list : List Literal) (after : Spaces) (opened : Option OpenState) (words : ℕ) : Type 0 where
  pub state : State
  pub takes : TakesAssumed by_state s list state
  pub ledger : state.ledger ≡ record s.ledger { started = true; since = 0 }
  pub size : state.words ≡ words
  pub fits : SpacesFit after state
  pub proof : ProofFits opened state.variables state.logged state.proof
  pub flags : FlagsFit state

pub list-joins : (s : State) (list : List Literal) (before after : Spaces) (p q : ProofParts) (variables : ℕ → Option ℕ) (words : ℕ) →
    SpacesFit before s → ProofFits p.opened s.variables s.logged s.proof → (BarsAssumptions s.proof → ⊥) → KeepVariables s.naming.made s.variables variables →
    LogsToProof variables s.logged (s.logged ++ Assumes (identity_literals s list) ∷ []) p q → SpacesFit after
    (with_variables variables (with_entries (s.logged ++ Assumes (identity_literals s list) ∷ [])
    (with_assumptions (identity_literals s list) (with_naming (name_all list s.naming) s)))) → ListJoins s list after q.opened words
list-joins s list before after p q variables words (w, k) fitted free keep proof (x, l) =
    let c = identity_literals s list in
    let logged : List Entry = s.logged ++ Assumes c ∷ [] in
    let alike = written-alike w before s k variables keep in
    let u = with_assumptions c (with_naming (name_all list s.naming) s) in
    let (now, grows, goes) = proof-goes-on p q s.variables variables s.logged logged s.proof fitted alike proof in
    let same = lines-assumed variables s.logged c ∙ lines-of-entries s.variables variables s.logged alike ∙ sym (lines-assumed s.variables s.logged c) in
    let t = record (with_entries logged u) { variables = variables; proof = now; words = words } in
    record {
      state = start t;
      takes = like-logged (start (with_entries logged u)) logged variables now words (stays-nothing logged) same grows;
      ledger = refl;
      size = refl;
      fits = (
        x,
        ledger-free x after t (record t.ledger { started = true; since = 0 })
            (words-free x after (record (with_entries logged u) { variables = variables; proof = now }) words
            (proof-free x after (with_variables variables (with_entries logged u)) now l)),
      );
      proof = goes;
      flags = flags-assumed (start t) refl (λ b. free (barred-before s.proof now grows b));
    }
