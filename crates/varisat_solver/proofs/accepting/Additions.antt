-- Texts whose clauses are added.
use Rattle.std.proofs.Common.{◌≡◌, inl, inr, List, [], ◌∷◌, ◌++◌, Result, Ok, Err, refl, sym, ap, subst, ◌∙◌, ◌⊎◌}
use Rattle.std.specs.Result.{IsErr, IsErrAnd}
use Rattle.varisat_theory.specs.promises.Literals.{Clause}
use Rattle.varisat_solver.specs.promises.States.{State}
use Rattle.varisat_solver.specs.promises.Additions.{AddsAll, ClauseRefused, Read, RefusedEarly}
use Rattle.varisat_solver.specs.promises.Calls.{IsValid, Ignored, Accepted, AddsClause, by_state}
use Rattle.varisat_solver.specs.declared.solver.SolverError.{SolverError}
use Rattle.varisat_solver.proofs.calls.CallStates.{same-ledger}
use Rattle.varisat_formula.specs.promises.Dimacs.{Reading}
use Rattle.varisat_formula.specs.promises.Streams.{Input}
use Rattle.varisat_formula.specs.promises.Parsed.{GivesReading}
use Rattle.varisat_formula.specs.promises.TakenTexts.{GivesFirst, TakesInTurn, InOne, InMore}
use Rattle.varisat_solver.specs.promises.ClauseCalls.{AddsDimacs}
use Rattle.varisat_solver.specs.promises.Summaries.{Summary}
use Rattle.varisat_solver.specs.inside.TextCalls.{TakesClauses}
use Rattle.varisat_solver.proofs.entries.Targets.{writes-then}

-- Clauses that are added in turn.

-- more clauses behind those that were accepted
pub adds-more : (s mid t : State) (P Q : List Clause) (r : Result (Unit {0}) SolverError) → AddsAll by_state s P (Ok tt) mid →
    AddsAll by_state mid Q r t → AddsAll by_state s (P ++ Q) r t
adds-more s mid t [] Q r a b = subst (λ x. AddsAll by_state x Q r t) a.1 b
adds-more s mid t (c ∷ P) Q r (inl (u, a, rest)) b = inl (u, a, adds-more u mid t P Q r rest b)
adds-more s mid t (c ∷ P) Q r (inr (e, k, a)) b = absurd cc

-- the clause behind them decides
pub adds-last : (s mid t : State) (P : List Clause) (c : Clause) → AddsAll by_state s P (Ok tt) mid → AddsClause mid c (Ok tt) t →
    AddsAll by_state s (P ++ c ∷ []) (Ok tt) t
adds-last s mid t P c a b = adds-more s mid t P (c ∷ []) (Ok tt) a (inl (t, b, (refl, refl)))

-- the clauses behind a refused one don't count
pub adds-refused : (s mid t : State) (P Q : List Clause) (c : Clause) (e : SolverError) → AddsAll by_state s P (Ok tt) mid → AddsClause mid c (Err e) t →
    AddsAll by_state s (P ++ c ∷ Q) (Err e) t
adds-refused s mid t P Q c e a b = adds-more s mid t P (c ∷ Q) (Err e) a (inr (e, refl, b))

-- an error that is handed on as it is
pub logged-error : {X E : Type 0} (r : Result X E) (e : E) → IsErr r × IsErrAnd r (λ x. x ≡ e) → r ≡ Err e
logged-error (Ok x) e (a, b) = absurd cc
logged-error (Err x) e (a, b) = ap Err b

-- clauses behind a refused one don't count
pub adds-longer : (s t : State) (P Q : List Clause) (e : SolverError) → AddsAll by_state s P (Err e) t → AddsAll by_state s (P ++ Q) (Err e) t
adds-longer s t [] Q e a = absurd cc
adds-longer s t (c ∷ P) Q e (inl (u, a, rest)) = inl (u, a, adds-longer u t P Q e rest)
adds-longer s t (c ∷ P) Q e (inr a) = inr a

-- accepted clauses leave the state valid
clause-valid : (s t : State) (c : Clause) → AddsClause s c (Ok tt) t → IsValid t
clause-valid s t c (v, Ignored n e) = subst IsValid (sym e) v
clause-valid s t c (v, Accepted n p (w, k, e)) = ap (λ x. x.valid) (same-ledger e) ∙ v

pub adds-valid : (s t : State) (P : List Clause) → IsValid s → AddsAll by_state s P (Ok tt) t → IsValid t
adds-valid s t [] v a = subst IsValid (sym a.1) v
adds-valid s t (c ∷ P) v (inl (u, a, rest)) = adds-valid u t P (clause-valid s u c a) rest
adds-valid s t (c ∷ P) v (inr (e, k, a)) = absurd cc

pub takes-in-turn : (g h : Summary) (clauses : List Clause) (r : Result (Unit {0}) SolverError) → TakesInTurn TakesClauses g clauses r h →
    TakesClauses g clauses r h
takes-in-turn g h clauses r (InOne k) = k
takes-in-turn g h clauses r (InMore first rest mid e k more) =
    let m = takes-in-turn mid h rest r more in
    subst (λ P. TakesClauses g P r h) e
    (record {
      target = writes-then _ _ _ r k.target m.target;
      full = m.full;
      call = λ s st.
          let (u, a, w) = k.call s st in
          let (t, b, z) = m.call u w in
          (t, adds-more s u t first rest r a b, z);
    })

pub text-refused : (s t : State) (old new : Input) (clauses : List Clause) (e : SolverError) → IsValid s →
    ((R : Reading) × GivesReading old R new × (R.clauses ≡ clauses)) ⊎ GivesFirst old clauses new → AddsAll by_state s clauses (Err e) t →
    AddsDimacs s old (Err e) new t
text-refused s t old new clauses e v (inl (R, g, i)) a = Read v R g (ClauseRefused e refl (subst (λ P. AddsAll by_state s P (Err e) t) (sym i) a))
text-refused s t old new clauses e v (inr g) a = RefusedEarly v clauses g e refl a
