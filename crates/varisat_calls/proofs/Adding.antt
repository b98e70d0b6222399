-- How a clause grows that is given a literal at a time, and what comes at its end.
use Rattle.std.proofs.Common.{◌≡◌, ℕ, ℤ, pos, Bool, false, Some, List, [], ◌∷◌, ◌++◌, refl, ap, subst, ◌∙◌}
use Rattle.varisat_theory.specs.promises.Literals.{Literal}
use Rattle.varisat_literals.specs.promises.Numbers.{literal_numbered}
use Rattle.varisat_solver.specs.promises.Represented.{LeadsRepresented}
use Rattle.varisat_solver.specs.promises.Calls.{AddsClause}
use Rattle.varisat_calls.specs.Codes.{answer_number}
use Rattle.varisat_calls.specs.Callers.{Caller, DoneOrRefused, clause_unless_lost, giving_clause, PutsNumber, Put, Ended}
use Rattle.varisat_calls.proofs.Making.{made}

-- a literal was put behind the clause
pub clause-put : (number : ℤ) (g h : Caller) (lost : Bool) (c items : List Literal) → (number ≡ pos 0 → ⊥) → lost ≡ false →
    g.clause ≡ clause_unless_lost lost c → items ≡ c ++ literal_numbered number ∷ [] → h ≡ giving_clause (clause_unless_lost lost items) g → PutsNumber number g 0 h
clause-put number g h lost c items other kept given put rest =
    let on : Bool → Caller = λ b. giving_clause (clause_unless_lost b items) g in
    let with : List Literal → Caller = λ ls. giving_clause (Some ls) g in
    Put c other (given ∙ ap (λ b. clause_unless_lost b c) kept) refl (rest ∙ (ap on kept ∙ ap with put))

-- the clause is given to the solver
pub clause-ended : (g mid h : Caller) (n : ℕ) (answer : DoneOrRefused) (lost : Bool) (c given left : List Literal) → lost ≡ false →
    g.clause ≡ clause_unless_lost lost c → given ≡ c → n ≡ answer_number answer → h ≡ mid → left ≡ [] →
    LeadsRepresented g.solver (λ s t. AddsClause s given answer t) mid.solver →
    mid ≡ record (giving_clause (clause_unless_lost lost left) g) { solver = mid.solver } → PutsNumber (pos 0) g n h
clause-ended g mid h n answer lost c given left is held own number same none call rest =
    let adds = subst (λ ls. LeadsRepresented g.solver (λ s t. AddsClause s ls answer t) mid.solver) own call in
    let on : Bool → Caller = λ b. record (giving_clause (clause_unless_lost b left) g) { solver = mid.solver } in
    let with : List Literal → Caller = λ ls. record (giving_clause (Some ls) g) { solver = mid.solver } in
    let kept = rest ∙ (ap on is ∙ ap with none) in
    Ended c refl (held ∙ ap (λ b. clause_unless_lost b c) is)
    (answer, number, made (λ s r t. AddsClause s c r t) (giving_clause (Some []) g) mid h answer same adds kept)
