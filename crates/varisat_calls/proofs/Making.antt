-- How the calls of a caller are those of its solver.
use Rattle.std.proofs.Common.{◌≡◌, ◌↔◌, ℕ, ℤ, pos, ◌≤ℤ◌, Bool, true, IsTrue, Option, Some, None, List, [], Result, Ok, Err, map, refl, sym, ap, subst, ◌∙◌}
use Rattle.std.specs.declared.alloc.AllocError.{AllocError}
use Rattle.varisat_theory.specs.promises.Membership.{◌∈◌}
use Rattle.varisat_theory.specs.promises.Literals.{Literal, Clause}
use Rattle.varisat_literals.specs.promises.Numbers.{literal_numbered, variable_numbered}
use Rattle.varisat_formula.specs.promises.Rest.{Progress}
use Rattle.varisat_formula.specs.promises.Streams.{Taken, no_bytes}
use Rattle.varisat_names.specs.promises.Settings.{update_of}
use Rattle.varisat_names.specs.declared.config.ConfigField.{ConfigField}
use Rattle.varisat_names.specs.declared.config.SolverConfigUpdate.{SolverConfigUpdate}
use Rattle.varisat_names.specs.declared.variables.data.SamplingMode.{SamplingMode}
use Rattle.varisat_lines.specs.declared.format.ProofFormat.{ProofFormat}
use Rattle.varisat_solver.specs.promises.States.{State}
use Rattle.varisat_solver.specs.promises.Summaries.{Summary}
use Rattle.varisat_solver.specs.promises.Fixed.{HasFixed}
use Rattle.varisat_solver.specs.inside.Representations.{Represents}
use Rattle.varisat_solver.specs.promises.Represented.{LeadsRepresented}
use Rattle.varisat_solver.specs.promises.Calls.{Solves, Configures, ReturnsFixed, SetsPhase, by_state}
use Rattle.varisat_solver.specs.promises.ClauseCalls.{AddsFormula}
use Rattle.varisat_solver.specs.promises.ProofCalls.{OpensProof}
use Rattle.varisat_solver.specs.promises.Usage.{Observes, ChangesMode}
use Rattle.varisat_solver.specs.promises.Refusals.{refusal_number}
use Rattle.varisat_solver.specs.declared.solver.SolverError.TheVariants as error
use Rattle.varisat_solver.specs.declared.solver.SolverError.{SolverError}
use Rattle.varisat_calls.specs.Numbers.{returned_numbers, returned_names}
use Rattle.varisat_calls.specs.Codes.{answer_number}
use Rattle.varisat_calls.specs.Callers.{Caller, DoneOrRefused, SolverMakes, MakesNumbered, MakesOver, Made, over, SetsField, SetsModeNumbered, changing, SetsPhaseNumbered, setting_phase, TellsFixed, Fixed, ReturnsListOf, Returned, ShowsHidden, ShowsNames, NoRoom, OpensFormat, Opened, Refused, opening_proof}
use Rattle.varisat_calls.specs.Texts.{ReadsFurther, AddsClauses, AddsEndedClauses, GoesOn, without_clauses}

-- 1. Calls with an answer.

-- A call was made that left the caller as `mid`, which is kept.
pub made : {X : Type 0} (R : State → X → State → Type 0) (g mid h : Caller) (answer : X) → h ≡ mid →
    LeadsRepresented g.solver (λ s t. R s answer t) mid.solver → mid ≡ record g { solver = mid.solver } → SolverMakes R g answer h
made R g mid h answer same call rest = subst (λ x. SolverMakes R g answer x) (sym same) (record { call = call; rest = rest })

-- so it was over the literals of the numbers
pub call-over : (numbers : List ℤ) (lits : List Literal) (R : State → List Literal → DoneOrRefused → State → Type 0) (g mid h : Caller)
    (n : ℕ) (answer : DoneOrRefused) → (pos 0 ∈ numbers → ⊥) → lits ≡ map literal_numbered numbers → n ≡ answer_number answer → h ≡ mid →
    LeadsRepresented g.solver (λ s t. R s lits answer t) mid.solver → mid ≡ record g { solver = mid.solver } → MakesOver numbers R g n h
call-over numbers lits R g mid h n answer absent own number same call rest =
    Made absent (
      answer,
      number,
      made (over numbers R) g mid h answer same (subst (λ ls. LeadsRepresented g.solver (λ s t. R s ls answer t) mid.solver) own call) rest,
    )

-- a setting was set
pub configured : (field : ConfigField) (value : ℕ) (update : SolverConfigUpdate) (g mid h : Caller) (n : ℕ) (answer : DoneOrRefused) →
    update ≡ update_of field value → n ≡ answer_number answer → h ≡ mid →
    LeadsRepresented g.solver (λ s t. Configures s update answer t) mid.solver → mid ≡ record g { solver = mid.solver } →
    MakesNumbered (λ s r t. Configures s (update_of field value) r t) g n h
configured field value update g mid h n answer is number same call rest =
    let sets = subst (λ u. LeadsRepresented g.solver (λ s t. Configures s u answer t) mid.solver) is call in
    (answer, number, made (λ s r t. Configures s (update_of field value) r t) g mid h answer same sets rest)

-- so was that of the number
pub field-set : (found : Option ConfigField) (field : ConfigField) (value : ℕ) (g h : Caller) (n : ℕ) → Some field ≡ found →
    MakesNumbered (λ s r t. Configures s (update_of field value) r t) g n h → SetsField found value g n h
field-set found field value g h n is sets = subst (λ o. SetsField o value g n h) is sets

-- a variable's mode was set
pub mode-set : (variable : ℤ) (found : Option SamplingMode) (mode : SamplingMode) (u : ℕ) (g mid h : Caller) (n : ℕ) (answer : DoneOrRefused) →
    Some mode ≡ found → pos 1 ≤ℤ variable → u ≡ variable_numbered variable → n ≡ answer_number answer → h ≡ mid →
    SolverMakes (λ s r t. ChangesMode mode s u r t) g answer mid → SetsModeNumbered variable found g n h
mode-set variable found mode u g mid h n answer is positive named number same makes =
    let changes = subst (λ (v : ℕ). SolverMakes (λ s r t. ChangesMode mode s v r t) g answer mid) named makes in
    Made mode (sym is) positive (answer, number, subst (λ x. SolverMakes (changing mode variable) g answer x) (sym same) changes)

-- the phase is set to the literal of the number
pub phase-set : (number : ℤ) (l : Literal) (g mid h : Caller) (n : ℕ) (answer : DoneOrRefused) → (number ≡ pos 0 → ⊥) → l ≡ literal_numbered number →
    n ≡ answer_number answer → h ≡ mid → LeadsRepresented g.solver (λ s t. SetsPhase s l answer t) mid.solver → mid ≡ record g { solver = mid.solver } →
    SetsPhaseNumbered number g n h
phase-set number l g mid h n answer some named is same call rest =
    let sets = subst (λ (m : Literal). LeadsRepresented g.solver (λ s t. SetsPhase s m answer t) mid.solver) named call in
    Made some (answer, is, made (setting_phase number) g mid h answer same sets rest)

-- the literal of the number is fixed, as the solver says
pub fixed-told : (number : ℤ) (l : Literal) (b : Bool) (g : Caller) → (number ≡ pos 0 → ⊥) → l ≡ literal_numbered number → b ≡ true →
    IsTrue b ↔ HasFixed g.solver l → LeadsRepresented g.solver (λ s t. ReturnsFixed s l b t) g.solver → TellsFixed number g 1
fixed-told number l b g some named e exact call =
    let told = subst (λ (x : Bool). LeadsRepresented g.solver (λ s t. ReturnsFixed s l x t) g.solver) e call in
    Fixed some refl (subst (λ m. HasFixed g.solver m) named (exact.0 e))
    (subst (λ (m : Literal). LeadsRepresented g.solver (λ s t. ReturnsFixed s m true t) g.solver) named told)

-- 2. Lists that are returned.

-- the list is returned that the solver returned
pub list-returned : (R : State → Result (Option (List Literal)) AllocError → State → Type 0) (g h : Caller) (list : List Literal) →
    LeadsRepresented g.solver (λ s t. R s (Ok (Some list)) t) h.solver → h.returned ≡ returned_numbers list → h ≡ record g { returned = h.returned } →
    ReturnsListOf R g 0 h
list-returned R g h list call returned rest =
    Returned list refl call (rest ∙ ap (λ ts. let made : Caller = record g { returned = ts } in made) returned)

-- the names are returned under which hidden variables came back
pub names-returned : (g h : Caller) (us : List ℕ) → ShowsNames us g h → h.returned ≡ returned_names us →
    h ≡ record g { solver = h.solver; returned = h.returned } → ShowsHidden g 0 h
names-returned g h us shows returned rest =
    Returned us refl shows (rest ∙ ap (λ ts. let made : Caller = record g { solver = h.solver; returned = ts } in made) returned)

-- or there was no room for them
pub no-room : (g h : Caller) (after : Summary) (us : List ℕ) (n : ℕ) → n ≡ 3 → h ≡ record g { solver = after; returned = [] } →
    LeadsRepresented g.solver (λ s t. Observes s (Ok us) t) after → ShowsHidden g n h
no-room g h after us n number same shows = subst (λ x. ShowsHidden g n x) (sym same) (NoRoom us number shows refl)

-- 3. Proofs.

-- the target that comes back has no bytes
back-empty : (f : ProofFormat) (target back : Taken) (e : SolverError) (s t : State) →
    OpensProof {W = Taken} (λ w. w) target f s (Err (e, back)) t → opening_proof f s (Err (e, no_bytes)) t
back-empty f target back error.Interrupted s t o = absurd o
back-empty f target back (error.ProofIoError x) s t o = absurd o
back-empty f target back error.OutOfMemory s t o = absurd o
back-empty f target back error.Invalid s t o = (refl, o.1)
back-empty f target back error.ClauseStoreFull s t o = absurd o
back-empty f target back (error.WitnessVar x) s t o = absurd o
back-empty f target back error.VariableLimit s t o = absurd o
back-empty f target back (error.AssumedVar x) s t o = absurd o
back-empty f target back error.ClauseAfterSolve s t o = absurd o
back-empty f target back error.ProofOpen s t o = (refl, o.1, o.2, o.3)
back-empty f target back error.ProofTooLate s t o = (refl, o.1, o.2, o.3, o.4)
back-empty f target back (error.ConfigOutOfRange x) s t o = absurd o
back-empty f target back (error.Dimacs x) s t o = absurd o

-- a proof opened for the target, which has no bytes
pub proof-opened : (format : Option ProofFormat) (f : ProofFormat) (target : Taken) (g h : Caller) → format ≡ Some f → target ≡ no_bytes →
    LeadsRepresented g.solver (λ s t. OpensProof {W = Taken} (λ w. w) target f s (Ok tt) t) h.solver → h ≡ record g { solver = h.solver } →
    OpensFormat format g 0 h
proof-opened format f target g h is new call rest =
    let opens = subst (λ w. LeadsRepresented g.solver (λ s t. OpensProof {W = Taken} (λ w. w) w f s (Ok tt) t) h.solver) new call in
    Opened f is refl (record { call = opens; rest = rest })

-- or it was refused
pub proof-refused : (format : Option ProofFormat) (f : ProofFormat) (target back : Taken) (e : SolverError) (g mid h : Caller) (n : ℕ) →
    format ≡ Some f → n ≡ refusal_number e → h ≡ mid →
    LeadsRepresented g.solver (λ s t. OpensProof {W = Taken} (λ w. w) target f s (Err (e, back)) t) mid.solver →
    mid ≡ record g { solver = mid.solver } → OpensFormat format g n h
proof-refused format f target back e g mid h n is number same call rest =
    Refused f e is number (made (opening_proof f) g mid h (Err (e, no_bytes)) same
    (λ s st. let (t, opens, stands) = call s st in (t, back-empty f target back e s t opens, stands)) rest)

-- 4. Texts.

-- clauses were added that were read
pub clauses-added : (read : Progress) (clauses : List Clause) (answer : DoneOrRefused) (g h : Caller) → clauses ≡ read.reading.clauses →
    LeadsRepresented g.solver (λ s t. AddsFormula s clauses answer t) h.solver → h ≡ record g { solver = h.solver } →
    AddsClauses read answer g.text g h
clauses-added read clauses answer g h own call rest =
    record { call = subst (λ cs. LeadsRepresented g.solver (λ s t. AddsFormula s cs answer t) h.solver) own call; rest = rest }

-- what a caller read behind its text
pub read-behind : (piece : List ℕ) (begun from read : Progress) → begun ≡ from → ReadsFurther begun piece read → ReadsFurther from piece read
read-behind piece begun from read is reads = subst (λ p. ReadsFurther p piece read) is reads

-- the clauses were added to a caller whose text was taken
pub text-taken : (read : Progress) (answer : DoneOrRefused) (g mid last h : Caller) → mid ≡ record g { text = None } →
    AddsClauses read answer mid.text mid last → h ≡ last → AddsClauses read answer None g h
text-taken read answer g mid last h taken adds same =
    let kept : Caller → Caller = λ x. record x { solver = last.solver } in
    subst (λ x. AddsClauses read answer None g x) (sym same)
    (record {
      call = subst (λ x. LeadsRepresented x (λ s t. AddsFormula s read.reading.clauses answer t) last.solver) (ap (λ x. x.solver) taken) adds.call;
      rest = adds.rest ∙ ap kept taken;
    })

-- and then the text goes on
pub text-goes-on : (read left : Progress) (g mid last h : Caller) → mid ≡ record g { text = None } →
    AddsClauses read (Ok tt) mid.text mid last → read.reading.fault ≡ None → left ≡ without_clauses read →
    h ≡ record last { text = Some left } → AddsEndedClauses read g 0 h
text-goes-on read left g mid last h taken adds fine behind rest =
    let begun = text-taken read (Ok tt) g mid last last taken adds refl in
    let on : Caller → Caller = λ x. record x { text = Some left } in
    let goes : Progress → Caller = λ p. record g { solver = last.solver; text = Some p } in
    let is : h ≡ record g { solver = last.solver; text = Some (without_clauses read) } = rest ∙ (ap on begun.rest ∙ ap goes behind) in
    GoesOn fine refl (subst (λ x. AddsClauses read (Ok tt) (Some (without_clauses read)) g x) (sym is) (record { call = begun.call; rest = refl }))

-- 5. Searches.

-- `solve` is never refused by the number of an answer
pub never-ten : (g h : Summary) (e : SolverError) → refusal_number e ≡ 10 → LeadsRepresented g (λ s t. Solves by_state s (Err e) t) h → (s : State) → Represents g s → ⊥
never-ten g h error.Interrupted n call s st = absurd cc
never-ten g h (error.ProofIoError x) n call s st = absurd cc
never-ten g h error.OutOfMemory n call s st = absurd cc
never-ten g h error.Invalid n call s st = absurd cc
never-ten g h error.ClauseStoreFull n call s st = absurd cc
never-ten g h (error.WitnessVar x) n call s st = absurd cc
never-ten g h error.VariableLimit n call s st = absurd cc
never-ten g h (error.AssumedVar x) n call s st = absurd cc
never-ten g h error.ClauseAfterSolve n call s st = absurd cc
never-ten g h error.ProofOpen n call s st = let (t, never, stands) = call s st in never
never-ten g h error.ProofTooLate n call s st = absurd cc
never-ten g h (error.ConfigOutOfRange x) n call s st = absurd cc
never-ten g h (error.Dimacs x) n call s st = absurd cc

pub never-twenty : (e : SolverError) → refusal_number e ≡ 20 → ⊥
never-twenty error.Interrupted n = absurd cc
never-twenty (error.ProofIoError x) n = absurd cc
never-twenty error.OutOfMemory n = absurd cc
never-twenty error.Invalid n = absurd cc
never-twenty error.ClauseStoreFull n = absurd cc
never-twenty (error.WitnessVar x) n = absurd cc
never-twenty error.VariableLimit n = absurd cc
never-twenty (error.AssumedVar x) n = absurd cc
never-twenty error.ClauseAfterSolve n = absurd cc
never-twenty error.ProofOpen n = absurd cc
never-twenty error.ProofTooLate n = absurd cc
never-twenty (error.ConfigOutOfRange x) n = absurd cc
never-twenty (error.Dimacs x) n = absurd cc
