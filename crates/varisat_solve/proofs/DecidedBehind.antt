-- What a new solver concludes of the clauses of a text's formula, or of those that this was made into, as a conclusion for the text.
use Rattle.std.proofs.Common.{◌≡◌, ℕ, ◌^◌, ◌<◌, List, [], ◌∷◌, Bool, true, false, refl, sym, ap, ◌∙◌, subst, length, inl, inr, arith, Option, Some, None, Ok, Err}
use Rattle.varisat_theory.specs.promises.Membership.{◌∈◌}
use Rattle.varisat_theory.specs.promises.Literals.{Literal, Clause}
use Rattle.varisat_theory.specs.promises.Derivations.{Line}
use Rattle.varisat_literals.specs.promises.Numbers.{variable_limit}
use Rattle.varisat_formula.specs.promises.Dimacs.{Reading, dimacs}
use Rattle.varisat_formula.specs.promises.Formulas.{Formula, AllBelow, AreBelow}
use Rattle.varisat_formula.specs.promises.Parsed.{Parses, Whole}
use Rattle.varisat_formula.specs.promises.Streams.{Input, Taken}
use Rattle.varisat_formula.specs.promises.Written.{formula_text}
use Rattle.varisat_formula.proofs.ParsedSources.{gives_whole}
use Rattle.varisat_formula.proofs.WrittenTexts.{reads_back}
use Rattle.varisat_lines.specs.declared.format.ProofFormat.{ProofFormat}
use Rattle.varisat_lines.specs.promises.Lines.{has_marks}
use Rattle.varisat_proof.specs.promises.Proving.{OpenState, IsClosed}
use Rattle.varisat_simplify.specs.promises.Simplified.{IsMadeOf}
use Rattle.varisat_solver.specs.promises.States.{State}
use Rattle.varisat_solver.specs.promises.Additions.{AddsAll, AllAdded, OneRefused, RefusedAtOnce, Read, ClausesAdded, NoFault}
use Rattle.varisat_solver.specs.promises.Calls.{by_state}
use Rattle.varisat_solver.specs.promises.ClauseCalls.{AddsFormula, AddsDimacs}
use Rattle.varisat_solver.specs.promises.OpenProofs.{opened_state}
use Rattle.varisat_solver.specs.promises.ProofCalls.{IsProofIfOpen}
use Rattle.varisat.specs.promises.Decided.{Conclusion, IsConclusion, allowed_steps}
use Rattle.varisat.specs.promises.Proven.{prepared, Concludes, Reports, IsProvenIf, DecidesProven}
use Rattle.varisat_solver.specs.declared.solver.SolverError.{SolverError}
use Rattle.varisat_solver.specs.declared.solver.SolverError.TheVariants.{Interrupted, ProofIoError, OutOfMemory, Invalid, ClauseStoreFull, WitnessVar, VariableLimit, AssumedVar, ClauseAfterSolve, ProofOpen, ProofTooLate, ConfigOutOfRange, Dimacs}
use Rattle.varisat.proofs.ProgramProves.{proven}
use Rattle.varisat_solve.specs.promises.Extending.{named_count, conclusion_of_all}
use Rattle.varisat_solve.specs.promises.Solving.{TakesLead, AreLow, Concluded, FailsOver, AsSearched, AsListed}
use Rattle.varisat_solve.proofs.TextLiterals.{text-low}
use Rattle.varisat_solve.proofs.LeadBehind.{proven-behind}
use Rattle.varisat_solve.proofs.ExtendedModels.{concludes-all, none-of-all}

-- 1. Clauses as a text that gives them.
all-below : (c : Clause) → ((l : Literal) → l ∈ c → l < 2 ^ 29) → AllBelow variable_limit c
all-below [] h = tt
all-below (l ∷ c) h = let q = h l (inl refl) in (omega (arith, q), all-below c (λ m i. h m (inr i)))

are-below : (P : List Clause) → AreLow P → AreBelow variable_limit P
are-below [] h = tt
are-below (c ∷ P) h = (all-below c (λ l i. h c l (inl refl) i), are-below P (λ d l m i. h d l (inr m) i))

abbrev spelled : List Clause → List ℕ
spelled P = formula_text (record { var_count = variable_limit; clauses = P })

abbrev before : Input
before = record { given = []; left = None; pieces = 0; faults = 0; ended = false }

abbrev behind : List Clause → Input
behind P = record { given = spelled P; left = None; pieces = 0; faults = 0; ended = true }

adds-text : (s : State) (P : List Clause) (t : State) → AreLow P → length P < 2 ^ 64 → AddsFormula s P (Ok tt) t →
    AddsDimacs s before (Ok tt) (behind P) t × ((dimacs (spelled P)).clauses ≡ P)
adds-text s P t low few (AllAdded v mid a r e) =
    let back = reads_back (record { var_count = variable_limit; clauses = P }) (omega arith) few (are-below P low) in
    let same : (dimacs (spelled P)).clauses ≡ P = ap (λ (x : Reading). x.clauses) back in (
      Read v (dimacs (spelled P)) (Whole (spelled P) (record { gave = refl; consumed = tt; no_more = omega arith }) (record { reported = refl; at_end = tt }) refl refl)
          (ClausesAdded mid (subst (λ Q. AddsAll by_state s Q (Ok tt) mid) (sym same) a) (NoFault (ap (λ (x : Reading). x.fault) back) refl e)),
      same,
    )
adds-text s P t low few (OneRefused v e r a) = absurd cc
adds-text s P t low few (RefusedAtOnce r a) = absurd cc

-- 2. What the solver concludes of the clauses.
pub concluded-of : {W : Type 0} (taken : W → Taken) (format : ProofFormat) (check : Bool) (limit : Option ℕ) (P : List Clause) (target back : Option W)
    (t u : State) (c : Conclusion) (opened : Option OpenState) → AreLow P → length P < 2 ^ 64 →
    AddsFormula (prepared taken format check limit target) P (Ok tt) t → Concludes t c u → IsProofIfOpen by_state u → opened ≡ opened_state u.proof →
    IsClosed {E = SolverError} taken opened (Ok back) → Concluded taken format (allowed_steps limit) P target back c
concluded-of {W = W} taken format check limit P target back t u c opened low few adds finds has is closed =
    let (text, same) = adds-text (prepared taken format check limit target) P t low few adds in
    let d = proven taken format check limit before (behind P) target back t u c opened text finds has is closed in
    let gave : d.decides.text ≡ spelled P = sym d.decides.reads.gave in
    let clauses : (dimacs d.decides.text).clauses ≡ P = ap (λ x. (dimacs x).clauses) gave ∙ same in
    record {
      found = subst (λ Q. IsConclusion (allowed_steps limit) Q c) clauses d.decides.found;
      proven = subst (λ Q. IsProvenIf taken format Q c target back) clauses d.proven;
    }

-- 3. What that says of the text.
pub parsed-low : (old new : Input) (f : Formula) → Parses old (Ok f) new → AreLow f.clauses
parsed-low old new f p =
    let w = gives_whole old new p.reading p.gives p.tells.1 in
    subst AreLow (sym (ap (λ (x : Formula). x.clauses) p.tells.0 ∙ ap (λ (x : Reading). x.clauses) w.is)) (text-low w.text)

pub made-low : (f g : Formula) (stack : List Clause) (lines : List Line) → IsMadeOf f g stack lines → AreLow f.clauses → AreLow g.clauses
made-low f g stack lines made low c l m i = let (d, n, j) = made.named c l m i in low d l n j

led-proven : {W : Type 0} (taken : W → Taken) (format : ProofFormat) (f g : Formula) (stack : List Clause) (lines : List Line) (c d : Conclusion)
    (target led back : Option W) → has_marks format ≡ false → AreLow f.clauses → IsMadeOf f g stack lines →
    (d ≡ conclusion_of_all stack (named_count f.clauses) c) → TakesLead taken format target lines (Ok tt) led →
    IsProvenIf taken format g.clauses c led back → IsProvenIf taken format f.clauses d target back
led-proven taken format f g stack lines c d None led back plain low made e (r, n) p = subst (λ o. IsProvenIf taken format g.clauses c o back) n p
led-proven taken format f g stack lines c d (Some target) None back plain low made e h p = absurd h
led-proven taken format f g stack lines c d (Some target) (Some led) None plain low made e h p = absurd p
led-proven taken format f g stack lines c d (Some target) (Some led) (Some back) plain low made e h p =
    proven-behind format f g stack lines c d (taken target) (taken led) (taken back) plain low made
    (λ n. none-of-all stack (named_count f.clauses) c (sym e ∙ n)) h p

pub concluded-made : {W : Type 0} (taken : W → Taken) (format : ProofFormat) (max_steps : ℕ) (f g : Formula) (stack : List Clause) (lines : List Line)
    (n : ℕ) (c d : Conclusion) (target led back : Option W) → has_marks format ≡ false → AreLow f.clauses → IsMadeOf f g stack lines →
    n ≡ named_count f.clauses → d ≡ conclusion_of_all stack n c → TakesLead taken format target lines (Ok tt) led →
    Concluded taken format max_steps g.clauses led back c → Concluded taken format max_steps f.clauses target back d
concluded-made taken format max_steps f g stack lines n c d target led back plain low made is all takes k =
    let e = all ∙ ap (λ m. conclusion_of_all stack m c) is in
    record {
      found = subst (IsConclusion max_steps f.clauses) (sym e) (concludes-all max_steps f g stack lines c made k.found);
      proven = led-proven taken format f g stack lines c d target led back plain low made e takes k.proven;
    }

pub decides-parsed : {W : Type 0} (taken : W → Taken) (format : ProofFormat) (max_steps : ℕ) (old new : Input) (f : Formula) (c : Conclusion)
    (target back : Option W) → Parses old (Ok f) new → Concluded taken format max_steps f.clauses target back c →
    DecidesProven taken format max_steps old new target back c
decides-parsed taken format max_steps old new f c target back p k =
    let w = gives_whole old new p.reading p.gives p.tells.1 in
    let same : f.clauses ≡ (dimacs w.text).clauses = ap (λ (x : Formula). x.clauses) p.tells.0 ∙ ap (λ (x : Reading). x.clauses) w.is in
    record {
      decides = record {
        text = w.text;
        reads = w.reads;
        ended = w.ended;
        quiet = w.quiet;
        fine = ap (λ (x : Reading). x.fault) (sym w.is) ∙ p.tells.1;
        found = subst (λ Q. IsConclusion max_steps Q c) same k.found;
      };
      proven = subst (λ Q. IsProvenIf taken format Q c target back) same k.proven;
    }

-- 4. Errors.
pub fails-reported : (A : Type 0) {W : Type 0} (taken : W → Taken) (s : State) (P : List Clause) (t u : State) (e : SolverError) →
    AddsFormula s P (Ok tt) t → Reports {A = A} t (Err e) u → FailsOver taken s P e
fails-reported A taken s P t u OutOfMemory a (inl f) = AsSearched t u a f (λ e. cc)
fails-reported A taken s P t u OutOfMemory a (inr f) = AsListed t u a f refl
fails-reported A taken s P t u Interrupted a f = absurd f
fails-reported A taken s P t u (ProofIoError cause) a f = AsSearched t u a f (λ e. cc)
fails-reported A taken s P t u Invalid a f = AsSearched t u a f (λ e. cc)
fails-reported A taken s P t u ClauseStoreFull a f = AsSearched t u a f (λ e. cc)
fails-reported A taken s P t u (WitnessVar v) a f = AsSearched t u a f (λ e. cc)
fails-reported A taken s P t u VariableLimit a f = AsSearched t u a f (λ e. cc)
fails-reported A taken s P t u (AssumedVar v) a f = AsSearched t u a f (λ e. cc)
fails-reported A taken s P t u ClauseAfterSolve a f = AsSearched t u a f (λ e. cc)
fails-reported A taken s P t u ProofOpen a f = AsSearched t u a f (λ e. cc)
fails-reported A taken s P t u ProofTooLate a f = AsSearched t u a f (λ e. cc)
fails-reported A taken s P t u (ConfigOutOfRange field) a f = AsSearched t u a f (λ e. cc)
fails-reported A taken s P t u (Dimacs cause) a f = AsSearched t u a f (λ e. cc)
