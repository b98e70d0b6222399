-- What the calls of a new solver and their answers say so far: no state of the solver is spoken of.
use Rattle.std.specs.Prelude.{◌≡◌, ℕ, ◌+◌, ◌≤◌, Bool, true, false, Option, Some, None, List, [], ◌∷◌, ◌++◌, map}
use Rattle.varisat_theory.specs.promises.Membership.{◌⊆◌}
use Rattle.varisat_theory.specs.promises.Literals.{Literal, IsSatisfiable, IsSatisfiableWith, IsFailedCore}
use Rattle.varisat_theory.specs.promises.Counted.{added}
use Rattle.varisat_theory.specs.promises.Journals.{Entry, NoneRetires, accepted_of, lines_of}
use Rattle.varisat_lines.specs.declared.format.Encoding.TheVariants.{Text}
use Rattle.varisat_proof.specs.promises.Assumed.{lists_of, assumed_behind, CoresAreAssumed}
use Rattle.varisat_proof.specs.promises.Passing.{LogsConflict}
use Rattle.varisat_lines.specs.promises.Logging.{logged_lines}
use Rattle.varisat_lines.specs.promises.Written.{AreInRange}
use Rattle.varisat_solver.specs.promises.Names.{through_names}
use Rattle.varisat_solver.specs.promises.OpenProofs.{entries_over}
use Rattle.varisat_solver.specs.promises.States.{Known, first_known}
use Rattle.varisat_solver.specs.promises.Journals.{IsLoggedWithin, AreDerived, EndWithCore}
use Rattle.varisat_solver.specs.promises.Models.{IsCompletable, AreNamesInUse}
use Rattle.varisat_solver.specs.promises.Calls.{IsValid, Verdicts}

-- What answers say, in place of a verdict. `has_model`: `solve` returned true, and no clause was accepted and nothing assumed since.
-- `has_core`: it returned false, and nothing was assumed since. `lists`: all lists of assumptions that were given, over identities, in
-- order. `interrupted_steps`: how many steps calls of `solve` made that were interrupted.
pub record Findings : Type 0 where
  pub has_model : Bool
  pub has_core : Bool
  pub lists : List (List Literal)
  pub interrupted_steps : ℕ

-- what the calls and answers so far say
abbrev pub Past : Type 0
Past = Known Findings

-- before the first call
abbrev pub empty_past : Past
empty_past = first_known (record { has_model = false; has_core = false; lists = []; interrupted_steps = 0 })

-- What was logged is right, entry by entry, and at most as many of the clauses that its lines add count as steps were made in all, and
-- at least as many lines add a clause as steps were made by interrupted calls. The clauses that it accepts are those accepted, in
-- order, its lists of assumptions are those given, in order, the last one is that of the assumptions, and its cores are of what was
-- assumed. A reader takes the numbers of all lines that a proof of it has. Where nothing was ever hidden no variable left, and so it takes
-- those of its own lines.
pub record IsPastJournal (p : Past) : Type 0 where
  pub within : IsLoggedWithin p.ledger.steps p.logged
  pub enough : p.verdict.interrupted_steps ≤ added (lines_of p.logged)
  pub accepted : accepted_of p.logged ≡ p.clauses
  pub lists : lists_of p.logged ≡ p.verdict.lists
  pub assumed : assumed_behind [] p.logged ≡ p.assumptions
  pub cores : CoresAreAssumed [] p.logged
  pub stays : p.ever_hidden ≡ false → NoneRetires p.logged
  pub in_range : p.ever_hidden ≡ false → AreInRange (logged_lines (Text true) p.logged)
  pub readable : AreInRange (logged_lines (Text true) (entries_over p.variables p.logged))

-- What a call logs that returns false: nothing where a core was found last. Else propagation over what is held conflicts then, or it
-- conflicts with a core that is logged last, and is one of the assumptions.
pub data LogsFalse (p : Past) (logged : List Entry) (q : Past) : Type 0 where
  Again : p.verdict.has_core ≡ true → q.logged ≡ p.logged → LogsFalse p logged q
  Refuted : AreDerived logged → LogsConflict q.logged → LogsFalse p logged q
  Failed : (core : List Literal) → core ⊆ p.assumptions → EndWithCore core logged → LogsFalse p logged q

-- True is returned only if some assignment satisfies the clauses and the assumptions, and the call logs lines and which variables
-- leave. False is returned only if none does, and where nothing is assumed propagation over what is held then conflicts.
abbrev pub IsAnswer : Past → Bool → List Entry → Past → Type 0
IsAnswer p true logged q =
    (q.verdict ≡ record p.verdict { has_model = true; has_core = false }) × IsSatisfiableWith p.clauses p.assumptions
    × AreDerived logged
IsAnswer p false logged q =
    (q.verdict ≡ record p.verdict { has_model = false; has_core = true })
    × (IsSatisfiableWith p.clauses p.assumptions → ⊥) × LogsFalse p logged q
    × (p.assumptions ≡ [] → LogsConflict q.logged)

-- A model is returned where one was found last: exactly the names in use, such that some assignment agrees with it through the names and
-- satisfies the clauses and the assumptions.
abbrev pub MayReturnModel : Past → Option (List Literal) → Type 0
MayReturnModel p None = p.verdict.has_model ≡ false
MayReturnModel p (Some model) =
    (p.verdict.has_model ≡ true) × IsCompletable p.naming p.clauses p.assumptions p.counted model

-- None is returned only where `solve` did not return false last, and a core only where a model was not found last: literals of names in
-- use, which these carry to some of the assumptions that no assignment makes true together with the clauses.
abbrev pub MayReturnCore : Past → Option (List Literal) → Type 0
MayReturnCore p None = p.verdict.has_core ≡ false
MayReturnCore p (Some core) =
    (p.verdict.has_model ≡ false) × AreNamesInUse p.naming core
    × IsFailedCore p.clauses p.assumptions (map (through_names p.naming) core)

-- What calls and answers say of verdicts. A clause is taken without a change only once no assignment satisfies those before it. A call
-- of `solve` makes no step only where a model or a core was found last, or that is so. Behind each call what was logged is a journal of
-- the past, as long as that is valid.
abbrev pub by_answers : Verdicts Findings
by_answers = record {
  refuted = λ p. IsSatisfiable p.clauses → ⊥;
  unrefuted = λ p. Unit {0};
  undecided = λ p. (p.verdict.has_model ≡ false) × (p.verdict.has_core ≡ false);
  reopens = λ clauses c v w. w ≡ record v { has_model = false };
  assumed = λ list v. record v { has_model = false; has_core = false; lists = v.lists ++ list ∷ [] };
  answers = IsAnswer;
  interrupted = λ steps v. record v { interrupted_steps = v.interrupted_steps + steps };
  model = MayReturnModel;
  core = MayReturnCore;
  fails = λ p. p.verdict.has_core ≡ true;
  alone = λ p. p.assumptions ≡ [];
  holds = λ p. IsValid p → IsPastJournal p;
}
