-- The lines of DRAT, and what a check of them comes to.
use Rattle.std.specs.Prelude.{◌≡◌, ℕ, List, [], ◌∷◌, ◌++◌, ◌⊎◌, Result}
use Rattle.varisat_theory.specs.promises.Literals.{Clause}
use Rattle.varisat_theory.specs.promises.Propagation.{Follows}
use Rattle.varisat_theory.specs.promises.Derivations.{TakesOut}
use Rattle.varisat_plain.specs.promises.Checking.{IsAbsent}
use Rattle.varisat_rat.specs.promises.Resolving.{IsForced, IsRatOnSome, IsPivotPlace}
use Rattle.varisat_lines.specs.declared.format.LineKind.{LineKind}
use Rattle.varisat_lines.specs.declared.format.LineKind.TheVariants.{Adds, Deletes}
use Rattle.varisat_lines.specs.declared.format.ProofFormat.{ProofFormat}
use Rattle.varisat_proof.specs.declared.checker.drat.Redundancy.{Redundancy}
use Rattle.varisat_proof.specs.declared.checker.drat.Redundancy.TheVariants as why
use Rattle.varisat_proof.specs.declared.checker.line.LineRules.{LineRules}
use Rattle.varisat_proof.specs.declared.checker.line.LineRules.TheVariants as mode
use Rattle.varisat_proof.specs.declared.checker.line.LineStatus.{LineStatus}
use Rattle.varisat_proof.specs.declared.checker.line.LineStatus.TheVariants.{Taken, Unproved}
use Rattle.varisat_proof.specs.declared.checker.error.CheckVerdict.{CheckVerdict}
use Rattle.varisat_proof.specs.declared.checker.error.CheckerError.{CheckerError}
use Rattle.varisat_lines.specs.promises.Lines.{plain_encoding}
use Rattle.varisat_proof.specs.promises.Marked.{Rules, strict_rules, state_of, nothing_logged, IsCheckBy}
use Rattle.varisat_proof.specs.promises.Calls.{CheckerAtInput, ChecksBytes}

-- the clause neither follows nor is RAT
abbrev pub IsNeither : List Clause → Clause → Type 0
IsNeither P c = (Follows P c → ⊥) × (IsRatOnSome P c → ⊥)

-- A line is taken where P is present, and then Q is: an added clause follows or is RAT; a deletion that finds no clause, or a forced one,
-- is passed over, and any other takes a clause out. There are no lines of other kinds.
abbrev pub TakesDratKind : List Clause → LineKind → Clause → List Clause → Type 0
TakesDratKind P Adds c Q = (Follows P c ⊎ IsRatOnSome P c) × (Q ≡ P ++ c ∷ [])
TakesDratKind P Deletes c Q = ((IsAbsent P c ⊎ IsForced P c) × (Q ≡ P)) ⊎ (TakesOut P c Q × (IsForced P c → ⊥))
TakesDratKind P kind c Q = Q ≡ P

-- a line is wrong: it adds a clause that neither follows nor is RAT
abbrev pub IsWrongDratKind : List Clause → LineKind → Clause → LineStatus → Type 0
IsWrongDratKind P Adds c Unproved = IsNeither P c
IsWrongDratKind P kind c status = ⊥

-- the rules of these lines
abbrev pub drat_rules : Rules
drat_rules = record {
  takes = λ s line t. TakesDratKind s.present line.kind line.clause t.present × (t.logged ≡ s.logged);
  wrong = λ s line status. IsWrongDratKind s.present line.kind line.clause status;
}

-- The one right result of a check of DRAT lines, over all bytes of a proof, and what is present where it stops.
abbrev pub IsDratResult : ProofFormat → List Clause → List ℕ → Result CheckVerdict CheckerError → List Clause → Type 0
IsDratResult format P bytes result Q =
    IsCheckBy drat_rules (plain_encoding format) (state_of P nothing_logged) bytes result (state_of Q nothing_logged)

-- what a check of DRAT lines returns
abbrev pub ChecksDrat : ProofFormat → CheckerAtInput → Result CheckVerdict CheckerError → CheckerAtInput → Type 0
ChecksDrat format old result new =
    ChecksBytes
    (λ bytes. IsDratResult format old.checker.clauses bytes result new.checker.clauses) old.source result new.source

-- the rules by their name
abbrev pub rules_of : LineRules → Rules
rules_of mode.Strict = strict_rules
rules_of mode.Drat = drat_rules

-- why a clause may be added, or that it may not
abbrev pub IsRedundancyOf : List Clause → Clause → Redundancy → Type 0
IsRedundancyOf P c why.Follows = Follows P c
IsRedundancyOf P c (why.Rat place) = IsPivotPlace P c place
IsRedundancyOf P c why.Neither = IsNeither P c

-- a line is taken, or it is wrong and nothing changes
abbrev pub IsDratStatusOf : List Clause → LineKind → Clause → LineStatus → List Clause → Type 0
IsDratStatusOf P kind c Taken Q = TakesDratKind P kind c Q
IsDratStatusOf P kind c status Q = IsWrongDratKind P kind c status × (Q ≡ P)
