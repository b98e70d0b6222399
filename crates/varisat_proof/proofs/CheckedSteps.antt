-- A check of a solver's step, line by line.
use Rattle.std.proofs.Common.{◌≡◌, ℕ, zero, suc, ◌+◌, ◌<◌, ◌≤◌, List, [], ◌∷◌, ◌++◌, length, take, drop, get_or, false, refl, sym, ap, subst, ◌∙◌, take_all, Result, Ok, Err, arith}
use Rattle.varisat_theory.specs.promises.Literals.{Clause}
use Rattle.varisat_theory.specs.promises.Derivations.{Line, Add, Delete, Derives}
use Rattle.varisat_plain.specs.promises.Checking.{IsWrong}
use Rattle.varisat_theory.proofs.clauses.Lines.{derives_append}
use Rattle.varisat_proof.specs.declared.checker.error.CheckerError.{CheckerError}
use Rattle.varisat_proof.specs.declared.checker.error.CheckerError.TheVariants.{CheckFailed, NoSuchClause, OutOfMemory}
use Rattle.varisat_steps.specs.declared.step.ProofStep.{ProofStep}
use Rattle.varisat_steps.specs.declared.step.ProofStep.TheVariants.{AtClause, UnitClauses, DeleteClause, DeleteVar, FailedAssumptions}
use Rattle.varisat_theory.specs.inside.StepLaws.{unit_lines}
use Rattle.varisat_proof.specs.promises.Calls.{CheckerState, IsStep, FailsAt}
use Rattle.varisat_proof.specs.inside.Checks.{ChecksLine, ChecksUnits, ChecksCore}

pub checker_is : (new old : CheckerState) → new.clauses ≡ old.clauses → new.spent ≡ old.spent → new ≡ old
checker_is new old e f = ap (λ x. let s : CheckerState = record { clauses = x; spent = new.spent } in s) e ∙
    ap (λ x. let s : CheckerState = record { clauses = old.clauses; spent = x } in s) f

-- 1. Clauses of one literal.
abbrev unit_line : ℕ → Line
unit_line l = Add (l ∷ [])

units_last : (ls : List ℕ) (i : ℕ) → i < length ls → unit_lines (take i ls) ++ unit_line (get_or ls i 0) ∷ [] ≡ unit_lines (take (i + 1) ls)
units_last [] i h = absurd (omega arith)
units_last (x ∷ ls) zero h = refl
units_last (x ∷ ls) (suc i) h = ap (λ ys. unit_line x ∷ ys) (units_last ls i (omega arith)) ∙ ap (λ k. unit_lines (take k (x ∷ ls))) (more i)
  where
    more : (i : ℕ) → suc (i + 1) ≡ suc i + 1
    more i = omega arith

units_cut : (ls : List ℕ) (i : ℕ) → i < length ls → unit_lines ls ≡ unit_lines (take i ls) ++ unit_line (get_or ls i 0) ∷ unit_lines (drop (suc i) ls)
units_cut [] i h = absurd (omega arith)
units_cut (x ∷ ls) zero h = refl
units_cut (x ∷ ls) (suc i) h = ap (λ ys. unit_line x ∷ ys) (units_cut ls i (omega arith))

units_number : (ls : List ℕ) (i : ℕ) → i < length ls → i + 1 ≡ suc (length (unit_lines (take i ls)))
units_number [] i h = absurd (omega arith)
units_number (x ∷ ls) zero h = refl
units_number (x ∷ ls) (suc i) h = let r = units_number ls i (omega arith) in omega (arith, r)

pub units_more : (P Q R : List Clause) (ls : List ℕ) (i l : ℕ) → i < length ls → l ≡ get_or ls i 0 → Derives P (unit_lines (take i ls)) Q →
    Derives Q (unit_line l ∷ []) R → Derives P (unit_lines (take (i + 1) ls)) R
units_more P Q R ls i l h e d f =
    subst (λ ys. Derives P ys R) (units_last ls i h) (derives_append P (unit_lines (take i ls)) Q (unit_line (get_or ls i 0) ∷ []) R d
    (subst (λ x. Derives Q (unit_line x ∷ []) R) e f))

pub units_all : (P Q : List Clause) (ls : List ℕ) (i : ℕ) → length ls ≤ i → Derives P (unit_lines (take i ls)) Q → Derives P (unit_lines ls) Q
units_all P Q ls i h d = subst (λ ys. Derives P (unit_lines ys) Q) (take_all i ls h) d

same_add : (c d : Clause) → Add c ≡ Add d → c ≡ d
same_add c d e = cc

pub units_fail : (old mid new : CheckerState) (ls : List ℕ) (i l n : ℕ) (e : CheckerError) → i < length ls → l ≡ get_or ls i 0 → n ≡ i + 1 →
    Derives old.clauses (unit_lines (take i ls)) mid.clauses → mid.spent ≡ false → ChecksLine mid (unit_line l) n (Err e) new →
    ChecksUnits old ls (Err e) new
units_fail old mid new ls i l n (CheckFailed step) h e k d s w = (
  (
    w.0.0,
    record {
      front = unit_lines (take i ls);
      back = unit_lines (drop (suc i) ls);
      splits = units_cut ls i h ∙ ap (λ x. unit_lines (take i ls) ++ unit_line x ∷ unit_lines (drop (suc i) ls)) (sym e) ∙
          ap (λ x. unit_lines (take i ls) ++ x ∷ unit_lines (drop (suc i) ls)) w.0.1;
      numbered = w.1 ∙ k ∙ units_number ls i h;
      derives = subst (λ x. Derives old.clauses (unit_lines (take i ls)) x) (sym (ap (λ x. x.clauses) w.2)) d;
      wrong = subst (λ x. IsWrong x (Add w.0.0)) (sym (ap (λ x. x.clauses) w.2)) w.0.2;
    },
  ),
  ap (λ x. x.spent) w.2 ∙ s,
)
units_fail old mid new ls i l n (NoSuchClause step) h e k d s w = absurd (let f : Add (l ∷ []) ≡ Delete w.0.0 = w.0.1 in cc)
units_fail old mid new ls i l n OutOfMemory h e k d s w = w
units_fail old mid new ls i l n error h e k d s w = absurd w

-- 2. Steps.
fails_at : (old new : CheckerState) (line : Line) (l : Line) (n : ℕ) → line ≡ l → IsWrong old.clauses l → n ≡ 1 → new ≡ old →
    FailsAt old.clauses (line ∷ []) n l new.clauses
fails_at old new line l n e w k s = record {
  front = [];
  back = [];
  splits = ap (λ x. x ∷ []) e;
  numbered = k;
  derives = ap (λ x. x.clauses) (sym s);
  wrong = subst (λ x. IsWrong x l) (ap (λ x. x.clauses) (sym s)) w;
}

abbrev pub ChecksStep : CheckerState → ProofStep → Result (Unit {0}) CheckerError → CheckerState → Type 0
ChecksStep old (AtClause c) r new = ChecksLine old (Add c.now) 1 r new
ChecksStep old (UnitClauses units) r new = ChecksUnits old units.now r new
ChecksStep old (DeleteClause c) r new = ChecksLine old (Delete c.now) 1 r new
ChecksStep old (DeleteVar v) r new = IsStep old (DeleteVar v) r new
ChecksStep old (FailedAssumptions core) r new = ChecksCore old core.now r new

pub step_is : (old new : CheckerState) (s : ProofStep) (r : Result (Unit {0}) CheckerError) → old.spent ≡ false → ChecksStep old s r new → IsStep old s r new
step_is old new (AtClause c) (Ok u) f w = (w.0, f, w.1 ∙ f)
step_is old new (AtClause c) (Err (CheckFailed n)) f w = ((w.0.0, fails_at old new (Add c.now) (Add w.0.0) n w.0.1 w.0.2 w.1 w.2), f, ap (λ x. x.spent) w.2 ∙ f)
step_is old new (AtClause c) (Err (NoSuchClause n)) f w = absurd (let e : Add c.now ≡ Delete w.0.0 = w.0.1 in cc)
step_is old new (AtClause c) (Err OutOfMemory) f w = (f, w)
step_is old new (AtClause c) (Err e) f w = absurd w
step_is old new (DeleteClause c) (Ok u) f w = (w.0, f, w.1 ∙ f)
step_is old new (DeleteClause c) (Err (CheckFailed n)) f w = absurd (let e : Delete c.now ≡ Add w.0.0 = w.0.1 in cc)
step_is old new (DeleteClause c) (Err (NoSuchClause n)) f w = (
  (w.0.0, fails_at old new (Delete c.now) (Delete w.0.0) n w.0.1 w.0.2 w.1 w.2),
  f,
  ap (λ x. x.spent) w.2 ∙ f,
)
step_is old new (DeleteClause c) (Err OutOfMemory) f w = (f, w)
step_is old new (DeleteClause c) (Err e) f w = absurd w
step_is old new (UnitClauses units) (Ok u) f w = (w.0, f, w.1)
step_is old new (UnitClauses units) (Err (CheckFailed n)) f w = (w.0, f, w.1)
step_is old new (UnitClauses units) (Err OutOfMemory) f w = (f, w)
step_is old new (UnitClauses units) (Err e) f w = absurd w
step_is old new (DeleteVar v) r f w = w
step_is old new (FailedAssumptions core) (Ok u) f w = ((w.0, ap (λ x. x.clauses) w.1), f, ap (λ x. x.spent) w.1 ∙ f)
step_is old new (FailedAssumptions core) (Err (CheckFailed n)) f w = ((w.0, w.1, ap (λ x. x.clauses) w.2), f, ap (λ x. x.spent) w.2 ∙ f)
step_is old new (FailedAssumptions core) (Err OutOfMemory) f w = (f, w)
step_is old new (FailedAssumptions core) (Err e) f w = absurd w
