-- Texts whose clauses are added.
use Rattle.std.proofs.Common.{◌≡◌, ◌≢◌, ℕ, List, ◌++◌, ◌⊎◌, true, false, Some, Result, Ok, Err, inl, inr, refl, sym, ap, subst, ◌∙◌, append_assoc}
use Rattle.varisat_theory.specs.promises.Literals.{Clause}
use Rattle.varisat_formula.specs.declared.dimacs.error.DimacsError.{DimacsError}
use Rattle.varisat_formula.specs.declared.dimacs.error.DimacsErrorKind.TheVariants as kind
use Rattle.varisat_formula.specs.promises.Dimacs.{Reading}
use Rattle.varisat_formula.specs.promises.Streams.{Reads}
use Rattle.varisat_formula.specs.promises.Parsed.{GivesReading, Whole, FaultInText, TextFailed, ReaderRanOut}
use Rattle.varisat_formula.specs.promises.TakenTexts.{GivesFirst, TakesInTurn, InOne, InMore, RefusesClause}
use Rattle.varisat_proof.specs.declared.checker.error.CheckerError.{CheckerError}
use Rattle.varisat_proof.specs.declared.checker.error.CheckerError.TheVariants.{CheckFailed, NoSuchClause, CoreNotAssumed, Parse, Io, OutOfMemory, Dimacs, Spent}
use Rattle.varisat_proof.specs.promises.Calls.{CheckerState, CheckerAtInput, Becomes, BecomesOrRefuses, AddsRead, AddsText, ClauseRanOut}
use Rattle.varisat_proof.specs.inside.Checks.{RefusesText}

-- the clauses join those that are present, or the call is refused
abbrev pub Joins : CheckerState → List Clause → Result (Unit {0}) CheckerError → CheckerState → Type 0
Joins old clauses r new = BecomesOrRefuses old (old.clauses ++ clauses) r new

joins_behind : (old mid new : CheckerState) (first rest : List Clause) (r : Result (Unit {0}) CheckerError) → Joins old first (Ok tt) mid →
    Joins mid rest r new → Joins old (first ++ rest) r new
joins_behind old mid new first rest (Ok u) a b = record {
  usable = a.usable;
  now = b.now ∙ ap (λ (x : CheckerState). record x { clauses = x.clauses ++ rest }) a.now ∙
      ap (λ cs. record old { clauses = cs }) (append_assoc old.clauses first rest);
}
joins_behind old mid new first rest (Err OutOfMemory) a b = (a.usable, b.1)
joins_behind old mid new first rest (Err Spent) a b =
    absurd (let f : true ≡ false = sym b.0 ∙ ap (λ x. x.spent) a.now ∙ a.usable in cc)
joins_behind old mid new first rest (Err (CheckFailed n)) a b = absurd b
joins_behind old mid new first rest (Err (NoSuchClause n)) a b = absurd b
joins_behind old mid new first rest (Err (CoreNotAssumed n)) a b = absurd b
joins_behind old mid new first rest (Err (Parse o)) a b = absurd b
joins_behind old mid new first rest (Err (Io x)) a b = absurd b
joins_behind old mid new first rest (Err (Dimacs x)) a b = absurd b

pub joins_in_turn : (old new : CheckerState) (clauses : List Clause) (r : Result (Unit {0}) CheckerError) → TakesInTurn Joins old clauses r new →
    Joins old clauses r new
joins_in_turn old new clauses r (InOne k) = k
joins_in_turn old new clauses r (InMore first rest mid e k more) =
    subst (λ P. Joins old P r new) e (joins_behind old mid new first rest r k (joins_in_turn mid new rest r more))

-- the fault of a text is returned behind its clauses
pub refused_reading : (old mid new : CheckerState) (R : Reading) (fault : DimacsError) (e : CheckerError) → Becomes old (old.clauses ++ R.clauses) mid →
    R.fault ≡ Some fault → RefusesText mid fault e new → AddsRead old R (Err e) new
refused_reading old mid new R fault (Dimacs cause) w f h =
    (f ∙ ap Some (sym h.0), subst (λ x. x.kind ≢ kind.OutOfMemory) (sym h.0) h.1, record { usable = w.usable; now = h.2 ∙ w.now })
refused_reading old mid new R fault OutOfMemory w f h = (w.usable, h.1)
refused_reading old mid new R fault (CheckFailed n) w f h = absurd h
refused_reading old mid new R fault (NoSuchClause n) w f h = absurd h
refused_reading old mid new R fault (CoreNotAssumed n) w f h = absurd h
refused_reading old mid new R fault (Parse o) w f h = absurd h
refused_reading old mid new R fault (Io x) w f h = absurd h
refused_reading old mid new R fault Spent w f h = absurd h

-- memory ran out for a clause
clause_refused : (old new : CheckerAtInput) (clauses : List Clause) (text : List ℕ) (e : CheckerError) → Reads old.source text new.source →
    old.checker.spent ≡ false → Joins old.checker clauses (Err e) new.checker → AddsText old (Err e) new
clause_refused old new clauses text OutOfMemory k u h = ClauseRanOut text k refl h
clause_refused old new clauses text Spent k u h = absurd (let f : true ≡ false = sym h.0 ∙ u in cc)
clause_refused old new clauses text (CheckFailed n) k u h = absurd h
clause_refused old new clauses text (NoSuchClause n) k u h = absurd h
clause_refused old new clauses text (CoreNotAssumed n) k u h = absurd h
clause_refused old new clauses text (Parse o) k u h = absurd h
clause_refused old new clauses text (Io x) k u h = absurd h
clause_refused old new clauses text (Dimacs x) k u h = absurd h

pub text_refused : (old new : CheckerAtInput) (e : CheckerError) → old.checker.spent ≡ false →
    RefusesClause Joins old.source old.checker e new.source new.checker → AddsText old (Err e) new
text_refused old new e u w = by_text w.given
  where
    refused : (text : List ℕ) → Reads old.source text new.source → AddsText old (Err e) new
    refused text k = clause_refused old new w.clauses text e k u (joins_in_turn old.checker new.checker w.clauses (Err e) w.takes_some)

    by_reading : (R : Reading) → GivesReading old.source R new.source → AddsText old (Err e) new
    by_reading R (Whole text k h q i) = refused text k
    by_reading R (FaultInText text k q i n) = refused text k
    by_reading R (TextFailed text k q i) = refused text k
    by_reading R (ReaderRanOut front rest k n q i) = refused (front ++ rest) k

    by_text : ((R : Reading) × GivesReading old.source R new.source × (R.clauses ≡ w.clauses)) ⊎ GivesFirst old.source w.clauses new.source →
        AddsText old (Err e) new
    by_text (inl (R, k, i)) = by_reading R k
    by_text (inr k) = refused k.text k.reads
