-- Texts whose clauses a sink takes.
use Rattle.std.proofs.Common.{◌≡◌, List, ◌++◌, inl, Option, Result, Ok, Err, refl, sym, subst, append_assoc}
use Rattle.std.specs.Result.{result_err}
use Rattle.varisat_theory.specs.promises.Literals.{Clause}
use Rattle.varisat_formula.specs.declared.dimacs.error.DimacsError.{DimacsError}
use Rattle.varisat_formula.specs.promises.Dimacs.{Reading}
use Rattle.varisat_formula.specs.promises.Rest.{fault_of, with_front}
use Rattle.varisat_formula.specs.promises.Streams.{Input}
use Rattle.varisat_formula.specs.promises.Parsed.{GivesReading}
use Rattle.varisat_formula.specs.promises.TakenTexts.{TakesInTurn, InOne, InMore, TakesText, RefusesClause}

pub err_told : (r : Result (Unit {0}) DimacsError) → result_err r ≡ fault_of r
err_told (Ok u) = refl
err_told (Err e) = refl

module _ {S E : Type 0} (takes : S → List Clause → Result (Unit {0}) E → S → Type 0) where
  -- what is taken now is taken behind these clauses
  abbrev pub TakesBehind : S → List Clause → S → Type 0
  TakesBehind s front now =
      (clauses : List Clause) (r : Result (Unit {0}) E) (t : S) → TakesInTurn takes now clauses r t → TakesInTurn takes s (front ++ clauses) r t

  pub takes_more : (s mid now : S) (front clauses : List Clause) → TakesBehind s front mid → takes mid clauses (Ok tt) now →
      TakesBehind s (front ++ clauses) now
  takes_more s mid now front clauses w k rest r t more =
      subst (λ P. TakesInTurn takes s P r t) (sym (append_assoc front clauses rest)) (w (clauses ++ rest) r t (InMore clauses rest now refl k more))

  -- a reading was given, of which the sink took the last clauses
  pub takes_text : (old new : Input) (s mid t : S) (front clauses : List Clause) (R : Reading) (fault : Option DimacsError) →
      TakesBehind s front mid → GivesReading old (with_front front R) new → clauses ≡ R.clauses → fault ≡ R.fault → takes mid clauses (Ok tt) t →
      TakesText takes old s fault new t
  takes_text old new s mid t front clauses R fault w g e f k = record {
    reading = with_front front R;
    gives = g;
    reported = f;
    takes_all = w R.clauses (Ok tt) t (InOne (subst (λ P. takes mid P (Ok tt) t) e k));
  }

  -- or refused one of them
  pub refuses_last : (old new : Input) (s mid t : S) (front clauses : List Clause) (R : Reading) (e : E) → TakesBehind s front mid →
      GivesReading old (with_front front R) new → clauses ≡ R.clauses → takes mid clauses (Err e) t → RefusesClause takes old s e new t
  refuses_last old new s mid t front clauses R e w g h k = record {
    clauses = front ++ R.clauses;
    given = inl (with_front front R, g, refl);
    takes_some = w R.clauses (Err e) t (InOne (subst (λ P. takes mid P (Err e) t) h k));
  }
