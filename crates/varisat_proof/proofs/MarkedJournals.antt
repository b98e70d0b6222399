-- A journal that is right, in which no variable leaves and each core is assumed, has the lines of a marked proof that are right one
-- after the other.
use Rattle.std.proofs.Common.{◌≡◌, suc, true, List, [], ◌∷◌, ◌++◌, refl, sym, ap, ◌∙◌, append_assoc}
use Rattle.std.proofs.lemmas.List.{append-nil}
use Rattle.varisat_theory.specs.promises.Literals.{Clause}
use Rattle.varisat_theory.specs.promises.Derivations.{Add, Delete}
use Rattle.varisat_theory.specs.promises.Journals.{Entry, Accepts, Writes, Assumes, Fails, Retires, Leads, NoneRetires, accepted_of}
use Rattle.varisat_formula.specs.promises.Formulas.{with_one_more}
use Rattle.varisat_lines.specs.declared.format.Encoding.TheVariants.{Text}
use Rattle.varisat_proof.specs.promises.Assumed.{assumed_behind, CoresAreAssumed, cores_of}
use Rattle.varisat_proof.specs.promises.Marked.{MarkedLog, state_of, TakesAll}
use Rattle.varisat_lines.specs.promises.Logging.{logged_lines}
use Rattle.std.specs.Prelude.{length}

-- what the lines lead to
pub record IsTakenAs (P : List Clause) (m : MarkedLog) (es : List Entry) (Q : List Clause) : Type 0 where
  pub logged : MarkedLog
  pub takes : TakesAll (state_of P m) (logged_lines (Text true) es) (state_of Q logged)
  pub inputs : logged.inputs.clauses ≡ m.inputs.clauses ++ accepted_of es
  pub assumed : logged.assumed ≡ assumed_behind m.assumed es
  pub cores : logged.cores ≡ m.cores ++ cores_of (length m.inputs.clauses) es

-- one more
pub one_longer : (P : List Clause) (c : Clause) → length (P ++ c ∷ []) ≡ suc (length P)
one_longer [] c = refl
one_longer (d ∷ P) c = ap suc (one_longer P c)

pub journal_taken : (P : List Clause) (m : MarkedLog) (es : List Entry) (Q : List Clause) → Leads P es Q → NoneRetires es →
    CoresAreAssumed m.assumed es → IsTakenAs P m es Q
journal_taken P m [] Q d n c = record {
  logged = m;
  takes = ap (λ (X : List Clause). state_of X m) d;
  inputs = sym (append-nil m.inputs.clauses);
  assumed = refl;
  cores = sym (append-nil m.cores);
}
journal_taken P m (Accepts c ∷ es) Q (R, q, d) n a =
    let next : MarkedLog = record m { inputs = with_one_more m.inputs c } in
    let t = journal_taken R next es Q d n a in
    record {
      logged = t.logged;
      takes = (state_of R next, ap (λ (X : List Clause). state_of X next) q, t.takes);
      inputs = t.inputs ∙ append_assoc m.inputs.clauses (c ∷ []) (accepted_of es);
      assumed = t.assumed;
      cores = t.cores ∙ ap (λ n. m.cores ++ cores_of n es) (one_longer m.inputs.clauses c);
    }
journal_taken P m (Writes (Add c) ∷ es) Q (R, (f, q), d) n a =
    let t = journal_taken R m es Q d n a in
    record {
      logged = t.logged;
      takes = (state_of R m, (f, ap (λ (X : List Clause). state_of X m) q), t.takes);
      inputs = t.inputs;
      assumed = t.assumed;
      cores = t.cores;
    }
journal_taken P m (Writes (Delete c) ∷ es) Q (R, o, d) n a =
    let t = journal_taken R m es Q d n a in
    record { logged = t.logged; takes = (state_of R m, (R, o, refl), t.takes); inputs = t.inputs; assumed = t.assumed; cores = t.cores }
journal_taken P m (Assumes list ∷ es) Q (R, q, d) n a =
    let next : MarkedLog = record m { assumed = list } in
    let t = journal_taken R next es Q d n a in
    record {
      logged = t.logged;
      takes = (state_of R next, ap (λ (X : List Clause). state_of X next) q, t.takes);
      inputs = t.inputs;
      assumed = t.assumed;
      cores = t.cores;
    }
journal_taken P m (Fails core ∷ es) Q (R, (f, q), d) n (within, a) =
    let next : MarkedLog = record m { cores = m.cores ++ (length m.inputs.clauses, core) ∷ [] } in
    let t = journal_taken R next es Q d n a in
    record {
      logged = t.logged;
      takes = (state_of R next, (within, f, ap (λ (X : List Clause). state_of X next) q), t.takes);
      inputs = t.inputs;
      assumed = t.assumed;
      cores = t.cores ∙ append_assoc m.cores ((length m.inputs.clauses, core) ∷ []) (cores_of (length m.inputs.clauses) es);
    }
journal_taken P m (Retires v ∷ es) Q d n a = absurd n
