-- What is logged over identities is what a proof logs over global variables.
use Rattle.std.proofs.Common.{◌≡◌, ℕ, ◌*◌, ◌/◌, Option, Some, List, [], ◌∷◌, ◌++◌, map, refl, sym, ap, ◌∙◌, subst, arith, append_assoc}
use Rattle.std.proofs.lemmas.List.{append-nil, map-append}
use Rattle.varisat_theory.specs.promises.Literals.{Literal}
use Rattle.varisat_theory.specs.promises.Journals.{Entry, Accepts, Writes, Assumes, Fails, Retires, NoneRetires, rename_entry, GoesOn}
use Rattle.varisat_proof.specs.promises.Proving.{ProofParts, IsLogged}
use Rattle.varisat_tracer.specs.promises.Carried.{carry, logged_as}
use Rattle.varisat_tracer.specs.inside.Logged.{logged-none, logged-more}
use Rattle.varisat_tracer.specs.inside.Tracing.{TracerState, global_literal, TakesGlobally}
use Rattle.varisat_theory.proofs.journals.Journals.{goes_on_further}
use Rattle.varisat_solver.proofs.entries.StepEntries.{leaving-append}
use Rattle.varisat_solver.specs.promises.Journals.{LogsToProof, LogsRetired}
use Rattle.varisat_solver.proofs.calls.Carried.{carry-at}
use Rattle.varisat_solver.proofs.entries.LoggedEntries.{logs-nothing, nothing-derived, logs, one-derived, through-derived, logs-through, leaves-goes}

-- 1. Literals and entries.
-- where none leaves a proof logs each entry
logged-each : (f : Literal → Literal) (es : List Entry) → NoneRetires es → map (rename_entry f) es ≡ logged_as f es
logged-each f [] n = refl
logged-each f (Accepts c ∷ es) n = ap (λ xs. Accepts (map f c) ∷ xs) (logged-each f es n)
logged-each f (Writes line ∷ es) n = ap (λ xs. rename_entry f (Writes line) ∷ xs) (logged-each f es n)
logged-each f (Assumes a ∷ es) n = ap (λ xs. Assumes (map f a) ∷ xs) (logged-each f es n)
logged-each f (Fails core ∷ es) n = ap (λ xs. Fails (map f core) ∷ xs) (logged-each f es n)
logged-each f (Retires v ∷ es) n = absurd n

-- 2. What a proof logged.

-- Further entries of which none leaves are these others, each identity as its variable.
pub record AreLoggedAs (variables : ℕ → Option ℕ) (before after given : List Entry) : Type 0 where
  pub entries : List Entry
  pub joined : after ≡ before ++ entries
  pub stays : NoneRetires entries
  pub same : logged_as (carry variables) entries ≡ given

pub proof-logged : (x y : TracerState) (entries : List Entry) (variables : ℕ → Option ℕ) (before after : List Entry) → TakesGlobally x entries y →
    AreLoggedAs variables before after (logged_as (global_literal x.tables) entries) → LogsToProof variables before after x.proof y.proof
proof-logged x y entries variables before after h t = record {
  entries = t.entries;
  joined = t.joined;
  logged = subst (λ es. IsLogged x.proof es y.proof) (sym (logged-each (carry variables) t.entries t.stays ∙ t.same)) h.logged;
}

pub proof-quiet : (variables : ℕ → Option ℕ) (logged : List Entry) (p : ProofParts) → LogsToProof variables logged logged p p
proof-quiet variables logged p = record { entries = []; joined = sym (append-nil logged); logged = logged-none p }

pub proof-through : (variables : ℕ → Option ℕ) (a b c : List Entry) (p q r : ProofParts) → LogsToProof variables a b p q → LogsToProof variables b c q r →
    LogsToProof variables a c p r
proof-through variables a b c p q r s t =
    let f = rename_entry (carry variables) in
    record {
      entries = s.entries ++ t.entries;
      joined = t.joined ∙ ap (λ xs. xs ++ t.entries) s.joined ∙ append_assoc a s.entries t.entries;
      logged = subst (λ es. IsLogged p es r) (sym (map-append f s.entries t.entries)) (logged-more p q r (map f s.entries) (map f t.entries) s.logged t.logged);
    }

-- 3. Variables leave.

-- None did, and the proof logged none.
pub leaving-none : (variables : ℕ → Option ℕ) (logged : List Entry) (p q : ProofParts) (given : List Entry) → given ≡ [] → IsLogged p given q →
    LogsRetired variables logged logged p q
leaving-none variables logged p q given e h = record {
  more = record { entries = []; joined = sym (append-nil logged); goes = λ held d. (held, refl) };
  leaving = tt;
  proof = record { entries = []; joined = sym (append-nil logged); logged = subst (λ es. IsLogged p es q) e h };
}

pub leaving-nothing : (variables : ℕ → Option ℕ) (logged : List Entry) (p : ProofParts) → LogsRetired variables logged logged p p
leaving-nothing variables logged p = record {
  more = record { entries = []; joined = sym (append-nil logged); goes = λ held d. (held, refl) };
  leaving = tt;
  proof = proof-quiet variables logged p;
}

-- one did, and the proof logged that of its global variable
pub leaving-one : (variables : ℕ → Option ℕ) (logged : List Entry) (i x : ℕ) (p q : ProofParts) (given : List Entry) → variables i ≡ Some x →
    given ≡ Retires x ∷ [] → IsLogged p given q → LogsRetired variables logged (logged ++ Retires i ∷ []) p q
leaving-one variables logged i x p q given at e h = record {
  more = record { entries = Retires i ∷ []; joined = refl; goes = leaves-goes logged i };
  leaving = tt;
  proof = record {
    entries = Retires i ∷ [];
    joined = refl;
    logged = subst (λ es. IsLogged p es q)
        (e ∙ ap (λ v. Retires v ∷ []) (sym (carry-at variables (2 * i) x (ap variables (half i) ∙ at)))) h;
  };
}
  where
    half : (i : ℕ) → (2 * i) / 2 ≡ i
    half i = omega arith

pub leaving-through : (variables : ℕ → Option ℕ) (a b c : List Entry) (p q r : ProofParts) → LogsRetired variables a b p q →
    LogsRetired variables b c q r → LogsRetired variables a c p r
leaving-through variables a b c p q r s t =
    record {
      more = record {
        entries = s.more.entries ++ t.more.entries;
        joined = t.more.joined ∙ ap (λ xs. xs ++ t.more.entries) s.more.joined ∙ append_assoc a s.more.entries t.more.entries;
        goes = goes_on_further 0 0 a s.more.entries t.more.entries s.more.goes (subst (λ xs. GoesOn 0 xs t.more.entries) s.more.joined t.more.goes);
      };
      leaving = leaving-append s.more.entries t.more.entries s.leaving t.leaving;
      proof = proof-through variables a b c p q r s.proof t.proof;
    }
