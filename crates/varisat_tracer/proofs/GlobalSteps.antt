-- Steps over global variables, literal by literal, and that they can be logged and what logging them is.
use Rattle.std.proofs.Common.{◌≡◌, ℕ, ◌+◌, ◌<◌, List, [], ◌∷◌, ◌++◌, length, take, get_or, refl, sym, ap, ◌∙◌, subst, map, append-nil, take_all, arith, inl, ⊎_elim, Option, Some, None, Result, Ok, Err}
use Rattle.std.proofs.lemmas.List.{map-append, take_more, get_or_read}
use Rattle.varisat_theory.specs.promises.Literals.{Literal, Clause}
use Rattle.varisat_theory.specs.promises.Propagation.{Conflicts}
use Rattle.varisat_theory.specs.promises.Derivations.{Line, Add, Delete, Derives}
use Rattle.varisat_theory.specs.inside.StepLaws.{unit_lines}
use Rattle.varisat_theory.specs.promises.Renaming.{rename_line}
use Rattle.varisat_theory.specs.promises.Journals.{Entry, Writes, Fails, Leads, written}
use Rattle.varisat_steps.specs.Traces.{CanTake, CanFail, faults_of}
use Rattle.varisat_steps.proofs.Traced.{lines-lead}
use Rattle.varisat_steps.specs.declared.tracer.TraceError.{TraceError}
use Rattle.varisat_steps.specs.declared.tracer.TraceError.TheVariants.{Memory, Target}
use Rattle.varisat_lines.specs.declared.format.Encoding.{Encoding}
use Rattle.varisat_proof.specs.promises.Calls.{CheckerState}
use Rattle.varisat_lines.specs.promises.Lines.{ProofLine, encoding_of}
use Rattle.varisat_lines.specs.promises.Steps.{lines_written}
use Rattle.varisat_proof.specs.promises.Proving.{OpenState, ProofParts, is_there, IsSpent, IsLogged, IsWrittenIf, IsBegunIf, Logs, MayBePresent, logged}
use Rattle.varisat_tracer.specs.promises.Carried.{logged_as}
use Rattle.varisat_tracer.specs.inside.Tracing.{TracerState, global_literal, Relies, TakesGlobally, BreaksGlobally, LogsGlobally}
use Rattle.varisat_tracer.specs.inside.TracerLaws.{leads-globally}

pub mapped-more : (f : Literal → Literal) (ls old new : List Literal) (i l m : ℕ) → i < length ls → l ≡ get_or ls i l → old ≡ map f (take i ls) →
    new ≡ old ++ m ∷ [] → m ≡ f l → new ≡ map f (take (i + 1) ls)
mapped-more f ls old new i l m h e o n w =
    n ∙ ap (λ xs. xs ++ m ∷ []) o ∙ ap (λ x. map f (take i ls) ++ x ∷ []) (w ∙ ap f (get_or_read ls i l h e 0)) ∙
    sym (map-append f (take i ls) (get_or ls i 0 ∷ [])) ∙ ap (map f) (sym (take_more ls i 0 h))

-- 1. Lines as entries, and back.
lead-lines : (P : List Clause) (lines : List Line) (Q : List Clause) → Leads P (written lines) Q → Derives P lines Q
lead-lines P [] Q e = e
lead-lines P (Add c ∷ lines) Q (R, (f, e), d) = (f, subst (λ (X : List Clause). Derives X lines Q) e (lead-lines R lines Q d))
lead-lines P (Delete c ∷ lines) Q (R, t, d) = (R, t, lead-lines R lines Q d)

logged-lines : (f : Literal → Literal) (lines : List Line) → logged_as f (written lines) ≡ written (map (rename_line f) lines)
logged-lines f [] = refl
logged-lines f (line ∷ lines) = ap (λ es. Writes (rename_line f line) ∷ es) (logged-lines f lines)

unit-names : (f : Literal → Literal) (ls : List Literal) → map (rename_line f) (unit_lines ls) ≡ unit_lines (map f ls)
unit-names f [] = refl
unit-names f (l ∷ ls) = ap (λ xs. Add (f l ∷ []) ∷ xs) (unit-names f ls)

pub logged-units : (f : Literal → Literal) (ls : List Literal) → logged_as f (written (unit_lines ls)) ≡ written (unit_lines (map f ls))
logged-units f ls = logged-lines f (unit_lines ls) ∙ ap written (unit-names f ls)

-- 2. What is right over solver variables is so over global ones.
pub lines-globally : (x : TracerState) (lines others : List Line) → map (rename_line (global_literal x.tables)) lines ≡ others → CanTake (Relies x) lines →
    CanTake (MayBePresent x.proof.checker) others
lines-globally x lines others e (held, after, r, d) =
    let f = global_literal x.tables in
    let (now, next, h, l) = leads-globally x (written lines) held after r (lines-lead held lines after d) in
    (now, next, h, lead-lines now others next (subst (λ es. Leads now es next) (logged-lines f lines ∙ ap written e) l))

pub units-globally : (x : TracerState) (ls ms : List Literal) → ms ≡ map (global_literal x.tables) ls → CanTake (Relies x) (unit_lines ls) →
    CanTake (MayBePresent x.proof.checker) (unit_lines ms)
units-globally x ls ms e h = lines-globally x (unit_lines ls) (unit_lines ms) (unit-names (global_literal x.tables) ls ∙ ap unit_lines (sym e)) h

pub added-globally : (x : TracerState) (c d : Clause) → d ≡ map (global_literal x.tables) c → CanTake (Relies x) (Add c ∷ []) →
    CanTake (MayBePresent x.proof.checker) (Add d ∷ [])
added-globally x c d e h = lines-globally x (Add c ∷ []) (Add d ∷ []) (ap (λ y. Add y ∷ []) (sym e)) h

pub deleted-globally : (x : TracerState) (c d : Clause) → d ≡ map (global_literal x.tables) c → CanTake (Relies x) (Delete c ∷ []) →
    CanTake (MayBePresent x.proof.checker) (Delete d ∷ [])
deleted-globally x c d e h = lines-globally x (Delete c ∷ []) (Delete d ∷ []) (ap (λ y. Delete y ∷ []) (sym e)) h

pub fails-globally : (x : TracerState) (core others : List Literal) → others ≡ map (global_literal x.tables) core → CanFail (Relies x) core →
    CanFail (MayBePresent x.proof.checker) others
fails-globally x core others e (held, r, k) =
    let (now, next, h, l) = leads-globally x (Fails core ∷ []) held held r (held, (k, refl), refl) in
    (now, h, subst (λ y. Conflicts now y) (sym e) l.1.0)

-- 3. The entries that were logged.
pub takes-logged : (x y : TracerState) (entries others : List Entry) → y.tables ≡ x.tables → others ≡ logged_as (global_literal x.tables) entries →
    IsLogged x.proof others y.proof → TakesGlobally x entries y
takes-logged x y entries others e o t = record { tables = e; logged = subst (λ es. IsLogged x.proof es y.proof) o t }

-- 4. The same of a tracer's parts.
pub added-parts : (x y : TracerState) (c d : Clause) → y ≡ x → d ≡ map (global_literal y.tables) c → CanTake (Relies x) (Add c ∷ []) →
    CanTake (MayBePresent y.proof.checker) (Add d ∷ [])
added-parts x y c d e f h = added-globally y c d f (subst (λ (z : TracerState). CanTake (Relies z) (Add c ∷ [])) (sym e) h)

pub units-parts : (x y : TracerState) (ls ms : List Literal) → y ≡ x → ms ≡ map (global_literal y.tables) ls → CanTake (Relies x) (unit_lines ls) →
    CanTake (MayBePresent y.proof.checker) (unit_lines ms)
units-parts x y ls ms e f h = units-globally y ls ms f (subst (λ (z : TracerState). CanTake (Relies z) (unit_lines ls)) (sym e) h)

pub deleted-parts : (x y : TracerState) (c d : Clause) → y ≡ x → d ≡ map (global_literal y.tables) c → CanTake (Relies x) (Delete c ∷ []) →
    CanTake (MayBePresent y.proof.checker) (Delete d ∷ [])
deleted-parts x y c d e f h = deleted-globally y c d f (subst (λ (z : TracerState). CanTake (Relies z) (Delete c ∷ [])) (sym e) h)

pub fails-parts : (x y : TracerState) (core others : List Literal) → y ≡ x → others ≡ map (global_literal y.tables) core → CanFail (Relies x) core →
    CanFail (MayBePresent y.proof.checker) others
fails-parts x y core others e f h = fails-globally y core others f (subst (λ (z : TracerState). CanFail (Relies z) core) (sym e) h)

pub takes-parts : (x y z : TracerState) (entries others : List Entry) → y ≡ x → z.tables ≡ y.tables → others ≡ logged_as (global_literal y.tables) entries →
    IsLogged y.proof others z.proof → TakesGlobally x entries z
takes-parts x y z entries others e f o t = subst (λ (w : TracerState). TakesGlobally w entries z) e (takes-logged y z entries others f o t)

-- 5. What logging returns.
pub logs-logged : (x y : TracerState) (entries others : List Entry) (r : Result (Unit {0}) TraceError) → y.tables ≡ x.tables →
    others ≡ logged_as (global_literal x.tables) entries → Logs x.proof others r y.proof → LogsGlobally x entries r y
logs-logged x y entries others (Ok u) e o t = takes-logged x y entries others e o t
logs-logged x y entries others (Err z) e o t = (e, subst (λ es. Logs x.proof es (Err z) y.proof) o t)

nothing-begun : (o : Option OpenState) (lines : Encoding → List ProofLine) → IsBegunIf o lines 0 o
nothing-begun None lines = (refl, refl)
nothing-begun (Some p) lines = record { rest = refl; bytes = (0, sym (append-nil p.taken.bytes)); faults = omega arith }

-- memory ran out before anything was logged
pub unlogged : (x : TracerState) (entries : List Entry) → LogsGlobally x entries (Err Memory) x
unlogged x entries = (refl, inl (nothing-begun x.proof.opened (logged (logged_as (global_literal x.tables) entries)), refl))

-- 6. What stands in the target after an error.
all-begun : (o p : Option OpenState) (lines : Encoding → List ProofLine) → IsWrittenIf o lines p → IsBegunIf o lines 0 p
all-begun None p lines e = (e, refl)
all-begun (Some a) None lines w = absurd w
all-begun (Some a) (Some b) lines w =
    let bytes = lines_written (encoding_of a.format) (lines (encoding_of a.format)) in
    record {
      rest = w.rest;
      bytes = (length bytes, w.bytes ∙ ap (λ xs. a.taken.bytes ++ xs) (sym (take_all (length bytes) bytes (omega arith))));
      faults = w.faults ∙ omega arith;
    }

begun-logged : (p q : ProofParts) (entries : List Entry) (e : TraceError) → Logs p entries (Err e) q → IsBegunIf p.opened (logged entries) (faults_of e) q.opened
begun-logged p q entries Memory h = ⊎_elim (λ b. b.0) (λ w. all-begun p.opened q.opened (logged entries) w.0) h
begun-logged p q entries (Target cause) h = h.0

spent-runs : (o p : Option CheckerState) → IsSpent o p → is_there p ≡ is_there o
spent-runs None p h = absurd h
spent-runs (Some a) None h = absurd h
spent-runs (Some a) (Some b) h = refl

runs-logged : (p q : ProofParts) (entries : List Entry) (e : TraceError) → Logs p entries (Err e) q → is_there q.checker ≡ is_there p.checker
runs-logged p q entries Memory h =
    ⊎_elim (λ b. ap (λ (k : Option CheckerState). is_there k) b.1) (λ w. spent-runs p.checker q.checker w.1) h
runs-logged p q entries (Target cause) h = ap (λ (k : Option CheckerState). is_there k) h.1

pub breaks-logged : (x y : TracerState) (entries others : List Entry) (e : TraceError) → y.tables ≡ x.tables →
    others ≡ logged_as (global_literal x.tables) entries →
    Logs x.proof others (Err e) y.proof → BreaksGlobally x entries (faults_of e) y
breaks-logged x y entries others e t o h = record {
  tables = t;
  begun = subst (λ es. IsBegunIf x.proof.opened (logged es) (faults_of e) y.proof.opened) o (begun-logged x.proof y.proof others e h);
  runs = runs-logged x.proof y.proof others e h;
}

pub breaks-before : (x : TracerState) (entries : List Entry) → BreaksGlobally x entries 0 x
breaks-before x entries =
    record { tables = refl; begun = nothing-begun x.proof.opened (logged (logged_as (global_literal x.tables) entries)); runs = refl }

-- as an accepted clause or list is logged
pub breaks-logged-globally : (x y : TracerState) (entries : List Entry) (e : TraceError) → LogsGlobally x entries (Err e) y →
    BreaksGlobally x entries (faults_of e) y
breaks-logged-globally x y entries e (t, h) = breaks-logged x y entries (logged_as (global_literal x.tables) entries) e t refl h
