-- What calls in turn make of the target of an open proof.
use Rattle.std.specs.Prelude.{is_some}
use Rattle.std.proofs.Common.{◌≡◌, ◌≢◌, ◌∙◌, ℕ, true, false, Option, Some, None, List, [], ◌++◌, Result, Ok, Err, refl, sym, ap, subst}
use Rattle.std.proofs.lemmas.List.{append-nil}
use Rattle.std.specs.declared.io.Error.{Error}
use Rattle.varisat_theory.specs.promises.Journals.{Entry}
use Rattle.varisat_lines.specs.promises.Lines.{ProofLine}
use Rattle.varisat_lines.specs.declared.format.Encoding.{Encoding}
use Rattle.varisat_proof.specs.promises.Proving.{OpenState, ProofParts, IsWrittenIf, IsBegunIf, Flushes, marked_searched, with_fault, logged}
use Rattle.varisat_tracer.specs.inside.Logged.{logged-none, logged-more, begun-none, begun-behind}
use Rattle.varisat_tracer.specs.inside.Tracing.{BreaksProof}
use Rattle.varisat_search.specs.StepErrors.{step_faults}
use Rattle.varisat_search.specs.declared.error.StepError.{StepError}
use Rattle.varisat_search.specs.declared.error.StepError.TheVariants as step
use Rattle.varisat_solver.specs.inside.Accepting.{ChecksNames}
use Rattle.varisat_solver.specs.promises.Refusals.{step_refusal, returned_faults}
use Rattle.varisat_solver.specs.inside.Searches.{LogsSome}
use Rattle.varisat_solver.specs.promises.Summaries.{Summary, HasFullStore}
use Rattle.varisat_solver.specs.inside.Changes.{EndsSearch}
use Rattle.varisat_solver.specs.promises.Targets.{WritesAll, WritesUpTo, WritesOn}
use Rattle.varisat_solver.specs.declared.solver.SolverError.{SolverError}
use Rattle.varisat_solver.specs.declared.solver.SolverError.TheVariants.{ProofIoError, ClauseStoreFull, VariableLimit, WitnessVar}
use Rattle.varisat_names.specs.promises.Variables.{Tables}
use Rattle.varisat_theory.specs.promises.Literals.{Literal}

-- 1. Calls in turn.

-- a proof alone
abbrev alone : Option OpenState → ProofParts
alone o = record { opened = o; checker = None }

written-through : (o p q : Option OpenState) (first second : List Entry) → IsWrittenIf o (logged first) p → IsWrittenIf p (logged second) q →
    IsWrittenIf o (logged (first ++ second)) q
written-through o p q first second h k =
    (logged-more (alone o) (alone p) (alone q) first second (record { written = h; checked = refl }) (record { written = k; checked = refl })).written

pub writes-nothing : (o : Option OpenState) → WritesAll o o
writes-nothing o = ([], (logged-none (alone o)).written)

pub refused-unwritten : (o : Option OpenState) (e : SolverError) → returned_faults e ≡ 0 → WritesUpTo (returned_faults e) o o
refused-unwritten o e h = ([], subst (λ n. IsBegunIf o (logged []) n o) (sym h) (begun-none o))

pub all-then : (o p q : Option OpenState) → WritesAll o p → WritesAll p q → WritesAll o q
all-then o p q (first, h) (second, k) = (first ++ second, written-through o p q first second h k)

pub up-to-then : (o p q : Option OpenState) (faults : ℕ) → WritesAll o p → WritesUpTo faults p q → WritesUpTo faults o q
up-to-then o p q faults (first, h) (second, k) = (first ++ second, begun-behind o p q first second faults h k)

pub writes-then : {X : Type 0} (o p q : Option OpenState) (r : Result X SolverError) → WritesAll o p → WritesOn p r q → WritesOn o r q
writes-then o p q (Ok x) w k = all-then o p q w k
writes-then o p q (Err e) w k = up-to-then o p q (returned_faults e) w k

-- 2. What the parts of a call log.
pub logs-writes : (p q : ProofParts) → LogsSome p q → WritesAll p.opened q.opened
logs-writes p q (entries, t) = (entries, t.written)

-- a search that is interrupted
pub logs-refused : (p q : ProofParts) (e : SolverError) → returned_faults e ≡ 0 → LogsSome p q → WritesUpTo (returned_faults e) p.opened q.opened
logs-refused p q e h t = up-to-then p.opened q.opened q.opened (returned_faults e) (logs-writes p q t) (refused-unwritten q.opened e h)

pub breaks-writes : (p q : ProofParts) (e : StepError) → BreaksProof p (step_faults e) q → WritesUpTo (returned_faults (step_refusal e)) p.opened q.opened
breaks-writes p q step.Full (entries, b, _) = (entries, b)
breaks-writes p q step.Memory (entries, b, _) = (entries, b)
breaks-writes p q (step.Target cause) (entries, b, _) = (entries, b)

-- names are refused before anything is logged
pub names-unwritten : (o : Option OpenState) (t : Tables) (d : List Literal) (e : SolverError) → ChecksNames t d (Err e) → WritesUpTo (returned_faults e) o o
names-unwritten o t d VariableLimit h = refused-unwritten o VariableLimit refl
names-unwritten o t d (WitnessVar u) h = refused-unwritten o (WitnessVar u) refl
names-unwritten o t d e h = absurd h

pub names-not-full : (t : Tables) (d : List Literal) (e : SolverError) → ChecksNames t d (Err e) → e ≡ ClauseStoreFull → ⊥
names-not-full t d VariableLimit h f = cc
names-not-full t d (WitnessVar u) h f = cc
names-not-full t d e h f = absurd h

-- 3. Where the store is full.
pub refused-full : (e : StepError) → step_refusal e ≡ ClauseStoreFull → e ≡ step.Full
refused-full step.Full f = refl
refused-full step.Memory f = absurd cc
refused-full (step.Target cause) f = absurd cc

-- 4. Where the target failed.
pub names-not-broken : (t : Tables) (d : List Literal) (e : SolverError) (cause : Error) → ChecksNames t d (Err e) → e ≡ ProofIoError cause → ⊥
names-not-broken t d VariableLimit cause h f = cc
names-not-broken t d (WitnessVar u) cause h f = cc
names-not-broken t d e cause h f = absurd h

pub broken-not-memory : (e : StepError) (cause : Error) → step_refusal e ≡ ProofIoError cause → e ≢ step.Memory
broken-not-memory step.Full cause f m = cc
broken-not-memory step.Memory cause f m = cc
broken-not-memory (step.Target x) cause f m = cc

pub same-error : {X E : Type 0} (d e : E) → (let r : Result X E = Err d in r) ≡ Err e → d ≡ e
same-error d e h = cc

-- 4. How a search ends under a proof.
written-marked : (o p : Option OpenState) (lines : Encoding → List ProofLine) → IsWrittenIf o lines p →
    IsWrittenIf (marked_searched o) lines (marked_searched p)
written-marked None p lines h = ap marked_searched h
written-marked (Some a) None lines h = absurd h
written-marked (Some a) (Some b) lines h =
    record { rest = ap (λ (x : OpenState). let y : OpenState = record x { searched = true } in y) h.rest; bytes = h.bytes; faults = h.faults }

begun-marked : (o p : Option OpenState) (lines : Encoding → List ProofLine) (more : ℕ) → IsBegunIf o lines more p →
    IsBegunIf (marked_searched o) lines more (marked_searched p)
begun-marked None p lines more (e, h) = (ap marked_searched e, h)
begun-marked (Some a) None lines more h = absurd h
begun-marked (Some a) (Some b) lines more h =
    record { rest = ap (λ (x : OpenState). let y : OpenState = record x { searched = true } in y) h.rest; bytes = h.bytes; faults = h.faults }

pub writes-marked : {X : Type 0} (o p : Option OpenState) (r : Result X SolverError) → WritesOn o r p → WritesOn (marked_searched o) r (marked_searched p)
writes-marked o p (Ok x) (entries, h) = (entries, written-marked o p (logged entries) h)
writes-marked o p (Err e) (entries, h) = (entries, begun-marked o p (logged entries) (returned_faults e) h)

marked-twice : (o : Option OpenState) → marked_searched (marked_searched o) ≡ marked_searched o
marked-twice None = refl
marked-twice (Some a) = refl

pub ends-writing : {X : Type 0} (o : Option OpenState) (g h : Summary) (r : Result X SolverError) → WritesOn o r g.opened → EndsSearch g (Ok tt) h →
    WritesOn (marked_searched o) r (marked_searched h.opened)
ends-writing o g h r w e =
    let same : marked_searched h.opened ≡ marked_searched g.opened = ap (λ (x : Summary). marked_searched x.opened) e ∙ marked-twice g.opened in
    subst (λ q. WritesOn (marked_searched o) r q) (sym same) (writes-marked o g.opened r w)

-- the flush failed
flush-fails : (o h : Option OpenState) (cause : Error) → Flushes {E = Error} (marked_searched o) (Err cause) h →
    WritesUpTo 1 (marked_searched o) (marked_searched h)
flush-fails None h cause f = absurd f
flush-fails (Some a) h cause f =
    let b : OpenState = record a { searched = true } in
    let c : OpenState = record b { taken = with_fault b.taken } in
    subst (λ q. WritesUpTo 1 (Some b) (marked_searched q)) (sym f)
    ([], record { rest = refl; bytes = (0, sym (append-nil b.taken.bytes)); faults = refl })

pub fails-writing : (o : Option OpenState) (g h : Summary) (e : SolverError) → WritesAll o g.opened → EndsSearch g (Err e) h →
    WritesUpTo (returned_faults e) (marked_searched o) (marked_searched h.opened)
fails-writing o g h (ProofIoError cause) (entries, w) (f, e) =
    up-to-then (marked_searched o) (marked_searched g.opened) (marked_searched h.opened) 1 (entries, written-marked o g.opened (logged entries) w)
    (flush-fails g.opened h.opened cause f)
fails-writing o g h e w f = absurd f

pub ends-not-full : (g h : Summary) (e : SolverError) → EndsSearch g (Err e) h → e ≡ ClauseStoreFull → ⊥
ends-not-full g h (ProofIoError cause) k f = cc
ends-not-full g h e k f = absurd k

pub still-full : (g h : Summary) → EndsSearch g (Ok tt) h → HasFullStore g → HasFullStore h
still-full g h e n = subst HasFullStore (sym e) n

-- where a flush fails, a proof is open
pub flushed-open : (o h : Option OpenState) (cause : Error) → Flushes {E = Error} (marked_searched o) (Err cause) h → is_some o ≡ true
flushed-open None h cause f = absurd f
flushed-open (Some a) h cause f = refl

-- and the solver is invalid then
pub ends-badly-invalid : (g h : Summary) (e : SolverError) → EndsSearch g (Err e) h → h.ledger.valid ≡ true → ⊥
ends-badly-invalid g h (ProofIoError cause) (f, e) v = let z : false ≡ true = sym (ap (λ (x : Summary). x.ledger.valid) e) ∙ v in cc
ends-badly-invalid g h e k v = absurd k
