-- A check of the marked proof of a right journal.
use Rattle.std.proofs.Common.{◌≡◌, true, List, [], ◌∷◌, ◌++◌, map, Result, Ok, Err, length, refl, sym, ap, ◌∙◌, subst, append_assoc}
use Rattle.std.proofs.lemmas.List.{append-nil, map-append}
use Rattle.varisat_theory.specs.promises.Literals.{Clause}
use Rattle.varisat_theory.specs.promises.Propagation.{Conflicts}
use Rattle.varisat_theory.specs.promises.Derivations.{Add, Delete}
use Rattle.varisat_theory.specs.promises.Journals.{Entry, Accepts, Writes, Assumes, Fails, Retires, Leads, NoneRetires, accepted_of}
use Rattle.varisat_theory.proofs.clauses.Held.{conflicts_same}
use Rattle.varisat_theory.proofs.journals.Journals.{leads_unique}
use Rattle.varisat_formula.specs.promises.Formulas.{with_one_more}
use Rattle.varisat_lines.specs.declared.format.Encoding.TheVariants.{Text}
use Rattle.varisat_lines.specs.declared.format.LineKind.{LineKind}
use Rattle.varisat_lines.specs.declared.format.LineKind.TheVariants as kind
use Rattle.varisat_proof.specs.declared.checker.error.CheckVerdict.{CheckVerdict}
use Rattle.varisat_proof.specs.declared.checker.error.CheckVerdict.TheVariants.{Refutation, Derivation}
use Rattle.varisat_proof.specs.declared.checker.error.CheckerError.{CheckerError}
use Rattle.varisat_proof.specs.promises.Assumed.{cores_of}
use Rattle.varisat_lines.specs.promises.Lines.{ProofLine, line_of_kind, plain_line, has_kind, HasKinds}
use Rattle.varisat_proof.specs.promises.Marked.{MarkedLog, nothing_logged, ProofState, state_of, Goes, GoesThrough}
use Rattle.varisat_lines.specs.declared.format.ProofFormat.TheVariants.{Marked}
use Rattle.varisat_lines.specs.promises.Grammar.{Accepted}
use Rattle.varisat_lines.specs.promises.Logging.{logged_lines, logged_bytes}
use Rattle.varisat_lines.specs.promises.Written.{AreInRange}
use Rattle.varisat_proof.specs.promises.Passing.{LogsConflict, LogsAllOf, PassesWith, JournalsPass}
use Rattle.varisat_proof.proofs.MarkedJournals.{journal_taken, one_longer}
use Rattle.varisat_proof.proofs.MarkedOnce.{check_through}
use Rattle.varisat_lines.proofs.WrittenLines.{written_accepted}

-- 1. Lines and entries.
-- marked text has lines of each kind
each_kind : (k : LineKind) → has_kind (Text true) k ≡ true
each_kind kind.Adds = refl
each_kind kind.Deletes = refl
each_kind kind.Accepts = refl
each_kind kind.Assumes = refl
each_kind kind.Fails = refl

has_kinds : (lines : List ProofLine) → HasKinds (Text true) lines
has_kinds [] = tt
has_kinds (line ∷ lines) = (each_kind line.kind, has_kinds lines)

-- the line of an entry; that a variable leaves has none, and then this is one of no use
line_of : Entry → ProofLine
line_of (Accepts c) = line_of_kind kind.Accepts c
line_of (Writes line) = plain_line line
line_of (Assumes a) = line_of_kind kind.Assumes a
line_of (Fails core) = line_of_kind kind.Fails core
line_of (Retires v) = line_of_kind kind.Adds []

a_line_each : (es : List Entry) → NoneRetires es → logged_lines (Text true) es ≡ map line_of es
unfolding line_of
a_line_each [] n = refl
a_line_each (Accepts c ∷ es) n = ap (λ ls. line_of_kind kind.Accepts c ∷ ls) (a_line_each es n)
a_line_each (Writes line ∷ es) n = ap (λ ls. plain_line line ∷ ls) (a_line_each es n)
a_line_each (Assumes a ∷ es) n = ap (λ ls. line_of_kind kind.Assumes a ∷ ls) (a_line_each es n)
a_line_each (Fails core ∷ es) n = ap (λ ls. line_of_kind kind.Fails core ∷ ls) (a_line_each es n)
a_line_each (Retires v ∷ es) n = absurd n

stay_first : (es fs : List Entry) → NoneRetires (es ++ fs) → NoneRetires es
stay_first [] fs n = tt
stay_first (Accepts c ∷ es) fs n = stay_first es fs n
stay_first (Writes line ∷ es) fs n = stay_first es fs n
stay_first (Assumes a ∷ es) fs n = stay_first es fs n
stay_first (Fails core ∷ es) fs n = stay_first es fs n
stay_first (Retires v ∷ es) fs n = absurd n

-- the first lines are those of the first entries
first_entries : (es : List Entry) (front back : List ProofLine) → map line_of es ≡ front ++ back → (first : List Entry) × (rest : List Entry)
    × (es ≡ first ++ rest) × (map line_of first ≡ front)
first_entries es [] back e = ([], es, refl, refl)
first_entries [] (l ∷ front) back e = absurd cc
first_entries (x ∷ es) (l ∷ front) back e =
    let all : line_of x ∷ map line_of es ≡ l ∷ (front ++ back) = e in
    let head : line_of x ≡ l = cc in
    let tail : map line_of es ≡ front ++ back = cc in
    let (first, rest, joined, lines) = first_entries es front back tail in
    (x ∷ first, rest, ap (λ xs. x ∷ xs) joined, ap (λ y. y ∷ map line_of first) head ∙ ap (λ ys. l ∷ ys) lines)

-- 2. A check goes through the lines of a journal.
record IsWalk (P : List Clause) (m : MarkedLog) (es : List Entry) (t : ProofState) : Type 0 where
  pub leads : Leads P es t.present
  pub inputs : t.logged.inputs.clauses ≡ m.inputs.clauses ++ accepted_of es
  pub cores : t.logged.cores ≡ m.cores ++ cores_of (length m.inputs.clauses) es

walk : (P : List Clause) (m : MarkedLog) (es : List Entry) (t : ProofState) → NoneRetires es → Goes (state_of P m) (map line_of es) t → IsWalk P m es t
unfolding line_of
walk P m [] t n g = record {
  leads = ap (λ (x : ProofState). x.present) g;
  inputs = ap (λ (x : ProofState). x.logged.inputs.clauses) (sym g) ∙ sym (append-nil m.inputs.clauses);
  cores = ap (λ (x : ProofState). x.logged.cores) (sym g) ∙ sym (append-nil m.cores);
}
walk P m (Accepts c ∷ es) t n (none, r, q, g) =
    let next : MarkedLog = record m { inputs = with_one_more m.inputs c } in
    let w = walk (P ++ c ∷ []) next es t n (subst (λ (x : ProofState). Goes x (map line_of es) t) q g) in
    record {
      leads = (P ++ c ∷ [], refl, w.leads);
      inputs = w.inputs ∙ append_assoc m.inputs.clauses (c ∷ []) (accepted_of es);
      cores = w.cores ∙ ap (λ k. m.cores ++ cores_of k es) (one_longer m.inputs.clauses c);
    }
walk P m (Writes (Add c) ∷ es) t n (none, r, (f, q), g) =
    let w = walk (P ++ c ∷ []) m es t n (subst (λ (x : ProofState). Goes x (map line_of es) t) q g) in
    record { leads = (P ++ c ∷ [], (f, refl), w.leads); inputs = w.inputs; cores = w.cores }
walk P m (Writes (Delete c) ∷ es) t n (none, r, (R, o, q), g) =
    let w = walk R m es t n (subst (λ (x : ProofState). Goes x (map line_of es) t) q g) in
    record { leads = (R, o, w.leads); inputs = w.inputs; cores = w.cores }
walk P m (Assumes a ∷ es) t n (none, r, q, g) =
    let next : MarkedLog = record m { assumed = a } in
    let w = walk P next es t n (subst (λ (x : ProofState). Goes x (map line_of es) t) q g) in
    record { leads = (P, refl, w.leads); inputs = w.inputs; cores = w.cores }
walk P m (Fails core ∷ es) t n (none, r, (within, f, q), g) =
    let next : MarkedLog = record m { cores = m.cores ++ (length m.inputs.clauses, core) ∷ [] } in
    let w = walk P next es t n (subst (λ (x : ProofState). Goes x (map line_of es) t) q g) in
    record {
      leads = (P, (f, refl), w.leads);
      inputs = w.inputs;
      cores = w.cores ∙ append_assoc m.cores ((length m.inputs.clauses, core) ∷ []) (cores_of (length m.inputs.clauses) es);
    }
walk P m (Retires v ∷ es) t n g = absurd n

-- before each of the lines propagation does not conflict
goes_before : (s : ProofState) (front : List ProofLine) (line : ProofLine) (back : List ProofLine) (t : ProofState) → Goes s (front ++ line ∷ back) t →
    (u : ProofState) × Goes s front u × (Conflicts u.present [] → ⊥)
goes_before s [] line back t (none, r, k, g) = (s, refl, none)
goes_before s (l ∷ front) line back t (none, r, k, g) =
    let (u, h, c) = goes_before r front line back t g in
    (u, (none, r, k, h), c)

-- so no beginning of the entries leads to a conflict
none_before : (es : List Entry) (t : ProofState) → NoneRetires es → Goes (state_of [] nothing_logged) (map line_of es) t →
    (front : List Entry) (e : Entry) (back : List Entry) → es ≡ front ++ e ∷ back → LogsConflict front → ⊥
none_before es t n g front e back j (held, d, k) =
    let lines = ap (map line_of) j ∙ map-append line_of front (e ∷ back) in
    let (u, h, none) = goes_before (state_of [] nothing_logged) (map line_of front) (line_of e) (map line_of back) t
    (subst (λ ls. Goes (state_of [] nothing_logged) ls t) lines g) in
    let w = walk [] nothing_logged front u (stay_first front (e ∷ back) (subst NoneRetires j n)) h in
    none (conflicts_same held u.present [] (leads_unique [] [] front held u.present refl d w.leads) k)

-- nor do all, where it does not conflict at their end
none_at_all : (es : List Entry) (t : ProofState) → NoneRetires es → Goes (state_of [] nothing_logged) (map line_of es) t → (Conflicts t.present [] → ⊥) →
    (front back : List Entry) → es ≡ front ++ back → LogsConflict front → ⊥
none_at_all es t n g none front [] j (held, d, k) =
    let w = walk [] nothing_logged es t n g in
    let all = subst (λ xs. Leads [] xs held) (sym (j ∙ append-nil front)) d in
    none (conflicts_same held t.present [] (leads_unique [] [] es held t.present refl all w.leads) k)
none_at_all es t n g none front (e ∷ back) j c = none_before es t n g front e back j c

told_all : (es : List Entry) (t : ProofState) → IsWalk [] nothing_logged es t → LogsAllOf es t.logged
told_all es t w = record { inputs = w.inputs; cores = w.cores }

passes : (logged : List Entry) (result : Result CheckVerdict CheckerError) (t : ProofState) → NoneRetires logged →
    GoesThrough (state_of [] nothing_logged) (map line_of logged) result t → PassesWith logged result t.logged
passes logged (Ok Refutation) t n (front, back, e, g, k) =
    let (first, rest, joined, lines) = first_entries logged front back e in
    let stay = stay_first first rest (subst NoneRetires joined n) in
    let goes = subst (λ ls. Goes (state_of [] nothing_logged) ls t) (sym lines) g in
    let w = walk [] nothing_logged first t stay goes in
    (first, rest, joined, record { conflicts = (t.present, w.leads, k); first = none_before first t stay goes }, told_all first t w)
passes logged (Ok Derivation) t n (g, none) = (none_at_all logged t n g none, told_all logged t (walk [] nothing_logged logged t n g))
passes logged (Err error) t n g = absurd g

-- its bytes are read as its lines
pub marked_accepted : (logged : List Entry) → AreInRange (logged_lines (Text true) logged) → Accepted (Text true) (logged_lines (Text true) logged)
    (logged_bytes Marked logged)
marked_accepted logged range = let lines = logged_lines (Text true) logged in written_accepted (Text true) lines (logged_bytes Marked logged) (has_kinds lines) range refl

pub journals_pass : JournalsPass
journals_pass = λ logged held result t d n c range k.
    let lines = logged_lines (Text true) logged in
    let taken = journal_taken [] nothing_logged logged held d n c in
    let (through, ends) = check_through (Text true) (state_of [] nothing_logged) (logged_bytes Marked logged) lines (state_of held taken.logged) result t
    (marked_accepted logged range) taken.takes k in
    passes logged result t n (subst (λ ls. GoesThrough (state_of [] nothing_logged) ls result t) (a_line_each logged n) through)
