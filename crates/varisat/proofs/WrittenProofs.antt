-- What the bytes of a proof say: the clauses accepted, the cores logged, and that a marked proof passes.
use Rattle.std.proofs.Common.{◌≡◌, ◌∙◌, ℕ, Bool, Option, List, [], ◌∷◌, ◌++◌, map, sym, ap, subst, append_assoc, true, false, inl, inr, refl, Result}
use Rattle.std.proofs.lemmas.List.{append-nil, map-append, append_cancel_left}
use Rattle.varisat_theory.specs.promises.Literals.{Literal, Clause}
use Rattle.varisat_theory.specs.promises.Propagation.{Conflicts}
use Rattle.varisat_theory.specs.promises.Journals.{Fails, Leads, Entry, rename_entry, Accepts, Writes, Assumes, Retires, lines_of}
use Rattle.varisat_theory.proofs.journals.Journals.{leads_cut, by_leads}
use Rattle.varisat_solver.specs.promises.Calls.{ReturnsVerdict, by_state, IsRefuted}
use Rattle.varisat_lines.specs.declared.format.ProofFormat.TheVariants.{Marked, Drat, BinaryDrat}
use Rattle.varisat_lines.specs.promises.Lines.{line_of_kind, ProofLine, encoding_of, plain_lines, plain_encoding, has_marks}
use Rattle.varisat_lines.specs.promises.Written.{line_text, Written, AreInRange}
use Rattle.varisat_lines.specs.promises.Logging.{logged_bytes, logged_lines}
use Rattle.varisat_tracer.specs.promises.Carried.{carry}
use Rattle.varisat_solver.specs.promises.OpenProofs.{entries_over, lines_over}
use Rattle.varisat_solver.specs.promises.Journals.{LogsMore, EndWithCore, EndBy}
use Rattle.varisat_solver.proofs.entries.OpenProofs.{bytes-more, lines-renamed}
use Rattle.varisat_solver.specs.promises.States.{State, Unknown, UnsatUnderAssumptions}
use Rattle.varisat_theory.specs.promises.Membership.{◌∈◌}
use Rattle.varisat_theory.specs.promises.Derivations.{IsDerivation}
use Rattle.varisat_lines.specs.declared.format.Encoding.TheVariants.{Text}
use Rattle.varisat_lines.specs.declared.format.ProofFormat.{ProofFormat}
use Rattle.varisat_proof.specs.declared.checker.error.CheckVerdict.{CheckVerdict}
use Rattle.varisat_proof.specs.declared.checker.error.CheckerError.{CheckerError}
use Rattle.varisat_proof.specs.promises.Results.{IsResult, IsAccepted}
use Rattle.varisat_lines.specs.promises.Steps.{lines_written}
use Rattle.varisat_proof.proofs.RightResults.{derivation_accepted}
use Rattle.varisat.specs.inside.Laws.{BytesAreAccepted, MarkedProofsPass}
use Rattle.varisat_proof.specs.promises.Marked.{nothing_logged, state_of, IsCheckOf}
use Rattle.varisat_proof.proofs.MarkedOnce.{check_through}
use Rattle.varisat_proof.proofs.PassingJournals.{marked_accepted, journals_pass}
use Rattle.varisat.specs.promises.Pasts.{by_answers}
use Rattle.varisat_lines.specs.declared.format.LineKind.TheVariants as kind

-- A core that a call of `solve` finds is logged and written, and conflicts with what is held then.

pub cores-are-logged : (s t : State) (b : Bool) (core : List Literal) (held : List Clause) → ReturnsVerdict by_state s b t → s.verdict ≡ Unknown →
    t.verdict ≡ UnsatUnderAssumptions core → Leads [] t.logged held → Conflicts held core
cores-are-logged s t b core held r u e led =
    let (front, d, ends) = subst (λ v. EndBy v r.logged.entries) e (r.right.ends u) in
    let whole : t.logged ≡ (s.logged ++ front) ++ Fails core ∷ [] = r.logged.joined ∙ ap (λ es. s.logged ++ es) ends
    ∙ sym (append_assoc s.logged front (Fails core ∷ [])) in
    let (before, first, (after, (conflict, same), last)) =
    leads_cut [] (s.logged ++ front) (Fails core ∷ []) held (subst (λ es. Leads [] es held) whole led) in
    subst (λ P. Conflicts P core) (sym same ∙ last) conflict

-- its line is the last one
pub cores-are-written : (n : ℕ) (before after : List Entry) (more : LogsMore n before after) (core : List Literal) (variables : ℕ → Option ℕ)
    (bytes : List ℕ) → EndWithCore core more.entries → bytes ≡ logged_bytes Marked (entries_over variables after) →
    (front : List ℕ) × (bytes ≡ front ++ line_text (line_of_kind kind.Fails (map (carry variables) core)))
cores-are-written n before after more core variables bytes (front, d, ends) e =
    let over = entries_over variables (before ++ front) in
    let last = Fails (map (carry variables) core) ∷ [] in
    let whole : after ≡ (before ++ front) ++ Fails core ∷ [] = more.joined ∙ ap (λ es. before ++ es) ends
    ∙ sym (append_assoc before front (Fails core ∷ [])) in (
      logged_bytes Marked over,
      e ∙ ap (λ es. logged_bytes Marked (entries_over variables es)) whole
          ∙ ap (logged_bytes Marked) (map-append (rename_entry (carry variables)) (before ++ front) (Fails core ∷ []))
          ∙ bytes-more Marked over last
          ∙ ap (λ xs. logged_bytes Marked over ++ xs) (append-nil (line_text (line_of_kind kind.Fails (map (carry variables) core)))),
    )

-- A check accepts the bytes of a proof.

-- what has no marks is read as it is written
written-read : (f : ProofFormat) → has_marks f ≡ false → encoding_of f ≡ plain_encoding f
written-read Drat d = refl
written-read BinaryDrat d = refl
written-read Marked d = let z : true ≡ false = d in absurd cc

-- the lines that every format has
pub plain-logged : (es : List Entry) (line : ProofLine) → line ∈ plain_lines (lines_of es) → line ∈ logged_lines (Text true) es
plain-logged [] line h = absurd h
plain-logged (Accepts c ∷ es) line h = inr (plain-logged es line h)
plain-logged (Writes l ∷ es) line (inl e) = inl e
plain-logged (Writes l ∷ es) line (inr h) = inr (plain-logged es line h)
plain-logged (Assumes a ∷ es) line h = inr (plain-logged es line h)
plain-logged (Fails core ∷ es) line h = inr (plain-logged es line h)
plain-logged (Retires v ∷ es) line h = plain-logged es line h

accepted-lines : (f : ProofFormat) (P : List Clause) (es : List Entry) (bytes : List ℕ) (r : Result CheckVerdict CheckerError) (Q : List Clause) →
    has_marks f ≡ false → IsDerivation P (lines_of es) → AreInRange (logged_lines (Text true) es) →
    bytes ≡ lines_written (encoding_of f) (plain_lines (lines_of es)) → IsResult f P bytes r Q → IsAccepted P (lines_of es) r
accepted-lines f P es bytes r Q d derives range w a =
    derivation_accepted f P (lines_of es) bytes r Q derives (λ line l h i. range line l (plain-logged es line h) i)
    (subst (λ e. Written e (plain_lines (lines_of es)) bytes) (written-read f d) w) a

pub bytes-are-accepted : BytesAreAccepted
bytes-are-accepted = record {
  proof = λ p opened r Q b d shown a.
      let same : lines_over p.variables p.logged ≡ lines_of p.logged = sym (lines-renamed (carry p.variables) p.logged) ∙ ap lines_of (b.plain shown) in
      accepted-lines opened.format p.clauses p.logged opened.bytes r Q d (b.derives shown) (b.in_range shown)
      (b.drat d ∙ ap (λ ls. lines_written (encoding_of opened.format) (plain_lines ls)) same) a;
  program = λ f P c old new bytes r Q p d e a. accepted-lines f P p.logged bytes r Q d p.derives p.in_range
      (append_cancel_left old.bytes bytes (logged_bytes f p.logged) (sym e ∙ p.bytes) ∙ p.plain d) a;
}

-- What a check of a marked proof returns.

pub marked-proofs-pass : MarkedProofsPass
marked-proofs-pass = λ p opened result end journal has format shown check.
    let range = journal.in_range shown in
    let (held, by) = journal.within in
    let is : opened.bytes ≡ logged_bytes Marked p.logged = has.written ∙ ap (logged_bytes opened.format) (has.plain shown)
    ∙ ap (λ (f : ProofFormat). logged_bytes f p.logged) format in
    let begun = subst (λ xs. IsCheckOf (Text true) (state_of [] nothing_logged) xs result end) is check in
    let marked = has.marked shown in (
      journals_pass p.logged held result end (by_leads p.ledger.steps [] p.logged held by) (journal.stays shown) journal.cores range begun,
      λ r. (check_through (Text true) (state_of [] nothing_logged) (logged_bytes Marked p.logged) (logged_lines (Text true) p.logged) marked.after result end
          (marked_accepted p.logged range) marked.takes begun).1 (marked.refutes (subst (λ (f : ProofFormat). IsRefuted by_answers f p) (sym format) r)),
    )
