-- A proof of what a formula was made into, behind the lines that lead to it, is a proof of the formula.
use Rattle.std.proofs.Common.{◌≡◌, ◌^◌, ◌<◌, List, [], ◌∷◌, ◌++◌, true, false, refl, sym, ap, ◌∙◌, subst, append_assoc, inl, inr, ⊎_elim, None}
use Rattle.std.proofs.lemmas.List.{append-nil, map-append}
use Rattle.std.specs.Prelude.{length}
use Rattle.varisat_theory.specs.promises.Membership.{◌∈◌}
use Rattle.varisat_theory.specs.promises.Literals.{Clause}
use Rattle.varisat_theory.specs.promises.Propagation.{Conflicts}
use Rattle.varisat_theory.specs.promises.Derivations.{Line, Add, Delete, Derives, IsDerivation, Refutes, SpeakOf}
use Rattle.varisat_theory.specs.promises.Held.{SameClauses}
use Rattle.varisat_theory.specs.promises.Journals.{Entry, Accepts, Writes, Assumes, Fails, Retires, Leads, lines_of, accepted_of, NoneRetires, written}
use Rattle.varisat_theory.proofs.clauses.Members.{∈-append_cases, ∈-append_right}
use Rattle.varisat_theory.proofs.clauses.Growth.{conflicts_more, covered_by_more}
use Rattle.varisat_theory.proofs.clauses.Held.{same_set-self, same_clauses-self, same_clauses-back, same_clauses-through, conflicts_same}
use Rattle.varisat_theory.proofs.clauses.Lines.{derives_append, derives_beside, derives_same, same_lines-self}
use Rattle.varisat_theory.proofs.journals.Journals.{leads_derives, written_lines, written_accepts, written_stays}
use Rattle.varisat_theory.proofs.journals.Spoken.{spoken_wider}
use Rattle.varisat_formula.specs.promises.Formulas.{Formula, with_one_more}
use Rattle.varisat_formula.specs.promises.Streams.{Taken}
use Rattle.varisat_lines.specs.declared.format.ProofFormat.{ProofFormat}
use Rattle.varisat_lines.specs.declared.format.ProofFormat.TheVariants.{Drat, BinaryDrat, Marked}
use Rattle.varisat_lines.specs.declared.format.Encoding.{Encoding}
use Rattle.varisat_lines.specs.declared.format.Encoding.TheVariants.{Text}
use Rattle.varisat_proof.specs.promises.Assumed.{CoresAreAssumed, assumed_behind}
use Rattle.varisat_lines.specs.promises.Lines.{ProofLine, encoding_of, plain_line, plain_lines, has_marks}
use Rattle.varisat_proof.specs.promises.Marked.{MarkedLog, ProofState, state_of, nothing_logged, TakesAll}
use Rattle.varisat_lines.specs.promises.Steps.{lines_written}
use Rattle.varisat_lines.specs.promises.Logging.{logged_lines, logged_bytes}
use Rattle.varisat_lines.specs.promises.Written.{AreInRange, line_written}
use Rattle.varisat_proof.proofs.MarkedJournals.{journal_taken}
use Rattle.varisat_rules.specs.promises.Leading.{LeadsTo, IsNamedBy}
use Rattle.varisat_simplify.specs.promises.Simplified.{IsMadeOf}
use Rattle.varisat_rules.proofs.LeadingLemmas.{derives_behind, refutes_behind}
use Rattle.varisat.specs.promises.Decided.{Conclusion, Decided}
use Rattle.varisat.specs.promises.Proven.{IsProven}
use Rattle.varisat.proofs.WrittenProofs.{plain-logged}
use Rattle.varisat_solve.specs.promises.Solving.{AreLow}
use Rattle.varisat_steps.proofs.Traced.{lines-lead}

-- 1. The clauses of a formula and lines, as entries.
abbrev pub own : List Clause → List Line → List Entry
own [] ls = written ls
own (c ∷ P) ls = Accepts c ∷ own P ls

own-lines : (P : List Clause) (ls : List Line) → lines_of (own P ls) ≡ ls
own-lines [] ls = written_lines ls
own-lines (c ∷ P) ls = own-lines P ls

own-accepted : (P : List Clause) (ls : List Line) → accepted_of (own P ls) ≡ P
own-accepted [] ls = written_accepts ls
own-accepted (c ∷ P) ls = ap (λ Q. c ∷ Q) (own-accepted P ls)

own-stays : (P : List Clause) (ls : List Line) → NoneRetires (own P ls)
own-stays [] ls = written_stays ls
own-stays (c ∷ P) ls = own-stays P ls

own-assumed : (P : List Clause) (ls : List Line) → CoresAreAssumed [] (own P ls)
own-assumed [] [] = tt
own-assumed [] (l ∷ ls) = own-assumed [] ls
own-assumed (c ∷ P) ls = own-assumed P ls

own-behind : (P : List Clause) (ls : List Line) → assumed_behind [] (own P ls) ≡ []
own-behind [] [] = refl
own-behind [] (l ∷ ls) = own-behind [] ls
own-behind (c ∷ P) ls = own-behind P ls

own-leads : (A P : List Clause) (ls : List Line) (Q : List Clause) → Derives (A ++ P) ls Q → Leads A (own P ls) Q
own-leads A [] ls Q d = lines-lead A ls Q (subst (λ X. Derives X ls Q) (append-nil A) d)
own-leads A (c ∷ P) ls Q d =
    (A ++ c ∷ [], refl, own-leads (A ++ c ∷ []) P ls Q (subst (λ X. Derives X ls Q) (sym (append_assoc A (c ∷ []) P)) d))

-- 2. Their bytes where the format has no marks.
lines-bytes : (e : Encoding) (ls : List Line) → logged_lines e (written ls) ≡ plain_lines ls
lines-bytes e [] = refl
lines-bytes e (l ∷ ls) = ap (λ xs. plain_line l ∷ xs) (lines-bytes e ls)

own-bytes : (f : ProofFormat) (P : List Clause) (ls : List Line) → has_marks f ≡ false → logged_lines (encoding_of f) (own P ls) ≡ plain_lines ls
own-bytes f [] ls n = lines-bytes (encoding_of f) ls
own-bytes Drat (c ∷ P) ls n = own-bytes Drat P ls n
own-bytes BinaryDrat (c ∷ P) ls n = own-bytes BinaryDrat P ls n
own-bytes Marked P ls n = let z : true ≡ false = n in absurd cc

written-more : (e : Encoding) (xs ys : List ProofLine) → lines_written e (xs ++ ys) ≡ lines_written e xs ++ lines_written e ys
written-more e [] ys = refl
written-more e (x ∷ xs) ys = ap (λ t. line_written e x ++ t) (written-more e xs ys)
    ∙ sym (append_assoc (line_written e x) (lines_written e xs) (lines_written e ys))

-- 3. Their numbers are in range.
plain-low : (ls : List Line) → SpeakOf (λ l. l < 2 ^ 29) ls → AreInRange (plain_lines ls)
plain-low [] s line l h i = absurd h
plain-low (Add c ∷ ls) s line l (inl e) i = s.0 l (subst (λ (x : ProofLine). l ∈ x.clause) e i)
plain-low (Delete c ∷ ls) s line l (inl e) i = s.0 l (subst (λ (x : ProofLine). l ∈ x.clause) e i)
plain-low (Add c ∷ ls) s line l (inr h) i = plain-low ls s.1 line l h i
plain-low (Delete c ∷ ls) s line l (inr h) i = plain-low ls s.1 line l h i

own-range : (P : List Clause) (ls : List Line) → AreLow P → AreInRange (plain_lines ls) → AreInRange (logged_lines (Text true) (own P ls))
own-range [] ls p r line l h i = r line l (subst (λ xs. line ∈ xs) (lines-bytes (Text true) ls) h) i
own-range (c ∷ P) ls p r line l (inl e) i = p c l (inl refl) (subst (λ (x : ProofLine). l ∈ x.clause) e i)
own-range (c ∷ P) ls p r line l (inr h) i = own-range P ls (λ d m j k. p d m (inr j) k) r line l h i

-- 4. What lines of all kinds lead to, plain lines do from the clauses that they give.
-- the entries that are lines of marked text
abbrev staying : List Entry → List Entry
staying [] = []
staying (Accepts c ∷ es) = Accepts c ∷ staying es
staying (Writes l ∷ es) = Writes l ∷ staying es
staying (Assumes a ∷ es) = Assumes a ∷ staying es
staying (Fails core ∷ es) = Fails core ∷ staying es
staying (Retires v ∷ es) = staying es

staying-none : (es : List Entry) → NoneRetires (staying es)
staying-none [] = tt
staying-none (Accepts c ∷ es) = staying-none es
staying-none (Writes l ∷ es) = staying-none es
staying-none (Assumes a ∷ es) = staying-none es
staying-none (Fails core ∷ es) = staying-none es
staying-none (Retires v ∷ es) = staying-none es

staying-lines : (es : List Entry) → lines_of (staying es) ≡ lines_of es
staying-lines [] = refl
staying-lines (Accepts c ∷ es) = staying-lines es
staying-lines (Writes l ∷ es) = ap (λ ls. l ∷ ls) (staying-lines es)
staying-lines (Assumes a ∷ es) = staying-lines es
staying-lines (Fails core ∷ es) = staying-lines es
staying-lines (Retires v ∷ es) = staying-lines es

record Walks (P : List Clause) (m : MarkedLog) (es : List Entry) (t : ProofState) : Type 0 where
  leads : Leads P (staying es) t.present
  inputs : t.logged.inputs.clauses ≡ m.inputs.clauses ++ accepted_of (staying es)

walks : (P : List Clause) (m : MarkedLog) (es : List Entry) (t : ProofState) → TakesAll (state_of P m) (logged_lines (Text true) es) t → Walks P m es t
walks P m [] t g = record {
  leads = ap (λ (x : ProofState). x.present) g;
  inputs = ap (λ (x : ProofState). x.logged.inputs.clauses) (sym g) ∙ sym (append-nil m.inputs.clauses);
}
walks P m (Accepts c ∷ es) t (r, q, g) =
    let next : MarkedLog = record m { inputs = with_one_more m.inputs c } in
    let w = walks (P ++ c ∷ []) next es t (subst (λ (x : ProofState). TakesAll x (logged_lines (Text true) es) t) q g) in
    record { leads = (P ++ c ∷ [], refl, w.leads); inputs = w.inputs ∙ append_assoc m.inputs.clauses (c ∷ []) (accepted_of (staying es)) }
walks P m (Writes (Add c) ∷ es) t (r, (f, q), g) =
    let w = walks (P ++ c ∷ []) m es t (subst (λ (x : ProofState). TakesAll x (logged_lines (Text true) es) t) q g) in
    record { leads = (P ++ c ∷ [], (f, refl), w.leads); inputs = w.inputs }
walks P m (Writes (Delete c) ∷ es) t (r, (R, o, q), g) =
    let w = walks R m es t (subst (λ (x : ProofState). TakesAll x (logged_lines (Text true) es) t) q g) in
    record { leads = (R, o, w.leads); inputs = w.inputs }
walks P m (Assumes a ∷ es) t (r, q, g) =
    let next : MarkedLog = record m { assumed = a } in
    let w = walks P next es t (subst (λ (x : ProofState). TakesAll x (logged_lines (Text true) es) t) q g) in
    record { leads = (P, refl, w.leads); inputs = w.inputs }
walks P m (Fails core ∷ es) t (r, (within, f, q), g) =
    let next : MarkedLog = record m { cores = m.cores ++ (length m.inputs.clauses, core) ∷ [] } in
    let w = walks P next es t (subst (λ (x : ProofState). TakesAll x (logged_lines (Text true) es) t) q g) in
    record { leads = (P, (f, refl), w.leads); inputs = w.inputs }
walks P m (Retires v ∷ es) t g = let w = walks P m es t g in record { leads = w.leads; inputs = w.inputs }

-- 5. The end of all lines.
swapped : (P Q : List Clause) → SameClauses (P ++ Q) (Q ++ P)
swapped [] Q = subst (SameClauses Q) (sym (append-nil Q)) (same_clauses-self Q)
swapped (p ∷ P) Q = (Q ++ P, (Q, p, P, refl, same_set-self p, refl), swapped P Q)

record EndsWith (P : List Clause) (ls : List Line) (t : ProofState) : Type 0 where
  present : List Clause
  steps : Derives P ls present
  conflicts : Conflicts t.present [] → Conflicts present []

ends-with : (P : List Clause) (first : List Line) (Q given rest : List Clause) (logged : List Entry) (t : ProofState) → LeadsTo P first Q →
    Q ≡ given ++ rest → TakesAll (state_of [] nothing_logged) (logged_lines (Text true) logged) t → t.logged.inputs.clauses ≡ given →
    EndsWith P (first ++ lines_of logged) t
ends-with P first Q given rest logged t l e takes inputs =
    let w = walks [] nothing_logged logged t takes in
    let lines = lines_of logged in
    let (S, d, s) = leads_derives [] (staying logged) t.present (staying-none logged) w.leads in
    let d1 : Derives given lines S = subst (λ ls. Derives given ls S) (staying-lines logged)
    (subst (λ X. Derives X (lines_of (staying logged)) S) (sym w.inputs ∙ inputs) d) in
    let d2 : Derives (rest ++ given) lines (rest ++ S) = derives_beside rest given lines S d1 in
    let same : SameClauses (rest ++ given) l.present =
    same_clauses-through (rest ++ given) (given ++ rest) l.present (swapped rest given) (subst (λ X. SameClauses X l.present) e l.same) in
    let (S', d3, s') = derives_same (rest ++ given) l.present lines lines (rest ++ S) same (same_lines-self lines) d2 in
    record {
      present = S';
      steps = derives_append P first l.present lines S' l.steps d3;
      conflicts = λ k. conflicts_same (rest ++ S) S' [] s'
          (conflicts_more S (rest ++ S) [] [] (covered_by_more S (rest ++ S) (λ x h. ∈-append_right x rest S h)) (λ x h. h)
          (conflicts_same t.present S [] (same_clauses-back S t.present s) k));
    }

-- 6. The proof.
pub proven-behind : (format : ProofFormat) (f g : Formula) (stack : List Clause) (lines : List Line) (c d : Conclusion) (old led back : Taken) →
    has_marks format ≡ false → AreLow f.clauses → IsMadeOf f g stack lines → (d ≡ Decided None → c ≡ Decided None) →
    (led.bytes ≡ old.bytes ++ lines_written (encoding_of format) (plain_lines lines)) × (led.faults ≡ old.faults) →
    IsProven format g.clauses c led back → IsProven format f.clauses d old back
proven-behind format f g stack lines c d old led back plain low made none (bytes, faults) p =
    let all = lines ++ lines_of p.logged in
    let e = ends-with f.clauses lines g.clauses p.given p.rest p.logged p.marked.after made.leads p.begins p.marked.takes p.marked.inputs in
    let taken = journal_taken [] nothing_logged (own f.clauses all) e.present (own-leads [] f.clauses all e.present e.steps) (own-stays f.clauses all)
    (own-assumed f.clauses all) in
    let lead-low : AreInRange (plain_lines lines) =
    plain-low lines (spoken_wider (IsNamedBy f.clauses) (λ l. l < 2 ^ 29) lines (λ l (e, m, i). low e l m i) made.spoken) in
    record {
      logged = own f.clauses all;
      bytes = p.bytes ∙ ap (λ xs. xs ++ logged_bytes format p.logged) bytes
          ∙ append_assoc old.bytes (lines_written (encoding_of format) (plain_lines lines)) (logged_bytes format p.logged)
          ∙ ap (λ xs. old.bytes ++ xs) (ap (λ xs. lines_written (encoding_of format) (plain_lines lines) ++ xs) (p.plain plain)
          ∙ sym (written-more (encoding_of format) (plain_lines lines) (plain_lines (lines_of p.logged)))
          ∙ ap (lines_written (encoding_of format)) (sym (map-append plain_line lines (lines_of p.logged)) ∙ sym (own-bytes format f.clauses all plain)));
      faults = p.faults ∙ faults;
      plain = λ n. ap (lines_written (encoding_of format)) (own-bytes format f.clauses all n ∙ ap plain_lines (sym (own-lines f.clauses all)));
      in_range = own-range f.clauses all low (subst AreInRange (sym (map-append plain_line lines (lines_of p.logged)))
          (λ line l h i. ⊎_elim (λ k. lead-low line l k i) (λ k. p.in_range line l (plain-logged p.logged line k) i)
          (∈-append_cases line (plain_lines lines) (plain_lines (lines_of p.logged)) h)));
      derives = subst (IsDerivation f.clauses) (sym (own-lines f.clauses all)) (derives_behind f.clauses lines g.clauses (lines_of p.logged) made.leads p.derives);
      refutes = λ n. subst (Refutes f.clauses) (sym (own-lines f.clauses all)) (refutes_behind f.clauses lines g.clauses (lines_of p.logged) made.leads (p.refutes (none n)));
      given = f.clauses;
      rest = [];
      begins = sym (append-nil f.clauses);
      whole = λ some. absurd (some refl);
      marked = record {
        after = state_of e.present taken.logged;
        takes = taken.takes;
        inputs = taken.inputs ∙ own-accepted f.clauses all;
        assumed = taken.assumed ∙ own-behind f.clauses all;
        cores = taken.cores;
        refutes = λ n. e.conflicts (p.marked.refutes (none n));
      };
    }
