-- An open proof as entries are logged.
use Rattle.std.proofs.Common.{◌≡◌, ℕ, ◌<◌, ◌*◌, ◌/◌, false, Option, Some, List, [], ◌∷◌, inl, inr, ⊎_elim, map, refl, sym, ap, ◌∙◌, arith, ◌+◌, Bool, true, None, ◌++◌, Ok, Err, subst, append_assoc}
use Rattle.std.specs.Prelude.{flat_map, is_some, take, not, ◌&&◌}
use Rattle.std.proofs.lemmas.List.{append-nil, map-append}
use Rattle.std.specs.declared.io.Error.{Error}
use Rattle.std.proofs.lemmas.Grind.{flat_map-append}
use Rattle.varisat_theory.specs.promises.Membership.{◌∈◌}
use Rattle.varisat_theory.specs.promises.Literals.{Literal, variable_of, Clause}
use Rattle.varisat_theory.specs.promises.Derivations.{Add, Delete}
use Rattle.varisat_theory.specs.promises.Journals.{Entry, Accepts, Writes, Assumes, Fails, Retires, rename_entry, lines_of}
use Rattle.varisat_prop.proofs.trails.LiteralValues.{same-literal}
use Rattle.varisat_names.proofs.Maps.{is-some}
use Rattle.varisat_solver.specs.promises.States.{State}
use Rattle.varisat_tracer.specs.promises.Carried.{carry}
use Rattle.varisat_solver.specs.promises.OpenProofs.{entries_over, IsThere, OpenProof, opened_state, IsOpen, lines_over, IsWrittenWhereOpen, ProofFits, GoesOnWriting, GoesOnFailing, searched_under, first_proof, BarsClauses, BarsAssumptions}
use Rattle.varisat_solver.specs.inside.Spaces.{Spaces, Carrying, IsCounted, AllSpeakOf, KeepVariables, Links}
use Rattle.varisat_solver.proofs.calls.Carried.{carry-at, carry-sign}
use Rattle.varisat_solver.proofs.calls.SpacesAgree.{carry-same, map-same}
use Rattle.varisat_solver.proofs.entries.LoggedEntries.{none-in, OnlyLeave}
use Rattle.varisat_theory.specs.promises.Renaming.{rename_line}
use Rattle.varisat_theory.proofs.journals.Journals.{lines_append}
use Rattle.varisat_formula.specs.promises.Streams.{Taken}
use Rattle.varisat_lines.specs.declared.format.ProofFormat.{ProofFormat}
use Rattle.varisat_lines.specs.declared.format.ProofFormat.TheVariants.{Drat, BinaryDrat, Marked}
use Rattle.varisat_lines.specs.declared.format.Encoding.{Encoding}
use Rattle.varisat_lines.specs.promises.Lines.{encoding_of, plain_line, plain_lines, has_marks}
use Rattle.varisat_lines.specs.promises.Steps.{lines_written}
use Rattle.varisat_lines.specs.promises.Written.{line_written}
use Rattle.varisat_lines.specs.promises.Logging.{logged_lines, entry_lines, logged_bytes}
use Rattle.varisat_proof.specs.promises.Proving.{OpenState, ProofParts, logged, marked_searched, Flushes, bars_clauses, bars_assumptions}
use Rattle.varisat_tracer.specs.inside.Tracing.{BreaksProof}
use Rattle.varisat_tracer.proofs.Logging.{unopened-unbroken}
use Rattle.varisat_solver.specs.promises.Journals.{LogsToProof}
use Rattle.varisat_proof.specs.promises.Proving as proving

-- As which variables that is written which was logged.

-- entries are the same under names that agree where they speak, and on the variables that leave
entries-alike : (f g : Literal → Literal) (are : Literal → Type 0) (es : List Entry) → ((l : Literal) → are l → f l ≡ g l) →
    ((i : ℕ) → Retires i ∈ es → f (2 * i) ≡ g (2 * i)) → AllSpeakOf are es → map (rename_entry f) es ≡ map (rename_entry g) es
entries-alike f g are [] e v s = refl
entries-alike f g are (Accepts c ∷ es) e v (s, rest) =
    ap (λ d. Accepts d ∷ map (rename_entry f) es) (map-same f g c (λ l h. e l (s l h)))
    ∙ ap (λ xs. Accepts (map g c) ∷ xs) (entries-alike f g are es e (λ i h. v i (inr h)) rest)
entries-alike f g are (Writes (Add c) ∷ es) e v (s, rest) =
    ap (λ d. Writes (Add d) ∷ map (rename_entry f) es) (map-same f g c (λ l h. e l (s l h)))
    ∙ ap (λ xs. Writes (Add (map g c)) ∷ xs) (entries-alike f g are es e (λ i h. v i (inr h)) rest)
entries-alike f g are (Writes (Delete c) ∷ es) e v (s, rest) =
    ap (λ d. Writes (Delete d) ∷ map (rename_entry f) es) (map-same f g c (λ l h. e l (s l h)))
    ∙ ap (λ xs. Writes (Delete (map g c)) ∷ xs) (entries-alike f g are es e (λ i h. v i (inr h)) rest)
entries-alike f g are (Assumes a ∷ es) e v (s, rest) =
    ap (λ d. Assumes d ∷ map (rename_entry f) es) (map-same f g a (λ l h. e l (s l h)))
    ∙ ap (λ xs. Assumes (map g a) ∷ xs) (entries-alike f g are es e (λ i h. v i (inr h)) rest)
entries-alike f g are (Fails core ∷ es) e v (s, rest) =
    ap (λ d. Fails d ∷ map (rename_entry f) es) (map-same f g core (λ l h. e l (s l h)))
    ∙ ap (λ xs. Fails (map g core) ∷ xs) (entries-alike f g are es e (λ i h. v i (inr h)) rest)
entries-alike f g are (Retires i ∷ es) e v (s, rest) =
    ap (λ l. Retires (variable_of l) ∷ map (rename_entry f) es) (v i (inl refl))
    ∙ ap (λ xs. Retires (variable_of (g (2 * i))) ∷ xs) (entries-alike f g are es e (λ j h. v j (inr h)) rest)

map-itself : (f : Literal → Literal) (c : List Literal) → ((l : Literal) → f l ≡ l) → map f c ≡ c
map-itself f [] e = refl
map-itself f (l ∷ c) e = ap (λ x. x ∷ map f c) (e l) ∙ ap (λ ls. l ∷ ls) (map-itself f c e)

entries-themselves : (es : List Entry) → map (rename_entry (λ l. l)) es ≡ es
entries-themselves [] = refl
entries-themselves (Accepts c ∷ es) = ap (λ d. Accepts d ∷ map (rename_entry (λ l. l)) es) (map-itself (λ l. l) c (λ l. refl))
    ∙ ap (λ xs. Accepts c ∷ xs) (entries-themselves es)
entries-themselves (Writes (Add c) ∷ es) = ap (λ d. Writes (Add d) ∷ map (rename_entry (λ l. l)) es) (map-itself (λ l. l) c (λ l. refl))
    ∙ ap (λ xs. Writes (Add c) ∷ xs) (entries-themselves es)
entries-themselves (Writes (Delete c) ∷ es) = ap (λ d. Writes (Delete d) ∷ map (rename_entry (λ l. l)) es) (map-itself (λ l. l) c (λ l. refl))
    ∙ ap (λ xs. Writes (Delete c) ∷ xs) (entries-themselves es)
entries-themselves (Assumes a ∷ es) = ap (λ d. Assumes d ∷ map (rename_entry (λ l. l)) es) (map-itself (λ l. l) a (λ l. refl))
    ∙ ap (λ xs. Assumes a ∷ xs) (entries-themselves es)
entries-themselves (Fails core ∷ es) = ap (λ d. Fails d ∷ map (rename_entry (λ l. l)) es) (map-itself (λ l. l) core (λ l. refl))
    ∙ ap (λ xs. Fails core ∷ xs) (entries-themselves es)
entries-themselves (Retires i ∷ es) = ap (λ n. Retires n ∷ map (rename_entry (λ l. l)) es) (half i) ∙ ap (λ xs. Retires i ∷ xs) (entries-themselves es)
  where
    half : (i : ℕ) → (2 * i) / 2 ≡ i
    half i = omega arith

module _ (w : Carrying) (p : Spaces) (s : State) (k : Links w p s) where
  -- what was logged is written as it was, whatever variables identities get that are made from now on
  pub written-alike : (variables : ℕ → Option ℕ) → KeepVariables s.naming.made s.variables variables → entries_over variables s.logged ≡ entries_over
      s.variables s.logged
  written-alike variables keep = entries-alike (carry variables) (carry s.variables) (IsCounted s.counted) s.logged
      (λ l h. carry-same variables s.variables l (keep (variable_of l) (k.well_formed.counted (variable_of l) h)))
      (λ i h. carry-same variables s.variables (2 * i) (keep (variable_of (2 * i)) (below i h))) k.logged.spoken
    where
      below : (i : ℕ) → Retires i ∈ s.logged → variable_of (2 * i) < s.naming.made
      below i h = let m = ((k.logged.left i).0 h).0 in omega (arith, m)

  -- an identity that has not left is live
  there-live : (i : ℕ) → IsThere s.naming.made s.logged i → (x : ℕ) × (w.global i ≡ Some x)
  there-live i (h, n) = ⊎_elim (λ e. absurd (n ((k.logged.left i).1 (h, e)))) (λ r. r) (is-some (w.global i))

  pub there-present : (i : ℕ) → IsThere s.naming.made s.logged i → (x : ℕ) × (s.variables i ≡ Some x)
  there-present i t = let (x, e) = there-live i t in (x, k.variables i x e)

  -- live ones have different variables
  pub there-apart : (i j x : ℕ) → IsThere s.naming.made s.logged i → IsThere s.naming.made s.logged j → s.variables i ≡ Some x → s.variables j ≡ Some x → i ≡ j
  there-apart i j x t u a b =
      let (y, e) = there-live i t in
      let (z, f) = there-live j u in
      let first : Some y ≡ Some x = sym (k.variables i y e) ∙ a in
      let second : Some z ≡ Some x = sym (k.variables j z f) ∙ b in
      let same : y ≡ z = cc in
      let both : Some i ≡ Some j = sym (k.identities.one_to_one.back y i e) ∙ ap w.identity same ∙ k.identities.one_to_one.back z j f in
      cc

  -- where nothing was ever hidden it is written as it is
  pub written-plain : s.ever_hidden ≡ false → entries_over s.variables s.logged ≡ s.logged
  written-plain shown =
      entries-alike (carry s.variables) (λ l. l) (IsCounted s.counted) s.logged (λ l h.
      let i = variable_of l in
      let at = k.variables i i (k.identities.one_to_one.there i i ((k.plain shown).all i (k.well_formed.counted i h))) in
      same-literal (carry s.variables l) l (carry-at s.variables l i at) (carry-sign s.variables l))
      (λ i h. absurd (none-in s.logged i (k.logged.stays shown) h)) k.logged.spoken
      ∙ entries-themselves s.logged

-- 1. Bytes of entries.
pub bytes-more : (f : ProofFormat) (first more : List Entry) → logged_bytes f (first ++ more) ≡ logged_bytes f first ++ logged_bytes f more
bytes-more f first more = ap (λ ls. flat_map (line_written (encoding_of f)) ls) (flat_map-append (entry_lines (encoding_of f)) first more)
    ∙ flat_map-append (line_written (encoding_of f)) (logged_lines (encoding_of f) first) (logged_lines (encoding_of f) more)

-- in DRAT entries have no lines but those that add or delete a clause
plainly-logged : (f : ProofFormat) → has_marks f ≡ false → (es : List Entry) → logged_lines (encoding_of f) es ≡ plain_lines (lines_of es)
plainly-logged f d [] = refl
plainly-logged f d (Writes l ∷ es) = ap (λ ls. plain_line l ∷ ls) (plainly-logged f d es)
plainly-logged Drat d (Accepts c ∷ es) = plainly-logged Drat d es
plainly-logged Drat d (Assumes a ∷ es) = plainly-logged Drat d es
plainly-logged Drat d (Fails core ∷ es) = plainly-logged Drat d es
plainly-logged Drat d (Retires v ∷ es) = plainly-logged Drat d es
plainly-logged BinaryDrat d (Accepts c ∷ es) = plainly-logged BinaryDrat d es
plainly-logged BinaryDrat d (Assumes a ∷ es) = plainly-logged BinaryDrat d es
plainly-logged BinaryDrat d (Fails core ∷ es) = plainly-logged BinaryDrat d es
plainly-logged BinaryDrat d (Retires v ∷ es) = plainly-logged BinaryDrat d es
plainly-logged Marked d (e ∷ es) = absurd (let z : true ≡ false = d in cc)

-- so the bytes of a DRAT proof are those of these lines
pub plain-bytes : (f : ProofFormat) → has_marks f ≡ false → (es : List Entry) → logged_bytes f es ≡ lines_written (encoding_of f)
    (plain_lines (lines_of es))
plain-bytes f d es = ap (lines_written (encoding_of f)) (plainly-logged f d es)

-- 2. Further bytes.
pub goes-on-none : (p : Option OpenProof) → GoesOnWriting p p
goes-on-none None = refl
goes-on-none (Some p) = ([], ap (λ (xs : List ℕ). let q : OpenProof = record p { bytes = xs } in Some q) (sym (append-nil p.bytes)))

pub goes-on-through : (p q r : Option OpenProof) → GoesOnWriting p q → GoesOnWriting q r → GoesOnWriting p r
goes-on-through None q r e h = subst (λ (x : Option OpenProof). GoesOnWriting x r) e h
goes-on-through (Some p) q r (more, e) h =
    let (further, f) = subst (λ (x : Option OpenProof). GoesOnWriting x r) e h in
    (more ++ further, f ∙ ap (λ (xs : List ℕ). let q : OpenProof = record p { bytes = xs } in Some q) (append_assoc p.bytes more further))

-- and its target failed
pub goes-on-unfailed : (p : Option OpenProof) → GoesOnFailing 0 p p
goes-on-unfailed None = (refl, refl)
goes-on-unfailed (Some p) = (
  [],
  ap (λ (xs : List ℕ). let q : OpenProof = record p { bytes = xs } in Some q) (sym (append-nil p.bytes))
      ∙ ap (λ (n : ℕ). let q : OpenProof = record p { bytes = p.bytes ++ []; faults = n } in Some q) (let z : p.faults ≡ p.faults + 0 = omega arith in z),
)

pub goes-on-failing : (n : ℕ) (p q r : Option OpenProof) → GoesOnWriting p q → GoesOnFailing n q r → GoesOnFailing n p r
goes-on-failing n None q r e h = subst (λ (x : Option OpenProof). GoesOnFailing n x r) e h
goes-on-failing n (Some p) q r (more, e) h =
    let (further, f) = subst (λ (x : Option OpenProof). GoesOnFailing n x r) e h in (
      more ++ further,
      f ∙ ap (λ (xs : List ℕ). let o : OpenProof = record p { bytes = xs; faults = p.faults + n } in Some o) (append_assoc p.bytes more further),
    )

-- 3. What fits.
pub lines-renamed : (f : Literal → Literal) (es : List Entry) → lines_of (map (rename_entry f) es) ≡ map (rename_line f) (lines_of es)
lines-renamed f [] = refl
lines-renamed f (Accepts c ∷ es) = lines-renamed f es
lines-renamed f (Writes line ∷ es) = ap (λ ls. rename_line f line ∷ ls) (lines-renamed f es)
lines-renamed f (Assumes a ∷ es) = lines-renamed f es
lines-renamed f (Fails core ∷ es) = lines-renamed f es
lines-renamed f (Retires v ∷ es) = lines-renamed f es

-- lines that are written behind others
pub lines-behind : (variables : ℕ → Option ℕ) (before entries : List Entry) → lines_over variables (before ++ entries) ≡ lines_over variables before
    ++ lines_over variables entries
lines-behind variables before entries = ap (map (rename_line (carry variables))) (lines_append before entries)
    ∙ map-append (rename_line (carry variables)) (lines_of before) (lines_of entries)

entries-behind : (variables : ℕ → Option ℕ) (before entries : List Entry) → entries_over variables (before ++ entries) ≡ entries_over variables before
    ++ entries_over variables entries
entries-behind variables before entries = map-append (rename_entry (carry variables)) before entries

-- where entries are logged as they were, so are lines
pub lines-of-entries : (old new : ℕ → Option ℕ) (logged : List Entry) → entries_over new logged ≡ entries_over old logged → lines_over new logged ≡ lines_over
    old logged
lines-of-entries old new logged e = sym (lines-renamed (carry new) logged) ∙ ap lines_of e ∙ lines-renamed (carry old) logged

-- entries were logged to it
on-logged : (variables : ℕ → Option ℕ) (before after entries : List Entry) (proof : Option OpenProof) (new : Option OpenState) →
    IsWrittenWhereOpen variables before proof →
    proving.IsWrittenIf (opened_state proof) (logged (map (rename_entry (carry variables)) entries)) new → after ≡ before ++ entries →
    (now : Option OpenProof) × GoesOnWriting proof now × ProofFits new variables after now
on-logged variables before after entries None new w e joined = (None, refl, record { same = e; written = tt })
on-logged variables before after entries (Some p) None w e joined = absurd e
on-logged variables before after entries (Some p) (Some o) w e joined =
    let given = entries_over variables entries in
    let more = logged_bytes p.format given in
    let now : OpenProof = record p { bytes = p.bytes ++ more } in (
      Some now,
      (more, refl),
      record {
        same =
            ap (λ (x : OpenState). Some x) e.rest
            ∙ ap (λ (x : Taken). let y : OpenState = record { format = p.format; taken = x; searched = p.searched } in Some y)
            (ap (λ (xs : List ℕ). let t : Taken = record { bytes = xs; faults = o.taken.faults } in t) (e.bytes ∙ append_assoc p.first p.bytes more)
            ∙ ap (λ (n : ℕ). let t : Taken = record { bytes = p.first ++ (p.bytes ++ more); faults = n } in t) e.faults);
        written = ap (λ xs. xs ++ more) w ∙ sym (bytes-more p.format (entries_over variables before) given)
            ∙ ap (logged_bytes p.format) (sym (ap (entries_over variables) joined ∙ entries-behind variables before entries));
      },
    )

-- what was logged before is written as it was
other-logged : (old new : ℕ → Option ℕ) (logged : List Entry) (proof : Option OpenProof) → entries_over new logged ≡ entries_over old logged →
    IsWrittenWhereOpen old logged proof → IsWrittenWhereOpen new logged proof
other-logged old new logged None e w = tt
other-logged old new logged (Some p) e w = w ∙ ap (logged_bytes p.format) (sym e)

pub fits-alike : (o : Option OpenState) (old new : ℕ → Option ℕ) (logged : List Entry) (proof : Option OpenProof) →
    entries_over new logged ≡ entries_over old logged → ProofFits o old logged proof → ProofFits o new logged proof
fits-alike o old new logged proof e f = record { same = f.same; written = other-logged old new logged proof e f.written }

pub proof-goes-on : (p q : ProofParts) (old new : ℕ → Option ℕ) (before after : List Entry) (proof : Option OpenProof) →
    ProofFits p.opened old before proof → entries_over new before ≡ entries_over old before → LogsToProof new before after p q →
    (now : Option OpenProof) × GoesOnWriting proof now × ProofFits q.opened new after now
proof-goes-on p q old new before after proof f same t =
    on-logged new before after t.entries proof q.opened (other-logged old new before proof same f.written)
    (subst (λ (o : Option OpenState). proving.IsWrittenIf o (logged (map (rename_entry (carry new)) t.entries)) q.opened) f.same t.logged.written) t.joined

-- no line was logged
pub lines-assumed : (variables : ℕ → Option ℕ) (logged : List Entry) (a : List Literal) → lines_over variables (logged ++ Assumes a ∷ []) ≡ lines_over
    variables logged
lines-assumed variables logged a = ap (map (rename_line (carry variables))) (lines_append logged (Assumes a ∷ []) ∙ append-nil (lines_of logged))

pub lines-accepted : (variables : ℕ → Option ℕ) (logged : List Entry) (c : Clause) → lines_over variables (logged ++ Accepts c ∷ []) ≡ lines_over
    variables logged
lines-accepted variables logged c = ap (map (rename_line (carry variables))) (lines_append logged (Accepts c ∷ []) ∙ append-nil (lines_of logged))

-- where something holds a proof, one is open
pub open-there : (o : Option OpenState) (variables : ℕ → Option ℕ) (logged : List Entry) (proof : Option OpenProof) (b : Bool) →
    ProofFits o variables logged proof →
    b ≡ is_some o → b ≡ true → IsOpen proof
open-there o variables logged None b f e t = let z : true ≡ false = sym t ∙ e ∙ ap (λ (x : Option OpenState). is_some x) f.same in absurd cc
open-there o variables logged (Some p) b f e t = (p, refl)

-- so it is where a target failed
pub broken-open : (p q : ProofParts) (variables : ℕ → Option ℕ) (logged : List Entry) (proof : Option OpenProof) → ProofFits p.opened variables logged proof →
    BreaksProof p 1 q → IsOpen proof
broken-open p q variables logged None f b = absurd (let z = unopened-unbroken p q 1 f.same b in omega (arith, z))
broken-open p q variables logged (Some o) f b = (o, refl)

-- what holds the proof, where it broke off in entries that it was logged, is that of a proof with further bytes and so many faults more
begun-on : (entries : List Entry) (faults : ℕ) (proof : Option OpenProof) (new : Option OpenState) →
    proving.IsBegunIf (opened_state proof) (logged entries) faults new → (now : Option OpenProof) × GoesOnFailing faults proof now
    × (new ≡ opened_state now)
begun-on entries faults None new (e, n) = (None, (refl, n), e)
begun-on entries faults (Some p) None b = absurd b
begun-on entries faults (Some p) (Some o) b =
    let (n, e) = b.bytes in
    let more = take n (lines_written (encoding_of p.format) (logged entries (encoding_of p.format))) in
    let now : OpenProof = record p { bytes = p.bytes ++ more; faults = p.faults + faults } in (
      Some now,
      (more, refl),
      ap (λ (x : OpenState). Some x) b.rest
          ∙ ap (λ (x : Taken). let y : OpenState = record { format = p.format; taken = x; searched = p.searched } in Some y)
          (ap (λ (xs : List ℕ). let t : Taken = record { bytes = xs; faults = o.taken.faults } in t) (e ∙ append_assoc p.first p.bytes more)
          ∙ ap (λ (k : ℕ). let t : Taken = record { bytes = p.first ++ (p.bytes ++ more); faults = k } in t) b.faults),
    )

pub broken-on : (p q : ProofParts) (faults : ℕ) (proof : Option OpenProof) → p.opened ≡ opened_state proof → BreaksProof p faults q →
    (now : Option OpenProof) × GoesOnFailing faults proof now × (q.opened ≡ opened_state now)
broken-on p q faults proof e (entries, b, _) =
    begun-on entries faults proof q.opened (subst (λ (o : Option OpenState). proving.IsBegunIf o (logged entries) faults q.opened) e b)

-- 4. How a proof opens and closes.

pub first-same : (f : ProofFormat) (t : Taken) → (let o : OpenState = record { format = f; taken = t; searched = false } in Some o) ≡ opened_state
    (Some (first_proof f t))
first-same f t = ap (λ (xs : List ℕ). let o : OpenState =
    record { format = f; taken = record { bytes = xs; faults = t.faults }; searched = false } in Some o) (sym (append-nil t.bytes))

-- that variables leave has no line
pub leaves-unwritten : (variables : ℕ → Option ℕ) (e : Encoding) (logged : List Entry) → OnlyLeave logged → logged_lines e (entries_over variables logged) ≡ []
leaves-unwritten variables e [] o = refl
leaves-unwritten variables e (Accepts c ∷ es) o = absurd o
leaves-unwritten variables e (Writes line ∷ es) o = absurd o
leaves-unwritten variables e (Assumes a ∷ es) o = absurd o
leaves-unwritten variables e (Fails core ∷ es) o = absurd o
leaves-unwritten variables e (Retires v ∷ es) o = leaves-unwritten variables e es o

pub first-written : (variables : ℕ → Option ℕ) (f : ProofFormat) (t : Taken) (logged : List Entry) → OnlyLeave logged →
    IsWrittenWhereOpen variables logged (Some (first_proof f t))
first-written variables f t logged o = ap (lines_written (encoding_of f)) (sym (leaves-unwritten variables (encoding_of f) logged o))

-- what comes back as a proof closes, whatever errors may be
pub closed-back : {W : Type 0} (D E : Type 0) (taken : W → Taken) (opened : Option OpenState) (back : Option W) →
    proving.IsClosed {E = D} taken opened (Ok back) → proving.IsClosed {E = E} taken opened (Ok back)
closed-back D E taken None None h = tt
closed-back D E taken None (Some w) h = h
closed-back D E taken (Some p) None h = h
closed-back D E taken (Some p) (Some w) h = h

-- and where it could not be flushed
pub closed-fails : {W D E : Type 0} (taken : W → Taken) (opened : Option OpenState) (d : D) (e : E) (w : W) →
    proving.IsClosed taken opened (Err (d, w)) → proving.IsClosed taken opened (Err (e, w))
closed-fails taken None d e w h = h
closed-fails taken (Some p) d e w h = h

-- where nothing holds a proof, none is open
pub none-there : (o : Option OpenState) (proof : Option OpenProof) → o ≡ opened_state proof → is_some o ≡ false → proof ≡ None
none-there o None e f = refl
none-there o (Some p) e f = let z : true ≡ false = ap (λ (x : Option OpenState). is_some x) (sym e) ∙ f in absurd cc

pub none-opened : (o : Option OpenState) → is_some o ≡ false → o ≡ None
none-opened None f = refl
none-opened (Some o) f = let z : true ≡ false = f in absurd cc

-- 5. How a search ends under a proof.
pub searched-state : (o : Option OpenProof) → marked_searched (opened_state o) ≡ opened_state (searched_under o)
searched-state None = refl
searched-state (Some p) = refl

pub searched-written : (variables : ℕ → Option ℕ) (logged : List Entry) (o : Option OpenProof) → IsWrittenWhereOpen variables logged o →
    IsWrittenWhereOpen variables logged (searched_under o)
searched-written variables logged None w = tt
searched-written variables logged (Some p) w = w

pub searched-fits : (o : Option OpenState) (variables : ℕ → Option ℕ) (logged : List Entry) (proof : Option OpenProof) → ProofFits o variables logged proof →
    ProofFits (marked_searched o) variables logged (searched_under proof)
searched-fits o variables logged proof f =
    record { same = ap marked_searched f.same ∙ searched-state proof; written = searched-written variables logged proof f.written }

-- some proof fitted before it was marked
pub fitted-before : (o : Option OpenState) (variables : ℕ → Option ℕ) (logged : List Entry) (proof : Option OpenProof) →
    ProofFits (marked_searched o) variables logged proof → (before : Option OpenProof) × ProofFits o variables logged before
fitted-before o variables logged proof f = go o proof f.same f.written
  where
    go : (o : Option OpenState) (proof : Option OpenProof) → marked_searched o ≡ opened_state proof → IsWrittenWhereOpen variables logged proof →
        (before : Option OpenProof) × ProofFits o variables logged before
    go None proof e w = (None, record { same = refl; written = tt })
    go (Some a) None e w = absurd cc
    go (Some a) (Some p) e w =
        let q : OpenProof = record p { searched = a.searched } in
        let was : OpenState = record a { searched = true } in
        let took : Taken = record { bytes = p.first ++ p.bytes; faults = p.faults } in
        let is : OpenState = record { format = p.format; taken = took; searched = p.searched } in
        let some : Some was ≡ Some is = e in
        let same : was ≡ is = cc in (
          Some q,
          record {
            same = ap (λ (x : OpenState). let y : OpenState = record x { searched = a.searched } in Some y) same;
            written = w;
          },
        )

-- where it can't be flushed its target failed once more
pub flushed-on : (o h : Option OpenState) (cause : Error) (proof : Option OpenProof) → o ≡ opened_state proof →
    Flushes {E = Error} (marked_searched o) (Err cause) h → (now : Option OpenProof) × GoesOnFailing 1 (searched_under proof) now × (h ≡ opened_state now)
flushed-on o h cause proof e f = go proof (subst (λ (x : Option OpenState). Flushes {E = Error} (marked_searched x) (Err cause) h) e f)
  where
    go : (proof : Option OpenProof) → Flushes {E = Error} (marked_searched (opened_state proof)) (Err cause) h →
        (now : Option OpenProof) × GoesOnFailing 1 (searched_under proof) now × (h ≡ opened_state now)
    go None f = absurd f
    go (Some p) f =
        let now : OpenProof = record p { searched = true; faults = p.faults + 1 } in
        (Some now, ([], ap (λ (xs : List ℕ). let q : OpenProof = record now { bytes = xs } in Some q) (sym (append-nil p.bytes))), f)

pub goes-on-searched : (p q : Option OpenProof) → GoesOnWriting p q → GoesOnWriting (searched_under p) (searched_under q)
goes-on-searched None q e = ap searched_under e
goes-on-searched (Some p) q (more, e) = (more, ap searched_under e)

pub open-before : (p q : Option OpenProof) → GoesOnWriting p q → IsOpen q → IsOpen p
open-before None q e (o, is) = let z : None ≡ Some o = sym e ∙ is in absurd cc
open-before (Some p) q e o = (p, refl)

-- 6. What an open proof bars.

-- formats stay, so that assumptions are barred as they were
pub barred-before : (p q : Option OpenProof) → GoesOnWriting p q → BarsAssumptions q → BarsAssumptions p
barred-before None q g (o, e, b) = let z : None ≡ Some o = sym g ∙ e in absurd cc
barred-before (Some p) q (more, g) (o, e, b) =
    let now : OpenProof = record p { bytes = p.bytes ++ more } in
    let some : Some now ≡ Some o = sym g ∙ e in
    let same : now ≡ o = cc in
    (p, refl, ap (λ (x : OpenProof). has_marks x.format) same ∙ b)

pub barred-marked : (p : Option OpenProof) → BarsAssumptions (searched_under p) → BarsAssumptions p
barred-marked None (o, e, b) = absurd cc
barred-marked (Some p) (o, e, b) =
    let now : OpenProof = record p { searched = true } in
    let some : Some now ≡ Some o = e in
    let same : now ≡ o = cc in
    (p, refl, ap (λ (x : OpenProof). has_marks x.format) same ∙ b)

bars-state : (proof : Option OpenProof) → BarsAssumptions proof → bars_assumptions (opened_state proof) ≡ true
bars-state proof (o, e, b) = ap (λ (x : Option OpenProof). bars_assumptions (opened_state x)) e ∙ ap not b

state-bars : (proof : Option OpenProof) → bars_assumptions (opened_state proof) ≡ true → BarsAssumptions proof
state-bars None e = let z : false ≡ true = e in absurd cc
state-bars (Some p) e = (p, refl, go (has_marks p.format) e)
  where
    go : (b : Bool) → not b ≡ true → b ≡ false
    go true n = let z : false ≡ true = n in absurd cc
    go false n = refl

-- an open proof that was not marked yet is one that was
pub barred-fitted : (o : Option OpenState) (variables : ℕ → Option ℕ) (logged : List Entry) (before proof : Option OpenProof) →
    ProofFits o variables logged before → ProofFits (marked_searched o) variables logged proof → BarsAssumptions before → BarsAssumptions proof
barred-fitted o variables logged before proof f g b =
    state-bars proof (ap bars_assumptions (sym g.same) ∙ marked o ∙ ap bars_assumptions f.same ∙ bars-state before b)
  where
    marked : (o : Option OpenState) → bars_assumptions (marked_searched o) ≡ bars_assumptions o
    marked None = refl
    marked (Some p) = refl

-- what holds the proof bars what it bars
pub barred-there : (o : Option OpenState) (variables : ℕ → Option ℕ) (logged : List Entry) (proof : Option OpenProof) (b : Bool) →
    ProofFits o variables logged proof → b ≡ bars_assumptions o → b ≡ true → BarsAssumptions proof
barred-there o variables logged proof b f e t = state-bars proof (ap bars_assumptions (sym f.same) ∙ sym e ∙ t)

pub unbarred-there : (o : Option OpenState) (variables : ℕ → Option ℕ) (logged : List Entry) (proof : Option OpenProof) (b : Bool) →
    ProofFits o variables logged proof → b ≡ bars_assumptions o → b ≡ false → BarsAssumptions proof → ⊥
unbarred-there o variables logged proof b f e n s = let z : false ≡ true = sym n ∙ e ∙ ap bars_assumptions f.same ∙ bars-state proof s in cc

closed-state : (proof : Option OpenProof) → BarsClauses proof → bars_clauses (opened_state proof) ≡ true
closed-state proof (o, e, s, b) = ap (λ (x : Option OpenProof). bars_clauses (opened_state x)) e ∙ ap (λ x. x && not (has_marks o.format)) s ∙ ap not b

state-closed : (proof : Option OpenProof) → bars_clauses (opened_state proof) ≡ true → BarsClauses proof
state-closed None e = let z : false ≡ true = e in absurd cc
state-closed (Some p) e = let (s, b) = go p.searched (has_marks p.format) e in (p, refl, s, b)
  where
    go : (a b : Bool) → (a && not b) ≡ true → (a ≡ true) × (b ≡ false)
    go true true n = let z : false ≡ true = n in absurd cc
    go true false n = (refl, refl)
    go false b n = let z : false ≡ true = n in absurd cc

pub closed-there : (o : Option OpenState) (variables : ℕ → Option ℕ) (logged : List Entry) (proof : Option OpenProof) (b : Bool) →
    ProofFits o variables logged proof → b ≡ bars_clauses o → b ≡ true → BarsClauses proof
closed-there o variables logged proof b f e t = state-closed proof (ap bars_clauses (sym f.same) ∙ sym e ∙ t)

pub unclosed-there : (o : Option OpenState) (variables : ℕ → Option ℕ) (logged : List Entry) (proof : Option OpenProof) (b : Bool) →
    ProofFits o variables logged proof → b ≡ bars_clauses o → b ≡ false → BarsClauses proof → ⊥
unclosed-there o variables logged proof b f e n s = let z : false ≡ true = sym n ∙ e ∙ ap bars_clauses f.same ∙ closed-state proof s in cc
