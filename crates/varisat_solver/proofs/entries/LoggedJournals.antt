-- The log as a whole.
use Rattle.std.proofs.Common.{◌≡◌, ◌∙◌, ℕ, ◌^◌, ◌<◌, ◌≤◌, Bool, true, false, Option, Some, None, map, List, [], ◌∷◌, length, inl, inr, ⊎_elim, refl, sym, ap, subst, arith}
use Rattle.std.proofs.lemmas.Bool.{cases_lt}
use Rattle.std.proofs.lemmas.List.{get_or_past}
use Rattle.varisat_theory.specs.promises.Membership.{◌∈◌, ◌⊆◌}
use Rattle.varisat_theory.specs.promises.Literals.{Literal, Clause, variable_of}
use Rattle.varisat_theory.specs.promises.Derivations.{Add, Delete, IsDerivation, Refutes, SpeakOf}
use Rattle.varisat_theory.specs.promises.Held.{SameClauses}
use Rattle.varisat_theory.specs.promises.Renaming.{rename}
use Rattle.varisat_theory.specs.promises.Journals.{Entry, Accepts, Writes, Assumes, Fails, Retires, Leads, accepted_of, lines_of}
use Rattle.varisat_lines.specs.declared.format.ProofFormat.{ProofFormat}
use Rattle.varisat_lines.specs.declared.format.ProofFormat.TheVariants.{Drat, BinaryDrat, Marked}
use Rattle.varisat_lines.specs.promises.Lines.{encoding_of, plain_lines, has_marks}
use Rattle.varisat_lines.specs.promises.Steps.{lines_written}
use Rattle.varisat_proof.specs.promises.Marked.{state_of, nothing_logged}
use Rattle.varisat_proof.proofs.MarkedJournals.{journal_taken}
use Rattle.varisat_theory.specs.inside.Outcomes.{SearchOutcome}
use Rattle.varisat_theory.specs.inside.Outcomes as outcome
use Rattle.varisat_theory.proofs.clauses.Held.{conflicts_same}
use Rattle.varisat_theory.proofs.journals.Renaming.{map-∈}
use Rattle.varisat_theory.proofs.clauses.Lines.{derives_derivation}
use Rattle.varisat_theory.proofs.journals.Journals.{leads_derives, leads_refutes, leads_unique}
use Rattle.varisat_literals.specs.promises.Numbers.{variable_limit}
use Rattle.varisat_names.specs.promises.VarData.{dead, data_at}
use Rattle.varisat_names.specs.declared.variables.data.VarData.{VarData}
use Rattle.varisat_lines.specs.declared.format.Encoding.TheVariants.{Text}
use Rattle.varisat_lines.specs.declared.format.LineKind.{LineKind}
use Rattle.varisat_lines.specs.promises.Lines.{ProofLine, line_of_kind}
use Rattle.varisat_lines.specs.promises.Logging.{logged_lines}
use Rattle.varisat_lines.specs.promises.Written.{AreInRange}
use Rattle.varisat_solver.specs.promises.States.{State, Verdict, Unknown, Sat, Unsat, UnsatUnderAssumptions, IsRight}
use Rattle.varisat_solver.specs.promises.Calls.{answer_of}
use Rattle.varisat_solver.specs.promises.Journals.{IsJournal}
use Rattle.varisat_solver.specs.promises.OpenProofs.{OpenProof, entries_over, IsWrittenAs, IsWrittenWhereOpen}
use Rattle.varisat_solver.proofs.entries.OpenProofs.{lines-renamed, plain-bytes, there-present, there-apart, written-plain}
use Rattle.varisat_solver.specs.promises.ProofBytes.{IsMarkedDerivation}
use Rattle.varisat_solver.specs.promises.ProofCalls.{IsProofIfOpen}
use Rattle.varisat_solver.specs.promises.Calls.{IsRefuted, by_state}
use Rattle.varisat_tracer.specs.promises.Carried.{carry, variable_or_first}
use Rattle.varisat_solver.specs.inside.Spaces.{Spaces, Carrying, Links, Translation, IsCounted, AllSpeakOf, HeldFits, VerdictFits, without_core}
use Rattle.varisat_solver.specs.promises.Summaries.{Summary}
use Rattle.varisat_solver.specs.inside.Representations.{spaces, Represents}
use Rattle.varisat_solver.proofs.entries.LoggedEntries.{all-wider, lines-speak, OnlyLeave, unspoken, only-leave}
use Rattle.varisat_solver.proofs.steps.SearchLinks.{relinked}
use Rattle.varisat_solver.proofs.calls.SolverCalls.{logged-refuted}

led-of : (r : Translation) (fixed : List Literal) (share : List Clause) (o : SearchOutcome) → HeldFits r fixed share (without_core o) →
    (held : List Clause) × Leads [] r.logged held
led-of r fixed share outcome.Unknown q = (q.held, q.led)
led-of r fixed share (outcome.Sat found) q = (q.held, q.led)
led-of r fixed share outcome.Unsat (held, led, conflict) = (held, led)
led-of r fixed share (outcome.UnsatUnder core) q = (q.held, q.led)

-- Where nothing was ever hidden each identity is that of the global variable of its number, and so no more were made than may be.
few-made : (g : Summary) (s : State) → Represents g s → g.ledger.valid ≡ true → s.ever_hidden ≡ false → s.naming.made ≤ variable_limit
few-made g s st v h =
    let (w, k) = st.fits v in
    let n = length g.tables.kept in
    let few = (st.bounded v).globals in
    ⊎_elim
    (λ (l : n < s.naming.made).
    let live = k.identities.live n n ((k.plain h).all n l) in
    let gone : (data_at g.tables.kept n).deleted ≡ true = ap (λ (d : VarData). d.deleted) (get_or_past g.tables.kept n dead (omega arith)) in
    absurd (let z : false ≡ true = sym live ∙ gone in cc))
    (λ (l : s.naming.made ≤ n). omega (arith, l, few))
    (cases_lt n s.naming.made)

-- literals of identities of which few were made
module _ (made : ℕ) (counted : List ℕ) (few : made ≤ variable_limit) (below : (i : ℕ) → i ∈ counted → i < made) where
  line-in-range : (kind : LineKind) (c : Clause) (line : ProofLine) (l : Literal) → ((m : Literal) → m ∈ c → IsCounted counted m) →
      line ≡ line_of_kind kind c → l ∈ line.clause → l < 2 ^ 29
  line-in-range kind c line l f e i =
      let b = below (variable_of l) (f l (subst (λ (x : ProofLine). l ∈ x.clause) e i)) in
      omega (arith, b, few)

  logged-in-range : (logged : List Entry) → AllSpeakOf (IsCounted counted) logged → AreInRange (logged_lines (Text true) logged)
  logged-in-range [] w line l h i = absurd h
  logged-in-range (Accepts c ∷ es) (f, w) line l (inl e) i = line-in-range _ c line l f e i
  logged-in-range (Writes (Add c) ∷ es) (f, w) line l (inl e) i = line-in-range _ c line l f e i
  logged-in-range (Writes (Delete c) ∷ es) (f, w) line l (inl e) i = line-in-range _ c line l f e i
  logged-in-range (Assumes a ∷ es) (f, w) line l (inl e) i = line-in-range _ a line l f e i
  logged-in-range (Fails core ∷ es) (f, w) line l (inl e) i = line-in-range _ core line l f e i
  logged-in-range (Accepts c ∷ es) (f, w) line l (inr h) i = logged-in-range es w line l h i
  logged-in-range (Writes (Add c) ∷ es) (f, w) line l (inr h) i = logged-in-range es w line l h i
  logged-in-range (Writes (Delete c) ∷ es) (f, w) line l (inr h) i = logged-in-range es w line l h i
  logged-in-range (Assumes a ∷ es) (f, w) line l (inr h) i = logged-in-range es w line l h i
  logged-in-range (Fails core ∷ es) (f, w) line l (inr h) i = logged-in-range es w line l h i
  logged-in-range (Retires v ∷ es) (f, w) line l h i = logged-in-range es w line l h i

-- literals of identities whose variables are below the limit, as a proof writes them
module _ (variables : ℕ → Option ℕ) (below : (i x : ℕ) → variables i ≡ Some x → x < variable_limit) where
  carried-in-range : (l : Literal) → carry variables l < 2 ^ 29
  carried-in-range l = go (variables (variable_of l)) refl
    where
      go : (o : Option ℕ) → variables (variable_of l) ≡ o → carry variables l < 2 ^ 29
      go None e = let z = ap variable_or_first e in omega (arith, z)
      go (Some x) e = let z = ap variable_or_first e in let b = below (variable_of l) x e in omega (arith, z, b)

  line-over : (kind : LineKind) (c : Clause) (line : ProofLine) (l : Literal) → line ≡ line_of_kind kind (map (carry variables) c) → l ∈ line.clause →
      l < 2 ^ 29
  line-over kind c line l e i =
      let (m, j, q) = map-∈ (carry variables) l c (subst (λ (x : ProofLine). l ∈ x.clause) e i) in
      subst (λ n. n < 2 ^ 29) (sym q) (carried-in-range m)

  logged-over : (logged : List Entry) → AreInRange (logged_lines (Text true) (entries_over variables logged))
  logged-over [] line l h i = absurd h
  logged-over (Accepts c ∷ es) line l (inl e) i = line-over _ c line l e i
  logged-over (Writes (Add c) ∷ es) line l (inl e) i = line-over _ c line l e i
  logged-over (Writes (Delete c) ∷ es) line l (inl e) i = line-over _ c line l e i
  logged-over (Assumes a ∷ es) line l (inl e) i = line-over _ a line l e i
  logged-over (Fails core ∷ es) line l (inl e) i = line-over _ core line l e i
  logged-over (Accepts c ∷ es) line l (inr h) i = logged-over es line l h i
  logged-over (Writes (Add c) ∷ es) line l (inr h) i = logged-over es line l h i
  logged-over (Writes (Delete c) ∷ es) line l (inr h) i = logged-over es line l h i
  logged-over (Assumes a ∷ es) line l (inr h) i = logged-over es line l h i
  logged-over (Fails core ∷ es) line l (inr h) i = logged-over es line l h i
  logged-over (Retires v ∷ es) line l h i = logged-over es line l h i

pub journal-of : (g : Summary) (s : State) → Represents g s → g.ledger.valid ≡ true → IsJournal s
journal-of g s st v =
    let (w, k) = st.fits v in
    let (held, led) = led-of _ (spaces g).search.fixed k.holds.held (spaces g).outcome k.holds.logged in
    record {
      held = held;
      led = led;
      accepted = k.logged.accepted;
      assumed = k.logged.assumed;
      cores = k.logged.cores;
      written = st.written v;
      apart = record { present = there-present w (spaces g) s k; apart = there-apart w (spaces g) s k };
      plain = written-plain w (spaces g) s k;
      stays = k.logged.stays;
      in_range = λ h. logged-in-range s.naming.made s.counted (few-made g s st v h) k.well_formed.counted s.logged k.logged.spoken;
      readable = let few = (st.bounded v).globals in logged-over s.variables (λ i x e. let b = k.numbered i x e in omega (arith, b, few)) s.logged;
      derives = λ e.
          let (last, d, same) = leads_derives [] s.logged held (k.logged.stays e) led in
          subst (λ P. IsDerivation P (lines_of s.logged)) k.logged.accepted (derives_derivation _ (lines_of s.logged) last d);
      refutes = λ e u.
          let (all, on, conflict) = logged-refuted g s st v u in
          subst (λ P. Refutes P (lines_of s.logged)) k.logged.accepted (leads_refutes [] s.logged all (k.logged.stays e) on conflict);
    }

-- where nothing is counted entries are over no variable
none-spoken : (w : Carrying) (p : Spaces) (s : State) → Links w p s → s.counted ≡ [] → AllSpeakOf (λ l. ⊥) s.logged
none-spoken w p s k counted =
    all-wider (IsCounted s.counted) (λ l. ⊥) s.logged (λ l h. subst (λ is. variable_of l ∈ is) counted h) k.logged.spoken

-- Before anything was accepted no line was logged.
lines-none : (w : Carrying) (p : Spaces) (s : State) → Links w p s → s.clauses ≡ [] → s.counted ≡ [] → lines_of s.logged ≡ []
lines-none w p s k clauses counted =
    let (held, led) = led-of _ p.search.fixed k.holds.held p.outcome k.holds.logged in
    let none : SpeakOf (λ l. ⊥) (lines_of s.logged) = lines-speak (λ l. ⊥) s.logged (none-spoken w p s k counted) in
    unspoken [] s.logged held (λ i. false) (λ c h. absurd h) led (k.logged.accepted ∙ clauses) none

-- nor anything else but that variables left
pub left-alone : (g : Summary) (s : State) → Represents g s → g.ledger.valid ≡ true → s.ledger.started ≡ false → OnlyLeave s.logged
left-alone g s st v fresh =
    let (w, k) = st.fits v in
    let (held, led) = led-of _ (spaces g).search.fixed k.holds.held (spaces g).outcome k.holds.logged in
    let f = st.flags v in
    only-leave [] s.logged held (λ i. false) (λ c h. absurd h) led (k.logged.accepted ∙ f.clauses fresh) (f.unlisted fresh)
    (none-spoken w (spaces g) s k (f.counted fresh))

-- and nothing is held
held-none : (es : List Entry) (Q : List Clause) → Leads [] es Q → accepted_of es ≡ [] → lines_of es ≡ [] → Q ≡ []
held-none [] Q d a e = sym d
held-none (Accepts c ∷ es) Q d a e = absurd (let z : (c ∷ accepted_of es) ≡ [] = a in cc)
held-none (Writes line ∷ es) Q d a e = absurd (let z : (line ∷ lines_of es) ≡ [] = e in cc)
held-none (Assumes b ∷ es) Q (R, q, d) a e = held-none es Q (subst (λ (X : List Clause). Leads X es Q) q d) a e
held-none (Fails core ∷ es) Q (R, (f, q), d) a e = held-none es Q (subst (λ (X : List Clause). Leads X es Q) q d) a e
held-none (Retires v ∷ es) Q (R, q, d) a e = held-none es Q (subst (λ (X : List Clause). Leads X es Q) q d) a e

-- So a checker without clauses may begin then.
pub checking-begins : (w : Carrying) (p : Spaces) (s : State) → Links w p s → s.clauses ≡ [] → s.counted ≡ [] →
    Links w (record p { checker = Some (record { clauses = []; spent = false }) }) s
checking-begins w p s k clauses counted =
    let lines = lines-none w p s k clauses counted in
    relinked w p (record p { checker = Some (record { clauses = []; spent = false }) }) s s k (record {
      solvers = k.solvers;
      holds = k.holds;
      assumptions = k.assumptions;
      working = k.working;
      verdict = k.verdict;
      core = k.core;
      right = k.right;
      few = k.few;
      logged = k.logged;
      checked = λ held led. (
        subst (λ (X : List Clause). SameClauses (rename (carry w.global) X) [])
            (sym (held-none s.logged held led (k.logged.accepted ∙ clauses) lines)) refl,
        refl,
      );
    })

-- Where nothing is assumed no literal is one of a core, so that the answer false comes from the clauses alone.
pub unassumed-refuted : (g : Summary) (s : State) → Represents g s → g.ledger.valid ≡ true → s.assumptions ≡ [] → answer_of s.verdict ≡ Some false →
    s.verdict ≡ Unsat
unassumed-refuted g s st v none-assumed e =
    let (w, k) = st.fits v in
    go (spaces g).outcome s.verdict e w.identity (spaces g).model k.verdict
    (subst (λ (as' : List Literal). IsRight s.clauses as' s.counted s.verdict) none-assumed k.right)
  where
    none : (core : List Literal) → core ⊆ [] → core ≡ []
    none [] h = refl
    none (l ∷ core) h = absurd (h l (inl refl))

    go : (x : SearchOutcome) (y : Verdict) → answer_of y ≡ Some false → (id : ℕ → Option ℕ) (m : ℕ → Bool) → VerdictFits id m x y →
        IsRight s.clauses [] s.counted y → y ≡ Unsat
    go x Unknown e id m f r = absurd cc
    go x (Sat a) e id m f r = absurd (let z : true ≡ false = cc in cc)
    go x Unsat e id m f r = refl
    go outcome.Unknown (UnsatUnderAssumptions core) e id m f r = absurd f
    go (outcome.Sat found) (UnsatUnderAssumptions core) e id m f r = absurd f
    go outcome.Unsat (UnsatUnderAssumptions core) e id m f r = absurd f
    go (outcome.UnsatUnder found) (UnsatUnderAssumptions core) e id m f r = absurd (f (none core r.0))

-- a proof that is open claims no more than that
claims-refuted : (g : Summary) (s : State) → Represents g s → g.ledger.valid ≡ true → (p : OpenProof) → s.proof ≡ Some p → (f : ProofFormat) →
    p.format ≡ f → IsRefuted by_state f s → s.verdict ≡ Unsat
claims-refuted g s st v p e Drat f a = unassumed-refuted g s st v ((st.flags v).unassumed (p, e, ap has_marks f)) a.0
claims-refuted g s st v p e BinaryDrat f a = unassumed-refuted g s st v ((st.flags v).unassumed (p, e, ap has_marks f)) a.0
claims-refuted g s st v p e Marked f a = a.1 refl

-- where nothing was ever hidden a marked proof is one of the clauses and the assumptions
marked-of : (g : Summary) (s : State) → Represents g s → g.ledger.valid ≡ true → s.ever_hidden ≡ false → (refuted : Type 0) →
    (refuted → s.verdict ≡ Unsat) → IsMarkedDerivation s.logged s.clauses s.assumptions refuted
marked-of g s st v shown refuted u =
    let (w, k) = st.fits v in
    let (held, led) = led-of _ (spaces g).search.fixed k.holds.held (spaces g).outcome k.holds.logged in
    let t = journal_taken [] nothing_logged s.logged held led (k.logged.stays shown) k.logged.cores in
    record {
      after = state_of held t.logged;
      takes = t.takes;
      inputs = t.inputs ∙ k.logged.accepted;
      assumed = t.assumed ∙ k.logged.assumed;
      cores = t.cores;
      refutes = λ r.
          let (all, on, conflict) = logged-refuted g s st v (u r) in
          conflicts_same all held [] (leads_unique [] [] s.logged all held refl on led) conflict;
    }

-- the bytes of a proof
pub proof-of : (g : Summary) (s : State) → Represents g s → g.ledger.valid ≡ true → IsProofIfOpen by_state s
proof-of g s st v p e =
    let j = journal-of g s st v in
    let w : IsWrittenAs s.variables s.logged p = subst (IsWrittenWhereOpen s.variables s.logged) e j.written in
    record {
      written = w;
      drat = λ n. w ∙ plain-bytes p.format n (entries_over s.variables s.logged)
          ∙ ap (λ ls. lines_written (encoding_of p.format) (plain_lines ls)) (lines-renamed (carry s.variables) s.logged);
      apart = j.apart;
      plain = j.plain;
      in_range = j.in_range;
      readable = j.readable;
      derives = j.derives;
      refutes = λ h a. j.refutes h (claims-refuted g s st v p e p.format refl a);
      marked = λ h. marked-of g s st v h (IsRefuted by_state p.format s) (claims-refuted g s st v p e p.format refl);
    }
