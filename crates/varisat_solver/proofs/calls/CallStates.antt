-- States after a call that changed nothing more, and after one that ran out of memory.
use Rattle.std.proofs.Common.{◌≡◌, ℕ, Bool, List, ap, ◌∙◌, ◌≢◌, ◌+◌, ◌-◌, ◌≤◌, arith, true, false, Option, Err, refl, sym}
use Rattle.varisat_theory.specs.promises.Literals.{Literal, Clause}
use Rattle.varisat_solver.specs.promises.Names.{Naming, name_all}
use Rattle.varisat_solver.specs.promises.States.{Known, Ledger, State, with_variables, with_words, IsWellFormed, FlagsFit, Unknown}
use Rattle.varisat_solver.specs.promises.Calls.{IsLikeButLeft, IsLike, IsValid, Invalidates, IsStoreFull, MayConstrain, MayAccept, by_state, AddsClause, CountsCall, Searches, with_steps, Assumes}
use Rattle.varisat_search.specs.declared.error.StepError.{StepError}
use Rattle.varisat_names.specs.promises.Settings.{Settings}
use Rattle.varisat_search.specs.StepErrors.{step_faults}
use Rattle.varisat_solver.specs.promises.Refusals.{step_refusal}
use Rattle.varisat_theory.specs.promises.Journals.{Entry}
use Rattle.varisat_solver.specs.promises.Journals.{LogsMore, LogsStaying, AreDerived}
use Rattle.varisat_solver.specs.promises.OpenProofs.{OpenProof, IsOpen, lines_over, GoesOnWriting, GoesOnFailing, ProofFits, BarsAssumptions}
use Rattle.varisat_solver.proofs.entries.OpenProofs.{goes-on-none, goes-on-unfailed, barred-before}
use Rattle.varisat_proof.specs.promises.Assumed.{lists_of}
use Rattle.varisat_solver.proofs.entries.LoggedEntries.{stays-nothing}
use Rattle.varisat_solver.specs.inside.Spaces.{SpacesFit}
use Rattle.varisat_solver.specs.promises.Summaries.{Summary}
use Rattle.varisat_solver.specs.inside.Representations.{spaces, Represents}
use Rattle.varisat_search.specs.declared.error.StepError.TheVariants as step

-- What stays where what is known is alike.

pub same-naming : {V : Type 0} {may_leave : Bool} {s t : Known V} → IsLikeButLeft may_leave s t → t.naming ≡ s.naming
same-naming {V} e = ap (λ (x : Known V). x.naming) e.same

pub same-hidden : {V : Type 0} {may_leave : Bool} {s t : Known V} → IsLikeButLeft may_leave s t → t.ever_hidden ≡ s.ever_hidden
same-hidden {V} e = ap (λ (x : Known V). x.ever_hidden) e.same

pub same-clauses : {V : Type 0} {may_leave : Bool} {s t : Known V} → IsLikeButLeft may_leave s t → t.clauses ≡ s.clauses
same-clauses {V} e = ap (λ (x : Known V). x.clauses) e.same

pub same-assumptions : {V : Type 0} {may_leave : Bool} {s t : Known V} → IsLikeButLeft may_leave s t → t.assumptions ≡ s.assumptions
same-assumptions {V} e = ap (λ (x : Known V). x.assumptions) e.same

pub same-counted : {V : Type 0} {may_leave : Bool} {s t : Known V} → IsLikeButLeft may_leave s t → t.counted ≡ s.counted
same-counted {V} e = ap (λ (x : Known V). x.counted) e.same

pub same-verdict : {V : Type 0} {may_leave : Bool} {s t : Known V} → IsLikeButLeft may_leave s t → t.verdict ≡ s.verdict
same-verdict {V} e = ap (λ (x : Known V). x.verdict) e.same

pub same-ledger : {V : Type 0} {may_leave : Bool} {s t : Known V} → IsLikeButLeft may_leave s t → t.ledger ≡ s.ledger
same-ledger {V} e = ap (λ (x : Known V). x.ledger) e.same

-- the same from all of these
pub same-by : {V : Type 0} (s t : Known V) → t.naming ≡ s.naming → t.ever_hidden ≡ s.ever_hidden → t.clauses ≡ s.clauses →
    t.assumptions ≡ s.assumptions → t.counted ≡ s.counted → t.verdict ≡ s.verdict → t.ledger ≡ s.ledger →
    t ≡ record s { logged = t.logged; variables = t.variables; proof = t.proof; words = t.words }
same-by {V} s t n h c a k v l =
    ap (λ (x : Naming). record t { naming = x }) n ∙ ap (λ (x : Bool). record t { naming = s.naming; ever_hidden = x }) h
    ∙ ap (λ (x : List Clause). record t { naming = s.naming; ever_hidden = s.ever_hidden; clauses = x }) c
    ∙ ap (λ (x : List Literal). record t { naming = s.naming; ever_hidden = s.ever_hidden; clauses = s.clauses; assumptions = x }) a
    ∙ ap (λ (x : List ℕ). record (record s { logged = t.logged; variables = t.variables; proof = t.proof; words = t.words })
    { counted = x; verdict = t.verdict; ledger = t.ledger }) k
    ∙ ap (λ (x : V). record (record s { logged = t.logged; variables = t.variables; proof = t.proof; words = t.words }) { verdict = x; ledger = t.ledger }) v
    ∙ ap (λ (x : Ledger). record (record s { logged = t.logged; variables = t.variables; proof = t.proof; words = t.words }) { ledger = x }) l

-- the same, but that more was logged, identities have other variables than before, as which no line was written, an open proof has further
-- bytes, and the clause store another size
pub like-logged : (s : State) (logged : List Entry) (variables : ℕ → Option ℕ) (proof : Option OpenProof) (words : ℕ) → LogsStaying 0 s.logged logged →
    lines_over variables s.logged ≡ lines_over s.variables s.logged → GoesOnWriting s.proof proof →
    IsLike s (record s { logged = logged; variables = variables; proof = proof; words = words })
like-logged s logged variables proof words (m, n, d) same g = record {
  same = refl;
  logged = m;
  derived = d;
  stays = λ _. n;
  alike = same;
  proof = g;
}

pub like-refl : (s : State) → IsLike s s
like-refl s = like-logged s s.logged s.variables s.proof s.words (stays-nothing s.logged) refl (goes-on-none s.proof)

-- where the open proof and the clause store alone have changed
pub like-grown : (s : State) (proof : Option OpenProof) (words : ℕ) → GoesOnWriting s.proof proof → IsLike s (record s { proof = proof; words = words })
like-grown s proof words g = like-logged s s.logged s.variables proof words (stays-nothing s.logged) refl g

-- and where the variables and the clause store alone have
pub like-varied : (s : State) (variables : ℕ → Option ℕ) (words : ℕ) → lines_over variables s.logged ≡ lines_over s.variables s.logged →
    IsLike s (with_words words (with_variables variables s))
like-varied s variables words same = like-logged s s.logged variables s.proof words (stays-nothing s.logged) same (goes-on-none s.proof)

-- so it is where variables may have left
pub like-with_entries : (s : State) (logged : List Entry) (variables : ℕ → Option ℕ) (proof : Option OpenProof) → (m : LogsMore 0 s.logged logged) →
    AreDerived m.entries → lines_over variables s.logged ≡ lines_over s.variables s.logged → GoesOnWriting s.proof proof →
    IsLikeButLeft true s (record s { logged = logged; variables = variables; proof = proof })
like-with_entries s logged variables proof m d same g = record {
  same = refl;
  logged = m;
  derived = d;
  stays = λ e. absurd (let z : true ≡ false = e in cc);
  alike = same;
  proof = g;
}

-- a ledger by what it says
abbrev pub ledger_of : Bool → Bool → ℕ → ℕ → Settings → Bool → Ledger
ledger_of v b n k c r = record { valid = v; started = b; steps = n; since = k; settings = c; checking = r }

pub ledger-is : (l : Ledger) (v b : Bool) (n k : ℕ) (c : Settings) (r : Bool) → l.valid ≡ v → l.started ≡ b → l.steps ≡ n → l.since ≡ k →
    l.settings ≡ c → l.checking ≡ r → l ≡ ledger_of v b n k c r
ledger-is l v b n k c r d e f h g i =
    ap (λ x. ledger_of x l.started l.steps l.since l.settings l.checking) d ∙ ap (λ x. ledger_of v x l.steps l.since l.settings l.checking) e
    ∙ ap (λ x. ledger_of v b x l.since l.settings l.checking) f ∙ ap (λ x. ledger_of v b n x l.settings l.checking) h
    ∙ ap (λ x. ledger_of v b n k x l.checking) g ∙ ap (λ x. ledger_of v b n k c x) i

-- where steps are counted anew, none was made since
pub none-since : (changed_at steps : ℕ) → changed_at ≡ steps → 0 ≡ steps - changed_at
none-since changed_at steps e = omega (arith, e)

-- the steps since a change that came before them
pub more-since : (changed_at before after since : ℕ) → changed_at ≤ before → before ≤ after → since ≡ before - changed_at →
    since + (after - before) ≡ after - changed_at
more-since changed_at before after since l h e = omega (arith, l, h, e)

pub none-more : (since steps : ℕ) → since ≡ since + (steps - steps)
none-more since steps = omega arith

-- where no step is made the state is like itself
pub like-still : (s : State) → IsLike (with_steps s.ledger.steps s) s
like-still s = record {
  same = same-by (with_steps s.ledger.steps s) s refl refl refl refl refl refl
      (ledger-is s.ledger s.ledger.valid s.ledger.started s.ledger.steps (s.ledger.since + (s.ledger.steps - s.ledger.steps)) s.ledger.settings
      s.ledger.checking refl refl refl (none-more s.ledger.since s.ledger.steps) refl refl);
  logged = (stays-nothing s.logged).0;
  derived = (stays-nothing s.logged).2;
  stays = λ _. (stays-nothing s.logged).1;
  alike = refl;
  proof = goes-on-none s.proof;
}

-- no more since it
pub same-since : (changed_at before after since : ℕ) → after ≡ before → since ≡ before - changed_at → since + (after - before) ≡ after - changed_at
same-since changed_at before after since e h = omega (arith, e, h)

-- a solver and a state that it represents are valid alike
pub represents-valid : (g : Summary) (s : State) → Represents g s → g.ledger.valid ≡ true → IsValid s
represents-valid g s st v = ap (λ x. x.valid) st.ledger ∙ v

-- its proof fits what is known of it
pub proof-fits : {g : Summary} {s : State} → Represents g s → g.ledger.valid ≡ true → ProofFits g.opened s.variables s.logged s.proof
proof-fits st v = record { same = st.same; written = st.written v }

-- What is known as a call begins on a solver that is valid.
pub record Begins (g : Summary) (s : State) : Type 0 where
  pub valid : IsValid s
  pub ledger : s.ledger ≡ g.ledger
  pub words : s.words ≡ g.words
  pub fits : SpacesFit (spaces g) s
  pub proof : ProofFits g.opened s.variables s.logged s.proof
  pub flags : FlagsFit s

pub begins : {g : Summary} {s : State} → Represents g s → g.ledger.valid ≡ true → Begins g s
begins {g} {s} st v = record {
  valid = represents-valid g s st v;
  ledger = st.ledger;
  words = st.words;
  fits = st.fits v;
  proof =
      proof-fits st v;
  flags = st.flags v;
}

-- What two flags say of a state, they say of one with the same clauses and assumptions, to which nothing more was logged, and whose
-- proof bars no other assumptions.
pub flags-alike : (s t : State) → FlagsFit s → t.ledger.started ≡ s.ledger.started → t.clauses ≡ s.clauses → t.assumptions ≡ s.assumptions →
    t.counted ≡ s.counted → t.logged ≡ s.logged → (BarsAssumptions t.proof → BarsAssumptions s.proof) → FlagsFit t
flags-alike s t f b p a c n o = record {
  clauses = λ e. p ∙ f.clauses (sym b ∙ e);
  assumptions = λ e. a ∙ f.assumptions (sym b ∙ e);
  counted = λ e. c ∙ f.counted (sym b ∙ e);
  unlisted = λ e. ap lists_of n ∙ f.unlisted (sym b ∙ e);
  unassumed = λ h. a ∙ f.unassumed (o h);
}

-- something was accepted, and an open proof has further bytes
pub flags-started : (s t : State) → FlagsFit s → t.ledger.started ≡ true → t.assumptions ≡ s.assumptions → GoesOnWriting s.proof t.proof → FlagsFit t
flags-started s t f b a g = record {
  clauses = λ e. absurd (let z : true ≡ false = sym b ∙ e in cc);
  assumptions = λ e. absurd (let z : true ≡ false = sym b ∙ e in cc);
  counted = λ e. absurd (let z : true ≡ false = sym b ∙ e in cc);
  unlisted = λ e. absurd (let z : true ≡ false = sym b ∙ e in cc);
  unassumed = λ h. a ∙ f.unassumed (barred-before s.proof t.proof g h);
}

-- a list was assumed, where no open proof bars it
pub flags-assumed : (t : State) → t.ledger.started ≡ true → (BarsAssumptions t.proof → ⊥) → FlagsFit t
flags-assumed t b n = record {
  clauses = λ e. absurd (let z : true ≡ false = sym b ∙ e in cc);
  assumptions = λ e. absurd (let z : true ≡ false = sym b ∙ e in cc);
  counted = λ e. absurd (let z : true ≡ false = sym b ∙ e in cc);
  unlisted = λ e. absurd (let z : true ≡ false = sym b ∙ e in cc);
  unassumed = λ h. absurd (n h);
}

-- the state, with the verdict, the flags, what was logged, the open proof and the words of another
abbrev pub logged_as : State → State → State
logged_as t s = record s { verdict = t.verdict; ledger = t.ledger; logged = t.logged; proof = t.proof; words = t.words }

pub logged-well : (s t : State) → IsWellFormed s → IsWellFormed (logged_as t s)
logged-well s t w = record {
  one_to_one = w.one_to_one;
  free = w.free;
  named = w.named;
  accepted = w.accepted;
  assumed = w.assumed;
  counted =
      w.counted;
  once = w.once;
}

-- the state, made invalid, with its open proof and the words of the clause store as they are then
abbrev pub broken : Option OpenProof → ℕ → State → State
broken proof words s = record s { ledger = record s.ledger { valid = false }; proof = proof; words = words }

pub broken-invalid : (faults : ℕ) (s : State) (proof : Option OpenProof) (words : ℕ) → s.ledger.valid ≡ true → GoesOnFailing faults s.proof proof →
    Invalidates faults s (broken proof words s)
broken-invalid faults s proof words v o = record { valid = v; ledger = refl; proof = o }

-- so it is where memory ran out before the proof logged anything
pub broken-unlogged : (s : State) (words : ℕ) → s.ledger.valid ≡ true → Invalidates 0 s (broken s.proof words s)
broken-unlogged s words v = broken-invalid 0 s s.proof words v (goes-on-unfailed s.proof)

-- a clause could not be kept
pub adds-broken : (e : StepError) (s t : State) (d : Clause) → (step_faults e ≡ 1 → IsOpen s.proof) → MayAccept by_state s → MayConstrain s.naming d →
    Invalidates (step_faults e) s t → (e ≡ step.Full → IsStoreFull (name_all d s.naming).made t) → AddsClause s d (Err (step_refusal e)) t
adds-broken step.Full s t d o n l i f = (n, l, i, f refl)
adds-broken step.Memory s t d o n l i f = (n, l, i)
adds-broken (step.Target cause) s t d o n l i f = (o refl, n, l, i)

-- a list could not be kept; the clause store is not asked for room
pub assumes-broken : (e : StepError) (s t : State) (list : List Literal) → e ≢ step.Full → (step_faults e ≡ 1 → IsOpen s.proof) →
    (BarsAssumptions s.proof → ⊥) → MayConstrain s.naming list → Invalidates (step_faults e) s t → Assumes s list (Err (step_refusal e)) t
assumes-broken step.Full s t list n o b l i = absurd (n refl)
assumes-broken step.Memory s t list n o b l i = (b, l, i)
assumes-broken (step.Target cause) s t list n o b l i = (o refl, b, l, i)

-- so it is where a step came to no end
pub searches-broken : (e : StepError) (s t : State) → (step_faults e ≡ 1 → IsOpen s.proof) → s.verdict ≡ Unknown →
    CountsCall s (Err (step_refusal e)) t → Invalidates (step_faults e) (with_steps t.ledger.steps s) t →
    (e ≡ step.Full → IsStoreFull s.naming.made t) → Searches s (Err (step_refusal e)) t
searches-broken step.Full s t o u c i f = ((u, c, i), f refl)
searches-broken step.Memory s t o u c i f = (u, c, i)
searches-broken (step.Target cause) s t o u c i f = (o refl, (u, c, i))
