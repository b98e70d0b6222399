-- The story of the calls so far, beside the state that a solver is in: each call moves both alike.
use Rattle.std.proofs.Common.{◌≡◌, ◌≢◌, ℕ, Bool, true, false, List, [], ◌∷◌, ◌++◌, inl, inr, ⊎_elim, sym, ap, ◌∙◌, subst, refl, Option, Some, None, Result, Ok, Err, map, Vec}
use Rattle.std.specs.Result.{IfOk}
use Rattle.std.specs.declared.alloc.AllocError.{AllocError}
use Rattle.varisat_theory.specs.promises.Membership.{◌⊆◌}
use Rattle.varisat_theory.specs.promises.Literals.{Literal, Clause, variable_of}
use Rattle.varisat_theory.proofs.clauses.Members.{∈-append_left, ∈-append_right}
use Rattle.varisat_formula.specs.declared.dimacs.error.DimacsError.{DimacsError}
use Rattle.varisat_formula.specs.promises.Streams.{Input, Taken}
use Rattle.varisat_lines.specs.declared.format.ProofFormat.{ProofFormat}
use Rattle.varisat_names.specs.declared.config.SolverConfigUpdate.{SolverConfigUpdate}
use Rattle.varisat_solver.specs.promises.OpenProofs.{OpenProof, BarsAssumptions}
use Rattle.varisat_solver.specs.promises.Journals.{with_entries}
use Rattle.varisat_solver.specs.promises.ProofCalls.{OpensProof, EnablesChecking, Closes}
use Rattle.varisat_solver.specs.promises.States.{State, Ledger, Verdict, Unsat, IsRight, HasRightVerdict, join_counted}
use Rattle.varisat_solver.specs.promises.Models.{IsCompletable, IsReturnedCore, IsEntailed}
use Rattle.varisat_solver.specs.promises.Names.{Naming, Mode, Sample, Witness, name_one, name_all, through_names, set_mode, free_name, IsLeastFree, AreShown}
use Rattle.varisat_solver.specs.promises.Additions as additions
use Rattle.varisat_solver.specs.promises.Additions.{AllAdded, OneRefused, RefusedAtOnce, NoFault, MemoryFault, Fault, ClauseRefused, ClausesAdded, RefusedEarly, Read, Unread}
use Rattle.varisat_solver.specs.promises.Calls as state
use Rattle.varisat_solver.specs.promises.Calls.{is_valid, IsValid, Invalidates, IsRefusedInvalid, IsLikeButLeft, Ignored, Accepted, TakesClause, TakesOne, TakesList, ReturnsList, RefusesNames, ReturnsVerdict, IsSpent, Solves, VerdictAfter, answer_of, by_state}
use Rattle.varisat_solver.specs.promises.Usage as usage
use Rattle.varisat_solver.specs.promises.ReturnedLists.{returned_list, returned_variables}
use Rattle.varisat.specs.promises.Turns.{Makes}
use Rattle.varisat_solver.specs.promises.Summaries.{Summary}
use Rattle.varisat_solver.specs.inside.Representations.{Represents}
use Rattle.varisat.specs.promises.Runs.{Run, found_in, story_now}
use Rattle.varisat.specs.promises.Answers.{Story, with_names, reopened, with_clause, with_assumptions, ended, IsRefused, Outcome, Accepts, Joined, PassedOver, AcceptsAll, EndsText, AcceptsText, ToItsEnd, ToARefusal, IfValid, IsTrueAnswer, IsTrueModel, IsTrueCore, IsAnswered, AreAnswered}
use Rattle.varisat.specs.declared.session.Call.{Call}
use Rattle.varisat.specs.declared.session.Answer.{Answer}
use Rattle.varisat.specs.declared.session.Call.TheVariants as call
use Rattle.varisat.specs.declared.session.Answer.TheVariants as answer
use Rattle.varisat_solver.specs.declared.solver.SolverError.{SolverError}
use Rattle.varisat_solver.specs.declared.solver.SolverError.TheVariants.{Interrupted, ProofIoError, OutOfMemory, Invalid, ClauseStoreFull, WitnessVar, VariableLimit, AssumedVar, ClauseAfterSolve, ProofOpen, ProofTooLate, ConfigOutOfRange}
use Rattle.varisat_solver.proofs.calls.CallStates.{same-counted, same-ledger, same-naming}
use Rattle.varisat_solver.proofs.calls.Counted.{join-only}
use Rattle.varisat_solver.proofs.calls.ModelsFit.{completable}
use Rattle.varisat.proofs.CappedNames.{IsCapped, capped-one, capped-all, capped-freed, capped-shown}
use Rattle.varisat.proofs.Pasts.{model-sat, no-model}
use Rattle.varisat_solver.proofs.steps.SearchVerdicts.{logged-fails, no-core, reopened-false, right-reopened, right-assumed}
use Rattle.varisat.proofs.SolvedPasts.{some-with, none-with}

-- 1. The story of a state.

-- where these identities were mentioned and this was found
abbrev pub story_of : List ℕ → Option Bool → State → Story
story_of m f p = record { naming = p.naming; clauses = p.clauses; assumptions = p.assumptions; mentioned = m; found = f; valid = is_valid p }

-- what the state says of the two
pub record Fits (m : List ℕ) (f : Option Bool) (p : State) : Type 0 where
  pub mentioned : p.counted ⊆ m
  pub found : (b : Bool) → f ≡ Some b → answer_of p.verdict ≡ Some b
  pub capped : IsCapped p.naming
  pub right : HasRightVerdict p

-- the story is that of the state, or both are over
pub data Sees (y : Story) (p : State) : Type 0 where
  InStep : (m : List ℕ) (f : Option Bool) → y ≡ story_of m f p → IsValid p → Fits m f p → Sees y p
  Over : is_valid p ≡ false → y.valid ≡ false → y.found ≡ None → Sees y p

-- a call leads to a story as well
abbrev Leads : (Story → Type 0) → State → Type 0
Leads to q = (z : Story) × to z × Sees z q

invalid-not : (p : State) → is_valid p ≡ false → IsValid p → ⊥
invalid-not p n v = let z : false ≡ true = sym n ∙ v in cc

valid-as : (y : Story) (p : State) → Sees y p → y.valid ≡ is_valid p
valid-as y p (InStep m f e v k) = ap (λ (x : Story). x.valid) e
valid-as y p (Over n e g) = e ∙ sym n

-- where the state is valid the story is its
to-story : (y : Story) (p : State) → Sees y p → IsValid p → (P : Story → Type 0) →
    ((m : List ℕ) (f : Option Bool) → Fits m f p → P (story_of m f p)) → P y
to-story y p (InStep m f e v k) c P g = subst P (sym e) (g m f k)
to-story y p (Over n e o) c P g = absurd (invalid-not p n c)

-- nothing changes
same : (y : Story) (p q : State) → Sees y p → q ≡ p → Sees y q
same y p q h e = subst (Sees y) (sym e) h

-- but for steps, settings, and the open proof
sees-counted : (y : Story) (p : State) (l : Ledger) (u : Option OpenProof) → l.valid ≡ is_valid p → Sees y p →
    Sees y (record p { ledger = l; proof = u })
sees-counted y p l u same (InStep m f e v k) =
    InStep m f (e ∙ ap (λ (b : Bool). record (story_of m f p) { valid = b }) (sym same)) (same ∙ v)
    (record { mentioned = k.mentioned; found = k.found; capped = k.capped; right = k.right })
sees-counted y p l u same (Over n e g) = Over (same ∙ n) e g

same-but : (y : Story) (p q : State) (l : Ledger) (u : Option OpenProof) → q ≡ record p { ledger = l; proof = u } → l.valid ≡ is_valid p →
    Sees y p → Sees y q
same-but y p q l u e v h = subst (Sees y) (sym e) (sees-counted y p l u v h)

-- what is logged beside, and the bytes of a proof
sees-like : {may_leave : Bool} (y : Story) (p q : State) → Sees y p → IsLikeButLeft may_leave p q → Sees y q
sees-like y p q h e = subst (Sees y) (sym e.same) (go h)
  where
    go : Sees y p → Sees y (record p { logged = q.logged; variables = q.variables; proof = q.proof; words = q.words })
    go (InStep m f e v k) = InStep m f e v (record { mentioned = k.mentioned; found = k.found; capped = k.capped; right = k.right })
    go (Over n e g) = Over n e g

-- 2. Refusals.

over : {faults : ℕ} (p q : State) → Invalidates faults p q → is_valid q ≡ false
over p q b = ap (λ (x : Ledger). x.valid) b.ledger

-- an error from which there is no way back
breaks : {faults : ℕ} (y : Story) (p q : State) → Sees y p → Invalidates faults p q → Leads (λ z. (y.valid ≡ true) × (z ≡ ended y)) q
breaks y p q h b = (ended y, (valid-as y p h ∙ b.valid, refl), Over (over p q b) refl refl)

-- nothing changes in a valid solver, and in one that is not
stays : (y : Story) (p q : State) (b : Bool) → Sees y p → is_valid p ≡ b → q ≡ p → Leads (λ z. (y.valid ≡ b) × (z ≡ y)) q
stays y p q b h c e = (y, (valid-as y p h ∙ c, refl), same y p q h e)

refuses-names : (A : Type 0) (y : Story) (p q : State) (d : List Literal) (e : SolverError) → Sees y p → RefusesNames A p d e q → Leads (IsRefused y e) q
refuses-names A y p q d OutOfMemory h (n, lim, b) = breaks y p q h b
refuses-names A y p q d (ProofIoError cause) h (o, n, lim, b) = breaks y p q h b
refuses-names A y p q d Invalid h (c, e) = stays y p q false h c e
refuses-names A y p q d VariableLimit h (c, n, out, e) = stays y p q true h c e
refuses-names A y p q d (WitnessVar u) h (c, n, within, is, e) = stays y p q true h c e
refuses-names A y p q d e h a = absurd a

-- 3. A clause.

mentions : (C m is : List ℕ) → C ⊆ m → join_counted C is ⊆ (m ++ is)
mentions C m is h i k = ⊎_elim (λ a. ∈-append_left i m is (h i a)) (λ b. ∈-append_right i m is b) (join-only is C i k)

-- what is found behind one more clause stands in the verdict, too
reopens : (P : List Clause) (c : Clause) (f : Option Bool) (v w : Verdict) → ((b : Bool) → f ≡ Some b → answer_of v ≡ Some b) →
    VerdictAfter P c v w → (b : Bool) → reopened f ≡ Some b → answer_of w ≡ Some b
reopens P c None v w k a b e = absurd (let z : None ≡ Some b = e in cc)
reopens P c (Some true) v w k a b e = absurd (let z : None ≡ Some b = e in cc)
reopens P c (Some false) v w k (state.Refuted x u) b e = ap answer_of x ∙ e
reopens P c (Some false) v w k (state.Reopened x u) b e = ap answer_of x ∙ reopened-false v (k false refl) ∙ e

-- and the verdict is right
right-after : (P : List Clause) (c : Clause) (A : List Literal) (C D : List ℕ) (v w : Verdict) → v ≢ Unsat →
    VerdictAfter P c v w → IsRight P A C v → IsRight (P ++ c ∷ []) A D w
right-after P c A C D v w n (state.Refuted x u) r = subst (IsRight (P ++ c ∷ []) A D) (sym x) u
right-after P c A C D v w n (state.Reopened x u) r = subst (IsRight (P ++ c ∷ []) A D) (sym x) (right-reopened P c A C D v n r)

takes-clause : (m : List ℕ) (f : Option Bool) (p q : State) (d : Clause) → Fits m f p → IsValid p → TakesClause by_state p d q →
    Leads (λ z. (is_valid p ≡ true) × Accepts (story_of m f p) d z) q
takes-clause m f p q d k c (Ignored n e) = (
  story_of m f p,
  (c, PassedOver (subst (IsRight p.clauses p.assumptions p.counted) n k.right) refl),
  same-but (story_of m f p) p q _ p.proof e refl (InStep m f refl c k),
)
takes-clause m f p q d k c (Accepted n lim (w, after, e)) =
    let is : List ℕ = map variable_of (map (through_names (name_all d p.naming)) d) in (
      with_clause d (story_of m f p),
      (c, Joined refl),
      sees-like (with_clause d (story_of m f p)) (state.accept d w p) q (InStep (m ++ is) (reopened f) refl c (record {
        mentioned = mentions p.counted m is k.mentioned;
        found = reopens p.clauses _ f p.verdict w k.found after;
        capped = capped-all d p.naming k.capped;
        right = right-after p.clauses _ p.assumptions p.counted _ p.verdict w n.unrefuted after k.right;
      })) e,
    )

add-clause : (y : Story) (p q : State) (d : Clause) (r : Result (Unit {0}) SolverError) → Sees y p → TakesOne by_state p d r q →
    Leads (Outcome (λ _. Accepts y d) y r) q
add-clause y p q d (Ok u) h (c, t) =
    to-story y p h c (λ y. Leads (λ z. (y.valid ≡ true) × Accepts y d z) q) (λ m f k. takes-clause m f p q d k c t)
add-clause y p q d (Err ClauseStoreFull) h (n, lim, b, full) = breaks y p q h b
add-clause y p q d (Err ClauseAfterSolve) h (c, n, is, e) = stays y p q true h c e
add-clause y p q d (Err e) h a = refuses-names (state.MayAccept by_state p) y p q d e h a

-- 4. Formulas and texts.

add-all : (y : Story) (p q : State) (P : List Clause) (r : Result (Unit {0}) SolverError) → Sees y p → additions.AddsAll by_state p P r q →
    Leads (AcceptsAll y P r) q
add-all y p q [] r h a = (y, (a.0, refl), same y p q h a.1)
add-all y p q (c ∷ P) r h (inl (mid, a, rest)) =
    let (z, b, k) = add-clause y p mid c (Ok tt) h a in
    let (x, d, l) = add-all z mid q P r k rest in (x, inl (z, b.1, d), l)
add-all y p q (c ∷ P) r h (inr (e, k, a)) = let (z, b, l) = add-clause y p q c (Err e) h a in (z, inr (e, k, b), l)

-- the same where this is what is returned
add-all-as : (y : Story) (p q : State) (P : List Clause) (r x : Result (Unit {0}) SolverError) → r ≡ x → Sees y p →
    additions.AddsAll by_state p P x q → Leads (AcceptsAll y P r) q
add-all-as y p q P r x e h a = let (z, b, k) = add-all y p q P x h a in (z, subst (λ s. AcceptsAll y P s z) (sym e) b, k)

now-valid : (y : Story) (p : State) → Sees y p → IsValid p → y.valid ≡ true
now-valid y p h c = valid-as y p h ∙ c

add-formula : (y : Story) (p q : State) (P : List Clause) (r : Result (Unit {0}) SolverError) → Sees y p → additions.AddsList by_state p P r q →
    Leads (λ z. IfValid y r (AcceptsAll y P r z) z) q
add-formula y p q P r h (AllAdded c mid a e k) =
    let (z, b, l) = add-all-as y p mid P r (Ok tt) e h a in (z, inl (now-valid y p h c, b), same-but z mid q _ mid.proof k refl l)
add-formula y p q P r h (OneRefused c x e a) = let (z, b, l) = add-all-as y p q P r (Err x) e h a in (z, inl (now-valid y p h c, b), l)
add-formula y p q P r h (RefusedAtOnce e (c, k)) = let (z, b, l) = stays y p q false h c k in (z, inr (e, b), l)

tell-fault : (y : Story) (p q : State) (x : Option DimacsError) (r : Result (Unit {0}) SolverError) → Sees y p → additions.ReturnsFault by_state x p r q →
    Leads (EndsText x y r) q
tell-fault y p q x r h (NoFault n e k) =
    (y, subst (λ o. EndsText o y r y) (sym n) (e, refl), same-but y p q _ p.proof k refl h)
tell-fault y p q x r h (MemoryFault d n m e b) =
    (ended y, subst (λ o. EndsText o y r (ended y)) (sym n) (inr (e, refl)), Over (over p q b) refl refl)
tell-fault y p q x r h (Fault d n m e k) = (y, subst (λ o. EndsText o y r y) (sym n) (inl (e, refl)), same y p q h k)

add-text : (y : Story) (p q : State) (old new : Input) (r : Result (Unit {0}) SolverError) → Sees y p → additions.AddsText by_state p old r new q →
    Leads (λ z. IfValid y r (AcceptsText y old r new z) z) q
add-text y p q old new r h (Read c R g (ClauseRefused e k a)) =
    let (z, b, l) = add-all-as y p q R.clauses r (Err e) k h a in (z, inl (now-valid y p h c, ToARefusal R.clauses e (inl (R, g, refl)) k b), l)
add-text y p q old new r h (Read c R g (ClausesAdded mid a f)) =
    let (z, b, l) = add-all y p mid R.clauses (Ok tt) h a in
    let (x, d, i) = tell-fault z mid q R.fault r l f in (x, inl (now-valid y p h c, ToItsEnd R z g b d), i)
add-text y p q old new r h (RefusedEarly c cs g e k a) =
    let (z, b, l) = add-all-as y p q cs r (Err e) k h a in (z, inl (now-valid y p h c, ToARefusal cs e (inr g) k b), l)
add-text y p q old new r h (Unread e (c, k) n) = let (z, b, l) = stays y p q false h c k in (z, inr (e, b), l)

-- 5. Names.

-- names have changed, and whether some was hidden
sees-named : {may_leave : Bool} (m : List ℕ) (f : Option Bool) (p q : State) (n : Naming) (hidden : Bool) (started : Bool) → IsCapped n →
    Fits m f p → IsValid p →
    IsLikeButLeft may_leave (record p { naming = n; ever_hidden = hidden; ledger = record p.ledger { started = started; since = 0 } }) q →
    Sees (with_names n (story_of m f p)) q
sees-named m f p q n hidden started h k c e =
    sees-like (with_names n (story_of m f p)) (record p { naming = n; ever_hidden = hidden; ledger = record p.ledger { started = started; since = 0 } }) q
    (InStep m f refl c (record { mentioned = k.mentioned; found = k.found; capped = h; right = k.right })) e

-- the same of the story as it is seen
names : {may_leave : Bool} (y : Story) (p q : State) (to : Naming → Naming) (hidden : Bool) (started : Bool) →
    ((n : Naming) → IsCapped n → IsCapped (to n)) → Sees y p → IsValid p →
    IsLikeButLeft may_leave (record p { naming = to p.naming; ever_hidden = hidden; ledger = record p.ledger { started = started; since = 0 } }) q →
    Leads (λ z. (y.valid ≡ true) × (z ≡ with_names (to y.naming) y)) q
names y p q to hidden started keeps h c e =
    to-story y p h c (λ y. Leads (λ z. (y.valid ≡ true) × (z ≡ with_names (to y.naming) y)) q)
    (λ m f k. (with_names (to p.naming) (story_of m f p), (c, refl), sees-named m f p q (to p.naming) hidden started (keeps p.naming k.capped) k c e))

make-var : (y : Story) (p q : State) (r : Result ℕ SolverError) → Sees y p → state.MakesVar p r q →
    Leads (Outcome (λ u x. IsLeastFree y.naming u × (x ≡ with_names (name_one u y.naming) y)) y r) q
make-var y p q (Ok u) h (c, free, small, e) =
    to-story y p h c (λ y. Leads (λ z. (y.valid ≡ true) × (IsLeastFree y.naming u × (z ≡ with_names (name_one u y.naming) y))) q)
    (λ m f k. (
      with_names (name_one u p.naming) (story_of m f p),
      (c, (free, refl)),
      sees-named m f p q (name_one u p.naming) p.ever_hidden true (capped-one u p.naming k.capped) k c e,
    ))
make-var y p q (Err OutOfMemory) h (free, b) = breaks y p q h b
make-var y p q (Err Invalid) h (c, e) = stays y p q false h c e
make-var y p q (Err VariableLimit) h (c, full, e) = stays y p q true h c e
make-var y p q (Err e) h a = absurd a

changes-refused : (may_leave : Bool) (y : Story) (p q : State) (change : State → State) (u : ℕ) (e : SolverError) → Sees y p →
    usage.ChangesVar may_leave change p u (Err e) q → Leads (IsRefused y e) q
changes-refused may_leave y p q change u Invalid h (c, e) = stays y p q false h c e
changes-refused may_leave y p q change u VariableLimit h (c, full, e) = stays y p q true h c e
changes-refused may_leave y p q change u (AssumedVar x) h (c, small, own, is, e) = stays y p q true h c e
changes-refused may_leave y p q change u OutOfMemory h (small, free, b) = breaks y p q h b
changes-refused may_leave y p q change u e h a = absurd a

set-mode : (mode : Mode) (y : Story) (p q : State) (u : ℕ) (r : Result (Unit {0}) SolverError) → Sees y p → usage.SetsMode mode p u r q →
    Leads (Outcome (λ _ x. x ≡ with_names (set_mode u mode (name_one u y.naming)) y) y r) q
set-mode mode y p q u (Ok x) h ((c, small, free, e), fresh) =
    names y p q (λ n. set_mode u mode (name_one u n)) p.ever_hidden p.ledger.started (λ n. capped-one u n) h c e
set-mode mode y p q u (Err e) h (a, fresh) = changes-refused false y p q (usage.with_mode u mode) u e h a

hide : (y : Story) (p q : State) (u : ℕ) (r : Result (Unit {0}) SolverError) → Sees y p → usage.HidesVar p u r q →
    Leads (Outcome (λ _ x. x ≡ with_names (free_name u (name_one u y.naming)) y) y r) q
hide y p q u (Ok x) h (c, small, free, e) =
    names y p q (λ n. free_name u (name_one u n)) true p.ledger.started (λ n i. capped-freed u (name_one u n) (capped-one u n i)) h c e
hide y p q u (Err e) h a = changes-refused true y p q (usage.hide_name u) u e h a

observe : {A : Type 0} (y : Story) (p q : State) (r : Result (Vec ℕ A) SolverError) → Sees y p → usage.Observes p (returned_variables r) q →
    Leads (Outcome (λ us x. (n : Naming) × AreShown us.items y.naming n × (x ≡ with_names n y)) y r) q
observe y p q (Ok us) h (c, (n, shown, e)) =
    to-story y p h c (λ y. Leads (λ z. (y.valid ≡ true) × ((n : Naming) × AreShown us.items y.naming n × (z ≡ with_names n y))) q)
    (λ m f k. (
      with_names n (story_of m f p),
      (c, (n, shown.in_turn, refl)),
      sees-named m f p q n p.ever_hidden p.ledger.started (capped-shown us.items p.naming n shown.in_turn k.capped) k c e,
    ))
observe y p q (Err Invalid) h (c, e) = stays y p q false h c e
observe y p q (Err OutOfMemory) h b = breaks y p q h b
observe y p q (Err e) h a = absurd a

-- 6. Assumptions, and what is found.

assume-list : (y : Story) (p q : State) (list : List Literal) (r : Result (Unit {0}) SolverError) → Sees y p → TakesList by_state p list r q →
    Leads (Outcome (λ _ x. x ≡ with_assumptions list y) y r) q
assume-list y p q list (Ok u) h (c, n, lim, e) =
    let d : List Literal = map (through_names (name_all list p.naming)) list in
    to-story y p h c (λ y. Leads (λ z. (y.valid ≡ true) × (z ≡ with_assumptions list y)) q)
    (λ m f k. (
      with_assumptions list (story_of m f p),
      (c, refl),
      sees-like (with_assumptions list (story_of m f p)) (state.assume list (by_state.assumed d p.verdict) p) q
          (InStep (m ++ map variable_of d) None refl c (record {
            mentioned = mentions p.counted m (map variable_of d) k.mentioned;
            found = λ b x. absurd (let z : None ≡ Some b = x in cc);
            capped = capped-all list p.naming k.capped;
            right = right-assumed p.clauses p.assumptions _ p.counted _ p.verdict k.right;
          })) e,
    ))
assume-list y p q list (Err ProofOpen) h (c, o, e) = stays y p q true h c e
assume-list y p q list (Err e) h a = refuses-names (BarsAssumptions p.proof → ⊥) y p q list e h a

true-answer : (m : List ℕ) (f : Option Bool) (p q : State) (b : Bool) → ReturnsVerdict by_state (state.once_searched p) b q → IsTrueAnswer (story_of m f p) b
true-answer m f p q true r = some-with p q r
true-answer m f p q false r = none-with p q r

answered : (m : List ℕ) (f : Option Bool) (p q : State) (b : Bool) → Fits m f p → ReturnsVerdict by_state (state.once_searched p) b q →
    Leads (λ z. (is_valid p ≡ true) × (IsTrueAnswer (story_of m f p) b × (z ≡ record (story_of m f p) { found = Some b }))) q
answered m f p q b k r =
    let e = r.rest in (
      record (story_of m f p) { found = Some b },
      (r.valid, (true-answer m f p q b r, refl)),
      InStep m (Some b) (sym (ap (story_of m (Some b)) e.same)) (ap (λ (l : Ledger). l.valid) (same-ledger e) ∙ r.valid) (record {
        mentioned = subst (λ is. is ⊆ m) (sym (same-counted e)) k.mentioned;
        found = λ c x. r.right.answer ∙ x;
        capped = subst IsCapped (sym (same-naming e)) k.capped;
        right = r.right.right;
      }),
    )

spent : (m : List ℕ) (f : Option Bool) (p q : State) → Fits m f p → IsSpent by_state (state.once_searched p) q →
    Leads (λ z. (is_valid p ≡ true) × (z ≡ story_of m f p)) q
spent m f p q k r = (
  story_of m f p,
  (r.valid, refl),
  sees-like (story_of m f p)
      (with_entries q.logged (state.with_verdict p.verdict
      (state.with_steps q.ledger.steps (state.once_searched p)))) q
      (InStep m f refl r.valid (record { mentioned = k.mentioned; found = k.found; capped = k.capped; right = k.right })) r.rest,
)

solve : (y : Story) (p q : State) (r : Result Bool SolverError) → Sees y p → Solves by_state p r q →
    Leads (Outcome (λ b x. IsTrueAnswer y b × (x ≡ record y { found = Some b })) y r) q
solve y p q (Ok b) h r =
    to-story y p h r.valid (λ y. Leads (λ z. (y.valid ≡ true) × (IsTrueAnswer y b × (z ≡ record y { found = Some b }))) q)
    (λ m f k. answered m f p q b k r)
solve y p q (Err Interrupted) h r = to-story y p h r.valid (λ y. Leads (λ z. (y.valid ≡ true) × (z ≡ y)) q) (λ m f k. spent m f p q k r)
solve y p q (Err Invalid) h (c, e) = stays y p q false h c e
solve y p q (Err OutOfMemory) h (u, n, b) = (ended y, (valid-as y p h ∙ b.valid, refl), Over (over _ q b) refl refl)
solve y p q (Err ClauseStoreFull) h ((u, n, b), full) = (ended y, (valid-as y p h ∙ b.valid, refl), Over (over _ q b) refl refl)
solve y p q (Err (ProofIoError cause)) h (o, inl (u, n, b)) = (ended y, (valid-as y p h ∙ b.valid, refl), Over (over _ q b) refl refl)
solve y p q (Err (ProofIoError cause)) h (o, inr (n, b)) = (ended y, (valid-as y p h ∙ b.valid, refl), Over (over _ q b) refl refl)
solve y p q (Err e) h a = absurd a

-- 7. A model, and a core.

no-answer : (f : Option Bool) (b : Bool) → f ≡ None → f ≢ Some b
no-answer f b e h = let z : None ≡ Some b = sym e ∙ h in cc

true-model : (m : List ℕ) (f : Option Bool) (p : State) → IsValid p → Fits m f p → (list : Option (List Literal)) → by_state.model p list →
    IsTrueModel (story_of m f p) list
true-model m f p c k None h = λ e. no-model p.naming p.verdict h (k.found true e)
true-model m f p c k (Some model) h =
    let (a, x, l) = model-sat p.naming p.verdict model h in
    let is = completable p a k.capped (subst (IsRight p.clauses p.assumptions p.counted) x k.right) in (
      c,
      subst (IsCompletable p.naming p.clauses p.assumptions m) (sym l) (record {
        rising = is.rising;
        all_listed = is.all_listed;
        in_use = is.in_use;
        uncounted = λ l i a b n. is.uncounted l i a b (λ j. n (k.mentioned i j));
        satisfied = is.satisfied;
      }),
    )

true-core : (m : List ℕ) (f : Option Bool) (p : State) → IsValid p → Fits m f p → (list : Option (List Literal)) → IsReturnedCore p list →
    IsTrueCore (story_of m f p) list
true-core m f p c k None h = λ e. no-core p.verdict h (k.found false e)
true-core m f p c k (Some core) h = (c, h.0, logged-fails p core k.right h)

-- a list is logged, or none
tell-list : (of-state : Option (List Literal) → Type 0) (of-story : Story → Option (List Literal) → Type 0) (y : Story) (p q : State)
    (r : Result (Option (List Literal)) AllocError) → Sees y p → (y.found ≡ None → of-story y None) →
    (IsValid p → (m : List ℕ) (f : Option Bool) → Fits m f p → (list : Option (List Literal)) → of-state list → of-story (story_of m f p) list) →
    ReturnsList of-state p r q → Leads (λ z. IfOk r (of-story y) × (z ≡ y)) q
tell-list of-state of-story y p q (Ok list) h none to (inl (c, t), e) =
    (y, (to-story y p h c (λ y. of-story y list) (λ m f k. to c m f k list t), refl), same y p q h e)
tell-list of-state of-story y p q (Ok list) h none to (inr (n, t), e) = (y, (subst (of-story y) (sym t) (go h), refl), same y p q h e)
  where
    go : Sees y p → of-story y None
    go (InStep m f e v k) = absurd (invalid-not p n v)
    go (Over n e g) = none g
tell-list of-state of-story y p q (Err x) h none to (c, (list, t), e) = (y, (tt, refl), same y p q h e)

-- 8. Settings, proofs, and self checking.

config : (y : Story) (p q : State) (u : SolverConfigUpdate) (r : Result (Unit {0}) SolverError) → Sees y p → state.Configures p u r q →
    Leads (Outcome (λ _ x. x ≡ y) y r) q
config y p q u (Ok x) h (c, n, e) = (y, (valid-as y p h ∙ c, refl), same-but y p q _ p.proof e refl h)
config y p q u (Err Invalid) h (c, e) = stays y p q false h c e
config y p q u (Err (ConfigOutOfRange field)) h (c, n, e) = stays y p q true h c e
config y p q u (Err e) h a = absurd a

set-phase : (y : Story) (p q : State) (l : Literal) (r : Result (Unit {0}) SolverError) → Sees y p → state.SetsPhase p l r q →
    Leads (Outcome (λ _ x. x ≡ y) y r) q
set-phase y p q l (Ok x) h (c, small, e) = (y, (valid-as y p h ∙ c, refl), same y p q h e)
set-phase y p q l (Err Invalid) h (c, e) = stays y p q false h c e
set-phase y p q l (Err VariableLimit) h (c, past, e) = stays y p q true h c e
set-phase y p q l (Err OutOfMemory) h (small, b) = breaks y p q h b
set-phase y p q l (Err e) h a = absurd a

enable-checking : (y : Story) (p q : State) (r : Result (Unit {0}) SolverError) → Sees y p → EnablesChecking p r q →
    Leads (Outcome (λ _ x. x ≡ y) y r) q
enable-checking y p q (Ok x) h (c, b, e) = (y, (valid-as y p h ∙ c, refl), same-but y p q _ p.proof e refl h)
enable-checking y p q (Err Invalid) h (c, e) = stays y p q false h c e
enable-checking y p q (Err ProofTooLate) h (c, b, e) = stays y p q true h c e
enable-checking y p q (Err e) h a = absurd a

open-refused : {W : Type 0} (taken : W → Taken) (target back : W) (format : ProofFormat) (y : Story) (p q : State) (e : SolverError) → Sees y p →
    OpensProof taken target format p (Err (e, back)) q → Leads (IsRefused y e) q
open-refused taken target back format y p q Invalid h (b, (c, e)) = stays y p q false h c e
open-refused taken target back format y p q ProofOpen h (b, c, o, e) = stays y p q true h c e
open-refused taken target back format y p q ProofTooLate h (b, c, n, s, e) = stays y p q true h c e
open-refused taken target back format y p q e h a = absurd a

close-refused : {W : Type 0} (taken : W → Taken) (target : W) (y : Story) (p q : State) (e : SolverError) → Sees y p →
    Closes by_state taken p (Err (e, target)) q → Leads (IsRefused y e) q
close-refused taken target y p q (ProofIoError cause) h (closed, has, b) = (ended y, (valid-as y p h ∙ b.valid, refl), Over (over _ q b) refl refl)
close-refused taken target y p q e h a = absurd a

-- 9. Calls in turn.

is-answered : {W S A : Type 0} (seen : S → Input) (taken : W → Taken) (c : Call W S A) (a : Answer W S A) (y : Story) (p q : State) → Sees y p →
    Makes by_state seen taken p c a q → Leads (IsAnswered seen y c a) q
is-answered seen taken (call.AddClause d) (answer.AddClause r) y p q h m = add-clause y p q d.items r h m
is-answered seen taken (call.AddFormula f) (answer.AddFormula r) y p q h m = add-formula y p q f.clauses r h m
is-answered seen taken (call.AddDimacsCnf source) (answer.AddDimacsCnf r back) y p q h m = add-text y p q (seen source) (seen back) r h m
is-answered seen taken call.NewVar (answer.NewVar r) y p q h m = make-var y p q r h m
is-answered seen taken (call.SampleVar u) (answer.SampleVar r) y p q h m = set-mode Sample y p q u r h m
is-answered seen taken (call.WitnessVar u) (answer.WitnessVar r) y p q h m = set-mode Witness y p q u r h m
is-answered seen taken (call.HideVar u) (answer.HideVar r) y p q h m = hide y p q u r h m
is-answered seen taken call.ObserveInternalVars (answer.ObserveInternalVars r) y p q h m = observe y p q r h m
is-answered seen taken (call.SetPhase l) (answer.SetPhase r) y p q h m = set-phase y p q l r h m
is-answered seen taken (call.UnsetPhase u) answer.UnsetPhase y p q h k = (y, refl, same y p q h k)
is-answered seen taken (call.Assume list) (answer.Assume r) y p q h m = assume-list y p q list.items r h m
is-answered seen taken call.Solve (answer.Solve r) y p q h m = solve y p q r h m
is-answered seen taken call.Model (answer.Model r) y p q h m =
    tell-list (by_state.model p) IsTrueModel y p q (returned_list r) h (no-answer y.found true) (λ c m f. true-model m f p c) m
is-answered seen taken call.FailedCore (answer.FailedCore r) y p q h m =
    tell-list (IsReturnedCore p) IsTrueCore y p q (returned_list r) h (no-answer y.found false) (λ c m f. true-core m f p c) m
is-answered seen taken (call.Config u) (answer.Config r) y p q h m = config y p q u r h m
is-answered seen taken (call.SetMaxSteps n) answer.SetMaxSteps y p q h k = (y, refl, same-but y p q _ p.proof k refl h)
is-answered seen taken call.Steps (answer.Steps n) y p q h (e, k) = (y, refl, same y p q h k)
is-answered seen taken call.StepsSinceChange (answer.StepsSinceChange n) y p q h (e, few, k) = (y, refl, same y p q h k)
is-answered seen taken call.IsValid (answer.IsValid b) y p q h (e, k) = (y, (e ∙ sym (valid-as y p h), refl), same y p q h k)
is-answered seen taken (call.IsFixed l) (answer.IsFixed b) y p q h (f, k) = (
  y,
  (
    λ e. let (c, is) = f e in to-story y p h c (λ z. (z.valid ≡ true) × IsEntailed z.naming z.clauses l) (λ m found k. (c, is)),
    refl,
  ),
  same y p q h k,
)
is-answered seen taken (call.WriteProof target format) (answer.WriteProof (Ok x)) y p q h (c, n, s, e) =
    (y, (valid-as y p h ∙ c, refl), same-but y p q _ _ e refl h)
is-answered seen taken (call.WriteProof target format) (answer.WriteProof (Err (e, back))) y p q h m = open-refused taken target back format y p q e h m
is-answered seen taken call.CloseProof (answer.CloseProof (Ok back)) y p q h (closed, has, e) = (y, refl, same-but y p q _ None e refl h)
is-answered seen taken call.CloseProof (answer.CloseProof (Err (e, back))) y p q h m = close-refused taken back y p q e h m
is-answered seen taken call.EnableSelfChecking (answer.EnableSelfChecking r) y p q h m = enable-checking y p q r h m
is-answered seen taken _ _ y p q h m = absurd m

are-answered : {W S A : Type 0} (seen : S → Input) (taken : W → Taken) (calls : List (Call W S A)) (answers : List (Answer W S A)) (y : Story)
    (p q : State) → Sees y p → Run seen taken p calls answers q → AreAnswered seen y calls answers
are-answered seen taken [] [] y p q h r = tt
are-answered seen taken [] (a ∷ answers) y p q h r = absurd r
are-answered seen taken (c ∷ calls) [] y p q h r = absurd r
are-answered seen taken (c ∷ calls) (a ∷ answers) y p q h (mid, m, logged, r) =
    let (z, b, k) = is-answered seen taken c a y p mid h m in (z, b, are-answered seen taken calls answers z mid q k r)

-- the story of a state that a solver stands for
sees-now : (p : State) → (IsValid p → IsCapped p.naming × HasRightVerdict p) → Sees (story_now p) p
sees-now p h = go p.ledger.valid refl
  where
    at : (b : Bool) → p.ledger.valid ≡ b → found_in p.ledger.valid p.verdict ≡ found_in b p.verdict
    at b e = ap (λ v. found_in v p.verdict) e

    go : (b : Bool) → p.ledger.valid ≡ b → Sees (story_now p) p
    go true e = InStep p.counted (answer_of p.verdict) (ap (λ f. story_of p.counted f p) (at true e)) e
        (record { mentioned = λ i k. k; found = λ b k. k; capped = (h e).0; right = (h e).1 })
    go false e = Over e e (at false e)

-- each run gives true answers
pub run-is-answered : {W S A : Type 0} (seen : S → Input) (taken : W → Taken) (calls : List (Call W S A)) (answers : List (Answer W S A)) (g : Summary)
    (p q : State) → Represents g p → Run seen taken p calls answers q → AreAnswered seen (story_now p) calls answers
run-is-answered seen taken calls answers g p q st r =
    are-answered seen taken calls answers (story_now p) p q
    (sees-now p (λ v. let (w, k) = st.fits (ap (λ (l : Ledger). l.valid) (sym st.ledger) ∙ v) in (k.well_formed.free, k.right))) r
