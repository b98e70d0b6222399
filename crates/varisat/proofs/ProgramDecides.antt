-- A text that a new solver takes in, and what is found then.
use Rattle.std.proofs.Common.{List, [], ◌∷◌, ◌++◌, Bool, ◌≡◌, ℕ, ◌+◌, ◌-◌, ◌*◌, ◌^◌, ◌<◌, ◌≤◌, max, min, length, ⊎_elim, Err, true, false, ◌⊎◌, inl, inr, sym, ap, ◌∙◌, subst, refl, Option, Some, None, Result, Ok, map, append_assoc, append-nil, arith}
use Rattle.std.proofs.lemmas.List.{append_cancel_left}
use Rattle.std.proofs.Math.Pow.{pow_mono}
use Rattle.varisat_theory.specs.promises.Literals.{Clause, Literal, Assignment, variable_of, MakesTrue, SatisfiesAll, IsSatisfiable}
use Rattle.varisat_theory.specs.promises.Derivations.{Line, IsDerivation, Refutes}
use Rattle.varisat_theory.specs.promises.Held.{SameClauses}
use Rattle.varisat_theory.proofs.clauses.Held.{same_set-self, same_clauses-self, same_clauses-back, put_back}
use Rattle.varisat_theory.proofs.clauses.Lines.{derivation_derives, derives_derivation, derives_beside, derives_same, refutes_beside, refutes_same, same_lines-self}
use Rattle.varisat_theory.specs.promises.Membership.{◌∈◌, ◌⊆◌, IsDistinct}
use Rattle.varisat_theory.proofs.clauses.Members.{∈-append_cases}
use Rattle.varisat_theory.proofs.bounds.Count.{length-distinct}
use Rattle.varisat_theory.proofs.clauses.Assigned.{satisfies_fewer}
use Rattle.varisat_formula.specs.promises.Dimacs.{Reading, dimacs}
use Rattle.varisat_formula.specs.promises.Streams.{Input, Taken, Reads, HasEnded}
use Rattle.varisat_formula.proofs.ParsedSources.{gives_whole}
use Rattle.varisat_names.specs.declared.config.SolverConfigUpdate.{SolverConfigUpdate}
use Rattle.varisat_names.specs.promises.Settings.{Settings, first_bad, no_update}
use Rattle.varisat_lines.specs.declared.format.ProofFormat.{ProofFormat}
use Rattle.varisat_solver.specs.promises.ProofCalls.{OpensProof, EnablesChecking}
use Rattle.varisat.specs.promises.Proven.{file_update, configured, prepared, Concludes}
use Rattle.varisat_solver.specs.promises.States.{State, Ledger, join_counted, empty_state, new_state}
use Rattle.varisat_solver.specs.promises.Names.{Naming, AreInOrder}
use Rattle.varisat_solver.specs.promises.Models.{IsCompletable}
use Rattle.varisat.specs.inside.Counts.{count_with}
use Rattle.varisat_solver.specs.promises.ClauseCalls.{AddsDimacs}
use Rattle.varisat_solver.specs.promises.OpenProofs.{OpenProof, first_proof}
use Rattle.varisat_solver.specs.promises.Calls.{by_state, count_anew, with_update, Ignored, Accepted}
use Rattle.varisat_solver.specs.promises.Additions.{NoFault, MemoryFault, Fault, ClauseRefused, ClausesAdded, RefusedEarly, Read, Unread}
use Rattle.varisat.specs.promises.Pasts.{Findings, Past, empty_past, by_answers}
use Rattle.varisat_solver.specs.promises.Budgets.{CountsSteps}
use Rattle.varisat.specs.promises.Decided.{IsUpToHighest, IsModel, named_variables, allowed_steps, StepsSpent, Conclusion, Decided, Unknown, IsConclusion, Decides, StatusIsTrue, conclusion_status}
use Rattle.varisat_solver.specs.declared.solver.SolverError.{SolverError}
use Rattle.varisat_solver.specs.declared.solver.SolverError.TheVariants.{Interrupted, Invalid, ConfigOutOfRange, ProofOpen, ProofTooLate}
use Rattle.varisat_solver.proofs.calls.CallStates.{same-assumptions, same-clauses, same-counted, same-ledger, same-naming}
use Rattle.varisat.proofs.NameLaws.{stay-in-order, count-above, count-within, through-all, none-in-order, in-use-below}
use Rattle.varisat_solver.proofs.calls.Counted.{join-more, join-has, join-only, join-once}
use Rattle.varisat.proofs.Effects.{add-text, solve, return-list}
use Rattle.varisat.proofs.Pasts.{Agrees, past_of, stays-but, new-agrees}
use Rattle.varisat.proofs.Histories.{is-true-too}
use Rattle.varisat_solver.specs.promises.Calls as state
use Rattle.varisat_solver.specs.promises.Additions as additions

-- Lines that are a proof from some clauses, and stay one from these and others.

-- What is a derivation from P is one from Q, and what refutes P refutes Q.
pub record Carries (P Q : List Clause) : Type 0 where
  pub derives : (lines : List Line) → IsDerivation P lines → IsDerivation Q lines
  pub refutes : (lines : List Line) → Refutes P lines → Refutes Q lines

pub carries-all : (P : List Clause) → Carries P P
carries-all P = record { derives = λ lines d. d; refutes = λ lines r. r }

pub carries-through : (P Q R : List Clause) → Carries P Q → Carries Q R → Carries P R
carries-through P Q R f g = record { derives = λ lines d. g.derives lines (f.derives lines d); refutes = λ lines r. g.refutes lines (f.refutes lines r) }

-- one more clause among them
pub carries-one-more : (P : List Clause) (c : Clause) (Q : List Clause) → Carries (P ++ Q) (P ++ c ∷ Q)
carries-one-more P c Q = record {
  derives = λ lines d.
      let (last, e) = derivation_derives (P ++ Q) lines d in
      let (after, f, same) = derives_same (c ∷ (P ++ Q)) (P ++ c ∷ Q) lines lines (c ∷ last) moved (same_lines-self lines)
      (derives_beside (c ∷ []) (P ++ Q) lines last e) in
      derives_derivation (P ++ c ∷ Q) lines after f;
  refutes = λ lines r. refutes_same (c ∷ (P ++ Q)) (P ++ c ∷ Q) lines lines moved (same_lines-self lines) (refutes_beside (c ∷ []) (P ++ Q) lines r);
}
  where
    moved : SameClauses (c ∷ (P ++ Q)) (P ++ c ∷ Q)
    moved = same_clauses-back (P ++ c ∷ Q) (c ∷ (P ++ Q)) (put_back P Q (P ++ Q) c c (same_set-self c) (same_clauses-self (P ++ Q)))

abbrev pub done : Result (Unit {0}) SolverError
done = Ok tt

-- how many names are in use once those of the clauses are
abbrev count-all : ℕ → List Clause → ℕ
count-all n [] = n
count-all n (c ∷ P) = count-all (count_with n c) P

-- What becomes of a past whose names are those below n, in order, as it takes clauses in. `more`: the clauses before stay.
-- `part`: each one that joined is one of those taken in. `whole`: all of them joined, and their names are in order; or no
-- assignment satisfies those that did. `carries`: what is a proof from the clauses that joined is one from all that were taken
-- in. `counted`, `once`: no more variables are counted than the clauses name, and none twice.
record Took (n : ℕ) (P : List Clause) (p q : Past) : Type 0 where
  more : (a : Assignment) → SatisfiesAll a q.clauses → SatisfiesAll a p.clauses
  part : (a : Assignment) → SatisfiesAll a p.clauses → SatisfiesAll a P → SatisfiesAll a q.clauses
  whole : (IsSatisfiable q.clauses → ⊥) ⊎ ((q.clauses ≡ p.clauses ++ P) × AreInOrder (count-all n P) q.naming)
  carries : Carries q.clauses (p.clauses ++ P)
  counted : (known : List ℕ) → p.counted ⊆ known → q.counted ⊆ named_variables known P
  once : IsDistinct p.counted → IsDistinct q.counted
  steps : q.ledger.steps ≡ p.ledger.steps
  settings : q.ledger.settings ≡ p.ledger.settings
  assumptions : q.assumptions ≡ p.assumptions

join-part : (xs known is : List ℕ) → xs ⊆ known → join_counted xs is ⊆ join_counted known is
join-part xs known is h i m = ⊎_elim (λ k. join-more is known i (h i k)) (join-has is known i) (join-only is xs i m)

satisfies-one-more : (a : Assignment) (P Q : List Clause) (c : Clause) → SatisfiesAll a P → SatisfiesAll a (c ∷ Q) → SatisfiesAll a (P ++ c ∷ [])
satisfies-one-more a P Q c x y d h = ⊎_elim (x d) (λ k. ⊎_elim (λ e. y d (inl e)) (λ z. absurd z) k) (∈-append_cases d P (c ∷ []) h)

took : (n : ℕ) (p q : Past) (P : List Clause) → AreInOrder n p.naming → additions.AddsAll by_answers p P done q → Took n P p q
took n p q [] o (u, e) =
    subst (Took n [] p) (sym e) (record {
      more = λ a h. h;
      part = λ a h _. h;
      whole = inr (sym (append-nil p.clauses), o);
      carries = subst (Carries p.clauses) (sym (append-nil p.clauses)) (carries-all p.clauses);
      counted = λ known h. h;
      once = λ h. h;
      steps = refl;
      settings = refl;
      assumptions = refl;
    })
took n p q (c ∷ P) o (inr (e, k, a)) = absurd cc
took n p q (c ∷ P) o (inl (mid, (v, Accepted u l (w, is, e)), rest)) =
    let (order, own) = stay-in-order n p.naming c o in
    let clauses : mid.clauses ≡ p.clauses ++ c ∷ [] = (same-clauses e) ∙ ap (λ x. p.clauses ++ x ∷ []) own in
    let counted : mid.counted ≡ join_counted p.counted (map variable_of c) = (same-counted e) ∙ ap (λ x. join_counted p.counted (map variable_of x)) own in
    let r = took (count_with n c) mid q P (subst (AreInOrder (count_with n c)) (sym (same-naming e)) order) rest in
    record {
      more = λ a h. satisfies_fewer a p.clauses (c ∷ []) (subst (SatisfiesAll a) clauses (r.more a h));
      part = λ a x y. r.part a (subst (SatisfiesAll a) (sym clauses) (satisfies-one-more a p.clauses P c x y)) (λ d h. y d (inr h));
      whole = ⊎_elim inl (λ w. inr (w.0 ∙ ap (λ Q. Q ++ P) clauses ∙ append_assoc p.clauses (c ∷ []) P, w.1)) r.whole;
      carries = subst (Carries q.clauses) (ap (λ Q. Q ++ P) clauses ∙ append_assoc p.clauses (c ∷ []) P) r.carries;
      counted = λ known h. r.counted (join_counted known (map variable_of c))
          (subst (λ xs. xs ⊆ join_counted known (map variable_of c)) (sym counted) (join-part p.counted known (map variable_of c) h));
      once = λ h. r.once (subst IsDistinct (sym counted) (join-once (map variable_of c) p.counted h));
      steps = r.steps ∙ ap (λ (l : Ledger). l.steps) (same-ledger e);
      settings = r.settings ∙ ap (λ (l : Ledger). l.settings) (same-ledger e);
      assumptions = r.assumptions ∙ (same-assumptions e);
    }
took n p q (c ∷ P) o (inl (mid, (v, Ignored u e), rest)) =
    let r = took n (count_anew p) q P o (subst (λ (x : Past). additions.AddsAll by_answers x P done q) e rest) in
    record {
      more = r.more;
      part = λ a x y. r.part a x (λ d h. y d (inr h));
      whole = inl (λ w. u (w.0, r.more w.0 w.1));
      carries = carries-through q.clauses (p.clauses ++ P) (p.clauses ++ c ∷ P) r.carries (carries-one-more p.clauses c P);
      counted = λ known h. r.counted (join_counted known (map variable_of c)) (λ i m. join-more (map variable_of c) known i (h i m));
      once = r.once;
      steps = r.steps;
      settings = r.settings;
      assumptions = r.assumptions;
    }

-- the same where steps are counted anew then
took-anew : (n : ℕ) (P : List Clause) (p q : Past) → Took n P p q → Took n P p (count_anew q)
took-anew n P p q r = record {
  more = r.more;
  part = r.part;
  whole = r.whole;
  carries = r.carries;
  counted = r.counted;
  once = r.once;
  steps =
      r.steps;
  settings = r.settings;
  assumptions = r.assumptions;
}

none-true : (a : Assignment) (A : List Literal) → A ≡ [] → MakesTrue a A
none-true a A e l h = let z : l ∈ [] = subst (λ x. l ∈ x) e h in absurd z

-- The variables up to the highest that clauses name are those below the count.

below-count : (u n : ℕ) (c : Clause) → u < count_with n c → (u < n) ⊎ ((l : Literal) × (l ∈ c) × (u ≤ variable_of l))
below-count u n [] h = inl h
below-count u n (l ∷ c) h =
    ⊎_elim
    (λ k. ⊎_elim inl (λ m. inr (l, inl refl, m)) (below-or u n (variable_of l) k))
    (λ (m, i, k). inr (m, inr i, k))
    (below-count u (max n (variable_of l + 1)) c h)
  where
    below-or : (u n v : ℕ) → u < max n (v + 1) → (u < n) ⊎ (u ≤ v)
    below-or u n v h = grind arith

below-all : (u n : ℕ) (P : List Clause) → u < count-all n P → (u < n) ⊎ IsUpToHighest P u
below-all u n [] h = inl h
below-all u n (c ∷ P) h =
    ⊎_elim
    (λ k. ⊎_elim inl (λ (l, i, m). inr (c, l, inl refl, i, m)) (below-count u n c k))
    (λ (d, l, i, j, m). inr (d, l, inr i, j, m))
    (below-all u (count_with n c) P h)

count-grows : (n : ℕ) (P : List Clause) → n ≤ count-all n P
count-grows n [] = omega arith
count-grows n (c ∷ P) = let a = count-above c n in let b = count-grows (count_with n c) P in omega (arith, a, b)

named-below : (n : ℕ) (P : List Clause) (c : Clause) (l : Literal) → c ∈ P → l ∈ c → variable_of l < count-all n P
named-below n [] c l h i = absurd h
named-below n (d ∷ P) c l (inl e) i =
    let a = count-within d n l (subst (λ x. l ∈ x) e i) in
    let b = count-grows (count_with n d) P in omega (arith, a, b)
named-below n (d ∷ P) c l (inr h) i = named-below (count_with n d) P c l h i

-- where names are in order, a model of what is over identities is one of the clauses themselves
own-model : (P : List Clause) (m : Naming) (assumptions : List Literal) (counted : List ℕ) (model : List Literal) → AreInOrder (count-all 0 P) m →
    IsCompletable m P assumptions counted model → IsModel P model
own-model P m assumptions counted model o k = record {
  rising = k.rising;
  all_listed = λ u (c, l, h, i, b). let a = named-below 0 P c l h i in k.all_listed u u (o.in_use u (omega (arith, a, b)));
  up_to_highest = λ l h. ⊎_elim (λ z. absurd (omega (arith, z))) (λ z. z) (below-all (variable_of l) 0 P (below l h));
  satisfied = let (a, agrees, satisfies, assumed) = k.satisfied in (a, subst (MakesTrue a) (through-all (count-all 0 P) m model o below) agrees, satisfies);
}
  where
    below : (l : Literal) → l ∈ model → variable_of l < count-all 0 P
    below = in-use-below (count-all 0 P) m model o k.in_use

-- all clauses were taken in, and then steps are counted anew
abbrev AddsWhole : Past → List Clause → Past → Type 0
AddsWhole p P q = (m : Past) × additions.AddsAll by_answers p P done m × (q ≡ count_anew m)

reading-whole : (p q : Past) (R : Reading) → additions.AddsReading by_answers p R done q → (R.fault ≡ None) × AddsWhole p R.clauses q
reading-whole p q R (ClauseRefused e k a) = absurd cc
reading-whole p q R (ClausesAdded m a (NoFault n k e)) = (n, (m, a, e))
reading-whole p q R (ClausesAdded m a (MemoryFault y n k e b)) = absurd cc
reading-whole p q R (ClausesAdded m a (Fault y n k e b)) = absurd cc

-- a text that was taken in whole
record Takes (old new : Input) (p q : Past) : Type 0 where
  text : List ℕ
  reads : Reads old text new
  ended : HasEnded new
  quiet : new.faults ≡ old.faults
  fine : (dimacs text).fault ≡ None
  all : AddsWhole p (dimacs text).clauses q

takes : (old new : Input) (p q : Past) → additions.AddsText by_answers p old done new q → Takes old new p q
takes old new p q (Read v R g a) =
    let (fine, all) = reading-whole p q R a in
    let w = gives_whole old new R g fine in
    record {
      text = w.text;
      reads = w.reads;
      ended = w.ended;
      quiet = w.quiet;
      fine = ap (λ x. x.fault) (sym w.is) ∙ fine;
      all = subst (λ (x : Reading). AddsWhole p x.clauses q) w.is all;
    }
takes old new p q (RefusedEarly v ended g e k a) = absurd cc
takes old new p q (Unread e k n) = absurd cc

-- a new solver's state with the settings for a file, and a proof that is open, or none
abbrev begun : Bool → Option OpenProof → Option ℕ → State
begun check proof limit = record (configured check limit) { proof = proof }

-- and the past
abbrev begun_past : Bool → Option OpenProof → Option ℕ → Past
begun_past check proof limit = past_of empty_past.verdict (begun check proof limit)

begun-took : (check : Bool) (proof : Option OpenProof) (limit : Option ℕ) (q : Past) (P : List Clause) → AddsWhole (begun_past check proof limit) P q →
    Took 0 P (begun_past check proof limit) q
begun-took check proof limit q P (m, a, e) = subst (Took 0 P (begun_past check proof limit)) (sym e)
    (took-anew 0 P (begun_past check proof limit) m (took 0 (begun_past check proof limit) m P none-in-order a))

begun-agrees : (check : Bool) (proof : Option OpenProof) (limit : Option ℕ) → Agrees empty_past.verdict (begun check proof limit)
begun-agrees check proof limit = stays-but empty_past.verdict (new_state check) (begun check proof limit) _ proof refl (λ h. refl) (new-agrees check)

-- of a proof that was just opened, that no search ran under it
abbrev pub unsearched : {W : Type 0} → (W → Taken) → ProofFormat → Option W → Option OpenProof
unsearched taken format None = None
unsearched taken format (Some target) = Some (first_proof format (taken target))

-- how a new solver is prepared
pub prepared-begun : {W : Type 0} (taken : W → Taken) (format : ProofFormat) (check : Bool) (limit : Option ℕ) (target : Option W) →
    prepared taken format check limit target ≡ begun check (unsearched taken format target) limit
prepared-begun taken format check limit None = refl
prepared-begun taken format check limit (Some target) = refl

-- a new solver takes settings that are in their ranges
pub takes-update : (check : Bool) (u : SolverConfigUpdate) (r : Result (Unit {0}) SolverError) (s : State) → first_bad u ≡ None →
    state.Configures (new_state check) u r s → s ≡ with_update u (new_state check)
takes-update check u (Ok x) s fits (v, n, k) = k
takes-update check u (Err Invalid) s fits (v, k) = let z : true ≡ false = v in absurd cc
takes-update check u (Err (ConfigOutOfRange field)) s fits (v, n, k) = let z : None ≡ Some field = sym fits ∙ n in absurd cc
takes-update check u (Err e) s fits h = absurd h

-- the update is made of one that changes nothing
pub configures-new : (check : Bool) (limit : Option ℕ) (u : SolverConfigUpdate) (r : Result (Unit {0}) SolverError) (s : State) → u ≡ no_update →
    state.Configures (new_state check)
    (record u { reduce_locals_interval = Some 2000; luby_restart_interval_scale = Some 1; restart_glue = Some 110; max_steps = limit }) r s →
    s ≡ configured check limit
configures-new check limit u r s e h =
    takes-update check (file_update limit) r s refl
    (subst
    (λ (x : SolverConfigUpdate). state.Configures (new_state check)
    (record x { reduce_locals_interval = Some 2000; luby_restart_interval_scale = Some 1; restart_glue = Some 110; max_steps = limit }) r s) e h)

pub opens-configured : {W : Type 0} (taken : W → Taken) (target : W) (format : ProofFormat) (check : Bool) (limit : Option ℕ) (s t : State)
    (r : Result (Unit {0}) (SolverError × W)) → s ≡ configured check limit → OpensProof taken target format s r t →
    t ≡ prepared taken format check limit (Some target)
opens-configured {W = W} taken target format check limit s t r e h = go r (subst (λ x. OpensProof taken target format x r t) e h)
  where
    go : (r : Result (Unit {0}) (SolverError × W)) → OpensProof taken target format (configured check limit) r t →
        t ≡ prepared taken format check limit (Some target)
    go (Ok x) (v, n, b, k) = k
    go (Err (Invalid, back)) (h, (v, k)) = let z : true ≡ false = v in absurd cc
    go (Err (ProofOpen, back)) (h, v, (o, n), k) = let z : None ≡ Some o = n in absurd cc
    go (Err (ProofTooLate, back)) (h, v, n, b, k) = let z : false ≡ true = b in absurd cc
    go (Err (e, back)) h = absurd h

-- It does not refuse to switch self checking on.
pub enables-new : (r : Result (Unit {0}) SolverError) (s : State) → EnablesChecking empty_state r s → (r ≡ Ok tt) × (s ≡ new_state true)
enables-new (Ok u) s (v, b, e) = (refl, e)
enables-new (Err Invalid) s (v, e) = let z : true ≡ false = v in absurd cc
enables-new (Err ProofTooLate) s (v, b, e) = let z : false ≡ true = b in absurd cc
enables-new (Err e) s h = absurd h

pub no-target : {W : Type 0} (o : Option W) → ((target : W) → o ≡ Some target → ⊥) → o ≡ None
no-target None h = refl
no-target (Some target) h = absurd (h target refl)

-- A new solver took a text in, and then is asked.
module _ (check : Bool) (proof : Option OpenProof) (limit : Option ℕ) (old new : Input) (s t : State) (is : s ≡ begun check proof limit)
    (adds : AddsDimacs s old done new t) where
  text-taken : (v : Findings) × additions.AddsText by_answers (begun_past check proof limit) old done new (past_of v t) × Agrees v t
  text-taken = is-true-too (λ p q. additions.AddsText by_answers p old done new q) empty_past.verdict (begun check proof limit) t
      (begun-agrees check proof limit)
      (add-text by_state by_answers (begun check proof limit) t old new done (subst (λ (x : State). AddsDimacs x old done new t) is adds))

  -- what an answer says of the past
  answered : (b : Bool) (v : Findings) (u : State) → Agrees v t → state.Solves by_state t (Ok b) u →
      (z : Findings) × state.Solves by_answers (past_of v t) (Ok b) (past_of z u) × Agrees z u
  answered b v u g f = is-true-too (λ p q. state.Solves by_answers p (Ok b) q) v t u g (solve by_state by_answers t u (Ok b) f)

  -- what was found, and that the text's clauses are those of the solver and others
  abbrev pub Found : Conclusion → Type 0
  Found c = (d : Decides (allowed_steps limit) old new c) × Carries t.clauses (dimacs d.text).clauses

  found-none : (u : State) → state.Solves by_state t (Ok false) u → Found (Decided None)
  found-none u f =
      let (v, x, g) = text-taken in
      let q = past_of v t in
      let (z, e, h) = answered false v u g f in
      let n = e.right.1 in
      let w = takes old new (begun_past check proof limit) q x in
      let r = begun-took check proof limit q (dimacs w.text).clauses w.all in (
        record {
          text = w.text;
          reads = w.reads;
          ended = w.ended;
          quiet = w.quiet;
          fine = w.fine;
          found =
              λ s. n (s.0, r.part s.0 (λ d h. absurd h) s.1, none-true s.0 t.assumptions r.assumptions);
        },
        r.carries,
      )

  found-unknown : (u : State) → state.Solves by_state t (Err Interrupted) u → Found (Unknown StepsSpent)
  found-unknown u f =
      let (v, x, g) = text-taken in
      let q = past_of v t in
      let w = takes old new (begun_past check proof limit) q x in
      let r = begun-took check proof limit q (dimacs w.text).clauses w.all in
      let names = named_variables [] (dimacs w.text).clauses in
      let fewer = length-distinct t.counted names (r.once tt) (r.counted [] (λ i h. h)) in
      let early = spent-early (length t.counted) (allowed_steps limit) t.ledger.settings.max_steps t.ledger.since t.ledger.steps u.ledger.steps f.steps
      (ap (λ (s : Settings). s.max_steps) r.settings) r.steps in
      let power : 2 ^ (2 * length t.counted + 3) ≤ 2 ^ (2 * length names + 3) = pow_mono (omega (arith, fewer)) in (
        record { text = w.text; reads = w.reads; ended = w.ended; quiet = w.quiet; fine = w.fine; found = omega (arith, early, power) },
        r.carries,
      )
    where
      spent-early : (n max_steps own since before after : ℕ) → CountsSteps n own since before after (Err Interrupted) → own ≡ max_steps →
          before ≡ 0 → min max_steps (2 ^ 64 - 1) < 2 ^ (2 * n + 3)
      spent-early n max_steps own since before after k e z =
          let b = k.bounded.1 in
          let d = k.count in
          ⊎_elim (λ (s : k.made ≡ own). omega (arith, s, e, b)) (λ (s : after ≡ 2 ^ 64 - 1). omega (arith, s, d, z, b)) (k.spent refl)

  found-model : (model : List Literal) (u v : State) → state.Solves by_state t (Ok true) u →
      state.ReturnsList (by_state.model u) u (Ok (Some model)) v → Found (Decided (Some model))
  found-model model u y f d =
      let (v, x, g) = text-taken in
      let q = past_of v t in
      let (z, e, h) = answered true v u g f in
      let s = e.right.1 in
      let k = takes old new (begun_past check proof limit) q x in
      let r = begun-took check proof limit q (dimacs k.text).clauses k.all in (
        record {
          text = k.text;
          reads = k.reads;
          ended = k.ended;
          quiet = k.quiet;
          fine = k.fine;
          found = outcome (dimacs k.text).clauses r.whole (s.0, s.1) z (same-clauses f.rest) (same-naming f.rest) h;
        },
        r.carries,
      )
    where
      outcome : (P : List Clause) → (IsSatisfiable t.clauses → ⊥) ⊎ ((t.clauses ≡ P) × AreInOrder (count-all 0 P) t.naming) →
          IsSatisfiable t.clauses → (z : Findings) → u.clauses ≡ t.clauses → u.naming ≡ t.naming → Agrees z u → IsModel P model
      outcome P (inl n) s z e same h = absurd (n s)
      outcome P (inr (clauses, order)) s z e same h =
          let (w, (may, still), j) = is-true-too (λ p q. state.ReturnsList (by_answers.model p) p (Ok (Some model)) q) z u y h
          (return-list by_state by_answers (by_state.model u) by_answers.model u y (Ok (Some model)) (λ v k. k.model) d) in
          let o = ⊎_elim (λ x. x.1.1) (λ x. absurd (let none : Some model ≡ None = x.1 in cc)) may in
          let logged = subst (λ Q. IsCompletable u.naming Q u.assumptions u.counted model) (e ∙ clauses) o in
          own-model P u.naming u.assumptions u.counted model (subst (AreInOrder (count-all 0 P)) (sym same) order) logged

  pub found : (c : Conclusion) (u : State) → Concludes t c u → Found c
  found (Unknown StepsSpent) u f = found-unknown u f
  found (Decided None) u f = found-none u f
  found (Decided (Some model)) u (f, d) = found-model model u u f d

-- The status.

pub outcome-is-true : (max_steps : ℕ) (old new : Input) (outcome : Conclusion) (status : ℕ) → Decides max_steps old new outcome →
    status ≡ conclusion_status outcome → StatusIsTrue old new status
outcome-is-true max_steps old new outcome status d e = record {
  ended = λ n. d.ended.reported;
  quiet = λ n. d.quiet;
  fine = λ text g n. subst (λ x. (dimacs x).fault ≡ None) (same text g) d.fine;
  satisfiable = λ text g t. subst (λ x. IsSatisfiable (dimacs x).clauses) (same text g) (found outcome (sym e ∙ t) d.found);
  unsatisfiable = λ text g t. subst (λ x. IsSatisfiable (dimacs x).clauses → ⊥) (same text g) (none outcome (sym e ∙ t) d.found);
}
  where
    same : (text : List ℕ) → new.given ≡ old.given ++ text → d.text ≡ text
    same text g = append_cancel_left old.given d.text text (sym d.reads.gave ∙ g)

    found : (o : Conclusion) → conclusion_status o ≡ 10 → IsConclusion max_steps (dimacs d.text).clauses o → IsSatisfiable (dimacs d.text).clauses
    found (Unknown reason) h k = absurd (omega (arith, h))
    found (Decided None) h k = absurd (omega (arith, h))
    found (Decided (Some m)) h k = (k.satisfied.0, k.satisfied.2)

    none : (o : Conclusion) → conclusion_status o ≡ 20 → IsConclusion max_steps (dimacs d.text).clauses o → IsSatisfiable (dimacs d.text).clauses → ⊥
    none (Unknown reason) h k = absurd (omega (arith, h))
    none (Decided None) h k = k
    none (Decided (Some m)) h k = absurd (omega (arith, h))
