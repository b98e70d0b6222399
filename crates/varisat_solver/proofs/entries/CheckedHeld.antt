-- What the checker that runs inside has, as more is logged, and what a search may rely on by it.
use Rattle.std.proofs.Common.{◌≡◌, ◌≢◌, ◌↔◌, ℕ, Bool, true, false, ◌||◌, nat_eq, Option, Some, None, List, [], ◌∷◌, ◌++◌, inl, inr, ⊎_elim, map, sym, ap, ap₂, ◌∙◌, subst, refl, eq-eqb, ne_eqb}
use Rattle.std.proofs.lemmas.List.{map-append}
use Rattle.varisat_theory.specs.promises.Membership.{◌∈◌}
use Rattle.varisat_theory.specs.promises.Literals.{Literal, Clause, variable_of}
use Rattle.varisat_theory.specs.promises.Derivations.{Line, Add, Delete, SpeakOf}
use Rattle.varisat_theory.specs.promises.Held.{SameClauses, mentions, unless, without}
use Rattle.varisat_theory.specs.promises.Renaming.{rename, rename_line}
use Rattle.varisat_theory.specs.promises.Journals.{Entry, Accepts, Writes, Assumes, Fails, Retires, Leads, NoneRetires, written}
use Rattle.varisat_theory.specs.inside.Outcomes as outcome
use Rattle.varisat_theory.specs.promises.Searches.{Fits}
use Rattle.varisat_theory.proofs.clauses.Held.{same_set-self, same_add, same_clauses-back, same_clauses-through, same_clauses_find, takes_out_unique}
use Rattle.varisat_theory.proofs.journals.HeldRetirements.{same_without}
use Rattle.varisat_theory.proofs.clauses.Members.{equal_or_not}
use Rattle.varisat_theory.proofs.journals.Journals.{leads_cut, leads_unique}
use Rattle.varisat_theory.proofs.journals.Renaming.{takes_out_renamed, same_clauses_renamed}
use Rattle.varisat_prop.proofs.trails.LiteralValues.{same-literal}
use Rattle.varisat_prop.specs.View.{View}
use Rattle.varisat_names.specs.promises.Variables.{Tables}
use Rattle.varisat_names.proofs.Maps.{chain-through}
use Rattle.varisat_proof.specs.promises.Calls.{CheckerState}
use Rattle.varisat_proof.specs.inside.Present.{IsLeftAfter}
use Rattle.varisat_proof.specs.promises.Proving.{ProofParts, IsCheckedIf, MayBePresent}
use Rattle.varisat_search.specs.AssumptionParts.{AssumptionParts}
use Rattle.varisat_search.specs.Seen.{search_of}
use Rattle.varisat_search.specs.declared.state.SatState.{SatState}
use Rattle.varisat_search.specs.declared.state.SatState.TheVariants as verdict
use Rattle.varisat_steps.specs.Traces.{AdmitsFor}
use Rattle.varisat_tracer.specs.promises.Carried.{carry, logged_as}
use Rattle.varisat_tracer.specs.inside.Tracing.{Relies, CanLog}
use Rattle.varisat_solver.specs.inside.Searches.{ComesOn, Turn}
use Rattle.varisat_solver.specs.inside.Spaces.{Spaces, Carrying, translation, without_core, AreLive, SharesHeld, CheckerFits, Links, FitSome}
use Rattle.varisat_solver.specs.promises.States.{State}
use Rattle.varisat_solver.specs.inside.Representations.{spaces_of}
use Rattle.varisat_solver.proofs.calls.Carried.{carry-at, carry-sign}
use Rattle.varisat_solver.proofs.entries.ReachedHeld.{left-apart, logged-live}
use Rattle.varisat_solver.proofs.calls.SpacesAgree.{map-map, carry-same, rename-same}

-- 1. Entries that are logged, under other names for the variables.

-- one more clause
one-more : (f : Literal → Literal) (held after P : List Clause) (c : Clause) → SameClauses (rename f held) P → after ≡ held ++ c ∷ [] →
    SameClauses (rename f after) (P ++ map f c ∷ [])
one-more f held after P c s e =
    subst (λ (X : List Clause). SameClauses X (P ++ map f c ∷ [])) (sym (ap (rename f) e ∙ map-append (map f) held (c ∷ [])))
    (same_add (rename f held) P (map f c) (map f c) s (same_set-self (map f c)))

-- What is left after entries is what they lead to, as long as no variable leaves.
pub left-as : (f : Literal → Literal) (es : List Entry) (held after P Q : List Clause) → NoneRetires es → SameClauses (rename f held) P →
    Leads held es after → IsLeftAfter P (logged_as f es) Q → SameClauses (rename f after) Q
left-as f [] held after P Q n s d e = subst (λ (X : List Clause). SameClauses (rename f after) X) e
    (subst (λ (X : List Clause). SameClauses (rename f X) P) d s)
left-as f (Accepts c ∷ es) held after P Q n s (R, e, d) l = left-as f es R after (P ++ map f c ∷ []) Q n (one-more f held R P c s e) d l
left-as f (Writes (Add c) ∷ es) held after P Q n s (R, (g, e), d) l = left-as f es R after (P ++ map f c ∷ []) Q n (one-more f held R P c s e) d l
left-as f (Writes (Delete c) ∷ es) held after P Q n s (R, t, d) (S, u, l) =
    left-as f es R after S Q n (takes_out_unique (rename f held) P (map f c) (rename f R) S s (takes_out_renamed f held c R t) u) d l
left-as f (Assumes a ∷ es) held after P Q n s (R, e, d) l = left-as f es R after P Q n (subst (λ (X : List Clause). SameClauses (rename f X) P) (sym e) s) d l
left-as f (Fails core ∷ es) held after P Q n s (R, (g, e), d) l =
    left-as f es R after P Q n (subst (λ (X : List Clause). SameClauses (rename f X) P) (sym e) s) d l
left-as f (Retires v ∷ es) held after P Q n s d l = absurd n

may-hold-on : (f : Literal → Literal) (k k' : Option CheckerState) (es : List Entry) (held after : List Clause) → NoneRetires es →
    IsCheckedIf k (logged_as f es) k' → Leads held es after → MayBePresent k (rename f held) → MayBePresent k' (rename f after)
may-hold-on f None k' es held after n e d h = subst (λ o. MayBePresent o (rename f after)) (sym e) tt
may-hold-on f (Some a) None es held after n e d h = absurd e
may-hold-on f (Some a) (Some b) es held after n (l, e) d (s, u) = (left-as f es held after a.clauses b.clauses n s d l, e ∙ u)

-- The checker goes on with what is logged.
pub checker-on : (global : ℕ → Option ℕ) (logged es : List Entry) (k k' : Option CheckerState) → NoneRetires es →
    IsCheckedIf k (logged_as (carry global) es) k' → CheckerFits global logged k → CheckerFits global (logged ++ es) k'
checker-on global logged es k k' n c fits after led =
    let (held, first, rest) = leads_cut [] logged es after led in
    may-hold-on (carry global) k k' es held after n c rest (fits held first)

-- A list of assumptions changes nothing of it.
pub checker-still : (global : ℕ → Option ℕ) (logged : List Entry) (a : List Literal) (k : Option CheckerState) → CheckerFits global logged k →
    CheckerFits global (logged ++ Assumes a ∷ []) k
checker-still global logged a k fits = checker-on global logged (Assumes a ∷ []) k k tt (go k) fits
  where
    go : (k : Option CheckerState) → IsCheckedIf k (logged_as (carry global) (Assumes a ∷ [])) k
    go None = refl
    go (Some c) = (refl, refl)

-- where nothing is logged it stays as it is
pub checked-nothing : (k k' : Option CheckerState) → IsCheckedIf k [] k' → k' ≡ k
checked-nothing None k' e = e
checked-nothing (Some a) None e = absurd e
checked-nothing (Some a) (Some b) (c, u) = ap₂ (λ (cs : List Clause) (s : Bool). Some (record { clauses = cs; spent = s })) (sym c) u

-- nor does a list of assumptions change it
pub checked-assumed : (k k' : Option CheckerState) (a : List Literal) → IsCheckedIf k (Assumes a ∷ []) k' → k' ≡ k
checked-assumed None k' a e = e
checked-assumed (Some x) None a e = absurd e
checked-assumed (Some x) (Some y) a (c, u) = checked-nothing (Some x) (Some y) (c, u)

-- Other names for the variables make no difference where they agree on what is held.
pub checker-alike : (f g : ℕ → Option ℕ) (logged : List Entry) (k : Option CheckerState) →
    ((held : List Clause) → Leads [] logged held → (c : Clause) (l : Literal) → c ∈ held → l ∈ c → f (variable_of l) ≡ g (variable_of l)) →
    CheckerFits f logged k → CheckerFits g logged k
checker-alike f g logged k same fits held led = subst (MayBePresent k)
    (rename-same (carry f) (carry g) held (λ c l h i. carry-same f g l (same held led c l h i))) (fits held led)

-- a clause mentions the one variable just where it mentions the other under the other name
mentions-alike : (f : Literal → Literal) (x i : ℕ) (c : Clause) → ((l : Literal) → l ∈ c → (variable_of (f l) ≡ x) ↔ (variable_of l ≡ i)) →
    mentions x (map f c) ≡ mentions i c
mentions-alike f x i [] same = refl
mentions-alike f x i (l ∷ c) same =
    ap (λ b. b || mentions x (map f c)) (⊎_elim
    (λ e. eq-eqb (variable_of (f l)) x ((same l (inl refl)).1 e) ∙ sym (eq-eqb (variable_of l) i e))
    (λ n. ne_eqb (variable_of (f l)) x (λ e. n ((same l (inl refl)).0 e)) ∙ sym (ne_eqb (variable_of l) i n))
    (equal_or_not (variable_of l) i))
    ∙ ap (λ b. nat_eq (variable_of l) i || b) (mentions-alike f x i c (λ m h. same m (inr h)))

-- and so the same clauses are left without it
without-alike : (f : Literal → Literal) (x i : ℕ) (P : List Clause) →
    ((c : Clause) (l : Literal) → c ∈ P → l ∈ c → (variable_of (f l) ≡ x) ↔ (variable_of l ≡ i)) → without x (rename f P) ≡ rename f (without i P)
without-alike f x i [] same = refl
without-alike f x i (c ∷ P) same =
    ap₂ (λ b (Q : List Clause). unless b (map f c) Q) (mentions-alike f x i c (λ l h. same c l (inl refl) h))
    (without-alike f x i P (λ d l h j. same d l (inr h) j)) ∙ out (mentions i c)
  where
    out : (b : Bool) → unless b (map f c) (rename f (without i P)) ≡ rename f (unless b c (without i P))
    out true = refl
    out false = refl

-- The variable of an identity is gone for good, and of what is held other literals are of other variables.
pub checker-without : (f g : ℕ → Option ℕ) (logged : List Entry) (i x : ℕ) (k k' : Option CheckerState) →
    ((held : List Clause) → Leads [] logged held → (c : Clause) (l : Literal) → c ∈ held → l ∈ c →
    (variable_of (carry f l) ≡ x) ↔ (variable_of l ≡ i)) → ((j : ℕ) → j ≢ i → f j ≡ g j) → IsCheckedIf k (Retires x ∷ []) k' →
    CheckerFits f logged k → CheckerFits g (logged ++ Retires i ∷ []) k'
checker-without f g logged i x k k' same other c fits after led =
    let (held, first, (R, e, d)) = leads_cut [] logged (Retires i ∷ []) after led in
    subst (λ (X : List Clause). MayBePresent k' (rename (carry g) X)) (sym e ∙ d)
    (subst (MayBePresent k') (rename-same (carry f) (carry g) (without i held) (λ d l h j. carry-same f g l (other (variable_of l) (left-apart i held d l h j))))
    (go k k' c held (λ d l h j. same held first d l h j) (fits held first)))
  where
    go : (k k' : Option CheckerState) → IsCheckedIf k (Retires x ∷ []) k' → (held : List Clause) →
        ((c : Clause) (l : Literal) → c ∈ held → l ∈ c → (variable_of (carry f l) ≡ x) ↔ (variable_of l ≡ i)) → MayBePresent k (rename (carry f) held) →
        MayBePresent k' (rename (carry f) (without i held))
    go None k' e held same h = subst (λ o. MayBePresent o (rename (carry f) (without i held))) (sym e) tt
    go (Some a) None e held same h = absurd e
    go (Some a) (Some b) (l, u) held same (s, v) = (
      subst (λ (X : List Clause). SameClauses X b.clauses) (without-alike (carry f) x i held same)
          (subst (SameClauses (without x (rename (carry f) held))) l (same_without x (rename (carry f) held) a.clauses s)),
      u ∙ v,
    )

-- 2. What is logged over identities is what the tracer logs over global variables.

pub logged-carried : (f g h : Literal → Literal) (are : Literal → Type 0) (lines : List Line) → ((l : Literal) → are l → g (f l) ≡ h l) →
    SpeakOf are lines → logged_as g (written (map (rename_line f) lines)) ≡ logged_as h (written lines)
logged-carried f g h are [] e w = refl
logged-carried f g h are (Add c ∷ lines) e (s, w) =
    ap (λ (d : Clause). Writes (Add d) ∷ logged_as g (written (map (rename_line f) lines))) (map-map g f h c (λ l i. e l (s l i)))
    ∙ ap (λ es. Writes (Add (map h c)) ∷ es) (logged-carried f g h are lines e w)
logged-carried f g h are (Delete c ∷ lines) e (s, w) =
    ap (λ (d : Clause). Writes (Delete d) ∷ logged_as g (written (map (rename_line f) lines))) (map-map g f h c (λ l i. e l (s l i)))
    ∙ ap (λ es. Writes (Delete (map h c)) ∷ es) (logged-carried f g h are lines e w)

module _ (w : Carrying) (p : Spaces) (s : State) (k : Links w p s) where
  -- a literal over a solver variable in use, by any map that gives live identities their global variables
  pub global-carried : (m : ℕ → Option ℕ) → ((i x : ℕ) → w.global i ≡ Some x → m i ≡ Some x) → (l : Literal) →
      (i : ℕ) × ((translation w p s.logged).identity (variable_of l) ≡ Some i) →
      carry m (carry (translation w p s.logged).identity l) ≡ carry p.global_from_solver l
  global-carried m leads l (i, e) =
      let to = (translation w p s.logged).identity in
      let (x, f, g) = chain-through p.global_from_solver w.identity (variable_of l) i e in
      let there : m (variable_of (carry to l)) ≡ Some x = ap m (carry-at to l i e) ∙ leads i x (k.identities.one_to_one.there x i g) in
      same-literal (carry m (carry to l)) (carry p.global_from_solver l)
      (carry-at m (carry to l) x there ∙ sym (carry-at p.global_from_solver l x f))
      (carry-sign m (carry to l) ∙ carry-sign to l ∙ sym (carry-sign p.global_from_solver l))

  -- 3. What a search may rely on.

  -- Clauses that it shares are, with those that were forgotten, what the checker has.
  pub shared-held : {fixed : List Literal} (share : List Clause) → SharesHeld (translation w p s.logged) fixed share →
      CheckerFits w.global s.logged p.checker → (others : List Clause) × MayBePresent p.checker (others ++ rename (carry p.global_from_solver) share)
  shared-held share q fits =
      let f = carry (translation w p s.logged).identity in
      let g = carry w.global in
      let names : rename g (q.forgotten ++ rename f share) ≡ rename g q.forgotten ++ rename (carry p.global_from_solver) share =
      map-append (map g) q.forgotten (rename f share) ∙ ap (λ xs. rename g q.forgotten ++ xs) (renamed share q.inside) in (
        rename g q.forgotten,
        subst (MayBePresent p.checker) names
            (held-as p.checker (rename g q.held) (rename g (q.forgotten ++ rename f share))
            (same_clauses_renamed g q.held (q.forgotten ++ rename f share) q.same) (fits q.held q.led)),
      )
    where
      held-as : (o : Option CheckerState) (P Q : List Clause) → SameClauses P Q → MayBePresent o P → MayBePresent o Q
      held-as None P Q same h = tt
      held-as (Some c) P Q same (h, u) = (same_clauses-through Q P c.clauses (same_clauses-back P Q same) h, u)

      renamed : (P : List Clause) → ((c : Clause) (l : Literal) → c ∈ P → l ∈ c → (i : ℕ)
          × ((translation w p s.logged).identity (variable_of l) ≡ Some i)) →
          rename (carry w.global) (rename (carry (translation w p s.logged).identity) P) ≡ rename (carry p.global_from_solver) P
      renamed [] inside = refl
      renamed (c ∷ P) inside =
          let one = map-map (carry w.global) (carry (translation w p s.logged).identity) (carry p.global_from_solver) c
          (λ l i. global-carried w.global (λ j x e. e) l (inside c l (inl refl) i)) in
          ap (λ (d : Clause). d ∷ rename (carry w.global) (rename (carry (translation w p s.logged).identity) P)) one
          ∙ ap (λ ds. map (carry p.global_from_solver) c ∷ ds) (renamed P (λ d l h i. inside d l (inr h) i))

-- What a solver's journal leads to is over live identities, unless it is known to be unsatisfiable.
pub all-live : (w : Carrying) (p : Spaces) (s : State) → Links w p s → without_core p.outcome ≢ outcome.Unsat → (held : List Clause) →
    Leads [] s.logged held → AreLive (translation w p s.logged) held
all-live w p s k n held led c l h i =
    let (all, first, live) = logged-live w p s k n in
    let (d, j, same) = same_clauses_find held all (leads_unique [] [] s.logged held all refl led first) c h in
    live d l j (same.1 l i)

-- A search may rely on clauses that fit it and that it shares of what the checker has.
relied-by : {fixed : List Literal} (t : Tables) (p : ProofParts) (seen : View) (assumed : AssumptionParts) (sat : SatState) (w : Carrying)
    (s : State) (k : Links w (spaces_of t p.checker seen assumed sat) s) → CanLog p → Fits k.holds.held (search_of seen) →
    SharesHeld (translation w (spaces_of t p.checker seen assumed sat) s.logged) fixed k.holds.held → CheckerFits w.global s.logged p.checker →
    AdmitsFor (Relies (record { tables = t; proof = p })) (search_of seen)
relied-by t p seen assumed sat w s k can fits shares checked =
    let (others, h) = shared-held w (spaces_of t p.checker seen assumed sat) s k k.holds.held shares checked in
    (k.holds.held, record { room = can.room; usable = can.usable; others = others; holds = h }, fits)

-- Unless the clauses are known to be unsatisfiable there are such.
pub relied-open : (t : Tables) (p : ProofParts) (seen : View) (assumed : AssumptionParts) (sat : SatState) → sat ≢ verdict.Unsat → CanLog p →
    FitSome (spaces_of t p.checker seen assumed sat) → AdmitsFor (Relies (record { tables = t; proof = p })) (search_of seen)
relied-open t p seen assumed verdict.Unknown n can (s, (w, k)) =
    relied-by t p seen assumed verdict.Unknown w s k can k.holds.holds k.holds.logged k.checked
relied-open t p seen assumed verdict.Sat n can (s, (w, k)) =
    relied-by t p seen assumed verdict.Sat w s k can k.holds.holds k.holds.logged
    k.checked
relied-open t p seen assumed verdict.Unsat n can f = absurd (n refl)
relied-open t p seen assumed verdict.UnsatUnderAssumptions n can (s, (w, k)) =
    relied-by t p seen assumed verdict.UnsatUnderAssumptions w s k can k.holds.holds k.holds.logged
    k.checked

-- so it is as long as no verdict is known
pub relied : (t : Tables) (p : ProofParts) (seen : View) (assumed : AssumptionParts) → CanLog p →
    FitSome (spaces_of t p.checker seen assumed verdict.Unknown) → AdmitsFor (Relies (record { tables = t; proof = p })) (search_of seen)
relied t p seen assumed can f = relied-open t p seen assumed verdict.Unknown (λ e. let z : verdict.Unknown ≡ verdict.Unsat = e in cc) can f

-- What was some state's is some state's after what came of it.
pub some-on : (at : Turn) (n : ℕ) (before after : Spaces) (p q : ProofParts) → ComesOn at n before after p q → FitSome before → FitSome after
some-on at n before after p q comes (s, fits) = let c = comes s fits in (_, c.fits)
