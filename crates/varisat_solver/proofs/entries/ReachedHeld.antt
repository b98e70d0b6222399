-- What was logged leads to what the search holds, over identities, and to what it forgot.
use Rattle.std.proofs.Common.{◌≡◌, ◌≢◌, ℕ, ◌/◌, Bool, true, false, not, ◌||◌, nat_eq, Some, List, [], ◌∷◌, ◌++◌, ◌⊎◌, inl, inr, ⊎_elim, sym, ap, ◌∙◌, subst, refl, map, append_assoc, eq-eqb, ne_eqb}
use Rattle.std.proofs.lemmas.List.{map-append, append-nil}
use Rattle.varisat_theory.specs.promises.Membership.{◌∈◌, ◌⊆◌, SameSet}
use Rattle.varisat_theory.specs.promises.Literals.{Literal, Clause, variable_of, opposite}
use Rattle.varisat_theory.specs.promises.Propagation.{Conflicts}
use Rattle.varisat_theory.specs.promises.Derivations.{Line, TakesOut, SpeakOf}
use Rattle.varisat_theory.specs.promises.Held.{SameClauses, mentions, unless, without}
use Rattle.varisat_theory.specs.promises.Renaming.{rename, rename_line}
use Rattle.varisat_theory.specs.promises.Counted.{DerivesBy}
use Rattle.varisat_theory.specs.promises.Journals.{Entry, Accepts, Retires, Follow, Leads, written, GoesOn}
use Rattle.varisat_theory.specs.promises.Searches.{Search, Fits, IsLiteralOf}
use Rattle.varisat_theory.specs.inside.Outcomes.{SearchOutcome, Holds}
use Rattle.varisat_theory.specs.inside.Outcomes as outcome
use Rattle.varisat_theory.proofs.clauses.Members.{∈-append_left, ∈-append_right, ∈-append_cases}
use Rattle.varisat_theory.proofs.clauses.Growth.{conflicts_more, covered_by_more}
use Rattle.varisat_theory.proofs.clauses.Held.{same_set-self, same_add, same_clauses-self, same_clauses-back, same_clauses-through, same_clauses_find, conflicts_same}
use Rattle.varisat_theory.proofs.journals.HeldRetirements.{without_less, without_append, same_without}
use Rattle.varisat_theory.proofs.journals.Renaming.{map-∈, conflicts_renamed, same_clauses_renamed}
use Rattle.varisat_theory.proofs.steps.StepRetirements.{variable_is_retired, without_keeps}
use Rattle.varisat_theory.proofs.journals.NewClauses.{over_after}
use Rattle.varisat_theory.proofs.journals.Journals.{leads_append, by_leads, by_leads_same, written_by, goes_on, by_renamed, by_beside, after_all}
use Rattle.varisat_names.specs.promises.Maps.{chain}
use Rattle.varisat_names.proofs.Maps.{chain-through}
use Rattle.varisat_tracer.specs.promises.Carried.{carry}
use Rattle.varisat_solver.specs.promises.States.{State}
use Rattle.varisat_solver.specs.inside.Spaces.{Carrying, Spaces, Translation, IsCounted, AreLive, SharesHeld, HeldFits, without_core, translation, Links}
use Rattle.varisat_proof.specs.promises.Passing.{LogsConflict}
use Rattle.varisat_theory.proofs.clauses.Values.{variable-literal}
use Rattle.varisat_theory.proofs.clauses.ConflictForms.{never_its_own}
use Rattle.varisat_theory.proofs.steps.SearchFits.{same_front}
use Rattle.varisat_solver.proofs.calls.Carried.{carry-at}
use Rattle.varisat_tracer.specs.inside.RenamedEntries.{carry-opposites}
use Rattle.varisat_solver.proofs.calls.SpacesAgree.{carry-same, rename-same, settled-more, settled-alike}

-- 1. Lists that hold the same clauses.

-- 2. Clauses that mention a variable.

or-true : (b : Bool) → (b || true) ≡ true
or-true true = refl
or-true false = refl

pub mentioned : (v : ℕ) (c : Clause) (l : Literal) → l ∈ c → variable_of l ≡ v → mentions v c ≡ true
mentioned v [] l h e = absurd h
mentioned v (m ∷ c) l (inl q) e = ap (λ b. b || mentions v c) (eq-eqb (m / 2) v (ap variable_of (sym q) ∙ e))
mentioned v (m ∷ c) l (inr h) e = ap (λ b. nat_eq (m / 2) v || b) (mentioned v c l h e) ∙ or-true (nat_eq (m / 2) v)

pub unmentioned : (v : ℕ) (c : Clause) → ((l : Literal) → l ∈ c → variable_of l ≡ v → ⊥) → mentions v c ≡ false
unmentioned v [] n = refl
unmentioned v (l ∷ c) n = ap (λ b. b || mentions v c) (ne_eqb (variable_of l) v (n l (inl refl))) ∙ unmentioned v c (λ m h. n m (inr h))

-- those that are left don't
pub left-apart : (v : ℕ) (P : List Clause) (c : Clause) (l : Literal) → c ∈ without v P → l ∈ c → variable_of l ≡ v → ⊥
left-apart v [] c l h i e = h
left-apart v (d ∷ P) c l h i e = go (mentions v d) refl h (λ j. left-apart v P c l j i e)
  where
    go : (b : Bool) → mentions v d ≡ b → c ∈ unless b d (without v P) → (c ∈ without v P → ⊥) → ⊥
    go true q j f = f j
    go false q (inl z) f = let o : true ≡ false = sym (mentioned v d l (subst (λ y. l ∈ y) z i) e) ∙ q in cc
    go false q (inr j) f = f j

-- those that do
abbrev pub only : ℕ → List Clause → List Clause
only v [] = []
only v (c ∷ P) = unless (not (mentions v c)) c (only v P)

pub divided : (v : ℕ) (P : List Clause) → SameClauses P (only v P ++ without v P)
divided v [] = refl
divided v (c ∷ P) = go (mentions v c) (divided v P)
  where
    go : (b : Bool) → SameClauses P (only v P ++ without v P) → SameClauses (c ∷ P) (unless (not b) c (only v P) ++ unless b c (without v P))
    go true s = (only v P ++ without v P, ([], c, only v P ++ without v P, refl, same_set-self c, refl), s)
    go false s = (only v P ++ without v P, (only v P, c, without v P, refl, same_set-self c, refl), s)

-- Where the variable gets another name, what mentions it keeps the old one among the forgotten clauses.
pub renamed-apart : (v : ℕ) (f g : Literal → Literal) (share F : List Clause) →
    ((c : Clause) (l : Literal) → c ∈ without v share → l ∈ c → f l ≡ g l) →
    SameClauses (F ++ rename f share) ((F ++ rename f (only v share)) ++ rename g (without v share))
renamed-apart v f g share F e =
    let split = same_clauses_renamed f share (only v share ++ without v share) (divided v share) in
    let names : rename f (only v share ++ without v share) ≡ rename f (only v share) ++ rename g (without v share) =
    map-append (map f) (only v share) (without v share) ∙ ap (λ x. rename f (only v share) ++ x) (rename-same f g (without v share) e) in
    subst (SameClauses (F ++ rename f share)) (sym (append_assoc F (rename f (only v share)) (rename g (without v share))))
    (after_all F (rename f share) (rename f (only v share) ++ rename g (without v share)) (subst (SameClauses (rename f share)) names split))

-- 3. A clause that is taken out.

-- what stands in the list and is another clause stays
pub left-in : (P : List Clause) (d : Clause) (Q : List Clause) (c : Clause) → TakesOut P d Q → c ∈ P → (c ∈ Q) ⊎ SameSet c d
left-in P d Q c (front, x, back, e, s, f) h =
    ⊎_elim
    (λ i. inl (subst (λ y. c ∈ y) (sym f) (∈-append_left c front back i)))
    (λ i. ⊎_elim
    (λ q. inr (subst (λ y. SameSet y d) (sym q) s))
    (λ j. inl (subst (λ y. c ∈ y) (sym f) (∈-append_right c front back j)))
    i)
    (∈-append_cases c front (x ∷ back) (subst (λ y. c ∈ y) e h))

-- 4. A search that is not over a variable.

-- the proved literals are fixed
pub proved-fixed : (held : List Clause) (t : Search) → Fits held t → (l : Literal) → l ∈ t.proved → l ∈ t.fixed
proved-fixed held t f l h =
    let (d, i, u) = f.units l h in
    ⊎_elim
    (λ (m, j, o). absurd (never_its_own m (u.1 (opposite m) o ∙ sym (u.1 m j))))
    (λ (m, j, o). subst (λ y. y ∈ t.fixed) (u.1 m j) o)
    (f.settled d i)

-- what fits a search that is not over the variable does so without the clauses that mention it
pub fits-without : (v : ℕ) (share : List Clause) (s : Search) → ((l : Literal) → IsLiteralOf s l → variable_of l ≡ v → ⊥) → Fits share s →
    Fits (without v share) s
fits-without v share s other f =
    variable_is_retired s s v share refl (λ c a. unmentioned v c.clause (λ l b. other l (inr (c, a, b)))) (λ l a n. a)
    (λ l a. (a, other l (inl (proved-fixed share s f l a)))) f

-- 5. What a search shares of what is held.

-- more is fixed
pub shares-more : {r : Translation} {fixed more : List Literal} {share : List Clause} → fixed ⊆ more → SharesHeld r fixed share → SharesHeld r more share
shares-more {r} {fixed} {more} stay q =
    record {
      held = q.held;
      led = q.led;
      forgotten = q.forgotten;
      same = q.same;
      inside = q.inside;
      units = q.units;
      live = q.live;
      settled =
          λ c h. settled-more r fixed more stay c (q.settled c h);
    }

-- the lines over identities, as entries
abbrev pub lines_logged : Translation → List Line → List Entry
lines_logged r lines = written (map (rename_line (carry r.identity)) lines)

-- what the entries of lines lead to, from what is held
pub record LinesLead (n : ℕ) (r : Translation) (F share : List Clause) (lines : List Line) (after : List Clause) : Type 0 where
  pub held : List Clause
  pub led : Leads [] (r.logged ++ lines_logged r lines) held
  pub same : SameClauses held (F ++ rename (carry r.identity) after)
  pub goes : GoesOn n r.logged (lines_logged r lines)

pub lines-lead : {fixed : List Literal} (n : ℕ) (r : Translation) (share : List Clause) (lines : List Line) (after : List Clause)
    (q : SharesHeld r fixed share) → DerivesBy n share lines after → LinesLead n r q.forgotten share lines after
lines-lead n r share lines after q d =
    let f = carry r.identity in
    let ls = map (rename_line f) lines in
    let on = by_beside q.forgotten n (rename f share) ls (rename f after) (by_renamed f (carry-opposites r.identity) n share lines after d) in
    let (H, by, s) = by_leads_same n (q.forgotten ++ rename f share) q.held (written ls) (q.forgotten ++ rename f after)
    (same_clauses-back q.held (q.forgotten ++ rename f share) q.same)
    (written_by n (q.forgotten ++ rename f share) ls (q.forgotten ++ rename f after) on) in
    record {
      held = H;
      led = leads_append [] r.logged q.held (written ls) H q.led (by_leads n q.held (written ls) H by);
      same = same_clauses-back (q.forgotten ++ rename f after) H s;
      goes = goes_on n r.logged (written ls) q.held H q.led by;
    }

-- logged once more
abbrev pub with_logged : List Entry → Translation → Translation
with_logged logged r = record r { logged = logged }

-- a literal of a solver variable in use
abbrev pub IsInUse : Translation → Literal → Type 0
IsInUse r l = (i : ℕ) × (r.identity (variable_of l) ≡ Some i)

module _ {fixed : List Literal} (r : Translation) (share : List Clause) (n : ℕ) (lines : List Line) (after : List Clause)
    (q : SharesHeld r fixed share) (d : DerivesBy n share lines after) where
  shares-fits : (more : List Literal) → fixed ⊆ more → SpeakOf (IsInUse r) lines → SharesHeld (with_logged (r.logged ++ lines_logged r lines) r) more after
  shares-fits more stay speaks =
      let on = lines-lead n r share lines after q d in
      shares-more stay (record {
        held = on.held;
        led = on.led;
        forgotten = q.forgotten;
        same = on.same;
        inside =
            over_after n (IsInUse r) share lines after d q.inside speaks;
        units = q.units;
        live = q.live;
        settled = q.settled;
      })

  logged-conflict : Conflicts after [] → LogsConflict (r.logged ++ lines_logged r lines)
  logged-conflict k =
      let on = lines-lead n r share lines after q d in
      let f = carry r.identity in
      let all = q.forgotten ++ rename f after in (
        on.held,
        on.led,
        conflicts_same all on.held [] (same_clauses-back on.held all on.same)
            (conflicts_more (rename f after) all [] [] (covered_by_more (rename f after) all (λ c h. ∈-append_right c q.forgotten (rename f after) h))
            (λ l h. h) (conflicts_renamed f (carry-opposites r.identity) after [] k)),
      )

  -- what a search shares after lines over variables in use
  pub shares-after : (t : Search) (v : SearchOutcome) → (v ≢ outcome.Unsat → fixed ⊆ t.fixed) → SpeakOf (IsInUse r) lines →
      ((core : List Literal) → v ≡ outcome.UnsatUnder core → ⊥) → Holds after t v → HeldFits (with_logged (r.logged ++ lines_logged r lines) r) t.fixed after v
  shares-after t outcome.Unknown stay speaks plain h = shares-fits t.fixed (stay (λ e. let z : outcome.Unknown ≡ outcome.Unsat = e in cc)) speaks
  shares-after t (outcome.Sat found) stay speaks plain h = shares-fits t.fixed (stay (λ e. let z : outcome.Sat found ≡ outcome.Unsat = e in cc)) speaks
  shares-after t outcome.Unsat stay speaks plain h = logged-conflict h
  shares-after t (outcome.UnsatUnder core) stay speaks plain h = absurd (plain core refl)

-- an accepted clause joins what is held
pub shares-joined : {fixed : List Literal} (r : Translation) (share : List Clause) (c d : Clause) → map (carry r.identity) d ≡ c →
    ((l : Literal) → l ∈ d → (i : ℕ) × (r.identity (variable_of l) ≡ Some i)) → SharesHeld r fixed share →
    SharesHeld (with_logged (r.logged ++ Accepts c ∷ []) r) fixed (share ++ d ∷ [])
shares-joined r share c d e in-use q =
    let f = carry r.identity in
    let names : (q.forgotten ++ rename f share) ++ c ∷ [] ≡ q.forgotten ++ rename f (share ++ d ∷ []) =
    append_assoc q.forgotten (rename f share) (c ∷ []) ∙ ap (λ x. q.forgotten ++ (rename f share ++ x ∷ [])) (sym e)
    ∙ ap (λ x. q.forgotten ++ x) (sym (map-append (map f) share (d ∷ []))) in
    record {
      held = q.held ++ c ∷ [];
      led = leads_append [] r.logged q.held (Accepts c ∷ []) (q.held ++ c ∷ []) q.led (q.held ++ c ∷ [], refl, refl);
      forgotten = q.forgotten;
      same = subst (SameClauses (q.held ++ c ∷ [])) names (same_add q.held (q.forgotten ++ rename f share) c c q.same (same_set-self c));
      inside = λ x l h i. ⊎_elim (λ a. q.inside x l a i) (λ a. ⊎_elim (λ z. in-use l (subst (λ y. l ∈ y) z i)) (λ z. absurd z) a)
          (∈-append_cases x share (d ∷ []) h);
      units = q.units;
      live = q.live;
      settled = q.settled;
    }

-- A variable gets an identity, or loses it. What is held and mentions it is forgotten, over the names before.
pub same-apart : {fixed : List Literal} (r r' : Translation) (v : ℕ) (share : List Clause) →
    ((u : ℕ) → (u ≡ v → ⊥) → r'.identity u ≡ r.identity u) → (q : SharesHeld r fixed share) →
    SameClauses q.held ((q.forgotten ++ rename (carry r.identity) (only v share)) ++ rename (carry r'.identity) (without v share))
same-apart r r' v share other q =
    let f = carry r.identity in
    let g = carry r'.identity in
    same_clauses-through q.held (q.forgotten ++ rename f share) ((q.forgotten ++ rename f (only v share)) ++ rename g (without v share)) q.same
    (renamed-apart v f g share q.forgotten (λ c l h i. carry-same r.identity r'.identity l (sym (other (variable_of l) (left-apart v share c l h i)))))

-- what is left is over variables that are in use still
pub inside-apart : {fixed : List Literal} (r r' : Translation) (v : ℕ) (share : List Clause) →
    ((u : ℕ) → (u ≡ v → ⊥) → r'.identity u ≡ r.identity u) → SharesHeld r fixed share → (c : Clause) (l : Literal) → c ∈ without v share → l ∈ c →
    (i : ℕ) × (r'.identity (variable_of l) ≡ Some i)
inside-apart r r' v share other q c l h i = let (j, e) = q.inside c l (without_less v share c h) i in
    (j, other (variable_of l) (left-apart v share c l h i) ∙ e)

-- Each variable in use leads to a live identity. So the clauses over such variables are over live identities.
pub carried-live : (r : Translation) (P : List Clause) → ((v i : ℕ) → r.identity v ≡ Some i → (x : ℕ) × (r.global i ≡ Some x)) →
    ((c : Clause) (l : Literal) → c ∈ P → l ∈ c → IsInUse r l) → AreLive r (rename (carry r.identity) P)
carried-live r P lives inside c l h i =
    let f = carry r.identity in
    let (d, b, o) = map-∈ (map f) c P h in
    let (m, n, y) = map-∈ f l d (subst (λ x. l ∈ x) o i) in
    let (j, g) = inside d m b n in
    let (x, e) = lives (variable_of m) j g in
    (x, ap r.global (ap variable_of y ∙ carry-at r.identity m j g) ∙ e)

pub only-is : (v : ℕ) (P : List Clause) (c : Clause) → c ∈ only v P → (c ∈ P) × (mentions v c ≡ true)
only-is v [] c h = absurd h
only-is v (d ∷ P) c h = go (mentions v d) refl h (only-is v P c)
  where
    go : (b : Bool) → mentions v d ≡ b → c ∈ unless (not b) d (only v P) → (c ∈ only v P → (c ∈ P) × (mentions v c ≡ true)) → (c ∈ (d ∷ P))
        × (mentions v c ≡ true)
    go true q (inl e) f = (inl e, ap (mentions v) e ∙ q)
    go true q (inr i) f = let (a, b) = f i in (inr a, b)
    go false q i f = let (a, b) = f i in (inr a, b)

-- what is forgotten then is over live identities
pub live-apart : {fixed : List Literal} (r : Translation) (v : ℕ) (share : List Clause) →
    ((u i : ℕ) → r.identity u ≡ Some i → (x : ℕ) × (r.global i ≡ Some x)) → (q : SharesHeld r fixed share) →
    AreLive r (q.forgotten ++ rename (carry r.identity) (only v share))
live-apart r v share lives q c l h i =
    ⊎_elim
    (λ a. q.live c l a i)
    (λ a. carried-live r (only v share) lives (λ d m b n. q.inside d m (only-is v share d b).0 n) c l a i)
    (∈-append_cases c q.forgotten (rename (carry r.identity) (only v share)) h)

-- and so is all that is held
pub held-live : {fixed : List Literal} (r : Translation) (share : List Clause) →
    ((v i : ℕ) → r.identity v ≡ Some i → (x : ℕ) × (r.global i ≡ Some x)) → (q : SharesHeld r fixed share) → AreLive r q.held
held-live r share lives q c l h i =
    let (d, j, t) = same_clauses_find q.held (q.forgotten ++ rename (carry r.identity) share) q.same c h in
    let m = t.1 l i in
    ⊎_elim
    (λ a. q.live d l a m)
    (λ a. carried-live r share lives q.inside d l a m)
    (∈-append_cases d q.forgotten (rename (carry r.identity) share) j)

pub in-use-lives : (w : Carrying) (p : Spaces) (s : State) → Links w p s → (v i : ℕ) → chain p.global_from_solver w.identity v ≡ Some i → (x : ℕ)
    × (w.global i ≡ Some x)
in-use-lives w p s k v i e = let (x, f, g) = chain-through p.global_from_solver w.identity v i e in (x, k.identities.one_to_one.there x i g)

-- a literal over a solver variable is of a counted identity
pub counted-literal : (w : Carrying) (p : Spaces) (s : State) (k : Links w p s) (l : Literal) (i : ℕ) →
    (translation w p s.logged).identity (variable_of l) ≡ Some i → IsCounted s.counted (carry (translation w p s.logged).identity l)
counted-literal w p s k l i e =
    let (x, f, g) = chain-through p.global_from_solver w.identity (variable_of l) i e in
    let (j, h, m) = k.solvers.live (variable_of l) x f in
    let q : Some j ≡ Some i = sym h ∙ g in
    let same : j ≡ i = cc in
    subst (λ v. v ∈ s.counted) (same ∙ sym (carry-at (translation w p s.logged).identity l i e)) m

-- What a solver's journal leads to is over live identities, unless it is known to be unsatisfiable.
pub logged-live : (w : Carrying) (p : Spaces) (s : State) → Links w p s → without_core p.outcome ≢ outcome.Unsat → (held : List Clause)
    × Leads [] s.logged held × AreLive (translation w p s.logged) held
logged-live w p s k n = go (without_core p.outcome) n k.holds.logged
  where
    shares : SharesHeld (translation w p s.logged) p.search.fixed k.holds.held → (held : List Clause) × Leads [] s.logged held
        × AreLive (translation w p s.logged) held
    shares q = (q.held, q.led, held-live (translation w p s.logged) k.holds.held (in-use-lives w p s k) q)

    go : (v : SearchOutcome) → v ≢ outcome.Unsat → HeldFits (translation w p s.logged) p.search.fixed k.holds.held v → (held : List Clause)
        × Leads [] s.logged held × AreLive (translation w p s.logged) held
    go outcome.Unknown n q = shares q
    go (outcome.Sat found) n q = shares q
    go outcome.Unsat n q = absurd (n refl)
    go (outcome.UnsatUnder core) n q = shares q

-- a clause that was forgotten comes back, behind all others
pub taken-behind : (F A R : List Clause) (d : Clause) → TakesOut F d R → SameClauses (F ++ A) (R ++ (A ++ d ∷ []))
taken-behind F A R d out =
    let moved : SameClauses (d ∷ (R ++ A)) ((R ++ A) ++ d ∷ []) =
    (R ++ A, (R ++ A, d, [], refl, same_set-self d, sym (append-nil (R ++ A))), same_clauses-self (R ++ A)) in
    subst (SameClauses (F ++ A)) (append_assoc R A (d ∷ []))
    (same_clauses-through (F ++ A) (d ∷ (R ++ A)) ((R ++ A) ++ d ∷ [])
    (same_front F (d ∷ R) A (same_clauses-back (d ∷ R) F (R, out, same_clauses-self R))) moved)

-- An entry is logged that changes nothing of what is held.
module _ (r : Translation) (e : Entry) (quiet : (held : List Clause) → Leads [] r.logged held → Follow held e held) where
  led-on : (held : List Clause) → Leads [] r.logged held → Leads [] (r.logged ++ e ∷ []) held
  led-on held d = leads_append [] r.logged held (e ∷ []) held d (held, quiet held d, refl)

  shares-quiet : {fixed : List Literal} (share : List Clause) → SharesHeld r fixed share → SharesHeld (with_logged (r.logged ++ e ∷ []) r) fixed share
  shares-quiet share q = record {
    held = q.held;
    led = led-on q.held q.led;
    forgotten = q.forgotten;
    same = q.same;
    inside = q.inside;
    units =
        q.units;
    live = q.live;
    settled = q.settled;
  }

  pub logged-quiet : (fixed : List Literal) (share : List Clause) (v : SearchOutcome) → HeldFits r fixed share v →
      HeldFits (with_logged (r.logged ++ e ∷ []) r) fixed share v
  logged-quiet fixed share outcome.Unknown q = shares-quiet share q
  logged-quiet fixed share (outcome.Sat found) q = shares-quiet share q
  logged-quiet fixed share outcome.Unsat (held, d, c) = (held, led-on held d, c)
  logged-quiet fixed share (outcome.UnsatUnder core) q = shares-quiet share q

-- 6. An identity is gone for good.

not-mentioned : (v : ℕ) (P : List Clause) → ((c : Clause) (l : Literal) → c ∈ P → l ∈ c → variable_of l ≡ v → ⊥) → without v P ≡ P
not-mentioned v [] n = refl
not-mentioned v (c ∷ P) n = ap (λ b. unless b c (without v P)) (unmentioned v c (λ l i e. n c l (inl refl) i e))
    ∙ ap (λ x. c ∷ x) (not-mentioned v P (λ d l h i e. n d l (inr h) i e))

-- No solver variable stands for the identity i, which is live no longer; solver variables stand for what they stood for.
module _ (r r' : Translation) (i : ℕ) (none : (v : ℕ) → r.identity v ≡ Some i → ⊥) (same : (v : ℕ) → r'.identity v ≡ r.identity v)
    (forced : (j : ℕ) → r'.forced j ≡ r.forced j) (live : (j x : ℕ) → r'.global j ≡ Some x → (j ≡ i → ⊥) × (r.global j ≡ Some x))
    (still : (j x : ℕ) → (j ≡ i → ⊥) → r.global j ≡ Some x → r'.global j ≡ Some x) where
  shares-gone : {fixed : List Literal} (share : List Clause) → r'.logged ≡ r.logged ++ Retires i ∷ [] → SharesHeld r fixed share → SharesHeld r' fixed share
  shares-gone share e q =
      let f = carry r.identity in
      let R = rename f share in
      let apart : without i R ≡ R = not-mentioned i R (λ c l h a z.
      let (d, b, o) = map-∈ (map f) c share h in
      let (m, n, y) = map-∈ f l d (subst (λ x. l ∈ x) o a) in
      let (j, g) = q.inside d m b n in
      none (variable_of m) (g ∙ ap Some (sym (carry-at r.identity m j g) ∙ ap variable_of (sym y) ∙ z))) in
      let left : SameClauses (without i q.held) (without i q.forgotten ++ R) =
      subst (SameClauses (without i q.held)) (without_append i q.forgotten R ∙ ap (λ x. without i q.forgotten ++ x) apart)
      (same_without i q.held (q.forgotten ++ R) q.same) in
      record {
        held = without i q.held;
        led = subst (λ es. Leads [] es (without i q.held)) (sym e)
            (leads_append [] r.logged q.held (Retires i ∷ []) (without i q.held) q.led (without i q.held, refl, refl));
        forgotten = without i q.forgotten;
        same = subst (λ x. SameClauses (without i q.held) (without i q.forgotten ++ x))
            (rename-same f (carry r'.identity) share (λ c l h a. sym (carry-same r'.identity r.identity l (same (variable_of l))))) left;
        inside = λ c l h a. let (j, g) = q.inside c l h a in (j, same (variable_of l) ∙ g);
        units = λ j b x o l n.
            let (other, was) = live j x l in
            let (c, h, u) = q.units j b x (sym (forced j) ∙ o) was (λ v g. n v (same v ∙ g)) in
            (c, without_keeps i q.forgotten c h (unmentioned i c (λ m a z. other (sym (variable-literal j b) ∙ ap variable_of (sym (u.1 m a)) ∙ z))), u);
        live = λ c l h a. let (x, g) = q.live c l (without_less i q.forgotten c h) a in (x, still (variable_of l) x (left-apart i q.forgotten c l h a) g);
        settled = λ c h. settled-alike r r' _ same forced c (q.settled c (without_less i q.forgotten c h));
      }

  pub logged-gone : (fixed : List Literal) (share : List Clause) (v : SearchOutcome) → v ≢ outcome.Unsat → r'.logged ≡ r.logged ++ Retires i ∷ [] →
      HeldFits r fixed share v → HeldFits r' fixed share v
  logged-gone fixed share outcome.Unknown n e q = shares-gone share e q
  logged-gone fixed share (outcome.Sat found) n e q = shares-gone share e q
  logged-gone fixed share outcome.Unsat n e q = absurd (n refl)
  logged-gone fixed share (outcome.UnsatUnder core) n e q = shares-gone share e q
