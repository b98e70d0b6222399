-- A clause is accepted, or a list assumed.
use Rattle.std.proofs.Common.{◌≡◌, ◌≢◌, ℕ, ◌<◌, Bool, true, false, Option, Some, List, [], ◌∷◌, ◌++◌, ◌⊎◌, inl, inr, ⊎_elim, sym, ap, ◌∙◌, subst, refl, map, append_assoc}
use Rattle.varisat_theory.specs.promises.Membership.{◌∈◌}
use Rattle.varisat_theory.specs.promises.Literals.{Literal, Clause, variable_of, opposite, IsUnit, Satisfies, MakesTrue}
use Rattle.varisat_theory.specs.promises.Derivations.{Line, SpeakOf}
use Rattle.varisat_theory.specs.promises.Renaming.{rename_line}
use Rattle.varisat_theory.specs.promises.Journals.{Entry, Accepts, Assumes, GoesOn, written}
use Rattle.varisat_solver.specs.promises.Journals.{with_entries, LogsStaying}
use Rattle.varisat_theory.specs.promises.Searches.{Search, Covers, CoversBy, IsLiteralOf, IsCoveredBySearch, Tautology, KnownTrue, FixedTrue, Kept}
use Rattle.varisat_theory.specs.inside.Outcomes.{SearchOutcome, Loads, IsLiteralOfEither}
use Rattle.varisat_theory.specs.inside.Outcomes as outcome
use Rattle.varisat_theory.proofs.clauses.Members.{∈-or_not, ∈-append_cases, ∈-append_left, ∈-append_right}
use Rattle.varisat_theory.proofs.journals.Renaming.{∈-map, map-∈}
use Rattle.varisat_theory.proofs.clauses.Assigned.{satisfies_more, satisfies_fewer}
use Rattle.varisat_theory.proofs.clauses.Sound.{derives_sound}
use Rattle.varisat_theory.proofs.journals.StepCounts.{by_derives}
use Rattle.varisat_theory.proofs.journals.StepCovers.{names_are_loaded}
use Rattle.varisat_theory.proofs.journals.Spoken.{spoken_wider}
use Rattle.varisat_literals.specs.promises.Numbers.{polarity_of}
use Rattle.varisat_theory.proofs.clauses.Values.{variable-opposite}
use Rattle.varisat_prop.proofs.trails.LiteralValues.{same-literal}
use Rattle.varisat_names.specs.promises.Maps.{chain}
use Rattle.varisat_names.specs.declared.variables.data.VarData.{VarData}
use Rattle.varisat_solver.specs.promises.States.{State, Verdict, Unknown, Unsat, IsRight}
use Rattle.varisat_solver.specs.promises.Names.{through_names}
use Rattle.varisat_solver.specs.promises.Calls.{ContradictsUnit, VerdictAfter, Refuted, Reopened}
use Rattle.varisat_tracer.specs.promises.Carried.{carry, logged_as}
use Rattle.varisat_solver.specs.inside.Carried.{is_forced}
use Rattle.varisat_solver.specs.inside.Spaces.{Spaces, Carrying, IsolationCase, NotIsolated, Apart, Forced, IsolationFits, Translation, translation, CheckerFits, SharesHeld, IsCounted, IsRetired, IsWholeLog, SearchHolds, CoreFits, without_core, VerdictFits, Links}
use Rattle.varisat_solver.specs.promises.Usage.{IsWide, IsApart}
use Rattle.varisat_solver.proofs.calls.SpacesAgree.{AreTaken, solver_literal, IsTouched, IsMarkedFor, accept, AreLong, AreInUse, map-map, holds-same, isolation-same, marks-same}
use Rattle.varisat_names.proofs.Maps.{chain-some, chain-through}
use Rattle.varisat_solver.proofs.steps.SearchLinks.{relinked-marks, answers-covers, fixed-on, refuted}
use Rattle.varisat_solver.proofs.calls.Carried.{carry-at, carry-sign, map-empty, satisfied-carried, forced-value, wide-back}
use Rattle.varisat_tracer.specs.inside.RenamedEntries.{carry-opposites}
use Rattle.varisat_solver.proofs.accepting.AcceptSolverVariables.{one-literal}
use Rattle.varisat_solver.proofs.entries.ReachedHeld.{lines_logged, with_logged, IsInUse, lines-lead, shares-after, shares-joined, logged-quiet, counted-literal}
use Rattle.varisat_solver.proofs.entries.LoggedEntries.{written-derived, logged-written, logged-accepted, logged-assumed, spoken-renamed}
use Rattle.varisat_proof.specs.promises.Calls.{CheckerState}
use Rattle.varisat_proof.specs.promises.Proving.{IsCheckedIf}
use Rattle.varisat_solver.proofs.entries.CheckedHeld.{checker-on, checker-still, logged-carried, global-carried}
use Rattle.varisat_theory.proofs.journals.Journals.{written_stays}
use Rattle.varisat_theory.proofs.clauses.ConflictForms.{never_its_own}
use Rattle.varisat_solver.proofs.entries.LoggedProofs.{AreLoggedAs}

module _ (w : Carrying) (p : Spaces) (s : State) (d : Clause) (k : Links w p s) (taken : AreTaken p d) where
  r : Translation
  r = translation w p s.logged

  c : Clause
  c = map (through_names s.naming) d

  e : Clause
  e = map (solver_literal p) d

  -- where a name of the clause leads
  record Leads (l : Literal) : Type 0 where
    v : ℕ
    x : ℕ
    i : ℕ
    named : p.global_from_user (variable_of l) ≡ Some x
    identified : w.identity x ≡ Some i
    known : i ∈ s.counted
    there : r.identity v ≡ Some i
    name : s.naming.names (variable_of l) ≡ Some i
    solver : variable_of (solver_literal p l) ≡ v

  where-to : (l : Literal) → l ∈ d → Leads l
  unfolding r
  where-to l h =
      let (v, a) = taken l h in
      let (x, b, f) = chain-through p.global_from_user p.solver_from_global (variable_of l) v a in
      let g = k.solvers.one_to_one.there x v f in
      let q = k.solvers.live v x g in
      record {
        v = v;
        x = x;
        i = q.0;
        named = b;
        identified = q.1;
        known = q.2;
        there = chain-some p.global_from_solver w.identity v x g ∙ q.1;
        name = k.names.agree (variable_of l) ∙ chain-some p.global_from_user w.identity (variable_of l) x b ∙ q.1;
        solver = carry-at (chain p.global_from_user p.solver_from_global) l v a;
      }

  through : (l : Literal) → l ∈ d → carry r.identity (solver_literal p l) ≡ through_names s.naming l
  through l h =
      let z = where-to l h in
      let a1 : variable_of (carry r.identity (solver_literal p l)) ≡ z.i = carry-at r.identity (solver_literal p l) z.i (ap r.identity z.solver ∙ z.there) in
      let a2 : variable_of (carry s.naming.names l) ≡ z.i = carry-at s.naming.names l z.i z.name in
      same-literal (carry r.identity (solver_literal p l)) (carry s.naming.names l) (a1 ∙ sym a2)
      (carry-sign r.identity (solver_literal p l) ∙ carry-sign (chain p.global_from_user p.solver_from_global) l ∙ sym (carry-sign s.naming.names l))

  same-clause : map (carry r.identity) e ≡ c
  unfolding c e
  same-clause = map-map (carry r.identity) (solver_literal p) (through_names s.naming) d through

  -- a literal of the clause over solver variables
  of-clause : (m : Literal) → m ∈ e → (i : ℕ) × (r.identity (variable_of m) ≡ Some i)
  unfolding e
  of-clause m h = let (l, a, q) = map-∈ (solver_literal p) m d h in let z = where-to l a in
      (z.i, ap (λ y. r.identity (variable_of y)) q ∙ ap r.identity z.solver ∙ z.there)

  -- and of it over identities
  counted-clause : (l : Literal) → l ∈ c → IsCounted s.counted l
  unfolding c
  counted-clause l h =
      let (m, a, q) = map-∈ (through_names s.naming) l d h in
      let z = where-to m a in
      subst (λ i. i ∈ s.counted) (sym (ap variable_of q ∙ carry-at s.naming.names m z.i z.name)) z.known

  -- what is carried to one literal is one literal
  one-carried : (m n : Literal) (i : ℕ) → r.identity (variable_of m) ≡ Some i → (j : ℕ) → r.identity (variable_of n) ≡ Some j →
      carry r.identity n ≡ carry r.identity m → n ≡ m
  unfolding r
  one-carried m n i a j b q = one-literal w p s k n m (j, b) (i, a) q

  -- what contradicts the accepted clauses contradicts the search
  module _ (h : SearchHolds s.clauses r p.search outcome.Unknown) (long : AreLong p.search) where
    open-verdict : outcome.Unknown ≢ outcome.Unsat
    open-verdict q = let z : outcome.Unknown ≡ outcome.Unsat = q in cc

    by-cover : (m : Literal) (i : ℕ) → r.identity (variable_of m) ≡ Some i → (D : Clause) → IsUnit (carry r.identity m) D →
        IsCoveredBySearch (carry r.identity) (is_forced r.forced) p.search D → m ∈ p.search.fixed
    by-cover m i a D u (Tautology (l, f, g)) = absurd (never_its_own l (u.1 (opposite l) g ∙ sym (u.1 l f)))
    by-cover m i a D u (KnownTrue l f g) =
        let z = u.1 l f in
        h.fixed open-verdict m i a (ap r.forced (sym (ap variable_of z ∙ carry-at r.identity m i a)) ∙ forced-value r.forced l g
        ∙ ap Some (ap polarity_of z ∙ carry-sign r.identity m))
    by-cover m i a D u (FixedTrue l f g) =
        let (j, b) = h.within l (inl f) in
        subst (λ y. y ∈ p.search.fixed) (one-carried m l i a j b (u.1 (carry r.identity l) g)) f
    by-cover m i a D u (Kept kc f g q) =
        let (x, y, b, o, n) = long kc f in
        let one : (z : Literal) → z ∈ kc.clause →
        z ≡ m = (λ z j. let t = h.within z (inr (kc, f, j)) in one-carried m z i a t.0 t.1 (u.1 (carry r.identity z) (q z j))) in
        absurd (n (one x b ∙ sym (one y o)))

    contradicted : ContradictsUnit s.clauses c → outcome.IsContradicted p.search e
    unfolding c e
    contradicted q =
        ⊎_elim
        (λ z. inl (ap (map (solver_literal p)) (map-empty (through_names s.naming) d z)))
        (λ (l, D, u, b, o).
        let (l0, a, z) = map-∈ (through_names s.naming) l d u.0 in
        let m = solver_literal p l0 in
        let in-e : m ∈ map (solver_literal p) d = ∈-map (solver_literal p) l0 d a in
        let (i, f) = of-clause m in-e in
        let lm : carry r.identity m ≡ l = through l0 a ∙ sym z in
        let f' : r.identity (variable_of (opposite m)) ≡ Some i = ap r.identity (variable-opposite m) ∙ f in
        inr (
          m,
          (
            in-e,
            λ n j. let (n0, g, y) = map-∈ (solver_literal p) n d j in
                let t = of-clause n j in
                one-carried m n i f t.0 t.1 (ap (carry r.identity) y ∙ through n0 g
                ∙ u.1 (through_names s.naming n0) (∈-map (through_names s.naming) n0 d g) ∙ sym lm),
          ),
          by-cover (opposite m) i f' D (subst (λ y. IsUnit y D) (sym (carry-opposites r.identity m ∙ ap opposite lm)) o) (h.covered open-verdict D b),
        ))
        q

  -- What the search with the clause holds.
  module _ (h : SearchHolds s.clauses r p.search outcome.Unknown) (t : Search) (v : SearchOutcome) (lines : List Line)
      (loads : Loads p.search t e v lines) (long : AreLong t) (in-use : AreInUse p t) where
    in-covers : v ≢ outcome.Unsat → (Q : List Clause) → Covers Q p.search → Covers Q t
    in-covers n Q g b i = answers-covers (Q ++ e ∷ []) t v n (loads.answers Q g) b (∈-append_left b Q (e ∷ []) i)

    covers-more : v ≢ outcome.Unsat → CoversBy (carry r.identity) (is_forced r.forced) (s.clauses ++ c ∷ []) t
    covers-more n =
        let u : v ≡ outcome.Unknown = ⊎_elim (λ q. absurd (n q.1)) (λ q. q.1) loads.verdict in
        names_are_loaded p.search t e c lines (carry r.identity) (is_forced r.forced) s.clauses (carry-opposites r.identity)
        (subst (λ y. Loads p.search t e y lines) u loads)
        (λ l i. subst (λ y. carry r.identity l ∈ y) same-clause (∈-map (carry r.identity) l e i))
        (h.covered (λ q. let z : outcome.Unknown ≡ outcome.Unsat = q in cc))

    within-more : (l : Literal) → IsLiteralOf t l → (i : ℕ) × (r.identity (variable_of l) ≡ Some i)
    unfolding r
    within-more l a = let (x, b) = in-use l a in let q = k.solvers.live (variable_of l) x b in
        (q.0, chain-some p.global_from_solver w.identity (variable_of l) x b ∙ q.1)

    plain : (core : List Literal) → v ≡ outcome.UnsatUnder core → ⊥
    plain core q = ⊎_elim
        (λ z. let y : outcome.Unsat ≡ outcome.UnsatUnder core = sym z.1 ∙ q in cc)
        (λ z. let y : outcome.Unknown ≡ outcome.UnsatUnder core = sym z.1 ∙ q in cc)
        loads.verdict

    -- the clause joins, and then come the lines
    joins : SharesHeld (with_logged (r.logged ++ Accepts c ∷ []) r) p.search.fixed (h.held ++ e ∷ [])
    joins = shares-joined r h.held c e same-clause of-clause h.logged

    goes-more : GoesOn 0 (r.logged ++ Accepts c ∷ []) (lines_logged r lines)
    goes-more = let (last, g, o) = loads.holds h.held h.holds in
        (lines-lead 0 (with_logged (r.logged ++ Accepts c ∷ []) r) (h.held ++ e ∷ []) lines last joins g).goes

    holds-more : SearchHolds (s.clauses ++ c ∷ []) (with_logged ((r.logged ++ Accepts c ∷ []) ++ lines_logged r lines) r) t v
    holds-more =
        let (last, g, o) = loads.holds h.held h.holds in
        let all = by_derives 0 (h.held ++ e ∷ []) lines last g in
        record {
          held = last;
          holds = o;
          within = within-more;
          implied = λ a b m g. derives_sound (h.held ++ e ∷ []) lines last b all
              (satisfies_more b h.held e (h.implied a b (satisfies_fewer a s.clauses (c ∷ []) m) g)
              (satisfied-carried r.identity a b e of-clause g
              (subst (λ y. Satisfies a y) (sym same-clause) (m c (∈-append_right c s.clauses (c ∷ []) (inl refl))))));
          known = λ a m. h.known a (satisfies_fewer a s.clauses (c ∷ []) m);
          fixed = λ n l i a b. fixed-on s.clauses r p.search t v h long in-covers n l
              (h.fixed (λ q. let z : outcome.Unknown ≡ outcome.Unsat = q in cc) l i a b);
          covered = covers-more;
          logged = shares-after (with_logged (r.logged ++ Accepts c ∷ []) r) (h.held ++ e ∷ []) 0 lines last joins g t v
              (fixed-on s.clauses r p.search t v h long in-covers)
              (spoken_wider (IsLiteralOfEither p.search e) (IsInUse r) lines
              (λ l. elim [ inl a ↦ h.within l a | inr a ↦ of-clause l a ]) loads.speaks) plain o;
        }

  -- the identities of the literals were made
  made : (l : Literal) → l ∈ c → variable_of l < s.naming.made
  unfolding c
  made l h =
      let (l0, a, z) = map-∈ (through_names s.naming) l d h in
      let y = where-to l0 a in
      subst (λ j. j < s.naming.made) (sym (ap variable_of z ∙ carry-at s.naming.names l0 y.i y.name)) (k.identities.below y.x y.i y.identified)

  -- A clause of which the marks of isolation fell.
  module _ (after : ℕ → VarData) (touched : IsTouched p d after) where
    settled-more : IsolationFits w.identity w.forced after (s.clauses ++ c ∷ []) s.naming.made
    unfolding c
    settled-more i h = go (k.isolation i h)
      where
        still-open : (b : Bool) (x : ℕ) → (after x).isolated ≡ b → (p.kept x).isolated ≡ false → (after x).isolated ≡ false
        still-open true x f o = let q : true ≡ false = sym (touched.fallen x f) ∙ o in absurd cc
        still-open false x f o = f

        by-mark : (b : Bool) (x : ℕ) → (after x).isolated ≡ b → w.identity x ≡ Some i → IsApart s.clauses i → (l0 : Literal) → l0 ∈ d →
            p.global_from_user (variable_of l0) ≡ Some x → IsolationCase w.identity w.forced after (s.clauses ++ map (through_names s.naming) d ∷ []) i
        by-mark false x q f apart l0 b g = NotIsolated x f q
        by-mark true x q f apart l0 b g = Apart (λ D l a wide m z. ⊎_elim
            (λ j. apart D l j wide m z)
            (λ j. ⊎_elim (λ y. let n : true ≡ false = sym q ∙ touched.wide (wide-back s.naming.names d (subst IsWide y wide)) l0 x b g in absurd cc)
            (λ y. absurd y) j)
            (∈-append_cases D s.clauses (map (through_names s.naming) d ∷ []) a))

        go : IsolationCase w.identity w.forced p.kept s.clauses i → IsolationCase w.identity w.forced after (s.clauses ++ map (through_names s.naming) d ∷ []) i
        go (NotIsolated x f o) = NotIsolated x f (still-open (after x).isolated x refl o)
        go (Apart apart) = ⊎_elim
            (λ m. let (l, a, q) = map-∈ variable_of i (map (through_names s.naming) d) m in
            let (l0, b, z) = map-∈ (through_names s.naming) l d a in
            let y = where-to l0 b in
            let ij : i ≡ y.i = q ∙ ap variable_of z ∙ carry-at s.naming.names l0 y.i y.name in
            by-mark (after y.x).isolated y.x refl (y.identified ∙ ap Some (sym ij)) apart l0 b y.named)
            (λ n. Apart (λ b l a f g z. ⊎_elim (λ j. apart b l j f g z)
            (λ j. ⊎_elim (λ y. n (subst (λ v. v ∈ map variable_of (map (through_names s.naming) d)) z
            (∈-map variable_of l (map (through_names s.naming) d) (subst (λ u. l ∈ u) y g)))) (λ y. absurd y) j)
            (∈-append_cases b s.clauses (map (through_names s.naming) d ∷ []) a)))
            (∈-or_not i (map variable_of (map (through_names s.naming) d)))
        go (Forced b e) = Forced b e

    linked : (logged : List Entry) → IsWholeLog logged (s.clauses ++ c ∷ []) s.assumptions s.counted s.ever_hidden (IsRetired w s) →
        (t : Search) (v : SearchOutcome) (m : ℕ → Bool) (checker : Option CheckerState) (x : Verdict) →
        CheckerFits w.global logged checker →
        SearchHolds (s.clauses ++ c ∷ []) (with_logged logged r) t (without_core v) → VerdictFits w.identity m v x →
        CoreFits s.naming.names p.core x → IsRight (s.clauses ++ c ∷ []) s.assumptions s.counted x →
        Links w (record p { kept = after; search = t; outcome = v; model = m; checker = checker }) (with_entries logged (accept c x s))
    unfolding r c
    linked logged is-logged t v m checker x checks holds fits core right =
        relinked-marks w p (record p { kept = after; search = t; outcome = v; model = m; checker = checker }) s (with_entries logged (accept c x s)) k
        (record {
          deleted = λ x. ap (λ y. y.deleted) (touched.rest x);
          sampling_mode = λ x. ap (λ y. y.sampling_mode) (touched.rest x);
          unit =
              λ x. ap (λ y. y.unit) (touched.rest x);
        })
        settled-more
        (marks-same p.global_from_user p.global_from_user p.kept after p.assumptions (λ u. refl) (λ x. ap (λ y. y.assumed) (touched.rest x)) k.marks)
        (record {
          one_to_one = k.well_formed.one_to_one;
          free = k.well_formed.free;
          named = k.well_formed.named;
          accepted = λ b l i j. ⊎_elim (λ q. k.well_formed.accepted b l q j) (λ q. ⊎_elim (λ z. made l (subst (λ y. l ∈ y) z j)) (λ z. absurd z) q)
              (∈-append_cases b s.clauses (c ∷ []) i);
          assumed = k.well_formed.assumed;
          counted = k.well_formed.counted;
          once = k.well_formed.once;
        })
        (record {
          solvers = k.solvers;
          holds = holds;
          assumptions = k.assumptions;
          working = record { used = k.working.used; part = k.working.part; implied = λ a m t. k.working.implied a (satisfies_fewer a s.clauses (c ∷ []) m) t };
          verdict = fits;
          core = core;
          right = right;
          few = k.few;
          logged = is-logged;
          checked = checks;
        })

    -- the clause and the lines, by any map that gives live identities their global variables
    clause-carried : (m : ℕ → Option ℕ) → ((i x : ℕ) → w.global i ≡ Some x → m i ≡ Some x) → (lines : List Line) →
        SpeakOf (IsLiteralOfEither p.search (map (solver_literal p) d)) lines →
        logged_as (carry m) (Accepts (map (through_names s.naming) d) ∷ lines_logged (translation w p s.logged) lines) ≡ logged_as
        (carry p.global_from_solver) (Accepts (map (solver_literal p) d) ∷ written lines)
    unfolding c e r
    clause-carried m leads lines speaks =
        let to = carry (translation w p s.logged).identity in
        let g = carry m in
        let h = carry p.global_from_solver in
        let ls = lines_logged (translation w p s.logged) lines in
        let one : map g (map (through_names s.naming) d) ≡ map h (map (solver_literal p) d) = ap (map g) (sym same-clause)
        ∙ map-map g to h (map (solver_literal p) d) (λ l i. global-carried w p s k m leads l (of-clause l i)) in
        ap (λ (y : Clause). Accepts y ∷ logged_as g ls) one
        ∙ ap (λ es. Accepts (map h (map (solver_literal p) d)) ∷ es)
        (logged-carried to g h (IsLiteralOfEither p.search (map (solver_literal p) d)) lines
        (λ l. elim [
          | inl a ↦ global-carried w p s k m leads l (k.holds.within l a)
          | inr a ↦ global-carried w p s k m leads l (of-clause l a)
        ]) speaks)

    -- what a proof logs of them
    clause-logged-as : (lines : List Line) → SpeakOf (IsLiteralOfEither p.search (map (solver_literal p) d)) lines →
        AreLoggedAs s.variables s.logged ((s.logged ++ Accepts (map (through_names s.naming) d) ∷ []) ++ lines_logged (translation w p s.logged) lines)
        (logged_as (carry p.global_from_solver) (Accepts (map (solver_literal p) d) ∷ written lines))
    unfolding c e r
    clause-logged-as lines speaks =
        let ls = lines_logged (translation w p s.logged) lines in
        record {
          entries = Accepts (map (through_names s.naming) d) ∷ ls;
          joined = append_assoc s.logged (Accepts (map (through_names s.naming) d) ∷ []) ls;
          stays = written_stays (map (rename_line (carry (translation w p s.logged).identity)) lines);
          same = clause-carried s.variables k.variables lines speaks;
        }

    -- the checker took the clause and the lines
    clause-checked : (checker : Option CheckerState) (lines : List Line) →
        IsCheckedIf p.checker (logged_as (carry p.global_from_solver) (Accepts (map (solver_literal p) d) ∷ written lines)) checker →
        p.outcome ≡ outcome.Unknown → SpeakOf (IsLiteralOfEither p.search (map (solver_literal p) d)) lines →
        CheckerFits w.global ((s.logged ++ Accepts (map (through_names s.naming) d) ∷ []) ++ lines_logged (translation w p s.logged) lines) checker
    unfolding c e r
    clause-checked checker lines checks o speaks =
        let to = carry (translation w p s.logged).identity in
        let ls = lines_logged (translation w p s.logged) lines in
        let all = clause-carried w.global (λ i x q. q) lines speaks in
        subst (λ es. CheckerFits w.global es checker) (sym (append_assoc s.logged (Accepts (map (through_names s.naming) d) ∷ []) ls))
        (checker-on w.global s.logged (Accepts (map (through_names s.naming) d) ∷ ls) p.checker checker (written_stays (map (rename_line to) lines))
        (subst (λ es. IsCheckedIf p.checker es checker) (sym all) checks)
        k.checked)

    pub loaded : (t : Search) (v : SearchOutcome) (m : ℕ → Bool) (checker : Option CheckerState) (lines : List Line) →
        IsCheckedIf p.checker (logged_as (carry p.global_from_solver) (Accepts (map (solver_literal p) d) ∷ written lines)) checker →
        p.outcome ≡ outcome.Unknown → AreLong p.search → AreLong t → AreInUse p t → Loads p.search t (map (solver_literal p) d) v lines →
        (x : Verdict) × (logged : List Entry) × VerdictAfter s.clauses (map (through_names s.naming) d) Unknown x
        × LogsStaying 0 (s.logged ++ Accepts (map (through_names s.naming) d) ∷ []) logged
        × AreLoggedAs s.variables s.logged logged (logged_as (carry p.global_from_solver) (Accepts (map (solver_literal p) d) ∷ written lines))
        × Links w
        (record p { kept = after; search = t; outcome = v; model = m; checker = checker })
        (with_entries logged (accept (map (through_names s.naming) d) x s))
    unfolding c e r
    loaded t v m checker lines checks o long-before long in-use loads =
        let h = subst (SearchHolds s.clauses (translation w p s.logged) p.search) (ap without_core o) k.holds in
        let ls = lines_logged (translation w p s.logged) lines in
        let logged = (s.logged ++ Accepts (map (through_names s.naming) d) ∷ []) ++ ls in
        let after' = translation w p logged in
        let more = holds-more h t v lines loads long in-use in
        let logs' : LogsStaying 0 (s.logged ++ Accepts (map (through_names s.naming) d) ∷ []) logged = (
          record { entries = ls; joined = refl; goes = goes-more h t v lines loads long in-use },
          written_stays
              (map (rename_line (carry (translation w p s.logged).identity)) lines),
          written-derived (map (rename_line (carry (translation w p s.logged).identity)) lines),
        ) in
        let logged-as = clause-logged-as lines loads.speaks in
        let to = (translation w p s.logged).identity in
        let spoken = spoken-renamed (IsLiteralOfEither p.search (map (solver_literal p) d)) (IsCounted s.counted) (carry to) lines
        (λ l. elim [
          | inl a ↦ let (i, b) = h.within l a in counted-literal w p s k l i b
          | inr a ↦ let (i, b) = of-clause l a in
              counted-literal w p s k l i b
        ]) loads.speaks in
        let is-logged = logged-written (s.logged ++ Accepts (map (through_names s.naming) d) ∷ [])
        (s.clauses ++ map (through_names s.naming) d ∷ []) s.assumptions s.counted s.ever_hidden (map (rename_line (carry to)) lines) spoken
        (logged-accepted s.logged s.clauses s.assumptions s.counted s.ever_hidden (map (through_names s.naming) d) counted-clause k.logged) in
        let follows = clause-checked checker lines checks o loads.speaks in
        ⊎_elim
        (λ (q, u). let none = refuted (s.clauses ++ map (through_names s.naming) d ∷ []) after' t
        (subst (SearchHolds (s.clauses ++ map (through_names s.naming) d ∷ []) after' t) u more) in (
          Unsat,
          logged,
          Refuted refl none,
          logs',
          logged-as,
          linked logged is-logged t v m checker Unsat follows
              (subst (SearchHolds (s.clauses ++ map (through_names s.naming) d ∷ []) after' t) (u ∙ sym (ap without_core u)) more)
              (subst (λ y. VerdictFits w.identity m y Unsat) (sym u) tt) tt none,
        ))
        (λ (q, u). (
          Unknown,
          logged,
          Reopened refl (λ z. q (contradicted h long-before z)),
          logs',
          logged-as,
          linked logged is-logged t v m checker Unknown
              follows (subst (SearchHolds (s.clauses ++ map (through_names s.naming) d ∷ []) after' t) (u ∙ sym (ap without_core u)) more)
              (subst (λ y. VerdictFits w.identity m y Unknown) (sym u) tt) tt tt,
        ))
        loads.verdict

  -- what a proof logs of the list
  pub list-carried : map (carry s.variables) (map (through_names s.naming) d) ≡ map (carry p.global_from_solver) (map (solver_literal p) d)
  unfolding c e r
  list-carried = ap (map (carry s.variables)) (sym same-clause)
      ∙ map-map (carry s.variables) (carry (translation w p s.logged).identity) (carry p.global_from_solver) (map (solver_literal p) d)
      (λ l i. global-carried w p s k s.variables k.variables l (of-clause l i))

  -- The list is assumed, of which the search has the literals. No verdict on the assumptions before is left.
  module _ (after : ℕ → VarData) (marks : IsMarkedFor p d after) where
    pub assumed : (logged : List Literal) → (s.verdict ≡ Unknown) ⊎ (s.verdict ≡ Unsat) →
        Links w (record p { kept = after; assumptions = d; core = logged; working = map (solver_literal p) d })
        (record s { assumptions = map (through_names s.naming) d; logged = s.logged ++ Assumes (map (through_names s.naming) d) ∷ [] })
    unfolding c e r
    assumed logged cases =
        relinked-marks w p (record p { kept = after; assumptions = d; core = logged; working = map (solver_literal p) d }) s
        (record s { assumptions = map (through_names s.naming) d; logged = s.logged ++ Assumes (map (through_names s.naming) d) ∷ [] }) k
        (record {
          deleted = λ x. ap (λ y. y.deleted) (marks.rest x);
          sampling_mode = λ x. ap (λ y. y.sampling_mode) (marks.rest x);
          unit =
              λ x. ap (λ y. y.unit) (marks.rest x);
        })
        (isolation-same w.identity w.forced p.kept after s.clauses s.naming.made (λ x. ap (λ y. y.isolated) (marks.rest x)) k.isolation)
        marks.fit
        (record {
          one_to_one = k.well_formed.one_to_one;
          free = k.well_formed.free;
          named = k.well_formed.named;
          accepted = k.well_formed.accepted;
          assumed = made;
          counted = k.well_formed.counted;
          once = k.well_formed.once;
        })
        (record {
          solvers = k.solvers;
          holds = holds-same s.clauses (translation w p s.logged) (translation w p (s.logged ++ Assumes (map (through_names s.naming) d) ∷ [])) p.search
              (without_core p.outcome) (λ v. refl) (λ i. refl)
              (λ share q. logged-quiet (translation w p s.logged) (Assumes (map (through_names s.naming) d)) (λ held _. refl) p.search.fixed share
              (without_core p.outcome) q) k.holds;
          assumptions = record { agree = refl; taken = taken };
          working = record {
            used = of-clause;
            part = λ l h. subst (λ xs. l ∈ xs) same-clause h;
            implied = λ a m t. subst (MakesTrue a) same-clause t;
          };
          verdict = k.verdict;
          core = ⊎_elim (λ q. subst (CoreFits s.naming.names logged) (sym q) tt) (λ q. subst (CoreFits s.naming.names logged) (sym q) tt) cases;
          right = ⊎_elim
              (λ q. subst (IsRight s.clauses (map (through_names s.naming) d) s.counted) (sym q) tt)
              (λ q. subst (IsRight s.clauses (map (through_names s.naming) d) s.counted) (sym q) (subst (IsRight s.clauses s.assumptions s.counted) q k.right))
              cases;
          few = k.few;
          logged = logged-assumed s.logged s.clauses s.assumptions s.counted s.ever_hidden (map (through_names s.naming) d) counted-clause k.logged;
          checked = checker-still w.global s.logged (map (through_names s.naming) d) p.checker k.checked;
        })
