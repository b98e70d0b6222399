-- Variables leave the search in turn: what that does to the tables, said of the states.
use Rattle.std.proofs.Common.{◌≡◌, ℕ, Bool, true, false, Option, Some, None, [], ◌∷◌, ◌++◌, inr, sym, ap, ◌∙◌, subst, refl, inl, ⊎_elim, ◌≢◌, nat_eq, not, if◌then◌else◌, List, ◌⊎◌, length, ap₂, arith, eq-eqb, ne_eqb}
use Rattle.std.specs.List.{filter}
use Rattle.varisat_theory.specs.promises.Membership.{◌∈◌}
use Rattle.varisat_theory.specs.promises.Literals.{Literal, Assignment, variable_of, literal_of, SatisfiesAll, Clause}
use Rattle.varisat_theory.specs.promises.Searches.{Search, clauses_of, KeptClause, IsLiteralOf}
use Rattle.varisat_theory.proofs.clauses.Members.{∈-append_right, equal_or_not}
use Rattle.varisat_theory.proofs.clauses.Held.{same_satisfied}
use Rattle.varisat_literals.specs.promises.Numbers.{polarity_of}
use Rattle.varisat_theory.proofs.clauses.Values.{variable-literal}
use Rattle.varisat_prop.proofs.trails.LiteralValues.{polarity-literal}
use Rattle.varisat_names.specs.promises.Maps.{updated, chain}
use Rattle.varisat_names.specs.promises.VarData.{dead, data_at, IsDataAt}
use Rattle.varisat_names.specs.declared.variables.data.VarData.{VarData}
use Rattle.varisat_names.proofs.Maps.{updated-at, updated-other, updated-all, chain-some, is-some}
use Rattle.varisat_solver.specs.promises.States.{State}
use Rattle.varisat_solver.specs.promises.Names.{identity_of}
use Rattle.varisat_solver.specs.inside.Spaces.{Spaces, Carrying, SearchHolds, without_core, translation, Links, SpacesFit, Translation}
use Rattle.varisat_solver.specs.inside.Detached.{fixed_to, LosesSolverVar}
use Rattle.varisat_solver.proofs.calls.Carried.{true-value}
use Rattle.varisat_solver.proofs.steps.SearchLinks.{agrees-through, relinked}
use Rattle.varisat_solver.proofs.steps.SolveVerdict.{maps-alike, maps-same, recount}
use Rattle.varisat_proof.specs.promises.Calls.{CheckerState}
use Rattle.varisat_proof.specs.promises.Proving.{IsCheckedIf, ProofParts, IsLogged}
use Rattle.varisat_theory.specs.promises.Journals.{Retires, Entry}
use Rattle.varisat_solver.specs.promises.Journals.{with_entries, LogsRetired}
use Rattle.varisat_solver.proofs.modes.VariableMoves.{leave_search, leave_all, recycle, kept-most}
use Rattle.varisat_solver.proofs.modes.RecycledGlobals.{recycled}
use Rattle.varisat_solver.proofs.leaving.DetachedSolvers.{IsWithout, left, still-forced}
use Rattle.varisat_theory.specs.promises.Held.{SameClauses, mentions}
use Rattle.varisat_theory.proofs.journals.StepCovers.{detached_are_covered}
use Rattle.varisat_prop.specs.View.{View}
use Rattle.varisat_prop.proofs.pairs.SimplifiedPairs.{filter-∈, ∈-filter}
use Rattle.varisat_search.specs.AssumptionParts.{AssumptionParts}
use Rattle.varisat_search.specs.Seen.{search_of}
use Rattle.varisat_names.specs.promises.VarMap.{at}
use Rattle.varisat_names.specs.promises.VarBiMap.{BiMap, IsParted}
use Rattle.varisat_names.specs.promises.Variables.{Tables, IsChangedTo, unused, unless_unused}
use Rattle.varisat_solver.proofs.entries.CheckedHeld.{checked-nothing}
use Rattle.varisat_tracer.specs.inside.Tracing.{TracerState, retires_if_deleted}
use Rattle.varisat_tracer.specs.promises.Carried.{carry}
use Rattle.varisat_solver.specs.inside.Carried.{is_forced}
use Rattle.varisat_solver.proofs.entries.LoggedProofs.{leaving-none, leaving-nothing, leaving-one, leaving-through}
use Rattle.varisat_solver.specs.inside.Representations.{spaces_of}
use Rattle.varisat_solver.proofs.calls.SpacesAgree.{with_search}
use Rattle.varisat_solver.proofs.entries.ReachedHeld.{shares-more}
use Rattle.varisat_theory.specs.inside.Outcomes as outcome
use Rattle.varisat_search.specs.declared.state.SatState.TheVariants as verdict

-- A variable whose value is fixed leaves the search, and its value is kept. Where it has no name, its global variable may be used again.

-- A literal that is held as a unit clause is true under each assignment that satisfies the accepted clauses.
proved-value : (w : Carrying) (p : Spaces) (s : State) (v x i : ℕ) (l : Literal) → Links w p s → p.outcome ≡ outcome.Unknown →
    p.global_from_solver v ≡ Some x → w.identity x ≡ Some i → variable_of l ≡ v → l ∈ p.search.proved → (a : Assignment) →
    SatisfiesAll a s.clauses → a i ≡ polarity_of l
proved-value w p s v x i l k unknown pair at over proved a m =
    let to = chain p.global_from_solver w.identity in
    let read : Assignment = λ u. a (identity_of (to u)) in
    let h = subst (SearchHolds s.clauses (translation w p s.logged) p.search) (ap without_core unknown) k.holds in
    let (d, e, unit) = h.holds.units l proved in
    let all = same_satisfied read h.held _ h.holds.same (h.implied a read m (agrees-through to a)) in
    let (n, y, z) = all d (∈-append_right d (clauses_of p.search.kept) h.holds.others e) in
    let same = unit.1 n y in
    sym (ap (λ o. a (identity_of o)) (ap to over ∙ chain-some p.global_from_solver w.identity v x pair ∙ at))
    ∙ ap (λ m. read (variable_of m)) (sym same) ∙ true-value read n z ∙ ap polarity_of same

-- The identity that a proof writes as x is gone from the state, and the spaces stand for what is left.
pub record IsRetired (x : ℕ) (p : Spaces) (s : State) : Type 0 where
  pub identity : ℕ
  pub variable : s.variables identity ≡ Some x
  pub fits : SpacesFit p (with_entries (s.logged ++ Retires identity ∷ []) s)

-- whatever is kept in between of the isolated global variable
pub left-recycled : (w : Carrying) (p : Spaces) (s : State) (v x i : ℕ) (t : Search) (d : VarData) → Links w (leave_search v x t d p) s →
    p.outcome ≡ outcome.Unknown → w.identity x ≡ Some i → p.user_from_global x ≡ None → d.isolated ≡ true → (checker : Option CheckerState) →
    IsCheckedIf p.checker (Retires x ∷ []) checker → IsRetired x (record (leave_all v x t p) { checker = checker }) s
left-recycled w p s v x i t d k unknown at unnamed alone checker logged =
    let mid = leave_search v x t d p in
    let unsolved = updated-at p.solver_from_global x None in
    let isolated = ap (λ (a : VarData). a.isolated) (updated-at p.kept x d) ∙ alone in
    record {
      identity = i;
      variable = k.variables i x (k.identities.one_to_one.there x i at);
      fits =
          maps-same (record (recycle x mid) { checker = checker }) (record (leave_all v x t p) { checker = checker })
          (with_entries (s.logged ++ Retires i ∷ []) s)
          (maps-alike (record (recycle x mid) { checker = checker }) (record (leave_all v x t p) { checker = checker }) refl
          (λ y. updated-all (λ y a. a ≡ updated (updated p.kept x d) x dead y) p.kept x dead (sym (updated-at (updated p.kept x d) x dead)) y
          (λ n. sym (updated-other (updated p.kept x d) x dead y n ∙ updated-other p.kept x d y n)))
          (λ a e y. refl)) refl
          (recycled w mid s x i k at unnamed unsolved isolated
          (λ e. let z : outcome.Unknown ≡ outcome.Unsat = sym (ap without_core unknown) ∙ e in cc) checker logged);
    }

-- The variable is not assumed, and its value is fixed at level 0.
module _ (w : Carrying) (p : Spaces) (s : State) (v x : ℕ) (b : Bool) (t : Search) (k : Links w p s) (unknown : p.outcome ≡ outcome.Unknown)
    (pair : p.global_from_solver v ≡ Some x) (unassumed : (p.kept x).assumed ≡ false) (f : IsWithout v (Some b) p.search t) where
  links-left : (i : ℕ) → w.identity x ≡ Some i → i ∈ s.counted →
      Links (record w { forced = updated w.forced i (Some b) }) (leave_search v x t (fixed_to b (p.kept x)) p) s
  links-left i at c =
      let l = literal_of v b in
      let sure = (λ (a : Assignment) (m : SatisfiesAll a s.clauses) (y : Bool) (e : Some b ≡ Some y). let q : b ≡ y = cc in
      proved-value w p s v x i l k unknown pair at (variable-literal v b) (f.units b refl) a m ∙ polarity-literal v b ∙ q) in
      left w p s v x i (Some b) t k unknown pair at c unassumed f (fixed_to b (p.kept x)) sure refl (inr (b, refl))

  -- the global variable stays, with the value
  pub fixed-stays : SpacesFit (leave_search v x t (fixed_to b (p.kept x)) p) s
  fixed-stays = let (i, at, c) = k.solvers.live v x pair in (record w { forced = updated w.forced i (Some b) }, links-left i at c)

  -- a hidden one may be used again
  pub fixed-left : p.user_from_global x ≡ None → (checker : Option CheckerState) → IsCheckedIf p.checker (Retires x ∷ []) checker →
      IsRetired x (record (leave_all v x t p) { checker = checker }) s
  fixed-left unnamed checker logged =
      let (i, at, c) = k.solvers.live v x pair in
      left-recycled (record w { forced = updated w.forced i (Some b) }) p s v x i t (fixed_to b (p.kept x))
      (links-left i at c) unknown at unnamed refl checker logged

-- A variable without a value that no kept clause mentions leaves the search. Where it has no name and is isolated, its global variable may be used again.

module _ (w : Carrying) (p : Spaces) (s : State) (v x i : ℕ) (t : Search) (k : Links w p s) (unknown : p.outcome ≡ outcome.Unknown)
    (pair : p.global_from_solver v ≡ Some x) (at : w.identity x ≡ Some i) (c : i ∈ s.counted) (unassumed : (p.kept x).assumed ≡ false)
    (f : IsWithout v None p.search t) where
  no-unit : (p.kept x).unit ≡ None
  no-unit = sym (k.units.unit x i at)
      ∙ ⊎_elim (λ e. e) (λ (b, e). let z = still-forced w p s v x i None t k unknown pair at c unassumed f b e in absurd cc) (is-some (w.forced i))

  links-apart : Links (record w { forced = updated w.forced i None }) (leave_search v x t (p.kept x) p) s
  links-apart = left w p s v x i None t k unknown pair at c unassumed f (p.kept x) (λ a m b e. absurd cc)
      (ap (λ (u : Option Bool). record (p.kept x) { unit = u }) no-unit) (inl refl)

-- it stays as it is
pub apart-left : (w : Carrying) (p : Spaces) (s : State) (v x : ℕ) (t : Search) → Links w p s → p.outcome ≡ outcome.Unknown →
    p.global_from_solver v ≡ Some x → (p.kept x).assumed ≡ false → IsWithout v None p.search t → SpacesFit (leave_search v x t (p.kept x) p) s
apart-left w p s v x t k unknown pair unassumed f = let (i, at, c) = k.solvers.live v x pair in
    (record w { forced = updated w.forced i None }, links-apart w p s v x i t k unknown pair at c unassumed f)

-- it may be used again
pub apart-recycled : (w : Carrying) (p : Spaces) (s : State) (v x : ℕ) (t : Search) → Links w p s → p.outcome ≡ outcome.Unknown →
    p.global_from_solver v ≡ Some x → (p.kept x).assumed ≡ false → p.user_from_global x ≡ None → (p.kept x).isolated ≡ true →
    IsWithout v None p.search t → (checker : Option CheckerState) → IsCheckedIf p.checker (Retires x ∷ []) checker →
    IsRetired x (record (leave_all v x t p) { checker = checker }) s
apart-recycled w p s v x t k unknown pair unassumed unnamed alone f checker logged =
    let (i, at, c) = k.solvers.live v x pair in
    left-recycled (record w { forced = updated w.forced i None }) p s v x i t (p.kept x)
    (links-apart w p s v x i t k unknown pair at c unassumed f) unknown at unnamed alone checker logged

-- The solver variable was dropped. Before that its global variable was kept with its value and as isolated, where the value is fixed.
abbrev pub IsLeft : Option Bool → TracerState → TracerState → ℕ → Type 0
IsLeft (Some b) p q v = (x : ℕ) × (mid : Tables) × IsChangedTo p.tables mid x (fixed_to b (data_at p.tables.kept x))
    × LosesSolverVar x v (record p { tables = mid }) q
IsLeft None p q v = (x : ℕ) × LosesSolverVar x v p q

-- The solver variables were dropped in turn. `known` says which values are fixed.
abbrev pub AreLeft : (ℕ → Option Bool) → List ℕ → TracerState → TracerState → Type 0
AreLeft known [] p q = q ≡ p
AreLeft known (v ∷ vs) p q = (mid : TracerState) × IsLeft (known v) p mid v × AreLeft known vs mid q

-- The search t is s without the variables, which no kept clause mentions. What is true at level 0 of them is known, and held as unit clauses.
pub record AreWithout (known : ℕ → Option Bool) (vs : List ℕ) (s t : Search) : Type 0 where
  pub kept : t.kept ≡ s.kept
  pub unmentioned : (v : ℕ) → v ∈ vs → (k : KeptClause) → k ∈ s.kept → mentions v k.clause ≡ false
  pub stays : (l : Literal) → l ∈ s.fixed → (l ∈ t.fixed) ⊎ ((variable_of l ∈ vs) × (known (variable_of l) ≡ Some (polarity_of l)))
  pub fixed : (l : Literal) → l ∈ t.fixed → (l ∈ s.fixed) × (variable_of l ∈ vs → ⊥)
  pub proved : (l : Literal) → l ∈ t.proved → (l ∈ s.proved) × (variable_of l ∈ vs → ⊥)
  pub units : (v : ℕ) (b : Bool) → v ∈ vs → known v ≡ Some b → literal_of v b ∈ s.proved

-- 1. One variable.

-- the spaces in between, whose search is any
abbrev pub between : Tables → Option CheckerState → View → AssumptionParts → Search → Spaces
between t checker search assumed u = with_search u outcome.Unknown (spaces_of t checker search assumed verdict.Unknown)

-- The global variable x has its solver variable v no longer, and d is kept of it.
record LosesSolver (old new : Tables) (x v : ℕ) (d : VarData) : Type 0 where
  taken : at old.solvers.backward v ≡ Some x
  users : new.users ≡ old.users
  solvers : IsParted old.solvers new.solvers x v
  kept : IsDataAt old.kept x d new.kept

-- what is kept of a variable that leaves, by its value
abbrev with_known : Option Bool → VarData → VarData
with_known None d = d
with_known (Some b) d = fixed_to b d

-- what is kept of a variable is changed twice
pub kept-twice : (old mid new : List VarData) (x : ℕ) (d e : VarData) → IsDataAt old x d mid → IsDataAt mid x e new → IsDataAt old x e new
kept-twice old mid new x d e a b =
    let first = a.count in
    let second = b.count in
    record {
      count = omega (arith, first, second);
      at_each = λ y. b.at_each y ∙ updated-all (λ y o. o ≡ updated (data_at old) x e y) (data_at mid) x e (sym (updated-at (data_at old) x e)) y
          (λ n. a.at_each y ∙ updated-other (data_at old) x d y n ∙ sym (updated-other (data_at old) x e y n));
    }

-- what dropping a solver variable does to the tables, whether its value is fixed or not
loses : (known : Option Bool) (p q : TracerState) (v : ℕ) → IsLeft known p q v → (x : ℕ)
    × LosesSolver p.tables q.tables x v (unless_unused (at p.tables.users.backward x) (with_known known (data_at p.tables.kept x)))
    × IsLogged p.proof (retires_if_deleted q.tables x) q.proof
loses None p q v (x, l) = let n = l.dropped in (x, record { taken = n.taken; users = n.users; solvers = n.solvers; kept = n.kept }, l.logged)
loses (Some b) p q v (x, mid, c, l) =
    let old = p.tables in
    let new = q.tables in
    let n = l.dropped in
    let d = fixed_to b (data_at old.kept x) in
    let users = ap (λ (t : Tables). t.users) c.rest in
    let solvers = ap (λ (t : Tables). t.solvers) c.rest in
    let after = ap₂ unless_unused (ap (λ (m : BiMap). at m.backward x) users) (c.kept.at_each x ∙ updated-at (data_at old.kept) x d) in (
      x,
      record {
        taken = ap (λ (m : BiMap). at m.backward v) (sym solvers) ∙ n.taken;
        users = n.users ∙ users;
        solvers = subst (λ m. IsParted m new.solvers x v) solvers n.solvers;
        kept = kept-twice old.kept mid.kept new.kept x d (unless_unused (at old.users.backward x) d) c.kept
            (subst (λ d. IsDataAt mid.kept x d new.kept) after n.kept);
      },
      l.logged,
    )

module _ (old new : Tables) (p q : ProofParts) (search : View) (assumed : AssumptionParts) (s : State) (u t : Search) (x v : ℕ) (d : VarData)
    (w : Carrying) (k : Links w (between old p.checker search assumed u) s) where
  -- whatever is kept of the variable
  moved : (logged : List Entry) (e : VarData) (m : ℕ → Bool) (checker : Option CheckerState) → LosesSolver old new x v e →
      SpacesFit (record (leave_search v x t e (between old p.checker search assumed u)) { model = m; checker = checker }) (with_entries logged s) →
      SpacesFit (between new checker search assumed t) (with_entries logged s)
  moved logged e m checker n f =
      let live : (data_at old.kept x).deleted ≡ false = (let (i, is, c) = k.solvers.live v x n.taken in k.identities.live x i is) in
      maps-same (record (leave_search v x t e (between old p.checker search assumed u)) { model = m; checker = checker })
      (between new checker search assumed t) (with_entries logged s) (record {
        global_from_user = λ y. ap (λ (b : BiMap). at b.forward y) n.users;
        user_from_global = λ y. ap (λ (b : BiMap). at b.backward y) n.users;
        watermark = ap (λ (b : BiMap). length b.forward) n.users;
        globals = kept-most old.kept new.kept x e live n.kept;
        solver_from_global = n.solvers.forward.at_each;
        global_from_solver = n.solvers.backward.at_each;
        kept = n.kept.at_each;
        model = λ a e y. absurd (let z : outcome.Unknown ≡ outcome.Sat a = e in cc);
      }) refl f

  -- where it is live still, the proof logs nothing
  none-logged : LosesSolver old new x v d → d.deleted ≡ false → retires_if_deleted new x ≡ []
  none-logged n live = ap (λ (b : Bool). if b then Retires x ∷ [] else [])
      (ap (λ (e : VarData). e.deleted) (n.kept.at_each x ∙ updated-at (data_at old.kept) x d) ∙ live)

  -- where it is not, the proof logs that
  one-logged : LosesSolver old new x v dead → retires_if_deleted new x ≡ Retires x ∷ []
  one-logged n = ap (λ (b : Bool). if b then Retires x ∷ [] else []) (ap (λ (e : VarData). e.deleted) (n.kept.at_each x ∙ updated-at (data_at old.kept) x dead))

  -- Where it has no name and is isolated it is gone, and else it stays.
  gone : LosesSolver old new x v (unless_unused (at old.users.backward x) d) → IsLogged p (retires_if_deleted new x) q → d.deleted ≡ false →
      SpacesFit (leave_search v x t d (between old p.checker search assumed u)) s →
      (at old.users.backward x ≡ None → d.isolated ≡ true → (checker : Option CheckerState) → IsCheckedIf p.checker (Retires x ∷ []) checker →
      IsRetired x (record (leave_all v x t (between old p.checker search assumed u)) { checker = checker }) s) →
      (logged : List Entry) × LogsRetired s.variables s.logged logged p q × SpacesFit (between new q.checker search assumed t) (with_entries logged s)
  gone n h live stays recycled = go (at old.users.backward x) d.isolated refl refl
    where
      stay : LosesSolver old new x v d → (logged : List Entry) × LogsRetired s.variables s.logged logged p q
          × SpacesFit (between new q.checker search assumed t) (with_entries logged s)
      stay l = (
        s.logged,
        leaving-none s.variables s.logged p q (retires_if_deleted new x) (none-logged l live) h,
        moved s.logged d
            (between old p.checker search assumed u).model q.checker l
            (subst (λ o. SpacesFit (record (leave_search v x t d (between old p.checker search assumed u)) { checker = o }) s)
            (sym (checked-nothing p.checker q.checker (subst (λ es. IsCheckedIf p.checker es q.checker) (none-logged l live) h.checked))) stays),
      )

      go : (o : Option ℕ) (b : Bool) → at old.users.backward x ≡ o → d.isolated ≡ b → (logged : List Entry)
          × LogsRetired s.variables s.logged logged p q × SpacesFit (between new q.checker search assumed t) (with_entries logged s)
      go (Some y) b e i = stay (subst (λ o. LosesSolver old new x v (unless_unused o d)) e n)
      go None true e i =
          let lost : LosesSolver old new x v dead = subst (λ c. LosesSolver old new x v (if c then dead else d)) i
          (subst (λ o. LosesSolver old new x v (unless_unused o d)) e n) in
          let r = recycled e i q.checker (subst (λ es. IsCheckedIf p.checker es q.checker) (one-logged lost) h.checked) in (
            s.logged ++ Retires r.identity ∷ [],
            leaving-one s.variables s.logged r.identity x p q (retires_if_deleted new x) r.variable (one-logged lost) h,
            moved (s.logged ++ Retires r.identity ∷ []) dead (leave_all v x t (between old p.checker search assumed u)).model q.checker lost r.fits,
          )
      go None false e i = stay (subst (λ c. LosesSolver old new x v (if c then dead else d)) i (subst (λ o. LosesSolver old new x v (unless_unused o d)) e n))

one-left : (known : Option Bool) (v : ℕ) (a b : TracerState) (search : View) (assumed : AssumptionParts) (s : State) (u t : Search) →
    IsLeft known a b v → IsWithout v known u t → ((x : ℕ) → at a.tables.solvers.backward v ≡ Some x → (data_at a.tables.kept x).assumed ≡ false) →
    SpacesFit (between a.tables a.proof.checker search assumed u) s →
    (logged : List Entry) × LogsRetired s.variables s.logged logged a.proof b.proof × SpacesFit (between b.tables b.proof.checker search assumed t) (with_entries logged s)
one-left (Some b) v p q search assumed s u t a f free (w, k) =
    let (x, n, h) = loses (Some b) p q v a in
    let old = between p.tables p.proof.checker search assumed u in
    let (i, is, c) = k.solvers.live v x n.taken in
    gone p.tables q.tables p.proof q.proof search assumed s u t x v (fixed_to b (data_at p.tables.kept x)) w k n h (k.identities.live x i is)
    (fixed-stays w old s v x b t k refl n.taken (free x n.taken) f) (λ e i. fixed-left w old s v x b t k refl n.taken (free x n.taken) f e)
one-left None v p q search assumed s u t a f free (w, k) =
    let (x, n, h) = loses None p q v a in
    let old = between p.tables p.proof.checker search assumed u in
    let (i, is, c) = k.solvers.live v x n.taken in
    gone p.tables q.tables p.proof q.proof search assumed s u t x v (data_at p.tables.kept x) w k n h (k.identities.live x i is)
    (apart-left w old s v x t k refl n.taken (free x n.taken) f) (λ e i. apart-recycled w old s v x t k refl n.taken (free x n.taken) e i f)

-- 2. Several in turn.

-- the search without the literals of the variable
abbrev pub forget_variable : ℕ → Search → Search
forget_variable v s = record s { fixed = filter (λ l. not (nat_eq (variable_of l) v)) s.fixed; proved = filter (λ l. not (nat_eq (variable_of l) v)) s.proved }

is-other : (v : ℕ) (l : Literal) → variable_of l ≢ v → not (nat_eq (variable_of l) v) ≡ true
is-other v l n = ap not (ne_eqb (variable_of l) v n)

other-of : (v : ℕ) (l : Literal) → not (nat_eq (variable_of l) v) ≡ true → variable_of l ≢ v
other-of v l e q = let z : false ≡ true = sym (ap not (eq-eqb (variable_of l) v q)) ∙ e in cc

left-out : (v : ℕ) (ls : List Literal) (l : Literal) → l ∈ ls → variable_of l ≢ v → l ∈ filter (λ l. not (nat_eq (variable_of l) v)) ls
left-out v ls l h n = filter-∈ (λ l. not (nat_eq (variable_of l) v)) ls l h (is-other v l n)

of-left : (v : ℕ) (ls : List Literal) (l : Literal) → l ∈ filter (λ l. not (nat_eq (variable_of l) v)) ls → (l ∈ ls) × (variable_of l ≢ v)
of-left v ls l h = let (y, z) = ∈-filter (λ l. not (nat_eq (variable_of l) v)) ls l h in (y, other-of v l z)

-- the first variable is forgotten, and then the others
without-first : (known : ℕ → Option Bool) (v : ℕ) (vs : List ℕ) (s t : Search) → AreWithout known (v ∷ vs) s t → IsWithout v (known v) s (forget_variable v s)
without-first known v vs s t f = record {
  kept = refl;
  unmentioned = f.unmentioned v (inl refl);
  stays = λ l a. ⊎_elim
      (λ q. inr (q, ⊎_elim (λ y. absurd ((f.fixed l y).1 (inl q))) (λ (y, z). ap known (sym q) ∙ z) (f.stays l a)))
      (λ n. inl (left-out v s.fixed l a n))
      (equal_or_not (variable_of l) v);
  fixed = of-left v s.fixed;
  proved = of-left v s.proved;
  units = λ b e. f.units v b (inl refl) e;
}

without-others : (known : ℕ → Option Bool) (v : ℕ) (vs : List ℕ) (s t : Search) → (v ∈ vs → ⊥) → AreWithout known (v ∷ vs) s t →
    AreWithout known vs (forget_variable v s) t
without-others known v vs s t once f = record {
  kept = f.kept;
  unmentioned = λ u i. f.unmentioned u (inr i);
  stays = λ l a.
      let (y, n) = of-left v s.fixed l a in
      ⊎_elim inl (λ (i, e). ⊎_elim (λ q. absurd (n q)) (λ j. inr (j, e)) i) (f.stays l y);
  fixed = λ l a. let (y, n) = f.fixed l a in (left-out v s.fixed l y (λ q. n (inl q)), λ i. n (inr i));
  proved = λ l a. let (y, n) = f.proved l a in (left-out v s.proved l y (λ q. n (inl q)), λ i. n (inr i));
  units = λ u b i e. left-out v s.proved (literal_of u b) (f.units u b (inr i) e) (λ q. once (subst (λ z. z ∈ vs) (sym (variable-literal u b) ∙ q) i));
}

-- a pair that is left was there before, and is of another variable
pair-before : (old new : Tables) (v u x y : ℕ) (d : VarData) → LosesSolver old new y v d → at new.solvers.backward u ≡ Some x →
    (at old.solvers.backward u ≡ Some x) × (u ≡ v → ⊥)
pair-before old new v u x y d p e =
    updated-all (λ u o. o ≡ Some x → (at old.solvers.backward u ≡ Some x) × (u ≡ v → ⊥)) (at old.solvers.backward) v None (λ q. absurd cc) u
    (λ n q. (q, n)) (sym (p.solvers.backward.at_each u) ∙ e)

taken-before : (known : ℕ → Option Bool) (vs : List ℕ) (p q : TracerState) → AreLeft known vs p q → (v : ℕ) → v ∈ vs → (x : ℕ)
    × (at p.tables.solvers.backward v ≡ Some x)
taken-before known [] p q e v h = absurd h
taken-before known (u ∷ vs) p q (mid, a, rest) v (inl e) = let (x, n, logged) = loses (known u) p mid u a in (x, ap (at p.tables.solvers.backward) e ∙ n.taken)
taken-before known (u ∷ vs) p q (mid, a, rest) v (inr h) =
    let (y, n, logged) = loses (known u) p mid u a in
    let (x, e) = taken-before known vs mid q rest v h in
    (x, (pair-before p.tables mid.tables u v x y (unless_unused (at p.tables.users.backward y) (with_known (known u) (data_at p.tables.kept y))) n e).0)

-- a variable that is not assumed stays so
still-free : (known : Option Bool) (old new : Tables) (v x : ℕ) →
    LosesSolver old new x v (unless_unused (at old.users.backward x) (with_known known (data_at old.kept x))) → (y : ℕ) →
    (data_at old.kept y).assumed ≡ false → (data_at new.kept y).assumed ≡ false
still-free known old new v x n y e =
    let d = with_known known (data_at old.kept x) in
    ap (λ (a : VarData). a.assumed) (n.kept.at_each y) ∙ updated-all (λ y (a : VarData). (data_at old.kept y).assumed ≡ false → a.assumed ≡ false)
    (data_at old.kept) x (unless_unused (at old.users.backward x) d) (λ q. by-name (unused (at old.users.backward x) d) (by-value known q)) y (λ _ q. q) e
  where
    by-value : (o : Option Bool) → (data_at old.kept x).assumed ≡ false → (with_known o (data_at old.kept x)).assumed ≡ false
    by-value None q = q
    by-value (Some b) q = q

    by-name : (b : Bool) → (with_known known (data_at old.kept x)).assumed ≡ false → (if b then dead else with_known known (data_at old.kept x)).assumed ≡ false
    by-name true q = refl
    by-name false q = q

-- the same clauses and the same literals, in whatever order
same-holds : (P : List Clause) (r : Translation) (s t : Search) → AreWithout (λ v. None) [] s t → SearchHolds P r s outcome.Unknown →
    SearchHolds P r t outcome.Unknown
same-holds P r s t f h = record {
  held = h.held;
  holds = record {
    others = h.holds.others;
    same = subst (λ ks. SameClauses h.held (clauses_of ks ++ h.holds.others)) (sym f.kept) h.holds.same;
    settled = λ c i. ⊎_elim inl (λ (l, a, b). inr (l, a, on l b)) (h.holds.settled c i);
    units = λ l i. h.holds.units l (f.proved l i).0;
  };
  within = λ l a. h.within l (before l a);
  implied = h.implied;
  known = h.known;
  fixed = λ n l i e z. on l (h.fixed n l i e z);
  covered = λ n. detached_are_covered s t (carry r.identity) (is_forced r.forced) (is_forced r.forced) P f.kept (λ l a. inl (on l a)) (λ l e. e) (h.covered n);
  logged = shares-more on h.logged;
}
  where
    on : (l : Literal) → l ∈ s.fixed → l ∈ t.fixed
    on l a = ⊎_elim (λ y. y) (λ (i, e). absurd i) (f.stays l a)

    before : (l : Literal) → IsLiteralOf t l → IsLiteralOf s l
    before l (inl a) = inl (f.fixed l a).0
    before l (inr (k, a, b)) = inr (k, subst (λ ks. k ∈ ks) f.kept a, b)

all-left : (known : ℕ → Option Bool) (vs : List ℕ) (p q : TracerState) (search : View) (assumed : AssumptionParts) (s : State) (u t : Search) →
    AreLeft known vs p q → AreWithout known vs u t →
    ((v x : ℕ) → v ∈ vs → at p.tables.solvers.backward v ≡ Some x → (data_at p.tables.kept x).assumed ≡ false) →
    SpacesFit (between p.tables p.proof.checker search assumed u) s →
    (logged : List Entry) × LogsRetired s.variables s.logged logged p.proof q.proof × SpacesFit (between q.tables q.proof.checker search assumed t) (with_entries logged s)
all-left known [] p q search assumed s u t e f free (w, k) =
    let old = between p.tables p.proof.checker search assumed u in
    let same : AreWithout (λ v. None) [] u t =
    record {
      kept = f.kept;
      unmentioned = f.unmentioned;
      stays = λ l a. ⊎_elim inl (λ (i, q). absurd i) (f.stays l a);
      fixed = f.fixed;
      proved =
          f.proved;
      units = λ v b i. absurd i;
    } in (
      s.logged,
      subst (λ (a : TracerState). LogsRetired s.variables s.logged s.logged p.proof a.proof) (sym e) (leaving-nothing s.variables s.logged p.proof),
      subst (λ (a : TracerState). SpacesFit (between a.tables a.proof.checker search assumed t) s) (sym e) (
        w,
        relinked w old (between p.tables p.proof.checker search assumed t) s s k (record {
          solvers = k.solvers;
          holds = same-holds s.clauses (translation w old s.logged) u t same k.holds;
          assumptions = k.assumptions;
          working = k.working;
          verdict = k.verdict;
          core = k.core;
          right = k.right;
          few = k.few;
          logged = k.logged;
          checked = k.checked;
        }),
      ),
    )
all-left known (v ∷ vs) p q search assumed s u t (mid, a, rest) f free fit =
    let old = p.tables in
    let (g, n, h) = loses (known v) p mid v a in
    let d = unless_unused (at old.users.backward g) (with_known (known v) (data_at old.kept g)) in
    let once = λ (i : v ∈ vs). let (x, e) = taken-before known vs mid q rest v i in (pair-before old mid.tables v v x g d n e).1 refl in
    let (first, more, mid-fits) = one-left (known v) v p mid search assumed s u (forget_variable v u) a (without-first known v vs u t f)
    (λ x e. free v x (inl refl) e) fit in
    let (last, further, fits) = all-left known vs mid q search assumed (with_entries first s) (forget_variable v u) t rest (without-others known v vs u t once f)
    (λ y x i e. still-free (known v) old mid.tables v g n x (free y x (inr i) (pair-before old mid.tables v y x g d n e).0))
    mid-fits in
    (last, leaving-through s.variables s.logged first last p.proof mid.proof q.proof more further, fits)

-- Variables that are not assumed left the search, and their solver variables the tables: what is held stands for the same state as before.
pub variables-left : (known : ℕ → Option Bool) (vs : List ℕ) (p q : TracerState) (search after : View) (assumed : AssumptionParts) (s : State) →
    AreLeft known vs p q → AreWithout known vs (search_of search) (search_of after) → length after.values ≡ length search.values →
    ((v x : ℕ) → v ∈ vs → at p.tables.solvers.backward v ≡ Some x → (data_at p.tables.kept x).assumed ≡ false) →
    SpacesFit (spaces_of p.tables p.proof.checker search assumed verdict.Unknown) s →
    (logged : List Entry) × LogsRetired s.variables s.logged logged p.proof q.proof
    × SpacesFit (spaces_of q.tables q.proof.checker after assumed verdict.Unknown) (with_entries logged s)
variables-left known vs p q search after assumed s a f count free fit =
    let new = q.tables in
    let last = between new q.proof.checker search assumed (search_of after) in
    let (logged, more, fits) = all-left known vs p q search assumed s (search_of search) (search_of after) a f free fit in
    let (w, k) = fits in (
      logged,
      more,
      maps-same (record last { var_count = length after.values }) (spaces_of new q.proof.checker after assumed verdict.Unknown) (with_entries logged s)
          (maps-alike (record last { var_count = length after.values }) (spaces_of new q.proof.checker after assumed verdict.Unknown) refl
          (λ x. refl) (λ b e y. absurd (let z : outcome.Unknown ≡ outcome.Sat b = e in cc)))
          refl (w, recount w last (length search.values) (length after.values) (with_entries logged s) count k),
    )
