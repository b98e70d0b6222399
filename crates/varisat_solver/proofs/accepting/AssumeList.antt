-- A list is assumed: its names come into use, their variables take solver variables and are marked, and the search has its literals.
use Rattle.std.proofs.Common.{◌≡◌, ℕ, true, false, Some, List, [], ◌⊎◌, inl, inr, ⊎_elim, length, map, sym, ap, ◌∙◌, subst, refl, arith, ◌++◌, ◌∷◌}
use Rattle.varisat_theory.specs.promises.Membership.{◌∈◌}
use Rattle.varisat_theory.specs.promises.Literals.{Literal, Assignment, variable_of}
use Rattle.varisat_theory.specs.inside.Outcomes as outcome
use Rattle.varisat_prop.specs.View.{View}
use Rattle.varisat_search.specs.declared.state.SatState.{SatState}
use Rattle.varisat_search.specs.declared.state.SatState.TheVariants as verdict
use Rattle.varisat_search.specs.AssumptionParts.{AssumptionParts, newly_assumed, assumed_state}
use Rattle.varisat_search.specs.Seen.{search_of, outcome_of}
use Rattle.varisat_names.specs.promises.Maps.{chain}
use Rattle.varisat_names.specs.promises.VarMap.{at}
use Rattle.varisat_names.specs.promises.VarData.{data_at}
use Rattle.varisat_names.specs.declared.variables.data.VarData.{VarData}
use Rattle.varisat_names.specs.promises.Variables.{Tables}
use Rattle.varisat_solver.specs.promises.States.{State, join_counted, Verdict, Unknown, Sat, Unsat, UnsatUnderAssumptions}
use Rattle.varisat_solver.specs.promises.Names.{through_names}
use Rattle.varisat_solver.specs.promises.Calls.{assumed_verdict, with_assumptions, with_verdict}
use Rattle.varisat_tracer.specs.promises.Carried.{carry}
use Rattle.varisat_theory.specs.promises.Journals.{Assumes}
use Rattle.varisat_solver.specs.promises.Journals.{with_entries}
use Rattle.varisat_solver.specs.inside.Spaces.{Carrying, MarksFit, Links, SpacesFit}
use Rattle.varisat_solver.specs.promises.Summaries.{Summary}
use Rattle.varisat_solver.specs.inside.Representations.{spaces, spaces_of}
use Rattle.varisat_solver.specs.inside.Accepting.{HasSolver, AreMarked}
use Rattle.varisat_solver.proofs.calls.SpacesAgree.{IsMarkedFor, count, solver_literal}
use Rattle.varisat_solver.proofs.accepting.AcceptLoad.{list-carried, assumed}
use Rattle.varisat_solver.proofs.accepting.AcceptClause.{raised}
use Rattle.varisat_solver.proofs.steps.SolveVerdict.{forgotten, spaces-same}

-- 1. Marks.

-- the marks of the list before are gone, and those of the new one are there
marks-fit : (old mid new : Tables) (before list : List Literal) → MarksFit (at old.users.forward) (data_at old.kept) before →
    AreMarked before false old mid → AreMarked list true mid new → MarksFit (at old.users.forward) (data_at new.kept) list
marks-fit old mid new before list f a b = record {
  marked = λ l x h e. b.marked l x h (ap (λ m. at m.forward (variable_of l)) a.users ∙ e);
  only = λ x h. ⊎_elim
      (λ q. absurd (gone x (sym q ∙ h)))
      (λ (l, i, e). (l, i, ap (λ m. at m.forward (variable_of l)) (sym a.users) ∙ e))
      (b.others x);
}
  where
    fallen : (l : Literal) (x : ℕ) → l ∈ before → at old.users.forward (variable_of l) ≡ Some x → (data_at mid.kept x).assumed ≡ true → ⊥
    fallen l x i e h = let z : false ≡ true = sym (a.marked l x i e) ∙ h in cc

    gone : (x : ℕ) → (data_at mid.kept x).assumed ≡ true → ⊥
    gone x h = ⊎_elim
        (λ q. let (l, i, e) = f.only x (sym q ∙ h) in fallen l x i e h)
        (λ (l, i, e). fallen l x i e h)
        (a.others x)

-- 2. The verdict.

-- what was found is forgotten, unless it was that the clauses are unsatisfiable
pub forgets : (w : Carrying) (g : Summary) (n : State) (sat : SatState) (v : Verdict) →
    Links w (spaces (record g { sat_state = sat })) (with_verdict v n) →
    Links w (spaces (record g { sat_state = assumed_state sat })) (with_verdict (assumed_verdict v) n)
forgets w g n verdict.Unknown Unknown k = k
forgets w g n verdict.Sat (Sat a) k = forgotten w (spaces (record g { sat_state = verdict.Sat })) (with_verdict (Sat a) n) k
    (λ e. let z : Sat a ≡ Unsat = e in cc)
forgets w g n verdict.Unsat Unsat k = k
forgets w g n verdict.UnsatUnderAssumptions (UnsatUnderAssumptions core) k =
    forgotten w (spaces (record g { sat_state = verdict.UnsatUnderAssumptions })) (with_verdict (UnsatUnderAssumptions core) n) k
    (λ e. let z : UnsatUnderAssumptions core ≡ Unsat = e in cc)
forgets w g n sat v k = absurd k.verdict

no-model-left : (s : View) (core : List Literal) (sat : SatState) (a : Assignment) → outcome_of s core (assumed_state sat) ≡ outcome.Sat a → ⊥
no-model-left s core verdict.Unknown a e = let z : outcome.Unknown ≡ outcome.Sat a = e in cc
no-model-left s core verdict.Sat a e = let z : outcome.Unknown ≡ outcome.Sat a = e in cc
no-model-left s core verdict.Unsat a e = let z : outcome.Unsat ≡ outcome.Sat a = e in cc
no-model-left s core verdict.UnsatUnderAssumptions a e = let z : outcome.Unknown ≡ outcome.Sat a = e in cc

-- no core is left either
no-core-left : (s : View) (core core' : List Literal) (sat : SatState) → outcome_of s core' (assumed_state sat) ≡ outcome_of s core (assumed_state sat)
no-core-left s core core' verdict.Unknown = refl
no-core-left s core core' verdict.Sat = refl
no-core-left s core core' verdict.Unsat = refl
no-core-left s core core' verdict.UnsatUnderAssumptions = refl

forgotten-cases : (v : Verdict) → (assumed_verdict v ≡ Unknown) ⊎ (assumed_verdict v ≡ Unsat)
forgotten-cases Unknown = inl refl
forgotten-cases (Sat a) = inl refl
forgotten-cases Unsat = inr refl
forgotten-cases (UnsatUnderAssumptions core) = inl refl

-- 3. The list.

-- What assuming a list did, whose literals have solver variables, step by step.
pub record Assuming (g : Summary) (list : List Literal) (cleared marked : Tables) (new : View) (parts : AssumptionParts) (after : SatState) : Type 0 where
  pub all : (l : Literal) → l ∈ list → HasSolver g.tables (variable_of l)
  pub are_cleared : AreMarked g.assumed.user false g.tables cleared
  pub are_marked : AreMarked list true cleared marked
  pub seen : search_of new ≡ search_of g.search
  pub same_count : length new.values ≡ length g.search.values
  pub parts_are : parts ≡ newly_assumed list (map (carry (chain (at g.tables.users.forward) (at g.tables.solvers.forward))) list)
  pub verdict : after ≡ assumed_state g.sat_state

-- a proof logs it over global variables
pub list-logged : (g : Summary) (n : State) (list : List Literal) (cleared marked : Tables) (new : View) (parts : AssumptionParts)
    (after : SatState) → Assuming g list cleared marked new parts after →
    SpacesFit (spaces g) (count (join_counted n.counted (map variable_of (map (through_names n.naming) list))) n) →
    map (carry n.variables) (map (through_names n.naming) list) ≡ map (carry (at g.tables.solvers.backward))
    (map (carry (chain (at g.tables.users.forward) (at g.tables.solvers.forward))) list)
list-logged g n list cleared marked new parts after t (w, k) =
    list-carried w (spaces g) (count (join_counted n.counted (map variable_of (map (through_names n.naming) list))) n) list k t.all

-- the identities of the list are counted before it is assumed
pub list-assumed : (g : Summary) (n : State) (list : List Literal) (cleared marked : Tables) (new : View) (parts : AssumptionParts)
    (after : SatState) → Assuming g list cleared marked new parts after →
    SpacesFit (spaces g) (count (join_counted n.counted (map variable_of (map (through_names n.naming) list))) n) →
    SpacesFit (spaces_of marked g.checker new parts after)
    (with_entries (n.logged ++ Assumes (map (through_names n.naming) list) ∷ []) (with_assumptions (map (through_names n.naming) list) n))
list-assumed g n list cleared marked new parts after t (w1, k1) =
    let n1 = count (join_counted n.counted (map variable_of (map (through_names n.naming) list))) n in
    let g2 : Summary = record g { sat_state = assumed_state g.sat_state } in
    let k5 = forgets w1 g n1 g.sat_state n.verdict k1 in
    let p5 = spaces g2 in
    let a = t.are_cleared in
    let b = t.are_marked in
    let users = b.users ∙ a.users in
    let solvers = b.solvers ∙ a.solvers in
    let marks : IsMarkedFor p5 list (data_at marked.kept) = record {
      rest = λ x. b.rest x ∙ ap (λ (d : VarData). record d { assumed = (data_at marked.kept x).assumed }) (a.rest x);
      fit = marks-fit g.tables cleared marked g.assumed.user list k5.marks a b;
    } in
    let k6 = assumed w1 p5 (with_verdict (assumed_verdict n.verdict) n1) list k5 t.all (data_at marked.kept) marks [] (forgotten-cases n.verdict) in
    let p6 = record p5 { kept = data_at marked.kept; assumptions = list; core = []; working = map (solver_literal p5) list } in
    let g6 : Summary = record g { tables = marked; assumed = parts; sat_state = assumed_state g.sat_state } in
    let s6 = with_entries (n.logged ++ Assumes (map (through_names n.naming) list) ∷ []) (with_assumptions (map (through_names n.naming) list) n) in
    let f6 : SpacesFit (spaces g6) s6 = spaces-same p6 (spaces g6) s6 (record {
      maps = record {
        global_from_user = λ u. ap (λ m. at m.forward u) users;
        user_from_global = λ y. ap (λ m. at m.backward y) users;
        watermark = ap (λ m. length m.forward) users;
        globals = let c = b.count in let d = a.count in omega (arith, c, d);
        solver_from_global = λ y. ap (λ m. at m.forward y) solvers;
        global_from_solver = λ u. ap (λ m. at m.backward u) solvers;
        kept = λ y. refl;
        model = λ c e y. absurd (no-model-left g.search g.assumed.failed_core g.sat_state c e);
      };
      assumptions = ap (λ (x : AssumptionParts). x.user) t.parts_are;
      core = ap (λ (x : AssumptionParts). x.user_core) t.parts_are;
      working = ap (λ (x : AssumptionParts). x.working) t.parts_are;
      search = refl;
      outcome = no-core-left g.search g.assumed.failed_core parts.failed_core g.sat_state;
      var_count = refl;
      checker = refl;
    }) (w1, k6) in
    let few = f6.1.few in
    subst (λ x. SpacesFit (spaces_of marked g.checker new parts x) s6) (sym t.verdict)
    (raised g6 s6 new f6 (no-model-left g.search parts.failed_core g.sat_state) t.seen (omega (arith, t.same_count, few)))
