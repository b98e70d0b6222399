-- A search comes on: by steps, by propagation between them, and as variables leave it.
use Rattle.std.proofs.Common.{◌≡◌, List, Result, Ok, Err, MatchResult, true, false, inl, inr, ⊎_elim, sym, subst, ◌≢◌, ℕ, zero, suc, ◌+◌, ◌-◌, ◌*◌, ◌^◌, ◌<◌, ◌≤◌, ◌↔◌, Bool, not, ◌||◌, nat_eq, eq-eqb, if◌then◌else◌, Some, None, [], ◌∷◌, ◌++◌, length, map, get_or, replicate, refl, ap, ◌∙◌, arith, append_assoc}
use Rattle.std.specs.Result.{IsErr}
use Rattle.std.specs.Prelude.{cond}
use Rattle.std.specs.List.{filter}
use Rattle.std.proofs.lemmas.List.{length-map, length-append, length-replicate, replicate-append-replicate}
use Rattle.varisat_theory.specs.promises.Derivations.{Line}
use Rattle.varisat_names.specs.promises.Variables.{Tables}
use Rattle.varisat_search.specs.declared.context.Context.{Context}
use Rattle.varisat_search.specs.Contexts.{view, IsNotUnsat, IsReady}
use Rattle.varisat_search.specs.DueReductions.{InprocessesIfDue, BeginsStep}
use Rattle.varisat_search.specs.RootSimplified.{FixesByLearning, GoesOnByLines, IsRootSimplified}
use Rattle.varisat_search.proofs.stepping.DueReductions.{as-inprocessed}
use Rattle.varisat_search.proofs.stepping.FixedLiterals.{begun-fixed}
use Rattle.varisat_search.proofs.stepping.RestartSteps.{begun-view}
use Rattle.varisat_solver.specs.promises.Detaching.{AreOverAssumed, DetachesInTime}
use Rattle.varisat_solver.specs.inside.Detached.{HasDetached}
use Rattle.varisat_theory.specs.promises.Membership.{◌∈◌, IsDistinct}
use Rattle.varisat_theory.specs.promises.Literals.{Literal, variable_of}
use Rattle.varisat_theory.proofs.clauses.Members.{∈-append_cases, distinct_append}
use Rattle.varisat_theory.specs.promises.CallBounds.{AreFew}
use Rattle.varisat_theory.proofs.bounds.CallBounds.{few_none}
use Rattle.varisat_theory.specs.inside.Rank.{rank, with_units}
use Rattle.varisat_theory.proofs.clauses.Places.{place_in}
use Rattle.varisat_theory.proofs.bounds.Ranks.{rank_grows, rank_steady, rank_behind_units}
use Rattle.varisat_theory.proofs.journals.Renaming.{map-∈}
use Rattle.varisat_literals.specs.promises.Numbers.{polarity_of}
use Rattle.varisat_theory.specs.inside.Luby.{luby, saturated}
use Rattle.varisat_theory.proofs.bounds.RestartPoints.{length_with_units}
use Rattle.varisat_schedule.specs.Plans.{Plan, IsPlan, first_plan, step_begun, next_plan, PlannedCall}
use Rattle.varisat_schedule.specs.CallSteps.{steps_since, AllowsRestart, HasComeTo, HasComeWithout}
use Rattle.varisat_schedule.proofs.CallSteps.{goes-on}
use Rattle.varisat_schedule.proofs.StepsWithout.{begins-anywhere, is-short-without}
use Rattle.varisat_prop.specs.Leaving.{leaves, staying}
use Rattle.varisat_prop.specs.View.{View, WellFormed, node_of, is_clause, is_implied, level_of, kinds}
use Rattle.varisat_prop.proofs.pairs.DistinctPlaces.{distinct-below}
use Rattle.varisat_prop.proofs.views.Leaving.{cleared-length}
use Rattle.varisat_prop.proofs.pairs.SimplifiedPairs.{∈-filter}
use Rattle.varisat_prop.proofs.trails.TrailValues.{variables-distinct}
use Rattle.varisat_vsids.specs.Activities.{Activities}
use Rattle.varisat_names.specs.promises.Settings.{Settings}
use Rattle.varisat_search.specs.Decisions.{HasActivities, IsDecidable, SameDecidable}
use Rattle.varisat_search.specs.Forgotten.{IsWithout}
use Rattle.varisat_search.specs.Progress.{RaisesRank}
use Rattle.varisat_search.proofs.variables.ForgottenViews.{distinct-left}
use Rattle.varisat_solver.specs.inside.SinceChange.{call_from, HasComeSince, HasBegunWithout, HasBegunSince, GoesOnWithin, BeginsWithin, CountsSince}

-- Variables leave in time, step by step.

-- a step begins
pub leaves-begun : {A : Type 0} {are : List Line → Type 0} (t u : Tables) (x z : Context A) → IsReady x → BeginsStep are x z → u ≡ t →
    DetachesInTime t (view x) → DetachesInTime u (view z)
leaves-begun t u x z r b e h =
    let (fixed, unpropagated) = begun-fixed x z r b in
    subst (λ (m : Tables). DetachesInTime m (view z)) (sym e)
    (⊎_elim (λ n. ⊎_elim (λ same. inl (subst (AreOverAssumed t) (sym same) n)) inr fixed) (λ k. inr (unpropagated k)) h)

-- and makes its conflict step
pub leaves-stepped : {A : Type 0} (t u : Tables) (x y : Context A) → u ≡ t → FixesByLearning x y → HasDetached t (view x) →
    IsNotUnsat y → DetachesInTime u (view y)
leaves-stepped t u x y e f (inl (none, calm)) n =
    subst (λ (m : Tables). DetachesInTime m (view y)) (sym e) (⊎_elim (λ same. inl (subst (AreOverAssumed t) (sym same) none)) inr (f.keeps calm n))
leaves-stepped t u x y e f (inr (undecided, (conflict, is_false))) n = absurd (n (f.refutes undecided conflict is_false))

-- what an error is of
pub failed-there : {X E : Type 0} (r : Result X E) (A : X → Type 0) (B : E → Type 0) → IsErr r → MatchResult r A B → (e : E) × B e
failed-there (Ok x) A B h m = absurd (let z : false ≡ true = h in cc)
failed-there (Err e) A B h m = (e, m)

-- 1. Variables that may be decided.

-- an entry that is not the one for want of one
within : {X : Type 0} (xs : List X) (v : ℕ) (d : X) → get_or xs v d ≢ d → v < length xs
within [] v d n = absurd (n refl)
within (x ∷ xs) zero d n = omega arith
within (x ∷ xs) (suc v) d n = let h = within xs v d n in omega (arith, h)

decidable-inside : (s : View) (a : Activities) (v : ℕ) → HasActivities s a → IsDecidable s a v → v < length s.values
decidable-inside s a v h d =
    ⊎_elim
    (λ n. within s.values v None n)
    (λ e. let i = within a.available v false (λ z. let q : true ≡ false = sym e ∙ z in cc) in let k = h.available in omega (arith, i, k))
    d

-- a literal of the trail has a value
on-value : (s : View) → WellFormed s → (l : Literal) → l ∈ s.trail → get_or s.values (variable_of l) None ≡ Some (polarity_of l)
on-value s w l h = let (k, a, e) = place_in l s.trail 0 h in subst (λ m. get_or s.values (variable_of m) None ≡ Some (polarity_of m)) e (w.is_true k a)

trail-decidable : (s : View) (a : Activities) → WellFormed s → (l : Literal) → l ∈ s.trail → IsDecidable s a (variable_of l)
trail-decidable s a w l h = inl (λ z. let q : Some (polarity_of l) ≡ None = sym (on-value s w l h) ∙ z in cc)

-- 2. How long the trail is.

kinds-length : (s : View) → length (kinds s) ≡ length s.trail
kinds-length s = length-map s.trail (λ l. is_implied (node_of s l))

-- with the units that left it
pub trail-room : {A : Type 0} (c : PlannedCall) (units : ℕ) (x : Context A) → IsReady x →
    ((vs : List ℕ) → IsDistinct vs → ((v : ℕ) → v ∈ vs → IsDecidable (view x) x.vsids v) → units + length vs ≤ c.variables) →
    units + length (kinds (view x)) ≤ c.variables
trail-room c units x r room =
    let s = view x in
    let b = room (map variable_of s.trail) (variables-distinct s r.well)
    (λ v h. let (l, i, e) = map-∈ variable_of v s.trail h in subst (IsDecidable s x.vsids) (sym e) (trail-decidable s x.vsids r.well l i)) in
    let n = length-map s.trail variable_of in
    let k = kinds-length s in
    omega (arith, b, n, k)

-- 3. Where it begins.

pub come-now : {A : Type 0} (x : Context A) → IsReady x → IsPlan x.schedule → HasComeSince (call_from x) x
come-now x r p =
    let room : (vs : List ℕ) → IsDistinct vs → ((v : ℕ) → v ∈ vs → IsDecidable (view x) x.vsids v) →
    0 + length vs ≤ length x.assignment.current =
    (λ vs d h. let b = distinct-below vs (length x.assignment.current) d
    (λ v i. decidable-inside (view x) x.vsids v r.decidable.entries (h v i)) in omega (arith, b)) in
    record {
      units = 0;
      come = begins-anywhere (call_from x) (kinds (view x)) p (let b = trail-room (call_from x) 0 x r room in omega (arith, b));
      scale = refl;
      variables = refl;
      room = room;
    }

-- 4. How it goes on.

-- as many may be decided where the same ones may
room-same : {A : Type 0} (x y : Context A) (n m : ℕ) → SameDecidable (view x) x.vsids (view y) y.vsids →
    ((vs : List ℕ) → IsDistinct vs → ((v : ℕ) → v ∈ vs → IsDecidable (view x) x.vsids v) → n + length vs ≤ m) → (vs : List ℕ) → IsDistinct vs →
    ((v : ℕ) → v ∈ vs → IsDecidable (view y) y.vsids v) → n + length vs ≤ m
room-same x y n m g room vs d h = room vs d (λ v i. (g v).1 (h v i))

-- as a step begins
begun-without : (c : PlannedCall) (q : Plan) (units : ℕ) (before trail : List Bool) → 0 < c.scale → q.steps < 2 ^ 64 - 1 →
    ((AllowsRestart c.variables q → ⊥) → trail ≡ before) → HasComeWithout c q units before → HasBegunWithout c q units trail
begun-without c q units before trail h l same r after rises short =
    let m = c.variables in
    let first = with_units units before in
    let last = with_units units after in
    let a : length first ≤ m = (let n = length_with_units units before in let k = r.short in omega (arith, n, k)) in
    let b : length last ≤ m = (let n = length_with_units units after in omega (arith, n, short)) in
    let up = rises m (omega arith) in
    record {
      come = goes-on c q first last h l a (record {
        rises = λ d n k. rank_steady m n first last a b k (subst (λ ks. rank m (with_units units ks) < rank m last) (same d) up);
        restarts = λ d n k. rank_steady m n [] last (omega arith) b (omega arith) (omega (arith, up));
      }) r.come;
      short = short;
    }

-- as the root level is simplified inside of it
pub come-settled : {A : Type 0} (are : List Line → Type 0) (x y : Context A) → GoesOnByLines are x y → y.solver_config ≡ x.solver_config → GoesOnWithin x y
come-settled are x y g f c q k =
    let (more, e) = g.kinds_more in
    let first = with_units k.units (kinds (view x)) in
    record {
      units = k.units;
      begun = λ after rises short.
          k.begun after
          (λ n v.
          let a = rises n v in
          let b = rank_grows n first more in
          let same : rank n (with_units k.units (kinds (view y))) ≡ rank n (first ++ more) =
          ap (rank n) (ap (with_units k.units) e ∙ sym (append_assoc (replicate k.units true) (kinds (view x)) more)) in
          omega (arith, a, b, same))
          short;
      scale = k.scale ∙ sym (ap (λ (z : Settings). z.luby_restart_interval_scale) f);
      variables = k.variables ∙ sym g.extends.count;
      room = room-same x y k.units c.variables g.decidable k.room;
    }

-- A step begins, and inprocessing goes on inside of it.
pub come-begun : {A : Type 0} (are : List Line → Type 0) (x z : Context A) → IsReady x → 0 < x.solver_config.luby_restart_interval_scale →
    x.schedule.steps < 2 ^ 64 - 1 → BeginsStep are x z → z.solver_config ≡ x.solver_config → BeginsWithin x z
come-begun {A} are x z r h l b f c k =
    let t = b.begun in
    let positive : 0 < c.scale = let e = k.scale in omega (arith, h, e) in
    let config : t.solver_config ≡ x.solver_config = ap (λ (y : Context A). y.solver_config) b.begins in
    let count = (begun-view x.schedule x.assumptions.levels (view x) (view t) r.well r.settled b.restarts).count in
    come-settled (as-inprocessed InprocessesIfDue are t z) t z b.inprocesses.goes_on (f ∙ sym config) c x.schedule
    (record {
      units = k.units;
      begun = begun-without c x.schedule k.units (kinds (view x)) (kinds (view t)) positive l (λ d. ap kinds (b.restarts.may.stays (subst (λ n. AllowsRestart n x.schedule → ⊥) k.variables d))) k.come;
      scale = k.scale ∙ sym (ap (λ (s : Settings). s.luby_restart_interval_scale) config);
      variables = k.variables ∙ sym count;
      room = room-same x t k.units c.variables b.decidable k.room;
    })

-- and as it ends

-- no step is counted as it begins
pub steps-begun : (scale : ℕ) (p : Plan) → (step_begun scale p).steps ≡ p.steps
steps-begun scale p = go (nat_eq p.steps p.next_restart)
    (record { steps = p.steps; next_restart = saturated (p.next_restart + saturated (scale * luby p.next_term)); next_term = suc p.next_term }) refl
  where
    go : (b : Bool) (q : Plan) → q.steps ≡ p.steps → (if b then q else p).steps ≡ p.steps
    go true q e = e
    go false q e = refl

pub step-ended : (scale : ℕ) (p q r : Plan) → q ≡ step_begun scale p → r ≡ record q { steps = suc q.steps } → r ≡ next_plan scale p
step-ended scale p q r e f =
    f ∙ ap (λ (z : Plan). record z { steps = suc z.steps }) e ∙ ap (λ n. record (step_begun scale p) { steps = suc n }) (steps-begun scale p)

pub come-ended : {A : Type 0} (c : PlannedCall) (q : Plan) (y z : Context A) → IsReady y → IsReady z → RaisesRank y z →
    z.schedule ≡ next_plan y.solver_config.luby_restart_interval_scale q → z.solver_config ≡ y.solver_config →
    length z.assignment.current ≡ length y.assignment.current → SameDecidable (view y) y.vsids (view z) z.vsids → HasBegunSince c q y → HasComeSince c z
come-ended c q y z ry rz up e f n g k =
    let room = room-same y z k.units c.variables g k.room in
    let here = trail-room c k.units y ry k.room in
    let flags = kinds-length (view y) in
    record {
      units = k.units;
      come = subst (λ p. HasComeWithout c p k.units (kinds (view z))) (sym (e ∙ ap (λ s. next_plan s q) (sym k.scale)))
          (k.begun (kinds (view z)) (λ m v. rank_behind_units k.units m (kinds (view y)) (kinds (view z)) (λ j b. up j (omega (arith, b, flags)))
          (omega (arith, here, v))) (trail-room c k.units z rz room));
      scale = k.scale ∙ sym (ap (λ (s : Settings). s.luby_restart_interval_scale) f);
      variables = k.variables ∙ sym n;
      room = room;
    }

-- 5. Variables leave.

-- at level 0 each literal counts as implied
all-implied : (s : View) → WellFormed s → s.decisions ≡ [] → kinds s ≡ replicate (length s.trail) true
all-implied s w d = go s.trail (λ l h. h)
  where
    level-none : (l : Literal) → l ∈ s.trail → level_of s l ≡ 0
    level-none l h =
        let (k, a, e) = place_in l s.trail 0 h in
        let b = w.levels_to k a in
        let none = ap (λ (xs : List ℕ). length xs) d in
        subst (λ m. level_of s m ≡ 0) e (omega (arith, b, none))

    implied : (l : Literal) → l ∈ s.trail → is_implied (node_of s l) ≡ true
    implied l h = one (is_clause (node_of s l).reason) (level_of s l) (level-none l h)
      where
        one : (b : Bool) (n : ℕ) → n ≡ 0 → b || nat_eq n 0 ≡ true
        one true n e = refl
        one false n e = eq-eqb n 0 e

    go : (ls : List Literal) → ((l : Literal) → l ∈ ls → l ∈ s.trail) → map (λ l. is_implied (node_of s l)) ls ≡ replicate (length ls) true
    go [] h = refl
    go (l ∷ ls) h = ap (λ b. b ∷ map (λ l. is_implied (node_of s l)) ls) (implied l (h l (inl refl))) ∙ ap (λ bs. true ∷ bs) (go ls (λ m i. h m (inr i)))

-- the literals that leave
abbrev leaving : List Bool → List Literal → List Literal
leaving gone ls = filter (λ l. leaves gone (variable_of l)) ls

-- with those that stay they are all
split-length : (gone : List Bool) (ls : List Literal) → length ls ≡ length (leaving gone ls) + length (staying gone ls)
split-length gone [] = refl
split-length gone (l ∷ ls) = go (leaves gone (variable_of l)) (split-length gone ls)
  where
    go : (b : Bool) → length ls ≡ length (leaving gone ls) + length (staying gone ls) →
        suc (length ls) ≡ length (cond b (l ∷ leaving gone ls) (leaving gone ls)) + length (cond (not b) (l ∷ staying gone ls) (staying gone ls))
    go true e = omega (arith, e)
    go false e = omega (arith, e)

-- units that leave stand in front of the trail
in-front : (units left : ℕ) (trail : List Bool) → with_units units (replicate left true ++ trail) ≡ with_units (units + left) trail
in-front units left trail = sym (append_assoc (replicate units true) (replicate left true) trail)
    ∙ ap (λ ks. ks ++ trail) (replicate-append-replicate units left true)

units-left : (c : PlannedCall) (q : Plan) (units left : ℕ) (trail : List Bool) → HasBegunWithout c q units (replicate left true ++ trail) →
    HasBegunWithout c q (units + left) trail
units-left c q units left trail begun after rises short =
    let front = replicate left true in
    let long = length-append front after in
    let many = length-replicate left true in
    let r = begun (front ++ after)
    (λ n v.
    let up = rises n v in
    let a = ap (rank n) (in-front units left trail) in
    let b = ap (rank n) (in-front units left after) in
    omega (arith, up, a, b))
    (omega (arith, short, long, many)) in
    record { come = subst (HasComeTo c (next_plan c.scale q)) (in-front units left after) r.come; short = short }

pub come-dropped : {A : Type 0} (gone : List Bool) (x y : Context A) → IsReady x → IsRootSimplified (view x) → IsReady y →
    IsWithout gone (view x) (view y) → ((v : ℕ) → IsDecidable (view y) y.vsids v ↔ (IsDecidable (view x) x.vsids v × (leaves gone v ≡ false))) →
    y.solver_config ≡ x.solver_config → GoesOnWithin x y
come-dropped gone x y r d q w dec f c p k =
    let s = view x in
    let t = view y in
    let going = leaving gone s.trail in
    let left = length going in
    let stay = length (staying gone s.trail) in
    let trail : t.trail ≡ staying gone s.trail = ap (λ (u : View). u.trail) w.rest in
    let decisions : t.decisions ≡ [] = ap (λ (u : View). u.decisions) w.rest ∙ d.undecided in
    let was : kinds s ≡ replicate (left + stay) true = all-implied s r.well d.undecided ∙ ap (λ n. replicate n true) (split-length gone s.trail) in
    let is : kinds t ≡ replicate stay true = all-implied t q.well decisions ∙ ap (λ (ls : List Literal). replicate (length ls) true) trail in
    record {
      units = k.units + left;
      begun = units-left c p k.units left (kinds t)
          (subst (HasBegunWithout c p k.units) (was ∙ sym (replicate-append-replicate left stay true) ∙ ap (λ ks. replicate left true ++ ks) (sym is)) k.begun);
      scale = k.scale ∙ sym (ap (λ (z : Settings). z.luby_restart_interval_scale) f);
      variables = k.variables ∙ sym (ap (λ (u : View). length u.values) w.rest ∙ cleared-length gone None s.values);
      room = λ vs dv h.
          let gs = map variable_of going in
          let distinct = distinct_append vs gs dv (distinct-left (λ l. leaves gone (variable_of l)) s.trail (variables-distinct s r.well)) (λ v i j.
          let (l, m, z) = map-∈ variable_of v going j in
          let (on, o) = ∈-filter (λ l. leaves gone (variable_of l)) s.trail l m in
          let b : true ≡ false = sym o ∙ ap (leaves gone) (sym z) ∙ ((dec v).0 (h v i)).1 in
          cc) in
          let b = k.room (vs ++ gs) distinct (λ v i.
          ⊎_elim
          (λ j. ((dec v).0 (h v j)).0)
          (λ j.
          let (l, m, z) = map-∈ variable_of v going j in
          let (on, o) = ∈-filter (λ l. leaves gone (variable_of l)) s.trail l m in
          subst (IsDecidable s x.vsids) (sym z) (trail-decidable s x.vsids r.well l on))
          (∈-append_cases v vs gs i)) in
          let n = length-append vs gs in
          let m = length-map going variable_of in
          omega (arith, b, n, m);
    }

-- 6. So the steps are few.
pub few-since : {A : Type 0} (c : PlannedCall) (x : Context A) (n : ℕ) → 0 < x.solver_config.luby_restart_interval_scale →
    length x.assignment.current ≤ n → HasComeSince c x → AreFew n (suc (steps_since c.begins x.schedule))
few-since c x n h v k =
    is-short-without c x.schedule k.units (kinds (view x)) n (let z = k.scale in omega (arith, h, z)) (let z = k.variables in omega (arith, v, z)) k.come

-- 7. What a solver keeps of the steps since its last change.

-- none was made yet
pub since-now : {A : Type 0} (changed_at : ℕ) (x : Context A) → changed_at ≡ x.schedule.steps → IsReady x → IsPlan x.schedule → CountsSince changed_at x
since-now changed_at x e r p = record {
  low = omega (arith, e);
  few = λ n h. let z : x.schedule.steps - changed_at ≡ 0 = omega (arith, e) in subst (AreFew n) (sym z) (few_none n);
  come = λ u. (call_from x, sym e, come-now x r p);
}
