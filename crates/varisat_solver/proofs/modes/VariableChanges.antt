-- What the calls keep of the tables that set the mode of a variable, hide it, and bring hidden ones back.
use Rattle.std.proofs.Common.{◌≡◌, ◌≢◌, ◌⊎◌, inl, inr, ℕ, zero, suc, ◌+◌, ◌-◌, ◌<◌, ◌≤◌, nat_lt, if◌then◌else◌, Bool, true, false, Option, Some, None, List, [], ◌∷◌, ⊎_elim, length, sym, ap, ◌∙◌, subst, refl, arith, rules}
use Rattle.std.proofs.lemmas.Bool.{lt-ltb, cases_lt, false_from_ne_true}
use Rattle.varisat_theory.specs.promises.Membership.{◌∈◌}
use Rattle.varisat_theory.proofs.clauses.Members.{equal_or_not}
use Rattle.varisat_literals.specs.promises.Numbers.{variable_limit}
use Rattle.varisat_names.specs.promises.Maps.{updated}
use Rattle.varisat_names.specs.promises.VarMap.{at, IsLeastUnmapped}
use Rattle.varisat_names.specs.promises.VarData.{fresh, data_at}
use Rattle.varisat_names.specs.promises.Variables.{Tables, AreLinked, IsGiven, AreNextGiven, IsNamed, InUse, Free, Above, IsChangedTo, IsHidden, unless_unused, IsRetiredIfUnused, IsShown}
use Rattle.varisat_names.specs.declared.variables.data.VarData.{VarData}
use Rattle.varisat_names.specs.declared.variables.data.SamplingMode.{SamplingMode}
use Rattle.varisat_names.specs.declared.variables.data.SamplingMode.TheVariants as sampling
use Rattle.varisat_names.proofs.Maps.{updated-at, updated-other, updated-all, joined, is-some}
use Rattle.varisat_names.proofs.VarMap.{at-inside}
use Rattle.varisat_names.proofs.Tables.{live-inside, named-inside}
use Rattle.varisat_names.proofs.Linked.{join-users, keep-live, same-tables}
use Rattle.varisat_theory.specs.promises.Journals.{Entry}
use Rattle.varisat_proof.specs.promises.Proving.{IsLogged}
use Rattle.varisat_tracer.specs.inside.Logged.{logged-none}
use Rattle.varisat_tracer.specs.inside.Tracing.{TracerState, retires_if_deleted}
use Rattle.varisat_search.specs.declared.state.SatState.{SatState}
use Rattle.varisat_search.specs.declared.state.SatState.TheVariants as verdict
use Rattle.varisat_solver.specs.promises.Names.{Naming, bring, bring_next, bring_if_free, name_one}
use Rattle.varisat_solver.specs.inside.Accepting.{AreBounded, naming_of}
use Rattle.varisat_names.specs.inside.NamesAndModes.{MovesName, SetsModeOf, LosesName, GetsName, OtherwiseSet, AreShownInTurn}
use Rattle.varisat_solver.specs.inside.VariableChanges.{IsMarkedAssumed, CanBeChanged, StaysValid, IsNamedAs, SetsNamedMode, RetiresIfUnused, HidesNamed}
use Rattle.varisat_search.proofs.variables.TakenSolvers.{few}
use Rattle.varisat_solver.proofs.modes.VariableMoves.{given-most}
use Rattle.varisat_solver.proofs.accepting.NamesComing.{next-made}
use Rattle.varisat_search.proofs.variables.KeptNames.{KeepsNames, given-keeps, next-keeps}
use Rattle.varisat_prop.proofs.pairs.DistinctPlaces.{below, length-below, in-below}

-- 1. A name comes into use.

-- variables with a name that are marked as assumed keep both
module _ (old new : Tables) (l : AreLinked old) (k : KeepsNames old new) where
  pub still-named : (u x : ℕ) → at old.users.forward u ≡ Some x → IsMarkedAssumed old x → (at new.users.forward u ≡ Some x) × IsMarkedAssumed new x
  still-named u x e m = (k.named u x e, ap (λ d. d.assumed) (k.live x (l.named x u (l.users.there u x e))) ∙ m)

  pub still-names : (x u : ℕ) → at old.users.backward x ≡ Some u → IsMarkedAssumed old x → (at new.users.backward x ≡ Some u) × IsMarkedAssumed new x
  still-names x u e m = let live = l.named x u e in (k.back x u e live, ap (λ d. d.assumed) (k.live x live) ∙ m)

-- how many names and global variables there are after k names that came into use in turn
pub next-count : (k : ℕ) (old new : Tables) → AreNextGiven k old new → (length new.users.forward ≡ length old.users.forward + k)
    × (length new.kept ≤ length old.kept + k)
next-count zero old new e = let a = ap (λ t. length t.users.forward) e in let b = ap (λ t. length t.kept) e in (omega (arith, a), omega (arith, b))
next-count (suc k) old new (mid, x, g, rest) =
    let a = g.users.forward.watermark in
    let b = given-most old mid (length old.users.forward) x g in
    let (c, d) = next-count k mid new rest in
    (omega (arith, a, c), omega (arith, b, d))

-- the last of them leads to a new variable
pub next-last : (k : ℕ) (old new : Tables) → AreNextGiven (suc k) old new → (x : ℕ) × (at new.users.forward (length old.users.forward + k) ≡ Some x)
    × (data_at new.kept x ≡ fresh)
next-last zero old new (mid, x, g, e) =
    let u = length old.users.forward in
    subst (λ t. (x : ℕ) × (at t.users.forward (u + 0) ≡ Some x) × (data_at t.kept x ≡ fresh)) (sym e) (
      x,
      ap (at mid.users.forward) (let z : u + 0 ≡ u = omega arith in z) ∙ g.users.forward.at_each u
          ∙ updated-at (at old.users.forward) u (Some x),
      g.kept.at_each x ∙ updated-at (data_at old.kept) x fresh,
    )
next-last (suc k) old new (mid, x, g, rest) =
    let a = g.users.forward.watermark in
    let z : length mid.users.forward + k ≡ length old.users.forward + suc k = omega (arith, a) in
    subst (λ n. (x : ℕ) × (at new.users.forward n ≡ Some x) × (data_at new.kept x ≡ fresh)) z (next-last k mid new rest)

-- 2. The room for it.

pub made-above : (u : ℕ) (m : Naming) → m.watermark ≤ u → (name_one u m).made ≡ m.made + (u + 1 - m.watermark)
made-above u m h =
    ap (λ b. (if b then bring_if_free u (m.names u) m else bring_next (suc u - m.watermark) m).made) (not-below u m.watermark h)
    ∙ next-made (suc u - m.watermark) m ∙ ap (λ k. m.made + k) (let z : suc u - m.watermark ≡ u + 1 - m.watermark = omega arith in z)
  where
    not-below : (a b : ℕ) → b ≤ a → nat_lt a b ≡ false
    not-below a b h = search (rules, h)

pub made-free : (u : ℕ) (m : Naming) → u < m.watermark → m.names u ≡ None → (name_one u m).made ≡ m.made + 1
made-free u m h e = ap (λ b. (if b then bring_if_free u (m.names u) m else bring_next (suc u - m.watermark) m).made) (lt-ltb u m.watermark h)
    ∙ ap (λ o. (bring_if_free u o m).made) e

-- 3. A name was named.

fresh-as : (u x : ℕ) (old new : Tables) → at new.users.forward u ≡ Some x → data_at new.kept x ≡ fresh → IsNamed u old new → StaysValid old new →
    IsNamedAs u old new x
fresh-as u x old new e f n s = record { named = n; leads = e; live = ap (λ d. d.deleted) f; unassumed = ap (λ d. d.assumed) f; stays = s }

given-as : (u x : ℕ) (old new : Tables) → AreLinked old → CanBeChanged u old → u < length old.users.forward → at old.users.forward u ≡ None →
    IsGiven old new u x → IsNamedAs u old new x
given-as u x old new l c h free g =
    let a = g.users.forward.watermark in
    let b = given-most old new u x g in
    let k = given-keeps old new u x free g in
    let m = made-free u (naming_of old) h free in
    let w = c.bounded.users in
    let room : length old.kept + 1 ≤ variable_limit = ⊎_elim (λ q. absurd (c.room (subst (λ n. variable_limit < n) (sym m) q))) (λ q. q)
    (cases_lt variable_limit (length old.kept + 1)) in
    fresh-as u x old new (g.users.forward.at_each u ∙ updated-at (at old.users.forward) u (Some x))
    (g.kept.at_each x ∙ updated-at (data_at old.kept) x fresh) (Free x h free g) (record {
      bounded = record {
        users = omega (arith, a, h, w);
        globals = omega (arith, b, room);
        solvers =
            subst (λ m. length m.backward ≤ variable_limit) (sym g.solvers) c.bounded.solvers;
      };
      solvers = g.solvers;
      named = still-named old new l k;
      names = still-names old new l k;
    })

above-as : (u : ℕ) (old new : Tables) → AreLinked old → CanBeChanged u old → length old.users.forward ≤ u →
    AreNextGiven (u + 1 - length old.users.forward) old new → (x : ℕ) × IsNamedAs u old new x
above-as u old new l c h n =
    let w = length old.users.forward in
    let k = u - w in
    let q : u + 1 - w ≡ suc k = omega (arith, h) in
    let p : w + k ≡ u = omega (arith, h) in
    let g = next-keeps (u + 1 - w) old new n in
    let (a, d) = next-count (u + 1 - w) old new n in
    let (x, e, f) = next-last k old new (subst (λ i. AreNextGiven i old new) q n) in
    let m = made-above u (naming_of old) h in
    let b = c.in_range in
    let room : length old.kept + (u + 1 - w) ≤ variable_limit = ⊎_elim (λ q. absurd (c.room (subst (λ n. variable_limit < n) (sym m) q))) (λ q. q)
    (cases_lt variable_limit (length old.kept + (u + 1 - w))) in (
      x,
      fresh-as u x old new (ap (at new.users.forward) (sym p) ∙ e) f (Above h n) (record {
        bounded = record {
          users = omega (arith, a, b, h);
          globals = omega (arith, d, room);
          solvers =
              subst (λ m. length m.backward ≤ variable_limit) (sym g.solvers) c.bounded.solvers;
        };
        solvers = g.solvers;
        named = still-named old new l g;
        names = still-names old new l g;
      }),
    )

pub stays-same : (t : Tables) → AreBounded t → StaysValid t t
stays-same t b = record { bounded = b; solvers = refl; named = λ u x e m. (e, m); names = λ x u e m. (e, m) }

pub stays-on : (old mid new : Tables) → StaysValid old mid → StaysValid mid new → StaysValid old new
stays-on old mid new a b = record {
  bounded = b.bounded;
  solvers = b.solvers ∙ a.solvers;
  named = λ u x e m. let (f, n) = a.named u x e m in b.named u x f n;
  names = λ x u e m. let (f, n) = a.names x u e m in b.names x u f n;
}

-- a name in use stands for its variable already
pub in-use-as : (u x : ℕ) (t : Tables) → AreLinked t → CanBeChanged u t → at t.users.forward u ≡ Some x → IsNamedAs u t t x
in-use-as u x t l c e = record {
  named = InUse x e refl;
  leads = e;
  live = l.named x u (l.users.there u x e);
  unassumed = false_from_ne_true (data_at t.kept x).assumed (λ m. c.unassumed (x, e, m));
  stays = stays-same t c.bounded;
}

pub named-as : (u : ℕ) (old new : Tables) → AreLinked old → CanBeChanged u old → IsNamed u old new → (x : ℕ) × IsNamedAs u old new x
named-as u old new l c (InUse x e same) = (x, subst (λ t. IsNamedAs u old t x) (sym same) (in-use-as u x old l c e))
named-as u old new l c (Free x h free g) = (x, given-as u x old new l c h free g)
named-as u old new l c (Above h n) = above-as u old new l c h n

-- the variable to which the name leads then
pub named-to : (u x : ℕ) (old new : Tables) → AreLinked old → CanBeChanged u old → IsNamed u old new → at new.users.forward u ≡ Some x → IsNamedAs u old new x
named-to u x old new l c n e =
    let (y, d) = named-as u old new l c n in
    let q : Some y ≡ Some x = sym d.leads ∙ e in
    let z : y ≡ x = cc in
    subst (IsNamedAs u old new) z d

-- 4. The variable of a name is changed.

-- what is kept of a live variable has another mode
pub mode-stays : (mid new : Tables) (x : ℕ) (mode : SamplingMode) → AreBounded mid → (data_at mid.kept x).deleted ≡ false →
    IsChangedTo mid new x (record (data_at mid.kept x) { sampling_mode = mode }) → StaysValid mid new
mode-stays mid new x mode b live c =
    let d : VarData = record (data_at mid.kept x) { sampling_mode = mode } in
    let users = ap (λ t. t.users) c.rest in
    let solvers = ap (λ t. t.solvers) c.rest in
    let h = live-inside mid.kept x live in
    let n = c.kept.count in
    let w = ap (λ t. length t.users.forward) c.rest in
    let v = b.users in
    let g = b.globals in
    let mark : (y : ℕ) → IsMarkedAssumed mid y → IsMarkedAssumed new y =
    (λ y m. ap (λ d. d.assumed) (c.kept.at_each y) ∙ updated-all (λ y e. (data_at mid.kept y).assumed ≡ true → e.assumed ≡ true)
    (data_at mid.kept) x d (λ m. m) y (λ _ m. m) m) in
    record {
      bounded = record {
        users = omega (arith, w, v);
        globals = omega (arith, n, h, g);
        solvers =
            subst (λ m. length m.backward ≤ variable_limit) (sym solvers) b.solvers;
      };
      solvers = solvers;
      named = λ u y e m. (ap (λ t. at t.users.forward u) c.rest ∙ e, mark y m);
      names = λ y u e m. (ap (λ t. at t.users.backward y) c.rest ∙ e, mark y m);
    }

-- the name of a variable that is not marked as assumed is free
pub hidden-stays : (mid new : Tables) (u x : ℕ) → AreLinked mid → AreBounded mid → at mid.users.forward u ≡ Some x →
    (data_at mid.kept x).assumed ≡ false → IsHidden mid new u x → StaysValid mid new
hidden-stays mid new u x l b e unmarked n =
    let d : VarData = record (data_at mid.kept x) { sampling_mode = sampling.Hide } in
    let live = l.named x u (l.users.there u x e) in
    let h = live-inside mid.kept x live in
    let i = at-inside mid.users.forward u x e in
    let c = n.kept.count in
    let w = n.users.forward.watermark in
    let v = b.users in
    let g = b.globals in
    let other : (y : ℕ) → IsMarkedAssumed mid y → y ≡ x →
    ⊥ = (λ y m q. let z : true ≡ false = sym m ∙ ap (λ y. (data_at mid.kept y).assumed) q ∙ unmarked in cc) in
    let mark : (y : ℕ) → IsMarkedAssumed mid y → IsMarkedAssumed new y =
    (λ y m. ap (λ d. d.assumed) (n.kept.at_each y ∙ updated-other (data_at mid.kept) x d y (other y m)) ∙ m) in
    record {
      bounded = record {
        users = omega (arith, w, v, i);
        globals = omega (arith, c, h, g);
        solvers =
            subst (λ m. length m.backward ≤ variable_limit) (sym n.solvers) b.solvers;
      };
      solvers = n.solvers;
      named = λ v y a m. (
        n.users.forward.at_each v ∙ updated-other (at mid.users.forward) u None v
            (λ q. let z : Some y ≡ Some x = sym a ∙ ap (at mid.users.forward) q ∙ e in other y m cc) ∙ a,
        mark y m,
      );
      names = λ y v a m. (n.users.backward.at_each y ∙ updated-other (at mid.users.backward) x None y (other y m) ∙ a, mark y m);
    }

-- The mode of the variable of a name was set.
pub set-named : (u x : ℕ) (mode : SamplingMode) (old mid new : Tables) (returned : Option ℕ) → IsNamedAs u old mid x → AreLinked mid →
    SetsModeOf x mode mid new returned → SetsNamedMode u mode old x new
set-named u x mode old mid new returned n l (LosesName v hide at-x gone logged) =
    let q : Some v ≡ Some u = sym at-x ∙ l.users.there u x n.leads in
    let same : v ≡ u = cc in
    let hidden = subst (λ w. IsHidden mid new w x) same gone in
    record {
      mid = mid;
      named = n;
      hidden = λ _. hidden;
      changed = λ m. absurd (m hide);
      stays = stays-on old mid new n.stays (hidden-stays mid new u x l n.stays.bounded n.leads n.unassumed hidden);
    }
set-named u x mode old mid new returned n l (GetsName v m at-x shown logged) =
    let z : None ≡ Some u = sym at-x ∙ l.users.there u x n.leads in
    absurd cc
set-named u x mode old mid new returned n l (OtherwiseSet stays changed logged) = record {
  mid = mid;
  named = n;
  hidden = λ e. absurd (stays (subst (MovesName mode) (sym (l.users.there u x n.leads)) e));
  changed = λ _. changed;
  stays = stays-on old mid new n.stays (mode-stays mid new x mode n.stays.bounded n.live changed);
}

-- 5. A hidden variable leaves.

-- It has no name, and is as live and as little assumed as before.
pub hidden-unnamed : (old new : Tables) (u x : ℕ) → IsHidden old new u x → at new.users.backward x ≡ None
hidden-unnamed old new u x n = n.users.backward.at_each x ∙ updated-at (at old.users.backward) x None

pub hidden-keeps : {X : Type 0} (F : VarData → X) (old new : Tables) (u x : ℕ) →
    F (record (data_at old.kept x) { sampling_mode = sampling.Hide }) ≡ F (data_at old.kept x) → IsHidden old new u x →
    F (data_at new.kept x) ≡ F (data_at old.kept x)
hidden-keeps F old new u x e n = ap F (n.kept.at_each x ∙ updated-at (data_at old.kept) x (record (data_at old.kept x) { sampling_mode = sampling.Hide })) ∙ e

-- where it is not assumed, those that are keep their names and marks
deleted-stays : (old new : Tables) (x : ℕ) → AreBounded old → (data_at old.kept x).deleted ≡ false → (data_at old.kept x).assumed ≡ false →
    IsRetiredIfUnused old new x → StaysValid old new
deleted-stays old new x b live unmarked n =
    let users = ap (λ t. t.users) n.rest in
    let solvers = ap (λ t. t.solvers) n.rest in
    let h = live-inside old.kept x live in
    let c = n.kept.count in
    let w = ap (λ t. length t.users.forward) n.rest in
    let v = b.users in
    let g = b.globals in
    let other : (y : ℕ) → IsMarkedAssumed old y → y ≡ x →
    ⊥ = (λ y m q. let z : true ≡ false = sym m ∙ ap (λ y. (data_at old.kept y).assumed) q ∙ unmarked in cc) in
    let mark : (y : ℕ) → IsMarkedAssumed old y → IsMarkedAssumed new y =
    (λ y m. ap (λ d. d.assumed) (n.kept.at_each y ∙ updated-other (data_at old.kept) x
    (unless_unused (at old.solvers.forward x) (data_at old.kept x)) y (other y m)) ∙ m) in
    record {
      bounded = record {
        users = omega (arith, w, v);
        globals = omega (arith, c, h, g);
        solvers =
            subst (λ m. length m.backward ≤ variable_limit) (sym solvers) b.solvers;
      };
      solvers = solvers;
      named = λ u y e m. (ap (λ t. at t.users.forward u) n.rest ∙ e, mark y m);
      names = λ y u e m. (ap (λ t. at t.users.backward y) n.rest ∙ e, mark y m);
    }

pub unsat-or-not : (v : SatState) → (v ≡ verdict.Unsat) ⊎ (v ≢ verdict.Unsat)
unsat-or-not verdict.Unknown = inr (λ e. cc)
unsat-or-not verdict.Sat = inr (λ e. cc)
unsat-or-not verdict.Unsat = inl refl
unsat-or-not verdict.UnsatUnderAssumptions = inr (λ e. cc)

-- A name was freed, and its variable left or not.
module _ (u : ℕ) (v : SatState) (p q : TracerState) (h : HidesNamed u v p q) where
  hidden-first : IsHidden h.set.mid h.mid u h.global
  hidden-first = h.set.hidden refl

  left-stays : RetiresIfUnused (record p { tables = h.mid }) h.global q → StaysValid p.tables q.tables
  left-stays l =
      let live = hidden-keeps (λ d. d.deleted) h.set.mid h.mid u h.global refl hidden-first ∙ h.set.named.live in
      let free = hidden-keeps (λ d. d.assumed) h.set.mid h.mid u h.global refl hidden-first ∙ h.set.named.unassumed in
      stays-on p.tables h.mid q.tables h.set.stays (deleted-stays h.mid q.tables h.global h.set.stays.bounded live free l.deleted)

  pub hides-stay : StaysValid p.tables q.tables
  hides-stay = ⊎_elim
      (λ e. subst (λ (t : TracerState). StaysValid p.tables t.tables) (sym (h.stays e)) h.set.stays)
      (λ n. left-stays (h.left n))
      (unsat-or-not v)

  -- what the proof logged
  pub hides-logged : (given : List Entry) × IsLogged p.proof given q.proof × (q.proof.opened ≡ p.proof.opened)
  hides-logged = ⊎_elim
      (λ e. subst (λ (t : TracerState). (given : List Entry) × IsLogged p.proof given t.proof × (t.proof.opened ≡ p.proof.opened)) (sym (h.stays e))
      ([], logged-none p.proof, refl))
      (λ n. let l = h.left n in (retires_if_deleted q.tables h.global, l.logged, l.opened))
      (unsat-or-not v)

-- 6. Hidden variables come back.

-- a name comes into use for the variable
to : Tables → ℕ → ℕ → ℕ → Option ℕ
to t u x = updated (at t.users.forward) u (Some x)

to-once : (t : Tables) (u x : ℕ) → AreLinked t → at t.users.forward u ≡ None → at t.users.backward x ≡ None → (v y i : ℕ) → to t u x v ≡ Some i →
    to t u x y ≡ Some i → y ≡ v
unfolding to
to-once t u x l free unnamed v y i a b =
    let both = joined (at t.users.forward) (at t.users.backward) u x l.users free unnamed in
    let q : Some y ≡ Some v = sym (both.there y i b) ∙ both.there v i a in
    cc

-- The least free name is below the count of global variables where a live one has no name: all lower names lead to others.
pub shown-near : (t : Tables) (x u : ℕ) → AreLinked t → (data_at t.kept x).deleted ≡ false → at t.users.backward x ≡ None →
    IsLeastUnmapped t.users.forward u → u < length t.kept
unfolding to
shown-near t x u l live unnamed least =
    let d = few (to t u x) (below (length t.kept)) (to-once t u x l least.0 unnamed) (u + 1) found in
    let e = length-below (length t.kept) in
    omega (arith, d, e)
  where
    found : (v : ℕ) → v < u + 1 → (i : ℕ) × (to t u x v ≡ Some i) × (i ∈ below (length t.kept))
    found v h =
        ⊎_elim
        (λ e. (
          x,
          ap (updated (at t.users.forward) u (Some x)) e ∙ updated-at (at t.users.forward) u (Some x),
          in-below (length t.kept) x
              (live-inside t.kept x live),
        ))
        (λ n. ⊎_elim
        (λ z. absurd (least.1 v (omega (arith, h, n)) z))
        (λ (y, q). (y, updated-other (at t.users.forward) u (Some x) v n ∙ q, in-below (length t.kept) y (named-inside t v y l q)))
        (is-some (at t.users.forward v)))
        (equal_or_not v u)

-- and the tables stay linked
pub shown-linked : (old new : Tables) (x u : ℕ) (mode : SamplingMode) → AreLinked old → (data_at old.kept x).deleted ≡ false →
    at old.users.backward x ≡ None → IsShown old new x mode u → AreLinked new
shown-linked old new x u mode l live unnamed n =
    let given = join-users old new.users u x l live n.least.0 unnamed n.users in
    let kept = keep-live (record old { users = new.users }) new.kept x (record (data_at old.kept x) { sampling_mode = mode }) given live n.kept in
    same-tables (record old { users = new.users; kept = new.kept }) new.users new.solvers new.kept refl n.solvers refl kept

pub shown-stays : (mid new : Tables) (x u : ℕ) → AreLinked mid → AreBounded mid → (data_at mid.kept x).deleted ≡ false →
    at mid.users.backward x ≡ None → IsShown mid new x sampling.Witness u → StaysValid mid new
shown-stays mid new x u l b live unnamed n =
    let d : VarData = record (data_at mid.kept x) { sampling_mode = sampling.Witness } in
    let near = shown-near mid x u l live unnamed n.least in
    let h = live-inside mid.kept x live in
    let c = n.kept.count in
    let w = n.users.forward.watermark in
    let v = b.users in
    let g = b.globals in
    let mark : (y : ℕ) → IsMarkedAssumed mid y → IsMarkedAssumed new y =
    (λ y m. ap (λ d. d.assumed) (n.kept.at_each y) ∙ updated-all (λ y e. (data_at mid.kept y).assumed ≡ true → e.assumed ≡ true)
    (data_at mid.kept) x d (λ m. m) y (λ _ m. m) m) in
    record {
      bounded = record {
        users = omega (arith, w, v, near, g);
        globals = omega (arith, c, h, g);
        solvers =
            subst (λ m. length m.backward ≤ variable_limit) (sym n.solvers) b.solvers;
      };
      solvers = n.solvers;
      named = λ v y a m. (
        n.users.forward.at_each v ∙ updated-other (at mid.users.forward) u (Some x) v
            (λ q. let z : None ≡ Some y = sym n.least.0 ∙ ap (at mid.users.forward) (sym q) ∙ a in cc) ∙ a,
        mark y m,
      );
      names = λ y v a m. (
        n.users.backward.at_each y ∙ updated-other (at mid.users.backward) x (Some u) y
            (λ q. let z : None ≡ Some v = sym unnamed ∙ ap (at mid.users.backward) (sym q) ∙ a in cc) ∙ a,
        mark y m,
      );
    }

-- hidden variables come back in turn, none under a name past the limit
pub turns-stay : (us : List ℕ) (old new : Tables) → AreLinked old → AreBounded old → AreShownInTurn us old new → StaysValid old new
    × ((u : ℕ) → u ∈ us → u < variable_limit)
turns-stay [] old new l b e = (subst (StaysValid old) (sym e) (stays-same old b), λ u h. absurd h)
turns-stay (u ∷ us) old new l b (mid, x, live, unnamed, n, rest) =
    let k = shown-stays old mid x u l b live unnamed n in
    let near = shown-near old x u l live unnamed n.least in
    let g = b.globals in
    let (s, within) = turns-stay us mid new (shown-linked old mid x u sampling.Witness l live unnamed n) k.bounded rest in (
      stays-on old mid new k s,
      λ v. ⊎_elim (λ q. subst (λ w. w < variable_limit) (sym q) (let z : u < variable_limit = omega (arith, near, g) in z)) (within v),
    )
