-- What stays where the maps and what is kept agree at each place.
use Rattle.std.proofs.Common.{◌≡◌, ◌≢◌, ℕ, ◌+◌, max, true, false, Some, List, [], ◌∷◌, ◌++◌, ◌*◌, ◌%◌, Bool, Option, None, inl, inr, ⊎_elim, sym, ap, ◌∙◌, subst, refl, map}
use Rattle.varisat_theory.specs.promises.Membership.{◌∈◌, ◌⊆◌}
use Rattle.varisat_theory.specs.promises.Literals.{Literal, Clause, variable_of, Assignment, value, MakesTrue}
use Rattle.varisat_theory.specs.promises.Searches.{Search, KeptClause, IsLiteralOf, IsCoveredBySearch, Tautology, KnownTrue, FixedTrue, Kept}
use Rattle.varisat_theory.specs.inside.Outcomes.{SearchOutcome}
use Rattle.varisat_names.specs.promises.Maps.{updated, chain, onward}
use Rattle.varisat_names.specs.promises.VarData.{fresh}
use Rattle.varisat_names.specs.declared.variables.data.VarData.{VarData}
use Rattle.varisat_solver.specs.promises.States.{State, Verdict, Unknown, Sat, Unsat, UnsatUnderAssumptions}
use Rattle.varisat_tracer.specs.promises.Carried.{carry}
use Rattle.varisat_solver.specs.inside.Spaces.{Spaces, MarksFit, ModeFits, IdentitiesFit, NamesFit, ModesFit, UnitsFit, IsolationCase, NotIsolated, Apart, Forced, IsolationFits, SolversFit, Translation, IsKnownTrue, IsDischargedBy, SharesHeld, HeldFits, SearchHolds, AssumptionsFit, WorkingFits, CoreFits, VerdictFits}
use Rattle.varisat_solver.specs.promises.Usage.{IsWide}
use Rattle.varisat_theory.specs.promises.Renaming.{rename}
use Rattle.varisat_theory.specs.promises.Held.{SameClauses}
use Rattle.varisat_theory.specs.promises.Journals.{Leads}
use Rattle.varisat_literals.specs.promises.Numbers.{polarity_of}
use Rattle.varisat_names.proofs.Maps.{inverse-same}
use Rattle.varisat_solver.specs.promises.Names.{Mode, identity_of}
use Rattle.varisat_solver.specs.inside.Carried.{is_value, is_forced}
use Rattle.varisat_proof.specs.promises.Passing.{LogsConflict}
use Rattle.varisat_theory.specs.inside.Outcomes as outcome

-- What the parts of a call do to the spaces, and to the state.

-- a free name gets a global variable that is not live, new or used before, so that one more may have been made; the model that was found last calls it false
abbrev pub give : ℕ → ℕ → Spaces → Spaces
give u x p = record p {
  global_from_user = updated p.global_from_user u (Some x);
  user_from_global = updated p.user_from_global x (Some u);
  watermark = max p.watermark (u + 1);
  globals = max p.globals (x + 1);
  kept = updated p.kept x fresh;
  model = updated p.model x false;
}

-- the global variable gets the solver variable
abbrev pub take_solver : ℕ → ℕ → Spaces → Spaces
take_solver x v p = record p { solver_from_global = updated p.solver_from_global x (Some v); global_from_solver = updated p.global_from_solver v (Some x) }

-- just these identities are counted
abbrev pub count : List ℕ → State → State
count is s = record s { counted = is }

-- the search with its verdict
abbrev pub with_search : Search → SearchOutcome → Spaces → Spaces
with_search t v p = record p { search = t; outcome = v }

-- the names of a clause lead to solver variables
abbrev pub AreTaken : Spaces → Clause → Type 0
AreTaken p d = (l : Literal) → l ∈ d → (v : ℕ) × (chain p.global_from_user p.solver_from_global (variable_of l) ≡ Some v)

abbrev pub solver_literal : Spaces → Literal → Literal
solver_literal p = carry (chain p.global_from_user p.solver_from_global)

-- Loading a clause over names changes marks of isolation alone: those of a wide clause's variables fall.
pub record IsTouched (p : Spaces) (d : Clause) (after : ℕ → VarData) : Type 0 where
  pub rest : (x : ℕ) → after x ≡ record (p.kept x) { isolated = (after x).isolated }
  pub fallen : (x : ℕ) → (after x).isolated ≡ true → (p.kept x).isolated ≡ true
  pub wide : IsWide d → (l : Literal) (x : ℕ) → l ∈ d → p.global_from_user (variable_of l) ≡ Some x → (after x).isolated ≡ false

-- Assuming a list over names changes marks of assumptions alone: then they fit the list.
pub record IsMarkedFor (p : Spaces) (d : List Literal) (after : ℕ → VarData) : Type 0 where
  pub rest : (x : ℕ) → after x ≡ record (p.kept x) { assumed = (after x).assumed }
  pub fit : MarksFit p.global_from_user after d

-- the clause, over identities, joins the accepted ones
abbrev pub accept : Clause → Verdict → State → State
accept c v s = record s { clauses = s.clauses ++ c ∷ []; verdict = v }

-- each kept clause has two different literals
abbrev pub AreLong : Search → Type 0
AreLong s = (k : KeptClause) → k ∈ s.kept → (l m : Literal) × (l ∈ k.clause) × (m ∈ k.clause) × (l ≢ m)

-- the search speaks of solver variables in use only
abbrev pub AreInUse : Spaces → Search → Type 0
AreInUse p t = (l : Literal) → IsLiteralOf t l → (x : ℕ) × (p.global_from_solver (variable_of l) ≡ Some x)

pub identities-same : (id gl : ℕ → Option ℕ) (k k' : ℕ → VarData) (top : ℕ) → ((x : ℕ) → (k' x).deleted ≡ (k x).deleted) →
    IdentitiesFit id gl k top → IdentitiesFit id gl k' top
identities-same id gl k k' top e f =
    record { one_to_one = f.one_to_one; live = λ x i h. e x ∙ f.live x i h; deleted = λ x h. e x ∙ f.deleted x h; below = f.below }

pub names-same : (id fu tu fu' tu' ns : ℕ → Option ℕ) (w : ℕ) → ((u : ℕ) → fu' u ≡ fu u) → ((x : ℕ) → tu' x ≡ tu x) → NamesFit id fu tu ns w →
    NamesFit id fu' tu' ns w
names-same id fu tu fu' tu' ns w a b f = record {
  one_to_one = inverse-same fu tu fu' tu' a b f.one_to_one;
  agree = λ u. f.agree u ∙ ap (λ o. onward o id) (sym (a u));
  live = λ u x h. f.live u x (sym (a u) ∙ h);
  free = λ u h. a u ∙ f.free u h;
}

pub modes-same : (id fu tu fu' tu' : ℕ → Option ℕ) (k k' : ℕ → VarData) (ms : ℕ → Mode) → ((u : ℕ) → fu' u ≡ fu u) → ((x : ℕ) → tu' x ≡ tu x) →
    ((x : ℕ) → (k' x).sampling_mode ≡ (k x).sampling_mode) → ModesFit id fu tu k ms → ModesFit id fu' tu' k' ms
modes-same id fu tu fu' tu' k k' ms a b m f = record {
  mode = λ u x i h j. subst (λ y. ModeFits y (ms i)) (sym (m x)) (f.mode u x i (sym (a u) ∙ h) j);
  unnamed = λ x h. m x ∙ f.unnamed x (sym (b x) ∙ h);
}

pub units-same : (id : ℕ → Option ℕ) (fo : ℕ → Option Bool) (k k' : ℕ → VarData) (known : List ℕ) → ((x : ℕ) → (k' x).unit ≡ (k x).unit) →
    UnitsFit id fo k known → UnitsFit id fo k' known
units-same id fo k k' known a f = record { unit = λ x i h. f.unit x i h ∙ sym (a x); is_counted = f.is_counted }

pub isolation-same : (id : ℕ → Option ℕ) (fo : ℕ → Option Bool) (k k' : ℕ → VarData) (P : List Clause) (top : ℕ) →
    ((x : ℕ) → (k' x).isolated ≡ (k x).isolated) → IsolationFits id fo k P top → IsolationFits id fo k' P top
isolation-same id fo k k' P top b f i h = go (f i h)
  where
    go : IsolationCase id fo k P i → IsolationCase id fo k' P i
    go (NotIsolated x e o) = NotIsolated x e (b x ∙ o)
    go (Apart a) = Apart a
    go (Forced v e) = Forced v e

pub solvers-same : (id fg tg fg' tg' : ℕ → Option ℕ) (known : List ℕ) → ((x : ℕ) → fg' x ≡ fg x) → ((v : ℕ) → tg' v ≡ tg v) →
    SolversFit id fg tg known → SolversFit id fg' tg' known
solvers-same id fg tg fg' tg' known a b f = record { one_to_one = inverse-same fg tg fg' tg' a b f.one_to_one; live = λ v x h. f.live v x (sym (b v) ∙ h) }

-- literals that are carried

pub carry-same : (f g : ℕ → Option ℕ) (l : Literal) → f (variable_of l) ≡ g (variable_of l) → carry f l ≡ carry g l
carry-same f g l e = ap (λ o. 2 * identity_of o + l % 2) e

pub map-same : (f g : Literal → Literal) (c : Clause) → ((l : Literal) → l ∈ c → f l ≡ g l) → map f c ≡ map g c
map-same f g [] e = refl
map-same f g (l ∷ c) e = ap (λ x. x ∷ map f c) (e l (inl refl)) ∙ ap (λ x. g l ∷ x) (map-same f g c (λ m h. e m (inr h)))

pub map-map : (f g h : Literal → Literal) (c : Clause) → ((l : Literal) → l ∈ c → f (g l) ≡ h l) → map f (map g c) ≡ map h c
map-map f g h [] e = refl
map-map f g h (l ∷ c) e = ap (λ x. x ∷ map f (map g c)) (e l (inl refl)) ∙ ap (λ x. h l ∷ x) (map-map f g h c (λ m i. e m (inr i)))

-- where one map leads, and then another, the same two lead
chain-alike : (f g f' g' : ℕ → Option ℕ) (u : ℕ) → f' u ≡ f u → ((x : ℕ) → g' x ≡ g x) → chain f' g' u ≡ chain f g u
chain-alike f g f' g' u a b = ap (λ o. onward o g') a ∙ go (f u)
  where
    go : (o : Option ℕ) → onward o g' ≡ onward o g
    go None = refl
    go (Some x) = b x

pub assumptions-same : (fu fg fu' fg' ns : ℕ → Option ℕ) (given as' : List Literal) → ((u : ℕ) → fu' u ≡ fu u) → ((x : ℕ) → fg' x ≡ fg x) →
    AssumptionsFit fu fg ns given as' → AssumptionsFit fu' fg' ns given as'
assumptions-same fu fg fu' fg' ns given as' a b f = record {
  agree = f.agree;
  taken = λ l h. let r = f.taken l h in (r.0, chain-alike fu fg fu' fg' (variable_of l) (a (variable_of l)) b ∙ r.1);
}

pub marks-same : (fu fu' : ℕ → Option ℕ) (k k' : ℕ → VarData) (given : List Literal) → ((u : ℕ) → fu' u ≡ fu u) →
    ((x : ℕ) → (k' x).assumed ≡ (k x).assumed) → MarksFit fu k given → MarksFit fu' k' given
marks-same fu fu' k k' given a m f = record {
  marked = λ l x h e. m x ∙ f.marked l x h (sym (a (variable_of l)) ∙ e);
  only = λ x h. let (l, i, e) = f.only x (sym (m x) ∙ h) in (l, i, a (variable_of l) ∙ e);
}

pub working-same : (P : List Clause) (id id' : ℕ → Option ℕ) (as' ws : List Literal) →
    ((l : Literal) → l ∈ ws → id' (variable_of l) ≡ id (variable_of l)) → WorkingFits P id as' ws → WorkingFits P id' as' ws
working-same P id id' as' ws a f =
    let same = map-same (carry id) (carry id') ws (λ l h. carry-same id id' l (sym (a l h))) in
    record {
      used = λ l h. let (i, e) = f.used l h in (i, a l h ∙ e);
      part = subst (λ xs. xs ⊆ as') same f.part;
      implied = λ x m t. f.implied x m (subst (MakesTrue x) (sym same) t);
    }

pub core-same : (ns ns' : ℕ → Option ℕ) (logged : List Literal) (v : Verdict) → ((u i : ℕ) → ns u ≡ Some i → ns' u ≡ Some i) → CoreFits ns logged v →
    CoreFits ns' logged v
core-same ns ns' logged Unknown m f = tt
core-same ns ns' logged (Sat a) m f = tt
core-same ns ns' logged Unsat m f = tt
core-same ns ns' logged (UnsatUnderAssumptions core) m (named, e) = (
  λ l h. let (i, q) = named l h in (i, m (variable_of l) i q),
  e ∙ map-same (carry ns) (carry ns') logged (λ l h. let (i, q) = named l h in carry-same ns ns' l (q ∙ sym (m (variable_of l) i q))),
)

pub verdict-moved : (id id' : ℕ → Option ℕ) (m m' : ℕ → Bool) (o : SearchOutcome) (v : Verdict) →
    ((a : Assignment) → v ≡ Sat a → ((x i : ℕ) → id x ≡ Some i → a i ≡ m x) → (x i : ℕ) → id' x ≡ Some i → a i ≡ m' x) → VerdictFits id m o v →
    VerdictFits id' m' o v
verdict-moved id id' m m' outcome.Unknown Unknown h f = tt
verdict-moved id id' m m' outcome.Unknown (Sat a) h f = f
verdict-moved id id' m m' outcome.Unknown Unsat h f = f
verdict-moved id id' m m' outcome.Unknown (UnsatUnderAssumptions core) h f = f
verdict-moved id id' m m' (outcome.Sat found) Unknown h f = f
verdict-moved id id' m m' (outcome.Sat found) (Sat a) h f = h a refl f
verdict-moved id id' m m' (outcome.Sat found) Unsat h f = f
verdict-moved id id' m m' (outcome.Sat found) (UnsatUnderAssumptions core) h f = f
verdict-moved id id' m m' outcome.Unsat Unknown h f = f
verdict-moved id id' m m' outcome.Unsat (Sat a) h f = f
verdict-moved id id' m m' outcome.Unsat Unsat h f = tt
verdict-moved id id' m m' outcome.Unsat (UnsatUnderAssumptions core) h f = f
verdict-moved id id' m m' (outcome.UnsatUnder found) Unknown h f = f
verdict-moved id id' m m' (outcome.UnsatUnder found) (Sat a) h f = f
verdict-moved id id' m m' (outcome.UnsatUnder found) Unsat h f = f
verdict-moved id id' m m' (outcome.UnsatUnder found) (UnsatUnderAssumptions core) h f = f

-- what the search says

pub rename-same : (f g : Literal → Literal) (P : List Clause) → ((c : Clause) (l : Literal) → c ∈ P → l ∈ c → f l ≡ g l) → rename f P ≡ rename g P
rename-same f g [] e = refl
rename-same f g (c ∷ P) e = ap (λ x. x ∷ rename f P) (map-same f g c (λ l h. e c l (inl refl) h))
    ∙ ap (λ x. map g c ∷ x) (rename-same f g P (λ d l i h. e d l (inr i) h))

pub value-same : (a b : Assignment) (l : Literal) → a (variable_of l) ≡ b (variable_of l) → value a l ≡ value b l
unfolding value
value-same a b l e = rw e refl

-- coverage where each fixed and kept literal is carried to the same
pub covered-same : (s : Search) (f g : Literal → Literal) (known more : Literal → Bool) (c : Clause) → ((l : Literal) → l ∈ s.fixed → f l ≡ g l) →
    ((d : Clause) (l : Literal) → l ∈ d → ((m : Literal) → m ∈ d → f m ∈ c) → f l ≡ g l) → ((l : Literal) → known l ≡ true → more l ≡ true) →
    IsCoveredBySearch f known s c → IsCoveredBySearch g more s c
covered-same s f g known more c a b m (Tautology t) = Tautology t
covered-same s f g known more c a b m (KnownTrue l i e) = KnownTrue l i (m l e)
covered-same s f g known more c a b m (FixedTrue l i j) = FixedTrue l i (subst (λ x. x ∈ c) (a l i) j)
covered-same s f g known more c a b m (Kept k i e w) = Kept k i e (λ l j. subst (λ x. x ∈ c) (b k.clause l j w) (w l j))

-- What says nothing more.

-- where literals are true for good as they were, a clause says nothing more as it did
pub settled-through : (r r' : Translation) (fixed fixed' : List Literal) → ((l : Literal) → IsKnownTrue r fixed l → IsKnownTrue r' fixed' l) →
    (c : Clause) → IsDischargedBy r fixed c → IsDischargedBy r' fixed' c
settled-through r r' fixed fixed' on c (inl t) = inl t
settled-through r r' fixed fixed' on c (inr (l, h, k)) = inr (l, h, on l k)

pub settled-more : (r : Translation) (fixed more : List Literal) → fixed ⊆ more → (c : Clause) → IsDischargedBy r fixed c → IsDischargedBy r more c
settled-more r fixed more stay = settled-through r r fixed more (λ l k. ⊎_elim (λ e. inl e) (λ (m, h, e). inr (m, stay m h, e)) k)

-- the same variables, and the same values that are forced
pub settled-alike : (r r' : Translation) (fixed : List Literal) → ((v : ℕ) → r'.identity v ≡ r.identity v) → ((i : ℕ) → r'.forced i ≡ r.forced i) →
    (c : Clause) → IsDischargedBy r fixed c → IsDischargedBy r' fixed c
settled-alike r r' fixed same forced = settled-through r r' fixed fixed
    (λ l k. ⊎_elim (λ e. inl (ap (λ o. is_value o (polarity_of l)) (forced (variable_of l)) ∙ e))
    (λ (m, h, e). inr (m, h, carry-same r'.identity r.identity m (same (variable_of m)) ∙ e)) k)

pub shares-same : {fixed : List Literal} (r r' : Translation) (share : List Clause) → ((x : ℕ) → r'.identity x ≡ r.identity x) →
    ((i : ℕ) → r'.forced i ≡ r.forced i) → ((i x : ℕ) (b : Bool) → r.forced i ≡ Some b → r'.global i ≡ Some x → (y : ℕ) × (r.global i ≡ Some y)) →
    ((i x : ℕ) → r.global i ≡ Some x → (y : ℕ) × (r'.global i ≡ Some y)) → r'.logged ≡ r.logged → SharesHeld r fixed share → SharesHeld r' fixed share
shares-same r r' share a f g still n q = record {
  held = q.held;
  led = subst (λ es. Leads [] es q.held) (sym n) q.led;
  forgotten = q.forgotten;
  same = subst (λ x. SameClauses q.held (q.forgotten ++ x))
      (rename-same (carry r.identity) (carry r'.identity) share (λ c l i j. sym (carry-same r'.identity r.identity l (a (variable_of l))))) q.same;
  inside = λ c l h i. let (j, e) = q.inside c l h i in (j, a (variable_of l) ∙ e);
  units = λ i b x e l none. let (y, z) = g i x b (sym (f i) ∙ e) l in q.units i b y (sym (f i) ∙ e) z (λ v o. none v (a v ∙ o));
  live = λ c l h i. let (x, e) = q.live c l h i in still (variable_of l) x e;
  settled = λ c h. settled-alike r r' _ a f c (q.settled c h);
}

pub logged-same : (r r' : Translation) (fixed : List Literal) (share : List Clause) (v : SearchOutcome) → ((x : ℕ) → r'.identity x ≡ r.identity x) →
    ((i : ℕ) → r'.forced i ≡ r.forced i) → ((i x : ℕ) (b : Bool) → r.forced i ≡ Some b → r'.global i ≡ Some x → (y : ℕ) × (r.global i ≡ Some y)) →
    ((i x : ℕ) → r.global i ≡ Some x → (y : ℕ) × (r'.global i ≡ Some y)) → r'.logged ≡ r.logged → HeldFits r fixed share v → HeldFits r' fixed share v
logged-same r r' fixed share outcome.Unknown a f g still n q = shares-same r r' share a f g still n q
logged-same r r' fixed share (outcome.Sat found) a f g still n q = shares-same r r' share a f g still n q
logged-same r r' fixed share outcome.Unsat a f g still n q = subst LogsConflict (sym n) q
logged-same r r' fixed share (outcome.UnsatUnder core) a f g still n q = shares-same r r' share a f g still n q

pub holds-same : (P : List Clause) (r r' : Translation) (s : Search) (v : SearchOutcome) → ((x : ℕ) → r'.identity x ≡ r.identity x) →
    ((i : ℕ) → r'.forced i ≡ r.forced i) → ((share : List Clause) → HeldFits r s.fixed share v → HeldFits r' s.fixed share v) →
    SearchHolds P r s v → SearchHolds P r' s v
holds-same P r r' s v a f n h =
    let to = λ (l : Literal). sym (carry-same r'.identity r.identity l (a (variable_of l))) in
    record {
      held = h.held;
      holds = h.holds;
      within = λ l i. let (j, e) = h.within l i in (j, a (variable_of l) ∙ e);
      implied = λ x y m g. h.implied x y m (λ u i e. g u i (a u ∙ e));
      known = λ x m i y e. h.known x m i y (sym (f i) ∙ e);
      fixed = λ o l i e g. h.fixed o l i (sym (a (variable_of l)) ∙ e) (sym (f i) ∙ g);
      covered = λ o c i. covered-same s (carry r.identity) (carry r'.identity) (is_forced r.forced) (is_forced r'.forced) c (λ l j. to l)
          (λ d l j w. to l) (λ l e. ap (λ y. is_value y (polarity_of l)) (f (variable_of l)) ∙ e) (h.covered o c i);
      logged = n h.held h.logged;
    }
