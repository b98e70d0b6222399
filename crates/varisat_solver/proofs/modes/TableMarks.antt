-- Marks of isolation or of assumption are set, for one variable after another. All else in the tables stays.
use Rattle.std.proofs.Common.{◌≡◌, ℕ, true, false, Option, Some, None, sym, ap, ◌∙◌, subst, refl, ◌≢◌, Bool, List, [], ◌∷◌, ◌++◌, ◌⊎◌, inl, inr, ⊎_elim, length, map, arith}
use Rattle.std.specs.Option.{IsSome}
use Rattle.varisat_names.specs.promises.VarMap.{at}
use Rattle.varisat_names.specs.promises.VarBiMap.{BiMap}
use Rattle.varisat_names.specs.promises.VarData.{data_at}
use Rattle.varisat_names.specs.promises.Variables.{Tables, AreLinked, IsChangedTo}
use Rattle.varisat_names.proofs.Maps.{chain-some, updated-all, updated-other, chain-through}
use Rattle.varisat_search.proofs.variables.KeptNames.{KeepsNames}
use Rattle.varisat_solver.specs.inside.Accepting.{IsAssumedSolver, HasUser, AreBounded, HasNames, HasSolver, AreJoined, AreMarked}
use Rattle.varisat_theory.specs.promises.Membership.{◌∈◌}
use Rattle.varisat_theory.specs.promises.Literals.{Literal, variable_of}
use Rattle.varisat_theory.proofs.journals.Renaming.{map-∈}
use Rattle.varisat_theory.proofs.clauses.Members.{equal_or_not, ∈-append_cases, ∈-append_left, ∈-append_right}
use Rattle.varisat_names.specs.declared.variables.data.VarData.{VarData}
use Rattle.varisat_names.specs.promises.Maps.{chain}
use Rattle.varisat_names.proofs.Tables.{live-inside}
use Rattle.varisat_tracer.specs.promises.Carried.{carry}
use Rattle.varisat_solver.proofs.calls.Carried.{carry-at}

-- Names and solver variables in use, which stay as others come into use.

-- Solver variables of names that are assumed.

pub assumed-keeps : (old new : Tables) (v : ℕ) → AreLinked old → KeepsNames old new → IsAssumedSolver old v → IsAssumedSolver new v
assumed-keeps old new v l k (x, u, a, b, e) =
    let live = l.named x u b in
    (x, u, ap (λ (m : BiMap). at m.backward v) k.solvers ∙ a, k.back x u b live, ap (λ d. d.assumed) (k.live x live) ∙ e)

-- the variable of a name in use stays marked as assumed
pub marked-keeps : (old new : Tables) (u x y : ℕ) → AreLinked old → KeepsNames old new → at old.users.forward u ≡ Some y →
    (data_at old.kept y).assumed ≡ true → at new.users.forward u ≡ Some x → (data_at new.kept x).assumed ≡ true
marked-keeps old new u x y l k e m f =
    let q : Some y ≡ Some x = sym (k.named u y e) ∙ f in
    let same : y ≡ x = cc in
    subst (λ z. (data_at new.kept z).assumed ≡ true) same (ap (λ d. d.assumed) (k.live y (l.named y u (l.users.there u y e))) ∙ m)

-- the name of one is returned
pub assumed-named : (t : Tables) (v : ℕ) → IsAssumedSolver t v → HasUser t v
assumed-named t v (x, u, a, b, e) = (u, chain-some (at t.solvers.backward) (at t.users.backward) v x a ∙ b)

-- 1. What stays.

pub record SameButMarks (old new : Tables) : Type 0 where
  pub users : new.users ≡ old.users
  pub solvers : new.solvers ≡ old.solvers
  pub count : length new.kept ≡ length old.kept
  pub deleted : (x : ℕ) → (data_at new.kept x).deleted ≡ (data_at old.kept x).deleted
  pub units : (x : ℕ) → (data_at new.kept x).unit ≡ (data_at old.kept x).unit

pub marks-bounded : (old new : Tables) → AreBounded old → SameButMarks old new → AreBounded new
marks-bounded old new b j =
    let u = ap (λ m. length m.forward) j.users in
    let c = j.count in
    let v = ap (λ m. length m.backward) j.solvers in
    record { users = omega (arith, u, b.users); globals = omega (arith, c, b.globals); solvers = omega (arith, v, b.solvers) }

-- the names of the literals are in use still
pub names-marked : (d : List Literal) (old new : Tables) → HasNames d old → SameButMarks old new → HasNames d new
names-marked d old new n j = record {
  bounded = marks-bounded old new n.bounded j;
  named = λ l h. subst (λ m. IsSome (at m.forward (variable_of l))) (sym j.users) (n.named l h);
}

-- and that of one of them
pub one-named : (ls : List Literal) (t : Tables) (l : Literal) → HasNames ls t → l ∈ ls → HasNames (l ∷ []) t
one-named ls t l n h = record {
  bounded = n.bounded;
  named = λ k i. ⊎_elim (λ q. subst (λ z. IsSome (at t.users.forward (variable_of z))) (sym q) (n.named l h)) (λ z. absurd z) i;
}

-- 2. One more mark: that of variable x, which stands for l.
module _ (old mid new : Tables) (x : ℕ) (d : VarData) (c : IsChangedTo mid new x d) where
  -- what is so of each variable that was there before
  rest-more : (P : ℕ → VarData → Type 0) → ((y : ℕ) → P y (data_at mid.kept y)) → P x d → (y : ℕ) → P y (data_at new.kept y)
  rest-more P r own y = subst (P y) (sym (c.kept.at_each y)) (updated-all P (data_at mid.kept) x d own y (λ _. r y))

  -- what is so of the variables of the literals
  each-more : (ls : List Literal) (l : Literal) (P : VarData → Type 0) →
      ((k : Literal) (y : ℕ) → k ∈ ls → at old.users.forward (variable_of k) ≡ Some y → P (data_at mid.kept y)) →
      at old.users.forward (variable_of l) ≡ Some x → P d →
      (k : Literal) (y : ℕ) → k ∈ (ls ++ l ∷ []) → at old.users.forward (variable_of k) ≡ Some y → P (data_at new.kept y)
  each-more ls l P r e own k y h q =
      subst P (sym (c.kept.at_each y)) (updated-all (λ y k. (y ≡ x → ⊥) ⊎ (y ≡ x) → P k) (data_at mid.kept) x d (λ _. own) y
      (λ z _. ⊎_elim
      (λ a. r k y a q)
      (λ a. ⊎_elim (λ s. absurd (z (let f : Some y ≡ Some x = sym q ∙ ap (λ u. at old.users.forward (variable_of u)) s ∙ e in cc))) (λ s. absurd s) a)
      (∈-append_cases k ls (l ∷ []) h))
      (⊎_elim (λ a. inr a) (λ a. inl a) (equal_or_not y x)))

  same-more : SameButMarks old mid → (data_at mid.kept x).deleted ≡ false → d.deleted ≡ (data_at mid.kept x).deleted →
      d.unit ≡ (data_at mid.kept x).unit → SameButMarks old new
  same-more s live e f = record {
    users = ap (λ t. t.users) c.rest ∙ s.users;
    solvers = ap (λ t. t.solvers) c.rest ∙ s.solvers;
    count = let inside = live-inside mid.kept x live in let n = c.kept.count in let m = s.count in omega (arith, n, m, inside);
    deleted = rest-more (λ y k. k.deleted ≡ (data_at old.kept y).deleted) s.deleted (e ∙ s.deleted x);
    units = rest-more (λ y k. k.unit ≡ (data_at old.kept y).unit) s.units (f ∙ s.units x);
  }

-- 3. Isolation.

pub joined-same : (d : List Literal) (old new : Tables) → AreJoined d old new → SameButMarks old new
joined-same d old new j = record {
  users = j.users;
  solvers = j.solvers;
  count = j.count;
  deleted = λ x. ap (λ k. k.deleted) (j.rest x);
  units =
      λ x. ap (λ k. k.unit) (j.rest x);
}

-- what is kept of a variable of a clause, once it is no longer isolated
pub record AreOpened (ls : List Literal) (old new : Tables) : Type 0 where
  pub same : SameButMarks old new
  pub rest : (x : ℕ) → data_at new.kept x ≡ record (data_at old.kept x) { isolated = (data_at new.kept x).isolated }
  pub fallen : (x : ℕ) → (data_at new.kept x).isolated ≡ true → (data_at old.kept x).isolated ≡ true
  pub opened : (l : Literal) (x : ℕ) → l ∈ ls → at old.users.forward (variable_of l) ≡ Some x → (data_at new.kept x).isolated ≡ false
  pub others : (x : ℕ) → ((l : Literal) → l ∈ ls → at old.users.forward (variable_of l) ≢ Some x) → data_at new.kept x ≡ data_at old.kept x

pub opened-none : (t : Tables) → AreOpened [] t t
opened-none t = record {
  same = record { users = refl; solvers = refl; count = refl; deleted = λ x. refl; units = λ x. refl };
  rest =
      λ x. refl;
  fallen = λ x e. e;
  opened = λ l x h. absurd h;
  others = λ x n. refl;
}

pub opened-more : (ls : List Literal) (old mid new : Tables) (l : Literal) (x : ℕ) → AreOpened ls old mid →
    at mid.users.forward (variable_of l) ≡ Some x → (data_at mid.kept x).deleted ≡ false →
    IsChangedTo mid new x (record (data_at mid.kept x) { isolated = false }) → AreOpened (ls ++ l ∷ []) old new
opened-more ls old mid new l x o e live c =
    let d : VarData = record (data_at mid.kept x) { isolated = false } in
    let own = ap (λ t. at t.forward (variable_of l)) (sym o.same.users) ∙ e in
    record {
      same = same-more old mid new x d c o.same live refl refl;
      rest = rest-more old mid new x d c (λ y k. k ≡ record (data_at old.kept y) { isolated = k.isolated }) o.rest
          (ap (λ (k : VarData). record k { isolated = false }) (o.rest x));
      fallen = rest-more old mid new x d c (λ y k. k.isolated ≡ true → (data_at old.kept y).isolated ≡ true) o.fallen
          (λ z. absurd (let f : false ≡ true = z in cc));
      opened = each-more old mid new x d c ls l (λ k. k.isolated ≡ false) o.opened own refl;
      others = λ y n. c.kept.at_each y ∙ updated-other (data_at mid.kept) x d y
          (λ q. n l (∈-append_right l ls (l ∷ []) (inl refl)) (own ∙ ap Some (sym q))) ∙ o.others y (λ k h. n k (∈-append_left k ls (l ∷ []) h));
    }

-- 4. Assumption.

pub marked-same : (ls : List Literal) (b : Bool) (old new : Tables) → AreMarked ls b old new → SameButMarks old new
marked-same ls b old new o = record {
  users = o.users;
  solvers = o.solvers;
  count = o.count;
  deleted = λ x. ap (λ k. k.deleted) (o.rest x);
  units =
      λ x. ap (λ k. k.unit) (o.rest x);
}

pub marked-none : (t : Tables) (b : Bool) → AreMarked [] b t t
marked-none t b = record { users = refl; solvers = refl; count = refl; rest = λ x. refl; marked = λ l x h. absurd h; others = λ x. inl refl }

pub marked-more : (ls : List Literal) (b : Bool) (old mid new : Tables) (l : Literal) (x : ℕ) → AreMarked ls b old mid →
    at mid.users.forward (variable_of l) ≡ Some x → (data_at mid.kept x).deleted ≡ false →
    IsChangedTo mid new x (record (data_at mid.kept x) { assumed = b }) → AreMarked (ls ++ l ∷ []) b old new
marked-more ls b old mid new l x o e live c =
    let d = record (data_at mid.kept x) { assumed = b } in
    let m = same-more old mid new x d c (marked-same ls b old mid o) live refl refl in
    let own = ap (λ t. at t.forward (variable_of l)) (sym o.users) ∙ e in
    record {
      users = m.users;
      solvers = m.solvers;
      count = m.count;
      rest = rest-more old mid new x d c (λ y k. k ≡ record (data_at old.kept y) { assumed = k.assumed }) o.rest
          (ap (λ (k : VarData). record k { assumed = b }) (o.rest x));
      marked = each-more old mid new x d c ls l (λ k. k.assumed ≡ b) o.marked own refl;
      others = rest-more old mid new x d c
          (λ y k. (k.assumed ≡ (data_at old.kept y).assumed) ⊎ ((m : Literal) × (m ∈ (ls ++ l ∷ [])) × (at old.users.forward (variable_of m) ≡ Some y)))
          (λ y. ⊎_elim (λ q. inl q) (λ (m, h, q). inr (m, ∈-append_left m ls (l ∷ []) h, q)) (o.others y))
          (inr (l, ∈-append_right l ls (l ∷ []) (inl refl), own));
    }

-- 5. Solver variables of names that are assumed.

-- they stay so as marks of isolation fall
pub assumed-joined : (d : List Literal) (old new : Tables) (v : ℕ) → AreJoined d old new → IsAssumedSolver old v → IsAssumedSolver new v
assumed-joined d old new v j (x, u, a, b, e) =
    (x, u, ap (λ (m : BiMap). at m.backward v) j.solvers ∙ a, ap (λ (m : BiMap). at m.backward x) j.users ∙ b, ap (λ k. k.assumed) (j.rest x) ∙ e)

-- those of the list are once its variables are marked
pub assumed-listed : (list : List Literal) (old mid new : Tables) (before : List Literal) → AreLinked old →
    ((l : Literal) → l ∈ list → HasSolver old (variable_of l)) → AreMarked before false old mid → AreMarked list true mid new → (l : Literal) →
    l ∈ map (carry (chain (at old.users.forward) (at old.solvers.forward))) list → IsAssumedSolver new (variable_of l)
assumed-listed list old mid new before linked taken cleared marked l h =
    let to = chain (at old.users.forward) (at old.solvers.forward) in
    let (m, i, q) = map-∈ (carry to) l list h in
    let (v, r) = taken m i in
    let (x, a, b) = chain-through (at old.users.forward) (at old.solvers.forward) (variable_of m) v r in
    let same : variable_of l ≡ v = ap variable_of q ∙ carry-at to m v r in
    subst (IsAssumedSolver new) (sym same) (
      x,
      variable_of m,
      ap (λ (t : BiMap). at t.backward v) (marked.solvers ∙ cleared.solvers) ∙ linked.solvers.there x v b,
      ap (λ (t : BiMap). at t.backward x) (marked.users ∙ cleared.users) ∙ linked.users.there (variable_of m) x a,
      marked.marked m x i (ap (λ (t : BiMap). at t.forward (variable_of m)) cleared.users ∙ a),
    )
