-- What stays in the tables where solver variables are dropped in turn.
use Rattle.std.proofs.Common.{◌≡◌, ◌≢◌, ◌↔◌, ℕ, ◌%◌, ◌<◌, Bool, true, false, IsTrue, Option, Some, None, List, [], ◌∷◌, ◌++◌, inl, inr, ⊎_elim, length, length-set, get_or, set, map, sym, ap, ◌∙◌, subst, refl, arith, eq-eqb, ne_eqb}
use Rattle.std.proofs.lemmas.List.{get_or-set_same, get_or-set_other}
use Rattle.varisat_theory.specs.promises.Membership.{◌∈◌, IsDistinct}
use Rattle.varisat_theory.specs.promises.Literals.{Literal, variable_of}
use Rattle.varisat_theory.proofs.clauses.Members.{equal_or_not, ∈-append_cases, ∈-append_left, ∈-append_right}
use Rattle.varisat_theory.proofs.journals.Renaming.{∈-map}
use Rattle.varisat_literals.specs.promises.Numbers.{polarity_of}
use Rattle.varisat_names.specs.promises.Maps.{updated}
use Rattle.varisat_names.specs.promises.VarMap.{at}
use Rattle.varisat_names.specs.promises.VarBiMap.{BiMap}
use Rattle.varisat_names.specs.promises.VarData.{data_at}
use Rattle.varisat_names.specs.promises.Variables.{Tables, AreLinked, IsChangedTo, IsDetached, unless_unused}
use Rattle.varisat_names.specs.declared.variables.data.VarData.{VarData}
use Rattle.varisat_names.proofs.Maps.{updated-at, updated-other, updated-all}
use Rattle.varisat_names.proofs.VarMap.{at-inside}
use Rattle.varisat_names.proofs.Tables.{live-inside}
use Rattle.varisat_theory.specs.promises.Journals.{Entry}
use Rattle.varisat_proof.specs.promises.Proving.{IsLogged}
use Rattle.varisat_tracer.specs.inside.Logged.{logged-none, logged-more}
use Rattle.varisat_tracer.specs.inside.Tracing.{TracerState, retires_if_deleted}
use Rattle.varisat_solver.specs.inside.Detached.{fixed_to, IsDetachedAlone, FlagsVariables, AreDetachedAlone, DetachesFromTables}
use Rattle.varisat_solver.proofs.leaving.DetachedTables.{IsLeft, AreLeft, kept-twice}

-- nothing was dropped
pub leaves-none : (old : Tables) → DetachesFromTables [] old old
leaves-none old = record { users = refl; solvers = refl; count = refl; gone = λ v l h. absurd h; stays = λ v n. refl; fewer = λ v x e. e; others = λ x n. refl }

-- what is kept of a variable is changed twice
pub changed-twice : (old mid new : Tables) (x : ℕ) (d e : VarData) → IsChangedTo old mid x d → IsChangedTo mid new x e → IsChangedTo old new x e
changed-twice old mid new x d e a b =
    record { kept = kept-twice old.kept mid.kept new.kept x d e a.kept b.kept; rest = b.rest ∙ ap (λ (t : Tables). record t { kept = new.kept }) a.rest }

-- one solver variable was dropped
pub leaves-dropped : (l : Literal) (old new : Tables) (x : ℕ) → x < length old.kept → IsDetached old new x (variable_of l) → DetachesFromTables (l ∷ []) old new
leaves-dropped l old new x live n =
    let v = variable_of l in
    let inside = at-inside old.solvers.backward v x n.taken in
    let w = n.solvers.backward.watermark in
    let count = n.kept.count in
    record {
      users = n.users;
      solvers = omega (arith, w, inside);
      count = omega (arith, count, live);
      gone = λ u m h q. ⊎_elim (λ e. n.solvers.backward.at_each u ∙ ap (updated (at old.solvers.backward) v None) (sym q ∙ ap variable_of e)
          ∙ updated-at (at old.solvers.backward) v None) (λ z. absurd z) h;
      stays = λ u o. n.solvers.backward.at_each u ∙ updated-other (at old.solvers.backward) v None u (λ q. o l (inl refl) (sym q));
      fewer = λ u y e. updated-all (λ u o. o ≡ Some y → at old.solvers.backward u ≡ Some y) (at old.solvers.backward) v None (λ q. absurd cc) u
          (λ _ q. q) (sym (n.solvers.backward.at_each u) ∙ e);
      others = λ y o. n.kept.at_each y ∙ updated-other (data_at old.kept) x (unless_unused (at old.users.backward x) (data_at old.kept x)) y
          (λ q. o l (inl refl) (n.taken ∙ ap Some (sym q)));
    }

-- the global variable of a solver variable is one of those that are kept
pub taken-live : (t : Tables) (v x : ℕ) → AreLinked t → at t.solvers.backward v ≡ Some x → x < length t.kept
taken-live t v x k e = live-inside t.kept x (k.taken x v (k.solvers.back x v e))

pub leaves-one : (l : Literal) (p q : TracerState) → AreLinked p.tables → IsDetachedAlone l p q → DetachesFromTables (l ∷ []) p.tables q.tables
leaves-one l p q k (x, mid, c, loses) =
    let old = p.tables in
    let n = loses.dropped in
    let users = ap (λ (t : Tables). t.users) c.rest in
    let same = ap (λ (t : Tables). t.solvers) c.rest in
    let pair : at old.solvers.backward (variable_of l) ≡ Some x = ap (λ (m : BiMap). at m.backward (variable_of l)) (sym same) ∙ n.taken in
    let live = taken-live old (variable_of l) x k pair in
    let first = c.kept.count in
    let more : x < length mid.kept = omega (arith, first, live) in
    let a = leaves-dropped l mid q.tables x more n in
    let count = a.count in
    record {
      users = a.users ∙ users;
      solvers = a.solvers ∙ ap (λ (m : BiMap). length m.backward) same;
      count = omega (arith, first, count, live);
      gone = a.gone;
      stays = λ u o. a.stays u o ∙ ap (λ (m : BiMap). at m.backward u) same;
      fewer = λ u y e. ap (λ (m : BiMap). at m.backward u) (sym same) ∙ a.fewer u y e;
      others = λ y o.
          a.others y (λ m h e. o m h (ap (λ (b : BiMap). at b.backward (variable_of m)) (sym same) ∙ e))
          ∙ c.kept.at_each y ∙ updated-other (data_at old.kept) x (fixed_to (polarity_of l) (data_at old.kept x)) y
          (λ q. o l (inl refl) (pair ∙ ap Some (sym q)));
    }

-- one more was dropped
pub leaves-then : (ls : List Literal) (l : Literal) (old mid new : Tables) → DetachesFromTables ls old mid → DetachesFromTables (l ∷ []) mid new →
    DetachesFromTables (ls ++ l ∷ []) old new
leaves-then ls l old mid new a b = record {
  users = b.users ∙ a.users;
  solvers = b.solvers ∙ a.solvers;
  count = b.count ∙ a.count;
  gone = λ v m h q. ⊎_elim
      (λ i. none v (λ x e. let z : None ≡ Some x = sym (a.gone v m i q) ∙ b.fewer v x e in cc))
      (λ i. b.gone v m i q)
      (∈-append_cases m ls (l ∷ []) h);
  stays = λ v n. b.stays v (λ m h. n m (∈-append_right m ls (l ∷ []) h)) ∙ a.stays v (λ m h. n m (∈-append_left m ls (l ∷ []) h));
  fewer = λ v x e. a.fewer v x (b.fewer v x e);
  others = λ x n. b.others x (λ m h e. n m (∈-append_right m ls (l ∷ []) h) (a.fewer (variable_of m) x e))
      ∙ a.others x (λ m h. n m (∈-append_left m ls (l ∷ []) h));
}
  where
    none : (v : ℕ) → ((x : ℕ) → at new.solvers.backward v ≡ Some x → ⊥) → at new.solvers.backward v ≡ None
    none v n = go (at new.solvers.backward v) refl
      where
        go : (o : Option ℕ) → at new.solvers.backward v ≡ o → o ≡ None
        go None e = refl
        go (Some x) e = absurd (n x e)

pub dropped-push : (ls : List Literal) (l : Literal) (p mid q : TracerState) → AreDetachedAlone ls p mid → IsDetachedAlone l mid q →
    AreDetachedAlone (ls ++ l ∷ []) p q
dropped-push [] l p mid q e d = (q, subst (λ t. IsDetachedAlone l t q) e d, refl)
dropped-push (m ∷ ls) l p mid q (t, a, rest) d = (t, a, dropped-push ls l t mid q rest d)

-- as the laws of dropping say it, where the values are fixed
pub left-alone : (known : ℕ → Option Bool) (ls : List Literal) (p q : TracerState) →
    ((l : Literal) → l ∈ ls → known (variable_of l) ≡ Some (polarity_of l)) → AreDetachedAlone ls p q → AreLeft known (map variable_of ls) p q
left-alone known [] p q k e = e
left-alone known (l ∷ ls) p q k (mid, a, rest) =
    (mid, subst (λ o. IsLeft o p mid (variable_of l)) (sym (k l (inl refl))) a, left-alone known ls mid q (λ m h. k m (inr h)) rest)

-- what the proof logged meanwhile
pub dropped-logged : (ls : List Literal) (p q : TracerState) → AreDetachedAlone ls p q → (given : List Entry) × IsLogged p.proof given q.proof
dropped-logged [] p q e = ([], subst (λ (t : TracerState). IsLogged p.proof [] t.proof) (sym e) (logged-none p.proof))
dropped-logged (l ∷ ls) p q (mid, (x, t, c, loses), rest) =
    let (given, logged) = dropped-logged ls mid q rest in
    let first = retires_if_deleted mid.tables x in
    (first ++ given, logged-more p.proof mid.proof q.proof first given loses.logged logged)

-- none of the first ones is over the variable of a later one
pub distinct-after : (front : List Literal) (l : Literal) (rest : List Literal) → IsDistinct (map variable_of (front ++ (l ∷ rest))) →
    (m : Literal) → m ∈ front → variable_of m ≢ variable_of l
distinct-after [] l rest d m h q = absurd h
distinct-after (k ∷ front) l rest d m (inl e) q =
    d.0 (subst (λ v. v ∈ map variable_of (front ++ (l ∷ rest))) (sym q ∙ ap variable_of e)
    (∈-map variable_of l (front ++ (l ∷ rest)) (∈-append_right l front (l ∷ rest) (inl refl))))
distinct-after (k ∷ front) l rest d m (inr h) q = distinct-after front l rest d.1 m h q

-- the sign of a literal
pub sign-same : (l : Literal) (b : Bool) → IsTrue b ↔ (l % 2 ≡ 0) → b ≡ polarity_of l
sign-same l true p = sym (eq-eqb (l % 2) 0 (p.0 refl))
sign-same l false p = sym (ne_eqb (l % 2) 0 (λ e. let z : false ≡ true = p.1 e in cc))

-- one more variable is flagged
pub flags-push : (size : ℕ) (ls : List Literal) (l : Literal) (flags : List Bool) (i : ℕ) → i ≡ variable_of l → i < length flags →
    FlagsVariables size ls flags → FlagsVariables size (ls ++ l ∷ []) (set flags i true)
flags-push size ls l flags i e h f = record {
  count = length-set flags i true ∙ f.count;
  flagged = λ v. (
    λ a. ⊎_elim
        (λ q. (l, ∈-append_right l ls (l ∷ []) (inl refl), sym e ∙ sym q))
        (λ n. let (m, b, q) = (f.flagged v).0 (sym (get_or-set_other flags i v true false n) ∙ a) in (m, ∈-append_left m ls (l ∷ []) b, q))
        (equal_or_not v i),
    λ (m, b, q). ⊎_elim
        (λ r. ap (λ w. get_or (set flags i true) w false) r ∙ get_or-set_same flags i true false h)
        (λ n. get_or-set_other flags i v true false n ∙ ⊎_elim
        (λ c. (f.flagged v).1 (m, c, q))
        (λ c. ⊎_elim (λ o. absurd (n (sym q ∙ ap variable_of o ∙ sym e))) (λ z. absurd z) c)
        (∈-append_cases m ls (l ∷ []) b))
        (equal_or_not v i),
  );
}
