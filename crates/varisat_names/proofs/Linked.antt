-- Changes that keep the tables linked.
use Rattle.std.proofs.Common.{◌≡◌, ◌<◌, ℕ, zero, suc, true, false, Option, Some, None, Result, Ok, Err, OnOk, OnErr, List, [], ◌∷◌, length, ⊎_elim, sym, ap, ◌∙◌, subst, refl, arith}
use Rattle.varisat_names.specs.promises.VarMap.{at}
use Rattle.varisat_names.specs.promises.VarBiMap.{BiMap, turned, IsJoined, IsParted}
use Rattle.varisat_names.specs.promises.VarData.{dead, data_at, IsDataAt, AreDeleted}
use Rattle.varisat_names.specs.promises.Variables.{Tables, AreLinked, unused}
use Rattle.varisat_names.specs.declared.variables.data.VarData.{VarData}
use Rattle.std.specs.BTreeSet.{BTreeSet}
use Rattle.varisat_names.proofs.Maps.{updated-all, updated-at, updated-other, is-some}
use Rattle.varisat_names.proofs.VarMap.{joined-inverse, parted-inverse}

-- one more pair, and one less, from the other side
pub joined-turned : (old new : BiMap) (from into : ℕ) → IsJoined old new from into → IsJoined (turned old) (turned new) into from
joined-turned old new from into j = record { forward = j.backward; backward = j.forward }

pub parted-turned : (old new : BiMap) (from into : ℕ) → IsParted old new from into → IsParted (turned old) (turned new) into from
parted-turned old new from into p = record { forward = p.backward; backward = p.forward }

-- a variable that is not live has no name
pub dead-unnamed : (t : Tables) (x : ℕ) → AreLinked t → (data_at t.kept x).deleted ≡ true → at t.users.backward x ≡ None
dead-unnamed t x l d = ⊎_elim (λ e. e) (λ (u, e). let z : true ≡ false = sym d ∙ l.named x u e in absurd cc) (is-some (at t.users.backward x))

-- data of a live variable
pub keep-live : (t : Tables) (kept : List VarData) (x : ℕ) (d : VarData) → AreLinked t → d.deleted ≡ false → IsDataAt t.kept x d kept →
    AreLinked (record t { kept = kept })
keep-live t kept x d l e k = record {
  users = l.users;
  solvers = l.solvers;
  named = λ y u h. ap (λ z. z.deleted) (k.at_each y) ∙ updated-all (λ _ z. z.deleted ≡ false) (data_at t.kept) x d e y (λ _. l.named y u h);
  taken = λ y v h. ap (λ z. z.deleted) (k.at_each y) ∙ updated-all (λ _ z. z.deleted ≡ false) (data_at t.kept) x d e y (λ _. l.taken y v h);
}

-- a variable without a name and a solver variable
pub keep-dead : (t : Tables) (kept : List VarData) (x : ℕ) (d : VarData) → AreLinked t → at t.users.backward x ≡ None →
    at t.solvers.forward x ≡ None → IsDataAt t.kept x d kept → AreLinked (record t { kept = kept })
keep-dead t kept x d l a b k = record {
  users = l.users;
  solvers = l.solvers;
  named = λ y u h. ap (λ z. z.deleted)
      (k.at_each y ∙ updated-other (data_at t.kept) x d y (λ q. let z : None ≡ Some u = sym a ∙ ap (at t.users.backward) (sym q) ∙ h in absurd cc))
      ∙ l.named y u h;
  taken = λ y v h. ap (λ z. z.deleted)
      (k.at_each y ∙ updated-other (data_at t.kept) x d y (λ q. let z : None ≡ Some v = sym b ∙ ap (at t.solvers.forward) (sym q) ∙ h in absurd cc))
      ∙ l.taken y v h;
}

-- a live variable gets a name
pub join-users : (t : Tables) (users : BiMap) (u x : ℕ) → AreLinked t → (data_at t.kept x).deleted ≡ false → at t.users.forward u ≡ None →
    at t.users.backward x ≡ None → IsJoined t.users users u x → AreLinked (record t { users = users })
join-users t users u x l d a b j = record {
  users = joined-inverse t.users.forward t.users.backward users.forward users.backward u x l.users a b j.forward j.backward;
  solvers = l.solvers;
  named = λ y w h. updated-all (λ y o. o ≡ Some w → (data_at t.kept y).deleted ≡ false) (at t.users.backward) x (Some u) (λ _. d) y
      (λ _ e. l.named y w e) (sym (j.backward.at_each y) ∙ h);
  taken = l.taken;
}

-- a live variable gets a solver variable
pub join-solvers : (t : Tables) (solvers : BiMap) (x v : ℕ) → AreLinked t → (data_at t.kept x).deleted ≡ false → at t.solvers.forward x ≡ None →
    at t.solvers.backward v ≡ None → IsJoined t.solvers solvers x v → AreLinked (record t { solvers = solvers })
join-solvers t solvers x v l d a b j = record {
  users = l.users;
  solvers = joined-inverse t.solvers.forward t.solvers.backward solvers.forward solvers.backward x v l.solvers a b j.forward j.backward;
  named = l.named;
  taken = λ y w h. updated-all (λ y o. o ≡ Some w → (data_at t.kept y).deleted ≡ false) (at t.solvers.forward) x (Some v) (λ _. d) y
      (λ _ e. l.taken y w e) (sym (j.forward.at_each y) ∙ h);
}

-- a name is free again
pub part-users : (t : Tables) (users : BiMap) (u x : ℕ) → AreLinked t → at t.users.forward u ≡ Some x → IsParted t.users users u x →
    AreLinked (record t { users = users })
part-users t users u x l a p = record {
  users = parted-inverse t.users.forward t.users.backward users.forward users.backward u x l.users a p.forward p.backward;
  solvers = l.solvers;
  named = λ y w h. updated-all (λ y o. o ≡ Some w → (data_at t.kept y).deleted ≡ false) (at t.users.backward) x None (λ e. absurd cc) y
      (λ _ e. l.named y w e) (sym (p.backward.at_each y) ∙ h);
  taken = l.taken;
}

-- a solver variable is free again
pub part-solvers : (t : Tables) (solvers : BiMap) (x v : ℕ) → AreLinked t → at t.solvers.forward x ≡ Some v → IsParted t.solvers solvers x v →
    AreLinked (record t { solvers = solvers })
part-solvers t solvers x v l a p = record {
  users = l.users;
  solvers = parted-inverse t.solvers.forward t.solvers.backward solvers.forward solvers.backward x v l.solvers a p.forward p.backward;
  named = l.named;
  taken = λ y w h. updated-all (λ y o. o ≡ Some w → (data_at t.kept y).deleted ≡ false) (at t.solvers.forward) x None (λ e. absurd cc) y
      (λ _ e. l.taken y w e) (sym (p.forward.at_each y) ∙ h);
}

-- a variable that just came into use gets a name
pub give-users : (t : Tables) (users : BiMap) (kept : List VarData) (u x : ℕ) (d : VarData) → AreLinked t → d.deleted ≡ false →
    (data_at t.kept x).deleted ≡ true → at t.users.forward u ≡ None → IsJoined t.users users u x → IsDataAt t.kept x d kept →
    AreLinked (record t { users = users; kept = kept })
give-users t users kept u x d l e c a j k =
    join-users (record t { kept = kept }) users u x (keep-live t kept x d l e k)
    (ap (λ z. z.deleted) (k.at_each x ∙ updated-at (data_at t.kept) x d) ∙ e) a (dead-unnamed t x l c) j

-- a name is free again, and other data is kept of its variable, which is live
pub hide-users : (t : Tables) (users : BiMap) (kept : List VarData) (u x : ℕ) (d : VarData) → AreLinked t → d.deleted ≡ false →
    at t.users.forward u ≡ Some x → IsParted t.users users u x → IsDataAt t.kept x d kept → AreLinked (record t { users = users; kept = kept })
hide-users t users kept u x d l e a p k = keep-live (record t { users = users }) kept x d (part-users t users u x l a p) e k

-- a solver variable is free again, and the variable that had it
pub free-solvers : (t : Tables) (solvers : BiMap) (kept : List VarData) (x v : ℕ) → AreLinked t → at t.solvers.forward x ≡ Some v →
    at t.users.backward x ≡ None → IsParted t.solvers solvers x v → IsDataAt t.kept x dead kept → AreLinked (record t { solvers = solvers; kept = kept })
free-solvers t solvers kept x v l a b p k = keep-dead (record t { solvers = solvers }) kept x dead (part-solvers t solvers x v l a p) b
    (p.forward.at_each x ∙ updated-at (at t.solvers.forward) x None) k

-- what stays the same
pub same-tables : (t : Tables) (users solvers : BiMap) (kept : List VarData) → users ≡ t.users → solvers ≡ t.solvers → kept ≡ t.kept → AreLinked t →
    AreLinked (record { users = users; solvers = solvers; kept = kept })
same-tables t users solvers kept a b c l = subst (λ k. AreLinked (record { users = users; solvers = solvers; kept = k })) (sym c)
    (subst (λ s. AreLinked (record { users = users; solvers = s; kept = t.kept })) (sym b)
    (subst (λ m. AreLinked (record { users = m; solvers = t.solvers; kept = t.kept })) (sym a) l))

pub same-deleted : (old new : List VarData) (free left : BTreeSet ℕ) → new ≡ old → left ≡ free → AreDeleted old free → AreDeleted new left
same-deleted old new free left a b h = subst (λ k. AreDeleted k left) (sym a) (subst (λ f. AreDeleted old f) (sym b) h)

-- a result is Ok or an error
pub on-either : {X E G P Q : Type 0} (r : Result X E) → OnOk r P → OnErr r Q → (P → G) → (Q → G) → G
on-either (Ok x) p q f h = f p
on-either (Err e) p q f h = h q

pub on-either-two : {X E G P R Q S : Type 0} (r : Result X E) → OnOk r P → OnOk r R → OnErr r Q → OnErr r S → (P → R → G) → (Q → S → G) → G
on-either-two (Ok x) p s q t f h = f p s
on-either-two (Err e) p s q t f h = h q t

-- lists that keep the same of each variable
same-kept : (xs ys : List VarData) → length xs ≡ length ys → ((i : ℕ) → data_at xs i ≡ data_at ys i) → xs ≡ ys
same-kept [] [] l h = refl
same-kept [] (y ∷ ys) l h = absurd omega (arith, l)
same-kept (x ∷ xs) [] l h = absurd omega (arith, l)
same-kept (x ∷ xs) (y ∷ ys) l h = ap (λ z. z ∷ xs) (h zero) ∙ ap (λ zs. y ∷ zs) (same-kept xs ys (omega (arith, l)) (λ i. h (suc i)))

-- a variable that was deleted and got its data back
pub restored : (old mid new : List VarData) (x : ℕ) (d : VarData) → x < length old → d ≡ data_at old x → IsDataAt old x dead mid →
    IsDataAt mid x d new → new ≡ old
restored old mid new x d b e k m =
    let p = k.count in
    let q = m.count in
    same-kept new old (omega (arith, b, p, q))
    (λ i. m.at_each i ∙ updated-all (λ i z. z ≡ data_at old i) (data_at mid) x d e i (λ n. k.at_each i ∙ updated-other (data_at old) x dead i n))

-- a variable that loses its name or its solver variable
pub unused-none : (o : Option ℕ) (d : VarData) → unused o d ≡ true → o ≡ None
unused-none None d e = refl
unused-none (Some y) d e = absurd cc
