-- What changes of the tables add up to.
use Rattle.std.proofs.Common.{◌≡◌, ◌<◌, ◌≤◌, ◌↔◌, ℕ, is_gt, zero, suc, ◌+◌, ◌-◌, true, false, Option, Some, None, List, [], ◌∷◌, length, slice_set, sym, ap, ◌∙◌, subst, refl, arith, ⊎_elim}
use Rattle.std.proofs.lemmas.Bool.{cases_lt}
use Rattle.std.proofs.lemmas.List.{length-set, get_or-set_same, get_or-set_other}
use Rattle.std.proofs.lemmas.Bool.Decides.{nat_tests}
use Rattle.std.specs.Ordering.{nat_cmp}
use Rattle.std.specs.BTreeSet.{BTreeSet, contains}
use Rattle.std.specs.BTreeMap.{is_at}
use Rattle.varisat_theory.proofs.clauses.Members.{equal_or_not}
use Rattle.varisat_names.specs.promises.VarMap.{at, IsPut, IsFull, IsLeastUnmapped}
use Rattle.varisat_names.specs.promises.VarData.{fresh, dead, DataList, data_at, IsDataAt, IsLeastRetired, AreDeleted}
use Rattle.varisat_names.specs.promises.Variables.{Tables, AreLinked, IsGiven, AreNextGiven, IsTaken, IsNothingHidden, AreFree}
use Rattle.varisat_names.specs.declared.variables.data.VarData.{VarData}
use Rattle.varisat_names.proofs.VarMap.{at-inside}
use Rattle.varisat_names.proofs.Maps.{updated-all, updated-at, updated-other}
use Rattle.varisat_names.specs.promises.Maps.{updated}

-- another entry
pub set-kept : (xs : List VarData) (x i : ℕ) (d : VarData) → i ≡ x → x < length xs → IsDataAt xs x d (slice_set xs i d)
set-kept xs x i d e h =
    let c = length-set xs i d in
    record {
      count = omega (arith, c, h);
      at_each = λ j. ap (λ k. data_at (slice_set xs k d) j) e ∙ updated-all (λ m o. data_at (slice_set xs x d) m ≡ o) (data_at xs) x d
          (get_or-set_same xs x d dead h) j (λ n. get_or-set_other xs x j d dead n);
    }

-- other data, and a list of what may be used again that changed at the same place
module _ (old new : List VarData) (free changed : BTreeSet ℕ) (x i : ℕ) (d : VarData) (is : i ≡ x) (inside : x < length old) (put : IsDataAt old x d new)
    (listed : AreDeleted old free) (there : contains nat_cmp changed i ≡ d.deleted)
    (others : (y : ℕ) → is_at (nat_cmp i) y ≡ false → contains nat_cmp changed y ≡ contains nat_cmp free y) where
  other-place : (y : ℕ) → (y ≡ x → ⊥) → is_at (nat_cmp i) y ≡ false
  other-place y n = grind (arith, nat_tests, is, n)

  listed-put : AreDeleted new changed
  listed-put y =
      let count = put.count in
      ⊎_elim
      (λ e. subst (λ j. (contains nat_cmp changed j ≡ true) ↔ ((j < length new) × ((data_at new j).deleted ≡ true))) (sym e)
      (let flag = ap (λ k. k.deleted) (put.at_each x ∙ updated-at (data_at old) x d) in
      let here = subst (λ j. contains nat_cmp changed j ≡ d.deleted) is there in (
        (λ m. (omega (arith, count, inside), flag ∙ sym here ∙ m)),
        (λ p. here ∙ sym flag ∙ p.1),
      )))
      (λ n.
      let flag = ap (λ k. k.deleted) (put.at_each y ∙ updated-other (data_at old) x d y n) in
      let same = others y (other-place y n) in (
        (λ m. let r = (listed y).0 (sym same ∙ m) in let below = r.0 in (omega (arith, below, count, inside), flag ∙ r.1)),
        (λ p. let below = p.0 in same ∙ (listed y).1 (omega (arith, below, count, inside), sym flag ∙ p.1)),
      ))
      (equal_or_not y x)

-- the same of tables whose list has other data at one place
pub listed-set : {old given : DataList} {new : List VarData} {x i : ℕ} (changed : BTreeSet ℕ) (d : VarData) → old ≡ given → x < length given.kept →
    AreDeleted given.kept given.free → new ≡ slice_set old.kept x d → i ≡ x → contains nat_cmp changed i ≡ d.deleted →
    ((y : ℕ) → is_at (nat_cmp i) y ≡ false → contains nat_cmp changed y ≡ contains nat_cmp old.free y) → AreDeleted new changed
listed-set {old} {given} {new} {x} {i} changed d same made listed e is there others =
    let inside = subst (λ k. x < length k.kept) (sym same) made in
    listed-put old.kept new old.free changed x i d is inside
    (subst (λ ks. IsDataAt old.kept x d ks) (sym e) (set-kept old.kept x x d refl inside))
    (subst (λ k. AreDeleted k.kept k.free) (sym same) listed) there others

-- no variable past the list is live
pub kept-past : (xs : List VarData) (i : ℕ) → length xs ≤ i → (data_at xs i).deleted ≡ true
kept-past [] i h = refl
kept-past (x ∷ xs) zero h = absurd omega (arith, h)
kept-past (x ∷ xs) (suc i) h = kept-past xs i (omega (arith, h))

-- a live variable is in the list
pub live-inside : (xs : List VarData) (i : ℕ) → (data_at xs i).deleted ≡ false → i < length xs
live-inside xs i h = ⊎_elim (λ l. l) (λ l. let e = kept-past xs i l in absurd cc) (cases_lt i (length xs))

-- a variable with a name is in the list
pub named-inside : (t : Tables) (u x : ℕ) → AreLinked t → at t.users.forward u ≡ Some x → x < length t.kept
named-inside t u x l e = live-inside t.kept x (l.named x u (l.users.there u x e))

-- the least variable that is not live is not above the count
pub least-near : (xs : List VarData) (x : ℕ) → IsLeastRetired xs x → x ≤ length xs
least-near xs x (d, l) = ⊎_elim (λ p. let e = kept-past xs (length xs) (omega arith) in let f = l (length xs) p in absurd cc) (λ p. p) (cases_lt (length xs) x)

-- one more name at the end of those that came into use
pub next-snoc : (k : ℕ) (old mid new : Tables) (x : ℕ) → AreNextGiven k old mid → IsGiven mid new (length mid.users.forward) x → AreNextGiven (suc k) old new
next-snoc zero old mid new x e g = (new, x, subst (λ t. IsGiven t new (length t.users.forward) x) e g, refl)
next-snoc (suc k) old mid new x (t, y, h, r) g = (t, y, h, next-snoc k t mid new x r g)

-- How far the names from the watermark w on up to u came into use.
pub record AreGivenUpTo (w u : ℕ) (old now : Tables) (index : ℕ) : Type 0 where
  pub names : AreNextGiven (index - w) old now
  pub watermark : length now.users.forward ≡ index
  pub count : length now.kept ≤ length old.kept + (index - w)
  pub bounded : index - w ≤ u + 1 - w

pub one-more : (w u : ℕ) (old now new : Tables) (index x : ℕ) → w ≤ index → index < u + 1 → AreGivenUpTo w u old now index →
    IsGiven now new index x → AreGivenUpTo w u old new (index + 1)
one-more w u old now new index x a b h g =
    let e : suc (index - w) ≡ index + 1 - w = omega (arith, a) in
    let near = least-near now.kept x g.unused in
    let q = g.kept.count in
    let c = h.count in
    let p = g.users.forward.watermark in
    let m = h.watermark in
    record {
      names = subst (λ k. AreNextGiven k old new) e (next-snoc (index - w) old now new x h.names (subst (λ i. IsGiven now new i x) (sym m) g));
      watermark = omega (arith, p, m);
      count = omega (arith, near, q, c, a);
      bounded = omega (arith, a, b);
    }

-- the least free name where all below the watermark are in use
pub least-full : (map : List (Option ℕ)) (u : ℕ) → IsFull map → IsLeastUnmapped map u → u ≤ length map → u ≡ length map
least-full map u f (e, l) h = ⊎_elim (λ p. absurd (f u p e)) (λ p. omega (arith, p, h)) (cases_lt u (length map))

-- the least number of the set of free names
pub least-free : (map : List (Option ℕ)) (free : BTreeSet ℕ) (u : ℕ) → AreFree map free → contains nat_cmp free u ≡ true →
    ((v : ℕ) → contains nat_cmp free v ≡ true → is_gt (nat_cmp u v) ≡ false) → IsLeastUnmapped map u
least-free map free u h m l =
    let (inside, none) = (h u).0 m in (
      none,
      λ v b e. let above = l v ((h v).1 (omega (arith, b, inside), e)) in absurd (grind (arith, nat_tests, above, b)),
    )

-- a full map with one more pair at its end
pub full-put : (old new : List (Option ℕ)) (v : ℕ) → IsFull old → IsPut old (length old) (Some v) new → IsFull new
full-put old new v f p u h e =
    let w = p.watermark in
    let at_u : at new u ≡ None = e in
    updated-all (λ i o. i < length new → o ≡ None → ⊥) (at old) (length old) (Some v) (λ _ q. absurd cc) u
    (λ n b q. f u (omega (arith, n, b, w)) q) h (sym (p.at_each u) ∙ at_u)

-- what is kept of another variable stays live
live-put : (old new : List VarData) (x : ℕ) (d : VarData) → d.deleted ≡ false → ((y : ℕ) → y < length old → (data_at old y).deleted ≡ false) →
    IsDataAt old x d new → x ≤ length old → (y : ℕ) → y < length new → (data_at new y).deleted ≡ false
live-put old new x d h f p n y b =
    let w = p.count in
    ap (λ k. k.deleted) (p.at_each y) ∙ updated-all (λ i k. i < length new → k.deleted ≡ false) (data_at old) x d (λ _. h) y
    (λ e c. f y (omega (arith, e, c, w, n))) b

-- the least variable that is not live where all are
pub least-live : (xs : List VarData) (x : ℕ) → ((y : ℕ) → y < length xs → (data_at xs y).deleted ≡ false) → IsLeastRetired xs x → x ≡ length xs
least-live xs x f l = ⊎_elim (λ p. let e = f x p in let d = l.0 in absurd cc) (λ p. let n = least-near xs x l in omega (arith, p, n)) (cases_lt x (length xs))

-- Where nothing was hidden yet a name that comes into use is the watermark, and leads to the variable of the same number.
pub given-same : (old new : Tables) (u x : ℕ) → IsNothingHidden old → u ≡ length old.users.forward → IsGiven old new u x → (x ≡ u) × IsNothingHidden new
given-same old new u x p e g =
    let here : x ≡ length old.kept = least-live old.kept x p.live g.unused in
    let c = p.count in
    let same : x ≡ u = omega (arith, here, c, e) in
    let w = g.users.forward.watermark in
    let k = g.kept.count in (
      same,
      record {
        users = λ v b. g.users.forward.at_each v ∙ updated-all (λ i o. i < length new.users.forward → o ≡ Some i) (at old.users.forward) u (Some x)
            (λ _. ap Some same) v (λ n h. p.users v (omega (arith, n, h, w, e))) b;
        count = omega (arith, w, k, c, same, e);
        live = live-put old.kept new.kept x fresh refl p.live g.kept (omega (arith, here));
        solvers = subst (λ m. IsFull m.backward) (sym g.solvers) p.solvers;
      },
    )

-- So it is for names in a row.
pub next-given-same : (k : ℕ) (old new : Tables) → IsNothingHidden old → AreNextGiven k old new → IsNothingHidden new
next-given-same zero old new p e = subst (λ t. IsNothingHidden t) (sym e) p
next-given-same (suc k) old new p (t, x, g, r) = next-given-same k t new (given-same old t (length old.users.forward) x p refl g).1 r

-- Where nothing was hidden yet a solver variable that is taken is the watermark.
pub taken-next : (old new : Tables) (x v : ℕ) → IsNothingHidden old → v ≤ length old.solvers.backward → IsTaken old new x v →
    (v ≡ length old.solvers.backward) × IsNothingHidden new
taken-next old new x v p h t =
    let here = least-full old.solvers.backward v p.solvers t.least h in (
      here,
      record {
        users = subst (λ m. (u : ℕ) → u < length m.forward → at m.forward u ≡ Some u) (sym t.users) p.users;
        count = ap length t.kept ∙ p.count ∙ ap (λ m. length m.forward) (sym t.users);
        live = subst (λ xs. (y : ℕ) → y < length xs → (data_at xs y).deleted ≡ false) (sym t.kept) p.live;
        solvers = full-put old.solvers.backward new.solvers.backward x p.solvers
            (subst (λ i. IsPut old.solvers.backward i (Some x) new.solvers.backward) here t.solvers.backward);
      },
    )

-- a name in use stays when the next ones come into use
pub next-keeps : (k : ℕ) (old new : Tables) (u x : ℕ) → AreNextGiven k old new → at old.users.forward u ≡ Some x → at new.users.forward u ≡ Some x
next-keeps zero old new u x e h = subst (λ t. at t.users.forward u ≡ Some x) (sym e) h
next-keeps (suc k) old new u x (t, y, g, r) h =
    let n : u ≡ length old.users.forward → ⊥ = λ q. let b = at-inside old.users.forward u x h in omega (arith, b, q) in
    next-keeps k t new u x r (g.users.forward.at_each u ∙ updated-other (at old.users.forward) (length old.users.forward) (Some y) u n ∙ h)

-- a name that was named is in use
pub named-in-use : (k : ℕ) (old new : Tables) (u : ℕ) → AreNextGiven k old new → length old.users.forward ≤ u → u < length old.users.forward + k →
    (x : ℕ) × (at new.users.forward u ≡ Some x)
named-in-use zero old new u e a b = absurd omega (arith, a, b)
named-in-use (suc k) old new u (t, x, g, r) a b =
    let w = g.users.forward.watermark in
    ⊎_elim
    (λ p. named-in-use k t new u r (omega (arith, p, w)) (omega (arith, b, w)))
    (λ p. let q : u ≡ length old.users.forward = omega (arith, a, p) in (
      x,
      next-keeps k t new u x r (g.users.forward.at_each u ∙ ap (λ i. updated (at old.users.forward) (length old.users.forward) (Some x) i) q
          ∙ updated-at (at old.users.forward) (length old.users.forward) (Some x)),
    ))
    (cases_lt (length old.users.forward) u)
