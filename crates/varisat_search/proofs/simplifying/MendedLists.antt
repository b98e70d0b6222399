-- Watch lists as they are mended.
use Rattle.std.proofs.Common.{◌≡◌, ◌≢◌, ℕ, ◌+◌, ◌<◌, ◌≤◌, ◌++◌, false, true, List, [], ◌∷◌, length, get_or, set, take, drop, inl, inr, ⊎_elim, refl, sym, ap, ◌∙◌, subst, arith, get_or-set_same, get_or-set_other, length-set}
use Rattle.std.proofs.lemmas.List.{append-nil, take_more_set, drop-set-lt, drop_more, drop_all}
use Rattle.varisat_theory.specs.promises.Membership.{◌∈◌}
use Rattle.varisat_theory.specs.promises.Literals.{Literal}
use Rattle.varisat_theory.proofs.clauses.Members.{equal_or_not, ∈-append_left, ∈-append_right, ∈-append_cases}
use Rattle.varisat_clause.specs.Stored.{StoredClause, IsClauseRef, stored_at, literals_at, header_at}
use Rattle.varisat_clause.specs.Stores.{Store, stored_clauses, IsSound}
use Rattle.varisat_clause.specs.Collected.{live_clauses}
use Rattle.varisat_clause.proofs.StoredClauses.{stored-∈}
use Rattle.varisat_clause.proofs.DatabaseTracks.{place-is}
use Rattle.varisat_clause.proofs.LiveStore.{live-∈, ∈-live, live-stored}
use Rattle.varisat_prop.specs.declared.prop.watch_list.Watch.{Watch}
use Rattle.varisat_prop.specs.Watches.{Watches, watches_of, with_watches, HasWatch, NameOnce}
use Rattle.varisat_prop.proofs.watching.WatchesOnce.{once-dropped, once-moved}
use Rattle.varisat_search.specs.MendedLists.{AreMended, MendsLists}

-- 1. A watch.
pub still-live : (s : Store) (p : ℕ) → IsClauseRef (stored_clauses s) p → (header_at (stored_clauses s) p).deleted ≡ false → IsClauseRef (live_clauses s) p
still-live s p h e = (
  stored_at (stored_clauses s) p,
  ∈-live (stored_clauses s) (stored_at (stored_clauses s) p)
      (stored-∈ (stored_clauses s) p h) e,
  place-is (stored_clauses s) p h,
)

pub not-live : (s : Store) (p : ℕ) → IsSound s → (header_at (stored_clauses s) p).deleted ≡ true → IsClauseRef (live_clauses s) p → ⊥
not-live s p ok e h =
    let f = (live-∈ (stored_clauses s) (stored_at (live_clauses s) p) (stored-∈ (live_clauses s) p h)).1 in
    let g = ap (λ (k : StoredClause). k.header.deleted) (live-stored s p ok h) in
    let z : true ≡ false = sym e ∙ g ∙ f in cc

-- 2. A list, of which some watches are mended and the rest is still to be read.
pub record Mending (ks : List StoredClause) (ws kept rest : List Watch) : Type 0 where
  pub each : (v : Watch) → v ∈ kept → IsClauseRef ks v.cref × (v.blocking ∈ literals_at ks v.cref) × HasWatch ws v.cref
  pub left : (v : Watch) → v ∈ rest → v ∈ ws
  pub all : (w : Watch) → w ∈ ws → IsClauseRef ks w.cref → HasWatch (kept ++ rest) w.cref
  pub once : NameOnce ws → NameOnce (kept ++ rest)

mending-start : (ks : List StoredClause) (ws : List Watch) → Mending ks ws [] ws
mending-start ks ws = record { each = λ v h. absurd h; left = λ v h. h; all = λ w h p. (w, h, refl); once = λ o. o }

module _ (ks : List StoredClause) (ws kept rest : List Watch) (w : Watch) (m : Mending ks ws kept (w ∷ rest)) where
  mending-dropped : (IsClauseRef ks w.cref → ⊥) → Mending ks ws kept rest
  mending-dropped n = record {
    each = m.each;
    left = λ v h. m.left v (inr h);
    all = λ y h p.
        let (z, i, e) = m.all y h p in
        ⊎_elim
        (λ k. (z, ∈-append_left z kept rest k, e))
        (λ k. ⊎_elim (λ f. absurd (n (subst (IsClauseRef ks) (sym e ∙ ap (λ (x : Watch). x.cref) f) p))) (λ o. (z, ∈-append_right z kept rest o, e)) k)
        (∈-append_cases z kept (w ∷ rest) i);
    once = λ o. once-dropped kept rest w (m.once o);
  }

  mending-kept : (x : Watch) → x.cref ≡ w.cref → IsClauseRef ks x.cref → x.blocking ∈ literals_at ks x.cref → Mending ks ws (kept ++ x ∷ []) rest
  mending-kept x e p b = record {
    each = λ v h. ⊎_elim
        (λ k. m.each v k)
        (λ k. ⊎_elim (λ f. subst (λ (y : Watch). IsClauseRef ks y.cref × (y.blocking ∈ literals_at ks y.cref) × HasWatch ws y.cref) (sym f)
        (p, b, (w, m.left w (inl refl), sym e))) (λ z. absurd z) k)
        (∈-append_cases v kept (x ∷ []) h);
    left = λ v h. m.left v (inr h);
    all = λ y h q.
        let (z, i, f) = m.all y h q in
        ⊎_elim
        (λ k. (z, ∈-append_left z (kept ++ x ∷ []) rest (∈-append_left z kept (x ∷ []) k), f))
        (λ k. ⊎_elim
        (λ g. (x, ∈-append_left x (kept ++ x ∷ []) rest (∈-append_right x kept (x ∷ []) (inl refl)), e ∙ sym (ap (λ (o : Watch). o.cref) g) ∙ f))
        (λ o. (z, ∈-append_right z (kept ++ x ∷ []) rest o, f)) k)
        (∈-append_cases z kept (w ∷ rest) i);
    once = λ o. once-moved kept rest w x e (m.once o);
  }

-- by places of the list that the code reads and writes
pub record MendingAt (ks : List StoredClause) (ws xs : List Watch) (a r : ℕ) : Type 0 where
  pub mending : Mending ks ws (take a xs) (drop r xs)
  pub order : a ≤ r
  pub within : r ≤ length xs

pub mending-at-start : (ks : List StoredClause) (ws : List Watch) → MendingAt ks ws ws 0 0
mending-at-start ks ws = record { mending = mending-start ks ws; order = omega arith; within = omega arith }

module _ {ks : List StoredClause} {ws xs : List Watch} {a r : ℕ} (g : MendingAt ks ws xs a r) where
  module _ {w : Watch} (inside : r < length xs) (e : w ≡ get_or xs r w) where
    next : Mending ks ws (take a xs) (w ∷ drop (r + 1) xs)
    next = subst (λ ys. Mending ks ws (take a xs) ys) (drop_more xs r w inside ∙ ap (λ y. y ∷ drop (r + 1) xs) (sym e)) g.mending

    pub mending-read : w ∈ ws
    mending-read = next.left w (inl refl)

    pub mending-at-dropped : (IsClauseRef ks w.cref → ⊥) → MendingAt ks ws xs a (r + 1)
    mending-at-dropped n = record {
      mending = mending-dropped ks ws (take a xs) (drop (r + 1) xs) w next n;
      order = let o = g.order in omega (arith, o);
      within = omega (arith, inside);
    }

    pub mending-at-kept : (x : Watch) → (x.cref ≡ w.cref) × IsClauseRef ks x.cref × (x.blocking ∈ literals_at ks x.cref) →
        MendingAt ks ws (set xs a x) (a + 1) (r + 1)
    mending-at-kept x (c, p, b) = record {
      mending = subst (λ ys. Mending ks ws ys (drop (r + 1) (set xs a x))) (sym (take_more_set xs a x (let o = g.order in omega (arith, inside, o))))
          (subst (λ ys. Mending ks ws (take a xs ++ x ∷ []) ys) (sym (drop-set-lt (r + 1) xs a x (let o = g.order in omega (arith, o))))
          (mending-kept ks ws (take a xs) (drop (r + 1) xs) w next x c p b));
      order = let o = g.order in omega (arith, o);
      within = let n = length-set xs a x in omega (arith, inside, n);
    }

  pub mending-at-end : (ys : List Watch) → length xs ≤ r → ys ≡ take a xs → AreMended ks ws ys
  mending-at-end ys done e =
      let m = subst (λ zs. Mending ks ws zs []) (sym e) (subst (λ zs. Mending ks ws (take a xs) zs) (drop_all r xs done) g.mending) in
      record {
        each = m.each;
        all = λ w h p. let (y, i, f) = m.all w h p in (y, ⊎_elim (λ k. k) (λ k. absurd k) (∈-append_cases y ys [] i), f);
        once = λ o. subst (λ zs. NameOnce zs) (append-nil ys) (m.once o);
      }

-- mended again
mended-trans : (ks : List StoredClause) (ws vs us : List Watch) → AreMended ks ws vs → AreMended ks vs us → AreMended ks ws us
mended-trans ks ws vs us m n = record {
  each = λ v h.
      let (p, b, (y, i, e)) = n.each v h in
      let (z, j, f) = (m.each y i).2 in
      (p, b, (z, j, f ∙ e));
  all = λ w h p.
      let (y, i, e) = m.all w h p in
      let (z, j, f) = n.all y i (subst (IsClauseRef ks) (sym e) p) in
      (z, j, f ∙ e);
  once = λ o. n.once (m.once o);
}

-- 3. The lists.
pub lists-start : (ks : List StoredClause) (W : Watches) → MendsLists ks [] W W
lists-start ks W = record { enabled = refl; count = refl; named = λ x h. absurd h; each = λ x. inl refl }

-- the next literal was one of the last
pub lists-again : (ks : List StoredClause) (before after : List Literal) (W V : Watches) → ((x : Literal) → x ∈ after → x ∈ before) →
    MendsLists ks before W V → MendsLists ks after W V
lists-again ks before after W V h m = record { enabled = m.enabled; count = m.count; named = λ x i. m.named x (h x i); each = m.each }

module _ (ks : List StoredClause) (done : List Literal) (l : Literal) (W V U : Watches) (us : List Watch) (m : MendsLists ks done W V)
    (inside : l < length V.lists) (is : U ≡ with_watches (with_watches V l []) l us) (n : AreMended ks (watches_of V l) us) where
  own : watches_of U l ≡ us
  own = ap (λ X. watches_of X l) is ∙ get_or-set_same (set V.lists l []) l us [] (let e = length-set V.lists l [] in omega (arith, inside, e))

  other : (x : Literal) → x ≢ l → watches_of U x ≡ watches_of V x
  other x o = ap (λ X. watches_of X x) is ∙ get_or-set_other (set V.lists l []) l x us [] o ∙ get_or-set_other V.lists l x [] [] o

  mended-own : AreMended ks (watches_of W l) (watches_of U l)
  mended-own = subst (λ vs. AreMended ks (watches_of W l) vs) (sym own)
      (⊎_elim (λ e. subst (λ ws. AreMended ks ws us) e n) (λ o. mended-trans ks (watches_of W l) (watches_of V l) us o n) (m.each l))

  mended-at : (x : Literal) → x ≡ l → AreMended ks (watches_of W x) (watches_of U x)
  mended-at x e = subst (λ y. AreMended ks (watches_of W y) (watches_of U y)) (sym e) mended-own

  pub lists-next : MendsLists ks (done ++ l ∷ []) W U
  lists-next = record {
    enabled = ap (λ (X : Watches). X.enabled) is ∙ m.enabled;
    count = let a = ap (λ (X : Watches). length X.lists) is in let b = length-set (set V.lists l []) l us in let c = length-set V.lists l [] in
        let d = m.count in omega (arith, a, b, c, d);
    named = λ x h. ⊎_elim
        (λ e. mended-at x e)
        (λ o. ⊎_elim (λ i. subst (λ vs. AreMended ks (watches_of W x) vs) (sym (other x o)) (m.named x i))
        (λ i. ⊎_elim (λ e. absurd (o e)) (λ z. absurd z) i) (∈-append_cases x done (l ∷ []) h))
        (equal_or_not x l);
    each = λ x. ⊎_elim
        (λ e. inr (mended-at x e))
        (λ o. ⊎_elim (λ e. inl (other x o ∙ e)) (λ i. inr (subst (λ vs. AreMended ks (watches_of W x) vs) (sym (other x o)) i)) (m.each x))
        (equal_or_not x l);
  }
