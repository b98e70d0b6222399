-- Lists that are made anew, and lists of more variables.
use Rattle.std.proofs.Common.{◌≡◌, ◌≢◌, ℕ, zero, suc, true, ◌+◌, ◌<◌, ◌++◌, List, [], ◌∷◌, map, replicate, ◌⊎◌, inl, inr, ⊎_elim, refl, sym, ap, ◌∙◌, subst, arith, append_assoc}
use Rattle.varisat_theory.specs.promises.Membership.{◌∈◌, IsDistinct}
use Rattle.varisat_theory.proofs.clauses.Padded.{padded}
use Rattle.varisat_theory.specs.promises.Literals.{Literal, opposite}
use Rattle.varisat_clause.specs.Stored.{StoredClause, IsClauseRef, AreRising, literals_at}
use Rattle.varisat_prop.specs.declared.prop.watch_list.Watch.{Watch}
use Rattle.varisat_prop.specs.Watches.{Watches, watches_of, literal_in, IsWatchedBy, IsKnownWatch, NameOnce, HasWatch, IsWatching}
use Rattle.varisat_prop.specs.Visits.{WatchesClause}
use Rattle.varisat_prop.proofs.watching.WatchesOnce.{once-gets}

abbrev pub with_more : Watches → ℕ → Watches
with_more W n = record W { lists = W.lists ++ replicate n [] }

pub watching-variables : (W : Watches) (n : ℕ) (P : List StoredClause) → IsWatching W P → IsWatching (with_more W n) P
watching-variables W n P w = record {
  known = λ x y h. w.known x y (subst (λ ws. y ∈ ws) (padded [] W.lists n x) h);
  once = λ x. subst (λ ws. NameOnce ws) (sym (padded [] W.lists n x)) (w.once x);
  watched = λ i j a b. subst (λ ws. HasWatch ws i) (sym (padded [] W.lists n (opposite (literal_in (literals_at P i) j)))) (w.watched i j a b);
}

-- As much of the lists as is made anew: all clauses are watched but those at the places that are left.
pub record WatchingBut (W : Watches) (P : List StoredClause) (left : List ℕ) : Type 0 where
  pub known : (x : Literal) (w : Watch) → w ∈ watches_of W x → IsKnownWatch P x w
  pub once : (x : Literal) → NameOnce (watches_of W x)
  pub passed : (x : Literal) (w : Watch) → w ∈ watches_of W x → w.cref ∈ left → ⊥
  pub distinct : IsDistinct left
  pub watched : (i j : ℕ) → IsClauseRef P i → j < 2 → (i ∈ left) ⊎ HasWatch (watches_of W (opposite (literal_in (literals_at P i) j))) i
  pub places : (i : ℕ) → i ∈ left → IsClauseRef P i

pub but-all : (W : Watches) (P : List StoredClause) → AreRising P → ((x : Literal) → watches_of W x ≡ []) → WatchingBut W P (map (λ k. k.place) P)
but-all W P r e = record {
  known = λ x w h. absurd (subst (λ ws. w ∈ ws) (e x) h);
  once = λ x. subst (λ ws. NameOnce ws) (sym (e x)) tt;
  passed = λ x w h. absurd (subst (λ ws. w ∈ ws) (e x) h);
  distinct = apart P r;
  watched = λ i j (k, a, f) b. inl (subst (λ x. x ∈ map (λ k. k.place) P) f (to-places P k a));
  places = from-places P;
}
  where
    to-places : (P : List StoredClause) (k : StoredClause) → k ∈ P → k.place ∈ map (λ k. k.place) P
    to-places [] k h = absurd h
    to-places (c ∷ P) k (inl e) = inl (ap (λ (x : StoredClause). x.place) e)
    to-places (c ∷ P) k (inr h) = inr (to-places P k h)

    from-places : (P : List StoredClause) (i : ℕ) → i ∈ map (λ k. k.place) P → IsClauseRef P i
    from-places [] i h = absurd h
    from-places (c ∷ P) i (inl e) = (c, inl refl, sym e)
    from-places (c ∷ P) i (inr h) = let (k, a, f) = from-places P i h in (k, inr a, f)

    apart : (P : List StoredClause) → AreRising P → IsDistinct (map (λ k. k.place) P)
    apart [] r = tt
    apart (c ∷ P) r = ((λ h. let (k, a, f) = from-places P c.place h in let n = r.0 k a in omega (arith, n, f)), apart P r.1)

-- the clause at the first place that is left is watched too
pub but-next : (W V : Watches) (P : List StoredClause) (k : ℕ) (left : List ℕ) → W.enabled ≡ true → WatchingBut W P (k ∷ left) →
    literal_in (literals_at P k) 0 ≢ literal_in (literals_at P k) 1 → WatchesClause W V k (literals_at P k) → WatchingBut V P left
but-next W V P k left on w apart v = record {
  known = λ x y h. ⊎_elim
      (λ m. w.known x y m)
      (λ (e, b, by). (
        subst (IsClauseRef P) (sym e) (w.places k (inl refl)),
        subst (λ i. y.blocking ∈ literals_at P i) (sym e) b,
        subst (λ i. IsWatchedBy (literals_at P i) (opposite x)) (sym e) by,
      ))
      (v.adds.new x y h);
  once = λ x. once-gets (watches_of W x) (watches_of V x) k (w.once x) (λ y h e. w.passed x y h (inl e)) (v.once apart x);
  passed = λ x y h i. ⊎_elim
      (λ m. w.passed x y m (inr i))
      (λ (e, b, by). w.distinct.0 (subst (λ n. n ∈ left) e i))
      (v.adds.new x y h);
  distinct = w.distinct.1;
  watched = λ i j h l. ⊎_elim
      (λ c. ⊎_elim
      (λ e. inr (subst (λ m. HasWatch (watches_of V (opposite (literal_in (literals_at P m) j))) m) (sym e) (v.pair on j l)))
      inl
      c)
      (λ (y, m, e). inr (y, v.adds.old (opposite (literal_in (literals_at P i) j)) y m, e))
      (w.watched i j h l);
  places = λ i h. w.places i (inr h);
}

pub but-none : (W : Watches) (P : List StoredClause) → WatchingBut W P [] → IsWatching W P
but-none W P w = record {
  known = w.known;
  once = w.once;
  watched = λ i j h b. ⊎_elim (λ c. absurd c) (λ c. c) (w.watched i j h b);
}

pub one-more : (W V : List (List Watch)) (n : ℕ) → V ≡ (W ++ replicate n []) ++ [] ∷ [] → V ≡ W ++ replicate (n + 1) []
one-more W V n e = e ∙ append_assoc W (replicate n []) ([] ∷ []) ∙ ap (λ ws. W ++ ws) (sym (replicate-end n))
  where
    replicate-end : (n : ℕ) → replicate {A = List Watch} (n + 1) [] ≡ replicate n [] ++ [] ∷ []
    replicate-end n = let e : n + 1 ≡ suc n = omega arith in ap (λ k. replicate {A = List Watch} k []) e ∙ go n
      where
        go : (n : ℕ) → replicate {A = List Watch} (suc n) [] ≡ replicate n [] ++ [] ∷ []
        go zero = refl
        go (suc n) = ap (λ ws. [] ∷ ws) (go n)
