-- Parts of a step: kept clauses move, are deleted and shortened, units are proved.
use Rattle.std.proofs.Common.{◌≡◌, true, false, List, [], ◌∷◌, ◌++◌, ◌⊎◌, inl, inr, ⊎_elim, sym, ap, ◌∙◌, subst, refl, append_assoc}
use Rattle.std.proofs.lemmas.List.{append-nil}
use Rattle.std.proofs.lemmas.Bool.{false_from_ne_true}
use Rattle.varisat_theory.specs.promises.Membership.{◌∈◌, ◌⊆◌, SameSet}
use Rattle.varisat_theory.specs.promises.Literals.{Literal, Clause, opposite, IsUnit}
use Rattle.varisat_theory.specs.promises.Propagation.{LeavesOnly, Follows}
use Rattle.varisat_theory.specs.promises.Derivations.{Add, Delete}
use Rattle.varisat_theory.specs.promises.Held.{SameClauses}
use Rattle.varisat_theory.specs.promises.Analysis.{Implied, ByReason}
use Rattle.varisat_theory.proofs.clauses.Members.{∈-append_left, ∈-append_right, ∈-append_cases}
use Rattle.varisat_theory.proofs.clauses.Growth.{follows_member}
use Rattle.varisat_theory.proofs.clauses.Learning.{follows_at_zero}
use Rattle.varisat_theory.proofs.clauses.Implication.{implied_follows, implied_more}
use Rattle.varisat_theory.proofs.clauses.Held.{same_set-back, same_clauses-through}
use Rattle.varisat_theory.specs.promises.Counted.{IsMinor}
use Rattle.varisat_theory.specs.promises.Searches.{KeptClause, Search, clauses_of, IsDischarged, Fits, Covers, IsLiteralOf}
use Rattle.varisat_theory.specs.inside.Outcomes.{Proves}
use Rattle.varisat_theory.proofs.journals.Spoken.{moved_within, fewer_within, at_place, part_within}
use Rattle.varisat_theory.proofs.steps.SearchFits.{same_insert, same_front, same_equal, clauses_at, clauses_join, clause_in, plain, carried, proved_implied}

-- what is discharged stays so where more literals are fixed
pub discharged_more : (s t : Search) (c : Clause) → s.fixed ⊆ t.fixed → IsDischarged s c → IsDischarged t c
discharged_more s t c h (inl a) = inl a
discharged_more s t c h (inr (l, i, j)) = inr (l, i, h l j)

pub discharged_wider : (s : Search) (c d : Clause) → c ⊆ d → IsDischarged s c → IsDischarged s d
discharged_wider s c d h (inl (l, i, j)) = inl (l, h l i, h (opposite l) j)
discharged_wider s c d h (inr (l, i, j)) = inr (l, h l i, j)

-- a unit clause joins the others
pub more_units : (s t : Search) (O : List Clause) (c : Clause) (l : Literal) → IsUnit l c → t.proved ≡ s.proved ++ l ∷ [] →
    ((m : Literal) → m ∈ s.proved → (d : Clause) × (d ∈ O) × IsUnit m d) → (m : Literal) → m ∈ t.proved → (d : Clause) × (d ∈ (O ++ c ∷ [])) × IsUnit m d
more_units s t O c l u e f m h =
    ⊎_elim
    (λ i. let (d, j, v) = f m i in (d, ∈-append_left d O (c ∷ []) j, v))
    (λ i. ⊎_elim (λ g. (c, ∈-append_right c O (c ∷ []) (inl refl), subst (λ x. IsUnit x c) (sym g) u)) (λ z. absurd z) i)
    (∈-append_cases m s.proved (l ∷ []) (subst (λ x. m ∈ x) e h))

pub more_discharged : (t : Search) (O : List Clause) (c : Clause) → ((d : Clause) → d ∈ O → IsDischarged t d) → IsDischarged t c → (d : Clause) →
    d ∈ (O ++ c ∷ []) → IsDischarged t d
more_discharged t O c f g d h =
    ⊎_elim (f d) (λ i. ⊎_elim (λ e. subst (IsDischarged t) (sym e) g) (λ z. absurd z) i) (∈-append_cases d O (c ∷ []) h)

pub moves_prove : (s t : Search) → SameClauses (clauses_of s.kept) (clauses_of t.kept) →
    ((k : KeptClause) → k ∈ s.kept → k.learned ≡ false → (j : KeptClause) × (j ∈ t.kept) × (j.learned ≡ false) × (j.clause ⊆ k.clause)) →
    s.fixed ⊆ t.fixed → t.proved ⊆ s.proved → ((l : Literal) → l ∈ t.fixed → IsLiteralOf s l) → Proves 0 s t []
moves_prove s t q g x p y = record {
  holds = λ held f. (
    held,
    refl,
    record {
      others = f.others;
      same = same_clauses-through held (clauses_of s.kept ++ f.others) (clauses_of t.kept ++ f.others) f.same
          (same_front (clauses_of s.kept) (clauses_of t.kept) f.others q);
      settled = λ c h. discharged_more s t c x (f.settled c h);
      units = λ l h. f.units l (p l h);
    },
  );
  covers = λ P v c h.
      ⊎_elim
      (λ a. inl (discharged_more s t c x a))
      (λ (k, i, e, w). let (j, i', e', w') = g k i e in inr (j, i', e', λ m r. w m (w' m r)))
      (v c h);
  speaks = tt;
  within = moved_within s t q y;
}

-- a literal that is false by proved ones is implied to be
module _ (s : Search) (held : List Clause) (f : Fits held s) where
  pub proved_more : (more : List Literal) (l : Literal) → l ∈ s.proved → Implied (plain held s f) more l
  proved_more more l h = implied_more (plain held s f) (plain held s f) [] more l (λ x i. i) (λ x i. absurd i) (proved_implied held s l f h)

  pub in_plain : (k : KeptClause) → k ∈ s.kept → k.clause ∈ plain held s f
  in_plain k h = ∈-append_left k.clause (clauses_of s.kept) f.others (clause_in s.kept k h)

  pub unit_follows : (l : Literal) (k : KeptClause) → k ∈ s.kept → l ∈ k.clause → LeavesOnly s.proved k.clause l → Follows (plain held s f) (l ∷ [])
  unit_follows l k h i u =
      implied_follows (plain held s f) l
      (ByReason k.clause (in_plain k h) i (λ m j n. ⊎_elim (λ e. absurd (n e)) (λ o. proved_implied held s (opposite m) f o) (u m j)))

pub unit_is_proved : (s : Search) (l : Literal) (k : KeptClause) → l ∈ s.fixed → k ∈ s.kept → l ∈ k.clause → LeavesOnly s.proved k.clause l →
    Proves 0 s (record s { proved = s.proved ++ l ∷ [] }) (Add (l ∷ []) ∷ [])
unit_is_proved s l k x h i u = record {
  holds = λ held f.
      let unit : IsUnit l (l ∷ []) = (inl refl, λ m j. ⊎_elim (λ e. e) (λ z. absurd z) j) in
      carried 0 held (plain held s f) (Add (l ∷ []) ∷ []) (record s { proved = s.proved ++ l ∷ [] }) f.same (
        plain held s f ++ (l ∷ []) ∷ [],
        (unit_follows s held f l k h i u, inl (inl (l, unit), refl)),
        record {
          others = f.others ++ (l ∷ []) ∷ [];
          same = same_equal (plain held s f ++ (l ∷ []) ∷ []) (clauses_of s.kept ++ (f.others ++ (l ∷ []) ∷ []))
              (append_assoc (clauses_of s.kept) f.others ((l ∷ []) ∷ []));
          settled = more_discharged s f.others (l ∷ []) f.settled (inr (l, inl refl, x));
          units = more_units s (record s { proved = s.proved ++ l ∷ [] }) f.others (l ∷ []) l unit refl f.units;
        },
      );
  covers = λ P v. v;
  speaks = (λ m j. ⊎_elim (λ e. inl (subst (λ y. y ∈ s.fixed) (sym e) x)) (λ z. absurd z) j, tt);
  within = λ m j. j;
}

-- What is covered stays so where other clauses take a kept one's place, if they cover what it did.
covers_replaced : (s : Search) (front back middle : List KeptClause) (k : KeptClause) → s.kept ≡ front ++ (k ∷ back) →
    ((d : Clause) → k.learned ≡ false → k.clause ⊆ d → IsDischarged s d ⊎ ((j : KeptClause) × (j ∈ middle) × (j.learned ≡ false) × (j.clause ⊆ d))) →
    (P : List Clause) → Covers P s → Covers P (record s { kept = front ++ (middle ++ back) })
covers_replaced s front back middle k e w P v d h = ⊎_elim (λ a. inl a)
    (λ (j, i, g, r). go j g r (∈-append_cases j front (k ∷ back) (subst (λ x. j ∈ x) e i))) (v d h)
  where
    at : (j : KeptClause) → j.learned ≡ false → j.clause ⊆ d → j ∈ (front ++ (middle ++ back)) → IsDischarged s d
        ⊎ ((j : KeptClause) × (j ∈ (front ++ (middle ++ back))) × (j.learned ≡ false) × (j.clause ⊆ d))
    at j g r i = inr (j, i, g, r)

    replaced : (k.learned ≡ false) → k.clause ⊆ d → IsDischarged s d
        ⊎ ((j : KeptClause) × (j ∈ (front ++ (middle ++ back))) × (j.learned ≡ false) × (j.clause ⊆ d))
    replaced g r = ⊎_elim (λ a. inl a) (λ (j, i, n, y). at j n y (∈-append_right j front (middle ++ back) (∈-append_left j middle back i))) (w d g r)

    go : (j : KeptClause) → j.learned ≡ false → j.clause ⊆ d → (j ∈ front) ⊎ (j ∈ (k ∷ back)) → IsDischarged s d
        ⊎ ((j : KeptClause) × (j ∈ (front ++ (middle ++ back))) × (j.learned ≡ false) × (j.clause ⊆ d))
    go j g r (inl a) = at j g r (∈-append_left j front (middle ++ back) a)
    go j g r (inr (inl m)) = replaced (sym (ap (λ x. x.learned) m) ∙ g) (λ x o. r x (subst (λ n. x ∈ n.clause) (sym m) o))
    go j g r (inr (inr b)) = at j g r (∈-append_right j front (middle ++ back) (∈-append_right j middle back b))

-- a kept clause is deleted that is learned or discharged
pub is_deleted : (s : Search) (front back : List KeptClause) (k : KeptClause) (c : Clause) → s.kept ≡ front ++ (k ∷ back) → SameSet k.clause c →
    (k.learned ≡ true) ⊎ IsDischarged s k.clause → Proves 0 s (record s { kept = front ++ back }) (Delete c ∷ [])
is_deleted s front back k c e q w = record {
  holds = λ held f.
      let F = clauses_of front in
      let B = clauses_of back ++ f.others in
      let same : plain held s f ≡ F ++ (k.clause ∷ B) = ap (λ x. clauses_of x ++ f.others) e ∙ clauses_at front back k f.others in
      carried 0 held (plain held s f) (Delete c ∷ []) (record s { kept = front ++ back }) f.same (
        F ++ B,
        (F ++ B, (F, k.clause, B, same, q, refl), refl),
        record {
          others = f.others;
          same = same_equal (F ++ B) (clauses_of (front ++ back) ++ f.others) (sym (clauses_join front back f.others));
          settled = f.settled;
          units = f.units;
        },
      );
  covers = covers_replaced s front back [] k e (λ d n r. inl (⊎_elim (λ y. absurd (let z : true ≡ false = sym y ∙ n in cc)) (discharged_wider s k.clause d r) w));
  speaks = (λ l i. inr (k, at_place s front back k e, q.1 l i), tt);
  within = fewer_within s front back k e;
}

pub satisfied_is_deleted : (s : Search) (front back : List KeptClause) (k : KeptClause) (c : Clause) (l : Literal) → s.kept ≡ front ++ (k ∷ back) →
    SameSet k.clause c → l ∈ k.clause → l ∈ s.fixed → Proves 0 s (record s { kept = front ++ back }) (Delete c ∷ [])
satisfied_is_deleted s front back k c l e q h i = is_deleted s front back k c e q (inr (inr (l, h, i)))

pub learned_is_deleted : (s : Search) (front back : List KeptClause) (k : KeptClause) (c : Clause) → s.kept ≡ front ++ (k ∷ back) →
    SameSet k.clause c → k.learned ≡ true → Proves 0 s (record s { kept = front ++ back }) (Delete c ∷ [])
learned_is_deleted s front back k c e q w = is_deleted s front back k c e q (inl w)

pub is_shortened : (s : Search) (front back : List KeptClause) (k j : KeptClause) (c d : Clause) → s.kept ≡ front ++ (k ∷ back) →
    SameSet k.clause c → SameSet j.clause d → j.clause ⊆ k.clause → ((m : Literal) → m ∈ k.clause → (m ∈ j.clause) ⊎ (opposite m ∈ s.proved)) →
    (j.learned ≡ true → k.learned ≡ true) → Proves 0 s (record s { kept = front ++ (j ∷ back) }) (Add d ∷ Delete c ∷ [])
is_shortened s front back k j c d e q r w g y = record {
  holds = λ held f.
      let F = clauses_of front in
      let B = clauses_of back ++ f.others in
      let L = plain held s f in
      let t = record s { kept = front ++ (j ∷ back) } in
      let same : L ≡ F ++ (k.clause ∷ B) = ap (λ x. clauses_of x ++ f.others) e ∙ clauses_at front back k f.others in
      let here : k ∈ s.kept = subst (λ x. k ∈ x) (sym e) (∈-append_right k front (k ∷ back) (inl refl)) in
      let inside : k.clause ∈ L = in_plain s held f k here in
      let follows : Follows L d = follows_at_zero L k.clause d (follows_member L k.clause inside)
      (λ m h. ⊎_elim (λ a. inl (r.0 m a)) (λ a. inr (proved_implied held s (opposite m) f a)) (g m h)) in
      let minor : IsMinor L d = inr (k.clause, inside, λ m h. w m (r.1 m h)) in
      let grown : L ++ d ∷ [] ≡ F ++ (k.clause ∷ (B ++ d ∷ [])) = ap (λ l. l ++ d ∷ []) same ∙ append_assoc F (k.clause ∷ B) (d ∷ []) in
      let Q = F ++ (B ++ d ∷ []) in
      let left : Q ≡ (F ++ B) ++ d ∷ [] = sym (append_assoc F B (d ∷ [])) in
      let right : clauses_of (front ++ (j ∷ back)) ++ f.others ≡ F ++ (j.clause ∷ B) = clauses_at front back j f.others in
      carried 0 held L (Add d ∷ Delete c ∷ []) t f.same (
        Q,
        (follows, inl (minor, (Q, (F, k.clause, B ++ d ∷ [], grown, q, refl), refl))),
        record {
          others = f.others;
          same = subst (λ x. SameClauses x (clauses_of t.kept ++ f.others)) (sym left)
              (subst (SameClauses ((F ++ B) ++ d ∷ [])) (sym right) (moved F B j.clause d r));
          settled = f.settled;
          units = f.units;
        },
      );
  covers = covers_replaced s front back (j ∷ []) k e
      (λ a n p. inr (j, inl refl, false_from_ne_true j.learned (λ u. let z : true ≡ false = sym (y u) ∙ n in cc), λ x u. p x (w x u)));
  speaks = (λ l i. inr (k, at_place s front back k e, w l (r.1 l i)), (λ l i. inr (k, at_place s front back k e, q.1 l i), tt));
  within = part_within s front back k j e w;
}
  where
    moved : (F B : List Clause) (a b : Clause) → SameSet a b → SameClauses ((F ++ B) ++ b ∷ []) (F ++ (a ∷ B))
    moved F B a b v = same_insert (F ++ B) [] F B b a (same_set-back a b v) (same_equal ((F ++ B) ++ []) (F ++ B) (append-nil (F ++ B)))
