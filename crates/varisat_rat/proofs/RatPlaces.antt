-- Resolvents with the clauses at places.
use Rattle.std.proofs.Common.{◌≡◌, ℕ, ◌+◌, ◌<◌, ◌≤◌, List, [], ◌∷◌, ◌++◌, ◌⊎◌, ◌↔◌, IsTrue, Bool, true, false, Option, Some, None, Vec, nat_eq, take, length, get_or, refl, sym, ap, ◌∙◌, subst, inl, inr, ⊎_elim, eq-eqb, ne_eqb}
use Rattle.std.proofs.lemmas.List.{append_assoc, append-nil, take_more}
use Rattle.varisat_theory.specs.promises.Membership.{◌∈◌}
use Rattle.varisat_theory.specs.promises.Literals.{Literal, Clause, opposite, opposites}
use Rattle.varisat_theory.specs.promises.Propagation.{Conflicts, Follows, IsFalse, IsSaturated, LeavesOnly}
use Rattle.varisat_theory.specs.promises.Rat.{put_unless, but_for, ResolventsFollow}
use Rattle.varisat_theory.specs.promises.Derivations.{TakesOut}
use Rattle.varisat_theory.proofs.clauses.Members.{∈-append_cases, ∈-append_right}
use Rattle.varisat_theory.proofs.clauses.Places.{∈-take_more, ∈-take_all, ∈-get_or}
use Rattle.varisat_plain.specs.promises.Checking.{IsAbsent, IsClauseStatus}
use Rattle.varisat_plain.specs.declared.propagation.ClauseStatus.TheVariants.{Open}
use Rattle.varisat_theory.proofs.clauses.Growth.{conflicts_known}
use Rattle.varisat_plain.proofs.Scans.{opposites_append, answers_true, answers_false}
use Rattle.varisat_present.specs.Places.{present, present_at}
use Rattle.varisat_present.specs.Knowing.{AreImplied}
use Rattle.varisat_rat.specs.inside.Asking.{Asks, IsPropagatedTo}
use Rattle.varisat_rat.specs.promises.Resolving.{IsForced, IsRatOnSome, IsPivotPlace, IsDeletionOf, ConflictsBut, AllConflict, IsResolventFound}
use Rattle.varisat_rat.specs.declared.present.Deletion.TheVariants.{Taken}
use Rattle.varisat_present.proofs.KnownGrowth.{cut_back}
use Rattle.varisat_rat.proofs.KeptLiterals.{implied_is_known}
use Rattle.varisat_present.proofs.PlacedClauses.{present_more, present_same, present_all, at_in}

-- 1. The other literals of a clause.
but_for_append : (l : Literal) (c d : Clause) → but_for l (c ++ d) ≡ but_for l c ++ but_for l d
but_for_append l [] d = refl
but_for_append l (m ∷ c) d = ap (put_unless (nat_eq m l) m) (but_for_append l c d) ∙ joined (nat_eq m l)
  where
    joined : (b : Bool) → put_unless b m (but_for l c ++ but_for l d) ≡ put_unless b m (but_for l c) ++ but_for l d
    joined true = refl
    joined false = refl

-- one literal more was looked at
seen_more : (l : Literal) (c : Clause) (i : ℕ) → i < length c → but_for l (take (i + 1) c) ≡ but_for l (take i c) ++ put_unless (nat_eq (get_or c i 0) l) (get_or c i 0) []
seen_more l c i h = ap (but_for l) (take_more c i 0 h) ∙ but_for_append l (take i c) (get_or c i 0 ∷ [])

pub others_same : (start now : List ℕ) (c : Clause) (i l : ℕ) → i < length c → get_or c i 0 ≡ l → now ≡ start ++ opposites (but_for l (take i c)) →
    now ≡ start ++ opposites (but_for l (take (i + 1) c))
others_same start now c i l h e w =
    w ∙ ap (λ x. start ++ opposites x)
    (sym (seen_more l c i h ∙ ap (λ b. but_for l (take i c) ++ put_unless b (get_or c i 0) []) (eq-eqb (get_or c i 0) l e) ∙ append-nil (but_for l (take i c))))

pub others_more : (start now new : List ℕ) (c : Clause) (i l r : ℕ) → i < length c → (get_or c i 0 ≡ l → ⊥) →
    now ≡ start ++ opposites (but_for l (take i c)) → new ≡ now ++ (r ∷ []) → r ≡ opposite (get_or c i 0) →
    new ≡ start ++ opposites (but_for l (take (i + 1) c))
others_more start now new c i l r h n w f g =
    let b = but_for l (take i c) in
    f ∙ ap (λ z. z ++ (r ∷ [])) w ∙ append_assoc start (opposites b) (r ∷ []) ∙ ap (λ z. start ++ (opposites b ++ (z ∷ []))) g
    ∙ ap (λ z. start ++ z) (sym (opposites_append b (get_or c i 0 ∷ [])))
    ∙ ap (λ x. start ++ opposites x)
    (sym (seen_more l c i h ∙ ap (λ t. b ++ put_unless t (get_or c i 0) []) (ne_eqb (get_or c i 0) l n)))

pub others_all : (start now : List ℕ) (c : Clause) (i l : ℕ) → take i c ≡ c → now ≡ start ++ opposites (but_for l (take i c)) →
    now ≡ start ++ opposites (but_for l c)
others_all start now c i l e w = w ∙ ap (λ x. start ++ opposites (but_for l x)) e

-- 2. One place.
module _ {A : Type 0} (places : List (Option (Vec ℕ A))) (place : ℕ) (base : List Literal) (l : Literal) where
  pub no_clause : (known : List Literal) → present_at places place ≡ None → IsResolventFound places place base l known true known
  no_clause known e = record {
    more = [];
    joined = sym (append-nil known);
    yes = λ t d f i. absurd (let h = sym e ∙ f in cc);
    no = λ t. absurd cc;
  }

  same_there : (c d : Clause) → present_at places place ≡ Some c → present_at places place ≡ Some d → d ≡ c
  same_there c d e f = let h : Some c ≡ Some d = sym e ∙ f in let k : c ≡ d = cc in sym k

  pub not_held : (known : List Literal) (c : Clause) → present_at places place ≡ Some c → (l ∈ c → ⊥) → IsResolventFound places place base l known true known
  not_held known c e n = record {
    more = [];
    joined = sym (append-nil known);
    yes = λ t d f i. absurd (n (subst (λ x. l ∈ x) (same_there c d e f) i));
    no = λ t. absurd cc;
  }

  pub asked : (old new : List Literal) (c : Clause) (both : List Literal) (found : Bool) → present_at places place ≡ Some c → l ∈ c →
      both ≡ base ++ opposites (but_for l c) → Asks (present places) old both found new → IsResolventFound places place base l old found new
  asked old new c both found e i q a = record {
    more = a.more;
    joined = a.joined;
    yes = λ t d f j. subst (ConflictsBut (present places) base l) (sym (same_there c d e f))
        (subst (Conflicts (present places)) q (a.right.0 t));
    no = λ t. (c, e, i, λ k. let h = a.right.1 (subst (Conflicts (present places)) (sym q) k) in absurd (let z = t in cc));
  }

-- 3. The places so far.
pub conflict_on : {A : Type 0} (places : List (Option (Vec ℕ A))) (i : ℕ) (base : List Literal) (l : Literal) →
    ((d : Clause) → present_at places i ≡ Some d → l ∈ d → ConflictsBut (present places) base l d) →
    AllConflict (present places) (present (take i places)) base l → AllConflict (present places) (present (take (i + 1) places)) base l
conflict_on places i base l f w = by_case (present_at places i) refl
  where
    by_case : (o : Option Clause) → present_at places i ≡ o → AllConflict (present places) (present (take (i + 1) places)) base l
    by_case None e = λ d m h. w d (subst (λ x. d ∈ x) (present_same places i e) m) h
    by_case (Some c) e = λ d m h.
        ⊎_elim (λ a. w d a h) (λ a. ⊎_elim (λ q. f d (e ∙ ap Some (sym q)) h) (λ z. absurd z) a)
        (∈-append_cases d (present (take i places)) (c ∷ []) (subst (λ x. d ∈ x) (present_more places i c e) m))

pub conflict_all : {A : Type 0} (places : List (Option (Vec ℕ A))) (i : ℕ) (base : List Literal) (l : Literal) → length places ≤ i →
    AllConflict (present places) (present (take i places)) base l →
    IsTrue true ↔ AllConflict (present places) (present places) base l
conflict_all places i base l h w =
    answers_true _ (subst (λ (x : List Clause). AllConflict (present places) x base l) (present_all places i h) w)

pub one_does_not : {A : Type 0} (places : List (Option (Vec ℕ A))) (i : ℕ) (base old : List Literal) (l : Literal) (found : Bool) (new : List Literal) →
    found ≡ false → IsResolventFound places i base l old found new → IsTrue false ↔ AllConflict (present places) (present places) base l
one_does_not places i base old l found new e t =
    answers_false _ (λ w. let h = t.no e in h.3 (w h.0 (at_in places i h.0 h.1) h.2))

pub restored : {A : Type 0} (places : List (Option (Vec ℕ A))) (i : ℕ) (base first old : List Literal) (l : Literal) (found : Bool) (new : List Literal)
    (n : ℕ) → n ≡ length first → old ≡ first → IsResolventFound places i base l old found new → take n new ≡ first
restored places i base first old l found new n e q t =
    ap (λ k. take k new) e ∙ cut_back first new t.more (t.joined ∙ ap (λ x. x ++ t.more) q)

-- 4. RAT.
rat_base : (P : List Clause) (c d : Clause) (l : Literal) → ConflictsBut P (opposites c) l d → Follows P (c ++ but_for l d)
rat_base P c d l k = subst (Conflicts P) (sym (opposites_append c (but_for l d))) k

base_rat : (P : List Clause) (c d : Clause) (l : Literal) → Follows P (c ++ but_for l d) → ConflictsBut P (opposites c) l d
base_rat P c d l k = subst (Conflicts P) (opposites_append c (but_for l d)) k

pub rat_found : (P Q : List Clause) (c : Clause) (base : List Literal) (l m : Literal) (found : Bool) → P ≡ Q → base ≡ opposites c → m ≡ opposite l →
    IsTrue found ↔ AllConflict P P base m → IsTrue found ↔ ResolventsFollow Q c l
rat_found P Q c base l m found e f g h =
    let k : IsTrue found ↔ AllConflict Q Q (opposites c) (opposite l) =
    subst (λ (x : List Clause). IsTrue found ↔ AllConflict x x (opposites c) (opposite l)) e
    (subst (λ (b : List Literal). IsTrue found ↔ AllConflict P P b (opposite l)) f
    (subst (λ (x : Literal). IsTrue found ↔ AllConflict P P base x) g h)) in
    (λ t d i o. rat_base Q c d (opposite l) (k.0 t d i o), λ r. k.1 (λ d i o. base_rat Q c d (opposite l) (r d i o)))

pub refuted_rat : (P : List Clause) (c : Clause) (l : Literal) → Conflicts P [] → IsTrue true ↔ ResolventsFollow P c l
refuted_rat P c l k = answers_true _ (λ d i o. conflicts_known P [] (opposites (c ++ but_for (opposite l) d)) (λ x m. absurd m) k)

-- the clause is RAT on none of these literals
abbrev pub HasNoPivot : List Clause → Clause → List Literal → Type 0
HasNoPivot P c ls = (l : Literal) → l ∈ ls → ResolventsFollow P c l → ⊥

pub no_pivot_more : (P Q : List Clause) (c : Clause) (i l : ℕ) → P ≡ Q → l ≡ get_or c i 0 → (ResolventsFollow P c l → ⊥) → HasNoPivot Q c (take i c) →
    HasNoPivot Q c (take (i + 1) c)
no_pivot_more P Q c i l e f n w = λ m j r.
    ⊎_elim (λ a. w m a r)
    (λ a. n (subst (λ (x : List Clause). ResolventsFollow x c l) (sym e) (subst (ResolventsFollow Q c) (a ∙ sym f) r)))
    (∈-take_more m c i 0 j)

pub no_pivot_all : (P : List Clause) (c : Clause) (i : ℕ) → length c ≤ i → HasNoPivot P c (take i c) → IsRatOnSome P c → ⊥
no_pivot_all P c i h w (l, j, r) = w l (∈-take_all l c i h j) r

pub pivot_found : (P Q : List Clause) (c : Clause) (i l : ℕ) → P ≡ Q → i < length c → l ≡ get_or c i 0 → ResolventsFollow P c l →
    HasNoPivot Q c (take i c) → IsPivotPlace Q c i
pivot_found P Q c i l e h f r w = record {
  inside = h;
  rat = subst (λ (x : List Clause). ResolventsFollow x c (get_or c i 0)) e (subst (ResolventsFollow P c) f r);
  first = w;
}

pub pivot_is_rat : (P : List Clause) (c : Clause) (i : ℕ) → IsPivotPlace P c i → IsRatOnSome P c
pivot_is_rat P c i p = (get_or c i 0, ∈-get_or c i 0 p.inside, p.rat)

-- 5. Deletions.
pub forced : (P Q : List Clause) (known : List Literal) (c : Clause) → P ≡ Q → AreImplied P [] known →
    ((l : Literal) × (l ∈ c) × LeavesOnly known c l) → IsForced Q c
forced P Q known c e h (l, i, u) =
    subst (λ (x : List Clause). IsForced x c) e (l, i, λ m j. ⊎_elim inl (λ o. inr (h (opposite m) o)) (u m j))

not_forced : (P : List Clause) (known : List Literal) (c : Clause) → IsSaturated P known → IsFalse known c ⊎ IsClauseStatus known c Open →
    IsForced P c → IsAbsent P c
not_forced P known c s (inl f) h = λ d m e. absurd (s.complete.no_false (d, m, λ x j. f x (e.0 x j)))
not_forced P known c s (inr (m, n, i, j, d, o, p)) (l, k, h) = λ x y z. absurd
    (⊎_elim
    (λ a. ⊎_elim (λ b. d (a ∙ sym b)) (λ b. p (implied_is_known P known s (opposite n) b)) (h n j))
    (λ a. o (implied_is_known P known s (opposite m) a)) (h m i))

pub unforced : (P Q : List Clause) (known : List Literal) (c : Clause) (found : Bool) → P ≡ Q → IsPropagatedTo P found known →
    IsFalse known c ⊎ IsClauseStatus known c Open → (Conflicts Q [] → ⊥) → IsForced Q c → IsAbsent Q c
unforced P Q known c true e s f n h = absurd (n (subst (λ (x : List Clause). Conflicts x []) e (s.right.0 refl)))
unforced P Q known c false e s f n h = subst (λ (x : List Clause). IsAbsent x c) e
    (not_forced P known c (s.keeps.saturated refl) f (subst (λ (x : List Clause). IsForced x c) (sym e) h))

pub taken_told : (P R Q : List Clause) (c : Clause) → P ≡ R → TakesOut P c Q → (IsForced R c → IsAbsent R c) → IsDeletionOf R c Taken Q
taken_told P R Q c e t h =
    let u : TakesOut R c Q = subst (λ (x : List Clause). TakesOut x c Q) e t in
    (u, λ f. h f u.1 (subst (λ (x : List Clause). u.1 ∈ x) (sym u.3) (∈-append_right u.1 u.0 (u.1 ∷ u.2) (inl refl))) u.4)

-- 6. A clause that is seen to follow.
pub refuted_follows : (P : List Clause) (c : Clause) → Conflicts P [] → Follows P c
refuted_follows P c k = conflicts_known P [] (opposites c) (λ x m. absurd m) k

pub seen_there : (P Q : List Clause) (c : Clause) (base : List Literal) → P ≡ Q → base ≡ opposites c → Conflicts P base → Follows Q c
seen_there P Q c base e f k = subst (λ (x : List Clause). Conflicts x (opposites c)) e (subst (Conflicts P) f k)
