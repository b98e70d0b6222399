-- The clauses at places.
use Rattle.std.proofs.Common.{◌≡◌, ℕ, zero, suc, ◌+◌, ◌<◌, ◌≤◌, List, [], ◌∷◌, ◌++◌, length, take, drop, get_or, set, Option, Some, None, Bool, true, false, Vec, refl, sym, ap, ◌∙◌, subst, inl, inr, ⊎_elim, arith, length-append, option_to_list, unwrap_or}
use Rattle.std.proofs.lemmas.List.{take_all, take-set-le, drop-set-lt, drop-drop, length-set, append-nil}
use Rattle.varisat_theory.specs.promises.Membership.{◌∈◌, SameSet}
use Rattle.varisat_theory.specs.promises.Literals.{Clause, IsUnit}
use Rattle.varisat_theory.specs.promises.Derivations.{TakesOut}
use Rattle.varisat_theory.specs.promises.Held.{mentions, unless, without}
use Rattle.varisat_plain.specs.promises.Checking.{IsAbsent}
use Rattle.varisat_theory.proofs.clauses.Members.{∈-append_cases}
use Rattle.varisat_present.specs.Places.{present, present_at, literals_there}

-- 1. A place.
pub at_read : {A : Type 0} (cs : List (Option (Vec ℕ A))) (i : ℕ) (o : Option (Vec ℕ A)) → i < length cs → o ≡ get_or cs i o →
    present_at cs i ≡ literals_there o
at_read [] i o h e = absurd (omega arith)
at_read (x ∷ cs) zero o h e = ap literals_there (sym e)
at_read (x ∷ cs) (suc i) o h e = at_read cs i o (omega arith) e

pub at_past : {A : Type 0} (cs : List (Option (Vec ℕ A))) (i : ℕ) → length cs ≤ i → present_at cs i ≡ None
at_past [] i h = refl
at_past (x ∷ cs) zero h = absurd (omega arith)
at_past (x ∷ cs) (suc i) h = at_past cs i (omega arith)

some_is : (a b : Clause) → Some a ≡ Some b → a ≡ b
some_is a b e = ap (λ o. unwrap_or o []) e

pub at_in : {A : Type 0} (cs : List (Option (Vec ℕ A))) (i : ℕ) (c : Clause) → present_at cs i ≡ Some c → c ∈ present cs
at_in [] i c e = absurd cc
at_in (None ∷ cs) zero c e = absurd cc
at_in (Some v ∷ cs) zero c e = inl (some_is c v.items (sym e))
at_in (None ∷ cs) (suc i) c e = at_in cs i c e
at_in (Some v ∷ cs) (suc i) c e = inr (at_in cs i c e)

pub at_in_slice : {A : Type 0} (slice cs : List (Option (Vec ℕ A))) (i : ℕ) (c : Clause) → slice ≡ cs → present_at slice i ≡ Some c → present_at cs i ≡ Some c
at_in_slice {A = A} slice cs i c q e = subst (λ (x : List (Option (Vec ℕ A))). present_at x i ≡ Some c) q e

pub none_in_slice : {A : Type 0} (slice cs : List (Option (Vec ℕ A))) (i : ℕ) → slice ≡ cs → present_at slice i ≡ None → present_at cs i ≡ None
none_in_slice {A = A} slice cs i q e = subst (λ (x : List (Option (Vec ℕ A))). present_at x i ≡ None) q e

pub same_clause : {A : Type 0} (cs : List (Option (Vec ℕ A))) (i : ℕ) (c d : Clause) → present_at cs i ≡ Some c → present_at cs i ≡ Some d → c ≡ d
same_clause cs i c d e f = some_is c d (sym e ∙ f)

pub at_within : {A : Type 0} (cs : List (Option (Vec ℕ A))) (i : ℕ) (c : Clause) → present_at cs i ≡ Some c → i < length cs
at_within [] i c e = absurd cc
at_within (o ∷ cs) zero c e = omega arith
at_within (o ∷ cs) (suc i) c e = let h = at_within cs i c e in omega (arith, h)

pub unit_there : {A : Type 0} (cs : List (Option (Vec ℕ A))) (i l : ℕ) → ((c : Clause) × (present_at cs i ≡ Some c) × SameSet c (l ∷ [])) → (c : Clause)
    × (c ∈ present cs) × IsUnit l c
unit_there cs i l w = (w.0, at_in cs i w.0 w.1, (w.2.1 l (inl refl), λ m k. ⊎_elim (λ q. q) (λ z. absurd z) (w.2.0 m k)))

pub equal_there : {A : Type 0} (cs : List (Option (Vec ℕ A))) (i : ℕ) (c : Clause) → ((d : Clause) × (present_at cs i ≡ Some d) × SameSet d c) →
    (d : Clause) × (d ∈ present cs) × SameSet d c
equal_there cs i c w = (w.0, at_in cs i w.0 w.1, w.2)

-- 2. The places so far.
present_suc : {A : Type 0} (cs : List (Option (Vec ℕ A))) (i : ℕ) → present (take (suc i) cs) ≡ present (take i cs) ++ option_to_list (present_at cs i)
present_suc [] zero = refl
present_suc [] (suc i) = refl
present_suc (None ∷ cs) zero = refl
present_suc (Some v ∷ cs) zero = refl
present_suc (None ∷ cs) (suc i) = present_suc cs i
present_suc (Some v ∷ cs) (suc i) = ap (λ x. v.items ∷ x) (present_suc cs i)

suc_is : (i : ℕ) → i + 1 ≡ suc i
suc_is i = omega arith

pub present_more : {A : Type 0} (cs : List (Option (Vec ℕ A))) (i : ℕ) (c : Clause) → present_at cs i ≡ Some c →
    present (take (i + 1) cs) ≡ present (take i cs) ++ (c ∷ [])
present_more cs i c e = ap (λ k. present (take k cs)) (suc_is i) ∙ present_suc cs i ∙ ap (λ o. present (take i cs) ++ option_to_list o) e

pub present_same : {A : Type 0} (cs : List (Option (Vec ℕ A))) (i : ℕ) → present_at cs i ≡ None → present (take (i + 1) cs) ≡ present (take i cs)
present_same cs i e =
    ap (λ k. present (take k cs)) (suc_is i) ∙ present_suc cs i ∙ ap (λ o. present (take i cs) ++ option_to_list o) e ∙ append-nil (present (take i cs))

pub present_all : {A : Type 0} (cs : List (Option (Vec ℕ A))) (i : ℕ) → length cs ≤ i → present (take i cs) ≡ present cs
present_all cs i h = ap present (take_all i cs h)

pub present_added : {A : Type 0} (cs : List (Option (Vec ℕ A))) (v : Vec ℕ A) (c : Clause) → v.items ≡ c →
    present (cs ++ (Some v ∷ [])) ≡ present cs ++ (c ∷ [])
present_added [] v c e = ap (λ x. x ∷ []) e
present_added (None ∷ cs) v c e = present_added cs v c e
present_added (Some w ∷ cs) v c e = ap (λ x. w.items ∷ x) (present_added cs v c e)

pub absent_more : {A : Type 0} (cs : List (Option (Vec ℕ A))) (i : ℕ) (d c : Clause) → present_at cs i ≡ Some d → (SameSet d c → ⊥) →
    IsAbsent (present (take i cs)) c → IsAbsent (present (take (i + 1) cs)) c
absent_more cs i d c e n w = λ x m s.
    ⊎_elim (λ a. w x a s) (λ a. ⊎_elim (λ q. n (subst (λ y. SameSet y c) q s)) (λ z. z) a)
    (∈-append_cases x (present (take i cs)) (d ∷ []) (subst (λ L. x ∈ L) (present_more cs i d e) m))

pub absent_same : {A : Type 0} (cs : List (Option (Vec ℕ A))) (i : ℕ) (c : Clause) → present_at cs i ≡ None → IsAbsent (present (take i cs)) c →
    IsAbsent (present (take (i + 1) cs)) c
absent_same cs i c e w = subst (λ L. IsAbsent L c) (sym (present_same cs i e)) w

pub absent_on : {A : Type 0} (cs : List (Option (Vec ℕ A))) (i : ℕ) (c : Clause) → ((d : Clause) → present_at cs i ≡ Some d → SameSet d c → ⊥) →
    IsAbsent (present (take i cs)) c → IsAbsent (present (take (i + 1) cs)) c
absent_on cs i c n w = by_case (present_at cs i) refl
  where
    by_case : (o : Option Clause) → present_at cs i ≡ o → IsAbsent (present (take (i + 1) cs)) c
    by_case None e = absent_same cs i c e w
    by_case (Some d) e = absent_more cs i d c e (n d e) w

pub absent_all : {A : Type 0} (cs : List (Option (Vec ℕ A))) (i : ℕ) (c : Clause) → length cs ≤ i → IsAbsent (present (take i cs)) c → IsAbsent (present cs) c
absent_all cs i c h w = subst (λ L. IsAbsent L c) (present_all cs i h) w

-- how many, and which one
pub nth_is : {A : Type 0} (cs : List (Option (Vec ℕ A))) (i : ℕ) (c d : Clause) → present_at cs i ≡ Some c →
    get_or (present cs) (length (present (take i cs))) d ≡ c
nth_is [] i c d e = absurd cc
nth_is (None ∷ cs) zero c d e = absurd cc
nth_is (Some v ∷ cs) zero c d e = some_is v.items c e
nth_is (None ∷ cs) (suc i) c d e = nth_is cs i c d e
nth_is (Some v ∷ cs) (suc i) c d e = nth_is cs i c d e

pub count_more : {A : Type 0} (cs : List (Option (Vec ℕ A))) (i n : ℕ) (c : Clause) → present_at cs i ≡ Some c → n ≡ length (present (take i cs)) →
    n + 1 ≡ length (present (take (i + 1) cs))
count_more cs i n c e h =
    let a = length-append (present (take i cs)) (c ∷ []) in
    let b = ap length (present_more cs i c e) in
    omega (arith, a, b, h)

pub count_same : {A : Type 0} (cs : List (Option (Vec ℕ A))) (i n : ℕ) → present_at cs i ≡ None → n ≡ length (present (take i cs)) →
    n ≡ length (present (take (i + 1) cs))
count_same cs i n e h = h ∙ ap length (sym (present_same cs i e))

-- 3. A place that becomes empty.
cut : {A : Type 0} (cs : List (Option (Vec ℕ A))) (i : ℕ) (d : Clause) → present_at cs i ≡ Some d → (front : List Clause) × (back : List Clause)
    × (present cs ≡ front ++ (d ∷ back)) × (present (set cs i None) ≡ front ++ back)
cut [] i d e = absurd cc
cut (None ∷ cs) zero d e = absurd cc
cut (Some v ∷ cs) zero d e = ([], present cs, ap (λ x. x ∷ present cs) (some_is v.items d e), refl)
cut (None ∷ cs) (suc i) d e = cut cs i d e
cut (Some v ∷ cs) (suc i) d e = let (f, b, x, y) = cut cs i d e in (v.items ∷ f, b, ap (λ z. v.items ∷ z) x, ap (λ z. v.items ∷ z) y)

pub takes_out : {A : Type 0} (cs ds : List (Option (Vec ℕ A))) (i : ℕ) (d c : Clause) → present_at cs i ≡ Some d → SameSet d c → ds ≡ set cs i None →
    TakesOut (present cs) c (present ds)
takes_out cs ds i d c e s q =
    let (f, b, x, y) = cut cs i d e in
    (f, d, b, x, s, ap present q ∙ y)

-- 4. Clauses that are dropped.
at_drop : {A : Type 0} (cs : List (Option (Vec ℕ A))) (i : ℕ) → present_at cs i ≡ present_at (drop i cs) 0
at_drop [] zero = refl
at_drop [] (suc i) = refl
at_drop (o ∷ cs) zero = refl
at_drop (o ∷ cs) (suc i) = at_drop cs i

at_set : {A : Type 0} (cs : List (Option (Vec ℕ A))) (i : ℕ) → present_at (set cs i None) i ≡ None
at_set [] zero = refl
at_set [] (suc i) = refl
at_set (o ∷ cs) zero = refl
at_set (o ∷ cs) (suc i) = at_set cs i

pub still_there : {A : Type 0} (places : List (Option (Vec ℕ A))) (k i : ℕ) (c : Clause) → present_at (set places k None) i ≡ Some c →
    present_at places i ≡ Some c
still_there [] k i c e = e
still_there (x ∷ xs) zero zero c e = absurd cc
still_there (x ∷ xs) zero (suc i) c e = e
still_there (x ∷ xs) (suc k) zero c e = e
still_there (x ∷ xs) (suc k) (suc i) c e = still_there xs k i c e

unless_more : (t : Bool) (c : Clause) (P Q R : List Clause) → P ≡ Q ++ R → unless t c P ≡ unless t c Q ++ R
unless_more true c P Q R e = e
unless_more false c P Q R e = ap (λ x. c ∷ x) e

without_more : (v : ℕ) (P : List Clause) (c : Clause) → without v (P ++ (c ∷ [])) ≡ without v P ++ unless (mentions v c) c []
without_more v [] c = refl
without_more v (d ∷ P) c = unless_more (mentions v d) d (without v (P ++ (c ∷ []))) (without v P) (unless (mentions v c) c []) (without_more v P c)

-- of the places so far those with the variable are empty, and the others are as they were
pub record Dropped {A : Type 0} (v i : ℕ) (old new : List (Option (Vec ℕ A))) : Type 0 where
  pub count : length new ≡ length old
  pub rest : drop i new ≡ drop i old
  pub dropped : present (take i new) ≡ without v (present (take i old))
  pub stays : (j : ℕ) (c : Clause) → present_at new j ≡ Some c → present_at old j ≡ Some c

pub dropped_start : {A : Type 0} (v : ℕ) (old : List (Option (Vec ℕ A))) → Dropped v 0 old old
dropped_start v old = record { count = refl; rest = refl; dropped = refl; stays = λ j c e. e }

same_at : {A : Type 0} (v i : ℕ) (old new : List (Option (Vec ℕ A))) → Dropped v i old new → present_at new i ≡ present_at old i
same_at v i old new w = at_drop new i ∙ ap (λ cs. present_at cs 0) w.rest ∙ sym (at_drop old i)

rest_more : {A : Type 0} (v i : ℕ) (old new : List (Option (Vec ℕ A))) → Dropped v i old new → drop (i + 1) new ≡ drop (i + 1) old
rest_more v i old new w = sym (drop-drop 1 i new) ∙ ap (λ cs. drop 1 cs) w.rest ∙ drop-drop 1 i old

pub dropped_none : {A : Type 0} (v i : ℕ) (old new : List (Option (Vec ℕ A))) → present_at new i ≡ None → Dropped v i old new → Dropped v (i + 1) old new
dropped_none v i old new e w = record {
  count = w.count;
  rest = rest_more v i old new w;
  dropped = present_same new i e ∙ w.dropped ∙ ap (without v) (sym (present_same old i (sym (same_at v i old new w) ∙ e)));
  stays = w.stays;
}

pub dropped_kept : {A : Type 0} (v i : ℕ) (old new : List (Option (Vec ℕ A))) (c : Clause) → present_at new i ≡ Some c → mentions v c ≡ false →
    Dropped v i old new → Dropped v (i + 1) old new
dropped_kept v i old new c e f w = record {
  count = w.count;
  rest = rest_more v i old new w;
  dropped = present_more new i c e ∙ ap (λ P. P ++ (c ∷ [])) w.dropped ∙ ap (λ t. without v (present (take i old)) ++ unless t c []) (sym f) ∙
      sym (without_more v (present (take i old)) c) ∙ ap (without v) (sym (present_more old i c (sym (same_at v i old new w) ∙ e)));
  stays = w.stays;
}

pub dropped_same : {A : Type 0} (v i : ℕ) (old new : List (Option (Vec ℕ A))) → ((c : Clause) → present_at new i ≡ Some c → mentions v c ≡ false) →
    Dropped v i old new → Dropped v (i + 1) old new
dropped_same v i old new h w = by_case (present_at new i) refl
  where
    by_case : (o : Option Clause) → present_at new i ≡ o → Dropped v (i + 1) old new
    by_case None e = dropped_none v i old new e w
    by_case (Some c) e = dropped_kept v i old new c e (h c e) w

pub dropped_out : {A : Type 0} (v i : ℕ) (old mid new : List (Option (Vec ℕ A))) → ((c : Clause) × (present_at mid i ≡ Some c) × (mentions v c ≡ true)) →
    new ≡ set mid i None → Dropped v i old mid → Dropped v (i + 1) old new
dropped_out {A = A} v i old mid new (c, e, f) q w = subst (λ (x : List (Option (Vec ℕ A))). Dropped v (i + 1) old x) (sym q) record {
  count = length-set mid i None ∙ w.count;
  rest = drop-set-lt (i + 1) mid i None (omega arith) ∙ rest_more v i old mid w;
  dropped = present_same (set mid i None) i (at_set mid i) ∙ ap present (take-set-le i mid i None (omega arith)) ∙ w.dropped ∙
      sym (append-nil (without v (present (take i old)))) ∙ ap (λ t. without v (present (take i old)) ++ unless t c []) (sym f) ∙
      sym (without_more v (present (take i old)) c) ∙ ap (without v) (sym (present_more old i c (sym (same_at v i old mid w) ∙ e)));
  stays = λ j d g. w.stays j d (still_there mid i j d g);
}

pub dropped_all : {A : Type 0} (v i : ℕ) (old new : List (Option (Vec ℕ A))) → length old ≤ i → Dropped v i old new → present new ≡ without v (present old)
dropped_all v i old new h w =
    let n = w.count in
    sym (present_all new i (omega (arith, n))) ∙ w.dropped ∙ ap (without v) (present_all old i h)
