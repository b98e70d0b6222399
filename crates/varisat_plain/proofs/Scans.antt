-- What the checker's loops over lists find.
use Rattle.std.proofs.Common.{◌≡◌, ℕ, suc, ◌+◌, ◌<◌, ◌≤◌, Bool, true, false, ◌||◌, nat_eq, List, [], ◌∷◌, ◌++◌, IsTrue, ◌↔◌, inl, inr, ⊎_elim, sym, ap, ◌∙◌, subst, refl, length, get_or, take, drop, Vec, arith, eq-eqb, ne_eqb}
use Rattle.std.specs.List.{list_any}
use Rattle.std.proofs.lemmas.List.{take_more, take-map, drop-map, get_or-map, map-append, length-map}
use Rattle.varisat_theory.specs.promises.Membership.{◌∈◌, ◌⊆◌, SameSet}
use Rattle.varisat_theory.specs.promises.Literals.{Literal, Clause, opposite, opposites}
use Rattle.varisat_theory.specs.promises.Propagation.{HasClash}
use Rattle.varisat_theory.specs.promises.Derivations.{TakesOut}
use Rattle.varisat_plain.specs.promises.Checking.{clause_lists, IsAbsent}
use Rattle.varisat_theory.proofs.clauses.Members.{equal_or_not}
use Rattle.varisat_theory.proofs.clauses.Places.{cut_at, ∈-get_or, ∈-take_more, ∈-take_all}
use Rattle.varisat_theory.proofs.journals.Renaming.{∈-map}

pub answers_true : (X : Type 0) → X → IsTrue true ↔ X
answers_true X x = (λ t. x, λ y. refl)

pub answers_false : (X : Type 0) → (X → ⊥) → IsTrue false ↔ X
answers_false X n = (λ t. absurd (let e = t in cc), λ y. absurd (n y))

found_in : (x : ℕ) (xs : List ℕ) → list_any (λ y. nat_eq y x) xs ≡ true → x ∈ xs
found_in x [] e = absurd (cc)
found_in x (y ∷ ys) e =
    ⊎_elim
    (λ q. inl (sym q))
    (λ n. inr (found_in x ys (ap (λ b. b || list_any (λ z. nat_eq z x) ys) (sym (ne_eqb y x n)) ∙ e)))
    (equal_or_not y x)

or_true : (b : Bool) → (b || true) ≡ true
or_true true = refl
or_true false = refl

is_found : (x : ℕ) (xs : List ℕ) → x ∈ xs → list_any (λ y. nat_eq y x) xs ≡ true
is_found x [] h = absurd h
is_found x (y ∷ ys) (inl e) = ap (λ b. b || list_any (λ z. nat_eq z x) ys) (eq-eqb y x (sym e))
is_found x (y ∷ ys) (inr h) = ap (λ b. nat_eq y x || b) (is_found x ys h) ∙ or_true (nat_eq y x)

pub found : (x : ℕ) (xs : List ℕ) (b : Bool) → b ≡ list_any (λ y. nat_eq y x) xs → IsTrue b ↔ (x ∈ xs)
found x xs b e = (λ t. found_in x xs (sym e ∙ t), λ h. e ∙ is_found x xs h)

-- the test was false, so the fact doesn't hold
pub refused : (X : Type 0) (b : Bool) → b ≡ false → (IsTrue b ↔ X) → X → ⊥
refused X b e f x = let t = f.1 x in cc

-- the test was true
pub granted : (X : Type 0) (b : Bool) → b ≡ true → (IsTrue b ↔ X) → X
granted X b e f = f.0 e

pub part_more : (xs ys : List ℕ) (i : ℕ) → take i xs ⊆ ys → get_or xs i 0 ∈ ys → take (i + 1) xs ⊆ ys
part_more xs ys i s h x m = ⊎_elim (λ k. s x k) (λ e. subst (λ y. y ∈ ys) (sym e) h) (∈-take_more x xs i 0 m)

pub part_all : (xs ys : List ℕ) (i : ℕ) → length xs ≤ i → take i xs ⊆ ys → xs ⊆ ys
part_all xs ys i l s x h = s x (∈-take_all x xs i l h)

pub clash_more : (known : List Literal) (i r : ℕ) → r ≡ opposite (get_or known i 0) → (r ∈ known → ⊥) →
    ((x : ℕ) → x ∈ take i known → opposite x ∈ known → ⊥) → (x : ℕ) → x ∈ take (i + 1) known → opposite x ∈ known → ⊥
clash_more known i r e n f x h o =
    ⊎_elim (λ k. f x k o) (λ q. n (subst (λ y. y ∈ known) (ap opposite q ∙ sym e) o)) (∈-take_more x known i 0 h)

pub clash_none : (known : List Literal) (i : ℕ) → length known ≤ i → ((x : ℕ) → x ∈ take i known → opposite x ∈ known → ⊥) → HasClash known → ⊥
clash_none known i l f h = f h.0 (∈-take_all h.0 known i l h.1) h.2

pub opposites_append : (xs ys : List ℕ) → opposites (xs ++ ys) ≡ opposites xs ++ opposites ys
opposites_append [] ys = refl
opposites_append (x ∷ xs) ys = ap (λ l. opposite x ∷ l) (opposites_append xs ys)

pub opposites_more : (xs : List ℕ) (i : ℕ) (old new : List ℕ) (r : ℕ) → i < length xs → old ≡ opposites (take i xs) → new ≡ old ++ (r ∷ []) →
    r ≡ opposite (get_or xs i 0) → new ≡ opposites (take (i + 1) xs)
opposites_more xs i old new r l e f g =
    f ∙ ap (λ z. z ++ (r ∷ [])) e ∙ ap (λ z. opposites (take i xs) ++ (z ∷ [])) g ∙ sym (opposites_append (take i xs) (get_or xs i 0 ∷ []))
    ∙ ap opposites (sym (take_more xs i 0 l))

-- the clause at a place
pub list_at : {A : Type 0} (cs : List (Vec ℕ A)) (i : ℕ) (v : Vec ℕ A) (xs : List ℕ) → i < length cs → v ≡ get_or cs i v → xs ≡ v.items →
    get_or (clause_lists cs) i [] ≡ xs
list_at cs i v xs h e f = get_or-map (λ w. w.items) cs i v [] h ∙ sym (f ∙ ap (λ w. w.items) e)

pub list_in : {A : Type 0} (cs : List (Vec ℕ A)) (i : ℕ) (v : Vec ℕ A) (xs : List ℕ) → i < length cs → v ≡ get_or cs i v → xs ≡ v.items → xs ∈ clause_lists cs
list_in cs i v xs h e f =
    subst (λ y. y ∈ clause_lists cs) (sym (f ∙ ap (λ w. w.items) e)) (∈-map (λ w. w.items) (get_or cs i v) cs (∈-get_or cs i v h))

pub lists_short : {A : Type 0} (cs : List (Vec ℕ A)) (i : ℕ) → length cs ≤ i → length (clause_lists cs) ≤ i
lists_short cs i h = let e = length-map cs (λ v. v.items) in omega (arith, e)

pub lists_all : {A : Type 0} (cs : List (Vec ℕ A)) (i : ℕ) (c : Clause) → length cs ≤ i → c ∈ clause_lists cs → c ∈ take i (clause_lists cs)
lists_all cs i c h m = ∈-take_all c (clause_lists cs) i (let e = length-map cs (λ v. v.items) in omega (arith, e)) m

pub absent_more : {A : Type 0} (cs : List (Vec ℕ A)) (i : ℕ) (v : Vec ℕ A) (xs c : List ℕ) → i < length cs → v ≡ get_or cs i v → xs ≡ v.items →
    (SameSet xs c → ⊥) → IsAbsent (take i (clause_lists cs)) c → IsAbsent (take (i + 1) (clause_lists cs)) c
absent_more cs i v xs c h e f n a d m s =
    ⊎_elim (λ k. a d k s) (λ q. n (subst (λ y. SameSet y c) (q ∙ list_at cs i v xs h e f) s)) (∈-take_more d (clause_lists cs) i [] m)

pub absent_all : {A : Type 0} (cs : List (Vec ℕ A)) (i : ℕ) (c : Clause) → length cs ≤ i → IsAbsent (take i (clause_lists cs)) c → IsAbsent (clause_lists cs) c
absent_all cs i c h a d m s = a d (lists_all cs i d h m) s

-- the clause at a place is taken out
pub takes_at_place : {A : Type 0} (vs ws : List (Vec ℕ A)) (i : ℕ) (c : Clause) → i < length vs → SameSet (get_or (clause_lists vs) i []) c →
    ws ≡ take i vs ++ drop (i + 1) vs → TakesOut (clause_lists vs) c (clause_lists ws)
takes_at_place vs ws i c h s e =
    let n : i + 1 ≡ suc i = omega arith in
    let l : i < length (clause_lists vs) = (let q = length-map vs (λ v. v.items) in omega (arith, q)) in (
      take i (clause_lists vs),
      get_or (clause_lists vs) i [],
      drop (suc i) (clause_lists vs),
      cut_at (clause_lists vs) i [] l,
      s,
      ap clause_lists e
          ∙ map-append (λ v. v.items) (take i vs) (drop (i + 1) vs) ∙ ap (λ z. z ++ clause_lists (drop (i + 1) vs))
          (sym (take-map (λ v. v.items) i vs)) ∙ ap (λ z. take i (clause_lists vs) ++ z) (sym (drop-map (λ v. v.items) (i + 1) vs))
          ∙ ap (λ k. take i (clause_lists vs) ++ drop k (clause_lists vs)) n,
    )

pub lists_added : {A : Type 0} (vs : List (Vec ℕ A)) (v : Vec ℕ A) (c : Clause) → v.items ≡ c → clause_lists (vs ++ (v ∷ [])) ≡ clause_lists vs ++ (c ∷ [])
lists_added vs v c e = map-append (λ w. w.items) vs (v ∷ []) ∙ ap (λ x. clause_lists vs ++ (x ∷ [])) e

pub copied_more : {A B : Type 0} (cs : List (Vec ℕ A)) (made new : List (Vec ℕ B)) (i : ℕ) (v : Vec ℕ A) (w : Vec ℕ B) (xs : List ℕ) →
    i < length cs → v ≡ get_or cs i v → xs ≡ v.items → w.items ≡ xs → new ≡ made ++ (w ∷ []) → clause_lists made ≡ take i (clause_lists cs) →
    clause_lists new ≡ take (i + 1) (clause_lists cs)
copied_more cs made new i v w xs h e f g n m =
    let l : i < length (clause_lists cs) = (let q = length-map cs (λ u. u.items) in omega (arith, q)) in
    ap clause_lists n ∙ lists_added made w xs g ∙ ap (λ z. z ++ (xs ∷ [])) m
    ∙ ap (λ z. take i (clause_lists cs) ++ (z ∷ [])) (sym (list_at cs i v xs h e f)) ∙ sym (take_more (clause_lists cs) i [] l)

-- of the slice in place of the list
pub absent_there : {A : Type 0} (slice vs : List (Vec ℕ A)) (c : Clause) → slice ≡ vs → IsAbsent (clause_lists slice) c → IsAbsent (clause_lists vs) c
absent_there {A = A} slice vs c e a = subst (λ (l : List (Vec ℕ A)). IsAbsent (clause_lists l) c) e a

pub takes_out_there : {A : Type 0} (slice vs ws : List (Vec ℕ A)) (i : ℕ) (c : Clause) → slice ≡ vs → (i < length slice)
    × SameSet (get_or (clause_lists slice) i []) c → ws ≡ take i vs ++ drop (i + 1) vs → TakesOut (clause_lists vs) c (clause_lists ws)
takes_out_there {A = A} slice vs ws i c e w f =
    let v = subst (λ (l : List (Vec ℕ A)). (i < length l) × SameSet (get_or (clause_lists l) i []) c) e w in
    takes_at_place vs ws i c v.0 v.1 f
