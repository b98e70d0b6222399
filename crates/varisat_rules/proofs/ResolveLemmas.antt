-- What loops over literals find.
use Rattle.std.proofs.Common.{◌≡◌, ℕ, zero, suc, ◌+◌, ◌/◌, ◌<◌, ◌≤◌, Bool, true, false, ◌||◌, List, [], ◌∷◌, ◌++◌, ◌⊎◌, inl, inr, ⊎_elim, IsTrue, ◌↔◌, Option, Some, None, is_some, sym, ap, ◌∙◌, subst, refl, length, get_or, take, drop, arith}
use Rattle.std.specs.List.{list_any}
use Rattle.varisat_theory.specs.promises.Membership.{◌∈◌, ◌⊆◌}
use Rattle.varisat_theory.specs.promises.Literals.{Literal, Clause, opposite}
use Rattle.varisat_theory.proofs.clauses.Members.{∈-append_left, ∈-append_right, ∈-append_cases}
use Rattle.varisat_theory.proofs.clauses.Places.{∈-get_or, ∈-take_more, ∈-take_all}
use Rattle.varisat_theory.proofs.clauses.Values.{same_or_opposite}
use Rattle.varisat_rules.specs.inside.Resolving.{IsOfOthers, LeavesOut, Resolves, Clashes}
use Rattle.varisat_rules.specs.promises.Stacks.{amended, extended}

-- no element is among the first none
pub none_taken : {X : Type 0} (x : X) (xs : List X) → x ∈ take 0 xs → ⊥
none_taken x [] h = h
none_taken x (y ∷ xs) h = h

pub taken_in : {X : Type 0} (x : X) (xs : List X) (n : ℕ) → x ∈ take n xs → x ∈ xs
taken_in x [] zero h = h
taken_in x [] (suc n) h = h
taken_in x (y ∷ xs) zero h = absurd h
taken_in x (y ∷ xs) (suc n) (inl q) = inl q
taken_in x (y ∷ xs) (suc n) (inr h) = inr (taken_in x xs n h)

pub taken_before : {X : Type 0} (x : X) (xs : List X) (n : ℕ) → x ∈ take n xs → x ∈ take (n + 1) xs
taken_before {X = X} x xs n h = subst (λ k. x ∈ take k xs) one (go xs n h)
  where
    one : suc n ≡ n + 1
    one = omega arith

    go : (ys : List X) (k : ℕ) → x ∈ take k ys → x ∈ take (suc k) ys
    go [] zero m = m
    go [] (suc k) m = m
    go (y ∷ ys) zero m = absurd m
    go (y ∷ ys) (suc k) (inl e) = inl e
    go (y ∷ ys) (suc k) (inr m) = inr (go ys k m)

pub taken_last : {X : Type 0} (xs : List X) (n : ℕ) (d : X) → n < length xs → get_or xs n d ∈ take (n + 1) xs
taken_last {X = X} xs n d h = subst (λ k. get_or xs n d ∈ take k xs) one (go xs n h)
  where
    one : suc n ≡ n + 1
    one = omega arith

    go : (ys : List X) (k : ℕ) → k < length ys → get_or ys k d ∈ take (suc k) ys
    go [] k m = absurd (omega arith)
    go (y ∷ ys) zero m = inl refl
    go (y ∷ ys) (suc k) m = inr (go ys k (omega arith))

opposite_else : (m l : ℕ) → m / 2 ≡ l / 2 → (m ≡ l → ⊥) → opposite l ≡ m
opposite_else m l e n = ⊎_elim (λ q. absurd (n q)) (λ q. sym q) (same_or_opposite m l e)

pub found_same : (c : Clause) (i l m : ℕ) → i < length c → m ≡ get_or c i 0 → m ≡ l → l ∈ c
found_same c i l m h e f = subst (λ x. x ∈ c) (sym e ∙ f) (∈-get_or c i 0 h)

pub found_opposite : (c : Clause) (i l m : ℕ) → i < length c → m ≡ get_or c i 0 → m / 2 ≡ l / 2 → (m ≡ l → ⊥) → opposite l ∈ c
found_opposite c i l m h e f n = subst (λ x. x ∈ c) (sym e ∙ sym (opposite_else m l f n)) (∈-get_or c i 0 h)

pub unseen_more : (c : Clause) (i l m : ℕ) → m ≡ get_or c i 0 → (m ≡ l → ⊥) → (l ∈ take i c → ⊥) → l ∈ take (i + 1) c → ⊥
unseen_more c i l m e n f h = ⊎_elim f (λ q. n (e ∙ sym q)) (∈-take_more l c i 0 h)

pub unseen_all : (c : Clause) (i l : ℕ) → length c ≤ i → (l ∈ take i c → ⊥) → l ∈ c → ⊥
unseen_all c i l h f m = f (∈-take_all l c i h m)

pub others_none : (c : Clause) (l : Literal) → IsOfOthers (take 0 c) l
others_none c l m h e = none_taken m c h

pub others_more : (c : Clause) (i l m : ℕ) → m ≡ get_or c i 0 → (m / 2 ≡ l / 2 → ⊥) → IsOfOthers (take i c) l → IsOfOthers (take (i + 1) c) l
others_more c i l m e n r k h q = ⊎_elim (λ a. r k a q) (λ p. n (ap (λ x. x / 2) (e ∙ sym p) ∙ q)) (∈-take_more k c i 0 h)

pub others_all : (c : Clause) (i l : ℕ) → length c ≤ i → IsOfOthers (take i c) l → IsOfOthers c l
others_all c i l h r m k = r m (∈-take_all m c i h k)

-- the literals but for one
pub leaves_none : (c : Clause) (l : Literal) (e : Clause) → e ≡ [] → LeavesOut (take 0 c) l e
leaves_none c l e q = record {
  part = λ m h. absurd (subst (λ x. m ∈ x) q h);
  apart = λ m h r. subst (λ x. m ∈ x) q h;
  whole = λ m h. absurd (none_taken m c h);
}

pub leaves_kept : (c : Clause) (l : Literal) (e f : Clause) (i x : ℕ) → i < length c → x ≡ get_or c i 0 → (x ≡ l → ⊥) → f ≡ e ++ x ∷ [] →
    LeavesOut (take i c) l e → LeavesOut (take (i + 1) c) l f
leaves_kept c l e f i x h q n r s = record {
  part = λ m k. ⊎_elim (λ a. taken_before m c i (s.part m a)) (λ a. ⊎_elim (λ p. subst (λ y. y ∈ take (i + 1) c) (sym (p ∙ q)) (taken_last c i 0 h)) (λ z. absurd z) a)
      (∈-append_cases m e (x ∷ []) (subst (λ y. m ∈ y) r k));
  apart = λ m k p. ⊎_elim (λ a. s.apart m a p) (λ a. ⊎_elim (λ w. n (sym w ∙ p)) (λ z. z) a) (∈-append_cases m e (x ∷ []) (subst (λ y. m ∈ y) r k));
  whole = λ m k. ⊎_elim
      (λ a. ⊎_elim inl (λ b. inr (subst (λ y. m ∈ y) (sym r) (∈-append_left m e (x ∷ []) b))) (s.whole m a))
      (λ p. inr (subst (λ y. m ∈ y) (sym r) (∈-append_right m e (x ∷ []) (inl (p ∙ sym q)))))
      (∈-take_more m c i 0 k);
}

pub leaves_dropped : (c : Clause) (l : Literal) (e f : Clause) (i x : ℕ) → x ≡ get_or c i 0 → x ≡ l → f ≡ e →
    LeavesOut (take i c) l e → LeavesOut (take (i + 1) c) l f
leaves_dropped c l e f i x q p r s = subst (λ g. LeavesOut (take (i + 1) c) l g) (sym r) (record {
  part = λ m k. taken_before m c i (s.part m k);
  apart = s.apart;
  whole = λ m k. ⊎_elim (s.whole m) (λ w. inl (w ∙ sym q ∙ p)) (∈-take_more m c i 0 k);
})

pub leaves_all : (c : Clause) (l : Literal) (e : Clause) (i : ℕ) → length c ≤ i → LeavesOut (take i c) l e → LeavesOut c l e
leaves_all c l e i h s = record {
  part = λ m k. taken_in m c i (s.part m k);
  apart = s.apart;
  whole = λ m k. s.whole m (∈-take_all m c i h k);
}

-- the resolvent, as far as the first clause was read
pub resolves_none : (c d : Clause) (l : Literal) (e : Clause) → LeavesOut d (opposite l) e → Resolves (take 0 c) d l e
resolves_none c d l e s = record {
  from = λ m h. inr (s.part m h, s.apart m h);
  left = λ m h. absurd (none_taken m c h);
  right = s.whole;
}

resolves_from : (c d : Clause) (l : Literal) (e : Clause) (i : ℕ) → Resolves (take i c) d l e → (m : Literal) → m ∈ e →
    ((m ∈ take (i + 1) c) × (m ≡ l → ⊥)) ⊎ ((m ∈ d) × (m ≡ opposite l → ⊥))
resolves_from c d l e i s m h = ⊎_elim (λ a. inl (taken_before m c i a.0, a.1)) inr (s.from m h)

-- the literal itself is passed
pub resolves_passed : (c d : Clause) (l : Literal) (e f : Clause) (i x : ℕ) → x ≡ get_or c i 0 → x ≡ l → f ≡ e → Resolves (take i c) d l e →
    Resolves (take (i + 1) c) d l f
resolves_passed c d l e f i x q p r s = subst (λ g. Resolves (take (i + 1) c) d l g) (sym r) (record {
  from = resolves_from c d l e i s;
  left = λ m k. ⊎_elim (s.left m) (λ w. inl (w ∙ sym q ∙ p)) (∈-take_more m c i 0 k);
  right = s.right;
})

-- the other clause has it
pub resolves_same : (c d : Clause) (l : Literal) (e f : Clause) (i x : ℕ) → x ≡ get_or c i 0 → x ∈ d → f ≡ e → Resolves (take i c) d l e →
    Resolves (take (i + 1) c) d l f
resolves_same c d l e f i x q p r s = subst (λ g. Resolves (take (i + 1) c) d l g) (sym r) (record {
  from = resolves_from c d l e i s;
  left = λ m k. ⊎_elim (s.left m) (λ w. inr (s.right m (subst (λ y. y ∈ d) (q ∙ sym w) p))) (∈-take_more m c i 0 k);
  right = s.right;
})

-- it is added
pub resolves_added : (c d : Clause) (l : Literal) (e f : Clause) (i x : ℕ) → i < length c → x ≡ get_or c i 0 → (x ≡ l → ⊥) → f ≡ e ++ x ∷ [] →
    Resolves (take i c) d l e → Resolves (take (i + 1) c) d l f
resolves_added c d l e f i x h q n r s = record {
  from = λ m k. ⊎_elim
      (λ a. resolves_from c d l e i s m a)
      (λ a. ⊎_elim (λ w. inl (subst (λ y. y ∈ take (i + 1) c) (sym (w ∙ q)) (taken_last c i 0 h), λ p. n (sym w ∙ p))) (λ z. absurd z) a)
      (∈-append_cases m e (x ∷ []) (subst (λ y. m ∈ y) r k));
  left = λ m k. ⊎_elim
      (λ a. ⊎_elim inl (λ b. inr (⊎_elim inl (λ z. inr (subst (λ y. m ∈ y) (sym r) (∈-append_left m e (x ∷ []) z))) b)) (s.left m a))
      (λ w. inr (inr (subst (λ y. m ∈ y) (sym r) (∈-append_right m e (x ∷ []) (inl (w ∙ sym q))))))
      (∈-take_more m c i 0 k);
  right = λ m k. ⊎_elim inl (λ z. inr (subst (λ y. m ∈ y) (sym r) (∈-append_left m e (x ∷ []) z))) (s.right m k);
}

pub resolves_all : (c d : Clause) (l : Literal) (e : Clause) (i : ℕ) → length c ≤ i → Resolves (take i c) d l e → Resolves c d l e
resolves_all c d l e i h s = record {
  from = λ m k. ⊎_elim (λ a. inl (taken_in m c i a.0, a.1)) inr (s.from m k);
  left = λ m k. s.left m (∈-take_all m c i h k);
  right = s.right;
}

pub clash_at : (c d : Clause) (l : Literal) (i x : ℕ) → i < length c → x ≡ get_or c i 0 → (x ≡ l → ⊥) → opposite x ∈ d → Clashes c d l
clash_at c d l i x h q n o = (x, subst (λ y. y ∈ c) (sym q) (∈-get_or c i 0 h), n, o)

-- What one clause makes of another, as far as it was read, with the literal by which.
abbrev pub IsRelated : Clause → Clause → ℕ → Option ℕ → Type 0
IsRelated c d i None = (m : Literal) → m ∈ take i c → m ∈ d
IsRelated c d i (Some l) = (l ∈ c) × ((m : Literal) → m ∈ take i c → (m ≡ l) ⊎ (m ∈ d))

pub related_none : (c d : Clause) → IsRelated c d 0 None
related_none c d m h = absurd (none_taken m c h)

pub related_same : (c d : Clause) (i x : ℕ) (o : Option ℕ) → x ≡ get_or c i 0 → x ∈ d → IsRelated c d i o → IsRelated c d (i + 1) o
related_same c d i x None q h r = λ m k. ⊎_elim (r m) (λ w. subst (λ y. y ∈ d) (q ∙ sym w) h) (∈-take_more m c i 0 k)
related_same c d i x (Some l) q h r = (r.0, λ m k. ⊎_elim (r.1 m) (λ w. inr (subst (λ y. y ∈ d) (q ∙ sym w) h)) (∈-take_more m c i 0 k))

pub related_flipped : (c d : Clause) (i x : ℕ) → i < length c → x ≡ get_or c i 0 → IsRelated c d i None → IsRelated c d (i + 1) (Some x)
related_flipped c d i x h q r = (
  subst (λ y. y ∈ c) (sym q) (∈-get_or c i 0 h),
  λ m k. ⊎_elim (λ a. inr (r m a)) (λ w. inl (w ∙ sym q)) (∈-take_more m c i 0 k),
)

-- some literal is true
pub any_none : (p : Literal → Bool) (c : Clause) → list_any p (take 0 c) ≡ false
any_none p [] = refl
any_none p (x ∷ c) = refl

pub any_more : (p : Literal → Bool) (c : Clause) (i x : ℕ) → x ≡ get_or c i 0 → p x ≡ false → list_any p (take i c) ≡ false → list_any p (take (i + 1) c) ≡ false
any_more p c i x q f e = subst (λ k. list_any p (take k c) ≡ false) one (go c i (ap p (sym q) ∙ f) e)
  where
    one : suc i ≡ i + 1
    one = omega arith

    go : (d : Clause) (k : ℕ) → p (get_or d k 0) ≡ false → list_any p (take k d) ≡ false → list_any p (take (suc k) d) ≡ false
    go [] k g h = refl
    go (y ∷ d) zero g h = ap (λ b. b || list_any p (take 0 d)) g ∙ any_none p d
    go (y ∷ d) (suc k) g h = both (p y) (list_any p (take k d)) (list_any p (take (suc k) d)) h (go d k g)
      where
        both : (a b c : Bool) → (a || b) ≡ false → (b ≡ false → c ≡ false) → (a || c) ≡ false
        both true b c e f = e
        both false b c e f = f e

pub any_all : (p : Literal → Bool) (c : Clause) (i : ℕ) → length c ≤ i → list_any p (take i c) ≡ false → list_any p c ≡ false
any_all p [] i h e = refl
any_all p (x ∷ c) zero h e = absurd (omega arith)
any_all p (x ∷ c) (suc i) h e = both (p x) (list_any p (take i c)) (list_any p c) e (any_all p c i (omega arith))
  where
    both : (a b c : Bool) → (a || b) ≡ false → (b ≡ false → c ≡ false) → (a || c) ≡ false
    both true b c e f = e
    both false b c e f = f e

pub any_found : (p : Literal → Bool) (c : Clause) (i x : ℕ) → i < length c → x ≡ get_or c i 0 → p x ≡ true → list_any p c ≡ true
any_found p c i x h q t = go c i h (ap p (sym q) ∙ t)
  where
    or_true : (b : Bool) → (b || true) ≡ true
    or_true true = refl
    or_true false = refl

    go : (d : Clause) (k : ℕ) → k < length d → p (get_or d k 0) ≡ true → list_any p d ≡ true
    go [] k g e = absurd (omega arith)
    go (y ∷ d) zero g e = ap (λ b. b || list_any p d) e
    go (y ∷ d) (suc k) g e = ap (λ b. p y || b) (go d k (omega arith) e) ∙ or_true (p y)

-- amended by one clause more
pub extended_step : (stack : List Clause) (vs : List Bool) (k n : ℕ) → n ≡ k + 1 → k < length stack →
    amended (get_or stack k []) (extended (drop n stack) vs) ≡ extended (drop k stack) vs
extended_step stack vs k n q h = subst (λ m. amended (get_or stack k []) (extended (drop m stack) vs) ≡ extended (drop k stack) vs) (sym (q ∙ one)) (go stack k h)
  where
    one : k + 1 ≡ suc k
    one = omega arith

    go : (st : List Clause) (k : ℕ) → k < length st → amended (get_or st k []) (extended (drop (suc k) st) vs) ≡ extended (drop k st) vs
    go [] k h = absurd (omega arith)
    go (c ∷ st) zero h = ap (λ (s : List Clause). amended c (extended s vs)) (drop_none st)
      where
        drop_none : (s : List Clause) → drop 0 s ≡ s
        drop_none [] = refl
        drop_none (c ∷ s) = refl
    go (c ∷ st) (suc k) h = go st k (omega arith)

pub answers_true : (X : Type 0) → X → IsTrue true ↔ X
answers_true X x = (λ t. x, λ y. refl)

pub answers_false : (X : Type 0) → (X → ⊥) → IsTrue false ↔ X
answers_false X n = (λ t. absurd (let e = t in cc), λ y. absurd (n y))

-- the test was false, so the fact doesn't hold
pub refused : (X : Type 0) (b : Bool) → b ≡ false → (IsTrue b ↔ X) → X → ⊥
refused X b e f x = let t = f.1 x in cc

-- the test was true
pub granted : (X : Type 0) (b : Bool) → b ≡ true → (IsTrue b ↔ X) → X
granted X b e f = f.0 e

pub related_kept : (c d : Clause) (i x : ℕ) (o p : Option ℕ) → p ≡ o → x ≡ get_or c i 0 → x ∈ d → IsRelated c d i o → IsRelated c d (i + 1) p
related_kept c d i x o p e q h r = subst (λ (z : Option ℕ). IsRelated c d (i + 1) z) (sym e) (related_same c d i x o q h r)

pub related_first : (c d : Clause) (i x : ℕ) (o p : Option ℕ) → p ≡ Some x → is_some o ≡ false → i < length c → x ≡ get_or c i 0 → IsRelated c d i o → IsRelated c d (i + 1) p
related_first c d i x o p e n h q r = subst (λ (z : Option ℕ). IsRelated c d (i + 1) z) (sym e) (go o n r)
  where
    go : (z : Option ℕ) → is_some z ≡ false → IsRelated c d i z → IsRelated c d (i + 1) (Some x)
    go None m s = related_flipped c d i x h q s
    go (Some l) m s = absurd (cc)

pub related_whole : (c d : Clause) (i : ℕ) (o : Option ℕ) → o ≡ None → length c ≤ i → IsRelated c d i o → c ⊆ d
related_whole c d i o e h r m k = (subst (λ (z : Option ℕ). IsRelated c d i z) e r) m (∈-take_all m c i h k)

pub related_by : (c d : Clause) (i l n : ℕ) (o : Option ℕ) (b : Bool) → o ≡ Some l → length c ≤ i → n ≡ opposite l → b ≡ false → (IsTrue b ↔ (n ∈ c)) →
    IsRelated c d i o → (l ∈ c) × ((m : Literal) → m ∈ c → (m ≡ l) ⊎ ((m ∈ d) × (m ≡ opposite l → ⊥)))
related_by c d i l n o b e h q f t r =
    let s = subst (λ (z : Option ℕ). IsRelated c d i z) e r in
    (s.0, λ m k. ⊎_elim inl (λ a. inr (a, λ p. refused (n ∈ c) b f t (subst (λ y. y ∈ c) (p ∙ sym q) k))) (s.1 m (∈-take_all m c i h k)))
