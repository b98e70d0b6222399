-- Lists in vectors, seen as lists of lists.
use Rattle.std.proofs.Common.{◌≡◌, ℕ, zero, suc, ◌+◌, ◌<◌, ◌≤◌, Bool, true, false, List, [], ◌∷◌, ◌++◌, ◌⊎◌, inl, inr, ⊎_elim, length, map, get_or, set, take, refl, sym, ap, ◌∙◌, subst, arith}
use Rattle.std.specs.declared.vec.Vec.{Vec}
use Rattle.std.specs.List.{filter}
use Rattle.std.proofs.lemmas.List.{map-set, get_or-map, length-map, set-get_or, get_or-set_same, length-set, get_or-set_other}
use Rattle.std.proofs.lemmas.Grind.{get_or_default_zero}
use Rattle.varisat_theory.specs.promises.Membership.{◌∈◌}
use Rattle.varisat_theory.specs.promises.Literals.{Literal, Clause}
use Rattle.varisat_theory.proofs.clauses.Members.{∈-append_left, ∈-append_right, equal_or_not}
use Rattle.varisat_theory.proofs.clauses.Places.{∈-take_more, ∈-take_all}
use Rattle.varisat_database.specs.Flags.{is_flagged}
use Rattle.varisat_database.specs.Names.{short_of}
use Rattle.varisat_database.specs.Sound.{IsSoundDatabase, Grows, IsListed, ListsOccurrences}

pub written : {X Z : Type 0} (ls : List (Vec X Z)) (now : List (List X)) (i j : ℕ) (v : Vec X Z) → map (λ (x : Vec X Z). x.items) ls ≡ now → i ≡ j →
    map (λ (x : Vec X Z). x.items) (set ls i v) ≡ set now j v.items
written {X} {Z} ls now i j v e k = map-set (λ (x : Vec X Z). x.items) ls i v ∙ rw (e, k) refl

pub read : {X Z : Type 0} (ls : List (Vec X Z)) (now : List (List X)) (i j : ℕ) (v : Vec X Z) → map (λ (x : Vec X Z). x.items) ls ≡ now → i ≡ j →
    j < length now → v ≡ get_or ls i v → v.items ≡ get_or now j []
read {X} {Z} ls now i j v e k h g =
    let l : length now ≡ length ls = ap length (sym e) ∙ length-map ls (λ (x : Vec X Z). x.items) in
    ap (λ (x : Vec X Z). x.items) g ∙ sym (get_or-map (λ (x : Vec X Z). x.items) ls i v [] (omega (arith, l))) ∙ rw (e, k) refl

pub grows_self : (xs : List (List ℕ)) → Grows xs xs
grows_self xs = record { same = refl; more = λ l k h. h }

pub grows_then : (xs ys zs : List (List ℕ)) → Grows xs ys → Grows ys zs → Grows xs zs
grows_then xs ys zs g h = record { same = h.same ∙ g.same; more = λ l k m. h.more l k (g.more l k m) }

pub grows_same : (xs ys : List (List ℕ)) → ys ≡ xs → Grows xs ys
grows_same xs ys e = subst (λ (zs : List (List ℕ)). Grows xs zs) (sym e) (grows_self xs)

-- one more place for a literal
pub grows_added : (xs ys : List (List ℕ)) (l p : ℕ) → l < length xs → ys ≡ set xs l (get_or xs l [] ++ p ∷ []) → Grows xs ys
grows_added xs ys l p h e = subst (λ (zs : List (List ℕ)). Grows xs zs) (sym e) (record {
  same = length-set xs l (get_or xs l [] ++ p ∷ []);
  more = λ m k i. ⊎_elim
      (λ q. subst (λ (zs : List ℕ). k ∈ zs) (sym (ap (λ j. get_or (set xs l (get_or xs l [] ++ p ∷ [])) j []) q ∙ get_or-set_same xs l (get_or xs l [] ++ p ∷ []) [] h))
      (∈-append_left k (get_or xs l []) (p ∷ []) (subst (λ j. k ∈ get_or xs j []) q i)))
      (λ n. subst (λ (zs : List ℕ). k ∈ zs) (sym (get_or-set_other xs l m (get_or xs l [] ++ p ∷ []) [] n)) i)
      (equal_or_not m l);
})

pub added_there : (xs ys : List (List ℕ)) (l p : ℕ) → l < length xs → ys ≡ set xs l (get_or xs l [] ++ p ∷ []) → p ∈ get_or ys l []
added_there xs ys l p h e =
    subst (λ (zs : List ℕ). p ∈ zs) (sym (ap (λ (zs : List (List ℕ)). get_or zs l []) e ∙ get_or-set_same xs l (get_or xs l [] ++ p ∷ []) [] h))
    (∈-append_right p (get_or xs l []) (p ∷ []) (inl refl))

pub listed_none : (names : List ℕ) (xs : List (List ℕ)) (c : List Literal) (p : ℕ) → IsListed names xs (take 0 c) p
listed_none names xs [] p l h = absurd h
listed_none names xs (x ∷ c) p l h = absurd h

pub listed_more : (names : List ℕ) (xs ys : List (List ℕ)) (c : List Literal) (i x z p : ℕ) → x ≡ get_or c i 0 → z ≡ short_of names x → z < length xs →
    ys ≡ set xs z (get_or xs z [] ++ p ∷ []) → IsListed names xs (take i c) p → IsListed names ys (take (i + 1) c) p
listed_more names xs ys c i x z p q f h e s l m =
    let g = grows_added xs ys z p h e in
    let n = g.same in
    ⊎_elim
    (λ a. let r = s l a in let b = r.0 in (omega (arith, b, n), g.more (short_of names l) p r.1))
    (λ w. let v : short_of names l ≡ z = ap (short_of names) (w ∙ sym q) ∙ sym f in
    (omega (arith, v, h, n), subst (λ j. p ∈ get_or ys j []) (sym v) (added_there xs ys z p h e)))
    (∈-take_more l c i 0 m)

pub listed_all : (names : List ℕ) (xs : List (List ℕ)) (c : List Literal) (i p : ℕ) → length c ≤ i → IsListed names xs (take i c) p → IsListed names xs c p
listed_all names xs c i p h s l m = s l (∈-take_all l c i h m)

pub set_back : (xs : List (List ℕ)) (i : ℕ) (zs : List ℕ) → zs ≡ get_or xs i [] → set xs i zs ≡ xs
set_back xs i zs e = ap (λ (ys : List ℕ). set xs i ys) e ∙ set-get_or xs i []

-- a sound database with more places listed
pub sound_grown : (n : ℕ) (cs : List Clause) (live : List Bool) (b : Bool) (names : List ℕ) (xs ys : List (List ℕ)) → Grows xs ys → IsSoundDatabase n cs live b names xs → IsSoundDatabase n cs live b names ys
sound_grown n cs live b names xs ys g s = record {
  even = s.even;
  small = s.small;
  listed = λ t k l a h. g.more (short_of names l) k (s.listed t k l a h);
}

-- once all are listed
pub sound_listed : (n : ℕ) (cs : List Clause) (live : List Bool) (b : Bool) (names : List ℕ) (xs ys : List (List ℕ)) → ListsOccurrences names cs live ys →
    IsSoundDatabase n cs live b names xs → IsSoundDatabase n cs live true names ys
sound_listed n cs live b names xs ys h s = record {
  even = s.even;
  small = s.small;
  listed = λ t. h;
}

pub get_or-pushed : {X : Type 0} (xs : List X) (x d : X) (k : ℕ) → ((k < length xs) × (get_or (xs ++ x ∷ []) k d ≡ get_or xs k d))
    ⊎ (((k ≡ length xs) × (get_or (xs ++ x ∷ []) k d ≡ x)) ⊎ ((length xs < k) × (get_or (xs ++ x ∷ []) k d ≡ d)))
get_or-pushed [] x d zero = inr (inl (refl, refl))
get_or-pushed [] x d (suc k) = inr (inr (omega arith, refl))
get_or-pushed (y ∷ xs) x d zero = inl (omega arith, refl)
get_or-pushed (y ∷ xs) x d (suc k) =
    ⊎_elim
    (λ h. inl (let p = h.0 in omega (arith, p), h.1))
    (λ h. inr (⊎_elim (λ e. inl (ap suc e.0, e.1)) (λ g. inr (let p = g.0 in omega (arith, p), g.1)) h))
    (get_or-pushed xs x d k)

length-pushed : {X : Type 0} (xs : List X) (x : X) → length (xs ++ x ∷ []) ≡ suc (length xs)
length-pushed [] x = refl
length-pushed (y ∷ xs) x = ap suc (length-pushed xs x)

-- with one more clause, whose place is listed
pub sound_pushed : (n : ℕ) (cs ds : List Clause) (live alive : List Bool) (f : Bool) (names : List ℕ) (xs ys : List (List ℕ)) (c : Clause) (p : ℕ) →
    p ≡ length cs → ds ≡ cs ++ c ∷ [] → alive ≡ live ++ true ∷ [] → Grows xs ys → (f ≡ true → IsListed names ys c p) → IsSoundDatabase n cs live f names xs →
    IsSoundDatabase n ds alive f names ys
sound_pushed n cs ds live alive f names xs ys c p q d a g h s =
    subst (λ (es : List Clause). IsSoundDatabase n es alive f names ys) (sym d) (subst (λ (bs : List Bool). IsSoundDatabase n (cs ++ c ∷ []) bs f names ys) (sym a) (record {
      even = length-pushed live true ∙ ap suc s.even ∙ sym (length-pushed cs c);
      small = s.small;
      listed = λ z k l b m. ⊎_elim
          (λ o. ⊎_elim
          (λ r. g.more (short_of names l) k (s.listed z k l (sym r.1 ∙ b) (subst (λ (e : Clause). l ∈ e) o.1 m)))
          (λ r. ⊎_elim
          (λ t. absurd (let u = o.0 in let v = t.0 in let w = s.even in omega (arith, u, v, w)))
          (λ t. absurd (let u = sym t.1 ∙ b in cc)) r)
          (get_or-pushed live true false k))
          (λ o. ⊎_elim
          (λ r. subst (λ j. j ∈ get_or ys (short_of names l) []) (q ∙ sym r.0) (h z l (subst (λ (e : Clause). l ∈ e) r.1 m)).1)
          (λ r. absurd (subst (λ (e : Clause). l ∈ e) r.1 m)) o)
          (get_or-pushed cs c [] k);
    }))

-- a place is no longer live
pub sound_removed : (n : ℕ) (cs : List Clause) (live alive : List Bool) (f : Bool) (names : List ℕ) (xs : List (List ℕ)) (i : ℕ) → alive ≡ set live i false →
    IsSoundDatabase n cs live f names xs → IsSoundDatabase n cs alive f names xs
sound_removed n cs live alive f names xs i e s = subst (λ (bs : List Bool). IsSoundDatabase n cs bs f names xs) (sym e) (record {
  even = length-set live i false ∙ s.even;
  small = s.small;
  listed = λ t k l a h. s.listed t k l (was live i k a) h;
})
  where
    was : (bs : List Bool) (i k : ℕ) → get_or (set bs i false) k false ≡ true → get_or bs k false ≡ true
    was [] i k a = a
    was (b ∷ bs) zero zero a = absurd (cc)
    was (b ∷ bs) zero (suc k) a = a
    was (b ∷ bs) (suc i) zero a = a
    was (b ∷ bs) (suc i) (suc k) a = was bs i k a

pub set_beyond : (bs : List Bool) (i : ℕ) (b : Bool) → length bs ≤ i → set bs i b ≡ bs
set_beyond [] i b h = refl
set_beyond (c ∷ bs) zero b h = absurd (omega arith)
set_beyond (c ∷ bs) (suc i) b h = ap (λ (cs : List Bool). c ∷ cs) (set_beyond bs i b (omega arith))

filter_yes : (p : ℕ → Bool) (x : ℕ) (xs : List ℕ) → p x ≡ true → filter p (x ∷ xs) ≡ x ∷ filter p xs
filter_yes p x xs e = rw e refl

filter_no : (p : ℕ → Bool) (x : ℕ) (xs : List ℕ) → p x ≡ false → filter p (x ∷ xs) ≡ filter p xs
filter_no p x xs e = rw e refl

filter_keeps : (p : ℕ → Bool) (xs : List ℕ) (k : ℕ) → p k ≡ true → k ∈ xs → k ∈ filter p xs
filter_keeps p [] k e h = h
filter_keeps p (x ∷ xs) k e (inl q) = subst (λ (zs : List ℕ). k ∈ zs) (sym (filter_yes p x xs (ap p (sym q) ∙ e))) (inl q)
filter_keeps p (x ∷ xs) k e (inr h) = go (p x) refl (filter_keeps p xs k e h)
  where
    go : (b : Bool) → p x ≡ b → k ∈ filter p xs → k ∈ filter p (x ∷ xs)
    go true q m = subst (λ (zs : List ℕ). k ∈ zs) (sym (filter_yes p x xs q)) (inr m)
    go false q m = subst (λ (zs : List ℕ). k ∈ zs) (sym (filter_no p x xs q)) m

-- only places that are not live are forgotten
pub sound_kept : (n : ℕ) (cs : List Clause) (live : List Bool) (f : Bool) (names : List ℕ) (xs ys : List (List ℕ)) (i : ℕ) → i < length xs →
    ys ≡ set xs i (filter (is_flagged live) (get_or xs i [])) → IsSoundDatabase n cs live f names xs → IsSoundDatabase n cs live f names ys
sound_kept n cs live f names xs ys i b e s = subst (λ (zs : List (List ℕ)). IsSoundDatabase n cs live f names zs) (sym e) (record {
  even = s.even;
  small = s.small;
  listed = λ t k l a h. ⊎_elim
      (λ q. subst (λ (zs : List ℕ). k ∈ zs)
      (sym (ap (λ j. get_or (set xs i (filter (is_flagged live) (get_or xs i []))) j []) q ∙ get_or-set_same xs i (filter (is_flagged live) (get_or xs i [])) [] b))
      (filter_keeps (is_flagged live) (get_or xs i []) k a (subst (λ j. k ∈ get_or xs j []) q (s.listed t k l a h))))
      (λ n. subst (λ (zs : List ℕ). k ∈ zs) (sym (get_or-set_other xs i (short_of names l) (filter (is_flagged live) (get_or xs i [])) [] n)) (s.listed t k l a h))
      (equal_or_not (short_of names l) i);
})

pub sound_same : (n : ℕ) (cs ds : List Clause) (live alive : List Bool) (f : Bool) (names : List ℕ) (xs ys : List (List ℕ)) → ds ≡ cs → alive ≡ live →
    Grows xs ys → IsSoundDatabase n cs live f names xs → IsSoundDatabase n ds alive f names ys
sound_same n cs ds live alive f names xs ys d a g s =
    subst (λ (es : List Clause). IsSoundDatabase n es alive f names ys) (sym d)
    (subst (λ (bs : List Bool). IsSoundDatabase n cs bs f names ys) (sym a) (sound_grown n cs live f names xs ys g s))

-- The live clauses at the first places are listed.
abbrev pub ListedTo : ℕ → List ℕ → List Clause → List Bool → List (List ℕ) → Type 0
ListedTo i names cs live lists = (k l : ℕ) → k < i → get_or live k false ≡ true → l ∈ get_or cs k [] → k ∈ get_or lists (short_of names l) []

pub listed_next : (i : ℕ) (names : List ℕ) (cs : List Clause) (live : List Bool) (xs ys : List (List ℕ)) (c : Clause) (b : Bool) → c ≡ get_or cs i [] →
    b ≡ get_or live i false → Grows xs ys → (b ≡ true → IsListed names ys c i) → ListedTo i names cs live xs → ListedTo (i + 1) names cs live ys
listed_next i names cs live xs ys c b e f g h r k l n a m = ⊎_elim
    (λ q. subst (λ j. j ∈ get_or ys (short_of names l) []) (sym q)
    (h (f ∙ subst (λ j. get_or live j false ≡ true) q a) l (subst (λ (d : Clause). l ∈ d) (ap (λ j. get_or cs j []) q ∙ sym e) m)).1)
    (λ d. g.more (short_of names l) k (r k l (omega (arith, n, d)) a m))
    (equal_or_not k i)

flagged_below : (live : List Bool) (k : ℕ) → get_or live k false ≡ true → k < length live
flagged_below [] k e = absurd (cc)
flagged_below (x ∷ live) zero e = omega arith
flagged_below (x ∷ live) (suc k) e = let h = flagged_below live k e in omega (arith, h)

pub listed_to_end : (i : ℕ) (names : List ℕ) (cs : List Clause) (live : List Bool) (xs : List (List ℕ)) → length live ≡ length cs → length cs ≤ i →
    ListedTo i names cs live xs → ListsOccurrences names cs live xs
listed_to_end i names cs live xs e n r k l a m = let b = flagged_below live k a in r k l (omega (arith, b, e, n)) a m

-- no live clause has a literal without a list
pub listed_beyond : (names : List ℕ) (cs : List Clause) (live : List Bool) (xs : List (List ℕ)) (k l z : ℕ) → z ≡ short_of names l → length xs ≤ z →
    ListsOccurrences names cs live xs → get_or live k false ≡ true → l ∈ get_or cs k [] → ⊥
listed_beyond names cs live xs k l z e n r a m = none k (subst (λ (ys : List ℕ). k ∈ ys) (beyond xs z n) (subst (λ j. k ∈ get_or xs j []) (sym e) (r k l a m)))
  where
    beyond : (xs : List (List ℕ)) (l : ℕ) → length xs ≤ l → get_or xs l [] ≡ []
    beyond [] l n = refl
    beyond (x ∷ xs) zero n = absurd (omega arith)
    beyond (x ∷ xs) (suc l) n = beyond xs l (omega arith)

    none : (k : ℕ) → k ∈ [] → ⊥
    none k h = h

-- an item by its place
pub item_at : (c : List ℕ) (i x : ℕ) → i < length c → x ≡ get_or c i x → x ≡ get_or c i 0
item_at c i x h e = e ∙ get_or_default_zero c i x h
