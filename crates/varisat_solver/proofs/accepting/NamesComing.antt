-- How many names come into use with those of a clause, and which.
use Rattle.std.proofs.Common.{◌≡◌, ℕ, zero, suc, ◌+◌, ◌-◌, ◌<◌, ◌≤◌, ◌↔◌, max, nat_lt, if◌then◌else◌, false, Option, Some, None, List, [], ◌∷◌, ⊎_elim, length, sym, ap, ◌∙◌, subst, refl, arith, rules, ◌≢◌, Bool, true, MatchBool, MatchOption, append_assoc, ◌++◌, inl, inr}
use Rattle.std.proofs.lemmas.Bool.{lt-ltb, cases_lt}
use Rattle.std.proofs.lemmas.List.{length-append}
use Rattle.varisat_theory.specs.promises.Literals.{Literal, variable_of}
use Rattle.varisat_theory.proofs.clauses.Members.{equal_or_not, ∈-append_cases, ∈-append_left, ∈-append_right}
use Rattle.varisat_names.specs.promises.Maps.{updated}
use Rattle.varisat_names.specs.promises.VarMap.{at}
use Rattle.varisat_names.specs.promises.Variables.{Tables, IsGiven, AreNextGiven, IsNamed, InUse, Free, Above}
use Rattle.varisat_names.proofs.Maps.{updated-at, updated-other, is-some}
use Rattle.varisat_names.proofs.VarMap.{at-inside}
use Rattle.varisat_solver.specs.promises.Names.{Naming, bring, bring_next, bring_if_free, name_one, name_all, IsWitness, NameNoWitness, IsFirstWitness, IsNextWitness}
use Rattle.varisat_solver.specs.promises.Calls.{HasTooManyVariables, IsPastLimit}
use Rattle.varisat_solver.specs.inside.Accepting.{naming_of}
use Rattle.varisat_solver.proofs.modes.VariableMoves.{given-most}
use Rattle.varisat_theory.specs.promises.Membership.{◌∈◌}
use Rattle.varisat_literals.specs.promises.Numbers.{variable_limit}

-- Names that come into use where they are the same in two namings, or in the tables and in a naming.

-- 1. What naming one name does.

-- The name was in use, or comes into use alone, or with all names from the watermark up to it.
pub data IsNamedTo (u : ℕ) (m new : Naming) : Type 0 where
  Same : (i : ℕ) → u < m.watermark → m.names u ≡ Some i → new ≡ m → IsNamedTo u m new
  Alone : u < m.watermark → m.names u ≡ None → new ≡ bring u m → IsNamedTo u m new
  Onward : m.watermark ≤ u → new ≡ bring_next (u + 1 - m.watermark) m → IsNamedTo u m new

pub named-to : (u : ℕ) (m : Naming) → IsNamedTo u m (name_one u m)
named-to u m =
    ⊎_elim
    (λ h. let e = ap (λ b. if b then bring_if_free u (m.names u) m else bring_next (suc u - m.watermark) m) (lt-ltb u m.watermark h) in
    ⊎_elim
    (λ f. Alone h f (e ∙ ap (λ o. bring_if_free u o m) f))
    (λ (i, f). Same i h f (e ∙ ap (λ o. bring_if_free u o m) f))
    (is-some (m.names u)))
    (λ h. let n : suc u - m.watermark ≡ u + 1 - m.watermark = omega arith in
    Onward h (ap (λ b. if b then bring_if_free u (m.names u) m else bring_next (suc u - m.watermark) m) (not-below u m.watermark h)
    ∙ ap (λ k. bring_next k m) n))
    (cases_lt u m.watermark)
  where
    not-below : (a b : ℕ) → b ≤ a → nat_lt a b ≡ false
    not-below a b h = search (rules, h)

-- 2. Namings that are alike.

-- The same names are in use, and the second has made as many identities at least.
pub record AreAlike (m n : Naming) : Type 0 where
  pub watermark : n.watermark ≡ m.watermark
  pub free : (u : ℕ) → (m.names u ≡ None) ↔ (n.names u ≡ None)
  pub made : m.made ≤ n.made

pub alike-self : (m : Naming) → AreAlike m m
alike-self m = record { watermark = refl; free = λ u. ((λ e. e), (λ e. e)); made = omega arith }

pub alike-on : (l m n : Naming) → AreAlike l m → AreAlike m n → AreAlike l n
alike-on l m n a b = record {
  watermark = b.watermark ∙ a.watermark;
  free = λ u. ((λ e. (b.free u).0 ((a.free u).0 e)), (λ e. (a.free u).1 ((b.free u).1 e)));
  made = let x = a.made in let y = b.made in omega (arith, x, y);
}

updated-free : (f g : ℕ → Option ℕ) (u a b : ℕ) → ((v : ℕ) → (f v ≡ None) ↔ (g v ≡ None)) → (v : ℕ) →
    (updated f u (Some a) v ≡ None) ↔ (updated g u (Some b) v ≡ None)
updated-free f g u a b h v =
    ⊎_elim
    (λ e. (
      (λ z. let q : Some a ≡ None = sym (updated-at f u (Some a)) ∙ ap (updated f u (Some a)) (sym e) ∙ z in absurd cc),
      (λ z. let q : Some b ≡ None = sym (updated-at g u (Some b)) ∙ ap (updated g u (Some b)) (sym e) ∙ z in absurd cc),
    ))
    (λ n. (
      (λ z. updated-other g u (Some b) v n ∙ (h v).0 (sym (updated-other f u (Some a) v n) ∙ z)),
      (λ z. updated-other f u (Some a) v n ∙ (h v).1 (sym (updated-other g u (Some b) v n) ∙ z)),
    ))
    (equal_or_not v u)

bring-alike : (u : ℕ) (m n : Naming) → AreAlike m n → AreAlike (bring u m) (bring u n)
bring-alike u m n h = record {
  watermark = ap (λ k. max k (u + 1)) h.watermark;
  free = updated-free m.names n.names u m.made n.made h.free;
  made = let a = h.made in omega (arith, a);
}

next-alike : (k : ℕ) (m n : Naming) → AreAlike m n → AreAlike (bring_next k m) (bring_next k n)
next-alike zero m n h = h
next-alike (suc k) m n h = next-alike k (bring m.watermark m) (bring n.watermark n)
    (subst (λ w. AreAlike (bring m.watermark m) (bring w n)) (sym h.watermark) (bring-alike m.watermark m n h))

alike-by : (m n x y : Naming) → x ≡ m → y ≡ n → AreAlike m n → AreAlike x y
alike-by m n x y e f h = subst (λ z. AreAlike z y) (sym e) (subst (AreAlike m) (sym f) h)

-- a name that is named in both
named-to-alike : (u : ℕ) (m n x y : Naming) → AreAlike m n → IsNamedTo u m x → IsNamedTo u n y → AreAlike x y
named-to-alike u m n x y h (Same i b e p) (Same j c f q) = alike-by m n x y p q h
named-to-alike u m n x y h (Same i b e p) (Alone c f q) = absurd (let z : Some i ≡ None = sym e ∙ (h.free u).1 f in cc)
named-to-alike u m n x y h (Same i b e p) (Onward c q) = absurd (let w = h.watermark in omega (arith, b, c, w))
named-to-alike u m n x y h (Alone b e p) (Same j c f q) = absurd (let z : Some j ≡ None = sym f ∙ (h.free u).0 e in cc)
named-to-alike u m n x y h (Alone b e p) (Alone c f q) = alike-by (bring u m) (bring u n) x y p q (bring-alike u m n h)
named-to-alike u m n x y h (Alone b e p) (Onward c q) = absurd (let w = h.watermark in omega (arith, b, c, w))
named-to-alike u m n x y h (Onward b p) (Same j c f q) = absurd (let w = h.watermark in omega (arith, b, c, w))
named-to-alike u m n x y h (Onward b p) (Alone c f q) = absurd (let w = h.watermark in omega (arith, b, c, w))
named-to-alike u m n x y h (Onward b p) (Onward c q) = alike-by (bring_next (u + 1 - m.watermark) m) (bring_next (u + 1 - m.watermark) n) x y p
    (q ∙ ap (λ w. bring_next (u + 1 - w) n) h.watermark) (next-alike (u + 1 - m.watermark) m n h)

pub one-alike : (u : ℕ) (m n : Naming) → AreAlike m n → AreAlike (name_one u m) (name_one u n)
one-alike u m n h = named-to-alike u m n (name_one u m) (name_one u n) h (named-to u m) (named-to u n)

pub all-alike : (d : List Literal) (m n : Naming) → AreAlike m n → AreAlike (name_all d m) (name_all d n)
all-alike [] m n h = h
all-alike (l ∷ d) m n h = all-alike d (name_one (variable_of l) m) (name_one (variable_of l) n) (one-alike (variable_of l) m n h)

pub alike-too-many : (m n : Naming) → AreAlike m n → HasTooManyVariables m → HasTooManyVariables n
alike-too-many m n h c = let a = h.made in omega (arith, a, c)

-- 3. The tables after a name was named are like their naming with it.

given-alike : (old new : Tables) (u x : ℕ) → IsGiven old new u x → AreAlike (naming_of new) (bring u (naming_of old))
given-alike old new u x g = record {
  watermark = sym g.users.forward.watermark;
  free = λ v.
      let e = g.users.forward.at_each v in
      let r = updated-free (at old.users.forward) (at old.users.forward) u x (length old.kept) (λ w. ((λ z. z), (λ z. z))) v in
      ((λ z. r.0 (sym e ∙ z)), (λ z. e ∙ r.1 z));
  made = given-most old new u x g;
}

next-given-alike : (k : ℕ) (old new : Tables) → AreNextGiven k old new → AreAlike (naming_of new) (bring_next k (naming_of old))
next-given-alike zero old new e = subst (λ t. AreAlike (naming_of t) (naming_of old)) (sym e) (alike-self (naming_of old))
next-given-alike (suc k) old new (mid, x, g, rest) =
    let m = bring (length old.users.forward) (naming_of old) in
    alike-on (naming_of new) (bring_next k (naming_of mid)) (bring_next k m) (next-given-alike k mid new rest)
    (next-alike k (naming_of mid) m (given-alike old mid (length old.users.forward) x g))

named-alike : (u : ℕ) (old new : Tables) (y : Naming) → IsNamed u old new → IsNamedTo u (naming_of old) y → AreAlike (naming_of new) y
named-alike u old new y (InUse x e p) (Same j c f q) = alike-by (naming_of old) (naming_of old) (naming_of new) y (ap (λ t. naming_of t) p) q
    (alike-self (naming_of old))
named-alike u old new y (InUse x e p) (Alone c f q) = absurd (let z : Some x ≡ None = sym e ∙ f in cc)
named-alike u old new y (InUse x e p) (Onward c q) = absurd (let b = at-inside old.users.forward u x e in omega (arith, b, c))
named-alike u old new y (Free x b e g) (Same j c f q) = absurd (let z : Some j ≡ None = sym f ∙ e in cc)
named-alike u old new y (Free x b e g) (Alone c f q) = subst (AreAlike (naming_of new)) (sym q) (given-alike old new u x g)
named-alike u old new y (Free x b e g) (Onward c q) = absurd (omega (arith, b, c))
named-alike u old new y (Above b r) (Same j c f q) = absurd (omega (arith, b, c))
named-alike u old new y (Above b r) (Alone c f q) = absurd (omega (arith, b, c))
named-alike u old new y (Above b r) (Onward c q) = subst (AreAlike (naming_of new)) (sym q) (next-given-alike (u + 1 - length old.users.forward) old new r)

pub one-named : (u : ℕ) (old new : Tables) (m : Naming) → IsNamed u old new → AreAlike (naming_of old) m → AreAlike (naming_of new) (name_one u m)
one-named u old new m n h = alike-on (naming_of new) (name_one u (naming_of old)) (name_one u m)
    (named-alike u old new (name_one u (naming_of old)) n (named-to u (naming_of old))) (one-alike u (naming_of old) m h)

-- 1. Lists of literals.

pub all-append : (d e : List Literal) (m : Naming) → name_all (d ++ e) m ≡ name_all e (name_all d m)
all-append [] e m = refl
all-append (l ∷ d) e m = all-append d e (name_one (variable_of l) m)

pub split-again : (d : List Literal) (l : Literal) (e : List Literal) → d ++ l ∷ e ≡ (d ++ l ∷ []) ++ e
split-again [] l e = refl
split-again (k ∷ d) l e = ap (λ ls. k ∷ ls) (split-again d l e)

-- 2. Names from the watermark on.

next-watermark : (k : ℕ) (m : Naming) → (bring_next k m).watermark ≡ m.watermark + k
next-watermark zero m = omega arith
next-watermark (suc k) m = let r = next-watermark k (bring m.watermark m) in omega (arith, r)

pub next-made : (k : ℕ) (m : Naming) → (bring_next k m).made ≡ m.made + k
next-made zero m = omega arith
next-made (suc k) m = let r = next-made k (bring m.watermark m) in omega (arith, r)

-- those below it stay as they are
pub next-below : (k : ℕ) (m : Naming) (v : ℕ) → v < m.watermark → (bring_next k m).names v ≡ m.names v
next-below zero m v h = refl
next-below (suc k) m v h = next-below k (bring m.watermark m) v (omega (arith, h))
    ∙ updated-other m.names m.watermark (Some m.made) v (λ e. absurd (omega (arith, e, h)))

next-used : (k : ℕ) (m : Naming) (v : ℕ) → m.watermark ≤ v → v < m.watermark + k → (bring_next k m).names v ≢ None
next-used zero m v a b = absurd (omega (arith, a, b))
next-used (suc k) m v a b =
    ⊎_elim
    (λ e z. let q : Some m.made ≡ None =
    sym (next-below k (bring m.watermark m) v (omega (arith, e)) ∙ ap (updated m.names m.watermark (Some m.made)) e
    ∙ updated-at m.names m.watermark (Some m.made)) ∙ z in cc)
    (λ n. next-used k (bring m.watermark m) v (omega (arith, a, n)) (omega (arith, b)))
    (equal_or_not v m.watermark)

-- 3. The watermark, and how many identities there are at most.

named-watermark : (u : ℕ) (m new : Naming) → IsNamedTo u m new → new.watermark ≡ max m.watermark (u + 1)
named-watermark u m new (Same i b e q) = let w = ap (λ (n : Naming). n.watermark) q in omega (arith, b, w)
named-watermark u m new (Alone b e q) = ap (λ (n : Naming). n.watermark) q
named-watermark u m new (Onward b q) = let w = ap (λ (n : Naming). n.watermark) q in let r = next-watermark (u + 1 - m.watermark) m in omega (arith, b, w, r)

pub one-watermark : (u : ℕ) (m : Naming) → (name_one u m).watermark ≡ max m.watermark (u + 1)
one-watermark u m = named-watermark u m (name_one u m) (named-to u m)

pub all-watermark : (d : List Literal) (m : Naming) → m.watermark ≤ (name_all d m).watermark
all-watermark [] m = omega arith
all-watermark (l ∷ d) m = let a = one-watermark (variable_of l) m in let b = all-watermark d (name_one (variable_of l) m) in omega (arith, a, b)

pub all-in-range : (d : List Literal) (m : Naming) → (IsPastLimit d → ⊥) → m.watermark ≤ variable_limit → (name_all d m).watermark ≤ variable_limit
all-in-range [] m n h = h
all-in-range (l ∷ d) m n h =
    let a = one-watermark (variable_of l) m in
    all-in-range d (name_one (variable_of l) m) (λ (k, i, b). n (k, inr i, b))
    (⊎_elim (λ b. omega (arith, a, b, h)) (λ b. absurd (n (l, inl refl, b))) (cases_lt (variable_of l) variable_limit))

-- a name is past the limit just where the watermark is
pub past-limit : (d : List Literal) (m : Naming) → m.watermark ≤ variable_limit → variable_limit < (name_all d m).watermark → IsPastLimit d
past-limit [] m h k = absurd (omega (arith, h, k))
past-limit (l ∷ d) m h k =
    let a = one-watermark (variable_of l) m in
    ⊎_elim
    (λ b. let (j, i, c) = past-limit d (name_one (variable_of l) m) (omega (arith, a, b, h)) k in (j, inr i, c))
    (λ b. (l, inl refl, b))
    (cases_lt (variable_of l) variable_limit)

pub within-limit : (d : List Literal) (m : Naming) → (name_all d m).watermark ≤ variable_limit → IsPastLimit d → ⊥
within-limit [] m h (j, i, c) = absurd i
within-limit (l ∷ d) m h (j, i, c) =
    let a = one-watermark (variable_of l) m in
    let b = all-watermark d (name_one (variable_of l) m) in
    ⊎_elim (λ e. let v = ap variable_of e in absurd (omega (arith, a, b, h, c, v)))
    (λ k. within-limit d (name_one (variable_of l) m) h (j, k, c)) i

pub limit-decides : (t : Bool) (d : List Literal) (m : Naming) (n w : ℕ) → nat_lt n w ≡ t → n ≡ variable_limit → w ≡ (name_all d m).watermark →
    m.watermark ≤ variable_limit → MatchBool t (IsPastLimit d) (IsPastLimit d → ⊥)
limit-decides true d m n w e f k h = let b = below n w e in past-limit d m h (omega (arith, b, f, k))
  where
    below : (n w : ℕ) → nat_lt n w ≡ true → n < w
    below n w e = search (rules, e)
limit-decides false d m n w e f k h = let b = above n w e in within-limit d m (omega (arith, b, f, k))
  where
    above : (n w : ℕ) → nat_lt n w ≡ false → w ≤ n
    above n w e = search (rules, e)

-- those from the watermark on come, and each literal may bring one beside them
named-made : (u : ℕ) (m new : Naming) → IsNamedTo u m new → (m.made + (new.watermark - m.watermark) ≤ new.made)
    × (new.made ≤ m.made + (new.watermark - m.watermark) + 1)
named-made u m new (Same i b e q) = let c = ap (λ (n : Naming). n.made) q in let w = ap (λ (n : Naming). n.watermark) q in
    (omega (arith, c, w), omega (arith, c))
named-made u m new (Alone b e q) = let c = ap (λ (n : Naming). n.made) q in let w = ap (λ (n : Naming). n.watermark) q in
    (omega (arith, b, c, w), omega (arith, c))
named-made u m new (Onward b q) =
    let c = ap (λ (n : Naming). n.made) q in
    let w = ap (λ (n : Naming). n.watermark) q in
    let k = u + 1 - m.watermark in
    let r = next-made k m in
    let s = next-watermark k m in
    (omega (arith, c, r, w, s), omega (arith, c, r, w, s))

pub all-made : (d : List Literal) (m : Naming) → (m.made + ((name_all d m).watermark - m.watermark) ≤ (name_all d m).made)
    × ((name_all d m).made ≤ m.made + ((name_all d m).watermark - m.watermark) + length d)
all-made [] m = (omega arith, omega arith)
all-made (l ∷ d) m =
    let n = name_one (variable_of l) m in
    let (a, b) = named-made (variable_of l) m n (named-to (variable_of l) m) in
    let (c, e) = all-made d n in
    let v = one-watermark (variable_of l) m in
    let w = all-watermark d n in
    (omega (arith, a, c, v, w), omega (arith, b, e, v, w))

-- 4. How many there are.

-- The literals of d were named, and of the names below the first watermark as many came into use as is counted.
pub record AreCounted (start : Naming) (d : List Literal) (m : Naming) (count : ℕ) : Type 0 where
  pub watermark : start.watermark ≤ m.watermark
  pub made : m.made ≡ start.made + (m.watermark - start.watermark) + count
  pub most : count ≤ length d
  pub above : (u : ℕ) → start.watermark ≤ u → u < m.watermark → m.names u ≢ None
  pub free : (u : ℕ) → u < start.watermark → m.names u ≡ None → (start.names u ≡ None) × ((l : Literal) → l ∈ d → variable_of l ≢ u)
  pub still : (u : ℕ) → u < start.watermark → start.names u ≡ None → ((l : Literal) → l ∈ d → variable_of l ≢ u) → m.names u ≡ None

pub none-counted : (start : Naming) → AreCounted start [] start 0
none-counted start = record {
  watermark = omega arith;
  made = omega arith;
  most = omega arith;
  above = λ u a b. absurd (omega (arith, a, b));
  free = λ u b e. (e, λ l h. absurd h);
  still = λ u b e h. e;
}

module _ (start m : Naming) (d : List Literal) (l : Literal) (count : ℕ) (c : AreCounted start d m count) where
  u : ℕ
  u = variable_of l

  snoc : length (d ++ l ∷ []) ≡ length d + 1
  snoc = length-append d (l ∷ [])

  -- another name than that of the literal and of those before
  others : (v : ℕ) → (u ≡ v → ⊥) → ((k : Literal) → k ∈ d → variable_of k ≢ v) → (k : Literal) → k ∈ (d ++ l ∷ []) → variable_of k ≢ v
  unfolding u
  others v n h k i = ⊎_elim (h k) (λ a. ⊎_elim (λ e. λ z. n (ap variable_of (sym e) ∙ z)) (λ z. absurd z) a) (∈-append_cases k d (l ∷ []) i)

  before : (v : ℕ) → ((k : Literal) → k ∈ (d ++ l ∷ []) → variable_of k ≢ v) → (k : Literal) → k ∈ d → variable_of k ≢ v
  before v h k i = h k (∈-append_left k d (l ∷ []) i)

  last : (v : ℕ) → ((k : Literal) → k ∈ (d ++ l ∷ []) → variable_of k ≢ v) → u ≡ v → ⊥
  unfolding u
  last v h = h l (∈-append_right l d (l ∷ []) (inl refl))

  by-same : (new : Naming) (i : ℕ) → m.names u ≡ Some i → new ≡ m → AreCounted start (d ++ l ∷ []) new count
  by-same new i e q = subst (λ n. AreCounted start (d ++ l ∷ []) n count) (sym q) (record {
    watermark = c.watermark;
    made = c.made;
    most = let a = c.most in omega (arith, a, snoc);
    above = c.above;
    free = λ v b f. let (g, h) = c.free v b f in (g, others v (λ z. let y : Some i ≡ None = sym e ∙ ap m.names z ∙ f in cc) h);
    still = λ v b f h. c.still v b f (before v h);
  })

  by-onward : (new : Naming) → m.watermark ≤ u → new ≡ bring_next (u + 1 - m.watermark) m → AreCounted start (d ++ l ∷ []) new count
  by-onward new b q =
      let k = u + 1 - m.watermark in
      let w = next-watermark k m in
      let s = c.watermark in
      let x = c.made in
      let y = next-made k m in
      subst (λ n. AreCounted start (d ++ l ∷ []) n count) (sym q) (record {
        watermark = omega (arith, w, s);
        made = omega (arith, w, s, x, y);
        most = let a = c.most in omega (arith, a, snoc);
        above = λ v a e. ⊎_elim (λ h z. c.above v a h (sym (next-below k m v h) ∙ z)) (λ h. next-used k m v h (omega (arith, e, w))) (cases_lt v m.watermark);
        free = λ v a f. let (g, h) = c.free v a (sym (next-below k m v (omega (arith, a, s))) ∙ f) in (g, others v (λ z. omega (arith, z, a, b, s)) h);
        still = λ v a f h. next-below k m v (omega (arith, a, s)) ∙ c.still v a f (before v h);
      })

  by-alone : (new : Naming) → u < start.watermark → new ≡ bring u m → AreCounted start (d ++ l ∷ []) new (count + 1)
  by-alone new b q =
      let s = c.watermark in
      let x = c.made in
      subst (λ n. AreCounted start (d ++ l ∷ []) n (count + 1)) (sym q) (record {
        watermark = omega (arith, s);
        made = omega (arith, b, s, x);
        most = let a = c.most in omega (arith, a, snoc);
        above = λ v a e z. c.above v a (omega (arith, a, b, e)) (sym (updated-other m.names u (Some m.made) v (λ y. absurd (omega (arith, y, a, b)))) ∙ z);
        free = λ v a f.
            let n : v ≡ u → ⊥ = λ y. let z : Some m.made ≡ None = sym (updated-at m.names u (Some m.made))
            ∙ ap (updated m.names u (Some m.made)) (sym y) ∙ f in cc in
            let (g, h) = c.free v a (sym (updated-other m.names u (Some m.made) v n) ∙ f) in (g, others v (λ y. n (sym y)) h);
        still = λ v a f h. updated-other m.names u (Some m.made) v (λ y. last v h (sym y)) ∙ c.still v a f (before v h);
      })

  as-before : (new : Naming) → (u < start.watermark → m.names u ≢ None) → IsNamedTo u m new → AreCounted start (d ++ l ∷ []) new count
  as-before new h (Same i b e q) = by-same new i e q
  as-before new h (Alone b e q) = absurd (⊎_elim (λ a. h a e) (λ a. c.above u a b e) (cases_lt u start.watermark))
  as-before new h (Onward b q) = by-onward new b q

  one-more : (new : Naming) → u < start.watermark → m.names u ≡ None → IsNamedTo u m new → AreCounted start (d ++ l ∷ []) new (count + 1)
  one-more new h f (Same i b e q) = absurd (let z : Some i ≡ None = sym e ∙ f in cc)
  one-more new h f (Alone b e q) = by-alone new h q
  one-more new h f (Onward b q) = absurd (let s = c.watermark in omega (arith, b, h, s))

  -- a name that was in use, or is not below the first watermark
  pub counted-same : (variable_of l < start.watermark → start.names (variable_of l) ≡ None →
      ((k : Literal) → k ∈ d → variable_of k ≢ variable_of l) → ⊥) → AreCounted start (d ++ l ∷ []) (name_one (variable_of l) m) count
  unfolding u
  counted-same n = as-before (name_one u m) (λ h e. let (a, b) = c.free u h e in n h a b) (named-to u m)

  -- a free name below the first watermark, which no literal before has
  pub counted-more : variable_of l < start.watermark → start.names (variable_of l) ≡ None →
      ((k : Literal) → k ∈ d → variable_of k ≢ variable_of l) → AreCounted start (d ++ l ∷ []) (name_one (variable_of l) m) (count + 1)
  unfolding u
  counted-more h e n = one-more (name_one u m) h (c.still u h e n) (named-to u m)

-- 5. The first witness among them.

pub witness-more : (m : Naming) (d : List Literal) (l : Literal) (before after : Option ℕ) →
    MatchOption before (NameNoWitness m d) (IsFirstWitness m d) → IsNextWitness m before (variable_of l) after →
    MatchOption after (NameNoWitness m (d ++ l ∷ [])) (IsFirstWitness m (d ++ l ∷ []))
witness-more m d l None None n t = λ k i a.
    ⊎_elim (λ j. n k j a) (λ j. ⊎_elim (λ e. t (subst (λ x. IsWitness m (variable_of x)) e a)) (λ z. absurd z) j) (∈-append_cases k d (l ∷ []) i)
witness-more m d l None (Some w) n (e, a) = (d, l, [], refl, n, sym e, subst (IsWitness m) (sym e) a)
witness-more m d l (Some w) after (front, k, rest, e, n, q, a) t =
    subst (λ o. MatchOption o (NameNoWitness m (d ++ l ∷ [])) (IsFirstWitness m (d ++ l ∷ []))) (sym t)
    (front, k, rest ++ l ∷ [], ap (λ ls. ls ++ l ∷ []) e ∙ append_assoc front (k ∷ rest) (l ∷ []), n, q, a)
