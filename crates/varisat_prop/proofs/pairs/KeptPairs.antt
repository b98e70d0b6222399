-- The kept clauses of two literals, each once.
use Rattle.std.proofs.Common.{◌≡◌, ◌≢◌, ℕ, zero, suc, ◌+◌, ◌<◌, ◌≤◌, Bool, true, false, nat_lt, List, [], ◌∷◌, ◌++◌, length, get_or, inl, inr, ⊎_elim, refl, sym, ap, ◌∙◌, subst, arith}
use Rattle.std.specs.Prelude.{cond, replicate}
use Rattle.std.proofs.lemmas.Bool.{cases_lt, lt-ltb}
use Rattle.varisat_theory.specs.promises.Membership.{◌∈◌, SameSet}
use Rattle.varisat_theory.specs.promises.Literals.{Literal, Clause, opposite, variable_of}
use Rattle.varisat_theory.proofs.clauses.Members.{∈-append_left, ∈-append_right, ∈-append_cases}
use Rattle.varisat_theory.proofs.clauses.Values.{opposite_twice, variable-opposite}
use Rattle.varisat_clause.specs.Stored.{literals_of}
use Rattle.varisat_prop.specs.View.{View, pairs_with, pairs_from, kept, implied_by, WellFormed}

pub is-not-less : (a b : ℕ) → (a < b → ⊥) → nat_lt a b ≡ false
is-not-less a b h = grind arith

-- a clause of the list has x first
pub pair-with : (x : Literal) (ms : List Literal) (c : Clause) → c ∈ pairs_with x ms → (m : Literal) × (m ∈ ms) × (c ≡ x ∷ m ∷ [])
pair-with x [] c h = absurd h
pair-with x (m ∷ ms) c h = go (nat_lt x m) h (pair-with x ms c)
  where
    go : (b : Bool) → c ∈ cond b ((x ∷ m ∷ []) ∷ pairs_with x ms) (pairs_with x ms) →
        (c ∈ pairs_with x ms → (n : Literal) × (n ∈ ms) × (c ≡ x ∷ n ∷ [])) → (n : Literal) × (n ∈ (m ∷ ms)) × (c ≡ x ∷ n ∷ [])
    go true (inl e) f = (m, inl refl, e)
    go true (inr i) f = let (n, j, e) = f i in (n, inr j, e)
    go false i f = let (n, j, e) = f i in (n, inr j, e)

-- and each that comes behind it is there
pub pair-there : (x : Literal) (ms : List Literal) (m : Literal) → x < m → m ∈ ms → (x ∷ m ∷ []) ∈ pairs_with x ms
pair-there x [] m l h = absurd h
pair-there x (n ∷ ms) m l (inl e) = subst (λ b. (x ∷ m ∷ []) ∈ cond b ((x ∷ n ∷ []) ∷ pairs_with x ms) (pairs_with x ms))
    (sym (lt-ltb x n (subst (λ y. x < y) e l))) (inl (ap (λ y. x ∷ y ∷ []) e))
pair-there x (n ∷ ms) m l (inr h) = go (nat_lt x n) (pair-there x ms m l h)
  where
    go : (b : Bool) → (x ∷ m ∷ []) ∈ pairs_with x ms → (x ∷ m ∷ []) ∈ cond b ((x ∷ n ∷ []) ∷ pairs_with x ms) (pairs_with x ms)
    go true i = inr i
    go false i = i

pub pair-from : (B : List (List Literal)) (k : ℕ) (c : Clause) → c ∈ pairs_from k B → (l m : Literal) × (m ∈ get_or B l []) × (c ≡ opposite (k + l) ∷ m ∷ [])
pair-from [] k c h = absurd h
pair-from (ms ∷ B) k c h = ⊎_elim
    (λ a. let (m, i, e) = pair-with (opposite k) ms c a in (0, m, i, e ∙ ap (λ x. opposite x ∷ m ∷ []) (omega arith)))
    (λ a. let (l, m, i, e) = pair-from B (suc k) c a in (suc l, m, i, e ∙ ap (λ x. opposite x ∷ m ∷ []) (omega arith)))
    (∈-append_cases c (pairs_with (opposite k) ms) (pairs_from (suc k) B) h)

-- a clause of two literals, by a literal that implies the other
pub pair-in : (B : List (List Literal)) (k : ℕ) (c : Clause) → c ∈ pairs_from 0 B → (l m : Literal) × (m ∈ get_or B l []) × (c ≡ opposite l ∷ m ∷ [])
pair-in B k c h = let (l, m, i, e) = pair-from B 0 c h in (l, m, i, e ∙ ap (λ x. opposite x ∷ m ∷ []) (omega arith))

pub pair-listed : (B : List (List Literal)) (k l m : ℕ) → m ∈ get_or B l [] → opposite (k + l) < m → (opposite (k + l) ∷ m ∷ []) ∈ pairs_from k B
pair-listed [] k l m h b = absurd h
pair-listed (ms ∷ B) k zero m h b =
    let e : k + 0 ≡ k = omega arith in
    subst (λ x. (opposite x ∷ m ∷ []) ∈ (pairs_with (opposite k) ms ++ pairs_from (suc k) B)) (sym e)
    (∈-append_left (opposite k ∷ m ∷ []) (pairs_with (opposite k) ms) (pairs_from (suc k) B) (pair-there (opposite k) ms m (subst (λ x. opposite x < m) e b) h))
pair-listed (ms ∷ B) k (suc l) m h b =
    let e : k + suc l ≡ suc k + l = omega arith in
    subst (λ x. (opposite x ∷ m ∷ []) ∈ (pairs_with (opposite k) ms ++ pairs_from (suc k) B)) (sym e)
    (∈-append_right (opposite (suc k + l) ∷ m ∷ []) (pairs_with (opposite k) ms) (pairs_from (suc k) B)
    (pair-listed B (suc k) l m h (subst (λ x. opposite x < m) e b)))

pub turned : (a b : Literal) → SameSet (a ∷ b ∷ []) (b ∷ a ∷ [])
turned a b = (turn a b, turn b a)
  where
    turn : (a b x : Literal) → x ∈ (a ∷ b ∷ []) → x ∈ (b ∷ a ∷ [])
    turn a b x (inl e) = inr (inl e)
    turn a b x (inr (inl e)) = inl e
    turn a b x (inr (inr z)) = absurd z

-- what a literal implies is kept as a clause, in one of the orders
pub implied-kept : (s : View) → WellFormed s → (l m : Literal) → m ∈ implied_by s l → (d : Clause) × (d ∈ kept s) × SameSet d (m ∷ opposite l ∷ [])
implied-kept s w l m i =
    ⊎_elim
    (λ b. (opposite l ∷ m ∷ [], there l m i b, turned (opposite l) m))
    (λ b.
    let j = w.binary_back l m i in
    let n : m < opposite l = lower m (opposite l) (w.binary_other l m i) b in (
      m ∷ opposite l ∷ [],
      subst (λ x. (x ∷ opposite l ∷ []) ∈ kept s) (opposite_twice m)
          (there (opposite m) (opposite l) j (subst (λ x. x < opposite l) (sym (opposite_twice m)) n)),
      ((λ x h. h), (λ x h. h)),
    ))
    (cases_lt (opposite l) m)
  where
    there : (l m : Literal) → m ∈ implied_by s l → opposite l < m → (opposite l ∷ m ∷ []) ∈ kept s
    there l m i b =
        let e : 0 + l ≡ l = omega arith in
        ∈-append_right (opposite l ∷ m ∷ []) (literals_of s.clauses) (pairs_from 0 s.binary)
        (subst (λ x. (opposite x ∷ m ∷ []) ∈ pairs_from 0 s.binary) e (pair-listed s.binary 0 l m i (subst (λ x. opposite x < m) (sym e) b)))

    lower : (a b : ℕ) → a ≢ b → a ≤ b → a < b
    lower a b n h = grind (arith, n, h)

pub implied-range : (s : View) → WellFormed s → (l m : Literal) → m ∈ implied_by s l → variable_of m < length s.values
implied-range s w l m i = let (d, j, e) = implied-kept s w l m i in w.in_range d j m (e.1 m (inl refl))

-- where a literal implies another its variable is known too
pub implying-range : (s : View) → WellFormed s → (l m : Literal) → m ∈ implied_by s l → variable_of l < length s.values
implying-range s w l m i = let (d, j, e) = implied-kept s w l m i in let a = w.in_range d j (opposite l) (e.1 (opposite l) (inr (inl refl))) in
    let v = variable-opposite l in omega (arith, a, v)

-- further literals, which imply nothing
no-pairs : (k n : ℕ) → pairs_from k (replicate n []) ≡ []
no-pairs k zero = refl
no-pairs k (suc n) = no-pairs (suc k) n

pub pairs-raised : (B : List (List Literal)) (k n : ℕ) → pairs_from k (B ++ replicate n []) ≡ pairs_from k B
pairs-raised [] k n = no-pairs k n
pairs-raised (ms ∷ B) k n = ap (λ cs. pairs_with (opposite k) ms ++ cs) (pairs-raised B (suc k) n)
