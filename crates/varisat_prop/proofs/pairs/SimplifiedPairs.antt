-- The clauses of two literals that are left where those with a value are taken out.
use Rattle.std.proofs.Common.{◌≡◌, ◌≢◌, ℕ, zero, suc, ◌+◌, ◌<◌, Bool, true, false, ◌&&◌, nat_lt, Option, Some, None, List, [], ◌∷◌, length, get_or, inl, inr, ⊎_elim, refl, sym, ap, ◌∙◌, subst, arith}
use Rattle.std.specs.Prelude.{cond, is_none}
use Rattle.std.specs.List.{filter}
use Rattle.std.proofs.lemmas.List.{same_lists, get_or_default}
use Rattle.std.proofs.lemmas.List.Elements.{filter-append}
use Rattle.varisat_theory.specs.promises.Membership.{◌∈◌}
use Rattle.varisat_theory.specs.promises.Literals.{Literal, Clause, opposite, variable_of}
use Rattle.varisat_prop.specs.View.{View, pairs_with, pairs_from, WellFormed}
use Rattle.varisat_prop.specs.Pairs.{with_pair}
use Rattle.varisat_prop.specs.Simplified.{is_unassigned, are_unassigned, unassigned_implied, unassigned_from, without_assigned}
use Rattle.varisat_prop.proofs.pairs.KeptPairs.{implied-range}
use Rattle.varisat_prop.proofs.pairs.PairAdded.{adds-pair, back-more, other-more}
use Rattle.varisat_theory.proofs.clauses.Values.{variable-opposite}

-- 1. Which elements a filter leaves.
pub filter-∈ : {X : Type 0} (p : X → Bool) (xs : List X) (x : X) → x ∈ xs → p x ≡ true → x ∈ filter p xs
filter-∈ p [] x h e = absurd h
filter-∈ p (y ∷ ys) x (inl i) e = go (p y) (ap p (sym i) ∙ e)
  where
    go : (b : Bool) → b ≡ true → x ∈ cond b (y ∷ filter p ys) (filter p ys)
    go true e = inl i
    go false e = absurd cc
filter-∈ p (y ∷ ys) x (inr h) e = go (p y) (filter-∈ p ys x h e)
  where
    go : (b : Bool) → x ∈ filter p ys → x ∈ cond b (y ∷ filter p ys) (filter p ys)
    go true i = inr i
    go false i = i

pub ∈-filter : {X : Type 0} (p : X → Bool) (xs : List X) (x : X) → x ∈ filter p xs → (x ∈ xs) × (p x ≡ true)
∈-filter p [] x h = absurd h
∈-filter p (y ∷ ys) x h = go (p y) refl h (∈-filter p ys x)
  where
    go : (b : Bool) → p y ≡ b → x ∈ cond b (y ∷ filter p ys) (filter p ys) → (x ∈ filter p ys → (x ∈ ys) × (p x ≡ true)) → (x ∈ (y ∷ ys)) × (p x ≡ true)
    go true e (inl i) f = (inl i, ap p i ∙ e)
    go true e (inr i) f = let (j, k) = f i in (inr j, k)
    go false e i f = let (j, k) = f i in (inr j, k)

-- 2. Values.
pub unassigned-none : (values : List (Option Bool)) (l : Literal) → is_unassigned values l ≡ true → get_or values (variable_of l) None ≡ None
unassigned-none values l e = go (get_or values (variable_of l) None) e
  where
    go : (o : Option Bool) → is_none o ≡ true → o ≡ None
    go None e = refl
    go (Some b) e = absurd cc

pub none-unassigned : (values : List (Option Bool)) (l : Literal) → get_or values (variable_of l) None ≡ None → is_unassigned values l ≡ true
none-unassigned values l e = ap is_none e

pub unassigned-opposite : (values : List (Option Bool)) (l : Literal) → is_unassigned values (opposite l) ≡ is_unassigned values l
unassigned-opposite values l = ap (λ v. is_none (get_or values v None)) (variable-opposite l)

-- each literal of such a clause has no value
pub all-unassigned : (values : List (Option Bool)) (c : Clause) → are_unassigned values c ≡ true → (l : Literal) → l ∈ c → is_unassigned values l ≡ true
all-unassigned values [] e l h = absurd h
all-unassigned values (m ∷ c) e l h = go (is_unassigned values m) refl e h (λ f i. all-unassigned values c f l i)
  where
    go : (b : Bool) → is_unassigned values m ≡ b → (b && are_unassigned values c) ≡ true → l ∈ (m ∷ c) →
        (are_unassigned values c ≡ true → l ∈ c → is_unassigned values l ≡ true) → is_unassigned values l ≡ true
    go true f e (inl i) rest = ap (is_unassigned values) i ∙ f
    go true f e (inr i) rest = rest e i
    go false f e i rest = absurd cc

pub each-unassigned : (values : List (Option Bool)) (c : Clause) → ((l : Literal) → l ∈ c → is_unassigned values l ≡ true) → are_unassigned values c ≡ true
each-unassigned values [] h = refl
each-unassigned values (m ∷ c) h = let e = h m (inl refl) in let f = each-unassigned values c (λ l i. h l (inr i)) in rw (e, f) refl

pub one-assigned : (values : List (Option Bool)) (c : Clause) (l : Literal) → l ∈ c → is_unassigned values l ≡ false → are_unassigned values c ≡ false
one-assigned values c l i e = go (are_unassigned values c) refl
  where
    go : (b : Bool) → are_unassigned values c ≡ b → b ≡ false
    go true h = (let k : true ≡ false = sym (all-unassigned values c h l i) ∙ e in k)
    go false h = refl

-- a list of such literals stays as it is
pub filtered-same : (values : List (Option Bool)) (ms : List Literal) → are_unassigned values ms ≡ true → filter (is_unassigned values) ms ≡ ms
filtered-same values [] e = refl
filtered-same values (m ∷ ms) e = go (is_unassigned values m) e (filtered-same values ms)
  where
    go : (b : Bool) → (b && are_unassigned values ms) ≡ true →
        (are_unassigned values ms ≡ true → filter (is_unassigned values) ms ≡ ms) →
        cond b (m ∷ filter (is_unassigned values) ms) (filter (is_unassigned values) ms) ≡ m ∷ ms
    go true e f = ap (λ xs. m ∷ xs) (f e)
    go false e f = absurd cc

-- 3. What a literal implies then.
pub unassigned-at : (values : List (Option Bool)) (k : ℕ) (B : List (List Literal)) (l : ℕ) →
    get_or (unassigned_from values k B) l [] ≡ unassigned_implied values (k + l) (get_or B l [])
unassigned-at values k [] l = go (is_unassigned values (k + l))
  where
    no_literals : List Literal
    no_literals = []

    go : (b : Bool) → no_literals ≡ cond b no_literals no_literals
    go true = refl
    go false = refl
unassigned-at values k (ms ∷ B) zero = ap (λ x. unassigned_implied values x ms) (let e : k ≡ k + 0 = omega arith in e)
unassigned-at values k (ms ∷ B) (suc l) = unassigned-at values (suc k) B l
    ∙ ap (λ x. unassigned_implied values x (get_or B l [])) (let e : suc k + l ≡ k + suc l = omega arith in e)

pub unassigned-length : (values : List (Option Bool)) (k : ℕ) (B : List (List Literal)) → length (unassigned_from values k B) ≡ length B
unassigned-length values k [] = refl
unassigned-length values k (ms ∷ B) = ap suc (unassigned-length values (suc k) B)

pub left-implied : (values : List (Option Bool)) (B : List (List Literal)) (l : ℕ) →
    get_or (without_assigned values B) l [] ≡ unassigned_implied values l (get_or B l [])
left-implied values B l = unassigned-at values 0 B l ∙ ap (λ x. unassigned_implied values x (get_or B l [])) (let e : 0 + l ≡ l = omega arith in e)

-- one list, as it is filtered
pub list-left : (values : List (Option Bool)) (l : Literal) (ms xs ys : List Literal) → is_unassigned values l ≡ true → xs ≡ ms →
    ys ≡ filter (is_unassigned values) xs → ys ≡ unassigned_implied values l ms
list-left values l ms xs ys e f i = rw e (i ∙ ap (filter (is_unassigned values)) f)

-- what is implied still was implied, and neither literal has a value
pub implied-left : (values : List (Option Bool)) (B : List (List Literal)) (l m : Literal) → m ∈ get_or (without_assigned values B) l [] →
    (m ∈ get_or B l []) × (is_unassigned values l ≡ true) × (is_unassigned values m ≡ true)
implied-left values B l m h = go (is_unassigned values l) refl (subst (λ xs. m ∈ xs) (left-implied values B l) h)
  where
    go : (b : Bool) → is_unassigned values l ≡ b → m ∈ cond b (filter (is_unassigned values) (get_or B l [])) [] → (m ∈ get_or B l [])
        × (is_unassigned values l ≡ true) × (is_unassigned values m ≡ true)
    go true e i = let (j, f) = ∈-filter (is_unassigned values) (get_or B l []) m i in (j, e, f)
    go false e i = absurd i

pub implied-stays : (values : List (Option Bool)) (B : List (List Literal)) (l m : Literal) → m ∈ get_or B l [] → is_unassigned values l ≡ true →
    is_unassigned values m ≡ true → m ∈ get_or (without_assigned values B) l []
implied-stays values B l m h e f = subst (λ xs. m ∈ xs) (sym (left-implied values B l)) (go (is_unassigned values l) e)
  where
    go : (b : Bool) → b ≡ true → m ∈ cond b (filter (is_unassigned values) (get_or B l [])) []
    go true e = filter-∈ (is_unassigned values) (get_or B l []) m h f
    go false e = absurd cc

-- lists that are so at each place
pub lists-left : (values : List (Option Bool)) (B C : List (List Literal)) → length C ≡ length B →
    ((k : ℕ) → k < length B → get_or C k [] ≡ unassigned_implied values k (get_or B k [])) → C ≡ without_assigned values B
lists-left values B C n h =
    let m = unassigned-length values 0 B in
    same_lists C (without_assigned values B) (n ∙ sym m) (λ k d l. let i : k < length B = omega (arith, l, n) in
    get_or_default C k d [] l ∙ h k i ∙ sym (left-implied values B k) ∙ get_or_default (without_assigned values B) k [] d (omega (arith, i, m)))

-- 4. The clauses that are left: those without a value, in their order.
pairs-left-with : (values : List (Option Bool)) (x : Literal) (ms : List Literal) → is_unassigned values x ≡ true →
    pairs_with x (filter (is_unassigned values) ms) ≡ filter (are_unassigned values) (pairs_with x ms)
pairs-left-with values x [] e = refl
pairs-left-with values x (m ∷ ms) e = go (is_unassigned values m) (nat_lt x m) refl refl (pairs-left-with values x ms e)
  where
    go : (d b : Bool) → is_unassigned values m ≡ d → nat_lt x m ≡ b →
        pairs_with x (filter (is_unassigned values) ms) ≡ filter (are_unassigned values) (pairs_with x ms) →
        pairs_with x (cond d (m ∷ filter (is_unassigned values) ms) (filter (is_unassigned values) ms)) ≡ filter (are_unassigned values)
        (cond b ((x ∷ m ∷ []) ∷ pairs_with x ms) (pairs_with x ms))
    go true true f n i = rw (n, e, f) (ap (λ cs. (x ∷ m ∷ []) ∷ cs) i)
    go true false f n i = rw n i
    go false true f n i = rw (e, f) i
    go false false f n i = i

none-left-with : (values : List (Option Bool)) (x : Literal) (ms : List Literal) → is_unassigned values x ≡ false →
    filter (are_unassigned values) (pairs_with x ms) ≡ []
none-left-with values x [] e = refl
none-left-with values x (m ∷ ms) e = go (nat_lt x m) (none-left-with values x ms e)
  where
    go : (b : Bool) → filter (are_unassigned values) (pairs_with x ms) ≡ [] →
        filter (are_unassigned values) (cond b ((x ∷ m ∷ []) ∷ pairs_with x ms) (pairs_with x ms)) ≡ []
    go true i = rw e i
    go false i = i

left-with : (values : List (Option Bool)) (k : Literal) (ms : List Literal) →
    pairs_with (opposite k) (unassigned_implied values k ms) ≡ filter (are_unassigned values) (pairs_with (opposite k) ms)
left-with values k ms = go (is_unassigned values k) (unassigned-opposite values k)
  where
    go : (b : Bool) → is_unassigned values (opposite k) ≡ b → pairs_with (opposite k) (cond b (filter (is_unassigned values) ms) []) ≡ filter
        (are_unassigned values) (pairs_with (opposite k) ms)
    go true e = pairs-left-with values (opposite k) ms e
    go false e = sym (none-left-with values (opposite k) ms e)

left-from : (values : List (Option Bool)) (k : ℕ) (B : List (List Literal)) →
    pairs_from k (unassigned_from values k B) ≡ filter (are_unassigned values) (pairs_from k B)
left-from values k [] = refl
left-from values k (ms ∷ B) = rw (left-with values k ms, left-from values (suc k) B)
    (sym (filter-append (are_unassigned values) (pairs_with (opposite k) ms) (pairs_from (suc k) B)))

pub pairs-left : (values : List (Option Bool)) (B : List (List Literal)) →
    pairs_from 0 (without_assigned values B) ≡ filter (are_unassigned values) (pairs_from 0 B)
pairs-left values B = left-from values 0 B

-- 5. Lists of clauses of two literals that have no value.
pub record UnassignedPairs (values : List (Option Bool)) (C : List (List Literal)) : Type 0 where
  pub back : (l m : Literal) → m ∈ get_or C l [] → opposite l ∈ get_or C (opposite m) []
  pub other : (l m : Literal) → m ∈ get_or C l [] → m ≢ opposite l
  pub in_range : (l m : Literal) → m ∈ get_or C l [] → variable_of m < length values
  pub unassigned : (l m : Literal) → m ∈ get_or C l [] → is_unassigned values m ≡ true

pub pairs-unassigned : (s : View) → WellFormed s → UnassignedPairs s.values (without_assigned s.values s.binary)
pairs-unassigned s w = record {
  back = λ l m h. let (i, e, f) = implied-left s.values s.binary l m h in
      implied-stays s.values s.binary (opposite m) (opposite l) (w.binary_back l m i) (unassigned-opposite s.values m ∙ f) (unassigned-opposite s.values l ∙ e);
  other = λ l m h. w.binary_other l m (implied-left s.values s.binary l m h).0;
  in_range = λ l m h. implied-range s w l m (implied-left s.values s.binary l m h).0;
  unassigned = λ l m h. (implied-left s.values s.binary l m h).2;
}

-- one more such clause
pub pairs-joined : (values : List (Option Bool)) (C : List (List Literal)) (a b : Literal) → opposite a < length C → opposite b < length C → a ≢ b →
    UnassignedPairs values C → variable_of a < length values → variable_of b < length values → is_unassigned values a ≡ true →
    is_unassigned values b ≡ true → UnassignedPairs values (with_pair C a b)
pairs-joined values C a b first second n u i j e f =
    let g = adds-pair C a b first second in
    record {
      back = back-more C a b first second u.back;
      other = other-more C a b first second n u.other;
      in_range = λ l m h. ⊎_elim (u.in_range l m)
          (λ o. ⊎_elim (λ (p, q). subst (λ x. variable_of x < length values) (sym q) j)
          (λ (p, q). subst (λ x. variable_of x < length values) (sym q) i) o) (g.new l m h);
      unassigned = λ l m h. ⊎_elim (u.unassigned l m)
          (λ o. ⊎_elim (λ (p, q). ap (is_unassigned values) q ∙ f) (λ (p, q). ap (is_unassigned values) q ∙ e) o) (g.new l m h);
    }
