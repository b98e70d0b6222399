-- Which variables a conflict bumps.
use Rattle.std.proofs.Common.{◌≡◌, ℕ, zero, suc, ◌+◌, ◌<◌, ◌≤◌, Bool, true, false, List, [], ◌∷◌, ◌++◌, replicate, take, take_all, length, get_or, set, inl, inr, ⊎_elim, refl, sym, ap, ◌∙◌, subst, arith, append_assoc, get_or-set_same, get_or-set_other}
use Rattle.std.proofs.lemmas.Bool.{cases_lt, cases_Bool}
use Rattle.std.proofs.lemmas.List.{take-append-le, get_or_past}
use Rattle.varisat_theory.specs.promises.Membership.{◌∈◌}
use Rattle.varisat_theory.specs.promises.Literals.{Literal, variable_of}
use Rattle.varisat_theory.proofs.clauses.Members.{equal_or_not, ∈-append_left, ∈-append_right, ∈-append_cases}
use Rattle.varisat_prop.proofs.views.ReadElements.{element, item-∈}
use Rattle.varisat_prop.specs.declared.prop.graph.ImplNode.{ImplNode}
use Rattle.varisat_prop.specs.declared.prop.graph.Conflict.{Conflict}
use Rattle.varisat_clause.specs.Stored.{StoredClause}
use Rattle.varisat_prop.specs.View.{no_node}
use Rattle.varisat_prop.specs.Changes.{named_in}
use Rattle.varisat_vsids.specs.Activities.{Activities, bumped}
use Rattle.varisat_analysis.specs.Bumps.{bumped_each, literals_among, level_in}

pub take-snoc : (k : ℕ) (xs : List ℕ) → k < length xs → take (k + 1) xs ≡ take k xs ++ get_or xs k 0 ∷ []
take-snoc k xs h = let e : k + 1 ≡ suc k = omega arith in ap (λ n. take n xs) e ∙ go k xs h
  where
    go : (k : ℕ) (xs : List ℕ) → k < length xs → take (suc k) xs ≡ take k xs ++ get_or xs k 0 ∷ []
    go k [] h = absurd (omega (arith, h))
    go zero (x ∷ xs) h = none xs
      where
        none : (xs : List ℕ) → x ∷ take zero xs ≡ x ∷ []
        none [] = refl
        none (y ∷ xs) = refl
    go (suc k) (x ∷ xs) h = ap (λ ys. x ∷ ys) (go k xs (omega (arith, h)))

-- one more element that was read
pub item-snoc : (k : ℕ) (xs : List ℕ) (x : ℕ) → k < length xs → x ≡ get_or xs k x → take (k + 1) xs ≡ take k xs ++ x ∷ []
item-snoc k xs x h e = take-snoc k xs h ∙ ap (λ y. take k xs ++ y ∷ []) (sym (element xs k x h e))

-- its number is below what the numbers of all elements are below
pub item-below : (number : ℕ → ℕ) (xs : List ℕ) (k x n b d : ℕ) → ((y : ℕ) → y ∈ xs → number y < b) → d ≡ b → k < length xs → x ≡ get_or xs k x →
    n ≡ number x → n < d
item-below number xs k x n b d below q h e f = let i = below x (item-∈ xs k x h e) in omega (arith, i, q, f)

pub among-append : (ks : List StoredClause) (ps qs : List Conflict) → literals_among ks (ps ++ qs) ≡ literals_among ks ps ++ literals_among ks qs
among-append ks [] qs = refl
among-append ks (p ∷ ps) qs = ap (λ ls. named_in ks p ++ ls) (among-append ks ps qs)
    ∙ sym (append_assoc (named_in ks p) (literals_among ks ps) (literals_among ks qs))

pub name-snoc : (k : ℕ) (xs : List Conflict) (v : Conflict) → k < length xs → v ≡ get_or xs k v → take (k + 1) xs ≡ take k xs ++ v ∷ []
name-snoc k xs v h g = let e : k + 1 ≡ suc k = omega arith in ap (λ n. take n xs) e ∙ go k xs h g
  where
    go : (k : ℕ) (xs : List Conflict) → k < length xs → v ≡ get_or xs k v → take (suc k) xs ≡ take k xs ++ v ∷ []
    go k [] h g = absurd (omega (arith, h))
    go zero (x ∷ xs) h g = none xs ∙ ap (λ y. y ∷ []) (sym g)
      where
        none : (xs : List Conflict) → x ∷ take zero xs ≡ x ∷ []
        none [] = refl
        none (y ∷ xs) = refl
    go (suc k) (x ∷ xs) h g = ap (λ ys. x ∷ ys) (go k xs (omega (arith, h)) g)

pub in-among : (ks : List StoredClause) (ps : List Conflict) (p : Conflict) (l : Literal) → p ∈ ps → l ∈ named_in ks p → l ∈ literals_among ks ps
in-among ks [] p l h i = absurd h
in-among ks (q ∷ ps) p l (inl e) i = ∈-append_left l (named_in ks q) (literals_among ks ps) (subst (λ x. l ∈ named_in ks x) e i)
in-among ks (q ∷ ps) p l (inr h) i = ∈-append_right l (named_in ks q) (literals_among ks ps) (in-among ks ps p l h i)

each-append : (xs ys : List ℕ) (a : Activities) → bumped_each (xs ++ ys) a ≡ bumped_each ys (bumped_each xs a)
each-append [] ys a = refl
each-append (x ∷ xs) ys a = each-append xs ys (bumped x a)

-- one more variable that was read is bumped
pub bumped-next : (vars : List ℕ) (k v : ℕ) (a b c : Activities) → k < length vars → v ≡ get_or vars k v → b ≡ bumped_each (take k vars) a →
    c ≡ bumped v b → c ≡ bumped_each (take (k + 1) vars) a
bumped-next vars k v a b c h e f g =
    g ∙ ap (bumped v) f ∙ sym (each-append (take k vars) (v ∷ []) a) ∙ ap (λ xs. bumped_each xs a) (sym (item-snoc k vars v h e))

-- a literal above level 0 is of a variable that has a node
pub above-inside : (nodes : List ImplNode) (l : Literal) → 0 < level_in nodes l → variable_of l < length nodes
above-inside nodes l h =
    ⊎_elim
    (λ (i : variable_of l < length nodes). i)
    (λ (i : length nodes ≤ variable_of l).
    let e : level_in nodes l ≡ 0 = ap (λ (n : ImplNode). n.level) (get_or_past nodes (variable_of l) no_node i) in absurd (omega (arith, e, h)))
    (cases_lt (variable_of l) (length nodes))

-- bumps make no variable available, and none unavailable
pub each-available : (xs : List ℕ) (a : Activities) → (bumped_each xs a).available ≡ a.available
each-available [] a = refl
each-available (x ∷ xs) a = each-available xs (bumped x a)

-- and the decay stays
pub each-decay : (xs : List ℕ) (a : Activities) → (bumped_each xs a).decay ≡ a.decay
each-decay [] a = refl
each-decay (x ∷ xs) a = each-decay xs (bumped x a)

pub all-false : (xs : List Bool) (n : ℕ) → length xs ≡ n → ((v : ℕ) → get_or xs v false ≡ false) → xs ≡ replicate n false
all-false [] zero e h = refl
all-false [] (suc n) e h = absurd (omega (arith, e))
all-false (x ∷ xs) zero e h = absurd (omega (arith, e))
all-false (x ∷ xs) (suc n) e h = let f : x ≡ false = h zero in ap (λ ys. x ∷ ys) (all-false xs n (omega (arith, e)) (λ v. h (suc v)))
    ∙ ap (λ b. b ∷ replicate n false) f

-- flags that were lent and are given back, none of them set
pub clear-given-back : (flags rest : List Bool) (n m : ℕ) → n ≡ length flags → n ≡ m → ((v : ℕ) → get_or flags v false ≡ false) →
    take n (flags ++ rest) ≡ replicate m false
clear-given-back flags rest n m e f h = take-append-le n flags rest (omega (arith, e)) ∙ take_all n flags (omega (arith, e))
    ∙ all-false flags m (omega (arith, e, f)) h

pub false-all : (n v : ℕ) → get_or (replicate n false) v false ≡ false
false-all zero v = refl
false-all (suc n) zero = refl
false-all (suc n) (suc v) = false-all n v

-- Of the literals' numbers no flag is left, and none was set.
pub record Clears (number : Literal → ℕ) (ls : List Literal) (f g : List Bool) : Type 0 where
  pub gone : (l : Literal) → l ∈ ls → get_or g (number l) false ≡ false
  pub fewer : (v : ℕ) → get_or g v false ≡ true → get_or f v false ≡ true

pub clears-none : (number : Literal → ℕ) (f : List Bool) → Clears number [] f f
clears-none number f = record { gone = λ l i. absurd i; fewer = λ v e. e }

pub clears-one : (number : Literal → ℕ) (l : Literal) (f : List Bool) → number l < length f → Clears number (l ∷ []) f (set f (number l) false)
clears-one number l f k = record {
  gone = λ m i. ⊎_elim (λ e. ap (λ u. get_or (set f (number l) false) u false) (ap number e) ∙ get_or-set_same f (number l) false false k) (λ z. absurd z) i;
  fewer = λ v e. ⊎_elim
      (λ i. let z : true ≡ false = sym e ∙ ap (λ u. get_or (set f (number l) false) u false) i ∙ get_or-set_same f (number l) false false k in absurd cc)
      (λ n. sym (get_or-set_other f (number l) v false false n) ∙ e)
      (equal_or_not v (number l));
}

pub clears-join : (number : Literal → ℕ) (ls ms : List Literal) (f g h : List Bool) → Clears number ls f g → Clears number ms g h → Clears number (ls ++ ms) f h
clears-join number ls ms f g h a b = record {
  gone = λ l i. ⊎_elim
      (λ j. ⊎_elim (λ e. let z : true ≡ false = sym (b.fewer (number l) e) ∙ a.gone l j in absurd cc) (λ e. e) (cases_Bool (get_or h (number l) false)))
      (b.gone l)
      (∈-append_cases l ls ms i);
  fewer = λ v e. a.fewer v (b.fewer v e);
}

-- one more literal that was read
pub clears-more : (number : Literal → ℕ) (lits : List Literal) (f g : List Bool) (k l n : ℕ) → ((m : Literal) → m ∈ lits → number m < length f) →
    length g ≡ length f → k < length lits → l ≡ get_or lits k l → n ≡ number l → Clears number (take k lits) f g →
    Clears number (take (k + 1) lits) f (set g n false)
clears-more number lits f g k l n room q h e i c =
    subst (λ v. Clears number (take (k + 1) lits) f (set g v false)) (sym i)
    (subst (λ ls. Clears number ls f (set g (number l) false)) (sym (item-snoc k lits l h e))
    (clears-join number (take k lits) (l ∷ []) f g (set g (number l) false) c
    (clears-one number l g (item-below number lits k l (number l) (length f) (length g) room q h e refl))))
