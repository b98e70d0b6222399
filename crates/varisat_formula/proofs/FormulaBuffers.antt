-- The buffers of a formula.
use Rattle.std.proofs.Common.{◌≡◌, ℕ, zero, suc, ◌+◌, ◌/◌, ◌<◌, ◌≤◌, ◌^◌, Bool, true, false, ◌==◌, ◌&&◌, List, [], ◌∷◌, ◌++◌, length, take, drop, get_or, max, map, IsTrue, ◌↔◌, refl, sym, ap, ◌∙◌, arith, rules, not, subst, add-one, drop-cons, length-append}
use Rattle.std.proofs.lemmas.List.{take-append-le, drop-append-le, take-append-drop, length-drop, nil_from_length}
use Rattle.std.proofs.lemmas.Bool.Decides.{same_from_decides, Decides-eqb}
use Rattle.std.proofs.lemmas.Slice.Eq.{slice_eq-Decides}
use Rattle.std.specs.Bool.{Decides}
use Rattle.std.specs.Cmp.Lexicographic.{pointwise}
use Rattle.varisat_formula.specs.promises.Formulas.{Formula, cut, UseUp, BuffersFit, AllBelow, AreBelow, variables_of, with_one_more, with_more}
use Rattle.varisat_formula.specs.inside.Equality.{same_formula}

pub length-cut : (ns ls : List ℕ) → length ns ≡ length (cut ns ls)
length-cut [] ls = refl
length-cut (n ∷ ns) ls = ap suc (length-cut ns (drop n ls))

is_zero : (m : ℕ) → (m == 0) ≡ true → m ≡ 0
is_zero m e = search (rules, e)

pub cut_empty : (ns ls : List ℕ) (t : Bool) → t ≡ (length ns == 0) → IsTrue t ↔ (cut ns ls ≡ [])
cut_empty [] ls t e = (λ h. refl, λ h. e)
cut_empty (n ∷ ns) ls t e = (λ h. let z = is_zero (length (n ∷ ns)) (sym e ∙ h) in absurd (omega arith), λ h. absurd cc)

pub below_more : (m n : ℕ) (ls : List ℕ) → m ≤ n → AllBelow m ls → AllBelow n ls
below_more m n [] h b = tt
below_more m n (l ∷ ls) h b = (let f = b.0 in omega arith, below_more m n ls h b.1)

pub below_take : (n k : ℕ) (ls : List ℕ) → AllBelow n ls → AllBelow n (take k ls)
below_take n zero ls b = tt
below_take n (suc k) [] b = tt
below_take n (suc k) (l ∷ ls) b = (b.0, below_take n k ls b.1)

pub below_drop : (n k : ℕ) (ls : List ℕ) → AllBelow n ls → AllBelow n (drop k ls)
below_drop n zero ls b = b
below_drop n (suc k) [] b = tt
below_drop n (suc k) (l ∷ ls) b = below_drop n k ls b.1

pub below_append : (n : ℕ) (ls ks : List ℕ) → AllBelow n ls → AllBelow n ks → AllBelow n (ls ++ ks)
below_append n [] ks b c = c
below_append n (l ∷ ls) ks b c = (b.0, below_append n ls ks b.1 c)

-- the clauses are below where the literals are
pub below_cut : (n : ℕ) (ns ls : List ℕ) → AllBelow n ls → AreBelow n (cut ns ls)
below_cut n [] ls b = tt
below_cut n (k ∷ ns) ls b = (below_take n k ls b, below_cut n ns (drop k ls) (below_drop n k ls b))

-- literals are below the count that they need
pub below_variables : (n : ℕ) (ls : List ℕ) → variables_of ls ≤ n → AllBelow n ls
below_variables n [] h = tt
below_variables n (l ∷ ls) h =
    let a : l / 2 < n = omega arith in
    let b : variables_of ls ≤ n = omega arith in
    (a, below_variables n ls b)

-- one literal more is looked at
pub variables_step : (ls : List ℕ) (i count next : ℕ) → i < length ls → max count (variables_of (drop i ls)) ≡ variables_of ls →
    next ≡ max count (get_or ls i 0 / 2 + 1) → max next (variables_of (drop (i + 1) ls)) ≡ variables_of ls
variables_step ls i count next h e f =
    let g = ap variables_of (drop-cons ls i 0 h) in
    let k = ap (λ x. variables_of (drop x ls)) (add-one i) in
    omega (arith, e, f, g, k)

pub variables_push : (ls : List ℕ) (l count next : ℕ) → variables_of ls ≤ count → next ≡ max count (l / 2 + 1) → variables_of (ls ++ l ∷ []) ≤ next
variables_push [] l count next h e = omega arith
variables_push (k ∷ ls) l count next h e =
    let a : variables_of ls ≤ count = omega arith in
    let b = variables_push ls l count next a e in
    omega arith

-- a clause more
pub use_up_append : (ns ls c : List ℕ) (n : ℕ) → UseUp ns ls → n ≡ length c → UseUp (ns ++ n ∷ []) (ls ++ c)
use_up_append [] ls c n u e = subst (λ x. UseUp (n ∷ []) (x ++ c)) (sym u) (omega arith, nil_from_length (drop n c) (omega (arith, length-drop n c)))
use_up_append (k ∷ ns) ls c n u e =
    let h : k ≤ length ls = u.0 in
    (omega (arith, length-append ls c), subst (λ x. UseUp (ns ++ n ∷ []) x) (sym (drop-append-le k ls c h)) (use_up_append ns (drop k ls) c n u.1 e))

take_all : (c : List ℕ) (n : ℕ) → n ≡ length c → take n c ≡ c
take_all [] n e = ap (λ k. take k []) e
take_all (x ∷ c) n e = ap (λ k. take k (x ∷ c)) e ∙ ap (λ y. x ∷ y) (take_all c (length c) refl)

pub cut-append : (ns ls c : List ℕ) (n : ℕ) → UseUp ns ls → n ≡ length c → cut (ns ++ n ∷ []) (ls ++ c) ≡ cut ns ls ++ c ∷ []
cut-append [] ls c n u e = ap (λ x. take n (x ++ c) ∷ []) u ∙ ap (λ x. x ∷ []) (take_all c n e)
cut-append (k ∷ ns) ls c n u e =
    let h : k ≤ length ls = u.0 in
    ap (λ x. x ∷ cut (ns ++ n ∷ []) (drop k (ls ++ c))) (take-append-le k ls c h)
    ∙ ap (λ x. take k ls ∷ cut (ns ++ n ∷ []) x) (drop-append-le k ls c h)
    ∙ ap (λ x. take k ls ∷ x) (cut-append ns (drop k ls) c n u.1 e)

pub fits_more : (count more : ℕ) (ns ls : List ℕ) → BuffersFit count ns ls → count ≤ more → more ≤ 2 ^ 31 → BuffersFit more ns ls
fits_more count more ns ls f h k = record { used = f.used; below = below_more count more ls h f.below; small = k }

pub fits_append : (count next n : ℕ) (ns ls c ms ks : List ℕ) → BuffersFit count ns ls → n ≡ length c → ms ≡ ns ++ n ∷ [] → ks ≡ ls ++ c →
    next ≡ max count (variables_of c) → variables_of c ≤ 2 ^ 31 → BuffersFit next ms ks
fits_append count next n ns ls c ms ks f e p q h k =
    let s = f.small in
    let a : count ≤ next = omega arith in
    let b : variables_of c ≤ next = omega arith in
    subst (λ x. BuffersFit next x ks) (sym p) (subst (λ x. BuffersFit next (ns ++ n ∷ []) x) (sym q) (record {
      used = use_up_append ns ls c n f.used e;
      below = below_append next ls c (below_more count next ls a f.below) (below_variables next c b);
      small = omega arith;
    }))

pub clause_added : (count next n : ℕ) (ns ls c ms ks : List ℕ) → BuffersFit count ns ls → n ≡ length c → ms ≡ ns ++ n ∷ [] → ks ≡ ls ++ c →
    next ≡ max count (variables_of c) →
    record { var_count = next; clauses = cut ms ks } ≡ with_one_more (record { var_count = count; clauses = cut ns ls }) c
clause_added count next n ns ls c ms ks f e p q h =
    let made : ℕ → List (List ℕ) → Formula = λ v cs. record { var_count = v; clauses = cs } in
    ap (λ x. made next (cut x ks)) p ∙ ap (λ x. made next (cut (ns ++ n ∷ []) x)) q
    ∙ ap (λ x. made next x) (cut-append ns ls c n f.used e) ∙ ap (λ v. made v (cut ns ls ++ c ∷ [])) h

-- a clause more whose variables are counted
pub counted_fits : (count n : ℕ) (ns ls c ms ks : List ℕ) → BuffersFit count ns ls → n ≡ length c → ms ≡ ns ++ n ∷ [] → ks ≡ ls ++ c →
    variables_of c ≤ count → BuffersFit count ms ks
counted_fits count n ns ls c ms ks f e p q h =
    let s = f.small in
    fits_append count count n ns ls c ms ks f e p q (omega (arith, h)) (omega (arith, h, s))

pub counted_added : (count n : ℕ) (ns ls c ms ks : List ℕ) → BuffersFit count ns ls → n ≡ length c → ms ≡ ns ++ n ∷ [] → ks ≡ ls ++ c →
    ◌≡◌ {A = Formula} (record { var_count = count; clauses = cut ms ks }) (record { var_count = count; clauses = cut ns ls ++ c ∷ [] })
counted_added count n ns ls c ms ks f e p q =
    let made : List (List ℕ) → Formula = λ cs. record { var_count = count; clauses = cs } in
    ap (λ x. made (cut x ks)) p ∙ ap (λ x. made (cut (ns ++ n ∷ []) x)) q ∙ ap made (cut-append ns ls c n f.used e)

pub with_more-append : (f : Formula) (cs : List (List ℕ)) (c : List ℕ) → with_more f (cs ++ c ∷ []) ≡ with_one_more (with_more f cs) c
with_more-append f [] c = refl
with_more-append f (d ∷ cs) c = with_more-append (with_one_more f d) cs c

-- one of the clauses more
pub clauses_step : {B : Type 0} (now : B → List ℕ) (all : List B) (i : ℕ) (b : B) (clause : List ℕ) (f s t : Formula) → i < length all →
    b ≡ get_or all i b → clause ≡ now b →
    s ≡ with_more f (map now (take i all)) → t ≡ with_one_more s clause → t ≡ with_more f (map now (take (i + 1) all))
clauses_step {B} now all i b clause f s t h e k p q =
    q ∙ ap (λ x. with_one_more x clause) p ∙ ap (λ x. with_one_more (with_more f (map now (take i all))) x) k
    ∙ sym (with_more-append f (map now (take i all)) (now b)) ∙ ap (λ cs. with_more f cs) (sym (map_take now all i b h e))
  where
    map_take : {B : Type 0} (now : B → List ℕ) (all : List B) (i : ℕ) (b : B) → i < length all → b ≡ get_or all i b →
        map now (take (i + 1) all) ≡ map now (take i all) ++ now b ∷ []
    map_take now [] i b h e = absurd (omega arith)
    map_take now (x ∷ all) zero b h e = ap (λ y. now y ∷ []) (sym e)
    map_take now (x ∷ all) (suc i) b h e = ap (λ k. map now (take k (x ∷ all))) (grow i) ∙ ap (λ ys. now x ∷ ys) (map_take now all i b (omega arith) e)
      where
        grow : (i : ℕ) → suc i + 1 ≡ suc (i + 1)
        grow i = omega arith

-- the same clauses stand in the same buffers
cut_lengths : (ns ls ms ks : List ℕ) → UseUp ns ls → UseUp ms ks → cut ns ls ≡ cut ms ks → (ns ≡ ms) × (ls ≡ ks)
cut_lengths [] ls [] ks u v e = (refl, u ∙ sym v)
cut_lengths [] ls (m ∷ ms) ks u v e = absurd cc
cut_lengths (n ∷ ns) ls [] ks u v e = absurd cc
cut_lengths (n ∷ ns) ls (m ∷ ms) ks u v e =
    let first : take n ls ≡ take m ks = cc in
    let rest : cut ns (drop n ls) ≡ cut ms (drop m ks) = cc in
    let w = cut_lengths ns (drop n ls) ms (drop m ks) u.1 v.1 rest in
    let x = length_of_take n ls u.0 in
    let y = length_of_take m ks v.0 in
    let z = ap length first in
    let s : n ≡ m = omega (arith, x, y, z) in (
      ap (λ k. k ∷ ns) s ∙ ap (λ k. m ∷ k) w.0,
      sym (take-append-drop n ls) ∙ ap (λ k. k ++ drop n ls) first ∙ ap (λ k. take m ks ++ k) w.1 ∙ take-append-drop m ks,
    )
  where
    length_of_take : (n : ℕ) (ls : List ℕ) → n ≤ length ls → length (take n ls) ≡ n
    length_of_take zero ls h = refl
    length_of_take (suc n) [] h = absurd (omega arith)
    length_of_take (suc n) (l ∷ ls) h = ap suc (length_of_take n ls (omega arith))

same_lists : (ns ms : List ℕ) → Decides (pointwise ◌==◌ ns ms) (ns ≡ ms)
same_lists ns ms = slice_eq-Decides Decides-eqb ns ms (pointwise ◌==◌ ns ms) refl

and_decides : {P Q : Type 0} (a b : Bool) → Decides a P → Decides b Q → Decides (a && b) (P × Q)
and_decides true b d e = (λ h. (d.0 refl, e.0 h), λ w. e.1 w.1)
and_decides false b d e = (λ h. absurd cc, λ w. d.1 w.0)

decides_same : {P Q : Type 0} (a : Bool) → Decides a P → (P → Q) → (Q → P) → Decides a Q
decides_same a d f g = (λ h. f (d.0 h), λ q. d.1 (g q))

pub same_buffers : (ns ls ms ks : List ℕ) → UseUp ns ls → UseUp ms ks →
    pointwise (pointwise ◌==◌) (cut ns ls) (cut ms ks) ≡ (pointwise ◌==◌ ns ms && pointwise ◌==◌ ls ks)
same_buffers ns ls ms ks u v =
    same_from_decides (pointwise (pointwise ◌==◌) (cut ns ls) (cut ms ks)) (pointwise ◌==◌ ns ms && pointwise ◌==◌ ls ks)
    (decides_same (pointwise (pointwise ◌==◌) (cut ns ls) (cut ms ks))
    (slice_eq-Decides same_lists (cut ns ls) (cut ms ks) (pointwise (pointwise ◌==◌) (cut ns ls) (cut ms ks)) refl)
    (cut_lengths ns ls ms ks u v)
    (λ w. ap (λ x. cut x ls) w.0 ∙ ap (λ x. cut ms x) w.1))
    (and_decides (pointwise ◌==◌ ns ms) (pointwise ◌==◌ ls ks) (same_lists ns ms) (same_lists ls ks))

-- what `==` looks at, in order
same_by : (m n : ℕ) (ns ls ms ks : List ℕ) → UseUp ns ls → UseUp ms ks →
    same_formula (record { var_count = m; clauses = cut ns ls })
    (record { var_count = n; clauses = cut ms ks }) ≡ ((m == n) && (pointwise ◌==◌ ns ms && pointwise ◌==◌ ls ks))
same_by m n ns ls ms ks u v = ap (λ b. (m == n) && b) (same_buffers ns ls ms ks u v)

not_true : (b : Bool) → true ≡ not b → b ≡ false
not_true true e = absurd cc
not_true false e = refl

not_false : (b : Bool) → false ≡ not b → b ≡ true
not_false true e = refl
not_false false e = absurd cc

and_false : (b : Bool) → false ≡ (b && false)
and_false true = refl
and_false false = refl

equal_test : (m n : ℕ) → m ≡ n → (m == n) ≡ true
equal_test m n e = search (rules, e)

pub lengths_differ : (m n : ℕ) (ns ls ms ks : List ℕ) (t : Bool) → UseUp ns ls → UseUp ms ks → t ≡ not (pointwise ◌==◌ ns ms) → t ≡ true →
    false ≡ same_formula (record { var_count = m; clauses = cut ns ls }) (record { var_count = n; clauses = cut ms ks })
lengths_differ m n ns ls ms ks t u v e f =
    and_false (m == n) ∙ sym (ap (λ b. (m == n) && (b && pointwise ◌==◌ ls ks)) (not_true (pointwise ◌==◌ ns ms) (sym f ∙ e)))
    ∙ sym (same_by m n ns ls ms ks u v)

pub literals_compared : (m n : ℕ) (ns ls ms ks : List ℕ) (t r : Bool) → UseUp ns ls → UseUp ms ks → m ≡ n → t ≡ not (pointwise ◌==◌ ns ms) →
    t ≡ false → r ≡ pointwise ◌==◌ ls ks →
    r ≡ same_formula (record { var_count = m; clauses = cut ns ls }) (record { var_count = n; clauses = cut ms ks })
literals_compared m n ns ls ms ks t r u v d e f g =
    g ∙ sym (ap (λ b. b && (true && pointwise ◌==◌ ls ks)) (equal_test m n d))
    ∙ sym (ap (λ b. (m == n) && (b && pointwise ◌==◌ ls ks)) (not_false (pointwise ◌==◌ ns ms) (sym f ∙ e)))
    ∙ sym (same_by m n ns ls ms ks u v)
