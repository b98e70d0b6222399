-- Where variables stand after two places were exchanged, and which are available then.
use Rattle.std.proofs.Common.{◌≡◌, ◌≢◌, ℕ, ◌+◌, ◌<◌, ◌≤◌, List, length, get_or, set, Bool, true, false, sym, ap, ◌∙◌, inl, inr, arith}
use Rattle.std.proofs.Common.{get_or-set_same, get_or-set_other, length-set}
use Rattle.std.proofs.lemmas.Bool.Decides.{eqb_tells, nat_tests}
use Rattle.std.proofs.lemmas.List.{get_or-map, same_lists, length-map}
use Rattle.std.proofs.Math.Seq.{map-set_same}
use Rattle.std.specs.Prelude.{nat_lt}
use Rattle.varisat_vsids.specs.Heaps.{IsLinked, availability}

-- the positions after the places i and j were exchanged
abbrev moved : List ℕ → List ℕ → ℕ → ℕ → List ℕ
moved heap position i j = set (set position (get_or heap i 0) j) (get_or heap j 0) i

length-moved : (heap position : List ℕ) (i j : ℕ) → length (moved heap position i j) ≡ length position
length-moved heap position i j = length-set (set position (get_or heap i 0) j) (get_or heap j 0) i ∙ length-set position (get_or heap i 0) j

-- a variable stands at one place
pub one_place : (heap position : List ℕ) (i j : ℕ) → IsLinked heap position → i < length heap → j < length heap → get_or heap i 0 ≡ get_or heap j 0 → i ≡ j
one_place heap position i j l hi hj e = sym (l.placed i hi) ∙ ap (λ (v : ℕ). get_or position v 0) e ∙ l.placed j hj

moved_second : (heap position : List ℕ) (i j : ℕ) → IsLinked heap position → j < length heap → get_or (moved heap position i j) (get_or heap j 0) 0 ≡ i
moved_second heap position i j l hj =
    get_or-set_same (set position (get_or heap i 0) j) (get_or heap j 0) i 0 (rw length-set (omega (arith, l.known j hj, l.count)))

moved_first : (heap position : List ℕ) (i j : ℕ) → IsLinked heap position → i < length heap → j < length heap →
    get_or (moved heap position i j) (get_or heap i 0) 0 ≡ j
moved_first heap position i j l hi hj =
    let a : ℕ = get_or heap i 0 in
    let b : ℕ = get_or heap j 0 in
    elim (eqb_tells a b) [
      | inl t ↦ ap (λ (v : ℕ). get_or (moved heap position i j) v 0) t.1 ∙ moved_second heap position i j l hj ∙ one_place heap position i j l hi hj t.1
      | inr t ↦ get_or-set_other (set position a j) b a i 0 t.1 ∙ get_or-set_same position a j 0 (omega (arith, l.known i hi, l.count))
    ]

moved_other : (heap position : List ℕ) (i j v : ℕ) → v ≢ get_or heap i 0 → v ≢ get_or heap j 0 → get_or (moved heap position i j) v 0 ≡ get_or position v 0
moved_other heap position i j v va vb =
    get_or-set_other (set position (get_or heap i 0) j) (get_or heap j 0) v i 0 vb ∙ get_or-set_other position (get_or heap i 0) v j 0 va

-- what holds of a, of b and of what is neither holds of k
one_of_three : (holds : ℕ → Type 0) (a b k : ℕ) → holds a → holds b → (k ≢ a → k ≢ b → holds k) → holds k
one_of_three holds a b k at_a at_b other =
    elim (eqb_tells k a) [
      | inl t ↦ rw t.1 at_a
      | inr t ↦
          elim (eqb_tells k b) [
            | inl s ↦ rw s.1 at_b
            | inr s ↦ other t.1 s.1
          ]
    ]

pub exchanged : (heap new position : List ℕ) (i j : ℕ) → IsLinked heap position → i < length heap → j < length heap → length new ≡ length heap
    → get_or new i 0 ≡ get_or heap j 0 → get_or new j 0 ≡ get_or heap i 0 → ((k : ℕ) → k ≢ i → k ≢ j → get_or new k 0 ≡ get_or heap k 0)
    → IsLinked new (set (set position (get_or heap i 0) j) (get_or heap j 0) i)
exchanged heap new position i j l hi hj long at_i at_j others =
    let pa = moved_first heap position i j l hi hj in
    let pb = moved_second heap position i j l hj in
    let a : ℕ = get_or heap i 0 in
    let b : ℕ = get_or heap j 0 in
    let away : (k m : ℕ) → k < length heap → m < length heap → k ≢ m →
    get_or heap k 0 ≢ get_or heap m 0 = λ k m hk hm d e. d (one_place heap position k m l hk hm e) in
    record {
      count = length-moved heap position i j ∙ l.count ∙ sym long;
      small = rw long l.small;
      known = λ k h. one_of_three (λ x. get_or new x 0 < length new) i j k (rw (at_i, long) (l.known j hj)) (rw (at_j, long) (l.known i hi))
          (λ ni nj. rw (others k ni nj, long) (l.known k (omega (arith, long))));
      placed = λ k h. one_of_three (λ x. get_or (moved heap position i j) (get_or new x 0) 0 ≡ x) i j k (rw at_i pb) (rw at_j pa)
          (λ ni nj.
          let hk : k < length heap = omega (arith, long) in
          rw (others k ni nj) (moved_other heap position i j (get_or heap k 0) (away k i hk hi ni) (away k j hk hj nj) ∙ l.placed k hk));
      within = λ v h. one_of_three (λ x. get_or (moved heap position i j) x 0 < length new) b a v (rw (pb, long) hi) (rw (pa, long) hj)
          (λ nb na. rw (moved_other heap position i j v na nb, long) (l.within v (omega (arith, long))));
      stands = λ v h. one_of_three (λ x. get_or new (get_or (moved heap position i j) x 0) 0 ≡ x) b a v (rw pb at_i) (rw pa at_j)
          (λ nb na.
          let hv : v < length heap = omega (arith, long) in
          let p : ℕ = get_or position v 0 in
          let st : get_or heap p 0 ≡ v = l.stands v hv in
          let ni : p ≢ i = λ q. na (sym st ∙ ap (λ (x : ℕ). get_or heap x 0) q) in
          let nj : p ≢ j = λ q. nb (sym st ∙ ap (λ (x : ℕ). get_or heap x 0) q) in
          rw (moved_other heap position i j v na nb) (others p ni nj ∙ st));
    }

-- both places are of the first n, or the same stand there as before
pub availability_stays : (heap position : List ℕ) (i j n : ℕ) → IsLinked heap position → i < length heap → j < length heap → i < n → j < n
    → availability n (set (set position (get_or heap i 0) j) (get_or heap j 0) i) ≡ availability n position
availability_stays heap position i j n l hi hj ni nj =
    let pi : get_or position (get_or heap i 0) 0 ≡ i = l.placed i hi in
    let pj : get_or position (get_or heap j 0) 0 ≡ j = l.placed j hj in
    let first : availability n (set position (get_or heap i 0) j) ≡ availability n position =
    map-set_same (λ p. nat_lt p n) position (get_or heap i 0) j 0 (rw pi (grind (arith, nat_tests))) in
    let at_second : nat_lt i n ≡ nat_lt (get_or (set position (get_or heap i 0) j) (get_or heap j 0) 0) n =
    elim (eqb_tells (get_or heap j 0) (get_or heap i 0)) [
      | inl t ↦ rw (t.1, get_or-set_same position (get_or heap i 0) j 0 (omega (arith, l.known i hi, l.count))) (grind (arith, nat_tests))
      | inr t ↦ rw (get_or-set_other position (get_or heap i 0) (get_or heap j 0) j 0 t.1, pj) (grind (arith, nat_tests))
    ] in
    map-set_same (λ p. nat_lt p n) (set position (get_or heap i 0) j) (get_or heap j 0) i 0 at_second ∙ first

-- whether a variable is available is read at its position
available_at : (n : ℕ) (position : List ℕ) (v : ℕ) (d : Bool) → v < length position → get_or (availability n position) v d ≡ nat_lt (get_or position v 0) n
available_at n position v d h = get_or-map (λ p. nat_lt p n) position v 0 d h

-- lists of which variables are available are the same where each element but that of a is
with_one : (m n : ℕ) (old new : List ℕ) (a : ℕ) (b : Bool) → length new ≡ length old → nat_lt (get_or new a 0) m ≡ b
    → ((v : ℕ) → v < length old → v ≢ a → nat_lt (get_or new v 0) m ≡ nat_lt (get_or old v 0) n)
    → availability m new ≡ set (availability n old) a b
with_one m n old new a b long at_a others =
    same_lists (availability m new) (set (availability n old) a b)
    (length-map new (λ p. nat_lt p m) ∙ long ∙ sym (length-map old (λ p. nat_lt p n)) ∙ sym (length-set (availability n old) a b))
    (λ v d h.
    let hn : v < length new = rw length-map at h in
    let ho : v < length old = omega (arith, long) in
    let ha : v < length (availability n old) = rw length-map ho in
    available_at m new v d hn ∙
    elim (eqb_tells v a) [
      | inl t ↦ rw t.1 (at_a ∙ sym (get_or-set_same (availability n old) a b d (rw t.1 at ha)))
      | inr t ↦ others v ho t.1 ∙ sym (get_or-set_other (availability n old) a v b d t.1 ∙ available_at n old v d ho)
    ])

-- what holds of each place where a variable but that at i is, and was, once the variables at i and n are exchanged
moved_cases : (heap position : List ℕ) (i n v : ℕ) (holds : ℕ → ℕ → Type 0) → IsLinked heap position → n < length heap → v < length position →
    v ≢ get_or heap i 0
    → (i ≢ n → holds i n) → ((p : ℕ) → p ≢ n → holds p p) → holds (get_or (moved heap position i n) v 0) (get_or position v 0)
moved_cases heap position i n v holds l hn h va last other =
    elim (eqb_tells v (get_or heap n 0)) [
      | inl t ↦
          let apart : i ≢ n = λ e. va (t.1 ∙ ap (λ (x : ℕ). get_or heap x 0) (sym e)) in
          rw (t.1, moved_second heap position i n l hn, l.placed n hn) (last apart)
      | inr t ↦
          let nn : get_or position v 0 ≢ n = λ e. t.1 (sym (l.stands v (rw l.count at h)) ∙ ap (λ (x : ℕ). get_or heap x 0) e) in
          rw (moved_other heap position i n v va t.1) (other (get_or position v 0) nn)
    ]

-- the variable at i leaves the first m, whose last takes its place
pub taken_out : (heap position : List ℕ) (i m n : ℕ) → IsLinked heap position → i < m → m ≡ n + 1 → m ≤ length heap
    → availability n (set (set position (get_or heap i 0) n) (get_or heap n 0) i) ≡ set (availability m position) (get_or heap i 0) false
taken_out heap position i m n l hi e hm =
    let il : i < length heap = omega arith in
    let hn : n < length heap = omega arith in
    with_one n m position (moved heap position i n) (get_or heap i 0) false (length-moved heap position i n)
    (rw (moved_first heap position i n l il hn) (grind (arith, nat_tests)))
    (λ v h va. moved_cases heap position i n v (λ q p. nat_lt q n ≡ nat_lt p m) l hn h va (λ ni. grind (arith, nat_tests)) (λ p np. grind (arith, nat_tests)))

-- the variable at i, which is behind the first n, joins them
pub put_into : (heap position : List ℕ) (i n : ℕ) → IsLinked heap position → n ≤ i → i < length heap
    → availability (n + 1) (set (set position (get_or heap i 0) n) (get_or heap n 0) i) ≡ set (availability n position) (get_or heap i 0) true
put_into heap position i n l ni hi =
    let hn : n < length heap = omega arith in
    with_one (n + 1) n position (moved heap position i n) (get_or heap i 0) true (length-moved heap position i n)
    (rw (moved_first heap position i n l hi hn) (grind (arith, nat_tests)))
    (λ v h va. moved_cases heap position i n v (λ q p. nat_lt q (n + 1) ≡ nat_lt p n) l hn h va (λ apart. grind (arith, nat_tests))
    (λ p np. grind (arith, nat_tests)))
