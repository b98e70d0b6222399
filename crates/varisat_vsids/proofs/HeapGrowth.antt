-- A heap with one variable more, which is not available.
use Rattle.std.proofs.Common.{◌≡◌, ℕ, ◌+◌, ◌-◌, ◌<◌, ◌≤◌, List, [], ◌∷◌, ◌++◌, length, get_or, replicate, Bool, false, sym, ap, ◌∙◌, inl, inr, arith, append_assoc, length-append}
use Rattle.std.proofs.lemmas.Bool.{cases_lt}
use Rattle.std.proofs.lemmas.Bool.Decides.{nat_tests}
use Rattle.std.proofs.lemmas.List.{map-append, get_or_append_left, replicate-append-replicate}
use Rattle.std.proofs.Math.Seq.{get_or-append_seam}
use Rattle.std.specs.Prelude.{nat_lt}
use Rattle.varisat_literals.specs.promises.Numbers.{variable_limit}
use Rattle.varisat_vsids.specs.Heaps.{IsHeap, availability, key, parent}

front : (xs : List ℕ) (x j : ℕ) → j < length xs → get_or (xs ++ x ∷ []) j 0 ≡ get_or xs j 0
front xs x j h = get_or_append_left xs (x ∷ []) 0 j h

back : (xs : List ℕ) (x k : ℕ) → length xs ≡ k → get_or (xs ++ x ∷ []) k 0 ≡ x
back xs x k e = rw (← e) (get_or-append_seam xs x [] 0)

pub longer_by_one : {X : Type 0} (xs : List X) (x : X) (k : ℕ) → length xs ≡ k → length (xs ++ x ∷ []) ≡ k + 1
longer_by_one xs x k e = simp length-append (omega (arith, e))

-- one variable more, behind the others
pub one_more : (activity heap position : List ℕ) (n k : ℕ) → IsHeap activity heap position n → length heap ≡ k → k < variable_limit
    → IsHeap (activity ++ 0 ∷ []) (heap ++ k ∷ []) (position ++ k ∷ []) n
one_more activity heap position n k h e few =
    let l = h.linked in
    let long : length (heap ++ k ∷ []) ≡ k + 1 = longer_by_one heap k k e in
    let same : (j : ℕ) → j < n → key (activity ++ 0 ∷ []) (heap ++ k ∷ []) j ≡ key activity heap j = λ j jn.
    let jh : j < length heap = omega (arith, h.part) in
    rw (front heap k j jh) (front activity 0 (get_or heap j 0) (omega (arith, h.known, l.known j jh))) in
    record {
      linked = record {
        count = longer_by_one position k k (l.count ∙ e) ∙ sym long;
        small = rw long (omega arith);
        known = λ j jl.
            elim (cases_lt j k) [
              | inl t ↦ rw (front heap k j (omega (arith, e)), long) (omega (arith, l.known j (omega (arith, e)), e))
              | inr t ↦ let jk : j ≡ k = omega (arith, long) in rw (jk, back heap k k e, long) (omega arith)
            ];
        placed = λ j jl.
            elim (cases_lt j k) [
              | inl t ↦
                  let jh : j < length heap = omega (arith, e) in
                  rw (front heap k j jh) (front position k (get_or heap j 0) (omega (arith, l.known j jh, l.count)) ∙ l.placed j jh)
              | inr t ↦ let jk : j ≡ k = omega (arith, long) in rw (jk, back heap k k e) (back position k k (l.count ∙ e))
            ];
        within = λ v vl.
            elim (cases_lt v k) [
              | inl t ↦ rw (front position k v (omega (arith, e, l.count)), long) (omega (arith, l.within v (omega (arith, e)), e))
              | inr t ↦ let vk : v ≡ k = omega (arith, long) in rw (vk, back position k k (l.count ∙ e), long) (omega arith)
            ];
        stands = λ v vl.
            elim (cases_lt v k) [
              | inl t ↦
                  let vh : v < length heap = omega (arith, e) in
                  rw (front position k v (omega (arith, l.count))) (front heap k (get_or position v 0) (l.within v vh) ∙ l.stands v vh)
              | inr t ↦ let vk : v ≡ k = omega (arith, long) in rw (vk, back position k k (l.count ∙ e)) (back heap k k e)
            ];
      };
      known = longer_by_one activity 0 k (h.known ∙ e) ∙ sym long;
      part = rw long (omega (arith, h.part, e));
      order = λ j j0 jn. rw (same j jn, same (parent j) (omega arith)) (h.order j j0 jn);
    }

pub one_more_available : (position : List ℕ) (n k : ℕ) → n ≤ k → availability n (position ++ k ∷ []) ≡ availability n position ++ false ∷ []
one_more_available position n k h =
    let none : nat_lt k n ≡ false = grind (arith, nat_tests) in
    map-append (λ p. nat_lt p n) position (k ∷ []) ∙ ap (λ (b : Bool). availability n position ++ b ∷ []) none

pub one_more_filled : {X : Type 0} (xs : List X) (x : X) (c j : ℕ) → c ≤ j → (xs ++ replicate (j - c) x) ++ x ∷ [] ≡ xs ++ replicate (j + 1 - c) x
one_more_filled {X} xs x c j h =
    let more : j + 1 - c ≡ (j - c) + 1 = omega arith in
    rw append_assoc (ap (λ (ys : List X). xs ++ ys) (replicate-append-replicate (j - c) 1 x ∙ ap (λ (n : ℕ). replicate n x) (sym more)))
