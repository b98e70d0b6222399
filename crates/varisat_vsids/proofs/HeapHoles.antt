-- A variable that moves through the heap as a hole does. What is said is said of the heap in which it fills the hole.
use Rattle.std.proofs.Common.{◌≡◌, ◌≢◌, ℕ, ◌<◌, ◌≤◌, List, length, get_or, set, sym, ap, ◌∙◌, inl, inr, arith, length-set, get_or-set_same, get_or-set_other}
use Rattle.std.proofs.lemmas.Bool.Decides.{eqb_tells}
use Rattle.std.proofs.lemmas.List.{set-set, set_comm, set-get_or}
use Rattle.std.proofs.lemmas.Grind.{get_or_default_zero}
use Rattle.varisat_vsids.specs.Heaps.{IsLinked, IsHeap, IsHeapBut, IsHeapUnder, IsNoChildGreater, IsGreaterChild, availability, key, parent}
use Rattle.varisat_vsids.proofs.HeapOrder.{up, down, children_up}
use Rattle.varisat_vsids.proofs.HeapPlaces.{one_place, exchanged, availability_stays}

-- the variable v stands at the place k
pub at_hole : (activity heap : List ℕ) (k v : ℕ) → k < length heap → key activity (set heap k v) k ≡ get_or activity v 0
at_hole activity heap k v h = ap (λ (x : ℕ). get_or activity x 0) (get_or-set_same heap k v 0 h)

-- and all others where they did
pub off_hole : (activity heap : List ℕ) (k v j : ℕ) → j ≢ k → key activity (set heap k v) j ≡ key activity heap j
off_hole activity heap k v j h = ap (λ (x : ℕ). get_or activity x 0) (get_or-set_other heap k j v 0 h)

-- before the first move the variable fills the hole already
pub hole_heap : (heap : List ℕ) (k v x : ℕ) → k < length heap → v ≡ get_or heap k x → set heap k v ≡ heap
hole_heap heap k v x h e = rw e (set-get_or heap k x)

pub hole_position : (heap position : List ℕ) (k v x : ℕ) → IsLinked heap position → k < length heap → v ≡ get_or heap k x → set position v k ≡ position
hole_position heap position k v x l h e =
    let first : v ≡ get_or heap k 0 = e ∙ get_or_default_zero heap k x h in
    let stands : get_or position v 0 ≡ k = rw first (l.placed k h) in
    ap (λ (p : ℕ). set position v p) (sym stands) ∙ set-get_or position v 0

-- what is known of the heap with the hole
pub hole_known : (heap position : List ℕ) (k v : ℕ) → IsLinked (set heap k v) (set position v k) → k < length heap → v < length position
hole_known heap position k v l h =
    let a : get_or (set heap k v) k 0 < length (set heap k v) = l.known k (rw length-set h) in
    let b : v < length (set heap k v) = rw (get_or-set_same heap k v 0 h) at a in
    omega (arith, b, l.count, length-set heap k v, length-set position v k)

pub hole_others : (heap position : List ℕ) (k v j : ℕ) → IsLinked (set heap k v) (set position v k) → j ≢ k → j < length heap →
    get_or heap j 0 < length position
hole_others heap position k v j l n h =
    let a : get_or (set heap k v) j 0 < length (set heap k v) = l.known j (rw length-set h) in
    let b : get_or heap j 0 < length (set heap k v) = rw (get_or-set_other heap k j v 0 n) at a in
    omega (arith, b, l.count, length-set heap k v, length-set position v k)

-- the positions once the variable w at the place m has moved into the hole
moved_positions : (heap position : List ℕ) (k m v : ℕ) → IsLinked (set heap k v) (set position v k) → k < length heap → m < length heap → m ≢ k
    → set (set (set position v k) (get_or (set heap k v) k 0) m) (get_or (set heap k v) m 0) k ≡ set (set position (get_or heap m 0) k) v m
moved_positions heap position k m v l hk hm n =
    let w : ℕ = get_or heap m 0 in
    let at_k : get_or (set heap k v) k 0 ≡ v = get_or-set_same heap k v 0 hk in
    let at_m : get_or (set heap k v) m 0 ≡ w = get_or-set_other heap k m v 0 n in
    let apart : v ≢ w = λ e. n (sym (one_place (set heap k v) (set position v k) k m l (rw length-set hk) (rw length-set hm) (at_k ∙ e ∙ sym at_m))) in
    rw (at_k, at_m, set-set position v k m) (set_comm position v w m k apart)

-- the variable at the place m has moved into the hole at k, and the hole to m
moved_at_hole : (heap : List ℕ) (k m v : ℕ) → k < length heap → m ≢ k → get_or (set (set heap k (get_or heap m 0)) m v) k 0 ≡ get_or (set heap k v) m 0
moved_at_hole heap k m v hk n =
    get_or-set_other (set heap k (get_or heap m 0)) m k v 0 (λ e. n (sym e)) ∙ get_or-set_same heap k (get_or heap m 0) 0 hk
    ∙ sym (get_or-set_other heap k m v 0 n)

moved_to : (heap : List ℕ) (k m v : ℕ) → k < length heap → m < length heap → get_or (set (set heap k (get_or heap m 0)) m v) m 0 ≡ get_or (set heap k v) k 0
moved_to heap k m v hk hm = get_or-set_same (set heap k (get_or heap m 0)) m v 0 (rw length-set hm) ∙ sym (get_or-set_same heap k v 0 hk)

moved_off : (heap : List ℕ) (k m v j : ℕ) → j ≢ k → j ≢ m → get_or (set (set heap k (get_or heap m 0)) m v) j 0 ≡ get_or (set heap k v) j 0
moved_off heap k m v j nk nm =
    get_or-set_other (set heap k (get_or heap m 0)) m j v 0 nm ∙ get_or-set_other heap k j (get_or heap m 0) 0 nk ∙ sym (get_or-set_other heap k j v 0 nk)

hole_linked : (heap position : List ℕ) (k m v : ℕ) → IsLinked (set heap k v) (set position v k) → k < length heap → m < length heap → m ≢ k
    → IsLinked (set (set heap k (get_or heap m 0)) m v) (set (set position (get_or heap m 0) k) v m)
hole_linked heap position k m v l hk hm n =
    let long : length (set (set heap k (get_or heap m 0)) m v) ≡ length (set heap k v) =
    length-set (set heap k (get_or heap m 0)) m v ∙ length-set heap k (get_or heap m 0) ∙ sym (length-set heap k v) in
    rw (moved_positions heap position k m v l hk hm n) at (exchanged (set heap k v) (set (set heap k (get_or heap m 0)) m v) (set position v k) k m l
    (rw length-set hk) (rw length-set hm) long (moved_at_hole heap k m v hk n) (moved_to heap k m v hk hm) (λ j nk nm. moved_off heap k m v j nk nm))

pub hole_available : (heap position : List ℕ) (k m v n : ℕ) → IsLinked (set heap k v) (set position v k) → k < length heap → m < length heap → m ≢ k
    → k < n → m < n → availability n (set (set position (get_or heap m 0) k) v m) ≡ availability n (set position v k)
hole_available heap position k m v n l hk hm apart kn mn =
    rw (moved_positions heap position k m v l hk hm apart) at
    (availability_stays (set heap k v) (set position v k) k m n l (rw length-set hk) (rw length-set hm) kn mn)

-- the hole moves to the parent p, whose variable is less
pub hole_up : (activity heap position : List ℕ) (n k p v : ℕ) → IsHeapBut activity (set heap k v) (set position v k) n k → k < n → k < length heap
    → p ≡ parent k → 0 < k → key activity heap p < get_or activity v 0
    → IsHeapBut activity (set (set heap k (get_or heap p 0)) p v) (set (set position (get_or heap p 0) k) v p) n p
hole_up activity heap position n k p v h kn kh e positive less =
    let at : ℕ → ℕ = λ x. get_or activity x 0 in
    let apart : p ≢ k = omega (arith, e) in
    let ph : p < length heap = omega (arith, e) in
    let long : length (set (set heap k (get_or heap p 0)) p v) ≡ length (set heap k v) =
    length-set (set heap k (get_or heap p 0)) p v ∙ length-set heap k (get_or heap p 0) ∙ sym (length-set heap k v) in
    let less2 : key activity (set heap k v) p < key activity (set heap k v) k = rw (off_hole activity heap k v p apart, at_hole activity heap k v kh) less in
    record {
      linked = hole_linked heap position k p v h.linked kh ph apart;
      known = h.known ∙ sym long;
      part = rw long h.part;
      order = up (key activity (set heap k v)) (key activity (set (set heap k (get_or heap p 0)) p v)) n k p e positive kn h.order less2
          (ap at (moved_at_hole heap k p v kh apart)) (ap at (moved_to heap k p v kh ph)) (λ j jk jp. ap at (moved_off heap k p v j jk jp));
    }

pub hole_up_children : (activity heap position : List ℕ) (n k p v : ℕ) → IsHeapBut activity (set heap k v) (set position v k) n k → k < n → k < length heap
    → p ≡ parent k → 0 < k → key activity heap p < get_or activity v 0
    → IsNoChildGreater (key activity (set (set heap k (get_or heap p 0)) p v)) n p
hole_up_children activity heap position n k p v h kn kh e positive less =
    let at : ℕ → ℕ = λ x. get_or activity x 0 in
    let apart : p ≢ k = omega (arith, e) in
    let ph : p < length heap = omega (arith, e) in
    let less2 : key activity (set heap k v) p < key activity (set heap k v) k = rw (off_hole activity heap k v p apart, at_hole activity heap k v kh) less in
    children_up (key activity (set heap k v)) (key activity (set (set heap k (get_or heap p 0)) p v)) n k p e positive h.order less2
    (ap at (moved_at_hole heap k p v kh apart)) (ap at (moved_to heap k p v kh ph)) (λ j jk jp. ap at (moved_off heap k p v j jk jp))

-- the hole moves to a greatest child c, which is greater than the variable
pub hole_down : (activity heap position : List ℕ) (n k c v : ℕ) → IsHeapUnder activity (set heap k v) (set position v k) n k → k < n → k < length heap
    → IsGreaterChild (key activity heap) n k (get_or activity v 0) c
    → IsHeapUnder activity (set (set heap k (get_or heap c 0)) c v) (set (set position (get_or heap c 0) k) v c) n c
hole_down activity heap position n k c v h kn kh g =
    let at : ℕ → ℕ = λ x. get_or activity x 0 in
    let apart : c ≢ k = omega (arith, g.positive, g.child) in
    let ch : c < length heap = omega (arith, g.below, h.part, length-set heap k v) in
    let long : length (set (set heap k (get_or heap c 0)) c v) ≡ length (set heap k v) =
    length-set (set heap k (get_or heap c 0)) c v ∙ length-set heap k (get_or heap c 0) ∙ sym (length-set heap k v) in
    let greater : IsGreaterChild (key activity (set heap k v)) n k (key activity (set heap k v) k) c = record {
      below = g.below;
      positive = g.positive;
      child = g.child;
      greater = rw (off_hole activity heap k v c apart, at_hole activity heap k v kh) g.greater;
      greatest = λ j j0 jn jk. rw (off_hole activity heap k v c apart, off_hole activity heap k v j (omega (arith, jk))) (g.greatest j j0 jn jk);
    } in
    record {
      linked = hole_linked heap position k c v h.linked kh ch apart;
      known = h.known ∙ sym long;
      part = rw long h.part;
      order = down (key activity (set heap k v)) (key activity (set (set heap k (get_or heap c 0)) c v)) n k c h.order greater
          (ap at (moved_at_hole heap k c v kh apart)) (ap at (moved_to heap k c v kh ch)) (λ j jk jc. ap at (moved_off heap k c v j jk jc));
    }

-- the parent of the hole is no less than the variable
pub hole_risen : (activity heap position : List ℕ) (n k v : ℕ) → IsHeapBut activity (set heap k v) (set position v k) n k → k < length heap
    → (0 < k → get_or activity v 0 ≤ key activity heap (parent k)) → IsHeapUnder activity (set heap k v) (set position v k) n k
hole_risen activity heap position n k v h kh no_less = record {
  linked = h.linked;
  known = h.known;
  part = h.part;
  order = record {
    order = λ j j0 jn pk.
        elim (eqb_tells j k) [
          | inl t ↦
              let k0 : 0 < k = omega (arith, t.1) in
              rw (t.1, at_hole activity heap k v kh, off_hole activity heap k v (parent k) (omega arith)) (no_less k0)
          | inr t ↦ h.order.order j j0 jn t.1 pk
        ];
    over = h.order.over;
  };
}

-- no child of the place is greater
pub heap_of_under : (activity heap position : List ℕ) (n k : ℕ) → IsHeapUnder activity heap position n k → IsNoChildGreater (key activity heap) n k
    → IsHeap activity heap position n
heap_of_under activity heap position n k h children = record {
  linked = h.linked;
  known = h.known;
  part = h.part;
  order = λ j j0 jn.
      elim (eqb_tells (parent j) k) [
        | inl t ↦ rw t.1 (children j j0 jn t.1)
        | inr t ↦ h.order.order j j0 jn t.1
      ];
}

-- no child of the hole is greater than the variable
pub hole_sunk : (activity heap position : List ℕ) (n k v : ℕ) → IsHeapUnder activity (set heap k v) (set position v k) n k → k < length heap
    → ((j : ℕ) → 0 < j → j < n → parent j ≡ k → key activity heap j ≤ get_or activity v 0) → IsHeap activity (set heap k v) (set position v k) n
hole_sunk activity heap position n k v h kh no_greater =
    heap_of_under activity (set heap k v) (set position v k) n k h
    (λ j j0 jn jk. rw (at_hole activity heap k v kh, off_hole activity heap k v j (omega (arith, jk))) (no_greater j j0 jn jk))
