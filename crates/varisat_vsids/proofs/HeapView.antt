-- What a user sees of the heap.
use Rattle.std.proofs.Common.{◌≡◌, ℕ, ◌<◌, ◌≤◌, List, length, get_or, set, Bool, true, false, refl, sym, ap, ◌∙◌, inl, inr, arith}
use Rattle.std.proofs.lemmas.Bool.{ltb-true, lt-ltb, cases_lt, cases_Bool, false_from_ne_true}
use Rattle.std.proofs.lemmas.List.{get_or_past, set-get_or, get_or-map, length-map}
use Rattle.std.proofs.lemmas.Grind.{get_or_default_zero}
use Rattle.std.specs.Prelude.{nat_lt}
use Rattle.varisat_vsids.specs.Heaps.{IsLinked, IsHeap, availability, key}
use Rattle.varisat_vsids.specs.Idle.{CanIdle, AreIdleOutside}
use Rattle.varisat_vsids.specs.Activities.{Activities, IsGreatest}
use Rattle.varisat_vsids.proofs.HeapOrder.{greatest}

-- what a user sees
abbrev pub activities_with : List ℕ → List Bool → ℕ → ℕ → Activities
activities_with activity available i d = record { activity = activity; available = available; increment = i; decay = d }

-- an available variable stands among the first n
available_below : (n : ℕ) (position : List ℕ) (v : ℕ) → get_or (availability n position) v false ≡ true → (v < length position) × (get_or position v 0 < n)
available_below n position v e =
    elim (cases_lt v (length position)) [
      | inl t ↦ (t, ltb-true (get_or position v 0) n (sym (get_or-map (λ p. nat_lt p n) position v 0 false t) ∙ e))
      | inr t ↦
          let past : false ≡ true = sym (get_or_past (availability n position) v false (rw length-map t)) ∙ e in
          absurd (cc)
    ]

pub none_available : (n : ℕ) (position : List ℕ) → n ≡ 0 → (v : ℕ) → get_or (availability n position) v false ≡ false
none_available n position e v = false_from_ne_true (get_or (availability n position) v false) (λ q. (let h = available_below n position v q in omega (arith, h.1)))

-- where none stands in the heap, those who are available are idle
pub all_idle : (activity : List ℕ) (position : List ℕ) (available blocks : List Bool) (n cursor v : ℕ) →
    AreIdleOutside activity (availability n position) available blocks cursor → n ≡ 0 → get_or available v false ≡ true → CanIdle activity blocks cursor v
all_idle activity position available blocks n cursor v a e q = a.outside v q (none_available n position e v)

pub idle_is_greatest : (activity position : List ℕ) (available blocks : List Bool) (n cursor v i d : ℕ) →
    AreIdleOutside activity (availability n position) available blocks cursor → n ≡ 0 → v < length activity → get_or available v false ≡ true
    → IsGreatest (activities_with activity available i d) v
idle_is_greatest activity position available blocks n cursor v i d a e known q = record {
  known = known;
  available = q;
  greatest = λ w r. let z = (all_idle activity position available blocks n cursor w a e r).zero in omega (arith, z);
}

-- the variable at the root
pub root_is_greatest : (activity heap position : List ℕ) (available blocks : List Bool) (n cursor v i d : ℕ) → IsHeap activity heap position n →
    AreIdleOutside activity (availability n position) available blocks cursor → 0 < n → v ≡ get_or heap 0 0
    → IsGreatest (activities_with activity available i d) v
root_is_greatest activity heap position available blocks n cursor v i d h a some e =
    let l = h.linked in
    let h0 : 0 < length heap = omega (arith, h.part) in
    let kv : v < length heap = rw e (l.known 0 h0) in
    let pv : get_or position v 0 ≡ 0 = rw e (l.placed 0 h0) in
    record {
      known = omega (arith, h.known);
      available = a.inside v (get_or-map (λ p. nat_lt p n) position v 0 false (omega (arith, l.count)) ∙ rw pv (lt-ltb 0 n some));
      greatest = λ w q.
          elim (cases_Bool (get_or (availability n position) w false)) [
            | inl t ↦
                let b = available_below n position w t in
                let s : get_or heap (get_or position w 0) 0 ≡ w = l.stands w (omega (arith, l.count, b.0)) in
                let g : key activity heap (get_or position w 0) ≤ key activity heap 0 = greatest (key activity heap) n h.order (get_or position w 0) b.1 in
                rw e (rw s at g)
            | inr t ↦ let z = (a.outside w q t).zero in omega (arith, z)
          ];
    }

-- who stands among the first n is available already
pub stands_available : (a position : List ℕ) (available blocks : List Bool) (n cursor v x : ℕ) →
    AreIdleOutside a (availability n position) available blocks cursor → v < length position → x ≡ get_or position v x → x < n
    → set available v true ≡ available
stands_available a position available blocks n cursor v x h known r below =
    let at : get_or position v 0 ≡ x = sym (get_or_default_zero position v x known) ∙ sym r in
    let s : get_or (availability n position) v false ≡ true =
    get_or-map (λ p. nat_lt p n) position v 0 false known ∙ ap (λ p. nat_lt p n) at ∙ lt-ltb x n below in
    ap (λ (y : Bool). set available v y) (sym (h.inside v s)) ∙ set-get_or available v false

-- nothing changes where the variable is or is not available as it should be
pub availability-set_same : (n : ℕ) (position : List ℕ) (v : ℕ) (b : Bool) → v < length position → nat_lt (get_or position v 0) n ≡ b →
    set (availability n position) v b ≡ availability n position
availability-set_same n position v b h e =
    let at : get_or (availability n position) v b ≡ b = get_or-map (λ p. nat_lt p n) position v 0 b h ∙ e in
    ap (λ (x : Bool). set (availability n position) v x) (sym at) ∙ set-get_or (availability n position) v b

-- a number of a list, as it was read at the variable's index
pub read_at : (xs : List ℕ) (w v x : ℕ) → v < length xs → w ≡ v → x ≡ get_or xs w x → x ≡ get_or xs v 0
read_at xs w v x h e r = rw e at r ∙ get_or_default_zero xs v x h

-- the variable at place p is v
pub of_variable : (n m : ℕ) (heap position heap' position' new : List ℕ) (p w v : ℕ) (b : Bool) → IsLinked heap position → heap' ≡ heap →
    position' ≡ position → v < length heap
    → w ≡ v → p ≡ get_or position w p → availability m new ≡ set (availability n position') (get_or heap' p 0) b →
    availability m new ≡ set (availability n position) v b
of_variable n m heap position heap' position' new p w v b l eh ep hv ew e same =
    let at : p ≡ get_or position v 0 = read_at position w v p (omega (arith, l.count)) ew e in
    let s : get_or heap p 0 ≡ v = rw at (l.stands v hv) in
    rw (eh, ep, s) at same

pub same_activities : (a a' : List ℕ) (b b' : List Bool) (i i' d : ℕ) → a ≡ a' → b ≡ b' → i ≡ i' → activities_with a b i d ≡ activities_with a' b' i' d
same_activities a a' b b' i i' d ea eb ei = rw (ea, eb, ei) refl

pub same_heap : (a a' h h' p p' : List ℕ) (n : ℕ) → IsHeap a h p n → a' ≡ a → h' ≡ h → p' ≡ p → IsHeap a' h' p' n
same_heap a a' h h' p p' n heap ea eh ep = rw (ea, eh, ep) heap
