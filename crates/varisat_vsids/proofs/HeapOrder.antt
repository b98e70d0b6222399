-- The order of a heap: two places are exchanged, all keys are mapped, nothing is greater than the root.
use Rattle.std.proofs.Common.{◌≡◌, ◌≢◌, ℕ, zero, suc, ◌<◌, ◌≤◌, ap, ◌∙◌, inl, inr, arith}
use Rattle.std.proofs.lemmas.Bool.Decides.{eqb_tells}
use Rattle.varisat_vsids.specs.Heaps.{parent, IsOrdered, IsOrderedBut, IsOrderedUnder, IsNoChildGreater, IsGreaterChild}

up_parent : (key new : ℕ → ℕ) (n k : ℕ) → 0 < k → k < n → IsOrderedBut key n k → key (parent k) < key k
    → new k ≡ key (parent k) → new (parent k) ≡ key k → ((j : ℕ) → j ≢ k → j ≢ parent k → new j ≡ key j)
    → IsOrderedBut new n (parent k)
up_parent key new n k positive below o less at_k at_p others =
    let p : ℕ = parent k in
    let pk : p < k = omega arith in
    record {
      order = λ j j0 jn jp pp.
          let jk : j ≢ k = λ e. pp (ap parent e) in
          let nj : new j ≡ key j = others j jk jp in
          elim (eqb_tells (parent j) k) [
            | inl s ↦ rw (nj, s.1, at_k) (o.over positive j j0 jn s.1)
            | inr s ↦ rw (nj, others (parent j) s.1 pp) (o.order j j0 jn jk s.1)
          ];
      over = λ p0 j j0 jn jp.
          let np : new (parent p) ≡ key (parent p) = others (parent p) (omega arith) (omega arith) in
          let op : key p ≤ key (parent p) = o.order p p0 (omega arith) (omega arith) (omega arith) in
          elim (eqb_tells j k) [
            | inl t ↦ rw (t.1, at_k, np) op
            | inr t ↦
                let nj : new j ≡ key j = others j t.1 (omega arith) in
                let pk2 : parent j ≢ k = λ e. absurd (omega (arith, e, jp, pk)) in
                let oj : key j ≤ key p = rw jp at (o.order j j0 jn t.1 pk2) in
                rw (nj, np) (omega arith)
          ];
    }

-- the place k and its parent are exchanged, where k is greater
pub up : (key new : ℕ → ℕ) (n k p : ℕ) → p ≡ parent k → 0 < k → k < n → IsOrderedBut key n k → key p < key k
    → new k ≡ key p → new p ≡ key k → ((j : ℕ) → j ≢ k → j ≢ p → new j ≡ key j)
    → IsOrderedBut new n p
up key new n k p e positive below o less at_k at_p others =
    rw e (up_parent key new n k positive below o (rw e at less) (rw e at at_k) (rw e at at_p) (λ j jk jp. others j jk (λ q. jp (q ∙ e))))

-- then no child of p is greater
pub children_up : (key new : ℕ → ℕ) (n k p : ℕ) → p ≡ parent k → 0 < k → IsOrderedBut key n k → key p < key k
    → new k ≡ key p → new p ≡ key k → ((j : ℕ) → j ≢ k → j ≢ p → new j ≡ key j)
    → IsNoChildGreater new n p
children_up key new n k p e positive o less at_k at_p others j j0 jn jp =
    elim (eqb_tells j k) [
      | inl t ↦ rw (t.1, at_k, at_p) (omega arith)
      | inr t ↦
          let apart : parent j ≢ k = λ q. absurd (omega (arith, q, jp, e, positive)) in
          let below : key j ≤ key p = rw jp at (o.order j j0 jn t.1 apart) in
          rw (others j t.1 (omega (arith, jp)), at_p) (omega (arith, below))
    ]

-- the place k and its greatest child c are exchanged
pub down : (key new : ℕ → ℕ) (n k c : ℕ) → IsOrderedUnder key n k → IsGreaterChild key n k (key k) c
    → new k ≡ key c → new c ≡ key k → ((j : ℕ) → j ≢ k → j ≢ c → new j ≡ key j)
    → IsOrderedUnder new n c
down key new n k c o g at_k at_c others =
    let kc : k < c = omega (arith, g.positive, g.child) in
    record {
      order = λ j j0 jn jp.
          elim (eqb_tells j c) [
            | inl t ↦ rw (t.1, at_c, g.child, at_k) (omega (arith, g.greater))
            | inr t ↦
                elim (eqb_tells (parent j) k) [
                  | inl s ↦
                      let jk : j ≢ k = omega (arith, s.1) in
                      rw (others j jk t.1, s.1, at_k) (g.greatest j j0 jn s.1)
                  | inr s ↦
                      let np : new (parent j) ≡ key (parent j) = others (parent j) s.1 jp in
                      elim (eqb_tells j k) [
                        | inl r ↦ let k0 : 0 < k = omega (arith, r.1) in rw (np, r.1, at_k) (o.over k0 c g.positive g.below g.child)
                        | inr r ↦ rw (np, others j r.1 t.1) (o.order j j0 jn s.1)
                      ]
                ]
          ];
      over = λ c0 j j0 jn jp.
          let jk : j ≢ k = omega (arith, jp) in
          let jc : j ≢ c = omega (arith, jp) in
          let pk : parent j ≢ k = λ e. (omega (arith, jp, e, kc)) in
          let h : key j ≤ key (parent j) = o.order j j0 jn pk in
          rw (others j jk jc, g.child, at_k) (rw jp at h);
    }

-- each key by a map that keeps the order
pub IsOrdered-map : (key new : ℕ → ℕ) (n : ℕ) (f : ℕ → ℕ) → IsOrdered key n → ((x y : ℕ) → x ≤ y → f x ≤ f y) →
    ((j : ℕ) → j < n → new j ≡ f (key j)) → IsOrdered new n
IsOrdered-map key new n f o keeps same = λ j j0 jn. rw (same j jn, same (parent j) (omega arith)) (keeps (key j) (key (parent j)) (o j j0 jn))

greatest_by : (f : ℕ) (key : ℕ → ℕ) (n : ℕ) → IsOrdered key n → (k : ℕ) → k < n → k ≤ f → key k ≤ key 0
greatest_by zero key n o k h l = let e : k ≡ 0 = omega arith in rw e (omega arith)
greatest_by (suc f) key n o k h l =
    elim (eqb_tells k 0) [
      | inl t ↦ rw t.1 (omega arith)
      | inr t ↦
          let a : key k ≤ key (parent k) = o k (omega (arith, t.1)) h in
          let b : key (parent k) ≤ key 0 = greatest_by f key n o (parent k) (omega arith) (omega (arith, t.1)) in
          omega (arith, a, b)
    ]

-- nothing is greater than the root
pub greatest : (key : ℕ → ℕ) (n : ℕ) → IsOrdered key n → (k : ℕ) → k < n → key k ≤ key 0
greatest key n o k h = greatest_by k key n o k h (omega arith)
