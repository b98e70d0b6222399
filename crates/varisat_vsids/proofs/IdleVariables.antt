-- Who is available outside the heap stays idle.
use Rattle.std.proofs.Common.{◌≡◌, ◌≢◌, ℕ, zero, suc, ◌/◌, ◌^◌, ◌<◌, ◌≤◌, List, [], ◌∷◌, ◌++◌, length, get_or, set, map, Bool, true, false, refl, sym, ap, ◌∙◌, inl, inr, arith}
use Rattle.std.proofs.Common.{length-append, length-set, get_or-set_same, get_or-set_other}
use Rattle.std.proofs.lemmas.Bool.Decides.{eqb_tells}
use Rattle.std.proofs.lemmas.List.{length-map, set-get_or}
use Rattle.std.proofs.Math.ListN.{get_or-map}
use Rattle.std.specs.Prelude.{min}
use Rattle.varisat_vsids.specs.Idle.{CanIdle, AreIdleOutside, AreInBlocks, IsNoneBefore}

not_both : (b : Bool) → b ≡ true → b ≡ false → ⊥
not_both b t f = (let e : false ≡ true = sym f ∙ t in absurd (cc))

-- other activities, blocks or another cursor
pub idle_with : (a a' : List ℕ) (standing available b b' : List Bool) (c c' : ℕ) → AreIdleOutside a standing available b c
    → length a' ≡ length a → length b' ≡ length b → c' ≤ length a
    → ((v : ℕ) → get_or available v false ≡ true → CanIdle a b c v → CanIdle a' b' c' v) → AreIdleOutside a' standing available b' c'
idle_with a a' standing available b b' c c' h ea eb bound can = record {
  count = h.count ∙ sym ea;
  block_count = eb ∙ h.block_count ∙ sym ea;
  within = omega (arith, ea, bound);
  inside = h.inside;
  outside = λ v av st. can v av (h.outside v av st);
}

-- one variable comes to stand or to be available, or no more
pub idle_set : (a a' : List ℕ) (standing available b b' : List Bool) (c c' v : ℕ) (s w : Bool) → AreIdleOutside a standing available b c
    → v < length standing → v < length available → length a' ≡ length a → length b' ≡ length b → c' ≤ length a
    → (s ≡ true → w ≡ true) → (w ≡ true → s ≡ false → CanIdle a' b' c' v) → ((u : ℕ) → u ≢ v → CanIdle a b c u → CanIdle a' b' c' u)
    → AreIdleOutside a' (set standing v s) (set available v w) b' c'
idle_set a a' standing available b b' c c' v s w h vs va ea eb bound in_it out_of_it can = record {
  count = length-set available v w ∙ h.count ∙ sym ea;
  block_count = eb ∙ h.block_count ∙ sym ea;
  within = omega (arith, ea, bound);
  inside = λ u st.
      elim (eqb_tells u v) [
        | inl t ↦
            let e : s ≡ true = sym (get_or-set_same standing v s false vs) ∙ ap (λ (x : ℕ). get_or (set standing v s) x false) (sym t.1) ∙ st in
            rw t.1 (get_or-set_same available v w false va ∙ in_it e)
        | inr t ↦
            let e : get_or standing u false ≡ true = sym (get_or-set_other standing v u s false t.1) ∙ st in
            get_or-set_other available v u w false t.1 ∙ h.inside u e
      ];
  outside = λ u av st.
      elim (eqb_tells u v) [
        | inl t ↦
            let e : w ≡ true = sym (get_or-set_same available v w false va) ∙ ap (λ (x : ℕ). get_or (set available v w) x false) (sym t.1) ∙ av in
            let f : s ≡ false = sym (get_or-set_same standing v s false vs) ∙ ap (λ (x : ℕ). get_or (set standing v s) x false) (sym t.1) ∙ st in
            rw t.1 (out_of_it e f)
        | inr t ↦
            let e : get_or available u false ≡ true = sym (get_or-set_other available v u w false t.1) ∙ av in
            let f : get_or standing u false ≡ false = sym (get_or-set_other standing v u s false t.1) ∙ st in
            can u t.1 (h.outside u e f)
      ];
}

-- it is no more available
pub idle_gone : (a : List ℕ) (standing available b : List Bool) (c v : ℕ) → AreIdleOutside a standing available b c → v < length standing →
    v < length available → AreIdleOutside a (set standing v false) (set available v false) b c
idle_gone a standing available b c v h vs va =
    idle_set a a standing available b b c c v false false h vs va refl refl h.within (λ e. e) (λ e f. absurd (not_both false e refl)) (λ u n i. i)

-- it comes into the heap, also with another activity
pub idle_stands : (a a' : List ℕ) (standing available b : List Bool) (c v : ℕ) → AreIdleOutside a standing available b c → v < length standing →
    v < length available → length a' ≡ length a → ((u : ℕ) → u ≢ v → get_or a' u 0 ≡ get_or a u 0)
    → AreIdleOutside a' (set standing v true) (set available v true) b c
idle_stands a a' standing available b c v h vs va ea same =
    idle_set a a' standing available b b c c v true true h vs va ea refl h.within (λ e. refl) (λ e f. absurd (not_both true refl f))
    (λ u n i. record { zero = same u n ∙ i.zero; ahead = i.ahead; block = i.block })

-- it becomes available where it is, and may be idle from then on
pub idle_waits : (a : List ℕ) (standing available b : List Bool) (c v : ℕ) → AreIdleOutside a standing available b c → v < length standing →
    v < length available → get_or a v 0 ≡ 0 → AreIdleOutside a standing (set available v true) (set b (v / 64) true) (min c v)
idle_waits a standing available b c v h vs va e =
    let k : v / 64 < length b = omega (arith, va, h.count, h.block_count) in
    rw (set-get_or standing v false) at (idle_set a a standing available b (set b (v / 64) true) c (min c v) v (get_or standing v false) true h
    vs va refl (length-set b (v / 64) true) (omega (arith, va, h.count, h.within)) (λ e. refl)
    (λ t f. record { zero = e; ahead = omega arith; block = get_or-set_same b (v / 64) true false k })
    (λ u n i. record {
      zero = i.zero;
      ahead = omega (arith, i.ahead);
      block =
          elim (eqb_tells (u / 64) (v / 64)) [
            | inl t ↦ rw t.1 (get_or-set_same b (v / 64) true false k)
            | inr t ↦ get_or-set_other b (v / 64) (u / 64) true false t.1 ∙ i.block
          ];
    }))

-- another activity of one that stands, or is not available
pub idle_raised : (a : List ℕ) (standing available b : List Bool) (c v x : ℕ) → AreIdleOutside a standing available b c
    → (get_or available v false ≡ true → get_or standing v false ≡ true) → AreIdleOutside (set a v x) standing available b c
idle_raised a standing available b c v x h stands = record {
  count = h.count ∙ sym (length-set a v x);
  block_count = h.block_count ∙ sym (length-set a v x);
  within = rw length-set h.within;
  inside = h.inside;
  outside = λ u av st.
      let i = h.outside u av st in
      elim (eqb_tells u v) [
        | inl t ↦ absurd (not_both (get_or standing v false) (stands (rw t.1 at av)) (rw t.1 at st))
        | inr t ↦ record { zero = get_or-set_other a v u x 0 t.1 ∙ i.zero; ahead = i.ahead; block = i.block }
      ];
}

-- an activity becomes 0
pub idle_reset : (a : List ℕ) (standing available b : List Bool) (c v : ℕ) → AreIdleOutside a standing available b c → v < length a
    → AreIdleOutside (set a v 0) standing available b c
idle_reset a standing available b c v h k =
    idle_with a (set a v 0) standing available b b c c h (length-set a v 0) refl h.within
    (λ u av i. record {
      zero =
          elim (eqb_tells u v) [
            | inl t ↦ rw t.1 (get_or-set_same a v 0 0 k)
            | inr t ↦ get_or-set_other a v u 0 0 t.1 ∙ i.zero
          ];
      ahead = i.ahead;
      block = i.block;
    })

-- all activities are shifted
pub idle_shifted : (a : List ℕ) (standing available b : List Bool) (c : ℕ) → AreIdleOutside a standing available b c
    → AreIdleOutside (map (λ x. x / 2 ^ 40) a) standing available b c
idle_shifted a standing available b c h =
    idle_with a (map (λ x. x / 2 ^ 40) a) standing available b b c c h (length-map a (λ x. x / 2 ^ 40)) refl h.within
    (λ u av i. record { zero = get_or-map (λ x. x / 2 ^ 40) a u 0 ∙ ap (λ (x : ℕ). x / 2 ^ 40) i.zero; ahead = i.ahead; block = i.block })

-- a search for one that is available has passed others
pub idle_passed : (a : List ℕ) (standing available b b' : List Bool) (c c' : ℕ) → AreIdleOutside a standing available b c → length b' ≡ length b →
    c' ≤ length available → IsNoneBefore available c' → AreInBlocks available b' → AreIdleOutside a standing available b' c'
idle_passed a standing available b b' c c' h e bound before blocks =
    idle_with a a standing available b b' c c' h refl e (omega (arith, bound, h.count)) (λ v av i. record { zero = i.zero; ahead = before v av; block = blocks v av })

pub snoc_false : (xs : List Bool) (u : ℕ) → get_or (xs ++ false ∷ []) u false ≡ get_or xs u false
snoc_false [] zero = refl
snoc_false [] (suc u) = refl
snoc_false (x ∷ xs) zero = refl
snoc_false (x ∷ xs) (suc u) = snoc_false xs u

snoc_zero : (xs : List ℕ) (u : ℕ) → get_or (xs ++ 0 ∷ []) u 0 ≡ get_or xs u 0
snoc_zero [] zero = refl
snoc_zero [] (suc u) = refl
snoc_zero (x ∷ xs) zero = refl
snoc_zero (x ∷ xs) (suc u) = snoc_zero xs u

-- a list stays true where it is longer
snoc_true : (xs : List Bool) (u : ℕ) → get_or xs u false ≡ true → get_or (xs ++ false ∷ []) u false ≡ true
snoc_true xs u t = snoc_false xs u ∙ t

-- one variable more
pub idle_longer : (a : List ℕ) (standing available b : List Bool) (c : ℕ) → AreIdleOutside a standing available b c
    → AreIdleOutside (a ++ 0 ∷ []) (standing ++ false ∷ []) (available ++ false ∷ []) (b ++ false ∷ []) c
idle_longer a standing available b c h = record {
  count = simp length-append (omega (arith, h.count));
  block_count = simp length-append (omega (arith, h.block_count));
  within = simp length-append (omega (arith, h.within));
  inside = λ u st. snoc_true available u (h.inside u (sym (snoc_false standing u) ∙ st));
  outside = λ u av st.
      let i = h.outside u (sym (snoc_false available u) ∙ av) (sym (snoc_false standing u) ∙ st) in
      record { zero = snoc_zero a u ∙ i.zero; ahead = i.ahead; block = snoc_true b (u / 64) i.block };
}

-- the same lists by other names
pub same_idle : (a a' : List ℕ) (standing standing' available available' b b' : List Bool) (c : ℕ) → AreIdleOutside a standing available b c → a' ≡ a
    → standing' ≡ standing → available' ≡ available → b' ≡ b → AreIdleOutside a' standing' available' b' c
same_idle a a' standing standing' available available' b b' c h ea es ev eb = rw (ea, es, ev, eb) h

-- an element of a list, whatever stands for one past its end
pub element_is : (xs : List Bool) (i : ℕ) (d : Bool) → i < length xs → get_or xs i d ≡ get_or xs i false
element_is [] i d h = absurd (omega arith)
element_is (x ∷ xs) zero d h = refl
element_is (x ∷ xs) (suc i) d h = element_is xs i d (omega (arith, h))

pub flag_at : (xs : List Bool) (w v : ℕ) (b : Bool) → v < length xs → w ≡ v → b ≡ get_or xs w b → b ≡ get_or xs v false
flag_at xs w v b h e r = rw e at r ∙ element_is xs v b h

-- the activity of one rises, which comes into the heap where it is available
pub idle_entered : (a : List ℕ) (standing entered available b : List Bool) (c v x : ℕ) (enters : Bool) → AreIdleOutside a standing available b c
    → v < length standing → v < length available → enters ≡ get_or available v false
    → (enters ≡ true → entered ≡ set standing v true) → (enters ≡ false → entered ≡ standing) → AreIdleOutside (set a v x) entered available b c
idle_entered a standing entered available b c v x true h vs va e enters stays =
    let same : set available v true ≡ available = ap (λ (y : Bool). set available v y) e ∙ set-get_or available v false in
    rw (enters refl) (rw same at (idle_stands a (set a v x) standing available b c v h vs va (length-set a v x)
    (λ u n. get_or-set_other a v u x 0 n)))
idle_entered a standing entered available b c v x false h vs va e enters stays =
    rw (stays refl) (idle_raised a standing available b c v x h (λ t. absurd (not_both (get_or available v false) t (sym e))))
