-- Charges are joined, and divided into digits.
use Rattle.std.proofs.Common.{◌≡◌, ℕ, ◌+◌, ◌-◌, ◌<◌, ◌≤◌, Bool, true, false, not, if◌then◌else◌, List, [], ◌∷◌, ◌++◌, ◌⊎◌, ⊎_elim, take, length, get_or, refl, sym, ap, ◌∙◌, subst, arith}
use Rattle.std.specs.List.{sum_by}
use Rattle.std.specs.List.Sorted.{IsPermutation}
use Rattle.std.proofs.lemmas.List.{append-nil}
use Rattle.std.proofs.lemmas.List.Sums.{sum_by-cons}
use Rattle.std.proofs.lemmas.List.Sorted.{sum_by-IsPermutation, Contains-permutation, IsPermutation-sym}
use Rattle.varisat_theory.specs.promises.Literals.{Literal, Assignment, variable_of, opposite, value}
use Rattle.varisat_theory.proofs.clauses.Values.{value-opposite}
use Rattle.varisat_theory.proofs.clauses.Places.{∈-contains, contains-∈}
use Rattle.varisat_maxsat.specs.inside.Charges.{charged, due, PutsCharge, Divides, Exchanges}
use Rattle.varisat_maxsat.specs.declared.charge.Charge.{Charge}
use Rattle.varisat_maxsat.proofs.Agreeing.{charged-append}
use Rattle.varisat_maxsat.proofs.Adding.{charge-below}
use Rattle.varisat_maxsat.proofs.Taking.{take-item, fewer-below, last-below}

-- a charge is put
due-nothing : (a : Assignment) (l : Literal) → due a l 0 ≡ 0
due-nothing a l = go (value a l) 0 refl
  where
    go : (b : Bool) (w : ℕ) → w ≡ 0 → (if b then w else 0) ≡ 0
    go true w e = e
    go false w e = refl

pub puts-nothing : (l : Literal) (w : ℕ) (cs : List Charge) → w ≡ 0 → PutsCharge l w cs cs
puts-nothing l w cs z = record {
  same = λ a. let e = ap (due a l) z in let f = due-nothing a l in omega arith;
  below = λ n v h. h;
}

pub puts-one : (l : Literal) (w : ℕ) (cs after : List Charge) → after ≡ cs ++ record { literal = l; weight = w } ∷ [] → PutsCharge l w cs after
puts-one l w cs after e = subst (PutsCharge l w cs) (sym e) (record {
  same = λ a. let f = charged-append a cs (record { literal = l; weight = w } ∷ []) in omega arith;
  below = λ n v h. charge-below n cs (record { literal = l; weight = w }) h v;
})

-- digits are taken
due-split : (a : Assignment) (l : Literal) (w v : ℕ) → v ≤ w → due a l w ≡ due a l v + due a l (w - v)
due-split a l w v h = go (value a l)
  where
    go : (b : Bool) → (if b then w else 0) ≡ (if b then v else 0) + (if b then w - v else 0)
    go true = omega arith
    go false = refl

divides-more : {cs kept after later rest more : List Charge} (c : Charge) (v : ℕ) → v ≤ c.weight → PutsCharge c.literal v after later →
    PutsCharge c.literal (c.weight - v) rest more → Divides cs kept after rest → Divides (cs ++ c ∷ []) kept later more
divides-more {cs} {kept} {after} {later} {rest} {more} c v h p q d = record {
  same = λ a.
      let e = d.same a in
      let f = p.same a in
      let g = q.same a in
      let i = charged-append a cs (c ∷ []) in
      let j = due-split a c.literal c.weight v h in
      omega arith;
  below = λ n k b. p.below n (last-below n cs c k) (d.below n (fewer-below n cs c k) b);
  rest_below = λ n k. q.below n (last-below n cs c k) (d.rest_below n (fewer-below n cs c k));
}

pub divides-next : (i : ℕ) (cs kept after later rest more : List Charge) (c : Charge) (v : ℕ) → i < length cs → c ≡ get_or cs i c → v ≤ c.weight →
    PutsCharge c.literal v after later → PutsCharge c.literal (c.weight - v) rest more → Divides (take i cs) kept after rest →
    Divides (take (i + 1) cs) kept later more
divides-next i cs kept after later rest more c v h e l p q d =
    subst (λ x. Divides x kept later more) (sym (take-item cs i c h e)) (divides-more c v l p q d)

pub divides-start : (cs parts rest : List Charge) → parts ≡ [] → rest ≡ cs → Divides cs [] parts rest
divides-start cs parts rest e f = subst (λ x. Divides cs [] x rest) (sym e) (subst (Divides cs [] []) (sym f) (record {
  same = λ a. refl;
  below = λ n h k. k;
  rest_below = λ n h. h;
}))

pub divides-then : (cs parts rest left later more : List Charge) → left ≡ rest → Divides left parts later more → Divides cs [] parts rest → Divides cs [] later more
divides-then cs parts rest left later more f x d = record {
  same = λ a. let g = d.same a in let h = e.same a in omega arith;
  below = λ n h k. e.below n (d.rest_below n h) (d.below n h k);
  rest_below = λ n h. e.rest_below n (d.rest_below n h);
}
  where
    e : Divides rest parts later more
    e = subst (λ z. Divides z parts later more) f x

-- two charges of opposite literals
opposite-due : (a : Assignment) (l : Literal) (w : ℕ) → due a (opposite l) w ≡ (if not (value a l) then w else 0)
opposite-due a l w = ap (λ b. if b then w else 0) (value-opposite a l)

pub combined-less : (a : Assignment) (l m : Literal) (v w : ℕ) → l ≡ opposite m → v < w → due a l v + due a m w ≡ v + due a m (w - v)
combined-less a l m v w e h =
    ap (λ x. due a x v + due a m w) e ∙ ap (λ x. x + due a m w) (opposite-due a m v) ∙ go (value a m)
  where
    go : (b : Bool) → (if not b then v else 0) + (if b then w else 0) ≡ v + (if b then w - v else 0)
    go true = omega arith
    go false = omega arith

pub combined-more : (a : Assignment) (l m : Literal) (v w : ℕ) → l ≡ opposite m → w ≤ v → due a l v + due a m w ≡ w + due a l (v - w)
combined-more a l m v w e h =
    ap (λ x. due a x v + due a m w) e ∙ ap (λ x. x + due a m w) (opposite-due a m v) ∙ go (value a m) ∙ sym (ap (λ x. w + x) (ap (λ x. due a x (v - w)) e ∙ opposite-due a m (v - w)))
  where
    go : (b : Bool) → (if not b then v else 0) + (if b then w else 0) ≡ w + (if not b then v - w else 0)
    go true = omega arith
    go false = omega arith

-- the last charge is joined
joins-nothing : (old new : List Charge) (c : Charge) → new ≡ old ++ c ∷ [] → Exchanges (old ++ c ∷ []) 0 new
joins-nothing old new c e = subst (Exchanges (old ++ c ∷ []) 0) (sym e) (record { same = λ a. omega arith; below = λ n h. h })

pub joins-first : (old start new : List Charge) (c : Charge) → old ≡ start ++ [] → new ≡ start ++ c ∷ [] → Exchanges (old ++ c ∷ []) 0 new
joins-first old start new c e f = joins-nothing old new c (f ∙ ap (λ x. x ++ c ∷ []) (sym (e ∙ append-nil start)))

pub joins-none : (old start between new : List Charge) (c d : Charge) → old ≡ start ++ c ∷ [] → between ≡ start ++ c ∷ [] → new ≡ between ++ d ∷ [] →
    Exchanges (old ++ d ∷ []) 0 new
joins-none old start between new c d e f g = joins-nothing old new d (g ∙ ap (λ x. x ++ d ∷ []) (f ∙ sym e))

pub joins-last : (old start new : List Charge) (c d e : Charge) (k : ℕ) → old ≡ start ++ c ∷ [] →
    ((a : Assignment) → due a c.literal c.weight + due a d.literal d.weight ≡ k + due a e.literal e.weight) →
    (e.literal ≡ c.literal) ⊎ (e.literal ≡ d.literal) → PutsCharge e.literal e.weight start new → Exchanges (old ++ d ∷ []) k new
joins-last old start new c d e k f same of p = subst (λ x. Exchanges (x ++ d ∷ []) k new) (sym f) (record {
  same = λ a.
      let g = same a in
      let h = p.same a in
      let i = charged-append a (start ++ c ∷ []) (d ∷ []) in
      let j = charged-append a start (c ∷ []) in
      omega arith;
  below = λ n h.
      p.below n (⊎_elim (λ q. subst (λ x. variable_of x < n) (sym q) (last-below n start c (fewer-below n (start ++ c ∷ []) d h)))
      (λ q. subst (λ x. variable_of x < n) (sym q) (last-below n (start ++ c ∷ []) d h)) of)
      (fewer-below n start c (fewer-below n (start ++ c ∷ []) d h));
})

pub exchanges-none : (joined : List Charge) → joined ≡ [] → Exchanges [] 0 joined
exchanges-none joined e = subst (Exchanges [] 0) (sym e) (record { same = λ a. refl; below = λ n h. h })

pub exchanges-next : (i : ℕ) (cs joined later : List Charge) (c : Charge) (k m s : ℕ) → i < length cs → c ≡ get_or cs i c → s ≡ k + m →
    Exchanges (joined ++ c ∷ []) m later → Exchanges (take i cs) k joined → Exchanges (take (i + 1) cs) s later
exchanges-next i cs joined later c k m s h e f x y = subst (λ z. Exchanges z s later) (sym (take-item cs i c h e)) (record {
  same = λ a.
      let g = x.same a in
      let j = y.same a in
      let o = charged-append a (take i cs) (c ∷ []) in
      let q = charged-append a joined (c ∷ []) in
      omega arith;
  below = λ n b. x.below n (charge-below n joined c (y.below n (fewer-below n (take i cs) c b)) (last-below n (take i cs) c b));
})

-- the same charges in another order
charged-sum : (a : Assignment) (cs : List Charge) → charged a cs ≡ sum_by (λ (c : Charge). due a c.literal c.weight) cs
charged-sum a [] = refl
charged-sum a (c ∷ cs) =
    let e = charged-sum a cs in
    let f = sum_by-cons (λ (c : Charge). due a c.literal c.weight) c cs in
    omega arith

pub exchanges-ordered : (cs bs ds es after : List Charge) (k : ℕ) → bs ≡ cs → IsPermutation bs ds → es ≡ ds → Exchanges es k after → Exchanges cs k after
exchanges-ordered cs bs ds es after k e p q y = ordered (subst (λ z. IsPermutation z ds) e p) (subst (λ z. Exchanges z k after) q y)
  where
    ordered : IsPermutation cs ds → Exchanges ds k after → Exchanges cs k after
    ordered m x = record {
      same = λ a.
          let e = x.same a in
          let f = charged-sum a cs in
          let g = charged-sum a ds in
          let h = sum_by-IsPermutation (λ (c : Charge). due a c.literal c.weight) cs ds m in
          omega arith;
      below = λ n h. x.below n (λ c i. h c (∈-contains c cs (Contains-permutation ds cs c (IsPermutation-sym cs ds m) (contains-∈ c ds i))));
    }
