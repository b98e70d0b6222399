-- A weight is taken from charges, and a core divides them.
use Rattle.std.proofs.Common.{◌≡◌, ℕ, ◌+◌, ◌-◌, ◌<◌, Bool, true, false, not, if◌then◌else◌, List, [], ◌∷◌, ◌++◌, ◌⊎◌, inl, inr, ⊎_elim, take, length, get_or, refl, sym, ap, ◌∙◌, subst, arith}
use Rattle.std.proofs.lemmas.List.{take_more}
use Rattle.varisat_theory.specs.promises.Membership.{◌∈◌}
use Rattle.varisat_theory.specs.promises.Literals.{Literal, Clause, Assignment, variable_of, opposite, value, SatisfiesAll, IsFailedCore}
use Rattle.varisat_theory.proofs.clauses.Members.{∈-append_left, ∈-append_right, ∈-append_cases}
use Rattle.varisat_theory.proofs.clauses.Places.{∈-get_or}
use Rattle.varisat_theory.proofs.clauses.Values.{value-opposite}
use Rattle.varisat_maxsat.specs.promises.Problems.{Soft}
use Rattle.varisat_maxsat.specs.inside.Charges.{LiteralsAreBelow, ChargesAreBelow, TakesWeight, IsSplit, Reduces, AreAssumed, IsPending}
use Rattle.varisat_maxsat.specs.declared.charge.Charge.{Charge}
use Rattle.varisat_maxsat.proofs.Agreeing.{charged-append, weighed-append}
use Rattle.varisat_maxsat.proofs.Adding.{charge-below}

-- one more item of a list
pub take-item : {X : Type 0} (xs : List X) (i : ℕ) (v : X) → i < length xs → v ≡ get_or xs i v → take (i + 1) xs ≡ take i xs ++ v ∷ []
take-item xs i v h e = take_more xs i v h ∙ ap (λ x. take i xs ++ x ∷ []) (sym e)

pub last-cases : {X : Type 0} (x : X) (xs : List X) (y : X) → x ∈ (xs ++ y ∷ []) → (x ∈ xs) ⊎ (x ≡ y)
last-cases x xs y i = ⊎_elim inl (λ j. ⊎_elim inr (λ z. absurd z) j) (∈-append_cases x xs (y ∷ []) i)

literals-more : (n : ℕ) (ls : List Literal) (l : Literal) → LiteralsAreBelow n ls → variable_of l < n → LiteralsAreBelow n (ls ++ l ∷ [])
literals-more n ls l h k m i = ⊎_elim (λ j. h m j) (λ e. subst (λ x. variable_of x < n) (sym e) k) (last-cases m ls l i)

split-weight : (b : Bool) (w v : ℕ) → w < v → (if b then v else 0) ≡ (if b then v - w else 0) + (if b then w else 0)
split-weight true w v h = omega arith
split-weight false w v h = omega arith

pub fewer-below : (n : ℕ) (cs : List Charge) (c : Charge) → ChargesAreBelow n (cs ++ c ∷ []) → ChargesAreBelow n cs
fewer-below n cs c h d i = h d (∈-append_left d cs (c ∷ []) i)

pub last-below : (n : ℕ) (cs : List Charge) (c : Charge) → ChargesAreBelow n (cs ++ c ∷ []) → variable_of c.literal < n
last-below n cs c h = h c (∈-append_right c cs (c ∷ []) (inl refl))

pending-all : (cs : List Charge) (pending : List Literal) (c : Charge) → ((d : Charge) → d ∈ cs → d.literal ∈ pending) →
    (d : Charge) → d ∈ (cs ++ c ∷ []) → d.literal ∈ (pending ++ c.literal ∷ [])
pending-all cs pending c h d i =
    ⊎_elim (λ j. ∈-append_left d.literal pending (c.literal ∷ []) (h d j))
    (λ e. ∈-append_right d.literal pending (c.literal ∷ []) (inl (ap (λ (x : Charge). x.literal) e))) (last-cases d cs c i)

-- of a charge something is left
pub takes-part : {w : ℕ} {cs kept after : List Charge} {pending : List Literal} (c : Charge) → w < c.weight → TakesWeight w cs kept after pending →
    TakesWeight w (cs ++ c ∷ []) kept (after ++ record { literal = c.literal; weight = c.weight - w } ∷ []) (pending ++ c.literal ∷ [])
takes-part {w} {cs} {kept} {after} {pending} c h t = record {
  same = λ a.
      let e = t.same a in
      let f = charged-append a cs (c ∷ []) in
      let g = charged-append a after (record { literal = c.literal; weight = c.weight - w } ∷ []) in
      let i = weighed-append a w pending (c.literal ∷ []) in
      let j = split-weight (value a c.literal) w c.weight h in
      omega arith;
  below = λ n k b. charge-below n after (record { literal = c.literal; weight = c.weight - w }) (t.below n (fewer-below n cs c k) b) (last-below n cs c k);
  pending_below = λ n k. literals-more n pending c.literal (t.pending_below n (fewer-below n cs c k)) (last-below n cs c k);
  all = pending-all cs pending c t.all;
}

-- a charge is used up
pub takes-whole : {w : ℕ} {cs kept after : List Charge} {pending : List Literal} (c : Charge) → w ≡ c.weight → TakesWeight w cs kept after pending →
    TakesWeight w (cs ++ c ∷ []) kept after (pending ++ c.literal ∷ [])
takes-whole {w} {cs} {kept} {after} {pending} c h t = record {
  same = λ a.
      let e = t.same a in
      let f = charged-append a cs (c ∷ []) in
      let i = weighed-append a w pending (c.literal ∷ []) in
      let j = ap (λ x. if value a c.literal then x else 0) h in
      omega arith;
  below = λ n k b. t.below n (fewer-below n cs c k) b;
  pending_below = λ n k. literals-more n pending c.literal (t.pending_below n (fewer-below n cs c k)) (last-below n cs c k);
  all = pending-all cs pending c t.all;
}

-- the next charge of a list
pub takes-next-part : (i : ℕ) (cs : List Charge) {w : ℕ} {kept after later : List Charge} {pending more : List Literal} (c : Charge) → i < length cs → c ≡ get_or cs i c →
    w < c.weight → later ≡ after ++ record { literal = c.literal; weight = c.weight - w } ∷ [] → more ≡ pending ++ c.literal ∷ [] →
    TakesWeight w (take i cs) kept after pending → TakesWeight w (take (i + 1) cs) kept later more
takes-next-part i cs {w} {kept} {after} {later} {pending} {more} c h e l f g t =
    subst (λ x. TakesWeight w x kept later more) (sym (take-item cs i c h e))
    (subst (λ x. TakesWeight w (take i cs ++ c ∷ []) kept x more) (sym f)
    (subst (λ x. TakesWeight w (take i cs ++ c ∷ []) kept (after ++ record { literal = c.literal; weight = c.weight - w } ∷ []) x) (sym g) (takes-part c l t)))

pub takes-next-whole : (i : ℕ) (cs : List Charge) {w : ℕ} {kept after later : List Charge} {pending more : List Literal} (c : Charge) → i < length cs → c ≡ get_or cs i c →
    w ≡ c.weight → later ≡ after → more ≡ pending ++ c.literal ∷ [] →
    TakesWeight w (take i cs) kept after pending → TakesWeight w (take (i + 1) cs) kept later more
takes-next-whole i cs {w} {kept} {after} {later} {pending} {more} c h e l f g t =
    subst (λ x. TakesWeight w x kept later more) (sym (take-item cs i c h e))
    (subst (λ x. TakesWeight w (take i cs ++ c ∷ []) kept x more) (sym f)
    (subst (λ x. TakesWeight w (take i cs ++ c ∷ []) kept after x) (sym g) (takes-whole c l t)))

pub item-∈ : {X : Type 0} (xs : List X) (i : ℕ) (v : X) → i < length xs → v ≡ get_or xs i v → v ∈ xs
item-∈ {X} xs i v h e = subst (λ x. x ∈ xs) (sym e) (∈-get_or xs i v h)

-- charges that a core divides, one at a time
pub splits-failed : {core : List Literal} {cs kept failed : List Charge} (c : Charge) → IsSplit core cs kept failed →
    IsSplit core (cs ++ c ∷ []) kept (failed ++ c ∷ [])
splits-failed {core} {cs} {kept} {failed} c t = record {
  same = λ a. let e = t.same a in let f = charged-append a cs (c ∷ []) in let g = charged-append a failed (c ∷ []) in omega arith;
  below = λ n k. t.below n (fewer-below n cs c k);
  failed_below = λ n k. charge-below n failed c (t.failed_below n (fewer-below n cs c k)) (last-below n cs c k);
  all = λ d i h. ⊎_elim (λ j. ∈-append_left d failed (c ∷ []) (t.all d j h)) (λ e. ∈-append_right d failed (c ∷ []) (inl e)) (last-cases d cs c i);
}

pub splits-kept : {core : List Literal} {cs kept failed : List Charge} (c : Charge) → (opposite c.literal ∈ core → ⊥) → IsSplit core cs kept failed →
    IsSplit core (cs ++ c ∷ []) (kept ++ c ∷ []) failed
splits-kept {core} {cs} {kept} {failed} c n t = record {
  same = λ a. let e = t.same a in let f = charged-append a cs (c ∷ []) in let g = charged-append a kept (c ∷ []) in omega arith;
  below = λ n k. charge-below n kept c (t.below n (fewer-below n cs c k)) (last-below n cs c k);
  failed_below = λ n k. t.failed_below n (fewer-below n cs c k);
  all = λ d i h. ⊎_elim (λ j. t.all d j h) (λ e. absurd (n (subst (λ (x : Charge). opposite x.literal ∈ core) e h))) (last-cases d cs c i);
}

-- assumptions, one at a time
pub assumes-none : (t : ℕ) → AreAssumed t [] []
assumes-none t = record { from = λ l i. absurd i; all = λ c i. absurd i }

pub assumes-one : {t : ℕ} {cs : List Charge} {ls : List Literal} (c : Charge) → AreAssumed t cs ls → AreAssumed t (cs ++ c ∷ []) (ls ++ opposite c.literal ∷ [])
assumes-one {t} {cs} {ls} c r = record {
  from = λ l i.
      ⊎_elim (λ j. let (d, k, e) = r.from l j in (d, ∈-append_left d cs (c ∷ []) k, e))
      (λ e. (c, ∈-append_right c cs (c ∷ []) (inl refl), e)) (last-cases l ls (opposite c.literal) i);
  all = λ d i h.
      ⊎_elim (λ j. ∈-append_left (opposite d.literal) ls (opposite c.literal ∷ []) (r.all d j h))
      (λ e. ∈-append_right (opposite d.literal) ls (opposite c.literal ∷ []) (inl (ap (λ (x : Charge). opposite x.literal) e))) (last-cases d cs c i);
}

pub assumes-not : {t : ℕ} {cs : List Charge} {ls : List Literal} (c : Charge) → c.weight < t → AreAssumed t cs ls → AreAssumed t (cs ++ c ∷ []) ls
assumes-not {t} {cs} {ls} c h r = record {
  from = λ l i. let (d, k, e) = r.from l i in (d, ∈-append_left d cs (c ∷ []) k, e);
  all = λ d i k.
      ⊎_elim (λ j. r.all d j k)
      (λ e. let f = ap (λ (x : Charge). x.weight) e in absurd (omega arith)) (last-cases d cs c i);
}

-- each literal of a list is true, or one is false
pub all-or-one : (a : Assignment) (ls : List Literal) → ((l : Literal) → l ∈ ls → value a l ≡ true) ⊎ ((l : Literal) × (l ∈ ls) × (value a l ≡ false))
all-or-one a [] = inl (λ l i. absurd i)
all-or-one a (x ∷ ls) = go (all-or-one a ls) (value a x) refl
  where
    go : ((l : Literal) → l ∈ ls → value a l ≡ true) ⊎ ((l : Literal) × (l ∈ ls) × (value a l ≡ false)) → (b : Bool) → value a x ≡ b →
        ((l : Literal) → l ∈ (x ∷ ls) → value a l ≡ true) ⊎ ((l : Literal) × (l ∈ (x ∷ ls)) × (value a l ≡ false))
    go r false e = inr (x, inl refl, e)
    go (inl f) true e = inl (λ l i. ⊎_elim (λ g. subst (λ y. value a y ≡ true) (sym g) e) (f l) i)
    go (inr w) true e = inr (w.0, inr w.1, w.2)

-- what satisfies the clauses makes a literal of the core's charges true
pub core-charge : (P : List Clause) (assumed core : List Literal) {t : ℕ} {cs kept failed : List Charge} → IsFailedCore P assumed core →
    AreAssumed t cs assumed → IsSplit core cs kept failed → (a : Assignment) → SatisfiesAll a P →
    (c : Charge) × (c ∈ failed) × (value a c.literal ≡ true)
core-charge P assumed core {t} {cs} {kept} {failed} (sub, none) r s a h =
    ⊎_elim (λ f. absurd (none (a, h, f)))
    (λ (l, i, e).
    let (c, j, g) = r.from l (sub l i) in
    (c, s.all c j (subst (λ x. x ∈ core) g i), turn (value a c.literal) (sym (value-opposite a c.literal) ∙ sym (ap (value a) g) ∙ e)))
    (all-or-one a core)
  where
    turn : (b : Bool) → not b ≡ false → b ≡ true
    turn true e = refl
    turn false e = sym e

pub core-pending : (P : List Clause) {w : ℕ} {failed kept after : List Charge} {pending : List Literal} → TakesWeight w failed kept after pending →
    ((a : Assignment) → SatisfiesAll a P → (c : Charge) × (c ∈ failed) × (value a c.literal ≡ true)) → IsPending P pending
core-pending P t f a h = let (c, i, e) = f a h in (c.literal, t.all c i, e)

-- the weight of a core is taken
pub core-taken : {H : List Clause} {S : List Soft} {n m k w : ℕ} {P : List Clause} {cs kept failed after : List Charge} {core pending : List Literal} →
    Reduces H S n m P cs [] 0 k → IsSplit core cs kept failed → TakesWeight w failed kept after pending → Reduces H S n m P after pending w k
core-taken {H} {S} {n} {m} {k} {w} {P} {cs} {kept} {failed} {after} {core} {pending} r s t = record {
  named = r.named;
  hard_below = r.hard_below;
  soft_below = r.soft_below;
  clauses_below = r.clauses_below;
  charges_below = t.below m (s.failed_below m r.charges_below) (s.below m r.charges_below);
  pending_below = t.pending_below m (s.failed_below m r.charges_below);
  lower = λ a h. let (b, f, p, e) = r.lower a h in let g = s.same b in let i = t.same b in (b, f, p, omega arith);
  upper = λ a h. let (p, e) = r.upper a h in let g = s.same a in let i = t.same a in (p, omega arith);
}
