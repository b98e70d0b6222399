-- How many levels literals have, as flags count them.
use Rattle.std.proofs.Common.{◌≡◌, ℕ, suc, ◌+◌, ◌<◌, ◌||◌, Bool, true, false, cond, nat_eq, List, [], ◌∷◌, ◌++◌, length, map, get_or, set, inl, inr, ⊎_elim, refl, sym, ap, subst, ◌∙◌, arith, get_or-set_same, get_or-set_other}
use mir.Val.{bool_byte}
use Rattle.std.specs.Cmp.{IsEquivalence}
use Rattle.std.specs.Set.{is_member, unique_keys, distinct_count}
use Rattle.std.proofs.lemmas.Map.Made.{length-from_keys, IsDistinct-from_count}
use Rattle.std.proofs.lemmas.Bool.{cases_Bool, eq-eqb}
use Rattle.varisat_theory.specs.promises.Membership.{◌∈◌}
use Rattle.varisat_theory.specs.promises.Literals.{Literal, variable_of}
use Rattle.varisat_theory.proofs.clauses.Members.{equal_or_not}
use Rattle.varisat_clause.proofs.StoredClauses.{is-other}
use Rattle.varisat_prop.specs.declared.prop.graph.ImplNode.{ImplNode}
use Rattle.varisat_prop.specs.View.{no_node}
use Rattle.varisat_analysis.specs.Bumps.{level_in}
use Rattle.varisat_analysis.proofs.BumpedVariables.{all-false, item-below}

-- a truth value as a number
pub one-at-most : (b : Bool) → bool_byte b < 2
one-at-most true = omega arith
one-at-most false = omega arith

or-none : (b : Bool) → (b || false) ≡ b
or-none true = refl
or-none false = refl

or-true : (b : Bool) → (b || true) ≡ true
or-true true = refl
or-true false = refl

or-swap : (b c : Bool) → (b || c) ≡ (c || b)
or-swap true c = sym (or-true c)
or-swap false c = sym (or-none c)

or-more : (a b c : Bool) → (a || (b || c)) ≡ ((a || b) || c)
or-more true b c = refl
or-more false b c = refl

number-laws : IsEquivalence nat_eq
number-laws = record {
  refl = λ x. eq-eqb x x refl;
  symm = λ x y. ⊎_elim (λ e. eq-eqb x y e ∙ sym (eq-eqb y x (sym e))) (λ n. is-other x y n ∙ sym (is-other y x (λ e. n (sym e)))) (equal_or_not x y);
  congr = λ x y z h. ⊎_elim (λ (e : x ≡ y). ap (λ (u : ℕ). nat_eq u z) e) (λ n. let g : true ≡ false = sym h ∙ is-other x y n in absurd cc) (equal_or_not x y);
}

-- the level of a literal, as it is read
pub level-is : (nodes : List ImplNode) (l v n : ℕ) → v ≡ variable_of l → n ≡ (get_or nodes v no_node).level → n ≡ level_in nodes l
level-is nodes l v n q r = r ∙ ap (λ (x : ℕ). (get_or nodes x no_node).level) q

-- its variable has a node
pub has-node : (nodes : List ImplNode) (lits : List Literal) {k l v : ℕ} → ((m : Literal) → m ∈ lits → variable_of m < length nodes) →
    k < length lits → l ≡ get_or lits k l → v ≡ variable_of l → v < length nodes
has-node nodes lits {k} {l} {v} known h e f = item-below variable_of lits k l v (length nodes) (length nodes) known refl h e f

-- that level has a flag
pub level-flagged : (nodes : List ImplNode) (lits : List Literal) (old new : List Bool) {k l v n : ℕ} →
    ((m : Literal) → m ∈ lits → level_in nodes m < length old) → length new ≡ length old → k < length lits → l ≡ get_or lits k l →
    v ≡ variable_of l → n ≡ (get_or nodes v no_node).level → n < length new
level-flagged nodes lits old new {k} {l} {v} {n} room q h e f r =
    item-below (level_in nodes) lits k l n (length old) (length new) room q h e (level-is nodes l v n f r)

-- Literals have these levels: just those have a flag, and there are as many as `count`.
pub record Counts (level : Literal → ℕ) (lits : List Literal) (flags : List Bool) (count : ℕ) : Type 0 where
  pub levels : List ℕ
  pub count_is : length levels ≡ count
  pub distinct : distinct_count nat_eq levels ≡ count
  pub flagged : (n : ℕ) → get_or flags n false ≡ is_member nat_eq levels n
  pub same : (n : ℕ) → is_member nat_eq levels n ≡ is_member nat_eq (map level lits) n

module _ (level : Literal → ℕ) where
  member-snoc : (ls : List Literal) (l : Literal) (n : ℕ) → is_member nat_eq
      (map level (ls ++ l ∷ [])) n ≡ (is_member nat_eq (map level ls) n || nat_eq n (level l))
  member-snoc [] l n = or-none (nat_eq n (level l))
  member-snoc (x ∷ ls) l n = ap (λ b. nat_eq n (level x) || b) (member-snoc ls l n)
      ∙ or-more (nat_eq n (level x)) (is_member nat_eq (map level ls) n) (nat_eq n (level l))

  member-found : (ls : List Literal) (n : ℕ) → is_member nat_eq (map level ls) n ≡ true → (l : Literal) × (l ∈ ls) × (level l ≡ n)
  member-found [] n h = absurd cc
  member-found (x ∷ ls) n h =
      ⊎_elim
      (λ e. (x, inl refl, sym e))
      (λ o. let r : is_member nat_eq (map level ls) n ≡ true = sym (ap (λ b. b || is_member nat_eq (map level ls) n) (is-other n (level x) o)) ∙ h in
      let (l, i, e) = member-found ls n r in (l, inr i, e))
      (equal_or_not n (level x))

  pub counts-none : (flags : List Bool) → ((n : ℕ) → get_or flags n false ≡ false) → Counts level [] flags 0
  counts-none flags clear = record { levels = []; count_is = refl; distinct = refl; flagged = clear; same = λ n. refl }

  -- the level was counted already
  pub counts-old : (ls : List Literal) (l : Literal) (flags : List Bool) (count : ℕ) → Counts level ls flags count →
      get_or flags (level l) false ≡ true → Counts level (ls ++ l ∷ []) flags count
  counts-old ls l flags count d h = record {
    levels = d.levels;
    count_is = d.count_is;
    distinct = d.distinct;
    flagged = d.flagged;
    same = λ n. ⊎_elim
        (λ e. let here : is_member nat_eq d.levels n ≡ true = sym (d.flagged n) ∙ ap (λ (u : ℕ). get_or flags u false) e ∙ h in
        here ∙ sym (member-snoc ls l n ∙ ap (λ b. is_member nat_eq (map level ls) n || b) (eq-eqb n (level l) e)
        ∙ or-true (is_member nat_eq (map level ls) n)))
        (λ o. d.same n ∙ sym (member-snoc ls l n ∙ ap (λ b. is_member nat_eq (map level ls) n || b) (is-other n (level l) o)
        ∙ or-none (is_member nat_eq (map level ls) n)))
        (equal_or_not n (level l));
  }

  -- it was not
  pub counts-new : (ls : List Literal) (l : Literal) (flags : List Bool) (count : ℕ) → Counts level ls flags count → level l < length flags →
      get_or flags (level l) false ≡ false → Counts level (ls ++ l ∷ []) (set flags (level l) true) (count + 1)
  counts-new ls l flags count d k h = record {
    levels = level l ∷ d.levels;
    count_is = let e = d.count_is in omega (arith, e);
    distinct =
        let fresh : is_member nat_eq d.levels (level l) ≡ false = sym (d.flagged (level l)) ∙ h in
        let longer : distinct_count nat_eq (level l ∷ d.levels) ≡ suc (distinct_count nat_eq d.levels) =
        ap (λ b. length (cond b (unique_keys nat_eq d.levels) (level l ∷ unique_keys nat_eq d.levels))) fresh in
        let e = d.distinct in
        longer ∙ omega (arith, e);
    flagged = λ n. ⊎_elim
        (λ e. ap (λ (u : ℕ). get_or (set flags (level l) true) u false) e ∙ get_or-set_same flags (level l) true false k
        ∙ sym (ap (λ b. b || is_member nat_eq d.levels n) (eq-eqb n (level l) e)))
        (λ o. get_or-set_other flags (level l) n true false o ∙ d.flagged n ∙ sym (ap (λ b. b || is_member nat_eq d.levels n) (is-other n (level l) o)))
        (equal_or_not n (level l));
    same = λ n. or-swap (nat_eq n (level l)) (is_member nat_eq d.levels n) ∙ ap (λ b. b || nat_eq n (level l)) (d.same n) ∙ sym (member-snoc ls l n);
  }

  -- the level of one literal more has a flag from then on, and counts where it had none
  pub counts-marked : (ls : List Literal) (l : Literal) (flags : List Bool) (count more : ℕ) → Counts level ls flags count →
      level l < length flags → (get_or flags (level l) false ≡ true → more ≡ 0) → (get_or flags (level l) false ≡ false → more ≡ 1) →
      Counts level (ls ++ l ∷ []) (set flags (level l) true) (count + more)
  counts-marked ls l flags count more d k old new =
      ⊎_elim
      (λ h. let e = old h in
      let c = counts-old ls l flags count d h in
      record {
        levels = c.levels;
        count_is = let q = c.count_is in omega (arith, q, e);
        distinct = let q = c.distinct in omega (arith, q, e);
        flagged = λ n. ⊎_elim
            (λ s. ap (λ (u : ℕ). get_or (set flags (level l) true) u false) s ∙ get_or-set_same flags (level l) true false k ∙ sym h
            ∙ sym (ap (λ (u : ℕ). get_or flags u false) s) ∙ c.flagged n)
            (λ o. get_or-set_other flags (level l) n true false o ∙ c.flagged n)
            (equal_or_not n (level l));
        same = c.same;
      })
      (λ h. subst (λ m. Counts level (ls ++ l ∷ []) (set flags (level l) true) (count + m)) (sym (new h)) (counts-new ls l flags count d k h))
      (cases_Bool (get_or flags (level l) false))

  pub counts-all : (ls : List Literal) (flags : List Bool) (count : ℕ) → Counts level ls flags count → count ≡ distinct_count nat_eq (map level ls)
  counts-all ls flags count d =
      sym d.count_is ∙ length-from_keys number-laws d.levels (map level ls) (IsDistinct-from_count number-laws d.levels (d.distinct ∙ sym d.count_is)) d.same

  pub counts-only : (ls : List Literal) (flags : List Bool) (count n : ℕ) → Counts level ls flags count → get_or flags n false ≡ true →
      (l : Literal) × (l ∈ ls) × (level l ≡ n)
  counts-only ls flags count n d h = member-found ls n (sym (d.same n) ∙ sym (d.flagged n) ∙ h)

  -- all flags that were set are taken away
  pub counts-clear : (ls : List Literal) (old mid new : List Bool) → length new ≡ length old → ((n : ℕ) → get_or old n false ≡ false) →
      ((n : ℕ) → get_or mid n false ≡ true → (l : Literal) × (l ∈ ls) × (level l ≡ n)) →
      ((l : Literal) → l ∈ ls → get_or new (level l) false ≡ false) → ((n : ℕ) → get_or new n false ≡ true → get_or mid n false ≡ true) → new ≡ old
  counts-clear ls old mid new long clear only gone fewer = all-false new (length old) long none ∙ sym (all-false old (length old) refl clear)
    where
      none : (n : ℕ) → get_or new n false ≡ false
      none n =
          ⊎_elim
          (λ e. let (l, i, q) = only n (fewer n e) in ap (λ (u : ℕ). get_or new u false) (sym q) ∙ gone l i)
          (λ e. e)
          (cases_Bool (get_or new n false))
