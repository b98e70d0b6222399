-- The rounds of propagation over a list of known literals.
use Rattle.std.proofs.Common.{◌≡◌, ◌≢◌, ℕ, ◌+◌, ◌<◌, ◌≤◌, List, [], ◌∷◌, ◌++◌, take, length, get_or, ◌⊎◌, inl, inr, ⊎_elim, sym, ap, ◌∙◌, subst, refl, arith, length-append}
use Rattle.varisat_theory.specs.promises.Membership.{◌∈◌, ◌⊆◌}
use Rattle.varisat_theory.specs.promises.Literals.{Literal, Clause, opposite}
use Rattle.varisat_theory.specs.promises.Propagation.{Conflicts, FalseClause, Propagate, IsFalse, LeavesOnly, HasClash, IsComplete}
use Rattle.varisat_theory.proofs.clauses.Members.{∈-or_not, ∈-append_cases, ∈-append_left, ∈-append_right}
use Rattle.varisat_theory.proofs.clauses.Values.{opposite_twice}
use Rattle.varisat_theory.proofs.clauses.ConflictForms.{never_its_own}
use Rattle.varisat_theory.proofs.clauses.Growth.{conflicts_known}
use Rattle.varisat_theory.proofs.clauses.Places.{∈-take_more, ∈-take_all}
use Rattle.varisat_theory.proofs.clauses.Saturated.{saturated_no_conflict}

-- what propagation over P from the base comes to
pub record Reaches (P : List Clause) (base known : List Literal) : Type 0 where
  pub base_known : base ⊆ known
  pub no_clash : HasClash known → ⊥
  pub conflict : Conflicts P known → Conflicts P base

-- 0 for what holds, and 1 else
flag : {X : Type 0} → (X ⊎ (X → ⊥)) → ℕ
flag (inl x) = 0
flag (inr n) = 1

flag_less : {X Y : Type 0} (d : X ⊎ (X → ⊥)) (e : Y ⊎ (Y → ⊥)) → (X → Y) → flag e ≤ flag d
unfolding flag
flag_less (inl x) (inl y) f = omega arith
flag_less (inl x) (inr n) f = absurd (n (f x))
flag_less (inr m) (inl y) f = omega arith
flag_less (inr m) (inr n) f = omega arith

flag_fewer : {X Y : Type 0} (d : X ⊎ (X → ⊥)) (e : Y ⊎ (Y → ⊥)) → (X → ⊥) → Y → flag e < flag d
unfolding flag
flag_fewer (inl x) e n y = absurd (n x)
flag_fewer (inr m) (inl y) n z = omega arith
flag_fewer (inr m) (inr o) n z = absurd (o z)

-- how many literals of the clause are not known
pub unknown_in : Clause → List Literal → ℕ
unknown_in [] known = 0
unknown_in (l ∷ c) known = flag (∈-or_not l known) + unknown_in c known

-- and of all clauses
pub unknown : List Clause → List Literal → ℕ
unknown [] known = 0
unknown (c ∷ P) known = unknown_in c known + unknown P known

unknown_in_less : (c : Clause) (known more : List Literal) → known ⊆ more → unknown_in c more ≤ unknown_in c known
unfolding unknown_in
unknown_in_less [] known more s = omega arith
unknown_in_less (l ∷ c) known more s =
    let a = flag_less (∈-or_not l known) (∈-or_not l more) (s l) in
    let b = unknown_in_less c known more s in
    omega (arith, a, b)

unknown_in_fewer : (c : Clause) (known more : List Literal) (l : Literal) → known ⊆ more → l ∈ c → (l ∈ known → ⊥) → l ∈ more →
    unknown_in c more < unknown_in c known
unfolding unknown_in
unknown_in_fewer [] known more l s h n m = absurd h
unknown_in_fewer (x ∷ c) known more l s (inl e) n m =
    let a = flag_fewer (∈-or_not x known) (∈-or_not x more) (λ k. n (subst (λ y. y ∈ known) (sym e) k)) (subst (λ y. y ∈ more) e m) in
    let b = unknown_in_less c known more s in
    omega (arith, a, b)
unknown_in_fewer (x ∷ c) known more l s (inr h) n m =
    let a = flag_less (∈-or_not x known) (∈-or_not x more) (s x) in
    let b = unknown_in_fewer c known more l s h n m in
    omega (arith, a, b)

pub unknown_less : (P : List Clause) (known more : List Literal) → known ⊆ more → unknown P more ≤ unknown P known
unfolding unknown
unknown_less [] known more s = omega arith
unknown_less (c ∷ P) known more s =
    let a = unknown_in_less c known more s in
    let b = unknown_less P known more s in
    omega (arith, a, b)

pub unknown_fewer : (P : List Clause) (known more : List Literal) (c : Clause) (l : Literal) → known ⊆ more → c ∈ P → l ∈ c → (l ∈ known → ⊥) →
    l ∈ more → unknown P more < unknown P known
unfolding unknown
unknown_fewer [] known more c l s h i n m = absurd h
unknown_fewer (d ∷ P) known more c l s (inl e) i n m =
    let a = unknown_in_fewer d known more l s (subst (λ y. l ∈ y) e i) n m in
    let b = unknown_less P known more s in
    omega (arith, a, b)
unknown_fewer (d ∷ P) known more c l s (inr h) i n m =
    let a = unknown_in_less d known more s in
    let b = unknown_fewer P known more c l s h i n m in
    omega (arith, a, b)

-- A round over the first clauses: nothing was found as long as no literal joined.
pub record Round (P : List Clause) (base first known : List Literal) (passed : List Clause) : Type 0 where
  pub reaches : Reaches P base known
  pub longer : length first ≤ length known
  pub not_more : unknown P known ≤ unknown P first
  pub fewer : length first < length known → unknown P known < unknown P first
  pub quiet : length known ≡ length first → IsComplete passed known

pub reaches_start : (P : List Clause) (base known : List Literal) → known ≡ base → (HasClash base → ⊥) → Reaches P base known
reaches_start P base known e n =
    subst (Reaches P base) (sym e) record { base_known = λ x h. h; no_clash = n; conflict = λ k. k }

reaches_step : (P : List Clause) (base known : List Literal) (c : Clause) (l : Literal) → Reaches P base known → c ∈ P → l ∈ c →
    (opposite l ∈ known → ⊥) → LeavesOnly known c l → Reaches P base (known ++ (l ∷ []))
reaches_step P base known c l r h i o u = record {
  base_known = λ x j. ∈-append_left x known (l ∷ []) (r.base_known x j);
  no_clash = λ w. ⊎_elim (λ a. ⊎_elim (λ b. r.no_clash (w.0, a, b))
      (λ b. ⊎_elim (λ e. o (subst (λ y. y ∈ known) (sym (opposite_twice w.0) ∙ ap opposite e) a)) (λ z. z) b)
      (∈-append_cases (opposite w.0) known (l ∷ []) w.2))
      (λ a. ⊎_elim (λ e. ⊎_elim (λ b. o (subst (λ y. opposite y ∈ known) e b)) (λ b. ⊎_elim (λ f. never_its_own w.0 (f ∙ sym e)) (λ z. z) b)
      (∈-append_cases (opposite w.0) known (l ∷ []) w.2)) (λ z. z) a) (∈-append_cases w.0 known (l ∷ []) w.1);
  conflict = λ v. r.conflict (Propagate c l h i u
      (conflicts_known P (known ++ (l ∷ [])) (l ∷ known)
      (λ x j. ⊎_elim (λ a. inr a) (λ a. ⊎_elim inl (λ z. absurd z) a) (∈-append_cases x known (l ∷ []) j)) v));
}

pub reaches_false : (P : List Clause) (base known slice : List Literal) (c : Clause) → slice ≡ known → Reaches P base known → c ∈ P →
    IsFalse slice c → Conflicts P base
reaches_false P base known slice c e r h f = r.conflict (FalseClause c h (λ m i. subst (λ k. opposite m ∈ k) e (f m i)))

pub reaches_end : (P : List Clause) (base known : List Literal) → Reaches P base known → IsComplete P known → Conflicts P base → ⊥
reaches_end P base known r q v = saturated_no_conflict P base known record { no_clash = r.no_clash; complete = q } r.base_known v

pub round_start : (P : List Clause) (base known : List Literal) → Reaches P base known → Round P base known known []
round_start P base known r = record {
  reaches = r;
  longer = omega arith;
  not_more = omega arith;
  fewer = λ h. absurd (omega arith);
  quiet = λ e. record { no_false = λ f. absurd f.1; closed = λ c l h i u. absurd h };
}

-- the clause is not false, and leaves no literal that is not known
pub record IsQuiet (known : List Literal) (c : Clause) : Type 0 where
  pub not_false : IsFalse known c → ⊥
  pub closed : (l : Literal) → l ∈ c → LeavesOnly known c l → l ∈ known

complete_more : (known : List Literal) (L : List Clause) (i : ℕ) (x : Clause) → get_or L i [] ≡ x → IsComplete (take i L) known → IsQuiet known x →
    IsComplete (take (i + 1) L) known
complete_more known L i x e w q = record {
  no_false = λ f. ⊎_elim (λ h. w.no_false (f.0, h, f.2)) (λ g. q.not_false (subst (IsFalse known) (g ∙ e) f.2)) (∈-take_more f.0 L i [] f.1);
  closed = λ c l h k u. ⊎_elim (λ m. w.closed c l m k u)
      (λ g. q.closed l (subst (λ y. l ∈ y) (g ∙ e) k) (subst (λ y. LeavesOnly known y l) (g ∙ e) u)) (∈-take_more c L i [] h);
}

-- a clause that is passed
pub round_pass : (P : List Clause) (base first known known' : List Literal) (i : ℕ) (x : Clause) → get_or P i [] ≡ x → known' ≡ known →
    Round P base first known (take i P) → IsQuiet known x → Round P base first known' (take (i + 1) P)
round_pass P base first known known' i x e f r q =
    subst (λ (k : List Literal). Round P base first k (take (i + 1) P)) (sym f) record {
      reaches = r.reaches;
      longer = r.longer;
      not_more = r.not_more;
      fewer = r.fewer;
      quiet = λ g. complete_more known P i x e (r.quiet g) q;
    }

-- a clause that leaves a literal that was not known
pub round_write : (P : List Clause) (base first known known' : List Literal) (passed passed' : List Clause) (c : Clause) (l : Literal) → c ∈ P →
    (l ∈ known → ⊥) → known' ≡ known ++ (l ∷ []) → Round P base first known passed → (l ∈ c) × (opposite l ∈ known → ⊥) × LeavesOnly known c l →
    Round P base first known' passed'
round_write P base first known known' passed passed' c l h n f r w =
    let a = unknown_fewer P known (known ++ (l ∷ [])) c l (λ x i. ∈-append_left x known (l ∷ []) i) h w.0 n (∈-append_right l known (l ∷ []) (inl refl)) in
    let b = r.not_more in
    let d = r.longer in
    let e = length-append known (l ∷ []) in
    subst (λ (k : List Literal). Round P base first k passed') (sym f) record {
      reaches = reaches_step P base known c l r.reaches h w.0 w.1 w.2;
      longer = omega (arith, d, e);
      not_more = omega (arith, a, b);
      fewer = λ g. omega (arith, a, b);
      quiet = λ g. absurd (omega (arith, g, d, e));
    }

pub quiet_known : (known slice : List Literal) (c : Clause) (l : Literal) → slice ≡ known → l ∈ known → (l ∈ c) × (opposite l ∈ slice → ⊥)
    × LeavesOnly slice c l → IsQuiet known c
quiet_known known slice c l e k w = subst (λ (s : List Literal). IsQuiet s c) e record {
  not_false = λ f. w.1 (f l w.0);
  closed = λ x h u. subst (λ y. y ∈ slice) (⊎_elim (λ q. q) (λ o. absurd (w.1 o)) (u l w.0)) (subst (λ (s : List Literal). l ∈ s) (sym e) k);
}

pub quiet_open : (known slice : List Literal) (c : Clause) → slice ≡ known →
    ((m n : Literal) × (m ∈ c) × (n ∈ c) × (m ≢ n) × (opposite m ∈ slice → ⊥) × (opposite n ∈ slice → ⊥)) → IsQuiet known c
quiet_open known slice c e (m, n, i, j, d, a, b) = subst (λ (s : List Literal). IsQuiet s c) e record {
  not_false = λ f. a (f m i);
  closed = λ l h u. absurd (⊎_elim (λ q. ⊎_elim (λ f. d (q ∙ sym f)) b (u n j)) a (u m i));
}

-- what the status says, of the list in place of the slice
pub leaves_along : (known slice : List Literal) (c : Clause) (l : Literal) → slice ≡ known → (l ∈ c) × (opposite l ∈ slice → ⊥)
    × LeavesOnly slice c l → (l ∈ c) × (opposite l ∈ known → ⊥) × LeavesOnly known c l
leaves_along known slice c l e w = subst (λ (s : List Literal). (l ∈ c) × (opposite l ∈ s → ⊥) × LeavesOnly s c l) e w

pub all_complete : (P : List Clause) (known : List Literal) (i : ℕ) → length P ≤ i → IsComplete (take i P) known → IsComplete P known
all_complete P known i h w = record {
  no_false = λ f. w.no_false (f.0, ∈-take_all f.0 P i h f.1, f.2);
  closed = λ c l m k u. w.closed c l (∈-take_all c P i h m) k u;
}
