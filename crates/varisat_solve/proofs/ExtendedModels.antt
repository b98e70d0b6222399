-- A model of what a formula was made into is extended to one of the formula.
use Rattle.std.proofs.Common.{◌≡◌, ℕ, suc, ◌+◌, ◌*◌, ◌/◌, ◌%◌, ◌^◌, ◌<◌, ◌≤◌, max, List, [], ◌∷◌, map, Bool, true, false, not, refl, sym, ap, ◌∙◌, subst, ◌⊎◌, inl, inr, ⊎_elim, length, get_or, arith, Some, None}
use Rattle.std.proofs.Math.Pow.{pow_mono}
use Rattle.varisat_theory.specs.promises.Membership.{◌∈◌, IsDistinct}
use Rattle.varisat_theory.specs.promises.Literals.{Literal, Clause, Assignment, variable_of, literal_of, value, SatisfiesAll, MakesTrue}
use Rattle.varisat_theory.proofs.bounds.Count.{length-distinct}
use Rattle.varisat_theory.proofs.clauses.Values.{not_both, same_true, variable-literal}
use Rattle.varisat_formula.specs.promises.Formulas.{Formula, variables_of, AreBelow}
use Rattle.varisat_formula.proofs.FormulaBuffers.{below_variables}
use Rattle.varisat_formula.proofs.ValueLemmas.{length-model, model-true}
use Rattle.varisat_formula.specs.promises.Values.{assignment_of, literals_from, model_values}
use Rattle.varisat_rules.specs.promises.Stacks.{extended}
use Rattle.varisat_simplify.specs.promises.Simplified.{IsMadeOf}
use Rattle.varisat_rules.proofs.ExtendLemmas.{extended_length}
use Rattle.varisat_solver.specs.promises.States.{join_counted}
use Rattle.varisat_solver.specs.promises.Models.{IsRising}
use Rattle.varisat.specs.promises.Decided.{IsUpToHighest, IsModel, named_variables, StepsSpent, Conclusion, Decided, Unknown, IsConclusion}
use Rattle.varisat_solver.proofs.calls.Counted.{join-more, join-has, join-only, join-once}
use Rattle.varisat_solve.specs.promises.Extending.{named_count, model_of_all, conclusion_of_all}

pub length-all : (stack : List Clause) (model : List Literal) (n : ℕ) → length (extended stack (model_values n model)) ≡ n
length-all stack model n = extended_length stack (model_values n model) ∙ length-model n model

-- 1. The literals that are true by values.
value-of : (a : Assignment) (v : ℕ) (b : Bool) → a v ≡ b → value a (literal_of v b) ≡ true
unfolding value
value-of a v true e = let h : (2 * v) % 2 ≡ 0 = omega arith in let k : (2 * v) / 2 ≡ v = omega arith in rw h (rw k e)
value-of a v false e = let h : (2 * v + 1) % 2 ≡ 1 = omega arith in let k : (2 * v + 1) / 2 ≡ v = omega arith in rw h (rw k (ap not e))

rising-from : (low v : ℕ) (bs : List Bool) → low ≤ v → IsRising low (literals_from v bs)
rising-from low v [] h = tt
rising-from low v (b ∷ bs) h = (
  subst (λ x. low ≤ x) (sym (variable-literal v b)) h,
  subst (λ x. IsRising (suc x) (literals_from (v + 1) bs)) (sym (variable-literal v b)) (rising-from (suc v) (v + 1) bs (omega arith)),
)

listed-from : (v : ℕ) (bs : List Bool) (u : ℕ) → v ≤ u → u < v + length bs → (l : Literal) × (l ∈ literals_from v bs) × (variable_of l ≡ u)
listed-from v [] u h k = absurd (omega (arith, h, k))
listed-from v (b ∷ bs) u h k =
    ⊎_elim
    (λ (e : v ≡ u). (literal_of v b, inl refl, variable-literal v b ∙ e))
    (λ (n : v + 1 ≤ u). let (l, i, e) = listed-from (v + 1) bs u n (omega (arith, k)) in (l, inr i, e))
    (split v u h)
  where
    split : (v u : ℕ) → v ≤ u → (v ≡ u) ⊎ (v + 1 ≤ u)
    split v u h = grind arith

within-from : (v : ℕ) (bs : List Bool) (l : Literal) → l ∈ literals_from v bs → variable_of l < v + length bs
within-from v [] l h = absurd h
within-from v (b ∷ bs) l (inl e) = let q = ap variable_of e ∙ variable-literal v b in omega (arith, q)
within-from v (b ∷ bs) l (inr h) = let q = within-from (v + 1) bs l h in omega (arith, q)

true-from : (a : Assignment) (v : ℕ) (bs : List Bool) → ((k : ℕ) → a (v + k) ≡ get_or bs k false) → MakesTrue a (literals_from v bs)
true-from a v [] h l i = absurd i
true-from a v (b ∷ bs) h l (inl e) =
    subst (λ x. value a x ≡ true) (sym e) (value-of a v b (let q : v ≡ v + 0 = omega arith in ap a q ∙ h 0))
true-from a v (b ∷ bs) h l (inr i) = true-from a (v + 1) bs (λ k. let q : (v + 1) + k ≡ v + suc k = omega arith in ap a q ∙ h (suc k)) l i

-- 2. The variables up to the highest.
over-max : (u m n : ℕ) → u < max m n → (u < m) ⊎ (u < n)
over-max u m n h = grind arith

highest-in : (u : ℕ) (c : Clause) → u < variables_of c → (l : Literal) × (l ∈ c) × (u ≤ variable_of l)
highest-in u [] h = absurd (omega (arith, h))
highest-in u (l ∷ c) h =
    ⊎_elim (λ k. (l, inl refl, omega (arith, k))) (λ k. let (m, i, e) = highest-in u c k in (m, inr i, e)) (over-max u (l / 2 + 1) (variables_of c) h)

in-highest : (c : Clause) (l : Literal) → l ∈ c → variable_of l < variables_of c
in-highest [] l h = absurd h
in-highest (m ∷ c) l (inl e) = let q = ap variable_of e in omega (arith, q)
in-highest (m ∷ c) l (inr h) = let q = in-highest c l h in omega (arith, q)

up-to : (u : ℕ) (P : List Clause) → u < named_count P → IsUpToHighest P u
up-to u [] h = absurd (omega (arith, h))
up-to u (c ∷ P) h =
    ⊎_elim (λ k. let (l, i, e) = highest-in u c k in (c, l, inl refl, i, e)) (λ k. let (d, l, j, i, e) = up-to u P k in (d, l, inr j, i, e))
    (over-max u (variables_of c) (named_count P) h)

pub named-below : (P : List Clause) (c : Clause) (l : Literal) → c ∈ P → l ∈ c → variable_of l < named_count P
named-below [] c l h i = absurd h
named-below (d ∷ P) c l (inl e) i = let q = in-highest d l (subst (λ x. l ∈ x) e i) in omega (arith, q)
named-below (d ∷ P) c l (inr h) i = let q = named-below P c l h i in omega (arith, q)

are-below : (n : ℕ) (P : List Clause) → named_count P ≤ n → AreBelow n P
are-below n [] h = tt
are-below n (c ∷ P) h = (below_variables n c (omega (arith, h)), are-below n P (omega (arith, h)))

-- 3. The model.
pub model-of-all : (f g : Formula) (stack : List Clause) (lines : _) (model : List Literal) → IsMadeOf f g stack lines → IsModel g.clauses model →
    IsModel f.clauses (model_of_all stack model (named_count f.clauses))
model-of-all f g stack lines model made is =
    let n = named_count f.clauses in
    let vs = model_values n model in
    let size = length-model n model in
    let full = length-all stack model n in
    let (a, agrees, satisfies) = is.satisfied in
    let low : (l : Literal) → l ∈ model → l / 2 < n =
    λ l h. let (c, m, i, j, e) = is.up_to_highest l h in let (d, k, o) = made.named c m i j in
    let q = named-below f.clauses d m k o in omega (arith, e, q) in
    let all : SatisfiesAll (assignment_of vs) g.clauses = λ c i. let (l, j, t) = satisfies c i in
    let (k, h, e) = is.all_listed (variable_of l) (c, l, i, j, omega arith) in
    let listed : l ∈ model = subst (λ x. x ∈ model) (same_true a k l e (agrees k h) t) h in (
      l,
      j,
      model-true n model l (λ m x o. not_both a m (agrees m x) (subst (λ y. value a y ≡ true) o t)) listed (low l listed),
    ) in
    record {
      rising = rising-from 0 0 (extended stack vs) (omega arith);
      all_listed = λ u (c, l, i, j, e). let q = named-below f.clauses c l i j in listed-from 0 (extended stack vs) u (omega arith) (omega (arith, e, q, full));
      up_to_highest = λ l h. let q = within-from 0 (extended stack vs) l h in up-to (variable_of l) f.clauses (omega (arith, q, full));
      satisfied = (
        assignment_of (extended stack vs),
        true-from (assignment_of (extended stack vs)) 0 (extended stack vs)
            (λ k. let q : 0 + k ≡ k = omega arith in ap (λ x. get_or (extended stack vs) x false) q),
        made.extends vs (are-below (length vs) f.clauses (omega (arith, size))) all,
      );
    }

-- 4. How many variables are named.
mapped : (i : ℕ) (c : Clause) → i ∈ map variable_of c → (l : Literal) × (l ∈ c) × (i ≡ variable_of l)
mapped i [] h = absurd h
mapped i (l ∷ c) (inl e) = (l, inl refl, e)
mapped i (l ∷ c) (inr h) = let (m, j, e) = mapped i c h in (m, inr j, e)

maps : (l : Literal) (c : Clause) → l ∈ c → variable_of l ∈ map variable_of c
maps l [] h = absurd h
maps l (m ∷ c) (inl e) = inl (ap variable_of e)
maps l (m ∷ c) (inr h) = inr (maps l c h)

named-once : (known : List ℕ) (P : List Clause) → IsDistinct known → IsDistinct (named_variables known P)
named-once known [] d = d
named-once known (c ∷ P) d = named-once (join_counted known (map variable_of c)) P (join-once (map variable_of c) known d)

named-more : (known : List ℕ) (P : List Clause) (i : ℕ) → i ∈ known → i ∈ named_variables known P
named-more known [] i h = h
named-more known (c ∷ P) i h = named-more (join_counted known (map variable_of c)) P i (join-more (map variable_of c) known i h)

named-only : (known : List ℕ) (P : List Clause) (i : ℕ) → i ∈ named_variables known P →
    (i ∈ known) ⊎ ((c : Clause) × (l : Literal) × (c ∈ P) × (l ∈ c) × (i ≡ variable_of l))
named-only known [] i h = inl h
named-only known (c ∷ P) i h =
    ⊎_elim
    (λ k. ⊎_elim inl (λ m. let (l, j, e) = mapped i c m in inr (c, l, inl refl, j, e)) (join-only (map variable_of c) known i k))
    (λ (d, l, k, j, e). inr (d, l, inr k, j, e))
    (named-only (join_counted known (map variable_of c)) P i h)

named-has : (known : List ℕ) (P : List Clause) (c : Clause) (l : Literal) → c ∈ P → l ∈ c → variable_of l ∈ named_variables known P
named-has known [] c l h i = absurd h
named-has known (d ∷ P) c l (inl e) i =
    named-more (join_counted known (map variable_of d)) P (variable_of l)
    (join-has (map variable_of d) known (variable_of l) (maps l d (subst (λ x. l ∈ x) e i)))
named-has known (d ∷ P) c l (inr h) i = named-has (join_counted known (map variable_of d)) P c l h i

fewer-named : (f g : Formula) (stack : List Clause) (lines : _) → IsMadeOf f g stack lines →
    length (named_variables [] g.clauses) ≤ length (named_variables [] f.clauses)
fewer-named f g stack lines made =
    length-distinct (named_variables [] g.clauses) (named_variables [] f.clauses) (named-once [] g.clauses tt)
    (λ i h. ⊎_elim (λ z. absurd z)
    (λ (c, l, k, j, e). let (d, m, o) = made.named c l k j in subst (λ x. x ∈ named_variables [] f.clauses) (sym e) (named-has [] f.clauses d l m o))
    (named-only [] g.clauses i h))

-- 5. The conclusion.
pub concludes-all : (max_steps : ℕ) (f g : Formula) (stack : List Clause) (lines : _) (c : Conclusion) → IsMadeOf f g stack lines →
    IsConclusion max_steps g.clauses c → IsConclusion max_steps f.clauses (conclusion_of_all stack (named_count f.clauses) c)
concludes-all max_steps f g stack lines (Decided None) made h = λ (a, s). h (a, made.keeps a s)
concludes-all max_steps f g stack lines (Decided (Some model)) made h = model-of-all f g stack lines model made h
concludes-all max_steps f g stack lines (Unknown StepsSpent) made h =
    let fewer = fewer-named f g stack lines made in
    let power : 2 ^ (2 * length (named_variables [] g.clauses) + 3) ≤ 2 ^ (2 * length (named_variables [] f.clauses) + 3) =
    pow_mono (omega (arith, fewer)) in
    omega (arith, h, power)

pub none-of-all : (stack : List Clause) (n : ℕ) (c : Conclusion) → conclusion_of_all stack n c ≡ Decided None → c ≡ Decided None
none-of-all stack n (Decided None) e = refl
none-of-all stack n (Decided (Some model)) e = absurd cc
none-of-all stack n (Unknown reason) e = absurd cc
