-- What the solver is given at once, and what a model of that says of all clauses.
use Rattle.std.proofs.Common.{◌≡◌, ◌⊎◌, ℕ, zero, suc, ◌+◌, ◌*◌, ◌/◌, ◌%◌, ◌<◌, ◌≤◌, Bool, true, false, not, nat_eq, Result, Ok, Err, List, [], ◌∷◌, ◌++◌, inl, inr, ⊎_elim, sym, ap, ◌∙◌, subst, refl, length, get_or, set, replicate, map, append-nil, append_assoc, arith, get_or-set_other}
use Rattle.varisat_theory.specs.promises.Membership.{◌∈◌, ◌⊆◌}
use Rattle.varisat_theory.specs.promises.Literals.{Literal, Clause, Assignment, variable_of, literal_of, opposite, value, SatisfiesAll, MakesTrue}
use Rattle.varisat_theory.proofs.clauses.Members.{equal_or_not}
use Rattle.varisat_theory.proofs.clauses.Values.{not_both, same_true, true_or_opposite, variable-opposite, variable-literal}
use Rattle.varisat_theory.proofs.journals.Renaming.{map-∈}
use Rattle.varisat_formula.specs.promises.Values.{assignment_of, literals_from, model_values, with_true, with_all_true}
use Rattle.varisat_formula.proofs.ValueLemmas.{length-model, model-true}
use Rattle.varisat_rules.specs.promises.Stacks.{extended}
use Rattle.varisat_rules.proofs.ExtendLemmas.{extended_length}
use Rattle.varisat_solver.specs.promises.States.{State, join_counted}
use Rattle.varisat_solver.specs.promises.Calls.{count_anew, by_state}
use Rattle.varisat_solver.specs.promises.Additions.{AddsAll, AllAdded, OneRefused, RefusedAtOnce}
use Rattle.varisat_solver.specs.promises.ClauseCalls.{AddsFormula}
use Rattle.varisat_solver.specs.declared.solver.SolverError.{SolverError}
use Rattle.varisat_solver.proofs.calls.Counted.{join-only}
use Rattle.varisat_incremental.specs.Reconstructions.{Reconstruction, HasTaken, KeepsValues}
use Rattle.varisat_incremental.proofs.StackLemmas.{unled-keeps, stays-true}
use Rattle.varisat_client.specs.promises.Pasts.{IsUpToCounted, IsFoundModel}
use Rattle.varisat_client.specs.inside.Clients.{WasGiven, CountsAmong, MadeFewSince}
use Rattle.varisat_client.proofs.Fitting.{added, counts-added, anew}

-- 1. All clauses of a list.

no-error : (e : SolverError) (r : Result (Unit {0}) SolverError) → r ≡ Ok tt → r ≡ Err e → ⊥
no-error e r p q = absurd (let z : Ok tt ≡ Err e = sym p ∙ q in cc)

adds-all : (P : List Clause) (s t : State) (Q : List Clause) (A : List Literal) (n most : ℕ) → AddsAll by_state s P (Ok tt) t → WasGiven s Q A n most →
    WasGiven t (Q ++ P) A n most
adds-all [] s t Q A n most (o, e) f =
    subst (λ (x : State). WasGiven x (Q ++ []) A n most) (sym e) (subst (λ (X : List Clause). WasGiven s X A n most) (sym (append-nil Q)) f)
adds-all (c ∷ P) s t Q A n most (inl (mid, one, rest)) f =
    subst (λ (X : List Clause). WasGiven t X A n most) (append_assoc Q (c ∷ []) P)
    (adds-all P mid t (Q ++ c ∷ []) A n most rest (added s mid Q A n most c c one refl f))
adds-all (c ∷ P) s t Q A n most (inr (e, q, one)) f = absurd (no-error e (Ok tt) refl q)

counts-all : (P : List Clause) (s t : State) (Q : List Clause) (A : List Literal) (n most : ℕ) (known counted : List ℕ) → AddsAll by_state s P (Ok tt) t →
    WasGiven s Q A n most → CountsAmong s known → known ⊆ counted → ((c : Clause) (l : Literal) → c ∈ P → l ∈ c → variable_of l ∈ counted) →
    (more : List ℕ) × CountsAmong t more × (more ⊆ counted)
counts-all [] s t Q A n most known counted (o, e) f k w h = (known, subst (λ (x : State). CountsAmong x known) (sym e) k, w)
counts-all (c ∷ P) s t Q A n most known counted (inl (mid, one, rest)) f k w h =
    counts-all P mid t (Q ++ c ∷ []) A n most (join_counted known (map variable_of c)) counted rest (added s mid Q A n most c c one refl f)
    (counts-added s mid Q A n most known c c one refl f k)
    (λ u i. ⊎_elim (w u) (λ j. let (l, x, q) = map-∈ variable_of u c j in subst (λ v. v ∈ counted) (sym q) (h c l (inl refl) x)) (join-only (map variable_of c) known u i))
    (λ d l i j. h d l (inr i) j)
counts-all (c ∷ P) s t Q A n most known counted (inr (e, q, one)) f k w h = absurd (no-error e (Ok tt) refl q)

pub record GaveAll (t : State) (Q : List Clause) (A : List Literal) (n most : ℕ) (counted : List ℕ) : Type 0 where
  pub fits : WasGiven t Q A n most
  pub known : List ℕ
  pub among : CountsAmong t known
  pub within : known ⊆ counted
  pub since : MadeFewSince t 0

anew-given : (s : State) (Q : List Clause) (A : List Literal) (n most : ℕ) → WasGiven s Q A n most → WasGiven (count_anew s) Q A n most
anew-given s Q A n most f = record {
  valid = f.valid;
  proof = f.proof;
  count = f.count;
  order = f.order;
  in_range = f.in_range;
  same = f.same;
  fewer = f.fewer;
  refuted = f.refuted;
  assumed = f.assumed;
  named = f.named;
  assumed_named = f.assumed_named;
  steps = f.steps;
  limit = f.limit;
}

anew-counts : (s : State) (known : List ℕ) → CountsAmong s known → CountsAmong (count_anew s) known
anew-counts s known k = record { within = k.within; once = k.once; up_to_counted = k.up_to_counted; in_use = k.in_use }

pub gives-all : (P : List Clause) (s t : State) (Q : List Clause) (A : List Literal) (n most : ℕ) (known counted : List ℕ) → AddsFormula s P (Ok tt) t →
    WasGiven s Q A n most → CountsAmong s known → known ⊆ counted → ((c : Clause) (l : Literal) → c ∈ P → l ∈ c → variable_of l ∈ counted) →
    GaveAll t (Q ++ P) A n most counted
gives-all P s t Q A n most known counted (AllAdded v mid all o e) f k w h =
    let (more, among, within) = counts-all P s mid Q A n most known counted all f k w h in
    subst (λ (x : State). GaveAll x (Q ++ P) A n most counted) (sym e) (record {
      fits = anew-given mid (Q ++ P) A n most (adds-all P s mid Q A n most all f);
      known = more;
      among = anew-counts mid more among;
      within = within;
      since = anew (count_anew mid) refl;
    })
gives-all P s t Q A n most known counted (OneRefused v e o all) f k w h = absurd (no-error e (Ok tt) refl o)
gives-all P s t Q A n most known counted (RefusedAtOnce o d) f k w h = absurd (no-error _ (Ok tt) refl o)

-- 2. Literals by values.

value-of : (a : Assignment) (v : ℕ) (b : Bool) → a v ≡ b → value a (literal_of v b) ≡ true
unfolding value
value-of a v true e = let h : (2 * v) % 2 ≡ 0 = omega arith in let k : (2 * v) / 2 ≡ v = omega arith in rw h (rw k e)
value-of a v false e = let h : (2 * v + 1) % 2 ≡ 1 = omega arith in let k : (2 * v + 1) / 2 ≡ v = omega arith in rw h (rw k (ap not e))

listed-from : (v : ℕ) (bs : List Bool) (u : ℕ) → v ≤ u → u < v + length bs → (l : Literal) × (l ∈ literals_from v bs) × (variable_of l ≡ u)
listed-from v [] u h k = absurd (omega (arith, h, k))
listed-from v (b ∷ bs) u h k =
    ⊎_elim
    (λ (e : v ≡ u). (literal_of v b, inl refl, variable-literal v b ∙ e))
    (λ (n : v + 1 ≤ u). let (l, i, e) = listed-from (v + 1) bs u n (omega (arith, k)) in (l, inr i, e))
    (split v u h)
  where
    split : (v u : ℕ) → v ≤ u → (v ≡ u) ⊎ (v + 1 ≤ u)
    split v u h = grind arith

within-from : (v : ℕ) (bs : List Bool) (l : Literal) → l ∈ literals_from v bs → variable_of l < v + length bs
within-from v [] l h = absurd h
within-from v (b ∷ bs) l (inl e) = let q = ap variable_of e ∙ variable-literal v b in omega (arith, q)
within-from v (b ∷ bs) l (inr h) = let q = within-from (v + 1) bs l h in omega (arith, q)

true-from : (a : Assignment) (v : ℕ) (bs : List Bool) → ((k : ℕ) → a (v + k) ≡ get_or bs k false) → MakesTrue a (literals_from v bs)
true-from a v [] h l i = absurd i
true-from a v (b ∷ bs) h l (inl e) =
    subst (λ x. value a x ≡ true) (sym e) (value-of a v b (let q : v ≡ v + 0 = omega arith in ap a q ∙ h 0))
true-from a v (b ∷ bs) h l (inr i) = true-from a (v + 1) bs (λ k. let q : (v + 1) + k ≡ v + suc k = omega arith in ap a q ∙ h (suc k)) l i

-- a variable whose literals are negative is false
set-false : (vs : List Bool) (i : ℕ) → get_or (set vs i false) i false ≡ false
set-false [] i = refl
set-false (v ∷ vs) zero = refl
set-false (v ∷ vs) (suc i) = set-false vs i

copies-false : (n v : ℕ) → get_or (replicate n false) v false ≡ false
copies-false zero v = refl
copies-false (suc n) zero = refl
copies-false (suc n) (suc v) = copies-false n v

negative-sign : (v : ℕ) → nat_eq (literal_of v false % 2) 0 ≡ false
negative-sign v = let h : (2 * v + 1) % 2 ≡ 1 = omega arith in ap (λ k. nat_eq k 0) h

stays-false : (ls : List Literal) (vs : List Bool) (v : ℕ) → ((k : Literal) → k ∈ ls → variable_of k ≡ v → k ≡ literal_of v false) → get_or vs v false ≡ false →
    get_or (with_all_true ls vs) v false ≡ false
stays-false [] vs v h f = f
stays-false (l ∷ ls) vs v h f = stays-false ls (with_true l vs) v (λ k i. h k (inr i))
    (⊎_elim
    (λ e. ap (λ i. get_or (set vs i (nat_eq (l % 2) 0)) v false) e
    ∙ ap (λ b. get_or (set vs v b) v false) (ap (λ k. nat_eq (k % 2) 0) (h l (inl refl) e) ∙ negative-sign v) ∙ set-false vs v)
    (λ n. get_or-set_other vs (l / 2) v (nat_eq (l % 2) 0) false (λ q. n (sym q)) ∙ f)
    (equal_or_not (l / 2) v))

-- 3. A model of what the solver was given, extended to one of all.

pub model-of-all : (P Q : List Clause) (A : List Literal) (known counted : List ℕ) (n : ℕ) (m : List Literal) (r : Reconstruction) → HasTaken P Q r →
    KeepsValues A r.stack → IsFoundModel Q A known m → known ⊆ counted → ((c : Clause) (l : Literal) → c ∈ P → l ∈ c → variable_of l ∈ counted) →
    ((l : Literal) → l ∈ A → variable_of l ∈ counted) → ((u : ℕ) → u ∈ counted → u < n) → ((u : ℕ) → u < n → IsUpToCounted counted u) →
    IsFoundModel P A counted (literals_from 0 (extended r.stack (model_values n m)))
model-of-all P Q A known counted n m r h keeps f within names assumes below up_to = record {
  satisfied = (a, makes, satisfied, assumed);
  each = λ c i. let (l, j, t) = satisfied c i in (l, j, listed l (below (variable_of l) (names c l i j)) t);
  whole = λ c l i j. let b = below (variable_of l) (names c l i j) in
      ⊎_elim
      (λ t. inl (listed l b t))
      (λ t. inr (listed (opposite l) (subst (λ v. v < n) (sym (variable-opposite l)) b) t))
      (true_or_opposite a l);
  assumed_too = λ l i. listed l (below (variable_of l) (assumes l i)) (assumed l i);
  all_listed = λ u (v, i, g). let b = below v i in listed-from 0 ws u (omega arith) (omega (arith, b, g, full));
  up_to_counted = λ l i. let q = within-from 0 ws l i in up_to (variable_of l) (omega (arith, q, full));
  uncounted = λ l i out. same_true a l (literal_of (variable_of l) false) (sym (variable-literal (variable_of l) false)) (makes l i)
      (value-of a (variable_of l) false (falls (variable_of l) out));
}
  where
    vs : List Bool
    vs = model_values n m

    ws : List Bool
    ws = extended r.stack vs

    a : Assignment
    a = assignment_of ws

    size : length vs ≡ n
    size = length-model n m

    full : length ws ≡ n
    full = extended_length r.stack vs ∙ size

    makes : MakesTrue a (literals_from 0 ws)
    makes = true-from a 0 ws (λ k. let q : 0 + k ≡ k = omega arith in ap (λ x. get_or ws x false) q)

    held : (l : Literal) → l ∈ m → value (assignment_of vs) l ≡ true
    held l i =
        let (b, true-b, all, others) = f.satisfied in
        let (v, j, g) = f.up_to_counted l i in
        let low = below v (within v j) in
        model-true n m l (λ k x e. not_both b k (true-b k x) (subst (λ y. value b y ≡ true) e (true-b l i))) i (omega (arith, g, low))

    satisfied : SatisfiesAll a P
    satisfied = h.extends vs (λ c l i j. subst (λ k. variable_of l < k) (sym size) (below (variable_of l) (names c l i j)))
        (λ c i. let (l, j, k) = f.each c i in (l, j, held l k))

    assumed : MakesTrue a A
    assumed l i = stays-true vs ws l (keeps vs l i) (held l (f.assumed_too l i))

    listed : (l : Literal) → variable_of l < n → value a l ≡ true → l ∈ literals_from 0 ws
    listed l b t = let (k, i, e) = listed-from 0 ws (variable_of l) (omega arith) (omega (arith, b, full)) in
        subst (λ x. x ∈ literals_from 0 ws) (same_true a k l e (makes k i) t) i

    falls : (v : ℕ) → (v ∈ counted → ⊥) → get_or ws v false ≡ false
    falls v out =
        unled-keeps r.stack vs v (λ k c i e. let (x, (d, j, o), q) = h.saved (k ∷ c) k i (inl refl) in
        out (subst (λ u. u ∈ counted) (q ∙ e) (names d x j o)))
        ∙ stays-false m (replicate n false) v (λ k i e. f.uncounted k i (λ j. out (within v (subst (λ u. u ∈ known) e j))) ∙ ap (λ u. literal_of u false) e) (copies-false n v)
