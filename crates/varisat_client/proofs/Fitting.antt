-- A state of the solver goes on fitting what was given, call by call.
use Rattle.std.proofs.Common.{◌≡◌, ◌⊎◌, ℕ, ◌+◌, ◌-◌, ◌*◌, ◌^◌, ◌<◌, ◌≤◌, max, Bool, true, length, Result, List, [], ◌∷◌, ◌++◌, inl, inr, ⊎_elim, sym, ap, ◌∙◌, subst, refl, Ok, Err, Option, Some, None, unwrap_or, map, arith}
use Rattle.std.proofs.lemmas.Bool.{cases_lt}
use Rattle.std.proofs.lemmas.Nat.{mul-le}
use Rattle.std.proofs.Math.Pow.{pow_mono}
use Rattle.varisat_theory.specs.promises.Membership.{◌∈◌, ◌⊆◌, IsDistinct}
use Rattle.varisat_theory.specs.promises.Literals.{Literal, Clause, variable_of, opposite, value, SatisfiesAll, MakesTrue, IsSatisfiable, IsFailedCore}
use Rattle.varisat_theory.specs.promises.CallBounds.{AreFew}
use Rattle.varisat_theory.proofs.bounds.CallBounds.{few_none}
use Rattle.varisat_theory.proofs.bounds.Count.{length-distinct}
use Rattle.varisat_theory.proofs.clauses.Members.{∈-append_left, ∈-append_right, ∈-append_cases}
use Rattle.varisat_theory.proofs.journals.Renaming.{∈-map, map-∈}
use Rattle.varisat_theory.proofs.clauses.Values.{same_true, true_or_opposite, variable-opposite}
use Rattle.varisat_literals.specs.promises.Numbers.{variable_limit}
use Rattle.varisat_solver.specs.promises.States.{State, join_counted, Verdict, Unsat, IsRight}
use Rattle.varisat_solver.specs.promises.Names.{Naming, name_all, through_names, AreInOrder}
use Rattle.varisat_solver.specs.promises.OpenProofs.{OpenProof, GoesOnWriting, searched_under}
use Rattle.varisat_solver.specs.promises.Models.{IsCompletable, AreNamesInUse}
use Rattle.varisat.specs.inside.Counts.{count_with}
use Rattle.varisat_solver.specs.promises.Calls.{IsPastLimit, HasTooManyVariables, AddsClause, Ignored, Accepted, VerdictAfter, Refuted, Reopened, Assumes, Solves, Configures, CountsIf, CountsCall, Decided, Searched, once_searched, by_state}
use Rattle.varisat_names.specs.declared.config.SolverConfigUpdate.{SolverConfigUpdate}
use Rattle.varisat_solver.specs.declared.solver.SolverError.TheVariants.{Interrupted}
use Rattle.varisat_solver.specs.declared.solver.SolverError.{SolverError}
use Rattle.varisat_solver.proofs.calls.CallStates.{same-assumptions, same-clauses, same-counted, same-ledger, same-naming, same-verdict}
use Rattle.varisat.proofs.NameLaws.{stay-in-order, count-above, count-within, in-use-below, names-are-identities, too-many-is-past-limit}
use Rattle.varisat_solver.proofs.calls.Counted.{join-more, join-has, join-only, join-once}
use Rattle.varisat_solver.proofs.steps.SearchVerdicts.{reopened-not-unsat, assumed-unsat}
use Rattle.varisat_client.specs.promises.Pasts.{ClientPast, IsUpToCounted, IsFoundModel, MakesFew}
use Rattle.varisat_client.specs.inside.Clients.{WasGiven, CountsAmong, MadeFewSince}

-- 1. Names are in range.

-- a list that is refused for its names has one past the limit
pub past-limit : (d : List Literal) (n : ℕ) (m : Naming) → AreInOrder n m → n ≤ variable_limit → IsPastLimit d ⊎ HasTooManyVariables (name_all d m) → IsPastLimit d
past-limit d n m o h r = ⊎_elim (λ l. l) (λ c. too-many-is-past-limit n m d o h c) r

-- and one that is not brings no more names than there may be
stays-in-range : (d : List Literal) (n : ℕ) (m : Naming) → AreInOrder n m → n ≤ variable_limit → (IsPastLimit d → ⊥) → count_with n d ≤ variable_limit
stays-in-range d n m o h none =
    let (order, own) = stay-in-order n m d o in
    ⊎_elim
    (λ more. absurd (none (too-many-is-past-limit n m d o h (subst (λ k. variable_limit < k) (sym order.made) more))))
    (λ few. few)
    (cases_lt variable_limit (count_with n d))

-- No proof is opened.
stays-unopened : (before after : Option OpenProof) → before ≡ None → GoesOnWriting before after → after ≡ None
stays-unopened before after none g = subst (λ (o : Option OpenProof). GoesOnWriting o after) none g

-- 2. A clause is taken.

-- what one more clause makes of the state
taken : (s t : State) (P : List Clause) (A : List Literal) (n most : ℕ) (d : Clause) → AddsClause s d (Ok tt) t → WasGiven s P A n most →
    WasGiven t (P ++ d ∷ []) A n most
taken s t P A n most d (v, Ignored u e) f =
    subst (λ x. WasGiven x (P ++ d ∷ []) A n most) (sym e) (record {
      valid = f.valid;
      proof = f.proof;
      count = f.count;
      order = f.order;
      in_range = f.in_range;
      same = λ h. absurd (f.refuted u h);
      fewer = λ c i. ∈-append_left c P (d ∷ []) (f.fewer c i);
      refuted = f.refuted;
      assumed = f.assumed;
      named = f.named;
      assumed_named = f.assumed_named;
      steps = f.steps;
      limit = f.limit;
    })
taken s t P A n most d (v, Accepted ext may (w, after, like)) f =
    let named : Naming = name_all d s.naming in
    let (order, own) = stay-in-order f.count s.naming d f.order in
    let e : t.clauses ≡ s.clauses ++ d ∷ [] = (same-clauses like) ∙ ap (λ (x : Clause). s.clauses ++ x ∷ []) own in
    let more = count-above d f.count in
    record {
      valid = ap (λ l. l.valid) (same-ledger like) ∙ f.valid;
      proof = stays-unopened s.proof t.proof f.proof like.proof;
      count = count_with f.count d;
      order = subst (AreInOrder (count_with f.count d)) (sym (same-naming like)) order;
      in_range = stays-in-range d f.count s.naming f.order f.in_range may.in_range;
      same = λ (a, h). e ∙ ap (λ (Q : List Clause). Q ++ d ∷ [])
          (f.same (a, λ k i. h k (subst (λ (Q : List Clause). k ∈ Q) (sym e) (∈-append_left k s.clauses (d ∷ []) i))));
      fewer = λ k i. ⊎_elim
          (λ j. ∈-append_left k P (d ∷ []) (f.fewer k j))
          (λ j. ∈-append_right k P (d ∷ []) j)
          (∈-append_cases k s.clauses (d ∷ []) (subst (λ (Q : List Clause). k ∈ Q) e i));
      refuted = λ u h. unsat w after (sym (same-verdict like) ∙ u) (subst IsSatisfiable (same-clauses like) h);
      assumed = (same-assumptions like) ∙ f.assumed;
      named = λ c l i j. ⊎_elim
          (λ k. let b = f.named c l k j in omega (arith, b, more))
          (λ k. ⊎_elim (λ q. count-within d f.count l (subst (λ (x : Clause). l ∈ x) q j)) (λ z. absurd z) k)
          (∈-append_cases c s.clauses (d ∷ []) (subst (λ (Q : List Clause). c ∈ Q) e i));
      assumed_named = λ l i. let b = f.assumed_named l (subst (λ (ls : List Literal). l ∈ ls) (same-assumptions like) i) in omega (arith, b, more);
      steps = ap (λ l. l.steps) (same-ledger like) ∙ f.steps;
      limit = ap (λ l. l.settings.max_steps) (same-ledger like) ∙ f.limit;
    }
  where
    unsat : (w : Verdict) → VerdictAfter s.clauses (map (through_names (name_all d s.naming)) d) s.verdict w → w ≡ Unsat →
        IsSatisfiable (s.clauses ++ map (through_names (name_all d s.naming)) d ∷ []) → ⊥
    unsat w (Refuted q r) u h = r h
    unsat w (Reopened q r) u h = reopened-not-unsat s.verdict ext.unrefuted (sym q ∙ u)

pub added : (s t : State) (P : List Clause) (A : List Literal) (n most : ℕ) (d c : Clause) → AddsClause s d (Ok tt) t → d ≡ c → WasGiven s P A n most →
    WasGiven t (P ++ c ∷ []) A n most
added s t P A n most d c call e f = subst (λ (x : Clause). WasGiven t (P ++ x ∷ []) A n most) e (taken s t P A n most d call f)

-- one with a name past the limit only where no assignment satisfies those before it
taken-within : (s t : State) (P : List Clause) (A : List Literal) (n most : ℕ) (d : Clause) → AddsClause s d (Ok tt) t → WasGiven s P A n most →
    IsPastLimit d → IsSatisfiable P → ⊥
taken-within s t P A n most d (v, Ignored u e) f past (a, h) = f.refuted u (a, λ k i. h k (f.fewer k i))
taken-within s t P A n most d (v, Accepted ext may into) f past h = may.in_range past

pub added-within : (s t : State) (P : List Clause) (A : List Literal) (n most : ℕ) (d c : Clause) → AddsClause s d (Ok tt) t → d ≡ c → WasGiven s P A n most →
    IsPastLimit c → IsSatisfiable P → ⊥
added-within s t P A n most d c call e f past = taken-within s t P A n most d call f (subst IsPastLimit (sym e) past)

-- 3. Other assumptions.

supposed : (s t : State) (P : List Clause) (A : List Literal) (n most : ℕ) (d : List Literal) → Assumes s d (Ok tt) t → WasGiven s P A n most →
    WasGiven t P d n most
supposed s t P A n most d (v, none, may, like) f =
    let (order, own) = stay-in-order f.count s.naming d f.order in
    let more = count-above d f.count in
    let e : t.assumptions ≡ d = (same-assumptions like) ∙ own in
    record {
      valid = ap (λ l. l.valid) (same-ledger like) ∙ f.valid;
      proof = stays-unopened s.proof t.proof f.proof like.proof;
      count = count_with f.count d;
      order = subst (AreInOrder (count_with f.count d)) (sym (same-naming like)) order;
      in_range = stays-in-range d f.count s.naming f.order f.in_range may.in_range;
      same = λ h. (same-clauses like) ∙ f.same (subst IsSatisfiable (same-clauses like) h);
      fewer = λ k i. f.fewer k (subst (λ (Q : List Clause). k ∈ Q) (same-clauses like) i);
      refuted = λ u h. f.refuted (assumed-unsat s.verdict (sym (same-verdict like) ∙ u)) (subst IsSatisfiable (same-clauses like) h);
      assumed = e;
      named = λ c l i j. let b = f.named c l (subst (λ (Q : List Clause). c ∈ Q) (same-clauses like) i) j in omega (arith, b, more);
      assumed_named = λ l i. count-within d f.count l (subst (λ (ls : List Literal). l ∈ ls) e i);
      steps = ap (λ l. l.steps) (same-ledger like) ∙ f.steps;
      limit = ap (λ l. l.settings.max_steps) (same-ledger like) ∙ f.limit;
    }

pub begun : (s t : State) (P : List Clause) (A : List Literal) (n most : ℕ) (d B : List Literal) → Assumes s d (Ok tt) t → d ≡ B → WasGiven s P A n most →
    WasGiven t P B n most
begun s t P A n most d B call e f = subst (λ (x : List Literal). WasGiven t P x n most) e (supposed s t P A n most d call f)

-- none of them is past the limit
pub begun-within : (s t : State) (d B : List Literal) → Assumes s d (Ok tt) t → d ≡ B → IsPastLimit B → ⊥
begun-within s t d B (v, none, may, like) e past = may.in_range (subst IsPastLimit (sym e) past)

-- another limit
pub limited : (s t : State) (P : List Clause) (A : List Literal) (n most steps : ℕ) (u : SolverConfigUpdate) → Configures s u (Ok tt) t →
    u.max_steps ≡ Some steps → WasGiven s P A n most → WasGiven t P A n steps
limited s t P A n most steps u (v, good, e) q f =
    subst (λ x. WasGiven x P A n steps) (sym e) (record {
      valid = f.valid;
      proof = f.proof;
      count = f.count;
      order = f.order;
      in_range = f.in_range;
      same = f.same;
      fewer = f.fewer;
      refuted = f.refuted;
      assumed = f.assumed;
      named = f.named;
      assumed_named = f.assumed_named;
      steps = f.steps;
      limit = ap (λ (o : Option ℕ). unwrap_or o s.ledger.settings.max_steps) q;
    })

-- 4. A search.

-- a state with the same clauses, assumptions and names, after further steps
searched : (s t : State) (P : List Clause) (A : List Literal) (n most : ℕ) → t.ledger.valid ≡ true → t.proof ≡ None → t.naming ≡ s.naming → t.clauses ≡ s.clauses →
    t.assumptions ≡ s.assumptions → t.ledger.settings ≡ s.ledger.settings → (t.verdict ≡ Unsat → IsSatisfiable t.clauses → ⊥) → WasGiven s P A n most →
    WasGiven t P A t.ledger.steps most
searched s t P A n most v o m c a l u f = record {
  valid = v;
  proof = o;
  count = f.count;
  order = subst (AreInOrder f.count) (sym m) f.order;
  in_range = f.in_range;
  same = λ h. c ∙ f.same (subst IsSatisfiable c h);
  fewer = λ d i. f.fewer d (subst (λ (Q : List Clause). d ∈ Q) c i);
  refuted = u;
  assumed = a ∙ f.assumed;
  named = λ d x i j. f.named d x (subst (λ (Q : List Clause). d ∈ Q) c i) j;
  assumed_named = λ x i. f.assumed_named x (subst (λ (ls : List Literal). x ∈ ls) a i);
  steps = refl;
  limit = ap (λ x. x.max_steps) l ∙ f.limit;
}

pub decided : (s t : State) (b : Bool) (P : List Clause) (A : List Literal) (n most : ℕ) → Solves by_state s (Ok b) t → WasGiven s P A n most →
    WasGiven t P A t.ledger.steps most
decided s t b P A n most r f =
    searched s t P A n most (ap (λ l. l.valid) (same-ledger r.rest) ∙ f.valid)
    (stays-unopened (searched_under s.proof) t.proof (ap searched_under f.proof) r.rest.proof) (same-naming r.rest) (same-clauses r.rest) (same-assumptions r.rest)
    (ap (λ l. l.settings) (same-ledger r.rest)) (λ u h. subst (IsRight t.clauses t.assumptions t.counted) u r.right.right h) f

pub interrupted : (s t : State) (P : List Clause) (A : List Literal) (n most : ℕ) → Solves by_state s (Err Interrupted) t → WasGiven s P A n most →
    WasGiven t P A t.ledger.steps most
interrupted s t P A n most r f =
    searched s t P A n most (ap (λ l. l.valid) (same-ledger r.rest) ∙ f.valid)
    (stays-unopened (searched_under s.proof) t.proof (ap searched_under f.proof) r.rest.proof) (same-naming r.rest) (same-clauses r.rest) (same-assumptions r.rest)
    (ap (λ l. l.settings) (same-ledger r.rest)) (λ u h. f.refuted (sym (same-verdict r.rest) ∙ u) (subst IsSatisfiable (same-clauses r.rest) h)) f

-- the steps are spent
pub all-spent : (s t : State) (P : List Clause) (A : List Literal) (n most : ℕ) → Solves by_state s (Err Interrupted) t → WasGiven s P A n most →
    (t.ledger.steps ≡ n + most) ⊎ (t.ledger.steps ≡ 2 ^ 64 - 1)
all-spent s t P A n most r f =
    let k = r.steps in
    ⊎_elim
    (λ e. inl (k.count ∙ ap (λ x. x + k.made) f.steps ∙ ap (λ x. n + x) (e ∙ f.limit)))
    inr
    (k.spent refl)

-- 5. The variables that are counted, and the steps for so many.

-- the same variables are counted
counts-same : (s t : State) (known : List ℕ) → t.counted ≡ s.counted → t.naming ≡ s.naming → t.clauses ≡ s.clauses → CountsAmong s known → CountsAmong t known
counts-same s t known e n c k = record {
  within = subst (λ xs. xs ⊆ known) (sym e) k.within;
  once = subst IsDistinct (sym e) k.once;
  up_to_counted = subst (λ (m : Naming). (u : ℕ) → u < m.watermark → IsUpToCounted known u) (sym n) k.up_to_counted;
  in_use = λ h. subst (λ (m : Naming). (u : ℕ) → u ∈ known → u < m.watermark) (sym n) (k.in_use (subst IsSatisfiable c h));
}

pub counts-decided : (s t : State) (b : Bool) (known : List ℕ) → Solves by_state s (Ok b) t → CountsAmong s known → CountsAmong t known
counts-decided s t b known r = counts-same s t known (same-counted r.rest) (same-naming r.rest) (same-clauses r.rest)

pub counts-spent : (s t : State) (known : List ℕ) → Solves by_state s (Err Interrupted) t → CountsAmong s known → CountsAmong t known
counts-spent s t known r = counts-same s t known (same-counted r.rest) (same-naming r.rest) (same-clauses r.rest)

-- a name below the count is below the one before, or none above a variable of the list
below-count : (d : List Literal) (n u : ℕ) → u < count_with n d → (u < n) ⊎ ((l : Literal) × (l ∈ d) × (u ≤ variable_of l))
below-count [] n u h = inl h
below-count (l ∷ d) n u h =
    ⊎_elim
    (λ k. ⊎_elim inl (λ m. inr (l, inl refl, m)) (below-or n u (variable_of l) k))
    (λ (m, i, k). inr (m, inr i, k))
    (below-count d (max n (variable_of l + 1)) u h)
  where
    below-or : (n u v : ℕ) → u < max n (v + 1) → (u < n) ⊎ (u ≤ v)
    below-or n u v h = grind arith

-- those of a list are, too
counts-more : (s t : State) (n : ℕ) (known : List ℕ) (d : List Literal) → AreInOrder n s.naming → t.naming ≡ name_all d s.naming →
    t.counted ≡ join_counted s.counted (map variable_of d) → (IsSatisfiable t.clauses → IsSatisfiable s.clauses) → CountsAmong s known →
    CountsAmong t (join_counted known (map variable_of d))
counts-more s t n known d o m e satisfiable k =
    let is : List ℕ = map variable_of d in
    let (order, own) = stay-in-order n s.naming d o in
    let before = o.watermark in
    let after : t.naming.watermark ≡ count_with n d = ap (λ (x : Naming). x.watermark) m ∙ order.watermark in
    record {
      within = subst (λ xs. xs ⊆ join_counted known is) (sym e)
          (λ i j. ⊎_elim (λ h. join-more is known i (k.within i h)) (join-has is known i) (join-only is s.counted i j));
      once = subst IsDistinct (sym e) (join-once is s.counted k.once);
      up_to_counted = λ u h. ⊎_elim
          (λ b. let (v, i, g) = k.up_to_counted u (omega (arith, b, before)) in (v, join-more is known v i, g))
          (λ (l, i, g). (variable_of l, join-has is known (variable_of l) (∈-map variable_of l d i), g))
          (below-count d n u (omega (arith, h, after)));
      in_use = λ h u i. ⊎_elim
          (λ j. let b = k.in_use (satisfiable h) u j in let more = count-above d n in omega (arith, b, more, before, after))
          (λ j. let (l, w, q) = map-∈ variable_of u d j in let b = count-within d n l w in omega (arith, b, q, after))
          (join-only is known u i);
    }

counts-taken : (s t : State) (P : List Clause) (A : List Literal) (n most : ℕ) (known : List ℕ) (d : Clause) → AddsClause s d (Ok tt) t →
    WasGiven s P A n most → CountsAmong s known → CountsAmong t (join_counted known (map variable_of d))
counts-taken s t P A n most known d (v, Ignored u e) f k =
    let more = join-more (map variable_of d) known in
    subst (λ x. CountsAmong x (join_counted known (map variable_of d))) (sym e) (record {
      within = λ i h. more i (k.within i h);
      once = k.once;
      up_to_counted = λ i h. let (v, j, g) = k.up_to_counted i h in (v, more v j, g);
      in_use = λ h. absurd (f.refuted u h);
    })
counts-taken s t P A n most known d (v, Accepted ext may (w, after, like)) f k =
    let (order, own) = stay-in-order f.count s.naming d f.order in
    counts-more s t f.count known d f.order (same-naming like) (same-counted like ∙ ap (λ (x : Clause). join_counted s.counted (map variable_of x)) own)
    (λ (a, h). (a, λ c i. h c (subst (λ (Q : List Clause). c ∈ Q) (sym (same-clauses like)) (∈-append_left c s.clauses _ i)))) k

pub counts-added : (s t : State) (P : List Clause) (A : List Literal) (n most : ℕ) (known : List ℕ) (d c : Clause) → AddsClause s d (Ok tt) t → d ≡ c →
    WasGiven s P A n most → CountsAmong s known → CountsAmong t (join_counted known (map variable_of c))
counts-added s t P A n most known d c call e f k =
    subst (λ (x : Clause). CountsAmong t (join_counted known (map variable_of x))) e (counts-taken s t P A n most known d call f k)

pub counts-begun : (s t : State) (P : List Clause) (A : List Literal) (n most : ℕ) (known : List ℕ) (d B : List Literal) → Assumes s d (Ok tt) t →
    d ≡ B → WasGiven s P A n most → CountsAmong s known → CountsAmong t (join_counted known (map variable_of B))
counts-begun s t P A n most known d B (v, none, may, like) e f k =
    let (order, own) = stay-in-order f.count s.naming d f.order in
    subst (λ (x : List Literal). CountsAmong t (join_counted known (map variable_of x))) e
    (counts-more s t f.count known d f.order (same-naming like) (same-counted like ∙ ap (λ (x : List Literal). join_counted s.counted (map variable_of x)) own)
    (subst IsSatisfiable (same-clauses like)) k)

pub counts-limited : (s t : State) (known : List ℕ) (u : SolverConfigUpdate) → Configures s u (Ok tt) t → CountsAmong s known → CountsAmong t known
counts-limited s t known u (v, good, e) =
    counts-same s t known (ap (λ (x : State). x.counted) e) (ap (λ (x : State). x.naming) e) (ap (λ (x : State). x.clauses) e)

-- few for some variables are few for more
few-more : (m n k : ℕ) → m ≤ n → AreFew m k → AreFew n k
few-more m n k h (near, wide) =
    let power : 2 ^ (m + 2) ≤ 2 ^ (n + 2) = pow_mono (omega (arith, h)) in
    let product : (m + 2) * 2 ^ (m + 2) ≤ (n + 2) * 2 ^ (n + 2) = mul-le (m + 2) (2 ^ (m + 2)) (n + 2) (2 ^ (n + 2)) (omega (arith, h)) power in
    let wider : 2 ^ (2 * m + 3) ≤ 2 ^ (2 * n + 3) = pow_mono (omega (arith, h)) in
    (omega (arith, near, product), omega (arith, wide, wider))

-- steps were just counted anew
pub anew : (t : State) → t.ledger.since ≡ 0 → MadeFewSince t 0
anew t e = record { same = e; few = few_none (length t.counted) }

pub since-added : (s t : State) (d : Clause) → AddsClause s d (Ok tt) t → MadeFewSince t 0
since-added s t d (v, Ignored u e) = anew t (ap (λ (x : State). x.ledger.since) e)
since-added s t d (v, Accepted ext may (w, after, like)) = anew t (ap (λ l. l.since) (same-ledger like))

pub since-begun : (s t : State) (d : List Literal) → Assumes s d (Ok tt) t → MadeFewSince t 0
since-begun s t d (v, none, may, like) = anew t (ap (λ l. l.since) (same-ledger like))

pub since-limited : (s t : State) (u : SolverConfigUpdate) → Configures s u (Ok tt) t → MadeFewSince t 0
since-limited s t u (v, good, e) = anew t (ap (λ (x : State). x.ledger.since) e)

-- The steps of a search join those before it.
record JoinSteps (s t : State) : Type 0 where
  made : ℕ
  count : t.ledger.steps ≡ s.ledger.steps + made
  budget : made ≤ s.ledger.settings.max_steps
  since : t.ledger.since ≡ s.ledger.since + made
  same : t.counted ≡ s.counted
  few : AreFew (length s.counted) t.ledger.since

join-counted : (s t : State) (answer : Result Bool SolverError) → CountsCall s answer t → t.ledger.since ≡ s.ledger.since + (t.ledger.steps - s.ledger.steps) →
    t.counted ≡ s.counted → JoinSteps s t
join-counted s t answer c e same =
    let k = c.count in
    let now : t.ledger.since ≡ s.ledger.since + c.made = omega (arith, e, k) in record {
      made = c.made;
      count = k;
      budget = c.budget;
      since = now;
      same = same;
      few = subst (AreFew (length s.counted)) (sym now) c.bounded;
    }

-- a search that came to an answer, or made none since it is known
join-decided : (s t : State) (b : Bool) (since : ℕ) → Solves by_state s (Ok b) t → MadeFewSince s since → JoinSteps s t
join-decided s t b since r m = go r.steps
  where
    later : t.ledger.since ≡ s.ledger.since + (t.ledger.steps - s.ledger.steps)
    later = ap (λ l. l.since) (same-ledger r.rest)

    go : CountsIf by_state (once_searched s) (Ok b) t → JoinSteps s t
    go (Decided h same told) =
        let e = later in
        let now : t.ledger.since ≡ s.ledger.since + 0 = omega (arith, e, same) in record {
          made = 0;
          count = omega (arith, same);
          budget = omega arith;
          since = now;
          same = same-counted r.rest;
          few = let before = m.same in let z : since ≡ t.ledger.since = omega (arith, now, before) in subst (AreFew (length s.counted)) z m.few;
        }
    go (Searched u c) = join-counted s t (Ok b) c later (same-counted r.rest)

-- or one whose steps are spent
join-spent : (s t : State) → Solves by_state s (Err Interrupted) t → JoinSteps s t
join-spent s t r = join-counted s t (Err Interrupted) r.steps (ap (λ l. l.since) (same-ledger r.rest)) (same-counted r.rest)

since-joined : (s t : State) → JoinSteps s t → MadeFewSince t t.ledger.since
since-joined s t j = record { same = refl; few = subst (λ (xs : List ℕ). AreFew (length xs) t.ledger.since) (sym j.same) j.few }

makes-few : (p q : ClientPast) (known : List ℕ) → known ⊆ p.counted → (s t : State) → JoinSteps s t → CountsAmong s known → MadeFewSince s p.since → s.ledger.steps ≡ p.steps →
    s.ledger.settings.max_steps ≡ p.limit → t.ledger.steps ≡ q.steps → t.ledger.since ≡ q.since → MakesFew p q
makes-few p q known within s t j k m e o w v = record {
  made = j.made;
  count = sym w ∙ j.count ∙ ap (λ n. n + j.made) e;
  since = sym v ∙ j.since ∙ ap (λ n. n + j.made) m.same;
  budget = subst (λ n. j.made ≤ n) o j.budget;
  few = subst (AreFew (length p.counted)) v
      (few-more (length s.counted) (length p.counted) t.ledger.since (length-distinct s.counted p.counted k.once (λ u i. within u (k.within u i))) j.few);
}

pub since-decided : (s t : State) (b : Bool) (since : ℕ) → Solves by_state s (Ok b) t → MadeFewSince s since → MadeFewSince t t.ledger.since
since-decided s t b since r m = since-joined s t (join-decided s t b since r m)

pub decided-few : (p q : ClientPast) (known : List ℕ) → known ⊆ p.counted → (s t : State) (b : Bool) → Solves by_state s (Ok b) t → CountsAmong s known → MadeFewSince s p.since → s.ledger.steps ≡ p.steps →
    s.ledger.settings.max_steps ≡ p.limit → t.ledger.steps ≡ q.steps → t.ledger.since ≡ q.since → MakesFew p q
decided-few p q known within s t b r k m = makes-few p q known within s t (join-decided s t b p.since r m) k m

pub since-spent : (s t : State) → Solves by_state s (Err Interrupted) t → MadeFewSince t t.ledger.since
since-spent s t r = since-joined s t (join-spent s t r)

pub spent-few : (p q : ClientPast) (known : List ℕ) → known ⊆ p.counted → (s t : State) → Solves by_state s (Err Interrupted) t → CountsAmong s known → MadeFewSince s p.since →
    s.ledger.steps ≡ p.steps → s.ledger.settings.max_steps ≡ p.limit → t.ledger.steps ≡ q.steps → t.ledger.since ≡ q.since → MakesFew p q
spent-few p q known within s t r k m = makes-few p q known within s t (join-spent s t r) k m

-- 6. Models and cores.

pub is-model : (s : State) (P : List Clause) (A : List Literal) (n most : ℕ) (known : List ℕ) (m : List Literal) → WasGiven s P A n most →
    CountsAmong s known → IsCompletable s.naming s.clauses s.assumptions s.counted m → IsFoundModel P A known m
is-model s P A n most known m f k c =
    let (a, makes, all, true-assumed) = c.satisfied in
    let own = names-are-identities f.count s.naming m f.order c.in_use in
    let here : MakesTrue a m = subst (λ (ls : List Literal). MakesTrue a ls) own makes in
    let listed : (l : Literal) → variable_of l < f.count → value a l ≡ true → l ∈ m =
    λ l b v. let (x, i, e) = c.all_listed (variable_of l) (variable_of l) (f.order.in_use (variable_of l) b) in
    subst (λ x. x ∈ m) (same_true a x l e (here x i) v) i in
    let same = f.same (a, all) in
    let below = in-use-below f.count s.naming m f.order c.in_use in
    let high = f.order.watermark in
    record {
      satisfied = (a, here, subst (λ (Q : List Clause). SatisfiesAll a Q) same all, subst (λ (ls : List Literal). MakesTrue a ls) f.assumed true-assumed);
      each = λ d i. let j = subst (λ (Q : List Clause). d ∈ Q) (sym same) i in
          let (l, within, v) = all d j in (l, within, listed l (f.named d l j within) v);
      whole = λ d l i within. let b = f.named d l (subst (λ (Q : List Clause). d ∈ Q) (sym same) i) within in
          ⊎_elim
          (λ v. inl (listed l b v))
          (λ v. inr (listed (opposite l) (subst (λ v. v < f.count) (sym (variable-opposite l)) b) v))
          (true_or_opposite a l);
      assumed_too = λ l i. let j = subst (λ (ls : List Literal). l ∈ ls) (sym f.assumed) i in listed l (f.assumed_named l j) (true-assumed l j);
      all_listed = λ u (v, i, g). let b = k.in_use (a, all) v i in c.all_listed u u (f.order.in_use u (omega (arith, b, g, high)));
      up_to_counted = λ l i. let b = below l i in k.up_to_counted (variable_of l) (omega (arith, b, high));
      uncounted = λ l i out. c.uncounted l (variable_of l) i (f.order.in_use (variable_of l) (below l i)) (λ h. out (k.within (variable_of l) h));
    }

pub is-core : (s : State) (P : List Clause) (A : List Literal) (n most : ℕ) (core : List Literal) → WasGiven s P A n most → AreNamesInUse s.naming core →
    IsFailedCore s.clauses s.assumptions (map (through_names s.naming) core) → IsFailedCore P A core
is-core s P A n most core f named failed =
    let own = names-are-identities f.count s.naming core f.order named in
    let (within, none) = subst (λ (ls : List Literal). IsFailedCore s.clauses s.assumptions ls) own failed in (
      (λ l i. subst (λ (ls : List Literal). l ∈ ls) f.assumed (within l i)),
      (λ (a, all, makes). none (a, (λ d i. all d (f.fewer d i)), makes)),
    )
