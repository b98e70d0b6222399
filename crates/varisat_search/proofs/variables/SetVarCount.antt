-- More variables, for `set_var_count`.
use Rattle.std.proofs.Common.{◌≡◌, Bool, false, ◌&&◌, not, nat_eq, ℕ, zero, suc, ◌+◌, ◌*◌, ◌-◌, ◌≤◌, ◌^◌, Option, None, List, [], ◌∷◌, ◌++◌, map, take, length, replicate, inl, inr, ⊎_elim, refl, sym, ap, ap₂, ◌∙◌, subst, arith, length-append}
use Rattle.std.proofs.lemmas.List.{length-replicate}
use Rattle.std.specs.Prelude.{cond}
use Rattle.std.specs.List.{filter}
use Rattle.varisat_theory.specs.promises.Membership.{◌∈◌}
use Rattle.varisat_theory.specs.promises.Literals.{Literal, Clause, variable_of, opposite}
use Rattle.varisat_theory.specs.promises.Propagation.{IsComplete}
use Rattle.varisat_theory.proofs.clauses.Padded.{padded}
use Rattle.varisat_prop.specs.declared.prop.graph.Reason.{Reason}
use Rattle.varisat_prop.specs.declared.prop.graph.Reason.TheVariants as reason
use Rattle.varisat_prop.specs.declared.prop.graph.ImplNode.{ImplNode}
use Rattle.varisat_clause.specs.Stored.{literals_of}
use Rattle.varisat_prop.specs.View.{View, IsTrueIn, kept, implied_by, clause_at, literal_at, decision_at, node_of, node_at, no_node, Implies, IsReason, WellFormed, PropagatedBeforeDecisions, is_clause}
use Rattle.varisat_prop.specs.Watches.{Watches, IsPropagated}
use Rattle.varisat_prop.proofs.watching.WatchRebuilt.{with_more, watching-variables}
use Rattle.varisat_prop.proofs.pairs.KeptPairs.{pairs-raised}
use Rattle.varisat_prop.specs.declared.prop.watch_list.Watch.{Watch}
use Rattle.varisat_analysis.specs.HeaderChanges.{kept_clause}
use Rattle.varisat_search.specs.Seen.{kept_pair, is_fixed, is_proved, search_of}

filter-same : (p q : ℕ → Bool) (xs : List ℕ) → ((x : ℕ) → p x ≡ q x) → filter p xs ≡ filter q xs
filter-same p q [] h = refl
filter-same p q (x ∷ xs) h = ap₂ (λ (b : Bool) (ys : List ℕ). cond b (x ∷ ys) ys) (h x) (filter-same p q xs h)

module _ (s : View) (m n o : ℕ) (w : WellFormed s) where
  abbrev pub grown : View
  grown = record s { binary = s.binary ++ replicate o []; values = s.values ++ replicate m None; nodes = s.nodes ++ replicate n no_node }

  implied-same : (l : Literal) → implied_by grown l ≡ implied_by s l
  implied-same l = padded [] s.binary o l

  pub grown-kept : kept grown ≡ kept s
  grown-kept = ap (λ ps. literals_of s.clauses ++ ps) (pairs-raised s.binary 0 o)

  true-to : (l : Literal) → IsTrueIn s l → IsTrueIn grown l
  true-to l h = padded None s.values m (variable_of l) ∙ h

  true-from : (l : Literal) → IsTrueIn grown l → IsTrueIn s l
  true-from l h = sym (padded None s.values m (variable_of l)) ∙ h

  node-same : (l : Literal) → node_of grown l ≡ node_of s l
  node-same l = padded no_node s.nodes n (variable_of l)

  level-same : (k : ℕ) → (node_at grown k).level ≡ (node_at s k).level
  level-same k = ap (λ n. n.level) (node-same (literal_at s k))

  implies-same : (c : Clause) (k : ℕ) → Implies s c k → Implies grown c k
  implies-same [] k h = h
  implies-same (x ∷ c) k h = h

  reason-same : (k : ℕ) (q : Reason) → IsReason s k q → IsReason grown k q
  reason-same k reason.Unit h = ⊎_elim inl (λ e. inr (level-same k ∙ e)) h
  reason-same k (reason.Binary ms) (x, e, i, b) = (x, e, subst (λ xs. literal_at s k ∈ xs) (sym (implied-same (opposite x))) i, b)
  reason-same k (reason.Long i) (a, b) = (a, implies-same (clause_at s i) k b)

  was-kept : (c : Clause) → c ∈ kept grown → c ∈ kept s
  was-kept c h = subst (λ cs. c ∈ cs) grown-kept h

  was-implied : (l v : Literal) → v ∈ implied_by grown l → v ∈ implied_by s l
  was-implied l v h = subst (λ xs. v ∈ xs) (implied-same l) h

  pub grown-well : length grown.nodes ≡ length grown.values → length grown.values ≤ 2 ^ 28 → WellFormed grown
  grown-well e f = record {
    sound = w.sound;
    nodes_are = e;
    small = f;
    in_range = λ c i l j. let a = w.in_range c (was-kept c i) l j in let b = length-append s.values (replicate m None) in omega (arith, a, b);
    places = w.places;
    several = λ c i. w.several c (was-kept c i);
    distinct = λ c i. w.distinct c (was-kept c i);
    binary_back = λ l v i. subst (λ xs. opposite l ∈ xs) (sym (implied-same (opposite v))) (w.binary_back l v (was-implied l v i));
    binary_other = λ l v i. w.binary_other l v (was-implied l v i);
    is_true = λ k h. true-to (literal_at s k) (w.is_true k h);
    stands = λ l h. w.stands l (true-from l h);
    head = w.head;
    depth_is = λ k h. ap (λ n. n.depth) (node-same (literal_at s k)) ∙ w.depth_is k h;
    decided = λ j h. let d = w.decided j h in (d.0, ap (λ n. n.reason) (node-same (literal_at s (decision_at s j))) ∙ d.1);
    rising = w.rising;
    levels_to = λ k h. let a = level-same k in let b = w.levels_to k h in omega (arith, a, b);
    levels_up = λ k j h i o. w.levels_up k j h i (let a = level-same k in omega (arith, a, o));
    levels_down = λ k j h i o. let a = level-same k in let b = w.levels_down k j h i o in omega (arith, a, b);
    reason_is = λ k h. subst (IsReason grown k) (sym (ap (λ n. n.reason) (node-same (literal_at s k)))) (reason-same k (node_at s k).reason (w.reason_is k h));
  }

  pub grown-seen : search_of grown ≡ search_of s
  grown-seen =
      let fixed = filter-same (is_fixed grown) (is_fixed s) s.trail (λ l. ap (λ (x : ImplNode). nat_eq x.level 0) (node-same l)) in
      let proved = filter-same (is_proved grown) (is_proved s) s.trail
      (λ l. ap (λ (x : ImplNode). nat_eq x.level 0 && not (is_clause x.reason)) (node-same l)) in
      ap (λ ps. record (search_of grown) { kept = map kept_clause s.clauses ++ map kept_pair ps }) (pairs-raised s.binary 0 o)
      ∙ ap₂ (λ (a b : List Literal). record (search_of s) { fixed = a; proved = b }) fixed proved

  pub grown-settled : PropagatedBeforeDecisions s → PropagatedBeforeDecisions grown
  grown-settled v j h = subst (λ P. IsComplete P (take (decision_at s j) s.trail)) (sym grown-kept) (v j h)

pub replicate-join : {X : Type 0} (x : X) (a b n : ℕ) → n ≡ a + b → replicate a x ++ replicate b x ≡ replicate n x
replicate-join x zero b n e = ap (λ (k : ℕ). replicate k x) (omega (arith, e))
replicate-join x (suc a) b zero e = absurd (omega (arith, e))
replicate-join x (suc a) b (suc n) e = ap (λ ys. x ∷ ys) (replicate-join x a b n (omega (arith, e)))

-- the flags stay false
pub grown-flags : (flags : List Bool) (n count : ℕ) → flags ≡ replicate (2 * n) false → n ≤ count →
    flags ++ replicate (2 * count - length flags) false ≡ replicate (2 * count) false
grown-flags flags n count e h =
    let l : length flags ≡ 2 * n = ap (λ (xs : List Bool). length xs) e ∙ length-replicate (2 * n) false in
    ap (λ xs. xs ++ replicate (2 * count - length flags) false) e ∙ replicate-join false (2 * n) (2 * count - length flags) (2 * count) (omega (arith, l, h))

-- there are lists for more variables, and no watch is lost
pub grown-propagated : (W V : Watches) (s : View) (B : List (List Literal)) (vs : List (Option Bool)) (ns : List ImplNode) (count : ℕ) →
    B ≡ s.binary ++ replicate (2 * count - length s.binary) [] → length vs ≡ count → length s.values ≤ count →
    V ≡ with_more W (2 * count - length W.lists) → IsPropagated W s → IsPropagated V (record s { binary = B; values = vs; nodes = ns })
grown-propagated W V s B vs ns count e n h f p =
    let k = 2 * count - length W.lists in
    let o = 2 * count - length s.binary in
    subst (λ X. IsPropagated X (record s { binary = B; values = vs; nodes = ns })) (sym f)
    (subst (λ Y. IsPropagated (with_more W k) (record s { binary = Y; values = vs; nodes = ns })) (sym e) record {
      lists = (let a = length-append W.lists (replicate k []) in let b = length-replicate {A = List Watch} k [] in let c = p.lists in
          omega (arith, a, b, c, n, h));
      watching = λ o. watching-variables W k s.clauses (p.watching o);
      empty = λ o x. padded [] W.lists k x ∙ p.empty o x;
      settled = p.settled;
      binary = (let a = length-append s.binary (replicate o []) in let b = length-replicate {A = List Literal} o [] in let c = p.binary in
          omega (arith, a, b, c, n, h));
      implied = λ m q l i. p.implied m q l (subst (λ xs. m ∈ xs) (padded [] s.binary o (literal_at s q)) i);
      queue = p.queue;
    })

-- more variables, without values
pub record Grown (s u : View) (n : ℕ) : Type 0 where
  pub well : WellFormed u
  pub settled : PropagatedBeforeDecisions u
  pub count : length u.values ≡ n
  pub seen : search_of u ≡ search_of s
  pub same_kept : kept u ≡ kept s

pub grown-result : (s : View) (B : List (List Literal)) (vs : List (Option Bool)) (ns : List ImplNode) (count : ℕ) → WellFormed s →
    PropagatedBeforeDecisions s → length s.values ≤ count → count ≤ 2 ^ 28 → B ≡ s.binary ++ replicate (2 * count - length s.binary) [] →
    vs ≡ s.values ++ replicate (count - length s.values) None → ns ≡ s.nodes ++ replicate (count - length s.nodes) no_node →
    Grown s (record s { binary = B; values = vs; nodes = ns }) count
grown-result s B vs ns count w v h b e f g =
    let m = count - length s.values in
    let n = count - length s.nodes in
    let o = 2 * count - length s.binary in
    let a = length-append s.values (replicate m None) in
    let x = length-append s.nodes (replicate n no_node) in
    let y = length-replicate {A = Option Bool} m None in
    let z = length-replicate {A = ImplNode} n no_node in
    let d = w.nodes_are in
    let l : length (s.values ++ replicate m None) ≡ count = omega (arith, a, y, h) in
    let k : length (s.nodes ++ replicate n no_node) ≡ count = omega (arith, x, z, d, h) in
    let whole : record s { binary = B; values = vs; nodes = ns } ≡ grown s m n o w =
    ap (λ (Y : List (List Literal)). record s { binary = Y; values = vs; nodes = ns }) e
    ∙ ap₂ (λ (p : List (Option Bool)) (q : List ImplNode). record s { binary = s.binary ++ replicate o []; values = p; nodes = q }) f g in
    subst (λ (q : View). Grown s q count) (sym whole)
    (record {
      well = grown-well s m n o w (k ∙ sym l) (omega (arith, l, b));
      settled = grown-settled s m n o w v;
      count = l;
      seen =
          grown-seen s m n o w;
      same_kept = grown-kept s m n o w;
    })
