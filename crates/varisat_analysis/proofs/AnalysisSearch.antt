-- The search of `is_redundant` for what implies a literal to be false.
use Rattle.std.proofs.Common.{◌≡◌, ℕ, zero, suc, ◌+◌, ◌-◌, ◌<◌, ◌≤◌, Bool, true, false, List, [], ◌∷◌, ◌++◌, length, get_or, set, take, take_all, drop, ◌⊎◌, inl, inr, ⊎_elim, refl, sym, ap, ◌∙◌, subst, arith, append_assoc, length-append, get_or-set_same}
use Rattle.std.proofs.lemmas.Bool.{cases_Bool}
use Rattle.varisat_theory.specs.promises.Membership.{◌∈◌}
use Rattle.varisat_theory.specs.promises.Literals.{Literal, variable_of, opposite}
use Rattle.varisat_theory.specs.promises.Propagation.{IsFalse}
use Rattle.varisat_theory.proofs.clauses.Members.{∈-append_left, ∈-append_right, ∈-append_cases, ∈-or_not}
use Rattle.varisat_theory.proofs.clauses.Places.{∈-take_more}
use Rattle.varisat_prop.specs.declared.prop.graph.Reason.{Reason}
use Rattle.varisat_prop.specs.declared.prop.graph.Reason.TheVariants as reason
use Rattle.varisat_prop.specs.declared.prop.graph.ImplNode.{ImplNode}
use Rattle.varisat_prop.specs.Changes.{NamesClause, causes_of}
use Rattle.varisat_clause.specs.Stored.{StoredClause}
use Rattle.varisat_prop.specs.View.{View, node_of, no_node, level_of, is_clause, WellFormed}
use Rattle.varisat_theory.proofs.clauses.Values.{variable-opposite}
use Rattle.varisat_prop.proofs.views.ViewGrowth.{append-nil}
use Rattle.varisat_analysis.specs.Flags.{IsFlagged}
use Rattle.varisat_analysis.specs.Marks.{Marking}
use Rattle.varisat_analysis.specs.Redundancy.{IsImplied, IsReasoned, count_unmarked, ListsNew, Explores, FindsRedundancy}
use Rattle.varisat_analysis.proofs.AnalysisMarks.{fresh-before, marked-old, marked-new, IsAt}
use Rattle.varisat_analysis.proofs.WellFormedViews.{true-same, has-clause, inside-true, names-clause, causes-false}

pub unmarked-set : (f : List Bool) (v : ℕ) → v < length f → get_or f v false ≡ false → count_unmarked f ≡ count_unmarked (set f v true) + 1
unmarked-set [] v h n = absurd (omega arith)
unmarked-set (true ∷ f) zero h n = absurd cc
unmarked-set (false ∷ f) zero h n = refl
unmarked-set (true ∷ f) (suc v) h n = unmarked-set f v (omega arith) n
unmarked-set (false ∷ f) (suc v) h n = let e = unmarked-set f v (omega arith) n in omega (arith, e)

pub listed-start : (x : Marking) → ListsNew x x
listed-start x = record {
  more = λ v m. m;
  since = [];
  longer = sym (append-nil x.to_clean);
  listed = λ v m. inl m;
  inside =
      λ v i. absurd i;
  fresh = λ v i. absurd i;
  clause = refl;
  involved = refl;
  met = refl;
}

-- one variable is marked and listed
pub listed-one : (x : Marking) (v : ℕ) (stack : List Literal) → v < length x.flags → get_or x.flags v false ≡ false →
    ListsNew x (record x { flags = set x.flags v true; to_clean = x.to_clean ++ v ∷ []; stack = stack })
listed-one x v stack h n = record {
  more = λ y m. marked-old x.flags v y h m;
  since = v ∷ [];
  longer = refl;
  listed = λ y m. ⊎_elim inl (λ e. inr (inl e)) (marked-new x.flags v y m);
  inside = λ y i. ⊎_elim (λ e. omega (arith, e, h)) (λ z. absurd z) i;
  fresh = λ y i. ⊎_elim (λ e. subst (λ q. get_or x.flags q false ≡ false) (sym e) n) (λ z. absurd z) i;
  clause = refl;
  involved = refl;
  met = refl;
}

pub listed-trans : (x y z : Marking) → length y.flags ≡ length x.flags → ListsNew x y → ListsNew y z → ListsNew x z
listed-trans x y z n a b = record {
  more = λ v m. b.more v (a.more v m);
  since = a.since ++ b.since;
  longer = b.longer ∙ ap (λ q. q ++ b.since) a.longer ∙ append_assoc x.to_clean a.since b.since;
  listed = λ v m. ⊎_elim
      (λ i. ⊎_elim inl (λ j. inr (∈-append_left v a.since b.since j)) (a.listed v i))
      (λ i. inr (∈-append_right v a.since b.since i))
      (b.listed v m);
  inside = λ v i. ⊎_elim (a.inside v) (λ j. let q = b.inside v j in omega (arith, q, n)) (∈-append_cases v a.since b.since i);
  fresh = λ v i. ⊎_elim (a.fresh v) (λ j. fresh-before x.flags y.flags v (a.more v) (b.fresh v j)) (∈-append_cases v a.since b.since i);
  clause = b.clause ∙ a.clause;
  involved = b.involved ∙ a.involved;
  met = b.met ∙ a.met;
}

-- the stack is not spoken of
listed-from : (y z : Marking) (stack : List Literal) → ListsNew (record y { stack = stack }) z → ListsNew y z
listed-from y z stack a = record {
  more = a.more;
  since = a.since;
  longer = a.longer;
  listed = a.listed;
  inside = a.inside;
  fresh =
      a.fresh;
  clause = a.clause;
  involved = a.involved;
  met = a.met;
}

pub explores-start : (s : View) (x : Marking) → Explores s [] true x x
explores-start s x = record {
  list = listed-start x;
  new = λ v m. inl m;
  stacked = λ l i. i;
  grown = λ l i. inl i;
  all = λ e m i. absurd i;
  count = refl;
}

pub explores-none : (s : View) (m : Literal) (x : Marking) → (level_of s m ≡ 0) ⊎ IsFlagged x.flags (variable_of m) → Explores s (m ∷ []) true x x
explores-none s m x o = record {
  list = listed-start x;
  new = λ v k. inl k;
  stacked = λ l i. i;
  grown = λ l i. inl i;
  all = λ e l i. ⊎_elim (λ q. subst (λ y. (level_of s y ≡ 0) ⊎ IsFlagged x.flags (variable_of y)) (sym q) o) (λ z. absurd z) i;
  count = refl;
}

pub node-opposite : (s : View) (m : Literal) → node_of s (opposite m) ≡ node_of s m
node-opposite s m = ap (λ v. get_or s.nodes v no_node) (variable-opposite m)

-- the literal is marked, and its opposite put on the stack
abbrev pub explored : Marking → Literal → Marking
explored x m = record x { flags = set x.flags (variable_of m) true; to_clean = x.to_clean ++ variable_of m ∷ []; stack = x.stack ++ opposite m ∷ [] }

pub explores-one : (s : View) (m : Literal) (x : Marking) → opposite m ∈ s.trail → is_clause (node_of s m).reason ≡ true →
    variable_of m < length x.flags → get_or x.flags (variable_of m) false ≡ false → Explores s (m ∷ []) true x (explored x m)
explores-one s m x o e h n = record {
  list = listed-one x (variable_of m) (x.stack ++ opposite m ∷ []) h n;
  new = λ v k. ⊎_elim inl (λ q. inr
      (opposite m, ∈-append_right (opposite m) x.stack (opposite m ∷ []) (inl refl), implied, variable-opposite m ∙ sym q))
      (marked-new x.flags (variable_of m) v k);
  stacked = λ l i. ∈-append_left l x.stack (opposite m ∷ []) i;
  grown = λ l i. ⊎_elim inl (λ j. ⊎_elim (λ q. inr (subst (IsImplied s) (sym q) implied)) (λ z. absurd z) j) (∈-append_cases l x.stack (opposite m ∷ []) i);
  all = λ q l i. ⊎_elim (λ y. inr
      (subst (λ z. IsFlagged (set x.flags (variable_of m) true) (variable_of z)) (sym y) (get_or-set_same x.flags (variable_of m) true false h)))
      (λ z. absurd z) i;
  count = let a = unmarked-set x.flags (variable_of m) h n in let b = length-append x.stack (opposite m ∷ []) in omega (arith, a, b);
}
  where
    implied : IsImplied s (opposite m)
    implied = (o, ap (λ q. is_clause q.reason) (node-opposite s m) ∙ e)

pub explores-more : (s : View) (lits : List Literal) (k : ℕ) (m : Literal) (x y z : Marking) → k < length lits → m ≡ get_or lits k 0 →
    length y.flags ≡ length x.flags → Explores s (take k lits) true x y → Explores s (m ∷ []) true y z → Explores s (take (k + 1) lits) true x z
explores-more s lits k m x y z l e n a b = record {
  list = listed-trans x y z n a.list b.list;
  new = λ v i. ⊎_elim (λ j. ⊎_elim inl (λ (c, p, q, o). inr (c, b.stacked c p, q, o)) (a.new v j)) inr (b.new v i);
  stacked = λ c i. b.stacked c (a.stacked c i);
  grown = λ c i. ⊎_elim (a.grown c) inr (b.grown c i);
  all = λ q c i. ⊎_elim (λ j. ⊎_elim inl (λ o. inr (b.list.more (variable_of c) o)) (a.all refl c j)) (λ j. b.all refl c (inl (j ∙ sym e)))
      (∈-take_more c lits k 0 i);
  count = let p = a.count in let q = b.count in omega (arith, p, q);
}

-- the search was given up
pub explores-fail : (s : View) (lits : List Literal) (k : ℕ) (x y : Marking) → Explores s (take k lits) true x y → Explores s lits false x y
explores-fail s lits k x y a = record {
  list = a.list;
  new = a.new;
  stacked = a.stacked;
  grown = a.grown;
  all = λ e. absurd cc;
  count = a.count;
}

-- What was marked since the search started is reasoned, or on the stack.
pub record Search (s : View) (l : Literal) (x y : Marking) : Type 0 where
  pub list : ListsNew x y
  pub implied : (m : Literal) → m ∈ y.stack → IsImplied s m
  pub reasoned : (m : Literal) → m ∈ s.trail → IsFlagged y.flags (variable_of m) → IsFlagged x.flags (variable_of m) ⊎ ((m ∈ y.stack) ⊎ IsReasoned s y.flags m)
  pub start : (opposite l ∈ y.stack) ⊎ IsReasoned s y.flags (opposite l)

pub search-begin : {s : View} {l : Literal} (x : Marking) (r : Reason) (stack : List Literal) → opposite l ∈ s.trail → r ≡ (node_of s l).reason →
    (r ≡ reason.Unit → ⊥) → stack ≡ opposite l ∷ [] → Search s l x (record x { stack = stack })
search-begin {s = s} {l = l} x r stack h p n q = record {
  list = let a = listed-start x in
      record {
        more = a.more;
        since = a.since;
        longer = a.longer;
        listed = a.listed;
        inside = a.inside;
        fresh = a.fresh;
        clause =
            a.clause;
        involved = a.involved;
        met = a.met;
      };
  implied = λ m i. ⊎_elim (λ z. subst (IsImplied s) (sym z) implied) (λ z. absurd z) (subst (λ y. m ∈ y) q i);
  reasoned = λ m i k. inl k;
  start = inl (subst (λ y. opposite l ∈ y) (sym q) (inl refl));
}
  where
    implied : IsImplied s (opposite l)
    implied = (h, ap (λ y. is_clause y.reason) (node-opposite s l) ∙ ap is_clause (sym p) ∙ has-clause r n)

pub reasoned-more : (s : View) (f g : List Bool) (x : Literal) → ((v : ℕ) → IsFlagged f v → IsFlagged g v) → IsReasoned s f x → IsReasoned s g x
reasoned-more s f g x h (e, k) = (e, λ m i. ⊎_elim inl (λ o. inr (h (variable_of m) o)) (k m i))

-- the search takes literal i off the stack
module _ {s : View} {l : Literal} {x y : Marking} (w : WellFormed s) (a : Search s l x y) (i : Literal) (left : List Literal)
    (e : y.stack ≡ left ++ i ∷ []) where
  implied-here : IsImplied s i
  implied-here = a.implied i (subst (λ q. i ∈ q) (sym e) (∈-append_right i left (i ∷ []) (inl refl)))

  stays : (m : Literal) → m ∈ y.stack → (m ∈ left) ⊎ (m ≡ i)
  stays m o = ⊎_elim inl (λ j. ⊎_elim inr (λ z. absurd z) j) (∈-append_cases m left (i ∷ []) (subst (λ z. m ∈ z) e o))

  search-step : (z : Marking) → length y.flags ≡ length x.flags →
      Explores s (causes_of s.clauses (node_of s i).reason) true (record y { stack = left }) z → Search s l x z
  search-step z n b = record {
    list = listed-trans x y z n a.list list-since;
    implied = λ m o. ⊎_elim (λ j. a.implied m (subst (λ p. m ∈ p) (sym e) (∈-append_left m left (i ∷ []) j))) (λ j. j) (b.grown m o);
    reasoned = λ m o k. ⊎_elim
        (λ h. ⊎_elim inl (λ p. inr (⊎_elim (on-stack m) (λ j. inr (reasoned-more s y.flags z.flags m b.list.more j)) p)) (a.reasoned m o h))
        (λ (p, j, h, c). inr (inl (subst (λ v. v ∈ z.stack) (true-same s w p m h.0 o c) j)))
        (b.new (variable_of m) k);
    start = ⊎_elim (on-stack (opposite l)) (λ j. inr (reasoned-more s y.flags z.flags (opposite l) b.list.more j)) a.start;
  }
    where
      list-since : ListsNew y z
      list-since = listed-from y z left b.list

      now : IsReasoned s z.flags i
      now = (implied-here.1, b.all refl)

      on-stack : (m : Literal) → m ∈ y.stack → (m ∈ z.stack) ⊎ IsReasoned s z.flags m
      on-stack m o = ⊎_elim (λ j. inl (b.stacked m j)) (λ j. inr (subst (IsReasoned s z.flags) (sym j) now)) (stays m o)

  pub search-smaller : {lits : List Literal} {b : Bool} {z : Marking} → Explores s lits b (record y { stack = left }) z →
      count_unmarked z.flags + length z.stack < count_unmarked y.flags + length y.stack
  search-smaller k = let c = k.count in let n = ap (λ (q : List ℕ). length q) e in let o = length-append left (i ∷ []) in omega (arith, c, n, o)

  pub search-inside : (nodes : List ImplNode) (v : ℕ) → nodes ≡ s.nodes → v ≡ variable_of i → v < length nodes
  search-inside nodes v p q =
      let j = inside-true s w i implied-here.0 in
      let n = ap (λ y. length y) p in
      omega (arith, j, n, q)

  pub search-names : (P : List StoredClause) (r : Reason) → P ≡ s.clauses → r ≡ (node_of s i).reason → NamesClause P r
  search-names P r p q = subst (λ y. NamesClause y r) (sym p) (subst (NamesClause s.clauses) (sym q) (names-clause s w i implied-here.0))

  causes-are : (P : List StoredClause) (r : Reason) (lits : List Literal) → P ≡ s.clauses → r ≡ (node_of s i).reason → lits ≡ causes_of P r →
      lits ≡ causes_of s.clauses (node_of s i).reason
  causes-are P r lits p q h = h ∙ ap (λ y. causes_of y r) p ∙ ap (λ y. causes_of s.clauses y) q

  pub search-falsified : (P : List StoredClause) (r : Reason) (lits : List Literal) → P ≡ s.clauses → r ≡ (node_of s i).reason →
      lits ≡ causes_of P r → IsFalse s.trail lits
  search-falsified P r lits p q h = subst (IsFalse s.trail) (sym (causes-are P r lits p q h)) (causes-false s w i implied-here.0)

  pub search-next : (P : List StoredClause) (r : Reason) (lits : List Literal) (z : Marking) → P ≡ s.clauses → r ≡ (node_of s i).reason →
      lits ≡ causes_of P r → length y.flags ≡ length x.flags → Explores s lits true (record y { stack = left }) z → Search s l x z
  search-next P r lits z p q h n b =
      search-step z n (subst (λ c. Explores s c true (record y { stack = left }) z) (causes-are P r lits p q h) b)

  -- the search is given up
  pub search-listed : {lits : List Literal} {b : Bool} {z : Marking} → length y.flags ≡ length x.flags →
      Explores s lits b (record y { stack = left }) z → ListsNew x z
  search-listed {z = z} n k = listed-trans x y z n a.list (listed-from y z left k.list)

pub search-found : {s : View} {l : Literal} {x y : Marking} (left : List Literal) → y.stack ≡ [] → Search s l x y →
    FindsRedundancy s l true x (record y { stack = left })
search-found {s = s} {l = l} left e a = record {
  list = record {
    more = a.list.more;
    since = a.list.since;
    longer = a.list.longer;
    listed = a.list.listed;
    inside = a.list.inside;
    fresh =
        a.list.fresh;
    clause = a.list.clause;
    involved = a.list.involved;
    met = a.list.met;
  };
  reasoned = ⊎_elim (λ i. absurd (subst (λ q. opposite l ∈ q) e i)) (λ k. k) a.start;
  others = λ m i o. ⊎_elim inl (λ z. ⊎_elim (λ j. absurd (subst (λ q. m ∈ q) e j)) inr z) (a.reasoned m i o);
}

take-front : (t since : List ℕ) → take (length t) (t ++ since) ≡ t
take-front [] since = refl
take-front (x ∷ t) since = ap (λ y. x ∷ y) (take-front t since)

drop-front : (t since : List ℕ) → drop (length t) (t ++ since) ≡ since
drop-front [] since = refl
drop-front (x ∷ t) since = drop-front t since

drop-long : {X : Type 0} (k : ℕ) (xs : List X) → length (drop k xs) ≤ length xs - k
drop-long zero xs = omega arith
drop-long (suc k) [] = omega arith
drop-long (suc k) (x ∷ xs) = let e = drop-long k xs in omega (arith, e)

-- the end of a list, as it is read
pub part-is : {X : Type 0} (k : ℕ) (xs : List X) → take (length xs - k) (drop k xs) ≡ drop k xs
part-is k xs = take_all (length xs - k) (drop k xs) (drop-long k xs)

-- The part of the list from `top` on holds what was listed since.
pub record IsSince (x y : Marking) (top : ℕ) (vars part : List ℕ) : Type 0 where
  pub fits : top ≤ length vars
  pub inside : (v : ℕ) → v ∈ part → v < length x.flags
  pub top_is : top ≡ length x.to_clean
  pub list : ListsNew x y
  pub is : part ≡ list.since

pub is-since : {x y : Marking} {top : ℕ} {vars : List ℕ} → ListsNew x y → top ≡ length x.to_clean → vars ≡ y.to_clean →
    IsSince x y top vars (take (length vars - top) (drop top vars))
is-since {x = x} {y = y} {top = top} {vars = vars} a t e = record {
  fits = let n = length-append x.to_clean a.since in let p = ap (λ (q : List ℕ). length q) (e ∙ a.longer) in omega (arith, n, p, t);
  inside = λ v i. a.inside v (subst (λ q. v ∈ q) part-since i);
  top_is = t;
  list = a;
  is = part-since;
}
  where
    part-since : take (length vars - top) (drop top vars) ≡ a.since
    part-since = part-is top vars ∙ ap (λ q. drop top q) (e ∙ a.longer) ∙ ap (λ q. drop q (x.to_clean ++ a.since)) t ∙ drop-front x.to_clean a.since

-- what was marked since is cleared
pub since-cleared : {x y : Marking} {top : ℕ} {vars part : List ℕ} (s : View) (l : Literal) (flags : List Bool) (to_clean : List ℕ) →
    IsSince x y top vars part → to_clean ≡ take top y.to_clean → ((v : ℕ) → v ∈ part → get_or flags v false ≡ false) →
    ((v : ℕ) → (v ∈ part → ⊥) → get_or flags v false ≡ get_or y.flags v false) →
    FindsRedundancy s l false x (record y { flags = flags; to_clean = to_clean })
since-cleared {x = x} {y = y} {part = part} s l flags to_clean b q gone rest = record {
  flags = same;
  to_clean = q ∙ ap (λ k. take k y.to_clean) b.top_is ∙ ap (λ k. take (length x.to_clean) k) a.longer ∙ take-front x.to_clean a.since;
  clause = a.clause;
  involved = a.involved;
  met = a.met;
}
  where
    a : ListsNew x y
    a = b.list

    same : (v : ℕ) → get_or flags v false ≡ get_or x.flags v false
    same v = ⊎_elim
        (λ i. gone v (subst (λ k. v ∈ k) (sym b.is) i) ∙ sym (a.fresh v i))
        (λ n. rest v (λ i. n (subst (λ k. v ∈ k) b.is i)) ∙ ⊎_elim
        (λ (m : get_or y.flags v false ≡ true). m ∙ sym (⊎_elim (λ z. z) (λ z. absurd (n z)) (a.listed v m)))
        (λ (m : get_or y.flags v false ≡ false). m ∙ sym (fresh-before x.flags y.flags v (a.more v) m))
        (cases_Bool (get_or y.flags v false)))
        (∈-or_not v a.since)

-- the steps of the loop over the literals, as they read the flags
module _ {s : View} {x y : Marking} {lits : List Literal} {k m : ℕ} (p : IsAt s lits y.flags k m) (n : length y.flags ≡ length x.flags)
    (a : Explores s (take k lits) true x y) where
  pub explored-none : (level_of s m ≡ 0) ⊎ IsFlagged y.flags (variable_of m) → Explores s (take (k + 1) lits) true x y
  explored-none z = explores-more s lits k m x y y p.below p.element_is n a (explores-none s m y z)

  pub explored-one : (v : ℕ) (r : Reason) → v ≡ variable_of m → r ≡ (node_of s m).reason → (r ≡ reason.Unit → ⊥) →
      get_or y.flags (variable_of m) false ≡ false → (to_clean : List ℕ) (stack : List Literal) (u t : ℕ) → to_clean ≡ y.to_clean ++ u ∷ [] →
      u ≡ variable_of m → stack ≡ y.stack ++ t ∷ [] → t ≡ opposite m →
      Explores s (take (k + 1) lits) true x (record y { flags = set y.flags v true; to_clean = to_clean; stack = stack })
  explored-one v r o q c f to_clean stack u t ce ue se te =
      explores-more s lits k m x y (record y { flags = set y.flags v true; to_clean = to_clean; stack = stack }) p.below p.element_is n a
      (subst (λ j. Explores s (m ∷ []) true y j) (sym same) (explores-one s m y p.false_now (ap is_clause (sym q) ∙ has-clause r c) p.inside f))
    where
      same : record y { flags = set y.flags v true; to_clean = to_clean; stack = stack } ≡ explored y m
      same =
          ap (λ (j : ℕ). record y { flags = set y.flags j true; to_clean = to_clean; stack = stack }) o
          ∙ ap (λ (j : List ℕ). record y { flags = set y.flags (variable_of m) true; to_clean = j; stack = stack })
          (ce ∙ ap (λ (j : ℕ). y.to_clean ++ j ∷ []) ue)
          ∙ ap (λ (j : List ℕ). record y { flags = set y.flags (variable_of m) true; to_clean = y.to_clean ++ variable_of m ∷ []; stack = j })
          (se ∙ ap (λ (j : ℕ). y.stack ++ j ∷ []) te)

pub empty-list : (xs : List ℕ) → length xs ≡ 0 → xs ≡ []
empty-list [] e = refl
empty-list (x ∷ xs) e = absurd (omega (arith, e))
