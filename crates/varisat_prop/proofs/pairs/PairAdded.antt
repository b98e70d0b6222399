-- One more clause of two literals.
use Rattle.std.proofs.Common.{◌≡◌, ◌≢◌, ℕ, zero, suc, ◌+◌, ◌<◌, ◌≤◌, Bool, true, false, nat_lt, List, [], ◌∷◌, ◌++◌, length, get_or, ◌⊎◌, inl, inr, ⊎_elim, refl, sym, ap, ◌∙◌, subst, arith, get_or-set_same, get_or-set_other, length-set, length-append}
use Rattle.std.specs.Prelude.{cond}
use Rattle.std.proofs.lemmas.List.{get_or_append_left, append_assoc}
use Rattle.std.proofs.lemmas.Bool.{cases_lt, lt-ltb}
use Rattle.varisat_theory.specs.promises.Membership.{◌∈◌, SameSet, IsDistinct}
use Rattle.varisat_theory.specs.promises.Literals.{Literal, Clause, opposite, variable_of}
use Rattle.varisat_theory.proofs.clauses.Members.{equal_or_not, ∈-append_left, ∈-append_right, ∈-append_cases}
use Rattle.varisat_theory.proofs.clauses.Values.{opposite_twice}
use Rattle.varisat_prop.specs.declared.prop.graph.Reason.{Reason}
use Rattle.varisat_prop.specs.declared.prop.graph.Reason.TheVariants as reason
use Rattle.varisat_clause.specs.Stored.{literals_of}
use Rattle.varisat_prop.specs.View.{View, pairs_with, pairs_from, kept, clause_at, literal_at, node_at, decision_at, Implies, IsReason, WellFormed}
use Rattle.varisat_prop.specs.Changes.{enqueued}
use Rattle.varisat_prop.specs.Pairs.{with_implied, with_pair, Inserts, AddsPair}
use Rattle.varisat_prop.specs.Watches.{Watches, IsCovered, IsImpliedTo, IsPropagated}
use Rattle.varisat_prop.proofs.pairs.KeptPairs.{is-not-less, turned}
use Rattle.varisat_prop.proofs.trails.TrailExtend.{get_or-last}
use Rattle.varisat_prop.proofs.watching.WatchKept.{propagated-enqueued}
use Rattle.varisat_prop.proofs.views.WellFormedChanges.{MayBeKept, well-kept}

-- 1. One literal at the end of a list.
module _ (B : List (List Literal)) (x m : Literal) (inside : x < length B) where
  abbrev ms : List Literal
  ms = get_or B x [] ++ m ∷ []

  own : get_or (with_implied B x m) x [] ≡ ms
  own = get_or-set_same B x ms [] inside

  push-old : (y n : Literal) → n ∈ get_or B y [] → n ∈ get_or (with_implied B x m) y []
  push-old y n h = ⊎_elim
      (λ e. subst (λ z. n ∈ get_or (with_implied B x m) z []) (sym e)
      (subst (λ zs. n ∈ zs) (sym own) (∈-append_left n (get_or B x []) (m ∷ []) (subst (λ z. n ∈ get_or B z []) e h))))
      (λ d. subst (λ zs. n ∈ zs) (sym (get_or-set_other B x y ms [] d)) h)
      (equal_or_not y x)

  push-here : m ∈ get_or (with_implied B x m) x []
  push-here = subst (λ zs. m ∈ zs) (sym own) (∈-append_right m (get_or B x []) (m ∷ []) (inl refl))

  push-new : (y n : Literal) → n ∈ get_or (with_implied B x m) y [] → (n ∈ get_or B y []) ⊎ ((y ≡ x) × (n ≡ m))
  push-new y n h = ⊎_elim
      (λ e. ⊎_elim
      (λ k. inl (subst (λ z. n ∈ get_or B z []) (sym e) k))
      (λ k. ⊎_elim (λ f. inr (e, f)) (λ f. absurd f) k)
      (∈-append_cases n (get_or B x []) (m ∷ []) (subst (λ zs. n ∈ zs) own (subst (λ z. n ∈ get_or (with_implied B x m) z []) e h))))
      (λ d. inl (subst (λ zs. n ∈ zs) (get_or-set_other B x y ms [] d) h))
      (equal_or_not y x)

-- 2. The clauses of two literals after it: one is inserted, or none.
with-last : (x : Literal) (ms : List Literal) (m : Literal) → x < m → pairs_with x (ms ++ m ∷ []) ≡ pairs_with x ms ++ (x ∷ m ∷ []) ∷ []
with-last x [] m l = rw (lt-ltb x m l) refl
with-last x (n ∷ ms) m l = go (nat_lt x n) (with-last x ms m l)
  where
    go : (b : Bool) → pairs_with x (ms ++ m ∷ []) ≡ pairs_with x ms ++ (x ∷ m ∷ []) ∷ [] →
        cond b ((x ∷ n ∷ []) ∷ pairs_with x (ms ++ m ∷ [])) (pairs_with x (ms ++ m ∷ [])) ≡ cond b ((x ∷ n ∷ []) ∷ pairs_with x ms)
        (pairs_with x ms) ++ (x ∷ m ∷ []) ∷ []
    go true e = ap (λ cs. (x ∷ n ∷ []) ∷ cs) e
    go false e = e

with-none : (x : Literal) (ms : List Literal) (m : Literal) → (x < m → ⊥) → pairs_with x (ms ++ m ∷ []) ≡ pairs_with x ms
with-none x [] m l = rw (is-not-less x m l) refl
with-none x (n ∷ ms) m l = go (nat_lt x n) (with-none x ms m l)
  where
    go : (b : Bool) → pairs_with x (ms ++ m ∷ []) ≡ pairs_with x ms →
        cond b ((x ∷ n ∷ []) ∷ pairs_with x (ms ++ m ∷ [])) (pairs_with x (ms ++ m ∷ [])) ≡ cond b ((x ∷ n ∷ []) ∷ pairs_with x ms) (pairs_with x ms)
    go true e = ap (λ cs. (x ∷ n ∷ []) ∷ cs) e
    go false e = e

inserts-before : (before cs ds : List Clause) (p : Clause) → Inserts cs ds p → Inserts (before ++ cs) (before ++ ds) p
inserts-before before cs ds p i = record {
  front = before ++ i.front;
  back = i.back;
  old = ap (λ x. before ++ x) i.old ∙ sym (append_assoc before i.front i.back);
  new = ap (λ x. before ++ x) i.new ∙ sym (append_assoc before i.front (p ∷ i.back));
}

insert-one : (B : List (List Literal)) (k x m : ℕ) → x < length B → opposite (k + x) < m →
    Inserts (pairs_from k B) (pairs_from k (with_implied B x m)) (opposite (k + x) ∷ m ∷ [])
insert-one [] k x m h l = absurd (omega (arith, h))
insert-one (ms ∷ B) k zero m h l =
    let e : k + 0 ≡ k = omega arith in
    let p : Clause = opposite k ∷ m ∷ [] in
    subst (λ y. Inserts (pairs_from k (ms ∷ B)) (pairs_from k (with_implied (ms ∷ B) 0 m)) (opposite y ∷ m ∷ [])) (sym e)
    (record {
      front = pairs_with (opposite k) ms;
      back = pairs_from (suc k) B;
      old = refl;
      new = ap (λ cs. cs ++ pairs_from (suc k) B) (with-last (opposite k) ms m (subst (λ y. opposite y < m) e l))
          ∙ append_assoc (pairs_with (opposite k) ms) (p ∷ []) (pairs_from (suc k) B);
    })
insert-one (ms ∷ B) k (suc x) m h l =
    let e : k + suc x ≡ suc k + x = omega arith in
    subst (λ y. Inserts (pairs_from k (ms ∷ B)) (pairs_from k (with_implied (ms ∷ B) (suc x) m)) (opposite y ∷ m ∷ [])) (sym e)
    (inserts-before (pairs_with (opposite k) ms) (pairs_from (suc k) B) (pairs_from (suc k) (with_implied B x m)) (opposite (suc k + x) ∷ m ∷ [])
    (insert-one B (suc k) x m (omega (arith, h)) (subst (λ y. opposite y < m) e l)))

insert-none : (B : List (List Literal)) (k x m : ℕ) → x < length B → (opposite (k + x) < m → ⊥) → pairs_from k (with_implied B x m) ≡ pairs_from k B
insert-none [] k x m h l = absurd (omega (arith, h))
insert-none (ms ∷ B) k zero m h l =
    let e : k + 0 ≡ k = omega arith in
    ap (λ cs. cs ++ pairs_from (suc k) B) (with-none (opposite k) ms m (subst (λ y. opposite y < m → ⊥) e l))
insert-none (ms ∷ B) k (suc x) m h l =
    let e : k + suc x ≡ suc k + x = omega arith in
    ap (λ cs. pairs_with (opposite k) ms ++ cs) (insert-none B (suc k) x m (omega (arith, h)) (subst (λ y. opposite y < m → ⊥) e l))

-- 3. A clause of a and b, which are different.
module _ (B : List (List Literal)) (a b : Literal) (first : opposite a < length B) (second : opposite b < length B) where
  abbrev C : List (List Literal)
  C = with_implied B (opposite a) b

  same-count : length C ≡ length B
  same-count = length-set B (opposite a) (get_or B (opposite a) [] ++ b ∷ [])

  second-inside : opposite b < length C
  second-inside = let n = same-count in omega (arith, n, second)

  pub adds-pair : AddsPair B (with_pair B a b) a b
  adds-pair = record {
    count = length-set C (opposite b) (get_or C (opposite b) [] ++ a ∷ []) ∙ same-count;
    old = λ z w i. push-old C (opposite b) a second-inside z w (push-old B (opposite a) b first z w i);
    first = push-old C (opposite b) a second-inside (opposite a) b (push-here B (opposite a) b first);
    second = push-here C (opposite b) a second-inside;
    new = λ z w i. ⊎_elim (λ j. ⊎_elim inl (λ o. inr (inl o)) (push-new B (opposite a) b first z w j)) (λ o. inr (inr o))
        (push-new C (opposite b) a second-inside z w i);
  }

  -- a literal is implied from the other end too still, and no clause has a literal and its opposite
  pub back-more : ((l m : Literal) → m ∈ get_or B l [] → opposite l ∈ get_or B (opposite m) []) → (l m : Literal) →
      m ∈ get_or (with_pair B a b) l [] → opposite l ∈ get_or (with_pair B a b) (opposite m) []
  back-more back l m h = ⊎_elim
      (λ k. adds-pair.old (opposite m) (opposite l) (back l m k))
      (λ o. ⊎_elim
      (λ (e, f). subst (λ x. x ∈ get_or (with_pair B a b) (opposite m) []) (sym (ap opposite e ∙ opposite_twice a))
      (subst (λ x. a ∈ get_or (with_pair B a b) (opposite x) []) (sym f) adds-pair.second))
      (λ (e, f). subst (λ x. x ∈ get_or (with_pair B a b) (opposite m) []) (sym (ap opposite e ∙ opposite_twice b))
      (subst (λ x. b ∈ get_or (with_pair B a b) (opposite x) []) (sym f) adds-pair.first))
      o)
      (adds-pair.new l m h)

  pub other-more : a ≢ b → ((l m : Literal) → m ∈ get_or B l [] → m ≢ opposite l) → (l m : Literal) → m ∈ get_or (with_pair B a b) l [] → m ≢ opposite l
  other-more n other l m h e = ⊎_elim
      (λ k. other l m k e)
      (λ o. ⊎_elim
      (λ (f, d). n (sym (opposite_twice a) ∙ sym (ap opposite f) ∙ sym e ∙ d))
      (λ (f, d). n (sym d ∙ e ∙ ap opposite f ∙ opposite_twice b))
      o)
      (adds-pair.new l m h)

  low : (x : Literal) → opposite (0 + opposite x) ≡ x
  low x = let e : 0 + opposite x ≡ opposite x = omega arith in ap opposite e ∙ opposite_twice x

  pub inserts-pair : a ≢ b → (p : Clause) × Inserts (pairs_from 0 B) (pairs_from 0 (with_pair B a b)) p × SameSet p (a ∷ b ∷ [])
      × ((p ≡ a ∷ b ∷ []) ⊎ (p ≡ b ∷ a ∷ []))
  inserts-pair n = ⊎_elim
      (λ l. (
        a ∷ b ∷ [],
        subst (λ x. Inserts (pairs_from 0 B) (pairs_from 0 (with_pair B a b)) (x ∷ b ∷ [])) (low a)
            (subst (λ cs. Inserts (pairs_from 0 B) cs (opposite (0 + opposite a) ∷ b ∷ []))
            (sym (insert-none C 0 (opposite b) a second-inside (subst (λ x. x < a → ⊥) (sym (low b)) (λ k. absurd (omega (arith, k, l))))))
            (insert-one B 0 (opposite a) b first (subst (λ x. x < b) (sym (low a)) l))),
        ((λ x h. h), (λ x h. h)),
        inl refl,
      ))
      (λ l. let k : b < a = lower l in (
        b ∷ a ∷ [],
        subst (λ x. Inserts (pairs_from 0 B) (pairs_from 0 (with_pair B a b)) (x ∷ a ∷ [])) (low b)
            (subst (λ cs. Inserts cs (pairs_from 0 (with_pair B a b)) (opposite (0 + opposite b) ∷ a ∷ []))
            (insert-none B 0 (opposite a) b first (subst (λ x. x < b → ⊥) (sym (low a)) (λ j. absurd (omega (arith, k, j)))))
            (insert-one C 0 (opposite b) a second-inside (subst (λ x. x < a) (sym (low b)) k))),
        turned b a,
        inr refl,
      ))
      (cases_lt a b)
    where
      lower : b ≤ a → b < a
      lower h = grind (arith, n, h)

-- 4. What is kept then, and that the view stays well formed.
module _ (s : View) (a b : Literal) (first : opposite a < length s.binary) (second : opposite b < length s.binary) (other : a ≢ b) where
  abbrev more : View
  more = record s { binary = with_pair s.binary a b }

  pub kept-inserted : (p : Clause) × Inserts (kept s) (kept more) p × SameSet p (a ∷ b ∷ []) × ((p ≡ a ∷ b ∷ []) ⊎ (p ≡ b ∷ a ∷ []))
  kept-inserted = let (p, i, same, is) = inserts-pair s.binary a b first second other in
      (p, inserts-before (literals_of s.clauses) (pairs_from 0 s.binary) (pairs_from 0 more.binary) p i, same, is)

  kept-cases : (c : Clause) → c ∈ kept more → (c ∈ kept s) ⊎ ((c ≡ a ∷ b ∷ []) ⊎ (c ≡ b ∷ a ∷ []))
  kept-cases c h =
      let (p, i, same, is) = kept-inserted in
      ⊎_elim
      (λ k. inl (subst (λ cs. c ∈ cs) (sym i.old) (∈-append_left c i.front i.back k)))
      (λ k. ⊎_elim
      (λ e. inr (⊎_elim (λ f. inl (e ∙ f)) (λ f. inr (e ∙ f)) is))
      (λ j. inl (subst (λ cs. c ∈ cs) (sym i.old) (∈-append_right c i.front i.back j)))
      k)
      (∈-append_cases c i.front (p ∷ i.back) (subst (λ cs. c ∈ cs) i.new h))

  -- what holds of the clauses that were kept, and of the new one in both orders
  kept-all : (P : Clause → Type 0) → ((c : Clause) → c ∈ kept s → P c) → P (a ∷ b ∷ []) → P (b ∷ a ∷ []) → (c : Clause) → c ∈ kept more → P c
  kept-all P f g h c i = ⊎_elim (f c) (λ o. ⊎_elim (λ e. subst P (sym e) g) (λ e. subst P (sym e) h) o) (kept-cases c i)

  same-implies : (c : Clause) (k : ℕ) → Implies s c k → Implies more c k
  same-implies [] k h = h
  same-implies (x ∷ c) k h = h

  reason-stays : (k : ℕ) (r : Reason) → IsReason s k r → IsReason more k r
  reason-stays k reason.Unit h = h
  reason-stays k (reason.Binary xs) (m, e, h, o) = (m, e, (adds-pair s.binary a b first second).old (opposite m) (literal_at s k) h, o)
  reason-stays k (reason.Long i) (h, g) = (h, same-implies (clause_at s i) k g)

  pub well-pair : WellFormed s → variable_of a < length s.values → variable_of b < length s.values → WellFormed more
  well-pair w i j =
      well-kept s s.clauses more.binary s.queue_head w
      (record {
        places = w.places;
        each = kept-all (MayBeKept more) (λ c h. record { in_range = w.in_range c h; several = w.several c h; distinct = w.distinct c h })
            (record { in_range = range a b i j; several = omega arith; distinct = different a b other })
            (record { in_range = range b a j i; several = omega arith; distinct = different b a (λ e. other (sym e)) });
        back = back-more s.binary a b first second w.binary_back;
        other = other-more s.binary a b first second other w.binary_other;
        head = w.head;
        reasons = λ k h. reason-stays k (node_at s k).reason (w.reason_is k h);
      })
    where
      range : (x y : Literal) → variable_of x < length s.values → variable_of y < length s.values → (l : Literal) → l ∈ (x ∷ y ∷ []) →
          variable_of l < length s.values
      range x y h k l (inl e) = subst (λ z. variable_of z < length s.values) (sym e) h
      range x y h k l (inr (inl e)) = subst (λ z. variable_of z < length s.values) (sym e) k
      range x y h k l (inr (inr z)) = absurd z

      different : (x y : Literal) → x ≢ y → IsDistinct (x ∷ y ∷ [])
      different x y d = ((λ h. ⊎_elim d (λ z. absurd z) h), ((λ z. absurd z), tt))

  -- 5. Propagation.
  -- The watches hold still for what is implied where each of the two that is false before place q has the other beside it.
  pub implied-more : (q : ℕ) → ((k : ℕ) → k < q → literal_at s k ≡ opposite a → IsCovered s (b ∷ []) k) →
      ((k : ℕ) → k < q → literal_at s k ≡ opposite b → IsCovered s (a ∷ []) k) → IsImpliedTo s q → IsImpliedTo more q
  implied-more q f g st = λ m k h i. ⊎_elim (st m k h) (λ o. ⊎_elim
      (λ (e, z). subst (λ x. IsCovered s (x ∷ []) k) (sym z) (f k h e))
      (λ (e, z). subst (λ x. IsCovered s (x ∷ []) k) (sym z) (g k h e))
      o) ((adds-pair s.binary a b first second).new (literal_at s k) m i)

  -- A loaded clause of two literals, after which no literal counts as propagated.
  pub propagated-loaded-pair : (W : Watches) → IsPropagated W s → s.decisions ≡ [] →
      IsPropagated W (record s { binary = with_pair s.binary a b; queue_head = 0 })
  propagated-loaded-pair W w e = record {
    lists = w.lists;
    watching = w.watching;
    empty = w.empty;
    settled = λ i j p k l h. absurd (omega (arith, l));
    binary = (adds-pair s.binary a b first second).count ∙ w.binary;
    implied = λ m p h i. absurd (omega (arith, h));
    queue = λ j h. let n = ap (λ (x : List ℕ). length x) e in absurd (omega (arith, h, n));
  }

-- A learned clause of two literals, the first of which becomes true with it. The second is false at the present level.
module _ (s : View) (a b : Literal) (first : opposite a < length s.binary) (second : opposite b < length s.binary) (other : a ≢ b) where
  pub propagated-learned-pair : (W : Watches) (r : Reason) → WellFormed s → IsPropagated W s
      → ((k : ℕ) → k < s.queue_head → literal_at s k ≢ opposite a)
      → ((k : ℕ) → k < s.queue_head → literal_at s k ≡ opposite b → (j : ℕ) → j < length s.decisions → decision_at s j ≤ k)
      → IsPropagated W (enqueued (record s { binary = with_pair s.binary a b }) a r)
  propagated-learned-pair W r f w n o =
      let g = propagated-enqueued W s a r f w in
      let m = length-append s.trail (a ∷ []) in
      let keep : (k : ℕ) → k < s.queue_head → literal_at (enqueued s a r) k ≡ literal_at s k =
      λ k h. get_or_append_left s.trail (a ∷ []) 0 k (let u = f.head in omega (arith, h, u)) in
      record {
        lists = g.lists;
        watching = g.watching;
        empty = g.empty;
        settled = g.settled;
        binary = (adds-pair s.binary a b first second).count ∙ g.binary;
        implied = implied-more (enqueued s a r) a b first second other s.queue_head
            (λ k h e. absurd (n k h (sym (keep k h) ∙ e)))
            (λ k h e. (
              length s.trail,
              omega (arith, m),
              inl (get_or-last s.trail a 0),
              λ j d z. let u = o k h (sym (keep k h) ∙ e) j d in
                  absurd (omega (arith, u, z)),
            ))
            g.implied;
        queue = g.queue;
      }
