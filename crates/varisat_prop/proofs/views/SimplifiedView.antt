-- A view at level 0 with other clauses in place of its own, which say nothing of variables that have a value.
use Rattle.std.proofs.Common.{◌≡◌, ◌≢◌, ℕ, ◌<◌, ◌*◌, true, false, List, [], ◌∷◌, length, get_or, inl, inr, ⊎_elim, refl, sym, ap, ◌∙◌, subst, arith}
use Rattle.varisat_theory.specs.promises.Membership.{◌∈◌, IsDistinct}
use Rattle.varisat_theory.specs.promises.Literals.{Literal, Clause, opposite, variable_of}
use Rattle.varisat_theory.proofs.clauses.Members.{∈-append_cases}
use Rattle.varisat_theory.proofs.clauses.Places.{∈-get_or}
use Rattle.varisat_theory.proofs.clauses.Values.{opposite_twice, variable-opposite}
use Rattle.varisat_clause.specs.Stored.{StoredClause, literals_of, IsClauseRef, AreRising}
use Rattle.varisat_prop.specs.declared.prop.graph.Reason.TheVariants as reason
use Rattle.varisat_prop.specs.View.{View, pairs_from, kept, clause_at, literal_at, node_at, IsReason, WellFormed, PropagatedBeforeDecisions}
use Rattle.varisat_prop.specs.Watches.{Watches, watches_of, literal_in, WatchesHoldTo, IsImpliedTo, IsPropagated}
use Rattle.varisat_prop.specs.Simplified.{is_unassigned, are_unassigned}
use Rattle.varisat_prop.proofs.pairs.KeptPairs.{pair-in, implied-kept}
use Rattle.varisat_prop.proofs.trails.LiteralValues.{none-made}
use Rattle.varisat_prop.proofs.pairs.SimplifiedPairs.{UnassignedPairs, unassigned-none, all-unassigned}
use Rattle.varisat_prop.proofs.views.WellFormedChanges.{MayBeKept, kept-here, well-kept}

-- The clauses and the pairs may be kept in place of those of the view.
pub record AreUnassigned (s : View) (P : List StoredClause) (C : List (List Literal)) : Type 0 where
  pub places : AreRising P
  pub clauses : (c : Clause) → c ∈ literals_of P → MayBeKept s c
  pub unassigned : (c : Clause) → c ∈ literals_of P → are_unassigned s.values c ≡ true
  pub pairs : UnassignedPairs s.values C

-- each literal of the trail is a unit
abbrev pub HasUnits : View → Type 0
HasUnits s = (k : ℕ) → k < length s.trail → (node_at s k).reason ≡ reason.Unit

module _ (s : View) (P : List StoredClause) (C : List (List Literal)) (r : AreUnassigned s P C) where
  abbrev pub simplified : View
  simplified = record s { clauses = P; binary = C }

  pair-is : (c : Clause) → c ∈ pairs_from 0 C → (l m : Literal) × (m ∈ get_or C l []) × (c ≡ opposite l ∷ m ∷ [])
  pair-is c h = pair-in C 0 c h

  pair-range : (l m : Literal) → m ∈ get_or C l [] → (x : Literal) → x ∈ (opposite l ∷ m ∷ []) → variable_of x < length s.values
  pair-range l m i x (inl e) = subst (λ y. variable_of y < length s.values) (sym e) (r.pairs.in_range (opposite m) (opposite l) (r.pairs.back l m i))
  pair-range l m i x (inr (inl e)) = subst (λ y. variable_of y < length s.values) (sym e) (r.pairs.in_range l m i)
  pair-range l m i x (inr (inr z)) = absurd z

  pair-unassigned : (l m : Literal) → m ∈ get_or C l [] → (x : Literal) → x ∈ (opposite l ∷ m ∷ []) → is_unassigned s.values x ≡ true
  pair-unassigned l m i x (inl e) = ap (is_unassigned s.values) e ∙ r.pairs.unassigned (opposite m) (opposite l) (r.pairs.back l m i)
  pair-unassigned l m i x (inr (inl e)) = ap (is_unassigned s.values) e ∙ r.pairs.unassigned l m i
  pair-unassigned l m i x (inr (inr z)) = absurd z

  pair-distinct : (l m : Literal) → m ∈ get_or C l [] → IsDistinct (opposite l ∷ m ∷ [])
  pair-distinct l m i = ((λ h. ⊎_elim (λ e. r.pairs.other l m i (sym e)) (λ z. absurd z) h), ((λ z. absurd z), tt))

  pair-may : (c : Clause) → c ∈ pairs_from 0 C → MayBeKept s c
  pair-may c h =
      let (l, m, i, e) = pair-is c h in
      subst (MayBeKept s) (sym e) (record { in_range = pair-range l m i; several = omega arith; distinct = pair-distinct l m i })

  -- no literal of a clause has a value
  pub kept-unassigned : (c : Clause) → c ∈ kept simplified → (x : Literal) → x ∈ c → is_unassigned s.values x ≡ true
  kept-unassigned c h x i = ⊎_elim
      (λ j. all-unassigned s.values c (r.unassigned c j) x i)
      (λ j. let (l, m, k, e) = pair-is c j in pair-unassigned l m k x (subst (λ d. x ∈ d) e i))
      (∈-append_cases c (literals_of P) (pairs_from 0 C) h)

  kept-may-be : (c : Clause) → c ∈ kept simplified → MayBeKept s c
  kept-may-be c h = ⊎_elim (r.clauses c) (pair-may c) (∈-append_cases c (literals_of P) (pairs_from 0 C) h)

  pub well-simplified : WellFormed s → HasUnits s → s.decisions ≡ [] → WellFormed simplified
  well-simplified w u d =
      well-kept s P C s.queue_head w
      (record {
        places = r.places;
        each = λ c h. let k = kept-may-be c h in record { in_range = k.in_range; several = k.several; distinct = k.distinct };
        back = r.pairs.back;
        other = r.pairs.other;
        head = w.head;
        reasons = λ k h. subst (IsReason simplified k) (sym (u k h)) (subst (IsReason s k) (u k h) (w.reason_is k h));
      })

-- at level 0 no level has begun
pub settled-undecided : (s : View) → s.decisions ≡ [] → PropagatedBeforeDecisions s
settled-undecided s d j h = let n = ap (λ (x : List ℕ). length x) d in absurd (omega (arith, h, n))

-- The kept clauses say nothing of variables that have a value.
module _ (t : View) (w : WellFormed t) (free : (c : Clause) → c ∈ kept t → (l : Literal) → l ∈ c → is_unassigned t.values l ≡ true) where
  -- no literal of the trail makes one of theirs false
  not-false : (c : Clause) → c ∈ kept t → (k : ℕ) → k < length t.trail → (l : Literal) → l ∈ c → literal_at t k ≢ opposite l
  not-false c h k b l i e = none-made t.values l (literal_at t k) (unassigned-none t.values l (free c h l i))
      (ap variable_of e ∙ variable-opposite l) (w.is_true k b)

  watched-in : (i j : ℕ) → IsClauseRef t.clauses i → j < 2 → literal_in (clause_at t i) j ∈ clause_at t i
  watched-in i j a l = ∈-get_or (clause_at t i) j 0 (let n = w.several (clause_at t i) (kept-here t i a) in omega (arith, l, n))

  -- the watches hold to the trail's end
  pub settled-unassigned : WatchesHoldTo t t.queue_head
  settled-unassigned i j p a l h g =
      absurd (not-false (clause_at t i) (kept-here t i a) p (let q = w.head in omega (arith, h, q)) (literal_in (clause_at t i) j) (watched-in i j a l) g)

  pub implied-unassigned : IsImpliedTo t t.queue_head
  implied-unassigned m p h i = absurd (
      let q = w.head in
      let (c, k, same) = implied-kept t w (literal_at t p) m i in
      not-false c k p (omega (arith, h, q)) (opposite (literal_at t p)) (same.1 (opposite (literal_at t p)) (inr (inl refl)))
      (sym (opposite_twice (literal_at t p)))
      )

  -- The lists of watches are off.
  pub propagated-unassigned : (W : Watches) → length W.lists ≡ 2 * length t.values → W.enabled ≡ false → ((x : Literal) → watches_of W x ≡ []) →
      length t.binary ≡ 2 * length t.values → t.decisions ≡ [] → IsPropagated W t
  propagated-unassigned W n off e b d = record {
    lists = n;
    watching = λ on. absurd (apart (sym off ∙ on));
    empty = λ o. e;
    settled = settled-unassigned;
    binary = b;
    implied = implied-unassigned;
    queue = λ j h. let l = ap (λ (x : List ℕ). length x) d in absurd (omega (arith, h, l));
  }
    where
      apart : false ≡ true → ⊥
      apart e = cc
