-- What analysis found stays where only headers of clauses change.
use Rattle.std.proofs.Common.{◌≡◌, ℕ, List, [], ◌∷◌, refl, sym, subst}
use Rattle.varisat_theory.specs.promises.Membership.{◌∈◌, ◌⊆◌}
use Rattle.varisat_theory.specs.promises.Literals.{Literal, Clause, opposite}
use Rattle.varisat_theory.specs.promises.Analysis.{Reached, AtStart, InReason}
use Rattle.varisat_clause.specs.Stored.{StoredClause}
use Rattle.varisat_prop.specs.declared.prop.graph.Reason.{Reason}
use Rattle.varisat_prop.specs.declared.prop.graph.Reason.TheVariants as reason
use Rattle.varisat_prop.specs.declared.prop.graph.Conflict.{Conflict}
use Rattle.varisat_prop.specs.declared.prop.graph.Conflict.TheVariants as conflict
use Rattle.varisat_prop.specs.Changes.{named_in}
use Rattle.varisat_prop.specs.View.{View, node_of, WellFormed}
use Rattle.varisat_analysis.specs.Learned.{implying_clause, reason_clause, IsLaterInLevel, IsReachedDownTo, IsImplicationPoint, IsFirstPoint, IsLevelOf, IsAsserting, IsLearned}
use Rattle.varisat_analysis.specs.HeaderChanges.{SameButHeaders, ChangesHeaders}
use Rattle.varisat_analysis.proofs.SameButHeaders.{headers-at}
use Rattle.varisat_search.proofs.simplifying.HeaderChanges.{header-kept, header-well, header-fits}

-- from more literals more are reached
reached-more : (c d : Clause) (r q : Literal → Clause) (R : Literal → Type 0) → c ⊆ d → ((m : Literal) → r m ⊆ q m) → (l : Literal) →
    Reached c r R l → Reached d q R l
reached-more c d r q R f g l (AtStart i) = AtStart (f (opposite l) i)
reached-more c d r q R f g l (InReason m h b i n) = InReason m (reached-more c d r q R f g m h) b (g m (opposite l) i) n

module _ (s : View) (ks js : List StoredClause) (e : SameButHeaders ks js) where
  abbrev a : View
  a = record s { clauses = ks }

  abbrev b : View
  b = record s { clauses = js }

  named-same : (f : Conflict) → named_in js f ≡ named_in ks f
  named-same (conflict.Binary ms) = refl
  named-same (conflict.Long p) = headers-at ks js e p

  clause-same : (l : Literal) (r : Reason) → implying_clause b l r ≡ implying_clause a l r
  clause-same l reason.Unit = refl
  clause-same l (reason.Binary ms) = refl
  clause-same l (reason.Long p) = headers-at ks js e p

  pub reached-there : (f : Conflict) (k : ℕ) (l : Literal) → IsReachedDownTo a f k l → IsReachedDownTo b f k l
  reached-there f k l h =
      reached-more (named_in ks f) (named_in js f) (reason_clause a) (reason_clause b) (IsLaterInLevel s k)
      (λ x i. subst (λ c. x ∈ c) (sym (named-same f)) i) (λ m x i. subst (λ c. x ∈ c) (sym (clause-same m (node_of s m).reason)) i) l h

  level-there : (c : Clause) (level : ℕ) → IsLevelOf a c level → IsLevelOf b c level
  level-there [] level h = h
  level-there (m ∷ c) level h = h

point-there : (s : View) (ks js : List StoredClause) → SameButHeaders ks js → (f : Conflict) (k : ℕ) →
    IsImplicationPoint (record s { clauses = ks }) f k → IsImplicationPoint (record s { clauses = js }) f k
point-there s ks js e f k p = record {
  current = p.current;
  reached = reached-there s ks js e f k _ p.reached;
  alone = λ j h c r. p.alone j h c (reached-there s js ks (sym e) f k _ r);
}

first-there : (s : View) (ks js : List StoredClause) → SameButHeaders ks js → (f : Conflict) (k : ℕ) →
    IsFirstPoint (record s { clauses = ks }) f k → IsFirstPoint (record s { clauses = js }) f k
first-there s ks js e f k p = record {
  point = point-there s ks js e f k p.point;
  latest = λ j h q. p.latest j h (point-there s js ks (sym e) f j q);
}

asserting-there : (s : View) (ks js : List StoredClause) → SameButHeaders ks js → (f : Conflict) (c : Clause) (level : ℕ) →
    IsAsserting (record s { clauses = ks }) f c level → IsAsserting (record s { clauses = js }) f c level
asserting-there s ks js e f c level d = record {
  false_now = d.false_now;
  distinct = d.distinct;
  first = d.first;
  others = d.others;
  split = d.split;
  current = d.current;
  lower = d.lower;
  second = level-there s ks js e d.others level d.second;
  place = d.place;
  point = first-there s ks js e f d.place d.point;
  opposite_is = d.opposite_is;
}

pub learned-there : (s t : View) (f : Conflict) (c : Clause) (level : ℕ) → WellFormed s → ChangesHeaders s t → IsLearned s f c level → IsLearned t f c level
learned-there s t f c level w h d =
    let u : View = record s { clauses = t.clauses } in
    let there : ChangesHeaders s u = record { clauses = h.clauses; rest = refl } in
    let back : ChangesHeaders u s = record { clauses = sym h.clauses; rest = refl } in
    subst (λ (x : View). IsLearned x f c level) (sym h.rest) (record {
      follows = λ held g. d.follows held (header-fits u s (header-well s u w there) back held g);
      of_kept = λ m i. let (k, j, e) = d.of_kept m i in (k, subst (λ P. k ∈ P) (sym (header-kept s u w there)) j, e);
      at_zero = d.at_zero;
      above = λ o. asserting-there s s.clauses t.clauses h.clauses f c level (d.above o);
    })
