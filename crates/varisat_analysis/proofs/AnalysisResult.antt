-- The clause that `analyze_conflict` learns, from what each part of the analysis found.
use Rattle.std.proofs.Common.{◌≡◌, ℕ, ◌+◌, ◌<◌, ◌≤◌, Bool, true, false, List, [], ◌∷◌, length, get_or, inl, inr, ⊎_elim, refl, sym, ap, ◌∙◌, subst, arith}
use Rattle.std.proofs.lemmas.Bool.{cases_lt, cases_Bool}
use Rattle.varisat_theory.specs.promises.Membership.{◌∈◌, SameSet, IsDistinct}
use Rattle.varisat_theory.specs.promises.Literals.{Literal, Clause, opposite}
use Rattle.varisat_theory.specs.promises.Propagation.{Follows}
use Rattle.varisat_theory.proofs.clauses.Growth.{follows_more, covered_by_self}
use Rattle.varisat_theory.proofs.clauses.Implication.{implied_false}
use Rattle.varisat_theory.proofs.clauses.Members.{∈-or_not}
use Rattle.varisat_theory.proofs.clauses.Places.{∈-get_or, place_in}
use Rattle.varisat_theory.proofs.clauses.Values.{opposite_twice}
use Rattle.varisat_prop.specs.declared.prop.graph.Conflict.{Conflict}
use Rattle.varisat_theory.specs.promises.Analysis.{Reached, AtStart, InReason}
use Rattle.varisat_prop.specs.declared.prop.graph.Reason.{Reason}
use Rattle.varisat_prop.specs.declared.prop.graph.Reason.TheVariants as reason
use Rattle.varisat_prop.specs.Changes.{named_in, NamesKeptClause, IsConflicting}
use Rattle.varisat_prop.specs.View.{View, literal_at, node_of, level_of, is_clause, WellFormed, ViewFits}
use Rattle.varisat_prop.specs.Watches.{IsRearranged}
use Rattle.varisat_prop.proofs.watching.LongRearranged.{swap-rearranged, swap-at}
use Rattle.std.specs.List.{swap}
use Rattle.varisat_analysis.specs.Learned.{current_level, implying_clause, reason_clause, IsLaterInLevel, IsOfConflict, IsLevelOf, IsAsserting, IsOfKept, IsLearned, ListsInvolved}
use Rattle.varisat_analysis.specs.Bumps.{literals_among, AreVariablesAbove}
use Rattle.varisat_analysis.specs.Marks.{Marking, MarksAreListed, IsLower, IsResolved, Minimizes, Teaches}
use Rattle.varisat_analysis.proofs.WellFormedViews.{named-kept, reason-kept, level-opposite, level-small, fixed-implied}

-- a literal of the highest level was put first
pub record IsFronted (c d : Clause) (p : ℕ) : Type 0 where
  pub order : IsRearranged c d
  pub first : get_or d 0 0 ≡ get_or c p 0

pub fronted-now : (c d : Clause) (p : ℕ) → p < length c → d ≡ swap c 0 p → IsFronted c d p
fronted-now c d p h e = record { order = swap-rearranged c d 0 p (omega (arith, h)) h e; first = (swap-at c d 0 p (omega (arith, h)) h e).0 }

pub level-fronted : (s : View) (c d : Clause) (p r : ℕ) → IsFronted c d p →
    ((k : ℕ) → k < length c → level_of s (get_or c k 0) ≤ level_of s (get_or c p 0)) → r ≡ level_of s (get_or d 0 0) → 0 < length d → IsLevelOf s d r
level-fronted s c [] p r f h e n = absurd (omega (arith, n))
level-fronted s c (m ∷ d) p r f h e n =
    let g = ap (level_of s) f.first in
    (sym e, λ x i. let (j, a, q) = place_in x c 0 (f.order.same.0 x (inr i)) in let o = h j a in let z = ap (level_of s) q in omega (arith, o, z, e, g))

-- The places below `place` have literals of no higher level.
pub record Highest (s : View) (c : Clause) (best place : ℕ) : Type 0 where
  pub within : best < length c
  pub above : (k : ℕ) → k < place → level_of s (get_or c k 0) ≤ level_of s (get_or c best 0)

pub highest-start : (s : View) (c : Clause) → 0 < length c → Highest s c 0 1
highest-start s c h = record {
  within = h;
  above = λ k l. let e : k ≡ 0 = omega (arith, l) in let g = ap (λ i. level_of s (get_or c i 0)) e in
      omega (arith, g);
}

pub highest-same : (s : View) (c : Clause) (best place : ℕ) → level_of s (get_or c place 0) ≤ level_of s (get_or c best 0) →
    Highest s c best place → Highest s c best (place + 1)
highest-same s c best place l a = record {
  within = a.within;
  above = λ k h. ⊎_elim (λ (b : k < place). a.above k b)
      (λ (b : place ≤ k). let e : k ≡ place = omega (arith, b, h) in let g = ap (λ i. level_of s (get_or c i 0)) e in omega (arith, g, l)) (cases_lt k place);
}

pub highest-new : (s : View) (c : Clause) (best place : ℕ) → place < length c → level_of s (get_or c best 0) < level_of s (get_or c place 0) →
    Highest s c best place → Highest s c place (place + 1)
highest-new s c best place h l a = record {
  within = h;
  above = λ k o. ⊎_elim (λ (b : k < place). let z = a.above k b in omega (arith, z, l))
      (λ (b : place ≤ k). let e : k ≡ place = omega (arith, b, o) in let g = ap (λ i. level_of s (get_or c i 0)) e in omega (arith, g)) (cases_lt k place);
}

-- a clause with a literal is a reason's
has-literal : (l m : Literal) (s : View) (r : Reason) → m ∈ implying_clause s l r → is_clause r ≡ true
has-literal l m s reason.Unit h = absurd h
has-literal l m s (reason.Binary ms) h = refl
has-literal l m s (reason.Long p) h = refl

-- the opposite of a reached literal is one of a kept clause
reached-of-kept : (s : View) (w : WellFormed s) (cf : Conflict) (k : ℕ) (l : Literal) → NamesKeptClause s cf →
    Reached (named_in s.clauses cf) (reason_clause s) (IsLaterInLevel s k) l → IsOfKept s (opposite l)
reached-of-kept s w cf k l n (AtStart h) = let (d, i, same) = named-kept s w cf n in (d, i, same.1 (opposite l) h)
reached-of-kept s w cf k l n (InReason m r (j, a, c, e) h o) =
    let here : opposite l ∈ implying_clause s (literal_at s j) (node_of s (literal_at s j)).reason = subst (λ x. opposite l ∈ reason_clause s x) (sym e) h in
    let p = has-literal (literal_at s j) (opposite l) s (node_of s (literal_at s j)).reason here in
    let (d, i, same) = reason-kept s w j (node_of s (literal_at s j)).reason p (w.reason_is j c.0) in
    (d, i, same.1 (opposite l) here)

-- the clause is the first literal and what minimization left, in another order
module _ {s : View} {cf : Conflict} {first : Literal} {x y : Marking} (w : WellFormed s) (a : IsResolved s cf first x) (b : Minimizes s x y)
    (c new : Clause) (same : SameSet c y.clause) (distinct : IsDistinct c) (e : new ≡ first ∷ c) where
  lower : (m : Literal) → m ∈ c → IsLower s m
  lower m i = a.marks.lower m (b.minimized.part m (same.0 m i))

  learned-follows : (held : List Clause) → ViewFits held s → Follows held new
  learned-follows held k = subst (Follows held) (sym e)
      (follows_more held held (first ∷ y.clause) (first ∷ c) (covered_by_self held) (λ l. ⊎_elim inl (λ i. inr (same.1 l i)))
      (b.minimized.follows first held k (a.follows held k)))

  learned-asserting : (level : ℕ) → IsLevelOf s c level → IsAsserting s cf new level
  learned-asserting level l = subst (λ d. IsAsserting s cf d level) (sym e) record {
    false_now = λ m. ⊎_elim (λ i. subst (λ d. opposite d ∈ s.trail) (sym i) first-false) (λ i. (lower m i).false_now);
    distinct = ((λ i. let d = (lower first i).below in omega (arith, d, first-level)), distinct);
    first = first;
    others = c;
    split = refl;
    current = first-level;
    lower = λ m i. (lower m i).below;
    second = l;
    place = a.place;
    point = a.point;
    opposite_is = a.opposite_is;
  }
    where
      here : literal_at s a.place ≡ opposite first
      here = sym (opposite_twice (literal_at s a.place)) ∙ ap opposite (sym a.opposite_is)

      first-false : opposite first ∈ s.trail
      first-false = subst (λ d. d ∈ s.trail) here (∈-get_or s.trail a.place 0 a.point.point.current.0)

      first-level : level_of s first ≡ current_level s
      first-level = sym (level-opposite s first) ∙ ap (level_of s) (sym here) ∙ a.point.point.current.1

  first-of-kept : IsOfKept s first
  first-of-kept =
      let n = a.involved.named cf (a.involved.all cf (IsOfConflict refl)) in
      subst (IsOfKept s) (sym a.opposite_is) (reached-of-kept s w cf a.place (literal_at s a.place) n a.point.point.reached)

  pub learned-teaches : (level : ℕ) (involved : List Conflict) → IsLevelOf s c level → involved ≡ y.involved → Teaches s cf new involved level
  learned-teaches level involved l i = record {
    follows = learned-follows;
    of_kept = λ m i. ⊎_elim (λ q. subst (IsOfKept s) (sym q) first-of-kept) (λ j. (lower m j).of_kept) (subst (λ d. m ∈ d) e i);
    asserting = learned-asserting level l;
    involves = subst (ListsInvolved s cf) (sym (i ∙ b.involved)) a.involved;
  }

  pub learned-met : (involved : List Conflict) (met : List ℕ) → involved ≡ y.involved → met ≡ y.met →
      AreVariablesAbove s.nodes (literals_among s.clauses involved) met
  learned-met involved met i m =
      subst (λ fs. AreVariablesAbove s.nodes (literals_among s.clauses fs) met) (sym (i ∙ b.involved))
      (subst (AreVariablesAbove s.nodes (literals_among s.clauses x.involved)) (sym (m ∙ b.met)) a.met)

-- a conflict at level 0
pub learned-at-zero : (s : View) (w : WellFormed s) (cf : Conflict) (c : Clause) (level : ℕ) → IsConflicting s cf → current_level s ≡ 0 → c ≡ [] →
    level ≡ 0 → IsLearned s cf c level
learned-at-zero s w cf c level h z e l = subst (λ x. IsLearned s cf x level) (sym e) record {
  follows = λ held k.
      let (x, y, same) = named-kept s w cf h.0 in
      let (d, i, o) = k.stored x y in
      implied_false held [] d i (λ m j. let g = h.1 m (same.0 m (o.0 m j)) in
      fixed-implied s w held k m g (let x = level-small s w m g in omega (arith, x, z)));
  of_kept = λ m i. absurd i;
  at_zero = λ _. (refl, l);
  above = λ d. absurd (omega (arith, d, z));
}

-- no clause was resolved, and no variable met
pub met-none : (s : View) (involved : List Conflict) (met : List ℕ) → involved ≡ [] → met ≡ [] →
    AreVariablesAbove s.nodes (literals_among s.clauses involved) met
met-none s involved met i m = rw (i, m) record { distinct = tt; all = λ l h. absurd h; only = λ v h. absurd h }

-- once the listed variables are cleared no flag is set
pub none-left : {x : Marking} (first flags : List Bool) (met vars : List ℕ) → MarksAreListed x → met ≡ x.met → vars ≡ x.to_clean →
    ((v : ℕ) → v ∈ met → get_or first v false ≡ false) → ((v : ℕ) → (v ∈ met → ⊥) → get_or first v false ≡ get_or x.flags v false) →
    ((v : ℕ) → v ∈ vars → get_or flags v false ≡ false) → ((v : ℕ) → (v ∈ vars → ⊥) → get_or flags v false ≡ get_or first v false) → (v : ℕ) →
    get_or flags v false ≡ false
none-left {x = x} first flags met vars h em e gone rest gone2 rest2 v = ⊎_elim
    (λ i. gone2 v i)
    (λ n. rest2 v n ∙ ⊎_elim
    (λ i. gone v i)
    (λ k. rest v k ∙ ⊎_elim
    (λ m. ⊎_elim (λ j. absurd (k (subst (λ q. v ∈ q) (sym em) j))) (λ j. absurd (n (subst (λ q. v ∈ q) (sym e) j))) (h.marked v m))
    (λ m. m)
    (cases_Bool (get_or x.flags v false)))
    (∈-or_not v met))
    (∈-or_not v vars)
