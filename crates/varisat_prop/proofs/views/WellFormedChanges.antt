-- A view stays well formed where only its clauses and its queue's head change.
use Rattle.std.proofs.Common.{◌≡◌, ◌≢◌, ℕ, ◌<◌, ◌≤◌, List, [], ◌∷◌, ◌++◌, ⊎_elim, length, refl, sym, subst}
use Rattle.varisat_theory.specs.promises.Membership.{◌∈◌, IsDistinct}
use Rattle.varisat_theory.proofs.clauses.Members.{∈-append_left, ∈-append_right, ∈-append_cases}
use Rattle.varisat_clause.proofs.StoredClauses.{kept-at}
use Rattle.varisat_theory.specs.promises.Literals.{Literal, Clause, opposite, variable_of}
use Rattle.varisat_prop.specs.declared.prop.graph.Reason.{Reason}
use Rattle.varisat_prop.specs.declared.prop.graph.Reason.TheVariants as reason
use Rattle.varisat_clause.specs.Stored.{StoredClause, literals_of, literals_at, IsClauseRef, AreRising}
use Rattle.varisat_prop.specs.View.{View, pairs_from, kept, implied_by, clause_at, node_at, Implies, IsReason, WellFormed}

-- what a well-formed view asks of each clause that is kept
pub record MayBeKept (s : View) (c : Clause) : Type 0 where
  pub in_range : (l : Literal) → l ∈ c → variable_of l < length s.values
  pub several : 2 ≤ length c
  pub distinct : IsDistinct c

pub kept-may : (s : View) → WellFormed s → (c : Clause) → c ∈ kept s → MayBeKept s c
kept-may s w c h = record { in_range = w.in_range c h; several = w.several c h; distinct = w.distinct c h }

-- a clause of the store is kept
pub stored-kept : (s : View) (c : Clause) → c ∈ literals_of s.clauses → c ∈ kept s
stored-kept s c h = ∈-append_left c (literals_of s.clauses) (pairs_from 0 s.binary) h

pub kept-here : (s : View) (i : ℕ) → IsClauseRef s.clauses i → clause_at s i ∈ kept s
kept-here s i a = stored-kept s (clause_at s i) (kept-at s.clauses i a)

-- what may be kept of other clauses and the same pairs
may-each : (s : View) (P : List StoredClause) → WellFormed s → ((c : Clause) → c ∈ literals_of P → MayBeKept s c) → (c : Clause) →
    c ∈ (literals_of P ++ pairs_from 0 s.binary) → MayBeKept s c
may-each s P w m c h = ⊎_elim (m c) (λ i. kept-may s w c (∈-append_right c (literals_of s.clauses) (pairs_from 0 s.binary) i))
    (∈-append_cases c (literals_of P) (pairs_from 0 s.binary) h)

-- The clauses of a view may all be kept, and its queue's head is not past the end.
pub record MayAllBeKept (s : View) : Type 0 where
  pub places : AreRising s.clauses
  pub each : (c : Clause) → c ∈ kept s → MayBeKept s c
  pub back : (l m : Literal) → m ∈ implied_by s l → opposite l ∈ implied_by s (opposite m)
  pub other : (l m : Literal) → m ∈ implied_by s l → m ≢ opposite l
  pub head : s.queue_head ≤ length s.trail
  pub reasons : (k : ℕ) → k < length s.trail → IsReason s k (node_at s k).reason

-- other clauses, and another place of the queue's head
pub well-kept : (s : View) (P : List StoredClause) (B : List (List Literal)) (h : ℕ) → WellFormed s →
    MayAllBeKept (record s { clauses = P; binary = B; queue_head = h }) → WellFormed (record s { clauses = P; binary = B; queue_head = h })
well-kept s P B h w m = record {
  sound = w.sound;
  nodes_are = w.nodes_are;
  small = w.small;
  places = m.places;
  in_range = λ c i. (m.each c i).in_range;
  several = λ c i. (m.each c i).several;
  distinct = λ c i. (m.each c i).distinct;
  binary_back = m.back;
  binary_other = m.other;
  is_true = w.is_true;
  stands = w.stands;
  head = m.head;
  depth_is = w.depth_is;
  decided = w.decided;
  rising = w.rising;
  levels_to = w.levels_to;
  levels_up = w.levels_up;
  levels_down = w.levels_down;
  reason_is = m.reasons;
}

pub well-changed : (s : View) (P : List StoredClause) (h : ℕ) → WellFormed s → AreRising P → ((c : Clause) → c ∈ literals_of P → MayBeKept s c) →
    ((k : ℕ) → k < length s.trail → IsReason (record s { clauses = P; queue_head = h }) k (node_at s k).reason) → h ≤ length s.trail →
    WellFormed (record s { clauses = P; queue_head = h })
well-changed s P h w r m q l =
    well-kept s P s.binary h w
    (record {
      places = r;
      each = λ c i. let k = may-each s P w m c i in record { in_range = k.in_range; several = k.several; distinct = k.distinct };
      back = w.binary_back;
      other = w.binary_other;
      head = l;
      reasons = q;
    })

-- only the queue's head is moved
pub well-moved : (s : View) (h : ℕ) → WellFormed s → h ≤ length s.trail → WellFormed (record s { queue_head = h })
well-moved s h w l = well-changed s s.clauses h w w.places (λ c i. kept-may s w c (stored-kept s c i)) w.reason_is l

-- The clauses may be kept in place of those of the view.
pub record AreWellKept (s : View) (P : List StoredClause) : Type 0 where
  pub places : AreRising P
  pub in_range : (c : Clause) → c ∈ literals_of P → (l : Literal) → l ∈ c → variable_of l < length s.values
  pub several : (c : Clause) → c ∈ literals_of P → 2 ≤ length c
  pub distinct : (c : Clause) → c ∈ literals_of P → IsDistinct c
  -- a clause that is a reason stays as it is
  pub reasons : (k p : ℕ) → k < length s.trail → (node_at s k).reason ≡ reason.Long p → IsClauseRef s.clauses p → IsClauseRef P p × (literals_at P p ≡ clause_at s p)

pub well-with : (s : View) (P : List StoredClause) (head : ℕ) → WellFormed s → AreWellKept s P → head ≤ length s.trail →
    WellFormed (record s { clauses = P; queue_head = head })
well-with s P head w q h =
    well-changed s P head w q.places (λ c i. record { in_range = q.in_range c i; several = q.several c i; distinct = q.distinct c i })
    (λ k b. stays k (node_at s k).reason (λ p e. q.reasons k p b e) (w.reason_is k b)) h
  where
    same-implies : (k : ℕ) (c : Clause) → Implies s c k → Implies (record s { clauses = P; queue_head = head }) c k
    same-implies k [] g = g
    same-implies k (x ∷ c) g = g

    stays : (k : ℕ) (r : Reason) → ((p : ℕ) → r ≡ reason.Long p → IsClauseRef s.clauses p → IsClauseRef P p × (literals_at P p ≡ clause_at s p)) →
        IsReason s k r → IsReason (record s { clauses = P; queue_head = head }) k r
    stays k reason.Unit n g = g
    stays k (reason.Binary ms) n g = g
    stays k (reason.Long p) n (a, g) = let (b, e) = n p refl a in
        (b, subst (λ c. Implies (record s { clauses = P; queue_head = head }) c k) (sym e) (same-implies k (clause_at s p) g))
