-- Literals that are assigned have levels for which there are flags.
use Rattle.std.proofs.Common.{◌≡◌, ℕ, ◌*◌, ◌<◌, ◌≤◌, Bool, false, List, [], ◌∷◌, length, replicate, get_or, inl, inr, ⊎_elim, refl, sym, ap, ◌∙◌, subst, arith}
use Rattle.std.proofs.lemmas.Bool.{cases_lt}
use Rattle.std.proofs.lemmas.List.{length-replicate}
use Rattle.varisat_theory.specs.promises.Membership.{◌∈◌}
use Rattle.varisat_theory.specs.promises.Literals.{Literal, Clause, variable_of, opposite}
use Rattle.varisat_theory.proofs.clauses.Members.{∈-append_cases}
use Rattle.varisat_theory.proofs.clauses.Places.{∈-get_or, place_in}
use Rattle.varisat_clause.specs.Stored.{StoredClause}
use Rattle.varisat_prop.specs.declared.prop.graph.Reason.{Reason}
use Rattle.varisat_prop.specs.declared.prop.graph.Reason.TheVariants as reason
use Rattle.varisat_prop.specs.declared.prop.graph.Conflict.{Conflict}
use Rattle.varisat_prop.specs.declared.prop.graph.ImplNode.{ImplNode}
use Rattle.varisat_prop.specs.View.{View, clause_at, literal_at, node_at, level_of, IsOnTrailBefore, Implies, IsReason, WellFormed}
use Rattle.varisat_prop.specs.Changes.{named_in, IsConflicting}
use Rattle.varisat_theory.proofs.clauses.Values.{variable-opposite}
use Rattle.varisat_prop.proofs.trails.LiteralValues.{made-inside}
use Rattle.varisat_prop.proofs.trails.TrailValues.{trail-short, trail-true, decisions-few}
use Rattle.varisat_analysis.specs.Learned.{names_of, IsInvolved, IsOfConflict, IsReasonOf, AreInvolved}
use Rattle.varisat_analysis.specs.Bumps.{literals_among}
use Rattle.varisat_analysis.specs.Assessments.{CanCount, IsAssigned}
use Rattle.varisat_analysis.proofs.BumpedVariables.{false-all}
use Rattle.varisat_analysis.proofs.WellFormedViews.{level-opposite}

-- fewer literals can be counted too
pub count-part : (nodes : List ImplNode) (lits part : List Literal) (old new : List Bool) → CanCount nodes lits old → new ≡ old →
    ((l : Literal) → l ∈ part → l ∈ lits) → CanCount nodes part new
count-part nodes lits part old new c e h = record {
  known = λ l i. c.known l (h l i);
  room = λ l i. let a = c.room l (h l i) in let n = ap (λ (xs : List Bool). length xs) e in omega (arith, a, n);
  clear = λ n. ap (λ xs. get_or xs n false) e ∙ c.clear n;
}

module _ (s : View) (w : WellFormed s) where
  level-small : (l : Literal) → l ∈ s.trail → level_of s l ≤ length s.values
  level-small l h =
      let (k, i, e) = place_in l s.trail 0 h in
      let a = w.levels_to k i in
      let b = ap (level_of s) e in
      let c = decisions-few s w in
      let d = trail-short s w in
      omega (arith, a, b, c, d)

  -- a literal that is assigned has a variable, and its level is at most their number
  assigned-inside : (l : Literal) → IsAssigned s l → variable_of l < length s.values
  assigned-inside l (inl h) = made-inside s.values l (trail-true s w l h)
  assigned-inside l (inr h) = let a = made-inside s.values (opposite l) (trail-true s w (opposite l) h) in let v = variable-opposite l in omega (arith, a, v)

  assigned-level : (l : Literal) → IsAssigned s l → level_of s l ≤ length s.values
  assigned-level l (inl h) = level-small l h
  assigned-level l (inr h) = let a = level-small (opposite l) h in let e = level-opposite s l in omega (arith, a, e)

  pub can-count : (flags : List Bool) (lits : List Literal) → flags ≡ replicate (2 * length s.values) false →
      ((l : Literal) → l ∈ lits → IsAssigned s l) → CanCount s.nodes lits flags
  can-count flags lits e h = record {
    known = λ l i. let a = assigned-inside l (h l i) in let n = w.nodes_are in omega (arith, a, n);
    room = λ l i.
        let a = assigned-inside l (h l i) in
        let b = assigned-level l (h l i) in
        let n = ap (λ (xs : List Bool). length xs) e ∙ length-replicate (2 * length s.values) false in
        omega (arith, a, b, n);
    clear = λ n. ap (λ xs. get_or xs n false) e ∙ false-all (2 * length s.values) n;
  }

  on-trail : (k : ℕ) (l : Literal) → k < length s.trail → IsOnTrailBefore s k l → l ∈ s.trail
  on-trail k l h (j, i, e) = subst (λ x. x ∈ s.trail) e (∈-get_or s.trail j 0 (omega (arith, h, i)))

  implied-assigned : (k : ℕ) (c : Clause) (l : Literal) → k < length s.trail → Implies s c k → l ∈ c → IsAssigned s l
  implied-assigned k [] l h m i = absurd i
  implied-assigned k (x ∷ c) l h m (inl e) = inl (subst (λ y. y ∈ s.trail) (sym (e ∙ m.0)) (∈-get_or s.trail k 0 h))
  implied-assigned k (x ∷ c) l h m (inr i) = inr (on-trail k (opposite l) h (m.1 l i))

  -- the literals of a reason are assigned
  reason-assigned : (k : ℕ) (r : Reason) (g : Conflict) (l : Literal) → k < length s.trail → IsReason s k r → g ∈ names_of (literal_at s k) r →
      l ∈ named_in s.clauses g → IsAssigned s l
  reason-assigned k reason.Unit g l h d i j = absurd i
  reason-assigned k (reason.Binary ms) g l h (m, e, q, o) (inl f) j =
      let here : l ∈ (literal_at s k ∷ ms) = subst (λ (x : Conflict). l ∈ named_in s.clauses x) f j in
      ⊎_elim
      (λ y. inl (subst (λ x. x ∈ s.trail) (sym y) (∈-get_or s.trail k 0 h)))
      (λ y. inr (⊎_elim (λ z. subst (λ x. opposite x ∈ s.trail) (sym z) (on-trail k (opposite m) h o)) (λ z. absurd z) (subst (λ c. l ∈ c) e y)))
      here
  reason-assigned k (reason.Binary ms) g l h d (inr f) j = absurd f
  reason-assigned k (reason.Long p) g l h (at, m) (inl f) j = implied-assigned k (clause_at s p) l h m (subst (λ (x : Conflict). l ∈ named_in s.clauses x) f j)
  reason-assigned k (reason.Long p) g l h d (inr f) j = absurd f

  clause-assigned : (f : Conflict) (k : ℕ) (g : Conflict) (l : Literal) → IsConflicting s f → IsInvolved s f k g → l ∈ named_in s.clauses g → IsAssigned s l
  clause-assigned f k g l c (IsOfConflict e) i = inr (c.1 l (subst (λ (x : Conflict). l ∈ named_in s.clauses x) e i))
  clause-assigned f k g l c (IsReasonOf j h o r n) i = reason-assigned j (node_at s j).reason g l o.0 (w.reason_is j o.0) n i

  -- the literals of the clauses that take part in a conflict are assigned
  pub involved-assigned : (f : Conflict) (names : List Conflict) (l : Literal) → IsConflicting s f → AreInvolved s f names →
      l ∈ literals_among s.clauses names → IsAssigned s l
  involved-assigned f names l c a i =
      ⊎_elim
      (λ o. let (g, h, j) = among-found s.clauses names l i in clause-assigned f (a.above o).place g l c ((a.above o).only g h) j)
      (λ z. absurd (subst (λ gs. l ∈ literals_among s.clauses gs) (a.at_zero (omega (arith, z))) i))
      (cases_lt 0 (length s.decisions))
    where
      among-found : (ks : List StoredClause) (gs : List Conflict) (m : Literal) → m ∈ literals_among ks gs → (g : Conflict) × (g ∈ gs) × (m ∈ named_in ks g)
      among-found ks [] m h = absurd h
      among-found ks (g ∷ gs) m h =
          ⊎_elim
          (λ q. (g, inl refl, q))
          (λ q. let (x, y, z) = among-found ks gs m q in (x, inr y, z))
          (∈-append_cases m (named_in ks g) (literals_among ks gs) h)
