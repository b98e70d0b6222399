-- A search that goes on from one view to a later one writes no line.
use Rattle.std.proofs.Common.{◌≡◌, ◌<◌, ◌≤◌, true, List, [], ◌∷◌, ◌++◌, ◌⊎◌, length, map, inl, inr, ⊎_elim, sym, ap, ◌∙◌, subst, refl, arith}
use Rattle.varisat_theory.specs.promises.Membership.{◌∈◌, IsDistinct}
use Rattle.varisat_theory.specs.promises.Literals.{Literal, Clause, IsUnit}
use Rattle.varisat_theory.proofs.clauses.Members.{∈-append_left, ∈-append_right, ∈-append_cases}
use Rattle.varisat_theory.proofs.clauses.Places.{∈-get_or, place_in}
use Rattle.varisat_prop.specs.View.{View, kept, literal_at, node_of, node_at, level_of, is_clause, WellFormed, IsFixed, ViewFits, GrowsTrail}
use Rattle.varisat_prop.proofs.views.ViewGrowth.{literal-stays, grows-longer}
use Rattle.varisat_prop.specs.declared.prop.graph.Reason.{Reason}
use Rattle.varisat_prop.specs.declared.prop.graph.Reason.TheVariants as reason
use Rattle.varisat_prop.proofs.trails.TrailValues.{on-trail, trail-true}
use Rattle.varisat_analysis.specs.Learned.{implying_clause}
use Rattle.varisat_analysis.proofs.WellFormedViews.{kept-reordered, reason-kept, reason-first}
use Rattle.varisat_theory.specs.promises.Searches.{IsLiteralOf}
use Rattle.varisat_theory.specs.inside.Outcomes.{Proves}
use Rattle.varisat_search.specs.Seen.{search_of, IsProved}
use Rattle.varisat_search.proofs.stepping.ViewSearch.{fixed_to, proved_from, proved_to, of_search, view_moves}

abbrev pub unit_clauses : List Literal → List Clause
unit_clauses ls = map (λ l. l ∷ []) ls

pub in_units : (ls : List Literal) (l : Literal) → l ∈ ls → (l ∷ []) ∈ unit_clauses ls
in_units [] l h = absurd h
in_units (m ∷ ls) l (inl e) = inl (ap (λ x. x ∷ []) e)
in_units (m ∷ ls) l (inr h) = inr (in_units ls l h)

pub from_units : (ls : List Literal) (d : Clause) → d ∈ unit_clauses ls → (l : Literal) × (l ∈ ls) × (d ≡ l ∷ [])
from_units [] d h = absurd h
from_units (m ∷ ls) d (inl e) = (m, inl refl, e)
from_units (m ∷ ls) d (inr h) = let (l, i, e) = from_units ls d h in (l, inr i, e)

-- a clause of two different literals is no unit
no_unit : (l : Literal) (d : Clause) → 2 ≤ length d → IsDistinct d → IsUnit l d → ⊥
no_unit l [] n q u = omega (arith, n)
no_unit l (a ∷ []) n q u = omega (arith, n)
no_unit l (a ∷ b ∷ d) n q u = q.0 (inl (u.1 a (inl refl) ∙ sym (u.1 b (inr (inl refl)))))

-- a reason is a clause or none
pub clause_or_none : (r : Reason) → (is_clause r ≡ true) ⊎ (r ≡ reason.Unit)
clause_or_none reason.Unit = inr refl
clause_or_none (reason.Binary ms) = inl refl
clause_or_none (reason.Long p) = inl refl

module _ (s t : View) (w : WellFormed s) (v : WellFormed t) (g : GrowsTrail s t) where
  -- the least that is held
  abbrev least : List Clause
  least = kept s ++ unit_clauses (search_of s).proved

  least_fits : ViewFits least s
  least_fits = record {
    stored = λ c h. (c, ∈-append_left c (kept s) (unit_clauses (search_of s).proved) h, ((λ x i. i), (λ x i. i)));
    units = λ k h a b.
        let l = literal_at s k in
        let i = proved_to s w l (∈-get_or s.trail k 0 h, a, b) in (
          l ∷ [],
          ∈-append_right (l ∷ []) (kept s) (unit_clauses (search_of s).proved) (in_units (search_of s).proved l i),
          (inl refl, λ m j. ⊎_elim (λ e. e) (λ z. absurd z) j),
        );
    covered = λ c h.
        ⊎_elim
        (λ i. inl (c, i, λ x j. j))
        (λ i.
        let (l, j, e) = from_units (search_of s).proved c i in
        let (on, z, r) = proved_from s w l j in
        inr (inr (l, subst (λ x. l ∈ x) (sym e) (inl refl), (trail-true s w l on, z))))
        (∈-append_cases c (kept s) (unit_clauses (search_of s).proved) h);
  }

  pub proved_back : (x : Literal) → IsProved t x → IsProved s x
  proved_back x (i, z, r) =
      let (k, a, e) = place_in x t.trail 0 i in
      let f = g.fits least least_fits in
      let (d, j, u) = f.units k a (ap (λ y. level_of t y) e ∙ z) (ap (λ y. (node_of t y).reason) e ∙ r) in
      ⊎_elim
      (λ h. absurd (no_unit (literal_at t k) d (w.several d h) (w.distinct d h) u))
      (λ h.
      let (l, o, q) = from_units (search_of s).proved d h in
      let same : l ≡ x = u.1 l (subst (λ y. l ∈ y) (sym q) (inl refl)) ∙ e in
      subst (IsProved s) same (proved_from s w l o))
      (∈-append_cases d (kept s) (unit_clauses (search_of s).proved) j)

  fixed_on : (x : Literal) → IsFixed s x → IsFixed t x
  fixed_on x (q, z) =
      let (k, a, e) = w.stands x q in
      let n = grows-longer s t g in
      let h : k < length t.trail = omega (arith, a, n) in
      let same : literal_at t k ≡ x = literal-stays s t g k a ∙ e in
      let on : x ∈ t.trail = subst (λ y. y ∈ t.trail) same (∈-get_or t.trail k 0 h) in
      (trail-true t v x on, sym (ap (λ y. level_of t y) same) ∙ ap (λ y. y.level) (g.nodes k a) ∙ ap (λ y. level_of s y) e ∙ z)

  -- what a clause implies stands in a kept one, and what none does was proved before
  fixed_of_search : (x : Literal) → IsFixed t x → IsLiteralOf (search_of s) x
  fixed_of_search x (q, z) =
      let (k, a, e) = v.stands x q in
      ⊎_elim
      (λ c.
      let (d, i, same) = reason-kept t v k (node_at t k).reason c (v.reason_is k a) in
      let (f, j, more) = kept-reordered s t g.clauses g.binary d i in
      of_search s x (
        f,
        j,
        more.0 x (same.1 x
            (subst (λ y. y ∈ implying_clause t (literal_at t k) (node_at t k).reason) e (reason-first t v k (node_at t k).reason c (v.reason_is k a)))),
      ))
      (λ r. inl (fixed_to s w x (proved_fixed (proved_back x (on-trail t v x q, z, sym (ap (λ y. (node_of t y).reason) e) ∙ r)))))
      (clause_or_none (node_at t k).reason)
    where
      proved_fixed : IsProved s x → IsFixed s x
      proved_fixed (i, y, r) = (trail-true s w x i, y)

  pub grows_prove : Proves 0 (search_of s) (search_of t) []
  grows_prove = view_moves s t w v g.clauses g.binary fixed_on proved_back fixed_of_search
