-- What a literal implies by clauses of two literals, as it is propagated.
use Rattle.std.proofs.Common.{◌≡◌, ℕ, ◌+◌, ◌<◌, ◌≤◌, None, List, [], ◌∷◌, length, get_or, inl, ⊎_elim, refl, sym, ap, ◌∙◌, subst, arith, below_more}
use Rattle.varisat_theory.specs.promises.Membership.{◌∈◌}
use Rattle.varisat_theory.specs.promises.Literals.{Literal, opposite, variable_of}
use Rattle.varisat_theory.proofs.clauses.Values.{opposite_twice}
use Rattle.varisat_theory.proofs.clauses.Places.{∈-get_or, place_in}
use Rattle.varisat_theory.proofs.clauses.Members.{∈-append_left, ∈-append_right}
use Rattle.varisat_prop.specs.declared.prop.graph.Reason.TheVariants as reason
use Rattle.varisat_prop.specs.declared.prop.graph.Conflict.TheVariants as conflict
use Rattle.varisat_prop.specs.View.{View, IsTrueIn, implied_by, WellFormed}
use Rattle.varisat_prop.specs.Changes.{IsAssignable, enqueued, IsConflicting}
use Rattle.varisat_prop.specs.Looks.{Propagates}
use Rattle.varisat_prop.proofs.trails.LiteralValues.{made-none}
use Rattle.varisat_prop.proofs.trails.TrailValues.{on-trail, trail-true}
use Rattle.varisat_prop.proofs.trails.PropagateSteps.{propagates-refl, propagates-trans}
use Rattle.varisat_prop.proofs.pairs.KeptPairs.{implied-range}
use Rattle.varisat_prop.proofs.views.ReadElements.{element}
use Rattle.varisat_prop.proofs.trails.EnqueueAssignment.{enqueued-well, ext-grows}
use Rattle.varisat_prop.proofs.views.ViewGrowth.{append-nil}

-- the first k that the literal implies are true
pub record Implying (s t : View) (l : Literal) (k : ℕ) : Type 0 where
  pub propagates : Propagates s t
  pub holds : IsTrueIn t l
  pub done : (j : ℕ) → j < k → get_or (implied_by s l) j 0 ∈ t.trail

pub implying-start : (s : View) (l : Literal) → WellFormed s → IsTrueIn s l → Implying s s l 0
implying-start s l w h = record { propagates = propagates-refl s w; holds = h; done = λ j a. absurd (omega (arith, a)) }

-- the next literal m, as the code reads it
module _ {s t : View} {l : Literal} {k : ℕ} {m : Literal} {xs : List ℕ} (g : Implying s t l k) (is : xs ≡ implied_by s l) (a : k < length xs)
    (read : m ≡ get_or xs k m) where
  inside : k < length (implied_by s l)
  inside = let n = ap (λ (ys : List ℕ). length ys) is in omega (arith, a, n)

  e : m ≡ get_or (implied_by s l) k 0
  e = element (implied_by s l) k m inside (read ∙ ap (λ (ys : List ℕ). get_or ys k m) is)

  same : implied_by t l ≡ implied_by s l
  same = ap (λ (B : List (List ℕ)). get_or B l []) g.propagates.grows.binary

  is-in : m ∈ implied_by t l
  is-in = subst (λ xs. m ∈ xs) (sym same) (subst (λ x. x ∈ implied_by s l) (sym e) (∈-get_or (implied_by s l) k 0 inside))

  pub within-implied : variable_of m < length t.values
  within-implied = implied-range t g.propagates.well l m is-in

  pub implying-true : IsTrueIn t m → Implying s t l (k + 1)
  implying-true h = record {
    propagates = g.propagates;
    holds = g.holds;
    done = below_more (λ j. get_or (implied_by s l) j 0 ∈ t.trail) k g.done (subst (λ x. x ∈ t.trail) e (on-trail t g.propagates.well m h));
  }

  pub implying-conflict : {x : Literal} → x ≡ opposite l → IsTrueIn t (opposite m) → IsConflicting t (conflict.Binary (m ∷ x ∷ []))
  implying-conflict f h = (
    (l, m, ap (λ y. m ∷ y ∷ []) f, is-in),
    λ y i. ⊎_elim
        (λ z. subst (λ v. opposite v ∈ t.trail) (sym z) (on-trail t g.propagates.well (opposite m) h))
        (λ j. ⊎_elim (λ z. subst (λ v. v ∈ t.trail) (sym (ap opposite (z ∙ f) ∙ opposite_twice l)) (on-trail t g.propagates.well l g.holds)) (λ z. absurd z) j)
        i,
  )

  module _ (n : IsTrueIn t m → ⊥) (o : IsTrueIn t (opposite m) → ⊥) where
    free-implied : get_or t.values (variable_of m) None ≡ None
    free-implied = made-none t.values m n o

    pub assignable-implied : IsAssignable t.values t.nodes m
    assignable-implied = let h = within-implied in let b = g.propagates.well.nodes_are in (h, omega (arith, h, b), free-implied)

    pub implying-new : {u : View} {x : Literal} → x ≡ opposite l → u ≡ enqueued t m (reason.Binary (x ∷ [])) → Implying s u l (k + 1)
    implying-new {u = u} {x = x} f eq = subst (λ v. Implying s v l (k + 1)) (sym (eq ∙ ap (λ y. enqueued t m (reason.Binary (y ∷ []))) f)) record {
      propagates = propagates-trans s t v g.propagates p;
      holds = trail-true v p.well l (∈-append_left l t.trail (m ∷ []) (on-trail t g.propagates.well l g.holds));
      done = below_more (λ j. get_or (implied_by s l) j 0 ∈ v.trail) k
          (λ j a. ∈-append_left (get_or (implied_by s l) j 0) t.trail (m ∷ []) (g.done j a))
          (subst (λ y. y ∈ v.trail) e (∈-append_right m t.trail (m ∷ []) (inl refl)));
    }
      where
        v : View
        v = enqueued t m (reason.Binary (opposite l ∷ []))

        p : Propagates t v
        p = record {
          well = enqueued-well t m (reason.Binary (opposite l ∷ [])) g.propagates.well within-implied free-implied
              (opposite l, refl, subst (λ y. m ∈ implied_by t y) (sym (opposite_twice l)) is-in, subst (IsTrueIn t) (sym (opposite_twice l)) g.holds);
          grows = ext-grows t m (reason.Binary (opposite l ∷ [])) t.decisions g.propagates.well within-implied free-implied (λ a b. cc) []
              (sym (append-nil t.decisions));
          decisions = refl;
        }

pub implying-end : {s t : View} {l : Literal} {k : ℕ} {xs : List ℕ} → Implying s t l k → xs ≡ implied_by s l → length xs ≤ k → (m : Literal) →
    m ∈ implied_by s l → m ∈ t.trail
implying-end {s = s} {t = t} {l = l} g is h m i = let (j, a, e) = place_in m (implied_by s l) 0 i in let n = ap (λ (ys : List ℕ). length ys) is in
    subst (λ x. x ∈ t.trail) e (g.done j (omega (arith, a, h, n)))
