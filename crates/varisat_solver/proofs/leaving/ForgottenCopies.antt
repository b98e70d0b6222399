-- Clauses that were forgotten, as far as they can be read back over solver variables: steps add clauses that are new beside these.
use Rattle.std.proofs.Common.{◌≡◌, ℕ, Some, None, List, [], ◌∷◌, ◌⊎◌, inl, inr, ⊎_elim, sym, ap, ◌∙◌, subst, refl, map}
use Rattle.varisat_theory.specs.promises.Membership.{◌∈◌, ◌⊆◌}
use Rattle.varisat_theory.specs.promises.Literals.{Literal, Clause, variable_of, literal_of, opposite}
use Rattle.varisat_theory.specs.promises.Searches.{IsDischarged}
use Rattle.varisat_theory.specs.inside.Outcomes as outcome
use Rattle.varisat_theory.proofs.journals.Renaming.{∈-map, map-∈}
use Rattle.varisat_literals.specs.promises.Numbers.{polarity_of}
use Rattle.varisat_theory.proofs.clauses.Values.{variable-opposite, variable-literal}
use Rattle.varisat_prop.proofs.trails.LiteralValues.{same-literal, polarity-literal}
use Rattle.varisat_names.specs.promises.Maps.{chain}
use Rattle.varisat_names.proofs.Maps.{chain-some, chain-through, is-some}
use Rattle.varisat_solver.specs.promises.States.{State}
use Rattle.varisat_tracer.specs.promises.Carried.{carry}
use Rattle.varisat_solver.specs.inside.Spaces.{Carrying, Spaces, translation, IsDischargedBy, SearchHolds, Links}
use Rattle.varisat_solver.proofs.accepting.AcceptSolverVariables.{one-literal}
use Rattle.varisat_solver.proofs.calls.Carried.{carry-at, carry-sign, forced-value}
use Rattle.varisat_tracer.specs.inside.RenamedEntries.{carry-opposites}
use Rattle.varisat_solver.proofs.entries.ReachedHeld.{IsInUse}

-- 1. Variables and literals.

-- the identity of the solver variable leads back to it
pub there-back : (w : Carrying) (p : Spaces) (s : State) (k : Links w p s) (v i : ℕ) → (translation w p s.logged).identity v ≡ Some i →
    chain w.global p.solver_from_global i ≡ Some v
there-back w p s k v i e =
    let (x, f, g) = chain-through p.global_from_solver w.identity v i e in
    chain-some w.global p.solver_from_global i x (k.identities.one_to_one.there x i g) ∙ k.solvers.one_to_one.back x v f

pub back-there : (w : Carrying) (p : Spaces) (s : State) (k : Links w p s) (v i : ℕ) → chain w.global p.solver_from_global i ≡ Some v →
    ((translation w p s.logged).identity v ≡ Some i) × (i ∈ s.counted)
back-there w p s k v i e =
    let (x, f, g) = chain-through w.global p.solver_from_global i v e in
    let h = k.solvers.one_to_one.there x v g in
    let r = k.solvers.live v x h in
    let q : Some r.0 ≡ Some i = sym r.1 ∙ k.identities.one_to_one.back x i f in
    (chain-some p.global_from_solver w.identity v x h ∙ k.identities.one_to_one.back x i f, subst (λ j. j ∈ s.counted) (let z : r.0 ≡ i = cc in z) r.2)

module _ (w : Carrying) (p : Spaces) (s : State) (k : Links w p s) where
  -- some literal in in-use stands for the literal, or none does
  literal-back : (l : Literal) → ((m : Literal) × IsInUse (translation w p s.logged) m × (carry (translation w p s.logged).identity m ≡ l))
      ⊎ ((m : Literal) → IsInUse (translation w p s.logged) m → carry (translation w p s.logged).identity m ≡ l → ⊥)
  literal-back l =
      let to = (translation w p s.logged).identity in
      ⊎_elim
      (λ e. inr (λ m (i, a) q.
      let leads : variable_of l ≡ i = ap variable_of (sym q) ∙ carry-at to m i a in
      let z : None ≡ Some (variable_of m) = sym e ∙ ap (chain w.global p.solver_from_global) leads ∙ there-back w p s k (variable_of m) i a in
      absurd cc))
      (λ (v, e).
      let m = literal_of v (polarity_of l) in
      let a = ap to (variable-literal v (polarity_of l)) ∙ (back-there w p s k v (variable_of l) e).0 in
      inl (m, (variable_of l, a), same-literal (carry to m) l (carry-at to m (variable_of l) a) (carry-sign to m ∙ polarity-literal v (polarity_of l))))
      (is-some (chain w.global p.solver_from_global (variable_of l)))

  -- 2. Clauses.

  -- the clause is one over literals in in-use, or it has a literal for which none stands
  clause-back : (d : Clause) → ((e : Clause) × ((l : Literal) → l ∈ e → IsInUse (translation w p s.logged) l)
      × (map (carry (translation w p s.logged).identity) e ≡ d))
      ⊎ ((l : Literal) × (l ∈ d) × ((m : Literal) → IsInUse (translation w p s.logged) m → carry (translation w p s.logged).identity m ≡ l → ⊥))
  clause-back [] = inl ([], (λ l h. absurd h), refl)
  clause-back (l ∷ d) =
      let to = carry (translation w p s.logged).identity in
      ⊎_elim
      (λ (m, u, q). ⊎_elim
      (λ (e, v, z). inl (
        m ∷ e,
        (λ x. elim [ inl o ↦ subst (IsInUse (translation w p s.logged)) (sym o) u | inr h ↦ v x h ]),
        ap (λ y. y ∷ map to e) q
            ∙ ap (λ y. l ∷ y) z,
      ))
      (λ (x, h, n). inr (x, inr h, n))
      (clause-back d))
      (λ n. inr (l, inl refl, n))
      (literal-back l)

  module _ (h : SearchHolds s.clauses (translation w p s.logged) p.search outcome.Unknown) where
    -- what says nothing more over identities says nothing more in the search
    settled-back : (e : Clause) → ((l : Literal) → l ∈ e → IsInUse (translation w p s.logged) l) →
        IsDischargedBy (translation w p s.logged) p.search.fixed (map (carry (translation w p s.logged).identity) e) → IsDischarged p.search e
    settled-back e in-use (inl (l, a, b)) =
        let to = (translation w p s.logged).identity in
        let (m, i, q) = map-∈ (carry to) l e a in
        let (n, j, o) = map-∈ (carry to) (opposite l) e b in
        let (x, u) = in-use m i in
        let same : opposite m ≡ n = one-literal w p s k (opposite m) n (x, ap to (variable-opposite m) ∙ u) (in-use n j)
        (carry-opposites to m ∙ ap opposite (sym q) ∙ o) in
        inl (m, i, subst (λ y. y ∈ e) (sym same) j)
    settled-back e in-use (inr (l, a, known)) =
        let to = (translation w p s.logged).identity in
        let (m, i, q) = map-∈ (carry to) l e a in
        let (x, u) = in-use m i in
        inr (
          m,
          i,
          ⊎_elim
              (λ f. h.fixed (λ o. let z : outcome.Unknown ≡ outcome.Unsat = o in cc) m x u
              (ap w.forced (sym (ap variable_of q ∙ carry-at to m x u)) ∙ forced-value w.forced l f ∙ ap Some (ap polarity_of q ∙ carry-sign to m)))
              (λ (n, f, o). subst (λ y. y ∈ p.search.fixed) (one-literal w p s k n m (h.within n (inl f)) (in-use m i) (o ∙ q)) f)
              known,
        )

    -- The copies of clauses that say nothing more say nothing more, and where such a clause is a part of one over literals in in-use,
    -- so is its copy.
    pub record Copies (F : List Clause) : Type 0 where
      pub list : List Clause
      pub settled : (e : Clause) → e ∈ list → IsDischarged p.search e
      pub copied : (d c : Clause) → d ∈ F → ((l : Literal) → l ∈ c → IsInUse (translation w p s.logged) l) →
          d ⊆ map (carry (translation w p s.logged).identity) c → (e : Clause) × (e ∈ list) × (e ⊆ c)

    with-copy : (d e : Clause) (F : List Clause) → ((l : Literal) → l ∈ e → IsInUse (translation w p s.logged) l) →
        map (carry (translation w p s.logged).identity) e ≡ d → IsDischargedBy (translation w p s.logged) p.search.fixed d → Copies F → Copies (d ∷ F)
    with-copy d e F in-use q settled rest = record {
      list = e ∷ rest.list;
      settled = λ x. elim [
        | inl o ↦ subst (IsDischarged p.search) (sym o)
            (settled-back e in-use (subst (IsDischargedBy (translation w p s.logged) p.search.fixed) (sym q) settled))
        | inr i ↦ rest.settled x i
      ];
      copied = λ x c i of part. ⊎_elim
          (λ o. (e, inl refl, inside c of (subst (λ y. y ⊆ map (carry (translation w p s.logged).identity) c) (o ∙ sym q) part)))
          (λ a. let (y, b, z) = rest.copied x c a of part in (y, inr b, z))
          i;
    }
      where
        inside : (c : Clause) → ((l : Literal) → l ∈ c → IsInUse (translation w p s.logged) l) →
            map (carry (translation w p s.logged).identity) e ⊆ map (carry (translation w p s.logged).identity) c → e ⊆ c
        inside c of part m i =
            let to = carry (translation w p s.logged).identity in
            let (n, j, o) = map-∈ to (to m) c (part (to m) (∈-map to m e i)) in
            subst (λ y. y ∈ c) (sym (one-literal w p s k m n (in-use m i) (of n j) o)) j

    without-copy : (d : Clause) (F : List Clause) (l : Literal) → l ∈ d →
        ((m : Literal) → IsInUse (translation w p s.logged) m → carry (translation w p s.logged).identity m ≡ l → ⊥) → Copies F → Copies (d ∷ F)
    without-copy d F l on none rest = record {
      list = rest.list;
      settled = rest.settled;
      copied = λ x c i of part. ⊎_elim
          (λ o. let (m, j, q) = map-∈ (carry (translation w p s.logged).identity) l c (part l (subst (λ y. l ∈ y) (sym o) on)) in
          absurd (none m (of m j) (sym q)))
          (λ a. rest.copied x c a of part)
          i;
    }

    pub copies : (F : List Clause) → ((c : Clause) → c ∈ F → IsDischargedBy (translation w p s.logged) p.search.fixed c) → Copies F
    copies [] settled = record { list = []; settled = λ e a. absurd a; copied = λ d c a. absurd a }
    copies (d ∷ F) settled =
        let rest = copies F (λ c a. settled c (inr a)) in
        ⊎_elim
        (λ (e, in-use, q). with-copy d e F in-use q (settled d (inl refl)) rest)
        (λ (l, on, none). without-copy d F l on none rest)
        (clause-back d)
