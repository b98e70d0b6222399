-- Literals that are fixed follow from the accepted clauses.
use Rattle.std.proofs.Common.{◌≡◌, ◌≢◌, ℕ, ◌<◌, Bool, true, false, Option, Some, None, List, [], ◌∷◌, ◌⊎◌, inl, inr, ⊎_elim, length, sym, ap, ◌∙◌, subst, refl, slice_index_or}
use Rattle.varisat_theory.specs.promises.Membership.{◌∈◌}
use Rattle.varisat_theory.specs.promises.Literals.{Literal, Clause, Assignment, variable_of, literal_of, value, opposite, SatisfiesAll, IsSatisfiable}
use Rattle.varisat_theory.specs.promises.Analysis.{Implied, Known, ByReason}
use Rattle.varisat_theory.specs.promises.Searches.{Search, Fits}
use Rattle.varisat_theory.specs.inside.Outcomes.{SearchOutcome, Holds}
use Rattle.varisat_theory.specs.inside.Outcomes as outcome
use Rattle.varisat_theory.specs.inside.StepLaws.{IsGrounded}
use Rattle.varisat_theory.proofs.clauses.Members.{equal_or_not}
use Rattle.varisat_theory.proofs.clauses.Values.{not_both, variable-literal}
use Rattle.varisat_literals.specs.promises.Numbers.{polarity_of}
use Rattle.varisat_prop.specs.View.{View, WellFormed, IsTrueIn, level_of, no_node}
use Rattle.varisat_prop.proofs.trails.LiteralValues.{polarity-literal}
use Rattle.varisat_search.specs.Seen.{search_of}
use Rattle.varisat_search.specs.declared.state.SatState.{SatState}
use Rattle.varisat_search.proofs.stepping.ViewSearch.{fixed_to, view_is_grounded}
use Rattle.varisat_names.specs.promises.VarMap.{at}
use Rattle.varisat_names.specs.promises.VarData.{data_at}
use Rattle.varisat_names.specs.promises.Maps.{chain}
use Rattle.varisat_names.proofs.Maps.{chain-some}
use Rattle.varisat_tracer.specs.promises.Carried.{carry}
use Rattle.varisat_solver.specs.promises.States.{State, Verdict, Unsat, IsRight}
use Rattle.varisat_solver.specs.promises.Names.{identity_of, through_names}
use Rattle.varisat_solver.specs.promises.Models.{IsEntailed}
use Rattle.varisat_solver.specs.promises.Calls.{IsValid}
use Rattle.varisat_solver.specs.promises.Fixed.{HasFixed, IsNameFixedTo, IsFixedTo, HasRootValue}
use Rattle.varisat_solver.specs.promises.Summaries.{Summary}
use Rattle.varisat_solver.specs.inside.Carried.{AgreesAlong}
use Rattle.varisat_solver.specs.inside.Spaces.{Carrying, Spaces, Links, SearchHolds, Translation, translation, without_core, VerdictFits}
use Rattle.varisat_solver.specs.inside.Representations.{Represents, spaces}
use Rattle.varisat_solver.proofs.calls.CallStates.{represents-valid}
use Rattle.varisat_solver.proofs.calls.Carried.{value-true, true-value, carry-at, carry-sign}
use Rattle.varisat_solver.proofs.calls.ModelsFit.{is-unsat}

-- What is implied by clauses alone is true where they are satisfied.
implied-true : (held : List Clause) (a : Assignment) → SatisfiesAll a held → (l : Literal) → Implied held [] l → value a l ≡ true
implied-true held a sat l (Known h) = absurd h
implied-true held a sat l (ByReason c h i others) =
    let (m, j, t) = sat c h in
    ⊎_elim
    (λ e. subst (λ y. value a y ≡ true) e t)
    (λ n. absurd (not_both a m t (implied-true held a sat (opposite m) (others m j n))))
    (equal_or_not m l)

-- Unless the verdict is Unsat the clauses fit the search.
fits-or-unsat : (held : List Clause) (s : Search) (o : SearchOutcome) → Holds held s (without_core o) → Fits held s ⊎ (o ≡ outcome.Unsat)
fits-or-unsat held s outcome.Unknown h = inl h
fits-or-unsat held s (outcome.Sat found) h = inl h
fits-or-unsat held s outcome.Unsat h = inr refl
fits-or-unsat held s (outcome.UnsatUnder core) h = inl h

-- the value of the variable where the map leads, and otherwise false
abbrev along : (ℕ → Option ℕ) → Assignment → Assignment
along f a v = a (identity_of (f v))

along-agrees : (f : ℕ → Option ℕ) (a : Assignment) → AgreesAlong f a (along f a)
along-agrees f a v i e = ap (λ o. a (identity_of o)) e

-- A value of level 0 is that of the identity in each assignment that satisfies the accepted clauses.
root-value : (w : Carrying) (g : Summary) (s : State) → WellFormed g.search → Links w (spaces g) s → (a : Assignment) → SatisfiesAll a s.clauses →
    (v x i : ℕ) (b : Bool) → at g.tables.solvers.forward x ≡ Some v → w.identity x ≡ Some i → HasRootValue g.search v b → a i ≡ b
root-value w g s well k a sat v x i b e h (is, level) =
    ⊎_elim
    (λ f. by-fits f)
    (λ u. absurd (subst (IsRight s.clauses s.assumptions s.counted)
    (is-unsat w.identity (spaces g).model s.verdict (subst (λ y. VerdictFits w.identity (spaces g).model y s.verdict) u k.verdict)) k.right (a, sat)))
    (fits-or-unsat k.holds.held (spaces g).search (spaces g).outcome k.holds.holds)
  where
    f : ℕ → Option ℕ
    f = (translation w (spaces g) s.logged).identity

    taken : at g.tables.solvers.backward v ≡ Some x
    taken = k.solvers.one_to_one.there x v e

    through : f v ≡ Some i
    through = chain-some (at g.tables.solvers.backward) w.identity v x taken ∙ h

    l : Literal
    l = literal_of v b

    var : variable_of l ≡ v
    var = variable-literal v b

    sign : polarity_of l ≡ b
    sign = polarity-literal v b

    by-fits : Fits k.holds.held (spaces g).search → a i ≡ b
    by-fits fits =
        let there = fixed_to g.search well l (root-true, root-level) in
        let implied = view_is_grounded g.search well k.holds.held fits l there in
        let b' = along f a in
        let t = implied-true k.holds.held b' (k.holds.implied a b' sat (along-agrees f a)) l implied in
        sym (along-agrees f a v i through) ∙ ap b' (sym var) ∙ true-value b' l t ∙ sign
      where
        root-true : IsTrueIn g.search l
        root-true = subst (λ u. slice_index_or g.search.values u None ≡ Some (polarity_of l)) (sym var) (is ∙ ap Some (sym sign))

        root-level : level_of g.search l ≡ 0
        root-level = ap (λ u. (slice_index_or g.search.nodes u no_node).level) var ∙ level

-- The value that is fixed is that of the identity in each assignment that satisfies the accepted clauses.
fixed-value : (w : Carrying) (g : Summary) (s : State) → WellFormed g.search → Links w (spaces g) s → (a : Assignment) → SatisfiesAll a s.clauses →
    (x i : ℕ) (b : Bool) → w.identity x ≡ Some i → (o : Option ℕ) → at g.tables.solvers.forward x ≡ o → IsFixedTo g.tables g.search x b o → a i ≡ b
fixed-value w g s well k a sat x i b h None e is = k.holds.known a sat i b (k.units.unit x i h ∙ is)
fixed-value w g s well k a sat x i b h (Some v) e is = root-value w g s well k a sat v x i b e h is

-- A literal that is fixed is entailed by the accepted clauses.
fixed-entailed : (g : Summary) (s : State) → WellFormed g.search → Represents g s → (l : Literal) → HasFixed g l →
    IsEntailed s.naming s.clauses l
fixed-entailed g s well st l (valid, fixed) = go (at g.tables.users.forward (variable_of l)) refl fixed
  where
    w : Carrying
    w = (st.fits valid).0

    k : Links w (spaces g) s
    k = (st.fits valid).1

    go : (o : Option ℕ) → at g.tables.users.forward (variable_of l) ≡ o → IsNameFixedTo g.tables g.search (polarity_of l) o →
        IsEntailed s.naming s.clauses l
    go None e is = absurd is
    go (Some x) e is =
        let (i, h) = k.names.live (variable_of l) x e in
        let named : s.naming.names (variable_of l) ≡ Some i =
        k.names.agree (variable_of l) ∙ chain-some (at g.tables.users.forward) w.identity (variable_of l) x e ∙ h in (
          i,
          named,
          λ a sat. (
            through_names s.naming l,
            inl refl,
            value-true a (through_names s.naming l)
                (ap a (carry-at s.naming.names l i named)
                ∙ fixed-value w g s well k a sat x i (polarity_of l) h (at g.tables.solvers.forward x) refl is
                ∙ sym (carry-sign s.naming.names l)),
          ),
        )

-- What the call says of a literal whose name leads to this global variable.
pub fixed-call : (g : Summary) (s : State) → WellFormed g.search → Represents g s → g.ledger.valid ≡ true → (l : Literal) (x : ℕ) (b : Bool) →
    at g.tables.users.forward (variable_of l) ≡ Some x → b ≡ polarity_of l → IsFixedTo g.tables g.search x b (at g.tables.solvers.forward x) →
    IsValid s × IsEntailed s.naming s.clauses l
fixed-call g s well st v l x b e sign is = (
  represents-valid g s st v,
  fixed-entailed g s well st l (
    v,
    subst (λ o. IsNameFixedTo g.tables g.search (polarity_of l) o) (sym e)
        (subst (λ c. IsFixedTo g.tables g.search x c (at g.tables.solvers.forward x)) sign is),
  ),
)
