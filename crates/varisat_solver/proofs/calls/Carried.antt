-- Literals that are carried, and their values.
use Rattle.std.proofs.Common.{◌≡◌, ℕ, ◌+◌, ◌*◌, ◌/◌, ◌%◌, Bool, true, false, not, nat_eq, if◌then◌else◌, Option, Some, None, List, [], ◌∷◌, ◌++◌, IsTrue, ◌↔◌, ◌⊎◌, ⊎_elim, sym, ap, ◌∙◌, subst, refl, map, arith}
use Rattle.varisat_theory.specs.promises.Membership.{◌∈◌}
use Rattle.varisat_theory.specs.promises.Literals.{Literal, Clause, Assignment, variable_of, literal_of, opposite, value, Satisfies, SatisfiesAll}
use Rattle.varisat_theory.proofs.clauses.Members.{∈-append_cases}
use Rattle.varisat_theory.proofs.journals.Renaming.{∈-map, map-∈}
use Rattle.varisat_literals.specs.promises.Numbers.{polarity_of}
use Rattle.varisat_prop.proofs.trails.LiteralValues.{same-literal, polarity-literal}
use Rattle.varisat_theory.proofs.clauses.Values.{variable-literal, parity}
use Rattle.varisat_solver.specs.promises.Names.{identity_of}
use Rattle.varisat_tracer.specs.promises.Carried.{carry}
use Rattle.varisat_tracer.specs.inside.RenamedEntries.{carry-opposites}
use Rattle.varisat_solver.specs.inside.Carried.{AgreesAlong, is_value, is_forced}
use Rattle.varisat_solver.specs.inside.Spaces.{}
use Rattle.varisat_solver.specs.promises.Usage.{IsWide}

pub map-empty : (f : Literal → Literal) (c : Clause) → map f c ≡ [] → c ≡ []
map-empty f [] e = refl
map-empty f (l ∷ c) e = absurd cc

-- a literal is true where its variable has its sign as the value
pub value-true : (a : Assignment) (l : Literal) → a (variable_of l) ≡ polarity_of l → value a l ≡ true
unfolding value
value-true a l e = go (polarity_of l) (a (variable_of l)) e
  where
    go : (b x : Bool) → x ≡ b → (if b then x else not x) ≡ true
    go true x e = e
    go false x e = ap not e

pub true-value : (a : Assignment) (l : Literal) → value a l ≡ true → a (variable_of l) ≡ polarity_of l
unfolding value
true-value a l e = go (polarity_of l) (a (variable_of l)) e
  where
    go : (b x : Bool) → (if b then x else not x) ≡ true → x ≡ b
    go true x e = e
    go false true e = absurd cc
    go false false e = refl

pub carry-variable : (f : ℕ → Option ℕ) (l : Literal) → variable_of (carry f l) ≡ identity_of (f (variable_of l))
carry-variable f l = go (identity_of (f (variable_of l))) l
  where
    go : (x l : ℕ) → (2 * x + l % 2) / 2 ≡ x
    go x l = omega arith

carry-rest : (f : ℕ → Option ℕ) (l : Literal) → carry f l % 2 ≡ l % 2
carry-rest f l = go (identity_of (f (variable_of l))) l
  where
    go : (x l : ℕ) → (2 * x + l % 2) % 2 ≡ l % 2
    go x l = omega arith

pub carry-sign : (f : ℕ → Option ℕ) (l : Literal) → polarity_of (carry f l) ≡ polarity_of l
carry-sign f l = ap (λ n. nat_eq n 0) (carry-rest f l)

pub carry-at : (f : ℕ → Option ℕ) (l : Literal) (i : ℕ) → f (variable_of l) ≡ Some i → variable_of (carry f l) ≡ i
carry-at f l i e = carry-variable f l ∙ ap identity_of e

pub value-carry : (f : ℕ → Option ℕ) (a : Assignment) (l : Literal) → value a (carry f l) ≡ value (λ v. a (identity_of (f v))) l
unfolding value
value-carry f a l = rw (carry-rest f l, carry-variable f l) refl

pub literal-parts : (l : Literal) → literal_of (variable_of l) (polarity_of l) ≡ l
literal-parts l = same-literal (literal_of (variable_of l) (polarity_of l)) l (variable-literal (variable_of l) (polarity_of l))
    (polarity-literal (variable_of l) (polarity_of l))

pub satisfies-both : (a : Assignment) (P Q : List Clause) → SatisfiesAll a P → SatisfiesAll a Q → SatisfiesAll a (P ++ Q)
satisfies-both a P Q m n c h = ⊎_elim (m c) (n c) (∈-append_cases c P Q h)

-- a clause that is wide when it is carried is wide
pub wide-back : (f : ℕ → Option ℕ) (c : Clause) → IsWide (map (carry f) c) → IsWide c
wide-back f c ((l, m, i, j, n), t) =
    let p = map-∈ (carry f) l c i in
    let q = map-∈ (carry f) m c j in (
      (p.0, q.0, p.1, q.1, λ e. n (p.2 ∙ ap (carry f) e ∙ sym q.2)),
      λ (k, h, o). t (carry f k, ∈-map (carry f) k c h, subst (λ y. y ∈ map (carry f) c) (carry-opposites f k) (∈-map (carry f) (opposite k) c o)),
    )

-- a clause is satisfied where its literals, carried along, are
pub satisfied-carried : (f : ℕ → Option ℕ) (a b : Assignment) (c : Clause) → ((l : Literal) → l ∈ c → (i : ℕ) × (f (variable_of l) ≡ Some i)) →
    AgreesAlong f a b → Satisfies a (map (carry f) c) → Satisfies b c
satisfied-carried f a b c used r (m, h, e) =
    let (l, i, q) = map-∈ (carry f) m c h in
    let (j, z) = used l i in (
      l,
      i,
      value-true b l (r (variable_of l) j z ∙ ap a (sym (carry-at f l j z)) ∙ ap (λ x. a (variable_of x)) (sym q) ∙ true-value a m e
          ∙ ap polarity_of q ∙ carry-sign f l),
    )

-- whether a literal is forced

pub forced-value : (forced : ℕ → Option Bool) (l : Literal) → is_forced forced l ≡ true → forced (variable_of l) ≡ Some (polarity_of l)
forced-value forced l e = go (forced (variable_of l)) (polarity_of l) e
  where
    go : (o : Option Bool) (b : Bool) → is_value o b ≡ true → o ≡ Some b
    go None b e = absurd (let z : false ≡ true = e in cc)
    go (Some true) true e = refl
    go (Some true) false e = absurd (let z : false ≡ true = e in cc)
    go (Some false) true e = absurd (let z : false ≡ true = e in cc)
    go (Some false) false e = refl

-- the literal of another variable with the same sign
pub carried-literal : (f : ℕ → Option ℕ) (l : Literal) (v : ℕ) (b : Bool) → f (variable_of l) ≡ Some v → IsTrue b ↔ (l % 2 ≡ 0) → literal_of v b ≡ carry f l
carried-literal f l v b e p = go b p ∙ ap (λ o. 2 * identity_of o + l % 2) (sym e)
  where
    go : (b : Bool) → IsTrue b ↔ (l % 2 ≡ 0) → literal_of v b ≡ 2 * v + l % 2
    go true p = let h = p.0 refl in omega (arith, h)
    go false p = ⊎_elim (λ h. let z : false ≡ true = p.1 h in absurd cc) (λ h. omega (arith, h)) (parity l)
