-- Values by the literals of a model, and what is made of them.
use Rattle.std.proofs.Common.{◌≡◌, ◌<◌, ◌/◌, ℕ, List, [], ◌∷◌, inl, inr, refl, sym, subst}
use Rattle.varisat_theory.specs.promises.Membership.{◌∈◌}
use Rattle.varisat_theory.specs.promises.Literals.{Literal, Clause, SatisfiesAll}
use Rattle.varisat_theory.specs.promises.Derivations.{Line}
use Rattle.varisat_formula.specs.promises.Formulas.{Formula, AllBelow, AreBelow}
use Rattle.varisat_formula.specs.promises.Values.{assignment_of, model_values}
use Rattle.varisat_formula.proofs.ValueLemmas.{length-model, model-true}
use Rattle.varisat_rules.specs.promises.Stacks.{extended}
use Rattle.varisat_simplify.specs.promises.Simplified.{IsMadeOf}
use Rattle.varisat_calls.specs.Simplifiers.{SimplifiedFormula, Simplifier, AreNoLonger, SimplifiesFormula, IsModelOf, IsExtension}

literal_below : (n : ℕ) (c : Clause) (l : Literal) → AllBelow n c → l ∈ c → l / 2 < n
literal_below n [] l b i = absurd i
literal_below n (m ∷ c) l b (inl e) = subst (λ k. k / 2 < n) (sym e) b.0
literal_below n (m ∷ c) l b (inr i) = literal_below n c l b.1 i

named_below : (n : ℕ) (P : List Clause) (c : Clause) (l : Literal) → AreBelow n P → c ∈ P → l ∈ c → l / 2 < n
named_below n [] c l b i j = absurd i
named_below n (d ∷ P) c l b (inl e) j = literal_below n d l b.0 (subst (λ k. l ∈ k) e j)
named_below n (d ∷ P) c l b (inr i) j = named_below n P c l b.1 i j

-- the values by a model satisfy what it is a model of
model_satisfies : (n : ℕ) (ls : List Literal) (P : List Clause) → ((c : Clause) (l : Literal) → c ∈ P → l ∈ c → l / 2 < n) → IsModelOf P ls →
    SatisfiesAll (assignment_of (model_values n ls)) P
model_satisfies n ls P below m = λ c i.
    let (l, in_c, in_ls) = m.meets c i in (
      l,
      in_c,
      model-true n ls l (λ k j e. m.apart k j (subst (λ x. x ∈ ls) e in_ls)) in_ls (below c l i in_c),
    )

-- what is made of a model
pub extension : (g : Simplifier) (m : SimplifiedFormula) (ls : List Literal) → SimplifiesFormula g.given g.frozen m →
    IsExtension g m ls (extended m.stack (model_values g.given.var_count ls))
extension g m ls s =
    let n = g.given.var_count in
    record {
      simplified = s;
      values = refl;
      model = λ is. s.made.1.extends (model_values n ls) (subst (λ k. AreBelow k g.given.clauses) (sym (length-model n ls)) s.below)
          (model_satisfies n ls m.left.clauses
          (λ c l i j. let (d, in_P, in_d) = s.made.1.named c l i j in named_below n g.given.clauses d l s.below in_P in_d) is);
    }

-- what is shorter than a copy, or the same, is so beside the formula
pub shorter_of_copy : (copy P Q : List Clause) → copy ≡ P → AreNoLonger Q copy → AreNoLonger Q P
shorter_of_copy copy P Q e = subst (AreNoLonger Q) e

-- what was made of a copy was made of the formula
pub made_of_copy : (f copy g : Formula) (stack : List Clause) (lines : List Line) → copy.clauses ≡ f.clauses → IsMadeOf copy g stack lines →
    IsMadeOf f g stack lines
made_of_copy f copy g stack lines e m =
    let over : List Clause → Formula = λ cs. record { var_count = f.var_count; clauses = cs } in
    subst (λ (cs : List Clause). IsMadeOf (over cs) g stack lines) e
    (record { below = m.below; least = m.least; keeps = m.keeps; extends = m.extends; leads = m.leads; named = m.named; spoken = m.spoken; kept = m.kept; saved = m.saved })
