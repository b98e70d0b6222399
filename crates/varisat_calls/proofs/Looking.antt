-- The literals of a list that are kept, and what is returned of one of them.
use Rattle.std.proofs.Common.{◌≡◌, ℕ, ℤ, [], inl, refl, sym, subst, ◌∙◌}
use Rattle.std.specs.Prelude.{Bool, List, Err}
use Rattle.std.specs.declared.alloc.AllocError.{AllocError}
use Rattle.varisat_theory.specs.promises.Membership.{◌∈◌}
use Rattle.varisat_theory.specs.promises.Literals.{Literal, opposite}
use Rattle.varisat_literals.specs.promises.Numbers.{literal_numbered}
use Rattle.varisat_client.specs.inside.LiteralSets.{IsSetOf}
use Rattle.varisat_solver.specs.promises.Summaries.{Summary}
use Rattle.varisat_solver.specs.promises.Represented.{LeadsRepresented}
use Rattle.varisat_calls.specs.Callers.{Caller, ReturnsModel, ReturnsListOf, NoRoom}
use Rattle.varisat_calls.specs.Lookups.{Lookups, IsCurrent, IsReturnedModel, GivesModel, IsCore, IsValueIn, IsMember, LooksUpValue, LooksUpFailed, True, False, Unknown, Yes, No, Failed, Unfailed}
use Rattle.varisat_calls.specs.declared.lookups.Kept.TheVariants as kept

-- there is a model where it found no memory
pub model-lost : (g : Summary) (x : AllocError) → LeadsRepresented g (λ s t. ReturnsModel s (Err x) t) g → GivesModel g
model-lost g x call s st =
    let (t, (valid, some, same), stands) = call s st in
    let (list, may) = some in
    (t, (list, (inl (valid, may), same)), stands)

-- then it is not returned
pub model-unlisted : (g h : Caller) (n : ℕ) (x : AllocError) → n ≡ 3 → h ≡ record g { returned = [] } →
    LeadsRepresented g.solver (λ s t. ReturnsModel s (Err x) t) g.solver → ReturnsListOf ReturnsModel g n h
model-unlisted g h n x three same call =
    subst (λ k. ReturnsListOf ReturnsModel g n k) (sym same) (NoRoom three (model-lost g.solver x call) refl)

-- the core is kept
pub core-kept : (c : Lookups) (g : Summary) (m : List Literal) → c.kept ≡ kept.Core → IsCore g m → IsSetOf m c.literals → IsCurrent c g
core-kept c g m k is set = record {
  model = λ e. let z : kept.Core ≡ kept.Model = sym k ∙ e in absurd cc;
  core = λ e. (m, is, set);
}

-- a literal is looked up in the set of the model's
pub value-returned : (number : ℤ) (g h : Caller) (flags : List Bool) (l : Literal) (n : ℕ) (m : List Literal) → IsReturnedModel g.solver m → IsSetOf m flags →
    l ≡ literal_numbered number → IsValueIn flags l n → h ≡ g → LooksUpValue number g n h
value-returned number g h flags l n m is set e (True k f) same = True m is (subst (λ x. x ∈ m) e ((set l).0 f)) k same
value-returned number g h flags l n m is set e (False k f) same = False m is (subst (λ x. opposite x ∈ m) e ((set (opposite l)).0 f)) k same
value-returned number g h flags l n m is set e (Unknown k f r) same =
    Unknown m is
    (λ i. f ((set l).1 (subst (λ x. x ∈ m) (sym e) i)))
    (λ i. r ((set (opposite l)).1 (subst (λ x. opposite x ∈ m) (sym e) i)))
    k same

-- a literal is looked up in the set of the core's
pub failed-returned : (number : ℤ) (g h : Caller) (flags : List Bool) (l : Literal) (n : ℕ) (m : List Literal) → IsCore g.solver m → IsSetOf m flags →
    l ≡ literal_numbered number → IsMember flags l n → h ≡ g → LooksUpFailed number g n h
failed-returned number g h flags l n m is set e (Yes k f) same = Failed m is (subst (λ x. x ∈ m) e ((set l).0 f)) k same
failed-returned number g h flags l n m is set e (No k f) same = Unfailed m is (λ i. f ((set l).1 (subst (λ x. x ∈ m) (sym e) i))) k same
