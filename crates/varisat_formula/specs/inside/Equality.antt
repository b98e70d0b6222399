-- What `==` of formulas says, and that it is an equivalence.
use Rattle.std.specs.Prelude.{Bool, ◌==◌, ◌&&◌}
use Rattle.std.specs.Cmp.Lexicographic.{pointwise}
use Rattle.std.specs.Cmp.{IsPartialEquivalence, IsEquivalence, and_equiv, on_equiv, partial_equiv_from_equiv}
use Rattle.std.proofs.lemmas.Cmp.{nat_eq_equiv, nat_list_eq_equiv, lists_equiv}
use Rattle.varisat_formula.specs.promises.Formulas.{Formula}

-- the same count of variables, and the same clauses in the same order
abbrev pub same_formula : Formula → Formula → Bool
same_formula f g = (f.var_count == g.var_count) && pointwise (pointwise ◌==◌) f.clauses g.clauses

-- this is an equivalence
pub same_equivalence : IsEquivalence same_formula
same_equivalence =
    and_equiv (on_equiv (λ f. f.var_count) nat_eq_equiv) (on_equiv (λ f. f.clauses) (lists_equiv nat_list_eq_equiv))

-- and so what `PartialEq` asks for
pub same_laws : IsPartialEquivalence same_formula
same_laws = partial_equiv_from_equiv same_equivalence
