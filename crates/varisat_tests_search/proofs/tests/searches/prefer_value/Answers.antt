use Rattle.std.proofs.Common.{◌≡◌, ◌<◌, ℕ, Bool, false, not, Option, Some, None, List, length, get_or, set, refl, sym, ap, ◌∙◌, arith, get_or-set_same}
use Rattle.std.proofs.lemmas.List.{set-set, set-get_or}
use Rattle.std.specs.Option.{is_some}
use Rattle.varisat_theory.specs.promises.Literals.{variable_of, literal_of}
use Rattle.varisat_literals.specs.promises.Numbers.{polarity_of}
use Rattle.varisat_theory.proofs.clauses.Values.{variable-literal}
use Rattle.varisat_tests_search.proofs.tests.searches.prefer_value.Given.{Over}
use Rattle.varisat_tests_search.proofs.tests.searches.prefer_value.Goals as goal
use Rattle.varisat_tests_search.proofs.tests.searches.prefer_value.Goals.{After-lit-lit, then-is_none, else-is_none}

none-from : (value : Option Bool) → is_some value ≡ false → value ≡ None
none-from None e = refl
none-from (Some b) e = absurd cc

-- a value that is given where there was none, and is taken away again
given-and-taken : (values : List (Option Bool)) (v : ℕ) (value : Option Bool) → get_or values v None ≡ None → set (set values v value) v None ≡ values
given-and-taken values v value e =
    set-set values v value None ∙ ap (set values v) (sym e) ∙ set-get_or values v None

variable : (lit v : ℕ) (value : Bool) → lit ≡ literal_of v value → variable_of lit ≡ v
variable lit v value e = ap variable_of e ∙ variable-literal v value

inside : (g : Over) (c : After-lit-lit g) → variable_of c.lit-lit.result < length c.loop-index.assignment.current
inside g c =
    let v = variable c.lit-lit.result c.from_index-var.result c.args.value c.lit-lit.ensures in
    let end = ap (λ xs. length xs) c.assignment-index-end.ensures in
    let same = ap (λ xs. length xs) c.loop-index.invariant in
    omega (arith, v, end, same, c.from_index-var.ensures, c.loop-index-test.true)

pub assign_lit-requires : goal.assign_lit-requires
assign_lit-requires g c = inside g (goal.at.assign_lit-requires g c).After-lit-lit

pub release_lit-requires : goal.release_lit-requires
release_lit-requires g c =
    let lit = c.lit-lit.result in
    ap (λ x. get_or x.current (variable_of lit) None) c.assign_lit.ensures
    ∙ get_or-set_same c.loop-index.assignment.current (variable_of lit) (Some (polarity_of lit)) None
    (inside g (goal.at.release_lit-requires g c).After-lit-lit)

pub loop-index-preserved : goal.loop-index-preserved
loop-index-preserved g c = elim c.if-is_none.branch [
  | then-is_none w ↦
      let values = c.loop-index.assignment.current in
      let v = c.from_index-var.result in
      let lit = w.lit-lit.result in
      let none = sym c.var_value.ensures ∙ none-from c.var_value.result (c.is_none.ensures ∙ ap not w.if-is_none.true) in
      let same = variable lit v c.args.value w.lit-lit.ensures in
      ap (λ x. x.current) w.assignment-is ∙ ap (λ x. x.current) w.release_lit.ensures.released
      ∙ ap (λ x. set x.current (variable_of lit) None) w.assign_lit.ensures
      ∙ given-and-taken values (variable_of lit) (Some (polarity_of lit)) (ap (λ x. get_or values x None) same ∙ none) ∙ c.loop-index.invariant
  | else-is_none w ↦ ap (λ x. x.current) w.assignment-is ∙ c.loop-index.invariant
]
