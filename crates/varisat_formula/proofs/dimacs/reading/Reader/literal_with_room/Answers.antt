use Rattle.std.proofs.Common.{◌≡◌, ◌∷◌, [], ◌++◌, ◌+◌, ◌/◌, ◌≤◌, ℕ, List, not, max, subst, sym, ap, ◌∙◌, arith}
use Rattle.varisat_formula.specs.promises.Dimacs.{Reading, is_above, is_one_too_many}
use Rattle.varisat_formula.specs.promises.Formulas.{Formula, variables_of}
use Rattle.varisat_formula.proofs.AllowedLiterals.{number_of_literal, still_open, takes_allowed}
use Rattle.varisat_formula.proofs.FormulaBuffers.{variables_push}
use Rattle.varisat_formula.proofs.dimacs.reading.Reader.literal_with_room.Goals as goal

pub from_index-requires : goal.from_index-requires
from_index-requires g c = omega (arith, c.if-token-allowed.false, c.requires.allows.small)

pub invariant_of-self : goal.invariant_of-self
invariant_of-self g c =
    let highest = c.self.inside.formula.var_count in
    let is_number : c.from_index.result / 2 + 1 ≡ c.args.token.number = ap (λ x. x / 2 + 1) c.from_index.ensures
    ∙ number_of_literal c.args.token.number (not c.args.token.minus) c.requires.some in
    subst (λ ls. variables_of ls ≤ c.set_var_count.new.self.var_count) (sym c.push_reserved.ensures.items)
    (variables_push _ c.from_index.result highest _ c.self.invariant
    (ap (λ f. f.var_count) c.set_var_count.ensures ∙ ap (λ n. max highest n) (sym is_number)))

pub returns-clause-taken : goal.returns-clause-taken
returns-clause-taken g c = λ t line.
    let i = c.self.inside in
    let l = c.from_index.result in
    let n = c.args.token.number in
    let with : Formula → List ℕ → Reading = λ f xs. record {
      clauses = f.clauses;
      begun = xs;
      count = i.count;
      header = i.header;
      highest = f.var_count;
      fault = i.fault;
    } in
    let grown : Reading → Reading = λ r. record r { begun = r.begun ++ l ∷ []; highest = max r.highest n } in
    ap (λ f. with f c.push_reserved.new.self.items) c.set_var_count.ensures
    ∙ ap (λ xs. with (record { var_count = max i.formula.var_count n; clauses = i.formula.clauses }) xs) c.push_reserved.ensures.items
    ∙ ap grown c.self.view_is
    ∙ takes_allowed c.args.self.now c.args.allowed line l n c.args.token.minus c.requires.allows c.if-token-allowed.false c.requires.some
    c.from_index.ensures

pub returns-clause-allows : goal.returns-clause-allows
returns-clause-allows g c =
    let i = c.self.inside in
    record {
      small = c.requires.allows.small;
      room = λ p. ap (λ xs. is_one_too_many i.header xs i.count) c.push_reserved.ensures.items
          ∙ still_open i.header i.begun.items c.from_index.result i.count;
      below = λ m h. ap (λ r. is_above r.header m) c.self.view_is ∙ c.requires.allows.below m h;
    }
