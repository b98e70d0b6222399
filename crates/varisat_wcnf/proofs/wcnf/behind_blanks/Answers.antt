use Rattle.std.proofs.Common.{◌≡◌, true, false, rules, tests, Some, None, arith}
use Rattle.std.proofs.lemmas.List.{take_rest}
use Rattle.std.proofs.lemmas.Iterator.{IsFirst-from_position, YieldsList-from_slice}
use Rattle.varisat_formula.specs.promises.Dimacs.{is_blank}
use Rattle.varisat_wcnf.proofs.Reading.{words-blank, words-none}
use Rattle.varisat_wcnf.proofs.wcnf.behind_blanks.Goals as goal

pub returns-clause-same : goal.returns-clause-same
returns-clause-same c =
    let first = IsFirst-from_position _ _ (Some c.in_ok-start.start) (λ b. is_blank b ≡ false) (λ b. is_blank b ≡ true) c.in_ok-start.ensures.ran
    (YieldsList-from_slice c.args.line.now cc) (λ x q k. search (rules, tests)) (λ x q k. search (rules, tests)) in
    rw take_rest (words-blank c.args.line.now c.in_ok-start.start (let h = first.0 in omega arith) first.2)

pub returns-in_err-start-clause-none : goal.returns-in_err-start-clause-none
returns-in_err-start-clause-none c =
    let first = IsFirst-from_position _ _ None (λ b. is_blank b ≡ false) (λ b. is_blank b ≡ true) c.in_err-start.ensures.ran
    (YieldsList-from_slice c.args.line.now cc) (λ x q k. search (rules, tests)) (λ x q k. search (rules, tests)) in
    rw c.from_residual.ensures (words-none c.args.line.now first)
