use Rattle.std.proofs.Common.{◌≡◌, ◌==◌, true, false, rules, tests, Some, None}
use Rattle.std.proofs.lemmas.List.{take_rest}
use Rattle.std.proofs.lemmas.Iterator.{IsFirst-from_position, YieldsList-from_slice}
use Rattle.varisat_formula.specs.promises.Dimacs.{is_line_feed}
use Rattle.varisat_wcnf.proofs.Reading.{cut_at, uncut}
use Rattle.varisat_wcnf.proofs.wcnf.split_line.Goals as goal

pub returns-in-Some-clause-more : goal.returns-in-Some-clause-more
returns-in-Some-clause-more c =
    let first = IsFirst-from_position _ _ (Some c.in-Some.end) (λ b. (b == 10) ≡ true) (λ b. (b == 10) ≡ false) c.in-Some.ensures.ran
    (YieldsList-from_slice c.args.text.now cc) (λ x q k. search (rules, tests)) (λ x q k. search (rules, tests)) in
    rw take_rest (cut_at is_line_feed c.args.text.now c.in-Some.end first.0 first.1 first.2)

pub returns-in-None-clause-last : goal.returns-in-None-clause-last
returns-in-None-clause-last c =
    let first = IsFirst-from_position _ _ None (λ b. (b == 10) ≡ true) (λ b. (b == 10) ≡ false) c.in-None.ensures.ran
    (YieldsList-from_slice c.args.text.now cc) (λ x q k. search (rules, tests)) (λ x q k. search (rules, tests)) in
    uncut is_line_feed c.args.text.now first
