use Rattle.std.proofs.Common.{◌≡◌, true, false, rules, tests, Some, None}
use Rattle.std.proofs.lemmas.List.{take_rest}
use Rattle.std.proofs.lemmas.Iterator.{IsFirst-from_position, YieldsList-from_slice}
use Rattle.varisat_formula.specs.promises.Dimacs.{is_blank}
use Rattle.varisat_wcnf.proofs.Reading.{word-cut, word-alone, word-long}
use Rattle.varisat_wcnf.proofs.wcnf.split_word.Goals as goal

pub returns-in-Some-clause-some : goal.returns-in-Some-clause-some
returns-in-Some-clause-some c =
    let t = c.in_ok-text.text.now in
    let first = IsFirst-from_position _ _ (Some c.in-Some.end) (λ b. is_blank b ≡ true) (λ b. is_blank b ≡ false) c.in-Some.ensures.ran
    (YieldsList-from_slice t cc) (λ x q k. search (rules, tests)) (λ x q k. search (rules, tests)) in
    rw take_rest (word-cut c.args.line.now t c.in-Some.end c.in_ok-text.ensures.same c.in_ok-text.ensures.begun first.0 first.1 first.2)

pub returns-in-Some-clause-letters : goal.returns-in-Some-clause-letters
returns-in-Some-clause-letters c =
    let t = c.in_ok-text.text.now in
    let first = IsFirst-from_position _ _ (Some c.in-Some.end) (λ b. is_blank b ≡ true) (λ b. is_blank b ≡ false) c.in-Some.ensures.ran
    (YieldsList-from_slice t cc) (λ x q k. search (rules, tests)) (λ x q k. search (rules, tests)) in
    word-long t c.in-Some.end c.in_ok-text.ensures.begun first.0 first.1

pub returns-in-None-clause-some : goal.returns-in-None-clause-some
returns-in-None-clause-some c =
    let t = c.in_ok-text.text.now in
    let first = IsFirst-from_position _ _ None (λ b. is_blank b ≡ true) (λ b. is_blank b ≡ false) c.in-None.ensures.ran
    (YieldsList-from_slice t cc) (λ x q k. search (rules, tests)) (λ x q k. search (rules, tests)) in
    word-alone c.args.line.now t c.in_ok-text.ensures.same c.in_ok-text.ensures.some first
