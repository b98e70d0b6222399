-- Where all words are literals, the text is the command of their clause or list. Where one is none, no command is spelled so.
use Rattle.std.proofs.Common.{◌++◌, ap, sym, ◌∙◌, map}
use Rattle.varisat_literals.specs.promises.Numbers.{literal_text}
use Rattle.varisat.proofs.LineLemmas.{words_behind, none_left, clause_read, list_read, no_clause, no_list}
use Rattle.varisat.proofs.line.parse_literals.Goals as goal

pub returns-in-None-clause-no_clause : goal.returns-in-None-clause-no_clause
returns-in-None-clause-no_clause g c =
    let n = c.args.numbers.now in
    let ls = c.loop-rest.literals.items in
    no_clause n ls _ _ c.in-None.ensures.no_literal
    (words_behind ls n _ c.in-Some.text _ _ c.loop-rest.invariant.texts c.in-Some.is c.split_word.ensures.last c.split_word.ensures.more)

pub returns-in-None-clause-no_list : goal.returns-in-None-clause-no_list
returns-in-None-clause-no_list g c =
    let n = c.args.numbers.now in
    let ls = c.loop-rest.literals.items in
    no_list n ls _ _ c.in-None.ensures.no_literal
    (words_behind ls n _ c.in-Some.text _ _ c.loop-rest.invariant.texts c.in-Some.is c.split_word.ensures.last c.split_word.ensures.more)

pub returns-clause-clause : goal.returns-clause-clause
returns-clause-clause g c =
    let ls = c.loop-rest.literals.items in
    clause_read c.args.numbers.now ls
    (ap (λ ws. map literal_text ls ++ ws) (sym (none_left c.loop-rest.rest c.in_default.not-Some)) ∙ c.loop-rest.invariant.texts)
    c.loop-rest.invariant.in_range

pub returns-clause-list : goal.returns-clause-list
returns-clause-list g c =
    let ls = c.loop-rest.literals.items in
    list_read c.args.numbers.now ls
    (ap (λ ws. map literal_text ls ++ ws) (sym (none_left c.loop-rest.rest c.in_default.not-Some)) ∙ c.loop-rest.invariant.texts)
    c.loop-rest.invariant.in_range
