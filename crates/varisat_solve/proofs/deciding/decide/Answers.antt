-- How the way that the options ask for fails, or what it concludes, is how the program's does.
use Rattle.std.proofs.Common.{◌∙◌, Result, Ok, Err, sym}
use Rattle.std.specs.Result.{IfOk, IfErr}
use Rattle.varisat.specs.promises.Decided.{allowed_steps, concluded}
use Rattle.varisat_solve.specs.promises.Solving.{SearchesAsIs, SearchesMade, FailsParsing, FailsAsIs, FailsMade}
use Rattle.varisat_solve.proofs.DecidedBehind.{parsed-low, decides-parsed}
use Rattle.varisat_solve.proofs.SimplifiedTexts.{unmarked, never-simplified, searched-as-is, searches-parsed, fails-parsed}
use Rattle.varisat_solve.proofs.TimedOptions.{with_limit, in-time}
use Rattle.varisat_solve.proofs.deciding.decide.Goals as goal

by-error : {X E : Type 0} (r : Result X E) (P Q : E → Type 0) → ((e : E) → P e → Q e) → IfErr r P → IfErr r Q
by-error (Ok x) P Q f p = tt
by-error (Err e) P Q f p = f e p

by-ok : {X E : Type 0} (r : Result X E) (P Q : X → Type 0) → ((x : X) → P x → Q x) → IfOk r P → IfOk r Q
by-ok (Ok x) P Q f p = f x p
by-ok (Err e) P Q f p = tt

pub returns-then-not-is_parsed_first-clause-searched : goal.returns-then-not-is_parsed_first-clause-searched
returns-then-not-is_parsed_first-clause-searched g c =
    by-ok c.decide_text.result _ _
    (λ r s. SearchesAsIs (never-simplified c.args.options.now _ _ (c.is_parsed_first.ensures c.if-not-is_parsed_first.true)) s) c.decide_text.ensures.searched

pub returns-then-not-is_parsed_first-clause-fails : goal.returns-then-not-is_parsed_first-clause-fails
returns-then-not-is_parsed_first-clause-fails g c =
    by-error c.decide_text.result _ _
    (λ e f. FailsAsIs (never-simplified c.args.options.now _ _ (c.is_parsed_first.ensures c.if-not-is_parsed_first.true)) f) c.decide_text.ensures.fails

pub returns-in-Err-clause-fails : goal.returns-in-Err-clause-fails
returns-in-Err-clause-fails g c = FailsParsing c.in-Err.fault c.in-Err.ensures c.from_text.ensures

pub decide_simplified-requires-clause-plain : goal.decide_simplified-requires-clause-plain
decide_simplified-requires-clause-plain g c = unmarked _ _ (sym c.is_simplified-is_long.ensures ∙ c.if-is_long.true)

pub decide_simplified-requires-clause-low : goal.decide_simplified-requires-clause-low
decide_simplified-requires-clause-low g c = parsed-low _ _ c.in-Ok.formula c.in-Ok.ensures

pub returns-then-is_long-clause-kept : goal.returns-then-is_long-clause-kept
returns-then-is_long-clause-kept g c =
    in-time c.args.options.now c.options_left.result _ c.is_spent.result _ c.requires.timed c.options_left.ensures c.is_spent.ensures
    c.decide_simplified.ensures.limit

pub returns-then-is_long-clause-decided : goal.returns-then-is_long-clause-decided
returns-then-is_long-clause-decided g c =
    by-ok c.decide_simplified.result _ _
    (λ r k. decides-parsed g.W.ProofTarget.taken c.options_left.result.search.format (allowed_steps c.decide_simplified.new.max_steps) _ _
    c.in-Ok.formula (concluded r) c.args.target.now c.decide_simplified.new.target c.in-Ok.ensures k) c.decide_simplified.ensures.decided

pub returns-then-is_long-clause-searched : goal.returns-then-is_long-clause-searched
returns-then-is_long-clause-searched g c =
    by-ok c.decide_simplified.result _ _
    (λ r s. SearchesMade c.in-Ok.formula c.in-Ok.ensures (sym c.is_simplified-is_long.ensures ∙ c.if-is_long.true) s) c.decide_simplified.ensures.searched

pub returns-then-is_long-clause-fails : goal.returns-then-is_long-clause-fails
returns-then-is_long-clause-fails g c =
    by-error c.decide_simplified.result _ _
    (λ e f. FailsMade c.in-Ok.formula c.in-Ok.ensures (sym c.is_simplified-is_long.ensures ∙ c.if-is_long.true) f) c.decide_simplified.ensures.fails

pub decide_formula-requires-clause-low : goal.decide_formula-requires-clause-low
decide_formula-requires-clause-low g c = parsed-low _ _ c.in-Ok.formula c.in-Ok.ensures

pub returns-else-is_long-clause-kept : goal.returns-else-is_long-clause-kept
returns-else-is_long-clause-kept g c =
    in-time c.args.options.now c.options_left.result _ c.is_spent.result _ c.requires.timed c.options_left.ensures c.is_spent.ensures
    c.decide_formula.ensures.limit

pub returns-else-is_long-clause-decided : goal.returns-else-is_long-clause-decided
returns-else-is_long-clause-decided g c =
    by-ok c.decide_formula.result _ _
    (λ r k. decides-parsed g.W.ProofTarget.taken c.options_left.result.search.format (allowed_steps c.decide_formula.new.max_steps) _ _
    c.in-Ok.formula (concluded r) c.args.target.now c.decide_formula.new.target c.in-Ok.ensures k) c.decide_formula.ensures.decided

pub returns-else-is_long-clause-searched : goal.returns-else-is_long-clause-searched
returns-else-is_long-clause-searched g c =
    let o = with_limit c.options_left.result c.decide_formula.new.max_steps in
    by-ok c.decide_formula.result _ _
    (λ r s. SearchesAsIs (searched-as-is o _ _ c.in-Ok.formula c.in-Ok.ensures (sym c.is_simplified-is_long.ensures ∙ c.if-is_long.false))
    (searches-parsed g.W.ProofTarget.taken o.search c.args.target.now _ _ c.in-Ok.formula (concluded r) c.in-Ok.ensures s))
    c.decide_formula.ensures.searched

pub returns-else-is_long-clause-fails : goal.returns-else-is_long-clause-fails
returns-else-is_long-clause-fails g c =
    let o = with_limit c.options_left.result c.decide_formula.new.max_steps in
    by-error c.decide_formula.result _ _
    (λ e f. FailsAsIs (searched-as-is o _ _ c.in-Ok.formula c.in-Ok.ensures (sym c.is_simplified-is_long.ensures ∙ c.if-is_long.false))
    (fails-parsed g.W.ProofTarget.taken o.search c.args.target.now _ _ c.in-Ok.formula e c.in-Ok.ensures f))
    c.decide_formula.ensures.fails
