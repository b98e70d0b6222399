use Rattle.std.proofs.Common.{List, ap, ◌∙◌, ◌++◌, ◌∷◌, []}
use Rattle.varisat_theory.specs.promises.Literals.{Clause}
use Rattle.varisat_proof.proofs.DratCheck.{follows_added, rat_added, neither_added}
use Rattle.varisat_proof.proofs.checker.drat.take_added.Goals as goal

pub returns-in_ok-push-in-Follows : goal.returns-in_ok-push-in-Follows
returns-in_ok-push-in-Follows g c =
    follows_added c.args.clauses.now c.push.new.self c.args.clause.now c.in_ok-why.why c.in-Follows.is c.in_ok-why.ensures.logged
    (c.in_ok-push-in-Follows.ensures.ok ∙ ap (λ (P : List Clause). P ++ (c.args.clause.now ∷ [])) c.redundancy_of.ensures.frame)

pub returns-in_ok-push-in-Rat : goal.returns-in_ok-push-in-Rat
returns-in_ok-push-in-Rat g c =
    rat_added c.args.clauses.now c.push-in-Rat.new.self c.args.clause.now c.in_ok-why.why c.in-Rat.place c.in-Rat.is c.in_ok-why.ensures.logged
    (c.in_ok-push-in-Rat.ensures.ok ∙ ap (λ (P : List Clause). P ++ (c.args.clause.now ∷ [])) c.redundancy_of.ensures.frame)

pub returns-in-Neither : goal.returns-in-Neither
returns-in-Neither g c =
    neither_added c.args.clauses.now c.redundancy_of.new.clauses c.args.clause.now c.in_ok-why.why c.in-Neither.is c.in_ok-why.ensures.logged
    c.redundancy_of.ensures.frame
