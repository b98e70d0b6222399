-- A word that is a command is that of its call.
use Rattle.std.proofs.Common.{rules, refl}
use Rattle.varisat.specs.promises.Lines.{Add, Assume, New, Solve, Model, Core, Steps, Since, Close, Observe, SelfCheck, MeansCommand}
use Rattle.varisat.proofs.line.parse_word.Goals as goal

pub returns-then-eq-clause-command : goal.returns-then-eq-clause-command
returns-then-eq-clause-command g c =
    let means : MeansCommand c.args.word.now (Add c.new.result.items) = search rules in
    (Add c.new.result.items, refl, means)

pub returns-then-eq-2-clause-command : goal.returns-then-eq-2-clause-command
returns-then-eq-2-clause-command g c =
    let means : MeansCommand c.args.word.now (Assume c.new-then-eq-2.result.items) = search rules in
    (Assume c.new-then-eq-2.result.items, refl, means)

pub returns-then-eq-3-clause-command : goal.returns-then-eq-3-clause-command
returns-then-eq-3-clause-command g c = let means : MeansCommand c.args.word.now New = search rules in (New, tt, means)

pub returns-then-eq-4-clause-command : goal.returns-then-eq-4-clause-command
returns-then-eq-4-clause-command g c = let means : MeansCommand c.args.word.now Solve = search rules in (Solve, tt, means)

pub returns-then-eq-5-clause-command : goal.returns-then-eq-5-clause-command
returns-then-eq-5-clause-command g c = let means : MeansCommand c.args.word.now Model = search rules in (Model, tt, means)

pub returns-then-eq-6-clause-command : goal.returns-then-eq-6-clause-command
returns-then-eq-6-clause-command g c = let means : MeansCommand c.args.word.now Core = search rules in (Core, tt, means)

pub returns-then-eq-7-clause-command : goal.returns-then-eq-7-clause-command
returns-then-eq-7-clause-command g c = let means : MeansCommand c.args.word.now Close = search rules in (Close, tt, means)

pub returns-then-eq-8-clause-command : goal.returns-then-eq-8-clause-command
returns-then-eq-8-clause-command g c = let means : MeansCommand c.args.word.now Steps = search rules in (Steps, tt, means)

pub returns-then-eq-9-clause-command : goal.returns-then-eq-9-clause-command
returns-then-eq-9-clause-command g c = let means : MeansCommand c.args.word.now Since = search rules in (Since, tt, means)

pub returns-then-eq-10-clause-command : goal.returns-then-eq-10-clause-command
returns-then-eq-10-clause-command g c = let means : MeansCommand c.args.word.now Observe = search rules in (Observe, tt, means)

pub returns-then-eq-11-clause-command : goal.returns-then-eq-11-clause-command
returns-then-eq-11-clause-command g c = let means : MeansCommand c.args.word.now SelfCheck = search rules in (SelfCheck, tt, means)
