-- The text is one of the three spellings.
use Rattle.std.proofs.Common.{rules, refl}
use Rattle.varisat.specs.promises.Lines.{ProofText, ProofBinary, ProofMarked, MeansCommand}
use Rattle.varisat.proofs.line.parse_proof.Goals as goal

pub returns-then-eq-clause-command : goal.returns-then-eq-clause-command
returns-then-eq-clause-command g c = let means : MeansCommand c.args.text.now ProofText = search rules in (ProofText, (c.new_in.ensures, refl), means)

pub returns-then-eq-2-clause-command : goal.returns-then-eq-2-clause-command
returns-then-eq-2-clause-command g c = let means : MeansCommand c.args.text.now ProofBinary = search rules in
    (ProofBinary, (c.new_in-then-eq-2.ensures, refl), means)

pub returns-then-eq-3-clause-command : goal.returns-then-eq-3-clause-command
returns-then-eq-3-clause-command g c = let means : MeansCommand c.args.text.now ProofMarked = search rules in
    (ProofMarked, (c.new_in-then-eq-3.ensures, refl), means)
