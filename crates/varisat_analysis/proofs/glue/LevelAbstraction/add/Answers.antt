use Rattle.std.proofs.Common.{◌%◌, sym, ◌∙◌, arith}
use Rattle.std.specs.Int.{w64}
use Rattle.std.proofs.lemmas.Nat.Bits.{bit_at_set_same, bit_at_set_other}
use Rattle.varisat_analysis.proofs.glue.LevelAbstraction.add.Goals as goal

pub returns-clause-added : goal.returns-clause-added
returns-clause-added c = bit_at_set_same w64 _ (c.args.level % 64) (omega arith)

pub returns-clause-rest : goal.returns-clause-rest
returns-clause-rest c =
    rw (← c.self.view_is) (λ other n. let e = bit_at_set_other w64 c.self.inside.bits (c.args.level % 64) (omega arith) (other % 64) n in
    ((λ h. sym e ∙ h), (λ h. e ∙ h)))
