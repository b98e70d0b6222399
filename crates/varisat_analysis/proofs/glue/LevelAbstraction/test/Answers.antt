use Rattle.std.proofs.Common.{◌%◌, arith, tests}
use Rattle.std.proofs.lemmas.Nat.{one_shl, pow_pos}
use Rattle.std.proofs.lemmas.Nat.Bits.{and_pow}
use Rattle.varisat_analysis.proofs.glue.LevelAbstraction.test.Goals as goal

pub returns : goal.returns
returns c =
    rw (← c.self.view_is) (grind (
      arith,
      tests,
      one_shl (c.args.level % 64) 64 (omega arith),
      and_pow c.self.inside.bits
          (c.args.level % 64),
      pow_pos (c.args.level % 64),
    ))
