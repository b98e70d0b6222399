use Rattle.std.proofs.Common.{arith}
use Rattle.varisat_solver.specs.inside.Accepting.{naming_of}
use Rattle.varisat_solver.proofs.accepting.NamesComing.{all-watermark, all-in-range, all-made}
use Rattle.varisat_solver.proofs.name_checks.lacks_room.Goals as goal

pub overflow_sub-rising : goal.overflow_sub-rising
overflow_sub-rising g c =
    let a = all-watermark c.args.clause.now (naming_of c.args.variables.now) in
    omega (arith, a, c.requires.watermark, c.user_watermark.ensures)

pub overflow_add-made : goal.overflow_add-made
overflow_add-made g c =
    let a = all-in-range c.args.clause.now (naming_of c.args.variables.now) c.requires.in_range c.requires.bounded.users in
    omega (arith, a, c.requires.watermark, c.global_watermark.ensures, c.requires.bounded.globals)

pub returns-then-made-max_count : goal.returns-then-made-max_count
returns-then-made-max_count g c =
    let (a, f) = all-made c.args.clause.now (naming_of c.args.variables.now) in
    omega (arith, a, c.requires.watermark, c.user_watermark.ensures, c.global_watermark.ensures, c.max_count.ensures, c.if-made-max_count.true)

pub returns-then-clause-room : goal.returns-then-clause-room
returns-then-clause-room g c =
    let (f, a) = all-made c.args.clause.now (naming_of c.args.variables.now) in
    λ crowded. omega (
      arith,
      a,
      c.requires.watermark,
      c.user_watermark.ensures,
      c.global_watermark.ensures,
      c.max_count.ensures,
      c.max_count-2.ensures,
      c.if-made-max_count.false,
      c.if-clause-room.true,
      crowded,
    )
