use Rattle.varisat_calls.proofs.Looking.{core-kept}
use Rattle.varisat_calls.proofs.lookups.Lookups.find_core.Goals as goal

pub returns-in_ok-replace-in-Some : goal.returns-in_ok-replace-in-Some
returns-in_ok-replace-in-Some g c =
    let both = c.in_ok-replace-in-Some.ensures.kept in
    record {
      current = core-kept c.replace.new.self c.args.solver.now c.in-Some.core.now both.0 c.in-Some.ensures.call both.1;
      core = λ e. (c.in-Some.core.now, c.in-Some.ensures.call, both.1);
      none = λ e. absurd cc;
      lost = tt;
    }
