use Rattle.std.proofs.Common.{◌≡◌, false}
use Rattle.std.proofs.lemmas.Bool.{not-true}
use Rattle.varisat_maxsat.proofs.solving.keep_better.Goals as goal

pub returns-then-not-is_better : goal.returns-then-not-is_better
returns-then-not-is_better g c =
    let e : c.is_better.result ≡ false = first_of (assumption c.if-not-is_better.true, search (not-true, c.if-not-is_better.true)) in record {
      least = c.is_better.ensures.not_better e;
      best = λ p sol h. h;
      taken = λ p sol x b. b;
      ended = tt;
    }
