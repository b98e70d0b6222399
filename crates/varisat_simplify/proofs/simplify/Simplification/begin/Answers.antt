use Rattle.varisat_simplify.proofs.PartLemmas.{begun}
use Rattle.varisat_simplify.proofs.simplify.Simplification.begin.Goals as goal

pub returns : goal.returns
returns g c =
    begun c.args.formula c.named_count-count.result c.len-loaded.result c.args.frozen.now c.args.saves_both c.in_ok-db.db c.load.new.db
    c.named_count-count.ensures.below c.named_count-count.ensures.least (c.in_ok-db.ensures {u = tt}) (c.in_ok-load.ensures {u = tt}) c.len-loaded.ensures.count
