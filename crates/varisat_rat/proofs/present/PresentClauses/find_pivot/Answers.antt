use Rattle.std.proofs.Common.{◌∙◌, arith}
use Rattle.std.proofs.lemmas.List.{get_or_read}
use Rattle.varisat_plain.proofs.Scans.{refused, granted}
use Rattle.varisat_rat.proofs.RatPlaces.{no_pivot_more, no_pivot_all, pivot_found}
use Rattle.varisat_rat.proofs.present.PresentClauses.find_pivot.Goals as goal

pub loop-i-preserved : goal.loop-i-preserved
loop-i-preserved g c = record {
  same = c.is_rat_on.ensures.frame ∙ c.loop-i.invariant.same;
  none = no_pivot_more c.loop-i.self c.args.self.now c.args.clause.now c.loop-i.i c.index-clause-i.result c.loop-i.invariant.same
      (get_or_read c.args.clause.now c.loop-i.i c.index-clause-i.result c.loop-i-test.true c.index-clause-i.is 0)
      (refused _ c.in_ok-is_rat.is_rat c.if-is_rat.false c.in_ok-is_rat.ensures.found) c.loop-i.invariant.none;
}

pub returns-then-is_rat-clause-found : goal.returns-then-is_rat-clause-found
returns-then-is_rat-clause-found g c =
    pivot_found c.loop-i.self c.args.self.now c.args.clause.now c.loop-i.i c.index-clause-i.result c.loop-i.invariant.same c.loop-i-test.true
    (get_or_read c.args.clause.now c.loop-i.i c.index-clause-i.result c.loop-i-test.true c.index-clause-i.is 0)
    (granted _ c.in_ok-is_rat.is_rat c.if-is_rat.true c.in_ok-is_rat.ensures.found) c.loop-i.invariant.none

pub returns-clause-found : goal.returns-clause-found
returns-clause-found g c = no_pivot_all c.args.self.now c.args.clause.now c.loop-i.i (omega (arith, c.loop-i-test.false)) c.loop-i.invariant.none
