use Rattle.varisat_tests_search.proofs.ReadySearches.{values-ready}
use Rattle.varisat_tests_search.proofs.tests.collecting.prefer_false.Goals as goal

pub returns : goal.returns
returns g c = values-ready c.prefer_value.new.assignment c.prefer_value.ensures c.requires
