use Rattle.varisat_tests_search.proofs.ReadySearches.{activities-ready, values-ready}
use Rattle.varisat_tests_search.proofs.tests.searches.prefer_lower_true.Goals as goal

pub returns : goal.returns
returns g c = values-ready c.prefer_value.new.assignment c.prefer_value.ensures
    (activities-ready c.prefer_lower.new.vsids c.prefer_lower.ensures.count c.prefer_lower.ensures.available c.requires)
