use Rattle.varisat_tests_search.proofs.tests.tiers.header_of.Goals as goal

pub header-requires-clause-sound : goal.header-requires-clause-sound
header-requires-clause-sound g c = c.requires.tracks.sound
