use Rattle.varisat_tests_search.proofs.tests.lent.mark.Goals as goal

pub dedup_and_mark_by_tier-requires-clause-tracks : goal.dedup_and_mark_by_tier-requires-clause-tracks
dedup_and_mark_by_tier-requires-clause-tracks c = c.clear_marks.ensures.tracks c.args.db.now c.requires
