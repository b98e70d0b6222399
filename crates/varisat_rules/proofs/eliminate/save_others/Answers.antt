use Rattle.varisat_rules.proofs.EliminateLemmas.{saves_alone, saved_gone}
use Rattle.varisat_rules.proofs.eliminate.save_others.Goals as goal

pub save_all-requires-clause-saves : goal.save_all-requires-clause-saves
save_all-requires-clause-saves g c = saves_alone c.args.db.now c.args.lit c.args.places.now c.requires.pure c.requires.with

pub returns-then-saves_both-clause-gone : goal.returns-then-saves_both-clause-gone
returns-then-saves_both-clause-gone g c =
    let saves = c.in_ok-save_all.ensures {u = tt} in
    saved_gone c.save_all.new.db c.args.lit saves.pure saves.rest
