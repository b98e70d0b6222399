use Rattle.std.proofs.Common.{◌≡◌, ◌+◌, sym, ◌∙◌, subst}
use Rattle.std.proofs.lemmas.Option.{MatchOption-at_some}
use Rattle.varisat_prop.specs.Parts.{TrailParts}
use Rattle.varisat_search.specs.Contexts.{IsReady}
use Rattle.varisat_search.proofs.variables.SkippedHead.{skipped-ready}
use Rattle.varisat_search.proofs.load.skip_unmentioned.Goals as goal

pub returns-clause-ready : goal.returns-clause-ready
returns-clause-ready g c =
    let x = c.args.ctx.now in
    let e = MatchOption-at_some (c.pop_queue.new.self ≡ x.trail)
    (λ l. c.pop_queue.new.self ≡ record x.trail { queue_head = x.trail.queue_head + 1 }) c.args.lit
    (c.pop_queue.ensures.head ∙ c.requires.head) c.pop_queue.ensures.taken in
    subst (λ (t : TrailParts). IsReady (record x { trail = t })) (sym e)
    (skipped-ready x c.args.lit c.requires.ready c.requires.undecided c.requires.head c.requires.unmentioned)
