use Rattle.std.proofs.Common.{◌≡◌, ℕ, zero, suc, refl, Bool, List, length, ap, ap₂, ◌∙◌, subst, arith}
use Rattle.varisat_theory.specs.promises.Membership.{◌∈◌}
use Rattle.varisat_vsids.specs.Activities.{Activities, decayed}
use Rattle.varisat_search.specs.Contexts.{view}
use Rattle.varisat_search.specs.Learning.{decayed_further}
use Rattle.varisat_analysis.specs.Bumps.{bumped_each}
use Rattle.varisat_analysis.proofs.BumpedVariables.{above-inside, each-available, each-decay}
use Rattle.varisat_search.proofs.bumps.bump_involved.Given.{Over}
use Rattle.varisat_search.proofs.bumps.bump_involved.Goals.{After-decay_times}
use Rattle.varisat_search.proofs.bumps.bump_involved.Goals as goal

pub bump_each-requires : goal.bump_each-requires
bump_each-requires g c v i =
    let x = c.args.ctx.now in
    let (l, h, b, e) = c.requires.met.only v (subst (λ vs. v ∈ vs) c.met.ensures i) in
    let inside = above-inside (view x).nodes l b in
    let nodes = c.requires.ready.well.nodes_are in
    let count = c.requires.ready.decidable.entries.activity in
    omega (arith, inside, nodes, count, e)

pub returns-clause-bumps : goal.returns-clause-bumps
returns-clause-bumps g c h =
    let x = c.args.ctx.now in (
      c.decay.new.self,
      c.further_decays-times.result,
      c.further_decays-times.ensures,
      c.decay_times.ensures.decayed,
      (
        x.analyze_conflict.met,
        c.requires.met,
        c.decay.ensures.decayed ∙ ap decayed (c.bump_each.ensures.bumps ∙ ap (λ vs. bumped_each vs x.vsids) c.met.ensures),
      ),
    )

-- further decays change increments and activities alone
further-available : (k : ℕ) (a : Activities) → (decayed_further k a).available ≡ a.available
further-available zero a = refl
further-available (suc k) a = further-available k a

further-decay : (k : ℕ) (a : Activities) → (decayed_further k a).decay ≡ a.decay
further-decay zero a = refl
further-decay (suc k) a = further-decay k a

-- the same variables are available
available : (g : Over) (c : After-decay_times g) → c.decay_times.new.vsids.available ≡ c.args.ctx.now.vsids.available
available g c =
    ap (λ (b : Activities). b.available) c.decay_times.ensures.decayed
    ∙ further-available c.further_decays-times.result c.decay.new.self ∙ ap (λ (b : Activities). b.available) c.decay.ensures.decayed ∙ ap (λ (b : Activities). b.available) c.bump_each.ensures.bumps
    ∙ each-available c.met.result.now c.args.ctx.now.vsids

pub returns-clause-frame : goal.returns-clause-frame
returns-clause-frame g c =
    let v = c.decay_times.new.vsids in
    ap₂ (λ (bs : List Bool) (n : ℕ). record c.args.ctx.now { vsids = record v { available = bs; decay = n } })
    (available g (goal.at.returns-clause-frame g c).After-decay_times)
    (ap (λ (b : Activities). b.decay) c.decay_times.ensures.decayed
    ∙ further-decay c.further_decays-times.result c.decay.new.self ∙ ap (λ (b : Activities). b.decay) c.decay.ensures.decayed ∙ ap (λ (b : Activities). b.decay) c.bump_each.ensures.bumps
    ∙ each-decay c.met.result.now c.args.ctx.now.vsids)

pub returns-clause-entries : goal.returns-clause-entries
returns-clause-entries g c =
    let n = c.requires.ready.decidable.entries in
    record {
      activity = c.decay_times.ensures.count ∙ c.decay.ensures.count ∙ c.bump_each.ensures.count ∙ n.activity;
      available = ap (λ xs. length xs) (available g (goal.at.returns-clause-entries g c).After-decay_times) ∙ n.available;
    }

pub returns-clause-undecided : goal.returns-clause-undecided
returns-clause-undecided g c e = absurd (c.if-current_level-eq0.false (c.current_level.ensures ∙ ap (λ xs. length xs) e))

pub returns-then-current_level-eq0-clause-bumps : goal.returns-then-current_level-eq0-clause-bumps
returns-then-current_level-eq0-clause-bumps g c h = let l = c.current_level.ensures in let z = c.if-current_level-eq0.true in absurd (omega (arith, h, l, z))

pub returns-then-current_level-eq0-clause-entries : goal.returns-then-current_level-eq0-clause-entries
returns-then-current_level-eq0-clause-entries g c = c.requires.ready.decidable.entries
