use Rattle.std.proofs.Common.{◌≡◌, Bool, false, List, Option, length, replicate, take, drop, ◌++◌, subst, sym, ap, ◌∙◌, arith}
use Rattle.std.proofs.lemmas.List.{length-replicate}
use Rattle.varisat_theory.proofs.clauses.Members.{∈-append_left}
use Rattle.varisat_clause.specs.Stored.{literals_of}
use Rattle.varisat_prop.specs.View.{pairs_from}
use Rattle.varisat_search.specs.Contexts.{view}
use Rattle.varisat_search.specs.Forgotten.{FlagsMentioned, FlagsImplying}
use Rattle.varisat_search.proofs.simplifying.MentionedFlags.{all-flagged, lent-back, made-anew}
use Rattle.varisat_search.proofs.forgetting.flag_mentioned.Given.{Over}
use Rattle.varisat_search.proofs.forgetting.flag_mentioned.Goals.{After-deref_mut}
use Rattle.varisat_search.proofs.forgetting.flag_mentioned.Goals as goal

none-yet : (g : Over) (c : After-deref_mut g) → c.deref_mut.result.now ≡ replicate (length c.args.ctx.now.assignment.current) false
none-yet g c = c.deref_mut.ensures.value ∙ (c.in_ok-resize.ensures {u = tt}).items
    ∙ made-anew (length c.assignment.result.now) _ c.new-flags.result.items c.new-flags.ensures.items c.new-flags.ensures.len
    ∙ ap (λ (vs : List (Option Bool)). replicate (length vs) false) c.assignment.ensures

pub flag_stored-requires-clause-known : goal.flag_stored-requires-clause-known
flag_stored-requires-clause-known g c d h l i =
    let s = view c.args.ctx.now in
    let a = c.requires.well.in_range d (∈-append_left d (literals_of s.clauses) (pairs_from 0 s.binary) h) l i in
    let e = ap (λ (fs : List Bool). length fs) (none-yet g c) ∙ length-replicate (length s.values) false in
    omega (arith, a, e)

pub returns : goal.returns
returns g c =
    let here = (goal.at.returns g c).After-deref_mut in
    let s = view c.args.ctx.now in
    let size = c.resize.new.self.len in
    let first = c.flag_stored.new.flags in
    let last = c.flag_implying.new.flags in
    let back = lent-back size first c.resize.new.self.items (c.flag_stored.ensures.count ∙ c.deref_mut.ensures.len) in
    let mid = subst (λ fs. FlagsImplying s.binary fs last) (c.deref_mut-2.ensures.value ∙ back) c.flag_implying.ensures in
    subst (FlagsMentioned s) (sym (lent-back size last (take size (first ++ drop (length first) c.resize.new.self.items))
    (mid.count ∙ c.flag_stored.ensures.count ∙ c.deref_mut.ensures.len)))
    (all-flagged s c.deref_mut.result.now first last c.requires.well (none-yet g here) c.flag_stored.ensures mid)
