use Rattle.std.proofs.Common.{arith, List, Bool, ◌<◌, [], length, get_or, set, ap, ◌∙◌}
use Rattle.std.specs.List.{filter}
use Rattle.varisat_database.specs.Flags.{is_flagged}
use Rattle.varisat_database.proofs.ListLemmas.{sound_kept}
use Rattle.varisat_database.proofs.database.Database.tidy.Goals as goal

pub invariant_of-self : goal.invariant_of-self
invariant_of-self g c =
    let lists = c.self.inside.occurrences in
    let a = c.code.ensures.code in
    let b = c.len.ensures in
    let d = c.if-code-len.false in
    let h : c.of-short.result < length lists = omega (arith, a, b, d) in
    sound_kept c.self.inside.var_count c.self.inside.history.clauses c.self.inside.live.items c.self.inside.is_listed c.self.inside.names lists c.keep.new.self c.of-short.result h
    (c.keep.ensures ∙ ap (λ (flags : List Bool). set lists c.of-short.result (filter (is_flagged flags) (get_or lists c.of-short.result []))) c.deref.ensures.value)
    c.self.invariant
