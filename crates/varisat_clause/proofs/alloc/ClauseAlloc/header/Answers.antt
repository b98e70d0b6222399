use Rattle.std.proofs.Common.{ap, ◌∙◌}
use Rattle.varisat_clause.specs.Stores.{Store}
use Rattle.varisat_clause.proofs.StoreCalls.{word-in, flags-in, header-read}
use Rattle.varisat_clause.proofs.alloc.ClauseAlloc.header.Goals as goal

pub read_header-requires-clause-words : goal.read_header-requires-clause-words
read_header-requires-clause-words g c =
    word-in c.args.self.now c.args.cref c.cref.inside.offset c.deref.result.now c.requires.sound c.requires.place
    (c.deref.ensures.value ∙ ap (λ (x : Store). x.words) c.self.view_is) c.cref.view_is

pub read_header-requires-clause-flags : goal.read_header-requires-clause-flags
read_header-requires-clause-flags g c =
    flags-in c.args.self.now c.args.cref c.cref.inside.offset c.deref.result.now c.requires.sound c.requires.place
    (c.deref.ensures.value ∙ ap (λ (x : Store). x.words) c.self.view_is) c.cref.view_is

pub returns : goal.returns
returns g c =
    c.read_header.ensures ∙ header-read c.args.self.now c.args.cref c.cref.inside.offset c.deref.result.now c.requires.sound c.requires.place
    (c.deref.ensures.value ∙ ap (λ (x : Store). x.words) c.self.view_is) c.cref.view_is
