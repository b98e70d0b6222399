use Rattle.std.proofs.Common.{length, ap, ◌∙◌, arith}
use Rattle.varisat_clause.specs.Stores.{Store}
use Rattle.std.proofs.lemmas.List.{with_items_is}
use Rattle.varisat_clause.proofs.StoreCalls.{word-in, header-put}
use Rattle.varisat_clause.proofs.alloc.ClauseAlloc.set_header.Goals as goal

pub write_header-requires : goal.write_header-requires
write_header-requires g c =
    let e = word-in c.args.self.now c.args.cref c.cref.inside.offset c.self.inside.buffer.items c.requires.sound c.requires.place
    (ap (λ (x : Store). x.words) c.self.view_is) c.cref.view_is in
    let l = ap length c.deref_mut.ensures.value in
    omega (arith, e, l)

pub returns : goal.returns
returns g c =
    let items = with_items_is c.self.inside.buffer c.write_header.new.words (omega (arith, c.write_header.auto.words, c.deref_mut.ensures.len)) in
    header-put c.args.self.now _ c.args.cref c.cref.inside.offset c.deref_mut.result.now c.args.header c.requires.sound c.requires.place
    (c.deref_mut.ensures.value ∙ ap (λ (x : Store). x.words) c.self.view_is) c.cref.view_is c.requires.length c.write_header.ensures.flags
    c.write_header.ensures.back (items ∙ c.write_header.ensures.words) (ap (λ (x : Store). x.places) c.self.view_is)
