use Rattle.std.proofs.Common.{◌+◌, drop, length, arith}
use Rattle.varisat_clause.specs.Stores.{put_words}
use Rattle.varisat_search.proofs.simplifying.ShrunkClauses.{written-place, written-length, shrunk}
use Rattle.varisat_search.proofs.replace.shrink.Goals as goal

pub shorten-requires-clause-place : goal.shorten-requires-clause-place
shorten-requires-clause-place g c =
    written-place c.args.alloc.now (put_words c.args.alloc.now (c.args.cref + 3) c.write_front.new.lits) c.args.cref c.write_front.new.lits
    c.args.left.now (drop (length c.args.left.now) c.lits_mut.result.now) c.requires.sound c.requires.place
    (c.lits_mut.ensures.alone c.write_front.new.lits c.write_front.auto.lits) c.write_front.ensures

pub shorten-requires-clause-most : goal.shorten-requires-clause-most
shorten-requires-clause-most g c =
    let e = written-length c.args.alloc.now (put_words c.args.alloc.now (c.args.cref + 3) c.write_front.new.lits) c.args.cref c.write_front.new.lits
    c.args.left.now (drop (length c.args.left.now) c.lits_mut.result.now) c.requires.sound c.requires.place
    (c.lits_mut.ensures.alone c.write_front.new.lits c.write_front.auto.lits) c.write_front.ensures in
    omega (arith, e, c.requires.most)

pub returns : goal.returns
returns g c =
    shrunk c.args.alloc.now (put_words c.args.alloc.now (c.args.cref + 3) c.write_front.new.lits) c.args.cref c.write_front.new.lits c.args.left.now
    (drop (length c.args.left.now) c.lits_mut.result.now) c.requires.sound c.requires.place
    (c.lits_mut.ensures.alone c.write_front.new.lits c.write_front.auto.lits) c.write_front.ensures c.shorten.new.self c.shorten.ensures
