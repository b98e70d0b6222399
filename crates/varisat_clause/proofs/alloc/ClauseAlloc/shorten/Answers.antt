use Rattle.std.proofs.Common.{ap, refl, arith}
use Rattle.varisat_clause.specs.Stored.{StoredClause}
use Rattle.varisat_clause.specs.Stores.{Store}
use Rattle.varisat_clause.proofs.StoreWords.{found}
use Rattle.varisat_clause.proofs.StoreCalls.{word-in, length-put}
use Rattle.varisat_clause.proofs.alloc.ClauseAlloc.shorten.Goals as goal

pub from_code-requires : goal.from_code-requires
from_code-requires g c =
    let f = found c.args.self.now c.args.cref c.requires.sound c.requires.place in
    let e = ap (λ (x : StoredClause). x.header.len) f.is in
    omega (arith, f.ends, e, c.requires.most, c.requires.sound.small)

pub index_mut-requires : goal.index_mut-requires
index_mut-requires g c =
    let e = word-in c.args.self.now c.args.cref c.cref.inside.offset c.self.inside.buffer.items c.requires.sound c.requires.place
    (ap (λ (x : Store). x.words) c.self.view_is) c.cref.view_is in
    omega (arith, e)

pub returns : goal.returns
returns g c =
    length-put c.args.self.now _ c.args.cref c.cref.inside.offset c.args.count c.self.inside.buffer.items c.requires.sound c.requires.place
    (ap (λ (x : Store). x.words) c.self.view_is) c.cref.view_is c.requires.least c.requires.most (rw c.from_code.ensures refl)
    (ap (λ (x : Store). x.places) c.self.view_is)
