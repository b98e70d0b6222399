use Rattle.std.proofs.Common.{ℕ, refl, map}
use Rattle.std.specs.declared.vec.Vec.{Vec}
use Rattle.varisat_database.proofs.ListLemmas.{written, read}
use Rattle.varisat_database.proofs.occurrences.Occurrences.list_mut.Goals as goal

pub returns : goal.returns
returns g c =
    let vs = c.self.inside.by_lit.items in
    let lists = map (λ (v : Vec ℕ _). v.items) vs in (
      (refl, λ w. rw (← c.self.view_is) (written vs lists c.code.result c.args.lit w refl c.code.ensures.code)),
      record {
        lends = tt;
        value = read vs c.args.self.now c.code.result c.args.lit c.index_mut.result.now c.self.view_is c.code.ensures.code c.requires c.index_mut.ensures.value;
      },
    )
