use Rattle.std.proofs.Common.{ℕ, refl, map}
use Rattle.std.specs.declared.vec.Vec.{Vec}
use Rattle.varisat_names.proofs.CodePages.{written, read}
use Rattle.varisat_names.proofs.variables.code_pages.CodePages.page_mut.Goals as goal

pub returns : goal.returns
returns g c =
    let vs = c.self.inside.pages.items in
    let lists = map (λ (v : Vec ℕ _). v.items) vs in (
      (refl, λ w. rw (← c.self.view_is) (written vs lists c.args.index w refl)),
      record {
        lends = tt;
        value = read vs c.args.self.now c.args.index c.index_mut.result.now c.self.view_is c.requires c.index_mut.ensures.value;
      },
    )
