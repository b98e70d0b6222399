use Rattle.std.proofs.Common.{◌≡◌, length, ap, sym, ◌∙◌, arith}
use Rattle.varisat_clause.specs.Stores.{Store}
use Rattle.varisat_clause.proofs.StoreCalls.{word-in, literals-end, literals-read}
use Rattle.varisat_clause.proofs.alloc.ClauseAlloc.lits.Goals as goal

pub word-len-requires : goal.word-len-requires
word-len-requires g c =
    word-in c.args.self.now c.args.cref c.cref.inside.offset c.deref.result.now c.requires.sound c.requires.place
    (c.deref.ensures.value ∙ ap (λ (x : Store). x.words) c.self.view_is) c.cref.view_is

pub slice_bounds-result-end : goal.slice_bounds-result-end
slice_bounds-result-end g c =
    let e = literals-end c.args.self.now c.args.cref c.cref.inside.offset c.deref.result.now c.requires.sound c.requires.place
    (c.deref.ensures.value ∙ ap (λ (x : Store). x.words) c.self.view_is) c.cref.view_is c.word-len.result c.word-len.ensures in
    let l : length c.deref-2.result.now ≡ length c.deref.result.now = ap length (c.deref-2.ensures.value ∙ sym c.deref.ensures.value) in
    omega (arith, e, l)

pub returns : goal.returns
returns g c =
    let l : c.deref-2.result.now ≡ c.deref.result.now = c.deref-2.ensures.value ∙ sym c.deref.ensures.value in
    rw l (literals-read c.args.self.now c.args.cref c.cref.inside.offset c.deref.result.now c.requires.sound c.requires.place
    (c.deref.ensures.value ∙ ap (λ (x : Store). x.words) c.self.view_is) c.cref.view_is c.word-len.result c.word-len.ensures)
