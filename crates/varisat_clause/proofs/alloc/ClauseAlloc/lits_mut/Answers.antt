use Rattle.std.proofs.Common.{◌≡◌, ℕ, List, ◌+◌, length, get_or, ap, refl, ◌∙◌, arith}
use Rattle.varisat_clause.specs.Stores.{Store, len_at}
use Rattle.std.specs.Vec.{vec_len}
use Rattle.varisat_clause.proofs.StoreWords.{literals-put}
use Rattle.varisat_clause.proofs.StoreCalls.{word-in, literals-end, literals-read, literals-long}
use Rattle.varisat_clause.proofs.alloc.ClauseAlloc.lits_mut.Goals as goal

pub word-len-requires : goal.word-len-requires
word-len-requires g c =
    word-in c.args.self.now c.args.cref c.cref.inside.offset c.deref.result.now c.requires.sound c.requires.place
    (c.deref.ensures.value ∙ ap (λ (x : Store). x.words) c.self.view_is) c.cref.view_is

pub slice_mut-requires-clause-in_bounds : goal.slice_mut-requires-clause-in_bounds
slice_mut-requires-clause-in_bounds g c =
    let e = literals-end c.args.self.now c.args.cref c.cref.inside.offset c.deref.result.now c.requires.sound c.requires.place
    (c.deref.ensures.value ∙ ap (λ (x : Store). x.words) c.self.view_is) c.cref.view_is c.word-len.result c.word-len.ensures in
    let l = ap length c.deref.ensures.value in
    omega (arith, e, l)

pub returns : goal.returns
returns g c =
    let s : Store = c.args.self.now in
    let v : c.self.inside.buffer.items ≡ s.words = ap (λ (x : Store). x.words) c.self.view_is in
    let w : c.self.inside.places.items ≡ s.places = ap (λ (x : Store). x.places) c.self.view_is in
    let o : c.cref.inside.offset ≡ c.args.cref = c.cref.view_is in
    let e : c.word-len.result ≡ get_or c.self.inside.buffer.items (c.cref.inside.offset + 2) 0 = c.word-len.ensures
    ∙ ap (λ (x : List ℕ). get_or x (c.cref.inside.offset + 2) 0) c.deref.ensures.value in
    let value = c.slice_mut.ensures.value ∙ literals-read s c.args.cref c.cref.inside.offset c.self.inside.buffer.items c.requires.sound
    c.requires.place v o c.word-len.result e in
    let long : length c.slice_mut.result.now ≡ len_at s.words c.args.cref = ap length c.slice_mut.ensures.value
    ∙ literals-long s c.args.cref c.cref.inside.offset c.self.inside.buffer.items c.requires.sound c.requires.place v o c.word-len.result e in
    let vl : vec_len c.self.inside.buffer ≡ length s.words = omega (arith, ap length v) in (
      (refl, λ w'. rw (o, v, w, vl) refl),
      record {
        lends = tt;
        value = value;
        alone = λ ws h. literals-put s c.args.cref ws c.requires.sound c.requires.place (h ∙ long);
      },
    )
