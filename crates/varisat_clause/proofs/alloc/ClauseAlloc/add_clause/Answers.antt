use Rattle.std.proofs.Common.{◌≡◌, ◌+◌, ◌<◌, ◌++◌, ◌∷◌, [], length, ap, arith}
use Rattle.varisat_clause.specs.Stores.{Store}
use Rattle.std.proofs.Common.{◌^◌}
use Rattle.std.proofs.lemmas.Grind.{common_steps}
use Rattle.varisat_clause.specs.Headers.{Header, flags_of}
use Rattle.varisat_clause.proofs.StoreWords.{added}
use Rattle.varisat_clause.proofs.alloc.ClauseAlloc.add_clause.Goals as goal

pub returns-clause-added : goal.returns-clause-added
returns-clause-added g c =
    let s : Store = c.args.self.now in
    let h : Header = c.args.header in
    let v : c.self.inside.buffer.items ≡ s.words = ap (λ (x : Store). x.words) c.self.view_is in
    let w : c.self.inside.places.items ≡ s.places = ap (λ (x : Store). x.places) c.self.view_is in
    let o : c.len-offset.result ≡ length s.words = rw (← v) (omega arith) in
    let p : c.push.new.self.items ≡ c.self.inside.places.items ++ length c.self.inside.buffer.items ∷ [] = grind (arith, common_steps) in
    let n : Store = record { words = c.append.new.buffer.items; places = c.push.new.self.items } in
    let ew : n.words ≡ s.words ++ (h.activity ∷ flags_of h ∷ length c.args.lits.now ∷ c.args.lits.now) = rw (← v) ((c.if-not-append.ensures {u = tt}).items) in
    let ep : n.places ≡ s.places ++ length s.words ∷ [] = rw (← v, ← w) p in
    let room : length s.words + 3 + length c.args.lits.now < 2 ^ 32 = rw (← v) (omega arith) in
    rw o (added s n h c.args.lits.now c.requires.sound c.requires.long room c.append.ensures.flags c.append.ensures.back ew ep)

pub returns-then-not-append-clause-refused : goal.returns-then-not-append-clause-refused
returns-then-not-append-clause-refused g c = grind (arith, common_steps)
