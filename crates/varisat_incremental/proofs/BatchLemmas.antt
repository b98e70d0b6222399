-- Batches that are begun, simplified in parts, and ended.
use Rattle.std.proofs.Common.{◌≡◌, Bool, true, false, Option, Some, None, is_some, List, [], ◌++◌, append-nil, sym, ap, ◌∙◌, refl, subst, append_assoc}
use Rattle.varisat_theory.specs.promises.Literals.{Literal, Clause}
use Rattle.varisat_theory.specs.promises.Derivations.{Line}
use Rattle.varisat_formula.specs.promises.Formulas.{Formula}
use Rattle.varisat_simplify.specs.inside.Parts.{Simplification, IsBegunOf, GoesOn, IsSimplified}
use Rattle.varisat_incremental.specs.Flags.{AreAmong, AllFlagged, AllClear}
use Rattle.varisat_incremental.specs.Reconstructions.{Reconstruction, HasTaken, KeepsValues, Saves, BringsBack, Takes}
use Rattle.varisat_incremental.specs.Batches.{Batch, Batches, IsClosed, IsBatchOf, BeginsBatch, ContinuesBatch, EndsBatch, HasBegun, Closed, Open, KeepsBegun, TakesPart, Closes, TakesAll}
use Rattle.varisat_incremental.proofs.TakingLemmas.{reduces-made, takes-rest, taken-joined}

none-some : {Z : Type 0} (o : Batch) (m : Option Batch) → m ≡ None → m ≡ Some o → Z
none-some o m e q = absurd (let z : None ≡ Some o = sym e ∙ q in cc)

some-same : {x y : Batch} → Some x ≡ Some y → x ≡ y
some-same e = cc

-- where all was returned
pub closed-taken : (P Q : List Clause) (b : Batches) → IsClosed b → HasBegun P Q b → HasTaken P Q b.reconstruction
closed-taken P Q b e (Closed z h) =
    subst (λ (Y : List Clause). HasTaken P Y b.reconstruction) (ap (λ (Y : List Clause). Q ++ Y) e.none_ended ∙ append-nil Q) h
closed-taken P Q b e (Open o before f q w h k) = none-some o b.open_batch e.none_open q

-- a batch is begun
pub begins-batch : (f : Formula) (A : List Literal) (R : List Clause) (r s : Reconstruction) (x : Simplification) → BringsBack f.clauses A R r s →
    IsBegunOf f s.frozen true x → BeginsBatch f (record { restored = R; simplification = x }) r s
begins-batch f A R r s x b begun = record { taken = b.taken; batch = record { clear = b.clear; begun = begun } }

-- a part of it is done
pub continues-batch : (R : List Clause) (s t : Simplification) → GoesOn s t →
    ContinuesBatch (record { restored = R; simplification = s }) (record { restored = R; simplification = t })
continues-batch R s t h = record { restored = refl; simplification = h }

-- it ends
pub ends-batch : (o : Batch) (g : Formula) (S : List Clause) (lines : List Line) (E H G : List Clause) (r m t : Reconstruction) →
    ((f : Formula) (frozen : List Bool) (both : Bool) → IsBegunOf f frozen both o.simplification → IsSimplified f frozen both g S lines) →
    Saves S r m → AreAmong m.frozen t.frozen → AllFlagged t.frozen g.clauses → t.stack ≡ m.stack → t.eliminated ≡ m.eliminated →
    H ≡ E ++ o.restored → G ≡ H ++ g.clauses → EndsBatch o E G r t
ends-batch o g S lines E H G r m t simplified saves more all es ee d e P Q f h k =
    let s = simplified f r.frozen true k.begun in
    let rest = takes-rest f.clauses g.clauses r m t (reduces-made f g S lines r.frozen r m s.made (s.implied refl) s.kept refl saves) more all es ee in
    taken-joined P Q H g.clauses f.clauses t G e
    (subst (λ (Y : List Clause). HasTaken (P ++ f.clauses) (Y ++ g.clauses) t) (append_assoc Q E o.restored ∙ ap (λ (Y : List Clause). Q ++ Y) (sym d))
    (rest.taken P ((Q ++ E) ++ o.restored) h k.clear))

-- a part of the open batch is done
pub keeps-open : (o p : Batch) (b c : Batches) → b.open_batch ≡ Some o → ContinuesBatch o p → c ≡ record b { open_batch = Some p } → KeepsBegun b c
keeps-open o p b c e k q P Q (Closed z h) = none-some o b.open_batch z e
keeps-open o p b c e k q P Q (Open x before f y w h i) =
    let same : x ≡ o = some-same (sym y ∙ e) in
    subst (HasBegun P Q) (sym q) (Open p before f refl w
    (subst (λ (R : List Clause). HasTaken before ((Q ++ b.ended) ++ R) b.reconstruction) (ap (λ (z : Batch). z.restored) same ∙ sym k.restored) h)
    (record { clear = i.clear; begun = k.simplification f b.reconstruction.frozen true (subst (λ (z : Batch). IsBegunOf f b.reconstruction.frozen true z.simplification) same i.begun) }))

-- the open batch ends
pub closes-open : (o : Batch) (b c : Batches) → b.open_batch ≡ Some o → EndsBatch o b.ended c.ended b.reconstruction c.reconstruction →
    c.open_batch ≡ None → Closes b c
closes-open o b c e ends none = (none, λ P Q h. closed P Q h)
  where
    closed : (P Q : List Clause) → HasBegun P Q b → HasTaken P (Q ++ c.ended) c.reconstruction
    closed P Q (Closed z h) = none-some o b.open_batch z e
    closed P Q (Open y before f q w h i) =
        let same : y ≡ o = some-same (sym q ∙ e) in
        subst (λ (Y : List Clause). HasTaken Y (Q ++ c.ended) c.reconstruction) (sym w)
        (ends before Q f (subst (λ (z : Batch). HasTaken before ((Q ++ b.ended) ++ z.restored) b.reconstruction) same h)
        (subst (λ (z : Batch). IsBatchOf f z b.reconstruction) same i))

-- none is open
pub closes-none : (b c : Batches) → b.open_batch ≡ None → c ≡ b → Closes b c
closes-none b c e q = (ap (λ (x : Batches). x.open_batch) q ∙ e, λ P Q h. closed P Q h)
  where
    closed : (P Q : List Clause) → HasBegun P Q b → HasTaken P (Q ++ c.ended) c.reconstruction
    closed P Q (Closed z h) = subst (λ (x : Batches). HasTaken P (Q ++ x.ended) x.reconstruction) (sym q) h
    closed P Q (Open o before f y w h i) = none-some o b.open_batch e y

-- a batch that ends, nothing of which is returned yet
pub keeps-closed : (b c : Batches) → Closes b c → KeepsBegun b c
keeps-closed b c (none, closed) P Q h = Closed none (closed P Q h)

-- and that is so after a part of it
pub keeps-ended : (o p : Batch) (b c : Batches) → b.open_batch ≡ Some o → ContinuesBatch o p →
    EndsBatch p b.ended c.ended b.reconstruction c.reconstruction → c.open_batch ≡ None → KeepsBegun b c
keeps-ended o p b c e k ends none P Q h =
    let m : Batches = record b { open_batch = Some p } in
    keeps-closed m c (closes-open p m c refl ends none) P Q (keeps-open o p b m e k refl P Q h)

-- nothing is done
pub keeps-same : (b c : Batches) → c ≡ b → KeepsBegun b c
keeps-same b c q P Q h = subst (HasBegun P Q) (sym q) h

pub goes-on : (b c : Batches) (F : List Clause) → KeepsBegun b c → TakesPart F F b c
goes-on b c F k P Q h = (P, refl, k P Q h)

none-open : (m : Option Batch) → is_some m ≡ false → m ≡ None
none-open None e = refl
none-open (Some o) e = absurd (let z : true ≡ false = e in cc)

-- the pending clauses become the open batch
pub opens : (o : Batch) (f : Formula) (b c : Batches) (F G : List Clause) (s : Reconstruction) → is_some b.open_batch ≡ false → F ≡ f.clauses → G ≡ [] →
    BeginsBatch f o b.reconstruction s → c ≡ record b { reconstruction = s; open_batch = Some o } → TakesPart F G b c
opens o f b c F G s e same none k q P Q (Closed z h) = (
  P ++ F,
  sym (append-nil (P ++ F)) ∙ ap (λ (X : List Clause). (P ++ F) ++ X) (sym none),
  subst (HasBegun (P ++ F) Q) (sym q) (Open o P f refl (ap (λ (X : List Clause). P ++ X) same) (k.taken P (Q ++ b.ended) h) k.batch),
)
opens o f b c F G s e same none k q P Q (Open x before g y w h i) = none-some x b.open_batch (none-open b.open_batch e) y

-- all is taken and returned, where nothing was to be returned of batches that ended
pub takes-closed : (F G : List Clause) (A : List Literal) (b m c : Batches) → Closes b m → Takes F A G m.reconstruction c.reconstruction →
    c.open_batch ≡ m.open_batch → c.ended ≡ m.ended → c.ended ≡ [] → TakesAll F A G b c
takes-closed F G A b m c (none, closed) t o d e P Q h =
    let (taken, keeps) = t P Q (subst (λ (Y : List Clause). HasTaken P Y m.reconstruction) (ap (λ (Y : List Clause). Q ++ Y) (sym d ∙ e) ∙ append-nil Q) (closed P Q h)) in
    (taken, record { none_open = o ∙ none; none_ended = e }, keeps)

-- and where something was
pub takes-ended : (F G X : List Clause) (A : List Literal) (b m c : Batches) → Closes b m → Takes F A G m.reconstruction c.reconstruction →
    c.open_batch ≡ m.open_batch → X ≡ m.ended ++ G → c.ended ≡ [] → TakesAll F A X b c
takes-ended F G X A b m c (none, closed) t o x e P Q h =
    let (taken, keeps) = t P (Q ++ m.ended) (closed P Q h) in (
      subst (λ (Y : List Clause). HasTaken (P ++ F) Y c.reconstruction) (append_assoc Q m.ended G ∙ ap (λ (Y : List Clause). Q ++ Y) (sym x)) taken,
      record { none_open = o ∙ none; none_ended = e },
      keeps,
    )
