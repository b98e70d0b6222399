-- Clauses are taken, eliminated and restored.
use Rattle.std.proofs.Common.{◌≡◌, ℕ, ◌+◌, ◌/◌, ◌<◌, ◌≤◌, Bool, true, false, List, [], ◌∷◌, ◌++◌, ◌⊎◌, inl, inr, ⊎_elim, sym, ap, ◌∙◌, refl, subst, length, take, take_all, get_or, append-nil, append_assoc, arith}
use Rattle.std.specs.Prelude.{Result, Ok, IfOk}
use Rattle.varisat_theory.specs.promises.Membership.{◌∈◌, ◌⊆◌}
use Rattle.varisat_theory.specs.promises.Literals.{Literal, Clause, Assignment, variable_of, Satisfies, SatisfiesAll}
use Rattle.varisat_theory.specs.promises.Derivations.{Line}
use Rattle.varisat_theory.proofs.clauses.Members.{∈-append_left, ∈-append_right, ∈-append_cases, equal_or_not}
use Rattle.varisat_theory.proofs.clauses.Places.{place_in}
use Rattle.varisat_formula.specs.promises.Formulas.{Formula, AllBelow, AreBelow}
use Rattle.varisat_formula.specs.promises.Values.{assignment_of}
use Rattle.varisat_rules.specs.promises.Leading.{HasVariablesOf}
use Rattle.varisat_rules.specs.promises.Stacks.{extended, KeepsFrozen}
use Rattle.varisat_rules.proofs.ExtendLemmas.{extended_length}
use Rattle.varisat_simplify.specs.promises.Simplified.{IsMadeOf}
use Rattle.varisat_simplify.proofs.NormalLemmas.{take_next}
use Rattle.varisat_incremental.specs.Flags.{IsFlagged, AreFlagged, AreClear, AreAmong, AllFlagged, AllClear}
use Rattle.varisat_incremental.specs.Reconstructions.{Reconstruction, ChangesFlagged, KeepsValues, HaveValues, Extends, HasTaken, Drops, IsLedBy, AreLedBy, RestoresSome, Restores, BringsBack, IsReduced, Saves, Reduces, TakesRest, Takes}
use Rattle.varisat_incremental.proofs.StackLemmas.{extended-append, unled-keeps, stays-satisfied, drops-kept, drops-one, drops-more, drops-part, drops-then, AreApart, dropped-same}

-- 1. Lists of clauses.

both-satisfied : (a : Assignment) (P Q : List Clause) → SatisfiesAll a P → SatisfiesAll a Q → SatisfiesAll a (P ++ Q)
both-satisfied a P Q p q c i = ⊎_elim (p c) (q c) (∈-append_cases c P Q i)

left-satisfied : (a : Assignment) (P Q : List Clause) → SatisfiesAll a (P ++ Q) → SatisfiesAll a P
left-satisfied a P Q h c i = h c (∈-append_left c P Q i)

right-satisfied : (a : Assignment) (P Q : List Clause) → SatisfiesAll a (P ++ Q) → SatisfiesAll a Q
right-satisfied a P Q h c i = h c (∈-append_right c P Q i)

both-flagged : (f : List Bool) (P Q : List Clause) → AllFlagged f P → AllFlagged f Q → AllFlagged f (P ++ Q)
both-flagged f P Q p q c i = ⊎_elim (p c) (q c) (∈-append_cases c P Q i)

both-named : (P Q R : List Clause) → HasVariablesOf P Q → HasVariablesOf P R → HasVariablesOf P (Q ++ R)
both-named P Q R q r c l i j = ⊎_elim (λ k. q c l k j) (λ k. r c l k j) (∈-append_cases c Q R i)

left-named : (P F Q : List Clause) → HasVariablesOf P Q → HasVariablesOf (P ++ F) Q
left-named P F Q h c l i j = let (m, (d, k, n), e) = h c l i j in (m, (d, ∈-append_left d P F k, n), e)

right-named : (P F Q : List Clause) → HasVariablesOf F Q → HasVariablesOf (P ++ F) Q
right-named P F Q h c l i j = let (m, (d, k, n), e) = h c l i j in (m, (d, ∈-append_right d P F k, n), e)

-- 2. What was restored.

led-changes : (f : List Bool) (K : List Clause) → AreLedBy f K → ChangesFlagged f K
led-changes f K h vs v n = unled-keeps K vs v (λ l c i e. n (subst (IsFlagged f) e (h l c i)))

led-apart : (f : List Bool) (K R : List Clause) → AreLedBy f K → AllClear f R → AreApart K R
led-apart f K R h n l c d m i j k e = n d j m k (subst (IsFlagged f) e (h l c i))

pub restored : (P Q R : List Clause) (r m s t : Reconstruction) → HasTaken P Q r → m.stack ≡ r.stack → AreAmong r.frozen t.frozen → Restores m [] s R →
    AreLedBy s.eliminated s.stack → AllFlagged t.frozen R → t.stack ≡ s.stack → t.eliminated ≡ s.eliminated → HasTaken P (Q ++ R) t
restored P Q R r m s t h same more d led all es ee = record {
  keeps = λ a k. both-satisfied a Q R (h.keeps a k) (λ c i. h.implied a k c (saved c i));
  implied = λ a k c i. h.implied a k c (left c i);
  extends = λ vs n k. subst (λ (ws : List Bool). SatisfiesAll (assignment_of ws) P)
      (ap (λ (K : List Clause). extended K vs) (sym same)
      ∙ dropped-same R m.stack s.stack vs (right-satisfied (assignment_of vs) Q R k) (led-apart s.eliminated s.stack R led (d.some.clear (λ c i. absurd i))) d.some.drops
      ∙ ap (λ (K : List Clause). extended K vs) (sym es))
      (h.extends vs n (left-satisfied (assignment_of vs) Q R k));
  changes = led-changes t.eliminated t.stack (subst (λ (f : List Bool). AreLedBy f t.stack) (sym ee) (subst (AreLedBy s.eliminated) (sym es) led));
  frozen = both-flagged t.frozen Q R (λ c i l j. more (variable_of l) (h.frozen c i l j)) all;
  named = both-named P Q R h.named (λ c l i j. h.saved c l (saved c i) j);
  saved = λ c l i j. h.saved c l (left c i) j;
}
  where
    saved : R ⊆ r.stack
    saved c i = subst (λ (K : List Clause). c ∈ K) same (⊎_elim (λ z. absurd z) (λ k. k) (d.some.from c i))

    left : t.stack ⊆ r.stack
    left c i = subst (λ (K : List Clause). c ∈ K) same (drops-part R m.stack s.stack d.some.drops c (subst (λ (K : List Clause). c ∈ K) es i))

-- nothing was, since none is named
pub unrestored : (P Q R : List Clause) (r t : Reconstruction) → HasTaken P Q r → AreAmong r.frozen t.frozen → t.stack ≡ r.stack → t.eliminated ≡ r.eliminated →
    R ≡ [] → HasTaken P (Q ++ R) t
unrestored P Q R r t h more es ee none = subst (λ (X : List Clause). HasTaken P X t) (sym (ap (λ (X : List Clause). Q ++ X) none ∙ append-nil Q)) (record {
  keeps = h.keeps;
  implied = λ a k. subst (SatisfiesAll a) (sym es) (h.implied a k);
  extends = λ vs n k. subst (λ (K : List Clause). SatisfiesAll (assignment_of (extended K vs)) P) (sym es) (h.extends vs n k);
  changes = subst (λ (f : List Bool). ChangesFlagged f t.stack) (sym ee) (subst (ChangesFlagged r.eliminated) (sym es) h.changes);
  frozen = λ c i l j. more (variable_of l) (h.frozen c i l j);
  named = h.named;
  saved = subst (HasVariablesOf P) (sym es) h.saved;
})

-- the steps of a pass
pub restores-none : (S B R : List Clause) (f : List Bool) (K : List Clause) → K ≡ [] → R ≡ B → RestoresSome (take 0 S) f B K f R
restores-none S B R f K e q = subst (λ (X : List Clause). RestoresSome (take 0 S) f B X f R) (sym e) (subst (RestoresSome (take 0 S) f B [] f) (sym q) (record {
  fewer = λ v h. h;
  more = λ c i. i;
  from = λ c i. inl i;
  drops = first S;
  clear = λ h. h;
}))
  where
    first : (S : List Clause) → Drops B (take 0 S) []
    first [] = tt
    first (c ∷ S) = tt

pub restores-kept : (S B K L R T : List Clause) (f g j : List Bool) (k : ℕ) (c : Clause) → k < length S → c ≡ get_or S k [] → L ≡ K ++ c ∷ [] → T ≡ R → j ≡ g →
    RestoresSome (take k S) f B K g R → RestoresSome (take (k + 1) S) f B L j T
restores-kept S B K L R T f g j k c h e q x y d = subst (RestoresSome (take (k + 1) S) f B L j) (sym x) (subst (λ z. RestoresSome (take (k + 1) S) f B L z R) (sym y) (subst (λ (X : List Clause). RestoresSome X f B L g R) (sym (take_next S k [] h ∙ ap (λ (x : Clause). take k S ++ x ∷ []) (sym e)))
    (subst (λ (X : List Clause). RestoresSome (take k S ++ c ∷ []) f B X g R) (sym q) (record {
      fewer = d.fewer;
      more = d.more;
      from = λ x i. ⊎_elim inl (λ j. inr (∈-append_left x (take k S) (c ∷ []) j)) (d.from x i);
      drops = drops-kept R (take k S) K c d.drops;
      clear = d.clear;
    }))))

pub restores-one : (S B K L R T : List Clause) (f g h j : List Bool) (k : ℕ) (c : Clause) → k < length S → c ≡ get_or S k [] → T ≡ R ++ c ∷ [] → L ≡ K → j ≡ h →
    AreAmong h g → AreClear h c → RestoresSome (take k S) f B K g R → RestoresSome (take (k + 1) S) f B L j T
restores-one S B K L R T f g h j k c n e q x y m clear d = subst (λ X. RestoresSome (take (k + 1) S) f B X j T) (sym x) (subst (λ z. RestoresSome (take (k + 1) S) f B K z T) (sym y) (subst (λ (X : List Clause). RestoresSome X f B K h T) (sym (take_next S k [] n ∙ ap (λ (x : Clause). take k S ++ x ∷ []) (sym e)))
    (subst (RestoresSome (take k S ++ c ∷ []) f B K h) (sym q) (record {
      fewer = λ v i. d.fewer v (m v i);
      more = λ x i. ∈-append_left x R (c ∷ []) (d.more x i);
      from = λ x i. ⊎_elim
          (λ j. ⊎_elim inl (λ y. inr (∈-append_left x (take k S) (c ∷ []) y)) (d.from x j))
          (λ j. inr (∈-append_right x (take k S) (c ∷ []) j))
          (∈-append_cases x R (c ∷ []) i);
      drops = drops-one (R ++ c ∷ []) (take k S) K c (∈-append_right c R (c ∷ []) (inl refl))
          (drops-more R (R ++ c ∷ []) (take k S) K (λ x i. ∈-append_left x R (c ∷ []) i) d.drops);
      clear = λ b x i. ⊎_elim
          (λ j l y z. d.clear b x j l y (m (variable_of l) z))
          (λ j. ⊎_elim (λ p. subst (AreClear h) (sym p) clear) (λ z. absurd z) j)
          (∈-append_cases x R (c ∷ []) i);
    }))))

pub restores-all : (S B K R : List Clause) (f g : List Bool) (k : ℕ) → length S ≤ k → RestoresSome (take k S) f B K g R → RestoresSome S f B K g R
restores-all S B K R f g k h d = subst (λ (X : List Clause). RestoresSome X f B K g R) (take_all k S h) d

pub restores-then : (S K L B R T : List Clause) (f g h : List Bool) → RestoresSome S f B K g R → RestoresSome K g R L h T → RestoresSome S f B L h T
restores-then S K L B R T f g h d e = record {
  fewer = λ v i. d.fewer v (e.fewer v i);
  more = λ c i. e.more c (d.more c i);
  from = λ c i. ⊎_elim (d.from c) (λ j. inr (drops-part R S K d.drops c j)) (e.from c i);
  drops = drops-then T S K L (drops-more R T S K e.more d.drops) e.drops;
  clear = λ b. e.clear (d.clear b);
}

-- 3. What is reduced.

-- what a clause says where the call returned a value
pub at-ok : {X E : Type 0} → (r : Result X E) (x : X) (f : X → Type 0) → r ≡ Ok x → IfOk r f → f x
at-ok r x f e h = subst (λ y. IfOk y f) e h

below-all : (n : ℕ) (c : Clause) → ((l : Literal) → l ∈ c → variable_of l < n) → AllBelow n c
below-all n [] h = tt
below-all n (l ∷ c) h = (h l (inl refl), below-all n c (λ m i. h m (inr i)))

pub have-below : (vs : List Bool) (F : List Clause) → HaveValues F vs → AreBelow (length vs) F
have-below vs [] h = tt
have-below vs (c ∷ F) h = (below-all (length vs) c (λ l i. h c l (inl refl) i), have-below vs F (λ d l i j. h d l (inr i) j))

pub reduced-made : (f g : Formula) (S : List Clause) (lines : List Line) → IsMadeOf f g S lines → ((a : Assignment) → SatisfiesAll a f.clauses → SatisfiesAll a S) →
    IsReduced f.clauses g.clauses S
reduced-made f g S lines m implied = record {
  keeps = m.keeps;
  implied = implied;
  extends = λ vs h s. m.extends vs (have-below vs f.clauses h) s;
  named = λ c l i j. (l, m.named c l i j, refl);
  saved = m.saved;
}

pub reduced-same : (F : List Clause) → IsReduced F F []
reduced-same F = record {
  keeps = λ a h. h;
  implied = λ a h c i. absurd i;
  extends = λ vs h s. s;
  named = λ c l i j. (l, (c, i, j), refl);
  saved = λ c l i j. absurd i;
}

-- few clauses are taken as they are
pub saves-none : (r : Reconstruction) → Saves [] r r
saves-none r = record { stack = sym (append-nil r.stack); frozen = refl; more = λ v h. h; led = λ l c i. absurd i }

pub reduced-keeps : (P Q A S : List _) (r s : Reconstruction) → HasTaken P Q r → KeepsFrozen r.frozen S → Saves S r s → AreFlagged r.frozen A →
    AreClear r.eliminated A → KeepsValues A s.stack
reduced-keeps P Q A S r s h frozen saves held clear vs l i =
    ap (λ (K : List Clause). get_or (extended K vs) (variable_of l) false) saves.stack
    ∙ ap (λ (ws : List Bool). get_or ws (variable_of l) false) (extended-append r.stack S vs)
    ∙ h.changes (extended S vs) (variable_of l) (clear l i) ∙ frozen vs (variable_of l) (held l i)

pub reduced : (P Q F G S : List Clause) (r s t : Reconstruction) (Z : List Bool) → HasTaken P Q r → AllClear r.eliminated F → IsReduced F G S →
    KeepsFrozen r.frozen S → Saves S r s → AreAmong s.frozen Z → AllFlagged Z G → t ≡ record s { frozen = Z } → HasTaken (P ++ F) (Q ++ G) t
reduced P Q F G S r s t Z h clear d held saves more all e = subst (HasTaken (P ++ F) (Q ++ G)) (sym e) (record {
  keeps = λ a k. both-satisfied a Q G (h.keeps a (left-satisfied a P F k)) (d.keeps a (right-satisfied a P F k));
  implied = λ a k. subst (λ (K : List Clause). SatisfiesAll a K) (sym saves.stack)
      (both-satisfied a r.stack S (h.implied a (left-satisfied a P F k)) (d.implied a (right-satisfied a P F k)));
  extends = λ vs n k. subst (λ (ws : List Bool). SatisfiesAll (assignment_of ws) (P ++ F)) (sym (same vs))
      (both-satisfied (assignment_of (extended r.stack (extended S vs))) P F (first vs n k) (second vs n k));
  changes = λ vs v n. ap (λ (ws : List Bool). get_or ws v false) (same vs)
      ∙ h.changes (extended S vs) v (λ f. n (saves.more v f)) ∙ led-changes s.eliminated S saves.led vs v n;
  frozen = both-flagged Z Q G
      (λ c i l j. more (variable_of l) (subst (λ (f : List Bool). IsFlagged f (variable_of l)) (sym saves.frozen) (h.frozen c i l j))) all;
  named = both-named (P ++ F) Q G (left-named P F Q h.named) (right-named P F G d.named);
  saved = subst (λ (K : List Clause). HasVariablesOf (P ++ F) K) (sym saves.stack)
      (both-named (P ++ F) r.stack S (left-named P F r.stack h.saved) (right-named P F S d.saved));
})
  where
    same : (vs : List Bool) → extended s.stack vs ≡ extended r.stack (extended S vs)
    same vs = ap (λ (K : List Clause). extended K vs) saves.stack ∙ extended-append r.stack S vs

    now : (vs : List Bool) → HaveValues (P ++ F) vs → SatisfiesAll (assignment_of vs) (Q ++ G) → SatisfiesAll (assignment_of (extended S vs)) F
    now vs n k = d.extends vs (λ c l i j. n c l (∈-append_right c P F i) j) (right-satisfied (assignment_of vs) Q G k)

    second : (vs : List Bool) → HaveValues (P ++ F) vs → SatisfiesAll (assignment_of vs) (Q ++ G) →
        SatisfiesAll (assignment_of (extended r.stack (extended S vs))) F
    second vs n k c i = stays-satisfied (extended S vs) (extended r.stack (extended S vs)) c (λ l j. h.changes (extended S vs) (variable_of l) (clear c i l j))
        (now vs n k c i)

    first : (vs : List Bool) → HaveValues (P ++ F) vs → SatisfiesAll (assignment_of vs) (Q ++ G) →
        SatisfiesAll (assignment_of (extended r.stack (extended S vs))) P
    first vs n k = h.extends (extended S vs)
        (λ c l i j. subst (λ m. variable_of l < m) (sym (extended_length S vs)) (n c l (∈-append_left c P F i) j))
        (λ c i. stays-satisfied vs (extended S vs) c (λ l j. held vs (variable_of l) (h.frozen c i l j)) (left-satisfied (assignment_of vs) Q G k c i))

-- the clauses that were restored come first
pub taken-joined : (P Q R G F : List Clause) (t : Reconstruction) (X : List Clause) → X ≡ R ++ G → HasTaken (P ++ F) ((Q ++ R) ++ G) t →
    HasTaken (P ++ F) (Q ++ X) t
taken-joined P Q R G F t X e h = subst (λ (Y : List Clause). HasTaken (P ++ F) Y t) (append_assoc Q R G ∙ ap (λ (Y : List Clause). Q ++ Y) (sym e)) h

-- 4. What was saved is put on the stack.

pub saves-next : (S : List Clause) (k : ℕ) (c : Clause) (r s t : Reconstruction) → k < length S → c ≡ get_or S k [] → t.stack ≡ s.stack ++ c ∷ [] →
    t.frozen ≡ s.frozen → AreAmong s.eliminated t.eliminated → IsLedBy t.eliminated c → Saves (take k S) r s → Saves (take (k + 1) S) r t
saves-next S k c r s t h e q z m led d = subst (λ (X : List Clause). Saves X r t) (sym (take_next S k [] h ∙ ap (λ (x : Clause). take k S ++ x ∷ []) (sym e))) (record {
  stack = q ∙ ap (λ (X : List Clause). X ++ c ∷ []) d.stack ∙ append_assoc r.stack (take k S) (c ∷ []);
  frozen = z ∙ d.frozen;
  more = λ v i. m v (d.more v i);
  led = λ l x i. ⊎_elim
      (λ j. m (variable_of l) (d.led l x j))
      (λ j. ⊎_elim (λ p. subst (IsLedBy t.eliminated) (sym p) led) (λ y. absurd y) j)
      (∈-append_cases (l ∷ x) (take k S) (c ∷ []) i);
})

pub saves-first : (S : List Clause) (r s : Reconstruction) → s ≡ r → Saves (take 0 S) r s
saves-first [] r s e = subst (Saves [] r) (sym e) (saves-none r)
saves-first (c ∷ S) r s e = subst (Saves [] r) (sym e) (saves-none r)

pub saves-all : (S : List Clause) (k : ℕ) (r s : Reconstruction) → length S ≤ k → Saves (take k S) r s → Saves S r s
saves-all S k r s h d = subst (λ (X : List Clause). Saves X r s) (take_all k S h) d

-- 5. Whether all first literals are of flagged variables.

pub led-next : (f : List Bool) (S : List Clause) (k : ℕ) (c : Clause) → c ≡ get_or S k [] → IsLedBy f c → ((j : ℕ) → j < k → IsLedBy f (get_or S j [])) →
    (j : ℕ) → j < k + 1 → IsLedBy f (get_or S j [])
led-next f S k c e led h j i = ⊎_elim
    (λ q. subst (λ n. IsLedBy f (get_or S n [])) (sym q) (subst (IsLedBy f) e led))
    (λ n. h j (omega (arith, i, n)))
    (equal_or_not j k)

pub led-all : (f : List Bool) (S : List Clause) (k : ℕ) → length S ≤ k → ((j : ℕ) → j < k → IsLedBy f (get_or S j [])) → AreLedBy f S
led-all f S k n h l c i = let (j, b, e) = place_in (l ∷ c) S [] i in subst (IsLedBy f) e (h j (omega (arith, b, n)))

-- 6. The steps together.

pub restores-both : (r s : Reconstruction) (B K R T : List Clause) (g : List Bool) → B ≡ [] → RestoresSome r.stack r.eliminated B K g R →
    RestoresSome K g R s.stack s.eliminated T → s.frozen ≡ r.frozen → Restores r [] s T
restores-both r s B K R T g e d k f = record {
  some = subst (λ (X : List Clause). RestoresSome r.stack r.eliminated X s.stack s.eliminated T) e (restores-then r.stack K s.stack B R T r.eliminated g s.eliminated d k);
  frozen = f;
}

pub brings-none : (F R : List Clause) (A : List Literal) (r s : Reconstruction) (E : List Bool) → R ≡ [] → s.stack ≡ r.stack → E ≡ r.eliminated → s.eliminated ≡ E →
    AreAmong r.frozen s.frozen → AreFlagged s.frozen A → AreClear E A → AllClear s.eliminated F → BringsBack F A R r s
brings-none F R A r s E none es e f more held apart clear = record {
  taken = λ P Q h. unrestored P Q R r s h more es (f ∙ e) none;
  clear = clear;
  apart = subst (λ (x : List Bool). AreClear x A) (sym f) apart;
  held = held;
}

pub brings-some : (F R : List Clause) (A : List Literal) (r m s t : Reconstruction) (E : List Bool) → m.stack ≡ r.stack → AreAmong r.frozen m.frozen →
    AreFlagged m.frozen A → AreClear E A → AreAmong m.eliminated E → AllClear m.eliminated F → Restores m [] s R → AreLedBy s.eliminated s.stack →
    AreAmong s.frozen t.frozen → AllFlagged t.frozen R → t.stack ≡ s.stack → t.eliminated ≡ s.eliminated → BringsBack F A R r t
brings-some F R A r m s t E same more held apart fewer clear d led wider all es ee = record {
  taken = λ P Q h. restored P Q R r m s t h same (λ v i. frozen v (more v i)) d led all es ee;
  clear = λ c i l j k. clear c i l j (left (variable_of l) k);
  apart = λ l i k. apart l i (fewer (variable_of l) (left (variable_of l) k));
  held = λ l i. frozen (variable_of l) (held l i);
}
  where
    frozen : AreAmong m.frozen t.frozen
    frozen v i = wider v (subst (λ (f : List Bool). IsFlagged f v) (sym d.frozen) i)

    left : AreAmong t.eliminated m.eliminated
    left v i = d.some.fewer v (subst (λ (f : List Bool). IsFlagged f v) ee i)

pub reduces-made : (f g : Formula) (S : List Clause) (lines : List Line) (z : List Bool) (r s : Reconstruction) → IsMadeOf f g S lines →
    ((a : Assignment) → SatisfiesAll a f.clauses → SatisfiesAll a S) → KeepsFrozen z S → z ≡ r.frozen →
    Saves S r s → Reduces f.clauses g.clauses r s
reduces-made f g S lines z r s m implied k e d = (S, reduced-made f g S lines m implied, subst (λ (x : List Bool). KeepsFrozen x S) e k, d)

pub reduces-same : (F : List Clause) (r : Reconstruction) → Reduces F F r r
reduces-same F r = ([], reduced-same F, (λ vs v f. refl), saves-none r)

-- the same fields
retaken : (P Q : List Clause) (s t : Reconstruction) → t.stack ≡ s.stack → t.eliminated ≡ s.eliminated → t.frozen ≡ s.frozen → HasTaken P Q s → HasTaken P Q t
retaken P Q s t es ee ef h = record {
  keeps = h.keeps;
  implied = λ a k. subst (SatisfiesAll a) (sym es) (h.implied a k);
  extends = λ vs n k. subst (λ (K : List Clause). SatisfiesAll (assignment_of (extended K vs)) P) (sym es) (h.extends vs n k);
  changes = subst (λ (f : List Bool). ChangesFlagged f t.stack) (sym ee) (subst (ChangesFlagged s.eliminated) (sym es) h.changes);
  frozen = subst (λ (f : List Bool). AllFlagged f Q) (sym ef) h.frozen;
  named = h.named;
  saved = subst (HasVariablesOf P) (sym es) h.saved;
}

pub takes-rest : (F G : List Clause) (r m t : Reconstruction) → Reduces F G r m → AreAmong m.frozen t.frozen → AllFlagged t.frozen G → t.stack ≡ m.stack →
    t.eliminated ≡ m.eliminated → TakesRest F G r t
takes-rest F G r m t (S, d, k, saves) more all es ee = record {
  taken = λ P Q h clear. retaken (P ++ F) (Q ++ G) (record m { frozen = t.frozen }) t es ee refl
      (reduced P Q F G S r m (record m { frozen = t.frozen }) t.frozen h clear d k saves more all refl);
  keeps = λ P Q A h held apart. subst (KeepsValues A) (sym es) (reduced-keeps P Q A S r m h k saves held apart);
}

pub takes : (F R G X : List Clause) (A : List Literal) (r m s : Reconstruction) → BringsBack F A R r m → TakesRest F G m s → X ≡ R ++ G → Takes F A X r s
takes F R G X A r m s b t e = λ P Q h.
    let k = b.taken P Q h in
    (taken-joined P Q R G F s X e (t.taken P (Q ++ R) k b.clear), t.keeps P (Q ++ R) A k b.held b.apart)
