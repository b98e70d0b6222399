-- How what a tracer may hold and the lines that it takes go together.
use Rattle.std.proofs.Common.{◌≡◌, ℕ, List, [], ◌∷◌, ◌++◌, refl, sym, ap, ◌∙◌, append_assoc, subst}
use Rattle.std.proofs.lemmas.List.{append-nil}
use Rattle.varisat_theory.specs.promises.Literals.{Clause}
use Rattle.varisat_theory.specs.promises.Derivations.{Line, Add, Delete, Derives}
use Rattle.varisat_theory.specs.promises.Searches.{Search, Fits}
use Rattle.varisat_theory.specs.inside.Outcomes.{SearchOutcome, Proves}
use Rattle.varisat_theory.proofs.journals.StepCounts.{by_derives}
use Rattle.varisat_theory.proofs.clauses.Lines.{derives_cut}
use Rattle.varisat_theory.specs.promises.Journals.{Entry, Writes, Leads, written}
use Rattle.varisat_steps.specs.Traces.{TakesLines, TakesStep, verdict_entries, CanTake, AdmitsFor}

-- 1. Lines as entries.

pub entries-append : (first second : List Line) → written (first ++ second) ≡ written first ++ written second
entries-append [] second = refl
entries-append (l ∷ first) second = ap (λ es. Writes l ∷ es) (entries-append first second)

-- a derivation is a journal of lines
pub lines-lead : (P : List Clause) (lines : List Line) (Q : List Clause) → Derives P lines Q → Leads P (written lines) Q
lines-lead P [] Q e = e
lines-lead P (Add c ∷ lines) Q (f, d) = (P ++ c ∷ [], (f, refl), lines-lead (P ++ c ∷ []) lines Q d)
lines-lead P (Delete c ∷ lines) Q (R, t, d) = (R, t, lines-lead R lines Q d)

-- lines are taken in turn
pub lines-more : {Q : Type 0} (takes : Q → List Entry → Q → Type 0)
    (takes_more : (x y z : Q) (first second : List Entry) → takes x first y → takes y second z → takes x (first ++ second) z) (x y z : Q)
    (first second : List Line) → TakesLines takes x first y → TakesLines takes y second z → TakesLines takes x (first ++ second) z
lines-more takes takes_more x y z first second h k =
    subst (λ es. takes x es z) (sym (entries-append first second)) (takes_more x y z (written first) (written second) h k)

-- a step without a core
pub step-lines : {Q : Type 0} (takes : Q → List Entry → Q → Type 0) (x y : Q) (lines : List Line) (v : SearchOutcome) → verdict_entries v ≡ [] →
    TakesLines takes x lines y → TakesStep takes x lines v y
step-lines takes x y lines v e h = subst (λ es. takes x es y) (sym (ap (λ es. written lines ++ es) e ∙ append-nil (written lines))) h

-- lines, and then those of a step
pub step-more : {Q : Type 0} (takes : Q → List Entry → Q → Type 0)
    (takes_more : (x y z : Q) (first second : List Entry) → takes x first y → takes y second z → takes x (first ++ second) z) (x y z : Q)
    (first second : List Line) (v : SearchOutcome) → TakesLines takes x first y → TakesStep takes y second v z → TakesStep takes x (first ++ second) v z
step-more takes takes_more x y z first second v h k =
    subst (λ es. takes x es z)
    (sym (ap (λ es. es ++ verdict_entries v) (entries-append first second) ∙ append_assoc (written first) (written second) (verdict_entries v)))
    (takes_more x y z (written first) (written second ++ verdict_entries v) h k)

-- 2. What may be held.

-- the lines of a part of a step can be taken
pub can_take : (H : List Clause → Type 0) (n : ℕ) (s t : Search) (lines : List Line) → AdmitsFor H s → Proves n s t lines → CanTake H lines
can_take H n s t lines (held, h, f) p = let (after, d, g) = p.holds held f in (held, after, h, by_derives n held lines after d)

-- what is held fits after a part without lines
pub holds_still : (H : List Clause → Type 0) (n : ℕ) (s t : Search) → AdmitsFor H s → Proves n s t [] → AdmitsFor H t
holds_still H n s t (held, h, f) p = let (after, d, g) = p.holds held f in (held, h, subst (λ P. Fits P t) (sym d) g)

-- Where a tracer has the laws of a trait.
module _ {Q : Type 0} (holds : Q → List Clause → Type 0) (takes : Q → List Entry → Q → Type 0)
    (holds_after : (x y : Q) (entries : List Entry) (held after : List Clause) → takes x entries y → holds x held → Leads held entries after →
    holds y after) where
  -- after lines it may hold what is present then
  pub holds_lines : (x y : Q) (lines : List Line) (held after : List Clause) → TakesLines takes x lines y → holds x held →
      Derives held lines after → holds y after
  holds_lines x y lines held after k h d = holds_after x y (written lines) held after k h (lines-lead held lines after d)

  -- after a part of a step it may hold what fits the search then
  pub holds_on : (x y : Q) (n : ℕ) (s t : Search) (lines : List Line) → AdmitsFor (holds x) s → Proves n s t lines → TakesLines takes x lines y →
      AdmitsFor (holds y) t
  holds_on x y n s t lines (held, h, f) p k =
      let (after, d, g) = p.holds held f in
      (after, holds_lines x y lines held after k h (by_derives n held lines after d), g)

  -- after the first lines it can take the others
  pub can_take_rest : (x y : Q) (first rest : List Line) → CanTake (holds x) (first ++ rest) → TakesLines takes x first y → CanTake (holds y) rest
  can_take_rest x y first rest (held, after, h, d) k =
      let (mid, e, f) = derives_cut held first rest after d in
      (mid, after, holds_lines x y first held mid k h e, f)

-- the first of the lines can be taken
pub can_take_first : (H : List Clause → Type 0) (first rest : List Line) → CanTake H (first ++ rest) → CanTake H first
can_take_first H first rest (held, after, h, d) = let (mid, e, f) = derives_cut held first rest after d in (held, mid, h, e)
