-- Lines that are handed on in turn, of a whole that is known beforehand.
use Rattle.std.proofs.Common.{◌≡◌, List, [], ◌++◌, refl, sym, ap, ◌∙◌, subst, append_assoc}
use Rattle.std.proofs.lemmas.List.{append-nil}
use Rattle.varisat_theory.specs.promises.Literals.{Clause}
use Rattle.varisat_theory.specs.promises.Derivations.{Line}
use Rattle.varisat_theory.specs.promises.Journals.{Entry, Leads}
use Rattle.varisat_steps.specs.Traces.{TakesLines, CanTake}
use Rattle.varisat_steps.proofs.Traced.{lines-more, can_take_first, can_take_rest}

-- Some first lines of the whole were taken, and the rest can be.
pub record TracesPart {Q : Type 0} (holds : Q → List Clause → Type 0) (takes : Q → List Entry → Q → Type 0) (whole rest : List Line)
    (first now : Q) : Type 0 where
  pub done : List Line
  pub taken : TakesLines takes first done now
  pub able : CanTake (holds now) rest
  pub parts : done ++ rest ≡ whole

module _ {Q : Type 0} (holds : Q → List Clause → Type 0) (takes : Q → List Entry → Q → Type 0) (takes_none : (x : Q) → takes x [] x)
    (takes_more : (x y z : Q) (first second : List Entry) → takes x first y → takes y second z → takes x (first ++ second) z)
    (holds_after : (x y : Q) (entries : List Entry) (held after : List Clause) → takes x entries y → holds x held → Leads held entries after →
    holds y after) (whole : List Line) where
  pub part-none : (first : Q) → CanTake (holds first) whole → TracesPart holds takes whole whole first first
  part-none first a = record { done = []; taken = takes_none first; able = a; parts = refl }

  -- the same rest in other words
  pub part-same : (rest more : List Line) (first now : Q) → rest ≡ more → TracesPart holds takes whole rest first now →
      TracesPart holds takes whole more first now
  part-same rest more first now e t = subst (λ ls. TracesPart holds takes whole ls first now) e t

  pub part-able : (lines more : List Line) (first now : Q) → TracesPart holds takes whole (lines ++ more) first now → CanTake (holds now) lines
  part-able lines more first now t = can_take_first (holds now) lines more t.able

  pub part-next : (lines more : List Line) (first now next : Q) → TracesPart holds takes whole (lines ++ more) first now →
      TakesLines takes now lines next → TracesPart holds takes whole more first next
  part-next lines more first now next t o = record {
    done = t.done ++ lines;
    taken = lines-more takes takes_more first now next t.done lines t.taken o;
    able = can_take_rest holds takes holds_after now next lines more t.able o;
    parts = append_assoc t.done lines more ∙ t.parts;
  }

  pub part-all : (rest : List Line) (first now : Q) → rest ≡ [] → TracesPart holds takes whole rest first now → TakesLines takes first whole now
  part-all rest first now e t = subst (λ ls. TakesLines takes first ls now) (sym (append-nil t.done) ∙ ap (λ ls. t.done ++ ls) (sym e) ∙ t.parts) t.taken
