-- Lines that are handed on as a list is gone over: for each element some.
use Rattle.std.proofs.Common.{◌≡◌, ℕ, ◌+◌, ◌<◌, ◌≤◌, List, [], ◌∷◌, ◌++◌, length, take, take_all, drop, get_or, sym, ap, ◌∙◌, subst}
use Rattle.std.proofs.lemmas.List.{take_more, drop_more, flat_map_more}
use Rattle.std.specs.Prelude.{flat_map}
use Rattle.varisat_theory.specs.promises.Literals.{Clause}
use Rattle.varisat_theory.specs.promises.Derivations.{Line}
use Rattle.varisat_theory.specs.promises.Journals.{Entry, Leads}
use Rattle.varisat_steps.specs.Traces.{TakesLines, CanTake}
use Rattle.varisat_steps.proofs.Traced.{lines-more, can_take_first, can_take_rest}

-- The lines of the first k elements were taken, and those of the others can be.
pub record TracesTo {Q X : Type 0} (holds : Q → List Clause → Type 0) (takes : Q → List Entry → Q → Type 0) (f : X → List Line) (xs : List X)
    (k : ℕ) (first now : Q) : Type 0 where
  pub done : TakesLines takes first (flat_map f (take k xs)) now
  pub able : CanTake (holds now) (flat_map f (drop k xs))

-- one element more
pub taken-one : {X : Type 0} (xs : List X) (k : ℕ) (x : X) → k < length xs → x ≡ get_or xs k x → take (k + 1) xs ≡ take k xs ++ x ∷ []
taken-one xs k x h e = take_more xs k x h ∙ ap (λ y. take k xs ++ y ∷ []) (sym e)

dropped-one : {X : Type 0} (xs : List X) (k : ℕ) (x : X) → k < length xs → x ≡ get_or xs k x → drop k xs ≡ x ∷ drop (k + 1) xs
dropped-one xs k x h e = drop_more xs k x h ∙ ap (λ y. y ∷ drop (k + 1) xs) (sym e)

module _ {Q X : Type 0} (holds : Q → List Clause → Type 0) (takes : Q → List Entry → Q → Type 0) (takes_none : (x : Q) → takes x [] x)
    (takes_more : (x y z : Q) (first second : List Entry) → takes x first y → takes y second z → takes x (first ++ second) z)
    (holds_after : (x y : Q) (entries : List Entry) (held after : List Clause) → takes x entries y → holds x held → Leads held entries after →
    holds y after) (f : X → List Line) (xs : List X) where
  pub traces-none : (first : Q) → CanTake (holds first) (flat_map f xs) → TracesTo holds takes f xs 0 first first
  traces-none first a = record { done = takes_none first; able = a }

  -- the lines of the next element can be taken
  pub traces-able : (k : ℕ) (first now : Q) (x : X) → k < length xs → x ≡ get_or xs k x → TracesTo holds takes f xs k first now → CanTake (holds now) (f x)
  traces-able k first now x h e t = can_take_first (holds now) (f x) (flat_map f (drop (k + 1) xs))
      (subst (λ ys. CanTake (holds now) (flat_map f ys)) (dropped-one xs k x h e) t.able)

  -- and were taken
  pub traces-next : (k : ℕ) (first now next : Q) (x : X) → k < length xs → x ≡ get_or xs k x → TracesTo holds takes f xs k first now →
      TakesLines takes now (f x) next → TracesTo holds takes f xs (k + 1) first next
  traces-next k first now next x h e t o =
      let whole : flat_map f (take k xs) ++ f x ≡ flat_map f (take (k + 1) xs) = flat_map_more f [] (take k xs) x
      ∙ ap (flat_map f) (sym (taken-one xs k x h e)) in
      let left = subst (λ ys. CanTake (holds now) (flat_map f ys)) (dropped-one xs k x h e) t.able in
      record {
        done = subst (λ ls. TakesLines takes first ls next) whole (lines-more takes takes_more first now next (flat_map f (take k xs)) (f x) t.done o);
        able = can_take_rest holds takes holds_after now next (f x) (flat_map f (drop (k + 1) xs)) left o;
      }

  -- the next element has no lines
  pub traces-over : (k : ℕ) (first now : Q) (x : X) → k < length xs → x ≡ get_or xs k x → TracesTo holds takes f xs k first now → f x ≡ [] →
      TracesTo holds takes f xs (k + 1) first now
  traces-over k first now x h e t o = traces-next k first now now x h e t (subst (λ ls. TakesLines takes now ls now) (sym o) (takes_none now))

  pub traces-all : (k : ℕ) (first now : Q) → length xs ≤ k → TracesTo holds takes f xs k first now → TakesLines takes first (flat_map f xs) now
  traces-all k first now h t = subst (λ ys. TakesLines takes first (flat_map f ys) now) (take_all k xs h) t.done
