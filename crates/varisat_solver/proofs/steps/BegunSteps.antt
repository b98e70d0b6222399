-- Steps that add clauses before the last one, which comes to a verdict.
use Rattle.std.proofs.Common.{◌≡◌, ℕ, zero, suc, ◌+◌, ◌-◌, List, [], ◌++◌, refl, sym, ap, ◌∙◌, subst, append_assoc, arith}
use Rattle.varisat_theory.specs.promises.Journals.{Entry}
use Rattle.varisat_solver.specs.promises.StepEntries.{GoesOnInSteps, LogsInSteps}
use Rattle.varisat_solver.specs.promises.Journals.{BeginsInSteps}
use Rattle.varisat_solver.proofs.entries.StepEntries.{no-steps, steps-further}

-- no step came before
pub begins-nothing : (interval number k : ℕ) (logged es : List Entry) → k ≡ 0 → BeginsInSteps interval number k logged es
begins-nothing interval number k logged es e = record {
  front = [];
  back = es;
  split = refl;
  adds = subst (λ j. GoesOnInSteps interval number j logged []) (sym e) (no-steps interval number logged);
}

-- n steps came before, and then comes one more
pub begins-one-more : (interval number n k : ℕ) (logged es fs : List Entry) → n + 1 ≡ k → LogsInSteps interval number n logged es →
    BeginsInSteps interval number (k - 1) logged (es ++ fs)
begins-one-more interval number zero k logged es fs e a = begins-nothing interval number (k - 1) logged (es ++ fs) (omega (arith, e))
begins-one-more interval number (suc n) k logged es fs e a = record {
  front = es;
  back = fs;
  split = refl;
  adds = subst (λ j. GoesOnInSteps interval number j logged es) (let z : suc n ≡ k - 1 = omega (arith, e) in z) a;
}

-- steps came before, and then come others, the last of which comes to a verdict
pub begins-further : (interval number k m : ℕ) (logged es fs : List Entry) → (m ≡ 0 → k ≡ 0) → GoesOnInSteps interval number k logged es →
    BeginsInSteps interval (number + k) (m - 1) (logged ++ es) fs → BeginsInSteps interval number (k + m - 1) logged (es ++ fs)
begins-further interval number k zero logged es fs z g b =
    begins-nothing interval number (k + 0 - 1) logged (es ++ fs) (let e = z refl in omega (arith, e))
begins-further interval number k (suc m) logged es fs z g b = record {
  front = es ++ b.front;
  back = b.back;
  split = ap (λ xs. es ++ xs) b.split ∙ sym (append_assoc es b.front b.back);
  adds = subst (λ j. GoesOnInSteps interval number j logged (es ++ b.front)) (let e : k + m ≡ k + suc m - 1 = omega arith in e)
      (steps-further interval number k m logged es b.front g
      (subst (λ j. GoesOnInSteps interval (number + k) j (logged ++ es) b.front) (let e : suc m - 1 ≡ m = omega arith in e) b.adds));
}
