-- The options to which a run is kept whose time may be limited.
use Rattle.std.proofs.Common.{◌≡◌, ◌∙◌, ℕ, Bool, true, false, inl, inr, Option, None, refl, sym, ap, subst, arith}
use Rattle.varisat_solve.specs.declared.options.ProgramOptions.{ProgramOptions}
use Rattle.varisat_solve.specs.promises.Timing.{options_left, IsLimitInTime, IsInTime}

-- the options with another limit of steps
abbrev pub with_limit : ProgramOptions → Option ℕ → ProgramOptions
with_limit o limit = record o { search = record o.search { max_steps = limit } }

pub as-asked : (o : ProgramOptions) → IsInTime o o
as-asked o = record { unlimited = λ _. refl; limit = omega arith; simplification = inl refl; others = refl }

left-in-time : (o : ProgramOptions) (is_spent : Bool) (last : Option ℕ) → (o.max_seconds ≡ None → is_spent ≡ false) →
    IsLimitInTime o.max_seconds (options_left o is_spent).search.max_steps last → IsInTime o (with_limit (options_left o is_spent) last)
left-in-time o true last spent (fewer, same) = record {
  unlimited = λ n. let z : true ≡ false = spent n in absurd cc;
  limit = omega (arith, fewer);
  simplification = inr (refl, omega (arith, fewer));
  others = refl;
}
left-in-time o false last spent (fewer, same) = record {
  unlimited = λ n. ap (λ m. with_limit o m) (same n);
  limit = fewer;
  simplification = inl refl;
  others = refl;
}

pub in-time : (o e : ProgramOptions) (seconds : Option ℕ) (is_spent : Bool) (last : Option ℕ) → seconds ≡ o.max_seconds → e ≡ options_left o is_spent →
    (seconds ≡ None → is_spent ≡ false) → IsLimitInTime seconds e.search.max_steps last → IsInTime o (with_limit e last)
in-time o e seconds is_spent last timed left spent limit =
    subst (λ x. IsInTime o (with_limit x last)) (sym left)
    (left-in-time o is_spent last (λ n. spent (timed ∙ n))
    (subst (λ x. IsLimitInTime o.max_seconds x.search.max_steps last) left (subst (λ x. IsLimitInTime x e.search.max_steps last) timed limit)))
