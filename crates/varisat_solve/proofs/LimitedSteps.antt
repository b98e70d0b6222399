-- A limit of steps changes nothing of what clauses do that are added to a new solver.
use Rattle.std.proofs.Common.{◌≡◌, ℕ, Bool, inl, inr, Option, Some, None, List, [], ◌∷◌, Ok, refl, ap, subst}
use Rattle.varisat_theory.specs.promises.Literals.{Clause}
use Rattle.varisat_formula.specs.promises.Streams.{Taken}
use Rattle.varisat_lines.specs.declared.format.ProofFormat.{ProofFormat}
use Rattle.varisat_solver.specs.promises.States.{State}
use Rattle.varisat_solver.specs.promises.Additions.{AddsAll, AllAdded, OneRefused, RefusedAtOnce}
use Rattle.varisat_solver.specs.promises.Calls.{TakesOne, Ignored, Accepted, by_state, with_max_steps}
use Rattle.varisat_solver.specs.promises.ClauseCalls.{AddsFormula}
use Rattle.varisat.specs.promises.Decided.{allowed_steps}
use Rattle.varisat.specs.promises.Proven.{prepared}

takes-limited : (n : ℕ) (s : State) (c : Clause) (t : State) → TakesOne by_state s c (Ok tt) t → TakesOne by_state (with_max_steps n s) c (Ok tt) (with_max_steps n t)
takes-limited n s c t (v, Ignored r e) = (v, Ignored r (ap (λ x. with_max_steps n x) e))
takes-limited n s c t (v, Accepted m d (w, o, k)) = (
  v,
  Accepted (record { unrefuted = m.unrefuted; unbarred = m.unbarred }) d (
    w,
    o,
    record {
      same = ap (λ x. with_max_steps n x) k.same;
      logged = k.logged;
      derived = k.derived;
      stays = k.stays;
      alike = k.alike;
      proof = k.proof;
    },
  ),
)

all-limited : (n : ℕ) (P : List Clause) (s t : State) → AddsAll by_state s P (Ok tt) t → AddsAll by_state (with_max_steps n s) P (Ok tt) (with_max_steps n t)
all-limited n [] s t (r, e) = (refl, ap (λ x. with_max_steps n x) e)
all-limited n (c ∷ P) s t (inl (mid, h, a)) = inl (with_max_steps n mid, takes-limited n s c mid h, all-limited n P mid t a)
all-limited n (c ∷ P) s t (inr (e, x, h)) = absurd cc

adds-limited : (n : ℕ) (P : List Clause) (s t : State) → AddsFormula s P (Ok tt) t → AddsFormula (with_max_steps n s) P (Ok tt) (with_max_steps n t)
adds-limited n P s t (AllAdded v mid a r e) = AllAdded v (with_max_steps n mid) (all-limited n P s mid a) refl (ap (λ x. with_max_steps n x) e)
adds-limited n P s t (OneRefused v e r a) = absurd cc
adds-limited n P s t (RefusedAtOnce r a) = absurd cc

prepared-limited : {W : Type 0} (taken : W → Taken) (format : ProofFormat) (check : Bool) (first last : Option ℕ) (target : Option W) →
    with_max_steps (allowed_steps last) (prepared taken format check first target) ≡ prepared taken format check last target
prepared-limited taken format check first last None = refl
prepared-limited taken format check first last (Some target) = refl

pub adds-within : {W : Type 0} (taken : W → Taken) (format : ProofFormat) (check : Bool) (first last : Option ℕ) (target : Option W) (P : List Clause)
    (t : State) → AddsFormula (prepared taken format check first target) P (Ok tt) t →
    AddsFormula (prepared taken format check last target) P (Ok tt) (with_max_steps (allowed_steps last) t)
adds-within taken format check first last target P t a =
    subst (λ s. AddsFormula s P (Ok tt) (with_max_steps (allowed_steps last) t)) (prepared-limited taken format check first last target)
    (adds-limited (allowed_steps last) P (prepared taken format check first target) t a)
