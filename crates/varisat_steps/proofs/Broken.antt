-- What is logged after an error that is passed on.
use Rattle.std.specs.Prelude.{Result, Ok, Err}
use Rattle.std.specs.Result.{IsErr, IfErr, OnErr, IsErrAnd}
use Rattle.std.proofs.Common.{◌≡◌, ℕ, Bool, true, false, List, [], ◌++◌, sym, subst}
use Rattle.varisat_theory.specs.promises.Derivations.{Line}
use Rattle.varisat_theory.specs.promises.Journals.{Entry}
use Rattle.varisat_steps.specs.declared.tracer.TraceError.{TraceError}
use Rattle.varisat_steps.specs.Traces.{LogsStep, LogsLines, BreaksOff, faults_of}

-- an error is what it was
pub passed-on : {X E : Type 0} (r : Result X E) (e : E) (P : E → Type 0) → IsErr r × IsErrAnd r (λ z. z ≡ e) → P e → IfErr r P
passed-on (Ok x) e P (a, b) p = tt
passed-on (Err z) e P (a, b) p = subst P (sym b) p

pub on-error : {X E : Type 0} (r : Result X E) (P : Type 0) → P → OnErr r P
on-error (Ok x) P p = tt
on-error (Err z) P p = p

module _ {Q : Type 0} (takes : Q → List Entry → Q → Type 0) (breaks : Q → List Entry → ℕ → Q → Type 0) where
  pub step-broken : (active : Bool) (x y : Q) (entries : List Entry) (r : Result (Unit {0}) TraceError) (e : TraceError) → IsErr r × IsErrAnd r (λ z. z ≡ e) →
      active ≡ true → breaks x entries (faults_of e) y → LogsStep active takes breaks x entries r y
  step-broken active x y entries (Ok u) e (a, b) h p = absurd (let z : false ≡ true = a in cc)
  step-broken active x y entries (Err z) e (a, b) h p = (h, subst (λ w. breaks x entries (faults_of w) y) (sym b) p)

  pub lines-broken : (x y : Q) (lines : List Line) (r : Result (Unit {0}) TraceError) (e : TraceError) → IsErr r × IsErrAnd r (λ z. z ≡ e) →
      BreaksOff breaks x (faults_of e) y → LogsLines takes breaks x lines r y
  lines-broken x y lines (Ok u) e (a, b) p = absurd (let z : false ≡ true = a in cc)
  lines-broken x y lines (Err z) e (a, b) p = subst (λ w. BreaksOff breaks x (faults_of w) y) (sym b) p

  -- behind what was taken
  pub breaks-on : ((x y z : Q) (first second : List Entry) (faults : ℕ) → takes x first y → breaks y second faults z → breaks x (first ++ second) faults z) →
      {x y z : Q} {first : List Entry} {faults : ℕ} → takes x first y → BreaksOff breaks y faults z → BreaksOff breaks x faults z
  breaks-on behind {x} {y} {z} {first} {faults} t (entries, b) = (first ++ entries, behind x y z first entries faults t b)

module _ {Q : Type 0} (breaks : Q → List Entry → ℕ → Q → Type 0) where
  -- in a step
  pub breaks-in : {active : Bool} {x y : Q} {entries : List Entry} {faults : ℕ} → (active ≡ true) × breaks x entries faults y → BreaksOff breaks x faults y
  breaks-in {active} {x} {y} {entries} {faults} (h, b) = (entries, b)

  -- memory ran out before anything was handed on
  pub breaks-not : ((x : Q) → breaks x [] 0 x) → (x : Q) → BreaksOff breaks x 0 x
  breaks-not none x = ([], none x)

  pub error-broken : {X : Type 0} (x y : Q) (r : Result X TraceError) (e : TraceError) → IsErr r × IsErrAnd r (λ z. z ≡ e) →
      BreaksOff breaks x (faults_of e) y →
      IfErr r (λ z. BreaksOff breaks x (faults_of z) y)
  error-broken x y r e h b = passed-on r e (λ z. BreaksOff breaks x (faults_of z) y) h b
