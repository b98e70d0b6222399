-- A text that a target takes in parts.
use Rattle.std.specs.Result.{IsErr, OnOk, OnErr}
use Rattle.std.proofs.Common.{◌≡◌, ℕ, ◌+◌, List, ◌++◌, take, length, Result, Ok, Err, inl, inr, sym, ap, ◌∙◌}
use Rattle.std.proofs.Math.Seq.{take-length}
use Rattle.varisat_formula.specs.promises.Streams.{Taken}
use Rattle.varisat_formula.specs.promises.Written.{Puts}
use Rattle.varisat_formula.proofs.TargetParts.{begun_part}
use Rattle.varisat_proof.specs.promises.Verified.{EndsPrinting, fault_status}

-- one call took the text, or failed
pub put-once : {E : Type 0} (old new : Taken) (r : Result (Unit {0}) E) (text : List ℕ) → OnOk r (new.bytes ≡ old.bytes ++ text) →
    OnErr r ((n : ℕ) × (new.bytes ≡ old.bytes ++ take n text)) → OnOk r (new.faults ≡ old.faults) → OnErr r (new.faults ≡ old.faults + 1) →
    Puts old r text new
put-once old new (Ok u) text whole begun quiet fault = (whole, quiet)
put-once old new (Err e) text whole begun quiet fault = (begun, fault)

-- a flush behind the text returned, or failed
pub flushed : {E : Type 0} (old mid new : Taken) (r : Result (Unit {0}) E) (text : List ℕ) → mid.bytes ≡ old.bytes ++ text → mid.faults ≡ old.faults →
    new.bytes ≡ mid.bytes → OnOk r (new.faults ≡ mid.faults) → OnErr r (new.faults ≡ mid.faults + 1) → Puts old r text new
flushed old mid new (Ok u) text whole same kept quiet fault = (kept ∙ whole, quiet ∙ same)
flushed old mid new (Err e) text whole same kept quiet fault =
    ((length text, kept ∙ whole ∙ ap (λ xs. old.bytes ++ xs) (sym (take-length text))), fault ∙ ap (λ n. n + 1) same)

-- A call failed at a part of the text, of which the parts in front were taken.
pub failed-part : {E : Type 0} (old mid new : Taken) (r : Result (Unit {0}) E) (front part rest whole : List ℕ) → IsErr r → mid.bytes ≡ old.bytes ++ front →
    mid.faults ≡ old.faults → front ++ (part ++ rest) ≡ whole → ((n : ℕ) × (new.bytes ≡ mid.bytes ++ take n part)) → new.faults ≡ mid.faults + 1 →
    Puts old r whole new
failed-part old mid new (Ok u) front part rest whole is e f g (n, b) h = absurd (let z = is in cc)
failed-part old mid new (Err x) front part rest whole is e f g (n, b) h =
    (begun_part old.bytes mid.bytes new.bytes front part rest whole n e b g, h ∙ ap (λ k. k + 1) f)

-- how a command ends that printed the text, or failed to
pub ends-printed : (done : ℕ) (text other : List ℕ) (status : ℕ) (before after : Taken) → other ≡ text → status ≡ done →
    (after.bytes ≡ before.bytes ++ other) × (after.faults ≡ before.faults) → EndsPrinting done text status before after
ends-printed done text other status before after same e (b, f) = inl (e, b ∙ ap (λ xs. before.bytes ++ xs) same, f)

pub ends-failed : (done : ℕ) (text other : List ℕ) (status : ℕ) (before after : Taken) → other ≡ text → status ≡ fault_status →
    ((n : ℕ) × (after.bytes ≡ before.bytes ++ take n other)) × (after.faults ≡ before.faults + 1) → EndsPrinting done text status before after
ends-failed done text other status before after same e ((n, b), f) = inr (e, (n, b ∙ ap (λ xs. before.bytes ++ take n xs) same), f)
