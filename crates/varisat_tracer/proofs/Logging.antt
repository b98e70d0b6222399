-- A tracer that can log entries goes on so.
use Rattle.std.proofs.Common.{◌≡◌, ℕ, List, [], ◌++◌, sym, ap, ◌∙◌, subst, refl, Option, None}
use Rattle.varisat_theory.specs.promises.Literals.{Clause}
use Rattle.varisat_theory.specs.promises.Journals.{Entry}
use Rattle.varisat_theory.specs.promises.Renaming.{rename}
use Rattle.varisat_names.specs.promises.VarBiMap.{BiMap}
use Rattle.varisat_names.specs.promises.VarMap.{at}
use Rattle.varisat_names.specs.promises.Variables.{Tables}
use Rattle.varisat_proof.specs.promises.Proving.{OpenState, ProofParts, is_there, IsBegunIf, IsLogged, MayBePresent, logged}
use Rattle.varisat_steps.specs.Traces.{BreaksOff}
use Rattle.varisat_tracer.specs.inside.Logged.{begun-none, begun-behind}
use Rattle.varisat_tracer.specs.promises.Carried.{carry, logged_as}
use Rattle.varisat_tracer.specs.inside.Tracing.{TracerState, OpenParts, open_parts, global_literal, Relies, TakesGlobally, BreaksGlobally, BreaksProof, CanLog}
use Rattle.varisat_tracer.specs.inside.TracerLaws.{checked-runs, room-stays, usable-stays}

pub logs-logged : (p q : ProofParts) (entries : List Entry) → IsLogged p entries q → CanLog p → CanLog q
logs-logged p q entries h t = record {
  room = room-stays p.opened q.opened entries h.written t.room;
  usable = usable-stays p.checker q.checker entries h.checked t.usable;
}

pub logs-on : (x y : TracerState) (entries : List Entry) → TakesGlobally x entries y → CanLog x.proof → CanLog y.proof
logs-on x y entries h t = logs-logged x.proof y.proof (logged_as (global_literal x.tables) entries) h.logged t

-- What stands in the target of an open proof after an error; and a checker runs where one ran.
pub breaks-proof : (x y : TracerState) (faults : ℕ) → BreaksOff BreaksGlobally x faults y → BreaksProof x.proof faults y.proof
breaks-proof x y faults (entries, b) = (logged_as (global_literal x.tables) entries, b.begun, b.runs)

pub proof-unbroken : (p : ProofParts) → BreaksProof p 0 p
proof-unbroken p = ([], begun-none p.opened, refl)

pub proof-breaks-on : (p q r : ProofParts) (entries : List Entry) (faults : ℕ) → IsLogged p entries q → BreaksProof q faults r → BreaksProof p faults r
proof-breaks-on p q r entries faults t (more, b, runs) = (
  entries ++ more,
  begun-behind p.opened q.opened r.opened entries more faults t.written b,
  runs ∙ checked-runs p.checker q.checker entries t.checked,
)

-- what is open stays
pub same-open : (p q : ProofParts) → q.opened ≡ p.opened → is_there q.checker ≡ is_there p.checker → open_parts q ≡ open_parts p
same-open p q e r =
    ap (λ (o : Option OpenState). let x : OpenParts = record { opened = o; checking = is_there q.checker } in x) e
    ∙ ap (λ b. let x : OpenParts = record { opened = p.opened; checking = b } in x) r

pub open-unbroken : (p q : ProofParts) → open_parts q ≡ open_parts p → BreaksProof p 0 q
open-unbroken p q e = (
  [],
  subst (λ o. IsBegunIf p.opened (logged []) 0 o) (sym (ap (λ (x : OpenParts). x.opened) e)) (begun-none p.opened),
  ap (λ (x : OpenParts). x.checking) e,
)

-- where no proof is open the target does not fail
pub unopened-unbroken : (p q : ProofParts) (faults : ℕ) → p.opened ≡ None → BreaksProof p faults q → faults ≡ 0
unopened-unbroken p q faults e (entries, b, _) = (subst (λ o. IsBegunIf o (logged entries) faults q.opened) e b).1

-- what may be relied on depends on the solver variables alone
pub relies-alike : (t u : Tables) (p : ProofParts) (held : List Clause) → u.solvers ≡ t.solvers → Relies (record { tables = t; proof = p }) held →
    Relies (record { tables = u; proof = p }) held
relies-alike t u p held e r = record {
  room = r.room;
  usable = r.usable;
  others = r.others;
  holds = subst (λ (m : BiMap). MayBePresent p.checker (r.others ++ rename (carry (at m.backward)) held)) (sym e) r.holds;
}
