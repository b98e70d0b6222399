-- The laws of a solver's tracer, as `ProofTracer` asks for them: it takes nothing, takes entries in turn, passes them where it is idle, and what
-- a search may rely on follows them.
use Rattle.std.specs.Prelude.{◌≡◌, ℕ, ◌<◌, ◌-◌, ◌^◌, false, List, [], ◌++◌, Option, Some, None, refl}
use Rattle.std.proofs.Common.{sym, ap, ◌∙◌, subst}
use Rattle.varisat_theory.specs.promises.Literals.{Literal, Clause}
use Rattle.varisat_theory.specs.promises.Renaming.{KeepsOpposites, rename}
use Rattle.varisat_theory.proofs.clauses.Held.{same_clauses-self, same_clauses-through}
use Rattle.varisat_theory.specs.promises.Journals.{Entry, Leads}
use Rattle.varisat_names.specs.promises.VarMap.{at}
use Rattle.varisat_names.specs.promises.Variables.{Tables}
use Rattle.varisat_proof.specs.promises.Calls.{CheckerState}
use Rattle.varisat_proof.specs.promises.Proving.{OpenState, is_there, is_logging, IsWrittenIf, IsCheckedIf, IsLogged, IsBegunIf, CanCountTargetFault, IsUsable, MayBePresent, logged}
use Rattle.varisat_tracer.specs.promises.Carried.{logged_as}
use Rattle.varisat_tracer.specs.inside.Tracing.{TracerState, global_literal, Relies, TakesGlobally, BreaksGlobally}
use Rattle.varisat_tracer.specs.inside.Logged.{logged_as-append, logged-none, logged-more, logged-idle, begun-none, begun-behind, begun-idle}
use Rattle.varisat_tracer.specs.inside.RenamedEntries.{carry-opposites, left_same, leads-renamed}

pub takes-none : (x : TracerState) → TakesGlobally x [] x
takes-none x = record { tables = refl; logged = logged-none x.proof }

pub takes-more : (x y z : TracerState) (first second : List Entry) → TakesGlobally x first y →
    TakesGlobally y second z → TakesGlobally x (first ++ second) z
takes-more x y z first second h k = record {
  tables = k.tables ∙ h.tables;
  logged =
      subst (λ es. IsLogged x.proof es z.proof) (sym (logged_as-append (global_literal x.tables) first second))
      (logged-more x.proof y.proof z.proof (logged_as (global_literal x.tables) first)
      (logged_as (global_literal x.tables) second) h.logged
      (subst (λ (t : Tables). IsLogged y.proof (logged_as (global_literal t) second) z.proof) h.tables k.logged));
}

pub takes-idle : (x : TracerState) (entries : List Entry) → is_logging x.proof ≡ false → TakesGlobally x entries x
takes-idle x entries h =
    record { tables = refl; logged = logged-idle x.proof (logged_as (global_literal x.tables) entries) h }

-- a checker that gets entries runs on
pub checked-runs : (o p : Option CheckerState) (entries : List Entry) → IsCheckedIf o entries p →
    is_there p ≡ is_there o
checked-runs None p entries e = ap (λ (k : Option CheckerState). is_there k) e
checked-runs (Some a) None entries k = absurd k
checked-runs (Some a) (Some b) entries k = refl

pub breaks-none : (x : TracerState) → BreaksGlobally x [] 0 x
breaks-none x = record { tables = refl; begun = begun-none x.proof.opened; runs = refl }

pub breaks-behind : (x y z : TracerState) (first second : List Entry) (faults : ℕ) → TakesGlobally x first y →
    BreaksGlobally y second faults z →
    BreaksGlobally x (first ++ second) faults z
breaks-behind x y z first second faults h k = record {
  tables = k.tables ∙ h.tables;
  begun =
      subst (λ es. IsBegunIf x.proof.opened (logged es) faults z.proof.opened)
      (sym (logged_as-append (global_literal x.tables) first second))
      (begun-behind x.proof.opened y.proof.opened z.proof.opened (logged_as (global_literal x.tables) first)
      (logged_as (global_literal x.tables) second) faults
      h.logged.written
      (subst
      (λ (t : Tables).
      IsBegunIf y.proof.opened
      (logged (logged_as (global_literal t) second)) faults z.proof.opened) h.tables k.begun));
  runs = k.runs ∙ checked-runs x.proof.checker y.proof.checker
      (logged_as (global_literal x.tables) first) h.logged.checked;
}

pub breaks-idle : (x y : TracerState) (entries : List Entry) (faults : ℕ) → is_logging x.proof ≡ false →
    BreaksGlobally x entries faults y → faults ≡ 0
breaks-idle x y entries faults h b =
    begun-idle x.proof.opened x.proof.checker y.proof.opened
    (logged (logged_as (global_literal x.tables) entries)) faults h b.begun

-- what a target may take and whether a checker can be used stay
pub room-stays : (o p : Option OpenState) (lines : List Entry) → IsWrittenIf o (logged lines) p →
    CanCountTargetFault o → CanCountTargetFault p
room-stays None p lines e h = subst CanCountTargetFault (sym e) tt
room-stays (Some a) None lines w h = absurd w
room-stays (Some a) (Some b) lines w h = subst (λ n. n < 2 ^ 64 - 1) (sym w.faults) h

pub usable-stays : (o p : Option CheckerState) (entries : List Entry) → IsCheckedIf o entries p → IsUsable o →
    IsUsable p
usable-stays None p entries e h = subst IsUsable (sym e) tt
usable-stays (Some a) None entries k h = absurd k
usable-stays (Some a) (Some b) entries k h = k.1 ∙ h

holds-on : (f : Literal → Literal) → KeepsOpposites f →
    (o p : Option CheckerState) (entries : List Entry) (held after others : List Clause) →
    IsCheckedIf o (logged_as f entries) p → MayBePresent o (others ++ rename f held) → Leads held entries after →
    (more : List Clause)
    × MayBePresent p (more ++ rename f after)
holds-on f keeps None p entries held after others e h d =
    (others, subst (λ k. MayBePresent k (others ++ rename f after)) (sym e) tt)
holds-on f keeps (Some a) None entries held after others k h d = absurd k
holds-on f keeps (Some a) (Some b) entries held after others k h d =
    let (Q, more, l, t) =
    leads-renamed f keeps entries held after others (others ++ rename f held)
    (same_clauses-self (others ++ rename f held)) d in (
      more,
      (
        same_clauses-through (more ++ rename f after) Q b.clauses t
            (left_same a.clauses b.clauses (logged_as f entries) (others ++ rename f held) Q k.0 h.0 l),
        k.1 ∙ h.1,
      ),
    )

pub relies-after : (x y : TracerState) (entries : List Entry) (held after : List Clause) → TakesGlobally x entries y →
    Relies x held →
    Leads held entries after → Relies y after
relies-after x y entries held after h r d =
    let f = global_literal x.tables in
    let (more, m) =
    holds-on f
    (carry-opposites
    (at x.tables.solvers.backward)) x.proof.checker y.proof.checker entries held after r.others h.logged.checked
    r.holds d in
    record {
      room = room-stays x.proof.opened y.proof.opened (logged_as f entries) h.logged.written r.room;
      usable = usable-stays x.proof.checker y.proof.checker (logged_as f entries) h.logged.checked r.usable;
      others = more;
      holds =
          subst (λ (t : Tables). MayBePresent y.proof.checker (more ++ rename (global_literal t) after))
          (sym h.tables) m;
    }

-- what a search relies on leads on by entries, and so does what the checker may hold by those that it gets
pub leads-globally : (x : TracerState) (entries : List Entry) (held after : List Clause) → Relies x held →
    Leads held entries after →
    (now next : List Clause) × MayBePresent x.proof.checker now
    × Leads now (logged_as (global_literal x.tables) entries) next
leads-globally x entries held after r d =
    let f = global_literal x.tables in
    let now = r.others ++ rename f held in
    let (Q, more, l, t) =
    leads-renamed f (carry-opposites (at x.tables.solvers.backward)) entries held after r.others now
    (same_clauses-self now) d in
    (now, Q, r.holds, l)
