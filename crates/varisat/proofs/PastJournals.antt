-- What a past says of the journal.
use Rattle.std.proofs.Common.{◌≡◌, ℕ, ◌+◌, ◌≤◌, List, [], ◌++◌, sym, ap, ◌∙◌, subst, arith}
use Rattle.std.proofs.lemmas.List.{append-nil, append_cancel_left}
use Rattle.varisat_theory.specs.promises.Literals.{Clause}
use Rattle.varisat_theory.specs.promises.Counted.{added}
use Rattle.varisat_theory.specs.promises.Journals.{Entry, Leads, lines_of}
use Rattle.varisat_theory.specs.promises.NewClauses.{GoesOnAdding}
use Rattle.varisat_theory.proofs.journals.Journals.{leads_append, by_leads, lines_append}
use Rattle.varisat_theory.proofs.journals.NewClauses.{adding_leads, adding_adds}
use Rattle.varisat_theory.proofs.steps.StepAccounts.{added_append}
use Rattle.varisat_solver.specs.promises.Journals.{LogsMore, AreDerived}

-- What was logged leads somewhere, and its lines add at least as many clauses as interrupted calls made steps.
pub record KnowsLogged (logged : List Entry) (interrupted : ℕ) : Type 0 where
  pub held : List Clause
  pub led : Leads [] logged held
  pub enough : interrupted ≤ added (lines_of logged)

led-on : (a b es : List Entry) (held after : List Clause) → b ≡ a ++ es → Leads [] a held → Leads held es after → Leads [] b after
led-on a b es held after e d l = subst (λ xs. Leads [] xs after) (sym e) (leads_append [] a held es after d l)

added-on : (a b es : List Entry) → b ≡ a ++ es → added (lines_of b) ≡ added (lines_of a) + added (lines_of es)
added-on a b es e = ap (λ xs. added (lines_of xs)) e ∙ ap added (lines_append a es) ∙ added_append (lines_of a) (lines_of es)

-- further entries are logged
pub logged-more : (n : ℕ) (a b : List Entry) (steps : ℕ) → KnowsLogged a steps → LogsMore n a b → KnowsLogged b steps
logged-more n a b steps k m =
    let (after, d) = m.goes k.held k.led in
    let sum = added-on a b m.entries m.joined in
    let few = k.enough in
    record { held = after; led = led-on a b m.entries k.held after m.joined k.led (by_leads n k.held m.entries after d); enough = omega (arith, sum, few) }

-- by a call that is interrupted, and adds k new clauses at least
pub logged-interrupted : (k n : ℕ) (a b : List Entry) (steps : ℕ) → KnowsLogged a steps → (m : LogsMore n a b) → GoesOnAdding k a m.entries →
    KnowsLogged b (steps + k)
logged-interrupted k n a b steps x m more =
    let (after, d) = more x.held x.led in
    let sum = added-on a b m.entries m.joined in
    let few = x.enough in
    let many = adding_adds k x.held m.entries after d in
    record {
      held = after;
      led = led-on a b m.entries x.held after m.joined x.led (adding_leads k x.held m.entries after d);
      enough = omega (arith, sum, few, many);
    }

-- nothing
pub nothing-said : {n : ℕ} {a b : List Entry} (m : LogsMore n a b) → b ≡ a → AreDerived m.entries
nothing-said {n} {a} {b} m e = subst AreDerived (sym (append_cancel_left a m.entries [] (sym m.joined ∙ e ∙ sym (append-nil a)))) tt
