-- What follows for the accepted clauses.
use Rattle.std.proofs.Common.{◌≡◌, ◌≢◌, ℕ, zero, suc, ◌+◌, ◌≤◌, List, [], ◌∷◌, ◌++◌, inl, sym, ap, subst, refl, arith}
use Rattle.varisat_theory.specs.promises.Literals.{Literal, Clause, Assignment, SatisfiesAll, IsSatisfiable, IsSatisfiableWith}
use Rattle.varisat_theory.specs.promises.Derivations.{Line, Add, Delete}
use Rattle.varisat_theory.proofs.clauses.Members.{∈-append_left, ∈-append_right}
use Rattle.varisat_theory.proofs.clauses.Growth.{conflicts_more, covered_by_more}
use Rattle.varisat_theory.proofs.clauses.Sound.{derives_sound, conflicts_sound}
use Rattle.varisat_theory.proofs.clauses.Assigned.{satisfies_more, satisfies_fewer}
use Rattle.varisat_theory.specs.promises.Counted.{DerivesBy, AddsNew, AddsManyNew, DeletesNone, added}
use Rattle.varisat_theory.specs.promises.Searches.{Search, Fits, Covers, IsLiteralOf}
use Rattle.varisat_theory.specs.inside.Outcomes.{SearchOutcome, Unknown, Sat, Unsat, UnsatUnder, Holds, Answers, Proves, Steps, Loads, AccountsFor}
use Rattle.varisat_theory.proofs.journals.StepCounts.{by_derives, by_append, new_before, new_after}
use Rattle.varisat_theory.proofs.journals.Spoken.{spoken_after}

pub part_step : (s t u : Search) (v : SearchOutcome) (first second : List Line) → Proves 0 s t first → Steps t u v second → Steps s u v (first ++ second)
part_step s t u v first second p q = record {
  holds = λ held f.
      let (mid, d, g) = p.holds held f in
      let (after, e, h, n) = q.holds mid g in (
        after,
        by_append 0 1 held first mid second after d e,
        h,
        λ y. new_after held first mid second (by_derives 0 held first mid d) (n y),
      );
  answers = λ P c. q.answers P (p.covers P c);
  speaks = spoken_after (IsLiteralOf t) (IsLiteralOf s) first second p.within p.speaks q.speaks;
  within = λ n l h. p.within l (q.within n l h);
}

-- a verdict that is not Unsat
pub unknown_is_open : Unknown ≢ Unsat
unknown_is_open e = absurd (let y : Unknown ≡ Unsat = e in cc)

pub step_part : (s t u : Search) (first second : List Line) → Steps s t Unknown first → Proves 0 t u second → DeletesNone second →
    Steps s u Unknown (first ++ second)
step_part s t u first second p q none = record {
  holds = λ held f.
      let (mid, d, g, n) = p.holds held f in
      let (after, e, h) = q.holds mid g in
      (after, by_append 1 0 held first mid second after d e, h, λ y. new_before held first second none (n y));
  answers = λ P c. q.covers P (p.answers P c);
  speaks = spoken_after (IsLiteralOf t) (IsLiteralOf s) first second (p.within unknown_is_open) p.speaks q.speaks;
  within = λ n l h. p.within unknown_is_open l (q.within l h);
}

pub step_is_part : (s t : Search) (lines : List Line) → Steps s t Unknown lines → Proves 1 s t lines
step_is_part s t lines p = record {
  holds = λ held f. let (after, d, g, n) = p.holds held f in (after, d, g);
  covers = p.answers;
  speaks = p.speaks;
  within = p.within unknown_is_open;
}

pub added_append : (first second : List Line) → added (first ++ second) ≡ added first + added second
added_append [] second = omega arith
added_append (Add c ∷ first) second = let e = added_append first second in omega (arith, e)
added_append (Delete c ∷ first) second = added_append first second

adds_one : (P : List Clause) (lines : List Line) → AddsNew P lines → 1 ≤ added lines
adds_one P lines n =
    let g = ap added n.split in
    let h = added_append n.front (Add n.clause ∷ n.back) in
    omega (arith, g, h)

pub new_are_added : (k : ℕ) (P : List Clause) (lines : List Line) → AddsManyNew k P lines → k ≤ added lines
new_are_added zero P lines n = omega arith
new_are_added (suc k) P lines (first, last, Q, e, present, more, n) =
    let g = ap added e in
    let h = added_append first last in
    let i = new_are_added k P first more in
    let j = adds_one Q last n in
    omega (arith, g, h, i, j)

pub step_adds : (s t : Search) (lines : List Line) (held : List Clause) → Steps s t Unknown lines → Fits held s → 1 ≤ added lines
step_adds s t lines held p f = adds_one held lines ((p.holds held f).3 refl)

-- what lines lead to stands for the same accepted clauses
pub accounts_after : (n : ℕ) (P held after : List Clause) (s t : Search) (v : SearchOutcome) (lines : List Line) → AccountsFor P held s Unknown →
    DerivesBy n held lines after → Holds after t v → Answers P t v → AccountsFor P after t v
accounts_after n P held after s t v lines w d h a = record {
  implied = λ x m. derives_sound held lines after x (by_derives n held lines after d) (w.implied x m);
  holds = h;
  answers = a;
}

pub step_accounts : (P held : List Clause) (s t : Search) (v : SearchOutcome) (lines : List Line) → AccountsFor P held s Unknown → Steps s t v lines →
    (after : List Clause) × DerivesBy 1 held lines after × AccountsFor P after t v × (v ≡ Unknown → 1 ≤ added lines)
step_accounts P held s t v lines w p =
    let (after, d, h, n) = p.holds held w.holds in
    (after, d, accounts_after 1 P held after s t v lines w d h (p.answers P w.answers), λ e. adds_one held lines (n e))

pub part_accounts : (n : ℕ) (P held : List Clause) (s t : Search) (lines : List Line) → AccountsFor P held s Unknown → Proves n s t lines →
    (after : List Clause) × DerivesBy n held lines after × AccountsFor P after t Unknown
part_accounts n P held s t lines w p =
    let (after, d, h) = p.holds held w.holds in
    (after, d, accounts_after n P held after s t Unknown lines w d h (p.covers P w.answers))

open_fits : (held : List Clause) (s : Search) (v : SearchOutcome) → v ≢ Unsat → Holds held s v → Fits held s
open_fits held s Unknown n h = h
open_fits held s (Sat a) n h = h
open_fits held s Unsat n h = absurd (n refl)
open_fits held s (UnsatUnder core) n h = h.0

open_covers : (P : List Clause) (s : Search) (v : SearchOutcome) → v ≢ Unsat → Answers P s v → Covers P s
open_covers P s Unknown n h = h
open_covers P s (Sat a) n h = h.0
open_covers P s Unsat n h = absurd (n refl)
open_covers P s (UnsatUnder core) n h = h

implied_more : (P held : List Clause) (c : Clause) → ((a : Assignment) → SatisfiesAll a P → SatisfiesAll a held) → (a : Assignment) →
    SatisfiesAll a (P ++ c ∷ []) → SatisfiesAll a (held ++ c ∷ [])
implied_more P held c g a m =
    satisfies_more a held c (g a (satisfies_fewer a P (c ∷ []) m)) (m c (∈-append_right c P (c ∷ []) (inl refl)))

pub load_accounts : (P held : List Clause) (s t : Search) (c : Clause) (v w : SearchOutcome) (lines : List Line) → AccountsFor P held s v → v ≢ Unsat →
    Loads s t c w lines → (after : List Clause) × DerivesBy 0 (held ++ c ∷ []) lines after × AccountsFor (P ++ c ∷ []) after t w
load_accounts P held s t c v w lines x n p =
    let (after, d, h) = p.holds held (open_fits held s v n x.holds) in (
      after,
      d,
      record {
        implied = λ a m. derives_sound (held ++ c ∷ []) lines after a (by_derives 0 (held ++ c ∷ []) lines after d) (implied_more P held c x.implied a m);
        holds = h;
        answers = p.answers P (open_covers P s v n x.answers);
      },
    )

pub verdicts_are_right : ((P held : List Clause) (s : Search) (a : Assignment) → AccountsFor P held s (Sat a) → SatisfiesAll a P)
    × ((P held : List Clause) (s : Search) → AccountsFor P held s Unsat → IsSatisfiable P → ⊥)
    × ((P held : List Clause) (s : Search) (core : List Literal) → AccountsFor P held s (UnsatUnder core) → IsSatisfiableWith P core → ⊥)
    × ((P held : List Clause) (s : Search) (c : Clause) → AccountsFor P held s Unsat → AccountsFor (P ++ c ∷ []) (held ++ c ∷ []) s Unsat)
verdicts_are_right = (
  λ P held s a w. w.answers.1,
  λ P held s w (a, m). conflicts_sound held [] a (w.implied a m) (λ l h. absurd h) w.holds,
  λ P held s core w (a, m, y). conflicts_sound held core a (w.implied a m) y w.holds.1,
  λ P held s c w. record {
    implied = implied_more P held c w.implied;
    holds = conflicts_more held (held ++ c ∷ []) [] [] (covered_by_more held (held ++ c ∷ []) (λ x i. ∈-append_left x held (c ∷ []) i)) (λ x i. i) w.holds;
    answers = tt;
  },
)

pub first_accounts : (s : Search) → s ≡ record { kept = []; fixed = []; proved = [] } → AccountsFor [] [] s Unknown
first_accounts s e =
    subst (λ x. AccountsFor [] [] x Unknown) (sym e) (record {
      implied = λ a m c h. absurd h;
      holds = record { others = []; same = refl; settled = λ c h. absurd h; units = λ l h. absurd h };
      answers = λ c h. absurd h;
    })
