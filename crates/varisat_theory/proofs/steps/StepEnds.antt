-- How a step ends.
use Rattle.std.proofs.Common.{◌≡◌, List, [], ◌∷◌, ◌++◌, inl, inr, ⊎_elim, sym, ap, subst, refl, append_assoc}
use Rattle.varisat_theory.specs.promises.Membership.{◌∈◌, ◌⊆◌, SameSet}
use Rattle.varisat_theory.specs.promises.Literals.{Literal, Clause, Assignment, opposite, IsUnit, Satisfies, SatisfiesAll, MakesTrue}
use Rattle.varisat_theory.specs.promises.Propagation.{Conflicts, FalseClause, IsFalse}
use Rattle.varisat_theory.specs.promises.Derivations.{Add}
use Rattle.varisat_theory.specs.promises.Held.{SameClauses}
use Rattle.varisat_theory.proofs.clauses.Members.{∈-append_left, ∈-append_right, ∈-append_cases}
use Rattle.varisat_theory.proofs.clauses.Held.{same_set-back, same_clauses-through, same_add, same_set-self, same_clauses_find, same_clauses-back, conflicts_same}
use Rattle.varisat_theory.proofs.clauses.Assigned.{assigned_satisfies, same_set_satisfied, tautology_satisfied}
use Rattle.varisat_theory.proofs.clauses.Implication.{implied_false}
use Rattle.varisat_theory.specs.promises.Counted.{IsNew, AddsNew}
use Rattle.varisat_theory.specs.promises.Searches.{KeptClause, Search, clauses_of, IsDischarged, Fits, Covers, IsLiteralOf}
use Rattle.varisat_theory.specs.inside.Outcomes.{Unknown, Sat, Unsat, UnsatUnder, Steps}
use Rattle.varisat_theory.specs.inside.StepLaws.{FollowsFrom, IsNewTo, IsFresh, DecidesKept}
use Rattle.varisat_theory.proofs.steps.SearchFits.{same_between, clauses_last, clause_from, plain, proved_implied}
use Rattle.varisat_theory.proofs.journals.Spoken.{kept_within, unit_within}
use Rattle.varisat_theory.proofs.steps.StepChanges.{discharged_more, more_units, more_discharged, in_plain}

-- no held clause is a part of a fresh one
pub fresh_is_new : (s : Search) (c : Clause) → IsFresh s c → IsNewTo s c
fresh_is_new s c n held f = (
  n.tautology,
  λ d h w.
      let (e, i, q) = same_clauses_find held (clauses_of s.kept ++ f.others) f.same d h in
      ⊎_elim
      (λ a. let (k, j, g) = clause_from s.kept e a in n.kept k j (λ x o. w x (q.0 x (subst (λ y. x ∈ y) g o))))
      (λ a. ⊎_elim
      (λ (l, o, p). n.tautology (l, w l (q.0 l o), w (opposite l) (q.0 (opposite l) p)))
      (λ (l, o, p). n.fixed l (w l (q.0 l o)) p)
      (f.settled e a))
      (∈-append_cases e (clauses_of s.kept) f.others i),
)

-- a clause is kept in addition
pub fits_kept : (s : Search) (held : List Clause) (c : Clause) (k : KeptClause) → SameSet k.clause c → Fits held s →
    Fits (held ++ c ∷ []) (record s { kept = s.kept ++ k ∷ [] })
fits_kept s held c k q f = record {
  others = f.others;
  same = same_clauses-through (held ++ c ∷ []) (plain held s f ++ c ∷ []) (clauses_of (s.kept ++ k ∷ []) ++ f.others)
      (same_add held (plain held s f) c c f.same (same_set-self c))
      (subst (λ x. SameClauses (plain held s f ++ c ∷ []) (x ++ f.others)) (sym (clauses_last s.kept k))
      (same_between (clauses_of s.kept) f.others c k.clause (same_set-back k.clause c q)));
  settled = f.settled;
  units = f.units;
}

pub covers_kept : (s : Search) (k : KeptClause) (P : List Clause) → Covers P s → Covers P (record s { kept = s.kept ++ k ∷ [] })
covers_kept s k P v d h = ⊎_elim (λ a. inl a) (λ (j, i, e, w). inr (j, ∈-append_left j s.kept (k ∷ []) i, e, w)) (v d h)

-- a clause that is discharged joins the others
pub fits_discharged : (s : Search) (held : List Clause) (c : Clause) → IsDischarged s c → Fits held s → Fits (held ++ c ∷ []) s
fits_discharged s held c a f = record {
  others = f.others ++ c ∷ [];
  same = subst (SameClauses (held ++ c ∷ [])) (append_assoc (clauses_of s.kept) f.others (c ∷ []))
      (same_add held (plain held s f) c c f.same (same_set-self c));
  settled = more_discharged s f.others c f.settled a;
  units = λ l h. let (d, i, u) = f.units l h in (d, ∈-append_left d f.others (c ∷ []) i, u);
}

-- a unit is true at level 0 from then on
abbrev pub with_unit : Search → Literal → Search
with_unit s l = record s { fixed = s.fixed ++ l ∷ []; proved = s.proved ++ l ∷ [] }

pub fits_unit : (s : Search) (held : List Clause) (c : Clause) (l : Literal) → IsUnit l c → Fits held s → Fits (held ++ c ∷ []) (with_unit s l)
fits_unit s held c l u f =
    let more : s.fixed ⊆ (s.fixed ++ l ∷ []) = λ x h. ∈-append_left x s.fixed (l ∷ []) h in
    record {
      others = f.others ++ c ∷ [];
      same = subst (SameClauses (held ++ c ∷ [])) (append_assoc (clauses_of s.kept) f.others (c ∷ []))
          (same_add held (plain held s f) c c f.same (same_set-self c));
      settled = more_discharged (with_unit s l) f.others c (λ d h. discharged_more s (with_unit s l) d more (f.settled d h))
          (inr (l, u.0, ∈-append_right l s.fixed (l ∷ []) (inl refl)));
      units = more_units s (with_unit s l) f.others c l u refl f.units;
    }

pub covers_unit : (s : Search) (l : Literal) (P : List Clause) → Covers P s → Covers P (with_unit s l)
covers_unit s l P v d h =
    ⊎_elim (λ a. inl (discharged_more s (with_unit s l) d (λ x i. ∈-append_left x s.fixed (l ∷ []) i) a)) inr (v d h)

new_line : (held : List Clause) (c : Clause) → IsNew held c → AddsNew held (Add c ∷ [])
new_line held c n = record {
  front = [];
  clause = c;
  back = [];
  before = held;
  after = held ++ c ∷ [];
  split = refl;
  is_before = refl;
  is_new = n;
  is_after = refl;
  stays = (c, ∈-append_right c held (c ∷ []) (inl refl), same_set-self c);
}

pub learned_kept : (s : Search) (c : Clause) (k : KeptClause) → SameSet k.clause c → FollowsFrom s c → IsNewTo s c →
    ((l : Literal) → l ∈ c → IsLiteralOf s l) → Steps s (record s { kept = s.kept ++ k ∷ [] }) Unknown (Add c ∷ [])
learned_kept s c k q g n w = record {
  holds = λ held f.
      (held ++ c ∷ [], (g held f, inr (0, refl, refl)), fits_kept s held c k q f, λ e. new_line held c (n held f));
  answers = covers_kept s k;
  speaks = (w, tt);
  within = λ u. kept_within s (IsLiteralOf s) k (λ l h. h) (λ l h. w l (q.0 l h));
}

pub learned_unit : (s : Search) (c : Clause) (l : Literal) → IsUnit l c → FollowsFrom s c → IsNewTo s c →
    ((m : Literal) → m ∈ c → IsLiteralOf s m) → Steps s (record s { fixed = s.fixed ++ l ∷ []; proved = s.proved ++ l ∷ [] }) Unknown (Add c ∷ [])
learned_unit s c l u g n w = record {
  holds = λ held f.
      (held ++ c ∷ [], (g held f, inl (inl (l, u), refl)), fits_unit s held c l u f, λ e. new_line held c (n held f));
  answers = covers_unit s l;
  speaks = (w, tt);
  within = λ y. unit_within s (IsLiteralOf s) l (λ m h. h) (w l u.0);
}

pub empty_is_added : (s t : Search) (k : KeptClause) → k ∈ s.kept → IsFalse s.proved k.clause → Steps s t Unsat (Add [] ∷ [])
empty_is_added s t k h z = record {
  holds = λ held f.
      let now : Conflicts held [] = conflicts_same (plain held s f) held [] (same_clauses-back held (plain held s f) f.same)
      (implied_false (plain held s f) [] k.clause (in_plain s held f k h) (λ m i. proved_implied held s (opposite m) f (z m i))) in (
        held ++ [] ∷ [],
        (now, inr (0, refl, refl)),
        FalseClause [] (∈-append_right [] held ([] ∷ []) (inl refl))
            (λ m i. absurd i),
        λ e. absurd (let y : Unsat ≡ Unknown = e in cc),
      );
  answers = λ P v. tt;
  speaks = (λ l h. absurd h, tt);
  within = λ u. absurd (u refl);
}

-- the empty clause follows, and is added or not
pub contradiction_is_found : (s t : Search) → FollowsFrom s [] → Steps s t Unsat [] × Steps s t Unsat (Add [] ∷ [])
contradiction_is_found s t g = (
  record {
    holds = λ held f. (held, refl, g held f, λ e. absurd (let y : Unsat ≡ Unknown = e in cc));
    answers = λ P v. tt;
    speaks = tt;
    within =
        λ u. absurd (u refl);
  },
  record {
    holds = λ held f. (
      held ++ [] ∷ [],
      (g held f, inr (0, refl, refl)),
      FalseClause [] (∈-append_right [] held ([] ∷ []) (inl refl))
          (λ m i. absurd i),
      λ e. absurd (let y : Unsat ≡ Unknown = e in cc),
    );
    answers = λ P v. tt;
    speaks = (λ l h. absurd h, tt);
    within = λ u. absurd (u refl);
  },
)

pub model_satisfies : (s : Search) (known : List Literal) (a : Assignment) (P : List Clause) → DecidesKept s known → MakesTrue a known → Covers P s →
    SatisfiesAll a P
model_satisfies s known a P (x, n, y) m v c h =
    ⊎_elim
    (λ w. ⊎_elim (λ (l, i, j). tautology_satisfied a c l i j) (λ (l, i, j). (l, i, m l (x l j))) w)
    (λ (k, i, e, w). same_set_satisfied a k.clause c w (kept k i))
    (v c h)
  where
    all : SatisfiesAll a (clauses_of s.kept)
    all = assigned_satisfies (clauses_of s.kept) known a m n (λ d i l o. let (k, j, g) = clause_from s.kept d i in y k j l (subst (λ z. l ∈ z) (sym g) o))

    in_clauses : (ks : List KeptClause) (k : KeptClause) → k ∈ ks → k.clause ∈ clauses_of ks
    in_clauses [] k i = absurd i
    in_clauses (j ∷ ks) k (inl e) = inl (ap (λ z. z.clause) e)
    in_clauses (j ∷ ks) k (inr i) = inr (in_clauses ks k i)

    kept : (k : KeptClause) → k ∈ s.kept → Satisfies a k.clause
    kept k i = all k.clause (in_clauses s.kept k i)

pub model_is_found : (s : Search) (known : List Literal) (a : Assignment) → DecidesKept s known → MakesTrue a known → Steps s s (Sat a) []
model_is_found s known a n m = record {
  holds = λ held f. (held, refl, f, λ e. absurd (let y : Sat a ≡ Unknown = e in cc));
  answers = λ P v. (v, model_satisfies s known a P n m v);
  speaks = tt;
  within = λ u l h. h;
}

pub core_is_found : (s : Search) (core : List Literal) → ((held : List Clause) → Fits held s → Conflicts held core) → Steps s s (UnsatUnder core) []
core_is_found s core g = record {
  holds = λ held f. (held, refl, (f, g held f), λ e. absurd (let y : UnsatUnder core ≡ Unknown = e in cc));
  answers = λ P v. v;
  speaks = tt;
  within = λ u l h. h;
}
