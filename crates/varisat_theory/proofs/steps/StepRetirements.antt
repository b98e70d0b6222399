-- Units one after another, and variables that leave the search.
use Rattle.std.proofs.Common.{◌≡◌, ◌≢◌, ℕ, ◌/◌, ◌||◌, Bool, true, false, nat_eq, List, [], ◌∷◌, ◌++◌, inl, inr, sym, ap, ◌∙◌, subst, refl, append_assoc, arith}
use Rattle.std.proofs.lemmas.Bool.{ne_eqb}
use Rattle.varisat_theory.specs.promises.Membership.{◌∈◌}
use Rattle.varisat_theory.specs.promises.Literals.{Literal, Clause, variable_of}
use Rattle.varisat_theory.specs.promises.Propagation.{LeavesOnly}
use Rattle.varisat_theory.specs.promises.Derivations.{Add}
use Rattle.varisat_theory.specs.promises.Held.{SameClauses, mentions, unless, without}
use Rattle.varisat_theory.proofs.journals.HeldRetirements.{same_without, without_less}
use Rattle.varisat_theory.specs.promises.Searches.{KeptClause, Search, clauses_of, IsDischarged, Fits}
use Rattle.varisat_theory.specs.inside.Outcomes.{Proves}
use Rattle.varisat_theory.specs.inside.StepLaws.{unit_lines}
use Rattle.varisat_theory.proofs.steps.StepParts.{no_part, parts_join}
use Rattle.varisat_theory.proofs.steps.StepChanges.{unit_is_proved}

none : (P : List Literal) → P ++ [] ≡ P
none [] = refl
none (x ∷ P) = ap (λ l. x ∷ l) (none P)

pub units_are_proved : (s : Search) (ls : List Literal) →
    ((front back : List Literal) (l : Literal) → ls ≡ front ++ (l ∷ back) → (l ∈ s.fixed)
    × ((k : KeptClause) × (k ∈ s.kept) × (l ∈ k.clause) × LeavesOnly (s.proved ++ front) k.clause l)) →
    Proves 0 s (record s { proved = s.proved ++ ls }) (unit_lines ls)
units_are_proved s [] f =
    subst (λ x. Proves 0 s (record s { proved = x }) []) (sym (none s.proved)) (no_part s)
units_are_proved s (l ∷ ls) f =
    let (x, (k, h, i, u)) = f [] ls l refl in
    let t = record s { proved = s.proved ++ l ∷ [] } in
    let first = unit_is_proved s l k x h i (subst (λ y. LeavesOnly y k.clause l) (none s.proved) u) in
    let rest = units_are_proved t ls (λ front back m e.
    let (x', (k', h', i', u')) = f (l ∷ front) back m (ap (λ y. l ∷ y) e) in
    (x', (k', h', i', subst (λ y. LeavesOnly y k'.clause m) (sym (append_assoc s.proved (l ∷ []) front)) u'))) in
    subst (λ y. Proves 0 s (record s { proved = y }) (Add (l ∷ []) ∷ unit_lines ls)) (append_assoc s.proved (l ∷ []) ls)
    (parts_join 0 0 s t (record s { proved = (s.proved ++ l ∷ []) ++ ls }) (Add (l ∷ []) ∷ []) (unit_lines ls) first rest)

mentioned : (v : ℕ) (c : Clause) (l : Literal) → l ∈ c → mentions v c ≡ false → variable_of l ≢ v
mentioned v [] l h e = absurd h
mentioned v (x ∷ c) l (inl q) e = λ g. let z : nat_eq (x / 2) v ≡ true = equal (x / 2) v (ap (λ y. y / 2) (sym q) ∙ g) in
    no_or (nat_eq (x / 2) v) (mentions v c) z e
  where
    equal : (a b : ℕ) → a ≡ b → nat_eq a b ≡ true
    equal a b e = grind arith

    no_or : (a b : Bool) → a ≡ true → (a || b) ≡ false → ⊥
    no_or true b e f = let z : true ≡ false = f in cc
    no_or false b e f = let z : false ≡ true = e in cc
mentioned v (x ∷ c) l (inr h) e = mentioned v c l h (right (nat_eq (x / 2) v) (mentions v c) e)
  where
    right : (a b : Bool) → (a || b) ≡ false → b ≡ false
    right true b e = absurd (let z : true ≡ false = e in cc)
    right false b e = e

pub not_mentioned : (v : ℕ) (c : Clause) → ((l : Literal) → l ∈ c → variable_of l ≢ v) → mentions v c ≡ false
not_mentioned v [] f = refl
not_mentioned v (x ∷ c) f = ap (λ b. b || mentions v c) (ne_eqb (x / 2) v (f x (inl refl))) ∙ not_mentioned v c (λ l h. f l (inr h))

pub without_keeps : (v : ℕ) (P : List Clause) (c : Clause) → c ∈ P → mentions v c ≡ false → c ∈ without v P
without_keeps v [] c h e = absurd h
without_keeps v (d ∷ P) c (inl q) e = subst (λ b. c ∈ unless b d (without v P)) (sym (ap (mentions v) (sym q) ∙ e)) (inl q)
without_keeps v (d ∷ P) c (inr h) e = go (mentions v d) (without_keeps v P c h e)
  where
    go : (b : Bool) → c ∈ without v P → c ∈ unless b d (without v P)
    go true i = i
    go false i = inr i

without_free : (v : ℕ) (P : List Clause) (c : Clause) → c ∈ without v P → mentions v c ≡ false
without_free v [] c h = absurd h
without_free v (d ∷ P) c h = go (mentions v d) refl h (without_free v P c)
  where
    go : (b : Bool) → mentions v d ≡ b → c ∈ unless b d (without v P) → (c ∈ without v P → mentions v c ≡ false) → mentions v c ≡ false
    go true e i f = f i
    go false e (inl q) f = ap (mentions v) q ∙ e
    go false e (inr i) f = f i

-- kept clauses that don't mention the variable all stay
kept_stay : (v : ℕ) (ks : List KeptClause) (O : List Clause) → ((k : KeptClause) → k ∈ ks → mentions v k.clause ≡ false) →
    without v (clauses_of ks ++ O) ≡ clauses_of ks ++ without v O
kept_stay v [] O f = refl
kept_stay v (k ∷ ks) O f =
    ap (λ b. unless b k.clause (without v (clauses_of ks ++ O))) (f k (inl refl)) ∙ ap (λ l. k.clause ∷ l) (kept_stay v ks O (λ j h. f j (inr h)))

pub variable_is_retired : (s t : Search) (v : ℕ) (held : List Clause) → t.kept ≡ s.kept →
    ((k : KeptClause) → k ∈ s.kept → mentions v k.clause ≡ false) → ((l : Literal) → l ∈ s.fixed → variable_of l ≢ v → l ∈ t.fixed) →
    ((l : Literal) → l ∈ t.proved → (l ∈ s.proved) × (variable_of l ≢ v)) → Fits held s → Fits (without v held) t
variable_is_retired s t v held e g x p f = record {
  others = without v f.others;
  same = subst (λ ks. SameClauses (without v held) (clauses_of ks ++ without v f.others)) (sym e)
      (subst (SameClauses (without v held)) (kept_stay v s.kept f.others g) (same_without v held (clauses_of s.kept ++ f.others) f.same));
  settled = λ c h. stays c (without_free v f.others c h) (f.settled c (without_less v f.others c h));
  units = λ l h.
      let (i, n) = p l h in
      let (d, j, u) = f.units l i in
      (d, without_keeps v f.others d j (not_mentioned v d (λ m o. subst (λ y. variable_of y ≢ v) (sym (u.1 m o)) n)), u);
}
  where
    stays : (c : Clause) → mentions v c ≡ false → IsDischarged s c → IsDischarged t c
    stays c q (inl a) = inl a
    stays c q (inr (l, i, j)) = inr (l, i, x l j (mentioned v c l i q))
