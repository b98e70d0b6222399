-- Entries lead on alike under other names for the variables, also beside clauses of which nothing is known: so what a search relies on and
-- what a checker has of it over global variables go on together.
use Rattle.std.specs.Prelude.{◌≡◌, ℕ, ◌+◌, ◌-◌, ◌*◌, ◌/◌, ◌%◌, Bool, true, false, List, [], ◌∷◌, ◌++◌, map, Option, refl}
use Rattle.std.proofs.Common.{sym, ap, ◌∙◌, append_assoc, subst, arith}
use Rattle.std.proofs.lemmas.List.{map-append}
use Rattle.varisat_theory.specs.promises.Literals.{Literal, Clause, variable_of, opposite}
use Rattle.varisat_theory.specs.promises.Propagation.{Conflicts}
use Rattle.varisat_theory.specs.promises.Derivations.{Line, Add, Delete, TakesOut, Derives}
use Rattle.varisat_theory.specs.promises.Held.{SameClauses, without, unless, mentions}
use Rattle.varisat_theory.specs.promises.Renaming.{KeepsOpposites, rename, rename_line}
use Rattle.varisat_theory.proofs.clauses.Members.{∈-append_right}
use Rattle.varisat_theory.proofs.clauses.Growth.{conflicts_more, covered_by_more}
use Rattle.varisat_theory.proofs.clauses.Held.{same_set-self, same_add, same_clauses-back, same_clauses-through, conflicts_same}
use Rattle.varisat_theory.proofs.journals.HeldRetirements.{same_without}
use Rattle.varisat_theory.proofs.clauses.Lines.{derives_beside, derives_same, same_lines-self, present_unique}
use Rattle.varisat_theory.proofs.journals.Renaming.{conflicts_renamed, derives_renamed, same_clauses_renamed}
use Rattle.varisat_theory.specs.promises.Journals.{Entry, Accepts, Writes, Assumes, Fails, Retires, Follow, Leads}
use Rattle.varisat_proof.specs.inside.Present.{IsLeftAfter}
use Rattle.varisat_tracer.specs.promises.Carried.{variable_or_first, carry, logged_as}

-- 1. The same literal of another variable has the opposite of the same name.
pub carry-opposites : (f : ℕ → Option ℕ) → KeepsOpposites (carry f)
unfolding opposite
carry-opposites f l =
    ap (λ v. 2 * variable_or_first (f v) + (l + 1 - 2 * (l % 2)) % 2) (half l) ∙ go
    (variable_or_first (f (variable_of l))) l
  where
    half : (l : ℕ) → (l + 1 - 2 * (l % 2)) / 2 ≡ l / 2
    half l = omega arith

    go : (x l : ℕ) → 2 * x + (l + 1 - 2 * (l % 2)) % 2 ≡ 2 * x + l % 2 + 1 - 2 * ((2 * x + l % 2) % 2)
    go x l = omega arith

-- 2. What is present after entries is determined, but for order and spelling.
one_more : (P held R : List Clause) (c : Clause) → SameClauses held P → R ≡ held ++ c ∷ [] → SameClauses R (P ++ c ∷ [])
one_more P held R c s e =
    subst (λ (X : List Clause). SameClauses X (P ++ c ∷ [])) (sym e) (same_add held P c c s (same_set-self c))

pub left_same : (P Q : List Clause) (entries : List Entry) (held after : List Clause) → IsLeftAfter P entries Q →
    SameClauses held P →
    Leads held entries after → SameClauses after Q
left_same P Q [] held after e s d = subst (λ (X : List Clause). SameClauses X Q) d (subst (SameClauses held) e s)
left_same P Q (Accepts c ∷ es) held after e s (R, f, d) =
    left_same (P ++ c ∷ []) Q es R after e (one_more P held R c s f) d
left_same P Q (Writes (Add c) ∷ es) held after e s (R, f, d) =
    left_same (P ++ c ∷ []) Q es R after e (one_more P held R c s f.1) d
left_same P Q (Writes (Delete c) ∷ es) held after e s (R, f, d) =
    left_same e.0 Q es R after e.2 (present_unique held P (Delete c ∷ []) R e.0 s (R, f, refl) (e.0, e.1, refl)) d
left_same P Q (Assumes a ∷ es) held after e s (R, f, d) =
    left_same P Q es R after e (subst (λ (X : List Clause). SameClauses X P) (sym f) s) d
left_same P Q (Fails core ∷ es) held after e s (R, f, d) =
    left_same P Q es R after e (subst (λ (X : List Clause). SameClauses X P) (sym f.1) s) d
left_same P Q (Retires v ∷ es) held after e s (R, f, d) =
    left_same (without v P) Q es R after e
    (subst (λ (X : List Clause). SameClauses X (without v P)) (sym f) (same_without v held P s)) d

-- 3. One line as an entry.
follow-line : (P : List Clause) (line : Line) (Q : List Clause) → Derives P (line ∷ []) Q → Follow P (Writes line) Q
follow-line P (Add c) Q (f, e) = (f, sym e)
follow-line P (Delete c) Q (R, t, e) = subst (λ (X : List Clause). TakesOut P c X) e t

line-follow : (P : List Clause) (line : Line) (Q : List Clause) → Follow P (Writes line) Q → Derives P (line ∷ []) Q
line-follow P (Add c) Q (f, e) = (f, sym e)
line-follow P (Delete c) Q t = (Q, t, refl)

-- 4. Clauses that mention a variable, apart from those that do not.
same_beside : (more P Q : List Clause) → SameClauses P Q → SameClauses (more ++ P) (more ++ Q)
same_beside [] P Q s = s
same_beside (c ∷ more) P Q s = (more ++ Q, ([], c, more ++ Q, refl, same_set-self c, refl), same_beside more P Q s)

parted : (v : ℕ) (P : List Clause) → (M : List Clause) × SameClauses P (M ++ without v P)
parted v [] = ([], refl)
parted v (c ∷ P) = let (M, s) = parted v P in by (mentions v c) M s
  where
    by : (b : Bool) (M : List Clause) → SameClauses P (M ++ without v P) →
        (N : List Clause) × SameClauses (c ∷ P) (N ++ unless b c (without v P))
    by true M s = (c ∷ M, (M ++ without v P, ([], c, M ++ without v P, refl, same_set-self c, refl), s))
    by false M s = (M, (M ++ without v P, (M, c, without v P, refl, same_set-self c, refl), s))

-- 5. Entries lead on under other names.
module _ (f : Literal → Literal) (keeps : KeepsOpposites f) where
  line-renamed : (P held R others : List Clause) (line : Line) → SameClauses (others ++ rename f held) P →
      Follow held (Writes line) R → (Q : List Clause)
      × Follow P (Writes (rename_line f line)) Q × SameClauses (others ++ rename f R) Q
  line-renamed P held R others line s w =
      let d = derives_beside others (rename f held) (rename_line f line ∷ []) (rename f R)
      (derives_renamed f keeps held (line ∷ []) R (line-follow held line R w)) in
      let (Q, e, t) =
      derives_same (others ++ rename f held) P (rename_line f line ∷ []) (rename_line f line ∷ [])
      (others ++ rename f R) s
      (same_lines-self (rename_line f line ∷ [])) d in
      (Q, follow-line P (rename_line f line) Q e, t)

  conflict-renamed : (P held others : List Clause) (core : List Literal) → SameClauses (others ++ rename f held) P →
      Conflicts held core →
      Conflicts P (map f core)
  conflict-renamed P held others core s k =
      conflicts_same (others ++ rename f held) P (map f core) s
      (conflicts_more (rename f held) (others ++ rename f held) (map f core) (map f core)
      (covered_by_more (rename f held) (others ++ rename f held) (λ c h. ∈-append_right c others (rename f held) h))
      (λ l h. h)
      (conflicts_renamed f keeps held core k))

  accepted-renamed : (P held R others : List Clause) (c : Clause) → SameClauses (others ++ rename f held) P →
      R ≡ held ++ c ∷ [] →
      SameClauses (others ++ rename f R) (P ++ map f c ∷ [])
  accepted-renamed P held R others c s e =
      one_more P (others ++ rename f held) (others ++ rename f R) (map f c) s
      (ap (λ xs. others ++ xs) (ap (rename f) e ∙ map-append (map f) held (c ∷ [])) ∙ sym
      (append_assoc others (rename f held) (map f c ∷ [])))

  left-renamed : (P held R others : List Clause) (v : ℕ) → SameClauses (others ++ rename f held) P →
      R ≡ without v held → (more : List Clause)
      × SameClauses (more ++ rename f R) P
  left-renamed P held R others v s e =
      let (M, t) = parted v held in
      let u : SameClauses (rename f held) (rename f M ++ rename f (without v held)) =
      subst (λ (X : List Clause). SameClauses (rename f held) X)
      (map-append (map f) M (without v held)) (same_clauses_renamed f held (M ++ without v held) t) in
      let w : SameClauses ((others ++ rename f M) ++ rename f (without v held)) P =
      subst (λ (X : List Clause). SameClauses X P) (sym (append_assoc others (rename f M) (rename f (without v held))))
      (same_clauses-through (others ++ (rename f M ++ rename f (without v held))) (others ++ rename f held) P
      (same_clauses-back (others ++ rename f held) (others ++ (rename f M ++ rename f (without v held)))
      (same_beside others (rename f held) (rename f M ++ rename f (without v held)) u)) s) in (
        others
            ++ rename f M,
        subst (λ (X : List Clause). SameClauses ((others ++ rename f M) ++ rename f X) P) (sym e) w,
      )

  pub leads-renamed : (entries : List Entry) (held after others P : List Clause) →
      SameClauses (others ++ rename f held) P → Leads held entries after →
      (Q more : List Clause) × Leads P (logged_as f entries) Q × SameClauses (more ++ rename f after) Q
  leads-renamed [] held after others P s e =
      (P, others, refl, subst (λ (X : List Clause). SameClauses (others ++ rename f X) P) e s)
  leads-renamed (Accepts c ∷ es) held after others P s (R, e, d) =
      let (Q, more, l, t) =
      leads-renamed es R after others (P ++ map f c ∷ []) (accepted-renamed P held R others c s e) d in
      (Q, more, (P ++ map f c ∷ [], refl, l), t)
  leads-renamed (Writes line ∷ es) held after others P s (R, w, d) =
      let (S, g, u) = line-renamed P held R others line s w in
      let (Q, more, l, t) = leads-renamed es R after others S u d in
      (Q, more, (S, g, l), t)
  leads-renamed (Assumes a ∷ es) held after others P s (R, e, d) =
      let (Q, more, l, t) =
      leads-renamed es R after others P
      (subst (λ (X : List Clause). SameClauses (others ++ rename f X) P) (sym e) s) d in
      (Q, more, (P, refl, l), t)
  leads-renamed (Fails core ∷ es) held after others P s (R, (k, e), d) =
      let (Q, more, l, t) =
      leads-renamed es R after others P
      (subst (λ (X : List Clause). SameClauses (others ++ rename f X) P) (sym e) s) d in
      (Q, more, (P, (conflict-renamed P held others core s k, refl), l), t)
  leads-renamed (Retires v ∷ es) held after others P s (R, e, d) =
      let (more, u) = left-renamed P held R others v s e in
      leads-renamed es R after more P u d
