-- Derivations, line by line and as a whole.
use Rattle.std.proofs.Common.{◌≡◌, List, [], ◌∷◌, ◌++◌, sym, ap, ◌∙◌, subst, refl, append_assoc}
use Rattle.varisat_theory.specs.promises.Literals.{Clause, IsSatisfiable}
use Rattle.varisat_theory.specs.promises.Propagation.{Conflicts, Follows}
use Rattle.varisat_theory.specs.promises.Derivations.{Line, Add, Delete, TakesOut, IsPresentAfter, AddsWhatFollows, IsDerivation, Refutes, Derives}
use Rattle.varisat_theory.specs.promises.Held.{SameClauses, SameLine, SameLines}
use Rattle.varisat_theory.proofs.clauses.Members.{∈-append_right}
use Rattle.varisat_theory.proofs.clauses.Growth.{conflicts_more, follows_more, covered_by_more}
use Rattle.varisat_theory.proofs.clauses.Sound.{conflicts_sound, derives_sound}
use Rattle.varisat_theory.proofs.clauses.Held.{same_set-self, same_clauses-self, takes_out_unique, same_add, same_delete, takes_out_same, conflicts_same, follows_same}

pub derives_append : (P : List Clause) (lines : List Line) (Q : List Clause) (more : List Line) (R : List Clause) → Derives P lines Q →
    Derives Q more R → Derives P (lines ++ more) R
derives_append P [] Q more R d e = subst (λ S. Derives S more R) (sym d) e
derives_append P (Add c ∷ lines) Q more R d e = (d.0, derives_append (P ++ (c ∷ [])) lines Q more R d.1 e)
derives_append P (Delete c ∷ lines) Q more R d e = (d.0, d.1, derives_append d.0 lines Q more R d.2 e)

-- a derivation is cut where its lines are
pub derives_cut : (P : List Clause) (lines more : List Line) (R : List Clause) → Derives P (lines ++ more) R → (Q : List Clause) × Derives P lines Q
    × Derives Q more R
derives_cut P [] more R d = (P, refl, d)
derives_cut P (Add c ∷ lines) more R d = let r = derives_cut (P ++ (c ∷ [])) lines more R d.1 in (r.0, (d.0, r.1), r.2)
derives_cut P (Delete c ∷ lines) more R d = let r = derives_cut d.0 lines more R d.2 in (r.0, (d.0, d.1, r.1), r.2)

-- one more line that adds a clause that follows
pub derives_add : (P : List Clause) (lines : List Line) (Q : List Clause) (c : Clause) → Derives P lines Q → Follows Q c →
    Derives P (lines ++ (Add c ∷ [])) (Q ++ (c ∷ []))
derives_add P lines Q c d f = derives_append P lines Q (Add c ∷ []) (Q ++ (c ∷ [])) d (f, refl)

-- one more line that deletes a present clause
pub derives_delete : (P : List Clause) (lines : List Line) (Q : List Clause) (c : Clause) (R : List Clause) → Derives P lines Q → TakesOut Q c R →
    Derives P (lines ++ (Delete c ∷ [])) R
derives_delete P lines Q c R d t = derives_append P lines Q (Delete c ∷ []) R d (R, t, refl)

pub same_line-self : (l : Line) → SameLine l l
same_line-self (Add c) = same_set-self c
same_line-self (Delete c) = same_set-self c

pub same_lines-self : (ls : List Line) → SameLines ls ls
same_lines-self [] = tt
same_lines-self (l ∷ ls) = (same_line-self l, same_lines-self ls)

-- what is present is determined but for order and spelling
pub present_unique : (P P' : List Clause) (lines : List Line) (Q Q' : List Clause) → SameClauses P P' → IsPresentAfter P lines Q →
    IsPresentAfter P' lines Q' → SameClauses Q Q'
present_unique P P' [] Q Q' s d e = subst (λ l. SameClauses l Q') d (subst (λ l. SameClauses P l) e s)
present_unique P P' (Add c ∷ ls) Q Q' s d e = present_unique (P ++ (c ∷ [])) (P' ++ (c ∷ [])) ls Q Q' (same_add P P' c c s (same_set-self c)) d e
present_unique P P' (Delete c ∷ ls) Q Q' s d e =
    present_unique d.0 e.0 ls Q Q' (takes_out_unique P P' c d.0 e.0 s d.1 e.1) d.2 e.2

pub derives_present : (P : List Clause) (lines : List Line) (Q : List Clause) → Derives P lines Q → IsPresentAfter P lines Q
derives_present P [] Q d = d
derives_present P (Add c ∷ ls) Q d = derives_present (P ++ (c ∷ [])) ls Q d.1
derives_present P (Delete c ∷ ls) Q d = (d.0, d.1, derives_present d.0 ls Q d.2)

pub derives_adds : (P : List Clause) (lines : List Line) (Q : List Clause) → Derives P lines Q → AddsWhatFollows P lines
derives_adds P lines Q d front back c R e p =
    let r = derives_cut P front (Add c ∷ back) Q (subst (λ l. Derives P l Q) e d) in
    follows_same r.0 R c c (present_unique P P front r.0 R (same_clauses-self P) (derives_present P front r.0 r.1) p) (same_set-self c) r.2.0

pub derives_whole : (P : List Clause) (lines : List Line) (Q : List Clause) → IsPresentAfter P lines Q → AddsWhatFollows P lines → Derives P lines Q
derives_whole P [] Q p a = p
derives_whole P (Add c ∷ ls) Q p a =
    (a [] ls c P refl refl, derives_whole (P ++ (c ∷ [])) ls Q p (λ front back d R e q. a (Add c ∷ front) back d R (ap (λ l. Add c ∷ l) e) q))
derives_whole P (Delete c ∷ ls) Q p a =
    (p.0, p.1, derives_whole p.0 ls Q p.2 (λ front back d R e q. a (Delete c ∷ front) back d R (ap (λ l. Delete c ∷ l) e) (p.0, p.1, q)))

pub derives_derivation : (P : List Clause) (lines : List Line) (Q : List Clause) → Derives P lines Q → IsDerivation P lines
derives_derivation P lines Q d = ((Q, derives_present P lines Q d), derives_adds P lines Q d)

pub derivation_derives : (P : List Clause) (lines : List Line) → IsDerivation P lines → (Q : List Clause) × Derives P lines Q
derivation_derives P lines w = (w.0.0, derives_whole P lines w.0.0 w.0.1 w.1)

-- lines that refute, line by line
abbrev pub RefutesAt : List Clause → List Line → Type 0
RefutesAt P lines = (front back : List Line) × (Q : List Clause) × (lines ≡ front ++ back) × Derives P front Q × Conflicts Q []

pub refutes_at : (P : List Clause) (lines : List Line) → Refutes P lines → RefutesAt P lines
refutes_at P lines (front, back, Q, e, d, p, k) = (front, back, Q, e, derives_whole P front Q p d.1, k)

pub refutes_from : (P : List Clause) (lines : List Line) → RefutesAt P lines → Refutes P lines
refutes_from P lines (front, back, Q, e, d, k) = (front, back, Q, e, derives_derivation P front Q d, derives_present P front Q d, k)

pub derivations_join : (P : List Clause) (lines : List Line) (Q : List Clause) (more : List Line) → IsDerivation P lines →
    IsPresentAfter P lines Q → IsDerivation Q more → IsDerivation P (lines ++ more)
derivations_join P lines Q more d p e =
    let r = derivation_derives Q more e in
    derives_derivation P (lines ++ more) r.0 (derives_append P lines Q more r.0 (derives_whole P lines Q p d.1) r.1)

pub beginning_derives : (P : List Clause) (lines more : List Line) → IsDerivation P (lines ++ more) → IsDerivation P lines
beginning_derives P lines more d =
    let r = derivation_derives P (lines ++ more) d in
    let s = derives_cut P lines more r.0 r.1 in
    derives_derivation P lines s.0 s.1

-- lines after a refutation refute too
pub refutes_more : (P : List Clause) (lines more : List Line) → Refutes P lines → Refutes P (lines ++ more)
refutes_more P lines more (front, back, Q, e, d, p, k) = (front, back ++ more, Q, ap (λ l. l ++ more) e ∙ append_assoc front back more, d, p, k)

pub refutes_sound : (P : List Clause) (lines : List Line) → Refutes P lines → IsSatisfiable P → ⊥
refutes_sound P lines r w =
    let (front, back, Q, e, d, k) = refutes_at P lines r in
    conflicts_sound Q [] w.0 (derives_sound P front Q w.0 d w.1) (λ l h. absurd h) k

-- the same lines from the same clauses
pub derives_same : (P P' : List Clause) (lines lines' : List Line) (Q : List Clause) → SameClauses P P' → SameLines lines lines' →
    Derives P lines Q → (Q' : List Clause) × Derives P' lines' Q' × SameClauses Q Q'
derives_same P P' [] [] Q s t d = (P', refl, subst (λ l. SameClauses l P') d s)
derives_same P P' [] (m ∷ ms) Q s t d = absurd t
derives_same P P' (l ∷ ls) [] Q s t d = absurd t
derives_same P P' (Add c ∷ ls) (Add e ∷ ms) Q s t d =
    let (Q', p, v) = derives_same (P ++ (c ∷ [])) (P' ++ (e ∷ [])) ls ms Q (same_add P P' c e s t.0) t.1 d.1 in
    (Q', (follows_same P P' c e s t.0 d.0, p), v)
derives_same P P' (Add c ∷ ls) (Delete e ∷ ms) Q s t d = absurd t.0
derives_same P P' (Delete c ∷ ls) (Add e ∷ ms) Q s t d = absurd t.0
derives_same P P' (Delete c ∷ ls) (Delete e ∷ ms) Q s t d =
    let (R', k, u) = same_delete P P' c d.0 s d.1 in
    let (Q', p, v) = derives_same d.0 R' ls ms Q u t.1 d.2 in
    (Q', (R', takes_out_same P' c e R' t.0 k, p), v)

same_lines-cut : (front back lines' : List Line) → SameLines (front ++ back) lines' → (front' back' : List Line) × (lines' ≡ front' ++ back')
    × SameLines front front'
same_lines-cut [] back lines' s = ([], lines', refl, tt)
same_lines-cut (l ∷ front) back [] s = absurd s
same_lines-cut (l ∷ front) back (m ∷ ms) s =
    let (f, b, e, t) = same_lines-cut front back ms s.1 in
    (m ∷ f, b, ap (λ z. m ∷ z) e, (s.0, t))

pub refutes_same : (P P' : List Clause) (lines lines' : List Line) → SameClauses P P' → SameLines lines lines' → Refutes P lines → Refutes P' lines'
refutes_same P P' lines lines' s t r =
    let (front, back, Q, e, d, k) = refutes_at P lines r in
    let (front', back', e', t') = same_lines-cut front back lines' (subst (λ l. SameLines l lines') e t) in
    let (Q', d', u) = derives_same P P' front front' Q s t' d in
    refutes_from P' lines' (front', back', Q', e', d', conflicts_same Q Q' [] u k)

-- more clauses before those that are present
pub derives_beside : (more P : List Clause) (lines : List Line) (Q : List Clause) → Derives P lines Q → Derives (more ++ P) lines (more ++ Q)
derives_beside more P [] Q d = ap (λ l. more ++ l) d
derives_beside more P (Add c ∷ ls) Q d = (
  follows_more P (more ++ P) c c (covered_by_more P (more ++ P) (λ x i. ∈-append_right x more P i)) (λ x i. i) d.0,
  subst
      (λ l. Derives l ls (more ++ Q)) (sym (append_assoc more P (c ∷ []))) (derives_beside more (P ++ (c ∷ [])) ls Q d.1),
)
derives_beside more P (Delete c ∷ ls) Q (R, (front, x, back, e, s, f), d) = (
  more ++ R,
  (
    more ++ front,
    x,
    back,
    ap (λ l. more ++ l) e ∙ sym (append_assoc more front (x ∷ back)),
    s,
    ap (λ l. more ++ l) f
        ∙ sym (append_assoc more front back),
  ),
  derives_beside more R ls Q d,
)

pub refutes_beside : (more P : List Clause) (lines : List Line) → Refutes P lines → Refutes (more ++ P) lines
refutes_beside more P lines r =
    let (front, back, Q, e, d, k) = refutes_at P lines r in
    refutes_from (more ++ P) lines (
      front,
      back,
      more ++ Q,
      e,
      derives_beside more P front Q d,
      conflicts_more Q (more ++ Q) [] []
          (covered_by_more Q (more ++ Q) (λ x i. ∈-append_right x more Q i)) (λ x i. i) k,
    )
