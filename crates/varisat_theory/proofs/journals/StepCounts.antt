-- Derivations that count.
use Rattle.std.proofs.Common.{ℕ, ◌+◌, List, [], ◌∷◌, ◌++◌, inl, inr, sym, ap, ◌∙◌, subst, refl, append_assoc, arith}
use Rattle.varisat_theory.specs.promises.Literals.{Clause}
use Rattle.varisat_theory.specs.promises.Derivations.{Line, Add, Delete, IsPresentAfter, Derives}
use Rattle.varisat_theory.specs.promises.Held.{SameClauses}
use Rattle.varisat_theory.proofs.clauses.Members.{∈-append_left}
use Rattle.varisat_theory.proofs.clauses.Held.{same_set-self, same_add, same_delete, same_clauses_find, same_clauses-back, follows_same}
use Rattle.varisat_theory.specs.promises.Counted.{IsMinor, IsNew, IsAmong, DerivesBy, AddsNew, DeletesNone}

-- what counts is a derivation
pub by_derives : (n : ℕ) (P : List Clause) (lines : List Line) (Q : List Clause) → DerivesBy n P lines Q → Derives P lines Q
by_derives n P [] Q d = d
by_derives n P (Add c ∷ lines) Q (f, inl (m, d)) = (f, by_derives n (P ++ c ∷ []) lines Q d)
by_derives n P (Add c ∷ lines) Q (f, inr (m, e, d)) = (f, by_derives m (P ++ c ∷ []) lines Q d)
by_derives n P (Delete c ∷ lines) Q (R, t, d) = (R, t, by_derives n R lines Q d)

pub by_append : (n m : ℕ) (P : List Clause) (lines : List Line) (Q : List Clause) (more : List Line) (R : List Clause) → DerivesBy n P lines Q →
    DerivesBy m Q more R → DerivesBy (n + m) P (lines ++ more) R
by_append n m P [] Q more R d e = let f = subst (λ S. DerivesBy m S more R) (sym d) e in by_more m n P more R f
  where
    by_more : (m k : ℕ) (P : List Clause) (lines : List Line) (Q : List Clause) → DerivesBy m P lines Q → DerivesBy (k + m) P lines Q
    by_more m k P [] Q d = d
    by_more m k P (Add c ∷ lines) Q (f, inl (i, d)) = (f, inl (i, by_more m k (P ++ c ∷ []) lines Q d))
    by_more m k P (Add c ∷ lines) Q (f, inr (j, e, d)) = (f, inr (k + j, omega (arith, e), by_more j k (P ++ c ∷ []) lines Q d))
    by_more m k P (Delete c ∷ lines) Q (S, t, d) = (S, t, by_more m k S lines Q d)
by_append n m P (Add c ∷ lines) Q more R (f, inl (i, d)) e = (f, inl (i, by_append n m (P ++ c ∷ []) lines Q more R d e))
by_append n m P (Add c ∷ lines) Q more R (f, inr (j, g, d)) e = (f, inr (j + m, omega (arith, g), by_append j m (P ++ c ∷ []) lines Q more R d e))
by_append n m P (Delete c ∷ lines) Q more R (S, t, d) e = (S, t, by_append n m S lines Q more R d e)

pub minor_same : (P Q : List Clause) (c : Clause) → SameClauses P Q → IsMinor P c → IsMinor Q c
minor_same P Q c s (inl u) = inl u
minor_same P Q c s (inr (d, h, i)) = let (e, j, t) = same_clauses_find P Q s d h in inr (e, j, λ x k. t.1 x (i x k))

pub new_same : (P Q : List Clause) (c : Clause) → SameClauses P Q → IsNew P c → IsNew Q c
new_same P Q c s (a, n) = (a, λ d h i. let (e, j, t) = same_clauses_find Q P (same_clauses-back P Q s) d h in n e j (λ x k. i x (t.0 x k)))

pub among_same : (P Q : List Clause) (c : Clause) → SameClauses P Q → IsAmong P c → IsAmong Q c
among_same P Q c s (d, h, i) = let (e, k, t) = same_clauses_find P Q s d h in (e, k, (λ x o. i.0 x (t.0 x o), λ x o. t.1 x (i.1 x o)))

-- the same lines from the same clauses
pub by_same : (n : ℕ) (P P' : List Clause) (lines : List Line) (Q : List Clause) → SameClauses P P' → DerivesBy n P lines Q → (Q' : List Clause)
    × DerivesBy n P' lines Q' × SameClauses Q Q'
by_same n P P' [] Q s d = (P', refl, subst (λ l. SameClauses l P') d s)
by_same n P P' (Add c ∷ lines) Q s (f, inl (i, d)) =
    let (Q', p, v) = by_same n (P ++ c ∷ []) (P' ++ c ∷ []) lines Q (same_add P P' c c s (same_set-self c)) d in
    (Q', (follows_same P P' c c s (same_set-self c) f, inl (minor_same P P' c s i, p)), v)
by_same n P P' (Add c ∷ lines) Q s (f, inr (m, e, d)) =
    let (Q', p, v) = by_same m (P ++ c ∷ []) (P' ++ c ∷ []) lines Q (same_add P P' c c s (same_set-self c)) d in
    (Q', (follows_same P P' c c s (same_set-self c) f, inr (m, e, p)), v)
by_same n P P' (Delete c ∷ lines) Q s (R, t, d) =
    let (R', k, u) = same_delete P P' c R s t in
    let (Q', p, v) = by_same n R R' lines Q u d in
    (Q', (R', k, p), v)

pub present_append : (P : List Clause) (lines : List Line) (Q : List Clause) (more : List Line) (R : List Clause) → Derives P lines Q →
    IsPresentAfter Q more R → IsPresentAfter P (lines ++ more) R
present_append P [] Q more R d e = subst (λ S. IsPresentAfter S more R) (sym d) e
present_append P (Add c ∷ lines) Q more R d e = present_append (P ++ c ∷ []) lines Q more R d.1 e
present_append P (Delete c ∷ lines) Q more R d e = (d.0, d.1, present_append d.0 lines Q more R d.2 e)

-- where lines delete nothing, what was there stays
stays_present : (P : List Clause) (lines : List Line) (Q : List Clause) (c : Clause) → DeletesNone lines → IsPresentAfter P lines Q → IsAmong P c →
    IsAmong Q c
stays_present P [] Q c n e a = subst (λ S. IsAmong S c) e a
stays_present P (Add d ∷ lines) Q c n e (x, h, i) = stays_present (P ++ d ∷ []) lines Q c n e (x, ∈-append_left x P (d ∷ []) h, i)
stays_present P (Delete d ∷ lines) Q c n e a = absurd n

-- such lines come after any clauses
present_after : (P : List Clause) (lines : List Line) → DeletesNone lines → (Q : List Clause) × IsPresentAfter P lines Q
present_after P [] n = (P, refl)
present_after P (Add c ∷ lines) n = present_after (P ++ c ∷ []) lines n
present_after P (Delete c ∷ lines) n = absurd n

present_on : (P : List Clause) (lines : List Line) (Q : List Clause) (more : List Line) (R : List Clause) → IsPresentAfter P lines Q →
    IsPresentAfter Q more R → IsPresentAfter P (lines ++ more) R
present_on P [] Q more R d e = subst (λ S. IsPresentAfter S more R) (sym d) e
present_on P (Add c ∷ lines) Q more R d e = present_on (P ++ c ∷ []) lines Q more R d e
present_on P (Delete c ∷ lines) Q more R d e = (d.0, d.1, present_on d.0 lines Q more R d.2 e)

-- a new clause stays new, and stays, where lines come behind it that delete nothing
pub new_before : (P : List Clause) (lines more : List Line) → DeletesNone more → AddsNew P lines → AddsNew P (lines ++ more)
new_before P lines more none n =
    let (Q, e) = present_after n.after more none in
    record {
      front = n.front;
      clause = n.clause;
      back = n.back ++ more;
      before = n.before;
      after = Q;
      split = ap (λ l. l ++ more) n.split ∙ append_assoc n.front (Add n.clause ∷ n.back) more;
      is_before = n.is_before;
      is_new = n.is_new;
      is_after = present_on (n.before ++ n.clause ∷ []) n.back n.after more Q n.is_after e;
      stays = stays_present n.after more Q n.clause none e n.stays;
    }

-- and is new behind the lines that led to what is present before it
pub new_after : (P : List Clause) (lines : List Line) (Q : List Clause) (more : List Line) →
    Derives P lines Q →
    AddsNew Q more →
    AddsNew P (lines ++ more)
new_after P lines Q more d n = record {
  front = lines ++ n.front;
  clause = n.clause;
  back = n.back;
  before = n.before;
  after = n.after;
  split = ap (λ l. lines ++ l) n.split ∙ sym (append_assoc lines n.front (Add n.clause ∷ n.back));
  is_before = present_append P lines Q n.front n.before d n.is_before;
  is_new = n.is_new;
  is_after = n.is_after;
  stays = n.stays;
}
