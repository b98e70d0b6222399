-- What the entries of a journal lead to.
use Rattle.std.proofs.Common.{◌≡◌, ℕ, ◌+◌, List, [], ◌∷◌, ◌++◌, inl, inr, sym, ap, ◌∙◌, subst, refl, map, append_assoc, arith}
use Rattle.std.proofs.lemmas.List.{map-append, append-nil}
use Rattle.varisat_theory.specs.promises.Literals.{Literal, Clause, Assignment, IsUnit, SatisfiesAll}
use Rattle.varisat_theory.specs.promises.Propagation.{Conflicts, Follows}
use Rattle.varisat_theory.specs.promises.Derivations.{Line, Add, Delete, TakesOut, Refutes, Derives}
use Rattle.varisat_theory.specs.promises.Held.{SameClauses, without}
use Rattle.varisat_theory.specs.promises.Counted.{IsMinor, DerivesBy}
use Rattle.varisat_theory.specs.promises.Journals.{Entry, Accepts, Writes, Assumes, Fails, Retires, Follow, Leads, IsMinorEntry, LeadsBy, accepted_of, lines_of, NoneRetires, written, GoesOn}
use Rattle.varisat_theory.specs.promises.Renaming.{KeepsOpposites, rename, rename_line}
use Rattle.varisat_theory.proofs.clauses.Members.{∈-append_left, ∈-append_right}
use Rattle.varisat_theory.proofs.clauses.Growth.{follows_more, covered_by_more}
use Rattle.varisat_theory.proofs.clauses.Sound.{derives_sound}
use Rattle.varisat_theory.proofs.clauses.Held.{same_set-self, same_clauses-self, same_clauses-back, same_clauses-through, same_add, same_delete, takes_out_unique, follows_same, conflicts_same}
use Rattle.varisat_theory.proofs.journals.HeldRetirements.{same_without, without_less}
use Rattle.varisat_theory.proofs.clauses.Lines.{derives_same, same_lines-self, refutes_from}
use Rattle.varisat_theory.proofs.journals.StepCounts.{minor_same}
use Rattle.varisat_theory.proofs.journals.Renaming.{∈-map, map-∈, map-⊆, takes_out_renamed, follows_renamed}

-- 1. Entries in turn.

pub leads_append : (P : List Clause) (es : List Entry) (Q : List Clause) (fs : List Entry) (R : List Clause) → Leads P es Q → Leads Q fs R →
    Leads P (es ++ fs) R
leads_append P [] Q fs R d e = subst (λ S. Leads S fs R) (sym d) e
leads_append P (x ∷ es) Q fs R (S, n, d) e = (S, n, leads_append S es Q fs R d e)

pub leads_cut : (P : List Clause) (es fs : List Entry) (R : List Clause) → Leads P (es ++ fs) R → (Q : List Clause) × Leads P es Q × Leads Q fs R
leads_cut P [] fs R d = (P, refl, d)
leads_cut P (x ∷ es) fs R (S, n, d) = let (Q, a, b) = leads_cut S es fs R d in (Q, (S, n, a), b)

-- what counts leads
pub by_leads : (n : ℕ) (P : List Clause) (es : List Entry) (Q : List Clause) → LeadsBy n P es Q → Leads P es Q
by_leads n P [] Q d = d
by_leads n P (e ∷ es) Q (R, f, inl (i, d)) = (R, f, by_leads n R es Q d)
by_leads n P (e ∷ es) Q (R, f, inr (m, q, d)) = (R, f, by_leads m R es Q d)

by_grows : (m k : ℕ) (P : List Clause) (es : List Entry) (Q : List Clause) → LeadsBy m P es Q → LeadsBy (k + m) P es Q
by_grows m k P [] Q d = d
by_grows m k P (e ∷ es) Q (R, f, inl (i, d)) = (R, f, inl (i, by_grows m k R es Q d))
by_grows m k P (e ∷ es) Q (R, f, inr (j, q, d)) = (R, f, inr (k + j, omega (arith, q), by_grows j k R es Q d))

pub by_leads_append : (n m : ℕ) (P : List Clause) (es : List Entry) (Q : List Clause) (fs : List Entry) (R : List Clause) → LeadsBy n P es Q →
    LeadsBy m Q fs R → LeadsBy (n + m) P (es ++ fs) R
by_leads_append n m P [] Q fs R d e = let f = subst (λ S. LeadsBy m S fs R) (sym d) e in by_grows m n P fs R f
by_leads_append n m P (x ∷ es) Q fs R (S, f, inl (i, d)) e = (S, f, inl (i, by_leads_append n m S es Q fs R d e))
by_leads_append n m P (x ∷ es) Q fs R (S, f, inr (j, q, d)) e = (S, f, inr (j + m, omega (arith, q), by_leads_append j m S es Q fs R d e))

-- 2. The same clauses.

pub follow_same : (P P' : List Clause) (e : Entry) (Q : List Clause) → SameClauses P P' → Follow P e Q → (Q' : List Clause) × Follow P' e Q' × SameClauses Q Q'
follow_same P P' (Accepts c) Q s q = (P' ++ c ∷ [], refl, subst (λ x. SameClauses x (P' ++ c ∷ [])) (sym q) (same_add P P' c c s (same_set-self c)))
follow_same P P' (Writes (Add c)) Q s (f, q) = (
  P' ++ c ∷ [],
  (follows_same P P' c c s (same_set-self c) f, refl),
  subst (λ x. SameClauses x (P' ++ c ∷ [])) (sym q)
      (same_add P P' c c s (same_set-self c)),
)
follow_same P P' (Writes (Delete c)) Q s t = same_delete P P' c Q s t
follow_same P P' (Assumes a) Q s q = (P', refl, subst (λ x. SameClauses x P') (sym q) s)
follow_same P P' (Fails core) Q s (k, q) = (P', (conflicts_same P P' core s k, refl), subst (λ x. SameClauses x P') (sym q) s)
follow_same P P' (Retires v) Q s q = (without v P', refl, subst (λ x. SameClauses x (without v P')) (sym q) (same_without v P P' s))

pub leads_same : (P P' : List Clause) (es : List Entry) (Q : List Clause) → SameClauses P P' → Leads P es Q → (Q' : List Clause) × Leads P' es Q'
    × SameClauses Q Q'
leads_same P P' [] Q s d = (P', refl, subst (λ x. SameClauses x P') d s)
leads_same P P' (e ∷ es) Q s (R, f, d) =
    let (R', g, t) = follow_same P P' e R s f in
    let (Q', h, u) = leads_same R R' es Q t d in
    (Q', (R', g, h), u)

minor_entry_same : (P P' : List Clause) (e : Entry) → SameClauses P P' → IsMinorEntry P e → IsMinorEntry P' e
minor_entry_same P P' (Accepts c) s i = tt
minor_entry_same P P' (Writes (Add c)) s i = minor_same P P' c s i
minor_entry_same P P' (Writes (Delete c)) s i = tt
minor_entry_same P P' (Assumes a) s i = tt
minor_entry_same P P' (Fails core) s i = tt
minor_entry_same P P' (Retires v) s i = tt

pub by_leads_same : (n : ℕ) (P P' : List Clause) (es : List Entry) (Q : List Clause) → SameClauses P P' → LeadsBy n P es Q → (Q' : List Clause)
    × LeadsBy n P' es Q' × SameClauses Q Q'
by_leads_same n P P' [] Q s d = (P', refl, subst (λ x. SameClauses x P') d s)
by_leads_same n P P' (e ∷ es) Q s (R, f, inl (i, d)) =
    let (R', g, t) = follow_same P P' e R s f in
    let (Q', h, u) = by_leads_same n R R' es Q t d in
    (Q', (R', g, inl (minor_entry_same P P' e s i, h)), u)
by_leads_same n P P' (e ∷ es) Q s (R, f, inr (m, q, d)) =
    let (R', g, t) = follow_same P P' e R s f in
    let (Q', h, u) = by_leads_same m R R' es Q t d in
    (Q', (R', g, inr (m, q, h)), u)

-- 3. Lines alone.

pub written_by : (n : ℕ) (P : List Clause) (lines : List Line) (Q : List Clause) → DerivesBy n P lines Q → LeadsBy n P (written lines) Q
written_by n P [] Q d = d
written_by n P (Add c ∷ lines) Q (f, inl (i, d)) = (P ++ c ∷ [], (f, refl), inl (i, written_by n (P ++ c ∷ []) lines Q d))
written_by n P (Add c ∷ lines) Q (f, inr (m, e, d)) = (P ++ c ∷ [], (f, refl), inr (m, e, written_by m (P ++ c ∷ []) lines Q d))
written_by n P (Delete c ∷ lines) Q (R, t, d) = (R, t, inl (tt, written_by n R lines Q d))

-- 4. Where no variable leaves, the lines are a derivation from all clauses that are accepted.

-- a clause behind others stands in front of them
pub after_all : (R P Q : List Clause) → SameClauses P Q → SameClauses (R ++ P) (R ++ Q)
after_all [] P Q s = s
after_all (c ∷ R) P Q s = (R ++ Q, ([], c, R ++ Q, refl, same_set-self c, refl), after_all R P Q s)

later_in_front : (P Q : List Clause) (c : Clause) → SameClauses ((P ++ c ∷ []) ++ Q) ((P ++ Q) ++ c ∷ [])
later_in_front P Q c =
    subst (λ x. SameClauses x ((P ++ Q) ++ c ∷ [])) (sym (append_assoc P (c ∷ []) Q))
    (subst (SameClauses (P ++ (c ∷ Q))) (sym (append_assoc P Q (c ∷ [])))
    (after_all P (c ∷ Q) (Q ++ c ∷ []) (Q, (Q, c, [], refl, same_set-self c, sym (append-nil Q)), same_clauses-self Q)))

takes_out_before : (P : List Clause) (c : Clause) (R S : List Clause) → TakesOut P c R → TakesOut (P ++ S) c (R ++ S)
takes_out_before P c R S (front, d, back, e, s, f) =
    (front, d, back ++ S, ap (λ l. l ++ S) e ∙ append_assoc front (d ∷ back) S, s, ap (λ l. l ++ S) f ∙ append_assoc front back S)

pub leads_derives : (P : List Clause) (es : List Entry) (Q : List Clause) → NoneRetires es → Leads P es Q → (Q' : List Clause)
    × Derives (P ++ accepted_of es) (lines_of es) Q' × SameClauses Q' Q
leads_derives P [] Q n d = (P ++ [], refl, subst (λ x. SameClauses x Q) (sym (append-nil P)) (subst (SameClauses P) d (same_clauses-self P)))
leads_derives P (Accepts c ∷ es) Q n (R, q, d) =
    let r = leads_derives (P ++ c ∷ []) es Q n (subst (λ x. Leads x es Q) q d) in
    (r.0, subst (λ x. Derives x (lines_of es) r.0) (append_assoc P (c ∷ []) (accepted_of es)) r.1, r.2)
leads_derives P (Writes (Add c) ∷ es) Q n (R, (f, q), d) =
    let (S, e, s) = leads_derives (P ++ c ∷ []) es Q n (subst (λ x. Leads x es Q) q d) in
    let all = P ++ accepted_of es in
    let (S', e', t) = derives_same ((P ++ c ∷ []) ++ accepted_of es) (all ++ c ∷ []) (lines_of es) (lines_of es) S
    (later_in_front P (accepted_of es) c) (same_lines-self (lines_of es)) e in (
      S',
      (follows_more P all c c (covered_by_more P all (λ x h. ∈-append_left x P (accepted_of es) h)) (λ x h. h) f, e'),
      same_clauses-through S' S
          Q (same_clauses-back S S' t) s,
    )
leads_derives P (Writes (Delete c) ∷ es) Q n (R, t, d) =
    let (S, e, s) = leads_derives R es Q n d in
    (S, (R ++ accepted_of es, takes_out_before P c R (accepted_of es) t, e), s)
leads_derives P (Assumes a ∷ es) Q n (R, q, d) = leads_derives P es Q n (subst (λ x. Leads x es Q) q d)
leads_derives P (Fails core ∷ es) Q n (R, (k, q), d) = leads_derives P es Q n (subst (λ x. Leads x es Q) q d)
leads_derives P (Retires v ∷ es) Q n d = absurd n

pub leads_refutes : (P : List Clause) (es : List Entry) (Q : List Clause) → NoneRetires es → Leads P es Q → Conflicts Q [] →
    Refutes (P ++ accepted_of es) (lines_of es)
leads_refutes P es Q n d k =
    let (S, e, s) = leads_derives P es Q n d in
    refutes_from (P ++ accepted_of es) (lines_of es) (lines_of es, [], S, sym (append-nil (lines_of es)), e, conflicts_same Q S [] (same_clauses-back S Q s) k)

-- 5. What satisfies the accepted clauses satisfies what is held.

satisfies_both : (a : Assignment) (P : List Clause) (c : Clause) (Q : List Clause) → SatisfiesAll a P → SatisfiesAll a (c ∷ Q) → SatisfiesAll a (P ++ c ∷ [])
satisfies_both a [] c Q m n d (inl e) = n d (inl e)
satisfies_both a [] c Q m n d (inr h) = absurd h
satisfies_both a (p ∷ P) c Q m n d (inl e) = m d (inl e)
satisfies_both a (p ∷ P) c Q m n d (inr h) = satisfies_both a P c Q (λ x i. m x (inr i)) n d h

pub leads_sound : (P : List Clause) (es : List Entry) (Q : List Clause) (a : Assignment) → Leads P es Q → SatisfiesAll a P →
    SatisfiesAll a (accepted_of es) → SatisfiesAll a Q
leads_sound P [] Q a d m n = subst (SatisfiesAll a) d m
leads_sound P (Accepts c ∷ es) Q a (R, q, d) m n = leads_sound R es Q a d
    (subst (SatisfiesAll a) (sym q) (satisfies_both a P c (accepted_of es) m n)) (λ x i. n x (inr i))
leads_sound P (Writes (Add c) ∷ es) Q a (R, (f, q), d) m n = leads_sound R es Q a d (derives_sound P (Add c ∷ []) R a (f, sym q) m) n
leads_sound P (Writes (Delete c) ∷ es) Q a (R, t, d) m n = leads_sound R es Q a d (derives_sound P (Delete c ∷ []) R a (R, t, refl) m) n
leads_sound P (Assumes b ∷ es) Q a (R, q, d) m n = leads_sound R es Q a d (subst (SatisfiesAll a) (sym q) m) n
leads_sound P (Fails core ∷ es) Q a (R, (k, q), d) m n = leads_sound R es Q a d (subst (SatisfiesAll a) (sym q) m) n
leads_sound P (Retires v ∷ es) Q a (R, q, d) m n = leads_sound R es Q a d (subst (SatisfiesAll a) (sym q) (λ x i. m x (without_less v P x i))) n

-- 6. What is held is determined, but for order and spelling.

follow_unique : (P P' : List Clause) (e : Entry) (Q Q' : List Clause) → SameClauses P P' → Follow P e Q → Follow P' e Q' → SameClauses Q Q'
follow_unique P P' (Accepts c) Q Q' s f g = subst (λ x. SameClauses x Q') (sym f)
    (subst (SameClauses (P ++ c ∷ [])) (sym g) (same_add P P' c c s (same_set-self c)))
follow_unique P P' (Writes (Add c)) Q Q' s f g = subst (λ x. SameClauses x Q') (sym f.1)
    (subst (SameClauses (P ++ c ∷ [])) (sym g.1) (same_add P P' c c s (same_set-self c)))
follow_unique P P' (Writes (Delete c)) Q Q' s f g = takes_out_unique P P' c Q Q' s f g
follow_unique P P' (Assumes a) Q Q' s f g = subst (λ x. SameClauses x Q') (sym f) (subst (SameClauses P) (sym g) s)
follow_unique P P' (Fails core) Q Q' s f g = subst (λ x. SameClauses x Q') (sym f.1) (subst (SameClauses P) (sym g.1) s)
follow_unique P P' (Retires v) Q Q' s f g = subst (λ x. SameClauses x Q') (sym f) (subst (SameClauses (without v P)) (sym g) (same_without v P P' s))

pub leads_unique : (P P' : List Clause) (es : List Entry) (Q Q' : List Clause) → SameClauses P P' → Leads P es Q → Leads P' es Q' → SameClauses Q Q'
leads_unique P P' [] Q Q' s d e = subst (λ x. SameClauses x Q') d (subst (SameClauses P) e s)
leads_unique P P' (x ∷ es) Q Q' s (R, f, d) (R', g, e) = leads_unique R R' es Q Q' (follow_unique P P' x R R' s f g) d e

-- entries that lead on from one list that is held do so from each
pub goes_on : (n : ℕ) (logged es : List Entry) (held after : List Clause) → Leads [] logged held → LeadsBy n held es after → GoesOn n logged es
goes_on n logged es held after d e other f =
    let (Q, g, _) = by_leads_same n held other es after (leads_unique [] [] logged held other refl d f) e in
    (Q, g)

-- and in turn
pub goes_on_further : (n m : ℕ) (logged es fs : List Entry) → GoesOn n logged es → GoesOn m (logged ++ es) fs → GoesOn (n + m) logged (es ++ fs)
goes_on_further n m logged es fs g h held d =
    let (mid, a) = g held d in
    let (last, b) = h mid (leads_append [] logged held es mid d (by_leads n held es mid a)) in
    (last, by_leads_append n m held es mid fs last a b)

-- 7. Lines under new names, beside more clauses.

pub unit_renamed : (f : Literal → Literal) (l : Literal) (c : Clause) → IsUnit l c → IsUnit (f l) (map f c)
unit_renamed f l c u = (∈-map f l c u.0, λ m h. let (k, i, e) = map-∈ f m c h in e ∙ ap f (u.1 k i))

minor_renamed : (f : Literal → Literal) (P : List Clause) (c : Clause) → IsMinor P c → IsMinor (rename f P) (map f c)
minor_renamed f P c (inl (l, u)) = inl (f l, unit_renamed f l c u)
minor_renamed f P c (inr (d, h, i)) = inr (map f d, ∈-map (map f) d P h, map-⊆ f c d i)

pub by_renamed : (f : Literal → Literal) → KeepsOpposites f → (n : ℕ) (P : List Clause) (lines : List Line) (Q : List Clause) →
    DerivesBy n P lines Q → DerivesBy n (rename f P) (map (rename_line f) lines) (rename f Q)
by_renamed f w n P [] Q d = ap (rename f) d
by_renamed f w n P (Add c ∷ lines) Q (k, inl (i, d)) = (
  follows_renamed f w P c k,
  inl (
    minor_renamed f P c i,
    subst (λ S. DerivesBy n S (map (rename_line f) lines) (rename f Q)) (map-append (map f) P (c ∷ []))
        (by_renamed f w n (P ++ c ∷ []) lines Q d),
  ),
)
by_renamed f w n P (Add c ∷ lines) Q (k, inr (m, e, d)) = (
  follows_renamed f w P c k,
  inr
      (m, e, subst (λ S. DerivesBy m S (map (rename_line f) lines) (rename f Q)) (map-append (map f) P (c ∷ [])) (by_renamed f w m (P ++ c ∷ []) lines Q d)),
)
by_renamed f w n P (Delete c ∷ lines) Q (R, t, d) = (rename f R, takes_out_renamed f P c R t, by_renamed f w n R lines Q d)

minor_more : (more P : List Clause) (c : Clause) → IsMinor P c → IsMinor (more ++ P) c
minor_more more P c (inl u) = inl u
minor_more more P c (inr (d, h, i)) = inr (d, ∈-append_right d more P h, i)

follows_beside : (more P : List Clause) (c : Clause) → Follows P c → Follows (more ++ P) c
follows_beside more P c f = follows_more P (more ++ P) c c (covered_by_more P (more ++ P) (λ x i. ∈-append_right x more P i)) (λ x i. i) f

pub by_beside : (more : List Clause) (n : ℕ) (P : List Clause) (lines : List Line) (Q : List Clause) → DerivesBy n P lines Q →
    DerivesBy n (more ++ P) lines (more ++ Q)
by_beside more n P [] Q d = ap (λ l. more ++ l) d
by_beside more n P (Add c ∷ ls) Q (f, inl (i, d)) = (
  follows_beside more P c f,
  inl
      (minor_more more P c i, subst (λ l. DerivesBy n l ls (more ++ Q)) (sym (append_assoc more P (c ∷ []))) (by_beside more n (P ++ (c ∷ [])) ls Q d)),
)
by_beside more n P (Add c ∷ ls) Q (f, inr (m, e, d)) = (
  follows_beside more P c f,
  inr
      (m, e, subst (λ l. DerivesBy m l ls (more ++ Q)) (sym (append_assoc more P (c ∷ []))) (by_beside more m (P ++ (c ∷ [])) ls Q d)),
)
by_beside more n P (Delete c ∷ ls) Q (R, (front, x, back, e, s, f), d) = (
  more ++ R,
  (
    more ++ front,
    x,
    back,
    ap (λ l. more ++ l) e ∙ sym (append_assoc more front (x ∷ back)),
    s,
    ap (λ l. more ++ l) f
        ∙ sym (append_assoc more front back),
  ),
  by_beside more n R ls Q d,
)

-- 8. Parts of a journal.

pub accepted_append : (es fs : List Entry) → accepted_of (es ++ fs) ≡ accepted_of es ++ accepted_of fs
accepted_append [] fs = refl
accepted_append (Accepts c ∷ es) fs = ap (λ l. c ∷ l) (accepted_append es fs)
accepted_append (Writes l ∷ es) fs = accepted_append es fs
accepted_append (Assumes a ∷ es) fs = accepted_append es fs
accepted_append (Fails core ∷ es) fs = accepted_append es fs
accepted_append (Retires v ∷ es) fs = accepted_append es fs

pub lines_append : (es fs : List Entry) → lines_of (es ++ fs) ≡ lines_of es ++ lines_of fs
lines_append [] fs = refl
lines_append (Accepts c ∷ es) fs = lines_append es fs
lines_append (Writes l ∷ es) fs = ap (λ ls. l ∷ ls) (lines_append es fs)
lines_append (Assumes a ∷ es) fs = lines_append es fs
lines_append (Fails core ∷ es) fs = lines_append es fs
lines_append (Retires v ∷ es) fs = lines_append es fs

pub stays_append : (es fs : List Entry) → NoneRetires es → NoneRetires fs → NoneRetires (es ++ fs)
stays_append [] fs a b = b
stays_append (Accepts c ∷ es) fs a b = stays_append es fs a b
stays_append (Writes l ∷ es) fs a b = stays_append es fs a b
stays_append (Assumes c ∷ es) fs a b = stays_append es fs a b
stays_append (Fails core ∷ es) fs a b = stays_append es fs a b
stays_append (Retires v ∷ es) fs a b = absurd a

pub written_accepts : (lines : List Line) → accepted_of (written lines) ≡ []
written_accepts [] = refl
written_accepts (l ∷ lines) = written_accepts lines

pub written_lines : (lines : List Line) → lines_of (written lines) ≡ lines
written_lines [] = refl
written_lines (l ∷ lines) = ap (λ ls. l ∷ ls) (written_lines lines)

pub written_stays : (lines : List Line) → NoneRetires (written lines)
written_stays [] = tt
written_stays (l ∷ lines) = written_stays lines
