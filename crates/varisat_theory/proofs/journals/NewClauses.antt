-- Entries that add new clauses.
use Rattle.std.proofs.Common.{◌≡◌, ℕ, zero, suc, ◌+◌, ◌≤◌, List, [], ◌∷◌, ◌++◌, inl, inr, ⊎_elim, sym, ap, ◌∙◌, subst, refl, map, append_assoc, arith}
use Rattle.std.proofs.lemmas.List.{map-append, append-nil}
use Rattle.varisat_theory.specs.promises.Membership.{◌∈◌, ◌⊆◌}
use Rattle.varisat_theory.specs.promises.Literals.{Literal, Clause, opposite}
use Rattle.varisat_theory.specs.promises.Derivations.{Line, Add, Delete, TakesOut, IsPresentAfter, SpeakOf}
use Rattle.varisat_theory.specs.promises.Held.{SameClauses}
use Rattle.varisat_theory.specs.promises.Counted.{IsNew, IsAmong, DerivesBy, AddsNew, AddsManyNew, added}
use Rattle.varisat_theory.specs.promises.Journals.{Entry, Writes, Leads, LeadsBy, lines_of, written, GoesOn}
use Rattle.varisat_theory.specs.promises.NewClauses.{LeadsToNew, LeadsAdding, GoesOnAdding}
use Rattle.varisat_theory.specs.promises.Renaming.{KeepsOpposites, rename, rename_line}
use Rattle.varisat_theory.proofs.clauses.Members.{∈-append_left, ∈-append_right, ∈-append_cases}
use Rattle.varisat_theory.specs.promises.Searches.{Search, IsTautology, IsDischarged, Fits}
use Rattle.varisat_theory.proofs.clauses.Held.{same_set-self, same_clauses-self, same_clauses-back, same_clauses_find, takes_out_unique}
use Rattle.varisat_theory.proofs.steps.SearchFits.{fits_same}
use Rattle.varisat_theory.proofs.steps.StepEnds.{fits_discharged}
use Rattle.varisat_theory.proofs.steps.StepAccounts.{added_append}
use Rattle.varisat_theory.proofs.journals.Renaming.{∈-map, map-∈, map-⊆}
use Rattle.varisat_theory.proofs.clauses.Lines.{present_unique, derives_present}
use Rattle.varisat_theory.proofs.journals.StepCounts.{by_derives, new_same, among_same}
use Rattle.varisat_theory.proofs.journals.Journals.{leads_append, leads_same, by_leads, leads_unique, lines_append, written_by, by_renamed, by_beside}
use Rattle.varisat_theory.proofs.clauses.Sound.{takes_less}

-- 1. What new clauses add up to.

to_new_leads : (P : List Clause) (es : List Entry) (Q : List Clause) → LeadsToNew P es Q → Leads P es Q
to_new_leads P es Q n = subst (λ xs. Leads P xs Q) (sym n.split) (leads_append P n.front n.before (Writes (Add n.clause) ∷ n.back) Q n.leads n.on)

pub adding_leads : (k : ℕ) (P : List Clause) (es : List Entry) (Q : List Clause) → LeadsAdding k P es Q → Leads P es Q
adding_leads zero P es Q d = d
adding_leads (suc k) P es Q (first, last, R, e, a, n) =
    subst (λ xs. Leads P xs Q) (sym e) (leads_append P first R last Q (adding_leads k P first R a) (to_new_leads R last Q n))

-- entries before the one that adds it
to_new_after : (P : List Clause) (first : List Entry) (Q : List Clause) (last : List Entry) (R : List Clause) → Leads P first Q →
    LeadsToNew Q last R → LeadsToNew P (first ++ last) R
to_new_after P first Q last R d n = record {
  front = first ++ n.front;
  clause = n.clause;
  back = n.back;
  before = n.before;
  split = ap (λ xs. first ++ xs) n.split ∙ sym (append_assoc first n.front (Writes (Add n.clause) ∷ n.back));
  leads = leads_append P first Q n.front n.before d n.leads;
  is_new = n.is_new;
  on = n.on;
  stays = n.stays;
}

-- the first of the parts that come after may have more entries before it
pub adding_append : (k m : ℕ) (P : List Clause) (es : List Entry) (Q : List Clause) (fs : List Entry) (R : List Clause) → LeadsAdding k P es Q →
    LeadsAdding (suc m) Q fs R → LeadsAdding (k + suc m) P (es ++ fs) R
adding_append k zero P es Q fs R a (first, last, S, e, d, n) =
    let sum : suc k ≡ k + 1 = omega arith in
    let new = subst (λ xs. LeadsToNew Q xs R) (sym e) (to_new_after Q first S last R d n) in
    subst (λ j. LeadsAdding j P (es ++ fs) R) sum (es, fs, Q, refl, a, new)
adding_append k (suc m) P es Q fs R a (first, last, S, e, d, n) =
    let sum : suc (k + suc m) ≡ k + suc (suc m) = omega arith in
    let split : es ++ fs ≡ (es ++ first) ++ last = ap (λ xs. es ++ xs) e ∙ sym (append_assoc es first last) in
    subst (λ j. LeadsAdding j P (es ++ fs) R) sum (es ++ first, last, S, split, adding_append k m P es Q first S a d, n)

pub to_new_same : (P P' : List Clause) (es : List Entry) (Q : List Clause) → SameClauses P P' → LeadsToNew P es Q → (Q' : List Clause)
    × LeadsToNew P' es Q' × SameClauses Q Q'
to_new_same P P' es Q s n =
    let (R, d, t) = leads_same P P' n.front n.before s n.leads in
    let (Q', e, u) = leads_same n.before R (Writes (Add n.clause) ∷ n.back) Q t n.on in (
      Q',
      record {
        front = n.front;
        clause = n.clause;
        back = n.back;
        before = R;
        split = n.split;
        leads = d;
        is_new = new_same n.before R n.clause t n.is_new;
        on = e;
        stays = among_same Q Q' n.clause u n.stays;
      },
      u,
    )

pub adding_same : (k : ℕ) (P P' : List Clause) (es : List Entry) (Q : List Clause) → SameClauses P P' → LeadsAdding k P es Q → (Q' : List Clause)
    × LeadsAdding k P' es Q' × SameClauses Q Q'
adding_same zero P P' es Q s d = leads_same P P' es Q s d
adding_same (suc k) P P' es Q s (first, last, R, e, a, n) =
    let (R', b, t) = adding_same k P P' first R s a in
    let (Q', m, u) = to_new_same R R' last Q t n in
    (Q', (first, last, R', e, b, m), u)

-- many new clauses are many added ones
to_new_adds : (P : List Clause) (es : List Entry) (Q : List Clause) → LeadsToNew P es Q → 1 ≤ added (lines_of es)
to_new_adds P es Q n =
    let g = ap (λ xs. added (lines_of xs)) n.split in
    let h = ap added (lines_append n.front (Writes (Add n.clause) ∷ n.back)) in
    let i = added_append (lines_of n.front) (Add n.clause ∷ lines_of n.back) in
    omega (arith, g, h, i)

pub adding_adds : (k : ℕ) (P : List Clause) (es : List Entry) (Q : List Clause) → LeadsAdding k P es Q → k ≤ added (lines_of es)
adding_adds zero P es Q d = omega arith
adding_adds (suc k) P es Q (first, last, R, e, a, n) =
    let g = ap (λ xs. added (lines_of xs)) e in
    let h = ap added (lines_append first last) in
    let i = added_append (lines_of first) (lines_of last) in
    let j = adding_adds k P first R a in
    let l = to_new_adds R last Q n in
    omega (arith, g, h, i, j, l)

abbrev tail_of : List Entry → List Entry
tail_of [] = []
tail_of (e ∷ es) = es

abbrev clause_of : List Entry → Clause
clause_of (Writes (Add c) ∷ es) = c
clause_of _ = []

-- where the first entry alone adds a clause by a line, that one is new
new_first : (P : List Clause) (c : Clause) (more : List Entry) (Q : List Clause) (front : List Entry) (d : Clause) (back : List Entry)
    (before : List Clause) → added (lines_of more) ≡ 0 → Writes (Add c) ∷ more ≡ front ++ (Writes (Add d) ∷ back) → Leads P front before →
    IsNew before d → IsAmong Q d → IsNew P c × IsAmong Q c
new_first P c more Q [] d back before z s l n i =
    let e : c ≡ d = ap clause_of s in
    (subst (λ X. IsNew X c) (sym l) (subst (IsNew before) (sym e) n), subst (IsAmong Q) (sym e) i)
new_first P c more Q (x ∷ front) d back before z s l n i =
    let g = ap (λ xs. added (lines_of (tail_of xs))) s in
    let h = ap added (lines_append front (Writes (Add d) ∷ back)) in
    let j = added_append (lines_of front) (Add d ∷ lines_of back) in
    absurd (omega (arith, z, g, h, j))

one_adds : (P : List Clause) (c : Clause) (more : List Entry) (Q : List Clause) → added (lines_of more) ≡ 0 →
    LeadsAdding 1 P (Writes (Add c) ∷ more) Q → IsNew P c × IsAmong Q c
one_adds P c more Q z (first, last, R, e, d, n) =
    let m = to_new_after P first R last Q d n in
    new_first P c more Q m.front m.clause m.back m.before z (e ∙ m.split) m.leads m.is_new m.stays

-- a clause that is held already is not new
pub copy_adds_none : (P : List Clause) (c : Clause) (Q : List Clause) → c ∈ P → LeadsAdding 1 P (Writes (Add c) ∷ []) Q → ⊥
copy_adds_none P c Q h a = let (n, i) = one_adds P c [] Q refl a in n.1 c h (λ l i. i)

-- nor is a tautology
pub tautology_adds_none : (P : List Clause) (c : Clause) (Q : List Clause) → IsTautology c → LeadsAdding 1 P (Writes (Add c) ∷ []) Q → ⊥
tautology_adds_none P c Q t a = let (n, i) = one_adds P c [] Q refl a in n.0 t

-- and none that is deleted at once is held then
pub blank_adds_none : (P : List Clause) (c : Clause) (Q : List Clause) → LeadsAdding 1 P (Writes (Add c) ∷ Writes (Delete c) ∷ []) Q → ⊥
blank_adds_none P c Q a =
    let (n, (d, h, i)) = one_adds P c (Writes (Delete c) ∷ []) Q refl a in
    let (R, (f, r), (S, t, q)) = adding_leads 1 P (Writes (Add c) ∷ Writes (Delete c) ∷ []) Q a in
    let back : TakesOut (P ++ c ∷ []) c P = (P, c, [], refl, same_set-self c, sym (append-nil P)) in
    let same = takes_out_unique (P ++ c ∷ []) (P ++ c ∷ []) c S P (same_clauses-self (P ++ c ∷ [])) (subst (λ X. TakesOut X c S) r t) back in
    let (e, j, k) = same_clauses_find S P same d (subst (λ X. d ∈ X) (sym q) h) in
    n.1 e j (λ x o. i.0 x (k.0 x o))

-- 2. Entries that go on.

-- what is logged leads to the same clauses, whichever of them stand for it
pub goes_adding : (k : ℕ) (logged es : List Entry) (held after : List Clause) → Leads [] logged held → LeadsAdding k held es after → GoesOnAdding k logged es
goes_adding k logged es held after d a other f =
    let (Q, g, _) = adding_same k held other es after (leads_unique [] [] logged held other refl d f) a in
    (Q, g)

pub goes_adding_none : (n : ℕ) (logged es : List Entry) → GoesOn n logged es → GoesOnAdding 0 logged es
goes_adding_none n logged es g held d = let (after, a) = g held d in (after, by_leads n held es after a)

-- steps may follow whatever came before them, and what is no step only what is none
pub goes_adding_further : (k m : ℕ) (logged es fs : List Entry) → (m ≡ 0 → k ≡ 0) → GoesOnAdding k logged es → GoesOnAdding m (logged ++ es) fs →
    GoesOnAdding (k + m) logged (es ++ fs)
goes_adding_further k zero logged es fs z g h held d =
    let (mid, a) = g held d in
    let (last, b) = h mid (leads_append [] logged held es mid d (adding_leads k held es mid a)) in
    let none : 0 ≡ k + 0 = let e = z refl in omega (arith, e) in
    (last, subst (λ j. LeadsAdding j held (es ++ fs) last) none (leads_append held es mid fs last (adding_leads k held es mid a) b))
goes_adding_further k (suc m) logged es fs z g h held d =
    let (mid, a) = g held d in
    let (last, b) = h mid (leads_append [] logged held es mid d (adding_leads k held es mid a)) in
    (last, adding_append k m held es mid fs last a b)

-- 3. Clauses that say nothing more, beside what fits a search.

pub fits_more : (s : Search) (held C : List Clause) → ((c : Clause) → c ∈ C → IsDischarged s c) → Fits held s → Fits (C ++ held) s
fits_more s held [] g f = f
fits_more s held (c ∷ C) g f =
    let all = C ++ held in
    let first : SameClauses (c ∷ all) (all ++ c ∷ []) = (all, (all, c, [], refl, same_set-self c, sym (append-nil all)), same_clauses-self all) in
    fits_same (all ++ c ∷ []) (c ∷ all) s (same_clauses-back (c ∷ all) (all ++ c ∷ []) first)
    (fits_discharged s all c (g c (inl refl)) (fits_more s held C (λ d h. g d (inr h)) f))

-- 4. Lines that add new clauses, under other names and beside other clauses.

by_cut : (n : ℕ) (P : List Clause) (lines more : List Line) (R : List Clause) → DerivesBy n P (lines ++ more) R → (Q : List Clause) × (k m : ℕ)
    × DerivesBy k P lines Q × DerivesBy m Q more R
by_cut n P [] more R d = (P, 0, n, refl, d)
by_cut n P (Add c ∷ lines) more R (f, inl (i, d)) = let (Q, k, m, a, b) = by_cut n (P ++ c ∷ []) lines more R d in (Q, k, m, (f, inl (i, a)), b)
by_cut n P (Add c ∷ lines) more R (f, inr (j, e, d)) = let (Q, k, m, a, b) = by_cut j (P ++ c ∷ []) lines more R d in (Q, suc k, m, (f, inr (k, refl, a)), b)
by_cut n P (Delete c ∷ lines) more R (S, t, d) = let (Q, k, m, a, b) = by_cut n S lines more R d in (Q, k, m, (S, t, a), b)

-- `are` holds of each literal of the clauses
abbrev pub AreOver : (Literal → Type 0) → List Clause → Type 0
AreOver are P = (c : Clause) (l : Literal) → c ∈ P → l ∈ c → are l

-- The clauses after lines have literals of those before and of the lines alone.
pub over_after : (n : ℕ) (are : Literal → Type 0) (P : List Clause) (lines : List Line) (Q : List Clause) → DerivesBy n P lines Q → AreOver are P →
    SpeakOf are lines → AreOver are Q
over_after n are P [] Q e f w = subst (AreOver are) e f
over_after n are P (Add c ∷ lines) Q (g, d) f (a, w) =
    let more : AreOver are (P ++ c ∷ []) = λ x l h i. ⊎_elim (λ z. f x l z i) (λ z. ⊎_elim (λ q. a l (subst (λ y. l ∈ y) q i)) (λ o. absurd o) z)
    (∈-append_cases x P (c ∷ []) h) in
    ⊎_elim
    (λ (m, y). over_after n are (P ++ c ∷ []) lines Q y more w)
    (λ (m, o, y). over_after m are (P ++ c ∷ []) lines Q y more w)
    d
over_after n are P (Delete c ∷ lines) Q (R, out, d) f (a, w) = over_after n are R lines Q d (λ x l h i. f x l (takes_less P c R out x h) i) w

spoken_cut : (are : Literal → Type 0) (first second : List Line) → SpeakOf are (first ++ second) → SpeakOf are first × SpeakOf are second
spoken_cut are [] second p = (tt, p)
spoken_cut are (Add c ∷ first) second (f, p) = let (a, b) = spoken_cut are first second p in ((f, a), b)
spoken_cut are (Delete c ∷ first) second (f, p) = let (a, b) = spoken_cut are first second p in ((f, a), b)

-- The names are one-to-one on some literals. Of each clause of `more` that is a part of a clause over these, by its names, a part
-- stands among the copies.
module _ (f : Literal → Literal) (keeps : KeepsOpposites f) (are : Literal → Type 0) (turned : (l : Literal) → are l → are (opposite l))
    (one : (l m : Literal) → are l → are m → f l ≡ f m → l ≡ m)
    (more copies : List Clause) (copied : (d c : Clause) → d ∈ more → ((l : Literal) → l ∈ c → are l) → d ⊆ map f c → (e : Clause) × (e ∈ copies)
    × (e ⊆ c)) where
  -- what is new beside the copies is so, by its names, beside the others
  new_renamed : (P : List Clause) (c : Clause) → AreOver are P → ((l : Literal) → l ∈ c → are l) → IsNew (copies ++ P) c → IsNew (more ++ rename f P) (map f c)
  new_renamed P c over of (a, n) = (
    λ (l, i, j).
        let (m, o, e) = map-∈ f l c i in
        let (k, q, g) = map-∈ f (opposite l) c j in
        let same : opposite m ≡ k = one (opposite m) k (turned m (of m o)) (of k q) (keeps m ∙ ap opposite (sym e) ∙ g) in
        a (m, o, subst (λ y. y ∈ c) (sym same) q),
    λ d h i. ⊎_elim
        (λ a. let (e, j, w) = copied d c a of i in n e (∈-append_left e copies P j) w)
        (λ a. let (x, j, q) = map-∈ (map f) d P a in n x (∈-append_right x copies P j) (back x j (λ l b. i l (subst (λ y. l ∈ y) (sym q) b))))
        (∈-append_cases d more (rename f P) h),
  )
    where
      back : (x : Clause) → x ∈ P → map f x ⊆ map f c → x ⊆ c
      back x j w l b = let (m, o, e) = map-∈ f (f l) c (w (f l) (∈-map f l x b)) in subst (λ y. y ∈ c) (sym (one l m (over x l j b) (of m o) e)) o

  -- what stays beside the copies does so, by its names, beside the others, where none of the copies is a part of it
  among_renamed : (P Q : List Clause) (c : Clause) → IsNew (copies ++ P) c → IsAmong (copies ++ Q) c → IsAmong (more ++ rename f Q) (map f c)
  among_renamed P Q c (a, n) (d, h, i) =
      ⊎_elim
      (λ j. absurd (n d (∈-append_left d copies P j) i.0))
      (λ j. (map f d, ∈-append_right (map f d) more (rename f Q) (∈-map (map f) d Q j), (map-⊆ f d c i.0, map-⊆ f c d i.1)))
      (∈-append_cases d copies Q h)

  beside : (n : ℕ) (P : List Clause) (lines : List Line) (Q : List Clause) → DerivesBy n P lines Q →
      LeadsBy n (more ++ rename f P) (written (map (rename_line f) lines)) (more ++ rename f Q)
  beside n P lines Q d = written_by n (more ++ rename f P) (map (rename_line f) lines) (more ++ rename f Q)
      (by_beside more n (rename f P) (map (rename_line f) lines) (rename f Q) (by_renamed f keeps n P lines Q d))

  -- what lines beside the copies come to is determined
  same_beside : (P : List Clause) (lines : List Line) (Q R : List Clause) (n : ℕ) → IsPresentAfter (copies ++ P) lines R → DerivesBy n P lines Q →
      SameClauses R (copies ++ Q)
  same_beside P lines Q R n present d =
      present_unique (copies ++ P) (copies ++ P) lines R (copies ++ Q) (same_clauses-self (copies ++ P)) present
      (derives_present (copies ++ P) lines (copies ++ Q) (by_derives n (copies ++ P) lines (copies ++ Q) (by_beside copies n P lines Q d)))

  -- lines of which one adds a new clause
  last_renamed : (n : ℕ) (P R : List Clause) (lines : List Line) (Q : List Clause) → AreOver are P → SpeakOf are lines → DerivesBy n P lines Q →
      SameClauses R (copies ++ P) → AddsNew R lines → LeadsToNew (more ++ rename f P) (written (map (rename_line f) lines)) (more ++ rename f Q)
  last_renamed n P R lines Q over speak d same new =
      let r = rename_line f in
      let c = new.clause in
      let rest = Add c ∷ new.back in
      let (mid, m, j, a, b) = by_cut n P new.front rest Q (subst (λ ls. DerivesBy n P ls Q) new.split d) in
      let (s, (t, u)) = spoken_cut are new.front rest (subst (SpeakOf are) new.split speak) in
      let begun = present_unique R (copies ++ P) new.front new.before (copies ++ mid) same new.is_before
      (derives_present (copies ++ P) new.front (copies ++ mid) (by_derives m (copies ++ P) new.front (copies ++ mid)
      (by_beside copies m P new.front mid a))) in
      let ended = present_unique new.before (copies ++ mid) rest new.after (copies ++ Q) begun new.is_after
      (derives_present (copies ++ mid) rest (copies ++ Q) (by_derives j (copies ++ mid) rest (copies ++ Q) (by_beside copies j mid rest Q b))) in
      let is_new = new_same new.before (copies ++ mid) c begun new.is_new in
      record {
        front = written (map r new.front);
        clause = map f c;
        back = written (map r new.back);
        before = more ++ rename f mid;
        split = ap (λ ls. written (map r ls)) new.split ∙ ap written (map-append r new.front rest) ∙ map-append Writes (map r new.front) (map r rest);
        leads = by_leads m (more ++ rename f P) (written (map r new.front)) (more ++ rename f mid) (beside m P new.front mid a);
        is_new = new_renamed mid c (over_after m are P new.front mid a over s) t is_new;
        on = by_leads j (more ++ rename f mid) (written (map r rest)) (more ++ rename f Q) (beside j mid rest Q b);
        stays = among_renamed mid Q c is_new (among_same new.after (copies ++ Q) c ended new.stays);
      }

  pub lines_add_new : (k n : ℕ) (P : List Clause) (lines : List Line) (Q : List Clause) → AreOver are P → SpeakOf are lines →
      DerivesBy n P lines Q → AddsManyNew k (copies ++ P) lines → LeadsAdding k (more ++ rename f P) (written (map (rename_line f) lines)) (more ++ rename f Q)
  lines_add_new zero n P lines Q over speak d a = by_leads n _ _ _ (beside n P lines Q d)
  lines_add_new (suc k) n P lines Q over speak d (first, last, R, e, present, many, new) =
      let r = rename_line f in
      let (mid, m, j, a, b) = by_cut n P first last Q (subst (λ ls. DerivesBy n P ls Q) e d) in
      let (s, t) = spoken_cut are first last (subst (SpeakOf are) e speak) in (
        written (map r first),
        written (map r last),
        more ++ rename f mid,
        ap (λ ls. written (map r ls)) e ∙ ap written (map-append r first last) ∙ map-append Writes (map r first) (map r last),
        lines_add_new k m P first mid over s a many,
        last_renamed j mid R last Q (over_after m are P first mid a over s) t b (same_beside P first mid R m present a) new,
      )
