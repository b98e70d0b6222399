-- Entries that steps log, and what they keep of the clauses that were held before.
use Rattle.std.proofs.Common.{◌≡◌, ◌≢◌, ℕ, zero, suc, ◌+◌, ◌%◌, Bool, true, false, ◌||◌, nat_eq, List, [], ◌∷◌, ◌++◌, ◌⊎◌, length, inl, inr, ⊎_elim, sym, ap, ◌∙◌, subst, refl, append_assoc, length-append, arith}
use Rattle.std.proofs.lemmas.List.{append-nil}
use Rattle.std.proofs.lemmas.Bool.{eqb-true}
use Rattle.varisat_theory.specs.promises.Membership.{◌∈◌, ◌⊆◌, SameSet}
use Rattle.varisat_theory.specs.promises.Literals.{Literal, Clause, variable_of}
use Rattle.varisat_theory.specs.promises.Derivations.{Add, Delete, TakesOut}
use Rattle.varisat_theory.specs.promises.Held.{SameClauses, mentions, unless, without}
use Rattle.varisat_theory.specs.promises.Counted.{IsNew}
use Rattle.varisat_theory.specs.promises.Journals.{Entry, Accepts, Writes, Assumes, Fails, Retires, Follow, Leads, GoesOn}
use Rattle.varisat_theory.specs.promises.NewClauses.{LeadsToNew, LeadsAdding, GoesOnAdding}
use Rattle.varisat_theory.proofs.clauses.Members.{∈-append_left, ∈-append_right, ∈-append_cases}
use Rattle.varisat_theory.proofs.journals.Journals.{leads_append, leads_cut, leads_same, by_leads, leads_unique}
use Rattle.varisat_theory.proofs.journals.StepCounts.{new_same, among_same}
use Rattle.varisat_solver.specs.promises.Journals.{AreDerived, AreRetired}
use Rattle.varisat_solver.specs.promises.StepEntries.{LeadsInStep, LeadsInSteps, GoesOnInSteps, KeepsParts, GoesOnKeeping, LogsInSteps, HasStayed, SpeakOfAdded}

-- 1. Clauses of which a part is kept.

pub keeps-all : (P : List Clause) → KeepsParts [] P P
keeps-all P c h = inl (c, h, λ l i. i)

pub keeps-through : (es fs : List Entry) (P Q R : List Clause) → KeepsParts es P Q → KeepsParts fs Q R → KeepsParts (es ++ fs) P R
keeps-through es fs P Q R f g c h =
    ⊎_elim
    (λ (d, i, w). ⊎_elim
    (λ (e, j, x). inl (e, j, λ l o. w l (x l o)))
    (λ (l, j, x). inr (l, w l j, ∈-append_right (Retires (variable_of l)) es fs x))
    (g d i))
    (λ (l, i, x). inr (l, i, ∈-append_left (Retires (variable_of l)) es fs x))
    (f c h)

pub keeping-through : (logged es fs : List Entry) → GoesOnKeeping logged es → GoesOnKeeping (logged ++ es) fs → GoesOnKeeping logged (es ++ fs)
keeping-through logged es fs g h held after d e =
    let (mid, a, b) = leads_cut held es fs after e in
    keeps-through es fs held mid after (g held mid d a) (h mid after (leads_append [] logged held es mid d a) b)

pub keeping-nothing : (logged : List Entry) → GoesOnKeeping logged []
keeping-nothing logged held after d e = subst (KeepsParts [] held) e (keeps-all held)

-- a clause that does not mention the variable stays as it leaves
stays-or-mentions : (v : ℕ) (P : List Clause) (c : Clause) → c ∈ P → (c ∈ without v P) ⊎ (mentions v c ≡ true)
stays-or-mentions v [] c h = absurd h
stays-or-mentions v (d ∷ P) c (inl e) = go (mentions v d) refl
  where
    go : (b : Bool) → mentions v d ≡ b → (c ∈ unless b d (without v P)) ⊎ (mentions v c ≡ true)
    go true q = inr (ap (mentions v) e ∙ q)
    go false q = inl (inl e)
stays-or-mentions v (d ∷ P) c (inr h) = ⊎_elim (λ i. inl (go (mentions v d) i)) inr (stays-or-mentions v P c h)
  where
    go : (b : Bool) → c ∈ without v P → c ∈ unless b d (without v P)
    go true i = i
    go false i = inr i

mentioned-by : (v : ℕ) (c : Clause) → mentions v c ≡ true → (l : Literal) × (l ∈ c) × (variable_of l ≡ v)
mentioned-by v [] e = absurd (let z : false ≡ true = e in cc)
mentioned-by v (l ∷ c) e = go (nat_eq (variable_of l) v) refl e (mentioned-by v c)
  where
    go : (b : Bool) → nat_eq (variable_of l) v ≡ b → (b || mentions v c) ≡ true → (mentions v c ≡ true → (m : Literal) × (m ∈ c) × (variable_of m ≡ v)) →
        (m : Literal) × (m ∈ (l ∷ c)) × (variable_of m ≡ v)
    go true q f rest = (l, inl refl, eqb-true (variable_of l) v q)
    go false q f rest = let (m, i, r) = rest f in (m, inr i, r)

-- variables leave, and nothing else happens
pub leaving-derived : (es : List Entry) → AreRetired es → AreDerived es
leaving-derived [] a = tt
leaving-derived (Retires v ∷ es) a = leaving-derived es a
leaving-derived (Accepts c ∷ es) a = absurd a
leaving-derived (Writes line ∷ es) a = absurd a
leaving-derived (Assumes list ∷ es) a = absurd a
leaving-derived (Fails core ∷ es) a = absurd a

pub leaving-append : (es fs : List Entry) → AreRetired es → AreRetired fs → AreRetired (es ++ fs)
leaving-append [] fs a b = b
leaving-append (Retires v ∷ es) fs a b = leaving-append es fs a b
leaving-append (Accepts c ∷ es) fs a b = absurd a
leaving-append (Writes line ∷ es) fs a b = absurd a
leaving-append (Assumes list ∷ es) fs a b = absurd a
leaving-append (Fails core ∷ es) fs a b = absurd a

leaving-keeps : (es : List Entry) → AreRetired es → (P Q : List Clause) → Leads P es Q → KeepsParts es P Q
leaving-keeps [] a P Q d = subst (KeepsParts [] P) d (keeps-all P)
leaving-keeps (Retires v ∷ es) a P Q (R, e, d) =
    keeps-through (Retires v ∷ []) es P R Q
    (λ c h. ⊎_elim
    (λ i. inl (c, subst (λ X. c ∈ X) (sym e) i, λ l o. o))
    (λ m. let (l, i, q) = mentioned-by v c m in inr (l, i, inl (ap Retires q)))
    (stays-or-mentions v P c h))
    (leaving-keeps es a R Q d)
leaving-keeps (Accepts c ∷ es) a P Q d = absurd a
leaving-keeps (Writes line ∷ es) a P Q d = absurd a
leaving-keeps (Assumes list ∷ es) a P Q d = absurd a
leaving-keeps (Fails core ∷ es) a P Q d = absurd a

pub keeping-leaving : (logged es : List Entry) → AreRetired es → GoesOnKeeping logged es
keeping-leaving logged es a held after d e = leaving-keeps es a held after e

-- 2. Steps in turn.

pub in-steps-adding : (interval number k : ℕ) (P : List Clause) (es : List Entry) (Q : List Clause) → LeadsInSteps interval number k P es Q → LeadsAdding k P es Q
in-steps-adding interval number zero P es Q (e, d) = subst (λ xs. Leads P xs Q) (sym e) d
in-steps-adding interval number (suc k) P es Q (first, last, R, e, a, n) = (first, last, R, e, in-steps-adding interval number k P first R a, n.adds)

pub goes-adding : (interval number k : ℕ) (logged es : List Entry) → GoesOnInSteps interval number k logged es → GoesOnAdding k logged es
goes-adding interval number k logged es g held d = let (after, a) = g held d in (after, in-steps-adding interval number k held es after a)

pub no-steps : (interval number : ℕ) (logged : List Entry) → GoesOnInSteps interval number 0 logged []
no-steps interval number logged held d = (held, (refl, refl))

pub in-steps-append : (interval number k m : ℕ) (P : List Clause) (es : List Entry) (Q : List Clause) (fs : List Entry) (R : List Clause) →
    LeadsInSteps interval number k P es Q → LeadsInSteps interval (number + k) m Q fs R → LeadsInSteps interval number (k + m) P (es ++ fs) R
in-steps-append interval number k zero P es Q fs R a (e, d) =
    let sum : k ≡ k + 0 = omega arith in
    let same : es ≡ es ++ fs = sym (append-nil es) ∙ ap (λ xs. es ++ xs) (sym e) in
    subst (λ j. LeadsInSteps interval number j P (es ++ fs) R) sum
    (subst (λ xs. LeadsInSteps interval number k P xs R) same (subst (LeadsInSteps interval number k P es) d a))
in-steps-append interval number k (suc m) P es Q fs R a (first, last, S, e, b, n) =
    let sum : suc (k + m) ≡ k + suc m = omega arith in
    let place : (number + k) + m ≡ number + (k + m) = omega arith in
    let split : es ++ fs ≡ (es ++ first) ++ last = ap (λ xs. es ++ xs) e ∙ sym (append_assoc es first last) in
    subst (λ j. LeadsInSteps interval number j P (es ++ fs) R) sum
    (es ++ first, last, S, split, in-steps-append interval number k m P es Q first S a b, subst (λ j. LeadsInStep interval j S last R) place n)

pub steps-further : (interval number k m : ℕ) (logged es fs : List Entry) → GoesOnInSteps interval number k logged es →
    GoesOnInSteps interval (number + k) m (logged ++ es) fs → GoesOnInSteps interval number (k + m) logged (es ++ fs)
steps-further interval number k m logged es fs g h held d =
    let (mid, a) = g held d in
    let leads = leads-of interval number k held es mid a in
    let (last, b) = h mid (leads_append [] logged held es mid d leads) in
    (last, in-steps-append interval number k m held es mid fs last a b)
  where
    to-new : (P : List Clause) (es : List Entry) (Q : List Clause) → LeadsToNew P es Q → Leads P es Q
    to-new P es Q n = subst (λ xs. Leads P xs Q) (sym n.split) (leads_append P n.front n.before (Writes (Add n.clause) ∷ n.back) Q n.leads n.on)

    leads-of : (interval number k : ℕ) (P : List Clause) (es : List Entry) (Q : List Clause) → LeadsInSteps interval number k P es Q → Leads P es Q
    leads-of interval number zero P es Q (e, d) = subst (λ xs. Leads P xs Q) (sym e) d
    leads-of interval number (suc k) P es Q (first, last, R, e, a, n) =
        subst (λ xs. Leads P xs Q) (sym e) (leads_append P first R last Q (leads-of interval number k P first R a) (to-new R last Q n.adds))

-- whichever clauses stand for those that are held
step-same : (interval number : ℕ) (P P' : List Clause) (es : List Entry) (Q : List Clause) → SameClauses P P' → LeadsInStep interval number P es Q →
    (Q' : List Clause) × LeadsInStep interval number P' es Q' × SameClauses Q Q'
step-same interval number P P' es Q s n =
    let a = n.adds in
    let (R, d, t) = leads_same P P' a.front a.before s a.leads in
    let (Q', e, u) = leads_same a.before R (Writes (Add a.clause) ∷ a.back) Q t a.on in (
      Q',
      record {
        adds = record {
          front = a.front;
          clause = a.clause;
          back = a.back;
          before = R;
          split = a.split;
          leads = d;
          is_new = new_same a.before R a.clause t a.is_new;
          on = e;
          stays = among_same Q Q' a.clause u a.stays;
        };
        is_new = λ h. new_same P P' a.clause s (n.is_new h);
      },
      u,
    )

pub in-steps-same : (interval number k : ℕ) (P P' : List Clause) (es : List Entry) (Q : List Clause) → SameClauses P P' →
    LeadsInSteps interval number k P es Q → (Q' : List Clause) × LeadsInSteps interval number k P' es Q' × SameClauses Q Q'
in-steps-same interval number zero P P' es Q s (e, d) = (P', (e, refl), subst (λ x. SameClauses x P') d s)
in-steps-same interval number (suc k) P P' es Q s (first, last, R, e, a, n) =
    let (R', b, t) = in-steps-same interval number k P P' first R s a in
    let (Q', m, u) = step-same interval (number + k) R R' last Q t n in
    (Q', (first, last, R', e, b, m), u)

-- what is logged leads to the same clauses, whichever of them stand for it
pub goes-in-steps : (interval number k : ℕ) (logged es : List Entry) (held after : List Clause) → Leads [] logged held →
    LeadsInSteps interval number k held es after → GoesOnInSteps interval number k logged es
goes-in-steps interval number k logged es held after d a other f =
    let (Q, g, _) = in-steps-same interval number k held other es after (leads_unique [] [] logged held other refl d f) a in
    (Q, g)

-- 3. A part of a step before its clause is added.

added-spoken : (are : Literal → Type 0) (front : List Entry) (c : Clause) (back : List Entry) → SpeakOfAdded are (front ++ (Writes (Add c) ∷ back)) →
    (l : Literal) → l ∈ c → are l
added-spoken are [] c back (f, s) = f
added-spoken are (Accepts d ∷ front) c back s = added-spoken are front c back s
added-spoken are (Writes (Add d) ∷ front) c back (f, s) = added-spoken are front c back s
added-spoken are (Writes (Delete d) ∷ front) c back s = added-spoken are front c back s
added-spoken are (Assumes d ∷ front) c back s = added-spoken are front c back s
added-spoken are (Fails d ∷ front) c back s = added-spoken are front c back s
added-spoken are (Retires v ∷ front) c back s = added-spoken are front c back s

pub added-append : (are : Literal → Type 0) (es fs : List Entry) → SpeakOfAdded are es → SpeakOfAdded are fs → SpeakOfAdded are (es ++ fs)
added-append are [] fs s t = t
added-append are (Accepts d ∷ es) fs s t = added-append are es fs s t
added-append are (Writes (Add d) ∷ es) fs (f, s) t = (f, added-append are es fs s t)
added-append are (Writes (Delete d) ∷ es) fs s t = added-append are es fs s t
added-append are (Assumes d ∷ es) fs s t = added-append are es fs s t
added-append are (Fails d ∷ es) fs s t = added-append are es fs s t
added-append are (Retires v ∷ es) fs s t = added-append are es fs s t

pub added-wider : (are may : Literal → Type 0) (es : List Entry) → ((l : Literal) → are l → may l) → SpeakOfAdded are es → SpeakOfAdded may es
added-wider are may [] w s = tt
added-wider are may (Accepts d ∷ es) w s = added-wider are may es w s
added-wider are may (Writes (Add d) ∷ es) w (f, s) = (λ l h. w l (f l h), added-wider are may es w s)
added-wider are may (Writes (Delete d) ∷ es) w s = added-wider are may es w s
added-wider are may (Assumes d ∷ es) w s = added-wider are may es w s
added-wider are may (Fails d ∷ es) w s = added-wider are may es w s
added-wider are may (Retires v ∷ es) w s = added-wider are may es w s

pub leaving-added : (are : Literal → Type 0) (es : List Entry) → AreRetired es → SpeakOfAdded are es
leaving-added are [] a = tt
leaving-added are (Retires v ∷ es) a = leaving-added are es a
leaving-added are (Accepts c ∷ es) a = absurd a
leaving-added are (Writes line ∷ es) a = absurd a
leaving-added are (Assumes list ∷ es) a = absurd a
leaving-added are (Fails core ∷ es) a = absurd a

step-after : (interval number : ℕ) (P : List Clause) (es : List Entry) (Q : List Clause) (fs : List Entry) (R : List Clause) → Leads P es Q →
    (number % interval ≢ 0 → KeepsParts es P Q) → SpeakOfAdded (HasStayed es) fs → LeadsInStep interval number Q fs R →
    LeadsInStep interval number P (es ++ fs) R
step-after interval number P es Q fs R d keeps spoken n =
    let a = n.adds in record {
      adds = record {
        front = es ++ a.front;
        clause = a.clause;
        back = a.back;
        before = a.before;
        split = ap (λ xs. es ++ xs) a.split ∙ sym (append_assoc es a.front (Writes (Add a.clause) ∷ a.back));
        leads = leads_append P es Q a.front a.before d a.leads;
        is_new = a.is_new;
        on = a.on;
        stays = a.stays;
      };
      is_new = λ h.
          let (t, f) = n.is_new h in (
            t,
            λ c i w. ⊎_elim
                (λ (e, j, x). f e j (λ l o. w l (x l o)))
                (λ (l, j, x). added-spoken (HasStayed es) a.front a.clause a.back (subst (SpeakOfAdded (HasStayed es)) a.split spoken) l (w l j) x)
                (keeps h c i),
          );
    }

pub step-begun : (interval number : ℕ) (logged es fs : List Entry) → GoesOn 0 logged es → LogsInSteps interval number 0 logged es →
    SpeakOfAdded (HasStayed (logged ++ es)) fs → LogsInSteps interval number 1 (logged ++ es) fs → LogsInSteps interval number 1 logged (es ++ fs)
step-begun interval number logged es fs g keeps spoken h held d =
    let (mid, b) = g held d in
    let leads = by_leads 0 held es mid b in
    let (last, (first, rest, S, e, (z, q), n)) = h mid (leads_append [] logged held es mid d leads) in
    let same : fs ≡ rest = e ∙ ap (λ xs. xs ++ rest) z in
    let place : number + 0 ≡ number = omega arith in
    let step : LeadsInStep interval number mid fs last =
    subst (λ j. LeadsInStep interval j mid fs last) place
    (subst (λ (X : List Clause). LeadsInStep interval (number + 0) X fs last) (sym q)
    (subst (λ (xs : List Entry). LeadsInStep interval (number + 0) S xs last) (sym same) n)) in
    let stayed = added-wider (HasStayed (logged ++ es)) (HasStayed es) fs (λ l f i. f (∈-append_right (Retires (variable_of l)) logged es i)) spoken in
    let all = step-after interval number held es mid fs last leads (λ due. keeps due held mid d leads) stayed step in
    (last, ([], es ++ fs, held, refl, (refl, refl), subst (λ j. LeadsInStep interval j held (es ++ fs) last) (sym place) all))

-- n steps were made, or a part of one, and then comes one more
pub one-more-step : (interval number n k : ℕ) (logged es fs : List Entry) → n + 1 ≡ k → GoesOn n logged es → LogsInSteps interval number n logged es →
    SpeakOfAdded (HasStayed (logged ++ es)) fs → LogsInSteps interval (number + n) 1 (logged ++ es) fs → LogsInSteps interval number k logged (es ++ fs)
one-more-step interval number zero k logged es fs e g a spoken b =
    subst (λ j. LogsInSteps interval number j logged (es ++ fs)) (let z : 1 ≡ k = omega (arith, e) in z)
    (step-begun interval number logged es fs g a spoken
    (subst (λ j. LogsInSteps interval j 1 (logged ++ es) fs) (let z : number + 0 ≡ number = omega arith in z) b))
one-more-step interval number (suc n) k logged es fs e g a spoken b =
    let all : GoesOnInSteps interval number (suc n + 1) logged (es ++ fs) = steps-further interval number (suc n) 1 logged es fs a b in
    subst (λ j. LogsInSteps interval number j logged (es ++ fs)) (let z : suc (suc n) ≡ k = omega (arith, e) in z)
    (subst (λ j. GoesOnInSteps interval number j logged (es ++ fs)) (let z : suc n + 1 ≡ suc (suc n) = omega arith in z) all)

-- 4. A step that adds a clause by its only line.

line-new : (P : List Clause) (c : Clause) (front : List Entry) (d : Clause) (back : List Entry) (before : List Clause) →
    Writes (Add c) ∷ [] ≡ front ++ (Writes (Add d) ∷ back) → Leads P front before → IsNew before d → IsNew P d
line-new P c [] d back before e l n = subst (λ X. IsNew X d) (sym l) n
line-new P c (x ∷ front) d back before e l n =
    let m = ap (λ (xs : List Entry). length xs) e in
    let k = length-append front (Writes (Add d) ∷ back) in
    absurd (omega (arith, m, k))

pub one-line-step : (interval number : ℕ) (P : List Clause) (c : Clause) (Q : List Clause) → LeadsAdding 1 P (Writes (Add c) ∷ []) Q →
    LeadsInSteps interval number 1 P (Writes (Add c) ∷ []) Q
one-line-step interval number P c Q ([], last, R, e, d, n) = (
  [],
  last,
  R,
  e,
  (refl, d),
  record {
    adds = n;
    is_new = λ h. line-new R c n.front n.clause n.back n.before (e ∙ n.split) n.leads n.is_new;
  },
)
one-line-step interval number P c Q (x ∷ first, last, R, e, d, n) =
    let m = ap (λ (xs : List Entry). length xs) e in
    let k = length-append first last in
    let i = ap (λ (xs : List Entry). length xs) n.split in
    let j = length-append n.front (Writes (Add n.clause) ∷ n.back) in
    absurd (omega (arith, m, k, i, j))

-- 5. What is no step.

taken-was : (P : List Clause) (c : Clause) (R : List Clause) → TakesOut P c R → (d : Clause) × (d ∈ P) × (d ⊆ c)
taken-was P c R (front, d, back, e, s, f) = (d, subst (λ X. d ∈ X) (sym e) (∈-append_right d front (d ∷ back) (inl refl)), s.0)

abbrev first-of : List Entry → Entry
first-of [] = Retires 0
first-of (e ∷ es) = e

abbrev second-clause : List Entry → Clause
second-clause (e ∷ Writes (Add c) ∷ es) = c
second-clause _ = []

again-was : (P : List Clause) (c : Clause) (front : List Entry) (x : Clause) (back : List Entry) (before : List Clause) →
    Writes (Delete c) ∷ Writes (Add c) ∷ [] ≡ front ++ (Writes (Add x) ∷ back) → Leads P front before → (d : Clause) × (d ∈ P) × (d ⊆ x)
again-was P c [] x back before s l = let y : Writes (Delete c) ≡ Writes (Add x) = ap first-of s in absurd cc
again-was P c (y ∷ []) x back before s (R, t, l) =
    let same : y ≡ Writes (Delete c) = sym (ap first-of s) in
    let (d, i, w) = taken-was P c R (subst (λ z. Follow P z R) same t) in
    (d, i, λ m o. subst (λ z. m ∈ z) (ap second-clause s) (w m o))
again-was P c (y ∷ z ∷ front) x back before s l =
    let m = ap (λ (xs : List Entry). length xs) s in
    let k = length-append front (Writes (Add x) ∷ back) in
    absurd (omega (arith, m, k))

-- a clause that is deleted and added again does not count, unless learned clauses may be deleted
pub again-is-no-step : (interval number : ℕ) (P : List Clause) (c : Clause) (Q : List Clause) → number % interval ≢ 0 →
    LeadsInSteps interval number 1 P (Writes (Delete c) ∷ Writes (Add c) ∷ []) Q → ⊥
again-is-no-step interval number P c Q h (first, last, R, e, (z, q), n) =
    let place : number + 0 ≡ number = omega arith in
    let a = n.adds in
    let all : Writes (Delete c) ∷ Writes (Add c) ∷ [] ≡ a.front ++ (Writes (Add a.clause) ∷ a.back) = e ∙ ap (λ xs. xs ++ last) z ∙ a.split in
    let (d, i, w) = again-was R c a.front a.clause a.back a.before all a.leads in
    (n.is_new (λ x. h (ap (λ j. j % interval) (sym place) ∙ x))).1 d i w
