-- What the checker keeps, and why its verdict is the only one.
use Rattle.std.proofs.Common.{◌≡◌, ℕ, suc, ◌+◌, ◌<◌, ◌≤◌, List, [], ◌∷◌, ◌++◌, length, get_or, take, take_all, drop, map, Vec, Global, Bool, true, false, IsTrue, ◌⊎◌, ◌↔◌, inl, inr, ⊎_elim, sym, ap, ◌∙◌, subst, refl, arith}
use Rattle.std.proofs.lemmas.List.{append-nil, take_more, take-append-drop, length-take, get_or-map, length-map}
use Rattle.varisat_theory.specs.promises.Literals.{Clause}
use Rattle.varisat_theory.specs.promises.Propagation.{Conflicts}
use Rattle.varisat_theory.specs.promises.Derivations.{Line, Add, Delete, TakesOut, IsPresentAfter, IsDerivation, Refutes, Derives}
use Rattle.varisat_theory.specs.promises.Held.{SameClauses}
use Rattle.varisat_plain.specs.promises.Checking.{IsAbsent, IsPlainLineStatus, IsWrong, IsFirstWrong, IsVerdict, clause_lists, line_of}
use Rattle.varisat_plain.specs.declared.checker.PlainLine.{PlainLine}
use Rattle.varisat_plain.specs.declared.checker.PlainLine.TheVariants.{Deletes}
use Rattle.varisat_plain.specs.declared.checker.LineStatus.{LineStatus}
use Rattle.varisat_plain.specs.declared.checker.LineStatus.TheVariants.{Taken, Unproved, Absent}
use Rattle.varisat_plain.specs.declared.checker.PlainVerdict.{PlainVerdict}
use Rattle.varisat_plain.specs.declared.checker.PlainVerdict.TheVariants.{Refutation, Derivation, DoesNotFollow, DeletesNothing}
use Rattle.varisat_theory.proofs.clauses.Places.{cut_at}
use Rattle.varisat_theory.proofs.clauses.Held.{same_set-self, same_set-through, takes_from, same_clauses_find, same_clauses-self, conflicts_same, follows_same}
use Rattle.varisat_theory.proofs.clauses.Lines.{derives_append, derives_cut, derives_present, derives_derivation, derivation_derives, present_unique, RefutesAt, refutes_at, refutes_from}

-- The lines so far are a derivation to what is present, and refute only if that conflicts.
pub record Checked (P : List Clause) (lines : List Line) (Q : List Clause) : Type 0 where
  pub derives : Derives P lines Q
  pub refutes : Refutes P lines → Conflicts Q []

-- two cuts of one list
splits : (f b g d : List Line) → f ++ b ≡ g ++ d → ((r : List Line) × (g ≡ f ++ r) × (b ≡ r ++ d)) ⊎ ((r : List Line) × (f ≡ g ++ r) × (d ≡ r ++ b))
splits [] b g d e = inl (g, refl, e)
splits (x ∷ f) b [] d e = inr (x ∷ f, refl, sym e)
splits (x ∷ f) b (y ∷ g) d e =
    let h : x ≡ y = cc in
    let t : f ++ b ≡ g ++ d = cc in
    ⊎_elim
    (λ w. inl (w.0, ap (λ z. z ∷ g) (sym h) ∙ ap (λ l. x ∷ l) w.1, w.2))
    (λ w. inr (w.0, ap (λ z. z ∷ f) h ∙ ap (λ l. y ∷ l) w.1, w.2))
    (splits f b g d t)

-- no derivation goes past a wrong line
pub wrong_line : (Q R : List Clause) (line : Line) (rest : List Line) (S : List Clause) → SameClauses R Q → IsWrong Q line → Derives R (line ∷ rest) S → ⊥
wrong_line Q R (Add c) rest S s w d = w (follows_same R Q c c s (same_set-self c) d.0)
wrong_line Q R (Delete c) rest S s w d =
    let t = takes_from R c d.0 d.1 in
    let u = same_clauses_find R Q s t.0 t.1 in
    w u.0 u.1 (same_set-through u.0 t.0 c u.2 t.2)

past_wrong : (P : List Clause) (front rest : List Line) (line : Line) (Q : List Clause) → IsDerivation P (front ++ (line ∷ rest)) →
    IsPresentAfter P front Q → IsWrong Q line → ⊥
past_wrong P front rest line Q d p w =
    let r = derivation_derives P (front ++ (line ∷ rest)) d in
    let s = derives_cut P front (line ∷ rest) r.0 r.1 in
    wrong_line Q s.0 line rest r.0 (present_unique P P front s.0 Q (same_clauses-self P) (derives_present P front s.0 s.1) p) w s.2

pub wrong_no_derivation : (P : List Clause) (lines : List Line) (n : ℕ) (line : Line) → IsFirstWrong P lines n line → IsDerivation P lines → ⊥
wrong_no_derivation P lines n line w d = past_wrong P w.front w.back line w.present (subst (IsDerivation P) w.split d) w.is_present w.wrong

-- where two cuts agree on a beginning, or the other goes past a line
after_front : (front f r b back : List Line) (line : Line) → f ≡ front ++ r → line ∷ back ≡ r ++ b → (front ≡ f)
    ⊎ ((rest : List Line) × (f ≡ front ++ (line ∷ rest)))
after_front front f [] b back line e g = inl (sym (e ∙ append-nil front))
after_front front f (x ∷ r) b back line e g = inr (r, let h : x ≡ line = cc in e ∙ ap (λ z. front ++ (z ∷ r)) h)

wrong_no_refutation : (P : List Clause) (lines : List Line) (n : ℕ) (line : Line) → IsFirstWrong P lines n line → Refutes P lines → ⊥
wrong_no_refutation P lines n line w (f, b, R, e, d, q, k) =
    ⊎_elim
    (λ s. w.unrefuted (f, s.0, R, s.1, d, q, k))
    (λ s. ⊎_elim (λ g. w.unrefuted (f, [], R, g ∙ sym (append-nil f), d, q, k))
    (λ g. past_wrong P w.front g.0 line w.present (subst (IsDerivation P) g.1 d) w.is_present w.wrong) (after_front w.front f s.0 b w.back line s.1 s.2))
    (splits f b w.front (line ∷ w.back) (sym e ∙ w.split))

-- the first wrong line is one
first_of : (P : List Clause) (front f back b r : List Line) (line l : Line) (Q : List Clause) → f ≡ front ++ r → line ∷ back ≡ r ++ (l ∷ b) →
    IsDerivation P f → IsPresentAfter P front Q → IsWrong Q line → (length front ≡ length f) × (line ≡ l)
first_of P front f back b [] line l Q e g d p w = (ap length (sym (e ∙ append-nil front)), let h : line ≡ l = cc in h)
first_of P front f back b (x ∷ r) line l Q e g d p w =
    let h : x ≡ line = cc in
    absurd (past_wrong P front r line Q (subst (IsDerivation P) (e ∙ ap (λ z. front ++ (z ∷ r)) h) d) p w)

first_wrong_same : (P : List Clause) (lines : List Line) (n m : ℕ) (line l : Line) → IsFirstWrong P lines n line → IsFirstWrong P lines m l →
    (n ≡ m) × (line ≡ l)
first_wrong_same P lines n m line l v w =
    ⊎_elim
    (λ s. let r = first_of P v.front w.front v.back w.back s.0 line l v.present s.1 s.2 w.derives v.is_present v.wrong in
    (v.numbered ∙ ap suc r.0 ∙ sym w.numbered, r.1))
    (λ s. let r = first_of P w.front v.front w.back v.back s.0 l line w.present s.1 s.2 v.derives w.is_present w.wrong in
    (v.numbered ∙ ap suc (sym r.0) ∙ sym w.numbered, sym r.1))
    (splits v.front (line ∷ v.back) w.front (l ∷ w.back) (sym v.split ∙ w.split))

-- a verdict is determined
determined : (P : List Clause) (lines : List Line) (v w : PlainVerdict) → IsVerdict P lines v → IsVerdict P lines w → v ≡ w
determined P lines Refutation Refutation h k = refl
determined P lines Refutation Derivation h k = absurd (k.1 h)
determined P lines Refutation (DoesNotFollow m) h k = absurd (wrong_no_refutation P lines m (Add k.0) k.1 h)
determined P lines Refutation (DeletesNothing m) h k = absurd (wrong_no_refutation P lines m (Delete k.0) k.1 h)
determined P lines Derivation Refutation h k = absurd (h.1 k)
determined P lines Derivation Derivation h k = refl
determined P lines Derivation (DoesNotFollow m) h k = absurd (wrong_no_derivation P lines m (Add k.0) k.1 h.0)
determined P lines Derivation (DeletesNothing m) h k = absurd (wrong_no_derivation P lines m (Delete k.0) k.1 h.0)
determined P lines (DoesNotFollow n) Refutation h k = absurd (wrong_no_refutation P lines n (Add h.0) h.1 k)
determined P lines (DoesNotFollow n) Derivation h k = absurd (wrong_no_derivation P lines n (Add h.0) h.1 k.0)
determined P lines (DoesNotFollow n) (DoesNotFollow m) h k = ap DoesNotFollow (first_wrong_same P lines n m (Add h.0) (Add k.0) h.1 k.1).0
determined P lines (DoesNotFollow n) (DeletesNothing m) h k = let e = (first_wrong_same P lines n m (Add h.0) (Delete k.0) h.1 k.1).1 in absurd (cc)
determined P lines (DeletesNothing n) Refutation h k = absurd (wrong_no_refutation P lines n (Delete h.0) h.1 k)
determined P lines (DeletesNothing n) Derivation h k = absurd (wrong_no_derivation P lines n (Delete h.0) h.1 k.0)
determined P lines (DeletesNothing n) (DoesNotFollow m) h k = let e = (first_wrong_same P lines n m (Delete h.0) (Add k.0) h.1 k.1).1 in absurd (cc)
determined P lines (DeletesNothing n) (DeletesNothing m) h k = ap DeletesNothing (first_wrong_same P lines n m (Delete h.0) (Delete k.0) h.1 k.1).0

pub exact : (P : List Clause) (lines : List Line) (v : PlainVerdict) → IsVerdict P lines v → (w : PlainVerdict) → (v ≡ w) ↔ IsVerdict P lines w
exact P lines v h w = (λ e. subst (IsVerdict P lines) e h, λ k. determined P lines v w h k)

-- no line yet
pub checked_start : (P Q : List Clause) → Q ≡ P → Checked P [] Q
checked_start P Q e = record { derives = sym e; refutes = λ r. at_once (refutes_at P [] r) }
  where
    at_once : RefutesAt P [] → Conflicts Q []
    at_once (([]), back, R, _, d, k) = subst (λ x. Conflicts x []) (sym (e ∙ d)) k
    at_once (x ∷ front, back, R, z, d, k) = absurd (cc)

-- a line that is taken
last_line : (r b : List Line) (l x : Line) → l ∷ [] ≡ x ∷ (r ++ b) → (r ≡ []) × (x ≡ l)
last_line [] b l x e = (refl, let h : x ≡ l = cc in h)
last_line (y ∷ r) b l x e = absurd (let h : [] ≡ y ∷ (r ++ b) = cc in cc)

pub checked_more : (P : List Clause) (front : List Line) (Q : List Clause) (l : Line) (R : List Clause) → Checked P front Q → (Conflicts Q [] → ⊥) →
    Derives Q (l ∷ []) R → Checked P (front ++ (l ∷ [])) R
checked_more P front Q l R c none d = record { derives = now; refutes = later }
  where
    now : Derives P (front ++ (l ∷ [])) R
    now = derives_append P front Q (l ∷ []) R c.derives d

    at_end : (f r b : List Line) (S : List Clause) → f ≡ front ++ r → l ∷ [] ≡ r ++ b → IsDerivation P f → IsPresentAfter P f S → Conflicts S [] →
        Conflicts R []
    at_end f [] b S e g h p k = absurd (none (c.refutes (f, [], S, sym (e ∙ append-nil front) ∙ sym (append-nil f), h, p, k)))
    at_end f (x ∷ r) b S e g h p k =
        let w = last_line r b l x g in
        let same : f ≡ front ++ (l ∷ []) = e ∙ ap (λ z. front ++ (z ∷ r)) w.1 ∙ ap (λ z. front ++ (l ∷ z)) w.0 in
        conflicts_same S R [] (present_unique P P (front ++ (l ∷ [])) S R (same_clauses-self P) (subst (λ z. IsPresentAfter P z S) same p)
        (derives_present P (front ++ (l ∷ [])) R now)) k

    later : Refutes P (front ++ (l ∷ [])) → Conflicts R []
    later (f, b, S, e, h, p, k) =
        ⊎_elim
        (λ s. absurd (none (c.refutes (f, s.0, S, s.1, h, p, k))))
        (λ s. at_end f s.0 b S s.1 s.2 h p k)
        (splits f b front (l ∷ []) (sym e))

-- what is present conflicts
pub refutation_found : (P : List Clause) (front back lines : List Line) (Q : List Clause) → lines ≡ front ++ back → Checked P front Q →
    Conflicts Q [] → Refutes P lines
refutation_found P front back lines Q e c k = refutes_from P lines (front, back, Q, e, c.derives, k)

-- the lines end
pub derivation_found : (P : List Clause) (lines : List Line) (Q : List Clause) → Checked P lines Q → (Conflicts Q [] → ⊥) → IsVerdict P lines Derivation
derivation_found P lines Q c none = (derives_derivation P lines Q c.derives, λ r. none (c.refutes r))

-- a line is wrong
pub wrong_found : (P : List Clause) (front back lines : List Line) (Q : List Clause) (line : Line) (n : ℕ) → lines ≡ front ++ (line ∷ back) →
    n ≡ suc (length front) → Checked P front Q → (Conflicts Q [] → ⊥) → IsWrong Q line → IsFirstWrong P lines n line
wrong_found P front back lines Q line n e i c none w =
    record {
      front = front;
      back = back;
      present = Q;
      split = e;
      numbered = i;
      derives = derives_derivation P front Q c.derives;
      unrefuted = λ r. none (c.refutes r);
      is_present = derives_present P front Q c.derives;
      wrong = w;
    }

-- The same of the lines in a slice.
line_at : (ls : List PlainLine) (i : ℕ) (v : PlainLine) → i < length ls → v ≡ get_or ls i v → get_or (map line_of ls) i (line_of v) ≡ line_of v
line_at ls i v h e = get_or-map line_of ls i v (line_of v) h ∙ ap line_of (sym e)

lines_short : (ls : List PlainLine) (i : ℕ) → i < length ls → i < length (map line_of ls)
lines_short ls i h = let e = length-map ls line_of in omega (arith, e)

lines_cut : (ls : List PlainLine) (i : ℕ) (v : PlainLine) → i < length ls → v ≡ get_or ls i v →
    map line_of ls ≡ take i (map line_of ls) ++ (line_of v ∷ drop (suc i) (map line_of ls))
lines_cut ls i v h e =
    cut_at (map line_of ls) i (line_of v) (lines_short ls i h) ∙ ap (λ z. take i (map line_of ls) ++ (z ∷ drop (suc i) (map line_of ls))) (line_at ls i v h e)

lines_more : (ls : List PlainLine) (i : ℕ) (v : PlainLine) → i < length ls → v ≡ get_or ls i v →
    take (i + 1) (map line_of ls) ≡ take i (map line_of ls) ++ (line_of v ∷ [])
lines_more ls i v h e =
    take_more (map line_of ls) i (line_of v) (lines_short ls i h) ∙ ap (λ z. take i (map line_of ls) ++ (z ∷ [])) (line_at ls i v h e)

line_number : (ls : List PlainLine) (i : ℕ) → i < length ls → i + 1 ≡ suc (length (take i (map line_of ls)))
line_number ls i h = let e = length-take i (map line_of ls) in let f = lines_short ls i h in omega (arith, e, f)

lines_all : (ls : List PlainLine) (i : ℕ) → length ls ≤ i → take i (map line_of ls) ≡ map line_of ls
lines_all ls i h = take_all i (map line_of ls) (let e = length-map ls line_of in omega (arith, e))

-- what the status of a line says
unproved : (Q : List Clause) (l : Line) (R : List Clause) → IsPlainLineStatus Q l Unproved R → (c : Clause) × (l ≡ Add c) × IsWrong Q (Add c)
unproved Q (Add c) R h = (c, refl, h)
unproved Q (Delete c) R h = absurd h

absent : (Q : List Clause) (l : Line) (R : List Clause) → IsPlainLineStatus Q l Absent R → (c : Clause) × (l ≡ Delete c) × IsWrong Q (Delete c)
absent Q (Add c) R h = absurd h
absent Q (Delete c) R h = (c, refl, h)

pub absent_line : (Q R : List Clause) (line : PlainLine) (v : Vec ℕ Global) (c : Clause) → line ≡ Deletes v → c ≡ v.items → IsAbsent Q c →
    IsPlainLineStatus Q (line_of line) Absent R
absent_line Q R line v c e f a = subst (λ l. IsPlainLineStatus Q (line_of l) Absent R) (sym e) (subst (IsAbsent Q) f a)

pub deleted_line : (Q R : List Clause) (line : PlainLine) (v : Vec ℕ Global) (c : Clause) → line ≡ Deletes v → c ≡ v.items → TakesOut Q c R →
    Derives Q (line_of line ∷ []) R
deleted_line Q R line v c e f t = subst (λ l. Derives Q (line_of l ∷ []) R) (sym e) (R, subst (λ d. TakesOut Q d R) f t, refl)

module _ (P : List Clause) (ls : List PlainLine) (i : ℕ) (Q : List Clause) (checked : Checked P (take i (map line_of ls)) Q) where
  pub on_refutation : Conflicts Q [] → (w : PlainVerdict) → (Refutation ≡ w) ↔ IsVerdict P (map line_of ls) w
  on_refutation k = exact P (map line_of ls) Refutation
      (refutation_found P (take i (map line_of ls)) (drop i (map line_of ls)) (map line_of ls) Q (sym (take-append-drop i (map line_of ls))) checked k)

  pub on_derivation : length ls ≤ i → (Conflicts Q [] → ⊥) → (w : PlainVerdict) → (Derivation ≡ w) ↔ IsVerdict P (map line_of ls) w
  on_derivation h none = exact P (map line_of ls) Derivation
      (derivation_found P (map line_of ls) Q (subst (λ l. Checked P l Q) (lines_all ls i h) checked) none)

  module _ (v : PlainLine) (h : i < length ls) (e : v ≡ get_or ls i v) (none : Conflicts Q [] → ⊥) (s : LineStatus) (R : List Clause)
      (w : IsPlainLineStatus Q (line_of v) s R) where
    pub on_taken : s ≡ Taken → Checked P (take (i + 1) (map line_of ls)) R
    on_taken f = subst (λ l. Checked P l R) (sym (lines_more ls i v h e))
        (checked_more P (take i (map line_of ls)) Q (line_of v) R checked none (subst (λ t. IsPlainLineStatus Q (line_of v) t R) f w))

    at_wrong : (line : Line) → line_of v ≡ line → IsWrong Q line → IsFirstWrong P (map line_of ls) (i + 1) line
    at_wrong line g x =
        wrong_found P (take i (map line_of ls)) (drop (suc i) (map line_of ls)) (map line_of ls) Q line (i + 1)
        (lines_cut ls i v h e ∙ ap (λ z. take i (map line_of ls) ++ (z ∷ drop (suc i) (map line_of ls))) g) (line_number ls i h) checked none x

    pub on_unproved : s ≡ Unproved → (x : PlainVerdict) → (DoesNotFollow (i + 1) ≡ x) ↔ IsVerdict P (map line_of ls) x
    on_unproved f =
        let u = unproved Q (line_of v) R (subst (λ t. IsPlainLineStatus Q (line_of v) t R) f w) in
        exact P (map line_of ls) (DoesNotFollow (i + 1)) (u.0, at_wrong (Add u.0) u.1 u.2)

    pub on_absent : s ≡ Absent → (x : PlainVerdict) → (DeletesNothing (i + 1) ≡ x) ↔ IsVerdict P (map line_of ls) x
    on_absent f =
        let u = absent Q (line_of v) R (subst (λ t. IsPlainLineStatus Q (line_of v) t R) f w) in
        exact P (map line_of ls) (DeletesNothing (i + 1)) (u.0, at_wrong (Delete u.0) u.1 u.2)

-- what the test of the slice says of the list
pub conflict_there : {A : Type 0} (slice vs : List (Vec ℕ A)) → slice ≡ vs → (b : Bool) → b ≡ true →
    (IsTrue b ↔ Conflicts (clause_lists slice) []) → Conflicts (clause_lists vs) []
conflict_there {A = A} slice vs e b t f = subst (λ (l : List (Vec ℕ A)). Conflicts (clause_lists l) []) e (f.0 t)

pub calm_there : {A : Type 0} (slice vs : List (Vec ℕ A)) → slice ≡ vs → (b : Bool) → b ≡ false → (IsTrue b ↔ Conflicts (clause_lists slice) []) →
    Conflicts (clause_lists vs) [] → ⊥
calm_there {A = A} slice vs e b t f k = let y = f.1 (subst (λ (l : List (Vec ℕ A)). Conflicts (clause_lists l) []) (sym e) k) in cc
