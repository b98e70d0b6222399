-- A check of lines has one result, and they logged one thing.
use Rattle.std.proofs.Common.{◌≡◌, ℕ, suc, List, [], ◌∷◌, ◌++◌, length, refl, sym, ap, subst, ◌∙◌, ⊎_elim, ◌⊎◌, inl, inr, Option, Some, None, Result, Ok, Err}
use Rattle.std.proofs.lemmas.List.{append-nil}
use Rattle.varisat_theory.specs.promises.Membership.{◌⊆◌}
use Rattle.varisat_theory.specs.promises.Literals.{Clause}
use Rattle.varisat_theory.specs.promises.Propagation.{Conflicts}
use Rattle.varisat_theory.specs.promises.Held.{SameClauses}
use Rattle.varisat_theory.proofs.clauses.Held.{same_set-self, same_set-through, takes_from, same_clauses_find, same_clauses-self, same_clauses-back, conflicts_same, follows_same, same_add, takes_out_unique}
use Rattle.varisat_formula.specs.promises.Formulas.{with_one_more}
use Rattle.varisat_lines.specs.declared.format.Encoding.{Encoding}
use Rattle.varisat_lines.specs.declared.format.LineKind.{LineKind}
use Rattle.varisat_lines.specs.declared.format.LineKind.TheVariants.{Adds, Deletes, Accepts, Assumes, Fails}
use Rattle.varisat_proof.specs.declared.checker.line.LineStatus.{LineStatus}
use Rattle.varisat_proof.specs.declared.checker.line.LineStatus.TheVariants.{Unproved, Absent, Unassumed}
use Rattle.varisat_proof.specs.declared.checker.error.CheckVerdict.{CheckVerdict}
use Rattle.varisat_proof.specs.declared.checker.error.CheckVerdict.TheVariants.{Refutation, Derivation}
use Rattle.varisat_proof.specs.declared.checker.error.CheckerError.{CheckerError}
use Rattle.varisat_proof.specs.declared.checker.error.CheckerError.TheVariants.{CheckFailed, NoSuchClause, CoreNotAssumed, Parse}
use Rattle.varisat_lines.specs.promises.Lines.{ProofLine, step_number}
use Rattle.varisat_lines.specs.inside.Machine.{Parsed, parsed}
use Rattle.varisat_proof.specs.promises.Marked.{MarkedLog, ProofState, Rules, strict_rules, TakesKind, IsWrongKind, GoesBy, Goes, TakesAll, GoesThrough, StopsBeforeBy, StopsCheckBy, StopsCheck, CheckOnceBy, CheckOnce, CheckGoesThrough}
use Rattle.varisat_proof.proofs.CheckedLines.{error_of}
use Rattle.varisat_lines.proofs.TokenLines.{only_parsed}
use Rattle.varisat_lines.proofs.GrammarLaws.{same_lines}

-- 1. The same but for the order of clauses and of their literals.
pub record Same (s t : ProofState) : Type 0 where
  pub present : SameClauses s.present t.present
  pub logged : s.logged ≡ t.logged

same_back : (s t : ProofState) → Same s t → Same t s
same_back s t w = record { present = same_clauses-back s.present t.present w.present; logged = sym w.logged }

same_by : (r r' s s' : ProofState) → r ≡ s → r' ≡ s' → Same s s' → Same r r'
same_by r r' s s' e f w = subst (λ x. Same x r') (sym e) (subst (λ x. Same s x) (sym f) w)

same_taken : (s s' : ProofState) (kind : LineKind) (c : Clause) (r r' : ProofState) → Same s s' → TakesKind s kind c r → TakesKind s' kind c r' → Same r r'
same_taken s s' Adds c r r' w h k = same_by r r' _ _ h.1 k.1 (record { present = same_add s.present s'.present c c w.present (same_set-self c); logged = w.logged })
same_taken s s' Deletes c r r' w h k = same_by r r' _ _ h.2 k.2
    (record { present = takes_out_unique s.present s'.present c h.0 k.0 w.present h.1 k.1; logged = w.logged })
same_taken s s' Accepts c r r' w h k =
    same_by r r' _ _ h k (record {
      present = same_add s.present s'.present c c w.present (same_set-self c);
      logged = ap (λ x. let t : MarkedLog = record { assumed = x.assumed; inputs = with_one_more x.inputs c; cores = x.cores } in t) w.logged;
    })
same_taken s s' Assumes c r r' w h k = same_by r r' _ _ h k (record
    { present = w.present; logged = ap (λ x. let t : MarkedLog = record { assumed = c; inputs = x.inputs; cores = x.cores } in t) w.logged })
same_taken s s' Fails c r r' w h k =
    same_by r r' _ _ h.2 k.2
    (record {
      present = w.present;
      logged = ap (λ x. let t : MarkedLog = record
          { assumed = x.assumed; inputs = x.inputs; cores = x.cores ++ (length x.inputs.clauses, c) ∷ [] } in t) w.logged;
    })

-- a line that is wrong in the one is not taken in the other
wrong_taken : (s s' : ProofState) (kind : LineKind) (c : Clause) (status : LineStatus) (r : ProofState) → Same s s' → IsWrongKind s kind c status →
    TakesKind s' kind c r → ⊥
wrong_taken s s' Adds c Unproved r w h k = h (follows_same s'.present s.present c c (same_clauses-back s.present s'.present w.present) (same_set-self c) k.0)
wrong_taken s s' Deletes c Absent r w h k =
    let t = takes_from s'.present c k.0 k.1 in
    let u = same_clauses_find s'.present s.present (same_clauses-back s.present s'.present w.present) t.0 t.1 in
    h u.0 u.1 (same_set-through u.0 t.0 c u.2 t.2)
wrong_taken s s' Fails c Unassumed r w h k = h (subst (λ (x : MarkedLog). c ⊆ x.assumed) (sym w.logged) k.0)
wrong_taken s s' Fails c Unproved r w h k = h.1 (conflicts_same s'.present s.present c (same_clauses-back s.present s'.present w.present) k.1)
wrong_taken s s' kind c status r w h k = absurd h

-- a line is wrong in one way
adds_status : (s : ProofState) (c : Clause) (a : LineStatus) → IsWrongKind s Adds c a → a ≡ Unproved
adds_status s c Unproved h = refl
adds_status s c a h = absurd h

deletes_status : (s : ProofState) (c : Clause) (a : LineStatus) → IsWrongKind s Deletes c a → a ≡ Absent
deletes_status s c Absent h = refl
deletes_status s c a h = absurd h

fails_status : (s : ProofState) (c : Clause) (a : LineStatus) → IsWrongKind s Fails c a → ((a ≡ Unproved) × (c ⊆ s.logged.assumed))
    ⊎ ((a ≡ Unassumed) × (c ⊆ s.logged.assumed → ⊥))
fails_status s c Unproved h = inl (refl, h.0)
fails_status s c Unassumed h = inr (refl, h)
fails_status s c a h = absurd h

same_status : (s s' : ProofState) (kind : LineKind) (c : Clause) (a b : LineStatus) → Same s s' → IsWrongKind s kind c a → IsWrongKind s' kind c b → a ≡ b
same_status s s' Adds c a b w h k = adds_status s c a h ∙ sym (adds_status s' c b k)
same_status s s' Deletes c a b w h k = deletes_status s c a h ∙ sym (deletes_status s' c b k)
same_status s s' Fails c a b w h k =
    ⊎_elim
    (λ x. ⊎_elim (λ y. x.0 ∙ sym y.0) (λ y. absurd (y.1 (subst (λ (z : MarkedLog). c ⊆ z.assumed) w.logged x.1))) (fails_status s' c b k))
    (λ x. ⊎_elim (λ y. absurd (x.1 (subst (λ (z : MarkedLog). c ⊆ z.assumed) (sym w.logged) y.1))) (λ y. x.0 ∙ sym y.0) (fails_status s' c b k))
    (fails_status s c a h)
same_status s s' kind c a b w h k = absurd h

-- 2. Where a check stops, and what it returns there.
abbrev refuted_result : Option ℕ → Result CheckVerdict CheckerError
refuted_result None = Ok Refutation
refuted_result (Some o) = Err (Parse o)

abbrev ended_result : Option ℕ → Result CheckVerdict CheckerError
ended_result None = Ok Derivation
ended_result (Some o) = Err (Parse o)

data Halts (rules : Rules) (fault : Option ℕ) (n : ℕ) (t : ProofState) (back : List ProofLine) (r : Result CheckVerdict CheckerError) : Type 0 where
  Refuted : Conflicts t.present [] → r ≡ refuted_result fault → Halts rules fault n t back r
  AtEnd : (Conflicts t.present [] → ⊥) → back ≡ [] → r ≡ ended_result fault → Halts rules fault n t back r
  AtLine : (Conflicts t.present [] → ⊥) → (line : ProofLine) → (lines : List ProofLine) → back ≡ line ∷ lines → (status : LineStatus) →
      rules.wrong t line status → r ≡ Err (error_of status (step_number (suc n))) → Halts rules fault n t back r

before_line : (rules : Rules) (fault : Option ℕ) (n : ℕ) (t : ProofState) (back : List ProofLine) (status : LineStatus) (step : ℕ) →
    StopsBeforeBy rules status n t back step → Halts rules fault n t back (Err (error_of status step))
before_line rules fault n t [] status step s = absurd s
before_line rules fault n t (line ∷ lines) status step s = AtLine s.0 line lines refl status s.1 (ap (λ x. Err (error_of status x)) s.2)

halts : (rules : Rules) (fault : Option ℕ) (n : ℕ) (t : ProofState) (back : List ProofLine) (r : Result CheckVerdict CheckerError) →
    StopsCheckBy rules fault n t back r → Halts rules fault n t back r
halts rules fault n t back (Ok Refutation) s = Refuted s.1 (sym (ap refuted_result s.0))
halts rules fault n t back (Ok Derivation) s = AtEnd s.2 s.1 (sym (ap ended_result s.0))
halts rules fault n t back (Err (CheckFailed step)) s = before_line rules fault n t back Unproved step s
halts rules fault n t back (Err (NoSuchClause step)) s = before_line rules fault n t back Absent step s
halts rules fault n t back (Err (CoreNotAssumed step)) s = before_line rules fault n t back Unassumed step s
halts rules fault n t back (Err (Parse o)) s =
    ⊎_elim (λ k. Refuted k (sym (ap refuted_result s.0))) (λ k. AtEnd k.1 k.0 (sym (ap ended_result s.0))) s.1
halts rules fault n t back (Err error) s = absurd s

-- Where the present clauses are the same, a line leads to the same ones, is not taken in one state and wrong in the other, and is wrong in one way.
pub record AreDetermined (rules : Rules) : Type 0 where
  pub taken : (s s' : ProofState) (line : ProofLine) (r r' : ProofState) → Same s s' → rules.takes s line r → rules.takes s' line r' → Same r r'
  pub refused : (s s' : ProofState) (line : ProofLine) (status : LineStatus) (r : ProofState) → Same s s' → rules.wrong s line status → rules.takes s' line r → ⊥
  pub status : (s s' : ProofState) (line : ProofLine) (a b : LineStatus) → Same s s' → rules.wrong s line a → rules.wrong s' line b → a ≡ b

strict_determined : AreDetermined strict_rules
strict_determined = record {
  taken = λ s s' line r r' w h k. same_taken s s' line.kind line.clause r r' w h k;
  refused = λ s s' line status r w h k. wrong_taken s s' line.kind line.clause status r w h k;
  status = λ s s' line a b w h k. same_status s s' line.kind line.clause a b w h k;
}

-- it does not go on there
stuck : (rules : Rules) → AreDetermined rules → (fault : Option ℕ) (n : ℕ) (s s' : ProofState) (line : ProofLine) (lines back : List ProofLine)
    (r : Result CheckVerdict CheckerError) (u : ProofState) → Same s s' → Halts rules fault n s back r → back ≡ line ∷ lines →
    (Conflicts s'.present [] → ⊥) → rules.takes s' line u → ⊥
stuck rules d fault n s s' line lines back r u w (Refuted k e) b none h = none (conflicts_same s.present s'.present [] w.present k)
stuck rules d fault n s s' line lines back r u w (AtEnd k z e) b none h = let f : [] ≡ line ∷ lines = sym z ∙ b in absurd cc
stuck rules d fault n s s' line lines back r u w (AtLine k l ls z status i e) b none h =
    let f : l ∷ ls ≡ line ∷ lines = sym z ∙ b in
    let g : l ≡ line = cc in
    d.refused s s' line status u w (subst (λ x. rules.wrong s x status) g i) h

-- two checks take the same lines
walk : (rules : Rules) → AreDetermined rules → (fault : Option ℕ) (n m : ℕ) (front front' back back' : List ProofLine)
    (r q : Result CheckVerdict CheckerError) (s s' t t' : ProofState) → Same s s' → GoesBy rules s front t → GoesBy rules s' front' t' →
    front ++ back ≡ front' ++ back' → Halts rules fault n t back r → Halts rules fault m t' back' q → (front ≡ front') × (back ≡ back') × Same t t'
walk rules d fault n m [] [] back back' r q s s' t t' w g h e a b = (refl, e, same_by t t' s s' (sym g) (sym h) w)
walk rules d fault n m [] (l ∷ f) back back' r q s s' t t' w g h e a b =
    absurd (stuck rules d fault n s s' l (f ++ back') back r h.1 w (subst (λ x. Halts rules fault n x back r) (sym g) a) e h.0 h.2)
walk rules d fault n m (l ∷ f) [] back back' r q s s' t t' w g h e a b =
    absurd (stuck rules d fault m s' s l (f ++ back) back' q g.1 (same_back s s' w) (subst (λ x. Halts rules fault m x back' q) (sym h) b) (sym e) g.0 g.2)
walk rules d fault n m (l ∷ f) (k ∷ f') back back' r q s s' t t' w g h e a b =
    let x : l ≡ k = cc in
    let y : f ++ back ≡ f' ++ back' = cc in
    let more = d.taken s s' l g.1 h.1 w g.2 (subst (λ z. rules.takes s' z h.1) (sym x) h.2) in
    let rest = walk rules d fault n m f f' back back' r q g.1 h.1 t t' more g.3 h.3 y a b in
    (ap (λ z. z ∷ f) x ∙ ap (λ z. k ∷ z) rest.0, rest.1, rest.2)

-- and return the same
return_same : (rules : Rules) → AreDetermined rules → (fault : Option ℕ) (n : ℕ) (t t' : ProofState) (back : List ProofLine)
    (r q : Result CheckVerdict CheckerError) → Same t t' → Halts rules fault n t back r → Halts rules fault n t' back q → r ≡ q
return_same rules d fault n t t' back r q w (Refuted k e) (Refuted l f) = e ∙ sym f
return_same rules d fault n t t' back r q w (Refuted k e) (AtEnd l z f) = absurd (l (conflicts_same t.present t'.present [] w.present k))
return_same rules d fault n t t' back r q w (Refuted k e) (AtLine l x y z a i f) = absurd (l (conflicts_same t.present t'.present [] w.present k))
return_same rules d fault n t t' back r q w (AtEnd k z e) (Refuted l f) = absurd
    (k (conflicts_same t'.present t.present [] (same_clauses-back t.present t'.present w.present) l))
return_same rules d fault n t t' back r q w (AtEnd k z e) (AtEnd l y f) = e ∙ sym f
return_same rules d fault n t t' back r q w (AtEnd k z e) (AtLine l x y v a i f) = absurd (let h : [] ≡ x ∷ y = sym z ∙ v in cc)
return_same rules d fault n t t' back r q w (AtLine k x y z a i e) (Refuted l f) = absurd
    (k (conflicts_same t'.present t.present [] (same_clauses-back t.present t'.present w.present) l))
return_same rules d fault n t t' back r q w (AtLine k x y z a i e) (AtEnd l v f) = absurd (let h : [] ≡ x ∷ y = sym v ∙ z in cc)
return_same rules d fault n t t' back r q w (AtLine k x y z a i e) (AtLine l x' y' v b j f) =
    let h : x ∷ y ≡ x' ∷ y' = sym z ∙ v in
    let g : x ≡ x' = cc in
    let same = d.status t t' x a b w i (subst (λ (o : ProofLine). rules.wrong t' o b) (sym g) j) in
    e ∙ ap (λ o. Err (error_of o (step_number (suc n)))) same ∙ sym f

pub once : (rules : Rules) → AreDetermined rules → (e : Encoding) → CheckOnceBy rules e
once rules d e = λ s bytes r q t u a b.
    let p = same_lines a.lines b.lines a.fault b.fault (parsed e bytes) (only_parsed e bytes a.lines a.fault a.means)
    (only_parsed e bytes b.lines b.fault b.means) in
    let x = halts rules a.fault (length a.front) t a.back r a.stops in
    let y = subst (λ f. Halts rules f (length b.front) u b.back q) (sym p.1) (halts rules b.fault (length b.front) u b.back q b.stops) in
    let self : Same s s = record { present = same_clauses-self s.present; logged = refl } in
    let w = walk rules d a.fault (length a.front) (length b.front) a.front b.front a.back b.back r q s s t u self a.goes b.goes
    (sym a.splits ∙ p.0 ∙ b.splits) x y in
    let z = subst (λ k. Halts rules a.fault k u a.back q) (ap length (sym w.0))
    (subst (λ k. Halts rules a.fault (length b.front) u k q) (sym w.1) y) in
    (return_same rules d a.fault (length a.front) t u a.back r q w.2 x z, w.2.logged)

pub check_once : (e : Encoding) → CheckOnce e
check_once e = once strict_rules strict_determined e

-- 3. Lines that are all right, one after the other.

at_end : (fault : Option ℕ) (n : ℕ) (back : List ProofLine) (r : Result CheckVerdict CheckerError) (t s u : ProofState) → Same t s →
    TakesAll s back u → Halts strict_rules fault n t back r → (r ≡ refuted_result fault)
    ⊎ ((r ≡ ended_result fault) × (Conflicts u.present [] → ⊥) × (t.logged ≡ u.logged))
at_end fault n back r t s u w a (Refuted k e) = inl e
at_end fault n back r t s u w a (AtEnd k z e) =
    let same : s ≡ u = subst (λ ls. TakesAll s ls u) z a in
    let back' = subst (λ (x : ProofState). SameClauses x.present t.present) same (same_clauses-back t.present s.present w.present) in
    inr (e, (λ c. k (conflicts_same u.present t.present [] back' c)), w.logged ∙ ap (λ (x : ProofState). x.logged) same)
at_end fault n back r t s u w a (AtLine k line lines z status i e) =
    let b : TakesAll s (line ∷ lines) u = subst (λ ls. TakesAll s ls u) z a in
    absurd (wrong_taken t s line.kind line.clause status b.0 w i b.1)

taken_through : (fault : Option ℕ) (n : ℕ) (front back : List ProofLine) (r : Result CheckVerdict CheckerError) (s s' t u : ProofState) → Same s s' →
    Goes s front t → TakesAll s' (front ++ back) u → Halts strict_rules fault n t back r → (r ≡ refuted_result fault)
    ⊎ ((r ≡ ended_result fault) × (Conflicts u.present [] → ⊥) × (t.logged ≡ u.logged))
taken_through fault n [] back r s s' t u w g a h = at_end fault n back r t s' u (same_by t s' s s' (sym g) refl w) a h
taken_through fault n (l ∷ f) back r s s' t u w g a h =
    taken_through fault n f back r g.1 a.0 t u (same_taken s s' l.kind l.clause g.1 a.0 w g.2 a.1) g.3 a.2 h

through : (s : ProofState) (lines front back : List ProofLine) (u : ProofState) (r : Result CheckVerdict CheckerError) (t : ProofState)
    (fault : Option ℕ) → lines ≡ front ++ back → Goes s front t → StopsCheck fault (length front) t back r →
    ((r ≡ Ok Refutation) ⊎ ((r ≡ Ok Derivation) × (Conflicts u.present [] → ⊥) × (t.logged ≡ u.logged))) →
    GoesThrough s lines r t × (Conflicts u.present [] → r ≡ Ok Refutation)
through s lines front back u (Ok Refutation) t fault e g k x = ((front, back, e, g, k.1), λ _. refl)
through s lines front back u (Ok Derivation) t fault e g k x = (
  (subst (λ ls. Goes s ls t) (sym (e ∙ ap (λ ls. front ++ ls) k.1 ∙ append-nil front)) g, k.2),
  λ c. ⊎_elim (λ q. q) (λ (q, none, logged). absurd (none c)) x,
)
through s lines front back u (Err error) t fault e g k x = absurd (⊎_elim
    (λ q. let z : Err error ≡ Ok Refutation = q in cc)
    (λ (q, none, logged). let z : Err error ≡ Ok Derivation = q in cc)
    x)

pub check_through : (e : Encoding) → CheckGoesThrough e
check_through e = λ s bytes lines u r t m a k.
    let p = same_lines lines k.lines None k.fault (parsed e bytes) (only_parsed e bytes lines None m) (only_parsed e bytes k.lines k.fault k.means) in
    let h = subst (λ f. Halts strict_rules f (length k.front) t k.back r) (sym p.1) (halts strict_rules k.fault (length k.front) t k.back r k.stops) in
    let self : Same s s = record { present = same_clauses-self s.present; logged = refl } in
    through s lines k.front k.back u r t k.fault (p.0 ∙ k.splits) k.goes k.stops
    (taken_through None (length k.front) k.front k.back r s s t u self k.goes (subst (λ ls. TakesAll s ls u) (p.0 ∙ k.splits) a) h)
