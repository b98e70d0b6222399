-- Lines that lead from some clauses to those that are live.
use Rattle.std.proofs.Common.{◌≡◌, ℕ, zero, suc, ◌<◌, Bool, true, false, List, [], ◌∷◌, ◌++◌, inl, inr, ⊎_elim, sym, ap, ◌∙◌, subst, refl, length, get_or, set, append_assoc, append-nil, arith}
use Rattle.varisat_theory.specs.promises.Membership.{◌∈◌}
use Rattle.varisat_theory.specs.promises.Literals.{Literal, Clause, variable_of}
use Rattle.varisat_theory.specs.promises.Propagation.{Follows}
use Rattle.varisat_theory.specs.promises.Derivations.{Line, Add, Delete, TakesOut, IsDerivation, Refutes, SpeakOf}
use Rattle.varisat_theory.specs.promises.Held.{SameClauses}
use Rattle.varisat_theory.proofs.clauses.Members.{∈-append_cases}
use Rattle.varisat_theory.proofs.clauses.Held.{same_set-self, same_clauses-self, same_clauses-through, same_add, same_delete, follows_same}
use Rattle.varisat_theory.proofs.clauses.Lines.{derives_add, derives_delete, derives_append, derives_same, derives_derivation, derivation_derives, refutes_same, refutes_at, refutes_from, same_lines-self}
use Rattle.varisat_theory.proofs.journals.Spoken.{spoken_join}
use Rattle.varisat_rules.specs.promises.Leading.{LeadsTo, IsNamedBy, AreNamedBy, HasVariable, HasVariablesOf}
use Rattle.varisat_database.specs.Databases.{deletion}
use Rattle.varisat_rules.specs.inside.States.{flagged}

pub flagged_pushed : (bs : List Bool) (cs : List Clause) (b : Bool) (c : Clause) → length bs ≡ length cs →
    flagged (bs ++ b ∷ []) (cs ++ c ∷ []) ≡ flagged bs cs ++ flagged (b ∷ []) (c ∷ [])
flagged_pushed [] [] b c e = refl
flagged_pushed [] (d ∷ cs) b c e = absurd (omega (arith, e))
flagged_pushed (a ∷ bs) [] b c e = absurd (omega (arith, e))
flagged_pushed (true ∷ bs) (d ∷ cs) b c e = ap (λ (l : List Clause). d ∷ l) (flagged_pushed bs cs b c (omega (arith, e)))
flagged_pushed (false ∷ bs) (d ∷ cs) b c e = flagged_pushed bs cs b c (omega (arith, e))

-- what is flagged is among them
pub flagged_has : (bs : List Bool) (cs : List Clause) (k : ℕ) → length bs ≡ length cs → get_or bs k false ≡ true → get_or cs k [] ∈ flagged bs cs
flagged_has [] cs k e h = absurd (cc)
flagged_has (b ∷ bs) [] k e h = absurd (omega (arith, e))
flagged_has (true ∷ bs) (c ∷ cs) zero e h = inl refl
flagged_has (false ∷ bs) (c ∷ cs) zero e h = absurd (cc)
flagged_has (true ∷ bs) (c ∷ cs) (suc k) e h = inr (flagged_has bs cs k (omega (arith, e)) h)
flagged_has (false ∷ bs) (c ∷ cs) (suc k) e h = flagged_has bs cs k (omega (arith, e)) h

-- and each of them is
pub flagged_from : (bs : List Bool) (cs : List Clause) (c : Clause) → c ∈ flagged bs cs → (k : ℕ) × (get_or bs k false ≡ true) × (get_or cs k [] ≡ c) × (k < length cs)
flagged_from [] cs c h = absurd h
flagged_from (b ∷ bs) [] c h = absurd h
flagged_from (true ∷ bs) (d ∷ cs) c (inl e) = (0, refl, sym e, omega arith)
flagged_from (true ∷ bs) (d ∷ cs) c (inr h) = let r = flagged_from bs cs c h in let q = r.3 in (suc r.0, r.1, r.2, omega (arith, q))
flagged_from (false ∷ bs) (d ∷ cs) c h = let r = flagged_from bs cs c h in let q = r.3 in (suc r.0, r.1, r.2, omega (arith, q))

takes_later : (d : Clause) (P R : List Clause) (c : Clause) → TakesOut P c R → TakesOut (d ∷ P) c (d ∷ R)
takes_later d P R c (f, x, b, e, s, g) = (d ∷ f, x, b, ap (λ (l : List Clause). d ∷ l) e, s, ap (λ (l : List Clause). d ∷ l) g)

-- one that is flagged no longer is taken out
pub flagged_taken : (bs : List Bool) (cs : List Clause) (k : ℕ) → length bs ≡ length cs → get_or bs k false ≡ true →
    TakesOut (flagged bs cs) (get_or cs k []) (flagged (set bs k false) cs)
flagged_taken [] cs k e h = absurd (cc)
flagged_taken (b ∷ bs) [] k e h = absurd (omega (arith, e))
flagged_taken (true ∷ bs) (c ∷ cs) zero e h = ([], c, flagged bs cs, refl, same_set-self c, refl)
flagged_taken (false ∷ bs) (c ∷ cs) zero e h = absurd (cc)
flagged_taken (true ∷ bs) (c ∷ cs) (suc k) e h =
    takes_later c (flagged bs cs) (flagged (set bs k false) cs) (get_or cs k []) (flagged_taken bs cs k (omega (arith, e)) h)
flagged_taken (false ∷ bs) (c ∷ cs) (suc k) e h = flagged_taken bs cs k (omega (arith, e)) h

-- one that was not stays out
pub unflagged_same : (bs : List Bool) (k : ℕ) → get_or bs k false ≡ false → set bs k false ≡ bs
unflagged_same [] k h = refl
unflagged_same (b ∷ bs) zero h = ap (λ (a : Bool). a ∷ bs) (sym h)
unflagged_same (b ∷ bs) (suc k) h = ap (λ (l : List Bool). b ∷ l) (unflagged_same bs k h)

pub leads_self : (P : List Clause) → LeadsTo P [] P
leads_self P = record { present = P; steps = refl; same = same_clauses-self P }

pub leads_add : (P : List Clause) (lines : List Line) (Q : List Clause) (c : Clause) → Follows Q c → LeadsTo P lines Q →
    LeadsTo P (lines ++ Add c ∷ []) (Q ++ c ∷ [])
leads_add P lines Q c f r = record {
  present = r.present ++ c ∷ [];
  steps = derives_add P lines r.present c r.steps (follows_same Q r.present c c r.same (same_set-self c) f);
  same = same_add Q r.present c c r.same (same_set-self c);
}

pub leads_delete : (P : List Clause) (lines : List Line) (Q : List Clause) (c : Clause) (R : List Clause) → TakesOut Q c R → LeadsTo P lines Q →
    LeadsTo P (lines ++ Delete c ∷ []) R
leads_delete P lines Q c R t r =
    let q = same_delete Q r.present c R r.same t in
    record { present = q.0; steps = derives_delete P lines r.present c q.0 r.steps q.1; same = q.2 }

-- the clauses may be listed otherwise
pub leads_as : (P : List Clause) (lines : List Line) (Q R : List Clause) → SameClauses R Q → LeadsTo P lines Q → LeadsTo P lines R
leads_as P lines Q R s r = record { present = r.present; steps = r.steps; same = same_clauses-through R Q r.present s r.same }

-- a clause in the middle may stand at the end
pub middle_last : (xs : List Clause) (c : Clause) (ys : List Clause) → SameClauses (xs ++ c ∷ ys) ((xs ++ ys) ++ c ∷ [])
middle_last [] c ys = (ys, (ys, c, [], refl, same_set-self c, sym (append-nil ys)), same_clauses-self ys)
middle_last (x ∷ xs) c ys = ((xs ++ ys) ++ c ∷ [], ([], x, (xs ++ ys) ++ c ∷ [], refl, same_set-self x, refl), middle_last xs c ys)

-- A place is flagged no longer, and its line is there if it was.
pub leads_removed : (P : List Clause) (lines : List Line) (bs : List Bool) (cs : List Clause) (k : ℕ) → length bs ≡ length cs → LeadsTo P lines (flagged bs cs) →
    LeadsTo P (lines ++ deletion (get_or bs k false) (get_or cs k [])) (flagged (set bs k false) cs)
leads_removed P lines bs cs k e r = go (get_or bs k false) refl
  where
    go : (b : Bool) → get_or bs k false ≡ b → LeadsTo P (lines ++ deletion b (get_or cs k [])) (flagged (set bs k false) cs)
    go true q = leads_delete P lines (flagged bs cs) (get_or cs k []) (flagged (set bs k false) cs) (flagged_taken bs cs k e q) r
    go false q = subst (λ (l : List Line). LeadsTo P l (flagged (set bs k false) cs)) (sym (append-nil lines))
        (subst (λ (l : List Bool). LeadsTo P lines (flagged l cs)) (sym (unflagged_same bs k q)) r)

pub told_add : (P : List Clause) (lines : List Line) (c : Clause) → ((l : Literal) → l ∈ c → IsNamedBy P l) → SpeakOf (IsNamedBy P) lines →
    SpeakOf (IsNamedBy P) (lines ++ Add c ∷ [])
told_add P lines c n s = spoken_join (IsNamedBy P) lines (Add c ∷ []) s (n, tt)

pub told_removed : (P : List Clause) (lines : List Line) (b : Bool) (c : Clause) → ((l : Literal) → l ∈ c → IsNamedBy P l) → SpeakOf (IsNamedBy P) lines →
    SpeakOf (IsNamedBy P) (lines ++ deletion b c)
told_removed P lines true c n s = spoken_join (IsNamedBy P) lines (Delete c ∷ []) s (n, tt)
told_removed P lines false c n s = subst (λ (l : List Line). SpeakOf (IsNamedBy P) l) (sym (append-nil lines)) s

pub named_more : (P cs : List Clause) (c : Clause) → ((l : Literal) → l ∈ c → IsNamedBy P l) → AreNamedBy P cs → AreNamedBy P (cs ++ c ∷ [])
named_more P cs c n a d l h m = ⊎_elim
    (λ k. a d l k m)
    (λ k. ⊎_elim (λ e. n l (subst (λ (x : Clause). l ∈ x) e m)) (λ z. absurd z) k)
    (∈-append_cases d cs (c ∷ []) h)

-- one clause more, of variables that are not new
pub has_more : (P cs : List Clause) (c : Clause) → ((l : Literal) → l ∈ c → HasVariable P (variable_of l)) → HasVariablesOf P cs → HasVariablesOf P (cs ++ c ∷ [])
has_more P cs c n a d l h m = ⊎_elim
    (λ k. a d l k m)
    (λ k. ⊎_elim (λ e. n l (subst (λ (x : Clause). l ∈ x) e m)) (λ z. absurd z) k)
    (∈-append_cases d cs (c ∷ []) h)

-- the clause at a place, which may be none
pub named_at : (P cs : List Clause) (k : ℕ) → AreNamedBy P cs → (l : Literal) → l ∈ get_or cs k [] → IsNamedBy P l
named_at P cs k a l h = go cs k a l h
  where
    go : (xs : List Clause) (k : ℕ) → AreNamedBy P xs → (l : Literal) → l ∈ get_or xs k [] → IsNamedBy P l
    go [] k a l h = absurd h
    go (x ∷ xs) zero a l h = a x l (inl refl) h
    go (x ∷ xs) (suc k) a l h = go xs k (λ c m i j. a c m (inr i) j) l h

-- Behind lines that lead to some clauses, what is a derivation from these is one from all.
pub derives_behind : (P : List Clause) (lines : List Line) (Q : List Clause) (more : List Line) → LeadsTo P lines Q → IsDerivation Q more → IsDerivation P (lines ++ more)
derives_behind P lines Q more r d =
    let e = derivation_derives Q more d in
    let f = derives_same Q r.present more more e.0 r.same (same_lines-self more) e.1 in
    derives_derivation P (lines ++ more) f.0 (derives_append P lines r.present more f.0 r.steps f.1)

pub refutes_behind : (P : List Clause) (lines : List Line) (Q : List Clause) (more : List Line) → LeadsTo P lines Q → Refutes Q more → Refutes P (lines ++ more)
refutes_behind P lines Q more r d =
    let (front, back, R, e, p, k) = refutes_at r.present more (refutes_same Q r.present more more r.same (same_lines-self more) d) in
    refutes_from P (lines ++ more) (
      lines ++ front,
      back,
      R,
      ap (λ (l : List Line). lines ++ l) e ∙ sym (append_assoc lines front back),
      derives_append P lines r.present front R r.steps p,
      k,
    )
