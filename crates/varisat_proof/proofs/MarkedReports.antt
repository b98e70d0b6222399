-- What a report says is true.
use Rattle.std.proofs.Common.{◌≡◌, true, ℕ, zero, suc, ◌+◌, ◌≤◌, List, [], ◌∷◌, ◌++◌, length, take, refl, sym, ap, subst, ⊎_elim, inl, Ok, arith, take_all}
use Rattle.varisat_theory.specs.promises.Membership.{◌∈◌}
use Rattle.varisat_theory.specs.promises.Literals.{Literal, Clause, Assignment, SatisfiesAll, IsSatisfiable, IsSatisfiableWith}
use Rattle.varisat_theory.proofs.clauses.Members.{∈-append_cases, ∈-append_right}
use Rattle.varisat_theory.proofs.clauses.Assigned.{satisfies_more, satisfies_fewer}
use Rattle.varisat_theory.proofs.clauses.Sound.{conflicts_sound, follows_entails, takes_less}
use Rattle.varisat_lines.specs.declared.format.LineKind.{LineKind}
use Rattle.varisat_lines.specs.declared.format.LineKind.TheVariants.{Adds, Deletes, Accepts, Assumes, Fails}
use Rattle.varisat_lines.specs.declared.format.Encoding.TheVariants.{Text}
use Rattle.varisat_proof.specs.declared.checker.error.CheckVerdict.{CheckVerdict}
use Rattle.varisat_proof.specs.declared.checker.error.CheckVerdict.TheVariants.{Refutation}
use Rattle.varisat_proof.specs.declared.checker.marked.MarkedReport.{MarkedReport}
use Rattle.varisat_lines.specs.promises.Lines.{ProofLine}
use Rattle.varisat_proof.specs.promises.Marked.{MarkedLog, ProofState, nothing_logged, TakesKind, Goes, StopsCheck, IsCheckOf, state_of}
use Rattle.varisat_proof.specs.promises.Calls.{core_lists, IsMarkedResult, IsTrueReport}

satisfies_right : (a : Assignment) (P Q : List Clause) → SatisfiesAll a (P ++ Q) → SatisfiesAll a Q
satisfies_right a P Q s c m = s c (∈-append_right c P Q m)

length_more : (cs : List Clause) (c : Clause) → length (cs ++ c ∷ []) ≡ length cs + 1
length_more [] c = refl
length_more (x ∷ cs) c = let e = length_more cs c in omega (arith, e)

take_front : (n : ℕ) (cs : List Clause) (c : Clause) → n ≤ length cs → take n (cs ++ c ∷ []) ≡ take n cs
take_front zero cs c h = refl
take_front (suc n) [] c h = absurd (omega arith)
take_front (suc n) (x ∷ cs) c h = ap (λ ys. x ∷ ys) (take_front n cs c (omega arith))

-- What satisfies the clauses at the start and those given satisfies what is present, and no core is satisfied together with those given before it.
record IsSound (P : List Clause) (s : ProofState) : Type 0 where
  present : (a : Assignment) → SatisfiesAll a P → SatisfiesAll a s.logged.inputs.clauses → SatisfiesAll a s.present
  before : (core : ℕ × List Literal) → core ∈ s.logged.cores → core.0 ≤ length s.logged.inputs.clauses
  cores : (core : ℕ × List Literal) → core ∈ s.logged.cores → IsSatisfiableWith (P ++ take core.0 s.logged.inputs.clauses) core.1 → ⊥

sound_start : (P : List Clause) → IsSound P (state_of P nothing_logged)
sound_start P = record { present = λ a s t. s; before = λ core m. absurd m; cores = λ core m. absurd m }

sound_line : (P : List Clause) (s : ProofState) (kind : LineKind) (c : Clause) (t : ProofState) → IsSound P s → TakesKind s kind c t → IsSound P t
sound_line P s Adds c t w h = subst (λ x. IsSound P x) (sym h.1) (record {
  present = λ a p i. satisfies_more a s.present c (w.present a p i) (follows_entails s.present c h.0 a (w.present a p i));
  before = w.before;
  cores = w.cores;
})
sound_line P s Deletes c t w h = subst (λ x. IsSound P x) (sym h.2) (record {
  present = λ a p i d m. w.present a p i d (takes_less s.present c h.0 h.1 d m);
  before = w.before;
  cores = w.cores;
})
sound_line P s Accepts c t w h = subst (λ x. IsSound P x) (sym h) (record {
  present = λ a p i. satisfies_more a s.present c (w.present a p (satisfies_fewer a s.logged.inputs.clauses (c ∷ []) i))
      (satisfies_right a s.logged.inputs.clauses (c ∷ []) i c (inl refl));
  before = λ core m. let e = length_more s.logged.inputs.clauses c in let b = w.before core m in omega (arith, e, b);
  cores = λ core m k. w.cores core m (subst (λ x. IsSatisfiableWith (P ++ x) core.1) (take_front core.0 s.logged.inputs.clauses c (w.before core m)) k);
})
sound_line P s Assumes c t w h = subst (λ x. IsSound P x) (sym h) (record { present = w.present; before = w.before; cores = w.cores })
sound_line P s Fails c t w h = subst (λ x. IsSound P x) (sym h.2) (record {
  present = w.present;
  before = λ core m. ⊎_elim (λ k. w.before core k) (λ k. ⊎_elim (λ e. let f = ap (λ x. x.0) e in omega (arith, f)) (λ z. absurd z) k)
      (∈-append_cases core s.logged.cores ((length s.logged.inputs.clauses, c) ∷ []) m);
  cores = λ core m. ⊎_elim (λ k. w.cores core k) (λ k. ⊎_elim (λ e. fails core e) (λ z. absurd z) k)
      (∈-append_cases core s.logged.cores ((length s.logged.inputs.clauses, c) ∷ []) m);
})
  where
    all : List Clause
    all = s.logged.inputs.clauses

    fails_here : IsSatisfiableWith (P ++ take (length all) all) c → ⊥
    fails_here k =
        let i = subst (λ x. SatisfiesAll k.0 (P ++ x)) (take_all (length all) all (omega arith)) k.1 in
        conflicts_sound s.present c k.0 (w.present k.0 (satisfies_fewer k.0 P all i) (satisfies_right k.0 P all i)) k.2 h.1

    fails : (core : ℕ × List Literal) → core ≡ (length all, c) → IsSatisfiableWith (P ++ take core.0 all) core.1 → ⊥
    fails core e k = fails_here (subst (λ x. IsSatisfiableWith (P ++ take x.0 all) x.1) e k)

goes_sound : (P : List Clause) (lines : List ProofLine) (s t : ProofState) → IsSound P s → Goes s lines t → IsSound P t
goes_sound P [] s t w g = subst (λ x. IsSound P x) g w
goes_sound P (line ∷ lines) s t w g = goes_sound P lines g.1 t (sound_line P s line.kind line.clause g.1 w g.2) g.3

-- a refutation is one of the clauses at the start and those that were given
pub refutation_sound : (P Q : List Clause) (bytes : List ℕ) (logged : MarkedLog) (v : CheckVerdict) → v ≡ Refutation →
    IsCheckOf (Text true) (state_of P nothing_logged) bytes (Ok v) (state_of Q logged) → IsSatisfiable (P ++ logged.inputs.clauses) → ⊥
refutation_sound P Q bytes logged v e k (a, i) =
    let s : ProofState = state_of P nothing_logged in
    let t : ProofState = state_of Q logged in
    let w = goes_sound P k.front s t (sound_start P) k.goes in
    let h = subst (λ v. StopsCheck k.fault (length k.front) t k.back (Ok v)) e k.stops in
    conflicts_sound Q [] a (w.present a (satisfies_fewer a P logged.inputs.clauses i) (satisfies_right a P logged.inputs.clauses i)) (λ l m. absurd m) h.1

-- a report is true
pub report_true : {A : Type 0} (P Q : List Clause) (bytes : List ℕ) (report : MarkedReport A) → IsMarkedResult P bytes (Ok report) Q → IsTrueReport P report
report_true P Q bytes report (assumed, k) =
    let s : ProofState = state_of P nothing_logged in
    let t : ProofState = record { present = Q; logged = record { assumed = assumed; inputs = report.inputs; cores = core_lists report.cores.items } } in
    let w = goes_sound P k.front s t (sound_start P) k.goes in
    record {
      refutation = λ e i. refutation_sound P Q bytes t.logged report.verdict e k i;
      cores = w.cores;
    }
