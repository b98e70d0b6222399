-- A check of DRAT lines has one result.
use Rattle.std.proofs.Common.{◌≡◌, List, [], ◌∷◌, ◌++◌, ◌⊎◌, inl, inr, ⊎_elim, sym, ◌∙◌, subst, refl, eq-eqb, ne_eqb}
use Rattle.varisat_theory.specs.promises.Membership.{◌∈◌, ◌⊆◌}
use Rattle.varisat_theory.specs.promises.Literals.{Literal, Clause, opposite}
use Rattle.varisat_theory.specs.promises.Analysis.{Implied, Known, ByReason}
use Rattle.varisat_theory.specs.promises.Derivations.{TakesOut}
use Rattle.varisat_theory.specs.promises.Held.{SameClauses}
use Rattle.varisat_theory.specs.promises.Rat.{put_unless, but_for}
use Rattle.varisat_theory.proofs.clauses.Members.{equal_or_not, ∈-append_cases, ∈-append_left, ∈-append_right}
use Rattle.varisat_theory.proofs.clauses.RatLines.{but_for-∈}
use Rattle.varisat_theory.proofs.clauses.Held.{same_set-self, same_set-through, takes_from, same_clauses_find, same_clauses-back, follows_same, same_add, takes_out_unique}
use Rattle.varisat_plain.specs.promises.Checking.{IsAbsent}
use Rattle.varisat_rat.specs.promises.Resolving.{IsForced, IsRatOnSome}
use Rattle.varisat_lines.specs.declared.format.Encoding.{Encoding}
use Rattle.varisat_lines.specs.declared.format.LineKind.{LineKind}
use Rattle.varisat_lines.specs.declared.format.LineKind.TheVariants.{Adds, Deletes, Accepts, Assumes, Fails}
use Rattle.varisat_proof.specs.declared.checker.line.LineStatus.{LineStatus}
use Rattle.varisat_proof.specs.declared.checker.line.LineStatus.TheVariants.{Unproved}
use Rattle.varisat_proof.specs.promises.Marked.{CheckOnceBy}
use Rattle.varisat_proof.specs.promises.DratChecks.{TakesDratKind, IsWrongDratKind, drat_rules}
use Rattle.varisat_proof.proofs.MarkedOnce.{AreDetermined, once}

-- 1. The same clauses, in any order.
implied_same : (P Q : List Clause) (l : Literal) → SameClauses P Q → Implied P [] l → Implied Q [] l
implied_same P Q l s (Known i) = absurd i
implied_same P Q l s (ByReason c i j h) =
    let f = same_clauses_find P Q s c i in
    ByReason f.0 f.1 (f.2.1 l j) (λ m k n. implied_same P Q (opposite m) s (h m (f.2.0 m k) n))

forced_same : (P Q : List Clause) (c : Clause) → SameClauses P Q → IsForced P c → IsForced Q c
forced_same P Q c s w = (w.0, w.1, λ m i. ⊎_elim (λ e. inl e) (λ h. inr (implied_same P Q (opposite m) s h)) (w.2 m i))

in_but_for : (l : Literal) (d : Clause) (m : Literal) → m ∈ d → (m ≡ l → ⊥) → m ∈ but_for l d
in_but_for l [] m k n = absurd k
in_but_for l (x ∷ d) m k n =
    ⊎_elim
    (λ e. subst (λ b. m ∈ put_unless b x (but_for l d)) (sym (eq-eqb x l e)) (⊎_elim (λ q. absurd (n (q ∙ e))) (λ i. in_but_for l d m i n) k))
    (λ u. subst (λ b. m ∈ put_unless b x (but_for l d)) (sym (ne_eqb x l u)) (⊎_elim (λ q. inl q) (λ i. inr (in_but_for l d m i n)) k))
    (equal_or_not x l)

rest_part : (c : Clause) (l : Literal) (d e : Clause) → d ⊆ e → (c ++ but_for l d) ⊆ (c ++ but_for l e)
rest_part c l d e p = λ x m.
    ⊎_elim (λ i. ∈-append_left x c (but_for l e) i)
    (λ i. let h = but_for-∈ l d x i in ∈-append_right x c (but_for l e) (in_but_for l e x (p x h.0) h.1)) (∈-append_cases x c (but_for l d) m)

rat_same : (P Q : List Clause) (c : Clause) → SameClauses P Q → IsRatOnSome P c → IsRatOnSome Q c
rat_same P Q c s w =
    let o = opposite w.0 in (
      w.0,
      w.1,
      λ d i j. let f = same_clauses_find Q P (same_clauses-back P Q s) d i in
          follows_same P Q (c ++ but_for o f.0) (c ++ but_for o d) s (rest_part c o f.0 d f.2.0, rest_part c o d f.0 f.2.1) (w.2 f.0 f.1 (f.2.1 o j)),
    )

-- 2. One line.
-- what is passed over in the one is not taken out of the other
not_taken_out : (P Q : List Clause) (c : Clause) (R : List Clause) → SameClauses P Q → IsAbsent P c ⊎ IsForced P c → TakesOut Q c R × (IsForced Q c → ⊥) → ⊥
not_taken_out P Q c R s (inl h) k =
    let t = takes_from Q c R k.0 in
    let u = same_clauses_find Q P (same_clauses-back P Q s) t.0 t.1 in
    h u.0 u.1 (same_set-through u.0 t.0 c u.2 t.2)
not_taken_out P Q c R s (inr h) k = k.1 (forced_same P Q c s h)

same_by : (P Q R S : List Clause) → R ≡ P → S ≡ Q → SameClauses P Q → SameClauses R S
same_by P Q R S e f s = subst (λ X. SameClauses X S) (sym e) (subst (λ Y. SameClauses P Y) (sym f) s)

deleted : (P Q : List Clause) (c : Clause) (R S : List Clause) → SameClauses P Q → TakesDratKind P Deletes c R → TakesDratKind Q Deletes c S → SameClauses R S
deleted P Q c R S s (inl h) (inl k) = same_by P Q R S h.1 k.1 s
deleted P Q c R S s (inl h) (inr k) = absurd (not_taken_out P Q c S s h.0 k)
deleted P Q c R S s (inr h) (inl k) = absurd (not_taken_out Q P c R (same_clauses-back P Q s) k.0 h)
deleted P Q c R S s (inr h) (inr k) = takes_out_unique P Q c R S s h.0 k.0

taken : (P Q : List Clause) (kind : LineKind) (c : Clause) (R S : List Clause) → SameClauses P Q → TakesDratKind P kind c R → TakesDratKind Q kind c S →
    SameClauses R S
taken P Q Adds c R S s h k = same_by (P ++ (c ∷ [])) (Q ++ (c ∷ [])) R S h.1 k.1 (same_add P Q c c s (same_set-self c))
taken P Q Deletes c R S s h k = deleted P Q c R S s h k
taken P Q Accepts c R S s h k = same_by P Q R S h k s
taken P Q Assumes c R S s h k = same_by P Q R S h k s
taken P Q Fails c R S s h k = same_by P Q R S h k s

refused : (P Q : List Clause) (kind : LineKind) (c : Clause) (status : LineStatus) (R : List Clause) → SameClauses P Q → IsWrongDratKind P kind c status →
    TakesDratKind Q kind c R → ⊥
refused P Q Adds c Unproved R s h k =
    let b = same_clauses-back P Q s in
    ⊎_elim (λ f. h.0 (follows_same Q P c c b (same_set-self c) f)) (λ r. h.1 (rat_same Q P c b r)) k.0
refused P Q kind c status R s h k = absurd h

adds_status : (P : List Clause) (c : Clause) (a : LineStatus) → IsWrongDratKind P Adds c a → a ≡ Unproved
adds_status P c Unproved h = refl
adds_status P c a h = absurd h

same_status : (P Q : List Clause) (kind : LineKind) (c : Clause) (a b : LineStatus) → IsWrongDratKind P kind c a → IsWrongDratKind Q kind c b → a ≡ b
same_status P Q Adds c a b h k = adds_status P c a h ∙ sym (adds_status Q c b k)
same_status P Q kind c a b h k = absurd h

-- 3. All lines.
drat_determined : AreDetermined drat_rules
drat_determined = record {
  taken = λ s s' line r r' w h k. record {
    present = taken s.present s'.present line.kind line.clause r.present r'.present w.present h.0 k.0;
    logged = h.1 ∙ w.logged ∙ sym k.1;
  };
  refused = λ s s' line status r w h k. refused s.present s'.present line.kind line.clause status r.present w.present h k.0;
  status = λ s s' line a b w h k. same_status s.present s'.present line.kind line.clause a b h k;
}

pub drat_once : (e : Encoding) → CheckOnceBy drat_rules e
drat_once e = once drat_rules drat_determined e
