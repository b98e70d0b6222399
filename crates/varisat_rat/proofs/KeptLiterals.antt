-- What is kept of the known literals as clauses come and go, and what questions find.
use Rattle.std.proofs.Common.{◌≡◌, ◌≢◌, ℕ, List, [], ◌∷◌, ◌++◌, ◌⊎◌, ◌↔◌, IsTrue, Bool, true, false, not, take, length, refl, sym, ap, ◌∙◌, subst, inl, inr, ⊎_elim}
use Rattle.std.proofs.lemmas.List.{append_assoc}
use Rattle.std.proofs.lemmas.Bool.{not-true}
use Rattle.varisat_theory.specs.promises.Membership.{◌∈◌, ◌⊆◌}
use Rattle.varisat_theory.specs.promises.Literals.{Literal, Clause, opposite, IsUnit}
use Rattle.varisat_theory.specs.promises.Propagation.{Conflicts, LeavesOnly, IsComplete, IsSaturated}
use Rattle.varisat_theory.specs.promises.Analysis.{Implied, Known, ByReason}
use Rattle.varisat_theory.specs.promises.Derivations.{TakesOut}
use Rattle.varisat_theory.proofs.clauses.Members.{equal_or_not, ∈-append_cases, ∈-append_left, ∈-append_right}
use Rattle.varisat_theory.proofs.clauses.Saturated.{saturated_no_conflict, complete_fewer}
use Rattle.varisat_theory.proofs.clauses.Implication.{implied_known, implied_clash, implied_more, implied_alone}
use Rattle.varisat_theory.proofs.clauses.Growth.{conflicts_known}
use Rattle.varisat_theory.proofs.clauses.Sound.{takes_less}
use Rattle.varisat_plain.proofs.Scans.{answers_true, answers_false}
use Rattle.varisat_present.specs.Knowing.{AreImplied, FindsConflict, Saturates, TakesBase}
use Rattle.varisat_rat.specs.inside.Asking.{Keeps, IsPropagatedTo, Asks, Sees, IsSpare}
use Rattle.varisat_present.proofs.KnownGrowth.{complete_both, grows_part, cut_back}

-- 1. A clause joins.
pub keeps_added : (b now : Bool) (P : List Clause) (c : Clause) (known : List Literal) → Keeps b P known →
    (now ≡ true → (b ≡ true) × IsComplete (c ∷ []) known) → Keeps now (P ++ (c ∷ [])) known
keeps_added b now P c known k h = record {
  no_clash = k.no_clash;
  implied = λ l m. implied_more P (P ++ (c ∷ [])) [] [] l (λ x i. ∈-append_left x P (c ∷ []) i) (λ x i. i) (k.implied l m);
  saturated = λ e. let w = h e in let s = k.saturated w.0 in record { no_clash = s.no_clash; complete = complete_both P c known s.complete w.1 };
}

-- 2. Nothing is kept.
pub keeps_nothing : (b : Bool) (P : List Clause) → b ≡ false → Keeps b P []
keeps_nothing b P f = record { no_clash = λ w. absurd w.1; implied = λ l m. absurd m; saturated = λ e. absurd cc }

pub keeps_none : (b : Bool) (P : List Clause) (known : List Literal) → b ≡ false → known ≡ [] → Keeps b P known
keeps_none b P known f e = subst (λ (x : List Literal). Keeps b P x) (sym e) (keeps_nothing b P f)

-- 3. A clause leaves.
pub implied_is_known : (P : List Clause) (known : List Literal) → IsSaturated P known → (l : Literal) → Implied P [] l → l ∈ known
implied_is_known P known s l (Known m) = absurd m
implied_is_known P known s l (ByReason c i j h) =
    s.complete.closed c l i j (λ m k. ⊎_elim inl (λ n. inr (implied_is_known P known s (opposite m) (h m k n))) (equal_or_not m l))

replaced : (Q : List Clause) (c : Clause) (known : List Literal) (l : Literal) → IsSpare Q known c → ((m : Literal) → m ∈ c → m ≢ l → opposite m ∈ known) →
    Implied Q [] l
replaced Q c known l (inl (x, y, i, j, d, a, b)) f =
    ⊎_elim (λ e. absurd (b (f y j (λ g. d (e ∙ sym g))))) (λ n. absurd (a (f x i n))) (equal_or_not x l)
replaced Q c known l (inr (x, u, i, a, v, w)) f =
    ⊎_elim (λ e. ByReason u v (subst (λ y. y ∈ u) e w.0) (λ m k n. absurd (n (w.1 m k ∙ e)))) (λ n. absurd (a (f x i n))) (equal_or_not x l)

spare_implied : (P Q : List Clause) (c d : Clause) (known : List Literal) → IsSaturated P known → ((x : Clause) → x ∈ P → (x ∈ Q) ⊎ (x ≡ d)) → c ⊆ d →
    IsSpare Q known c → (l : Literal) → Implied P [] l → Implied Q [] l
spare_implied P Q c d known s q t w l (Known m) = absurd m
spare_implied P Q c d known s q t w l (ByReason x i j h) =
    ⊎_elim
    (λ k. ByReason x k j (λ m a n. spare_implied P Q c d known s q t w (opposite m) (h m a n)))
    (λ e. replaced Q c known l w (λ m a n. implied_is_known P known s (opposite m) (h m (subst (λ y. m ∈ y) (sym e) (t m a)) n)))
    (q x i)

left_cases : (P : List Clause) (c : Clause) (Q : List Clause) (t : TakesOut P c Q) → (x : Clause) → x ∈ P → (x ∈ Q) ⊎ (x ≡ t.1)
left_cases P c Q t = λ x m.
    ⊎_elim
    (λ a. inl (subst (λ l. x ∈ l) (sym t.5) (∈-append_left x t.0 t.2 a)))
    (λ a. ⊎_elim inr (λ b. inl (subst (λ l. x ∈ l) (sym t.5) (∈-append_right x t.0 t.2 b))) a)
    (∈-append_cases x t.0 (t.1 ∷ t.2) (subst (λ l. x ∈ l) t.3 m))

pub keeps_without : (b : Bool) (P Q : List Clause) (c : Clause) (known : List Literal) → b ≡ true → TakesOut P c Q → IsSpare Q known c → Keeps b P known →
    Keeps b Q known
keeps_without b P Q c known e t w k =
    let s = k.saturated e in
    record {
      no_clash = k.no_clash;
      implied = λ l m. spare_implied P Q c t.1 known s (left_cases P c Q t) t.4.1 w l (k.implied l m);
      saturated = λ f. record { no_clash = s.no_clash; complete = complete_fewer P Q known (takes_less P c Q t) s.complete };
    }

-- 4. What the clauses alone imply.
pub keeps_found : (b : Bool) (P : List Clause) (old new : List Literal) (found now : Bool) → Keeps b P old → Saturates P old found new →
    (now ≡ true → found ≡ false) → Keeps now P new
keeps_found b P old new found now k s h = record {
  no_clash = s.finds.grows.no_clash;
  implied = s.finds.grows.implied [] k.implied;
  saturated = λ e. s.saturated (h e);
}

pub refuted_is : (b : Bool) (P : List Clause) (old new : List Literal) (found : Bool) → Keeps b P old → Saturates P old found new →
    IsTrue found ↔ Conflicts P []
refuted_is b P old new true k s = answers_true _ (implied_known P [] new (s.finds.grows.implied [] k.implied) (s.finds.conflict refl))
refuted_is b P old new false k s = answers_false _ (saturated_no_conflict P [] new (s.saturated refl) (λ l m. absurd m))

pub saturated_is : (b : Bool) (P : List Clause) (known : List Literal) → b ≡ true → Keeps b P known → IsTrue false ↔ Conflicts P []
saturated_is b P known e k = answers_false _ (saturated_no_conflict P [] known (k.saturated e) (λ l m. absurd m))

pub refuted_more : (P : List Clause) (base : List Literal) → Conflicts P [] → IsTrue true ↔ Conflicts P base
refuted_more P base c = answers_true _ (conflicts_known P [] base (λ l m. absurd m) c)

pub empty_is : (P : List Clause) (base : List Literal) → base ≡ [] → (Conflicts P [] → ⊥) → IsTrue false ↔ Conflicts P base
empty_is P base e n = answers_false _ (λ c. n (subst (Conflicts P) e c))

-- 5. Questions.
from_base : (P : List Clause) (old base mid : List Literal) (b : Bool) → AreImplied P [] old → TakesBase old base b mid → AreImplied P base mid
from_base P old base mid b h a = λ l m. ⊎_elim (λ i. implied_alone P base l (h l i)) (λ i. Known i) (a.from l m)

pub asks_clash : (P : List Clause) (old base new : List Literal) → AreImplied P [] old → TakesBase old base true new → Asks P old base true new
asks_clash P old base new h a =
    let (l, i, o) = a.clash refl in
    record {
      more = a.more;
      joined = a.joined;
      right = answers_true _ (implied_clash P base l (Known i) (from_base P old base new true h a (opposite l) o));
    }

asks_right : (P : List Clause) (old base mid new : List Literal) (found : Bool) → AreImplied P [] old → TakesBase old base false mid →
    Saturates P mid found new → IsTrue found ↔ Conflicts P base
asks_right P old base mid new true h a s = answers_true _ (implied_known P base new (s.finds.grows.implied base (from_base P old base mid false h a))
    (s.finds.conflict refl))
asks_right P old base mid new false h a s = answers_false _ (saturated_no_conflict P base new (s.saturated refl)
    (λ l m. grows_part P mid new s.finds.grows l (a.all refl l m)))

pub asks_saturated : (P : List Clause) (old base mid new : List Literal) (found : Bool) → AreImplied P [] old → TakesBase old base false mid →
    Saturates P mid found new → Asks P old base found new
asks_saturated P old base mid new found h a s = record {
  more = a.more ++ s.finds.grows.more;
  joined = s.finds.grows.joined ∙ ap (λ x. x ++ s.finds.grows.more) a.joined ∙ append_assoc old a.more s.finds.grows.more;
  right = asks_right P old base mid new found h a s;
}

pub sees_clash : (P : List Clause) (old base new : List Literal) → AreImplied P [] old → TakesBase old base true new → Sees P old base true new
sees_clash P old base new h a = let w = asks_clash P old base new h a in record { more = w.more; joined = w.joined; right = w.right.0 }

pub sees_found : (P : List Clause) (old base mid new : List Literal) (seen : Bool) → AreImplied P [] old → TakesBase old base false mid →
    FindsConflict P mid seen new → Sees P old base seen new
sees_found P old base mid new seen h a f = record {
  more = a.more ++ f.grows.more;
  joined = f.grows.joined ∙ ap (λ x. x ++ f.grows.more) a.joined ∙ append_assoc old a.more f.grows.more;
  right = λ t. implied_known P base new (f.grows.implied base (from_base P old base mid false h a)) (f.conflict t);
}

pub keeps_after : (b : Bool) (P : List Clause) (old base new : List Literal) (seen : Bool) (n : ℕ) → n ≡ length old → Keeps b P old →
    Sees P old base seen new → Keeps b P (take n new)
keeps_after b P old base new seen n e k a =
    subst (λ (x : List Literal). Keeps b P x) (sym (ap (λ i. take i new) e ∙ cut_back old new a.more a.joined)) k

pub keeps_cut : (b : Bool) (P : List Clause) (old base new : List Literal) (found : Bool) (n : ℕ) → n ≡ length old → Keeps b P old →
    Asks P old base found new → Keeps b P (take n new)
keeps_cut b P old base new found n e k a =
    subst (λ (x : List Literal). Keeps b P x) (sym (ap (λ i. take i new) e ∙ cut_back old new a.more a.joined)) k

-- 6. Rewritten.
pub spare_left : (P : List Clause) (known : List Literal) (c : Clause) (code l : Literal) → l ≡ code → (code ∈ c) × (opposite code ∈ known → ⊥)
    × LeavesOnly known c code → ((d : Clause) × (d ∈ P) × IsUnit l d) → IsSpare P known c
spare_left P known c code l q w u = inr (code, u.0, w.0, w.1, u.1, subst (λ (x : Literal). IsUnit x u.0) q u.2)

pub saturates_there : (P Q : List Clause) (old new : List Literal) (found : Bool) → P ≡ Q → Saturates P old found new → Saturates Q old found new
saturates_there P Q old new found e s = subst (λ (x : List Clause). Saturates x old found new) e s

pub found_there : (P Q : List Clause) (base other : List Literal) (found : Bool) → P ≡ Q → base ≡ other → IsTrue found ↔ Conflicts P base →
    IsTrue found ↔ Conflicts Q other
found_there P Q base other found e f h = subst (λ (x : List Clause). IsTrue found ↔ Conflicts x other) e
    (subst (λ (b : List Literal). IsTrue found ↔ Conflicts P b) f h)

-- 7. Propagation to the end.
pub propagated_found : (b : Bool) (P : List Clause) (old new : List Literal) (found : Bool) → Keeps b P old → Saturates P old found new → IsPropagatedTo P found new
propagated_found b P old new found k s = record {
  keeps = keeps_found b P old new found (not found) k s (not-true found);
  right = refuted_is b P old new found k s;
}

pub propagated_already : (b : Bool) (P : List Clause) (known : List Literal) → b ≡ true → Keeps b P known → IsPropagatedTo P false known
propagated_already b P known e k = record {
  keeps = subst (λ (x : Bool). Keeps x P known) e k;
  right = saturated_is b P known e k;
}
