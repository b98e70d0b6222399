-- A loop that looks for a literal of a clause: one is found, or none is such so far.
use Rattle.std.proofs.Common.{◌≡◌, ℕ, ◌+◌, ◌<◌, true, IsTrue, ◌↔◌, List, length, get_or, take, ⊎_elim, refl, sym, ◌∙◌, subst}
use Rattle.varisat_theory.specs.promises.Membership.{◌∈◌}
use Rattle.varisat_theory.proofs.clauses.Places.{∈-take_more}
use Rattle.varisat_prop.proofs.views.ReadElements.{element, item-∈}

module _ (P : ℕ → Type 0) (lits : List ℕ) {k l : ℕ} (inside : k < length lits) (read : l ≡ get_or lits k l) where
  pub one-found : P l → IsTrue true ↔ ((m : ℕ) × (m ∈ lits) × P m)
  one-found h = ((λ z. (l, item-∈ lits k l inside read, h)), (λ z. refl))

  pub none-so-far : ((m : ℕ) → m ∈ take k lits → P m → ⊥) → (P l → ⊥) → (m : ℕ) → m ∈ take (k + 1) lits → P m → ⊥
  none-so-far before refused m h t = ⊎_elim (λ i. before m i t) (λ e. refused (subst P (e ∙ sym (element lits k l inside read)) t)) (∈-take_more m lits k 0 h)
