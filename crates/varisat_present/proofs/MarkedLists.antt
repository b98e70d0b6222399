-- Literals that are marked in turn.
use Rattle.std.proofs.Common.{◌≡◌, ℕ, ◌+◌, ◌≤◌, List, [], ◌∷◌, ◌++◌, take, length, get_or, inl, subst, sym, ⊎_elim}
use Rattle.varisat_theory.specs.promises.Membership.{◌∈◌, ◌⊆◌, SameSet}
use Rattle.varisat_theory.proofs.clauses.Members.{∈-append_left, ∈-append_right, ∈-append_cases}
use Rattle.varisat_plain.proofs.Scans.{part_more, part_all}

-- the marks are of the list, and have its first literals
pub record AreMarkedTo (i : ℕ) (ls marks : List ℕ) : Type 0 where
  pub within : marks ⊆ ls
  pub reached : take i ls ⊆ marks

pub none_marked : (ls marks : List ℕ) → marks ≡ [] → AreMarkedTo 0 ls marks
none_marked ls marks e = record { within = λ x h. absurd (subst (λ (m : List ℕ). x ∈ m) e h); reached = λ x h. absurd h }

-- the next one was marked before
pub marked_before : (i : ℕ) (ls marks : List ℕ) → get_or ls i 0 ∈ marks → AreMarkedTo i ls marks → AreMarkedTo (i + 1) ls marks
marked_before i ls marks h a = record { within = a.within; reached = part_more ls marks i a.reached h }

-- or is so now
pub marked_now : (i : ℕ) (ls marks after : List ℕ) (l : ℕ) → l ≡ get_or ls i 0 → l ∈ ls → after ≡ marks ++ l ∷ [] → AreMarkedTo i ls marks →
    AreMarkedTo (i + 1) ls after
marked_now i ls marks after l e h q a = subst (AreMarkedTo (i + 1) ls) (sym q) (record {
  within = λ x m. ⊎_elim (λ k. a.within x k) (λ k. ⊎_elim (λ z. subst (λ y. y ∈ ls) (sym z) h) (λ z. absurd z) k) (∈-append_cases x marks (l ∷ []) m);
  reached = part_more ls (marks ++ l ∷ []) i (λ x m. ∈-append_left x marks (l ∷ []) (a.reached x m))
      (subst (λ y. y ∈ (marks ++ l ∷ [])) e (∈-append_right l marks (l ∷ []) (inl (let z : l ≡ l = cc in z))));
})

pub all_marked : (i : ℕ) (ls marks : List ℕ) → length ls ≤ i → AreMarkedTo i ls marks → SameSet marks ls
all_marked i ls marks l a = (a.within, part_all ls marks i l a.reached)

-- a list is within the marks where it is within what was marked
pub within_marked : (part ls marks : List ℕ) → SameSet marks ls → (part ⊆ marks → part ⊆ ls) × (part ⊆ ls → part ⊆ marks)
within_marked part ls marks s = ((λ h x m. s.0 x (h x m)), (λ h x m. s.1 x (h x m)))
