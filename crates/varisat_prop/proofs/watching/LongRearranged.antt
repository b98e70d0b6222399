-- A clause's literals in another order.
use Rattle.std.proofs.Common.{◌≡◌, ◌≢◌, ℕ, ◌<◌, ◌⊎◌, ⊎_elim, length, get_or, refl, sym, ap, ◌∙◌, subst, arith}
use Rattle.std.specs.List.{swap}
use Rattle.std.proofs.lemmas.List.Edits.{Swapped, swapped_from_swap, length-swap}
use Rattle.varisat_theory.specs.promises.Membership.{◌∈◌, ◌⊆◌, IsDistinct}
use Rattle.varisat_theory.specs.promises.Literals.{Clause}
use Rattle.varisat_theory.proofs.clauses.Places.{∈-get_or, place_in}
use Rattle.varisat_theory.proofs.clauses.Members.{equal_or_not}
use Rattle.varisat_prop.proofs.pairs.DistinctPlaces.{distinct-places, distinct-by-places}
use Rattle.varisat_prop.specs.Watches.{literal_in, IsRearranged}

pub rearranged-refl : (c : Clause) → IsRearranged c c
rearranged-refl c = record { same = ((λ m h. h), (λ m h. h)); long = refl; distinct = λ h. h }

pub rearranged-trans : (c d e : Clause) → IsRearranged c d → IsRearranged d e → IsRearranged c e
rearranged-trans c d e a b = record {
  same = ((λ m h. a.same.0 m (b.same.0 m h)), (λ m h. b.same.1 m (a.same.1 m h)));
  long = b.long ∙ a.long;
  distinct = λ h. b.distinct (a.distinct h);
}

abbrev Exchanged : Clause → Clause → ℕ → ℕ → Type 0
Exchanged c d a b = Swapped (λ i. get_or c i 0) (λ i. get_or d i 0) a b

into : (c d : Clause) (a b : ℕ) → Exchanged c d a b → a < length c → b < length c → length d ≡ length c → d ⊆ c
into c d a b s p q n m h =
    let (k, l, e) = place_in m d 0 h in
    ⊎_elim
    (λ f. let g = ap (λ x. get_or d x 0) f in subst (λ x. x ∈ c) (sym s.0 ∙ sym g ∙ e) (∈-get_or c b 0 q))
    (λ f. ⊎_elim
    (λ g. let r = ap (λ x. get_or d x 0) g in subst (λ x. x ∈ c) (sym s.1 ∙ sym r ∙ e) (∈-get_or c a 0 p))
    (λ g. subst (λ x. x ∈ c) (sym (s.2 k f g) ∙ e) (∈-get_or c k 0 (omega (arith, l, n))))
    (equal_or_not k b))
    (equal_or_not k a)

apart : (c : Clause) → IsDistinct c → (i j : ℕ) → i ≢ j → i < length c → j < length c → get_or c i 0 ≢ get_or c j 0
apart c d i j n a b e =
    ⊎_elim
    (λ l. distinct-places c 0 d i j l b e)
    (λ l. distinct-places c 0 d j i l a (sym e))
    (order i j n)
  where
    order : (i j : ℕ) → i ≢ j → (i < j) ⊎ (j < i)
    order i j n = grind arith

stays : (c d : Clause) (a b : ℕ) → Exchanged c d a b → a < length c → b < length c → length d ≡ length c → IsDistinct c → IsDistinct d
stays c d a b s p q n u =
    distinct-by-places d 0 (λ i j l h e.
    let i' : i < length c = omega (arith, l, h, n) in
    let j' : j < length c = omega (arith, h, n) in
    ⊎_elim
    (λ f. let x : get_or d i 0 ≡ get_or c b 0 = ap (λ k. get_or d k 0) f ∙ s.0 in
    ⊎_elim
    (λ g. let y : get_or d j 0 ≡ get_or c a 0 = ap (λ k. get_or d k 0) g ∙ s.1 in apart c u b a (λ z. absurd (omega (arith, z, f, g, l))) q p (sym x ∙ e ∙ y))
    (λ g. let y = s.2 j (λ z. absurd (omega (arith, z, f, l))) g in apart c u b j (λ z. g (sym z)) q j' (sym x ∙ e ∙ y))
    (equal_or_not j b))
    (λ f. ⊎_elim
    (λ g. let x : get_or d i 0 ≡ get_or c a 0 = ap (λ k. get_or d k 0) g ∙ s.1 in
    ⊎_elim
    (λ r. let y : get_or d j 0 ≡ get_or c b 0 = ap (λ k. get_or d k 0) r ∙ s.0 in apart c u a b (λ z. absurd (omega (arith, z, g, r, l))) p q (sym x ∙ e ∙ y))
    (λ r. let y = s.2 j r (λ z. absurd (omega (arith, z, g, l))) in apart c u a j (λ z. r (sym z)) p j' (sym x ∙ e ∙ y))
    (equal_or_not j a))
    (λ g. let x = s.2 i f g in
    ⊎_elim
    (λ r. let y : get_or d j 0 ≡ get_or c b 0 = ap (λ k. get_or d k 0) r ∙ s.0 in apart c u i b g i' q (sym x ∙ e ∙ y))
    (λ r. ⊎_elim
    (λ v. let y : get_or d j 0 ≡ get_or c a 0 = ap (λ k. get_or d k 0) v ∙ s.1 in apart c u i a f i' p (sym x ∙ e ∙ y))
    (λ v. let y = s.2 j r v in apart c u i j (λ z. absurd (omega (arith, z, l))) i' j' (sym x ∙ e ∙ y))
    (equal_or_not j b))
    (equal_or_not j a))
    (equal_or_not i b))
    (equal_or_not i a))

pub swap-rearranged : (c d : Clause) (a b : ℕ) → a < length c → b < length c → d ≡ swap c a b → IsRearranged c d
swap-rearranged c d a b p q e =
    let s = swapped_from_swap c d a b 0 p q e in
    let n : length d ≡ length c = ap (λ (x : Clause). length x) e ∙ length-swap c a b in
    record {
      same = (into c d a b s p q n, into d c a b (sym s.1, sym s.0, λ m f g. sym (s.2 m f g)) (omega (arith, p, n)) (omega (arith, q, n)) (sym n));
      long = n;
      distinct = stays c d a b s p q n;
    }

-- the literals after a swap, by places
pub swap-at : (c d : Clause) (a b : ℕ) → a < length c → b < length c → d ≡ swap c a b → (literal_in d a ≡ literal_in c b)
    × (literal_in d b ≡ literal_in c a) × ((m : ℕ) → (m ≡ a → ⊥) → (m ≡ b → ⊥) → literal_in d m ≡ literal_in c m)
swap-at c d a b p q e = let s = swapped_from_swap c d a b 0 p q e in (s.0, s.1, s.2)
