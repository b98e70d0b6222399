-- Numbers that are put on lines of a bounded length, one after the other.
use Rattle.std.proofs.Common.{◌≡◌, ℕ, zero, suc, ◌+◌, ◌<◌, ◌≤◌, List, [], ◌∷◌, ◌++◌, get_or, drop, length, refl, sym, ap, ◌∙◌, append_assoc, arith}
use Rattle.varisat_theory.specs.promises.Literals.{Literal}
use Rattle.varisat_literals.specs.promises.Numbers.{literal_text}
use Rattle.varisat_solve.specs.promises.Wrapping.{placed, room_behind, wrapped_text}

drop-item : (ls : List ℕ) (i v : ℕ) → i < length ls → v ≡ get_or ls i v → drop i ls ≡ v ∷ drop (i + 1) ls
drop-item [] i v h e = absurd (omega (arith, h))
drop-item (x ∷ ls) zero v h e = ap (λ y. y ∷ ls) (sym e)
drop-item (x ∷ ls) (suc i) v h e = drop-item ls i v (omega (arith, h)) e ∙ ap (λ k. v ∷ drop k (x ∷ ls)) (more i)
  where
    more : (i : ℕ) → suc (i + 1) ≡ suc i + 1
    more i = omega arith

-- behind what is put, the number and what comes behind it are what was left
pub one-more : (ls : List Literal) (i v room : ℕ) (front whole : List ℕ) → i < length ls → v ≡ get_or ls i v →
    front ++ wrapped_text room (drop i ls) ≡ whole →
    (front ++ placed room (literal_text v)) ++ wrapped_text (room_behind room (length (literal_text v))) (drop (i + 1) ls) ≡ whole
one-more ls i v room front whole h k e =
    append_assoc front (placed room (literal_text v)) (wrapped_text (room_behind room (length (literal_text v))) (drop (i + 1) ls))
    ∙ ap (λ xs. front ++ wrapped_text room xs) (sym (drop-item ls i v h k)) ∙ e

-- behind the last number comes 0
pub all-put : (ls : List Literal) (i room : ℕ) (front whole : List ℕ) → length ls ≤ i → front ++ wrapped_text room (drop i ls) ≡ whole →
    front ++ wrapped_text room [] ≡ whole
all-put [] i room front whole h e = ap (λ xs. front ++ wrapped_text room xs) (sym (none i)) ∙ e
  where
    none : (i : ℕ) → drop {A = ℕ} i [] ≡ []
    none zero = refl
    none (suc i) = refl
all-put (x ∷ ls) zero room front whole h e = absurd (omega (arith, h))
all-put (x ∷ ls) (suc i) room front whole h e = all-put ls i room front whole (omega (arith, h)) e
