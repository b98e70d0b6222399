-- Sets of numbers as bits.
use Rattle.std.proofs.Common.{◌≡◌, ℕ, ◌*◌, ◌/◌, ◌%◌, ◌^◌, ◌<◌, ◌≤◌, Bool, true, false, nat_eq, List, length, get_or, set, sym, ap, ◌∙◌, refl, arith, ⊎_elim}
use Rattle.std.specs.Int.{bit_at, bit_not, w64}
use lib.Bits.{bit_and, bit_or}
use Rattle.std.proofs.lemmas.Nat.Bits.{shr_and_one, bit_at-zero, bit_at_set_same, bit_at_set_other, bit_at_clear_same, bit_at_clear_other}
use Rattle.std.proofs.lemmas.List.{get_or-set_same, get_or-set_other, get_or_past, get_or_default}
use Rattle.std.proofs.lemmas.Nat.{div-add-mod'}
use Rattle.varisat_theory.proofs.clauses.Members.{equal_or_not}
use Rattle.varisat_names.specs.promises.Maps.{updated}
use Rattle.varisat_names.specs.inside.NumberSets.{holds}
use Rattle.varisat_names.proofs.Maps.{updated-all}

-- numbers with the same words
pub same-words : (old new : List ℕ) → ((p : ℕ) → get_or new p 0 ≡ get_or old p 0) → (i : ℕ) → holds new i ≡ holds old i
same-words old new h i = ap (λ w. nat_eq (bit_at w (i % 64)) 1) (h (i / 64))

-- one word with another bit
pub put-bit : (words : List ℕ) (k place word : ℕ) (v : Bool) → place ≡ k / 64 → place < length words → nat_eq (bit_at word (k % 64)) 1 ≡ v →
    ((j : ℕ) → j < 64 → (j ≡ k % 64 → ⊥) → bit_at word j ≡ bit_at (get_or words place 0) j) →
    (i : ℕ) → holds (set words place word) i ≡ updated (holds words) k v i
put-bit words k place word v e h here there i =
    let same : get_or (set words place word) place 0 ≡ word = get_or-set_same words place word 0 h in
    updated-all (λ i b. holds (set words place word) i ≡ b) (holds words) k v
    (ap (λ p. nat_eq (bit_at (get_or (set words place word) p 0) (k % 64)) 1) (sym e)
    ∙ ap (λ w. nat_eq (bit_at w (k % 64)) 1) same ∙ here)
    i
    (λ n. ⊎_elim
    (λ q. ap (λ p. nat_eq (bit_at (get_or (set words place word) p 0) (i % 64)) 1) q
    ∙ ap (λ w. nat_eq (bit_at w (i % 64)) 1) same
    ∙ ap (λ b. nat_eq b 1)
    (there (i % 64) (omega arith) (λ r. n (omega (arith, div-add-mod' i 64, div-add-mod' k 64, q, r, e))))
    ∙ ap (λ p. nat_eq (bit_at (get_or words p 0) (i % 64)) 1) (sym q))
    (λ m. ap (λ w. nat_eq (bit_at w (i % 64)) 1) (get_or-set_other words place (i / 64) word 0 m))
    (equal_or_not (i / 64) place))

-- the test of a bit
pub read-bit : (words : List ℕ) (k word : ℕ) → k / 64 < length words → word ≡ get_or words (k / 64) word → nat_eq (bit_and (word / 2 ^ (k % 64)) 1) 1 ≡ holds words k
read-bit words k word h r = ap (λ b. nat_eq b 1) (shr_and_one word (k % 64)) ∙ ap (λ w. nat_eq (bit_at w (k % 64)) 1) (r ∙ get_or_default words (k / 64) word 0 h)

-- a number past the words is not in the set
pub past-words : (words : List ℕ) (k : ℕ) → length words ≤ k / 64 → holds words k ≡ false
past-words words k h = ap (λ w. nat_eq (bit_at w (k % 64)) 1) (get_or_past words (k / 64) 0 h) ∙ ap (λ b. nat_eq b 1) (bit_at-zero (k % 64))

-- a number joins
pub set-bit : (words : List ℕ) (k word : ℕ) → k / 64 < length words → word ≡ get_or words (k / 64) word → (i : ℕ) →
    holds (set words (k / 64) (bit_or word (1 * 2 ^ (k % 64) % 2 ^ 64))) i ≡ updated (holds words) k true i
set-bit words k word h r = put-bit words k (k / 64) (bit_or word (1 * 2 ^ (k % 64) % 2 ^ 64)) true refl h
    (ap (λ b. nat_eq b 1) (bit_at_set_same w64 word (k % 64) (omega arith)))
    (λ j b n. bit_at_set_other w64 word (k % 64) (omega arith) j n ∙ ap (λ w. bit_at w j) (r ∙ get_or_default words (k / 64) word 0 h))

-- a number is in the set no longer
pub clear-bit : (words : List ℕ) (k word : ℕ) → k / 64 < length words → word ≡ get_or words (k / 64) word → (i : ℕ) →
    holds (set words (k / 64) (bit_and word (bit_not w64 (1 * 2 ^ (k % 64) % 2 ^ 64)))) i ≡ updated (holds words) k false i
clear-bit words k word h r = put-bit words k (k / 64) (bit_and word (bit_not w64 (1 * 2 ^ (k % 64) % 2 ^ 64))) false refl h
    (ap (λ b. nat_eq b 1) (bit_at_clear_same w64 word (k % 64) (omega arith)))
    (λ j b n. bit_at_clear_other w64 word (k % 64) (omega arith) j b n ∙ ap (λ w. bit_at w j) (r ∙ get_or_default words (k / 64) word 0 h))

pub clear-none : (words : List ℕ) (k : ℕ) → length words ≤ k / 64 → (i : ℕ) → holds words i ≡ updated (holds words) k false i
clear-none words k h i = updated-all (λ i b. holds words i ≡ b) (holds words) k false (past-words words k h) i (λ n. refl)
