-- Maps as lists.
use Rattle.std.proofs.Common.{◌≡◌, ℕ, zero, suc, ◌^◌, ◌<◌, ◌≤◌, if◌then◌else◌, Option, Some, None, List, [], ◌∷◌, length, take, sym, ap, ◌∙◌, refl, arith}
use Rattle.std.proofs.lemmas.Bool.{lt-ltb}
use Rattle.varisat_names.specs.promises.Maps.{updated, IsInverse}
use Rattle.varisat_names.specs.promises.VarMap.{at, mapped, IsPut}
use Rattle.varisat_names.proofs.Maps.{updated-all, updated-other, joined, parted, inverse-same}

pub at-inside : (xs : List (Option ℕ)) (i y : ℕ) → at xs i ≡ Some y → i < length xs
at-inside [] i y h = absurd cc
at-inside (x ∷ xs) zero y h = omega arith
at-inside (x ∷ xs) (suc i) y h = let r = at-inside xs i y h in omega (arith, r)

-- past the watermark nothing is mapped
pub at-past : (xs : List (Option ℕ)) (i : ℕ) → length xs ≤ i → at xs i ≡ None
at-past [] i h = refl
at-past (x ∷ xs) zero h = absurd omega (arith, h)
at-past (x ∷ xs) (suc i) h = at-past xs i (omega (arith, h))

pub joined-inverse : (f b f' b' : List (Option ℕ)) (k j : ℕ) → IsInverse (at f) (at b) → at f k ≡ None → at b j ≡ None → IsPut f k (Some j) f' →
    IsPut b j (Some k) b' → IsInverse (at f') (at b')
joined-inverse f b f' b' k j h m n p q = inverse-same (updated (at f) k (Some j)) (updated (at b) j (Some k)) (at f') (at b') p.at_each q.at_each
    (joined (at f) (at b) k j h m n)

pub parted-inverse : (f b f' b' : List (Option ℕ)) (k j : ℕ) → IsInverse (at f) (at b) → at f k ≡ Some j → IsPut f k None f' → IsPut b j None b' →
    IsInverse (at f') (at b')
parted-inverse f b f' b' k j h m p q = inverse-same (updated (at f) k None) (updated (at b) j None) (at f') (at b') p.at_each q.at_each
    (parted (at f) (at b) k j h m)

-- Of a map with a pair that came and went, the first entries are those of before.
came-and-went : (old mid new : List (Option ℕ)) (k v : ℕ) → at old k ≡ None → IsPut old k (Some v) mid → IsPut mid k None new →
    (i : ℕ) → at new i ≡ at old i
came-and-went old mid new k v free p q i = q.at_each i ∙ updated-all (λ j o. o ≡ at old j) (at mid) k None (sym free) i
    (λ n. p.at_each i ∙ updated-other (at old) k (Some v) i n)

cut-back : (old new : List (Option ℕ)) → length old ≤ length new → ((i : ℕ) → at new i ≡ at old i) → take (length old) new ≡ old
cut-back [] new h e = refl
cut-back (x ∷ old) [] h e = absurd omega (arith, h)
cut-back (x ∷ old) (y ∷ new) h e = ap (λ z. z ∷ take (length old) new) (e zero) ∙ ap (λ zs. x ∷ zs)
    (cut-back old new (omega (arith, h)) (λ i. e (suc i)))

pub as-before : (old mid new cut : List (Option ℕ)) (k v w : ℕ) → w ≡ length old → at old k ≡ None → IsPut old k (Some v) mid →
    (k < length mid → IsPut mid k None new) → cut ≡ take w new → cut ≡ old
as-before old mid new cut k v w e free p q c =
    let m = p.watermark in
    let put = q (omega (arith, m)) in
    let n = put.watermark in
    c ∙ ap (λ l. take l new) e ∙ cut-back old new (omega (arith, m, n)) (came-and-went old mid new k v free p put)

-- a variable stands for itself
pub mapped-variable : (code v : ℕ) → code ≡ v → code < 2 ^ 31 → mapped code ≡ Some v
mapped-variable code v e h = ap (λ b. if b then Some code else None) (lt-ltb code 0x8000_0000 h) ∙ ap Some e
