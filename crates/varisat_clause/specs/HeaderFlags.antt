-- A header and its three words.
use Rattle.std.proofs.Common.{◌≡◌, ℕ, zero, suc, ◌+◌, ◌-◌, ◌*◌, ◌/◌, ◌%◌, ◌^◌, ◌<◌, nat_eq, refl, ap, arith}
use Rattle.varisat_clause.specs.declared.header.Tier.{Tier}
use Rattle.varisat_clause.specs.declared.header.Tier.TheVariants.{Irred, Core, Mid, Local}
use Rattle.varisat_clause.specs.declared.header.ClauseHeader.TheInside.{Inside}
use Rattle.varisat_clause.specs.Tiers.{tier_index, tier_of}
use Rattle.varisat_clause.specs.Headers.{header_of_words, bit, flags_of}

tier-back : (n : ℕ) → n < 4 → tier_index (tier_of n) ≡ n
tier-back zero h = refl
tier-back (suc zero) h = refl
tier-back (suc (suc zero)) h = refl
tier-back (suc (suc (suc zero))) h = refl
tier-back (suc (suc (suc (suc n)))) h = absurd (omega arith)

bit-back : (n : ℕ) → n < 2 → bit (nat_eq n 1) ≡ n
bit-back zero h = refl
bit-back (suc zero) h = refl
bit-back (suc (suc n)) h = absurd (omega arith)

-- the flags that a header was read from
pub flags-read : (f : ℕ) → f < 2 ^ 11 →
    tier_index (tier_of (f % 4)) + 4 * bit (nat_eq (f / 4 % 2) 1) + 8 * bit (nat_eq (f / 8 % 2) 1) + 16 *
    (f / 16 % 64) + 1024 * bit (nat_eq (f / 1024) 1) ≡ f
flags-read f h =
    let t = tier-back (f % 4) (omega arith) in
    let d = bit-back (f / 4 % 2) (omega arith) in
    let m = bit-back (f / 8 % 2) (omega arith) in
    let a = bit-back (f / 1024) (omega arith) in
    rw (t, d, m, a) (omega arith)

-- the words of a header are those that it was read from
pub flags-back : (h : Inside) → h.flags < 2 ^ 11 →
    record { activity = h.activity; flags = flags_of (header_of_words h.activity h.flags h.len); len = h.len } ≡ h
flags-back h small = rw (flags-read h.flags small) refl

-- the tier that is set is read back
pub tier-set : (t : Tier) (f : ℕ) → tier_of ((f - f % 4 + tier_index t) % 4) ≡ t
tier-set Irred f = let e : (f - f % 4 + 0) % 4 ≡ 0 = omega arith in ap tier_of e
tier-set Core f = let e : (f - f % 4 + 1) % 4 ≡ 1 = omega arith in ap tier_of e
tier-set Mid f = let e : (f - f % 4 + 2) % 4 ≡ 2 = omega arith in ap tier_of e
tier-set Local f = let e : (f - f % 4 + 3) % 4 ≡ 3 = omega arith in ap tier_of e

-- a tier fits two bits
pub tier-small : (t : Tier) → tier_index t < 4
tier-small Irred = omega arith
tier-small Core = omega arith
tier-small Mid = omega arith
tier-small Local = omega arith

-- the tier alone is set
pub tier-alone : (a f n : ℕ) (t : Tier) → f < 2 ^ 11 →
    header_of_words a (f - f % 4 + tier_index t) n ≡ record (header_of_words a f n) { tier = t }
tier-alone a f n t h =
    let s = tier-small t in
    let g : ℕ = f - f % 4 + tier_index t in
    let d : g / 4 ≡ f / 4 = omega (arith, s) in
    let m : g / 8 ≡ f / 8 = omega (arith, s) in
    let l : g / 16 ≡ f / 16 = omega (arith, s) in
    let x : g / 1024 ≡ f / 1024 = omega (arith, s) in
    rw (tier-set t f, d, m, l, x) refl
