-- What is left where variables leave, and its places.
use Rattle.std.proofs.Common.{◌≡◌, ℕ, zero, suc, ◌≤◌, Bool, true, false, not, List, [], ◌∷◌, length, get_or, set, take, refl, sym, ap, ◌∙◌, arith}
use Rattle.std.proofs.lemmas.List.Filters.{length-filter_both}
use Rattle.std.specs.Prelude.{if◌then◌else◌}
use Rattle.std.proofs.lemmas.Bool.{not-true}
use Rattle.varisat_theory.specs.promises.Membership.{◌∈◌}
use Rattle.varisat_theory.specs.promises.Literals.{Literal, variable_of}
use Rattle.varisat_prop.specs.Parts.{TrailParts}
use Rattle.varisat_prop.specs.Leaving.{leaves, staying, cleared}
use Rattle.varisat_prop.proofs.pairs.SimplifiedPairs.{filter-∈, ∈-filter}

-- 1. The trail.
pub trail-left : (t : TrailParts) (gone : List Bool) (ls : List Literal) (q : ℕ) → ls ≡ staying gone t.literals → q ≡ length ls →
    record { literals = ls; queue_head = q; decisions = t.decisions } ≡ record t {
      literals = staying gone t.literals;
      queue_head = length (staying gone t.literals);
    }
trail-left t gone ls q e a =
    ap (λ (x : ℕ). record { literals = ls; queue_head = x; decisions = t.decisions }) a
    ∙ ap (λ (x : List Literal). record { literals = x; queue_head = length x; decisions = t.decisions }) e

-- a literal that stays was there, and its variable doesn't leave
pub staying-was : (gone : List Bool) (ls : List Literal) (l : Literal) → l ∈ staying gone ls → (l ∈ ls) × (leaves gone (variable_of l) ≡ false)
staying-was gone ls l h = let (i, e) = ∈-filter (λ m. not (leaves gone (variable_of m))) ls l h in (i, not-true (leaves gone (variable_of l)) e)

pub was-staying : (gone : List Bool) (ls : List Literal) (l : Literal) → l ∈ ls → leaves gone (variable_of l) ≡ false → l ∈ staying gone ls
was-staying gone ls l h e = filter-∈ (λ m. not (leaves gone (variable_of m))) ls l h (ap not e)

pub staying-shorter : (gone : List Bool) (ls : List Literal) → length (staying gone ls) ≤ length ls
staying-shorter gone ls =
    let stays : Literal → Bool = λ m. not (leaves gone (variable_of m)) in
    let e = length-filter_both stays (λ m. not (stays m)) (λ m. refl) ls in
    omega (arith, e)

-- 2. What there is for each variable.
pub cleared-length : {X : Type 0} (gone : List Bool) (x : X) (ys : List X) → length (cleared gone x ys) ≡ length ys
cleared-length [] x ys = refl
cleared-length (g ∷ gone) x [] = refl
cleared-length (g ∷ gone) x (y ∷ ys) = ap suc (cleared-length gone x ys)

pub cleared-left : {X : Type 0} (gone : List Bool) (x : X) (ys : List X) (v : ℕ) → leaves gone v ≡ true → get_or (cleared gone x ys) v x ≡ x
cleared-left [] x ys v e = absurd (let f : false ≡ true = e in cc)
cleared-left (g ∷ gone) x [] v e = refl
cleared-left (g ∷ gone) x (y ∷ ys) zero e = ap (λ (b : Bool). if b then x else y) e
cleared-left (g ∷ gone) x (y ∷ ys) (suc v) e = cleared-left gone x ys v e

pub cleared-stays : {X : Type 0} (gone : List Bool) (x : X) (ys : List X) (d : X) (v : ℕ) → leaves gone v ≡ false →
    get_or (cleared gone x ys) v d ≡ get_or ys v d
cleared-stays [] x ys d v e = refl
cleared-stays (g ∷ gone) x [] d v e = refl
cleared-stays (g ∷ gone) x (y ∷ ys) d zero e = ap (λ (b : Bool). if b then x else y) e
cleared-stays (g ∷ gone) x (y ∷ ys) d (suc v) e = cleared-stays gone x ys d v e

-- one variable after another
pub cleared-on : {X : Type 0} (gone : List Bool) (x : X) (ys : List X) (k : ℕ) → leaves gone k ≡ true →
    set (cleared (take k gone) x ys) k x ≡ cleared (take (suc k) gone) x ys
cleared-on [] x ys k e = absurd (let f : false ≡ true = e in cc)
cleared-on (g ∷ gone) x [] zero e = refl
cleared-on (g ∷ gone) x [] (suc k) e = refl
cleared-on (g ∷ gone) x (y ∷ ys) zero e = ap (λ (b : Bool). (if b then x else y) ∷ ys) (sym e)
cleared-on (g ∷ gone) x (y ∷ ys) (suc k) e = ap (λ zs. (if g then x else y) ∷ zs) (cleared-on gone x ys k e)

pub cleared-off : {X : Type 0} (gone : List Bool) (x : X) (ys : List X) (k : ℕ) → leaves gone k ≡ false →
    cleared (take k gone) x ys ≡ cleared (take (suc k) gone) x ys
cleared-off [] x ys zero e = refl
cleared-off [] x ys (suc k) e = refl
cleared-off (g ∷ gone) x [] zero e = refl
cleared-off (g ∷ gone) x [] (suc k) e = refl
cleared-off (g ∷ gone) x (y ∷ ys) zero e = ap (λ (b : Bool). (if b then x else y) ∷ ys) (sym e)
cleared-off (g ∷ gone) x (y ∷ ys) (suc k) e = ap (λ zs. (if g then x else y) ∷ zs) (cleared-off gone x ys k e)
