-- What is forgotten of one variable after another.
use Rattle.std.proofs.Common.{◌≡◌, ℕ, zero, suc, ◌+◌, ◌<◌, Bool, true, false, Option, None, List, [], ◌∷◌, length, get_or, set, take, refl, sym, ap, ap₂, ◌∙◌, add-one, arith}
use Rattle.varisat_prop.specs.Parts.{Values}
use Rattle.varisat_prop.specs.Leaving.{leaves, cleared}
use Rattle.varisat_prop.proofs.views.Leaving.{cleared-on, cleared-off}
use Rattle.varisat_vsids.specs.Activities.{Activities}
use Rattle.varisat_search.specs.Forgotten.{forgotten_activities}

-- a flag as it is read
pub flag-read : (gone : List Bool) (k : ℕ) (b : Bool) → k < length gone → b ≡ get_or gone k b → leaves gone k ≡ b
flag-read [] k b h e = absurd (omega (arith, h))
flag-read (g ∷ gone) zero b h e = sym e
flag-read (g ∷ gone) (suc k) b h e = flag-read gone k b (omega (arith, h)) e

cleared-next : {X : Type 0} (gone : List Bool) (x : X) (ys : List X) (k : ℕ) → cleared (take (suc k) gone) x ys ≡ cleared (take (k + 1) gone) x ys
cleared-next gone x ys k = ap (λ n. cleared (take n gone) x ys) (sym (add-one k))

-- the values of the first variables
abbrev pub forgotten_values : List Bool → Values → Values
forgotten_values gone a = record { current = cleared gone None a.current; last = cleared gone false a.last }

cleared-none : {X : Type 0} (gone : List Bool) (x : X) (ys : List X) → ys ≡ cleared (take 0 gone) x ys
cleared-none [] x ys = refl
cleared-none (g ∷ gone) x ys = refl

pub values-none : (a : Values) (gone : List Bool) → a ≡ forgotten_values (take 0 gone) a
values-none a gone = ap₂ (λ (x : List (Option Bool)) (y : List Bool). record { current = x; last = y }) (cleared-none gone None a.current)
    (cleared-none gone false a.last)

pub values-on : (a b : Values) (gone : List Bool) (k : ℕ) → leaves gone k ≡ true → b ≡ forgotten_values (take k gone) a →
    record { current = set b.current k None; last = set b.last k false } ≡ forgotten_values (take (k + 1) gone) a
values-on a b gone k h e =
    ap (λ (x : Values). record { current = set x.current k None; last = set x.last k false }) e
    ∙ ap₂ (λ (x : List (Option Bool)) (y : List Bool). record { current = x; last = y })
    (cleared-on gone None a.current k h ∙ cleared-next gone None a.current k) (cleared-on gone false a.last k h ∙ cleared-next gone false a.last k)

pub values-off : (a b : Values) (gone : List Bool) (k : ℕ) → leaves gone k ≡ false → b ≡ forgotten_values (take k gone) a →
    b ≡ forgotten_values (take (k + 1) gone) a
values-off a b gone k h e =
    e ∙ ap₂ (λ (x : List (Option Bool)) (y : List Bool). record { current = x; last = y })
    (cleared-off gone None a.current k h ∙ cleared-next gone None a.current k) (cleared-off gone false a.last k h ∙ cleared-next gone false a.last k)

-- their activities
pub activities-none : (a : Activities) (gone : List Bool) → a ≡ forgotten_activities (take 0 gone) a
activities-none a gone = ap₂ (λ (x : List ℕ) (y : List Bool). record a { activity = x; available = y }) (cleared-none gone 0 a.activity)
    (cleared-none gone false a.available)

pub activities-on : (a b : Activities) (gone : List Bool) (k : ℕ) → leaves gone k ≡ true → b ≡ forgotten_activities (take k gone) a →
    record b { activity = set b.activity k 0; available = set b.available k false } ≡ forgotten_activities (take (k + 1) gone) a
activities-on a b gone k h e =
    ap (λ (x : Activities). record x { activity = set x.activity k 0; available = set x.available k false }) e
    ∙ ap₂ (λ (x : List ℕ) (y : List Bool). record a { activity = x; available = y })
    (cleared-on gone 0 a.activity k h ∙ cleared-next gone 0 a.activity k) (cleared-on gone false a.available k h ∙ cleared-next gone false a.available k)

pub activities-off : (a b : Activities) (gone : List Bool) (k : ℕ) → leaves gone k ≡ false → b ≡ forgotten_activities (take k gone) a →
    b ≡ forgotten_activities (take (k + 1) gone) a
activities-off a b gone k h e =
    e ∙ ap₂ (λ (x : List ℕ) (y : List Bool). record a { activity = x; available = y })
    (cleared-off gone 0 a.activity k h ∙ cleared-next gone 0 a.activity k) (cleared-off gone false a.available k h ∙ cleared-next gone false a.available k)
