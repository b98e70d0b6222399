-- What is kept of a global variable, as a number.
use Rattle.std.proofs.Common.{◌≡◌, ℕ, zero, suc, ◌+◌, ◌-◌, ◌*◌, ◌/◌, ◌%◌, ◌<◌, ◌≤◌, Bool, true, false, nat_eq, List, [], ◌∷◌, ◌++◌, length, replicate, map, take, take_all, get_or, set, append-nil, sym, ap, ◌∙◌, refl, arith}
use Rattle.std.proofs.lemmas.List.{length-map, get_or-map, map-set, map-append}
use mir.Val.{bool_byte}
use Rattle.varisat_names.specs.declared.variables.data.VarData.{VarData}
use Rattle.varisat_names.specs.promises.VarData.{dead, data_at, reaching}
use Rattle.varisat_names.specs.inside.KeptCodes.{mode_as, unit_as, kept_as}

-- the parts of a number
kept-parts : (m u i a d n : ℕ) → m < 4 → u < 4 → i < 2 → a < 2 → d < 2 → n ≡ m + 4 * u + 16 * i + 32 * a + 64 * d →
    kept_as n ≡ record { sampling_mode = mode_as m; unit = unit_as u; isolated = nat_eq i 1; assumed = nat_eq a 1; deleted = nat_eq d 1 }
unfolding kept_as
kept-parts m u i a d n hm hu hi ha hd e =
    let p : n % 4 ≡ m = omega (arith, e, hm) in
    let q : n / 4 % 4 ≡ u = omega (arith, e, hm, hu) in
    let r : n / 16 % 2 ≡ i = omega (arith, e, hm, hu, hi) in
    let s : n / 32 % 2 ≡ a = omega (arith, e, hm, hu, hi, ha) in
    let t : n / 64 % 2 ≡ d = omega (arith, e, hm, hu, hi, ha, hd) in
    rw (p, q, r, s, t) refl

flag-small : (b : Bool) → bool_byte b < 2
flag-small true = omega arith
flag-small false = omega arith

flag-same : (b : Bool) → nat_eq (bool_byte b) 1 ≡ b
flag-same true = refl
flag-same false = refl

-- a number for what is kept
pub code-kept : (m u : ℕ) (d : VarData) → m < 4 → u < 4 → mode_as m ≡ d.sampling_mode → unit_as u ≡ d.unit →
    kept_as (m + 4 * u + 16 * bool_byte d.isolated + 32 * bool_byte d.assumed + 64 * bool_byte d.deleted) ≡ d
code-kept m u d hm hu em eu =
    kept-parts m u (bool_byte d.isolated) (bool_byte d.assumed) (bool_byte d.deleted) _ hm hu (flag-small d.isolated) (flag-small d.assumed)
    (flag-small d.deleted) refl
    ∙ rw (em, eu, flag-same d.isolated, flag-same d.assumed, flag-same d.deleted) refl

-- data of a variable, as it is read
pub kept-read : (codes : List ℕ) (old : List VarData) (x i code : ℕ) (d : VarData) → map kept_as codes ≡ old → i ≡ x → x < length old →
    code ≡ get_or codes i 0 → d ≡ kept_as code → d ≡ data_at old x
kept-read codes old x i code d e q h c k =
    let l = length-map codes kept_as in
    let n = ap length e in
    k ∙ ap kept_as c ∙ sym (get_or-map kept_as codes i 0 dead (omega (arith, l, n, q, h)))
    ∙ ap (λ ks. data_at ks i) e ∙ ap (data_at old) q

-- other data of a variable
pub kept-write : (codes : List ℕ) (old : List VarData) (x i code : ℕ) (d : VarData) → map kept_as codes ≡ old → i ≡ x → kept_as code ≡ d →
    map kept_as (set codes i code) ≡ set old x d
kept-write codes old x i code d e q k = map-set kept_as codes i code ∙ ap (set (map kept_as codes) i) k ∙ ap (λ ks. set ks i d) e ∙ ap (λ j. set old j d) q

-- one more variable
pub kept-push : (codes : List ℕ) (old : List VarData) (code : ℕ) (d : VarData) → map kept_as codes ≡ old → kept_as code ≡ d →
    map kept_as (codes ++ code ∷ []) ≡ old ++ d ∷ []
kept-push codes old code d e k = map-append kept_as codes (code ∷ []) ∙ ap (λ x. map kept_as codes ++ x ∷ []) k ∙ ap (λ ks. ks ++ d ∷ []) e

kept-many : (n code : ℕ) (d : VarData) → kept_as code ≡ d → map kept_as (replicate n code) ≡ replicate n d
kept-many zero code d e = refl
kept-many (suc n) code d e = ap (λ x. x ∷ map kept_as (replicate n code)) e ∙ ap (λ xs. d ∷ xs) (kept-many n code d e)

-- more variables that are not live
pub kept-reached : (codes new : List ℕ) (old : List VarData) (x count len code : ℕ) → map kept_as codes ≡ old → count ≡ x + 1 → len ≡ length codes →
    len ≤ count → kept_as code ≡ dead → new ≡ take count codes ++ replicate (count - len) code → map kept_as new ≡ reaching old x
kept-reached codes new old x count len code e q l h k n =
    ap (map kept_as) n
    ∙ map-append kept_as (take count codes) (replicate (count - len) code)
    ∙ ap (λ cs. map kept_as cs ++ map kept_as (replicate (count - len) code)) (take_all count codes (omega (arith, h, l)))
    ∙ ap (λ xs. map kept_as codes ++ xs) (kept-many (count - len) code dead k)
    ∙ ap (λ m. map kept_as codes ++ replicate (count - m) dead) (l ∙ sym (length-map codes kept_as))
    ∙ ap (λ ks. ks ++ replicate (count - length ks) dead) e
    ∙ ap (λ j. old ++ replicate (j - length old) dead) q

-- no more variables
pub kept-there : (old : List VarData) (x : ℕ) → x + 1 ≤ length old → old ≡ reaching old x
kept-there old x h =
    let e : x + 1 - length old ≡ 0 = omega (arith, h) in
    sym (ap (λ n. old ++ replicate n dead) e ∙ append-nil old)
