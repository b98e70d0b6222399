-- Literals whose variables are renamed one by one.
use Rattle.std.proofs.Common.{◌≡◌, ℕ, ◌+◌, ◌%◌, ◌<◌, ◌≤◌, Bool, true, false, IsTrue, ◌↔◌, nat_eq, rules, List, [], ◌∷◌, ◌++◌, length, take, get_or, refl, sym, ap, subst, ◌∙◌, take_all}
use Rattle.std.proofs.lemmas.List.{take_more}
use Rattle.varisat_theory.specs.promises.Literals.{Literal, variable_of, literal_of}
use Rattle.varisat_literals.specs.promises.Numbers.{polarity_of}
use Rattle.varisat_lines.specs.inside.Mapping.{MapsLit, MapsLits}

is_zero : (n : ℕ) → n ≡ 0 → nat_eq n 0 ≡ true
is_zero n h = search (rules, h)

not_zero : (n : ℕ) → (n ≡ 0 → ⊥) → nat_eq n 0 ≡ false
not_zero n h = search (rules, h)

polarity_is : (b : Bool) (l : ℕ) → IsTrue b ↔ (l % 2 ≡ 0) → b ≡ polarity_of l
polarity_is true l h = sym (is_zero (l % 2) (h.0 refl))
polarity_is false l h = sym (not_zero (l % 2) (λ e. let y = h.1 e in absurd cc))

pub maps_lit : (R : ℕ → ℕ → Type 0) (l x v m : ℕ) (b : Bool) → x ≡ variable_of l → R x v → IsTrue b ↔ (l % 2 ≡ 0) → m ≡ literal_of v b → MapsLit R l m
maps_lit R l x v m b e r p g = (v, subst (λ y. R y v) e r, g ∙ ap (λ t. literal_of v t) (polarity_is b l p))

maps_end : (R : ℕ → ℕ → Type 0) (ls ms : List Literal) (l m : Literal) → MapsLits R ls ms → MapsLit R l m → MapsLits R (ls ++ l ∷ []) (ms ++ m ∷ [])
maps_end R [] [] l m h w = (w, refl)
maps_end R [] (y ∷ ms) l m h w = absurd cc
maps_end R (x ∷ ls) [] l m h w = absurd h
maps_end R (x ∷ ls) (y ∷ ms) l m h w = (h.0, maps_end R ls ms l m h.1 w)

pub maps_more : (R : ℕ → ℕ → Type 0) (ls old new : List Literal) (i l m : ℕ) → i < length ls → l ≡ get_or ls i 0 → MapsLits R (take i ls) old →
    new ≡ old ++ m ∷ [] → MapsLit R l m → MapsLits R (take (i + 1) ls) new
maps_more R ls old new i l m h e f g w =
    subst (λ xs. MapsLits R xs new) (sym (take_more ls i 0 h))
    (subst (λ ys. MapsLits R (take i ls ++ get_or ls i 0 ∷ []) ys) (sym g)
    (maps_end R (take i ls) old (get_or ls i 0) m f (subst (λ x. MapsLit R x m) e w)))

pub maps_all : (R : ℕ → ℕ → Type 0) (ls made : List Literal) (i : ℕ) → length ls ≤ i → MapsLits R (take i ls) made → MapsLits R ls made
maps_all R ls made i h w = subst (λ xs. MapsLits R xs made) (take_all i ls h) w
