-- How many places of the current level are marked, which `resolve` counts.
use Rattle.std.proofs.Common.{◌≡◌, ◌≢◌, ℕ, zero, suc, ◌+◌, ◌<◌, ◌≤◌, Bool, true, false, ◌&&◌, nat_eq, List, get_or, ⊎_elim, refl, sym, ap, ◌∙◌, arith}
use Rattle.std.proofs.lemmas.Bool.{eqb-true, eq-eqb, ne_eqb, and_parts, and_from, and_left, and_right, cases_lt}
use Rattle.varisat_theory.specs.promises.Literals.{variable_of}
use Rattle.varisat_theory.proofs.clauses.Members.{equal_or_not}
use Rattle.varisat_prop.specs.View.{View, literal_at, node_at}
use Rattle.varisat_analysis.specs.Flags.{IsFlagged}
use Rattle.varisat_analysis.specs.Learned.{current_level, IsOfCurrentLevel}
use Rattle.varisat_analysis.specs.Marks.{one_if, is_open, open_below}

pub open-is : (s : View) (f : List Bool) (k : ℕ) → IsOfCurrentLevel s k → IsFlagged f (variable_of (literal_at s k)) → is_open s f k ≡ true
open-is s f k p m = and_from (nat_eq (node_at s k).level (current_level s)) (get_or f (variable_of (literal_at s k)) false)
    (eq-eqb (node_at s k).level (current_level s) p.1) m

pub open-level : (s : View) (f : List Bool) (k : ℕ) → is_open s f k ≡ true → (node_at s k).level ≡ current_level s
open-level s f k h = eqb-true (node_at s k).level (current_level s)
    (and_parts (nat_eq (node_at s k).level (current_level s)) (get_or f (variable_of (literal_at s k)) false) h).0

pub open-marked : (s : View) (f : List Bool) (k : ℕ) → is_open s f k ≡ true → IsFlagged f (variable_of (literal_at s k))
open-marked s f k h = (and_parts (nat_eq (node_at s k).level (current_level s)) (get_or f (variable_of (literal_at s k)) false) h).1

pub closed-unmarked : (s : View) (f : List Bool) (k : ℕ) → get_or f (variable_of (literal_at s k)) false ≡ false → is_open s f k ≡ false
closed-unmarked s f k h = and_right (nat_eq (node_at s k).level (current_level s)) (get_or f (variable_of (literal_at s k)) false) h

pub open-same : (s : View) (f g : List Bool) (k : ℕ) → get_or f (variable_of (literal_at s k)) false ≡ get_or g
    (variable_of (literal_at s k)) false → is_open s f k ≡ is_open s g k
open-same s f g k e = ap (λ b. nat_eq (node_at s k).level (current_level s) && b) e

pub open-elsewhere : (s : View) (f g : List Bool) (k : ℕ) → ((node_at s k).level ≡ current_level s → ⊥) → is_open s f k ≡ is_open s g k
open-elsewhere s f g k n =
    let e = ne_eqb (node_at s k).level (current_level s) n in
    and_left (nat_eq (node_at s k).level (current_level s)) (get_or f (variable_of (literal_at s k)) false) e
    ∙ sym (and_left (nat_eq (node_at s k).level (current_level s)) (get_or g (variable_of (literal_at s k)) false) e)

pub count-same : (s : View) (f g : List Bool) (i : ℕ) → ((k : ℕ) → k < i → is_open s f k ≡ is_open s g k) → open_below s f i ≡ open_below s g i
count-same s f g zero h = refl
count-same s f g (suc i) h =
    let a = count-same s f g i (λ k l. h k (omega (arith, l))) in
    let b = ap one_if (h i (omega arith)) in
    omega (arith, a, b)

-- one place is marked
pub count-more : (s : View) (f g : List Bool) (i j : ℕ) → j < i → is_open s f j ≡ false → is_open s g j ≡ true →
    ((k : ℕ) → k < i → k ≢ j → is_open s f k ≡ is_open s g k) → open_below s g i ≡ open_below s f i + 1
count-more s f g zero j l a b h = absurd (omega arith)
count-more s f g (suc i) j l a b h =
    ⊎_elim
    (λ (e : i ≡ j).
    let x : one_if (is_open s f i) ≡ 0 = ap (λ k. one_if (is_open s f k)) e ∙ ap one_if a in
    let y : one_if (is_open s g i) ≡ 1 = ap (λ k. one_if (is_open s g k)) e ∙ ap one_if b in
    let z = count-same s f g i (λ k m. h k (omega (arith, m)) (λ o. absurd (omega (arith, o, e, m)))) in
    omega (arith, x, y, z))
    (λ n.
    let x = ap one_if (h i (omega arith) n) in
    let z = count-more s f g i j (smaller i j l n) a b (λ k m. h k (omega (arith, m))) in
    omega (arith, x, z))
    (equal_or_not i j)
  where
    smaller : (i j : ℕ) → j < suc i → i ≢ j → j < i
    smaller i j l n = grind arith

pub count-small : (s : View) (f : List Bool) (i : ℕ) → open_below s f i ≤ i
count-small s f zero = omega arith
count-small s f (suc i) = let a = count-small s f i in let b = small (is_open s f i) in omega (arith, a, b)
  where
    small : (b : Bool) → one_if b ≤ 1
    small true = omega arith
    small false = omega arith

pub count-none : (s : View) (f : List Bool) (i k : ℕ) → open_below s f i ≡ 0 → k < i → is_open s f k ≡ true → ⊥
count-none s f zero k e l h = absurd (omega arith)
count-none s f (suc i) k e l h =
    ⊎_elim
    (λ (m : k < i). count-none s f i k (omega (arith, e)) m h)
    (λ (m : i ≤ k). let q : k ≡ i = omega (arith, m, l) in let x : one_if (is_open s f i) ≡ 1 = ap (λ j. one_if (is_open s f j)) (sym q)
    ∙ ap one_if h in absurd (omega (arith, x, e)))
    (cases_lt k i)

pub count-some : (s : View) (f : List Bool) (i : ℕ) → 0 < open_below s f i → (k : ℕ) × (k < i) × (is_open s f k ≡ true)
count-some s f zero h = absurd (omega arith)
count-some s f (suc i) h = by (is_open s f i) refl (λ a. count-some s f i a)
  where
    by : (b : Bool) → is_open s f i ≡ b → (0 < open_below s f i → (k : ℕ) × (k < i) × (is_open s f k ≡ true)) → (k : ℕ) × (k < suc i) × (is_open s f k ≡ true)
    by true e rec = (i, omega arith, e)
    by false e rec =
        let x : one_if (is_open s f i) ≡ 0 = ap one_if e in
        let (k, a, q) = rec (omega (arith, h, x)) in
        (k, omega (arith, a), q)
