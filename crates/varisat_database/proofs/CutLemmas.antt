-- Clauses cut from one list of literals.
use Rattle.std.proofs.Common.{◌≡◌, ℕ, zero, suc, ◌+◌, ◌-◌, ◌<◌, ◌≤◌, List, [], ◌∷◌, ◌++◌, sym, ap, ◌∙◌, subst, refl, length, get_or, append_assoc, arith}
use Rattle.std.specs.Prelude.{slice_range}
use Rattle.std.proofs.lemmas.List.{length-append}
use Rattle.std.proofs.lemmas.Grind.{common_steps, get_or_default_zero}
use Rattle.varisat_theory.specs.promises.Literals.{Literal, Clause}
use Rattle.varisat_database.specs.Cuts.{cut_from, start_of, AreEnds}

pub cut_length : (s : ℕ) (es : List ℕ) (ls : List Literal) → length (cut_from s es ls) ≡ length es
cut_length s [] ls = refl
cut_length s (e ∷ es) ls = ap suc (cut_length e es ls)

pub cut_at : (s : ℕ) (es : List ℕ) (ls : List Literal) (k : ℕ) → k < length es → get_or (cut_from s es ls) k [] ≡ slice_range ls (start_of s es k) (get_or es k 0)
cut_at s [] ls k h = absurd (omega arith)
cut_at s (e ∷ es) ls zero h = refl
cut_at s (e ∷ es) ls (suc k) h = cut_at e es ls k (omega arith)

pub start_first : (s : ℕ) (es : List ℕ) → start_of s es 0 ≡ s
start_first s [] = refl
start_first s (e ∷ es) = refl

pub start_later : (s : ℕ) (es : List ℕ) (k : ℕ) → k < length es → start_of s es (suc k) ≡ get_or es k 0
start_later s [] k h = absurd (omega arith)
start_later s (e ∷ es) zero h = start_first e es
start_later s (e ∷ es) (suc k) h = start_later e es k (omega arith)

pub ends_order : (s : ℕ) (es : List ℕ) (n k : ℕ) → AreEnds s es n → k < length es → (start_of s es k ≤ get_or es k 0) × (get_or es k 0 ≤ n) × (s ≤ n)
ends_order s [] n k a h = absurd (omega arith)
ends_order s (e ∷ es) n zero a h = let b = ends_all e es n a.1 in let f = a.0 in (f, b, omega (arith, f, b))
  where
    ends_all : (s : ℕ) (es : List ℕ) (n : ℕ) → AreEnds s es n → s ≤ n
    ends_all s [] n a = omega (arith, a)
    ends_all s (e ∷ es) n a = let b = ends_all e es n a.1 in let f = a.0 in omega (arith, f, b)
ends_order s (e ∷ es) n (suc k) a h = let r = ends_order e es n k a.1 (omega arith) in let f = a.0 in let q = r.2 in (r.0, r.1, omega (arith, f, q))

ends_all : (s : ℕ) (es : List ℕ) (n : ℕ) → AreEnds s es n → s ≤ n
ends_all s [] n a = omega (arith, a)
ends_all s (e ∷ es) n a = let b = ends_all e es n a.1 in let f = a.0 in omega (arith, f, b)

pub ends_pushed : (s : ℕ) (es : List ℕ) (n m : ℕ) → n ≤ m → AreEnds s es n → AreEnds s (es ++ m ∷ []) m
ends_pushed s [] n m h a = (omega (arith, a, h), refl)
ends_pushed s (e ∷ es) n m h a = (a.0, ends_pushed e es n m h a.1)

range_more : (ls c : List Literal) (i j : ℕ) → i ≤ j → j ≤ length ls → slice_range (ls ++ c) i j ≡ slice_range ls i j
range_more ls c i j h k = grind (arith, common_steps)

range_last : (ls c : List Literal) (m : ℕ) → m ≡ length ls + length c → slice_range (ls ++ c) (length ls) m ≡ c
range_last ls c m h = grind (arith, common_steps)

-- a list was appended to one that had stayed
pub appended : (ls ms ns xs : List ℕ) → ns ≡ ms ++ xs → ms ≡ ls → ns ≡ ls ++ xs
appended ls ms ns xs e f = e ∙ ap (λ (ys : List ℕ). ys ++ xs) f

-- a clause was, with a literal in front
pub appended_led : (ls ms ns os : List Literal) (l : Literal) (c : Clause) → os ≡ ns ++ c → ns ≡ ms ++ l ∷ [] → ms ≡ ls → os ≡ ls ++ l ∷ c
appended_led ls ms ns os l c e f h = appended (ls ++ l ∷ []) ns os c e (appended ls ms ns (l ∷ []) f h) ∙ append_assoc ls (l ∷ []) c

pub cut_pushed : (s : ℕ) (es : List ℕ) (ls c : List Literal) (m : ℕ) → m ≡ length ls + length c → AreEnds s es (length ls) →
    cut_from s (es ++ m ∷ []) (ls ++ c) ≡ cut_from s es ls ++ c ∷ []
cut_pushed s [] ls c m h a = ap (λ (d : Clause). d ∷ []) (subst (λ i. slice_range (ls ++ c) i m ≡ c) (sym a) (range_last ls c m h))
cut_pushed s (e ∷ es) ls c m h a =
    ap (λ (d : Clause). d ∷ cut_from e (es ++ m ∷ []) (ls ++ c)) (range_more ls c s e a.0 (ends_all e es (length ls) a.1))
    ∙ ap (λ (ds : List Clause). slice_range ls s e ∷ ds) (cut_pushed e es ls c m h a.1)

pub read_bounds : (ends seen : List ℕ) (ls : List Literal) (now : List Clause) (k start stop : ℕ) → cut_from 0 ends ls ≡ now →
    AreEnds 0 ends (length ls) → k < length now → seen ≡ ends → start ≡ start_of 0 seen k → stop ≡ get_or ends k stop →
    (start ≤ stop) × (stop ≤ length ls) × (slice_range ls start stop ≡ get_or now k [])
read_bounds ends seen ls now k start stop v a h e f g =
    let n : length now ≡ length ends = ap length (sym v) ∙ cut_length 0 ends ls in
    let b : k < length ends = omega (arith, h, n) in
    let s : stop ≡ get_or ends k 0 = g ∙ get_or_default_zero ends k stop b in
    let t : start ≡ start_of 0 ends k = f ∙ ap (λ xs. start_of 0 xs k) e in
    let o = ends_order 0 ends (length ls) k a b in
    let p = o.0 in
    let q = o.1 in (
      omega (arith, s, t, p),
      omega (arith, s, q),
      ap (λ i. slice_range ls i stop) t ∙ ap (λ j. slice_range ls (start_of 0 ends k) j) s ∙ sym (cut_at 0 ends ls k b)
          ∙ ap (λ (ds : List Clause). get_or ds k []) v,
    )

pub view_below : (ends seen : List ℕ) (ls : List Literal) (now : List Clause) (k : ℕ) → cut_from 0 ends ls ≡ now → k < length now → seen ≡ ends → k < length seen
view_below ends seen ls now k v h e =
    let n : length now ≡ length ends = ap length (sym v) ∙ cut_length 0 ends ls in
    let m = ap length e in
    omega (arith, h, n, m)

pub start_at : (es : List ℕ) (k : ℕ) → k < length es → (k ≡ 0 → ⊥) → get_or es (k - 1) 0 ≡ start_of 0 es k
start_at es zero h n = absurd (n refl)
start_at es (suc k) h n = ap (λ j. get_or es j 0) (sub_suc k) ∙ sym (start_later 0 es k (omega arith))
  where
    sub_suc : (k : ℕ) → suc k - 1 ≡ k
    sub_suc k = omega arith

pub pushed_ends : (ends ends2 : List ℕ) (ls ls2 c : List Literal) (m : ℕ) → ends2 ≡ ends ++ m ∷ [] → ls2 ≡ ls ++ c → m ≡ length ls + length c →
    AreEnds 0 ends (length ls) → AreEnds 0 ends2 (length ls2)
pushed_ends ends ends2 ls ls2 c m e f h a =
    let n : m ≡ length ls2 = h ∙ sym (ap length f ∙ length-append ls c) in
    subst (λ es. AreEnds 0 es (length ls2)) (sym e) (subst (λ k. AreEnds 0 (ends ++ m ∷ []) k) n (ends_pushed 0 ends (length ls) m (omega (arith, h)) a))

pub pushed_view : (ends ends2 : List ℕ) (ls ls2 c : List Literal) (m : ℕ) (now : List Clause) → ends2 ≡ ends ++ m ∷ [] → ls2 ≡ ls ++ c →
    m ≡ length ls + length c → AreEnds 0 ends (length ls) → cut_from 0 ends ls ≡ now → cut_from 0 ends2 ls2 ≡ now ++ c ∷ []
pushed_view ends ends2 ls ls2 c m now e f h a v =
    ap (λ es. cut_from 0 es ls2) e ∙ ap (λ (xs : List Literal). cut_from 0 (ends ++ m ∷ []) xs) f ∙ cut_pushed 0 ends ls c m h a
    ∙ ap (λ (cs : List Clause). cs ++ c ∷ []) v
