-- Text that is written in parts.
use Rattle.std.proofs.Common.{◌≡◌, ℕ, zero, suc, ◌+◌, ◌<◌, ◌≤◌, List, [], ◌∷◌, ◌++◌, take, drop, get_or, length, flat_map, refl, sym, ap, ◌∙◌, append_assoc, append-nil, arith, Result, Ok, Err}
use Rattle.varisat_formula.specs.promises.Formulas.{Formula}
use Rattle.varisat_formula.specs.promises.Streams.{Taken}
use Rattle.varisat_literals.specs.promises.Numbers.{literal_text}
use Rattle.varisat_formula.specs.promises.Written.{Puts, spaced_literals, clauses_text, header_text, formula_text}

-- a beginning of one part is a beginning of the whole
pub begin_part : (n : ℕ) (part rest : List ℕ) → (m : ℕ) × (take n part ≡ take m (part ++ rest))
begin_part zero part rest = (0, refl)
begin_part (suc n) [] rest = (0, refl)
begin_part (suc n) (x ∷ part) rest = let r = begin_part n part rest in (suc r.0, ap (λ ys. x ∷ ys) r.1)

begin_behind : (front : List ℕ) (n : ℕ) (part rest : List ℕ) → (m : ℕ) × (front ++ take n part ≡ take m (front ++ (part ++ rest)))
begin_behind [] n part rest = begin_part n part rest
begin_behind (x ∷ front) n part rest = let r = begin_behind front n part rest in (suc r.0, ap (λ ys. x ∷ ys) r.1)

-- a part was begun behind what was written
pub begun_part : (old now new front part rest whole : List ℕ) (n : ℕ) → now ≡ old ++ front → new ≡ now ++ take n part →
    front ++ (part ++ rest) ≡ whole → (m : ℕ) × (new ≡ old ++ take m whole)
begun_part old now new front part rest whole n e f g =
    let r = begin_behind front n part rest in
    (r.0, f ∙ ap (λ x. x ++ take n part) e ∙ append_assoc old front (take n part) ∙ ap (λ x. old ++ x) (r.1 ∙ ap (λ x. take r.0 x) g))

-- a part was written behind what was written
pub put_part : (old now new front part : List ℕ) → now ≡ old ++ front → new ≡ now ++ part → new ≡ old ++ (front ++ part)
put_part old now new front part e f = f ∙ ap (λ x. x ++ part) e ∙ append_assoc old front part

-- the parts in front, one part, and the others
pub parts_split : {B : Type 0} (now : B → List ℕ) (all : List B) (i : ℕ) (d : B) → i < length all →
    flat_map now (take i all) ++ (now (get_or all i d) ++ flat_map now (drop (suc i) all)) ≡ flat_map now all
parts_split now [] i d h = absurd (omega arith)
parts_split now (x ∷ all) zero d h = refl
parts_split now (x ∷ all) (suc i) d h =
    append_assoc (now x) (flat_map now (take i all)) (now (get_or all i d) ++ flat_map now (drop (suc i) all))
    ∙ ap (λ ys. now x ++ ys) (parts_split now all i d (omega arith))

-- a clause's literals
literal_spaced : (l : ℕ) (ls rest : List ℕ) → (literal_text l ++ 32 ∷ []) ++ (spaced_literals ls ++ rest) ≡ spaced_literals (l ∷ ls) ++ rest
literal_spaced l ls rest = append_assoc (literal_text l) (32 ∷ []) (spaced_literals ls ++ rest)
    ∙ sym (append_assoc (literal_text l) (32 ∷ spaced_literals ls) rest)

pub literals_split : (ls : List ℕ) (i l : ℕ) (rest : List ℕ) → i < length ls → l ≡ get_or ls i l →
    spaced_literals (take i ls) ++ ((literal_text l ++ 32 ∷ []) ++ (spaced_literals (drop (suc i) ls) ++ rest)) ≡ spaced_literals ls ++ rest
literals_split [] i l rest h e = absurd (omega arith)
literals_split (x ∷ ls) zero l rest h e = ap (λ y. (literal_text y ++ 32 ∷ []) ++ (spaced_literals ls ++ rest)) e ∙ literal_spaced x ls rest
literals_split (x ∷ ls) (suc i) l rest h e =
    append_assoc (literal_text x) (32 ∷ spaced_literals (take i ls)) ((literal_text l ++ 32 ∷ []) ++ (spaced_literals (drop (suc i) ls) ++ rest))
    ∙ ap (λ ys. literal_text x ++ 32 ∷ ys) (literals_split ls i l rest (omega arith) e)
    ∙ sym (append_assoc (literal_text x) (32 ∷ spaced_literals ls) rest)

pub literals_more : (ls : List ℕ) (i l : ℕ) → i < length ls → l ≡ get_or ls i l →
    spaced_literals (take i ls) ++ (literal_text l ++ 32 ∷ []) ≡ spaced_literals (take (i + 1) ls)
literals_more [] i l h e = absurd (omega arith)
literals_more (x ∷ ls) zero l h e = ap (λ y. literal_text y ++ 32 ∷ []) e
literals_more (x ∷ ls) (suc i) l h e =
    append_assoc (literal_text x) (32 ∷ spaced_literals (take i ls)) (literal_text l ++ 32 ∷ [])
    ∙ ap (λ ys. literal_text x ++ 32 ∷ ys) (literals_more ls i l (omega arith) e)
    ∙ ap (λ k. spaced_literals (take k (x ∷ ls))) (more i)
  where
    more : (i : ℕ) → suc (i + 1) ≡ suc i + 1
    more i = omega arith

-- text is written behind what was written
pub puts_behind : {E : Type 0} (old mid new : Taken) (result : Result (Unit {0}) E) (front text whole : List ℕ) →
    mid.bytes ≡ old.bytes ++ front → mid.faults ≡ old.faults → front ++ text ≡ whole → Puts mid result text new → Puts old result whole new
puts_behind old mid new (Ok u) front text whole e f g p = (put_part old.bytes mid.bytes new.bytes front text e p.0 ∙ ap (λ x. old.bytes ++ x) g, p.1 ∙ f)
puts_behind old mid new (Err d) front text whole e f g p =
    (begun_part old.bytes mid.bytes new.bytes front text [] whole p.0.0 e p.0.1 (ap (λ x. front ++ x) (append-nil text) ∙ g), p.1 ∙ ap (λ n. n + 1) f)

-- the end of a clause
pub clause_end : (ls : List ℕ) (i : ℕ) (s : List ℕ) → length ls ≤ i → s ≡ 48 ∷ 10 ∷ [] →
    spaced_literals (take i ls) ++ (s ++ []) ≡ spaced_literals ls ++ 48 ∷ 10 ∷ []
clause_end ls i s h e = ap (λ x. spaced_literals x ++ (s ++ [])) (take_all ls i h) ∙ ap (λ x. spaced_literals ls ++ x) (append-nil s ∙ e)
  where
    take_all : (ls : List ℕ) (i : ℕ) → length ls ≤ i → take i ls ≡ ls
    take_all [] i h = nothing_taken i
      where
        nothing_taken : (i : ℕ) → take {A = ℕ} i [] ≡ []
        nothing_taken zero = refl
        nothing_taken (suc i) = refl
    take_all (x ∷ ls) zero h = absurd (omega arith)
    take_all (x ∷ ls) (suc i) h = ap (λ ys. x ∷ ys) (take_all ls i (omega arith))

-- a formula's text in parts
pub header_begun : (f : Formula) (v k : ℕ) (old new : List ℕ) (n : ℕ) → v ≡ f.var_count → k ≡ length f.clauses →
    new ≡ old ++ take n (header_text v k) → (m : ℕ) × (new ≡ old ++ take m (formula_text f))
header_begun f v k old new n e d h =
    begun_part old old new [] (header_text v k) (clauses_text f.clauses) (formula_text f) n (sym (append-nil old)) h
    (ap (λ x. header_text x k ++ clauses_text f.clauses) e ∙ ap (λ x. header_text f.var_count x ++ clauses_text f.clauses) d)

pub clause_parts : (c front whole : List ℕ) (rest : List (List ℕ)) (all : List (List ℕ)) → all ≡ c ∷ rest → front ++ clauses_text all ≡ whole →
    front ++ ((spaced_literals c ++ 48 ∷ 10 ∷ []) ++ clauses_text rest) ≡ whole
clause_parts c front whole rest all e g = ap (λ x. front ++ x) (append_assoc (spaced_literals c) (48 ∷ 10 ∷ []) (clauses_text rest))
    ∙ sym (ap (λ x. front ++ clauses_text x) e) ∙ g
