-- The bytes that the writer puts together.
use Rattle.std.proofs.Common.{◌≡◌, ℕ, zero, suc, ◌+◌, ◌-◌, ◌*◌, ◌/◌, ◌%◌, ◌<◌, ◌≤◌, List, [], ◌∷◌, ◌++◌, length, get_or, take, drop, flat_map, Err, true, false, nat_lt, if◌then◌else◌, refl, sym, ap, ◌∙◌, append_assoc, append-nil, ◌⊎◌, inl, inr, take_all, arith, rules}
use Rattle.varisat_literals.specs.promises.Numbers.{literal_text}
use Rattle.varisat_formula.specs.promises.Streams.{Taken}
use Rattle.varisat_formula.specs.promises.Written.{spaced_literals}
use Rattle.varisat_formula.proofs.TargetParts.{literals_more, begun_part, parts_split}
use Rattle.varisat_lines.specs.declared.format.Encoding.{Encoding}
use Rattle.varisat_lines.specs.declared.format.LineKind.{LineKind}
use Rattle.varisat_lines.specs.declared.format.LineKind.TheVariants.{Adds}
use Rattle.varisat_lines.specs.declared.writer.WriteError.{WriteError}
use Rattle.varisat_lines.specs.declared.writer.WriteError.TheVariants.{Memory, Target}
use Rattle.varisat_lines.specs.promises.Lines.{ProofLine, line_of_kind, plain_lines, letter}
use Rattle.varisat_lines.specs.promises.Written.{leb128, leb128_by, codes_bytes, mark_text, line_text, line_bytes, line_written}
use Rattle.varisat_lines.specs.inside.Machine.{scale}
use Rattle.varisat_theory.specs.inside.StepLaws.{unit_lines}
use Rattle.varisat_lines.specs.promises.Steps.{lines_written, PutsLines}

pub room_less : (left rest : ℕ) → 0 < left → left ≤ 4 → rest < 128 * scale left → rest / 128 < 128 * scale (left - 1)
room_less zero rest p h e = absurd (omega arith)
room_less (suc zero) rest p h e = omega arith
room_less (suc (suc zero)) rest p h e = omega arith
room_less (suc (suc (suc zero))) rest p h e = omega arith
room_less (suc (suc (suc (suc zero)))) rest p h e = omega arith
room_less (suc (suc (suc (suc (suc n))))) rest p h e = absurd (omega arith)

pub leb128_start : (old new : List ℕ) (n : ℕ) → old ≡ new → old ++ leb128_by 4 n ≡ new ++ leb128 n
unfolding leb128
leb128_start old new n e = ap (λ x. x ++ leb128_by 4 n) e

leb128_more : (left rest : ℕ) → 0 < left → 128 ≤ rest → leb128_by left rest ≡ (128 + rest % 128) ∷ leb128_by (left - 1) (rest / 128)
leb128_more zero rest p h = absurd (omega arith)
leb128_more (suc k) rest p h =
    let e : nat_lt rest 128 ≡ false = search (rules, h) in
    let f : k ≡ suc k - 1 = omega arith in
    ap (λ t. if t then rest ∷ [] else (128 + rest % 128) ∷ leb128_by k (rest / 128)) e ∙ ap (λ x. (128 + rest % 128) ∷ leb128_by x (rest / 128)) f

leb128_last : (left rest : ℕ) → (left ≡ 0) ⊎ (rest < 128) → leb128_by left rest ≡ rest ∷ []
leb128_last zero rest h = refl
leb128_last (suc k) rest (inl e) = absurd (omega arith)
leb128_last (suc k) rest (inr h) = let e : nat_lt rest 128 ≡ true = search (rules, h) in
    ap (λ t. if t then rest ∷ [] else (128 + rest % 128) ∷ leb128_by k (rest / 128)) e

pub leb128_goes : (old new whole : List ℕ) (left rest b : ℕ) → 0 < left → 128 ≤ rest → b ≡ 128 + rest % 128 → new ≡ old ++ b ∷ [] →
    old ++ leb128_by left rest ≡ whole → new ++ leb128_by (left - 1) (rest / 128) ≡ whole
leb128_goes old new whole left rest b p h f e g =
    ap (λ x. x ++ leb128_by (left - 1) (rest / 128)) e ∙ append_assoc old (b ∷ []) (leb128_by (left - 1) (rest / 128)) ∙
    ap (λ x. old ++ (x ∷ leb128_by (left - 1) (rest / 128))) f ∙ ap (λ x. old ++ x) (sym (leb128_more left rest p h)) ∙ g

pub leb128_ends : (old new whole : List ℕ) (left rest b : ℕ) → (left ≡ 0) ⊎ (rest < 128) → b ≡ rest → new ≡ old ++ b ∷ [] →
    old ++ leb128_by left rest ≡ whole → new ≡ whole
leb128_ends old new whole left rest b h f e g = e ∙ ap (λ x. old ++ x ∷ []) f ∙ ap (λ x. old ++ x) (sym (leb128_last left rest h)) ∙ g

pub text_more : (m old new : List ℕ) (ls : List ℕ) (i l : ℕ) → i < length ls → l ≡ get_or ls i l → old ≡ m ++ spaced_literals (take i ls) →
    new ≡ old ++ (literal_text l ++ 32 ∷ []) → new ≡ m ++ spaced_literals (take (i + 1) ls)
text_more m old new ls i l h e f g =
    g ∙ ap (λ x. x ++ (literal_text l ++ 32 ∷ [])) f ∙ append_assoc m (spaced_literals (take i ls)) (literal_text l ++ 32 ∷ []) ∙
    ap (λ x. m ++ x) (literals_more ls i l h e)

pub text_ends : (d : LineKind) (old new : List ℕ) (ls : List ℕ) (i : ℕ) → length ls ≤ i → old ≡ mark_text d ++ spaced_literals (take i ls) →
    new ≡ old ++ (48 ∷ 10 ∷ []) → new ≡ line_text (line_of_kind d ls)
text_ends d old new ls i h f g =
    g ∙ ap (λ x. x ++ (48 ∷ 10 ∷ [])) f ∙ ap (λ x. (mark_text d ++ spaced_literals x) ++ (48 ∷ 10 ∷ [])) (take_all i ls h) ∙
    append_assoc (mark_text d) (spaced_literals ls) (48 ∷ 10 ∷ [])

codes_more : (ls : List ℕ) (i l : ℕ) → i < length ls → l ≡ get_or ls i l → codes_bytes (take i ls) ++ leb128 (l + 2) ≡ codes_bytes (take (i + 1) ls)
codes_more [] i l h e = absurd (omega arith)
codes_more (x ∷ ls) zero l h e = ap (λ y. leb128 (y + 2)) e ∙ sym (append-nil (leb128 (x + 2)))
codes_more (x ∷ ls) (suc i) l h e =
    append_assoc (leb128 (x + 2)) (codes_bytes (take i ls)) (leb128 (l + 2)) ∙ ap (λ ys. leb128 (x + 2) ++ ys) (codes_more ls i l (omega arith) e) ∙
    ap (λ k. codes_bytes (take k (x ∷ ls))) (more i)
  where
    more : (i : ℕ) → suc (i + 1) ≡ suc i + 1
    more i = omega arith

pub binary_more : (m old new : List ℕ) (ls : List ℕ) (i l n : ℕ) → i < length ls → l ≡ get_or ls i l → n ≡ l + 2 → old ≡ m ++ codes_bytes (take i ls) →
    new ≡ old ++ leb128 n → new ≡ m ++ codes_bytes (take (i + 1) ls)
binary_more m old new ls i l n h e k f g =
    g ∙ ap (λ x. x ++ leb128 n) f ∙ append_assoc m (codes_bytes (take i ls)) (leb128 n) ∙ ap (λ x. m ++ (codes_bytes (take i ls) ++ leb128 x)) k ∙
    ap (λ x. m ++ x) (codes_more ls i l h e)

pub binary_ends : (d : LineKind) (old new : List ℕ) (ls : List ℕ) (i : ℕ) → length ls ≤ i → old ≡ letter d ∷ codes_bytes (take i ls) →
    new ≡ old ++ 0 ∷ [] → new ≡ line_bytes (line_of_kind d ls)
binary_ends d old new ls i h f g = g ∙ ap (λ x. x ++ 0 ∷ []) f ∙ ap (λ x. letter d ∷ (codes_bytes x ++ 0 ∷ [])) (take_all i ls h)

-- clauses of one literal
abbrev pub unit_line : ℕ → ProofLine
unit_line l = line_of_kind Adds (l ∷ [])

abbrev pub singles : List ℕ → List ProofLine
singles ls = plain_lines (unit_lines ls)

abbrev pub unit_bytes : Encoding → ℕ → List ℕ
unit_bytes f l = line_written f (unit_line l)

units_bytes : (f : Encoding) (ls : List ℕ) → lines_written f (singles ls) ≡ flat_map (unit_bytes f) ls
units_bytes f [] = refl
units_bytes f (l ∷ ls) = ap (λ x. unit_bytes f l ++ x) (units_bytes f ls)

pub units_err : (f : Encoding) (old mid new : Taken) (e : WriteError) (ls : List ℕ) (i l : ℕ) → i < length ls → l ≡ get_or ls i l →
    mid.bytes ≡ old.bytes ++ lines_written f (singles (take i ls)) → mid.faults ≡ old.faults →
    PutsLines f mid (Err e) (unit_line l ∷ []) new → PutsLines f old (Err e) (singles ls) new
units_err f old mid new e ls i l h g put quiet p = by_error e p
  where
    split : lines_written f (singles (take i ls)) ++ (lines_written f (unit_line l ∷ []) ++ flat_map (unit_bytes f) (drop (suc i) ls)) ≡ lines_written f
        (singles ls)
    split =
        ap (λ x. lines_written f (singles (take i ls)) ++ (x ++ flat_map (unit_bytes f) (drop (suc i) ls))) (append-nil (unit_bytes f l))
        ∙ ap (λ x. x ++ (unit_bytes f l ++ flat_map (unit_bytes f) (drop (suc i) ls))) (units_bytes f (take i ls))
        ∙ ap (λ x. flat_map (unit_bytes f) (take i ls) ++ (unit_bytes f x ++ flat_map (unit_bytes f) (drop (suc i) ls))) g
        ∙ parts_split (unit_bytes f) ls i l h ∙ sym (units_bytes f ls)

    begun : (n : ℕ) → new.bytes ≡ mid.bytes ++ take n (lines_written f (unit_line l ∷ [])) → (m : ℕ)
        × (new.bytes ≡ old.bytes ++ take m (lines_written f (singles ls)))
    begun n k = begun_part old.bytes mid.bytes new.bytes (lines_written f (singles (take i ls))) (lines_written f (unit_line l ∷ []))
        (flat_map (unit_bytes f) (drop (suc i) ls)) (lines_written f (singles ls)) n put k split

    by_error : (e : WriteError) → PutsLines f mid (Err e) (unit_line l ∷ []) new → PutsLines f old (Err e) (singles ls) new
    by_error Memory q = (begun q.0.0 q.0.1, q.1 ∙ quiet)
    by_error (Target x) q = (begun q.0.0 q.0.1, q.1 ∙ ap (λ n. n + 1) quiet)

pub units_more : (f : Encoding) (old mid new : Taken) (ls : List ℕ) (i l : ℕ) → i < length ls → l ≡ get_or ls i l →
    mid.bytes ≡ old.bytes ++ lines_written f (singles (take i ls)) → new.bytes ≡ mid.bytes ++ lines_written f (unit_line l ∷ []) →
    new.bytes ≡ old.bytes ++ lines_written f (singles (take (i + 1) ls))
units_more f old mid new ls i l h g put k =
    k ∙ ap (λ x. x ++ lines_written f (unit_line l ∷ [])) put ∙ append_assoc old.bytes (lines_written f (singles (take i ls)))
    (lines_written f (unit_line l ∷ []))
    ∙ ap (λ x. old.bytes ++ x) (taken ls i h g)
  where
    more : (i : ℕ) → suc (i + 1) ≡ suc i + 1
    more i = omega arith

    taken : (ls : List ℕ) (i : ℕ) → i < length ls → l ≡ get_or ls i l →
        lines_written f (singles (take i ls)) ++ lines_written f (unit_line l ∷ []) ≡ lines_written f (singles (take (i + 1) ls))
    taken [] i h g = absurd (omega arith)
    taken (x ∷ ls) zero h g = ap (λ y. lines_written f (unit_line y ∷ [])) g
    taken (x ∷ ls) (suc i) h g =
        append_assoc (unit_bytes f x) (lines_written f (singles (take i ls))) (lines_written f (unit_line l ∷ []))
        ∙ ap (λ ys. unit_bytes f x ++ ys) (taken ls i (omega arith) g) ∙ ap (λ k. lines_written f (singles (take k (x ∷ ls)))) (more i)

pub units_all : (f : Encoding) (ls : List ℕ) (i : ℕ) → length ls ≤ i → lines_written f (singles (take i ls)) ≡ lines_written f (singles ls)
units_all f ls i h = ap (λ x. lines_written f (singles x)) (take_all i ls h)
