-- The bytes of lines that are written one after the other.
use Rattle.std.proofs.Common.{◌≡◌, ℕ, zero, suc, ◌+◌, ◌<◌, ◌≤◌, List, [], ◌∷◌, ◌++◌, length, get_or, take, drop, Err, ap, ◌∙◌, append_assoc, append-nil, take_all, arith}
use Rattle.varisat_theory.specs.promises.Derivations.{Line, Add}
use Rattle.varisat_formula.specs.promises.Streams.{Taken}
use Rattle.varisat_formula.proofs.TargetParts.{begun_part}
use Rattle.varisat_lines.specs.declared.format.Encoding.{Encoding}
use Rattle.varisat_lines.specs.declared.writer.WriteError.{WriteError}
use Rattle.varisat_lines.specs.declared.writer.WriteError.TheVariants.{Memory, Target}
use Rattle.varisat_lines.specs.promises.Lines.{plain_line, plain_lines}
use Rattle.varisat_lines.specs.promises.Steps.{lines_written, PutsLines}
use Rattle.varisat_lines.specs.promises.Written.{line_written}

split-lines : (e : Encoding) (ls : List Line) (i : ℕ) (l : Line) → i < length ls → l ≡ get_or ls i (Add []) →
    lines_written e (plain_lines (take i ls)) ++ (lines_written e (plain_line l ∷ []) ++ lines_written e (plain_lines (drop (suc i) ls)))
    ≡ lines_written e (plain_lines ls)
split-lines e [] i l h k = absurd (omega (arith, h))
split-lines e (m ∷ ls) zero l h k =
    ap (λ x. x ++ lines_written e (plain_lines ls)) (append-nil (line_written e (plain_line l)))
    ∙ ap (λ x. line_written e (plain_line x) ++ lines_written e (plain_lines ls)) k
split-lines e (m ∷ ls) (suc i) l h k =
    append_assoc (line_written e (plain_line m)) (lines_written e (plain_lines (take i ls)))
    (lines_written e (plain_line l ∷ []) ++ lines_written e (plain_lines (drop (suc i) ls)))
    ∙ ap (λ x. line_written e (plain_line m) ++ x) (split-lines e ls i l (omega (arith, h)) k)

more-lines : (e : Encoding) (ls : List Line) (i : ℕ) (l : Line) → i < length ls → l ≡ get_or ls i (Add []) →
    lines_written e (plain_lines (take i ls)) ++ lines_written e (plain_line l ∷ []) ≡ lines_written e (plain_lines (take (suc i) ls))
more-lines e [] i l h k = absurd (omega (arith, h))
more-lines e (m ∷ ls) zero l h k = ap (λ x. line_written e (plain_line x) ++ []) k
more-lines e (m ∷ ls) (suc i) l h k =
    append_assoc (line_written e (plain_line m)) (lines_written e (plain_lines (take i ls))) (lines_written e (plain_line l ∷ []))
    ∙ ap (λ x. line_written e (plain_line m) ++ x) (more-lines e ls i l (omega (arith, h)) k)

pub lines-more : (e : Encoding) (old mid new : Taken) (ls : List Line) (i : ℕ) (l : Line) → i < length ls → l ≡ get_or ls i (Add []) →
    mid.bytes ≡ old.bytes ++ lines_written e (plain_lines (take i ls)) → new.bytes ≡ mid.bytes ++ lines_written e (plain_line l ∷ []) →
    new.bytes ≡ old.bytes ++ lines_written e (plain_lines (take (i + 1) ls))
lines-more e old mid new ls i l h k p q =
    let one : suc i ≡ i + 1 = omega arith in
    q ∙ ap (λ x. x ++ lines_written e (plain_line l ∷ [])) p
    ∙ append_assoc old.bytes (lines_written e (plain_lines (take i ls))) (lines_written e (plain_line l ∷ []))
    ∙ ap (λ x. old.bytes ++ x) (more-lines e ls i l h k) ∙ ap (λ n. old.bytes ++ lines_written e (plain_lines (take n ls))) one

pub lines-all : (e : Encoding) (old mid : Taken) (ls : List Line) (i : ℕ) → length ls ≤ i →
    mid.bytes ≡ old.bytes ++ lines_written e (plain_lines (take i ls)) → mid.bytes ≡ old.bytes ++ lines_written e (plain_lines ls)
lines-all e old mid ls i h p = p ∙ ap (λ x. old.bytes ++ lines_written e (plain_lines x)) (take_all i ls h)

pub lines-fail : (e : Encoding) (old mid new : Taken) (error : WriteError) (ls : List Line) (i : ℕ) (l : Line) → i < length ls → l ≡ get_or ls i (Add []) →
    mid.bytes ≡ old.bytes ++ lines_written e (plain_lines (take i ls)) → mid.faults ≡ old.faults →
    PutsLines e mid (Err error) (plain_line l ∷ []) new → PutsLines e old (Err error) (plain_lines ls) new
lines-fail e old mid new error ls i l h k put quiet p = by_error error p
  where
    begun : (n : ℕ) → new.bytes ≡ mid.bytes ++ take n (lines_written e (plain_line l ∷ [])) → (m : ℕ)
        × (new.bytes ≡ old.bytes ++ take m (lines_written e (plain_lines ls)))
    begun n q = begun_part old.bytes mid.bytes new.bytes (lines_written e (plain_lines (take i ls))) (lines_written e (plain_line l ∷ []))
        (lines_written e (plain_lines (drop (suc i) ls))) (lines_written e (plain_lines ls)) n put q (split-lines e ls i l h k)

    by_error : (x : WriteError) → PutsLines e mid (Err x) (plain_line l ∷ []) new → PutsLines e old (Err x) (plain_lines ls) new
    by_error Memory q = (begun q.0.0 q.0.1, q.1 ∙ quiet)
    by_error (Target x) q = (begun q.0.0 q.0.1, q.1 ∙ ap (λ n. n + 1) quiet)
