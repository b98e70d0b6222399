-- Tokens that are kept.
use Rattle.std.proofs.Common.{◌≡◌, ℕ, List, [], ◌∷◌, ◌++◌, true, false, refl, sym, ap, subst, ◌∙◌, length, length-append, append-nil, arith, None, take, get_or, Option, Some}
use Rattle.varisat_formula.specs.declared.dimacs.token.Word.{Word}
use Rattle.varisat_formula.specs.declared.dimacs.parser.ParserState.TheVariants.{Plain}
use Rattle.varisat_formula.specs.declared.dimacs.error.DimacsError.{DimacsError}
use Rattle.varisat_formula.specs.declared.dimacs.error.DimacsErrorKind.TheVariants.{OutOfMemory}
use Rattle.varisat_formula.specs.promises.Dimacs.{Reading, read, failed, is_blank, GoesOn, BreaksOff, close, close_by}
use Rattle.varisat_formula.specs.promises.Rest.{Progress, word_items, line_rest, gives_from, so_far_from, AdvancesBy, KeepsToken, WantsRoom, RunsOut, RunsOutIn}
use Rattle.varisat_formula.proofs.ParserProgress.{open_gives, goes_on, breaks_off}

longer : {X : Type 0} (xs : List X) (x : X) → xs ++ x ∷ [] ≡ xs → ⊥
longer xs x e = let f = ap length e in let g = length-append xs (x ∷ []) in absurd (omega arith)

data_at : (r s t : Reading) → t ≡ s → KeepsToken r s → KeepsToken r t
data_at r s t e k = subst (λ x. KeepsToken r x) (sym e) k

pub kept_by : (a b r s : Reading) → a ≡ r → b ≡ s → KeepsToken r s → KeepsToken a b
kept_by a b r s e f k = subst (λ x. KeepsToken x b) (sym e) (data_at r s b f k)

-- a blank ends the token
blank_gives : (s : Progress) (w : Word) → s.over ≡ false → s.place ≡ Plain w → so_far_from s (32 ∷ []) ≡ read s.reading (word_items s.line w)
blank_gives s w e f =
    open_gives GoesOn s (32 ∷ []) e
    ∙ ap (λ x. close GoesOn (read s.reading (line_rest false s.line x (32 ∷ []))) s.line) f
    ∙ ap (λ xs. close GoesOn (read s.reading xs) s.line) (append-nil (word_items s.line w))
    ∙ still (read s.reading (word_items s.line w)) s.line
  where
    by_fault : (f : Option DimacsError) (r : Reading) (n : ℕ) → close_by f GoesOn r n ≡ r
    by_fault None r n = refl
    by_fault (Some e) r n = refl

    still : (r : Reading) (n : ℕ) → close GoesOn r n ≡ r
    still r n = by_fault r.fault r n

pub ran_out : (p s q : Progress) (text : List ℕ) → AdvancesBy p text s → s.over ≡ false → s.reading.fault ≡ None → WantsRoom s →
    q.reading ≡ failed s.reading s.line OutOfMemory → RunsOut p text q
ran_out p s q text f e h w k =
    let here : so_far_from p text ≡ s.reading = sym (ap (λ x. so_far_from p x) (append-nil text)) ∙ sym (f.same GoesOn []) ∙ goes_on s in
    let there : so_far_from p (text ++ 32 ∷ []) ≡ read s.reading (word_items s.line w.word) = sym (f.same GoesOn (32 ∷ []))
    ∙ blank_gives s w.word e w.place_is in
    record {
      reading = k ∙ sym (breaks_off OutOfMemory s e h) ∙ f.same (BreaksOff OutOfMemory) []
          ∙ ap (λ x. gives_from (BreaksOff OutOfMemory) p x) (append-nil text);
      wants = kept_by (so_far_from p text) (so_far_from p (text ++ 32 ∷ [])) s.reading (read s.reading (word_items s.line w.word)) here there w.keeps;
    }

pub ran_out_in : (p s q : Progress) (piece : List ℕ) (i : ℕ) → AdvancesBy p (take i piece) s → s.over ≡ false → s.reading.fault ≡ None →
    WantsRoom s → is_blank (get_or piece i 0) ≡ true → q.reading ≡ failed s.reading s.line OutOfMemory → RunsOutIn p piece q
ran_out_in p s q piece i f e h w b k = record { at = i; blank = b; out = ran_out p s q (take i piece) f e h w k }
