-- The result of a check is the one right one.
use Rattle.std.proofs.Common.{◌≡◌, ℕ, List, [], ◌∷◌, inl, inr, refl, sym, ap, subst, ◌∙◌, Option, None, Result}
use Rattle.varisat_theory.specs.promises.Literals.{Clause}
use Rattle.varisat_theory.specs.promises.Derivations.{Line, Add, Delete, IsDerivation}
use Rattle.varisat_plain.specs.promises.Checking.{IsVerdict}
use Rattle.varisat_plain.specs.declared.checker.PlainVerdict.{PlainVerdict}
use Rattle.varisat_plain.specs.declared.checker.PlainVerdict.TheVariants as plain
use Rattle.varisat_plain.proofs.Checking.{exact, wrong_no_derivation}
use Rattle.varisat_proof.specs.declared.checker.error.CheckVerdict.{CheckVerdict}
use Rattle.varisat_proof.specs.declared.checker.error.CheckerError.{CheckerError}
use Rattle.varisat_lines.specs.declared.format.Encoding.{Encoding}
use Rattle.varisat_lines.specs.declared.format.ProofFormat.{ProofFormat}
use Rattle.varisat_lines.specs.promises.Lines.{ProofLine, plain_line, plain_lines, plain_encoding, HasKinds}
use Rattle.varisat_lines.specs.inside.Machine.{Parsed, parsed}
use Rattle.varisat_proof.specs.promises.Results.{result_of, IsAccepted, DerivationIsAccepted, ResultOnce}
use Rattle.varisat_lines.proofs.TokenLines.{only_parsed}
use Rattle.varisat_lines.proofs.WrittenLines.{written_accepted}
use Rattle.varisat_lines.proofs.GrammarLaws.{same_lines}

-- plain lines are those of one list
line_same : (l m : Line) → plain_line l ≡ plain_line m → l ≡ m
line_same (Add c) (Add d) e = ap Add (ap (λ x. x.clause) e)
line_same (Delete c) (Delete d) e = ap Delete (ap (λ x. x.clause) e)
line_same (Add c) (Delete d) e = absurd (let h = ap (λ x. x.kind) e in cc)
line_same (Delete c) (Add d) e = absurd (let h = ap (λ x. x.kind) e in cc)

plain_same : (ls ms : List Line) → plain_lines ls ≡ plain_lines ms → ls ≡ ms
plain_same [] [] e = refl
plain_same [] (m ∷ ms) e = absurd cc
plain_same (l ∷ ls) [] e = absurd cc
plain_same (l ∷ ls) (m ∷ ms) e = let h : plain_line l ≡ plain_line m = cc in let t : plain_lines ls ≡ plain_lines ms = cc in
    ap (λ x. x ∷ ls) (line_same l m h) ∙ ap (λ x. m ∷ x) (plain_same ls ms t)

pub result_once : (f : ProofFormat) → ResultOnce f
result_once f = λ P bytes r q Q R a b.
    let t = same_lines (plain_lines a.lines) (plain_lines b.lines) a.fault b.fault (parsed (plain_encoding f) bytes)
    (only_parsed (plain_encoding f) bytes (plain_lines a.lines) a.fault a.means)
    (only_parsed (plain_encoding f) bytes (plain_lines b.lines) b.fault b.means) in
    let v : a.verdict ≡ b.verdict = (exact P a.lines a.verdict a.is_verdict b.verdict).1
    (subst (λ l. IsVerdict P l b.verdict) (sym (plain_same a.lines b.lines t.0)) b.is_verdict) in
    a.result_is ∙ ap (λ x. result_of x a.verdict) t.1 ∙ ap (λ x. result_of b.fault x) v ∙ sym b.result_is

plain_kinds : (e : Encoding) (lines : List Line) → HasKinds e (plain_lines lines)
plain_kinds e [] = tt
plain_kinds e (Add c ∷ lines) = (refl, plain_kinds e lines)
plain_kinds e (Delete c ∷ lines) = (refl, plain_kinds e lines)

-- a derivation is accepted
by_verdict : (P : List Clause) (lines : List Line) (v : PlainVerdict) (r : Result CheckVerdict CheckerError) → IsDerivation P lines →
    IsVerdict P lines v → r ≡ result_of None v → IsAccepted P lines r
by_verdict P lines plain.Refutation r d h e = inl (h, e)
by_verdict P lines plain.Derivation r d h e = inr (h.1, e)
by_verdict P lines (plain.DoesNotFollow n) r d (c, w) e = absurd (wrong_no_derivation P lines n (Add c) w d)
by_verdict P lines (plain.DeletesNothing n) r d (c, w) e = absurd (wrong_no_derivation P lines n (Delete c) w d)

pub derivation_accepted : (f : ProofFormat) → DerivationIsAccepted f
derivation_accepted f = λ P lines bytes r Q d range w a.
    let e = plain_encoding f in
    let t = same_lines (plain_lines a.lines) (plain_lines lines) a.fault None (parsed e bytes)
    (only_parsed e bytes (plain_lines a.lines) a.fault a.means)
    (only_parsed e bytes (plain_lines lines) None (written_accepted e (plain_lines lines) bytes (plain_kinds e lines) range w)) in
    by_verdict P lines a.verdict r d (subst (λ l. IsVerdict P l a.verdict) (plain_same a.lines lines t.0) a.is_verdict)
    (a.result_is ∙ ap (λ x. result_of x a.verdict) t.1)
