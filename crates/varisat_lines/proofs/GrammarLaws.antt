-- The laws of the formats.
use Rattle.std.proofs.Common.{◌≡◌, ℕ, List, sym, ap, ◌∙◌, ◌⊎◌, inl, inr, Option, Some, None}
use Rattle.varisat_lines.specs.declared.format.Encoding.{Encoding}
use Rattle.varisat_lines.specs.promises.Lines.{ProofLine}
use Rattle.varisat_lines.specs.promises.Grammar.{Accepted, FaultAt}
use Rattle.varisat_lines.specs.inside.Machine.{Parsed, parsed}
use Rattle.varisat_lines.specs.promises.Means.{BytesMean}
use Rattle.varisat_lines.specs.inside.Laws.{WrittenIsAccepted, AcceptedOnce, AcceptedOrFaulty, NotBoth, FaultyOnce}
use Rattle.varisat_lines.proofs.TokenLines.{only_parsed, parsed_means}
use Rattle.varisat_lines.proofs.WrittenLines.{written_accepted}

pub same_lines : (a b : List ProofLine) (f g : Option ℕ) (t : Parsed) → t ≡ record { lines = a; fault = f } → t ≡ record { lines = b; fault = g } → (a ≡ b)
    × (f ≡ g)
same_lines a b f g t e h = (sym (ap (λ x. x.lines) e) ∙ ap (λ x. x.lines) h, sym (ap (λ x. x.fault) e) ∙ ap (λ x. x.fault) h)

pub accepted_once : (f : Encoding) → AcceptedOnce f
accepted_once f = λ bytes ls ms a b. (same_lines ls ms None None (parsed f bytes) (only_parsed f bytes ls None a) (only_parsed f bytes ms None b)).0

pub not_both : (f : Encoding) → NotBoth f
not_both f = λ bytes lines o a b. let e = (same_lines lines b.0 None (Some o) (parsed f bytes) (only_parsed f bytes lines None a)
    (only_parsed f bytes b.0 (Some o) b.1)).1 in absurd cc

pub fault_once : (f : Encoding) → FaultyOnce f
fault_once f = λ bytes ls ms o p a b.
    let e = same_lines ls ms (Some o) (Some p) (parsed f bytes) (only_parsed f bytes ls (Some o) a) (only_parsed f bytes ms (Some p) b) in
    let h = e.1 in
    let k : o ≡ p = cc in
    (e.0, k)

by_fault : (f : Encoding) (bytes : List ℕ) (lines : List ProofLine) (fault : Option ℕ) → BytesMean f bytes lines fault →
    ((ls : List ProofLine) × Accepted f ls bytes) ⊎ ((o : ℕ) × FaultAt f bytes o)
by_fault f bytes lines None h = inl (lines, h)
by_fault f bytes lines (Some o) h = inr (o, (lines, h))

pub accepted_or_faulty : (f : Encoding) → AcceptedOrFaulty f
accepted_or_faulty f = λ bytes. let t = parsed f bytes in by_fault f bytes t.lines t.fault (parsed_means f bytes)

pub written_is_accepted : (f : Encoding) → WrittenIsAccepted f
written_is_accepted f = λ lines bytes k h e. written_accepted f lines bytes k h e
