-- The meaning of small texts, by computation. Others are in the tests of the parser.
use Rattle.std.specs.Prelude.{◌≡◌, ℕ, List, [], ◌∷◌, Option, Some, None, map, codes, refl}
use Rattle.varisat_formula.specs.declared.dimacs.error.DimacsErrorKind.{DimacsErrorKind}
use Rattle.varisat_formula.specs.declared.dimacs.error.DimacsErrorKind.TheVariants.{UnexpectedInput, LiteralTooLarge, InvalidHeader, ClauseCount, Io}
use Rattle.varisat_formula.specs.declared.dimacs.error.DimacsError.{DimacsError}
use Rattle.varisat_formula.specs.promises.Dimacs.{Reading, dimacs, broken}

-- the clauses that ended, and the first fault
abbrev pub Tells : Reading → List (List ℕ) → Option DimacsError → Type 0
Tells reading clauses fault = (reading.clauses ≡ clauses) × (reading.fault ≡ fault)

abbrev pub at : ℕ → DimacsErrorKind → Option DimacsError
at n k = Some (record { line = n; kind = k })

-- no clause ends in the texts, and each has the fault
abbrev pub AllFail : List (List ℕ) → Option DimacsError → Type 0
AllFail texts fault = (map (λ t. (dimacs t).clauses) texts ≡ map (λ t. []) texts) × (map (λ t. (dimacs t).fault) texts ≡ map (λ t. fault) texts)

pub largest_literal : Tells (dimacs (codes "268435456 0")) ((536870910 ∷ []) ∷ []) None
largest_literal = (refl, refl)

pub blanks : Tells (dimacs (codes "\t1\r 0\r\n\t\t-1 0 ")) ((0 ∷ []) ∷ (1 ∷ []) ∷ []) None
blanks = (refl, refl)

pub blanks_in_header : Tells (dimacs (codes "p\tcnf  3\r1 \r\n0")) ([] ∷ []) None
blanks_in_header = (refl, refl)

pub wrong_tokens : AllFail (codes "999999999999x" ∷ codes " p" ∷ codes "-" ∷ []) (at 1 UnexpectedInput)
wrong_tokens = (refl, refl)

pub large_literal : AllFail (codes "-268435457 0\n" ∷ []) (at 1 LiteralTooLarge)
large_literal = (refl, refl)

pub malformed_headers : AllFail (codes "pq" ∷ codes "p cnf 1 18446744073709551616" ∷ codes "p cnf 268435457 01" ∷ codes "p cnf 1 1 1\n1 0" ∷ [])
    (at 1 InvalidHeader)
malformed_headers = (refl, refl)

pub late_headers : AllFail (codes "p cnf 0 0\np cnf 0 0\n" ∷ codes "1\np cnf 1 1\n0" ∷ []) (at 2 InvalidHeader)
late_headers = (refl, refl)

pub largest_count : AllFail (codes "p cnf 1 18446744073709551615" ∷ []) (at 1 ClauseCount)
largest_count = (refl, refl)

-- one clause too many comes before a literal that is above V, and a literal above the limit before both
pub too_many : AllFail (codes "p cnf 1 0\n2 0" ∷ codes "p cnf 1 0\n0" ∷ []) (at 2 ClauseCount)
too_many = (refl, refl)

pub large_before_too_many : AllFail (codes "p cnf 1 0\n268435457 0" ∷ []) (at 2 LiteralTooLarge)
large_before_too_many = (refl, refl)

-- where the text breaks off, the last token does not count
pub broken_token : Tells (broken Io (codes "1 0 01")) ((0 ∷ []) ∷ []) (at 1 Io)
broken_token = (refl, refl)
