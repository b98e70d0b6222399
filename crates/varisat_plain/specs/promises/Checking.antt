-- What the plain checker returns.
use Rattle.std.specs.Prelude.{◌≡◌, ◌≢◌, ℕ, suc, ◌<◌, slice_index_or, List, [], ◌∷◌, ◌++◌, length, map, Vec}
use Rattle.varisat_theory.specs.promises.Membership.{◌∈◌, SameSet}
use Rattle.varisat_theory.specs.promises.Literals.{Literal, Clause, opposite}
use Rattle.varisat_theory.specs.promises.Propagation.{IsFalse, LeavesOnly, Follows}
use Rattle.varisat_theory.specs.promises.Derivations.{Line, Add, Delete, IsPresentAfter, IsDerivation, Refutes, Derives}
use Rattle.varisat_plain.specs.declared.propagation.ClauseStatus.{ClauseStatus}
use Rattle.varisat_plain.specs.declared.propagation.ClauseStatus.TheVariants.{False, Leaves, Open}
use Rattle.varisat_plain.specs.declared.checker.PlainLine.{PlainLine}
use Rattle.varisat_plain.specs.declared.checker.PlainLine.TheVariants.{Adds, Deletes}
use Rattle.varisat_plain.specs.declared.checker.LineStatus.{LineStatus}
use Rattle.varisat_plain.specs.declared.checker.LineStatus.TheVariants.{Taken, Unproved, Absent}
use Rattle.varisat_plain.specs.declared.checker.PlainVerdict.{PlainVerdict}
use Rattle.varisat_plain.specs.declared.checker.PlainVerdict.TheVariants.{Refutation, Derivation, DoesNotFollow, DeletesNothing}

-- the clauses as lists
abbrev pub clause_lists : {A : Type 0} → List (Vec ℕ A) → List Clause
clause_lists vs = map (λ v. v.items) vs

-- the line with its clause as a list
abbrev pub line_of : PlainLine → Line
line_of (Adds v) = Add v.items
line_of (Deletes v) = Delete v.items

-- what the status says of the clause: it is false, it leaves one literal, or it has two different literals that are not false
abbrev pub IsClauseStatus : List Literal → Clause → ClauseStatus → Type 0
IsClauseStatus known c False = IsFalse known c
IsClauseStatus known c (Leaves l) = (l ∈ c) × (opposite l ∈ known → ⊥) × LeavesOnly known c l
IsClauseStatus known c Open =
    (m n : Literal) × (m ∈ c) × (n ∈ c) × (m ≢ n) × (opposite m ∈ known → ⊥) × (opposite n ∈ known → ⊥)

-- the clause is equal to none of P as a set
abbrev pub IsAbsent : List Clause → Clause → Type 0
IsAbsent P c = (d : Clause) → d ∈ P → SameSet d c → ⊥

-- at the place i stands a clause that is equal to c as a set
abbrev pub IsPlaceOf : {A : Type 0} → List (Vec ℕ A) → Clause → ℕ → Type 0
IsPlaceOf present c i = (i < length present) × SameSet (slice_index_or (clause_lists present) i []) c

-- what becomes of a line where P is present: it is taken, after which Q is present, it adds what does not follow, or it deletes nothing
abbrev pub IsPlainLineStatus : List Clause → Line → LineStatus → List Clause → Type 0
IsPlainLineStatus P l Taken Q = Derives P (l ∷ []) Q
IsPlainLineStatus P (Add c) Unproved Q = Follows P c → ⊥
IsPlainLineStatus P (Delete c) Unproved Q = ⊥
IsPlainLineStatus P (Add c) Absent Q = ⊥
IsPlainLineStatus P (Delete c) Absent Q = IsAbsent P c

-- a line is wrong where Q is present: it adds what does not follow, or deletes what is absent
abbrev pub IsWrong : List Clause → Line → Type 0
IsWrong Q (Add c) = Follows Q c → ⊥
IsWrong Q (Delete c) = IsAbsent Q c

-- Line number `number`, counted from 1, is the first wrong one: the lines before it are a derivation that does not refute, and
-- where they leave off it is wrong.
pub record IsFirstWrong (P : List Clause) (lines : List Line) (number : ℕ) (line : Line) : Type 0 where
  pub front : List Line
  pub back : List Line
  pub present : List Clause
  pub split : lines ≡ front ++ (line ∷ back)
  pub numbered : number ≡ suc (length front)
  pub derives : IsDerivation P front
  pub unrefuted : Refutes P front → ⊥
  pub is_present : IsPresentAfter P front present
  pub wrong : IsWrong present line

-- what each verdict says of the lines
abbrev pub IsVerdict : List Clause → List Line → PlainVerdict → Type 0
IsVerdict P lines Refutation = Refutes P lines
IsVerdict P lines Derivation = IsDerivation P lines × (Refutes P lines → ⊥)
IsVerdict P lines (DoesNotFollow number) = (c : Clause) × IsFirstWrong P lines number (Add c)
IsVerdict P lines (DeletesNothing number) = (c : Clause) × IsFirstWrong P lines number (Delete c)
