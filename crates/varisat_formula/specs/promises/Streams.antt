-- How sources stand and what reading does to them, and what targets took.
use Rattle.std.specs.Prelude.{◌≡◌, ℕ, zero, suc, ◌+◌, ◌-◌, ◌^◌, ◌≤◌, ◌⊎◌, min, max, List, [], ◌++◌, length, take, drop, nat_lt, Bool, true, false, if◌then◌else◌, Option, Some, Result, Ok, Err, MatchResult}
use Rattle.std.specs.Io.KnownBytes.{Consumes, IsAtEnd}

-- the bytes that were given; those that are left, where they are known; how many pieces may still come; how many faults there
-- were; and whether the source gave its end
pub record Input : Type 0 where
  pub given : List ℕ
  pub left : Option (List ℕ)
  pub pieces : ℕ
  pub faults : ℕ
  pub ended : Bool

-- a call gave as many bytes from the buffer's front as it returned; none at Err
abbrev pub FillsFrom : {E : Type 0} → List ℕ → List ℕ → Result ℕ E → List ℕ → Type 0
FillsFrom old new r buffer = MatchResult r (λ n. new ≡ old ++ take n buffer) (λ _. new ≡ old)

-- Whether a source gave its end, after it gave n bytes for a buffer: bytes say that it has not ended, no bytes for a buffer that
-- is not empty say that it has, and else it is as before.
abbrev pub ended_at : Bool → ℕ → List ℕ → Bool
ended_at before n buffer = if nat_lt 0 n then false else (if nat_lt 0 (length buffer) then true else before)

-- the same after a call that returned r, which may have failed
abbrev pub ended_after : {E : Type 0} → Bool → Result ℕ E → List ℕ → Bool
ended_after before (Ok n) buffer = ended_at before n buffer
ended_after before (Err e) buffer = before

-- between s and t just this text was read of the source
pub record Reads (s : Input) (text : List ℕ) (t : Input) : Type 0 where
  pub gave : t.given ≡ s.given ++ text
  pub consumed : Consumes s.left t.left text
  pub no_more : t.pieces ≤ s.pieces

-- the source gave its end, and no byte is left that is known
pub record HasEnded (t : Input) : Type 0 where
  pub reported : t.ended ≡ true
  pub at_end : IsAtEnd t.left

-- all the bytes that a target took, and how many faults there were
pub record Taken : Type 0 where
  pub bytes : List ℕ
  pub faults : ℕ

-- a target to which nothing was written
abbrev pub no_bytes : Taken
no_bytes = record { bytes = []; faults = 0 }

-- the bytes that were taken; how many faults there were; what the writer behind the target holds, where that is known
pub record Output : Type 0 where
  pub bytes : List ℕ
  pub faults : ℕ
  pub contents : Option (List ℕ)

-- one call more; a count stays at 2^64-1 once it is there
abbrev pub counted : ℕ → ℕ
counted n = min (n + 1) (2 ^ 64 - 1)

-- A target for tests: what it took, its faults, how often each of its calls was made, which call of each fails, and how many
-- bytes the failing `put` takes at most.
pub record CutTaken : Type 0 where
  pub bytes : List ℕ
  pub faults : ℕ
  pub puts : ℕ
  pub flushes : ℕ
  pub failing_put : ℕ
  pub failing_flush : ℕ
  pub part : ℕ

-- the failing `put` took the part of the bytes, or none of them
abbrev pub TakesPart : CutTaken → List ℕ → CutTaken → Type 0
TakesPart old bytes new = (new.bytes ≡ old.bytes) ⊎ (new.bytes ≡ old.bytes ++ take old.part bytes)

-- A source for tests: its text, how much of that it gave, how large its first and its other pieces are at most, how often it was
-- asked, which call fails, its faults, and whether it gave its end.
pub record CutText : Type 0 where
  pub text : List ℕ
  pub place : ℕ
  pub first : ℕ
  pub size : ℕ
  pub fills : ℕ
  pub failing_fill : ℕ
  pub faults : ℕ
  pub ended : Bool

-- how large the next piece is at most, which is one byte at least
abbrev pub piece_size : ℕ → ℕ → ℕ → ℕ
piece_size zero (suc first) size = suc first
piece_size zero zero size = max size 1
piece_size (suc place) first size = max size 1

-- how many bytes come next into a buffer with so much room
abbrev pub piece_count : CutText → ℕ → ℕ
piece_count s room = min (min (length (drop s.place s.text)) room) (piece_size s.place s.first s.size)

-- the source's input: it gave the text up to the place, and each further piece has a byte at least
abbrev pub cut_input : CutText → Input
cut_input s = record {
  given = take s.place s.text;
  left = Some (drop s.place s.text);
  pieces = length s.text - s.place;
  faults = s.faults;
  ended = s.ended;
}
