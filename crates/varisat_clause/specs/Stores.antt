-- A store of clauses: one list of words, and the places at which clauses begin in it.
use Rattle.std.specs.Prelude.{◌≡◌, ℕ, ◌+◌, ◌^◌, ◌≤◌, ◌<◌, nat_le, nat_lt, List, [], ◌∷◌, ◌++◌, length, map, take, drop, Bool, ◌&&◌, slice_index, slice_set}
use Rattle.varisat_clause.specs.Headers.{Header, header_of_words, flags_of}
use Rattle.varisat_theory.specs.promises.Literals.{Clause}
use Rattle.varisat_clause.specs.Stored.{StoredClause, stored_at, header_at, literals_at, with_stored, with_literals, with_header, AppendsClause}

-- A clause is three words for its header, and then its literals. A clause that was shortened leaves a gap behind it.
pub record Store : Type 0 where
  pub words : List ℕ
  pub places : List ℕ

-- before the first clause
abbrev pub no_store : Store
no_store = record { words = []; places = [] }

-- the length of the clause at the place
abbrev pub len_at : List ℕ → ℕ → ℕ
len_at ws p = slice_index ws (p + 2)

-- the header at the place
abbrev pub header_in : List ℕ → ℕ → Header
header_in ws p = header_of_words (slice_index ws p) (slice_index ws (p + 1)) (len_at ws p)

-- the clause at the place
abbrev pub clause_in : List ℕ → ℕ → StoredClause
clause_in ws p = record { place = p; header = header_in ws p; literals = take (len_at ws p) (drop (p + 3) ws) }

-- the clauses of a store, also those that are deleted
abbrev pub stored_clauses : Store → List StoredClause
stored_clauses s = map (clause_in s.words) s.places

-- the clause of the store at the place
abbrev pub clause_of : Store → ℕ → StoredClause
clause_of s p = stored_at (stored_clauses s) p

-- a clause of three literals or more stands at the place, between low and high
pub record Lies (ws : List ℕ) (low high p : ℕ) : Type 0 where
  pub begins : low ≤ p
  pub long : 3 ≤ len_at ws p
  pub ends : p + 3 + len_at ws p ≤ high
  pub flags : slice_index ws (p + 1) < 2 ^ 11

-- clauses stand one after another between low and high
abbrev pub FitsWords : List ℕ → ℕ → ℕ → List ℕ → Type 0
FitsWords ws low high [] = low ≤ high
FitsWords ws low high (p ∷ ps) = Lies ws low high p × FitsWords ws (p + 3 + len_at ws p) high ps

-- What each call keeps. Words that are lent may break it.
pub record IsSound (s : Store) : Type 0 where
  pub fits : FitsWords s.words 0 (length s.words) s.places
  pub small : length s.words < 2 ^ 32

-- the same as tests
abbrev pub lies : List ℕ → ℕ → ℕ → ℕ → Bool
lies ws low high p =
    nat_le low p && nat_le 3 (len_at ws p) && nat_le (p + 3 + len_at ws p) high && nat_lt (slice_index ws (p + 1))
    (2 ^ 11)

-- the same as a test: clauses of these places stand one after another between two words
abbrev pub fit : List ℕ → ℕ → ℕ → List ℕ → Bool
fit ws low high [] = nat_le low high
fit ws low high (p ∷ ps) = lies ws low high p && fit ws (p + 3 + len_at ws p) high ps

-- the same as a test: all words are clauses or gaps, and fewer than 2^32
abbrev pub is_sound : Store → Bool
is_sound s = fit s.words 0 (length s.words) s.places && nat_lt (length s.words) (2 ^ 32)

-- a sound store of so many words, with these clauses
pub record HoldsClauses (s : Store) (size : ℕ) (ks : List StoredClause) : Type 0 where
  pub sound : IsSound s
  pub words : length s.words ≡ size
  pub clauses : stored_clauses s ≡ ks

-- Of a store that is rewritten in place, the clauses are what f makes of them, in as many words.
abbrev pub RewritesClauses : Store → Store → (List StoredClause → List StoredClause) → Type 0
RewritesClauses old new f = HoldsClauses new (length old.words) (f (stored_clauses old))

-- only the clause at the place is changed
abbrev pub RewritesClauseAt : Store → Store → ℕ → (StoredClause → StoredClause) → Type 0
RewritesClauseAt old new p f =
    HoldsClauses new (length old.words) (with_stored (stored_clauses old) p (f (stored_at (stored_clauses old) p)))

-- only its header is changed
abbrev pub RewritesHeaderAt : Store → Store → ℕ → (Header → Header) → Type 0
RewritesHeaderAt old new p f =
    HoldsClauses new (length old.words) (with_header (stored_clauses old) p (f (header_at (stored_clauses old) p)))

-- only its literals are changed
abbrev pub RewritesLiteralsAt : Store → Store → ℕ → (Clause → Clause) → Type 0
RewritesLiteralsAt old new p f =
    HoldsClauses new (length old.words) (with_literals (stored_clauses old) p (f (literals_at (stored_clauses old) p)))

-- a clause stands behind the words that there were, and all else is as it was
pub record AddsStored (old new : Store) (k : StoredClause) : Type 0 where
  pub sound : IsSound new
  pub place : k.place ≡ length old.words
  pub words : length new.words ≡ length old.words + 3 + length k.literals
  pub clauses : AppendsClause (stored_clauses old) (stored_clauses new) k

-- the header written to the words from p on
abbrev pub header_written : List ℕ → ℕ → Header → List ℕ
header_written ws p h = slice_set (slice_set (slice_set ws p h.activity) (p + 1) (flags_of h)) (p + 2) h.len

-- xs written over as many words from a on
abbrev pub splice : List ℕ → ℕ → List ℕ → List ℕ
splice ws a xs = take a ws ++ (xs ++ drop (length xs) (drop a ws))

-- the same, where what is too long is cut off
abbrev pub put_words : Store → ℕ → List ℕ → Store
put_words s a xs =
    record s { words = take (length s.words) (splice s.words a xs ++ drop (length (splice s.words a xs)) s.words) }

-- n words that are written behind the header at the place become the literals of the clause there, and no other clause changes
abbrev pub TakesLiteralsAt : Store → ℕ → ℕ → Type 0
TakesLiteralsAt s p n = (ws : List ℕ) → length ws ≡ n → RewritesLiteralsAt s (put_words s (p + 3) ws) p (λ _. ws)
