-- Codes by number, in pages: that of i is at the place i % 1024 of the page i / 1024. A page without memory is empty.
use Rattle.std.specs.Prelude.{ℕ, ◌/◌, ◌%◌, List, [], slice_index_or}

-- the code at a place of a page: where nothing was set, that of no variable
abbrev pub code_in : List ℕ → ℕ → ℕ
code_in page q = slice_index_or page q 0x8000_0000

-- the code of the number
abbrev pub code_at : List (List ℕ) → ℕ → ℕ
code_at pages i = code_in (slice_index_or pages (i / 1024) []) (i % 1024)
