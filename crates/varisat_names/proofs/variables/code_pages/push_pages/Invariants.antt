use Rattle.std.proofs.Common.{ℕ, ◌≡◌, ◌+◌, ◌-◌, [], length, map, get_or}
use Rattle.varisat_names.proofs.variables.code_pages.push_pages.Given as goal

abbrev pub invariant-loop-pages : goal.invariant-loop-pages
invariant-loop-pages g l = (p : ℕ) → get_or (map (λ v. v.items) l.pages.items) p [] ≡ get_or (map (λ v. v.items) l.fn.pages.items) p []

abbrev pub decreases-loop-pages : goal.decreases-loop-pages
decreases-loop-pages g l = l.index + 1 - length l.pages.items
