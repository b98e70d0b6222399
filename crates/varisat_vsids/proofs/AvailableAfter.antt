-- For callers: how many variables there are, and which are available, after each call.
use Rattle.std.proofs.Common.{◌≡◌, ◌≢◌, ℕ, ◌-◌, ◌<◌, ◌≤◌, length, Bool, false, arith, length-append, length-set, get_or-set_same, get_or-set_other}
use Rattle.std.proofs.lemmas.List.{length-replicate}
use Rattle.varisat_theory.proofs.clauses.Padded.{padded}
use Rattle.varisat_vsids.specs.Activities.{Activities, is_available, raised_to, with_available}

pub is_available-with_available_same : (a : Activities) (v : ℕ) (b : Bool) → v < length a.available → is_available (with_available v b a) v ≡ b
is_available-with_available_same a v b h = get_or-set_same a.available v b false h

pub is_available-with_available_other : (a : Activities) (v w : ℕ) (b : Bool) → w ≢ v → is_available (with_available v b a) w ≡ is_available a w
is_available-with_available_other a v w b n = get_or-set_other a.available v w b false n

pub length-with_available : (a : Activities) (v : ℕ) (b : Bool) → length (with_available v b a).available ≡ length a.available
length-with_available a v b = length-set a.available v b

-- no variable becomes available as their count is raised
pub is_available-raised_to : (a : Activities) (count v : ℕ) → is_available (raised_to count a) v ≡ is_available a v
is_available-raised_to a count v = padded false a.available (count - length a.activity) v

pub length-raised_to : (a : Activities) (count : ℕ) → length a.available ≡ length a.activity → length a.activity ≤ count
    → (length (raised_to count a).activity ≡ count) × (length (raised_to count a).available ≡ count)
length-raised_to a count e h = (
  simp (length-append, length-replicate) (omega arith),
  simp (length-append, length-replicate) (omega (arith, e)),
)
