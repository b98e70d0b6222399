-- The activities of the clauses.
use Rattle.std.specs.Prelude.{ℕ, ◌+◌, ◌*◌, ◌/◌, ◌^◌, ◌<◌, ◌≤◌, max, nat_le, Bool, if◌then◌else◌, List, length, map}
use Rattle.varisat_clause.specs.Stored.{StoredClause, header_at, with_header}
use Rattle.varisat_clause.specs.Stores.{Store, stored_clauses, HoldsClauses, RewritesClauses}

-- the increment at first, below which it never falls
abbrev pub least_clause_increment : ℕ
least_clause_increment = 2 ^ 10

-- where an activity or the increment reaches it, all are shifted
abbrev pub clause_activity_limit : ℕ
clause_activity_limit = 2 ^ 28

-- what a bump adds; and the decay, in thousandths
pub record ActivityScale : Type 0 where
  pub increment : ℕ
  pub decay : ℕ

-- the scale of a new store
abbrev pub first_scale : ActivityScale
first_scale = record { increment = least_clause_increment; decay = 999 }

-- what the numbers keep to between calls
pub record AreWithinClauseLimits (increment decay : ℕ) : Type 0 where
  pub least : least_clause_increment ≤ increment
  pub small : increment < clause_activity_limit
  pub slow : decay ≤ 999
  pub fast : 500 ≤ decay

-- the clause has the activity
abbrev pub with_activity : List StoredClause → ℕ → ℕ → List StoredClause
with_activity ks p a = with_header ks p (record (header_at ks p) { activity = a })

-- the clause with its activity divided by 2^16
abbrev pub activity_shifted : StoredClause → StoredClause
activity_shifted k = record k { header = record k.header { activity = k.header.activity / 2 ^ 16 } }

-- each activity is shifted right by 16
abbrev pub clauses_shifted : List StoredClause → List StoredClause
clauses_shifted ks = map activity_shifted ks

-- the increment too, but no less than the least
abbrev pub scale_shifted : ActivityScale → ActivityScale
scale_shifted a = record a { increment = max least_clause_increment (a.increment / 2 ^ 16) }

-- where `full`, all activities and the increment are shifted
abbrev pub clauses_rescaled : Bool → List StoredClause → List StoredClause
clauses_rescaled full ks = if full then clauses_shifted ks else ks

-- the increment is divided too where a number came to the limit
abbrev pub scale_rescaled : Bool → ActivityScale → ActivityScale
scale_rescaled full a = if full then scale_shifted a else a

-- whether the number is at the limit or above
abbrev pub reaches_clause_limit : ℕ → Bool
reaches_clause_limit n = nat_le clause_activity_limit n

-- the clauses of a store, and what a bump adds to an activity
pub record Scored : Type 0 where
  pub clauses : List StoredClause
  pub scale : ActivityScale

-- the clauses of the store, with the scale
abbrev pub scored : Store → ActivityScale → Scored
scored s a = record { clauses = stored_clauses s; scale = a }

-- Of a store that is rewritten in place, the clauses are what f makes of them and the scale, in as many words.
abbrev pub RewritesScored : Store → Store → ActivityScale → (Scored → Scored) → Type 0
RewritesScored old new a f = HoldsClauses new (length old.words) (f (scored old a)).clauses

-- what a bump makes of the activity of the clause at the place
abbrev pub activity_bumped : ℕ → Scored → ℕ
activity_bumped p x = (header_at x.clauses p).activity + x.scale.increment

-- whether a bump brings it to the limit
abbrev pub reaches_limit_at : ℕ → Scored → Bool
reaches_limit_at p x = reaches_clause_limit (activity_bumped p x)

-- the clause at the place has the bumped activity, and no other clause changes
abbrev pub RaisesActivity : Store → Store → ActivityScale → ℕ → Type 0
RaisesActivity old new a p = RewritesClauses old new (λ ks. with_activity ks p (activity_bumped p (scored old a)))

-- the same, and then all activities are shifted
abbrev pub RaisesAndShifts : Store → Store → ActivityScale → ℕ → Type 0
RaisesAndShifts old new a p =
    RewritesClauses old new (λ ks. with_activity (clauses_shifted ks) p (activity_bumped p (scored old a) / 2 ^ 16))

-- the increment after a decay
abbrev pub increment_decayed : ActivityScale → ℕ
increment_decayed a = a.increment * 1000 / a.decay

-- the scale with that increment
abbrev pub scale_decayed : ActivityScale → ActivityScale
scale_decayed a = record a { increment = increment_decayed a }
