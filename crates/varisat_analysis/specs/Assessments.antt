-- The glue of a clause, the tier by it, and what a conflict makes of the clauses that took part in it.
use Rattle.std.specs.Prelude.{◌≡◌, ℕ, ◌-◌, ◌/◌, ◌^◌, ◌<◌, Bool, true, false, not, ◌&&◌, nat_eq, nat_le, nat_lt, min, if◌then◌else◌, List, [], ◌∷◌, length, map, slice_index_or, ◌⊎◌}
use Rattle.std.specs.Set.{distinct_count}
use Rattle.varisat_theory.specs.promises.Membership.{◌∈◌}
use Rattle.varisat_theory.specs.promises.Literals.{Literal, variable_of, opposite}
use Rattle.varisat_clause.specs.declared.header.Tier.{Tier}
use Rattle.varisat_clause.specs.declared.header.Tier.TheVariants.{Irred, Core, Mid, Local}
use Rattle.varisat_clause.specs.Tiers.{is_tier}
use Rattle.varisat_clause.specs.Headers.{Header, no_header}
use Rattle.varisat_clause.specs.Stored.{IsClauseRef, header_at, literals_at, with_header}
use Rattle.varisat_clause.specs.Stores.{Store, stored_clauses, HoldsClauses}
use Rattle.varisat_clause.specs.Databases.{Database, Tracks}
use Rattle.varisat_clause.specs.ClauseActivities.{ActivityScale, with_activity, clauses_rescaled, scale_rescaled, reaches_clause_limit, Scored, scored, activity_bumped, reaches_limit_at, increment_decayed, scale_decayed}
use Rattle.varisat_prop.specs.declared.prop.graph.ImplNode.{ImplNode}
use Rattle.varisat_prop.specs.declared.prop.graph.Conflict.{Conflict}
use Rattle.varisat_prop.specs.declared.prop.graph.Conflict.TheVariants as conflict
use Rattle.varisat_prop.specs.View.{View}
use Rattle.varisat_analysis.specs.Bumps.{level_in}

-- how many levels the literals have, less one
abbrev pub glue_of : List ImplNode → List Literal → ℕ
glue_of nodes lits = distinct_count nat_eq (map (level_in nodes) lits) - 1

-- the glue of the clause of the store at the place
abbrev pub glue_at : List ImplNode → Store → ℕ → ℕ
glue_at nodes s p = glue_of nodes (literals_at (stored_clauses s) p)

-- the tier of a clause of the glue that may be deleted
abbrev pub tier_by_glue : ℕ → Tier
tier_by_glue glue = if nat_le glue 2 then Core else (if nat_le glue 6 then Mid else Local)

-- the header of a learned clause of the glue, of which a header keeps at most 63
abbrev pub assessed : ℕ → Header
assessed glue = record no_header { glue = min glue 63; tier = tier_by_glue glue }

-- whether the clause may be deleted, and a higher glue is noted
abbrev pub is_improved : ℕ → Header → Bool
is_improved glue h = not (is_tier h.tier Irred) && nat_lt glue h.glue

-- the glue and its tier, where they improve the clause
abbrev pub improved : ℕ → Header → Header
improved glue h = if is_improved glue h then record h { glue = glue; tier = tier_by_glue glue } else h

-- and the clause is active
abbrev pub noted : ℕ → Header → Header
noted glue h = record (improved glue h) { active = true }

-- The clause at the place is bumped; where it comes to the limit, all are shifted.
abbrev pub with_bump : ℕ → Scored → Scored
with_bump p x = record {
  clauses =
      with_activity (clauses_rescaled (reaches_limit_at p x) x.clauses) p
      (if reaches_limit_at p x then activity_bumped p x / 2 ^ 16 else activity_bumped p x);
  scale = scale_rescaled (reaches_limit_at p x) x.scale;
}

-- The clause at the place takes part in a conflict: it is active, its glue and its tier are improved, and it is bumped.
abbrev pub clause_bumped : List ImplNode → ℕ → Scored → Scored
clause_bumped nodes p x =
    with_bump p
    (record x {
      clauses =
          with_header x.clauses p (noted (glue_of nodes (literals_at x.clauses p)) (header_at x.clauses p));
    })

-- so do the clauses of the store that are named, in turn
abbrev pub clauses_bumped : List ImplNode → List Conflict → Scored → Scored
clauses_bumped nodes [] x = x
clauses_bumped nodes (conflict.Binary lits ∷ names) x = clauses_bumped nodes names x
clauses_bumped nodes (conflict.Long p ∷ names) x = clauses_bumped nodes names (clause_bumped nodes p x)

-- Later bumps add more; where the increment reaches the limit, it and all activities are shifted.
abbrev pub clauses_decayed : Scored → Scored
clauses_decayed x = record {
  clauses = clauses_rescaled (reaches_clause_limit (increment_decayed x.scale)) x.clauses;
  scale = scale_rescaled (reaches_clause_limit (increment_decayed x.scale)) (scale_decayed x.scale);
}

-- The literals' variables have a level, each of these has a flag, and no flag is set.
pub record CanCount (nodes : List ImplNode) (lits : List Literal) (flags : List Bool) : Type 0 where
  pub known : (l : Literal) → l ∈ lits → variable_of l < length nodes
  pub room : (l : Literal) → l ∈ lits → level_in nodes l < length flags
  pub clear : (n : ℕ) → slice_index_or flags n false ≡ false

-- The place is that of a clause that is not deleted, whose levels can be counted, and the database follows the store.
pub record CanBump (nodes : List ImplNode) (s : Store) (d : Database) (flags : List Bool) (p : ℕ) : Type 0 where
  pub place : IsClauseRef (stored_clauses s) p
  pub live : (header_at (stored_clauses s) p).deleted ≡ false
  pub tracks : Tracks d s
  pub count : CanCount nodes (literals_at (stored_clauses s) p) flags

-- The named clauses of the store take part in a conflict, in turn, and then the activities decay.
pub record BumpsClauses (nodes : List ImplNode) (names : List Conflict) (s t : Store)
    (a b : ActivityScale) : Type 0 where
  pub store : HoldsClauses t (length s.words) (clauses_decayed (clauses_bumped nodes names (scored s a))).clauses
  pub scale : b ≡ (clauses_decayed (clauses_bumped nodes names (scored s a))).scale

-- the literal or its opposite is on the trail
abbrev pub IsAssigned : View → Literal → Type 0
IsAssigned s l = (l ∈ s.trail) ⊎ (opposite l ∈ s.trail)
