-- Watch lists from which watches of clauses go that went.
use Rattle.std.specs.Prelude.{◌≡◌, Option, Some, None, List, length, ◌⊎◌}
use Rattle.varisat_theory.specs.promises.Membership.{◌∈◌}
use Rattle.varisat_theory.specs.promises.Literals.{Literal}
use Rattle.varisat_clause.specs.Stored.{StoredClause, IsClauseRef, literals_at}
use Rattle.varisat_prop.specs.declared.prop.watch_list.Watch.{Watch}
use Rattle.varisat_prop.specs.Watches.{Watches, watches_of, HasWatch, NameOnce}

-- what is left of a watch: it names its clause and a literal of it, or the clause is not one of these
abbrev pub IsMended : List StoredClause → Watch → Option Watch → Type 0
IsMended ks w None = IsClauseRef ks w.cref → ⊥
IsMended ks w (Some v) = (v.cref ≡ w.cref) × IsClauseRef ks v.cref × (v.blocking ∈ literals_at ks v.cref)

-- What is left of a list: a watch of each of these clauses that had one, with a literal of it.
pub record AreMended (ks : List StoredClause) (ws vs : List Watch) : Type 0 where
  pub each : (v : Watch) → v ∈ vs → IsClauseRef ks v.cref × (v.blocking ∈ literals_at ks v.cref) × HasWatch ws v.cref
  pub all : (w : Watch) → w ∈ ws → IsClauseRef ks w.cref → HasWatch vs w.cref
  pub once : NameOnce ws → NameOnce vs

-- The lists of the literals are mended, and each other list is mended or stays.
pub record MendsLists (ks : List StoredClause) (lits : List Literal) (W V : Watches) : Type 0 where
  pub enabled : V.enabled ≡ W.enabled
  pub count : length V.lists ≡ length W.lists
  pub named : (x : Literal) → x ∈ lits → AreMended ks (watches_of W x) (watches_of V x)
  pub each : (x : Literal) → (watches_of V x ≡ watches_of W x) ⊎ AreMended ks (watches_of W x) (watches_of V x)
