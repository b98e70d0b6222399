-- The names of variables: which are in use, and how they come into use.
use Rattle.std.specs.Prelude.{◌≡◌, ◌≢◌, ℕ, zero, suc, ◌+◌, ◌-◌, ◌<◌, ◌≤◌, nat_lt, if◌then◌else◌, max, Option, Some, None, List, [], ◌∷◌, ◌++◌}
use Rattle.varisat_theory.specs.promises.Membership.{◌∈◌}
use Rattle.varisat_theory.specs.promises.Literals.{Literal, variable_of}
use Rattle.varisat_names.specs.promises.Maps.{updated}
use Rattle.varisat_tracer.specs.promises.Carried.{variable_or_first, carry}

-- A name is a number by which the user speaks of a variable. An identity is a number that is given to a variable once and never
-- again: a name may become free, and come back with another identity.

-- How a name in use may be used: clauses and assumptions may name a sampled one, and not a witness.
pub data Mode : Type 0 where
  Sample : Mode
  Witness : Mode

-- The identities made are those below `made`. `names` gives the identity of each name in use, and `watermark` is one above the
-- highest name ever in use. `modes`: the mode of each identity in use.
pub record Naming : Type 0 where
  pub made : ℕ
  pub names : ℕ → Option ℕ
  pub watermark : ℕ
  pub modes : ℕ → Mode

-- before any name is in use
abbrev pub no_names : Naming
no_names = record { made = 0; names = λ u. None; watermark = 0; modes = λ i. Sample }

-- the free name comes into use with a new identity in mode Sample
abbrev pub bring : ℕ → Naming → Naming
bring u m = record m {
  names = updated m.names u (Some m.made);
  watermark = max m.watermark (u + 1);
  modes = updated m.modes m.made Sample;
  made = m.made + 1;
}

-- the next k names from the watermark on come into use
abbrev pub bring_next : ℕ → Naming → Naming
bring_next zero m = m
bring_next (suc k) m = bring_next k (bring m.watermark m)

-- the name comes into use if it is free
abbrev pub bring_if_free : ℕ → Option ℕ → Naming → Naming
bring_if_free u None m = bring u m
bring_if_free u (Some i) m = m

-- A name is named: below the watermark it comes into use if it is free, and from the watermark on with each name from the watermark up to it.
abbrev pub name_one : ℕ → Naming → Naming
name_one u m = if nat_lt u m.watermark then bring_if_free u (m.names u) m else bring_next (suc u - m.watermark) m

-- the names of the literals are named
abbrev pub name_all : List Literal → Naming → Naming
name_all [] m = m
name_all (l ∷ ls) m = name_all ls (name_one (variable_of l) m)

-- the least free name
abbrev pub IsLeastFree : Naming → ℕ → Type 0
IsLeastFree m u = (m.names u ≡ None) × ((v : ℕ) → v < u → m.names v ≢ None)

-- the identity where there is one, else 0, which no clause that is accepted asks for
abbrev pub identity_of : Option ℕ → ℕ
identity_of i = variable_or_first i

-- a literal over names in use, carried to their identities
abbrev pub through_names : Naming → Literal → Literal
through_names m l = carry m.names l

-- the name is in use in mode Witness
abbrev pub IsWitness : Naming → ℕ → Type 0
IsWitness m u = (i : ℕ) × (m.names u ≡ Some i) × (m.modes i ≡ Witness)

-- no literal's name is in mode Witness
abbrev pub NameNoWitness : Naming → List Literal → Type 0
NameNoWitness m ls = (l : Literal) → l ∈ ls → IsWitness m (variable_of l) → ⊥

-- the first name of the literals in the given order that is in mode Witness
abbrev pub IsFirstWitness : Naming → List Literal → ℕ → Type 0
IsFirstWitness m ls u =
    (front : List Literal) × (l : Literal) × (rest : List Literal) × (ls ≡ front ++ l ∷ rest) × NameNoWitness m front
    × (variable_of l ≡ u) × IsWitness m u

-- the first name in mode Witness of some names, once the name comes behind them
abbrev pub IsNextWitness : Naming → Option ℕ → ℕ → Option ℕ → Type 0
IsNextWitness m (Some w) u after = after ≡ Some w
IsNextWitness m None u None = IsWitness m u → ⊥
IsNextWitness m None u (Some w) = (w ≡ u) × IsWitness m u

-- Exactly the names below n are in use, each for the identity of that number, all in mode Sample: names come into use in order as long as none is freed.
pub record AreInOrder (n : ℕ) (m : Naming) : Type 0 where
  pub made : m.made ≡ n
  pub watermark : m.watermark ≡ n
  pub in_use : (u : ℕ) → u < n → m.names u ≡ Some u
  pub free : (u : ℕ) → n ≤ u → m.names u ≡ None
  pub sampled : (i : ℕ) → i < n → m.modes i ≡ Sample

-- the name is free, and what it stood for has no name
abbrev pub free_name : ℕ → Naming → Naming
free_name u m = record m { names = updated m.names u None }

-- the identity of the name, which is in use, has the mode
abbrev pub set_mode : ℕ → Mode → Naming → Naming
set_mode u mode m = record m { modes = updated m.modes (identity_of (m.names u)) mode }

-- the free name comes into use for an identity that was made before, in mode Witness
abbrev pub give_name : ℕ → ℕ → Naming → Naming
give_name u i m =
    record m {
      names = updated m.names u (Some i);
      watermark = max m.watermark (u + 1);
      modes =
          updated m.modes i Witness;
    }

-- no name in use stands for the identity
abbrev pub IsUnnamed : Naming → ℕ → Type 0
IsUnnamed m i = (u : ℕ) → m.names u ≢ Some i

-- The names come into use in turn, each as it is the least free one, for some identities that were made and have no name.
abbrev pub AreShown : List ℕ → Naming → Naming → Type 0
AreShown [] old new = new ≡ old
AreShown (u ∷ us) old new =
    IsLeastFree old u × ((i : ℕ) × (i < old.made) × IsUnnamed old i × AreShown us (give_name u i old) new)
