-- The laws that the functions of `laws/journals` state.
use Rattle.std.specs.Prelude.{◌≡◌, ℕ, suc, ◌+◌, ◌≤◌, List, [], ◌∷◌, ◌++◌, map}
use Rattle.varisat_theory.specs.promises.Membership.{◌∈◌}
use Rattle.varisat_theory.specs.promises.Literals.{Literal, Clause, Assignment, SatisfiesAll}
use Rattle.varisat_theory.specs.promises.Propagation.{Conflicts}
use Rattle.varisat_theory.specs.promises.Derivations.{Add, Delete, Refutes, Derives}
use Rattle.varisat_theory.specs.promises.Held.{SameClauses}
use Rattle.varisat_theory.specs.promises.Renaming.{KeepsOpposites, IsOneToOneOn, IsWithin, rename}
use Rattle.varisat_theory.specs.promises.Counted.{added}
use Rattle.varisat_theory.specs.promises.Searches.{IsTautology}
use Rattle.varisat_theory.specs.promises.NewClauses.{LeadsAdding}
use Rattle.varisat_theory.specs.promises.Journals.{Entry, Writes, Leads, LeadsBy, accepted_of, lines_of, NoneRetires, rename_entry, AreWithin}

-- What entries lead to in turn, the whole leads to, and what counts adds up; a journal may be cut anywhere.
pub record JournalsJoin : Type 0 where
  pub join : (P : List Clause) (es : List Entry) (Q : List Clause) (fs : List Entry) (R : List Clause) →
      Leads P es Q →
      Leads Q fs R →
      Leads P (es ++ fs) R
  pub counts : (n m : ℕ) (P : List Clause) (es : List Entry) (Q : List Clause) (fs : List Entry) (R : List Clause) →
      LeadsBy n P es Q →
      LeadsBy m Q fs R →
      LeadsBy (n + m) P (es ++ fs) R
  pub cut : (P : List Clause) (es fs : List Entry) (R : List Clause) →
      Leads P (es ++ fs) R →
      (Q : List Clause) × Leads P es Q × Leads Q fs R
  pub counted_leads : (n : ℕ) (P : List Clause) (es : List Entry) (Q : List Clause) → LeadsBy n P es Q → Leads P es Q

-- The same entries lead from the same clauses to the same ones, whichever equal clause each deletion takes out.
pub record JournalIsDetermined : Type 0 where
  pub same : (P P' : List Clause) (es : List Entry) (Q Q' : List Clause) →
      SameClauses P P' →
      Leads P es Q →
      Leads P' es Q' →
      SameClauses Q Q'
  pub counts : (n : ℕ) (P P' : List Clause) (es : List Entry) (Q : List Clause) →
      SameClauses P P' →
      LeadsBy n P es Q →
      (Q' : List Clause) × LeadsBy n P' es Q' × SameClauses Q Q'

-- What new clauses add up to: entries in turn add those of each, also from equal clauses, and many new clauses are many added ones.
-- A clause that is held already adds none, a tautology neither, nor one that is deleted at once.
pub record JournalAddsNew : Type 0 where
  pub join : (k m : ℕ) (P : List Clause) (es : List Entry) (Q : List Clause) (fs : List Entry) (R : List Clause) →
      LeadsAdding k P es Q →
      LeadsAdding (suc m) Q fs R →
      LeadsAdding (k + suc m) P (es ++ fs) R
  pub same : (k : ℕ) (P P' : List Clause) (es : List Entry) (Q : List Clause) →
      SameClauses P P' →
      LeadsAdding k P es Q →
      (Q' : List Clause) × LeadsAdding k P' es Q' × SameClauses Q Q'
  pub leads : (k : ℕ) (P : List Clause) (es : List Entry) (Q : List Clause) → LeadsAdding k P es Q → Leads P es Q
  pub added : (k : ℕ) (P : List Clause) (es : List Entry) (Q : List Clause) → LeadsAdding k P es Q →
      k ≤ added (lines_of es)
  pub copy : (P : List Clause) (c : Clause) (Q : List Clause) → c ∈ P → LeadsAdding 1 P (Writes (Add c) ∷ []) Q → ⊥
  pub tautology : (P : List Clause) (c : Clause) (Q : List Clause) → IsTautology c →
      LeadsAdding 1 P (Writes (Add c) ∷ []) Q → ⊥
  pub blank : (P : List Clause) (c : Clause) (Q : List Clause) →
      LeadsAdding 1 P (Writes (Add c) ∷ Writes (Delete c) ∷ []) Q → ⊥

-- Where no variable leaves, the lines are a derivation from the clauses held at first and all that are accepted, and where
-- propagation conflicts in the end they refute these. A clause that is accepted later spoils no line before it.
pub record JournalDerives : Type 0 where
  pub derives : (P : List Clause) (es : List Entry) (Q : List Clause) →
      NoneRetires es →
      Leads P es Q →
      (Q' : List Clause) × Derives (P ++ accepted_of es) (lines_of es) Q' × SameClauses Q' Q
  pub refutes : (P : List Clause) (es : List Entry) (Q : List Clause) →
      NoneRetires es →
      Leads P es Q →
      Conflicts Q [] →
      Refutes (P ++ accepted_of es) (lines_of es)

-- what satisfies the clauses held at first and those accepted satisfies those held in the end
abbrev pub JournalIsSound : Type 0
JournalIsSound =
    (P : List Clause) (es : List Entry) (Q : List Clause) (a : Assignment) →
    Leads P es Q →
    SatisfiesAll a P →
    SatisfiesAll a (accepted_of es) →
    SatisfiesAll a Q

-- A journal whose literals stand in the list stays one under the names, and was one before them.
pub record RenamesJournals (f : Literal → Literal) (ls : List Literal) : Type 0 where
  pub there : (P : List Clause) (es : List Entry) (Q : List Clause) →
      ((c : Clause) → c ∈ P → IsWithin ls c) →
      AreWithin ls es →
      Leads P es Q →
      Leads (rename f P) (map (rename_entry f) es) (rename f Q)
  pub back : (P : List Clause) (es : List Entry) (Q : List Clause) →
      ((c : Clause) → c ∈ P → IsWithin ls c) →
      AreWithin ls es →
      Leads (rename f P) (map (rename_entry f) es) Q →
      (R : List Clause) × Leads P es R × (Q ≡ rename f R)

-- so it is where the names are one-to-one on the list
abbrev pub JournalIsRenamed : Type 0
JournalIsRenamed = (f : Literal → Literal) → KeepsOpposites f → (ls : List Literal) → IsOneToOneOn f ls →
    RenamesJournals f ls
