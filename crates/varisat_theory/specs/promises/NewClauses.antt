-- Entries of a journal that add new clauses.
use Rattle.std.specs.Prelude.{◌≡◌, ℕ, zero, suc, List, [], ◌∷◌, ◌++◌}
use Rattle.varisat_theory.specs.promises.Literals.{Clause}
use Rattle.varisat_theory.specs.promises.Derivations.{Add}
use Rattle.varisat_theory.specs.promises.Counted.{IsNew, IsAmong}
use Rattle.varisat_theory.specs.promises.Journals.{Entry, Writes, Leads}

-- The entries lead from P to Q, and a line adds a clause that is new to what is held just before, and is still held in Q.
pub record LeadsToNew (P : List Clause) (es : List Entry) (Q : List Clause) : Type 0 where
  pub front : List Entry
  pub clause : Clause
  pub back : List Entry
  pub before : List Clause
  pub split : es ≡ front ++ (Writes (Add clause) ∷ back)
  pub leads : Leads P front before
  pub is_new : IsNew before clause
  pub on : Leads before (Writes (Add clause) ∷ back) Q
  pub stays : IsAmong Q clause

-- `Leads`, where the entries are k parts in turn, one for each step, each of which adds such a clause that is still held as the
-- part ends.
abbrev pub LeadsAdding : ℕ → List Clause → List Entry → List Clause → Type 0
LeadsAdding zero P es Q = Leads P es Q
LeadsAdding (suc k) P es Q =
    (first last : List Entry) × (R : List Clause) × (es ≡ first ++ last) × LeadsAdding k P first R × LeadsToNew R last Q

-- Whatever the entries logged so far lead to from no clauses, the further ones lead on from it, in k parts in turn that each add a
-- new clause, which is still held as the part ends.
abbrev pub GoesOnAdding : ℕ → List Entry → List Entry → Type 0
GoesOnAdding k logged es = (held : List Clause) → Leads [] logged held →
    (after : List Clause) × LeadsAdding k held es after
