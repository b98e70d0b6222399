-- What the lines of a marked proof are.
use Rattle.std.specs.Prelude.{◌≡◌, List, []}
use Rattle.varisat_theory.specs.promises.Literals.{Literal, Clause}
use Rattle.varisat_theory.specs.promises.Propagation.{Conflicts}
use Rattle.varisat_theory.specs.promises.Journals.{Entry}
use Rattle.varisat_lines.specs.declared.format.ProofFormat.TheVariants.{Marked}
use Rattle.varisat_proof.specs.promises.Assumed.{cores_of}
use Rattle.varisat_lines.specs.promises.Lines.{encoding_of}
use Rattle.varisat_proof.specs.promises.Marked.{ProofState, state_of, nothing_logged, TakesAll}
use Rattle.varisat_lines.specs.promises.Logging.{logged_lines}

-- The lines that a marked proof has of what was logged are right, one after the other, from no clauses and no assumptions on. The
-- clauses that they give are these, in order, the list that is assumed at the end is this one, and the cores are those that were
-- logged. Where that is claimed propagation over what is present then conflicts.
pub record IsMarkedDerivation (logged : List Entry) (clauses : List Clause) (assumptions : List Literal)
    (refuted : Type 0) : Type 0 where
  pub after : ProofState
  pub takes : TakesAll (state_of [] nothing_logged) (logged_lines (encoding_of Marked) logged) after
  pub inputs : after.logged.inputs.clauses ≡ clauses
  pub assumed : after.logged.assumed ≡ assumptions
  pub cores : after.logged.cores ≡ cores_of 0 logged
  pub refutes : refuted → Conflicts after.present []
