use Rattle.std.proofs.Common.{[], ◌∷◌}
use Rattle.varisat_theory.specs.promises.Journals.{Accepts}
use Rattle.std.proofs.lemmas.List.{append-nil}
use Rattle.std.proofs.Common.{sym}
use Rattle.varisat_lines.specs.declared.format.LineKind.TheVariants as kinds
use Rattle.varisat_lines.specs.promises.Lines.{line_of_kind}
use Rattle.varisat_lines.specs.promises.Logging.{marked_line}
use Rattle.varisat_proof.specs.promises.Proving.{ProofParts, logged}
use Rattle.varisat_proof.proofs.LoggedSteps.{written-as, tells-ok, tells-spent}
use Rattle.varisat_proof.proofs.proof.proving.add_clause.Goals as goal
use Rattle.varisat_proof.proofs.proof.proving.add_clause.Goals.{in-Ok, in-Err}

pub returns : goal.returns
returns g c =
    let old : ProofParts = record { opened = c.proof.inside.open; checker = c.proof.inside.checker } in
    let new : ProofParts = record { opened = c.write_marked_if.new.opened; checker = c.keep_clause_if.new.checker } in
    let line = line_of_kind kinds.Accepts c.args.clause.now in
    let w = written-as c.proof.inside.open c.write_marked_if.new.opened (λ e. marked_line e line) (logged (Accepts c.args.clause.now ∷ []))
    (λ e. sym (append-nil (marked_line e line))) c.in_ok-write_marked_if.ensures in
    elim c.match-keep_clause_if.branch [
      | in-Ok k ↦ tells-ok c.args.proof.now old new (Accepts c.args.clause.now ∷ []) c.match-keep_clause_if.result c.proof.view_is k.result-is w
          k.in-Ok.ensures.taken
      | in-Err k ↦ tells-spent c.args.proof.now old new (Accepts c.args.clause.now ∷ []) c.match-keep_clause_if.result c.proof.view_is k.result-is w
          k.in-Err.ensures.spent
    ]
