use Rattle.std.proofs.Common.{List, ℕ, sym, subst, arith}
use Rattle.varisat_rules.specs.inside.Noting.{NotesPositions}
use Rattle.varisat_simplify.proofs.normal.add_noted.Goals as goal

pub returns-clause-noted : goal.returns-clause-noted
returns-clause-noted g c t =
    let l = c.len.ensures in
    subst (λ (e : List ℕ). NotesPositions c.args.names.now c.note_if.new.positions e) (sym c.in_ok-push.ensures.items)
    (c.note_if.ensures c.args.out.now.items (omega (arith, l)) c.requires.noted t)
