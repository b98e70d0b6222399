use Rattle.std.proofs.Common.{◌≤◌, take}
use Rattle.varisat_analysis.specs.Marks.{marking, AddsMarks}
use Rattle.varisat_analysis.proofs.analyze_conflict.add_literals.Given as goal

abbrev pub invariant-loop-lit : goal.invariant-loop-lit
invariant-loop-lit g l =
    record {
      adds : AddsMarks g.s (take l.lit-index l.lits) l.count (marking l.fn.scratch l.fn.var_flags) (marking l.scratch l.var_flags);
      small : l.count ≤ l.lit-index;
    }

abbrev pub ghost-level_to_mark : goal.ghost-level_to_mark
ghost-level_to_mark g a = g.s
