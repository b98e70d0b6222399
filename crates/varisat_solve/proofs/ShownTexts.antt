-- What is printed of a model that is not to be shown, by the status.
use Rattle.std.proofs.Common.{◌≡◌, None, Some, refl, arith}
use Rattle.std.specs.Prelude.{codes}
use Rattle.varisat.specs.promises.Decided.{Conclusion, Decided, Unknown, conclusion_status}
use Rattle.varisat_solve.specs.declared.options.ModelLines.TheVariants.{Hidden}
use Rattle.varisat_solve.specs.promises.Solving.{shown_text}

pub hidden : (c : Conclusion) → conclusion_status c ≡ 10 → shown_text Hidden c ≡ codes "s SATISFIABLE\n"
hidden (Decided None) e = absurd (omega arith)
hidden (Decided (Some model)) e = refl
hidden (Unknown reason) e = absurd (omega arith)
