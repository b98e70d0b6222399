-- What is printed is what solve_lines prints.
use Rattle.std.proofs.Common.{inl}
use Rattle.maxsat.proofs.solve_in_heap.Goals as goal

pub returns-in-None : goal.returns-in-None
returns-in-None g c = inl c.solve_lines.ensures

pub returns-in-Ok : goal.returns-in-Ok
returns-in-Ok g c = inl c.solve_lines-in-Ok.ensures
