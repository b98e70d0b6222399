use Rattle.std.proofs.Common.{◌≡◌, ◌++◌, take, flat_map}
use Rattle.varisat_formula.proofs.dimacs.writer.put_all.Given as goal

abbrev pub invariant-loop-part : goal.invariant-loop-part
invariant-loop-part g l = record {
  put : (g.W.ProofTarget.taken l.target).bytes ≡ (g.W.ProofTarget.taken l.fn.target).bytes ++ flat_map (λ p. p.now) (take l.part-index l.parts);
  quiet : (g.W.ProofTarget.taken l.target).faults ≡ (g.W.ProofTarget.taken l.fn.target).faults;
}
