-- The literals so far are put.
use Rattle.std.proofs.Common.{◌≡◌, ◌∷◌, ◌++◌, flat_map, take}
use Rattle.varisat_literals.specs.promises.Numbers.{literal_text}
use Rattle.varisat.proofs.program.put_literals.Given as goal

abbrev pub invariant-loop-literal : goal.invariant-loop-literal
invariant-loop-literal g l = record {
  put : (g.T.ProofTarget.taken l.out).bytes ≡ (g.T.ProofTarget.taken l.fn.out).bytes ++
      flat_map (λ n. 32 ∷ literal_text n) (take l.literal-index l.literals);
  quiet : (g.T.ProofTarget.taken l.out).faults ≡ (g.T.ProofTarget.taken l.fn.out).faults;
}
