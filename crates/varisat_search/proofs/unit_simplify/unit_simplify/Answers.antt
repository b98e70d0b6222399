use Rattle.varisat_steps.proofs.Broken.{error-broken, breaks-on}
use Rattle.std.proofs.Common.{◌≡◌, List, ap, ◌∙◌, subst}
use Rattle.varisat_theory.specs.promises.Derivations.{Line}
use Rattle.varisat_theory.specs.inside.Outcomes.{Proves}
use Rattle.varisat_theory.proofs.steps.StepParts.{parts_join}
use Rattle.varisat_steps.specs.Traces.{TakesLines}
use Rattle.varisat_steps.proofs.Traced.{lines-more, holds_on}
use Rattle.varisat_search.specs.declared.context.Context.{Context}
use Rattle.varisat_search.specs.Contexts.{view}
use Rattle.varisat_search.specs.Frames.{ChangesSimplified}
use Rattle.varisat_search.specs.Seen.{search_of}
use Rattle.varisat_search.specs.Simplifications.{pair_lines, clause_lines}
use Rattle.varisat_search.proofs.simplifying.SimplifiedBinary.{SimplifiesBinary, binary-can, binary-left, binary-lines, all-simplified, all-decidable}
use Rattle.varisat_search.proofs.unit_simplify.unit_simplify.Given.{Over}
use Rattle.varisat_search.proofs.unit_simplify.unit_simplify.Goals.{In_ok-simplify_binary}
use Rattle.varisat_search.proofs.unit_simplify.unit_simplify.Goals as goal

-- the clauses of two literals are simplified first
first : (g : Over) (c : In_ok-simplify_binary g) → SimplifiesBinary c.args.ctx.now c.simplify_binary.new.ctx
first g c = record { can = c.requires.can; binary = c.in_ok-simplify_binary.ensures.simplified; rest = c.simplify_binary.ensures.frame }

pub simplify_stored-requires : goal.simplify_stored-requires
simplify_stored-requires g c =
    let d = first g (goal.at.simplify_stored-requires g c).In_ok-simplify_binary in
    let x = c.args.ctx.now in
    let y = c.simplify_binary.new.ctx in
    let e = c.in_ok-simplify_binary.ensures in
    record {
      can = binary-can d;
      holds = holds_on g.P.ProofTracer.holds g.P.ProofTracer.takes g.met.P.ProofTracer.holds_after c.args.proof.now c.simplify_binary.new.proof 0
          (search_of (view x)) (search_of (view y)) (pair_lines (view x)) c.requires.holds e.proves e.takes;
      left = binary-left d;
    }

pub returns-clause-simplified : goal.returns-clause-simplified
returns-clause-simplified g c =
    all-simplified (first g (goal.at.returns-clause-simplified g c).In_ok-simplify_binary) c.simplify_stored.new.ctx c.in_ok-simplify_stored.ensures.simplified

-- what else stays does so through both
kept : {A : Type 0} (x y z : Context A) → y ≡ record x { binary_clauses = y.binary_clauses } → ChangesSimplified y z → ChangesSimplified x z
kept {A} x y z a b = b ∙ ap (λ (w : Context A). record w {
  binary_clauses = z.binary_clauses;
  clause_alloc = z.clause_alloc;
  clause_db = z.clause_db;
  counters = z.counters;
  watchlists = record z.watchlists { enabled = w.watchlists.enabled };
}) a

pub returns-clause-frame : goal.returns-clause-frame
returns-clause-frame g c =
    kept c.args.ctx.now c.simplify_binary.new.ctx c.simplify_stored.new.ctx c.simplify_binary.ensures.frame c.simplify_stored.ensures.frame

pub returns-in_err-simplify_stored-clause-frame : goal.returns-in_err-simplify_stored-clause-frame
returns-in_err-simplify_stored-clause-frame g c =
    kept c.args.ctx.now c.simplify_binary.new.ctx c.simplify_stored.new.ctx c.simplify_binary.ensures.frame c.simplify_stored.ensures.frame

pub returns-clause-proves : goal.returns-clause-proves
returns-clause-proves g c =
    let d = first g (goal.at.returns-clause-proves g c).In_ok-simplify_binary in
    let s = search_of (view c.args.ctx.now) in
    let t = search_of (view c.simplify_binary.new.ctx) in
    let u = search_of (view c.simplify_stored.new.ctx) in
    parts_join 0 0 s t u (pair_lines (view c.args.ctx.now)) (clause_lines (view c.args.ctx.now)) c.in_ok-simplify_binary.ensures.proves
    (subst (λ (ls : List Line). Proves 0 t u ls) (binary-lines d) c.in_ok-simplify_stored.ensures.proves)

pub returns-clause-takes : goal.returns-clause-takes
returns-clause-takes g c =
    let d = first g (goal.at.returns-clause-takes g c).In_ok-simplify_binary in
    lines-more g.P.ProofTracer.takes g.met.P.ProofTracer.takes_more c.args.proof.now c.simplify_binary.new.proof c.simplify_stored.new.proof
    (pair_lines (view c.args.ctx.now)) (clause_lines (view c.args.ctx.now)) c.in_ok-simplify_binary.ensures.takes
    (subst (λ (ls : List Line). TakesLines g.P.ProofTracer.takes c.simplify_binary.new.proof ls c.simplify_stored.new.proof)
    (binary-lines d) c.in_ok-simplify_stored.ensures.takes)

pub returns-clause-decidable : goal.returns-clause-decidable
returns-clause-decidable g c =
    all-decidable (first g (goal.at.returns-clause-decidable g c).In_ok-simplify_binary) c.simplify_stored.new.ctx c.in_ok-simplify_stored.ensures.decidable

pub returns-in_err-simplify_binary-clause-broken : goal.returns-in_err-simplify_binary-clause-broken
returns-in_err-simplify_binary-clause-broken g c =
    error-broken g.P.ProofTracer.breaks_off c.args.proof.now c.simplify_binary.new.proof c.from_residual.result c.in_err-simplify_binary.field-0.0
    c.from_residual.ensures
    c.in_err-simplify_binary.ensures.broken

pub returns-in_err-simplify_stored-clause-broken : goal.returns-in_err-simplify_stored-clause-broken
returns-in_err-simplify_stored-clause-broken g c =
    error-broken g.P.ProofTracer.breaks_off c.args.proof.now c.simplify_stored.new.proof c.from_residual-in_err-simplify_stored.result
    c.in_err-simplify_stored.field-0.0 c.from_residual-in_err-simplify_stored.ensures
    (breaks-on g.P.ProofTracer.takes g.P.ProofTracer.breaks_off g.met.P.ProofTracer.breaks_behind c.in_ok-simplify_binary.ensures.takes
    c.in_err-simplify_stored.ensures.broken)
