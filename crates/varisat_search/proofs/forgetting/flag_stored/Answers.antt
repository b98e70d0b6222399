use Rattle.std.proofs.Common.{ℕ, List, [], ◌∷◌, inl, sym, ◌∙◌, subst, refl, arith}
use Rattle.varisat_theory.specs.promises.Membership.{◌∈◌}
use Rattle.varisat_clause.specs.Stored.{IsClauseRef, literals_at}
use Rattle.varisat_clause.specs.Stores.{stored_clauses}
use Rattle.varisat_clause.specs.Collected.{live_clauses}
use Rattle.varisat_clause.proofs.StoredClauses.{kept-at}
use Rattle.varisat_clause.proofs.LiveStore.{live-place, live-literals, are-live-rising}
use Rattle.varisat_search.specs.Forgotten.{FlagsAlso}
use Rattle.varisat_search.proofs.simplifying.MentionedFlags.{FlagsBut, but-all, but-next, but-none}
use Rattle.varisat_search.proofs.forgetting.flag_stored.Given.{Over}
use Rattle.varisat_search.proofs.forgetting.flag_stored.Goals.{In-Some}
use Rattle.varisat_search.proofs.forgetting.flag_stored.Goals as goal

pub loop-cref-init : goal.loop-cref-init
loop-cref-init g c =
    let P = live_clauses c.args.clause_alloc.now in
    subst (λ left. FlagsBut P left c.args.flags.now c.args.flags.now)
    (sym (c.into_iter-cref-iterator.ensures.into_iter_gives ∙ c.clauses_iter-cref-items.ensures)) (but-all P c.args.flags.now)

-- the next place is one of those that are left
next-place : (g : Over) (c : In-Some g) → IsClauseRef (live_clauses c.args.clause_alloc.now) c.in-Some.cref
next-place g c = c.loop-cref.invariant.places c.in-Some.cref (subst (λ (xs : List ℕ). c.in-Some.cref ∈ xs) (sym c.in-Some.ensures.steps) (inl refl))

pub lits-requires-clause-place : goal.lits-requires-clause-place
lits-requires-clause-place g c = live-place (stored_clauses c.args.clause_alloc.now) c.in-Some.cref
    (next-place g (goal.at.lits-requires-clause-place g c).In-Some)

pub flag_clause-requires : goal.flag_clause-requires
flag_clause-requires g c l m =
    let s = c.args.clause_alloc.now in
    let p = c.in-Some.cref in
    let h = next-place g (goal.at.flag_clause-requires g c).In-Some in
    let b = c.requires.known (literals_at (live_clauses s) p) (kept-at (live_clauses s) p h) l
    (subst (λ x. l ∈ x) (c.lits.ensures ∙ live-literals s p c.requires.sound h) m) in
    let n = c.loop-cref.invariant.count in
    omega (arith, b, n)

pub loop-cref-preserved : goal.loop-cref-preserved
loop-cref-preserved g c =
    let s = c.args.clause_alloc.now in
    let p = c.in-Some.cref in
    let h = next-place g (goal.at.loop-cref-preserved g c).In-Some in
    but-next (live_clauses s) p c.next.new.self c.args.flags.now c.loop-cref.flags c.flag_clause.new.flags
    (subst (λ (xs : List ℕ). FlagsBut (live_clauses s) xs c.args.flags.now c.loop-cref.flags) c.in-Some.ensures.steps c.loop-cref.invariant)
    (subst (λ x. FlagsAlso (x ∷ []) c.loop-cref.flags c.flag_clause.new.flags) (c.lits.ensures ∙ live-literals s p c.requires.sound h) c.flag_clause.ensures)

pub returns : goal.returns
returns g c =
    let s = c.args.clause_alloc.now in
    but-none (live_clauses s) c.args.flags.now c.loop-cref.flags (are-live-rising s c.requires.sound)
    (subst (λ (xs : List ℕ). FlagsBut (live_clauses s) xs c.args.flags.now c.loop-cref.flags) (c.in-None.ensures {u = tt}).steps.0 c.loop-cref.invariant)
