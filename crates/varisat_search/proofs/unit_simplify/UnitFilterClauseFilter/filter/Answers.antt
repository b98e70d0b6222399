use Rattle.std.proofs.Common.{◌≡◌, ◌≤◌, ◌++◌, ◌∷◌, Bool, Option, List, [], false, length, get_or, refl, sym, ap, ◌∙◌, subst, arith}
use Rattle.varisat_theory.specs.promises.Literals.{Literal, Clause, opposite}
use Rattle.varisat_clause.specs.Stored.{StoredClause, stored_at}
use Rattle.varisat_clause.specs.Stores.{stored_clauses}
use Rattle.varisat_clause.proofs.FilteredClauses.{alters-same}
use Rattle.varisat_prop.specs.Simplified.{is_unassigned}
use Rattle.varisat_prop.proofs.trails.LiteralValues.{none-made}
use Rattle.varisat_prop.proofs.views.ReadElements.{element}
use Rattle.varisat_search.specs.Simplifications.{has_true, unassigned, NotesWatches}
use Rattle.varisat_search.proofs.simplifying.ShrunkClauses.{header-length}
use Rattle.varisat_search.proofs.simplifying.ReplacedClauses.{replaced-alters, replaced-leaves}
use Rattle.varisat_search.proofs.simplifying.FilteredUnits.{satisfied-read, unsatisfied-read, filter-short, leaves-none, leaves-long, not-shortened, notes-none, notes-two}
use Rattle.varisat_search.proofs.simplifying.UnassignedLiterals.{left-all, unassigned-read}
use Rattle.varisat_clause.proofs.DatabaseTracks.{long-at}
use Rattle.varisat_search.proofs.unit_simplify.UnitFilterClauseFilter.filter.Given.{Over}
use Rattle.varisat_search.proofs.unit_simplify.UnitFilterClauseFilter.filter.Goals.{In_ok-copy_unassigned, In_ok-push-2}
use Rattle.varisat_search.proofs.unit_simplify.UnitFilterClauseFilter.filter.Goals as goal

abbrev values : (g : Over) (c : In_ok-copy_unassigned g) → List (Option Bool)
values g c = c.args.self.now.assignment.now.current

abbrev clause : (g : Over) (c : In_ok-copy_unassigned g) → StoredClause
clause g c = stored_at (stored_clauses c.args.alloc.now) c.args.cref

-- the literals whose watch lists name the clause are noted
notes : (g : Over) (c : In_ok-push-2 g) → NotesWatches c.args.self.now.assignment.now.current (stored_at (stored_clauses c.args.alloc.now) c.args.cref)
    c.args.self.now.watching.items c.push-2.new.self.items
notes g c =
    let k = stored_at (stored_clauses c.args.alloc.now) c.args.cref in
    let lits = c.lits-lits.result.now in
    let n = ap (λ (d : Clause). length d) c.lits-lits.ensures in
    let m = (long-at c.args.alloc.now c.args.cref c.requires.sound c.requires.place).0 in
    let first = element lits 0 c.index-lits-0.result (omega (arith, n, m)) c.index-lits-0.is ∙ ap (λ (d : Clause). get_or d 0 0) c.lits-lits.ensures in
    let second = element lits 1 c.index-lits-1.result (omega (arith, n, m)) c.index-lits-1.is ∙ ap (λ (d : Clause). get_or d 1 0) c.lits-lits.ensures in
    notes-two c.args.self.now.assignment.now.current k c.args.self.now.watching.items c.push-2.new.self.items c.not.result c.not-2.result
    (omega (arith, m)) (c.not.ensures ∙ ap opposite first) (c.not-2.ensures ∙ ap opposite second)
    (c.in_ok-push-2.ensures.items ∙ ap (λ (ls : List Literal). ls ++ c.not-2.result ∷ []) c.in_ok-push.ensures.items)

-- what is left of the clause
left-is : (g : Over) (c : In_ok-copy_unassigned g) → c.copy_unassigned.new.left.items ≡ unassigned (values g c) (clause g c).literals
left-is g c = c.in_ok-copy_unassigned.ensures ∙ ap (unassigned (values g c)) c.lits-lits.ensures

-- none of its literals is true
none-true : (g : Over) (c : In_ok-copy_unassigned g) → has_true (values g c) (clause g c).literals ≡ false
none-true g c = unsatisfied-read (values g c) c.lits-lits.result.now (clause g c).literals c.lits-lits.ensures
    (λ h. let b = c.if-is_satisfied.ensures.1 h in cc)

-- two or more are left
two-left : (g : Over) (c : In_ok-copy_unassigned g) → 2 ≤ length c.copy_unassigned.new.left.items
two-left g c =
    let two = c.requires.accepted.two (none-true g c) in
    let e = ap (λ (d : Clause). length d) (left-is g c) in
    omega (arith, two, e)

pub returns-then-is_satisfied-clause-altered : goal.returns-then-is_satisfied-clause-altered
returns-then-is_satisfied-clause-altered g c = alters-same c.args.alloc.now c.args.cref c.requires.sound c.requires.place c.requires.live

pub returns-then-is_satisfied-clause-left : goal.returns-then-is_satisfied-clause-left
returns-then-is_satisfied-clause-left g c =
    let values = c.args.self.now.assignment.now.current in
    let k = stored_at (stored_clauses c.args.alloc.now) c.args.cref in (
      refl,
      leaves-none values k c.args.self.now.pairs.items k
          (satisfied-read values c.lits-lits.result.now k.literals c.lits-lits.ensures (c.if-is_satisfied.ensures.0 refl)),
      notes g (goal.at.returns-then-is_satisfied-clause-left g c).In_ok-push-2,
    )

pub replace_clause-requires-clause-least : goal.replace_clause-requires-clause-least
replace_clause-requires-clause-least g c =
    let two = two-left g (goal.at.replace_clause-requires-clause-least g c).In_ok-copy_unassigned in
    let m = ap (λ (d : Clause). length d) c.deref.ensures.value in
    omega (arith, two, m)

pub replace_clause-requires-clause-most : goal.replace_clause-requires-clause-most
replace_clause-requires-clause-most g c =
    let here = (goal.at.replace_clause-requires-clause-most g c).In_ok-copy_unassigned in
    let m = ap (λ (d : Clause). length d) c.deref.ensures.value in
    let n = ap (λ (d : Clause). length d) (left-is g here) in
    let short = filter-short (is_unassigned (values g here)) (clause g here).literals in
    omega (arith, m, n, short)

pub returns-clause-altered : goal.returns-clause-altered
returns-clause-altered g c =
    let two = two-left g (goal.at.returns-clause-altered g c).In_ok-copy_unassigned in
    let m = ap (λ (d : Clause). length d) c.deref.ensures.value in
    replaced-alters c.deref.result.now c.args.cref c.args.alloc.now c.replace_clause.new.alloc c.args.self.now.pairs.items
    c.replace_clause.new.pairs.items c.in_ok-stays.stays c.requires.place c.requires.live (omega (arith, two, m)) c.in_ok-stays.ensures.replaced
    c.requires.sound

pub returns-clause-left : goal.returns-clause-left
returns-clause-left g c =
    let here = (goal.at.returns-clause-left g c).In_ok-copy_unassigned in
    let two = two-left g here in
    let m = ap (λ (d : Clause). length d) c.deref.ensures.value in (
      refl,
      replaced-leaves c.deref.result.now c.args.cref c.args.alloc.now c.replace_clause.new.alloc c.args.self.now.pairs.items
          c.replace_clause.new.pairs.items c.in_ok-stays.stays c.requires.place c.requires.live (omega (arith, two, m)) c.in_ok-stays.ensures.replaced
          (values g here) (none-true g here) (c.deref.ensures.value ∙ left-is g here),
      notes g (goal.at.returns-clause-left g c).In_ok-push-2,
    )

pub returns-then-not-has_assigned-clause-altered : goal.returns-then-not-has_assigned-clause-altered
returns-then-not-has_assigned-clause-altered g c = alters-same c.args.alloc.now c.args.cref c.requires.sound c.requires.place c.requires.live

pub returns-then-not-has_assigned-clause-left : goal.returns-then-not-has_assigned-clause-left
returns-then-not-has_assigned-clause-left g c =
    let values = c.args.self.now.assignment.now.current in
    let k = stored_at (stored_clauses c.args.alloc.now) c.args.cref in
    let free = unsatisfied-read values c.lits-lits.result.now k.literals c.lits-lits.ensures
    (λ (l, i, h). let b = c.has_assigned.ensures.1 (l, i, λ e. none-made values l l e refl h) in let n = c.if-not-has_assigned.true in cc) in
    let none = unassigned-read values c.lits-lits.result.now k.literals c.lits-lits.ensures
    (λ h. let b = c.has_assigned.ensures.1 h in let n = c.if-not-has_assigned.true in cc) in
    let full : unassigned values k.literals ≡ k.literals = left-all values k.literals none in
    let long = long-at c.args.alloc.now c.args.cref c.requires.sound c.requires.place in (
      refl,
      leaves-long values k c.args.self.now.pairs.items k free (subst (λ (d : Clause). 3 ≤ length d) (sym full) long.0) c.requires.live
          (not-shortened values k c.args.self.now.pairs.items (header-length c.args.alloc.now c.args.cref c.requires.sound c.requires.place) full),
      notes-none values k c.args.self.now.watching.items none,
    )

pub bounds-lits-1 : goal.bounds-lits-1
bounds-lits-1 g c =
    let n = ap (λ (d : Clause). length d) c.lits-lits.ensures in
    let m = (long-at c.args.alloc.now c.args.cref c.requires.sound c.requires.place).0 in
    omega (arith, n, m)
