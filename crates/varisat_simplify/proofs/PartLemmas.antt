-- Parts of a simplification, and what they come to.
use Rattle.std.proofs.Common.{◌≡◌, ℕ, ◌≤◌, min, Bool, List, length, arith, sym, ap, ◌∙◌, subst, refl}
use Rattle.varisat_theory.specs.promises.Literals.{Clause}
use Rattle.varisat_theory.specs.promises.Derivations.{Line}
use Rattle.varisat_formula.specs.promises.Formulas.{Formula, AreBelow}
use Rattle.varisat_database.specs.Databases.{DatabaseState, no_clauses}
use Rattle.varisat_rules.specs.inside.States.{IsLaterState}
use Rattle.varisat_rules.proofs.StateLemmas.{becomes_self, becomes_then}
use Rattle.varisat_simplify.specs.inside.Loading.{IsLoaded}
use Rattle.varisat_simplify.specs.promises.Simplified.{IsReduced, Finishes}
use Rattle.varisat_simplify.specs.inside.Parts.{Simplification, IsBegunOf, GoesOn, IsSimplified}
use Rattle.varisat_simplify.proofs.UnloadLemmas.{finished, finished_frozen, finished_shorter, finished_implied, reduced_room}

-- clauses were loaded
pub begun : (f : Formula) (n count : ℕ) (frozen : List Bool) (both : Bool) (d t : DatabaseState) → AreBelow n f.clauses →
    ((m : ℕ) → AreBelow m f.clauses → n ≤ m) → d ≡ no_clauses n frozen both → IsLoaded f.clauses d.var_count d.frozen d.saves_both t →
    count ≡ length t.clauses → IsBegunOf f frozen both (record { database = t; loaded = count })
begun f n count frozen both d t below least e l size = record {
  below = subst (λ m. AreBelow m f.clauses) (sym vars) below;
  least = λ m b. subst (λ x. x ≤ m) (sym vars) (least m b);
  reduced = record {
    loaded = t;
    reduces = l.reduces;
    same = l.same;
    empty = l.empty;
    fewer = l.fewer;
    becomes = becomes_self t;
    vars = refl;
    flags = l.flags ∙ ap (λ (s : DatabaseState). s.frozen) e;
    saves = l.saves ∙ ap (λ (s : DatabaseState). s.saves_both) e;
    whole = size;
  };
}
  where
    vars : t.var_count ≡ n
    vars = l.count ∙ ap (λ (s : DatabaseState). s.var_count) e

-- a part was done
pub goes_on : (s t : Simplification) → IsLaterState s.database t.database → t.loaded ≡ s.loaded → GoesOn s t
goes_on s t b e f frozen both h = record {
  below = subst (λ m. AreBelow m f.clauses) (sym b.continues.count) h.below;
  least = λ m k. subst (λ x. x ≤ m) (sym b.continues.count) (h.least m k);
  reduced = record {
    loaded = h.reduced.loaded;
    reduces = h.reduced.reduces;
    same = h.reduced.same;
    empty = h.reduced.empty;
    fewer = h.reduced.fewer;
    becomes = becomes_then h.reduced.loaded s.database t.database h.reduced.becomes b;
    vars = h.reduced.vars ∙ sym b.continues.count;
    flags = h.reduced.flags;
    saves = h.reduced.saves;
    whole = e ∙ h.reduced.whole;
  };
}

least-first : (n a b : ℕ) → n ≡ min a b → a ≤ b → n ≡ a
least-first n a b e h = grind arith

-- it ends
pub ends : (s : Simplification) (t : DatabaseState) (n : ℕ) (g : Formula) (stack : List Clause) (lines : List Line) → t ≡ s.database →
    n ≡ min s.loaded (length t.clauses) → Finishes t n g stack lines →
    (f : Formula) (frozen : List Bool) (both : Bool) → IsBegunOf f frozen both s → IsSimplified f frozen both g stack lines
ends s t n g stack lines e size h f frozen both b =
    let room = reduced_room f.clauses s.database.var_count s.loaded frozen both s.database b.reduced in
    let same : n ≡ s.loaded = least-first n s.loaded (length s.database.clauses) (size ∙ ap (λ (d : DatabaseState). min s.loaded (length d.clauses)) e) room in
    let k : Finishes s.database s.loaded g stack lines =
    subst (λ (d : DatabaseState). Finishes d s.loaded g stack lines) e (subst (λ m. Finishes t m g stack lines) same h) in
    record {
      made = finished f g s.database.var_count s.loaded frozen both s.database stack lines b.below b.least b.reduced k;
      kept = finished_frozen f.clauses g s.database.var_count s.loaded frozen both s.database stack lines b.reduced k;
      shorter = finished_shorter f.clauses g s.database.var_count s.loaded frozen both s.database stack lines b.reduced k;
      implied = finished_implied f.clauses g s.database.var_count s.loaded frozen both s.database stack lines b.reduced k;
    }
