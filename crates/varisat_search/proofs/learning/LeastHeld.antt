-- Something always fits a search, so that a tracer that may hold anything may be handed lines.
use Rattle.std.proofs.Common.{List, [], ◌∷◌, ◌++◌, true, false, inl, inr, ⊎_elim, refl, sym, subst}
use Rattle.std.specs.Prelude.{Bool, ◌&&◌, ◌≡◌}
use Rattle.varisat_theory.specs.promises.Membership.{◌∈◌}
use Rattle.varisat_theory.specs.promises.Literals.{Literal, Clause}
use Rattle.varisat_theory.specs.promises.Searches.{Fits, clauses_of}
use Rattle.varisat_theory.proofs.clauses.Held.{same_clauses-self}
use Rattle.varisat_prop.specs.View.{View}
use Rattle.varisat_prop.proofs.pairs.SimplifiedPairs.{filter-∈, ∈-filter}
use Rattle.varisat_search.specs.Seen.{search_of, is_fixed, is_proved}
use Rattle.varisat_search.proofs.stepping.StepWithoutLines.{unit_clauses, in_units, from_units}
use Rattle.varisat_steps.specs.Traces.{AdmitsFor, AdmitsWith}

first-true : (a b : Bool) → (a && b) ≡ true → a ≡ true
first-true true b e = refl
first-true false b e = e

proved-fixed : (s : View) (l : Literal) → l ∈ (search_of s).proved → l ∈ (search_of s).fixed
proved-fixed s l h =
    let (i, e) = ∈-filter (is_proved s) s.trail l h in
    filter-∈ (is_fixed s) s.trail l i (first-true (is_fixed s l) _ e)

-- the kept clauses, and the units that are proved
pub least-held : (s : View) → List Clause
least-held s = clauses_of (search_of s).kept ++ unit_clauses (search_of s).proved

pub least-fits : (s : View) → Fits (least-held s) (search_of s)
unfolding least-held
least-fits s = record {
  others = unit_clauses (search_of s).proved;
  same = same_clauses-self (clauses_of (search_of s).kept ++ unit_clauses (search_of s).proved);
  settled = λ c h. let (l, i, e) = from_units (search_of s).proved c h in inr (l, subst (λ x. l ∈ x) (sym e) (inl refl), proved-fixed s l i);
  units = λ l h. (l ∷ [], in_units (search_of s).proved l h, (inl refl, λ m j. ⊎_elim (λ e. e) (λ z. absurd z) j));
}

-- a tracer that may hold anything
pub anything-for : (H : List Clause → Type 0) → ((held : List Clause) → H held) → (s : View) → AdmitsFor H (search_of s)
anything-for H h s = (least-held s, h (least-held s), least-fits s)

pub anything-with : (H : List Clause → Type 0) → ((held : List Clause) → H held) → (s : View) (c : Clause) → AdmitsWith H (search_of s) c
anything-with H h s c = (least-held s, h (least-held s ++ c ∷ []), least-fits s)
