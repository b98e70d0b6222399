-- What is kept of the clauses that were held once the root level is simplified: a part of each.
use Rattle.std.proofs.Common.{◌≡◌, Bool, true, false, not, cond, Option, Some, Result, Ok, Err, MatchResult, List, [], ◌∷◌, ◌++◌, ◌⊎◌, inl, inr, ⊎_elim, map, sym, ap, ◌∙◌, subst, refl}
use Rattle.std.specs.Prelude.{is_none}
use Rattle.std.specs.List.{filter}
use Rattle.std.proofs.lemmas.Bool.{not-true}
use Rattle.varisat_theory.specs.promises.Membership.{◌∈◌, ◌⊆◌, SameSet}
use Rattle.varisat_theory.specs.promises.Literals.{Literal, Clause}
use Rattle.varisat_theory.specs.promises.Propagation.{IsComplete}
use Rattle.varisat_theory.specs.promises.Derivations.{Line, Add, Delete, TakesOut, IsPresentAfter}
use Rattle.varisat_theory.specs.promises.Searches.{Fits, clauses_of}
use Rattle.varisat_theory.specs.inside.StepLaws.{unit_lines}
use Rattle.varisat_theory.proofs.clauses.Members.{∈-append_left, ∈-append_right, ∈-append_cases}
use Rattle.varisat_theory.proofs.clauses.Held.{same_clauses_find, same_clauses-back}
use Rattle.varisat_theory.proofs.journals.Renaming.{map-∈}
use Rattle.varisat_clause.specs.Stored.{StoredClause}
use Rattle.varisat_prop.specs.declared.prop.graph.Conflict.{Conflict}
use Rattle.varisat_prop.specs.declared.prop.graph.Reason.TheVariants as reason
use Rattle.varisat_prop.specs.Parts.{IsMadeTrue}
use Rattle.varisat_prop.specs.Simplified.{is_unassigned, are_unassigned}
use Rattle.varisat_prop.specs.View.{View, WellFormed, kept, pairs_from, node_of}
use Rattle.varisat_prop.proofs.views.SimplifiedClauses.{pair-satisfied}
use Rattle.varisat_prop.proofs.pairs.SimplifiedPairs.{∈-filter, all-unassigned, each-unassigned}
use Rattle.varisat_prop.proofs.trails.TrailValues.{on-trail, trail-true}
use Rattle.varisat_search.specs.ProvedUnits.{implied_units}
use Rattle.varisat_search.specs.Seen.{search_of}
use Rattle.varisat_search.specs.RootSimplified.{SimplifiesRoot, IsRootSimplified}
use Rattle.varisat_search.specs.Simplifications.{has_true, unassigned, pair_lines, lines_of_clause, lines_of_clauses, clause_lines}
use Rattle.varisat_search.proofs.loading.LoadView.{no-decision}
use Rattle.varisat_search.proofs.simplifying.UnassignedLiterals.{some-true, left-part, left-unassigned}
use Rattle.varisat_search.proofs.stepping.ViewSearch.{proved_to}
use Rattle.varisat_solver.specs.promises.StepEntries.{KeepsParts}

-- 1. Lines.

taken-or-there : (P : List Clause) (e : Clause) (R : List Clause) → TakesOut P e R → (c : Clause) → c ∈ P → (c ∈ R) ⊎ SameSet c e
taken-or-there P e R (front, d, back, q, s, f) c h =
    ⊎_elim
    (λ a. inl (subst (λ X. c ∈ X) (sym f) (∈-append_left c front back a)))
    (λ b. ⊎_elim
    (λ z. inr (subst (λ x. SameSet x e) (sym z) s))
    (λ a. inl (subst (λ X. c ∈ X) (sym f) (∈-append_right c front back a)))
    b)
    (∈-append_cases c front (d ∷ back) (subst (λ X. c ∈ X) q h))

deleted-or-there : (P : List Clause) (lines : List Line) (Q : List Clause) → IsPresentAfter P lines Q → (c : Clause) → c ∈ P →
    (c ∈ Q) ⊎ ((e : Clause) × (Delete e ∈ lines) × SameSet c e)
deleted-or-there P [] Q d c h = inl (subst (λ X. c ∈ X) d h)
deleted-or-there P (Add x ∷ lines) Q d c h =
    ⊎_elim inl (λ (e, i, s). inr (e, inr i, s)) (deleted-or-there (P ++ x ∷ []) lines Q d c (∈-append_left c P (x ∷ []) h))
deleted-or-there P (Delete x ∷ lines) Q (R, t, d) c h =
    ⊎_elim
    (λ i. ⊎_elim inl (λ (e, j, s). inr (e, inr j, s)) (deleted-or-there R lines Q d c i))
    (λ s. inr (x, inl refl, s))
    (taken-or-there P x R t c h)

-- a clause that a line adds is there at the end, where no line deletes it
added-stays : (P : List Clause) (lines : List Line) (Q : List Clause) → IsPresentAfter P lines Q → (d : Clause) → Add d ∈ lines →
    ((e : Clause) → Delete e ∈ lines → SameSet d e → ⊥) → d ∈ Q
added-stays P [] Q p d h n = absurd h
added-stays P (Add x ∷ lines) Q p d (inl e) n =
    let same : d ≡ x = cc in
    ⊎_elim
    (λ i. i)
    (λ (z, i, s). absurd (n z (inr i) s))
    (deleted-or-there (P ++ x ∷ []) lines Q p d (∈-append_right d P (x ∷ []) (inl same)))
added-stays P (Add x ∷ lines) Q p d (inr h) n = added-stays (P ++ x ∷ []) lines Q p d h (λ e i s. n e (inr i) s)
added-stays P (Delete x ∷ lines) Q (R, t, p) d (inl e) n = let z : Add d ≡ Delete x = e in absurd cc
added-stays P (Delete x ∷ lines) Q (R, t, p) d (inr h) n = added-stays R lines Q p d h (λ e i s. n e (inr i) s)

no-units-go : (ls : List Literal) (e : Clause) → Delete e ∈ unit_lines ls → ⊥
no-units-go [] e h = h
no-units-go (l ∷ ls) e (inl q) = let z : Delete e ≡ Add (l ∷ []) = q in cc
no-units-go (l ∷ ls) e (inr h) = no-units-go ls e h

-- 2. Why a line of a simplification deletes a clause.

-- The clause has a literal with a value. It has one that is true, or a line adds what is left of it.
record IsRetired (values : List (Option Bool)) (lines : List Line) (e : Clause) : Type 0 where
  assigned : are_unassigned values e ≡ false
  why : ((l : Literal) × (l ∈ e) × IsMadeTrue values l) ⊎ ((d : Clause) × (Add d ∈ lines) × (d ⊆ e) × (are_unassigned values d ≡ true))

gone-wider : (values : List (Option Bool)) (lines more : List Line) (e : Clause) → lines ⊆ more → IsRetired values lines e → IsRetired values more e
gone-wider values lines more e w g = record {
  assigned = g.assigned;
  why = ⊎_elim inl (λ (d, i, p, u). inr (d, w (Add d) i, p, u)) g.why;
}

true-assigned : (values : List (Option Bool)) (c : Clause) (l : Literal) → l ∈ c → IsMadeTrue values l → are_unassigned values c ≡ false
true-assigned values c l i t = go (are_unassigned values c) refl
  where
    go : (b : Bool) → are_unassigned values c ≡ b → are_unassigned values c ≡ false
    go false q = q
    go true q = let z : true ≡ false = sym (all-unassigned values c q l i) ∙ ap is_none t in absurd cc

gone-one : (values : List (Option Bool)) (c e : Clause) → Delete e ∈ lines_of_clause values c → IsRetired values (lines_of_clause values c) e
gone-one values c e h = go (has_true values c) refl (are_unassigned values c) refl h
  where
    go : (b : Bool) → has_true values c ≡ b → (a : Bool) → are_unassigned values c ≡ a →
        Delete e ∈ cond b (Delete c ∷ []) (cond a [] (Add (unassigned values c) ∷ Delete c ∷ [])) →
        IsRetired values (cond b (Delete c ∷ []) (cond a [] (Add (unassigned values c) ∷ Delete c ∷ []))) e
    go true t a q (inl z) =
        let same : e ≡ c = cc in
        let (l, i, m) = some-true values c t in
        subst (IsRetired values (Delete c ∷ [])) (sym same) (record { assigned = true-assigned values c l i m; why = inl (l, i, m) })
    go true t a q (inr z) = absurd z
    go false t true q h = absurd h
    go false t false q (inl z) = let y : Delete e ≡ Add (unassigned values c) = z in absurd cc
    go false t false q (inr (inl z)) =
        let same : e ≡ c = cc in
        subst (IsRetired values (Add (unassigned values c) ∷ Delete c ∷ [])) (sym same) (record {
          assigned = q;
          why = inr (unassigned values c, inl refl, left-part values c, each-unassigned values (unassigned values c) (left-unassigned values c));
        })
    go false t false q (inr (inr z)) = absurd z

gone-clauses : (values : List (Option Bool)) (ks : List StoredClause) (e : Clause) → Delete e ∈ lines_of_clauses values ks →
    IsRetired values (lines_of_clauses values ks) e
gone-clauses values [] e h = absurd h
gone-clauses values (k ∷ ks) e h =
    let first = lines_of_clause values k.literals in
    let rest = lines_of_clauses values ks in
    ⊎_elim
    (λ i. gone-wider values first (first ++ rest) e (λ x j. ∈-append_left x first rest j) (gone-one values k.literals e i))
    (λ i. gone-wider values rest (first ++ rest) e (λ x j. ∈-append_right x first rest j) (gone-clauses values ks e i))
    (∈-append_cases (Delete e) first rest h)

gone-pairs : (s : View) → WellFormed s → IsComplete (kept s) s.trail → (e : Clause) → Delete e ∈ pair_lines s → IsRetired s.values (pair_lines s) e
gone-pairs s w done e h =
    let cs = filter (λ c. not (are_unassigned s.values c)) (pairs_from 0 s.binary) in
    let (c, i, z) = map-∈ Delete (Delete e) cs h in
    let same : e ≡ c = cc in
    let (j, n) = ∈-filter (λ c. not (are_unassigned s.values c)) (pairs_from 0 s.binary) c i in
    let f = not-true (are_unassigned s.values c) n in
    let (l, o, t) = pair-satisfied s w done c j f in
    subst (IsRetired s.values (pair_lines s)) (sym same) (record { assigned = f; why = inl (l, o, trail-true s w l t) })

gone-lines : (s : View) (units : List Literal) → WellFormed s → IsComplete (kept s) s.trail → (e : Clause) →
    Delete e ∈ (unit_lines units ++ (pair_lines s ++ clause_lines s)) → IsRetired s.values (unit_lines units ++ (pair_lines s ++ clause_lines s)) e
gone-lines s units w done e h =
    let first = unit_lines units in
    let pairs = pair_lines s in
    let stored = clause_lines s in
    ⊎_elim
    (λ i. absurd (no-units-go units e i))
    (λ j. gone-wider s.values (pairs ++ stored) (first ++ (pairs ++ stored)) e (λ x i. ∈-append_right x first (pairs ++ stored) i)
    (⊎_elim
    (λ i. gone-wider s.values pairs (pairs ++ stored) e (λ x o. ∈-append_left x pairs stored o) (gone-pairs s w done e i))
    (λ i. gone-wider s.values stored (pairs ++ stored) e (λ x o. ∈-append_right x pairs stored o) (gone-clauses s.values s.clauses e i))
    (∈-append_cases (Delete e) pairs stored j)))
    (∈-append_cases (Delete e) first (pairs ++ stored) h)

-- 3. What is kept.

-- a literal that is true is held as a unit clause
unit-held : (t : View) (after : List Clause) (e : Clause) (l : Literal) → WellFormed t → IsRootSimplified t → Fits after (search_of t) →
    IsMadeTrue t.values l → l ∈ e → (d : Clause) × (d ∈ after) × (d ⊆ e)
unit-held t after e l w d f h i =
    let (k, a, q) = w.stands l h in
    let reason = ap (λ x. (node_of t x).reason) (sym q) ∙ d.proved k a in
    let (u, o, is) = f.units l (proved_to t w l (on-trail t w l h, no-decision t w d.undecided l h, reason)) in
    let all = clauses_of (search_of t).kept ++ f.others in
    let (x, j, same) = same_clauses_find all after (same_clauses-back after all f.same) u (∈-append_right u (clauses_of (search_of t).kept) f.others o) in
    (x, j, λ m y. subst (λ z. z ∈ e) (sym (is.1 m (same.0 m y))) i)

gone-kept : (s t : View) (lines : List Line) (held after : List Clause) → IsPresentAfter held lines after → t.values ≡ s.values →
    ((e : Clause) → Delete e ∈ lines → IsRetired s.values lines e) → WellFormed t → IsRootSimplified t → Fits after (search_of t) →
    KeepsParts [] held after
gone-kept s t lines held after p same gone w d f c h =
    ⊎_elim
    (λ i. inl (c, i, λ l o. o))
    (λ (e, i, same-set). ⊎_elim
    (λ (l, j, true-now).
    let (x, o, part) = unit-held t after e l w d f (subst (λ vs. IsMadeTrue vs l) (sym same) true-now) j in
    inl (x, o, λ m y. same-set.1 m (part m y)))
    (λ (x, j, part, free).
    inl (
      x,
      added-stays held lines after p x j (λ z o alike.
          let q = (gone z o).assigned in
          let r = each-unassigned s.values z (λ m y. all-unassigned s.values x free m (alike.1 m y)) in
          let clash : true ≡ false = sym r ∙ q in cc),
      λ m y. same-set.1 m (part m y),
    ))
    (gone e i).why)
    (deleted-or-there held lines after p c h)

units-kept : (units : List Literal) (lines : List Line) (held after : List Clause) → lines ≡ unit_lines units → IsPresentAfter held lines after →
    KeepsParts [] held after
units-kept units lines held after e p c h =
    ⊎_elim
    (λ i. inl (c, i, λ l o. o))
    (λ (x, i, same-set). absurd (no-units-go units x (subst (λ ls. Delete x ∈ ls) e i)))
    (deleted-or-there held lines after p c h)

pub settled-parts : (lines : List Line) (s t : View) (end : Result (Unit {0}) Conflict) → SimplifiesRoot lines s t end → WellFormed t →
    MatchResult end (λ _. IsRootSimplified t) (λ _. Unit {0}) → (held after : List Clause) → IsPresentAfter held lines after → Fits after (search_of t) →
    KeepsParts [] held after
settled-parts lines s t (Ok none) u w d held after p f =
    let v = u.propagated in
    let (simplified, is) = u.ends in
    let pairs : pair_lines u.proved ≡ pair_lines v = ap pair_lines u.units.rest in
    let stored : clause_lines u.proved ≡ clause_lines v = ap clause_lines u.units.rest in
    let units = unit_lines (implied_units v) in
    let all : lines ≡ units ++ (pair_lines v ++ clause_lines v) =
    is ∙ ap (λ (ls : List Line). units ++ (ls ++ clause_lines u.proved)) pairs ∙ ap (λ (ls : List Line). units ++ (pair_lines v ++ ls)) stored in
    let values : t.values ≡ v.values = ap (λ (y : View). y.values) simplified.rest ∙ ap (λ (y : View). y.values) u.units.rest in
    gone-kept v t lines held after p values
    (λ e i. subst (λ ls. IsRetired v.values ls e) (sym all) (gone-lines v (implied_units v) u.propagates.well u.complete e (subst (λ ls. Delete e ∈ ls) all i)))
    w d f
settled-parts lines s t (Err conflict) u w d held after p f = units-kept (implied_units u.propagated) lines held after u.ends.2 p
