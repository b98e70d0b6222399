-- How a search goes on.
use Rattle.std.proofs.Common.{◌≡◌, ℕ, zero, suc, ◌<◌, ◌≤◌, Bool, List, [], ◌∷◌, ◌++◌, length, get_or, map, refl, sym, ap, ◌∙◌, arith, append_assoc, length-append}
use Rattle.std.proofs.lemmas.List.{get_or_append_left, map-append}
use Rattle.varisat_theory.specs.promises.Literals.{Literal, Clause}
use Rattle.varisat_prop.specs.View.{View, literal_at, node_of, is_implied, kinds, ViewFits, GrowsTrail}
use Rattle.varisat_clause.specs.Stored.{StoredClause, AreReordered}
use Rattle.varisat_clause.proofs.StoredClauses.{reordered-refl, reordered-trans}

pub append-nil : {X : Type 0} (xs : List X) → xs ++ [] ≡ xs
append-nil [] = refl
append-nil (x ∷ xs) = ap (λ ys. x ∷ ys) (append-nil xs)

-- only the order of literals in clauses is another
pub grows-reordered : (s : View) (P : List StoredClause) → AreReordered s.clauses P →
    ((held : List Clause) → ViewFits held s → ViewFits held (record s { clauses = P })) → GrowsTrail s (record s { clauses = P })
grows-reordered s P a f = record {
  clauses = a;
  binary = refl;
  count = refl;
  trail_more = ([], sym (append-nil s.trail));
  head = omega arith;
  decisions_more = ([], sym (append-nil s.decisions));
  nodes = λ k h. refl;
  fits = f;
}

pub grows-refl : (s : View) → GrowsTrail s s
grows-refl s = grows-reordered s s.clauses (reordered-refl s.clauses) (λ held f. f)

pub grows-longer : (s t : View) → GrowsTrail s t → length s.trail ≤ length t.trail
grows-longer s t g = let (more, e) = g.trail_more in let n = ap (λ (x : List Literal). length x) e in let m = length-append s.trail more in omega (arith, n, m)

pub grows-trans : (s t u : View) → GrowsTrail s t → GrowsTrail t u → GrowsTrail s u
grows-trans s t u g h = record {
  clauses = reordered-trans s.clauses t.clauses u.clauses g.clauses h.clauses;
  binary = h.binary ∙ g.binary;
  count = h.count ∙ g.count;
  trail_more = (
    g.trail_more.0 ++ h.trail_more.0,
    h.trail_more.1 ∙ ap (λ x. x ++ h.trail_more.0) g.trail_more.1
        ∙ append_assoc s.trail g.trail_more.0 h.trail_more.0,
  );
  head = let a = g.head in let b = h.head in omega (arith, a, b);
  decisions_more = (
    g.decisions_more.0 ++ h.decisions_more.0,
    h.decisions_more.1 ∙ ap (λ x. x ++ h.decisions_more.0) g.decisions_more.1
        ∙ append_assoc s.decisions g.decisions_more.0 h.decisions_more.0,
  );
  nodes = λ k l. let n = grows-longer s t g in h.nodes k (omega (arith, l, n)) ∙ g.nodes k l;
  fits = λ held f. h.fits held (g.fits held f);
}

pub literal-stays : (s t : View) → GrowsTrail s t → (k : ℕ) → k < length s.trail → literal_at t k ≡ literal_at s k
literal-stays s t g k h = ap (λ x. get_or x k 0) g.trail_more.1 ∙ get_or_append_left s.trail g.trail_more.0 0 k h

map-same : (f g : ℕ → Bool) (xs : List ℕ) → ((k : ℕ) → k < length xs → f (get_or xs k 0) ≡ g (get_or xs k 0)) → map f xs ≡ map g xs
map-same f g [] h = refl
map-same f g (x ∷ xs) h = let e = h zero (omega arith) in let d = map-same f g xs (λ k l. h (suc k) (omega (arith, l))) in cc

-- what was implied or decided stays so
pub kinds-more : (s t : View) (g : GrowsTrail s t) → kinds t ≡ kinds s ++ map (λ l. is_implied (node_of t l)) g.trail_more.0
kinds-more s t g =
    let f : ℕ → Bool = λ l. is_implied (node_of t l) in
    let f' : ℕ → Bool = λ l. is_implied (node_of s l) in
    let same : map f s.trail ≡ map f' s.trail = map-same f f' s.trail
    (λ k h. ap (λ l. is_implied (node_of t l)) (sym (literal-stays s t g k h)) ∙ ap is_implied (g.nodes k h)) in
    ap (map f) g.trail_more.1 ∙ map-append f s.trail g.trail_more.0 ∙ ap (λ y. y ++ map f g.trail_more.0) same
