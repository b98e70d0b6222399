-- Where the shapes of a store's clauses stay, a database that fits the store still does.
use Rattle.std.proofs.Common.{◌≡◌, ℕ, ◌+◌, List, [], ◌∷◌, length, cond, not, ◌&&◌, refl, sym, ap, ◌∙◌, subst, inl, inr, ⊎_elim, true}
use Rattle.varisat_theory.specs.promises.Membership.{◌∈◌}
use Rattle.varisat_theory.specs.promises.Literals.{Clause}
use Rattle.varisat_theory.proofs.clauses.Members.{equal_or_not}
use Rattle.varisat_clause.specs.Tiers.{is_tier}
use Rattle.varisat_clause.specs.Stored.{StoredClause, IsClauseRef, literals_at, with_literals}
use Rattle.varisat_clause.specs.Stores.{Store, stored_clauses, IsSound, HoldsClauses}
use Rattle.varisat_clause.specs.Databases.{tier_list, Database, is_live, total, Tracks}
use Rattle.varisat_clause.specs.Shapes.{ClauseShape, shape_of, shapes_of, KeepsShapes}
use Rattle.varisat_clause.proofs.StoredClauses.{stored-here, stored-later, with-here, with-later}

pub shapes-refl : (s : Store) → KeepsShapes s s
shapes-refl s = refl

pub shapes-trans : (s t u : Store) → KeepsShapes s t → KeepsShapes t u → KeepsShapes s u
shapes-trans s t u a b = b ∙ a

-- a clause has as many other literals
pub shapes-with : (ks : List StoredClause) (p : ℕ) (c : Clause) → length c ≡ length (literals_at ks p) → shapes_of (with_literals ks p c) ≡ shapes_of ks
shapes-with [] p c e = refl
shapes-with (k ∷ ks) p c e =
    ⊎_elim
    (λ h. ap shapes_of (with-here k ks p c h) ∙ ap (λ (n : ℕ). record { place = k.place; header = k.header; count = n } ∷ shapes_of ks)
    (e ∙ ap (λ (x : StoredClause). length x.literals) (stored-here k ks p h)))
    (λ n. ap shapes_of (with-later k ks p c n) ∙ ap (λ xs. shape_of k ∷ xs)
    (shapes-with ks p c (e ∙ ap (λ (x : StoredClause). length x.literals) (stored-later k ks p n))))
    (equal_or_not k.place p)

pub shapes-changed : (s n : Store) (size p : ℕ) (c : Clause) → length c ≡ length (literals_at (stored_clauses s) p) →
    HoldsClauses n size (with_literals (stored_clauses s) p c) → KeepsShapes s n
shapes-changed s n size p c e h = ap shapes_of h.clauses ∙ shapes-with (stored_clauses s) p c e

-- the shape of each clause is among the shapes, and each of these is that of a clause
pub shape-∈ : (ks : List StoredClause) (k : StoredClause) → k ∈ ks → shape_of k ∈ shapes_of ks
shape-∈ [] k h = absurd h
shape-∈ (j ∷ ks) k (inl e) = inl (ap shape_of e)
shape-∈ (j ∷ ks) k (inr h) = inr (shape-∈ ks k h)

pub ∈-shapes : (ks : List StoredClause) (x : ClauseShape) → x ∈ shapes_of ks → (k : StoredClause) × (k ∈ ks) × (x ≡ shape_of k)
∈-shapes [] x h = absurd h
∈-shapes (k ∷ ks) x (inl e) = (k, inl refl, e)
∈-shapes (k ∷ ks) x (inr h) = let (j, i, e) = ∈-shapes ks x h in (j, inr i, e)

-- each clause has the shape of one of the others
pub shape-found : (ks js : List StoredClause) (k : StoredClause) → shapes_of ks ≡ shapes_of js → k ∈ ks → (j : StoredClause) × (j ∈ js)
    × (shape_of k ≡ shape_of j)
shape-found ks js k e h = ∈-shapes js (shape_of k) (subst (λ xs. shape_of k ∈ xs) e (shape-∈ ks k h))

pub shape-place : (ks js : List StoredClause) (p : ℕ) → shapes_of ks ≡ shapes_of js → IsClauseRef ks p → IsClauseRef js p
shape-place ks js p e (k, h, q) = let (j, i, f) = shape-found ks js k e h in (j, i, sym (ap (λ (x : ClauseShape). x.place) f) ∙ q)

-- a sum over clauses that asks for their shapes alone
abbrev shape-total : (ClauseShape → ℕ) → List ClauseShape → ℕ
shape-total w [] = 0
shape-total w (x ∷ xs) = w x + shape-total w xs

total-shapes : (w : ClauseShape → ℕ) (ks : List StoredClause) → total (λ k. w (shape_of k)) ks ≡ shape-total w (shapes_of ks)
total-shapes w [] = refl
total-shapes w (k ∷ ks) = ap (λ n. w (shape_of k) + n) (total-shapes w ks)

pub total-same : (w : ClauseShape → ℕ) (ks js : List StoredClause) → shapes_of ks ≡ shapes_of js →
    total (λ k. w (shape_of k)) ks ≡ total (λ k. w (shape_of k)) js
total-same w ks js e = total-shapes w ks ∙ ap (shape-total w) e ∙ sym (total-shapes w js)

pub tracks-shapes : (d : Database) (s t : Store) → Tracks d s → IsSound t → KeepsShapes s t → Tracks d t
tracks-shapes d s t k sound e = record {
  sound = sound;
  counts = λ u. k.counts u ∙ total-same (λ x. cond (not x.header.deleted && is_tier u x.header.tier) 1 0) (stored_clauses s) (stored_clauses t) (sym e);
  garbage = k.garbage ∙ total-same (λ x. cond x.header.deleted (3 + x.count) 0) (stored_clauses s) (stored_clauses t) (sym e);
  listed = λ x h live.
      let (j, i, f) = shape-found (stored_clauses t) (stored_clauses s) x e h in
      let l : is_live j ≡ true = ap (λ (y : ClauseShape). not y.header.deleted) (sym f) ∙ live in
      subst (λ (y : ClauseShape). y.place ∈ tier_list y.header.tier d.lists) (sym f) (k.listed j i l);
  known = λ u p h. shape-place (stored_clauses s) (stored_clauses t) p (sym e) (k.known u p h);
}
