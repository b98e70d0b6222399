-- An element of a list that was read.
use Rattle.std.proofs.Common.{◌≡◌, ℕ, zero, suc, ◌-◌, ◌<◌, ◌≤◌, List, [], ◌∷◌, length, take, drop, inl, inr, get_or, sym, ap, ◌∙◌, subst, arith}
use Rattle.std.proofs.Math.Seq.{take-length}
use Rattle.varisat_theory.specs.promises.Membership.{◌∈◌}
use Rattle.varisat_clause.specs.Stored.{literals_at}
use Rattle.varisat_clause.specs.Stores.{Store, stored_clauses, IsSound}
use Rattle.varisat_clause.specs.Collected.{live_clauses}
use Rattle.varisat_clause.proofs.LiveStore.{live-literals}
use Rattle.varisat_prop.specs.declared.prop.graph.Reason.{Reason}
use Rattle.varisat_prop.specs.declared.prop.graph.Reason.TheVariants as reason
use Rattle.varisat_prop.specs.Changes.{NamesClause, others_of}

pub element : (xs : List ℕ) (i v : ℕ) → i < length xs → v ≡ get_or xs i v → v ≡ get_or xs i 0
element [] i v h e = absurd (omega arith)
element (x ∷ xs) zero v h e = e
element (x ∷ xs) (suc i) v h e = element xs i v (omega arith) e

pub item-∈ : {X : Type 0} (xs : List X) (i : ℕ) (v : X) → i < length xs → v ≡ get_or xs i v → v ∈ xs
item-∈ [] i v h e = absurd (omega (arith, h))
item-∈ (x ∷ xs) zero v h e = inl e
item-∈ (x ∷ xs) (suc i) v h e = inr (item-∈ xs i v (omega (arith, h)) e)

-- all but the first
pub others-read : (c r : List ℕ) → r ≡ c → 1 ≤ length c → take (length r - 1) (drop 1 r) ≡ others_of c
others-read [] r e h = absurd (omega (arith, h))
others-read (l ∷ c) r e h = subst (λ (x : List ℕ). take (length x - 1) (drop 1 x) ≡ c) (sym e)
    (let n : suc (length c) - 1 ≡ length c = omega arith in ap (λ (k : ℕ). take k c) n ∙ take-length c)

-- the clause that a reason names, as it is read: it is not empty
pub reason-read : {r : Reason} {s : Store} {p : ℕ} {c : List ℕ} → IsSound s → NamesClause (live_clauses s) r → r ≡ reason.Long p →
    c ≡ literals_at (stored_clauses s) p → (c ≡ literals_at (live_clauses s) p) × (1 ≤ length c)
reason-read {s = s} {p = p} ok n e q =
    let h = subst (NamesClause (live_clauses s)) e n in
    let f = q ∙ live-literals s p ok h.0 in
    let l = ap (λ (x : List ℕ). length x) f in
    (f, omega (arith, l, h.1))
