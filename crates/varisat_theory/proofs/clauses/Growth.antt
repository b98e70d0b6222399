-- A conflict stays where there is more.
use Rattle.std.proofs.Common.{List, [], ◌∷◌, ◌++◌, inl, inr, ⊎_elim, sym, subst, refl}
use Rattle.varisat_theory.specs.promises.Membership.{◌∈◌, ◌⊆◌}
use Rattle.varisat_theory.specs.promises.Literals.{Literal, Clause, opposite, opposites}
use Rattle.varisat_theory.specs.promises.Propagation.{Conflicts, Clash, FalseClause, Propagate, LeavesOnly, Follows, IsCoveredBy}
use Rattle.varisat_theory.proofs.clauses.Members.{⊆-cons, ∈-or_not}
use Rattle.varisat_theory.proofs.clauses.Values.{opposites-⊆, ∈-opposites}

pub conflicts_more : (P Q : List Clause) (known more : List Literal) → IsCoveredBy P Q → known ⊆ more → Conflicts P known → Conflicts Q more
conflicts_more P Q known more v s (Clash l h k) = Clash l (s l h) (s (opposite l) k)
conflicts_more P Q known more v s (FalseClause c h f) =
    let d = v c h in FalseClause d.0 d.1 (λ m i. s (opposite m) (f m (d.2 m i)))
conflicts_more P Q known more v s (Propagate c l h i u k) =
    let d = v c h in
    let on = conflicts_more P Q (l ∷ known) (l ∷ more) v (⊆-cons l known more s) k in
    let leaves : LeavesOnly more d.0 l = λ m j. ⊎_elim inl (λ o. inr (s (opposite m) o)) (u m (d.2 m j)) in
    ⊎_elim
    (λ j. Propagate d.0 l d.1 j leaves on)
    (λ n. FalseClause d.0 d.1 (λ m j. ⊎_elim (λ e. absurd (n (subst (λ x. x ∈ d.0) e j))) (λ o. o) (leaves m j)))
    (∈-or_not l d.0)

pub follows_more : (P Q : List Clause) (c d : Clause) → IsCoveredBy P Q → c ⊆ d → Follows P c → Follows Q d
follows_more P Q c d v s f = conflicts_more P Q (opposites c) (opposites d) v (opposites-⊆ c d s) f

pub covered_by_more : (P Q : List Clause) → P ⊆ Q → IsCoveredBy P Q
covered_by_more P Q s c h = (c, s c h, λ m i. i)

pub covered_by_self : (P : List Clause) → IsCoveredBy P P
covered_by_self P = covered_by_more P P (λ c h. h)

-- more known, the same clauses
pub conflicts_known : (P : List Clause) (known more : List Literal) → known ⊆ more → Conflicts P known → Conflicts P more
conflicts_known P known more s k = conflicts_more P P known more (covered_by_self P) s k

-- a clause of P follows
pub follows_member : (P : List Clause) (c : Clause) → c ∈ P → Follows P c
follows_member P c h = FalseClause c h (λ m i. ∈-opposites m c i)

-- a clause in the middle is replaced by a part of it
pub covered_by_part : (front back : List Clause) (c d : Clause) → d ⊆ c → IsCoveredBy (front ++ (c ∷ back)) (front ++ (d ∷ back))
covered_by_part [] back c d s x (inl e) = (d, inl refl, subst (λ y. d ⊆ y) (sym e) s)
covered_by_part [] back c d s x (inr h) = (x, inr h, λ m i. i)
covered_by_part (y ∷ front) back c d s x (inl e) = (x, inl e, λ m i. i)
covered_by_part (y ∷ front) back c d s x (inr h) = let r = covered_by_part front back c d s x h in (r.0, inr r.1, r.2)
