-- The two forms of a conflict are one.
use Rattle.std.proofs.Common.{◌≡◌, List, [], ◌∷◌, ◌⊎◌, inl, inr, ⊎_elim, sym, ap, ◌∙◌, subst, arith}
use Rattle.varisat_theory.specs.promises.Membership.{◌∈◌}
use Rattle.varisat_theory.specs.promises.Literals.{Literal, Clause, opposite}
use Rattle.varisat_theory.specs.promises.Propagation.{Conflicts, Clash, FalseClause, Propagate, LeavesOnly, IsFalse, Use, known_after, IsPropagation, HasClash, HasFalse, PropagatesToConflict}
use Rattle.varisat_theory.proofs.clauses.Values.{opposite_twice}

from_uses : (P : List Clause) (known : List Literal) (us : List Use) → IsPropagation P known us → HasFalse P (known_after known us) → Conflicts P known
from_uses P known [] p f = FalseClause f.0 f.1 f.2
from_uses P known (u ∷ us) p f = Propagate u.clause u.left p.0 p.1 p.2 (from_uses P (u.left ∷ known) us p.3 f)

pub conflicts_from_uses : (P : List Clause) (base : List Literal) → PropagatesToConflict P base → Conflicts P base
conflicts_from_uses P base (inl h) = Clash h.0 h.1 h.2
conflicts_from_uses P base (inr h) = from_uses P base h.0 h.1 h.2

pub never_its_own : (l : Literal) → opposite l ≡ l → ⊥
unfolding opposite
never_its_own l e = omega arith

-- where propagation makes a clash, its clause was false
was_false : (known : List Literal) (c : Clause) (l : Literal) → LeavesOnly known c l → opposite l ∈ known → IsFalse known c
was_false known c l u o m i = ⊎_elim (λ e. subst (λ x. opposite x ∈ known) (sym e) o) (λ h. h) (u m i)

new_clash : (known : List Literal) (l : Literal) → HasClash (l ∷ known) → HasClash known ⊎ (opposite l ∈ known)
new_clash known l (x, inl e, inl f) = absurd (never_its_own x (f ∙ sym e))
new_clash known l (x, inl e, inr h) = inr (subst (λ y. opposite y ∈ known) e h)
new_clash known l (x, inr h, inl f) = inr (subst (λ y. y ∈ known) (sym (opposite_twice x) ∙ ap opposite f) h)
new_clash known l (x, inr h, inr k) = inl (x, h, k)

pub uses_from_conflicts : (P : List Clause) (known : List Literal) → Conflicts P known → PropagatesToConflict P known
uses_from_conflicts P known (Clash l h k) = inl (l, h, k)
uses_from_conflicts P known (FalseClause c h f) = inr ([], tt, (c, h, f))
uses_from_conflicts P known (Propagate c l h i u k) =
    ⊎_elim
    (λ w. ⊎_elim inl (λ o. inr ([], tt, (c, h, was_false known c l u o))) (new_clash known l w))
    (λ r. inr (record { clause = c; left = l } ∷ r.0, (h, i, u, r.1), r.2))
    (uses_from_conflicts P (l ∷ known) k)
