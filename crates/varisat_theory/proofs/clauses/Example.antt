-- The laws of analysis on a small conflict.
use Rattle.std.proofs.Common.{◌≡◌, ◌≢◌, ◌<◌, true, nat_eq, [], ◌∷◌, ◌⊎◌, inl, inr, ⊎_elim, sym, ap, ◌∙◌, subst, refl, arith}
use Rattle.std.proofs.lemmas.Bool.{eqb-true, or_cases}
use Rattle.varisat_theory.specs.promises.Membership.{◌∈◌}
use Rattle.varisat_theory.specs.promises.Literals.{Literal, opposite, opposites}
use Rattle.varisat_theory.specs.promises.Propagation.{Conflicts, Follows}
use Rattle.varisat_theory.specs.promises.Analysis.{Implied, AtStart, InReason, HasEarlierReasons, EndsIn}
use Rattle.varisat_theory.specs.inside.Example.{small_clauses, small_conflict, small_reason, small_resolved, small_learned, small_assumption, small_core}
use Rattle.varisat_theory.proofs.clauses.Values.{opposite_twice}
use Rattle.varisat_theory.proofs.clauses.Learning.{learned_follows, core_conflicts}

back : (l m : Literal) → opposite l ≡ m → l ≡ opposite m
back l m e = sym (opposite_twice l) ∙ ap opposite e

-- what is said of a resolved literal's reason
abbrev IsEarlier : Literal → Type 0
IsEarlier x = (small_reason x ∈ small_clauses) × (x ∈ small_reason x) × ((m : Literal) → m ∈ small_reason x → m ≢ x → opposite m < x)

-- the literal beside another in a clause of two
beside : (y x m : Literal) → opposite y < x → m ∈ (y ∷ x ∷ []) → m ≢ x → opposite m < x
beside y x m h (inl e) n = subst (λ z. opposite z < x) (sym e) h
beside y x m h (inr (inl e)) n = absurd (n e)
beside y x m h (inr (inr z)) n = absurd z

at_two : IsEarlier 2
unfolding opposite
at_two = (inl refl, inr (inl refl), λ m h n. beside 1 2 m (omega arith) h n)

at_four : IsEarlier 6
unfolding opposite
at_four = (inr (inl refl), inr (inl refl), λ m h n. beside 5 6 m (omega arith) h n)

at_five : IsEarlier 8
unfolding opposite
at_five = (inr (inr (inl refl)), inr (inr (inl refl)), below)
  where
    below : (m : Literal) → m ∈ (3 ∷ 7 ∷ 8 ∷ []) → m ≢ 8 → opposite m < 8
    below m (inl e) n = omega (arith, e)
    below m (inr (inl e)) n = omega (arith, e)
    below m (inr (inr (inl e))) n = absurd (n e)
    below m (inr (inr (inr z))) n = absurd z

two_or_five : (k : Literal) → small_resolved k ≡ true → (k ≡ 2) ⊎ (k ≡ 8)
two_or_five k h = ⊎_elim (λ a. inl (eqb-true k 2 a)) (λ a. inr (eqb-true k 8 a)) (or_cases (nat_eq k 2) (nat_eq k 8) h)

pub learned_earlier : HasEarlierReasons small_clauses small_reason (λ k. small_resolved k ≡ true) (λ l. l)
learned_earlier k h = ⊎_elim (λ e. subst IsEarlier (sym e) at_two) (λ e. subst IsEarlier (sym e) at_five) (two_or_five k h)

-- a literal of the learned clause is false, or the literal is resolved
abbrev IsEnd : Literal → Type 0
IsEnd l = (l ∈ opposites small_learned) ⊎ ((small_resolved l ≡ true) ⊎ Implied small_clauses [] l)

end_one : IsEnd 0
unfolding opposite
end_one = inl (inr (inl refl))

end_four : IsEnd 6
unfolding opposite
end_four = inl (inl refl)

pub learned_ends : EndsIn small_clauses small_conflict small_reason (λ k. small_resolved k ≡ true) (opposites small_learned)
unfolding opposite
learned_ends l (AtStart h) = start h
  where
    start : opposite l ∈ small_conflict → IsEnd l
    start (inl e) = subst IsEnd (sym (back l 1 e)) end_one
    start (inr (inl e)) = subst IsEnd (sym (back l 7 e)) end_four
    start (inr (inr (inl e))) = subst IsEnd (sym (back l 9 e)) (inr (inl refl))
    start (inr (inr (inr z))) = absurd z
learned_ends l (InReason k r s o n) =
    ⊎_elim
    (λ e. in_two (subst (λ y. opposite l ∈ small_reason y) e o) (subst (λ y. opposite l ≢ y) e n))
    (λ e. in_five (subst (λ y. opposite l ∈ small_reason y) e o) (subst (λ y. opposite l ≢ y) e n))
    (two_or_five k s)
  where
    in_two : opposite l ∈ (1 ∷ 2 ∷ []) → opposite l ≢ 2 → IsEnd l
    in_two (inl e) d = subst IsEnd (sym (back l 1 e)) end_one
    in_two (inr (inl e)) d = absurd (d e)
    in_two (inr (inr z)) d = absurd z

    in_five : opposite l ∈ (3 ∷ 7 ∷ 8 ∷ []) → opposite l ≢ 8 → IsEnd l
    in_five (inl e) d = subst IsEnd (sym (back l 3 e)) (inr (inl refl))
    in_five (inr (inl e)) d = subst IsEnd (sym (back l 7 e)) end_four
    in_five (inr (inr (inl e))) d = absurd (d e)
    in_five (inr (inr (inr z))) d = absurd z

pub conflict_held : small_conflict ∈ small_clauses
conflict_held = inr (inr (inr (inl refl)))

pub learned_there : Follows small_clauses small_learned
learned_there = learned_follows small_clauses small_conflict small_reason (λ k. small_resolved k ≡ true)
    (λ l. l) small_learned learned_earlier learned_ends conflict_held

pub core_earlier : HasEarlierReasons small_clauses small_reason (λ k. nat_eq k 6 ≡ true) (λ l. l)
core_earlier k h = subst IsEarlier (sym (eqb-true k 6 h)) at_four

pub core_ends : EndsIn small_clauses (small_assumption ∷ []) small_reason (λ k. nat_eq k 6 ≡ true) small_core
unfolding opposite
core_ends l (AtStart h) = start h
  where
    start : opposite l ∈ (small_assumption ∷ []) → (l ∈ small_core) ⊎ ((nat_eq l 6 ≡ true) ⊎ Implied small_clauses [] l)
    start (inl e) = inr (inl (subst (λ y. nat_eq y 6 ≡ true) (sym (back l 7 e)) refl))
    start (inr z) = absurd z
core_ends l (InReason k r s o n) = in_four (subst (λ y. opposite l ∈ small_reason y) (eqb-true k 6 s) o) (subst (λ y. opposite l ≢ y) (eqb-true k 6 s) n)
  where
    in_four : opposite l ∈ (5 ∷ 6 ∷ []) → opposite l ≢ 6 → (l ∈ small_core) ⊎ ((nat_eq l 6 ≡ true) ⊎ Implied small_clauses [] l)
    in_four (inl e) d = inl (inr (inl (back l 5 e)))
    in_four (inr (inl e)) d = absurd (d e)
    in_four (inr (inr z)) d = absurd z

pub core_there : Conflicts small_clauses small_core
core_there = core_conflicts small_clauses (small_assumption ∷ []) small_reason (λ k. nat_eq k 6 ≡ true) (λ l. l) small_core small_assumption refl
    (inl refl) core_earlier core_ends
