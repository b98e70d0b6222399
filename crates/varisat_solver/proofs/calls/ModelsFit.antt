-- Models that are returned.
use Rattle.std.proofs.Common.{◌≡◌, ℕ, zero, suc, ◌+◌, ◌<◌, ◌≤◌, Bool, true, false, Option, Some, None, List, [], ◌∷◌, ◌⊎◌, inl, inr, ⊎_elim, sym, ap, ◌∙◌, subst, refl, arith}
use Rattle.varisat_theory.specs.promises.Membership.{◌∈◌}
use Rattle.varisat_theory.specs.promises.Literals.{Literal, Assignment, variable_of, literal_of, value}
use Rattle.varisat_theory.specs.inside.Outcomes.{SearchOutcome}
use Rattle.varisat_theory.specs.inside.Outcomes as outcome
use Rattle.varisat_theory.proofs.journals.Renaming.{map-∈}
use Rattle.varisat_literals.specs.promises.Numbers.{polarity_of}
use Rattle.varisat_theory.proofs.clauses.Values.{variable-literal}
use Rattle.varisat_prop.proofs.trails.LiteralValues.{polarity-literal}
use Rattle.varisat_names.proofs.Maps.{chain-some, chain-none}
use Rattle.varisat_solver.specs.promises.States.{State, Verdict, Unknown, Sat, Unsat, UnsatUnderAssumptions, IsRight}
use Rattle.varisat_solver.specs.promises.Names.{through_names}
use Rattle.varisat_solver.specs.promises.Models.{put_name, list_names, model_of, IsRising, IsCompletable}
use Rattle.varisat_tracer.specs.promises.Carried.{carry}
use Rattle.varisat_solver.specs.inside.Spaces.{Spaces, Carrying, Links, VerdictFits, list_globals}
use Rattle.varisat_solver.proofs.calls.Carried.{value-true, carry-at, carry-sign}

weaken : (u : ℕ) (ls : List Literal) → IsRising (suc u) ls → IsRising u ls
weaken u [] r = tt
weaken u (l ∷ ls) r = (omega (arith, r.0), r.1)

rise-one : (a : Assignment) (o : Option ℕ) (u : ℕ) (rest : List Literal) → IsRising (suc u) rest → IsRising u (put_name u o a rest)
rise-one a None u rest r = weaken u rest r
rise-one a (Some i) u rest r = let e = variable-literal u (a i) in (omega (arith, e), subst (λ x. IsRising (suc x) rest) (sym e) r)

names-rise : (s : State) (a : Assignment) (k u : ℕ) → IsRising u (list_names s.naming a u k)
names-rise s a zero u = tt
names-rise s a (suc k) u = rise-one a (s.naming.names u) u (list_names s.naming a (suc u) k) (names-rise s a k (suc u))

here : (a : Assignment) (o : Option ℕ) (u i : ℕ) (rest : List Literal) → o ≡ Some i → literal_of u (a i) ∈ put_name u o a rest
here a o u i rest e = subst (λ o. literal_of u (a i) ∈ put_name u o a rest) (sym e) (inl refl)

there : (a : Assignment) (o : Option ℕ) (u : ℕ) (l : Literal) (rest : List Literal) → l ∈ rest → l ∈ put_name u o a rest
there a None u l rest h = h
there a (Some i) u l rest h = inr h

names-hold : (s : State) (a : Assignment) (k u v i : ℕ) → s.naming.names v ≡ Some i → u ≤ v → v < u + k → literal_of v (a i) ∈ list_names s.naming a u k
names-hold s a zero u v i e b c = absurd (omega arith)
names-hold s a (suc k) u v i e b c =
    ⊎_elim
    (λ q. subst (λ x. literal_of x (a i) ∈ put_name u (s.naming.names u) a (list_names s.naming a (suc u) k)) (sym q)
    (here a (s.naming.names u) u i (list_names s.naming a (suc u) k) (ap s.naming.names (sym q) ∙ e)))
    (λ q. there a (s.naming.names u) u (literal_of v (a i)) (list_names s.naming a (suc u) k) (names-hold s a k (suc u) v i e q (omega arith)))
    (place v u b)
  where
    place : (v u : ℕ) → u ≤ v → (v ≡ u) ⊎ (suc u ≤ v)
    place v u h = grind arith

which : (a : Assignment) (o : Option ℕ) (u : ℕ) (l : Literal) (rest : List Literal) → l ∈ put_name u o a rest →
    ((i : ℕ) × (o ≡ Some i) × (l ≡ literal_of u (a i))) ⊎ (l ∈ rest)
which a None u l rest h = inr h
which a (Some i) u l rest (inl e) = inl (i, refl, e)
which a (Some i) u l rest (inr h) = inr h

names-are : (s : State) (a : Assignment) (k u : ℕ) (l : Literal) → l ∈ list_names s.naming a u k → (v i : ℕ) × (s.naming.names v ≡ Some i)
    × (l ≡ literal_of v (a i))
names-are s a zero u l h = absurd h
names-are s a (suc k) u l h = ⊎_elim (λ (i, e, q). (u, i, e, q)) (λ m. names-are s a k (suc u) l m)
    (which a (s.naming.names u) u l (list_names s.naming a (suc u) k) h)

-- an assignment that was found is a model that can be completed: of states alone
pub completable : (s : State) (a : Assignment) → ((u : ℕ) → s.naming.watermark ≤ u → s.naming.names u ≡ None) →
    IsRight s.clauses s.assumptions s.counted (Sat a) → IsCompletable s.naming s.clauses s.assumptions s.counted (list_names s.naming a 0 s.naming.watermark)
completable s a free r = record {
  rising = names-rise s a s.naming.watermark 0;
  all_listed = λ u i e. (
    literal_of u (a i),
    names-hold s a s.naming.watermark 0 u i e (omega arith)
        (⊎_elim (λ b. omega (arith, b)) (λ b. absurd (let q : None ≡ Some i = sym (free u b) ∙ e in cc)) (below-or u s.naming.watermark)),
    variable-literal u (a i),
  );
  in_use = λ l h. let (v, i, e, q) = names-are s a s.naming.watermark 0 l h in (i, ap s.naming.names (ap variable_of q ∙ variable-literal v (a i)) ∙ e);
  uncounted = λ l i h k n.
      let (v, j, e, q) = names-are s a s.naming.watermark 0 l h in
      let lv = ap variable_of q ∙ variable-literal v (a j) in
      let z : Some i ≡ Some j = sym k ∙ ap s.naming.names lv ∙ e in
      let ij : i ≡ j = cc in
      q ∙ ap (literal_of v) (ap a (sym ij) ∙ r.2 i n) ∙ ap (λ x. literal_of x false) (sym lv);
  satisfied = (
    a,
    λ l h. let (m, b, z) = map-∈ (through_names s.naming) l (list_names s.naming a 0 s.naming.watermark) h in
        let (v, i, e, q) = names-are s a s.naming.watermark 0 m b in
        let mv = ap variable_of q ∙ variable-literal v (a i) in
        let at = carry-at s.naming.names m i (ap s.naming.names mv ∙ e) in
        subst (λ y. value a y ≡ true) (sym z)
        (value-true a (carry s.naming.names m) (ap a at ∙ sym (polarity-literal v (a i)) ∙ ap polarity_of (sym q) ∙ sym (carry-sign s.naming.names m))),
    r.0,
    r.1,
  );
}
  where
    below-or : (u n : ℕ) → (u < n) ⊎ (n ≤ u)
    below-or u n = grind arith

pub is-sat : (id : ℕ → Option ℕ) (m : ℕ → Bool) (found : Assignment) (v : Verdict) → VerdictFits id m (outcome.Sat found) v → (a : Assignment)
    × (v ≡ Sat a) × ((x i : ℕ) → id x ≡ Some i → a i ≡ m x)
is-sat id m found Unknown f = absurd f
is-sat id m found (Sat a) f = (a, refl, f)
is-sat id m found Unsat f = absurd f
is-sat id m found (UnsatUnderAssumptions core) f = absurd f

pub is-unsat : (id : ℕ → Option ℕ) (m : ℕ → Bool) (v : Verdict) → VerdictFits id m outcome.Unsat v → v ≡ Unsat
is-unsat id m Unknown f = absurd f
is-unsat id m (Sat a) f = absurd f
is-unsat id m Unsat f = refl
is-unsat id m (UnsatUnderAssumptions core) f = absurd f

pub is-unknown : (id : ℕ → Option ℕ) (m : ℕ → Bool) (v : Verdict) → VerdictFits id m outcome.Unknown v → v ≡ Unknown
is-unknown id m Unknown f = refl
is-unknown id m (Sat a) f = absurd f
is-unknown id m Unsat f = absurd f
is-unknown id m (UnsatUnderAssumptions core) f = absurd f

pub is-core : (id : ℕ → Option ℕ) (m : ℕ → Bool) (found : List Literal) (v : Verdict) → VerdictFits id m (outcome.UnsatUnder found) v →
    (core : List Literal) × (v ≡ UnsatUnderAssumptions core)
is-core id m found Unknown f = absurd f
is-core id m found (Sat a) f = absurd f
is-core id m found Unsat f = absurd f
is-core id m found (UnsatUnderAssumptions core) f = (core, refl)

list-same : (w : Carrying) (p : Spaces) (s : State) (a : Assignment) → Links w p s → ((x i : ℕ) → w.identity x ≡ Some i → a i ≡ p.model x) →
    (k u : ℕ) → list_names s.naming a u k ≡ list_globals p u k
list-same w p s a k f zero u = refl
list-same w p s a k f (suc n) u = ap (put_name u (s.naming.names u) a) (list-same w p s a k f n (suc u)) ∙ one (p.global_from_user u) refl
  where
    one : (o : Option ℕ) → p.global_from_user u ≡ o → put_name u (s.naming.names u) a (list_globals p (suc u) n) ≡ put_name u
        (p.global_from_user u) p.model (list_globals p (suc u) n)
    one None e = ap (λ o. put_name u o a (list_globals p (suc u) n)) (k.names.agree u ∙ chain-none p.global_from_user w.identity u e)
        ∙ ap (λ o. put_name u o p.model (list_globals p (suc u) n)) (sym e)
    one (Some x) e =
        let (i, h) = k.names.live u x e in
        ap (λ o. put_name u o a (list_globals p (suc u) n)) (k.names.agree u ∙ chain-some p.global_from_user w.identity u x e ∙ h)
        ∙ ap (λ b. literal_of u b ∷ list_globals p (suc u) n) (f x i h) ∙ ap (λ o. put_name u o p.model (list_globals p (suc u) n)) (sym e)

-- under Sat the list by global variables is the model to return, and it can be completed
pub logged : (w : Carrying) (p : Spaces) (s : State) (found : Assignment) → Links w p s → p.outcome ≡ outcome.Sat found →
    (model_of s.naming s.verdict ≡ Some (list_globals p 0 p.watermark))
    × IsCompletable s.naming s.clauses s.assumptions s.counted (list_globals p 0 p.watermark)
logged w p s found k e =
    let (a, v, f) = is-sat w.identity p.model found s.verdict (subst (λ y. VerdictFits w.identity p.model y s.verdict) e k.verdict) in
    let same : list_names s.naming a 0 s.naming.watermark ≡ list_globals p 0 p.watermark = list-same w p s a k f s.naming.watermark 0
    ∙ ap (list_globals p 0) k.watermark in (
      ap (model_of s.naming) v ∙ ap Some same,
      subst (IsCompletable s.naming s.clauses s.assumptions s.counted) same
          (completable s a k.well_formed.free (subst (IsRight s.clauses s.assumptions s.counted) v k.right)),
    )
