-- Phases that are heeded, one variable after the other.
use Rattle.std.proofs.Common.{◌≡◌, ◌≢◌, ℕ, suc, ◌+◌, ◌<◌, ◌≤◌, Bool, true, false, Option, Some, None, List, [], length, get_or, set, ◌⊎◌, inl, inr, ⊎_elim, sym, ap, ap₂, ◌∙◌, subst, refl, arith}
use Rattle.std.proofs.lemmas.List.{get_or-set_same, get_or-set_other, set-set, set-get_or}
use Rattle.std.proofs.lemmas.Bool.{cases_lt}
use Rattle.varisat_theory.specs.promises.Literals.{Literal, variable_of, literal_of}
use Rattle.varisat_theory.proofs.clauses.Members.{equal_or_not}
use Rattle.varisat_theory.proofs.clauses.Values.{variable-literal}
use Rattle.varisat_literals.specs.promises.Numbers.{polarity_of}
use Rattle.varisat_names.specs.promises.Maps.{updated, onward, chain}
use Rattle.varisat_names.specs.promises.VarMap.{at}
use Rattle.varisat_names.specs.promises.Variables.{Tables}
use Rattle.varisat_names.proofs.Maps.{updated-at, updated-other}
use Rattle.varisat_names.proofs.VarMap.{at-past}
use Rattle.varisat_prop.specs.Parts.{Values}
use Rattle.varisat_prop.proofs.trails.LiteralValues.{polarity-literal}
use Rattle.varisat_solver.specs.inside.Phases.{phase_of, phase_at, last_by, last_of, RemembersAt, RemembersPhases}

-- A value that is given and taken back leaves the list as it was.
pub given-back : {X : Type 0} (xs : List X) (v : ℕ) (x y : X) → get_or xs v y ≡ y → set (set xs v x) v y ≡ xs
given-back {X = X} xs v x y e = set-set xs v x y ∙ ap (λ (z : X). set xs v z) (sym e) ∙ set-get_or xs v y

-- what was last the value, where it is set at one place
pub last-set : (old new : Values) (v : ℕ) (b : Bool) → v < length old.last → new ≡ record old { last = set old.last v b } →
    (w : ℕ) → last_of new w ≡ updated (last_of old) v b w
last-set old new v b h e w =
    ap (λ (x : Values). last_of x w) e ∙ ⊎_elim
    (λ q. here w q)
    (λ n. get_or-set_other old.last v w b false n ∙ sym (updated-other (last_of old) v b w n))
    (equal_or_not w v)
  where
    here : (w : ℕ) → w ≡ v → get_or (set old.last v b) w false ≡ updated (last_of old) v b w
    here w q = subst (λ u. get_or (set old.last v b) u false ≡ updated (last_of old) v b u) (sym q)
        (get_or-set_same old.last v b false h ∙ sym (updated-at (last_of old) v b))

-- nothing is set
pub last-kept : (old : Values) (v w : ℕ) → last_of old w ≡ updated (last_of old) v (last_of old v) w
last-kept old v w = ⊎_elim
    (λ q. ap (last_of old) q ∙ sym (updated-at (last_of old) v (last_of old v)) ∙ ap (updated (last_of old) v (last_of old v)) (sym q))
    (λ n. sym (updated-other (last_of old) v (last_of old v) w n))
    (equal_or_not w v)

-- The phase is heeded where a variable without a value has it as its last, and one with a value stays.
pub heeded : (old new : Values) (v : ℕ) (l : Literal) (b : Bool) (phase : Option Bool) → v < length old.current → l ≡ literal_of v b → phase ≡ Some b →
    (get_or old.current (variable_of l) None ≡ None → (length old.last ≡ length old.current)
    × (new ≡ record old { last = set old.last (variable_of l) (polarity_of l) })) →
    (get_or old.current (variable_of l) None ≢ None → new ≡ old) → RemembersAt phase v old new
heeded old new v l b phase h is-l p free taken = go (get_or old.current v None) refl
  where
    var : variable_of l ≡ v
    var = ap variable_of is-l ∙ variable-literal v b

    sign : polarity_of l ≡ b
    sign = ap polarity_of is-l ∙ polarity-literal v b

    go : (o : Option Bool) → get_or old.current v None ≡ o → RemembersAt phase v old new
    go None e =
        let (n, set-l) = free (ap (λ u. get_or old.current u None) var ∙ e) in
        let is = set-l ∙ ap₂ (λ u c. record old { last = set old.last u c }) var sign in
        record {
          current = ap (λ (x : Values). x.current) is;
          last = λ w. last-set old new v b (omega (arith, h, n)) is w
              ∙ ap (λ c. updated (last_of old) v c w) (ap (λ q. last_by None q (last_of old v)) (sym p) ∙ ap (λ q. last_by q phase (last_of old v)) (sym e));
        }
    go (Some x) e =
        let is = taken (λ n. let z : None ≡ Some x = sym n ∙ ap (λ u. get_or old.current u None) var ∙ e in cc) in
        record {
          current = ap (λ (x : Values). x.current) is;
          last = λ w. ap (λ (x : Values). last_of x w) is ∙ last-kept old v w
              ∙ ap (λ c. updated (last_of old) v c w) (ap (λ q. last_by q phase (last_of old v)) (sym e));
        }

-- No phase is set: nothing changes.
pub unheeded : (x : Values) (v : ℕ) (phase : Option Bool) → phase ≡ None → RemembersAt phase v x x
unheeded x v phase p = record { current = refl; last = λ w. last-kept x v w ∙ ap (λ c. updated (last_of x) v c w) (stays (get_or x.current v None) (last_of x v)) }
  where
    stays : (o : Option Bool) (b : Bool) → b ≡ last_by o phase b
    stays None b = ap (λ q. last_by None q b) (sym p)
    stays (Some c) b = refl

-- The variables below i are done, and the others are as before.
pub record HasHeeded (t : Tables) (phases : List (Option Bool)) (i : ℕ) (old now : Values) : Type 0 where
  pub current : now.current ≡ old.current
  pub done : (v : ℕ) → v < i → last_of now v ≡ last_by (get_or old.current v None) (phase_at t phases v) (last_of old v)
  pub rest : (v : ℕ) → i ≤ v → last_of now v ≡ last_of old v

pub heeded-none : (t : Tables) (phases : List (Option Bool)) (old : Values) → HasHeeded t phases 0 old old
heeded-none t phases old = record { current = refl; done = λ v h. absurd (omega (arith, h)); rest = λ v h. refl }

pub heeded-more : (t : Tables) (phases : List (Option Bool)) (i v : ℕ) (old now new : Values) → v ≡ i → HasHeeded t phases i old now →
    RemembersAt (phase_at t phases v) v now new → HasHeeded t phases (i + 1) old new
heeded-more t phases i v old now new q k r = record {
  current = r.current ∙ k.current;
  done = λ w h. ⊎_elim
      (λ e. subst (λ u. last_of new u ≡ last_by (get_or old.current u None) (phase_at t phases u) (last_of old u)) (sym e) here)
      (λ n. r.last w ∙ updated-other (last_of now) v _ w n ∙ k.done w (before w h n))
      (equal_or_not w v);
  rest = λ w h. r.last w ∙ updated-other (last_of now) v _ w (after w h) ∙ k.rest w (omega (arith, h));
}
  where
    before : (w : ℕ) → w < i + 1 → w ≢ v → w < i
    before w h n = ⊎_elim (λ l. l) (λ l. absurd (n (let z : w ≡ i = omega (arith, h, l) in z ∙ sym q))) (cases_lt w i)

    after : (w : ℕ) → i + 1 ≤ w → w ≢ v
    after w h e = absurd (omega (arith, h, e, q))

    here : last_of new v ≡ last_by (get_or old.current v None) (phase_at t phases v) (last_of old v)
    here = r.last v ∙ updated-at (last_of now) v _ ∙ ap (λ (c : List (Option Bool)). last_by (get_or c v None) (phase_at t phases v) (last_of now v)) k.current
        ∙ ap (last_by (get_or old.current v None) (phase_at t phases v)) (k.rest v (omega (arith, q)))

-- A variable that was never taken has no phase.
no-phase : (t : Tables) (phases : List (Option Bool)) (v : ℕ) → length t.solvers.backward ≤ v → phase_at t phases v ≡ None
no-phase t phases v h = ap (λ o. onward (onward o (at t.users.backward)) (phase_of phases)) (at-past t.solvers.backward v h)

stays-last : (o : Option Bool) (b : Bool) → last_by o None b ≡ b
stays-last None b = refl
stays-last (Some c) b = refl

pub heeded-all : (t : Tables) (phases : List (Option Bool)) (i : ℕ) (old new : Values) → length t.solvers.backward ≤ i → HasHeeded t phases i old new →
    RemembersPhases t phases old new
heeded-all t phases i old new h k = record {
  current = k.current;
  last = λ v. ⊎_elim
      (λ l. k.done v l)
      (λ l. k.rest v l ∙ sym (ap (λ p. last_by (get_or old.current v None) p (last_of old v)) (no-phase t phases v (omega (arith, h, l)))
      ∙ stays-last (get_or old.current v None) (last_of old v)))
      (cases_lt v i);
}

-- Where no phase is set nothing changes.
pub heeded-empty : (t : Tables) (phases : List (Option Bool)) (x : Values) → phases ≡ [] → RemembersPhases t phases x x
heeded-empty t phases x e = record {
  current = refl;
  last = λ v. sym (ap (λ p. last_by (get_or x.current v None) p (last_of x v)) (none v) ∙ stays-last (get_or x.current v None) (last_of x v));
}
  where
    by : (o : Option ℕ) → onward o (phase_of phases) ≡ None
    by None = refl
    by (Some u) = ap (λ (ps : List (Option Bool)). phase_of ps u) e

    none : (v : ℕ) → phase_at t phases v ≡ None
    none v = by (chain (at t.solvers.backward) (at t.users.backward) v)
