-- Names that come into use, and hidden variables that come back one after the other.
use Rattle.std.proofs.Common.{◌≡◌, ℕ, ◌+◌, ◌-◌, ◌<◌, ◌≤◌, true, false, Option, Some, None, Result, Ok, Err, OnErr, List, [], ◌∷◌, ◌++◌, ⊎_elim, length, sym, ap, ◌∙◌, subst, refl, arith}
use Rattle.std.proofs.lemmas.Bool.{cases_lt}
use Rattle.varisat_theory.proofs.clauses.Members.{equal_or_not}
use Rattle.varisat_names.specs.promises.VarMap.{at, IsLeastUnmapped}
use Rattle.varisat_names.specs.promises.VarData.{data_at}
use Rattle.varisat_names.specs.promises.Variables.{Tables, IsNamed, InUse, Free, Above, IsShown}
use Rattle.varisat_names.specs.declared.variables.data.VarData.{VarData}
use Rattle.varisat_names.specs.declared.variables.data.SamplingMode.TheVariants as sampling
use Rattle.varisat_names.proofs.Maps.{updated-at, updated-other}
use Rattle.varisat_names.proofs.VarMap.{at-past}
use Rattle.varisat_names.proofs.Tables.{live-inside, kept-past, named-in-use}
use Rattle.varisat_names.specs.inside.NamesAndModes.{AreShownInTurn, ShowsAllHidden, ShowsOne, Passed, Shown}

-- a name that was named is in use
pub named-here : (u : ℕ) (old new : Tables) → IsNamed u old new → (x : ℕ) × (at new.users.forward u ≡ Some x)
named-here u old new (InUse x e q) = (x, ap (λ t. at t.users.forward u) q ∙ e)
named-here u old new (Free x b e g) = (x, g.users.forward.at_each u ∙ updated-at (at old.users.forward) u (Some x))
named-here u old new (Above b r) = named-in-use (u + 1 - length old.users.forward) old new u r b (omega (arith, b))

-- the least free name is not above the watermark
pub unmapped-near : (map : List (Option ℕ)) (u : ℕ) → IsLeastUnmapped map u → u ≤ length map
unmapped-near map u l = ⊎_elim (λ h. absurd (l.1 (length map) h (at-past map (length map) (omega arith)))) (λ h. h) (cases_lt (length map) u)

-- there is one least free name
pub unmapped-same : (map : List (Option ℕ)) (u v : ℕ) → IsLeastUnmapped map u → IsLeastUnmapped map v → u ≡ v
unmapped-same map u v a b =
    ⊎_elim
    (λ h. absurd (b.1 u h a.0))
    (λ h. ⊎_elim (λ i. absurd (a.1 v i b.0)) (λ i. let z : u ≡ v = omega (arith, h, i) in z) (cases_lt v u))
    (cases_lt u v)

pub shown-more : (us : List ℕ) (old mid new : Tables) (x u : ℕ) → AreShownInTurn us old mid → (data_at mid.kept x).deleted ≡ false →
    at mid.users.backward x ≡ None → IsShown mid new x sampling.Witness u → AreShownInTurn (us ++ u ∷ []) old new
shown-more [] old mid new x u e live unnamed n =
    subst (λ t. AreShownInTurn (u ∷ []) t new) e (new, x, live, unnamed, n, refl)
shown-more (v ∷ us) old mid new x u (t, y, a, b, s, rest) live unnamed n = (t, y, a, b, s, shown-more us t mid new x u rest live unnamed n)

pub shown-then : (us vs : List ℕ) (old mid new : Tables) → AreShownInTurn us old mid → AreShownInTurn vs mid new → AreShownInTurn (us ++ vs) old new
shown-then [] vs old mid new e b = subst (λ t. AreShownInTurn vs t new) e b
shown-then (u ∷ us) vs old mid new (t, y, live, unnamed, s, rest) b = (t, y, live, unnamed, s, shown-then us vs t mid new rest b)

-- some came back, and then one more may be back
pub shown-refused : {T E : Type 0} (r : Result T E) (us : List ℕ) (old mid new : Tables) → AreShownInTurn us old mid → (vs : List ℕ)
    × AreShownInTurn vs mid new → OnErr r ((ws : List ℕ) × AreShownInTurn ws old new)
shown-refused (Ok x) us old mid new a b = tt
shown-refused (Err e) us old mid new a (vs, b) = (us ++ vs, shown-then us vs old mid new a b)

-- The hidden variables below n came back under these names, and no other.
pub record ShowsBelow (n : ℕ) (us : List ℕ) (old new : Tables) : Type 0 where
  pub in_turn : AreShownInTurn us old new
  pub rest : (x : ℕ) → x < n → at new.users.backward x ≡ None → (data_at new.kept x).deleted ≡ true
  pub count : length new.kept ≡ length old.kept
  pub near : length new.users.forward ≤ length old.users.forward + n

pub none-below : (t : Tables) → ShowsBelow 0 [] t t
none-below t = record { in_turn = refl; rest = λ x h. absurd (omega (arith, h)); count = refl; near = omega arith }

pub one-more-below : (x : ℕ) (us vs : List ℕ) (old mid new : Tables) → ShowsBelow x us old mid → ShowsOne x us vs mid new → ShowsBelow (x + 1) vs old new
one-more-below x us vs old mid new s (Passed r same e) =
    let near = s.near in
    subst (λ t. ShowsBelow (x + 1) vs old t) (sym same) (subst (λ ws. ShowsBelow (x + 1) ws old mid) (sym e) (record {
      in_turn = s.in_turn;
      rest = λ y h. ⊎_elim (λ q. subst (λ z. at mid.users.backward z ≡ None → (data_at mid.kept z).deleted ≡ true) (sym q) r)
          (λ n. s.rest y (omega (arith, h, n))) (equal_or_not y x);
      count = s.count;
      near = omega (arith, near);
    }))
one-more-below x us vs old mid new s (Shown u live unnamed n e) =
    let d : VarData = record (data_at mid.kept x) { sampling_mode = sampling.Witness } in
    let inside = live-inside mid.kept x live in
    let c = n.kept.count in
    let w = n.users.forward.watermark in
    let least = unmapped-near mid.users.forward u n.least in
    let near = s.near in
    let count = s.count in
    subst (λ ws. ShowsBelow (x + 1) ws old new) (sym e) (record {
      in_turn = shown-more us old mid new x u s.in_turn live unnamed n;
      rest = λ y h f. ⊎_elim
          (λ q. let z : None ≡ Some u = sym f ∙ ap (at new.users.backward) q ∙ n.users.backward.at_each x
          ∙ updated-at (at mid.users.backward) x (Some u) in absurd cc)
          (λ m. ap (λ d. d.deleted) (n.kept.at_each y ∙ updated-other (data_at mid.kept) x d y m)
          ∙ s.rest y (omega (arith, h, m)) (sym (n.users.backward.at_each y ∙ updated-other (at mid.users.backward) x (Some u) y m) ∙ f))
          (equal_or_not y x);
      count = omega (arith, c, inside, count);
      near = omega (arith, w, least, near);
    })

-- the hidden variables below the count are all
pub all-below : (us : List ℕ) (old new : Tables) → ShowsBelow (length old.kept) us old new → ShowsAllHidden us old new
all-below us old new s = record {
  in_turn = s.in_turn;
  all = λ x e. ⊎_elim (λ h. s.rest x h e) (λ h. let c = s.count in kept-past new.kept x (omega (arith, h, c))) (cases_lt x (length old.kept));
}
