-- Taking variables out until one has no value.
use Rattle.std.proofs.Common.{◌≡◌, ◌≢◌, ℕ, zero, suc, ◌<◌, Bool, true, false, Option, Some, None, List, [], ◌∷◌, length, get_or, inl, inr, ⊎_elim, refl, sym, ap, ◌∙◌, arith, get_or-set_same, get_or-set_other, length-set}
use Rattle.varisat_theory.proofs.clauses.Members.{equal_or_not}
use Rattle.varisat_vsids.specs.Activities.{Activities, activity_of, is_available, with_available, IsGreatest}
use Rattle.varisat_search.specs.Decisions.{TakesUnassigned}

-- only variables with a value were made unavailable so far
pub record Taking (values : List (Option Bool)) (a now : Activities) : Type 0 where
  pub rest : now ≡ record a { available = now.available }
  pub count : length now.available ≡ length a.available
  pub fewer : (v : ℕ) → is_available now v ≡ true → is_available a v ≡ true
  pub open_stays : (v : ℕ) → is_available a v ≡ true → get_or values v None ≡ None → is_available now v ≡ true

pub taking-start : (values : List (Option Bool)) (a : Activities) → Taking values a a
taking-start values a = record { rest = refl; count = refl; fewer = λ v h. h; open_stays = λ v h e. h }

flagged-inside : (xs : List Bool) (v : ℕ) → get_or xs v false ≡ true → v < length xs
flagged-inside [] v e = let z : false ≡ true = e in absurd cc
flagged-inside (x ∷ xs) zero e = omega arith
flagged-inside (x ∷ xs) (suc v) e = let h = flagged-inside xs v e in omega (arith, h)

module _ (values : List (Option Bool)) (a now : Activities) (v : ℕ) (t : Taking values a now) (g : IsGreatest now v) where
  abbrev next : Activities
  next = with_available v false now

  gone : is_available next v ≡ false
  gone = get_or-set_same now.available v false false (flagged-inside now.available v g.available)

  before : (w : ℕ) → is_available next w ≡ true → is_available a w ≡ true
  before w e =
      ⊎_elim
      (λ i. let z : true ≡ false = sym e ∙ ap (is_available next) i ∙ gone in absurd cc)
      (λ o. t.fewer w (sym (get_or-set_other now.available v w false false o) ∙ e))
      (equal_or_not w v)

  still : (w : ℕ) → (w ≡ v → ⊥) → is_available now w ≡ true → is_available next w ≡ true
  still w o e = get_or-set_other now.available v w false false o ∙ e

  next-rest : next ≡ record a { available = next.available }
  next-rest = ap (λ (x : Activities). with_available v false x) t.rest

  next-count : length next.available ≡ length a.available
  next-count = length-set now.available v false ∙ t.count

  pub taking-on : get_or values v None ≢ None → Taking values a next
  taking-on n = record {
    rest = next-rest;
    count = next-count;
    fewer = before;
    open_stays = λ w h e. still w (λ i. n (ap (λ x. get_or values x None) (sym i) ∙ e)) (t.open_stays w h e);
  }

  pub taking-found : get_or values v None ≡ None → TakesUnassigned values a next (Some v)
  taking-found n =
      let activity : (w : ℕ) → activity_of now w ≡ activity_of a w = λ w. ap (λ (x : Activities). activity_of x w) t.rest in
      record {
        rest = next-rest;
        count = next-count;
        fewer = before;
        open_stays = λ w h e. ⊎_elim (λ i. inl (ap Some (sym i))) (λ o. inr (still w o (t.open_stays w h e))) (equal_or_not w v);
        found = record {
          known = let k = g.known in let e = ap (λ (x : Activities). length x.activity) t.rest in omega (arith, k, e);
          unassigned = n;
          available = t.fewer v g.available;
          greatest = λ w h e. let x = g.greatest w (t.open_stays w h e) in let y = activity w in let z = activity v in omega (arith, x, y, z);
        };
      }

pub taking-none : (values : List (Option Bool)) (a now : Activities) → Taking values a now → ((v : ℕ) → is_available now v ≡ false) →
    TakesUnassigned values a now None
taking-none values a now t n = record {
  rest = t.rest;
  count = t.count;
  fewer = t.fewer;
  open_stays = λ v h e. inr (t.open_stays v h e);
  found = λ v h e. let x = t.open_stays v h e in let z : true ≡ false = sym x ∙ n v in cc;
}
