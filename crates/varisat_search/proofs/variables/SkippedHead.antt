-- The queue's head goes past a literal that no kept clause names.
use Rattle.std.proofs.Common.{◌≡◌, ◌≢◌, ℕ, ◌+◌, ◌<◌, ◌≤◌, Some, [], inl, inr, ⊎_elim, refl, sym, ap, ◌∙◌, subst, arith}
use Rattle.std.specs.List.{slice_get}
use Rattle.std.proofs.lemmas.Bool.{cases_lt}
use Rattle.std.proofs.lemmas.Option.{slice_get_within, get_or_from_slice_get}
use Rattle.varisat_theory.specs.promises.Membership.{◌∈◌}
use Rattle.varisat_theory.specs.promises.Literals.{Literal, Clause, variable_of, opposite}
use Rattle.varisat_theory.proofs.clauses.Places.{∈-get_or}
use Rattle.varisat_prop.specs.View.{View, clause_at, literal_at, implied_by, kept, WellFormed}
use Rattle.varisat_prop.specs.Watches.{Watches, literal_in, WatchesHoldTo, IsImpliedTo, IsPropagated}
use Rattle.varisat_prop.proofs.pairs.KeptPairs.{implied-kept}
use Rattle.varisat_theory.proofs.clauses.Values.{variable-opposite}
use Rattle.varisat_prop.proofs.views.WellFormedChanges.{kept-here, well-moved}
use Rattle.varisat_prop.proofs.views.SimplifiedView.{settled-undecided}
use Rattle.varisat_search.specs.declared.context.Context.{Context}
use Rattle.varisat_search.specs.Contexts.{view, IsReady}

module _ (s : View) (l : Literal) (w : WellFormed s) (here : slice_get s.trail s.queue_head ≡ Some l)
    (unmentioned : (c : Clause) → c ∈ kept s → (m : Literal) → m ∈ c → variable_of m ≢ variable_of l) where
  abbrev pub skipped : View
  skipped = record s { queue_head = s.queue_head + 1 }

  at-head : (p : ℕ) → p < s.queue_head + 1 → s.queue_head ≤ p → literal_at s p ≡ l
  at-head p a b = let e : p ≡ s.queue_head = omega (arith, a, b) in ap (λ k. literal_at s k) e ∙ get_or_from_slice_get s.trail s.queue_head l 0 here

  skipped-settled : WatchesHoldTo s s.queue_head → WatchesHoldTo skipped (s.queue_head + 1)
  skipped-settled q i j p a b h e =
      ⊎_elim
      (λ g. q i j p a b g e)
      (λ g.
      let c = clause_at s i in
      let k = kept-here s i a in
      let long = w.several c k in
      absurd (unmentioned c k (literal_in c j) (∈-get_or c j 0 (omega (arith, b, long)))
      (sym (variable-opposite (literal_in c j)) ∙ ap variable_of (sym e ∙ at-head p h g))))
      (cases_lt p s.queue_head)

  skipped-implied : IsImpliedTo s s.queue_head → IsImpliedTo skipped (s.queue_head + 1)
  skipped-implied q m p h i =
      ⊎_elim
      (λ g. q m p g i)
      (λ g.
      let (c, k, e) = implied-kept s w l m (subst (λ x. m ∈ implied_by s x) (at-head p h g) i) in
      absurd (unmentioned c k (opposite l) (e.1 (opposite l) (inr (inl refl))) (variable-opposite l)))
      (cases_lt p s.queue_head)

  pub skipped-propagated : (W : Watches) → IsPropagated W s → IsPropagated W skipped
  skipped-propagated W p = record {
    lists = p.lists;
    watching = p.watching;
    empty = p.empty;
    settled = skipped-settled p.settled;
    binary = p.binary;
    implied = skipped-implied p.implied;
    queue = λ j h. let a = p.queue j h in omega (arith, a);
  }

  pub skipped-well : WellFormed skipped
  skipped-well = well-moved s (s.queue_head + 1) w (let a = slice_get_within s.trail s.queue_head l here in omega (arith, a))

-- the context with its queue's head one further
abbrev pub with_next_head : {A : Type 0} → Context A → Context A
with_next_head x = record x { trail = record x.trail { queue_head = x.trail.queue_head + 1 } }

pub skipped-ready : {A : Type 0} (x : Context A) (l : Literal) → IsReady x → x.trail.decisions ≡ [] →
    slice_get x.trail.literals x.trail.queue_head ≡ Some l →
    ((c : Clause) → c ∈ kept (view x) → (m : Literal) → m ∈ c → variable_of m ≢ variable_of l) → IsReady (with_next_head x)
skipped-ready x l r none here u = record {
  well = skipped-well (view x) l r.well here u;
  settled = settled-undecided (view (with_next_head x)) none;
  propagated = skipped-propagated (view x) l r.well here u x.watchlists r.propagated;
  tracks = r.tracks;
  analysis = r.analysis;
  flags = r.flags;
  decidable = record {
    entries = record { activity = r.decidable.entries.activity; available = r.decidable.entries.available };
    decidable =
        r.decidable.decidable;
  };
  assumed = record {
    reached = r.assumed.reached;
    listed = r.assumed.listed;
    decided = r.assumed.decided;
    first = r.assumed.first;
    in_range =
        r.assumed.in_range;
  };
  assumable = r.assumable;
}
