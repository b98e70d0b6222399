-- How a problem moves on that is brought down to what is asked for below a ceiling.
use Rattle.std.proofs.Common.{◌≡◌, ℕ, ◌+◌, ◌*◌, ◌≤◌, Bool, true, false, List, [], ◌∷◌, ◌++◌, take, sym, ap, ◌∙◌, subst, arith}
use Rattle.varisat_theory.specs.promises.Membership.{◌∈◌}
use Rattle.varisat_theory.specs.promises.Literals.{Literal, Clause, Assignment, opposite, SatisfiesAll, MakesTrue, IsSatisfiable}
use Rattle.varisat_client.specs.promises.Pasts.{ClientPast, IsFoundModel, count}
use Rattle.varisat_client.specs.inside.Clients.{Client}
use Rattle.varisat_formula.specs.promises.Values.{assignment_of}
use Rattle.varisat_maxsat.specs.promises.Problems.{Problem, cost, IsSolution, IsOptimum}
use Rattle.varisat_maxsat.specs.inside.Charges.{ClausesAreBelow, Reduces, ReducesBelow, Divides, Exchanges, CountsCharge, AreValues}
use Rattle.varisat_maxsat.specs.inside.Reductions.{IsReady, Finds, FindsModel, FindsCore, FindsLightly, FindsSolution, Reduction, ReducesTo, ReducesToAfter, ReducesToBelow, DecidesHard, IsImproved}
use Rattle.varisat_maxsat.specs.declared.charge.Charge.{Charge}
use Rattle.varisat_maxsat.specs.declared.counter.Counter.{Counter}
use Rattle.varisat_maxsat.proofs.Counting.{counting-begins, counter-made, charge-counted, within-given, adds-given, past-given, ceiling-lower, none-below, bound-meets, exchanged}
use Rattle.varisat_maxsat.proofs.Standing.{Gives}
use Rattle.varisat_maxsat.proofs.Ending.{unsatisfiable, solution-of}

pub exchange-step : (p : Problem) (r : Reduction) (j k : ℕ) (ds : List Charge) → Exchanges r.charges j ds → k ≡ r.bound + j → ReducesTo p r →
    ReducesTo p (record r { charges = ds; bound = k })
exchange-step p r j k ds x e st = record {
  past = st.past;
  ready = st.ready;
  variables = st.variables;
  reduces = subst (λ n. Reduces p.hard p.soft p.variables r.named st.past.clauses ds [] 0 n) (sym e) (exchanged j ds x st.reduces);
}

pub begin-step : (p : Problem) (r : Reduction) (parts rest : List Charge) (ks : List Counter) (u : ℕ) → Divides r.charges [] parts rest → ks ≡ [] → ReducesTo p r →
    ReducesToBelow p (record r { charges = parts; counters = ks; ceiling = u })
begin-step p r parts rest ks u d e st = subst (λ x. ReducesToBelow p (record r { charges = parts; counters = x; ceiling = u })) (sym e) (record {
  past = st.past;
  ready = st.ready;
  variables = st.variables;
  reduces = counting-begins parts rest u d st.reduces;
})

pub ceiling-step : (p : Problem) (r : Reduction) (v : ℕ) → v ≤ r.ceiling → ReducesToBelow p r → ReducesToBelow p (record r { ceiling = v })
ceiling-step p r v l st = record {
  past = st.past;
  ready = st.ready;
  variables = st.variables;
  reduces = ceiling-lower v l st.reduces;
}

pub charge-step : (p : Problem) (r : Reduction) (ks : List Counter) (k : Counter) → CountsCharge r.charges k → ks ≡ r.counters ++ k ∷ [] → ReducesToBelow p r →
    ReducesToBelow p (record r { counters = ks })
charge-step p r ks k c e st =
    subst (λ x. ReducesToBelow p (record r { counters = x })) (sym (e ∙ ap (λ x. r.counters ++ x ∷ []) c.same)) (record {
      past = st.past;
      ready = st.ready;
      variables = st.variables;
      reduces = charge-counted c.charge k.first c.room c.is c.weight st.reduces;
    })

pub fresh-step : (p : Problem) (r u : Reduction) (ks : List Counter) (l : Literal) (at f e : ℕ) → u ≡ record r { named = r.named + 1 } → l ≡ 2 * r.named →
    ks ≡ u.counters ++ record { literal = l; at_least = at; first = f; end = e } ∷ [] → ReducesToBelow p r → ReducesToBelow p (record u { counters = ks })
fresh-step p r u ks l at f e q o z st =
    subst (ReducesToBelow p) (sym (ap (λ (x : Reduction). record x { counters = ks }) q ∙ ap (λ x. record r { named = r.named + 1; counters = x }) whole)) (record {
      past = st.past;
      ready = st.ready;
      variables = st.variables;
      reduces = counter-made at f e st.reduces;
    })
  where
    whole : ks ≡ r.counters ++ record { literal = 2 * r.named; at_least = at; first = f; end = e } ∷ []
    whole = z ∙ ap (λ (x : Reduction). x.counters ++ record { literal = l; at_least = at; first = f; end = e } ∷ []) q
        ∙ ap (λ (x : Literal). r.counters ++ record { literal = x; at_least = at; first = f; end = e } ∷ []) o

pub within-step : (p : Problem) (r : Reduction) (h : Client) (x y : Counter) (nx : Literal) → x ∈ r.counters → y ∈ r.counters →
    y.first ≤ x.first → x.end ≤ y.end → y.at_least ≤ x.at_least → nx ≡ opposite x.literal → Gives (nx ∷ y.literal ∷ []) r.client h → ReducesToBelow p r →
    ReducesToBelow p (record r { client = h })
within-step p r h x y nx i j f e l o gives st = record {
  past = record (count (opposite x.literal ∷ y.literal ∷ []) st.past) { clauses = st.past.clauses ++ (opposite x.literal ∷ y.literal ∷ []) ∷ [] };
  ready = subst (λ z. Gives (z ∷ y.literal ∷ []) r.client h) o gives st.past st.ready;
  variables = st.variables;
  reduces = within-given x y i j f e l st.reduces;
}

pub adds-step : (p : Problem) (r : Reduction) (h : Client) (x y z : Counter) (nx ny : Literal) → x ∈ r.counters → y ∈ r.counters → z ∈ r.counters →
    z.first ≡ x.first → x.end ≡ y.first → y.end ≡ z.end → z.at_least ≤ x.at_least + y.at_least → nx ≡ opposite x.literal → ny ≡ opposite y.literal →
    Gives (nx ∷ ny ∷ z.literal ∷ []) r.client h → ReducesToBelow p r → ReducesToBelow p (record r { client = h })
adds-step p r h x y z nx ny i j k f g e l o q gives st = record {
  past = record (count (opposite x.literal ∷ opposite y.literal ∷ z.literal ∷ []) st.past) {
    clauses = st.past.clauses ++ (opposite x.literal ∷ opposite y.literal ∷ z.literal ∷ []) ∷ [];
  };
  ready = subst (λ v. Gives (opposite x.literal ∷ v ∷ z.literal ∷ []) r.client h) q (subst (λ v. Gives (v ∷ ny ∷ z.literal ∷ []) r.client h) o gives) st.past st.ready;
  variables = st.variables;
  reduces = adds-given x y z i j k f g e l st.reduces;
}

pub past-step : (p : Problem) (r : Reduction) (h : Client) (x : Counter) (nx : Literal) → x ∈ r.counters → r.ceiling ≤ r.bound + x.at_least →
    nx ≡ opposite x.literal → Gives (nx ∷ []) r.client h → ReducesToBelow p r → ReducesToBelow p (record r { client = h })
past-step p r h x nx i l o gives st = record {
  past = record (count (opposite x.literal ∷ []) st.past) { clauses = st.past.clauses ++ (opposite x.literal ∷ []) ∷ [] };
  ready = subst (λ z. Gives (z ∷ []) r.client h) o gives st.past st.ready;
  variables = st.variables;
  reduces = past-given x i l st.reduces;
}

-- no assignment satisfies clauses that failed with nothing assumed
pub nothing-satisfies : (P : List Clause) (h : Client) → FindsCore 0 [] P h → (a : Assignment) → SatisfiesAll a P → ⊥
nothing-satisfies P h f a s = f.failed.1 (a, s, λ x i. let (d, j, e) = f.from.from x (f.failed.0 x i) in absurd j)

-- a model of the clauses
pub model-found : (p : Problem) (r : Reduction) (t : ℕ) (cs : List Charge) (P : List Clause) → FindsModel t cs P r.client → r.variables ≡ p.variables →
    p.variables ≤ r.named → ClausesAreBelow p.variables p.hard → ClausesAreBelow r.named P → ((a : Assignment) → SatisfiesAll a P → SatisfiesAll a p.hard) →
    FindsSolution p r
model-found p r t cs P f v named hard below upper = record {
  past = f.past;
  ready = f.ready;
  assumed = f.assumed;
  found = subst (λ Q. IsFoundModel Q f.assumed f.past.counted f.past.model) (sym f.clauses) f.found;
  variables = v;
  named = named;
  hard_below = hard;
  clauses_below = subst (ClausesAreBelow r.named) (sym f.clauses) below;
  upper = subst (λ Q. (a : Assignment) → SatisfiesAll a Q → SatisfiesAll a p.hard) (sym f.clauses) upper;
}

pub after-solution : (p : Problem) (r : Reduction) (t : ℕ) → ReducesToAfter true t p r → FindsSolution p r
after-solution p r t st =
    model-found p r t r.charges st.clauses st.finds st.variables st.reduces.named st.reduces.hard_below st.reduces.clauses_below (λ a h. (st.reduces.upper a h).0)

and-none : (n : ℕ) → n + 0 ≡ n
and-none n = omega arith

pub light-step : (p : Problem) (r : Reduction) (h : Client) (ds : List Charge) →
    ((q : ClientPast) → IsReady r.client q → FindsLightly r.charges ds q.clauses h) → ReducesTo p r → DecidesHard true p (record r { client = h; charges = ds })
light-step p r h ds f st =
    let g = f st.past st.ready in
    let x = subst (λ n. Reduces p.hard p.soft p.variables r.named st.past.clauses ds [] 0 n) (and-none r.bound) (exchanged 0 ds g.exchanges st.reduces) in (
      record {
        past = g.finds.past;
        ready = g.finds.ready;
        variables = st.variables;
        reduces = subst (λ P. Reduces p.hard p.soft p.variables r.named P ds [] 0 r.bound) (sym g.finds.clauses) x;
      },
      model-found p (record r { client = h; charges = ds }) 0 g.left st.past.clauses g.finds st.variables st.reduces.named st.reduces.hard_below
          st.reduces.clauses_below (λ a s. (st.reduces.upper a s).0),
    )

pub none-step : (p : Problem) (r : Reduction) → ((q : ClientPast) → IsReady r.client q → (a : Assignment) → SatisfiesAll a q.clauses → ⊥) → ReducesTo p r →
    IsSatisfiable p.hard → ⊥
none-step p r f st = unsatisfiable st.reduces (f st.past st.ready)

pub search-below-step : (p : Problem) (r : Reduction) (h : Client) (b : Bool) → ((q : ClientPast) → IsReady r.client q → Finds b 0 [] q.clauses h) → ReducesToBelow p r →
    IsImproved b p (record r { client = h })
search-below-step p r h true f st =
    let g : FindsModel 0 [] st.past.clauses h = f st.past st.ready in (
      record {
        past = g.past;
        ready = g.ready;
        variables = st.variables;
        reduces = subst (λ P. ReducesBelow p.hard p.soft p.variables r.named P r.charges r.counters r.bound r.ceiling) (sym g.clauses) st.reduces;
      },
      model-found p (record r { client = h }) 0 [] st.past.clauses g st.variables st.reduces.named st.reduces.hard_below st.reduces.clauses_below st.reduces.upper,
    )
search-below-step p r h false f st = none-below st.reduces (nothing-satisfies st.past.clauses h (f st.past st.ready))

pub bound-step : (p : Problem) (r : Reduction) → r.ceiling ≤ r.bound → ReducesToBelow p r → IsImproved false p r
bound-step p r l st = bound-meets l st.reduces

-- it satisfies the hard clauses
pub found-solution : (p : Problem) (r : Reduction) (n : ℕ) (vs short : List Bool) →
    ((q : ClientPast) → IsReady r.client q → (a : Assignment) → MakesTrue a q.model → AreValues n q.model vs) → n ≡ r.named → short ≡ take r.variables vs →
    FindsSolution p r → IsSolution p (cost (assignment_of short) p.soft) short
found-solution p r n vs short values m e st =
    let (a, makes, all, assumes) = st.found.satisfied in
    let v : AreValues r.named st.past.model vs = subst (λ x. AreValues x st.past.model vs) m (values st.past st.ready a makes) in
    subst (λ xs. IsSolution p (cost (assignment_of xs) p.soft) xs) (ap (λ x. take x vs) (sym st.variables) ∙ sym e)
    (solution-of p.hard p.variables r.named st.past.clauses st.past.model vs p.soft st.named st.hard_below st.clauses_below st.upper a makes st.found.each v)

-- so some assignment does
pub found-satisfiable : (p : Problem) (r : Reduction) → FindsSolution p r → IsSatisfiable p.hard
found-satisfiable p r st = let (a, makes, all, assumes) = st.found.satisfied in (a, st.upper a all)

-- where there is none below the ceiling, what costs no more than it costs least
pub met-optimal : (p : Problem) (r : Reduction) (c : ℕ) (vs : List Bool) → c ≤ r.ceiling → IsImproved false p r → IsSolution p c vs → IsOptimum p c vs
met-optimal p r c vs l none sol = record {
  solution = sol;
  least = λ a h. let k = none a h in omega arith;
}
