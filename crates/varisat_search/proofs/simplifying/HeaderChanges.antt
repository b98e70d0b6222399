-- A search goes on where only headers of clauses change.
use Rattle.std.proofs.Common.{◌≡◌, Bool, sym, ap, ◌∙◌, subst, ℕ, List, ◌++◌, map, ◌⊎◌, refl}
use Rattle.varisat_clause.specs.Stores.{IsSound}
use Rattle.varisat_clause.specs.Databases.{Tracks}
use Rattle.varisat_clause.proofs.StoreSound.{sound-is}
use Rattle.varisat_prop.specs.Watches.{IsPropagated, Watches, literal_in, IsCovered}
use Rattle.varisat_search.specs.declared.context.Context.{Context}
use Rattle.varisat_search.specs.Contexts.{view, IsReady}
use Rattle.varisat_search.specs.Frames.{ChangesKept}
use Rattle.varisat_analysis.specs.HeaderChanges.{ChangesHeaders, SameButHeaders}
use Rattle.varisat_search.proofs.stepping.ReadyAfter.{keeps-values, exchanged-ready}
use Rattle.varisat_theory.specs.promises.Membership.{◌∈◌, ◌⊆◌}
use Rattle.varisat_theory.specs.promises.Literals.{Literal, Clause, opposite}
use Rattle.varisat_theory.specs.promises.Searches.{IsTautology}
use Rattle.varisat_clause.specs.Stored.{StoredClause, literals_of}
use Rattle.varisat_prop.specs.declared.prop.graph.Reason.{Reason}
use Rattle.varisat_prop.specs.View.{View, pairs_from, kept, literal_at, node_at, IsReason, WellFormed, PropagatedBeforeDecisions, IsFixed, ViewFits, kinds}
use Rattle.varisat_vsids.specs.Activities.{Activities}
use Rattle.varisat_analysis.proofs.SameButHeaders.{headers-place, headers-literals, headers-kept, headers-at, headers-rising, headers-watching}
use Rattle.varisat_search.specs.Decisions.{CanDecide, SameDecidable}
use Rattle.varisat_search.specs.Seen.{kept_pair, search_of}
use Rattle.varisat_search.proofs.simplifying.ClausesExchanged.{SameReason, MayExchange, exchanged-well, exchanged-settled, exchanged-decide, exchanged-same}
use Rattle.varisat_prop.specs.declared.prop.graph.Reason.TheVariants as reason

same-reason : (s : View) (js : List StoredClause) (d : SameButHeaders s.clauses js) (k : ℕ) (r : Reason) → IsReason s k r → SameReason s js r r
same-reason s js d k reason.Unit h = refl
same-reason s js d k (reason.Binary ms) h = refl
same-reason s js d k (reason.Long p) h = (p, refl, headers-place s.clauses js p d h.0, headers-at s.clauses js d p)

pub headers-may : (s : View) (js : List StoredClause) → WellFormed s → SameButHeaders s.clauses js → MayExchange s js s.nodes
headers-may s js w d = record {
  places = headers-rising s.clauses js d w.places;
  fewer = λ c h. subst (λ cs. c ∈ cs) (headers-literals s.clauses js d) h;
  count = refl;
  level = λ k h. refl;
  depth = λ k h. refl;
  same = λ k h. same-reason s js d k (node_at s k).reason (w.reason_is k h);
}

module _ (s t : View) (w : WellFormed s) (d : ChangesHeaders s t) where
  abbrev js : List StoredClause
  js = t.clauses

  may : MayExchange s js s.nodes
  may = headers-may s js w d.clauses

  pub header-kept : kept t ≡ kept s
  header-kept = ap kept d.rest ∙ ap (λ cs. cs ++ pairs_from 0 s.binary) (headers-literals s.clauses js d.clauses)

  pub header-well : WellFormed t
  header-well = subst WellFormed (sym d.rest) (exchanged-well s js s.nodes w may)

  pub header-settled : PropagatedBeforeDecisions s → PropagatedBeforeDecisions t
  header-settled v = subst PropagatedBeforeDecisions (sym d.rest) (exchanged-settled s js s.nodes w may v)

  pub header-propagated : (W : Watches) → IsPropagated W s → IsPropagated W t
  header-propagated W p = subst (IsPropagated W) (sym d.rest) record {
    lists = p.lists;
    watching = λ on. headers-watching s.clauses js d.clauses W (p.watching on);
    empty = p.empty;
    settled = λ i j q a b c e.
        let f = headers-at s.clauses js d.clauses i in
        subst (λ x. IsCovered s x q) (sym f)
        (p.settled i j q (headers-place js s.clauses i (sym d.clauses) a) b c (subst (λ x. literal_at s q ≡ opposite (literal_in x j)) f e));
    binary = p.binary;
    implied = p.implied;
    queue = p.queue;
  }

  -- a proof sees nothing of it
  pub header-seen : search_of t ≡ search_of s
  header-seen = ap search_of d.rest ∙ ap (λ ks. record (search_of s) { kept = ks ++ map kept_pair (pairs_from 0 s.binary) })
      (headers-kept s.clauses js d.clauses)

  pub header-kinds : kinds t ≡ kinds s
  header-kinds = ap kinds d.rest

  pub header-fits : (held : List Clause) → ViewFits held s → ViewFits held t
  header-fits held f = subst (ViewFits held) (sym d.rest) record {
    stored = λ c h. f.stored c (subst (λ cs. c ∈ cs) e h);
    units = f.units;
    covered = λ c h. subst (λ cs. ((x : Clause) × (x ∈ cs) × (x ⊆ c)) ⊎ (IsTautology c ⊎ ((l : Literal) × (l ∈ c) × IsFixed s l))) (sym e) (f.covered c h);
  }
    where
      e : (literals_of js ++ pairs_from 0 s.binary) ≡ kept s
      e = ap (λ cs. cs ++ pairs_from 0 s.binary) (headers-literals s.clauses js d.clauses)

  pub header-decide : (a : Activities) → CanDecide s a → CanDecide t a
  header-decide a c = subst (λ u. CanDecide u a) (sym d.rest) (exchanged-decide s js s.nodes w may a c)

  pub header-same : (a : Activities) → SameDecidable s a t a
  header-same a = subst (λ u. SameDecidable s a u a) (sym d.rest) (exchanged-same s js s.nodes w may a)

-- The contexts of calls that change headers of clauses alone.

-- another sound store shows other clauses alone
pub store-view : {A : Type 0} (x z : Context A) → IsSound x.clause_alloc → IsSound z.clause_alloc →
    view z ≡ record (view x) { sound = (view z).sound; clauses = (view z).clauses } → view z ≡ record (view x) { clauses = (view z).clauses }
store-view x z a b e = e ∙ ap (λ (o : Bool). record (view x) { sound = o; clauses = (view z).clauses })
    (sound-is z.clause_alloc b ∙ sym (sound-is x.clause_alloc a))

-- it stays ready
pub headers-ready : {A : Type 0} (x z : Context A) → IsReady x → ChangesHeaders (view x) (view z) → Tracks z.clause_db z.clause_alloc →
    z.watchlists ≡ x.watchlists → ChangesKept x z → IsReady z
headers-ready x z r d t e k =
    exchanged-ready x z r (keeps-values x z k) (header-well (view x) (view z) r.well d) (header-settled (view x) (view z) r.well d r.settled)
    (subst (λ W. IsPropagated W (view z)) (sym e) (header-propagated (view x) (view z) r.well d x.watchlists r.propagated))
    t (header-decide (view x) (view z) r.well d x.vsids r.decidable)
