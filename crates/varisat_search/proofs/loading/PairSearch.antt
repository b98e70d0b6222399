-- What a proof sees of one more clause: the kept ones are the same as sets, whether the new one is of two literals or longer.
use Rattle.std.proofs.Common.{◌≡◌, ◌≢◌, ◌<◌, false, map, List, [], ◌∷◌, ◌++◌, length, inl, inr, ⊎_elim, refl, sym, ap, ◌∙◌, subst}
use Rattle.std.proofs.lemmas.List.{append-nil, map-append}
use Rattle.varisat_theory.specs.promises.Membership.{◌∈◌, ◌⊆◌, SameSet}
use Rattle.varisat_theory.specs.promises.Literals.{Literal, opposite}
use Rattle.varisat_theory.specs.promises.Held.{SameClauses}
use Rattle.varisat_theory.specs.promises.Searches.{KeptClause, Search, clauses_of}
use Rattle.varisat_theory.specs.inside.Outcomes.{Proves}
use Rattle.varisat_theory.proofs.clauses.Members.{∈-append_left, ∈-append_right, ∈-append_cases}
use Rattle.varisat_theory.proofs.clauses.Held.{same_set-self, same_set-back, same_set-through}
use Rattle.varisat_theory.proofs.steps.SearchFits.{same_insert, same_equal, same_between, clauses_last}
use Rattle.varisat_theory.proofs.steps.StepChanges.{moves_prove}
use Rattle.varisat_clause.specs.Stored.{StoredClause, literals_of}
use Rattle.varisat_prop.specs.Pairs.{with_pair}
use Rattle.varisat_prop.specs.View.{View, pairs_from, kept}
use Rattle.varisat_clause.proofs.StoredClauses.{literals-more}
use Rattle.varisat_prop.proofs.pairs.PairAdded.{inserts-pair, kept-inserted}
use Rattle.varisat_analysis.specs.HeaderChanges.{kept_clause}
use Rattle.varisat_search.specs.Seen.{kept_pair, search_of}
use Rattle.varisat_search.proofs.stepping.ViewSearch.{seen_clauses}

-- the search keeps one more clause
abbrev pub with_clause : Search → KeptClause → Search
with_clause S k = record S { kept = S.kept ++ k ∷ [] }

-- a kept clause stands for one that is not learned
abbrev pub HasInputPart : List KeptClause → KeptClause → Type 0
HasInputPart ks k = (j : KeptClause) × (j ∈ ks) × (j.learned ≡ false) × (j.clause ⊆ k.clause)

-- the clauses of a search with one more are those of the view, and that one
clauses-last : (s : View) (k : KeptClause) → clauses_of ((search_of s).kept ++ k ∷ []) ≡ kept s ++ k.clause ∷ []
clauses-last s k = clauses_last (search_of s).kept k ∙ ap (λ P. P ++ k.clause ∷ []) (seen_clauses s)

-- What is kept as sets is enough.
pub from-kept : (s z : View) (k : KeptClause) → SameClauses (kept s ++ k.clause ∷ []) (kept z) →
    SameClauses (clauses_of ((search_of s).kept ++ k ∷ [])) (clauses_of (search_of z).kept)
from-kept s z k h = subst (λ P. SameClauses P (clauses_of (search_of z).kept)) (sym (clauses-last s k))
    (subst (SameClauses (kept s ++ k.clause ∷ [])) (sym (seen_clauses z)) h)

-- 1. A clause of two literals.
module _ (s z : View) (a b : Literal) (k : KeptClause) (first : opposite a < length s.binary) (second : opposite b < length s.binary)
    (other : a ≢ b) (same : SameSet k.clause (a ∷ b ∷ [])) (clauses : z.clauses ≡ s.clauses) (binary : z.binary ≡ with_pair s.binary a b) where
  kept-now : kept z ≡ kept (record s { binary = with_pair s.binary a b })
  kept-now = ap (λ ks. literals_of ks ++ pairs_from 0 z.binary) clauses ∙ ap (λ B. literals_of s.clauses ++ pairs_from 0 B) binary

  pub pair-same : SameClauses (kept s ++ k.clause ∷ []) (kept z)
  pair-same =
      let (p, i, q, _) = kept-inserted s a b first second other in
      subst (SameClauses (kept s ++ k.clause ∷ [])) (sym (kept-now ∙ i.new))
      (same_insert (kept s) [] i.front i.back k.clause p (same_set-through k.clause (a ∷ b ∷ []) p same (same_set-back p (a ∷ b ∷ []) q))
      (same_equal (kept s ++ []) (i.front ++ i.back) (append-nil (kept s) ∙ i.old)))

  pub pair-seen : (j : KeptClause) → j ∈ ((search_of s).kept ++ k ∷ []) → j.learned ≡ false → HasInputPart (search_of z).kept j
  pair-seen j h e =
      let (p, i, q, _) = inserts-pair s.binary a b first second other in
      let M = map kept_clause s.clauses in
      let N = map kept_pair (i.front ++ p ∷ i.back) in
      let now : (search_of z).kept ≡ M ++ N = ap (λ ks. map kept_clause ks ++ map kept_pair (pairs_from 0 z.binary)) clauses
      ∙ ap (λ ps. M ++ map kept_pair ps) (ap (λ B. pairs_from 0 B) binary ∙ i.new) in
      let split = map-append kept_pair i.front (p ∷ i.back) in
      let F = map kept_pair i.front in
      let B = map kept_pair i.back in
      let there : (x : KeptClause) → x ∈ (F ++ kept_pair p ∷ B) → x ∈ (M ++ N) = λ x o. ∈-append_right x M N (subst (λ ks. x ∈ ks) (sym split) o) in
      let old : j ∈ (M ++ map kept_pair (pairs_from 0 s.binary)) → j ∈ (M ++ N) = λ o.
      ⊎_elim
      (λ l. ∈-append_left j M N l)
      (λ r. there j (⊎_elim
      (λ l. ∈-append_left j F (kept_pair p ∷ B) l)
      (λ t. ∈-append_right j F (kept_pair p ∷ B) (inr t))
      (∈-append_cases j F B (subst (λ ks. j ∈ ks) (ap (λ ps. map kept_pair ps) i.old ∙ map-append kept_pair i.front i.back) r))))
      (∈-append_cases j M (map kept_pair (pairs_from 0 s.binary)) o) in
      subst (λ ks. HasInputPart ks j) (sym now)
      (⊎_elim
      (λ o. (j, old o, e, λ x y. y))
      (λ o. ⊎_elim
      (λ f. (
        kept_pair p,
        there (kept_pair p) (∈-append_right (kept_pair p) F (kept_pair p ∷ B) (inl refl)),
        refl,
        λ x y. subst
            (λ (n : KeptClause). x ∈ n.clause) (sym f) (same.1 x (q.0 x y)),
      ))
      (λ n. absurd n)
      o)
      (∈-append_cases j (search_of s).kept (k ∷ []) h))

  -- The search with the clause at its end is that of the view which has it among its pairs, without a line.
  pub pair-moves : (search_of s).fixed ⊆ (search_of z).fixed → (search_of z).proved ⊆ (search_of s).proved →
      (search_of z).fixed ⊆ (search_of s).fixed → Proves 0 (with_clause (search_of s) k) (search_of z) []
  pair-moves x p y =
      moves_prove (with_clause (search_of s) k) (search_of z) (from-kept s z k pair-same) pair-seen x p (λ l h. inl (y l h))

-- 2. A clause of three literals or more.
module _ (s z : View) (i : StoredClause) (clauses : z.clauses ≡ s.clauses ++ i ∷ []) (binary : z.binary ≡ s.binary) where
  pub long-same : SameClauses (kept s ++ i.literals ∷ []) (kept z)
  long-same =
      let now : kept z ≡ (literals_of s.clauses ++ i.literals ∷ []) ++ pairs_from 0 s.binary =
      ap (λ B. literals_of z.clauses ++ pairs_from 0 B) binary ∙ ap (λ ks. ks ++ pairs_from 0 s.binary)
      (ap literals_of clauses ∙ literals-more s.clauses i) in
      subst (SameClauses (kept s ++ i.literals ∷ [])) (sym now)
      (same_between (literals_of s.clauses) (pairs_from 0 s.binary) i.literals i.literals (same_set-self i.literals))

  pub long-seen : (j : KeptClause) → j ∈ ((search_of s).kept ++ kept_clause i ∷ []) → j.learned ≡ false → HasInputPart (search_of z).kept j
  long-seen j h e =
      let M = map kept_clause s.clauses in
      let N = map kept_pair (pairs_from 0 s.binary) in
      let now : (search_of z).kept ≡ (M ++ kept_clause i ∷ []) ++ N = ap (λ B. map kept_clause z.clauses ++ map kept_pair (pairs_from 0 B)) binary
      ∙ ap (λ ks. ks ++ N) (ap (map kept_clause) clauses ∙ map-append kept_clause s.clauses (i ∷ [])) in
      let front : j ∈ (M ++ kept_clause i ∷ []) → j ∈ ((M ++ kept_clause i ∷ []) ++ N) = λ o. ∈-append_left j (M ++ kept_clause i ∷ []) N o in
      subst (λ ks. HasInputPart ks j) (sym now) (
        j,
        ⊎_elim
            (λ o. ⊎_elim (λ l. front (∈-append_left j M (kept_clause i ∷ []) l)) (λ r. ∈-append_right j (M ++ kept_clause i ∷ []) N r) (∈-append_cases j M N o))
            (λ o. front (∈-append_right j M (kept_clause i ∷ []) o))
            (∈-append_cases j (search_of s).kept (kept_clause i ∷ []) h),
        e,
        λ x y. y,
      )

  pub long-moves : (search_of s).fixed ⊆ (search_of z).fixed → (search_of z).proved ⊆ (search_of s).proved →
      (search_of z).fixed ⊆ (search_of s).fixed → Proves 0 (with_clause (search_of s) (kept_clause i)) (search_of z) []
  long-moves x p y =
      moves_prove (with_clause (search_of s) (kept_clause i)) (search_of z) (from-kept s z (kept_clause i) long-same) long-seen x p (λ l h. inl (y l h))
