-- What a conflict makes of the clauses that took part in it.
use Rattle.std.proofs.Common.{ap₂, ◌≡◌, ℕ, ◌/◌, ◌^◌, ◌<◌, ◌≤◌, Bool, true, false, cond, List, [], ◌∷◌, ◌++◌, length, map, inl, inr, ⊎_elim, refl, sym, ap, ◌∙◌, subst, arith}
use Rattle.std.specs.Prelude.{not, ◌&&◌, nat_le, nat_lt, min}
use Rattle.std.proofs.lemmas.Bool.{and_right}
use Rattle.std.proofs.lemmas.Bool.{cases_Bool}
use Rattle.varisat_theory.specs.promises.Membership.{◌∈◌}
use Rattle.varisat_clause.specs.declared.header.Tier.{Tier}
use Rattle.varisat_clause.specs.declared.header.Tier.TheVariants.{Irred, Core, Mid, Local}
use Rattle.varisat_clause.specs.Tiers.{is_tier}
use Rattle.varisat_clause.specs.Headers.{Header, no_header}
use Rattle.varisat_clause.specs.Stored.{StoredClause, IsClauseRef, stored_at, header_at, literals_at, with_stored, with_header}
use Rattle.varisat_clause.specs.Stores.{Store, stored_clauses, IsSound, HoldsClauses}
use Rattle.varisat_clause.specs.Databases.{Database, tier_list, is_live, is_live_in, total, size_of, Tracks}
use Rattle.varisat_clause.specs.ClauseActivities.{ActivityScale, with_activity, activity_shifted, clauses_shifted, clauses_rescaled, reaches_clause_limit, Scored, scored, activity_bumped}
use Rattle.varisat_clause.proofs.StoredClauses.{stored-∈, clause-same, clause-place, clause-twice}
use Rattle.varisat_clause.proofs.DatabaseTracks.{place-is, header-self}
use Rattle.varisat_clause.proofs.LiveStore.{live-∈, live-place, live-stored, live-literals}
use Rattle.varisat_clause.specs.Collected.{live_clauses}
use Rattle.varisat_prop.specs.declared.prop.graph.ImplNode.{ImplNode}
use Rattle.varisat_prop.specs.declared.prop.graph.Conflict.{Conflict}
use Rattle.varisat_prop.specs.declared.prop.graph.Conflict.TheVariants as conflict
use Rattle.varisat_analysis.specs.HeaderChanges.{SameButHeaders}
use Rattle.varisat_analysis.specs.Assessments.{glue_of, tier_by_glue, is_improved, improved, noted, with_bump, clause_bumped, clauses_bumped}
use Rattle.varisat_analysis.proofs.SameButHeaders.{held_clause, live-headers, map-same, with-same-look, headers-place, headers-at}

-- headers at one place of a list
module _ (ks : List StoredClause) (p : ℕ) (at : IsClauseRef ks p) where
  stored-set : (h : Header) → stored_at (with_header ks p h) p ≡ record (stored_at ks p) { header = h }
  stored-set h = clause-same ks p (record (stored_at ks p) { header = h }) at (place-is ks p at)

  pub header-set : (h : Header) → header_at (with_header ks p h) p ≡ h
  header-set h = ap (λ (k : StoredClause). k.header) (stored-set h)

  header-twice : (h j : Header) → with_header (with_header ks p h) p j ≡ with_header ks p j
  header-twice h j = ap (λ (k : StoredClause). with_stored (with_header ks p h) p (record k { header = j })) (stored-set h)
      ∙ clause-twice ks p (record (stored_at ks p) { header = h }) (record (stored_at ks p) { header = j }) (place-is ks p at)

  pub header-place : (h : Header) → IsClauseRef (with_header ks p h) p
  header-place h = clause-place ks p p (record (stored_at ks p) { header = h }) (place-is ks p at) at

-- a store whose clause at the place got a header, and then another
module _ (s n : Store) (p : ℕ) (h : Header) (at : IsClauseRef (stored_clauses s) p) (o : HoldsClauses n (length s.words) (with_header (stored_clauses s) p h)) where
  pub set-place : IsClauseRef (stored_clauses n) p
  set-place = subst (λ ks. IsClauseRef ks p) (sym o.clauses) (header-place (stored_clauses s) p at h)

  pub set-header : header_at (stored_clauses n) p ≡ h
  set-header = ap (λ ks. header_at ks p) o.clauses ∙ header-set (stored_clauses s) p at h

  pub set-then : (m : Store) (j : Header) → HoldsClauses m (length n.words) (with_header (stored_clauses n) p j) →
      HoldsClauses m (length s.words) (with_header (stored_clauses s) p j)
  set-then m j q = record {
    sound = q.sound;
    words = q.words ∙ o.words;
    clauses = q.clauses ∙ ap (λ ks. with_header ks p j) o.clauses ∙ header-twice (stored_clauses s) p at h j;
  }

-- Lists that agree in what a function reads of each clause.
module _ (read : StoredClause → StoredClause) where
  first-same : (x y : StoredClause) (xs ys : List StoredClause) → (x ∷ xs) ≡ (y ∷ ys) → x ≡ y
  first-same x y xs ys e = cc

  others-same : (x y : StoredClause) (xs ys : List StoredClause) → (x ∷ xs) ≡ (y ∷ ys) → xs ≡ ys
  others-same x y xs ys e = cc

  pub read-found : (ks js : List StoredClause) (k : StoredClause) → map read ks ≡ map read js → k ∈ ks → (j : StoredClause) × (j ∈ js) × (read k ≡ read j)
  read-found [] js k e h = absurd h
  read-found (x ∷ ks) [] k e h = absurd cc
  read-found (x ∷ ks) (y ∷ js) k e (inl f) = (y, inl refl, ap read f ∙ first-same (read x) (read y) (map read ks) (map read js) e)
  read-found (x ∷ ks) (y ∷ js) k e (inr h) = let (j, i, f) = read-found ks js k (others-same (read x) (read y) (map read ks) (map read js) e) h in (j, inr i, f)

  total-read : (w : StoredClause → ℕ) → ((k : StoredClause) → w k ≡ w (read k)) → (ks js : List StoredClause) → map read ks ≡ map read js →
      total w ks ≡ total w js
  total-read w h [] [] e = refl
  total-read w h [] (y ∷ js) e = absurd cc
  total-read w h (x ∷ ks) [] e = absurd cc
  total-read w h (x ∷ ks) (y ∷ js) e =
      let a : w x ≡ w y = h x ∙ ap w (first-same (read x) (read y) (map read ks) (map read js) e) ∙ sym (h y) in
      let b = total-read w h ks js (others-same (read x) (read y) (map read ks) (map read js) e) in
      omega (arith, a, b)

-- what a database reads of a clause: its place, its tier, whether it is deleted, and its literals
abbrev pub tracked : StoredClause → StoredClause
tracked k = record { place = k.place; header = record no_header { tier = k.header.tier; deleted = k.header.deleted }; literals = k.literals }

pub tracks-read : (d : Database) (s t : Store) → Tracks d s → IsSound t → map tracked (stored_clauses t) ≡ map tracked (stored_clauses s) → Tracks d t
tracks-read d s t k ok e = record {
  sound = ok;
  counts = λ u. k.counts u ∙ total-read tracked (λ x. cond (is_live_in u x) 1 0) (λ x. refl) (stored_clauses s) (stored_clauses t) (sym e);
  garbage = k.garbage ∙ total-read tracked (λ x. cond x.header.deleted (size_of x) 0) (λ x. refl) (stored_clauses s) (stored_clauses t) (sym e);
  listed = λ x h live.
      let (j, i, f) = read-found tracked (stored_clauses t) (stored_clauses s) x e h in
      let place : x.place ≡ j.place = ap (λ (y : StoredClause). y.place) f in
      let tier : x.header.tier ≡ j.header.tier = ap (λ (y : StoredClause). y.header.tier) f in
      let lives : is_live j ≡ true = ap (λ (y : StoredClause). is_live y) (sym f) ∙ live in
      subst (λ (q : ℕ). q ∈ tier_list x.header.tier d.lists) (sym place) (subst (λ (u : Tier). j.place ∈ tier_list u d.lists) (sym tier) (k.listed j i lives));
  known = λ u p h.
      let (x, i, f) = k.known u p h in
      let (j, o, g) = read-found tracked (stored_clauses s) (stored_clauses t) x (sym e) i in
      (j, o, sym (ap (λ (y : StoredClause). y.place) g) ∙ f);
}

-- all activities are shifted, or none is
rescaled-same : {X : Type 0} (look : StoredClause → X) (full : Bool) (ks : List StoredClause) →
    ((k : StoredClause) → look (activity_shifted k) ≡ look k) → map look (clauses_rescaled full ks) ≡ map look ks
rescaled-same look true ks h = map-same look activity_shifted ks h
rescaled-same look false ks h = refl

-- A bump, from what the call says of the two cases.
module _ (n m : Store) (a : ActivityScale) (p : ℕ) where
  pub bump-holds : (reaches_clause_limit (activity_bumped p (scored n a)) ≡ false →
      HoldsClauses m (length n.words) (with_activity (stored_clauses n) p (activity_bumped p (scored n a)))) →
      (reaches_clause_limit (activity_bumped p (scored n a)) ≡ true →
      HoldsClauses m (length n.words) (with_activity (clauses_shifted (stored_clauses n)) p (activity_bumped p (scored n a) / 2 ^ 16))) →
      HoldsClauses m (length n.words) (with_bump p (scored n a)).clauses
  bump-holds f g =
      ⊎_elim
      (λ e. subst (λ b. HoldsClauses m (length n.words)
      (with_activity (clauses_rescaled b (stored_clauses n)) p
      (cond b (activity_bumped p (scored n a) / 2 ^ 16) (activity_bumped p (scored n a))))) (sym e) (g e))
      (λ e. subst (λ b. HoldsClauses m (length n.words)
      (with_activity (clauses_rescaled b (stored_clauses n)) p
      (cond b (activity_bumped p (scored n a) / 2 ^ 16) (activity_bumped p (scored n a))))) (sym e) (f e))
      (cases_Bool (reaches_clause_limit (activity_bumped p (scored n a))))

-- a bump changes activities alone
pub bump-same : {X : Type 0} (look : StoredClause → X) (p : ℕ) (x : Scored) →
    ((k : StoredClause) (n : ℕ) → look (record k { header = record k.header { activity = n } }) ≡ look k) →
    map look (with_bump p x).clauses ≡ map look x.clauses
bump-same look p x h =
    let full : Bool = reaches_clause_limit (activity_bumped p x) in
    let ks : List StoredClause = clauses_rescaled full x.clauses in
    let n : ℕ = cond full (activity_bumped p x / 2 ^ 16) (activity_bumped p x) in
    with-same-look look ks p (record (stored_at ks p) { header = record (header_at ks p) { activity = n } }) (h (stored_at ks p) n)
    ∙ rescaled-same look full x.clauses (λ k. h k (k.header.activity / 2 ^ 16))

-- the database of the bumped clauses
pub bump-tracks : (d : Database) (n m : Store) (a : ActivityScale) (p : ℕ) → Tracks d n →
    HoldsClauses m (length n.words) (with_bump p (scored n a)).clauses → Tracks d m
bump-tracks d n m a p t o =
    tracks-read d n m t o.sound (ap (map tracked) o.clauses ∙ bump-same tracked p (scored n a) (λ k v. refl))

-- The glue and the tier of a clause.
pub improved-irred : (glue : ℕ) (h : Header) → not (is_tier h.tier Irred) ≡ false → improved glue h ≡ h
improved-irred glue h e = ap (λ b. cond (b && nat_lt glue h.glue) (record h { glue = glue; tier = tier_by_glue glue }) h) e

pub improved-higher : (glue : ℕ) (h : Header) → h.glue ≤ glue → improved glue h ≡ h
improved-higher glue h e =
    ap (λ b. cond b (record h { glue = glue; tier = tier_by_glue glue }) h) (and_right (not (is_tier h.tier Irred)) (nat_lt glue h.glue) (no h.glue e))
  where
    no : (n : ℕ) → n ≤ glue → nat_lt glue n ≡ false
    no n l = grind arith

pub improved-lower : (glue : ℕ) (h : Header) → not (is_tier h.tier Irred) ≡ true → glue < h.glue →
    improved glue h ≡ record h { glue = glue; tier = tier_by_glue glue }
improved-lower glue h r e =
    ap (λ b. cond (b && nat_lt glue h.glue) (record h { glue = glue; tier = tier_by_glue glue }) h) r
    ∙ ap (λ b. cond b (record h { glue = glue; tier = tier_by_glue glue }) h) (yes h.glue e)
  where
    yes : (n : ℕ) → glue < n → nat_lt glue n ≡ true
    yes n l = grind arith

-- nothing was written
pub improved-stays : (s : Store) (p glue : ℕ) → IsSound s → improved glue (header_at (stored_clauses s) p) ≡ header_at (stored_clauses s) p →
    HoldsClauses s (length s.words) (with_header (stored_clauses s) p (improved glue (header_at (stored_clauses s) p)))
improved-stays s p glue ok e = record {
  sound = ok;
  words = refl;
  clauses =
      sym (header-self (stored_clauses s) p (improved glue (header_at (stored_clauses s) p)) e);
}

-- the clause went to another tier, and then the glue was written
pub improved-moved : (s n m : Store) (p glue : ℕ) (t : Tier) (j : Header) → IsClauseRef (stored_clauses s) p →
    not (is_tier (header_at (stored_clauses s) p).tier Irred) ≡ true → glue < (header_at (stored_clauses s) p).glue →
    (header_at (stored_clauses s) p).glue ≤ 63 → t ≡ tier_by_glue glue →
    HoldsClauses n (length s.words) (with_header (stored_clauses s) p (record (header_at (stored_clauses s) p) { tier = t })) →
    j ≡ record (header_at (stored_clauses n) p) { glue = min glue 63 } →
    HoldsClauses m (length n.words) (with_header (stored_clauses n) p j) →
    HoldsClauses m (length s.words) (with_header (stored_clauses s) p (improved glue (header_at (stored_clauses s) p)))
improved-moved s n m p glue t j at r l small et o ej q =
    let h : Header = header_at (stored_clauses s) p in
    let least : min glue 63 ≡ glue = omega (arith, l, small) in
    let e : j ≡ improved glue h =
    ej ∙ ap (λ (x : Header). record x { glue = min glue 63 }) (set-header s n p (record h { tier = t }) at o)
    ∙ ap (λ (x : ℕ). record h { tier = t; glue = x }) least
    ∙ ap (λ (x : Tier). record h { tier = x; glue = glue }) et
    ∙ sym (improved-lower glue h r l) in
    set-then s n p (record h { tier = t }) at o m (improved glue h)
    (subst (λ (x : Header). HoldsClauses m (length n.words) (with_header (stored_clauses n) p x)) e q)

-- The clause became active too.
pub noted-holds : (s n m : Store) (p glue : ℕ) → IsClauseRef (stored_clauses s) p →
    HoldsClauses n (length s.words) (with_header (stored_clauses s) p (improved glue (header_at (stored_clauses s) p))) →
    HoldsClauses m (length n.words) (with_header (stored_clauses n) p (record (header_at (stored_clauses n) p) { active = true })) →
    HoldsClauses m (length s.words) (with_header (stored_clauses s) p (noted glue (header_at (stored_clauses s) p)))
noted-holds s n m p glue at o q =
    let h : Header = improved glue (header_at (stored_clauses s) p) in
    set-then s n p h at o m (record h { active = true })
    (subst (λ (x : Header). HoldsClauses m (length n.words) (with_header (stored_clauses n) p (record x { active = true }))) (set-header s n p h at o) q)

-- and then its activity was raised
module _ (s n : Store) (p : ℕ) (nodes : List ImplNode) (glue : ℕ) (e : glue ≡ glue_of nodes (literals_at (stored_clauses s) p))
    (o : HoldsClauses n (length s.words) (with_header (stored_clauses s) p (noted glue (header_at (stored_clauses s) p)))) where
  pub bumped-clauses : stored_clauses n ≡ with_header (stored_clauses s) p
      (noted (glue_of nodes (literals_at (stored_clauses s) p)) (header_at (stored_clauses s) p))
  bumped-clauses = o.clauses ∙ ap (λ (x : ℕ). with_header (stored_clauses s) p (noted x (header_at (stored_clauses s) p))) e

pub bumped-holds : (s n m : Store) (a : ActivityScale) (p : ℕ) (nodes : List ImplNode) (glue : ℕ) →
    glue ≡ glue_of nodes (literals_at (stored_clauses s) p) → HoldsClauses n (length s.words)
    (with_header (stored_clauses s) p (noted glue (header_at (stored_clauses s) p))) →
    HoldsClauses m (length n.words) (with_bump p (scored n a)).clauses → HoldsClauses m (length s.words) (clause_bumped nodes p (scored s a)).clauses
bumped-holds s n m a p nodes glue e o q = record {
  sound = q.sound;
  words = q.words ∙ o.words;
  clauses = q.clauses ∙ ap (λ ks. (with_bump p (record { clauses = ks; scale = a })).clauses) (bumped-clauses s n p nodes glue e o);
}

-- A clause that may be deleted stays one.
pub tier-redundant : (glue : ℕ) → is_tier (tier_by_glue glue) Irred ≡ false
tier-redundant glue = go (nat_le glue 2) (nat_le glue 6)
  where
    go : (a b : Bool) → is_tier (cond a Core (cond b Mid Local)) Irred ≡ false
    go true b = refl
    go false true = refl
    go false false = refl

not-first : (a b : Bool) → (not a && b) ≡ true → a ≡ false
not-first true b e = absurd cc
not-first false b e = refl

pub improved-held : (glue : ℕ) (h : Header) → (is_tier (improved glue h).tier Irred ≡ is_tier h.tier Irred) × ((improved glue h).deleted ≡ h.deleted)
improved-held glue h =
    ⊎_elim
    (λ e.
    let is : improved glue h ≡ record h { glue = glue; tier = tier_by_glue glue } =
    ap (λ b. cond b (record h { glue = glue; tier = tier_by_glue glue }) h) e in (
      ap (λ (x : Header). is_tier x.tier Irred) is ∙ tier-redundant glue
          ∙ sym (not-first (is_tier h.tier Irred) (nat_lt glue h.glue) e),
      ap (λ (x : Header). x.deleted) is,
    ))
    (λ e.
    let is : improved glue h ≡ h = ap (λ b. cond b (record h { glue = glue; tier = tier_by_glue glue }) h) e in
    (ap (λ (x : Header). is_tier x.tier Irred) is, ap (λ (x : Header). x.deleted) is))
    (cases_Bool (is_improved glue h))

held-same : (k : StoredClause) (glue : ℕ) → held_clause (record k { header = noted glue k.header }) ≡ held_clause k
held-same k glue =
    let i = improved-held glue k.header in
    ap₂ (λ (a b : Bool). record { placed = record { place = k.place; kept = record { clause = k.literals; learned = not a } }; deleted = b }) i.0 i.1

-- The clauses keep their places and their literals, and none is deleted.
pub clause-held : (nodes : List ImplNode) (p : ℕ) (x : Scored) → map held_clause (clause_bumped nodes p x).clauses ≡ map held_clause x.clauses
clause-held nodes p x =
    let glue : ℕ = glue_of nodes (literals_at x.clauses p) in
    let ks : List StoredClause = with_header x.clauses p (noted glue (header_at x.clauses p)) in
    bump-same held_clause p (record x { clauses = ks }) (λ k n. refl)
    ∙ with-same-look held_clause x.clauses p (record (stored_at x.clauses p) { header = noted glue (header_at x.clauses p) })
    (held-same (stored_at x.clauses p) glue)

pub bumped-snoc : (nodes : List ImplNode) (names : List Conflict) (f : Conflict) (x : Scored) →
    clauses_bumped nodes (names ++ f ∷ []) x ≡ clauses_bumped nodes (f ∷ []) (clauses_bumped nodes names x)
bumped-snoc nodes [] f x = refl
bumped-snoc nodes (conflict.Binary ms ∷ names) f x = bumped-snoc nodes names f x
bumped-snoc nodes (conflict.Long p ∷ names) f x = bumped-snoc nodes names f (clause_bumped nodes p x)

-- The store and the scale after the first of the named clauses were bumped.
pub record AreBumped (nodes : List ImplNode) (names : List Conflict) (s t : Store) (d : Database) (a b : ActivityScale) : Type 0 where
  pub store : HoldsClauses t (length s.words) (clauses_bumped nodes names (scored s a)).clauses
  pub scale : b ≡ (clauses_bumped nodes names (scored s a)).scale
  pub held : map held_clause (stored_clauses t) ≡ map held_clause (stored_clauses s)
  pub tracks : Tracks d t

pub none-bumped : (nodes : List ImplNode) (s : Store) (d : Database) (a : ActivityScale) → Tracks d s → AreBumped nodes [] s s d a a
none-bumped nodes s d a t = record { store = record { sound = t.sound; words = refl; clauses = refl }; scale = refl; held = refl; tracks = t }

module _ {nodes : List ImplNode} {names : List Conflict} {s t : Store} {d : Database} {a b : ActivityScale} (k : AreBumped nodes names s t d a b) where
  -- the clauses that are not deleted
  pub bumped-headers : SameButHeaders (live_clauses s) (live_clauses t)
  bumped-headers = live-headers (stored_clauses s) (stored_clauses t) k.held

  -- a clause that was named is there still
  pub bumped-live : (p : ℕ) → IsClauseRef (live_clauses s) p → IsClauseRef (live_clauses t) p
  bumped-live p h = headers-place (live_clauses s) (live_clauses t) p bumped-headers h

  pub bumped-place : (p : ℕ) → IsClauseRef (live_clauses s) p → IsClauseRef (stored_clauses t) p
  bumped-place p h = live-place (stored_clauses t) p (bumped-live p h)

  pub bumped-undeleted : (p : ℕ) → IsClauseRef (live_clauses s) p → (header_at (stored_clauses t) p).deleted ≡ false
  bumped-undeleted p h =
      ap (λ (x : StoredClause). x.header.deleted) (live-stored t p k.store.sound (bumped-live p h))
      ∙ (live-∈ (stored_clauses t) (stored_at (live_clauses t) p) (stored-∈ (live_clauses t) p (bumped-live p h))).1

  pub bumped-literals : (p : ℕ) → IsClauseRef (live_clauses s) p → literals_at (stored_clauses t) p ≡ literals_at (live_clauses s) p
  bumped-literals p h = live-literals t p k.store.sound (bumped-live p h) ∙ headers-at (live_clauses s) (live_clauses t) bumped-headers p

  -- one more clause, which is not one of the store, or is
  pub other-bumped : (f : Conflict) → ((p : ℕ) → f ≡ conflict.Long p → ⊥) → AreBumped nodes (names ++ f ∷ []) s t d a b
  other-bumped (conflict.Long p) n = absurd (n p refl)
  other-bumped (conflict.Binary ms) n = record {
    store = subst (λ (x : Scored). HoldsClauses t (length s.words) x.clauses) (sym (bumped-snoc nodes names (conflict.Binary ms) (scored s a))) k.store;
    scale = k.scale ∙ sym (ap (λ (x : Scored). x.scale) (bumped-snoc nodes names (conflict.Binary ms) (scored s a)));
    held = k.held;
    tracks = k.tracks;
  }

  pub long-bumped : (p : ℕ) (u : Store) (e : Database) (c : ActivityScale) →
      HoldsClauses u (length t.words) (clause_bumped nodes p (scored t b)).clauses → c ≡ (clause_bumped nodes p (scored t b)).scale → Tracks e u →
      AreBumped nodes (names ++ conflict.Long p ∷ []) s u e a c
  long-bumped p u e c o q r =
      let before : scored t b ≡ clauses_bumped nodes names (scored s a) =
      ap₂ (λ (ks : List StoredClause) (y : ActivityScale). record { clauses = ks; scale = y }) k.store.clauses k.scale in
      let after : clause_bumped nodes p (scored t b) ≡ clauses_bumped nodes (names ++ conflict.Long p ∷ []) (scored s a) =
      ap (clause_bumped nodes p) before ∙ sym (bumped-snoc nodes names (conflict.Long p) (scored s a)) in
      record {
        store = record { sound = o.sound; words = o.words ∙ k.store.words; clauses = o.clauses ∙ ap (λ (x : Scored). x.clauses) after };
        scale = q ∙ ap (λ (x : Scored). x.scale) after;
        held = ap (map held_clause) o.clauses ∙ clause-held nodes p (scored t b) ∙ k.held;
        tracks = r;
      }

-- The activities decay.
pub decay-tracks : (d : Database) (s t : Store) (full : Bool) → Tracks d s →
    HoldsClauses t (length s.words) (clauses_rescaled full (stored_clauses s)) → Tracks d t
decay-tracks d s t full k o = tracks-read d s t k o.sound (ap (map tracked) o.clauses ∙ rescaled-same tracked full (stored_clauses s) (λ x. refl))

pub decay-headers : (s t : Store) (full : Bool) → HoldsClauses t (length s.words) (clauses_rescaled full (stored_clauses s)) →
    SameButHeaders (live_clauses s) (live_clauses t)
decay-headers s t full o = live-headers (stored_clauses s) (stored_clauses t)
    (ap (map held_clause) o.clauses ∙ rescaled-same held_clause full (stored_clauses s) (λ x. refl))
