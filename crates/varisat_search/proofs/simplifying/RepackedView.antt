-- A search goes on with its clauses packed, once its reasons follow.
use Rattle.std.proofs.Common.{◌≡◌, ◌≢◌, ℕ, ◌+◌, ◌≤◌, false, true, List, [], ◌∷◌, length, map, take, drop, cond, Bool, inl, inr, ⊎_elim, refl, sym, ap, ◌∙◌, subst, arith, ◌<◌, ◌&&◌, Option, None, ◌++◌, get_or, set, ◌⊎◌, get_or-set_same, get_or-set_other}
use Rattle.std.proofs.lemmas.List.{length-take}
use Rattle.varisat_theory.specs.promises.Membership.{◌∈◌}
use Rattle.varisat_theory.proofs.clauses.Members.{equal_or_not}
use Rattle.varisat_clause.specs.Stored.{StoredClause, IsClauseRef, AreRising, literals_of, literals_at}
use Rattle.varisat_clause.specs.Stores.{Store, len_at, clause_in, FitsWords, IsSound}
use Rattle.varisat_clause.specs.Databases.{size_of}
use Rattle.varisat_clause.specs.Collected.{live_of, live_clauses, packed_at, packed}
use Rattle.varisat_clause.proofs.StoredClauses.{is-other, stored-here, stored-later, place-later}
use Rattle.varisat_analysis.specs.HeaderChanges.{kept_clause}
use Rattle.varisat_analysis.specs.Collections.{new_place, moved_reason, Repacks, repointed, repointed_each}
use Rattle.std.specs.Prelude.{is_some}
use Rattle.std.proofs.lemmas.Bool.{cases_Bool, eq-eqb}
use Rattle.varisat_theory.specs.promises.Literals.{Literal, variable_of}
use Rattle.varisat_prop.specs.declared.prop.graph.Reason.{Reason}
use Rattle.varisat_prop.specs.declared.prop.graph.ImplNode.{ImplNode}
use Rattle.varisat_prop.specs.View.{View, pairs_from, no_node, clause_at, literal_at, node_at, IsReason, WellFormed, kinds}
use Rattle.varisat_prop.specs.Watches.{literal_in}
use Rattle.varisat_prop.proofs.trails.LiteralValues.{made-inside}
use Rattle.varisat_search.specs.Seen.{kept_pair, search_of}
use Rattle.varisat_analysis.specs.Reductions.{is_clause_at, is_reason}
use Rattle.varisat_search.proofs.simplifying.ClausesExchanged.{SameReason, MayExchange, exchanged-kinds, exchanged-seen}
use Rattle.varisat_analysis.proofs.MarkedReasons.{reason-first}
use Rattle.varisat_analysis.proofs.MovedReasons.{repoint-is, repoint-not, repoint-length}
use Rattle.varisat_prop.specs.declared.prop.graph.Reason.TheVariants as reason

-- Clauses that were packed: the same ones in the same order, each at a place that is no higher.
pub packed-low : (q : ℕ) (ks : List StoredClause) (j : StoredClause) → j ∈ packed q ks → q ≤ j.place
packed-low q [] j h = absurd h
packed-low q (k ∷ ks) j (inl e) = let f = ap (λ (x : StoredClause). x.place) e in omega (arith, f)
packed-low q (k ∷ ks) j (inr h) = let a = packed-low (q + size_of k) ks j h in omega (arith, a)

pub packed-rising : (q : ℕ) (ks : List StoredClause) → AreRising (packed q ks)
packed-rising q [] = tt
packed-rising q (k ∷ ks) = ((λ j h. let a = packed-low (q + size_of k) ks j h in omega (arith, a)), packed-rising (q + size_of k) ks)

pub packed-literals-of : (q : ℕ) (ks : List StoredClause) → literals_of (packed q ks) ≡ literals_of ks
packed-literals-of q [] = refl
packed-literals-of q (k ∷ ks) = ap (λ cs. k.literals ∷ cs) (packed-literals-of (q + size_of k) ks)

-- a proof sees the same clauses
pub packed-kept : (q : ℕ) (ks : List StoredClause) → map kept_clause (packed q ks) ≡ map kept_clause ks
packed-kept q [] = refl
packed-kept q (k ∷ ks) = ap (λ cs. kept_clause k ∷ cs) (packed-kept (q + size_of k) ks)

-- none of them is deleted
pub packed-live : (q : ℕ) (ks : List StoredClause) → ((k : StoredClause) → k ∈ ks → k.header.deleted ≡ false) → live_of (packed q ks) ≡ packed q ks
packed-live q [] h = refl
packed-live q (k ∷ ks) h =
    let j : StoredClause = packed_at q k in
    ap (λ b. cond b (live_of (packed (q + size_of k) ks)) (j ∷ live_of (packed (q + size_of k) ks))) (h k (inl refl))
    ∙ ap (λ xs. j ∷ xs) (packed-live (q + size_of k) ks (λ x i. h x (inr i)))

-- a clause by its new place
pub packed-place : (q : ℕ) (ks : List StoredClause) (p : ℕ) → IsClauseRef ks p → IsClauseRef (packed q ks) (new_place ks (packed q ks) p)
    × (literals_at (packed q ks) (new_place ks (packed q ks) p) ≡ literals_at ks p)
packed-place q [] p (x, h, e) = absurd h
packed-place q (k ∷ ks) p h = ⊎_elim here (later (packed-place (q + size_of k) ks p)) (equal_or_not k.place p)
  where
    here : k.place ≡ p → IsClauseRef (packed q (k ∷ ks)) (new_place (k ∷ ks) (packed q (k ∷ ks)) p)
        × (literals_at (packed q (k ∷ ks)) (new_place (k ∷ ks) (packed q (k ∷ ks)) p) ≡ literals_at (k ∷ ks) p)
    here e =
        let f : new_place (k ∷ ks) (packed q (k ∷ ks)) p ≡ q = ap (λ b. cond b q (new_place ks (packed (q + size_of k) ks) p)) (eq-eqb k.place p e) in
        subst (λ (x : ℕ). IsClauseRef (packed q (k ∷ ks)) x × (literals_at (packed q (k ∷ ks)) x ≡ literals_at (k ∷ ks) p)) (sym f) (
          (packed_at q k, inl refl, refl),
          ap (λ (x : StoredClause). x.literals) (stored-here (packed_at q k) (packed (q + size_of k) ks) q refl)
              ∙ sym (ap (λ (x : StoredClause). x.literals) (stored-here k ks p e)),
        )

    later : (IsClauseRef ks p → IsClauseRef (packed (q + size_of k) ks) (new_place ks (packed (q + size_of k) ks) p)
        × (literals_at (packed (q + size_of k) ks) (new_place ks (packed (q + size_of k) ks) p) ≡ literals_at ks p)) → (k.place ≡ p → ⊥) →
        IsClauseRef (packed q (k ∷ ks)) (new_place (k ∷ ks) (packed q (k ∷ ks)) p)
        × (literals_at (packed q (k ∷ ks)) (new_place (k ∷ ks) (packed q (k ∷ ks)) p) ≡ literals_at (k ∷ ks) p)
    later o n =
        let f : new_place (k ∷ ks) (packed q (k ∷ ks)) p ≡ new_place ks (packed (q + size_of k) ks) p =
        ap (λ b. cond b q (new_place ks (packed (q + size_of k) ks) p)) (is-other k.place p n) in
        let ((x, i, e), r) = o (place-later k ks p h n) in
        let low = packed-low (q + size_of k) ks x i in
        let apart : q ≢ new_place ks (packed (q + size_of k) ks) p = λ z. absurd (omega (arith, low, e, z)) in
        subst (λ (y : ℕ). IsClauseRef (packed q (k ∷ ks)) y × (literals_at (packed q (k ∷ ks)) y ≡ literals_at (k ∷ ks) p)) (sym f) (
          (x, inr i, e),
          ap (λ (y : StoredClause). y.literals)
              (stored-later (packed_at q k) (packed (q + size_of k) ks) (new_place ks (packed (q + size_of k) ks) p) apart) ∙ r
              ∙ sym (ap (λ (y : StoredClause). y.literals) (stored-later k ks p n)),
        )

-- each clause of the second list stands at a place that is no higher than that of its clause in the first
abbrev pub AreBelow : List StoredClause → List StoredClause → Type 0
AreBelow [] js = Unit {0}
AreBelow (k ∷ ks) [] = ⊥
AreBelow (k ∷ ks) (j ∷ js) = (j.place ≤ k.place) × AreBelow ks js

below-from : (ws : List ℕ) (low high : ℕ) (ps : List ℕ) (q : ℕ) → FitsWords ws low high ps → q ≤ low →
    AreBelow (live_of (map (clause_in ws) ps)) (packed q (live_of (map (clause_in ws) ps)))
below-from ws low high [] q f h = tt
below-from ws low high (p ∷ ps) q f h =
    let k : StoredClause = clause_in ws p in
    let b = f.0.begins in
    let n : length k.literals ≤ len_at ws p = short (len_at ws p) (drop (p + 3) ws) in
    go k.header.deleted (omega (arith, h, b)) (below-from ws (p + 3 + len_at ws p) high ps q f.1 (omega (arith, h, b)))
    (below-from ws (p + 3 + len_at ws p) high ps (q + size_of k) f.1 (omega (arith, h, b, n)))
  where
    short : (n : ℕ) (xs : List ℕ) → length (take n xs) ≤ n
    short n xs = let e = length-take n xs in omega (arith, e)

    go : (d : Bool) → q ≤ p → AreBelow (live_of (map (clause_in ws) ps)) (packed q (live_of (map (clause_in ws) ps))) →
        AreBelow (live_of (map (clause_in ws) ps)) (packed (q + size_of (clause_in ws p)) (live_of (map (clause_in ws) ps))) →
        AreBelow (cond d (live_of (map (clause_in ws) ps)) (clause_in ws p ∷ live_of (map (clause_in ws) ps)))
        (packed q (cond d (live_of (map (clause_in ws) ps)) (clause_in ws p ∷ live_of (map (clause_in ws) ps))))
    go true l dead live = dead
    go false l dead live = (l, live)

pub packed-below : (s : Store) → IsSound s → AreBelow (live_clauses s) (packed 0 (live_clauses s))
packed-below s ok = below-from s.words 0 (length s.words) s.places 0 ok.fits (omega arith)

both : (a b : Bool) → (a && b) ≡ true → b ≡ true
both true b e = e
both false b e = absurd (let z : false ≡ true = e in cc)

-- Of the clauses `left`, those of `bs` are where they go, from the places in `ks` to those in `js`, none to a higher
-- place.
abbrev pub ToMove : List StoredClause → List StoredClause → List StoredClause → List StoredClause → Type 0
ToMove ks js [] bs = Unit {0}
ToMove ks js (a ∷ left) [] = ⊥
ToMove ks js (a ∷ left) (b ∷ bs) = (new_place ks js a.place ≡ b.place) × (b.place ≤ a.place) × ToMove ks js left bs

to-move-later : (k j : StoredClause) (ks js left bs : List StoredClause) → ((a : StoredClause) → a ∈ left → k.place < a.place) →
    ToMove ks js left bs → ToMove (k ∷ ks) (j ∷ js) left bs
to-move-later k j ks js [] bs h g = tt
to-move-later k j ks js (a ∷ left) [] h g = absurd g
to-move-later k j ks js (a ∷ left) (b ∷ bs) h g =
    let l = h a (inl refl) in (
      ap (λ o. cond o j.place (new_place ks js a.place)) (is-other k.place a.place (λ e. absurd (omega (arith, e, l))))
          ∙ g.0,
      g.1,
      to-move-later k j ks js left bs (λ x i. h x (inr i)) g.2,
    )

pub to-move : (ks js : List StoredClause) → AreRising ks → AreBelow ks js → ToMove ks js ks js
to-move [] js r b = tt
to-move (k ∷ ks) [] r b = absurd b
to-move (k ∷ ks) (j ∷ js) r b =
    (ap (λ o. cond o j.place (new_place ks js k.place)) (eq-eqb k.place k.place refl), b.0, to-move-later k j ks js ks js r.0 (to-move ks js r.1 b.1))

module _ (s : View) (w : WellFormed s) (js : List StoredClause) where
  abbrev node_in : List ImplNode → ℕ → ImplNode
  node_in ns i = get_or ns (variable_of (literal_at s i)) no_node

  abbrev moved_node : ℕ → ImplNode
  moved_node i = record (node_at s i) { reason = moved_reason s.clauses js (node_at s i).reason }

  -- the reason is a clause that is still to be moved
  record IsWaiting (ns : List ImplNode) (left : List StoredClause) (i : ℕ) : Type 0 where
    node : node_in ns i ≡ node_at s i
    place : ℕ
    reason_is : (node_at s i).reason ≡ reason.Long place
    left_is : IsClauseRef left place

  -- the reason was moved, or is no clause of the store
  record IsMoved (ns : List ImplNode) (left : List StoredClause) (i : ℕ) : Type 0 where
    node : node_in ns i ≡ moved_node i
    other : (k : StoredClause) → k ∈ left → is_clause_at (node_in ns i).reason k.place ≡ false

  -- a clause that is a reason is seen to be one
  seen-reason : (ns : List ImplNode) (k : StoredClause) (i : ℕ) → k ∈ s.clauses → i < length s.trail → node_in ns i ≡ node_at s i →
      (node_at s i).reason ≡ reason.Long k.place → is_reason s.values ns k ≡ true
  seen-reason ns k i m h e q =
      let f = reason-first s w k i m h q in
      let v : is_some (get_or s.values (variable_of (literal_in k.literals 0)) None) ≡ true =
      ap (λ (x : Literal). is_some (get_or s.values (variable_of x) None)) f ∙ ap (λ o. is_some o) (w.is_true i h) in
      let n : is_clause_at (get_or ns (variable_of (literal_in k.literals 0)) no_node).reason k.place ≡ true =
      ap (λ (x : Literal). is_clause_at (get_or ns (variable_of x) no_node).reason k.place) f
      ∙ ap (λ (x : ImplNode). is_clause_at x.reason k.place) e ∙ ap (λ x. is_clause_at x k.place) q ∙ eq-eqb k.place k.place refl in
      ap (λ b. b && is_clause_at (get_or ns (variable_of (literal_in k.literals 0)) no_node).reason k.place) v ∙ n

  same-clause : (r : Reason) (p q : ℕ) → r ≡ reason.Long p → is_clause_at r q ≡ true → p ≡ q
  same-clause r p q e t = ⊎_elim (λ f. f) (λ n. absurd (let z : true ≡ false = sym t ∙ ap (λ x. is_clause_at x q) e ∙ is-other p q n in cc)) (equal_or_not p q)

  module _ (k : StoredClause) (left : List StoredClause) (b : ℕ) (ns : List ImplNode) (m : k ∈ s.clauses)
      (goes : new_place s.clauses js k.place ≡ b) (low : b ≤ k.place) (above : (y : StoredClause) → y ∈ left → k.place < y.place)
      (size : length ns ≡ length s.values) where
    abbrev v : ℕ
    v = variable_of (literal_in k.literals 0)

    -- the clause is a reason
    module _ (is : is_reason s.values ns k ≡ true) where
      names : is_clause_at (get_or ns v no_node).reason k.place ≡ true
      names = both (is_some (get_or s.values v None)) (is_clause_at (get_or ns v no_node).reason k.place) is

      elsewhere : (i : ℕ) → variable_of (literal_at s i) ≢ v → node_in (repointed s.values ns k b) i ≡ node_in ns i
      elsewhere i n = ap (λ (xs : List ImplNode). node_in xs i) (repoint-is s.values ns k b is)
          ∙ get_or-set_other ns v (variable_of (literal_at s i)) (record (get_or ns v no_node) { reason = reason.Long b }) no_node n

      waiting-moves : (i : ℕ) → i < length s.trail → IsWaiting ns (k ∷ left) i → IsWaiting (repointed s.values ns k b) left i
          ⊎ IsMoved (repointed s.values ns k b) left i
      waiting-moves i h d = ⊎_elim here other (equal_or_not (variable_of (literal_at s i)) v)
        where
          here : variable_of (literal_at s i) ≡ v → IsWaiting (repointed s.values ns k b) left i ⊎ IsMoved (repointed s.values ns k b) left i
          here e =
              let x = variable_of (literal_at s i) in
              let at-v : get_or ns v no_node ≡ node_at s i = ap (λ (y : ℕ). get_or ns y no_node) (sym e) ∙ d.node in
              let p : d.place ≡ k.place = same-clause (get_or ns v no_node).reason d.place k.place (ap (λ (y : ImplNode). y.reason) at-v ∙ d.reason_is) names in
              let inside = made-inside s.values (literal_at s i) (w.is_true i h) in
              let new : node_in (repointed s.values ns k b) i ≡ record (node_at s i) { reason = reason.Long b } =
              ap (λ (xs : List ImplNode). node_in xs i) (repoint-is s.values ns k b is)
              ∙ ap (λ (y : ℕ). get_or (set ns v (record (get_or ns v no_node) { reason = reason.Long b })) y no_node) e
              ∙ get_or-set_same ns v (record (get_or ns v no_node) { reason = reason.Long b }) no_node (omega (arith, inside, size, e))
              ∙ ap (λ (y : ImplNode). record y { reason = reason.Long b }) at-v in
              inr record {
                node = new ∙ ap (λ r. record (node_at s i) { reason = r })
                    (ap reason.Long (sym goes ∙ ap (new_place s.clauses js) (sym p)) ∙ sym (ap (moved_reason s.clauses js) d.reason_is));
                other = λ y j. ap (λ (z : ImplNode). is_clause_at z.reason y.place) new
                    ∙ is-other b y.place (λ z. let a = above y j in absurd (omega (arith, a, z, low)));
              }

          other : (variable_of (literal_at s i) ≡ v → ⊥) → IsWaiting (repointed s.values ns k b) left i ⊎ IsMoved (repointed s.values ns k b) left i
          other n =
              inl record {
                node = elsewhere i n ∙ d.node;
                place = d.place;
                reason_is = d.reason_is;
                left_is = place-later k left d.place d.left_is
                    (λ e. n (sym (ap variable_of (reason-first s w k i m h (d.reason_is ∙ ap reason.Long (sym e))))));
              }

      moved-stays : (i : ℕ) → IsMoved ns (k ∷ left) i → IsMoved (repointed s.values ns k b) left i
      moved-stays i d =
          let n : variable_of (literal_at s i) ≢ v =
          λ e. absurd (let z : true ≡ false = sym names ∙ ap (λ (y : ℕ). is_clause_at (get_or ns y no_node).reason k.place) (sym e)
          ∙ d.other k (inl refl) in cc) in
          let e = elsewhere i n in
          record { node = e ∙ d.node; other = λ y j. ap (λ (z : ImplNode). is_clause_at z.reason y.place) e ∙ d.other y (inr j) }

    -- it is none
    module _ (is : is_reason s.values ns k ≡ false) where
      same : repointed s.values ns k b ≡ ns
      same = repoint-not s.values ns k b is

      waiting-stays : (i : ℕ) → i < length s.trail → IsWaiting ns (k ∷ left) i → IsWaiting (repointed s.values ns k b) left i
      waiting-stays i h d =
          subst (λ (xs : List ImplNode). IsWaiting xs left i) (sym same) record {
            node = d.node;
            place = d.place;
            reason_is = d.reason_is;
            left_is = place-later k left d.place d.left_is
                (λ e. absurd (let z : true ≡ false = sym (seen-reason ns k i m h d.node (d.reason_is ∙ ap reason.Long (sym e))) ∙ is in cc));
          }

      moved-too : (i : ℕ) → IsMoved ns (k ∷ left) i → IsMoved (repointed s.values ns k b) left i
      moved-too i d = subst (λ (xs : List ImplNode). IsMoved xs left i) (sym same) record { node = d.node; other = λ y j. d.other y (inr j) }

    one-moved : (i : ℕ) → i < length s.trail → IsWaiting ns (k ∷ left) i ⊎ IsMoved ns (k ∷ left) i → IsWaiting (repointed s.values ns k b) left i
        ⊎ IsMoved (repointed s.values ns k b) left i
    one-moved i h d =
        ⊎_elim
        (λ e. ⊎_elim (waiting-moves e i h) (λ x. inr (moved-stays e i x)) d)
        (λ e. ⊎_elim (λ x. inl (waiting-stays e i h x)) (λ x. inr (moved-too e i x)) d)
        (cases_Bool (is_reason s.values ns k))

  all-moved : (left bs : List StoredClause) (ns : List ImplNode) → ToMove s.clauses js left bs → AreRising left →
      ((k : StoredClause) → k ∈ left → k ∈ s.clauses) → length ns ≡ length s.values →
      ((i : ℕ) → i < length s.trail → IsWaiting ns left i ⊎ IsMoved ns left i) → (i : ℕ) → i < length s.trail →
      node_in (repointed_each s.values left bs ns) i ≡ moved_node i
  all-moved [] bs ns g r m n d i h = ⊎_elim (λ x. absurd x.left_is.1) (λ x. x.node) (d i h)
  all-moved (k ∷ left) [] ns g r m n d i h = absurd g
  all-moved (k ∷ left) (b ∷ bs) ns g r m n d i h =
      all-moved left bs (repointed s.values ns k b.place) g.2 r.1 (λ x j. m x (inr j)) (repoint-length s.values ns k b.place ∙ n)
      (λ x j. one-moved k left b.place ns (m k (inl refl)) g.0 g.1 r.0 n x j (d x j)) i h

  -- at first each clause is still to be moved
  waiting-all : (i : ℕ) → i < length s.trail → IsWaiting s.nodes s.clauses i ⊎ IsMoved s.nodes s.clauses i
  waiting-all i h = go (node_at s i).reason refl (w.reason_is i h)
    where
      go : (r : Reason) → (node_at s i).reason ≡ r → IsReason s i r → IsWaiting s.nodes s.clauses i ⊎ IsMoved s.nodes s.clauses i
      go reason.Unit e g = inr record {
        node = ap (λ x. record (node_at s i) { reason = x }) (e ∙ sym (ap (moved_reason s.clauses js) e));
        other =
            λ k j. ap (λ x. is_clause_at x k.place) e;
      }
      go (reason.Binary ms) e g = inr
          record {
            node = ap (λ x. record (node_at s i) { reason = x }) (e ∙ sym (ap (moved_reason s.clauses js) e));
            other =
                λ k j. ap (λ x. is_clause_at x k.place) e;
          }
      go (reason.Long p) e g = inl record { node = refl; place = p; reason_is = e; left_is = g.0 }

  pub reasons-moved : ToMove s.clauses js s.clauses js → (i : ℕ) → i < length s.trail → node_in (repointed_each s.values s.clauses js s.nodes) i ≡ moved_node i
  reasons-moved g = all-moved s.clauses js s.nodes g w.places (λ k h. h) w.nodes_are waiting-all

repointed-length : (values : List (Option Bool)) (ks js : List StoredClause) (ns : List ImplNode) → length (repointed_each values ks js ns) ≡ length ns
repointed-length values [] js ns = refl
repointed-length values (k ∷ ks) [] ns = refl
repointed-length values (k ∷ ks) (j ∷ js) ns = repointed-length values ks js (repointed values ns k j.place) ∙ repoint-length values ns k j.place

pub view-repacks : (s t : View) → WellFormed s → AreBelow s.clauses (packed 0 s.clauses) → t.clauses ≡ packed 0 s.clauses →
    t.nodes ≡ repointed_each s.values s.clauses t.clauses s.nodes → t ≡ record s { clauses = t.clauses; nodes = t.nodes } → Repacks s t
view-repacks s t w b e f rest = record {
  clauses = e;
  count = ap length f ∙ repointed-length s.values s.clauses t.clauses s.nodes;
  nodes = λ k h.
      ap (λ (u : View). node_at u k) rest ∙ ap (λ (ns : List ImplNode). get_or ns (variable_of (literal_at s k)) no_node) f
      ∙ reasons-moved s w t.clauses (to-move s.clauses t.clauses w.places (subst (AreBelow s.clauses) (sym e) b)) k h;
  rest = rest;
}

-- The packed clauses may stand in place of the others.
module _ (s t : View) (w : WellFormed s) (d : Repacks s t) where
  at-packed : (p : ℕ) → IsClauseRef s.clauses p → IsClauseRef t.clauses (new_place s.clauses t.clauses p)
      × (literals_at t.clauses (new_place s.clauses t.clauses p) ≡ clause_at s p)
  at-packed p h = subst (λ (ks : List StoredClause). IsClauseRef ks (new_place s.clauses ks p)
      × (literals_at ks (new_place s.clauses ks p) ≡ clause_at s p)) (sym d.clauses) (packed-place 0 s.clauses p h)

  node-is : (k : ℕ) → k < length s.trail → node_at (record s { clauses = t.clauses; nodes = t.nodes }) k ≡ record (node_at s k)
      { reason = moved_reason s.clauses t.clauses (node_at s k).reason }
  node-is k h = sym (ap (λ (u : View). node_at u k) d.rest) ∙ d.nodes k h

  same-moved : (k : ℕ) (r : Reason) → IsReason s k r → SameReason s t.clauses r (moved_reason s.clauses t.clauses r)
  same-moved k reason.Unit g = refl
  same-moved k (reason.Binary ms) g = refl
  same-moved k (reason.Long p) g = let (a, b) = at-packed p g.0 in (new_place s.clauses t.clauses p, refl, a, b)

  pub repacks-may : MayExchange s t.clauses t.nodes
  repacks-may = record {
    places = subst AreRising (sym d.clauses) (packed-rising 0 s.clauses);
    fewer = λ c h. subst (λ cs. c ∈ cs) (ap literals_of d.clauses ∙ packed-literals-of 0 s.clauses) h;
    count = d.count;
    level = λ k h. ap (λ (n : ImplNode). n.level) (node-is k h);
    depth = λ k h. ap (λ (n : ImplNode). n.depth) (node-is k h);
    same = λ k h. subst (SameReason s t.clauses (node_at s k).reason) (sym (ap (λ (n : ImplNode). n.reason) (node-is k h)))
        (same-moved k (node_at s k).reason (w.reason_is k h));
  }

  -- a proof sees nothing of it
  pub repacks-seen : search_of t ≡ search_of s
  repacks-seen =
      ap search_of d.rest ∙ exchanged-seen s t.clauses t.nodes w repacks-may
      ∙ ap (λ ks. record (search_of s) { kept = ks ++ map kept_pair (pairs_from 0 s.binary) }) (ap (map kept_clause) d.clauses ∙ packed-kept 0 s.clauses)

  pub repacks-kinds : kinds t ≡ kinds s
  repacks-kinds = ap kinds d.rest ∙ exchanged-kinds s t.clauses t.nodes w repacks-may
