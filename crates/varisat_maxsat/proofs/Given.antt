-- What is given to a client, and what it answers, where no call was refused.
use Rattle.std.proofs.Common.{◌≡◌, ◌≢◌, ℕ, ◌+◌, ◌-◌, ◌*◌, ◌^◌, ◌<◌, ◌↔◌, ℤ, pos, negsuc, ◌-ℤ◌, Bool, true, false, None, List, [], ◌∷◌, ◌++◌, ◌⊎◌, inl, inr, ⊎_elim, take, length, get_or, refl, sym, ap, ◌∙◌, subst, arith}
use Rattle.std.proofs.lemmas.List.{get_or_append_left, get_or_push, length-append}
use Rattle.std.proofs.lemmas.Int.{ints}
use Rattle.varisat_theory.specs.promises.Membership.{◌∈◌}
use Rattle.varisat_theory.specs.promises.Literals.{Literal, Assignment, opposite, MakesTrue, IsFailedCore}
use Rattle.varisat_theory.proofs.clauses.Values.{not_both}
use Rattle.varisat_literals.specs.promises.Numbers.{literal_numbered}
use Rattle.varisat_client.specs.promises.Pasts.{ClientPast, Refuses, count, AddsNumber, AssumesNumber, Begins, LimitsSteps, IsSearchEnd, IsFoundModel, ReturnsFailed, ReturnsValue}
use Rattle.varisat_client.specs.promises.Pasts as past
use Rattle.varisat_client.specs.inside.Clients.{Client, RepresentsPast, Moves}
use Rattle.varisat_client.specs.declared.client.SearchEnd.{SearchEnd}
use Rattle.varisat_client.specs.declared.client.SearchEnd.TheVariants as end
use Rattle.varisat_maxsat.specs.inside.Charges.{AreAssumed, IsSplit, AreValues}
use Rattle.varisat_maxsat.specs.inside.Reductions.{IsReady, with_limit, HasBegun, FindsModel, FindsCore, IsReadyWith}
use Rattle.varisat_maxsat.specs.declared.charge.Charge.{Charge}
use Rattle.varisat_maxsat.proofs.Taking.{take-item, assumes-none, assumes-one, assumes-not, splits-failed, splits-kept}

-- A clause was given as far as these literals.
pub record GivesSoFar (g : Client) (ls : List Literal) (h : Client) : Type 0 where
  pub far : (p : ClientPast) → IsReady g p →
      (q : ClientPast) × RepresentsPast h q × (q.refusal ≡ None → q ≡ record p { clause = ls })

-- Assumptions were given for these charges.
pub record AssumesSoFar (g : Client) (threshold : ℕ) (charges : List Charge) (h : Client) : Type 0 where
  pub far : (p : ClientPast) → IsReady g p →
      (q : ClientPast) × (ls : List Literal) × AreAssumed threshold charges ls × RepresentsPast h q
      × (q.refusal ≡ None → q ≡ record p { assumptions = ls })

-- what is not refused was not refused before
not-refused : (given : List Literal) (stores : Bool) (p q : ClientPast) → Refuses given stores p q → q.refusal ≡ None → ⊥
not-refused given stores p q (past.Again h e) r = h (sym (ap (λ (x : ClientPast). x.refusal) e) ∙ r)
not-refused given stores p q (past.Memory h within e) r = let z = sym (ap (λ (x : ClientPast). x.refusal) e) ∙ r in absurd cc
not-refused given stores p q (past.Limit h l e) r = let z = sym (ap (λ (x : ClientPast). x.refusal) e) ∙ r in absurd cc
not-refused given stores p q (past.Full h within s e) r = let z = sym (ap (λ (x : ClientPast). x.refusal) e) ∙ r in absurd cc

put-accepted : (n : ℤ) (p q : ClientPast) → AddsNumber n p q → n ≢ pos 0 → q.refusal ≡ None →
    (p.refusal ≡ None) × (q ≡ record p { clause = p.clause ++ literal_numbered n ∷ [] })
put-accepted n p q (past.PutRefused z r) h e = absurd (not-refused [] false p q r e)
put-accepted n p q (past.EndRefused z r) h e = absurd (h z)
put-accepted n p q (past.Ended z r within f) h e = absurd (h z)
put-accepted n p q (past.Put z r f) h e = (r, f)

end-accepted : (n : ℤ) (p q : ClientPast) → AddsNumber n p q → n ≡ pos 0 → q.refusal ≡ None →
    (p.refusal ≡ None) × (q ≡ record (count p.clause p) { clauses = p.clauses ++ p.clause ∷ []; clause = [] })
end-accepted n p q (past.PutRefused z r) h e = absurd (z h)
end-accepted n p q (past.EndRefused z r) h e = absurd (not-refused p.clause true p q r e)
end-accepted n p q (past.Ended z r within f) h e = (r, f)
end-accepted n p q (past.Put z r f) h e = absurd (z h)

assume-accepted : (n : ℤ) (p q : ClientPast) → AssumesNumber n p q → n ≢ pos 0 → q.refusal ≡ None →
    (p.refusal ≡ None) × (q ≡ record p { assumptions = p.assumptions ++ literal_numbered n ∷ [] })
assume-accepted n p q (past.Refused z r) h e = absurd (not-refused [] false p q r e)
assume-accepted n p q (past.Nothing z f) h e = absurd (h z)
assume-accepted n p q (past.Put z r f) h e = (r, f)

begin-accepted : (p q : ClientPast) → Begins p q → q.refusal ≡ None →
    (p.refusal ≡ None) × (q ≡ record (count p.assumptions p) { assumed = p.assumptions; assumptions = [] })
begin-accepted p q (past.Refused r) e = absurd (not-refused p.assumptions false p q r e)
begin-accepted p q (past.Begun r within f) e = (r, f)

-- a clause is given
pub gives-none : (g : Client) → GivesSoFar g [] g
gives-none g = record { far = λ p r. (p, r.stands, (λ e. ap (λ x. record p { clause = x }) r.clause)) }

pub gives-next : (g h i : Client) (ls : List Literal) (k : ℕ) (l : Literal) (n : ℤ) → k < length ls → l ≡ get_or ls k l → literal_numbered n ≡ l → n ≢ pos 0 →
    ((p : ClientPast) → RepresentsPast h p → (q : ClientPast) × AddsNumber n p q × RepresentsPast i q) → GivesSoFar g (take k ls) h → GivesSoFar g (take (k + 1) ls) i
gives-next g h i ls k l n b at e z moves so = record {
  far = λ p r.
      let (q, st, f) = so.far p r in
      let (u, m, su) = moves q st in (
        u,
        su,
        λ none.
            let (was, to) = put-accepted n q u m z none in
            to ∙ ap (λ (x : ClientPast). record x { clause = x.clause ++ literal_numbered n ∷ [] }) (f was)
            ∙ ap (λ x. record p { clause = take k ls ++ x ∷ [] }) e ∙ ap (λ x. record p { clause = x }) (sym (take-item ls k l b at)),
      );
}

pub gives-all : (g h i : Client) (ls taken : List Literal) → taken ≡ ls → ((p : ClientPast) → RepresentsPast h p → (q : ClientPast) × AddsNumber (pos 0) p q × RepresentsPast i q) →
    ((p : ClientPast) → RepresentsPast i p → p.refusal ≡ None) → GivesSoFar g taken h →
    (p : ClientPast) → IsReady g p → IsReady i (record (count ls p) { clauses = p.clauses ++ ls ∷ [] })
gives-all g h i ls taken whole moves accepted so p r =
    let (q, st, f) = so.far p r in
    let (u, m, su) = moves q st in
    let (was, to) = end-accepted (pos 0) q u m refl (accepted u su) in
    let e : u ≡ record (count ls p) { clauses = p.clauses ++ ls ∷ [] } = to
    ∙ ap (λ (x : ClientPast). record (count x.clause x) { clauses = x.clauses ++ x.clause ∷ []; clause = [] }) (f was)
    ∙ ap (λ x. record (count x p) { clauses = p.clauses ++ x ∷ []; clause = [] }) whole
    ∙ ap (λ x. record (count ls p) { clauses = p.clauses ++ ls ∷ []; clause = x }) (sym r.clause) in
    record {
      stands = subst (RepresentsPast i) e su;
      refusal = r.refusal;
      clause = r.clause;
      assumptions = r.assumptions;
    }

-- assumptions are given
pub assumes-start : (g : Client) (t : ℕ) → AssumesSoFar g t [] g
assumes-start g t = record { far = λ p r. (p, [], assumes-none t, r.stands, (λ e. ap (λ x. record p { assumptions = x }) r.assumptions)) }

pub assumes-next : (g h i : Client) (t : ℕ) (cs : List Charge) (k : ℕ) (c : Charge) (n : ℤ) → k < length cs → c ≡ get_or cs k c →
    literal_numbered n ≡ opposite c.literal → n ≢ pos 0 →
    ((p : ClientPast) → RepresentsPast h p → (q : ClientPast) × AssumesNumber n p q × RepresentsPast i q) → AssumesSoFar g t (take k cs) h →
    AssumesSoFar g t (take (k + 1) cs) i
assumes-next g h i t cs k c n b at e z moves so = record {
  far = λ p r.
      let (q, ls, from, st, f) = so.far p r in
      let (u, m, su) = moves q st in (
        u,
        ls ++ opposite c.literal ∷ [],
        subst (λ x. AreAssumed t x (ls ++ opposite c.literal ∷ [])) (sym (take-item cs k c b at)) (assumes-one c from),
        su,
        λ none.
            let (was, to) = assume-accepted n q u m z none in
            to ∙ ap (λ (x : ClientPast). record x { assumptions = x.assumptions ++ literal_numbered n ∷ [] }) (f was)
            ∙ ap (λ x. record p { assumptions = ls ++ x ∷ [] }) e,
      );
}

pub assumes-skip : (g h : Client) (t : ℕ) (cs : List Charge) (k : ℕ) (c : Charge) → k < length cs → c ≡ get_or cs k c → c.weight < t →
    AssumesSoFar g t (take k cs) h → AssumesSoFar g t (take (k + 1) cs) h
assumes-skip g h t cs k c b at w so = record {
  far = λ p r.
      let (q, ls, from, st, f) = so.far p r in
      (q, ls, subst (λ x. AreAssumed t x ls) (sym (take-item cs k c b at)) (assumes-not c w from), st, f);
}

pub assumed-all : (g h i : Client) (t : ℕ) (cs taken : List Charge) → taken ≡ cs → ((p : ClientPast) → RepresentsPast h p → (q : ClientPast) × Begins p q × RepresentsPast i q) →
    ((p : ClientPast) → RepresentsPast i p → p.refusal ≡ None) → AssumesSoFar g t taken h → (p : ClientPast) → IsReady g p → HasBegun t cs p i
assumed-all g h i t cs taken whole moves accepted so p r =
    let (q, ls, from, st, f) = so.far p r in
    let (u, m, su) = moves q st in
    let (was, to) = begin-accepted q u m (accepted u su) in
    let e : u ≡ record (count ls p) { assumed = ls } = to
    ∙ ap (λ (x : ClientPast). record (count x.assumptions x) { assumed = x.assumptions; assumptions = [] }) (f was)
    ∙ ap (λ x. record (count ls p) { assumed = ls; assumptions = x }) (sym r.assumptions) in
    record {
      assumed = ls;
      from = subst (λ x. AreAssumed t x ls) whole from;
      ready = record { stands = subst (RepresentsPast i) e su; refusal = r.refusal; clause = r.clause; assumptions = r.assumptions };
    }

-- how a search ends that is not refused
pub search-finds : (r : SearchEnd) (p q : ClientPast) (t : ℕ) (cs : List Charge) (h : Client) (ls : List Literal) → r ≡ end.Satisfiable → IsSearchEnd r p q →
    RepresentsPast h q → AreAssumed t cs ls → p.assumed ≡ ls → p.clause ≡ [] → p.assumptions ≡ [] → FindsModel t cs p.clauses h
search-finds r p q t cs h ls e (past.Refused o f) st from eq cl su = let z = sym o ∙ e in absurd cc
search-finds r p q t cs h ls e (past.Unsatisfiable o n m few f) st from eq cl su = let z = sym o ∙ e in absurd cc
search-finds r p q t cs h ls e (past.Interrupted o n m few f) st from eq cl su = let z = sym o ∙ e in absurd cc
search-finds r p q t cs h ls e (past.Satisfiable o n m few f) st from eq cl su = record {
  past = q;
  ready = record { stands = st; refusal = ap (λ (x : ClientPast). x.refusal) f ∙ n; clause = ap (λ (x : ClientPast). x.clause) f ∙ cl; assumptions = ap (λ (x : ClientPast). x.assumptions) f ∙ su };
  clauses = ap (λ (x : ClientPast). x.clauses) f;
  assumed = ls;
  from = from;
  found = subst (λ is. IsFoundModel p.clauses ls is q.model) (sym (ap (λ (x : ClientPast). x.counted) f))
      (subst (λ x. IsFoundModel p.clauses x p.counted q.model) eq m);
}

pub search-fails : (r : SearchEnd) (p q : ClientPast) (t : ℕ) (cs : List Charge) (h : Client) (ls : List Literal) → r ≡ end.Unsatisfiable → IsSearchEnd r p q →
    RepresentsPast h q → AreAssumed t cs ls → p.assumed ≡ ls → p.clause ≡ [] → p.assumptions ≡ [] → FindsCore t cs p.clauses h
search-fails r p q t cs h ls e (past.Refused o f) st from eq cl su = let z = sym o ∙ e in absurd cc
search-fails r p q t cs h ls e (past.Satisfiable o n m few f) st from eq cl su = let z = sym o ∙ e in absurd cc
search-fails r p q t cs h ls e (past.Interrupted o n m few f) st from eq cl su = let z = sym o ∙ e in absurd cc
search-fails r p q t cs h ls e (past.Unsatisfiable o n m few f) st from eq cl su = record {
  past = q;
  ready = record { stands = st; refusal = ap (λ (x : ClientPast). x.refusal) f ∙ n; clause = ap (λ (x : ClientPast). x.clause) f ∙ cl; assumptions = ap (λ (x : ClientPast). x.assumptions) f ∙ su };
  clauses = ap (λ (x : ClientPast). x.clauses) f;
  assumed = ls;
  from = from;
  failed = subst (λ x. IsFailedCore p.clauses x q.core) eq m;
}

pub search-stops : (r : SearchEnd) (p q : ClientPast) (h : Client) → r ≡ end.Interrupted → IsSearchEnd r p q → RepresentsPast h q → p.clause ≡ [] → p.assumptions ≡ [] →
    IsReadyWith p.clauses h
search-stops r p q h e (past.Refused o f) st cl su = let z = sym o ∙ e in absurd cc
search-stops r p q h e (past.Satisfiable o n m few f) st cl su = let z = sym o ∙ e in absurd cc
search-stops r p q h e (past.Unsatisfiable o n m few f) st cl su = let z = sym o ∙ e in absurd cc
search-stops r p q h e (past.Interrupted o n m few f) st cl su = record {
  past = q;
  ready = record { stands = st; refusal = ap (λ (x : ClientPast). x.refusal) f ∙ n; clause = ap (λ (x : ClientPast). x.clause) f ∙ cl; assumptions = ap (λ (x : ClientPast). x.assumptions) f ∙ su };
  clauses = ap (λ (x : ClientPast). x.clauses) f;
}

pub begun-stops : (t : ℕ) (cs : List Charge) (p : ClientPast) (g h : Client) (r : SearchEnd) → r ≡ end.Interrupted → HasBegun t cs p g →
    ((p : ClientPast) → RepresentsPast g p → (q : ClientPast) × IsSearchEnd r p q × RepresentsPast h q) → IsReadyWith p.clauses h
begun-stops t cs p g h r e b moves =
    let (q, m, st) = moves (record (count b.assumed p) { assumed = b.assumed }) b.ready.stands in
    search-stops r (record (count b.assumed p) { assumed = b.assumed }) q h e m st b.ready.clause b.ready.assumptions

pub begun-finds : (t : ℕ) (cs : List Charge) (p : ClientPast) (g h : Client) (r : SearchEnd) → r ≡ end.Satisfiable → HasBegun t cs p g →
    ((p : ClientPast) → RepresentsPast g p → (q : ClientPast) × IsSearchEnd r p q × RepresentsPast h q) → FindsModel t cs p.clauses h
begun-finds t cs p g h r e b moves =
    let (q, m, st) = moves (record (count b.assumed p) { assumed = b.assumed }) b.ready.stands in
    search-finds r (record (count b.assumed p) { assumed = b.assumed }) q t cs h b.assumed e m st b.from refl b.ready.clause b.ready.assumptions

pub begun-fails : (t : ℕ) (cs : List Charge) (p : ClientPast) (g h : Client) (r : SearchEnd) → r ≡ end.Unsatisfiable → HasBegun t cs p g →
    ((p : ClientPast) → RepresentsPast g p → (q : ClientPast) × IsSearchEnd r p q × RepresentsPast h q) → FindsCore t cs p.clauses h
begun-fails t cs p g h r e b moves =
    let (q, m, st) = moves (record (count b.assumed p) { assumed = b.assumed }) b.ready.stands in
    search-fails r (record (count b.assumed p) { assumed = b.assumed }) q t cs h b.assumed e m st b.from refl b.ready.clause b.ready.assumptions

-- a limit of steps
pub limited : (n m : ℕ) (g h : Client) (p : ClientPast) → IsReady g p → n ≡ m → Moves (LimitsSteps n) g h → IsReady h (with_limit m p)
limited n m g h p r same moves = let (q, k, s) = moves p r.stands in go q k s
  where
    go : (q : ClientPast) → LimitsSteps n p q → RepresentsPast h q → IsReady h (with_limit m p)
    go q (past.Refused z e) s = absurd (z r.refusal)
    go q (past.Limited z e) s = record {
      stands = subst (RepresentsPast h) (e ∙ ap (λ k. with_limit k p) same) s;
      refusal = r.refusal;
      clause = r.clause;
      assumptions = r.assumptions;
    }

-- what a core does not have
has-not-failed : (n : ℤ) (b : Bool) (p : ClientPast) → ReturnsFailed n b p → b ≡ false → n ≢ pos 0 → p.refusal ≡ None → literal_numbered n ∈ p.core → ⊥
has-not-failed n b p (past.Failed e r z i) f h k j = let z : true ≡ false = sym e ∙ f in cc
has-not-failed n b p (past.Unfailed e g) f h k j = g j
has-not-failed n b p (past.Outside e (inl z)) f h k j = h z
has-not-failed n b p (past.Outside e (inr z)) f h k j = z k

pub divides-failed : (g : Client) (cs : List Charge) (k : ℕ) (c : Charge) (kept failed more : List Charge) → k < length cs → c ≡ get_or cs k c →
    more ≡ failed ++ c ∷ [] → ((p : ClientPast) → IsReady g p → IsSplit p.core (take k cs) kept failed) →
    (p : ClientPast) → IsReady g p → IsSplit p.core (take (k + 1) cs) kept more
divides-failed g cs k c kept failed more b at e so p r =
    subst (λ x. IsSplit p.core x kept more) (sym (take-item cs k c b at))
    (subst (λ x. IsSplit p.core (take k cs ++ c ∷ []) kept x) (sym e) (splits-failed c (so p r)))

pub divides-kept : (g : Client) (cs : List Charge) (k : ℕ) (c : Charge) (kept failed more : List Charge) (n : ℤ) (x : Bool) → k < length cs → c ≡ get_or cs k c →
    more ≡ kept ++ c ∷ [] → literal_numbered n ≡ opposite c.literal → n ≢ pos 0 → ((p : ClientPast) → RepresentsPast g p → ReturnsFailed n x p) → x ≡ false →
    ((p : ClientPast) → IsReady g p → IsSplit p.core (take k cs) kept failed) → (p : ClientPast) → IsReady g p → IsSplit p.core (take (k + 1) cs) more failed
divides-kept g cs k c kept failed more n x b at e l z tells f so p r =
    subst (λ y. IsSplit p.core y more failed) (sym (take-item cs k c b at))
    (subst (λ y. IsSplit p.core (take k cs ++ c ∷ []) y failed) (sym e)
    (splits-kept c (λ i. has-not-failed n x p (tells p r.stands) f z r.refusal (subst (λ y. y ∈ p.core) (sym l) i)) (so p r)))

-- the value of a variable
number-positive : (n : ℤ) (v : ℕ) → literal_numbered n ≡ 2 * v → n ≢ pos 0 → n ≡ pos (v + 1)
number-positive (pos n) v e z = let h : n ≢ 0 = λ f. z (ap pos f) in ap pos (omega arith)
number-positive (negsuc n) v e z = absurd (omega arith)

zero-apart : (v : ℕ) → pos 0 ≡ pos (v + 1) → ⊥
zero-apart v e = let f : 0 ≡ v + 1 = cc in omega arith

negative-apart : (v : ℕ) (r : ℤ) → r ≡ pos 0 -ℤ pos (v + 1) → r ≡ pos (v + 1) → ⊥
negative-apart v r e f = omega (arith, ints)

tells-positive : (v : ℕ) (r : ℤ) (p : ClientPast) (a : Assignment) (n : ℤ) → n ≡ pos (v + 1) → ReturnsValue n r p → p.refusal ≡ None → MakesTrue a p.model →
    (r ≡ n) ↔ (literal_numbered n ∈ p.model)
tells-positive v r p a n b (past.True e k i) f t = (λ _. i, λ _. e)
tells-positive v r p a n b (past.False e k i) f t = (
  λ g. absurd (negative-apart v r (e ∙ ap (λ x. pos 0 -ℤ x) b) (g ∙ b)),
  λ j. absurd (not_both a (literal_numbered n) (t (literal_numbered n) j) (t (opposite (literal_numbered n)) i)),
)
tells-positive v r p a n b (past.Unknown e k i) f t = (λ g. absurd (zero-apart v (sym e ∙ g ∙ b)), λ j. absurd (k j))
tells-positive v r p a n b (past.Outside e (inl z)) f t = absurd (zero-apart v (sym z ∙ b))
tells-positive v r p a n b (past.Outside e (inr z)) f t = let h : negsuc (2 ^ 31 - 1) ≡ pos (v + 1) = sym z ∙ b in absurd cc
tells-positive v r p a n b (past.Refused e k) f t = absurd (k f)

value-appended : (k : ℕ) (model : List Literal) (vs : List Bool) (x : Bool) → AreValues k model vs → (x ≡ true) ↔ (2 * k ∈ model) →
    AreValues (k + 1) model (vs ++ x ∷ [])
value-appended k model vs x r h = record {
  each = length-append vs (x ∷ []) ∙ ap (λ n. n + 1) r.each;
  read = λ v b. ⊎_elim (λ i. earlier v i) (λ e. last v e) (cases v b);
}
  where
    cases : (v : ℕ) → v < k + 1 → (v < k) ⊎ (v ≡ k)
    cases v b = grind arith

    earlier : (v : ℕ) → v < k → (get_or (vs ++ x ∷ []) v false ≡ true) ↔ (2 * v ∈ model)
    earlier v i =
        let e = get_or_append_left vs (x ∷ []) false v (let l = r.each in omega arith) in
        (λ g. (r.read v i).0 (sym e ∙ g), λ j. e ∙ (r.read v i).1 j)

    last : (v : ℕ) → v ≡ k → (get_or (vs ++ x ∷ []) v false ≡ true) ↔ (2 * v ∈ model)
    last v e =
        let f = get_or_push vs x false v (r.each ∙ sym e) in
        (λ g. subst (λ n. 2 * n ∈ model) (sym e) (h.0 (sym f ∙ g)), λ j. f ∙ h.1 (subst (λ n. 2 * n ∈ model) e j))

pub values-next : (g : Client) (k : ℕ) (n r : ℤ) (x : Bool) (vs : List Bool) → literal_numbered n ≡ 2 * k → n ≢ pos 0 → (x ≡ true) ↔ (r ≡ n) →
    ((p : ClientPast) → RepresentsPast g p → ReturnsValue n r p) → ((p : ClientPast) → IsReady g p → (a : Assignment) → MakesTrue a p.model → AreValues k p.model vs) →
    (p : ClientPast) → IsReady g p → (a : Assignment) → MakesTrue a p.model → AreValues (k + 1) p.model (vs ++ x ∷ [])
values-next g k n r x vs l z same tells so p d a t =
    let e = tells-positive k r p a n (number-positive n k l z) (tells p d.stands) d.refusal t in
    value-appended k p.model vs x (so p d a t)
    (λ h. subst (λ y. y ∈ p.model) l (e.0 (same.0 h)), λ j. same.1 (e.1 (subst (λ y. y ∈ p.model) (sym l) j)))
