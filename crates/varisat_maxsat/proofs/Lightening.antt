-- Charges are given up until there is a model.
use Rattle.std.proofs.Common.{◌≡◌, ℕ, Bool, true, false, List, [], ◌++◌, ⊎_elim, refl, sym, subst, arith}
use Rattle.std.specs.Prelude.{Option, Some, None, MatchOption}
use Rattle.varisat_theory.specs.promises.Membership.{◌∈◌}
use Rattle.varisat_theory.specs.promises.Literals.{Literal, Clause, Assignment, SatisfiesAll}
use Rattle.varisat_theory.proofs.clauses.Members.{∈-append_cases}
use Rattle.varisat_client.specs.promises.Pasts.{ClientPast}
use Rattle.varisat_client.specs.inside.Clients.{Client}
use Rattle.varisat_maxsat.specs.inside.Charges.{ChargesAreBelow, Exchanges, AreParted, IsSplit}
use Rattle.varisat_maxsat.specs.inside.Reductions.{IsReady, IsReadyWith, FindsModel, FindsCore, Finds, FindsWithin, FindsLightly, KeepsParted, GivesUp}
use Rattle.varisat_maxsat.specs.declared.charge.Charge.{Charge}
use Rattle.varisat_maxsat.proofs.Agreeing.{charged-append}
use Rattle.varisat_maxsat.proofs.Taking.{core-charge}

-- A search goes on for a model in which no charge is due that is left.
pub record SearchesOn (charges left given_up : List Charge) (P : List Clause) (h : Client) : Type 0 where
  pub ready : IsReadyWith P h
  pub parted : AreParted charges left given_up

both-below : (n : ℕ) (xs ys : List Charge) → ChargesAreBelow n xs → ChargesAreBelow n ys → ChargesAreBelow n (xs ++ ys)
both-below n xs ys f g c i = ⊎_elim (λ j. f c j) (λ j. g c j) (∈-append_cases c xs ys i)

parted-start : (cs left given : List Charge) → left ≡ cs → given ≡ [] → AreParted cs left given
parted-start cs left given e f =
    subst (λ x. AreParted cs x given) (sym e) (subst (AreParted cs cs) (sym f) (record {
      same = λ a. omega arith;
      left_below = λ n h. h;
      given_up_below = λ n h c i. absurd i;
    }))

parted-core : (cs left given kept failed more : List Charge) (ls : List Literal) → more ≡ given ++ failed → IsSplit ls left kept failed →
    AreParted cs left given → AreParted cs kept more
parted-core cs left given kept failed more ls e p s = subst (AreParted cs kept) (sym e) (record {
  same = λ a. let f = p.same a in let g = s.same a in let h = charged-append a given failed in omega arith;
  left_below = λ n h. p.below n (s.left_below n h);
  given_up_below = λ n h. both-below n given failed (s.given_up_below n h) (p.failed_below n (s.left_below n h));
})

parted-whole : (cs left given : List Charge) → AreParted cs left given → Exchanges cs 0 (given ++ left)
parted-whole cs left given s = record {
  same = λ a. let f = s.same a in let g = charged-append a given left in omega arith;
  below = λ n h. both-below n given left (s.given_up_below n h) (s.left_below n h);
}

-- all that are left are given up
pub all-given-up : (left given later more taken : List Charge) → taken ≡ left → more ≡ given ++ taken → later ≡ [] → KeepsParted left given later more
all-given-up left given later more taken t e f cs s =
    let x = parted-whole cs left given s in
    subst (λ y. AreParted cs y more) (sym f) (subst (AreParted cs []) (sym e) (subst (λ y. AreParted cs [] (given ++ y)) (sym t) (record {
      same = λ a. x.same a;
      left_below = λ n h c i. absurd i;
      given_up_below = x.below;
    })))

-- the charges of a core are given up
pub core-given-up : (left given kept failed later more taken core : List Charge) (P : List Clause) (h : Client) → taken ≡ left → core ≡ failed →
    more ≡ given ++ core → later ≡ kept → ((q : ClientPast) → IsReady h q → IsSplit q.core taken kept failed) → FindsCore 0 left P h →
    KeepsParted left given later more
core-given-up left given kept failed later more taken core P h t f e k split found cs s =
    subst (λ x. AreParted cs x more) (sym k)
    (subst (AreParted cs kept) (sym e) (subst (λ x. AreParted cs kept (given ++ x)) (sym f)
    (parted-core cs left given kept failed (given ++ failed) found.past.core refl
    (subst (λ x. IsSplit found.past.core x kept failed) t (split found.past found.ready)) s)))

-- a core that names no charge
pub core-nothing : (left kept failed taken : List Charge) (P : List Clause) (h : Client) → taken ≡ left → failed ≡ [] →
    ((q : ClientPast) → IsReady h q → IsSplit q.core taken kept failed) → FindsCore 0 left P h → (a : Assignment) → SatisfiesAll a P → ⊥
core-nothing left kept failed taken P h t e split found a s =
    let (c, i, v) = core-charge P found.assumed found.past.core found.failed found.from
    (subst (λ x. IsSplit found.past.core x kept failed) t (split found.past found.ready)) a s in
    subst (λ xs. c ∈ xs) e i

-- the client after a search
pub still-ready : (o : Option Bool) (t : ℕ) (cs : List Charge) (P : List Clause) (h : Client) → FindsWithin o t cs P h → IsReadyWith P h
still-ready None t cs P h f = f
still-ready (Some true) t cs P h f = let m : FindsModel t cs P h = f in record { past = m.past; ready = m.ready; clauses = m.clauses }
still-ready (Some false) t cs P h f = let m : FindsCore t cs P h = f in record { past = m.past; ready = m.ready; clauses = m.clauses }

-- a search that goes on
pub goes-on : (o : Option Bool) (t : ℕ) (cs ds : List Charge) (P : List Clause) (h i : Client) → ds ≡ cs → IsReadyWith P h →
    ((q : ClientPast) → IsReady h q → FindsWithin o t ds q.clauses i) → FindsWithin o t cs P i
goes-on o t cs ds P h i e w f =
    subst (λ x. FindsWithin o t x P i) e (subst (λ x. FindsWithin o t ds x i) w.clauses (f w.past w.ready))

pub begins : (cs left given : List Charge) (g : Client) → left ≡ cs → given ≡ [] → (p : ClientPast) → IsReady g p → SearchesOn cs left given p.clauses g
begins cs left given g e f p r = record {
  ready = record { past = p; ready = r; clauses = refl };
  parted = parted-start cs left given e f;
}

pub shares-more : (cs left given later more : List Charge) (o : Option Bool) (P : List Clause) (h i : Client) → FindsWithin o 0 left P i →
    KeepsParted left given later more → SearchesOn cs left given P h → SearchesOn cs later more P i
shares-more cs left given later more o P h i f k s = record {
  ready = still-ready o 0 left P i f;
  parted = k cs s.parted;
}

pub found-lightly : (cs left given more taken : List Charge) (P : List Clause) (h i : Client) → taken ≡ left → more ≡ given ++ taken → FindsModel 0 left P i →
    SearchesOn cs left given P h → FindsLightly cs more P i
found-lightly cs left given more taken P h i t e f s = record {
  left = left;
  finds = f;
  exchanges = subst (Exchanges cs 0) (sym e) (subst (λ x. Exchanges cs 0 (given ++ x)) (sym t) (parted-whole cs left given s.parted));
}

pub goes-to-model : (o : Option Bool) (b : Bool) (cs ds : List Charge) (P : List Clause) (h i : Client) → o ≡ Some b → b ≡ true → ds ≡ cs → IsReadyWith P h →
    ((q : ClientPast) → IsReady h q → FindsWithin o 0 ds q.clauses i) → FindsModel 0 cs P i
goes-to-model o b cs ds P h i s t e w f =
    subst (λ x. Finds x 0 cs P i) t (subst (λ x. FindsWithin x 0 cs P i) s (goes-on o 0 cs ds P h i e w f))

pub goes-to-core : (o : Option Bool) (b : Bool) (cs ds : List Charge) (P : List Clause) (h i : Client) → o ≡ Some b → b ≡ false → ds ≡ cs → IsReadyWith P h →
    ((q : ClientPast) → IsReady h q → FindsWithin o 0 ds q.clauses i) → FindsCore 0 cs P i
goes-to-core o b cs ds P h i s t e w f =
    subst (λ x. Finds x 0 cs P i) t (subst (λ x. FindsWithin x 0 cs P i) s (goes-on o 0 cs ds P h i e w f))

pub core-named : (b : Bool) (left given later more : List Charge) (P : List Clause) → b ≡ true → GivesUp b left given later more P → KeepsParted left given later more
core-named b left given later more P t h = subst (λ x. GivesUp x left given later more P) t h

pub core-unnamed : (b : Bool) (left given later more : List Charge) (P : List Clause) → b ≡ false → GivesUp b left given later more P →
    (a : Assignment) → SatisfiesAll a P → ⊥
core-unnamed b left given later more P t h = subst (λ x. GivesUp x left given later more P) t h

-- what a search for a light model returned
pub some-found : {X : Type 0} (o : Option X) (x : X) (A : Type 0) (B : X → Type 0) → o ≡ Some x → MatchOption o A B → B x
some-found o x A B e h = subst (λ y. MatchOption y A B) e h

pub none-found : {X : Type 0} (o : Option X) (A : Type 0) (B : X → Type 0) → o ≡ None → MatchOption o A B → A
none-found o A B e h = subst (λ y. MatchOption y A B) e h
