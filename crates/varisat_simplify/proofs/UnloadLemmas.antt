-- The live clauses as a formula.
use Rattle.std.proofs.Common.{◌≡◌, ℕ, zero, suc, ◌+◌, ◌/◌, ◌%◌, ◌<◌, ◌≤◌, Bool, true, false, nat_eq, List, [], ◌∷◌, ◌++◌, ◌⊎◌, inl, inr, ⊎_elim, sym, ap, ◌∙◌, subst, refl, length, get_or, take, take_all, append-nil, append_assoc, add-one, max, arith, get_or-set_other}
use Rattle.varisat_theory.specs.promises.Membership.{◌∈◌}
use Rattle.std.proofs.lemmas.List.{length-append}
use Rattle.std.proofs.Math.Seq.{take-append_seam}
use Rattle.varisat_theory.specs.promises.Literals.{Literal, Clause, Assignment, variable_of, SatisfiesAll}
use Rattle.varisat_theory.specs.promises.Derivations.{Line}
use Rattle.varisat_theory.specs.promises.Held.{SameClauses}
use Rattle.varisat_theory.proofs.clauses.Held.{same_clauses_find, same_clauses-back}
use Rattle.varisat_theory.proofs.clauses.Assigned.{same_set_satisfied}
use Rattle.varisat_formula.specs.promises.Formulas.{Formula, no_clauses, variables_of, with_one_more, with_more, AllBelow, AreBelow}
use Rattle.varisat_formula.proofs.FormulaBuffers.{below_more, with_more-append}
use Rattle.varisat_database.proofs.ListLemmas.{item_at}
use Rattle.varisat_theory.proofs.clauses.Members.{equal_or_not}
use Rattle.varisat_rules.specs.promises.Leading.{LeadsTo, AreNamedBy, HasVariable}
use Rattle.varisat_formula.specs.promises.Values.{assignment_of}
use Rattle.varisat_rules.specs.promises.Stacks.{extended, KeepsFrozen}
use Rattle.varisat_database.specs.Databases.{DatabaseState, clause_at}
use Rattle.varisat_rules.specs.inside.States.{flagged, live_clauses, DerivesFrom, IsGone, IsSettled, IsLaterState}
use Rattle.varisat_simplify.specs.promises.Simplified.{formula_over, literal_count, IsShorter, Finishes, IsReduced, IsMadeOf, DerivesBehind, RefutesBehind, KeepsOthers}
use Rattle.varisat_rules.proofs.StateLemmas.{clause_held, satisfies_same}
use Rattle.varisat_rules.proofs.ExtendLemmas.{amended_cases, keeps_frozen}
use Rattle.varisat_simplify.proofs.NormalLemmas.{take_next}
use Rattle.varisat_rules.proofs.LeadingLemmas.{flagged_from, named_at, derives_behind, refutes_behind}

-- the formula has the live clauses before the place, and no others
pub record Listing (s : DatabaseState) (f : Formula) (i : ℕ) : Type 0 where
  pub even : length s.live ≡ length s.clauses
  pub same : f ≡ formula_over s.var_count (flagged (take i s.live) (take i s.clauses))

largest : (n : ℕ) → max 0 n ≡ n
largest n = omega arith

over_more : (n : ℕ) (cs : List Clause) (c : Clause) → with_one_more (formula_over n cs) c ≡ formula_over n (cs ++ c ∷ [])
over_more n cs c = sym (with_more-append (record no_clauses { var_count = n }) cs c)

pub in_range : (i n m : ℕ) → i < n → n ≡ m → i < m
in_range i n m h e = omega (arith, h, e)

pub listing_first : (s : DatabaseState) (f : Formula) → length s.live ≡ length s.clauses → f ≡ record no_clauses { var_count = max 0 s.var_count } → Listing s f 0
listing_first s f v e = record {
  even = v;
  same = e ∙ ap (λ n. record no_clauses { var_count = n }) (largest s.var_count) ∙ ap (λ (cs : List Clause). formula_over s.var_count cs) (sym (none s.live s.clauses));
}
  where
    none : (bs : List Bool) (cs : List Clause) → flagged (take 0 bs) (take 0 cs) ≡ []
    none [] cs = refl
    none (b ∷ bs) cs = refl

pub flagged_next : (bs : List Bool) (cs : List Clause) (i : ℕ) (b : Bool) → length bs ≡ length cs → get_or bs i false ≡ b → i < length cs →
    flagged (take (i + 1) bs) (take (i + 1) cs) ≡ flagged (take i bs) (take i cs) ++ flagged (b ∷ []) (get_or cs i [] ∷ [])
flagged_next bs cs i b v e h = rw add-one (go bs cs i v e h)
  where
    none : {X : Type 0} (xs : List X) → take 0 xs ≡ []
    none [] = refl
    none (x ∷ xs) = refl

    go : (bs : List Bool) (cs : List Clause) (i : ℕ) → length bs ≡ length cs → get_or bs i false ≡ b → i < length cs →
        flagged (take (suc i) bs) (take (suc i) cs) ≡ flagged (take i bs) (take i cs) ++ flagged (b ∷ []) (get_or cs i [] ∷ [])
    go [] cs i v e h = absurd (omega (arith, v, h))
    go (x ∷ bs) [] i v e h = absurd (omega (arith, h))
    go (x ∷ bs) (c ∷ cs) zero v e h =
        ap (λ (l : List Bool). flagged (x ∷ l) (c ∷ take 0 cs)) (none bs) ∙ ap (λ (l : List Clause). flagged (x ∷ []) (c ∷ l)) (none cs)
        ∙ ap (λ (y : Bool). flagged (y ∷ []) (c ∷ [])) e
    go (true ∷ bs) (c ∷ cs) (suc i) v e h = ap (λ (l : List Clause). c ∷ l) (go bs cs i (omega (arith, v)) e (omega (arith, h)))
    go (false ∷ bs) (c ∷ cs) (suc i) v e h = go bs cs i (omega (arith, v)) e (omega (arith, h))

pub listing_pass : (s : DatabaseState) (f g : Formula) (i : ℕ) (b : Bool) → i < length s.clauses → g ≡ f → b ≡ get_or s.live i false → b ≡ false → Listing s f i → Listing s g (i + 1)
listing_pass s f g i b room e q n r = subst (λ (h : Formula). Listing s h (i + 1)) (sym e) (record {
  even = r.even;
  same = r.same ∙ ap (λ (cs : List Clause). formula_over s.var_count cs)
      (sym (append-nil (flagged (take i s.live) (take i s.clauses))) ∙ sym (flagged_next s.live s.clauses i false r.even (sym q ∙ n) room));
})

pub listing_add : (s : DatabaseState) (f g : Formula) (i : ℕ) (b : Bool) (c : Clause) → i < length s.clauses → g ≡ with_one_more f c → c ≡ clause_at s i → b ≡ get_or s.live i false → b ≡ true →
    Listing s f i → Listing s g (i + 1)
listing_add s f g i b c room e w q t r = subst (λ (h : Formula). Listing s h (i + 1)) (sym e) (record {
  even = r.even;
  same = ap (λ (h : Formula). with_one_more h c) r.same ∙ over_more s.var_count (flagged (take i s.live) (take i s.clauses)) c
      ∙ ap (λ (cs : List Clause). formula_over s.var_count cs) (ap (λ (x : Clause). flagged (take i s.live) (take i s.clauses) ++ x ∷ []) w
      ∙ sym (flagged_next s.live s.clauses i true r.even (sym q ∙ t) room));
})

-- behind the last place are all that are live
pub all_live : (s : DatabaseState) (i : ℕ) → i ≡ length s.clauses → length s.live ≡ length s.clauses → flagged (take i s.live) (take i s.clauses) ≡ live_clauses s
all_live s i e v =
    ap (λ (bs : List Bool). flagged bs (take i s.clauses)) (take_all i s.live (omega (arith, e, v)))
    ∙ ap (λ (cs : List Clause). flagged s.live cs) (take_all i s.clauses (omega (arith, e)))

pub listing_end : (s : DatabaseState) (f : Formula) (i : ℕ) → i ≡ length s.clauses → Listing s f i → f ≡ formula_over s.var_count (live_clauses s)
listing_end s f i e r = r.same ∙ ap (λ (cs : List Clause). formula_over s.var_count cs) (all_live s i e r.even)

-- the clauses of a formula over a count of variables, and what it counts
over_clauses : (n : ℕ) (cs : List Clause) → (formula_over n cs).clauses ≡ cs
over_clauses n cs = go (record no_clauses { var_count = n }) cs
  where
    go : (f : Formula) (cs : List Clause) → (with_more f cs).clauses ≡ f.clauses ++ cs
    go f [] = sym (append-nil f.clauses)
    go f (c ∷ cs) = go (with_one_more f c) cs ∙ append_assoc f.clauses (c ∷ []) cs

counted_all : (n : ℕ) (P Q : List Clause) → AreBelow n P → AreBelow (formula_over n Q).var_count P
counted_all n P Q b = wider n (formula_over n Q).var_count P (go (record no_clauses { var_count = n }) Q) b
  where
    go : (f : Formula) (cs : List Clause) → f.var_count ≤ (with_more f cs).var_count
    go f [] = omega arith
    go f (c ∷ cs) = let h = go (with_one_more f c) cs in omega (arith, h)

    wider : (n m : ℕ) (cs : List Clause) → n ≤ m → AreBelow n cs → AreBelow m cs
    wider n m [] h b = tt
    wider n m (c ∷ cs) h b = (below_more n m c h b.0, wider n m cs h b.1)

counted_least : (n m : ℕ) (P Q : List Clause) → n ≤ m → AreNamedBy P Q → AreBelow m P → (formula_over n Q).var_count ≤ m
counted_least n m P Q h a b = go (record no_clauses { var_count = n }) Q h (λ c l i j. let (d, k, o) = a c l i j in named_below P d l k o b)
  where
    in_clause : (c : Clause) (l : Literal) → l ∈ c → AllBelow m c → l / 2 < m
    in_clause [] l h b = absurd h
    in_clause (k ∷ c) l (inl e) b = subst (λ x. x / 2 < m) (sym e) b.0
    in_clause (k ∷ c) l (inr h) b = in_clause c l h b.1

    named_below : (cs : List Clause) (c : Clause) (l : Literal) → c ∈ cs → l ∈ c → AreBelow m cs → l / 2 < m
    named_below [] c l h i b = absurd h
    named_below (d ∷ cs) c l (inl e) i b = in_clause d l (subst (λ (x : Clause). l ∈ x) e i) b.0
    named_below (d ∷ cs) c l (inr h) i b = named_below cs c l h i b.1

    needed : (c : Clause) → ((l : Literal) → l ∈ c → l / 2 < m) → variables_of c ≤ m
    needed [] h = omega arith
    needed (l ∷ c) h = let a = h l (inl refl) in let b = needed c (λ k i. h k (inr i)) in omega (arith, a, b)

    go : (f : Formula) (cs : List Clause) → f.var_count ≤ m → ((c : Clause) (l : Literal) → c ∈ cs → l ∈ c → l / 2 < m) → (with_more f cs).var_count ≤ m
    go f [] h k = h
    go f (c ∷ cs) h k = let v = needed c (λ l i. k c l (inl refl) i) in go (with_one_more f c) cs (omega (arith, h, v)) (λ d l i j. k d l (inr i) j)

-- where the first literals of saved clauses are of other variables
keeps_value : (stack : List Clause) (vs : List Bool) (v : ℕ) → ((l : Literal) (c : Clause) → (l ∷ c) ∈ stack → l / 2 ≡ v → ⊥) →
    get_or (extended stack vs) v false ≡ get_or vs v false
keeps_value [] vs v h = refl
keeps_value ([] ∷ stack) vs v h = keeps_value stack vs v (λ l c m. h l c (inr m))
keeps_value ((l ∷ c) ∷ stack) vs v h =
    ⊎_elim (λ e. ap (λ (x : List Bool). get_or x v false) e.1)
    (λ e. ap (λ (x : List Bool). get_or x v false) e.1
    ∙ get_or-set_other (extended stack vs) (l / 2) v (nat_eq (l % 2) 0) false (λ e. h l c (inl refl) (sym e)))
    (amended_cases l c (extended stack vs))
    ∙ keeps_value stack vs v (λ k d m. h k d (inr m))

-- no extension changes a variable of a live clause
keeps_live : (t : DatabaseState) (vs : List Bool) (v : ℕ) → IsSettled t → HasVariable (live_clauses t) v →
    get_or (extended t.stack vs) v false ≡ get_or vs v false
keeps_live t vs v settled (m, (d, present, has), named) = keeps_value t.stack vs v (λ l c h e.
    let gone : IsGone t (variable_of l) = settled (l ∷ c) h in
    let k = flagged_from t.live t.clauses d present in
    gone.none k.0 m k.1 (subst (λ (y : Clause). m ∈ y) (sym k.2) has) (named ∙ sym e))

-- what the live clauses of a state make that began with those of a formula
pub made : (f g : Formula) (s t : DatabaseState) → DerivesFrom f.clauses s → AreBelow s.var_count f.clauses →
    ((n : ℕ) → AreBelow n f.clauses → s.var_count ≤ n) → s.stack ≡ [] → IsLaterState s t → g ≡ formula_over t.var_count (live_clauses t) →
    IsMadeOf f g t.stack t.lines
made f g s t o d c empty later e =
    let b = later.continues in
    let r = b.reduces f.clauses o in
    let settled = later.settles (λ x m. absurd (subst (λ (stack : List Clause). x ∈ stack) empty m)) in
    let same : g.clauses ≡ live_clauses t = ap (λ (h : Formula). h.clauses) e ∙ over_clauses t.var_count (live_clauses t) in
    let named : AreNamedBy f.clauses g.clauses = λ x l m h.
    let k = flagged_from t.live t.clauses x (subst (λ (y : List Clause). x ∈ y) same m) in
    named_at f.clauses t.clauses k.0 r.named l (subst (λ (y : Clause). l ∈ y) (sym k.2) h) in
    record {
      below = subst (λ (h : Formula). AreBelow h.var_count f.clauses) (sym e)
          (counted_all t.var_count f.clauses (live_clauses t) (subst (λ n. AreBelow n f.clauses) (sym b.count) d));
      least = λ n h. subst (λ (k : Formula). k.var_count ≤ n) (sym e)
          (counted_least t.var_count n f.clauses (live_clauses t) (subst (λ k. k ≤ n) (sym b.count) (c n h))
          (subst (λ (l : List Clause). AreNamedBy f.clauses l) same named) h);
      keeps = λ a h x m.
          let k = flagged_from t.live t.clauses x (subst (λ (l : List Clause). x ∈ l) same m) in
          satisfies_same a x (clause_at t k.0) (sym k.2) (r.keeps a h k.0 k.1);
      extends = λ vs h m. r.extends vs (let d = b.count in let x = c (length vs) h in omega (arith, x, d))
          (λ k live. m (clause_at t k) (subst (λ (l : List Clause). clause_at t k ∈ l) (sym same) (clause_held t k r.even live)));
      leads = subst (λ (l : List Clause). LeadsTo f.clauses t.lines l) (sym same) r.leads;
      kept = λ vs v h. keeps_live t vs v settled (subst (λ (l : List Clause). HasVariable l v) same h);
      named = named;
      spoken = r.spoken;
      saved = r.saved;
    }

-- a formula of the same clauses
pub made_same : (f g : Formula) → SameClauses g.clauses f.clauses → AreBelow g.var_count f.clauses → ((n : ℕ) → AreBelow n f.clauses → g.var_count ≤ n) →
    IsMadeOf f g [] []
made_same f g e b k = record {
  below = b;
  least = k;
  keeps = λ a h c m. let d = same_clauses_find g.clauses f.clauses e c m in same_set_satisfied a d.0 c d.2.0 (h d.0 d.1);
  extends = λ vs b h c m.
      let d = same_clauses_find f.clauses g.clauses (same_clauses-back g.clauses f.clauses e) c m in same_set_satisfied (assignment_of vs) d.0 c d.2.0 (h d.0 d.1);
  leads = record { present = f.clauses; steps = refl; same = e };
  kept = λ vs v h. refl;
  named = λ c l m h. let d = same_clauses_find g.clauses f.clauses e c m in (d.0, d.1, d.2.1 l h);
  spoken = tt;
  saved = λ c l m h. absurd m;
}

-- the first clauses are those that were loaded
first_loaded : (P : List Clause) (n count : ℕ) (frozen : List Bool) (both : Bool) (t : DatabaseState) → (r : IsReduced P n frozen both count t) → take count t.clauses ≡ r.loaded.clauses
first_loaded P n count frozen both t r =
    let more = r.becomes.continues.more in
    ap (λ (l : List Clause). take count l) more.1 ∙ ap (λ k. take k (r.loaded.clauses ++ more.0)) r.whole ∙ take-append_seam r.loaded.clauses more.0

first_clauses : (g : Formula) (count : ℕ) (t : DatabaseState) → g ≡ formula_over t.var_count (take count t.clauses) → g.clauses ≡ take count t.clauses
first_clauses g count t e = ap (λ (k : Formula). k.clauses) e ∙ over_clauses t.var_count (take count t.clauses)

first_same : (P : List Clause) (g : Formula) (n count : ℕ) (frozen : List Bool) (both : Bool) (t : DatabaseState) → IsReduced P n frozen both count t →
    g ≡ formula_over t.var_count (take count t.clauses) → SameClauses g.clauses P
first_same P g n count frozen both t r e =
    subst (λ (l : List Clause). SameClauses l P) (sym (first_clauses g count t e ∙ first_loaded P n count frozen both t r)) r.same

-- what is handed out has the same clauses, or is shorter
pub finished_shorter : (P : List Clause) (g : Formula) (n count : ℕ) (frozen : List Bool) (both : Bool) (t : DatabaseState) (stack : List Clause) (lines : List Line) →
    IsReduced P n frozen both count t → Finishes t count g stack lines → SameClauses g.clauses P ⊎ IsShorter g.clauses P
finished_shorter P g n count frozen both t stack lines r (inl h) =
    let left = ap literal_count (ap (λ (k : Formula). k.clauses) h.0 ∙ over_clauses t.var_count (live_clauses t)) in
    let first = ap literal_count (first_loaded P n count frozen both t r) in
    let short = h.3 in
    let fewer = r.fewer in
    inr (omega (arith, left, first, short, fewer))
finished_shorter P g n count frozen both t stack lines r (inr h) = inl (first_same P g n count frozen both t r h.0)

-- what is handed out is made of what was loaded
pub finished : (f g : Formula) (n count : ℕ) (frozen : List Bool) (both : Bool) (t : DatabaseState) (stack : List Clause) (lines : List Line) → AreBelow n f.clauses →
    ((m : ℕ) → AreBelow m f.clauses → n ≤ m) →
    IsReduced f.clauses n frozen both count t → Finishes t count g stack lines → IsMadeOf f g stack lines
finished f g n count frozen both t stack lines below least r (inl h) =
    subst (λ (st : List Clause). IsMadeOf f g st lines) (sym h.1) (subst (λ (ls : List Line). IsMadeOf f g t.stack ls) (sym h.2)
    (made f g r.loaded t r.reduces (subst (λ m. AreBelow m f.clauses) (sym r.vars) below)
    (λ m b. let v = r.vars in let l = least m b in omega (arith, v, l)) r.empty r.becomes h.0))
finished f g n count frozen both t stack lines below least r (inr h) =
    subst (λ (st : List Clause). IsMadeOf f g st lines) (sym h.1) (subst (λ (ls : List Line). IsMadeOf f g [] ls) (sym h.2)
    (made_same f g same
    (subst (λ (k : Formula). AreBelow k.var_count f.clauses) (sym h.0) (counted_all t.var_count f.clauses (take count t.clauses)
    (subst (λ m. AreBelow m f.clauses) (sym vars) below)))
    (λ m b. subst (λ (k : Formula). k.var_count ≤ m) (sym h.0) (counted_least t.var_count m f.clauses (take count t.clauses)
    (subst (λ k. k ≤ m) (sym vars) (least m b)) (subst (λ (l : List Clause). AreNamedBy f.clauses l) e
    (λ c l i j. let d = same_clauses_find g.clauses f.clauses same c i in (d.0, d.1, d.2.1 l j))) b))))
  where
    vars : t.var_count ≡ n
    vars = r.becomes.continues.count ∙ r.vars

    e : g.clauses ≡ take count t.clauses
    e = first_clauses g count t h.0

    same : SameClauses g.clauses f.clauses
    same = first_same f.clauses g n count frozen both t r h.0

-- no extension changes a frozen variable
pub stays_frozen : (P : List Clause) (s t : DatabaseState) (frozen : List Bool) → DerivesFrom P s → s.frozen ≡ frozen → IsLaterState s t → KeepsFrozen frozen t.stack
stays_frozen P s t frozen o e b = subst (λ (f : List Bool). KeepsFrozen f t.stack) (b.continues.frozen ∙ e) (keeps_frozen t.frozen t.stack (b.continues.reduces P o).thawed)

-- none that what is handed out makes
pub finished_frozen : (P : List Clause) (g : Formula) (n count : ℕ) (frozen : List Bool) (both : Bool) (t : DatabaseState) (stack : List Clause) (lines : List Line) →
    IsReduced P n frozen both count t → Finishes t count g stack lines → KeepsFrozen frozen stack
finished_frozen P g n count frozen both t stack lines r (inl h) =
    subst (λ (st : List Clause). KeepsFrozen frozen st) (sym h.1) (stays_frozen P r.loaded t frozen r.reduces r.flags r.becomes)
finished_frozen P g n count frozen both t stack lines r (inr h) = subst (λ (st : List Clause). KeepsFrozen frozen st) (sym h.1) (λ vs v e. refl)

-- what satisfies the formula satisfies the stack that is handed out, if the clauses with either literal were saved
pub finished_implied : (P : List Clause) (g : Formula) (n count : ℕ) (frozen : List Bool) (both : Bool) (t : DatabaseState) (stack : List Clause) (lines : List Line) →
    IsReduced P n frozen both count t → Finishes t count g stack lines → both ≡ true → (a : Assignment) → SatisfiesAll a P → SatisfiesAll a stack
finished_implied P g n count frozen both t stack lines r (inl h) e a s =
    subst (λ (st : List Clause). SatisfiesAll a st) (sym h.1)
    ((r.becomes.continues.reduces P r.reduces).implied (r.becomes.continues.both ∙ r.saves ∙ e) a s)
finished_implied P g n count frozen both t stack lines r (inr h) e a s = subst (λ (st : List Clause). SatisfiesAll a st) (sym h.1) (λ c m. absurd m)

-- the clauses that were loaded are among those of the state
pub reduced_room : (P : List Clause) (n count : ℕ) (frozen : List Bool) (both : Bool) (t : DatabaseState) → IsReduced P n frozen both count t → count ≤ length t.clauses
reduced_room P n count frozen both t r =
    let more = r.becomes.continues.more in
    let e = ap length more.1 ∙ length-append r.loaded.clauses more.0 in let w = r.whole in omega (arith, e, w)

-- none of the first
pub first_none : (n : ℕ) (f : Formula) (cs : List Clause) → f ≡ record no_clauses { var_count = max 0 n } → f ≡ formula_over n (take 0 cs)
first_none n f [] e = e ∙ ap (λ k. record no_clauses { var_count = k }) (largest n)
first_none n f (c ∷ cs) e = e ∙ ap (λ k. record no_clauses { var_count = k }) (largest n)

-- one clause more of the first
pub first_next : (f g : Formula) (n : ℕ) (cs : List Clause) (i : ℕ) (c : Clause) → i < length cs → g ≡ with_one_more f c → c ≡ get_or cs i [] →
    f ≡ formula_over n (take i cs) → g ≡ formula_over n (take (i + 1) cs)
first_next f g n cs i c h e q r =
    e ∙ ap (λ (x : Formula). with_one_more x c) r ∙ over_more n (take i cs) c
    ∙ ap (λ (l : List Clause). formula_over n l) (ap (λ (x : Clause). take i cs ++ x ∷ []) q ∙ sym (take_next cs i [] h))

pub others_kept : KeepsOthers
others_kept f g stack lines m vs v n =
    keeps_value stack vs v (λ l c h e. n (subst (λ u. HasVariable f.clauses u) e (m.saved (l ∷ c) l h (inl refl))))

pub derives_made : DerivesBehind
derives_made f g stack lines more m d = derives_behind f.clauses lines g.clauses more m.leads d

pub refutes_made : RefutesBehind
refutes_made f g stack lines more m r = refutes_behind f.clauses lines g.clauses more m.leads r

-- a literal of those that are below the count
pub below_at : (n : ℕ) (ls : List ℕ) (i x : ℕ) → AllBelow n ls → i < length ls → x ≡ get_or ls i x → x / 2 < n
below_at n ls i x b h e = subst (λ y. y / 2 < n) (sym e) (go ls i b h)
  where
    go : (ls : List ℕ) (i : ℕ) → AllBelow n ls → i < length ls → get_or ls i x / 2 < n
    go [] i b h = absurd (omega (arith, h))
    go (l ∷ ls) zero b h = b.0
    go (l ∷ ls) (suc i) b h = go ls i b.1 (omega (arith, h))

-- a clause and the others of those that are below the count
pub below_next : (n : ℕ) (P tail : List Clause) (c : Clause) → P ≡ c ∷ tail → AreBelow n P → AllBelow n c × AreBelow n tail
below_next n P tail c e b = subst (λ (Q : List Clause). AreBelow n Q) e b

-- literals at places of which each is below the count
pub all_below : (n : ℕ) (ls : List ℕ) → ((k : ℕ) → k < length ls → get_or ls k 0 / 2 < n) → AllBelow n ls
all_below n [] h = tt
all_below n (l ∷ ls) h = (h 0 (omega arith), all_below n ls (λ k i. h (suc k) (omega (arith, i))))

-- one place more, which is below a count as great
pub places_below : (m n x i : ℕ) (ls : List ℕ) → i < length ls → x ≡ get_or ls i x → (x / 2 < n) × (m ≤ n) → ((k : ℕ) → k < i → get_or ls k 0 / 2 < m) →
    (k : ℕ) → k < i + 1 → get_or ls k 0 / 2 < n
places_below m n x i ls room e b h k a = ⊎_elim
    (λ q. subst (λ j. get_or ls j 0 / 2 < n) (sym q) (let v = b.0 in subst (λ y. y / 2 < n) (item_at ls i x room e) v))
    (λ d. let v = h k (omega (arith, a, d)) in let w = b.1 in omega (arith, v, w))
    (equal_or_not k i)

-- all clauses are below where one is and the others are
pub below_both : (n : ℕ) (P tail : List Clause) (c : Clause) → P ≡ c ∷ tail → AllBelow n c → AreBelow n tail → AreBelow n P
below_both n P tail c e a b = subst (λ (Q : List Clause). AreBelow n Q) (sym e) (a, b)
