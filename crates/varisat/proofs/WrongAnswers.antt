-- No story fits these wrong answers.
use Rattle.std.proofs.Common.{◌≡◌, Bool, true, false, [], ◌∷◌, ◌++◌, inl, inr, sym, ap, ◌∙◌, subst, refl, Option, Some, None, Ok, Err, not, nat_eq, arith}
use Rattle.varisat_theory.specs.promises.Membership.{◌∈◌}
use Rattle.varisat_theory.specs.promises.Literals.{Literal, Clause, Assignment, value, IsSatisfiable, IsSatisfiableWith, SatisfiesAll, MakesTrue}
use Rattle.varisat_formula.specs.promises.Streams.{Input}
use Rattle.varisat_formula.specs.promises.Formulas.{Formula}
use Rattle.varisat_formula.specs.promises.Dimacs.{Reading, dimacs}
use Rattle.varisat_formula.proofs.ParsedSources.{GivesWhole, gives_whole}
use Rattle.varisat.specs.promises.Answers.{Story, empty_story, with_names, with_clause, with_assumptions, Accepts, Joined, PassedOver, AcceptsAll, ToItsEnd, ToARefusal, EndsText, IsTrueModel, IsTrueCore}
use Rattle.varisat_formula.specs.declared.dimacs.error.DimacsError.{DimacsError}
use Rattle.varisat_solver.specs.promises.Names.{name_one, free_name}
use Rattle.varisat.specs.inside.WrongAnswers.{Literals, FitNoStory, WrongAnswersFitNoStory}
use Rattle.varisat.specs.declared.session.Call.TheVariants as call
use Rattle.varisat.specs.declared.session.Answer.TheVariants as answer
use Rattle.varisat_solver.specs.declared.solver.SolverError.TheVariants.{OutOfMemory, Dimacs}

-- what an assignment makes of three literals
at-zero : (a : Assignment) → value a 0 ≡ a 0
unfolding value
at-zero a = refl

at-one : (a : Assignment) → value a 1 ≡ not (a 0)
unfolding value
at-one a = refl

at-two : (a : Assignment) → value a 2 ≡ a 1
unfolding value
at-two a = refl

nothing-satisfied : IsSatisfiable []
nothing-satisfied = ((λ i. true), (λ c h. absurd h))

-- a first clause joins
first : (c : Clause) (t : Story) → Accepts empty_story c t → t ≡ with_clause c empty_story
first c t (Joined e) = e
first c t (PassedOver n e) = absurd (n nothing-satisfied)

unit-satisfied : IsSatisfiable ((0 ∷ []) ∷ [])
unit-satisfied = ((λ i. true), go)
  where
    go : (c : Clause) → c ∈ ((0 ∷ []) ∷ []) → (l : Literal) × (l ∈ c) × (value (λ i. true) l ≡ true)
    go c (inl e) = subst (λ x. (l : Literal) × (l ∈ x) × (value (λ i. true) l ≡ true)) (sym e) (0, inl refl, at-zero (λ i. true))
    go c (inr h) = absurd h

-- no assignment satisfies both
clashes : (a : Assignment) → SatisfiesAll a ((0 ∷ []) ∷ (1 ∷ []) ∷ []) → ⊥
clashes a h =
    let (l, k, e) = h (0 ∷ []) (inl refl) in
    let (n, q, f) = h (1 ∷ []) (inr (inl refl)) in
    last l n k q e f
  where
    two : (b : Bool) → b ≡ true → not b ≡ true → ⊥
    two true x y = let z : false ≡ true = y in cc
    two false x y = let z : false ≡ true = x in cc

    last : (l n : Literal) → l ∈ (0 ∷ []) → n ∈ (1 ∷ []) → value a l ≡ true → value a n ≡ true → ⊥
    last l n (inl e) (inl f) x y =
        two (a 0) (sym (at-zero a) ∙ subst (λ z. value a z ≡ true) e x) (sym (at-one a) ∙ subst (λ z. value a z ≡ true) f y)
    last l n (inl e) (inr f) x y = absurd f
    last l n (inr e) f x y = absurd e

-- 1. Models.

left-out : (c m : Literals) → c.items ≡ 0 ∷ [] → m.items ≡ [] → FitNoStory (call.AddClause c ∷ call.Solve ∷ call.Model ∷ [])
    (answer.AddClause (Ok tt) ∷ answer.Solve (Ok true) ∷ answer.Model (Ok (Some m)) ∷ [])
left-out c m ec em (s, (v, a), (t, (w, (sat, et)), (u, (model, eu), rest))) =
    let es : s ≡ with_clause (0 ∷ []) empty_story = subst (λ x. s ≡ with_clause x empty_story) ec (first c.items s a) in
    let now : t ≡ record (with_clause (0 ∷ []) empty_story) { found = Some true } = et ∙ ap (λ (x : Story). record x { found = Some true }) es in
    let is : IsTrueModel (record (with_clause (0 ∷ []) empty_story) { found = Some true }) (Some []) =
    subst (λ x. IsTrueModel x (Some [])) now (subst (λ x. IsTrueModel t (Some x)) em model) in
    let (l, h, e) = is.1.all_listed 0 0 refl in h

without-model : FitNoStory (call.Solve ∷ call.Model ∷ []) (answer.Solve (Ok true) ∷ answer.Model (Ok None) ∷ [])
without-model (t, (w, (sat, et)), (u, (model, eu), rest)) = model (ap (λ (x : Story). x.found) et)

hidden : (c m : Literals) → c.items ≡ 0 ∷ [] → m.items ≡ 0 ∷ [] →
    FitNoStory (call.AddClause c ∷ call.HideVar 0 ∷ call.Solve ∷ call.Model ∷ [])
    (answer.AddClause (Ok tt) ∷ answer.HideVar (Ok tt) ∷ answer.Solve (Ok true) ∷ answer.Model (Ok (Some m)) ∷ [])
hidden c m ec em (s, (v, a), (t, (w, et), (u, (x, (sat, eu)), (q, (model, eq), rest)))) =
    let es : s ≡ with_clause (0 ∷ []) empty_story = subst (λ x. s ≡ with_clause x empty_story) ec (first c.items s a) in
    let hide : Story → Story = λ y. with_names (free_name 0 (name_one 0 y.naming)) y in
    let now : u ≡ record (hide (with_clause (0 ∷ []) empty_story)) { found = Some true } =
    eu ∙ ap (λ (x : Story). record x { found = Some true }) (et ∙ ap hide es) in
    let is : IsTrueModel (record (hide (with_clause (0 ∷ []) empty_story)) { found = Some true }) (Some (0 ∷ [])) =
    subst (λ x. IsTrueModel x (Some (0 ∷ []))) now (subst (λ x. IsTrueModel u (Some x)) em model) in
    let (i, e) = is.1.in_use 0 (inl refl) in
    let z : None ≡ Some i = e in cc

unspoken : (m : Literals) → m.items ≡ 0 ∷ [] → FitNoStory (call.NewVar ∷ call.Solve ∷ call.Model ∷ [])
    (answer.NewVar (Ok 0) ∷ answer.Solve (Ok true) ∷ answer.Model (Ok (Some m)) ∷ [])
unspoken m em (s, (v, (least, es)), (t, (w, (sat, et)), (u, (model, eu), rest))) =
    let now : t ≡ record (with_names (name_one 0 empty_story.naming) empty_story) { found = Some true } =
    et ∙ ap (λ (x : Story). record x { found = Some true }) es in
    let is : IsTrueModel (record (with_names (name_one 0 empty_story.naming) empty_story) { found = Some true }) (Some (0 ∷ [])) =
    subst (λ x. IsTrueModel x (Some (0 ∷ []))) now (subst (λ x. IsTrueModel t (Some x)) em model) in
    let z : 0 ≡ 1 = is.1.uncounted 0 0 (inl refl) refl (λ h. h) in omega (arith, z)

-- 2. Cores.

other-core : (c d core : Literals) → c.items ≡ 1 ∷ [] → d.items ≡ 0 ∷ 2 ∷ [] → core.items ≡ 2 ∷ [] →
    FitNoStory (call.AddClause c ∷ call.Assume d ∷ call.Solve ∷ call.FailedCore ∷ [])
    (answer.AddClause (Ok tt) ∷ answer.Assume (Ok tt) ∷ answer.Solve (Ok false) ∷ answer.FailedCore (Ok (Some core)) ∷ [])
other-core c d core ec ed ek (s, (v, a), (t, (w, et), (u, (x, (sat, eu)), (q, (is, eq), rest)))) =
    let es : s ≡ with_clause (1 ∷ []) empty_story = subst (λ x. s ≡ with_clause x empty_story) ec (first c.items s a) in
    let now : u ≡ record (with_assumptions (0 ∷ 2 ∷ []) (with_clause (1 ∷ []) empty_story)) { found = Some false } =
    eu ∙ ap (λ (x : Story). record x { found = Some false }) (et ∙ ap (λ x. with_assumptions x s) ed
    ∙ ap (λ x. with_assumptions (0 ∷ 2 ∷ []) x) es) in
    let k : IsTrueCore (record (with_assumptions (0 ∷ 2 ∷ []) (with_clause (1 ∷ []) empty_story)) { found = Some false }) (Some (2 ∷ [])) =
    subst (λ x. IsTrueCore x (Some (2 ∷ []))) now (subst (λ x. IsTrueCore u (Some x)) ek is) in
    k.2.1 (odd, holds, only)
  where
    odd : Assignment
    odd = λ i. nat_eq i 1

    holds : SatisfiesAll odd ((1 ∷ []) ∷ [])
    holds e (inl h) = subst (λ x. (l : Literal) × (l ∈ x) × (value odd l ≡ true)) (sym h) (1, inl refl, at-one odd)
    holds e (inr h) = absurd h

    only : MakesTrue odd (2 ∷ [])
    only l (inl h) = subst (λ x. value odd x ≡ true) (sym h) (at-two odd)
    only l (inr h) = absurd h

without-core : (c : Literals) → FitNoStory (call.AddClause c ∷ call.Solve ∷ call.FailedCore ∷ [])
    (answer.AddClause (Ok tt) ∷ answer.Solve (Ok false) ∷ answer.FailedCore (Ok None) ∷ [])
without-core c (s, a, (t, (w, (sat, et)), (u, (core, eu), rest))) = core (ap (λ (x : Story). x.found) et)

-- 3. Verdicts.

too-false : (c : Literals) → c.items ≡ 0 ∷ [] →
    FitNoStory (call.AddClause c ∷ call.Solve ∷ []) (answer.AddClause (Ok tt) ∷ answer.Solve (Ok false) ∷ [])
too-false c ec (s, (v, a), (t, (w, (sat, et)), rest)) =
    let es : s ≡ with_clause (0 ∷ []) empty_story = subst (λ x. s ≡ with_clause x empty_story) ec (first c.items s a) in
    subst (λ (x : Story). IsSatisfiableWith x.clauses x.assumptions → ⊥) es sat (unit-satisfied.0, unit-satisfied.1, λ l h. absurd h)

old-assumptions : (c d none : Literals) → c.items ≡ 0 ∷ [] → d.items ≡ 1 ∷ [] → none.items ≡ [] →
    FitNoStory (call.AddClause c ∷ call.Assume d ∷ call.Assume none ∷ call.Solve ∷ [])
    (answer.AddClause (Ok tt) ∷ answer.Assume (Ok tt) ∷ answer.Assume (Ok tt) ∷ answer.Solve (Ok false) ∷ [])
old-assumptions c d none ec ed en (s, (v, a), (t, (w, et), (u, (x, eu), (q, (y, (sat, eq)), rest)))) =
    let es : s ≡ with_clause (0 ∷ []) empty_story = subst (λ x. s ≡ with_clause x empty_story) ec (first c.items s a) in
    let now : u ≡ with_assumptions [] (with_assumptions (1 ∷ []) (with_clause (0 ∷ []) empty_story)) =
    eu ∙ ap (λ x. with_assumptions x t) en ∙ ap (λ x. with_assumptions [] x)
    (et ∙ ap (λ x. with_assumptions x s) ed ∙ ap (λ x. with_assumptions (1 ∷ []) x) es) in
    subst (λ (x : Story). IsSatisfiableWith x.clauses x.assumptions → ⊥) now sat (unit-satisfied.0, unit-satisfied.1, λ l h. absurd h)

-- 4. Answers to other calls.

other-kind : (c : Literals) → FitNoStory (call.AddClause c ∷ []) (answer.Steps 0 ∷ [])
other-kind c (t, h, rest) = h

without-answer : FitNoStory (call.Solve ∷ []) []
without-answer h = h

behind-end : (c : Literals) (b : Bool) →
    FitNoStory (call.AddClause c ∷ call.Solve ∷ []) (answer.AddClause (Err OutOfMemory) ∷ answer.Solve (Ok b) ∷ [])
behind-end c b (s, (v, e), (t, (w, x), rest)) = let z : false ≡ true = ap (λ (x : Story). x.valid) (sym e) ∙ w in cc

model-behind-end : (c m : Literals) →
    FitNoStory (call.AddClause c ∷ call.Model ∷ []) (answer.AddClause (Err OutOfMemory) ∷ answer.Model (Ok (Some m)) ∷ [])
model-behind-end c m (s, (v, e), (t, (model, et), rest)) = let z : false ≡ true = ap (λ (x : Story). x.valid) (sym e) ∙ model.0 in cc

-- 5. Clauses that were forgotten.

-- two clauses that were accepted in turn and contradict each other
list-sat : (s : Story) → AcceptsAll empty_story ((0 ∷ []) ∷ (1 ∷ []) ∷ []) (Ok tt) s → IsSatisfiableWith s.clauses s.assumptions → ⊥
list-sat s (inl (one, a, inl (two, b, (x, e)))) sat =
    both-sat (subst (λ x. Accepts x (1 ∷ []) two) (first (0 ∷ []) one a) b) (subst (λ (x : Story). IsSatisfiableWith x.clauses x.assumptions) e sat)
  where
    both-sat : {t : Story} → Accepts (with_clause (0 ∷ []) empty_story) (1 ∷ []) t → IsSatisfiableWith t.clauses t.assumptions → ⊥
    both-sat (PassedOver n e) sat = n unit-satisfied
    both-sat {t} (Joined e) (a, h, k) = clashes a (subst (λ (x : Story). SatisfiesAll a x.clauses) e h)
list-sat s (inl (one, a, inr (f, x, refused))) sat = let z : Ok tt ≡ Err f = x in cc
list-sat s (inr (f, x, refused)) sat = let z : Ok tt ≡ Err f = x in cc

two-clauses : (c d : Literals) → c.items ≡ 0 ∷ [] → d.items ≡ 1 ∷ [] → FitNoStory (call.AddClause c ∷ call.AddClause d ∷ call.Solve ∷ [])
    (answer.AddClause (Ok tt) ∷ answer.AddClause (Ok tt) ∷ answer.Solve (Ok true) ∷ [])
two-clauses c d ec ed (s, (v, a), (t, (w, b), (u, (x, (sat, eu)), rest))) =
    list-sat t (inl (s, subst (λ x. Accepts empty_story x s) ec a, inl (t, subst (λ x. Accepts s x t) ed b, (refl, refl)))) sat

formula : (f : Formula) → f.clauses ≡ (0 ∷ []) ∷ (1 ∷ []) ∷ [] →
    FitNoStory (call.AddFormula f ∷ call.Solve ∷ []) (answer.AddFormula (Ok tt) ∷ answer.Solve (Ok true) ∷ [])
formula f ef (s, inl (v, a), (t, (w, (sat, et)), rest)) = list-sat s (subst (λ P. AcceptsAll empty_story P (Ok tt) s) ef a) sat
formula f ef (s, inr (e, refused), rest) = cc

text : (source back : Input) → source.given ≡ [] → back.given ≡ 49 ∷ 32 ∷ 48 ∷ 10 ∷ 45 ∷ 49 ∷ 32 ∷ 48 ∷ 10 ∷ [] →
    FitNoStory (call.AddDimacsCnf source ∷ call.Solve ∷ []) (answer.AddDimacsCnf (Ok tt) back ∷ answer.Solve (Ok true) ∷ [])
text source back eo en (s, inr (e, refused), rest) = cc
text source back eo en (s, inl (v, ToARefusal cs e g x a), rest) = let z : Ok tt ≡ Err e = x in cc
text source back eo en (s, inl (v, ToItsEnd reading mid g a e), (t, (w, (sat, et)), rest)) = go reading.fault refl e
  where
    is-text : (r : Reading) → (h : GivesWhole source r back) → r.clauses ≡ (0 ∷ []) ∷ (1 ∷ []) ∷ []
    is-text r h =
        let same : h.text ≡ 49 ∷ 32 ∷ 48 ∷ 10 ∷ 45 ∷ 49 ∷ 32 ∷ 48 ∷ 10 ∷ [] = sym (sym en ∙ h.reads.gave ∙ ap (λ x. x ++ h.text) eo) in
        ap (λ (x : Reading). x.clauses) (h.is ∙ ap dimacs same)

    go : (fault : Option DimacsError) → reading.fault ≡ fault → EndsText fault mid (Ok tt) s → ⊥
    go None f (x, m) =
        list-sat s (subst (λ y. AcceptsAll empty_story ((0 ∷ []) ∷ (1 ∷ []) ∷ []) (Ok tt) y) (sym m)
        (subst (λ P. AcceptsAll empty_story P (Ok tt) mid) (is-text reading (gives_whole source back reading g f)) a)) sat
    go (Some fault) f (inl (x, m)) = let z : Ok tt ≡ Err (Dimacs fault) = x in cc
    go (Some fault) f (inr (x, m)) = let z : Ok tt ≡ Err OutOfMemory = x in cc

pub wrong-answers : WrongAnswersFitNoStory
wrong-answers = (
  record { left_out = left-out; missing = without-model; hidden = hidden; unspoken = unspoken },
  record { another = other-core; missing = without-core },
  record { clause = two-clauses; formula = formula; text = text; satisfiable = too-false; replaced = old-assumptions },
  record { another = other-kind; missing = without-answer; ended = behind-end; ended_model = model-behind-end },
)
