-- What a run of a client says of how its searches end, by the calls alone.
use Rattle.std.proofs.Common.{◌≡◌, ◌≢◌, ℕ, zero, suc, ℤ, pos, negsuc, Bool, true, false, Some, None, List, [], ◌∷◌, ◌++◌, if◌then◌else◌, refl, sym, ap, ◌∙◌, subst}
use Rattle.varisat_theory.specs.promises.Literals.{Literal, IsSatisfiableWith}
use Rattle.varisat_literals.specs.promises.Numbers.{literal_numbered}
use Rattle.varisat_client.specs.promises.Pasts.{ClientPast, refuse, count, Refuses, AddsNumber, AssumesNumber, Begins, LimitsSteps, Prepares, IsSearchEnd}
use Rattle.varisat_client.specs.promises.Pasts as past
use Rattle.varisat_client.specs.promises.Runs.{Makes, MakeInTurn}
use Rattle.varisat_client.specs.promises.Given.{Given, is_zero, give, IsRightAnswer, AreDecided}
use Rattle.varisat_client.specs.declared.client.SearchEnd.{SearchEnd}
use Rattle.varisat_client.specs.declared.refusal.Refusal.{Refusal}
use Rattle.varisat_client.specs.declared.refusal.Refusal.TheVariants as refusal
use Rattle.varisat_client.specs.declared.session.Call.{Call}
use Rattle.varisat_client.specs.declared.session.Answer.{Answer}
use Rattle.varisat_client.specs.declared.session.Call.TheVariants as call
use Rattle.varisat_client.specs.declared.session.Answer.TheVariants as answer

-- what was given, as the past has it
abbrev given_in : ClientPast → Given
given_in p = record { clauses = p.clauses; clause = p.clause; assumptions = p.assumptions; assumed = p.assumed }

-- the past has what was given, as long as no call was refused
abbrev Agrees : ClientPast → Given → Type 0
Agrees p g = p.refusal ≡ None → given_in p ≡ g

zero-is : (n : ℤ) → n ≡ pos 0 → is_zero n ≡ true
zero-is n e = ap is_zero e

not-zero : (n : ℤ) → n ≢ pos 0 → is_zero n ≡ false
not-zero (pos zero) h = absurd (h refl)
not-zero (pos (suc n)) h = refl
not-zero (negsuc n) h = refl

-- a refused past agrees with anything
after-refusal : (why : Refusal) (p q : ClientPast) (g : Given) → q ≡ refuse why p → Agrees q g
after-refusal why p q g e r = let z : Some why ≡ None = sym (ap (λ (x : ClientPast). x.refusal) e) ∙ r in absurd cc

-- so does one that stays so
after-again : (p q : ClientPast) (g : Given) → p.refusal ≢ None → q ≡ p → Agrees q g
after-again p q g h e r = absurd (h (sym (ap (λ (x : ClientPast). x.refusal) e) ∙ r))

-- a call that is refused
refused-agrees : (given : List Literal) (stores : Bool) (p q : ClientPast) (g : Given) → Refuses given stores p q → Agrees q g
refused-agrees given stores p q g (past.Again h e) = after-again p q g h e
refused-agrees given stores p q g (past.Memory h within e) = after-refusal refusal.OutOfMemory p q g e
refused-agrees given stores p q g (past.Limit h l e) = after-refusal refusal.VariableLimit p q g e
refused-agrees given stores p q g (past.Full h within s e) = after-refusal refusal.ClauseStoreFull p q g e

agree-by : (q r : ClientPast) (g h : Given) → q ≡ r → given_in r ≡ h → h ≡ g → Agrees q g
agree-by q r g h e f i _ = ap given_in e ∙ f ∙ i

-- what a number makes of a clause, and of assumptions
abbrev end_clause : Given → Given
end_clause g = record g { clauses = g.clauses ++ g.clause ∷ []; clause = [] }

abbrev put_literal : ℤ → Given → Given
put_literal n g = record g { clause = g.clause ++ literal_numbered n ∷ [] }

abbrev put_assumption : ℤ → Given → Given
put_assumption n g = record g { assumptions = g.assumptions ++ literal_numbered n ∷ [] }

add-agrees : (n : ℤ) (p q : ClientPast) (g : Given) → AddsNumber n p q → Agrees p g → Agrees q (give (call.Add n) g)
add-agrees n p q g (past.PutRefused z r) a = refused-agrees [] false p q (give (call.Add n) g) r
add-agrees n p q g (past.EndRefused z r) a = refused-agrees p.clause true p q (give (call.Add n) g) r
add-agrees n p q g (past.Ended z r within e) a =
    agree-by q (record (count p.clause p) { clauses = p.clauses ++ p.clause ∷ []; clause = [] }) (give (call.Add n) g) (end_clause g) e (ap end_clause (a r))
    (sym (ap (λ b. if b then end_clause g else put_literal n g) (zero-is n z)))
add-agrees n p q g (past.Put z r e) a =
    agree-by q (record p { clause = p.clause ++ literal_numbered n ∷ [] }) (give (call.Add n) g) (put_literal n g) e (ap (put_literal n) (a r))
    (sym (ap (λ b. if b then end_clause g else put_literal n g) (not-zero n z)))

assume-agrees : (n : ℤ) (p q : ClientPast) (g : Given) → AssumesNumber n p q → Agrees p g → Agrees q (give (call.Assume n) g)
assume-agrees n p q g (past.Refused z r) a = refused-agrees [] false p q (give (call.Assume n) g) r
assume-agrees n p q g (past.Nothing z e) a =
    λ r. ap given_in e ∙ a (sym (ap (λ (x : ClientPast). x.refusal) e) ∙ r) ∙ sym (ap (λ b. if b then g else put_assumption n g) (zero-is n z))
assume-agrees n p q g (past.Put z r e) a =
    agree-by q (record p { assumptions = p.assumptions ++ literal_numbered n ∷ [] }) (give (call.Assume n) g) (put_assumption n g) e
    (ap (put_assumption n) (a r)) (sym (ap (λ b. if b then g else put_assumption n g) (not-zero n z)))

begin-agrees : (p q : ClientPast) (g : Given) → Begins p q → Agrees p g → Agrees q (give call.Begin g)
begin-agrees p q g (past.Refused r) a = refused-agrees p.assumptions false p q (give call.Begin g) r
begin-agrees p q g (past.Begun r within e) a =
    agree-by q (record (count p.assumptions p) { assumed = p.assumptions; assumptions = [] }) (give call.Begin g) (give call.Begin g) e
    (ap (λ (x : Given). record x { assumed = x.assumptions; assumptions = [] }) (a r)) refl

limit-agrees : (n : ℕ) (p q : ClientPast) (g : Given) → LimitsSteps n p q → Agrees p g → Agrees q g
limit-agrees n p q g (past.Refused h e) a = after-again p q g h e
limit-agrees n p q g (past.Limited r e) a = agree-by q (record p { limit = n; since = 0 }) g g e (a r) refl

search-agrees : (end : SearchEnd) (p q : ClientPast) (g : Given) → IsSearchEnd end p q → Agrees p g → Agrees q g
search-agrees end p q g (past.Refused o r) a = refused-agrees [] true p q g r
search-agrees end p q g (past.Satisfiable o r m few e) a = agree-by q (record p { model = q.model; steps = q.steps; since = q.since }) g g e (a r) refl
search-agrees end p q g (past.Unsatisfiable o r m few e) a = agree-by q (record p { core = q.core; steps = q.steps; since = q.since }) g g e (a r) refl
search-agrees end p q g (past.Interrupted o r m few e) a = agree-by q (record p { steps = q.steps; since = q.since }) g g e (a r) refl

same-agrees : (p q : ClientPast) (g : Given) → q ≡ p → Agrees p g → Agrees q g
same-agrees p q g e a = subst (λ x. Agrees x g) (sym e) a

prepare-agrees : (p q : ClientPast) (g : Given) → Prepares p q → Agrees p g → Agrees q g
prepare-agrees p q g (past.Refused r) a = refused-agrees [] false p q g r
prepare-agrees p q g (past.Prepared e) a = same-agrees p q g e a

-- each call moves both alike
moves-alike : (p q : ClientPast) (g : Given) (c : Call) (a : Answer) → Makes p c a q → Agrees p g → Agrees q (give c g)
moves-alike p q g (call.Add n) answer.Done m h = add-agrees n p q g m h
moves-alike p q g (call.Add n) (answer.Prepared r) m h = absurd m
moves-alike p q g (call.Add n) (answer.Search r) m h = absurd m
moves-alike p q g (call.Add n) (answer.Value r) m h = absurd m
moves-alike p q g (call.Add n) (answer.HasFailed r) m h = absurd m
moves-alike p q g (call.Add n) (answer.Refusal r) m h = absurd m
moves-alike p q g (call.Add n) (answer.Steps r) m h = absurd m
moves-alike p q g (call.Assume n) answer.Done m h = assume-agrees n p q g m h
moves-alike p q g (call.Assume n) (answer.Prepared r) m h = absurd m
moves-alike p q g (call.Assume n) (answer.Search r) m h = absurd m
moves-alike p q g (call.Assume n) (answer.Value r) m h = absurd m
moves-alike p q g (call.Assume n) (answer.HasFailed r) m h = absurd m
moves-alike p q g (call.Assume n) (answer.Refusal r) m h = absurd m
moves-alike p q g (call.Assume n) (answer.Steps r) m h = absurd m
moves-alike p q g call.Begin answer.Done m h = begin-agrees p q g m h
moves-alike p q g call.Begin (answer.Prepared r) m h = absurd m
moves-alike p q g call.Begin (answer.Search r) m h = absurd m
moves-alike p q g call.Begin (answer.Value r) m h = absurd m
moves-alike p q g call.Begin (answer.HasFailed r) m h = absurd m
moves-alike p q g call.Begin (answer.Refusal r) m h = absurd m
moves-alike p q g call.Begin (answer.Steps r) m h = absurd m
moves-alike p q g call.Prepare answer.Done m h = absurd m
moves-alike p q g call.Prepare (answer.Prepared r) m h = prepare-agrees p q g m h
moves-alike p q g call.Prepare (answer.Search r) m h = absurd m
moves-alike p q g call.Prepare (answer.Value r) m h = absurd m
moves-alike p q g call.Prepare (answer.HasFailed r) m h = absurd m
moves-alike p q g call.Prepare (answer.Refusal r) m h = absurd m
moves-alike p q g call.Prepare (answer.Steps r) m h = absurd m
moves-alike p q g call.Search answer.Done m h = absurd m
moves-alike p q g call.Search (answer.Prepared r) m h = absurd m
moves-alike p q g call.Search (answer.Search r) m h = search-agrees r p q g m h
moves-alike p q g call.Search (answer.Value r) m h = absurd m
moves-alike p q g call.Search (answer.HasFailed r) m h = absurd m
moves-alike p q g call.Search (answer.Refusal r) m h = absurd m
moves-alike p q g call.Search (answer.Steps r) m h = absurd m
moves-alike p q g (call.LimitSteps n) answer.Done m h = limit-agrees n p q g m h
moves-alike p q g (call.LimitSteps n) (answer.Prepared r) m h = absurd m
moves-alike p q g (call.LimitSteps n) (answer.Search r) m h = absurd m
moves-alike p q g (call.LimitSteps n) (answer.Value r) m h = absurd m
moves-alike p q g (call.LimitSteps n) (answer.HasFailed r) m h = absurd m
moves-alike p q g (call.LimitSteps n) (answer.Refusal r) m h = absurd m
moves-alike p q g (call.LimitSteps n) (answer.Steps r) m h = absurd m
moves-alike p q g (call.Value n) answer.Done m h = absurd m
moves-alike p q g (call.Value n) (answer.Prepared r) m h = absurd m
moves-alike p q g (call.Value n) (answer.Search r) m h = absurd m
moves-alike p q g (call.Value n) (answer.Value r) m h = same-agrees p q g m.1 h
moves-alike p q g (call.Value n) (answer.HasFailed r) m h = absurd m
moves-alike p q g (call.Value n) (answer.Refusal r) m h = absurd m
moves-alike p q g (call.Value n) (answer.Steps r) m h = absurd m
moves-alike p q g (call.HasFailed n) answer.Done m h = absurd m
moves-alike p q g (call.HasFailed n) (answer.Prepared r) m h = absurd m
moves-alike p q g (call.HasFailed n) (answer.Search r) m h = absurd m
moves-alike p q g (call.HasFailed n) (answer.Value r) m h = absurd m
moves-alike p q g (call.HasFailed n) (answer.HasFailed r) m h = same-agrees p q g m.1 h
moves-alike p q g (call.HasFailed n) (answer.Refusal r) m h = absurd m
moves-alike p q g (call.HasFailed n) (answer.Steps r) m h = absurd m
moves-alike p q g call.Refusal answer.Done m h = absurd m
moves-alike p q g call.Refusal (answer.Prepared r) m h = absurd m
moves-alike p q g call.Refusal (answer.Search r) m h = absurd m
moves-alike p q g call.Refusal (answer.Value r) m h = absurd m
moves-alike p q g call.Refusal (answer.HasFailed r) m h = absurd m
moves-alike p q g call.Refusal (answer.Refusal r) m h = same-agrees p q g m.1 h
moves-alike p q g call.Refusal (answer.Steps r) m h = absurd m
moves-alike p q g call.Steps answer.Done m h = absurd m
moves-alike p q g call.Steps (answer.Prepared r) m h = absurd m
moves-alike p q g call.Steps (answer.Search r) m h = absurd m
moves-alike p q g call.Steps (answer.Value r) m h = absurd m
moves-alike p q g call.Steps (answer.HasFailed r) m h = absurd m
moves-alike p q g call.Steps (answer.Refusal r) m h = absurd m
moves-alike p q g call.Steps (answer.Steps r) m h = same-agrees p q g m.1 h

-- a search ends as it may
search-decides : (r : SearchEnd) (p q : ClientPast) (g : Given) → IsSearchEnd r p q → Agrees p g → IsRightAnswer g (answer.Search r)
search-decides r p q g (past.Refused o e) a = subst (λ x. IsRightAnswer g (answer.Search x)) (sym o) tt
search-decides r p q g (past.Satisfiable o f m few e) a =
    let (s, makes, all, assumed) = m.satisfied in
    subst (λ x. IsRightAnswer g (answer.Search x)) (sym o) (subst (λ (x : Given). IsSatisfiableWith x.clauses x.assumed) (a f) (s, all, assumed))
search-decides r p q g (past.Unsatisfiable o f m few e) a =
    subst (λ x. IsRightAnswer g (answer.Search x)) (sym o)
    (λ h. let (s, all, assumed) = subst (λ (x : Given). IsSatisfiableWith x.clauses x.assumed) (sym (a f)) h in
    m.1 (s, all, (λ l i. assumed l (m.0 l i))))
search-decides r p q g (past.Interrupted o f m few e) a = subst (λ x. IsRightAnswer g (answer.Search x)) (sym o) tt

decides : (p q : ClientPast) (g : Given) (c : Call) (a : Answer) → Makes p c a q → Agrees p g → IsRightAnswer g a
decides p q g (call.Add n) (answer.Search r) m h = absurd m
decides p q g (call.Assume n) (answer.Search r) m h = absurd m
decides p q g call.Begin (answer.Search r) m h = absurd m
decides p q g call.Prepare (answer.Search r) m h = absurd m
decides p q g call.Search (answer.Search r) m h = search-decides r p q g m h
decides p q g (call.LimitSteps n) (answer.Search r) m h = absurd m
decides p q g (call.Value n) (answer.Search r) m h = absurd m
decides p q g (call.HasFailed n) (answer.Search r) m h = absurd m
decides p q g call.Refusal (answer.Search r) m h = absurd m
decides p q g call.Steps (answer.Search r) m h = absurd m
decides p q g c answer.Done m h = tt
decides p q g c (answer.Prepared r) m h = tt
decides p q g c (answer.Value r) m h = tt
decides p q g c (answer.HasFailed r) m h = tt
decides p q g c (answer.Refusal r) m h = tt
decides p q g c (answer.Steps r) m h = tt

pub are-decided : (p q : ClientPast) (g : Given) (calls : List Call) (answers : List Answer) → MakeInTurn p calls answers q → Agrees p g →
    AreDecided g calls answers
are-decided p q g [] [] m h = tt
are-decided p q g [] (b ∷ answers) m h = absurd m
are-decided p q g (c ∷ calls) [] m h = absurd m
are-decided p q g (c ∷ calls) (b ∷ answers) m h =
    (decides p m.0 g c b m.1 h, are-decided m.0 q (give c g) calls answers m.2 (moves-alike p m.0 g c b m.1 h))
