-- Calls of a client in turn with their answers.
use Rattle.std.specs.Prelude.{◌≡◌, None, List, [], ◌∷◌}
use Rattle.varisat_client.specs.promises.Pasts.{ClientPast, AddsNumber, AssumesNumber, Begins, LimitsSteps, Prepares, IsSearchEnd, ReturnsValue, ReturnsFailed}
use Rattle.varisat_client.specs.declared.session.Call.{Call}
use Rattle.varisat_client.specs.declared.session.Answer.{Answer}
use Rattle.varisat_client.specs.declared.session.Call.TheVariants as call
use Rattle.varisat_client.specs.declared.session.Answer.TheVariants as answer

-- Where the past was p, the call may get the answer, and then the past is q.
abbrev pub Makes : ClientPast → Call → Answer → ClientPast → Type 0
Makes p (call.Add n) answer.Done q = AddsNumber n p q
Makes p (call.Assume n) answer.Done q = AssumesNumber n p q
Makes p call.Begin answer.Done q = Begins p q
Makes p call.Prepare (answer.Prepared b) q = Prepares p q
Makes p call.Search (answer.Search r) q = IsSearchEnd r p q
Makes p (call.LimitSteps n) answer.Done q = LimitsSteps n p q
Makes p (call.Value n) (answer.Value r) q = ReturnsValue n r p × (q ≡ p)
Makes p (call.HasFailed n) (answer.HasFailed b) q = ReturnsFailed n b p × (q ≡ p)
Makes p call.Refusal (answer.Refusal why) q = (why ≡ p.refusal) × (q ≡ p)
Makes p call.Steps (answer.Steps n) q = (p.refusal ≡ None → n ≡ p.steps) × (q ≡ p)
Makes p _ _ q = ⊥

-- The calls in turn may get the answers in turn, one each, and lead from p to q.
abbrev pub MakeInTurn : ClientPast → List Call → List Answer → ClientPast → Type 0
MakeInTurn p [] [] q = q ≡ p
MakeInTurn p (c ∷ cs) (a ∷ answers) q = (mid : ClientPast) × Makes p c a mid × MakeInTurn mid cs answers q
MakeInTurn p _ _ q = ⊥
