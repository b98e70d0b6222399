-- Runs of a client that go on.
use Rattle.std.proofs.Common.{List, [], ◌∷◌, ◌++◌, refl, subst}
use Rattle.varisat_client.specs.promises.Pasts.{ClientPast}
use Rattle.varisat_client.specs.promises.Runs.{Makes, MakeInTurn}
use Rattle.varisat_client.specs.declared.session.Call.{Call}
use Rattle.varisat_client.specs.declared.session.Answer.{Answer}

-- one more call
pub run-push : (p q r : ClientPast) (calls : List Call) (answers : List Answer) (c : Call) (a : Answer) → MakeInTurn p calls answers q → Makes q c a r →
    MakeInTurn p (calls ++ c ∷ []) (answers ++ a ∷ []) r
run-push p q r [] [] c a i m = (r, subst (λ x. Makes x c a r) i m, refl)
run-push p q r [] (b ∷ answers) c a i m = absurd i
run-push p q r (d ∷ calls) [] c a i m = absurd i
run-push p q r (d ∷ calls) (b ∷ answers) c a i m = (i.0, i.1, run-push i.0 q r calls answers c a i.2 m)
