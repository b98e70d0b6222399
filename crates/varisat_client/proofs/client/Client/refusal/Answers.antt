use Rattle.varisat_client.proofs.client.Client.refusal.Goals as goal

pub returns : goal.returns
returns g c = rw (← c.self.view_is) (λ p st. st.refusal)
