use Rattle.std.proofs.Common.{◌∙◌}
use Rattle.varisat_client.proofs.client.Client.steps.Goals as goal

pub returns : goal.returns
returns g c = rw (← c.self.view_is) (λ p st none.
    let k = st.holds none in
    let (t, r, s) = c.steps.ensures k.state k.stands in r.0 ∙ k.gave.fits.steps)
