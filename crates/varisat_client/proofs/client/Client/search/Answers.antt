use Rattle.std.proofs.Common.{◌≡◌, false, true, refl, sym, ap, subst, ◌∙◌}
use Rattle.std.specs.Prelude.{is_some}
use Rattle.varisat_client.specs.promises.Pasts.{IsSearchEnd, Refused, Again}
use Rattle.varisat_client.specs.inside.Clients.{Client, Moves}
use Rattle.varisat_client.proofs.Moving.{stays-refused, search-stops, search-goes}
use Rattle.varisat_names.proofs.Maps.{is_none-none}
use Rattle.varisat_client.proofs.client.Client.search.Goals as goal
use Rattle.varisat_client.proofs.client.Client.search.Goals.{then-self+else-is_some-2, else-self}

pub returns-then-is_some : goal.returns-then-is_some
returns-then-is_some g c = rw (← c.self.view_is)
    (stays-refused (IsSearchEnd _) _ (sym c.is_some.ensures ∙ c.if-is_some.true) (λ p r. Refused refl (Again r refl)))

pub returns-then-is_some-2 : goal.returns-then-is_some-2
returns-then-is_some-2 g c =
    let free : is_some c.args.self.now.refusal ≡ false = ap (λ (x : Client). is_some x.refusal) (sym c.self.view_is) ∙ sym c.is_some.ensures ∙ c.if-is_some.false in
    let changed : c.args.self.now.is_changed ≡ true = ap (λ (x : Client). x.is_changed) (sym c.self.view_is) ∙ c.if-self.true in
    search-stops c.args.self.now c.give_pending.new.self free (c.give_pending.ensures changed (is_none-none _ free))
    (ap (λ (x : Client). is_some x.refusal) (sym c.self-then-self.view_is) ∙ sym c.is_some-then-self.ensures ∙ c.if-is_some-2.true)

pub returns : goal.returns
returns g c =
    let free : is_some c.args.self.now.refusal ≡ false = ap (λ (x : Client). is_some x.refusal) (sym c.self.view_is) ∙ sym c.is_some.ensures ∙ c.if-is_some.false in
    elim c.if-self.branch [
      | then-self+else-is_some-2 w ↦
          let changed : c.args.self.now.is_changed ≡ true = ap (λ (x : Client). x.is_changed) (sym c.self.view_is) ∙ w.if-self.true in
          search-goes c.seek.result c.args.self.now w.give_pending.new.self c.seek.new.self free (w.give_pending.ensures changed (is_none-none _ free))
          (ap (λ (x : Client). is_some x.refusal) (sym w.self-then-self.view_is) ∙ sym w.is_some-then-self.ensures ∙ w.if-is_some-2.false)
          (subst (λ (x : Client). x.refusal ≡ _ → x.is_changed ≡ false → Moves (IsSearchEnd c.seek.result) x c.seek.new.self) w.self-is c.seek.ensures)
      | else-self w ↦
          subst (λ (x : Client). Moves (IsSearchEnd c.seek.result) x c.seek.new.self) w.self-is
          (c.seek.ensures (ap (λ (x : Client). x.refusal) w.self-is ∙ is_none-none _ free)
          (ap (λ (x : Client). x.is_changed) (w.self-is ∙ sym c.self.view_is) ∙ w.if-self.false))
    ]
