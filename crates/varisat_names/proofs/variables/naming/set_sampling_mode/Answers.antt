use Rattle.std.proofs.Common.{sym, ap, ◌∙◌, refl, ⊎_elim}
use Rattle.varisat_names.specs.promises.VarMap.{at}
use Rattle.varisat_names.specs.inside.NamesAndModes.{LosesName, GetsName}
use Rattle.varisat_names.proofs.variables.naming.set_sampling_mode.Goals as goal

pub returns-in-Hide-clause-set : goal.returns-in-Hide-clause-set
returns-in-Hide-clause-set g c = LosesName c.in-Some.user c.in-Hide.is
    (sym (c.in-Some.ensures ∙ ap (λ m. at m c.args.global) c.user_from_global.ensures)) c.in_ok-hide-in-Hide.ensures.hidden refl

pub returns-in-Sample-mode : goal.returns-in-Sample-mode
returns-in-Sample-mode g c = record {
  set = GetsName c.in_ok-user-in-Sample-mode.user (⊎_elim (λ a e. cc) (λ a e. cc) c.in-Sample-mode.is)
      (sym (c.in-None.ensures ∙ ap (λ m. at m c.args.global) c.user_from_global.ensures)) c.in_ok-user-in-Sample-mode.ensures.shown refl;
  moves = tt;
  refused = tt;
}
