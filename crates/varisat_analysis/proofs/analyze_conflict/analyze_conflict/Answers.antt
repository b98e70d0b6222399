use Rattle.std.proofs.lemmas.Grind.{common_steps}
use Rattle.std.proofs.Common.{◌≡◌, false, length, drop, get_or, refl, sym, ap, ◌∙◌, subst, arith}
use Rattle.varisat_analysis.specs.Learned.{Analysis}
use Rattle.varisat_analysis.proofs.AnalysisFlags.{given-back}
use Rattle.varisat_analysis.proofs.AnalysisResult.{learned-at-zero, met-none}
use Rattle.varisat_analysis.proofs.analyze_conflict.analyze_conflict.Goals as goal

pub returns-then-current_level-eq0-clause-learned : goal.returns-then-current_level-eq0-clause-learned
returns-then-current_level-eq0-clause-learned g c =
    let (_, (shows, (well, (_, (conflict, _))))) = c.requires in
    learned-at-zero g.s well c.args.conflict c.clear.new.self.items 0 conflict
    (sym (ap (λ x. length x) shows.decisions_are) ∙ sym c.current_level.ensures ∙ c.if-current_level-eq0.true) c.clear.ensures.items refl

pub returns-then-current_level-eq0-clause-met : goal.returns-then-current_level-eq0-clause-met
returns-then-current_level-eq0-clause-met g c = met-none g.s c.clear-2.new.self.items c.clear-3.new.self.items c.clear-2.ensures.items c.clear-3.ensures.items

pub learn_and_clear-requires : goal.learn_and_clear-requires
learn_and_clear-requires g c κs within =
    let (_, (shows, (well, (settled, (conflict, flags))))) = c.requires in
    let value = ap (λ x. length x) c.deref_mut.ensures.value in
    let count = ap (λ (x : Analysis). x.var_count) c.analyze.view_is in
    let nodes = ap (λ x. length x) shows.nodes_are in
    let decisions = ap (λ x. length x) shows.decisions_are in
    let level = c.if-current_level-eq0.false in (
      within,
      record {
        can = record {
          sees = record {
            well = well;
            sound = shows.sound;
            clauses_are = shows.clauses_are;
            nodes_are = shows.nodes_are;
            trail_is =
                shows.trail_is;
            decisions_are = shows.decisions_are;
          };
          flags_are = omega (arith, value, count, flags, nodes);
        };
        conflict = record { settled = settled; conflict = conflict; deep = omega (arith, level, c.current_level.ensures, decisions) };
        clean = record {
          unmarked = λ v. subst (λ x. get_or x v false ≡ false) (sym c.deref_mut.ensures.value) (c.analyze.invariant v);
          clause =
              c.clear.ensures.items;
          involved = c.clear-2.ensures.items;
          met = c.clear-3.ensures.items;
          to_clean = c.clear-4.ensures.items;
        };
      },
    )

pub invariant_of-analyze-2 : goal.invariant_of-analyze-2
invariant_of-analyze-2 g c =
    let long = c.learn_and_clear.auto.var_flags in
    let value = ap (λ x. length x) c.deref_mut.ensures.value in
    let count = c.analyze.inside.var_flags.ok.0 in
    given-back c.learn_and_clear.new.var_flags (drop (length c.learn_and_clear.new.var_flags) c.analyze.inside.var_flags.items)
    c.analyze.inside.var_flags.len (omega (arith, long, value, count)) c.learn_and_clear.ensures.unmarked

pub invariant_of-analyze-in_err-level : goal.invariant_of-analyze-in_err-level
invariant_of-analyze-in_err-level g c = grind (arith, common_steps)

pub returns-in_err-level-clause-count : goal.returns-in_err-level-clause-count
returns-in_err-level-clause-count g c = grind (arith, common_steps)

pub returns-clause-count : goal.returns-clause-count
returns-clause-count g c = grind (arith, common_steps)
