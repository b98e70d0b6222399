-- Parts of a step in turn.
use Rattle.std.proofs.Common.{ℕ, ◌+◌, List, [], ◌++◌, refl}
use Rattle.varisat_theory.specs.promises.Derivations.{Line}
use Rattle.varisat_theory.specs.promises.Searches.{Search, IsLiteralOf}
use Rattle.varisat_theory.specs.inside.Outcomes.{Proves}
use Rattle.varisat_theory.proofs.journals.StepCounts.{by_append}
use Rattle.varisat_theory.proofs.journals.Spoken.{spoken_after}

-- nothing happens
pub no_part : (s : Search) → Proves 0 s s []
no_part s = record { holds = λ held f. (held, refl, f); covers = λ P c. c; speaks = tt; within = λ l h. h }

pub parts_join : (m n : ℕ) (s t u : Search) (first second : List Line) → Proves m s t first → Proves n t u second → Proves (m + n) s u (first ++ second)
parts_join m n s t u first second p q = record {
  holds = λ held f.
      let (mid, d, g) = p.holds held f in
      let (after, e, h) = q.holds mid g in
      (after, by_append m n held first mid second after d e, h);
  covers = λ P c. q.covers P (p.covers P c);
  speaks = spoken_after (IsLiteralOf t) (IsLiteralOf s) first second p.within p.speaks q.speaks;
  within = λ l h. p.within l (q.within l h);
}
