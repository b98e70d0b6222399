-- Steps by a schedule where units leave the trail in between.
use Rattle.std.proofs.Common.{◌≡◌, ℕ, zero, suc, pred, ◌+◌, ◌-◌, ◌^◌, ◌<◌, ◌≤◌, Bool, true, List, ◌∷◌, ◌++◌, length, replicate, sym, ap, ◌∙◌, subst, arith, append_assoc, pow_pos}
use Rattle.std.proofs.lemmas.List.{length-replicate, replicate-append-replicate}
use Rattle.varisat_theory.specs.inside.Rank.{rank, with_units}
use Rattle.varisat_theory.specs.promises.CallBounds.{AreFew, CallSetting, CallProgress, IsLastStretch, ByRank, ByLength, HasRestarted, BeforeRestart, AfterRestart}
use Rattle.varisat_theory.proofs.bounds.Ranks.{rank_grows}
use Rattle.varisat_theory.proofs.bounds.RestartPoints.{length_with_units}
use Rattle.varisat_schedule.specs.Plans.{Plan, IsPlan, next_plan, PlannedCall, setting_of}
use Rattle.varisat_schedule.specs.CallSteps.{steps_since, IsPlannedStep, HasComeTo, HasComeWithout}
use Rattle.varisat_schedule.proofs.CallSteps.{begins, is-short, goes-on}

-- an implied literal more in front of both trails
one-unit : (v : ℕ) (q : Plan) (before after : List Bool) → IsPlannedStep v q before after → IsPlannedStep v q (true ∷ before) (true ∷ after)
one-unit v q before after s = record {
  rises = λ d n h. let r = s.rises d (pred n) (omega (arith, h)) in omega (arith, r);
  restarts = λ d n h. let p = pow_pos n in omega (arith, p);
}

-- a step is one also where units have left
pub step-with-units : (v u : ℕ) (q : Plan) (before after : List Bool) → IsPlannedStep v q before after →
    IsPlannedStep v q (with_units u before) (with_units u after)
step-with-units v zero q before after s = s
step-with-units v (suc u) q before after s = one-unit v q (with_units u before) (with_units u after) (step-with-units v u q before after s)

stretch-lifts : (c : CallSetting) (t since top next : ℕ) → top ≤ next → IsLastStretch c t since top → IsLastStretch c t since next
stretch-lifts c t since top next h (ByRank l) = ByRank (omega (arith, l, h))
stretch-lifts c t since top next h (ByLength i l s) = ByLength i l s

more-restarted : (c : CallSetting) (t top next : ℕ) → top ≤ next → HasRestarted c t top → HasRestarted c t next
more-restarted c t top next h m =
    record {
      begun = m.begun;
      whole = m.whole;
      before = m.before;
      since = m.since;
      total = m.total;
      point = m.point;
      small = m.small;
      early = m.early;
      late = stretch-lifts c t m.since top next h m.late;
    }

-- a trail of greater rank, with no step
pub progress-lifts : (c : CallSetting) (t top next : ℕ) → top ≤ next → CallProgress c t top → CallProgress c t next
progress-lifts c t top next h (BeforeRestart l) = BeforeRestart (stretch-lifts c t t top next h l)
progress-lifts c t top next h (AfterRestart m) = AfterRestart (more-restarted c t top next h m)

come-lifts : (c : PlannedCall) (q : Plan) (trail after : List Bool) → ((n : ℕ) → rank n trail ≤ rank n after) → HasComeTo c q trail → HasComeTo c q after
come-lifts c q trail after h r = record {
  is_plan = r.is_plan;
  counted = r.counted;
  plan = r.plan;
  progress = λ n v. progress-lifts (setting_of (record c { variables = n })) (steps_since c.begins q) (rank n trail) (rank n after) (h n) (r.progress n v);
}

pub begins-anywhere : (c : PlannedCall) (trail : List Bool) → IsPlan c.begins → length trail ≤ c.variables → HasComeWithout c c.begins 0 trail
begins-anywhere c trail i h = record { come = begins c trail i; short = omega (arith, h) }

pub goes-on-without : (c : PlannedCall) (q : Plan) (units : ℕ) (before after : List Bool) → 0 < c.scale → q.steps < 2 ^ 64 - 1 →
    IsPlannedStep c.variables q before after → units + length after ≤ c.variables → HasComeWithout c q units before → HasComeWithout c (next_plan c.scale q) units after
goes-on-without c q units before after h l s b r = record {
  come = goes-on c q (with_units units before) (with_units units after) h l
      (let a = length_with_units units before in let k = r.short in omega (arith, a, k)) (step-with-units c.variables units q before after s) r.come;
  short = b;
}

pub trail-may-grow : (c : PlannedCall) (q : Plan) (units : ℕ) (trail more : List Bool) → units + length (trail ++ more) ≤ c.variables →
    HasComeWithout c q units trail → HasComeWithout c q units (trail ++ more)
trail-may-grow c q units trail more b r = record {
  come = subst (HasComeTo c q) (append_assoc (replicate units true) trail more)
      (come-lifts c q (with_units units trail) (with_units units trail ++ more) (λ n. rank_grows n (with_units units trail) more) r.come);
  short = b;
}

left-in-front : (units left stay : ℕ) → with_units units (replicate (left + stay) true) ≡ with_units (units + left) (replicate stay true)
left-in-front units left stay =
    replicate-append-replicate units (left + stay) true
    ∙ ap (λ k. replicate k true) (same units left stay)
    ∙ sym (replicate-append-replicate (units + left) stay true)
  where
    same : (units left stay : ℕ) → units + (left + stay) ≡ units + left + stay
    same units left stay = omega arith

pub units-may-leave : (c : PlannedCall) (q : Plan) (units left stay : ℕ) → HasComeWithout c q units (replicate (left + stay) true) →
    HasComeWithout c q (units + left) (replicate stay true)
units-may-leave c q units left stay r = record {
  come = subst (HasComeTo c q) (left-in-front units left stay) r.come;
  short = let k = r.short in let a = length-replicate (left + stay) true in let b = length-replicate stay true in omega (arith, k, a, b);
}

pub is-short-without : (c : PlannedCall) (q : Plan) (units : ℕ) (trail : List Bool) (n : ℕ) → 0 < c.scale → c.variables ≤ n →
    HasComeWithout c q units trail → AreFew n (suc (steps_since c.begins q))
is-short-without c q units trail n h v r =
    is-short c q (with_units units trail) n h (let a = length_with_units units trail in let k = r.short in omega (arith, a, k)) v r.come
