-- Which steps of a schedule begin with a restart.
use Rattle.std.proofs.Common.{◌≡◌, ℕ, zero, suc, pred, ◌+◌, ◌-◌, ◌*◌, ◌/◌, ◌^◌, ◌<◌, ◌≤◌, ◌↔◌, IsTrue, nat_eq, ⊎_elim, subst, refl, sym, ap, ◌∙◌, arith, eq-eqb, ne_eqb, mul-le-mul_right, pow_pos}
use Rattle.std.proofs.Math.Nat.{div-eq_of_lt, div-lt_iff_lt-mul, pow-le-pow_right}
use Rattle.std.proofs.lemmas.Bool.{cases_lt, eqb-true}
use Rattle.varisat_theory.specs.inside.Luby.{luby, saturated, restart_point}
use Rattle.varisat_theory.specs.promises.CallBounds.{CallSetting, call_point, interval_begin, IsInShortInterval}
use Rattle.varisat_theory.proofs.bounds.RestartPoints.{luby_positive, call_point_zero, call_point_next, call_point_first}
use Rattle.varisat_schedule.specs.Plans.{Plan, IsPlan, IsDue, first_plan, next_plan, plan_after, PlannedCall, setting_of}

term_positive : (i : ℕ) → 0 < i → 0 < luby i
term_positive zero h = absurd (omega (arith, h))
term_positive (suc i) h = luby_positive i

third_term : luby 3 ≡ 2
unfolding luby
third_term = refl

-- an interval is no shorter than its term
interval : (scale i : ℕ) → 0 < scale → luby i ≤ scale * luby i
interval scale i h = let one : 1 ≤ scale = h in let a : 1 * luby i ≤ scale * luby i = mul-le-mul_right (luby i) one in omega (arith, a)

-- the next restart once one has begun
abbrev pub restart_behind : ℕ → Plan → ℕ
restart_behind scale p = saturated (p.next_restart + saturated (scale * luby p.next_term))

-- the plan once a restart has begun, and its next one
pub restarted-plan : (scale : ℕ) (p : Plan) → IsPlan p → IsDue p → p.steps < 2 ^ 64 - 1 → 0 < scale →
    IsPlan (record p { next_restart = restart_behind scale p; next_term = suc p.next_term }) × (p.steps < restart_behind scale p)
restarted-plan scale p w e l h =
    let a = interval scale p.next_term h in
    let b = term_positive p.next_term w.positive in
    let few = w.few in
    let fewer = w.fewer in (
      record {
        ahead = omega (arith, a, b, e, l);
        small = omega arith;
        positive = omega arith;
        few = omega (arith, a, b, few, e, l);
        fewer =
            ⊎_elim
            (λ (c : p.next_term < 3). omega (arith, c))
            (λ (c : 3 ≤ p.next_term).
            ⊎_elim
            (λ (d : p.next_term < 4). let three : p.next_term ≡ 3 = omega (arith, c, d) in let t = ap luby three ∙ third_term in
            omega (arith, a, t, few, three, e, l))
            (λ (d : 4 ≤ p.next_term). omega (arith, a, b, fewer, d, e, l))
            (cases_lt p.next_term 4))
            (cases_lt p.next_term 3);
      },
      omega (arith, a, b, e, l),
    )

-- a number below a power is one whose quotient by it is 0
pub short-below : (x n : ℕ) → IsTrue (nat_eq (x / 2 ^ (n + 1)) 0) ↔ (x < 2 ^ suc n)
short-below x n =
    let e : suc n ≡ n + 1 = omega arith in
    subst (λ k. IsTrue (nat_eq (x / 2 ^ k) 0) ↔ (x < 2 ^ suc n)) e (
      λ t. let z = eqb-true (x / 2 ^ suc n) 0 t in let d = (div-lt_iff_lt-mul {k = 2 ^ suc n} {x = x} {y = 1} (pow_pos (suc n))).0 (omega (arith, z)) in
          omega (arith, d),
      λ h. eq-eqb (x / 2 ^ suc n) 0 (div-eq_of_lt h),
    )

-- the points rise
module _ (s : CallSetting) (h : 0 < s.scale) where
  point-rises : (i : ℕ) → call_point s i < 2 ^ 64 - 1 → call_point s i < call_point s (suc i)
  point-rises i l =
      let n = call_point_next s i in
      let a = interval s.scale (suc s.term + i) h in
      let b = term_positive (suc s.term + i) (omega arith) in
      omega (arith, n, a, b, l)

  point-next : (i : ℕ) → call_point s i ≤ call_point s (suc i)
  point-next i = let n = call_point_next s i in omega (arith, n)

  point-later : (i d : ℕ) → call_point s i ≤ call_point s (d + i)
  point-later i zero = let e : 0 + i ≡ i = omega arith in let f = ap (call_point s) e in omega (arith, f)
  point-later i (suc d) = let e : suc d + i ≡ suc (d + i) = omega arith in let f = ap (call_point s) e in let a = point-later i d in
      let b = point-next (d + i) in omega (arith, f, a, b)

-- after k steps of the call the next restart is at its point i, and the points before that lie behind
record IsAtPoint (c : PlannedCall) (k i : ℕ) : Type 0 where
  plan : plan_after c.scale c.begins k ≡ record { steps = c.begins.steps + k; next_restart = call_point (setting_of c) i; next_term = c.begins.next_term + i }
  behind : (m : ℕ) → m < i → call_point (setting_of c) m < c.begins.steps + k
  ahead : c.begins.steps + k ≤ call_point (setting_of c) i

abbrev plan_of : ℕ → ℕ → ℕ → Plan
plan_of steps restart term = record { steps = steps; next_restart = restart; next_term = term }

same-plan : (a b c x y z : ℕ) → a ≡ x → b ≡ y → c ≡ z → plan_of a b c ≡ plan_of x y z
same-plan a b c x y z e f g = cc

module _ (c : PlannedCall) (h : 0 < c.scale) (w : IsPlan c.begins) where
  abbrev point : ℕ → ℕ
  point i = call_point (setting_of c) i

  at-start : IsAtPoint c 0 0
  at-start =
      let z = call_point_zero (setting_of c) in
      let s = w.small in
      let a = w.ahead in
      let e : c.begins.next_restart ≡ point 0 = omega (arith, z, s) in
      record {
        plan = same-plan c.begins.steps c.begins.next_restart c.begins.next_term (c.begins.steps + 0) (point 0) (c.begins.next_term + 0)
            (omega arith) e (omega arith);
        behind = λ m l. absurd (omega (arith, l));
        ahead = omega (arith, e, a);
      }

  at-restart : (k i : ℕ) → c.begins.steps + k < 2 ^ 64 - 1 → IsAtPoint c k i → c.begins.steps + k ≡ point i → IsAtPoint c (suc k) (suc i)
  at-restart k i l a e =
      let n = call_point_next (setting_of c) i in
      let positive = w.positive in
      let j : c.begins.next_term + i ≡ suc (pred c.begins.next_term) + i = omega (arith, positive) in
      let t = ap (λ x. saturated (point i + saturated (c.scale * luby x))) j in
      let r = point-rises (setting_of c) h i (omega (arith, e, l)) in
      let go : next_plan c.scale (plan_of (c.begins.steps + k) (point i) (c.begins.next_term + i)) ≡ plan_of (suc (c.begins.steps + k))
      (saturated (point i + saturated (c.scale * luby (c.begins.next_term + i)))) (suc (c.begins.next_term + i)) =
      rw (eq-eqb (c.begins.steps + k) (point i) e) refl in
      record {
        plan = ap (next_plan c.scale) a.plan ∙ go ∙ same-plan _ _ _ (c.begins.steps + suc k) (point (suc i)) (c.begins.next_term + suc i)
            (omega arith) (t ∙ sym n) (omega arith);
        behind = λ m q. ⊎_elim (λ (b : m < i). let d = a.behind m b in omega (arith, d))
            (λ (b : i ≤ m). let f : m ≡ i = omega (arith, b, q) in let g = ap point f in omega (arith, g, e)) (cases_lt m i);
        ahead = omega (arith, r, e);
      }

  at-step : (k i : ℕ) → IsAtPoint c k i → c.begins.steps + k < point i → IsAtPoint c (suc k) i
  at-step k i a l =
      let n : c.begins.steps + k ≡ point i → ⊥ = λ e. omega (arith, e, l) in
      let go : next_plan c.scale (plan_of (c.begins.steps + k) (point i) (c.begins.next_term + i)) ≡ plan_of (suc (c.begins.steps + k)) (point i)
      (c.begins.next_term + i) = rw (ne_eqb (c.begins.steps + k) (point i) n) refl in
      record {
        plan = ap (next_plan c.scale) a.plan ∙ go ∙ same-plan _ _ _ (c.begins.steps + suc k) (point i) (c.begins.next_term + i) (omega arith) refl refl;
        behind = λ m q. let d = a.behind m q in omega (arith, d);
        ahead = omega (arith, l);
      }

  at-point : (k : ℕ) → c.begins.steps + k < 2 ^ 64 → (i : ℕ) × IsAtPoint c k i
  at-point zero l = (0, at-start)
  at-point (suc k) l =
      let (i, a) = at-point k (omega (arith, l)) in
      ⊎_elim
      (λ (b : c.begins.steps + k < point i). (i, at-step k i a b))
      (λ (b : point i ≤ c.begins.steps + k). let d = a.ahead in (suc i, at-restart k i (omega (arith, l)) a (omega (arith, b, d))))
      (cases_lt (c.begins.steps + k) (point i))

  pub due-point : (k : ℕ) → c.begins.steps + k < 2 ^ 64 - 1 → IsDue (plan_after c.scale c.begins k) → (i : ℕ) × (c.begins.steps + k ≡ point i)
  due-point k l d = let (i, a) = at-point k (omega (arith, l)) in (i, subst IsDue a.plan d)

  -- where the next restart is due before step 2^(n+1), the step lies in a short interval of the call over n variables or more
  pub short-interval : (n k : ℕ) → c.variables ≤ n → c.begins.steps + k < 2 ^ 64 - 1 → (IsDue (plan_after c.scale c.begins k) → ⊥) →
      (plan_after c.scale c.begins k).next_restart < 2 ^ suc c.variables →
      (i : ℕ) × IsInShortInterval (setting_of (record c { variables = n })) (c.begins.steps + k) i
  short-interval n k v l d s =
      let (i, a) = at-point k (omega (arith, l)) in
      let p = pow-le-pow_right {n = 2} (omega arith) {i = suc c.variables} {j = suc n} (omega (arith, v)) in
      let r = ap (λ (q : Plan). q.next_restart) a.plan in
      let e = a.ahead in
      let later : c.begins.steps + k < point i =
      ⊎_elim (λ (b : c.begins.steps + k < point i). b)
      (λ (b : point i ≤ c.begins.steps + k). absurd (d (subst IsDue (sym a.plan) (omega (arith, b, e)))))
      (cases_lt (c.begins.steps + k) (point i)) in
      (i, record { begun = begins-behind i a.behind; ahead = later; short = omega (arith, p, r, s) })
    where
      begins-behind : (i : ℕ) → ((m : ℕ) → m < i → point m < c.begins.steps + k) → interval_begin (setting_of (record c { variables = n })) i ≤ c.begins.steps + k
      begins-behind zero b = omega arith
      begins-behind (suc i) b = let h = b i (omega arith) in omega (arith, h)

  point-due : (k : ℕ) → c.begins.steps + k < 2 ^ 64 - 1 → (i : ℕ) × (c.begins.steps + k ≡ point i) → IsDue (plan_after c.scale c.begins k)
  point-due k l (m, e) =
      let (i, a) = at-point k (omega (arith, l)) in
      subst IsDue (sym a.plan)
      (⊎_elim
      (λ (b : m < i). let d = a.behind m b in absurd (omega (arith, d, e)))
      (λ (b : i ≤ m).
      let f : m ≡ (m - i) + i = omega (arith, b) in
      let g = point-later (setting_of c) h i (m - i) in
      let q = ap point f in
      let d = a.ahead in
      omega (arith, g, q, d, e))
      (cases_lt m i))

pub restarts-at-points : (c : PlannedCall) (k : ℕ) → 0 < c.scale → IsPlan c.begins → c.begins.steps + k < 2 ^ 64 - 1 →
    IsDue (plan_after c.scale c.begins k) ↔ ((i : ℕ) × (c.begins.steps + k ≡ call_point (setting_of c) i))
restarts-at-points c k h w l = (due-point c h w k l, point-due c h w k l)

pub first-is : IsPlan first_plan
first-is = record { ahead = omega arith; small = omega arith; positive = omega arith; few = omega arith; fewer = omega arith }

abbrev first_call : ℕ → PlannedCall
first_call scale = record { variables = 0; scale = scale; begins = first_plan }

pub first-restarts : (scale k : ℕ) → 0 < scale → k < 2 ^ 64 - 1 → IsDue (plan_after scale first_plan k) ↔ ((i : ℕ) × (k ≡ restart_point scale i))
first-restarts scale k h l =
    let c = first_call scale in
    let z : 0 + k ≡ k = omega arith in
    let r = restarts-at-points c k h first-is (omega (arith, l)) in
    let same : (i : ℕ) → call_point (setting_of c) i ≡ restart_point scale i = λ i. call_point_first (setting_of c) i refl refl in
    (λ d. let (i, e) = r.0 d in (i, sym z ∙ e ∙ same i), λ (i, e). r.1 (i, z ∙ e ∙ sym (same i)))
