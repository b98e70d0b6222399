-- How many steps a call makes: each stretch between restarts is short, and the stretches follow the sequence.
use Rattle.std.proofs.Common.{◌≡◌, ℕ, zero, suc, ◌+◌, ◌-◌, ◌*◌, ◌^◌, ◌<◌, ◌≤◌, Bool, List, ⊎_elim, ap, ◌∙◌, subst, refl, arith, mul-le-mul_left, pow-suc, pow_pos}
use Rattle.std.proofs.lemmas.Bool.{cases_lt}
use Rattle.varisat_theory.specs.inside.Rank.{rank}
use Rattle.varisat_theory.specs.inside.Luby.{luby, sum_from, saturated}
use Rattle.varisat_theory.specs.promises.CallBounds.{AreFew, CallSetting, call_point, IsInShortInterval, IsCallStep, Rises, Restarts, RestartsWithin, IsCall, IsLastStretch, ByRank, ByLength, HasRestarted, CallProgress, BeforeRestart, AfterRestart}
use Rattle.varisat_theory.proofs.bounds.Ranks.{rank_bound}
use Rattle.varisat_theory.proofs.bounds.Luby.{sum_from-split}
use Rattle.varisat_theory.proofs.bounds.IntervalBounds.{intervals_bound}

-- a term of a run is at most its sum
term_in_sum : (f : ℕ → ℕ) (a u q : ℕ) → u < q → f (a + u) ≤ sum_from f a q
term_in_sum f a u q h =
    let v = q - suc u in
    let e : q ≡ u + suc v = omega arith in
    let s = ap (sum_from f a) e in
    let t = sum_from-split f a u (suc v) in
    omega (arith, s, t)

-- the sum up to a later point
sums : (scale j begun whole q i : ℕ) → i ≡ begun + whole + q →
    scale * sum_from luby (suc j) i ≡ scale * sum_from luby (suc j) begun + scale * sum_from luby (suc (j + begun)) whole + scale * sum_from luby
    (suc (j + begun) + whole) q
sums scale j begun whole q i h =
    let a : i ≡ begun + (whole + q) = omega arith in
    let b = ap (sum_from luby (suc j)) a in
    let c = sum_from-split luby (suc j) begun (whole + q) in
    let d : suc j + begun ≡ suc (j + begun) = omega arith in
    let e = ap (λ x. sum_from luby x (whole + q)) d in
    let f = sum_from-split luby (suc (j + begun)) whole q in
    let g : sum_from luby (suc j) i ≡ sum_from luby (suc j) begun + sum_from luby (suc (j + begun)) whole + sum_from luby
    (suc (j + begun) + whole) q = omega (arith, b, c, e, f) in
    let z = ap (λ x. scale * x) g in
    omega (arith, z)

-- a last stretch is short
stretch_small : (c : CallSetting) (t since top : ℕ) → top < 2 ^ suc c.variables → IsLastStretch c t since top → since < 2 ^ suc c.variables
stretch_small c t since top b (ByRank l) = omega (arith, l, b)
stretch_small c t since top b (ByLength i l s) = omega (arith, l, s)

-- the steps are counted anew from point i, where none was passed, and `since` lie behind it
counted_first : (c : CallSetting) (t top i before since : ℕ) → c.start + before ≡ c.first + c.scale * sum_from luby (suc c.term) i →
    t ≡ before + since → before < 2 ^ suc c.variables → IsLastStretch c t since top → HasRestarted c t top
counted_first c t top i before since e s b l = record {
  begun = i;
  whole = 0;
  before = before;
  since = since;
  total = omega (arith, s);
  point = e;
  small = λ u h. absurd (omega arith);
  early = b;
  late = l;
}

-- the same from point i, where points were passed, and the steps since the last one are few
counted_later : (c : CallSetting) (t top next i since : ℕ) → c.start + t ≡ c.first + c.scale * sum_from luby (suc c.term) i + since →
    (m : HasRestarted c t top) → m.since < 2 ^ suc c.variables → m.begun + m.whole ≤ i → IsLastStretch c (suc t) (suc since) next →
    HasRestarted c (suc t) next
counted_later c t top next i since e m b h l =
    let q = i - (m.begun + m.whole) in
    let s = sums c.scale c.term m.begun m.whole q i (omega (arith, h)) in
    let since_is : m.since ≡ c.scale * sum_from luby (suc (c.term + m.begun) + m.whole) q + since = omega (arith, s, e, m.total, m.point) in
    let f = sum_from-split luby (suc (c.term + m.begun)) m.whole q in
    let z = ap (λ x. c.scale * x) f in
    record {
      begun = m.begun;
      whole = m.whole + q;
      before = m.before;
      since = suc since;
      total = omega (arith, z, since_is, m.total);
      point = m.point;
      small = λ u k. ⊎_elim (λ (a : u < m.whole). m.small u a) (λ (a : m.whole ≤ u). new q since_is u k a) (cases_lt u m.whole);
      early = m.early;
      late = l;
    }
  where
    new : (q : ℕ) → m.since ≡ c.scale * sum_from luby (suc (c.term + m.begun) + m.whole) q + since → (u : ℕ) → u < m.whole + q → m.whole ≤ u →
        c.scale * luby (suc (c.term + m.begun) + u) < 2 ^ suc c.variables
    new q since_is u k a =
        let v = u - m.whole in
        let lv : v < q = omega (arith, k, a) in
        let t = term_in_sum luby (suc (c.term + m.begun) + m.whole) v q lv in
        let y = mul-le-mul_left c.scale t in
        let d : suc (c.term + m.begun) + m.whole + v ≡ suc (c.term + m.begun) + u = omega (arith, a) in
        let g = ap (λ x. c.scale * luby x) d in
        omega (arith, y, g, since_is, b)

-- a point that lies behind the last one that was passed is no later than that
behind : (c : CallSetting) (t top i : ℕ) (m : HasRestarted c t top) → i ≤ m.begun + m.whole →
    c.first + c.scale * sum_from luby (suc c.term) i + m.since ≤ c.start + t
behind c t top i m h =
    let q = m.begun + m.whole - i in
    let s = sums c.scale c.term i q 0 (m.begun + m.whole) (omega (arith, h)) in
    let s' = sums c.scale c.term m.begun m.whole 0 (m.begun + m.whole) (omega arith) in
    omega (arith, s, s', m.total, m.point)

-- a restart at a later point
made_later : (c : CallSetting) (t top next i : ℕ) → c.start + t ≡ c.first + c.scale * sum_from luby (suc c.term) i → top < 2 ^ suc c.variables →
    0 < next → HasRestarted c t top → HasRestarted c (suc t) next
made_later c t top next i e b p m =
    ⊎_elim
    (λ (h : i < m.begun + m.whole). none (let a = behind c t top i m (omega (arith, h)) in omega (arith, a, e)))
    (λ (h : m.begun + m.whole ≤ i). counted_later c t top next i 0 (omega (arith, e)) m (stretch_small c t m.since top b m.late) h
    (ByRank (omega (arith, p))))
    (cases_lt i (m.begun + m.whole))
  where
    none : m.since ≡ 0 → HasRestarted c (suc t) next
    none z = record {
      begun = m.begun;
      whole = m.whole;
      before = m.before;
      since = 1;
      total = omega (arith, m.total, z);
      point = m.point;
      small = m.small;
      early = m.early;
      late = ByRank (omega (arith, p));
    }

-- a step more since the last point
made_more : (c : CallSetting) (t top next : ℕ) (m : HasRestarted c t top) → IsLastStretch c (suc t) (suc m.since) next → HasRestarted c (suc t) next
made_more c t top next m l = record {
  begun = m.begun;
  whole = m.whole;
  before = m.before;
  since = suc m.since;
  total = omega (arith, m.total);
  point = m.point;
  small = m.small;
  early = m.early;
  late = l;
}

unsaturated : (x y : ℕ) → y ≡ saturated x → y < 2 ^ 64 - 1 → y ≡ x
unsaturated x y e h = omega arith

small_call : (n k : ℕ) → k ≤ 2 ^ suc n → k < (n + 2) * 2 ^ (n + 2)
small_call n k h =
    let p : n + 2 ≡ suc (suc n) = omega arith in
    let q = ap (λ x. 2 ^ x) p ∙ pow-suc 2 (suc n) in
    let z = ap (λ x. (n + 2) * x) q in
    let y = pow_pos (suc n) in
    let v = mul-le-mul_left n y in
    omega (arith, z, y, v, h)

-- no step yet
pub progress_start : (c : CallSetting) (top : ℕ) → CallProgress c 0 top
progress_start c top = BeforeRestart (ByRank (omega arith))

-- a step that begins at a restart point
pub progress_restarts : (c : CallSetting) (t top next i : ℕ) → c.start + t ≡ call_point c i → c.start + t < 2 ^ 64 - 1 → top < 2 ^ suc c.variables →
    0 < next → CallProgress c t top → CallProgress c (suc t) next
progress_restarts c t top next i e h b p (BeforeRestart l) =
    let u = unsaturated (c.first + c.scale * sum_from luby (suc c.term) i) (c.start + t) e h in
    AfterRestart (counted_first c (suc t) next i t 1 u (omega arith) (stretch_small c t t top b l) (ByRank (omega (arith, p))))
progress_restarts c t top next i e h b p (AfterRestart m) =
    AfterRestart (made_later c t top next i (unsaturated (c.first + c.scale * sum_from luby (suc c.term) i) (c.start + t) e h) b p m)

-- a step more in an interval that has not ended
stretch_longer : (c : CallSetting) (t since next i : ℕ) → c.start + t < call_point c i →
    call_point c i + since < c.start + t + 2 ^ suc c.variables → IsLastStretch c (suc t) (suc since) next
stretch_longer c t since next i l s = ByLength i (omega (arith, l)) (omega (arith, s))

-- a step that raises the rank: where it begins as a short interval ends, that interval is whole
pub progress_rises : (c : CallSetting) (t top next : ℕ) → top < next → c.start + t < 2 ^ 64 - 1 → top < 2 ^ suc c.variables →
    CallProgress c t top → CallProgress c (suc t) next
progress_rises c t top next h k b (BeforeRestart (ByRank l)) = BeforeRestart (ByRank (omega (arith, h, l)))
progress_rises c t top next h k b (BeforeRestart (ByLength i l s)) =
    ⊎_elim
    (λ (a : c.start + t < call_point c i). BeforeRestart (stretch_longer c t t next i a s))
    (λ (a : call_point c i ≤ c.start + t). progress_restarts c t top next i (omega (arith, a, l)) k b (omega (arith, h)) (BeforeRestart (ByLength i l s)))
    (cases_lt (c.start + t) (call_point c i))
progress_rises c t top next h k b (AfterRestart m) = rises m.late
  where
    rises : IsLastStretch c t m.since top → CallProgress c (suc t) next
    rises (ByRank l) = AfterRestart (made_more c t top next m (ByRank (omega (arith, h, l))))
    rises (ByLength i l s) =
        ⊎_elim
        (λ (a : c.start + t < call_point c i). AfterRestart (made_more c t top next m (stretch_longer c t m.since next i a s)))
        (λ (a : call_point c i ≤ c.start + t). progress_restarts c t top next i (omega (arith, a, l)) k b (omega (arith, h)) (AfterRestart m))
        (cases_lt (c.start + t) (call_point c i))

-- a restart within a short interval: the steps are counted from its beginning
within_first : (c : CallSetting) (t top next i : ℕ) → IsInShortInterval c (c.start + t) i → c.start + t < 2 ^ 64 - 1 → t < 2 ^ suc c.variables →
    CallProgress c (suc t) next
within_first c t top next zero w k b = BeforeRestart (stretch_longer c t t next 0 w.ahead (let s = w.short in omega (arith, s)))
within_first c t top next (suc i) w k b =
    ⊎_elim
    (λ (a : call_point c i < suc c.start). BeforeRestart (stretch_longer c t t next (suc i) w.ahead (let s = w.short in omega (arith, s, a))))
    (λ (a : suc c.start ≤ call_point c i).
    let before = call_point c i - c.start in
    let since = c.start + t - call_point c i in
    let g = w.begun in
    let s = w.short in
    let u = unsaturated (c.first + c.scale * sum_from luby (suc c.term) i) (call_point c i) refl (omega (arith, g, k)) in
    AfterRestart (counted_first c (suc t) next i before (suc since) (omega (arith, u, a)) (omega (arith, a, g)) (omega (arith, a, g, b))
    (stretch_longer c t since next (suc i) w.ahead (omega (arith, g, s)))))
    (cases_lt (call_point c i) (suc c.start))

within_later : (c : CallSetting) (t top next i : ℕ) → IsInShortInterval c (c.start + t) i → c.start + t < 2 ^ 64 - 1 → top < 2 ^ suc c.variables →
    HasRestarted c t top → HasRestarted c (suc t) next
within_later c t top next zero w k b m =
    let l = w.ahead in
    let z = behind c t top 0 m (omega arith) in
    absurd (omega (arith, l, z))
within_later c t top next (suc i) w k b m =
    ⊎_elim
    (λ (a : i < m.begun + m.whole). let l = w.ahead in let z = behind c t top (suc i) m (omega (arith, a)) in absurd (omega (arith, l, z)))
    (λ (a : m.begun + m.whole ≤ i).
    let since = c.start + t - call_point c i in
    let g = w.begun in
    let s = w.short in
    let u = unsaturated (c.first + c.scale * sum_from luby (suc c.term) i) (call_point c i) refl (omega (arith, g, k)) in
    counted_later c t top next i since (omega (arith, u, g)) m (stretch_small c t m.since top b m.late) a
    (stretch_longer c t since next (suc i) w.ahead (omega (arith, g, s))))
    (cases_lt i (m.begun + m.whole))

-- a step within a short interval, whatever it does to the rank
pub progress_within : (c : CallSetting) (t top next i : ℕ) → IsInShortInterval c (c.start + t) i → c.start + t < 2 ^ 64 - 1 →
    top < 2 ^ suc c.variables → 0 < next → CallProgress c t top → CallProgress c (suc t) next
progress_within c t top next i w k b p (BeforeRestart l) = within_first c t top next i w k (stretch_small c t t top b l)
progress_within c t top next i w k b p (AfterRestart m) = AfterRestart (within_later c t top next i w k b m)

-- fewer than few are few
pub few_below : (n k m : ℕ) → k ≤ m → AreFew n m → AreFew n k
few_below n k m h (a, b) = (omega (arith, h, a), omega (arith, h, b))

-- so is none
pub few_none : (n : ℕ) → AreFew n 0
few_none n = (small_call n 0 (omega arith), pow_pos (2 * n + 3))

-- so with one step more the bound still holds
pub progress_bound : (c : CallSetting) (t top : ℕ) → 0 < c.scale → top + 2 ≤ 2 ^ suc c.variables → CallProgress c t top →
    suc t < (c.variables + 2) * 2 ^ (c.variables + 2)
progress_bound c t top h b (BeforeRestart l) =
    let s = stretch_small c t t top (omega (arith, b)) l in
    small_call c.variables (suc t) (omega (arith, s))
progress_bound c t top h b (AfterRestart m) =
    let s = stretch_small c t m.since top (omega (arith, b)) m.late in
    let i = intervals_bound c.variables c.scale (c.term + m.begun) m.whole m.before (suc m.since) h m.early (omega (arith, s)) m.small in
    omega (arith, i, m.total)

module _ (c : CallSetting) (steps : ℕ) (trail : ℕ → List Bool) (w : IsCall c steps trail) where
  rank_after : ℕ → ℕ
  rank_after t = rank c.variables (trail t)

  top_bound : (t : ℕ) → t ≤ steps → rank_after t + 2 ≤ 2 ^ suc c.variables
  unfolding rank_after
  top_bound t h = rank_bound c.variables (trail t) (w.fits t h)

  -- one step on
  moved : (t : ℕ) → suc t < steps → CallProgress c t (rank_after t) → IsCallStep c (c.start + t) (trail t) (trail (suc t)) →
      CallProgress c (suc t) (rank_after (suc t))
  unfolding rank_after
  moved t h p (Rises l) =
      let k = w.counted in
      let b = top_bound t (omega arith) in
      progress_rises c t (rank_after t) (rank_after (suc t)) l (omega (arith, k, h)) (omega (arith, b)) p
  moved t h p (Restarts i e l) =
      let k = w.counted in
      let b = top_bound t (omega arith) in
      progress_restarts c t (rank_after t) (rank_after (suc t)) i e (omega arith) (omega arith) l p
  moved t h p (RestartsWithin i s l) =
      let k = w.counted in
      let b = top_bound t (omega arith) in
      progress_within c t (rank_after t) (rank_after (suc t)) i s (omega (arith, k, h)) (omega (arith, b)) l p

  progress : (t : ℕ) → t < steps → CallProgress c t (rank_after t)
  progress zero h = progress_start c (rank_after 0)
  progress (suc t) h = moved t h (progress t (omega arith)) (w.step t h)

  pub call_bounded : steps < (c.variables + 2) * 2 ^ (c.variables + 2)
  call_bounded = go steps refl
    where
      go : (x : ℕ) → x ≡ steps → steps < (c.variables + 2) * 2 ^ (c.variables + 2)
      go zero e = small_call c.variables steps (let y = pow_pos (suc c.variables) in omega arith)
      go (suc t) e =
          let l : t < steps = omega arith in
          subst (λ x. x < (c.variables + 2) * 2 ^ (c.variables + 2)) e (progress_bound c t (rank_after t) w.scaled (top_bound t (omega arith)) (progress t l))
