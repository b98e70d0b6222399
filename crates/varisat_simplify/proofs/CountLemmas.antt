-- How many literals clauses have.
use Rattle.std.proofs.Common.{◌≡◌, ℕ, ◌+◌, ◌-◌, ◌^◌, ◌<◌, min, Bool, true, false, List, [], ◌∷◌, ◌++◌, sym, ap, ◌∙◌, length, get_or, take, append-nil, arith}
use Rattle.varisat_theory.specs.promises.Literals.{Clause}
use Rattle.varisat_database.specs.Databases.{DatabaseState, clause_at}
use Rattle.varisat_rules.specs.inside.States.{flagged, live_clauses}
use Rattle.varisat_simplify.specs.promises.Simplified.{literal_count}
use Rattle.varisat_simplify.proofs.NormalLemmas.{take_next}
use Rattle.varisat_simplify.proofs.UnloadLemmas.{flagged_next, all_live}

pub counted_more : (cs : List Clause) (c : Clause) → literal_count (cs ++ c ∷ []) ≡ literal_count cs + length c
counted_more [] c = omega arith
counted_more (d ∷ cs) c = let h = counted_more cs c in omega (arith, h)

-- how many literals the clauses before the place have
abbrev pub CountsFirst : List Clause → ℕ → ℕ → Type 0
CountsFirst cs i sum = sum ≡ min (literal_count (take i cs)) (2 ^ 64 - 1)

pub counts_next : (cs : List Clause) (i sum next n : ℕ) (c : Clause) → i < length cs → c ≡ get_or cs i [] → n ≡ length c → next ≡ min (sum + n) (2 ^ 64 - 1) →
    CountsFirst cs i sum → CountsFirst cs (i + 1) next
counts_next cs i sum next n c h q e s r =
    let a = ap literal_count (take_next cs i [] h) ∙ counted_more (take i cs) (get_or cs i []) in
    let b = e ∙ ap length q in
    omega (arith, a, b, s, r)

-- how many literals the live ones before it have
pub record CountsLive (s : DatabaseState) (i sum : ℕ) : Type 0 where
  pub even : length s.live ≡ length s.clauses
  pub same : sum ≡ min (literal_count (flagged (take i s.live) (take i s.clauses))) (2 ^ 64 - 1)

pub live_added : (s : DatabaseState) (i sum next n : ℕ) (b : Bool) (c : Clause) → i < length s.clauses → b ≡ get_or s.live i false → b ≡ true → c ≡ clause_at s i →
    n ≡ length c → next ≡ min (sum + n) (2 ^ 64 - 1) → CountsLive s i sum → CountsLive s (i + 1) next
live_added s i sum next n b c h q t w e v r = record {
  even = r.even;
  same = let a = ap literal_count (flagged_next s.live s.clauses i true r.even (sym q ∙ t) h) ∙ counted_more (flagged (take i s.live) (take i s.clauses)) (get_or s.clauses i []) in
      let d = e ∙ ap length w in
      let o = r.same in
      omega (arith, a, d, v, o);
}

pub live_passed : (s : DatabaseState) (i sum next : ℕ) (b : Bool) → i < length s.clauses → b ≡ get_or s.live i false → b ≡ false → next ≡ sum → CountsLive s i sum →
    CountsLive s (i + 1) next
live_passed s i sum next b h q t e r = record {
  even = r.even;
  same = e ∙ r.same ∙ ap (λ (cs : List Clause). min (literal_count cs) (2 ^ 64 - 1))
      (sym (append-nil (flagged (take i s.live) (take i s.clauses))) ∙ sym (flagged_next s.live s.clauses i false r.even (sym q ∙ t) h));
}

pub live_counted : (s : DatabaseState) (i sum : ℕ) → i ≡ length s.clauses → CountsLive s i sum → sum ≡ min (literal_count (live_clauses s)) (2 ^ 64 - 1)
live_counted s i sum e r = r.same ∙ ap (λ (cs : List Clause). min (literal_count cs) (2 ^ 64 - 1)) (all_live s i e r.even)
