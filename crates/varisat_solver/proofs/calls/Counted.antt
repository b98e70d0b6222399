-- Identities that are counted, each once.
use Rattle.std.proofs.Common.{◌≡◌, ℕ, ◌<◌, Bool, true, false, ◌||◌, nat_eq, if◌then◌else◌, List, [], ◌∷◌, ◌++◌, ◌⊎◌, inl, inr, ⊎_elim, sym, ap, ◌∙◌, subst, refl, arith, eq-eqb, ne_eqb}
use Rattle.varisat_theory.specs.promises.Membership.{◌∈◌, ◌⊆◌, IsDistinct}
use Rattle.varisat_theory.specs.promises.Literals.{Clause, Literal}
use Rattle.varisat_theory.proofs.clauses.Members.{∈-append_left, ∈-append_right, ∈-append_cases, equal_or_not}
use Rattle.varisat_theory.proofs.bounds.Count.{length-distinct}
use Rattle.varisat_solver.specs.promises.States.{State, is_member, join_one, join_counted, Verdict, Unknown, Sat, Unsat, UnsatUnderAssumptions, IsRight}
use Rattle.varisat_solver.specs.inside.Spaces.{Spaces, Carrying, Links}
use Rattle.varisat_solver.proofs.calls.SpacesAgree.{count}
use Rattle.varisat_solver.proofs.entries.LoggedEntries.{logged-counted}
use Rattle.varisat_clause.proofs.MarkedClauses.{distinct-more}

member-is : (i : ℕ) (xs : List ℕ) → is_member i xs ≡ true → i ∈ xs
member-is i [] e = absurd (let z : false ≡ true = e in cc)
member-is i (x ∷ xs) e = ⊎_elim inl (λ n. inr (member-is i xs (sym (ap (λ b. b || is_member i xs) (ne_eqb i x n)) ∙ e))) (equal_or_not i x)

is-member : (i : ℕ) (xs : List ℕ) → i ∈ xs → is_member i xs ≡ true
is-member i [] h = absurd h
is-member i (x ∷ xs) (inl e) = ap (λ b. b || is_member i xs) (eq-eqb i x e)
is-member i (x ∷ xs) (inr h) = ap (λ b. nat_eq i x || b) (is-member i xs h) ∙ or-true (nat_eq i x)
  where
    or-true : (b : Bool) → (b || true) ≡ true
    or-true true = refl
    or-true false = refl

-- what one more identity does to the list
record Joins (old new : List ℕ) (i : ℕ) : Type 0 where
  more : old ⊆ new
  has : i ∈ new
  only : (j : ℕ) → j ∈ new → (j ∈ old) ⊎ (j ≡ i)
  once : IsDistinct old → IsDistinct new

join-one : (i : ℕ) (xs : List ℕ) → Joins xs (join_one i xs) i
join-one i xs = go (is_member i xs) refl
  where
    go : (b : Bool) → is_member i xs ≡ b → Joins xs (if b then xs else xs ++ i ∷ []) i
    go true e = record { more = λ j h. h; has = member-is i xs e; only = λ j h. inl h; once = λ d. d }
    go false e = record {
      more = λ j h. ∈-append_left j xs (i ∷ []) h;
      has = ∈-append_right i xs (i ∷ []) (inl refl);
      only = λ j h. ⊎_elim inl (λ k. ⊎_elim inr (λ z. absurd z) k) (∈-append_cases j xs (i ∷ []) h);
      once = λ d. distinct-more xs i d (λ h. let z : true ≡ false = sym (is-member i xs h) ∙ e in cc);
    }

pub join-more : (is xs : List ℕ) → xs ⊆ join_counted xs is
join-more [] xs j h = h
join-more (i ∷ is) xs j h = join-more is (join_one i xs) j ((join-one i xs).more j h)

pub join-has : (is xs : List ℕ) → is ⊆ join_counted xs is
join-has [] xs j h = absurd h
join-has (i ∷ is) xs j (inl e) = join-more is (join_one i xs) j (subst (λ y. y ∈ join_one i xs) (sym e) (join-one i xs).has)
join-has (i ∷ is) xs j (inr h) = join-has is (join_one i xs) j h

pub join-only : (is xs : List ℕ) (j : ℕ) → j ∈ join_counted xs is → (j ∈ xs) ⊎ (j ∈ is)
join-only [] xs j h = inl h
join-only (i ∷ is) xs j h = ⊎_elim (λ k. ⊎_elim inl (λ e. inr (inl e)) ((join-one i xs).only j k)) (λ k. inr (inr k)) (join-only is (join_one i xs) j h)

pub join-once : (is xs : List ℕ) → IsDistinct xs → IsDistinct (join_counted xs is)
join-once [] xs d = d
join-once (i ∷ is) xs d = join-once is (join_one i xs) ((join-one i xs).once d)

pub right-more : (P : List Clause) (A : List Literal) (C D : List ℕ) (v : Verdict) → C ⊆ D → IsRight P A C v → IsRight P A D v
right-more P A C D Unknown m r = tt
right-more P A C D (Sat a) m r = (r.0, r.1, λ i n. r.2 i (λ h. n (m i h)))
right-more P A C D Unsat m r = r
right-more P A C D (UnsatUnderAssumptions core) m r = r

-- more identities may be counted, each once
pub counted : (w : Carrying) (p : Spaces) (s : State) (is : List ℕ) → Links w p s → s.counted ⊆ is → ((i : ℕ) → i ∈ is → i < s.naming.made) →
    IsDistinct is → Links w p (count is s)
counted w p s is k m b d = record {
  identities = k.identities;
  names = k.names;
  modes = k.modes;
  watermark = k.watermark;
  globals = k.globals;
  units = record { unit = k.units.unit; is_counted = λ i v e. m i (k.units.is_counted i v e) };
  isolation = k.isolation;
  solvers = record { one_to_one = k.solvers.one_to_one; live = λ v x h. let r = k.solvers.live v x h in (r.0, r.1, m r.0 r.2) };
  holds = k.holds;
  assumptions = k.assumptions;
  marks = k.marks;
  working = k.working;
  verdict = k.verdict;
  core = k.core;
  right = right-more s.clauses s.assumptions s.counted is s.verdict m k.right;
  well_formed = record {
    one_to_one = k.well_formed.one_to_one;
    free = k.well_formed.free;
    named = k.well_formed.named;
    accepted =
        k.well_formed.accepted;
    assumed = k.well_formed.assumed;
    counted = b;
    once = d;
  };
  few = let n = length-distinct s.counted is k.well_formed.once m in let f = k.few in omega (arith, n, f);
  shown = k.shown;
  plain = k.plain;
  variables = k.variables;
  numbered = k.numbered;
  logged = logged-counted s.logged s.clauses s.assumptions s.counted is s.ever_hidden m k.logged;
  checked = k.checked;
}
