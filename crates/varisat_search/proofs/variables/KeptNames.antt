-- Names in use, which stay as others come into use.
use Rattle.std.proofs.Common.{◌≡◌, ℕ, zero, suc, ◌+◌, ◌-◌, true, false, Some, None, length, sym, ap, ◌∙◌, arith}
use Rattle.varisat_names.specs.promises.VarMap.{at}
use Rattle.varisat_names.specs.promises.VarData.{fresh, data_at}
use Rattle.varisat_names.specs.promises.Variables.{Tables, IsGiven, AreNextGiven, IsNamed, InUse, Free, Above}
use Rattle.varisat_names.proofs.Maps.{updated-other}
use Rattle.varisat_names.proofs.VarMap.{at-past}

-- What stays as names come into use, for those that were in use and for the marks of their variables.
pub record KeepsNames (old new : Tables) : Type 0 where
  pub solvers : new.solvers ≡ old.solvers
  pub named : (u x : ℕ) → at old.users.forward u ≡ Some x → at new.users.forward u ≡ Some x
  pub back : (x u : ℕ) → at old.users.backward x ≡ Some u → (data_at old.kept x).deleted ≡ false → at new.users.backward x ≡ Some u
  pub live : (x : ℕ) → (data_at old.kept x).deleted ≡ false → data_at new.kept x ≡ data_at old.kept x

pub keeps-none : (old new : Tables) → new ≡ old → KeepsNames old new
keeps-none old new e = record {
  solvers = ap (λ t. t.solvers) e;
  named = λ u x h. ap (λ t. at t.users.forward u) e ∙ h;
  back = λ x u h d. ap (λ t. at t.users.backward x) e ∙ h;
  live = λ x d. ap (λ t. data_at t.kept x) e;
}

pub keeps-then : (old mid new : Tables) → KeepsNames old mid → KeepsNames mid new → KeepsNames old new
keeps-then old mid new a b = record {
  solvers = b.solvers ∙ a.solvers;
  named = λ u x h. b.named u x (a.named u x h);
  back = λ x u h d. b.back x u (a.back x u h d) (ap (λ k. k.deleted) (a.live x d) ∙ d);
  live = λ x d. b.live x (ap (λ k. k.deleted) (a.live x d) ∙ d) ∙ a.live x d;
}

-- a free name comes into use
pub given-keeps : (old new : Tables) (u x : ℕ) → at old.users.forward u ≡ None → IsGiven old new u x → KeepsNames old new
given-keeps old new u x free g = record {
  solvers = g.solvers;
  named = λ v y h. g.users.forward.at_each v ∙ updated-other (at old.users.forward) u (Some x) v
      (λ q. let z : None ≡ Some y = sym free ∙ ap (at old.users.forward) (sym q) ∙ h in cc) ∙ h;
  back = λ y v h d. g.users.backward.at_each y ∙ updated-other (at old.users.backward) x (Some u) y (apart y d) ∙ h;
  live = λ y d. g.kept.at_each y ∙ updated-other (data_at old.kept) x fresh y (apart y d);
}
  where
    apart : (y : ℕ) → (data_at old.kept y).deleted ≡ false → y ≡ x → ⊥
    apart y d q = let z : true ≡ false = sym g.unused.0 ∙ ap (λ v. (data_at old.kept v).deleted) (sym q) ∙ d in cc

pub next-keeps : (k : ℕ) (old new : Tables) → AreNextGiven k old new → KeepsNames old new
next-keeps zero old new e = keeps-none old new e
next-keeps (suc k) old new (mid, x, g, rest) =
    keeps-then old mid new (given-keeps old mid (length old.users.forward) x (at-past old.users.forward (length old.users.forward) (omega arith)) g)
    (next-keeps k mid new rest)

pub one-keeps : (u : ℕ) (old new : Tables) → IsNamed u old new → KeepsNames old new
one-keeps u old new (InUse x e same) = keeps-none old new same
one-keeps u old new (Free x b free g) = given-keeps old new u x free g
one-keeps u old new (Above b g) = next-keeps (u + 1 - length old.users.forward) old new g
