-- What the parts of the calls that hide and show variables do to the spaces.
use Rattle.std.proofs.Common.{◌≡◌, ℕ, ◌+◌, ◌≤◌, false, List, length, arith, ◌↔◌, sym, subst, max, Some, None}
use Rattle.std.specs.Option.{IsSome}
use Rattle.varisat_names.specs.promises.VarData.{data_at, IsDataAt, dead}
use Rattle.varisat_names.specs.promises.Variables.{Tables, IsGiven}
use Rattle.varisat_names.specs.declared.variables.data.VarData.{VarData}
use Rattle.varisat_names.proofs.Tables.{least-near, live-inside}
use Rattle.varisat_prop.specs.View.{View}
use Rattle.varisat_vsids.specs.Activities.{Activities}
use Rattle.varisat_search.specs.Decisions.{IsDecidable, SameDecidable}
use Rattle.varisat_names.specs.promises.VarBiMap.{BiMap}
use Rattle.varisat_names.specs.promises.VarMap.{at}
use Rattle.varisat_solver.specs.inside.Accepting.{DecidesInUse}
use Rattle.varisat_theory.specs.promises.Searches.{Search}
use Rattle.varisat_names.specs.promises.Maps.{updated}
use Rattle.varisat_names.specs.declared.variables.data.SamplingMode.{SamplingMode}
use Rattle.varisat_solver.specs.inside.Spaces.{Spaces}
use Rattle.varisat_names.specs.declared.variables.data.SamplingMode.TheVariants as sampling

-- How many global variables there are after a change.

-- a live variable was made before
pub kept-most : (old new : List VarData) (x : ℕ) (d : VarData) → (data_at old x).deleted ≡ false → IsDataAt old x d new → length new ≡ length old
kept-most old new x d live k = let b = live-inside old x live in let c = k.count in omega (arith, b, c)

-- a name that comes into use needs one more at most
pub given-near : (old new : Tables) (u x : ℕ) → IsGiven old new u x → x ≤ length old.kept
given-near old new u x g = least-near old.kept x g.unused

pub given-most : (old new : Tables) (u x : ℕ) → IsGiven old new u x → length new.kept ≤ length old.kept + 1
given-most old new u x g = let b = least-near old.kept x g.unused in let c = g.kept.count in omega (arith, b, c)

-- The solver variables in use, and which of them may be decided.

-- the same ones may be decided
pub same-in-use : (m : Tables) (s : View) (a : Activities) (t : View) (b : Activities) → DecidesInUse m s a → SameDecidable s a t b → DecidesInUse m t b
same-in-use m s a t b d g v = ((λ h. (d v).0 ((g v).1 h)), (λ h. (g v).0 ((d v).1 h)))

-- the same ones are in use
pub tables-in-use : (m n : Tables) (s : View) (a : Activities) → n.solvers ≡ m.solvers → DecidesInUse m s a → DecidesInUse n s a
tables-in-use m n s a e d = subst (λ (x : BiMap). (v : ℕ) → IsDecidable s a v ↔ IsSome (at x.backward v)) (sym e) d

-- what is kept of the global variable is d
abbrev pub with_data : ℕ → VarData → Spaces → Spaces
with_data x d p = record p { kept = updated p.kept x d }

-- what is kept of the variable, with another mode
abbrev pub in_mode : SamplingMode → VarData → VarData
in_mode mode d = record d { sampling_mode = mode }

abbrev pub set_mode : ℕ → SamplingMode → Spaces → Spaces
set_mode x mode p = with_data x (in_mode mode (p.kept x)) p

-- the name is free, and its variable is hidden
abbrev pub hide : ℕ → ℕ → Spaces → Spaces
hide u x p = record (set_mode x sampling.Hide p) { global_from_user = updated p.global_from_user u None; user_from_global = updated p.user_from_global x None }

-- a hidden variable comes back under a free name
abbrev pub show : ℕ → ℕ → Spaces → Spaces
show u x p = record (set_mode x sampling.Witness p) {
  global_from_user = updated p.global_from_user u (Some x);
  user_from_global = updated p.user_from_global x (Some u);
  watermark = max p.watermark (u + 1);
}

-- the variable may be used again, and has no value any more
abbrev pub recycle : ℕ → Spaces → Spaces
recycle x p = record (with_data x dead p) { model = updated p.model x false }

-- the search is t, which knows nothing of the solver variable v any more, and what is kept of its global variable x is d
abbrev pub leave_search : ℕ → ℕ → Search → VarData → Spaces → Spaces
leave_search v x t d p = record (with_data x d p)
    { solver_from_global = updated p.solver_from_global x None; global_from_solver = updated p.global_from_solver v None; search = t }

-- the search is t, which knows nothing of the solver variable v any more, and its global variable x may be used again
abbrev pub leave_all : ℕ → ℕ → Search → Spaces → Spaces
leave_all v x t p = record (recycle x p)
    { solver_from_global = updated p.solver_from_global x None; global_from_solver = updated p.global_from_solver v None; search = t }
