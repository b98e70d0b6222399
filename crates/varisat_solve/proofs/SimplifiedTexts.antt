-- A text whose formula was parsed: whether it is simplified, what a search of it says of the text, and how that fails.
use Rattle.std.proofs.Common.{◌≡◌, ℕ, ◌∙◌, ◌&&◌, ap, refl, sym, subst, List, Bool, true, false, not, Option, Some, None, Result, Ok, Err}
use Rattle.std.proofs.lemmas.List.{append_cancel_left}
use Rattle.varisat_theory.specs.promises.Literals.{Literal, Clause}
use Rattle.varisat_theory.specs.promises.Derivations.{Line}
use Rattle.varisat_formula.specs.promises.Dimacs.{Reading, dimacs}
use Rattle.varisat_formula.specs.promises.Formulas.{Formula}
use Rattle.varisat_formula.specs.promises.Parsed.{Parses}
use Rattle.varisat_formula.specs.promises.Streams.{Input, Taken}
use Rattle.varisat_formula.proofs.ParsedSources.{gives_whole}
use Rattle.varisat_lines.specs.declared.format.ProofFormat.{ProofFormat}
use Rattle.varisat_lines.specs.promises.Lines.{has_marks}
use Rattle.varisat_simplify.specs.promises.Simplified.{literal_count, IsMadeOf}
use Rattle.varisat_solver.specs.promises.States.{State}
use Rattle.varisat_solver.specs.promises.Additions.{AddsAll, AllAdded, OneRefused, RefusedAtOnce, Read, ClauseRefused, ClausesAdded, NoFault}
use Rattle.varisat_solver.specs.promises.Calls.{by_state, IsValid}
use Rattle.varisat_solver.specs.promises.ClauseCalls.{AddsFormula, AddsDimacs}
use Rattle.varisat.specs.promises.Decided.{Conclusion, Decided}
use Rattle.varisat.specs.promises.Proven.{prepared, SearchesText, FailsBy, Fails}
use Rattle.varisat.specs.promises.Proven as text
use Rattle.varisat.specs.declared.deciding.SolveOptions.{SolveOptions}
use Rattle.varisat_solver.specs.declared.solver.SolverError.{SolverError}
use Rattle.varisat_solver.specs.declared.solver.SolverError.TheVariants.{OutOfMemory}
use Rattle.varisat_solve.specs.declared.options.ProgramOptions.{ProgramOptions}
use Rattle.varisat_solve.specs.declared.options.Simplification.{Simplification}
use Rattle.varisat_solve.specs.declared.options.Simplification.TheVariants.{Always, Never, IfLong}
use Rattle.varisat_solve.specs.promises.Solving.{is_allowed, simplifies, may_simplify, is_simplified, IsSearchedAsIs, Made, TakesLead, SearchesOver, FailsOver, AsAdded, AsSearched, AsListed, AsClosed, FailsSimplified, AsExtended}

-- 1. Whether the formula is simplified.
abbrev pub made-of : (f g : Formula) (stack : List Clause) (lines : List Line) → IsMadeOf f g stack lines → Made f
made-of f g stack lines made = record { into = g; stack = stack; lines = lines; made = made }

-- a formula that is simplified has no marks in its proof
pub unmarked : (b m : Bool) → (b && not m) ≡ true → m ≡ false
unmarked true true e = absurd (cc)
unmarked true false e = refl
unmarked false m e = absurd (cc)

never-by : (s : Simplification) (m : Bool) (n : ℕ) → (is_allowed s && m) ≡ false → (simplifies s n && m) ≡ false
never-by s true n e = asked s n e
  where
    asked : (s : Simplification) (n : ℕ) → (is_allowed s && true) ≡ false → (simplifies s n && true) ≡ false
    asked Always n e = absurd (let z : true ≡ false = e in cc)
    asked Never n e = refl
    asked IfLong n e = absurd (let z : true ≡ false = e in cc)
never-by s false n e = none (simplifies s n)
  where
    none : (b : Bool) → (b && false) ≡ false
    none true = refl
    none false = refl

pub never-simplified : (o : ProgramOptions) (old new : Input) → may_simplify o ≡ false → IsSearchedAsIs o old new
never-simplified o old new e f p = never-by o.simplification (not (has_marks o.search.format)) (literal_count f.clauses) e

-- a text gives one list of clauses
parsed-once : (old new : Input) (f g : Formula) → Parses old (Ok f) new → Parses old (Ok g) new → f.clauses ≡ g.clauses
parsed-once old new f g p q =
    let v = gives_whole old new p.reading p.gives p.tells.1 in
    let w = gives_whole old new q.reading q.gives q.tells.1 in
    let same : v.text ≡ w.text = append_cancel_left old.given v.text w.text (sym v.reads.gave ∙ w.reads.gave) in
    ap (λ (x : Formula). x.clauses) p.tells.0 ∙ ap (λ (x : Reading). x.clauses) (v.is ∙ ap dimacs same ∙ sym w.is)
    ∙ sym (ap (λ (x : Formula). x.clauses) q.tells.0)

pub searched-as-is : (o : ProgramOptions) (old new : Input) (f : Formula) → Parses old (Ok f) new → is_simplified o f.clauses ≡ false →
    IsSearchedAsIs o old new
searched-as-is o old new f p e g q = subst (λ P. is_simplified o P ≡ false) (parsed-once old new f g p q) e

-- 2. A solver that takes the formula in has taken the text in.
adds-parsed : (s : State) (old new : Input) (f : Formula) (r : Result (Unit {0}) SolverError) (t : State) → IsValid s → Parses old (Ok f) new →
    AddsFormula s f.clauses r t → AddsDimacs s old r new t
adds-parsed s old new f r t valid p (AllAdded v mid a e k) =
    let same = ap (λ (x : Formula). x.clauses) p.tells.0 in
    Read v p.reading p.gives (ClausesAdded mid (subst (λ Q. AddsAll by_state s Q (Ok tt) mid) same a) (NoFault p.tells.1 e k))
adds-parsed s old new f r t valid p (OneRefused v e k a) =
    let same = ap (λ (x : Formula). x.clauses) p.tells.0 in
    Read v p.reading p.gives (ClauseRefused e k (subst (λ Q. AddsAll by_state s Q (Err e) t) same a))
adds-parsed s old new f r t valid p (RefusedAtOnce e k) = absurd (let z : true ≡ false = sym valid ∙ k.0 in cc)

prepared-valid : {W : Type 0} (taken : W → Taken) (format : ProofFormat) (check : Bool) (limit : Option ℕ) (target : Option W) →
    IsValid (prepared taken format check limit target)
prepared-valid taken format check limit None = refl
prepared-valid taken format check limit (Some target) = refl

pub searches-parsed : {W : Type 0} (taken : W → Taken) (o : SolveOptions) (target : Option W) (old new : Input) (f : Formula) (c : Conclusion) →
    Parses old (Ok f) new → SearchesOver (prepared taken o.format o.check o.max_steps target) f.clauses c → SearchesText taken o target old new c
searches-parsed taken o target old new f c p (t, u, a, k) =
    let s = prepared taken o.format o.check o.max_steps target in
    (t, u, adds-parsed s old new f (Ok tt) t (prepared-valid taken o.format o.check o.max_steps target) p a, k)

pub fails-parsed : {W : Type 0} (taken : W → Taken) (o : SolveOptions) (target : Option W) (old new : Input) (f : Formula) (e : SolverError) →
    Parses old (Ok f) new → FailsOver taken (prepared taken o.format o.check o.max_steps target) f.clauses e → FailsBy taken o target old new e
fails-parsed taken o target old new f e p h = go h
  where
    adds : (r : Result (Unit {0}) SolverError) (t : State) → AddsFormula (prepared taken o.format o.check o.max_steps target) f.clauses r t →
        AddsDimacs (prepared taken o.format o.check o.max_steps target) old r new t
    adds r t a =
        adds-parsed (prepared taken o.format o.check o.max_steps target) old new f r t (prepared-valid taken o.format o.check o.max_steps target) p a

    go : FailsOver taken (prepared taken o.format o.check o.max_steps target) f.clauses e → FailsBy taken o target old new e
    go (AsAdded t a) = text.AsRead t (adds (Err e) t a)
    go (AsSearched t u a k n) = text.AsSearched t u (adds (Ok tt) t a) k n
    go (AsListed t u a k n) = text.AsListed t u (adds (Ok tt) t a) k n
    go (AsClosed t u v c back a k d) = text.AsClosed t u v c back (adds (Ok tt) t a) k d

-- 3. A model that is not extended.
pub extended-fails : {W : Type 0} (taken : W → Taken) (o : SolveOptions) (f g : Formula) (stack : List Clause) (lines : List Line) (c : Conclusion)
    (model : List Literal) (target led : Option W) (e : SolverError) → IsMadeOf f g stack lines → TakesLead taken o.format target lines (Ok tt) led →
    SearchesOver (prepared taken o.format o.check o.max_steps led) g.clauses c → c ≡ Decided (Some model) → e ≡ OutOfMemory →
    FailsSimplified taken o target f e
extended-fails taken o f g stack lines c model target led e made takes k is memory =
    AsExtended (made-of f g stack lines made) led takes model (subst (SearchesOver (prepared taken o.format o.check o.max_steps led) g.clauses) is k) memory
