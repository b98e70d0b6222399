-- The steps of an elimination, by what the calls in them say.
use Rattle.std.proofs.Common.{◌≡◌, ℕ, ◌+◌, ◌/◌, ◌<◌, ◌≤◌, Bool, true, false, List, [], ◌∷◌, inl, inr, ⊎_elim, sym, ap, ◌∙◌, subst, length, get_or, arith}
use Rattle.std.specs.Prelude.{MatchBool}
use Rattle.varisat_theory.specs.promises.Membership.{◌∈◌}
use Rattle.varisat_theory.specs.promises.Literals.{Literal, Clause, opposite}
use Rattle.varisat_theory.proofs.clauses.Places.{∈-get_or}
use Rattle.varisat_theory.proofs.clauses.Values.{opposite_twice, variable-opposite}
use Rattle.varisat_database.specs.Databases.{DatabaseState, pushed, removed, saved, clause_at, IsLive}
use Rattle.varisat_rules.specs.inside.States.{IsThawed, Collects, ResolvesPairs, SavesClauses, Drops}
use Rattle.varisat_rules.specs.inside.Resolving.{Resolves, Clashes}
use Rattle.varisat_rules.proofs.EliminateLemmas.{adds_skip, adds_push, saves_first, saves_next, drops_first, drops_next}

pub adds_by_push : (s t u : DatabaseState) (l : Literal) (w g : List ℕ) (x y p q : ℕ) (c d e f : Clause) → p ≡ get_or w x 0 → q ≡ get_or g y 0 → c ≡ clause_at t p →
    d ≡ clause_at t q → Resolves c d l e → f ≡ e → u ≡ pushed t f → x < length w → y < length g → ResolvesPairs s t l w g x y → ResolvesPairs s u l w g x (y + 1)
adds_by_push s t u l w g x y p q c d e f ep eq ec ed r ef eu hx hy a =
    subst (λ (v : DatabaseState). ResolvesPairs s v l w g x (y + 1)) (sym (eu ∙ ap (λ (z : Clause). pushed t z) ef)) (adds_push s t l w g x y e hx hy
    (λ m h. ⊎_elim
    (λ b. inl (subst (λ (z : Clause). m ∈ z) one b.0, b.1))
    (λ b. inr (subst (λ (z : Clause). m ∈ z) two b.0, b.1))
    (r.from m h))
    (λ m h. ⊎_elim inl (λ b. ⊎_elim (λ o. absurd (a.ones.without i (∈-get_or w x 0 hx) (subst (λ z. z ∈ clause_at t i) o h))) inr b)
    (r.left m (subst (λ (z : Clause). m ∈ z) (sym one) h)))
    (λ m h. r.right m (subst (λ (z : Clause). m ∈ z) (sym two) h))
    a)
  where
    i : ℕ
    i = get_or w x 0

    one : c ≡ clause_at t (get_or w x 0)
    one = ec ∙ ap (clause_at t) ep

    two : d ≡ clause_at t (get_or g y 0)
    two = ed ∙ ap (clause_at t) eq

pub adds_by_skip : (s t u : DatabaseState) (l : Literal) (w g : List ℕ) (x y p q : ℕ) (c d : Clause) → p ≡ get_or w x 0 → q ≡ get_or g y 0 → c ≡ clause_at t p →
    d ≡ clause_at t q → Clashes c d l → u ≡ t → ResolvesPairs s t l w g x y → ResolvesPairs s u l w g x (y + 1)
adds_by_skip s t u l w g x y p q c d ep eq ec ed k eu a =
    subst (λ (v : DatabaseState). ResolvesPairs s v l w g x (y + 1)) (sym eu) (adds_skip s t l w g x y k.0
    (subst (λ (z : Clause). k.0 ∈ z) (ec ∙ ap (clause_at t) ep) k.1) k.2 (subst (λ (z : Clause). opposite k.0 ∈ z) (ed ∙ ap (clause_at t) eq) k.3) a)

pub saves_by : (s t u : DatabaseState) (l : Literal) (w g : List ℕ) (x p : ℕ) → p ≡ get_or w x 0 → u ≡ removed (saved t (l ∷ clause_at t p)) p → x < length w →
    l / 2 < s.var_count → IsThawed s l → SavesClauses s t l w g x → SavesClauses s u l w g (x + 1)
saves_by s t u l w g x p ep eu hx small thaw a =
    subst (λ (v : DatabaseState). SavesClauses s v l w g (x + 1)) (sym (eu ∙ ap (λ i. removed (saved t (l ∷ clause_at t i)) i) ep))
    (saves_next s t l w g x (clause_at t (get_or w x 0)) hx (let n = a.becomes.count in omega (arith, small, n))
    (ap (λ (f : List Bool). get_or f (l / 2) false) a.becomes.frozen ∙ thaw) (λ m h. h) (λ m h. inr h) a)

pub drops_begun : (s t : DatabaseState) (m : Literal) (g : List ℕ) (c : Clause) → c ≡ m ∷ [] → t ≡ saved s c → Drops s t m g 0
drops_begun s t m g c e q = subst (λ (u : DatabaseState). Drops s u m g 0) (sym (q ∙ ap (λ (x : Clause). saved s x) e)) (drops_first s m g)

pub drops_by : (s t u : DatabaseState) (m : Literal) (g : List ℕ) (x p : ℕ) → p ≡ get_or g x 0 → u ≡ removed t p → x < length g → Collects s m g →
    Drops s t m g x → Drops s u m g (x + 1)
drops_by s t u m g x p ep eu hx with a =
    subst (λ (v : DatabaseState). Drops s v m g (x + 1)) (sym eu) (drops_next s t m g x p ep (subst (λ i. m ∈ clause_at s i) (sym ep) (with.with (get_or g x 0) (∈-get_or g x 0 hx))) a)

pub pure_opposite : (s : DatabaseState) (l m : Literal) → m ≡ opposite l → ((k : ℕ) → IsLive s k → l ∈ clause_at s k → ⊥) → (k : ℕ) → IsLive s k → opposite m ∈ clause_at s k → ⊥
pure_opposite s l m e pure k live h = pure k live (subst (λ x. x ∈ clause_at s k) (ap opposite e ∙ opposite_twice l) h)

pub matched_true : (P Q : Type 0) (b : Bool) → b ≡ true → MatchBool b P Q → P
matched_true P Q b e m = subst (λ x. MatchBool x P Q) e m

pub matched_false : (P Q : Type 0) (b : Bool) → b ≡ false → MatchBool b P Q → Q
matched_false P Q b e m = subst (λ x. MatchBool x P Q) e m

pub adds_all : (s t : DatabaseState) (l : Literal) (w g : List ℕ) (x : ℕ) → length w ≤ x → x ≤ length w → ResolvesPairs s t l w g x 0 → ResolvesPairs s t l w g (length w) 0
adds_all s t l w g x a b r = subst (λ n. ResolvesPairs s t l w g n 0) (omega (arith, a, b)) r

pub saves_from : (s t : DatabaseState) (l : Literal) (w g v h : List ℕ) → v ≡ w → h ≡ g → ResolvesPairs s t l w g (length w) 0 → SavesClauses t t l v h 0
saves_from s t l w g v h e f r =
    subst (λ (x : List ℕ). SavesClauses t t l x h 0) (sym e) (subst (λ (y : List ℕ). SavesClauses t t l w y 0) (sym f) (saves_first s t l w g (length w) (omega arith) r))

pub small_opposite : (l m v n i : ℕ) → m ≡ opposite l → i ≡ l / 2 → i < v → v ≡ n → m / 2 < n
small_opposite l m v n i e q h f = let a : m / 2 ≡ l / 2 = ap (λ x. x / 2) e ∙ variable-opposite l in omega (arith, a, q, h, f)

-- the other literal of a variable that may be resolved away
pub thawed_opposite : (l m : Literal) (f g : List Bool) (b : Bool) → m ≡ opposite l → f ≡ g → b ≡ get_or g (l / 2) false → b ≡ false →
    get_or f (m / 2) false ≡ false
thawed_opposite l m f g b e q h n =
    ap (λ k. get_or f k false) (ap (λ x. x / 2) e ∙ variable-opposite l) ∙ ap (λ (x : List Bool). get_or x (l / 2) false) q ∙ sym h ∙ n
