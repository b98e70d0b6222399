-- Names that are in order, and what is accepted then.
use Rattle.std.proofs.Common.{◌≡◌, ℕ, zero, suc, ◌+◌, ◌-◌, ◌*◌, ◌%◌, ◌<◌, ◌≤◌, nat_lt, max, if◌then◌else◌, false, List, [], ◌∷◌, ◌++◌, inl, inr, ⊎_elim, sym, ap, ◌∙◌, subst, refl, Some, map, arith, rules, None}
use Rattle.std.proofs.lemmas.Bool.{lt-ltb, cases_lt, eq-eqb}
use Rattle.varisat_theory.specs.promises.Membership.{◌∈◌}
use Rattle.varisat_theory.specs.promises.Literals.{Literal, variable_of}
use Rattle.varisat_theory.proofs.clauses.Members.{equal_or_not}
use Rattle.varisat_names.specs.promises.Maps.{updated}
use Rattle.varisat_names.proofs.Maps.{updated-other}
use Rattle.varisat_solver.specs.promises.Names.{Naming, Sample, bring, bring_next, bring_if_free, name_one, name_all, identity_of, through_names, IsLeastFree, AreInOrder, no_names}
use Rattle.varisat.specs.inside.Counts.{count_with}
use Rattle.varisat_literals.specs.promises.Numbers.{variable_limit}
use Rattle.varisat_solver.specs.promises.Models.{AreNamesInUse}
use Rattle.varisat_solver.specs.promises.Calls.{IsPastLimit}
use Rattle.varisat.specs.inside.Laws.{NamesStayInOrder, NamesAreIdentities, GivenIsAccepted, TooManyIsPastLimit}

-- Names that come into use, where those in use are the ones below a count, in order.

-- 1. Which names are in use.
updated-at : {X : Type 0} (f : ℕ → X) (k : ℕ) (v : X) (i : ℕ) → i ≡ k → updated f k v i ≡ v
updated-at f k v i e = ap (λ b. if b then v else f i) (eq-eqb i k e)

fit-bring : (n : ℕ) (s : Naming) → AreInOrder n s → AreInOrder (suc n) (bring s.watermark s)
fit-bring n s f = record {
  made = omega (arith, f.made);
  watermark = omega (arith, f.watermark);
  in_use = λ u h. ⊎_elim
      (λ e. updated-at s.names s.watermark (Some s.made) u e ∙ ap Some (f.made ∙ sym (e ∙ f.watermark)))
      (λ e. updated-other s.names s.watermark (Some s.made) u e ∙ f.in_use u (omega (arith, f.watermark)))
      (equal_or_not u s.watermark);
  free = λ u h. updated-other s.names s.watermark (Some s.made) u (λ e. absurd (omega (arith, f.watermark))) ∙ f.free u (omega arith);
  sampled = λ i h. ⊎_elim
      (λ e. updated-at s.modes s.made Sample i e)
      (λ e. updated-other s.modes s.made Sample i e ∙ f.sampled i (omega (arith, f.made, e)))
      (equal_or_not i s.made);
}

fit-next : (k n : ℕ) (s : Naming) → AreInOrder n s → AreInOrder (n + k) (bring_next k s)
fit-next zero n s f = subst (λ m. AreInOrder m s) (omega arith) f
fit-next (suc k) n s f = subst (λ m. AreInOrder m (bring_next k (bring s.watermark s))) (omega arith)
    (fit-next k (suc n) (bring s.watermark s) (fit-bring n s f))

pub fit-one : (u n : ℕ) (s : Naming) → AreInOrder n s → AreInOrder (max n (u + 1)) (name_one u s)
fit-one u n s f =
    ⊎_elim
    (λ h. let e = ap (λ b. if b then bring_if_free u (s.names u) s else bring_next (suc u - s.watermark) s) (lt-ltb u s.watermark h)
    ∙ ap (λ o. bring_if_free u o s) (f.in_use u (omega (arith, f.watermark))) in
    let m : n ≡ max n (u + 1) = omega (arith, f.watermark) in
    subst (AreInOrder (max n (u + 1))) (sym e) (subst (λ k. AreInOrder k s) m f))
    (λ h. let e = ap (λ b. if b then bring_if_free u (s.names u) s else bring_next (suc u - s.watermark) s) (not-below u s.watermark h) in
    let m : n + (suc u - s.watermark) ≡ max n (u + 1) = omega (arith, f.watermark) in
    subst (AreInOrder (max n (u + 1))) (sym e) (subst (λ k. AreInOrder k (bring_next (suc u - s.watermark) s)) m (fit-next (suc u - s.watermark) n s f)))
    (cases_lt u s.watermark)
  where
    not-below : (a b : ℕ) → b ≤ a → nat_lt a b ≡ false
    not-below a b h = search (rules, h)

pub fit-all : (d : List Literal) (n : ℕ) (s : Naming) → AreInOrder n s → AreInOrder (count_with n d) (name_all d s)
fit-all [] n s f = f
fit-all (l ∷ d) n s f = fit-all d (max n (variable_of l + 1)) (name_one (variable_of l) s) (fit-one (variable_of l) n s f)

pub least-free : (n : ℕ) (s : Naming) → AreInOrder n s → IsLeastFree s n
least-free n s f = (f.free n (omega arith), λ v h e. let q = sym (f.in_use v h) ∙ e in cc)

-- 2. Literals over names in use are those over identities.
pub count-above : (d : List Literal) (n : ℕ) → n ≤ count_with n d
count-above [] n = omega arith
count-above (l ∷ d) n = let h = count-above d (max n (variable_of l + 1)) in omega (arith, h)

pub count-within : (d : List Literal) (n : ℕ) (l : Literal) → l ∈ d → variable_of l < count_with n d
count-within [] n l h = absurd h
count-within (k ∷ d) n l (inl e) = let h = count-above d (max n (variable_of k + 1)) in omega (arith, h, ap variable_of e)
count-within (k ∷ d) n l (inr h) = count-within d (max n (variable_of k + 1)) l h

pub through-one : (n : ℕ) (s : Naming) (l : Literal) → AreInOrder n s → variable_of l < n → through_names s l ≡ l
through-one n s l f h = let e = ap (λ o. 2 * identity_of o + l % 2) (f.in_use (variable_of l) h) in e ∙ omega arith

pub through-all : (n : ℕ) (s : Naming) (d : List Literal) → AreInOrder n s → ((l : Literal) → l ∈ d → variable_of l < n) → map (through_names s) d ≡ d
through-all n s [] f h = refl
through-all n s (l ∷ d) f h = ap (λ x. x ∷ map (through_names s) d) (through-one n s l f (h l (inl refl)))
    ∙ ap (λ x. l ∷ x) (through-all n s d f (λ k m. h k (inr m)))

-- more names stay in order, and literals over them are over identities too
pub stay-in-order : (n : ℕ) (m : Naming) (ls : List Literal) → AreInOrder n m → AreInOrder (count_with n ls) (name_all ls m)
    × (map (through_names (name_all ls m)) ls ≡ ls)
stay-in-order n m ls f = let g = fit-all ls n m f in (g, through-all (count_with n ls) (name_all ls m) ls g (count-within ls n))

pub count-push : (d : List Literal) (n : ℕ) (l : Literal) → count_with n (d ++ l ∷ []) ≡ max (count_with n d) (variable_of l + 1)
count-push [] n l = refl
count-push (k ∷ d) n l = count-push d (max n (variable_of k + 1)) l

pub none-in-order : AreInOrder 0 no_names
none-in-order = record { made = refl; watermark = refl; in_use = λ u h. absurd (omega arith); free = λ u h. refl; sampled = λ i h. absurd (omega arith) }

-- the least free name is the count
least-is-count : (n : ℕ) (m : Naming) (u : ℕ) → AreInOrder n m → IsLeastFree m u → u ≡ n
least-is-count n m u o (e, h) =
    ⊎_elim
    (λ l. absurd (let z : Some u ≡ None = sym (o.in_use u l) ∙ e in cc))
    (λ k. ⊎_elim (λ l. absurd (h n l (o.free n (omega arith)))) (λ l. omega (arith, l, k)) (cases_lt n u))
    (cases_lt u n)

pub stays-in-order : NamesStayInOrder
stays-in-order = (
  none-in-order,
  (λ n m ls o. fit-all ls n m o),
  λ n m u o h. let e = least-is-count n m u o h in (e, subst (λ k. AreInOrder k (name_one u m)) (omega (arith, e)) (fit-one u n m o)),
)

-- a name in use is one below the count
pub in-use-below : (n : ℕ) (m : Naming) (ls : List Literal) → AreInOrder n m → AreNamesInUse m ls → (l : Literal) → l ∈ ls → variable_of l < n
in-use-below n m ls o named l h =
    ⊎_elim (λ b. b) (λ b. absurd (let (i, e) = named l h in let z : Some i ≡ None = sym e ∙ o.free (variable_of l) b in cc)) (cases_lt (variable_of l) n)

pub names-are-identities : NamesAreIdentities
names-are-identities n m ls o named = through-all n m ls o (in-use-below n m ls o named)

pub given-is-accepted : GivenIsAccepted
given-is-accepted n p v c o = let (order, own) = stay-in-order n p.naming c o in (ap (λ x. p.clauses ++ x ∷ []) own, own)

-- where names would be too many, one of them is past the limit
too-many-limit : (d : List Literal) (n : ℕ) → n ≤ variable_limit → variable_limit < count_with n d → IsPastLimit d
too-many-limit [] n h k = absurd (omega (arith, h, k))
too-many-limit (l ∷ d) n h k =
    ⊎_elim
    (λ m. let (x, i, y) = too-many-limit d (max n (variable_of l + 1)) (omega (arith, h, m)) k in (x, inr i, y))
    (λ m. (l, inl refl, m))
    (cases_lt (variable_of l) variable_limit)

pub too-many-is-past-limit : TooManyIsPastLimit
too-many-is-past-limit n m ls o h k = let f = fit-all ls n m o in too-many-limit ls n h (subst (λ x. variable_limit < x) f.made k)
