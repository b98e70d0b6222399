-- Lists of watches of which each names another clause.
use Rattle.std.proofs.Common.{◌≡◌, ◌≢◌, ℕ, ◌++◌, List, [], ◌∷◌, map, ◌⊎◌, inl, inr, ⊎_elim, sym, ap, ◌∙◌, subst, refl}
use Rattle.varisat_theory.specs.promises.Membership.{◌∈◌, IsDistinct}
use Rattle.varisat_theory.proofs.clauses.Members.{∈-append_right}
use Rattle.varisat_prop.specs.declared.prop.watch_list.Watch.{Watch}
use Rattle.varisat_prop.specs.Watches.{NameOnce}
use Rattle.varisat_prop.specs.Visits.{GetsWatch}

abbrev names : List Watch → List ℕ
names ws = map (λ (w : Watch). w.cref) ws

named : (ws : List Watch) (w : Watch) → w ∈ ws → w.cref ∈ names ws
named [] w h = absurd h
named (y ∷ ws) w (inl e) = inl (ap (λ (x : Watch). x.cref) e)
named (y ∷ ws) w (inr h) = inr (named ws w h)

-- without one of them
fewer-names : (kept rest : List Watch) (w : Watch) (i : ℕ) → i ∈ names (kept ++ rest) → i ∈ names (kept ++ w ∷ rest)
fewer-names [] rest w i h = inr h
fewer-names (y ∷ kept) rest w i (inl e) = inl e
fewer-names (y ∷ kept) rest w i (inr h) = inr (fewer-names kept rest w i h)

pub once-dropped : (kept rest : List Watch) (w : Watch) → NameOnce (kept ++ w ∷ rest) → NameOnce (kept ++ rest)
once-dropped [] rest w d = d.1
once-dropped (y ∷ kept) rest w d = ((λ h. d.0 (fewer-names kept rest w y.cref h)), once-dropped kept rest w d.1)

-- the others name other clauses
pub once-apart : (kept rest : List Watch) (w y : Watch) → NameOnce (kept ++ w ∷ rest) → (y ∈ kept) ⊎ (y ∈ rest) → y.cref ≢ w.cref
once-apart [] rest w y d (inl h) e = absurd h
once-apart [] rest w y d (inr h) e = d.0 (subst (λ n. n ∈ names rest) e (named rest y h))
once-apart (z ∷ kept) rest w y d (inl (inl f)) e =
    d.0 (subst (λ n. n ∈ names (kept ++ w ∷ rest)) (sym (sym (ap (λ (x : Watch). x.cref) f) ∙ e))
    (named (kept ++ w ∷ rest) w (∈-append_right w kept (w ∷ rest) (inl refl))))
once-apart (z ∷ kept) rest w y d (inl (inr h)) e = once-apart kept rest w y d.1 (inl h) e
once-apart (z ∷ kept) rest w y d (inr h) e = once-apart kept rest w y d.1 (inr h) e

-- one of them is another watch of the same clause
same-names : (kept rest : List Watch) (w x : Watch) → x.cref ≡ w.cref → names ((kept ++ x ∷ []) ++ rest) ≡ names (kept ++ w ∷ rest)
same-names [] rest w x e = ap (λ n. n ∷ names rest) e
same-names (y ∷ kept) rest w x e = ap (λ ns. y.cref ∷ ns) (same-names kept rest w x e)

pub once-moved : (kept rest : List Watch) (w x : Watch) → x.cref ≡ w.cref → NameOnce (kept ++ w ∷ rest) → NameOnce ((kept ++ x ∷ []) ++ rest)
once-moved kept rest w x e d = subst (λ (ns : List ℕ). IsDistinct ns) (sym (same-names kept rest w x e)) d

-- one more, of a clause that none of them names
name-more : (ws : List Watch) (w : Watch) (i : ℕ) → i ∈ names (ws ++ w ∷ []) → (i ∈ names ws) ⊎ (i ≡ w.cref)
name-more [] w i (inl e) = inr e
name-more [] w i (inr h) = absurd h
name-more (y ∷ ws) w i (inl e) = inl (inl e)
name-more (y ∷ ws) w i (inr h) = ⊎_elim (λ k. inl (inr k)) (λ e. inr e) (name-more ws w i h)

pub once-pushed : (ws : List Watch) (w : Watch) → NameOnce ws → ((y : Watch) → y ∈ ws → y.cref ≢ w.cref) → NameOnce (ws ++ w ∷ [])
once-pushed [] w d n = ((λ h. h), tt)
once-pushed (y ∷ ws) w d n =
    ((λ h. ⊎_elim (λ k. d.0 k) (λ e. n y (inl refl) e) (name-more ws w y.cref h)), once-pushed ws w d.1 (λ z k. n z (inr k)))

-- a list that stays or gets one watch, of a clause that none of them names
pub once-gets : (ws vs : List Watch) (i : ℕ) → NameOnce ws → ((y : Watch) → y ∈ ws → y.cref ≢ i) → (vs ≡ ws) ⊎ GetsWatch ws vs i → NameOnce vs
once-gets ws vs i d n (inl e) = subst (λ xs. NameOnce xs) (sym e) d
once-gets ws vs i d n (inr (w, c, e)) = subst (λ xs. NameOnce xs) (sym e) (once-pushed ws w d (λ y h f. n y h (f ∙ c)))
