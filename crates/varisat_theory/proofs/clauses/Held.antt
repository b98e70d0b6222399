-- Lists that hold the same clauses, in any order.
use Rattle.std.proofs.Common.{◌≡◌, List, [], ◌∷◌, ◌++◌, ◌⊎◌, inl, inr, ⊎_elim, sym, ap, ◌∙◌, subst, refl, append_assoc}
use Rattle.varisat_theory.specs.promises.Membership.{◌∈◌, ◌⊆◌, SameSet}
use Rattle.varisat_theory.specs.promises.Literals.{Literal, Clause, Assignment, SatisfiesAll}
use Rattle.varisat_theory.specs.promises.Propagation.{Conflicts, Follows, IsCoveredBy}
use Rattle.varisat_theory.specs.promises.Derivations.{TakesOut}
use Rattle.varisat_theory.specs.promises.Held.{SameClauses}
use Rattle.varisat_theory.proofs.clauses.Members.{∈-append_right}
use Rattle.varisat_theory.proofs.clauses.Growth.{conflicts_more, follows_more}
use Rattle.varisat_theory.proofs.clauses.Sound.{takes_less}

pub same_set-self : (c : Clause) → SameSet c c
same_set-self c = (λ x h. h, λ x h. h)

pub same_set-back : (c d : Clause) → SameSet c d → SameSet d c
same_set-back c d s = (s.1, s.0)

pub same_set-through : (c d e : Clause) → SameSet c d → SameSet d e → SameSet c e
same_set-through c d e s t = (λ x h. t.0 x (s.0 x h), λ x h. s.1 x (t.1 x h))

-- what is taken out was there
pub takes_from : (Q : List Clause) (c : Clause) (R : List Clause) → TakesOut Q c R → (d : Clause) × (d ∈ Q) × SameSet d c
takes_from Q c R (front, d, back, e, s, _) = (d, subst (λ l. d ∈ l) (sym e) (∈-append_right d front (d ∷ back) (inl refl)), s)

pub same_clauses_cover : (P Q : List Clause) → SameClauses P Q → IsCoveredBy P Q
same_clauses_cover [] Q s c h = absurd h
same_clauses_cover (p ∷ P) Q s c (inl e) =
    let t = takes_from Q p s.0 s.1 in
    (t.0, t.1, subst (λ x. t.0 ⊆ x) (sym e) t.2.0)
same_clauses_cover (p ∷ P) Q s c (inr h) =
    let t = same_clauses_cover P s.0 s.2 c h in
    (t.0, takes_less Q p s.0 s.1 t.0 t.1, t.2)

-- each clause of the one list is in the other, as a set
pub same_clauses_find : (P Q : List Clause) → SameClauses P Q → (c : Clause) → c ∈ P → (d : Clause) × (d ∈ Q) × SameSet d c
same_clauses_find [] Q s c h = absurd h
same_clauses_find (p ∷ P) Q s c (inl e) = subst (λ x. (d : Clause) × (d ∈ Q) × SameSet d x) (sym e) (takes_from Q p s.0 s.1)
same_clauses_find (p ∷ P) Q s c (inr h) =
    let t = same_clauses_find P s.0 s.2 c h in
    (t.0, takes_less Q p s.0 s.1 t.0 t.1, t.2)

pub conflicts_same : (P Q : List Clause) (base : List Literal) → SameClauses P Q → Conflicts P base → Conflicts Q base
conflicts_same P Q base s k = conflicts_more P Q base base (same_clauses_cover P Q s) (λ x h. h) k

pub follows_same : (P Q : List Clause) (c d : Clause) → SameClauses P Q → SameSet c d → Follows P c → Follows Q d
follows_same P Q c d s t f = follows_more P Q c d (same_clauses_cover P Q s) t.0 f

-- a held clause is taken out in whatever order the clauses stand
pub takes_out_member : (Q : List Clause) (d c : Clause) → d ∈ Q → SameSet d c → (R : List Clause) × TakesOut Q c R
takes_out_member [] d c h s = absurd h
takes_out_member (q ∷ Q) d c (inl e) s = (Q, ([], q, Q, refl, subst (λ x. SameSet x c) e s, refl))
takes_out_member (q ∷ Q) d c (inr h) s =
    let (R, (front, x, back, e, t, e')) = takes_out_member Q d c h s in
    (q ∷ R, (q ∷ front, x, back, ap (λ l. q ∷ l) e, t, ap (λ l. q ∷ l) e'))

-- the same by recursion
abbrev Takes : List Clause → Clause → List Clause → Type 0
Takes [] c R = ⊥
Takes (q ∷ Q) c R = (SameSet q c × (R ≡ Q)) ⊎ ((S : List Clause) × (R ≡ q ∷ S) × Takes Q c S)

takes_out : (Q : List Clause) (c : Clause) (R : List Clause) → Takes Q c R → TakesOut Q c R
takes_out [] c R h = absurd h
takes_out (q ∷ Q) c R (inl (s, e)) = ([], q, Q, refl, s, e)
takes_out (q ∷ Q) c R (inr (S, e, h)) =
    let (front, d, back, a, s, b) = takes_out Q c S h in
    (q ∷ front, d, back, ap (λ l. q ∷ l) a, s, e ∙ ap (λ l. q ∷ l) b)

takes_at : (front : List Clause) (d : Clause) (back : List Clause) (c : Clause) → SameSet d c → Takes (front ++ (d ∷ back)) c (front ++ back)
takes_at [] d back c s = inl (s, refl)
takes_at (x ∷ front) d back c s = inr (front ++ back, refl, takes_at front d back c s)

takes_steps : (Q : List Clause) (c : Clause) (R : List Clause) → TakesOut Q c R → Takes Q c R
takes_steps Q c R (front, d, back, e, s, e') =
    subst (λ S. Takes Q c S) (sym e') (subst (λ S. Takes S c (front ++ back)) (sym e) (takes_at front d back c s))

takes_same : (Q : List Clause) (c d : Clause) (R : List Clause) → SameSet c d → Takes Q c R → Takes Q d R
takes_same [] c d R s h = h
takes_same (q ∷ Q) c d R s (inl (t, e)) = inl (same_set-through q c d t s, e)
takes_same (q ∷ Q) c d R s (inr (S, e, h)) = inr (S, e, takes_same Q c d S s h)

-- what is taken out for a clause is so for one that is equal as a set
pub takes_out_same : (Q : List Clause) (c d : Clause) (R : List Clause) → SameSet c d → TakesOut Q c R → TakesOut Q d R
takes_out_same Q c d R s t = takes_out Q d R (takes_same Q c d R s (takes_steps Q c R t))

-- two clauses are taken out in either order
takes_swap : (Q : List Clause) (p : Clause) (R : List Clause) (c : Clause) (S : List Clause) → Takes Q p R → Takes R c S → (T : List Clause)
    × Takes Q c T × Takes T p S
takes_swap [] p R c S h k = absurd h
takes_swap (q ∷ Q) p R c S (inl (s, e)) k =
    (q ∷ S, inr (S, refl, subst (λ x. Takes x c S) e k), inl (s, refl))
takes_swap (q ∷ Q) p R c S (inr (R', e, h)) k =
    ⊎_elim first (later (λ S' j. takes_swap Q p R' c S' h j)) (subst (λ x. Takes x c S) e k)
  where
    first : SameSet q c × (S ≡ R') → (T : List Clause) × Takes (q ∷ Q) c T × Takes T p S
    first w = (Q, inl (w.0, refl), subst (λ x. Takes Q p x) (sym w.1) h)

    later : ((S' : List Clause) → Takes R' c S' → (T : List Clause) × Takes Q c T × Takes T p S') →
        ((S' : List Clause) × (S ≡ q ∷ S') × Takes R' c S') → (T : List Clause) × Takes (q ∷ Q) c T × Takes T p S
    later rec w = let t = rec w.0 w.2 in (q ∷ t.0, inr (t.0, refl, t.1), inr (w.0, w.1, t.2))

deleted : (P Q : List Clause) (c : Clause) (P' : List Clause) → SameClauses P Q → Takes P c P' → (Q' : List Clause) × Takes Q c Q' × SameClauses P' Q'
deleted [] Q c P' s h = absurd h
deleted (p ∷ P) Q c P' (R, t, s) (inl (e, f)) =
    (R, takes_same Q p c R e (takes_steps Q p R t), subst (λ x. SameClauses x R) (sym f) s)
deleted (p ∷ P) Q c P' (R, t, s) (inr (S, f, h)) =
    let (R', k, u) = deleted P R c S s h in
    let (T, a, b) = takes_swap Q p R c R' (takes_steps Q p R t) k in
    (T, a, subst (λ x. SameClauses x T) (sym f) (R', takes_out T p R' b, u))

-- a clause is taken out of both of two lists that hold the same ones
pub same_delete : (P Q : List Clause) (c : Clause) (P' : List Clause) → SameClauses P Q → TakesOut P c P' → (Q' : List Clause) × TakesOut Q c Q'
    × SameClauses P' Q'
same_delete P Q c P' s t =
    let (Q', h, u) = deleted P Q c P' s (takes_steps P c P' t) in
    (Q', takes_out Q c Q' h, u)

pub same_clauses-self : (P : List Clause) → SameClauses P P
same_clauses-self [] = refl
same_clauses-self (c ∷ P) = (P, ([], c, P, refl, same_set-self c, refl), same_clauses-self P)

-- a clause that is equal as a set is added to both
pub same_add : (P Q : List Clause) (c d : Clause) → SameClauses P Q → SameSet c d → SameClauses (P ++ (c ∷ [])) (Q ++ (d ∷ []))
same_add [] Q c d s t =
    let e = ap (λ l. l ++ (d ∷ [])) s in
    ([], ([], d, [], e, same_set-back c d t, refl), refl)
same_add (p ∷ P) Q c d (R, (front, x, back, e, u, f), s) t = (
  R ++ (d ∷ []),
  (
    front,
    x,
    back ++ (d ∷ []),
    ap (λ l. l ++ (d ∷ [])) e ∙ append_assoc front (x ∷ back) (d ∷ []),
    u,
    ap (λ l. l ++ (d ∷ [])) f
        ∙ append_assoc front back (d ∷ []),
  ),
  same_add P R c d s t,
)

-- one clause more on the left, anywhere
pub put_back : (front back P : List Clause) (d p : Clause) → SameSet d p → SameClauses (front ++ back) P → SameClauses (front ++ (d ∷ back)) (p ∷ P)
put_back [] back P d p s h = (P, ([], p, P, refl, same_set-back d p s, refl), h)
put_back (x ∷ front) back P d p s (S, t, h) =
    (p ∷ S, takes_later t, put_back front back S d p s h)
  where
    takes_later : TakesOut P x S → TakesOut (p ∷ P) x (p ∷ S)
    takes_later (f, y, b, e, u, g) = (p ∷ f, y, b, ap (λ l. p ∷ l) e, u, ap (λ l. p ∷ l) g)

pub same_clauses-back : (P Q : List Clause) → SameClauses P Q → SameClauses Q P
same_clauses-back [] Q s = subst (λ l. SameClauses l []) (sym s) refl
same_clauses-back (p ∷ P) Q (R, (front, d, back, e, u, f), s) =
    subst (λ l. SameClauses l (p ∷ P)) (sym e) (put_back front back P d p u (subst (λ l. SameClauses l P) f (same_clauses-back P R s)))

-- the same clauses are satisfied alike
pub same_satisfied : (a : Assignment) (P Q : List Clause) → SameClauses P Q → SatisfiesAll a P → SatisfiesAll a Q
same_satisfied a P Q s m c h = let (d, i, t) = same_clauses_find Q P (same_clauses-back P Q s) c h in let (l, j, y) = m d i in (l, t.0 l j, y)

pub same_clauses-through : (P Q R : List Clause) → SameClauses P Q → SameClauses Q R → SameClauses P R
same_clauses-through [] Q R s t = let u : SameClauses [] R = subst (λ l. SameClauses l R) s t in u
same_clauses-through (p ∷ P) Q R (Q', h, s) t =
    let (R', k, u) = same_delete Q R p Q' t h in
    (R', k, same_clauses-through P Q' R' s u)

first : (q : Clause) (Q : List Clause) (c : Clause) (R S : List Clause) → SameSet q c → R ≡ Q → (S' : List Clause) → S ≡ q ∷ S' → Takes Q c S' → SameClauses S R
first q Q c R S s e S' f k =
    subst (λ l. SameClauses S l) (sym e)
    (subst (λ l. SameClauses l Q) (sym f) (S', takes_out_same Q c q S' (same_set-back q c s) (takes_out Q c S' k), same_clauses-self S'))

unique : (Q : List Clause) (c : Clause) (R S : List Clause) → Takes Q c R → Takes Q c S → SameClauses R S
unique [] c R S h k = absurd h
unique (q ∷ Q) c R S (inl (s, e)) (inl (t, f)) = subst (λ l. SameClauses R l) (e ∙ sym f) (same_clauses-self R)
unique (q ∷ Q) c R S (inl (s, e)) (inr (S', f, k)) = same_clauses-back S R (first q Q c R S s e S' f k)
unique (q ∷ Q) c R S (inr (R', e, h)) (inl (t, f)) = first q Q c S R t f R' e h
unique (q ∷ Q) c R S (inr (R', e, h)) (inr (S', f, k)) =
    subst (λ l. SameClauses l S) (sym e) (subst (λ l. SameClauses (q ∷ R') l) (sym f) (S', ([], q, S', refl, same_set-self q, refl), unique Q c R' S' h k))

-- whichever clause is taken out, what is left is the same
pub takes_out_unique : (P Q : List Clause) (c : Clause) (R S : List Clause) → SameClauses P Q → TakesOut P c R → TakesOut Q c S → SameClauses R S
takes_out_unique P Q c R S s t u =
    let (Q', v, w) = same_delete P Q c R s t in
    same_clauses-through R Q' S w (unique Q c Q' S (takes_steps Q c Q' v) (takes_steps Q c S u))
