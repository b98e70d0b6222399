-- Satisfaction, propagation and derivations under other names.
use Rattle.std.proofs.Common.{◌≡◌, ℕ, ◌*◌, ◌/◌, ◌%◌, not, List, [], ◌∷◌, ◌++◌, ◌⊎◌, inl, inr, ⊎_elim, sym, ap, ◌∙◌, subst, refl, map, arith}
use Rattle.std.proofs.lemmas.List.{map-append}
use Rattle.varisat_theory.specs.promises.Membership.{◌∈◌, ◌⊆◌}
use Rattle.varisat_theory.specs.promises.Literals.{Literal, Clause, Assignment, opposite, opposites, value, Satisfies}
use Rattle.varisat_theory.specs.promises.Propagation.{Conflicts, Clash, FalseClause, Propagate, Follows}
use Rattle.varisat_theory.specs.promises.Derivations.{Line, Add, Delete, TakesOut, Refutes, Derives}
use Rattle.varisat_theory.specs.promises.Held.{SameClauses}
use Rattle.varisat_theory.specs.promises.Renaming.{KeepsOpposites, IsOneToOneOn, IsWithin, rename, rename_line, named_back}
use Rattle.varisat_theory.proofs.clauses.Lines.{refutes_at, refutes_from}
use Rattle.varisat_theory.proofs.clauses.Values.{parity, value-opposite}

pub ∈-map : {X Y : Type 0} (f : X → Y) (x : X) (xs : List X) → x ∈ xs → f x ∈ map f xs
∈-map f x [] h = absurd h
∈-map f x (y ∷ ys) (inl e) = inl (ap f e)
∈-map f x (y ∷ ys) (inr h) = inr (∈-map f x ys h)

pub map-∈ : {X Y : Type 0} (f : X → Y) (y : Y) (xs : List X) → y ∈ map f xs → (x : X) × (x ∈ xs) × (y ≡ f x)
map-∈ f y [] h = absurd h
map-∈ f y (x ∷ xs) (inl e) = (x, inl refl, e)
map-∈ f y (x ∷ xs) (inr h) = let r = map-∈ f y xs h in (r.0, inr r.1, r.2)

pub map-⊆ : {X Y : Type 0} (f : X → Y) (xs ys : List X) → xs ⊆ ys → map f xs ⊆ map f ys
map-⊆ f xs ys s y h = let r = map-∈ f y xs h in subst (λ z. z ∈ map f ys) (sym r.2) (∈-map f r.0 ys (s r.0 r.1))

even_or_odd : (l : ℕ) → (l ≡ 2 * (l / 2)) ⊎ (l ≡ opposite (2 * (l / 2)))
unfolding opposite
even_or_odd l = ⊎_elim (λ h. inl (omega arith)) (λ h. inr (omega arith)) (parity l)

half_twice : (v : ℕ) → (2 * v) / 2 ≡ v
half_twice v = omega arith

even_twice : (v : ℕ) → (2 * v) % 2 ≡ 0
even_twice v = omega arith

pub value_twice : (a : Assignment) (v : ℕ) → value a (2 * v) ≡ a v
unfolding value
value_twice a v = rw (even_twice v) (ap a (half_twice v))

-- the value of a renamed literal is that of the old one, read back
pub value_renamed : (f : Literal → Literal) → KeepsOpposites f → (a : Assignment) (l : Literal) → value (named_back f a) l ≡ value a (f l)
value_renamed f k a l =
    ⊎_elim
    (λ e. subst (λ m. value (named_back f a) m ≡ value a (f m)) (sym e) (value_twice (named_back f a) (l / 2)))
    (λ e. subst (λ m. value (named_back f a) m ≡ value a (f m)) (sym e)
    (value-opposite (named_back f a) (2 * (l / 2)) ∙ ap not (value_twice (named_back f a) (l / 2)) ∙ sym (value-opposite a (f (2 * (l / 2))))
    ∙ ap (value a) (sym (k (2 * (l / 2))))))
    (even_or_odd l)

pub satisfies_renamed : (f : Literal → Literal) → KeepsOpposites f → (a : Assignment) (c : Clause) → Satisfies a (map f c) → Satisfies (named_back f a) c
satisfies_renamed f k a c s =
    let r = map-∈ f s.0 c s.1 in
    (r.0, r.1, value_renamed f k a r.0 ∙ ap (value a) (sym r.2) ∙ s.2)

pub renamed_satisfies : (f : Literal → Literal) → KeepsOpposites f → (a : Assignment) (c : Clause) → Satisfies (named_back f a) c → Satisfies a (map f c)
renamed_satisfies f k a c s = (f s.0, ∈-map f s.0 c s.1, sym (value_renamed f k a s.0) ∙ s.2)

opposite_known : (f : Literal → Literal) → KeepsOpposites f → (known : List Literal) (m n : Literal) → n ≡ f m → opposite m ∈ known → opposite n ∈ map f known
opposite_known f k known m n e h = subst (λ z. z ∈ map f known) (k m ∙ ap opposite (sym e)) (∈-map f (opposite m) known h)

pub conflicts_renamed : (f : Literal → Literal) → KeepsOpposites f → (P : List Clause) (known : List Literal) → Conflicts P known →
    Conflicts (rename f P) (map f known)
conflicts_renamed f w P known (Clash l h k) = Clash (f l) (∈-map f l known h) (opposite_known f w known l (f l) refl k)
conflicts_renamed f w P known (FalseClause c h u) =
    FalseClause (map f c) (∈-map (map f) c P h) (λ m i. let r = map-∈ f m c i in opposite_known f w known r.0 m r.2 (u r.0 r.1))
conflicts_renamed f w P known (Propagate c l h i u k) =
    Propagate (map f c) (f l) (∈-map (map f) c P h) (∈-map f l c i)
    (λ m j. let r = map-∈ f m c j in ⊎_elim (λ e. inl (r.2 ∙ ap f e)) (λ o. inr (opposite_known f w known r.0 m r.2 o)) (u r.0 r.1))
    (conflicts_renamed f w P (l ∷ known) k)

pub map_opposites : (f : Literal → Literal) → KeepsOpposites f → (c : Clause) → map f (opposites c) ≡ opposites (map f c)
map_opposites f w [] = refl
map_opposites f w (l ∷ c) = let e = w l in let e' = map_opposites f w c in cc

pub follows_renamed : (f : Literal → Literal) → KeepsOpposites f → (P : List Clause) (c : Clause) → Follows P c → Follows (rename f P) (map f c)
follows_renamed f w P c k = subst (λ b. Conflicts (rename f P) b) (map_opposites f w c) (conflicts_renamed f w P (opposites c) k)

pub takes_out_renamed : (f : Literal → Literal) (P : List Clause) (c : Clause) (Q : List Clause) → TakesOut P c Q → TakesOut (rename f P) (map f c) (rename f Q)
takes_out_renamed f P c Q (front, d, back, e, s, e') = (
  rename f front,
  map f d,
  rename f back,
  ap (rename f) e ∙ map-append (map f) front (d ∷ back),
  (map-⊆ f d c s.0, map-⊆ f c d s.1),
  ap
      (rename f) e' ∙ map-append (map f) front back,
)

pub same_clauses_renamed : (f : Literal → Literal) (P Q : List Clause) → SameClauses P Q → SameClauses (rename f P) (rename f Q)
same_clauses_renamed f [] Q s = ap (rename f) s
same_clauses_renamed f (c ∷ P) Q (R, t, s) = (rename f R, takes_out_renamed f Q c R t, same_clauses_renamed f P R s)

pub derives_renamed : (f : Literal → Literal) → KeepsOpposites f → (P : List Clause) (lines : List Line) (Q : List Clause) → Derives P lines Q →
    Derives (rename f P) (map (rename_line f) lines) (rename f Q)
derives_renamed f w P [] Q d = ap (rename f) d
derives_renamed f w P (Add c ∷ lines) Q d = (
  follows_renamed f w P c d.0,
  subst (λ S. Derives S (map (rename_line f) lines) (rename f Q)) (map-append (map f) P (c ∷ []))
      (derives_renamed f w (P ++ (c ∷ [])) lines Q d.1),
)
derives_renamed f w P (Delete c ∷ lines) Q d =
    (rename f d.0, takes_out_renamed f P c d.0 d.1, derives_renamed f w d.0 lines Q d.2)

-- what is known under new names was known
module _ (f : Literal → Literal) (w : KeepsOpposites f) (ls : List Literal) (one : IsOneToOneOn f ls) where
  known_back : (known : List Literal) → known ⊆ ls → (m : Literal) → m ∈ ls → f m ∈ map f known → m ∈ known
  known_back known s m h i = let r = map-∈ f (f m) known i in subst (λ y. y ∈ known) (sym (one m r.0 h (s r.0 r.1) r.2)) r.1

  opposite_back : (known : List Literal) → known ⊆ ls → (m : Literal) → opposite m ∈ ls → opposite (f m) ∈ map f known → opposite m ∈ known
  opposite_back known s m h i = known_back known s (opposite m) h (subst (λ y. y ∈ map f known) (sym (w m)) i)

  conflicts_back : (P Q : List Clause) → Q ≡ rename f P → ((c : Clause) → c ∈ P → IsWithin ls c) → (known now : List Literal) → known ⊆ ls →
      ((m : Literal) → m ∈ known → opposite m ∈ ls) → now ⊆ map f known → Conflicts Q now → Conflicts P known
  conflicts_back P Q e within known now s o t (Clash l h k) =
      let r = map-∈ f l known (t l h) in
      let k' : opposite (f r.0) ∈ map f known = subst (λ y. opposite y ∈ map f known) r.2 (t (opposite l) k) in
      Clash r.0 r.1 (opposite_back known s r.0 (o r.0 r.1) k')
  conflicts_back P Q e within known now s o t (FalseClause c h u) =
      let r = map-∈ (map f) c P (subst (λ x. c ∈ x) e h) in
      FalseClause r.0 r.1 (λ m i. opposite_back known s m (within r.0 r.1 m i).1
      (t (opposite (f m)) (u (f m) (subst (λ x. f m ∈ x) (sym r.2) (∈-map f m r.0 i)))))
  conflicts_back P Q e within known now s o t (Propagate c l h i u k) =
      let r = map-∈ (map f) c P (subst (λ x. c ∈ x) e h) in
      let m = map-∈ f l r.0 (subst (λ x. l ∈ x) r.2 i) in
      let in_list = within r.0 r.1 m.0 m.1 in
      Propagate r.0 m.0 r.1 m.1
      (λ x j. ⊎_elim (λ q. inl (one x m.0 (within r.0 r.1 x j).0 in_list.0 (q ∙ m.2)))
      (λ q. inr (opposite_back known s x (within r.0 r.1 x j).1 (t (opposite (f x)) q))) (u (f x) (subst (λ y. f x ∈ y) (sym r.2) (∈-map f x r.0 j))))
      (conflicts_back P Q e within (m.0 ∷ known) (l ∷ now) (λ x. elim [ inl q ↦ subst (λ y. y ∈ ls) (sym q) in_list.0 | inr j ↦ s x j ])
      (λ x. elim [ inl q ↦ subst (λ y. opposite y ∈ ls) (sym q) in_list.1 | inr j ↦ o x j ]) (λ x. elim [ inl q ↦ inl (q ∙ m.2) | inr j ↦ inr (t x j) ]) k)

-- under a one-to-one map a conflict of the renamed clauses was there before
pub conflicts_unrenamed : (f : Literal → Literal) → KeepsOpposites f → (ls : List Literal) → IsOneToOneOn f ls →
    (P : List Clause) (base : List Literal) → ((c : Clause) → c ∈ P → IsWithin ls c) → IsWithin ls base → Conflicts (rename f P) (map f base) → Conflicts P base
conflicts_unrenamed f w ls one P base p b k =
    conflicts_back f w ls one P (rename f P) refl p base (map f base) (λ x h. (b x h).0) (λ x h. (b x h).1) (λ x h. h) k

pub refutes_renamed : (f : Literal → Literal) → KeepsOpposites f → (P : List Clause) (lines : List Line) → Refutes P lines →
    Refutes (rename f P) (map (rename_line f) lines)
refutes_renamed f w P lines r =
    let (front, back, Q, e, d, k) = refutes_at P lines r in
    refutes_from (rename f P) (map (rename_line f) lines) (
      map (rename_line f) front,
      map (rename_line f) back,
      rename f Q,
      ap (map (rename_line f)) e
          ∙ map-append (rename_line f) front back,
      derives_renamed f w P front Q d,
      conflicts_renamed f w Q [] k,
    )
