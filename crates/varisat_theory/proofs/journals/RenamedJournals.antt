-- Journals under other names.
use Rattle.std.proofs.Common.{◌≡◌, ℕ, ◌*◌, ◌/◌, Bool, true, false, List, [], ◌∷◌, ◌++◌, ◌⊎◌, inl, inr, ⊎_elim, sym, ap, ◌∙◌, subst, refl, map, arith}
use Rattle.std.proofs.lemmas.List.{map-append}
use Rattle.varisat_theory.specs.promises.Membership.{◌∈◌, ◌⊆◌, SameSet}
use Rattle.varisat_theory.specs.promises.Literals.{Literal, Clause, opposite, opposites}
use Rattle.varisat_theory.specs.promises.Propagation.{Conflicts}
use Rattle.varisat_theory.specs.promises.Derivations.{Add, Delete}
use Rattle.varisat_theory.specs.promises.Held.{mentions, unless, without}
use Rattle.varisat_theory.specs.promises.Renaming.{KeepsOpposites, IsOneToOneOn, IsWithin, rename}
use Rattle.varisat_theory.specs.promises.Journals.{Entry, Accepts, Writes, Assumes, Fails, Retires, Follow, Leads, rename_entry, IsEntryWithin, AreWithin}
use Rattle.varisat_theory.proofs.clauses.Values.{opposite_twice, parity, opposites-∈, variable-opposite, same_or_opposite}
use Rattle.varisat_theory.proofs.clauses.Members.{∈-append_right, ∈-append_cases}
use Rattle.varisat_theory.proofs.clauses.Sound.{takes_less}
use Rattle.varisat_theory.proofs.journals.HeldRetirements.{mentioned_literal, literal_mentioned, without_less}
use Rattle.varisat_theory.proofs.journals.Renaming.{∈-map, map-∈, map_opposites, conflicts_renamed, conflicts_unrenamed, follows_renamed, takes_out_renamed}

-- a literal is the variable itself or its opposite
of_variable : (l v : ℕ) → l / 2 ≡ v → (l ≡ 2 * v) ⊎ (l ≡ opposite (2 * v))
unfolding opposite
of_variable l v e = ⊎_elim (λ h. inl (omega (arith, e))) (λ h. inr (omega (arith, e))) (parity l)

over_variable : (v : ℕ) → ((2 * v) / 2 ≡ v) × (opposite (2 * v) / 2 ≡ v)
unfolding opposite
over_variable v = (omega arith, omega arith)

joins : (ls : List Literal) (P : List Clause) (c d : Clause) → ((x : Clause) → x ∈ P → IsWithin ls x) → IsWithin ls c → d ∈ (P ++ c ∷ []) → IsWithin ls d
joins ls P c d h k i = ⊎_elim (h d) (λ j. ⊎_elim (λ e. subst (IsWithin ls) (sym e) k) (λ z. absurd z) j) (∈-append_cases d P (c ∷ []) i)

-- where renamed clauses are cut, the clauses are
split_back : (f : Literal → Literal) (P front : List Clause) (d : Clause) (back : List Clause) → rename f P ≡ front ++ (d ∷ back) →
    (A : List Clause) × (x : Clause) × (B : List Clause) × (P ≡ A ++ (x ∷ B)) × (rename f A ≡ front) × (map f x ≡ d) × (rename f B ≡ back)
split_back f [] [] d back e = absurd cc
split_back f [] (y ∷ front) d back e = absurd cc
split_back f (p ∷ P) [] d back e =
    let h : map f p ≡ d = cc in
    let t : rename f P ≡ back = cc in
    ([], p, P, refl, refl, h, t)
split_back f (p ∷ P) (y ∷ front) d back e =
    let h : map f p ≡ y = cc in
    let t : rename f P ≡ front ++ (d ∷ back) = cc in
    let (A, x, B, a, b, c, z) = split_back f P front d back t in
    (p ∷ A, x, B, ap (λ l. p ∷ l) a, ap (λ l. l ∷ rename f A) h ∙ ap (λ l. y ∷ l) b, c, z)

module _ (f : Literal → Literal) (w : KeepsOpposites f) (ls : List Literal) (one : IsOneToOneOn f ls) where
  -- a clause mentions the variable just where the renamed one mentions what it is named
  renamed_literal : (v : ℕ) (l : Literal) → l / 2 ≡ v → f l / 2 ≡ f (2 * v) / 2
  renamed_literal v l e =
      ⊎_elim
      (λ q. ap (λ x. f x / 2) q)
      (λ q. ap (λ x. f x / 2) q ∙ ap (λ x. x / 2) (w (2 * v)) ∙ variable-opposite (f (2 * v)))
      (of_variable l v e)

  literal_back : (v : ℕ) (l : Literal) → IsWithin ls (2 * v ∷ []) → l ∈ ls → f l / 2 ≡ f (2 * v) / 2 → l / 2 ≡ v
  literal_back v l k h e =
      let t = k (2 * v) (inl refl) in
      ⊎_elim
      (λ q. ap (λ x. x / 2) (one l (2 * v) h t.0 q) ∙ (over_variable v).0)
      (λ q. ap (λ x. x / 2) (one l (opposite (2 * v)) h t.1 (q ∙ sym (w (2 * v)))) ∙ (over_variable v).1)
      (same_or_opposite (f l) (f (2 * v)) e)

  mentions_renamed : (v : ℕ) (c : Clause) → IsWithin ls (2 * v ∷ []) → IsWithin ls c → mentions (f (2 * v) / 2) (map f c) ≡ mentions v c
  mentions_renamed v c k h = go (mentions v c) (mentions (f (2 * v) / 2) (map f c)) refl refl
    where
      go : (a b : Bool) → mentions v c ≡ a → mentions (f (2 * v) / 2) (map f c) ≡ b → mentions (f (2 * v) / 2) (map f c) ≡ mentions v c
      go true b e g = let (l, i, q) = mentioned_literal v c e in literal_mentioned (f (2 * v) / 2) (map f c) (f l) (∈-map f l c i)
          (renamed_literal v l q) ∙ sym e
      go false true e g =
          let (m, i, q) = mentioned_literal (f (2 * v) / 2) (map f c) g in
          let (l, j, o) = map-∈ f m c i in
          let z : true ≡ false = sym (literal_mentioned v c l j (literal_back v l k (h l j).0 (ap (λ x. x / 2) (sym o) ∙ q))) ∙ e in
          absurd cc
      go false false e g = g ∙ sym e

  without_renamed : (v : ℕ) (P : List Clause) → IsWithin ls (2 * v ∷ []) → ((c : Clause) → c ∈ P → IsWithin ls c) →
      without (f (2 * v) / 2) (rename f P) ≡ rename f (without v P)
  without_renamed v [] k h = refl
  without_renamed v (c ∷ P) k h =
      ap (λ b. unless b (map f c) (without (f (2 * v) / 2) (rename f P))) (mentions_renamed v c k (h c (inl refl)))
      ∙ ap (λ x. unless (mentions v c) (map f c) x) (without_renamed v P k (λ d i. h d (inr i)))
      ∙ out (mentions v c)
    where
      out : (b : Bool) → unless b (map f c) (rename f (without v P)) ≡ rename f (unless b c (without v P))
      out true = refl
      out false = refl

  -- one entry
  follow_renamed : (P : List Clause) (e : Entry) (Q : List Clause) → ((c : Clause) → c ∈ P → IsWithin ls c) → IsEntryWithin ls e → Follow P e Q →
      Follow (rename f P) (rename_entry f e) (rename f Q)
  follow_renamed P (Accepts c) Q h k q = ap (rename f) q ∙ map-append (map f) P (c ∷ [])
  follow_renamed P (Writes (Add c)) Q h k (d, q) = (follows_renamed f w P c d, ap (rename f) q ∙ map-append (map f) P (c ∷ []))
  follow_renamed P (Writes (Delete c)) Q h k t = takes_out_renamed f P c Q t
  follow_renamed P (Assumes a) Q h k q = ap (rename f) q
  follow_renamed P (Fails core) Q h k (d, q) = (conflicts_renamed f w P core d, ap (rename f) q)
  follow_renamed P (Retires v) Q h k q = ap (rename f) q ∙ sym (without_renamed v P k h)

  -- what is held after it is within the list too
  held_within : (P : List Clause) (e : Entry) (Q : List Clause) → ((c : Clause) → c ∈ P → IsWithin ls c) → IsEntryWithin ls e → Follow P e Q →
      (c : Clause) → c ∈ Q → IsWithin ls c
  held_within P (Accepts c) Q h k q d i = joins ls P c d h k (subst (λ x. d ∈ x) q i)
  held_within P (Writes (Add c)) Q h k (_, q) d i = joins ls P c d h k (subst (λ x. d ∈ x) q i)
  held_within P (Writes (Delete c)) Q h k t d i = h d (takes_less P c Q t d i)
  held_within P (Assumes a) Q h k q d i = h d (subst (λ x. d ∈ x) q i)
  held_within P (Fails core) Q h k (_, q) d i = h d (subst (λ x. d ∈ x) q i)
  held_within P (Retires v) Q h k q d i = h d (without_less v P d (subst (λ x. d ∈ x) q i))

  pub leads_renamed : (P : List Clause) (es : List Entry) (Q : List Clause) → ((c : Clause) → c ∈ P → IsWithin ls c) → AreWithin ls es →
      Leads P es Q → Leads (rename f P) (map (rename_entry f) es) (rename f Q)
  leads_renamed P [] Q h k d = ap (rename f) d
  leads_renamed P (e ∷ es) Q h (k, ks) (R, g, d) = (rename f R, follow_renamed P e R h k g, leads_renamed R es Q (held_within P e R h k g) ks d)

  -- and back

  within_opposites : (c : Clause) → IsWithin ls c → IsWithin ls (opposites c)
  within_opposites c h m i =
      let t = h (opposite m) (opposites-∈ m c i) in
      (subst (λ x. x ∈ ls) (opposite_twice m) t.1, t.0)

  part_back : (c d : Clause) → IsWithin ls c → IsWithin ls d → map f c ⊆ map f d → c ⊆ d
  part_back c d h k s l i =
      let (m, j, e) = map-∈ f (f l) d (s (f l) (∈-map f l c i)) in
      subst (λ x. x ∈ d) (sym (one l m (h l i).0 (k m j).0 e)) j

  follow_back : (P : List Clause) (e : Entry) (Q : List Clause) → ((c : Clause) → c ∈ P → IsWithin ls c) → IsEntryWithin ls e →
      Follow (rename f P) (rename_entry f e) Q → (R : List Clause) × Follow P e R × (Q ≡ rename f R)
  follow_back P (Accepts c) Q h k q = (P ++ c ∷ [], refl, q ∙ sym (map-append (map f) P (c ∷ [])))
  follow_back P (Writes (Add c)) Q h k (d, q) =
      let base = subst (λ b. Conflicts (rename f P) b) (sym (map_opposites f w c)) d in
      (P ++ c ∷ [], (conflicts_unrenamed f w ls one P (opposites c) h (within_opposites c k) base, refl), q ∙ sym (map-append (map f) P (c ∷ [])))
  follow_back P (Writes (Delete c)) Q h k (front, d, back, e, s, q) =
      let (A, x, B, a, b, y, z) = split_back f P front d back e in
      let in_P : x ∈ P = subst (λ L. x ∈ L) (sym a) (∈-append_right x A (x ∷ B) (inl refl)) in
      let set : SameSet (map f x) (map f c) = subst (λ u. SameSet u (map f c)) (sym y) s in (
        A ++ B,
        (A, x, B, a, (part_back x c (h x in_P) k set.0, part_back c x k (h x in_P) set.1), refl),
        q ∙ ap (λ u. u ++ back) (sym b)
            ∙ ap (λ u. rename f A ++ u) (sym z) ∙ sym (map-append (map f) A B),
      )
  follow_back P (Assumes a) Q h k q = (P, refl, q)
  follow_back P (Fails core) Q h k (d, q) = (P, (conflicts_unrenamed f w ls one P core h k d, refl), q)
  follow_back P (Retires v) Q h k q = (without v P, refl, q ∙ without_renamed v P k h)

  pub leads_unrenamed : (P : List Clause) (es : List Entry) (Q : List Clause) → ((c : Clause) → c ∈ P → IsWithin ls c) → AreWithin ls es →
      Leads (rename f P) (map (rename_entry f) es) Q → (R : List Clause) × Leads P es R × (Q ≡ rename f R)
  leads_unrenamed P [] Q h k d = (P, refl, sym d)
  leads_unrenamed P (e ∷ es) Q h (k, ks) (R, g, d) =
      let (S, a, b) = follow_back P e R h k g in
      let (T, x, y) = leads_unrenamed S es Q (held_within P e S h k a) ks (subst (λ L. Leads L (map (rename_entry f) es) Q) b d) in
      (T, (S, a, x), y)
