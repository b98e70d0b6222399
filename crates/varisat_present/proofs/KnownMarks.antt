-- Known literals and their marks.
use Rattle.std.proofs.Common.{◌≡◌, ℕ, zero, suc, ◌+◌, ◌-◌, ◌<◌, ◌≤◌, Bool, true, false, IsTrue, ◌↔◌, List, [], ◌∷◌, ◌++◌, ◌⊎◌, inl, inr, length, take, take_all, drop, get_or, set, refl, sym, ◌∙◌, subst, ⊎_elim, arith}
use Rattle.std.proofs.lemmas.List.{get_or-set_same, get_or-set_other, get_or_past, get_or_read, length-set, take_more, take-append-drop, length-drop}
use Rattle.varisat_theory.specs.promises.Membership.{◌∈◌, IsDistinct}
use Rattle.varisat_theory.proofs.clauses.Members.{∈-append_left, ∈-append_right, ∈-append_cases, ∈-or_not, distinct_append, equal_or_not}
use Rattle.varisat_present.specs.Places.{MarksKnown, LosesMarks, place_limit}

-- 1. One more literal.
before : (xs : List ℕ) (l m : ℕ) → (m ≡ l → ⊥) → m ∈ (xs ++ (l ∷ [])) → m ∈ xs
before xs l m o i = ⊎_elim (λ k. k) (λ k. ⊎_elim (λ e. absurd (o e)) (λ z. absurd z) k) (∈-append_cases m xs (l ∷ []) i)

distinct_more : (xs : List ℕ) (l : ℕ) → IsDistinct xs → (l ∈ xs → ⊥) → IsDistinct (xs ++ (l ∷ []))
distinct_more xs l d n =
    distinct_append xs (l ∷ []) d ((λ z. z), tt) (λ x i j. ⊎_elim (λ e. n (subst (λ y. y ∈ xs) e i)) (λ z. z) j)

set_here : (ms : List Bool) (l m : ℕ) (b : Bool) → l < length ms → m ≡ l → get_or (set ms l b) m false ≡ b
set_here ms l m b h q = subst (λ y. get_or (set ms l b) y false ≡ b) (sym q) (get_or-set_same ms l b false h)

pub marked_none : MarksKnown [] []
marked_none = record { short = omega arith; distinct = tt; marked = λ l m s. absurd m; known = λ l e. absurd (let f = e in cc) }

pub marked_same : (xs : List ℕ) (ms ns : List Bool) → length ns ≤ place_limit → ((l : ℕ) → get_or ns l false ≡ get_or ms l false) → MarksKnown xs ms →
    MarksKnown xs ns
marked_same xs ms ns t e w = record {
  short = t;
  distinct = w.distinct;
  marked = λ l m s. e l ∙ w.marked l m s;
  known = λ l q. w.known l (sym (e l) ∙ q);
}

marked_pushed : (xs : List ℕ) (ms : List Bool) (l : ℕ) → MarksKnown xs ms → (l ∈ xs → ⊥) → l < length ms → MarksKnown (xs ++ (l ∷ [])) (set ms l true)
marked_pushed xs ms l w n h = record {
  short = let s = length-set ms l true in let t = w.short in omega (arith, s, t);
  distinct = distinct_more xs l w.distinct n;
  marked = λ m i s.
      ⊎_elim
      (λ q. set_here ms l m true h q)
      (λ o. get_or-set_other ms l m true false o ∙ w.marked m (before xs l m o i) s)
      (equal_or_not m l);
  known = λ m e.
      ⊎_elim
      (λ q. ∈-append_right m xs (l ∷ []) (inl q))
      (λ o. ∈-append_left m xs (l ∷ []) (w.known m (sym (get_or-set_other ms l m true false o) ∙ e)))
      (equal_or_not m l);
}

pub marked_at : (xs new : List ℕ) (ms : List Bool) (l code : ℕ) → MarksKnown xs ms → (l ∈ xs → ⊥) → code < length ms → code ≡ l → new ≡ xs ++ (l ∷ []) →
    MarksKnown new (set ms code true)
marked_at xs new ms l code w n h p e =
    subst (λ (x : List ℕ). MarksKnown x (set ms code true)) (sym e)
    (subst (λ (v : ℕ). MarksKnown (xs ++ (l ∷ [])) (set ms v true)) (sym p) (marked_pushed xs ms l w n (subst (λ v. v < length ms) p h)))

-- a literal from the limit on has no mark
pub marked_far : (xs new : List ℕ) (ms : List Bool) (l code : ℕ) → MarksKnown xs ms → (l ∈ xs → ⊥) → code ≡ l → place_limit ≤ code → new ≡ xs ++ (l ∷ []) →
    MarksKnown new ms
marked_far xs new ms l code w n p h e = subst (λ (x : List ℕ). MarksKnown x ms) (sym e) record {
  short = w.short;
  distinct = distinct_more xs l w.distinct n;
  marked = λ m i s. w.marked m (before xs l m (λ q. omega (arith, s, h, p, q)) i) s;
  known = λ m q. ∈-append_left m xs (l ∷ []) (w.known m q);
}

-- 2. What a mark says.
pub marked_or_not : (xs : List ℕ) (ms : List Bool) (l code : ℕ) (b : Bool) → MarksKnown xs ms → code ≡ l → code < length ms → b ≡ get_or ms code b →
    IsTrue b ↔ (l ∈ xs)
marked_or_not xs ms l code b w p h e =
    let q : b ≡ get_or ms code false = get_or_read ms code b h e false in
    let s = w.short in (
      (λ t. subst (λ x. x ∈ xs) p (w.known code (sym q ∙ t))),
      (λ m. q ∙ w.marked code (subst (λ x. x ∈ xs) (sym p) m) (omega (arith, h, s))),
    )

pub not_past : (xs : List ℕ) (ms : List Bool) (l : ℕ) → MarksKnown xs ms → length ms ≤ l → l < place_limit → l ∈ xs → ⊥
not_past xs ms l w h s m = let e : true ≡ false = sym (w.marked l m s) ∙ get_or_past ms l false h in absurd cc

-- 3. Marks that are taken away.
pub unmarked_none : (ms : List Bool) → LosesMarks [] ms ms
unmarked_none ms = record { size = refl; none = λ l i. absurd i; rest = λ l n. refl }

unmarked_one : (gone : List ℕ) (f g : List Bool) (x : ℕ) → x < length g → LosesMarks gone f g → LosesMarks (gone ++ (x ∷ [])) f (set g x false)
unmarked_one gone f g x h a = record {
  size = length-set g x false ∙ a.size;
  none = λ l i.
      ⊎_elim
      (λ q. set_here g x l false h q)
      (λ o. get_or-set_other g x l false false o ∙ a.none l (before gone x l o i))
      (equal_or_not l x);
  rest = λ l n.
      get_or-set_other g x l false false (λ q. n (∈-append_right l gone (x ∷ []) (inl q))) ∙ a.rest l (λ i. n (∈-append_left l gone (x ∷ []) i));
}

-- it had no mark
unmarked_past : (gone : List ℕ) (f g : List Bool) (x : ℕ) → length g ≤ x → LosesMarks gone f g → LosesMarks (gone ++ (x ∷ [])) f g
unmarked_past gone f g x h a = record {
  size = a.size;
  none = λ l i.
      ⊎_elim
      (λ q. subst (λ y. get_or g y false ≡ false) (sym q) (get_or_past g x false h))
      (λ o. a.none l (before gone x l o i))
      (equal_or_not l x);
  rest = λ l n. a.rest l (λ i. n (∈-append_left l gone (x ∷ []) i));
}

next : (ls : List ℕ) (k x : ℕ) (f g : List Bool) → k < length ls → x ≡ get_or ls k 0 → LosesMarks (take k ls ++ (x ∷ [])) f g → LosesMarks (take (k + 1) ls) f g
next ls k x f g h e a =
    subst (λ (y : List ℕ). LosesMarks y f g) (sym (take_more ls k 0 h))
    (subst (λ (v : ℕ). LosesMarks (take k ls ++ (v ∷ [])) f g) e a)

pub unmarked_more : (ls : List ℕ) (k x : ℕ) (f g : List Bool) → k < length ls → x ≡ get_or ls k 0 → x < length g → LosesMarks (take k ls) f g →
    LosesMarks (take (k + 1) ls) f (set g x false)
unmarked_more ls k x f g h e l a = next ls k x f (set g x false) h e (unmarked_one (take k ls) f g x l a)

pub unmarked_on : (ls : List ℕ) (k x : ℕ) (f g : List Bool) → k < length ls → x ≡ get_or ls k 0 → length g ≤ x → LosesMarks (take k ls) f g →
    LosesMarks (take (k + 1) ls) f g
unmarked_on ls k x f g h e l a = next ls k x f g h e (unmarked_past (take k ls) f g x l a)

pub unmarked_all : (ls : List ℕ) (k : ℕ) (f g : List Bool) → length ls ≤ k → LosesMarks (take k ls) f g → LosesMarks ls f g
unmarked_all ls k f g h a = subst (λ (y : List ℕ). LosesMarks y f g) (take_all k ls h) a

-- 4. The first literals stay.
taken : (n : ℕ) (xs : List ℕ) (l : ℕ) → l ∈ take n xs → l ∈ xs
taken n xs l m = subst (λ (ys : List ℕ). l ∈ ys) (take-append-drop n xs) (∈-append_left l (take n xs) (drop n xs) m)

dropped : (n : ℕ) (xs : List ℕ) (l : ℕ) → l ∈ drop n xs → l ∈ xs
dropped n xs l m = subst (λ (ys : List ℕ). l ∈ ys) (take-append-drop n xs) (∈-append_right l (take n xs) (drop n xs) m)

parts : (n : ℕ) (xs : List ℕ) (l : ℕ) → l ∈ xs → (l ∈ take n xs) ⊎ (l ∈ drop n xs)
parts n xs l m = ∈-append_cases l (take n xs) (drop n xs) (subst (λ (ys : List ℕ). l ∈ ys) (sym (take-append-drop n xs)) m)

apart : (n : ℕ) (xs : List ℕ) → IsDistinct xs → (l : ℕ) → l ∈ take n xs → l ∈ drop n xs → ⊥
apart zero [] d l m i = m
apart (suc n) [] d l m i = m
apart zero (x ∷ xs) d l m i = m
apart (suc n) (x ∷ xs) d l (inl e) i = d.0 (subst (λ y. y ∈ xs) e (dropped n xs l i))
apart (suc n) (x ∷ xs) d l (inr m) i = apart n xs d.1 l m i

distinct_taken : (n : ℕ) (xs : List ℕ) → IsDistinct xs → IsDistinct (take n xs)
distinct_taken zero [] d = tt
distinct_taken (suc n) [] d = tt
distinct_taken zero (x ∷ xs) d = tt
distinct_taken (suc n) (x ∷ xs) d = ((λ m. d.0 (taken n xs x m)), distinct_taken n xs d.1)

cut_back : (xs : List ℕ) (ms ns : List Bool) (n : ℕ) → LosesMarks (drop n xs) ms ns → MarksKnown xs ms → MarksKnown (take n xs) ns
cut_back xs ms ns n u w = record {
  short = let e = u.size in let s = w.short in omega (arith, e, s);
  distinct = distinct_taken n xs w.distinct;
  marked = λ l m s. u.rest l (apart n xs w.distinct l m) ∙ w.marked l (taken n xs l m) s;
  known = λ l e.
      ⊎_elim
      (λ d. let a : true ≡ false = sym e ∙ u.none l d in absurd cc)
      (λ o. ⊎_elim (λ m. m) (λ d. absurd (o d)) (parts n xs l (w.known l (sym (u.rest l o) ∙ e))))
      (∈-or_not l (drop n xs));
}

-- the rest, as it is read
pub marked_cut : (xs : List ℕ) (ms ns : List Bool) (n : ℕ) → LosesMarks (take (length xs - n) (drop n xs)) ms ns → MarksKnown xs ms →
    MarksKnown (take n xs) ns
marked_cut xs ms ns n u w = cut_back xs ms ns n (subst (λ (ys : List ℕ). LosesMarks ys ms ns) whole u) w
  where
    whole : take (length xs - n) (drop n xs) ≡ drop n xs
    whole = let e = length-drop n xs in take_all (length xs - n) (drop n xs) (omega (arith, e))
