-- Bytes that are known to be appended or taken.
use Rattle.std.proofs.Common.{◌≡◌, ℕ, zero, suc, ◌+◌, ◌-◌, ◌≤◌, List, [], ◌∷◌, ◌++◌, Option, Some, None, take, drop, length, refl, sym, ap, ◌∙◌, append_assoc, arith, subst}
use Rattle.std.proofs.lemmas.List.{length-drop}
use Rattle.std.specs.Io.KnownBytes.{Appends, Keeps}

pub appends_more : (a b c : Option (List ℕ)) (bs cs ds : List ℕ) → Appends a b bs → Appends b c cs → bs ++ cs ≡ ds → Appends a c ds
appends_more None b c bs cs ds f g e = tt
appends_more (Some xs) None c bs cs ds f g e = absurd f
appends_more (Some xs) (Some ys) None bs cs ds f g e = absurd g
appends_more (Some xs) (Some ys) (Some zs) bs cs ds f g e = g ∙ ap (λ x. x ++ cs) f ∙ append_assoc xs bs cs ∙ ap (λ x. xs ++ x) e

pub take_add : (i n : ℕ) (xs : List ℕ) → take i xs ++ take n (drop i xs) ≡ take (i + n) xs
take_add zero n xs = ap (λ k. take k xs) (zero_plus n)
  where
    zero_plus : (n : ℕ) → n ≡ 0 + n
    zero_plus n = omega arith
take_add (suc i) n [] = nothing_taken n ∙ sym (nothing_taken (suc i + n))
  where
    nothing_taken : (n : ℕ) → take {A = ℕ} n [] ≡ []
    nothing_taken zero = refl
    nothing_taken (suc n) = refl
take_add (suc i) n (x ∷ xs) = ap (λ ys. x ∷ ys) (take_add i n xs) ∙ ap (λ k. take k (x ∷ xs)) (suc_plus i n)
  where
    suc_plus : (i n : ℕ) → suc (i + n) ≡ suc i + n
    suc_plus i n = omega arith

rest_taken : (i : ℕ) (xs : List ℕ) → take (length xs - i) (drop i xs) ≡ drop i xs
rest_taken i xs = take_whole (length xs - i) (drop i xs) (sym (length-drop i xs))
  where
    take_whole : (n : ℕ) (ys : List ℕ) → n ≡ length ys → take n ys ≡ ys
    take_whole n [] e = ap (λ k. take k []) e
    take_whole n (y ∷ ys) e = ap (λ k. take k (y ∷ ys)) e ∙ ap (λ zs. y ∷ zs) (take_whole (length ys) ys refl)

pub rest_bound : (i n m : ℕ) (xs : List ℕ) → m ≡ i + n → i ≤ length xs → n ≤ length (take (length xs - i) (drop i xs)) → m ≤ length xs
rest_bound i n m xs e h k = let f = ap length (rest_taken i xs) in let g = length-drop i xs in omega arith

-- one write more
pub wrote_more : (a b c : Option (List ℕ)) (bytes : List ℕ) (i n m : ℕ) → m ≡ i + n → Appends a b (take i bytes) →
    Appends b c (take n (take (length bytes - i) (drop i bytes))) → Appends a c (take m bytes)
wrote_more a b c bytes i n m e f g = appends_more a b c (take i bytes) (take n (drop i bytes)) (take m bytes) f
    (subst (λ xs. Appends b c (take n xs)) (rest_taken i bytes) g) (take_add i n bytes ∙ ap (λ k. take k bytes) (sym e))

-- a write that failed
pub wrote_none : (a b c : Option (List ℕ)) (bytes : List ℕ) (i m : ℕ) → m ≡ i → Appends a b (take i bytes) → Keeps b c → Appends a c (take m bytes)
wrote_none None b c bytes i m e f g = tt
wrote_none (Some xs) None c bytes i m e f g = absurd f
wrote_none (Some xs) (Some ys) None bytes i m e f g = absurd g
wrote_none (Some xs) (Some ys) (Some zs) bytes i m e f g = g ∙ f ∙ ap (λ k. xs ++ take k bytes) (sym e)
