-- How many clauses of two literals there are: counting list by list.
use Rattle.std.proofs.Common.{◌≡◌, ℕ, ◌+◌, ◌<◌, ◌≤◌, ◌∷◌, [], List, length, get_or, drop, suc, min, sym, ap, ◌∙◌, arith}
use Rattle.std.proofs.Math.Seq.{drop-cons}
use Rattle.std.proofs.Math.ListN.{drop_of_length-le}
use Rattle.varisat_theory.specs.promises.Literals.{Literal}
use Rattle.varisat_prop.specs.Pairs.{entry_count}

-- what a list adds, where no more than a limit is counted
more-counted : (limit n m k left : ℕ) → k ≡ min (n + m) limit → min (k + left) limit ≡ min (n + (m + left)) limit
more-counted limit n m k left e = rw (e) (omega arith)

pub counted-more : (limit : ℕ) (B : List (List Literal)) (n i k : ℕ) (xs : List Literal) → i < length B → xs ≡ get_or B i [] →
    k ≡ min (n + length xs) limit → min (n + entry_count (drop i B)) limit ≡ min (entry_count B) limit →
    min (k + entry_count (drop (i + 1) B)) limit ≡ min (entry_count B) limit
counted-more limit B n i k xs h same e inv =
    let d : drop i B ≡ get_or B i [] ∷ drop (i + 1) B = drop-cons B i [] h ∙ ap (λ j. get_or B i [] ∷ drop j B) {x = suc i} {y = i + 1} (omega arith) in
    more-counted limit n (length (get_or B i [])) k (entry_count (drop (i + 1) B)) (e ∙ ap (λ (ys : List Literal). min (n + length ys) limit) same)
    ∙ sym (ap (λ (xs : List (List Literal)). min (n + entry_count xs) limit) d) ∙ inv

no-more : (limit n : ℕ) → n ≤ limit → n ≡ min (n + 0) limit
no-more limit n h = omega arith

pub counted-all : (limit : ℕ) (B : List (List Literal)) (n i : ℕ) → length B ≤ i →
    min (n + entry_count (drop i B)) limit ≡ min (entry_count B) limit → n ≤ limit → n ≡ min (entry_count B) limit
counted-all limit B n i h inv small =
    no-more limit n small ∙ sym (ap (λ (xs : List (List Literal)). min (n + entry_count xs) limit) (drop_of_length-le B h)) ∙ inv
