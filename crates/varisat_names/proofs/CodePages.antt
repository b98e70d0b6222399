-- Codes by number, in pages.
use Rattle.std.proofs.Common.{◌≡◌, ℕ, ◌/◌, ◌%◌, ◌<◌, ◌≤◌, List, [], ◌∷◌, ◌++◌, length, map, get_or, set, sym, ap, ◌∙◌, refl, arith, ⊎_elim}
use Rattle.std.specs.declared.vec.Vec.{Vec}
use Rattle.std.proofs.lemmas.List.{length-map, map-set, get_or-map, get_or-set_same, get_or-set_other, get_or_past}
use Rattle.std.proofs.lemmas.Nat.{div-add-mod'}
use Rattle.varisat_theory.proofs.clauses.Members.{equal_or_not}
use Rattle.varisat_theory.proofs.clauses.Padded.{padded}
use Rattle.varisat_names.specs.promises.Maps.{updated}
use Rattle.varisat_names.specs.inside.CodePages.{code_in, code_at}
use Rattle.varisat_names.proofs.Maps.{updated-all, updated-at, updated-other}

-- pages in vectors, seen as lists
pub written : {X Z : Type 0} (vs : List (Vec X Z)) (now : List (List X)) (i : ℕ) (v : Vec X Z) → map (λ (x : Vec X Z). x.items) vs ≡ now →
    map (λ (x : Vec X Z). x.items) (set vs i v) ≡ set now i v.items
written {X} {Z} vs now i v e = map-set (λ (x : Vec X Z). x.items) vs i v ∙ ap (λ ls. set ls i v.items) e

pub read : {X Z : Type 0} (vs : List (Vec X Z)) (now : List (List X)) (i : ℕ) (v : Vec X Z) → map (λ (x : Vec X Z). x.items) vs ≡ now →
    i < length now → v ≡ get_or vs i v → v.items ≡ get_or now i []
read {X} {Z} vs now i v e h g =
    let l : length now ≡ length vs = ap length (sym e) ∙ length-map vs (λ (x : Vec X Z). x.items) in
    ap (λ (x : Vec X Z). x.items) g ∙ sym (get_or-map (λ (x : Vec X Z). x.items) vs i v [] (omega (arith, l))) ∙ ap (λ ls. get_or ls i []) e

-- a page without memory behind the others
pub pushed : (old new : List (List ℕ)) → new ≡ old ++ [] ∷ [] → (p : ℕ) → get_or new p [] ≡ get_or old p []
pushed old new e p = ap (λ (ls : List (List ℕ)). get_or ls p []) e ∙ padded [] old 1 p

-- the same pages
pub same-pages : (old new : List (List ℕ)) → ((p : ℕ) → get_or new p [] ≡ get_or old p []) → (i : ℕ) → code_at new i ≡ code_at old i
same-pages old new h i = ap (λ page. code_in page (i % 1024)) (h (i / 1024))

-- a page with the same codes
pub same-codes : (pages : List (List ℕ)) (index : ℕ) (page : List ℕ) → index < length pages → ((q : ℕ) → code_in page q ≡ code_in (get_or pages index []) q) →
    (i : ℕ) → code_at (set pages index page) i ≡ code_at pages i
same-codes pages index page h e i =
    ⊎_elim
    (λ q. ap (λ p. code_in (get_or (set pages index page) p []) (i % 1024)) q
    ∙ ap (λ (xs : List ℕ). code_in xs (i % 1024)) (get_or-set_same pages index page [] h)
    ∙ e (i % 1024)
    ∙ ap (λ p. code_in (get_or pages p []) (i % 1024)) (sym q))
    (λ m. ap (λ (xs : List ℕ). code_in xs (i % 1024)) (get_or-set_other pages index (i / 1024) page [] m))
    (equal_or_not (i / 1024) index)

-- a page with another code
pub put-code : (pages : List (List ℕ)) (k index : ℕ) (page : List ℕ) (code : ℕ) → index ≡ k / 1024 → index < length pages →
    ((q : ℕ) → code_in page q ≡ updated (code_in (get_or pages index [])) (k % 1024) code q) →
    (i : ℕ) → code_at (set pages index page) i ≡ updated (code_at pages) k code i
put-code pages k index page code e h c i =
    let same : get_or (set pages index page) index [] ≡ page = get_or-set_same pages index page [] h in
    updated-all (λ i x. code_at (set pages index page) i ≡ x) (code_at pages) k code
    (ap (λ p. code_in (get_or (set pages index page) p []) (k % 1024)) (sym e)
    ∙ ap (λ (xs : List ℕ). code_in xs (k % 1024)) same
    ∙ c (k % 1024)
    ∙ updated-at (code_in (get_or pages index [])) (k % 1024) code)
    i
    (λ n. ⊎_elim
    (λ q. ap (λ p. code_in (get_or (set pages index page) p []) (i % 1024)) q
    ∙ ap (λ (xs : List ℕ). code_in xs (i % 1024)) same
    ∙ c (i % 1024)
    ∙ updated-other (code_in (get_or pages index [])) (k % 1024) code (i % 1024)
    (λ r. n (omega (arith, div-add-mod' i 1024, div-add-mod' k 1024, q, r, e)))
    ∙ ap (λ p. code_in (get_or pages p []) (i % 1024)) (sym q))
    (λ m. ap (λ (xs : List ℕ). code_in xs (i % 1024)) (get_or-set_other pages index (i / 1024) page [] m))
    (equal_or_not (i / 1024) index))

-- a code at a place of a page
pub put-in : (page : List ℕ) (place code : ℕ) → place < length page → (q : ℕ) → code_in (set page place code) q ≡ updated (code_in page) place code q
put-in page place code h q = updated-all (λ q x. code_in (set page place code) q ≡ x) (code_in page) place code
    (get_or-set_same page place code 0x8000_0000 h) q (λ n. get_or-set_other page place q code 0x8000_0000 n)

-- No code past the page is set, so taking one out changes nothing.
pub clear-past : (page : List ℕ) (place : ℕ) → length page ≤ place → (q : ℕ) → code_in page q ≡ updated (code_in page) place 0x8000_0000 q
clear-past page place h q = updated-all (λ q x. code_in page q ≡ x) (code_in page) place 0x8000_0000
    (get_or_past page place 0x8000_0000 h) q (λ n. refl)

-- No page past the pages has codes.
pub clear-none : (pages : List (List ℕ)) (k : ℕ) → length pages ≤ k / 1024 → (i : ℕ) → code_at pages i ≡ updated (code_at pages) k 0x8000_0000 i
clear-none pages k h i = updated-all (λ i c. code_at pages i ≡ c) (code_at pages) k 0x8000_0000
    (ap (λ (xs : List ℕ). code_in xs (k % 1024)) (get_or_past pages (k / 1024) [] h)) i (λ n. refl)
