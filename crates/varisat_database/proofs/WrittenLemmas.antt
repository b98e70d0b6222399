-- Lines by number.
use Rattle.std.proofs.Common.{◌≡◌, ℕ, ◌+◌, ◌*◌, ◌/◌, ◌%◌, ◌<◌, ◌^◌, nat_eq, not, Bool, true, false, if◌then◌else◌, List, [], ◌∷◌, ◌++◌, inl, inr, ⊎_elim, sym, ap, ◌∙◌, subst, refl, length, get_or, map, arith}
use Rattle.std.proofs.lemmas.List.{get_or_append_left, get_or-map, map-append, length-append, length-map}
use Rattle.varisat_theory.specs.promises.Membership.{◌∈◌}
use Rattle.varisat_theory.specs.promises.Literals.{Clause}
use Rattle.varisat_theory.specs.promises.Derivations.{Line, Add, Delete}
use Rattle.varisat_theory.proofs.clauses.Members.{∈-append_cases}
use Rattle.varisat_theory.proofs.clauses.Places.{∈-get_or}
use Rattle.varisat_database.specs.Written.{WrittenClauses, line_at, with_clause, clause_of, is_deletion, AreWritten}

-- the lines of places that are there are the same with one more clause
lines_grown : (cs : List Clause) (c : Clause) (steps : List ℕ) → ((x : ℕ) → x ∈ steps → x / 2 < length cs) →
    map (line_at (cs ++ c ∷ [])) steps ≡ map (line_at cs) steps
lines_grown cs c [] h = refl
lines_grown cs c (x ∷ steps) h =
    ap (λ (l : List Line). line_at (cs ++ c ∷ []) x ∷ l) (lines_grown cs c steps (λ y m. h y (inr m)))
    ∙ ap (λ (d : Clause). (if nat_eq (x % 2) 0 then Add d else Delete d) ∷ map (line_at cs) steps) (get_or_append_left cs (c ∷ []) [] (x / 2) (h x (inl refl)))

pub given_lines : (cs ds : List Clause) (c : Clause) (steps : List ℕ) → ds ≡ cs ++ c ∷ [] → AreWritten cs steps → map (line_at ds) steps ≡ map (line_at cs) steps
given_lines cs ds c steps e a = ap (λ (l : List Clause). map (line_at l) steps) e ∙ lines_grown cs c steps a.below

last_at : (cs : List Clause) (c : Clause) → get_or (cs ++ c ∷ []) (length cs) [] ≡ c
last_at [] c = refl
last_at (d ∷ cs) c = last_at cs c

even_line : (cs : List Clause) (k : ℕ) → line_at cs (2 * k) ≡ Add (get_or cs k [])
even_line cs k =
    let p : 2 * k % 2 ≡ 0 = omega arith in
    let q : 2 * k / 2 ≡ k = omega arith in
    ap (λ n. if nat_eq n 0 then Add (get_or cs (2 * k / 2) []) else Delete (get_or cs (2 * k / 2) [])) p ∙ ap (λ n. Add (get_or cs n [])) q

odd_line : (cs : List Clause) (k : ℕ) → line_at cs (2 * k + 1) ≡ Delete (get_or cs k [])
odd_line cs k =
    let p : (2 * k + 1) % 2 ≡ 1 = omega arith in
    let q : (2 * k + 1) / 2 ≡ k = omega arith in
    ap (λ n. if nat_eq n 0 then Add (get_or cs ((2 * k + 1) / 2) []) else Delete (get_or cs ((2 * k + 1) / 2) [])) p ∙ ap (λ n. Delete (get_or cs n [])) q

pub added_lines : (cs ds : List Clause) (c : Clause) (steps more : List ℕ) (x : ℕ) → ds ≡ cs ++ c ∷ [] → more ≡ steps ++ x ∷ [] → x ≡ 2 * length cs → AreWritten cs steps →
    map (line_at ds) more ≡ map (line_at cs) steps ++ Add c ∷ []
added_lines cs ds c steps more x e f g a =
    ap (λ (l : List Clause). map (line_at l) more) e ∙ ap (λ (l : List ℕ). map (line_at (cs ++ c ∷ [])) l) f
    ∙ map-append (line_at (cs ++ c ∷ [])) steps (x ∷ [])
    ∙ ap (λ (l : List Line). l ++ line_at (cs ++ c ∷ []) x ∷ []) (lines_grown cs c steps a.below)
    ∙ ap (λ (l : Line). map (line_at cs) steps ++ l ∷ [])
    (ap (λ n. line_at (cs ++ c ∷ []) n) g ∙ even_line (cs ++ c ∷ []) (length cs) ∙ ap Add (last_at cs c))

pub deleted_lines : (cs : List Clause) (steps more : List ℕ) (k x : ℕ) → more ≡ steps ++ x ∷ [] → x ≡ 2 * k + 1 →
    map (line_at cs) more ≡ map (line_at cs) steps ++ Delete (get_or cs k []) ∷ []
deleted_lines cs steps more k x f g =
    ap (λ (l : List ℕ). map (line_at cs) l) f ∙ map-append (line_at cs) steps (x ∷ [])
    ∙ ap (λ (l : Line). map (line_at cs) steps ++ l ∷ []) (ap (λ n. line_at cs n) g ∙ odd_line cs k)

pub written_more : (cs ds : List Clause) (c : Clause) (steps : List ℕ) → ds ≡ cs ++ c ∷ [] → length cs < 2 ^ 31 → AreWritten cs steps → AreWritten ds steps
written_more cs ds c steps e h a = subst (λ (l : List Clause). AreWritten l steps) (sym e) (record {
  small = let n = length-append cs (c ∷ []) in omega (arith, n, h);
  below = λ x m. let b = a.below x m in let n = length-append cs (c ∷ []) in omega (arith, b, n);
})

pub written_step : (cs : List Clause) (steps more : List ℕ) (x : ℕ) → more ≡ steps ++ x ∷ [] → x / 2 < length cs → AreWritten cs steps → AreWritten cs more
written_step cs steps more x e h a = subst (λ (l : List ℕ). AreWritten cs l) (sym e) (record {
  small = a.small;
  below = λ y m. ⊎_elim (a.below y) (λ k. ⊎_elim (λ q. subst (λ n. n / 2 < length cs) (sym q) h) (λ z. absurd z) k) (∈-append_cases y steps (x ∷ []) m);
})

pub line_read : (cs : List Clause) (steps : List ℕ) (i : ℕ) → i < length steps → get_or (map (line_at cs) steps) i (Add []) ≡ line_at cs (get_or steps i 0)
line_read cs steps i h = get_or-map (line_at cs) steps i 0 (Add []) h

pub line_clause : (cs : List Clause) (x : ℕ) → clause_of (line_at cs x) ≡ get_or cs (x / 2) []
line_clause cs x = go (nat_eq (x % 2) 0)
  where
    go : (b : Bool) → clause_of (if b then Add (get_or cs (x / 2) []) else Delete (get_or cs (x / 2) [])) ≡ get_or cs (x / 2) []
    go true = refl
    go false = refl

pub line_deletes : (cs : List Clause) (x : ℕ) → is_deletion (line_at cs x) ≡ not (nat_eq (x % 2) 0)
line_deletes cs x = go (nat_eq (x % 2) 0)
  where
    go : (b : Bool) → is_deletion (if b then Add (get_or cs (x / 2) []) else Delete (get_or cs (x / 2) [])) ≡ not b
    go true = refl
    go false = refl

pub step_below : (cs : List Clause) (steps : List ℕ) (i x : ℕ) → i < length steps → x ≡ get_or steps i x → AreWritten cs steps → x / 2 < length cs
step_below cs steps i x h e a = a.below x (subst (λ y. y ∈ steps) (sym e) (∈-get_or steps i x h))

pub lines_count : (cs : List Clause) (steps : List ℕ) → length (map (line_at cs) steps) ≡ length steps
lines_count cs steps = length-map steps (line_at cs)

-- what is seen of clauses and numbers
abbrev written : List Clause → List Line → WrittenClauses
written cs lines = record { clauses = cs; lines = lines }

pub given_view : (cs ds : List Clause) (c : Clause) (steps : List ℕ) (b : Bool) (old : WrittenClauses) → written cs (map (line_at cs) steps) ≡ old → b ≡ true →
    ds ≡ cs ++ c ∷ [] → AreWritten cs steps → written ds (map (line_at ds) steps) ≡ with_clause b old c
given_view cs ds c steps b old v q e a =
    ap (λ (l : List Clause). written l (map (line_at ds) steps)) e ∙ ap (λ (l : List Line). written (cs ++ c ∷ []) l) (given_lines cs ds c steps e a)
    ∙ ap (λ (x : Bool). with_clause x (written cs (map (line_at cs) steps)) c) (sym q) ∙ ap (λ (w : WrittenClauses). with_clause b w c) v

pub added_view : (cs ds : List Clause) (c : Clause) (steps more : List ℕ) (x : ℕ) (b : Bool) (old : WrittenClauses) → written cs (map (line_at cs) steps) ≡ old → b ≡ false →
    ds ≡ cs ++ c ∷ [] → more ≡ steps ++ x ∷ [] → x ≡ 2 * length cs → AreWritten cs steps → written ds (map (line_at ds) more) ≡ with_clause b old c
added_view cs ds c steps more x b old v q e f g a =
    ap (λ (l : List Clause). written l (map (line_at ds) more)) e ∙ ap (λ (l : List Line). written (cs ++ c ∷ []) l) (added_lines cs ds c steps more x e f g a)
    ∙ ap (λ (x : Bool). with_clause x (written cs (map (line_at cs) steps)) c) (sym q) ∙ ap (λ (w : WrittenClauses). with_clause b w c) v

pub clauses_joined : (b : Bool) (h : WrittenClauses) (c : Clause) → (with_clause b h c).clauses ≡ h.clauses ++ c ∷ []
clauses_joined true h c = refl
clauses_joined false h c = refl
