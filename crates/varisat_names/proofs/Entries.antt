-- What a map keeps of each variable, and the list that its contract sees.
use Rattle.std.proofs.Common.{◌≡◌, ℕ, ◌+◌, ◌<◌, ◌≤◌, ◌^◌, min, max, Bool, true, false, nat_eq, if◌then◌else◌, Option, Some, None, Result, Ok, Err, OnErr, List, length, take, sym, ap, ◌∙◌, subst, refl, arith, ◌⊎◌, ⊎_elim}
use Rattle.std.proofs.lemmas.Bool.{cases_lt}
use Rattle.std.proofs.lemmas.List.FromFn.{length-map-range_with_len, get_or-map-range_with_len, take-map-range_with_len, fill_by_all}
use Rattle.varisat_names.specs.promises.Maps.{updated}
use Rattle.varisat_names.specs.promises.VarMap.{at, mapped, IsPut}
use Rattle.varisat_names.specs.inside.NumberSets.{holds}
use Rattle.varisat_names.specs.inside.CodePages.{code_at}
use Rattle.varisat_names.specs.inside.Entries.{or_own, entry, entries, EndsAt, AreOwnBelow}
use Rattle.varisat_names.proofs.Maps.{updated-all, updated-at, updated-other}
use Rattle.varisat_names.proofs.VarMap.{at-past, mapped-variable}

pub length-entries : (e : ℕ → Option ℕ) (w : ℕ) → length (entries e w) ≡ w
length-entries e w = length-map-range_with_len e 0 w

-- what the list maps a number to
pub at-entries : (e : ℕ → Option ℕ) (w : ℕ) → EndsAt e w → (i : ℕ) → at (entries e w) i ≡ e i
at-entries e w h i =
    let l = length-entries e w in
    ⊎_elim
    (λ p. get_or-map-range_with_len e 0 w i i None p (omega arith))
    (λ p. at-past (entries e w) i (omega (arith, l, p)) ∙ sym (h.above i p))
    (cases_lt i w)

-- the same entries
pub same-entries : (e f : ℕ → Option ℕ) (w : ℕ) → ((i : ℕ) → f i ≡ e i) → entries f w ≡ entries e w
same-entries e f w h = fill_by_all e (entries f w) w None (length-entries f w)
    (λ k b. get_or-map-range_with_len f 0 w k k None b (omega arith) ∙ h k)

pub same-ends : (e f : ℕ → Option ℕ) (w : ℕ) → EndsAt e w → ((i : ℕ) → f i ≡ e i) → EndsAt f w
same-ends e f w a h = record { above = λ i b. h i ∙ a.above i b; small = a.small }

-- what holds where a call is refused
pub on-refused : {T E P : Type 0} (r : Result T E) → P → OnErr r P
on-refused (Ok x) p = tt
on-refused (Err e) p = p

-- one other entry
pub put-ends : (e f : ℕ → Option ℕ) (w n k : ℕ) (v : Option ℕ) → EndsAt e w → n ≡ max w (k + 1) → k < 2 ^ 31 →
    ((i : ℕ) → f i ≡ updated e k v i) → EndsAt f n
put-ends e f w n k v a m b h =
    let s = a.small in
    record {
      above = λ i p. h i ∙ updated-other e k v i (λ q. absurd omega (arith, m, p, q)) ∙ a.above i (omega (arith, m, p));
      small = omega (arith, m, b, s);
    }

pub put-entries : (e f : ℕ → Option ℕ) (w n k : ℕ) (v : Option ℕ) (old : List (Option ℕ)) → entries e w ≡ old → EndsAt e w → EndsAt f n →
    n ≡ max w (k + 1) → ((i : ℕ) → f i ≡ updated e k v i) → IsPut old k v (entries f n)
put-entries e f w n k v old seen a b m h =
    subst (λ xs. IsPut xs k v (entries f n)) seen record {
      watermark = length-entries f n ∙ m ∙ ap (λ l. max l (k + 1)) (sym (length-entries e w));
      at_each = λ i. at-entries f n b i ∙ h i ∙ ap (λ o. if nat_eq i k then v else o) (sym (at-entries e w a i));
    }

-- what a map leads to, as it is read
pub read-list : (e : ℕ → Option ℕ) (w i : ℕ) (o : Option ℕ) (old : List (Option ℕ)) → entries e w ≡ old → EndsAt e w → o ≡ e i → o ≡ at old i
read-list e w i o old seen a h = h ∙ sym (at-entries e w a i) ∙ ap (λ m. at m i) seen

-- no entry
pub none-ends : (e f : ℕ → Option ℕ) (w k : ℕ) → EndsAt e w → ((i : ℕ) → f i ≡ updated e k None i) → EndsAt f w
none-ends e f w k a h = record {
  above = λ i p. h i ∙ updated-all (λ _ o. o ≡ None) e k None refl i (λ _. a.above i p);
  small = a.small;
}

pub none-past : (e f : ℕ → Option ℕ) (w k : ℕ) → EndsAt e w → w ≤ k → ((i : ℕ) → f i ≡ updated e k None i) → (i : ℕ) → f i ≡ e i
none-past e f w k a b h i = h i ∙ updated-all (λ j o. o ≡ e j) e k None (sym (a.above k b)) i (λ n. refl)

-- a number below the watermark that is mapped no longer
pub none-entries : (e f : ℕ → Option ℕ) (w k : ℕ) (old : List (Option ℕ)) → entries e w ≡ old → EndsAt e w → EndsAt f w → k < length old →
    ((i : ℕ) → f i ≡ updated e k None i) → IsPut old k None (entries f w)
none-entries e f w k old seen a b inside h =
    let l = length-entries e w in
    let c = ap length seen in
    put-entries e f w w k None old seen a b (omega (arith, l, c, inside)) h

-- a number from the watermark on
pub none-above : (e f : ℕ → Option ℕ) (w k : ℕ) (old : List (Option ℕ)) → entries e w ≡ old → EndsAt e w → length old ≤ k →
    ((i : ℕ) → f i ≡ updated e k None i) → entries f w ≡ old
none-above e f w k old seen a past h =
    let l = length-entries e w in
    let c = ap length seen in
    same-entries e f w (none-past e f w k a (omega (arith, l, c, past)) h) ∙ seen

-- a lower watermark
pub cut-ends : (e : ℕ → Option ℕ) (w n : ℕ) (old : List (Option ℕ)) → entries e w ≡ old → EndsAt e w → n ≤ length old →
    ((i : ℕ) → n ≤ i → at old i ≡ None) → EndsAt e n
cut-ends e w n old seen a b h =
    let l = length-entries e w in
    let s = a.small in
    let c = ap length seen in
    record {
      above = λ i p. sym (at-entries e w a i) ∙ ap (λ xs. at xs i) seen ∙ h i p;
      small = omega (arith, l, s, b, c);
    }

pub cut-entries : (e : ℕ → Option ℕ) (w n : ℕ) (old : List (Option ℕ)) → entries e w ≡ old → n ≤ length old → entries e n ≡ take n old
cut-entries e w n old seen b =
    let l = length-entries e w in
    let c = ap length seen in
    sym (take-map-range_with_len e 0 w n (omega (arith, l, b, c))) ∙ ap (take n) seen

-- Of an entry that leads nowhere the code is that of no variable.
no-code : (o : Option ℕ) (b : Bool) (k : ℕ) → or_own o b k ≡ None → o ≡ None
no-code (Some x) b k e = absurd cc
no-code None b k e = refl

-- a variable that is mapped to itself
pub put-own : (own new : List ℕ) (codes : List (List ℕ)) (k : ℕ) → entry own codes k ≡ None → ((i : ℕ) → holds new i ≡ updated (holds own) k true i) →
    (i : ℕ) → entry new codes i ≡ updated (entry own codes) k (Some k) i
put-own own new codes k free h i =
    let from : ℕ → Bool → Option ℕ = λ j b. or_own (mapped (code_at codes j)) b j in
    ap (from i) (h i) ∙ updated-all (λ j o. from j (updated (holds own) k true j) ≡ o) (entry own codes) k (Some k)
    (ap (from k) (updated-at (holds own) k true)
    ∙ ap (λ o. or_own o true k) (no-code (mapped (code_at codes k)) (holds own k) k free))
    i (λ n. ap (from i) (updated-other (holds own) k true i n))

-- a variable that is mapped to another one
pub put-other : (own : List ℕ) (codes new : List (List ℕ)) (k v : ℕ) → v < 2 ^ 31 →
    ((i : ℕ) → code_at new i ≡ updated (code_at codes) k v i) → (i : ℕ) → entry own new i ≡ updated (entry own codes) k (Some v) i
put-other own codes new k v b h i =
    let from : ℕ → ℕ → Option ℕ = λ j c. or_own (mapped c) (holds own j) j in
    ap (from i) (h i) ∙ updated-all (λ j o. from j (updated (code_at codes) k v j) ≡ o) (entry own codes) k (Some v)
    (ap (from k) (updated-at (code_at codes) k v)
    ∙ ap (λ o. or_own o (holds own k) k) (mapped-variable v v refl b))
    i (λ n. ap (from i) (updated-other (code_at codes) k v i n))

-- a variable that is mapped no longer
pub take-out : (own less : List ℕ) (codes new : List (List ℕ)) (k j : ℕ) → j ≡ k → ((i : ℕ) → holds less i ≡ updated (holds own) j false i) →
    ((i : ℕ) → code_at new i ≡ updated (code_at codes) j 0x8000_0000 i) → (i : ℕ) → entry less new i ≡ updated (entry own codes) k None i
take-out own less codes new k j q h c i =
    let from : ℕ → Bool → ℕ → Option ℕ = λ n b x. or_own (mapped x) b n in
    ap (λ b. from i b (code_at new i)) (h i) ∙ ap (from i (updated (holds own) j false i)) (c i)
    ∙ updated-all (λ n o. from n (updated (holds own) j false n) (updated (code_at codes) j 0x8000_0000 n) ≡ o) (entry own codes) j None
    (ap (λ b. from j b (updated (code_at codes) j 0x8000_0000 j)) (updated-at (holds own) j false)
    ∙ ap (from j false) (updated-at (code_at codes) j 0x8000_0000))
    i
    (λ n. ap (λ b. from i b (updated (code_at codes) j 0x8000_0000 i)) (updated-other (holds own) j false i n)
    ∙ ap (from i (holds own i)) (updated-other (code_at codes) j 0x8000_0000 i n))
    ∙ ap (λ n. updated (entry own codes) n None i) q

-- the same variables and codes
pub same-parts : (own new : List ℕ) (codes after : List (List ℕ)) → ((i : ℕ) → holds new i ≡ holds own i) →
    ((i : ℕ) → code_at after i ≡ code_at codes i) → (i : ℕ) → entry new after i ≡ entry own codes i
same-parts own new codes after h c i =
    let from : Bool → ℕ → Option ℕ = λ b x. or_own (mapped x) b i in
    ap (λ b. from b (code_at after i)) (h i) ∙ ap (from (holds own i)) (c i)

-- All below are mapped to themselves as before, where the entries are the same.
pub own-same : (e f : ℕ → Option ℕ) (same : ℕ) → AreOwnBelow e same → ((i : ℕ) → f i ≡ e i) → AreOwnBelow f same
own-same e f same a h i b = h i ∙ a i b

-- one more entry
pub own-put : (e f : ℕ → Option ℕ) (same n k v : ℕ) → AreOwnBelow e same → e k ≡ None → ((i : ℕ) → f i ≡ updated e k (Some v) i) →
    ((i : ℕ) → i < n → (i < same) ⊎ ((i ≡ k) × (v ≡ k))) → AreOwnBelow f n
own-put e f same n k v a free h m i b = h i ∙ ⊎_elim
    (λ p. updated-all (λ j o. (j < same) → o ≡ Some j) e k (Some v)
    (λ q. let z : None ≡ Some k = sym free ∙ a k q in absurd cc) i (λ _ q. a i q) p)
    (λ q. ap (updated e k (Some v)) q.0 ∙ updated-at e k (Some v) ∙ ap Some (q.1 ∙ sym q.0))
    (m i b)

-- no entry
pub own-none : (e f : ℕ → Option ℕ) (same n j k : ℕ) → AreOwnBelow e same → ((i : ℕ) → f i ≡ updated e k None i) → n ≡ min same j → j ≡ k →
    AreOwnBelow f n
own-none e f same n j k a h m q i b =
    h i ∙ updated-other e k None i (λ p. absurd omega (arith, m, q, p, b)) ∙ a i (omega (arith, m, b))
