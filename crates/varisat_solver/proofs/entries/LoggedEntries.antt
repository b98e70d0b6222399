-- What is logged further, and what it makes of what was logged.
use Rattle.std.proofs.Common.{◌≡◌, ℕ, List, [], ◌∷◌, ◌++◌, refl, ap, ◌∙◌, ◌+◌, Bool, false, inl, sym, subst, map, append_assoc, arith, ◌⊎◌, ◌↔◌, inr, ⊎_elim}
use Rattle.std.proofs.lemmas.List.{append-nil}
use Rattle.varisat_theory.specs.promises.Membership.{◌∈◌, ◌⊆◌}
use Rattle.varisat_theory.specs.promises.Literals.{Literal, Clause, Assignment, variable_of, SatisfiesAll}
use Rattle.varisat_theory.specs.promises.Derivations.{Line, Add, Delete, SpeakOf}
use Rattle.varisat_theory.specs.promises.Journals.{Entry, Accepts, Writes, Assumes, Fails, Retires, Follow, lines_of, written, NoneRetires, Leads, accepted_of, GoesOn}
use Rattle.varisat_proof.specs.promises.Assumed.{lists_of, assumed_behind, CoresAreAssumed}
use Rattle.varisat_solver.specs.promises.Journals.{LogsMore, AreDerived, EndBy, LogsStaying, EndWithCore}
use Rattle.varisat_solver.specs.promises.States.{Verdict, Unknown, Sat, Unsat, UnsatUnderAssumptions}
use Rattle.varisat_solver.specs.inside.Spaces.{SpeaksOf, AllSpeakOf, IsCounted, IsWholeLog}
use Rattle.varisat_theory.specs.promises.Renaming.{rename_line}
use Rattle.varisat_theory.specs.promises.Held.{without}
use Rattle.varisat_theory.proofs.journals.Journals.{goes_on_further, accepted_append, stays_append, written_accepts, written_stays}
use Rattle.varisat_theory.proofs.clauses.Members.{∈-append_left, ∈-append_right, ∈-append_cases}
use Rattle.varisat_theory.proofs.journals.HeldRetirements.{without_less}
use Rattle.varisat_theory.proofs.journals.Renaming.{map-∈}
use Rattle.varisat_theory.proofs.clauses.Sound.{conflicts_sound}

-- What entries speak of, what they assume, and that those which a call logs beside give no list of assumptions.

-- 1. What they speak of.

speaks-wider : (are may : Literal → Type 0) (e : Entry) → ((l : Literal) → are l → may l) → SpeaksOf are e → SpeaksOf may e
speaks-wider are may (Accepts c) w s = λ l h. w l (s l h)
speaks-wider are may (Writes (Add c)) w s = λ l h. w l (s l h)
speaks-wider are may (Writes (Delete c)) w s = λ l h. w l (s l h)
speaks-wider are may (Assumes a) w s = λ l h. w l (s l h)
speaks-wider are may (Fails core) w s = λ l h. w l (s l h)
speaks-wider are may (Retires i) w s = tt

pub all-wider : (are may : Literal → Type 0) (es : List Entry) → ((l : Literal) → are l → may l) → AllSpeakOf are es → AllSpeakOf may es
all-wider are may [] w s = tt
all-wider are may (e ∷ es) w (s, rest) = (speaks-wider are may e w s, all-wider are may es w rest)

pub all-join : (are : Literal → Type 0) (es fs : List Entry) → AllSpeakOf are es → AllSpeakOf are fs → AllSpeakOf are (es ++ fs)
all-join are [] fs s t = t
all-join are (e ∷ es) fs (s, rest) t = (s, all-join are es fs rest t)

pub written-speak : (are : Literal → Type 0) (lines : List Line) → SpeakOf are lines → AllSpeakOf are (written lines)
written-speak are [] s = tt
written-speak are (Add c ∷ lines) (s, rest) = (s, written-speak are lines rest)
written-speak are (Delete c ∷ lines) (s, rest) = (s, written-speak are lines rest)

-- so do the clauses that they lead to
pub held-spoken : (are : Literal → Type 0) (P : List Clause) (es : List Entry) (Q : List Clause) →
    ((c : Clause) (l : Literal) → c ∈ P → l ∈ c → are l) → Leads P es Q → AllSpeakOf are es → (c : Clause) (l : Literal) → c ∈ Q → l ∈ c → are l
held-spoken are P [] Q first d s c l h i = first c l (subst (λ X. c ∈ X) (sym d) h) i
held-spoken are P (e ∷ es) Q first (R, f, d) (s, rest) c l h i = held-spoken are R es Q (after e f s) d rest c l h i
  where
    more : (b : Clause) → R ≡ P ++ b ∷ [] → ((l : Literal) → l ∈ b → are l) → (c : Clause) (l : Literal) → c ∈ R → l ∈ c → are l
    more b q t c l h i = ⊎_elim (λ a. first c l a i) (λ a. ⊎_elim (λ z. t l (subst (λ x. l ∈ x) z i)) (λ z. absurd z) a)
        (∈-append_cases c P (b ∷ []) (subst (λ X. c ∈ X) q h))

    less : ((c : Clause) → c ∈ R → c ∈ P) → (c : Clause) (l : Literal) → c ∈ R → l ∈ c → are l
    less q c l h i = first c l (q c h) i

    after : (e : Entry) → Follow P e R → SpeaksOf are e → (c : Clause) (l : Literal) → c ∈ R → l ∈ c → are l
    after (Accepts b) q t = more b q t
    after (Writes (Add b)) (k, q) t = more b q t
    after (Writes (Delete b)) (front, x, back, i, o, q) t = less (λ c h. subst (λ X. c ∈ X) (sym i)
        (⊎_elim (λ a. ∈-append_left c front (x ∷ back) a) (λ a. ∈-append_right c front (x ∷ back) (inr a))
        (∈-append_cases c front back (subst (λ X. c ∈ X) q h))))
    after (Assumes b) q t = less (λ c h. subst (λ X. c ∈ X) q h)
    after (Fails core) (k, q) t = less (λ c h. subst (λ X. c ∈ X) q h)
    after (Retires v) q t = less (λ c h. without_less v P c (subst (λ X. c ∈ X) q h))

-- so do their lines
pub lines-speak : (are : Literal → Type 0) (es : List Entry) → AllSpeakOf are es → SpeakOf are (lines_of es)
lines-speak are [] s = tt
lines-speak are (Accepts c ∷ es) (s, rest) = lines-speak are es rest
lines-speak are (Writes (Add c) ∷ es) (s, rest) = (s, lines-speak are es rest)
lines-speak are (Writes (Delete c) ∷ es) (s, rest) = (s, lines-speak are es rest)
lines-speak are (Assumes a ∷ es) (s, rest) = lines-speak are es rest
lines-speak are (Fails core ∷ es) (s, rest) = lines-speak are es rest
lines-speak are (Retires i ∷ es) (s, rest) = lines-speak are es rest

-- 2. What they assume.

pub assumed-append : (list : List Literal) (es fs : List Entry) → assumed_behind list (es ++ fs) ≡ assumed_behind (assumed_behind list es) fs
assumed-append list [] fs = refl
assumed-append list (Accepts c ∷ es) fs = assumed-append list es fs
assumed-append list (Writes line ∷ es) fs = assumed-append list es fs
assumed-append list (Assumes a ∷ es) fs = assumed-append a es fs
assumed-append list (Fails core ∷ es) fs = assumed-append list es fs
assumed-append list (Retires i ∷ es) fs = assumed-append list es fs

pub cores-append : (list : List Literal) (es fs : List Entry) → CoresAreAssumed list es → CoresAreAssumed (assumed_behind list es) fs →
    CoresAreAssumed list (es ++ fs)
cores-append list [] fs c d = d
cores-append list (Accepts c ∷ es) fs h d = cores-append list es fs h d
cores-append list (Writes line ∷ es) fs h d = cores-append list es fs h d
cores-append list (Assumes a ∷ es) fs h d = cores-append a es fs h d
cores-append list (Fails core ∷ es) fs (within, h) d = (within, cores-append list es fs h d)
cores-append list (Retires i ∷ es) fs h d = cores-append list es fs h d

-- lines assume nothing
pub assumed-written : (list : List Literal) (lines : List Line) → assumed_behind list (written lines) ≡ list
assumed-written list [] = refl
assumed-written list (line ∷ lines) = assumed-written list lines

pub cores-written : (list : List Literal) (lines : List Line) → CoresAreAssumed list (written lines)
cores-written list [] = tt
cores-written list (line ∷ lines) = cores-written list lines

-- the list that is assumed last is one that they speak of
pub assumed-spoken : (are : Literal → Type 0) (list : List Literal) (es : List Entry) → ((l : Literal) → l ∈ list → are l) → AllSpeakOf are es →
    (l : Literal) → l ∈ assumed_behind list es → are l
assumed-spoken are list [] w s l h = w l h
assumed-spoken are list (Accepts c ∷ es) w (s, rest) l h = assumed-spoken are list es w rest l h
assumed-spoken are list (Writes line ∷ es) w (s, rest) l h = assumed-spoken are list es w rest l h
assumed-spoken are list (Assumes a ∷ es) w (s, rest) l h = assumed-spoken are a es s rest l h
assumed-spoken are list (Fails core ∷ es) w (s, rest) l h = assumed-spoken are list es w rest l h
assumed-spoken are list (Retires i ∷ es) w (s, rest) l h = assumed-spoken are list es w rest l h

-- 3. The lists that they give.

pub lists-append : (es fs : List Entry) → lists_of (es ++ fs) ≡ lists_of es ++ lists_of fs
lists-append [] fs = refl
lists-append (Accepts c ∷ es) fs = lists-append es fs
lists-append (Writes line ∷ es) fs = lists-append es fs
lists-append (Assumes a ∷ es) fs = ap (λ x. a ∷ x) (lists-append es fs)
lists-append (Fails core ∷ es) fs = lists-append es fs
lists-append (Retires i ∷ es) fs = lists-append es fs

pub lists-derived : (es : List Entry) → AreDerived es → lists_of es ≡ []
lists-derived [] d = refl
lists-derived (Accepts c ∷ es) d = absurd d
lists-derived (Writes line ∷ es) d = lists-derived es d
lists-derived (Assumes a ∷ es) d = absurd d
lists-derived (Fails core ∷ es) d = absurd d
lists-derived (Retires i ∷ es) d = lists-derived es d

-- nor does a core give one
pub lists-ended : (v : Verdict) (es : List Entry) → EndBy v es → lists_of es ≡ []
lists-ended Unknown es d = lists-derived es d
lists-ended (Sat found) es d = lists-derived es d
lists-ended Unsat es d = lists-derived es d
lists-ended (UnsatUnderAssumptions core) es (front, d, e) =
    ap lists_of e ∙ lists-append front (Fails core ∷ []) ∙ append-nil (lists_of front) ∙ lists-derived front d

pub lists-on : {n : ℕ} (before after : List Entry) (m : LogsMore n before after) → lists_of m.entries ≡ [] → lists_of after ≡ lists_of before
lists-on before after m none = ap lists_of m.joined ∙ lists-append before m.entries ∙ ap (λ x. lists_of before ++ x) none ∙ append-nil (lists_of before)

pub logs-nothing : (logged : List Entry) → LogsMore 0 logged logged
logs-nothing logged = record { entries = []; joined = sym (append-nil logged); goes = λ held d. (held, refl) }

pub stays-nothing : (logged : List Entry) → LogsStaying 0 logged logged
unfolding logs-nothing
stays-nothing logged = (logs-nothing logged, tt, tt)

-- lines are derived entries, and so are such in turn
pub written-derived : (lines : List Line) → AreDerived (written lines)
written-derived [] = tt
written-derived (line ∷ lines) = written-derived lines

pub derived-through : (es fs : List Entry) → AreDerived es → AreDerived fs → AreDerived (es ++ fs)
derived-through [] fs d e = e
derived-through (Writes line ∷ es) fs d e = derived-through es fs d e
derived-through (Retires v ∷ es) fs d e = derived-through es fs d e
derived-through (Accepts c ∷ es) fs d e = absurd d
derived-through (Assumes a ∷ es) fs d e = absurd d
derived-through (Fails core ∷ es) fs d e = absurd d

-- and then what ends by a verdict
pub ends-through : (es fs : List Entry) (v : Verdict) → AreDerived es → EndBy v fs → EndBy v (es ++ fs)
ends-through es fs Unknown d e = derived-through es fs d e
ends-through es fs (Sat a) d e = derived-through es fs d e
ends-through es fs Unsat d e = derived-through es fs d e
ends-through es fs (UnsatUnderAssumptions core) d (front, f, e) =
    (es ++ front, derived-through es front d f, ap (λ xs. es ++ xs) e ∙ sym (append_assoc es front (Fails core ∷ [])))

-- what ends without a verdict
pub ends-derived : (es : List Entry) (v : Verdict) → v ≡ Unknown → EndBy v es → AreDerived es
ends-derived es v u e = subst (λ x. EndBy x es) u e

pub derived-ends : (es : List Entry) (v : Verdict) → v ≡ Unknown → AreDerived es → EndBy v es
derived-ends es v u e = subst (λ x. EndBy x es) (sym u) e

-- nothing is logged by no steps
pub nothing-derived : (logged : List Entry) → AreDerived (logs-nothing logged).entries
unfolding logs-nothing
nothing-derived logged = tt

pub logs-none : (n : ℕ) (logged : List Entry) → n ≡ 0 → LogsMore n logged logged
logs-none n logged e = record { entries = []; joined = sym (append-nil logged); goes = λ held d. (held, refl) }

pub none-derived : (n : ℕ) (logged : List Entry) (e : n ≡ 0) → AreDerived (logs-none n logged e).entries
unfolding logs-none
none-derived n logged e = tt

pub logs-through : (n m : ℕ) (a b c : List Entry) → LogsMore n a b → LogsMore m b c → LogsMore (n + m) a c
logs-through n m a b c s t = record {
  entries = s.entries ++ t.entries;
  joined = t.joined ∙ ap (λ x. x ++ t.entries) s.joined ∙ append_assoc a s.entries t.entries;
  goes = goes_on_further n m a s.entries t.entries s.goes (subst (λ x. GoesOn m x t.entries) s.joined t.goes);
}

pub logs : (n : ℕ) (logged es : List Entry) → GoesOn n logged es → LogsMore n logged (logged ++ es)
logs n logged es g = record { entries = es; joined = refl; goes = g }

pub one-derived : (logged : List Entry) (e : Entry) → AreDerived (e ∷ []) → (g : GoesOn 0 logged (e ∷ [])) → AreDerived (logs 0 logged (e ∷ []) g).entries
unfolding logs
one-derived logged e d g = d

pub through-derived : (n m : ℕ) (a b c : List Entry) (s : LogsMore n a b) (t : LogsMore m b c) → AreDerived s.entries → AreDerived t.entries →
    AreDerived (logs-through n m a b c s t).entries
unfolding logs-through
through-derived n m a b c s t d e = derived-through s.entries t.entries d e

-- and then others of which nothing counts
pub logs-also : (n : ℕ) (a b : List Entry) (es : List Entry) → LogsMore n a b → GoesOn 0 b es → LogsMore n a (b ++ es)
logs-also n a b es s g = record {
  entries = s.entries ++ es;
  joined = ap (λ x. x ++ es) s.joined ∙ append_assoc a s.entries es;
  goes = subst (λ m. GoesOn m a (s.entries ++ es)) (let z : n + 0 ≡ n = omega arith in z)
      (goes_on_further n 0 a s.entries es s.goes (subst (λ x. GoesOn 0 x es) s.joined g));
}

-- where that is a core, it is logged last
pub also-ends : (n : ℕ) (a b : List Entry) (core : List Literal) (s : LogsMore n a b) → AreDerived s.entries → (g : GoesOn 0 b (Fails core ∷ [])) →
    EndWithCore core (logs-also n a b (Fails core ∷ []) s g).entries
unfolding logs-also
also-ends n a b core s d g = (s.entries, d, refl)

-- steps follow entries of which nothing counts; n is how many were made
pub steps-follow : (k n : ℕ) (a b c : List Entry) → LogsMore 0 a b → (t : LogsMore k b c) → k ≡ n → LogsMore n a c
steps-follow k n a b c s t e = subst (λ m. LogsMore m a c) (let z : 0 + k ≡ n = omega (arith, e) in z) (logs-through 0 k a b c s t)

pub accepts-goes : (logged : List Entry) (c : Clause) → GoesOn 0 logged (Accepts c ∷ [])
accepts-goes logged c held d = (held ++ c ∷ [], (held ++ c ∷ [], refl, inl (tt, refl)))

pub leaves-goes : (logged : List Entry) (v : ℕ) → GoesOn 0 logged (Retires v ∷ [])
leaves-goes logged v held d = (without v held, (without v held, refl, inl (tt, refl)))

pub assumes-goes : (logged : List Entry) (a : List Literal) → GoesOn 0 logged (Assumes a ∷ [])
assumes-goes logged a held d = (held, (held, refl, inl (tt, refl)))

-- of the accepted clauses, of what lines are over, and of whether variables left

-- what stands behind entries that assume and fail nothing is assumed as before
assumed-on : (logged es : List Entry) (A B : List Literal) → assumed_behind [] logged ≡ A → assumed_behind A es ≡ B → assumed_behind [] (logged ++ es) ≡ B
assumed-on logged es A B e f = assumed-append [] logged es ∙ ap (λ x. assumed_behind x es) e ∙ f

cores-on : (logged es : List Entry) (A : List Literal) → assumed_behind [] logged ≡ A → CoresAreAssumed [] logged → CoresAreAssumed A es →
    CoresAreAssumed [] (logged ++ es)
cores-on logged es A e c d = cores-append [] logged es c (subst (λ x. CoresAreAssumed x es) (sym e) d)

-- where no variable leaves
pub none-in : (es : List Entry) (i : ℕ) → NoneRetires es → Retires i ∈ es → ⊥
none-in [] i n h = h
none-in (Accepts c ∷ es) i n h = ⊎_elim (λ q. cc) (none-in es i n) h
none-in (Writes line ∷ es) i n h = ⊎_elim (λ q. cc) (none-in es i n) h
none-in (Assumes a ∷ es) i n h = ⊎_elim (λ q. cc) (none-in es i n) h
none-in (Fails core ∷ es) i n h = ⊎_elim (λ q. cc) (none-in es i n) h
none-in (Retires v ∷ es) i n h = n

left-on : {gone : ℕ → Type 0} (logged es : List Entry) → NoneRetires es → ((i : ℕ) → (Retires i ∈ logged) ↔ gone i) → (i : ℕ) → (Retires i ∈ (logged ++ es)) ↔ gone i
left-on logged es n k i = (
  λ h. (k i).0 (⊎_elim (λ a. a) (λ a. absurd (none-in es i n a)) (∈-append_cases (Retires i) logged es h)),
  λ g. ∈-append_left (Retires i) logged es ((k i).1 g),
)

pub logged-written : {gone : ℕ → Type 0} (logged : List Entry) (P : List Clause) (A : List Literal) (C : List ℕ) (hidden : Bool) (lines : List Line) →
    SpeakOf (IsCounted C) lines → IsWholeLog logged P A C hidden gone → IsWholeLog (logged ++ written lines) P A C hidden gone
logged-written logged P A C hidden lines s t = record {
  accepted = accepted_append logged (written lines) ∙ ap (λ x. accepted_of logged ++ x) (written_accepts lines) ∙ append-nil (accepted_of logged) ∙ t.accepted;
  assumed = assumed-on logged (written lines) A A t.assumed (assumed-written A lines);
  cores = cores-on logged (written lines) A t.assumed t.cores (cores-written A lines);
  spoken = all-join (IsCounted C) logged (written lines) t.spoken (written-speak (IsCounted C) lines s);
  left = left-on logged (written lines) (written_stays lines) t.left;
  stays = λ e. stays_append logged (written lines) (t.stays e) (written_stays lines);
}

pub logged-accepted : {gone : ℕ → Type 0} (logged : List Entry) (P : List Clause) (A : List Literal) (C : List ℕ) (hidden : Bool) (c : Clause) →
    ((l : Literal) → l ∈ c → IsCounted C l) → IsWholeLog logged P A C hidden gone → IsWholeLog (logged ++ Accepts c ∷ []) (P ++ c ∷ []) A C hidden gone
logged-accepted logged P A C hidden c s t = record {
  accepted = accepted_append logged (Accepts c ∷ []) ∙ ap (λ x. x ++ c ∷ []) t.accepted;
  assumed = assumed-on logged (Accepts c ∷ []) A A t.assumed refl;
  cores = cores-on logged (Accepts c ∷ []) A t.assumed t.cores tt;
  spoken = all-join (IsCounted C) logged (Accepts c ∷ []) t.spoken (s, tt);
  left = left-on logged (Accepts c ∷ []) tt t.left;
  stays = λ e. stays_append logged (Accepts c ∷ []) (t.stays e) tt;
}

pub logged-assumed : {gone : ℕ → Type 0} (logged : List Entry) (P : List Clause) (A : List Literal) (C : List ℕ) (hidden : Bool) (a : List Literal) →
    ((l : Literal) → l ∈ a → IsCounted C l) → IsWholeLog logged P A C hidden gone → IsWholeLog (logged ++ Assumes a ∷ []) P a C hidden gone
logged-assumed logged P A C hidden a s t = record {
  accepted = accepted_append logged (Assumes a ∷ []) ∙ append-nil (accepted_of logged) ∙ t.accepted;
  assumed = assumed-on logged (Assumes a ∷ []) A a t.assumed refl;
  cores = cores-on logged (Assumes a ∷ []) A t.assumed t.cores tt;
  spoken = all-join (IsCounted C) logged (Assumes a ∷ []) t.spoken (s, tt);
  left = left-on logged (Assumes a ∷ []) tt t.left;
  stays = λ e. stays_append logged (Assumes a ∷ []) (t.stays e) tt;
}

-- a core of what is assumed
pub logged-failed : {gone : ℕ → Type 0} (logged : List Entry) (P : List Clause) (A : List Literal) (C : List ℕ) (hidden : Bool) (core : List Literal) →
    core ⊆ A → IsWholeLog logged P A C hidden gone → IsWholeLog (logged ++ Fails core ∷ []) P A C hidden gone
logged-failed logged P A C hidden core within t = record {
  accepted = accepted_append logged (Fails core ∷ []) ∙ append-nil (accepted_of logged) ∙ t.accepted;
  assumed = assumed-on logged (Fails core ∷ []) A A t.assumed refl;
  cores = cores-on logged (Fails core ∷ []) A t.assumed t.cores (within, tt);
  spoken = all-join (IsCounted C) logged (Fails core ∷ []) t.spoken (
    λ l h. assumed-spoken (IsCounted C) [] logged (λ m i. absurd i) t.spoken l (subst (λ x. l ∈ x) (sym t.assumed) (within l h)),
    tt,
  );
  left = left-on logged (Fails core ∷ []) tt t.left;
  stays = λ e. stays_append logged (Fails core ∷ []) (t.stays e) tt;
}

-- a variable left
pub logged-left : {before after : ℕ → Type 0} (logged : List Entry) (P : List Clause) (A : List Literal) (C : List ℕ) (hidden : Bool) (v : ℕ) →
    (hidden ≡ false → ⊥) → ((i : ℕ) → after i ↔ (before i ⊎ (i ≡ v))) → IsWholeLog logged P A C hidden before →
    IsWholeLog (logged ++ Retires v ∷ []) P A C hidden after
logged-left logged P A C hidden v n gone t = record {
  accepted = accepted_append logged (Retires v ∷ []) ∙ append-nil (accepted_of logged) ∙ t.accepted;
  assumed = assumed-on logged (Retires v ∷ []) A A t.assumed refl;
  cores = cores-on logged (Retires v ∷ []) A t.assumed t.cores tt;
  spoken = all-join (IsCounted C) logged (Retires v ∷ []) t.spoken (tt, tt);
  left = λ i. (
    λ h. (gone i).1 (⊎_elim
        (λ a. inl ((t.left i).0 a))
        (λ a. ⊎_elim (λ q. inr (let z : Retires i ≡ Retires v = q in cc)) (λ z. absurd z) a)
        (∈-append_cases (Retires i) logged (Retires v ∷ []) h)),
    λ g. ⊎_elim
        (λ a. ∈-append_left (Retires i) logged (Retires v ∷ []) ((t.left i).1 a))
        (λ q. ∈-append_right (Retires i) logged (Retires v ∷ []) (inl (ap Retires q)))
        ((gone i).0 g),
  );
  stays = λ e. absurd (n e);
}

-- more identities are counted
pub logged-counted : {gone : ℕ → Type 0} (logged : List Entry) (P : List Clause) (A : List Literal) (C D : List ℕ) (hidden : Bool) → C ⊆ D →
    IsWholeLog logged P A C hidden gone → IsWholeLog logged P A D hidden gone
logged-counted logged P A C D hidden m t = record {
  accepted = t.accepted;
  assumed = t.assumed;
  cores = t.cores;
  spoken = all-wider (IsCounted C) (IsCounted D) logged (λ l h. m (variable_of l) h) t.spoken;
  left = t.left;
  stays = t.stays;
}

-- Lines under other names are over the identities that these lead to.
pub spoken-renamed : (are may : Literal → Type 0) (f : Literal → Literal) (lines : List Line) → ((l : Literal) → are l → may (f l)) →
    SpeakOf are lines → SpeakOf may (map (rename_line f) lines)
spoken-renamed are may f [] w p = tt
spoken-renamed are may f (Add c ∷ lines) w (s, p) =
    ((λ l h. let (m, i, e) = map-∈ f l c h in subst may (sym e) (w m (s m i))), spoken-renamed are may f lines w p)
spoken-renamed are may f (Delete c ∷ lines) w (s, p) =
    ((λ l h. let (m, i, e) = map-∈ f l c h in subst may (sym e) (w m (s m i))), spoken-renamed are may f lines w p)

-- Where nothing was accepted no line is logged that is over no variable: from nothing no contradiction follows, and none is there to be
-- deleted.
pub unspoken : (P : List Clause) (es : List Entry) (Q : List Clause) (a : Assignment) → SatisfiesAll a P → Leads P es Q → accepted_of es ≡ [] →
    SpeakOf (λ l. ⊥) (lines_of es) → lines_of es ≡ []
unspoken P [] Q a m d e s = refl
unspoken P (Accepts c ∷ es) Q a m d e s = absurd cc
unspoken P (Writes (Add []) ∷ es) Q a m (R, (f, q), d) e s = absurd (conflicts_sound P [] a m (λ l h. absurd h) f)
unspoken P (Writes (Add (l ∷ c)) ∷ es) Q a m d e (s, p) = absurd (s l (inl refl))
unspoken P (Writes (Delete []) ∷ es) Q a m (R, (front, x, back, i, o, f), d) e s =
    let (l, h, t) = m x (subst (λ y. x ∈ y) (sym i) (∈-append_right x front (x ∷ back) (inl refl))) in
    absurd (o.0 l h)
unspoken P (Writes (Delete (l ∷ c)) ∷ es) Q a m d e (s, p) = absurd (s l (inl refl))
unspoken P (Assumes b ∷ es) Q a m (R, q, d) e s = unspoken R es Q a (subst (SatisfiesAll a) (sym q) m) d e s
unspoken P (Fails core ∷ es) Q a m (R, (k, q), d) e s = unspoken R es Q a (subst (SatisfiesAll a) (sym q) m) d e s
unspoken P (Retires v ∷ es) Q a m (R, q, d) e s = unspoken R es Q a (subst (SatisfiesAll a) (sym q) (λ c h. m c (without_less v P c h))) d e s

-- all that is logged is that variables leave
abbrev pub OnlyLeave : List Entry → Type 0
OnlyLeave [] = Unit {0}
OnlyLeave (Retires v ∷ es) = OnlyLeave es
OnlyLeave (_ ∷ es) = ⊥

-- So it is where nothing was given and entries are over no variable.
pub only-leave : (P : List Clause) (es : List Entry) (Q : List Clause) (a : Assignment) → SatisfiesAll a P → Leads P es Q → accepted_of es ≡ [] →
    lists_of es ≡ [] → AllSpeakOf (λ l. ⊥) es → OnlyLeave es
only-leave P [] Q a m d n e s = tt
only-leave P (Accepts c ∷ es) Q a m d n e s = absurd cc
only-leave P (Writes (Add []) ∷ es) Q a m (R, (f, q), d) n e s = absurd (conflicts_sound P [] a m (λ l h. absurd h) f)
only-leave P (Writes (Add (l ∷ c)) ∷ es) Q a m d n e (s, rest) = absurd (s l (inl refl))
only-leave P (Writes (Delete []) ∷ es) Q a m (R, (front, x, back, i, o, f), d) n e s =
    let (l, h, t) = m x (subst (λ y. x ∈ y) (sym i) (∈-append_right x front (x ∷ back) (inl refl))) in
    absurd (o.0 l h)
only-leave P (Writes (Delete (l ∷ c)) ∷ es) Q a m d n e (s, rest) = absurd (s l (inl refl))
only-leave P (Assumes b ∷ es) Q a m d n e s = absurd cc
only-leave P (Fails [] ∷ es) Q a m (R, (f, q), d) n e s = absurd (conflicts_sound P [] a m (λ l h. absurd h) f)
only-leave P (Fails (l ∷ core) ∷ es) Q a m d n e (s, rest) = absurd (s l (inl refl))
only-leave P (Retires v ∷ es) Q a m (R, q, d) n e (s, rest) =
    only-leave R es Q a (subst (SatisfiesAll a) (sym q) (λ c h. m c (without_less v P c h))) d n e rest
