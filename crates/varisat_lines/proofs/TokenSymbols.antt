-- Lines, a symbol at a time: what the machine parses stands in the tokens.
use Rattle.std.proofs.Common.{◌≡◌, ℕ, zero, suc, ◌+◌, ◌-◌, List, [], ◌∷◌, ◌++◌, Bool, true, false, ◌==◌, if◌then◌else◌, flat_map, refl, sym, ap, subst, ◌∙◌, append_assoc, append-nil, ◌⊎◌, inl, inr, ⊎_elim, Option, Some, None, arith, rules}
use Rattle.std.proofs.lemmas.Bool.{eqb-true}
use Rattle.varisat_theory.specs.promises.Literals.{Clause}
use Rattle.varisat_lines.specs.declared.format.Encoding.{Encoding}
use Rattle.varisat_lines.specs.declared.format.LineKind.{LineKind}
use Rattle.varisat_lines.specs.declared.format.LineKind.TheVariants.{Adds, Deletes, Accepts, Assumes, Fails}
use Rattle.varisat_lines.specs.declared.format.Encoding.TheVariants.{Text, Binary}
use Rattle.varisat_lines.specs.declared.token.Symbol.{Symbol}
use Rattle.varisat_lines.specs.declared.token.Symbol.TheVariants.{Mark, Number, Cut, Bad}
use Rattle.varisat_lines.specs.declared.token.Event.{Event}
use Rattle.varisat_lines.specs.declared.token.Event.TheVariants.{More, Ended, Fault}
use Rattle.varisat_lines.specs.promises.Grammar.{Token, symbols, literal_symbols, mark_symbols, begun_symbols, line_symbols, is_some, is_kind, tag_kind, fits, IsBegunLine, IsCutOff, WrongToken, EndsInside}
use Rattle.varisat_lines.specs.promises.Lines.{ProofLine, line_of_kind, has_kind, HasKinds, letter_kind}
use Rattle.varisat_lines.specs.inside.Machine.{ParserState, Parsed, line_at, number_event, begin_event, begin_place, event, begin_line, after_number, moved, put, at_end, fault_offset, read, between}

-- 1. What a place has.
abbrev pub place_symbols : Encoding → ParserState → List Symbol
place_symbols f p = if p.inside then begun_symbols f (line_at p) else []

-- inside a line something was read
pub record IsClauseRef (f : Encoding) (p : ParserState) : Type 0 where
  pub some : is_some (place_symbols f p) ≡ p.inside
  pub has : has_kind f p.kind ≡ true

-- numbers
two_not_zero : (l : ℕ) → (l + 2 == 0) ≡ false
two_not_zero l = search rules

two_not_one : (l : ℕ) → (l + 2 == 1) ≡ false
two_not_one l = search rules

-- 0, 1, or a literal's
data Kind : ℕ → Type 0 where
  Stop : Kind 0
  One : Kind 1
  Code : (l : ℕ) → Kind (l + 2)

kind_of : (n : ℕ) → Kind n
kind_of zero = Stop
kind_of (suc zero) = One
kind_of (suc (suc l)) = let e : l + 2 ≡ suc (suc l) = omega arith in subst Kind e (Code l)

pub code_event : (l : ℕ) → number_event (l + 2) ≡ More
code_event l = ap (λ t. if t then Ended else (if l + 2 == 1 then Fault else More)) (two_not_zero l) ∙ ap (λ t. if t then Fault else More) (two_not_one l)

pub code_place : (p : ParserState) (l : ℕ) → after_number p (l + 2) ≡ record { inside = true; kind = p.kind; clause = p.clause ++ l ∷ [] }
code_place p l =
    let old : ParserState = record { inside = false; kind = p.kind; clause = p.clause } in
    let new : ParserState = record { inside = true; kind = p.kind; clause = p.clause ++ (l + 2 - 2) ∷ [] } in
    let e : l + 2 - 2 ≡ l = omega arith in
    let made : ℕ → ParserState = λ x. record { inside = true; kind = p.kind; clause = p.clause ++ x ∷ [] } in
    ap (λ t. if t then old else (if l + 2 == 1 then p else new)) (two_not_zero l) ∙ ap (λ t. if t then p else new) (two_not_one l) ∙ ap made e

literals_more : (c : Clause) (l : ℕ) → literal_symbols (c ++ l ∷ []) ≡ literal_symbols c ++ Number (l + 2) ∷ []
literals_more [] l = refl
literals_more (x ∷ c) l = ap (λ ss. Number (x + 2) ∷ ss) (literals_more c l)

begun_more : (f : Encoding) (d : LineKind) (c : Clause) (l : ℕ) →
    begun_symbols f (line_of_kind d (c ++ l ∷ [])) ≡ begun_symbols f (line_of_kind d c) ++ Number (l + 2) ∷ []
begun_more f d c l = ap (λ ss. mark_symbols f d ++ ss) (literals_more c l) ∙ sym (append_assoc (mark_symbols f d) (literal_symbols c) (Number (l + 2) ∷ []))

some_end : (ss : List Symbol) (s : Symbol) → is_some (ss ++ s ∷ []) ≡ true
some_end [] s = refl
some_end (x ∷ ss) s = refl

-- 2. What a symbol does.
-- more of a line was read
pub record Moves (f : Encoding) (p : ParserState) (s : Symbol) (q : ParserState) : Type 0 where
  pub symbols_are : place_symbols f q ≡ place_symbols f p ++ s ∷ []
  pub is_place : IsClauseRef f q

-- the line ended
pub record Closes (f : Encoding) (p : ParserState) (s : Symbol) (q : ParserState) : Type 0 where
  pub line_is : line_symbols f (line_at q) ≡ place_symbols f p ++ s ∷ []
  pub outside : q.inside ≡ false
  pub has : has_kind f q.kind ≡ true

-- the symbol does not fit
pub record Stops (f : Encoding) (p : ParserState) (s : Symbol) : Type 0 where
  pub why : ((s ≡ Cut) × (p.inside ≡ true)) ⊎ ((fits f (is_some (place_symbols f p)) s ≡ false) × ((at end : ℕ) → fault_offset p.inside s at end ≡ at))

abbrev Does : Encoding → ParserState → Symbol → Event → ParserState → Type 0
Does f p s More q = Moves f p s q
Does f p s Ended q = Closes f p s q
Does f p s Fault q = Stops f p s

abbrev pub at_place : Bool → LineKind → Clause → ParserState
at_place i d c = record { inside = i; kind = d; clause = c }

-- a number inside a line
code_moves : (f : Encoding) (d : LineKind) (c : Clause) (l : ℕ) → has_kind f d ≡ true →
    Moves f (at_place true d c) (Number (l + 2)) (at_place true d (c ++ l ∷ []))
code_moves f d c l k = record {
  symbols_are = begun_more f d c l;
  is_place = record { some = ap is_some (begun_more f d c l) ∙ some_end (begun_symbols f (line_of_kind d c)) (Number (l + 2)); has = k };
}

number_does : (f : Encoding) (d : LineKind) (c : Clause) (n : ℕ) → Kind n → IsClauseRef f (at_place true d c) →
    Does f (at_place true d c) (Number n) (number_event n) (after_number (at_place true d c) n)
number_does f d c _ Stop h = record { line_is = refl; outside = refl; has = h.has }
number_does f d c _ One h = record { why = inr (ap (λ t. fits f t (Number 1)) h.some ∙ refl, λ at end. refl) }
number_does f d c _ (Code l) h = let P : Event → ParserState → Type 0 = λ e q. Does f (at_place true d c) (Number (l + 2)) e q in
    subst (λ e. P e (after_number (at_place true d c) (l + 2))) (sym (code_event l))
    (subst (λ q. Moves f (at_place true d c) (Number (l + 2)) q) (sym (code_place (at_place true d c) l)) (code_moves f d c l h.has))

-- a number of text between two lines
first_does : (marked : Bool) (d : LineKind) (c : Clause) (n : ℕ) → Kind n →
    Does (Text marked) (at_place false d c) (Number n) (number_event n) (after_number (begin_line Adds) n)
first_does marked d c _ Stop = record { line_is = refl; outside = refl; has = refl }
first_does marked d c _ One = record { why = inr (refl, λ at end. refl) }
first_does marked d c _ (Code l) = let P : Event → ParserState → Type 0 = λ e q. Does (Text marked) (at_place false d c) (Number (l + 2)) e q in
    subst (λ e. P e (after_number (begin_line Adds) (l + 2))) (sym (code_event l))
    (subst (λ q. Moves (Text marked) (at_place false d c) (Number (l + 2)) q) (sym (code_place (begin_line Adds) l))
    (record { symbols_are = refl; is_place = record { some = refl; has = refl } }))

-- the kind is that of lines which begin with the symbol
record Begins (f : Encoding) (s : Symbol) (kind : LineKind) : Type 0 where
  symbols_are : mark_symbols f kind ≡ s ∷ []
  has : has_kind f kind ≡ true

kind_begins : (f : Encoding) (k kind : LineKind) (s : Symbol) → Some k ≡ Some kind → Begins f s k → Begins f s kind
kind_begins f k kind s e b = let h : k ≡ kind = cc in subst (λ x. Begins f s x) h b

tag_begins : (a b : Bool) (n : ℕ) (kind : LineKind) → (n == 97) ≡ a → (n == 100) ≡ b →
    (if a then Some Adds else (if b then Some Deletes else None)) ≡ Some kind → Begins Binary (Number n) kind
tag_begins true b n kind e g h = kind_begins Binary Adds kind (Number n) h
    (record { symbols_are = ap (λ m. Number m ∷ []) (sym (eqb-true n 97 e)); has = refl })
tag_begins false true n kind e g h = kind_begins Binary Deletes kind (Number n) h
    (record { symbols_are = ap (λ m. Number m ∷ []) (sym (eqb-true n 100 g)); has = refl })
tag_begins false false n kind e g h = absurd cc

mark_begins : (marked t u v w : Bool) (b : ℕ) (kind : LineKind) → (b == 100) ≡ t → (b == 105) ≡ u → (b == 113) ≡ v → (b == 102) ≡ w →
    (if t then Some Deletes else (if marked then (if u then Some
    Accepts else (if v then Some Assumes else (if w then Some Fails else None))) else None)) ≡ Some kind → Begins (Text marked) (Mark b) kind
mark_begins marked true u v w b kind e f g h k = kind_begins (Text marked) Deletes kind (Mark b) k
    (record { symbols_are = ap (λ m. Mark m ∷ []) (sym (eqb-true b 100 e)); has = refl })
mark_begins false false u v w b kind e f g h k = absurd cc
mark_begins true false true v w b kind e f g h k = kind_begins (Text true) Accepts kind (Mark b) k
    (record { symbols_are = ap (λ m. Mark m ∷ []) (sym (eqb-true b 105 f)); has = refl })
mark_begins true false false true w b kind e f g h k = kind_begins (Text true) Assumes kind (Mark b) k
    (record { symbols_are = ap (λ m. Mark m ∷ []) (sym (eqb-true b 113 g)); has = refl })
mark_begins true false false false true b kind e f g h k = kind_begins (Text true) Fails kind (Mark b) k
    (record { symbols_are = ap (λ m. Mark m ∷ []) (sym (eqb-true b 102 h)); has = refl })
mark_begins true false false false false b kind e f g h k = absurd cc

-- a symbol between two lines, by the kind that it begins
begin_does : (f : Encoding) (k : Option LineKind) (d : LineKind) (c : Clause) (s : Symbol) → ((kind : LineKind) → k ≡ Some kind → Begins f s kind) →
    fits f false s ≡ is_kind k → ((at end : ℕ) → fault_offset false s at end ≡ at) →
    Does f (at_place false d c) s (begin_event k) (begin_place k (at_place false d c))
begin_does f None d c s b e o = record { why = inr (e, o) }
begin_does f (Some kind) d c s b e o =
    let w = b kind refl in
    let h : begun_symbols f (line_of_kind kind []) ≡ s ∷ [] = append-nil (mark_symbols f kind) ∙ w.symbols_are in
    record { symbols_are = h; is_place = record { some = ap is_some h; has = w.has } }

symbol_does : (f : Encoding) (i : Bool) (d : LineKind) (c : Clause) (s : Symbol) → IsClauseRef f (at_place i d c) →
    Does f (at_place i d c) s (event f i s) (moved f (at_place i d c) s)
symbol_does (Text marked) true d c (Mark b) h = record { why = inr (ap (λ t. fits (Text marked) t (Mark b)) h.some ∙ refl, λ at end. refl) }
symbol_does (Text marked) false d c (Mark b) h = begin_does (Text marked) (letter_kind marked b) d c (Mark b)
    (λ kind e. mark_begins marked (b == 100) (b == 105) (b == 113) (b == 102) b kind refl refl refl refl e) refl (λ at end. refl)
symbol_does (Text marked) true d c (Number n) h = number_does (Text marked) d c n (kind_of n) h
symbol_does (Text marked) false d c (Number n) h = first_does marked d c n (kind_of n)
symbol_does Binary true d c (Mark b) h = record { why = inr (ap (λ t. fits Binary t (Mark b)) h.some ∙ refl, λ at end. refl) }
symbol_does Binary false d c (Mark b) h = record { why = inr (refl, λ at end. refl) }
symbol_does Binary true d c (Number n) h = number_does Binary d c n (kind_of n) h
symbol_does Binary false d c (Number n) h = begin_does Binary (tag_kind n) d c (Number n) (λ kind e. tag_begins (n == 97) (n == 100) n kind refl refl e)
    refl (λ at end. refl)
symbol_does f true d c Cut h = record { why = inl (refl, refl) }
symbol_does f false d c Cut h = record { why = inr (unfit f, λ at end. refl) }
  where
    unfit : (f : Encoding) → fits f false Cut ≡ false
    unfit (Text marked) = refl
    unfit Binary = refl
symbol_does f true d c Bad h = record { why = inr (ap (λ t. fits f t Bad) h.some ∙ refl, λ at end. refl) }
symbol_does f false d c Bad h = record { why = inr (unfit f, λ at end. refl) }
  where
    unfit : (f : Encoding) → fits f false Bad ≡ false
    unfit (Text marked) = refl
    unfit Binary = refl

-- 3. What is parsed is so. In front of the tokens stands what the place has.
record WrongFrom (f : Encoding) (pre : List Symbol) (us : List Token) (lines : List ProofLine) (offset : ℕ) : Type 0 where
  front : List Token
  token : Token
  back : List Token
  tokens_are : us ≡ front ++ token ∷ back
  has_kinds : HasKinds f lines
  begun : List Symbol
  is_begun : IsBegunLine f begun
  says : pre ++ symbols front ≡ flat_map (line_symbols f) lines ++ begun
  wrong : fits f (is_some begun) token.symbol ≡ false
  offset_is : offset ≡ token.at

record EndsFrom (f : Encoding) (pre : List Symbol) (us : List Token) (lines : List ProofLine) : Type 0 where
  front : List Token
  back : List Token
  tokens_are : us ≡ front ++ back
  has_kinds : HasKinds f lines
  cut : IsCutOff back
  begun : List Symbol
  is_begun : IsBegunLine f begun
  some : is_some begun ≡ true
  says : pre ++ symbols front ≡ flat_map (line_symbols f) lines ++ begun

abbrev SoFrom : Encoding → ℕ → List Symbol → List Token → List ProofLine → Option ℕ → Type 0
SoFrom f end pre us lines None = HasKinds f lines × (pre ++ symbols us ≡ flat_map (line_symbols f) lines)
SoFrom f end pre us lines (Some o) = WrongFrom f pre us lines o ⊎ (EndsFrom f pre us lines × (o ≡ end))

abbrev So : Encoding → ℕ → List Symbol → List Token → Parsed → Type 0
So f end pre us t = SoFrom f end pre us t.lines t.fault

place_begun : (f : Encoding) (i : Bool) (d : LineKind) (c : Clause) → has_kind f d ≡ true → IsBegunLine f (place_symbols f (at_place i d c))
place_begun f true d c k = inr (line_at (at_place true d c), refl, k)
place_begun f false d c k = inl refl

-- One token more in front of what was read, whatever lines that changes: `says` tells so of the symbols read up to any of the tokens.
so_front : (f : Encoding) (end : ℕ) (pre mid : List Symbol) (u : Token) (us : List Token) (old new : List ProofLine) (fault : Option ℕ) →
    ((ss begun : List Symbol) → mid ++ ss ≡ flat_map (line_symbols f) old ++ begun → pre ++ u.symbol ∷ ss ≡ flat_map (line_symbols f) new ++ begun) →
    (HasKinds f old → HasKinds f new) → SoFrom f end mid us old fault → SoFrom f end pre (u ∷ us) new fault
so_front f end pre mid u us old new None says has h = (
  has h.0,
  says (symbols us) [] (h.1 ∙ sym (append-nil (flat_map (line_symbols f) old))) ∙
      append-nil (flat_map (line_symbols f) new),
)
so_front f end pre mid u us old new (Some o) says has (inl w) = inl (record {
  front = u ∷ w.front;
  token = w.token;
  back = w.back;
  tokens_are = ap (λ x. u ∷ x) w.tokens_are;
  has_kinds = has w.has_kinds;
  begun = w.begun;
  is_begun = w.is_begun;
  says = says (symbols w.front) w.begun w.says;
  wrong = w.wrong;
  offset_is = w.offset_is;
})
so_front f end pre mid u us old new (Some o) says has (inr w) = inr (
  record {
    front = u ∷ w.0.front;
    back = w.0.back;
    tokens_are = ap (λ x. u ∷ x) w.0.tokens_are;
    has_kinds = has w.0.has_kinds;
    cut = w.0.cut;
    begun = w.0.begun;
    is_begun = w.0.is_begun;
    some = w.0.some;
    says = says (symbols w.0.front) w.0.begun w.0.says;
  },
  w.1,
)

-- a symbol that was read goes into the front
so_more : (f : Encoding) (end : ℕ) (pre mid : List Symbol) (u : Token) (us : List Token) (lines : List ProofLine) (fault : Option ℕ) →
    mid ≡ pre ++ u.symbol ∷ [] → SoFrom f end mid us lines fault → SoFrom f end pre (u ∷ us) lines fault
so_more f end pre mid u us lines fault e h =
    so_front f end pre mid u us lines lines fault (λ ss begun w. sym (append_assoc pre (u.symbol ∷ []) ss) ∙ ap (λ x. x ++ ss) (sym e) ∙ w) (λ k. k) h

-- a line that ended goes in front
so_line : (f : Encoding) (end : ℕ) (pre : List Symbol) (u : Token) (us : List Token) (line : ProofLine) (lines : List ProofLine) (fault : Option ℕ) →
    line_symbols f line ≡ pre ++ u.symbol ∷ [] → has_kind f line.kind ≡ true → SoFrom f end [] us lines fault →
    SoFrom f end pre (u ∷ us) (line ∷ lines) fault
so_line f end pre u us line lines fault e kind h =
    so_front f end pre [] u us lines (line ∷ lines) fault (λ ss begun w. sym (append_assoc pre (u.symbol ∷ []) ss) ∙ ap (λ x. x ++ ss) (sym e) ∙
    ap (λ x. line_symbols f line ++ x) w ∙ sym (append_assoc (line_symbols f line) (flat_map (line_symbols f) lines) begun)) (λ k. (kind, k)) h

outside_signs : (f : Encoding) (p : ParserState) → p.inside ≡ false → has_kind f p.kind ≡ true → (place_symbols f p ≡ []) × IsClauseRef f p
outside_signs f p e k = let h : place_symbols f p ≡ [] = ap (λ t. if t then begun_symbols f (line_at p) else []) e in
    (h, record { some = ap is_some h ∙ sym e; has = k })

inside_begun : (f : Encoding) (p : ParserState) → has_kind f p.kind ≡ true → IsBegunLine f (place_symbols f p)
inside_begun f p k = place_begun f p.inside p.kind p.clause k

so_step : (f : Encoding) (end : ℕ) (p q : ParserState) (u : Token) (us : List Token) (e : Event) (t : Parsed) → IsClauseRef f p → Does f p u.symbol e q →
    (IsClauseRef f q → So f end (place_symbols f q) us t) →
    So f end (place_symbols f p) (u ∷ us) (put e (line_at q) (fault_offset p.inside u.symbol u.at end) t)
so_step f end p q u us More t h d k = so_more f end (place_symbols f p) (place_symbols f q) u us t.lines t.fault d.symbols_are (k d.is_place)
so_step f end p q u us Ended t h d k = let o = outside_signs f q d.outside d.has in
    so_line f end (place_symbols f p) u us (line_at q) t.lines t.fault d.line_is d.has (subst (λ x. So f end x us t) o.0 (k o.1))
so_step f end p q u us Fault t h d k = ⊎_elim cut_off wrong d.why
  where
    cut_off : (u.symbol ≡ Cut) × (p.inside ≡ true) → So f end (place_symbols f p) (u ∷ us) (put Fault (line_at q) (fault_offset p.inside u.symbol u.at end) t)
    cut_off w = inr (
      record {
        front = [];
        back = u ∷ us;
        tokens_are = refl;
        has_kinds = tt;
        cut = w.0;
        begun = place_symbols f p;
        is_begun = inside_begun f p h.has;
        some = h.some ∙ w.1;
        says = append-nil (place_symbols f p);
      },
      ap (λ s. fault_offset p.inside s u.at end) w.0 ∙ ap (λ i. if i then end else u.at) w.1,
    )

    wrong : (fits f (is_some (place_symbols f p)) u.symbol ≡ false) × ((at end : ℕ) → fault_offset p.inside u.symbol at end ≡ at) →
        So f end (place_symbols f p) (u ∷ us) (put Fault (line_at q) (fault_offset p.inside u.symbol u.at end) t)
    wrong w = inl (record {
      front = [];
      token = u;
      back = us;
      tokens_are = refl;
      has_kinds = tt;
      begun = place_symbols f p;
      is_begun = inside_begun f p h.has;
      says = append-nil (place_symbols f p);
      wrong = w.0;
      offset_is = w.1 u.at end;
    })

so_end : (f : Encoding) (end : ℕ) (i : Bool) (d : LineKind) (c : Clause) → IsClauseRef f (at_place i d c) →
    So f end (place_symbols f (at_place i d c)) [] (at_end end (at_place i d c))
so_end f end true d c h = inr (
  record {
    front = [];
    back = [];
    tokens_are = refl;
    has_kinds = tt;
    cut = tt;
    begun = place_symbols f (at_place true d c);
    is_begun = place_begun f true d c h.has;
    some = h.some;
    says = append-nil (place_symbols f (at_place true d c));
  },
  refl,
)
so_end f end false d c h = (tt, refl)

sound : (f : Encoding) (end : ℕ) (us : List Token) (p : ParserState) → IsClauseRef f p → So f end (place_symbols f p) us (read f end p us)
sound f end [] p h = so_end f end p.inside p.kind p.clause h
sound f end (u ∷ us) p h =
    so_step f end p (moved f p u.symbol) u us (event f p.inside u.symbol) (read f end (moved f p u.symbol) us) h
    (symbol_does f p.inside p.kind p.clause u.symbol h) (λ k. sound f end us (moved f p u.symbol) k)

-- what the definitions say of the tokens
abbrev pub Logs : Encoding → List Token → ℕ → List ProofLine → Option ℕ → Type 0
Logs f us end lines None = HasKinds f lines × (symbols us ≡ flat_map (line_symbols f) lines)
Logs f us end lines (Some o) = WrongToken f us lines o ⊎ (EndsInside f us lines × (o ≡ end))

-- what is parsed of tokens is so
so_means : (f : Encoding) (us : List Token) (end : ℕ) (lines : List ProofLine) (fault : Option ℕ) → SoFrom f end [] us lines fault → Logs f us end lines fault
so_means f us end lines None h = h
so_means f us end lines (Some o) (inl w) = inl
    (record {
      front = w.front;
      token = w.token;
      back = w.back;
      tokens_are = w.tokens_are;
      has_kinds = w.has_kinds;
      begun = w.begun;
      is_begun = w.is_begun;
      says = w.says;
      wrong = w.wrong;
      offset_is = w.offset_is;
    })
so_means f us end lines (Some o) (inr w) = inr (
  record {
    front = w.0.front;
    back = w.0.back;
    tokens_are = w.0.tokens_are;
    has_kinds = w.0.has_kinds;
    cut = w.0.cut;
    begun = w.0.begun;
    is_begun = w.0.is_begun;
    some = w.0.some;
    says = w.0.says;
  },
  w.1,
)

pub sound_parsed : (f : Encoding) (us : List Token) (end : ℕ) → Logs f us end (read f end between us).lines (read f end between us).fault
sound_parsed f us end = let t = read f end between us in so_means f us end t.lines t.fault (sound f end us between (record { some = refl; has = refl }))
