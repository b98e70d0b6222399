-- Units that say the lines are read as them.
use Rattle.std.proofs.Common.{◌≡◌, ℕ, ◌+◌, List, [], ◌∷◌, ◌++◌, Bool, true, false, not, ◌==◌, if◌then◌else◌, flat_map, refl, sym, ap, subst, ◌∙◌, append_assoc, append-nil, inl, inr, Option, Some, None}
use Rattle.std.proofs.lemmas.Bool.{not-false, eqb-true}
use Rattle.varisat_theory.specs.promises.Literals.{Clause}
use Rattle.varisat_lines.specs.declared.format.Encoding.{Encoding}
use Rattle.varisat_lines.specs.declared.format.LineKind.{LineKind}
use Rattle.varisat_lines.specs.declared.format.LineKind.TheVariants.{Adds, Deletes, Accepts, Assumes, Fails}
use Rattle.varisat_lines.specs.declared.format.Encoding.TheVariants.{Text, Binary}
use Rattle.varisat_lines.specs.declared.token.Symbol.{Symbol}
use Rattle.varisat_lines.specs.declared.token.Symbol.TheVariants.{Mark, Number, Cut, Bad}
use Rattle.varisat_lines.specs.declared.token.Event.TheVariants.{Fault}
use Rattle.varisat_lines.specs.promises.Lines.{ProofLine, line_of_kind, has_kind, HasKinds, letter, letter_kind}
use Rattle.varisat_lines.specs.promises.Grammar.{Token, symbols, literal_symbols, begun_symbols, line_symbols, is_some, is_kind, tag_kind, fits, IsBegunLine, IsCutOff, WrongToken, EndsInside, tokens, end_of}
use Rattle.varisat_lines.specs.inside.Machine.{ParserState, Parsed, line_at, number_event, begin_event, begin_place, event, begin_line, after_number, moved, put, fault_offset, read, between, parsed}
use Rattle.varisat_lines.specs.promises.Means.{Means, BytesMean}
use Rattle.varisat_lines.proofs.TokenSymbols.{code_event, code_place, at_place, Logs, sound_parsed}
use Rattle.varisat_lines.proofs.MachineTokens.{parsed_is}

abbrev with_lines : List ProofLine → Parsed → Parsed
with_lines ls t = record { lines = ls ++ t.lines; fault = t.fault }

-- what the first token says
record First (front : List Token) (s : Symbol) (ss : List Symbol) : Type 0 where
  token : Token
  rest : List Token
  are : front ≡ token ∷ rest
  symbol : token.symbol ≡ s
  says : symbols rest ≡ ss

first_of : (front : List Token) (s : Symbol) (ss : List Symbol) → symbols front ≡ s ∷ ss → First front s ss
first_of [] s ss e = absurd cc
first_of (u ∷ us) s ss e = record { token = u; rest = us; are = refl; symbol = cc; says = cc }

none_of : (front : List Token) → symbols front ≡ [] → front ≡ []
none_of [] e = refl
none_of (u ∷ us) e = absurd cc

-- a token by its symbol
abbrev read_by : Encoding → ℕ → ParserState → Symbol → ℕ → List Token → Parsed
read_by f end p s at us = put (event f p.inside s) (line_at (moved f p s)) (fault_offset p.inside s at end) (read f end (moved f p s) us)

code_read : (f : Encoding) (end : ℕ) (d : LineKind) (c : Clause) (l : ℕ) (u : Token) (us : List Token) → u.symbol ≡ Number (l + 2) →
    read f end (at_place true d c) (u ∷ us) ≡ read f end (at_place true d (c ++ l ∷ [])) us
code_read (Text marked) end d c l u us e =
    ap (λ s. read_by (Text marked) end (at_place true d c) s u.at us) e
    ∙ ap (λ ev. put ev (line_at (after_number (at_place true d c) (l + 2))) u.at (read (Text marked) end (after_number (at_place true d c) (l + 2)) us))
    (code_event l)
    ∙ ap (λ q. read (Text marked) end q us) (code_place (at_place true d c) l)
code_read Binary end d c l u us e =
    ap (λ s. read_by Binary end (at_place true d c) s u.at us) e
    ∙ ap (λ ev. put ev (line_at (after_number (at_place true d c) (l + 2))) u.at (read Binary end (after_number (at_place true d c) (l + 2)) us)) (code_event l)
    ∙ ap (λ q. read Binary end q us) (code_place (at_place true d c) l)

stop_read : (f : Encoding) (end : ℕ) (d : LineKind) (c : Clause) (u : Token) (us : List Token) → u.symbol ≡ Number 0 →
    read f end (at_place true d c) (u ∷ us) ≡ with_lines (line_at (at_place true d c) ∷ []) (read f end (at_place false d c) us)
stop_read (Text marked) end d c u us e = ap (λ s. read_by (Text marked) end (at_place true d c) s u.at us) e
stop_read Binary end d c u us e = ap (λ s. read_by Binary end (at_place true d c) s u.at us) e

open_read : (marked : Bool) (end : ℕ) (d : LineKind) (c : Clause) (n : ℕ) (u : Token) (us : List Token) → u.symbol ≡ Number n →
    read (Text marked) end (at_place false d c) (u ∷ us) ≡ read (Text marked) end (begin_line Adds) (u ∷ us)
open_read marked end d c n u us e = ap (λ s. read_by (Text marked) end (at_place false d c) s u.at us) e ∙
    sym (ap (λ s. read_by (Text marked) end (begin_line Adds) s u.at us) e)

-- a symbol in front of a line that begins the kind
begun_read : (f : Encoding) (end : ℕ) (d kind : LineKind) (c : Clause) (k : Option LineKind) (s : Symbol) (u : Token) (us : List Token) →
    event f false s ≡ begin_event k → moved f (at_place false d c) s ≡ begin_place k (at_place false d c) → k ≡ Some kind → u.symbol ≡ s →
    read f end (at_place false d c) (u ∷ us) ≡ read f end (begin_line kind) us
begun_read f end d kind c k s u us v m h e =
    let at = at_place false d c in
    ap (λ x. read_by f end at x u.at us) e
    ∙ ap (λ x. put x (line_at (moved f at s)) (fault_offset false s u.at end) (read f end (moved f at s) us)) (v ∙ ap begin_event h)
    ∙ ap (λ q. read f end q us) (m ∙ ap (λ x. begin_place x at) h)

mark_read : (marked : Bool) (end : ℕ) (d kind : LineKind) (c : Clause) (u : Token) (us : List Token) → letter_kind marked (letter kind) ≡ Some kind →
    u.symbol ≡ Mark (letter kind) → read (Text marked) end (at_place false d c) (u ∷ us) ≡ read (Text marked) end (begin_line kind) us
mark_read marked end d kind c u us h e = begun_read (Text marked) end d kind c (letter_kind marked (letter kind)) (Mark (letter kind)) u us refl refl h e

tag_read : (end : ℕ) (d kind : LineKind) (c : Clause) (u : Token) (us : List Token) → tag_kind (letter kind) ≡ Some kind →
    u.symbol ≡ Number (letter kind) → read Binary end (at_place false d c) (u ∷ us) ≡ read Binary end (begin_line kind) us
tag_read end d kind c u us h e = begun_read Binary end d kind c (tag_kind (letter kind)) (Number (letter kind)) u us refl refl h e

-- the tokens in front are read from one place to another; behind them the rest says S
record Consumed (f : Encoding) (end : ℕ) (p : ParserState) (front : List Token) (S : List Symbol) (lines : List ProofLine) (q : ParserState) : Type 0 where
  rest : List Token
  says : symbols rest ≡ S
  reads : (more : List Token) → read f end p (front ++ more) ≡ with_lines lines (read f end q (rest ++ more))

consumed_none : (f : Encoding) (end : ℕ) (p : ParserState) (front : List Token) (S : List Symbol) → symbols front ≡ S → Consumed f end p front S [] p
consumed_none f end p front S e = record { rest = front; says = e; reads = λ more. refl }

consumed_then : (f : Encoding) (end : ℕ) (p q r : ParserState) (front : List Token) (S T : List Symbol) (ls ms : List ProofLine) →
    (a : Consumed f end p front S ls q) → Consumed f end q a.rest T ms r → Consumed f end p front T (ls ++ ms) r
consumed_then f end p q r front S T ls ms a b = record {
  rest = b.rest;
  says = b.says;
  reads = λ more. a.reads more ∙ ap (λ t. with_lines ls t) (b.reads more) ∙
      ap (λ x. let made : Parsed = record { lines = x; fault = (read f end r (b.rest ++ more)).fault } in made)
      (sym (append_assoc ls ms (read f end r (b.rest ++ more)).lines));
}

-- one token
consumed_one : (f : Encoding) (end : ℕ) (p q : ParserState) (front : List Token) (s : Symbol) (S : List Symbol) (ls : List ProofLine) → symbols front ≡ s ∷ S →
    ((u : Token) (us : List Token) → u.symbol ≡ s → read f end p (u ∷ us) ≡ with_lines ls (read f end q us)) → Consumed f end p front S ls q
consumed_one f end p q front s S ls e h =
    let w = first_of front s S e in
    record { rest = w.rest; says = w.says; reads = λ more. ap (λ x. read f end p (x ++ more)) w.are ∙ h w.token (w.rest ++ more) w.symbol }

consume_clause : (f : Encoding) (end : ℕ) (d : LineKind) (c done : Clause) (front : List Token) (S : List Symbol) →
    symbols front ≡ literal_symbols c ++ S → Consumed f end (at_place true d done) front S [] (at_place true d (done ++ c))
consume_clause f end d [] done front S e = subst (λ x. Consumed f end (at_place true d done) front S [] (at_place true d x)) (sym (append-nil done))
    (consumed_none f end (at_place true d done) front S e)
consume_clause f end d (l ∷ c) done front S e =
    let one = consumed_one f end (at_place true d done) (at_place true d (done ++ l ∷ [])) front (Number (l + 2)) (literal_symbols c ++ S) [] e
    (λ u us g. code_read f end d done l u us g) in
    let two = consume_clause f end d c (done ++ l ∷ []) one.rest S one.says in
    subst (λ x. Consumed f end (at_place true d done) front S [] (at_place true d x)) (append_assoc done (l ∷ []) c)
    (consumed_then f end (at_place true d done) (at_place true d (done ++ l ∷ [])) (at_place true d ((done ++ l ∷ []) ++ c)) front (literal_symbols c ++ S)
    S [] [] one two)

consume_tail : (f : Encoding) (end : ℕ) (d : LineKind) (c : Clause) (front : List Token) (S : List Symbol) →
    symbols front ≡ (literal_symbols c ++ Number 0 ∷ []) ++ S → Consumed f end (begin_line d) front S (line_at (at_place true d c) ∷ [])
    (at_place false d c)
consume_tail f end d c front S e =
    let one = consume_clause f end d c [] front (Number 0 ∷ S) (e ∙ append_assoc (literal_symbols c) (Number 0 ∷ []) S) in
    let two = consumed_one f end (at_place true d c) (at_place false d c) one.rest (Number 0) S (line_at (at_place true d c) ∷ []) one.says
    (λ u us g. stop_read f end d c u us g) in
    consumed_then f end (begin_line d) (at_place true d c) (at_place false d c) front (Number 0 ∷ S) S [] (line_at (at_place true d c) ∷ []) one two

-- a number opens a line of text
opened : (marked : Bool) (end : ℕ) (d : LineKind) (c : Clause) (front : List Token) (n : ℕ) (ss S : List Symbol) (ls : List ProofLine) (q : ParserState) →
    symbols front ≡ Number n ∷ ss → Consumed (Text marked) end (begin_line Adds) front S ls q →
    Consumed (Text marked) end (at_place false d c) front S ls q
opened marked end d c front n ss S ls q e a =
    let w = first_of front (Number n) ss e in
    record {
      rest = a.rest;
      says = a.says;
      reads = λ more. ap (λ x. read (Text marked) end (at_place false d c) (x ++ more)) w.are ∙
          open_read marked end d c n w.token (w.rest ++ more) w.symbol ∙ sym (ap (λ x. read (Text marked) end (begin_line Adds) (x ++ more)) w.are) ∙
          a.reads more;
    }

opened_tail : (marked : Bool) (end : ℕ) (d : LineKind) (c : Clause) (k : Clause) (front : List Token) (T S : List Symbol) (ls : List ProofLine)
    (q : ParserState) → symbols front ≡ (literal_symbols k ++ Number 0 ∷ []) ++ T → Consumed (Text marked) end (begin_line Adds) front S ls q →
    Consumed (Text marked) end (at_place false d c) front S ls q
opened_tail marked end d c [] front T S ls q e a = opened marked end d c front 0 T S ls q e a
opened_tail marked end d c (l ∷ k) front T S ls q e a = opened marked end d c front (l + 2) ((literal_symbols k ++ Number 0 ∷ []) ++ T) S ls q e a

marked_line : (f : Encoding) (end : ℕ) (d dels : LineKind) (c k : Clause) (front : List Token) (s : Symbol) (S : List Symbol) →
    symbols front ≡ (s ∷ literal_symbols k ++ Number 0 ∷ []) ++ S →
    ((u : Token) (us : List Token) → u.symbol ≡ s → read f end (at_place false d c) (u ∷ us) ≡ read f end (begin_line dels) us) →
    Consumed f end (at_place false d c) front S (line_at (at_place true dels k) ∷ []) (at_place false dels k)
marked_line f end d dels c k front s S e h =
    let one = consumed_one f end (at_place false d c) (begin_line dels) front s ((literal_symbols k ++ Number 0 ∷ []) ++ S) [] e h in
    let two = consume_tail f end dels k one.rest S one.says in
    consumed_then f end (at_place false d c) (begin_line dels) (at_place false dels k) front ((literal_symbols k ++ Number 0 ∷ []) ++ S) S []
    (line_at (at_place true dels k) ∷ []) one two

-- a line, from between two lines to between two lines
record LineConsumed (f : Encoding) (end : ℕ) (d : LineKind) (c : Clause) (front : List Token) (S : List Symbol) (lines : List ProofLine) : Type 0 where
  kind : LineKind
  clause : Clause
  consumed : Consumed f end (at_place false d c) front S lines (at_place false kind clause)

-- a line with a mark or a tag
consume_marked : (f : Encoding) (end : ℕ) (d kind : LineKind) (c k : Clause) (front : List Token) (s : Symbol) (S : List Symbol) →
    symbols front ≡ (s ∷ literal_symbols k ++ Number 0 ∷ []) ++ S →
    ((u : Token) (us : List Token) → u.symbol ≡ s → read f end (at_place false d c) (u ∷ us) ≡ read f end (begin_line kind) us) →
    LineConsumed f end d c front S (line_of_kind kind k ∷ [])
consume_marked f end d kind c k front s S e h = record { kind = kind; clause = k; consumed = marked_line f end d kind c k front s S e h }

consume_kind : (f : Encoding) (end : ℕ) (d : LineKind) (c : Clause) (kind : LineKind) (k : Clause) (front : List Token) (S : List Symbol) →
    has_kind f kind ≡ true → symbols front ≡ line_symbols f (line_of_kind kind k) ++ S → LineConsumed f end d c front S (line_of_kind kind k ∷ [])
consume_kind (Text marked) end d c Adds k front S h e = record {
  kind = Adds;
  clause = k;
  consumed = opened_tail marked end d c k front S S (line_of_kind Adds k ∷ []) (at_place false Adds k) e
      (consume_tail (Text marked) end Adds k front S e);
}
consume_kind (Text marked) end d c Deletes k front S h e = consume_marked (Text marked) end d Deletes c k front (Mark 100) S e
    (λ u us g. mark_read marked end d Deletes c u us refl g)
consume_kind (Text marked) end d c Accepts k front S h e = consume_marked (Text marked) end d Accepts c k front (Mark 105) S e
    (λ u us g. mark_read marked end d Accepts c u us (ap (λ t. letter_kind t 105) h) g)
consume_kind (Text marked) end d c Assumes k front S h e = consume_marked (Text marked) end d Assumes c k front (Mark 113) S e
    (λ u us g. mark_read marked end d Assumes c u us (ap (λ t. letter_kind t 113) h) g)
consume_kind (Text marked) end d c Fails k front S h e = consume_marked (Text marked) end d Fails c k front (Mark 102) S e
    (λ u us g. mark_read marked end d Fails c u us (ap (λ t. letter_kind t 102) h) g)
consume_kind Binary end d c Adds k front S h e = consume_marked Binary end d Adds c k front (Number 97) S e (λ u us g. tag_read end d Adds c u us refl g)
consume_kind Binary end d c Deletes k front S h e = consume_marked Binary end d Deletes c k front (Number 100) S e
    (λ u us g. tag_read end d Deletes c u us refl g)
consume_kind Binary end d c Accepts k front S h e = absurd cc
consume_kind Binary end d c Assumes k front S h e = absurd cc
consume_kind Binary end d c Fails k front S h e = absurd cc

consume_lines : (f : Encoding) (end : ℕ) (lines : List ProofLine) (d : LineKind) (c : Clause) (front : List Token) (S : List Symbol) → HasKinds f lines →
    symbols front ≡ flat_map (line_symbols f) lines ++ S → LineConsumed f end d c front S lines
consume_lines f end [] d c front S h e = record { kind = d; clause = c; consumed = consumed_none f end (at_place false d c) front S e }
consume_lines f end (line ∷ lines) d c front S h e =
    let one = consume_kind f end d c line.kind line.clause front (flat_map (line_symbols f) lines ++ S) h.0
    (e ∙ append_assoc (line_symbols f line) (flat_map (line_symbols f) lines) S) in
    let two = consume_lines f end lines one.kind one.clause one.consumed.rest S h.1 one.consumed.says in
    record {
      kind = two.kind;
      clause = two.clause;
      consumed = consumed_then f end (at_place false d c) (at_place false one.kind one.clause) (at_place false two.kind two.clause) front
          (flat_map (line_symbols f) lines ++ S) S (line ∷ []) lines one.consumed two.consumed;
    }

-- the beginning of a line
record BegunConsumed (f : Encoding) (end : ℕ) (d : LineKind) (c : Clause) (front : List Token) (begun : List Symbol) : Type 0 where
  place : ParserState
  inside_is : place.inside ≡ is_some begun
  consumed : Consumed f end (at_place false d c) front [] [] place

begun_mark : (f : Encoding) (end : ℕ) (d dels : LineKind) (c k : Clause) (front : List Token) (s : Symbol) → symbols front ≡ s ∷ literal_symbols k →
    ((u : Token) (us : List Token) → u.symbol ≡ s → read f end (at_place false d c) (u ∷ us) ≡ read f end (begin_line dels) us) →
    BegunConsumed f end d c front (s ∷ literal_symbols k)
begun_mark f end d dels c k front s e h =
    let one = consumed_one f end (at_place false d c) (begin_line dels) front s (literal_symbols k) [] e h in
    let two = consume_clause f end dels k [] one.rest [] (one.says ∙ sym (append-nil (literal_symbols k))) in
    record {
      place = at_place true dels k;
      inside_is = refl;
      consumed = consumed_then f end (at_place false d c) (begin_line dels) (at_place true dels k)
          front (literal_symbols k) [] [] [] one two;
    }

consume_begun_kind : (f : Encoding) (end : ℕ) (d : LineKind) (c : Clause) (kind : LineKind) (k : Clause) (front : List Token) → has_kind f kind ≡ true →
    symbols front ≡ begun_symbols f (line_of_kind kind k) → BegunConsumed f end d c front (begun_symbols f (line_of_kind kind k))
consume_begun_kind (Text marked) end d c Adds [] front h e = record
    { place = at_place false d c; inside_is = refl; consumed = consumed_none (Text marked) end (at_place false d c) front [] e }
consume_begun_kind (Text marked) end d c Adds (l ∷ k) front h e =
    let two = consume_clause (Text marked) end Adds (l ∷ k) [] front [] (e ∙ sym (append-nil (literal_symbols (l ∷ k)))) in
    record {
      place = at_place true Adds (l ∷ k);
      inside_is = refl;
      consumed = opened marked end d c front (l + 2) (literal_symbols k) [] []
          (at_place true Adds (l ∷ k)) e two;
    }
consume_begun_kind (Text marked) end d c Deletes k front h e = begun_mark (Text marked) end d Deletes c k front (Mark 100) e
    (λ u us g. mark_read marked end d Deletes c u us refl g)
consume_begun_kind (Text marked) end d c Accepts k front h e = begun_mark (Text marked) end d Accepts c k front (Mark 105) e
    (λ u us g. mark_read marked end d Accepts c u us (ap (λ t. letter_kind t 105) h) g)
consume_begun_kind (Text marked) end d c Assumes k front h e = begun_mark (Text marked) end d Assumes c k front (Mark 113) e
    (λ u us g. mark_read marked end d Assumes c u us (ap (λ t. letter_kind t 113) h) g)
consume_begun_kind (Text marked) end d c Fails k front h e = begun_mark (Text marked) end d Fails c k front (Mark 102) e
    (λ u us g. mark_read marked end d Fails c u us (ap (λ t. letter_kind t 102) h) g)
consume_begun_kind Binary end d c Adds k front h e = begun_mark Binary end d Adds c k front (Number 97) e (λ u us g. tag_read end d Adds c u us refl g)
consume_begun_kind Binary end d c Deletes k front h e = begun_mark Binary end d Deletes c k front (Number 100) e
    (λ u us g. tag_read end d Deletes c u us refl g)
consume_begun_kind Binary end d c Accepts k front h e = absurd cc
consume_begun_kind Binary end d c Assumes k front h e = absurd cc
consume_begun_kind Binary end d c Fails k front h e = absurd cc

consume_begun : (f : Encoding) (end : ℕ) (d : LineKind) (c : Clause) (begun : List Symbol) (front : List Token) → IsBegunLine f begun → symbols front ≡ begun →
    BegunConsumed f end d c front begun
consume_begun f end d c begun front (inl b) e =
    subst (λ x. BegunConsumed f end d c front x) (sym b) (record
    { place = at_place false d c; inside_is = refl; consumed = consumed_none f end (at_place false d c) front [] (e ∙ b) })
consume_begun f end d c begun front (inr b) e = subst (λ x. BegunConsumed f end d c front x) (sym b.1)
    (consume_begun_kind f end d c b.0.kind b.0.clause front b.2 (e ∙ b.1))

-- lines and the beginning of one
record AllConsumed (f : Encoding) (end : ℕ) (front : List Token) (lines : List ProofLine) (begun : List Symbol) : Type 0 where
  place : ParserState
  inside_is : place.inside ≡ is_some begun
  reads : (more : List Token) → read f end between (front ++ more) ≡ with_lines lines (read f end place more)

consume_all : (f : Encoding) (end : ℕ) (lines : List ProofLine) (begun : List Symbol) (front : List Token) → HasKinds f lines → IsBegunLine f begun →
    symbols front ≡ flat_map (line_symbols f) lines ++ begun → AllConsumed f end front lines begun
consume_all f end lines begun front h b e =
    let one = consume_lines f end lines Adds [] front begun h e in
    let two = consume_begun f end one.kind one.clause begun one.consumed.rest b one.consumed.says in
    record {
      place = two.place;
      inside_is = two.inside_is;
      reads = λ more. one.consumed.reads more ∙ ap (λ t. with_lines lines t)
          (two.consumed.reads more ∙ ap (λ x. read f end two.place (x ++ more)) (none_of two.consumed.rest two.consumed.says));
    }

one_event : (n : ℕ) → not (n == 1) ≡ false → number_event n ≡ Fault
one_event n e = ap number_event (eqb-true n 1 (not-false (n == 1) e))

-- a symbol that does not fit
record Unfit (f : Encoding) (i : Bool) (s : Symbol) : Type 0 where
  happens : event f i s ≡ Fault
  offset : (at end : ℕ) → fault_offset i s at end ≡ at

no_kind : (k : Option LineKind) → is_kind k ≡ false → begin_event k ≡ Fault
no_kind None e = refl
no_kind (Some kind) e = absurd cc

unfit : (f : Encoding) (i : Bool) (s : Symbol) → fits f i s ≡ false → Unfit f i s
unfit (Text marked) true (Mark b) e = record { happens = refl; offset = λ at end. refl }
unfit (Text marked) false (Mark b) e = record { happens = no_kind (letter_kind marked b) e; offset = λ at end. refl }
unfit (Text marked) i (Number n) e = record { happens = one_event n (inside i e); offset = λ at end. refl }
  where
    inside : (i : Bool) → fits (Text marked) i (Number n) ≡ false → not (n == 1) ≡ false
    inside true e = e
    inside false e = e
unfit Binary true (Mark b) e = record { happens = refl; offset = λ at end. refl }
unfit Binary false (Mark b) e = record { happens = refl; offset = λ at end. refl }
unfit Binary true (Number n) e = record { happens = one_event n e; offset = λ at end. refl }
unfit Binary false (Number n) e = record { happens = no_kind (tag_kind n) e; offset = λ at end. refl }
unfit (Text marked) true Cut e = absurd cc
unfit Binary true Cut e = absurd cc
unfit (Text marked) false Cut e = record { happens = refl; offset = λ at end. refl }
unfit Binary false Cut e = record { happens = refl; offset = λ at end. refl }
unfit (Text marked) i Bad e = record { happens = refl; offset = λ at end. refl }
unfit Binary i Bad e = record { happens = refl; offset = λ at end. refl }

abbrev parsing : List ProofLine → Option ℕ → Parsed
parsing lines fault = record { lines = lines; fault = fault }

parsed_accepted : (f : Encoding) (end : ℕ) (us : List Token) (lines : List ProofLine) → HasKinds f lines → symbols us ≡ flat_map (line_symbols f) lines →
    read f end between us ≡ parsing lines None
parsed_accepted f end us lines h e =
    let a = consume_all f end lines [] us h (inl refl) (e ∙ sym (append-nil (flat_map (line_symbols f) lines))) in
    ap (λ x. read f end between x) (sym (append-nil us)) ∙ a.reads [] ∙ ap (λ t. parsing (lines ++ []) (if t then Some end else None)) a.inside_is ∙
    ap (λ x. parsing x None) (append-nil lines)

parsed_wrong : (f : Encoding) (end : ℕ) (us : List Token) (lines : List ProofLine) (o : ℕ) → WrongToken f us lines o →
    read f end between us ≡ parsing lines (Some o)
parsed_wrong f end us lines o w =
    let a = consume_all f end lines w.begun w.front w.has_kinds w.is_begun w.says in
    let n = unfit f a.place.inside w.token.symbol (ap (λ t. fits f t w.token.symbol) a.inside_is ∙ w.wrong) in
    let line = line_at (moved f a.place w.token.symbol) in
    let rest = read f end (moved f a.place w.token.symbol) w.back in
    ap (λ x. read f end between x) w.tokens_are ∙ a.reads (w.token ∷ w.back)
    ∙ ap (λ ev. with_lines lines (put ev line (fault_offset a.place.inside w.token.symbol w.token.at end) rest)) n.happens
    ∙ ap (λ x. parsing (lines ++ []) (Some x)) (n.offset w.token.at end ∙ sym w.offset_is)
    ∙ ap (λ x. parsing x (Some o)) (append-nil lines)

cut_read : (f : Encoding) (end : ℕ) (p : ParserState) (back : List Token) → IsCutOff back → p.inside ≡ true → read f end p back ≡ parsing [] (Some end)
cut_read f end p [] c e = ap (λ t. parsing [] (if t then Some end else None)) e
cut_read f end p (u ∷ us) c e = ap (λ s. read_by f end p s u.at us) c ∙ cut f ∙ ap (λ t. parsing [] (Some (if t then end else u.at))) e
  where
    cut : (f : Encoding) → read_by f end p Cut u.at us ≡ parsing [] (Some (if p.inside then end else u.at))
    cut (Text marked) = refl
    cut Binary = refl

parsed_ends : (f : Encoding) (end : ℕ) (us : List Token) (lines : List ProofLine) → EndsInside f us lines → read f end between us ≡ parsing lines (Some end)
parsed_ends f end us lines w =
    let a = consume_all f end lines w.begun w.front w.has_kinds w.is_begun w.says in
    ap (λ x. read f end between x) w.tokens_are ∙ a.reads w.back ∙
    ap (λ t. with_lines lines t) (cut_read f end a.place w.back w.cut (a.inside_is ∙ w.some)) ∙ ap (λ x. parsing x (Some end)) (append-nil lines)

pub only_parsed : (f : Encoding) (bytes : List ℕ) (lines : List ProofLine) (fault : Option ℕ) → BytesMean f bytes lines fault →
    parsed f bytes ≡ parsing lines fault
only_parsed f bytes lines None h = parsed_is f bytes ∙ parsed_accepted f (end_of 0 bytes) (tokens f bytes) lines h.0 h.1
only_parsed f bytes lines (Some o) (inl w) = parsed_is f bytes ∙ parsed_wrong f (end_of 0 bytes) (tokens f bytes) lines o w
only_parsed f bytes lines (Some o) (inr w) = parsed_is f bytes ∙ parsed_ends f (end_of 0 bytes) (tokens f bytes) lines w.0 ∙
    ap (λ x. parsing lines (Some x)) (sym w.1)

same_so : (f : Encoding) (bytes : List ℕ) (lines : List ProofLine) (fault : Option ℕ) → Logs f (tokens f bytes) (end_of 0 bytes) lines fault →
    BytesMean f bytes lines fault
same_so f bytes lines None h = h
same_so f bytes lines (Some o) h = h

-- what is parsed is so
pub parsed_means : (f : Encoding) (bytes : List ℕ) → Means f bytes (parsed f bytes)
parsed_means f bytes =
    let t = read f (end_of 0 bytes) between (tokens f bytes) in
    subst (λ x. Means f bytes x) (sym (parsed_is f bytes)) (same_so f bytes t.lines t.fault (sound_parsed f (tokens f bytes) (end_of 0 bytes)))

-- and nothing else is
pub means_parsed : (f : Encoding) (bytes : List ℕ) (t : Parsed) → Means f bytes t → t ≡ parsed f bytes
means_parsed f bytes t h = sym (only_parsed f bytes t.lines t.fault h)
