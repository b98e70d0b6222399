-- Texts that are read with a call of a function for each piece.
use Rattle.std.proofs.Common.{◌≡◌, ℕ, List, ◌⊎◌, [], ◌∷◌, ◌++◌, inl, inr, Bool, true, false, None, Some, Result, Ok, Err, refl, sym, ap, subst, ◌∙◌}
use Rattle.std.specs.List.{FoldsTo}
use Rattle.std.proofs.lemmas.Fn.{FoldsTo-push}
use Rattle.varisat_formula.specs.declared.dimacs.error.DimacsError.{DimacsError}
use Rattle.varisat_formula.specs.declared.dimacs.error.DimacsErrorKind.TheVariants.{OutOfMemory}
use Rattle.varisat_formula.specs.promises.Dimacs.{Reading, Ends, GoesOn, BreaksOff}
use Rattle.varisat_formula.specs.promises.Rest.{Progress, begin, dimacs_from, AdvancesBy, IsEnding, fault_of}
use Rattle.varisat_formula.proofs.ParserMemory.{kept_by}
use Rattle.varisat_formula.proofs.ParserProgress.{over_gives, breaks_off}
use Rattle.varisat_formula.specs.promises.Streams.{Input}
use Rattle.varisat_formula.specs.promises.Parsed.{ParseState, Calling, TakesPiece, GivesReading, Turn, Turns, TakesEnd, Finishes, Takes, HasFault, IsRefused, Refuses}
use Rattle.varisat_formula.proofs.ParsedSources.{ReadSo, read_nothing, read_more, piece_told, text_broken, text_ended}

-- the end of a text that was read, without a fault
end_whole : (p q : Progress) → p.reading.fault ≡ None → q.reading.fault ≡ None → IsEnding p q → q.reading ≡ dimacs_from p []
end_whole p q h f (inl e) = e
end_whole p q h f (inr o) = by_over p.over refl
  where
    no_fault : {e : DimacsError} → None ≡ Some e → ⊥
    no_fault d = cc

    by_over : (t : Bool) → p.over ≡ t → q.reading ≡ dimacs_from p []
    by_over true d = absurd (o.wants.more (over_gives GoesOn p (32 ∷ []) d ∙ sym (over_gives GoesOn p [] d)))
    by_over false d = absurd (no_fault (sym f ∙ ap (λ z. z.fault) (o.reading ∙ breaks_off OutOfMemory p d h)))

-- the end is that of where the reader was before it took nothing
ends_before : (p m q : Progress) → AdvancesBy p [] m → IsEnding m q → IsEnding p q
ends_before p m q z (inl e) = inl (e ∙ z.same Ends [])
ends_before p m q z (inr o) = inr (record {
  reading = o.reading ∙ z.same (BreaksOff OutOfMemory) [];
  wants = kept_by _ _ _ _ (sym (z.same GoesOn [])) (sym (z.same GoesOn (32 ∷ []))) o.wants;
})

advances_back : (p m : Progress) → AdvancesBy p [] m → AdvancesBy m [] p
advances_back p m z = record { same = λ ending rest. sym (z.same ending rest) }

module _ {F P E : Type 0} (by : Calling F P E) where
  -- the function always returns Ok, and leaves the reader as far as it has come
  abbrev pub IsIdle : Type 0
  IsIdle = (f g : F) (p q : P) (r : Result (Unit {0}) E) → by.calls f p r g q → (r ≡ Ok tt) × (by.progress q ≡ by.progress p)

  read_in_turns : (source : Input) (pieces : List (List ℕ)) (a b : ParseState F P) → IsIdle → ReadSo source a.source (by.progress a.reader) [] →
      FoldsTo (Turn by) a pieces b → ReadSo source b.source (by.progress b.reader) []
  read_in_turns source [] a b idle w e = subst (λ (x : ParseState F P). ReadSo source x.source (by.progress x.reader) []) e w
  read_in_turns source (piece ∷ pieces) a b idle w (m, k, rest) =
      read_in_turns source pieces m b idle
      (subst (λ x. ReadSo source m.source x []) (sym (idle _ _ _ _ _ k.calls).1)
      (read_more source a.source m.source (by.progress a.reader) (by.progress k.read) [] true (Ok true) w k.takes refl)) rest

  read_by : (source : Input) (f : F) (now : ParseState F P) → IsIdle → Turns by source f now → ReadSo source now.source (by.progress now.reader) []
  read_by source f now idle w =
      read_in_turns source w.pieces (record { source = source; reader = w.start; function = f }) now idle
      (read_nothing source (by.progress w.start) w.begins) w.turns

  end_read : (source : Input) (s : ParseState F P) (r : Result (Unit {0}) DimacsError) (t : Input) (read : P) →
      ReadSo source s.source (by.progress s.reader) [] → TakesEnd by s r t read → GivesReading source (by.progress read).reading t
  end_read source s r t read w k =
      let m : Progress = by.progress k.behind in
      let z : AdvancesBy (by.progress s.reader) [] m = subst (λ x. AdvancesBy (by.progress s.reader) x m) (k.takes.ends refl).0 (k.takes.good false refl).0 in
      text_ended source t m (by.progress read) [] (read_more source s.source t (by.progress s.reader) m [] false (Ok false) w k.takes refl)
      (k.takes.ends refl).1 (ends_before m (by.progress s.reader) (by.progress read) (advances_back (by.progress s.reader) m z) k.reads)

  pub finishes_read : (source after : Input) (f : F) (reader : P) → IsIdle → Finishes by source f after reader →
      GivesReading source (by.progress reader).reading after × ((by.progress reader).reading.fault ≡ None)
  finishes_read source after f reader idle w =
      let e = (idle _ _ _ _ _ w.calls).1 in (
        subst (λ x. GivesReading source x.reading after) (sym e)
            (end_read source w.last (Ok tt) after w.read (read_by source f w.last idle w.turns) w.ends),
        ap (λ x. x.reading.fault) e ∙ sym w.ends.answer,
      )

  pub refuses_read : (source after : Input) (f : F) (e : E) → IsIdle → Refuses by source f after e →
      (d : DimacsError) × by.made d e × (reading : Reading) × GivesReading source reading after × (reading.fault ≡ Some d)
  refuses_read source after f e idle w = why w.why
    where
      so : ReadSo source w.last.source (by.progress w.last.reader) []
      so = read_by source f w.last idle w.turns

      fault_in : (d : DimacsError) (read : P) → Takes by w.last (Err d) after read →
          (reading : Reading) × GivesReading source reading after × (reading.fault ≡ Some d)
      fault_in d read (inl k) = (
        (by.progress read).reading,
        text_broken source w.last.source after (by.progress w.last.reader) (by.progress read) [] d (Err d) so k refl,
        piece_told source w.last.source after (by.progress w.last.reader) (by.progress read) [] d (Err d) so k refl,
      )
      fault_in d read (inr k) = ((by.progress read).reading, end_read source w.last (Err d) after read so k, sym k.answer)

      why : HasFault by w.last after e ⊎ IsRefused by w.last after e →
          (d : DimacsError) × by.made d e × (reading : Reading) × GivesReading source reading after × (reading.fault ≡ Some d)
      why (inl h) = let (reading, g, n) = fault_in h.fault h.read h.takes in (h.fault, h.made, reading, g, n)
      why (inr h) = absurd (let x : Err e ≡ Ok tt = (idle _ _ _ _ _ h.calls).0 in cc)

  pub turns_none : (source : Input) (f : F) (reader : P) → by.progress reader ≡ begin →
      Turns by source f (record { source = source; reader = reader; function = f })
  turns_none source f reader e = record { start = reader; begins = e; pieces = []; turns = refl }

  pub turns_more : (source : Input) (f : F) (now next : Input) (p m q : P) (g h : F) (more : Bool) (r : Result Bool DimacsError) →
      Turns by source f (record { source = now; reader = p; function = g }) →
      TakesPiece now (by.progress p) r next (by.progress m) → r ≡ Ok more → more ≡ true → by.calls g m (Ok tt) h q →
      Turns by source f (record { source = next; reader = q; function = h })
  turns_more source f now next p m q g h more r w k e d c =
      let x : TakesPiece now (by.progress p) (Ok true) next (by.progress m) =
      subst (λ y. TakesPiece now (by.progress p) y next (by.progress m)) (e ∙ ap Ok d) k in
      record {
        start = w.start;
        begins = w.begins;
        pieces = w.pieces ++ x.piece ∷ [];
        turns = FoldsTo-push (Turn by) _ w.pieces _ x.piece _ w.turns (record { read = m; takes = x; piece_is = refl; calls = c });
      }

  pub ends_text : (now after : Input) (p m q : P) (g : F) (more : Bool) (r : Result Bool DimacsError) (a : Result (Unit {0}) DimacsError) →
      TakesPiece now (by.progress p) r after (by.progress m) → r ≡ Ok more → more ≡ false →
      IsEnding (by.progress m) (by.progress q) → fault_of a ≡ (by.progress q).reading.fault → (by.progress q).over ≡ true →
      TakesEnd by (record { source = now; reader = p; function = g }) a after q
  ends_text now after p m q g more r a k e d b n o =
      let x : TakesPiece now (by.progress p) (Ok false) after (by.progress m) =
      subst (λ y. TakesPiece now (by.progress p) y after (by.progress m)) (e ∙ ap Ok d) k in
      record {
        behind = m;
        takes = x;
        reads = ends_before (by.progress p) (by.progress m) (by.progress q)
            (subst (λ t. AdvancesBy (by.progress p) t (by.progress m)) (x.ends refl).0 (x.good false refl).0) b;
        answer = n;
        over = o;
      }

  pub finishes : (source : Input) (f : F) (now after : Input) (p q s : P) (g h : F) → Turns by source f (record { source = now; reader = p; function = g }) →
      TakesEnd by (record { source = now; reader = p; function = g }) (Ok tt) after q → by.calls g q (Ok tt) h s → Finishes by source f after s
  finishes source f now after p q s g h w k c =
      let m : Progress = by.progress k.behind in
      let z : AdvancesBy (by.progress p) [] m = subst (λ t. AdvancesBy (by.progress p) t m) (k.takes.ends refl).0 (k.takes.good false refl).0 in
      record {
        last = record { source = now; reader = p; function = g };
        turns = w;
        read = q;
        ends = k;
        whole = end_whole m (by.progress q) (k.takes.good false refl).1 (sym k.answer)
            (ends_before m (by.progress p) (by.progress q) (advances_back (by.progress p) m z) k.reads) ∙ z.same Ends [];
        function = h;
        calls = c;
      }

  pub has_fault : (source : Input) (f : F) (now next : Input) (p m : P) (g : F) (d : DimacsError) (r : Result Bool DimacsError) (e : E) →
      Turns by source f (record { source = now; reader = p; function = g }) →
      TakesPiece now (by.progress p) r next (by.progress m) → r ≡ Err d → by.made d e → Refuses by source f next e
  has_fault source f now next p m g d r e w k h c = record {
    last = record { source = now; reader = p; function = g };
    turns = w;
    why = inl (record { fault = d; read = m; takes = inl (subst (λ y. TakesPiece now (by.progress p) y next (by.progress m)) h k); made = c });
  }

  pub end_has_fault : (source : Input) (f : F) (now after : Input) (p q : P) (g : F) (d : DimacsError) (e : E) →
      Turns by source f (record { source = now; reader = p; function = g }) →
      TakesEnd by (record { source = now; reader = p; function = g }) (Err d) after q → by.made d e → Refuses by source f after e
  end_has_fault source f now after p q g d e w k c = record {
    last = record { source = now; reader = p; function = g };
    turns = w;
    why = inl (record { fault = d; read = q; takes = inr k; made = c });
  }

  pub is_refused : (source : Input) (f : F) (now next : Input) (p m q : P) (g h : F) (more : Bool) (r : Result Bool DimacsError) (e : E) →
      Turns by source f (record { source = now; reader = p; function = g }) →
      TakesPiece now (by.progress p) r next (by.progress m) → r ≡ Ok more → more ≡ true → by.calls g m (Err e) h q → Refuses by source f next e
  is_refused source f now next p m q g h more r e w k b d c = record {
    last = record { source = now; reader = p; function = g };
    turns = w;
    why = inr (record {
      read = m;
      takes = inl (subst (λ y. TakesPiece now (by.progress p) y next (by.progress m)) (b ∙ ap Ok d) k);
      function =
          h;
      reader = q;
      calls = c;
    });
  }

  pub end_is_refused : (source : Input) (f : F) (now after : Input) (p q s : P) (g h : F) (e : E) →
      Turns by source f (record { source = now; reader = p; function = g }) →
      TakesEnd by (record { source = now; reader = p; function = g }) (Ok tt) after q → by.calls g q (Err e) h s → Refuses by source f after e
  end_is_refused source f now after p q s g h e w k c = record {
    last = record { source = now; reader = p; function = g };
    turns = w;
    why = inr (record { read = q; takes = inr k; function = h; reader = s; calls = c });
  }
