-- `into_slot` keeps the pointer, with what the handle owns.
use Rattle.std.specs.Prelude.{Option}
use Rattle.std.proofs.Common.{◌≡◌, List, [], ◌∷◌, ◌++◌, refl, sym, subst}
use mir.Val.{Val}
use base.Logic.{SProp, ent, emp, id⊢}
use prog.Wp.{WpFn}
use types.Kit.{‵, raw, ◌⊛◌, ◌$◌, ◌∵◌, !, qed, by, move, keep, split, fsplit, fjoin, suffices, use0}
use types.Run.{stop, fld, of_opd, no_more, and_then, returns, enter}
use types.ByLocal.{alloc_all, pass_all, free_all, look_at, get, get_in, sets}
use types.Part.{agg, sub, whole}
use contract.Monad.{fact, fact_i}
use contract.Running.{tables}
use denote.Exit.{yes}
use denote.RattleType.{RattleType, owns}
use denote.Signature.{types_at, plain}
use denote.RawPtr.{ptr_val}
use denote.Steps.{nothing}
use denote.Triple.Entry.{alive}
use denote.Triple.Walked.{Stays, stay_dropped, walk_of}
use Rattle.core.proofs.alloc.Calls.{Al, Goes-blank, handle_tells}
use Rattle.core.proofs.atomic.Steps.{Ptr-Good}
use Rattle.std.proofs.raw_atomic.Walks.{proved_at, leaves}
use Rattle.std_heap.specs.contracts.Global as heap
use Rattle.std_heap.specs.contracts.GlobalAllocator.TheImpl as impl
use Rattle.std_heap.proofs.Global.TheLaws as heap_laws
use mir.Syntax.{impl as no_impl, tnil, dnil}
use Rattle.varisat_calls.specs.Simplifiers.{Simplifier}
use Rattle.varisat_c.specs.SimplifierHandles.{simplifier_row}
use Rattle.varisat_c.specs.contracts.simplifier_handle.SimplifierHandle as handle
use Rattle.varisat_c.proofs.SlotWords.{both, slot_good, slot_in}
use Rattle.varisat_c.proofs.SimplifierHandleWords.{word, handle_out}
use Rattle.varisat_c.specs.contracts.simplifier_handle.SimplifierHandle.into_slot.{ended, clauses}
use Rattle.varisat_c.specs.contracts.simplifier_handle.SimplifierHandle.into_slot.Key.{name as #self}
use Rattle.varisat_c.proofs.simplifier_handle.SimplifierHandle.into_slot.Statement.{statement}
use Rattle.varisat_c.proofs.simplifier_handle.SimplifierHandle.into_slot.Code as code
use Rattle.varisat_c.proofs.HandleWords.{word_good}

pub into_slot_spec : {M : Type 1} → statement M
into_slot_spec 𝓤 𝓛 𝓜 𝓡 wired =
    let H = 𝓛.H in let 𝓣 = tables 𝓤 H 𝓜 𝓡 𝓡.env in let R : RattleType = simplifier_row in let Z : RattleType = heap.the_row in let LZ = heap_laws.the_row_laws in let g = impl.ghosts in
    let al : Al = record { row = Z; laws = LZ; g = g; d = no_impl [] tnil dnil; drops = no_impl [] tnil dnil } in
    let En = ended in let c = clauses 𝓛 𝓜.mem 𝓡.returns in let fn = code.function in
    let hs : Stays En.signature.params En.kept = (stay_dropped (plain (λ _. handle.the_row)) yes, (stay_dropped (plain (λ _. Z)) yes, tt)) in
    proved_at 𝓛 En hs c 𝓜 𝓡 (Goes-blank 𝓛 0 (plain (λ _. handle.the_row)) yes (λ κs x f. tt), (Goes-blank 𝓛 0 (plain (λ _. Z)) yes (λ κs x f. tt), tt)) #self fn (code.unfolded 𝓤 H 𝓜 𝓡 wired) (λ z are.
    let κs = z.0.0 in let qs = z.0.1 in let v = z.0.3.0 in let a = z.0.3.1.0 in let Post : Val → SProp 𝓤 = (walk_of 𝓛 En hs c).post z in let Run : List Val → SProp 𝓤 = λ ws. WpFn 𝓤 H 𝓣.C 𝓣.Λ fn ws Post in
    qed 𝓛 ((raw (alive 𝓛 En.signature κs qs) ⊛ ‵ (owns (types_at En.signature.params κs) z.0.3 z.0.4)) ∷ raw ((c κs z.0.3).requires z.1) ∷ []) ∵
    split ! $ move ! (1 ∷ []) $ fsplit ! $ handle_out ! v z.0.4.0 (λ us. move ! (1 ∷ []) $ fsplit ! $ handle_tells al ! a z.0.4.1.0 (λ h ws fits.
    -- [the allocator; nothing; what the handle owns; the tokens]
    let w : Val = word v.at in let made = slot_good R Z LZ g v.at h fits in let Same : Option Simplifier → Type 0 = λ o. o ≡ o in
    suffices ! (Run (w ∷ h ∷ [])) (subst (λ (xs : List Val). ent 𝓤 (Run (w ∷ h ∷ [])) (Run xs)) (sym (λ i. us i ++ (ws i ++ []))) (id⊢ 𝓤 (Run (w ∷ h ∷ [])))) $
    enter ! 𝓣.C 𝓣.Λ fn (w ∷ h ∷ []) Post $ alloc_all ! (λ l. pass_all ! refl (word_good v.at, (fits, tt)) $
    sets ! (of_opd ! (get_in ! (fld ! refl (stop !)) (sub ! 0 refl (whole !)))) refl (Ptr-Good v.at) $ sets ! (of_opd ! (get ! refl)) refl (Ptr-Good v.at) $
    sets ! (agg ! (and_then ! (get ! refl) (and_then ! (get ! refl) (no_more !)))) refl made $ move ! (2 ∷ 0 ∷ []) $ slot_in R Z LZ g ! v.at h a v.held $
    use0 𝓛 (raw (fact 𝓤 (Same v.held))) (fact_i 𝓤 (Same v.held) (emp 𝓤) refl) $ nothing ! $ nothing ! $ fjoin ! $ nothing ! $ fjoin ! $
    -- [what is left of both; the fact; the slot; nothing; the tokens]
    returns ! (look_at ! 0 refl) $ free_all ! refl $ keep ! (4 ∷ 0 ∷ 2 ∷ 1 ∷ []) $ by ! (leaves 𝓛 En hs c z (both (ptr_val v.at) h) (record { at = v.at; alloc = a; held = v.held }) (_, (_, tt)) (tt, (tt, tt)))))))
