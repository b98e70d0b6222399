use Rattle.std.proofs.Common.{◌≡◌, ◌+◌, ◌++◌, ◌∷◌, [], suc, Some, None, sym, ap, ap₂, ◌∙◌, refl, arith, rules}
use Rattle.std.proofs.lemmas.List.{append-nil}
use Rattle.varisat_theory.specs.promises.Literals.{Assignment, literal_of}
use Rattle.varisat_names.specs.promises.VarMap.{at}
use Rattle.varisat_names.proofs.Tables.{named-inside}
use Rattle.varisat_solver.specs.promises.Models.{put_name}
use Rattle.varisat_solver.specs.inside.Representations.{model_value, list_tables}
use Rattle.varisat_solver.proofs.calls.SolverCalls.{tables-push}
use Rattle.varisat_solver.proofs.solver.list_model.Goals.{in-Some+in_ok-push, in_default}
use Rattle.varisat_solver.proofs.solver.list_model.Goals as goal

pub is_true_in_model-requires : goal.is_true_in_model-requires
is_true_in_model-requires g c =
    let t = c.args.variables.now in
    let x = c.in-Some.global in
    let at-user : at t.users.forward c.from_index-user.result ≡ Some x =
    sym (c.in-Some.ensures ∙ ap (λ xs. at xs c.from_index-user.result) c.global_from_user.ensures) in
    named-inside t c.from_index-user.result x c.prove_linked.ensures at-user

pub loop-index-preserved : goal.loop-index-preserved
loop-index-preserved g c =
    let t = c.args.variables.now in
    let vs = c.args.values.now in
    let i = c.loop-index.index in
    let m : Assignment = model_value t vs in
    let one : i + 1 ≡ suc i = omega arith in
    let zero : 0 + i ≡ i = omega arith in
    let next = ap (list_tables t vs 0) one ∙ tables-push t vs m refl i 0 ∙ ap (λ n. list_tables t vs 0 i ++ put_name n (at t.users.forward n) m []) zero in
    let got : c.get.result ≡ at t.users.forward i = c.get.ensures ∙ ap (λ xs. at xs c.from_index-user.result) c.global_from_user.ensures
    ∙ ap (at t.users.forward) c.from_index-user.ensures in
    elim c.match-get.branch [
      | in-Some+in_ok-push w ↦
          let x = w.in-Some.global in
          let at-i : at t.users.forward i ≡ Some x = sym got ∙ w.in-Some.is in
          ap (λ l. l.items) w.list-is ∙ w.in_ok-push.ensures.items ∙ ap₂ (λ xs y. xs ++ y ∷ []) c.loop-index.invariant
          (w.lit.ensures ∙ ap₂ literal_of c.from_index-user.ensures w.is_true_in_model.ensures) ∙ ap (λ o. list_tables t vs 0 i ++ put_name i o m []) (sym at-i) ∙ sym next
      | in_default w ↦
          let n : at t.users.forward i ≡ None = sym got ∙ w.in_default.is in
          ap (λ l. l.items) w.list-is ∙ c.loop-index.invariant ∙ sym (append-nil (list_tables t vs 0 i))
          ∙ ap (λ o. list_tables t vs 0 i ++ put_name i o m []) (sym n) ∙ sym next
    ]

pub loop-index-init : goal.loop-index-init
loop-index-init g c = search rules
