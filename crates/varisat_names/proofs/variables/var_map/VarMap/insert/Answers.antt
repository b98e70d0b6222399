use Rattle.std.proofs.Common.{Some, ◌+◌, max, sym, ap, ◌∙◌, arith}
use Rattle.varisat_names.specs.promises.VarMap.{at}
use Rattle.varisat_names.specs.inside.Entries.{entry}
use Rattle.varisat_names.proofs.Entries.{at-entries, same-ends, same-entries, put-ends, put-entries, own-same, own-put, on-refused}
use Rattle.varisat_names.proofs.variables.var_map.VarMap.insert.Goals as goal

pub put_entry-requires : goal.put_entry-requires
put_entry-requires g c =
    sym (at-entries (entry c.self.inside.own c.self.inside.codes) c.self.inside.watermark c.self.invariant.0 c.args.from)
    ∙ ap (λ m. at m c.args.from) c.self.view_is ∙ c.requires

pub invariant_of-self : goal.invariant_of-self
invariant_of-self g c =
    let e = entry c.self.inside.own c.self.inside.codes in
    let f = entry c.put_entry.new.own c.put_entry.new.codes in
    let stay = c.in_err-put_entry.ensures.refused in
    (same-ends e f c.self.inside.watermark c.self.invariant.0 stay, own-same e f c.self.inside.same c.self.invariant.1 stay)

pub returns-in_err-put_entry-clause-refused : goal.returns-in_err-put_entry-clause-refused
returns-in_err-put_entry-clause-refused g c = on-refused c.from_residual.result
    (same-entries (entry c.self.inside.own c.self.inside.codes) (entry c.put_entry.new.own c.put_entry.new.codes) c.self.inside.watermark
    c.in_err-put_entry.ensures.refused ∙ c.self.view_is)

pub invariant_of-self-2 : goal.invariant_of-self-2
invariant_of-self-2 g c =
    let w = c.self.inside.watermark in
    let e = entry c.self.inside.own c.self.inside.codes in
    let f = entry c.put_entry.new.own c.put_entry.new.codes in
    let is = c.index.ensures.index in
    let small = c.index.ensures.small in
    let put = c.in_ok-put_entry.ensures.put in
    let free = sym (at-entries e w c.self.invariant.0 c.args.from) ∙ ap (λ m. at m c.args.from) c.self.view_is ∙ c.requires in (
      put-ends e f w c.max-self-inside.result c.args.from (Some c.args.into) c.self.invariant.0
          (c.max-self-inside.ensures ∙ ap (λ n. max w (n + 1)) is) (omega (arith, is, small)) put,
      own-put e f c.self.inside.same c.same_with-self-inside.result c.args.from c.args.into c.self.invariant.1 free put
          c.same_with-self-inside.ensures,
    )

pub returns-clause-put : goal.returns-clause-put
returns-clause-put g c =
    let w = c.self.inside.watermark in
    put-entries (entry c.self.inside.own c.self.inside.codes) (entry c.put_entry.new.own c.put_entry.new.codes) w c.max-self-inside.result
    c.args.from (Some c.args.into) c.args.self.now c.self.view_is c.self.invariant.0 (invariant_of-self-2 g c).0
    (c.max-self-inside.ensures ∙ ap (λ n. max w (n + 1)) c.index.ensures.index) c.in_ok-put_entry.ensures.put
