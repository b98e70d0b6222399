use Rattle.std.proofs.Common.{◌∷◌, [], ℕ, arith}
use Rattle.varisat_prop.proofs.pairs.ShortLists.{short_few}
use Rattle.varisat_prop.proofs.short.ShortList.new_in.Goals as goal

pub returns : goal.returns
returns g c =
    let l : ℕ = c.from_code-none.result in
    short_few 3 (l ∷ l ∷ l ∷ []) c.new.result.items 0 (omega arith)
